-- The kernel's outcome where the flags are in range, else the refusal (Laws: called, refused).
use Rattle.std.proofs.Common.{ap}
use Rattle.capi_flags.proofs.Laws.{called, refused, view-is}
use Rattle.capi_real32.proofs.zb_ssymm.Goals as goal

pub returns-in-Ok : goal.returns-in-Ok
returns-in-Ok c =
    let f = c.in-Ok.ensures in
    let va = view-is c.ranges.ars c.ranges.acs c.new-va.ensures in
    let vb = view-is c.ranges.brs c.ranges.bcs c.new-vb.ensures in
    let vc = view-is c.ranges.crs c.ranges.ccs c.new-vc.ensures in
    called _ _ f.0 (rw (ap (λ t. t.0) f.1, ap (λ t. t.1) f.1, va, vb, vc) at c.symm.ensures) c.from.ensures

pub returns-in-Err : goal.returns-in-Err
returns-in-Err c =
    let va = view-is c.ranges.ars c.ranges.acs c.new-va.ensures in
    let vb = view-is c.ranges.brs c.ranges.bcs c.new-vb.ensures in
    let vc = view-is c.ranges.crs c.ranges.ccs c.new-vc.ensures in
    refused _ c.in-Err.ensures (rw (va, vb, vc) at c.judge3.ensures) c.from-in-Err.ensures
