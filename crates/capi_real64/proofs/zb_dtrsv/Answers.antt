-- The kernel's outcome where the flags are in range, else the refusal (Laws: called, refused).
use Rattle.std.proofs.Common.{ap}
use Rattle.capi_flags.proofs.Laws.{called, refused, view-is}
use Rattle.capi_real64.proofs.zb_dtrsv.Goals as goal

pub returns-in-Ok : goal.returns-in-Ok
returns-in-Ok c =
    let f = c.in-Ok.ensures in
    let va = view-is c.ranges.ars c.ranges.acs c.new-va.ensures in
    let vx = view-is c.ranges.xrs c.ranges.xcs c.new-vx.ensures in
    called _ _ f.0 (rw (ap (λ t. t.0) f.1, ap (λ t. t.1) f.1, ap (λ t. t.2) f.1, va, vx) at c.trsv.ensures) c.from.ensures

pub returns-in-Err : goal.returns-in-Err
returns-in-Err c =
    let va = view-is c.ranges.ars c.ranges.acs c.new-va.ensures in
    let vx = view-is c.ranges.xrs c.ranges.xcs c.new-vx.ensures in
    refused _ c.in-Err.ensures (rw (va, vx) at c.judge2.ensures) c.from-in-Err.ensures
