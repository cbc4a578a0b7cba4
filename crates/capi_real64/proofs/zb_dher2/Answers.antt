-- The kernel's outcome where the flags are in range, else the refusal (Laws: called, refused).
use Rattle.capi_flags.proofs.Laws.{called, refused, view-is}
use Rattle.capi_real64.proofs.zb_dher2.Goals as goal

pub returns-in-Ok : goal.returns-in-Ok
returns-in-Ok c =
    let f = c.in-Ok.ensures in
    let vx = view-is c.ranges.xrs c.ranges.xcs c.new-vx.ensures in
    let vy = view-is c.ranges.yrs c.ranges.ycs c.new-vy.ensures in
    let va = view-is c.ranges.ars c.ranges.acs c.new-va.ensures in
    called _ _ f.0 (rw (f.1, vx, vy, va) at c.her2.ensures) c.from.ensures

pub returns-in-Err : goal.returns-in-Err
returns-in-Err c =
    let vx = view-is c.ranges.xrs c.ranges.xcs c.new-vx.ensures in
    let vy = view-is c.ranges.yrs c.ranges.ycs c.new-vy.ensures in
    let va = view-is c.ranges.ars c.ranges.acs c.new-va.ensures in
    refused _ c.in-Err.ensures.0 (rw (vx, vy, va) at c.judge3.ensures) c.from-in-Err.ensures
