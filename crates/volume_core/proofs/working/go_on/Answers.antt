use Rattle.std.proofs.Common.{ap, refl, ◌∙◌}
use Rattle.volume_core.specs.Turns.{ends, finds_broken, leaves, steps, stops, takes, waits}
use Rattle.volume_core.proofs.working.go_on.Goals as goal
use Rattle.hotzone.specs.ZoneEvents.Promises.{breaks}

pub returns-then-broken : goal.returns-then-broken
returns-then-broken g c =
    finds_broken c.if-broken.true refl (record {
      left = c.leave.ensures.left;
      room = c.leave.ensures.room;
      map_is = refl;
    }) c.if-broken.true refl

pub returns-in-Ends : goal.returns-in-Ends
returns-in-Ends g c = ends c.if-broken.false c.renew.ensures c.in-Ends.ensures refl

pub returns-in-Takes : goal.returns-in-Takes
returns-in-Takes g c =
    takes c.in-Takes.range _ c.if-broken.false c.renew.ensures
    (rw c.as_slice.ensures.value at c.in-Takes.ensures) (record {
      entered = c.take.ensures.entered;
      stands = c.take.ensures.stands;
      becomes = rw c.write_of-ask.ensures at c.take.ensures.lane;
      room = c.take.ensures.room;
      map_is = refl;
      broken_is = refl;
      rests = refl;
    })

pub returns-in-Leaves : goal.returns-in-Leaves
returns-in-Leaves g c =
    leaves c.if-broken.false c.renew.ensures (rw c.as_slice.ensures.value at c.in-Leaves.ensures)
    (record {
      left = c.leave-in-Leaves.ensures.left;
      room = c.leave-in-Leaves.ensures.room;
      map_is = refl;
    }) c.if-broken.false refl

pub returns-in-Waits : goal.returns-in-Waits
returns-in-Waits g c =
    waits c.in-Waits.other c.if-broken.false c.renew.ensures
    (rw c.as_slice.ensures.value at c.in-Waits.ensures) refl

pub returns-in-Ok : goal.returns-in-Ok
returns-in-Ok g c =
    steps c.renew.new.zone c.in-Ok.field-0 c.if-broken.false c.renew.ensures
    (rw c.as_slice.ensures.value at c.in-Goes.ensures) c.in-Ok.ensures.steps (record {
      runs = c.in-Ok.ensures.went;
      sizes = c.in-Ok.ensures.sizes;
      map_is = c.map.ensures;
      table_is = refl;
      lanes_are = refl;
      broken_is = refl;
    })

pub returns-in-Err : goal.returns-in-Err
returns-in-Err g c =
    stops c.renew.new.zone c.in-Err.fault c.if-broken.false c.renew.ensures
    (rw c.as_slice.ensures.value at c.in-Goes.ensures) c.in-Err.ensures.steps
    c.in-Err.ensures.sizes (record {
      left = c.leave-in-Err.ensures.left;
      room = c.leave-in-Err.ensures.room;
      map_is = refl;
    }) (c.is_breaking.ensures ∙ ap (λ h. breaks h) c.halted.ensures)
