use Rattle.std.proofs.Common.{refl, arith}
use Rattle.memory_disks.proofs.CallLemmas.{calls_of-push, HasRoom-note, room_for_log}
use Rattle.memory_disks.proofs.call_record.CallRecord.note.Goals as goal

pub unreachable-requires-in_default-extend_from_slice :
    goal.unreachable-requires-in_default-extend_from_slice
unreachable-requires-in_default-extend_from_slice c =
    let some = rw (← c.self.view_is) at c.requires.some in
    let whole = rw (← c.self.view_is) at c.requires.whole in
    let room = rw (← c.self.view_is) at c.requires.room in
    let fits = room_for_log _ _ _ _ _ _ _ c.args.body.now c.self.invariant some whole room in
    omega (arith, fits, c.in_default-extend_from_slice.ensures.full)

pub invariant_of-self : goal.invariant_of-self
invariant_of-self c =
    let some = rw (← c.self.view_is) at c.requires.some in
    let whole = rw (← c.self.view_is) at c.requires.whole in
    let room = rw (← c.self.view_is) at c.requires.room in
    rw (c.in-Ok.ensures.items, c.in-Ok-extend_from_slice.ensures.items)
    (HasRoom-note _ _ _ _ _ _ _ _ _ _ c.args.body.now c.self.invariant some whole room refl
    c.in-Ok.ensures.capacity c.in-Ok-extend_from_slice.ensures.capacity)

pub returns-clause-calls : goal.returns-clause-calls
returns-clause-calls c =
    rw (c.in-Ok.ensures.items, c.in-Ok-extend_from_slice.ensures.items, ← c.self.view_is)
    (calls_of-push _ _ _ c.args.body.now c.self.invariant.logged refl)
