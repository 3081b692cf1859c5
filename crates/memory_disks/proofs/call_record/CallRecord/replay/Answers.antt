use Rattle.std.proofs.Common.{◌<◌, ◌≤◌, length}
use Rattle.memory_disks.specs.Calls.{table_after}
use Rattle.memory_disks.proofs.ReplayLemmas.{replay_step, replay_end, noted_step}
use Rattle.memory_disks.proofs.call_record.CallRecord.replay.Goals as goal

pub split_at-requires : goal.split_at-requires
split_at-requires c =
    let within : c.loop-note.note-index < length c.self.inside.notes.items =
    rw c.deref-note-items.ensures.value at c.loop-note-test.true in
    rw c.deref-note-items.ensures.value ((noted_step _ _ _ _ within c.loop-note.invariant.enough).0)

pub loop-note-preserved : goal.loop-note-preserved
unfolding table_after
loop-note-preserved c =
    let within : c.loop-note.note-index < length c.self.inside.notes.items =
    rw c.deref-note-items.ensures.value at c.loop-note-test.true in
    record {
      left = rw (
        c.in_ok-apply.ensures,
        c.split_at.ensures.front,
        c.split_at.ensures.back,
        c.deref-note-items.ensures.value,
      )
          (replay_step _ _ _ _ _ _ _ within c.loop-note.invariant.left);
      enough = rw (c.split_at.ensures.back, c.deref-note-items.ensures.value)
          ((noted_step _ _ _ _ within c.loop-note.invariant.enough).1);
    }

pub returns : goal.returns
returns c =
    let past : length c.self.inside.notes.items ≤ c.loop-note.note-index =
    rw c.deref-note-items.ensures.value at c.loop-note-test.false in
    rw (← c.self.view_is) (replay_end _ _ _ _ _ _ past c.loop-note.invariant.left)
