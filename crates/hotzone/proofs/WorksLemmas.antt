-- What holds between two steps holds behind each, also behind one that failed or wasn't made.
use Rattle.std.proofs.Common.{◌≡◌, ◌≢◌, ℕ, ◌+◌}
use Rattle.std.proofs.Common.{Option, Some}
use Rattle.std.proofs.Common.{sym, subst}
use Rattle.hotzone.specs.Steps.{Goes, IsStopped, Stops}
use Rattle.hotzone.specs.Steps.{ended_by, moved_by, opened_by}
use Rattle.hotzone.specs.Steps.{begins, reads_first, saves_first, reads, saves, keeps, opens, opened}
use Rattle.hotzone.specs.Steps.{reads_again, writes, settles, moves, ends, finishes, finishes_on}
use Rattle.hotzone.specs.Steps.{finished, wipes, rests, refuses, begin_fails, read_first_fails}
use Rattle.hotzone.specs.Steps.{save_first_fails, read_fails, save_fails, keep_fails, open_fails}
use Rattle.hotzone.specs.Steps.{clashes_first, clashes}
use Rattle.hotzone.specs.Steps.{read_again_fails, write_fails, settle_fails, move_fails}
use Rattle.hotzone.specs.Steps.{finish_refuses, finish_fails, end_fails, wipe_fails, rest_fails}
use Rattle.hotzone.specs.Workers.{IsWorking, MayGoFrom, Needs}
use Rattle.hotzone.specs.declared.worker.Halt.{Halt}
use Rattle.hotzone.specs.declared.worker.NextCall.{NextCall}
use Rattle.hotzone.specs.declared.worker.NextCall.TheVariants.{Begin, ReadFirst, SaveFirst, Read}
use Rattle.hotzone.specs.declared.worker.NextCall.TheVariants.{Save, Keep, Open, ReadAgain, Write}
use Rattle.hotzone.specs.declared.worker.NextCall.TheVariants.{Settle, Move, Finish, End, Wipe, Rest}
use Rattle.hotzone.specs.declared.worker.NextCall.TheVariants.{Over}
use Rattle.hotzone.specs.declared.worker.Stepped.{Stepped}
use Rattle.hotzone.specs.declared.worker.Worker.{Worker}
use Rattle.hotzone.specs.declared.worker.ZoneFault.{ZoneFault}
use Rattle.hotzone.proofs.GuardLemmas.{first-start}
use Rattle.hotzone.proofs.HeadingLemmas.{moved-on, open-on}
use Rattle.hotzone.proofs.WorkingLemmas.{ending-on, halted-as, known-atom, needs-open, needs-save}
use Rattle.hotzone.proofs.WorkingLemmas.{needs-wipe, needs-write, not-ended, works-behind, works-next}
use Rattle.hotzone.proofs.WorkingLemmas.{works-read, works-stopped}
use Rattle.luks_store.specs.Copying.Steps.{next_of}
use Rattle.luks_store.specs.declared.header_copies.commit.Stage.{Stage}
use Rattle.luks_store.specs.declared.header_copies.commit.Stage.TheVariants.{Ended}
use Rattle.sector_disk.specs.Devices.{Device}
use Rattle.volume_machine.specs.Seals.{Seals}

-- ---- behind each step
module _ {C : Type 0} (sector : C → ℕ) where
  pub works-on : (seals : Seals) (old new : Device) (before after : Worker C) (stepped : Stepped)
      → IsWorking sector before → Goes seals old new before after stepped → IsWorking sector after
  works-on seals old new before after stepped is (begins at call to) =
      works-next sector before after ReadFirst is to (subst (Needs before) at is.next)
  works-on seals old new before after stepped is (reads_first at call read) =
      works-read sector before after SaveFirst is read (subst (Needs before) at is.next)
  works-on seals old new before after stepped is (saves_first at tells call headers are begun to) =
      let known = known-atom sector before is in
      works-next sector before after _ is to
      (needs-save sector before 0 headers known (subst (Needs before) at is.next)
      (first-start before.site known) (are, begun.1) begun.0)
  works-on seals old new before after stepped is (reads done headers at call read) =
      works-read sector before after (Save done headers) is read (subst (Needs before) at is.next)
  works-on seals old new before after stepped is (saves done headers at tells call to) =
      let had = subst (Needs before) at is.next in
      works-next sector before after _ is to
      (needs-save sector before done headers (known-atom sector before is) had.0 had.3 had.1 had.2)
  works-on seals old new before after stepped is (keeps headers at call to) =
      let had = subst (Needs before) at is.next in
      works-next sector before after (Open headers) is to
      (had.0, had.1, λ runs. subst (λ s. s ≢ Ended) (sym had.2) (λ is. cc))
  works-on seals old new before after stepped is (opens headers commit at call on far to) =
      let had = subst (Needs before) at is.next in
      works-next sector before after (Open (opened_by headers commit)) is to (
        had.0,
        (open-on before.loaded _ headers.opened commit headers.moved had.1.0 on.same, had.1.1),
        λ runs. subst (λ s. s ≢ Ended) (sym on.stage) (not-ended sector _ (had.2 runs) far),
      )
  works-on seals old new before after stepped is (opened headers commit at call on last to) =
      let had = subst (Needs before) at is.next in
      works-next sector before after _ is to
      (needs-open sector before (opened_by headers commit) had.0
      (open-on before.loaded _ headers.opened commit headers.moved had.1.0 on.same, had.1.1))
  works-on seals old new before after stepped is (reads_again done headers at call read) =
      works-read sector before after (Write done headers) is read (subst (Needs before) at is.next)
  works-on seals old new before after stepped is (writes done headers at call read) =
      let had = subst (Needs before) at is.next in
      works-read sector before after _ is read (needs-write sector before done headers had.0 had.1)
  works-on seals old new before after stepped is (settles headers at call to) =
      let had = subst (Needs before) at is.next in
      works-next sector before after (Move headers) is to
      (had.0, had.1.0, λ runs. subst (λ s. s ≢ Ended) (sym had.1.1) (λ is. cc))
  works-on seals old new before after stepped is (moves headers commit at call on far to) =
      let had = subst (Needs before) at is.next in
      works-next sector before after (Move (moved_by headers commit)) is to (
        had.0,
        moved-on before.loaded _ headers.opened headers.moved commit had.1 on.same,
        λ runs. subst (λ s. s ≢ Ended) (sym on.stage) (not-ended sector _ (had.2 runs) far),
      )
  works-on seals old new before after stepped is (ends headers at call last has) =
      let had = subst (Needs before) at is.next in
      works-behind sector before after headers.opened headers.moved is had.1 has
  works-on seals old new before after stepped is (finishes ending commit at are call on to) =
      works-next sector before after (End (ended_by ending commit)) is to (
        (ending.commit, are, on.same),
        λ runs. subst (λ s. s ≢ Ended) (sym on.stage)
            (subst (λ s. next_of s ≢ Ended) (sym are.begun) (λ is. cc)),
      )
  works-on seals old new before after stepped is (finishes_on ending commit at call on far to) =
      let had = subst (Needs before) at is.next in
      works-next sector before after (End (ended_by ending commit)) is to (
        ending-on sector before.loaded ending commit had.0 on.same,
        λ runs. subst (λ s. s ≢ Ended) (sym on.stage) (not-ended sector _ (had.1 runs) far),
      )
  works-on seals old new before after stepped is (finished ending commit at call on last to) =
      let had = subst (Needs before) at is.next in
      works-next sector before after _ is to
      (needs-wipe sector before 0 (ended_by ending commit)
      (ending-on sector before.loaded ending commit had.0 on.same))
  works-on seals old new before after stepped is (wipes done ending at call to) =
      let had = subst (Needs before) at is.next in
      works-next sector before after _ is to (needs-wipe sector before (done + 1) ending had.1)
  works-on seals old new before after stepped is (rests ending at call to) =
      works-next sector before after (Over ending) is to (subst (Needs before) at is.next)

  -- ---- behind each that failed, or wasn't made
  -- what a call needs that is no commit's it needs of a halted worker too
  works-failed : (before after : Worker C) (next : NextCall) (halt : Halt)
      → ((halted : Option Halt) → Needs before next
      → Needs (record before { halted = halted }) next)
      → IsWorking sector before → before.next ≡ next → IsStopped before after next halt
      → IsWorking sector after
  works-failed before after next halt same is at stop =
      works-stopped sector before after next halt is stop
      (same (Some halt) (subst (Needs before) at is.next))

  never-runs : {halt : Halt} {stage : Stage} → MayGoFrom (Some halt) stage
  never-runs = λ runs. absurd cc

  pub works-over : (seals : Seals) (old new : Device) (before after : Worker C) (fault : ZoneFault)
      → IsWorking sector before → Stops seals old new before after fault → IsWorking sector after
  works-over seals old new before after fault is (clashes_first _ _ at clash same stop) =
      works-failed before after SaveFirst _ (λ halted needs. needs) is at (halted-as before after _ _ stop)
  works-over seals old new before after fault is (clashes done headers _ _ at clash same stop) =
      works-failed before after (Save done headers) _ (λ halted needs. needs) is at (halted-as before after _ _ stop)
  works-over seals old new before after fault is (refuses _ at tells unmade same stop) =
      works-failed before after SaveFirst _ (λ halted needs. needs) is at (halted-as before after _ _ stop)
  works-over seals old new before after fault is (begin_fails at call stop) =
      works-failed before after Begin _ (λ halted needs. needs) is at (halted-as before after _ _ stop)
  works-over seals old new before after fault is (read_first_fails at call stop) =
      works-failed before after ReadFirst _ (λ halted needs. needs) is at stop
  works-over seals old new before after fault is (save_first_fails at tells call stop) =
      works-failed before after SaveFirst _ (λ halted needs. needs) is at (halted-as before after _ _ stop)
  works-over seals old new before after fault is (read_fails done headers at call stop) =
      works-failed before after (Read done headers) _ (λ halted needs. needs) is at stop
  works-over seals old new before after fault is (save_fails done headers at tells call stop) =
      works-failed before after (Save done headers) _ (λ halted needs. needs) is at (halted-as before after _ _ stop)
  works-over seals old new before after fault is (keep_fails headers at call stop) =
      works-failed before after (Keep headers) _ (λ halted needs. needs) is at (halted-as before after _ _ stop)
  works-over seals old new before after fault is (open_fails headers commit at call on stop) =
      let had = subst (Needs before) at is.next in
      works-stopped sector before after (Open (opened_by headers commit)) _ is (halted-as before after _ _ stop) (
        had.0,
        (open-on before.loaded _ headers.opened commit headers.moved had.1.0 on.same, had.1.1),
        never-runs,
      )
  works-over seals old new before after fault is (read_again_fails done headers at call stop) =
      works-failed before after (ReadAgain done headers) _ (λ halted needs. needs) is at stop
  works-over seals old new before after fault is (write_fails done headers at call stop sealed) =
      works-failed before after (Write done headers) _ (λ halted needs. needs) is at stop
  works-over seals old new before after fault is (settle_fails headers at call stop) =
      works-failed before after (Settle headers) _ (λ halted needs. needs) is at (halted-as before after _ _ stop)
  works-over seals old new before after fault is (move_fails headers commit at call on stop) =
      let had = subst (Needs before) at is.next in
      works-stopped sector before after (Move (moved_by headers commit)) _ is (halted-as before after _ _ stop) (
        had.0,
        moved-on before.loaded _ headers.opened headers.moved commit had.1 on.same,
        never-runs,
      )
  works-over seals old new before after fault is (finish_refuses _ at unmade same stop) =
      works-failed before after Finish _ (λ halted needs. needs) is at (halted-as before after _ _ stop)
  works-over seals old new before after fault is (finish_fails ending commit at are call on stop) =
      works-stopped sector before after (End (ended_by ending commit)) _ is (halted-as before after _ _ stop)
      ((ending.commit, are, on.same), never-runs)
  works-over seals old new before after fault is (end_fails ending commit at call on stop) =
      let had = subst (Needs before) at is.next in
      works-stopped sector before after (End (ended_by ending commit)) _ is (halted-as before after _ _ stop)
      (ending-on sector before.loaded ending commit had.0 on.same, never-runs)
  works-over seals old new before after fault is (wipe_fails done ending at call stop) =
      works-failed before after (Wipe done ending) _ (λ halted needs. needs) is at (halted-as before after _ _ stop)
  works-over seals old new before after fault is (rest_fails ending at call stop) =
      works-failed before after (Rest ending) _ (λ halted needs. needs) is at (halted-as before after _ _ stop)
