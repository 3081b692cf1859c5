-- The steps that are a call of a commit.
use Rattle.std.proofs.Common.{◌≡◌, ◌∙◌, Bool, true, false, MatchBool, refl, sym, ap, subst}
use Rattle.hotzone.proofs.CommitLemmas.{is-far, is-second}
use Rattle.hotzone.specs.Making.{GoesOn, IsZoneDone, Makes, MakesBy}
use Rattle.hotzone.specs.Steps.{Commits, Goes, IsCommitted, after_open, moved_by, opened_by}
use Rattle.hotzone.specs.Steps.{ends, moves, opened, opens}
use Rattle.hotzone.specs.declared.steps.Made.{Made}
use Rattle.hotzone.specs.declared.worker.Headers.{Headers}
use Rattle.hotzone.specs.declared.worker.NextCall.{NextCall}
use Rattle.hotzone.specs.declared.worker.NextCall.TheVariants.{Move, Open}
use Rattle.hotzone.specs.declared.worker.Stepped.TheVariants.{Went}
use Rattle.hotzone.specs.declared.worker.Worker.{Worker}
use Rattle.luks_store.specs.Copying.Held.{stage_in}
use Rattle.luks_store.specs.Copying.Steps.{is_last}
use Rattle.luks_store.specs.declared.commit.Prepared.{Prepared}
use Rattle.sector_disk.specs.Devices.{Device, succeeded}
use Rattle.volume_machine.specs.Seals.{Seals}

pub open-goes : {C : Type 0} (seals : Seals) (old new : Device) (w : Worker C) (headers : Headers)
    (commit : Prepared) (next : NextCall) (last : Bool) → Commits headers.opened old new succeeded
    → IsCommitted headers.opened commit → last ≡ is_last (stage_in headers.opened.copies)
    → MatchBool last (next ≡ after_open w.site (opened_by headers commit))
    (next ≡ Open (opened_by headers commit))
    → Goes seals old new (record w { next = Open headers }) (record w { next = next }) Went
open-goes seals old new w headers commit next true call on last is =
    opened headers commit refl call on (is-second _ last)
    (ap (λ (n : NextCall). record w { next = n }) is)
open-goes seals old new w headers commit next false call on last is =
    opens headers commit refl call on (is-far _ last)
    (ap (λ (n : NextCall). record w { next = n }) is)

pub move-makes : {C : Type 0} (seals : Seals) (old new : Device) (before after : Worker C)
    (headers : Headers) (commit : Prepared) (made : Made) (last : Bool)
    → Commits headers.moved.commit old new succeeded → IsCommitted headers.moved.commit commit
    → last ≡ is_last (stage_in headers.moved.commit.copies)
    → MatchBool last (IsZoneDone before (moved_by headers commit) after made)
    (GoesOn before (moved_by headers commit) after made)
    → Makes seals old new before (Move headers) after made
move-makes seals old new before after headers commit made true call on last is =
    subst (MakesBy seals old new (record before { next = Move headers })
    (record after { next = made.next })) (sym is.answer)
    (ends headers refl call (is-second _ last) (record {
      keys = is.moved.keys;
      buffer = is.moved.buffer;
      loaded = is.moved.loaded;
      zone = is.moved.zone;
      next = is.moved.next;
      halted = is.moved.halted;
    }))
move-makes {C} seals old new before after headers commit made false call on last is =
    subst (MakesBy seals old new (record before { next = Move headers })
    (record after { next = made.next })) (sym is.answer)
    (moves headers commit refl call on (is-far _ last)
    (ap (λ (w : Worker C). record w { next = made.next }) is.same
    ∙ ap (λ (n : NextCall). record before { next = n }) is.next))
