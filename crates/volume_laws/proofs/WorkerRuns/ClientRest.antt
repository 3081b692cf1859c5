-- What an event of a client leaves beside a conversion: the atoms that are no block's, and how the
-- conversion stands.
use Rattle.std.proofs.Common.{MatchBool, MatchOption, None, Option, Some, ap, arith, subst, sym, ℕ}
use Rattle.std.proofs.Common.{◌+◌, ◌∙◌, ◌≡◌, ◌≤◌, List, inl, inr}
use Rattle.std.proofs.lemmas.Bool.{MatchBool-at_false, MatchBool-at_true, cases_Bool as either}
use Rattle.sector_disk.specs.DiskViews.Views.{IsOutside}
use Rattle.segment_map.specs.declared.map.Piece.{Piece}
use Rattle.volume_machine.specs.Events.{Event, Outcome, admits, asks, broken, device, done}
use Rattle.volume_machine.specs.Events.{fetches, finishes, got, reads, refused, settles, writes}
use Rattle.volume_machine.specs.Pieces.{IsPieceOf, place_of}
use Rattle.volume_machine.specs.Sound.{IsSound}
use Rattle.volume_machine.specs.States.{State}
use Rattle.volume_machine.specs.Steps.{EdgeStep, IsAdmitted, ReadStep, SettleStep, WriteStep, Step}
use Rattle.crash_laws.specs.HeaderAreas.Headers.{Layout}
use Rattle.volume_laws.proofs.{Reading.piece_place, Writing.in_piece}
use Rattle.volume_machine.proofs.NextPieces.{on_disk}
use Rattle.volume_machine.specs.Readings.{Reading}
use Rattle.volume_machine.specs.declared.{ask.Ask.Ask, open.Open.Open}
use Rattle.volume_laws.specs.WorkerRuns.Leaving.{IsDropped, IsElsewhere, KeepsAtom}
use Rattle.volume_laws.proofs.WorkerRuns.AtomCalls.{spares_read, spares_same, spares_sync, spares_write}
use Rattle.volume_laws.proofs.WorkerRuns.AtomCalls.{sync_fails, write_fails}
use Rattle.volume_laws.proofs.WorkerRuns.RestAtoms.{by_call, by_fault}
use Rattle.volume_laws.proofs.WorkerRuns.RestStages.{IsGuarded, Stays, closes, converts, ended}

module _ {K : Type 0} {reading : Reading} {layout : Layout} {first : List ℕ} (old new : State K)
    (sound : IsSound old) (place : ℕ) (elsewhere : IsElsewhere reading layout first old place) where
  -- a piece lies in the places of blocks
  piece_outside : (o : Open) (piece : Piece) → IsPieceOf old.map o piece
      → o.range.end ≤ old.map.blocks → IsOutside (place_of old.map piece) piece.count place
  piece_outside o piece next inside =
      let bound : o.next + piece.count ≤ o.range.end = next.within in
      elim (in_piece (place_of old.map piece) piece.count place) [
        | inl (j, below, is) ↦ absurd (elsewhere.blocks (o.next + j)
            (omega (arith, bound, inside, below)) (piece_place o next j below ∙ sym is))
        | inr outside ↦ outside
      ]

  piece_within : (o : Open) (piece : Piece) → IsPieceOf old.map o piece
      → o.range.end ≤ old.map.blocks → place_of old.map piece + piece.count ≤ old.disk.atoms
  piece_within o piece next inside =
      let bound : o.next + piece.count ≤ o.range.end = next.within in
      let begun : piece.first ≡ o.next = next.first in
      on_disk old.map old.disk.atoms piece.first piece.count piece.side sound.fits
      (omega (arith, bound, inside, begun))

  rested : new.disk ≡ old.disk → KeepsAtom old new place
  rested same = by_call (spares_same place same)

  admit_keeps : (lane session : ℕ) (ask : Ask) (outcome : Outcome) (wrong : Option ℕ)
      → MatchOption wrong (MatchBool old.broken ((outcome ≡ refused 5) × (new ≡ old)) (IsAdmitted
      old lane session ask outcome new)) (λ number. (outcome ≡ refused number) × (new ≡ old))
      → KeepsAtom old new place
  admit_keeps lane session ask outcome (Some number) step = rested (ap (λ s. s.disk) step.1)
  admit_keeps lane session ask outcome None step = elim (either old.broken) [
    | inl was ↦ rested (ap (λ s. s.disk) (MatchBool-at_true _ _ was step).1)
    | inr whole ↦ rested (MatchBool-at_false _ _ whole step).rests
  ]

  read_keeps : (lane : ℕ) (o : Open) (outcome : Outcome) → ReadStep old lane o outcome new
      → KeepsAtom old new place
  read_keeps lane o (got bytes) step = by_call (spares_read place step.call)
  read_keeps lane o device step = by_call (spares_read place step.call)
  read_keeps lane o broken step = rested step.rests
  read_keeps lane o _ step = absurd step

  fetch_keeps : (lane : ℕ) (o : Open) (which : ℕ) (outcome : Outcome)
      → EdgeStep old lane o which outcome new → KeepsAtom old new place
  fetch_keeps lane o which (got bytes) step = by_call (spares_read place step.call)
  fetch_keeps lane o which device step = by_call (spares_read place step.call)
  fetch_keeps lane o which broken step = rested step.rests
  fetch_keeps lane o which _ step = absurd step

  write_keeps : (lane : ℕ) (o : Open) (bytes : List ℕ) (outcome : Outcome)
      → o.range.end ≤ old.map.blocks → WriteStep old lane o bytes outcome new
      → KeepsAtom old new place
  write_keeps lane o bytes done inside step = by_call (spares_write place step.piece.count step.call
      old.map.some_atom step.are.size (piece_within o step.piece step.next inside)
      (piece_outside o step.piece step.next inside))
  write_keeps lane o bytes device inside step = by_fault step.goes.broken_is (write_fails place
      step.piece.count step.call old.map.some_atom step.are.size
      (piece_outside o step.piece step.next inside))
  write_keeps lane o bytes broken inside step = rested step.rests
  write_keeps lane o bytes _ inside step = absurd step

  settle_keeps : (lane : ℕ) (o : Open) (outcome : Outcome) → SettleStep old lane o outcome new
      → KeepsAtom old new place
  settle_keeps lane o done step = by_call (spares_sync place step.call)
  settle_keeps lane o device step = by_fault step.goes.broken_is (sync_fails place step.call)
  settle_keeps lane o broken step = rested step.rests
  settle_keeps lane o _ step = absurd step

  pub event_keeps : (event : Event) (outcome : Outcome) → Step old event outcome new
      → KeepsAtom old new place
  unfolding Step
  event_keeps (admits lane session ask) outcome step =
      admit_keeps lane session ask outcome _ step
  event_keeps (asks lane) outcome (has, same) = rested (ap (λ s. s.disk) same)
  event_keeps (reads lane len) outcome (o, at, step) = read_keeps lane o outcome step
  event_keeps (fetches lane which) outcome (o, at, step) = fetch_keeps lane o which outcome step
  event_keeps (writes lane bytes) outcome (o, at, step) =
      write_keeps lane o bytes outcome (sound.under_way lane o at).inside step
  event_keeps (settles lane) outcome (o, at, step) = settle_keeps lane o outcome step
  event_keeps (finishes lane) outcome step = rested step.rests

-- ---- how the conversion stands
module _ {K : Type 0} {reading : Reading} {first : List ℕ} (old new : State K)
    (same : new.work ≡ old.work) where
  pub stands_still : {layout : Layout} → new.map.atom ≡ old.map.atom
      → Stays reading layout first old → Stays reading layout first new
  stands_still atom (converts work is on lay keeps guards) =
      converts work (same ∙ is) on lay keeps
      (subst (λ n. IsGuarded reading first n work) (sym atom) guards)
  stands_still atom (closes before last stage areas is says ends_so gone) =
      closes before last stage areas (same ∙ is) says ends_so gone
  stands_still atom (ended last progress is done_so says gone) =
      ended last progress (same ∙ is) done_so says gone

  pub dropped_still : {place : ℕ} → IsDropped reading first old place
      → IsDropped reading first new place
  dropped_still is = record {
    layout = is.layout;
    last = is.last;
    progress = is.progress;
    stands = same ∙ is.stands;
    ended = is.ended;
    says = is.says;
    area = is.area;
    had = is.had;
    gone = is.gone;
    inside = is.inside;
  }
