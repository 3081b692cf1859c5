-- A run keeps each atom of the disk that is no live block's.
use Rattle.std.proofs.Common.{List, MatchBool, MatchOption, None, Option, Some, [], ap, arith}
use Rattle.std.proofs.Common.{false, inl, inr, length, refl, suc, sym, zero, ℕ, ◌+◌, ◌/◌, ◌∙◌, ◌∷◌}
use Rattle.std.proofs.Common.{◌≡◌, ◌≤◌}
use Rattle.std.proofs.Math.Nat.{mul-div_cancel}
use Rattle.std.proofs.lemmas.Bool.{cases_lt, MatchBool-at_false, MatchBool-at_true}
use Rattle.std.proofs.lemmas.Bool.{cases_Bool as either}
use Rattle.base_terms.specs.Blocks.{blocks_of}
use Rattle.sector_disk.specs.Cells.{Cell, AreSettled}
use Rattle.sector_disk.specs.DiskViews.Parts.{cell_in, value_in}
use Rattle.sector_disk.specs.DiskViews.Views.{IsOutside}
use Rattle.sector_disk.specs.Steps.{MovesOrNot, Told}
use Rattle.segment_map.specs.declared.map.Piece.{Piece}
use Rattle.volume_machine.specs.Events.{Event, Outcome, admits, asks, broken, device, done}
use Rattle.volume_machine.specs.Events.{fetches, finishes, got, reads, refused, settles, writes}
use Rattle.volume_machine.specs.Pieces.{ArePieceBytes, IsPieceOf, place_of}
use Rattle.volume_machine.specs.Runs.{Happening, IsRun, last_of}
use Rattle.volume_machine.specs.Sound.{IsSound}
use Rattle.volume_machine.specs.States.{State}
use Rattle.volume_machine.specs.Steps.{EdgeStep, IsAdmitted, Meets, ReadStep, SettleStep, WriteStep}
use Rattle.volume_machine.specs.Steps.{Can}
use Rattle.volume_machine.specs.Steps.{Step}
use Rattle.volume_machine.specs.Working.{KeepsApart}
use Rattle.std.proofs.lemmas.List.{get_or_past}
use Rattle.sector_disk.specs.Cells.{IsImage, IsThinned, wrote}
use Rattle.sector_disk.proofs.DiskViews.Entries.{changed-outside, image_in, length-blocks_of, length-image}
use Rattle.sector_disk.proofs.DiskViews.TableEntries.{synced_view, thinned_view, tried-outside}
use Rattle.volume_machine.specs.declared.{ask.Ask.Ask, open.Open.Open}
use Rattle.volume_machine.proofs.{EventEffects.event_effects, Soundness.sound_kept}
use Rattle.volume_laws.specs.Rest.{IsBeside, KeepsCell, KeepsRest}
use Rattle.volume_laws.proofs.{Invariant.live_back, Reading.AreLive, Reading.piece_place}
use Rattle.volume_laws.proofs.{Reading.writes_lock, RunsServed.apart_after}
use Rattle.volume_laws.proofs.{VolumeStart.settled_cell, Workings.client_live, Writing.in_piece}

-- an atom that stays is kept, and one that is kept twice
kept : {old new : Cell} → new ≡ old → KeepsCell old new
kept same = rw same (record { current = refl; candidates = λ value has. inl has })

kept_twice : {one two three : Cell} → KeepsCell one two → KeepsCell two three → KeepsCell one three
kept_twice first later = record {
  current = later.current ∙ first.current;
  candidates = λ value has. elim (later.candidates value has) [
    | inl held ↦ first.candidates value held
    | inr same ↦ inr (same ∙ first.current)
  ];
}

thinned-current : (old new : List Cell) (place : ℕ) → IsThinned old new
    → (cell_in new place).current ≡ (cell_in old place).current
unfolding IsThinned
thinned-current [] [] place is = refl
thinned-current [] (next ∷ new) place is = absurd is
thinned-current (cell ∷ old) [] place is = absurd is
thinned-current (cell ∷ old) (next ∷ new) zero is = is.0.current
thinned-current (cell ∷ old) (next ∷ new) (suc place) is = thinned-current old new place is.1

-- a table that is told was told before, and keeps the atoms at these places
abbrev Leaves : (ℕ → Type 0) → Option Told → Option Told → Type 0
Leaves At old new = (now : Told) → new ≡ Some now → (before : Told) × (old ≡ Some before)
    × ((place : ℕ) → At place → KeepsCell (cell_in before.now place) (cell_in now.now place))

module _ {At : ℕ → Type 0} where
  leaves_none : {old new : Option Told} → new ≡ old → Leaves At old new
  leaves_none same now is = (now, sym same ∙ is, λ place at. kept refl)

  leaves_twice : {one two three : Option Told} → Leaves At one two → Leaves At two three
      → Leaves At one three
  leaves_twice first later now is =
      let (middle, was, behind) = later now is in let (before, began, front) = first middle was in
      (before, began, λ place at. kept_twice (front place at) (behind place at))

  -- by a device call
  leaves_by : (Move : List Cell → List Cell → Type 0) {old new : Option Told}
      → ((before now : List Cell) → Move before now → (place : ℕ) → At place
      → KeepsCell (cell_in before place) (cell_in now place)) → MovesOrNot Move old new
      → Leaves At old new
  leaves_by Move keeps (inl same) = leaves_none same
  leaves_by Move keeps (inr moves) = λ now is. let (before, was, moved) = moves now is in
      (before, was, keeps before.now now.now moved.step)

-- a piece lies in the places of live blocks
piece_beside : {K : Type 0} {state : State K} (o : Open) {piece : Piece} (bytes : List ℕ)
    (place : ℕ) → IsPieceOf state.map o piece → ArePieceBytes state.map piece bytes
    → o.range.start ≤ o.next → AreLive state o → IsBeside state place
    → IsOutside (place_of state.map piece)
    (length (blocks_of state.map.atom (length bytes / state.map.atom) bytes)) place
piece_beside {state = state} o {piece = piece} bytes place next are begun live beside =
    let bound : o.next + piece.count ≤ o.range.end = next.within in
    let count : length bytes / state.map.atom ≡ piece.count =
    rw are.size (mul-div_cancel piece.count state.map.some_atom) in
    rw (length-blocks_of state.map.atom (length bytes / state.map.atom) bytes, count)
    (elim (in_piece (place_of state.map piece) piece.count place) [
      | inl (j, lt, is) ↦ absurd (beside (o.next + j) (live (o.next + j) (omega arith)
          (omega arith)) (piece_place o next j lt ∙ sym is))
      | inr away ↦ away
    ])

module _ {K : Type 0} (old new : State K) (lane : ℕ) where
  admit_rests : (session : ℕ) (ask : Ask) (outcome : Outcome) (wrong : Option ℕ)
      → MatchOption wrong (MatchBool old.broken ((outcome ≡ refused 5) × (new ≡ old)) (IsAdmitted
      old lane session ask outcome new)) (λ number. (outcome ≡ refused number) × (new ≡ old))
      → new.disk ≡ old.disk
  admit_rests session ask outcome (Some number) step = ap (λ s. s.disk) step.1
  admit_rests session ask outcome None step = elim (either old.broken) [
    | inl was ↦ ap (λ s. s.disk) (MatchBool-at_true _ _ was step).1
    | inr whole ↦ (MatchBool-at_false _ _ whole step).rests
  ]

  stays : (before now : List Cell) → now ≡ before → (place : ℕ) → IsBeside old place
      → KeepsCell (cell_in before place) (cell_in now place)
  stays before now same place beside = kept (ap (λ cells. cell_in cells place) same)

  read_leaves : (o : Open) (outcome : Outcome) → ReadStep old lane o outcome new
      → Leaves (IsBeside old) old.disk.told new.disk.told
  read_leaves o (got bytes) step = leaves_by _ stays (inr step.call.told)
  read_leaves o device step = leaves_by _ stays step.call.told
  read_leaves o broken step = leaves_none (ap (λ d. d.told) step.rests)
  read_leaves o _ step = absurd step

  edge_leaves : (o : Open) (which : ℕ) (outcome : Outcome) → EdgeStep old lane o which outcome new
      → Leaves (IsBeside old) old.disk.told new.disk.told
  edge_leaves o which (got bytes) step = leaves_by _ stays (inr step.call.told)
  edge_leaves o which device step = leaves_by _ stays step.call.told
  edge_leaves o which broken step = leaves_none (ap (λ d. d.told) step.rests)
  edge_leaves o which _ step = absurd step

  settle_leaves : (o : Open) (outcome : Outcome) → SettleStep old lane o outcome new
      → Leaves (IsBeside old) old.disk.told new.disk.told
  settle_leaves o done step = leaves_by _
      (λ before now is place beside. let synced = synced_view before now is in record {
        current = synced.current place;
        candidates = λ value has. inr (synced.candidates place value has);
      }) (inr step.call.told)
  settle_leaves o device step = leaves_by _
      (λ before now is place beside. record {
        current = thinned-current before now place is;
        candidates = λ value has. inl (thinned_view before now is place value has);
      }) step.call.told
  settle_leaves o broken step = leaves_none (ap (λ d. d.told) step.rests)
  settle_leaves o _ step = absurd step

  write_leaves : (o : Open) (bytes : List ℕ) (outcome : Outcome) → o.range.start ≤ o.next
      → (old.broken ≡ false → AreLive old o) → WriteStep old lane o bytes outcome new
      → Leaves (IsBeside old) old.disk.told new.disk.told
  write_leaves o bytes done begun live step = leaves_by _
      (λ before now is place beside. kept (ap (λ cells. cell_in cells place) is ∙ changed-outside
      wrote before _ _ place _ (piece_beside o bytes place step.next step.are begun (live step.was)
      beside))) (inr step.call.told)
  write_leaves o bytes device begun live step = leaves_by _
      (λ before now is place beside. kept (tried-outside before _ _ now place is (piece_beside
      o bytes place step.next step.are begun (live step.was) beside))) step.call.told
  write_leaves o bytes broken begun live step = leaves_none (ap (λ d. d.told) step.rests)
  write_leaves o bytes _ begun live step = absurd step

event_leaves : {K : Type 0} (old new : State K) (event : Event) (outcome : Outcome) → IsSound old
    → KeepsApart old → Meets old event → Step old event outcome new
    → Leaves (IsBeside old) old.disk.told new.disk.told
unfolding Can Step
event_leaves old new (admits lane session ask) outcome sound apart meets step =
    leaves_none (ap (λ d. d.told) (admit_rests old new lane session ask outcome _ step))
event_leaves old new (asks lane) outcome sound apart meets (has, same) =
    leaves_none (ap (λ s. s.disk.told) same)
event_leaves old new (reads lane len) outcome sound apart meets (o, at, step) =
    read_leaves old new lane o outcome step
event_leaves old new (fetches lane which) outcome sound apart meets (o, at, step) =
    edge_leaves old new lane o which outcome step
event_leaves old new (writes lane bytes) outcome sound apart meets (o, at, step) =
    let (p, is, can) = meets.can.0 in let same : p ≡ o = cc in
    write_leaves old new lane o bytes outcome (sound.under_way lane o at).begun
    (λ whole. client_live lane sound apart whole at (writes_lock o.ask (rw same at can.writes))
    meets.can.1 meets.client) step
event_leaves old new (settles lane) outcome sound apart meets (o, at, step) =
    settle_leaves old new lane o outcome step
event_leaves old new (finishes lane) outcome sound apart meets step =
    leaves_none (ap (λ d. d.told) step.rests)

run_leaves : {K : Type 0} (start : State K) (run : List (Happening K)) → IsSound start
    → KeepsApart start → IsRun start run
    → Leaves (IsBeside start) start.disk.told (last_of start run).disk.told
unfolding IsRun last_of
run_leaves start [] sound apart is = leaves_none refl
run_leaves start (one ∷ rest) sound apart (meets, step, is) =
    let goes = event_effects start one.after one.event one.outcome step in
    let after = sound_kept start one.after one.event one.outcome sound meets step in
    let apart_on = apart_after _ _ _ one.outcome meets step apart in
    leaves_twice (event_leaves start one.after one.event one.outcome sound apart meets step)
    (λ now told.
    let (before, was, keeps) = run_leaves one.after rest after apart_on is now told in (
      before,
      was,
      λ place beside. keeps place (λ b live. rw goes.map
          (beside b (live_back b (record { map = goes.map; work = goes.work }) live))),
    ))

-- an image of settled atoms has of each that is kept what it held
image_kept : (before now : List Cell) (image : List (List ℕ)) (place : ℕ) → AreSettled before
    → KeepsCell (cell_in before place) (cell_in now place) → IsImage now image
    → value_in image place ≡ (cell_in before place).current
image_kept before now image place settled keeps is = elim (cases_lt place (length now)) [
  | inl within ↦ elim (keeps.candidates _ (image_in now image place is within)) [
    | inl held ↦ settled_cell before place (value_in image place) settled held
    | inr same ↦ same
  ]
  | inr past ↦ get_or_past image place [] (omega (arith, length-image now image is, past))
      ∙ sym (ap (λ cell. cell.current) (get_or_past now place _ past)) ∙ keeps.current
]

pub keeps_rest : {K : Type 0} (start : State K) (run : List (Happening K)) (now : Told)
    → IsSound start → KeepsApart start → IsRun start run → (last_of start run).disk.told ≡ Some now
    → KeepsRest start now
keeps_rest start run now sound apart is told =
    let (before, was, keeps) = run_leaves start run sound apart is now told in record {
      before = before;
      was = was;
      cells = keeps;
      images = λ settled image is_image place beside.
          image_kept before.now now.now image place settled (keeps place beside) is_image;
    }
