-- What a run of clients' events leaves of the bytes of a disk, as long as no write or sync failed: each atom that
-- is no block's as it was; and where no operation is under way, of each block its newest value.
use Rattle.std.proofs.Common.{Bool, List, MatchBool, MatchOption, None, Option, Some, [], ap, arith}
use Rattle.std.proofs.Common.{false, inl, inr, length, mul-le-mul_right, refl, subst, sym, true, ℕ}
use Rattle.std.proofs.Common.{◌*◌, ◌+◌, ◌<◌, ◌∙◌, ◌∷◌, ◌≡◌, ◌≢◌, ◌≤◌, ◌||◌, IsSomeAnd}
use Rattle.std.proofs.lemmas.Bool.{MatchBool-at_false, MatchBool-at_true, cases_Bool as either}
use Rattle.plain_disk.specs.Plain.{Block, Exchange}
use Rattle.sector_disk.specs.DiskViews.Parts.{block_at}
use Rattle.sector_disk.specs.DiskViews.Views.{IsOutside}
use Rattle.segment_map.specs.declared.map.Map.{Map}
use Rattle.segment_map.specs.declared.map.Piece.{Piece}
use Rattle.volume_machine.specs.Edges.{InPlain}
use Rattle.volume_machine.specs.Events.{Event, Outcome, admits, asks, broken, device, done}
use Rattle.volume_machine.specs.Events.{fetches, finishes, got, reads, refused, settles, writes}
use Rattle.volume_machine.specs.Pieces.{IsPieceOf, place_in, place_of}
use Rattle.volume_machine.specs.Runs.{Happening, IsRun, last_of, no_plain, plain_in}
use Rattle.volume_machine.specs.Seals.{Seals}
use Rattle.volume_machine.specs.Sound.{IsSound}
use Rattle.volume_machine.specs.States.{State, IsGoverned, IsLive, open_at}
use Rattle.volume_machine.specs.Steps.{EdgeStep, IsAdmitted, ReadStep, SettleStep, WriteStep, Step}
use Rattle.volume_machine.specs.Works.{Work}
use Rattle.sector_disk.proofs.DiskViews.DeviceViews.{bytes-written}
use Rattle.sector_disk.specs.Devices.{Device}
use Rattle.volume_laws.proofs.{Reading.piece_place, Writing.in_piece}
use Rattle.volume_laws.specs.Contents.{IsNow, IsSealed, block_in}
use Rattle.volume_laws.specs.Promises.{GoesByEvents, IsServed}
use Rattle.volume_machine.proofs.EventEffects.{event_effects}
use Rattle.volume_machine.proofs.NextPieces.{on_disk}
use Rattle.volume_machine.proofs.Soundness.{sound_kept}
use Rattle.volume_machine.specs.declared.{ask.Ask.Ask, open.Open.Open}

-- no block of the map has this place
abbrev pub IsNoBlock : Map → ℕ → Type 0
IsNoBlock map place = (b : ℕ) → b < map.blocks → place_in map b ≢ place

-- A disk of a volume with this map told these bytes, and tells as many now, the same at each place that is no block's.
pub record LeavesAtoms (map : Map) (bytes : List ℕ) (disk : Device) : Type 0 where
  pub now : List ℕ
  pub values : disk.values ≡ Some now
  pub size : length now ≡ length bytes
  pub atoms : (place : ℕ) → IsNoBlock map place
      → block_at map.atom now place ≡ block_at map.atom bytes place

-- ---- an event
module _ {K : Type 0} (old new : State K) (sound : IsSound old) (whole : new.broken ≡ false) (bytes : List ℕ)
    (told : old.disk.values ≡ Some bytes) (long : length bytes ≡ old.disk.atoms * old.map.atom) where
  same-values : new.disk.values ≡ old.disk.values → LeavesAtoms old.map bytes new.disk
  same-values same = record {
    now = bytes;
    values = same ∙ told;
    size = refl;
    atoms = λ place none. refl;
  }

  rested : new.disk ≡ old.disk → LeavesAtoms old.map bytes new.disk
  rested same = same-values (ap (λ d. d.values) same)

  admit-leaves : (lane session : ℕ) (ask : Ask) (outcome : Outcome) (wrong : Option ℕ)
      → MatchOption wrong (MatchBool old.broken ((outcome ≡ refused 5) × (new ≡ old)) (IsAdmitted
      old lane session ask outcome new)) (λ number. (outcome ≡ refused number) × (new ≡ old))
      → LeavesAtoms old.map bytes new.disk
  admit-leaves lane session ask outcome (Some number) step = rested (ap (λ s. s.disk) step.1)
  admit-leaves lane session ask outcome None step = elim (either old.broken) [
    | inl was ↦ rested (ap (λ s. s.disk) (MatchBool-at_true _ _ was step).1)
    | inr fine ↦ rested (MatchBool-at_false _ _ fine step).rests
  ]

  read-leaves : (lane : ℕ) (o : Open) (outcome : Outcome) → ReadStep old lane o outcome new
      → LeavesAtoms old.map bytes new.disk
  read-leaves lane o (got text) step = same-values step.call.values
  read-leaves lane o device step = same-values step.call.values
  read-leaves lane o broken step = rested step.rests
  read-leaves lane o _ step = absurd step

  fetch-leaves : (lane : ℕ) (o : Open) (which : ℕ) (outcome : Outcome)
      → EdgeStep old lane o which outcome new → LeavesAtoms old.map bytes new.disk
  fetch-leaves lane o which (got text) step = same-values step.call.values
  fetch-leaves lane o which device step = same-values step.call.values
  fetch-leaves lane o which broken step = rested step.rests
  fetch-leaves lane o which _ step = absurd step

  settle-leaves : (lane : ℕ) (o : Open) (outcome : Outcome) → SettleStep old lane o outcome new
      → LeavesAtoms old.map bytes new.disk
  settle-leaves lane o done step = same-values step.call.values
  settle-leaves lane o device step = same-values step.call.values
  settle-leaves lane o broken step = rested step.rests
  settle-leaves lane o _ step = absurd step

  -- a piece lies in the places of blocks, on the disk
  piece-outside : (o : Open) (piece : Piece) (place : ℕ) → IsPieceOf old.map o piece
      → o.range.end ≤ old.map.blocks → IsNoBlock old.map place
      → IsOutside (place_of old.map piece) piece.count place
  piece-outside o piece place next inside none =
      let bound : o.next + piece.count ≤ o.range.end = next.within in
      elim (in_piece (place_of old.map piece) piece.count place) [
        | inl (j, below, is) ↦ absurd (none (o.next + j)
            (omega (arith, bound, inside, below)) (piece_place o next j below ∙ sym is))
        | inr outside ↦ outside
      ]

  piece-within : (o : Open) (piece : Piece) → IsPieceOf old.map o piece
      → o.range.end ≤ old.map.blocks → place_of old.map piece + piece.count ≤ old.disk.atoms
  piece-within o piece next inside =
      let bound : o.next + piece.count ≤ o.range.end = next.within in
      let begun : piece.first ≡ o.next = next.first in
      on_disk old.map old.disk.atoms piece.first piece.count piece.side sound.fits
      (omega (arith, bound, inside, begun))

  write-leaves : (lane : ℕ) (o : Open) (text : List ℕ) (outcome : Outcome)
      → o.range.end ≤ old.map.blocks → WriteStep old lane o text outcome new
      → LeavesAtoms old.map bytes new.disk
  write-leaves lane o text done inside step =
      let piece = step.piece in
      let fits : (place_of old.map piece + piece.count) * old.map.atom ≤ length bytes =
      rw long (mul-le-mul_right old.map.atom (piece-within o piece step.next inside)) in
      let turns = bytes-written old.map.atom (place_of old.map piece) piece.count text bytes old.disk
      new.disk step.call told fits step.are.size in
      record {
        now = turns.now;
        values = turns.told;
        size = turns.size;
        atoms = λ place none. turns.step.outside place (piece-outside o piece place step.next inside none);
      }
  write-leaves lane o text device inside step =
      absurd (let e : true ≡ false = sym step.goes.broken_is ∙ whole in cc)
  write-leaves lane o text broken inside step = rested step.rests
  write-leaves lane o text _ inside step = absurd step

  event-leaves : (event : Event) (outcome : Outcome) → Step old event outcome new
      → LeavesAtoms old.map bytes new.disk
  unfolding Step
  event-leaves (admits lane session ask) outcome step = admit-leaves lane session ask outcome _ step
  event-leaves (asks lane) outcome (has, same) = rested (ap (λ s. s.disk) same)
  event-leaves (reads lane len) outcome (o, at, step) = read-leaves lane o outcome step
  event-leaves (fetches lane which) outcome (o, at, step) = fetch-leaves lane o which outcome step
  event-leaves (writes lane text) outcome (o, at, step) =
      write-leaves lane o text outcome (sound.under_way lane o at).inside step
  event-leaves (settles lane) outcome (o, at, step) = settle-leaves lane o outcome step
  event-leaves (finishes lane) outcome step = rested step.rests

-- ---- a run
whole-before : (a b : Bool) → a || b ≡ false → a ≡ false
whole-before true b is = absurd (cc)
whole-before false b is = refl

-- a broken volume stays so
whole-first : {K : Type 0} (start : State K) (run : List (Happening K)) → IsRun start run
    → (last_of start run).broken ≡ false → start.broken ≡ false
unfolding IsRun last_of
whole-first start [] is whole = whole
whole-first start (one ∷ rest) (meets, step, is) whole =
    let goes = event_effects start one.after one.event one.outcome step in
    whole-before start.broken _ (sym goes.broken_is ∙ whole-first one.after rest is whole)

leaves-twice : {map next : Map} {bytes : List ℕ} {mid last : Device} (first : LeavesAtoms map bytes mid)
    → next ≡ map → LeavesAtoms next first.now last → LeavesAtoms map bytes last
leaves-twice {map = map} {next = next} {bytes = bytes} {last = last} first same later =
    let on : LeavesAtoms map first.now last = subst (λ (m : Map). LeavesAtoms m first.now last) same later in record {
      now = on.now;
      values = on.values;
      size = on.size ∙ first.size;
      atoms = λ place none. on.atoms place none ∙ first.atoms place none;
    }

pub run-leaves : {K : Type 0} (start : State K) (run : List (Happening K)) (bytes : List ℕ) → IsSound start
    → IsRun start run → (last_of start run).broken ≡ false → start.disk.values ≡ Some bytes
    → length bytes ≡ start.disk.atoms * start.map.atom
    → LeavesAtoms start.map bytes (last_of start run).disk
unfolding IsRun last_of
run-leaves start [] bytes sound is whole told long = record {
  now = bytes;
  values = told;
  size = refl;
  atoms = λ place none. refl;
}
run-leaves start (one ∷ rest) bytes sound (meets, step, is) whole told long =
    let goes = event_effects start one.after one.event one.outcome step in
    let first = event-leaves start one.after sound (whole-first one.after rest is whole) bytes told long
    one.event one.outcome step in
    let all : length first.now ≡ one.after.disk.atoms * one.after.map.atom =
    first.size ∙ long ∙ rw (goes.disk.atoms, goes.map) refl in
    leaves-twice first goes.map (run-leaves one.after rest first.now
    (sound_kept start one.after one.event one.outcome sound meets step) is whole first.values all)

-- ---- a block, where no operation is under way
-- where no zone is at hand no block is governed
none-governed : {K : Type 0} (state : State K) (b : ℕ) → state.work ≡ None → IsGoverned state b → ⊥
none-governed state b none governed =
    let is : IsSomeAnd None (λ (work : Work). (work.range.start ≤ b) × (b < work.range.end)) =
    subst (λ (w : Option Work). IsSomeAnd w
    (λ (work : Work). (work.range.start ≤ b) × (b < work.range.end))) none governed in
    absurd is

is-newest : {K : Type 0} (state : State K) (plain : ℕ → InPlain) (blocks : List Block) (b : ℕ)
    (value : List ℕ) → ((lane : ℕ) → open_at state.lanes lane ≡ None) → IsNow state plain blocks b value
    → value ≡ (block_in blocks b).newest
is-newest state plain blocks b value free (inl (lane, tried)) =
    absurd (let e : None ≡ Some tried.o = sym (free lane) ∙ tried.is in cc)
is-newest state plain blocks b value free (inr (none, is)) = is

pub newest-at : {K : Type 0} (start : State K) (seals : Seals) (blocks : List Block)
    (run : List (Happening K)) (exchanges : List Exchange) (s : IsServed start seals blocks run exchanges)
    → GoesByEvents start run → start.work ≡ None → (last_of start run).broken ≡ false
    → ((lane : ℕ) → open_at (last_of start run).lanes lane ≡ None) → (b : ℕ) → b < start.map.blocks
    → IsSealed start.map seals b (block_in s.left b).newest
    (block_at start.map.atom s.now (place_in start.map b))
newest-at {K} start seals blocks run exchanges s along rests whole free b below =
    let last = last_of start run in
    let live : IsLive last b = record {
      inside = subst (λ (m : Map). b < m.blocks) (sym along.map) below;
      free = none-governed last b (along.work ∙ rests);
    } in
    let (value, now, at) = s.stands whole b live in
    let newest = is-newest last (plain_in seals start no_plain run) s.left b value free now in
    subst (λ (m : Map). IsSealed m seals b (block_in s.left b).newest
    (block_at m.atom s.now (place_in m b))) along.map
    (subst (λ (v : List ℕ). IsSealed last.map seals b v
    (block_at last.map.atom s.now (place_in last.map b))) newest at)
