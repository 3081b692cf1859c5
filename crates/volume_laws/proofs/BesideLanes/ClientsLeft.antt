-- What each step of the worker leaves of the lanes of clients.
use Rattle.std.proofs.Common.{Option, Some, ap, arith, false, inl, inr, length, refl, subst, suc}
use Rattle.std.proofs.Common.{sym, ℕ, ◌-◌, ◌<◌, ◌∙◌, ◌≡◌, ◌≢◌, ◌≤◌, ◌++◌, length-append, replicate}
use Rattle.std.proofs.lemmas.Bool.{MatchBool-at_true, cases_Bool as either}
use Rattle.std.proofs.lemmas.List.{length-replicate}
use Rattle.base_terms.specs.declared.block_range.BlockRange.{BlockRange}
use Rattle.segment_map.specs.Maps.{side_at}
use Rattle.segment_map.specs.Sides.{left_of, sides}
use Rattle.segment_map.specs.declared.Side.{Side}
use Rattle.segment_map.specs.declared.Side.TheVariants.{New, Old, Zone}
use Rattle.segment_map.specs.declared.map.Map.{Map}
use Rattle.volume_machine.specs.Asks.{entry_of, has_lock, range_of}
use Rattle.volume_machine.specs.Pieces.{AgreeOn, side_in}
use Rattle.volume_machine.specs.Seals.{Seals}
use Rattle.volume_machine.specs.States.{IsClient, State, open_at}
use Rattle.volume_machine.specs.Steps.{Holds}
use Rattle.std.proofs.lemmas.Option.{slice_get_cases}
use Rattle.segment_map.specs.Maps.{sides_of}
use Rattle.segment_map.specs.declared.Direction.{Direction}
use Rattle.segment_map.specs.declared.Direction.TheVariants.{Backward, Forward}
use Rattle.volume_laws.specs.Converting.{IsInOrder, KeepsBlock}
use Rattle.volume_laws.proofs.HoldersKept.{atom_kept, count_kept, ends_turned, holders_keep}
use Rattle.volume_laws.proofs.HoldersKept.{opens_turned}
use Rattle.volume_laws.proofs.Reading.{writes_lock}
use Rattle.volume_machine.proofs.Locking.{holds-more, holds-without}
use Rattle.volume_machine.specs.Courses.{Courses}
use Rattle.volume_machine.specs.Events.{Outcome}
use Rattle.volume_machine.specs.Readings.{Reading}
use Rattle.volume_machine.specs.WorkSteps.{Frees, Proceeds, Takes, WorkStep, Worked, begins}
use Rattle.volume_machine.specs.WorkSteps.{concludes, ends, ends_zone, faults, is_hindered}
use Rattle.volume_machine.specs.WorkSteps.{is_unfinished, leaves_blocks, leaves_broken}
use Rattle.volume_machine.specs.WorkSteps.{misses_conclusion, misses_part, misses_wipe, opens_zone}
use Rattle.volume_machine.specs.WorkSteps.{queues, stays, steps, takes, wiped, wipes}
use Rattle.volume_machine.specs.Works.{Work}
use Rattle.volume_machine.specs.declared.ask.Ask.{Ask}
use Rattle.volume_machine.specs.declared.ask.Ask.TheVariants.{Flush, Read, Write}
use Rattle.volume_laws.specs.BesideLanes.Clients.{IsLeftBeside}
use Rattle.volume_laws.specs.BesideLanes.Lanes.{StaysSame}

-- ---- operations, and what they hold
record Leaves {K : Type 0} (old new : State K) : Type 0 where
  blocks : new.map.blocks ≡ old.map.blocks
  keys : new.keys ≡ old.keys
  own : (k : ℕ) → IsClient old k → open_at new.lanes k ≡ open_at old.lanes k
  holds : (k : ℕ) → IsClient old k → Holds old k → Holds new k

-- the last lane is none of clients
not_last : {lanes lane k : ℕ} → suc lane ≡ lanes → suc k < lanes → lane ≢ k
not_last last client same = omega (arith, last, client, same)

module _ {K : Type 0} {old new : State K} where
  by_same : new ≡ old → Leaves old new
  by_same same = record {
    blocks = ap (λ s. s.map.blocks) same;
    keys = ap (λ s. s.keys) same;
    own = λ k client. ap (λ s. open_at s.lanes k) same;
    holds = λ k client holds. subst (λ s. Holds s k) (sym same) holds;
  }

  by_frees : {broken : _} {next : Option Work} → Frees old new broken next → Leaves old new
  by_frees frees = record {
    blocks = ap (λ (m : Map). m.blocks) frees.map;
    keys = frees.keys;
    own = λ k client. frees.lanes.others k (λ same. not_last frees.last client (sym same));
    holds = λ k client holds. rw frees.entries
        (holds-without frees.lane k old.entries (not_last frees.last client) holds);
  }

  by_proceeds : {map : Map} {next : Work} {broken : _} → Proceeds old new map next broken
      → map.blocks ≡ old.map.blocks → Leaves old new
  by_proceeds goes same = record {
    blocks = ap (λ (m : Map). m.blocks) goes.map_is ∙ same;
    keys = goes.keys;
    own = λ k client. ap (λ lanes. open_at lanes k) goes.lanes;
    holds = λ k client holds. rw goes.entries holds;
  }

  by_takes : {reading : Reading} {outcome : Outcome} → Takes reading old new outcome
      → Leaves old new
  by_takes it =
      let goes = it.admitted.goes in record {
        blocks = ap (λ (m : Map). m.blocks) goes.map;
        keys = goes.keys;
        own = λ k client. goes.lane_is.others k (λ same. not_last it.last client (sym same));
        holds = λ k client holds.
            rw (MatchBool-at_true _ _ (writes_lock it.ask it.writes) it.admitted.enters).0
            (holds-more k old.entries (entry_of old.map.atom it.lane it.ask)
            (not_last it.last client) holds);
      }

  step_leaves : {reading : Reading} {seals : Seals} {worked : Worked} → Courses reading old
      → WorkStep reading seals old new worked → Leaves old new
  step_leaves courses (takes grant it) = by_takes it
  step_leaves courses (queues lane it) = by_takes it
  step_leaves courses (stays lane it) = by_same it.same
  step_leaves courses (begins it) = by_proceeds it.goes refl
  step_leaves courses (steps it) = by_proceeds it.goes refl
  step_leaves courses (opens_zone it) = by_proceeds it.goes (opens_turned courses it).blocks
  step_leaves courses (ends_zone it) = by_proceeds it.goes (ends_turned courses it).blocks
  step_leaves courses (leaves_blocks it) = by_frees it.frees
  step_leaves courses (concludes it) = by_proceeds it.goes refl
  step_leaves courses (wipes it) = by_proceeds it.goes refl
  step_leaves courses (wiped it) = by_proceeds it.goes refl
  step_leaves courses (ends it) = by_same it.same
  step_leaves courses (misses_part it) = by_frees it.gives_up.frees
  step_leaves courses (is_hindered cause it) = by_frees it.gives_up.frees
  step_leaves courses (is_unfinished cause it) = by_same it.same
  step_leaves courses (faults it) = by_frees it.frees
  step_leaves courses (misses_conclusion it) = by_frees it.frees
  step_leaves courses (misses_wipe it) = by_frees it.frees
  step_leaves courses (leaves_broken it) = by_frees it.frees

-- ---- the blocks that they have: a side for each block of a map
sides-count : (direction : Direction) (blocks boundary zone : ℕ) → boundary ≤ blocks
    → zone ≤ left_of direction blocks boundary
    → length (sides direction blocks boundary zone) ≡ blocks
sides-count Forward blocks boundary zone within left =
    let rest = replicate zone Zone ++ replicate (blocks - boundary - zone) Old in
    let all = length-append (replicate boundary New) rest in
    let two = length-append (replicate zone Zone) (replicate (blocks - boundary - zone) Old) in
    let first = length-replicate boundary New in
    let middle = length-replicate zone Zone in
    let last = length-replicate (blocks - boundary - zone) Old in
    omega (arith, all, two, first, middle, last, within, left)
sides-count Backward blocks boundary zone within left =
    let rest = replicate zone Zone ++ replicate (blocks - boundary) New in
    let all = length-append (replicate (boundary - zone) Old) rest in
    let two = length-append (replicate zone Zone) (replicate (blocks - boundary) New) in
    let first = length-replicate (boundary - zone) Old in
    let middle = length-replicate zone Zone in
    let last = length-replicate (blocks - boundary) New in
    omega (arith, all, two, first, middle, last, within, left)

side-known : (map : Map) (b : ℕ) → b < map.blocks → side_at map b ≡ Some (side_in map b)
side-known map b below = elim (slice_get_cases (sides_of map) b).1 [
  | inl (side, inside, is, same) ↦ rw is refl
  | inr (past, none) ↦
      let count = sides-count map.direction map.blocks map.boundary map.zone map.within
      map.zone_left in
      absurd (omega (arith, past, count, below))
]

-- blocks on their sides, at their places
module _ {K : Type 0} (old new : State K) (range : BlockRange)
    (inside : range.end ≤ old.map.blocks) (atom : new.map.atom ≡ old.map.atom)
    (blocks : new.map.blocks ≡ old.map.blocks)
    (keeps : (b : ℕ) → range.start ≤ b → b < range.end → KeepsBlock old new b) where
  still_agrees : (map : Map) → AgreeOn range map old.map → AgreeOn range map new.map
  still_agrees map agree = record {
    atom = agree.atom ∙ sym atom;
    sides = λ b from to. (let below : b < old.map.blocks = omega (arith, to, inside) in
        let kept : side_in new.map b ≡ side_in old.map b = (keeps b from to).side in
        agree.sides b from to ∙ side-known old.map b below
        ∙ ap (λ (side : Side). Some side) (sym kept)
        ∙ sym (side-known new.map b (subst (λ n. b < n) (sym blocks) below)));
    places = λ b from to. agree.places b from to ∙ sym ((keeps b from to).place);
  }

-- a flush has no blocks
empty : {A : Type 0} → ⊥ → A
empty none = absurd none

no_range : (atom : ℕ) (ask : Ask) → has_lock ask ≡ false → (b : ℕ) → b < (range_of atom ask).end → ⊥
no_range atom (Read offset len) none b to = cc
no_range atom (Write offset len fua) none b to = cc
no_range atom Flush none b to = omega (arith, to)

pub stays_same : {K : Type 0} (reading : Reading) (seals : Seals) (old new : State K)
    (worked : Worked) → IsInOrder reading old → WorkStep reading seals old new worked
    → StaysSame old new
stays_same reading seals old new worked order step =
    let left = step_leaves order.courses step in record {
      lanes = count_kept step;
      atom = atom_kept order.courses step;
      blocks = left.blocks;
      keys = left.keys;
    }

pub clients_left : {K : Type 0} (reading : Reading) (seals : Seals) (old new : State K)
    (worked : Worked) (lane : ℕ) → IsInOrder reading old → WorkStep reading seals old new worked
    → IsClient old lane → IsLeftBeside old new lane
clients_left reading seals old new worked lane order step client =
    let left = step_leaves order.courses step in
    let same = stays_same reading seals old new worked order step in record {
      same = same;
      own = left.own lane client;
      holds = left.holds lane client;
      map = λ map o at holds agree.
          (let under = order.sound.under_way lane o at in elim (either (has_lock o.ask)) [
            | inl has ↦ still_agrees old new o.range under.inside same.atom same.blocks
                (λ b from to. holders_keep order.courses order.sound order.works step lane o client
                at has (holds has) b from to) map agree
            | inr none ↦ still_agrees old new o.range under.inside same.atom same.blocks
                (λ b from to. empty (no_range old.map.atom o.ask none b
                (subst (λ (r : BlockRange). b < r.end) under.range_is to))) map agree
          ]);
    }
