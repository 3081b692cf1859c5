-- Areas that are wiped, one after the other, and what a sync leaves.
use Rattle.std.proofs.Common.{List, Some, ap, arith, inl, inr, length, mul-le-mul_right, replicate}
use Rattle.std.proofs.Common.{subst, sym, ℕ, ◌*◌, ◌+◌, ◌-◌, ◌<◌, ◌∙◌, ◌≡◌, ◌≤◌, ◌⊎◌, take}
use Rattle.std.proofs.lemmas.Bool.{cases_lt}
use Rattle.sector_disk.specs.DiskViews.Parts.{block_at}
use Rattle.sector_disk.specs.DiskViews.Views.{IsOutside}
use Rattle.std.proofs.lemmas.List.{drop-replicate, take-replicate}
use Rattle.crash_laws.specs.HeaderAreas.Areas.{Area}
use Rattle.sector_disk.proofs.DiskViews.Blockwise.{block_within}
use Rattle.sector_disk.proofs.DiskViews.DeviceViews.{bytes-written, table-synced}
use Rattle.sector_disk.specs.Devices.{Device, SyncCall, succeeded}
use Rattle.volume_machine.specs.WorkCalls.{Puts}
use Rattle.volume_machine.specs.WorkSteps.{zeros_of}
use Rattle.volume_laws.specs.WorkerRuns.Conversions.{IsCertain, IsZeroed}

-- an atom of zeros
zeros_at : (atom count k : ℕ) → k < count
    → block_at atom (replicate (count * atom) 0) k ≡ replicate atom 0
zeros_at atom count k below =
    let room : atom ≤ count * atom - k * atom =
    (let least = block_within atom count k below in omega (arith, least)) in
    ap (take atom) (drop-replicate (k * atom) (count * atom) 0)
    ∙ take-replicate atom (count * atom - k * atom) 0 room

-- a place is one of the area, or outside
pub inside_or : (start count place : ℕ)
    → ((k : ℕ) × (k < count) × (place ≡ start + k)) ⊎ IsOutside start count place
inside_or start count place = elim (cases_lt place start) [
  | inl before ↦ inr (inl before)
  | inr from ↦ elim (cases_lt place (start + count)) [
    | inl below ↦ inl (place - start, omega (arith, below, from), omega (arith, below, from))
    | inr behind ↦ inr (inr behind)
  ]
]

-- one more area is wiped: it holds zeros, and each one that did does
pub record IsWipedNow (atom : ℕ) (area : Area) (bytes : List ℕ) (new : Device) : Type 0 where
  pub now : List ℕ
  pub told : new.values ≡ Some now
  pub size : length now ≡ length bytes
  pub own : IsZeroed atom now area
  pub others : (other : Area) → IsZeroed atom bytes other → IsZeroed atom now other

pub area_wiped : (atom atoms : ℕ) (area : Area) (bytes : List ℕ) (old new : Device)
    → Puts atom area.start area.count (zeros_of atom area) old new succeeded
    → old.values ≡ Some bytes → length bytes ≡ atoms * atom → area.start + area.count ≤ atoms
    → IsWipedNow atom area bytes new
area_wiped atom atoms area bytes old new puts told long within =
    let fits : (area.start + area.count) * atom ≤ length bytes =
    rw long (mul-le-mul_right atom within) in
    let turns = bytes-written atom area.start area.count (zeros_of atom area) bytes old new
    puts.call told fits puts.size in
    let own : IsZeroed atom turns.now area = λ k below.
    turns.step.inside k below ∙ zeros_at atom area.count k below in record {
      now = turns.now;
      told = turns.told;
      size = turns.size;
      own = own;
      others = λ other zeroed k below.
          elim (inside_or area.start area.count (other.start + k)) [
            | inl (i, inside, same) ↦ subst (λ place. block_at atom turns.now place
                ≡ replicate atom 0) (sym same) (own i inside)
            | inr outside ↦ turns.step.outside (other.start + k) outside ∙ zeroed k below
          ];
    }

-- behind a sync all is certain
pub certain_behind : (old new : Device) → SyncCall old new succeeded → IsCertain new
certain_behind old new call = λ told is place value has.
    let turns = table-synced old new told call is in
    turns.step.candidates place value has ∙ sym (turns.step.current place)
