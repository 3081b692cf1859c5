-- What is made of a part at hand before it is written: its digests, and it sealed anew.
use Rattle.std.specs.Prelude.{ℕ, ◌≡◌, ◌+◌, ◌*◌, ◌≤◌, List, ◌++◌, length, take, drop, MatchBool}
use Rattle.hotzone.specs.Sites.{bytes_at, part_at}
use Rattle.hotzone.specs.Steps.{part_in, resealed}
use Rattle.hotzone.specs.declared.scratch.Scratch.{Scratch}
use Rattle.hotzone.specs.declared.site.Guard.{Guard}
use Rattle.hotzone.specs.declared.site.Guard.TheVariants as guards
use Rattle.hotzone.specs.declared.site.Site.{Site}
use Rattle.hotzone.specs.declared.worker.Worker.{Worker}
use Rattle.resil_checksum.specs.Digests.{AreSaved, saved_len}
use Rattle.volume_machine.specs.Seals.{Seals}

-- by checksum the digests of its atoms, as they are saved
abbrev pub AreLaidBy : Guard → ℕ → ℕ → List ℕ → List ℕ → Type 0
AreLaidBy guards.Journal atom count part digests = Unit {0}
AreLaidBy guards.Checksum atom count part digests =
    AreSaved atom count part (take (saved_len count atom) digests)

abbrev pub AreLaid : {C : Type 0} → Worker C → ℕ → Scratch → Type 0
AreLaid worker done scratch =
    AreLaidBy worker.site.guard worker.site.atom (part_at worker.site done) (part_in worker done)
    scratch.digests

-- bytes begin with the zone's first part sealed anew
pub record HasSealed (seals : Seals) (site : Site) (part sealed : List ℕ) : Type 0 where
  pub room : bytes_at site 0 ≤ length sealed
  pub is : take (bytes_at site 0) sealed ≡ resealed seals (site.blocks.start + 0) part

-- so where it is said to be, and that part is at hand
abbrev pub IsSealed : {C : Type 0} → Seals → Worker C → Scratch → Type 0
IsSealed seals worker scratch =
    MatchBool scratch.is_first (HasSealed seals worker.site (part_in worker 0) scratch.sealed)
    (Unit {0})

-- ---- a part that is sealed anew slice by slice
-- one of which so many of the first blocks are sealed anew, and the others are as they were
abbrev pub sealed_upto : Seals → ℕ → ℕ → ℕ → List ℕ → List ℕ
sealed_upto seals atom first ready part =
    resealed seals first (take (ready * atom) part) ++ drop (ready * atom) part

-- bytes begin with the zone's first part, of which so many blocks are sealed anew
pub record HasBegun (seals : Seals) (site : Site) (part : List ℕ) (ready : ℕ) (sealed : List ℕ)
    : Type 0 where
  pub room : bytes_at site 0 ≤ length sealed
  pub within : ready ≤ part_at site 0
  pub is : take (bytes_at site 0) sealed
      ≡ sealed_upto seals site.atom (site.blocks.start + 0) ready part

-- so where it is said to be, and that part is at hand
abbrev pub IsBegun : {C : Type 0} → Seals → Worker C → Scratch → Type 0
IsBegun seals worker scratch =
    MatchBool scratch.begun
    (HasBegun seals worker.site (part_in worker 0) scratch.ready scratch.sealed) (Unit {0})
