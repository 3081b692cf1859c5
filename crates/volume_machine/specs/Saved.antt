-- What is saved of a zone's atoms before they are written over, atom by atom of the area that it is
-- saved in.
use Rattle.std.specs.Prelude.{ℕ, zero, suc, ◌≡◌, ◌≢◌, ◌+◌, ◌-◌, ◌*◌, ◌/◌, ◌<◌, ◌≤◌, List, []}
use Rattle.std.specs.Prelude.{◌++◌}
use Rattle.std.specs.Prelude.{length, replicate, min}
use Rattle.std.specs.Int.{div_ceil}
use Rattle.sector_disk.specs.DiskViews.Parts.{block_at}
use Rattle.crash_laws.specs.HotZones.Standing.{Hash}
use Rattle.crash_laws.specs.HotZones.Zones.{Resilience, journal, checksum, datashift}
use Rattle.sha2.specs.Sha256.{sha256}

-- the hash of the digests
abbrev pub saved_hash : Hash
saved_hash = record { size = 32; digest = sha256 }

-- the digests of so many atoms, one behind the other
unfoldable pub digests : (ℕ → List ℕ) → ℕ → ℕ → List ℕ
digests old first zero = []
digests old first (suc n) = sha256 (old first) ++ digests old (suc first) n

-- an atom of digests: as many as it has room for, of `count` atoms, and zeros behind the last one
abbrev pub digests_in : ℕ → ℕ → ℕ → ℕ
digests_in atom count i = min (atom / 32) (count - i * (atom / 32))

abbrev pub digest_atom : ℕ → ℕ → (ℕ → List ℕ) → ℕ → List ℕ
digest_atom atom count old i =
    digests old (i * (atom / 32)) (digests_in atom count i)
    ++ replicate (atom - digests_in atom count i * 32) 0

-- what is saved of `count` atoms: by journal each of them, by checksum their digests
abbrev pub saved_of : Resilience → ℕ → ℕ → (ℕ → List ℕ) → ℕ → List ℕ
saved_of journal atom count old i = old i
saved_of checksum atom count old i = digest_atom atom count old i
saved_of datashift atom count old i = []

-- the atom of its area from which on the zone's atoms behind the first so many are saved, and how
-- many are saved of so many
abbrev pub saved_before : Resilience → ℕ → ℕ → ℕ
saved_before journal atom first = first
saved_before checksum atom first = first / (atom / 32)
saved_before datashift atom first = 0

abbrev pub saved_atoms : Resilience → ℕ → ℕ → ℕ
saved_atoms journal atom count = count
saved_atoms checksum atom count = div_ceil (count * 32) atom
saved_atoms datashift atom count = 0

-- an atom of the area has what is saved of so many atoms from this one on, and of no other
abbrev pub IsOfPart : Resilience → ℕ → ℕ → ℕ → ℕ → ℕ → Type 0
IsOfPart journal atom total first count i = (first ≤ i) × (i < first + count)
IsOfPart checksum atom total first count i =
    (first ≤ i * (atom / 32)) × (i * (atom / 32) + digests_in atom total i ≤ first + count)
IsOfPart datashift atom total first count i = ⊥

-- The text is what is saved of a part of so many atoms, from this one of `total` on: in the area
-- its atoms come behind those of the parts before it.
pub record IsSaved (resilience : Resilience) (atom total first count : ℕ) (old saved : List ℕ) :
    Type 0 where
  pub size : length saved ≡ saved_atoms resilience atom count * atom
  pub of_part : (j : ℕ) → j < saved_atoms resilience atom count
      → IsOfPart resilience atom total first count (saved_before resilience atom first + j)
  pub each : (j : ℕ) → j < saved_atoms resilience atom count → block_at atom saved j
      ≡ saved_of resilience atom total (λ i. block_at atom old (i - first))
      (saved_before resilience atom first + j)

-- by checksum each digest tells the old atom from the new one
abbrev pub TellsApart : Resilience → ℕ → ℕ → List ℕ → (ℕ → List ℕ) → Type 0
TellsApart checksum atom count old new = (k : ℕ) → k < count
    → sha256 (block_at atom old k) ≢ sha256 (new k)
TellsApart _ atom count old new = Unit {0}
