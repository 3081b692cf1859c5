-- The random bytes and the bay of a demonstration.
use Rattle.std.proofs.Common.{◌≡◌, ◌∙◌, ◌+◌, ◌*◌, ◌/◌, ◌%◌, ◌^◌, ℕ, List, [], ◌∷◌, ◌++◌, length, map, Some}
use Rattle.std.proofs.Common.{ap, refl, sym, arith}
use Rattle.std.specs.Prelude.{slice_index}
use Rattle.std.proofs.lemmas.List.FromFn.{length-map-range_with_len, map-range_with_len_more}
use Rattle.std.specs.List.{range_with_len}
use Rattle.std.proofs.Common.{replicate, Result, Ok, Err, IfOk}
use Rattle.command_line.specs.Demonstrations.{Demonstrating}
use Rattle.demo_clients.specs.Connections.{demo_connections}
use Rattle.demo_clients.specs.DemoBays.{Supplies, demo_holdings, demo_name, demo_passphrase}
use Rattle.demo_clients.specs.DemoBays.{ram_device}
use Rattle.io_edge.specs.FaultPlan.{fresh_plan}
use Rattle.demo_clients.specs.SureSupplies.{sure_supply}
use Rattle.io_edge.specs.Memory.{Input, Output, Seedlings}
use Rattle.memory_disks.specs.declared.ram_disk.RamDisk.{RamDisk}
use Rattle.reenc_tool.specs.Demonstrating.{IsDemoBay, IsDemoSupply, seed_byte, seed_bytes}

-- the first so many of the bytes of a seed
abbrev pub first_bytes : (seed more n : ℕ) → List ℕ
first_bytes seed more n = map (λ i. (seed_byte seed i + more) % 256) (range_with_len 0 n)

one_more : (seed more n byte : ℕ) → byte ≡ (seed_byte seed n + more) % 256
    → first_bytes seed more n ++ byte ∷ [] ≡ first_bytes seed more (n + 1)
one_more seed more n byte is =
    ap (λ (b : ℕ). first_bytes seed more n ++ b ∷ []) is
    ∙ sym (map-range_with_len_more (λ i. (seed_byte seed i + more) % 256) 0 n n (omega arith))

pub pushed : (seed more n byte : ℕ) (old new : List ℕ) → new ≡ old ++ byte ∷ []
    → old ≡ first_bytes seed more n → byte ≡ (seed_byte seed n + more) % 256
    → new ≡ first_bytes seed more (n + 1)
pushed seed more n byte old new is was byte_is =
    is ∙ ap (λ (bytes : List ℕ). bytes ++ byte ∷ []) was ∙ one_more seed more n byte byte_is

pub all_bytes : (seed more : ℕ) → first_bytes seed more 256 ≡ seed_bytes seed more
unfolding seed_bytes
all_bytes seed more = refl

count_bytes : (seed more : ℕ) → length (seed_bytes seed more) ≡ 256
unfolding seed_bytes
count_bytes seed more = length-map-range_with_len (λ i. (seed_byte seed i + more) % 256) 0 256

from_none : (k : ℕ) → 0 + k ≡ k
from_none k = omega arith

-- seeds that begin with these bytes
pub supplied : (seed more : ℕ) (seeds : Seedlings) → seeds.bytes ≡ seed_bytes seed more
    → seeds.at ≡ 0 → seeds.plan ≡ fresh_plan [] → IsDemoSupply seed more (sure_supply seeds)
supplied seed more seeds bytes at plan = record {
  ahead = λ k. rw (bytes, at, count_bytes seed more)
      (ap (λ (n : ℕ). Some (slice_index (seed_bytes seed more) (n % 256))) (from_none k));
  faults = refl;
}

-- ---- the bay
pub bay_begun : {E : Type 0} (demo : Demonstrating) (disk : RamDisk)
    (clients : List (Input × Output)) (r : Result Supplies E) → disk.atom ≡ 512
    → disk.atoms ≡ 2048 + demo.blocks
    → (ram_device disk).values ≡ Some (replicate ((2048 + demo.blocks) * 512) 0)
    → clients ≡ demo_connections demo.seed demo.blocks demo.workers
    → IfOk r (λ bay. bay.disk ≡ Some disk)
    → IfOk r (λ bay. (demo_holdings bay).keyring demo_name ≡ Some demo_passphrase)
    → IfOk r (λ bay. bay.rest.connections ≡ clients) → IfOk r (λ bay. bay.rest.address ≡ demo_name)
    → IfOk r (λ bay. (demo_holdings bay).faults ≡ 0) → IfOk r (IsDemoBay demo)
bay_begun demo disk clients (Ok bay) atom atoms zeros are there key same address faults = record {
  disk = disk;
  there = there;
  atom = atom;
  atoms = atoms;
  zeros = zeros;
  key = key;
  address = address;
  clients = same ∙ are;
  faults = faults;
}
bay_begun demo disk clients (Err e) atom atoms zeros are there key same address faults = tt
