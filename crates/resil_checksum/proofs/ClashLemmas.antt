-- What the digests at hand tell of a zone's blocks.
use Rattle.std.proofs.Common.{◌≡◌, ◌∙◌, ℕ, ◌<◌, ◌≤◌, List, Option, Some, None, arith, sym}
use Rattle.std.specs.Prelude.{MatchOption}
use Rattle.resil_checksum.specs.Clashes.{AllDiffer, IsLowestClash}
use Rattle.resil_checksum.specs.Comparing.{AllDifferIn, IsFirstClash, digest_in}
use Rattle.resil_checksum.specs.declared.judging.AtHand.{AtHand}
use Rattle.sector_disk.specs.DiskViews.Parts.{block_at}
use Rattle.sha2.specs.Sha256.{sha256}

-- where they are those of the old atoms, the first clash is the lowest one of all
pub clash-of : (at_hand : AtHand) (atom n : ℕ) (given old new : List ℕ)
    → ((i : ℕ) → i < n → digest_in at_hand atom given i ≡ sha256 (block_at atom old i))
    → (found : Option ℕ)
    → MatchOption found (AllDifferIn at_hand atom 0 n given new)
    (IsFirstClash at_hand atom 0 n given new)
    → MatchOption found (AllDiffer atom n old new) (IsLowestClash atom n old new)
clash-of at_hand atom n given old new are None differ =
    λ i below same. differ i (omega arith) below (are i below ∙ same)
clash-of at_hand atom n given old new are (Some block) first =
    let below = first.within.1 in
    record {
      within = below;
      same = sym (are block below) ∙ first.same;
      lowest = λ i before same.
          first.first i (omega arith) before (are i (omega (arith, before, below)) ∙ same);
    }
