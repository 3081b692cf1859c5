-- The repair that a header asks for, as the laws of repairs speak of it.
use Rattle.std.proofs.Common.{◌≡◌, inl, inr, ℕ, ◌*◌, ◌/◌, ◌%◌, ◌≤◌, List, length, take, drop, Ok}
use Rattle.std.proofs.Common.{refl, sym, ◌∙◌, ap, arith}
use Rattle.crash_laws.specs.HeaderAreas.Commits.{other}
use Rattle.crash_laws.specs.HeaderAreas.Headers.{Copy, IsHeader, byte_of, primary, secondary, text_of}
use Rattle.base_terms.specs.declared.disk_sizes.Sizes.{Sizes}
use Rattle.luks_store.specs.Copying.Held.{copy_in, place_in, repair_stage_in}
use Rattle.luks_store.specs.Copying.Meanings.{header_of, header_reader, meaning_of}
use Rattle.luks_store.specs.Copying.Promises.{MeanTheSame}
use Rattle.luks_store.specs.declared.header_copies.repair.Repair.{Repair}
use Rattle.luks_store.specs.declared.header_copies.repair.RepairStage.TheVariants.{Broken}
use Rattle.luks_rules.specs.Areas.{areas_begin, header_bytes}
use Rattle.luks_store.proofs.PageLemmas.{page-place, size-pages}
use Rattle.luks_store.specs.Commits.{Repairs}
use Rattle.luks_store.specs.Devices.{front_of}
use Rattle.luks_store.specs.Loads.{IsStored, stored_in}
use Rattle.luks_store.specs.Promises.{UsedStands}
use Rattle.luks_store.specs.Used.{AreCopies}
use Rattle.luks_store.specs.declared.copies.Copies.{Copies}
use Rattle.luks_store.specs.declared.loaded.Stored.{Stored}
use Rattle.reenc_recovery.proofs.StandingLemmas.{used_stands}
use Rattle.sector_disk.specs.Geometry.{IsAtom}

-- The repair writes one copy of a header, whose other one stands at its place.
pub record IsWriting (header : Stored) (repair : Repair) (first : List ℕ) (bad : Copy)
    (one two : List ℕ) : Type 0 where
  pub text : text_of (header_of one two) bad ≡ copy_in repair
  pub at : place_in repair ≡ byte_of header.copies.used.header.hdr_size bad
  pub whole : IsHeader header_reader (header_of one two)
  pub means : meaning_of one ≡ meaning_of header.copies.used.bytes
  pub one_sized : length one ≡ header.copies.used.header.hdr_size
  pub two_sized : length two ≡ header.copies.used.header.hdr_size
  pub good : take header.copies.used.header.hdr_size
      (drop (byte_of header.copies.used.header.hdr_size (other bad)) first)
      ≡ text_of (header_of one two) (other bad)

pub record SomeWriting (header : Stored) (repair : Repair) (first : List ℕ) : Type 0 where
  pub bad : Copy
  pub one : List ℕ
  pub two : List ℕ
  pub is : IsWriting header repair first bad one two

pub writing : MeanTheSame → UsedStands → (sizes : Sizes) (header : Stored) (repair : Repair)
    (first : List ℕ) → IsStored header
    → areas_begin header.valid.meta.config ≡ 2 * header.copies.used.header.hdr_size
    → 2 * header.copies.used.header.hdr_size ≤ header_bytes sizes
    → stored_in sizes (front_of sizes first) ≡ Ok header → Repairs header.copies repair
    → SomeWriting header repair first
writing mean stands sizes header repair first stored begin room held repairs =
    elim stored.copies.stands [
      | inl (good, here) ↦
          (let is = (repairs.1 good).1 in
          record {
            bad = secondary;
            one = header.copies.used.bytes;
            two = copy_in repair;
            is = record {
              text = refl;
              at = is.at;
              whole = is.whole;
              means = refl;
              one_sized = stored.copies.whole.whole;
              two_sized = is.size;
              good = used_stands stands sizes header first held 0 here (omega (arith, room));
            };
          })
      | inr (worse, good, here) ↦
          (let is = repairs.0 worse in
          let copy_size = is.size in
          record {
            bad = primary;
            one = copy_in repair;
            two = header.copies.used.bytes;
            is = record {
              text = refl;
              at = is.at;
              whole = is.whole;
              means = (mean (copy_in repair) header.copies.used.bytes
                  (omega (arith, copy_size, begin))
                  (copy_size ∙ sym stored.copies.whole.whole)).1 is.shared;
              one_sized = is.size;
              two_sized = stored.copies.whole.whole;
              good = used_stands stands sizes header first held
                  header.copies.used.header.hdr_size here (omega (arith, room));
            };
          })
    ]

-- ---- where a repair begins
pub repair_begun : (copies : Copies) (repair : Repair) → AreCopies copies → Repairs copies repair
    → repair_stage_in repair ≡ Broken
repair_begun copies repair are is = elim are.stands [
  | inl (good, here) ↦ (is.1 good).1.begun
  | inr (worse, good, here) ↦ (is.0 worse).begun
]

-- its place is a whole atom
pub repair_place : (copies : Copies) (repair : Repair) (atom : ℕ) → AreCopies copies
    → Repairs copies repair → IsAtom atom
    → place_in repair / atom * atom ≡ place_in repair
repair_place copies repair atom are is known = elim are.stands [
  | inl (good, here) ↦
      page-place atom (place_in repair) known
      (ap (λ n. n % 4096) (is.1 good).1.at
      ∙ size-pages copies.used.header.hdr_size are.whole.one_of_nine)
  | inr (worse, good, here) ↦
      page-place atom (place_in repair) known (ap (λ n. n % 4096) (is.0 worse).at)
]
