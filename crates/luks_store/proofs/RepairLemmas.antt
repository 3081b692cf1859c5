-- Lemmas on the repair of a header that was loaded.
use Rattle.std.proofs.Common.{ap, ◌≡◌, ◌≢◌, ◌⊎◌, inl, inr, ℕ, length, Ok, refl, sym, ◌∙◌, subst}
use Rattle.std.proofs.Common.{arith, ◌*◌, ◌/◌, ◌≤◌}
use Rattle.std.proofs.lemmas.List.{take_all}
use Rattle.crash_laws.specs.HeaderAreas.Headers.{IsHeader}
use Rattle.luks_bin.specs.Copies.{copy_of, IsCopy}
use Rattle.luks_bin.specs.Hidden.{hides_copy}
use Rattle.luks_bin.specs.Shares.{Agree}
use Rattle.luks_bin.specs.declared.header.BinHeader.{BinHeader}
use Rattle.luks_store.specs.Copying.Held.{copy_in, place_in, repair_stage_in}
use Rattle.luks_store.specs.Copying.Meanings.{header_of, header_reader}
use Rattle.luks_store.specs.declared.header_copies.repair.Repair.{Repair}
use Rattle.luks_store.specs.declared.header_copies.repair.RepairStage.TheVariants.{Broken}
use Rattle.luks_store.proofs.CopyLemmas.{Spelt}
use Rattle.base_terms.specs.declared.disk_sizes.Sizes.{Sizes}
use Rattle.luks_store.proofs.CommitLemmas.{fits-disk}
use Rattle.luks_store.proofs.PageLemmas.{size-pages}
use Rattle.luks_store.specs.Commits.{FitsDisks, Repairs}
use Rattle.luks_store.specs.Devices.{header_room}
use Rattle.sector_disk.specs.Geometry.{IsInDisk}
use Rattle.luks_store.specs.Used.{AreCopies}
use Rattle.luks_store.specs.declared.copies.Copies.{Copies}
use Rattle.luks_store.specs.declared.copies.CopyState.TheVariants.{Good}

-- a copy that is used is read at its place
pub used-read : Spelt → (copies : Copies) → AreCopies copies
    → copy_of copies.used.header.hdr_offset copies.used.bytes ≡ Ok copies.used.header
used-read spelt copies are =
    let size = are.whole.whole in
    (spelt copies.used.header.hdr_offset copies.used.bytes copies.used.header).1 (record {
      there = omega (arith, size);
      here = refl;
      copy = subst (λ bytes. IsCopy bytes copies.used.header)
          (sym (take_all copies.used.header.hdr_size copies.used.bytes (omega (arith, size))))
          are.whole;
    })

-- where the primary isn't good the secondary is used
pub used-behind : (copies : Copies) → AreCopies copies → copies.primary.state ≢ Good
    → copies.used.header.hdr_offset ≡ copies.used.header.hdr_size
used-behind copies are bad = elim are.stands [
  | inl (good, here) ↦ absurd (bad good)
  | inr (worse, good, here) ↦ here
]

pub used-front : (copies : Copies) → AreCopies copies → copies.primary.state ≡ Good
    → copies.used.header.hdr_offset ≡ 0
used-front copies are good = elim are.stands [
  | inl (same, here) ↦ here
  | inr (worse, other, here) ↦ absurd (worse good)
]

-- ---- the primary is written anew
pub first-repaired : Spelt → (copies : Copies) (repair : Repair) → AreCopies copies
    → copies.primary.state ≢ Good
    → repair_stage_in repair ≡ Broken → place_in repair ≡ 0
    → length (copy_in repair) ≡ length copies.used.bytes
    → Agree (copy_in repair) copies.used.bytes
    → hides_copy (copy_in repair) ≡ hides_copy copies.used.bytes
    → ((from : ℕ) (h : BinHeader) → copy_of from copies.used.bytes ≡ Ok h
    → length copies.used.bytes ≡ h.hdr_size
    → (◌≡◌ {A = ℕ} 0 0) ⊎ (0 ≡ h.hdr_size)
    → copy_of 0 (copy_in repair) ≡ Ok (record h { hdr_offset = 0; salt = copies.primary.salt }))
    → ((h : BinHeader) → copy_of h.hdr_size copies.used.bytes ≡ Ok h
    → length copies.used.bytes ≡ h.hdr_size → ◌≡◌ {A = ℕ} 0 0
    → IsHeader header_reader (header_of (copy_in repair) copies.used.bytes))
    → Repairs copies repair
first-repaired spelt copies repair are bad begun at size shared hidden valid whole =
    let read = used-read spelt copies are in
    let long = are.whole.whole in (
      λ other. record {
        begun = begun;
        at = at;
        copy = valid copies.used.header.hdr_offset copies.used.header read long (inl refl);
        size = size ∙ long;
        shared = shared;
        hidden = hidden;
        whole = whole copies.used.header
            (subst (λ n. copy_of n copies.used.bytes ≡ Ok copies.used.header)
            (used-behind copies are bad) read) long refl;
      },
      λ good. absurd (bad good),
    )

-- ---- the secondary is written anew
pub second-repaired : Spelt → (copies : Copies) (repair : Repair) → AreCopies copies
    → copies.primary.state ≡ Good
    → copies.secondary.state ≢ Good → repair_stage_in repair ≡ Broken
    → place_in repair ≡ copies.used.header.hdr_size
    → length (copy_in repair) ≡ length copies.used.bytes → Agree (copy_in repair) copies.used.bytes
    → hides_copy (copy_in repair) ≡ hides_copy copies.used.bytes
    → ((from : ℕ) (h : BinHeader) → copy_of from copies.used.bytes ≡ Ok h
    → length copies.used.bytes ≡ h.hdr_size
    → (copies.used.header.hdr_size ≡ 0) ⊎ (copies.used.header.hdr_size ≡ h.hdr_size)
    → copy_of copies.used.header.hdr_size (copy_in repair)
    ≡ Ok (record h { hdr_offset = copies.used.header.hdr_size; salt = copies.secondary.salt }))
    → ((h : BinHeader) → copy_of 0 copies.used.bytes ≡ Ok h → length copies.used.bytes ≡ h.hdr_size
    → copies.used.header.hdr_size ≡ h.hdr_size
    → IsHeader header_reader (header_of copies.used.bytes (copy_in repair)))
    → Repairs copies repair
second-repaired spelt copies repair are good bad begun at size shared hidden valid whole =
    let read = used-read spelt copies are in
    let long = are.whole.whole in (
      λ other. absurd (other good),
      λ _. (
        bad,
        record {
          begun = begun;
          at = at;
          copy = valid copies.used.header.hdr_offset copies.used.header read long (inr refl);
          size = size ∙ long;
          shared = shared;
          hidden = hidden;
          whole = whole copies.used.header
              (subst (λ n. copy_of n copies.used.bytes ≡ Ok copies.used.header)
              (used-front copies are good) read) long refl;
        },
      ),
    )

-- ---- it lies on the disk
pub first-fits : (sizes : Sizes) (copies : Copies) (repair : Repair) → AreCopies copies
    → 2 * copies.used.header.hdr_size ≤ header_room sizes
    → place_in repair ≡ 0 → length (copy_in repair) ≡ length copies.used.bytes
    → FitsDisks sizes repair
first-fits sizes copies repair are room at size device has known =
    let n = copies.used.header.hdr_size in
    let long = size ∙ are.whole.whole in
    let fits = fits-disk sizes device n (copy_in repair) (copy_in repair) has known
    (size-pages n are.whole.one_of_nine) long long room in
    let some : 0 / device.size ≡ 0 = elim known [
      | inl is ↦ rw is refl
      | inr is ↦ rw is refl
    ] in
    subst (λ place. IsInDisk device.size device.atoms place (length (copy_in repair)))
    (sym (ap (λ place. place / device.size) at ∙ some)) fits.first

pub second-fits : (sizes : Sizes) (copies : Copies) (repair : Repair) → AreCopies copies
    → 2 * copies.used.header.hdr_size ≤ header_room sizes
    → place_in repair ≡ copies.used.header.hdr_size
    → length (copy_in repair) ≡ length copies.used.bytes → FitsDisks sizes repair
second-fits sizes copies repair are room at size device has known =
    let n = copies.used.header.hdr_size in
    let long = size ∙ are.whole.whole in
    let fits = fits-disk sizes device n (copy_in repair) (copy_in repair) has known
    (size-pages n are.whole.one_of_nine) long long room in
    subst (λ place. IsInDisk device.size device.atoms (place / device.size)
    (length (copy_in repair))) (sym at) fits.second
