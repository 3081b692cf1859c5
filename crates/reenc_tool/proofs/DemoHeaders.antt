-- The header of the volume that a demonstration makes: one encrypted segment, and one keyslot.
use Rattle.std.proofs.Common.{◌≡◌, ◌∙◌, ◌^◌, ◌%◌, ◌<◌, ◌≤◌, true, false, ℕ, List, [], ◌∷◌, length, Option}
use Rattle.std.proofs.Common.{None, Some, Ok, inl, inr, ap, arith, refl, subst, sym, le_of_eq, take_all}
use Rattle.std.proofs.Common.{nat_le}
use Rattle.std.proofs.lemmas.Bool.{and_parts}
use Rattle.std.specs.List.{filter_map}
use Rattle.base_terms.specs.declared.disk_sizes.Sizes.{Sizes}
use Rattle.demo_clients.specs.DemoBays.{demo_passphrase, ram_device}
use Rattle.header_report.specs.Examinations.{sizes_alone}
use Rattle.luks_bin.specs.Fields.{is_size}
use Rattle.luks_format.specs.DiskFormat.Fitting.{draw_of, metadata_of}
use Rattle.luks_format.specs.DiskFormat.Volumes.{IsNewVolume}
use Rattle.luks_format.specs.DiskFormat.Written.{AreOpened, written_over}
use Rattle.luks_format.specs.Drawings.{Draw}
use Rattle.luks_format.specs.Metadata.{config_for, keyslot_for, parts_for, parts_with, segment_for}
use Rattle.luks_format.specs.Wishes.{FitsDisk, IsWish}
use Rattle.luks_format.specs.declared.format_disk.volume.NewVolume.{NewVolume}
use Rattle.luks_format.specs.declared.wish.Wish.{Wish}
use Rattle.luks_init.specs.Begins.{unready_by}
use Rattle.luks_init.specs.DiskInit.Slips.{holders_by}
use Rattle.luks_init.specs.DiskInit.Unlocking.{linear_by}
use Rattle.luks_meta.specs.declared.digest.Digest.{Digest}
use Rattle.luks_meta.specs.declared.keyslot.Keyslot.{Keyslot}
use Rattle.luks_meta.specs.declared.keyslot.Keyslot.TheVariants as keyslots
use Rattle.luks_meta.specs.declared.meta.Parts.{Parts}
use Rattle.luks_meta.specs.declared.segment.Segment.{Segment}
use Rattle.luks_rules.specs.Areas.{header_bytes}
use Rattle.luks_rules.specs.Idles.{idle_of}
use Rattle.luks_rules.specs.Segments.{goes_to_end, has_tail, in_progress, smallest_sector}
use Rattle.luks_slots.specs.Kinds.{held_by, holders}
use Rattle.luks_store.specs.Devices.{front_of}
use Rattle.luks_store.specs.Loads.{stored_in}
use Rattle.luks_store.specs.declared.loaded.Stored.{Stored}
use Rattle.memory_disks.specs.declared.ram_disk.RamDisk.{RamDisk}
use Rattle.reenc_recovery.specs.Placings.{RestsIn}
use Rattle.reenc_tool.specs.Demonstrating.{demo_formatting}
use Rattle.reenc_tool.specs.Making.{wish_of}

-- ---- headers of disks
-- two headers of the same bytes
pub same_header : (sizes : Sizes) (bytes : List ℕ) (one other : Stored)
    → stored_in sizes bytes ≡ Ok one → stored_in sizes bytes ≡ Ok other → one ≡ other
same_header sizes bytes one other is too =
    let e : Ok one ≡ Ok other = sym is ∙ too in cc

-- the front of one disk is all of it
pub front_whole : (disk : RamDisk) → front_of (sizes_alone (ram_device disk)) disk.bytes.items
    ≡ disk.bytes.items
front_whole disk = take_all (header_bytes (sizes_alone (ram_device disk))) disk.bytes.items
    (le_of_eq disk.whole)

-- ---- metadata of a new volume
-- it is encrypted
encrypted : (w : Wish) (d : Draw) (sizes : Sizes)
    → linear_by (idle_of (parts_for w d) sizes) ≡ false
unfolding idle_of in_progress parts_with config_for segment_for
encrypted w d sizes = refl

-- a conversion of it may begin under the passphrase
ready : (w : Wish) (d : Draw) (sizes : Sizes)
    → unready_by (idle_of (parts_for w d) sizes) demo_passphrase ≡ None
unfolding idle_of in_progress parts_with config_for segment_for unready_by
ready w d sizes = refl

-- one keyslot has its key
few_picked : {X Y : Type 0} (x : X) (o : Option Y)
    → length (filter_map (λ (z : X). o) (x ∷ [])) ≤ 1
few_picked x None = let e : 0 ≤ 1 = omega arith in e
few_picked x (Some y) = let e : 1 ≤ 1 = omega arith in e

few_holders : (w : Wish) (d : Draw) (o : Option Digest) → length (holders_by (parts_for w d) o) ≤ 1
unfolding holders parts_with
few_holders w d None = let e : 0 ≤ 1 = omega arith in e
few_holders w d (Some digest) =
    let slot : ℕ × Keyslot = (0, keyslots.Luks2 (keyslot_for w d)) in
    few_picked slot (held_by digest slot)

-- no byte lies behind the last whole atom of its disk
pub no_tail : (segments : List (ℕ × Segment)) (tail : ℕ) → tail ≡ 0
    → has_tail segments tail ≡ true → ⊥
no_tail segments tail none has =
    let both = and_parts (goes_to_end segments) (nat_le smallest_sector 0)
    (subst (λ (n : ℕ). has_tail segments n ≡ true) none has) in
    let e : false ≡ true = both.1 in cc

-- ---- the volume of a demonstration
demo_wish : IsWish (wish_of demo_formatting)
unfolding is_size
demo_wish = record {
  key = inr refl;
  sector = refl;
  page = refl;
  within = (let e : 1048576 < 2 ^ 64 = omega arith in e);
  some_rounds = (let e : 1 ≤ 1000 = omega arith in e);
  most_rounds = (let e : 1000 ≤ 268435456 = omega arith in e);
  size = refl;
}

demo_fits : (disk : RamDisk) → disk.atom ≡ 512
    → FitsDisk (wish_of demo_formatting) (sizes_alone (ram_device disk))
demo_fits disk atom = record {
  atom = inl atom;
  sector = ap (λ (n : ℕ). n % 512) atom;
  detached = refl;
  alone = λ one. refl;
  header = disk.fits;
  main = disk.fits;
}

-- By the header in a disk's bytes nothing is being converted, and its metadata are those of a new
-- volume.
pub record IsFormatted (disk : RamDisk) : Type 0 where
  pub atom : disk.atom ≡ 512
  pub rests : RestsIn (sizes_alone (ram_device disk)) disk.bytes.items
  pub seed : List ℕ
  pub stored : Stored
  pub held : stored_in (sizes_alone (ram_device disk)) disk.bytes.items ≡ Ok stored
  pub meta : stored.valid.meta ≡ metadata_of (wish_of demo_formatting) seed

pub is_formatted : AreOpened → (old disk : RamDisk) (pass seed bytes : List ℕ) (v : NewVolume)
    → old.atom ≡ 512 → disk.atom ≡ old.atom → disk.atoms ≡ old.atoms
    → IsNewVolume (wish_of demo_formatting) (sizes_alone (ram_device old)) pass seed v
    → disk.bytes.items ≡ written_over v bytes
    → RestsIn (sizes_alone (ram_device old)) (written_over v bytes) → IsFormatted disk
is_formatted opened old disk pass seed bytes v atom same_atom same_atoms is written rests =
    let sizes = sizes_alone (ram_device old) in
    let new = opened (wish_of demo_formatting) sizes pass seed v bytes demo_wish
    (demo_fits old atom) is in
    let alike : sizes ≡ sizes_alone (ram_device disk) =
    ap (λ (n : ℕ). sizes_alone (record (ram_device old) { size = n })) (sym same_atom)
    ∙ ap (λ (n : ℕ). sizes_alone (record (ram_device old) { size = disk.atom; atoms = n }))
    (sym same_atoms) in
    record {
      atom = same_atom ∙ atom;
      rests = subst (λ (z : Sizes). RestsIn z disk.bytes.items) alike
          (subst (λ (b : List ℕ). RestsIn sizes b) (sym written) rests);
      seed = seed;
      stored = new.stored;
      held = ap (λ (b : List ℕ). stored_in (sizes_alone (ram_device disk)) b) (sym (front_whole disk))
          ∙ subst (λ (z : Sizes). stored_in z (front_of z disk.bytes.items) ≡ Ok new.stored) alike
          (subst (λ (b : List ℕ). stored_in sizes (front_of sizes b) ≡ Ok new.stored) (sym written)
          new.loaded);
      meta = new.meta;
    }

-- what that says of each header that is in its bytes
module _ (disk : RamDisk) (formatted : IsFormatted disk) (stored : Stored)
    (held : stored_in (sizes_alone (ram_device disk)) disk.bytes.items ≡ Ok stored) where
  meta_is : stored.valid.meta ≡ metadata_of (wish_of demo_formatting) formatted.seed
  meta_is =
      ap (λ (s : Stored). s.valid.meta)
      (same_header (sizes_alone (ram_device disk)) disk.bytes.items stored formatted.stored held
      formatted.held)
      ∙ formatted.meta

  pub not_linear : (sizes : Sizes) → linear_by (idle_of stored.valid.meta sizes) ≡ true → ⊥
  not_linear sizes is =
      let e = ap (λ (m : Parts). linear_by (idle_of m sizes)) meta_is
      ∙ encrypted (wish_of demo_formatting) (draw_of (wish_of demo_formatting) formatted.seed) sizes in
      cc

  pub may_begin : (sizes : Sizes)
      → unready_by (idle_of stored.valid.meta sizes) demo_passphrase ≡ None
  may_begin sizes =
      ap (λ (m : Parts). unready_by (idle_of m sizes) demo_passphrase) meta_is
      ∙ ready (wish_of demo_formatting) (draw_of (wish_of demo_formatting) formatted.seed) sizes

  pub one_holder : (o : Option Digest) → length (holders_by stored.valid.meta o) ≤ 1
  one_holder o =
      subst (λ (m : Parts). length (holders_by m o) ≤ 1) (sym meta_is)
      (few_holders (wish_of demo_formatting) (draw_of (wish_of demo_formatting) formatted.seed) o)
