-- What is known of a volume for which nothing is unfit.
use Rattle.std.proofs.Common.{◌≡◌, ℕ, ◌-◌, ◌/◌, ◌<◌, ◌≤◌, Bool, true, false, Option}
use Rattle.std.proofs.Common.{◌&&◌, List, Some, None, ◌+◌, refl, arith}
use Rattle.std.proofs.lemmas.Bool.{leb-false, ltb-false}
use Rattle.base_terms.specs.declared.disk_sizes.Sizes.{Sizes}
use Rattle.luks_format.specs.DiskFormat.Fitting.{unfit_by}
use Rattle.luks_format.specs.declared.format_disk.fault.FormatFault.{FormatFault}
use Rattle.luks_bin.proofs.FieldLemmas.{size-least}
use Rattle.luks_format.specs.Drawings.{Draw}
use Rattle.luks_format.specs.Metadata.{config_for, parts_for, parts_with}
use Rattle.luks_format.specs.Wishes.{IsWish, areas_end_for, keyslots_size_for}
use Rattle.luks_format.specs.declared.wish.Wish.{Wish}
use Rattle.luks_rules.specs.Areas.{header_bytes}
use Rattle.luks_slots.specs.NewSlots.{area_len}
use Rattle.std.specs.Prelude.{if◌then◌else◌}

-- one test found no fault, nor did those behind it
passes : (test : Bool) (fault : FormatFault) (later : Option FormatFault)
    → (if test then Some fault else later) ≡ None → (test ≡ false) × (later ≡ None)
passes true fault later is = absurd cc
passes false fault later is = (refl, is)

not-both : (a b : Bool) → (a && b) ≡ false → a ≡ true → b ≡ false
not-both true b none both = none
not-both false b none both = absurd cc

-- The keyslot's area and the text have room, the keyslots area ends on the header's disk where that
-- is one of its own, and the disk of the data has a block.
pub record Fits (w : Wish) (sizes : Sizes) (len : ℕ) : Type 0 where
  pub area : area_len w.key_size ≤ keyslots_size_for w
  pub front : w.detached ≡ true → areas_end_for w ≤ header_bytes sizes
  pub text : len ≤ w.metadata_size - 4097
  pub block : w.data_offset / sizes.atom < sizes.main_atoms

pub all-fits : (w : Wish) (sizes : Sizes) (pass : List ℕ) (len : ℕ)
    → unfit_by w sizes pass len ≡ None → Fits w sizes len
unfolding unfit_by
all-fits w sizes pass len is =
    let area = passes _ _ _ is in
    let front = passes _ _ _ area.1 in
    let text = passes _ _ _ front.1 in
    let some = passes _ _ _ text.1 in
    let block = passes _ _ _ some.1 in
    record {
      area = ltb-false (keyslots_size_for w) (area_len w.key_size) area.0;
      front = λ own. ltb-false (header_bytes sizes) (areas_end_for w)
          (not-both w.detached _ front.0 own);
      text = ltb-false (w.metadata_size - 4097) len text.0;
      block = leb-false sizes.main_atoms (w.data_offset / sizes.atom) block.0;
    }

-- the sizes of the metadata speak of copies of the size that is wished
pub text-size : (w : Wish) (d : Draw) → IsWish w
    → (parts_for w d).config.json_size + 4096 ≡ w.metadata_size
unfolding parts_with config_for
text-size w d wish = let least = size-least w.metadata_size wish.size in omega (arith, least)
