-- What doesn't fit of a new volume.
use Rattle.std.specs.Prelude.{ℕ, ◌≡◌, ◌⊎◌, ◌-◌, ◌/◌, ◌&&◌, ◌||◌, nat_le, nat_lt, List, length}
use Rattle.std.specs.Prelude.{Option, Some, None, if◌then◌else◌}
use Rattle.base_terms.specs.declared.disk_sizes.Sizes.{Sizes}
use Rattle.luks_format.specs.Drawings.{Draw, drawn_by, drawn_len}
use Rattle.luks_format.specs.Metadata.{parts_for}
use Rattle.luks_format.specs.Wishes.{areas_end_for, keyslots_size_for}
use Rattle.luks_format.specs.declared.format_disk.fault.FormatFault.{FormatFault}
use Rattle.luks_format.specs.declared.format_disk.fault.FormatFault.TheVariants as faults
use Rattle.luks_format.specs.declared.wish.Wish.{Wish}
use Rattle.luks_meta.specs.declared.meta.Parts.{Parts}
use Rattle.luks_rules.specs.Areas.{header_bytes}
use Rattle.luks_slots.specs.NewSlots.{area_len}
use Rattle.luks_store.specs.Commits.{text_for}
use Rattle.seed_stream.specs.Streams.{bytes_of_seed}

-- the bytes that a seed gives to a new volume
abbrev pub draw_of : Wish → List ℕ → Draw
draw_of w seed = drawn_by w (bytes_of_seed seed (drawn_len w))

-- and the metadata that it then has
abbrev pub metadata_of : Wish → List ℕ → Parts
metadata_of w seed = parts_for w (draw_of w seed)

abbrev pub text_len : Wish → List ℕ → ℕ
text_len w seed = length (text_for (metadata_of w seed))

-- The first that doesn't fit, where the header's text has so many bytes: the keyslot's area; the
-- keyslots area, which ends on the header's disk where that is one of its own; the text; the
-- passphrase, which has 1 to 512 bytes; or the disk of the data, which has a block behind the
-- data's offset.
unfoldable pub unfit_by : Wish → Sizes → List ℕ → ℕ → Option FormatFault
unfit_by w sizes pass text_len =
    if nat_lt (keyslots_size_for w) (area_len w.key_size)
    then Some (faults.Area (area_len w.key_size) (keyslots_size_for w))
    else (if w.detached && nat_lt (header_bytes sizes) (areas_end_for w)
    then Some (faults.Area (areas_end_for w) (header_bytes sizes))
    else (if nat_lt (w.metadata_size - 4097) text_len
    then Some (faults.Json text_len (w.metadata_size - 4097))
    else (if nat_lt (length pass) 1 || nat_lt 512 (length pass)
    then Some (faults.Passphrase (length pass))
    else (if nat_le sizes.main_atoms (w.data_offset / sizes.atom) then Some faults.Blocks
    else None))))

-- of the volume that a seed gives
abbrev pub first_unfit : Wish → Sizes → List ℕ → List ℕ → Option FormatFault
first_unfit w sizes pass seed = unfit_by w sizes pass (text_len w seed)

-- why no volume is made: memory was wanted, or it is the first that doesn't fit
abbrev pub IsUnfit : Wish → Sizes → List ℕ → List ℕ → FormatFault → Type 0
IsUnfit w sizes pass seed fault =
    (fault ≡ faults.Memory) ⊎ (first_unfit w sizes pass seed ≡ Some fault)
