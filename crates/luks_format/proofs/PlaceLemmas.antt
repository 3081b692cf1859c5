-- The first keyslot's area lies at the lowest place.
use Rattle.std.proofs.Common.{ℕ, ◌*◌, ◌≤◌, [], arith}
use Rattle.std.proofs.lemmas.List.Elements.{All-nil}
use Rattle.luks_bin.proofs.FieldLemmas.{size-least, size-most}
use Rattle.luks_format.proofs.SizeLemmas.{copies-page, pages-whole}
use Rattle.luks_format.specs.Drawings.{Draw}
use Rattle.luks_format.specs.Metadata.{config_for, parts_for, parts_with}
use Rattle.luks_format.specs.Wishes.{IsWish, keyslots_size_for}
use Rattle.luks_format.specs.declared.wish.Wish.{Wish}
use Rattle.luks_rules.specs.Areas.{areas_of}
use Rattle.luks_slots.specs.Gaps.{IsLowest}
use Rattle.luks_slots.specs.NewSlots.{area_len}
use Rattle.sector_disk.specs.Geometry.{IsAtom}

pub lowest : (w : Wish) (d : Draw) (atom : ℕ) → IsWish w → IsAtom atom
    → area_len w.key_size ≤ keyslots_size_for w
    → IsLowest (record (parts_for w d) { keyslots = [] }) [] atom (area_len w.key_size)
    (2 * w.metadata_size)
unfolding parts_with config_for areas_of keyslots_size_for
lowest w d atom wish known room =
    let least = size-least w.metadata_size wish.size in
    let most = size-most w.metadata_size wish.size in
    record {
      free = record {
        whole = pages-whole (2 * w.metadata_size) atom known
            (copies-page w.metadata_size wish.size);
        behind = omega (arith, least);
        before = omega (arith, least, room);
        within = omega (arith, room, most);
        apart = All-nil _;
      };
      lowest = λ other free. (let from = free.behind in omega (arith, least, from));
    }
