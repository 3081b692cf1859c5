-- The metadata with which a conversion ends: the volume is the new segment.
use Rattle.std.specs.Prelude.{ℕ, ◌≡◌, ◌+◌, ◌*◌, ◌==◌, ◌&&◌, ◌||◌, not, nat_le, Bool, true, false}
use Rattle.std.specs.Prelude.{List, [], ◌∷◌, map, codes, Option, Some, None, IsSomeAnd}
use Rattle.std.specs.Prelude.{option_and_then, if◌then◌else◌}
use Rattle.std.specs.List.{filter, list_any}
use Rattle.base_terms.specs.declared.disk_sizes.Sizes.{Sizes}
use Rattle.json_members.specs.Decimals.{number_of}
use Rattle.luks_meta.specs.Configs.{is_foreign}
use Rattle.luks_meta.specs.declared.config.Requirements.{Requirements}
use Rattle.luks_meta.specs.declared.digest.Digest.{Digest}
use Rattle.luks_meta.specs.declared.meta.Parts.{Parts}
use Rattle.luks_meta.specs.declared.segment.Segment.{Segment}
use Rattle.luks_meta.specs.declared.segment.SegmentSize.{SegmentSize}
use Rattle.luks_meta.specs.declared.token.Token.{Token}
use Rattle.luks_rules.specs.Areas.{main_bytes}
use Rattle.luks_rules.specs.Idles.{idle_of}
use Rattle.luks_rules.specs.Plans.{blocks_in, same_digest}
use Rattle.luks_rules.specs.References.{lists}
use Rattle.luks_rules.specs.Rules.{first_fault}
use Rattle.luks_rules.specs.Shapes.{stays_dynamic}
use Rattle.luks_rules.specs.declared.extents.Mark.TheVariants as marks
use Rattle.luks_rules.specs.declared.idle.Idle.{Idle}
use Rattle.luks_rules.specs.declared.shape.Progress.{Progress}
use Rattle.reenc_meta.specs.Moves.{old_blocks}
use Rattle.reenc_meta.specs.Wishes.{size_by}
use Rattle.serde_json.specs.Data.{Data, array, Items}
use Rattle.serde_json.specs.Data.{no_items, item, Members, no_members, member, put}
use Rattle.serde_json.specs.Find.{as_array, as_str, get_member}

-- all blocks are new
pub record MayFinish (p : Progress) : Type 0 where
  pub closed : p.plan.zone ≡ 0
  pub none_left : old_blocks p.conversion.direction p.plan ≡ 0

-- ---- what goes: the old digest, the keyslots that it alone lists, and that of the conversion
abbrev pub is_old_digest : Progress → ℕ × Digest → Bool
is_old_digest p d = same_digest p.old.digest (Some d.0)

abbrev pub old_lists : Progress → List (ℕ × Digest) → ℕ → Bool
old_lists p digests n = list_any (λ d. is_old_digest p d && lists d.1.keyslots n) digests

abbrev pub other_lists : Progress → List (ℕ × Digest) → ℕ → Bool
other_lists p digests n = list_any (λ d. not (is_old_digest p d) && lists d.1.keyslots n) digests

unfoldable pub is_dropped : Progress → List (ℕ × Digest) → ℕ → Bool
is_dropped p digests n =
    n == p.conversion.keyslot || (old_lists p digests n && not (other_lists p digests n))

-- ---- tokens: the dropped numbers go out of their lists of keyslots
abbrev pub is_number_in : (ℕ → Bool) → Option ℕ → Bool
is_number_in dropped None = false
is_number_in dropped (Some n) = dropped n

-- the decimal text of a dropped number
abbrev pub names_dropped : (ℕ → Bool) → Data → Bool
names_dropped dropped d = is_number_in dropped (option_and_then number_of (as_str d))

abbrev pub items_kept : (ℕ → Bool) → Items → Items
items_kept dropped no_items = no_items
items_kept dropped (item d ds) =
    if names_dropped dropped d then items_kept dropped ds else item d (items_kept dropped ds)

abbrev pub with_list : (ℕ → Bool) → Members → Option Items → Members
with_list dropped ms None = ms
with_list dropped ms (Some ds) = put (codes "keyslots") (array (items_kept dropped ds)) ms

unfoldable pub token_kept : (ℕ → Bool) → Token → Token
token_kept dropped t = record {
  members =
      with_list dropped t.members
      (option_and_then as_array (get_member (codes "keyslots") t.members));
}

-- ---- requirements: the profile's string goes, and the list with it where nothing else is there
abbrev pub has_no_members : Members → Bool
has_no_members no_members = true
has_no_members (member k d ms) = false

abbrev pub has_no_texts : List (List ℕ) → Bool
has_no_texts [] = true
has_no_texts (text ∷ texts) = false

abbrev pub unless_empty : Requirements → Option Requirements
unless_empty r =
    if has_no_texts r.mandatory && has_no_members r.rest then None else Some r

abbrev pub without_profile : Requirements → Requirements
without_profile r = record r { mandatory = filter is_foreign r.mandatory }

abbrev pub requirements_after : Option Requirements → Option Requirements
requirements_after None = None
requirements_after (Some r) = unless_empty (without_profile r)

-- ---- the segment: the new one without flags
-- it goes to the disk's end where the old one did and all blocks reach it, unless they were shifted
abbrev pub finished_size : Sizes → Progress → SegmentSize
finished_size sizes p =
    size_by
    (stays_dynamic p.conversion.resilience p.old.size
    && nat_le (main_bytes sizes) (p.new.offset + blocks_in p.plan * sizes.atom))
    (blocks_in p.plan * sizes.atom)

abbrev pub finished_segment : Sizes → Progress → ℕ × Segment → ℕ × Segment
finished_segment sizes p s = (0, record s.1 { size = finished_size sizes p; flags = None })

abbrev pub is_new_whole : Progress → ℕ × Segment → Bool
is_new_whole p s = s.0 == p.new.number

-- ---- the digests: the new one lists that segment
abbrev pub finished_numbers : Progress → ℕ × Digest → List ℕ
finished_numbers p d =
    if same_digest p.new.digest (Some d.0) then 0 ∷ [] else []

abbrev pub finished_digest : Progress → ℕ × Digest → ℕ × Digest
finished_digest p d = (d.0, record d.1 { segments = finished_numbers p d })

-- ---- the metadata
unfoldable pub finished : Sizes → Progress → Parts → Parts
finished sizes p m =
    let dropped = is_dropped p m.digests in
    record m {
      keyslots = filter (λ slot. not (dropped slot.0)) m.keyslots;
      tokens = map (λ t. (t.0, token_kept dropped t.1)) m.tokens;
      segments = map (finished_segment sizes p) (filter (is_new_whole p) m.segments);
      digests =
          map (finished_digest p) (filter (λ d. not (is_old_digest p d)) m.digests);
      config =
          record m.config { requirements = requirements_after m.config.requirements };
    }

-- the new segment as the whole volume, with all its blocks
pub record IsNewVolume (sizes : Sizes) (p : Progress) (v : Idle) : Type 0 where
  pub blocks : v.blocks ≡ blocks_in p.plan
  pub segment : v.segment
      ≡ record p.new { number = 0; size = finished_size sizes p; mark = marks.Plain }

-- The next metadata are those of a volume of which nothing is converted, and which is the new
-- segment; they break no rule, and are read so, with as many blocks.
pub record IsFinished (m : Parts) (sizes : Sizes) (p : Progress) (next : Parts) : Type 0 where
  pub is : next ≡ finished sizes p m
  pub valid : first_fault next sizes ≡ None
  pub idle : IsSomeAnd (idle_of next sizes) (IsNewVolume sizes p)
