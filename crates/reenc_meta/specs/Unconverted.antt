-- A volume of which nothing is converted, as a conversion may begin with it.
use Rattle.std.specs.Prelude.{◌≡◌, ◌+◌, ◌-◌, ◌/◌, ◌%◌, ◌^◌, ◌<◌, ◌≤◌, true, false, [], ◌∷◌, map}
use Rattle.std.specs.Prelude.{None}
use Rattle.std.specs.Prelude.{IfSome, IsSome}
use Rattle.std.specs.List.{All}
use Rattle.base_terms.specs.declared.disk_sizes.Sizes.{Sizes}
use Rattle.luks_meta.specs.Configs.{is_foreign, mandatory}
use Rattle.luks_meta.specs.declared.meta.Parts.{Parts}
use Rattle.luks_meta.specs.declared.segment.SegmentSize.TheVariants.{Dynamic}
use Rattle.luks_rules.specs.Areas.{areas_of, main_bytes}
use Rattle.luks_rules.specs.Conversions.{conversions_of}
use Rattle.luks_rules.specs.Extents.{extent_of}
use Rattle.luks_rules.specs.Plain.{IsWholeSize}
use Rattle.luks_rules.specs.References.{is_there}
use Rattle.luks_rules.specs.Segments.{bytes_by, whole_blocks}
use Rattle.luks_rules.specs.declared.extents.Mark.TheVariants as marks
use Rattle.luks_rules.specs.declared.idle.Idle.{Idle}

-- One segment, which lies on the disk in whole atoms, with numbers of 64 bits, and is under a
-- digest where it is encrypted; and digests and keyslots, none of which is of a conversion.
pub record IsUnconverted (m : Parts) (sizes : Sizes) (v : Idle) : Type 0 where
  pub own : All (λ text. is_foreign text ≡ false) (mandatory m.config.requirements)
  pub keyslots : conversions_of m.keyslots ≡ []
  pub areas : All (λ a. (a.offset % sizes.atom ≡ 0) × (a.size % sizes.atom ≡ 0))
      (areas_of m.keyslots)
  pub listed : All (λ d. All (λ k. is_there m.keyslots k ≡ true) d.1.keyslots) m.digests
  pub segments : map (extent_of m.digests) m.segments ≡ v.segment ∷ []
  pub blocks : v.blocks ≡ whole_blocks sizes v.segment.offset v.segment.size
  pub whole : v.segment.offset % sizes.atom ≡ 0
  pub size : IsWholeSize sizes.atom v.segment.size
  pub on_disk : v.segment.offset + bytes_by (main_bytes sizes) v.segment.offset v.segment.size
      ≤ main_bytes sizes
  pub sectors : IfSome v.segment.encryption
      (λ e. (0 < e.sector_size) × (sizes.atom % e.sector_size ≡ 0))
  pub numbers : IfSome v.segment.encryption (λ e. e.iv_tweak
      + bytes_by (main_bytes sizes) v.segment.offset v.segment.size / 512 ≤ 2 ^ 64 - 1)
  pub digest : IsSome v.segment.encryption → IsSome v.segment.digest

-- the main disk, as the volume without a header
abbrev pub whole_disk : Sizes → Idle
whole_disk sizes = record {
  segment =
      record {
        number = 0;
        offset = 0;
        size = Dynamic;
        encryption = None;
        mark = marks.Plain;
        digest = None;
      };
  blocks = sizes.main_atoms;
}
