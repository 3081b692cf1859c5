-- What a new volume is (LUKS2 On-Disk Format Specification 1.1, section 3).
use Rattle.std.specs.Prelude.{ℕ, ◌≡◌, ◌*◌, List, Ok, None}
use Rattle.base_terms.specs.declared.disk_sizes.Sizes.{Sizes}
use Rattle.luks_format.specs.DiskFormat.Fitting.{draw_of, first_unfit, metadata_of}
use Rattle.luks_format.specs.declared.format_disk.volume.NewVolume.{NewVolume}
use Rattle.luks_bin.specs.Copies.{text_of}
use Rattle.luks_store.specs.Copying.Held.{primary_of, stage_in}
use Rattle.luks_store.specs.declared.header_copies.commit.Stage.TheVariants.{Begun}
use Rattle.luks_format.specs.Drawings.{AreDrawn, Draw, field_of, identifier_for}
use Rattle.luks_format.specs.declared.wish.Wish.{Wish}
use Rattle.luks_json.specs.Metas.{meta_from}
use Rattle.luks_meta.specs.declared.keyslot.Luks2.{Luks2}
use Rattle.luks_meta.specs.declared.meta.Parts.{Parts}
use Rattle.luks_rules.specs.Rules.{first_fault}
use Rattle.luks_slots.specs.NewSlots.{IsSlotAt}
use Rattle.luks_store.specs.Commits.{HoldsText, IsNextStored, IsPrepared, header_before, text_for}
use Rattle.luks_store.specs.declared.commit.Prepared.{Prepared}
use Rattle.luks_store.specs.declared.loaded.Stored.{Stored}

-- Both copies of a volume's first header, with the number 1, under this identifier and the salts
-- that are drawn: their text is that of the metadata. None of them is written yet; where both stand
-- on a disk, they are loaded.
pub record IsFirst (identifier : List ℕ) (d : Draw) (meta : Parts) (sizes : Sizes) (p : Prepared)
    : Type 0 where
  pub header : p.header
      ≡ record (header_before (field_of identifier) d.first_salt meta) { seqid = 1 }
  pub second_salt : p.second_salt ≡ d.second_salt
  pub sizes_are : p.sizes ≡ sizes
  pub bytes : HoldsText (text_for meta) p
  pub meta_is : meta_from p.header.hdr_size (text_of (primary_of p.copies)) ≡ Ok meta
  pub begun : stage_in p.copies ≡ Begun
  pub prepared : IsPrepared p
  pub loaded : (next : Stored) × IsNextStored p next

-- All of it fits. Its identifier, its metadata, which break no rule, and both copies of the header
-- are those that wish and seed give, by bytes of the lengths that are asked for. Its one keyslot has
-- the first area behind the copies, from which the passphrase unseals the key.
pub record IsNewVolume (w : Wish) (sizes : Sizes) (pass seed : List ℕ) (v : NewVolume) : Type 0
  where
    pub fits : first_unfit w sizes pass seed ≡ None
    pub identifier_is : v.identifier ≡ identifier_for w (draw_of w seed).identifier
    pub drawn : AreDrawn w (draw_of w seed)
    pub rules : first_fault (metadata_of w seed) sizes ≡ None
    pub first : IsFirst v.identifier (draw_of w seed) (metadata_of w seed) sizes v.slot.commit
    pub place : v.slot.area_offset ≡ 2 * w.metadata_size
    pub slot : (keyslot : Luks2) × IsSlotAt v.slot.area_offset sizes.atom pass w.iterations
        (draw_of w seed).key (draw_of w seed).slot (record { keyslot = keyslot; area = v.slot.area })
