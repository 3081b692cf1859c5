-- A new volume that is made by what is drawn is the one that the seed gives.
use Rattle.std.proofs.Common.{◌≡◌, ℕ, ◌*◌, List, length, None, ◌∙◌, ap, subst}
use Rattle.base_terms.specs.declared.disk_sizes.Sizes.{Sizes}
use Rattle.luks_format.specs.DiskFormat.Fitting.{draw_of, metadata_of, unfit_by}
use Rattle.luks_format.specs.DiskFormat.Volumes.{IsFirst, IsNewVolume}
use Rattle.luks_format.specs.declared.format_disk.volume.NewVolume.{NewVolume}
use Rattle.luks_format.specs.Drawings.{AreDrawn, Draw, drawn_by, drawn_len, identifier_for}
use Rattle.luks_format.specs.Metadata.{parts_for}
use Rattle.luks_format.specs.declared.wish.Wish.{Wish}
use Rattle.luks_meta.specs.declared.keyslot.Luks2.{Luks2}
use Rattle.luks_meta.specs.declared.meta.Parts.{Parts}
use Rattle.luks_rules.specs.Rules.{first_fault}
use Rattle.luks_slots.specs.NewSlots.{IsSlotAt}
use Rattle.luks_store.specs.Commits.{text_for}
use Rattle.seed_stream.specs.Streams.{bytes_of_seed}

pub drawn-is : (w : Wish) (seed bytes : List ℕ) (d : Draw) → d ≡ drawn_by w bytes
    → bytes ≡ bytes_of_seed seed (drawn_len w) → d ≡ draw_of w seed
drawn-is w seed bytes d is stretched = is ∙ ap (drawn_by w) stretched

-- what was made, by what was drawn
pub record Making (w : Wish) (sizes : Sizes) (pass seed : List ℕ) (v : NewVolume) (d : Draw)
    (meta : Parts) : Type 0 where
  pub drawn : d ≡ draw_of w seed
  pub lengths : AreDrawn w d
  pub metadata : meta ≡ parts_for w d
  pub fits : unfit_by w sizes pass (length (text_for meta)) ≡ None
  pub rules : first_fault (parts_for w d) sizes ≡ None
  pub identifier : v.identifier ≡ identifier_for w d.identifier
  pub first : IsFirst v.identifier d meta sizes v.slot.commit
  pub place : v.slot.area_offset ≡ 2 * w.metadata_size
  pub keyslot : Luks2
  pub slot : IsSlotAt v.slot.area_offset sizes.atom pass w.iterations d.key d.slot
      (record { keyslot = keyslot; area = v.slot.area })

pub made : (w : Wish) (sizes : Sizes) (pass seed : List ℕ) (v : NewVolume) (d : Draw)
    (meta : Parts) → Making w sizes pass seed v d meta → IsNewVolume w sizes pass seed v
made w sizes pass seed v d meta is =
    let metadata : meta ≡ metadata_of w seed = is.metadata ∙ ap (parts_for w) is.drawn in
    record {
      fits = subst (λ (m : Parts). unfit_by w sizes pass (length (text_for m)) ≡ None) metadata
          is.fits;
      identifier_is = is.identifier ∙ ap (λ (e : Draw). identifier_for w e.identifier) is.drawn;
      drawn = subst (AreDrawn w) is.drawn is.lengths;
      rules = subst (λ (e : Draw). first_fault (parts_for w e) sizes ≡ None) is.drawn is.rules;
      first = subst (λ (m : Parts). IsFirst v.identifier (draw_of w seed) m sizes v.slot.commit) metadata
          (subst (λ (e : Draw). IsFirst v.identifier e meta sizes v.slot.commit) is.drawn is.first);
      place = is.place;
      slot = (
        is.keyslot,
        subst (λ (e : Draw). IsSlotAt v.slot.area_offset sizes.atom pass w.iterations e.key e.slot
            (record { keyslot = is.keyslot; area = v.slot.area })) is.drawn is.slot,
      );
    }
