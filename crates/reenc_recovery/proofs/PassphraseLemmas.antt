-- The content from which a volume starts is what its disks stood for under a passphrase.
use Rattle.std.proofs.Common.{◌≡◌, ℕ, List, Option, Some, Ok, sym, ◌∙◌, ap, subst}
use Rattle.base_terms.specs.declared.disk_sizes.Sizes.{Sizes}
use Rattle.luks_meta.specs.declared.meta.Parts.{Parts}
use Rattle.luks_rules.specs.declared.extents.Extent.{Extent}
use Rattle.luks_rules.specs.declared.valid.Checked.{Checked}
use Rattle.luks_store.specs.Devices.{front_of}
use Rattle.luks_store.specs.Loads.{stored_in}
use Rattle.luks_store.specs.declared.loaded.Stored.{Stored}
use Rattle.reenc_meta.specs.Placements.{IsPlacementOf}
use Rattle.reenc_recovery.specs.Images.{StandsFor}
use Rattle.reenc_recovery.specs.Keys.{used_by}
use Rattle.reenc_recovery.specs.Placings.{PlacesVolume}
use Rattle.reenc_recovery.specs.Volumes.{AreUnlocked, IsVolumeOf}
use Rattle.reenc_recovery.proofs.ImageLemmas.{same_stored}
use Rattle.reenc_recovery.proofs.PlacingLemmas.{OnePlacement, idle_too}
use Rattle.volume_machine.specs.States.{State}
use Rattle.volume_machine.specs.declared.keys.Keys.{Keys}

module _ {C : Type 0} (sector : C → ℕ) (sealed opened : C → ℕ → List ℕ → List ℕ) (sizes : Sizes)
    (key : Option (List ℕ)) (header : Stored) (first : List ℕ) (volume : State (Keys C))
    (is : IsVolumeOf sector sealed opened sizes key header first volume) where
  -- the metadata that its disks held are those that they hold
  same_meta : (m n : Stored) → stored_in sizes (front_of sizes first) ≡ Ok m
      → stored_in sizes (front_of sizes is.now) ≡ Ok n → n.valid.meta ≡ m.valid.meta
  same_meta m n was held =
      let holds = is.stands.holds in
      ap (λ (s : Stored). s.valid.meta)
      (same_stored (stored_in sizes (front_of sizes is.now)) n holds.stored held holds.held)
      ∙ ap (λ (c : Checked). c.meta) holds.same
      ∙ ap (λ (s : Stored). s.valid.meta)
      (same_stored (stored_in sizes (front_of sizes first)) header m holds.was was)

  pub stood_for : OnePlacement → (pass : List ℕ)
      → AreUnlocked sizes header.valid.meta first pass key
      → StandsFor sizes pass first is.starts.content
  stood_for placed pass unlocked =
      let starts = is.starts in
      let under = (is.stands.keeps.keys starts.old starts.new starts.content).1 starts.stands in
      let one = same_stored (stored_in sizes (front_of sizes first)) header under.stored
      is.stands.holds.was under.header in
      let are = placed under.stored.valid.meta sizes starts.stands.placement under.placement
      (subst (λ (m : Parts). PlacesVolume m sizes starts.stands.placement)
      (same_meta under.stored starts.stands.stored under.header starts.stands.header)
      starts.stands.placed) under.placed in
      let opened : IsPlacementOf under.stored.valid.meta sizes is.still.placement =
      subst (λ (m : Parts). IsPlacementOf m sizes is.still.placement)
      (same_meta under.stored is.still.stored under.header is.still.header)
      is.still.opening.placed in
      let has = subst (λ (s : Stored). AreUnlocked sizes s.valid.meta first pass key) one unlocked
      under.placement
      (idle_too under.stored.valid.meta sizes is.still.placement under.placement opened
      under.placed) in
      record {
        old = starts.old;
        new = starts.new;
        stands = under;
        old_is = has.0 ∙ sym (ap Some (starts.old_is
            ∙ ap (λ (e : Extent). used_by e.encryption key) are.old));
        new_is = has.1 ∙ sym (ap Some (starts.new_is
            ∙ ap (λ (e : Extent). used_by e.encryption key) are.new));
      }
