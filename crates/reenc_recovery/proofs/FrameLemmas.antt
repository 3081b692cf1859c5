-- What is written in front of the keyslots' areas leaves what an image stands for, as long as its
-- header says the same.
use Rattle.std.proofs.Common.{◌≡◌, inl, ℕ, ◌+◌, ◌-◌, ◌*◌, ◌<◌, ◌≤◌, List, take, drop, Ok}
use Rattle.std.proofs.Common.{sym}
use Rattle.std.proofs.Common.{◌∙◌, ap, subst, arith}
use Rattle.std.proofs.lemmas.List.{drop-drop}
use Rattle.base_terms.specs.declared.disk_sizes.Sizes.{Sizes}
use Rattle.sector_disk.specs.DiskViews.Parts.{block_at, value_in}
use Rattle.luks_meta.specs.declared.meta.Parts.{Parts}
use Rattle.luks_rules.specs.Areas.{areas_begin, areas_end}
use Rattle.luks_rules.specs.declared.valid.Checked.{Checked}
use Rattle.luks_store.specs.Devices.{front_of}
use Rattle.luks_store.specs.Loads.{stored_in}
use Rattle.luks_store.specs.declared.loaded.Stored.{Stored}
use Rattle.reenc_meta.specs.Placements.{IsPlacementOf}
use Rattle.reenc_meta.specs.Places.{AreOne, IsRightFor}
use Rattle.reenc_meta.specs.declared.placement.Placement.{Placement}
use Rattle.reenc_recovery.specs.Images.{HoldsBlock, HoldsBlocks, StandsUnder, seals_in}
use Rattle.reenc_recovery.specs.Keys.{IsKeyOf}
use Rattle.reenc_recovery.specs.Placings.{PlacesVolume}
use Rattle.reenc_recovery.proofs.ImageLemmas.{same_stored}
use Rattle.reenc_recovery.proofs.PlacingLemmas.{OnePlacement}
use Rattle.volume_machine.specs.Pieces.{place_in}

pub same_from : (n k : ℕ) (one other : List ℕ) → n ≤ k → drop n one ≡ drop n other
    → drop k one ≡ drop k other
same_from n k one other behind same =
    let whole : k ≡ n + (k - n) = omega (arith, behind) in
    subst (λ (i : ℕ). drop i one ≡ drop i other) (sym whole)
    (sym (drop-drop (k - n) n one) ∙ ap (λ xs. drop (k - n) xs) same ∙ drop-drop (k - n) n other)

same_block_at : (atom n place : ℕ) (one other : List ℕ) → n ≤ place * atom
    → drop n one ≡ drop n other → block_at atom one place ≡ block_at atom other place
same_block_at atom n place one other behind same =
    ap (λ xs. take atom xs) (same_from n (place * atom) one other behind same)

-- each block lies behind the header and the keyslots' areas
abbrev LieBehind : Parts → ℕ → Placement → Type 0
LieBehind m atom p =
    (b : ℕ) → b < p.map.blocks → areas_end m.config ≤ place_in p.map b * atom

behind_too : (m : Parts) (sizes : Sizes) (p q : Placement) → AreOne q p → IsRightFor m sizes p
    → LieBehind m sizes.atom q
behind_too m sizes p q are right b below =
    let count = are.blocks in
    let end = right.behind b (omega (arith, below, count)) in
    subst (λ (place : ℕ). areas_end m.config ≤ place * sizes.atom) (sym (are.places b below))
    (subst (λ (a : ℕ). areas_end m.config ≤ place_in p.map b * a) right.atom end)

holds_still : (m : Parts) (atom : ℕ) (p : Placement) (old new first image : List ℕ)
    (content : List (List ℕ)) → LieBehind m atom p
    → drop (areas_begin m.config) image ≡ drop (areas_begin m.config) first
    → HoldsBlocks atom p old new first content → HoldsBlocks atom p old new image content
holds_still m atom p old new first image content lie same holds = record {
  count = holds.count;
  blocks = λ b below.
      let end = lie b below in
      let begin : areas_begin m.config ≤ place_in p.map b * atom = omega (arith, end) in
      subst (λ (bytes : List ℕ). HoldsBlock p.map (seals_in atom p old new) b (value_in content b)
      bytes)
      (sym (same_block_at atom (areas_begin m.config) (place_in p.map b) image first begin same))
      (holds.blocks b below);
}

pub stands_still : OnePlacement → (sizes : Sizes) (old new first image : List ℕ)
    (content : List (List ℕ)) (stored now : Stored) (p : Placement)
    → stored_in sizes (front_of sizes first) ≡ Ok stored
    → IsPlacementOf stored.valid.meta sizes p → IsRightFor stored.valid.meta sizes p
    → stored_in sizes (front_of sizes image) ≡ Ok now → now.valid ≡ stored.valid
    → drop (areas_begin stored.valid.meta.config) image
    ≡ drop (areas_begin stored.valid.meta.config) first
    → StandsUnder sizes old new first content → StandsUnder sizes old new image content
stands_still placed sizes old new first image content stored now p held is right now_held valid
    same stands =
    let one = same_stored (stored_in sizes (front_of sizes first)) stands.stored stored
    stands.header held in
    let q = stands.placement in
    let here : PlacesVolume stored.valid.meta sizes q =
    subst (λ (s : Stored). PlacesVolume s.valid.meta sizes q) one stands.placed in
    let meta : stands.stored.valid.meta ≡ now.valid.meta =
    ap (λ (s : Stored). s.valid.meta) one ∙ ap (λ (c : Checked). c.meta) (sym valid) in
    record {
      stored = now;
      header = now_held;
      placement = q;
      placed = subst (λ (m : Parts). PlacesVolume m sizes q) meta stands.placed;
      old_key = subst (λ (m : Parts). IsKeyOf m q.old old) meta stands.old_key;
      new_key = subst (λ (m : Parts). IsKeyOf m q.new new) meta stands.new_key;
      holds = holds_still stored.valid.meta sizes.atom q old new first image content
          (behind_too stored.valid.meta sizes p q (placed stored.valid.meta sizes q p here (inl is))
          right) same stands.holds;
    }
