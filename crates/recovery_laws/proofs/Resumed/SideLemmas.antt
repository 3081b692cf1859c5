-- A header that tells of a side what another one tells has that side sealed the same, under the same key.
use Rattle.std.proofs.Common.{◌≡◌, ◌∙◌, ◌∷◌, ℕ, true, List, [], None, Option, Some, ap, refl, subst}
use Rattle.std.proofs.Common.{sym}
use Rattle.std.specs.Prelude.{option_and_then, option_map}
use Rattle.luks_meta.specs.declared.digest.Digest.{Digest}
use Rattle.luks_meta.specs.declared.meta.Parts.{Parts}
use Rattle.luks_meta.specs.declared.segment.Encryption.{Encryption}
use Rattle.luks_meta.specs.declared.segment.Segment.{Segment}
use Rattle.luks_rules.specs.References.{value_at}
use Rattle.luks_rules.specs.declared.extents.Extent.{Extent}
use Rattle.luks_slots.specs.Unlocks.{matches}
use Rattle.reenc_recovery.specs.Keys.{IsKeyBy, IsKeyOf}
use Rattle.recovery_laws.proofs.Resumed.SaysLemmas.{SidesTellKeys}
use Rattle.recovery_laws.proofs.Resumed.WorkerDeeds.{head-same}
use Rattle.hotzone.specs.ZoneEvents.Sides.{SidesAreTold}
use Rattle.hotzone.specs.ZoneEvents.Tellings.{digest_on, for_one, numbered, side_alone}
use Rattle.hotzone.specs.ZoneEvents.Tellings.{whole_segment}

-- ---- digests
-- what a digest tells of its key doesn't hang on the segments that it lists
matches-one : (d : Digest) (key : List ℕ) → matches (for_one d) key ≡ matches d key
unfolding matches
matches-one d key = refl

-- lists of one numbered object
only-one : {A : Type 0} (j k : ℕ) (a b : A)
    → ◌≡◌ {A = List (ℕ × A)} ((j, a) ∷ []) ((k, b) ∷ []) → a ≡ b
only-one {A} j k a b e = ap (λ (x : ℕ × A). x.1) (head-same e)

none-one : {A : Type 0} (k : ℕ) (b : A) → ◌≡◌ {A = List (ℕ × A)} [] ((k, b) ∷ []) → ⊥
none-one k b e = cc

module _ (m n : Parts) (e f : Extent) (same : side_alone n f ≡ side_alone m e) where
  pub same-encryption : f.encryption ≡ e.encryption
  unfolding side_alone
  same-encryption =
      ap (λ (s : Segment). s.encryption)
      (only-one 0 0 (whole_segment f) (whole_segment e) (ap (λ (p : Parts). p.segments) same))

  same-digests : numbered f.digest (digest_on n f) ≡ numbered e.digest (digest_on m e)
  unfolding side_alone
  same-digests = ap (λ (p : Parts). p.digests) same

  -- the same key, by the digests of the segments
  by-digest : (j : Option ℕ) (k : ℕ) (d : Digest) (key : List ℕ) (c : Encryption)
      → value_at m.digests k ≡ Some d → matches d key ≡ true
      → ◌≡◌ {A = List (ℕ × Digest)}
      (numbered j (option_map for_one (option_and_then (value_at n.digests) j)))
      ((k, for_one d) ∷ []) → IsKeyBy n (Some c) j key
  by-digest None k d key c found is told = absurd (none-one k (for_one d) told)
  by-digest (Some i) k d key c found is told = go (value_at n.digests i) refl told
    where
      go : (o : Option Digest) → value_at n.digests i ≡ o
          → ◌≡◌ {A = List (ℕ × Digest)} (numbered (Some i) (option_map for_one o))
          ((k, for_one d) ∷ [])
          → (x : Digest) × (value_at n.digests i ≡ Some x) × (matches x key ≡ true)
      go None there told = absurd (none-one k (for_one d) told)
      go (Some x) there told = (
        x,
        there,
        sym (matches-one x key)
            ∙ ap (λ y. matches y key) (only-one i k (for_one x) (for_one d) told)
            ∙ matches-one d key ∙ is,
      )

  by-encryption : (a b : Option Encryption) (k : Option ℕ) (key : List ℕ) → b ≡ a
      → e.digest ≡ k → IsKeyBy m a k key → IsKeyBy n b f.digest key
  by-encryption None b k key alike digest is =
      subst (λ (x : Option Encryption). IsKeyBy n x f.digest key) (sym alike) is
  by-encryption (Some c) b None key alike digest is = absurd is
  by-encryption (Some c) b (Some k) key alike digest (d, found, is) =
      subst (λ (x : Option Encryption). IsKeyBy n x f.digest key) (sym alike)
      (by-digest f.digest k d key c found is
      (same-digests
      ∙ ap (λ o. numbered o (option_map for_one (option_and_then (value_at m.digests) o))) digest
      ∙ ap (λ o. numbered (Some k) (option_map for_one o)) found))

  pub same-key : (key : List ℕ) → IsKeyOf m e key → IsKeyOf n f key
  same-key key is = by-encryption e.encryption f.encryption e.digest key same-encryption refl is

-- ---- by what is told of sides
pub sides-tell-keys : SidesAreTold → SidesTellKeys
sides-tell-keys told sizes from to m side e atom parts valid is same =
    let side_told = told sizes from to m side e atom parts valid is same in
    record {
      meta = side_told.meta;
      parts = side_told.parts;
      valid = side_told.valid;
      segment = side_told.segment;
      is = side_told.is;
      encryption = same-encryption m side_told.meta e side_told.segment side_told.same;
      key = same-key m side_told.meta e side_told.segment side_told.same;
    }
