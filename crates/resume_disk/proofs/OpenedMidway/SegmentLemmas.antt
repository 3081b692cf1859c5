-- The whole segments of a conversion: where they are encrypted their sectors are of a known size.
use Rattle.std.proofs.Common.{◌≡◌, ℕ, true, List, [], ◌∷◌, ◌++◌, map, Option, Some, None}
use Rattle.std.proofs.Common.{subst}
use Rattle.std.specs.List.{AllByRecursion}
use Rattle.std.specs.Option.{IfSome}
use Rattle.base_terms.specs.declared.disk_sizes.Sizes.{Sizes}
use Rattle.luks_meta.specs.Metas.{IsMeta}
use Rattle.luks_meta.specs.Segments.{IsEncryption, IsSegment, is_sector_size}
use Rattle.luks_meta.specs.declared.digest.Digest.{Digest}
use Rattle.luks_meta.specs.declared.meta.Parts.{Parts}
use Rattle.luks_meta.specs.declared.segment.Encryption.{Encryption}
use Rattle.luks_meta.specs.declared.segment.Segment.{Segment}
use Rattle.luks_rules.specs.Extents.{extent_of}
use Rattle.luks_rules.specs.Shapes.{progress_of}
use Rattle.luks_rules.specs.States.{IsConverting, IsPlaced, IsSound}
use Rattle.luks_rules.specs.declared.extents.Extent.{Extent}
use Rattle.luks_rules.specs.declared.shape.Progress.{Progress}
use Rattle.hotzone.proofs.ZoneEvents.GroundLemmas.{busy-of, one-progress}

-- ---- the encryption of one of some segments
-- of one behind some others; of the one behind it
encryption_at : (ds : List (ℕ × Digest)) (ss : List (ℕ × Segment)) (before behind : List Extent)
    (e : Extent) → map (extent_of ds) ss ≡ before ++ e ∷ behind
    → AllByRecursion (λ s. IsSegment s.1) ss → IfSome e.encryption IsEncryption
encryption_at ds [] [] behind e is right = absurd (cc)
encryption_at ds [] (x ∷ before) behind e is right = absurd (cc)
encryption_at ds (s ∷ ss) [] behind e is right =
    (let one : extent_of ds s ≡ e = cc in
    subst (λ (x : Extent). IfSome x.encryption IsEncryption) one (right.0).encryption)
encryption_at ds (s ∷ ss) (x ∷ before) behind e is right =
    encryption_at ds ss before behind e
    (let rest : map (extent_of ds) ss ≡ before ++ e ∷ behind = cc in rest) right.1

encryption_behind : (ds : List (ℕ × Digest)) (ss : List (ℕ × Segment)) (before behind : List Extent)
    (d e : Extent) → map (extent_of ds) ss ≡ before ++ d ∷ e ∷ behind
    → AllByRecursion (λ s. IsSegment s.1) ss → IfSome e.encryption IsEncryption
encryption_behind ds [] [] behind d e is right = absurd (cc)
encryption_behind ds [] (x ∷ before) behind d e is right = absurd (cc)
encryption_behind ds (s ∷ ss) [] behind d e is right =
    encryption_at ds ss [] behind e
    (let rest : map (extent_of ds) ss ≡ e ∷ behind = cc in rest) right.1
encryption_behind ds (s ∷ ss) (x ∷ before) behind d e is right =
    encryption_behind ds ss before behind d e
    (let rest : map (extent_of ds) ss ≡ before ++ d ∷ e ∷ behind = cc in rest) right.1

known_sectors : (o : Option Encryption) → IfSome o IsEncryption
    → IfSome o (λ e. is_sector_size e.sector_size ≡ true)
known_sectors None right = tt
known_sectors (Some e) right = right.sector_size

-- ---- both sides
converting : (m : Parts) (sizes : Sizes) (c : Progress) → IsSound m sizes
    → progress_of m sizes ≡ Some c → (live : List Extent) × IsConverting m sizes c live
converting m sizes c sound known =
    let here = (sound.busy (busy-of m sizes c known)).1 in (
      here.2.0,
      subst (λ q. IsConverting m sizes q here.2.0)
          (one-progress m sizes here.0 c here.1 known) here.2.1,
    )

module _ (m : Parts) (sizes : Sizes) (c : Progress) (right : IsMeta m) (sound : IsSound m sizes)
    (known : progress_of m sizes ≡ Some c) where
  pub old_sectors : IfSome c.old.encryption (λ e. is_sector_size e.sector_size ≡ true)
  old_sectors =
      let here = converting m sizes c sound known in
      known_sectors c.old.encryption (encryption_at m.digests m.segments here.0 (c.new ∷ []) c.old
      here.1.segments right.segments.each)

  pub new_sectors : IfSome c.new.encryption (λ e. is_sector_size e.sector_size ≡ true)
  new_sectors =
      let here = converting m sizes c sound known in
      known_sectors c.new.encryption (encryption_behind m.digests m.segments here.0 [] c.old c.new
      here.1.segments right.segments.each)

  pub old_placed : IsPlaced m sizes c.old
  old_placed = (converting m sizes c sound known).1.old

  pub new_placed : IsPlaced m sizes c.new
  new_placed = (converting m sizes c sound known).1.new
