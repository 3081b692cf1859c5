-- What was saved of a block tells one value of it.
use Rattle.std.proofs.Common.{◌≡◌, inl, inr, ◌⊎◌, ℕ, ◌-◌, List, sym, ◌∙◌, ap}
use Rattle.crash_laws.specs.HeaderAreas.Areas.{Image}
use Rattle.crash_laws.specs.HotZones.Standing.{Recovers, TellsDigest}
use Rattle.crash_laws.specs.HotZones.Zones.{Hotzone, checksum, datashift, journal}
use Rattle.crash_laws.specs.HotZones.Zones.{Resilience as Guard}
use Rattle.image_laws.specs.Opened.Images.{HoldsSaved, sealed_both}
use Rattle.segment_map.specs.declared.Side.{Side}
use Rattle.segment_map.specs.declared.Side.TheVariants.{New, Old}
use Rattle.volume_machine.specs.Saved.{saved_hash}
use Rattle.volume_machine.specs.Seals.{Seals}

module _ (seals : Seals) (b : ℕ) (one other : List ℕ) where
  -- what is sealed alike is alike, where it opens to what was sealed
  abbrev Opens : Side → List ℕ → Type 0
  Opens side value = value ≡ seals.opened side b (seals.sealed side b value)

  alike : (side : Side) → Opens side one → Opens side other
      → seals.sealed side b one ≡ seals.sealed side b other → one ≡ other
  alike side first second same =
      first ∙ ap (λ atom. seals.opened side b atom) same ∙ sym second

  -- the atom is the old one of the one value and the new one of the other
  crossed : (told own : List ℕ) (x y : List ℕ)
      → TellsDigest saved_hash told own (seals.sealed Old b x) (seals.sealed New b x)
      → TellsDigest saved_hash told own (seals.sealed Old b y) (seals.sealed New b y)
      → own ≡ seals.sealed Old b x → own ≡ seals.sealed New b y → ⊥
  crossed told own x y is also old new =
      also.differs (ap (λ atom. saved_hash.digest atom) (sym new ∙ old) ∙ sym is.is_old)

  by-digest : (told own : List ℕ)
      → TellsDigest saved_hash told own (seals.sealed Old b one) (seals.sealed New b one)
      → TellsDigest saved_hash told own (seals.sealed Old b other) (seals.sealed New b other)
      → Opens Old one → Opens Old other → Opens New one → Opens New other → one ≡ other
  by-digest told own is also old old_too new new_too = go is.either also.either
    where
      go : (own ≡ seals.sealed Old b one) ⊎ (own ≡ seals.sealed New b one)
          → (own ≡ seals.sealed Old b other) ⊎ (own ≡ seals.sealed New b other) → one ≡ other
      go (inl x) (inl y) = alike Old old old_too (sym x ∙ y)
      go (inr x) (inr y) = alike New new new_too (sym x ∙ y)
      go (inl x) (inr y) = absurd (crossed told own one other is also x y)
      go (inr x) (inl y) = absurd (crossed told own other one also is y x)

  told-once : (r : Guard) (zone : Hotzone (Unit {0})) (image : Image) (i : ℕ)
      → Recovers r saved_hash zone (sealed_both seals b one) image i
      → Recovers r saved_hash zone (sealed_both seals b other) image i
      → Opens Old one → Opens Old other → Opens New one → Opens New other → one ≡ other
  told-once journal zone image i is also old old_too new new_too =
      alike Old old old_too (sym is ∙ also)
  told-once checksum zone image i is also old old_too new new_too =
      by-digest _ _ is also old old_too new new_too
  told-once datashift zone image i is also old old_too new new_too = absurd is

pub saved-once : (atom : ℕ) (zone : Hotzone (Unit {0})) (first : ℕ) (seals : Seals) (image : Image)
    (b : ℕ) (one other : List ℕ) → HoldsSaved atom zone first seals image b one
    → HoldsSaved atom zone first seals image b other → one ≡ other
saved-once atom zone first seals image b one other is also =
    told-once seals b one other zone.resilience zone image (b - first) is.tells also.tells is.old
    also.old is.new also.new
