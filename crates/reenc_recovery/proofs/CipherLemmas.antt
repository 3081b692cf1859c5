-- The ciphers of a volume's segments: they fit its blocks, and seal them as the segments do.
use Rattle.std.proofs.Common.{◌≡◌, inl, inr, ℕ, ◌+◌, ◌*◌, ◌/◌, ◌%◌, ◌^◌, ◌<◌, List, Option, Some}
use Rattle.std.proofs.Common.{None}
use Rattle.std.proofs.Common.{refl, ◌∙◌, ap, arith}
use Rattle.std.specs.Option.{IfSome}
use Rattle.base_terms.specs.declared.disk_sizes.Sizes.{Sizes}
use Rattle.luks_meta.specs.declared.meta.Parts.{Parts}
use Rattle.luks_meta.specs.declared.segment.Encryption.{Encryption}
use Rattle.reenc_meta.specs.Places.{FitsBlocks}
use Rattle.reenc_meta.specs.declared.placement.Placement.{Placement}
use Rattle.reenc_recovery.specs.Images.{seals_in}
use Rattle.reenc_recovery.specs.Keys.{IsCipherOf, opened_by, sealed_by, tweak_by, used_by}
use Rattle.reenc_recovery.specs.Openings.{IsOpening}
use Rattle.sector_disk.specs.Geometry.{IsAtom}
use Rattle.segment_map.specs.declared.Side.{Side}
use Rattle.segment_map.specs.declared.Side.TheVariants.{Old, New, Zone}
use Rattle.volume_machine.specs.Seals.{KeysFit, seals_of}
use Rattle.volume_machine.specs.declared.keys.Keys.{Keys}

-- ---- one segment
atom_in_units : (atom : ℕ) → IsAtom atom → atom % 512 ≡ 0
atom_in_units atom (inl is) = rw is refl
atom_in_units atom (inr is) = rw is refl

sector_fits : {C : Type 0} (sector : C → ℕ) (sealed opened : C → ℕ → List ℕ → List ℕ)
    (e : Option Encryption) (key : List ℕ) (c : C) (atom blocks : ℕ) → IsAtom atom
    → IfSome e (FitsBlocks atom blocks) → IsCipherOf sector sealed opened e key c
    → atom % sector c ≡ 0
sector_fits sector sealed opened None key c atom blocks known fits is =
    rw is.sectors (atom_in_units atom known)
sector_fits sector sealed opened (Some e) key c atom blocks known fits is = rw is.sectors fits.whole

few_units : (atom blocks : ℕ) → IsAtom atom → blocks * atom < 2 ^ 63
    → 0 + blocks * (atom / 512) < 2 ^ 64
few_units atom blocks (inl is) small =
    (let fewer : blocks * 512 < 2 ^ 63 = rw is at small in rw is (omega (arith, fewer)))
few_units atom blocks (inr is) small =
    (let fewer : blocks * 4096 < 2 ^ 63 = rw is at small in rw is (omega (arith, fewer)))

numbers_fit : (e : Option Encryption) (atom blocks : ℕ) → IsAtom atom → blocks * atom < 2 ^ 63
    → IfSome e (FitsBlocks atom blocks) → tweak_by e + blocks * (atom / 512) < 2 ^ 64
numbers_fit None atom blocks known small fits = few_units atom blocks known small
numbers_fit (Some e) atom blocks known small fits = fits.numbers

-- ---- both
module _ {C : Type 0} (sector : C → ℕ) (sealed opened : C → ℕ → List ℕ → List ℕ) (m : Parts)
    (sizes : Sizes) (key : Option (List ℕ)) (p : Placement) (keys : Keys C)
    (is : IsOpening sector sealed opened m sizes key p keys) where
  abbrev old_key : List ℕ
  old_key = used_by p.old.encryption key

  abbrev new_key : List ℕ
  new_key = used_by p.new.encryption key

  pub keys_fit : KeysFit sector keys p.map.atom p.map.blocks
  keys_fit =
      let fits = is.right.fits in
      let known = fits.known in
      let atom = is.right.atom in
      record {
        old_sector = sector_fits sector sealed opened p.old.encryption old_key keys.old p.map.atom
            p.map.blocks known (rw atom is.right.old.fits) is.old;
        new_sector = sector_fits sector sealed opened p.new.encryption new_key keys.new p.map.atom
            p.map.blocks known (rw atom is.right.new.fits) is.new;
        old_numbers = rw is.old_tweak (numbers_fit p.old.encryption p.map.atom p.map.blocks known
            fits.small (rw atom is.right.old.fits));
        new_numbers = rw is.new_tweak (numbers_fit p.new.encryption p.map.atom p.map.blocks known
            fits.small (rw atom is.right.new.fits));
      }

  old_sealed : (atom b : ℕ) (bytes : List ℕ)
      → sealed keys.old (keys.old_tweak + b * (atom / 512)) bytes
      ≡ sealed_by p.old.encryption old_key (tweak_by p.old.encryption + b * (atom / 512)) bytes
  old_sealed atom b bytes =
      is.old.seals (keys.old_tweak + b * (atom / 512)) bytes
      ∙ ap (λ t. sealed_by p.old.encryption old_key (t + b * (atom / 512)) bytes) is.old_tweak

  new_sealed : (atom b : ℕ) (bytes : List ℕ)
      → sealed keys.new (keys.new_tweak + b * (atom / 512)) bytes
      ≡ sealed_by p.new.encryption new_key (tweak_by p.new.encryption + b * (atom / 512)) bytes
  new_sealed atom b bytes =
      is.new.seals (keys.new_tweak + b * (atom / 512)) bytes
      ∙ ap (λ t. sealed_by p.new.encryption new_key (t + b * (atom / 512)) bytes) is.new_tweak

  old_opened : (atom b : ℕ) (bytes : List ℕ)
      → opened keys.old (keys.old_tweak + b * (atom / 512)) bytes
      ≡ opened_by p.old.encryption old_key (tweak_by p.old.encryption + b * (atom / 512)) bytes
  old_opened atom b bytes =
      is.old.opens (keys.old_tweak + b * (atom / 512)) bytes
      ∙ ap (λ t. opened_by p.old.encryption old_key (t + b * (atom / 512)) bytes) is.old_tweak

  new_opened : (atom b : ℕ) (bytes : List ℕ)
      → opened keys.new (keys.new_tweak + b * (atom / 512)) bytes
      ≡ opened_by p.new.encryption new_key (tweak_by p.new.encryption + b * (atom / 512)) bytes
  new_opened atom b bytes =
      is.new.opens (keys.new_tweak + b * (atom / 512)) bytes
      ∙ ap (λ t. opened_by p.new.encryption new_key (t + b * (atom / 512)) bytes) is.new_tweak

  -- the volume's seals are those of its segments
  pub same_sealed : (atom : ℕ) (side : Side) (b : ℕ) (bytes : List ℕ)
      → (seals_of sealed opened atom keys).sealed side b bytes
      ≡ (seals_in atom p (used_by p.old.encryption key) (used_by p.new.encryption key)).sealed side
      b bytes
  same_sealed atom Old b bytes = old_sealed atom b bytes
  same_sealed atom Zone b bytes = old_sealed atom b bytes
  same_sealed atom New b bytes = new_sealed atom b bytes

  pub same_opened : (atom : ℕ) (side : Side) (b : ℕ) (bytes : List ℕ)
      → (seals_of sealed opened atom keys).opened side b bytes
      ≡ (seals_in atom p (used_by p.old.encryption key) (used_by p.new.encryption key)).opened side
      b bytes
  same_opened atom Old b bytes = old_opened atom b bytes
  same_opened atom Zone b bytes = old_opened atom b bytes
  same_opened atom New b bytes = new_opened atom b bytes
