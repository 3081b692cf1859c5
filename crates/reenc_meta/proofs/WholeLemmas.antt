-- What the two whole segments of a conversion are to each other.
use Rattle.std.proofs.Common.{◌≡◌, ℕ, ◌*◌, ◌&&◌, List, Option, Some, None, true, false}
use Rattle.std.proofs.Common.{refl}
use Rattle.std.proofs.lemmas.Bool.{and_parts}
use Rattle.std.specs.Option.{IsSome, is_some}
use Rattle.luks_meta.specs.declared.segment.Encryption.{Encryption}
use Rattle.luks_rules.specs.Plans.{blocks_in, laid_out, parts_of}
use Rattle.luks_rules.specs.Shapes.{are_wholes, fits, fits_mode, fits_place, has_own_digest}
use Rattle.luks_rules.specs.Shapes.{have_two_digests, is_final, is_next_size, is_previous}
use Rattle.luks_rules.specs.Shapes.{is_whole_size, may_open, starts_at_0, stays_dynamic}
use Rattle.luks_rules.specs.declared.conversions.Conversion.{Conversion}
use Rattle.luks_rules.specs.declared.extents.Extent.{Extent}
use Rattle.luks_rules.specs.declared.plan.Plan.{Plan}

module _ (atom : ℕ) (c : Conversion) (old new : Extent)
    (is : are_wholes atom c old new ≡ true) where
  pub whole-digests : have_two_digests old.digest new.digest ≡ true
  whole-digests = (and_parts _ (have_two_digests old.digest new.digest) is).1

  without_two : (is_previous old.mark && is_final new.mark
      && fits_mode c.mode (is_some old.encryption) (is_some new.encryption)
      && starts_at_0 new.encryption && fits_place atom c.resilience old.offset new.offset
      && has_own_digest old.encryption old.digest && has_own_digest new.encryption new.digest)
      ≡ true
  without_two = (and_parts _ (have_two_digests old.digest new.digest) is).0

  pub new-own : has_own_digest new.encryption new.digest ≡ true
  new-own = (and_parts _ (has_own_digest new.encryption new.digest) without_two).1

  without_new : (is_previous old.mark && is_final new.mark
      && fits_mode c.mode (is_some old.encryption) (is_some new.encryption)
      && starts_at_0 new.encryption && fits_place atom c.resilience old.offset new.offset
      && has_own_digest old.encryption old.digest) ≡ true
  without_new = (and_parts _ (has_own_digest new.encryption new.digest) without_two).0

  pub old-own : has_own_digest old.encryption old.digest ≡ true
  old-own = (and_parts _ (has_own_digest old.encryption old.digest) without_new).1

  pub whole-place : fits_place atom c.resilience old.offset new.offset ≡ true
  whole-place =
      (and_parts _ (fits_place atom c.resilience old.offset new.offset)
      (and_parts _ (has_own_digest old.encryption old.digest) without_new).0).1

  pub whole-mode : fits_mode c.mode (is_some old.encryption) (is_some new.encryption) ≡ true
  whole-mode =
      (and_parts _ (fits_mode c.mode (is_some old.encryption) (is_some new.encryption))
      (and_parts _ (starts_at_0 new.encryption)
      (and_parts _ (fits_place atom c.resilience old.offset new.offset)
      (and_parts _ (has_own_digest old.encryption old.digest) without_new).0).0).0).1

-- their sizes, by the blocks of the volume
pub whole-sizes : (atom : ℕ) (c : Conversion) (old new : Extent) (live : List Extent) (plan : Plan)
    → fits atom c old new live plan ≡ true
    → (is_whole_size (blocks_in plan * atom) old.size ≡ true)
    × (is_next_size (blocks_in plan * atom) (stays_dynamic c.resilience old.size) new.size ≡ true)
whole-sizes atom c old new live plan is =
    let a = and_parts
    (laid_out atom (parts_of c.direction old new plan) live
    && is_whole_size (blocks_in plan * atom) old.size
    && is_next_size (blocks_in plan * atom) (stays_dynamic c.resilience old.size) new.size)
    (may_open c.resilience plan.zone) is in
    let b = and_parts
    (laid_out atom (parts_of c.direction old new plan) live
    && is_whole_size (blocks_in plan * atom) old.size)
    (is_next_size (blocks_in plan * atom) (stays_dynamic c.resilience old.size) new.size) a.0 in
    let d = and_parts (laid_out atom (parts_of c.direction old new plan) live)
    (is_whole_size (blocks_in plan * atom) old.size) b.0 in
    (d.1, b.1)

-- one is under a digest exactly where it is crypt
pub crypt-digest : (e : Option Encryption) (d : Option ℕ) → has_own_digest e d ≡ true → IsSome e
    → IsSome d
crypt-digest None d own some = let bad : false ≡ true = some in cc
crypt-digest (Some e) None own some = let bad : false ≡ true = own in cc
crypt-digest (Some e) (Some d) own some = refl

pub linear-digest : (e : Option Encryption) (d : Option ℕ) → has_own_digest e d ≡ true → e ≡ None
    → d ≡ None
linear-digest None None own none = refl
linear-digest None (Some d) own none = let bad : false ≡ true = own in cc
linear-digest (Some e) d own none = cc
