-- A volume of which nothing is converted, in a header that breaks no rule, and without a header.
use Rattle.std.proofs.Common.{◌≡◌, ◌∙◌, ℕ, ◌-◌, ◌/◌, ◌^◌, ◌<◌, [], Option}
use Rattle.std.proofs.Common.{Some, refl, sym, ap, subst, arith}
use Rattle.std.proofs.Math.Nat.{mul-div_cancel, mul-le-mul_right}
use Rattle.std.specs.Option.{IsSome}
use Rattle.base_terms.specs.declared.disk_sizes.Sizes.{Sizes}
use Rattle.luks_meta.specs.Metas.{IsMeta}
use Rattle.luks_meta.specs.declared.meta.Parts.{Parts}
use Rattle.luks_rules.specs.Areas.{areas_of, main_bytes}
use Rattle.luks_rules.specs.Conversions.{conversions_of}
use Rattle.luks_rules.specs.Extents.{digest_of}
use Rattle.luks_rules.specs.Idles.{idle_of}
use Rattle.luks_rules.specs.Segments.{in_progress}
use Rattle.luks_rules.specs.States.{IsSound}
use Rattle.luks_rules.specs.declared.idle.Idle.{Idle}
use Rattle.reenc_meta.specs.Placements.{all_atoms}
use Rattle.reenc_meta.specs.Starts.{HaveSizes}
use Rattle.reenc_meta.specs.Unconverted.{IsUnconverted, whole_disk}
use Rattle.reenc_meta.specs.Wishes.{unencrypted}
use Rattle.reenc_meta.specs.declared.wish.Wish.{Wish}
use Rattle.reenc_meta.proofs.EachLemmas.{at-each}
use Rattle.reenc_meta.proofs.IdleLemmas.{idle_by}
use Rattle.sector_disk.specs.Geometry.{IsAtom, IsDisk}
use Rattle.std.proofs.Common.{inl}
use Rattle.std.proofs.Common.{◌≤◌}
use Rattle.std.proofs.Common.{inr}

-- ---- in a header
pub unconverted-idle : (m : Parts) (sizes : Sizes) (v : Idle) → IsSound m sizes
    → idle_of m sizes ≡ Some v → IsUnconverted m sizes v
unconverted-idle m sizes v sound is =
    let idle = idle_by m sizes v sound is (in_progress m.config) refl in
    record {
      own = sound.own;
      keyslots = idle.keyslots;
      areas = sound.atoms.areas;
      listed = sound.digests.keyslots;
      segments = idle.segments;
      blocks = idle.blocks;
      whole = idle.placed.whole;
      size = idle.placed.size;
      on_disk = idle.placed.on_disk;
      sectors = idle.placed.sectors;
      numbers = idle.placed.numbers;
      digest = λ some. (let under = idle.placed.digest some in
          subst (λ (o : Option ℕ). IsSome o) (sym under.2.number) refl);
    }

-- ---- without one
all_bytes : (sizes : Sizes) → 0 < sizes.atom
    → sizes.main_atoms ≡ (main_bytes sizes - 0) / sizes.atom
all_bytes sizes some =
    let all : main_bytes sizes - 0 ≡ main_bytes sizes = omega arith in
    sym (ap (λ k. k / sizes.atom) all ∙ mul-div_cancel sizes.main_atoms some)

pub idle-disk : (w : Wish) (sizes : Sizes) → 0 < sizes.atom
    → idle_of (unencrypted w) sizes ≡ Some (whole_disk sizes)
unfolding unencrypted idle_of in_progress digest_of
idle-disk w sizes some =
    let all = all_bytes sizes some in
    λ i. Some (record (whole_disk sizes) { blocks = sym all i })

pub unconverted-disk : (w : Wish) (sizes : Sizes) → 0 < sizes.atom
    → IsUnconverted (unencrypted w) sizes (whole_disk sizes)
unfolding unencrypted conversions_of areas_of digest_of
unconverted-disk w sizes some = record {
  own = at-each _ [] tt;
  keyslots = refl;
  areas = at-each _ [] tt;
  listed = at-each _ [] tt;
  segments = refl;
  blocks = all_bytes sizes some;
  whole = omega arith;
  size = tt;
  on_disk = omega arith;
  sectors = tt;
  numbers = tt;
  digest = λ crypt. crypt;
}

pub meta-disk : (w : Wish) → HaveSizes w → IsMeta (unencrypted w)
unfolding unencrypted
meta-disk w sizes = record {
  keyslots = record { rising = tt; each = tt };
  tokens = record { rising = tt; each = tt };
  segments = record {
    rising = (omega arith, tt, tt);
    each = (
      record {
        offset = omega arith;
        size = tt;
        encryption = tt;
        lacks = (refl, (refl, (refl, (refl, (refl, tt)))));
        plain = record { whole = refl; flat = omega arith };
      },
      tt,
    );
  };
  digests = record { rising = tt; each = tt };
  config = record {
    json_size = (let header = sizes.header in omega (arith, header));
    keyslots_size = sizes.keyslots;
    requirements = tt;
    lacks = (refl, (refl, (refl, tt)));
    plain = record { whole = refl; flat = omega arith };
  };
  lacks = (refl, (refl, (refl, (refl, (refl, tt)))));
  plain = record { whole = refl; flat = omega arith };
}

-- ---- the disk
pub some-atom : (atom atoms : ℕ) → IsDisk atom atoms → 0 < atom
some-atom atom atoms disk = by disk.known
  where
    by : IsAtom atom → 0 < atom
    by (inl small) = omega (arith, small)
    by (inr large) = omega (arith, large)

pub main-fits : (sizes : Sizes) → IsDisk sizes.atom (all_atoms sizes) → main_bytes sizes < 2 ^ 63
main-fits sizes disk =
    let all = disk.fits in
    let part = mul-le-mul_right sizes.atom
    (let few : sizes.main_atoms ≤ all_atoms sizes = omega arith in few) in
    omega (arith, all, part)
