-- The digest of a side's whole segment, and the lengths of keys that fit the segments that it lists:
-- those of the whole segment.
use Rattle.std.proofs.Common.{◌≡◌, ◌∙◌, inl, inr, ℕ, ◌&&◌, ◌||◌, not, nat_le, List, [], ◌∷◌, map, Option, Some, None}
use Rattle.std.proofs.Common.{Bool, true, false, refl, sym, ap, subst, cond}
use Rattle.std.specs.List.{list_all}
use Rattle.std.specs.Option.{IsSome}
use Rattle.base_terms.specs.declared.disk_sizes.Sizes.{Sizes}
use Rattle.luks_meta.specs.declared.digest.Digest.{Digest}
use Rattle.luks_meta.specs.declared.meta.Parts.{Parts}
use Rattle.luks_meta.specs.declared.segment.Segment.{Segment}
use Rattle.luks_rules.specs.Extents.{extent_of}
use Rattle.luks_rules.specs.Idles.{idle_from, idle_of}
use Rattle.luks_rules.specs.References.{lists, value_at}
use Rattle.luks_rules.specs.Segments.{in_progress}
use Rattle.luks_rules.specs.States.{IsIdle, IsPlaced, IsSound}
use Rattle.luks_rules.specs.declared.extents.Extent.{Extent}
use Rattle.luks_rules.specs.declared.idle.Idle.{Idle}
use Rattle.luks_slots.specs.Slots.{fits, takes_key}
use Rattle.reenc_meta.specs.Layouts.{whole_on}
use Rattle.segment_map.specs.declared.Side.{Side}
use Rattle.segment_map.specs.declared.Side.TheVariants.{New, Old, Zone}
use Rattle.hotzone.proofs.ZoneEvents.GroundLemmas.{converting}
use Rattle.hotzone.specs.ZoneEvents.Sides.{IsSideOf}
use Rattle.image_laws.proofs.Led.FitLemmas.{takes_each}
use Rattle.image_laws.proofs.Led.PassLemmas.{new-length, old-length}

-- the lengths that fit
abbrev pub fits_so : ℕ → Bool → Bool
fits_so k takes = (nat_le 1 k && nat_le k 64) && takes

quiet : (m : Parts) (sizes : Sizes) (v : Idle) → idle_of m sizes ≡ Some v
    → in_progress m.config ≡ false
unfolding idle_of
quiet m sizes v is = go (in_progress m.config) is
  where
    go : (b : Bool) → cond b None (idle_from sizes m.digests m.segments) ≡ Some v → b ≡ false
    go true h = cc
    go false h = refl

same-idle : (a b : Idle) → ◌≡◌ {A = Option Idle} (Some a) (Some b) → a ≡ b
same-idle a b h = cc

idle-is : (m : Parts) (sizes : Sizes) (v : Idle) → IsSound m sizes → idle_of m sizes ≡ Some v
    → IsIdle m sizes v
idle-is m sizes v sound is =
    let this = (sound.idle (quiet m sizes v is)).1 in
    subst (IsIdle m sizes) (same-idle this.0 v (sym this.1 ∙ is)) this.2

-- the whole segment lies as each one does
pub placed : (m : Parts) (sizes : Sizes) (side : Side) (e : Extent) → IsSound m sizes
    → IsSideOf sizes m side e → IsPlaced m sizes e
placed m sizes side e sound (inl (p, known, same)) = subst (IsPlaced m sizes) (sym same) (by side)
  where
    by : (s : Side) → IsPlaced m sizes (whole_on p s)
    by Old = (converting m sizes p sound known).1.old
    by Zone = (converting m sizes p sound known).1.old
    by New = (converting m sizes p sound known).1.new
placed m sizes side e sound (inr (none, (v, is, same))) =
    subst (IsPlaced m sizes) (sym same) (idle-is m sizes v sound is).placed

-- ---- where the volume is one segment
one-takes : (d : Digest) (k : ℕ) (e : Extent) (digests : List (ℕ × Digest))
    (ss : List (ℕ × Segment)) → lists d.segments e.number ≡ true
    → map (extent_of digests) ss ≡ e ∷ [] → list_all (takes_each d k) ss ≡ takes_key k e.encryption
one-takes d k e digests [] listed same = absurd cc
one-takes d k e digests (s ∷ []) listed same =
    let head : extent_of digests s ≡ e = cc in
    ap (λ b. (not b || takes_key k s.1.encryption) && true)
    (ap (λ (x : Extent). lists d.segments x.number) head ∙ listed)
    ∙ whole (takes_key k s.1.encryption)
    ∙ ap (λ (x : Extent). takes_key k x.encryption) head
  where
    whole : (b : Bool) → b && true ≡ b
    whole true = refl
    whole false = refl
one-takes d k e digests (s ∷ t ∷ ss) listed same = absurd cc

fits-is : (m : Parts) (d : Digest) (k : ℕ)
    → fits m d k ≡ fits_so k (list_all (takes_each d k) m.segments)
unfolding fits
fits-is m d k = refl

-- ---- the digest of an encrypted one
pub record HasDigest (m : Parts) (e : Extent) : Type 0 where
  pub number : ℕ
  pub digest : Digest
  pub is : e.digest ≡ Some number
  pub there : value_at m.digests number ≡ Some digest
  pub listed : lists digest.segments e.number ≡ true

pub digest-of-side : (m : Parts) (sizes : Sizes) (side : Side) (e : Extent) → IsSound m sizes
    → IsSideOf sizes m side e → IsSome e.encryption → HasDigest m e
digest-of-side m sizes side e sound is crypt =
    let under = (placed m sizes side e sound is).digest crypt in record {
      number = under.0;
      digest = under.1;
      is = under.2.number;
      there = under.2.digest;
      listed = under.2.listed;
    }

pub side-length : (m : Parts) (sizes : Sizes) (side : Side) (e : Extent) → IsSound m sizes
    → IsSideOf sizes m side e → (has : HasDigest m e) → IsSome e.encryption → (k : ℕ)
    → fits m has.digest k ≡ fits_so k (takes_key k e.encryption)
side-length m sizes side e sound (inl (p, known, same)) has crypt k =
    by side same has.is crypt
    ∙ ap (λ (x : Extent). fits_so k (takes_key k x.encryption)) (sym same)
  where
    by : (s : Side) → e ≡ whole_on p s → e.digest ≡ Some has.number → IsSome e.encryption
        → fits m has.digest k ≡ fits_so k (takes_key k (whole_on p s).encryption)
    by Old is at some = old-length m sizes p sound known has.number has.digest has.there k
        (ap (λ (x : Extent). x.digest) (sym is) ∙ at)
        (subst (λ (x : Extent). IsSome x.encryption) is some)
    by Zone is at some = old-length m sizes p sound known has.number has.digest has.there k
        (ap (λ (x : Extent). x.digest) (sym is) ∙ at)
        (subst (λ (x : Extent). IsSome x.encryption) is some)
    by New is at some = new-length m sizes p sound known has.number has.digest has.there k
        (ap (λ (x : Extent). x.digest) (sym is) ∙ at)
        (subst (λ (x : Extent). IsSome x.encryption) is some)
side-length m sizes side e sound (inr (none, (v, is, same))) has crypt k =
    fits-is m has.digest k
    ∙ ap (fits_so k) (one-takes has.digest k e m.digests m.segments has.listed
    ((idle-is m sizes v sound is).segments ∙ ap (λ (x : Extent). x ∷ []) (sym same)))
