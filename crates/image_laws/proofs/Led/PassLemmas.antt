-- The keys that keyslots give to a passphrase by the header of a conversion and by a later one of it,
-- where what is read of the keyslots' areas is the same.
use Rattle.std.proofs.Common.{◌≡◌, ℕ, ◌&&◌, List, Option, Some, None, Bool, true}
use Rattle.std.proofs.Common.{nat_le, refl, sym, ◌∙◌, ap, subst}
use Rattle.std.proofs.lemmas.Bool.{and_parts}
use Rattle.std.specs.List.{All, list_all}
use Rattle.std.specs.Option.{IsSome}
use Rattle.std.specs.Prelude.{option_and_then}
use Rattle.base_terms.specs.declared.disk_sizes.Sizes.{Sizes}
use Rattle.luks_meta.specs.declared.digest.Digest.{Digest}
use Rattle.luks_meta.specs.declared.meta.Parts.{Parts}
use Rattle.luks_meta.specs.declared.segment.Encryption.{Encryption}
use Rattle.luks_rules.specs.References.{lists, value_at}
use Rattle.luks_rules.specs.Shapes.{have_two_digests}
use Rattle.luks_rules.specs.Shapes.{may_open, progress_of}
use Rattle.luks_rules.specs.Plans.{laid_out, parts_of}
use Rattle.luks_rules.specs.States.{IsConverting, IsSound, IsUnder}
use Rattle.luks_rules.specs.declared.extents.Extent.{Extent}
use Rattle.luks_rules.specs.declared.plan.Plan.{Plan}
use Rattle.luks_rules.specs.declared.shape.Progress.{Progress}
use Rattle.luks_slots.specs.Slots.{fits as fits_segments}
use Rattle.luks_slots.specs.Slots.{takes_key}
use Rattle.luks_slots.specs.Unlocks.{key_of, or_else}
use Rattle.luks_slots.specs.Unlocks.{first_key}
use Rattle.luks_meta.specs.declared.keyslot.Priority.TheVariants.{High, Normal}
use Rattle.reenc_meta.specs.Layouts.{laid_out_by, listed_by, progress_at}
use Rattle.reenc_meta.specs.Moves.{IsGoneTo}
use Rattle.reenc_meta.specs.Runs.{runs_of, sides_of}
use Rattle.reenc_recovery.specs.Keys.{key_by, key_for}
use Rattle.image_laws.proofs.Started.AgreeLemmas.{IsReadAlike}
use Rattle.image_laws.proofs.Started.BegunLemmas.{relisted-matches}
use Rattle.image_laws.proofs.Started.BlockLemmas.{the-conversion}
use Rattle.image_laws.proofs.Started.KeyLemmas.{AreAlike, first-same, key-same}
use Rattle.image_laws.proofs.Started.NumberLemmas.{value-changed}
use Rattle.image_laws.specs.Started.Gaps.{key_areas}
use Rattle.image_laws.proofs.Led.FitLemmas.{AreSegments, new-fits, old-fits, takes_each}

-- ---- the segments of a conversion
segments-are : (m : Parts) (sizes : Sizes) (c : Progress) (sound : IsSound m sizes)
    → (live : List Extent) → IsConverting m sizes c live
    → AreSegments m sizes.atom c.conversion.direction c.old c.new c.plan live
segments-are m sizes c sound live is =
    let parts = is.state.parts in
    let wholes = is.state.wholes in
    let one = and_parts _ (may_open c.conversion.resilience c.plan.zone) parts in
    let two = and_parts _ _ one.0 in
    let three = and_parts
    (laid_out sizes.atom (parts_of c.conversion.direction c.old c.new c.plan) live) _ two.0 in
    record {
      are = is.segments;
      laid = three.0;
      two = (and_parts _ (have_two_digests c.old.digest c.new.digest) wholes).1;
      once = sound.digests.once;
    }

-- the lengths that fit the segments of a digest
abbrev fits_by : ℕ → Bool → Bool
fits_by k takes = (nat_le 1 k && nat_le k 64) && takes

fits-is : (m : Parts) (d : Digest) (k : ℕ)
    → fits_segments m d k ≡ fits_by k (list_all (takes_each d k) m.segments)
unfolding fits_segments
fits-is m d k = refl

one-number : (o : Option ℕ) (a b : ℕ) → o ≡ Some a → o ≡ Some b → a ≡ b
one-number o a b is also = (let e : Some a ≡ Some b = sym is ∙ also in cc)

one-digest : (o : Option Digest) (a b : Digest) → o ≡ Some a → o ≡ Some b → a ≡ b
one-digest o a b is also = (let e : Some a ≡ Some b = sym is ∙ also in cc)

-- the segment's one digest lists it
listed-by : (m : Parts) (e : Extent) (n x : ℕ) (under d : Digest) → IsUnder m e n under
    → e.digest ≡ Some x → value_at m.digests x ≡ Some d → lists d.segments e.number ≡ true
listed-by m e n x under d is at there =
    let same = one-number e.digest n x is.number at in
    let here = subst (λ (i : ℕ). value_at m.digests i ≡ Some under) same is.digest in
    subst (λ (g : Digest). lists g.segments e.number ≡ true)
    (one-digest (value_at m.digests x) under d here there) is.listed

module _ (m : Parts) (sizes : Sizes) (c : Progress) (sound : IsSound m sizes)
    (known : progress_of m sizes ≡ Some c) (x : ℕ) (d : Digest)
    (there : value_at m.digests x ≡ Some d) (k : ℕ) where
  -- on the old side, and on the new one
  pub old-length : c.old.digest ≡ Some x → IsSome c.old.encryption
      → fits_segments m d k ≡ fits_by k (takes_key k c.old.encryption)
  old-length at some =
      let conversion = the-conversion m sizes c sound known in
      let under = conversion.1.old.digest some in
      fits-is m d k
      ∙ ap (fits_by k) (old-fits m sizes.atom c.conversion.direction c.old c.new c.plan conversion.0
      (segments-are m sizes c sound conversion.0 conversion.1) x d there k at
      (listed-by m c.old under.0 x under.1 d under.2 at there))

  pub new-length : c.new.digest ≡ Some x → IsSome c.new.encryption
      → fits_segments m d k ≡ fits_by k (takes_key k c.new.encryption)
  new-length at some =
      let conversion = the-conversion m sizes c sound known in
      let under = conversion.1.new.digest some in
      fits-is m d k
      ∙ ap (fits_by k) (new-fits m sizes.atom c.conversion.direction c.old c.new c.plan conversion.0
      (segments-are m sizes c sound conversion.0 conversion.1) x d there k at
      (listed-by m c.new under.0 x under.1 d under.2 at there))

-- ---- by the same header
and-then-same : (f g : Digest → Option (List ℕ)) → ((d : Digest) → f d ≡ g d)
    → (o : Option Digest) → option_and_then f o ≡ option_and_then g o
and-then-same f g same None = refl
and-then-same f g same (Some d) = same d

pub key-here : (m : Parts) (bytes now pass : List ℕ)
    → All (IsReadAlike bytes now) (key_areas m.keyslots) → (e : Extent)
    → key_for m now pass e ≡ key_for m bytes pass e
key-here m bytes now pass read e = go e.encryption e.digest
  where
    go : (o : Option Encryption) (n : Option ℕ) → key_by m now pass o n ≡ key_by m bytes pass o n
    go None n = refl
    go (Some s) None = refl
    go (Some s) (Some n) =
        and-then-same (λ d. key_of m d now pass) (λ d. key_of m d bytes pass)
        (λ d. sym (key-same m d bytes now pass read)) (value_at m.digests n)

-- ---- by a later one
module _ (m next : Parts) (sizes : Sizes) (c : Progress) (plan : Plan) (sound : IsSound m sizes)
    (known : progress_of m sizes ≡ Some c) (gone : IsGoneTo m sizes c plan next)
    (sound_next : IsSound next sizes) (bytes now pass : List ℕ)
    (read : All (IsReadAlike bytes now) (key_areas m.keyslots)) where
  abbrev relisted : ℕ → Digest → Digest
  relisted x d = (listed_by c (sides_of (runs_of c.conversion.direction plan)) (x, d)).1

  same-keyslots : m.keyslots ≡ next.keyslots
  unfolding laid_out_by
  same-keyslots = ap (λ (p : Parts). p.keyslots) (sym gone.is)

  relisted-there : (x : ℕ) (d : Digest) → value_at m.digests x ≡ Some d
      → value_at next.digests x ≡ Some (relisted x d)
  unfolding laid_out_by
  relisted-there x d is =
      ap (λ (p : Parts). value_at p.digests x) gone.is
      ∙ value-changed (listed_by c (sides_of (runs_of c.conversion.direction plan))) (λ e. refl)
      m.digests x d is

  abbrev Fits : ℕ → Digest → Type 0
  Fits x d = (k : ℕ) → fits_segments m d k ≡ fits_segments next (relisted x d) k

  alike : (x : ℕ) (d : Digest) → Fits x d → AreAlike m next d (relisted x d)
  alike x d fit = record {
    listed = refl;
    same = λ key. sym (relisted-matches d _ key);
    fit = fit;
  }

  given : (x : ℕ) (d : Digest) → Fits x d
      → key_of m d bytes pass ≡ key_of next (relisted x d) now pass
  unfolding key_of
  given x d fit =
      let high =
      first-same m next d (relisted x d) bytes now pass (alike x d fit) High m.keyslots read
      ∙ ap (first_key next (relisted x d) now pass High) same-keyslots in
      let normal =
      first-same m next d (relisted x d) bytes now pass (alike x d fit) Normal m.keyslots read
      ∙ ap (first_key next (relisted x d) now pass Normal) same-keyslots in
      (λ i. or_else (high i) (normal i))

  key-by-next : (o : Option Encryption) (n : Option ℕ) (key : List ℕ)
      → ((x : ℕ) (d : Digest) → n ≡ Some x → value_at m.digests x ≡ Some d → IsSome o → Fits x d)
      → key_by m bytes pass o n ≡ Some key → key_by next now pass o n ≡ Some key
  key-by-next None n key fit is = is
  key-by-next (Some e) None key fit is = is
  key-by-next (Some e) (Some x) key fit is = go (value_at m.digests x) refl is
    where
      go : (o : Option Digest) → value_at m.digests x ≡ o
          → option_and_then (λ d. key_of m d bytes pass) o ≡ Some key
          → option_and_then (λ d. key_of next d now pass) (value_at next.digests x) ≡ Some key
      go None there gives = absurd cc
      go (Some d) there gives =
          ap (option_and_then (λ d. key_of next d now pass)) (relisted-there x d there)
          ∙ sym (given x d (fit x d refl there refl)) ∙ gives

  -- the keys of both sides
  pub old-key-next : (key : List ℕ) → key_for m bytes pass c.old ≡ Some key
      → key_for next now pass (progress_at plan c).old ≡ Some key
  old-key-next key is =
      key-by-next c.old.encryption c.old.digest key (λ x d at there some k.
      old-length m sizes c sound known x d there k at some
      ∙ sym (old-length next sizes (progress_at plan c) sound_next gone.progress x (relisted x d)
      (relisted-there x d there) k at some)) is

  pub new-key-next : (key : List ℕ) → key_for m bytes pass c.new ≡ Some key
      → key_for next now pass (progress_at plan c).new ≡ Some key
  new-key-next key is =
      key-by-next c.new.encryption c.new.digest key (λ x d at there some k.
      new-length m sizes c sound known x d there k at some
      ∙ sym (new-length next sizes (progress_at plan c) sound_next gone.progress x (relisted x d)
      (relisted-there x d there) k at some)) is
