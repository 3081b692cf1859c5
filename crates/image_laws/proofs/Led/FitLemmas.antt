-- The lengths of keys that fit the segments of a side's digest in a conversion: those of its whole
-- segment.
use Rattle.std.proofs.Common.{◌≡◌, ℕ, suc, ◌+◌, ◌*◌, ◌/◌, ◌≤◌, ◌==◌, ◌&&◌, ◌||◌, not, Bool, true, false}
use Rattle.std.proofs.Common.{List, [], ◌∷◌, ◌++◌, drop, map, cond, eqb, Option, Some, None, refl, sym, ◌∙◌}
use Rattle.std.proofs.Common.{ap, ap₂, subst, arith, append_assoc}
use Rattle.std.proofs.lemmas.Bool.{and_parts, eq-eqb, eqb-true}
use Rattle.std.proofs.lemmas.List.Sums.{sum_by-cons}
use Rattle.std.specs.List.{All, AllByRecursion, count_by, find, list_all}
use Rattle.std.specs.Option.{IsSome, option_map}
use Rattle.luks_meta.specs.declared.digest.Digest.{Digest}
use Rattle.luks_meta.specs.declared.meta.Parts.{Parts}
use Rattle.luks_meta.specs.declared.names.Cipher.{Cipher}
use Rattle.luks_meta.specs.declared.names.Cipher.TheVariants.{AesCbcEssivSha256, AesXtsPlain64}
use Rattle.luks_meta.specs.declared.reencrypt.Direction.{Direction}
use Rattle.luks_meta.specs.declared.reencrypt.Direction.TheVariants.{Backward, Forward}
use Rattle.luks_meta.specs.declared.segment.Encryption.{Encryption}
use Rattle.luks_meta.specs.declared.segment.Segment.{Segment}
use Rattle.luks_rules.proofs.ChoiceLemmas.{find_passes}
use Rattle.luks_rules.specs.Extents.{digest_of, extent_of}
use Rattle.luks_rules.specs.Plans.{begins, is_encrypted, is_nothing, is_part}
use Rattle.luks_rules.specs.Plans.{laid_out, parts_of, rest_of, same_cipher, same_digest}
use Rattle.luks_rules.specs.References.{lists, times_listed, value_at}
use Rattle.luks_rules.specs.Shapes.{have_two_digests}
use Rattle.luks_rules.specs.declared.extents.Extent.{Extent}
use Rattle.luks_rules.specs.declared.plan.Plan.{Plan}
use Rattle.luks_slots.specs.Functions.{has_key_length, named_cipher}
use Rattle.luks_slots.specs.Slots.{takes_key}

-- ---- the digest of a segment that one digest lists
some-counted : (p : ℕ × Digest → Bool) (ds : List (ℕ × Digest)) (x : ℕ × Digest)
    → find (λ e. eqb e.0 x.0) ds ≡ Some x → p x ≡ true → 1 ≤ count_by p ds
some-counted p [] x at is = absurd cc
some-counted p (y ∷ ys) x at is = go (eqb y.0 x.0) at (λ later. some-counted p ys x later is)
  where
    go : (c : Bool) → cond c (Some y) (find (λ e. eqb e.0 x.0) ys) ≡ Some x
        → (find (λ e. eqb e.0 x.0) ys ≡ Some x → 1 ≤ count_by p ys) → 1 ≤ count_by p (y ∷ ys)
    go true here rest =
        let same : y ≡ x = cc in
        let one : ◌≡◌ {A = ℕ} (cond (p y) 1 0) 1 = ap (λ b. cond b 1 0) (ap p same ∙ is) in
        let sum = sum_by-cons (λ e. cond (p e) 1 0) y ys in
        omega (arith, sum, one)
    go false there rest =
        let more = rest there in
        let sum = sum_by-cons (λ e. cond (p e) 1 0) y ys in
        omega (arith, sum, more)

found-once : (p : ℕ × Digest → Bool) (ds : List (ℕ × Digest)) (x : ℕ × Digest)
    → count_by p ds ≡ 1 → find (λ e. eqb e.0 x.0) ds ≡ Some x → p x ≡ true → find p ds ≡ Some x
found-once p [] x one at is = absurd cc
found-once p (y ∷ ys) x one at is =
    go (p y) refl (eqb y.0 x.0) at (λ fewer later. found-once p ys x fewer later is)
  where
    go : (b : Bool) → p y ≡ b → (c : Bool)
        → cond c (Some y) (find (λ e. eqb e.0 x.0) ys) ≡ Some x
        → (count_by p ys ≡ 1 → find (λ e. eqb e.0 x.0) ys ≡ Some x → find p ys ≡ Some x)
        → cond b (Some y) (find p ys) ≡ Some x
    go true py true here rest = here
    go true py false there rest =
        let more = some-counted p ys x there is in
        let sum = sum_by-cons (λ e. cond (p e) 1 0) y ys in
        let first : ◌≡◌ {A = ℕ} (cond (p y) 1 0) 1 = ap (λ b. cond b 1 0) py in
        absurd (omega (arith, sum, first, more, one))
    go false py true here rest =
        let same : y ≡ x = cc in
        absurd (let e : false ≡ true = sym py ∙ ap p same ∙ is in cc)
    go false py false there rest =
        let sum = sum_by-cons (λ e. cond (p e) 1 0) y ys in
        let first : ◌≡◌ {A = ℕ} (cond (p y) 1 0) 0 = ap (λ b. cond b 1 0) py in
        rest (omega (arith, sum, first, one)) there

-- the entry with a number
pub record Entry (ds : List (ℕ × Digest)) (n : ℕ) (d : Digest) : Type 0 where
  pub entry : ℕ × Digest
  pub found : find (λ e. eqb e.0 n) ds ≡ Some entry
  pub value : entry.1 ≡ d

entry-of : (ds : List (ℕ × Digest)) (n : ℕ) (d : Digest) → value_at ds n ≡ Some d → Entry ds n d
entry-of ds n d is = go (find (λ e. eqb e.0 n) ds) refl is
  where
    go : (o : Option (ℕ × Digest)) → find (λ e. eqb e.0 n) ds ≡ o
        → option_map (λ e. e.1) o ≡ Some d → Entry ds n d
    go None at h = absurd cc
    go (Some y) at h = record {
      entry = y;
      found = at;
      value = (let e : Some y.1 ≡ Some d = h in cc);
    }

digest-once : (ds : List (ℕ × Digest)) (n x : ℕ) (d : Digest) → times_listed ds n ≡ 1
    → value_at ds x ≡ Some d → lists d.segments n ≡ true → digest_of ds n ≡ Some x
unfolding times_listed digest_of
digest-once ds n x d once there listed =
    let e = entry-of ds x d there in
    let number : e.entry.0 ≡ x =
    eqb-true e.entry.0 x (find_passes (λ g. eqb g.0 x) ds e.entry e.found) in
    let at = subst (λ (k : ℕ). find (λ g. eqb g.0 k) ds ≡ Some e.entry) (sym number) e.found in
    ap (option_map (λ g. g.0))
    (found-once (λ g. lists g.1.segments n) ds e.entry once at
    (ap (λ (g : Digest). lists g.segments n) e.value ∙ listed))
    ∙ ap (λ k. Some k) number

-- ---- a part of a segment takes the keys that the whole takes
same-option : (a b : Option ℕ) → same_digest a b ≡ true → a ≡ b
same-option None None is = refl
same-option None (Some e) is = absurd (let h : false ≡ true = is in cc)
same-option (Some d) None is = absurd (let h : false ≡ true = is in cc)
same-option (Some d) (Some e) is = ap (λ n. Some n) (eqb-true d e is)

cipher-same : (a b : Cipher) → same_cipher a b ≡ true → a ≡ b
cipher-same AesXtsPlain64 AesXtsPlain64 is = refl
cipher-same AesXtsPlain64 AesCbcEssivSha256 is = absurd (let h : false ≡ true = is in cc)
cipher-same AesCbcEssivSha256 AesXtsPlain64 is = absurd (let h : false ≡ true = is in cc)
cipher-same AesCbcEssivSha256 AesCbcEssivSha256 is = refl

encrypted-takes : (k units : ℕ) (w e : Option Encryption) → is_encrypted units w e ≡ true
    → takes_key k e ≡ takes_key k w
encrypted-takes k units None None is = refl
encrypted-takes k units None (Some e) is = absurd (let h : false ≡ true = is in cc)
encrypted-takes k units (Some w) None is = absurd (let h : false ≡ true = is in cc)
encrypted-takes k units (Some w) (Some e) is =
    let one = and_parts (same_cipher w.cipher e.cipher && (e.sector_size == w.sector_size))
    (e.iv_tweak == w.iv_tweak + units) is in
    let two = and_parts (same_cipher w.cipher e.cipher) (e.sector_size == w.sector_size) one.0 in
    ap (λ c. has_key_length (named_cipher c) k) (sym (cipher-same w.cipher e.cipher two.0))

pub record IsPartOf (k : ℕ) (whole e : Extent) : Type 0 where
  pub digest : whole.digest ≡ e.digest
  pub takes : takes_key k e.encryption ≡ takes_key k whole.encryption

part-of : (k atom : ℕ) (whole : Extent) (zone : Bool) (from blocks : ℕ) (e : Extent)
    → is_part atom (record { whole = whole; zone = zone; from = from; blocks = blocks }) e ≡ true
    → IsPartOf k whole e
part-of k atom whole zone from blocks e is =
    let one = and_parts _ (same_digest whole.digest e.digest) is in
    let two = and_parts _ (is_encrypted (from * atom / 512) whole.encryption e.encryption) one.0 in
    record {
      digest = same-option whole.digest e.digest one.1;
      takes = encrypted-takes k (from * atom / 512) whole.encryption e.encryption two.1;
    }

-- a segment under a digest of this number takes the keys that one takes
abbrev Alike : ℕ → ℕ → Bool → Extent → Type 0
Alike k x takes e = e.digest ≡ Some x → takes_key k e.encryption ≡ takes

part-alike : (k x : ℕ) (takes : Bool) (whole e : Extent) → Alike k x takes whole
    → IsPartOf k whole e → Alike k x takes e
part-alike k x takes whole e all is at = is.takes ∙ all (is.digest ∙ at)

-- a part, and what lies behind it
one-part : (k x atom : ℕ) (takes : Bool) (whole : Extent) (zone : Bool) (from blocks : ℕ)
    (rest : List Extent → Bool) → Alike k x takes whole
    → ((es : List Extent) → rest es ≡ true → AllByRecursion (Alike k x takes) es)
    → (live : List Extent)
    → cond (blocks == 0) (rest live)
    (begins atom (record { whole = whole; zone = zone; from = from; blocks = blocks }) live
    && rest (rest_of live)) ≡ true
    → AllByRecursion (Alike k x takes) live
one-part k x atom takes whole zone from blocks rest alike later live is = go (blocks == 0) live is
  where
    go : (b : Bool) (live : List Extent)
        → cond b (rest live)
        (begins atom (record { whole = whole; zone = zone; from = from; blocks = blocks }) live
        && rest (rest_of live)) ≡ true
        → AllByRecursion (Alike k x takes) live
    go true live is = later live is
    go false [] is = absurd (let h : false ≡ true = is in cc)
    go false (e ∷ live) is =
        let both = and_parts
        (is_part atom (record { whole = whole; zone = zone; from = from; blocks = blocks }) e)
        (rest live) is in (
          part-alike k x takes whole e alike
              (part-of k atom whole zone from blocks e both.0),
          later live both.1,
        )

no-part : (k x : ℕ) (takes : Bool) (es : List Extent) → is_nothing es ≡ true
    → AllByRecursion (Alike k x takes) es
no-part k x takes [] is = tt
no-part k x takes (e ∷ es) is = absurd (let h : false ≡ true = is in cc)

live-alike : (k x atom : ℕ) (takes : Bool) (d : Direction) (old new : Extent) (plan : Plan)
    (live : List Extent) → Alike k x takes old → Alike k x takes new
    → laid_out atom (parts_of d old new plan) live ≡ true
    → AllByRecursion (Alike k x takes) live
unfolding laid_out
live-alike k x atom takes Forward old new plan live one two is =
    one-part k x atom takes new false 0 plan.first
    (laid_out atom (drop 1 (parts_of Forward old new plan))) two
    (one-part k x atom takes old true plan.first plan.zone
    (laid_out atom (drop 2 (parts_of Forward old new plan))) one
    (one-part k x atom takes old false (plan.first + plan.zone) plan.last
    (laid_out atom (drop 3 (parts_of Forward old new plan))) one (no-part k x takes))) live is
live-alike k x atom takes Backward old new plan live one two is =
    one-part k x atom takes old false 0 plan.first
    (laid_out atom (drop 1 (parts_of Backward old new plan))) one
    (one-part k x atom takes old true plan.first plan.zone
    (laid_out atom (drop 2 (parts_of Backward old new plan))) one
    (one-part k x atom takes new false (plan.first + plan.zone) plan.last
    (laid_out atom (drop 3 (parts_of Backward old new plan))) two (no-part k x takes))) live is

wholes-alike : (k x : ℕ) (takes : Bool) (live : List Extent) (old new : Extent)
    → AllByRecursion (Alike k x takes) live → Alike k x takes old → Alike k x takes new
    → AllByRecursion (Alike k x takes) (live ++ old ∷ new ∷ [])
wholes-alike k x takes [] old new all one two = (one, (two, tt))
wholes-alike k x takes (e ∷ live) old new all one two =
    (all.0, wholes-alike k x takes live old new all.1 one two)

-- the other side has another digest
pub other-side : (x : ℕ) (old new : Option ℕ) → have_two_digests old new ≡ true → old ≡ Some x
    → new ≡ Some x → ⊥
other-side x old new two one other =
    let both : have_two_digests (Some x) (Some x) ≡ true =
    sym (ap₂ (λ a b. have_two_digests a b) one other) ∙ two in
    let none : not (eqb x x) ≡ false = ap not (eq-eqb x x refl) in
    (let h : true ≡ false = sym both ∙ none in cc)

-- ---- all segments
abbrev pub takes_each : Digest → ℕ → ℕ × Segment → Bool
takes_each d k s = not (lists d.segments s.0) || takes_key k s.1.encryption

-- one in one digest alone, as far as it is encrypted
abbrev Once : List (ℕ × Digest) → ℕ × Segment → Type 0
Once ds s = IsSome s.1.encryption → times_listed ds s.0 ≡ 1

one-takes : (ds : List (ℕ × Digest)) (x : ℕ) (d : Digest) (k : ℕ) → value_at ds x ≡ Some d
    → (s : ℕ × Segment) → Alike k x true (extent_of ds s) → Once ds s → takes_each d k s ≡ true
one-takes ds x d k there s alike once = go (lists d.segments s.0) refl s.1.encryption refl
  where
    go : (b : Bool) → lists d.segments s.0 ≡ b → (e : Option Encryption) → s.1.encryption ≡ e
        → (not b || takes_key k s.1.encryption) ≡ true
    go false listed e is = refl
    go true listed None is = ap (λ (e : Option Encryption). takes_key k e) is
    go true listed (Some e) is =
        let some : IsSome s.1.encryption =
        subst (λ (o : Option Encryption). IsSome o) (sym is) refl in
        alike (digest-once ds s.0 x d (once some) there listed)

each-takes : (ds : List (ℕ × Digest)) (x : ℕ) (d : Digest) (k : ℕ) → value_at ds x ≡ Some d
    → (segments : List (ℕ × Segment))
    → AllByRecursion (Alike k x true) (map (extent_of ds) segments)
    → AllByRecursion (Once ds) segments → list_all (takes_each d k) segments ≡ true
each-takes ds x d k there [] all once = refl
each-takes ds x d k there (s ∷ segments) all once =
    ap₂ (λ a b. a && b) (one-takes ds x d k there s all.0 once.0)
    (each-takes ds x d k there segments all.1 once.1)

-- one of them takes no such key
and-none : (b : Bool) → (b && false) ≡ false
and-none true = refl
and-none false = refl

one-refuses : (ds : List (ℕ × Digest)) (d : Digest) (k : ℕ) (whole : Extent)
    → lists d.segments whole.number ≡ true → takes_key k whole.encryption ≡ false
    → (s : ℕ × Segment) → extent_of ds s ≡ whole → takes_each d k s ≡ false
one-refuses ds d k whole listed refuses s same =
    ap₂ (λ a b. not a || b) (ap (λ (e : Extent). lists d.segments e.number) same ∙ listed)
    (ap (λ (e : Extent). takes_key k e.encryption) same ∙ refuses)

some-refuses : (ds : List (ℕ × Digest)) (d : Digest) (k : ℕ) (whole : Extent)
    → lists d.segments whole.number ≡ true → takes_key k whole.encryption ≡ false
    → (segments : List (ℕ × Segment)) (live tail : List Extent)
    → map (extent_of ds) segments ≡ live ++ whole ∷ tail
    → list_all (takes_each d k) segments ≡ false
some-refuses ds d k whole listed refuses [] [] tail same = absurd cc
some-refuses ds d k whole listed refuses [] (e ∷ live) tail same = absurd cc
some-refuses ds d k whole listed refuses (s ∷ segments) [] tail same =
    let head : extent_of ds s ≡ whole = cc in
    ap (λ b. b && list_all (takes_each d k) segments)
    (one-refuses ds d k whole listed refuses s head)
some-refuses ds d k whole listed refuses (s ∷ segments) (e ∷ live) tail same =
    let rest : map (extent_of ds) segments ≡ live ++ whole ∷ tail = cc in
    ap (λ b. takes_each d k s && b)
    (some-refuses ds d k whole listed refuses segments live tail rest)
    ∙ and-none (takes_each d k s)

pub record AreSegments (m : Parts) (atom : ℕ) (d : Direction) (old new : Extent) (plan : Plan)
    (live : List Extent) : Type 0 where
  pub are : map (extent_of m.digests) m.segments ≡ live ++ old ∷ new ∷ []
  pub laid : laid_out atom (parts_of d old new plan) live ≡ true
  pub two : have_two_digests old.digest new.digest ≡ true
  pub once : All (Once m.digests) m.segments

to-recursion : {X : Type 0} (P : X → Type 0) (xs : List X) → All P xs → AllByRecursion P xs
to-recursion P [] all = tt
to-recursion P (x ∷ xs) all =
    (all 0 x (omega arith), to-recursion P xs (λ i d l. all (suc i) d (omega (arith, l))))

module _ (m : Parts) (atom : ℕ) (way : Direction) (old new : Extent) (plan : Plan)
    (live : List Extent) (are : AreSegments m atom way old new plan live) (x : ℕ) (d : Digest)
    (there : value_at m.digests x ≡ Some d) (k : ℕ) where
  all-alike : (takes : Bool) → Alike k x takes old → Alike k x takes new
      → AllByRecursion (Alike k x takes) (map (extent_of m.digests) m.segments)
  all-alike takes one two =
      subst (λ (es : List Extent). AllByRecursion (Alike k x takes) es) (sym are.are)
      (wholes-alike k x takes live old new
      (live-alike k x atom takes way old new plan live one two are.laid) one two)

  all-take : Alike k x true old → Alike k x true new
      → list_all (takes_each d k) m.segments ≡ true
  all-take one two =
      each-takes m.digests x d k there m.segments (all-alike true one two)
      (to-recursion (Once m.digests) m.segments are.once)

  -- of the old side's digest
  pub old-fits : old.digest ≡ Some x → lists d.segments old.number ≡ true
      → list_all (takes_each d k) m.segments ≡ takes_key k old.encryption
  old-fits at listed = go (takes_key k old.encryption) refl
    where
      go : (b : Bool) → takes_key k old.encryption ≡ b
          → list_all (takes_each d k) m.segments ≡ takes_key k old.encryption
      go true is =
          all-take (λ e. is) (λ e. absurd (other-side x old.digest new.digest are.two at e))
          ∙ sym is
      go false is =
          some-refuses m.digests d k old listed is m.segments live (new ∷ []) are.are ∙ sym is

  -- of the new side's
  pub new-fits : new.digest ≡ Some x → lists d.segments new.number ≡ true
      → list_all (takes_each d k) m.segments ≡ takes_key k new.encryption
  new-fits at listed = go (takes_key k new.encryption) refl
    where
      go : (b : Bool) → takes_key k new.encryption ≡ b
          → list_all (takes_each d k) m.segments ≡ takes_key k new.encryption
      go true is =
          all-take (λ e. absurd (other-side x old.digest new.digest are.two e at)) (λ e. is)
          ∙ sym is
      go false is =
          some-refuses m.digests d k new listed is m.segments (live ++ old ∷ []) []
          (are.are ∙ sym (append_assoc live (old ∷ []) (new ∷ []))) ∙ sym is
