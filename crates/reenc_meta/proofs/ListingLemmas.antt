-- Which segments the two digests of a conversion list.
use Rattle.std.proofs.Common.{◌≡◌, ◌∙◌, ℕ, suc, zero, ◌+◌, ◌<◌, ◌&&◌, ◌||◌, not, cond, eqb, List}
use Rattle.std.proofs.Common.{[], ◌∷◌, length, map, get_or, Option, Some, None, Bool, true, false}
use Rattle.std.proofs.Common.{refl, sym, ap, subst, arith}
use Rattle.std.proofs.lemmas.Bool.{eq-eqb, eqb-true, ne_eqb, or_from}
use Rattle.std.proofs.lemmas.List.Sums.{sum_by-cons}
use Rattle.std.specs.List.{AllByRecursion, count_by, find}
use Rattle.std.specs.Option.{IfSome, IsSome, option_map}
use Rattle.json_members.specs.Entries.{IsRising}
use Rattle.luks_meta.specs.declared.digest.Digest.{Digest}
use Rattle.luks_rules.specs.Extents.{digest_of}
use Rattle.luks_rules.specs.Plans.{same_digest}
use Rattle.luks_rules.specs.References.{is_there, lists, times_listed}
use Rattle.luks_rules.specs.Shapes.{have_two_digests}
use Rattle.luks_rules.specs.declared.shape.Progress.{Progress}
use Rattle.reenc_meta.specs.Layouts.{is_under, listed_by, numbers_under, segments_under, whole_on}
use Rattle.segment_map.specs.declared.Side.{Side}
use Rattle.segment_map.specs.declared.Side.TheVariants.{Old, New, Zone}

-- ---- numbers of segments
lists_one : (b : Bool) (k n : ℕ) (rest : List ℕ)
    → lists (cond b (k ∷ rest) rest) n ≡ ((b && eqb k n) || lists rest n)
lists_one true k n rest = refl
lists_one false k n rest = refl

neither : (b x y : Bool) → x ≡ false → y ≡ false → ((b && x) || y) ≡ false
neither true x y e f = or_from x y e f
neither false x y e f = f

only_first : (b x y : Bool) → x ≡ true → y ≡ false → ((b && x) || y) ≡ b
only_first true x y e f = ap (λ z. z || y) e
only_first false x y e f = f

only_second : (b x y z : Bool) → x ≡ false → y ≡ z → ((b && x) || y) ≡ z
only_second true x y z e f = ap (λ a. a || y) e ∙ f
only_second false x y z e f = f

none_below : (new : Bool) (k n : ℕ) (sides : List Side) → n < k
    → lists (numbers_under new k sides) n ≡ false
unfolding numbers_under
none_below new k n [] below = refl
none_below new k n (side ∷ sides) below =
    lists_one (is_under new side) k n (numbers_under new (k + 1) sides)
    ∙ neither (is_under new side) (eqb k n) (lists (numbers_under new (k + 1) sides) n)
    (ne_eqb k n (λ same. absurd (omega (arith, below, same))))
    (none_below new (k + 1) n sides (omega (arith, below)))

listed_at : (new : Bool) (k i n : ℕ) (sides : List Side) (d : Side) → i < length sides
    → n ≡ k + i → lists (numbers_under new k sides) n ≡ is_under new (get_or sides i d)
unfolding numbers_under
listed_at new k i n [] d below at = absurd (omega (arith, below))
listed_at new k zero n (side ∷ sides) d below at =
    lists_one (is_under new side) k n (numbers_under new (k + 1) sides)
    ∙ only_first (is_under new side) (eqb k n) (lists (numbers_under new (k + 1) sides) n)
    (eq-eqb k n (omega (arith, at)))
    (none_below new (k + 1) n sides (omega (arith, at)))
listed_at new k (suc i) n (side ∷ sides) d below at =
    lists_one (is_under new side) k n (numbers_under new (k + 1) sides)
    ∙ only_second (is_under new side) (eqb k n) (lists (numbers_under new (k + 1) sides) n)
    (is_under new (get_or sides i d))
    (ne_eqb k n (λ same. absurd (omega (arith, at, same))))
    (listed_at new (k + 1) i n sides d (omega (arith, below)) (omega (arith, at)))

-- they are below the number of segments
below_each : (b : Bool) (k last : ℕ) (rest : List ℕ) → k < last
    → AllByRecursion (λ n. n < last) rest → AllByRecursion (λ n. n < last) (cond b (k ∷ rest) rest)
below_each true k last rest below later = (below, later)
below_each false k last rest below later = later

pub numbers-below : (new : Bool) (k last : ℕ) (sides : List Side) → k + length sides ≡ last
    → AllByRecursion (λ n. n < last) (numbers_under new k sides)
unfolding numbers_under
numbers-below new k last [] fits = tt
numbers-below new k last (side ∷ sides) fits =
    below_each (is_under new side) k last (numbers_under new (k + 1) sides)
    (omega (arith, fits)) (numbers-below new (k + 1) last sides (omega (arith, fits)))

-- ---- a digest lists a segment exactly where it is the digest of its side
lists_two : (a b : Bool) (xs ys : List ℕ) (n : ℕ)
    → lists (cond a xs (cond b ys [])) n ≡ cond a (lists xs n) (cond b (lists ys n) false)
lists_two true b xs ys n = refl
lists_two false true xs ys n = refl
lists_two false false xs ys n = refl

by_old : (a b : Bool) → cond a true (cond b false false) ≡ a
by_old true b = refl
by_old false true = refl
by_old false false = refl

by_new : (a b : Bool) → (a ≡ true → b ≡ true → ⊥) → cond a false (cond b true false) ≡ b
by_new true true never = absurd (never refl refl)
by_new true false never = refl
by_new false true never = refl
by_new false false never = refl

-- no number is that of both
apart : (o w : Option ℕ) (n : ℕ) → have_two_digests o w ≡ true → same_digest o (Some n) ≡ true
    → same_digest w (Some n) ≡ true → ⊥
apart None w n two one other = cc
apart (Some d) None n two one other = cc
apart (Some d) (Some e) n two one other =
    let same : d ≡ e = eqb-true d n one ∙ sym (eqb-true e n other) in
    let here = ap not (eq-eqb d e same) in cc

by_side : (p : Progress) (side : Side) (number : ℕ)
    → have_two_digests p.old.digest p.new.digest ≡ true
    → cond (same_digest p.old.digest (Some number)) (is_under false side)
    (cond (same_digest p.new.digest (Some number)) (is_under true side) false)
    ≡ same_digest (whole_on p side).digest (Some number)
by_side p Old number two =
    by_old (same_digest p.old.digest (Some number)) (same_digest p.new.digest (Some number))
by_side p Zone number two =
    by_old (same_digest p.old.digest (Some number)) (same_digest p.new.digest (Some number))
by_side p New number two =
    by_new (same_digest p.old.digest (Some number)) (same_digest p.new.digest (Some number))
    (apart p.old.digest p.new.digest number two)

pub lists-side : (p : Progress) (sides : List Side) (number n : ℕ) (d : Side)
    → have_two_digests p.old.digest p.new.digest ≡ true → n < length sides
    → lists (segments_under p sides number) n
    ≡ same_digest (whole_on p (get_or sides n d)).digest (Some number)
lists-side p sides number n d two below =
    lists_two (same_digest p.old.digest (Some number)) (same_digest p.new.digest (Some number))
    (numbers_under false 0 sides) (numbers_under true 0 sides) n
    ∙ (λ i. cond (same_digest p.old.digest (Some number))
    (listed_at false 0 n n sides d below (omega arith) i)
    (cond (same_digest p.new.digest (Some number))
    (listed_at true 0 n n sides d below (omega arith) i) false))
    ∙ by_side p (get_or sides n d) number two

-- ---- the digest of a side is found, and it is the only one
-- a test of entries that is passed by the one of a number
abbrev pub IsTestFor : (ℕ × Digest → Bool) → Option ℕ → Type 0
IsTestFor test o = (d : ℕ × Digest) → test d ≡ same_digest o (Some d.0)

pub found-one : (test : ℕ × Digest → Bool) (o : Option ℕ) (ds : List (ℕ × Digest))
    → IsTestFor test o → IfSome o (λ n. is_there ds n ≡ true)
    → option_map (λ d. d.0) (find test ds) ≡ o
found-one test None [] is there = refl
found-one test (Some n) [] is there = cc
found-one test None (d ∷ ds) is there =
    ap (λ b. option_map (λ d. d.0) (cond b (Some d) (find test ds))) (is d)
    ∙ found-one test None ds is tt
found-one test (Some n) (d ∷ ds) is there =
    go (eqb n d.0) refl (λ k. found-one test (Some n) ds is k)
  where
    go : (b : Bool) → eqb n d.0 ≡ b
        → (is_there ds n ≡ true → option_map (λ d. d.0) (find test ds) ≡ Some n)
        → option_map (λ d. d.0) (cond (test d) (Some d) (find test ds)) ≡ Some n
    go true e later =
        ap (λ b. option_map (λ d. d.0) (cond b (Some d) (find test ds))) (is d ∙ e)
        ∙ ap Some (sym (eqb-true n d.0 e))
    go false e later =
        let other = ne_eqb d.0 n (λ same. let bad = sym (eq-eqb n d.0 (sym same)) ∙ e in cc) in
        ap (λ b. option_map (λ d. d.0) (cond b (Some d) (find test ds))) (is d ∙ e)
        ∙ later (ap (λ b. b || is_there ds n) (sym other) ∙ there)

none_later : (test : ℕ × Digest → Bool) (n : ℕ) (ds : List (ℕ × Digest)) → IsTestFor test (Some n)
    → AllByRecursion (λ d. n < d.0) ds → count_by test ds ≡ 0
none_later test n [] is above = refl
none_later test n (d ∷ ds) is above =
    let other = is d ∙ ne_eqb n d.0 (λ same. absurd (omega (arith, above.0, same))) in
    sum_by-cons (λ x. cond (test x) 1 0) d ds
    ∙ ap (λ b. cond b 1 0 + count_by test ds) other
    ∙ ap (λ k. 0 + k) (none_later test n ds is above.1)

pub counted-one : (test : ℕ × Digest → Bool) (n : ℕ) (ds : List (ℕ × Digest))
    → IsTestFor test (Some n) → IsRising ds → is_there ds n ≡ true → count_by test ds ≡ 1
counted-one test n [] is rising there = cc
counted-one test n (d ∷ ds) is rising there =
    sum_by-cons (λ x. cond (test x) 1 0) d ds
    ∙ go (eqb n d.0) refl (λ k. counted-one test n ds is rising.2 k)
  where
    go : (b : Bool) → eqb n d.0 ≡ b → (is_there ds n ≡ true → count_by test ds ≡ 1)
        → cond (test d) 1 0 + count_by test ds ≡ 1
    go true e one =
        let same = eqb-true n d.0 e in
        let later =
        none_later test n ds is (subst (λ k. AllByRecursion (λ f. k < f.0) ds) (sym same) rising.1)
        in ap (λ b. cond b 1 0 + count_by test ds) (is d ∙ e) ∙ ap (λ k. 1 + k) later
    go false e one =
        let other = ne_eqb d.0 n (λ same. let bad = sym (eq-eqb n d.0 (sym same)) ∙ e in cc) in
        ap (λ b. cond b 1 0 + count_by test ds) (is d ∙ e)
        ∙ ap (λ k. 0 + k) (one (ap (λ b. b || is_there ds n) (sym other) ∙ there))

-- ---- so of the digests of a conversion
pub find-mapped : (f : ℕ × Digest → ℕ × Digest) (test : ℕ × Digest → Bool)
    (ds : List (ℕ × Digest)) → ((d : ℕ × Digest) → (f d).0 ≡ d.0)
    → option_map (λ d. d.0) (find test (map f ds))
    ≡ option_map (λ d. d.0) (find (λ d. test (f d)) ds)
find-mapped f test [] same = refl
find-mapped f test (d ∷ ds) same = go (test (f d)) (find-mapped f test ds same)
  where
    go : (b : Bool)
        → option_map (λ d. d.0) (find test (map f ds))
        ≡ option_map (λ d. d.0) (find (λ d. test (f d)) ds)
        → option_map (λ d. d.0) (cond b (Some (f d)) (find test (map f ds)))
        ≡ option_map (λ d. d.0) (cond b (Some d) (find (λ d. test (f d)) ds))
    go true later = ap Some (same d)
    go false later = later

pub count-mapped : (f : ℕ × Digest → ℕ × Digest) (test : ℕ × Digest → Bool)
    (ds : List (ℕ × Digest)) → count_by test (map f ds) ≡ count_by (λ d. test (f d)) ds
count-mapped f test [] = refl
count-mapped f test (d ∷ ds) =
    sum_by-cons (λ x. cond (test x) 1 0) (f d) (map f ds)
    ∙ ap (λ k. cond (test (f d)) 1 0 + k) (count-mapped f test ds)
    ∙ sym (sum_by-cons (λ x. cond (test (f x)) 1 0) d ds)

-- Each segment is listed by the digest of its side alone, where that has one.
pub record AreListed (p : Progress) (sides : List Side) (ds : List (ℕ × Digest)) : Type 0 where
  pub digest : (n : ℕ) (d : Side) → n < length sides
      → digest_of ds n ≡ (whole_on p (get_or sides n d)).digest
  pub once : (n : ℕ) (d : Side) → n < length sides
      → IsSome (whole_on p (get_or sides n d)).digest → times_listed ds n ≡ 1

one_of : (o : Option ℕ) → IsSome o → (n : ℕ) × (o ≡ Some n)
one_of None some = let bad : false ≡ true = some in cc
one_of (Some n) some = (n, refl)

-- each side's digest, if it has one, is there
abbrev pub AreThere : Progress → List (ℕ × Digest) → Type 0
AreThere p ds = (side : Side) → IfSome (whole_on p side).digest (λ n. is_there ds n ≡ true)

pub are-listed : (p : Progress) (sides : List Side) (ds : List (ℕ × Digest))
    → have_two_digests p.old.digest p.new.digest ≡ true → IsRising ds → AreThere p ds
    → AreListed p sides (map (listed_by p sides) ds)
unfolding digest_of times_listed
are-listed p sides ds two rising there = record {
  digest = λ n d below.
      find-mapped (listed_by p sides) (λ x. lists x.1.segments n) ds (λ x. refl)
      ∙ found-one (λ x. lists (segments_under p sides x.0) n) (whole_on p (get_or sides n d)).digest
      ds (λ x. lists-side p sides x.0 n d two below) (there (get_or sides n d));
  once = λ n d below some.
      (let one = one_of (whole_on p (get_or sides n d)).digest some in
      count-mapped (listed_by p sides) (λ x. lists x.1.segments n) ds
      ∙ counted-one (λ x. lists (segments_under p sides x.0) n) one.0 ds
      (λ x. lists-side p sides x.0 n d two below ∙ ap (λ o. same_digest o (Some x.0)) one.1)
      rising
      (subst (λ o. IfSome o (λ k. is_there ds k ≡ true)) one.1 (there (get_or sides n d))));
}
