-- Where each segment lies, and the one digest that lists it.
use Rattle.std.proofs.Common.{◌≡◌, ◌∙◌, ℕ, suc, ◌+◌, ◌<◌, ◌≤◌, ◌++◌, cond, eqb, List, [], ◌∷◌}
use Rattle.std.proofs.Common.{length, map, get_or, Option, Some, None, Bool, true, false, refl, sym}
use Rattle.std.proofs.Common.{ap, subst, arith}
use Rattle.std.proofs.lemmas.Bool.{eq-eqb, ne_eqb}
use Rattle.std.proofs.lemmas.List.Sums.{sum_by-cons}
use Rattle.std.specs.List.{All, AllByRecursion, find, count_by}
use Rattle.std.specs.Option.{IfSome, IsSome, option_map}
use Rattle.base_terms.specs.declared.disk_sizes.Sizes.{Sizes}
use Rattle.json_members.specs.Entries.{IsRising}
use Rattle.luks_meta.specs.declared.digest.Digest.{Digest}
use Rattle.luks_meta.specs.declared.meta.Parts.{Parts}
use Rattle.luks_meta.specs.declared.segment.Segment.{Segment}
use Rattle.luks_rules.specs.Areas.{main_bytes}
use Rattle.luks_rules.specs.Extents.{digest_of, extent_of}
use Rattle.luks_rules.specs.Plain.{AreReferred, HaveNumbers, HaveWholeAtoms, HaveWholeSectors}
use Rattle.luks_rules.specs.Plain.{LieWithin}
use Rattle.luks_rules.specs.References.{is_there, lists, times_listed, value_at}
use Rattle.luks_rules.specs.Segments.{bytes_of}
use Rattle.luks_rules.specs.States.{IsPlaced, IsUnder}
use Rattle.luks_rules.specs.declared.extents.Extent.{Extent}
use Rattle.luks_rules.proofs.ChoiceLemmas.{find_passes}

-- ---- each of a list
by_recursion : {X : Type 0} (P : X → Type 0) (xs : List X) → All P xs → AllByRecursion P xs
by_recursion P [] h = tt
by_recursion P (x ∷ xs) h =
    (h 0 x (omega arith), by_recursion P xs (λ k d l. h (suc k) d (omega arith)))

mapped : {X Y : Type 0} (f : X → Y) (P : Y → Type 0) (xs : List X)
    → ((k : ℕ) (d : X) → k < length xs → P (f (get_or xs k d))) → AllByRecursion P (map f xs)
mapped f P [] h = tt
mapped f P (x ∷ xs) h = (h 0 x (omega arith), mapped f P xs (λ k d l. h (suc k) d (omega arith)))

-- ---- the one that is found
found_holds : {X : Type 0} (p : X → Bool) (P : X → Type 0) (xs : List X) (x : X)
    → AllByRecursion P xs → find p xs ≡ Some x → P x
found_holds p P [] x all h = cc
found_holds p P (y ∷ ys) x all h = go (p y) h (λ k. found_holds p P ys x all.1 k)
  where
    go : (b : Bool) → cond b (Some y) (find p ys) ≡ Some x → (find p ys ≡ Some x → P x) → P x
    go true e later = let same : y ≡ x = cc in subst P same all.0
    go false e later = later e

-- numbers rise, so that an entry is found by its own
by_number : {T : Type 0} (p : ℕ × T → Bool) (es : List (ℕ × T)) (x : ℕ × T) → IsRising es
    → find p es ≡ Some x → find (λ e. eqb e.0 x.0) es ≡ Some x
by_number p [] x rising h = cc
by_number p (e ∷ es) x rising h = go (p e) h (λ k. by_number p es x rising.2 k)
  where
    go : (b : Bool) → cond b (Some e) (find p es) ≡ Some x
        → (find p es ≡ Some x → find (λ f. eqb f.0 x.0) es ≡ Some x)
        → cond (eqb e.0 x.0) (Some e) (find (λ f. eqb f.0 x.0) es) ≡ Some x
    go true h later = let same : e ≡ x =
        cc in ap (λ b. cond b (Some e) (find (λ f. eqb f.0 x.0) es))
        (eq-eqb _ _ (ap (λ y. y.0) same)) ∙ ap Some same
    go false h later =
        let below : e.0 < x.0 = found_holds p (λ f. e.0 < f.0) es x rising.1 h in
        ap (λ b. cond b (Some e) (find (λ f. eqb f.0 x.0) es))
        (ne_eqb _ _ (λ same. absurd (omega (arith, below, same)))) ∙ later h

pub value_holds : {B T : Type 0} (f : B → T) (P : T → Type 0) (es : List (ℕ × T)) (n : ℕ)
    (o : Option B) → AllByRecursion (λ e. P e.1) es → option_map f o ≡ value_at es n
    → IfSome o (λ b. P (f b))
value_holds f P es n None all e = tt
value_holds {B} {T} f P es n (Some b) all e = go (find (λ e. eqb e.0 n) es) refl e
  where
    go : (o : Option (ℕ × T)) → find (λ e. eqb e.0 n) es ≡ o → Some (f b) ≡ option_map (λ e. e.1) o
        → P (f b)
    go None h e = cc
    go (Some x) h e = let same : f b ≡ x.1 =
        cc in subst P (sym same) (found_holds (λ e. eqb e.0 n) (λ e. P e.1) es x all h)

counted_once : {X : Type 0} (p : X → Bool) (xs : List X) → count_by p xs ≡ 1
    → (x : X) × (find p xs ≡ Some x)
counted_once p [] h = absurd (omega (arith, h))
counted_once {X} p (y ∷ ys) h =
    go (p y) (sym (sum_by-cons (λ x. cond (p x) 1 0) y ys) ∙ h) (λ k. counted_once p ys k)
  where
    go : (b : Bool) → cond b 1 0 + count_by p ys ≡ 1
        → (count_by p ys ≡ 1 → (x : X) × (find p ys ≡ Some x))
        → (x : X) × (cond b (Some y) (find p ys) ≡ Some x)
    go true e later = (y, refl)
    go false e later = later (omega (arith, e))

-- ---- a segment's digest
under : (m : Parts) (s : ℕ × Segment) → IsRising m.digests → AreReferred m
    → times_listed m.digests s.0 ≡ 1
    → (n : ℕ) × (d : Digest) × IsUnder m (extent_of m.digests s) n d
unfolding times_listed digest_of
under m s rising is once =
    let p : ℕ × Digest → Bool = λ d. lists d.1.segments s.0 in
    let found = counted_once p m.digests once in (
      found.0.0,
      found.0.1,
      record {
        number = ap (option_map (λ d. d.0)) found.1;
        digest = ap (option_map (λ d. d.1)) (by_number p m.digests found.0 rising found.1);
        listed = find_passes p m.digests found.0 found.1;
        alone = once;
        keyslots =
            found_holds p (λ d. All (λ k. is_there m.keyslots k ≡ true) d.1.keyslots) m.digests
            found.0 (by_recursion _ m.digests is.keyslots) found.1;
      },
    )

-- ---- all segments
pub placed : (m : Parts) (sizes : Sizes) → IsRising m.digests → LieWithin m sizes → AreReferred m
    → All (λ s. s.1.offset + bytes_of sizes s.1 ≤ main_bytes sizes) m.segments
    → HaveWholeSectors m sizes → HaveWholeAtoms m sizes → HaveNumbers m sizes
    → AllByRecursion (IsPlaced m sizes) (map (extent_of m.digests) m.segments)
placed m sizes rising within referred on sectors atoms numbers =
    mapped (extent_of m.digests) (IsPlaced m sizes) m.segments (λ k d h. record {
      whole = (atoms.segments k d h).0;
      size = (atoms.segments k d h).1;
      on_disk = on k d h;
      behind = λ e. within.attached e k d h;
      sectors = sectors k d h;
      numbers = numbers k d h;
      digest = λ some. under m (get_or m.segments k d) rising referred (referred.once k d h some);
    })

-- the two behind the live ones
pub last_two : (P : Extent → Type 0) (live : List Extent) (old new : Extent)
    → AllByRecursion P (live ++ old ∷ new ∷ []) → (P old) × (P new)
last_two P [] old new h = (h.0, h.1.0)
last_two P (e ∷ es) old new h = last_two P es old new h.1
