-- Entries by rising numbers with a new one of the lowest number that is free.
use Rattle.std.proofs.Common.{◌≡◌, ℕ, zero, suc, ◌+◌, ◌-◌, ◌<◌, ◌≤◌, ◌||◌, eqb, cond, List, []}
use Rattle.std.proofs.Common.{◌∷◌, map, Bool, true, false, Some, None, refl, ◌∙◌, ap}
use Rattle.std.proofs.Common.{arith}
use Rattle.std.proofs.lemmas.Bool.{eq-eqb, eqb-true, ne_eqb}
use Rattle.std.specs.List.{AllByRecursion, find, insert}
use Rattle.std.specs.Option.{option_map}
use Rattle.json_members.specs.Entries.{IsRising}
use Rattle.luks_rules.specs.References.{is_there, value_at}
use Rattle.reenc_meta.specs.Starts.{lowest_free, lowest_from, with_new}

module _ {X : Type 0} where
  -- ---- the lowest number from one on that is free
  lowest-least : (k : ℕ) (es : List (ℕ × X)) → k ≤ lowest_from k es
  unfolding lowest_from
  lowest-least k [] = omega arith
  lowest-least k (e ∷ es) = go (eqb e.0 k) (lowest-least (k + 1) es)
    where
      go : (b : Bool) → k + 1 ≤ lowest_from (k + 1) es → k ≤ cond b (lowest_from (k + 1) es) k
      go true h = omega (arith, h)
      go false h = omega arith

  further : (k low : ℕ) (es : List (ℕ × X)) → k ≤ low → AllByRecursion (λ f. low < f.0) es
      → AllByRecursion (λ f. k < f.0) es
  further k low [] le above = tt
  further k low (e ∷ es) le above =
      (let here = above.0 in omega (arith, here, le), further k low es le above.1)

  none-there : (k : ℕ) (es : List (ℕ × X)) → AllByRecursion (λ f. k < f.0) es
      → is_there es k ≡ false
  none-there k [] above = refl
  none-there k (e ∷ es) above =
      ap (λ b. b || is_there es k)
      (ne_eqb e.0 k (λ same. let here = above.0 in absurd (omega (arith, here, same))))
      ∙ none-there k es above.1

  -- in rising numbers from one on it is passed over
  free-from : (k : ℕ) (es : List (ℕ × X)) → AllByRecursion (λ f. k ≤ f.0) es → IsRising es
      → is_there es (lowest_from k es) ≡ false
  unfolding lowest_from
  free-from k [] least rising = refl
  free-from k (e ∷ es) least rising =
      go (eqb e.0 k) refl (free-from (k + 1) es (next e.0 es least.0 rising.1) rising.2)
    where
      next : (low : ℕ) (fs : List (ℕ × X)) → k ≤ low → AllByRecursion (λ f. low < f.0) fs
          → AllByRecursion (λ f. k + 1 ≤ f.0) fs
      next low [] le above = tt
      next low (f ∷ fs) le above =
          (let here = above.0 in omega (arith, here, le), next low fs le above.1)

      go : (b : Bool) → eqb e.0 k ≡ b → is_there es (lowest_from (k + 1) es) ≡ false
          → is_there (e ∷ es) (cond b (lowest_from (k + 1) es) k) ≡ false
      go true is later =
          let same = eqb-true e.0 k is in
          let low = lowest-least (k + 1) es in
          ap (λ b. b || is_there es (lowest_from (k + 1) es))
          (ne_eqb e.0 (lowest_from (k + 1) es) (λ one. absurd (omega (arith, same, low, one))))
          ∙ later
      go false is later =
          ap (λ b. b || is_there es k) is ∙ none-there k es (further k e.0 es least.0 rising.1)

  all-from-zero : (es : List (ℕ × X)) → AllByRecursion (λ f. 0 ≤ f.0) es
  all-from-zero [] = tt
  all-from-zero (e ∷ es) = (omega arith, all-from-zero es)

  pub number-free : (es : List (ℕ × X)) → IsRising es → is_there es (lowest_free es) ≡ false
  number-free es rising = free-from 0 es (all-from-zero es) rising

  -- ---- the value of an entry
  pub value-there : (es : List (ℕ × X)) (n : ℕ) (x : X) → value_at es n ≡ Some x
      → is_there es n ≡ true
  value-there [] n x is = absurd cc
  value-there (e ∷ es) n x is = go (eqb e.0 n) is (value-there es n x)
    where
      go : (b : Bool)
          → option_map (λ (f : ℕ × X). f.1) (cond b (Some e) (find (λ f. eqb f.0 n) es)) ≡ Some x
          → (value_at es n ≡ Some x → is_there es n ≡ true) → (b || is_there es n) ≡ true
      go true h later = refl
      go false h later = later h

  -- an entry of another number leaves it
  pub value-skips : (n : ℕ) (es : List (ℕ × X)) (i : ℕ) (y : ℕ × X) → eqb y.0 n ≡ false
      → value_at (insert es i y) n ≡ value_at es n
  value-skips n [] zero y other =
      ap (λ b. option_map (λ (f : ℕ × X). f.1) (cond b (Some y) None)) other
  value-skips n [] (suc i) y other =
      ap (λ b. option_map (λ (f : ℕ × X). f.1) (cond b (Some y) None)) other
  value-skips n (e ∷ es) zero y other =
      ap (λ b. option_map (λ (f : ℕ × X). f.1)
      (cond b (Some y) (find (λ f. eqb f.0 n) (e ∷ es)))) other
  value-skips n (e ∷ es) (suc i) y other = go (eqb e.0 n) (value-skips n es i y other)
    where
      go : (b : Bool) → value_at (insert es i y) n ≡ value_at es n
          → option_map (λ (f : ℕ × X). f.1)
          (cond b (Some e) (find (λ f. eqb f.0 n) (insert es i y)))
          ≡ option_map (λ (f : ℕ × X). f.1) (cond b (Some e) (find (λ f. eqb f.0 n) es))
      go true h = refl
      go false h = h

  -- the new entry is found by its number
  new-found : (k n : ℕ) (x : X) (es : List (ℕ × X)) → n ≡ lowest_from k es
      → value_at (insert es (n - k) (n, x)) n ≡ Some x
  unfolding lowest_from
  new-found k n x [] is =
      let none : n - k ≡ 0 = omega (arith, is) in
      ap (λ i. value_at (insert {X = ℕ × X} [] i (n, x)) n) none
      ∙ ap (λ b. option_map (λ (f : ℕ × X). f.1) (cond b (Some (n, x)) None)) (eq-eqb n n refl)
  new-found k n x (e ∷ es) is =
      go (eqb e.0 k) refl is (new-found (k + 1) n x es) (lowest-least (k + 1) es)
    where
      go : (b : Bool) → eqb e.0 k ≡ b → n ≡ cond b (lowest_from (k + 1) es) k
          → (n ≡ lowest_from (k + 1) es → value_at (insert es (n - (k + 1)) (n, x)) n ≡ Some x)
          → k + 1 ≤ lowest_from (k + 1) es
          → value_at (insert (e ∷ es) (n - k) (n, x)) n ≡ Some x
      go true at is later low =
          let same = eqb-true e.0 k at in
          let next : n - k ≡ suc (n - (k + 1)) = omega (arith, is, low) in
          ap (λ i. value_at (insert (e ∷ es) i (n, x)) n) next
          ∙ ap (λ b. option_map (λ (f : ℕ × X). f.1)
          (cond b (Some e) (find (λ f. eqb f.0 n) (insert es (n - (k + 1)) (n, x)))))
          (ne_eqb e.0 n (λ one. absurd (omega (arith, same, one, is, low))))
          ∙ later is
      go false at is later low =
          let none : n - k ≡ 0 = omega (arith, is) in
          ap (λ i. value_at (insert (e ∷ es) i (n, x)) n) none
          ∙ ap (λ b. option_map (λ (f : ℕ × X). f.1)
          (cond b (Some (n, x)) (find (λ f. eqb f.0 n) (e ∷ es)))) (eq-eqb n n refl)

  pub new-value : (x : X) (es : List (ℕ × X)) → value_at (with_new x es) (lowest_free es) ≡ Some x
  new-value x es =
      let whole : lowest_free es ≡ lowest_free es - 0 = omega arith in
      ap (λ i. value_at (insert es i (lowest_free es, x)) (lowest_free es)) whole
      ∙ new-found 0 (lowest_free es) x es refl

  -- ---- entries whose values alone change
  module _ (f : ℕ × X → ℕ × X) (same : (e : ℕ × X) → (f e).0 ≡ e.0) where
    lowest-kept : (k : ℕ) (es : List (ℕ × X)) → lowest_from k (map f es) ≡ lowest_from k es
    unfolding lowest_from
    lowest-kept k [] = refl
    lowest-kept k (e ∷ es) =
        (λ i. cond (eqb (same e i) k) (lowest_from (k + 1) (map f es)) k)
        ∙ ap (λ n. cond (eqb e.0 k) n k) (lowest-kept (k + 1) es)

    pub free-kept : (es : List (ℕ × X)) → lowest_free (map f es) ≡ lowest_free es
    free-kept es = lowest-kept 0 es

    pub value-changed : (es : List (ℕ × X)) (n : ℕ) (x : X) → value_at es n ≡ Some x
        → value_at (map f es) n ≡ Some (f (n, x)).1
    value-changed [] n x is = absurd cc
    value-changed (e ∷ es) n x is =
        (λ i. option_map (λ (g : ℕ × X). g.1)
        (cond (eqb (same e i) n) (Some (f e)) (find (λ g. eqb g.0 n) (map f es))))
        ∙ go (eqb e.0 n) refl is (value-changed es n x)
      where
        go : (b : Bool) → eqb e.0 n ≡ b
            → option_map (λ (g : ℕ × X). g.1) (cond b (Some e) (find (λ g. eqb g.0 n) es)) ≡ Some x
            → (value_at es n ≡ Some x → value_at (map f es) n ≡ Some (f (n, x)).1)
            → option_map (λ (g : ℕ × X). g.1)
            (cond b (Some (f e)) (find (λ g. eqb g.0 n) (map f es))) ≡ Some (f (n, x)).1
        go true at h later =
            let number = eqb-true e.0 n at in
            let value : e.1 ≡ x = (let s : Some e.1 ≡ Some x = h in cc) in
            (λ i. Some (f (number i, value i)).1)
        go false at h later = later h
