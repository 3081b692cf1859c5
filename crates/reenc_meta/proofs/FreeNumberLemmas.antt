-- The loop that seeks the lowest number that is free.
use Rattle.std.proofs.Common.{◌≡◌, ◌∙◌, ℕ, ◌+◌, ◌<◌, ◌≤◌, cond, List, ◌∷◌, length, drop, get_or}
use Rattle.std.proofs.Common.{drop-cons, add-one, sym, ap}
use Rattle.std.proofs.lemmas.Bool.{eq-eqb, ne_eqb}
use Rattle.std.proofs.lemmas.List.{drop_all}
use Rattle.reenc_meta.specs.Starts.{lowest_from}

module _ {X : Type 0} (es : List (ℕ × X)) (i n all : ℕ)
    (before : lowest_from n (drop i es) ≡ all) where
  step : (e : ℕ × X) → i < length es → e ≡ get_or es i e → drop i es ≡ e ∷ drop (i + 1) es
  step e below is =
      drop-cons es i e below ∙ (λ j. sym is j ∷ drop (sym (add-one i) j) es)

  -- the next entry has another number
  pub free-found : (e : ℕ × X) → i < length es → e ≡ get_or es i e → (e.0 ≡ n → ⊥) → n ≡ all
  unfolding lowest_from
  free-found e below is other =
      sym (ap (λ b. cond b (lowest_from (n + 1) (drop (i + 1) es)) n) (ne_eqb e.0 n other))
      ∙ sym (ap (lowest_from n) (step e below is)) ∙ before

  -- it has this one
  pub free-next : (e : ℕ × X) → i < length es → e ≡ get_or es i e → e.0 ≡ n
      → lowest_from (n + 1) (drop (i + 1) es) ≡ all
  unfolding lowest_from
  free-next e below is same =
      sym (ap (λ b. cond b (lowest_from (n + 1) (drop (i + 1) es)) n) (eq-eqb e.0 n same))
      ∙ sym (ap (lowest_from n) (step e below is)) ∙ before

  -- there is none
  pub free-last : length es ≤ i → n ≡ all
  unfolding lowest_from
  free-last over = sym (ap (lowest_from n) (drop_all i es over)) ∙ before
