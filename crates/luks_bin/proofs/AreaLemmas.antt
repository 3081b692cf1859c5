-- The text in front of the first NUL, found byte by byte.
use Rattle.std.proofs.Common.{◌≡◌, ◌≢◌, ℕ, suc, ◌+◌, ◌<◌, ◌==◌, List, [], ◌∷◌, ◌++◌, length, get_or}
use Rattle.std.proofs.Common.{take, drop, not, refl, sym, ap, ◌∙◌, drop-cons, add-one, append_assoc}
use Rattle.std.proofs.lemmas.Bool.{eq-eqb, false_from_ne_true, eqb-true}
use Rattle.std.proofs.lemmas.List.{take_more}
use Rattle.std.proofs.lemmas.List.Sums.{take_while-cons}
use Rattle.luks_bin.specs.Copies.{up_to_nul}

up_to_nul-stops : (x : ℕ) (xs : List ℕ) → x ≡ 0 → up_to_nul (x ∷ xs) ≡ []
unfolding up_to_nul
up_to_nul-stops x xs e = take_while-cons (λ byte. not (byte == 0)) x xs ∙ rw (eq-eqb x 0 e) refl

up_to_nul-goes : (x : ℕ) (xs : List ℕ) → x ≢ 0 → up_to_nul (x ∷ xs) ≡ x ∷ up_to_nul xs
unfolding up_to_nul
up_to_nul-goes x xs ne =
    take_while-cons (λ byte. not (byte == 0)) x xs
    ∙ rw (false_from_ne_true (x == 0) (λ h. ne (eqb-true x 0 h))) refl

-- the first NUL is here
pub up_to_nul-here : (xs : List ℕ) (i : ℕ) → i < length xs → get_or xs i 0 ≡ 0
    → up_to_nul (drop i xs) ≡ []
up_to_nul-here xs i h e = ap up_to_nul (drop-cons xs i 0 h) ∙ up_to_nul-stops _ _ e

-- it is further on
pub up_to_nul-later : (xs : List ℕ) (i : ℕ) → i < length xs → get_or xs i 0 ≢ 0
    → take i xs ++ up_to_nul (drop i xs) ≡ take (i + 1) xs ++ up_to_nul (drop (i + 1) xs)
up_to_nul-later xs i h ne =
    ap (λ r. take i xs ++ up_to_nul r) (drop-cons xs i 0 h)
    ∙ ap (λ r. take i xs ++ r) (up_to_nul-goes (get_or xs i 0) (drop (suc i) xs) ne)
    ∙ sym (append_assoc (take i xs) (get_or xs i 0 ∷ []) (up_to_nul (drop (suc i) xs)))
    ∙ ap (λ r. r ++ up_to_nul (drop (suc i) xs)) (sym (take_more xs i 0 h))
    ∙ ap (λ j. take (i + 1) xs ++ up_to_nul (drop j xs)) (sym (add-one i))
