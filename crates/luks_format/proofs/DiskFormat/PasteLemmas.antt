-- Two copies and an area, written one after the other.
use Rattle.std.proofs.Common.{◌≡◌, ℕ, ◌+◌, ◌*◌, ◌≤◌, List, ◌++◌, length, take, drop, sym, ◌∙◌, ap}
use Rattle.std.proofs.Common.{arith}
use Rattle.std.proofs.lemmas.List.{append_assoc, drop-drop, drop_at, length-take-le, take_at}
use Rattle.base_terms.specs.Blocks.{pasted}

-- over the front of a text
at-front : (old bytes : List ℕ) → pasted old 0 bytes ≡ bytes ++ drop (length bytes) old
unfolding pasted
at-front old bytes = ap (λ n. bytes ++ drop n old) (omega arith)

-- behind a front that has so many bytes
at-place : (front rest bytes : List ℕ) (at : ℕ) → length front ≡ at
    → pasted (front ++ rest) at bytes ≡ front ++ (bytes ++ drop (length bytes) rest)
unfolding pasted
at-place front rest bytes at long =
    ap (λ xs. xs ++ bytes ++ drop (at + length bytes) (front ++ rest)) (take_at front rest at long)
    ∙ ap (λ xs. front ++ bytes ++ xs)
    (sym (drop-drop (length bytes) at (front ++ rest))
    ∙ ap (drop (length bytes)) (drop_at front rest at long))
    ∙ append_assoc front bytes (drop (length bytes) rest)

-- what stands behind a place, once it was written there
behind-front : (old bytes : List ℕ) (at : ℕ) → at ≤ length old
    → drop at (pasted old at bytes) ≡ bytes ++ drop (at + length bytes) old
unfolding pasted
behind-front old bytes at within =
    ap (drop at) (append_assoc (take at old) bytes (drop (at + length bytes) old))
    ∙ drop_at (take at old) (bytes ++ drop (at + length bytes) old) at
    (length-take-le at old within)

pub all-pasted : (old one two area : List ℕ) (size : ℕ) → length one ≡ size → length two ≡ size
    → 2 * size ≤ length old
    → pasted (pasted (pasted old (2 * size) area) 0 one) size two
    ≡ one ++ (two ++ (area ++ drop (2 * size + length area) old))
all-pasted old one two area size first second within =
    let xs = pasted old (2 * size) area in
    let both : length one + length two ≡ 2 * size = omega (arith, first, second) in
    ap (λ ys. pasted ys size two) (at-front xs one)
    ∙ at-place one (drop (length one) xs) two size first
    ∙ ap (λ ys. one ++ (two ++ ys))
    (drop-drop (length two) (length one) xs ∙ ap (λ n. drop n xs) both
    ∙ behind-front old area (2 * size) within)
