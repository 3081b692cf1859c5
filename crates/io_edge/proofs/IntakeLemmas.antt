use Rattle.std.proofs.Common.{◌≡◌, ℕ, ◌+◌, ◌-◌, List, ◌++◌, length, take, drop, ap, ◌∙◌, sym, arith}
use Rattle.std.proofs.Common.{Some}
use Rattle.std.proofs.Math.Seq.{take-add}
use Rattle.std.proofs.lemmas.List.{take_at}

-- what was given grows by the bytes that were copied to the front of a buffer
pub given_more : (old given bytes slice copied rest : List ℕ) (at n : ℕ) → take at bytes ≡ old →
    Some old ≡ Some given → slice ≡ bytes → copied ≡ take ((at + n) - at) (drop at slice) →
    length copied ≡ n →
    Some (take (at + n) bytes) ≡ Some (given ++ take n (copied ++ rest))
given_more old given bytes slice copied rest at n was is same copies len =
    let front : old ≡ given = cc in
    let n_is : (at + n) - at ≡ n = omega arith in
    let copied_is : copied ≡ take n (drop at bytes) =
    copies ∙ ap (λ k. take k (drop at slice)) n_is ∙ ap (λ b. take n (drop at b)) same in
    ap Some (take-add at n bytes ∙ ap (λ x. x ++ take n (drop at bytes)) (was ∙ front)
    ∙ ap (λ x. given ++ x) (sym copied_is ∙ sym (take_at copied rest n len)))
