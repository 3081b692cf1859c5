use Rattle.std.proofs.Common.{◌≡◌, ◌∙◌, ℕ, ◌+◌, ◌++◌, List, [], ◌∷◌, length, ap, arith}
use Rattle.std.proofs.lemmas.List.FromFn.{length-enumerate_from}
use Rattle.std.specs.List.{enumerate_from}
use Rattle.reenc_meta.proofs.layout.number_from_0.Goals as goal

one_more : {X : Type 0} (n k : ℕ) (xs : List X) (x : X) → k ≡ n + length xs
    → enumerate_from n xs ++ (k, x) ∷ [] ≡ enumerate_from n (xs ++ x ∷ [])
one_more n k [] x is = let same : k ≡ n = omega (arith, is) in ap (λ m. (m, x) ∷ []) same
one_more n k (y ∷ ys) x is =
    ap (λ es. (n, y) ∷ es) (one_more (n + 1) k ys x (omega (arith, is)))

pub loop-thing-preserved : goal.loop-thing-preserved
loop-thing-preserved g c =
    let before = c.loop-thing.invariant in
    let many = ap length before in
    let long = length-enumerate_from 0 c.loop-thing.yielded in
    let own = c.loop-thing.numbered.ok.0 in
    c.in_ok-push.ensures.items
    ∙ ap (λ es. es ++ (c.len-number.result, c.in-Some.thing) ∷ []) before
    ∙ one_more 0 c.len-number.result c.loop-thing.yielded c.in-Some.thing
    (omega (arith, c.len-number.ensures, own, many, long))
