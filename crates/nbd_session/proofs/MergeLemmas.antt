-- Lists that were merged.
use Rattle.std.proofs.Common.{◌≡◌, ℕ, List, [], ◌∷◌, ap, ◌∙◌, refl, sym, arith}
use Rattle.nbd_session.specs.Merges.{From, AreFrom, IsMerge, items_from, items_of}

-- all items are of the one list
all-from : {X : Type 0} (parts : List (From X)) → AreFrom 1 parts → items_of parts ≡ items_from 0 parts
unfolding items_of items_from AreFrom
all-from [] are = refl
all-from (one ∷ parts) (first, are) =
    let zero : one.list ≡ 0 = omega (arith, first) in
    rw zero (ap (λ x. one.item ∷ x) (all-from parts are))

pub one-merged : {X : Type 0} (lists : ℕ → List X) (merged : List X) → IsMerge 1 lists merged
    → merged ≡ lists 0
one-merged lists merged is = sym is.is ∙ (all-from is.parts is.from_lists ∙ is.each 0 (omega arith))
