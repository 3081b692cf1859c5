-- Two areas that lie apart from all others, and from each other, share no byte with any.
use Rattle.std.proofs.Common.{◌≡◌, inl, inr, ◌&&◌, ◌++◌, Bool, true, false, List, [], ◌∷◌, refl}
use Rattle.std.proofs.Common.{sym, ◌∙◌, arith}
use Rattle.std.proofs.lemmas.Bool.{cases_Bool, le-ltb}
use Rattle.std.proofs.lemmas.List.Elements.{All-cons, All-head, All-nil, All-tail, All-weaker}
use Rattle.std.proofs.lemmas.List.Folds.{list_any_none}
use Rattle.std.specs.List.{All, list_any}
use Rattle.luks_rules.proofs.ShareLemmas.{overlaps, shared}
use Rattle.luks_rules.specs.Areas.{end_of}
use Rattle.luks_rules.specs.Overlaps.{TwoShare, overlap, shares}
use Rattle.luks_rules.specs.declared.areas.Area.{Area}
use Rattle.luks_slots.specs.Gaps.{IsApart}

not-first : (a b : Bool) → a ≡ false → (a && b) ≡ false
not-first true b is = absurd cc
not-first false b is = refl

not-second : (a b : Bool) → b ≡ false → (a && b) ≡ false
not-second true b is = is
not-second false b is = refl

-- an area shares no byte with a run that is apart from it
apart-shares : (a b : Area) → IsApart a.offset a.size b → shares a b ≡ false
apart-shares a b (inl none) =
    not-second _ _ (not-second _ _ (le-ltb b.offset (end_of b) (omega (arith, none))))
apart-shares a b (inr (inl before)) =
    not-first _ _ (not-first _ _ (le-ltb a.offset (end_of b) before))
apart-shares a b (inr (inr behind)) =
    not-first _ _ (not-second _ _ (le-ltb b.offset (end_of a) behind))

-- nor that one with it
apart-shared : (a b : Area) → IsApart a.offset a.size b → shares b a ≡ false
apart-shared a b (inl none) =
    not-second _ _ (not-first _ _ (le-ltb b.offset (end_of b) (omega (arith, none))))
apart-shared a b (inr (inl before)) =
    not-first _ _ (not-second _ _ (le-ltb a.offset (end_of b) before))
apart-shared a b (inr (inr behind)) =
    not-first _ _ (not-first _ _ (le-ltb b.offset (end_of a) behind))

shares-none : (a : Area) (areas : List Area) → All (IsApart a.offset a.size) areas
    → list_any (shares a) areas ≡ false
shares-none a areas apart =
    list_any_none (shares a) areas
    (All-weaker (IsApart a.offset a.size) (λ b. shares a b ≡ false) (apart-shares a) areas apart)

-- ---- all of a list, and of the one behind it
in-both : {X : Type 0} (P : X → Type 0) (xs ys : List X) → All P (xs ++ ys) → All P xs × All P ys
in-both P [] ys each = (All-nil P, each)
in-both P (x ∷ xs) ys each =
    let rest = in-both P xs ys (All-tail P x (xs ++ ys) each) in
    (All-cons P x xs (All-head P x (xs ++ ys) each) rest.0, rest.1)

-- ---- two areas besides those that there are
none-overlap : (areas : List Area) → (TwoShare areas → ⊥) → overlap areas ≡ false
none-overlap areas apart = elim (cases_Bool (overlap areas)) [
  | inl e ↦ absurd (apart (shared areas e))
  | inr e ↦ e
]

two-overlap : (a b : Area) (areas : List Area) → All (IsApart a.offset a.size) areas
    → All (IsApart b.offset b.size) (areas ++ a ∷ []) → (TwoShare areas → ⊥)
    → overlap (a ∷ b ∷ areas) ≡ false
unfolding overlap
two-overlap a b areas first second apart =
    let parts = in-both (IsApart b.offset b.size) areas (a ∷ []) second in
    rw (
      apart-shared b a (All-head (IsApart b.offset b.size) a [] parts.1),
      shares-none a areas first,
      shares-none b areas parts.0,
      none-overlap areas apart,
    )
    refl

pub two-apart : (a b : Area) (areas : List Area) → All (IsApart a.offset a.size) areas
    → All (IsApart b.offset b.size) (areas ++ a ∷ []) → (TwoShare areas → ⊥)
    → TwoShare (a ∷ b ∷ areas) → ⊥
two-apart a b areas first second apart share =
    let e : false ≡ true =
    sym (two-overlap a b areas first second apart) ∙ overlaps (a ∷ b ∷ areas) share in
    cc
