-- The test of overlaps, in plain words.
use Rattle.std.proofs.Common.{◌≡◌, inl, inr, ℕ, zero, suc, ◌<◌, ◌&&◌, nat_lt, List, [], ◌∷◌, length}
use Rattle.std.proofs.Common.{get_or, true, max, arith}
use Rattle.std.proofs.lemmas.Bool.{ltb-true, lt-ltb, and_parts, and_from, or_cases, or_left}
use Rattle.std.proofs.lemmas.Bool.{or_right}
use Rattle.std.specs.List.{list_any}
use Rattle.luks_rules.specs.Areas.{end_of}
use Rattle.luks_rules.specs.Overlaps.{shares, overlap, HasByte, TwoShare}
use Rattle.luks_rules.specs.declared.areas.Area.{Area}

abbrev Share : Area → Area → Type 0
Share a b = (at : ℕ) × HasByte a at × HasByte b at

shares-byte : (a b : Area) → shares a b ≡ true → Share a b
shares-byte a b h =
    let t = and_parts (nat_lt a.offset (end_of b) && nat_lt b.offset (end_of a))
    (nat_lt a.offset (end_of a) && nat_lt b.offset (end_of b)) h in
    let u = and_parts (nat_lt a.offset (end_of b)) (nat_lt b.offset (end_of a)) t.0 in
    let v = and_parts (nat_lt a.offset (end_of a)) (nat_lt b.offset (end_of b)) t.1 in
    let p : a.offset < end_of b = ltb-true _ _ u.0 in
    let q : b.offset < end_of a = ltb-true _ _ u.1 in
    let r : a.offset < end_of a = ltb-true _ _ v.0 in
    let s : b.offset < end_of b = ltb-true _ _ v.1 in
    (max a.offset b.offset, (omega arith, omega arith), (omega arith, omega arith))

byte-shares : (a b : Area) → Share a b → shares a b ≡ true
byte-shares a b h =
    let k : a.offset < end_of b = omega (arith, h.1.0, h.2.1) in
    let l : b.offset < end_of a = omega (arith, h.1.1, h.2.0) in
    let m : a.offset < end_of a = omega (arith, h.1.0, h.1.1) in
    let n : b.offset < end_of b = omega (arith, h.2.0, h.2.1) in
    and_from _ _ (and_from _ _ (lt-ltb _ _ k) (lt-ltb _ _ l))
    (and_from _ _ (lt-ltb _ _ m) (lt-ltb _ _ n))

found : (a : Area) (areas : List Area) → list_any (shares a) areas ≡ true
    → (j : ℕ) × (d : Area) × (j < length areas) × Share a (get_or areas j d)
found a [] h = cc
found a (b ∷ areas) h = elim (or_cases (shares a b) (list_any (shares a) areas) h) [
  | inl p ↦ (0, b, omega arith, shares-byte a b p)
  | inr p ↦ let f = found a areas p in (suc f.0, f.1, omega (arith, f.2), f.3)
]

there : (a : Area) (areas : List Area) (j : ℕ) (d : Area) → j < length areas
    → Share a (get_or areas j d) → list_any (shares a) areas ≡ true
there a [] j d h s = absurd (omega arith)
there a (b ∷ areas) zero d h s = or_left _ _ (byte-shares a b s)
there a (b ∷ areas) (suc j) d h s = or_right _ _ (there a areas j d (omega arith) s)

pub shared : (areas : List Area) → overlap areas ≡ true → TwoShare areas
unfolding overlap TwoShare
shared [] h = cc
shared (a ∷ areas) h = elim (or_cases (list_any (shares a) areas) (overlap areas) h) [
  | inl p ↦ let f = found a areas p in (0, suc f.0, f.1, omega arith, omega (arith, f.2), f.3)
  | inr p ↦ let t =
      shared areas p in (suc t.0, suc t.1, t.2, omega (arith, t.3), omega (arith, t.4), t.5)
]

pub overlaps : (areas : List Area) → TwoShare areas → overlap areas ≡ true
unfolding overlap TwoShare
overlaps [] t = absurd (omega (arith, t.4))
overlaps (a ∷ areas) (zero, zero, d, p, q, s) = absurd (omega arith)
overlaps (a ∷ areas) (zero, suc j, d, p, q, s) = or_left _ _ (there a areas j d (omega arith) s)
overlaps (a ∷ areas) (suc i, zero, d, p, q, s) = absurd (omega arith)
overlaps (a ∷ areas) (suc i, suc j, d, p, q, s) =
    or_right _ _ (overlaps areas (i, j, d, omega arith, omega arith, s))
