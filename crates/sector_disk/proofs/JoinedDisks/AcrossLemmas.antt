-- Lemmas on reads, failed writes and blocks of a text that lies across two texts, one behind the
-- other.
use Rattle.std.proofs.Common.{◌≡◌, ℕ, zero, suc, ◌+◌, ◌-◌, ◌*◌, ◌/◌, ◌<◌, ◌≤◌, ◌⊎◌, List, [], ◌∷◌}
use Rattle.std.proofs.Common.{◌++◌, length, take, drop, min, refl, sym, ◌∙◌, ap, ap₂, inl, inr}
use Rattle.std.proofs.Common.{arith, append_assoc, length-append, length-drop}
use Rattle.std.proofs.lemmas.List.{take_all, drop_all, drop-drop, drop-take, take-take, length-take}
use Rattle.std.proofs.lemmas.List.{length-take-le, take_at, drop_at, nil_from_length}
use Rattle.std.proofs.Math.Seq.{take-nil, drop-nil}
use Rattle.std.proofs.Math.Nat.{mul-div_cancel, mul-le-mul_right, mul-sub, mul_comm}
use Rattle.base_terms.specs.Blocks.{pasted, blocks_of}
use Rattle.base_terms.proofs.BlockLemmas.{length-blocks_of}
use Rattle.sector_disk.specs.Values.{SameOutside}

take_append : (n : ℕ) (xs ys : List ℕ) → take n (xs ++ ys) ≡ take n xs ++ take (n - length xs) ys
take_append n [] ys = let here : n - 0 ≡ n = omega arith in rw (here, take-nil {A = ℕ} n) refl
take_append zero (x ∷ xs) ys = let none : 0 - suc (length xs) ≡ 0 = omega arith in rw none refl
take_append (suc n) (x ∷ xs) ys =
    let less : suc n - suc (length xs) ≡ n - length xs = omega arith in
    rw less (ap (λ rest. x ∷ rest) (take_append n xs ys))

drop_append : (n : ℕ) (xs ys : List ℕ) → drop n (xs ++ ys) ≡ drop n xs ++ drop (n - length xs) ys
drop_append n [] ys = let here : n - 0 ≡ n = omega arith in rw (here, drop-nil {A = ℕ} n) refl
drop_append zero (x ∷ xs) ys = let none : 0 - suc (length xs) ≡ 0 = omega arith in rw none refl
drop_append (suc n) (x ∷ xs) ys =
    let less : suc n - suc (length xs) ≡ n - length xs = omega arith in
    rw less (drop_append n xs ys)

-- as many as a front has
take_as_long : (n : ℕ) (xs : List ℕ) → take (length (take n xs)) xs ≡ take n xs
take_as_long zero xs = refl
take_as_long (suc n) [] = refl
take_as_long (suc n) (x ∷ xs) = ap (λ rest. x ∷ rest) (take_as_long n xs)

-- a part of a front that reaches so far
pub part_of_front : (used at n : ℕ) (xs : List ℕ) → at + n ≤ used
    → take n (drop at (take used xs)) ≡ take n (drop at xs)
part_of_front used at n xs within =
    let more : used ≡ at + (used - at) = omega (arith, within) in
    ap (λ m. take n (drop at (take m xs))) more
    ∙ ap (λ rest. take n rest) (drop-take at (used - at) xs)
    ∙ take-take n (used - at) (drop at xs) (omega (arith, within))

-- what was read of both is what was read across them
pub read_both : (used at : ℕ) (xs ys front back : List ℕ)
    → (front ≡ take (length front) (drop at xs))
    → (back ≡ take (length back) (drop (at - length xs) ys))
    → at + length (front ++ back) ≤ length xs + used
    → length front ≡ min (length xs - at) (length (front ++ back))
    → front ++ back ≡ take (length (front ++ back)) (drop at (xs ++ take used ys))
read_both used at xs ys front back of_front of_back within cut =
    let long : length (front ++ back) ≡ length front + length back = length-append front back in
    let rest : length (front ++ back) - length (drop at xs) ≡ length back =
    rw (length-drop at xs) (omega (arith, long, cut)) in
    let head : take (length (front ++ back)) (drop at xs) ≡ front =
    sym (take_as_long (length (front ++ back)) (drop at xs))
    ∙ ap (λ n. take n (drop at xs)) (length-take (length (front ++ back)) (drop at xs)
    ∙ ap (λ n. min (length (front ++ back)) n) (length-drop at xs)
    ∙ (let e : min (length (front ++ back)) (length xs - at) ≡ length front =
    omega (arith, cut) in e))
    ∙ sym of_front in
    sym (ap (λ all. take (length (front ++ back)) all) (drop_append at xs (take used ys))
    ∙ take_append (length (front ++ back)) (drop at xs) (drop (at - length xs) (take used ys))
    ∙ ap₂ (λ a b. a ++ b) head (ap (λ n. take n (drop (at - length xs) (take used ys))) rest
    ∙ part_of_front used (at - length xs) (length back) ys
    (let e : at - length xs + length back ≤ used =
    omega (arith, within, long, cut) in e) ∙ sym of_back))

-- a write leaves what lies outside of it
pub same_pasted : (at : ℕ) (old text : List ℕ) → at + length text ≤ length old
    → SameOutside at (length text) old (pasted old at text)
unfolding pasted
same_pasted at old text within =
    let fits : at ≤ length old = omega (arith, within) in
    let front : length (take at old) ≡ at = length-take-le at old fits in
    record {
      before =
          ap (λ all. take at all) (append_assoc (take at old) text (drop (at + length text) old))
          ∙ take_at (take at old) (text ++ drop (at + length text) old) at front;
      behind = drop_at (take at old ++ text) (drop (at + length text) old) (at + length text)
          (length-append (take at old) text ∙ ap (λ n. n + length text) front);
    }

-- what both leave outside of their parts is left outside of the whole
pub same_both : (used at len : ℕ) (xs ys nx ny : List ℕ) → length nx ≡ length xs
    → length ny ≡ length ys
    → SameOutside at (min (length xs - at) len) xs nx
    → SameOutside (at - length xs) (len - (length xs - at)) ys ny
    → at + len ≤ length xs + used
    → SameOutside at len (xs ++ take used ys) (nx ++ take used ny)
same_both used at len xs ys nx ny long_x long_y of_xs of_ys within = record {
  before = take_append at nx (take used ny)
      ∙ ap₂ (λ a b. a ++ b) of_xs.before
      (ap (λ n. take (at - n) (take used ny)) long_x
      ∙ take-take (at - length xs) used ny (omega (arith, within)) ∙ of_ys.before
      ∙ sym (take-take (at - length xs) used ys (omega (arith, within))))
      ∙ sym (take_append at xs (take used ys));
  behind =
      let more : at + len ≡ at + min (length xs - at) len + (len - min (length xs - at) len) =
      omega arith in
      let there : at + len - length xs ≡ at - length xs + (len - (length xs - at)) = omega arith in
      let far : at - length xs + (len - (length xs - at)) ≤ used = omega (arith, within) in
      let end : used
      ≡ at - length xs + (len - (length xs - at))
      + (used - (at - length xs + (len - (length xs - at)))) = omega (arith, far) in
      let behind_x : drop (at + len) nx ≡ drop (at + len) xs =
      ap (λ n. drop n nx) more ∙ sym (drop-drop _ _ nx)
      ∙ ap (λ rest. drop (len - min (length xs - at) len) rest) of_xs.behind
      ∙ drop-drop _ _ xs ∙ ap (λ n. drop n xs) (sym more) in
      let cut : (zs : List ℕ) → drop (at - length xs + (len - (length xs - at))) (take used zs)
      ≡ take (used - (at - length xs + (len - (length xs - at))))
      (drop (at - length xs + (len - (length xs - at))) zs) =
      λ zs. ap (λ n. drop (at - length xs + (len - (length xs - at))) (take n zs)) end
      ∙ drop-take _ _ zs in
      drop_append (at + len) nx (take used ny)
      ∙ ap₂ (λ a b. a ++ b) behind_x (ap (λ n. drop (at + len - n) (take used ny)) long_x
      ∙ ap (λ n. drop n (take used ny)) there ∙ cut ny
      ∙ ap (λ rest. take (used - (at - length xs + (len - (length xs - at)))) rest) of_ys.behind
      ∙ sym (cut ys) ∙ ap (λ n. drop n (take used ys)) (sym there))
      ∙ sym (drop_append (at + len) xs (take used ys));
}

pub le_or : (k n : ℕ) → (k ≤ n) ⊎ (n ≤ k)
le_or zero n = inl (omega arith)
le_or (suc k) zero = inr (omega arith)
le_or (suc k) (suc n) =
    elim (le_or k n)
    [ inl below ↦ inl (omega (arith, below)) | inr above ↦ inr (omega (arith, above)) ]

-- the blocks of a front, and of what is behind it
blocks_front : (size k n : ℕ) (text : List ℕ) → k ≤ n
    → blocks_of size k (take (k * size) text) ≡ take k (blocks_of size n text)
unfolding blocks_of
blocks_front size zero n text below = refl
blocks_front size (suc k) zero text below = absurd (omega (arith, below))
blocks_front size (suc k) (suc n) text below =
    let place : suc k * size ≡ size + k * size = grind arith in
    rw place (ap₂ (λ x xs. x ∷ xs) (take-take size (size + k * size) text (omega arith))
    (ap (λ rest. blocks_of size k rest) (drop-take size (k * size) text)
    ∙ blocks_front size k n (drop size text) (omega (arith, below))))

blocks_behind : (size k m : ℕ) (text : List ℕ)
    → blocks_of size m (drop (k * size) text) ≡ drop k (blocks_of size (k + m) text)
unfolding blocks_of
blocks_behind size zero m text =
    let place : 0 * size ≡ 0 = grind arith in
    let same : 0 + m ≡ m = omega arith in
    rw (place, same) refl
blocks_behind size (suc k) m text =
    let place : suc k * size ≡ size + k * size = grind arith in
    let more : suc k + m ≡ suc (k + m) = omega arith in
    rw (place, more) (ap (λ rest. blocks_of size m rest) (sym (drop-drop (k * size) size text))
    ∙ blocks_behind size k m (drop size text))

pub none_of : (size : ℕ) → 0 < size → blocks_of size (0 / size) [] ≡ []
none_of size some =
    nil_from_length (blocks_of size (0 / size) []) (length-blocks_of size (0 / size) []
    ∙ (let e : 0 / size ≡ 0 = grind arith in e))

-- values that lie in front of the seam, and those behind it
pub values_front : (size k n : ℕ) (text : List ℕ) → 0 < size → length text ≡ n * size
    → blocks_of size (length (take (k * size) text) / size) (take (k * size) text)
    ≡ take k (blocks_of size (length text / size) text)
values_front size k n text some is = by_order (le_or k n)
  where
    whole : length text / size ≡ n
    whole = ap (λ m. m / size) is ∙ mul-div_cancel n some

    by_order : (k ≤ n) ⊎ (n ≤ k)
        → blocks_of size (length (take (k * size) text) / size) (take (k * size) text)
        ≡ take k (blocks_of size (length text / size) text)
    by_order (inl below) =
        let fits : k * size ≤ n * size = mul-le-mul_right size below in
        let long : length (take (k * size) text) / size ≡ k =
        ap (λ m. m / size) (length-take-le (k * size) text (omega (arith, fits, is)))
        ∙ mul-div_cancel k some in
        ap (λ m. blocks_of size m (take (k * size) text)) long ∙ blocks_front size k n text below
        ∙ ap (λ m. take k (blocks_of size m text)) (sym whole)
    by_order (inr above) =
        let fits : n * size ≤ k * size = mul-le-mul_right size above in
        ap (λ all. blocks_of size (length all / size) all)
        (take_all (k * size) text (omega (arith, fits, is)))
        ∙ sym (take_all k (blocks_of size (length text / size) text)
        (rw (length-blocks_of size (length text / size) text, whole) above))

pub values_behind : (size k n : ℕ) (text : List ℕ) → 0 < size → length text ≡ n * size
    → blocks_of size (length (drop (k * size) text) / size) (drop (k * size) text)
    ≡ drop k (blocks_of size (length text / size) text)
values_behind size k n text some is = by_order (le_or k n)
  where
    whole : length text / size ≡ n
    whole = ap (λ m. m / size) is ∙ mul-div_cancel n some

    by_order : (k ≤ n) ⊎ (n ≤ k)
        → blocks_of size (length (drop (k * size) text) / size) (drop (k * size) text)
        ≡ drop k (blocks_of size (length text / size) text)
    by_order (inl below) =
        let split : n ≡ k + (n - k) = omega (arith, below) in
        let left : length (drop (k * size) text) ≡ (n - k) * size =
        length-drop (k * size) text ∙ ap (λ m. m - k * size) is
        ∙ sym (mul_comm (n - k) size ∙ mul-sub size n k
        ∙ ap₂ (λ a b. a - b) (mul_comm size n) (mul_comm size k)) in
        ap (λ m. blocks_of size m (drop (k * size) text))
        (ap (λ m. m / size) left ∙ mul-div_cancel (n - k) some)
        ∙ blocks_behind size k (n - k) text
        ∙ ap (λ m. drop k (blocks_of size m text)) (sym split ∙ sym whole)
    by_order (inr above) =
        let fits : n * size ≤ k * size = mul-le-mul_right size above in
        let none : drop (k * size) text ≡ [] = drop_all (k * size) text (omega (arith, fits, is)) in
        ap (λ all. blocks_of size (length all / size) all) none
        ∙ none_of size some
        ∙ sym (drop_all k (blocks_of size (length text / size) text)
        (rw (length-blocks_of size (length text / size) text, whole) above))
