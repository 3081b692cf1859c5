-- Merging a split gives the key.
use Rattle.std.proofs.Common.{◌≡◌, ℕ, zero, suc, ◌+◌, ◌-◌, ◌*◌, ◌≤◌, List, [], ◌∷◌, ◌++◌, length}
use Rattle.std.proofs.Common.{take, drop, bit_xor, refl, sym, ◌∙◌, arith}
use Rattle.std.specs.Int.Bits.{xor_assoc, xor_self, xor_zero_l}
use Rattle.std.proofs.Math.Nat.{mul-le-mul_right}
use Rattle.std.proofs.lemmas.List.{length-take, length-drop, take_all, drop_all, take-take}
use Rattle.std.proofs.lemmas.List.{drop-take, take-append-le, drop-append-le, append-nil}
use borrow.Rule.Slice.PartMut.{put_mid}
use Rattle.std.proofs.lemmas.Simd.{length-zip2}
use Rattle.pbkdf2_hmac.specs.declared.Hash.{Hash}
use Rattle.af_split.specs.Af.{stripe_of, chain, split_of, merged}
use Rattle.af_split.proofs.Chain.{length-chain, chain-same}
use Rattle.pbkdf2_hmac.specs.Xor.{xor_bytes}

xor_twice : (x y : ℕ) → bit_xor x (bit_xor x y) ≡ y
xor_twice x y = sym (xor_assoc x x y) ∙ rw (xor_self x) (xor_zero_l y)

-- exclusive or with the same string twice
pub xor_bytes-twice : (xs ys : List ℕ) → length xs ≡ length ys → xor_bytes xs (xor_bytes xs ys) ≡ ys
xor_bytes-twice [] [] same = refl
xor_bytes-twice [] (y ∷ ys) same = absurd (omega arith)
xor_bytes-twice (x ∷ xs) [] same = absurd (omega arith)
xor_bytes-twice (x ∷ xs) (y ∷ ys) same = rw (xor_twice x y, xor_bytes-twice xs ys (omega arith))

-- a stripe before the last
stripe_of-drawn : (size k m r : ℕ) (old last : List ℕ) → m ≡ k * size + r → size ≤ r
    → m ≤ length old
    → stripe_of size (take m old ++ last) k ≡ stripe_of size old k
stripe_of-drawn size k m r old last is room within =
    let front = length-take m old in
    let rest : drop (k * size) (take m old) ≡ take r (drop (k * size) old) =
    rw is (drop-take (k * size) r old) in
    let long = length-drop (k * size) old in
    rw (
      drop-append-le (k * size) (take m old) last (omega (arith, front)),
      rest,
      take-append-le size (take r (drop (k * size) old)) last
          (omega (arith, long, length-take r (drop (k * size) old))),
    )
    (take-take size r (drop (k * size) old) room)

-- the last stripe
stripe_of-last : (size n m : ℕ) (old last : List ℕ) → m ≡ n * size → m ≤ length old
    → length last ≡ size
    → stripe_of size (take m old ++ last) n ≡ last
stripe_of-last size n m old last is within same =
    let front = length-take m old in
    rw (
      ← is,
      drop-append-le m (take m old) last (omega (arith, front)),
      drop_all m (take m old) (omega (arith, front)),
    )
    (take_all size last (omega arith))

pub times-pred : (n size : ℕ) → 1 ≤ n → n * size ≡ (n - 1) * size + size
times-pred zero size some = absurd (omega arith)
times-pred (suc n) size some = let less : suc n - 1 ≡ n = omega arith in rw less (omega arith)

pub merged-split_of : (h : Hash) (key drawn : List ℕ) (n : ℕ) → 1 ≤ n
    → length drawn ≡ n * length key
    → merged h (length key) n (split_of h key n drawn) ≡ key
unfolding merged split_of
merged-split_of h key drawn n some room =
    let size : ℕ = length key in
    let all = times-pred n size some in
    let chained = length-chain h size drawn (n - 1) (omega arith) in
    let last : List ℕ = xor_bytes (chain h size drawn (n - 1)) key in
    let same = chain-same h size (take ((n - 1) * size) drawn ++ last) drawn (n - 1)
    (λ k lt. let le : (k + 1) * size ≤ (n - 1) * size = mul-le-mul_right size (omega arith) in
    stripe_of-drawn size k ((n - 1) * size) ((n - 1) * size - k * size) drawn last
    (omega (arith, le)) (omega (arith, le)) (omega arith)) in
    let end = stripe_of-last size (n - 1) ((n - 1) * size) drawn last refl (omega arith)
    (length-zip2 bit_xor (chain h size drawn (n - 1)) key chained ∙ chained) in
    rw (same, end) (xor_bytes-twice (chain h size drawn (n - 1)) key chained)

-- what is written at the end
pub put_mid-end : (old ys : List ℕ) (start k : ℕ) → length old ≤ start + k
    → put_mid start k old ys ≡ take start old ++ ys
put_mid-end old ys start k within =
    rw (drop_all k (drop start old) (omega (arith, length-drop start old)), append-nil ys) refl
