-- The chain looks at no stripe after those that it has taken in.
use Rattle.std.proofs.Common.{◌≡◌, ℕ, zero, suc, ◌*◌, ◌<◌, ◌≤◌, List, length, drop, bit_xor, refl}
use Rattle.std.proofs.Common.{sym, ◌∙◌, arith}
use Rattle.std.proofs.lemmas.List.{length-take, length-drop, length-replicate}
use Rattle.std.proofs.lemmas.Simd.{length-zip2}
use Rattle.pbkdf2_hmac.specs.declared.Hash.{Hash}
use Rattle.pbkdf2_hmac.specs.Xor.{xor_bytes}
use Rattle.af_split.specs.Af.{stripe_of, chain}
use Rattle.af_split.proofs.Parts.{length-diffused}

pub length-stripe_of : (size : ℕ) (stripes : List ℕ) (k : ℕ) → (suc k) * size ≤ length stripes
    → length (stripe_of size stripes k) ≡ size
length-stripe_of size stripes k within =
    omega (arith, length-take size (drop (k * size) stripes), length-drop (k * size) stripes)

pub length-chain : (h : Hash) (size : ℕ) (stripes : List ℕ) (k : ℕ) → k * size ≤ length stripes
    → length (chain h size stripes k) ≡ size
unfolding chain
length-chain h size stripes zero within = length-replicate size 0
length-chain h size stripes (suc k) within =
    let before = length-chain h size stripes k (omega arith) in
    let stripe = length-stripe_of size stripes k within in
    length-diffused h (xor_bytes (chain h size stripes k) (stripe_of size stripes k))
    ∙ length-zip2 bit_xor (chain h size stripes k) (stripe_of size stripes k) (before ∙ sym stripe)
    ∙ before

-- two strings with the same first stripes
pub chain-same : (h : Hash) (size : ℕ) (xs ys : List ℕ) (n : ℕ)
    → ((k : ℕ) → k < n → stripe_of size xs k ≡ stripe_of size ys k)
    → chain h size xs n ≡ chain h size ys n
unfolding chain
chain-same h size xs ys zero same = refl
chain-same h size xs ys (suc n) same =
    let before = chain-same h size xs ys n (λ k lt. same k (omega arith)) in
    rw (before, same n (omega arith)) refl
