-- The shares of sessions: each block is in just one of them.
use Rattle.std.proofs.Common.{◌≡◌, ◌≢◌, inl, inr, ℕ, zero, suc, ◌+◌, ◌*◌, ◌/◌, ◌<◌, ◌≤◌, arith}
use Rattle.std.proofs.Common.{◌∙◌, ap, subst, le_trans, mul-le-mul_right, zero-mul}
use Rattle.std.proofs.Common.{le-div_iff_mul-le, div-mul-le_self}
use Rattle.std.proofs.Math.Nat.{mul-div_right, zero-div}
use Rattle.std.proofs.lemmas.Bool.{cases_lt, cases_order}
use Rattle.demo_clients.specs.Contents.{share_of}

module _ (m k : ℕ) (some : 0 < k) where
  -- the shares of later sessions begin later
  pub share-order : (i j : ℕ) → i ≤ j → share_of i m k ≤ share_of j m k
  share-order i j order =
      (le-div_iff_mul-le {k = k} {x = share_of i m k} {y = j * m} some).1
      (le_trans (div-mul-le_self (i * m) k) (mul-le-mul_right m order))

  pub share-first : share_of 0 m k ≡ 0
  share-first = ap (λ n. n / k) (zero-mul m) ∙ zero-div k

  -- the sessions have all blocks
  pub share-last : share_of k m k ≡ m
  share-last = mul-div_right m some

  -- a block before the share of a session is in the share of an earlier one
  pub owner : (b n : ℕ) → b < share_of n m k
      → (i : ℕ) × (i < n) × (share_of i m k ≤ b) × (b < share_of (i + 1) m k)
  owner b zero below = absurd (omega (arith, below, share-first))
  owner b (suc n) below = elim (cases_lt b (share_of n m k)) [
    | inl earlier ↦ let found = owner b n earlier in (
      found.0,
      omega (arith, found.1),
      found.2,
      found.3,
    )
    | inr here ↦ (
      n,
      omega arith,
      here,
      subst (λ (j : ℕ). b < share_of j m k) (let e : suc n ≡ n + 1 = omega arith in e) below,
    )
  ]

  -- no block is in two shares
  pub shares-apart : (i j b : ℕ) → i ≢ j → share_of i m k ≤ b → b < share_of (i + 1) m k
      → share_of j m k ≤ b → b < share_of (j + 1) m k → ⊥
  shares-apart i j b differ least below first end = elim (cases_order i j) [
    | inl same ↦ differ same
    | inr other ↦ elim other [
      | inl less ↦ omega (arith, share-order (i + 1) j (omega (arith, less)), below, first)
      | inr more ↦ omega (arith, share-order (j + 1) i (omega (arith, more)), end, least)
    ]
  ]
