-- The shares of links, and what all links have.
use Rattle.std.proofs.Common.{◌≡◌, ◌==◌, ◌++◌, [], ◌∷◌, length, ◌+◌, ◌*◌, ◌-◌, ◌/◌, ◌<◌, ◌≤◌, ℕ}
use Rattle.std.proofs.Common.{Bool, true, false, List, slice_index_or, nat_lt, if◌then◌else◌, refl}
use Rattle.std.proofs.Common.{arith, Result, Ok, Err, IfOk}
use Rattle.std.proofs.Math.Nat.{mul-div-le, mul-le-mul_left}
use Rattle.std.proofs.lemmas.Bool.{ltb-true, eqb-true, eqb-false}
use Rattle.std.proofs.lemmas.List.{get_or_append_left, get_or_push}
use Rattle.bays.specs.Bays.{AreBounded, IsShare}
use Rattle.bays.specs.Stories.{LinkState}
use Rattle.host_edge.specs.Shares.{share_of, AreShared}

-- so many sessions are a link's share
share_is : (workers sessions k : ℕ) → IsShare workers sessions k (share_of workers sessions k)
share_is workers sessions k n less = by_test (nat_lt k sessions) refl less
  where
    by_test : (b : Bool) → nat_lt k sessions ≡ b →
        n < (if b then (sessions - 1 - k) / workers + 1 else 0) → k + workers * n < sessions
    by_test true is below =
        let most : workers * n ≤ workers * ((sessions - 1 - k) / workers) =
        mul-le-mul_left workers (omega (arith, below)) in
        omega (arith, most, mul-div-le (sessions - 1 - k) workers, ltb-true k sessions is)
    by_test false is below = absurd (omega (arith, below))

-- links that have their shares of so many sessions have no more than these
pub bounded_by_shares : {L : Type 0} (state : L → LinkState) (workers sessions : ℕ)
    (links : List L) → AreShared (λ link. (state link).bound) workers sessions links →
    AreBounded state workers sessions links
bounded_by_shares state workers sessions links shared k link inside n less =
    share_is workers sessions k n (omega (arith, shared k link inside, less))

-- the same of links that are there only where a call was done
pub bounded_where : {L V E : Type 0} (state : L → LinkState) (items : V → List L)
    (workers sessions : ℕ) (result : Result V E) →
    IfOk result (λ v. AreShared (λ link. (state link).bound) workers sessions (items v)) →
    IfOk result (λ v. AreBounded state workers sessions (items v))
bounded_where state items workers sessions (Ok v) shared =
    bounded_by_shares state workers sessions (items v) shared
bounded_where state items workers sessions (Err e) shared = tt

-- what the first links have each in its place, and the next one has, all have
pub all_more : {L : Type 0} (P : ℕ → L → Type 0) (n : ℕ) (links : List L) (next : L) →
    length links ≡ n → ((k : ℕ) (link : L) → k < n → P k (slice_index_or links k link)) →
    P n next → (k : ℕ) (link : L) → k < n + 1 → P k (slice_index_or (links ++ next ∷ []) k link)
all_more P n links next count before last k link below = each (k == n) refl
  where
    each : (b : Bool) → (k == n) ≡ b → P k (slice_index_or (links ++ next ∷ []) k link)
    each true same =
        let e : k ≡ n = eqb-true k n same in rw (e, get_or_push links next link n count) last
    each false other =
        let less : k < n = omega (arith, eqb-false k n other) in
        rw (get_or_append_left links (next ∷ []) link k (omega arith)) (before k link less)
