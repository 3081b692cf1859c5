-- How links stand once sessions were served over them.
use Rattle.std.specs.Prelude.{ℕ, ◌≡◌, ◌≢◌, ◌+◌, ◌-◌, ◌^◌, ◌<◌, min, List, fold, slice_index_or}
use Rattle.bays.specs.Stories.{LinkState}
use Rattle.block_server.specs.declared.link.Standing.{Standing}
use Rattle.block_server.specs.declared.link.Standing.TheVariants.{Live, Ended, Failed}

-- 1 for a link that failed
abbrev pub failed_bit : Standing → ℕ
failed_bit Live = 0
failed_bit Ended = 0
failed_bit Failed = 1

-- how many failed
abbrev pub failed_in : List Standing → ℕ
failed_in standings =
    fold (λ count standing. min (count + failed_bit standing) (2 ^ 32 - 1)) 0 standings

-- the link of the number `k` failed, and none before it
pub record IsFirstFailed (standings : List Standing) (k : ℕ) : Type 0 where
  pub here : slice_index_or standings k Live ≡ Failed
  pub before : (j : ℕ) → j < k → slice_index_or standings j Live ≢ Failed

-- so many calls of the first link failed that did
abbrev pub AreFaultsOfFirst : {L : Type 0} → (L → LinkState) → List L → List Standing → ℕ → Type 0
AreFaultsOfFirst {L} state links standings faults = (k : ℕ) (link : L) →
    IsFirstFailed standings k → faults ≡ (state (slice_index_or links k link)).faults

-- one of the first so many links is live: it wasn't asked to its end
abbrev pub HasLive : ℕ → List Standing → Type 0
HasLive links standings = (k : ℕ) × (k < links) × (slice_index_or standings k Live ≡ Live)
