-- How the sessions of a command are dealt to its links.
use Rattle.std.specs.Prelude.{ℕ, ◌≡◌, ◌+◌, ◌-◌, ◌/◌, ◌<◌, nat_lt, if◌then◌else◌, List}
use Rattle.std.specs.Prelude.{slice_index_or}

-- how many of the numbers below `sessions` are `k`, `k + workers`, `k + 2 * workers` and so on
abbrev pub share_of : ℕ → ℕ → ℕ → ℕ
share_of workers sessions k = if nat_lt k sessions then (sessions - 1 - k) / workers + 1 else 0

-- each worker's link has its share of the sessions to come
abbrev pub AreShared : {L : Type 0} → (L → ℕ) → ℕ → ℕ → List L → Type 0
AreShared {L} left workers sessions links =
    (k : ℕ) (link : L) → k < workers →
    left (slice_index_or links k link) ≡ share_of workers sessions k
