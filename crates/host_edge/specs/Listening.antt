-- Where the clients of links connect.
use Rattle.std.specs.Prelude.{ℕ, ◌≡◌, ◌⊎◌, ◌<◌, List, slice_index_or, Result, Ok, Err}
use Rattle.std.specs.declared.io.Error.{Error}

-- each link's listener is another handle of this one
abbrev pub HaveHandles : {L K : Type 0} → (L → Result L Error → Type 0) → (K → L) → L → ℕ → List K →
    Type 0
HaveHandles shares listener_of listener workers links = (k : ℕ) (link : _) → k < workers →
    shares listener (Ok (listener_of (slice_index_or links k link)))

-- each link deals with its clients in this manner
abbrev pub HaveManner : {L M : Type 0} → (L → M) → M → ℕ → List L → Type 0
HaveManner manner_of manner workers links = (k : ℕ) (link : _) → k < workers →
    manner_of (slice_index_or links k link) ≡ manner

-- why there are no links to the clients of an address: it can't be listened at, or another handle
-- of its listener can't be had
abbrev pub Listens : {L : Type 0} → (Result L Error → Type 0) → (L → Result L Error → Type 0) →
    Error → Type 0
Listens listens shares error =
    listens (Err error) ⊎ ((listener : _) × listens (Ok listener) × shares listener (Err error))
