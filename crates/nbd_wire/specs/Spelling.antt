-- Messages and their texts.
use Rattle.std.specs.Prelude.{ℕ, ◌≡◌, List, length}

-- each message's text has so many bytes, and each text is that of one message
pub record IsSpelling {M : Type 0} (IsMessage : M → Type 0) (text : M → List ℕ) (size : ℕ) : Type 0
  where
    pub sized : (message : M) → length (text message) ≡ size
    pub once : (a b : M) → IsMessage a → IsMessage b → text a ≡ text b → a ≡ b
