-- What the two kept hash states of a key hold.
use Rattle.std.specs.Prelude.{ℕ, List}
use Rattle.pbkdf2_hmac.specs.declared.Hash.{Hash}
use Rattle.pbkdf2_hmac.specs.declared.keyed.Keyed.{Keyed}
use Rattle.pbkdf2_hmac.specs.Hmac.{padded_key}

-- the states after the inner and after the outer padded key
pub record IsKeyed {H : Type 0} (h : Hash) (holds : H → List ℕ → Type 0) (keyed : Keyed H)
    (key : List ℕ) : Type 0 where
  pub inner : holds keyed.inner (padded_key h key 0x36)
  pub outer : holds keyed.outer (padded_key h key 0x5C)
