-- What the ciphers of two keys make of sectors.
use Rattle.std.specs.Prelude.{ℕ, List}
use Rattle.cipher_laws.specs.Laws.{GivesBytes, JoinsSectors, KeepsLengths}
use Rattle.volume_machine.specs.declared.keys.Keys.{Keys}

pub record HaveLaws {C : Type 0} (sector : C → ℕ) (seal unseal : C → ℕ → List ℕ → List ℕ)
    (keys : Keys C) : Type 0 where
  pub opened_length : KeepsLengths (sector keys.old) (unseal keys.old)
  pub opened_bytes : GivesBytes (sector keys.old) (unseal keys.old)
  pub opened_joined : JoinsSectors (sector keys.old) (unseal keys.old)
  pub sealed_length : KeepsLengths (sector keys.new) (seal keys.new)
  pub sealed_joined : JoinsSectors (sector keys.new) (seal keys.new)
