-- The keys under which the sides of a conversion are sealed.
use Rattle.std.specs.Prelude.{◌≡◌, ℕ, List}
use Rattle.luks_rules.specs.declared.shape.Progress.{Progress}
use Rattle.reenc_recovery.specs.Keys.{IsCipherOf, tweak_by}
use Rattle.volume_machine.specs.declared.keys.Keys.{Keys}

-- A volume's keys are the ciphers of its whole segments under these ones, with their first numbers.
pub record AreCiphersOf {C : Type 0} (sector : C → ℕ) (sealed opened : C → ℕ → List ℕ → List ℕ)
    (c : Progress) (old new : List ℕ) (keys : Keys C) : Type 0 where
  pub old_cipher : IsCipherOf sector sealed opened c.old.encryption old keys.old
  pub new_cipher : IsCipherOf sector sealed opened c.new.encryption new keys.new
  pub old_tweak : keys.old_tweak ≡ tweak_by c.old.encryption
  pub new_tweak : keys.new_tweak ≡ tweak_by c.new.encryption
