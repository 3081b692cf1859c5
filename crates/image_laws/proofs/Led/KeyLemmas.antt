-- A volume's keys seal blocks as the segments of a conversion do.
use Rattle.std.proofs.Common.{◌≡◌, ℕ, ◌+◌, ◌*◌, ◌/◌, List, ◌∙◌, ap}
use Rattle.luks_rules.specs.declared.shape.Progress.{Progress}
use Rattle.image_laws.specs.Opened.Images.{seals_at}
use Rattle.reenc_recovery.specs.Keys.{opened_by, sealed_by, tweak_by}
use Rattle.segment_map.specs.declared.Side.{Side}
use Rattle.segment_map.specs.declared.Side.TheVariants.{New, Old, Zone}
use Rattle.volume_machine.specs.Seals.{seals_of}
use Rattle.volume_machine.specs.declared.keys.Keys.{Keys}
use Rattle.image_laws.specs.Led.Keys.{AreCiphersOf}

module _ {C : Type 0} (sector : C → ℕ) (sealed opened : C → ℕ → List ℕ → List ℕ) (c : Progress)
    (old new : List ℕ) (keys : Keys C) (are : AreCiphersOf sector sealed opened c old new keys)
    (atom : ℕ) where
  old-sealed : (b : ℕ) (bytes : List ℕ)
      → sealed keys.old (keys.old_tweak + b * (atom / 512)) bytes
      ≡ sealed_by c.old.encryption old (tweak_by c.old.encryption + b * (atom / 512)) bytes
  old-sealed b bytes =
      are.old_cipher.seals (keys.old_tweak + b * (atom / 512)) bytes
      ∙ ap (λ t. sealed_by c.old.encryption old (t + b * (atom / 512)) bytes) are.old_tweak

  new-sealed : (b : ℕ) (bytes : List ℕ)
      → sealed keys.new (keys.new_tweak + b * (atom / 512)) bytes
      ≡ sealed_by c.new.encryption new (tweak_by c.new.encryption + b * (atom / 512)) bytes
  new-sealed b bytes =
      are.new_cipher.seals (keys.new_tweak + b * (atom / 512)) bytes
      ∙ ap (λ t. sealed_by c.new.encryption new (t + b * (atom / 512)) bytes) are.new_tweak

  old-opened : (b : ℕ) (bytes : List ℕ)
      → opened keys.old (keys.old_tweak + b * (atom / 512)) bytes
      ≡ opened_by c.old.encryption old (tweak_by c.old.encryption + b * (atom / 512)) bytes
  old-opened b bytes =
      are.old_cipher.opens (keys.old_tweak + b * (atom / 512)) bytes
      ∙ ap (λ t. opened_by c.old.encryption old (t + b * (atom / 512)) bytes) are.old_tweak

  new-opened : (b : ℕ) (bytes : List ℕ)
      → opened keys.new (keys.new_tweak + b * (atom / 512)) bytes
      ≡ opened_by c.new.encryption new (tweak_by c.new.encryption + b * (atom / 512)) bytes
  new-opened b bytes =
      are.new_cipher.opens (keys.new_tweak + b * (atom / 512)) bytes
      ∙ ap (λ t. opened_by c.new.encryption new (t + b * (atom / 512)) bytes) are.new_tweak

  pub same-sealed : (side : Side) (b : ℕ) (bytes : List ℕ)
      → (seals_of sealed opened atom keys).sealed side b bytes
      ≡ (seals_at atom c old new).sealed side b bytes
  same-sealed Old b bytes = old-sealed b bytes
  same-sealed Zone b bytes = old-sealed b bytes
  same-sealed New b bytes = new-sealed b bytes

  pub same-opened : (side : Side) (b : ℕ) (bytes : List ℕ)
      → (seals_of sealed opened atom keys).opened side b bytes
      ≡ (seals_at atom c old new).opened side b bytes
  same-opened Old b bytes = old-opened b bytes
  same-opened Zone b bytes = old-opened b bytes
  same-opened New b bytes = new-opened b bytes
