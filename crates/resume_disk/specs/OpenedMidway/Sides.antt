-- The keys of the sides of a volume that is being converted.
use Rattle.std.specs.Prelude.{◌≡◌, ◌⊎◌, ℕ, List, Some}
use Rattle.base_terms.specs.declared.disk_sizes.Sizes.{Sizes}
use Rattle.hotzone.specs.Sites.{IsSaved}
use Rattle.luks_meta.specs.declared.meta.Parts.{Parts}
use Rattle.luks_rules.specs.Shapes.{progress_of}
use Rattle.luks_rules.specs.declared.shape.Progress.{Progress}
use Rattle.reenc_recovery.specs.Keys.{Differs, IsKeyOf, used_by}
use Rattle.reenc_recovery.specs.declared.fault.OpenCause.{OpenCause}
use Rattle.reenc_recovery.specs.declared.fault.OpenCause.TheVariants as causes
use Rattle.reenc_recovery.specs.declared.keys.SideKeys.{SideKeys}
use Rattle.volume_machine.specs.declared.keys.Keys.{Keys}
use Rattle.image_laws.specs.Led.Keys.{AreCiphersOf}

-- The keys are the ciphers of the whole segments under those that were handed in for their sides,
-- each of which is that of its segment's digest. `sector`, `sealed` and `opened` are those of the
-- ciphers.
pub record AreSides {C : Type 0} (sector : C → ℕ) (sealed opened : C → ℕ → List ℕ → List ℕ)
    (m : Parts) (c : Progress) (handed : SideKeys) (keys : Keys C) : Type 0 where
  pub old_key : IsKeyOf m c.old (used_by c.old.encryption handed.old)
  pub new_key : IsKeyOf m c.new (used_by c.new.encryption handed.new)
  pub ciphers : AreCiphersOf sector sealed opened c (used_by c.old.encryption handed.old)
      (used_by c.new.encryption handed.new) keys

-- Why they aren't: a key that was handed in isn't the one of its segment's digest, the old side's, or
-- else the new one's. Want of memory says nothing.
abbrev pub IsNoSide : Parts → Progress → SideKeys → OpenCause → Type 0
IsNoSide m c handed causes.Memory = Unit {0}
IsNoSide m c handed (causes.KeyDiffers computed stored) =
    Differs m c.old handed.old computed stored
    ⊎ (IsKeyOf m c.old (used_by c.old.encryption handed.old)
    × Differs m c.new handed.new computed stored)
IsNoSide m c handed _ = ⊥

-- By metadata a conversion is under way of whose blocks something is saved, and the keys are those of
-- its sides.
pub record IsConversion {C : Type 0} (sector : C → ℕ) (sealed opened : C → ℕ → List ℕ → List ℕ)
    (m : Parts) (sizes : Sizes) (handed : SideKeys) (keys : Keys C) : Type 0 where
  pub now : Progress
  pub known : progress_of m sizes ≡ Some now
  pub guarded : IsSaved now.conversion.resilience
  pub sides : AreSides sector sealed opened m now handed keys
