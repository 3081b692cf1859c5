-- All rules, in their order.
use Rattle.std.specs.Prelude.{◌≡◌, ◌<◌, ◌++◌, Bool, true, false, List, [], ◌∷◌, Option, Some, None}
use Rattle.std.specs.Prelude.{option_map}
use Rattle.base_terms.specs.declared.disk_sizes.Sizes.{Sizes}
use Rattle.luks_meta.specs.declared.meta.Parts.{Parts}
use Rattle.luks_meta.specs.Configs.{mandatory}
use Rattle.luks_rules.specs.declared.fault.CheckError.{CheckError}
use Rattle.luks_rules.specs.declared.fault.CheckError.TheVariants as errors
use Rattle.luks_rules.specs.declared.fault.RuleFault.{RuleFault}
use Rattle.luks_rules.specs.declared.fault.RuleFault.TheVariants as faults
use Rattle.luks_rules.specs.declared.shape.Progress.{Progress}
use Rattle.luks_rules.specs.Areas.{areas_of, breaks_bounds}
use Rattle.luks_rules.specs.Foreign.{first_foreign}
use Rattle.luks_rules.specs.Multiples.{breaks_multiples, breaks_sectors, breaks_tweaks}
use Rattle.luks_rules.specs.Overlaps.{overlap}
use Rattle.luks_rules.specs.References.{breaks_references}
use Rattle.luks_rules.specs.Rooms.{breaks_capacity, breaks_shift}
use Rattle.luks_rules.specs.Segments.{breaks_segments}
use Rattle.luks_rules.specs.Shapes.{breaks_shape, progress_of}

-- the fault of a rule that is broken
abbrev pub broken : RuleFault → Bool → Option RuleFault
broken fault true = Some fault
broken fault false = None

-- ---- the rules in the order of their tests
-- whose header it is, its areas, and what digests list
abbrev pub rules_of_places : Parts → Sizes → List (Option RuleFault)
rules_of_places m sizes =
    option_map faults.Foreign (first_foreign (mandatory m.config.requirements))
    ∷ broken faults.AreaBounds (breaks_bounds m sizes)
    ∷ broken faults.AreaOverlap (overlap (areas_of m.keyslots))
    ∷ broken faults.DigestRef (breaks_references m)
    ∷ []

-- segments, and whole sectors and atoms
abbrev pub rules_of_sizes : Parts → Sizes → List (Option RuleFault)
rules_of_sizes m sizes =
    broken faults.SegmentGap (breaks_segments m sizes)
    ∷ broken faults.SectorSize (breaks_sectors m sizes)
    ∷ broken faults.NotAtomMultiple (breaks_multiples m sizes)
    ∷ broken faults.TweakRange (breaks_tweaks m sizes)
    ∷ []

-- conversions
abbrev pub rules_of_conversion : Parts → Sizes → List (Option RuleFault)
rules_of_conversion m sizes =
    broken faults.ReencryptShape (breaks_shape m (progress_of m sizes))
    ∷ broken faults.ResilTooSmall (breaks_capacity sizes.atom (progress_of m sizes))
    ∷ broken faults.ShiftRoom (breaks_shift (progress_of m sizes))
    ∷ []

abbrev pub rules : Parts → Sizes → List (Option RuleFault)
rules m sizes = rules_of_places m sizes ++ rules_of_sizes m sizes ++ rules_of_conversion m sizes

-- the first fault that there is
abbrev pub first_or : Option RuleFault → Option RuleFault → Option RuleFault
first_or None later = later
first_or (Some fault) later = Some fault

abbrev pub first_of : List (Option RuleFault) → Option RuleFault
first_of [] = None
first_of (fault ∷ later) = first_or fault (first_of later)

-- the first rule that metadata break
unfoldable pub first_fault : Parts → Sizes → Option RuleFault
first_fault m sizes = first_of (rules m sizes)

-- why metadata aren't valid: memory, or the first rule that they break
abbrev pub IsCause : CheckError → Option RuleFault → Type 0
IsCause errors.Memory first = Unit {0}
IsCause (errors.Fault fault) first = first ≡ Some fault

-- metadata that break no rule, and how far their conversion is
pub record IsJudged (m : Parts) (sizes : Sizes) (progress : Option Progress) : Type 0 where
  pub atom : 0 < sizes.atom
  pub valid : first_fault m sizes ≡ None
  pub known : progress ≡ progress_of m sizes
