-- The keyslots that say how a conversion goes on.
use Rattle.std.specs.Prelude.{ℕ, List, [], ◌∷◌, Option, Some, None}
use Rattle.std.specs.List.{filter_map}
use Rattle.luks_meta.specs.declared.keyslot.Keyslot.{Keyslot}
use Rattle.luks_meta.specs.declared.keyslot.Keyslot.TheVariants as keyslots
use Rattle.luks_meta.specs.declared.reencrypt.Reencrypt.{Reencrypt}
use Rattle.luks_rules.specs.declared.conversions.Conversion.{Conversion}

abbrev pub conversion_by : ℕ → Reencrypt → Conversion
conversion_by number s =
    record {
      keyslot = number;
      mode = s.mode;
      direction = s.direction;
      resilience =
          s.area.resilience;
      area = record { offset = s.area.offset; size = s.area.size };
    }

-- the conversion that a keyslot is of, if it is of one
abbrev pub kept_by : ℕ → Keyslot → Option Conversion
kept_by number (keyslots.Luks2 s) = None
kept_by number (keyslots.Reencrypt s) = Some (conversion_by number s)
kept_by number (keyslots.Unknown s) = None

unfoldable pub conversion_of : ℕ × Keyslot → Option Conversion
conversion_of slot = kept_by slot.0 slot.1

unfoldable pub conversions_of : List (ℕ × Keyslot) → List Conversion
conversions_of slots = filter_map conversion_of slots

-- the one of a list that has exactly one
abbrev pub only : List Conversion → Option Conversion
only [] = None
only (c ∷ []) = Some c
only (c ∷ d ∷ cs) = None
