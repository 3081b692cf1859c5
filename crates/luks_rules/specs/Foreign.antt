-- Mandatory strings of other programs.
use Rattle.std.specs.Prelude.{ℕ, List, Option}
use Rattle.std.specs.List.{find}
use Rattle.luks_meta.specs.Configs.{is_foreign}

-- the first string that isn't the profile's
abbrev pub first_foreign : List (List ℕ) → Option (List ℕ)
first_foreign texts = find is_foreign texts
