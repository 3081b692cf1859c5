-- Copies that would be found within a copy: one is told by its magic, at a place where a secondary
-- may stand.
use Rattle.std.specs.Prelude.{ℕ, ◌-◌, nat_lt, Bool, false, List, length, if◌then◌else◌}
use Rattle.std.specs.List.{list_any}
use Rattle.std.specs.Str.{bytes_eq}
use Rattle.luks_bin.specs.Copies.{magic_of}
use Rattle.luks_bin.specs.Fields.{field, sizes}

-- the magic of a copy that stands at this place
abbrev pub has_magic : List ℕ → ℕ → Bool
has_magic copy place =
    if nat_lt (length copy - place) 6 then false
    else bytes_eq (field place 6 copy) (magic_of place)

-- it stands at one of the nine places of a secondary
unfoldable pub hides_copy : List ℕ → Bool
hides_copy copy = list_any (has_magic copy) sizes
