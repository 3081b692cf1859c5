-- Copies that would be found in front of the secondary, as the laws of headers speak of them.
use Rattle.std.specs.Prelude.{ℕ, ◌≡◌, ◌*◌, ◌%◌, false, List, length, Some}
use Rattle.crash_laws.specs.HeaderAreas.Areas.{Area}
use Rattle.crash_laws.specs.HeaderAreas.Fronts.{HidesNone}
use Rattle.luks_bin.specs.Hidden.{hides_copy}
use Rattle.luks_store.specs.Copying.Meanings.{header_reader, meaning_at}
use Rattle.sector_disk.specs.Geometry.{IsAtom}

-- copies stand at whole atoms
abbrev pub StandAtAtoms : Type 0
StandAtAtoms = (atom : ℕ) → IsAtom atom → (place : ℕ) (bytes m : List ℕ)
    → meaning_at place bytes ≡ Some m → place % atom ≡ 0

-- no copy begins with an atom of a text that holds no magic, but with its first
abbrev pub HideNone : Type 0
HideNone = (atom : ℕ) (area : Area) (text : List ℕ) → IsAtom atom → length text ≡ area.count * atom
    → hides_copy text ≡ false → HidesNone header_reader atom area text
