-- The header of a disk: two copies, where they lie, and which of them counts (LUKS2 On-Disk Format
-- Specification 1.1, section 2.1).
use Rattle.std.specs.Prelude.{ℕ, ◌≡◌, ◌+◌, ◌*◌, ◌<◌, ◌≤◌, ◌⊎◌, List, [], ◌∷◌, ◌++◌, length, take}
use Rattle.std.specs.Prelude.{drop, Option, Some, None, Contains}
use Rattle.crash_laws.specs.HeaderAreas.Areas.{Area}

pub data Copy : Type 0 where
  primary : Copy
  secondary : Copy

-- How copies are read. What the bytes from a place on begin with means this, if they begin with a
-- copy of that place; and of what a copy means, the number of its commit and how many bytes the
-- copy has.
pub record Reader (M : Type 0) : Type 0 where
  pub decode : ℕ → List ℕ → Option M
  pub seq : M → ℕ
  pub size : M → ℕ

-- A copy is told by its own bytes, whatever stands behind it, and stands at 0 or at its own size.
pub record IsReader {M : Type 0} (reader : Reader M) : Type 0 where
  pub fits : (place : ℕ) (bytes : List ℕ) (m : M) → reader.decode place bytes ≡ Some m
      → reader.size m ≤ length bytes
  pub own : (place : ℕ) (bytes : List ℕ) (m : M) → reader.decode place bytes ≡ Some m
      → reader.decode place (take (reader.size m) bytes) ≡ Some m
  pub behind : (place : ℕ) (bytes rest : List ℕ) (m : M) → reader.decode place bytes ≡ Some m
      → reader.decode place (bytes ++ rest) ≡ Some m
  pub here : (place : ℕ) (bytes : List ℕ) (m : M) → reader.decode place bytes ≡ Some m
      → (place ≡ 0) ⊎ (place ≡ reader.size m)

-- what the copy at a byte of the disk means, if a copy stands there
abbrev pub found : {M : Type 0} → Reader M → List ℕ → ℕ → Option M
found reader bytes place = reader.decode place (drop place bytes)

-- no copy stands in front of this byte but at 0
abbrev pub HasNoneBelow : {M : Type 0} → Reader M → List ℕ → ℕ → Type 0
HasNoneBelow {M} reader bytes size =
    (place : ℕ) → 0 < place → place < size → found reader bytes place ≡ None

-- the copy of another place says the same or something older
abbrev pub IsNotNewer : {M : Type 0} → Reader M → List ℕ → ℕ → M → Type 0
IsNotNewer {M} reader bytes place m = (other : M) → found reader bytes place ≡ Some other
    → (other ≡ m) ⊎ (reader.seq other < reader.seq m)

-- The header of a disk's bytes. Where a copy stands at 0 the other is the one at its size, and the
-- one of the higher number counts; of two with equal numbers that say the same, the one at 0. Else
-- the first copy counts, as it stands at its own size.
abbrev pub Gives : {M : Type 0} → Reader M → List ℕ → M → Type 0
Gives {M} reader bytes m =
    ((found reader bytes 0 ≡ Some m) × IsNotNewer reader bytes (reader.size m) m)
    ⊎ (((one : M) × (found reader bytes 0 ≡ Some one)
    × (found reader bytes (reader.size one) ≡ Some m)
    × (reader.seq one < reader.seq m))
    ⊎ ((found reader bytes 0 ≡ None) × (found reader bytes (reader.size m) ≡ Some m)
    × HasNoneBelow reader bytes (reader.size m)))

-- where the copies lie, in atoms
pub record Layout : Type 0 where
  pub first : Area
  pub second : Area

abbrev pub place_of : Layout → Copy → Area
place_of layout primary = layout.first
place_of layout secondary = layout.second

-- the byte at which a copy of this size stands
abbrev pub byte_of : ℕ → Copy → ℕ
byte_of size primary = 0
byte_of size secondary = size

-- The copies of a header of so many bytes lie at the front of a disk of so many atoms, one behind
-- the other.
pub record IsLaidOut (atom atoms size : ℕ) (layout : Layout) : Type 0 where
  pub first : layout.first.start ≡ 0
  pub second : layout.second.start ≡ layout.first.count
  pub same : layout.second.count ≡ layout.first.count
  pub long : layout.first.count * atom ≡ size
  pub within : layout.second.start + layout.second.count ≤ atoms

-- a header: what it means, and the text of each of its copies
pub record Header (M : Type 0) : Type 0 where
  pub means : M
  pub first : List ℕ
  pub second : List ℕ

abbrev pub text_of : {M : Type 0} → Header M → Copy → List ℕ
text_of header primary = header.first
text_of header secondary = header.second

-- both copies are valid at their places and of their size
pub record IsHeader {M : Type 0} (reader : Reader M) (header : Header M) : Type 0 where
  pub valid : (copy : Copy)
      → reader.decode (byte_of (reader.size header.means) copy) (text_of header copy)
      ≡ Some header.means
  pub size : (copy : Copy) → length (text_of header copy) ≡ reader.size header.means

-- The texts that a copy's place was handed: the copy at opening, if one stood there, and what was
-- written there since.
abbrev pub Handed : Type 0
Handed = Copy → List (List ℕ)

unfoldable pub copy_at : {M : Type 0} → Reader M → List ℕ → ℕ → Option M → List (List ℕ)
copy_at reader bytes place None = []
copy_at reader bytes place (Some m) = take (reader.size m) (drop place bytes) ∷ []

abbrev pub handed_at : {M : Type 0} → Reader M → List ℕ → ℕ → Handed
handed_at reader bytes size copy =
    copy_at reader bytes (byte_of size copy) (found reader bytes (byte_of size copy))

-- Torn copies: a copy of a header of this size that is valid was handed to its place whole, and
-- nothing else in front of the secondary is a copy.
pub record IsGenuine {M : Type 0} (reader : Reader M) (size : ℕ) (handed : Handed)
    (bytes : List ℕ) : Type 0 where
  pub each : (copy : Copy) (m : M) → found reader bytes (byte_of size copy) ≡ Some m
      → Contains (handed copy) (take (reader.size m) (drop (byte_of size copy) bytes))
  pub below : HasNoneBelow reader bytes size
