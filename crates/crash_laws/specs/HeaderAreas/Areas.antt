-- Areas of a disk: runs of atoms that one writer has for itself, and what is known of them.
use Rattle.std.specs.Prelude.{ℕ, zero, suc, ◌≡◌, ◌+◌, ◌<◌, ◌≤◌, ◌⊎◌, Bool, false, List, [], ◌++◌}
use Rattle.std.specs.Prelude.{length, Contains}
use Rattle.sector_disk.specs.DiskViews.Parts.{block_at}
use Rattle.sector_disk.specs.DiskViews.Views.{View}

-- so many atoms from a place on
pub record Area : Type 0 where
  pub start : ℕ
  pub count : ℕ

-- no atom is in both
abbrev pub AreApart : Area → Area → Type 0
AreApart a b = (a.start + a.count ≤ b.start) ⊎ (b.start + b.count ≤ a.start)

-- what an area holds while nothing has failed, and what a stop may leave in it, atom by atom
pub record Shows (area : Area) (Now Left : ℕ → List ℕ → Type 0) (broken : Bool) (view : View) : Type
    0 where
  pub now : broken ≡ false → (i : ℕ) → i < area.count → Now i (view.current (area.start + i))
  pub left : (i : ℕ) → i < area.count → (value : List ℕ)
      → Contains (view.candidates (area.start + i)) value → Left i value

-- an atom of a text, and any value
abbrev pub IsOf : ℕ → List ℕ → ℕ → List ℕ → Type 0
IsOf atom text i value = value ≡ block_at atom text i

abbrev pub IsAny : ℕ → List ℕ → Type 0
IsAny i value = Unit {0}

-- an image: by place, the value that a stop has left
abbrev pub Image : Type 0
Image = ℕ → List ℕ

-- so many of its atoms, one behind the other
unfoldable pub text_from : Image → ℕ → ℕ → List ℕ
text_from image start zero = []
text_from image start (suc n) = image start ++ text_from image (suc start) n

abbrev pub text_in : Image → Area → List ℕ
text_in image area = text_from image area.start area.count

-- the bytes of the whole disk
abbrev pub content_of : ℕ → Image → List ℕ
content_of atoms image = text_from image 0 atoms

-- each atom of the disk has an atom's bytes
abbrev pub IsWhole : ℕ → ℕ → Image → Type 0
IsWhole atom atoms image = (place : ℕ) → place < atoms → length (image place) ≡ atom

-- the image takes a candidate of each atom
abbrev pub Takes : View → Image → Area → Type 0
Takes view image area =
    (i : ℕ) → i < area.count → Contains (view.candidates (area.start + i)) (image (area.start + i))
