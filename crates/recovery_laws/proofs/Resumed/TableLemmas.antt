-- The tables that a disk tells since an opening began, behind its reads and the calls of its repair.
use Rattle.std.proofs.Common.{◌≡◌, ◌∙◌, ℕ, List, Option, Some, sym}
use Rattle.std.proofs.lemmas.List.Elements.{All-weaker}
use Rattle.base_terms.specs.declared.disk_sizes.Sizes.{Sizes}
use Rattle.image_laws.specs.Opened.Openings.{KeepsSince, KeepsStill, TellsKept}
use Rattle.recovery_laws.specs.Resumed.Keeping.{OpenedSince, TellsOpened}
use Rattle.sector_disk.specs.Cells.{Cell, content}
use Rattle.sector_disk.specs.Devices.{Device}
use Rattle.sector_disk.specs.Steps.{Told}

abbrev Table : Type 0
Table = Option ℕ × List Cell

-- one table at hand is the other
pub one-told : (a b : Told) (o : Option Told) → o ≡ Some a → o ≡ Some b → a ≡ b
one-told a b o is also = (let e : Some a ≡ Some b = sym is ∙ also in cc)

-- ---- what a table keeps of the bytes at the start, once these are known
abbrev pub Reads : Sizes → (List Cell → Type 0) → Device → Type 0
Reads sizes Holds old = (before : Told) → old.told ≡ Some before → (cells : List Cell)
    → KeepsStill sizes (content before.now) cells → Holds cells

module _ (sizes : Sizes) (Holds : List Cell → Type 0) where
  read-since : (before now : Told)
      → ((cells : List Cell) → KeepsStill sizes (content before.now) cells → Holds cells)
      → KeepsSince sizes before now → OpenedSince Holds before now
  read-since before now reads since = record {
    more = since.more;
    past = since.past;
    each = All-weaker (λ (table : Table). KeepsStill sizes (content before.now) table.1)
        (λ (table : Table). Holds table.1) (λ table is. reads table.1 is) since.more since.each;
    last = reads now.now since.last;
  }

  pub tells-read : (old new : Device) → Reads sizes Holds old → TellsKept sizes old new
      → TellsOpened Holds old new
  tells-read old new reads kept now is =
      let (before, was, since) = kept now is in
      (before, was, read-since before now (reads before was) since)
