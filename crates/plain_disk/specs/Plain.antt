-- One plain disk that is asked one operation after the other.
use Rattle.std.specs.Prelude.{ℕ, ◌≡◌, ◌*◌, ◌/◌, ◌%◌, ◌≤◌, Bool, true, false, if◌then◌else◌, List}
use Rattle.std.specs.Prelude.{[], ◌∷◌, ◌++◌, length, take, drop, map, replicate, MatchOption}
use Rattle.base_terms.specs.Blocks.{pasted, joined, blocks_of, changed}
use Rattle.base_terms.specs.ErrorNumbers.{device_error}
use Rattle.plain_disk.specs.declared.operation.Op.{Op}
use Rattle.plain_disk.specs.declared.operation.Op.TheVariants.{Read, Write, Zeroes, Flush}
use Rattle.plain_disk.specs.declared.operation.Reply.{Reply}
use Rattle.plain_disk.specs.declared.operation.Reply.TheVariants.{Content, Done, Errno, ErrnoAt}
use Rattle.plain_disk.specs.Operations.{touched, wrong_of}

-- a block: its newest value, the values before it back to the flushed one, which comes first, and
-- whether a write of it failed, so that it may hold another than the newest
pub record Block : Type 0 where
  pub newest : List ℕ
  pub older : List (List ℕ)
  pub unsure : Bool

-- all values of a block, the flushed one first
abbrev pub values_of : Block → List (List ℕ)
values_of block = block.older ++ block.newest ∷ []

-- a block that holds this value alone
abbrev pub settled : List ℕ → Block
settled value = record { newest = value; older = []; unsure = false }

-- after a write of it
abbrev pub written : Block → List ℕ → Block
written block value = record { newest = value; older = values_of block; unsure = false }

-- after a write of it that was tried and failed
abbrev pub tried : Block → List ℕ → Block
tried block value = record { newest = value; older = values_of block; unsure = true }

-- after a flush
abbrev pub flushed : Block → Block
flushed block = record { newest = block.newest; older = []; unsure = block.unsure }

-- after a write that is certain to be kept
abbrev pub written_for_good : Block → List ℕ → Block
written_for_good block value = flushed (written block value)

-- the newest values, as one text
unfoldable pub newest_bytes : List Block → List ℕ
newest_bytes blocks = joined (map (λ block. block.newest) blocks)

-- no block is unsure
unfoldable pub AreSure : List Block → Type 0
AreSure [] = Unit {0}
AreSure (block ∷ blocks) = (block.unsure ≡ false) × AreSure blocks

-- blocks that hold these values alone
unfoldable pub settled_blocks : List (List ℕ) → List Block
settled_blocks values = map settled values

-- an operation that was answered; of a write, how many bytes of its blocks were tried
pub record Exchange : Type 0 where
  pub op : Op
  pub reply : Reply
  pub tried : ℕ

-- the bytes of the blocks that a write touches, once `body` stands in a disk of these bytes from
-- the byte `offset` on: a block that it covers in part keeps its other bytes
unfoldable pub edged : ℕ → List ℕ → ℕ → List ℕ → List ℕ
edged atom bytes offset body =
    take (touched atom offset (length body) * atom)
    (drop (offset / atom * atom) (pasted bytes offset body))

-- a write of `body`, from the byte `offset` on, goes by its reply; what was tried of it are whole
-- blocks
unfoldable pub WriteStep : ℕ → List Block → ℕ → List ℕ → Bool → Reply → ℕ → List Block → Type 0
WriteStep atom old offset body fua (Content bytes) n new = ⊥
WriteStep atom old offset body fua Done n new =
    (n ≡ touched atom offset (length body) * atom)
    × (new ≡ changed (if fua then written_for_good else written) old
    (offset / atom)
    (blocks_of atom (touched atom offset (length body)) (edged atom (newest_bytes old) offset body)))
WriteStep atom old offset body fua (Errno number) n new =
    (number ≡ device_error) × (n ≤ touched atom offset (length body) * atom) × (n % atom ≡ 0)
    × (new ≡ changed tried old (offset / atom)
    (blocks_of atom (n / atom) (edged atom (newest_bytes old) offset body)))
WriteStep atom old offset body fua (ErrnoAt number place) n new = ⊥

-- an operation that isn't wrong goes by its kind and its reply; wherever a read failed, its error
-- is that of the device
unfoldable pub ProperStep : ℕ → List Block → Op → Reply → ℕ → List Block → Type 0
ProperStep atom old (Read offset len) (Content bytes) n new =
    (new ≡ old) × (bytes ≡ take len (drop offset (newest_bytes old)))
    × AreSure (take (touched atom offset len) (drop (offset / atom) old))
ProperStep atom old (Read offset len) Done n new = ⊥
ProperStep atom old (Read offset len) (Errno number) n new = (number ≡ device_error) × (new ≡ old)
ProperStep atom old (Read offset len) (ErrnoAt number place) n new =
    (number ≡ device_error) × (new ≡ old)
ProperStep atom old (Write offset body fua) reply n new =
    WriteStep atom old offset body fua reply n new
ProperStep atom old (Zeroes offset len fua) reply n new =
    WriteStep atom old offset (replicate len 0) fua reply n new
ProperStep atom old Flush (Content bytes) n new = ⊥
ProperStep atom old Flush Done n new = new ≡ map flushed old
ProperStep atom old Flush (Errno number) n new = (number ≡ device_error) × (new ≡ old)
ProperStep atom old Flush (ErrnoAt number place) n new = ⊥

-- one operation: a wrong one is refused with its number and does nothing
unfoldable pub Step : ℕ → List Block → Exchange → List Block → Type 0
Step atom old exchange new =
    MatchOption (wrong_of atom (length old * atom) exchange.op)
    (ProperStep atom old exchange.op exchange.reply exchange.tried new)
    (λ number. (exchange.reply ≡ Errno number) × (new ≡ old))

-- operations one after the other
unfoldable pub Legal : ℕ → List Block → List Exchange → List Block → Type 0
Legal atom old [] new = new ≡ old
Legal atom old (exchange ∷ exchanges) new =
    (middle : List Block) × Step atom old exchange middle × Legal atom middle exchanges new
