-- A plain disk in memory, which never fails: the newest value of each block, and how it answers.
use Rattle.std.specs.Prelude.{ℕ, ◌≡◌, ◌*◌, ◌^◌, ◌<◌, List, length, take, drop, map, Option, Some}
use Rattle.std.specs.Prelude.{None}
use Rattle.base_terms.specs.Blocks.{joined}
use Rattle.plain_disk.specs.declared.operation.Op.{Op}
use Rattle.plain_disk.specs.declared.operation.Op.TheVariants.{Read, Write, Zeroes, Flush}
use Rattle.plain_disk.specs.declared.operation.Reply.{Reply}
use Rattle.plain_disk.specs.declared.operation.Reply.TheVariants.{Content, Done, Errno}
use Rattle.plain_disk.specs.Operations.{wrong_of}
use Rattle.plain_disk.specs.Plain.{Block, AreSure, Step}

-- such a disk at a moment: how many bytes a block has, and the newest value of each
pub record Machine : Type 0 where
  pub atom : ℕ
  pub newest : List (List ℕ)

-- its bytes are those of so many blocks of so many bytes
pub record IsWhole (atom blocks : ℕ) (bytes : List ℕ) : Type 0 where
  pub some : 0 < atom
  pub fits : blocks * atom < 2 ^ 63
  pub whole : length bytes ≡ blocks * atom

-- these blocks are the disk's: it holds their newest values, and none of them is unsure
pub record AreBlocksOf (machine : Machine) (blocks : List Block) : Type 0 where
  pub newest : map (λ block. block.newest) blocks ≡ machine.newest
  pub sure : AreSure blocks

-- the number with which the disk refuses an operation
abbrev pub refusal_of : Machine → Op → Option ℕ
refusal_of machine op = wrong_of machine.atom (length machine.newest * machine.atom) op

-- the reply to an operation that isn't wrong: the newest bytes to a read, and that the rest is done
abbrev pub proper_reply : List (List ℕ) → Op → Reply
proper_reply newest (Read offset len) = Content (take len (drop offset (joined newest)))
proper_reply newest (Write offset body fua) = Done
proper_reply newest (Zeroes offset len fua) = Done
proper_reply newest Flush = Done

-- a number, where there is one, goes before the reply
abbrev pub reply_unless : Option ℕ → Reply → Reply
reply_unless None reply = reply
reply_unless (Some number) reply = Errno number

-- the reply to an operation
unfoldable pub reply_to : Machine → Op → Reply
reply_to machine op = reply_unless (refusal_of machine op) (proper_reply machine.newest op)

-- an operation so answered is a step of the plain disk, from any blocks that are the old disk's to
-- blocks that are the new one's
pub record Steps (old new : Machine) (op : Op) (reply : Reply) : Type 0 where
  pub atom : new.atom ≡ old.atom
  pub count : length new.newest ≡ length old.newest
  pub legal : (blocks : List Block) → AreBlocksOf old blocks →
      (n : ℕ) × (left : List Block)
      × Step old.atom blocks (record { op = op; reply = reply; tried = n }) left
      × AreBlocksOf new left

-- the value of a block after a write of it
abbrev pub put : List ℕ → List ℕ → List ℕ
put old value = value
