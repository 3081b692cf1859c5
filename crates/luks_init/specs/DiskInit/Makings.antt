-- What is written of a volume as its conversion begins: the area of a new keyslot, and the header
-- that names it.
use Rattle.std.specs.Prelude.{ℕ, ◌≡◌, List}
use Rattle.luks_init.specs.declared.init_disk.making.MakeFault.{MakeFault}
use Rattle.luks_init.specs.declared.init_disk.making.MakeFault.TheVariants as makes
use Rattle.luks_store.specs.Copying.Held.{stage_in}
use Rattle.luks_store.specs.Copying.Steps.{last_seqid}
use Rattle.luks_store.specs.declared.header_copies.commit.Stage.TheVariants as stages
use Rattle.luks_init.specs.Begins.{IsBegun}
use Rattle.luks_init.specs.DiskInit.Slips.{LosesNothing, WouldLose}
use Rattle.luks_init.specs.Faults.{IsUnbegun}
use Rattle.luks_init.specs.declared.beginning.Begun.{Begun}
use Rattle.luks_init.specs.declared.fault.InitFault.TheVariants.{Memory}
use Rattle.luks_init.specs.declared.init_disk.refusal.Refusal.{Refusal}
use Rattle.luks_init.specs.declared.init_disk.refusal.Refusal.TheVariants as refusals
use Rattle.luks_init.specs.declared.wish.Wish.{Wish}
use Rattle.luks_slots.specs.KeyMaking.Drawings.{AreDrawn, Draw, drawn_by, drawn_len}
use Rattle.luks_store.specs.Commits.{CopiesFit, IsNext, IsNextStored, IsPrepared}
use Rattle.luks_store.specs.declared.loaded.Stored.{Stored}
use Rattle.seed_stream.specs.Streams.{bytes_of_seed}
use Rattle.luks_store.specs.declared.slot_commit.writing.SlotCommit.{SlotCommit}

-- the bytes that a seed gives to the new key
abbrev pub draw_of : Wish → List ℕ → Draw
draw_of w seed = drawn_by w.key_size (bytes_of_seed seed (drawn_len w.key_size))

-- what the conversion of a header's volume begins with, by a seed
abbrev pub Begins : Stored → Wish → List ℕ → List ℕ → Begun → Type 0
Begins header w pass seed begun =
    IsBegun header.valid.meta header.valid.sizes w pass (draw_of w seed) begun

-- The keyslot's area at its place, and the commit that follows the header, of the metadata with
-- which the conversion begins. None of its calls is made yet; it lies on the header's disk, and what
-- is loaded behind it is known.
pub record IsSlotOf (header : Stored) (begun : Begun) (slot : SlotCommit) : Type 0 where
  pub offset : slot.area_offset ≡ begun.places.key
  pub area : slot.area ≡ begun.slot.area
  pub next : IsNext header begun.meta slot.commit
  pub unwritten : stage_in slot.commit.copies ≡ stages.Begun
  pub prepared : IsPrepared slot.commit
  pub fit : CopiesFit slot.commit
  pub loaded : (after : Stored) × IsNextStored slot.commit after

-- No commit follows the header, whose number is the last one; or memory was wanted.
abbrev pub IsUncommitted : Stored → MakeFault → Type 0
IsUncommitted header (makes.Unready fault) = fault ≡ Memory
IsUncommitted header (makes.SeqEnd number) =
    (number ≡ header.copies.used.header.seqid) × (number ≡ last_seqid)

-- what is made of a header, a wish, a passphrase and a seed
pub record IsMade (header : Stored) (w : Wish) (pass seed : List ℕ) (slot : SlotCommit) : Type 0
  where
    pub begun : Begun
    pub begins : Begins header w pass seed begun
    pub drawn : AreDrawn w.key_size (draw_of w seed)
    pub is : IsSlotOf header begun slot

-- Why it can't be made, the first cause: no conversion can begin; or one can, and no commit follows
-- the header. Want of memory says nothing.
abbrev pub IsUnmade : Stored → Wish → List ℕ → List ℕ → MakeFault → Type 0
IsUnmade header w pass seed (makes.Unready fault) =
    IsUnbegun header.valid.meta header.valid.sizes w pass (draw_of w seed) fault
IsUnmade header w pass seed (makes.SeqEnd number) =
    IsUncommitted header (makes.SeqEnd number)
    × ((begun : Begun) × Begins header w pass seed begun)

-- Why nothing is made of a header whose disk has so many bytes behind its last whole atom, the first
-- cause: something would be lost by the conversion; or nothing would, and it can't be made.
abbrev pub IsUnready : Stored → Wish → List ℕ → List ℕ → ℕ → Refusal → Type 0
IsUnready header w pass seed tail (refusals.Unmade fault) =
    LosesNothing w header.valid.meta header.valid.sizes tail × IsUnmade header w pass seed fault
IsUnready header w pass seed tail refusal =
    WouldLose w header.valid.meta header.valid.sizes tail refusal
