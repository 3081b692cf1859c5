-- The header that a disk holds: the copy that is used, and the metadata in it.
use Rattle.std.specs.Prelude.{◌≡◌, ◌<◌, ℕ, List, Option, Some, None, Result, Ok, Err}
use Rattle.base_terms.specs.Causes.{Rose}
use Rattle.base_terms.specs.declared.disk_sizes.Sizes.{Sizes}
use Rattle.luks_bin.specs.Copies.{text_of}
use Rattle.luks_bin.specs.Shares.{DifferFirst}
use Rattle.luks_json.specs.Metas.{meta_from}
use Rattle.luks_meta.specs.declared.meta.Parts.{Parts}
use Rattle.luks_rules.specs.Rules.{first_fault}
use Rattle.luks_store.specs.Used.{Refusal, no_header, differ, text, rule, copies_in, AreCopies}
use Rattle.luks_store.specs.declared.copies.Copies.{Copies}
use Rattle.luks_store.specs.declared.copies.HeaderCopy.{HeaderCopy}
use Rattle.luks_store.specs.declared.fault.StoreFault.{StoreFault}
use Rattle.luks_store.specs.declared.fault.StoreFault.TheVariants as faults
use Rattle.luks_store.specs.declared.loaded.Stored.{Stored}
use Rattle.sector_disk.specs.Devices.{Device}

-- first this, then what follows from it; the first refusal ends it
infixl 10 ◌>>=◌
abbrev pub ◌>>=◌ : {A B : Type 0} → Result A Refusal → (A → Result B Refusal) → Result B Refusal
(Ok x) >>= rest = rest x
(Err refusal) >>= rest = Err refusal

-- a fault as a refusal of its kind
abbrev pub because : {A F : Type 0} → (F → Refusal) → Result A F → Result A Refusal
because kind (Ok x) = Ok x
because kind (Err fault) = Err (kind fault)

abbrev pub unless : {F : Type 0} → (F → Refusal) → Option F → Result (Unit {0}) Refusal
unless kind None = Ok (tt {0})
unless kind (Some fault) = Err (kind fault)

-- the objects in the text of a copy
abbrev pub objects_in : HeaderCopy → Result Parts Refusal
objects_in copy = because text (meta_from copy.header.hdr_size (text_of copy.bytes))

-- the metadata of the copy that is used, which break no rule
unfoldable pub judged : Sizes → Copies → Result Stored Refusal
judged sizes copies = do
  meta ← objects_in copies.used
  _ ← unless rule (first_fault meta sizes)
  Ok (record { copies = copies; valid = record { meta = meta; sizes = sizes } })

-- the header that a disk's bytes hold
unfoldable pub stored_in : Sizes → List ℕ → Result Stored Refusal
stored_in sizes bytes = do
  copies ← copies_in bytes
  judged sizes copies

-- ---- answers
-- what an answer says of what the disk holds; want of memory and a read that failed say nothing
abbrev pub Says : {X : Type 0} → StoreFault → Result X Refusal → Type 0
Says faults.Memory held = Unit {0}
Says faults.Device held = Unit {0}
Says (faults.NoHeader primary secondary) held = held ≡ Err (no_header primary secondary)
Says (faults.CopiesDiffer seqid place) held =
    (a : List ℕ) × (b : List ℕ) × (held ≡ Err (differ seqid a b)) × DifferFirst a b place
Says (faults.Json fault) held = held ≡ Err (text fault)
Says (faults.Rule fault) held = held ≡ Err (rule fault)

abbrev pub Answers : {X : Type 0} → Result X StoreFault → Result X Refusal → Type 0
Answers (Ok x) held = held ≡ Ok x
Answers (Err fault) held = Says fault held

-- a read failed only where the count of the disk's faults rose
abbrev pub HasCause : Device → Device → StoreFault → Type 0
HasCause old new faults.Device = Rose old.faults new.faults
HasCause old new _ = Unit {0}

-- no read failed
abbrev pub IsNoRead : StoreFault → Type 0
IsNoRead faults.Device = ⊥
IsNoRead _ = Unit {0}

-- ---- what is known of a header that was loaded
pub record IsStored (stored : Stored) : Type 0 where
  pub copies : AreCopies stored.copies
  pub atom : 0 < stored.valid.sizes.atom
  pub held : judged stored.valid.sizes stored.copies ≡ Ok stored
