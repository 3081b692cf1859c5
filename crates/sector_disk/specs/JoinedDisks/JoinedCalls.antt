-- One call on two joined disks, as each of them saw it.
use Rattle.std.specs.Prelude.{ℕ, ◌≡◌, ◌⊎◌, ◌-◌, ◌*◌, ◌<◌, List, length, take, drop, Result}
use Rattle.std.specs.Prelude.{Ok, IsOk}
use Rattle.base_terms.specs.declared.failed.Failed.{Failed}
use Rattle.sector_disk.specs.JoinedDisks.Joined.{Joint}
use Rattle.sector_disk.specs.Devices.{Device, ReadCall, WriteCall, SyncCall, marked}

-- The head was left alone, and the main disk was called; or the head was called, and the main disk
-- was left alone, since the call failed or the rest was empty; or the head was called, and then the
-- main disk. Each was marked with the call's number before.
abbrev pub Both : (Device → Device → Result (Unit {0}) Failed → Type 0)
    → (Device → Device → Result (Unit {0}) Failed → Type 0)
    → Type 0 → Type 0 → ℕ → Device → Device → Device → Device → Result (Unit {0}) Failed → Type 0
Both Head Main IsEmpty IsDone number head head' main main' result =
    (IsEmpty × (head' ≡ head) × Main (marked main number) main' result)
    ⊎ ((IsOk result → IsDone) × (main' ≡ main) × Head (marked head number) head' result)
    ⊎ (Head (marked head number) head' (Ok tt) × Main (marked main number) main' result)

abbrev pub BothRead : ℕ → ℕ → ℕ → List ℕ → List ℕ → ℕ → Device → Device → Device → Device
    → Result (Unit {0}) Failed → Type 0
BothRead size at behind front back =
    Both (ReadCall size at front) (ReadCall size behind back) (length front ≡ 0) (length back ≡ 0)

abbrev pub BothWritten : ℕ → ℕ → ℕ → List ℕ → List ℕ → ℕ → Device → Device → Device → Device
    → Result (Unit {0}) Failed → Type 0
BothWritten size at behind front back =
    Both (WriteCall size at front) (WriteCall size behind back) (length front ≡ 0) (length back ≡ 0)

-- where there is no head the main disk is called alone
abbrev pub BothSynced : Type 0 → ℕ → Device → Device → Device → Device → Result (Unit {0}) Failed
    → Type 0
BothSynced IsAlone = Both SyncCall SyncCall IsAlone ⊥

-- ---- the same of a disk of two
-- how many bytes of the head lie from an atom on
abbrev pub bytes_on_head : Joint → ℕ → ℕ
bytes_on_head joint at = (joint.head.atoms - at) * joint.main.size

-- Of a call on whole atoms the head gets what lies on it, and the main disk the rest. Each disk is
-- called at most once, the head first, and after a call on it that failed the main disk isn't
-- called.
abbrev pub EachRead : ℕ → List ℕ → Joint → Joint → Result (Unit {0}) Failed → Type 0
EachRead at bytes old new =
    BothRead old.main.size at (at - old.head.atoms) (take (bytes_on_head old at) bytes)
    (drop (bytes_on_head old at) bytes)
    old.calls old.head new.head old.main new.main

abbrev pub EachWritten : ℕ → List ℕ → Joint → Joint → Result (Unit {0}) Failed → Type 0
EachWritten at bytes old new =
    BothWritten old.main.size at (at - old.head.atoms) (take (bytes_on_head old at) bytes)
    (drop (bytes_on_head old at) bytes)
    old.calls old.head new.head old.main new.main

-- a sync is of both
abbrev pub EachSynced : Joint → Joint → Result (Unit {0}) Failed → Type 0
EachSynced old new = BothSynced ⊥ old.calls old.head new.head old.main new.main

-- Where the head has no atoms it was left alone, and the call is the main disk's own, under the
-- marks that this has. Else each disk had its part.
abbrev pub ByHead : (Device → Device → Type 0) → Type 0 → Joint → Joint → Type 0
ByHead Main Each old new =
    ((old.head.atoms ≡ 0) × (new.head ≡ old.head) × Main old.main new.main)
    ⊎ ((0 < old.head.atoms) × Each)

abbrev pub JointRead : ℕ → List ℕ → Joint → Joint → Result (Unit {0}) Failed → Type 0
JointRead at bytes old new result =
    ByHead (λ main main'. ReadCall main.size at bytes main main' result)
    (EachRead at bytes old new result) old new

abbrev pub JointWritten : ℕ → List ℕ → Joint → Joint → Result (Unit {0}) Failed → Type 0
JointWritten at bytes old new result =
    ByHead (λ main main'. WriteCall main.size at bytes main main' result)
    (EachWritten at bytes old new result) old new

abbrev pub JointSynced : Joint → Joint → Result (Unit {0}) Failed → Type 0
JointSynced old new result =
    ByHead (λ main main'. SyncCall main main' result) (EachSynced old new result) old new
