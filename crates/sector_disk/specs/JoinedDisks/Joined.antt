-- Two disks joined to one: what it shows, and in which order its disks' tables stand.
use Rattle.std.specs.Prelude.{ℕ, zero, suc, ◌≡◌, ◌+◌, ◌-◌, ◌*◌, ◌/◌, ◌^◌, ◌<◌, ◌≤◌, ◌==◌, ◌||◌}
use Rattle.std.specs.Prelude.{Bool, false, nat_lt, List, [], ◌∷◌, ◌++◌, length, take, drop, min, map}
use Rattle.std.specs.Prelude.{Option, Some, None, option_map, if◌then◌else◌}
use Rattle.sector_disk.specs.Cells.{Cell}
use Rattle.sector_disk.specs.Devices.{Device, marked}
use Rattle.sector_disk.specs.Steps.{Told}

-- a disk without atoms, which has made no call
abbrev pub nothing : ℕ → Device
nothing size = record {
  size = size;
  atoms = 0;
  tail = 0;
  values = Some [];
  told = Some (record { now = []; past = []; mark = Some 0 });
  faults = 0;
}

-- the disk in front, where there is one
abbrev pub in_front : {D : Type 0} → (D → Device) → ℕ → Option D → Device
in_front device size None = nothing size
in_front device size (Some disk) = device disk

-- how many atoms of a main disk are used behind a head: those that lie below 2^63 bytes
abbrev pub used_atoms : ℕ → ℕ → ℕ → ℕ
used_atoms size head main = min main ((2 ^ 63 - 1) / size - head)

-- the head and the main disk as they were when they were joined and as they are, how many atoms of
-- the main disk are used, and how many calls there were
pub record Joint : Type 0 where
  pub head_was : Device
  pub main_was : Device
  pub head : Device
  pub main : Device
  pub used : ℕ
  pub calls : ℕ

-- the last count of calls, from which on nothing is told
abbrev pub last_call : ℕ
last_call = 2 ^ 64 - 1

-- a call has this number
abbrev pub is_marked : ℕ → Option ℕ → Bool
is_marked number None = false
is_marked number (Some mark) = mark == number

-- a call came behind the call of this number
abbrev pub is_later : ℕ → Option ℕ → Bool
is_later number None = false
is_later number (Some mark) = nat_lt number mark

-- whether one of the calls has this number
unfoldable pub has_call : ℕ → List (Option ℕ × List Cell) → Bool
has_call number [] = false
has_call number (call ∷ calls) = is_marked number call.0 || has_call number calls

-- a disk's table after its calls up to the one of this number, given the table before them
unfoldable pub table_by : ℕ → List Cell → List (Option ℕ × List Cell) → List Cell
table_by number before [] = before
table_by number before (call ∷ calls) =
    table_by number (if is_later number call.0 then before else call.1) calls

-- a disk's calls since it was joined
abbrev pub since : Told → Told → List (Option ℕ × List Cell)
since was now = drop (length was.past) now.past

-- the tables of both disks, one behind the other
abbrev pub both_tables : ℕ → List Cell → List Cell → List Cell
both_tables used head main = head ++ take used main

-- The tables after each of the first `n` calls: the two disks' tables stand in the order of the
-- calls' numbers, and a call that neither disk made left no table.
unfoldable pub tables_of_both : ℕ → Told → Told → Told → Told → ℕ → List (Option ℕ × List Cell)
tables_of_both used head_was head main_was main zero = []
tables_of_both used head_was head main_was main (suc n) =
    tables_of_both used head_was head main_was main n
    ++ (if has_call n (since head_was head) || has_call n (since main_was main)
    then (
      None,
      both_tables used (table_by n head_was.now (since head_was head))
          (table_by n main_was.now (since main_was main)),
    ) ∷ []
    else [])

-- what both disks tell as one, which keeps no marks of its own
abbrev pub told_by_both : ℕ → ℕ → Told → Told → Told → Told → Told
told_by_both used calls head_was head main_was main = record {
  now = both_tables used head.now main.now;
  past = tables_of_both used head_was head main_was main calls;
  mark = None;
}

-- what a disk tells with marks
abbrev pub told_with_mark : Told → Option ℕ → Option Told
told_with_mark told None = None
told_with_mark told (Some mark) = Some told

abbrev pub with_marks : Option Told → Option Told
with_marks None = None
with_marks (Some told) = told_with_mark told told.mark

-- both tell what they were and are, the latter with marks
abbrev pub told_of : ℕ → ℕ → Option Told → Option Told → Option Told → Option Told → Option Told
told_of used calls (Some head_was) (Some head) (Some main_was) (Some main) =
    Some (told_by_both used calls head_was head main_was main)
told_of used calls _ _ _ _ = None

-- both disks of two tell the tables as long as both tell theirs with marks and the count isn't full
abbrev pub joint_told : Joint → Option Told
joint_told joint =
    if nat_lt joint.calls last_call
    then told_of joint.used joint.calls joint.head_was.told (with_marks joint.head.told)
    joint.main_was.told (with_marks joint.main.told)
    else None

-- what a disk tells of its first `used` atoms: its tables, each cut there, and its marks
abbrev pub told_of_used : ℕ → Told → Told
told_of_used used told = record {
  now = take used told.now;
  past = map (λ call. (call.0, take used call.1)) told.past;
  mark = told.mark;
}

-- what is told behind a head without atoms, where the head tells its bytes, of which there are none:
-- what the main disk tells of the atoms that are used
abbrev pub told_by_main : ℕ → Option (List ℕ) → Option Told → Option Told
told_by_main used None main = None
told_by_main used (Some none) main = option_map (told_of_used used) main

-- a disk of two tells its tables: by both disks, or by the main disk alone where the head has no
-- atoms
abbrev pub shown_told : Joint → Option Told
shown_told joint =
    if joint.head.atoms == 0 then told_by_main joint.used joint.head.values joint.main.told
    else joint_told joint

-- the current bytes of both, where both tell them
abbrev pub both_values : ℕ → Option (List ℕ) → Option (List ℕ) → Option (List ℕ)
both_values len (Some head) (Some main) = Some (head ++ take len main)
both_values len _ _ = None

-- the faults of both, whose count stands still at its last value
abbrev pub both_faults : ℕ → ℕ → ℕ
both_faults head main = min (head + main) (2 ^ 64 - 1)

-- a disk of two that tells so: the atoms of the head, and behind them those of the main disk that
-- are used; its end is that of the main disk
abbrev pub joined_telling : Joint → Option Told → Device
joined_telling joint told = record {
  size = joint.main.size;
  atoms = joint.head.atoms + joint.used;
  tail = joint.main.tail;
  values = both_values (joint.used * joint.main.size) joint.head.values joint.main.values;
  told = told;
  faults = both_faults joint.head.faults joint.main.faults;
}

-- what a disk of two shows
abbrev pub joined_disk : Joint → Device
joined_disk joint = joined_telling joint (shown_told joint)

-- a mark is the main disk's where the head has no atoms, and else it is none
abbrev pub marked_joint : Joint → ℕ → Joint
marked_joint joint number =
    if joint.head.atoms == 0 then record joint { main = marked joint.main number } else joint

-- of disks that are joined now
abbrev pub begun_joint : Device → Device → Joint
begun_joint head main = record {
  head_was = head;
  main_was = main;
  head = head;
  main = main;
  used = used_atoms main.size head.atoms main.atoms;
  calls = 0;
}

-- the disks of a disk of two, by the fields that keep them
abbrev pub joint_of : {D : Type 0} → (D → Device) → ℕ → Option D → D → Option D → D → ℕ → ℕ → Joint
joint_of device size head_was main_was head main used calls = record {
  head_was = in_front device size head_was;
  main_was = device main_was;
  head = in_front device size head;
  main = device main;
  used = used;
  calls = calls;
}

-- what keeps both disks' tables in one order: until the count is full, no call since a disk was
-- joined has a number from `calls` on, so up to any of these its table is the current one
abbrev pub Follows : ℕ → Option Told → Option Told → Type 0
Follows calls was now =
    calls < last_call → (before told : Told) → was ≡ Some before → with_marks now ≡ Some told →
    (length before.past ≤ length told.past)
    × ((number : ℕ) → calls ≤ number → (has_call number (since before told) ≡ false)
    × (table_by number before.now (since before told) ≡ told.now))
