-- What a commit and a repair hold, as their callers name it.
use Rattle.std.specs.Prelude.{ℕ, List}
use Rattle.luks_store.specs.declared.header_copies.commit.Commit.{Commit}
use Rattle.luks_store.specs.declared.header_copies.commit.Stage.{Stage}
use Rattle.luks_store.specs.declared.header_copies.repair.Repair.{Repair}
use Rattle.luks_store.specs.declared.header_copies.repair.RepairStage.{RepairStage}

-- the bytes of a commit's copies, their size, and how far their writing is
abbrev pub primary_of : Commit → List ℕ
primary_of commit = commit.first

abbrev pub secondary_of : Commit → List ℕ
secondary_of commit = commit.second

abbrev pub size_in_bytes : Commit → ℕ
size_in_bytes commit = commit.size

abbrev pub stage_in : Commit → Stage
stage_in commit = commit.stage

-- the bytes of the copy that a repair writes, the byte of the disk where, and how far this is
abbrev pub copy_in : Repair → List ℕ
copy_in repair = repair.copy

abbrev pub place_in : Repair → ℕ
place_in repair = repair.place

abbrev pub repair_stage_in : Repair → RepairStage
repair_stage_in repair = repair.stage
