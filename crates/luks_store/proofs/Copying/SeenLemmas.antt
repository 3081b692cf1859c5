-- Lemmas on the device calls of commits and repairs, as they move what the disk shows.
use Rattle.std.proofs.Common.{◌≡◌, ℕ, ◌+◌, ◌*◌, ◌/◌, ◌<◌, ◌≤◌, List, length, Some, Result, sym, ◌∙◌}
use Rattle.std.proofs.Common.{ap, subst, arith}
use Rattle.std.proofs.Math.Nat.{mul-div_cancel}
use Rattle.base_terms.specs.declared.failed.Failed.{Failed}
use Rattle.crash_laws.specs.HeaderAreas.Commits.{CommitCall, CommitFails}
use Rattle.crash_laws.specs.HeaderAreas.Headers.{Copy, primary, secondary, byte_of, text_of, Layout, place_of}
use Rattle.sector_disk.proofs.DiskViews.DeviceViews.{TurnsTable, places_of_atoms, table-written, table-tried}
use Rattle.sector_disk.proofs.DiskViews.DeviceViews.{table-synced, table-thinned}
use Rattle.sector_disk.specs.DiskViews.Views.{View, view_of_cells, IsWritten, IsTried}
use Rattle.luks_store.specs.Copying.Meanings.{header_of}
use Rattle.luks_store.specs.Copying.Seen.{HasRoomFor, stage_of}
use Rattle.luks_store.specs.Copying.Steps.{CopyCall}
use Rattle.luks_store.specs.declared.header_copies.commit.Stage.{Stage}
use Rattle.luks_store.specs.declared.header_copies.commit.Stage.TheVariants.{Begun, FirstWritten, FirstKept}
use Rattle.luks_store.specs.declared.header_copies.commit.Stage.TheVariants.{SecondWritten, Ended}
use Rattle.sector_disk.specs.Devices.{Device, WriteCall, succeeded, failed_call}
use Rattle.sector_disk.specs.Steps.{Told}

-- a call as it is seen
abbrev pub Seen : Device → Told → (View → View → Type 0) → Type 0
Seen old now Step =
    (before : Told) × (old.told ≡ Some before)
    × Step (view_of_cells before.now) (view_of_cells now.now)

pub seen : (old : Device) (now : Told) (Step : View → View → Type 0) → TurnsTable old now Step
    → Seen old now Step
seen old now Step turns = (turns.before, turns.told, turns.step)

-- where a copy starts, and how long it is
start_of : (old : Device) (size : ℕ) (one two : List ℕ) (layout : Layout) (copy : Copy)
    → HasRoomFor size one two layout old
    → byte_of size copy / old.size ≡ (place_of layout copy).start
start_of old size one two layout primary room =
    ap (λ n. n / old.size) (let e : 0 ≡ 0 * old.size = omega arith in e)
    ∙ mul-div_cancel 0 room.some ∙ sym room.laid.first
start_of old size one two layout secondary room =
    ap (λ n. n / old.size) (sym room.laid.long) ∙ mul-div_cancel layout.first.count room.some
    ∙ sym room.laid.second

long_of : (old : Device) (size : ℕ) (one two : List ℕ) (layout : Layout) (copy : Copy)
    → HasRoomFor size one two layout old
    → length (text_of (header_of one two) copy) ≡ (place_of layout copy).count * old.size
long_of old size one two layout primary room = room.first ∙ sym room.laid.long
long_of old size one two layout secondary room =
    room.second ∙ sym room.laid.long ∙ ap (λ n. n * old.size) (sym room.laid.same)

within_of : (old : Device) (size : ℕ) (one two : List ℕ) (layout : Layout) (copy : Copy)
    → HasRoomFor size one two layout old
    → (place_of layout copy).start + (place_of layout copy).count ≤ old.atoms
within_of old size one two layout primary room =
    let laid = room.laid in omega (arith, laid.first, laid.second, laid.within)
within_of old size one two layout secondary room = room.laid.within

-- a write of a copy
pub copy_written : (old new : Device) (now : Told) (size : ℕ) (one two : List ℕ) (layout : Layout)
    (copy : Copy)
    → HasRoomFor size one two layout old → new.told ≡ Some now
    → WriteCall old.size (byte_of size copy / old.size) (text_of (header_of one two) copy) old new
    succeeded
    → Seen old now
    (IsWritten old.size (place_of layout copy).start (place_of layout copy).count
    (text_of (header_of one two) copy))
copy_written old new now size one two layout copy room told call = seen old now _
    (table-written old.size (place_of layout copy).start (place_of layout copy).count
    (text_of (header_of one two) copy) old new now
    (subst (λ at. WriteCall old.size at (text_of (header_of one two) copy) old new succeeded)
    (start_of old size one two layout copy room) call) told room.some
    (long_of old size one two layout copy room)
    (places_of_atoms old old.atoms (place_of layout copy).start (place_of layout copy).count
    room.even
    (within_of old size one two layout copy room)))

pub copy_tried : (old new : Device) (now : Told) (size : ℕ) (one two : List ℕ) (layout : Layout)
    (copy : Copy)
    → HasRoomFor size one two layout old → new.told ≡ Some now
    → WriteCall old.size (byte_of size copy / old.size) (text_of (header_of one two) copy) old new
    failed_call
    → Seen old now
    (IsTried old.size (place_of layout copy).start (place_of layout copy).count
    (text_of (header_of one two) copy))
copy_tried old new now size one two layout copy room told call = seen old now _
    (table-tried old.size (place_of layout copy).start (place_of layout copy).count
    (text_of (header_of one two) copy) old new now
    (subst (λ at. WriteCall old.size at (text_of (header_of one two) copy) old new failed_call)
    (start_of old size one two layout copy room) call) told room.some
    (long_of old size one two layout copy room))

-- the primary's place
at_front : (old new : Device) (one : List ℕ) (result : Result (Unit {0}) Failed) → 0 < old.size
    → WriteCall old.size 0 one old new result
    → WriteCall old.size (0 / old.size) one old new result
at_front old new one result some call = subst (λ at. WriteCall old.size at one old new result)
    (sym (ap (λ n. n / old.size) (let e : 0 ≡ 0 * old.size = omega arith in e)
    ∙ mul-div_cancel 0 some)) call

pub call_seen : (stage : Stage) (one two : List ℕ) (size : ℕ) (layout : Layout) (old new : Device)
    (now : Told)
    → HasRoomFor size one two layout old → new.told ≡ Some now
    → CopyCall stage one two size old new succeeded
    → Seen old now (CommitCall old.size layout (header_of one two) (stage_of stage))
call_seen Begun one two size layout old new now room told call =
    copy_written old new now size one two layout primary room told
    (at_front old new one _ room.some call)
call_seen FirstWritten one two size layout old new now room told call =
    seen old now _ (table-synced old new now call told)
call_seen FirstKept one two size layout old new now room told call =
    copy_written old new now size one two layout secondary room told call
call_seen SecondWritten one two size layout old new now room told call =
    seen old now _ (table-synced old new now call told)
call_seen Ended one two size layout old new now room told call = absurd call

pub failed_seen : (stage : Stage) (one two : List ℕ) (size : ℕ) (layout : Layout) (old new : Device)
    (now : Told)
    → HasRoomFor size one two layout old → new.told ≡ Some now
    → CopyCall stage one two size old new failed_call
    → Seen old now (CommitFails old.size layout (header_of one two) (stage_of stage))
failed_seen Begun one two size layout old new now room told call =
    copy_tried old new now size one two layout primary room told
    (at_front old new one _ room.some call)
failed_seen FirstWritten one two size layout old new now room told call =
    seen old now _ (table-thinned old new now call told)
failed_seen FirstKept one two size layout old new now room told call =
    copy_tried old new now size one two layout secondary room told call
failed_seen SecondWritten one two size layout old new now room told call =
    seen old now _ (table-thinned old new now call told)
failed_seen Ended one two size layout old new now room told call = absurd call
