-- What `format` did.
use Rattle.std.specs.Prelude.{ℕ, ◌≡◌, ◌⊎◌, ◌≤◌, List, [], ◌∷◌, ◌++◌, length, codes}
use Rattle.std.specs.Prelude.{true, Option, Some, None, is_some, Result, Ok, Err}
use Rattle.base_terms.specs.Causes.{HasCause}
use Rattle.base_terms.specs.declared.failed.Failed.{Failed}
use Rattle.command_line.specs.Commands.{asked, formats, starts}
use Rattle.command_line.specs.Formats.{Formatting}
use Rattle.command_line.specs.Starts.{Starting}
use Rattle.luks_format.specs.DiskFormat.Calls.{WritesVolume}
use Rattle.luks_format.specs.DiskFormat.Fitting.{IsUnfit, draw_of}
use Rattle.luks_format.specs.DiskFormat.Rests.{KeepsFrom, end_of_front, front_room}
use Rattle.luks_format.specs.DiskFormat.Volumes.{IsNewVolume}
use Rattle.luks_format.specs.DiskFormat.Written.{written_over}
use Rattle.luks_format.specs.declared.format_disk.fault.FormatFault.{FormatFault}
use Rattle.luks_format.specs.declared.format_disk.volume.NewVolume.{NewVolume}
use Rattle.header_report.specs.Examinations.{sizes_alone}
use Rattle.base_terms.specs.declared.disk_sizes.Sizes.{Sizes}
use Rattle.io_edge.specs.Supply.{Draws, Supply}
use Rattle.sector_disk.specs.JoinedDisks.Joined.{Joint, begun_joint, joined_disk, used_atoms}
use Rattle.luks_format.specs.declared.wish.Wish.{Wish}
use Rattle.image_laws.specs.Made.Standing.{content_of}
use Rattle.reenc_recovery.specs.Images.{StandsFor}
use Rattle.reenc_recovery.specs.Placings.{RestsIn}
use Rattle.sector_disk.specs.Devices.{Device as DiskState, failed_call, succeeded}
use Rattle.uuid.specs.Text.{hyphenated_text, lower}
use Rattle.volume_opening.specs.Refusals.{AreOf}
use Rattle.reenc_tool.specs.declared.ended.Cause.{Cause}
use Rattle.reenc_tool.specs.declared.ended.Cause.TheVariants.{Device, Fine, Seeds}
use Rattle.reenc_tool.specs.declared.ended.Failing.TheVariants.{Writing}
use Rattle.reenc_tool.specs.Asking.{BayView, Gives, UnderKey, disk_named}
use Rattle.reenc_tool.specs.Outcomes.{EndsSilently, Outcome, ended_with}
use Rattle.reenc_tool.specs.Status.{cause_of_format}

-- what the words wish of a new volume
abbrev pub wish_of : Formatting → Wish
wish_of words = record {
  cipher = words.segment.cipher;
  key_size = words.segment.key_size;
  sector_size = words.segment.sector_size;
  data_offset = words.data_offset;
  iterations = words.segment.iterations;
  metadata_size = words.metadata_size;
  identifier = words.identifier;
  detached = is_some words.header;
}

-- the line of a volume that was made, by its identifier
abbrev pub formatted_line : List ℕ → List ℕ
formatted_line identifier =
    codes "formatted " ++ (hyphenated_text lower identifier ++ 10 ∷ [])

-- ---- the random bytes
-- The seeds were asked once, for 32 bytes, and gave these.
pub record HasSeed (old new : Supply) (seed : List ℕ) : Type 0 where
  pub whole : length seed ≡ 32
  pub draws : Draws old new seed succeeded
  pub count : HasCause old.faults new.faults succeeded

-- They gave none, which comes before the bay is asked for anything: their count of faults rose,
-- which the cause keeps.
pub record HasNoSeed {B D L : Type 0} (supply now : Supply) (old new : B) (outcome : Outcome D L) :
    Type 0 where
  pub unused : List ℕ
  pub draws : Draws supply now unused failed_call
  pub count : HasCause supply.faults now.faults failed_call
  pub stands : new ≡ old
  pub outcome_is : outcome ≡ ended_with (Seeds now.faults) None None

-- ---- the volume
-- No volume was made: memory was wanted, or it is the first that doesn't fit. The disk is as it was.
pub record IsUnmade {X : Type 0} (device : X → DiskState) (wish : Wish) (sizes : Sizes)
    (pass seed : List ℕ) (disk back : X) (cause : Cause) (report : Option (List ℕ)) : Type 0 where
  pub fault : FormatFault
  pub unfit : IsUnfit wish sizes pass seed fault
  pub stands : back ≡ disk
  pub cause_is : cause ≡ cause_of_format fault
  pub report_is : report ≡ None

-- how the device calls ended, of which so many had failed then: all of it is written, or the last
-- one failed; and what is said
abbrev pub cause_of_writing : Result (Unit {0}) Failed → ℕ → Cause
cause_of_writing (Ok done) faults = Fine
cause_of_writing (Err failed) faults = Device Writing faults

abbrev pub report_of_writing : Result (Unit {0}) Failed → List ℕ → Option (List ℕ)
report_of_writing (Ok done) identifier = Some (formatted_line identifier)
report_of_writing (Err failed) identifier = None

-- A volume was made and written, or its writing ended by a device call that failed. Its header and
-- its keyslot's area end in front of the data, and whatever the calls answered, all behind them is
-- what it was. Where all succeeded, and the disk told what it held, it now holds the volume over
-- that, which stands under the passphrase for what the new key unseals from what was held, and by
-- whose header nothing is being converted.
pub record IsMade {X : Type 0} (device : X → DiskState) (wish : Wish) (sizes : Sizes)
    (pass seed : List ℕ) (disk back : X) (cause : Cause) (report : Option (List ℕ)) : Type 0 where
  pub volume : NewVolume
  pub is : IsNewVolume wish sizes pass seed volume
  pub result : Result (Unit {0}) Failed
  pub writes : WritesVolume volume (device disk) (device back) result
  pub before : end_of_front volume ≤ front_room wish sizes
  pub keeps : KeepsFrom (end_of_front volume) (device disk) (device back)
  pub written : result ≡ succeeded → (bytes : List ℕ) → (device disk).values ≡ Some bytes →
      ((device back).values ≡ Some (written_over volume bytes))
      × StandsFor sizes pass (written_over volume bytes)
      (content_of wish sizes (draw_of wish seed).key bytes)
      × RestsIn sizes (written_over volume bytes)
  pub cause_is : cause ≡ cause_of_writing result (device back).faults
  pub report_is : report ≡ report_of_writing result volume.identifier

-- what came of a disk of these sizes that was told to have a new volume
abbrev pub ComesTo : {X : Type 0} → (X → DiskState) → Wish → Sizes → List ℕ → List ℕ → X → X →
    Cause → Option (List ℕ) → Type 0
ComesTo device wish sizes pass seed disk back cause report =
    IsMade device wish sizes pass seed disk back cause report
    ⊎ IsUnmade device wish sizes pass seed disk back cause report

-- ---- its disks
-- The header lies on the disk of the data, which is handed back.
pub record IsOnOne {D L : Type 0} (device : D → DiskState) (wish : Wish) (pass seed : List ℕ)
    (disk : D) (outcome : Outcome D L) (report : Option (List ℕ)) : Type 0 where
  pub back : D
  pub came : ComesTo device wish (sizes_alone (device disk)) pass seed disk back outcome.cause
      report
  pub outcome_is : outcome ≡ ended_with outcome.cause (Some back) None

-- the sizes of a header's disk that is one of its own and of the disk behind it
abbrev pub sizes_behind : DiskState → DiskState → Sizes
sizes_behind head disk = record {
  atom = disk.size;
  header_atoms = head.atoms;
  main_atoms = used_atoms disk.size head.atoms disk.atoms;
  detached = true;
}

-- The header lies on a disk of its own: both disks were one, the header's in front, so that the
-- data's is all behind what is written. Both are handed back.
pub record IsOnTwo {D L : Type 0} (device : D → DiskState) (wish : Wish) (pass seed : List ℕ)
    (head disk : D) (outcome : Outcome D L) (report : Option (List ℕ)) : Type 0 where
  pub header : Option D
  pub back : D
  pub joint : Joint
  pub are : AreOf device joint header back
  pub came : ComesTo joined_disk wish (sizes_behind (device head) (device disk)) pass seed
      (begun_joint (device head) (device disk)) joint outcome.cause report
  pub outcome_is : outcome ≡ ended_with outcome.cause (Some back) header

-- by the disk of the header, where that is one of its own
abbrev pub IsOn : {D L : Type 0} → (D → DiskState) → Wish → List ℕ → List ℕ → Option D → D →
    Outcome D L → Option (List ℕ) → Type 0
IsOn device wish pass seed None disk outcome report =
    IsOnOne device wish pass seed disk outcome report
IsOn device wish pass seed (Some head) disk outcome report =
    IsOnTwo device wish pass seed head disk outcome report

-- ---- the bay
-- The disk of the header was asked for, where the words name one, and then the key file.
abbrev pub MakesBehind : {B D L : Type 0} → BayView B D L → Formatting → List ℕ → Option (List ℕ)
    → D → B → B → Outcome D L → Option (List ℕ) → Type 0
MakesBehind bay format seed None disk between new outcome report =
    UnderKey bay format.key_file disk None between new outcome report
    (λ pass. IsOnOne bay.device (wish_of format) pass seed disk outcome report)
MakesBehind bay format seed (Some name) disk between new outcome report =
    Gives bay (disk_named bay name format.atom) between new
    (λ head after. UnderKey bay format.key_file disk (Some head) after new outcome report
    (λ pass. IsOnTwo bay.device (wish_of format) pass seed head disk outcome report))
    (EndsSilently (Some disk) None outcome report)

-- What `format` did: it drew its bytes, and asked for the disk, for that of the header and for the
-- key file; each where all before was given.
abbrev pub HasMade : {B D L : Type 0} → BayView B D L → Formatting → Supply → Supply → B → B
    → Outcome D L → Option (List ℕ) → Type 0
HasMade bay format supply now old new outcome report =
    ((report ≡ None) × HasNoSeed supply now old new outcome)
    ⊎ ((seed : List ℕ) × HasSeed supply now seed
    × Gives bay (disk_named bay format.disk format.atom) old new
    (λ disk between. MakesBehind bay format seed format.header disk between new outcome report)
    (EndsSilently None None outcome report))

-- no command but `format` and `init` draws
abbrev pub DrawsNone : {R : Type 0} → List (List ℕ) → R → R → Type 0
DrawsNone words old new =
    ((format : Formatting) → asked words ≡ Some (formats format) → ⊥) →
    ((start : Starting) → asked words ≡ Some (starts start) → ⊥) → new ≡ old
