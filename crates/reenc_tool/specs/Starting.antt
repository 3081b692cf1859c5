-- What `init` did.
use Rattle.std.specs.Prelude.{ℕ, ◌≡◌, ◌⊎◌, List, [], ◌∷◌, ◌++◌, codes, Option, Some, None}
use Rattle.command_line.specs.Starts.{Starting, guard_name}
use Rattle.command_line.specs.declared.starting.Guard.{Guard as NamedGuard}
use Rattle.command_line.specs.declared.starting.Guard.TheVariants as named
use Rattle.luks_init.specs.DiskInit.Answers.{IsStartedBy, IsUnstartedBy}
use Rattle.luks_init.specs.declared.init_disk.refusal.Refusal.{Refusal}
use Rattle.luks_init.specs.declared.init_disk.refusal.Refusal.TheVariants as starts
use Rattle.io_edge.specs.Supply.{Supply}
use Rattle.luks_init.specs.declared.wish.Guard.{Guard}
use Rattle.luks_init.specs.declared.wish.Guard.TheVariants.{Journal, Checksum}
use Rattle.luks_init.specs.declared.wish.Wish.{Wish}
use Rattle.luks_meta.specs.Reencrypts.{direction_name}
use Rattle.sector_disk.specs.Devices.{Device as DiskState}
use Rattle.reenc_tool.specs.declared.ended.Cause.TheVariants.{Fine, Memory}
use Rattle.reenc_tool.specs.declared.volume_refusal.VolumeRefusal.{VolumeRefusal}
use Rattle.reenc_tool.specs.declared.volume_refusal.VolumeRefusal.TheVariants.{Opening, Keyslots}
use Rattle.reenc_tool.specs.Asking.{BayView, Gives, UnderKey, disk_named}
use Rattle.reenc_tool.specs.Making.{HasNoSeed, HasSeed}
use Rattle.reenc_tool.specs.Outcomes.{EndsSilently, Outcome, ended_refused, ended_with}
use Rattle.reenc_tool.specs.Status.{cause_of_start}

-- what the words name is what keeps zones safe
abbrev pub guard_of : NamedGuard → Guard
guard_of named.Journal = Journal
guard_of named.Checksum = Checksum

-- what the words wish of a conversion
abbrev pub wish_of : Starting → Wish
wish_of words = record {
  cipher = words.segment.cipher;
  key_size = words.segment.key_size;
  sector_size = words.segment.sector_size;
  iterations = words.segment.iterations;
  direction = words.direction;
  resilience = guard_of words.resilience;
  hotzone_size = words.hotzone_size;
  drop_keyslots = words.drop_keyslots;
}

-- the line of a conversion that was begun
abbrev pub started_line : Starting → List ℕ
started_line words = codes "started reencrypt " ++ (direction_name words.direction
    ++ (codes " " ++ (guard_name words.resilience ++ 10 ∷ [])))

-- ---- the volume
-- The conversion of the disk's volume was begun under the passphrase, and the disk is handed back.
-- Where it tells what it holds, each image that a stop could leave, from the first sync on, in which
-- no torn copy of a header is valid and none stands in front of the second one, stands for what the
-- disk's bytes stood for, and now all of it is still to be converted.
pub record IsStarted {D L : Type 0} (device : D → DiskState) (words : Starting)
    (pass seed : List ℕ) (disk : D) (outcome : Outcome D L) (report : Option (List ℕ)) : Type 0
  where
    pub back : D
    pub started : IsStartedBy device disk (wish_of words) pass seed back
    pub outcome_is : outcome ≡ ended_with Fine (Some back) None
    pub report_is : report ≡ Some (started_line words)

-- why no volume was opened, or which keyslots would go, where that is why no conversion was begun
abbrev pub opening_refusal : Refusal → Option VolumeRefusal
opening_refusal (starts.Unopened refusal) = Some (Opening refusal)
opening_refusal (starts.Keyslots list) = Some (Keyslots list)
opening_refusal _ = None

-- None was begun, for this refusal, and the disk is handed back. Unless one of its calls failed it
-- holds what it held; else, from the first sync on, it is as a stop may leave it.
pub record IsUnstarted {D L : Type 0} (device : D → DiskState) (words : Starting)
    (pass seed : List ℕ) (disk : D) (outcome : Outcome D L) (report : Option (List ℕ)) : Type 0
  where
    pub refusal : Refusal
    pub back : D
    pub refused : IsUnstartedBy device disk (wish_of words) pass seed refusal back
    pub outcome_is : outcome
        ≡ ended_refused (cause_of_start refusal (device back).faults) (opening_refusal refusal) None
        back
    pub report_is : report ≡ None

-- what came of a disk whose volume was to be converted; where memory was wanted for what is to be
-- said, the disk is as it was
abbrev pub ComesToStart : {D L : Type 0} → (D → DiskState) → Starting → List ℕ → List ℕ → D →
    Outcome D L → Option (List ℕ) → Type 0
ComesToStart device words pass seed disk outcome report =
    IsStarted device words pass seed disk outcome report
    ⊎ IsUnstarted device words pass seed disk outcome report
    ⊎ EndsSilently (Some disk) None outcome report Memory

-- ---- the bay
-- What `init` did: it drew its bytes, and asked for the disk and for the key file; each where all
-- before was given.
abbrev pub HasStarted : {B D L : Type 0} → BayView B D L → Starting → Supply → Supply → B → B
    → Outcome D L → Option (List ℕ) → Type 0
HasStarted bay words supply now old new outcome report =
    ((report ≡ None) × HasNoSeed supply now old new outcome)
    ⊎ ((seed : List ℕ) × HasSeed supply now seed
    × Gives bay (disk_named bay words.disk words.atom) old new
    (λ disk between. UnderKey bay words.key_file disk None between new outcome report
    (λ pass. ComesToStart bay.device words pass seed disk outcome report))
    (EndsSilently None None outcome report))
