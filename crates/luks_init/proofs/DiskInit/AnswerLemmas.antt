-- What is answered to the one who has a conversion begun on a disk.
use Rattle.std.proofs.Common.{◌≡◌, ◌∙◌, ℕ, ◌*◌, false, List, length, Option, Some}
use Rattle.std.proofs.Common.{Ok, Result, subst}
use Rattle.base_terms.specs.declared.failed.Failed.{Failed}
use Rattle.base_terms.specs.declared.disk_sizes.Sizes.{Sizes}
use Rattle.header_report.proofs.ExamineLemmas.{whole_front}
use Rattle.header_report.specs.Examinations.{sizes_alone}
use Rattle.luks_init.proofs.DiskInit.ThroughoutLemmas.{throughout}
use Rattle.luks_init.specs.DiskInit.Answers.{IsBegunUnder, IsUnopenedUnder, IsUnreadyUnder}
use Rattle.luks_init.specs.DiskInit.Answers.{IsUnstartedBy}
use Rattle.luks_init.specs.DiskInit.Calls.{IsBegunOf, IsUnbegunOf, IsUnopenedOf, IsUnreadyOf}
use Rattle.luks_init.specs.DiskInit.Unlocking.{IsLockedBy, IsNotLinear, IsUnlockedOn, is_linear}
use Rattle.luks_init.specs.declared.init_disk.refusal.Refusal.{Refusal}
use Rattle.luks_init.specs.declared.init_disk.refusal.Refusal.TheVariants as refusals
use Rattle.luks_init.specs.declared.wish.Wish.{Wish}
use Rattle.luks_store.specs.Devices.{KeepsBytes}
use Rattle.luks_store.specs.Loads.{stored_in}
use Rattle.luks_store.specs.declared.loaded.Stored.{Stored}
use Rattle.reenc_recovery.specs.Causes.{IsCauseIn}
use Rattle.reenc_recovery.specs.declared.fault.OpenCause.{OpenCause}
use Rattle.sector_disk.specs.Cells.{content}
use Rattle.sector_disk.specs.Devices.{Device, failed_call}
use Rattle.sector_disk.specs.Steps.{Told}
use Rattle.volume_opening.proofs.OpenedLemmas.{refused_key, same_sizes, same_stored, under_key}
use Rattle.volume_opening.proofs.ReadLemmas.{keeps_on}
use Rattle.volume_opening.proofs.ShortLemmas.{short_under}
use Rattle.volume_opening.specs.Openings.{IsFound, IsKeyFound}
use Rattle.volume_opening.specs.Refusals.{IsNoKeyFound}
use Rattle.volume_opening.specs.declared.refusal.Refusal.{Refusal as Unopened}
use Rattle.volume_opening.specs.declared.refusal.Refusal.TheVariants as openings

-- ---- a volume that is encrypted
not_linear : (device : Device) (stored : Stored) → IsFound device stored
    → is_linear stored ≡ false → (first : List ℕ) (other : Stored) → device.values ≡ Some first
    → stored_in (sizes_alone device) first ≡ Ok other → is_linear other ≡ false
not_linear device stored found is first other told held =
    subst (λ (s : Stored). is_linear s ≡ false)
    (same_stored (stored_in (sizes_alone device) first) stored other (found.held first told) held)
    is

pub tested_behind : (device : Device) (stored : Stored) → IsFound device stored
    → is_linear stored ≡ false → (refusal : Unopened) → IsNotLinear device refusal
tested_behind device stored found is (openings.Header fault) = tt
tested_behind device stored found is openings.InProgress = not_linear device stored found is
tested_behind device stored found is (openings.Passphrase count) =
    not_linear device stored found is
tested_behind device stored found is (openings.Slots fault) = not_linear device stored found is
tested_behind device stored found is (openings.Opening cause) = not_linear device stored found is

-- ---- the header and the key
pub unlocked_on : (device read read' : Device) (pass : List ℕ) (stored : Stored)
    (key : Option (List ℕ)) → KeepsBytes device read → IsFound device stored
    → is_linear stored ≡ false → KeepsBytes read read'
    → IsKeyFound stored.valid.meta stored.valid.sizes pass read.values key
    → IsUnlockedOn device pass key read'
unlocked_on device read read' pass stored key header_read found is slots_read key_found = record {
  unwritten = keeps_on device read read' header_read slots_read;
  stored = stored;
  encrypted = is;
  under = under_key device read stored pass key header_read found key_found;
}

pub locked_by : {D : Type 0} (device : D → Device) (disk back : D) (pass : List ℕ)
    (refusal : Unopened) (stored : Stored) (read : Device) → IsFound (device disk) stored
    → is_linear stored ≡ false → KeepsBytes (device disk) read → KeepsBytes read (device back)
    → IsNoKeyFound stored.valid.meta stored.valid.sizes pass read (device back) refusal
    → IsLockedBy device disk pass (refusals.Unopened refusal) back
locked_by device disk back pass (openings.Header fault) stored read found is one two none =
    absurd none
locked_by device disk back pass (openings.Opening cause) stored read found is one two none =
    absurd none
locked_by device disk back pass openings.InProgress stored read found is one two none = (
  refused_key device disk back pass openings.InProgress stored read found one two none,
  tested_behind (device disk) stored found is openings.InProgress,
)
locked_by device disk back pass (openings.Passphrase count) stored read found is one two none = (
  refused_key device disk back pass (openings.Passphrase count) stored read found one two none,
  tested_behind (device disk) stored found is (openings.Passphrase count),
)
locked_by device disk back pass (openings.Slots fault) stored read found is one two none = (
  refused_key device disk back pass (openings.Slots fault) stored read found one two none,
  tested_behind (device disk) stored found is (openings.Slots fault),
)

-- no header and no key, as they are answered
pub locked_so : {D : Type 0} (device : D → Device) (disk back : D) (w : Wish)
    (pass seed : List ℕ) (refusal : Refusal) → IsLockedBy device disk pass refusal back
    → IsUnstartedBy device disk w pass seed refusal back
locked_so device disk back w pass seed (refusals.Unopened (openings.Opening cause)) is = absurd is
locked_so device disk back w pass seed (refusals.Unopened (openings.Header fault)) is = is
locked_so device disk back w pass seed (refusals.Unopened openings.InProgress) is = is
locked_so device disk back w pass seed (refusals.Unopened (openings.Passphrase count)) is = is
locked_so device disk back w pass seed (refusals.Unopened (openings.Slots fault)) is = is
locked_so device disk back w pass seed refusals.Linear is = is
locked_so device disk back w pass seed refusals.Memory is = absurd is
locked_so device disk back w pass seed (refusals.Keyslots list) is = absurd is
locked_so device disk back w pass seed (refusals.Tail bytes) is = absurd is
locked_so device disk back w pass seed (refusals.Unmade fault) is = absurd is
locked_so device disk back w pass seed refusals.Writing is = absurd is

-- ---- behind them
module _ (device read : Device) (w : Wish) (pass seed : List ℕ) (key : Option (List ℕ))
    (unlocked : IsUnlockedOn device pass key read)
    (long : (all : List ℕ) → device.values ≡ Some all
    → length all ≡ device.atoms * device.size)
    (agrees : (told : Told) → device.told ≡ Some told → device.values ≡ Some (content told.now))
  where
    sizes_same : sizes_alone read ≡ sizes_alone device
    sizes_same = same_sizes device read unlocked.unwritten

    pub begun_under : (back : Device) (result : Result (Unit {0}) Failed)
        → IsBegunOf (sizes_alone read) key w pass seed read back result
        → IsBegunUnder device w pass seed back result
    begun_under back result is_read =
        let is = subst (λ (z : Sizes). IsBegunOf z key w pass seed read back result) sizes_same
        is_read in
        record {
          key = key;
          read = read;
          unlocked = unlocked;
          begun = is;
          tables = λ first told.
              throughout (sizes_alone device) pass first is.header is.slot device read is.between back
              unlocked.unwritten is.opened (is.tables first (unlocked.unwritten.values ∙ told)) agrees
              told;
        }

    pub unready_under : (back : Device) (refusal : Refusal)
        → IsUnreadyOf (sizes_alone read) key w pass seed read back refusal
        → IsUnreadyUnder device w pass seed back refusal
    unready_under back refusal is = record {
      key = key;
      read = read;
      unlocked = unlocked;
      unready = subst (λ (z : Sizes). IsUnreadyOf z key w pass seed read back refusal) sizes_same
          is;
    }

    -- a disk that tells its bytes has this header and this key
    refused : (back : Device) (cause : OpenCause)
        → IsUnopenedOf (sizes_alone device) key w pass seed read back cause → (bytes : List ℕ)
        → device.values ≡ Some bytes
        → IsCauseIn (sizes_alone device) key (stored_in (sizes_alone device) bytes) cause
    refused back cause is bytes told =
        subst (λ (all : List ℕ). IsCauseIn (sizes_alone device) key
        (stored_in (sizes_alone device) all) cause)
        (whole_front device bytes (long bytes told))
        (is.why.refused bytes (unlocked.unwritten.values ∙ told))

    pub unopened_under : (back : Device) (cause : OpenCause)
        → IsUnopenedOf (sizes_alone read) key w pass seed read back cause
        → IsUnopenedUnder device w pass seed cause back
    unopened_under back cause is_read =
        let is = subst (λ (z : Sizes). IsUnopenedOf z key w pass seed read back cause) sizes_same
        is_read in
        record {
          key = key;
          read = read;
          unlocked = unlocked;
          unopened = is;
          short = λ bytes told.
              short_under device unlocked.stored pass key unlocked.under bytes told cause
              (refused back cause is bytes told);
        }

-- why none was begun, by what is handed back
module _ {D : Type 0} (device_of : D → Device) (first read back : D) (w : Wish)
    (pass seed : List ℕ) (key : Option (List ℕ))
    (unlocked : IsUnlockedOn (device_of first) pass key (device_of read))
    (long : (all : List ℕ) → (device_of first).values ≡ Some all
    → length all ≡ (device_of first).atoms * (device_of first).size)
    (agrees : (told : Told) → (device_of first).told ≡ Some told
    → (device_of first).values ≡ Some (content told.now)) where
  pub unstarted_by : (refusal : Refusal)
      → IsUnbegunOf (sizes_alone (device_of read)) key w pass seed (device_of read)
      (device_of back) refusal
      → IsUnstartedBy device_of first w pass seed refusal back
  unstarted_by (refusals.Unopened (openings.Opening cause)) is = (
    unopened_under (device_of first) (device_of read) w pass seed key unlocked long
        agrees (device_of back) cause is,
    tested_behind (device_of first) unlocked.stored unlocked.under.found unlocked.encrypted
        (openings.Opening cause),
  )
  unstarted_by (refusals.Unopened (openings.Header fault)) is = absurd is
  unstarted_by (refusals.Unopened openings.InProgress) is = absurd is
  unstarted_by (refusals.Unopened (openings.Passphrase count)) is = absurd is
  unstarted_by (refusals.Unopened (openings.Slots fault)) is = absurd is
  unstarted_by refusals.Linear is = absurd is
  unstarted_by refusals.Memory is =
      unready_under (device_of first) (device_of read) w pass seed key unlocked long agrees
      (device_of back) refusals.Memory is
  unstarted_by (refusals.Keyslots list) is =
      unready_under (device_of first) (device_of read) w pass seed key unlocked long agrees
      (device_of back) (refusals.Keyslots list) is
  unstarted_by (refusals.Tail bytes) is =
      unready_under (device_of first) (device_of read) w pass seed key unlocked long agrees
      (device_of back) (refusals.Tail bytes) is
  unstarted_by (refusals.Unmade fault) is =
      unready_under (device_of first) (device_of read) w pass seed key unlocked long agrees
      (device_of back) (refusals.Unmade fault) is
  unstarted_by refusals.Writing is =
      begun_under (device_of first) (device_of read) w pass seed key unlocked long
      agrees (device_of back) failed_call is
