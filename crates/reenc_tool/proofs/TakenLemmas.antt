-- What is opened, or isn't, on a disk that was only read since it was handed in.
use Rattle.std.proofs.Common.{◌≡◌, ◌≢◌, ◌∙◌, ◌*◌, inl, inr, ℕ, true, false, List, length}
use Rattle.std.proofs.Common.{Option, Some, None, Ok, ap, subst, sym}
use Rattle.std.proofs.lemmas.List.{length-replicate}
use Rattle.resume_disk.specs.OpenedMidway.Causes.{IsCauseIn}
use Rattle.resume_disk.specs.OpenedMidway.Openings.{IsOpenedOf, IsUnopened}
use Rattle.resume_disk.specs.declared.midway.fault.ConversionCause.{ConversionCause}
use Rattle.base_terms.specs.declared.disk_sizes.Sizes.{Sizes}
use Rattle.header_report.proofs.ExamineLemmas.{cause-later}
use Rattle.header_report.specs.Examinations.{TellsFault, sizes_alone}
use Rattle.sector_disk.specs.JoinedDisks.Counts.{HasSizes}
use Rattle.sector_disk.specs.JoinedDisks.Joined.{Joint, joined_disk}
use Rattle.luks_rules.specs.Segments.{in_progress}
use Rattle.luks_store.specs.Devices.{KeepsBytes}
use Rattle.luks_store.specs.Loads.{Says, stored_in}
use Rattle.luks_store.specs.declared.fault.StoreFault.{StoreFault}
use Rattle.luks_store.specs.declared.loaded.Stored.{Stored}
use Rattle.reenc_recovery.specs.Tables.{ShowsSizes}
use Rattle.reenc_recovery.specs.declared.keys.SideKeys.{SideKeys}
use Rattle.reenc_tool.proofs.RunLemmas.{fresh_as_it_is, shared_as_it_is, sound_as_it_is}
use Rattle.reenc_tool.specs.Volumes.{IsAnyVolume}
use Rattle.resume_disk.specs.Keys.{AreKeysFound}
use Rattle.luks_rules.specs.Segments.{has_tail}
use Rattle.resume_disk.specs.Refusals.{HasTailOn, IsRefusedBy, IsRefusedKeys, IsUnopenedUnder}
use Rattle.resume_disk.specs.Resuming.{AreUnderKeys, BeginsWith, IsOpenedMidway}
use Rattle.resume_disk.specs.declared.refusal.Refusal.{Refusal}
use Rattle.resume_disk.specs.declared.refusal.Refusal.TheVariants as refusals
use Rattle.sector_disk.specs.Devices.{Device}
use Rattle.recovery_laws.specs.Served.Clients.{without_work}
use Rattle.recovery_laws.specs.Served.Serving.{TakenVolumesLieIdle}
use Rattle.shared_volume.specs.Histories.{MayBeShared}
use Rattle.volume_core.specs.Zones.{IsReadBy}
use Rattle.volume_laws.specs.Converting.{IsInOrder}
use Rattle.volume_machine.specs.Beginnings.{IsFresh}
use Rattle.volume_machine.specs.Sound.{IsSound}
use Rattle.volume_machine.specs.States.{State}
use Rattle.volume_machine.specs.declared.keys.Keys.{Keys}
use Rattle.volume_opening.proofs.OpenedLemmas.{same_sizes}
use Rattle.volume_opening.proofs.ReadLemmas.{keeps_on}
use Rattle.volume_opening.specs.Openings.{IsFound, alone}
use Rattle.volume_opening.specs.Refusals.{IsRefusedKey, IsUnopenedBy}
use Rattle.volume_opening.specs.declared.refusal.Refusal.{Refusal as OpeningRefusal}
use Rattle.volume_opening.specs.declared.refusal.Refusal.TheVariants.{InProgress}
use Rattle.hotzone.specs.ZoneEvents.Readings.{reading_of}

-- the device that was handed in, and as it was when the conversion was to be taken up
module _ (device read : Device) (kept : KeepsBytes device read) where
  same : sizes_alone read ≡ sizes_alone device
  same = same_sizes device read kept

  told-then : {bytes : List ℕ} → device.values ≡ Some bytes → read.values ≡ Some bytes
  told-then told = kept.values ∙ told

  found-then : (stored : Stored) → IsFound read stored → IsFound device stored
  found-then stored found = record {
    sizes = found.sizes ∙ same;
    held = λ bytes told. subst (λ (s : Sizes). stored_in s bytes ≡ Ok stored) same
        (found.held bytes (told-then told));
  }

  under-then : (pass : List ℕ) (keys : SideKeys) (later : Device)
      → AreUnderKeys read pass keys later → AreUnderKeys device pass keys later
  under-then pass keys later under = record {
    unwritten = keeps_on device read later kept under.unwritten;
    stored = under.stored;
    found = found-then under.stored under.found;
    are = subst (λ (held : Option (List ℕ)).
        AreKeysFound under.stored.valid.meta under.stored.valid.sizes pass held keys) kept.values
        under.are;
    whole = subst (λ n. has_tail under.stored.valid.meta.segments n ≡ false) kept.tail under.whole;
  }

  begins-then : (later : Device) → BeginsWith read later → BeginsWith device later
  begins-then later begins = record {
    has = subst (λ (s : Sizes). HasSizes s (joined_disk (alone later))) same begins.has;
    shows = subst (λ (s : Sizes). ShowsSizes s (joined_disk (alone later))) same begins.shows;
    shown = λ first told. begins.shown first (told-then told);
    long = λ first told. begins.long first (told-then told)
        ∙ ap (λ (s : Sizes). (joined_disk (alone later)).atoms * s.atom) same;
  }

  module _ {C : Type 0} (sector : C → ℕ) (sealed opened : C → ℕ → List ℕ → List ℕ) (pass : List ℕ)
    where
      -- ---- opened
      module _ (lanes : ℕ) (volume : State (Keys C))
          (taken : IsOpenedMidway sector sealed opened read pass lanes volume) where
        abbrev Calls : Sizes → Type 0
        Calls s = IsOpenedOf sector sealed opened s taken.keys lanes (alone taken.read) volume

        -- by the same calls of disks of the same sizes
        calls-then : (s : Sizes) → sizes_alone read ≡ s → (calls : Calls s)
            × ((first : List ℕ) → device.values ≡ Some first
            → calls.found.header ≡ taken.under.stored)
        calls-then s is = subst (λ (z : Sizes).
            (calls : IsOpenedOf sector sealed opened z taken.keys lanes (alone taken.read) volume)
            × ((first : List ℕ) → device.values ≡ Some first
            → calls.found.header ≡ taken.under.stored)) is
            (taken.calls, λ first told. taken.same first (told-then told))

        pub midway-then : IsOpenedMidway sector sealed opened device pass lanes volume
        unfolding under-then
        midway-then =
            let (calls, same-header) = calls-then (sizes_alone device) same in
            record {
              keys = taken.keys;
              read = taken.read;
              under = under-then pass taken.keys taken.read taken.under;
              begins = begins-then taken.read taken.begins;
              calls = calls;
              same = same-header;
              is_read = subst (λ (s : Sizes). IsReadBy s volume) same taken.is_read;
              order = subst (λ (s : Sizes). IsInOrder (reading_of s) volume) same taken.order;
              sound = taken.sound;
            }

      -- ---- not opened
      unopened-then : (cause : ConversionCause) (joint : Joint)
          → IsUnopenedUnder sector sealed opened read pass cause joint
          → IsUnopenedUnder sector sealed opened device pass cause joint
      unopened-then cause joint is = record {
        keys = is.keys;
        read = is.read;
        under = under-then pass is.keys is.read is.under;
        begins = begins-then is.read is.begins;
        unopened = (
          is.unopened.0,
          subst (λ (s : Sizes). IsUnopened sector sealed opened s is.unopened.0 is.keys
              (alone is.read) joint cause) same is.unopened.1,
        );
        tells = is.tells;
        cause_is = is.cause_is;
        refused = λ bytes told. subst (λ (s : Sizes). IsCauseIn s is.keys (stored_in s bytes) cause)
            same (is.refused bytes (told-then told));
        short = λ bytes told. is.short bytes (told-then told);
      }

      keys-then : (refusal : Refusal) (new : Device) → IsRefusedKeys read pass new refusal
          → IsRefusedKeys device pass new refusal
      keys-then refusal new is = record {
        stored = is.stored;
        found = found-then is.stored is.found;
        read = is.read;
        header_read = keeps_on device read is.read kept is.header_read;
        slots_read = is.slots_read;
        none = is.none;
      }

      tail-then : (bytes : ℕ) (new : Device) → HasTailOn read pass bytes new
          → HasTailOn device pass bytes new
      tail-then bytes new is = record {
        unwritten = keeps_on device read new kept is.unwritten;
        stored = is.stored;
        found = found-then is.stored is.found;
        keys = is.keys;
        are = subst (λ (held : Option (List ℕ)).
            AreKeysFound is.stored.valid.meta is.stored.valid.sizes pass held is.keys) kept.values
            is.are;
        bytes_are = is.bytes_are ∙ kept.tail;
        has = subst (λ n. has_tail is.stored.valid.meta.segments n ≡ true) kept.tail is.has;
      }

      header-then : (fault : StoreFault) → TellsFault read fault → TellsFault device fault
      header-then fault tells bytes told =
          subst (λ (s : Sizes). Says fault (stored_in s bytes)) same (tells bytes (told-then told))

-- so it is with disks of some kind
module _ {C D : Type 0} (sector : C → ℕ) (sealed opened : C → ℕ → List ℕ → List ℕ)
    (device : D → Device) (disk read : D) (kept : KeepsBytes (device disk) (device read))
    (pass : List ℕ) where
  pub refused-then : (refusal : Refusal) (header : Option D) (back : D)
      → IsRefusedBy sector sealed opened device read pass refusal header back
      → IsRefusedBy sector sealed opened device disk pass refusal header back
  refused-then (refusals.Unopened cause) header back (joint, are, is) = (
    joint,
    are,
    unopened-then (device disk) (device read) kept sector sealed opened pass cause joint is,
  )
  refused-then (refusals.Header fault) header back (none, (reads, tells, cause)) = (
    none,
    (
      keeps_on (device disk) (device read) (device back) kept reads,
      header-then (device disk) (device read) kept sector sealed opened pass fault tells,
      cause-later (device disk) (device read) (device back) fault kept.later cause,
    ),
  )
  refused-then refusals.Idle header back (none, is) = (
    none,
    keys-then (device disk) (device read) kept sector sealed opened pass refusals.Idle
        (device back) is,
  )
  refused-then (refusals.Passphrase count) header back (none, is) = (
    none,
    keys-then (device disk) (device read) kept sector sealed opened pass
        (refusals.Passphrase count) (device back) is,
  )
  refused-then (refusals.Slots side fault) header back (none, is) = (
    none,
    keys-then (device disk) (device read) kept sector sealed opened pass
        (refusals.Slots side fault) (device back) is,
  )
  refused-then (refusals.Tail bytes) header back (none, is) = (
    none,
    tail-then (device disk) (device read) kept sector sealed opened pass bytes (device back) is,
  )

  -- it isn't refused since nothing is being converted, where the disk told that something is
  pub busy-then : {stored : Stored} → IsFound (device disk) stored
      → in_progress stored.valid.meta.config ≡ true → (refusal : Refusal) (header : Option D)
      (back : D) → IsRefusedBy sector sealed opened device read pass refusal header back
      → (first : List ℕ) → (device disk).values ≡ Some first → refusal ≢ refusals.Idle
  busy-then {stored} found busy refusal header back is first told idle =
      let here = subst (λ (r : Refusal).
      IsRefusedBy sector sealed opened device read pass r header back) idle is in
      let then = keys-then (device disk) (device read) kept sector sealed opened pass refusals.Idle
      (device back) here.1 in
      let same-stored : then.stored ≡ stored =
      (let e = sym (then.found.held first told) ∙ found.held first told in cc) in
      let rests : in_progress stored.valid.meta.config ≡ false =
      subst (λ (s : Stored). in_progress s.valid.meta.config ≡ false) same-stored then.none in
      let no : true ≡ false = sym busy ∙ rests in cc

-- ---- the first opening, which answers that a conversion is under way
pub in-progress : {D : Type 0} (device : D → Device) (disk : D) (pass : List ℕ)
    (refusal : OpeningRefusal) (header : Option D) (back : D) → refusal ≡ InProgress
    → IsUnopenedBy device disk pass refusal header back
    → (header ≡ None) × IsRefusedKey (device disk) pass (device back) InProgress
in-progress device disk pass refusal header back is unopened =
    subst (λ (r : OpeningRefusal). IsUnopenedBy device disk pass r header back) is unopened

pub only-read : {device back : Device} {pass : List ℕ} {refusal : OpeningRefusal}
    → IsRefusedKey device pass back refusal → KeepsBytes device back
only-read {device} {back} {pass} {refusal} is =
    keeps_on device is.read back is.header_read is.slots_read

-- ---- either volume
module _ {C : Type 0} (sector : C → ℕ) (sealed opened : C → ℕ → List ℕ → List ℕ) (device : Device)
    (pass : List ℕ) (lanes : ℕ) (volume : State (Keys C)) where
  -- it has so many lanes
  pub any-lanes : IsAnyVolume sector sealed opened device pass lanes volume
      → length volume.lanes ≡ lanes
  any-lanes (inl by) =
      subst (λ (v : State (Keys C)). length v.lanes ≡ lanes) (sym by.is)
      (length-replicate lanes None)
  any-lanes (inr taken) =
      subst (λ (v : State (Keys C)). length v.lanes ≡ lanes) (sym taken.calls.led.armed)
      (length-replicate lanes None)

  -- nothing is under way
  pub any-idle : TakenVolumesLieIdle sector sealed opened
      → IsAnyVolume sector sealed opened device pass lanes volume
      → IsFresh (without_work volume) × IsSound (without_work volume)
  any-idle lie (inl by) = (fresh_as_it_is volume by.fresh, sound_as_it_is volume by.fresh by.sound)
  any-idle lie (inr taken) = lie device pass lanes volume taken

  -- threads may share it
  pub any-shared : TakenVolumesLieIdle sector sealed opened
      → IsAnyVolume sector sealed opened device pass lanes volume → MayBeShared volume
  any-shared lie (inl by) = shared_as_it_is volume by.fresh by.sound
  any-shared lie (inr taken) = record {
    idle = (lie device pass lanes volume taken).0.lanes;
    sound = taken.sound;
    order = λ some. (sizes_alone device, taken.is_read, taken.order);
  }
