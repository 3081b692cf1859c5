-- What was opened on a disk, or wasn't, under the keys that were found there.
use Rattle.std.proofs.Common.{◌≡◌, ◌∙◌, ℕ, ◌*◌, List, length, ap, ap₂, sym, subst, refl, Option}
use Rattle.std.proofs.Common.{Some, None, true, false}
use Rattle.resume_disk.specs.OpenedMidway.Causes.{HasCauseIn, IsCauseIn}
use Rattle.resume_disk.specs.OpenedMidway.Openings.{IsOpenedOf, IsUnopened}
use Rattle.resume_disk.specs.declared.midway.fault.ConversionCause.{ConversionCause}
use Rattle.base_terms.specs.declared.disk_sizes.Sizes.{Sizes}
use Rattle.header_report.proofs.ExamineLemmas.{alone_values, whole_front}
use Rattle.header_report.specs.Examinations.{sizes_alone}
use Rattle.sector_disk.specs.JoinedDisks.Counts.{HasSizes}
use Rattle.sector_disk.specs.JoinedDisks.Joined.{Joint, joined_disk}
use Rattle.luks_store.specs.Devices.{KeepsBytes, front_of}
use Rattle.luks_store.specs.Loads.{stored_in}
use Rattle.luks_store.specs.declared.loaded.Stored.{Stored}
use Rattle.reenc_recovery.specs.Tables.{ShowsSizes}
use Rattle.reenc_recovery.specs.declared.keys.SideKeys.{SideKeys}
use Rattle.resume_disk.proofs.ShortLemmas.{short_under}
use Rattle.resume_disk.specs.Keys.{AreKeysFound, IsNoKeysFound}
use Rattle.resume_disk.specs.Refusals.{HasTailOn, IsLockedBy, IsRefusedBy, IsRefusedKeys}
use Rattle.resume_disk.specs.Refusals.{IsUnopenedUnder}
use Rattle.luks_rules.specs.Segments.{has_tail}
use Rattle.resume_disk.specs.Resuming.{AreUnderKeys, BeginsWith, IsOpenedMidway}
use Rattle.resume_disk.specs.declared.refusal.Refusal.{Refusal}
use Rattle.resume_disk.specs.declared.refusal.Refusal.TheVariants as refusals
use Rattle.sector_disk.specs.Devices.{Device}
use Rattle.sector_disk.specs.Geometry.{IsDisk}
use Rattle.volume_core.specs.Zones.{IsReadBy}
use Rattle.volume_laws.specs.Converting.{IsInOrder}
use Rattle.volume_machine.specs.Sound.{IsSound}
use Rattle.volume_machine.specs.States.{State}
use Rattle.volume_machine.specs.declared.keys.Keys.{Keys}
use Rattle.volume_opening.proofs.OpenedLemmas.{same_sizes, same_stored}
use Rattle.volume_opening.proofs.ReadLemmas.{keeps_on}
use Rattle.volume_opening.specs.Openings.{IsFound, alone}
use Rattle.hotzone.specs.ZoneEvents.Readings.{reading_of}
use Rattle.image_laws.specs.Led.Holding.{TellsLawfully}

-- ---- header and keys
pub under_keys : (device read new : Device) (pass : List ℕ) (stored : Stored) (keys : SideKeys)
    → KeepsBytes device read → IsFound device stored → KeepsBytes read new
    → AreKeysFound stored.valid.meta stored.valid.sizes pass read.values keys
    → has_tail stored.valid.meta.segments new.tail ≡ false
    → AreUnderKeys device pass keys new
under_keys device read new pass stored keys header_read found slots_read are whole = record {
  unwritten = keeps_on device read new header_read slots_read;
  stored = stored;
  found = found;
  are = subst (λ (held : Option (List ℕ)).
      AreKeysFound stored.valid.meta stored.valid.sizes pass held keys) header_read.values are;
  whole = subst (λ n. has_tail stored.valid.meta.segments n ≡ false)
      (slots_read.tail ∙ header_read.tail) whole;
}

pub tail_on : (device read new : Device) (pass : List ℕ) (stored : Stored) (keys : SideKeys)
    → KeepsBytes device read → IsFound device stored → KeepsBytes read new
    → AreKeysFound stored.valid.meta stored.valid.sizes pass read.values keys → (bytes : ℕ)
    → bytes ≡ new.tail → has_tail stored.valid.meta.segments new.tail ≡ true
    → HasTailOn device pass bytes new
tail_on device read new pass stored keys header_read found slots_read are bytes bytes_are has =
    record {
      unwritten = keeps_on device read new header_read slots_read;
      stored = stored;
      found = found;
      keys = keys;
      are = subst (λ (held : Option (List ℕ)).
          AreKeysFound stored.valid.meta stored.valid.sizes pass held keys) header_read.values are;
      bytes_are = bytes_are ∙ slots_read.tail ∙ header_read.tail;
      has = subst (λ n. has_tail stored.valid.meta.segments n ≡ true)
          (slots_read.tail ∙ header_read.tail) has;
    }

pub locked_by : (device read new : Device) (pass : List ℕ) (stored : Stored) (refusal : Refusal)
    → KeepsBytes device read → IsFound device stored → KeepsBytes read new
    → IsNoKeysFound stored.valid.meta stored.valid.sizes pass read new refusal
    → IsLockedBy device pass refusal new
locked_by device read new pass stored refusal header_read found slots_read none = by refusal none
  where
    keys_refused : (r : Refusal)
        → IsNoKeysFound stored.valid.meta stored.valid.sizes pass read new r
        → IsRefusedKeys device pass new r
    keys_refused r is = record {
      stored = stored;
      found = found;
      read = read;
      header_read = header_read;
      slots_read = slots_read;
      none = is;
    }

    by : (r : Refusal) → IsNoKeysFound stored.valid.meta stored.valid.sizes pass read new r
        → IsLockedBy device pass r new
    by (refusals.Header fault) is = absurd is
    by refusals.Idle is = keys_refused refusals.Idle is
    by (refusals.Passphrase count) is = keys_refused (refusals.Passphrase count) is
    by (refusals.Slots side fault) is = keys_refused (refusals.Slots side fault) is
    by (refusals.Tail bytes) is = absurd is
    by (refusals.Unopened cause) is = absurd is

-- no header and no keys, as they are answered
pub refused_so : {C D : Type 0} (sector : C → ℕ) (sealed opened : C → ℕ → List ℕ → List ℕ)
    (device : D → Device) (disk back : D) (pass : List ℕ) (refusal : Refusal)
    → IsLockedBy (device disk) pass refusal (device back)
    → IsRefusedBy sector sealed opened device disk pass refusal None back
refused_so sector sealed opened device disk back pass (refusals.Header fault) is = (refl, is)
refused_so sector sealed opened device disk back pass refusals.Idle is = (refl, is)
refused_so sector sealed opened device disk back pass (refusals.Passphrase count) is = (refl, is)
refused_so sector sealed opened device disk back pass (refusals.Slots side fault) is = (refl, is)
refused_so sector sealed opened device disk back pass (refusals.Tail bytes) is = (refl, is)
refused_so sector sealed opened device disk back pass (refusals.Unopened cause) is =
    absurd (is.none)

-- ---- behind them
module _ (device read : Device) (pass : List ℕ) (keys : SideKeys)
    (under : AreUnderKeys device pass keys read) (joint : Joint) (sizes : Sizes)
    (joint_is : joint ≡ alone read) (sizes_are : sizes ≡ sizes_alone read)
    (disk : IsDisk read.size read.atoms)
    (long : (all : List ℕ) → device.values ≡ Some all
    → length all ≡ device.atoms * device.size) where
  sizes_same : sizes ≡ sizes_alone device
  sizes_same = sizes_are ∙ same_sizes device read under.unwritten

  -- what is shown of a disk that told its bytes
  shown : (bytes : List ℕ) → device.values ≡ Some bytes
      → (joined_disk (alone read)).values ≡ Some bytes
  shown bytes told =
      alone_values read bytes disk (under.unwritten.values ∙ told)
      (long bytes told ∙ ap₂ (λ a s. a * s) (sym under.unwritten.atoms) (sym under.unwritten.size))

  -- what the opening began with
  begins : HasSizes sizes (joined_disk joint) → ShowsSizes sizes (joined_disk joint)
      → ((all : List ℕ) → (joined_disk joint).values ≡ Some all
      → length all ≡ (joined_disk joint).atoms * sizes.atom) → BeginsWith device read
  begins has shows whole = record {
    has = subst (λ (z : Sizes). HasSizes z (joined_disk (alone read))) sizes_same
        (subst (λ (j : Joint). HasSizes sizes (joined_disk j)) joint_is has);
    shows = subst (λ (z : Sizes). ShowsSizes z (joined_disk (alone read))) sizes_same
        (subst (λ (j : Joint). ShowsSizes sizes (joined_disk j)) joint_is shows);
    shown = shown;
    long = λ first told.
        whole first (ap (λ (j : Joint). (joined_disk j).values) joint_is ∙ shown first told)
        ∙ ap (λ (j : Joint). (joined_disk j).atoms * sizes.atom) joint_is
        ∙ ap (λ (z : Sizes). (joined_disk (alone read)).atoms * z.atom) sizes_same;
  }

  pub opened_midway : {C : Type 0} (sector : C → ℕ) (sealed opened : C → ℕ → List ℕ → List ℕ)
      (lanes : ℕ) (volume : State (Keys C))
      → IsOpenedOf sector sealed opened sizes keys lanes joint volume
      → IsReadBy sizes volume → IsInOrder (reading_of sizes) volume → IsSound volume
      → HasSizes sizes (joined_disk joint) → ShowsSizes sizes (joined_disk joint)
      → ((all : List ℕ) → (joined_disk joint).values ≡ Some all
      → length all ≡ (joined_disk joint).atoms * sizes.atom)
      → IsOpenedMidway sector sealed opened device pass lanes volume
  opened_midway {C} sector sealed opened lanes volume calls is_read order sound has shows whole =
      let here : IsOpenedOf sector sealed opened (sizes_alone device) keys lanes (alone read) volume =
      subst (λ (s : Sizes). IsOpenedOf sector sealed opened s keys lanes (alone read) volume) sizes_same
      (subst (λ (j : Joint). IsOpenedOf sector sealed opened sizes keys lanes j volume) joint_is calls)
      in
      record {
        keys = keys;
        read = read;
        under = under;
        begins = begins has shows whole;
        calls = here;
        same = λ first told.
            same_stored (stored_in (sizes_alone device) first) here.found.header under.stored
            (ap (stored_in (sizes_alone device)) (sym (whole_front device first (long first told)))
            ∙ here.found.held first (shown first told))
            (under.found.held first told);
        is_read = subst (λ (s : Sizes). IsReadBy s volume) sizes_same is_read;
        order = subst (λ (s : Sizes). IsInOrder (reading_of s) volume) sizes_same order;
        sound = sound;
      }

  pub unopened_by : {C : Type 0} (sector : C → ℕ) (sealed opened : C → ℕ → List ℕ → List ℕ)
      (cause : ConversionCause) (later : Sizes) (new : Joint)
      → HasSizes sizes (joined_disk joint) → ShowsSizes sizes (joined_disk joint)
      → ((all : List ℕ) → (joined_disk joint).values ≡ Some all
      → length all ≡ (joined_disk joint).atoms * sizes.atom)
      → IsUnopened sector sealed opened sizes later keys joint new cause
      → TellsLawfully (joined_disk new)
      → HasCauseIn (joined_disk joint) (joined_disk new) cause
      → ((all : List ℕ) → (joined_disk joint).values ≡ Some all
      → IsCauseIn sizes keys (stored_in sizes (front_of sizes all)) cause)
      → IsUnopenedUnder sector sealed opened device pass cause new
  unopened_by {C} sector sealed opened cause later new has shows whole unopened tells cause_is refused =
      let held : (bytes : List ℕ) → device.values ≡ Some bytes
      → IsCauseIn (sizes_alone device) keys (stored_in (sizes_alone device) bytes) cause =
      λ bytes told.
      (let there : (joined_disk joint).values ≡ Some bytes =
      ap (λ (j : Joint). (joined_disk j).values) joint_is ∙ shown bytes told in
      subst (λ (all : List ℕ). IsCauseIn (sizes_alone device) keys
      (stored_in (sizes_alone device) all) cause) (whole_front device bytes (long bytes told))
      (subst (λ (s : Sizes). IsCauseIn s keys (stored_in s (front_of s bytes)) cause) sizes_same
      (refused bytes there))) in
      record {
        keys = keys;
        read = read;
        under = under;
        begins = begins has shows whole;
        unopened = (
          later,
          subst (λ (s : Sizes). IsUnopened sector sealed opened s later keys (alone read) new cause)
              sizes_same
              (subst (λ (j : Joint). IsUnopened sector sealed opened sizes later keys j new cause)
              joint_is unopened),
        );
        tells = tells;
        cause_is = subst (λ (j : Joint). HasCauseIn (joined_disk j) (joined_disk new) cause)
            joint_is cause_is;
        refused = held;
        short = λ bytes told. short_under device pass keys read under bytes told cause
            (held bytes told);
      }
