-- A conversion that is led on beside clients keeps what its disk stood for, and comes to its end.
use Rattle.std.proofs.Common.{◌≡◌, ◌∙◌, ◌<◌, ⊎_elim, false, ℕ, List, [], ◌∷◌}
use Rattle.std.proofs.Common.{◌++◌, length, Option, None, Some, ap, arith, inl, inr, refl, subst, sym}
use Rattle.bays.specs.Stories.{LinkState}
use Rattle.volume_laws.specs.BesideConverted.Ends.{ConvertedVolumesHoldNewest, HoldsNewest}
use Rattle.volume_laws.specs.BesideConversions.Ends.{MayConvertBeside}
use Rattle.crash_laws.specs.HeaderAreas.Headers.{IsReader, Layout}
use Rattle.base_terms.specs.declared.disk_sizes.Sizes.{Sizes}
use Rattle.header_report.specs.Examinations.{sizes_alone}
use Rattle.volume_laws.specs.BesideLanes.Executing.{ExecutesBeside}
use Rattle.luks_store.specs.declared.loaded.Stored.{Stored}
use Rattle.plain_disk.specs.Plain.{Block, Legal, settled_blocks}
use Rattle.reenc_tool.specs.Beside.{HasServedConverting}
use Rattle.reenc_tool.specs.KeptBeside.{KeepsBeside, StartsBesideFor}
use Rattle.reenc_tool.specs.Runs.{VolumeKeys}
use Rattle.reenc_tool.specs.Sessions.{most_events}
use Rattle.reenc_tool.specs.Outcomes.{Outcome}
use Rattle.reenc_tool.specs.TakenUp.{IsLedToEnd}
use Rattle.reenc_tool.specs.declared.ended.Cause.TheVariants.{Fine}
use Rattle.resume_disk.specs.Resuming.{IsOpenedMidway}
use Rattle.recovery_laws.proofs.Resumed.ResumeLemmas.{both-dated}
use Rattle.recovery_laws.specs.Resumed.Chaining.{AreDisks}
use Rattle.recovery_laws.specs.Resumed.Openings.{IsKnownBehind, OpeningsKeepContent, OpensOn}
use Rattle.recovery_laws.specs.Resumed.Resuming.{IsTakenUp, TakenUpConversionsBegin}
use Rattle.recovery_laws.specs.Resumed.Starts.{BegunConversionsStart, layout_on, volume_seals}
use Rattle.sector_cipher.specs.declared.disk.DiskCipher.{DiskCipher}
use Rattle.aes_core.specs.declared.cipher.Aes.{Aes}
use Rattle.sector_disk.specs.Devices.{Device}
use Rattle.sector_disk.specs.Geometry.{IsDisk}
use Rattle.sector_disk.specs.Steps.{Told}
use Rattle.volume_laws.specs.BesideServing.Tables.{TellsDeeds}
use Rattle.recovery_laws.specs.Served.Clients.{StoodFor}
use Rattle.recovery_laws.specs.Served.Again.{DeedsStandAgain}
use Rattle.volume_machine.specs.Answers.{AreExchanges, Tagged, untagged}
use Rattle.volume_machine.specs.Deeds.{AreDeeds, Deed, answered_over, state_after}
use Rattle.volume_machine.specs.Readings.{Reading}
use Rattle.volume_machine.specs.Runs.{no_plain}
use Rattle.volume_machine.specs.Seals.{Seals}
use Rattle.volume_machine.specs.States.{IsClient, State, open_at}
use Rattle.volume_machine.specs.Works.{converting, resting}
use Rattle.volume_machine.specs.declared.keys.Keys.{Keys}
use Rattle.volume_machine.specs.declared.open.Open.{Open}
use Rattle.volume_opening.specs.Openings.{alone}
use Rattle.hotzone.specs.ZoneEvents.Heads.{header_on}
use Rattle.hotzone.specs.ZoneEvents.Readings.{reading_of}
use Rattle.hotzone.specs.ZoneEvents.Works.{layout_for}

-- the laws that this stands on
pub record MidwayLaws {C : Type 0} (sector : C → ℕ) (sealed opened : C → ℕ → List ℕ → List ℕ)
    : Type 0 where
  pub openings : OpeningsKeepContent sector sealed opened
  pub begins : TakenUpConversionsBegin sector sealed opened
  pub start : BegunConversionsStart sector sealed opened
  pub again : DeedsStandAgain sector sealed opened
  pub newest : ConvertedVolumesHoldNewest C
  pub tables : (reading : Reading) (seals : Seals) (start : State (Keys C))
      (deeds : List (Deed (Keys C))) (now : Told) → AreDeeds reading seals start deeds
      → (state_after start deeds).disk.told ≡ Some now → TellsDeeds start deeds now
  pub untagged_are : (reading : Reading) (seals : Seals) (old new : State (Keys C))
      (deeds : List (Deed (Keys C))) (history : List Tagged)
      → ExecutesBeside reading seals old new deeds history
      → AreExchanges (answered_over seals old no_plain deeds) (untagged history)
  pub reader : (sizes : Sizes) → IsReader (reading_of sizes).reader

pub front-deeds : {K : Type 0} (reading : Reading) (seals : Seals) (old : State K)
    (earlier later : List (Deed K)) → AreDeeds reading seals old (earlier ++ later)
    → AreDeeds reading seals old earlier
unfolding AreDeeds
front-deeds reading seals old [] later are = tt
front-deeds reading seals old (one ∷ earlier) later (does, are) =
    (does, front-deeds reading seals one.after earlier later are)

module _ {C : Type 0} {sector : C → ℕ} {sealed opened : C → ℕ → List ℕ → List ℕ}
    (laws : MidwayLaws sector sealed opened) (device : Device) (pass : List ℕ) (lanes : ℕ)
    (volume : State (Keys C))
    (taken : IsOpenedMidway sector sealed opened device pass lanes volume) where
  abbrev sizes : Sizes
  sizes = sizes_alone device

  abbrev last : Stored
  last = taken.calls.led.last

  -- ---- by its header it may be converted
  same-layout : layout_for last.valid.sizes.atom last.copies.used.header.hdr_size
      ≡ layout_on sizes last
  same-layout =
      ap (λ (z : Sizes). layout_for z.atom last.copies.used.header.hdr_size)
      taken.calls.led.sizes_are

  pub has-work : volume.work ≡ Some (resting (layout_on sizes last) (header_on last) converting)
  has-work =
      ap (λ (v : State (Keys C)). v.work) taken.calls.led.armed
      ∙ ap (λ (l : Layout). Some (resting l (header_on last) converting)) same-layout

  pub may-convert : MayConvertBeside (reading_of sizes) (layout_on sizes last) (header_on last) volume
  may-convert = record { order = taken.order; at_rest = has-work }

  module _ (geometry : IsDisk device.size device.atoms) (first old_key new_key : List ℕ)
      (content : List (List ℕ))
      (stood : StoodFor sizes taken.keys device first old_key new_key content) where
    opens : OpensOn sizes taken.keys (alone taken.read) first old_key new_key content
    opens = record {
      has = taken.begins.has;
      shows = taken.begins.shows;
      values = taken.begins.shown first stood.told;
      long = taken.begins.long first stood.told;
      handed_in = stood.handed_in;
      stands = stood.stands;
    }

    abbrev up : IsTakenUp sector sealed opened sizes taken.keys lanes (alone taken.read) volume content
    up = record {
      first = first;
      old_key = old_key;
      new_key = new_key;
      opens = opens;
      is = taken.calls;
      order = taken.order;
    }

    pub one-disk : AreDisks sizes volume.disk
    one-disk =
        let has = taken.is_read.sizes_are in
        let all = has.all in
        let atoms : device.atoms ≡ volume.disk.atoms = omega (arith, all) in
        record {
          has = has;
          disk = subst (λ (n : ℕ). IsDisk volume.disk.size n) atoms
              (subst (λ (n : ℕ). IsDisk n device.atoms) has.atom geometry);
        }

    -- ---- behind deeds
    module _ (deeds : List (Deed (Keys C)))
        (are : AreDeeds (reading_of sizes) (volume_seals sealed opened volume) volume deeds)
        (known : IsKnownBehind taken.calls.found.header (state_after volume deeds).disk) where
      pub known-before : IsKnownBehind taken.calls.found.header volume.disk
      known-before =
          ⊎_elim (λ may. inl may)
          (λ tells.
          (let since = laws.tables (reading_of sizes) (volume_seals sealed opened volume) volume deeds
          tells.0 are tells.1 in inr (since.before, since.was)))
          known

      pub starts-for : StartsBesideFor sealed opened sizes last old_key new_key content volume
      starts-for =
          let (now, stands, b, saved) = laws.begins sizes taken.keys lanes (alone taken.read) volume
          content up known-before in
          let (starts, certain) = laws.start sizes last lanes old_key new_key now volume content b
          stands in
          record {
            now = now;
            stands = stands;
            starts = starts;
            certain = certain;
            dated = both-dated (reading_of sizes) volume (layout_on sizes last) (header_on last)
                (b.order.courses (resting (layout_on sizes last) (header_on last) converting)
                starts.at_rest).is starts.at_rest;
          }

      pub keeps-beside : KeepsBeside sector sealed opened device pass lanes volume taken old_key new_key
          content deeds
      keeps-beside = record {
        since = (laws.openings sizes taken.keys lanes (alone taken.read) volume first old_key new_key
            content opens taken.calls).0;
        starts = starts-for;
        again = λ earlier later parts exchanges answered.
            (let (now, stands, b, saved) = laws.begins sizes taken.keys lanes (alone taken.read)
            volume content up known-before in
            laws.again sizes last lanes old_key new_key now volume content earlier exchanges b stands
            one-disk saved
            (front-deeds (reading_of sizes) (volume_seals sealed opened volume) volume earlier later
            (subst (λ (d : List (Deed (Keys C))). AreDeeds (reading_of sizes)
            (volume_seals sealed opened volume) volume d) parts are)) answered);
      }

-- ---- at the end
pub none-open : (o : Option Open) → ((x : Open) → o ≡ Some x → ⊥) → o ≡ None
none-open None never = refl
none-open (Some x) never = absurd (never x refl)

module _ {sector : DiskCipher Aes → ℕ} {sealed opened : DiskCipher Aes → ℕ → List ℕ → List ℕ}
    (laws : MidwayLaws sector sealed opened) {D L : Type 0} (device : D → Device)
    (state : L → LinkState) (disk : D) (pass : List ℕ) (lanes : ℕ) (volume : State VolumeKeys)
    (taken : IsOpenedMidway sector sealed opened (device disk) pass lanes volume)
    (geometry : IsDisk (device disk).size (device disk).atoms) (begun : List L)
    (outcome : Outcome D L) where
  module _ (left : Device) (came : _)
      (served : HasServedConverting state (sizes_alone (device disk)) volume
      (volume_seals sealed opened volume) left begun came) where
    abbrev here : Sizes
    here = sizes_alone (device disk)

    pub led-to-end : came.cause ≡ Fine
        → IsLedToEnd here taken.calls.led.last volume served.final
    led-to-end is =
        served.ended.converted (served.fine is).0 (layout_on here taken.calls.led.last)
        (header_on taken.calls.led.last)
        (may-convert laws (device disk) pass lanes volume taken)

    pub behind : IsKnownBehind taken.calls.found.header left
        → IsKnownBehind taken.calls.found.header (state_after volume served.deeds).disk
    behind known =
        subst (λ (d : Device). IsKnownBehind taken.calls.found.header d)
        (served.left_is ∙ ap (λ (v : State VolumeKeys). v.disk) (sym served.did.last)) known

    -- an operation is left under way only where the history is full
    pub none-under-way : length served.deeds < most_events
        → (lane : ℕ) → IsClient volume lane → open_at served.final.lanes lane ≡ None
    none-under-way few lane own =
        none-open (open_at served.final.lanes lane) (λ o at.
        (let full = (served.played.left lane o at).full in omega (arith, few, full)))

    -- what the law says of the state behind the deeds, of the state that is left
    newest-in : (first old_key new_key : List ℕ) (content : List (List ℕ))
        → (starts : StartsBesideFor sealed opened here taken.calls.led.last old_key new_key content
        volume)
        → (final : State VolumeKeys) → state_after volume served.deeds ≡ final
        → (done : IsLedToEnd here taken.calls.led.last volume final) → final.broken ≡ false
        → ((lane : ℕ) → IsClient volume lane → open_at final.lanes lane ≡ None)
        → (now : List Block)
        × Legal volume.map.atom (settled_blocks content) (untagged served.operations) now
        × HoldsNewest (reading_of here) (volume_seals sealed opened volume) done.header final now
    newest-in first old_key new_key content starts final same =
        subst (λ (v : State VolumeKeys). (done : IsLedToEnd here taken.calls.led.last volume v)
        → v.broken ≡ false → ((lane : ℕ) → IsClient volume lane → open_at v.lanes lane ≡ None)
        → (now : List Block)
        × Legal volume.map.atom (settled_blocks content) (untagged served.operations) now
        × HoldsNewest (reading_of here) (volume_seals sealed opened volume) done.header v now) same
        (λ done unbroken free.
        laws.newest (reading_of here) (volume_seals sealed opened volume)
        (layout_on here taken.calls.led.last) (header_on taken.calls.led.last) converting volume
        (settled_blocks content) starts.now served.deeds (untagged served.operations)
        (laws.reader here) refl starts.starts served.did.are
        (laws.untagged_are (reading_of here) (volume_seals sealed opened volume) volume served.final
        served.deeds served.operations served.did) unbroken free done)

    pub holds-newest : (first old_key new_key : List ℕ) (content : List (List ℕ))
        → StoodFor here taken.keys (device disk) first old_key new_key content
        → IsKnownBehind taken.calls.found.header left → (is : came.cause ≡ Fine)
        → length served.deeds < most_events
        → (now : List Block)
        × Legal volume.map.atom (settled_blocks content) (untagged served.operations) now
        × HoldsNewest (reading_of here) (volume_seals sealed opened volume) (led-to-end is).header
        served.final now
    holds-newest first old_key new_key content stood known is few =
        newest-in first old_key new_key content
        (starts-for laws (device disk) pass lanes volume taken geometry first old_key new_key content
        stood served.deeds served.did.are (behind known))
        served.final served.did.last (led-to-end is) (served.fine is).1 (none-under-way few)
