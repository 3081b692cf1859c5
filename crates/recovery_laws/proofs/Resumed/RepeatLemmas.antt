-- A conversion that is taken up again and stopped, time after time: what is left stands for the content
-- for which the first bytes stood.
use Rattle.std.proofs.Common.{◌≡◌, inl, inr, ℕ, true, false, List}
use Rattle.std.proofs.Common.{Some, Ok, subst, sym}
use Rattle.base_terms.specs.Blocks.{joined}
use Rattle.resume_disk.specs.OpenedMidway.Openings.{IsFound, IsNotLedOn, IsUnopened, not_led_on}
use Rattle.resume_disk.specs.OpenedMidway.Openings.{only_read}
use Rattle.resume_disk.specs.OpenedMidway.Openings.{unarmed, uncalled, unmended, unrepaired}
use Rattle.resume_disk.specs.OpenedMidway.Openings.{unsynced}
use Rattle.resume_disk.specs.declared.midway.fault.ConversionCause.{ConversionCause}
use Rattle.base_terms.specs.declared.disk_sizes.Sizes.{Sizes}
use Rattle.sector_disk.specs.JoinedDisks.Joined.{Joint, joined_disk}
use Rattle.luks_rules.specs.Segments.{in_progress}
use Rattle.luks_rules.specs.declared.valid.Checked.{Checked}
use Rattle.luks_store.specs.Devices.{front_of}
use Rattle.luks_store.specs.Loads.{stored_in}
use Rattle.luks_store.specs.declared.loaded.Stored.{Stored}
use Rattle.image_laws.specs.Opened.Images.{ImageStandsUnder}
use Rattle.reenc_recovery.specs.Images.{StandsUnder}
use Rattle.reenc_recovery.specs.Placings.{RestsIn}
use Rattle.reenc_recovery.specs.Tables.{IsSpared}
use Rattle.reenc_recovery.specs.declared.keys.SideKeys.{SideKeys}
use Rattle.recovery_laws.proofs.Resumed.OpenedImages.{table-opened, not-both, repair-again, mending-again}
use Rattle.recovery_laws.proofs.Resumed.ResumeLemmas.{told-first}
use Rattle.recovery_laws.specs.Resumed.Chaining.{GoesOnIn, StandsAgain, StopsStandAgain}
use Rattle.recovery_laws.specs.Resumed.Keeping.{AreHandedIn, IsBy, KeepsAtRepair, KeepsContent}
use Rattle.recovery_laws.specs.Resumed.Keeping.{StandsAtRepair}
use Rattle.recovery_laws.specs.Resumed.Openings.{KeepsUnled, KeepsUnopened, OpeningsKeepContent, OpensOn}
use Rattle.recovery_laws.specs.Resumed.Openings.{UnopenedKeepContent}
use Rattle.recovery_laws.specs.Resumed.Repeating.{IsTableSince, Leads, LeadsAt, MayLeave, Mends}
use Rattle.recovery_laws.specs.Resumed.Repeating.{MendsAt}
use Rattle.recovery_laws.specs.Resumed.Repeating.{ResumedAnyNumberOfTimes, Tells, at_mending, at_repair}
use Rattle.recovery_laws.specs.Resumed.Repeating.{at_work, begun, in_vain_at_mending, in_vain_at_repair}
use Rattle.recovery_laws.specs.Resumed.Repeating.{once_more}
use Rattle.recovery_laws.specs.Resumed.Resuming.{IsTakenUp, TakenUpConversionsBegin}
use Rattle.sector_disk.specs.Cells.{Cell}
use Rattle.sector_disk.specs.Devices.{Device}
use Rattle.image_laws.proofs.Started.GapLemmas.{one-header}
use Rattle.hotzone.proofs.ZoneEvents.GroundLemmas.{busy-of}
use Rattle.image_laws.specs.Led.Holding.{TellsLawfully}

-- ---- one time
module _ {C : Type 0} {sector : C → ℕ} {sealed opened : C → ℕ → List ℕ → List ℕ}
    (openings : OpeningsKeepContent sector sealed opened)
    (in_vain : UnopenedKeepContent sector sealed opened)
    (begins : TakenUpConversionsBegin sector sealed opened)
    (stops : StopsStandAgain sector sealed opened) (sizes : Sizes) (handed : SideKeys)
    (between : List ℕ) (content : List (List ℕ)) where
  found-is : (old : Joint) → (joined_disk old).values ≡ Some between
      → IsFound sector sealed opened sizes handed old → (header : Stored)
      → stored_in sizes (front_of sizes between) ≡ Ok header
      → (found : IsFound sector sealed opened sizes handed old) → found.header ≡ header
  found-is old values any header held found =
      one-header sizes between found.header header (found.held between values) held

  found-busy : (old : Joint) (found : IsFound sector sealed opened sizes handed old)
      → in_progress found.header.valid.meta.config ≡ true
  found-busy old found =
      busy-of found.header.valid.meta sizes found.passed.conversion.now found.passed.conversion.known

  module _ (old_key new_key : List ℕ) (later : Sizes) (old new : Joint) (cause : ConversionCause)
      (header : Stored) (held : stored_in sizes (front_of sizes between) ≡ Ok header)
      (values : (joined_disk old).values ≡ Some between) where
    abbrev Repair : Stored → Device → Type 0
    Repair h mended = KeepsAtRepair sizes h old_key new_key content (joined_disk old) mended

    abbrev Leading : Stored → Stored → Device → Type 0
    Leading h next mended =
        KeepsContent sizes h next old_key new_key content (joined_disk old) mended (joined_disk new)

    vain-left : (found : IsFound sector sealed opened sizes handed old) (read mended : Device)
        → (left : IsNotLedOn sector sealed opened found.header found.keys found.repair read
        (joined_disk new) cause)
        → KeepsUnled sizes old_key new_key content (joined_disk old) left → Mends left mended
        → Repair found.header mended
    vain-left found read mended (unrepaired run is) kept mends =
        subst (Repair found.header) (sym mends) kept
    vain-left found read mended (unmended before run zone is) kept mends =
        subst (Repair found.header) (sym mends) kept.at_repair
    vain-left found read mended (unarmed before run last leads is) kept mends =
        subst (Repair found.header) (sym mends) kept.at_repair

    vain-repair : (mended : Device)
        (is : IsUnopened sector sealed opened sizes later handed old new cause)
        → KeepsUnopened header old_key new_key content is → MendsAt is mended
        → Repair header mended
    vain-repair mended (uncalled same_sizes same is) kept mends = absurd mends
    vain-repair mended (unsynced same_sizes call is) kept mends = absurd mends
    vain-repair mended (only_read same_sizes run) kept mends =
        subst (Repair header) (sym mends) kept
    vain-repair mended (not_led_on found read first left) kept mends =
        subst (λ (h : Stored). Repair h mended) (found-is old values found header held found)
        (vain-left found (joined_disk read) mended left kept mends)

    vain-next : (found : IsFound sector sealed opened sizes handed old) (read mended : Device)
        (next : Stored)
        → (left : IsNotLedOn sector sealed opened found.header found.keys found.repair read
        (joined_disk new) cause)
        → KeepsUnled sizes old_key new_key content (joined_disk old) left → Leads left mended next
        → Leading found.header next mended
    vain-next found read mended next (unrepaired run is) kept leads = absurd leads
    vain-next found read mended next (unmended before run zone is) kept leads =
        subst (λ (d : Device). Leading found.header next d) (sym leads.0)
        (subst (λ (h : Stored). Leading found.header h before) (sym leads.1) kept)
    vain-next found read mended next (unarmed before run last led is) kept leads =
        subst (λ (d : Device). Leading found.header next d) (sym leads.0)
        (subst (λ (h : Stored). Leading found.header h before) (sym leads.1) kept)

    vain-leads : (mended : Device) (next : Stored)
        (is : IsUnopened sector sealed opened sizes later handed old new cause)
        → KeepsUnopened header old_key new_key content is → LeadsAt is mended next
        → Leading header next mended × (header.valid.sizes ≡ sizes)
    vain-leads mended next (uncalled same_sizes same is) kept leads = absurd leads
    vain-leads mended next (unsynced same_sizes call is) kept leads = absurd leads
    vain-leads mended next (only_read same_sizes run) kept leads = absurd leads
    vain-leads mended next (not_led_on found read first left) kept leads =
        let same = found-is old values found header held found in (
          subst (λ (h : Stored). Leading h next mended) same
              (vain-next found (joined_disk read) mended next left kept leads),
          subst (λ (h : Stored). h.valid.sizes ≡ sizes) same found.passed.sizes_are,
        )

  -- ---- the conversion went on by the bytes
  module _ (old_key new_key image : List ℕ) (keys : AreHandedIn sizes handed between old_key new_key)
      (stands : ImageStandsUnder sizes old_key new_key between content)
      (goes : GoesOnIn sizes between) where
    opens-on : (old : Joint) → Tells sizes old between
        → OpensOn sizes handed old between old_key new_key content
    opens-on old tells = record {
      has = tells.has;
      shows = tells.shows;
      values = tells.values;
      long = tells.long;
      handed_in = keys;
      stands = stands;
    }

    abbrev Left : List ℕ → Type 0
    Left bytes = StandsAgain sizes old_key new_key bytes content

    by-going : MayLeave sector sealed opened sizes handed between image → Left image
    by-going (at_repair lanes old volume cells values tells is table spared left) =
        let kept = (openings sizes handed lanes old volume between old_key new_key content
        (opens-on old tells) is).0 in
        subst Left (sym left)
        (repair-again sizes old_key new_key content is.found.header (found-busy old is.found)
        (joined_disk old) is.led.mended kept.at_repair cells values table spared)
    by-going (at_mending lanes old volume cells values tells is busy table spared left) =
        let kept = (openings sizes handed lanes old volume between old_key new_key content
        (opens-on old tells) is).0 in
        subst Left (sym left)
        (mending-again sizes old_key new_key content is.found.header is.led.last
        is.found.passed.sizes_are (joined_disk old) is.led.mended volume.disk kept busy cells values
        table spared)
    by-going (in_vain_at_repair later old new cause header mended cells values tells lawful held is
        mends table spared left) =
        let kept = in_vain sizes later handed old new cause between old_key new_key content header
        (opens-on old tells) lawful held is in
        subst Left (sym left)
        (repair-again sizes old_key new_key content header (goes header held) (joined_disk old) mended
        (vain-repair old_key new_key later old new cause header held tells.values mended is kept mends)
        cells values table spared)
    by-going (in_vain_at_mending later old new cause header next mended cells values tells lawful held
        is leads busy table spared left) =
        let kept = in_vain sizes later handed old new cause between old_key new_key content header
        (opens-on old tells) lawful held is in
        let led = vain-leads old_key new_key later old new cause header held tells.values mended next is
        kept leads in
        subst Left (sym left)
        (mending-again sizes old_key new_key content header next led.1 (joined_disk old) mended
        (joined_disk new) led.0 busy cells values table spared)
    by-going (at_work lanes old volume after answers values tells is order disks worked earlier
        later parts told told_is taken left) =
        let r : IsTakenUp sector sealed opened sizes handed lanes old volume content = record {
          first = between;
          old_key = old_key;
          new_key = new_key;
          opens = opens-on old tells;
          is = is;
          order = order;
        } in
        let (now, stands_now, b, saved) = begins sizes handed lanes old volume content r
        (inr (told-first earlier later worked parts told told_is)) in
        subst Left (sym left)
        (stops sizes is.led.last lanes old_key new_key now volume after content answers b stands_now disks
        saved worked earlier later parts told told_is values taken)

  -- ---- it was at its end
  module _ (old_key new_key image : List ℕ)
      (stands : StandsUnder sizes new_key new_key between content) (rests : RestsIn sizes between)
    where
      none-found : {A : Type 0} (old : Joint) → Tells sizes old between
          → IsFound sector sealed opened sizes handed old → A
      none-found old tells found =
          absurd (not-both (found-busy old found)
          (rests found.header (found.held between tells.values)))

      opens-idle : (old : Joint) → Tells sizes old between
          → OpensOn sizes handed old between new_key new_key content
      opens-idle old tells = record {
        has = tells.has;
        shows = tells.shows;
        values = tells.values;
        long = tells.long;
        handed_in = λ stored held now known. absurd
            (not-both (busy-of stored.valid.meta sizes now known) (rests stored held));
        stands = inl stands;
      }

      abbrev Ended : List ℕ → Type 0
      Ended bytes = StandsAgain sizes old_key new_key bytes content

      still-ended : (header : Stored) → stored_in sizes (front_of sizes between) ≡ Ok header
          → (bytes : List ℕ) → ImageStandsUnder sizes new_key new_key bytes content
          → IsBy sizes header bytes → Ended bytes
      still-ended header held bytes (inl stood) by =
          inr (
            stood,
            λ other is. subst (λ (v : Checked). in_progress v.meta.config ≡ false)
                (sym (by other is)) (rests header held),
          )
      still-ended header held bytes (inr stood) by =
          absurd (not-both (busy-of stood.stored.valid.meta sizes stood.now stood.known)
          (subst (λ (v : Checked). in_progress v.meta.config ≡ false)
          (sym (by stood.stored stood.header)) (rests header held)))

      only-read : (later : Sizes) (old new : Joint) (cause : ConversionCause) (header : Stored)
          (mended : Device) (cells : List Cell) (values : List (List ℕ)) → Tells sizes old between
          → TellsLawfully (joined_disk new)
          → stored_in sizes (front_of sizes between) ≡ Ok header
          → (is : IsUnopened sector sealed opened sizes later handed old new cause)
          → MendsAt is mended → IsTableSince 1 (joined_disk old) mended cells
          → IsSpared sizes header cells values → Ended (joined values)
      only-read later old new cause header mended cells values tells lawful held is mends table spared =
          let kept = in_vain sizes later handed old new cause between new_key new_key content header
          (opens-idle old tells) lawful held is in
          let (stood, by) = table-opened (StandsAtRepair sizes header new_key new_key content)
          (joined_disk old) mended cells
          (vain-repair new_key new_key later old new cause header held tells.values mended is kept mends)
          table values spared in
          still-ended header held (joined values) stood by

      none-leads : (later : Sizes) (old new : Joint) (cause : ConversionCause) (mended : Device)
          (next : Stored) → Tells sizes old between
          → (is : IsUnopened sector sealed opened sizes later handed old new cause)
          → LeadsAt is mended next → Ended image
      none-leads later old new cause mended next tells (uncalled same_sizes same is) leads =
          absurd leads
      none-leads later old new cause mended next tells (unsynced same_sizes call is) leads =
          absurd leads
      none-leads later old new cause mended next tells (only_read same_sizes run) leads =
          absurd leads
      none-leads later old new cause mended next tells (not_led_on found read first left) leads =
          none-found old tells found

      by-resting : MayLeave sector sealed opened sizes handed between image → Ended image
      by-resting (at_repair lanes old volume cells values tells is table spared left) =
          none-found old tells is.found
      by-resting (at_mending lanes old volume cells values tells is busy table spared left) =
          none-found old tells is.found
      by-resting (in_vain_at_repair later old new cause header mended cells values tells lawful held is
          mends table spared left) =
          subst Ended (sym left)
          (only-read later old new cause header mended cells values tells lawful held is mends table
          spared)
      by-resting (in_vain_at_mending later old new cause header next mended cells values tells lawful
          held is leads busy table spared left) =
          none-leads later old new cause mended next tells is leads
      by-resting (at_work lanes old volume after answers values tells is order disks worked earlier
          later parts told told_is taken left) = none-found old tells is.found

-- ---- any number of times
module _ {C : Type 0} {sector : C → ℕ} {sealed opened : C → ℕ → List ℕ → List ℕ}
    (openings : OpeningsKeepContent sector sealed opened)
    (in_vain : UnopenedKeepContent sector sealed opened)
    (begins : TakenUpConversionsBegin sector sealed opened)
    (stops : StopsStandAgain sector sealed opened) where
  once : (sizes : Sizes) (old_key new_key between image : List ℕ) (content : List (List ℕ))
      (handed : SideKeys) → AreHandedIn sizes handed between old_key new_key
      → StandsAgain sizes old_key new_key between content
      → MayLeave sector sealed opened sizes handed between image
      → StandsAgain sizes old_key new_key image content
  once sizes old_key new_key between image content handed keys (inl (stands, goes)) may =
      by-going openings in_vain begins stops sizes handed between content old_key new_key image keys
      stands goes may
  once sizes old_key new_key between image content handed keys (inr (stands, rests)) may =
      by-resting openings in_vain begins stops sizes handed between content old_key new_key image stands
      rests may

  pub resumed-any-times : ResumedAnyNumberOfTimes sector sealed opened
  resumed-any-times sizes old_key new_key first image content stands begun = stands
  resumed-any-times sizes old_key new_key first image content stands
      (once_more handed between image' comes keys may) =
      once sizes old_key new_key between image content handed keys
      (resumed-any-times sizes old_key new_key first between content stands comes) may
