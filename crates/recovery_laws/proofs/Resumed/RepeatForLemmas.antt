-- A conversion that is taken up again and stopped, time after time, by one passphrase: what is left stands
-- under it for the content for which the first bytes stood under it.
use Rattle.std.proofs.Common.{◌≡◌, inl, inr, ℕ, true, false, List, Ok, Result, Some, refl, subst, sym}
use Rattle.base_terms.specs.Blocks.{joined}
use Rattle.base_terms.specs.declared.failed.Failed.{Failed}
use Rattle.resume_disk.specs.OpenedMidway.Openings.{IsFound, IsNotLedOn, IsUnopened, not_led_on}
use Rattle.resume_disk.specs.OpenedMidway.Openings.{only_read}
use Rattle.resume_disk.specs.OpenedMidway.Openings.{unarmed, uncalled, unmended, unrepaired}
use Rattle.resume_disk.specs.OpenedMidway.Openings.{unsynced}
use Rattle.resume_disk.specs.OpenedMidway.Runs.{LeadsTo, MendsZone, mends, rests}
use Rattle.resume_disk.specs.declared.midway.fault.ConversionCause.{ConversionCause}
use Rattle.base_terms.specs.declared.disk_sizes.Sizes.{Sizes}
use Rattle.hotzone.specs.Workers.{MayGoOn}
use Rattle.sector_disk.specs.JoinedDisks.Joined.{Joint, joined_disk}
use Rattle.luks_rules.specs.Segments.{in_progress}
use Rattle.luks_rules.specs.Shapes.{progress_of}
use Rattle.luks_rules.specs.declared.shape.Progress.{Progress}
use Rattle.luks_rules.specs.declared.valid.Checked.{Checked}
use Rattle.luks_store.specs.Devices.{front_of}
use Rattle.luks_store.specs.Loads.{stored_in}
use Rattle.luks_store.specs.declared.loaded.Stored.{Stored}
use Rattle.image_laws.specs.Opened.Images.{ImageStandsFor}
use Rattle.reenc_recovery.specs.Calls.{RepairRun, SyncsAndReads}
use Rattle.reenc_recovery.specs.Images.{StandsFor}
use Rattle.reenc_recovery.specs.Placings.{RestsIn}
use Rattle.reenc_recovery.specs.Tables.{IsSpared}
use Rattle.reenc_recovery.specs.declared.keys.SideKeys.{SideKeys}
use Rattle.recovery_laws.proofs.Resumed.ChainLemmas.{ChainLaws}
use Rattle.recovery_laws.proofs.Resumed.OpenForLemmas.{AtMendingFor, AtRepairFor, ForLaws, failed-for}
use Rattle.recovery_laws.proofs.Resumed.OpenForLemmas.{led-for, mended-for, read-for}
use Rattle.recovery_laws.proofs.Resumed.OpenedImages.{by-one, goes-by, moved-known, not-both, table-on}
use Rattle.recovery_laws.proofs.Resumed.OpenedImages.{table-opened}
use Rattle.recovery_laws.proofs.Resumed.ResumeLemmas.{told-first}
use Rattle.recovery_laws.proofs.Resumed.TakenForLemmas.{SlotLaws, begins-for, stops-for}
use Rattle.recovery_laws.specs.Resumed.Chaining.{GoesOnIn}
use Rattle.recovery_laws.specs.Resumed.Keeping.{IsBy, TellsOpened}
use Rattle.recovery_laws.specs.Resumed.Passphrases.{AreGiven, IsTakenUpFor}
use Rattle.recovery_laws.specs.Resumed.Passphrases.{ResumedAnyNumberOfTimesFor, StandsAgainFor}
use Rattle.recovery_laws.specs.Resumed.Passphrases.{StopsStandForPassphrases, begun, once_more}
use Rattle.recovery_laws.specs.Resumed.Repeating.{IsTableSince, Leads, LeadsAt, MayLeave, Mends, MendsAt}
use Rattle.recovery_laws.specs.Resumed.Repeating.{Tells, at_mending, at_repair, at_work}
use Rattle.recovery_laws.specs.Resumed.Repeating.{in_vain_at_mending, in_vain_at_repair}
use Rattle.recovery_laws.specs.Resumed.Resuming.{TakenUpConversionsBegin}
use Rattle.sector_disk.specs.Cells.{Cell}
use Rattle.sector_disk.specs.Devices.{Device, failed_call, succeeded}
use Rattle.image_laws.proofs.Started.GapLemmas.{one-header}
use Rattle.volume_machine.specs.declared.keys.Keys.{Keys}
use Rattle.hotzone.proofs.ZoneEvents.GroundLemmas.{busy-of}
use Rattle.image_laws.specs.Led.Holding.{TellsLawfully}
use Rattle.image_laws.specs.Led.Spared.{IsSparedTurn}
use Rattle.image_laws.specs.Led.Turned.{StandsForBy}

-- ---- images of an opening
module _ (sizes : Sizes) (pass : List ℕ) (content : List (List ℕ)) where
  abbrev Again : List ℕ → Type 0
  Again image = StandsAgainFor sizes pass image content

  repair-for : (header : Stored) → in_progress header.valid.meta.config ≡ true
      → (old mended : Device) → TellsOpened (AtRepairFor sizes header pass content) old mended
      → (cells : List Cell) (values : List (List ℕ)) → IsTableSince 1 old mended cells
      → IsSpared sizes header cells values → Again (joined values)
  repair-for header busy old mended kept cells values table spared =
      let (stands, by) = table-opened (AtRepairFor sizes header pass content) old mended cells kept
      table values spared in
      inl (stands, goes-by sizes (joined values) header busy by)

  turned-for : (header next : Stored) (p : Progress)
      → progress_of next.valid.meta sizes ≡ Some p → (image : List ℕ)
      → StandsForBy sizes header next pass image content → Again image
  turned-for header next p known image (inl still) =
      let s = still.stands.stands in
      inl (
        inr still.stands,
        goes-by sizes image s.stored (busy-of s.stored.valid.meta sizes s.now s.known)
            (by-one sizes image s.stored s.stored s.header refl),
      )
  turned-for header next p known image (inr turned) =
      inl (
        inl turned.stands,
        goes-by sizes image next (busy-of next.valid.meta sizes p known)
            (by-one sizes image turned.stands.stands.stored next turned.stands.stands.header
            turned.valid),
      )

-- a disk that was mended tells lawfully, as the one behind it does
lawful-before : {C : Type 0} {sector : C → ℕ} {sealed opened : C → ℕ → List ℕ → List ℕ}
    (header : Stored) (keys : Keys C) (mended new : Device) (last : Stored)
    → LeadsTo sector sealed opened header keys mended new last → TellsLawfully new
    → TellsLawfully mended
lawful-before header keys mended new last (rests may same is) tells = subst TellsLawfully same tells
lawful-before header keys mended new last (mends zone is) tells = zone.tells

-- ---- one time
module _ {C : Type 0} {sector : C → ℕ} {sealed opened : C → ℕ → List ℕ → List ℕ}
    (laws : ForLaws sector sealed opened) (begins : TakenUpConversionsBegin sector sealed opened)
    (chain : ChainLaws sector sealed opened) (slots : SlotLaws C) (sizes : Sizes)
    (handed : SideKeys) (pass between : List ℕ) (content : List (List ℕ))
    (given : AreGiven sizes pass handed between) where
  abbrev Left : List ℕ → Type 0
  Left bytes = StandsAgainFor sizes pass bytes content

  found-busy : (old : Joint) (found : IsFound sector sealed opened sizes handed old)
      → in_progress found.header.valid.meta.config ≡ true
  found-busy old found =
      busy-of found.header.valid.meta sizes found.passed.conversion.now found.passed.conversion.known

  -- ---- the conversion went on by the bytes, or was at its end
  module _ (stands : ImageStandsFor sizes pass between content) where
    -- a zone was written again
    module _ (old : Joint) (tells : Tells sizes old between)
        (found : IsFound sector sealed opened sizes handed old) (read : Joint)
        (first : SyncsAndReads old read) (mended : Device)
        (repairs : RepairRun found.repair (joined_disk read) mended succeeded)
        (lawful : TellsLawfully mended) where
      mended-left : (cells : List Cell) (values : List (List ℕ))
          → IsTableSince 1 (joined_disk old) mended cells
          → IsSpared sizes found.header cells values → Left (joined values)
      mended-left cells values table spared =
          repair-for sizes pass content found.header (found-busy old found) (joined_disk old) mended
          (mended-for laws sizes handed old pass between content tells given stands found read first
          mended repairs lawful) cells values table spared

      zone-left : (result : Result (Unit {0}) Failed) (last : Device)
          (zone : MendsZone sector sealed opened found.header found.keys mended last result)
          (cells : List Cell) (values : List (List ℕ)) → IsTableSince 0 mended last cells
          → IsSparedTurn sizes found.header zone.after.moved.loaded cells values
          → Left (joined values)
      zone-left result last zone cells values table spared =
          let (p, known) = moved-known sizes found.header zone.after.moved.loaded
          found.passed.sizes_are zone.after.moved zone.moves refl in
          turned-for sizes pass content found.header zone.after.moved.loaded p known (joined values)
          (table-on (AtMendingFor sizes found.header zone.after.moved.loaded pass content) mended last
          cells
          (led-for laws sizes handed old pass between content tells given stands found read first mended
          repairs lawful result last zone) table values spared)

      leads-left : (last : Stored) (new : Device)
          → LeadsTo sector sealed opened found.header found.keys mended new last
          → (MayGoOn found.header → ⊥) → (cells : List Cell) (values : List (List ℕ))
          → IsTableSince 0 mended new cells → IsSparedTurn sizes found.header last cells values
          → Left (joined values)
      leads-left last new (rests may same is) busy cells values table spared = absurd (busy may)
      leads-left last new (mends zone is) busy cells values table spared =
          zone-left succeeded new zone cells values table
          (subst (λ (next : Stored). IsSparedTurn sizes found.header next cells values) is spared)

    -- ---- an opening that came to nothing
    module _ (later : Sizes) (old new : Joint) (cause : ConversionCause)
        (tells : Tells sizes old between) (lawful : TellsLawfully (joined_disk new))
        (header : Stored) (held : stored_in sizes (front_of sizes between) ≡ Ok header)
        (cells : List Cell) (values : List (List ℕ)) where
      found-is : (found : IsFound sector sealed opened sizes handed old) → header ≡ found.header
      found-is found =
          one-header sizes between header found.header held (found.held between tells.values)

      vain-left : (found : IsFound sector sealed opened sizes handed old) (read : Joint)
          → SyncsAndReads old read → (mended : Device)
          → (left : IsNotLedOn sector sealed opened found.header found.keys found.repair
          (joined_disk read) (joined_disk new) cause) → Mends left mended
          → IsTableSince 1 (joined_disk old) mended cells
          → IsSpared sizes found.header cells values → Left (joined values)
      vain-left found read first mended (unrepaired run is) same table spared =
          repair-for sizes pass content found.header (found-busy old found) (joined_disk old)
          (joined_disk new)
          (failed-for laws sizes handed old pass between content tells given stands found
          (joined_disk new) lawful read first run) cells values
          (subst (λ (d : Device). IsTableSince 1 (joined_disk old) d cells) same table) spared
      vain-left found read first mended (unmended before run zone is) same table spared =
          mended-left old tells found read first before run zone.tells cells values
          (subst (λ (d : Device). IsTableSince 1 (joined_disk old) d cells) same table) spared
      vain-left found read first mended (unarmed before run last leads is) same table spared =
          mended-left old tells found read first before run
          (lawful-before found.header found.keys before (joined_disk new) last leads lawful) cells values
          (subst (λ (d : Device). IsTableSince 1 (joined_disk old) d cells) same table) spared

      vain-leads : (found : IsFound sector sealed opened sizes handed old) (read : Joint)
          → SyncsAndReads old read → (mended : Device) (next : Stored)
          → (left : IsNotLedOn sector sealed opened found.header found.keys found.repair
          (joined_disk read) (joined_disk new) cause) → Leads left mended next
          → (MayGoOn found.header → ⊥) → IsTableSince 0 mended (joined_disk new) cells
          → IsSparedTurn sizes found.header next cells values → Left (joined values)
      vain-leads found read first mended next (unrepaired run is) leads busy table spared =
          absurd leads
      vain-leads found read first mended next (unmended before run zone is) leads busy table spared =
          zone-left old tells found read first before run zone.tells failed_call (joined_disk new) zone
          cells values
          (subst (λ (d : Device). IsTableSince 0 d (joined_disk new) cells) leads.0 table)
          (subst (λ (n : Stored). IsSparedTurn sizes found.header n cells values) leads.1 spared)
      vain-leads found read first mended next (unarmed before run last led is) leads busy table spared =
          leads-left old tells found read first before run
          (lawful-before found.header found.keys before (joined_disk new) last led lawful) last
          (joined_disk new) led busy cells values
          (subst (λ (d : Device). IsTableSince 0 d (joined_disk new) cells) leads.0 table)
          (subst (λ (n : Stored). IsSparedTurn sizes found.header n cells values) leads.1 spared)

  -- ---- it went on
  module _ (stands : ImageStandsFor sizes pass between content) (goes : GoesOnIn sizes between)
      (image : List ℕ) where
    by-going : MayLeave sector sealed opened sizes handed between image → Left image
    by-going (at_repair lanes old volume cells values tells is table spared left) =
        subst Left (sym left)
        (mended-left stands old tells is.found is.read is.first is.led.mended is.led.repairs
        (lawful-before is.found.header is.found.keys is.led.mended volume.disk is.led.last is.led.leads
        is.led.tells) cells values table spared)
    by-going (at_mending lanes old volume cells values tells is busy table spared left) =
        subst Left (sym left)
        (leads-left stands old tells is.found is.read is.first is.led.mended is.led.repairs
        (lawful-before is.found.header is.found.keys is.led.mended volume.disk is.led.last is.led.leads
        is.led.tells) is.led.last volume.disk is.led.leads busy cells values table spared)
    by-going (in_vain_at_repair later old new cause header mended cells values tells lawful held is same
        table spared left) =
        subst Left (sym left) (go is same)
      where
        go : (is : IsUnopened sector sealed opened sizes later handed old new cause)
            → MendsAt is mended → Left (joined values)
        go (uncalled same_sizes kept by) at = absurd at
        go (unsynced same_sizes call by) at = absurd at
        go (only_read same_sizes run) at =
            repair-for sizes pass content header (goes header held) (joined_disk old) (joined_disk new)
            (read-for laws sizes handed old pass between content tells given stands header held new run)
            cells values
            (subst (λ (d : Device). IsTableSince 1 (joined_disk old) d cells) at table) spared
        go (not_led_on found read first by) at =
            vain-left stands later old new cause tells lawful header held cells values found read first
            mended by at table
            (subst (λ (h : Stored). IsSpared sizes h cells values)
            (found-is stands later old new cause tells lawful header held cells values found) spared)
    by-going (in_vain_at_mending later old new cause header next mended cells values tells lawful held
        is leads busy table spared left) =
        subst Left (sym left) (go is leads)
      where
        go : (is : IsUnopened sector sealed opened sizes later handed old new cause)
            → LeadsAt is mended next → Left (joined values)
        go (uncalled same_sizes kept by) at = absurd at
        go (unsynced same_sizes call by) at = absurd at
        go (only_read same_sizes run) at = absurd at
        go (not_led_on found read first by) at =
            let same = found-is stands later old new cause tells lawful header held cells values found in
            vain-leads stands later old new cause tells lawful header held cells values found read first
            mended next by at (subst (λ (h : Stored). MayGoOn h → ⊥) same busy) table
            (subst (λ (h : Stored). IsSparedTurn sizes h next cells values) same spared)
    by-going (at_work lanes old volume after answers values tells is order disks worked earlier later parts
        told told_is taken left) =
        let r : IsTakenUpFor sector sealed opened sizes handed lanes old volume pass content = record {
          first = between;
          tells = tells;
          given = given;
          stands = stands;
          is = is;
          order = order;
        } in
        let start = begins-for laws begins sizes handed lanes old volume pass content r
        (inr (told-first earlier later worked parts told told_is)) in
        subst Left (sym left)
        (stops-for chain slots sizes is.led.last lanes pass start.now volume after content answers
        start.stands start.begins disks start.saved worked earlier later parts told told_is values taken)

  -- ---- it was at its end
  module _ (stands : StandsFor sizes pass between content) (rested : RestsIn sizes between)
      (image : List ℕ) where
    none-found : {A : Type 0} (old : Joint) → Tells sizes old between
        → IsFound sector sealed opened sizes handed old → A
    none-found old tells found =
        absurd (not-both (found-busy old found)
        (rested found.header (found.held between tells.values)))

    still-ended : (header : Stored) → stored_in sizes (front_of sizes between) ≡ Ok header
        → (bytes : List ℕ) → ImageStandsFor sizes pass bytes content → IsBy sizes header bytes
        → Left bytes
    still-ended header held bytes (inl stood) by =
        inr (
          stood,
          λ other is. subst (λ (v : Checked). in_progress v.meta.config ≡ false) (sym (by other is))
              (rested header held),
        )
    still-ended header held bytes (inr stood) by =
        let s = stood.stands in
        absurd (not-both (busy-of s.stored.valid.meta sizes s.now s.known)
        (subst (λ (v : Checked). in_progress v.meta.config ≡ false) (sym (by s.stored s.header))
        (rested header held)))

    by-resting : MayLeave sector sealed opened sizes handed between image → Left image
    by-resting (at_repair lanes old volume cells values tells is table spared left) =
        none-found old tells is.found
    by-resting (at_mending lanes old volume cells values tells is busy table spared left) =
        none-found old tells is.found
    by-resting (in_vain_at_repair later old new cause header mended cells values tells lawful held is
        same table spared left) =
        subst Left (sym left) (go is same)
      where
        go : (is : IsUnopened sector sealed opened sizes later handed old new cause)
            → MendsAt is mended → Left (joined values)
        go (uncalled same_sizes kept by) at = absurd at
        go (unsynced same_sizes call by) at = absurd at
        go (only_read same_sizes run) at =
            let (stood, by) = table-opened (AtRepairFor sizes header pass content) (joined_disk old)
            (joined_disk new) cells
            (read-for laws sizes handed old pass between content tells given (inl stands) header held new
            run) (subst (λ (d : Device). IsTableSince 1 (joined_disk old) d cells) at table) values spared in
            still-ended header held (joined values) stood by
        go (not_led_on found read first by) at = none-found old tells found
    by-resting (in_vain_at_mending later old new cause header next mended cells values tells lawful
        held is leads busy table spared left) =
        go is leads
      where
        go : (is : IsUnopened sector sealed opened sizes later handed old new cause)
            → LeadsAt is mended next → Left image
        go (uncalled same_sizes kept by) at = absurd at
        go (unsynced same_sizes call by) at = absurd at
        go (only_read same_sizes run) at = absurd at
        go (not_led_on found read first by) at = none-found old tells found
    by-resting (at_work lanes old volume after answers values tells is order disks worked earlier later
        parts told told_is taken left) = none-found old tells is.found

-- ---- any number of times
module _ {C : Type 0} {sector : C → ℕ} {sealed opened : C → ℕ → List ℕ → List ℕ}
    (laws : ForLaws sector sealed opened) (begins : TakenUpConversionsBegin sector sealed opened)
    (chain : ChainLaws sector sealed opened) (slots : SlotLaws C) where
  pub once-for : StopsStandForPassphrases sector sealed opened
  once-for sizes handed pass first image content (inl (stands, goes)) given may =
      by-going laws begins chain slots sizes handed pass first content given stands goes image may
  once-for sizes handed pass first image content (inr (stands, rested)) given may =
      by-resting laws begins chain slots sizes handed pass first content given stands rested image may

pub any-times-for : {C : Type 0} {sector : C → ℕ} {sealed opened : C → ℕ → List ℕ → List ℕ}
    → StopsStandForPassphrases sector sealed opened
    → ResumedAnyNumberOfTimesFor sector sealed opened
any-times-for once sizes pass first image content stands begun = stands
any-times-for once sizes pass first image content stands
    (once_more handed between image' comes given may) =
    once sizes handed pass between image content
    (any-times-for once sizes pass first between content stands comes) given may
