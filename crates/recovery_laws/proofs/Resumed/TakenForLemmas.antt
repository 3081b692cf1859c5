-- A volume that is taken up again begins in bytes that stand for what its disks stood for under a
-- passphrase, under the same passphrase; and so does each stop of its worker.
use Rattle.std.proofs.Common.{◌≡◌, ◌∙◌, ◌++◌, inl, inr, ℕ, true, false, List, Ok, Some, ap, arith}
use Rattle.std.proofs.Common.{subst, sym}
use Rattle.base_terms.specs.Blocks.{joined}
use Rattle.resume_disk.specs.OpenedMidway.Runs.{LeadsTo, mends, rests}
use Rattle.base_terms.specs.declared.disk_sizes.Sizes.{Sizes}
use Rattle.hotzone.specs.Sites.{IsSaved}
use Rattle.hotzone.specs.Workers.{MayGoOn}
use Rattle.sector_disk.specs.JoinedDisks.Joined.{Joint}
use Rattle.luks_meta.specs.declared.meta.Parts.{Parts}
use Rattle.luks_rules.specs.Shapes.{progress_of}
use Rattle.luks_rules.specs.declared.extents.Extent.{Extent}
use Rattle.luks_rules.specs.declared.shape.Progress.{Progress}
use Rattle.luks_rules.specs.declared.valid.Checked.{Checked}
use Rattle.luks_store.specs.Devices.{front_of}
use Rattle.luks_store.specs.Loads.{stored_in}
use Rattle.luks_store.specs.Promises.{AreasBeginBehind}
use Rattle.luks_store.specs.declared.loaded.Stored.{Stored}
use Rattle.reenc_recovery.proofs.PlacingLemmas.{is_idle}
use Rattle.reenc_recovery.specs.Images.{StandsFor, StandsUnder}
use Rattle.reenc_recovery.specs.Keys.{key_for}
use Rattle.reenc_recovery.specs.declared.keys.SideKeys.{SideKeys}
use Rattle.reenc_worker.specs.declared.ends.WorkAnswer.{WorkAnswer}
use Rattle.recovery_laws.proofs.Resumed.ChainLemmas.{ChainLaws, again, alone, are, by, even, gives}
use Rattle.recovery_laws.proofs.Resumed.ChainLemmas.{says, starts}
use Rattle.recovery_laws.proofs.Resumed.GuardLemmas.{not-shifted}
use Rattle.recovery_laws.proofs.Resumed.KeptSlots.{first-parts, image-for}
use Rattle.recovery_laws.proofs.Resumed.OpenForLemmas.{ForLaws, closed-both, keys, led-keys}
use Rattle.recovery_laws.proofs.Resumed.OpenForLemmas.{now-bytes, now-keys, opens}
use Rattle.recovery_laws.proofs.Resumed.OpeningLemmas.{no-zone, some-zone}
use Rattle.recovery_laws.specs.Resumed.Chaining.{AreDisks}
use Rattle.recovery_laws.specs.Resumed.Openings.{IsKnownBehind}
use Rattle.recovery_laws.specs.Resumed.Passphrases.{IsTakenUpFor, StandsAgainFor}
use Rattle.recovery_laws.specs.Resumed.Passphrases.{TakenUpConversionsBeginFor}
use Rattle.recovery_laws.specs.Resumed.Resuming.{IsTakenUp, TakenUpConversionsBegin, both_of}
use Rattle.recovery_laws.specs.Resumed.Starts.{BeginsBehind, layout_on, volume_seals}
use Rattle.sector_disk.specs.Devices.{Device, succeeded}
use Rattle.sector_disk.specs.Steps.{Told}
use Rattle.image_laws.specs.Sides.Keys.{SidesGiveTheirKeys}
use Rattle.image_laws.proofs.Started.BlockLemmas.{progress-busy}
use Rattle.image_laws.proofs.Started.GapLemmas.{one-header}
use Rattle.volume_laws.specs.Handing.{handed_over}
use Rattle.volume_laws.specs.Imaging.{IsTaken}
use Rattle.volume_machine.specs.Deeds.{Deed, state_after}
use Rattle.volume_machine.specs.States.{State}
use Rattle.volume_machine.specs.declared.keys.Keys.{Keys}
use Rattle.volume_laws.specs.WorkerRuns.Leaving.{DeedsLeaveTheRest}
use Rattle.volume_laws.specs.WorkerRuns.Steps.{HasWorked}
use Rattle.hotzone.proofs.ZoneEvents.GroundLemmas.{one-progress}
use Rattle.hotzone.proofs.ZoneEvents.TellLemmas.{guard-told}
use Rattle.hotzone.specs.ZoneEvents.Heads.{header_on}
use Rattle.hotzone.specs.ZoneEvents.Readings.{reading_of}
use Rattle.hotzone.specs.ZoneEvents.Sides.{SidesAreTold}
use Rattle.image_laws.specs.Led.Holding.{TellsLawfully}

-- ---- behind an opening
module _ {C : Type 0} {sector : C → ℕ} {sealed opened : C → ℕ → List ℕ → List ℕ}
    (laws : ForLaws sector sealed opened) (begins : TakenUpConversionsBegin sector sealed opened)
    (sizes : Sizes) (handed : SideKeys) (lanes : ℕ) (old : Joint) (volume : State (Keys C))
    (pass : List ℕ) (content : List (List ℕ))
    (r : IsTakenUpFor sector sealed opened sizes handed lanes old volume pass content)
    (behind : IsKnownBehind r.is.found.header volume.disk) where
  abbrev old-key : List ℕ
  old-key = (keys laws sizes handed old pass r.first content r.tells r.given r.stands).old

  abbrev new-key : List ℕ
  new-key = (keys laws sizes handed old pass r.first content r.tells r.given r.stands).new

  abbrev pub taken : IsTakenUp sector sealed opened sizes handed lanes old volume content
  taken = record {
    first = r.first;
    old_key = old-key;
    new_key = new-key;
    opens = opens laws sizes handed old pass r.first content r.tells r.given r.stands;
    is = r.is;
    order = r.order;
  }

  module _ (now : List ℕ) (values : volume.disk.values ≡ Some now) (stored : Stored)
      (held : stored_in sizes (front_of sizes now) ≡ Ok stored) (p : Progress) where
    abbrev Give : Stored → Type 0
    Give last = (key_for last.valid.meta now pass p.old ≡ Some old-key)
        × (key_for last.valid.meta now pass p.new ≡ Some new-key)

    -- nothing was done behind the repair
    by-bytes : volume.disk ≡ r.is.led.mended → (all : List ℕ) → r.is.led.mended.values ≡ Some all
        → (key_for r.is.found.header.valid.meta all pass r.is.found.passed.conversion.now.old
        ≡ Some old-key)
        × (key_for r.is.found.header.valid.meta all pass r.is.found.passed.conversion.now.new
        ≡ Some new-key)
        → progress_of r.is.found.header.valid.meta sizes ≡ Some p → Give r.is.found.header
    by-bytes same all bytes own known =
        let here : all ≡ now =
        (let e : Some all ≡ Some now =
        sym bytes ∙ sym (ap (λ (d : Device). d.values) same) ∙ values in cc) in
        let at = one-progress r.is.found.header.valid.meta sizes r.is.found.passed.conversion.now p
        r.is.found.passed.conversion.known known in
        subst (λ (text : List ℕ).
        (key_for r.is.found.header.valid.meta text pass p.old ≡ Some old-key)
        × (key_for r.is.found.header.valid.meta text pass p.new ≡ Some new-key)) here
        (subst (λ (q : Progress).
        (key_for r.is.found.header.valid.meta all pass q.old ≡ Some old-key)
        × (key_for r.is.found.header.valid.meta all pass q.new ≡ Some new-key)) at own)

    by-rest : MayGoOn r.is.found.header → volume.disk ≡ r.is.led.mended
        → progress_of r.is.found.header.valid.meta sizes ≡ Some p → Give r.is.found.header
    by-rest may same known =
        let lawful = subst TellsLawfully same r.is.led.tells in
        by-bytes same _
        (now-bytes laws sizes handed old pass r.first content r.tells r.given r.stands r.is.found
        r.is.read r.is.first r.is.led.mended r.is.led.repairs lawful)
        (now-keys laws sizes handed old pass r.first content r.tells r.given r.stands r.is.found
        r.is.read r.is.first r.is.led.mended r.is.led.repairs lawful) known

    by-leads : (last : Stored)
        → LeadsTo sector sealed opened r.is.found.header r.is.found.keys r.is.led.mended volume.disk
        last → stored.valid ≡ last.valid → progress_of last.valid.meta sizes ≡ Some p → Give last
    by-leads last (rests may same is_last) alike known =
        subst Give (sym is_last)
        (by-rest may same
        (subst (λ (h : Stored). progress_of h.valid.meta sizes ≡ Some p) is_last known))
    by-leads last (mends zone is_last) alike known = elim behind as (λ _. Give last) [
      | inl may ↦ absurd (let none = no-zone laws.opening sizes handed old r.first old-key new-key
          content taken.opens r.is.found may in let some = some-zone laws.opening sizes handed old r.first
          old-key new-key content taken.opens r.is.found r.is.read r.is.first r.is.led.mended
          r.is.led.repairs zone.tells succeeded volume.disk zone in omega (arith, none, some))
      | inr tells ↦ subst Give (sym is_last)
          (led-keys laws sizes handed old pass r.first content r.tells r.given r.stands r.is.found
          r.is.read r.is.first r.is.led.mended r.is.led.repairs zone.tells volume.disk zone tells.0
          tells.1 now values stored held
          (subst (λ (h : Stored). stored.valid ≡ h.valid) is_last alike) p
          (subst (λ (h : Stored). progress_of h.valid.meta sizes ≡ Some p) is_last known))
    ]

  -- the bytes stand under the passphrase
  module _ (now : List ℕ) (stands : StandsUnder sizes old-key new-key now content)
      (b : BeginsBehind sector sealed opened sizes r.is.led.last lanes old-key new-key now volume)
    where
      given-last : (key_for r.is.led.last.valid.meta now pass b.now.old ≡ Some old-key)
          × (key_for r.is.led.last.valid.meta now pass b.now.new ≡ Some new-key)
      given-last =
          by-leads now b.holds.holds.values b.holds.holds.stored b.holds.holds.held b.now r.is.led.last
          r.is.led.leads b.holds.holds.same b.known

      same : stands.stored.valid.meta ≡ r.is.led.last.valid.meta
      same =
          ap (λ (s : Stored). s.valid.meta)
          (one-header sizes now stands.stored b.holds.holds.stored stands.header b.holds.holds.held)
          ∙ ap (λ (v : Checked). v.meta) b.holds.holds.same

      sides : (stands.placement.old ≡ b.now.old) × (stands.placement.new ≡ b.now.new)
      sides =
          let here = subst (λ (m : Parts). progress_of m sizes ≡ Some b.now) (sym same) b.known in
          elim stands.placed [
            | inl idle ↦ absurd (let e : false ≡ true =
                sym (is_idle stands.stored.valid.meta sizes stands.placement idle)
                ∙ progress-busy stands.stored.valid.meta sizes b.now here in cc)
            | inr (c, is, placed) ↦
                (let one = one-progress stands.stored.valid.meta sizes c b.now is here in (
                  placed.old ∙ ap (λ (p : Progress). p.old) one,
                  placed.new ∙ ap (λ (p : Progress). p.new) one,
                ))
          ]

      pub stands-now : StandsFor sizes pass now content
      stands-now = record {
        old = old-key;
        new = new-key;
        stands = stands;
        old_is = ap (λ (m : Parts). key_for m now pass stands.placement.old) same
            ∙ ap (λ (e : Extent). key_for r.is.led.last.valid.meta now pass e) sides.0
            ∙ given-last.0;
        new_is = ap (λ (m : Parts). key_for m now pass stands.placement.new) same
            ∙ ap (λ (e : Extent). key_for r.is.led.last.valid.meta now pass e) sides.1
            ∙ given-last.1;
      }

-- what it begins in
pub record BeginsFor {C : Type 0} (sector : C → ℕ) (sealed opened : C → ℕ → List ℕ → List ℕ)
    (sizes : Sizes) (header : Stored) (lanes : ℕ) (volume : State (Keys C)) (pass : List ℕ)
    (content : List (List ℕ)) : Type 0 where
  pub now : List ℕ
  pub stands : StandsFor sizes pass now content
  pub begins : BeginsBehind sector sealed opened sizes header lanes stands.old stands.new now volume
  pub saved : IsSaved begins.now.conversion.resilience

pub begins-for : {C : Type 0} {sector : C → ℕ} {sealed opened : C → ℕ → List ℕ → List ℕ}
    → ForLaws sector sealed opened → TakenUpConversionsBegin sector sealed opened → (sizes : Sizes)
    (handed : SideKeys) (lanes : ℕ) (old : Joint) (volume : State (Keys C)) (pass : List ℕ)
    (content : List (List ℕ))
    (r : IsTakenUpFor sector sealed opened sizes handed lanes old volume pass content)
    → IsKnownBehind r.is.found.header volume.disk
    → BeginsFor sector sealed opened sizes r.is.led.last lanes volume pass content
unfolding stands-now
begins-for laws begins sizes handed lanes old volume pass content r behind =
    let start = begins sizes handed lanes old volume content
    (taken laws begins sizes handed lanes old volume pass content r behind) behind in
    record {
      now = start.0;
      stands = stands-now laws begins sizes handed lanes old volume pass content r behind start.0
          start.1 start.2;
      begins = start.2;
      saved = start.3;
    }

pub taken-begin-for : {C : Type 0} {sector : C → ℕ} {sealed opened : C → ℕ → List ℕ → List ℕ}
    → ForLaws sector sealed opened → TakenUpConversionsBegin sector sealed opened
    → TakenUpConversionsBeginFor sector sealed opened
taken-begin-for laws begins sizes handed lanes old volume pass content r behind =
    let start = begins-for laws begins sizes handed lanes old volume pass content r behind in
    (start.now, start.stands, start.begins, start.saved)

-- ---- keys by the header behind which a volume begins
pub given-by : {C : Type 0} {sector : C → ℕ} {sealed opened : C → ℕ → List ℕ → List ℕ}
    (sizes : Sizes) (header : Stored) (lanes : ℕ) (pass bytes : List ℕ) (volume : State (Keys C))
    (content : List (List ℕ)) (s : StandsFor sizes pass bytes content)
    (b : BeginsBehind sector sealed opened sizes header lanes s.old s.new bytes volume)
    → (key_for header.valid.meta bytes pass b.now.old ≡ Some s.old)
    × (key_for header.valid.meta bytes pass b.now.new ≡ Some s.new)
given-by sizes header lanes pass bytes volume content s b =
    let known = subst (λ (v : Checked). progress_of v.meta sizes ≡ Some b.now)
    (sym b.holds.holds.same) b.known in
    subst (λ (v : Checked). (key_for v.meta bytes pass b.now.old ≡ Some s.old)
    × (key_for v.meta bytes pass b.now.new ≡ Some s.new)) b.holds.holds.same
    (closed-both sizes pass bytes content s b.holds.holds.stored b.holds.holds.held b.now known)

-- ---- at a stop of its worker
pub record SlotLaws (C : Type 0) : Type 0 where
  pub leaves : DeedsLeaveTheRest C
  pub areas : AreasBeginBehind
  pub told : SidesAreTold
  pub given : SidesGiveTheirKeys

pub stops-for : {C : Type 0} {sector : C → ℕ} {sealed opened : C → ℕ → List ℕ → List ℕ}
    (chain : ChainLaws sector sealed opened) (slots : SlotLaws C) (sizes : Sizes) (header : Stored)
    (lanes : ℕ) (pass bytes : List ℕ) (volume after : State (Keys C)) (content : List (List ℕ))
    (answers : List WorkAnswer) (s : StandsFor sizes pass bytes content)
    (b : BeginsBehind sector sealed opened sizes header lanes s.old s.new bytes volume)
    → AreDisks sizes volume.disk → IsSaved b.now.conversion.resilience
    → (worked : HasWorked (reading_of sizes) (volume_seals sealed opened volume) volume after answers)
    → (earlier later : List (Deed (Keys C))) → worked.deeds ≡ earlier ++ later → (told : Told)
    → (state_after volume earlier).disk.told ≡ Some told → (image : List (List ℕ))
    → IsTaken (reading_of sizes) (state_after volume earlier)
    (handed_over volume (both_of (header_on header)) earlier) told.now image
    → StandsAgainFor sizes pass (joined image) content
stops-for {C} {sector} {sealed} {opened} chain slots sizes header lanes pass bytes volume after content answers s b disks saved worked
    earlier later parts told told_is image taken_is =
    let given = given-by sizes header lanes pass bytes volume content s b in
    let start = starts chain sizes header lanes s.old s.new bytes volume content b s.stands disks saved in
    let deeds = are chain sizes header lanes s.old s.new bytes volume content b s.stands disks saved after
    answers worked earlier later parts told told_is image taken_is in
    let by_here = by chain sizes header lanes s.old s.new bytes volume content b s.stands disks saved after
    answers worked earlier later parts told told_is image taken_is in
    image-for sizes header lanes s.old s.new bytes volume b start.0.at_rest chain.spelt slots.areas
    (state_after volume earlier)
    (slots.leaves (reading_of sizes) (volume_seals sealed opened volume) (layout_on sizes header)
    (header_on header) volume earlier b.order start.0.at_rest
    (λ shifts. not-shifted b.now.conversion.resilience saved
    (sym (guard-told sizes (header_on header).means header.valid.meta (Some b.now)
    (first-parts sizes header lanes s.old s.new bytes volume b start.0.at_rest chain.spelt slots.areas)
    b.known) ∙ shifts)) deeds)
    slots.told slots.given chain.given pass given.0 given.1 by_here.header
    (λ work at. (alone chain sizes header lanes s.old s.new bytes volume content b s.stands disks saved
    after answers worked earlier later parts told told_is image taken_is).3 work at by_here.header
    by_here.gives)
    (says chain sizes header lanes s.old s.new bytes volume content b s.stands disks saved after answers
    worked earlier later parts told told_is image taken_is) content told told_is image
    (state_after volume earlier).disk.atoms taken_is.is
    (even chain sizes header lanes s.old s.new bytes volume content b s.stands disks saved after answers
    worked earlier later parts told told_is image taken_is)
    (gives chain sizes header lanes s.old s.new bytes volume content b s.stands disks saved after answers
    worked earlier later parts told told_is image taken_is)
    (again chain sizes header lanes s.old s.new bytes volume content b s.stands disks saved after answers
    worked earlier later parts told told_is image taken_is)
