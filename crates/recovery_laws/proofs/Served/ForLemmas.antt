-- Wherever deeds of a conversion stop that clients use meanwhile each image stands, under the passphrase,
-- for a content that is allowed; and so it is any number of times.
use Rattle.std.proofs.Common.{◌≡◌, ◌∙◌, inl, inr, ℕ, true, false, List, Some, refl, subst, sym}
use Rattle.base_terms.specs.Blocks.{joined}
use Rattle.base_terms.specs.declared.disk_sizes.Sizes.{Sizes}
use Rattle.sector_disk.specs.DiskViews.Parts.{value_in}
use Rattle.hotzone.specs.Sites.{IsSaved}
use Rattle.luks_store.specs.declared.loaded.Stored.{Stored}
use Rattle.plain_disk.specs.Plain.{Block, Exchange, Legal, settled_blocks}
use Rattle.reenc_recovery.specs.Images.{StandsFor}
use Rattle.reenc_recovery.specs.declared.keys.SideKeys.{SideKeys}
use Rattle.recovery_laws.proofs.Resumed.KeptSlots.{image-for}
use Rattle.recovery_laws.proofs.Resumed.TakenForLemmas.{SlotLaws, given-by}
use Rattle.recovery_laws.specs.Resumed.Chaining.{AreDisks}
use Rattle.recovery_laws.specs.Resumed.Passphrases.{AreGiven, IsTakenUpFor, StandsAgainFor}
use Rattle.recovery_laws.specs.Resumed.Passphrases.{StopsStandForPassphrases}
use Rattle.recovery_laws.specs.Resumed.Passphrases.{TakenUpConversionsBeginFor}
use Rattle.recovery_laws.specs.Resumed.Resuming.{both_of}
use Rattle.recovery_laws.specs.Resumed.Starts.{BeginsBehind, layout_on, volume_seals}
use Rattle.sector_disk.specs.Steps.{Told}
use Rattle.recovery_laws.proofs.Served.AgainLemmas.{StopLaws, again, allowed-values, by, even, gives, of-image}
use Rattle.recovery_laws.proofs.Served.AgainLemmas.{guard-first, says, served, starts, values}
use Rattle.recovery_laws.specs.Served.Passphrases.{ComesFrom, DeedsStandAgainFor, IsAllowed, IsUsed, LeadsTo}
use Rattle.recovery_laws.specs.Served.Passphrases.{Lives, UsedAnyNumberOfTimes, begun, resumed, used}
use Rattle.volume_laws.proofs.BesideServing.Legals.{legal_one}
use Rattle.volume_laws.specs.BesideServing.Tables.{TellsDeeds}
use Rattle.volume_laws.specs.Contents.{IsAllowedAt}
use Rattle.volume_laws.specs.Handing.{handed_over}
use Rattle.volume_laws.specs.Imaging.{IsTaken}
use Rattle.volume_machine.specs.Answers.{AreExchanges}
use Rattle.volume_machine.specs.Deeds.{AreDeeds, Deed, answered_over, plain_over, state_after}
use Rattle.volume_machine.specs.Readings.{Reading}
use Rattle.volume_machine.specs.Runs.{no_plain}
use Rattle.volume_machine.specs.Seals.{Seals}
use Rattle.volume_machine.specs.States.{State}
use Rattle.volume_machine.specs.declared.keys.Keys.{Keys}
use Rattle.hotzone.proofs.ZoneEvents.GroundLemmas.{busy-of}
use Rattle.hotzone.specs.ZoneEvents.Heads.{header_on}
use Rattle.hotzone.specs.ZoneEvents.Readings.{reading_of}

module _ {C : Type 0} {sector : C → ℕ} {sealed opened : C → ℕ → List ℕ → List ℕ}
    (laws : StopLaws sector sealed opened) (slots : SlotLaws C) (sizes : Sizes) (header : Stored)
    (lanes : ℕ) (pass bytes : List ℕ) (volume : State (Keys C)) (content : List (List ℕ))
    (deeds : List (Deed (Keys C))) (exchanges : List Exchange) (left : List Block)
    (s : StandsFor sizes pass bytes content)
    (b : BeginsBehind sector sealed opened sizes header lanes s.old s.new bytes volume)
    (disks : AreDisks sizes volume.disk) (saved : IsSaved b.now.conversion.resilience)
    (are : AreDeeds (reading_of sizes) (volume_seals sealed opened volume) volume deeds)
    (answered : AreExchanges (answered_over (volume_seals sealed opened volume) volume no_plain deeds)
    exchanges)
    (legal : Legal volume.map.atom (settled_blocks content) exchanges left) (told : Told)
    (told_is : (state_after volume deeds).disk.told ≡ Some told) (image : List (List ℕ))
    (taken : IsTaken (reading_of sizes) (state_after volume deeds)
    (handed_over volume (both_of (header_on header)) deeds) told.now image) where
  abbrev held : List (List ℕ)
  held =
      values laws sizes header lanes s.old s.new bytes volume content b s.stands disks saved deeds
      exchanges are answered told told_is image taken

  stands : StandsAgainFor sizes pass (joined image) held
  stands =
      let start = starts laws sizes header lanes s.old s.new bytes volume content b s.stands disks saved in
      let given = given-by sizes header lanes pass bytes volume content s b in
      let by_here = by laws sizes header lanes s.old s.new bytes volume content b s.stands disks saved deeds
      exchanges are answered told told_is image taken in
      let of = of-image laws sizes header lanes s.old s.new bytes volume content b s.stands disks saved
      deeds exchanges are answered told told_is image taken in
      image-for sizes header lanes s.old s.new bytes volume b start.0.at_rest laws.spelt slots.areas
      (state_after volume deeds)
      (slots.leaves (reading_of sizes) (volume_seals sealed opened volume) (layout_on sizes header)
      (header_on header) volume deeds b.order start.0.at_rest
      (guard-first laws sizes header lanes s.old s.new bytes volume content b s.stands disks saved) are)
      slots.told slots.given laws.given pass given.0 given.1 by_here.header
      (λ work at. of.3 work at by_here.header by_here.gives)
      (says laws sizes header lanes s.old s.new bytes volume content b s.stands disks saved deeds exchanges
      are answered told told_is image taken) held told told_is image
      (state_after volume deeds).disk.atoms taken.is
      (even laws sizes header lanes s.old s.new bytes volume content b s.stands disks saved deeds exchanges
      are answered told told_is image taken)
      (gives laws sizes header lanes s.old s.new bytes volume content b s.stands disks saved deeds
      exchanges are answered told told_is image taken)
      (again laws sizes header lanes s.old s.new bytes volume content b s.stands disks saved deeds
      exchanges are answered told told_is image taken)

  same-left : left
      ≡ (served laws sizes header lanes s.old s.new bytes volume content b s.stands disks saved deeds
      exchanges are answered).left
  same-left =
      legal_one volume.map.atom (settled_blocks content) left _ exchanges legal
      (served laws sizes header lanes s.old s.new bytes volume content b s.stands disks saved deeds
      exchanges are answered).legal

  pub stopped-for : (now : List (List ℕ)) × StandsAgainFor sizes pass (joined image) now
      × IsAllowed volume (volume_seals sealed opened volume) deeds left now
  stopped-for = (
    held,
    stands,
    λ k below. subst (λ (blocks : List Block). IsAllowedAt (state_after volume deeds)
        (plain_over (volume_seals sealed opened volume) volume no_plain deeds) blocks k
        (value_in held k)) (sym same-left)
        (allowed-values laws sizes header lanes s.old s.new bytes volume content b s.stands disks saved
        deeds exchanges are answered told told_is image taken k below),
  )

pub deeds-for : {C : Type 0} {sector : C → ℕ} {sealed opened : C → ℕ → List ℕ → List ℕ}
    → StopLaws sector sealed opened → SlotLaws C → DeedsStandAgainFor sector sealed opened
deeds-for laws slots sizes header lanes pass bytes volume content deeds exchanges left s b disks saved are
    answered legal told told_is image taken =
    stopped-for laws slots sizes header lanes pass bytes volume content deeds exchanges left s b disks saved
    are answered legal told told_is image taken

-- ---- any number of times
module _ {C : Type 0} {sector : C → ℕ} {sealed opened : C → ℕ → List ℕ → List ℕ}
    (laws : StopLaws sector sealed opened) (slots : SlotLaws C)
    (begins : TakenUpConversionsBeginFor sector sealed opened)
    (stops : StopsStandForPassphrases sector sealed opened)
    (tables : (reading : Reading) (seals : Seals) (start : State (Keys C))
    (deeds : List (Deed (Keys C))) (now : Told) → AreDeeds reading seals start deeds
    → (state_after start deeds).disk.told ≡ Some now → TellsDeeds start deeds now) (sizes : Sizes)
    (pass : List ℕ) where
  -- a time that clients used it
  abbrev Leads : {handed : SideKeys} {between image : List ℕ}
      → IsUsed sector sealed opened sizes handed between image → List (List ℕ) → Type 0
  Leads {handed} {between} {image} by content =
      (held : List (List ℕ)) × LeadsTo by content held × StandsAgainFor sizes pass image held

  once-used : (handed : SideKeys) (between image : List ℕ) (content : List (List ℕ))
      → AreGiven sizes pass handed between → StandsAgainFor sizes pass between content
      → (by : IsUsed sector sealed opened sizes handed between image) → Leads by content
  once-used handed between image content given (inr (stands, rests)) used_by =
      absurd (let busy = busy-of used_by.is.found.header.valid.meta sizes
      used_by.is.found.passed.conversion.now used_by.is.found.passed.conversion.known in
      let e : true ≡ false =
      sym busy ∙ rests used_by.is.found.header (used_by.is.found.held between used_by.tells.values) in
      cc)
  once-used handed between image content given (inl (stands, goes)) used_by =
      let r : IsTakenUpFor sector sealed opened sizes handed used_by.lanes used_by.old used_by.volume pass
      content = record {
        first = between;
        tells = used_by.tells;
        given = given;
        stands = stands;
        is = used_by.is;
        order = used_by.order;
      } in
      let table = tables (reading_of sizes) (volume_seals sealed opened used_by.volume) used_by.volume
      used_by.deeds used_by.told used_by.are used_by.is_told in
      let (now, s, b, saved) = begins sizes handed used_by.lanes used_by.old used_by.volume pass content r
      (inr (table.before, table.was)) in
      let ran = served laws sizes used_by.is.led.last used_by.lanes s.old s.new now used_by.volume content b
      s.stands used_by.disks saved used_by.deeds used_by.exchanges used_by.are used_by.answered in
      let stopped = stopped-for laws slots sizes used_by.is.led.last used_by.lanes pass now used_by.volume
      content used_by.deeds used_by.exchanges ran.left s b used_by.disks saved used_by.are used_by.answered
      ran.legal used_by.told used_by.is_told used_by.values used_by.taken in (
        stopped.0,
        (ran.left, ran.legal, stopped.2),
        subst (λ (bytes : List ℕ). StandsAgainFor sizes pass bytes stopped.0) (sym used_by.left)
            stopped.1,
      )

  lives-for : (first image : List ℕ) (content : List (List ℕ))
      → StandsAgainFor sizes pass first content
      → (lives : Lives sector sealed opened sizes pass first image)
      → (held : List (List ℕ)) × ComesFrom lives content held
      × StandsAgainFor sizes pass image held
  unfolding ComesFrom
  lives-for first image content stands begun = (content, refl, stands)
  lives-for first image content stands (resumed handed between image' lives given left) =
      let (held, comes, stood) = lives-for first between content stands lives in
      (held, comes, stops sizes handed pass between image held stood given left)
  lives-for first image content stands (used handed between image' lives given by) =
      let (held, comes, stood) = lives-for first between content stands lives in
      let (after, leads, stands_after) = once-used handed between image held given stood by in
      (after, (held, comes, leads), stands_after)

pub any-times : {C : Type 0} {sector : C → ℕ} {sealed opened : C → ℕ → List ℕ → List ℕ}
    → StopLaws sector sealed opened → SlotLaws C → TakenUpConversionsBeginFor sector sealed opened
    → StopsStandForPassphrases sector sealed opened
    → ((reading : Reading) (seals : Seals) (start : State (Keys C)) (deeds : List (Deed (Keys C)))
    (now : Told) → AreDeeds reading seals start deeds
    → (state_after start deeds).disk.told ≡ Some now → TellsDeeds start deeds now)
    → UsedAnyNumberOfTimes sector sealed opened
any-times laws slots begins stops tables sizes pass first image content stands lives =
    lives-for laws slots begins stops tables sizes pass first image content stands lives
