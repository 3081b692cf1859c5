-- Once a conversion came to its end beside clients the bytes of its disk stand, under the passphrase, for the
-- newest values that their operations leave.
use Rattle.std.proofs.Common.{◌≡◌, ◌∙◌, ◌*◌, ◌<◌, inl, inr, ℕ, true, false, List, length, replicate, None}
use Rattle.std.proofs.Common.{[], Some, ap, arith, refl, subst, sym}
use Rattle.std.proofs.lemmas.List.{get_or-map, length-map}
use Rattle.base_terms.proofs.BlockLemmas.{joined-blocks_of, lengths-blocks_of}
use Rattle.base_terms.specs.Blocks.{blocks_of, joined, lengths}
use Rattle.volume_laws.specs.BesideConverted.Ends.{ConvertedVolumesHoldNewest, HoldsNewest}
use Rattle.volume_laws.specs.BesideConversions.Ends.{IsConvertedBeside}
use Rattle.crash_laws.specs.HeaderAreas.Areas.{content_of}
use Rattle.crash_laws.specs.HeaderAreas.Commits.{MayBe}
use Rattle.crash_laws.specs.HeaderAreas.Headers.{Gives}
use Rattle.base_terms.specs.declared.disk_sizes.Sizes.{Sizes}
use Rattle.sector_disk.specs.DiskViews.Parts.{AreBlocks, block_at, value_in}
use Rattle.crash_laws.specs.HotZones.Zones.{from_of, stage_of, to_of}
use Rattle.recovery_laws.proofs.Served.CountLemmas.{legal-count}
use Rattle.recovery_laws.specs.Served.Ends.{EndsStandForNewest, StandsForNewest, newest_values}
use Rattle.hotzone.specs.Sites.{IsSaved}
use Rattle.luks_store.specs.Copying.Meanings.{header_reader}
use Rattle.luks_rules.specs.Areas.{header_bytes}
use Rattle.luks_rules.specs.Shapes.{progress_of}
use Rattle.luks_rules.specs.declared.extents.Extent.{Extent}
use Rattle.luks_store.specs.Devices.{front_of}
use Rattle.luks_store.specs.declared.loaded.Stored.{Stored}
use Rattle.plain_disk.specs.Plain.{Block, Exchange, Legal, settled, settled_blocks}
use Rattle.reenc_recovery.specs.Images.{StandsFor}
use Rattle.reenc_recovery.specs.Keys.{IsKeyOf}
use Rattle.recovery_laws.proofs.Resumed.AgainLemmas.{TellsKeys, none-some, rest-again}
use Rattle.recovery_laws.proofs.Resumed.EndForLemmas.{content-is}
use Rattle.recovery_laws.proofs.Resumed.FrontLemmas.{gives-in-front}
use Rattle.recovery_laws.proofs.Resumed.GivenLemmas.{loaded, ruled}
use Rattle.recovery_laws.proofs.Resumed.KeptSlots.{bytes-for, kept-bytes}
use Rattle.recovery_laws.proofs.Resumed.RoomLemmas.{only-work}
use Rattle.recovery_laws.proofs.Resumed.StopLemmas.{atom-at}
use Rattle.recovery_laws.proofs.Resumed.TakenForLemmas.{SlotLaws, given-by}
use Rattle.recovery_laws.specs.Resumed.Chaining.{AreDisks, StandsAgain}
use Rattle.recovery_laws.specs.Resumed.Passphrases.{StandsAgainFor}
use Rattle.recovery_laws.specs.Resumed.Starts.{BeginsBehind, layout_on, volume_seals}
use Rattle.segment_map.specs.Maps.{place_on}
use Rattle.segment_map.specs.declared.Side.{Side}
use Rattle.segment_map.specs.declared.Side.TheVariants.{New, Zone}
use Rattle.segment_map.specs.declared.map.Map.{Map}
use Rattle.recovery_laws.proofs.Served.AgainLemmas.{StopLaws, atom-here, first-parts, first-valid, guard-first}
use Rattle.recovery_laws.proofs.Served.AgainLemmas.{known-atom, lawful, new-is, old-is, room-here}
use Rattle.recovery_laws.proofs.Served.AgainLemmas.{seals-here, some-atom, some-block, starts}
use Rattle.volume_laws.specs.Contents.{block_in}
use Rattle.volume_laws.specs.Converting.{StartsUnder}
use Rattle.volume_laws.specs.Standing.{AtomStands, BlockStands}
use Rattle.volume_machine.specs.Answers.{AreExchanges}
use Rattle.volume_machine.specs.Deeds.{AreDeeds, Deed, answered_over, state_after}
use Rattle.volume_machine.specs.Pieces.{place_in, side_in}
use Rattle.volume_machine.specs.Readings.{Reading}
use Rattle.volume_machine.specs.Runs.{no_plain}
use Rattle.volume_machine.specs.Seals.{Seals, seals_of}
use Rattle.volume_machine.specs.States.{State}
use Rattle.volume_machine.specs.Works.{Work, complete, converting, resting}
use Rattle.volume_machine.specs.declared.keys.Keys.{Keys}
use Rattle.volume_laws.specs.WorkerRuns.Leaving.{LeavesRest}
use Rattle.hotzone.proofs.ZoneEvents.TellLemmas.{converts-told}
use Rattle.hotzone.specs.ZoneEvents.Heads.{header_on}
use Rattle.hotzone.specs.ZoneEvents.Readings.{reading_of}
use Rattle.hotzone.specs.ZoneEvents.Sides.{IsSideOf}

module _ {C : Type 0} {sector : C → ℕ} {sealed opened : C → ℕ → List ℕ → List ℕ}
    (laws : StopLaws sector sealed opened) (slots : SlotLaws C) (sizes : Sizes) (header : Stored)
    (lanes : ℕ) (pass bytes : List ℕ) (volume : State (Keys C)) (content : List (List ℕ))
    (deeds : List (Deed (Keys C))) (exchanges : List Exchange)
    (s : StandsFor sizes pass bytes content)
    (b : BeginsBehind sector sealed opened sizes header lanes s.old s.new bytes volume)
    (disks : AreDisks sizes volume.disk) (saved : IsSaved b.now.conversion.resilience)
    (are : AreDeeds (reading_of sizes) (volume_seals sealed opened volume) volume deeds)
    (answered : AreExchanges (answered_over (volume_seals sealed opened volume) volume no_plain deeds)
    exchanges)
    (unbroken : (state_after volume deeds).broken ≡ false)
    (done : IsConvertedBeside (reading_of sizes) (layout_on sizes header) (header_on header) volume
    (state_after volume deeds)) where
  abbrev reading : Reading
  reading = reading_of sizes

  abbrev seals : Seals
  seals = volume_seals sealed opened volume

  abbrev here : State (Keys C)
  here = state_after volume deeds

  abbrev by : List ℕ
  by = done.header.means

  pub begin : StartsUnder reading (layout_on sizes header) (header_on header) converting volume seals
      (settled_blocks content) bytes
  begin = (starts laws sizes header lanes s.old s.new bytes volume content b s.stands disks saved).0

  rest : LeavesRest reading (layout_on sizes header) (header_on header).means volume here
  rest =
      slots.leaves reading seals (layout_on sizes header) (header_on header) volume deeds b.order
      begin.at_rest
      (guard-first laws sizes header lanes s.old s.new bytes volume content b s.stands disks saved) are

  atom-is : here.map.atom ≡ sizes.atom
  atom-is =
      atom-here laws sizes header lanes s.old s.new bytes volume content b s.stands disks saved deeds
      exchanges are answered

  -- ---- its header says of the new side what the first one said, and converts nothing
  told : TellsKeys sizes header.valid.meta b.now.new by New
  told =
      laws.sides sizes (header_on header).means by header.valid.meta New b.now.new
      (some-atom laws sizes header lanes s.old s.new bytes volume content b s.stands disks saved)
      (first-parts laws sizes header lanes s.old s.new bytes volume content b s.stands disks saved)
      (first-valid laws sizes header lanes s.old s.new bytes volume content b s.stands disks saved)
      (inl (b.now, b.known, refl)) done.sealing

  none : progress_of told.meta sizes ≡ None
  none = go (progress_of told.meta sizes) refl
    where
      go : (o : _) → progress_of told.meta sizes ≡ o → o ≡ None
      go None is = refl
      go (Some c) is =
          (let e : true ≡ false = sym (converts-told sizes by told.meta (Some c) told.parts is) ∙ done.rests
          in cc)

  -- ---- what it holds
  module _ (left : List Block) (legal : Legal volume.map.atom (settled_blocks content) exchanges left)
      (h : HoldsNewest reading seals done.header here left) where
    count : length (newest_values left) ≡ here.map.blocks
    count =
        length-map left (λ block. block.newest)
        ∙ legal-count volume.map.atom (settled_blocks content) left exchanges legal
        ∙ begin.are.count ∙ sym done.blocks

    newest-is : (k : ℕ) → k < here.map.blocks
        → value_in (newest_values left) k ≡ (block_in left k).newest
    newest-is k below =
        let all = count in
        let same = length-map left (λ block. block.newest) in
        get_or-map (λ block. block.newest) left k (settled []) [] (omega (arith, all, same, below))

    long : length h.now ≡ here.disk.atoms * sizes.atom
    long = h.long ∙ ap (λ a. here.disk.atoms * a) atom-is

    abbrev image : List (List ℕ)
    image = blocks_of sizes.atom here.disk.atoms h.now

    whole : joined image ≡ h.now
    whole = joined-blocks_of sizes.atom here.disk.atoms h.now long

    even : lengths image ≡ replicate here.disk.atoms sizes.atom
    even = lengths-blocks_of sizes.atom here.disk.atoms h.now long

    gives : Gives header_reader (front_of sizes h.now) by
    gives =
        gives-in-front header_reader laws.reader h.now (header_bytes sizes) by
        (room-here laws sizes header lanes s.old s.new bytes volume content b s.stands disks saved deeds
        exchanges are answered (resting (layout_on sizes header) done.header complete) done.at_end by refl)
        (subst (λ (text : List ℕ). Gives header_reader text by)
        (ap (λ a. content_of here.disk.atoms (λ place. block_at a h.now place)) atom-is
        ∙ content-is sizes.atom here.disk.atoms h.now long) h.gives)

    text-is : (place : ℕ) → value_in image place ≡ block_at sizes.atom h.now place
    text-is place =
        sym (atom-at sizes.atom here.disk.atoms image place even)
        ∙ ap (λ all. block_at sizes.atom all place) whole

    -- ---- its blocks
    abbrev by-keys : Seals
    by-keys = seals_of sealed opened sizes.atom volume.keys

    abbrev last : Work
    last = resting (layout_on sizes header) done.header complete

    block-stands : (k : ℕ) → k < here.map.blocks
        → BlockStands reading here.map by-keys last (value_in image) (value_in (newest_values left)) k
    block-stands k below =
        let held = h.each k below in
        let side : side_in here.map k ≡ New = h.new k below in
        let place : place_in here.map k ≡ place_on here.map k New =
        ap (λ (d : Side). place_on here.map k d) side in
        let text : value_in image (place_on here.map k New)
        ≡ by-keys.sealed New k (value_in (newest_values left) k) =
        ap (value_in image) (sym place) ∙ text-is (place_in here.map k)
        ∙ ap (λ a. block_at a h.now (place_in here.map k)) (sym atom-is)
        ∙ held.1
        ∙ ap (λ (d : Side). seals.sealed d k (block_in left k).newest) side
        ∙ ap (λ (t : Seals). t.sealed New k (block_in left k).newest)
        (seals-here laws sizes header lanes s.old s.new bytes volume content b s.stands disks saved)
        ∙ ap (λ value. by-keys.sealed New k value) (sym (newest-is k below)) in
        record {
          are = subst (λ value. AreBlocks here.map.atom 1 value) (sym (newest-is k below)) held.0;
          stands = subst (λ (d : Side). AtomStands reading here.map by-keys last (value_in image)
              (value_in (newest_values left)) k d) (sym side) text;
          zone = λ zoned. absurd (let e : New ≡ Zone = sym side ∙ zoned in cc);
        }

    again : StandsAgain sizes s.old s.new (joined image) (newest_values left)
    again = go told.is
      where
        go : IsSideOf sizes told.meta New told.segment
            → StandsAgain sizes s.old s.new (joined image) (newest_values left)
        go (inl (c, c_known, is)) = absurd (none-some none c_known)
        go (inr (rests, (v, idle, is))) =
            rest-again sector sealed opened sizes
            (known-atom laws sizes header lanes s.old s.new bytes volume content b s.stands disks saved)
            volume.keys
            (lawful laws sizes header lanes s.old s.new bytes volume content b s.stands disks saved)
            last image here.disk.atoms here.map.blocks even (value_in (newest_values left))
            (newest_values left) count
            (let first = some-block laws sizes header lanes s.old s.new bytes volume content b s.stands
            disks saved in let all = done.blocks in omega (arith, first, all))
            (λ k below. refl) by (ap (λ (m : Map). m.blocks) (sym h.map))
            (λ k below. subst (λ (m : Map).
            BlockStands reading m by-keys last (value_in image) (value_in (newest_values left)) k) h.map
            (block-stands k below)) laws.spelt laws.given
            (subst (λ (all : List ℕ). Gives header_reader (front_of sizes all) by) (sym whole) gives)
            header.valid.meta b.now s.old s.new
            (old-is laws sizes header lanes s.old s.new bytes volume content b s.stands disks saved)
            (new-is laws sizes header lanes s.old s.new bytes volume content b s.stands disks saved) b.keys
            told.meta told.parts told.valid none v idle
            (ap (λ (e : Extent). e.encryption) (sym is) ∙ told.encryption)
            (subst (λ (e : Extent). IsKeyOf told.meta e s.new) is
            (told.key s.new (new-is laws sizes header lanes s.old s.new bytes volume content b s.stands
            disks saved)))

    -- ---- under the passphrase
    either : StandsAgainFor sizes pass h.now (newest_values left)
    either =
        let given = given-by sizes header lanes pass bytes volume content s b in
        bytes-for sizes header lanes s.old s.new bytes volume b begin.at_rest laws.spelt slots.areas here
        rest slots.told slots.given laws.given pass given.0 given.1 by
        (λ work at. subst (λ (w : Work). MayBe (stage_of w.phase) (from_of w.zone w.phase).means
        (to_of w.zone w.phase).means by) (only-work done.at_end at) refl)
        (inr (record { rests = done.rests; sealing = done.sealing })) (newest_values left) h.now
        (kept-bytes sizes header lanes s.old s.new bytes volume b begin.at_rest laws.spelt slots.areas
        here rest unbroken h.now h.values) gives
        (subst (λ (all : List ℕ). StandsAgain sizes s.old s.new all (newest_values left)) whole again)

    pub stands-newest : StandsForNewest sizes pass volume.map.atom content exchanges here.disk
    stands-newest = elim either [
      | inl (stands, goes) ↦ absurd (
          let loads = loaded laws.spelt laws.given sizes (front_of sizes h.now) by told.meta gives
          told.parts told.valid in
          let sound = ruled laws.spelt laws.given sizes (front_of sizes h.now) by told.meta gives
          told.parts told.valid
          (known-atom laws sizes header lanes s.old s.new bytes volume content b s.stands disks saved) in
          let busy = goes _ loads.held in
          none-some none ((sound.busy busy).1).1)
      | inr (stands, rests) ↦ record {
        left = left;
        legal = legal;
        now = h.now;
        told = h.values;
        stands = stands;
        rests = rests;
      }
    ]

pub ends-for-newest : {C : Type 0} {sector : C → ℕ} {sealed opened : C → ℕ → List ℕ → List ℕ}
    → StopLaws sector sealed opened → SlotLaws C → ConvertedVolumesHoldNewest C
    → EndsStandForNewest sector sealed opened
ends-for-newest {C} {sector} {sealed} {opened} laws slots newest sizes header lanes pass bytes volume content deeds exchanges s b disks
    saved are answered unbroken free done =
    let start = begin laws slots sizes header lanes pass bytes volume content deeds exchanges s b disks saved
    are answered unbroken done in
    let (left, legal, h) = newest (reading_of sizes) (volume_seals sealed opened volume) (layout_on sizes header)
    (header_on header) converting volume (settled_blocks content) bytes deeds exchanges laws.reader refl
    start are answered unbroken free done in
    stands-newest laws slots sizes header lanes pass bytes volume content deeds exchanges s b disks saved are
    answered unbroken done left legal h
