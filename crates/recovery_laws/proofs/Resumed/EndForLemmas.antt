-- Once a conversion was led to its end the bytes of its disk stand, under the passphrase, for what they stood
-- for before it was taken up.
use Rattle.std.proofs.Common.{◌≡◌, ◌∙◌, ◌+◌, ◌*◌, ◌++◌, ◌<◌, inl, inr, ℕ, zero, suc, true, false, List}
use Rattle.std.proofs.Common.{length, replicate, None, Some, Ok, ap, arith, drop, refl, subst, sym}
use Rattle.std.proofs.lemmas.List.{drop-drop, drop_all, take-append-drop}
use Rattle.base_terms.proofs.BlockLemmas.{joined-blocks_of, lengths-blocks_of}
use Rattle.base_terms.specs.Blocks.{blocks_of, joined, lengths}
use Rattle.crash_laws.specs.HeaderAreas.Areas.{content_of, text_from}
use Rattle.crash_laws.specs.HeaderAreas.Commits.{MayBe}
use Rattle.crash_laws.specs.HeaderAreas.Headers.{Gives}
use Rattle.base_terms.specs.declared.disk_sizes.Sizes.{Sizes}
use Rattle.sector_disk.specs.DiskViews.Parts.{block_at, value_in}
use Rattle.crash_laws.specs.HotZones.Zones.{from_of, stage_of, to_of}
use Rattle.hotzone.specs.Sites.{IsSaved}
use Rattle.luks_store.specs.Copying.Meanings.{header_reader}
use Rattle.luks_rules.specs.Areas.{header_bytes}
use Rattle.luks_rules.specs.Rules.{first_fault}
use Rattle.luks_rules.specs.Shapes.{progress_of}
use Rattle.luks_rules.specs.declared.extents.Extent.{Extent}
use Rattle.luks_store.specs.Devices.{front_of}
use Rattle.luks_store.specs.declared.loaded.Stored.{Stored}
use Rattle.reenc_recovery.specs.Images.{StandsFor}
use Rattle.reenc_recovery.specs.Keys.{IsKeyOf}
use Rattle.reenc_recovery.specs.Placings.{RestsIn}
use Rattle.reenc_worker.specs.declared.ends.WorkerEnd.TheVariants.{Finished}
use Rattle.recovery_laws.proofs.Resumed.AgainLemmas.{TellsKeys, none-some, rest-again}
use Rattle.recovery_laws.proofs.Resumed.ChainLemmas.{ChainLaws, lawful, new-is, old-is, some-block, starts}
use Rattle.recovery_laws.proofs.Resumed.FrontLemmas.{gives-in-front}
use Rattle.recovery_laws.proofs.Resumed.GivenLemmas.{loaded, ruled}
use Rattle.recovery_laws.proofs.Resumed.GuardLemmas.{not-shifted}
use Rattle.recovery_laws.proofs.Resumed.KeptLemmas.{KeepsSize, size-kept}
use Rattle.recovery_laws.proofs.Resumed.KeptSlots.{bytes-for, first-parts, first-valid, kept-bytes}
use Rattle.recovery_laws.proofs.Resumed.OpenForLemmas.{ForLaws}
use Rattle.recovery_laws.proofs.Resumed.ResumeLemmas.{known-first}
use Rattle.recovery_laws.proofs.Resumed.RoomLemmas.{only-work, room-behind}
use Rattle.recovery_laws.proofs.Resumed.StopLemmas.{atom-at}
use Rattle.recovery_laws.proofs.Resumed.TakenForLemmas.{SlotLaws, begins-for, given-by}
use Rattle.recovery_laws.specs.Resumed.Chaining.{AreDisks, StandsAgain}
use Rattle.recovery_laws.specs.Resumed.Passphrases.{FinishedConversionsStandFor}
use Rattle.recovery_laws.specs.Resumed.Passphrases.{StandsAgainFor}
use Rattle.recovery_laws.specs.Resumed.Resuming.{TakenUpConversionsBegin}
use Rattle.recovery_laws.specs.Resumed.Runs.{ConversionsKeepContent, HoldsNew}
use Rattle.recovery_laws.specs.Resumed.Starts.{BeginsBehind, layout_on, volume_seals}
use Rattle.sector_disk.specs.Geometry.{IsAtom}
use Rattle.segment_map.specs.Maps.{place_on}
use Rattle.segment_map.specs.declared.Side.{Side}
use Rattle.segment_map.specs.declared.Side.TheVariants.{New, Zone}
use Rattle.segment_map.specs.declared.map.Map.{Map}
use Rattle.volume_laws.specs.Standing.{AtomStands, BlockStands}
use Rattle.volume_machine.specs.Pieces.{place_in, side_in}
use Rattle.volume_machine.specs.Readings.{Reading}
use Rattle.volume_machine.specs.Seals.{Seals, seals_of}
use Rattle.volume_machine.specs.States.{State}
use Rattle.volume_machine.specs.Works.{Work, complete, converting, resting}
use Rattle.volume_machine.specs.declared.keys.Keys.{Keys}
use Rattle.volume_laws.specs.WorkerRuns.Conversions.{HasConverted, IsConverted}
use Rattle.volume_laws.specs.WorkerRuns.Leaving.{LeavesRest}
use Rattle.hotzone.proofs.ZoneEvents.TellLemmas.{converts-told, guard-told}
use Rattle.hotzone.specs.ZoneEvents.Heads.{header_on}
use Rattle.hotzone.specs.ZoneEvents.Readings.{map_of, parts_in, reading_of}
use Rattle.hotzone.specs.ZoneEvents.Sides.{IsSideOf}

-- ---- bytes are the text of their atoms
text-of : (atom n at : ℕ) (bytes : List ℕ) → length bytes ≡ (at + n) * atom
    → text_from (λ place. block_at atom bytes place) at n ≡ drop (at * atom) bytes
unfolding text_from
text-of atom zero at bytes long =
    sym (drop_all (at * atom) bytes
    (let sum : (at + 0) * atom ≡ at * atom = grind arith in omega (arith, long, sum)))
text-of atom (suc n) at bytes long =
    let next : (suc at) * atom ≡ at * atom + atom = omega arith in
    let all : (at + suc n) * atom ≡ (suc at + n) * atom = grind arith in
    ap (λ rest. block_at atom bytes at ++ rest)
    (text-of atom n (suc at) bytes (long ∙ all)
    ∙ ap (λ k. drop k bytes) next
    ∙ sym (drop-drop atom (at * atom) bytes))
    ∙ take-append-drop atom (drop (at * atom) bytes)

pub content-is : (atom n : ℕ) (bytes : List ℕ) → length bytes ≡ n * atom
    → content_of n (λ place. block_at atom bytes place) ≡ bytes
content-is atom n bytes long =
    text-of atom n 0 bytes (long ∙ (let sum : n * atom ≡ (0 + n) * atom = grind arith in sum))
    ∙ (let none : drop (0 * atom) bytes ≡ bytes =
    ap (λ k. drop k bytes) (let z : 0 * atom ≡ 0 = grind arith in z) in none)

some-size : {atom : ℕ} → IsAtom atom → 0 < atom
some-size (inl is) = rw is (omega arith)
some-size (inr is) = rw is (omega arith)

module _ {C : Type 0} {sector : C → ℕ} {sealed opened : C → ℕ → List ℕ → List ℕ}
    (chain : ChainLaws sector sealed opened) (slots : SlotLaws C)
    (runs : ConversionsKeepContent C) (sizes : Sizes) (header : Stored) (lanes : ℕ)
    (pass bytes : List ℕ) (volume after : State (Keys C)) (content : List (List ℕ))
    (s : StandsFor sizes pass bytes content)
    (b : BeginsBehind sector sealed opened sizes header lanes s.old s.new bytes volume)
    (disks : AreDisks sizes volume.disk) (saved : IsSaved b.now.conversion.resilience)
    (done : HasConverted (reading_of sizes) (volume_seals sealed opened volume)
    (layout_on sizes header) (header_on header) volume after Finished) where
  abbrev reading : Reading
  reading = reading_of sizes

  abbrev seals : Seals
  seals = volume_seals sealed opened volume

  at-rest : volume.work
      ≡ Some (resting (layout_on sizes header) (header_on header) converting)
  at-rest =
      (starts chain sizes header lanes s.old s.new bytes volume content b s.stands disks saved).0.at_rest

  abbrev ends : IsConverted reading (layout_on sizes header) (header_on header) volume done.worked.deeds
      after
  ends = done.leaves

  abbrev by : List ℕ
  by = ends.header.means

  holds : HoldsNew reading seals ends.header after content
  holds =
      runs reading seals (layout_on sizes header) (header_on header) volume after content bytes
      chain.reader refl
      (starts chain sizes header lanes s.old s.new bytes volume content b s.stands disks saved).0 done

  parts : parts_in (header_on header).means ≡ Ok header.valid.meta
  parts = first-parts sizes header lanes s.old s.new bytes volume b at-rest chain.spelt slots.areas

  valid : first_fault header.valid.meta sizes ≡ None
  valid = first-valid sizes header lanes s.old s.new bytes volume b at-rest chain.spelt slots.areas

  rest : LeavesRest reading (layout_on sizes header) (header_on header).means volume after
  rest =
      subst (λ (state : State (Keys C)).
      LeavesRest reading (layout_on sizes header) (header_on header).means volume state)
      done.worked.last
      (slots.leaves reading seals (layout_on sizes header) (header_on header) volume done.worked.deeds
      b.order at-rest
      (λ shifts. not-shifted b.now.conversion.resilience saved
      (sym (guard-told sizes (header_on header).means header.valid.meta (Some b.now) parts b.known)
      ∙ shifts)) done.worked.are)

  size : KeepsSize volume after
  size =
      subst (λ (state : State (Keys C)). KeepsSize volume state) done.worked.last
      (size-kept reading seals volume done.worked.deeds b.order done.worked.are
      (done.worked.works, done.worked.acts))

  atom-here : after.map.atom ≡ sizes.atom
  atom-here = size.atom ∙ b.map.atom

  known-atom : IsAtom sizes.atom
  known-atom = subst (λ (n : ℕ). IsAtom n) b.map.atom b.order.sound.fits.known

  -- ---- its bytes
  long : length holds.now ≡ after.disk.atoms * sizes.atom
  long = holds.long ∙ ap (λ a. after.disk.atoms * a) atom-here

  abbrev image : List (List ℕ)
  image = blocks_of sizes.atom after.disk.atoms holds.now

  whole : joined image ≡ holds.now
  whole = joined-blocks_of sizes.atom after.disk.atoms holds.now long

  even : lengths image ≡ replicate after.disk.atoms sizes.atom
  even = lengths-blocks_of sizes.atom after.disk.atoms holds.now long

  -- both copies of the last header lie on its own disk
  gives : Gives header_reader (front_of sizes holds.now) by
  gives =
      gives-in-front header_reader chain.reader holds.now (header_bytes sizes) by
      (room-behind chain.spelt sizes header lanes s.old s.new bytes volume b disks at-rest
      done.worked.deeds done.worked.are (resting (layout_on sizes header) ends.header complete)
      (ap (λ (state : State (Keys C)). state.work) done.worked.last ∙ ends.at_end) by refl)
      (subst (λ (text : List ℕ). Gives header_reader text by)
      (ap (λ a. content_of after.disk.atoms (λ place. block_at a holds.now place)) atom-here
      ∙ content-is sizes.atom after.disk.atoms holds.now long) holds.gives)

  gives-image : Gives header_reader (front_of sizes (joined image)) by
  gives-image =
      subst (λ (all : List ℕ). Gives header_reader (front_of sizes all) by) (sym whole) gives

  -- ---- its blocks
  map-is : after.map ≡ map_of sizes by
  map-is = holds.map

  text-is : (place : ℕ) → value_in image place ≡ block_at sizes.atom holds.now place
  text-is place =
      sym (atom-at sizes.atom after.disk.atoms image place even)
      ∙ ap (λ all. block_at sizes.atom all place) whole

  abbrev here-seals : Seals
  here-seals = seals_of sealed opened sizes.atom volume.keys

  abbrev last-work : Work
  last-work = resting (layout_on sizes header) ends.header complete

  block-stands : (k : ℕ) → k < after.map.blocks
      → BlockStands reading after.map here-seals last-work (value_in image) (value_in content) k
  block-stands k below =
      let is = holds.blocks k below in
      let side : side_in after.map k ≡ New = holds.new k below in
      let place : place_in after.map k ≡ place_on after.map k New =
      ap (λ (d : Side). place_on after.map k d) side in
      let text : value_in image (place_on after.map k New) ≡ here-seals.sealed New k (value_in content k) =
      ap (value_in image) (sym place) ∙ text-is (place_in after.map k)
      ∙ ap (λ a. block_at a holds.now (place_in after.map k)) (sym atom-here)
      ∙ is.1
      ∙ ap (λ (d : Side). seals.sealed d k (value_in content k)) side
      ∙ ap (λ a. (seals_of sealed opened a volume.keys).sealed New k (value_in content k)) b.map.atom in
      record {
        are = is.0;
        stands = subst (λ (d : Side). AtomStands reading after.map here-seals last-work (value_in image)
            (value_in content) k d) (sym side) text;
        zone = λ zoned. absurd (let e : New ≡ Zone = sym side ∙ zoned in cc);
      }

  -- ---- its header
  told : TellsKeys sizes header.valid.meta b.now.new by New
  told =
      chain.sides sizes (header_on header).means by header.valid.meta New b.now.new
      (some-size known-atom) parts valid (inl (b.now, b.known, refl)) ends.sealing

  none : progress_of told.meta sizes ≡ None
  none = go (progress_of told.meta sizes) refl
    where
      go : (o : _) → progress_of told.meta sizes ≡ o → o ≡ None
      go None is = refl
      go (Some c) is =
          (let e : true ≡ false = sym (converts-told sizes by told.meta (Some c) told.parts is) ∙ ends.rests
          in cc)

  again : StandsAgain sizes s.old s.new (joined image) content
  again = go told.is
    where
      go : IsSideOf sizes told.meta New told.segment
          → StandsAgain sizes s.old s.new (joined image) content
      go (inl (c, c_known, is)) = absurd (none-some none c_known)
      go (inr (rests, (v, idle, is))) =
          rest-again sector sealed opened sizes known-atom volume.keys
          (lawful chain sizes header lanes s.old s.new bytes volume content b s.stands disks saved)
          last-work image after.disk.atoms after.map.blocks even (value_in content) content holds.count
          (let first = some-block chain sizes header lanes s.old s.new bytes volume content b s.stands disks
          saved in let all = size.blocks in omega (arith, first, all))
          (λ k below. refl) by (ap (λ (m : Map). m.blocks) (sym map-is))
          (λ k below. subst (λ (m : Map).
          BlockStands reading m here-seals last-work (value_in image) (value_in content) k) map-is
          (block-stands k below)) chain.spelt chain.given gives-image header.valid.meta b.now s.old s.new
          (old-is chain sizes header lanes s.old s.new bytes volume content b s.stands disks saved)
          (new-is chain sizes header lanes s.old s.new bytes volume content b s.stands disks saved) b.keys
          told.meta told.parts told.valid none v idle
          (ap (λ (e : Extent). e.encryption) (sym is) ∙ told.encryption)
          (subst (λ (e : Extent). IsKeyOf told.meta e s.new) is
          (told.key s.new (new-is chain sizes header lanes s.old s.new bytes volume content b s.stands disks
          saved)))

  -- ---- under the passphrase
  either : StandsAgainFor sizes pass holds.now content
  either =
      let given = given-by sizes header lanes pass bytes volume content s b in
      bytes-for sizes header lanes s.old s.new bytes volume b at-rest chain.spelt slots.areas after rest
      slots.told slots.given chain.given pass given.0 given.1 by
      (λ work at. subst (λ (w : Work). MayBe (stage_of w.phase) (from_of w.zone w.phase).means
      (to_of w.zone w.phase).means by) (only-work ends.at_end at) refl)
      (inr (record { rests = ends.rests; sealing = ends.sealing })) content holds.now
      (kept-bytes sizes header lanes s.old s.new bytes volume b at-rest chain.spelt slots.areas after rest
      ends.unbroken holds.now holds.values) gives
      (subst (λ (all : List ℕ). StandsAgain sizes s.old s.new all content) whole again)

  pub ended-for : (now : List ℕ) × (after.disk.values ≡ Some now) × StandsFor sizes pass now content
      × RestsIn sizes now
  ended-for = elim either [
    | inl (stands, goes) ↦ absurd (
        let here = loaded chain.spelt chain.given sizes (front_of sizes holds.now) by told.meta gives
        told.parts told.valid in
        let sound = ruled chain.spelt chain.given sizes (front_of sizes holds.now) by told.meta gives
        told.parts told.valid known-atom in
        let busy = goes _ here.held in
        none-some none ((sound.busy busy).1).1)
    | inr (stands, rests) ↦ (holds.now, holds.values, stands, rests)
  ]

pub finished-for : {C : Type 0} {sector : C → ℕ} {sealed opened : C → ℕ → List ℕ → List ℕ}
    → ForLaws sector sealed opened → TakenUpConversionsBegin sector sealed opened
    → ChainLaws sector sealed opened → SlotLaws C → ConversionsKeepContent C
    → FinishedConversionsStandFor sector sealed opened
finished-for laws begins chain slots runs sizes handed lanes old volume after pass content r disks done
    known =
    let start = begins-for laws begins sizes handed lanes old volume pass content r
    (known-first r.is.found.header done.worked known) in
    ended-for chain slots runs sizes r.is.led.last lanes pass start.now volume after content start.stands
    start.begins disks start.saved done
