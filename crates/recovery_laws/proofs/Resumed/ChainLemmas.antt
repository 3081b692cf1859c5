-- Wherever the worker of a volume stops that was taken up again each image stands for the content by its
-- own header, as the next opening begins with it.
use Rattle.std.proofs.Common.{◌≡◌, ◌⊎◌, ◌∙◌, ◌*◌, ◌++◌, ◌<◌, ◌%◌, inl, inr, ℕ, List, [], length}
use Rattle.std.proofs.Common.{replicate, None, Some, Ok, ap, arith, refl, subst, sym}
use Rattle.std.proofs.Math.Nat.{mul-le-mul_right}
use Rattle.base_terms.specs.Blocks.{joined, lengths}
use Rattle.crash_laws.specs.HeaderAreas.Areas.{content_of}
use Rattle.crash_laws.specs.HeaderAreas.Commits.{MayBe}
use Rattle.crash_laws.specs.HeaderAreas.Headers.{Gives, IsLaidOut, IsReader}
use Rattle.crash_laws.specs.HeaderAreas.Promises.{ImageTaken}
use Rattle.base_terms.specs.declared.disk_sizes.Sizes.{Sizes}
use Rattle.sector_disk.specs.DiskViews.Parts.{value_in}
use Rattle.crash_laws.specs.HotZones.Zones.{datashift, from_of, stage_of, to_of}
use Rattle.hotzone.specs.Sites.{IsSaved}
use Rattle.luks_store.specs.Copying.Meanings.{header_reader}
use Rattle.luks_meta.specs.declared.meta.Parts.{Parts}
use Rattle.luks_rules.specs.Areas.{header_bytes}
use Rattle.luks_rules.specs.Rules.{first_fault}
use Rattle.luks_rules.specs.declared.valid.Checked.{Checked}
use Rattle.luks_store.proofs.CopyLemmas.{Spelt}
use Rattle.luks_store.specs.Devices.{front_of}
use Rattle.luks_store.specs.Promises.{GivenIsUsed}
use Rattle.luks_store.specs.declared.loaded.Stored.{Stored}
use Rattle.plain_disk.specs.Plain.{settled_blocks}
use Rattle.reenc_meta.proofs.GoLemmas.{under-way}
use Rattle.reenc_recovery.specs.Images.{StandsUnder}
use Rattle.reenc_recovery.specs.Keys.{IsKeyOf}
use Rattle.reenc_worker.specs.declared.ends.WorkAnswer.{WorkAnswer}
use Rattle.recovery_laws.proofs.Resumed.AgainLemmas.{TellsKeys}
use Rattle.recovery_laws.proofs.Resumed.FrontLemmas.{gives-in-front}
use Rattle.recovery_laws.proofs.Resumed.GivenLemmas.{held-parts}
use Rattle.recovery_laws.proofs.Resumed.GuardLemmas.{not-shifted}
use Rattle.recovery_laws.proofs.Resumed.KeptLemmas.{KeepsSize, size-kept}
use Rattle.recovery_laws.proofs.Resumed.RangeLemmas.{on-one-side}
use Rattle.recovery_laws.proofs.Resumed.ResumeLemmas.{both-dated}
use Rattle.recovery_laws.proofs.Resumed.RoomLemmas.{room-behind}
use Rattle.recovery_laws.proofs.Resumed.SaysLemmas.{SidesTellKeys, says-again}
use Rattle.recovery_laws.proofs.Resumed.StartLemmas.{IsPlaced, placed, ruled}
use Rattle.recovery_laws.proofs.Resumed.WorkerDeeds.{AreWorks, HasWork, deeds-front, exchanges-none}
use Rattle.recovery_laws.proofs.Resumed.WorkerDeeds.{works-front, works-stay}
use Rattle.recovery_laws.specs.Resumed.Chaining.{AreDisks, StandsAgain, StopsStandAgain}
use Rattle.recovery_laws.specs.Resumed.Resuming.{both_of}
use Rattle.recovery_laws.specs.Resumed.Runs.{StopsKeepContent}
use Rattle.recovery_laws.specs.Resumed.Starts.{BeginsBehind, BegunConversionsStart, layout_on, volume_seals}
use Rattle.sector_disk.specs.Geometry.{IsAtom}
use Rattle.sector_disk.specs.Steps.{Told}
use Rattle.segment_map.specs.declared.Side.TheVariants.{New, Old}
use Rattle.image_laws.proofs.Started.GapLemmas.{one-header}
use Rattle.volume_laws.specs.Converting.{IsInOrder, ServesBeside, StartsCertain}
use Rattle.volume_laws.specs.Converting.{StartsUnder as RunsStart}
use Rattle.volume_laws.specs.Handing.{handed_over}
use Rattle.volume_laws.specs.Imaging.{IsTaken}
use Rattle.volume_laws.specs.Standing.{BlockStands, Content, StandsByHeader}
use Rattle.volume_laws.specs.Standing.{StandsUnder as MachineStands}
use Rattle.volume_laws.specs.Telling.{Tells, TellsBeside}
use Rattle.volume_machine.specs.Deeds.{AreDeeds, Deed, state_after}
use Rattle.volume_machine.specs.Readings.{Reading}
use Rattle.volume_machine.specs.Runs.{no_plain}
use Rattle.volume_machine.specs.Seals.{AreLawful, Seals, seals_of}
use Rattle.volume_machine.specs.States.{State}
use Rattle.volume_machine.specs.Working.{HasRoom}
use Rattle.volume_machine.specs.Works.{Work, converting, resting}
use Rattle.volume_machine.specs.declared.keys.Keys.{Keys}
use Rattle.volume_laws.specs.WorkerRuns.Conversions.{MayConvert}
use Rattle.volume_laws.specs.WorkerRuns.Leaving.{SaysAs, SaysItEnds, WorksLeaveTheRest}
use Rattle.volume_laws.specs.WorkerRuns.Steps.{HasWorked}
use Rattle.hotzone.proofs.ZoneEvents.TellLemmas.{guard-told}
use Rattle.hotzone.specs.ZoneEvents.Heads.{header_on}
use Rattle.hotzone.specs.ZoneEvents.Readings.{guard_in, map_of, parts_in, reading_of}

-- the laws that this stands on
pub record ChainLaws {C : Type 0} (sector : C → ℕ) (sealed opened : C → ℕ → List ℕ → List ℕ)
    : Type 0 where
  pub start : BegunConversionsStart sector sealed opened
  pub lawfully : (keys : Keys C) (atom : ℕ) → IsAtom atom → atom % sector keys.old ≡ 0
      → atom % sector keys.new ≡ 0 → AreLawful atom (seals_of sealed opened atom keys)
  pub stops : StopsKeepContent C
  pub serves : (reading : Reading) (start : State (Keys C)) (seals : Seals)
      → ServesBeside reading start seals
  pub tells : (reading : Reading) (start : State (Keys C)) (seals : Seals)
      → TellsBeside reading start seals
  pub orders : (reading : Reading) (seals : Seals) (start : State (Keys C))
      (deeds : List (Deed (Keys C))) → IsInOrder reading start
      → AreDeeds reading seals start deeds → IsInOrder reading (state_after start deeds)
  pub leaves : WorksLeaveTheRest C
  pub reader : IsReader header_reader
  pub images : ImageTaken
  pub spelt : Spelt
  pub given : GivenIsUsed
  pub sides : SidesTellKeys

module _ {C : Type 0} {sector : C → ℕ} {sealed opened : C → ℕ → List ℕ → List ℕ}
    (laws : ChainLaws sector sealed opened) (sizes : Sizes) (header : Stored) (lanes : ℕ)
    (old_key new_key bytes : List ℕ) (volume : State (Keys C)) (content : List (List ℕ))
    (b : BeginsBehind sector sealed opened sizes header lanes old_key new_key bytes volume)
    (stands : StandsUnder sizes old_key new_key bytes content) (disks : AreDisks sizes volume.disk)
    (guarded : IsSaved b.now.conversion.resilience) where
  abbrev reading : Reading
  reading = reading_of sizes

  abbrev seals : Seals
  seals = volume_seals sealed opened volume

  pub starts : RunsStart reading (layout_on sizes header) (header_on header) converting volume seals
      (settled_blocks content) bytes
      × StartsCertain (layout_on sizes header) (header_on header) volume seals
      (settled_blocks content)
  starts = laws.start sizes header lanes old_key new_key bytes volume content b stands

  pub known-atom : IsAtom sizes.atom
  known-atom = subst (λ (n : ℕ). IsAtom n) b.map.atom b.order.sound.fits.known

  some-atom : 0 < sizes.atom
  some-atom = some known-atom
    where
      some : {atom : ℕ} → IsAtom atom → 0 < atom
      some (inl is) = rw is (omega arith)
      some (inr is) = rw is (omega arith)

  -- ---- what the first header says
  pub first-parts : parts_in (header_on header).means ≡ Ok header.valid.meta
  first-parts =
      ap parts_in (sym b.holds.holds.means)
      ∙ (held-parts laws.spelt sizes (front_of sizes bytes) b.holds.holds.stored
      b.holds.holds.held).read
      ∙ ap (λ (v : Checked). Ok v.meta) b.holds.holds.same

  pub first-valid : first_fault header.valid.meta sizes ≡ None
  first-valid =
      subst (λ (v : Checked). first_fault v.meta sizes ≡ None) b.holds.holds.same
      (held-parts laws.spelt sizes (front_of sizes bytes) b.holds.holds.stored
      b.holds.holds.held).rules

  pub here-placed : IsPlaced laws.lawfully sizes header lanes old_key new_key bytes volume content b stands
  here-placed = placed laws.lawfully sizes header lanes old_key new_key bytes volume content b stands

  pub same-meta : stands.stored.valid.meta ≡ header.valid.meta
  same-meta =
      ap (λ (s : Stored). s.valid.meta)
      (one-header sizes bytes stands.stored b.holds.holds.stored stands.header b.holds.holds.held)
      ∙ ap (λ (v : Checked). v.meta) b.holds.holds.same

  pub old-is : IsKeyOf header.valid.meta b.now.old old_key
  old-is =
      subst (λ (m : Parts). IsKeyOf m b.now.old old_key) same-meta
      (subst (λ e. IsKeyOf stands.stored.valid.meta e old_key) here-placed.old stands.old_key)

  pub new-is : IsKeyOf header.valid.meta b.now.new new_key
  new-is =
      subst (λ (m : Parts). IsKeyOf m b.now.new new_key) same-meta
      (subst (λ e. IsKeyOf stands.stored.valid.meta e new_key) here-placed.new stands.new_key)

  pub lawful : AreLawful sizes.atom (seals_of sealed opened sizes.atom volume.keys)
  lawful =
      subst (λ (a : ℕ). AreLawful a (seals_of sealed opened a volume.keys)) b.map.atom
      starts.0.lawful

  count-first : length content ≡ volume.map.blocks
  count-first =
      stands.holds.count ∙ here-placed.map.blocks ∙ sym b.map.blocks

  pub some-block : 0 < volume.map.blocks
  some-block =
      let fits = disks.disk.fits in
      let has = disks.has.main in
      let atom = disks.has.atom in
      let fewer = mul-le-mul_right sizes.atom has in
      let whole : volume.disk.atoms * sizes.atom ≡ volume.disk.atoms * volume.disk.size =
      ap (λ n. volume.disk.atoms * n) atom in
      let way = under-way header.valid.meta sizes b.now
      (ruled laws.lawfully sizes header lanes old_key new_key bytes volume content b stands) b.known
      (omega (arith, fits, fewer, whole)) in
      let some = way.some in
      let blocks = b.map.blocks in
      omega (arith, some, blocks)

  -- ---- at a stop
  module _ (after : State (Keys C)) (answers : List WorkAnswer)
      (worked : HasWorked reading seals volume after answers)
      (earlier later : List (Deed (Keys C))) (parts : worked.deeds ≡ earlier ++ later) (told : Told)
      (told_is : (state_after volume earlier).disk.told ≡ Some told) (image : List (List ℕ))
      (taken : IsTaken reading (state_after volume earlier)
      (handed_over volume (both_of (header_on header)) earlier) told.now image) where
    abbrev pub here : State (Keys C)
    here = state_after volume earlier

    pub are : AreDeeds reading seals volume earlier
    are =
        deeds-front reading seals volume earlier later
        (subst (λ (d : List (Deed (Keys C))). AreDeeds reading seals volume d) parts worked.are)

    works : AreWorks earlier
    works =
        works-front earlier later
        (subst (λ (d : List (Deed (Keys C))). AreWorks d) parts (worked.works, worked.acts))

    pub has : HasWork here
    has =
        works-stay reading seals volume earlier
        (resting (layout_on sizes header) (header_on header) converting, starts.0.at_rest) are works

    order : IsInOrder reading here
    order = laws.orders reading seals volume earlier b.order are

    size : KeepsSize volume here
    size = size-kept reading seals volume earlier b.order are works

    pub alone : (held : Content) × MachineStands reading here.disk.atoms seals here.map here.work
        (value_in image) held
        × ((k : ℕ) → k < here.map.blocks → held k ≡ value_in content k)
        × ((work : Work) → here.work ≡ Some work → (m : List ℕ)
        → Gives header_reader (content_of here.disk.atoms (value_in image)) m
        → MayBe (stage_of work.phase) (from_of work.zone work.phase).means
        (to_of work.zone work.phase).means m)
    alone =
        laws.stops reading seals (layout_on sizes header) (header_on header) volume after content bytes
        (both_of (header_on header)) answers laws.reader refl starts.0 starts.1
        (both-dated reading volume (layout_on sizes header) (header_on header)
        (b.order.courses (resting (layout_on sizes header) (header_on header) converting)
        starts.0.at_rest).is starts.0.at_rest) worked earlier later parts told told_is image taken

    abbrev held : Content
    held = alone.0

    pub by : StandsByHeader reading here.disk.atoms seals has.0 here.map (value_in image) held
    by =
        subst (λ w. MachineStands reading here.disk.atoms seals here.map w (value_in image) held) has.1
        alone.1

    may : MayBe (stage_of has.0.phase) (from_of has.0.zone has.0.phase).means
        (to_of has.0.zone has.0.phase).means by.header
    may = alone.3 has.0 has.1 by.header by.gives

    guard-first : guard_in sizes (header_on header).means ≡ datashift → ⊥
    guard-first shifts =
        not-shifted b.now.conversion.resilience guarded
        (sym (guard-told sizes (header_on header).means header.valid.meta (Some b.now) first-parts
        b.known) ∙ shifts)

    may-convert : MayConvert reading (layout_on sizes header) (header_on header) volume
    may-convert =
        record { order = b.order; idle = starts.0.lanes; at_rest = starts.0.at_rest }

    pub says : SaysAs reading (header_on header).means by.header
        ⊎ SaysItEnds reading (header_on header).means by.header
    says =
        (laws.leaves reading seals (layout_on sizes header) (header_on header) volume after answers
        may-convert guard-first worked earlier
        later parts).headers has.0 has.1 by.header may

    tells : Tells reading (header_on header).means has.0 by.header
    tells =
        laws.tells reading volume seals (layout_on sizes header) (header_on header) converting earlier
        starts.0.at_rest are has.0 has.1 by.header may

    -- ---- the bytes of the image
    cells : length told.now ≡ here.disk.atoms
    cells =
        (laws.serves reading volume seals (layout_on sizes header) (header_on header) converting
        (settled_blocks content) bytes earlier [] starts.0 are
        (exchanges-none seals volume no_plain earlier works)).cells starts.1 told told_is

    whole-text : content_of here.disk.atoms (value_in image) ≡ joined image
    whole-text =
        let course = order.courses has.0 has.1 in
        ap (λ n. content_of n (value_in image)) (sym cells)
        ∙ (laws.images here.map.atom
        (header_reader.size (from_of has.0.zone has.0.phase).means) has.0.layout told.now image taken.is
        taken.whole (subst (λ (n : ℕ). IsLaidOut here.map.atom n
        (header_reader.size (from_of has.0.zone has.0.phase).means) has.0.layout) (sym cells)
        course.laid)).1

    atom-here : here.map.atom ≡ sizes.atom
    atom-here = size.atom ∙ b.map.atom

    pub even : lengths image ≡ replicate here.disk.atoms sizes.atom
    even =
        subst (λ (n : ℕ). lengths image ≡ replicate n sizes.atom) cells
        (subst (λ (a : ℕ). lengths image ≡ replicate (length told.now) a) atom-here taken.whole)

    -- both copies of the header lie on its own disk
    pub gives : Gives header_reader (front_of sizes (joined image)) by.header
    gives =
        gives-in-front header_reader laws.reader (joined image) (header_bytes sizes) by.header
        (room-behind laws.spelt sizes header lanes old_key new_key bytes volume b disks starts.0.at_rest
        earlier are has.0 has.1 by.header may)
        (subst (λ (text : List ℕ). Gives header_reader text by.header) whole-text by.gives)

    -- ---- what it stands for
    count-here : here.map.blocks ≡ length content
    count-here = size.blocks ∙ sym count-first

    seals-here : seals ≡ seals_of sealed opened sizes.atom volume.keys
    seals-here = ap (λ a. seals_of sealed opened a volume.keys) b.map.atom

    told-new : TellsKeys sizes header.valid.meta b.now.new by.header New
    told-new =
        laws.sides sizes (header_on header).means by.header header.valid.meta New b.now.new some-atom
        first-parts first-valid (inl (b.now, b.known, refl)) tells.new

    pub again : StandsAgain sizes old_key new_key (joined image) content
    again =
        says-again sector sealed opened sizes known-atom volume.keys lawful has.0 image here.disk.atoms
        here.map.blocks even held content (sym count-here)
        (let some = some-block in let all = size.blocks in omega (arith, some, all)) alone.2 by.header
        by.blocks (λ k below. subst (λ (s : Seals).
        BlockStands reading (map_of sizes by.header) s has.0 (value_in image) held k) seals-here
        (by.stands k below)) laws.spelt laws.given gives header.valid.meta b.now old_key new_key old-is
        new-is b.keys (header_on header).means first-parts b.known guarded told-new tells.zone
        (order.works has.0 has.1).lies.count
        (subst (λ (a : ℕ). HasRoom has.0.zone.resilience a has.0.zone) atom-here
        (order.works has.0 has.1).enough) (order.works has.0 has.1).within.zone.store
        (on-one-side reading here order has.0 has.1 by.header may)
        (λ same. laws.sides sizes (header_on header).means by.header header.valid.meta Old b.now.old
        some-atom first-parts first-valid (inl (b.now, b.known, refl)) same) says

pub stops-stand : {C : Type 0} {sector : C → ℕ} {sealed opened : C → ℕ → List ℕ → List ℕ}
    → ChainLaws sector sealed opened → StopsStandAgain sector sealed opened
stops-stand laws sizes header lanes old_key new_key bytes volume after content answers b stands disks
    guarded worked earlier later parts told told_is image taken =
    again laws sizes header lanes old_key new_key bytes volume content b stands disks guarded after
    answers worked earlier later parts told told_is image taken
