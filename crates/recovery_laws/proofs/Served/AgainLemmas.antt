-- Wherever deeds of a conversion stop that clients use meanwhile each image stands by its own header for a
-- content that is allowed.
use Rattle.std.proofs.Common.{◌≡◌, ◌⊎◌, ◌∙◌, ◌+◌, ◌*◌, ◌≤◌, ◌<◌, ◌%◌, inl, inr, ℕ, List, length}
use Rattle.std.proofs.Common.{replicate, None, Some, Ok, ap, arith, refl, subst, sym}
use Rattle.std.proofs.Math.Nat.{mul-le-mul_right}
use Rattle.base_terms.specs.Blocks.{joined, lengths}
use Rattle.crash_laws.specs.HeaderAreas.Areas.{content_of}
use Rattle.crash_laws.specs.HeaderAreas.Commits.{MayBe}
use Rattle.crash_laws.specs.HeaderAreas.Headers.{Gives, IsLaidOut, IsReader}
use Rattle.crash_laws.specs.HeaderAreas.Promises.{ImageTaken}
use Rattle.base_terms.specs.declared.disk_sizes.Sizes.{Sizes}
use Rattle.sector_disk.specs.DiskViews.Parts.{value_in}
use Rattle.crash_laws.specs.HotZones.Zones.{datashift, from_of, stage_of, to_of}
use Rattle.hotzone.specs.Sites.{IsSaved}
use Rattle.luks_store.specs.Copying.Meanings.{header_reader}
use Rattle.luks_meta.specs.declared.meta.Parts.{Parts}
use Rattle.luks_rules.specs.Areas.{header_bytes}
use Rattle.luks_rules.specs.Rules.{first_fault}
use Rattle.luks_rules.specs.declared.valid.Checked.{Checked}
use Rattle.luks_store.proofs.CopyLemmas.{Spelt}
use Rattle.luks_store.specs.Devices.{front_of}
use Rattle.luks_store.specs.Promises.{GivenIsUsed}
use Rattle.luks_store.specs.declared.loaded.Stored.{Stored}
use Rattle.plain_disk.specs.Plain.{Block, Exchange, Legal, settled_blocks}
use Rattle.reenc_meta.proofs.GoLemmas.{under-way}
use Rattle.reenc_recovery.specs.Images.{StandsUnder}
use Rattle.reenc_recovery.specs.Keys.{IsKeyOf}
use Rattle.recovery_laws.proofs.Resumed.AgainLemmas.{TellsKeys}
use Rattle.recovery_laws.proofs.Resumed.FrontLemmas.{gives-in-front}
use Rattle.recovery_laws.proofs.Resumed.GivenLemmas.{held-parts}
use Rattle.recovery_laws.proofs.Resumed.GuardLemmas.{not-shifted}
use Rattle.recovery_laws.proofs.Resumed.RangeLemmas.{on-one-side}
use Rattle.recovery_laws.proofs.Resumed.ResumeLemmas.{both-dated}
use Rattle.recovery_laws.proofs.Resumed.RoomLemmas.{room-behind}
use Rattle.recovery_laws.proofs.Resumed.SaysLemmas.{SidesTellKeys, says-again}
use Rattle.recovery_laws.proofs.Resumed.StartLemmas.{IsPlaced, placed, ruled}
use Rattle.recovery_laws.specs.Resumed.Chaining.{AreDisks, StandsAgain}
use Rattle.recovery_laws.specs.Resumed.Resuming.{both_of}
use Rattle.recovery_laws.specs.Resumed.Starts.{BeginsBehind, BegunConversionsStart, layout_on, volume_seals}
use Rattle.sector_disk.specs.Geometry.{IsAtom}
use Rattle.sector_disk.specs.Steps.{Told}
use Rattle.segment_map.specs.declared.Side.TheVariants.{New, Old}
use Rattle.image_laws.proofs.Started.GapLemmas.{one-header}
use Rattle.volume_laws.specs.Converting.{IsInOrder, ServesBeside, StartsCertain}
use Rattle.volume_laws.specs.Converting.{StartsUnder as RunsStart}
use Rattle.volume_laws.specs.Handing.{handed_over}
use Rattle.volume_laws.specs.Imaging.{HasHeader, IsTaken, StandsTaken, StopsBeside}
use Rattle.volume_laws.specs.Standing.{BlockStands, Content, StandsByHeader}
use Rattle.volume_laws.specs.Standing.{StandsUnder as MachineStands}
use Rattle.volume_laws.specs.Telling.{Tells, TellsBeside}
use Rattle.volume_machine.specs.Answers.{AreExchanges}
use Rattle.volume_machine.specs.Deeds.{AreDeeds, Deed, answered_over, plain_over, state_after}
use Rattle.volume_machine.specs.Readings.{Reading}
use Rattle.volume_machine.specs.Runs.{no_plain}
use Rattle.volume_machine.specs.Seals.{AreLawful, Seals, seals_of}
use Rattle.volume_machine.specs.States.{State}
use Rattle.volume_machine.specs.Working.{HasRoom}
use Rattle.volume_machine.specs.Works.{Work, converting, resting}
use Rattle.volume_machine.specs.declared.keys.Keys.{Keys}
use Rattle.volume_laws.specs.WorkerRuns.Leaving.{DeedsLeaveTheRest, SaysAs, SaysItEnds}
use Rattle.hotzone.proofs.ZoneEvents.TellLemmas.{guard-told}
use Rattle.hotzone.specs.ZoneEvents.Heads.{header_on}
use Rattle.hotzone.specs.ZoneEvents.Readings.{guard_in, map_of, parts_in, reading_of}
use Rattle.volume_laws.specs.BesideLanes.Lanes.{StaysSame}
use Rattle.volume_laws.proofs.BesideServing.{Failures.deeds_same, Legals.legal_one}
use Rattle.volume_laws.proofs.BesideServing.Stops.{HasWork, work_over}
use Rattle.recovery_laws.proofs.Served.ValueLemmas.{length-from, value-from, values-from}
use Rattle.recovery_laws.specs.Served.Again.{DeedsStandAgain, StandsBeside}
use Rattle.volume_laws.specs.Contents.{IsAllowedAt}
use Rattle.volume_laws.specs.Converting.{IsServedBeside}

-- the laws that this stands on
pub record StopLaws {C : Type 0} (sector : C → ℕ) (sealed opened : C → ℕ → List ℕ → List ℕ)
    : Type 0 where
  pub start : BegunConversionsStart sector sealed opened
  pub lawfully : (keys : Keys C) (atom : ℕ) → IsAtom atom → atom % sector keys.old ≡ 0
      → atom % sector keys.new ≡ 0 → AreLawful atom (seals_of sealed opened atom keys)
  pub stops : (reading : Reading) (start : State (Keys C)) (seals : Seals)
      → StopsBeside reading start seals
  pub serves : (reading : Reading) (start : State (Keys C)) (seals : Seals)
      → ServesBeside reading start seals
  pub tells : (reading : Reading) (start : State (Keys C)) (seals : Seals)
      → TellsBeside reading start seals
  pub orders : (reading : Reading) (seals : Seals) (start : State (Keys C))
      (deeds : List (Deed (Keys C))) → IsInOrder reading start
      → AreDeeds reading seals start deeds → IsInOrder reading (state_after start deeds)
  pub leaves : DeedsLeaveTheRest C
  pub reader : IsReader header_reader
  pub images : ImageTaken
  pub spelt : Spelt
  pub given : GivenIsUsed
  pub sides : SidesTellKeys

module _ {C : Type 0} {sector : C → ℕ} {sealed opened : C → ℕ → List ℕ → List ℕ}
    (laws : StopLaws sector sealed opened) (sizes : Sizes) (header : Stored) (lanes : ℕ)
    (old_key new_key bytes : List ℕ) (volume : State (Keys C)) (content : List (List ℕ))
    (b : BeginsBehind sector sealed opened sizes header lanes old_key new_key bytes volume)
    (stands : StandsUnder sizes old_key new_key bytes content) (disks : AreDisks sizes volume.disk)
    (guarded : IsSaved b.now.conversion.resilience) where
  abbrev reading : Reading
  reading = reading_of sizes

  abbrev seals : Seals
  seals = volume_seals sealed opened volume

  pub starts : RunsStart reading (layout_on sizes header) (header_on header) converting volume seals
      (settled_blocks content) bytes
      × StartsCertain (layout_on sizes header) (header_on header) volume seals
      (settled_blocks content)
  starts = laws.start sizes header lanes old_key new_key bytes volume content b stands

  pub known-atom : IsAtom sizes.atom
  known-atom = subst (λ (n : ℕ). IsAtom n) b.map.atom b.order.sound.fits.known

  pub some-atom : 0 < sizes.atom
  some-atom = some known-atom
    where
      some : {atom : ℕ} → IsAtom atom → 0 < atom
      some (inl is) = rw is (omega arith)
      some (inr is) = rw is (omega arith)

  -- ---- what the first header says
  pub first-parts : parts_in (header_on header).means ≡ Ok header.valid.meta
  first-parts =
      ap parts_in (sym b.holds.holds.means)
      ∙ (held-parts laws.spelt sizes (front_of sizes bytes) b.holds.holds.stored
      b.holds.holds.held).read
      ∙ ap (λ (v : Checked). Ok v.meta) b.holds.holds.same

  pub first-valid : first_fault header.valid.meta sizes ≡ None
  first-valid =
      subst (λ (v : Checked). first_fault v.meta sizes ≡ None) b.holds.holds.same
      (held-parts laws.spelt sizes (front_of sizes bytes) b.holds.holds.stored
      b.holds.holds.held).rules

  pub guard-first : guard_in sizes (header_on header).means ≡ datashift → ⊥
  guard-first shifts =
      not-shifted b.now.conversion.resilience guarded
      (sym (guard-told sizes (header_on header).means header.valid.meta (Some b.now) first-parts b.known)
      ∙ shifts)

  pub here-placed : IsPlaced laws.lawfully sizes header lanes old_key new_key bytes volume content b stands
  here-placed = placed laws.lawfully sizes header lanes old_key new_key bytes volume content b stands

  pub same-meta : stands.stored.valid.meta ≡ header.valid.meta
  same-meta =
      ap (λ (s : Stored). s.valid.meta)
      (one-header sizes bytes stands.stored b.holds.holds.stored stands.header b.holds.holds.held)
      ∙ ap (λ (v : Checked). v.meta) b.holds.holds.same

  pub old-is : IsKeyOf header.valid.meta b.now.old old_key
  old-is =
      subst (λ (m : Parts). IsKeyOf m b.now.old old_key) same-meta
      (subst (λ e. IsKeyOf stands.stored.valid.meta e old_key) here-placed.old stands.old_key)

  pub new-is : IsKeyOf header.valid.meta b.now.new new_key
  new-is =
      subst (λ (m : Parts). IsKeyOf m b.now.new new_key) same-meta
      (subst (λ e. IsKeyOf stands.stored.valid.meta e new_key) here-placed.new stands.new_key)

  pub lawful : AreLawful sizes.atom (seals_of sealed opened sizes.atom volume.keys)
  lawful =
      subst (λ (a : ℕ). AreLawful a (seals_of sealed opened a volume.keys)) b.map.atom
      starts.0.lawful

  pub seals-here : seals ≡ seals_of sealed opened sizes.atom volume.keys
  seals-here = ap (λ a. seals_of sealed opened a volume.keys) b.map.atom

  count-first : length content ≡ volume.map.blocks
  count-first =
      stands.holds.count ∙ here-placed.map.blocks ∙ sym b.map.blocks

  pub some-block : 0 < volume.map.blocks
  some-block =
      let fits = disks.disk.fits in
      let has = disks.has.main in
      let atom = disks.has.atom in
      let fewer = mul-le-mul_right sizes.atom has in
      let whole : volume.disk.atoms * sizes.atom ≡ volume.disk.atoms * volume.disk.size =
      ap (λ n. volume.disk.atoms * n) atom in
      let way = under-way header.valid.meta sizes b.now
      (ruled laws.lawfully sizes header lanes old_key new_key bytes volume content b stands) b.known
      (omega (arith, fits, fewer, whole)) in
      let some = way.some in
      let blocks = b.map.blocks in
      omega (arith, some, blocks)

  -- ---- behind deeds
  module _ (deeds : List (Deed (Keys C))) (exchanges : List Exchange)
      (are : AreDeeds reading seals volume deeds)
      (answered : AreExchanges (answered_over seals volume no_plain deeds) exchanges) where
    abbrev pub here : State (Keys C)
    here = state_after volume deeds

    pub has : HasWork here
    has =
        work_over reading seals volume deeds
        (resting (layout_on sizes header) (header_on header) converting, starts.0.at_rest) are

    order : IsInOrder reading here
    order = laws.orders reading seals volume deeds b.order are

    same-size : StaysSame volume here
    same-size =
        deeds_same reading seals volume deeds
        (record { sound = b.order.sound; order = λ some. b.order }) are

    pub atom-here : here.map.atom ≡ sizes.atom
    atom-here = same-size.atom ∙ b.map.atom

    -- both copies of a header that a stop may leave lie on its own disk
    pub room-here : (work : Work) → here.work ≡ Some work → (one : List ℕ)
        → MayBe (stage_of work.phase) (from_of work.zone work.phase).means
        (to_of work.zone work.phase).means one
        → 2 * header_reader.size one ≤ header_bytes sizes
    room-here =
        room-behind laws.spelt sizes header lanes old_key new_key bytes volume b disks starts.0.at_rest
        deeds are

    pub served : IsServedBeside (StartsCertain (layout_on sizes header) (header_on header) volume seals
        (settled_blocks content)) volume seals (settled_blocks content) deeds exchanges
    served =
        laws.serves reading volume seals (layout_on sizes header) (header_on header) converting
        (settled_blocks content) bytes deeds exchanges starts.0 are answered

    -- ---- an image of it
    module _ (told : Told) (told_is : here.disk.told ≡ Some told) (image : List (List ℕ))
        (taken : IsTaken reading here (handed_over volume (both_of (header_on header)) deeds) told.now
        image) where
      stopped : (left : List Block) × Legal volume.map.atom (settled_blocks content) exchanges left
          × StandsTaken reading here seals (plain_over seals volume no_plain deeds) left
          (handed_over volume (both_of (header_on header)) deeds) told.now
      stopped =
          laws.stops reading volume seals (layout_on sizes header) (header_on header) converting
          (settled_blocks content) bytes deeds exchanges (both_of (header_on header)) laws.reader
          starts.0 starts.1
          (both-dated reading volume (layout_on sizes header) (header_on header)
          (b.order.courses (resting (layout_on sizes header) (header_on header) converting)
          starts.0.at_rest).is starts.0.at_rest) are answered told told_is has.0 has.1
          (λ work at guard. refl)

      allowed : StandsTaken reading here seals (plain_over seals volume no_plain deeds) served.left
          (handed_over volume (both_of (header_on header)) deeds) told.now
      allowed =
          subst (λ (left : List Block). StandsTaken reading here seals
          (plain_over seals volume no_plain deeds) left
          (handed_over volume (both_of (header_on header)) deeds) told.now)
          (legal_one volume.map.atom (settled_blocks content) stopped.0 served.left exchanges
          stopped.1 served.legal) stopped.2

      pub of-image : (held : Content)
          × MachineStands reading here.disk.atoms seals here.map here.work (value_in image) held
          × ((k : ℕ) → k < here.map.blocks
          → IsAllowedAt here (plain_over seals volume no_plain deeds) served.left k (held k))
          × HasHeader reading here (value_in image)
      of-image = allowed image taken

      abbrev held : Content
      held = of-image.0

      pub by : StandsByHeader reading here.disk.atoms seals has.0 here.map (value_in image) held
      by =
          subst (λ w. MachineStands reading here.disk.atoms seals here.map w (value_in image) held) has.1
          of-image.1

      may : MayBe (stage_of has.0.phase) (from_of has.0.zone has.0.phase).means
          (to_of has.0.zone has.0.phase).means by.header
      may = of-image.3 has.0 has.1 by.header by.gives

      pub says : SaysAs reading (header_on header).means by.header
          ⊎ SaysItEnds reading (header_on header).means by.header
      says =
          (laws.leaves reading seals (layout_on sizes header) (header_on header) volume deeds b.order
          starts.0.at_rest guard-first are).headers has.0 has.1 by.header may

      tells : Tells reading (header_on header).means has.0 by.header
      tells =
          laws.tells reading volume seals (layout_on sizes header) (header_on header) converting deeds
          starts.0.at_rest are has.0 has.1 by.header may

      -- ---- the bytes of the image
      cells : length told.now ≡ here.disk.atoms
      cells = served.cells starts.1 told told_is

      whole-text : content_of here.disk.atoms (value_in image) ≡ joined image
      whole-text =
          let course = order.courses has.0 has.1 in
          ap (λ n. content_of n (value_in image)) (sym cells)
          ∙ (laws.images here.map.atom
          (header_reader.size (from_of has.0.zone has.0.phase).means) has.0.layout told.now image taken.is
          taken.whole (subst (λ (n : ℕ). IsLaidOut here.map.atom n
          (header_reader.size (from_of has.0.zone has.0.phase).means) has.0.layout) (sym cells)
          course.laid)).1

      pub even : lengths image ≡ replicate here.disk.atoms sizes.atom
      even =
          subst (λ (n : ℕ). lengths image ≡ replicate n sizes.atom) cells
          (subst (λ (a : ℕ). lengths image ≡ replicate (length told.now) a) atom-here taken.whole)

      pub gives : Gives header_reader (front_of sizes (joined image)) by.header
      gives =
          gives-in-front header_reader laws.reader (joined image) (header_bytes sizes) by.header
          (room-here has.0 has.1 by.header may)
          (subst (λ (text : List ℕ). Gives header_reader text by.header) whole-text by.gives)

      -- ---- what it stands for
      -- the values of its blocks
      abbrev pub values : List (List ℕ)
      values = values-from held 0 here.map.blocks

      values-are : (k : ℕ) → k < here.map.blocks → held k ≡ value_in values k
      values-are k below =
          ap held (let e : k ≡ 0 + k = omega arith in e)
          ∙ sym (value-from held 0 here.map.blocks k below)

      told-new : TellsKeys sizes header.valid.meta b.now.new by.header New
      told-new =
          laws.sides sizes (header_on header).means by.header header.valid.meta New b.now.new some-atom
          first-parts first-valid (inl (b.now, b.known, refl)) tells.new

      pub again : StandsAgain sizes old_key new_key (joined image) values
      again =
          says-again sector sealed opened sizes known-atom volume.keys lawful has.0 image here.disk.atoms
          here.map.blocks even held values (length-from held 0 here.map.blocks)
          (let some = some-block in let all = same-size.blocks in omega (arith, some, all)) values-are by.header
          by.blocks (λ k below. subst (λ (s : Seals).
          BlockStands reading (map_of sizes by.header) s has.0 (value_in image) held k) seals-here
          (by.stands k below)) laws.spelt laws.given gives header.valid.meta b.now old_key new_key old-is
          new-is b.keys (header_on header).means first-parts b.known guarded told-new tells.zone
          (order.works has.0 has.1).lies.count
          (subst (λ (a : ℕ). HasRoom has.0.zone.resilience a has.0.zone) atom-here
          (order.works has.0 has.1).enough) (order.works has.0 has.1).within.zone.store
          (on-one-side reading here order has.0 has.1 by.header may)
          (λ same. laws.sides sizes (header_on header).means by.header header.valid.meta Old b.now.old
          some-atom first-parts first-valid (inl (b.now, b.known, refl)) same) says

      pub allowed-values : (k : ℕ) → k < here.map.blocks
          → IsAllowedAt here (plain_over seals volume no_plain deeds) served.left k (value_in values k)
      allowed-values k below =
          subst (λ (value : List ℕ). IsAllowedAt here (plain_over seals volume no_plain deeds) served.left
          k value) (values-are k below) (of-image.2 k below)

    pub stands-beside : StandsBeside sizes header old_key new_key volume seals content deeds exchanges
    stands-beside = record {
      left = served.left;
      legal = served.legal;
      images = λ told told_is image taken. (
        values told told_is image taken,
        again told told_is image taken,
        allowed-values told told_is image taken,
      );
    }

pub deeds-stand : {C : Type 0} {sector : C → ℕ} {sealed opened : C → ℕ → List ℕ → List ℕ}
    → StopLaws sector sealed opened → DeedsStandAgain sector sealed opened
deeds-stand laws sizes header lanes old_key new_key bytes volume content deeds exchanges b stands disks
    guarded are answered =
    stands-beside laws sizes header lanes old_key new_key bytes volume content b stands disks guarded deeds
    exchanges are answered
