-- Each image that a run of clients' events leaves of a volume in the middle of its conversion stands by
-- itself.
use Rattle.std.proofs.Common.{◌≡◌, ◌≢◌, ◌∙◌, ◌+◌, ◌*◌, ◌<◌, ◌≤◌, inl, inr, ℕ, zero, suc, List, [], ◌∷◌, ◌++◌}
use Rattle.std.proofs.Common.{Option, Some, None, Ok, ap, ap₂, arith, length, refl, replicate, subst, sym}
use Rattle.std.proofs.Common.{true, false, length-take, mul-le-mul_right, take, take_all}
use Rattle.std.specs.Prelude.{IsSomeAnd}
use Rattle.std.proofs.lemmas.Bool.{cases_lt}
use Rattle.std.proofs.lemmas.List.{get_or_past, take-take}
use Rattle.base_terms.specs.Blocks.{joined, lengths}
use Rattle.base_terms.specs.declared.disk_sizes.Sizes.{Sizes}
use Rattle.sector_disk.proofs.DiskViews.Entries.{image_in, length-image}
use Rattle.sector_disk.specs.DiskViews.Parts.{AreBlocks, block_at, cell_in, value_in}
use Rattle.luks_rules.specs.Areas.{areas_begin, header_bytes}
use Rattle.luks_rules.specs.Shapes.{progress_of}
use Rattle.luks_rules.specs.States.{IsSound as IsRuled}
use Rattle.luks_rules.specs.declared.shape.Progress.{Progress}
use Rattle.luks_rules.specs.declared.valid.Checked.{Checked}
use Rattle.luks_store.specs.Devices.{IsCertain, front_of}
use Rattle.luks_store.specs.Loads.{stored_in}
use Rattle.luks_store.specs.Promises.{AreasBeginBehind, FrontsAreLoaded}
use Rattle.luks_store.specs.declared.copies.CopyState.TheVariants.{Good, Lacking}
use Rattle.luks_store.specs.declared.loaded.Stored.{Stored}
use Rattle.image_laws.proofs.Opened.FrontLemmas.{block-lies}
use Rattle.image_laws.proofs.Opened.OneLemmas.{same-place, same-side}
use Rattle.image_laws.specs.Opened.Images.{seals_at}
use Rattle.plain_disk.specs.Plain.{Block}
use Rattle.reenc_meta.specs.ConversionMaps.{IsMapAt}
use Rattle.reenc_recovery.proofs.PlacingLemmas.{is_idle}
use Rattle.reenc_recovery.specs.Images.{HoldsBlock, StandsUnder, seals_in}
use Rattle.reenc_recovery.specs.Keys.{seals_by}
use Rattle.reenc_meta.specs.declared.placement.Placement.{Placement}
use Rattle.recovery_laws.specs.Resumed.Starts.{BeginsBehind, volume_seals}
use Rattle.sector_disk.specs.Cells.{Cell, IsImage, currents}
use Rattle.sector_disk.specs.Geometry.{IsAtom}
use Rattle.sector_disk.specs.Steps.{Told}
use Rattle.segment_map.specs.declared.map.Map.{Map}
use Rattle.recovery_laws.specs.Served.Clients.{without_work}
use Rattle.recovery_laws.specs.Served.Stops.{HasStill, StandsAlong}
use Rattle.image_laws.proofs.Started.BlockLemmas.{progress-busy}
use Rattle.image_laws.proofs.Started.GapLemmas.{one-header}
use Rattle.image_laws.proofs.Started.HeaderLemmas.{known-of}
use Rattle.volume_laws.proofs.Executions.{run-front}
use Rattle.volume_laws.specs.Contents.{IsAllowedAt, IsSealed, StopsAllowed}
use Rattle.volume_laws.specs.Promises.{GoesByEvents}
use Rattle.volume_laws.specs.Rest.{KeepsCell, KeepsRest}
use Rattle.volume_machine.proofs.NextPieces.{on_disk}
use Rattle.volume_machine.specs.Beginnings.{IsFresh}
use Rattle.volume_machine.specs.Edges.{InPlain}
use Rattle.volume_machine.specs.Pieces.{place_in, side_in}
use Rattle.volume_machine.specs.Runs.{Happening, IsRun, last_of}
use Rattle.volume_machine.specs.Seals.{AreLawful, Seals, seals_of}
use Rattle.volume_machine.specs.Sound.{IsSound}
use Rattle.volume_machine.specs.States.{IsGoverned, State}
use Rattle.volume_machine.specs.Working.{KeepsApart}
use Rattle.volume_machine.specs.Works.{Work}
use Rattle.volume_machine.specs.declared.keys.Keys.{Keys}
use Rattle.volume_opening.proofs.FrontLemmas.{atom_is, front_is}
use Rattle.hotzone.proofs.ZoneEvents.GroundLemmas.{one-progress}
use Rattle.image_laws.proofs.Led.KeyLemmas.{same-opened, same-sealed}

-- ---- a content, value by value
unfoldable pub values-from : (ℕ → List ℕ) → ℕ → ℕ → List (List ℕ)
values-from value first zero = []
values-from value first (suc n) = value first ∷ values-from value (suc first) n

length-from : (value : ℕ → List ℕ) (first n : ℕ) → length (values-from value first n) ≡ n
unfolding values-from
length-from value first zero = refl
length-from value first (suc n) = ap (λ k. suc k) (length-from value (suc first) n)

value-from : (value : ℕ → List ℕ) (first n b : ℕ) → b < n
    → value_in (values-from value first n) b ≡ value (first + b)
unfolding values-from
value-from value first zero b below = absurd (omega (arith, below))
value-from value first (suc n) zero below = ap value (omega arith)
value-from value first (suc n) (suc b) below =
    value-from value (suc first) n b (omega (arith, below)) ∙ ap value (omega arith)

-- ---- an atom beside the blocks
-- a place that was certain, and is kept, has what it held
kept-there : (sizes : Sizes) (bytes : List ℕ) (before now : List Cell) (image : List (List ℕ))
    (place : ℕ) → IsCertain sizes bytes before
    → KeepsCell (cell_in before place) (cell_in now place) → IsImage now image
    → value_in image place ≡ (cell_in before place).current
kept-there sizes bytes before now image place certain keeps is = elim (cases_lt place (length now)) [
  | inl within ↦ elim (keeps.candidates _ (image_in now image place is within)) [
    | inl held ↦ certain.only place (value_in image place) held
    | inr same ↦ same
  ]
  | inr past ↦ get_or_past image place [] (omega (arith, length-image now image is, past))
      ∙ sym (ap (λ (cell : Cell). cell.current) (get_or_past now place _ past)) ∙ keeps.current
]

-- a front of a front
short-front : (m room : ℕ) (text : List ℕ) → room < m → take m (take room text) ≡ take room text
short-front m room text past = take_all m (take room text) (omega (arith, past, length-take room text))

-- the first bytes of both fronts are the same
same-header : (m room : ℕ) (one other : List ℕ)
    → ((k : ℕ) → k ≤ m → k ≤ room → take k one ≡ take k other)
    → take m (take room one) ≡ take m (take room other)
same-header m room one other same = elim (cases_lt room m) [
  | inl past ↦ short-front m room one past ∙ same room (omega (arith, past)) (omega arith)
      ∙ sym (short-front m room other past)
  | inr fits ↦ take-take m room one (omega (arith, fits)) ∙ same m (omega arith) (omega (arith, fits))
      ∙ sym (take-take m room other (omega (arith, fits)))
]

no-work : {K : Type 0} (state : State K) (b : ℕ) → state.work ≡ None → IsGoverned state b → ⊥
no-work state b none governed =
    let is : IsSomeAnd None (λ (work : Work). (work.range.start ≤ b) × (b < work.range.end)) =
    subst (λ (w : Option Work). IsSomeAnd w
    (λ (work : Work). (work.range.start ≤ b) × (b < work.range.end))) none governed in
    absurd is

some-atom : (atom : ℕ) → IsAtom atom → 0 < atom
some-atom atom (inl is) = rw is (omega arith)
some-atom atom (inr is) = rw is (omega arith)

module _ {C : Type 0} {sector : C → ℕ} {sealed opened : C → ℕ → List ℕ → List ℕ} (sizes : Sizes)
    (header : Stored) (lanes : ℕ) (old_key new_key bytes : List ℕ) (content : List (List ℕ))
    (volume : State (Keys C))
    (b : BeginsBehind sector sealed opened sizes header lanes old_key new_key bytes volume)
    (stands : StandsUnder sizes old_key new_key bytes content)
    (lawful : AreLawful volume.map.atom (volume_seals sealed opened volume)) where
  abbrev seals : Seals
  seals = volume_seals sealed opened volume

  abbrev stored : Stored
  stored = stands.stored

  abbrev p : Placement
  p = stands.placement

  some : 0 < volume.map.atom
  some = some-atom volume.map.atom b.order.sound.fits.known

  -- ---- the header
  same-stored : b.holds.holds.stored ≡ stored
  same-stored = one-header sizes bytes b.holds.holds.stored stored b.holds.holds.held stands.header

  valid : stored.valid ≡ header.valid
  valid = ap (λ (s : Stored). s.valid) (sym same-stored) ∙ b.holds.holds.same

  known : progress_of stored.valid.meta sizes ≡ Some b.now
  known = subst (λ (v : Checked). progress_of v.meta sizes ≡ Some b.now) (sym valid) b.known

  ruled : IsRuled stored.valid.meta sizes
  ruled = (known-of sizes (front_of sizes bytes) stored
      (subst (λ (a : ℕ). 0 < a) b.map.atom some) stands.header).sound

  good : stored.copies.primary.state ≢ Lacking
  good lacks =
      let was = subst (λ (s : Stored). s.copies.primary.state ≡ Lacking) (sym same-stored) lacks in
      let e : Good ≡ Lacking = sym b.holds.holds.good.primary ∙ was in cc

  -- ---- how it places the blocks
  record IsPlaced : Type 0 where
    map : IsMapAt sizes b.now p.map
    old : p.old ≡ b.now.old
    new : p.new ≡ b.now.new

  placed : IsPlaced
  placed = elim stands.placed [
    | inl idle ↦ absurd (let e : false ≡ true =
        sym (is_idle stored.valid.meta sizes p idle)
        ∙ progress-busy stored.valid.meta sizes b.now known in cc)
    | inr (c, is, here) ↦
        (let same = one-progress stored.valid.meta sizes c b.now is known in
        record {
          map = subst (λ (q : Progress). IsMapAt sizes q p.map) same here.map;
          old = here.old ∙ ap (λ (q : Progress). q.old) same;
          new = here.new ∙ ap (λ (q : Progress). q.new) same;
        })
  ]

  same-blocks : volume.map.blocks ≡ p.map.blocks
  same-blocks = b.map.blocks ∙ sym placed.map.blocks

  lies : (k : ℕ) → areas_begin stored.valid.meta.config ≤ place_in volume.map k * volume.map.atom
  lies k = subst (λ (a : ℕ). areas_begin stored.valid.meta.config ≤ place_in volume.map k * a)
      (sym b.map.atom) (block-lies stored.valid.meta sizes b.now ruled known volume.map b.map k)

  within : (k : ℕ) → k < volume.map.blocks → place_in volume.map k < volume.disk.atoms
  within k below =
      (let end = on_disk volume.map volume.disk.atoms k 1 (side_in volume.map k) b.order.sound.fits
      (omega (arith, below)) in omega (arith, end))

  -- ---- an image of a table
  module _ (before : Told) (was : volume.disk.told ≡ Some before) (image : List (List ℕ))
      (held : (k : ℕ) → k < volume.map.blocks → (value : List ℕ)
      × IsSealed volume.map seals k value (value_in image (place_in volume.map k)))
      (kept : (place : ℕ) → ((k : ℕ) → k < volume.map.blocks → place_in volume.map k ≢ place)
      → value_in image place ≡ (cell_in before.now place).current) where
    certain : IsCertain sizes bytes before.now
    certain = b.holds.holds.certain before was

    count : length before.now ≡ volume.disk.atoms
    count = b.whole.cells before was

    even : lengths (currents before.now) ≡ replicate volume.disk.atoms volume.map.atom
    even = certain.even ∙ ap₂ (λ n a. replicate n a) count (sym b.map.atom)

    -- what the atoms of its blocks are opened to, which are the values that they hold
    abbrev left : List (List ℕ)
    left = values-from
        (λ k. seals.opened (side_in volume.map k) k (value_in image (place_in volume.map k))) 0
        volume.map.blocks

    pub left-is : (k : ℕ) → k < volume.map.blocks → (value : List ℕ)
        → IsSealed volume.map seals k value (value_in image (place_in volume.map k))
        → value_in left k ≡ value
    left-is k below value sealed_is =
        value-from (λ j. seals.opened (side_in volume.map j) j
        (value_in image (place_in volume.map j))) 0 volume.map.blocks k below
        ∙ ap (λ j. seals.opened (side_in volume.map j) j (value_in image (place_in volume.map j)))
        (let e : 0 + k ≡ k = omega arith in e)
        ∙ ap (λ atom. seals.opened (side_in volume.map k) k atom) sealed_is.1
        ∙ lawful.opens_sealed (side_in volume.map k) k value sealed_is.0

    -- as the volume has them
    atom-at : (k : ℕ) → k < volume.map.blocks
        → block_at volume.map.atom (joined image) (place_in volume.map k)
        ≡ value_in image (place_in volume.map k)
    atom-at k below =
        atom_is volume.map seals volume.disk.atoms image before.now some lawful even held kept
        (place_in volume.map k) (within k below)

    block-held : (k : ℕ) → k < volume.map.blocks
        → HoldsBlock volume.map seals k (value_in left k)
        (block_at volume.map.atom (joined image) (place_in volume.map k))
    block-held k below =
        let (value, sealed_is) = held k below in
        subst (λ atom. HoldsBlock volume.map seals k (value_in left k) atom) (sym (atom-at k below))
        (subst (λ v. HoldsBlock volume.map seals k v (value_in image (place_in volume.map k)))
        (sym (left-is k below value sealed_is))
        (record {
          sealed = sealed_is;
          opened = sym (ap (λ atom. seals.opened (side_in volume.map k) k atom) sealed_is.1
              ∙ lawful.opens_sealed (side_in volume.map k) k value sealed_is.0);
        }))

    -- and as the header places them
    by-header : (k : ℕ) → k < volume.map.blocks
        → HoldsBlock p.map (seals_in sizes.atom p old_key new_key) k (value_in left k)
        (block_at sizes.atom (joined image) (place_in p.map k))
    by-header k below =
        let is = placed in
        let block = block-held k below in
        let side = same-side sizes b.now volume.map p.map b.map is.map k in
        let place = same-place sizes b.now volume.map p.map b.map is.map k in
        let atoms : volume.map.atom ≡ p.map.atom = b.map.atom ∙ sym is.map.atom in
        let text : block_at sizes.atom (joined image) (place_in p.map k)
        ≡ block_at volume.map.atom (joined image) (place_in volume.map k) =
        ap (λ n. block_at sizes.atom (joined image) n) (sym place)
        ∙ ap (λ a. block_at a (joined image) (place_in volume.map k)) (sym b.map.atom) in
        let by : seals_at sizes.atom b.now old_key new_key ≡ seals_in sizes.atom p old_key new_key =
        ap₂ (λ o n. seals_by sizes.atom o n old_key new_key) (sym is.old) (sym is.new) in
        record {
          sealed = (
            subst (λ (a : ℕ). AreBlocks a 1 (value_in left k)) atoms block.sealed.0,
            text ∙ block.sealed.1
                ∙ ap (λ a. (seals_of sealed opened a volume.keys).sealed (side_in volume.map k) k
                (value_in left k)) b.map.atom
                ∙ same-sealed sector sealed opened b.now old_key new_key volume.keys b.keys sizes.atom
                (side_in volume.map k) k (value_in left k)
                ∙ ap₂ (λ (s : Seals) side. s.sealed side k (value_in left k)) by side,
          );
          opened = block.opened
              ∙ ap (λ a. (seals_of sealed opened a volume.keys).opened (side_in volume.map k) k
              (block_at volume.map.atom (joined image) (place_in volume.map k))) b.map.atom
              ∙ same-opened sector sealed opened b.now old_key new_key volume.keys b.keys sizes.atom
              (side_in volume.map k) k
              (block_at volume.map.atom (joined image) (place_in volume.map k))
              ∙ ap₂ (λ (s : Seals) side. s.opened side k
              (block_at volume.map.atom (joined image) (place_in volume.map k))) by side
              ∙ ap (λ atom. (seals_in sizes.atom p old_key new_key).opened (side_in p.map k) k atom)
              (sym text);
        }

    -- it begins with what the disk held, so it has the header that the disk had
    module _ (begins : AreasBeginBehind) (fronts : FrontsAreLoaded) where
      abbrev size : ℕ
      size = 2 * stored.copies.used.header.hdr_size

      begin : areas_begin stored.valid.meta.config ≡ size
      begin = begins sizes (front_of sizes bytes) stored stands.header

      fits : (k : ℕ) → k ≤ header_bytes sizes → k ≤ volume.disk.atoms * volume.map.atom
      fits k below =
          let all = certain.header_atoms in
          let room : sizes.header_atoms * sizes.atom ≤ length before.now * sizes.atom =
          mul-le-mul_right sizes.atom all in
          subst (λ (n : ℕ). k ≤ n * volume.map.atom) count
          (subst (λ (a : ℕ). k ≤ length before.now * a) (sym b.map.atom) (omega (arith, below, room)))

      front : (k : ℕ) → k ≤ size → k ≤ header_bytes sizes → take k (joined image) ≡ take k bytes
      front k short inside =
          front_is volume.map seals volume.disk.atoms image before.now some lawful even held kept k
          (fits k inside)
          (λ j below. (let there = lies j in omega (arith, there, begin, short)))
          ∙ ap (λ xs. take k xs) certain.holds

      pub loads : stored_in sizes (front_of sizes (joined image)) ≡ Ok stored
      loads =
          fronts sizes (front_of sizes bytes) (front_of sizes (joined image)) stored stands.header
          good (same-header size (header_bytes sizes) (joined image) bytes front)

      pub stands-still : StandsUnder sizes old_key new_key (joined image) left
      stands-still = record {
        stored = stored;
        header = loads;
        placement = p;
        placed = stands.placed;
        old_key = stands.old_key;
        new_key = stands.new_key;
        holds = record {
          count = length-from (λ k. seals.opened (side_in volume.map k) k
              (value_in image (place_in volume.map k))) 0 volume.map.blocks ∙ same-blocks;
          blocks = λ k below. by-header k (subst (λ n. k < n) (sym same-blocks) below);
        };
      }

      pub has-still : HasStill sizes header (joined image)
      has-still = record { stored = stored; held = loads; same = valid }

  -- ---- a run of clients' events
  module _ (sound : IsSound (without_work volume)) (fresh : IsFresh (without_work volume))
      (rest : (run : List (Happening (Keys C))) (now : Told) → IsSound (without_work volume)
      → KeepsApart (without_work volume) → IsRun (without_work volume) run
      → (last_of (without_work volume) run).disk.told ≡ Some now
      → KeepsRest (without_work volume) now)
      (goes : (earlier later : List (Happening (Keys C))) → IsFresh (without_work volume)
      → IsRun (without_work volume) (earlier ++ later)
      → GoesByEvents (without_work volume) earlier)
      (begins : AreasBeginBehind) (fronts : FrontsAreLoaded) where
    -- one stop, and one image of it
    module _ (earlier later : List (Happening (Keys C)))
        (run : IsRun (without_work volume) (earlier ++ later)) (now : Told)
        (told_now : (last_of (without_work volume) earlier).disk.told ≡ Some now)
        (plain : ℕ → InPlain) (blocks : List Block)
        (allowed : StopsAllowed (last_of (without_work volume) earlier) seals plain blocks now.now)
        (image : List (List ℕ)) (is_image : IsImage now.now image) where
      abbrev last : State (Keys C)
      last = last_of (without_work volume) earlier

      along : GoesByEvents (without_work volume) earlier
      along = goes earlier later fresh run

      rests : KeepsRest (without_work volume) now
      rests = rest earlier now sound
          (λ work at. absurd (let e : None ≡ Some work = at in cc))
          (run-front (without_work volume) earlier later run) told_now

      at-block : (k : ℕ) → k < volume.map.blocks → (value : List ℕ)
          × IsAllowedAt last plain blocks k value
          × IsSealed volume.map seals k value (value_in image (place_in volume.map k))
      at-block k below =
          let (value, may, held) = allowed image is_image k (record {
            inside = subst (λ (m : Map). k < m.blocks) (sym along.map) below;
            free = no-work last k along.work;
          }) in (
            value,
            may,
            subst (λ (m : Map). IsSealed m seals k value (value_in image (place_in m k))) along.map
                held,
          )

      beside : (place : ℕ) → ((k : ℕ) → k < volume.map.blocks → place_in volume.map k ≢ place)
          → value_in image place ≡ (cell_in rests.before.now place).current
      beside place none =
          kept-there sizes bytes rests.before.now now.now image place
          (b.holds.holds.certain rests.before rests.was)
          (rests.cells place (λ k live. none k live.inside)) is_image

      held-block : (k : ℕ) → k < volume.map.blocks → (value : List ℕ)
          × IsSealed volume.map seals k value (value_in image (place_in volume.map k))
      held-block k below = (let (value, may, held) = at-block k below in (value, held))

      pub allowed-image : (content : List (List ℕ))
          × StandsUnder sizes old_key new_key (joined image) content
          × HasStill sizes header (joined image)
          × ((k : ℕ) → k < last.map.blocks → IsAllowedAt last plain blocks k (value_in content k))
      allowed-image = (
        left rests.before rests.was image held-block beside,
        stands-still rests.before rests.was image held-block beside begins fronts,
        has-still rests.before rests.was image held-block beside begins fronts,
        λ k below.
            (let inside : k < volume.map.blocks =
            subst (λ (m : Map). k < m.blocks) along.map below in
            let (value, may, held) = at-block k inside in
            subst (λ v. IsAllowedAt last plain blocks k v)
            (sym (left-is rests.before rests.was image held-block beside k inside value held)) may),
      )

    pub stands-along : (run : List (Happening (Keys C))) → IsRun (without_work volume) run
        → StandsAlong sizes header old_key new_key (without_work volume) seals run
    stands-along run is_run earlier later parts now told_now plain blocks allowed image is_image =
        allowed-image earlier later (subst (λ r. IsRun (without_work volume) r) parts is_run) now
        told_now plain blocks allowed image is_image
