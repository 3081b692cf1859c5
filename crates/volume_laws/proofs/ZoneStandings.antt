-- An image that a stop leaves stands, by its own header, for a content that is allowed.
use Rattle.std.proofs.Common.{Bool, List, Some, [], ap, arith, false, inl, inr, length, refl, subst}
use Rattle.std.proofs.Common.{sym, ℕ, ◌+◌, ◌-◌, ◌<◌, ◌∙◌, ◌≡◌, ◌≢◌, ◌≤◌}
use Rattle.std.proofs.lemmas.Bool.{cases_lt}
use Rattle.std.proofs.lemmas.List.Elements.{Contains-push}
use Rattle.crash_laws.specs.HotZones.Zones.{ShowsZone}
use Rattle.plain_disk.specs.Plain.{Block}
use Rattle.sector_disk.specs.DiskViews.Parts.{value_in}
use Rattle.sector_disk.specs.DiskViews.Views.{View, view_of_bytes, view_of_cells}
use Rattle.sector_disk.specs.Steps.{Told}
use Rattle.segment_map.specs.declared.Side.{Side}
use Rattle.segment_map.specs.declared.Side.TheVariants.{New, Old}
use Rattle.volume_machine.specs.Edges.{InPlain}
use Rattle.volume_machine.specs.Pieces.{place_in, side_in}
use Rattle.volume_machine.specs.Seals.{Seals}
use Rattle.volume_machine.specs.States.{IsLive, State}
use Rattle.volume_machine.specs.Working.{IsWorking}
use Rattle.volume_machine.specs.Works.{Work}
use Rattle.crash_laws.proofs.HeaderAreas.HeadersGiven.{commit_gives, header_is_one}
use Rattle.crash_laws.specs.HeaderAreas.Areas.{Image, content_of}
use Rattle.crash_laws.specs.HeaderAreas.Commits.{MayBe, begun}
use Rattle.crash_laws.specs.HeaderAreas.Headers.{Gives, Handed, IsGenuine, IsReader, place_of}
use Rattle.sector_disk.proofs.DiskViews.Blockwise.{length-block_at}
use Rattle.sector_disk.proofs.DiskViews.Entries.{image_in}
use Rattle.crash_laws.proofs.HotZones.Recoveries.{zone_image_taken}
use Rattle.crash_laws.proofs.HotZones.ZoneFrames.{zone_sharp}
use Rattle.crash_laws.proofs.HotZones.ZoneImages.{stands_under}
use Rattle.crash_laws.specs.HotZones.Standing.{IsZoneImage, Stands}
use Rattle.crash_laws.specs.HotZones.Standing.{side_after, side_before}
use Rattle.crash_laws.specs.HotZones.Zones.{Texts}
use Rattle.crash_laws.specs.HotZones.Zones.{saving}
use Rattle.crash_laws.specs.HotZones.Zones.{from_of, to_of, stage_of}
use Rattle.volume_machine.specs.Courses.{IsBeyond, IsOnCourse}
use Rattle.volume_machine.specs.Readings.{Reading}
use Rattle.volume_laws.specs.Contents.{IsAllowedAt, IsNow, IsSealed, block_in}
use Rattle.volume_laws.specs.Imaging.{AreDated, HasHeader, ReadsDigests, StandsTaken}
use Rattle.volume_laws.specs.Standing.{Content}
use Rattle.volume_laws.specs.Standing.{StandsUnder}
use Rattle.volume_laws.specs.Texts.{texts_of}
use Rattle.volume_laws.proofs.BeginsServed.{zone_untried}
use Rattle.volume_laws.proofs.HeadersNow.{header_now, is_later}
use Rattle.volume_laws.proofs.Here.{Here, positive}
use Rattle.volume_laws.proofs.PlainBlocks.{newest_contained}
use Rattle.volume_laws.proofs.Standings.{chosen}
use Rattle.volume_laws.proofs.TurnsServed.{beyond_live, beyond_or_in}
use Rattle.volume_laws.proofs.ToldApart.{IsTold, TellsAtoms, saving_or}
use Rattle.volume_laws.proofs.ZoneBlocks.{PlacesZone, before_start, either_header, kept_by}
use Rattle.volume_laws.proofs.ZoneBlocks.{live_stands, next_places, own_map, start_on}
use Rattle.volume_laws.proofs.ZoneBlocks.{zone_block_stands}

-- ---- the header of an image
-- an image has the header from before or the next one, and by it each block of the zone stands
record HasHeaderOf {K : Type 0} (reading : Reading) (state : State K) (work : Work) (texts : Texts)
    (image : Image) : Type 0 where
  means : List ℕ
  may : MayBe (stage_of work.phase) (from_of work.zone work.phase).means
      (to_of work.zone work.phase).means means
  gives : Gives reading.reader (content_of state.disk.atoms image) means
  side : Side
  start : ℕ
  placed : PlacesZone state work.range side start (reading.map_of means)
  starts : start ≡ start_on work.zone.resilience work.zone side
  stands : (i : ℕ) → i < work.zone.own.count → Stands reading.hash work.zone texts image i side

-- An image of the disk at hand, by a view of it: in it each live block holds a value of some kind,
-- of which is the newest one of each block of the zone.
record IsSeen {K : Type 0} (reading : Reading) (state : State K) (seals : Seals) (left : List Block)
    (work : Work) (allowed : ℕ → List ℕ → Type 0) (broken : Bool) (view : View) (image : Image) :
    Type 0 where
  zone : IsZoneImage state.map.atom state.disk.atoms
      (reading.reader.size (from_of work.zone work.phase).means) work.layout work.zone view image
  given : (m : List ℕ) × MayBe (stage_of work.phase) (from_of work.zone work.phase).means
      (to_of work.zone work.phase).means m
      × Gives reading.reader (content_of state.disk.atoms image) m
  shows : ShowsZone state.map.atom work.layout work.zone (texts_of state.map.atom seals left work)
      work.phase broken view
  live : (b : ℕ) → IsLive state b → (value : List ℕ) × allowed b value
      × IsSealed state.map seals b value (image (place_in state.map b))
  own : (b : ℕ) → work.range.start ≤ b → b < work.range.end → allowed b (block_in left b).newest
  apart : TellsAtoms state.map.atom (texts_of state.map.atom seals left work) work.zone work.phase

module _ {K P Q : Type 0} {state : State K} {seals : Seals} {plain : ℕ → InPlain} {left : List Block}
    (reading : Reading) (here : Here P Q state seals plain left) (work : Work)
    (is : state.work ≡ Some work) (course : IsOnCourse reading state work)
    (hashes : ReadsDigests reading state) {allowed : ℕ → List ℕ → Type 0} {broken : Bool} {view : View}
    {image : Image}
    (seen : IsSeen reading state seals left work allowed broken view image) where
  abbrev texts : Texts
  texts = texts_of state.map.atom seals left work

  working : IsWorking state work
  working = here.works work is

  -- the map of each of the two headers
  from_places : PlacesZone state work.range (side_before work.phase) work.zone.own.start
      (reading.map_of (from_of work.zone work.phase).means)
  from_places = subst (PlacesZone state work.range (side_before work.phase) work.zone.own.start)
      course.map (own_map work working)

  -- the zone's blocks, where it has some
  abbrev side_of : List ℕ → Side
  side_of m = side_in (reading.map_of m) work.range.start

  abbrev MayHave : List ℕ → Type 0
  MayHave m = MayBe (stage_of work.phase) (from_of work.zone work.phase).means
      (to_of work.zone work.phase).means m

  from_header : (m : List ℕ) → MayHave m → m ≡ (from_of work.zone work.phase).means
      → Gives reading.reader (content_of state.disk.atoms image) m
      → ((i : ℕ) → i < work.zone.own.count
      → Stands reading.hash work.zone texts image i (side_before work.phase))
      → HasHeaderOf reading state work texts image
  from_header m may same gives stands = record {
    means = m;
    may = may;
    gives = gives;
    side = side_before work.phase;
    start = work.zone.own.start;
    placed = subst (λ h. PlacesZone state work.range (side_before work.phase) work.zone.own.start
        (reading.map_of h)) (sym same) from_places;
    starts = sym (before_start work.zone.resilience work.zone work.phase);
    stands = stands;
  }

  next_header : (m : List ℕ) → MayHave m → m ≡ (to_of work.zone work.phase).means
      → stage_of work.phase ≢ begun
      → Gives reading.reader (content_of state.disk.atoms image) m
      → ((i : ℕ) → i < work.zone.own.count
      → Stands reading.hash work.zone texts image i (side_after work.phase))
      → HasHeaderOf reading state work texts image
  next_header m may same goes gives stands = record {
    means = m;
    may = may;
    gives = gives;
    side = side_after work.phase;
    start = start_on work.zone.resilience work.zone (side_after work.phase);
    placed = subst (λ h. PlacesZone state work.range (side_after work.phase)
        (start_on work.zone.resilience work.zone (side_after work.phase)) (reading.map_of h))
        (sym same) (next_places work course goes);
    starts = refl;
    stands = stands;
  }

  behind_saving : ((i : ℕ) → IsTold state.map.atom work.phase i)
      → work.range.start < work.range.end → HasHeaderOf reading state work texts image
  behind_saving all_told some =
      let (m, may, gives) = seen.given in
      let stands = stands_under state.map.atom state.disk.atoms
      (reading.reader.size (from_of work.zone work.phase).means) work.layout work.zone texts work.phase
      reading.hash side_of image m may working.phased
      (kept_by state.map.atom work.zone.resilience reading.hash work.zone texts
      here.logic.sound.fits.known (λ by_digests. (
        hashes work is by_digests,
        λ i below. seen.apart by_digests i below (all_told i),
      )) working.enough (λ i. refl))
      (record {
        before = from_places.sides work.range.start (omega arith) some;
        after = λ goes. (next_places work course goes).sides work.range.start (omega arith) some;
      }) seen.zone seen.shows in
      elim (either_header (stage_of work.phase) (from_of work.zone work.phase).means
      (to_of work.zone work.phase).means m may) [
        | inl same ↦ from_header m may same gives (λ i below.
            subst (Stands reading.hash work.zone texts image i)
            (ap side_of same ∙ from_places.sides work.range.start (omega arith) some)
            (stands i below))
        | inr (same, goes) ↦ next_header m may same goes gives (λ i below.
            subst (Stands reading.hash work.zone texts image i)
            (ap side_of same
            ∙ (next_places work course goes).sides work.range.start (omega arith) some)
            (stands i below))
      ]

  -- while it is being saved the old atoms are there
  while_saving : (n : ℕ) → work.phase ≡ saving n → HasHeaderOf reading state work texts image
  while_saving n saves =
      let (m, may, gives) = seen.given in
      let shows = subst (λ p. ShowsZone state.map.atom work.layout work.zone texts p broken view)
      saves seen.shows in
      elim (either_header (stage_of work.phase) (from_of work.zone work.phase).means
      (to_of work.zone work.phase).means m may) [
        | inl same ↦ from_header m may same gives (λ i below.
            subst (λ p. Stands reading.hash work.zone texts image i (side_before p)) (sym saves)
            (shows.own.left i below (image (work.zone.own.start + i)) (seen.zone.own i below)))
        | inr (same, goes) ↦ absurd (goes (ap (λ p. stage_of p) saves))
      ]

  with_blocks : work.range.start < work.range.end → HasHeaderOf reading state work texts image
  with_blocks some = elim (saving_or state.map.atom work.phase) [
    | inl (n, saves) ↦ while_saving n saves
    | inr all_told ↦ behind_saving all_told some
  ]

  without_blocks : work.range.end ≤ work.range.start → HasHeaderOf reading state work texts image
  without_blocks none =
      let (m, may, gives) = seen.given in
      let empty : (i : ℕ) → i < work.zone.own.count → ⊥ = λ i below.
      (let count = working.lies.count in omega (arith, count, below, none)) in
      elim (either_header (stage_of work.phase) (from_of work.zone work.phase).means
      (to_of work.zone work.phase).means m may) [
        | inl same ↦ from_header m may same gives (λ i below. absurd (empty i below))
        | inr (same, goes) ↦ next_header m may same goes gives (λ i below. absurd (empty i below))
      ]

  header_of : HasHeaderOf reading state work texts image
  header_of = elim (cases_lt work.range.start work.range.end) [
    | inl some ↦ with_blocks some
    | inr none ↦ without_blocks none
  ]

  -- and each header that it gives is that one
  image_header : (m : List ℕ) → Gives reading.reader (content_of state.disk.atoms image) m
      → MayHave m
  image_header m gives = let it = header_of in
      subst MayHave (header_is_one reading.reader (content_of state.disk.atoms image) it.means m
      it.gives gives) it.may

  -- ---- the content
  record IsValue (b : ℕ) (value : List ℕ) : Type 0 where
    is_allowed : allowed b value
    sealed : IsBeyond work.range b
        → IsSealed state.map seals b value (image (place_in state.map b))
    newest : work.range.start ≤ b → b < work.range.end → value ≡ (block_in left b).newest

  each_value : (b : ℕ) → b < state.map.blocks → (value : List ℕ) × IsValue b value
  each_value b below = elim (beyond_or_in work.range b) [
    | inl beyond ↦
        let live = beyond_live {state = state} work is b below beyond in
        let (value, may, sealed) = seen.live b live in (
          value,
          record {
            is_allowed = may;
            sealed = λ _. sealed;
            newest = λ from to. absurd (elim beyond [
              | inl before ↦ omega (arith, before, from)
              | inr behind ↦ omega (arith, behind, to)
            ]);
          },
        )
    | inr (from, to) ↦ (
      (block_in left b).newest,
      record {
        is_allowed = seen.own b from to;
        sealed = λ beyond. absurd (elim beyond [
          | inl before ↦ omega (arith, before, from)
          | inr behind ↦ omega (arith, behind, to)
        ]);
        newest = λ _ _. refl;
      },
    )
  ]

  zone_image_stands : (content : Content)
      × StandsUnder reading state.disk.atoms seals state.map (Some work) image content
      × ((b : ℕ) → b < state.map.blocks → allowed b (content b))
  zone_image_stands =
      let (content, values) = chosen state.map.blocks IsValue each_value in
      let header = header_of in (
        content,
        record {
          header = header.means;
          gives = header.gives;
          atom = header.placed.atom;
          blocks = header.placed.blocks;
          stands = λ b below. elim (beyond_or_in work.range b) [
            | inl beyond ↦ let live = beyond_live {state = state} work is b below beyond in
                live_stands reading seals work image (reading.map_of header.means)
                header.placed content b below beyond
                (λ zoned. live.free (here.logic.sound.zoned b zoned))
                ((values b below).sealed beyond)
            | inr (from, to) ↦
                let newest : content b ≡ (block_in left b).newest =
                (values b below).newest from to in
                let number : work.range.start + (b - work.range.start) ≡ b = omega (arith, from) in
                let sealed : (s : Side) → seals.sealed s (work.range.start
                + (b - work.range.start)) (block_in left (work.range.start
                + (b - work.range.start))).newest ≡ seals.sealed s b (content b) =
                λ s. ap (λ n. seals.sealed s n (block_in left n).newest) number
                ∙ ap (λ v. seals.sealed s b v) (sym newest) in
                zone_block_stands reading seals work image (reading.map_of header.means)
                header.placed content b below texts header.starts from to
                (rw newest (here.logic.are.newest b below)) (sealed Old) (sealed New)
                (header.stands (b - work.range.start) (let count = working.lies.count in
                omega (arith, count, from, to)))
          ];
        },
        λ b below. (values b below).is_allowed,
      )

-- by the zone that the volume has
module _ {K P Q : Type 0} {state : State K} {seals : Seals} {plain : ℕ → InPlain} {left : List Block}
    (reading : Reading) (here : Here P Q state seals plain left) (work : Work)
    (is : state.work ≡ Some work) (course : IsOnCourse reading state work)
    (hashes : ReadsDigests reading state) {allowed : ℕ → List ℕ → Type 0} {broken : Bool} {view : View}
    {image : Image} (seen : IsSeen reading state seals left work allowed broken view image) where
  image_stands : (content : Content)
      × StandsUnder reading state.disk.atoms seals state.map state.work image content
      × ((b : ℕ) → b < state.map.blocks → allowed b (content b)) × HasHeader reading state image
  image_stands =
      let (content, stands, may) = zone_image_stands reading here work is course hashes seen in (
        content,
        subst (λ w. StandsUnder reading state.disk.atoms seals state.map w image content) (sym is)
            stands,
        may,
        λ one at m gives. let same : work ≡ one = cc in
            subst (λ w. MayBe (stage_of w.phase) (from_of w.zone w.phase).means
            (to_of w.zone w.phase).means m) same
            (image_header reading here work is course hashes seen m gives),
      )

-- every image of the table
pub stands_taken : {K P Q : Type 0} {state : State K} {seals : Seals} {plain : ℕ → InPlain}
    {left : List Block} (reading : Reading) (handed : Handed) → Here P Q state seals plain left → Q
    → P → IsReader reading.reader → (work : Work) → state.work ≡ Some work
    → IsOnCourse reading state work → AreDated reading state handed → ReadsDigests reading state
    → (told : Told) → state.disk.told ≡ Some told
    → StandsTaken reading state seals plain left handed told.now
stands_taken {state = state} {seals = seals} {plain = plain} {left = left} reading handed here all
    premise reader work is course dated hashes told told_is image taken =
    let size = reading.reader.size (from_of work.zone work.phase).means in
    let atoms_is : length told.now ≡ state.disk.atoms = here.cells all premise told told_is in
    let shown = here.tables premise told told_is in
    let working = here.works work is in
    let zone_image : IsZoneImage state.map.atom state.disk.atoms size work.layout work.zone
    (view_of_cells told.now) (value_in image) =
    subst (λ n. IsZoneImage state.map.atom n size work.layout work.zone (view_of_cells told.now)
    (value_in image)) atoms_is (zone_image_taken state.map.atom size work.layout work.zone told.now
    image taken.is taken.whole (rw atoms_is course.laid) (rw atoms_is working.within.zone)) in
    image_stands reading here work is course hashes {allowed = IsAllowedAt state plain left} (record {
      zone = zone_image;
      given = commit_gives state.map.atom state.disk.atoms reading.reader work.layout
          (from_of work.zone work.phase) (to_of work.zone work.phase) (stage_of work.phase) handed
          (value_in image) reader course.is course.is_next (dated work is) zone_image.header.laid
          zone_image.header.whole zone_image.header.takes
          (subst (λ n. IsGenuine reading.reader size handed (content_of n (value_in image))) atoms_is
          (taken.genuine work is)) (shown.zone work is).zone.header;
      shows = (shown.zone work is).zone;
      live = λ b live. shown.candidates b live (value_in image (place_in state.map b))
          (image_in told.now image (place_in state.map b) taken.is
          (here.places premise told told_is b live.inside));
      own = λ b from to. inl (newest_contained (block_in left b));
      apart = (shown.zone work is).apart;
    })

-- the disk's current bytes, while nothing has failed
pub stands_now : {K P Q : Type 0} {state : State K} {seals : Seals} {plain : ℕ → InPlain}
    {left : List Block} (reading : Reading) (here : Here P Q state seals plain left) → Q
    → IsReader reading.reader → (work : Work) → state.work ≡ Some work
    → IsOnCourse reading state work → ReadsDigests reading state → state.broken ≡ false
    → (content : Content)
    × StandsUnder reading state.disk.atoms seals state.map state.work
    (view_of_bytes state.map.atom here.bytes).current content
    × ((b : ℕ) → b < state.map.blocks → IsNow state plain left b (content b))
    × HasHeader reading state (view_of_bytes state.map.atom here.bytes).current
stands_now {state = state} {seals = seals} {plain = plain} {left = left} reading here all reader work
    is course hashes whole =
    let atom = state.map.atom in
    let view = view_of_bytes atom here.bytes in
    let working = here.works work is in
    let size = here.size all whole in
    let shows : ShowsZone atom work.layout work.zone (texts_of atom seals left work) work.phase false
    view = rw whole at (here.shown.zone work is).zone in
    let all_whole : (place : ℕ) → place < state.disk.atoms → length (view.current place) ≡ atom =
    λ place below. length-block_at atom state.disk.atoms here.bytes place below
    (omega (arith, size)) in
    image_stands reading here work is course hashes {allowed = IsNow state plain left} (record {
      zone = record {
        header = record {
          laid = course.laid;
          whole = all_whole;
          takes = λ copy i below. Contains-push []
              (view.current ((place_of work.layout copy).start + i));
        };
        own = λ i below. Contains-push [] (view.current (work.zone.own.start + i));
        target = λ i below. Contains-push [] (view.current (work.zone.target.start + i));
        store = λ i below. Contains-push [] (view.current (work.zone.store.start + i));
      };
      given = header_now reading.reader atom state.disk.atoms work.layout
          (from_of work.zone work.phase) (to_of work.zone work.phase) (stage_of work.phase) view reader
          course.is course.is_next course.laid all_whole (is_later work course) shows.header;
      shows = zone_sharp atom work.layout work.zone (texts_of atom seals left work) work.phase view
          shows;
      live = λ b live. here.shown.current whole b live;
      own = λ b from to. inr (
        λ lane other tried. zone_untried work b lane other here.logic
            (positive here) (working.lies.held whole (omega (arith, from, to))) from to tried,
        refl,
      );
      apart = (here.shown.zone work is).apart;
    })
