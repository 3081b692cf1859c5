-- A table of a disk on which an open zone is written again: each image of it stands for what the bytes
-- stood for from which this began.
use Rattle.std.proofs.Common.{◌≡◌, ◌≢◌, ◌⊎◌, inl, inr, ℕ, ◌+◌, ◌*◌, ◌<◌, ◌≤◌, Bool, List, length, Ok}
use Rattle.std.proofs.Common.{refl, sym, ◌∙◌, ap, subst, arith}
use Rattle.std.proofs.Math.Nat.{mul-le-mul_right}
use Rattle.std.proofs.lemmas.Bool.{cases_lt}
use Rattle.std.specs.Prelude.{Contains}
use Rattle.base_terms.specs.Blocks.{joined}
use Rattle.crash_laws.specs.HeaderAreas.Commits.{Follows}
use Rattle.crash_laws.specs.HeaderAreas.Headers.{Copy, Gives, Header, IsHeader, IsLaidOut, IsReader, Layout}
use Rattle.crash_laws.specs.HeaderAreas.Headers.{primary, secondary}
use Rattle.crash_laws.specs.HeaderAreas.Headers.{place_of as copy_place}
use Rattle.crash_laws.specs.HeaderAreas.Promises.{ImageTaken}
use Rattle.base_terms.specs.declared.disk_sizes.Sizes.{Sizes}
use Rattle.sector_disk.proofs.DiskViews.Entries.{image_in}
use Rattle.sector_disk.specs.DiskViews.Parts.{block_at, cell_in, value_in}
use Rattle.sector_disk.specs.DiskViews.Views.{IsOutside, view_of_cells}
use Rattle.crash_laws.specs.HotZones.Promises.{ZoneImageTaken, ZoneStands}
use Rattle.crash_laws.specs.HotZones.Standing.{HasHeaders, IsKept, IsPhaseOf, IsWithin}
use Rattle.crash_laws.specs.HotZones.Standing.{side_after, side_before}
use Rattle.crash_laws.specs.HotZones.Zones.{Hotzone, Phase, ShowsZone, Texts, datashift, from_of, mending}
use Rattle.crash_laws.specs.HotZones.Zones.{moving, opening, saving, shifting, stage_of, to_of, turning}
use Rattle.crash_laws.specs.HotZones.Zones.{writing}
use Rattle.luks_store.specs.Copying.Meanings.{header_reader, meaning_of}
use Rattle.luks_rules.specs.declared.shape.Progress.{Progress}
use Rattle.luks_store.specs.Devices.{front_of}
use Rattle.luks_store.specs.Loads.{stored_in}
use Rattle.luks_store.specs.Promises.{LoadsByMeaning}
use Rattle.luks_store.specs.declared.loaded.Stored.{Stored}
use Rattle.image_laws.proofs.Opened.AtomLemmas.{none-behind}
use Rattle.image_laws.proofs.Opened.WhichLemmas.{phase-of}
use Rattle.image_laws.specs.Opened.Images.{OpenStandsUnder, seals_at}
use Rattle.image_laws.specs.Opened.Mending.{AreTextsOf, IsZoneOf, MovesOver, WritesAgain}
use Rattle.reenc_meta.specs.Layouts.{progress_at}
use Rattle.reenc_meta.specs.Moves.{moved}
use Rattle.reenc_recovery.proofs.JoinedLemmas.{even_image}
use Rattle.sector_disk.specs.Cells.{AreSized, Cell}
use Rattle.segment_map.specs.declared.Side.{Side}
use Rattle.segment_map.specs.declared.Side.TheVariants.{New, Zone}
use Rattle.volume_machine.specs.Saved.{saved_hash}
use Rattle.image_laws.proofs.Led.BytesLemmas.{HasRest, bytes-moved, bytes-open}
use Rattle.image_laws.proofs.Led.ContentLemmas.{ClosesBy, OpensBy}
use Rattle.image_laws.proofs.Led.FoundLemmas.{EachStands, Found, IsLeftAt, atom-of, found, long}
use Rattle.image_laws.proofs.Led.FoundLemmas.{new-in, tells-in}
use Rattle.image_laws.proofs.Led.SpareLemmas.{dated, genuine, held}
use Rattle.image_laws.specs.Led.Promises.{StandsOn}
use Rattle.image_laws.specs.Led.Spared.{IsSparedTurn}
use Rattle.image_laws.specs.Led.Turned.{StandsBy}
use Rattle.zone_mending.specs.Elsewhere.{IsElsewhere}

-- what lies behind both copies is in neither
copies-away : (atom atoms size : ℕ) (layout : Layout) → IsLaidOut atom atoms size layout
    → (place : ℕ) → layout.second.start + layout.second.count ≤ place → (copy : Copy)
    → IsOutside (copy_place layout copy).start (copy_place layout copy).count place
copies-away atom atoms size layout laid place behind primary =
    let one = laid.first in
    let two = laid.second in
    inr (omega (arith, one, two, behind))
copies-away atom atoms size layout laid place behind secondary = inr behind

pub elsewhere-behind : (atom atoms size : ℕ) (layout : Layout) (zone : Hotzone (List ℕ))
    → IsLaidOut atom atoms size layout → (place : ℕ)
    → layout.second.start + layout.second.count ≤ place
    → IsOutside zone.own.start zone.own.count place → IsElsewhere layout zone place
elsewhere-behind atom atoms size layout zone laid place behind outside = record {
  own = outside;
  copies = copies-away atom atoms size layout laid place behind;
}

-- the commit at hand, or to come, leads from the header with the zone open to the one with the
-- boundary moved
pub record IsAgain (zone : Hotzone (List ℕ)) (phase : Phase) : Type 0 where
  pub from : from_of zone phase ≡ zone.opened
  pub to : to_of zone phase ≡ zone.moved
  pub near : side_before phase ≡ Zone
  pub far : side_after phase ≡ New

again : (zone : Hotzone (List ℕ)) (phase : Phase) → WritesAgain phase → IsAgain zone phase
again zone (mending n) is = record { from = refl; to = refl; near = refl; far = refl }
again zone (moving stage) is = record { from = refl; to = refl; near = refl; far = refl }
again zone (saving n) is = absurd is
again zone (opening stage) is = absurd is
again zone (writing n) is = absurd is
again zone (shifting n) is = absurd is
again zone (turning stage) is = absurd is

-- ---- what an image stands for, by which of the two headers
abbrev pub ImageBy : Sizes → Stored → Stored → Progress → List ℕ → List ℕ → List ℕ
    → List (List ℕ) → Type 0
ImageBy sizes header next c old new now content =
    OpensBy sizes header c old new now content
    ⊎ ClosesBy sizes next (progress_at (moved c.conversion.direction c.plan.zone c.plan) c) old new
    now content

pub image-under : (sizes : Sizes) (header next : Stored) (c : Progress) (old new now : List ℕ)
    (content : List (List ℕ)) → ImageBy sizes header next c old new now content
    → StandsBy sizes header next old new now content
image-under sizes header next c old new now content (inl is) =
    inl (record { stands = is.stands; valid = is.valid })
image-under sizes header next c old new now content (inr is) =
    inr (record { stands = is.stands; valid = is.valid })

module _ (zones : ZoneStands) (zone_taken : ZoneImageTaken) (taken : ImageTaken)
    (is_reader : IsReader header_reader) (loads : LoadsByMeaning) (sizes : Sizes)
    (header next stored : Stored) (c : Progress) (layout : Layout) (zone : Hotzone (List ℕ))
    (texts : Texts) (bytes old new : List ℕ) (some : 0 < sizes.atom)
    (moves : MovesOver sizes header next c) (by : IsZoneOf sizes header next c layout zone)
    (kept : IsKept zone.resilience saved_hash zone texts)
    (fits : (content : List (List ℕ)) → OpenStandsUnder sizes old new bytes content
    → AreTextsOf c.plan.first (seals_at sizes.atom c old new) zone content texts)
    (follows : Follows header_reader zone.opened.means zone.moved.means)
    (size_is : header_reader.size zone.opened.means ≡ header.copies.used.header.hdr_size)
    (held_is : stored_in sizes (front_of sizes bytes) ≡ Ok stored)
    (alike : stored.valid ≡ header.valid) (phase : Phase) (broken : Bool) (cells : List Cell)
    (phased : WritesAgain phase)
    (shows : ShowsZone sizes.atom layout zone texts phase broken (view_of_cells cells))
    (rest : (place : ℕ) → IsElsewhere layout zone place → place < length cells → (value : List ℕ)
    → Contains (cell_in cells place).candidates value → value ≡ block_at sizes.atom bytes place)
    (long_is : length bytes ≡ length cells * sizes.atom) (more : sizes.header_atoms ≤ length cells)
    (within : IsWithin (length cells) zone) (sized : AreSized sizes.atom cells) where
  unshifted : zone.resilience ≢ datashift
  unshifted = λ is. by.guarded (sym by.kind ∙ is)

  again-led : IsPhaseOf zone.resilience phase
  again-led = phase-of zone.resilience phase unshifted phased

  at : IsAgain zone phase
  at = again zone phase phased

  whole : HasHeaders header_reader zone phase
  whole = record {
    before = subst (λ (h : Header (List ℕ)). IsHeader header_reader h) (sym at.from) by.whole;
    after = subst (λ (h : Header (List ℕ)). IsHeader header_reader h) (sym at.to) by.moved_whole;
  }

  from-follows : Follows header_reader (from_of zone phase).means (to_of zone phase).means
  from-follows =
      subst (λ (f : Header (List ℕ)). Follows header_reader f.means (to_of zone phase).means)
      (sym at.from)
      (subst (λ (t : Header (List ℕ)). Follows header_reader zone.opened.means t.means) (sym at.to)
      follows)

  from-means : (from_of zone phase).means ≡ meaning_of header.copies.used.bytes
  from-means = ap (λ (h : Header (List ℕ)). h.means) at.from ∙ by.opened

  to-means : (to_of zone phase).means ≡ meaning_of next.copies.used.bytes
  to-means = ap (λ (h : Header (List ℕ)). h.means) at.to ∙ by.moved

  from-size : header_reader.size (from_of zone phase).means ≡ header.copies.used.header.hdr_size
  from-size = ap (λ (h : Header (List ℕ)). header_reader.size h.means) at.from ∙ size_is

  from-laid : IsLaidOut sizes.atom sizes.header_atoms
      (header_reader.size (from_of zone phase).means) layout
  from-laid =
      subst (λ (h : Header (List ℕ)). IsLaidOut sizes.atom sizes.header_atoms
      (header_reader.size h.means) layout) (sym at.from) by.laid

  module _ (image : List (List ℕ)) (spared : IsSparedTurn sizes header next cells image) where
    left : IsLeftAt sizes zone phase cells image
    left =
        let even = even_image sizes.atom cells image sized spared.is in
        record {
          is = spared.is;
          even = even;
          handed = held is_reader taken sizes header next layout (from_of zone phase)
              (to_of zone phase) (stage_of phase) broken cells image whole.before from-follows
              from-means to-means from-size from-laid more even spared shows.header;
          dated = dated is_reader taken sizes header next layout (from_of zone phase)
              (to_of zone phase) (stage_of phase) broken cells image whole.before from-follows
              from-means to-means from-size from-laid more even spared shows.header;
          genuine = genuine is_reader taken sizes header next layout (from_of zone phase)
              (to_of zone phase) (stage_of phase) broken cells image whole.before from-follows
              from-means to-means from-size from-laid more even spared shows.header;
        }

    has-found : Found sizes zone texts phase image
    has-found =
        found zones zone_taken taken is_reader sizes layout zone texts phase broken cells image
        again-led whole kept from-laid within more left shows

    pub image-long : length (joined image) ≡ length cells * sizes.atom
    image-long =
        long zones zone_taken taken is_reader sizes layout zone texts phase broken cells image
        again-led whole kept from-laid within more left shows

    value-at : (place : ℕ) → place < length cells
        → block_at sizes.atom (joined image) place ≡ value_in image place
    value-at place below =
        atom-of zones zone_taken taken is_reader sizes layout zone texts phase broken cells image
        again-led whole kept from-laid within more left shows place
        below

    pub rest-is : HasRest sizes layout zone bytes (joined image)
    rest-is place behind outside =
        elim (cases_lt place (length cells))
        as (λ _. block_at sizes.atom (joined image) place ≡ block_at sizes.atom bytes place) [
          | inl below ↦
              value-at place below
              ∙ rest place (elsewhere-behind sizes.atom sizes.header_atoms
              (header_reader.size zone.opened.means) layout zone by.laid place behind outside) below
              (value_in image place) (image_in cells image place spared.is below)
          | inr far ↦
              none-behind sizes.atom (length cells) place (joined image) bytes image-long long_is
              (mul-le-mul_right sizes.atom far)
        ]

    module _ (content : List (List ℕ)) (stands : OpenStandsUnder sizes old new bytes content) where
      by-found : (m : List ℕ) → Gives header_reader (front_of sizes (joined image)) m
          → ((m ≡ (from_of zone phase).means)
          × EachStands zone texts image (side_before phase))
          ⊎ ((m ≡ (to_of zone phase).means) × EachStands zone texts image (side_after phase))
          → ImageBy sizes header next c old new (joined image) content
      by-found m gives (inl (is, each)) =
          inl (bytes-open sizes header next stored c layout zone texts bytes old new content some
          moves by (fits content stands) held_is alike stands loads (joined image) rest-is
          (subst (λ (x : List ℕ). Gives header_reader (front_of sizes (joined image)) x)
          (is ∙ ap (λ (h : Header (List ℕ)). h.means) at.from) gives)
          (tells-in sizes c zone texts image (length cells) within value-at by.kind by.own by.store
          kept (subst (λ (s : Side). EachStands zone texts image s) at.near each)))
      by-found m gives (inr (is, each)) =
          inr (bytes-moved sizes header next stored c layout zone texts bytes old new content some
          moves by (fits content stands) held_is alike stands loads (joined image) rest-is
          (subst (λ (x : List ℕ). Gives header_reader (front_of sizes (joined image)) x)
          (is ∙ ap (λ (h : Header (List ℕ)). h.means) at.to) gives)
          (new-in sizes c zone texts image (length cells) within value-at unshifted
          (subst (λ (s : Side). EachStands zone texts image s) at.far each)))

      pub image-by : ImageBy sizes header next c old new (joined image) content
      image-by = by-found has-found.means has-found.gives has-found.by

  pub table-stands : StandsOn sizes header next old new bytes cells
  table-stands image spared content stands =
      image-under sizes header next c old new (joined image) content
      (image-by image spared content stands)
