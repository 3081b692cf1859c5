-- Lemmas on the images that a stop leaves during a zone.
use Rattle.std.proofs.Common.{◌≡◌, ◌≢◌, ℕ, zero, suc, ◌+◌, ◌<◌, ◌⊎◌, inl, inr, Bool, List, ◌++◌}
use Rattle.std.proofs.Common.{refl, sym, ◌∙◌, ap, ap₂, subst, arith}
use Rattle.std.specs.Prelude.{Contains}
use Rattle.crash_laws.proofs.HeaderAreas.HeadersGiven.{commit_gives}
use Rattle.crash_laws.specs.HeaderAreas.Areas.{Image, content_of, text_from, text_in}
use Rattle.crash_laws.specs.HeaderAreas.Commits.{Stage, begun, first_written, first_kept, second_written, MayBe}
use Rattle.crash_laws.specs.HeaderAreas.Commits.{IsDated}
use Rattle.crash_laws.specs.HeaderAreas.Headers.{Reader, IsReader, Layout, Gives, Handed, IsGenuine}
use Rattle.sector_disk.specs.DiskViews.Views.{View}
use Rattle.crash_laws.specs.HotZones.Standing.{Hash, digest_at, IsKept, IsPhaseOf, Recovers, Stands}
use Rattle.crash_laws.specs.HotZones.Standing.{HasSides, HasHeaders, IsZoneImage, new_start, side_before}
use Rattle.crash_laws.specs.HotZones.Standing.{side_after}
use Rattle.crash_laws.specs.HotZones.Zones.{Resilience, journal, checksum, datashift, Hotzone, Texts, Phase}
use Rattle.crash_laws.specs.HotZones.Zones.{saving, opening, writing, mending, moving, shifting, turning}
use Rattle.crash_laws.specs.HotZones.Zones.{as_either, Is, found_by, from_of, to_of, stage_of, ShowsZone}
use Rattle.segment_map.specs.declared.Side.{Side}

-- atoms that are the same have one text
text_same : (image other : Image) (start from n : ℕ)
    → ((j : ℕ) → j < n → image (start + j) ≡ other (from + j))
    → text_from image start n ≡ text_from other from n
unfolding text_from
text_same image other start from zero same = refl
text_same image other start from (suc n) same =
    ap₂ (λ a rest. a ++ rest)
    (ap image (let e : start ≡ start + 0 = omega arith in e) ∙ same 0 (omega arith)
    ∙ ap other (let e : from + 0 ≡ from = omega arith in e))
    (text_same image other (suc start) (suc from) n (λ j below.
    ap image (let e : suc start + j ≡ start + suc j = omega arith in e)
    ∙ same (suc j) (omega (arith, below))
    ∙ ap other (let e : from + suc j ≡ suc from + j = omega arith in e)))

-- what is saved tells the old atom, if the atom that is there is one that may be found
recovered : {M : Type 0} (resilience : Resilience) (hash : Hash) (zone : Hotzone M) (texts : Texts)
    (image : Image) (i : ℕ)
    → IsKept resilience hash zone texts → (resilience ≡ datashift → ⊥)
    → ((j : ℕ) → j < zone.store.count → image (zone.store.start + j) ≡ texts.saved j)
    → i < zone.own.count → Is (found_by resilience) texts i (image (zone.own.start + i))
    → Recovers resilience hash zone texts image i
recovered journal hash zone texts image i kept placed saved below found =
    let enough = kept.enough in
    saved i (omega (arith, below, enough)) ∙ kept.are i below
recovered checksum hash zone texts image i kept placed saved below found =
    let told : text_in image zone.store ≡ text_from texts.saved 0 zone.store.count =
    text_same image texts.saved zone.store.start 0 zone.store.count
    (λ j inside. saved j inside ∙ ap texts.saved (let e : j ≡ 0 + j = omega arith in e)) in
    let is : digest_at hash (text_in image zone.store) i ≡ hash.digest (texts.old i) =
    ap (λ text. digest_at hash text i) told ∙ kept.are i below in
    record { is_old = is; differs = λ same. kept.differ i below (sym (same ∙ is)); either = found }
recovered datashift hash zone texts image i kept placed saved below found = absurd (placed refl)

-- the phases of a zone in place
in_place : (resilience : Resilience) (phase : Phase) → IsPhaseOf resilience phase
    → (IsPhaseOf datashift phase → ⊥) → resilience ≡ datashift → ⊥
in_place journal phase is not same = absurd (cc)
in_place checksum phase is not same = absurd (cc)
in_place datashift phase is not same = not is

either_found : (resilience : Resilience) (texts : Texts) (i : ℕ) (value : List ℕ)
    → Is as_either texts i value → Is (found_by resilience) texts i value
either_found journal texts i value is = tt
either_found checksum texts i value is = is
either_found datashift texts i value is = tt

-- the blocks under the header that the commit at hand leads from
stands_before : {M : Type 0} {broken : Bool} {view : View} (atom atoms size : ℕ) (layout : Layout)
    (zone : Hotzone M) (texts : Texts) (phase : Phase)
    (hash : Hash) (image : Image) → IsPhaseOf zone.resilience phase
    → IsKept zone.resilience hash zone texts
    → IsZoneImage atom atoms size layout zone view image
    → ShowsZone atom layout zone texts phase broken view
    → (i : ℕ) → i < zone.own.count → Stands hash zone texts image i (side_before phase)
stands_before {M} {broken} {view} atom atoms size layout zone texts phase hash image phased kept is
    shows i below = by phase phased shows
  where
    saved : ((j : ℕ) (value : List ℕ) → j < zone.store.count
        → Contains (view.candidates (zone.store.start + j)) value → value ≡ texts.saved j)
        → (j : ℕ) → j < zone.store.count → image (zone.store.start + j) ≡ texts.saved j
    saved left j inside = left j _ inside (is.store j inside)

    by : (phase : Phase) → IsPhaseOf zone.resilience phase
        → ShowsZone atom layout zone texts phase broken view
        → Stands hash zone texts image i (side_before phase)
    by (saving n) phased shows = shows.own.left i below _ (is.own i below)
    by (opening stage) phased shows = shows.own.left i below _ (is.own i below)
    by (writing n) phased shows =
        recovered zone.resilience hash zone texts image i kept
        (in_place zone.resilience (writing n) phased (λ never. never))
        (saved (λ j value inside. shows.store.left j inside value)) below
        (either_found zone.resilience texts i _ (shows.own.left i below _ (is.own i below)))
    by (mending n) phased shows =
        recovered zone.resilience hash zone texts image i kept
        (in_place zone.resilience (mending n) phased (λ never. never))
        (saved (λ j value inside. shows.store.left j inside value)) below
        (shows.own.left i below _ (is.own i below))
    by (moving stage) phased shows =
        recovered zone.resilience hash zone texts image i kept
        (in_place zone.resilience (moving stage) phased (λ never. never))
        (saved (λ j value inside. shows.store.left j inside value)) below
        (either_found zone.resilience texts i _ (inr (shows.own.left i below _ (is.own i below))))
    by (shifting n) phased shows = shows.own.left i below _ (is.own i below)
    by (turning stage) phased shows = shows.own.left i below _ (is.own i below)

-- where the new atoms are
new_in_place : {M : Type 0} (zone : Hotzone M) (texts : Texts) (hash : Hash) (image : Image) (i : ℕ)
    (resilience : Resilience)
    → (resilience ≡ datashift → ⊥) → image (zone.own.start + i) ≡ texts.new i
    → image (new_start resilience zone + i) ≡ texts.new i
new_in_place zone texts hash image i journal placed is = is
new_in_place zone texts hash image i checksum placed is = is
new_in_place zone texts hash image i datashift placed is = absurd (placed refl)

new_elsewhere : {M : Type 0} (zone : Hotzone M) (texts : Texts) (hash : Hash) (image : Image)
    (i : ℕ) (resilience : Resilience) (stage : Stage)
    → IsPhaseOf resilience (turning stage) → IsKept resilience hash zone texts → i < zone.own.count
    → (i < zone.target.count → image (zone.target.start + i) ≡ texts.new i)
    → image (new_start resilience zone + i) ≡ texts.new i
new_elsewhere zone texts hash image i journal stage phased kept below is = absurd phased
new_elsewhere zone texts hash image i checksum stage phased kept below is = absurd phased
new_elsewhere zone texts hash image i datashift stage phased kept below is =
    is (omega (arith, below, kept))

-- and under the one that it leads to, once something of that was written
stands_after : {M : Type 0} {broken : Bool} {view : View} (atom atoms size : ℕ) (layout : Layout)
    (zone : Hotzone M) (texts : Texts) (phase : Phase)
    (hash : Hash) (image : Image) → IsPhaseOf zone.resilience phase
    → IsKept zone.resilience hash zone texts
    → IsZoneImage atom atoms size layout zone view image → stage_of phase ≢ begun
    → ShowsZone atom layout zone texts phase broken view
    → (i : ℕ) → i < zone.own.count → Stands hash zone texts image i (side_after phase)
stands_after {M} {broken} {view} atom atoms size layout zone texts phase hash image phased kept is
    goes shows i below = by phase phased goes shows
  where
    by : (phase : Phase) → IsPhaseOf zone.resilience phase → stage_of phase ≢ begun
        → ShowsZone atom layout zone texts phase broken view
        → Stands hash zone texts image i (side_after phase)
    by (saving n) phased goes shows = absurd (goes refl)
    by (opening stage) phased goes shows =
        recovered zone.resilience hash zone texts image i kept
        (in_place zone.resilience (opening stage) phased (λ never. never))
        (λ j inside. shows.store.left j inside _ (is.store j inside)) below
        (either_found zone.resilience texts i _ (inl (shows.own.left i below _ (is.own i below))))
    by (writing n) phased goes shows = absurd (goes refl)
    by (mending n) phased goes shows = absurd (goes refl)
    by (moving stage) phased goes shows = new_in_place zone texts hash image i zone.resilience
        (in_place zone.resilience (moving stage) phased (λ never. never))
        (shows.own.left i below _ (is.own i below))
    by (shifting n) phased goes shows = absurd (goes refl)
    by (turning stage) phased goes shows =
        new_elsewhere zone texts hash image i zone.resilience stage phased kept below
        (λ inside. shows.target.left i inside _ (is.target i inside))

-- which of the two it is
either_header : {M : Type 0} (stage : Stage) (from to m : M) → MayBe stage from to m
    → (m ≡ from) ⊎ ((m ≡ to) × (stage ≢ begun))
either_header begun from to m is = inl is
either_header first_written from to m (inl same) = inl same
either_header first_written from to m (inr next) = inr (next, λ e. cc)
either_header first_kept from to m is = inr (is, λ e. cc)
either_header second_written from to m is = inr (is, λ e. cc)

-- the blocks under either of the two headers
pub stands_under : {M : Type 0} {broken : Bool} {view : View} (atom atoms size : ℕ)
    (layout : Layout) (zone : Hotzone M) (texts : Texts) (phase : Phase) (hash : Hash)
    (side : M → Side) (image : Image) (m : M)
    → MayBe (stage_of phase) (from_of zone phase).means (to_of zone phase).means m
    → IsPhaseOf zone.resilience phase → IsKept zone.resilience hash zone texts
    → HasSides side zone phase → IsZoneImage atom atoms size layout zone view image
    → ShowsZone atom layout zone texts phase broken view
    → (i : ℕ) → i < zone.own.count → Stands hash zone texts image i (side m)
stands_under atom atoms size layout zone texts phase hash side image m may phased kept sides is
    shows i below =
    elim
    (either_header (stage_of phase) (from_of zone phase).means (to_of zone phase).means m may) [
      | inl same ↦ subst (Stands hash zone texts image i) (sym (ap side same ∙ sides.before))
          (stands_before atom atoms size layout zone texts phase hash image phased kept is shows i
          below)
      | inr (next, goes) ↦ subst (Stands hash zone texts image i)
          (sym (ap side next ∙ sides.after goes))
          (stands_after atom atoms size layout zone texts phase hash image phased kept is goes shows
          i below)
    ]

pub zone_stands : {M : Type 0} {broken : Bool} {view : View} (atom atoms : ℕ) (reader : Reader M)
    (layout : Layout) (zone : Hotzone M) (texts : Texts) (phase : Phase)
    (hash : Hash) (side : M → Side) (handed : Handed) (image : Image) → IsReader reader
    → HasHeaders reader zone phase
    → IsPhaseOf zone.resilience phase → IsKept zone.resilience hash zone texts
    → HasSides side zone phase
    → IsDated reader (from_of zone phase) (to_of zone phase) (stage_of phase) handed
    → IsZoneImage atom atoms (reader.size (from_of zone phase).means) layout zone view image
    → IsGenuine reader (reader.size (from_of zone phase).means) handed (content_of atoms image)
    → ShowsZone atom layout zone texts phase broken view
    → (m : M) × MayBe (stage_of phase) (from_of zone phase).means (to_of zone phase).means m
    × Gives reader (content_of atoms image) m
    × ((i : ℕ) → i < zone.own.count → Stands hash zone texts image i (side m))
zone_stands {M} {broken} {view} atom atoms reader layout zone texts phase hash side handed image
    is_reader headers phased kept sides dated is genuine shows =
    let (m, may, gives) =
    commit_gives atom atoms reader layout (from_of zone phase) (to_of zone phase) (stage_of phase)
    handed image is_reader
    headers.before headers.after dated is.header.laid is.header.whole is.header.takes genuine
    shows.header in (
      m,
      may,
      gives,
      stands_under atom atoms _ layout zone texts phase hash side image m may phased kept sides is
          shows,
    )
