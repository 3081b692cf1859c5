-- The header that an image has which a stop leaves while a zone is led or written again, and how each
-- block of the zone stands by it.
use Rattle.std.proofs.Common.{◌≡◌, ◌≢◌, ◌⊎◌, inl, inr, ℕ, ◌+◌, ◌-◌, ◌*◌, ◌<◌, ◌≤◌, Bool, List, length, take}
use Rattle.std.proofs.Common.{replicate}
use Rattle.std.proofs.Common.{refl, sym, ◌∙◌, ap, subst, arith}
use Rattle.base_terms.specs.Blocks.{joined, lengths}
use Rattle.crash_laws.specs.HeaderAreas.Areas.{Area, content_of}
use Rattle.crash_laws.specs.HeaderAreas.Commits.{IsDated, MayBe}
use Rattle.crash_laws.specs.HeaderAreas.Headers.{Gives, Handed, IsGenuine, IsLaidOut, IsReader, Layout}
use Rattle.crash_laws.specs.HeaderAreas.Promises.{ImageTaken}
use Rattle.base_terms.specs.declared.disk_sizes.Sizes.{Sizes}
use Rattle.sector_disk.specs.DiskViews.Parts.{block_at, value_in}
use Rattle.sector_disk.specs.DiskViews.Views.{view_of_cells}
use Rattle.crash_laws.specs.HotZones.Promises.{ZoneImageTaken, ZoneStands}
use Rattle.crash_laws.specs.HotZones.Standing.{HasHeaders, HasSides, IsKept, IsPhaseOf, IsWithin}
use Rattle.crash_laws.specs.HotZones.Standing.{IsZoneImage, Recovers, Stands, side_after}
use Rattle.crash_laws.specs.HotZones.Standing.{side_before}
use Rattle.crash_laws.specs.HotZones.Zones.{Hotzone, Phase, ShowsZone, Texts, datashift, from_of}
use Rattle.crash_laws.specs.HotZones.Zones.{stage_of}
use Rattle.crash_laws.specs.HotZones.Zones.{Resilience as Guard}
use Rattle.crash_laws.specs.HotZones.Zones.{to_of}
use Rattle.luks_store.specs.Copying.Meanings.{header_reader}
use Rattle.luks_rules.specs.declared.shape.Progress.{Progress}
use Rattle.luks_store.proofs.SettledLemmas.{atom_of_joined}
use Rattle.luks_store.specs.Devices.{front_of}
use Rattle.image_laws.proofs.Opened.AtomLemmas.{front-text, long-joined}
use Rattle.image_laws.proofs.Opened.RecoverLemmas.{kept-few, recovers-as}
use Rattle.image_laws.proofs.Opened.WhichLemmas.{new-place}
use Rattle.image_laws.specs.Opened.Images.{atom_in}
use Rattle.image_laws.specs.Opened.Zones.{zone_of}
use Rattle.sector_disk.specs.Cells.{Cell, IsImage}
use Rattle.segment_map.specs.declared.Side.{Side}
use Rattle.segment_map.specs.declared.Side.TheVariants.{New, Zone}
use Rattle.volume_machine.specs.Saved.{saved_hash}
use Rattle.image_laws.proofs.Led.SideLemmas.{Has, near-side, next-side, side-of, which}

-- an image that a stop leaves, of whole atoms, in which no torn copy is valid
pub record IsLeftAt (sizes : Sizes) (zone : Hotzone (List ℕ)) (phase : Phase) (cells : List Cell)
    (image : List (List ℕ)) : Type 0 where
  pub is : IsImage cells image
  pub even : lengths image ≡ replicate (length cells) sizes.atom
  pub handed : Handed
  pub dated : IsDated header_reader (from_of zone phase) (to_of zone phase) (stage_of phase) handed
  pub genuine : IsGenuine header_reader (header_reader.size (from_of zone phase).means) handed
      (front_of sizes (joined image))

-- each block of the zone stands on a side
abbrev pub EachStands : Hotzone (List ℕ) → Texts → List (List ℕ) → Side → Type 0
EachStands zone texts image side =
    (i : ℕ) → i < zone.own.count → Stands saved_hash zone texts (value_in image) i side

-- the image has one of the two headers, and by it each block stands on its side
pub record Found (sizes : Sizes) (zone : Hotzone (List ℕ)) (texts : Texts) (phase : Phase)
    (image : List (List ℕ)) : Type 0 where
  pub means : List ℕ
  pub gives : Gives header_reader (front_of sizes (joined image)) means
  pub by : ((means ≡ (from_of zone phase).means)
      × EachStands zone texts image (side_before phase))
      ⊎ ((means ≡ (to_of zone phase).means) × EachStands zone texts image (side_after phase))

module _ (zones : ZoneStands) (zone_taken : ZoneImageTaken) (taken : ImageTaken)
    (is_reader : IsReader header_reader) (sizes : Sizes) (layout : Layout)
    (zone : Hotzone (List ℕ)) (texts : Texts) (phase : Phase) (broken : Bool) (cells : List Cell)
    (image : List (List ℕ)) (led : IsPhaseOf zone.resilience phase)
    (whole : HasHeaders header_reader zone phase)
    (kept : IsKept zone.resilience saved_hash zone texts)
    (laid : IsLaidOut sizes.atom sizes.header_atoms
    (header_reader.size (from_of zone phase).means) layout)
    (within : IsWithin (length cells) zone) (more : sizes.header_atoms ≤ length cells)
    (left : IsLeftAt sizes zone phase cells image)
    (shows : ShowsZone sizes.atom layout zone texts phase broken (view_of_cells cells)) where
  abbrev size : ℕ
  size = header_reader.size (from_of zone phase).means

  laid_in_all : IsLaidOut sizes.atom (length cells) size layout
  laid_in_all =
      let fits = laid.within in
      record {
        first = laid.first;
        second = laid.second;
        same = laid.same;
        long = laid.long;
        within = omega (arith, fits, more);
      }

  in_all : IsZoneImage sizes.atom (length cells) size layout zone (view_of_cells cells)
      (value_in image)
  in_all = zone_taken sizes.atom size layout zone cells image left.is left.even laid_in_all within

  in_front : IsZoneImage sizes.atom sizes.header_atoms size layout zone (view_of_cells cells)
      (value_in image)
  in_front = record {
    header = record {
      laid = laid;
      whole = λ place below. in_all.header.whole place (omega (arith, below, more));
      takes = in_all.header.takes;
    };
    own = in_all.own;
    target = in_all.target;
    store = in_all.store;
  }

  front_is : content_of sizes.header_atoms (value_in image) ≡ front_of sizes (joined image)
  front_is =
      let all = taken sizes.atom size layout cells image left.is left.even laid_in_all in
      let rest = length cells - sizes.header_atoms in
      let whole_is : sizes.header_atoms + rest ≡ length cells = omega (arith, more) in
      sym (front-text sizes.atom 0 sizes.header_atoms rest (value_in image)
      (λ place from below. all.0.whole place (omega (arith, below, more))))
      ∙ ap (λ n. take (sizes.header_atoms * sizes.atom) (content_of n (value_in image))) whole_is
      ∙ ap (λ text. take (sizes.header_atoms * sizes.atom) text) all.1

  -- the side by its number
  abbrev side-by : List ℕ → Side
  side-by means =
      side-of (side_before phase) (side_after phase)
      (header_reader.seq (from_of zone phase).means) means

  sides : HasSides side-by zone phase
  sides = record {
    before = near-side (side_before phase) (side_after phase) (from_of zone phase).means;
    after = next-side (side_before phase) (side_after phase) (stage_of phase)
        (from_of zone phase).means (to_of zone phase).means left.dated.later;
  }

  found-first : (m : List ℕ)
      × MayBe (stage_of phase) (from_of zone phase).means (to_of zone phase).means m
      × Gives header_reader (content_of sizes.header_atoms (value_in image)) m
      × ((i : ℕ) → i < zone.own.count
      → Stands saved_hash zone texts (value_in image) i (side-by m))
  found-first =
      zones sizes.atom sizes.header_atoms header_reader layout zone texts phase saved_hash side-by
      left.handed (value_in image) broken (view_of_cells cells) is_reader whole led kept sides
      left.dated in_front
      (subst (λ (text : List ℕ). IsGenuine header_reader size left.handed text) (sym front_is)
      left.genuine) shows

  by-side : (m : List ℕ)
      → ((i : ℕ) → i < zone.own.count
      → Stands saved_hash zone texts (value_in image) i (side-by m))
      → Has (side_before phase) (side_after phase) (from_of zone phase).means
      (to_of zone phase).means m
      → ((m ≡ (from_of zone phase).means) × EachStands zone texts image (side_before phase))
      ⊎ ((m ≡ (to_of zone phase).means) × EachStands zone texts image (side_after phase))
  by-side m each (inl (is, side)) =
      inl (is, subst (λ (s : Side). EachStands zone texts image s) side each)
  by-side m each (inr (is, side)) =
      inr (is, subst (λ (s : Side). EachStands zone texts image s) side each)

  pub found : Found sizes zone texts phase image
  found =
      let f = found-first in
      record {
        means = f.0;
        gives = subst (λ (text : List ℕ). Gives header_reader text f.0) front_is f.2;
        by = by-side f.0 f.3
            (which (side_before phase) (side_after phase) (stage_of phase) (from_of zone phase).means
            (to_of zone phase).means f.0 left.dated.later f.1);
      }

  -- ---- its atoms
  pub atom-of : (place : ℕ) → place < length cells
      → block_at sizes.atom (joined image) place ≡ value_in image place
  atom-of place below = atom_of_joined sizes.atom (length cells) image place left.even below

  pub long : length (joined image) ≡ length cells * sizes.atom
  long = long-joined sizes.atom (length cells) image left.even

-- ---- a block of the zone in the image's bytes, whose atoms are the image's
module _ (sizes : Sizes) (c : Progress) (zone : Hotzone (List ℕ)) (texts : Texts)
    (image : List (List ℕ)) (atoms : ℕ) (within : IsWithin atoms zone)
    (value-at : (place : ℕ) → place < atoms
    → block_at sizes.atom (joined image) place ≡ value_in image place) where
  -- as what is saved of it tells it
  pub tells-in : zone.resilience ≡ (zone_of sizes c).resilience → zone.own ≡ (zone_of sizes c).own
      → zone.store ≡ (zone_of sizes c).store → IsKept zone.resilience saved_hash zone texts
      → EachStands zone texts image Zone → (i : ℕ) → i < zone.own.count
      → Recovers (zone_of sizes c).resilience saved_hash (zone_of sizes c) texts
      (atom_in sizes.atom (joined image)) i
  tells-in kind own store kept each i below =
      let own_fits = within.own in
      let store_fits = within.store in
      subst (λ (r : Guard). Recovers r saved_hash (zone_of sizes c) texts
      (atom_in sizes.atom (joined image)) i) kind
      (recovers-as zone (zone_of sizes c) (value_in image) (atom_in sizes.atom (joined image)) texts
      texts i store
      (sym (value-at (zone.own.start + i) (omega (arith, below, own_fits)))
      ∙ ap (λ (a : Area). block_at sizes.atom (joined image) (a.start + i)) own)
      (λ place from inside. sym (value-at place (omega (arith, inside, store_fits)))) refl refl
      zone.resilience (kept-few zone.resilience zone texts i kept below) (each i below))

  -- as its new atom
  pub new-in : zone.resilience ≢ datashift → EachStands zone texts image New → (i : ℕ)
      → i < zone.own.count → block_at sizes.atom (joined image) (zone.own.start + i) ≡ texts.new i
  new-in unshifted each i below =
      let own_fits = within.own in
      value-at (zone.own.start + i) (omega (arith, below, own_fits))
      ∙ subst (λ n. value_in image (n + i) ≡ texts.new i)
      (new-place zone.resilience zone unshifted) (each i below)
