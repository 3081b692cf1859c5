-- The beginning of a zone that is written again, and what follows for each table in which this is known
-- of the disk: its images stand for what the bytes stood for.
use Rattle.std.proofs.Common.{◌≡◌, ℕ, ◌+◌, ◌*◌, ◌<◌, ◌≤◌, Bool, List, length, Some, refl, sym}
use Rattle.std.proofs.Common.{◌∙◌, ap, subst, arith}
use Rattle.std.specs.List.{All}
use Rattle.std.specs.Prelude.{Contains}
use Rattle.base_terms.specs.Blocks.{joined}
use Rattle.crash_laws.specs.HeaderAreas.Areas.{IsWhole}
use Rattle.crash_laws.specs.HeaderAreas.Headers.{Header, IsLaidOut, IsReader, Layout}
use Rattle.crash_laws.specs.HeaderAreas.Promises.{ImageTaken}
use Rattle.sector_disk.proofs.DiskViews.Blockwise.{length-block_at}
use Rattle.sector_disk.specs.DiskViews.Parts.{block_at, cell_in}
use Rattle.sector_disk.specs.DiskViews.Views.{view_of_cells}
use Rattle.crash_laws.specs.HotZones.Promises.{ZoneImageTaken, ZoneStands}
use Rattle.crash_laws.specs.HotZones.Standing.{IsWithin}
use Rattle.crash_laws.specs.HotZones.Zones.{Hotzone, Phase, ShowsZone, Texts}
use Rattle.hotzone.proofs.CallLemmas.{table-long}
use Rattle.hotzone.specs.Sites.{saved_count}
use Rattle.hotzone.specs.declared.site.Guard.TheVariants as guards
use Rattle.sector_disk.specs.JoinedDisks.Counts.{HasSizes}
use Rattle.luks_store.specs.Copying.Meanings.{header_reader}
use Rattle.luks_store.proofs.SettledLemmas.{current_is}
use Rattle.luks_store.specs.Devices.{IsCertain}
use Rattle.luks_store.specs.Promises.{BothAreGood, GivenIsUsed, LoadsByMeaning}
use Rattle.luks_store.specs.declared.loaded.Stored.{Stored}
use Rattle.image_laws.proofs.Opened.AtomLemmas.{long-joined}
use Rattle.image_laws.specs.Opened.Images.{OpenStandsFor, OpenStandsUnder, seals_at}
use Rattle.image_laws.specs.Opened.Mending.{AreTextsOf, IsZoneOf, WritesAgain}
use Rattle.image_laws.specs.Opened.Promises.{OneUnder}
use Rattle.sector_disk.specs.Cells.{AreSized, Cell, currents}
use Rattle.sector_disk.specs.Devices.{Device}
use Rattle.sector_disk.specs.Steps.{Told}
use Rattle.image_laws.proofs.Led.AreaLemmas.{read-alike}
use Rattle.image_laws.proofs.Led.BytesLemmas.{HasRest}
use Rattle.image_laws.proofs.Led.TableForLemmas.{image-pass}
use Rattle.image_laws.proofs.Led.TableLemmas.{ImageBy, image-by, image-long, image-under, rest-is}
use Rattle.image_laws.proofs.Led.TextLemmas.{starts-by}
use Rattle.image_laws.proofs.Led.ZoneLemmas.{atom-is, follows-on, moves-over, own-is, size-is, zone-is}
use Rattle.image_laws.specs.Led.Holding.{HoldsHeader, TellsLawfully}
use Rattle.image_laws.specs.Led.Keys.{AreCiphersOf}
use Rattle.image_laws.specs.Led.Spared.{IsSparedTurn}
use Rattle.image_laws.specs.Led.Turned.{StandsBy, StandsForBy}
use Rattle.image_laws.proofs.Started.AgreeLemmas.{IsReadAlike}
use Rattle.image_laws.specs.Started.Gaps.{key_areas}
use Rattle.zone_mending.proofs.MenderLemmas.{fits-disk}
use Rattle.zone_mending.specs.Elsewhere.{IsElsewhere}
use Rattle.zone_mending.specs.Known.{IsKnown, zone_in}
use Rattle.zone_mending.specs.Menders.{IsMending}
use Rattle.zone_mending.specs.Promises.{IsOver, MendEnds, MendFails, MendGoes, MendStarts, seals_in}
use Rattle.zone_mending.specs.declared.mender.MendCall.TheVariants.{ReadSaved}
use Rattle.zone_mending.specs.declared.mender.Mender.{Mender}

-- a zone that is about to be written again, by the header that it has loaded
pub record Begun {C : Type 0} (sector : C → ℕ) (sealed opened : C → ℕ → List ℕ → List ℕ)
    (m : Mender C) (old : Device) (layout : Layout) (old_key new_key bytes : List ℕ) : Type 0 where
  pub mends : IsMending sector m
  pub stands : m.site.guard ≡ guards.Checksum → (content : List (List ℕ))
      × OpenStandsUnder m.loaded.valid.sizes old_key new_key bytes content
  pub first : m.next ≡ ReadSaved 0
  pub laid : IsLaidOut m.loaded.valid.sizes.atom m.loaded.valid.sizes.header_atoms
      m.loaded.copies.used.header.hdr_size layout
  pub keys : AreCiphersOf sector sealed opened mends.zone.now old_key new_key m.keys
  pub disk : HasSizes m.loaded.valid.sizes old
  pub tells : TellsLawfully old
  pub holds : HoldsHeader m.loaded.valid.sizes m.loaded bytes old
  pub same_size : holds.stored.copies.used.header.hdr_size ≡ m.loaded.copies.used.header.hdr_size

-- the laws that this stands on
pub record Laws {C : Type 0} (sector : C → ℕ) (sealed opened : C → ℕ → List ℕ → List ℕ) : Type 0
  where
    pub starts : MendStarts sector sealed opened
    pub goes : MendGoes sector sealed opened
    pub ends : MendEnds sector sealed opened
    pub fails : MendFails sector sealed opened
    pub zones : ZoneStands
    pub zone_taken : ZoneImageTaken
    pub is_reader : IsReader header_reader
    pub taken : ImageTaken
    pub loads : LoadsByMeaning
    pub both : BothAreGood
    pub given : GivenIsUsed
    pub one : OneUnder

-- what each atom elsewhere holds, and what a stop may leave there, is what these bytes have there
pub record KeepsElsewhere (atom : ℕ) (bytes : List ℕ) (layout : Layout) (zone : Hotzone (List ℕ))
    (cells : List Cell) : Type 0 where
  pub left : (place : ℕ) → IsElsewhere layout zone place → place < length cells
      → (value : List ℕ) → Contains (cell_in cells place).candidates value
      → value ≡ block_at atom bytes place
  pub current : (place : ℕ) → IsElsewhere layout zone place → place < length cells
      → (cell_in cells place).current ≡ block_at atom bytes place

module _ {C : Type 0} {sector : C → ℕ} {sealed opened : C → ℕ → List ℕ → List ℕ} {m : Mender C}
    {old : Device} {layout : Layout} {old_key new_key bytes : List ℕ}
    (b : Begun sector sealed opened m old layout old_key new_key bytes) where
  -- a disk of the same sizes, on which a header of the same lies
  pub laid-over : (loaded : Stored) (device : Device) → loaded ≡ m.loaded
      → HasSizes loaded.valid.sizes device
      → IsLaidOut device.size device.atoms loaded.copies.used.header.hdr_size layout
  laid-over loaded device same has =
      let here = subst (λ (s : Stored). HasSizes s.valid.sizes device) same has in
      let fits = b.laid.within in
      let more = here.header in
      let wide : IsLaidOut m.loaded.valid.sizes.atom device.atoms
      m.loaded.copies.used.header.hdr_size layout =
      record {
        first = b.laid.first;
        second = b.laid.second;
        same = b.laid.same;
        long = b.laid.long;
        within = omega (arith, fits, more);
      } in
      subst (λ (s : Stored). IsLaidOut device.size device.atoms s.copies.used.header.hdr_size layout)
      (sym same)
      (subst (λ (a : ℕ). IsLaidOut a device.atoms m.loaded.copies.used.header.hdr_size layout)
      here.atom wide)

  over : IsOver sector layout m old
  over = record {
    mends = b.mends;
    sizes = b.disk;
    laid = laid-over m.loaded old refl b.disk;
    tells = b.tells.alike;
  }

  -- what is known of the zone then, and that its atoms are those of the content for which the bytes
  -- stand
  pub record StartsWith (shown : Header (List ℕ)) (texts : Texts) (was : Told) : Type 0 where
    pub is : IsKnown (seals_in sealed opened m) layout shown texts m (view_of_cells was.now)
    pub fits : (content : List (List ℕ))
        → OpenStandsUnder m.loaded.valid.sizes old_key new_key bytes content
        → AreTextsOf b.mends.zone.now.plan.first
        (seals_at m.loaded.valid.sizes.atom b.mends.zone.now old_key new_key) (zone_in m shown)
        content texts

  abbrev pub Started : Told → Type 0
  Started was = (shown : Header (List ℕ)) × (texts : Texts) × StartsWith shown texts was

  -- an atom that is saved has an atom's bytes
  saved-whole : (was : Told) → old.told ≡ Some was
      → IsWhole m.site.atom (saved_count m.site)
      (λ j. block_at m.site.atom bytes (m.site.store + j))
  saved-whole was was_is j below =
      let fits = fits-disk sector m old b.mends b.disk in
      let store = fits.store in
      let many = table-long old b.tells.alike was was_is in
      let certain = b.holds.certain was was_is in
      let long = ap length (sym certain.holds)
      ∙ long-joined m.loaded.valid.sizes.atom (length was.now) (currents was.now) certain.even
      ∙ ap (λ a. length was.now * a) (sym (atom-is sector m b.mends)) in
      length-block_at m.site.atom (length was.now) bytes (m.site.store + j)
      (omega (arith, below, store, many)) (omega (arith, long))

  pub start : Laws sector sealed opened → (was : Told) → old.told ≡ Some was → Started was
  start laws was is =
      let texts = starts-by sector sealed opened m b.mends old_key new_key bytes b.keys b.holds.stored
      b.holds.held b.holds.same (saved-whole was is) laws.one b.stands in
      let known = laws.starts layout m old was bytes b.holds.stored texts.0 over b.first is
      (b.holds.certain was is) b.holds.held b.holds.good b.holds.means
      (subst (λ (n : ℕ). IsLaidOut m.loaded.valid.sizes.atom m.loaded.valid.sizes.header_atoms n
      layout) (sym b.same_size) b.laid) texts.1.holds texts.1.has in
      (known.0, texts.0, record { is = known.1; fits = texts.1.fits known.0 })

  module _ (was : Told) (was_is : old.told ≡ Some was) (shown : Header (List ℕ)) (texts : Texts)
      (begun : StartsWith shown texts was) where
    abbrev known : IsKnown (seals_in sealed opened m) layout shown texts m (view_of_cells was.now)
    known = begun.is

    certain : IsCertain m.loaded.valid.sizes bytes was.now
    certain = b.holds.certain was was_is

    many : length was.now ≡ old.atoms
    many = table-long old b.tells.alike was was_is

    now-is : (place : ℕ) → place < length was.now
        → (cell_in was.now place).current ≡ block_at m.loaded.valid.sizes.atom bytes place
    now-is place below =
        current_is m.loaded.valid.sizes layout m.loaded.copies.used.header.hdr_size bytes was.now
        certain b.laid place below

    pub first-elsewhere : KeepsElsewhere m.loaded.valid.sizes.atom bytes layout (zone_in m shown)
        was.now
    first-elsewhere = record {
      left = λ place there below value has. certain.only place value has ∙ now-is place below;
      current = λ place there below. now-is place below;
    }

    pub the-zone : IsZoneOf m.loaded.valid.sizes m.loaded m.moved.loaded b.mends.zone.now layout
        (zone_in m shown)
    the-zone =
        zone-is sector m b.mends layout shown known.means known.is_header known.next_header b.laid

    -- ---- a table
    module _ (device : Device) (now : Told) (has : HasSizes m.loaded.valid.sizes device)
        (tells : TellsLawfully device) (now_is : device.told ≡ Some now) where
      pub many-now : length now.now ≡ device.atoms
      many-now = table-long device tells.alike now now_is

      pub long-now : length bytes ≡ length now.now * m.loaded.valid.sizes.atom
      long-now =
          let same : length was.now ≡ length now.now =
          many ∙ sym b.disk.all ∙ has.all ∙ sym many-now in
          ap length (sym certain.holds)
          ∙ long-joined m.loaded.valid.sizes.atom (length was.now) (currents was.now) certain.even
          ∙ ap (λ n. n * m.loaded.valid.sizes.atom) same

      pub more-now : m.loaded.valid.sizes.header_atoms ≤ length now.now
      more-now =
          let more = has.header in
          let all = many-now in
          omega (arith, more, all)

      pub within-now : IsWithin (length now.now) (zone_in m shown)
      within-now =
          let fits = fits-disk sector m device b.mends has in
          let own = fits.own in
          let store = fits.store in
          let all = many-now in
          record {
            own = omega (arith, own, all);
            target = omega arith;
            store = omega (arith, store, all);
          }

      -- what keys are read from is the same in bytes that have the rest
      pub read-now : (other : List ℕ)
          → length other ≡ length now.now * m.loaded.valid.sizes.atom
          → HasRest m.loaded.valid.sizes layout (zone_in m shown) bytes other
          → All (IsReadAlike bytes other) (key_areas m.loaded.valid.meta.keyslots)
      read-now other long rest =
          let own = own-is sector m b.mends in
          let disk = b.mends.disk in
          read-alike m.loaded b.mends.stored b.mends.sound b.mends.zone.now b.mends.zone.is.known
          disk.known layout (zone_in m shown) the-zone.begin (omega (arith, own)) bytes other
          (length now.now) long-now long within-now.own rest

      sized-now : AreSized m.loaded.valid.sizes.atom now.now
      sized-now =
          subst (λ (n : ℕ). AreSized n now.now) (sym has.atom) (tells.sized now now_is)

      -- ---- what its images stand for
      module _ (laws : Laws sector sealed opened) (phase : Phase) (broken : Bool)
          (phased : WritesAgain phase)
          (shows : ShowsZone m.loaded.valid.sizes.atom layout (zone_in m shown) texts phase broken
          (view_of_cells now.now))
          (rest : (place : ℕ) → IsElsewhere layout (zone_in m shown) place
          → place < length now.now → (value : List ℕ)
          → Contains (cell_in now.now place).candidates value
          → value ≡ block_at m.loaded.valid.sizes.atom bytes place)
          (image : List (List ℕ))
          (spared : IsSparedTurn m.loaded.valid.sizes m.loaded m.moved.loaded now.now image) where
        by-image : (content : List (List ℕ))
            → OpenStandsUnder m.loaded.valid.sizes old_key new_key bytes content
            → ImageBy m.loaded.valid.sizes m.loaded m.moved.loaded b.mends.zone.now old_key new_key
            (joined image) content
        by-image content stands =
            image-by laws.zones laws.zone_taken laws.taken laws.is_reader laws.loads
            m.loaded.valid.sizes m.loaded m.moved.loaded b.holds.stored b.mends.zone.now layout
            (zone_in m shown) texts bytes old_key new_key b.mends.stored.atom
            (moves-over sector m b.mends) the-zone known.texts_are.kept begun.fits
            (follows-on sector m b.mends shown known.means)
            (ap header_reader.size known.means ∙ size-is sector m b.mends) b.holds.held b.holds.same
            phase broken now.now phased shows rest long-now more-now within-now sized-now image spared
            content stands

        image-rest : HasRest m.loaded.valid.sizes layout (zone_in m shown) bytes (joined image)
        image-rest =
            rest-is laws.zones laws.zone_taken laws.taken laws.is_reader laws.loads
            m.loaded.valid.sizes m.loaded m.moved.loaded b.holds.stored b.mends.zone.now layout
            (zone_in m shown) texts bytes old_key new_key b.mends.stored.atom
            (moves-over sector m b.mends) the-zone known.texts_are.kept begun.fits
            (follows-on sector m b.mends shown known.means)
            (ap header_reader.size known.means ∙ size-is sector m b.mends) b.holds.held b.holds.same
            phase broken now.now phased shows rest long-now more-now within-now sized-now image spared

        whole-long : length (joined image) ≡ length now.now * m.loaded.valid.sizes.atom
        whole-long =
            image-long laws.zones laws.zone_taken laws.taken laws.is_reader laws.loads
            m.loaded.valid.sizes m.loaded m.moved.loaded b.holds.stored b.mends.zone.now layout
            (zone_in m shown) texts bytes old_key new_key b.mends.stored.atom
            (moves-over sector m b.mends) the-zone known.texts_are.kept begun.fits
            (follows-on sector m b.mends shown known.means)
            (ap header_reader.size known.means ∙ size-is sector m b.mends) b.holds.held b.holds.same
            phase broken now.now phased shows rest long-now more-now within-now sized-now image spared

        pub table-is : (content : List (List ℕ))
            → OpenStandsUnder m.loaded.valid.sizes old_key new_key bytes content
            → StandsBy m.loaded.valid.sizes m.loaded m.moved.loaded old_key new_key (joined image)
            content
        table-is content stands =
            image-under m.loaded.valid.sizes m.loaded m.moved.loaded b.mends.zone.now old_key new_key
            (joined image) content (by-image content stands)

        pub table-for : (pass : List ℕ) (content : List (List ℕ))
            → (stands : OpenStandsFor m.loaded.valid.sizes pass bytes content)
            → stands.old ≡ old_key → stands.new ≡ new_key
            → StandsForBy m.loaded.valid.sizes m.loaded m.moved.loaded pass (joined image) content
        table-for pass content =
            image-pass m.loaded.valid.sizes m.loaded m.moved.loaded b.holds.stored b.mends.zone.now
            bytes old_key new_key b.mends.stored.atom (moves-over sector m b.mends) b.holds.held
            b.holds.same (joined image) pass (read-now (joined image) whole-long image-rest) content (by-image content)
