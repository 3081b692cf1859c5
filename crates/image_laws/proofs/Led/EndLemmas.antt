-- The last step by which an open zone is written again: the disk holds for certain the header with the
-- boundary moved, and stands by it for what the bytes stood for from which this began.
use Rattle.std.proofs.Common.{◌≡◌, inl, inr, ℕ, ◌+◌, ◌*◌, ◌<◌, ◌≤◌, true, false}
use Rattle.std.proofs.Common.{List, [], ◌∷◌, length, map, replicate, Ok, Some, refl, sym, ◌∙◌, ap}
use Rattle.std.proofs.Common.{ap₂, subst, arith}
use Rattle.std.proofs.Math.Nat.{mul-le-mul_right}
use Rattle.std.proofs.lemmas.Bool.{cases_lt}
use Rattle.std.proofs.lemmas.List.Elements.{Contains-push_cases}
use Rattle.std.specs.Prelude.{Contains}
use Rattle.base_terms.specs.Blocks.{joined, lengths}
use Rattle.crash_laws.specs.HeaderAreas.Areas.{Area}
use Rattle.crash_laws.specs.HeaderAreas.Headers.{Gives, IsHeader, IsLaidOut, IsReader, Layout, found}
use Rattle.crash_laws.specs.HeaderAreas.Headers.{primary, secondary}
use Rattle.crash_laws.specs.HeaderAreas.Promises.{ImageTaken}
use Rattle.base_terms.specs.declared.disk_sizes.Sizes.{Sizes}
use Rattle.sector_disk.proofs.DiskViews.TableEntries.{none_contained}
use Rattle.sector_disk.specs.DiskViews.Parts.{block_at, cell_in}
use Rattle.sector_disk.specs.DiskViews.Views.{view_of_cells}
use Rattle.crash_laws.specs.HotZones.Calls.{IsSettled, ShowsMoved}
use Rattle.crash_laws.specs.HotZones.Zones.{Hotzone, Texts}
use Rattle.luks_store.specs.Copying.Held.{primary_of, secondary_of}
use Rattle.luks_store.specs.Copying.Meanings.{header_reader, meaning_of}
use Rattle.luks_store.specs.Copying.Steps.{CopyCall}
use Rattle.luks_store.specs.declared.header_copies.commit.Stage.{Stage}
use Rattle.luks_store.proofs.LoadLemmas.{copies-stored}
use Rattle.luks_store.proofs.SettledLemmas.{current_is}
use Rattle.luks_store.specs.Devices.{IsCertain, front_of}
use Rattle.luks_store.specs.Loads.{IsStored, stored_in}
use Rattle.luks_store.specs.Promises.{BothAreGood, GivenIsUsed, LoadsByMeaning}
use Rattle.luks_store.specs.Used.{copies_in}
use Rattle.luks_store.specs.declared.copies.Copies.{Copies}
use Rattle.luks_store.specs.declared.loaded.Stored.{Stored}
use Rattle.image_laws.proofs.Opened.AtomLemmas.{long-joined, none-behind}
use Rattle.sector_disk.specs.Cells.{Cell, IsImage, content, currents, synced}
use Rattle.sector_disk.specs.Devices.{Device, SyncCall, succeeded}
use Rattle.sector_disk.specs.Steps.{Told}
use Rattle.volume_machine.specs.Seals.{Seals}
use Rattle.image_laws.proofs.Led.BytesLemmas.{HasRest}
use Rattle.image_laws.proofs.Led.FrontLemmas.{certain-in}
use Rattle.image_laws.proofs.Led.StartLemmas.{KeepsElsewhere}
use Rattle.image_laws.proofs.Led.TableLemmas.{elsewhere-behind}
use Rattle.image_laws.specs.Led.Holding.{HoldsHeader, TellsLawfully}
use Rattle.zone_mending.specs.Steps.{Goes, ends}
use Rattle.zone_mending.specs.declared.mender.Mender.{Mender}

-- ---- a table of which each atom is certain
none-in : (value : List ℕ) → Contains [] value → ⊥
none-in value has = none_contained _ value has

one-in : (x value : List ℕ) → Contains (x ∷ []) value → value ≡ x
one-in x value has =
    elim (Contains-push_cases [] x value has) as (λ _. value ≡ x) [
      | inl none ↦ absurd (none-in value none)
      | inr same ↦ sym same
    ]

one-held : (x : List ℕ) → Contains (x ∷ []) x
one-held x = (0, omega arith, refl)

image-synced : (cells : List Cell) → IsImage (map synced cells) (currents (map synced cells))
unfolding IsImage currents
image-synced [] = tt
image-synced (cell ∷ cells) = (one-held cell.current, image-synced cells)

synced-image : (cells : List Cell) (image : List (List ℕ)) → IsImage (map synced cells) image
    → image ≡ currents (map synced cells)
unfolding IsImage currents
synced-image [] [] is = refl
synced-image [] (value ∷ image) is = absurd is
synced-image (cell ∷ cells) [] is = absurd is
synced-image (cell ∷ cells) (value ∷ image) is =
    ap₂ (λ x xs. x ∷ xs) (one-in cell.current value is.0) (synced-image cells image is.1)

pub image-now : (cells table : List Cell) → table ≡ map synced cells
    → IsImage table (currents table)
image-now cells table same =
    subst (λ (t : List Cell). IsImage t (currents t)) (sym same) (image-synced cells)

pub now-image : (cells table : List Cell) (image : List (List ℕ)) → table ≡ map synced cells
    → IsImage table image → image ≡ currents table
now-image cells table image same is =
    synced-image cells image (subst (λ (t : List Cell). IsImage t image) same is)
    ∙ ap currents (sym same)

-- an image of its current values is what it holds
pub joined-now : (cells : List Cell) (image : List (List ℕ)) → image ≡ currents cells
    → content cells ≡ joined image
unfolding content
joined-now cells image is = sym (ap (λ values. joined values) is)

-- the last step syncs
pub last-synced : {C : Type 0} (seals : Seals) (old new : Device) (before after : Mender C)
    (now : Told) → Goes seals old new before after true → new.told ≡ Some now
    → (cells : List Cell) × (now.now ≡ map synced cells)
last-synced seals old new before after now (ends commit at call on last to) is =
    let sync : SyncCall old new succeeded =
    subst (λ (s : Stage). CopyCall s (primary_of before.moved.commit.copies)
    (secondary_of before.moved.commit.copies) before.moved.commit.header.hdr_size old new succeeded)
    last call in
    let moved = sync.told now is in (moved.0.now, moved.2.step)

-- ---- bytes that both copies of a header stand in
used-means : GivenIsUsed → (bytes m : List ℕ) (copies : Copies) → copies_in bytes ≡ Ok copies
    → Gives header_reader bytes m → meaning_of copies.used.bytes ≡ m
used-means given bytes m copies is gives =
    let has = given bytes m gives in
    let same : copies ≡ has.0 = (let e : Ok copies ≡ Ok has.0 = sym is ∙ has.1 in cc) in
    ap (λ (k : Copies). meaning_of k.used.bytes) same ∙ has.2

pub both-give : (bytes m : List ℕ) → found header_reader bytes 0 ≡ Some m
    → found header_reader bytes (header_reader.size m) ≡ Some m → Gives header_reader bytes m
both-give bytes m one two =
    inl (
      one,
      λ other has. inl (let e : Some other ≡ Some m = sym has ∙ two in cc),
    )

pub record StandsInFront (sizes : Sizes) (bytes m : List ℕ) : Type 0 where
  pub one : found header_reader (front_of sizes bytes) 0 ≡ Some m
  pub two : found header_reader (front_of sizes bytes) (header_reader.size m) ≡ Some m

module _ (loads : LoadsByMeaning) (both : BothAreGood) (given : GivenIsUsed) (sizes : Sizes)
    (next : Stored) (stored : IsStored next) (sizes_are : next.valid.sizes ≡ sizes)
    (bytes : List ℕ)
    (stands : StandsInFront sizes bytes (meaning_of next.copies.used.bytes)) where
  pub gives-next : Gives header_reader (front_of sizes bytes) (meaning_of next.copies.used.bytes)
  gives-next = both-give (front_of sizes bytes) _ stands.one stands.two

  pub holds-next : (device : Device) → device.values ≡ Some bytes
      → ((told : Told) → device.told ≡ Some told → IsCertain sizes bytes told.now)
      → HoldsHeader sizes next bytes device
  holds-next device values certain =
      let front = front_of sizes bytes in
      let loaded = loads front next stored gives-next in
      let copies = copies-stored next.valid.sizes front loaded.0 loaded.1 in
      record {
        values = values;
        stored = loaded.0;
        held = subst (λ (s : Sizes). stored_in s front ≡ Ok loaded.0) sizes_are loaded.1;
        same = loaded.2;
        means = used-means given front (meaning_of next.copies.used.bytes) loaded.0.copies copies
            gives-next;
        good = both front (meaning_of next.copies.used.bytes) loaded.0.copies copies stands.one
            stands.two;
        certain = certain;
      }

-- ---- the table at the end
module _ (is_reader : IsReader header_reader) (taken : ImageTaken) (sizes : Sizes)
    (layout : Layout) (zone : Hotzone (List ℕ)) (texts : Texts) (bytes : List ℕ) (size : ℕ)
    (device : Device) (now : Told) (now_is : device.told ≡ Some now) (tells : TellsLawfully device)
    (atom : sizes.atom ≡ device.size) (many : length now.now ≡ device.atoms)
    (more : sizes.header_atoms ≤ length now.now)
    (laid : IsLaidOut sizes.atom sizes.header_atoms size layout)
    (whole : IsHeader header_reader zone.moved) (sized : header_reader.size zone.moved.means ≡ size)
    (cells : List Cell) (table : now.now ≡ map synced cells)
    (settled : (area : Area) → IsSettled (view_of_cells now.now) area)
    (shows : ShowsMoved sizes.atom layout zone texts zone.own (view_of_cells now.now))
    (long : length bytes ≡ length now.now * sizes.atom)
    (kept : KeepsElsewhere sizes.atom bytes layout zone now.now)
    (within : zone.own.start + zone.own.count ≤ length now.now) where
  even : lengths (currents now.now) ≡ replicate (length now.now) sizes.atom
  even =
      tells.alike.even now now_is ∙ ap (λ n. replicate n device.size) (sym many)
      ∙ ap (λ a. replicate (length now.now) a) (sym atom)

  pub certain-end : IsCertain sizes (content now.now) now.now
  unfolding content
  certain-end = record {
    only = λ place value has.
        (let same : place + 0 ≡ place = omega arith in
        subst (λ (n : ℕ). Contains (cell_in now.now n).candidates value
        → value ≡ (cell_in now.now n).current) same
        (settled (record { start = place; count = 1 }) 0 (omega arith) value) has);
    even = even;
    holds = refl;
    header_atoms = more;
  }

  joined-is : joined (currents now.now) ≡ content now.now
  unfolding content
  joined-is = refl

  pub stands-end : StandsInFront sizes (content now.now) zone.moved.means
  stands-end =
      let image = image-now cells now.now table in
      let shown = shows.header zone.moved in
      let one = certain-in taken sizes size layout now.now (currents now.now) image even laid more
      is_reader primary zone.moved _ false whole sized shown.first in
      let two = certain-in taken sizes size layout now.now (currents now.now) image even laid more
      is_reader secondary zone.moved _ false whole sized shown.second in
      subst (λ (all : List ℕ). StandsInFront sizes all zone.moved.means) joined-is
      (record {
        one = one;
        two = subst (λ (n : ℕ). found header_reader (front_of sizes (joined (currents now.now))) n
            ≡ Some zone.moved.means) (sym sized) two;
      })

  now-is : (place : ℕ) → place < length now.now
      → (cell_in now.now place).current ≡ block_at sizes.atom (content now.now) place
  now-is place below =
      current_is sizes layout size (content now.now) now.now certain-end laid place below

  pub long-end : length (content now.now) ≡ length now.now * sizes.atom
  long-end =
      ap length (sym joined-is)
      ∙ long-joined sizes.atom (length now.now) (currents now.now) even

  -- its atoms are the zone's new ones, and elsewhere those that these bytes have
  pub own-end : (i : ℕ) → i < zone.own.count
      → block_at sizes.atom (content now.now) (zone.own.start + i) ≡ texts.new i
  own-end i below =
      sym (now-is (zone.own.start + i) (omega (arith, below, within))) ∙ shows.new.now refl i below

  pub rest-end : HasRest sizes layout zone bytes (content now.now)
  rest-end place behind outside =
      elim (cases_lt place (length now.now))
      as (λ _. block_at sizes.atom (content now.now) place ≡ block_at sizes.atom bytes place) [
        | inl below ↦
            sym (now-is place below)
            ∙ kept.current place
            (elsewhere-behind sizes.atom sizes.header_atoms size layout zone laid place behind
            outside) below
        | inr far ↦
            none-behind sizes.atom (length now.now) place (content now.now) bytes long-end long
            (mul-le-mul_right sizes.atom far)
      ]
