-- Each image that a stop leaves of a new keyslot is one of the two.
use Rattle.std.proofs.Common.{◌≡◌, inl, inr, ℕ, ◌+◌, ◌*◌, ◌/◌, ◌<◌, ◌≤◌, ◌⊎◌, Bool, false, List}
use Rattle.std.proofs.Common.{length, take, drop, Some, Ok, Result, refl, sym, ◌∙◌, ap}
use Rattle.std.proofs.Common.{subst, arith}
use Rattle.base_terms.specs.Blocks.{joined}
use Rattle.base_terms.specs.declared.failed.Failed.{Failed}
use Rattle.crash_laws.specs.HeaderAreas.Commits.{Follows, HasPast, MayBe, ShowsCommit, begun}
use Rattle.crash_laws.specs.HeaderAreas.Headers.{Gives, Header, IsGenuine, IsHeader, IsLaidOut}
use Rattle.crash_laws.specs.HeaderAreas.Headers.{IsReader, primary}
use Rattle.crash_laws.specs.HeaderAreas.Promises.{CommitGives, CommitGoes, ImageTaken}
use Rattle.base_terms.specs.declared.disk_sizes.Sizes.{Sizes}
use Rattle.sector_disk.specs.DiskViews.Parts.{block_at}
use Rattle.sector_disk.specs.DiskViews.Views.{view_of_cells}
use Rattle.luks_store.specs.Copying.Meanings.{header_reader, meaning_of}
use Rattle.luks_store.specs.Copying.Seen.{CallsAreSeen}
use Rattle.luks_rules.specs.Areas.{areas_begin}
use Rattle.luks_store.specs.Devices.{front_of}
use Rattle.luks_store.specs.Loads.{IsStored, stored_in}
use Rattle.luks_store.specs.Promises.{AreasBeginBehind, CommitsBegin, LoadsByMeaning}
use Rattle.luks_store.specs.declared.loaded.Stored.{Stored}
use Rattle.sector_disk.specs.Cells.{Cell, content}
use Rattle.sector_disk.specs.Devices.{Device, succeeded}
use Rattle.sector_disk.specs.Steps.{Told}
use Rattle.luks_store.proofs.SlotCommits.BeginLemmas.{begin, begins, count, laid, lies, long, place, same_atom}
use Rattle.luks_store.proofs.SlotCommits.BeginLemmas.{header_within, room, same_size, sizes_of}
use Rattle.luks_store.proofs.SlotCommits.ImageLemmas.{area_stands, given, old_or_next, rest}
use Rattle.luks_store.proofs.SlotCommits.KeptLemmas.{area_kept as area_is_kept, certain, good_copies, next_held}
use Rattle.luks_store.proofs.SlotCommits.KeptLemmas.{rest_kept}
use Rattle.luks_store.proofs.SlotCommits.MovedLemmas.{told_before}
use Rattle.luks_store.proofs.SlotCommits.PlaceLemmas.{IsSure}
use Rattle.luks_store.proofs.SlotCommits.RunLemmas.{LeadTo, LiesIn, Stands, area_in, end_of_copies}
use Rattle.luks_store.proofs.SlotCommits.RunLemmas.{layout_of, run_ends, run_since}
use Rattle.luks_store.proofs.SlotCommits.ShownLemmas.{Reached, ShowsSlot, all_kept, area_kept, area_written}
use Rattle.luks_store.proofs.SlotCommits.ShownLemmas.{nothing, stage_at}
use Rattle.luks_store.specs.SlotCommits.Agreements.{AgreesBut}
use Rattle.luks_store.specs.SlotCommits.Calls.{FitsSlot, WritesSlot, copy_size, slot_calls}
use Rattle.luks_store.specs.SlotCommits.Images.{HoldsMetadata, IsBefore, IsBehind, IsEither, IsSpared}
use Rattle.luks_store.specs.SlotCommits.Images.{KeepsRest, AreaStands, handed_with, next_header}
use Rattle.luks_store.specs.SlotCommits.Promises.{EndsKept, IsEitherSince, IsKept, IsNextSlot, KeepsHeaders}
use Rattle.luks_store.specs.SlotCommits.Promises.{ShowsCertain}
use Rattle.luks_store.specs.declared.slot_commit.writing.SlotCommit.{SlotCommit}

-- an area that is kept, of what is reached
data AreaIs (atom : ℕ) (slot : SlotCommit) (broken : Bool) (cells : List Cell) (m from to : List ℕ) :
    Type 0 where
  is_old : m ≡ from → AreaIs atom slot broken cells m from to
  is_next : m ≡ to
      → ((i : ℕ) → i < length slot.area / atom
      → IsSure broken (view_of_cells cells) (slot.area_offset / atom + i)
      (block_at atom slot.area i))
      → AreaIs atom slot broken cells m from to

-- the calls lead from one to the next
one_by_one : LeadTo slot_calls nothing all_kept
one_by_one = (refl, (refl, (refl, (refl, (refl, (refl, refl))))))

module _ (is_reader : IsReader header_reader) (taken : ImageTaken) (gives : CommitGives)
    (goes : CommitGoes) (seen : CallsAreSeen) (starts : CommitsBegin) (loads : LoadsByMeaning)
    (areas : AreasBeginBehind) (sizes : Sizes) (before next : Stored) (slot : SlotCommit)
    (first : List ℕ) (old : Device) (is : IsNextSlot sizes before next slot first)
    (fits : FitsSlot slot old) (shows : ShowsCertain sizes first old) where
  abbrev atom : ℕ
  atom = sizes.atom

  lies_well : LiesIn atom old.atoms slot
  lies_well = lies areas sizes before next slot first old is fits shows

  -- ---- from the bytes of atoms to those of the area
  in_bytes : (now : List ℕ)
      → AgreesBut (end_of_copies atom slot * atom) (slot.area_offset / atom * atom)
      (length slot.area / atom * atom) first now → KeepsRest before slot first now
  in_bytes now agree =
      let start = begin areas sizes before next slot first old is fits shows in
      let twice : end_of_copies atom slot * atom ≡ areas_begin before.valid.meta.config =
      (let whole = lies_well.laid.long in
      let e : (copy_size slot / atom + copy_size slot / atom) * atom
      ≡ copy_size slot / atom * atom + copy_size slot / atom * atom = grind arith in
      omega (arith, whole, e, start)) in
      subst (λ (n : ℕ). AgreesBut n slot.area_offset (length slot.area) first now) twice
      (subst (λ (n : ℕ). AgreesBut (end_of_copies atom slot * atom) n (length slot.area) first now)
      (place areas sizes before next slot first old is fits shows)
      (subst (λ (n : ℕ). AgreesBut (end_of_copies atom slot * atom)
      (slot.area_offset / atom * atom) n first now) (sym lies_well.long) agree))

  area_in_bytes : (now : List ℕ)
      → take (length slot.area / atom * atom) (drop (slot.area_offset / atom * atom) now)
      ≡ slot.area → AreaStands slot now
  area_in_bytes now stands =
      subst (λ (n : ℕ). take n (drop slot.area_offset now) ≡ slot.area) (sym lies_well.long)
      (subst (λ (n : ℕ). take (length slot.area / atom * atom) (drop n now) ≡ slot.area)
      (place areas sizes before next slot first old is fits shows) stands)

  -- ---- the metadata of a header that counts
  metadata_of : (header : Stored) (bytes m : List ℕ) → IsStored header
      → header.valid.sizes ≡ sizes → m ≡ meaning_of header.copies.used.bytes
      → Gives header_reader (front_of sizes bytes) m → HoldsMetadata sizes header bytes
  metadata_of header bytes m stored same means given =
      let found = loads (front_of sizes bytes) header stored
      (subst (λ (k : List ℕ). Gives header_reader (front_of sizes bytes) k) means given) in
      record {
        stored = found.0;
        held = subst (λ (s : Sizes). stored_in s (front_of sizes bytes) ≡ Ok found.0) same found.1;
        same = found.2;
      }

  next_means : (next_header slot).means ≡ meaning_of next.copies.used.bytes
  next_means = ap (λ c. meaning_of c.used.bytes) (sym is.next_stored.copies)

  -- ---- the header that the commit begins from
  module _ (told : Told) (told_is : old.told ≡ Some told) where
    pub begin_of : (from : Header (List ℕ)) × IsHeader header_reader from
        × (from.means ≡ meaning_of before.copies.used.bytes)
        × (from.first ≡ before.copies.used.bytes)
        × ShowsCommit atom (layout_of atom (copy_size slot)) from (next_header slot) begun false
        (view_of_cells told.now)
    begin_of =
        starts sizes first told.now before (layout_of atom (copy_size slot)) (next_header slot)
        (shows.certain told told_is)
        (subst (λ (n : ℕ). IsLaidOut atom sizes.header_atoms n (layout_of atom (copy_size slot)))
        (sym (same_size areas sizes before next slot first old is fits shows))
        (laid areas sizes before next slot first old is fits shows))
        is.held is.good

    abbrev from : Header (List ℕ)
    from = begin_of.0

    follows : Follows header_reader from.means (next_header slot).means
    follows =
        subst (λ (m : List ℕ). Follows header_reader m (next_header slot).means)
        (sym begin_of.2) is.commit.follows

    abbrev ShowsNow : Reached → Bool → List Cell → Type 0
    ShowsNow reached broken cells =
        ShowsSlot atom old.atoms (end_of_copies atom slot) (layout_of atom (copy_size slot)) from
        (next_header slot) (area_in atom slot) slot.area first reached broken (view_of_cells cells)

    -- the old header or the next one, and the area, by how far the calls are
    which : (reached : Reached) (broken : Bool) (cells : List Cell) (m : List ℕ)
        → ShowsNow reached broken cells
        → MayBe (stage_at reached) from.means (next_header slot).means m
        → AreaIs atom slot broken cells m from.means (next_header slot).means
    which nothing broken cells m shown may = is_old may
    which area_written broken cells m shown may = is_old may
    which (area_kept stage) broken cells m shown may =
        elim (old_or_next stage from.means (next_header slot).means m may)
        as (λ _. AreaIs atom slot broken cells m from.means (next_header slot).means) [
          | inl same ↦ is_old same
          | inr same ↦ is_next same shown.area_is
        ]
    which all_kept broken cells m shown may = is_next may shown.area_is

    long_first : length first ≡ old.atoms * atom
    long_first =
        long areas sizes before next slot first old is fits shows told told_is
        ∙ ap (λ n. n * atom) (count areas sizes before next slot first old is fits shows told told_is)

    module _ (reached : Reached) (broken : Bool) (cells : List Cell)
        (many : length cells ≡ old.atoms) (shown : ShowsNow reached broken cells)
        (image : List (List ℕ)) (spared : IsSpared sizes before slot cells image) where
      lies_here : LiesIn atom (length cells) slot
      lies_here = subst (λ (n : ℕ). LiesIn atom n slot) (sym many) lies_well

      shown_here : ShowsSlot atom (length cells) (end_of_copies atom slot)
          (layout_of atom (copy_size slot)) from (next_header slot) (area_in atom slot) slot.area
          first reached broken (view_of_cells cells)
      shown_here =
          subst (λ (n : ℕ). ShowsSlot atom n (end_of_copies atom slot)
          (layout_of atom (copy_size slot)) from (next_header slot) (area_in atom slot) slot.area
          first reached broken (view_of_cells cells)) (sym many) shown

      long_here : length first ≡ length cells * atom
      long_here = long_first ∙ ap (λ n. n * atom) (sym many)

      past : HasPast header_reader from spared.handed
      past =
          subst (λ (m : List ℕ). HasPast header_reader
          (record { means = m; first = from.first; second = from.second }) spared.handed)
          (sym begin_of.2) spared.past

      from_size : before.copies.used.header.hdr_size ≡ header_reader.size from.means
      from_size =
          same_size areas sizes before next slot first old is fits shows
          ∙ sym lies_well.one ∙ is.commit.whole.size primary ∙ follows.1

      genuine : IsGenuine header_reader (header_reader.size from.means)
          (handed_with (next_header slot) spared.handed) (front_of sizes (joined image))
      genuine =
          subst (λ (n : ℕ). IsGenuine header_reader n
          (handed_with (next_header slot) spared.handed) (front_of sizes (joined image))) from_size
          spared.genuine

      has : (m : List ℕ) × MayBe (stage_at reached) from.means (next_header slot).means m
          × Gives header_reader (front_of sizes (joined image)) m
      has =
          given slot atom sizes.header_atoms from first cells lies_here long_here image spared.is
          reached broken shown_here
          (laid areas sizes before next slot first old is fits shows)
          (let more = header_within areas sizes before next slot first old is fits shows in
          let e : sizes.header_atoms ≤ length cells = omega (arith, more, many) in e)
          is_reader taken gives begin_of.1 is.commit.whole follows spared.handed past genuine

      rest_here : KeepsRest before slot first (joined image)
      rest_here =
          in_bytes (joined image)
          (rest slot atom sizes.header_atoms from first cells lies_here long_here image spared.is
          reached broken shown_here)

      pub either : IsBefore sizes before slot first (joined image)
          ⊎ IsBehind sizes before next slot first (joined image)
      either = elim (which reached broken cells has.0 shown has.1)
          as (λ _. IsBefore sizes before slot first (joined image)
          ⊎ IsBehind sizes before next slot first (joined image)) [
            | is_old same ↦ inl (record {
              metadata = metadata_of before (joined image) has.0 is.stored is.sizes_are
                  (same ∙ begin_of.2) has.2;
              rest = rest_here;
            })
            | is_next same kept ↦ inr (record {
              metadata = metadata_of next (joined image) has.0 is.next_stored.stored
                  (is.next_stored.sizes ∙ sizes_of areas sizes before next slot first old is fits shows)
                  (same ∙ next_means) has.2;
              area = area_in_bytes (joined image)
                  (area_stands slot atom sizes.header_atoms from first cells lies_here long_here image
                  spared.is reached broken shown_here kept);
              rest = rest_here;
            })
          ]

    -- ---- the runs
    stands_first : Stands seen goes slot atom old.atoms from first lies_well old told nothing
    stands_first = record {
      same_atom = same_atom areas sizes before next slot first old is fits shows;
      same_atoms = refl;
      told_is = told_is;
      many = count areas sizes before next slot first old is fits shows told told_is;
      shows = subst (λ (n : ℕ). ShowsSlot atom n (end_of_copies atom slot)
          (layout_of atom (copy_size slot)) from (next_header slot) (area_in atom slot) slot.area
          first nothing false (view_of_cells told.now))
          (count areas sizes before next slot first old is fits shows told told_is)
          (begins areas sizes before next slot first old is fits shows told told_is from
          begin_of.4);
    }

    pub keeps : (new : Device) (result : Result (Unit {0}) Failed) → WritesSlot slot old new result
        → (now : Told) → new.told ≡ Some now
        → IsEitherSince sizes before next slot first told now
    keeps new result made now now_is =
        let since = run_since seen goes slot atom old.atoms from first lies_well
        (IsEither sizes before next slot first)
        (λ reached broken cells many shown image spared.
        either reached broken cells many shown image spared) slot_calls nothing all_kept old new
        told now result one_by_one stands_first made now_is in
        record { more = since.more; past = since.past; each = since.each; last = since.last }

    pub ends : (new : Device) → WritesSlot slot old new succeeded → (now : Told)
        → new.told ≡ Some now → IsKept sizes before next slot first now.now
    ends new made now now_is =
        let end = run_ends seen goes slot atom old.atoms from first lies_well slot_calls nothing
        all_kept old new told now one_by_one stands_first made
        now_is in
        record {
          certain = certain slot atom old.atoms from first now.now end.many lies_well long_first
              end.shows sizes refl
              (header_within areas sizes before next slot first old is fits shows);
          held = next_held slot atom old.atoms from first now.now end.many lies_well long_first
              end.shows sizes next is.next_stored
              (sizes_of areas sizes before next slot first old is fits shows)
              (room areas sizes before next slot first old is fits shows);
          good = good_copies slot next is.next_stored;
          area = area_in_bytes (content now.now)
              (area_is_kept slot atom old.atoms from first now.now end.many lies_well long_first
              end.shows);
          rest = in_bytes (content now.now)
              (rest_kept slot atom old.atoms from first now.now end.many lies_well long_first
              end.shows);
        }

-- ---- the law
pub keeps_headers : IsReader header_reader → ImageTaken → CommitGives → CommitGoes → CallsAreSeen
    → CommitsBegin → LoadsByMeaning → AreasBeginBehind → KeepsHeaders
keeps_headers is_reader taken gives goes seen starts loads areas sizes before next slot first old
    new result is fits shows made now now_is =
    let was = told_before slot slot_calls old new result made now now_is in (
      was.0,
      was.1,
      keeps is_reader taken gives goes seen starts loads areas sizes before next slot first old is
          fits shows was.0 was.1 new result made now now_is,
    )

pub ends_kept : IsReader header_reader → ImageTaken → CommitGives → CommitGoes → CallsAreSeen
    → CommitsBegin → LoadsByMeaning → AreasBeginBehind → EndsKept
ends_kept is_reader taken gives goes seen starts loads areas sizes before next slot first old new
    is fits shows made now now_is =
    let was = told_before slot slot_calls old new succeeded made now now_is in
    ends is_reader taken gives goes seen starts loads areas sizes before next slot first old is fits
    shows was.0 was.1 new made now now_is
