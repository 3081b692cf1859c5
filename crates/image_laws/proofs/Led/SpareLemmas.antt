-- An image in which no torn copy is valid, at whatever call of a commit: the copies that stand in it
-- are dated as the laws of commits ask.
use Rattle.std.proofs.Common.{◌≡◌, ◌⊎◌, inl, inr, ℕ, ◌<◌, ◌≤◌, Bool, List, [], ◌∷◌}
use Rattle.std.proofs.Common.{length, take, drop, replicate, Option, Some, None, refl, sym, ◌∙◌, ap}
use Rattle.std.proofs.Common.{subst, arith}
use Rattle.std.proofs.lemmas.List.Elements.{Contains-push_cases}
use Rattle.std.specs.Prelude.{Contains}
use Rattle.base_terms.specs.Blocks.{joined, lengths}
use Rattle.crash_laws.proofs.HeaderAreas.HeadersGiven.{some_one}
use Rattle.crash_laws.specs.HeaderAreas.Areas.{IsOf, Shows}
use Rattle.crash_laws.specs.HeaderAreas.Commits.{Follows, IsDated, IsLater, IsOlder, ShowsCommit, Stage}
use Rattle.crash_laws.specs.HeaderAreas.Commits.{WasHanded, begun, first_kept, first_written, second_written}
use Rattle.crash_laws.specs.HeaderAreas.Headers.{Copy, Handed, Header, IsGenuine, IsHeader, IsLaidOut, IsReader}
use Rattle.crash_laws.specs.HeaderAreas.Headers.{Layout, byte_of, copy_at, found, handed_at, place_of, primary}
use Rattle.crash_laws.specs.HeaderAreas.Headers.{secondary, text_of}
use Rattle.crash_laws.specs.HeaderAreas.Promises.{ImageTaken}
use Rattle.base_terms.specs.declared.disk_sizes.Sizes.{Sizes}
use Rattle.sector_disk.proofs.DiskViews.TableEntries.{none_contained}
use Rattle.sector_disk.specs.DiskViews.Views.{view_of_cells}
use Rattle.luks_store.specs.Copying.Meanings.{header_reader, meaning_of}
use Rattle.luks_store.specs.Devices.{front_of}
use Rattle.luks_store.specs.declared.loaded.Stored.{Stored}
use Rattle.sector_disk.specs.Cells.{Cell}
use Rattle.image_laws.proofs.Led.FrontLemmas.{certain-in}
use Rattle.image_laws.specs.Led.Spared.{IsSparedTurn}

-- ---- the copies that stand in some bytes, as if they were handed
-- one text is among one text
one-has : (text : List ℕ) → Contains (text ∷ []) text
one-has text = (0, omega arith, refl)

held-has : (bytes : List ℕ) (place : ℕ) (m : List ℕ) (o : Option (List ℕ)) → o ≡ Some m
    → Contains (copy_at header_reader bytes place o)
    (take (header_reader.size m) (drop place bytes))
unfolding copy_at
held-has bytes place m None is = absurd (let e : None ≡ Some m = is in cc)
held-has bytes place m (Some g) is =
    let same : g ≡ m = (let e : Some g ≡ Some m = is in cc) in
    subst (λ (x : List ℕ). Contains (take (header_reader.size g) (drop place bytes) ∷ [])
    (take (header_reader.size x) (drop place bytes))) same
    (one-has (take (header_reader.size g) (drop place bytes)))

-- what such a text means stands there
held-found : (bytes text : List ℕ) (place : ℕ) (m : List ℕ) → IsReader header_reader
    → (o : Option (List ℕ)) → found header_reader bytes place ≡ o
    → Contains (copy_at header_reader bytes place o) text
    → header_reader.decode place text ≡ Some m → found header_reader bytes place ≡ Some m
unfolding copy_at
held-found bytes text place m is_reader None is has valid = none_contained _ text has
held-found bytes text place m is_reader (Some g) is has valid =
    elim (Contains-push_cases [] (take (header_reader.size g) (drop place bytes)) text has)
    as (λ _. found header_reader bytes place ≡ Some m) [
      | inl none ↦ none_contained _ text none
      | inr same ↦
          is ∙ ap (λ x. Some x)
          (some_one _ g m (is_reader.own place (drop place bytes) g is)
          (ap (header_reader.decode place) same ∙ valid))
    ]

later-by : (stage : Stage) (from to : List ℕ) → Follows header_reader from to
    → IsLater header_reader stage from to
later-by begun from to follows = tt
later-by first_written from to follows = follows
later-by first_kept from to follows = follows
later-by second_written from to follows = follows

module _ (is_reader : IsReader header_reader) (taken : ImageTaken) (sizes : Sizes)
    (header next : Stored) (layout : Layout) (from to : Header (List ℕ)) (stage : Stage)
    (broken : Bool) (cells : List Cell) (image : List (List ℕ))
    (whole : IsHeader header_reader from) (follows : Follows header_reader from.means to.means)
    (from_is : from.means ≡ meaning_of header.copies.used.bytes)
    (to_is : to.means ≡ meaning_of next.copies.used.bytes)
    (size_is : header_reader.size from.means ≡ header.copies.used.header.hdr_size)
    (laid : IsLaidOut sizes.atom sizes.header_atoms (header_reader.size from.means) layout)
    (more : sizes.header_atoms ≤ length cells)
    (even : lengths image ≡ replicate (length cells) sizes.atom)
    (spared : IsSparedTurn sizes header next cells image)
    (shows : ShowsCommit sizes.atom layout from to stage broken (view_of_cells cells)) where
  abbrev bytes : List ℕ
  bytes = front_of sizes (joined image)

  abbrev size : ℕ
  size = header_reader.size from.means

  pub held : Handed
  held = handed_at header_reader bytes size

  pub genuine : IsGenuine header_reader size held bytes
  unfolding held copy_at
  genuine = record {
    each = λ copy m is. held-has bytes (byte_of size copy) m
        (found header_reader bytes (byte_of size copy)) is;
    below = subst (λ (n : ℕ). (place : ℕ) → 0 < place → place < n
        → found header_reader bytes place ≡ None) (sym size_is) spared.genuine.below;
  }

  -- ---- what a copy that stands there means
  abbrev Says : Copy → List ℕ → Type 0
  Says copy m =
      (m ≡ from.means)
      ⊎ (IsOlder header_reader from.means m ⊎ (WasHanded copy stage × (m ≡ to.means)))

  -- a copy whose place was handed nothing of the next header is certain
  sure : (copy : Copy) → WasHanded copy stage
      ⊎ (found header_reader bytes (byte_of size copy) ≡ Some from.means)
  sure copy = go copy stage shows
    where
      sure-of : (copy : Copy) (at : Stage) (Now : ℕ → List ℕ → Type 0)
          → Shows (place_of layout copy) Now (IsOf sizes.atom (text_of from copy)) broken
          (view_of_cells cells)
          → WasHanded copy at ⊎ (found header_reader bytes (byte_of size copy) ≡ Some from.means)
      sure-of copy at Now shown =
          inr (certain-in taken sizes size layout cells image spared.is even laid more is_reader copy
          from Now broken whole refl shown)

      go : (copy : Copy) (at : Stage)
          → ShowsCommit sizes.atom layout from to at broken (view_of_cells cells)
          → WasHanded copy at ⊎ (found header_reader bytes (byte_of size copy) ≡ Some from.means)
      go primary begun shown = sure-of primary begun _ shown.first
      go primary first_written shown = inl tt
      go primary first_kept shown = inl tt
      go primary second_written shown = inl tt
      go secondary begun shown = sure-of secondary begun _ shown.second
      go secondary first_written shown = sure-of secondary first_written _ shown.second
      go secondary first_kept shown = sure-of secondary first_kept _ shown.second
      go secondary second_written shown = inl tt

  -- by the texts handed it means one of both headers, or an older one
  said : (copy : Copy) (m : List ℕ) → found header_reader bytes (byte_of size copy) ≡ Some m
      → (m ≡ from.means) ⊎ (IsOlder header_reader from.means m ⊎ (m ≡ to.means))
  said copy m is =
      let here : found header_reader bytes (byte_of header.copies.used.header.hdr_size copy) ≡ Some m =
      subst (λ (n : ℕ). found header_reader bytes (byte_of n copy) ≡ Some m) size_is is in
      subst (λ (t : List ℕ). (m ≡ from.means) ⊎ (IsOlder header_reader from.means m ⊎ (m ≡ t)))
      (sym to_is)
      (subst (λ (f : List ℕ). (m ≡ f) ⊎ (IsOlder header_reader f m
      ⊎ (m ≡ meaning_of next.copies.used.bytes))) (sym from_is)
      (spared.say copy (take (header_reader.size m)
      (drop (byte_of header.copies.used.header.hdr_size copy) bytes)) m
      (spared.genuine.each copy m here)
      (is_reader.own (byte_of header.copies.used.header.hdr_size copy)
      (drop (byte_of header.copies.used.header.hdr_size copy) bytes) m here)))

  says : (copy : Copy) (m : List ℕ) → found header_reader bytes (byte_of size copy) ≡ Some m
      → Says copy m
  says copy m is = go (sure copy) (said copy m is)
    where
      go : WasHanded copy stage
          ⊎ (found header_reader bytes (byte_of size copy) ≡ Some from.means)
          → (m ≡ from.means) ⊎ (IsOlder header_reader from.means m ⊎ (m ≡ to.means)) → Says copy m
      go (inr there) any =
          inl (some_one (found header_reader bytes (byte_of size copy)) m from.means is there)
      go (inl handed) (inl same) = inl same
      go (inl handed) (inr (inl older)) = inr (inl older)
      go (inl handed) (inr (inr same)) = inr (inr (handed, same))

  pub dated : IsDated header_reader from to stage held
  unfolding held copy_at
  dated = record {
    later = later-by stage from.means to.means follows;
    each = λ copy text m has valid. says copy m
        (held-found bytes text (byte_of size copy) m is_reader
        (found header_reader bytes (byte_of size copy)) refl has valid);
  }
