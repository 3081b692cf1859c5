-- Lemmas on a repair: one copy is certain, the other is written anew. Whatever a stop leaves of it,
-- the header stays.
use Rattle.std.proofs.Common.{◌≡◌, ℕ, ◌<◌, ◌⊎◌, inl, inr, Bool, true, false, List, Some, None}
use Rattle.std.proofs.Common.{Option, refl, ◌∙◌, ap, arith}
use Rattle.crash_laws.specs.HeaderAreas.Areas.{Area, AreApart, Shows, IsAny, Image, IsWhole, Takes, content_of}
use Rattle.crash_laws.specs.HeaderAreas.Commits.{begun, ShowsCommit, IsOlder, HasPast, other, ShowsRepair}
use Rattle.crash_laws.specs.HeaderAreas.Commits.{WritesCopy, TriesCopy}
use Rattle.crash_laws.specs.HeaderAreas.Headers.{Copy, primary, secondary, Reader, IsReader, found}
use Rattle.crash_laws.specs.HeaderAreas.Headers.{HasNoneBelow, Gives, Layout, place_of, IsLaidOut, Header}
use Rattle.crash_laws.specs.HeaderAreas.Headers.{text_of, IsHeader, Handed, IsGenuine}
use Rattle.sector_disk.specs.DiskViews.Views.{View, IsSynced, IsThinned}
use Rattle.crash_laws.proofs.HeaderAreas.AreasShown.{synced, thinned, whole_written, beside, failed_beside}
use Rattle.crash_laws.proofs.HeaderAreas.CommitSteps.{apart_back}
use Rattle.crash_laws.proofs.HeaderAreas.HeadersGiven.{some_one, certain}

-- the copy behind is certain
given_by_second : {M : Type 0} (reader : Reader M) (bytes : List ℕ) (h : M)
    → found reader bytes (reader.size h) ≡ Some h
    → HasNoneBelow reader bytes (reader.size h)
    → ((m : M) → found reader bytes 0 ≡ Some m → (m ≡ h) ⊎ IsOlder reader h m)
    → (o : Option M) → found reader bytes 0 ≡ o → Gives reader bytes h
given_by_second reader bytes h second below says None is = inr (inr (is, second, below))
given_by_second reader bytes h second below says (Some m) is = elim (says m is) [
  | inl same ↦ inl (is ∙ ap (λ x. Some x) same, λ g valid. inl (some_one _ g h valid second))
  | inr older ↦ inr (inl (m, is, ap (found reader bytes) older.1 ∙ second, older.0))
]

not_newer : {M : Type 0} (reader : Reader M) (h m : M) → (m ≡ h) ⊎ IsOlder reader h m
    → (m ≡ h) ⊎ (reader.seq m < reader.seq h)
not_newer reader h m (inl same) = inl same
not_newer reader h m (inr older) = inr older.0

pub repair_gives : {M : Type 0} {written broken : Bool} {view : View} (atom atoms : ℕ)
    (reader : Reader M) (layout : Layout)
    (header : Header M) (bad : Copy) (handed : Handed) (image : Image) → IsReader reader
    → IsHeader reader header
    → HasPast reader header handed → IsLaidOut atom atoms (reader.size header.means) layout
    → IsWhole atom atoms image
    → ((copy : Copy) → Takes view image (place_of layout copy))
    → IsGenuine reader (reader.size header.means) handed (content_of atoms image)
    → ShowsRepair atom layout header bad written broken view
    → Gives reader (content_of atoms image) header.means
repair_gives atom atoms reader layout header secondary handed image is_reader valid past laid whole
    takes genuine shows =
    inl (
      certain atom atoms _ reader layout primary header _ image is_reader valid refl laid whole
          (takes primary) shows.good,
      λ g is. not_newer reader header.means g
          (past secondary _ g (genuine.each secondary g is) (is_reader.own _ _ g is)),
    )
repair_gives atom atoms reader layout header primary handed image is_reader valid past laid whole
    takes genuine shows =
    given_by_second reader (content_of atoms image) header.means
    (certain atom atoms _ reader layout secondary header _ image is_reader valid refl laid whole
    (takes secondary) shows.good)
    genuine.below (λ m is. past primary _ m (genuine.each primary m is) (is_reader.own _ _ m is)) _
    refl

-- nothing is known of an area
anything : (area : Area) (view : View) → Shows area IsAny IsAny false view
anything area view = record { now = λ whole i below. tt; left = λ i below value has. tt }

apart_of : (layout : Layout) (bad : Copy) → AreApart layout.first layout.second
    → AreApart (place_of layout (other bad)) (place_of layout bad)
apart_of layout primary apart = apart_back _ _ apart
apart_of layout secondary apart = apart

pub repair_writes : {M : Type 0} (atom : ℕ) (layout : Layout) (header : Header M) (bad : Copy)
    (old new : View)
    → AreApart layout.first layout.second → ShowsRepair atom layout header bad false false old
    → WritesCopy atom layout header bad old new → ShowsRepair atom layout header bad true false new
repair_writes atom layout header bad old new apart shows call = record {
  good = beside atom _ 0 _ (text_of header bad) old new _ (place_of layout bad) _ _
      (apart_of layout bad apart) (omega arith) (omega arith) call shows.good;
  now = λ done. whole_written atom (text_of header bad) old new (place_of layout bad) IsAny IsAny
      IsAny (λ i below. tt) (λ i value below it. tt) call
      (anything (place_of layout bad) old);
}

pub repair_write_fails : {M : Type 0} (atom : ℕ) (layout : Layout) (header : Header M) (bad : Copy)
    (old new : View)
    → AreApart layout.first layout.second → ShowsRepair atom layout header bad false false old
    → TriesCopy atom layout header bad old new → ShowsRepair atom layout header bad false true new
repair_write_fails atom layout header bad old new apart shows call = record {
  good = failed_beside atom _ 0 _ (text_of header bad) old new _ (place_of layout bad) _ _ _
      (apart_of layout bad apart) (omega arith) (omega arith) call shows.good;
  now = λ done. absurd (cc);
}

pub repair_synced : {M : Type 0} (atom : ℕ) (layout : Layout) (header to : Header M) (bad : Copy)
    (old new : View)
    → ShowsRepair atom layout header bad true false old → IsSynced old new
    → ShowsCommit atom layout header to begun false new
repair_synced atom layout header to primary old new shows call = record {
  first = synced old new layout.first _ _ call (shows.now refl);
  second = synced old new layout.second _ _ call shows.good;
}
repair_synced atom layout header to secondary old new shows call = record {
  first = synced old new layout.first _ _ call shows.good;
  second = synced old new layout.second _ _ call (shows.now refl);
}

pub repair_sync_fails : {M : Type 0} (atom : ℕ) (layout : Layout) (header : Header M) (bad : Copy)
    (old new : View)
    → ShowsRepair atom layout header bad true false old → IsThinned old new
    → ShowsRepair atom layout header bad true true new
repair_sync_fails atom layout header bad old new shows call = record {
  good = thinned old new _ _ _ call shows.good;
  now = λ done. thinned old new (place_of layout bad) _ _ call (shows.now done);
}
