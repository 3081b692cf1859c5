-- Lemmas on what is known of the atoms of one area.
use Rattle.std.proofs.Common.{◌≡◌, ℕ, ◌+◌, inl, inr, true, false, List, refl, arith}
use Rattle.std.proofs.lemmas.Bool.{cases_lt}
use Rattle.crash_laws.specs.HeaderAreas.Areas.{Area, AreApart, Shows}
use Rattle.crash_laws.specs.HeaderAreas.Headers.{Copy, primary, secondary, Layout, place_of, Header, text_of}
use Rattle.crash_laws.specs.HeaderAreas.Commits.{Stage, begun, first_written, first_kept, second_written}
use Rattle.crash_laws.specs.HeaderAreas.Commits.{ShowsCommit, CommitCall, CommitFails}
use Rattle.crash_laws.proofs.HeaderAreas.AreasShown.{synced, thinned, written, failed_written, beside}
use Rattle.crash_laws.proofs.HeaderAreas.AreasShown.{failed_beside}
use Rattle.crash_laws.proofs.HeaderAreas.CommitSteps.{apart_back}
use Rattle.sector_disk.specs.DiskViews.Views.{View, IsSynced}
use Rattle.crash_laws.specs.HotZones.Calls.{WritesPart, TriesPart}
use Rattle.crash_laws.specs.HotZones.Zones.{Texts, Known, Is, Extent, until, Holds, ShowsAtoms}

-- what is known of the first atoms and of the rest is known of all
pub split : (n : ℕ) (first rest : Known) (texts : Texts) (i : ℕ) (value : List ℕ) (P : Type 0)
    → (Is first texts i value → P) → (Is rest texts i value → P)
    → Holds (until n first rest) texts i value → P
split n first rest texts i value P one two holds = elim (cases_lt i n) [
  | inl less ↦ one (holds.0 less)
  | inr from ↦ two (holds.1 from)
]

-- a part of an area that is known up to this part is written
pub part_written : (atom : ℕ) (area : Area) (values : ℕ → List ℕ) (n more : ℕ)
    (first rest left : Known) (texts : Texts) (old new : View)
    → ((i : ℕ) (value : List ℕ) → value ≡ values i → Is first texts i value)
    → ((i : ℕ) (value : List ℕ) → value ≡ values i → Is left texts i value)
    → WritesPart atom area values n more old new
    → ShowsAtoms area (until n first rest) left texts false old
    → ShowsAtoms area (until (n + more) first rest) left texts false new
part_written atom area values n more first rest left texts old new is may part shows =
    written atom _ n more part.text old new area _ _ _ _ refl
    (λ k below. (λ _. is _ _ (part.each k below), λ from. absurd (omega (arith, below, from))))
    (λ i value below far now.
    (λ less. now.0 (omega (arith, far, less)), λ from. now.1 (omega (arith, from))))
    (λ k below. may _ _ (part.each k below)) (λ i value below it. it) part.call shows

pub part_failed : (atom : ℕ) (area : Area) (values : ℕ → List ℕ) (n more : ℕ) (now : Extent)
    (left : Known) (texts : Texts) (old new : View)
    → ((i : ℕ) (value : List ℕ) → value ≡ values i → Is left texts i value)
    → TriesPart atom area values n more old new → ShowsAtoms area now left texts false old
    → ShowsAtoms area now left texts true new
part_failed atom area values n more now left texts old new may part shows =
    failed_written atom _ n more part.text old new area _ _ _ _ refl
    (λ k below. may _ _ (part.each k below)) (λ i value below it. it) part.call shows

-- an area beside the one that is written
pub part_beside : (atom : ℕ) (area other : Area) (values : ℕ → List ℕ) (n more : ℕ)
    (Now Left : ℕ → List ℕ → Type 0) (old new : View)
    → AreApart area other → WritesPart atom other values n more old new
    → Shows area Now Left false old → Shows area Now Left false new
part_beside atom area other values n more Now Left old new apart part shows =
    beside atom _ n more part.text old new area other Now Left apart refl part.within part.call
    shows

pub part_fails_beside : (atom : ℕ) (area other : Area) (values : ℕ → List ℕ) (n more : ℕ)
    (Now Left : ℕ → List ℕ → Type 0) (old new : View)
    → AreApart area other → TriesPart atom other values n more old new
    → Shows area Now Left false old → Shows area Now Left true new
part_fails_beside atom area other values n more Now Left old new apart part shows =
    failed_beside atom _ n more part.text old new area other Now Left Now apart refl part.within
    part.call shows

-- the header beside it
pub header_beside : {M : Type 0} (atom : ℕ) (layout : Layout) (from to : Header M) (stage : Stage)
    (area : Area) (values : ℕ → List ℕ) (n more : ℕ) (old new : View)
    → ((copy : Copy) → AreApart area (place_of layout copy))
    → WritesPart atom area values n more old new
    → ShowsCommit atom layout from to stage false old
    → ShowsCommit atom layout from to stage false new
header_beside atom layout from to stage area values n more old new apart part shows = record {
  first = part_beside atom (place_of layout primary) area values n more _ _ old new
      (apart_back _ _ (apart primary)) part shows.first;
  second =
      part_beside atom (place_of layout secondary) area values n more _ _ old new
      (apart_back _ _ (apart secondary)) part shows.second;
}

pub header_fails_beside : {M : Type 0} (atom : ℕ) (layout : Layout) (from to : Header M)
    (stage : Stage) (area : Area) (values : ℕ → List ℕ) (n more : ℕ) (old new : View)
    → ((copy : Copy) → AreApart area (place_of layout copy))
    → TriesPart atom area values n more old new
    → ShowsCommit atom layout from to stage false old
    → ShowsCommit atom layout from to stage true new
header_fails_beside atom layout from to stage area values n more old new apart part shows = record {
  first = part_fails_beside atom (place_of layout primary) area values n more _ _ old new
      (apart_back _ _ (apart primary)) part shows.first;
  second =
      part_fails_beside atom (place_of layout secondary) area values n more _ _ old new
      (apart_back _ _ (apart secondary)) part shows.second;
}

-- a sync while no commit is under way
pub header_synced : {M : Type 0} (atom : ℕ) (layout : Layout) (from to : Header M) (old new : View)
    → IsSynced old new
    → ShowsCommit atom layout from to begun false old
    → ShowsCommit atom layout from to begun false new
header_synced atom layout from to old new call shows = record {
  first = synced old new layout.first _ _ call shows.first;
  second = synced old new layout.second _ _ call shows.second;
}

-- an area that is certain, during a commit
pub beside_commit : {M : Type 0} (atom : ℕ) (layout : Layout) (stage : Stage) (to : Header M)
    (area : Area) (Now : ℕ → List ℕ → Type 0) (old new : View)
    → ((copy : Copy) → AreApart area (place_of layout copy))
    → CommitCall atom layout to stage old new
    → Shows area Now Now false old → Shows area Now Now false new
beside_commit atom layout begun to area Now old new apart call shows =
    beside atom _ 0 _ (text_of to primary) old new area layout.first Now Now (apart primary)
    (omega arith) (omega arith) call shows
beside_commit atom layout first_written to area Now old new apart call shows =
    synced old new area Now Now call shows
beside_commit atom layout first_kept to area Now old new apart call shows =
    beside atom _ 0 _ (text_of to secondary) old new area layout.second Now Now (apart secondary)
    (omega arith) (omega arith) call shows
beside_commit atom layout second_written to area Now old new apart call shows =
    synced old new area Now Now call shows

pub beside_failed_commit : {M : Type 0} (atom : ℕ) (layout : Layout) (stage : Stage) (to : Header M)
    (area : Area) (Now Left : ℕ → List ℕ → Type 0) (old new : View)
    → ((copy : Copy) → AreApart area (place_of layout copy))
    → CommitFails atom layout to stage old new
    → Shows area Now Left false old → Shows area Now Left true new
beside_failed_commit atom layout begun to area Now Left old new apart call shows =
    failed_beside atom _ 0 _ (text_of to primary) old new area layout.first Now Left Now
    (apart primary) (omega arith) (omega arith) call shows
beside_failed_commit atom layout first_written to area Now Left old new apart call shows =
    thinned old new area Now Left call shows
beside_failed_commit atom layout first_kept to area Now Left old new apart call shows =
    failed_beside atom _ 0 _ (text_of to secondary) old new area layout.second Now Left Now
    (apart secondary) (omega arith) (omega arith) call shows
beside_failed_commit atom layout second_written to area Now Left old new apart call shows =
    thinned old new area Now Left call shows
