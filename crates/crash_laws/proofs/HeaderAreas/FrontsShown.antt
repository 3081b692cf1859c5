-- Lemmas on copies that would be found in front of the secondary.
use Rattle.std.proofs.Common.{◌≡◌, ℕ, zero, suc, ◌+◌, ◌-◌, ◌*◌, ◌/◌, ◌%◌, ◌<◌, ◌≤◌, true, false}
use Rattle.std.proofs.Common.{Bool, List, ◌++◌, drop, Option, Some, None, refl, sym, ◌∙◌, ap, subst}
use Rattle.std.proofs.Common.{arith}
use Rattle.std.specs.Prelude.{Contains}
use Rattle.std.proofs.Math.Nat.{lt_of_mul-lt-mul_right}
use Rattle.std.proofs.lemmas.List.{append-nil}
use Rattle.crash_laws.proofs.HeaderAreas.HeadersGiven.{some_none}
use Rattle.crash_laws.specs.HeaderAreas.Areas.{Area, AreApart, Image, IsOf, IsWhole, Shows, content_of}
use Rattle.crash_laws.specs.HeaderAreas.Areas.{text_from}
use Rattle.crash_laws.specs.HeaderAreas.Commits.{Stage, begun, first_written, first_kept, second_written}
use Rattle.crash_laws.specs.HeaderAreas.Commits.{CommitCall, CommitFails, WritesCopy, TriesCopy}
use Rattle.crash_laws.specs.HeaderAreas.Fronts.{FrontsBegin, BeginsNone, HidesNone, ShowsNone, FrontsStay}
use Rattle.crash_laws.specs.HeaderAreas.Fronts.{FrontsGive, FrontsBeginAnyhow, FrontsBeginRepair}
use Rattle.crash_laws.specs.HeaderAreas.Fronts.{FrontsStayBeside}
use Rattle.crash_laws.specs.HeaderAreas.Fronts.{CallElsewhere, reads, syncs, writes_elsewhere, sync_fails}
use Rattle.crash_laws.specs.HeaderAreas.Fronts.{write_fails_elsewhere}
use Rattle.crash_laws.specs.HeaderAreas.Headers.{Copy, primary, secondary, Reader, Layout, Header, text_of}
use Rattle.crash_laws.specs.HeaderAreas.Headers.{found}
use Rattle.sector_disk.specs.DiskViews.Views.{View, IsTried, IsWritten}
use Rattle.crash_laws.proofs.HeaderAreas.AreaTexts.{area_at}
use Rattle.crash_laws.proofs.HeaderAreas.AreasShown.{synced, thinned, whole_failed, whole_written, beside}
use Rattle.crash_laws.proofs.HeaderAreas.AreasShown.{failed_beside, unchanged, weaker}

-- ---- what is written to the primary hides none
written_none : {M : Type 0} (reader : Reader M) (atom : ℕ) (layout : Layout) (text : List ℕ)
    (old new : View)
    → HidesNone reader atom layout.first text → ShowsNone reader atom layout false old
    → IsWritten atom layout.first.start layout.first.count text old new
    → ShowsNone reader atom layout false new
written_none reader atom layout text old new hides shows step =
    weaker layout.first (IsOf atom text) (BeginsNone reader atom) (BeginsNone reader atom)
    (BeginsNone reader atom)
    (λ i value below is. subst (BeginsNone reader atom i) (sym is) (hides i below))
    (λ i value below it. it)
    (whole_written atom text old new layout.first _ _ (BeginsNone reader atom) hides
    (λ i value below it. it) step shows)

tried_none : {M : Type 0} (reader : Reader M) (atom : ℕ) (layout : Layout) (text : List ℕ)
    (old new : View)
    → HidesNone reader atom layout.first text → ShowsNone reader atom layout false old
    → IsTried atom layout.first.start layout.first.count text old new
    → ShowsNone reader atom layout true new
tried_none reader atom layout text old new hides shows step =
    whole_failed atom text old new layout.first _ _ _ (BeginsNone reader atom) hides
    (λ i value below it. it) step shows

-- a primary that is certain to stand, and hides none
standing_none : {M : Type 0} {broken : Bool} {view : View} (reader : Reader M) (atom : ℕ)
    (layout : Layout) (text : List ℕ)
    → HidesNone reader atom layout.first text
    → Shows layout.first (IsOf atom text) (IsOf atom text) broken view
    → ShowsNone reader atom layout broken view
standing_none reader atom layout text hides shows =
    weaker layout.first (IsOf atom text) (IsOf atom text)
    (BeginsNone reader atom) (BeginsNone reader atom)
    (λ i value below is. subst (BeginsNone reader atom i) (sym is) (hides i below))
    (λ i value below is. subst (BeginsNone reader atom i) (sym is) (hides i below)) shows

pub fronts_begin : FrontsBegin
fronts_begin = λ reader atom layout from to broken view hides shows.
    standing_none reader atom layout (text_of from primary) hides shows.first

pub fronts_begin_anyhow : FrontsBeginAnyhow
fronts_begin_anyhow = λ reader atom layout text broken view hides shows.
    standing_none reader atom layout text hides shows

pub fronts_begin_repair : FrontsBeginRepair
fronts_begin_repair = λ reader atom layout header written broken view hides shows.
    standing_none reader atom layout (text_of header primary) hides shows.good

-- ---- each call
copy_none : {M : Type 0} (reader : Reader M) (atom : ℕ) (layout : Layout) (to : Header M)
    (bad : Copy) (old new : View)
    → AreApart layout.first layout.second
    → HidesNone reader atom layout.first (text_of to primary)
    → ShowsNone reader atom layout false old
    → (WritesCopy atom layout to bad old new → ShowsNone reader atom layout false new)
    × (TriesCopy atom layout to bad old new → ShowsNone reader atom layout true new)
copy_none reader atom layout to primary old new apart hides shows = (
  λ step. written_none reader atom layout (text_of to primary) old new hides shows step,
  λ step. tried_none reader atom layout (text_of to primary) old new hides shows step,
)
copy_none reader atom layout to secondary old new apart hides shows = (
  λ step. beside atom _ 0 _ (text_of to secondary) old new layout.first layout.second _ _ apart
      (omega arith) (omega arith) step shows,
  λ step. failed_beside atom _ 0 _ (text_of to secondary) old new layout.first layout.second _ _ _
      apart (omega arith) (omega arith) step shows,
)

call_none : {M : Type 0} (reader : Reader M) (atom : ℕ) (layout : Layout) (to : Header M)
    (stage : Stage) (old new : View)
    → AreApart layout.first layout.second
    → HidesNone reader atom layout.first (text_of to primary)
    → ShowsNone reader atom layout false old
    → (CommitCall atom layout to stage old new → ShowsNone reader atom layout false new)
    × (CommitFails atom layout to stage old new → ShowsNone reader atom layout true new)
call_none reader atom layout to begun old new apart hides shows =
    copy_none reader atom layout to primary old new apart hides shows
call_none reader atom layout to first_written old new apart hides shows = (
  λ step. synced old new layout.first _ _ step shows,
  λ step. thinned old new layout.first _ _ step shows,
)
call_none reader atom layout to first_kept old new apart hides shows =
    copy_none reader atom layout to secondary old new apart hides shows
call_none reader atom layout to second_written old new apart hides shows = (
  λ step. synced old new layout.first _ _ step shows,
  λ step. thinned old new layout.first _ _ step shows,
)

pub fronts_stay : FrontsStay
fronts_stay = λ reader atom layout to old new apart hides shows. record {
  commit = λ stage. call_none reader atom layout to stage old new apart hides shows;
  repair = λ bad. copy_none reader atom layout to bad old new apart hides shows;
}

-- ---- a call of somebody else's
elsewhere_none : {M : Type 0} (reader : Reader M) (atom : ℕ) (layout : Layout) (failed : Bool)
    (old new : View)
    → CallElsewhere atom layout old new failed → ShowsNone reader atom layout false old
    → ShowsNone reader atom layout failed new
elsewhere_none reader atom layout _ old new (reads step) shows =
    unchanged old new layout.first _ _ step shows
elsewhere_none reader atom layout _ old new (syncs step) shows =
    synced old new layout.first _ _ step shows
elsewhere_none reader atom layout _ old new (writes_elsewhere area text apart step) shows =
    beside atom area.start 0 area.count text old new layout.first area _ _ apart (omega arith)
    (omega arith) step shows
elsewhere_none reader atom layout _ old new (sync_fails step) shows =
    thinned old new layout.first _ _ step shows
elsewhere_none reader atom layout _ old new (write_fails_elsewhere area text apart step) shows =
    failed_beside atom area.start 0 area.count text old new layout.first area _ _ _ apart
    (omega arith) (omega arith) step shows

pub fronts_stay_beside : FrontsStayBeside
fronts_stay_beside = λ reader atom layout failed old new call shows.
    elsewhere_none reader atom layout failed old new call shows

-- ---- an image
none-or : {M : Type 0} (o : Option M) → ((m : M) → o ≡ Some m → ⊥) → o ≡ None
none-or None never = refl
none-or (Some m) never = absurd (never m refl)

-- the bytes from an atom on begin with it
at-atom : (atom atoms i : ℕ) (image : Image) → IsWhole atom atoms image → i < atoms
    → (rest : List ℕ) × (drop (i * atom) (content_of atoms image) ≡ image i ++ rest)
unfolding text_from
at-atom atom atoms i image whole below =
    let area : Area = record { start = i; count = 1 } in
    let rest = text_from image (i + 1) (atoms - (i + 1)) in (
      rest,
      area_at atom atoms image area (i * atom) whole (omega (arith, below)) refl
          ∙ ap (λ front. front ++ rest) (append-nil (image i)),
    )

pub fronts_give : FrontsGive
fronts_give = λ atom atoms size reader layout view image broken some whole_places is shows place
    front below.
    none-or (found reader (content_of atoms image) place) (λ m here.
    (let i = place / atom in
    let content = content_of atoms image in
    let whole : i * atom ≡ place = whole-place atom place some (whole_places place _ m here) in
    let long = is.laid.long in
    let less : i * atom < layout.first.count * atom = omega (arith, whole, below, long) in
    let inside : i < layout.first.count = lt_of_mul-lt-mul_right atom less in
    let start = is.laid.first in
    let within : layout.first.count ≤ atoms =
    omega (arith, is.laid.first, is.laid.second, is.laid.within) in
    let at = at-atom atom atoms i image is.whole (omega (arith, inside, within)) in
    let same : layout.first.start + i ≡ i = omega (arith, start) in
    let none = shows.left i inside (image i)
    (subst (λ p. Contains (view.candidates (layout.first.start + i)) (image p)) same
    (is.takes primary i inside))
    (later atom i place whole front) at.0 in
    some_none (reader.decode (i * atom) (drop (i * atom) content)) m
    (subst (λ p. reader.decode p (drop p content) ≡ Some m) (sym whole) here)
    (ap (reader.decode (i * atom)) at.1 ∙ none)))
  where
    whole-place : (atom place : ℕ) → 0 < atom → place % atom ≡ 0 → place / atom * atom ≡ place
    whole-place atom place some even = grind (arith, even, some)

    later : (atom i place : ℕ) → i * atom ≡ place → 0 < place → 0 < i
    later atom zero place whole front = absurd (omega (arith, whole, front))
    later atom (suc i) place whole front = omega arith
