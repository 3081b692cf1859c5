-- The header that the disk's current bytes give while nothing has failed: both copies are known.
use Rattle.std.proofs.Common.{List, Some, [], ap, false, inl, inr, length, refl, subst, sym, ℕ, ◌+◌}
use Rattle.std.proofs.Common.{◌<◌, ◌∙◌, ◌≡◌, ◌⊎◌}
use Rattle.std.proofs.lemmas.List.Elements.{Contains-push}
use Rattle.sector_disk.specs.DiskViews.Views.{View}
use Rattle.volume_machine.specs.States.{State}
use Rattle.volume_machine.specs.Works.{Work}
use Rattle.crash_laws.proofs.HeaderAreas.HeadersGiven.{certain, some_one}
use Rattle.crash_laws.specs.HeaderAreas.Areas.{IsOf, content_of}
use Rattle.crash_laws.specs.HeaderAreas.Commits.{Follows, IsLater, MayBe, ShowsCommit, Stage, begun}
use Rattle.crash_laws.specs.HeaderAreas.Commits.{first_kept, first_written, second_written}
use Rattle.crash_laws.specs.HeaderAreas.Headers.{Copy, Gives, Header, IsHeader, IsLaidOut, IsReader, Layout}
use Rattle.crash_laws.specs.HeaderAreas.Headers.{Reader, byte_of, found, place_of, primary, secondary, text_of}
use Rattle.std.proofs.lemmas.List.Elements.{Contains-push_cases}
use Rattle.sector_disk.proofs.DiskViews.TableEntries.{none_contained}
use Rattle.crash_laws.specs.HotZones.Promises.{sharp}
use Rattle.crash_laws.specs.HotZones.Calls.{IsFirst}
use Rattle.crash_laws.specs.HotZones.Zones.{Phase, from_of, mending, moving, opening, saving, shifting, stage_of}
use Rattle.crash_laws.specs.HotZones.Zones.{to_of, turning, writing}
use Rattle.volume_machine.specs.Courses.{IsOnCourse, Leads}
use Rattle.volume_machine.specs.Readings.{Reading}

-- once something of the next header was written it follows
later_by : {M : Type 0} (reader : Reader M) (stage : Stage) (from to : M) → Follows reader from to
    → IsLater reader stage from to
later_by reader begun from to follows = tt
later_by reader first_written from to follows = follows
later_by reader first_kept from to follows = follows
later_by reader second_written from to follows = follows

pub is_later : {K : Type 0} {reading : Reading} {state : State K} (work : Work)
    → IsOnCourse reading state work → IsLater reading.reader (stage_of work.phase)
    (from_of work.zone work.phase).means (to_of work.zone work.phase).means
is_later {reading = reading} {state = state} work course =
    by work.phase refl course.next
  where
    by : (phase : Phase) → work.phase ≡ phase → IsFirst work.phase ⊎ Leads reading state work
        → IsLater reading.reader (stage_of phase) (from_of work.zone phase).means
        (to_of work.zone phase).means
    by (saving n) is next = tt
    by (opening stage) is (inl first) = absurd (subst IsFirst is first)
    by (opening stage) is (inr leads) =
        later_by reading.reader stage _ _ (leads.opens (rw is tt)).0.follows
    by (writing n) is next = tt
    by (mending n) is next = tt
    by (moving stage) is (inl first) = absurd (subst IsFirst is first)
    by (moving stage) is (inr leads) =
        later_by reading.reader stage _ _ (rw is at leads.moves.0.follows)
    by (shifting n) is next = tt
    by (turning stage) is (inl first) = absurd (subst IsFirst is first)
    by (turning stage) is (inr leads) =
        later_by reading.reader stage _ _ (rw is at leads.moves.0.follows)

module _ {M : Type 0} (reader : Reader M) (atom atoms : ℕ) (layout : Layout) (from to : Header M)
    (stage : Stage) (view : View) (is_reader : IsReader reader) (of_from : IsHeader reader from)
    (of_to : IsHeader reader to)
    (laid : IsLaidOut atom atoms (reader.size from.means) layout)
    (whole : (place : ℕ) → place < atoms → length (view.current place) ≡ atom) where
  abbrev bytes : List ℕ
  bytes = content_of atoms view.current

  -- what stands at a copy's place is found
  found_now : (copy : Copy) (header : Header M) → IsHeader reader header
      → reader.size header.means ≡ reader.size from.means
      → ((i : ℕ) → i < (place_of layout copy).count
      → IsOf atom (text_of header copy) i (view.current ((place_of layout copy).start + i)))
      → found reader bytes (byte_of (reader.size from.means) copy) ≡ Some header.means
  found_now copy header of_header long now =
      certain {broken = false} {view = sharp view} atom atoms (reader.size from.means) reader layout copy header
      (IsOf atom (text_of header copy)) view.current is_reader of_header long laid whole
      (λ i below. Contains-push [] (view.current ((place_of layout copy).start + i)))
      (record {
        now = λ unbroken. now;
        left = λ i below value has. elim (Contains-push_cases []
            (view.current ((place_of layout copy).start + i)) value has) [
              | inl none ↦ absurd (none_contained _ value none)
              | inr same ↦ rw (← same) (now i below)
            ];
      })

  -- both copies mean this header
  both : (m : M) → found reader bytes 0 ≡ Some m → found reader bytes (reader.size m) ≡ Some m
      → Gives reader bytes m
  both m one two = inl (one, λ g valid. inl (some_one _ g m valid two))

  -- the next one stands in front of the one from before
  next_one : Follows reader from.means to.means → found reader bytes 0 ≡ Some to.means
      → found reader bytes (reader.size from.means) ≡ Some from.means
      → Gives reader bytes to.means
  next_one follows one two = inl (
    one,
    λ g valid. inr (subst (λ x. reader.seq x < reader.seq to.means)
        (some_one _ from.means g two
        (ap (found reader bytes) (sym follows.1) ∙ valid)) follows.0),
  )

  pub header_now : IsLater reader stage from.means to.means
      → ShowsCommit atom layout from to stage false view
      → (m : M) × MayBe stage from.means to.means m × Gives reader bytes m
  header_now = by stage
    where
      by : (stage : Stage) → IsLater reader stage from.means to.means
          → ShowsCommit atom layout from to stage false view
          → (m : M) × MayBe stage from.means to.means m × Gives reader bytes m
      by begun later shows = (
        from.means,
        refl,
        both from.means (found_now primary from of_from refl (shows.first.now refl))
            (found_now secondary from of_from refl (shows.second.now refl)),
      )
      by first_written later shows = (
        to.means,
        inr refl,
        next_one later (found_now primary to of_to later.1 (shows.first.now refl))
            (found_now secondary from of_from refl (shows.second.now refl)),
      )
      by first_kept later shows = (
        to.means,
        refl,
        next_one later (found_now primary to of_to later.1 (shows.first.now refl))
            (found_now secondary from of_from refl (shows.second.now refl)),
      )
      by second_written later shows = (
        to.means,
        refl,
        both to.means (found_now primary to of_to later.1 (shows.first.now refl))
            (ap (found reader bytes) later.1
            ∙ found_now secondary to of_to later.1 (shows.second.now refl)),
      )
