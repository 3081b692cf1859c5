-- What a disk shows of a new keyslot: of both copies, of the keyslot's area, and of all else behind
-- the copies; and how the calls move it.
use Rattle.std.proofs.Common.{◌≡◌, inl, inr, ℕ, ◌+◌, ◌*◌, ◌<◌, ◌≤◌, Bool, true, false, List, length}
use Rattle.std.proofs.Common.{refl, ◌∙◌, arith, sym}
use Rattle.std.specs.Prelude.{Contains}
use Rattle.crash_laws.specs.HeaderAreas.Areas.{Area, AreApart}
use Rattle.crash_laws.specs.HeaderAreas.Commits.{CommitCall, CommitFails, ShowsCommit, Stage, begun}
use Rattle.crash_laws.specs.HeaderAreas.Commits.{failed_stage, first_kept, first_written}
use Rattle.crash_laws.specs.HeaderAreas.Commits.{second_written}
use Rattle.crash_laws.specs.HeaderAreas.Headers.{Copy, Header, Layout, place_of, primary, secondary}
use Rattle.crash_laws.specs.HeaderAreas.Headers.{text_of}
use Rattle.crash_laws.specs.HeaderAreas.Promises.{CommitGoes}
use Rattle.sector_disk.specs.DiskViews.Parts.{block_at}
use Rattle.sector_disk.specs.DiskViews.Views.{IsOutside, IsSynced, IsThinned, IsTried, IsWritten, View}
use Rattle.luks_store.proofs.SlotCommits.EvenLemmas.{IsEven, even_sync, even_thin, even_try, even_write}
use Rattle.luks_store.proofs.SlotCommits.PlaceLemmas.{IsSure, by_commit, by_failure, by_sync, by_thin, by_try}
use Rattle.luks_store.proofs.SlotCommits.PlaceLemmas.{by_write, shows_sure, sure_at}

-- how far its calls are: nothing is done; the area is written; it is certain to be kept, and the
-- commit has come so far; all is certain to be kept
pub data Reached : Type 0 where
  nothing : Reached
  area_written : Reached
  area_kept : Stage → Reached
  all_kept : Reached

abbrev pub stage_at : Reached → Stage
stage_at nothing = begun
stage_at area_written = begun
stage_at (area_kept stage) = stage
stage_at all_kept = second_written

-- what is known of the keyslot's area
abbrev pub ShowsArea : ℕ → Area → List ℕ → Reached → Bool → View → Type 0
ShowsArea atom area text nothing broken view = Unit {0}
ShowsArea atom area text area_written broken view =
    broken ≡ false → (i : ℕ) → i < area.count
    → view.current (area.start + i) ≡ block_at atom text i
ShowsArea atom area text _ broken view =
    (i : ℕ) → i < area.count → IsSure broken view (area.start + i) (block_at atom text i)

-- at the end a stop leaves just what the disk holds
abbrev pub IsSettled : Reached → View → Type 0
IsSettled all_kept view =
    (place : ℕ) (value : List ℕ) → Contains (view.candidates place) value
    → value ≡ view.current place
IsSettled _ view = Unit {0}

-- where a call of the commit leads to
abbrev pub reached_behind : Stage → Reached
reached_behind begun = area_kept first_written
reached_behind first_written = area_kept first_kept
reached_behind first_kept = area_kept second_written
reached_behind second_written = all_kept

module _ (atom count end : ℕ) (layout : Layout) (from to : Header (List ℕ)) (area : Area)
    (text first : List ℕ) where
  -- so many atoms of the disk, of which those behind both copies begin at this one
  pub record ShowsSlot (reached : Reached) (broken : Bool) (view : View) : Type 0 where
    pub copies : ShowsCommit atom layout from to (stage_at reached) broken view
    pub area_is : ShowsArea atom area text reached broken view
    pub behind : (place : ℕ) → end ≤ place → place < count → IsOutside area.start area.count place
        → IsSure broken view place (block_at atom first place)
    pub now : broken ≡ false → (place : ℕ) → place < count → length (view.current place) ≡ atom
    pub left : (place : ℕ) → place < count → (value : List ℕ)
        → Contains (view.candidates place) value → length value ≡ atom
    pub settled : IsSettled reached view

  even : (reached : Reached) (view : View) → ShowsSlot reached false view → (place : ℕ)
      → place < count → IsEven atom view place
  even reached view shows place below =
      record { now = shows.now refl place below; left = shows.left place below }

  -- ---- the copies while the area is written
  module _ (old new : View) (long : length text ≡ area.count * atom)
      (within : area.start + area.count ≤ count) (behind_copies : end ≤ area.start)
      (front : (copy : Copy) → (place_of layout copy).start + (place_of layout copy).count ≤ end)
    where
      far : (copy : Copy) (i : ℕ) → i < (place_of layout copy).count
          → IsOutside area.start area.count ((place_of layout copy).start + i)
      far copy i below = inl (let e = front copy in omega (arith, e, below, behind_copies))

      each_copy : (broken : Bool) → ((copy : Copy) (i : ℕ) → i < (place_of layout copy).count
          → IsSure broken new ((place_of layout copy).start + i) (block_at atom (text_of from copy) i))
          → ShowsCommit atom layout from to begun broken new
      each_copy broken each = record {
        first = shows_sure atom layout.first (text_of from primary) (each primary);
        second = shows_sure atom layout.second (text_of from secondary) (each secondary);
      }

      sure_copy : ShowsCommit atom layout from to begun false old → (copy : Copy) (i : ℕ)
          → i < (place_of layout copy).count
          → IsSure false old ((place_of layout copy).start + i)
          (block_at atom (text_of from copy) i)
      sure_copy shows primary i below =
          sure_at atom layout.first (text_of from primary) shows.first i below
      sure_copy shows secondary i below =
          sure_at atom layout.second (text_of from secondary) shows.second i below

      pub area_is_written : ShowsSlot nothing false old
          → IsWritten atom area.start area.count text old new → ShowsSlot area_written false new
      area_is_written shows call = record {
        copies = each_copy false (λ copy i below.
            by_write old new _ _ (sure_copy shows.copies copy i below) atom area.start area.count
            text (far copy i below) call);
        area_is = λ whole i below. call.inside i below;
        behind = λ place from below outside.
            by_write old new place _ (shows.behind place from below outside) atom area.start
            area.count text outside call;
        now = λ whole place below.
            (even_write atom old new place (even nothing old shows place below) area.start
            area.count text long call).now;
        left = λ place below.
            (even_write atom old new place (even nothing old shows place below) area.start
            area.count text long call).left;
        settled = tt;
      }

      pub area_is_tried : ShowsSlot nothing false old
          → IsTried atom area.start area.count text old new → ShowsSlot nothing true new
      area_is_tried shows call = record {
        copies = each_copy true (λ copy i below.
            by_try old new _ _ (sure_copy shows.copies copy i below) atom area.start area.count
            text (far copy i below) call);
        area_is = tt;
        behind = λ place from below outside.
            by_try old new place _ (shows.behind place from below outside) atom area.start
            area.count text outside call;
        now = λ whole place below. absurd (cc);
        left = λ place below.
            even_try atom old new place (even nothing old shows place below) area.start
            area.count text long call;
        settled = tt;
      }

      pub area_is_synced : ShowsSlot area_written false old → IsSynced old new
          → ShowsSlot (area_kept begun) false new
      area_is_synced shows call = record {
        copies = each_copy false (λ copy i below.
            by_sync old new _ _ (sure_copy shows.copies copy i below) call);
        area_is = λ i below. record {
          now = λ whole. call.current (area.start + i) ∙ shows.area_is refl i below;
          left = λ other has.
              call.candidates (area.start + i) other has ∙ shows.area_is refl i below;
        };
        behind = λ place from below outside.
            by_sync old new place _ (shows.behind place from below outside) call;
        now = λ whole place below.
            (even_sync atom old new place (even area_written old shows place below) call).now;
        left = λ place below.
            (even_sync atom old new place (even area_written old shows place below) call).left;
        settled = tt;
      }

      pub area_is_thinned : ShowsSlot area_written false old → IsThinned old new
          → ShowsSlot area_written true new
      area_is_thinned shows call = record {
        copies = each_copy true (λ copy i below.
            by_thin old new _ _ (sure_copy shows.copies copy i below) call);
        area_is = λ whole. absurd (cc);
        behind = λ place from below outside.
            by_thin old new place _ (shows.behind place from below outside) call;
        now = λ whole place below. absurd (cc);
        left = λ place below.
            even_thin atom old new place (even area_written old shows place below) call;
        settled = tt;
      }

  -- ---- the calls of the commit
  -- after the last one both copies are certain, of which it is enough to know that one is
  kept_last : (view : View) → ShowsCommit atom layout to to begun false view
      → ShowsCommit atom layout from to second_written false view
  kept_last view shows = record {
    first = shows.first;
    second = record { now = shows.second.now; left = λ i below value has. tt };
  }

  copies_behind : CommitGoes → AreApart layout.first layout.second → (stage : Stage)
      (old new : View) → ShowsCommit atom layout from to stage false old
      → CommitCall atom layout to stage old new
      → ShowsCommit atom layout from to (stage_at (reached_behind stage)) false new
  copies_behind goes apart begun old new shows call =
      (goes atom layout from to to begun old new apart shows).0 call
  copies_behind goes apart first_written old new shows call =
      (goes atom layout from to to first_written old new apart shows).0 call
  copies_behind goes apart first_kept old new shows call =
      (goes atom layout from to to first_kept old new apart shows).0 call
  copies_behind goes apart second_written old new shows call =
      kept_last new ((goes atom layout from to to second_written old new apart shows).0 call)

  module _ (old new : View) (long : (copy : Copy)
      → length (text_of to copy) ≡ (place_of layout copy).count * atom)
      (behind_copies : end ≤ area.start)
      (front : (copy : Copy) → (place_of layout copy).start + (place_of layout copy).count ≤ end)
      (within : area.start + area.count ≤ count) where
    even_call : (stage : Stage) → CommitCall atom layout to stage old new → (place : ℕ)
        → IsEven atom old place → IsEven atom new place
    even_call begun call place is =
        even_write atom old new place is _ _ _ (long primary) call
    even_call first_written call place is = even_sync atom old new place is call
    even_call first_kept call place is =
        even_write atom old new place is _ _ _ (long secondary) call
    even_call second_written call place is = even_sync atom old new place is call

    even_fail : (stage : Stage) → CommitFails atom layout to stage old new → (place : ℕ)
        → IsEven atom old place → (value : List ℕ) → Contains (new.candidates place) value
        → length value ≡ atom
    even_fail begun call place is = even_try atom old new place is _ _ _ (long primary) call
    even_fail first_written call place is = even_thin atom old new place is call
    even_fail first_kept call place is = even_try atom old new place is _ _ _ (long secondary) call
    even_fail second_written call place is = even_thin atom old new place is call

    beside : (place : ℕ) → end ≤ place → (copy : Copy)
        → IsOutside (place_of layout copy).start (place_of layout copy).count place
    beside place from copy = inr (let e = front copy in omega (arith, e, from))

    area_behind : (stage : Stage)
        → ((i : ℕ) → i < area.count → IsSure false new (area.start + i) (block_at atom text i))
        → ShowsArea atom area text (reached_behind stage) false new
    area_behind begun each = each
    area_behind first_written each = each
    area_behind first_kept each = each
    area_behind second_written each = each

    settled_behind : (stage : Stage) → CommitCall atom layout to stage old new
        → IsSettled (reached_behind stage) new
    settled_behind begun call = tt
    settled_behind first_written call = tt
    settled_behind first_kept call = tt
    settled_behind second_written call =
        λ place value has. call.candidates place value has ∙ sym (call.current place)

    pub commit_goes : CommitGoes → AreApart layout.first layout.second → (stage : Stage)
        → ShowsSlot (area_kept stage) false old → CommitCall atom layout to stage old new
        → ShowsSlot (reached_behind stage) false new
    commit_goes goes apart stage shows call = record {
      copies = copies_behind goes apart stage old new shows.copies call;
      area_is = area_behind stage (λ i below.
          by_commit old new _ _ (shows.area_is i below) atom layout to stage
          (beside (area.start + i) (omega (arith, behind_copies))) call);
      behind = λ place from below outside.
          by_commit old new place _ (shows.behind place from below outside) atom layout to stage
          (beside place from) call;
      now = λ whole place below.
          (even_call stage call place (even (area_kept stage) old shows place below)).now;
      left = λ place below.
          (even_call stage call place (even (area_kept stage) old shows place below)).left;
      settled = settled_behind stage call;
    }

    pub commit_fails : CommitGoes → AreApart layout.first layout.second → (stage : Stage)
        → ShowsSlot (area_kept stage) false old → CommitFails atom layout to stage old new
        → ShowsSlot (area_kept (failed_stage stage)) true new
    commit_fails goes apart stage shows call = record {
      copies = (goes atom layout from to to stage old new apart shows.copies).1 call;
      area_is = λ i below.
          by_failure old new _ _ (shows.area_is i below) atom layout to stage
          (beside (area.start + i) (omega (arith, behind_copies))) call;
      behind = λ place from below outside.
          by_failure old new place _ (shows.behind place from below outside) atom layout to stage
          (beside place from) call;
      now = λ whole place below. absurd (cc);
      left = λ place below.
          even_fail stage call place (even (area_kept stage) old shows place below);
      settled = tt;
    }
