-- A place of a disk that holds a value for certain, and what device calls leave of it.
use Rattle.std.proofs.Common.{◌≡◌, ℕ, ◌+◌, ◌<◌, Bool, true, false, List}
use Rattle.std.proofs.Common.{refl, ◌∙◌}
use Rattle.std.specs.Prelude.{Contains}
use Rattle.crash_laws.specs.HeaderAreas.Areas.{Area, IsOf, Shows}
use Rattle.crash_laws.specs.HeaderAreas.Commits.{CommitCall, CommitFails, Stage, begun, first_kept}
use Rattle.crash_laws.specs.HeaderAreas.Commits.{first_written, second_written}
use Rattle.crash_laws.specs.HeaderAreas.Headers.{Copy, Header, Layout, place_of, primary, secondary}
use Rattle.sector_disk.specs.DiskViews.Parts.{block_at}
use Rattle.sector_disk.specs.DiskViews.Views.{IsOutside, IsSynced, IsThinned, IsTried, IsWritten, View}

-- it holds this value while no call has failed, and a stop leaves nothing else there
pub record IsSure (broken : Bool) (view : View) (place : ℕ) (value : List ℕ) : Type 0 where
  pub now : broken ≡ false → view.current place ≡ value
  pub left : (other : List ℕ) → Contains (view.candidates place) other → other ≡ value

module _ (old new : View) (place : ℕ) (value : List ℕ) (sure : IsSure false old place value) where
  pub by_write : (atom at n : ℕ) (text : List ℕ) → IsOutside at n place
      → IsWritten atom at n text old new → IsSure false new place value
  by_write atom at n text outside call = record {
    now = λ whole. call.outside place outside ∙ sure.now refl;
    left = λ other has. sure.left other (call.tried.outside place outside other has);
  }

  pub by_try : (atom at n : ℕ) (text : List ℕ) → IsOutside at n place
      → IsTried atom at n text old new → IsSure true new place value
  by_try atom at n text outside call = record {
    now = λ whole. absurd (cc);
    left = λ other has. sure.left other (call.outside place outside other has);
  }

  pub by_sync : IsSynced old new → IsSure false new place value
  by_sync call = record {
    now = λ whole. call.current place ∙ sure.now refl;
    left = λ other has. call.candidates place other has ∙ sure.now refl;
  }

  pub by_thin : IsThinned old new → IsSure true new place value
  by_thin call = record {
    now = λ whole. absurd (cc);
    left = λ other has. sure.left other (call place other has);
  }

  -- a place outside both copies stays what it is by each call of a commit
  pub by_commit : (atom : ℕ) (layout : Layout) (to : Header (List ℕ)) (stage : Stage)
      → ((copy : Copy)
      → IsOutside (place_of layout copy).start (place_of layout copy).count place)
      → CommitCall atom layout to stage old new → IsSure false new place value
  by_commit atom layout to begun far call = by_write atom _ _ _ (far primary) call
  by_commit atom layout to first_written far call = by_sync call
  by_commit atom layout to first_kept far call = by_write atom _ _ _ (far secondary) call
  by_commit atom layout to second_written far call = by_sync call

  pub by_failure : (atom : ℕ) (layout : Layout) (to : Header (List ℕ)) (stage : Stage)
      → ((copy : Copy)
      → IsOutside (place_of layout copy).start (place_of layout copy).count place)
      → CommitFails atom layout to stage old new → IsSure true new place value
  by_failure atom layout to begun far call = by_try atom _ _ _ (far primary) call
  by_failure atom layout to first_written far call = by_thin call
  by_failure atom layout to first_kept far call = by_try atom _ _ _ (far secondary) call
  by_failure atom layout to second_written far call = by_thin call

-- an area that holds a text for certain, place by place
pub sure_at : {broken : Bool} {view : View} (atom : ℕ) (area : Area) (text : List ℕ)
    → Shows area (IsOf atom text) (IsOf atom text) broken view → (i : ℕ) → i < area.count
    → IsSure broken view (area.start + i) (block_at atom text i)
sure_at atom area text shows i below = record {
  now = λ whole. shows.now whole i below;
  left = λ other has. shows.left i below other has;
}

pub shows_sure : {broken : Bool} {view : View} (atom : ℕ) (area : Area) (text : List ℕ)
    → ((i : ℕ) → i < area.count → IsSure broken view (area.start + i) (block_at atom text i))
    → Shows area (IsOf atom text) (IsOf atom text) broken view
shows_sure atom area text each = record {
  now = λ whole i below. (each i below).now whole;
  left = λ i below other has. (each i below).left other has;
}
