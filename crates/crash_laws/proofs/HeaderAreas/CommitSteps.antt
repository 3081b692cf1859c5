-- Lemmas on the calls of a commit: each leads from what is known of the copies to what is known.
use Rattle.std.proofs.Common.{ℕ, inl, inr, true, false, arith}
use Rattle.crash_laws.specs.HeaderAreas.Areas.{Area, AreApart, IsAny}
use Rattle.crash_laws.specs.HeaderAreas.Commits.{Stage, begun, first_written, first_kept, second_written}
use Rattle.crash_laws.specs.HeaderAreas.Commits.{ShowsCommit, CommitCall, CommitFails, next_stage, failed_stage}
use Rattle.crash_laws.specs.HeaderAreas.Commits.{first_of, second_of}
use Rattle.crash_laws.specs.HeaderAreas.Headers.{primary, secondary, Layout, Header, text_of}
use Rattle.sector_disk.specs.DiskViews.Views.{View}
use Rattle.crash_laws.proofs.HeaderAreas.AreasShown.{synced, thinned, whole_written, whole_failed, beside}
use Rattle.crash_laws.proofs.HeaderAreas.AreasShown.{failed_beside}

pub apart_back : (a b : Area) → AreApart a b → AreApart b a
apart_back a b (inl before) = inr before
apart_back a b (inr behind) = inl behind

-- a call that is done
pub commit_step : {M : Type 0} (atom : ℕ) (layout : Layout) (from to after : Header M)
    (stage : Stage) (old new : View)
    → AreApart layout.first layout.second → CommitCall atom layout to stage old new
    → ShowsCommit atom layout from to stage false old
    → ShowsCommit atom layout (first_of stage from to) (second_of stage to after) (next_stage stage)
    false new
commit_step atom layout from to after begun old new apart call shows = record {
  first = whole_written atom (text_of to primary) old new layout.first _ _ IsAny (λ i below. tt)
      (λ i value below it. tt) call shows.first;
  second =
      beside atom _ 0 _ (text_of to primary) old new layout.second layout.first _ _
      (apart_back _ _ apart) (omega arith) (omega arith) call shows.second;
}
commit_step atom layout from to after first_written old new apart call shows = record {
  first = synced old new layout.first _ _ call shows.first;
  second = synced old new layout.second _ _ call shows.second;
}
commit_step atom layout from to after first_kept old new apart call shows = record {
  first = beside atom _ 0 _ (text_of to secondary) old new layout.first layout.second _ _ apart
      (omega arith) (omega arith) call shows.first;
  second =
      whole_written atom (text_of to secondary) old new layout.second _ _ IsAny (λ i below. tt)
      (λ i value below it. tt) call shows.second;
}
commit_step atom layout from to after second_written old new apart call shows = record {
  first = synced old new layout.first _ _ call shows.first;
  second = synced old new layout.second _ _ call shows.second;
}

-- a call that failed: after a write as if it were done, after a sync as before
pub commit_fails : {M : Type 0} (atom : ℕ) (layout : Layout) (from to : Header M) (stage : Stage)
    (old new : View)
    → AreApart layout.first layout.second → CommitFails atom layout to stage old new
    → ShowsCommit atom layout from to stage false old
    → ShowsCommit atom layout from to (failed_stage stage) true new
commit_fails atom layout from to begun old new apart call shows = record {
  first = whole_failed atom (text_of to primary) old new layout.first _ _ _ IsAny (λ i below. tt)
      (λ i value below it. tt) call shows.first;
  second =
      failed_beside atom _ 0 _ (text_of to primary) old new layout.second layout.first _ _ _
      (apart_back _ _ apart) (omega arith) (omega arith) call shows.second;
}
commit_fails atom layout from to first_written old new apart call shows = record {
  first = thinned old new layout.first _ _ call shows.first;
  second = thinned old new layout.second _ _ call shows.second;
}
commit_fails atom layout from to first_kept old new apart call shows = record {
  first = failed_beside atom _ 0 _ (text_of to secondary) old new layout.first layout.second _ _ _
      apart (omega arith) (omega arith) call shows.first;
  second =
      whole_failed atom (text_of to secondary) old new layout.second _ _ _ IsAny (λ i below. tt)
      (λ i value below it. tt) call shows.second;
}
commit_fails atom layout from to second_written old new apart call shows = record {
  first = thinned old new layout.first _ _ call shows.first;
  second = thinned old new layout.second _ _ call shows.second;
}
