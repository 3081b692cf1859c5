-- Lemmas on the calls of a volume's first commit.
use Rattle.std.proofs.Common.{ℕ, List, arith}
use Rattle.crash_laws.specs.HeaderAreas.Areas.{AreApart, IsAny}
use Rattle.crash_laws.specs.HeaderAreas.Commits.{Stage, begun, first_written, first_kept, second_written}
use Rattle.crash_laws.specs.HeaderAreas.Commits.{CommitCall}
use Rattle.crash_laws.specs.HeaderAreas.Firsts.{FirstGoes, ShowsFirst, ShowsThen}
use Rattle.crash_laws.specs.HeaderAreas.Headers.{primary, secondary, Layout, Header, text_of}
use Rattle.sector_disk.specs.DiskViews.Views.{View}
use Rattle.crash_laws.proofs.HeaderAreas.AreasShown.{synced, whole_written, beside}
use Rattle.crash_laws.proofs.HeaderAreas.CommitSteps.{apart_back}

pub first_step : {M : Type 0} (atom : ℕ) (layout : Layout) (to after : Header M) (stage : Stage)
    (old new : View)
    → AreApart layout.first layout.second → ShowsFirst atom layout to stage old
    → CommitCall atom layout to stage old new
    → ShowsThen atom layout to after stage new
first_step atom layout to after begun old new apart shows call = record {
  first = whole_written atom (text_of to primary) old new layout.first IsAny IsAny IsAny
      (λ i below. tt) (λ i value below it. tt) call shows.first;
  second = beside atom _ 0 _ (text_of to primary) old new layout.second layout.first IsAny IsAny
      (apart_back _ _ apart) (omega arith) (omega arith) call shows.second;
}
first_step atom layout to after first_written old new apart shows call = record {
  first = synced old new layout.first _ _ call shows.first;
  second = synced old new layout.second IsAny IsAny call shows.second;
}
first_step atom layout to after first_kept old new apart shows call = record {
  first = beside atom _ 0 _ (text_of to secondary) old new layout.first layout.second _ _ apart
      (omega arith) (omega arith) call shows.first;
  second = whole_written atom (text_of to secondary) old new layout.second IsAny IsAny IsAny
      (λ i below. tt) (λ i value below it. tt) call shows.second;
}
first_step atom layout to after second_written old new apart shows call = record {
  first = synced old new layout.first _ _ call shows.first;
  second = synced old new layout.second _ _ call shows.second;
}

pub first_goes : (atom : ℕ) (layout : Layout) (to after : Header (List ℕ))
    → FirstGoes atom layout to after
first_goes atom layout to after = record {
  any = λ view. record {
    first = record { now = λ whole i below. tt; left = λ i below value has. tt };
    second = record { now = λ whole i below. tt; left = λ i below value has. tt };
  };
  step = λ stage old new apart shows call.
      first_step atom layout to after stage old new apart shows call;
}
