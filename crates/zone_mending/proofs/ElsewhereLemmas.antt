-- What each device call leaves alone by which a zone is written again.
use Rattle.std.proofs.Common.{inl, inr, ℕ, ◌+◌, ◌≤◌, true, false, List, arith}
use Rattle.crash_laws.specs.HeaderAreas.Commits.{CommitCall, CommitFails, Stage, begun, first_kept}
use Rattle.crash_laws.specs.HeaderAreas.Commits.{first_written, second_written}
use Rattle.crash_laws.specs.HeaderAreas.Headers.{Header, Layout, primary, secondary}
use Rattle.sector_disk.specs.DiskViews.Views.{View, IsOutside, IsSynced, IsThinned, IsTried, IsUnchanged}
use Rattle.sector_disk.specs.DiskViews.Views.{IsWritten}
use Rattle.crash_laws.specs.HotZones.Zones.{Hotzone}
use Rattle.zone_mending.specs.Elsewhere.{IsElsewhere, StaysElsewhere}

-- ---- what touches no atom there
kept : {M : Type 0} (layout : Layout) (zone : Hotzone M) (was is : View) (atom at n : ℕ)
    (text : List ℕ)
    → ((place : ℕ) → IsElsewhere layout zone place → IsOutside at n place)
    → IsWritten atom at n text was is → StaysElsewhere layout zone false was is
kept layout zone was is atom at n text away written = record {
  current = λ whole place there. written.outside place (away place there);
  left = λ place there value has. inr
      (written.tried.outside place (away place there) value has);
}

thin : {M : Type 0} (layout : Layout) (zone : Hotzone M) (was is : View) (atom at n : ℕ)
    (text : List ℕ)
    → ((place : ℕ) → IsElsewhere layout zone place → IsOutside at n place)
    → IsTried atom at n text was is → StaysElsewhere layout zone true was is
thin layout zone was is atom at n text away tried = record {
  current = λ whole. absurd cc;
  left = λ place there value has. inr (tried.outside place (away place there) value has);
}

-- a part of the zone's own atoms
part-away : {M : Type 0} (layout : Layout) (zone : Hotzone M) (n more : ℕ)
    → n + more ≤ zone.own.count → (place : ℕ) → IsElsewhere layout zone place
    → IsOutside (zone.own.start + n) more place
part-away layout zone n more within place there = elim there.own [
  | inl before ↦ inl (omega (arith, before))
  | inr behind ↦ inr (omega (arith, behind, within))
]

-- ---- each call
module _ {M : Type 0} (layout : Layout) (zone : Hotzone M) where
  pub stays-unchanged : (was is : View) → IsUnchanged was is
      → StaysElsewhere layout zone false was is
  stays-unchanged was is same = record {
    current = λ whole place there. same.current place;
    left = λ place there value has. inr (same.candidates place value has);
  }

  pub stays-synced : (was is : View) → IsSynced was is → StaysElsewhere layout zone false was is
  stays-synced was is synced = record {
    current = λ whole place there. synced.current place;
    left = λ place there value has. inl (synced.candidates place value has);
  }

  pub stays-thinned : (was is : View) → IsThinned was is → StaysElsewhere layout zone true was is
  stays-thinned was is thinned = record {
    current = λ whole. absurd cc;
    left = λ place there value has. inr (thinned place value has);
  }

  pub stays-written : (atom n more : ℕ) (text : List ℕ) (was is : View)
      → n + more ≤ zone.own.count → IsWritten atom (zone.own.start + n) more text was is
      → StaysElsewhere layout zone false was is
  stays-written atom n more text was is within written =
      kept layout zone was is atom _ more text (part-away layout zone n more within) written

  pub stays-tried : (atom n more : ℕ) (text : List ℕ) (was is : View)
      → n + more ≤ zone.own.count → IsTried atom (zone.own.start + n) more text was is
      → StaysElsewhere layout zone true was is
  stays-tried atom n more text was is within tried =
      thin layout zone was is atom _ more text (part-away layout zone n more within) tried

  pub stays-committed : (atom : ℕ) (to : Header M) (stage : Stage) (was is : View)
      → CommitCall atom layout to stage was is → StaysElsewhere layout zone false was is
  stays-committed atom to begun was is called =
      kept layout zone was is atom _ _ _ (λ place there. there.copies primary) called
  stays-committed atom to first_written was is called = stays-synced was is called
  stays-committed atom to first_kept was is called =
      kept layout zone was is atom _ _ _ (λ place there. there.copies secondary) called
  stays-committed atom to second_written was is called = stays-synced was is called

  pub stays-torn : (atom : ℕ) (to : Header M) (stage : Stage) (was is : View)
      → CommitFails atom layout to stage was is → StaysElsewhere layout zone true was is
  stays-torn atom to begun was is failed =
      thin layout zone was is atom _ _ _ (λ place there. there.copies primary) failed
  stays-torn atom to first_written was is failed = stays-thinned was is failed
  stays-torn atom to first_kept was is failed =
      thin layout zone was is atom _ _ _ (λ place there. there.copies secondary) failed
  stays-torn atom to second_written was is failed = stays-thinned was is failed
