-- How many blocks a volume has, how large they are, and how many atoms its disk has, stay while its
-- worker alone makes steps.
use Rattle.std.proofs.Common.{◌≡◌, ◌∷◌, ◌∙◌, List, [], ap, refl, subst}
use Rattle.recovery_laws.proofs.Resumed.WorkerDeeds.{AreWorks, cons-not-nil, head-same, tail-same}
use Rattle.segment_map.specs.declared.map.Map.{Map}
use Rattle.volume_laws.proofs.HoldersKept.{atoms_kept}
use Rattle.volume_laws.proofs.HoldersKept.{ends_turned, opens_turned}
use Rattle.volume_laws.proofs.VolumesKept.{step_in_order}
use Rattle.volume_laws.specs.Converting.{IsInOrder}
use Rattle.volume_machine.specs.Courses.{Courses}
use Rattle.volume_machine.specs.Deeds.{Act, AreDeeds, Deed, Does, state_after, worker}
use Rattle.volume_machine.specs.Readings.{Reading}
use Rattle.volume_machine.specs.Seals.{Seals}
use Rattle.volume_machine.specs.States.{State}
use Rattle.volume_machine.specs.WorkSteps.{WorkStep, Worked, begins, concludes, ends, ends_zone, faults}
use Rattle.volume_machine.specs.WorkSteps.{is_hindered, is_unfinished, leaves_blocks, leaves_broken}
use Rattle.volume_machine.specs.WorkSteps.{misses_conclusion, misses_part, misses_wipe, opens_zone}
use Rattle.volume_machine.specs.WorkSteps.{queues, stays, steps, takes, wiped, wipes}

-- the map has as many blocks, of as many bytes
record SameSize (old new : Map) : Type 0 where
  blocks : new.blocks ≡ old.blocks
  atom : new.atom ≡ old.atom

by-same : (old new : Map) → new ≡ old → SameSize old new
by-same old new same = record {
  blocks = ap (λ (map : Map). map.blocks) same;
  atom = ap (λ (map : Map). map.atom) same;
}

step-size : {K : Type 0} {reading : Reading} {seals : Seals} (old new : State K) (worked : Worked)
    → Courses reading old → WorkStep reading seals old new worked → SameSize old.map new.map
step-size old new worked courses (takes grant it) = by-same old.map new.map it.admitted.goes.map
step-size old new worked courses (queues lane it) = by-same old.map new.map it.admitted.goes.map
step-size {K} old new worked courses (stays lane it) =
    by-same old.map new.map (ap (λ (s : State K). s.map) it.same)
step-size old new worked courses (begins it) = by-same old.map new.map it.goes.map_is
step-size old new worked courses (steps it) = by-same old.map new.map it.goes.map_is
step-size old new worked courses (opens_zone it) =
    let turned = opens_turned courses it in
    record {
      blocks = ap (λ (map : Map). map.blocks) it.goes.map_is ∙ turned.blocks;
      atom = ap (λ (map : Map). map.atom) it.goes.map_is ∙ turned.atom;
    }
step-size old new worked courses (ends_zone it) =
    let turned = ends_turned courses it in
    record {
      blocks = ap (λ (map : Map). map.blocks) it.goes.map_is ∙ turned.blocks;
      atom = ap (λ (map : Map). map.atom) it.goes.map_is ∙ turned.atom;
    }
step-size old new worked courses (leaves_blocks it) = by-same old.map new.map it.frees.map
step-size old new worked courses (concludes it) = by-same old.map new.map it.goes.map_is
step-size old new worked courses (wipes it) = by-same old.map new.map it.goes.map_is
step-size old new worked courses (wiped it) = by-same old.map new.map it.goes.map_is
step-size {K} old new worked courses (ends it) =
    by-same old.map new.map (ap (λ (s : State K). s.map) it.same)
step-size old new worked courses (misses_part it) = by-same old.map new.map it.gives_up.frees.map
step-size old new worked courses (is_hindered cause it) =
    by-same old.map new.map it.gives_up.frees.map
step-size {K} old new worked courses (is_unfinished cause it) =
    by-same old.map new.map (ap (λ (s : State K). s.map) it.same)
step-size old new worked courses (faults it) = by-same old.map new.map it.frees.map
step-size old new worked courses (misses_conclusion it) = by-same old.map new.map it.frees.map
step-size old new worked courses (misses_wipe it) = by-same old.map new.map it.frees.map
step-size old new worked courses (leaves_broken it) = by-same old.map new.map it.frees.map

-- ---- runs of them
pub record KeepsSize {K : Type 0} (old new : State K) : Type 0 where
  pub blocks : new.map.blocks ≡ old.map.blocks
  pub atom : new.map.atom ≡ old.map.atom
  pub atoms : new.disk.atoms ≡ old.disk.atoms

pub size-kept : {K : Type 0} (reading : Reading) (seals : Seals) (old : State K)
    (deeds : List (Deed K)) → IsInOrder reading old → AreDeeds reading seals old deeds
    → AreWorks deeds → KeepsSize old (state_after old deeds)
unfolding AreDeeds state_after
size-kept reading seals old [] order are works = record { blocks = refl; atom = refl; atoms = refl }
size-kept reading seals old (one ∷ rest) order are ([], same) = absurd (cons-not-nil same)
size-kept reading seals old (one ∷ rest) order (does, are) (w ∷ works, same) =
    let first : one.act ≡ worker w = head-same same in
    let step = subst (λ (act : Act). Does reading seals old act one.after) first does in
    let here = step-size old one.after w order.courses step in
    let later = size-kept reading seals one.after rest
    (step_in_order reading seals old one.after w order step) are (works, tail-same same) in
    record {
      blocks = later.blocks ∙ here.blocks;
      atom = later.atom ∙ here.atom;
      atoms = later.atoms ∙ atoms_kept step;
    }
