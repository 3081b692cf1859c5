-- The end of a conversion beside clients.
use Rattle.std.proofs.Common.{List, Some, [], ap, refl, ℕ, ◌++◌, ◌∙◌, ◌∷◌, ◌≡◌}
use Rattle.volume_machine.specs.Seals.{Seals}
use Rattle.volume_machine.specs.States.{State}
use Rattle.volume_laws.proofs.BesideConversions.SoFar.{SoFar, converts, over_at, same_so_far, work_so_far}
use Rattle.volume_laws.specs.BesideConversions.Ends.{IsConvertedBeside, MayConvertBeside}
use Rattle.crash_laws.specs.HeaderAreas.Headers.{Header, Layout}
use Rattle.volume_laws.proofs.BesideLanes.ClientsLeft.{stays_same}
use Rattle.volume_laws.specs.BesideLanes.Lanes.{work_in, works_over}
use Rattle.volume_laws.specs.Converting.{IsInOrder}
use Rattle.volume_laws.proofs.HeadersTell.{tells_beside}
use Rattle.volume_laws.proofs.VolumesKept.{event_in_order, step_in_order}
use Rattle.volume_machine.proofs.EventEffects.{event_effects}
use Rattle.volume_machine.specs.Deeds.{Act, AreDeeds, Deed, Does, client, state_after, worker}
use Rattle.volume_machine.specs.Readings.{Reading}
use Rattle.volume_machine.specs.WorkSteps.{IsDone, WorkStep, Worked, begins, concludes, ends}
use Rattle.volume_machine.specs.WorkSteps.{ends_zone, faults, finished, is_hindered, is_unfinished}
use Rattle.volume_machine.specs.WorkSteps.{leaves_blocks, leaves_broken, misses_conclusion}
use Rattle.volume_machine.specs.WorkSteps.{misses_part, misses_wipe, opens_zone, queues, stays, steps}
use Rattle.volume_machine.specs.WorkSteps.{takes, wiped, wipes}
use Rattle.volume_machine.specs.Works.{complete, converting, resting}

-- ---- what stands after each deed
record Kept {K : Type 0} (reading : Reading) (layout : Layout) (old now : State K) : Type 0 where
  order : IsInOrder reading now
  so_far : SoFar reading layout now
  blocks : now.map.blocks ≡ old.map.blocks

deed_kept : {K : Type 0} (reading : Reading) (seals : Seals) (layout : Layout) (old new : State K)
    (act : Act) → IsInOrder reading old → SoFar reading layout old → Does reading seals old act new
    → Kept reading layout old new
deed_kept reading seals layout old new (client event outcome) order so_far (meets, step) =
    let goes = event_effects old new event outcome step in record {
      order = event_in_order reading old new event outcome order meets step;
      so_far = same_so_far goes.work goes.map so_far;
      blocks = ap (λ m. m.blocks) goes.map;
    }
deed_kept reading seals layout old new (worker worked) order so_far step = record {
  order = step_in_order reading seals old new worked order step;
  so_far = work_so_far order so_far step;
  blocks = (stays_same reading seals old new worked order step).blocks;
}

deeds_kept : {K : Type 0} (reading : Reading) (seals : Seals) (layout : Layout) (old : State K)
    (deeds : List (Deed K)) → IsInOrder reading old → SoFar reading layout old
    → AreDeeds reading seals old deeds → Kept reading layout old (state_after old deeds)
unfolding AreDeeds state_after
deeds_kept reading seals layout old [] order so_far are =
    record { order = order; so_far = so_far; blocks = refl }
deeds_kept reading seals layout old (one ∷ rest) order so_far (does, are) =
    let first = deed_kept reading seals layout old one.after one.act order so_far does in
    let behind = deeds_kept reading seals layout one.after rest first.order first.so_far are in
    record { order = behind.order; so_far = behind.so_far; blocks = behind.blocks ∙ first.blocks }

-- ---- no step is left
done-of : {K : Type 0} {reading : Reading} {seals : Seals} {old new : State K} (worked : Worked)
    → WorkStep reading seals old new worked → worked ≡ finished → IsDone old new
done-of _ (takes grant it) is = absurd (cc)
done-of _ (queues lane it) is = absurd (cc)
done-of _ (stays lane it) is = absurd (cc)
done-of _ (begins it) is = absurd (cc)
done-of _ (steps it) is = absurd (cc)
done-of _ (opens_zone it) is = absurd (cc)
done-of _ (ends_zone it) is = absurd (cc)
done-of _ (leaves_blocks it) is = absurd (cc)
done-of _ (concludes it) is = absurd (cc)
done-of _ (wipes it) is = absurd (cc)
done-of _ (wiped it) is = absurd (cc)
done-of _ (ends it) is = it
done-of _ (misses_part it) is = absurd (cc)
done-of _ (is_hindered cause it) is = absurd (cc)
done-of _ (is_unfinished cause it) is = absurd (cc)
done-of _ (faults it) is = absurd (cc)
done-of _ (misses_conclusion it) is = absurd (cc)
done-of _ (misses_wipe it) is = absurd (cc)
done-of _ (leaves_broken it) is = absurd (cc)

record IsOver {K : Type 0} (state : State K) : Type 0 where
  layout : Layout
  header : Header (List ℕ)
  is : state.work ≡ Some (resting layout header complete)

-- clients leave the work
over_step : {K : Type 0} (reading : Reading) (seals : Seals) (old new : State K) (act : Act)
    (rest : List Worked) → Does reading seals old act new → work_in act ++ rest ≡ [] → IsOver old
    → IsOver new × (rest ≡ [])
over_step reading seals old new (client event outcome) rest (meets, step) none over = (
  record {
    layout = over.layout;
    header = over.header;
    is = (event_effects old new event outcome step).work ∙ over.is;
  },
  none,
)
over_step reading seals old new (worker worked) rest step none over = absurd (cc)

still_over : {K : Type 0} (reading : Reading) (seals : Seals) (old : State K)
    (deeds : List (Deed K)) → AreDeeds reading seals old deeds → works_over deeds ≡ []
    → IsOver old → IsOver (state_after old deeds)
unfolding AreDeeds state_after works_over
still_over reading seals old [] are none over = over
still_over reading seals old (one ∷ rest) (does, are) none over =
    let next = over_step reading seals old one.after one.act (works_over rest) does none over in
    still_over reading seals one.after rest are next.1 next.0

-- the last step of the worker is that none is left
over_from : {K : Type 0} (reading : Reading) (seals : Seals) (old new : State K) (act : Act)
    (rest : List (Deed K)) (earlier : List Worked) → Does reading seals old act new
    → AreDeeds reading seals new rest
    → work_in act ++ works_over rest ≡ earlier ++ finished ∷ []
    → ((more : List Worked) → works_over rest ≡ more ++ finished ∷ []
    → IsOver (state_after new rest)) → IsOver (state_after new rest)
over_from reading seals old new (client event outcome) rest earlier does are same again =
    again earlier same
over_from reading seals old new (worker worked) rest [] step are same again =
    let is : worked ≡ finished = cc same in
    let none : works_over rest ≡ [] = cc same in
    let done = done-of worked step is in
    still_over reading seals new rest are none (record {
      layout = done.layout;
      header = done.header;
      is = ap (λ s. s.work) done.same ∙ done.was;
    })
over_from reading seals old new (worker worked) rest (first ∷ earlier) step are same again =
    let behind : works_over rest ≡ earlier ++ finished ∷ [] = cc same in again earlier behind

no_works : (earlier : List Worked) → [] ≡ earlier ++ finished ∷ [] → ⊥
no_works [] same = cc
no_works (first ∷ earlier) same = cc

over_now : {K : Type 0} (reading : Reading) (seals : Seals) (old : State K) (deeds : List (Deed K))
    (earlier : List Worked) → AreDeeds reading seals old deeds
    → works_over deeds ≡ earlier ++ finished ∷ [] → IsOver (state_after old deeds)
unfolding AreDeeds state_after works_over
over_now reading seals old [] earlier are same = absurd (no_works earlier same)
over_now reading seals old (one ∷ rest) earlier (does, are) same =
    over_from reading seals old one.after one.act rest earlier does are same
    (λ more behind. over_now reading seals one.after rest more are behind)

pub converted_now : {K : Type 0} (reading : Reading) (seals : Seals) (layout : Layout)
    (header : Header (List ℕ)) (start : State K) (deeds : List (Deed K)) (earlier : List Worked)
    → MayConvertBeside reading layout header start → AreDeeds reading seals start deeds
    → works_over deeds ≡ earlier ++ finished ∷ []
    → IsConvertedBeside reading layout header start (state_after start deeds)
converted_now reading seals layout header start deeds earlier may are last =
    let now = state_after start deeds in
    let kept = deeds_kept reading seals layout start deeds may.order
    (converts (resting layout header converting) may.at_rest refl refl) are in
    let over = over_now reading seals start deeds earlier are last in
    let (lay, all) = over_at kept.so_far over.layout over.header over.is in
    let tells = tells_beside reading start seals layout header converting deeds may.at_rest are
    (resting over.layout over.header complete) over.is over.header.means refl in
    let course = kept.order.courses (resting over.layout over.header complete) over.is in
    record {
      header = over.header;
      is = course.is;
      at_end = over.is ∙ ap (λ l. Some (resting l over.header complete)) lay;
      map = course.map;
      blocks = kept.blocks;
      converted = all.converted;
      rests = all.rests;
      sealing = tells.new;
      order = kept.order;
    }
