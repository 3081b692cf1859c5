-- What a stop leaves behind each of the deeds of a conversion.
use Rattle.std.proofs.Common.{List, Some, [], ap, subst, ◌++◌, ◌∙◌, ◌∷◌, ◌≡◌}
use Rattle.volume_machine.specs.Answers.{AreExchanges}
use Rattle.volume_machine.specs.Runs.{no_plain}
use Rattle.volume_machine.specs.Seals.{Seals}
use Rattle.volume_machine.specs.States.{State}
use Rattle.volume_machine.proofs.EventEffects.{event_effects}
use Rattle.volume_machine.specs.Deeds.{Act, AreDeeds, Deed, Does, answered_over, client, plain_over}
use Rattle.volume_machine.specs.Deeds.{state_after, worker}
use Rattle.volume_machine.specs.Readings.{Reading}
use Rattle.volume_machine.specs.WorkSteps.{WorkStep, Worked, begins, concludes, ends, ends_zone}
use Rattle.volume_machine.specs.WorkSteps.{faults, is_hindered, is_unfinished, leaves_blocks}
use Rattle.volume_machine.specs.WorkSteps.{leaves_broken, misses_conclusion, misses_part}
use Rattle.volume_machine.specs.WorkSteps.{misses_wipe, opens_zone, queues, stays, steps, takes}
use Rattle.volume_machine.specs.WorkSteps.{wiped, wipes}
use Rattle.volume_machine.specs.Works.{Work}
use Rattle.volume_laws.proofs.RunsServed.{split_exchanges}
use Rattle.volume_laws.specs.Converting.{ServesBeside}
use Rattle.volume_laws.specs.Handing.{handed_over}
use Rattle.volume_laws.specs.Imaging.{StandsTaken, StopsBeside}
use Rattle.volume_laws.proofs.BesideServing.{Errors.answered-deeds, Errors.deeds-front, Legals.legal_one}
use Rattle.volume_laws.specs.BesideServing.Stops.{DeedsStopAnywhere}

-- ---- a conversion's work goes on
abbrev pub HasWork : {K : Type 0} → State K → Type 0
HasWork state = (work : Work) × (state.work ≡ Some work)

module _ {K : Type 0} {old new : State K} where
  stays_so : (work : Work) → old.work ≡ Some work → new ≡ old → HasWork new
  stays_so work was same = (work, ap (λ s. s.work) same ∙ was)

  pub work_goes : {reading : Reading} {seals : Seals} {worked : Worked}
      → WorkStep reading seals old new worked → HasWork new
  work_goes (takes grant it) = (_, it.admitted.goes.work ∙ it.was)
  work_goes (queues lane it) = (_, it.admitted.goes.work ∙ it.was)
  work_goes (stays lane it) = stays_so _ it.was it.same
  work_goes (begins it) = (_, it.goes.work)
  work_goes (steps it) = (_, it.goes.work)
  work_goes (opens_zone it) = (_, it.goes.work)
  work_goes (ends_zone it) = (_, it.goes.work)
  work_goes (leaves_blocks it) = (_, it.frees.work ∙ it.was)
  work_goes (concludes it) = (_, it.goes.work)
  work_goes (wipes it) = (_, it.goes.work)
  work_goes (wiped it) = (_, it.goes.work)
  work_goes (ends it) = stays_so _ it.was it.same
  work_goes (misses_part it) = (_, it.gives_up.frees.work)
  work_goes (is_hindered cause it) = (_, it.gives_up.frees.work)
  work_goes (is_unfinished cause it) = stays_so _ it.was it.same
  work_goes (faults it) = (_, it.frees.work)
  work_goes (misses_conclusion it) = (_, it.frees.work)
  work_goes (misses_wipe it) = (_, it.frees.work ∙ it.was)
  work_goes (leaves_broken it) = (_, it.frees.work ∙ it.was)

module _ {K : Type 0} (reading : Reading) (seals : Seals) where
  work_on : (old new : State K) (act : Act) → HasWork old → Does reading seals old act new
      → HasWork new
  work_on old new (client event outcome) (work, was) (meets, step) =
      (work, (event_effects old new event outcome step).work ∙ was)
  work_on old new (worker worked) had step = work_goes step

  pub work_over : (old : State K) (deeds : List (Deed K)) → HasWork old
      → AreDeeds reading seals old deeds → HasWork (state_after old deeds)
  unfolding AreDeeds state_after
  work_over old [] had are = had
  work_over old (one ∷ rest) had (does, are) =
      work_over one.after rest (work_on old one.after one.act had does) are

pub stops_anywhere : {K : Type 0} (reading : Reading) (start : State K) (seals : Seals)
    → ServesBeside reading start seals → StopsBeside reading start seals
    → DeedsStopAnywhere reading start seals
stops_anywhere reading start seals serves stops = λ layout header progress blocks bytes deeds
    exchanges handed reader hashes starts certain dated are are_exchanges earlier later parts.
    let all : AreExchanges (answered_over seals start no_plain earlier
    ++ answered_over seals (state_after start earlier) (plain_over seals start no_plain earlier)
    later) exchanges = subst (λ xs. AreExchanges xs exchanges)
    (ap (λ d. answered_over seals start no_plain d) parts
    ∙ answered-deeds seals start no_plain earlier later) are_exchanges in
    let (first, rest, is_parts, are_first, are_rest) =
    split_exchanges (answered_over seals start no_plain earlier) (answered_over seals
    (state_after start earlier) (plain_over seals start no_plain earlier) later) exchanges all in
    let front = deeds-front reading seals start earlier later
    (subst (λ d. AreDeeds reading seals start d) parts are) in
    let served = serves layout header progress blocks bytes earlier first starts front are_first in
    let (work, is) = work_over reading seals start earlier (_, starts.at_rest) front in record {
      first = first;
      rest = rest;
      parts = is_parts;
      answered = are_first;
      left = served.left;
      legal = served.legal;
      work = (work, is);
      allowed = λ told is_told.
          let (held, may, stands) = stops layout header progress blocks bytes earlier first handed
          reader starts certain dated front are_first told is_told work is
          (λ w now guard. hashes) in
          subst (λ l. StandsTaken reading (state_after start earlier) seals
          (plain_over seals start no_plain earlier) l (handed_over start handed earlier) told.now)
          (legal_one start.map.atom blocks held served.left first may served.legal) stands;
    }
