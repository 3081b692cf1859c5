-- An end of the worker is the last of its steps in the deeds, and all before it went on.
use Rattle.std.proofs.Common.{All, subst, sym}
use Rattle.std.proofs.Common.{◌≡◌, ◌≢◌, ℕ, suc, List, [], ◌∷◌, ◌++◌, length, refl, ap, ◌∙◌}
use Rattle.std.proofs.lemmas.List.Elements.{All-cons, All-head, All-nil, All-tail}
use Rattle.volume_laws.proofs.BesideConversions.Ending.{converted_now}
use Rattle.volume_laws.specs.BesideConversions.Ends.{IsConvertedBeside, MayConvertBeside}
use Rattle.crash_laws.specs.HeaderAreas.Headers.{Header, Layout}
use Rattle.base_terms.specs.declared.disk_sizes.Sizes.{Sizes}
use Rattle.volume_laws.specs.BesideLanes.Lanes.{works_over}
use Rattle.reenc_worker.specs.Answers.{AreAnswers, GoesOn, ended, exhausted}
use Rattle.reenc_worker.specs.declared.ends.WorkAnswer.{WorkAnswer}
use Rattle.reenc_worker.specs.declared.ends.WorkAnswer.TheVariants.{Ended}
use Rattle.reenc_worker.specs.declared.ends.WorkerEnd.{WorkerEnd}
use Rattle.reenc_worker.specs.declared.ends.WorkerEnd.TheVariants.{Finished, Spent}
use Rattle.shared_volume.proofs.Entries.{works-append}
use Rattle.shared_volume.proofs.LastWorks.{last-work}
use Rattle.shared_volume.specs.Lanes.{Knowing}
use Rattle.shared_volume.specs.Serving.{EndsBy, HasServedBeside, WentOn, calls_on, works_in}
use Rattle.shared_volume.specs.Working.{AreAnswered, none, refused, step, told_of, work_call}
use Rattle.shared_volume.specs.declared.asking.SharedEvent.{SharedEvent}
use Rattle.shared_volume.specs.declared.asking.SharedOutcome.{SharedOutcome}
use Rattle.shared_volume.specs.declared.asking.WorkDone.{WorkDone}
use Rattle.volume_cell.specs.declared.history.Call.{Call}
use Rattle.volume_core.specs.Zones.{IsReadBy, worked_of}
use Rattle.volume_machine.specs.Seals.{Seals}
use Rattle.volume_machine.specs.States.{State}
use Rattle.volume_machine.specs.WorkSteps.{Worked, awaits, clashes, faulted, finished, hindered}
use Rattle.volume_machine.specs.WorkSteps.{no_memory, no_number, no_room, stepped, was_broken}
use Rattle.volume_machine.specs.declared.keys.Keys.{Keys}
use Rattle.volume_laws.specs.WorkerRuns.Steps.{told_by}
use Rattle.hotzone.specs.ZoneEvents.Readings.{reading_of}

-- the last of these calls was answered so, and all before it went on
record LastAnswered (number : ℕ) (calls : List (Call SharedEvent SharedOutcome))
    (answer : WorkAnswer) : Type 0 where
  front : List (Call SharedEvent SharedOutcome)
  made : WorkDone
  is : calls ≡ front ++ work_call number made ∷ []
  told : told_of made ≡ answer
  went : WentOn (works_in front)

-- a step that went on, and more of them
went-more : (number : ℕ) (made : WorkDone) (calls : List (Call SharedEvent SharedOutcome))
    → GoesOn (told_of made) → WentOn (works_in calls)
    → WentOn (works_in (work_call number made ∷ calls))
unfolding works_in
went-more number made calls on more =
    All-cons (λ worked. GoesOn (told_by worked)) (worked_of made.worked) (works_in calls) on more

went-none : WentOn (works_in [])
unfolding works_in
went-none = All-nil (λ worked. GoesOn (told_by worked))

no-calls : (number : ℕ) (calls : List (Call SharedEvent SharedOutcome)) (answers : List WorkAnswer)
    → AreAnswered number calls answers → answers ≡ [] → calls ≡ []
no-calls number _ _ none same = refl
no-calls number _ _ (step made calls answers are) same = absurd (cc)
no-calls number _ _ (refused calls answers are) same = absurd (cc)

last-of : (number : ℕ) (calls : List (Call SharedEvent SharedOutcome))
    (answers went : List WorkAnswer) (end : WorkerEnd) → AreAnswered number calls answers
    → answers ≡ went ++ Ended end ∷ [] → All GoesOn went → end ≢ Spent
    → LastAnswered number calls (Ended end)
last-of number _ _ [] end none same on other = absurd (cc)
last-of number _ _ (went ∷ more) end none same on other = absurd (cc)
last-of number _ _ [] end (step made calls answers are) same on other =
    let told : told_of made ≡ Ended end = cc same in
    let rest : answers ≡ [] = cc same in
    record {
      front = [];
      made = made;
      is = ap (λ l. work_call number made ∷ l) (no-calls number calls answers are rest);
      told = told;
      went = went-none;
    }
last-of number _ _ (went ∷ more) end (step made calls answers are) same on other =
    let told : told_of made ≡ went = cc same in
    let rest : answers ≡ more ++ Ended end ∷ [] = cc same in
    let last = last-of number calls answers more end are rest (All-tail GoesOn went more on) other in
    record {
      front = work_call number made ∷ last.front;
      made = last.made;
      is = ap (λ l. work_call number made ∷ l) last.is;
      told = last.told;
      went = went-more number made last.front
          (subst GoesOn (sym told) (All-head GoesOn went more on)) last.went;
    }
last-of number _ _ [] end (refused calls answers are) same on other =
    absurd (let spent : end ≡ Spent = cc same in other spent)
last-of number _ _ (went ∷ more) end (refused calls answers are) same on other =
    let is : went ≡ Ended Spent = cc same in
    absurd (subst GoesOn is (All-head GoesOn went more on))

ends-by : (number : ℕ) (calls : List (Call SharedEvent SharedOutcome)) (answers : List WorkAnswer)
    (end : WorkerEnd) → AreAnswered number calls answers → AreAnswers end answers → end ≢ Spent
    → LastAnswered number calls (Ended end)
ends-by number calls _ end are (ended went on few) other =
    last-of number calls (went ++ Ended end ∷ []) went end are refl on other
ends-by number calls _ end are (exhausted went on many spent) other = absurd (other spent)

pub end-is-deed : {C : Type 0} (seals : Seals) (start now : State (Keys C)) (v : Knowing C)
    (lane : ℕ) (answers : List WorkAnswer) (end : WorkerEnd)
    → (served : HasServedBeside seals start now v) → suc lane ≡ length start.lanes
    → AreAnswered lane (calls_on lane v) answers → AreAnswers end answers → end ≢ Spent
    → EndsBy end served.deeds
unfolding works_in
end-is-deed seals start now v lane answers end served last are all other =
    let by = ends-by lane (calls_on lane v) answers end are all other in
    let works = served.worked lane last ∙ (ap works_in by.is
    ∙ works-append by.front (work_call lane by.made ∷ [])) in
    record {
      earlier = works_in by.front;
      last = worked_of by.made.worked;
      works = works;
      deed = last-work served.deeds (works_in by.front) (worked_of by.made.worked) works;
      told = by.told;
      went = by.went;
    }

-- ---- a port that is spent
not-spent : (worked : Worked) → told_by worked ≡ Ended Spent → ⊥
not-spent stepped is = cc
not-spent (awaits lane) is = cc
not-spent finished is = cc
not-spent faulted is = cc
not-spent (hindered (clashes block digest)) is = cc
not-spent (hindered (no_number left needed)) is = cc
not-spent (hindered (no_room len limit)) is = cc
not-spent (hindered no_memory) is = cc
not-spent was_broken is = cc

-- behind all that went on the port was spent
spent-last : (number : ℕ) (calls : List (Call SharedEvent SharedOutcome))
    (answers went : List WorkAnswer) → AreAnswered number calls answers
    → answers ≡ went ++ Ended Spent ∷ [] → All GoesOn went → WentOn (works_in calls)
spent-last number _ _ [] none same on = went-none
spent-last number _ _ (went ∷ more) none same on = went-none
spent-last number _ _ [] (step made calls answers are) same on =
    absurd (not-spent (worked_of made.worked) (cc same))
spent-last number _ _ (went ∷ more) (step made calls answers are) same on =
    let told : told_of made ≡ went = cc same in
    let rest : answers ≡ more ++ Ended Spent ∷ [] = cc same in
    went-more number made calls (subst GoesOn (sym told) (All-head GoesOn went more on))
    (spent-last number calls answers more are rest (All-tail GoesOn went more on))
spent-last number _ _ [] (refused calls answers are) same on =
    let rest : answers ≡ [] = cc same in
    subst (λ c. WentOn (works_in c)) (sym (no-calls number calls answers are rest)) went-none
spent-last number _ _ (went ∷ more) (refused calls answers are) same on =
    let is : went ≡ Ended Spent = cc same in
    absurd (subst GoesOn is (All-head GoesOn went more on))

-- all went on, as many as a worker asks for
all-went : (number : ℕ) (calls : List (Call SharedEvent SharedOutcome))
    (answers : List WorkAnswer) → AreAnswered number calls answers → All GoesOn answers
    → WentOn (works_in calls)
all-went number _ _ none on = went-none
all-went number _ _ (step made calls answers are) on =
    went-more number made calls (All-head GoesOn (told_of made) answers on)
    (all-went number calls answers are (All-tail GoesOn (told_of made) answers on))
all-went number _ _ (refused calls answers are) on =
    absurd (All-head GoesOn (Ended Spent) answers on)

spent-by : (number : ℕ) (calls : List (Call SharedEvent SharedOutcome))
    (answers : List WorkAnswer) → AreAnswered number calls answers → AreAnswers Spent answers
    → WentOn (works_in calls)
spent-by number calls _ are (ended went on few) =
    spent-last number calls (went ++ Ended Spent ∷ []) went are refl on
spent-by number calls _ are (exhausted went on many spent) = all-went number calls went are on

pub spent-went-on : {C : Type 0} (seals : Seals) (start now : State (Keys C)) (v : Knowing C)
    (lane : ℕ) (answers : List WorkAnswer) → (served : HasServedBeside seals start now v)
    → suc lane ≡ length start.lanes → AreAnswered lane (calls_on lane v) answers
    → AreAnswers Spent answers → WentOn (works_over served.deeds)
spent-went-on seals start now v lane answers served last are all =
    subst WentOn (sym (served.worked lane last)) (spent-by lane (calls_on lane v) answers are all)

-- an end that tells that all is done is that of the step that leaves none
told-finished : (worked : Worked) → told_by worked ≡ Ended Finished → worked ≡ finished
told-finished stepped is = absurd (cc)
told-finished (awaits lane) is = absurd (cc)
told-finished finished is = refl
told-finished faulted is = absurd (cc)
told-finished (hindered (clashes block digest)) is = absurd (cc)
told-finished (hindered (no_number left needed)) is = absurd (cc)
told-finished (hindered (no_room len limit)) is = absurd (cc)
told-finished (hindered no_memory) is = absurd (cc)
told-finished was_broken is = absurd (cc)

pub converted-by-end : {C : Type 0} (seals : Seals) (sizes : Sizes) (layout : Layout)
    (header : Header (List ℕ)) (start now : State (Keys C)) (v : Knowing C) (lane : ℕ)
    (answers : List WorkAnswer) → HasServedBeside seals start now v
    → suc lane ≡ length start.lanes → AreAnswered lane (calls_on lane v) answers
    → AreAnswers Finished answers → IsReadBy sizes start
    → MayConvertBeside (reading_of sizes) layout header start
    → IsConvertedBeside (reading_of sizes) layout header start now
converted-by-end seals sizes layout header start now v lane answers served last are all read may =
    let by = end-is-deed seals start now v lane answers Finished served last are all (λ same. cc) in
    let done : by.last ≡ finished = told-finished by.last by.told in
    subst (λ s. IsConvertedBeside (reading_of sizes) layout header start s) served.last
    (converted_now (reading_of sizes) seals layout header start served.deeds by.earlier may
    (served.are sizes (λ some. read))
    (by.works ∙ ap (λ w. by.earlier ++ w ∷ []) done))
