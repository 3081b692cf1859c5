-- The calls of the conversion's worker, and how it ended.
use Rattle.std.proofs.Common.{◌≡◌, ◌≢◌, ◌⊎◌, inl, inr, ℕ, ◌-◌, ◌^◌, ◌<◌, ◌≤◌, List, [], ◌∷◌, ◌++◌}
use Rattle.std.proofs.Common.{All, Contains, length, length-append, refl, sym, ◌∙◌, ap, subst, arith}
use Rattle.std.proofs.lemmas.List.Elements.{All-head, All-tail}
use Rattle.volume_laws.specs.BesideLanes.Lanes.{work_in, works_over}
use Rattle.reenc_worker.specs.Answers.{AreAnswers, GoesOn, ended, exhausted}
use Rattle.reenc_worker.specs.declared.ends.WorkAnswer.{WorkAnswer}
use Rattle.reenc_worker.specs.declared.ends.WorkAnswer.TheVariants.{Ended}
use Rattle.reenc_worker.specs.declared.ends.WorkerEnd.{WorkerEnd}
use Rattle.reenc_worker.specs.declared.ends.WorkerEnd.TheVariants.{Broken, Clash, Device, Finished}
use Rattle.reenc_worker.specs.declared.ends.WorkerEnd.TheVariants.{Memory, NoFit as no_fit, Spent}
use Rattle.shared_volume.specs.Histories.{own_calls}
use Rattle.shared_volume.specs.Serving.{works_in}
use Rattle.shared_volume.specs.Working.{AreAnswered, none, refused, step}
use Rattle.shared_volume.specs.declared.asking.SharedEvent.{SharedEvent}
use Rattle.shared_volume.specs.declared.asking.SharedOutcome.{SharedOutcome}
use Rattle.volume_cell.specs.declared.history.Call.{Call}
use Rattle.volume_machine.specs.Alone as Own
use Rattle.volume_machine.specs.Alone.{answers_of, idle_lane}
use Rattle.volume_machine.specs.Answers.{Answered, AreTagged}
use Rattle.volume_machine.specs.Deeds.{Act, Deed, client, worker}
use Rattle.volume_machine.specs.Seals.{Seals}
use Rattle.volume_machine.specs.States.{State}
use Rattle.block_server.proofs.PassingLemmas.{at-last}

-- its calls are none of clients
pub own-none : (number : ℕ) (calls : List (Call SharedEvent SharedOutcome))
    (answers : List WorkAnswer) → AreAnswered number calls answers → own_calls calls ≡ []
unfolding own_calls
own-none number _ _ none = refl
own-none number _ _ (step made calls answers are) = own-none number calls answers are
own-none number _ _ (refused calls answers are) = own-none number calls answers are

-- calls that went on are steps
steps-many : (number : ℕ) (calls : List (Call SharedEvent SharedOutcome))
    (answers : List WorkAnswer) → AreAnswered number calls answers → All GoesOn answers
    → length answers ≤ length (works_in calls)
unfolding works_in
steps-many number _ _ none on = omega arith
steps-many number _ _ (step made calls answers are) on =
    let rest = steps-many number calls answers are (All-tail GoesOn _ answers on) in
    omega (arith, rest)
steps-many number _ _ (refused calls answers are) on = absurd (All-head GoesOn _ answers on)

one-work : (act : Act) → length (work_in act) ≤ 1
one-work (client event outcome) = omega arith
one-work (worker worked) = omega arith

works-few : {K : Type 0} (deeds : List (Deed K)) → length (works_over deeds) ≤ length deeds
unfolding works_over
works-few [] = omega arith
works-few (one ∷ rest) =
    let here = one-work one.act in
    let behind = works-few rest in
    let both = length-append (work_in one.act) (works_over rest) in
    omega (arith, here, behind, both)

told-spent : (went : List WorkAnswer) (end : WorkerEnd) → end ≡ Spent
    → Contains (went ++ Ended end ∷ []) (Ended Spent)
told-spent went end spent =
    let long = length-append went (Ended end ∷ []) in (
      length went,
      omega (arith, long),
      at-last went (Ended end) (Ended Spent) ∙ ap (λ (e : WorkerEnd). Ended e) spent,
    )

-- it is spent since the history is full, of fewer entries than it makes calls
pub spent-full : {K : Type 0} (limit number : ℕ) (calls : List (Call SharedEvent SharedOutcome))
    (answers : List WorkAnswer) (end : WorkerEnd) (deeds : List (Deed K)) → end ≡ Spent
    → limit < 2 ^ 63 - 1 → AreAnswered number calls answers → AreAnswers end answers
    → (Contains answers (Ended Spent) → limit ≤ length deeds) → works_over deeds ≡ works_in calls
    → limit ≤ length deeds
spent-full limit number calls _ end deeds spent few are (ended went on below) full works =
    full (told-spent went end spent)
spent-full limit number calls _ end deeds spent few are (exhausted went on many is) full works =
    let steps = steps-many number calls went are on in
    let all = works-few deeds in
    let same = ap (λ l. length l) works in
    omega (arith, few, many, steps, all, same)

-- it is spent or not
pub spent-or-not : (end : WorkerEnd) → (end ≡ Spent) ⊎ (end ≢ Spent)
spent-or-not Finished = inr (λ same. cc)
spent-or-not Device = inr (λ same. cc)
spent-or-not (Clash block digest) = inr (λ same. cc)
spent-or-not (no_fit lack) = inr (λ same. cc)
spent-or-not Broken = inr (λ same. cc)
spent-or-not Spent = inl refl
spent-or-not Memory = inr (λ same. cc)

-- a lane without calls of clients answers nothing
pub none-answered : {K : Type 0} (seals : Seals) (start : State K) (answered : List Answered)
    (calls : List (Call SharedEvent SharedOutcome))
    → answered ≡ answers_of start.map.atom seals idle_lane (own_calls calls) → own_calls calls ≡ []
    → AreTagged answered []
unfolding answers_of AreTagged
none-answered seals start answered calls is empty =
    subst (λ (l : List Answered). AreTagged l [])
    (sym (is ∙ ap (λ (cs : List Own.Call). answers_of start.map.atom seals idle_lane cs) empty)) tt

pub no-calls : own_calls [] ≡ []
unfolding own_calls
no-calls = refl

pub no-works : works_in [] ≡ []
unfolding works_in
no-works = refl
