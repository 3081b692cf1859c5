-- Steps of a worker alone: they answer no operation, have nothing in plain, and leave the volume with
-- its work.
use Rattle.std.proofs.Common.{◌≡◌, ◌++◌, ◌∷◌, ◌∙◌, ℕ, List, [], Some, map, ap, refl, subst, sym}
use Rattle.volume_machine.specs.Answers.{AreExchanges}
use Rattle.volume_machine.specs.Deeds.{Act, AreDeeds, Deed, Does, answered_over, plain_over}
use Rattle.volume_machine.specs.Deeds.{state_after, worker}
use Rattle.volume_machine.specs.Edges.{InPlain}
use Rattle.volume_machine.specs.Readings.{Reading}
use Rattle.volume_machine.specs.Seals.{Seals}
use Rattle.volume_machine.specs.States.{State}
use Rattle.volume_machine.specs.WorkSteps.{Worked, WorkStep, begins, concludes, ends, ends_zone, faults}
use Rattle.volume_machine.specs.WorkSteps.{is_hindered, is_unfinished, leaves_blocks, leaves_broken}
use Rattle.volume_machine.specs.WorkSteps.{misses_conclusion, misses_part, misses_wipe, opens_zone}
use Rattle.volume_machine.specs.WorkSteps.{queues, stays, steps, takes, wiped, wipes}
use Rattle.volume_machine.specs.Works.{Work}

-- ---- lists
pub head-same : {A : Type 0} {x y : A} {xs ys : List A} → x ∷ xs ≡ y ∷ ys → x ≡ y
head-same e = cc

pub tail-same : {A : Type 0} {x y : A} {xs ys : List A} → x ∷ xs ≡ y ∷ ys → xs ≡ ys
tail-same e = cc

pub cons-not-nil : {A : Type 0} {x : A} {xs : List A} → x ∷ xs ≡ [] → ⊥
cons-not-nil e = cc

-- deeds that are the worker's
abbrev pub AreWorks : {K : Type 0} → List (Deed K) → Type 0
AreWorks deeds = (works : List Worked) × (map (λ deed. deed.act) deeds ≡ map worker works)

pub works-front : {K : Type 0} (earlier later : List (Deed K)) → AreWorks (earlier ++ later)
    → AreWorks earlier
works-front [] later are = ([], refl)
works-front (one ∷ earlier) later ([], same) = absurd (cons-not-nil same)
works-front (one ∷ earlier) later (w ∷ works, same) =
    let (front, are) = works-front earlier later (works, tail-same same) in
    (w ∷ front, (let first : one.act ≡ worker w = head-same same in cc))

-- ---- what they answer, and have in plain
pub answers-none : {K : Type 0} (seals : Seals) (old : State K) (plain : ℕ → InPlain)
    (deeds : List (Deed K)) → AreWorks deeds → answered_over seals old plain deeds ≡ []
unfolding answered_over
answers-none seals old plain [] are = refl
answers-none seals old plain (one ∷ rest) ([], same) = absurd (cons-not-nil same)
answers-none seals old plain (one ∷ rest) (w ∷ works, same) =
    let first : one.act ≡ worker w = head-same same in
    rw first (answers-none seals one.after plain rest (works, tail-same same))

pub exchanges-none : {K : Type 0} (seals : Seals) (old : State K) (plain : ℕ → InPlain)
    (deeds : List (Deed K)) → AreWorks deeds
    → AreExchanges (answered_over seals old plain deeds) []
unfolding AreExchanges
exchanges-none seals old plain deeds are =
    subst (λ answered. AreExchanges answered []) (sym (answers-none seals old plain deeds are)) tt

pub plain-stays : {K : Type 0} (seals : Seals) (old : State K) (plain : ℕ → InPlain)
    (deeds : List (Deed K)) → AreWorks deeds → plain_over seals old plain deeds ≡ plain
unfolding plain_over
plain-stays seals old plain [] are = refl
plain-stays seals old plain (one ∷ rest) ([], same) = absurd (cons-not-nil same)
plain-stays seals old plain (one ∷ rest) (w ∷ works, same) =
    let first : one.act ≡ worker w = head-same same in
    rw first (plain-stays seals one.after plain rest (works, tail-same same))

-- ---- a front of them
pub deeds-front : {K : Type 0} (reading : Reading) (seals : Seals) (old : State K)
    (earlier later : List (Deed K)) → AreDeeds reading seals old (earlier ++ later)
    → AreDeeds reading seals old earlier
unfolding AreDeeds
deeds-front reading seals old [] later are = tt
deeds-front reading seals old (one ∷ earlier) later (does, are) =
    (does, deeds-front reading seals one.after earlier later are)

-- ---- the work
abbrev pub HasWork : {K : Type 0} → State K → Type 0
HasWork state = (work : Work) × (state.work ≡ Some work)

step-works : {K : Type 0} {reading : Reading} {seals : Seals} {old new : State K} {worked : Worked}
    → WorkStep reading seals old new worked → HasWork new
step-works (takes grant it) = (_, it.admitted.goes.work ∙ it.was)
step-works (queues lane it) = (_, it.admitted.goes.work ∙ it.was)
step-works (stays lane it) = (_, ap (λ s. s.work) it.same ∙ it.was)
step-works (begins it) = (_, it.goes.work)
step-works (steps it) = (_, it.goes.work)
step-works (opens_zone it) = (_, it.goes.work)
step-works (ends_zone it) = (_, it.goes.work)
step-works (leaves_blocks it) = (_, it.frees.work ∙ it.was)
step-works (concludes it) = (_, it.goes.work)
step-works (wipes it) = (_, it.goes.work)
step-works (wiped it) = (_, it.goes.work)
step-works (ends it) = (_, ap (λ s. s.work) it.same ∙ it.was)
step-works (misses_part it) = (_, it.gives_up.frees.work)
step-works (is_hindered cause it) = (_, it.gives_up.frees.work)
step-works (is_unfinished cause it) = (_, ap (λ s. s.work) it.same ∙ it.was)
step-works (faults it) = (_, it.frees.work)
step-works (misses_conclusion it) = (_, it.frees.work)
step-works (misses_wipe it) = (_, it.frees.work ∙ it.was)
step-works (leaves_broken it) = (_, it.frees.work ∙ it.was)

pub works-stay : {K : Type 0} (reading : Reading) (seals : Seals) (old : State K)
    (deeds : List (Deed K)) → HasWork old → AreDeeds reading seals old deeds → AreWorks deeds
    → HasWork (state_after old deeds)
unfolding AreDeeds state_after
works-stay reading seals old [] has are works = has
works-stay reading seals old (one ∷ rest) has are ([], same) = absurd (cons-not-nil same)
works-stay reading seals old (one ∷ rest) has (does, are) (w ∷ works, same) =
    let first : one.act ≡ worker w = head-same same in
    works-stay reading seals one.after rest
    (step-works (subst (λ (act : Act). Does reading seals old act one.after) first does)) are
    (works, tail-same same)
