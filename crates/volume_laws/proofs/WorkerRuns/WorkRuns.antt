-- A worker's run: what holds behind all steps that went on.
use Rattle.std.proofs.Common.{All, List, [], append_assoc, false, inl, inr, map, Bool, arith, refl}
use Rattle.std.proofs.Common.{subst, sym, ℕ, ◌++◌, ◌∙◌, ◌∷◌, ◌≡◌, ◌≢◌, ◌≤◌, ◌⊎◌, true}
use Rattle.std.proofs.lemmas.List.{append-nil}
use Rattle.std.proofs.lemmas.List.Elements.{All-cons, All-head, All-nil, All-tail}
use Rattle.volume_machine.specs.Seals.{Seals}
use Rattle.volume_machine.specs.States.{State}
use Rattle.crash_laws.specs.HeaderAreas.Headers.{Header, Layout}
use Rattle.reenc_worker.specs.Answers.{GoesOn}
use Rattle.reenc_worker.specs.declared.ends.WorkAnswer.{WorkAnswer}
use Rattle.reenc_worker.specs.declared.ends.WorkAnswer.TheVariants.{Waiting}
use Rattle.volume_laws.specs.Converting.{IsInOrder}
use Rattle.volume_laws.proofs.HoldersKept.{atom_kept}
use Rattle.volume_laws.proofs.VolumesKept.{step_in_order}
use Rattle.volume_laws.specs.Faulting.{GoesByAnswer}
use Rattle.volume_laws.proofs.WorkFaults.{goes_by_answer}
use Rattle.volume_machine.specs.Deeds.{AreDeeds, Deed, state_after, worker}
use Rattle.volume_machine.specs.Readings.{Reading}
use Rattle.volume_machine.specs.WorkSteps.{Worked, WorkStep, awaits, faulted, finished, hindered}
use Rattle.volume_machine.specs.WorkSteps.{stepped, was_broken, begins, concludes, ends, ends_zone}
use Rattle.volume_machine.specs.WorkSteps.{faults, is_hindered, is_unfinished, leaves_blocks}
use Rattle.volume_machine.specs.WorkSteps.{leaves_broken, misses_conclusion, misses_part, misses_wipe}
use Rattle.volume_machine.specs.WorkSteps.{opens_zone, queues, stays, steps, takes, wiped, wipes}
use Rattle.volume_machine.specs.Works.{converting, resting}
use Rattle.volume_laws.specs.WorkerRuns.Conversions.{MayConvert}
use Rattle.volume_laws.specs.WorkerRuns.Steps.{told_by}
use Rattle.volume_laws.proofs.WorkerRuns.HeadersKept.{rest_keeps, says_itself}
use Rattle.volume_laws.proofs.WorkerRuns.NoWaits.{queues_never, stays_never}
use Rattle.volume_laws.proofs.WorkerRuns.LanesIdle.{ClientsIdle, work_leaves}
use Rattle.volume_laws.proofs.WorkerRuns.Stages.{Stands, converts}
use Rattle.volume_laws.proofs.WorkerRuns.StageSteps.{GoesOnBy, stands_on}

-- behind some deeds that went on
pub record SoFar {K : Type 0} (reading : Reading) (layout : Layout) (first : Header (List ℕ))
    (old : State K) (deeds : List (Deed K)) (now : State K) : Type 0 where
  pub order : IsInOrder reading now
  pub stands : Stands reading layout first old deeds now
  pub clients : ClientsIdle now
  pub unbroken : (now ≡ old) ⊎ (now.broken ≡ false)
  pub keys : now.keys ≡ old.keys
  pub blocks : now.map.blocks ≡ old.map.blocks
  pub atom : now.map.atom ≡ old.map.atom
  pub later : old.disk.faults ≤ now.disk.faults

pub none_so_far : {K : Type 0} {reading : Reading} {layout : Layout} {first : Header (List ℕ)}
    {old : State K} → MayConvert reading layout first old → SoFar reading layout first old [] old
none_so_far {layout = layout} {first} may = record {
  order = may.order;
  stands = converts (resting layout first converting) may.at_rest refl refl
      (rest_keeps layout first converting says_itself);
  clients = λ lane below. may.idle lane;
  unbroken = inl refl;
  keys = refl;
  blocks = refl;
  atom = refl;
  later = omega arith;
}

-- an answer that goes on is that of a step that goes on
goes_on_by : (worked : Worked) → GoesOn (told_by worked) → GoesOnBy worked
goes_on_by stepped on = tt
goes_on_by (awaits lane) on = tt
goes_on_by finished on = absurd on
goes_on_by faulted on = absurd on
goes_on_by (hindered cause) on = absurd on
goes_on_by was_broken on = absurd on

-- a step that goes on finds no broken volume, and breaks none
going_unbroken : {K : Type 0} {reading : Reading} {seals : Seals} {old new : State K} (worked : Worked)
    → GoesOnBy worked → WorkStep reading seals old new worked → new.broken ≡ false
going_unbroken {old = old} {new = new} worked on step =
    let goes = goes_by_answer _ _ worked step in
    let same : new.broken ≡ old.broken =
    goes.others (λ is. subst GoesOnBy is on) in
    by_old old.broken refl goes same
  where
    by_old : (b : Bool) → old.broken ≡ b → GoesByAnswer old new worked → new.broken ≡ old.broken
        → new.broken ≡ false
    by_old false was goes same = same ∙ was
    by_old true was goes same = absurd (subst GoesOnBy (goes.leaves was).0 on)

-- ---- lists
pub head_same : {A : Type 0} {x y : A} {xs ys : List A} → x ∷ xs ≡ y ∷ ys → x ≡ y
head_same e = cc

pub tail_same : {A : Type 0} {x y : A} {xs ys : List A} → x ∷ xs ≡ y ∷ ys → xs ≡ ys
tail_same e = cc

nil_not_cons : {A : Type 0} {x : A} {xs : List A} → [] ≡ x ∷ xs → ⊥
nil_not_cons e = cc

pub cons_not_nil : {A : Type 0} {x : A} {xs : List A} → x ∷ xs ≡ [] → ⊥
cons_not_nil e = cc

-- Behind all that went on comes one more, the last one.
pub record IsLastOf {K : Type 0} (reading : Reading) (seals : Seals) (layout : Layout)
    (first : Header (List ℕ)) (old : State K) (all : List (Deed K)) (new : State K)
    (answer : WorkAnswer) : Type 0 where
  pub deeds : List (Deed K)
  pub mid : State K
  pub far : SoFar reading layout first old deeds mid
  pub worked : Worked
  pub told : told_by worked ≡ answer
  pub step : WorkStep reading seals mid new worked
  pub one : Deed K
  pub after : one.after ≡ new
  pub parts : all ≡ deeds ++ one ∷ []

-- a worker that is alone never waits
never_waits : {K : Type 0} {reading : Reading} {seals : Seals} {old new : State K} {worked : Worked}
    → IsInOrder reading old → ClientsIdle old → WorkStep reading seals old new worked
    → told_by worked ≢ Waiting
never_waits order clients (takes grant it) = λ e. cc
never_waits order clients (queues lane it) = λ e. queues_never order clients lane it
never_waits order clients (stays lane it) = λ e. stays_never order clients lane it
never_waits order clients (begins it) = λ e. cc
never_waits order clients (steps it) = λ e. cc
never_waits order clients (opens_zone it) = λ e. cc
never_waits order clients (ends_zone it) = λ e. cc
never_waits order clients (leaves_blocks it) = λ e. cc
never_waits order clients (concludes it) = λ e. cc
never_waits order clients (wipes it) = λ e. cc
never_waits order clients (wiped it) = λ e. cc
never_waits order clients (ends it) = λ e. cc
never_waits order clients (misses_part it) = λ e. cc
never_waits order clients (is_hindered cause it) = λ e. cc
never_waits order clients (is_unfinished cause it) = λ e. cc
never_waits order clients (faults it) = λ e. cc
never_waits order clients (misses_conclusion it) = λ e. cc
never_waits order clients (misses_wipe it) = λ e. cc
never_waits order clients (leaves_broken it) = λ e. cc

module _ {K : Type 0} (reading : Reading) (seals : Seals) {layout : Layout}
    {first : Header (List ℕ)} {old : State K} where
  pub one_further : {deeds : List (Deed K)} {mid : State K} (one : Deed K) (worked : Worked)
      → SoFar reading layout first old deeds mid → WorkStep reading seals mid one.after worked
      → GoesOnBy worked → SoFar reading layout first old (deeds ++ one ∷ []) one.after
  one_further {mid = mid} one worked far step on =
      let leaves = work_leaves mid one.after far.order.courses step in record {
        order = step_in_order reading seals mid one.after worked far.order step;
        stands = stands_on far.order far.stands one refl step on;
        clients = leaves.clients far.clients;
        unbroken = inr (going_unbroken worked on step);
        keys = leaves.keys ∙ far.keys;
        blocks = leaves.blocks ∙ far.blocks;
        atom = atom_kept far.order.courses step ∙ far.atom;
        later = (let a = leaves.later in let b = far.later in omega (arith, a, b));
      }

  -- all of them went on
  pub all_further : (deeds rest all : List (Deed K)) (works : List Worked) (mid : State K)
      → all ≡ deeds ++ rest → SoFar reading layout first old deeds mid
      → AreDeeds reading seals mid rest → map (λ deed. deed.act) rest ≡ map worker works
      → All GoesOn (map told_by works) → SoFar reading layout first old all (state_after mid rest)
  unfolding AreDeeds state_after
  all_further deeds [] all works mid is far are acts on =
      subst (λ d. SoFar reading layout first old d mid) (sym (append-nil deeds) ∙ sym is) far
  all_further deeds (one ∷ rest) all [] mid is far are acts on =
      absurd (cons_not_nil acts)
  all_further deeds (one ∷ rest) all (worked ∷ works) mid is far (does, are) acts on =
      let act : one.act ≡ worker worked = head_same acts in
      let acts_left : map (λ deed. deed.act) rest ≡ map worker works = tail_same acts in
      all_further (deeds ++ one ∷ []) rest all works one.after
      (is ∙ sym (append_assoc deeds (one ∷ []) rest))
      (one_further one worked far (rw act at does)
      (goes_on_by worked (All-head GoesOn (told_by worked) (map told_by works) on)))
      are acts_left (All-tail GoesOn (told_by worked) (map told_by works) on)

  pub last_further : (went : List WorkAnswer) (answer : WorkAnswer)
      (deeds rest all : List (Deed K)) (works : List Worked) (mid : State K)
      → all ≡ deeds ++ rest → SoFar reading layout first old deeds mid
      → AreDeeds reading seals mid rest → map (λ deed. deed.act) rest ≡ map worker works
      → map told_by works ≡ went ++ answer ∷ [] → All GoesOn went
      → IsLastOf reading seals layout first old all (state_after mid rest) answer
  unfolding AreDeeds state_after
  last_further [] answer deeds rest all [] mid is far are acts told on =
      absurd (nil_not_cons told)
  last_further [] answer deeds [] all (worked ∷ works) mid is far are acts told on =
      absurd (nil_not_cons acts)
  last_further [] answer deeds (one ∷ []) all (worked ∷ works) mid is far (does, are) acts told on =
      let act : one.act ≡ worker worked = head_same acts in
      let same : told_by worked ≡ answer = head_same told in record {
        deeds = deeds;
        mid = mid;
        far = far;
        worked = worked;
        told = same;
        step = rw act at does;
        one = one;
        after = refl;
        parts = is;
      }
  last_further [] answer deeds (one ∷ more ∷ rest) all (worked ∷ []) mid is far are acts told on =
      absurd (cons_not_nil (tail_same acts))
  last_further [] answer deeds (one ∷ more ∷ rest) all (worked ∷ next ∷ works) mid is far are acts
      told on = absurd (cons_not_nil (tail_same told))
  last_further (had ∷ went) answer deeds rest all [] mid is far are acts told on =
      absurd (nil_not_cons told)
  last_further (had ∷ went) answer deeds [] all (worked ∷ works) mid is far are acts told on =
      absurd (nil_not_cons acts)
  last_further (had ∷ went) answer deeds (one ∷ rest) all (worked ∷ works) mid is far (does, are) acts
      told on =
      let act : one.act ≡ worker worked = head_same acts in
      let acts_left : map (λ deed. deed.act) rest ≡ map worker works = tail_same acts in
      let same : told_by worked ≡ had = head_same told in
      let told_left : map told_by works ≡ went ++ answer ∷ [] = tail_same told in
      last_further went answer (deeds ++ one ∷ []) rest all works one.after
      (is ∙ sym (append_assoc deeds (one ∷ []) rest))
      (one_further one worked far (rw act at does)
      (goes_on_by worked (subst GoesOn (sym same) (All-head GoesOn had went on))))
      are acts_left told_left (All-tail GoesOn had went on)

  -- no call had to wait
  pub none_waited : (went tail : List WorkAnswer) (deeds rest all : List (Deed K))
      (works : List Worked) (mid : State K) → all ≡ deeds ++ rest
      → SoFar reading layout first old deeds mid → AreDeeds reading seals mid rest
      → map (λ deed. deed.act) rest ≡ map worker works → map told_by works ≡ went ++ tail
      → All GoesOn went → All (λ answer. answer ≢ Waiting) went
  unfolding AreDeeds state_after
  none_waited [] tail deeds rest all works mid is far are acts told on =
      All-nil (λ answer. answer ≢ Waiting)
  none_waited (had ∷ went) tail deeds rest all [] mid is far are acts told on =
      absurd (nil_not_cons told)
  none_waited (had ∷ went) tail deeds [] all (worked ∷ works) mid is far are acts told on =
      absurd (nil_not_cons acts)
  none_waited (had ∷ went) tail deeds (one ∷ rest) all (worked ∷ works) mid is far (does, are) acts
      told on =
      let act : one.act ≡ worker worked = head_same acts in
      let acts_left : map (λ deed. deed.act) rest ≡ map worker works = tail_same acts in
      let same : told_by worked ≡ had = head_same told in
      let step : WorkStep reading seals mid one.after worked = rw act at does in
      All-cons (λ answer. answer ≢ Waiting) had went
      (subst (λ answer. answer ≢ Waiting) same (never_waits far.order far.clients step))
      (none_waited went tail (deeds ++ one ∷ []) rest all works one.after
      (is ∙ sym (append_assoc deeds (one ∷ []) rest))
      (one_further one worked far step
      (goes_on_by worked (subst GoesOn (sym same) (All-head GoesOn had went on))))
      are acts_left (tail_same told) (All-tail GoesOn had went on))
