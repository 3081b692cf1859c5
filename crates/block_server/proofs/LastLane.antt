-- The last lane, which is the conversion's own: what deeds leave of it.
use Rattle.std.proofs.Common.{◌≡◌, ℕ, zero, suc, ◌≤◌, List, [], ◌∷◌, ◌++◌, Option, Some, None, length}
use Rattle.std.proofs.Common.{refl, sym, ◌∙◌, ap, subst, arith}
use Rattle.volume_laws.specs.BesideLanes.Lanes.{work_in, works_over}
use Rattle.reenc_worker.specs.declared.ends.WorkAnswer.TheVariants.{Stepped, Waiting, Ended}
use Rattle.reenc_worker.specs.declared.ends.WorkerEnd.{WorkerEnd}
use Rattle.shared_volume.specs.Serving.{IsLastWork}
use Rattle.volume_laws.proofs.HoldersKept.{count_kept}
use Rattle.volume_machine.proofs.EventEffects.{event_effects}
use Rattle.volume_machine.specs.Deeds.{Act, AreDeeds, Deed, Does, client, state_after, worker}
use Rattle.volume_machine.specs.Readings.{Reading}
use Rattle.volume_machine.specs.Seals.{Seals}
use Rattle.volume_machine.specs.States.{State, open_at}
use Rattle.volume_machine.specs.WorkSteps.{Frees, WorkStep, Worked, begins}
use Rattle.volume_machine.specs.WorkSteps.{concludes, ends, ends_zone, faults, is_hindered}
use Rattle.volume_machine.specs.WorkSteps.{is_unfinished, leaves_blocks, leaves_broken}
use Rattle.volume_machine.specs.WorkSteps.{misses_conclusion, misses_part, misses_wipe, opens_zone}
use Rattle.volume_machine.specs.WorkSteps.{queues, stays, steps, takes, wiped, wipes}
use Rattle.volume_machine.specs.Works.{Work}
use Rattle.volume_machine.specs.declared.open.Open.{Open}
use Rattle.volume_laws.specs.WorkerRuns.Steps.{told_by}

-- ---- a step that ends the worker leaves the lane without an operation
stepped-on : (end : WorkerEnd) → Stepped ≡ Ended end → ⊥
stepped-on end same = cc

waited-on : (end : WorkerEnd) → Waiting ≡ Ended end → ⊥
waited-on end same = cc

module _ {K : Type 0} {old new : State K} (lane : ℕ) (last : suc lane ≡ length old.lanes) where
  freed : {broken : _} {next : Option Work} → Frees old new broken next
      → open_at new.lanes lane ≡ None
  freed frees =
      let its = frees.last in
      let same : frees.lane ≡ lane = omega (arith, its, last) in
      subst (λ (k : ℕ). open_at new.lanes k ≡ None) same frees.lanes.own

  stays-free : (own : ℕ) → suc own ≡ length old.lanes → open_at old.lanes own ≡ None → new ≡ old
      → open_at new.lanes lane ≡ None
  stays-free own its free same =
      let is : own ≡ lane = omega (arith, its, last) in
      ap (λ (s : State K). open_at s.lanes lane) same
      ∙ subst (λ (k : ℕ). open_at old.lanes k ≡ None) is free

  ends-free : {reading : Reading} {seals : Seals} {worked : Worked}
      → WorkStep reading seals old new worked → (end : WorkerEnd) → told_by worked ≡ Ended end
      → open_at new.lanes lane ≡ None
  ends-free (takes grant it) end told = absurd (stepped-on end told)
  ends-free (queues other it) end told = absurd (waited-on end told)
  ends-free (stays other it) end told = absurd (waited-on end told)
  ends-free (begins it) end told = absurd (stepped-on end told)
  ends-free (steps it) end told = absurd (stepped-on end told)
  ends-free (opens_zone it) end told = absurd (stepped-on end told)
  ends-free (ends_zone it) end told = absurd (stepped-on end told)
  ends-free (leaves_blocks it) end told = absurd (stepped-on end told)
  ends-free (concludes it) end told = absurd (stepped-on end told)
  ends-free (wipes it) end told = absurd (stepped-on end told)
  ends-free (wiped it) end told = absurd (stepped-on end told)
  ends-free (ends it) end told = stays-free it.lane it.last it.free it.same
  ends-free (misses_part it) end told = freed it.gives_up.frees
  ends-free (is_hindered cause it) end told = freed it.gives_up.frees
  ends-free (is_unfinished cause it) end told = stays-free it.lane it.last it.free it.same
  ends-free (faults it) end told = freed it.frees
  ends-free (misses_conclusion it) end told = freed it.frees
  ends-free (misses_wipe it) end told = freed it.frees
  ends-free (leaves_broken it) end told = freed it.frees

-- ---- deeds, one after the other
nil-parts : {A : Type 0} (xs ys : List A) → xs ++ ys ≡ [] → (xs ≡ []) × (ys ≡ [])
nil-parts [] ys none = (refl, none)
nil-parts (x ∷ xs) ys none = absurd (cc)

module _ {K : Type 0} (reading : Reading) (seals : Seals) where
  count-act : (old : State K) (act : Act) (new : State K) → Does reading seals old act new
      → length new.lanes ≡ length old.lanes
  count-act old (client event outcome) new (meets, step) =
      (event_effects old new event outcome step).lane_is.count
  count-act old (worker worked) new step = count_kept step

  left-act : (lane : ℕ) (old : State K) (act : Act) (new : State K) → suc lane ≡ length old.lanes
      → Does reading seals old act new → work_in act ≡ []
      → open_at new.lanes lane ≡ open_at old.lanes lane
  left-act lane old (client event outcome) new last (meets, step) none =
      let is_client = meets.client in
      (event_effects old new event outcome step).lane_is.others lane
      (λ same. omega (arith, same, is_client, last))
  left-act lane old (worker worked) new last step none = absurd (cc)

  count-kept : (old : State K) (deeds : List (Deed K)) → AreDeeds reading seals old deeds
      → length (state_after old deeds).lanes ≡ length old.lanes
  unfolding AreDeeds state_after
  count-kept old [] are = refl
  count-kept old (one ∷ rest) (does, are) =
      count-kept one.after rest are ∙ count-act old one.act one.after does

  -- clients' events leave the last lane as it is
  pub clients-leave : (lane : ℕ) (old : State K) (deeds : List (Deed K))
      → suc lane ≡ length old.lanes → AreDeeds reading seals old deeds → works_over deeds ≡ []
      → open_at (state_after old deeds).lanes lane ≡ open_at old.lanes lane
  unfolding AreDeeds state_after works_over
  clients-leave lane old [] last are none = refl
  clients-leave lane old (one ∷ rest) last (does, are) none =
      let parts = nil-parts (work_in one.act) (works_over rest) none in
      clients-leave lane one.after rest (last ∙ sym (count-act old one.act one.after does)) are parts.1
      ∙ left-act lane old one.act one.after last does parts.0

  are-behind : (old : State K) (xs ys : List (Deed K)) → AreDeeds reading seals old (xs ++ ys)
      → AreDeeds reading seals old xs × AreDeeds reading seals (state_after old xs) ys
  unfolding AreDeeds state_after
  are-behind old [] ys are = (tt, are)
  are-behind old (x ∷ xs) ys (does, are) =
      let rest = are-behind x.after xs ys are in ((does, rest.0), rest.1)

  after-both : (old : State K) (xs ys : List (Deed K))
      → state_after old (xs ++ ys) ≡ state_after (state_after old xs) ys
  unfolding state_after
  after-both old [] ys = refl
  after-both old (x ∷ xs) ys = after-both x.after xs ys

  after-first : (old : State K) (one : Deed K) (rest : List (Deed K))
      → state_after old (one ∷ rest) ≡ state_after one.after rest
  unfolding state_after
  after-first old one rest = refl

  first-does : (old : State K) (one : Deed K) (rest : List (Deed K))
      → AreDeeds reading seals old (one ∷ rest)
      → Does reading seals old one.act one.after × AreDeeds reading seals one.after rest
  unfolding AreDeeds
  first-does old one rest are = are

  -- behind the step that ended the worker no operation is under way on the last lane
  pub last-free : (lane : ℕ) (start : State K) (deeds : List (Deed K)) (last : Worked)
      (end : WorkerEnd) → suc lane ≡ length start.lanes → AreDeeds reading seals start deeds
      → IsLastWork deeds last → told_by last ≡ Ended end
      → open_at (state_after start deeds).lanes lane ≡ None
  last-free lane start deeds last end is_last are found told =
      let parts = are-behind start found.earlier (found.one ∷ found.later)
      (subst (λ (l : List (Deed K)). AreDeeds reading seals start l) found.parts are) in
      let middle = state_after start found.earlier in
      let own : suc lane ≡ length middle.lanes =
      is_last ∙ sym (count-kept start found.earlier parts.0) in
      let does = first-does middle found.one found.later parts.1 in
      let step : WorkStep reading seals middle found.one.after last =
      subst (λ (act : Act). Does reading seals middle act found.one.after) found.act does.0 in
      ap (λ (l : List (Deed K)). open_at (state_after start l).lanes lane) found.parts
      ∙ (ap (λ (s : State K). open_at s.lanes lane)
      (after-both start found.earlier (found.one ∷ found.later)
      ∙ after-first middle found.one found.later)
      ∙ (clients-leave lane found.one.after found.later
      (own ∙ sym (count-act middle found.one.act found.one.after does.0)) does.1 found.rests
      ∙ ends-free lane own step end told))

-- there is no lane behind the last one
pub none-beyond : (lanes : List (Option Open)) (lane : ℕ) → length lanes ≤ lane
    → open_at lanes lane ≡ None
none-beyond [] lane beyond = refl
none-beyond (x ∷ xs) zero beyond = absurd (omega (arith, beyond))
none-beyond (x ∷ xs) (suc lane) beyond = none-beyond xs lane (omega (arith, beyond))

pub no-open : (found : Option Open) (o : Open) → found ≡ None → found ≡ Some o → ⊥
no-open found o none is = absurd (let same = sym none ∙ is in cc)
