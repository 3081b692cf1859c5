-- Lemmas on a call on two joined disks: it does to them as one what a call does to a disk.
use Rattle.std.proofs.Common.{◌≡◌, ℕ, ◌+◌, ◌-◌, ◌^◌, ◌||◌, Bool, true, false, List, [], map, min}
use Rattle.std.proofs.Common.{Option, Some, None, Result, Ok, Err, refl, sym, ◌∙◌, ap, ap₂, subst}
use Rattle.std.proofs.Common.{◌<◌, ◌≤◌, ◌⊎◌, inl, inr, arith}
use Rattle.std.proofs.lemmas.Bool.{cases_lt}
use Rattle.base_terms.specs.declared.failed.Failed.{Failed}
use Rattle.base_terms.specs.Causes.{HasCause, Rose}
use Rattle.sector_disk.specs.Cells.{Cell, synced, IsThinned, AreHeld}
use Rattle.sector_disk.specs.Devices.{Device, SyncCall, marked}
use Rattle.sector_disk.specs.JoinedDisks.Joined.{Joint, Follows, both_faults, both_tables, joint_told}
use Rattle.sector_disk.specs.JoinedDisks.JoinedCalls.{BothSynced}
use Rattle.sector_disk.specs.JoinedDisks.JoinedLaws.{ShowsDisk}
use Rattle.sector_disk.specs.Steps.{Told, remarked, IsMoved, MovesOrNot}
use Rattle.sector_disk.proofs.JoinedDisks.TurnLemmas.{StepIf, Turned, under, turned, turned_or_not, turned_not}
use Rattle.sector_disk.proofs.JoinedDisks.JointLemmas.{BothStep, IsJointCall, joint_moves, joint_moves_or_not}
use Rattle.sector_disk.proofs.JoinedDisks.JointLemmas.{both_disk, moves_by, joint_goes_on}
use Rattle.sector_disk.proofs.JoinedDisks.SplitLemmas.{synced_both, thinned_not, thinned_all, thinned_both}

-- two disks between two joint calls, and after one
pub record Joins (old new : Joint) : Type 0 where
  pub head_was : new.head_was ≡ old.head_was
  pub main_was : new.main_was ≡ old.main_was
  pub used : new.used ≡ old.used
  pub calls : new.calls ≡ min (old.calls + 1) (2 ^ 64 - 1)
  pub head_follows : Follows old.calls old.head_was.told old.head.told
  pub main_follows : Follows old.calls old.main_was.told old.main.told
  pub head : ShowsDisk old.head
  pub main : ShowsDisk old.main

-- a call that may have failed turns a disk's tables or leaves them
pub any_turn : (number : ℕ) (Step : List Cell → List Cell → Type 0) (old new : Option Told)
    → MovesOrNot Step (under number old) new → (called : Bool) × Turned number called Step old new
any_turn number Step old new moves =
    elim (turned_or_not number Step old new moves)
    [ inl turn ↦ (true, turn) | inr turn ↦ (false, turn) ]

pub not_turn : (number : ℕ) (Step : List Cell → List Cell → Type 0) (old new : Device) → new ≡ old
    → (called : Bool) × Turned number called Step old.told new.told
not_turn number Step old new same =
    (false, turned_not number Step old.told new.told (ap (λ one. one.told) same))

pub is_call : (of_head of_main : Bool) (Head Main : List Cell → List Cell → Type 0)
    (old new : Joint) → Joins old new
    → Turned old.calls of_head Head old.head.told new.head.told
    → Turned old.calls of_main Main old.main.told new.main.told
    → IsJointCall of_head of_main Head Main old new
is_call of_head of_main Head Main old new joins head main = record {
  head_was = joins.head_was;
  main_was = joins.main_was;
  used = joins.used;
  calls = joins.calls;
  head = head;
  main = main;
  head_follows = joins.head_follows;
  main_follows = joins.main_follows;
}

-- where one more of both failed their count rose, or stands at its last value
rose_both : (head main head' main' : ℕ) → head + main < head' + main'
    → Rose (both_faults head main) (both_faults head' main')
rose_both head main head' main' more = by (cases_lt (head + main) (2 ^ 64 - 1))
  where
    by : (head + main < 2 ^ 64 - 1) ⊎ (2 ^ 64 - 1 ≤ head + main)
        → Rose (both_faults head main) (both_faults head' main')
    by (inl low) = inl (omega (arith, more, low))
    by (inr full) = inr (omega (arith, more, full))

-- causes of both
pub cause_left : {T : Type 0} (head head' main main' : ℕ) (result : Result T Failed)
    → HasCause head head' result → main' ≡ main
    → HasCause (both_faults head main) (both_faults head' main') result
cause_left head head' main main' result cause same = record {
  later = omega (arith, cause.later, same);
  failed = λ is. rose_left (cause.failed is);
  held = λ is. ap₂ (λ a b. both_faults a b) (cause.held is) same;
}
  where
    rose_left : Rose head head' → Rose (both_faults head main) (both_faults head' main')
    rose_left (inl more) = rose_both head main head' main' (omega (arith, more, same))
    rose_left (inr most) = inr (omega (arith, most))

pub cause_right : {T : Type 0} (head head' main main' : ℕ) (result : Result T Failed)
    → HasCause main main' result → head' ≡ head
    → HasCause (both_faults head main) (both_faults head' main') result
cause_right head head' main main' result cause same = record {
  later = omega (arith, cause.later, same);
  failed = λ is. rose_right (cause.failed is);
  held = λ is. ap₂ (λ a b. both_faults a b) same (cause.held is);
}
  where
    rose_right : Rose main main' → Rose (both_faults head main) (both_faults head' main')
    rose_right (inl more) = rose_both head main head' main' (omega (arith, more, same))
    rose_right (inr most) = inr (omega (arith, most))

-- a disk of which the sizes and the bytes stayed
pub record Stays (old new : Device) : Type 0 where
  pub size : new.size ≡ old.size
  pub atoms : new.atoms ≡ old.atoms
  pub tail : new.tail ≡ old.tail
  pub values : new.values ≡ old.values

pub stays_alone : (old new : Device) → new ≡ old → Stays old new
stays_alone old new same = record {
  size = ap (λ one. one.size) same;
  atoms = ap (λ one. one.atoms) same;
  tail = ap (λ one. one.tail) same;
  values = ap (λ one. one.values) same;
}

-- a sync of both
sync_stays : (number : ℕ) (old new : Device) (result : Result (Unit {0}) Failed)
    → SyncCall (marked old number) new result → Stays old new
sync_stays number old new result call =
    record { size = call.size; atoms = call.atoms; tail = call.tail; values = call.values }

abbrev Synced : List Cell → List Cell → Type 0
Synced cells next = next ≡ map synced cells

pub values_stay : (old new : Joint) → Joins old new → Stays old.head new.head
    → Stays old.main new.main
    → (both_disk new).values ≡ (both_disk old).values
values_stay old new joins head main = rw (head.values, main.values, joins.used, main.size) refl

-- both tables synced, and a head without atoms with a main disk that was
synced_step : (old : Joint) (cells next : List Cell)
    → BothStep old true true Synced Synced cells next → Synced cells next
synced_step old cells next step =
    step.new_is ∙ ap₂ (λ a b. both_tables old.used a b) step.head_step step.main_step
    ∙ synced_both old.used step.head.now step.main.now
    ∙ ap (λ all. map synced all) (sym step.old_is)

alone_step : (old : Joint) (told : Told) → old.head.told ≡ Some told → told.now ≡ []
    → (cells next : List Cell)
    → BothStep old false true Synced Synced cells next → Synced cells next
alone_step old told is none cells next step =
    let same : told ≡ step.head =
    (let e : Some told ≡ Some step.head = sym is ∙ step.head_is in cc) in
    let empty : step.head.now ≡ [] = ap (λ one. one.now) (sym same) ∙ none in
    step.new_is ∙ ap₂ (λ a b. both_tables old.used a b) (step.head_step ∙ empty) step.main_step
    ∙ synced_both old.used [] step.main.now
    ∙ ap (λ all. map synced all)
    (ap (λ a. both_tables old.used a step.main.now) (sym empty) ∙ sym step.old_is)

sync_ok : (old new : Joint) → Joins old new → Stays old.head new.head → Stays old.main new.main
    → (of_head of_main : Bool) → (of_head || of_main) ≡ true
    → Turned old.calls of_head Synced old.head.told new.head.told
    → Turned old.calls of_main Synced old.main.told new.main.told
    → ((cells next : List Cell) → BothStep old of_head of_main Synced Synced cells next
    → Synced cells next)
    → HasCause {T = Unit {0}} (both_disk old).faults (both_disk new).faults (Ok tt)
    → SyncCall (both_disk old) (both_disk new) (Ok tt)
sync_ok old new joins head main of_head of_main any turn_head turn_main step cause = record {
  size = main.size;
  atoms = ap₂ (λ a b. a + b) head.atoms joins.used;
  tail = main.tail;
  values = values_stay old new joins head main;
  told = moves_by (BothStep old of_head of_main Synced Synced) Synced (joint_told old)
      (joint_told new) step
      (joint_moves of_head of_main Synced Synced old new
      (is_call of_head of_main Synced Synced old new joins turn_head turn_main) any);
  goes_on = λ before is. inr (joint_goes_on old new before is);
  cause = cause;
}

-- a failed sync thins both
thinned_if : (called : Bool) (cells next : List Cell) → StepIf called IsThinned cells next
    → IsThinned cells next
thinned_if true cells next step = step
thinned_if false cells next step = rw step (thinned_not cells)

thinned_step : (of_head of_main : Bool) (old : Joint) (cells next : List Cell)
    → BothStep old of_head of_main IsThinned IsThinned cells next → IsThinned cells next
thinned_step of_head of_main old cells next step =
    rw (step.old_is, step.new_is)
    (thinned_both old.used step.head.now step.main.now step.next_head step.next_main
    (thinned_if of_head step.head.now step.next_head step.head_step)
    (thinned_if of_main step.main.now step.next_main step.main_step))

sync_err : (failed : Failed) (old new : Joint) → Joins old new → Stays old.head new.head
    → Stays old.main new.main
    → (called : Bool) × Turned old.calls called IsThinned old.head.told new.head.told
    → (called : Bool) × Turned old.calls called IsThinned old.main.told new.main.told
    → HasCause {T = Unit {0}} (both_disk old).faults (both_disk new).faults (Err failed)
    → SyncCall (both_disk old) (both_disk new) (Err failed)
sync_err failed old new joins head main (of_head, turn_head) (of_main, turn_main) cause = record {
  size = main.size;
  atoms = ap₂ (λ a b. a + b) head.atoms joins.used;
  tail = main.tail;
  values = values_stay old new joins head main;
  told = joint_moves_or_not of_head of_main IsThinned IsThinned IsThinned old new
      (thinned_step of_head of_main old)
      (is_call of_head of_main IsThinned IsThinned old new joins turn_head turn_main);
  goes_on = λ before is. inr (joint_goes_on old new before is);
  cause = cause;
}

held_under : (number : ℕ) (old : Device) → ShowsDisk old → (told : Option Told) (before : Told)
    → told ≡ old.told
    → under number told ≡ Some before → AreHeld before.now
held_under number old shows None before same was = absurd (cc)
held_under number old shows (Some told) before same was =
    let e : record told { mark = remarked told.mark number } ≡ before = cc in
    subst (λ one. AreHeld one.now) e (shows.held told (sym same))

-- a sync of a disk that was done thins it too
thinned_by_sync : (number : ℕ) (old new : Device) → ShowsDisk old
    → SyncCall (marked old number) new (Ok tt)
    → MovesOrNot IsThinned (under number old.told) new.told
thinned_by_sync number old new shows call = inr (λ now is. thins (call.told now is))
  where
    thins : {now : Told}
        → (before : Told) × (under number old.told ≡ Some before) × IsMoved Synced before now
        → (before : Told) × (under number old.told ≡ Some before) × IsMoved IsThinned before now
    thins {now} (before, was, moved) = (
      before,
      was,
      record {
        step =
            rw moved.step
            (thinned_all before.now (held_under number old shows old.told before refl was));
        one = moved.one;
      },
    )

pub joint_sync : (old new : Joint) (result : Result (Unit {0}) Failed) (Alone : Type 0)
    → Joins old new
    → (Alone → (told : Told) × (old.head.told ≡ Some told) × (told.now ≡ []))
    → BothSynced Alone old.calls old.head new.head old.main new.main result
    → SyncCall (both_disk old) (both_disk new) result
joint_sync old new (Ok tt) Alone joins alone (inl (is_alone, same, call)) =
    let (told, is, none) = alone is_alone in
    sync_ok old new joins (stays_alone _ _ same) (sync_stays _ _ _ _ call) false true refl
    (turned_not old.calls Synced old.head.told new.head.told (ap (λ one. one.told) same))
    (turned old.calls Synced old.main.told new.main.told call.told)
    (alone_step old told is none) (cause_right _ _ _ _ _ call.cause (ap (λ one. one.faults) same))
joint_sync old new (Ok tt) Alone joins alone (inr (inl (done, same, call))) = absurd (done refl)
joint_sync old new (Ok tt) Alone joins alone (inr (inr (first, call))) =
    sync_ok old new joins (sync_stays _ _ _ _ first) (sync_stays _ _ _ _ call) true true refl
    (turned old.calls Synced old.head.told new.head.told first.told)
    (turned old.calls Synced old.main.told new.main.told call.told)
    (synced_step old) (cause_right _ _ _ _ _ call.cause (first.cause.held refl))
joint_sync old new (Err failed) Alone joins alone (inl (is_alone, same, call)) =
    sync_err failed old new joins (stays_alone _ _ same) (sync_stays _ _ _ _ call)
    (not_turn old.calls IsThinned old.head new.head same)
    (any_turn old.calls IsThinned old.main.told new.main.told call.told)
    (cause_right _ _ _ _ _ call.cause (ap (λ one. one.faults) same))
joint_sync old new (Err failed) Alone joins alone (inr (inl (done, same, call))) =
    sync_err failed old new joins (sync_stays _ _ _ _ call) (stays_alone _ _ same)
    (any_turn old.calls IsThinned old.head.told new.head.told call.told)
    (not_turn old.calls IsThinned old.main new.main same)
    (cause_left _ _ _ _ _ call.cause (ap (λ one. one.faults) same))
joint_sync old new (Err failed) Alone joins alone (inr (inr (first, call))) =
    sync_err failed old new joins (sync_stays _ _ _ _ first) (sync_stays _ _ _ _ call)
    (any_turn old.calls IsThinned old.head.told new.head.told
    (thinned_by_sync old.calls old.head new.head joins.head first))
    (any_turn old.calls IsThinned old.main.told new.main.told call.told)
    (cause_right _ _ _ _ _ call.cause (first.cause.held refl))
