-- Lemmas on a read across two joined disks.
use Rattle.std.proofs.Common.{◌≡◌, ℕ, ◌+◌, ◌-◌, ◌*◌, ◌<◌, ◌≤◌, ◌||◌, Bool, true, false, List, []}
use Rattle.std.proofs.Common.{◌++◌, length, take, drop, min, Some, Result, Ok, Err, refl, sym, ◌∙◌}
use Rattle.std.proofs.Common.{ap, ap₂, subst, inl, inr, arith}
use Rattle.std.proofs.lemmas.List.{nil_from_length}
use Rattle.std.proofs.Math.Nat.{mul-sub, mul_comm}
use Rattle.base_terms.specs.declared.failed.Failed.{Failed}
use Rattle.base_terms.specs.Causes.{HasCause}
use Rattle.sector_disk.specs.Cells.{Cell}
use Rattle.sector_disk.specs.Devices.{Device, ReadCall, marked}
use Rattle.sector_disk.specs.JoinedDisks.Joined.{Joint, both_tables, joint_told}
use Rattle.sector_disk.specs.JoinedDisks.JoinedCalls.{BothRead}
use Rattle.sector_disk.specs.JoinedDisks.JoinedLaws.{ShowsDisk, both_told}
use Rattle.sector_disk.specs.Steps.{IsKept}
use Rattle.sector_disk.proofs.JoinedDisks.TurnLemmas.{StepIf, Turned, turned, turned_not}
use Rattle.sector_disk.proofs.JoinedDisks.JointLemmas.{BothStep, joint_moves, joint_moves_or_not, moves_by}
use Rattle.sector_disk.proofs.JoinedDisks.JointLemmas.{both_disk, joint_goes_on}
use Rattle.sector_disk.proofs.JoinedDisks.JointCalls.{Joins, Stays, any_turn, not_turn, is_call, cause_left}
use Rattle.sector_disk.proofs.JoinedDisks.JointCalls.{cause_right, stays_alone, values_stay}
use Rattle.sector_disk.proofs.JoinedDisks.AcrossLemmas.{read_both}

-- atoms between two places, in bytes
pub bytes_between : (m n size : ℕ) → (m - n) * size ≡ m * size - n * size
bytes_between m n size =
    mul_comm (m - n) size ∙ mul-sub size m n
    ∙ ap₂ (λ a b. a - b) (mul_comm size m) (mul_comm size n)

pub cut_below : (base at atom len : ℕ) → (base - at) * atom < len
    → (base - at) * atom ≡ min (base * atom - at * atom) len
cut_below base at atom len below =
    let e = bytes_between base at atom in
    rw (← e)
    (let same : (base - at) * atom ≡ min ((base - at) * atom) len = omega (arith, below) in same)

-- where a read or a write of two parts lies
pub record Parts (old : Joint) (at : ℕ) (front back : List ℕ) : Type 0 where
  pub same_size : old.head.size ≡ old.main.size
  pub fits : old.used ≤ old.main.atoms
  pub within : at * old.main.size + length (front ++ back)
      ≤ (old.head.atoms + old.used) * old.main.size
  pub cut : length front
      ≡ min (old.head.atoms * old.main.size - at * old.main.size) (length (front ++ back))

kept_if : (called : Bool) (cells next : List Cell) → StepIf called IsKept cells next → next ≡ cells
kept_if true cells next step = step
kept_if false cells next step = step

kept_step : (of_head of_main : Bool) (old : Joint) (cells next : List Cell)
    → BothStep old of_head of_main IsKept IsKept cells next → IsKept cells next
kept_step of_head of_main old cells next step =
    step.new_is
    ∙ ap₂ (λ a b. both_tables old.used a b)
    (kept_if of_head step.head.now step.next_head step.head_step)
    (kept_if of_main step.main.now step.next_main step.main_step) ∙ sym step.old_is

-- what a part read, where its disk tells its bytes
abbrev pub HasRead : ℕ → ℕ → List ℕ → Device → Type 0
HasRead size at bytes disk =
    (values : List ℕ) → disk.values ≡ Some values
    → bytes ≡ take (length bytes) (drop (at * size) values)

pub read_none : (size at : ℕ) (bytes : List ℕ) (disk : Device) → length bytes ≡ 0
    → HasRead size at bytes disk
read_none size at bytes disk none values is =
    let empty : bytes ≡ [] = nil_from_length bytes none in
    empty ∙ sym (ap (λ n. take n (drop (at * size) values)) none)

pub across : (at : ℕ) (front back : List ℕ) (old : Joint) → ShowsDisk old.head → Parts old at front back
    → HasRead old.main.size at front old.head
    → HasRead old.main.size (at - old.head.atoms) back old.main
    → (bytes : List ℕ) → (both_disk old).values ≡ Some bytes
    → front ++ back ≡ take (length (front ++ back)) (drop (at * old.main.size) bytes)
across at front back old shows parts of_front of_back bytes is =
    let both = both_told _ _ _ bytes is in
    let long : length both.front ≡ old.head.atoms * old.main.size =
    shows.whole both.front both.head_is ∙ ap (λ size. old.head.atoms * size) parts.same_size in
    let whole : (old.head.atoms + old.used) * old.main.size
    ≡ length both.front + old.used * old.main.size =
    grind (arith, long) in
    let behind : at * old.main.size - length both.front ≡ (at - old.head.atoms) * old.main.size =
    ap (λ n. at * old.main.size - n) long ∙ sym (bytes_between at old.head.atoms old.main.size) in
    subst (λ all. front ++ back ≡ take (length (front ++ back)) (drop (at * old.main.size) all))
    (sym both.bytes_are)
    (read_both (old.used * old.main.size) (at * old.main.size) both.front both.back front back
    (of_front both.front both.head_is)
    (of_back both.back both.main_is ∙ ap (λ n. take (length back) (drop n both.back)) (sym behind))
    (omega (arith, parts.within, whole))
    (parts.cut ∙ ap (λ n. min (n - at * old.main.size) (length (front ++ back))) (sym long)))

read_ok : (at : ℕ) (front back : List ℕ) (old new : Joint) → Joins old new → Parts old at front back
    → Stays old.head new.head → Stays old.main new.main
    → (of_head of_main : Bool) → (of_head || of_main) ≡ true
    → Turned old.calls of_head IsKept old.head.told new.head.told
    → Turned old.calls of_main IsKept old.main.told new.main.told
    → HasRead old.main.size at front old.head
    → HasRead old.main.size (at - old.head.atoms) back old.main
    → HasCause {T = Unit {0}} (both_disk old).faults (both_disk new).faults (Ok tt)
    → ReadCall old.main.size at (front ++ back) (both_disk old) (both_disk new) (Ok tt)
read_ok at front back old new joins parts head main of_head of_main any turn_head turn_main of_front
    of_back cause = record {
      size = main.size;
      atoms = ap₂ (λ a b. a + b) head.atoms joins.used;
      tail = main.tail;
      values = values_stay old new joins head main;
      content = across at front back old joins.head parts of_front of_back;
      told = moves_by (BothStep old of_head of_main IsKept IsKept) IsKept (joint_told old)
          (joint_told new)
          (kept_step of_head of_main old)
          (joint_moves of_head of_main IsKept IsKept old new
          (is_call of_head of_main IsKept IsKept old new joins turn_head turn_main) any);
      goes_on = λ before is. inr (joint_goes_on old new before is);
      cause = cause;
    }

read_err : (at : ℕ) (front back : List ℕ) (failed : Failed) (old new : Joint) → Joins old new
    → Stays old.head new.head → Stays old.main new.main
    → (called : Bool) × Turned old.calls called IsKept old.head.told new.head.told
    → (called : Bool) × Turned old.calls called IsKept old.main.told new.main.told
    → HasCause {T = Unit {0}} (both_disk old).faults (both_disk new).faults (Err failed)
    → ReadCall old.main.size at (front ++ back) (both_disk old) (both_disk new) (Err failed)
read_err at front back failed old new joins head main (of_head, turn_head) (of_main, turn_main)
    cause = record {
      size = main.size;
      atoms = ap₂ (λ a b. a + b) head.atoms joins.used;
      tail = main.tail;
      values = values_stay old new joins head main;
      content = λ _ _. tt;
      told = joint_moves_or_not of_head of_main IsKept IsKept IsKept old new
          (kept_step of_head of_main old)
          (is_call of_head of_main IsKept IsKept old new joins turn_head turn_main);
      goes_on = λ before is. inr (joint_goes_on old new before is);
      cause = cause;
    }

read_stays : (size at : ℕ) (bytes : List ℕ) (number : ℕ) (old new : Device)
    (result : Result (Unit {0}) Failed)
    → ReadCall size at bytes (marked old number) new result → Stays old new
read_stays size at bytes number old new result call =
    record { size = call.size; atoms = call.atoms; tail = call.tail; values = call.values }

pub joint_read : (at : ℕ) (front back : List ℕ) (old new : Joint)
    (result : Result (Unit {0}) Failed) → Joins old new
    → Parts old at front back
    → BothRead old.main.size at (at - old.head.atoms) front back old.calls old.head new.head
    old.main new.main result
    → ReadCall old.main.size at (front ++ back) (both_disk old) (both_disk new) result
joint_read at front back old new (Ok tt) joins parts (inl (none, same, call)) =
    read_ok at front back old new joins parts (stays_alone _ _ same) (read_stays _ _ _ _ _ _ _ call)
    false true refl
    (turned_not old.calls IsKept old.head.told new.head.told (ap (λ one. one.told) same))
    (turned old.calls IsKept old.main.told new.main.told call.told)
    (read_none old.main.size at front old.head none) call.content
    (cause_right _ _ _ _ _ call.cause (ap (λ one. one.faults) same))
joint_read at front back old new (Ok tt) joins parts (inr (inl (done, same, call))) =
    read_ok at front back old new joins parts (read_stays _ _ _ _ _ _ _ call) (stays_alone _ _ same)
    true false refl
    (turned old.calls IsKept old.head.told new.head.told call.told)
    (turned_not old.calls IsKept old.main.told new.main.told (ap (λ one. one.told) same))
    call.content (read_none old.main.size (at - old.head.atoms) back old.main (done refl))
    (cause_left _ _ _ _ _ call.cause (ap (λ one. one.faults) same))
joint_read at front back old new (Ok tt) joins parts (inr (inr (first, call))) =
    read_ok at front back old new joins parts (read_stays _ _ _ _ _ _ _ first)
    (read_stays _ _ _ _ _ _ _ call) true true refl
    (turned old.calls IsKept old.head.told new.head.told first.told)
    (turned old.calls IsKept old.main.told new.main.told call.told)
    first.content call.content (cause_right _ _ _ _ _ call.cause (first.cause.held refl))
joint_read at front back old new (Err failed) joins parts (inl (none, same, call)) =
    read_err at front back failed old new joins (stays_alone _ _ same)
    (read_stays _ _ _ _ _ _ _ call)
    (not_turn old.calls IsKept old.head new.head same)
    (any_turn old.calls IsKept old.main.told new.main.told call.told)
    (cause_right _ _ _ _ _ call.cause (ap (λ one. one.faults) same))
joint_read at front back old new (Err failed) joins parts (inr (inl (done, same, call))) =
    read_err at front back failed old new joins (read_stays _ _ _ _ _ _ _ call)
    (stays_alone _ _ same)
    (any_turn old.calls IsKept old.head.told new.head.told call.told)
    (not_turn old.calls IsKept old.main new.main same)
    (cause_left _ _ _ _ _ call.cause (ap (λ one. one.faults) same))
joint_read at front back old new (Err failed) joins parts (inr (inr (first, call))) =
    read_err at front back failed old new joins (read_stays _ _ _ _ _ _ _ first)
    (read_stays _ _ _ _ _ _ _ call)
    (any_turn old.calls IsKept old.head.told new.head.told (inr first.told))
    (any_turn old.calls IsKept old.main.told new.main.told call.told)
    (cause_right _ _ _ _ _ call.cause (first.cause.held refl))

-- the same, by the numbers that the code has
pub read_joined : (at behind atom base cut len : ℕ) (front back : List ℕ) (old new : Joint)
    (result : Result (Unit {0}) Failed)
    → Joins old new → old.main.size ≡ atom → old.head.size ≡ atom → old.head.atoms ≡ base
    → old.used ≤ old.main.atoms
    → at * old.main.size + len ≤ (old.head.atoms + old.used) * old.main.size
    → length front ≡ cut → cut ≡ min (base * atom - at * atom) len → length (front ++ back) ≡ len
    → behind ≡ at - base
    → BothRead old.main.size at behind front back old.calls old.head new.head old.main new.main
    result
    → ReadCall old.main.size at (front ++ back) (both_disk old) (both_disk new) result
read_joined at behind atom base cut len front back old new result joins size head_size base_is fits
    within front_is cut_is long behind_is both =
    joint_read at front back old new result joins
    (record {
      same_size = head_size ∙ sym size;
      fits = fits;
      within = rw long within;
      cut = front_is ∙ cut_is
          ∙ sym (ap₂ (λ b s. min (b * s - at * s) (length (front ++ back))) base_is size
          ∙ ap (λ n. min (base * atom - at * atom) n) long);
    })
    (subst (λ k. BothRead old.main.size at k front back old.calls old.head new.head old.main
    new.main result)
    (behind_is ∙ ap (λ b. at - b) (sym base_is)) both)
