-- Lemmas on what a call on one of two joined disks, or on both, does to what they tell as one.
use Rattle.std.proofs.Common.{◌≡◌, ℕ, suc, ◌+◌, ◌-◌, ◌^◌, ◌<◌, ◌||◌, Bool, true, false}
use Rattle.std.proofs.Common.{if◌then◌else◌, List, [], ◌∷◌, ◌++◌, take, min, Option, Some, None}
use Rattle.std.proofs.Common.{refl, sym, ◌∙◌, ap, ap₂, subst, inl, inr, arith}
use Rattle.std.proofs.lemmas.List.{append-nil}
use Rattle.std.proofs.lemmas.Bool.{lt-ltb, ne_eqb}
use Rattle.sector_disk.specs.Cells.{Cell}
use Rattle.sector_disk.specs.Devices.{Device}
use Rattle.sector_disk.specs.JoinedDisks.Joined.{Joint, Follows, begun_joint, used_atoms, both_tables}
use Rattle.sector_disk.specs.JoinedDisks.Joined.{tables_of_both, told_by_both, with_marks, told_of, joint_told}
use Rattle.sector_disk.specs.JoinedDisks.Joined.{joined_disk, joined_telling, last_call, shown_told}
use Rattle.sector_disk.specs.JoinedDisks.Joined.{told_by_main}
use Rattle.sector_disk.specs.JoinedDisks.JoinedLaws.{tells_of, told_below, told_of_marked}
use Rattle.sector_disk.specs.Steps.{Told, Moves, MovesOrNot}
use Rattle.sector_disk.proofs.JoinedDisks.TurnLemmas.{StepIf, Turned, Keeps, new_call, keeps_of, older_tables}
use Rattle.sector_disk.proofs.JoinedDisks.TurnLemmas.{own_call}

-- a disk of two that tells the tables of both, as one with a head of atoms does
abbrev pub both_disk : Joint → Device
both_disk joint = joined_telling joint (joint_told joint)

pub shown_both : (joint : Joint) → 0 < joint.head.atoms → shown_told joint ≡ joint_told joint
shown_both joint some =
    ap (λ empty. if empty then told_by_main joint.used joint.head.values joint.main.told
    else joint_told joint) (ne_eqb joint.head.atoms 0 (λ is. omega (arith, is, some)))

pub as_joined : (Call : Device → Device → Type 0) (old new : Joint) → 0 < old.head.atoms
    → new.head.atoms ≡ old.head.atoms
    → Call (both_disk old) (both_disk new) → Call (joined_disk old) (joined_disk new)
as_joined Call old new some same call =
    subst (λ tells. Call (joined_telling old tells) (joined_disk new)) (sym (shown_both old some))
    (subst (λ tells. Call (both_disk old) (joined_telling new tells))
    (sym (shown_both new (omega (arith, same, some)))) call)

-- both disks' tables moved, each by its step where it was called
pub record BothStep (old : Joint) (of_head of_main : Bool)
    (Head Main : List Cell → List Cell → Type 0)
    (cells next : List Cell) : Type 0 where
  pub head : Told
  pub main : Told
  pub head_is : old.head.told ≡ Some head
  pub main_is : old.main.told ≡ Some main
  pub next_head : List Cell
  pub next_main : List Cell
  pub old_is : cells ≡ both_tables old.used head.now main.now
  pub new_is : next ≡ both_tables old.used next_head next_main
  pub head_step : StepIf of_head Head head.now next_head
  pub main_step : StepIf of_main Main main.now next_main

-- one more call that a disk made adds its table, and one that neither made adds none
tables_on : (used number : ℕ) (of_head of_main : Bool) (Head Main : List Cell → List Cell → Type 0)
    (first_head head head' first_main main main' : Told)
    → Keeps number first_head head → head'.past ≡ head.past ++ new_call of_head number head'.now
    → StepIf of_head Head head.now head'.now
    → Keeps number first_main main → main'.past ≡ main.past ++ new_call of_main number main'.now
    → StepIf of_main Main main.now main'.now
    → tables_of_both used first_head head' first_main main' (number + 1)
    ≡ tables_of_both used first_head head first_main main number
    ++ (if of_head || of_main then (None, both_tables used head'.now main'.now) ∷ [] else [])
unfolding tables_of_both
tables_on used number of_head of_main Head Main first_head head head' first_main main main' a b c d
    e f =
    let next : number + 1 ≡ suc number = omega arith in
    let (has_h, table_h) = own_call number of_head Head first_head head head' a b c in
    let (has_m, table_m) = own_call number of_main Main first_main main main' d e f in
    ap (λ n. tables_of_both used first_head head' first_main main' n) next
    ∙ ap₂ (λ xs ys. xs ++ ys)
    (older_tables used number of_head of_main first_head head head' first_main main main' number
    (omega arith) a.front b d.front e)
    (rw (has_h, table_h, has_m, table_m) refl)

-- the two disks of a joint call, and what is kept between its calls
pub record IsJointCall (of_head of_main : Bool) (Head Main : List Cell → List Cell → Type 0)
    (old new : Joint) : Type 0 where
  pub head_was : new.head_was ≡ old.head_was
  pub main_was : new.main_was ≡ old.main_was
  pub used : new.used ≡ old.used
  pub calls : new.calls ≡ min (old.calls + 1) (2 ^ 64 - 1)
  pub head : Turned old.calls of_head Head old.head.told new.head.told
  pub main : Turned old.calls of_main Main old.main.told new.main.told
  pub head_follows : Follows old.calls old.head_was.told old.head.told
  pub main_follows : Follows old.calls old.main_was.told old.main.told

-- what was told before the call, and how what is told after it came of that
record JointTurn (of_head of_main : Bool) (Head Main : List Cell → List Cell → Type 0)
    (old new : Joint) (now : Told) : Type 0 where
  before : Told
  was : joint_told old ≡ Some before
  step : BothStep old of_head of_main Head Main before.now now.now
  past : now.past ≡ before.past ++ (if of_head || of_main then (None, now.now) ∷ [] else [])
  unmarked : before.mark ≡ None
  none : now.mark ≡ None

tells_joint : (joint : Joint) (first_head head first_main main : Told) → joint.calls < last_call
    → joint.head_was.told ≡ Some first_head → with_marks joint.head.told ≡ Some head
    → joint.main_was.told ≡ Some first_main → with_marks joint.main.told ≡ Some main
    → joint_told joint ≡ Some (told_by_both joint.used joint.calls first_head head first_main main)
tells_joint joint first_head head first_main main below a b c d =
    ap (λ its. if its then told_of joint.used joint.calls joint.head_was.told
    (with_marks joint.head.told)
    joint.main_was.told (with_marks joint.main.told) else None) (lt-ltb joint.calls last_call below)
    ∙ rw (a, b, c, d) refl

-- disks that were just joined tell what they hold, and no call
pub begun_tells : (head main : Device) (front told : Told) → with_marks head.told ≡ Some front
    → with_marks main.told ≡ Some told
    → joint_told (begun_joint head main)
    ≡ Some (record {
      now = front.now ++ take (used_atoms main.size head.atoms main.atoms) told.now;
      past =
          [];
      mark = None;
    })
unfolding tables_of_both
begun_tells head main front told of_head of_main =
    tells_joint (begun_joint head main) front front told told (omega arith)
    (told_of_marked head.told front of_head) of_head (told_of_marked main.told told of_main) of_main

joint_turn : (of_head of_main : Bool) (Head Main : List Cell → List Cell → Type 0) (old new : Joint)
    (now : Told)
    → IsJointCall of_head of_main Head Main old new → joint_told new ≡ Some now
    → JointTurn of_head of_main Head Main old new now
joint_turn of_head of_main Head Main old new now call is =
    let tells = tells_of new now is in
    let below = told_below new now is in
    let next : new.calls ≡ old.calls + 1 = omega (arith, call.calls, below) in
    let under : old.calls < last_call = omega (arith, next, below) in
    let head = call.head tells.now_head tells.head_is in
    let main = call.main tells.now_main tells.main_is in
    let head_was = ap (λ device. device.told) (sym call.head_was) ∙ tells.head_was_is in
    let main_was = ap (λ device. device.told) (sym call.main_was) ∙ tells.main_was_is in
    let keeps_head =
    keeps_of old.calls old.head_was.told old.head.told tells.first_head head.before
    call.head_follows under head_was head.was in
    let keeps_main =
    keeps_of old.calls old.main_was.told old.main.told tells.first_main main.before
    call.main_follows under main_was main.was in
    let before =
    told_by_both old.used old.calls tells.first_head head.before tells.first_main main.before in
    record {
      before = before;
      was = tells_joint old tells.first_head head.before tells.first_main main.before under head_was
          head.was main_was main.was;
      step = record {
        head = head.before;
        main = main.before;
        head_is = told_of_marked _ _ head.was;
        main_is = told_of_marked _ _ main.was;
        next_head = tells.now_head.now;
        next_main = tells.now_main.now;
        old_is = refl;
        new_is =
            ap (λ told. told.now) tells.told_is
            ∙ ap (λ used. both_tables used tells.now_head.now tells.now_main.now) call.used;
        head_step = head.step;
        main_step = main.step;
      };
      past = ap (λ told. told.past) tells.told_is
          ∙ ap₂ (λ used n. tables_of_both used tells.first_head tells.now_head tells.first_main
          tells.now_main n) call.used next
          ∙ tables_on old.used old.calls of_head of_main Head Main tells.first_head head.before
          tells.now_head
          tells.first_main main.before tells.now_main keeps_head head.past head.step keeps_main
          main.past main.step
          ∙ ap (λ cells. before.past ++ (if of_head || of_main then (None, cells) ∷ [] else []))
          (ap (λ used. both_tables used tells.now_head.now tells.now_main.now) (sym call.used)
          ∙ ap (λ told. told.now) (sym tells.told_is));
      unmarked = refl;
      none = ap (λ told. told.mark) tells.told_is;
    }

-- told before and after by their parts
told_is : (told : Told) (past : List (Option ℕ × List Cell)) (mark : Option ℕ) → told.past ≡ past
    → told.mark ≡ mark
    → told ≡ record { now = told.now; past = past; mark = mark }
told_is told past mark a b = rw (← a, ← b) refl

-- a joint call in which a disk was called is one call
pub joint_moves : (of_head of_main : Bool) (Head Main : List Cell → List Cell → Type 0)
    (old new : Joint)
    → IsJointCall of_head of_main Head Main old new → (of_head || of_main) ≡ true
    → Moves (BothStep old of_head of_main Head Main) (joint_told old) (joint_told new)
joint_moves of_head of_main Head Main old new call any now is =
    let turn = joint_turn of_head of_main Head Main old new now call is in (
      turn.before,
      turn.was,
      record {
        step = turn.step;
        one = told_is now (turn.before.past ++ (turn.before.mark, now.now) ∷ []) turn.before.mark
            (turn.past ∙ rw (any, turn.unmarked) refl) (turn.none ∙ sym turn.unmarked);
      },
    )

-- one in which neither was called is none
joint_kept : (Head Main : List Cell → List Cell → Type 0) (old new : Joint) (now : Told)
    → IsJointCall false false Head Main old new → joint_told new ≡ Some now
    → joint_told old ≡ Some now
joint_kept Head Main old new now call is =
    let turn = joint_turn false false Head Main old new now call is in
    let cells : turn.before.now ≡ now.now =
    turn.step.old_is
    ∙ ap₂ (λ head main. both_tables old.used head main) (sym turn.step.head_step)
    (sym turn.step.main_step)
    ∙ sym turn.step.new_is in
    turn.was
    ∙ ap (λ told. Some told)
    (told_is turn.before now.past now.mark (sym (turn.past ∙ append-nil turn.before.past))
    (turn.unmarked ∙ sym turn.none)
    ∙ ap (λ table. let told : Told =
    record { now = table; past = now.past; mark = now.mark } in told) cells)

joint_not : (Step Head Main : List Cell → List Cell → Type 0) (old new : Joint) (told : Option Told)
    → joint_told new ≡ told
    → IsJointCall false false Head Main old new → MovesOrNot Step (joint_told old) (joint_told new)
joint_not Step Head Main old new None is call =
    inr (λ now now_is. absurd (let e : None ≡ Some now = sym is ∙ now_is in cc))
joint_not Step Head Main old new (Some told) is call =
    inl (is ∙ sym (joint_kept Head Main old new told call is))

-- a weaker step
pub moves_by : (Step Weaker : List Cell → List Cell → Type 0) (old new : Option Told)
    → ((cells next : List Cell) → Step cells next → Weaker cells next) → Moves Step old new
    → Moves Weaker old new
moves_by Step Weaker old new weaker moves now is =
    let (before, was, moved) = moves now is in
    (before, was, record { step = weaker before.now now.now moved.step; one = moved.one })

-- a joint call that may have failed
pub joint_moves_or_not : (of_head of_main : Bool) (Head Main Step : List Cell → List Cell → Type 0)
    (old new : Joint)
    → ((cells next : List Cell) → BothStep old of_head of_main Head Main cells next
    → Step cells next)
    → IsJointCall of_head of_main Head Main old new
    → MovesOrNot Step (joint_told old) (joint_told new)
joint_moves_or_not true of_main Head Main Step old new weaker call =
    inr (moves_by _ Step _ _ weaker (joint_moves true of_main Head Main old new call refl))
joint_moves_or_not false true Head Main Step old new weaker call =
    inr (moves_by _ Step _ _ weaker (joint_moves false true Head Main old new call refl))
joint_moves_or_not false false Head Main Step old new weaker call =
    joint_not Step Head Main old new (joint_told new) refl call

-- two disks as one keep no marks
pub joint_goes_on : (old new : Joint) (before : Told) → joint_told old ≡ Some before
    → before.mark ≡ None
joint_goes_on old new before is = ap (λ told. told.mark) (tells_of old before is).told_is
