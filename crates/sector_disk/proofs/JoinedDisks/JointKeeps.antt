-- Lemmas on what a call on two joined disks keeps: their sizes, and that their tables stand in one
-- order.
use Rattle.std.proofs.Common.{◌≡◌, ℕ, ◌+◌, ◌-◌, ◌^◌, ◌<◌, ◌⊎◌, Bool, true, false, if◌then◌else◌}
use Rattle.std.proofs.Common.{List, min, Option, Some, None, IsSome, is_some, Result, Ok, Err, refl}
use Rattle.std.proofs.Common.{sym, ◌∙◌, ap, subst, inl, inr, arith}
use Rattle.std.proofs.lemmas.Bool.{lt-ltb}
use Rattle.base_terms.specs.declared.failed.Failed.{Failed}
use Rattle.sector_disk.specs.Cells.{Cell}
use Rattle.sector_disk.specs.Devices.{Device, GoesOn, ReadCall, WriteCall, SyncCall, marked}
use Rattle.sector_disk.specs.JoinedDisks.Counts.{Counts}
use Rattle.sector_disk.specs.JoinedDisks.Joined.{Joint, Follows, joint_of, joint_told, in_front, last_call}
use Rattle.sector_disk.specs.JoinedDisks.Joined.{told_of, told_with_mark, with_marks}
use Rattle.sector_disk.specs.JoinedDisks.JoinedCalls.{Both}
use Rattle.sector_disk.specs.JoinedDisks.JoinedLaws.{ShowsDisk, tells_of}
use Rattle.sector_disk.specs.Steps.{Told, MovesOrNot, remarked}
use Rattle.sector_disk.proofs.JoinedDisks.TurnLemmas.{StepIf, Turned, under, turned_not, follows_on}
use Rattle.sector_disk.proofs.JoinedDisks.JointCalls.{Joins, any_turn}
use Rattle.sector_disk.proofs.JoinedDisks.JointLemmas.{shown_both}

-- any step
abbrev Any : List Cell → List Cell → Type 0
Any cells next = Unit {0}

weaker_if : (called : Bool) (Step : List Cell → List Cell → Type 0) (cells next : List Cell)
    → StepIf called Step cells next → StepIf called Any cells next
weaker_if true Step cells next step = tt
weaker_if false Step cells next step = step

weaker_turn : (number : ℕ) (called : Bool) (Step : List Cell → List Cell → Type 0)
    (old new : Option Told)
    → Turned number called Step old new → Turned number called Any old new
weaker_turn number called Step old new turned now is =
    let turn = turned now is in
    record {
      before = turn.before;
      was = turn.was;
      past = turn.past;
      step =
          weaker_if called Step turn.before.now now.now turn.step;
    }

-- it told its tables with marks and tells them so still
abbrev TellsOn : Option Told → Option Told → Type 0
TellsOn old new = (before : Told) → with_marks old ≡ Some before → IsSome (with_marks new)

has_mark : (told : Told) (number : ℕ) → told.mark ≡ Some number → IsSome (with_marks (Some told))
has_mark told number is = subst (λ mark. IsSome (told_with_mark told mark)) (sym is) refl

mark_was : (told before : Told) (mark : Option ℕ) → told_with_mark told mark ≡ Some before
    → IsSome mark
mark_was told before None is = absurd (cc)
mark_was told before (Some mark) is = refl

remarked_is : (mark : Option ℕ) (number : ℕ) → IsSome mark → remarked mark number ≡ Some number
remarked_is None number is = absurd (cc)
remarked_is (Some mark) number is = refl

-- a call keeps the mark
keeps_mark : (number : ℕ) (Step : List Cell → List Cell → Type 0) (told : Told) (new : Option Told)
    → remarked told.mark number ≡ Some number → IsSome new
    → MovesOrNot Step (under number (Some told)) new
    → IsSome (with_marks new)
keeps_mark number Step told None marks is moves = absurd (cc)
keeps_mark number Step told (Some now) marks is (inl same) =
    let e : now ≡ record told { mark = remarked told.mark number } = cc in
    has_mark now number (ap (λ one. one.mark) e ∙ marks)
keeps_mark number Step told (Some now) marks is (inr moves) =
    let (before, was, moved) = moves now refl in
    let e : record told { mark = remarked told.mark number } ≡ before = cc in
    has_mark now number (ap (λ one. one.mark) moved.one ∙ ap (λ one. one.mark) (sym e) ∙ marks)

goes_with : (number : ℕ) (Step : List Cell → List Cell → Type 0) (told : Told) (new : Option Told)
    → remarked told.mark number ≡ Some number → IsSome new ⊎ (remarked told.mark number ≡ None)
    → MovesOrNot Step (under number (Some told)) new → IsSome (with_marks new)
goes_with number Step told new marks (inl some) moves =
    keeps_mark number Step told new marks some moves
goes_with number Step told new marks (inr none) moves =
    absurd (let e : Some number ≡ None = sym marks ∙ none in cc)

tells_on : (number : ℕ) (Step : List Cell → List Cell → Type 0) (old new : Option Told)
    → ((before : Told) → under number old ≡ Some before → IsSome new ⊎ (before.mark ≡ None))
    → MovesOrNot Step (under number old) new → TellsOn old new
tells_on number Step None new goes moves = λ before is. absurd (cc)
tells_on number Step (Some told) new goes moves = λ before is.
    goes_with number Step told new
    (remarked_is told.mark number (mark_was told before told.mark is))
    (goes (record told { mark = remarked told.mark number }) refl) moves

-- a disk kept its sizes, and was called once or not at all
pub record Went (number : ℕ) (old new : Device) : Type 0 where
  pub size : new.size ≡ old.size
  pub atoms : new.atoms ≡ old.atoms
  pub tells : TellsOn old.told new.told
  pub called : Bool
  pub turned : Turned number called Any old.told new.told

went_by : (number : ℕ) (Step : List Cell → List Cell → Type 0) (old new : Device)
    → new.size ≡ old.size → new.atoms ≡ old.atoms
    → GoesOn (marked old number) new → MovesOrNot Step (under number old.told) new.told
    → Went number old new
went_by number Step old new size atoms goes moves =
    let (called, turned) = any_turn number Step old.told new.told moves in
    record {
      size = size;
      atoms = atoms;
      tells = tells_on number Step old.told new.told goes moves;
      called = called;
      turned = weaker_turn number called Step old.told new.told turned;
    }

went_not : (number : ℕ) (old new : Device) → new ≡ old → Went number old new
went_not number old new same = record {
  size = ap (λ one. one.size) same;
  atoms = ap (λ one. one.atoms) same;
  tells = λ before is. subst (λ one. IsSome (with_marks one.told)) (sym same) (ap is_some is);
  called = false;
  turned = turned_not number Any old.told new.told (ap (λ one. one.told) same);
}

pub read_went : (size at : ℕ) (bytes : List ℕ) (number : ℕ) (old new : Device)
    (result : Result (Unit {0}) Failed)
    → ReadCall size at bytes (marked old number) new result → Went number old new
read_went size at bytes number old new (Ok tt) call =
    went_by number _ old new call.size call.atoms call.goes_on (inr call.told)
read_went size at bytes number old new (Err failed) call =
    went_by number _ old new call.size call.atoms call.goes_on call.told

pub write_went : (size at : ℕ) (bytes : List ℕ) (number : ℕ) (old new : Device)
    (result : Result (Unit {0}) Failed)
    → WriteCall size at bytes (marked old number) new result → Went number old new
write_went size at bytes number old new (Ok tt) call =
    went_by number _ old new call.size call.atoms call.goes_on (inr call.told)
write_went size at bytes number old new (Err failed) call =
    went_by number _ old new call.size call.atoms call.goes_on call.told

pub sync_went : (number : ℕ) (old new : Device) (result : Result (Unit {0}) Failed)
    → SyncCall (marked old number) new result → Went number old new
sync_went number old new (Ok tt) call =
    went_by number _ old new call.size call.atoms call.goes_on (inr call.told)
sync_went number old new (Err failed) call =
    went_by number _ old new call.size call.atoms call.goes_on call.told

-- what stays of both disks
pub record KeepsJoint (old new : Joint) : Type 0 where
  pub head_size : new.head.size ≡ old.head.size
  pub head_atoms : new.head.atoms ≡ old.head.atoms
  pub main_size : new.main.size ≡ old.main.size
  pub main_atoms : new.main.atoms ≡ old.main.atoms
  pub head_follows : Follows new.calls old.head_was.told new.head.told
  pub main_follows : Follows new.calls old.main_was.told new.main.told
  pub counts : Counts old new

both_tell : (used calls : ℕ) (head_was head main_was main : Option Told) → IsSome head_was
    → IsSome head → IsSome main_was → IsSome main
    → IsSome (told_of used calls head_was head main_was main)
both_tell used calls None head main_was main a b c d = absurd (cc)
both_tell used calls (Some one) None main_was main a b c d = absurd (cc)
both_tell used calls (Some one) (Some two) None main a b c d = absurd (cc)
both_tell used calls (Some one) (Some two) (Some three) None a b c d = absurd (cc)
both_tell used calls (Some one) (Some two) (Some three) (Some four) a b c d = refl

-- below the full count both tell their tables after the call
joint_tells : (old new : Joint) → Joins old new → TellsOn old.head.told new.head.told
    → TellsOn old.main.told new.main.told
    → new.calls < last_call → (told : Option Told) → joint_told old ≡ told → IsSome told
    → IsSome (joint_told new)
joint_tells old new joins head main below None is some = absurd (cc)
joint_tells old new joins head main below (Some told) is some =
    let both = tells_of old told is in
    let of_head = ap (λ one. one.told) joins.head_was ∙ both.head_was_is in
    let of_main = ap (λ one. one.told) joins.main_was ∙ both.main_was_is in
    subst (λ b. IsSome
    (if b then told_of new.used new.calls new.head_was.told (with_marks new.head.told)
    new.main_was.told
    (with_marks new.main.told) else None)) (sym (lt-ltb new.calls last_call below))
    (both_tell new.used new.calls _ _ _ _ (ap is_some of_head) (head both.now_head both.head_is)
    (ap is_some of_main)
    (main both.now_main both.main_is))

keeps_joint : (old new : Joint) → Joins old new → Went old.calls old.head new.head
    → Went old.calls old.main new.main
    → KeepsJoint old new
keeps_joint old new joins head main = record {
  head_size = head.size;
  head_atoms = head.atoms;
  main_size = main.size;
  main_atoms = main.atoms;
  head_follows =
      follows_on old.calls new.calls head.called Any old.head_was.told old.head.told new.head.told
      head.turned
      joins.head_follows joins.calls;
  main_follows =
      follows_on old.calls new.calls main.called Any old.main_was.told old.main.told new.main.told
      main.turned
      joins.main_follows joins.calls;
  counts = record {
    calls = joins.calls;
    used = joins.used;
    head_was = joins.head_was;
    main_was = joins.main_was;
    tells = λ some below told. subst IsSome
        (sym (shown_both new (omega (arith, some, head.atoms))))
        (joint_tells old new joins head.tells main.tells below (joint_told old) refl
        (subst IsSome (shown_both old some) told));
  };
}

pub both_keep : (Head Main : Device → Device → Result (Unit {0}) Failed → Type 0)
    (IsEmpty IsDone : Type 0) (old new : Joint)
    (result : Result (Unit {0}) Failed) → Joins old new
    → ((r : Result (Unit {0}) Failed) → Head (marked old.head old.calls) new.head r
    → Went old.calls old.head new.head)
    → ((r : Result (Unit {0}) Failed) → Main (marked old.main old.calls) new.main r
    → Went old.calls old.main new.main)
    → Both Head Main IsEmpty IsDone old.calls old.head new.head old.main new.main result
    → KeepsJoint old new
both_keep Head Main IsEmpty IsDone old new result joins head main (inl (empty, same, call)) =
    keeps_joint old new joins (went_not old.calls old.head new.head same) (main result call)
both_keep Head Main IsEmpty IsDone old new result joins head main (inr (inl (done, same, call))) =
    keeps_joint old new joins (head result call) (went_not old.calls old.main new.main same)
both_keep Head Main IsEmpty IsDone old new result joins head main (inr (inr (first, call))) =
    keeps_joint old new joins (head (Ok tt) first) (main result call)

-- the disks of a disk of two, before and after a call
pub joins_of : {D : Type 0} (device : D → Device) (size : ℕ) (head_was : Option D) (main_was : D)
    (head head' : Option D)
    (main main' : D) (used calls calls' : ℕ) → calls' ≡ min (calls + 1) (2 ^ 64 - 1)
    → Follows calls (in_front device size head_was).told (in_front device size head).told
    → Follows calls (device main_was).told (device main).told
    → ShowsDisk (in_front device size head) → ShowsDisk (device main)
    → Joins (joint_of device size head_was main_was head main used calls)
    (joint_of device size head_was main_was head' main' used calls')
joins_of device size head_was main_was head head' main main' used calls calls' counted of_head
    of_main shows_head shows_main = record {
      head_was = refl;
      main_was = refl;
      used = refl;
      calls = counted;
      head_follows = of_head;
      main_follows = of_main;
      head = shows_head;
      main = shows_main;
    }
