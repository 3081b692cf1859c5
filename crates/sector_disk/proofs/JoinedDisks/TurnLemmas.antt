-- Lemmas on two disks' tables in one order: what a call on one of them, or on both, does to them.
use Rattle.std.proofs.Common.{◌≡◌, ◌≢◌, ℕ, zero, suc, ◌+◌, ◌-◌, ◌*◌, ◌/◌, ◌^◌, ◌<◌, ◌≤◌, ◌==◌, ◌||◌}
use Rattle.std.proofs.Common.{◌⊎◌, Bool, true, false, if◌then◌else◌, nat_lt, List, [], ◌∷◌, ◌++◌}
use Rattle.std.proofs.Common.{length, drop, min, Option, Some, None, option_map, refl, sym, ◌∙◌, ap}
use Rattle.std.proofs.Common.{subst, inl, inr, arith, length-append}
use Rattle.std.proofs.lemmas.List.{append-nil, drop-append-le, drop_all}
use Rattle.std.proofs.lemmas.Nat.{le-div}
use Rattle.std.proofs.Math.Nat.{mul-le-mul_right, div-mul-le_self}
use Rattle.std.proofs.lemmas.Bool.{lt-ltb, le-ltb, eq-eqb, ne_eqb}
use Rattle.sector_disk.specs.Cells.{Cell}
use Rattle.sector_disk.specs.JoinedDisks.Joined.{Follows, is_marked, is_later, has_call, table_by, since}
use Rattle.sector_disk.specs.JoinedDisks.Joined.{both_tables, tables_of_both, told_with_mark, with_marks}
use Rattle.sector_disk.specs.JoinedDisks.Joined.{last_call}
use Rattle.sector_disk.specs.JoinedDisks.JoinedLaws.{told_of_marked}
use Rattle.sector_disk.specs.Steps.{Told, remarked, IsMoved, Moves, MovesOrNot}

-- a disk under a mark
abbrev pub under : ℕ → Option Told → Option Told
under number told =
    option_map {T = Told} (λ one. record one { mark = remarked one.mark number }) told

-- the call that a disk adds to its tables where it was called
abbrev pub new_call : Bool → ℕ → List Cell → List (Option ℕ × List Cell)
new_call true number cells = (Some number, cells) ∷ []
new_call false number cells = []

-- its table moved by the step where it was called, and else stayed
abbrev pub StepIf : Bool → (List Cell → List Cell → Type 0) → List Cell → List Cell → Type 0
StepIf true Step cells next = Step cells next
StepIf false Step cells next = next ≡ cells

-- what a disk told before a joint call and tells after it
pub record Turns (number : ℕ) (called : Bool) (Step : List Cell → List Cell → Type 0)
    (old : Option Told) (now : Told) : Type 0 where
  pub before : Told
  pub was : with_marks old ≡ Some before
  pub past : now.past ≡ before.past ++ new_call called number now.now
  pub step : StepIf called Step before.now now.now

abbrev pub Turned : ℕ → Bool → (List Cell → List Cell → Type 0) → Option Told → Option Told → Type 0
Turned number called Step old new =
    (now : Told) → with_marks new ≡ Some now → Turns number called Step old now

-- a disk that was left alone
pub turned_not : (number : ℕ) (Step : List Cell → List Cell → Type 0) (old new : Option Told)
    → new ≡ old
    → Turned number false Step old new
turned_not number Step old new same now is =
    record {
      before = now;
      was = ap with_marks (sym same) ∙ is;
      past =
          sym (append-nil now.past);
      step = refl;
    }

-- what is told with marks has a mark
marked_is : (told now : Told) (mark : Option ℕ) → told_with_mark told mark ≡ Some now → told ≡ now
marked_is told now None is = absurd (cc)
marked_is told now (Some mark) is = cc

-- a disk that moved under a mark
moved_under : (number : ℕ) (Step : List Cell → List Cell → Type 0) (before now : Told)
    (mark : Option ℕ)
    → before.mark ≡ mark → told_with_mark now now.mark ≡ Some now
    → IsMoved Step (record before { mark = remarked before.mark number }) now
    → Turns number true Step (Some before) now
moved_under number Step before now None marks has moved =
    let none : now.mark ≡ None =
    ap (λ told. told.mark) moved.one ∙ ap (λ one. remarked one number) marks in
    absurd (let e : told_with_mark now None ≡ Some now =
    ap (λ one. told_with_mark now one) (sym none) ∙ has in cc)
moved_under number Step before now (Some mark) marks has moved = record {
  before = before;
  was = ap (λ one. told_with_mark before one) marks;
  past = ap (λ told. told.past) moved.one
      ∙ ap (λ one. before.past ++ (remarked one number, now.now) ∷ []) marks;
  step = moved.step;
}

with_marks_of : (told : Option Told) (now : Told) → with_marks told ≡ Some now
    → told_with_mark now now.mark ≡ Some now
with_marks_of None now is = absurd (cc)
with_marks_of (Some told) now is =
    let same : told ≡ now = marked_is told now told.mark is in
    subst (λ one. told_with_mark one one.mark ≡ Some now) same is

turn_of : (number : ℕ) (Step : List Cell → List Cell → Type 0) (old : Option Told)
    (before now : Told)
    → under number old ≡ Some before → told_with_mark now now.mark ≡ Some now
    → IsMoved Step before now
    → Turns number true Step old now
turn_of number Step None before now was has moved = absurd (cc)
turn_of number Step (Some told) before now was has moved =
    let same : record told { mark = remarked told.mark number } ≡ before = cc in
    moved_under number Step told now told.mark refl has (rw (← same) at moved)

pub turned : (number : ℕ) (Step : List Cell → List Cell → Type 0) (old new : Option Told)
    → Moves Step (under number old) new → Turned number true Step old new
turned number Step old new moves now is =
    let (before, was, moved) = moves now (told_of_marked new now is) in
    turn_of number Step old before now was (with_marks_of new now is) moved

-- a mark alone leaves the tables
marked_alone : (number : ℕ) (Step : List Cell → List Cell → Type 0) (told now : Told)
    (mark : Option ℕ)
    → told.mark ≡ mark
    → told_with_mark (record told { mark = remarked told.mark number }) (remarked told.mark number)
    ≡ Some now
    → Turns number false Step (Some told) now
marked_alone number Step told now None marks is =
    absurd (let e : told_with_mark (record told { mark = remarked told.mark number }) None
    ≡ Some now = rw marks at is in cc)
marked_alone number Step told now (Some mark) marks is =
    let same : record told { mark = remarked told.mark number } ≡ now =
    marked_is (record told { mark = remarked told.mark number }) now (remarked told.mark number)
    is in
    record {
      before = told;
      was = ap (λ one. told_with_mark told one) marks;
      past = ap (λ one. one.past) (sym same) ∙ sym (append-nil told.past);
      step = ap (λ one. one.now) (sym same);
    }

under_alone : (number : ℕ) (Step : List Cell → List Cell → Type 0) (old : Option Told) (now : Told)
    → with_marks (under number old) ≡ Some now → Turns number false Step old now
under_alone number Step None now is = absurd (cc)
under_alone number Step (Some told) now is = marked_alone number Step told now told.mark refl is

-- a call that may have failed before it reached the device
pub turned_or_not : (number : ℕ) (Step : List Cell → List Cell → Type 0) (old new : Option Told)
    → MovesOrNot Step (under number old) new
    → Turned number true Step old new ⊎ Turned number false Step old new
turned_or_not number Step old new (inl same) =
    inr (λ now is. under_alone number Step old now (ap with_marks (sym same) ∙ is))
turned_or_not number Step old new (inr moves) = inl (turned number Step old new moves)

or_false : (a : Bool) → (a || false) ≡ (false || a)
or_false true = refl
or_false false = refl

or_true : (a : Bool) → (a || true) ≡ true
or_true true = refl
or_true false = refl

or_none : (a : Bool) → (a || false) ≡ a
or_none true = refl
or_none false = refl

or_assoc : (a b c : Bool) → (a || (b || c)) ≡ (a || b || c)
or_assoc true b c = refl
or_assoc false b c = refl

-- the numbers of calls, and the tables by them, after one more call
has_call-push : (number new : ℕ) (calls : List (Option ℕ × List Cell)) (cells : List Cell)
    → has_call number (calls ++ (Some new, cells) ∷ []) ≡ has_call number calls || (new == number)
unfolding has_call
has_call-push number new [] cells = or_false (new == number)
has_call-push number new (call ∷ calls) cells =
    ap (λ rest. is_marked number call.0 || rest) (has_call-push number new calls cells)
    ∙ or_assoc (is_marked number call.0) (has_call number calls) (new == number)

table_by-push : (number new : ℕ) (before : List Cell) (calls : List (Option ℕ × List Cell))
    (cells : List Cell)
    → table_by number before (calls ++ (Some new, cells) ∷ [])
    ≡ (if nat_lt number new then table_by number before calls else cells)
unfolding table_by
table_by-push number new before [] cells = refl
table_by-push number new before (call ∷ calls) cells =
    table_by-push number new (if is_later number call.0 then before else call.1) calls cells

-- of a call with this very number, and of one with a later number
has_new : (number : ℕ) (calls : List (Option ℕ × List Cell)) (cells : List Cell)
    → has_call number (calls ++ (Some number, cells) ∷ []) ≡ true
has_new number calls cells =
    has_call-push number number calls cells
    ∙ ap (λ its. has_call number calls || its) (eq-eqb number number refl)
    ∙ or_true (has_call number calls)

has_older : (number new : ℕ) (calls : List (Option ℕ × List Cell)) (cells : List Cell)
    → new ≢ number
    → has_call number (calls ++ (Some new, cells) ∷ []) ≡ has_call number calls
has_older number new calls cells other =
    has_call-push number new calls cells
    ∙ ap (λ its. has_call number calls || its) (ne_eqb new number other)
    ∙ or_none (has_call number calls)

table_new : (number new : ℕ) (before : List Cell) (calls : List (Option ℕ × List Cell))
    (cells : List Cell)
    → new ≤ number → table_by number before (calls ++ (Some new, cells) ∷ []) ≡ cells
table_new number new before calls cells below =
    table_by-push number new before calls cells
    ∙ ap (λ its. if its then table_by number before calls else cells) (le-ltb number new below)

table_older : (number new : ℕ) (before : List Cell) (calls : List (Option ℕ × List Cell))
    (cells : List Cell)
    → number < new
    → table_by number before (calls ++ (Some new, cells) ∷ []) ≡ table_by number before calls
table_older number new before calls cells above =
    table_by-push number new before calls cells
    ∙ ap (λ its. if its then table_by number before calls else cells) (lt-ltb number new above)

-- a disk's calls since it was joined, after a joint call
pub since_turned : (number : ℕ) (called : Bool) (first before now : Told)
    → length first.past ≤ length before.past
    → now.past ≡ before.past ++ new_call called number now.now
    → since first now ≡ since first before ++ new_call called number now.now
since_turned number called first before now enough past =
    ap (λ calls. drop (length first.past) calls) past
    ∙ drop-append-le (length first.past) before.past (new_call called number now.now) enough

-- what is kept of one disk's tables
pub record Keeps (calls : ℕ) (first told : Told) : Type 0 where
  pub front : length first.past ≤ length told.past
  pub none : (number : ℕ) → calls ≤ number → has_call number (since first told) ≡ false
  pub last : (number : ℕ) → calls ≤ number → table_by number first.now (since first told) ≡ told.now

pub keeps_of : (calls : ℕ) (was now : Option Told) (first told : Told) → Follows calls was now
    → calls < last_call
    → was ≡ Some first → with_marks now ≡ Some told → Keeps calls first told
keeps_of calls was now first told follows below was_is now_is =
    let (front, numbers) = follows below first told was_is now_is in
    record {
      front = front;
      none = λ number from. (numbers number from).0;
      last = λ number from. (numbers number from).1;
    }

-- what the calls since joining show by each number, before and after a joint call
keeps_called : (number : ℕ) (called : Bool) (Step : List Cell → List Cell → Type 0)
    (first before now : Told)
    → Keeps number first before → now.past ≡ before.past ++ new_call called number now.now
    → StepIf called Step before.now now.now → Keeps (number + 1) first now
keeps_called number true Step first before now keeps past step =
    let calls = since_turned number true first before now keeps.front past in
    record {
      front = rw (past, length-append before.past ((Some number, now.now) ∷ []))
          (omega (arith, keeps.front));
      none = λ k from. rw calls
          (has_older k number (since first before) now.now (λ same. omega (arith, same, from))
          ∙ keeps.none k (omega (arith, from)));
      last = λ k from. rw calls
          (table_new k number first.now (since first before) now.now (omega (arith, from)));
    }
keeps_called number false Step first before now keeps past step =
    let calls =
    since_turned number false first before now keeps.front past ∙ append-nil (since first before) in
    record {
      front = rw (past, append-nil before.past) keeps.front;
      none = λ k from. rw calls (keeps.none k (omega (arith, from)));
      last = λ k from. rw calls (keeps.last k (omega (arith, from)) ∙ sym step);
    }

-- what keeps the tables in order goes on after a joint call
pub follows_on : (number calls : ℕ) (called : Bool) (Step : List Cell → List Cell → Type 0)
    (was old new : Option Told)
    → Turned number called Step old new → Follows number was old
    → calls ≡ min (number + 1) (2 ^ 64 - 1)
    → Follows calls was new
follows_on number calls called Step was old new turned follows counted below first told was_is
    now_is =
    let turns = turned told now_is in
    let next : calls ≡ number + 1 = omega (arith, counted, below) in
    let keeps =
    keeps_of number was old first turns.before follows (omega (arith, counted, below)) was_is
    turns.was in
    let kept =
    keeps_called number called Step first turns.before told keeps turns.past turns.step in (
      kept.front,
      λ k from. (kept.none k (omega (arith, next, from)), kept.last k (omega (arith, next, from))),
    )

-- the tables by earlier numbers are as they were
older_calls : (number : ℕ) (called : Bool) (first before now : Told) (k : ℕ) → k < number
    → length first.past ≤ length before.past
    → now.past ≡ before.past ++ new_call called number now.now
    → (has_call k (since first now) ≡ has_call k (since first before))
    × (table_by k first.now (since first now) ≡ table_by k first.now (since first before))
older_calls number true first before now k below enough past =
    let calls = since_turned number true first before now enough past in (
      rw calls
          (has_older k number (since first before) now.now (λ same. omega (arith, same, below))),
      rw calls (table_older k number first.now (since first before) now.now below),
    )
older_calls number false first before now k below enough past =
    let calls =
    since_turned number false first before now enough past ∙ append-nil (since first before) in
    (ap (λ all. has_call k all) calls, ap (λ all. table_by k first.now all) calls)

pub older_tables : (used number : ℕ) (of_head of_main : Bool)
    (first_head head head' first_main main main' : Told) (n : ℕ) → n ≤ number
    → length first_head.past ≤ length head.past
    → head'.past ≡ head.past ++ new_call of_head number head'.now
    → length first_main.past ≤ length main.past
    → main'.past ≡ main.past ++ new_call of_main number main'.now
    → tables_of_both used first_head head' first_main main' n
    ≡ tables_of_both used first_head head first_main main n
unfolding tables_of_both
older_tables used number of_head of_main first_head head head' first_main main main' zero below a b
    c d = refl
older_tables used number of_head of_main first_head head head' first_main main main' (suc n) below a
    b c d =
    let (has_h, table_h) =
    older_calls number of_head first_head head head' n (omega (arith, below)) a b in
    let (has_m, table_m) =
    older_calls number of_main first_main main main' n (omega (arith, below)) c d in
    rw (has_h, table_h, has_m, table_m)
    (ap (λ tables. tables
    ++ (if has_call n (since first_head head) || has_call n (since first_main main)
    then (
      None,
      both_tables used (table_by n first_head.now (since first_head head))
          (table_by n first_main.now (since first_main main)),
    ) ∷ []
    else []))
    (older_tables used number of_head of_main first_head head head' first_main main main' n
    (omega (arith, below)) a b c d))

-- by its own number each disk shows whether it was called, and its table
pub own_call : (number : ℕ) (called : Bool) (Step : List Cell → List Cell → Type 0)
    (first before now : Told)
    → Keeps number first before → now.past ≡ before.past ++ new_call called number now.now
    → StepIf called Step before.now now.now
    → (has_call number (since first now) ≡ called)
    × (table_by number first.now (since first now) ≡ now.now)
own_call number true Step first before now keeps past step =
    let calls = since_turned number true first before now keeps.front past in (
      rw calls (has_new number (since first before) now.now),
      rw calls (table_new number number first.now (since first before) now.now (omega arith)),
    )
own_call number false Step first before now keeps past step =
    let calls =
    since_turned number false first before now keeps.front past
    ∙ append-nil (since first before) in (
      rw calls (keeps.none number (omega arith)),
      rw calls (keeps.last number (omega arith) ∙ sym step),
    )

-- at the start each disk is as it was joined
pub follows_start : (was now : Option Told) → was ≡ now → Follows 0 was now
unfolding has_call table_by
follows_start was now same below before told was_is now_is =
    let is : before ≡ told =
    (let e : Some before ≡ Some told = sym was_is ∙ same ∙ told_of_marked now told now_is in cc) in
    let none : since before told ≡ [] =
    ap (λ one. since one told) is ∙ drop_all (length told.past) told.past (omega arith) in (
      rw is (omega arith),
      λ number from. (
        ap (λ calls. has_call number calls) none,
        ap (λ calls. table_by number before.now calls) none ∙ ap (λ one. one.now) is,
      ),
    )

-- atoms that a disk may have lie below 2^63 bytes
pub fits_below : (size base used : ℕ) → 0 < size → base * size < 2 ^ 63
    → used ≤ (2 ^ 63 - 1) / size - base
    → (base + used) * size < 2 ^ 63
fits_below size base used some below within =
    let front : base ≤ (2 ^ 63 - 1) / size =
    le-div base (2 ^ 63 - 1) size some (omega (arith, below)) in
    let most : (base + used) * size ≤ (2 ^ 63 - 1) / size * size =
    mul-le-mul_right size (omega (arith, front, within)) in
    let whole : (2 ^ 63 - 1) / size * size ≤ 2 ^ 63 - 1 = div-mul-le_self (2 ^ 63 - 1) size in
    omega (arith, most, whole)
