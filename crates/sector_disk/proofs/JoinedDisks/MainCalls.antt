-- Lemmas on a call that is the main disk's own, as the head has no atoms: it does to both as one what
-- a call does to a disk.
use Rattle.std.proofs.Common.{◌≡◌, ℕ, ◌+◌, ◌-◌, ◌*◌, ◌≤◌, ◌⊎◌, List, [], ◌∷◌, ◌++◌, length}
use Rattle.std.proofs.Common.{if◌then◌else◌, take, drop, Option, Some, None, IsSome, option_map, Result}
use Rattle.std.proofs.Common.{Ok, Err, refl, sym, ◌∙◌, ap, ap₂, subst, inl, inr, arith}
use Rattle.std.proofs.lemmas.List.{nil_from_length, map-append}
use Rattle.std.proofs.Math.Nat.{mul-le-mul_right}
use Rattle.std.proofs.lemmas.Bool.{eq-eqb}
use Rattle.base_terms.specs.declared.failed.Failed.{Failed}
use Rattle.base_terms.specs.Blocks.{pasted}
use Rattle.sector_disk.specs.Cells.{Cell, wrote}
use Rattle.sector_disk.specs.Devices.{Device, ReadCall, WriteCall, SyncCall}
use Rattle.sector_disk.specs.JoinedDisks.Joined.{Joint, both_values, joined_disk, joint_told, told_by_main}
use Rattle.sector_disk.specs.JoinedDisks.Joined.{in_front, joint_of, shown_told, told_of_used}
use Rattle.sector_disk.specs.JoinedDisks.JoinedLaws.{ShowsDisk, both_told}
use Rattle.sector_disk.specs.Steps.{Told, then_table, IsMoved, Moves, MovesOrNot}
use Rattle.sector_disk.specs.Values.{SameOutside}
use Rattle.sector_disk.proofs.JoinedDisks.AcrossLemmas.{part_of_front, same_both}
use Rattle.sector_disk.proofs.JoinedDisks.JointCalls.{cause_right}
use Rattle.sector_disk.proofs.JoinedDisks.SplitLemmas.{synced_both, take_changed, take_pasted, thinned_take}
use Rattle.sector_disk.proofs.JoinedDisks.SplitLemmas.{tried_take}

-- the tables of the atoms that are used, after one call more
used_then : (used : ℕ) (told : Told) (next : List Cell)
    → told_of_used used (then_table told next) ≡ then_table (told_of_used used told) (take used next)
used_then used told next =
    ap (λ past. let one : Told = record { now = take used next; past = past; mark = told.mark } in one)
    (map-append (λ call. (call.0, take used call.1)) told.past ((told.mark, next) ∷ []))

main_moves : (used : ℕ) (head : Option (List ℕ)) (Step Weaker : List Cell → List Cell → Type 0)
    (old new : Option Told)
    → ((cells next : List Cell) → Step cells next → Weaker (take used cells) (take used next))
    → Moves Step old new
    → Moves Weaker (told_by_main used head old) (told_by_main used head new)
main_moves used None Step Weaker old new weaker moves now is = absurd (cc)
main_moves used (Some none) Step Weaker old None weaker moves now is = absurd (cc)
main_moves used (Some none) Step Weaker old (Some told) weaker moves now is =
    let (before, was, moved) = moves told refl in
    let same : told_of_used used told ≡ now = cc in
    let Goal : Told → Type 0 =
    λ one. (first : Told) × (option_map (told_of_used used) old ≡ Some first)
    × IsMoved Weaker first one in
    subst Goal same (
      told_of_used used before,
      ap (λ one. option_map (told_of_used used) one) was,
      record {
        step = weaker before.now told.now moved.step;
        one = ap (λ one. told_of_used used one) moved.one ∙ used_then used before told.now;
      },
    )

main_moves_or_not : (used : ℕ) (head : Option (List ℕ))
    (Step Weaker : List Cell → List Cell → Type 0)
    (old new : Option Told)
    → ((cells next : List Cell) → Step cells next → Weaker (take used cells) (take used next))
    → MovesOrNot Step old new
    → MovesOrNot Weaker (told_by_main used head old) (told_by_main used head new)
main_moves_or_not used head Step Weaker old new weaker (inl same) =
    inl (ap (λ one. told_by_main used head one) same)
main_moves_or_not used head Step Weaker old new weaker (inr moves) =
    inr (main_moves used head Step Weaker old new weaker moves)

main_tells : (used : ℕ) (told : Option Told) → IsSome told
    → IsSome (option_map (told_of_used used) told)
main_tells used None some = absurd (cc)
main_tells used (Some told) some = refl

main_goes : (used : ℕ) (head : Option (List ℕ)) (old new : Option Told)
    → ((before : Told) → old ≡ Some before → IsSome new ⊎ (before.mark ≡ None))
    → (before : Told) → told_by_main used head old ≡ Some before
    → IsSome (told_by_main used head new) ⊎ (before.mark ≡ None)
main_goes used None old new goes before is = absurd (cc)
main_goes used (Some none) None new goes before is = absurd (cc)
main_goes used (Some none) (Some told) new goes before is =
    let same : told_of_used used told ≡ before = cc in
    elim (goes told refl) [
      | inl some ↦ inl (main_tells used new some)
      | inr unmarked ↦ inr (ap (λ one. one.mark) (sym same) ∙ unmarked)
    ]

-- a head without atoms was left alone, and the sizes are those of before
pub record LeavesHead (old new : Joint) : Type 0 where
  pub none : old.head.atoms ≡ 0
  pub same : new.head ≡ old.head
  pub used : new.used ≡ old.used
  pub shows : ShowsDisk old.head
  pub fits : old.used ≤ old.main.atoms

-- the main disk has the whole of a call then
pub within_main : (at atom head used len : ℕ) → head ≡ 0 → at * atom + len ≤ (head + used) * atom
    → at * atom + len ≤ used * atom
within_main at atom head used len none within =
    subst (λ atoms. at * atom + len ≤ atoms * atom)
    (let e : head + used ≡ used = omega (arith, none) in e) within

-- what is told then
pub told_main : (joint : Joint) → joint.head.atoms ≡ 0
    → shown_told joint ≡ told_by_main joint.used joint.head.values joint.main.told
told_main joint none =
    ap (λ empty. if empty then told_by_main joint.used joint.head.values joint.main.told
    else joint_told joint) (eq-eqb joint.head.atoms 0 none)

as_main : (P : Option Told → Option Told → Type 0) (old new : Joint) → LeavesHead old new
    → P (told_by_main old.used old.head.values old.main.told)
    (told_by_main old.used old.head.values new.main.told)
    → P (shown_told old) (shown_told new)
as_main P old new leaves is =
    let none : new.head.atoms ≡ 0 = ap (λ one. one.atoms) leaves.same ∙ leaves.none in
    let later : shown_told new ≡ told_by_main old.used old.head.values new.main.told =
    told_main new none
    ∙ ap₂ (λ used head. told_by_main used head new.main.told) leaves.used
    (ap (λ one. one.values) leaves.same) in
    subst (λ tells. P tells (shown_told new)) (sym (told_main old leaves.none))
    (subst (λ tells. P (told_by_main old.used old.head.values old.main.told) tells) (sym later) is)

-- the bytes that are shown then are the main disk's
record OfMain (joint : Joint) (bytes : List ℕ) : Type 0 where
  back : List ℕ
  head_is : joint.head.values ≡ Some []
  main_is : joint.main.values ≡ Some back
  bytes_are : bytes ≡ take (joint.used * joint.main.size) back

of_main : (old new : Joint) (bytes : List ℕ) → LeavesHead old new
    → (joined_disk old).values ≡ Some bytes
    → OfMain old bytes
of_main old new bytes leaves is =
    let both = both_told _ _ _ bytes is in
    let empty : both.front ≡ [] =
    nil_from_length both.front (leaves.shows.whole both.front both.head_is
    ∙ ap (λ n. n * old.head.size) leaves.none
    ∙ (let e : 0 * old.head.size ≡ 0 = grind arith in e)) in
    record {
      back = both.back;
      head_is = both.head_is ∙ ap (λ front. Some front) empty;
      main_is = both.main_is;
      bytes_are = both.bytes_are
          ∙ ap (λ front. front ++ take (old.used * old.main.size) both.back) empty;
    }

values_main : (old new : Joint) (bytes left : List ℕ) → LeavesHead old new
    → new.main.size ≡ old.main.size
    → OfMain old bytes → new.main.values ≡ Some left
    → (joined_disk new).values ≡ Some (take (old.used * old.main.size) left)
values_main old new bytes left leaves size of is =
    ap₂ (λ head main. both_values (new.used * new.main.size) head main)
    (ap (λ one. one.values) leaves.same ∙ of.head_is) is
    ∙ ap₂ (λ used size. Some (take (used * size) left)) leaves.used size

values_stay : (old new : Joint) → LeavesHead old new → new.main.size ≡ old.main.size
    → new.main.values ≡ old.main.values
    → (joined_disk new).values ≡ (joined_disk old).values
values_stay old new leaves size values =
    ap₂ (λ head main. both_values (new.used * new.main.size) head main)
    (ap (λ one. one.values) leaves.same) values
    ∙ ap₂ (λ used size. both_values (used * size) old.head.values old.main.values) leaves.used size

atoms_stay : (old new : Joint) → LeavesHead old new
    → (joined_disk new).atoms ≡ (joined_disk old).atoms
atoms_stay old new leaves = ap₂ (λ a b. a + b) (ap (λ one. one.atoms) leaves.same) leaves.used

faults_stay : (old new : Joint) → LeavesHead old new → new.head.faults ≡ old.head.faults
faults_stay old new leaves = ap (λ one. one.faults) leaves.same

-- a read
read_values : (at : ℕ) (bytes : List ℕ) (old new : Joint) → LeavesHead old new
    → at * old.main.size + length bytes ≤ old.used * old.main.size
    → ((values : List ℕ) → old.main.values ≡ Some values
    → bytes ≡ take (length bytes) (drop (at * old.main.size) values))
    → (all : List ℕ) → (joined_disk old).values ≡ Some all
    → bytes ≡ take (length bytes) (drop (at * old.main.size) all)
read_values at bytes old new leaves within reads all is =
    let of = of_main old new all leaves is in
    reads of.back of.main_is
    ∙ sym (part_of_front (old.used * old.main.size) (at * old.main.size) (length bytes) of.back within)
    ∙ ap (λ text. take (length bytes) (drop (at * old.main.size) text)) (sym of.bytes_are)

pub read_by_main : (at : ℕ) (bytes : List ℕ) (old new : Joint) (result : Result (Unit {0}) Failed)
    → LeavesHead old new
    → at * old.main.size + length bytes ≤ old.used * old.main.size
    → ReadCall old.main.size at bytes old.main new.main result
    → ReadCall old.main.size at bytes (joined_disk old) (joined_disk new) result
read_by_main at bytes old new (Ok tt) leaves within call = record {
  size = call.size;
  atoms = atoms_stay old new leaves;
  tail = call.tail;
  values = values_stay old new leaves call.size call.values;
  content = read_values at bytes old new leaves within call.content;
  told = as_main (Moves _) old new leaves
      (main_moves old.used old.head.values _ _ old.main.told new.main.told
      (λ cells next is. ap (λ all. take old.used all) is) call.told);
  goes_on = as_main (λ a b. (before : Told) → a ≡ Some before → IsSome b ⊎ (before.mark ≡ None)) old
      new leaves (main_goes old.used old.head.values old.main.told new.main.told call.goes_on);
  cause = cause_right _ _ _ _ _ call.cause (faults_stay old new leaves);
}
read_by_main at bytes old new (Err failed) leaves within call = record {
  size = call.size;
  atoms = atoms_stay old new leaves;
  tail = call.tail;
  values = values_stay old new leaves call.size call.values;
  content = λ _ _. tt;
  told = as_main (MovesOrNot _) old new leaves
      (main_moves_or_not old.used old.head.values _ _ old.main.told new.main.told
      (λ cells next is. ap (λ all. take old.used all) is) call.told);
  goes_on = as_main (λ a b. (before : Told) → a ≡ Some before → IsSome b ⊎ (before.mark ≡ None)) old
      new leaves (main_goes old.used old.head.values old.main.told new.main.told call.goes_on);
  cause = cause_right _ _ _ _ _ call.cause (faults_stay old new leaves);
}

-- a write
written_values : (at : ℕ) (body : List ℕ) (old new : Joint) → LeavesHead old new
    → ShowsDisk old.main → new.main.size ≡ old.main.size
    → at * old.main.size + length body ≤ old.used * old.main.size
    → ((values : List ℕ) → old.main.values ≡ Some values
    → new.main.values ≡ Some (pasted values (at * old.main.size) body))
    → (all : List ℕ) → (joined_disk old).values ≡ Some all
    → (joined_disk new).values ≡ Some (pasted all (at * old.main.size) body)
written_values at body old new leaves main size within writes all is =
    let of = of_main old new all leaves is in
    let used : old.used * old.main.size ≤ length of.back =
    rw (main.whole of.back of.main_is) (mul-le-mul_right old.main.size leaves.fits) in
    values_main old new all _ leaves size of (writes of.back of.main_is)
    ∙ ap (λ text. Some text)
    (take_pasted (old.used * old.main.size) of.back (at * old.main.size) body within used
    ∙ ap (λ text. pasted text (at * old.main.size) body) (sym of.bytes_are))

outside_front : (used at len : ℕ) (back left : List ℕ) → length left ≡ length back
    → SameOutside at len back left → at + len ≤ used
    → SameOutside at len (take used back) (take used left)
outside_front used at len back left long same within =
    let here : at ≡ at - 0 = omega arith in
    let all : len ≡ len - (0 - at) = omega arith in
    same_both used at len [] back [] left refl long (record { before = refl; behind = refl })
    (subst (λ k. SameOutside (at - 0) k back left) all
    (subst (λ k. SameOutside k len back left) here same))
    (omega (arith, within))

tried_values : (at : ℕ) (body : List ℕ) (old new : Joint) → LeavesHead old new
    → ShowsDisk old.main → ShowsDisk new.main → new.main.size ≡ old.main.size
    → new.main.atoms ≡ old.main.atoms
    → at * old.main.size + length body ≤ old.used * old.main.size
    → ((values : List ℕ) → old.main.values ≡ Some values
    → (left : List ℕ) × (new.main.values ≡ Some left)
    × SameOutside (at * old.main.size) (length body) values left)
    → (all : List ℕ) → (joined_disk old).values ≡ Some all
    → (left : List ℕ) × ((joined_disk new).values ≡ Some left)
    × SameOutside (at * old.main.size) (length body) all left
tried_values at body old new leaves main main_after size atoms within writes all is =
    let of = of_main old new all leaves is in
    let (left, left_is, same) = writes of.back of.main_is in
    let long : length left ≡ length of.back =
    main_after.whole left left_is ∙ ap₂ (λ a s. a * s) atoms size
    ∙ sym (main.whole of.back of.main_is) in (
      take (old.used * old.main.size) left,
      values_main old new all left leaves size of left_is,
      subst (λ text. SameOutside (at * old.main.size) (length body) text
          (take (old.used * old.main.size) left)) (sym of.bytes_are)
          (outside_front (old.used * old.main.size) (at * old.main.size) (length body) of.back left
          long same within),
    )

pub write_by_main : (at : ℕ) (body : List ℕ) (old new : Joint) (result : Result (Unit {0}) Failed)
    → LeavesHead old new → ShowsDisk old.main → ShowsDisk new.main
    → at * old.main.size + length body ≤ old.used * old.main.size
    → WriteCall old.main.size at body old.main new.main result
    → WriteCall old.main.size at body (joined_disk old) (joined_disk new) result
write_by_main at body old new (Ok tt) leaves main main_after within call = record {
  size = call.size;
  atoms = atoms_stay old new leaves;
  tail = call.tail;
  values = written_values at body old new leaves main call.size within call.values;
  told = as_main (Moves _) old new leaves
      (main_moves old.used old.head.values _ _ old.main.told new.main.told
      (λ cells next is. ap (λ all. take old.used all) is ∙ take_changed wrote old.used cells at _)
      call.told);
  goes_on = as_main (λ a b. (before : Told) → a ≡ Some before → IsSome b ⊎ (before.mark ≡ None)) old
      new leaves (main_goes old.used old.head.values old.main.told new.main.told call.goes_on);
  cause = cause_right _ _ _ _ _ call.cause (faults_stay old new leaves);
}
write_by_main at body old new (Err failed) leaves main main_after within call = record {
  size = call.size;
  atoms = atoms_stay old new leaves;
  tail = call.tail;
  values =
      tried_values at body old new leaves main main_after call.size call.atoms within call.values;
  told = as_main (MovesOrNot _) old new leaves
      (main_moves_or_not old.used old.head.values _ _ old.main.told new.main.told
      (λ cells next is. tried_take old.used cells at _ next is) call.told);
  goes_on = as_main (λ a b. (before : Told) → a ≡ Some before → IsSome b ⊎ (before.mark ≡ None)) old
      new leaves (main_goes old.used old.head.values old.main.told new.main.told call.goes_on);
  cause = cause_right _ _ _ _ _ call.cause (faults_stay old new leaves);
}

-- a sync
pub sync_by_main : (old new : Joint) (result : Result (Unit {0}) Failed) → LeavesHead old new
    → SyncCall old.main new.main result → SyncCall (joined_disk old) (joined_disk new) result
sync_by_main old new (Ok tt) leaves call = record {
  size = call.size;
  atoms = atoms_stay old new leaves;
  tail = call.tail;
  values = values_stay old new leaves call.size call.values;
  told = as_main (Moves _) old new leaves
      (main_moves old.used old.head.values _ _ old.main.told new.main.told
      (λ cells next is. ap (λ all. take old.used all) is ∙ synced_both old.used [] cells)
      call.told);
  goes_on = as_main (λ a b. (before : Told) → a ≡ Some before → IsSome b ⊎ (before.mark ≡ None)) old
      new leaves (main_goes old.used old.head.values old.main.told new.main.told call.goes_on);
  cause = cause_right _ _ _ _ _ call.cause (faults_stay old new leaves);
}
sync_by_main old new (Err failed) leaves call = record {
  size = call.size;
  atoms = atoms_stay old new leaves;
  tail = call.tail;
  values = values_stay old new leaves call.size call.values;
  told = as_main (MovesOrNot _) old new leaves
      (main_moves_or_not old.used old.head.values _ _ old.main.told new.main.told
      (λ cells next is. thinned_take old.used cells next is) call.told);
  goes_on = as_main (λ a b. (before : Told) → a ≡ Some before → IsSome b ⊎ (before.mark ≡ None)) old
      new leaves (main_goes old.used old.head.values old.main.told new.main.told call.goes_on);
  cause = cause_right _ _ _ _ _ call.cause (faults_stay old new leaves);
}

-- without a head
pub told_alone : {D : Type 0} (device : D → Device) (size : ℕ) (head_was : Option D) (main_was : D)
    (head : Option D) (main : D) (used calls : ℕ) → head ≡ None
    → shown_told (joint_of device size head_was main_was head main used calls)
    ≡ option_map {T = Told} (told_of_used ((in_front device size head).atoms + used))
    (device main).told
told_alone device size head_was main_was (Some head) main used calls none = absurd (cc)
told_alone device size head_was main_was None main used calls none =
    ap (λ atoms. option_map {T = Told} (told_of_used atoms) (device main).told)
    (let e : used ≡ 0 + used = omega arith in e)
