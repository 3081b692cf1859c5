-- Lemmas on a write across two joined disks.
use Rattle.std.proofs.Common.{◌≡◌, ℕ, suc, ◌+◌, ◌-◌, ◌*◌, ◌/◌, ◌%◌, ◌<◌, ◌≤◌, ◌||◌, ◌⊎◌, Bool, true}
use Rattle.std.proofs.Common.{false, List, [], ◌∷◌, ◌++◌, length, take, drop, replicate, min, Some}
use Rattle.std.proofs.Common.{Result, Ok, Err, refl, sym, ◌∙◌, ap, ap₂, subst, inl, inr, arith}
use Rattle.std.proofs.Common.{length-drop}
use Rattle.std.proofs.lemmas.List.{nil_from_length, length-replicate, length-take, take_all}
use Rattle.std.proofs.lemmas.List.{drop_all}
use Rattle.std.proofs.Math.Nat.{mul-le-mul_right}
use Rattle.base_terms.specs.declared.failed.Failed.{Failed}
use Rattle.base_terms.specs.Blocks.{pasted, changed, blocks_of, lengths}
use Rattle.base_terms.specs.Causes.{HasCause}
use Rattle.base_terms.proofs.BlockLemmas.{pasted-nil, changed-nil}
use Rattle.sector_disk.specs.Cells.{Cell, wrote, currents, IsTried}
use Rattle.sector_disk.specs.Devices.{Device, WriteCall, marked}
use Rattle.sector_disk.specs.Geometry.{IsAtom, IsInDisk}
use Rattle.sector_disk.specs.JoinedDisks.Joined.{Joint, both_tables, both_values, joint_told}
use Rattle.sector_disk.specs.JoinedDisks.JoinedCalls.{BothWritten}
use Rattle.sector_disk.specs.JoinedDisks.JoinedLaws.{ShowsDisk, both_told}
use Rattle.sector_disk.specs.Steps.{Told}
use Rattle.sector_disk.specs.Values.{SameOutside}
use Rattle.sector_disk.proofs.JoinedDisks.TurnLemmas.{StepIf, Turned, under, turned, turned_not}
use Rattle.sector_disk.proofs.JoinedDisks.JointLemmas.{BothStep, joint_moves, joint_moves_or_not, moves_by}
use Rattle.sector_disk.proofs.JoinedDisks.JointLemmas.{both_disk, joint_goes_on}
use Rattle.sector_disk.proofs.JoinedDisks.JointCalls.{Joins, any_turn, not_turn, is_call, cause_left}
use Rattle.sector_disk.proofs.JoinedDisks.JointCalls.{cause_right}
use Rattle.sector_disk.proofs.JoinedDisks.JointReads.{bytes_between}
use Rattle.sector_disk.proofs.JoinedDisks.SplitLemmas.{changed_both, tried_not, tried_all, tried_both}
use Rattle.sector_disk.proofs.JoinedDisks.SplitLemmas.{pasted_both}
use Rattle.sector_disk.proofs.JoinedDisks.AcrossLemmas.{same_pasted, same_both, values_front, values_behind}
use Rattle.sector_disk.proofs.JoinedDisks.AcrossLemmas.{none_of, le_or}

-- an atom has bytes
pub positive : (atom : ℕ) → IsAtom atom → 0 < atom
positive atom (inl is) = omega (arith, is)
positive atom (inr is) = omega (arith, is)

-- bytes of whole atoms are so many atoms
whole_atoms : (len atom : ℕ) → 0 < atom → len % atom ≡ 0 → len ≡ len / atom * atom
whole_atoms len atom some whole = grind arith

-- a write of a body of whole atoms across both, and its parts
pub record Spans (old new : Joint) (at n : ℕ) (body front back : List ℕ) : Type 0 where
  pub same_size : old.head.size ≡ old.main.size
  pub some : 0 < old.main.size
  pub fits : old.used ≤ old.main.atoms
  pub whole : length body ≡ n * old.main.size
  pub within : at * old.main.size + length body ≤ (old.head.atoms + old.used) * old.main.size
  pub front_is : front ≡ take ((old.head.atoms - at) * old.main.size) body
  pub back_is : back ≡ drop ((old.head.atoms - at) * old.main.size) body
  pub head_after : ShowsDisk new.head
  pub main_after : ShowsDisk new.main

-- the values of a text
abbrev texts_of : ℕ → List ℕ → List (List ℕ)
texts_of size text = blocks_of size (length text / size) text

abbrev Wrote : ℕ → List (List ℕ) → List Cell → List Cell → Type 0
Wrote at values cells next = next ≡ changed wrote cells at values

-- so many atoms are in a table of atoms of one size
length_currents : (cells : List Cell) → length (lengths (currents cells)) ≡ length cells
unfolding lengths currents
length_currents [] = refl
length_currents (cell ∷ cells) = ap (λ n. suc n) (length_currents cells)

count_of : (cells : List Cell) (n size : ℕ) → lengths (currents cells) ≡ replicate n size
    → length cells ≡ n
count_of cells n size even =
    sym (length_currents cells) ∙ ap (λ xs. length xs) even ∙ length-replicate n size

head_count : (old : Joint) (told : Told) → ShowsDisk old.head → old.head.told ≡ Some told
    → length told.now ≡ old.head.atoms
head_count old told shows is = count_of told.now old.head.atoms old.head.size (shows.even told is)

-- the values of both parts are those of the body
front_values : (old new : Joint) (at n : ℕ) (body front back : List ℕ)
    → Spans old new at n body front back
    → texts_of old.main.size front ≡ take (old.head.atoms - at) (texts_of old.main.size body)
front_values old new at n body front back spans =
    ap (λ text. texts_of old.main.size text) spans.front_is
    ∙ values_front old.main.size (old.head.atoms - at) n body spans.some spans.whole

back_values : (old new : Joint) (at n : ℕ) (body front back : List ℕ)
    → Spans old new at n body front back
    → texts_of old.main.size back ≡ drop (old.head.atoms - at) (texts_of old.main.size body)
back_values old new at n body front back spans =
    ap (λ text. texts_of old.main.size text) spans.back_is
    ∙ values_behind old.main.size (old.head.atoms - at) n body spans.some spans.whole

no_values : (size : ℕ) (text : List ℕ) → 0 < size → length text ≡ 0 → texts_of size text ≡ []
no_values size text some none =
    ap (λ all. texts_of size all) (nil_from_length text none) ∙ none_of size some

-- a part without bytes wrote nothing
wrote_if : (called : Bool) (size at : ℕ) (text : List ℕ) → 0 < size
    → (called ≡ false → length text ≡ 0)
    → (cells next : List Cell) → StepIf called (Wrote at (texts_of size text)) cells next
    → Wrote at (texts_of size text) cells next
wrote_if true size at text some none cells next step = step
wrote_if false size at text some none cells next step =
    step ∙ sym
    (ap (λ values. changed wrote cells at values) (no_values size text some (none refl))
    ∙ changed-nil wrote cells at)

tried_if : (called : Bool) (at : ℕ) (values : List (List ℕ)) (cells next : List Cell)
    → StepIf called (λ cells next. IsTried cells at values next) cells next
    → IsTried cells at values next
tried_if true at values cells next step = step
tried_if false at values cells next step = rw step (tried_not cells at values)

wrote_step : (of_head of_main : Bool) (old new : Joint) (at n : ℕ) (body front back : List ℕ)
    → ShowsDisk old.head
    → Spans old new at n body front back → (of_head ≡ false → length front ≡ 0)
    → (of_main ≡ false → length back ≡ 0)
    → (cells next : List Cell)
    → BothStep old of_head of_main (Wrote at (texts_of old.main.size front))
    (Wrote (at - old.head.atoms) (texts_of old.main.size back)) cells next
    → Wrote at (texts_of old.main.size body) cells next
wrote_step of_head of_main old new at n body front back shows spans no_front no_back cells next
    step =
    let size = old.main.size in
    let long : length step.head.now ≡ old.head.atoms =
    head_count old step.head shows step.head_is in
    let of_xs : step.next_head
    ≡ changed wrote step.head.now at (take (length step.head.now - at) (texts_of size body)) =
    wrote_if of_head size at front spans.some no_front step.head.now step.next_head step.head_step
    ∙ ap (λ values. changed wrote step.head.now at values)
    (front_values old new at n body front back spans
    ∙ ap (λ k. take (k - at) (texts_of size body)) (sym long)) in
    let of_ys : step.next_main
    ≡ changed wrote step.main.now (at - length step.head.now)
    (drop (length step.head.now - at) (texts_of size body)) =
    wrote_if of_main size (at - old.head.atoms) back spans.some no_back step.main.now step.next_main
    step.main_step
    ∙ ap (λ values. changed wrote step.main.now (at - old.head.atoms) values)
    (back_values old new at n body front back spans)
    ∙ ap (λ k. changed wrote step.main.now (at - k) (drop (k - at) (texts_of size body)))
    (sym long) in
    step.new_is ∙ ap₂ (λ a b. both_tables old.used a b) of_xs of_ys
    ∙ changed_both wrote old.used step.head.now step.main.now at (texts_of size body)
    ∙ ap (λ all. changed wrote all at (texts_of size body)) (sym step.old_is)

tried_step : (of_head of_main : Bool) (old new : Joint) (at n : ℕ) (body front back : List ℕ)
    → ShowsDisk old.head
    → Spans old new at n body front back → (cells next : List Cell)
    → BothStep old of_head of_main
    (λ cells next. IsTried cells at (texts_of old.main.size front) next)
    (λ cells next. IsTried cells (at - old.head.atoms) (texts_of old.main.size back) next) cells
    next
    → IsTried cells at (texts_of old.main.size body) next
tried_step of_head of_main old new at n body front back shows spans cells next step =
    let size = old.main.size in
    let values = texts_of size body in
    let long : length step.head.now ≡ old.head.atoms =
    head_count old step.head shows step.head_is in
    let of_xs : IsTried step.head.now at (take (length step.head.now - at) values) step.next_head =
    subst (λ all. IsTried step.head.now at all step.next_head)
    (front_values old new at n body front back spans
    ∙ ap (λ k. take (k - at) values) (sym long))
    (tried_if of_head at (texts_of size front) step.head.now step.next_head step.head_step) in
    let of_ys : IsTried step.main.now (at - length step.head.now)
    (drop (length step.head.now - at) values) step.next_main =
    subst (λ k. IsTried step.main.now (at - k) (drop (k - at) values) step.next_main) (sym long)
    (subst (λ all. IsTried step.main.now (at - old.head.atoms) all step.next_main)
    (back_values old new at n body front back spans)
    (tried_if of_main (at - old.head.atoms) (texts_of size back) step.main.now step.next_main
    step.main_step)) in
    rw (step.old_is, step.new_is)
    (tried_both old.used step.head.now step.main.now at values step.next_head step.next_main of_xs
    of_ys)

-- what a part wrote, and what one that failed left, where its disk tells its bytes
abbrev HasWritten : ℕ → ℕ → List ℕ → Device → Device → Type 0
HasWritten size at text old new =
    (values : List ℕ) → old.values ≡ Some values
    → new.values ≡ Some (pasted values (at * size) text)

abbrev HasTried : ℕ → ℕ → List ℕ → Device → Device → Type 0
HasTried size at text old new = (values : List ℕ) → old.values ≡ Some values →
    (left : List ℕ) × (new.values ≡ Some left) × SameOutside (at * size) (length text) values left

written_none : (size at : ℕ) (text : List ℕ) (old new : Device) → new ≡ old → length text ≡ 0
    → HasWritten size at text old new
written_none size at text old new same none values is =
    ap (λ one. one.values) same ∙ is
    ∙ ap (λ one. Some one)
    (sym (ap (λ all. pasted values (at * size) all) (nil_from_length text none)
    ∙ pasted-nil values (at * size)))

tried_alone : (size at : ℕ) (text : List ℕ) (old new : Device) → new ≡ old
    → HasTried size at text old new
tried_alone size at text old new same values is =
    (values, ap (λ one. one.values) same ∙ is, record { before = refl; behind = refl })

tried_of : (size at : ℕ) (text : List ℕ) (old new : Device)
    → ((values : List ℕ) → old.values ≡ Some values
    → 0 < length text → at * size + length text ≤ length values) → HasWritten size at text old new
    → HasTried size at text old new
tried_of size at [] old new within written values is = (
  values,
  written values is ∙ ap (λ one. Some one) (pasted-nil values (at * size)),
  record { before = refl; behind = refl },
)
tried_of size at (c ∷ text) old new within written values is = (
  pasted values (at * size) (c ∷ text),
  written values is,
  same_pasted (at * size) values (c ∷ text) (within values is (omega arith)),
)

-- lengths of the parts, and of what both disks hold
head_long : (old new : Joint) (at n : ℕ) (body front back values : List ℕ)
    → Spans old new at n body front back → ShowsDisk old.head
    → old.head.values ≡ Some values → length values ≡ old.head.atoms * old.main.size
head_long old new at n body front back values spans shows is =
    shows.whole values is ∙ ap (λ size. old.head.atoms * size) spans.same_size

cut_is : (old : Joint) (at : ℕ) (values : List ℕ) → length values ≡ old.head.atoms * old.main.size
    → (old.head.atoms - at) * old.main.size ≡ length values - at * old.main.size
cut_is old at values long =
    bytes_between old.head.atoms at old.main.size ∙ ap (λ n. n - at * old.main.size) (sym long)

place_is : (old : Joint) (at : ℕ) (values : List ℕ) → length values ≡ old.head.atoms * old.main.size
    → (at - old.head.atoms) * old.main.size ≡ at * old.main.size - length values
place_is old at values long =
    bytes_between at old.head.atoms old.main.size ∙ ap (λ n. at * old.main.size - n) (sym long)

values_told : (old new : Joint) (at n : ℕ) (body front back : List ℕ) → Joins old new
    → Spans old new at n body front back
    → new.main.size ≡ old.main.size
    → HasWritten old.main.size at front old.head new.head
    → HasWritten old.main.size (at - old.head.atoms) back old.main new.main
    → (bytes : List ℕ) → (both_disk old).values ≡ Some bytes
    → (both_disk new).values ≡ Some (pasted bytes (at * old.main.size) body)
values_told old new at n body front back joins spans size of_head of_main bytes is =
    let both = both_told _ _ _ bytes is in
    let long = head_long old new at n body front back both.front spans joins.head both.head_is in
    let cut = cut_is old at both.front long in
    let place = place_is old at both.front long in
    let used : old.used * old.main.size ≤ length both.back =
    rw (joins.main.whole both.back both.main_is) (mul-le-mul_right old.main.size spans.fits) in
    let whole : (old.head.atoms + old.used) * old.main.size
    ≡ length both.front + old.used * old.main.size = grind (arith, long) in
    let front_text : pasted both.front (at * old.main.size) front
    ≡ pasted both.front (at * old.main.size) (take (length both.front - at * old.main.size) body) =
    ap (λ text. pasted both.front (at * old.main.size) text)
    (spans.front_is ∙ ap (λ k. take k body) cut) in
    let back_text : pasted both.back ((at - old.head.atoms) * old.main.size) back
    ≡ pasted both.back (at * old.main.size - length both.front)
    (drop (length both.front - at * old.main.size) body) =
    ap₂ (λ k text. pasted both.back k text) place (spans.back_is ∙ ap (λ k. drop k body) cut) in
    ap₂ (λ a b. both_values (new.used * new.main.size) a b) (of_head both.front both.head_is)
    (of_main both.back both.main_is)
    ∙ ap (λ all. Some all) (ap₂ (λ u s. pasted both.front (at * old.main.size) front
    ++ take (u * s) (pasted both.back ((at - old.head.atoms) * old.main.size) back)) joins.used size
    ∙ ap₂ (λ a b. a ++ take (old.used * old.main.size) b) front_text back_text
    ∙ pasted_both (old.used * old.main.size) both.front both.back (at * old.main.size) body
    (omega (arith, spans.within, whole)) used
    ∙ ap (λ all. pasted all (at * old.main.size) body) (sym both.bytes_are))

values_left : (old new : Joint) (at n : ℕ) (body front back : List ℕ) → Joins old new
    → Spans old new at n body front back
    → new.main.size ≡ old.main.size → new.head.size ≡ old.head.size
    → new.head.atoms ≡ old.head.atoms → new.main.atoms ≡ old.main.atoms
    → HasTried old.main.size at front old.head new.head
    → HasTried old.main.size (at - old.head.atoms) back old.main new.main
    → (bytes : List ℕ) → (both_disk old).values ≡ Some bytes
    → (left : List ℕ) × ((both_disk new).values ≡ Some left)
    × SameOutside (at * old.main.size) (length body) bytes left
values_left old new at n body front back joins spans size head_size head_atoms main_atoms of_head
    of_main bytes is =
    let both = both_told _ _ _ bytes is in
    let long = head_long old new at n body front back both.front spans joins.head both.head_is in
    let cut = cut_is old at both.front long in
    let place = place_is old at both.front long in
    let whole : (old.head.atoms + old.used) * old.main.size
    ≡ length both.front + old.used * old.main.size = grind (arith, long) in
    let (next_head, head_is, same_head) = of_head both.front both.head_is in
    let (next_main, main_is, same_main) = of_main both.back both.main_is in
    let long_head : length next_head ≡ length both.front =
    spans.head_after.whole next_head head_is ∙ ap₂ (λ a s. a * s) head_atoms head_size
    ∙ sym (joins.head.whole both.front both.head_is) in
    let long_main : length next_main ≡ length both.back =
    spans.main_after.whole next_main main_is ∙ ap₂ (λ a s. a * s) main_atoms size
    ∙ sym (joins.main.whole both.back both.main_is) in
    let front_len : length front ≡ min (length both.front - at * old.main.size) (length body) =
    ap (λ text. length text) (spans.front_is ∙ ap (λ k. take k body) cut)
    ∙ length-take (length both.front - at * old.main.size) body in
    let back_len : length back ≡ length body - (length both.front - at * old.main.size) =
    ap (λ text. length text) (spans.back_is ∙ ap (λ k. drop k body) cut)
    ∙ length-drop (length both.front - at * old.main.size) body in (
      next_head ++ take (old.used * old.main.size) next_main,
      ap₂ (λ a b. both_values (new.used * new.main.size) a b) head_is main_is
          ∙ ap (λ all. Some all) (ap₂ (λ u s. next_head ++ take (u * s) next_main) joins.used size),
      subst (λ all. SameOutside (at * old.main.size) (length body) all
          (next_head ++ take (old.used * old.main.size) next_main)) (sym both.bytes_are)
          (same_both (old.used * old.main.size) (at * old.main.size) (length body) both.front
          both.back next_head next_main long_head long_main
          (subst (λ m. SameOutside (at * old.main.size) m both.front next_head) front_len same_head)
          (subst (λ m. SameOutside (at * old.main.size - length both.front) m both.back next_main)
          back_len
          (subst (λ k. SameOutside k (length back) both.back next_main) place same_main))
          (omega (arith, spans.within, whole))),
    )

-- as far as a text reaches
pub take_min : (n : ℕ) (text : List ℕ) → take (min n (length text)) text ≡ take n text
take_min n text = by_order (le_or n (length text))
  where
    by_order : (n ≤ length text) ⊎ (length text ≤ n) → take (min n (length text)) text ≡ take n text
    by_order (inl below) =
        ap (λ m. take m text) (let e : min n (length text) ≡ n = omega (arith, below) in e)
    by_order (inr above) =
        ap (λ m. take m text)
        (let e : min n (length text) ≡ length text = omega (arith, above) in e)
        ∙ take_all (length text) text (omega arith) ∙ sym (take_all n text above)

pub drop_min : (n : ℕ) (text : List ℕ) → drop (min n (length text)) text ≡ drop n text
drop_min n text = by_order (le_or n (length text))
  where
    by_order : (n ≤ length text) ⊎ (length text ≤ n) → drop (min n (length text)) text ≡ drop n text
    by_order (inl below) =
        ap (λ m. drop m text) (let e : min n (length text) ≡ n = omega (arith, below) in e)
    by_order (inr above) =
        ap (λ m. drop m text)
        (let e : min n (length text) ≡ length text = omega (arith, above) in e)
        ∙ drop_all (length text) text (omega arith) ∙ sym (drop_all n text above)

-- a disk whose sizes stayed
record SameSizes (old new : Device) : Type 0 where
  size : new.size ≡ old.size
  atoms : new.atoms ≡ old.atoms
  tail : new.tail ≡ old.tail

same_sizes : (old new : Device) → new ≡ old → SameSizes old new
same_sizes old new same = record {
  size = ap (λ one. one.size) same;
  atoms = ap (λ one. one.atoms) same;
  tail = ap (λ one. one.tail) same;
}

write_sizes : (size at : ℕ) (bytes : List ℕ) (number : ℕ) (old new : Device)
    (result : Result (Unit {0}) Failed)
    → WriteCall size at bytes (marked old number) new result → SameSizes old new
write_sizes size at bytes number old new result call =
    record { size = call.size; atoms = call.atoms; tail = call.tail }

write_ok : (of_head of_main : Bool) (at n : ℕ) (body front back : List ℕ) (old new : Joint)
    → Joins old new
    → Spans old new at n body front back → SameSizes old.head new.head → SameSizes old.main new.main
    → (of_head || of_main) ≡ true → (of_head ≡ false → length front ≡ 0)
    → (of_main ≡ false → length back ≡ 0)
    → Turned old.calls of_head (Wrote at (texts_of old.main.size front)) old.head.told new.head.told
    → Turned old.calls of_main (Wrote (at - old.head.atoms) (texts_of old.main.size back))
    old.main.told new.main.told
    → HasWritten old.main.size at front old.head new.head
    → HasWritten old.main.size (at - old.head.atoms) back old.main new.main
    → HasCause {T = Unit {0}} (both_disk old).faults (both_disk new).faults (Ok tt)
    → WriteCall old.main.size at body (both_disk old) (both_disk new) (Ok tt)
write_ok of_head of_main at n body front back old new joins spans head main any no_front no_back
    turn_head turn_main wrote_head wrote_main cause = record {
      size = main.size;
      atoms = ap₂ (λ a b. a + b) head.atoms joins.used;
      tail = main.tail;
      values = values_told old new at n body front back joins spans main.size wrote_head wrote_main;
      told = moves_by
          (BothStep old of_head of_main (Wrote at (texts_of old.main.size front))
          (Wrote (at - old.head.atoms) (texts_of old.main.size back)))
          (Wrote at (texts_of old.main.size body)) (joint_told old) (joint_told new)
          (wrote_step of_head of_main old new at n body front back joins.head spans no_front
          no_back)
          (joint_moves of_head of_main (Wrote at (texts_of old.main.size front))
          (Wrote (at - old.head.atoms) (texts_of old.main.size back)) old new
          (is_call of_head of_main _ _ old new joins turn_head turn_main) any);
      goes_on = λ before is. inr (joint_goes_on old new before is);
      cause = cause;
    }

abbrev Tried : ℕ → List (List ℕ) → List Cell → List Cell → Type 0
Tried at values cells next = IsTried cells at values next

write_err : (at n : ℕ) (body front back : List ℕ) (failed : Failed) (old new : Joint)
    → Joins old new
    → Spans old new at n body front back → SameSizes old.head new.head → SameSizes old.main new.main
    → (called : Bool)
    × Turned old.calls called (Tried at (texts_of old.main.size front)) old.head.told new.head.told
    → (called : Bool)
    × Turned old.calls called (Tried (at - old.head.atoms) (texts_of old.main.size back))
    old.main.told new.main.told
    → HasTried old.main.size at front old.head new.head
    → HasTried old.main.size (at - old.head.atoms) back old.main new.main
    → HasCause {T = Unit {0}} (both_disk old).faults (both_disk new).faults (Err failed)
    → WriteCall old.main.size at body (both_disk old) (both_disk new) (Err failed)
write_err at n body front back failed old new joins spans head main (of_head, turn_head)
    (of_main, turn_main) tried_head tried_main cause = record {
      size = main.size;
      atoms = ap₂ (λ a b. a + b) head.atoms joins.used;
      tail = main.tail;
      values =
          values_left old new at n body front back joins spans main.size head.size head.atoms main.atoms
          tried_head tried_main;
      told = joint_moves_or_not of_head of_main (Tried at (texts_of old.main.size front))
          (Tried (at - old.head.atoms) (texts_of old.main.size back))
          (Tried at (texts_of old.main.size body)) old new
          (tried_step of_head of_main old new at n body front back joins.head spans)
          (is_call of_head of_main _ _ old new joins turn_head turn_main);
      goes_on = λ before is. inr (joint_goes_on old new before is);
      cause = cause;
    }

front_within : (old new : Joint) (at n : ℕ) (body front back values : List ℕ) → Joins old new
    → Spans old new at n body front back
    → old.head.values ≡ Some values → 0 < length front
    → at * old.main.size + length front ≤ length values
front_within old new at n body front back values joins spans is some =
    let long = head_long old new at n body front back values spans joins.head is in
    let front_len : length front ≡ min (length values - at * old.main.size) (length body) =
    ap (λ text. length text) (spans.front_is ∙ ap (λ k. take k body) (cut_is old at values long))
    ∙ length-take (length values - at * old.main.size) body in
    omega (arith, front_len, some)

pub joint_write : (at n : ℕ) (body front back : List ℕ) (old new : Joint)
    (result : Result (Unit {0}) Failed) → Joins old new
    → Spans old new at n body front back
    → BothWritten old.main.size at (at - old.head.atoms) front back old.calls old.head new.head
    old.main new.main result
    → WriteCall old.main.size at body (both_disk old) (both_disk new) result
joint_write at n body front back old new (Ok tt) joins spans (inl (none, same, call)) =
    write_ok false true at n body front back old new joins spans (same_sizes _ _ same)
    (write_sizes _ _ _ _ _ _ _ call) refl
    (λ _. none) (λ is. absurd (cc))
    (turned_not old.calls _ old.head.told new.head.told (ap (λ one. one.told) same))
    (turned old.calls _ old.main.told new.main.told call.told)
    (written_none old.main.size at front old.head new.head same none) call.values
    (cause_right _ _ _ _ _ call.cause (ap (λ one. one.faults) same))
joint_write at n body front back old new (Ok tt) joins spans (inr (inl (done, same, call))) =
    write_ok true false at n body front back old new joins spans (write_sizes _ _ _ _ _ _ _ call)
    (same_sizes _ _ same) refl
    (λ is. absurd (cc)) (λ _. done refl)
    (turned old.calls _ old.head.told new.head.told call.told)
    (turned_not old.calls _ old.main.told new.main.told (ap (λ one. one.told) same))
    call.values
    (written_none old.main.size (at - old.head.atoms) back old.main new.main same (done refl))
    (cause_left _ _ _ _ _ call.cause (ap (λ one. one.faults) same))
joint_write at n body front back old new (Ok tt) joins spans (inr (inr (first, call))) =
    write_ok true true at n body front back old new joins spans (write_sizes _ _ _ _ _ _ _ first)
    (write_sizes _ _ _ _ _ _ _ call) refl
    (λ is. absurd (cc)) (λ is. absurd (cc))
    (turned old.calls _ old.head.told new.head.told first.told)
    (turned old.calls _ old.main.told new.main.told call.told)
    first.values call.values (cause_right _ _ _ _ _ call.cause (first.cause.held refl))
joint_write at n body front back old new (Err failed) joins spans (inl (none, same, call)) =
    write_err at n body front back failed old new joins spans (same_sizes _ _ same)
    (write_sizes _ _ _ _ _ _ _ call)
    (not_turn old.calls _ old.head new.head same)
    (any_turn old.calls _ old.main.told new.main.told call.told)
    (tried_alone old.main.size at front old.head new.head same) call.values
    (cause_right _ _ _ _ _ call.cause (ap (λ one. one.faults) same))
joint_write at n body front back old new (Err failed) joins spans (inr (inl (done, same, call))) =
    write_err at n body front back failed old new joins spans (write_sizes _ _ _ _ _ _ _ call)
    (same_sizes _ _ same)
    (any_turn old.calls _ old.head.told new.head.told call.told)
    (not_turn old.calls _ old.main new.main same)
    call.values (tried_alone old.main.size (at - old.head.atoms) back old.main new.main same)
    (cause_left _ _ _ _ _ call.cause (ap (λ one. one.faults) same))
joint_write at n body front back old new (Err failed) joins spans (inr (inr (first, call))) =
    write_err at n body front back failed old new joins spans (write_sizes _ _ _ _ _ _ _ first)
    (write_sizes _ _ _ _ _ _ _ call)
    (any_turn old.calls (Tried at (texts_of old.main.size front)) old.head.told new.head.told
    (inr (moves_by (Wrote at (texts_of old.main.size front))
    (Tried at (texts_of old.main.size front)) (under old.calls old.head.told) new.head.told
    (λ cells next is. rw is (tried_all cells at (texts_of old.main.size front))) first.told)))
    (any_turn old.calls _ old.main.told new.main.told call.told)
    (tried_of old.main.size at front old.head new.head
    (λ values is some. front_within old new at n body front back values joins spans is some)
    first.values) call.values
    (cause_right _ _ _ _ _ call.cause (first.cause.held refl))

-- the same, by the numbers that the code has
pub write_joined : (at behind atom base cut : ℕ) (body front back : List ℕ) (old new : Joint)
    (result : Result (Unit {0}) Failed)
    → Joins old new → ShowsDisk new.head → ShowsDisk new.main
    → old.main.size ≡ atom → old.head.size ≡ atom → old.head.atoms ≡ base
    → old.used ≤ old.main.atoms → 0 < atom
    → IsInDisk old.main.size (old.head.atoms + old.used) at (length body)
    → front ≡ take cut body → back ≡ drop cut body
    → cut ≡ min (base * atom - at * atom) (length body) → behind ≡ at - base
    → BothWritten old.main.size at behind front back old.calls old.head new.head old.main new.main
    result
    → WriteCall old.main.size at body (both_disk old) (both_disk new) result
write_joined at behind atom base cut body front back old new result joins head_after main_after size
    head_size base_is fits some place
    front_is back_is cut_is behind_is both =
    let bytes : (old.head.atoms - at) * old.main.size ≡ base * atom - at * atom =
    bytes_between old.head.atoms at old.main.size ∙ ap₂ (λ b s. b * s - at * s) base_is size in
    joint_write at (length body / old.main.size) body front back old new result joins
    (record {
      same_size = head_size ∙ sym size;
      some = rw size some;
      fits = fits;
      whole = whole_atoms (length body) old.main.size (rw size some) place.whole;
      within = place.within;
      front_is = front_is ∙ ap (λ n. take n body) cut_is ∙ take_min (base * atom - at * atom) body
          ∙ ap (λ n. take n body) (sym bytes);
      back_is = back_is ∙ ap (λ n. drop n body) cut_is ∙ drop_min (base * atom - at * atom) body
          ∙ ap (λ n. drop n body) (sym bytes);
      head_after = head_after;
      main_after = main_after;
    })
    (subst (λ k. BothWritten old.main.size at k front back old.calls old.head new.head old.main
    new.main result)
    (behind_is ∙ ap (λ b. at - b) (sym base_is)) both)
