-- What the worker did on a cell, and that two such stretches are one.
use Rattle.std.specs.Prelude.{ℕ, ◌≡◌, ◌≤◌, List, [], ◌++◌, length}
use Rattle.std.proofs.Common.{append-nil, append_assoc, ap, inl, inr, length-append, refl, subst}
use Rattle.std.proofs.Common.{sym, ◌∙◌, ◌∷◌, arith}
use Rattle.std.proofs.lemmas.List.Elements.{Contains-append_cases}
use Rattle.gates.specs.declared.gate.Converted.{Converted}
use Rattle.reenc_worker.specs.declared.ends.WorkAnswer.{WorkAnswer}
use Rattle.reenc_worker.specs.declared.ends.WorkAnswer.TheVariants.{Ended}
use Rattle.reenc_worker.specs.declared.ends.WorkerEnd.TheVariants.{Spent}
use Rattle.shared_volume.specs.Lanes.{Knowing}
use Rattle.shared_volume.specs.Working.{AreAnswered, HasCalled, converted_behind, converted_by}
use Rattle.shared_volume.specs.Working.{none, refused, step}
use Rattle.shared_volume.specs.declared.asking.SharedEvent.{SharedEvent}
use Rattle.shared_volume.specs.declared.asking.SharedOutcome.{SharedOutcome}
use Rattle.shared_volume.specs.declared.machine.SharedVolume.{SharedVolume}
use Rattle.volume_cell.specs.Histories.{Begins}
use Rattle.volume_cell.specs.Passes.{IsSamePass}
use Rattle.volume_cell.specs.declared.held.Held.{Held}
use Rattle.volume_cell.specs.declared.history.Call.{Call}
use Rattle.volume_cell.specs.declared.shared.Shared.{Shared}

-- a cell around a volume
abbrev pub VolumeCell : Type 0 → Type 0 → Type 0 → Type 0
VolumeCell D C P = Shared (SharedVolume D)
    (Held (SharedVolume D) SharedEvent SharedOutcome) (Knowing C) P

-- on one cell, by the number of the worker's lane, its calls were answered so
pub record Works {D C P : Type 0} (was_of is_of : VolumeCell D C P) (was is : ℕ)
    (v w : Knowing C) (old new : Converted) (answers : List WorkAnswer) : Type 0 where
  pub cell_is : is_of ≡ was_of
  pub number_is : is ≡ was
  pub called : HasCalled was_of.limit was v w old new answers

-- ---- two stretches are one
answered-joined : (number : ℕ) (xs ys : List (Call SharedEvent SharedOutcome))
    (answers more : List WorkAnswer) → AreAnswered number xs answers → AreAnswered number ys more
    → AreAnswered number (xs ++ ys) (answers ++ more)
answered-joined number _ ys _ more none rest = rest
answered-joined number _ ys _ more (step made calls answers are) rest =
    step made (calls ++ ys) (answers ++ more) (answered-joined number calls ys answers more are rest)
answered-joined number _ ys _ more (refused calls answers are) rest =
    refused (calls ++ ys) (answers ++ more) (answered-joined number calls ys answers more are rest)

converted-joined : (converted : Converted) (xs ys : List (Call SharedEvent SharedOutcome))
    → converted_behind converted (xs ++ ys) ≡ converted_behind (converted_behind converted xs) ys
unfolding converted_behind
converted-joined converted [] ys = refl
converted-joined converted (one ∷ xs) ys = converted-joined (converted_by one.outcome converted) xs ys

begins-on : {X : Type 0} (xs ys zs : List X) → Begins xs ys → Begins ys zs → Begins xs zs
begins-on xs ys zs first later = record {
  rest = first.rest ++ later.rest;
  is = later.is ∙ (ap (λ l. l ++ later.rest) first.is ∙ append_assoc xs first.rest later.rest);
}

begins-longer : {X : Type 0} (xs ys : List X) → Begins xs ys → length xs ≤ length ys
begins-longer xs ys begins =
    let same = ap length begins.is in let sum = length-append xs begins.rest in
    omega (arith, same, sum)

same-on : {C : Type 0} (u v w : Knowing C) → IsSamePass u v → IsSamePass v w → IsSamePass u w
same-on u v w first later = record {
  start = later.start ∙ first.start;
  name = later.name ∙ first.name;
  joined = later.joined ∙ first.joined;
  splits = later.splits ∙ first.splits;
  away = later.away ∙ first.away;
}

called-joined : {C : Type 0} (limit number : ℕ) (u v w : Knowing C) (a b c : Converted)
    (xs ys : List WorkAnswer) → HasCalled limit number u v a b xs → HasCalled limit number v w b c ys
    → HasCalled limit number u w a c (xs ++ ys)
called-joined limit number u v w a b c xs ys first later = record {
  calls = first.calls ++ later.calls;
  is = later.is ∙ (ap (λ l. l ++ later.calls) first.is
      ∙ append_assoc u.calls first.calls later.calls);
  answered = answered-joined number first.calls later.calls xs ys first.answered later.answered;
  converted = later.converted ∙ (ap (λ at. converted_behind at later.calls) first.converted
      ∙ sym (converted-joined a first.calls later.calls));
  same = same-on u v w first.same later.same;
  later = begins-on u.history v.history w.history first.later later.later;
  full = λ contains. elim (Contains-append_cases xs ys (Ended Spent) contains) [
    | inl before ↦ (let longer = begins-longer v.history w.history later.later in
        let full = first.full before in omega (arith, longer, full))
    | inr behind ↦ later.full behind
  ];
}

module _ {D C P : Type 0} where
  pub works_none : (cell : VolumeCell D C P) (number : ℕ) (v : Knowing C) (converted : Converted)
      → Works cell cell number number v v converted converted []
  unfolding converted_behind
  works_none cell number v converted = record {
    cell_is = refl;
    number_is = refl;
    called = record {
      calls = [];
      is = sym (append-nil v.calls);
      answered = none;
      converted = refl;
      same = record { start = refl; name = refl; joined = refl; splits = refl; away = refl };
      later = record { rest = []; is = sym (append-nil v.history) };
      full = λ contains. (let (k, below, is) = contains in omega (arith, below));
    };
  }

  pub works_joined : (one two three : VolumeCell D C P) (first second third : ℕ)
      (u v w : Knowing C) (a b c : Converted) (xs ys : List WorkAnswer)
      → Works one two first second u v a b xs → Works two three second third v w b c ys
      → Works one three first third u w a c (xs ++ ys)
  works_joined one two three first second third u v w a b c xs ys before behind = record {
    cell_is = behind.cell_is ∙ before.cell_is;
    number_is = behind.number_is ∙ before.number_is;
    called = called-joined one.limit first u v w a b c xs ys before.called
        (subst (λ (n : ℕ). HasCalled one.limit n v w b c ys) before.number_is
        (subst (λ (cell : VolumeCell D C P). HasCalled cell.limit second v w b c ys) before.cell_is
        behind.called));
  }
