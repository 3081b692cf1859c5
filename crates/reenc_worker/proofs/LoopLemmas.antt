-- The calls of a worker so far.
use Rattle.std.proofs.Common.{List, [], ap, length, refl, ℕ, ◌++◌, ◌+◌, ◌-◌, ◌<◌, ◌^◌, ◌∙◌, ◌∷◌, ◌≡◌, ◌⊎◌, inl, inr}
use Rattle.std.specs.List.{All}
use Rattle.std.proofs.lemmas.List.{length-append}
use Rattle.std.proofs.lemmas.List.Elements.{All-nil, All-push}
use Rattle.reenc_worker.specs.Answers.{AreAnswers, GoesOn, ended, exhausted}
use Rattle.reenc_worker.specs.declared.ends.WorkAnswer.{WorkAnswer}
use Rattle.reenc_worker.specs.declared.ends.WorkAnswer.TheVariants.{Ended, Stepped, Waiting}
use Rattle.reenc_worker.specs.declared.ends.WorkerEnd.{WorkerEnd}
use Rattle.reenc_worker.specs.declared.ends.WorkerEnd.TheVariants.{Spent}

-- so many calls were made, all of which went on
pub record HasGoneOn {S : Type 0} (worked : S → S → List WorkAnswer → Type 0) (n : ℕ) (old now : S) :
    Type 0 where
  pub went : List WorkAnswer
  pub on : All GoesOn went
  pub count : length went ≡ n
  pub did : worked old now went

module _ {S : Type 0} (worked : S → S → List WorkAnswer → Type 0) where
  pub none_made : (old : S) → worked old old [] → HasGoneOn worked 0 old old
  none_made old did = record { went = []; on = All-nil GoesOn; count = refl; did = did }

  module _ (more : (first second third : S) (xs ys : List WorkAnswer) → worked first second xs
      → worked second third ys → worked first third (xs ++ ys))
      {n : ℕ} {old middle new : S} (so_far : HasGoneOn worked n old middle) where
    pub one_more : (answer : WorkAnswer) → GoesOn answer → worked middle new (answer ∷ [])
        → HasGoneOn worked (n + 1) old new
    one_more answer on did = record {
      went = so_far.went ++ answer ∷ [];
      on = All-push GoesOn so_far.went answer so_far.on on;
      count = length-append so_far.went (answer ∷ []) ∙ ap (λ k. k + 1) so_far.count;
      did = more old middle new so_far.went (answer ∷ []) so_far.did did;
    }

    pub last_made : (end : WorkerEnd) → n < 2 ^ 64 - 1 → worked middle new (Ended end ∷ [])
        → (answers : List WorkAnswer) × worked old new answers × AreAnswers end answers
    last_made end below did = (
      so_far.went ++ Ended end ∷ [],
      more old middle new so_far.went (Ended end ∷ []) so_far.did did,
      ended so_far.went so_far.on (rw so_far.count below),
    )

  pub all_made : {n : ℕ} {old new : S} → HasGoneOn worked n old new → n ≡ 2 ^ 64 - 1
      → (answers : List WorkAnswer) × worked old new answers × AreAnswers Spent answers
  all_made so_far is = (
    so_far.went,
    so_far.did,
    exhausted so_far.went so_far.on (so_far.count ∙ is) refl,
  )

pub on_by : (answer : WorkAnswer) → (answer ≡ Stepped) ⊎ (answer ≡ Waiting) → GoesOn answer
on_by answer (inl is) = rw is tt
on_by answer (inr is) = rw is tt
