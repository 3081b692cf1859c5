-- Sessions that are told for each number below an end, as one function of the number.
use Rattle.std.proofs.Common.{◌≡◌, ◌≢◌, ◌⊎◌, inl, inr, ℕ, zero, suc, ◌<◌, ◌≤◌, List, []}
use Rattle.std.proofs.Common.{if◌then◌else◌, nat_eq, refl, sym, subst, arith}
use Rattle.volume_machine.proofs.Locking.{same_or_not}
use Rattle.block_server.specs.Sessions.{Played}
use Rattle.block_server.proofs.Merging.{differ-eqb, same-eqb}

-- one function that tells them, and nothing from the end on
pub record Chosen (Is : ℕ → List Played → Type 0) (end : ℕ) : Type 0 where
  pub each : ℕ → List Played
  pub holds : (k : ℕ) → k < end → Is k (each k)
  pub none : (k : ℕ) → end ≤ k → each k ≡ []

choose-more : (Is : ℕ → List Played → Type 0) (end : ℕ) (before : Chosen Is end)
    (last : List Played) → Is end last → Chosen Is (suc end)
choose-more Is end before last is_last = record {
  each = λ k. if nat_eq k end then last else before.each k;
  holds = λ k below. by k (same_or_not k end) below;
  none = λ k beyond. rw (differ-eqb k end (λ is. omega (arith, is, beyond)))
      (before.none k (omega (arith, beyond)));
}
  where
    by : (k : ℕ) → (k ≡ end) ⊎ (k ≢ end) → k < suc end
        → Is k (if nat_eq k end then last else before.each k)
    by k (inl same) below =
        subst (λ (j : ℕ). Is j (if nat_eq j end then last else before.each j)) (sym same)
        (rw (same-eqb end) is_last)
    by k (inr differ) below =
        rw (differ-eqb k end differ) (before.holds k (omega (arith, below, differ)))

pub choose : (Is : ℕ → List Played → Type 0) (end : ℕ)
    → ((k : ℕ) → k < end → (played : List Played) × Is k played) → Chosen Is end
choose Is zero told = record {
  each = λ k. [];
  holds = λ k below. absurd (omega (arith, below));
  none = λ k beyond. refl;
}
choose Is (suc end) told =
    let last = told end (omega arith) in
    choose-more Is end (choose Is end (λ k below. told k (omega (arith, below)))) last.0 last.1
