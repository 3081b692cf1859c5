-- What went between two moments and then between two later ones went between the outer ones.
use Rattle.std.proofs.Common.{ℕ, ◌≤◌, List, [], ◌++◌, Some, ap, ◌∙◌, refl, append_assoc, append-nil}
use Rattle.std.proofs.Common.{sym, ⊎_elim, inl, inr, arith}
use Rattle.base_terms.specs.Causes.{Rose}
use Rattle.io_edge.specs.Intake.{Intake}
use Rattle.io_edge.specs.Outlet.{Outlet}
use Rattle.nbd_stream.specs.Traffic.{Took, Sent, HasEnded}

pub took_none : (a : Intake) → Took a a []
took_none a = record {
  given = λ xs is. is ∙ ap Some (sym (append-nil xs));
  left = λ xs is. (xs, refl, is);
}

pub took_more : (a b c : Intake) (xs ys : List ℕ) → Took a b xs → Took b c ys → Took a c (xs ++ ys)
took_more a b c xs ys first second = record {
  given = λ had is. second.given (had ++ xs) (first.given had is)
      ∙ ap Some (append_assoc had xs ys);
  left = λ all is.
      let front = first.left all is in
      let rear = second.left front.0 front.2 in
      (rear.0, front.1 ∙ ap (λ rest. xs ++ rest) rear.1 ∙ sym (append_assoc xs ys rear.0), rear.2);
}

pub ended_later : (a b c : Intake) (xs : List ℕ) → Took a b xs → HasEnded b c → HasEnded a c
ended_later a b c xs took ended all is = let front = took.left all is in ended front.0 front.2

pub sent_none : (s : Outlet) → Sent s s []
sent_none s xs is = is ∙ ap Some (sym (append-nil xs))

pub sent_more : (s s' s'' : Outlet) (xs ys : List ℕ) → Sent s s' xs → Sent s' s'' ys →
    Sent s s'' (xs ++ ys)
sent_more s s' s'' xs ys first second had is = second (had ++ xs) (first had is)
    ∙ ap Some (append_assoc had xs ys)

-- a count that rose since a moment rose since an earlier one
pub rose_earlier : (f f' f'' : ℕ) → f ≤ f' → Rose f' f'' → Rose f f''
rose_earlier f f' f'' early rose = ⊎_elim (λ risen. inl (omega arith)) (λ last. inr last) rose

-- a count that rose between two moments rose between outer ones
pub rose_within : (f f' f'' f''' : ℕ) → f ≤ f' → f'' ≤ f''' → Rose f' f'' → Rose f f'''
rose_within f f' f'' f''' early late rose =
    ⊎_elim (λ risen. inl (omega arith)) (λ last. inr (omega arith)) rose
