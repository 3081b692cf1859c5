-- The steps of an admit.
use Rattle.std.proofs.Common.{Bool, MatchBool, None, Option, Some, ap, false, refl, sym, true, ℕ}
use Rattle.std.proofs.Common.{◌∙◌, ◌≡◌}
use Rattle.range_lock.specs.Locks.{IsStanding}
use Rattle.range_lock.specs.declared.Standing.{Standing}
use Rattle.range_lock.specs.declared.Standing.TheVariants.{Held}
use Rattle.volume_machine.specs.Asks.{entry_of, has_lock, range_of, wrong_ask}
use Rattle.volume_machine.specs.Events.{Outcome, admits, refused}
use Rattle.volume_machine.specs.States.{State, begun, size_of}
use Rattle.volume_machine.specs.Steps.{Goes, IsAdmitted, IsReadyFor, TellsStanding, Step}
use Rattle.volume_machine.specs.declared.{ask.Ask.Ask, open.Open.Open}
use Rattle.volume_core.specs.Calls.{Locks}
use Rattle.volume_core.proofs.CodeSteps.{goes-to}

none_of : (o : Option ℕ) → ((n : ℕ) → o ≡ Some n → ⊥) → o ≡ None
none_of None none = refl
none_of (Some n) none = absurd (none n refl)

-- what the operation's judge answered
pub is-proper : (atom size : ℕ) (ask : Ask) (answer : Option ℕ) → answer ≡ wrong_ask atom size ask →
    ((n : ℕ) → answer ≡ Some n → ⊥) → wrong_ask atom size ask ≡ None
is-proper atom size ask answer is none = sym is ∙ none_of answer none

unbroken : (b : Bool) (A B : Type 0) → b ≡ false → B → MatchBool b A B
unbroken true A B is case = absurd (cc)
unbroken false A B is case = case

either_way : (b : Bool) (A B C D : Type 0) → (A → C) → (B → D) → MatchBool b A B → MatchBool b C D
either_way true A B C D one other case = one case
either_way false A B C D one other case = other case

module _ {K : Type 0} (old : State K) (lane session : ℕ) (ask : Ask) where
  -- a refused operation
  pub admit-refused : (answer : Option ℕ) (number : ℕ) →
      answer ≡ wrong_ask old.map.atom (size_of old.map) ask → answer ≡ Some number →
      Step old (admits lane session ask) (refused number) old
  unfolding Step
  admit-refused answer number is some = rw (sym is ∙ some) (refl, refl)

  pub admit-broken : wrong_ask old.map.atom (size_of old.map) ask ≡ None → old.broken ≡ true →
      Step old (admits lane session ask) (refused 5) old
  unfolding Step
  admit-broken proper was = rw (proper, was) (refl, refl)

  -- one that has begun
  pub admit-begun : (new : State K) (o : Open) (standing : Standing) (outcome : Outcome) →
      IsReadyFor old ask → o ≡ begun old.map.atom session ask →
      Locks ask (entry_of old.map.atom lane ask) old.entries new.entries standing →
      ((stands : Standing → Type 0) → stands standing →
      TellsStanding old (range_of old.map.atom ask) stands outcome) →
      Goes old new lane new.entries (Some o) old.broken → new.disk ≡ old.disk →
      Step old (admits lane session ask) outcome new
  unfolding Step
  admit-begun new o standing outcome ready begins locks tells goes rests = rw ready.proper
      (unbroken old.broken _ (IsAdmitted old lane session ask outcome new) ready.unbroken (record {
        enters = either_way (has_lock ask) _ _ _ _ (λ entered. (
          entered.0,
          tells (IsStanding old.entries (entry_of old.map.atom lane ask)) entered.1,
        )) (λ same. (same.0, tells (λ stands. stands ≡ Held) same.1)) locks;
        goes = goes-to (ap (λ x. Some x) begins) refl goes;
        rests = rests;
      }))
