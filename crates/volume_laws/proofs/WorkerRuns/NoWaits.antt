-- A worker that leads a conversion alone waits for nobody: no entry but its own is in the table.
use Rattle.std.proofs.Common.{Bool, Contains, List, MatchOption, None, Option, Some, [], arith}
use Rattle.std.proofs.Common.{false, find, inl, inr, length, one-add, refl, subst, suc, sym, true}
use Rattle.std.proofs.Common.{zero, ℕ, ◌∷◌, ◌≡◌, ◌≢◌}
use Rattle.std.proofs.lemmas.Bool.{cases_Bool as either, cases_lt}
use Rattle.std.specs.List.{before_first}
use Rattle.range_lock.specs.Locks.{is_of, IsStanding, IsStandingOf}
use Rattle.volume_machine.specs.Asks.{has_lock}
use Rattle.volume_machine.specs.Sound.{IsSound}
use Rattle.volume_machine.specs.States.{State, open_at}
use Rattle.std.proofs.lemmas.List.{get_or_past}
use Rattle.range_lock.specs.declared.Entry.{Entry}
use Rattle.range_lock.specs.declared.Standing.TheVariants.{Waiting}
use Rattle.volume_laws.specs.Converting.{IsInOrder}
use Rattle.volume_machine.proofs.Locking.{is_of-own}
use Rattle.volume_machine.specs.Events.{waits}
use Rattle.volume_machine.specs.Readings.{Reading}
use Rattle.volume_machine.specs.States.{IsIdle}
use Rattle.volume_machine.specs.WorkSteps.{AsksAgain, Takes}
use Rattle.volume_laws.proofs.WorkerRuns.LanesIdle.{ClientsIdle, all_idle}

-- ---- lists
found_in : (p : Entry → Bool) (xs : List Entry) (e : Entry) → Contains xs e → p e ≡ true
    → find p xs ≡ None → ⊥
found_in p [] e (k, below, is) own none = omega (arith, below)
found_in p (x ∷ xs) e (zero, below, is) own none =
    let here : p x ≡ true = subst (λ y. p y ≡ true) (sym is) own in
    let some = rw here at none in cc
found_in p (x ∷ xs) e (suc k, below, is) own none = elim (either (p x)) [
  | inl here ↦ (let some = rw here at none in cc)
  | inr past ↦ found_in p xs e (k, omega (arith, below), is) own (rw past at none)
]

before_has : (p : Entry → Bool) (xs : List Entry) (e : Entry) → Contains (before_first p xs) e
    → Contains xs e × (p e ≡ false)
before_has p [] e (k, below, is) = absurd (omega (arith, below))
before_has p (x ∷ xs) e has = elim (either (p x)) [
  | inl here ↦ (let (k, below, is) = rw here at has in absurd (omega (arith, below)))
  | inr past ↦
      (let split : before_first p (x ∷ xs) ≡ x ∷ before_first p xs = simp (past, one-add) in
      by_place past (before_has p xs e) (subst (λ l. Contains l e) split has))
]
  where
    by_place : p x ≡ false → (Contains (before_first p xs) e → Contains xs e × (p e ≡ false))
        → Contains (x ∷ before_first p xs) e → Contains (x ∷ xs) e × (p e ≡ false)
    by_place past later (zero, below, is) =
        ((0, omega arith, is), subst (λ y. p y ≡ false) is past)
    by_place past later (suc k, below, is) =
        let ((n, inside, same), other) = later (k, omega (arith, below), is) in
        ((suc n, omega (arith, inside), same), other)

-- ---- who has an entry has an operation
no_entry : {K : Type 0} (state : State K) (e : Entry) → IsSound state
    → open_at state.lanes e.lane ≡ None → Contains state.entries e → ⊥
no_entry state e sound free has =
    found_in (is_of e.lane) state.entries e has (is_of-own e.lane e refl)
    (rw free at (sound.entries e.lane))

-- an earlier one that conflicts is another lane's
waits_for : (lane other : ℕ) (entries : List Entry) → IsStandingOf lane entries (Waiting other)
    → (e : Entry) × Contains entries e × (e.lane ≢ lane)
waits_for lane other entries = by_own (find (is_of lane) entries) refl
  where
    by_own : (o : Option Entry) → find (is_of lane) entries ≡ o → MatchOption o ⊥
        (λ entry. IsStanding (before_first (is_of lane) entries) entry (Waiting other))
        → (e : Entry) × Contains entries e × (e.lane ≢ lane)
    by_own None is stands = absurd stands
    by_own (Some entry) is (e, (has, conflicts, own)) =
        let (inside, passes) = before_has (is_of lane) entries e has in
        (e, inside, λ same. (let is_own = is_of-own lane e same in absurd (cc)))

module _ {K : Type 0} {reading : Reading} {old new : State K} (order : IsInOrder reading old)
    (clients : ClientsIdle old) where
  pub queues_never : (other : ℕ) → Takes reading old new (waits other) → ⊥
  queues_never other it =
      let idle : IsIdle old = all_idle old it.lane clients it.last it.free in
      elim (either (has_lock it.ask)) [
        | inl has ↦ (let (e, (inside, conflicts, own)) = (rw has at it.admitted.enters).1 in
            no_entry old e order.sound (idle e.lane) inside)
        | inr lockless ↦ (let held = (rw lockless at it.admitted.enters).1 in cc)
      ]

  pub stays_never : (other : ℕ) → AsksAgain reading old new other → ⊥
  stays_never other it =
      let (e, inside, away) = waits_for it.lane other old.entries it.stands in
      no_entry old e order.sound (elim (cases_lt (suc e.lane) (length old.lanes)) [
        | inl below ↦ clients e.lane below
        | inr behind ↦ elim (cases_lt e.lane (length old.lanes)) [
          | inl within ↦ (let last = it.last in
              absurd (away (omega (arith, last, behind, within))))
          | inr past ↦ get_or_past old.lanes e.lane None past
        ]
      ]) inside
