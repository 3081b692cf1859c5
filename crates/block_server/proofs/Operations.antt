-- The operations of all sessions, by the numbers of the sessions and by the lanes that executed them.
use Rattle.std.proofs.Common.{◌≡◌, ◌≢◌, ◌⊎◌, inl, inr, ℕ, ◌+◌, ◌%◌, ◌<◌, ◌≤◌}
use Rattle.std.proofs.Common.{List, [], ◌∷◌, ◌++◌, refl, sym, ◌∙◌}
use Rattle.std.proofs.Common.{ap, subst, append-nil, append_assoc, arith, length}
use Rattle.std.proofs.Math.Nat.{add-mod_right, mod-eq_of_lt, mod-lt}
use Rattle.nbd_session.specs.Turns.{exchanges_of}
use Rattle.plain_disk.specs.Plain.{Exchange}
use Rattle.volume_machine.proofs.Locking.{same_or_not}
use Rattle.volume_machine.proofs.EventEffects.{event_effects}
use Rattle.volume_machine.specs.Answers.{Tagged, of_session, untagged}
use Rattle.volume_machine.specs.Deeds.{Act, AreDeeds, Deed, Does, client, worker}
use Rattle.volume_machine.specs.Readings.{Reading}
use Rattle.volume_machine.specs.Seals.{Seals}
use Rattle.volume_machine.specs.States.{State}
use Rattle.volume_laws.proofs.HoldersKept.{count_kept}
use Rattle.block_server.specs.Merging.{AreOfLane, IsMergedFrom}
use Rattle.block_server.specs.Sessions.{AreNumbered, HasEach, HasNumber, IsOfSessions, Played, tagged}
use Rattle.block_server.specs.Sessions.{operations_of, tagged_of}
use Rattle.block_server.proofs.AllSessions.{all-have, all_of, number-of_all}
use Rattle.block_server.proofs.Merging.{AreOn, IsOnLane, differ-eqb, of_session-append, same-eqb}

of_session-own : (n : ℕ) (xs : List Exchange) → of_session n (tagged n xs) ≡ xs
unfolding of_session
of_session-own n [] = refl
of_session-own n (x ∷ xs) = rw (same-eqb n) (ap (λ (t : List Exchange). x ∷ t) (of_session-own n xs))

of_session-other : (n m : ℕ) (xs : List Exchange) → m ≢ n → of_session n (tagged m xs) ≡ []
unfolding of_session
of_session-other n m [] differ = refl
of_session-other n m (x ∷ xs) differ = rw (differ-eqb m n differ) (of_session-other n m xs differ)

-- ---- sessions with numbers that rise by so many
module _ (step : ℕ) (some : 0 < step) where
  of_session-later : (n number : ℕ) (played : List Played) → AreNumbered step number played
      → n < number → of_session n (tagged_of played) ≡ []
  unfolding tagged_of AreNumbered of_session
  of_session-later n number [] are below = refl
  of_session-later n number (one ∷ rest) are below =
      of_session-append n (tagged one.end.number (exchanges_of one.log.turns)) (tagged_of rest)
      ∙ (ap (λ (t : List Exchange). t ++ of_session n (tagged_of rest))
      (of_session-other n one.end.number (exchanges_of one.log.turns)
      (λ is. omega (arith, is, are.0, below)))
      ∙ of_session-later n (number + step) rest are.1 (omega (arith, below)))

  has-each : (number : ℕ) (before : List Tagged) (played : List Played)
      → AreNumbered step number played
      → ((n : ℕ) → number ≤ n → of_session n before ≡ [])
      → HasEach (before ++ tagged_of played) played
  unfolding HasEach tagged_of AreNumbered
  has-each number before [] are none = tt
  has-each number before (one ∷ rest) are none =
      let n = one.end.number in
      let own = tagged n (exchanges_of one.log.turns) in (
        of_session-append n before (own ++ tagged_of rest)
            ∙ (ap (λ (t : List Exchange). t ++ of_session n (own ++ tagged_of rest))
            (none n (omega (arith, are.0)))
            ∙ (of_session-append n own (tagged_of rest)
            ∙ (ap (λ (t : List Exchange). t ++ of_session n (tagged_of rest))
            (of_session-own n (exchanges_of one.log.turns))
            ∙ (ap (λ (t : List Exchange). exchanges_of one.log.turns ++ t)
            (of_session-later n (number + step) rest are.1 (omega (arith, are.0, some)))
            ∙ append-nil (exchanges_of one.log.turns))))),
        subst (λ (history : List Tagged). HasEach history rest)
            (append_assoc before own (tagged_of rest))
            (has-each (number + step) (before ++ own) rest are.1 (λ m least.
            of_session-append m before own
            ∙ (ap (λ (t : List Exchange). t ++ of_session m own) (none m (omega (arith, least)))
            ∙ of_session-other m n (exchanges_of one.log.turns)
            (λ is. omega (arith, is, are.0, least, some))))),
      )

  each-own : (number : ℕ) (played : List Played) → AreNumbered step number played
      → HasEach (tagged_of played) played
  unfolding of_session
  each-own number played are = has-each number [] played are (λ n least. refl)

  later-lane : (number : ℕ) → (number + step) % step ≡ number % step
  later-lane number = add-mod_right number step

  lane-tagged : (k n : ℕ) (xs : List Exchange) → n % step ≡ k → AreOfLane step k (tagged n xs)
  unfolding AreOfLane
  lane-tagged k n [] is = tt
  lane-tagged k n (x ∷ xs) is = (is, lane-tagged k n xs is)

  lane-append : (k : ℕ) (xs ys : List Tagged) → AreOfLane step k xs → AreOfLane step k ys
      → AreOfLane step k (xs ++ ys)
  unfolding AreOfLane
  lane-append k [] ys first rest = rest
  lane-append k (x ∷ xs) ys first rest = (first.0, lane-append k xs ys first.1 rest)

  pub lane-own : (k number : ℕ) (played : List Played) → AreNumbered step number played
      → number % step ≡ k → AreOfLane step k (tagged_of played)
  unfolding tagged_of AreNumbered AreOfLane
  lane-own k number [] are is = tt
  lane-own k number (one ∷ rest) are is =
      lane-append k (tagged one.end.number (exchanges_of one.log.turns)) (tagged_of rest)
      (lane-tagged k one.end.number (exchanges_of one.log.turns)
      (ap (λ (m : ℕ). m % step) are.0 ∙ is))
      (lane-own k (number + step) rest are.1 (later-lane number ∙ is))

  -- another history that has the same of sessions with such numbers
  each-by : (history own : List Tagged) (k number : ℕ) (played : List Played)
      → AreNumbered step number played → number % step ≡ k
      → ((n : ℕ) → n % step ≡ k → of_session n history ≡ of_session n own)
      → HasEach own played → HasEach history played
  unfolding HasEach AreNumbered
  each-by history own k number [] are is same has = tt
  each-by history own k number (one ∷ rest) are is same has = (
    same one.end.number (ap (λ (m : ℕ). m % step) are.0 ∙ is) ∙ has.0,
    each-by history own k (number + step) rest are.1 (later-lane number ∙ is) same has.1,
  )

  -- a history that is merged from those of the lanes has each session's operations
  pub each-merged : (each : ℕ → List Played) (history : List Tagged)
      → ((k : ℕ) → k < step → AreNumbered step k (each k))
      → IsMergedFrom step (λ k. tagged_of (each k)) history → HasEach history (all_of each step)
  each-merged each history numbers merged =
      all-have history each step (λ k below.
      let least : k % step ≡ k = mod-eq_of_lt below in
      each-by history (tagged_of (each k)) k k (each k) (numbers k below) least
      (λ n is. merged n ∙ ap (λ (j : ℕ). of_session n (tagged_of (each j))) is)
      (each-own k (each k) (numbers k below)))

-- ---- each operation is some session's
number-or-none : (n : ℕ) (played : List Played)
    → HasNumber n played ⊎ (of_session n (tagged_of played) ≡ [])
unfolding tagged_of HasNumber of_session
number-or-none n [] = inr refl
number-or-none n (one ∷ rest) = elim (same_or_not one.end.number n) [
  | inl same ↦ inl (inl same)
  | inr differ ↦ elim (number-or-none n rest) [
    | inl has ↦ inl (inr has)
    | inr none ↦ inr (of_session-append n
        (tagged one.end.number (exchanges_of one.log.turns)) (tagged_of rest)
        ∙ (ap (λ (t : List Exchange). t ++ of_session n (tagged_of rest))
        (of_session-other n one.end.number (exchanges_of one.log.turns) differ)
        ∙ none))
  ]
]

some-here : (before : List Tagged) (one : Tagged) (rest : List Tagged)
    → of_session one.session (before ++ one ∷ rest) ≢ []
unfolding of_session
some-here before one rest = λ none.
    behind (of_session one.session before) (sym none
    ∙ (of_session-append one.session before (one ∷ rest)
    ∙ ap (λ (t : List Exchange). of_session one.session before ++ t) here))
  where
    here : of_session one.session (one ∷ rest) ≡ one.exchange ∷ of_session one.session rest
    here = rw (same-eqb one.session) refl

    behind : (xs : List Exchange)
        → [] ≡ xs ++ one.exchange ∷ of_session one.session rest → ⊥
    behind [] is = absurd (cc)
    behind (x ∷ xs) is = absurd (cc)

known-behind : (played : List Played) (before history : List Tagged)
    → ((n : ℕ) → of_session n (before ++ history) ≢ [] → HasNumber n played)
    → IsOfSessions played history
unfolding IsOfSessions
known-behind played before [] has = tt
known-behind played before (one ∷ rest) has = (
  has one.session (some-here before one rest),
  known-behind played (before ++ one ∷ []) rest
      (subst (λ (h : List Tagged). (n : ℕ) → of_session n h ≢ [] → HasNumber n played)
      (sym (append_assoc before (one ∷ []) rest)) has),
)

pub known-merged : (step : ℕ) → 0 < step → (each : ℕ → List Played) (history : List Tagged)
    → IsMergedFrom step (λ k. tagged_of (each k)) history
    → IsOfSessions (all_of each step) history
known-merged step some each history merged =
    known-behind (all_of each step) [] history (λ n is_some.
    elim (number-or-none n (each (n % step))) [
      | inl has ↦ number-of_all n each step (n % step) (mod-lt n some) has
      | inr none ↦ absurd (is_some (merged n ∙ none))
    ])

-- ---- sessions that follow one another
untagged-append : (xs ys : List Tagged) → untagged (xs ++ ys) ≡ untagged xs ++ untagged ys
unfolding untagged
untagged-append [] ys = refl
untagged-append (x ∷ xs) ys = ap (λ (t : List Exchange). x.exchange ∷ t) (untagged-append xs ys)

untagged-tagged : (n : ℕ) (exchanges : List Exchange) → untagged (tagged n exchanges) ≡ exchanges
unfolding untagged
untagged-tagged n [] = refl
untagged-tagged n (x ∷ xs) = ap (λ (t : List Exchange). x ∷ t) (untagged-tagged n xs)

pub untagged-tagged_of : (played : List Played) → untagged (tagged_of played) ≡ operations_of played
unfolding tagged_of operations_of untagged
untagged-tagged_of [] = refl
untagged-tagged_of (one ∷ rest) =
    untagged-append (tagged one.end.number (exchanges_of one.log.turns)) (tagged_of rest)
    ∙ (ap (λ (t : List Exchange). t ++ untagged (tagged_of rest))
    (untagged-tagged one.end.number (exchanges_of one.log.turns))
    ∙ ap (λ (t : List Exchange). exchanges_of one.log.turns ++ t) (untagged-tagged_of rest))

-- a volume of one client's lane has clients' events of this lane alone
on-act : {K : Type 0} (reading : Reading) (seals : Seals) (old : State K) (act : Act) (new : State K)
    → length old.lanes ≡ 2 → Does reading seals old act new
    → IsOnLane 0 act × (length new.lanes ≡ 2)
on-act reading seals old (client event outcome) new two (meets, step) =
    let is_client = meets.client in (
      omega (arith, is_client, two),
      (event_effects old new event outcome step).lane_is.count ∙ two,
    )
on-act reading seals old (worker worked) new two step = (tt, count_kept step ∙ two)

pub on-first : {K : Type 0} (reading : Reading) (seals : Seals) (start : State K)
    (deeds : List (Deed K)) → length start.lanes ≡ 2 → AreDeeds reading seals start deeds
    → AreOn 0 deeds
unfolding AreOn AreDeeds
on-first reading seals start [] two are = tt
on-first reading seals start (one ∷ rest) two (does, are) =
    let here = on-act reading seals start one.act one.after two does in
    (here.0, on-first reading seals one.after rest here.1 are)
