-- The answers of all lanes, merged into one history in the order of the deeds.
use Rattle.std.proofs.Common.{◌≡◌, ◌≢◌, inl, inr, ℕ, Bool, true, false, List, [], ◌∷◌, ◌++◌, ◌==◌, ◌%◌}
use Rattle.std.proofs.Common.{if◌then◌else◌, nat_eq, refl, sym, ◌∙◌, ap, subst, arith}
use Rattle.plain_disk.specs.Plain.{Exchange}
use Rattle.block_server.specs.Merging.{AreOfLane, IsMergedFrom}
use Rattle.volume_laws.specs.BesideLanes.Lanes.{answered_at, answered_on}
use Rattle.volume_machine.proofs.Locking.{same_or_not}
use Rattle.volume_machine.specs.Answers.{Answered, AreTagged, Tagged, of_session}
use Rattle.volume_machine.specs.Deeds.{Act, Deed, answered_of, answered_over, client, plain_by, worker}
use Rattle.volume_machine.specs.Edges.{InPlain}
use Rattle.volume_machine.specs.Events.{Event, Outcome, lane_of}
use Rattle.volume_machine.specs.Runs.{answered_by, plain_after}
use Rattle.volume_machine.specs.Seals.{Seals}
use Rattle.volume_machine.specs.States.{State}

-- lists of operations that were answered, in two parts
record Parts (xs ys : List Answered) (tagged : List Tagged) : Type 0 where
  first : List Tagged
  rest : List Tagged
  is : tagged ≡ first ++ rest
  fronts : AreTagged xs first
  rears : AreTagged ys rest

parted : (xs ys : List Answered) (tagged : List Tagged) → AreTagged (xs ++ ys) tagged
    → Parts xs ys tagged
unfolding AreTagged
parted [] ys tagged are =
    record { first = []; rest = tagged; is = refl; fronts = tt; rears = are }
parted (x ∷ xs) ys [] are = absurd are
parted (x ∷ xs) ys (t ∷ tagged) (is, session, are) =
    let behind = parted xs ys tagged are in
    record {
      first = t ∷ behind.first;
      rest = behind.rest;
      is = ap (λ l. t ∷ l) behind.is;
      fronts = (is, session, behind.fronts);
      rears = behind.rears;
    }

joined : (xs ys : List Answered) (first rest : List Tagged) → AreTagged xs first
    → AreTagged ys rest → AreTagged (xs ++ ys) (first ++ rest)
unfolding AreTagged
joined [] ys [] rest are_first are_rest = are_rest
joined [] ys (tagged ∷ first) rest are_first are_rest = absurd are_first
joined (x ∷ xs) ys [] rest are_first are_rest = absurd are_first
joined (x ∷ xs) ys (tagged ∷ first) rest (is, session, are_first) are_rest =
    (is, session, joined xs ys first rest are_first are_rest)

tagged-nil : AreTagged [] []
unfolding AreTagged
tagged-nil = tt

none-tagged : (tagged : List Tagged) → AreTagged [] tagged → tagged ≡ []
unfolding AreTagged
none-tagged [] are = refl
none-tagged (t ∷ tagged) are = absurd are

-- the operations of one session among others
pub of_session-append : (n : ℕ) (xs ys : List Tagged) →
    of_session n (xs ++ ys) ≡ of_session n xs ++ of_session n ys
unfolding of_session
of_session-append n [] ys = refl
of_session-append n (x ∷ xs) ys =
    ap (λ t. if x.session == n then x.exchange ∷ t else t) (of_session-append n xs ys)
    ∙ both (x.session == n) (of_session n xs) (of_session n ys)
  where
    both : (b : Bool) (first rest : List Exchange) →
        (if b then x.exchange ∷ (first ++ rest) else first ++ rest)
        ≡ (if b then x.exchange ∷ first else first) ++ rest
    both true first rest = refl
    both false first rest = refl

pub differ-eqb : (a b : ℕ) → a ≢ b → nat_eq a b ≡ false
differ-eqb a b differ = grind arith

pub same-eqb : (a : ℕ) → nat_eq a a ≡ true
same-eqb a = grind arith

no-session : (n : ℕ) (xs : List Tagged) → xs ≡ [] → of_session n [] ≡ of_session n xs
no-session n xs none = ap (λ l. of_session n l) (sym none)

-- operations of one lane are none of another lane's sessions
of_session-other : (lanes k n : ℕ) (xs : List Tagged) → AreOfLane lanes k xs → n % lanes ≢ k
    → of_session n xs ≡ []
unfolding of_session AreOfLane
of_session-other lanes k n [] are differ = refl
of_session-other lanes k n (x ∷ xs) (is, are) differ =
    let apart : nat_eq x.session n ≡ false =
    differ-eqb x.session n (λ same. differ (ap (λ m. m % lanes) (sym same) ∙ is)) in
    rw apart (of_session-other lanes k n xs are differ)

lane-parts : (lanes k : ℕ) (xs ys : List Tagged) → AreOfLane lanes k (xs ++ ys)
    → AreOfLane lanes k xs × AreOfLane lanes k ys
unfolding AreOfLane
lane-parts lanes k [] ys are = (tt, are)
lane-parts lanes k (x ∷ xs) ys (is, are) =
    let rest = lane-parts lanes k xs ys are in ((is, rest.0), rest.1)

-- the lists of all lanes, with another one in place of one lane's
abbrev instead : (ℕ → List Tagged) → ℕ → List Tagged → ℕ → List Tagged
instead each j now k = if nat_eq j k then now else each k

instead-own : (each : ℕ → List Tagged) (j : ℕ) (now : List Tagged) → instead each j now j ≡ now
instead-own each j now = rw (same-eqb j) refl

instead-other : (each : ℕ → List Tagged) (j k : ℕ) (now : List Tagged) → j ≢ k
    → instead each j now k ≡ each k
instead-other each j k now differ = rw (differ-eqb j k differ) refl

-- each event of a client is of this lane
abbrev pub IsOnLane : ℕ → Act → Type 0
IsOnLane lane (client event outcome) = lane_of event ≡ lane
IsOnLane lane (worker worked) = Unit {0}

unfoldable pub AreOn : {K : Type 0} → ℕ → List (Deed K) → Type 0
AreOn lane [] = Unit {0}
AreOn lane (one ∷ rest) = IsOnLane lane one.act × AreOn lane rest

-- One history of deeds whose answers are tagged lane by lane. That of one lane alone is the lane's.
pub record Merged {K : Type 0} (seals : Seals) (old : State K) (plain : ℕ → InPlain)
    (lanes : ℕ) (each : ℕ → List Tagged) (deeds : List (Deed K)) : Type 0 where
  pub history : List Tagged
  pub answered : AreTagged (answered_over seals old plain deeds) history
  pub merged : IsMergedFrom lanes each history
  pub alone : (lane : ℕ) → AreOn lane deeds → history ≡ each lane

-- the same of one deed and those behind it
record MergedWith {K : Type 0} (seals : Seals) (old : State K) (plain : ℕ → InPlain)
    (lanes : ℕ) (each : ℕ → List Tagged) (act : Act) (after : State K)
    (rest : List (Deed K)) : Type 0 where
  history : List Tagged
  answered : AreTagged (answered_of old act plain
      ++ answered_over seals after (plain_by seals old act plain) rest) history
  merged : IsMergedFrom lanes each history
  alone : (lane : ℕ) → IsOnLane lane act → AreOn lane rest → history ≡ each lane

module _ {K : Type 0} (seals : Seals) (old : State K) (plain : ℕ → InPlain) (lanes : ℕ)
    (each : ℕ → List Tagged) (after : State K) (rest : List (Deed K))
    (own : (k : ℕ) → AreOfLane lanes k (each k)) where
  -- an event of a client, whose lane has the first answers of the list of its own
  merged-client : (event : Event) (outcome : Outcome)
      → ((next : ℕ → List Tagged)
      → ((k : ℕ) → AreTagged (answered_on k seals after
      (plain_after seals old event outcome plain) rest) (next k))
      → ((k : ℕ) → AreOfLane lanes k (next k))
      → Merged seals after (plain_after seals old event outcome plain) lanes next rest)
      → ((k : ℕ) → AreTagged (answered_at k old (client event outcome) plain
      ++ answered_on k seals after (plain_after seals old event outcome plain) rest) (each k))
      → MergedWith seals old plain lanes each (client event outcome) after rest
  merged-client event outcome more are =
      let j = lane_of event in
      let now = answered_by old event outcome plain in
      let later = plain_after seals old event outcome plain in
      let here : AreTagged (now ++ answered_on j seals after later rest) (each j) =
      rw (same-eqb j) at (are j) in
      let parts = parted now (answered_on j seals after later rest) (each j) here in
      let next = instead each j parts.rest in
      let lane_is : AreOfLane lanes j (parts.first ++ parts.rest) =
      subst (λ l. AreOfLane lanes j l) parts.is (own j) in
      let owns = lane-parts lanes j parts.first parts.rest lane_is in
      let behind = more next
      (λ k. elim (same_or_not j k) [
        | inl same ↦ subst
            (λ m. AreTagged (answered_on m seals after later rest) (instead each j parts.rest m))
            same
            (subst (λ l. AreTagged (answered_on j seals after later rest) l)
            (sym (instead-own each j parts.rest)) parts.rears)
        | inr differ ↦ subst (λ l. AreTagged (answered_on k seals after later rest) l)
            (sym (instead-other each j k parts.rest differ)) (rw (differ-eqb j k differ) at (are k))
      ])
      (λ k. elim (same_or_not j k) [
        | inl same ↦ subst (λ m. AreOfLane lanes m (instead each j parts.rest m)) same
            (subst (λ l. AreOfLane lanes j l) (sym (instead-own each j parts.rest)) owns.1)
        | inr differ ↦ subst (λ l. AreOfLane lanes k l)
            (sym (instead-other each j k parts.rest differ)) (own k)
      ]) in
      record {
        history = parts.first ++ behind.history;
        answered = joined now (answered_over seals after later rest) parts.first behind.history
            parts.fronts behind.answered;
        merged = λ n. of_session-append n parts.first behind.history
            ∙ (ap (λ l. of_session n parts.first ++ l) (behind.merged n)
            ∙ elim (same_or_not j (n % lanes)) [
              | inl same ↦ ap (λ l. of_session n parts.first ++ of_session n l)
                  (subst (λ m. instead each j parts.rest m ≡ parts.rest) same
                  (instead-own each j parts.rest))
                  ∙ (sym (of_session-append n parts.first parts.rest)
                  ∙ (ap (λ l. of_session n l) (sym parts.is)
                  ∙ ap (λ m. of_session n (each m)) same))
              | inr differ ↦ ap (λ l. l ++ of_session n (instead each j parts.rest (n % lanes)))
                  (of_session-other lanes j n parts.first owns.0 (λ same. differ (sym same)))
                  ∙ ap (λ l. of_session n l) (instead-other each j (n % lanes) parts.rest differ)
            ]);
        alone = λ lane here on.
            ap (λ (l : List Tagged). parts.first ++ l)
            (behind.alone lane on
            ∙ subst (λ (k : ℕ). instead each j parts.rest k ≡ parts.rest) here
            (instead-own each j parts.rest))
            ∙ (sym parts.is ∙ ap (λ (k : ℕ). each k) here);
      }

  -- a step of the worker answers nothing
  merged-with : (act : Act)
      → ((next : ℕ → List Tagged)
      → ((k : ℕ) → AreTagged (answered_on k seals after (plain_by seals old act plain) rest) (next k))
      → ((k : ℕ) → AreOfLane lanes k (next k))
      → Merged seals after (plain_by seals old act plain) lanes next rest)
      → ((k : ℕ) → AreTagged (answered_at k old act plain
      ++ answered_on k seals after (plain_by seals old act plain) rest) (each k))
      → MergedWith seals old plain lanes each act after rest
  merged-with (client event outcome) more are = merged-client event outcome more are
  merged-with (worker worked) more are = let behind = more each are own in record {
    history = behind.history;
    answered = behind.answered;
    merged = behind.merged;
    alone = λ lane here on. behind.alone lane on;
  }

pub merges : {K : Type 0} (seals : Seals) (old : State K) (plain : ℕ → InPlain) (lanes : ℕ)
    (each : ℕ → List Tagged) (deeds : List (Deed K))
    → ((k : ℕ) → AreTagged (answered_on k seals old plain deeds) (each k))
    → ((k : ℕ) → AreOfLane lanes k (each k)) → Merged seals old plain lanes each deeds
unfolding answered_on answered_over AreOn
merges seals old plain lanes each [] are own = record {
  history = [];
  answered = tagged-nil;
  merged = λ n. no-session n (each (n % lanes)) (none-tagged (each (n % lanes)) (are (n % lanes)));
  alone = λ lane on. sym (none-tagged (each lane) (are lane));
}
merges {K} seals old plain lanes each (one ∷ rest) are own =
    let all = merged-with seals old plain lanes each one.after rest own one.act
    (λ next are_next own_next.
    merges seals one.after (plain_by seals old one.act plain) lanes next rest are_next own_next)
    are in record {
      history = all.history;
      answered = all.answered;
      merged = all.merged;
      alone = λ lane on. all.alone lane on.0 on.1;
    }
