-- What a turn's answer may be: the machine stood for a history that ends in it.
use Rattle.std.proofs.Common.{◌≡◌, ℕ, List, [], ◌∷◌, ◌++◌, length, refl, sym, ap, ◌∙◌}
use Rattle.std.proofs.Common.{subst, arith, append-nil, append_assoc, ap₂}
use Rattle.lane_plan.specs.Calls.{outcome_of}
use Rattle.lane_plan.specs.declared.calls.Answer.{Answer}
use Rattle.lane_plan.specs.declared.calls.Call as Plans
use Rattle.volume_laws.proofs.BesideLanes.Beside.{are_alone_beside}
use Rattle.volume_laws.specs.BesideLanes.Lanes.{AreMade, AreMetBeside, AreOfClients, Makes, alone_over}
use Rattle.volume_laws.specs.BesideLanes.Lanes.{call_in, calls_over}
use Rattle.shared_volume.specs.Histories.{IsDeedOf, IsEntryOf, StandsFor, Tells, alone_by, event_by}
use Rattle.shared_volume.specs.Lanes.{MayBeAnswered, lane_call}
use Rattle.shared_volume.specs.declared.asking.SharedEvent.{SharedEvent}
use Rattle.shared_volume.specs.declared.asking.SharedEvent.TheVariants as Events
use Rattle.shared_volume.specs.declared.asking.SharedOutcome.{SharedOutcome}
use Rattle.shared_volume.specs.declared.asking.SharedOutcome.TheVariants as Outcomes
use Rattle.shared_volume.proofs.Beginning.{begins-so, some-reading}
use Rattle.shared_volume.proofs.Entries.{own-calls}
use Rattle.volume_cell.specs.declared.history.Entry.{Entry}
use Rattle.volume_cell.specs.Histories.{calls_of, entry}
use Rattle.volume_cell.specs.Passes.{IsAnswered}
use Rattle.volume_cell.specs.declared.knowledge.Knowledge.{Knowledge}
use Rattle.volume_machine.specs.Alone as Own
use Rattle.volume_machine.specs.Alone.{Alone, AreMet, alone_after, alone_of, idle_lane}
use Rattle.volume_machine.specs.Deeds.{Act, Deed, client, state_after}
use Rattle.volume_machine.specs.Readings.{Reading}
use Rattle.volume_machine.specs.Seals.{Seals}
use Rattle.volume_machine.specs.States.{State}
use Rattle.volume_machine.specs.Steps.{Step}
use Rattle.hotzone.specs.ZoneEvents.Readings.{reading_of}

-- a history that ends in an entry tells deeds that end in its deed
record EndsIn {K : Type 0} (lanes : ℕ) (history : List (Entry SharedEvent SharedOutcome))
    (last : Entry SharedEvent SharedOutcome) (deeds : List (Deed K)) : Type 0 where
  front : List (Deed K)
  one : Deed K
  is : deeds ≡ front ++ one ∷ []
  tells : Tells lanes history front
  ends : IsEntryOf lanes last one

ends-in : {K : Type 0} (lanes : ℕ) (history : List (Entry SharedEvent SharedOutcome))
    (last : Entry SharedEvent SharedOutcome) (deeds : List (Deed K))
    → Tells lanes (history ++ last ∷ []) deeds → EndsIn lanes history last deeds
unfolding Tells
ends-in lanes [] last [] tells = absurd tells
ends-in lanes [] last (one ∷ []) (is, tells) =
    record { front = []; one = one; is = refl; tells = tt; ends = is }
ends-in lanes [] last (one ∷ other ∷ deeds) (is, tells) = absurd tells
ends-in lanes (first ∷ history) last [] tells = absurd tells
ends-in lanes (first ∷ history) last (one ∷ deeds) (is, tells) =
    let rest = ends-in lanes history last deeds tells in
    record {
      front = one ∷ rest.front;
      one = rest.one;
      is = ap (λ r. one ∷ r) rest.is;
      tells = (is, rest.tells);
      ends = rest.ends;
    }

-- fronts of deeds
made-front : {K : Type 0} (reading : Reading) (seals : Seals) (old : State K)
    (deeds : List (Deed K)) (one : Deed K) → AreMade reading seals old (deeds ++ one ∷ [])
    → AreMade reading seals old deeds
    × Makes reading seals (state_after old deeds) one.act one.after
unfolding AreMade state_after
made-front reading seals old [] one (makes, made) = (tt, makes)
made-front reading seals old (first ∷ deeds) one (begins, made) =
    let rest = made-front reading seals first.after deeds one made in ((begins, rest.0), rest.1)

clients-front : {K : Type 0} (count : ℕ) (deeds : List (Deed K)) (one : Deed K)
    → AreOfClients count (deeds ++ one ∷ []) → AreOfClients count deeds
unfolding AreOfClients
clients-front count [] one are = tt
clients-front count (first ∷ deeds) one (begins, are) =
    (begins, clients-front count deeds one are)

met-front : (atom : ℕ) (seals : Seals) (alone : Alone) (xs ys : List Own.Call)
    → AreMet atom seals alone (xs ++ ys) → AreMet atom seals alone xs
unfolding AreMet
met-front atom seals alone [] ys met = tt
met-front atom seals alone (x ∷ xs) ys (meets, met) =
    (meets, met-front atom seals (alone_after atom seals alone x.event x.outcome) xs ys met)

calls-front : {K : Type 0} (lane : ℕ) (deeds : List (Deed K)) (one : Deed K)
    → calls_over lane (deeds ++ one ∷ []) ≡ calls_over lane deeds ++ call_in lane one.act
unfolding calls_over
calls-front lane [] one = append-nil (call_in lane one.act)
calls-front lane (first ∷ deeds) one = rw (calls-front lane deeds one)
    (sym (append_assoc (call_in lane first.act) (calls_over lane deeds) (call_in lane one.act)))

front-met : {K : Type 0} (start : State K) (seals : Seals) (deeds front : List (Deed K))
    (one : Deed K) → deeds ≡ front ++ one ∷ [] → AreMetBeside start seals deeds
    → AreMetBeside start seals front
front-met {K} start seals deeds front one is met = record {
  clients = clients-front (length start.lanes) front one
      (subst (λ r. AreOfClients (length start.lanes) r) is met.clients);
  met = λ lane. met-front start.map.atom seals idle_lane (calls_over lane front)
      (call_in lane one.act)
      (subst (λ (cs : List Own.Call). AreMet start.map.atom seals idle_lane cs)
      (ap (λ (r : List (Deed K)). calls_over lane r) is ∙ calls-front lane front one)
      (met.met lane));
}

-- the last entry of the history is its deed
pub record Ends (K : Type 0) (lanes : ℕ) (event : SharedEvent) (outcome : SharedOutcome) : Type 0
  where
    pub one : Deed K
    pub deed : IsDeedOf lanes event outcome one

pub stood-ends : {K : Type 0} (seals : Seals) (start now : State K)
    (found : List (Entry SharedEvent SharedOutcome)) (name : List ℕ) (event : SharedEvent)
    (outcome : SharedOutcome)
    → StandsFor seals start now (found ++ entry name event outcome ∷ [])
    → Ends K (length start.lanes) event outcome
stood-ends seals start now found name event outcome stands =
    let ends = ends-in (length start.lanes) found (entry name event outcome) stands.deeds
    stands.tells in record { one = ends.one; deed = ends.ends.deed }

made-step : {K : Type 0} (reading : Reading) (seals : Seals) (old new : State K) (act : Act)
    (event : _) (outcome : _) → act ≡ client event outcome → Makes reading seals old act new
    → Step old event outcome new
made-step reading seals old new act event outcome is makes =
    subst (λ a. Makes reading seals old a new) is makes

-- the entry at the end of the history is what the volume may answer the lane that asked
pub stood-answers : {K : Type 0} (seals : Seals) (start now : State K)
    (found : List (Entry SharedEvent SharedOutcome)) (number : ℕ) (called : Plans.Call)
    (answer : Answer)
    → StandsFor seals start now (found ++ entry (number ∷ [])
    (Events.Client (lane_call number called)) (Outcomes.Client answer) ∷ [])
    → MayBeAnswered start number (alone_by seals start (calls_of (number ∷ []) found)) called answer
stood-answers {K} seals start now found number called answer stands =
    let lanes = length start.lanes in
    let last = entry (number ∷ []) (Events.Client (lane_call number called))
    (Outcomes.Client answer) in
    let ends = ends-in lanes found last stands.deeds stands.tells in
    let deed = ends.ends.deed in
    let (sizes, read) = some-reading start stands.shared in
    let parts = made-front (reading_of sizes) seals start ends.front ends.one
    (subst (λ r. AreMade (reading_of sizes) seals start r) ends.is (stands.made sizes read)) in
    let met = front-met start seals stands.deeds ends.front ends.one ends.is stands.met in
    let alone = are_alone_beside (reading_of sizes) start seals ends.front
    (begins-so start stands.shared sizes read) parts.0 met in
    let so : alone_over start seals number ends.front
    ≡ alone_by seals start (calls_of (number ∷ []) found) =
    ap (λ (cs : List Own.Call). alone_of start.map.atom seals idle_lane cs)
    (sym (own-calls lanes found ends.front number ends.tells)) in
    record {
      old = state_after start ends.front;
      new = ends.one.after;
      atom = alone.same.atom;
      blocks = alone.same.blocks;
      operation = (alone.lanes number deed.client_is).operation
          ∙ ap (λ (a : Alone). a.operation) so;
      step = made-step (reading_of sizes) seals (state_after start ends.front) ends.one.after
          ends.one.act (event_by (lane_call number called)) (outcome_of answer) deed.act parts.1;
      answers = deed.answers;
    }

-- a list that ends in the same item has the same front
pub same-front : {X : Type 0} (xs ys : List X) (x : X) → xs ++ x ∷ [] ≡ ys ++ x ∷ [] → xs ≡ ys
same-front [] [] x same = refl
same-front [] (y ∷ []) x same = absurd (let l = ap length same in omega arith)
same-front [] (y ∷ z ∷ ys) x same = absurd (let l = ap length same in omega arith)
same-front (y ∷ []) [] x same = absurd (let l = ap length same in omega arith)
same-front (y ∷ z ∷ xs) [] x same = absurd (let l = ap length same in omega arith)
same-front (a ∷ xs) (b ∷ ys) x same =
    let heads : a ≡ b = cc same in
    let tails : xs ++ x ∷ [] ≡ ys ++ x ∷ [] = cc same in
    ap₂ (λ h t. h ∷ t) heads (same-front xs ys x tails)

-- what was asked and answered last is its deed
pub asked-so : {K : Type 0} (seals : Seals) (start now : State K) (limit : ℕ)
    (v w : Knowledge (State K) SharedEvent SharedOutcome) (event : SharedEvent)
    (outcome : SharedOutcome) → StandsFor seals start now w.history
    → IsAnswered limit v w event outcome → Ends K (length start.lanes) event outcome
asked-so seals start now limit v w event outcome stands answered =
    stood-ends seals start now answered.found v.name event outcome
    (subst (λ h. StandsFor seals start now h) answered.last stands)
