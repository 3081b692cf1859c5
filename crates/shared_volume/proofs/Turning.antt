-- A call on a lane: that it fits, and what its answer tells.
use Rattle.std.proofs.Common.{◌≡◌, ◌<◌, ℕ, suc, List, [], ◌∷◌, ◌++◌, length, refl, sym, ap, ◌∙◌, subst}
use Rattle.std.proofs.Common.{Option, Some, None, IsSomeAnd}
use Rattle.lane_plan.specs.Calls.{event_of}
use Rattle.lane_plan.specs.declared.calls.Answer.{Answer}
use Rattle.lane_plan.specs.declared.calls.Call as Plans
use Rattle.lane_plan.specs.Plans.{IsShape}
use Rattle.lane_plan.specs.declared.plan.Shape.{Shape}
use Rattle.shared_volume.specs.Calling.{HasFront}
use Rattle.shared_volume.specs.Histories.{FitsLane, StandsFor, alone_by, own_calls}
use Rattle.shared_volume.specs.Lanes.{IsAtRest, IsLaneOf, IsOn, Knowing, MayBeAnswered, StandsSo}
use Rattle.shared_volume.specs.Lanes.{lane_call, seals_at}
use Rattle.shared_volume.specs.declared.asking.SharedEvent.TheVariants as Events
use Rattle.shared_volume.specs.declared.asking.SharedOutcome.TheVariants as Outcomes
use Rattle.shared_volume.proofs.Stood.{same-front, stood-answers}
use Rattle.volume_cell.proofs.Names.{calls_of-append, names-same}
use Rattle.volume_cell.specs.declared.history.Call.{Call}
use Rattle.volume_cell.specs.declared.history.Entry.{Entry}
use Rattle.volume_cell.specs.Histories.{call, calls_of, entry}
use Rattle.volume_cell.specs.Knowing.{beginning, split_off}
use Rattle.volume_cell.specs.Passes.{IsAnswered, IsSamePass}
use Rattle.volume_machine.specs.Alone.{MeetsAlone, alone_of}
use Rattle.volume_machine.specs.Seals.{KeysFit}
use Rattle.volume_machine.specs.Sound.{MapFits}
use Rattle.volume_machine.specs.States.{State}
use Rattle.volume_machine.specs.declared.keys.Keys.{Keys}

-- what is there, and is so
pub some-and : {S : Type 0} (o : Option S) (P : S → Type 0) → IsSomeAnd o P
    → (s : S) × (o ≡ Some s) × P s
some-and None P is = absurd is
some-and (Some s) P is = (s, refl, is)

pub and-some : {S : Type 0} (o : Option S) (P : S → Type 0) (s : S) → o ≡ Some s → P s
    → IsSomeAnd o P
and-some o P s is holds = subst (λ q. IsSomeAnd q P) (sym is) holds

pub same-some : {S : Type 0} {a b : S} → Some a ≡ Some b → a ≡ b
same-some same = cc same

-- what holds of the start of a pass holds of each start that it has
pub only-start : {S : Type 0} {o : Option S} (P : S → Type 0) (s : S) → o ≡ Some s → P s
    → (t : S) → o ≡ Some t → P t
only-start P s is holds t at = subst P (same-some (sym is ∙ at)) holds

module _ {C : Type 0} (sector : C → ℕ) (sealed opened : C → ℕ → List ℕ → List ℕ) (v : Knowing C)
    (number : ℕ) (keys : Keys C) (shape : Shape) (lane : IsLaneOf sector v number keys shape) where
  -- the call fits the asker
  pub fits-of : (called : Plans.Call)
      → StandsSo sealed opened v (λ start alone. MeetsAlone (seals_at sealed opened start) alone (event_of number called))
      → HasFront called → (start : State (Keys C)) → v.start ≡ Some start
      → FitsLane (seals_at sealed opened start) start v.name v.calls (lane_call number called)
  fits-of called meets front start is =
      let (s, at, on) = some-and v.start (IsOn sector number keys shape) lane.start in record {
        lane = lane.name;
        client = subst (λ (t : State (Keys C)). suc number < length t.lanes)
            (same-some (sym at ∙ is)) on.client;
        meets = meets start is;
        front = front;
      }

  -- of blocks that are known
  pub shape-known : IsShape shape
  shape-known = let (s, at, on) = some-and v.start (IsOn sector number keys shape) lane.start in
      on.known

  -- the asker is the lane's still
  pub lane-stays : (w : Knowing C) → IsSamePass v w → IsLaneOf sector w number keys shape
  lane-stays w same = record {
    name = same.name ∙ lane.name;
    start = subst (λ o. IsSomeAnd o (IsOn sector number keys shape)) (sym same.start) lane.start;
    joined = same.joined ∙ lane.joined;
    away = same.away ∙ lane.away;
  }

-- each lane of clients is one of the volume with which a cell was made
pub on-each : {C : Type 0} (sector : C → ℕ) (volume : State (Keys C)) (keys : Keys C)
    (shape : Shape) (first : Knowing C) → first ≡ beginning volume → keys ≡ volume.keys
    → KeysFit sector keys volume.map.atom volume.map.blocks → MapFits volume.map volume.disk.atoms
    → shape.atom ≡ volume.map.atom → shape.blocks ≡ volume.map.blocks → (number : ℕ)
    → suc number < length volume.lanes
    → IsSomeAnd first.start (IsOn sector number keys shape)
on-each {C} sector volume keys shape first is same fit fits atom blocks number client =
    and-some first.start (IsOn sector number keys shape) volume
    (ap (λ (v : Knowing C). v.start) is) (record {
      client = client;
      keys_are = sym same;
      fit = rw (atom, blocks) fit;
      atom = sym atom;
      blocks = sym blocks;
      known = record { known = rw atom fits.known; small = rw (atom, blocks) fits.small };
    })

-- the pass that is split off the first one is of the lane of its number
pub lane-of-split : {C : Type 0} (sector : C → ℕ) (v w : Knowing C) (number : ℕ) (keys : Keys C)
    (shape : Shape) → v.name ≡ [] → v.splits ≡ number
    → IsSomeAnd v.start (IsOn sector number keys shape) → w ≡ split_off v
    → IsLaneOf sector w number keys shape
lane-of-split {C} sector v w number keys shape name next on is = record {
  name = ap (λ (u : Knowing C). u.name) is
      ∙ (ap (λ n. n ++ v.splits ∷ []) name ∙ ap (λ n. n ∷ []) next);
  start = subst (λ o. IsSomeAnd o (IsOn sector number keys shape))
      (sym (ap (λ (u : Knowing C). u.start) is)) on;
  joined = ap (λ (u : Knowing C). u.joined) is;
  away = ap (λ (u : Knowing C). u.away) is;
}

-- a lane that has made no call has no operation
pub rests-first : {C : Type 0} (sealed opened : C → ℕ → List ℕ → List ℕ) (v w : Knowing C)
    → w ≡ split_off v → IsAtRest sealed opened w
unfolding alone_of own_calls
rests-first {C} sealed opened v w is = λ start at.
    ap (λ (u : Knowing C). (alone_by (seals_at sealed opened start) start u.calls).operation) is

-- the calls of an asker in a history that ends in one of them
own-front : {E O : Type 0} (n : List ℕ) (event : E) (outcome : O) (found : List (Entry E O))
    (calls : List (Call E O))
    → calls_of n (found ++ entry n event outcome ∷ []) ≡ calls ++ call event outcome ∷ []
    → calls_of n found ≡ calls
unfolding calls_of
own-front {E} {O} n event outcome found calls is =
    let one : calls_of n (entry n event outcome ∷ []) ≡ call event outcome ∷ [] =
    rw (names-same n n refl) refl in
    same-front (calls_of n found) calls (call event outcome)
    (ap (λ (l : List (Call E O)). calls_of n found ++ l) (sym one)
    ∙ (sym (calls_of-append n found (entry n event outcome ∷ [])) ∙ is))

-- the answer is one that the volume may give
pub may-be-answered : {C : Type 0} (sealed opened : C → ℕ → List ℕ → List ℕ) (limit number : ℕ)
    (called : Plans.Call) (answer : Answer) (v w : Knowing C) (start now : State (Keys C))
    → v.name ≡ number ∷ [] → IsSamePass v w
    → IsAnswered limit v w (Events.Client (lane_call number called)) (Outcomes.Client answer)
    → calls_of w.name w.history ≡ w.calls → w.start ≡ Some start
    → StandsFor (seals_at sealed opened start) start now w.history
    → StandsSo sealed opened v (λ s alone. MayBeAnswered s number alone called answer)
may-be-answered {C} sealed opened limit number called answer v w start now name same answered own
    start_is stands =
    let event = Events.Client (lane_call number called) in
    let outcome = Outcomes.Client answer in
    let last : w.history ≡ answered.found ++ entry (number ∷ []) event outcome ∷ [] =
    answered.last ∙ ap (λ n. answered.found ++ entry n event outcome ∷ []) name in
    let mine : calls_of (number ∷ []) answered.found ≡ v.calls =
    own-front (number ∷ []) event outcome answered.found v.calls
    (ap (λ h. calls_of (number ∷ []) h) (sym last)
    ∙ (ap (λ n. calls_of n w.history) (sym (same.name ∙ name)) ∙ (own ∙ answered.calls))) in
    only-start
    (λ (s : State (Keys C)). MayBeAnswered s number (alone_by (seals_at sealed opened s) s v.calls)
    called answer) start (sym same.start ∙ start_is)
    (subst (λ cs. MayBeAnswered start number (alone_by (seals_at sealed opened start) start cs)
    called answer) mine
    (stood-answers (seals_at sealed opened start) start now answered.found number called answer
    (subst (λ h. StandsFor (seals_at sealed opened start) start now h) last stands)))
