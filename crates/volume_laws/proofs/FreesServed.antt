-- The last lane's operation ends: what holds at a moment goes on to hold.
use Rattle.std.proofs.Common.{Bool, List, None, Option, Some, ap, arith, false, length, refl, subst}
use Rattle.std.proofs.Common.{suc, sym, ℕ, ◌*◌, ◌-◌, ◌<◌, ◌∙◌, ◌≡◌, ◌≤◌}
use Rattle.plain_disk.specs.Plain.{Block}
use Rattle.volume_machine.specs.Edges.{InPlain}
use Rattle.volume_machine.specs.Seals.{Seals}
use Rattle.volume_machine.specs.States.{IsLive, State, open_at}
use Rattle.volume_machine.specs.Working.{Works}
use Rattle.volume_machine.specs.Works.{Work}
use Rattle.volume_machine.proofs.Soundness.{sound_freed}
use Rattle.volume_machine.specs.WorkSteps.{Frees, LeavesBlocks, LeavesBroken}
use Rattle.volume_machine.specs.Working.{IsWorkers}
use Rattle.volume_machine.specs.Works.{converting, resting}
use Rattle.volume_machine.specs.declared.open.Open.{Open}
use Rattle.volume_laws.proofs.Admits.{idle}
use Rattle.volume_laws.proofs.Finishing.{Ends, logic_ended}
use Rattle.volume_laws.proofs.Here.{Here, here_after, moves_not, positive}
use Rattle.volume_laws.proofs.Invariant.{Logic, TriesNothing, goes_stays, live_back, shown_kept}
use Rattle.volume_laws.proofs.Invariant.{writes_stay}
use Rattle.volume_laws.proofs.Reading.{writes_lock}

-- what the last lane has under way has tried nothing
worker_untried : {K : Type 0} {state : State K} {plain : ℕ → InPlain} {left : List Block} {lane : ℕ}
    {o : Open} → Logic state plain left → 0 < state.map.atom → open_at state.lanes lane ≡ Some o
    → IsWorkers o → TriesNothing state plain lane
worker_untried {state = state} {plain = plain} {lane = lane} {o = o} logic some at is b value tried =
    let one : tried.o ≡ o = (let t = tried.is in cc) in
    let knows = logic.lanes lane o at in
    let exact = knows.exact is.unfailed in
    let next = is.next in
    let size = knows.are.size in
    let enough = tried.tried in
    let none : knows.count ≡ 0 = omega (arith, exact, next) in
    let empty : length (plain lane).bytes ≡ 0 = size ∙ ap (λ n. n * state.map.atom) none ∙ omega arith in
    let bound : 1 * state.map.atom ≤ suc (b - tried.o.range.start) * state.map.atom = grind arith in
    omega (arith, enough, empty, some, bound)

-- the state between: the call was made, and the last lane has its operation still
abbrev pub still_under_way : {K : Type 0} → State K → State K → State K
still_under_way old new = record {
  map = new.map;
  keys = new.keys;
  room = new.room;
  entries = old.entries;
  lanes = old.lanes;
  broken = new.broken;
  work = new.work;
  disk = new.disk;
}

pub then_ends : {K : Type 0} {old new : State K} {is_broken : Bool} {next : Option Work}
    (frees : Frees old new is_broken next) → Ends (still_under_way old new) new frees.lane
then_ends frees = record {
  map = refl;
  keys = refl;
  room = refl;
  entries_are = frees.entries;
  lane_is = frees.lanes;
  broken_is = refl;
  work = refl;
}

-- what is asked of a zone at hand, where it has no block, or the volume is broken
module _ {K : Type 0} {mid new : State K} {lane : ℕ} (goes : Ends mid new lane)
    (rests : new.disk ≡ mid.disk) (last : suc lane ≡ length mid.lanes)
    (bare : (work : Work) → mid.work ≡ Some work → mid.broken ≡ false
    → work.range.end ≤ work.range.start) where
  pub works_freed : Works mid → Works new
  works_freed works work is =
      let was : mid.work ≡ Some work = sym goes.work ∙ is in
      let working = works work was in
      let atoms = ap (λ d. d.atoms) rests in record {
        lies = record {
          apart = working.lies.apart;
          count = working.lies.count;
          inside = rw goes.map working.lies.inside;
          fewer = working.lies.fewer;
          held = λ whole some. absurd (let none = bare work was (sym goes.broken_is ∙ whole) in
              omega (arith, none, some));
          away = λ b live area of. rw goes.map (working.lies.away b (live_before b live) area of);
        };
        enough = rw goes.map working.enough;
        phased = working.phased;
        within = rw atoms working.within;
        sides = λ b from to. rw goes.map (working.sides b from to);
        places = λ b from to. rw goes.map (working.places b from to);
        worker = λ k o is_last at. absurd (let own = goes.lane_is.own in
            let one : k ≡ lane = (let count = goes.lane_is.count in omega (arith, is_last, last, count)) in
            let there = ap (λ n. open_at new.lanes n) one in cc);
        spare = λ area has. (let spare = working.spare area has in record {
          within = rw atoms spare.within;
          copies = spare.copies;
          beside = λ b below. rw goes.map (spare.beside b (rw goes.map at below));
        });
        behind = working.behind;
      }
    where
      live_before : (b : ℕ) → IsLive new b → IsLive mid b
      live_before b live = live_back b (goes_stays goes) live

module _ {K P Q : Type 0} {mid new : State K} {seals : Seals} {plain : ℕ → InPlain}
    {left : List Block} {lane : ℕ} (here : Here P Q mid seals plain left)
    (goes : Ends mid new lane) (rests : new.disk ≡ mid.disk) (last : suc lane ≡ length mid.lanes)
    (workers : (o : Open) → open_at mid.lanes lane ≡ Some o → IsWorkers o)
    (bare : (work : Work) → mid.work ≡ Some work → mid.broken ≡ false
    → work.range.end ≤ work.range.start) where
  freed_tries : TriesNothing mid plain lane
  freed_tries = by (open_at mid.lanes lane) refl
    where
      by : (o : Option Open) → open_at mid.lanes lane ≡ o → TriesNothing mid plain lane
      by (Some o) at = worker_untried here.logic (positive here) at (workers o at)
      by None at = idle at

  pub freed_served : Here P Q new seals plain left
  freed_served =
      let sound = sound_freed here.logic.sound goes (ap (λ d. d.atoms) rests)
      (λ o at. writes_lock o.ask (workers o at).writes) in
      here_after here goes.map (works_freed goes rests last bare here.works) (λ whole. (sym goes.broken_is ∙ whole, refl))
      (logic_ended goes sound here.logic) (moves_not rests here.values)
      (λ view after same. shown_kept (goes_stays goes) (writes_stay goes.map goes.lane_is
      (λ k other. refl) freed_tries (idle goes.lane_is.own) (λ o none. absurd (cc)))
      (λ whole. (sym goes.broken_is ∙ whole, same.current)) same.candidates)

-- ---- nothing but the lane's operation changes
module _ {K P Q : Type 0} {old new : State K} {seals : Seals} {plain : ℕ → InPlain}
    {left : List Block} (here : Here P Q old seals plain left) where
  still_here : {is_broken : Bool} (frees : Frees old new is_broken old.work)
      → is_broken ≡ old.broken → new.disk ≡ old.disk
      → Here P Q (still_under_way old new) seals plain left
  still_here frees broken rests =
      subst (λ s. Here P Q s seals plain left)
      (sym (rw (frees.map, frees.keys, frees.room, frees.broken_is ∙ broken, frees.work, rests) refl))
      here

  pub leaves_served : LeavesBlocks old new → Here P Q new seals plain left
  leaves_served leaves =
      let frees = leaves.frees in
      let rest_works = here.works _ leaves.was in
      freed_served (still_here frees (sym leaves.unbroken) leaves.rests) (then_ends frees) refl
      frees.last (λ o at. rest_works.worker frees.lane o frees.last at)
      (λ work is whole. let same : work ≡ resting leaves.layout leaves.header converting =
      (let rest = frees.work ∙ leaves.was in cc) in rw same (omega arith))

  pub broken_served : LeavesBroken old new → Here P Q new seals plain left
  broken_served leaves =
      let frees = leaves.frees in
      let working = here.works leaves.work leaves.was in
      freed_served (still_here frees (sym leaves.broken) leaves.rests) (then_ends frees) refl
      frees.last (λ o at. working.worker frees.lane o frees.last at)
      (λ work is whole. absurd (let broke = frees.broken_is in cc))
