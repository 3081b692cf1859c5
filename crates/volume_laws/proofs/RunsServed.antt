-- Runs of events: their operations are those of one plain disk, and a stop leaves what it allows.
use Rattle.std.proofs.Common.{Contains, List, Some, [], ap, arith, false, inl, inr, length, refl}
use Rattle.std.proofs.Common.{subst, suc, sym, ℕ, ◌++◌, ◌<◌, ◌∙◌, ◌∷◌, ◌≡◌}
use Rattle.plain_disk.specs.Plain.{Block, Exchange, values_of, Legal}
use Rattle.sector_disk.specs.DiskViews.Parts.{cell_in, value_in}
use Rattle.sector_disk.specs.DiskViews.Views.{View, view_of_bytes, view_of_cells}
use Rattle.volume_machine.specs.Answers.{by_settle, AreExchanges}
use Rattle.volume_machine.specs.Asks.{IsRead, IsWrite}
use Rattle.volume_machine.specs.Edges.{InPlain}
use Rattle.volume_machine.specs.Effects.{breaks}
use Rattle.volume_machine.specs.Events.{Event, Outcome, admits, asks, fetches, finishes, reads}
use Rattle.volume_machine.specs.Events.{settles, writes}
use Rattle.volume_machine.specs.Pieces.{place_in}
use Rattle.volume_machine.specs.Runs.{Happening, no_plain, IsRun, answered_by, answered_in, last_of}
use Rattle.volume_machine.specs.Runs.{plain_after, plain_in}
use Rattle.volume_machine.specs.Seals.{Seals}
use Rattle.volume_machine.specs.States.{State, open_at}
use Rattle.volume_machine.specs.Steps.{CanFetch, CanSettle, Holds, Meets, SettleStep, Can, Step}
use Rattle.volume_machine.specs.Working.{KeepsApart, Works}
use Rattle.std.proofs.lemmas.Bool.{or_parts}
use Rattle.sector_disk.proofs.DiskViews.{Entries.image_in, TableEntries.place_of_some}
use Rattle.volume_machine.specs.declared.open.Open.{Open}
use Rattle.volume_machine.proofs.{EventEffects.event_effects, Soundness.sound_kept}
use Rattle.volume_laws.specs.Contents.{IsSealed, block_in}
use Rattle.volume_laws.specs.Promises.{ServesEachRun, Starts, StartsCovered, TellsWhole}
use Rattle.volume_laws.proofs.EventsServed.{IsFine, Served, admit_served, fetch_served, flush_served}
use Rattle.volume_laws.proofs.EventsServed.{forced_locks, goes_on, read_served, settle_served}
use Rattle.volume_laws.proofs.EventsServed.{write_served}
use Rattle.volume_laws.proofs.{Admits.idle, Answering.legal_none, EndsServed.finish_served}
use Rattle.volume_laws.proofs.{Here.Here, Here.some_atom, Invariant.Shown, Invariant.TriesNothing}
use Rattle.volume_laws.proofs.{OtherLanes.event_left, PlainBlocks.sure_in, Reading.reads_lock}
use Rattle.volume_laws.proofs.{Reading.writes_lock, SealLemmas.length-sealed, Workings.client_live}
use Rattle.volume_laws.proofs.{Workings.lies_on, Workings.works_apart, Workings.works_stay}

settles_served : {K P Q : Type 0} {seals : Seals} {old new : State K} {plain : ℕ → InPlain}
    {left : List Block} (lane : ℕ) (o : Open) (outcome : Outcome) (exchanges : List Exchange) →
    Here P Q old seals plain left → IsFine new → open_at old.lanes lane ≡ Some o → CanSettle o
    → SettleStep old lane o outcome new
    → AreExchanges (by_settle old.map.atom (Some o) outcome) exchanges
    → Served P Q seals old new plain left exchanges
settles_served lane o outcome exchanges here fine at (inl is) step are =
    flush_served lane exchanges here fine outcome at is step (rw is at are)
settles_served lane o outcome
    exchanges here fine at (inr (forced, whole, unfailed, unsettled)) step are = settle_served
    lane exchanges here fine outcome (rw (forced_locks o.ask forced) at are) at forced whole step

-- the zone at hand after an event of a client
module _ {K : Type 0} (old new : State K) (event : Event) (outcome : Outcome)
    (meets : Meets old event) (step : Step old event outcome new) where
  unbroken_before : new.broken ≡ false → old.broken ≡ false
  unbroken_before whole = let goes = event_effects old new event outcome step in
      (or_parts old.broken (breaks event outcome) (sym goes.broken_is ∙ whole)).0

  others_left : (lane : ℕ) → suc lane ≡ length old.lanes
      → (open_at new.lanes lane ≡ open_at old.lanes lane) × (Holds old lane → Holds new lane)
  others_left lane last =
      let client = meets.client in
      let left = event_left old new event outcome lane step (λ same. omega arith) in
      (left.own, left.holds)

  pub apart_after : KeepsApart old → KeepsApart new
  apart_after keeps work is =
      let goes = event_effects old new event outcome step in
      lies_on (record { map = goes.map; work = goes.work }) unbroken_before goes.lane_is.count
      others_left work (keeps work (sym goes.work ∙ is))

  pub works_after : Works old → Works new
  works_after works = let goes = event_effects old new event outcome step in
      works_stay (record { map = goes.map; work = goes.work }) unbroken_before goes.lane_is.count
      others_left goes.disk.atoms works

-- each event
pub event_served : {K P Q : Type 0} {seals : Seals} {old new : State K} {plain : ℕ → InPlain}
    {left : List Block} (event : Event) (outcome : Outcome) (exchanges : List Exchange) →
    Here P Q old seals plain left → IsFine new → Meets old event → Step old event outcome new
    → AreExchanges (answered_by old event outcome plain) exchanges →
    Served P Q seals old new (plain_after seals old event outcome plain) left exchanges
unfolding Can Step answered_by plain_after
event_served (admits lane session ask) outcome exchanges here fine meets step are =
    admit_served lane exchanges here fine session ask outcome meets.can step are
event_served {old = old} {left = left} (asks lane) outcome exchanges here fine meets step are =
    rw step.1 (goes_on (record { map = refl; work = refl })
    (legal_none old.map.atom left exchanges are) here)
event_served {old = old} (reads lane len) outcome exchanges here fine meets (o, at, step) are =
    let (p, is, can) = meets.can.0 in let same : p ≡ o = cc in
    let reading = subst (λ q. IsRead q.ask) same can.reads in
    read_served lane exchanges here fine outcome are at reading (rw same at can.has) meets.can.1
    (λ whole. client_live lane here.logic.sound (works_apart here.works) whole at (reads_lock o.ask reading)
    meets.can.1 meets.client) step
event_served {old = old} (fetches lane which) outcome exchanges here fine meets (o, at, step) are =
    let (p, is, can) = meets.can.0 in let same : p ≡ o = cc in
    let mine : CanFetch old.map which o = subst (λ q. CanFetch old.map which q) same can in
    fetch_served lane exchanges here fine which outcome are at mine
    meets.can.1 (λ whole. client_live lane here.logic.sound (works_apart here.works) whole at
    (writes_lock o.ask mine.writes) meets.can.1 meets.client) step
event_served {old = old} (writes lane bytes) outcome exchanges here fine meets (o, at, step) are =
    let (p, is, can) = meets.can.0 in let same : p ≡ o = cc in
    let writing = subst (λ q. IsWrite q.ask) same can.writes in
    write_served lane exchanges here fine bytes outcome are at writing (rw same at can.edges)
    (rw same at can.has)
    meets.can.1 (λ whole. client_live lane here.logic.sound (works_apart here.works) whole at
    (writes_lock o.ask writing) meets.can.1 meets.client) step
event_served (settles lane) outcome exchanges here fine meets (o, at, step) are =
    let (p, is, can) = meets.can in let same : p ≡ o = cc in
    settles_served lane o outcome exchanges here fine at (rw same at can) step (rw at at are)
event_served (finishes lane) outcome exchanges here fine meets step are =
    let (o, at, can) = meets.can.0 in
    finish_served lane exchanges here fine at meets.can.1 step.goes step.rests can.locks can.ends
    (rw at at are)

-- exchanges of two lists of answers, one after the other
pub split_exchanges : (xs ys : List _) (exchanges : List Exchange)
    → AreExchanges (xs ++ ys) exchanges → (first : List Exchange) × (rest : List Exchange)
    × (exchanges ≡ first ++ rest) × AreExchanges xs first × AreExchanges ys rest
unfolding AreExchanges
split_exchanges [] ys exchanges are = ([], exchanges, refl, tt, are)
split_exchanges (x ∷ xs) ys [] are = absurd are
split_exchanges (x ∷ xs) ys (exchange ∷ exchanges) are =
    let (first, rest, is, are_first, are_rest) = split_exchanges xs ys exchanges are.1 in
    (exchange ∷ first, rest, ap (λ es. exchange ∷ es) is, (are.0, are_first), are_rest)

pub legal_joined : (atom : ℕ) (old middle new : List Block) (xs ys : List Exchange)
    → Legal atom old xs middle → Legal atom middle ys new → Legal atom old (xs ++ ys) new
unfolding Legal
legal_joined atom old middle new [] ys first rest = rw (← first) rest
legal_joined atom old middle new (exchange ∷ xs) ys (next, step, first) rest =
    (next, step, legal_joined atom next middle new xs ys first rest)

-- a run goes on from a moment to another
record Ran {K : Type 0} (P Q : Type 0) (seals : Seals) (old : State K) (plain : ℕ → InPlain)
    (left : List Block) (run : List (Happening K)) (exchanges : List Exchange) : Type 0 where
  next : List Block
  legal : Legal old.map.atom left exchanges next
  here : Here P Q (last_of old run) seals (plain_in seals old plain run) next

run_served : {K P Q : Type 0} {seals : Seals} {old : State K} {plain : ℕ → InPlain}
    {left : List Block} (run : List (Happening K)) (exchanges : List Exchange) →
    Here P Q old seals plain left → IsRun old run
    → AreExchanges (answered_in seals old plain run) exchanges
    → Ran P Q seals old plain left run exchanges
unfolding IsRun last_of answered_in plain_in
run_served {old = old} {left = left} [] exchanges here is are =
    record { next = left; legal = legal_none old.map.atom left exchanges are; here = here }
run_served {seals = seals} {old = old} {plain = plain} {left = left} (one ∷ rest) exchanges here
    (meets, step, is) are =
    let (first, behind, parts, are_first, are_behind) =
    split_exchanges (answered_by old one.event one.outcome plain) (answered_in
    seals one.after (plain_after seals old one.event one.outcome plain) rest) exchanges are in
    let served = event_served one.event one.outcome first here (record {
      sound = sound_kept old one.after one.event one.outcome here.logic.sound meets step;
      works = works_after _ _ _ one.outcome meets step here.works;
    }) meets step are_first in
    let ran = run_served {old = one.after} {plain = plain_after seals old one.event
    one.outcome plain} {left = served.next} rest behind served.here is are_behind in record {
      next = ran.next;
      legal = subst (λ es. Legal old.map.atom left es ran.next) (sym parts)
          (legal_joined old.map.atom left served.next ran.next first behind served.legal
          (subst (λ m. Legal m.atom served.next behind ran.next) served.map ran.legal));
      here = ran.here;
    }

-- a start is a moment
starts_here : {K : Type 0} {start : State K} {seals : Seals} {blocks : List Block}
    {bytes : List ℕ} → Starts start seals blocks bytes →
    Here (StartsCovered start seals blocks) (TellsWhole start) start seals no_plain blocks
starts_here {start = start} {seals = seals} {blocks = blocks} {bytes = bytes} starts =
    let none : (lane : ℕ) → TriesNothing start no_plain lane =
    λ lane. idle (starts.fresh.lanes lane) in
    let shows : (view : View) → ((b : ℕ) → b < start.map.blocks
    → IsSealed start.map seals b (block_in blocks b).newest (view.current (place_in start.map b)))
    → ((b : ℕ) → b < start.map.blocks → (atom : List ℕ)
    → Contains (view.candidates (place_in start.map b)) atom → (value : List ℕ)
    × Contains (values_of (block_in blocks b)) value × IsSealed start.map seals b value atom)
    → Shown start seals no_plain blocks view = λ view current candidates. record {
      current = λ whole b below.
          ((block_in blocks b).newest, inr (λ lane. none lane b, refl), current b below.inside);
      candidates = λ b below atom contains.
          (let (value, has, sealed) = candidates b below.inside atom contains in
          (value, inl has, sealed));
      settled = λ lane o is. absurd (let free = starts.fresh.lanes lane in cc);
      zone = λ work is. absurd (cc);
    } in record {
      logic = record {
        sound = starts.sound;
        are = starts.are;
        sure = λ whole b below. sure_in blocks b starts.sure (omega arith);
        lanes = λ lane o is. absurd (let free = starts.fresh.lanes lane in cc);
      };
      lawful = starts.lawful;
      apart = starts.apart;
      works = λ work is. absurd (cc);
      bytes = bytes;
      values = starts.values;
      size = λ whole unbroken. whole.bytes bytes starts.values;
      cells = λ whole covered told is. whole.cells told is;
      shown = shows (view_of_bytes start.map.atom bytes) starts.stands
          (λ b below atom contains. absurd (omega arith));
      places = λ covered told is b below. place_of_some told.now (place_in start.map b) (let size =
          length-sealed start.map seals b (block_in blocks b).newest (cell_in told.now
          (place_in start.map b)).current starts.lawful ((covered told is).current b below) in
          omega (arith, some_atom start.map.atom starts.sound.fits.known));
      tables = λ covered told is. shows (view_of_cells told.now) (covered told is).current
          (covered told is).candidates;
    }

-- every run from a start; a stop leaves what is allowed
pub serves_each_run : {K : Type 0} (start : State K) (seals : Seals) → ServesEachRun start seals
serves_each_run start seals = λ blocks bytes run exchanges starts is are.
    let ran = run_served run exchanges (starts_here starts) is are in
    let here = ran.here in let last = last_of start run in record {
      left = ran.next;
      legal = ran.legal;
      now = here.bytes;
      values = here.values;
      stands = here.shown.current;
      size = here.size;
      cells = here.cells;
      stops = λ covered told was image is_image b below. (here.tables covered told was).candidates
          b below (value_in image (place_in last.map b)) (image_in told.now
          image (place_in last.map b) is_image (here.places covered told was b below.inside));
    }
