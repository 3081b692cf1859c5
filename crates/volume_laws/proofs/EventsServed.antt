-- Each event goes on from a moment of a run to another, and answers as the plain disk does.
use Rattle.std.proofs.Common.{Bool, List, None, Option, Some, [], ap, arith, false, inl, inr, length}
use Rattle.std.proofs.Common.{map, refl, sym, true, ℕ, ◌<◌, ◌∙◌, ◌∷◌, ◌≡◌, ◌⊎◌}
use Rattle.std.proofs.lemmas.Bool.{MatchBool-at_false, MatchBool-at_true, cases_Bool as either}
use Rattle.plain_disk.specs.Plain.{Block, Exchange, flushed, Legal}
use Rattle.plain_disk.specs.declared.operation.Reply.TheVariants.{Done, Errno}
use Rattle.sector_disk.specs.DiskViews.Views.{IsThinned, View}
use Rattle.segment_map.specs.declared.map.Piece.{Piece}
use Rattle.volume_machine.specs.Answers.{IsExchange, by_admit, flush_reply, refusal, AreExchanges}
use Rattle.volume_machine.specs.Asks.{IsForced, IsRead, IsWrite, has_lock, wrong_ask}
use Rattle.volume_machine.specs.Edges.{InPlain, edge_at, edges_of, nothing}
use Rattle.volume_machine.specs.Events.{Outcome, broken, device, done, got}
use Rattle.volume_machine.specs.Pieces.{ArePieceBytes, IsPieceOf, failing, place_in, place_of}
use Rattle.volume_machine.specs.Runs.{after_fetch, after_read, after_write, with_plain}
use Rattle.volume_machine.specs.Seals.{Seals}
use Rattle.volume_machine.specs.Sound.{IsSound}
use Rattle.volume_machine.specs.States.{IsGoverned, State, open_at, size_of}
use Rattle.volume_machine.specs.Steps.{AdmitStep, CanFetch, EdgeStep, Goes, HasPiece, Holds}
use Rattle.volume_machine.specs.Steps.{IsAdmitted, ReadStep, SettleStep, WriteStep}
use Rattle.volume_machine.specs.Working.{Works}
use Rattle.sector_disk.proofs.DiskViews.Blockwise.{block_at-one}
use Rattle.sector_disk.proofs.DiskViews.DeviceViews.{block-read}
use Rattle.sector_disk.specs.DiskViews.Parts.{block_at}
use Rattle.plain_disk.specs.Plain.{Step as PlainStep}
use Rattle.volume_machine.specs.{declared.ask.Ask.Ask, declared.ask.Ask.TheVariants.Flush}
use Rattle.volume_machine.specs.{declared.open.Open.Open}
use Rattle.volume_laws.specs.Contents.{block_in}
use Rattle.volume_laws.proofs.Admits.{logic_admitted, logic_forgets, shown_admitted, shown_forgets}
use Rattle.volume_laws.proofs.Admits.{unanswered}
use Rattle.volume_laws.proofs.Answering.{answer, legal_none, legal_one, step_flushed, step_refused}
use Rattle.volume_laws.proofs.Answering.{step_unflushed, step_wrong}
use Rattle.volume_laws.proofs.Fetching.{logic_fetched, shown_fetched}
use Rattle.volume_laws.proofs.Here.{Here, Moves, here_after, moves_by_failed_sync, moves_by_read}
use Rattle.volume_laws.proofs.Here.{moves_by_sync, moves_by_tried, moves_by_written, moves_not}
use Rattle.volume_laws.proofs.Here.{piece_in_bytes, piece_in_tables, positive}
use Rattle.volume_laws.proofs.Invariant.{Logic, Shown, Stays, goes_stays, shown_kept}
use Rattle.volume_laws.proofs.PlainBlocks.{block_in-flushed}
use Rattle.volume_laws.proofs.Reading.{AreLive, HasMadeNothing, failing_keeps, forced_writes}
use Rattle.volume_laws.proofs.Reading.{logic_failed, logic_read, never_both, shown_read, writes_lock}
use Rattle.volume_laws.proofs.Settling.{logic_flushed, logic_settled, logic_unflushed}
use Rattle.volume_laws.proofs.Settling.{shown_flushed, shown_settled, shown_unflushed}
use Rattle.volume_laws.proofs.Writing.{TriesPiece, logic_tried, shown_tried, shown_written}

-- what an event leaves of the volume and of the zone at hand
pub record IsFine {K : Type 0} (state : State K) : Type 0 where
  pub sound : IsSound state
  pub works : Works state

-- the moment after an event, and what was answered
pub record Served {K : Type 0} (P Q : Type 0) (seals : Seals) (old new : State K) (now : ℕ → InPlain)
    (left : List Block) (exchanges : List Exchange) : Type 0 where
  pub next : List Block
  pub legal : Legal old.map.atom left exchanges next
  pub here : Here P Q new seals now next
  pub map : new.map ≡ old.map
  pub work : new.work ≡ old.work
  pub newest : (b : ℕ) → b < old.map.blocks → IsGoverned old b
      → (block_in next b).newest ≡ (block_in left b).newest

-- an event that changes no block of the plain disk
pub goes_on : {K P Q : Type 0} {seals : Seals} {old new : State K} {now : ℕ → InPlain}
    {left : List Block} {exchanges : List Exchange} → Stays old new
    → Legal old.map.atom left exchanges left → Here P Q new seals now left
    → Served P Q seals old new now left exchanges
goes_on {left = left} stays legal here = record {
  next = left;
  legal = legal;
  here = here;
  map = stays.map;
  work = stays.work;
  newest = λ b below of. refl;
}

-- a write that is settled
pub forced_locks : (ask : Ask) → IsForced ask → has_lock ask ≡ true
forced_locks ask forced = writes_lock ask (forced_writes ask forced)

module _ {K P Q : Type 0} {seals : Seals} {old new : State K} {plain : ℕ → InPlain}
    {left : List Block} (lane : ℕ) (exchanges : List Exchange)
    (here : Here P Q old seals plain left) (fine : IsFine new) where
  -- an operation that is refused
  refused_served : (session : ℕ) (ask : Ask) (number : ℕ) → open_at old.lanes lane ≡ None
      → new ≡ old
      → ((exchange : Exchange) → IsExchange (refusal old.map.atom session ask number) exchange
      → PlainStep old.map.atom left exchange left)
      → AreExchanges (refusal old.map.atom session ask number
      ∷ []) exchanges → Served P Q seals old new (with_plain plain lane nothing) left exchanges
  refused_served session ask number free same step are =
      rw same (goes_on (record { map = refl; work = refl })
      (legal_one old.map.atom left left (refusal old.map.atom session ask number) exchanges step are)
      (here_after here refl here.works (λ whole. (whole, refl)) (logic_forgets lane nothing free
      here.logic) (moves_not refl here.values) (λ view after. shown_forgets lane nothing free)))

  admitted_served : {session : ℕ} {ask : Ask} {outcome : Outcome} → open_at old.lanes lane ≡ None
      → wrong_ask old.map.atom (size_of old.map) ask ≡ None
      → IsAdmitted old lane session ask outcome new
      → AreExchanges (by_admit old.map.atom session ask outcome) exchanges
      → Served P Q seals old new (with_plain plain lane nothing) left exchanges
  admitted_served free proper is are = goes_on (goes_stays is.goes) (legal_none old.map.atom
      left exchanges (rw (unanswered is) at are)) (here_after here is.goes.map fine.works (λ whole.
      (sym is.goes.broken_is ∙ whole, refl)) (logic_admitted is here.logic fine.sound proper)
      (moves_not is.rests here.values) (λ view after. shown_admitted is (positive here) free))

  pub admit_served : (session : ℕ) (ask : Ask) (outcome : Outcome) → open_at old.lanes lane ≡ None
      → AdmitStep old lane session ask outcome new
      → AreExchanges (by_admit old.map.atom session ask outcome) exchanges
      → Served P Q seals old new (with_plain plain lane nothing) left exchanges
  admit_served session ask outcome free step are =
      by (wrong_ask old.map.atom (size_of old.map) ask) refl
    where
      by : (wrong : Option ℕ) → wrong_ask old.map.atom (size_of old.map) ask ≡ wrong
          → Served P Q seals old new (with_plain plain lane nothing) left exchanges
      by (Some number) is = (let (refusing, same) = rw is at step in
          refused_served session ask number free same
          (λ exchange. step_wrong old.map.atom left here.logic.are.count is) (rw refusing at are))
      by None is = let judged = rw is at step in elim (either old.broken) [
        | inl was ↦ let (refusing, same) = MatchBool-at_true _ _ was judged in
            refused_served session ask 5 free same (λ exchange. step_refused
            old.map.atom left here.logic.are.count is (positive here)) (rw refusing at are)
        | inr was ↦ admitted_served free is (MatchBool-at_false _ _ was judged) are
      ]

  -- an event that answers nothing, by what it does to the operations and to the disk
  silent : {now : ℕ → InPlain} {is_fine : Bool} {Rel : View → View → Type 0}
      → AreExchanges [] exchanges → Stays old new
      → (new.broken ≡ false → (old.broken ≡ false) × (is_fine ≡ true)) → Logic new now left
      → Moves P is_fine old.map.atom here.bytes old.disk new.disk Rel
      → ((view after : View) → Rel view after → Shown old seals plain left view
      → Shown new seals now left after) → Served P Q seals old new now left exchanges
  silent are stays unbroken logic moves shows = goes_on stays (legal_none old.map.atom
      left exchanges are) (here_after here stays.map fine.works unbroken logic moves shows)

  -- an event of an operation that failed, which wrote nothing
  failed_served : {o : Open} {is_broken : Bool} {Rel : View → View → Type 0}
      → AreExchanges [] exchanges → open_at old.lanes lane ≡ Some o
      → Goes old new lane old.entries (Some (failing o)) is_broken
      → (is_broken ≡ false → old.broken ≡ false)
      → (IsWrite o.ask → (is_broken ≡ true) ⊎ HasMadeNothing o)
      → Moves P true old.map.atom here.bytes old.disk new.disk Rel
      → ((view after : View) → Rel view after → IsThinned view after × (is_broken ≡ false
      → (place : ℕ) → after.current place ≡ view.current place))
      → Served P Q seals old new plain left exchanges
  failed_served are at goes unbroken breaks moves thins =
      silent are (goes_stays goes) (λ whole. (unbroken (sym goes.broken_is ∙ whole), refl))
      (logic_failed at goes unbroken breaks fine.sound here.logic) moves
      (λ view after moved. (let (thinned, current) = thins view after moved in
      shown_kept (goes_stays goes) (failing_keeps at goes) (λ whole. (let stays =
      sym goes.broken_is ∙ whole in (unbroken stays, current stays))) thinned))

  -- a piece is read
  pub read_served : {o : Open} (outcome : Outcome) → AreExchanges [] exchanges
      → open_at old.lanes lane ≡ Some o → IsRead o.ask → HasPiece o → Holds old lane
      → (old.broken ≡ false → AreLive old o) → ReadStep old lane o outcome new
      → Served P Q seals old new (after_read seals old lane outcome plain) left exchanges
  read_served (got bytes) are at reads has holds live step =
      silent are (goes_stays step.goes) (λ whole. (step.was, refl))
      (logic_read at reads step here.lawful (positive here) here.shown (live step.was) has holds
      (λ k. block-read old.map.atom (place_of old.map step.piece) step.piece.count bytes here.bytes
      old.disk new.disk k step.call here.values step.are.size) fine.sound here.logic)
      (moves_by_read step.call here.values) (λ view after. shown_read at reads step)
  read_served {o = o} device are at reads has holds live step = failed_served are at step.goes
      (λ whole. step.was) (λ writing. absurd (never_both o.ask reads writing)) (moves_by_read
      step.call here.values) (λ view after same. (same.candidates, λ whole. same.current))
  read_served broken are at reads has holds live step =
      failed_served are at step.goes (λ whole. absurd (cc)) (λ writing. inl refl) (moves_not
      step.rests here.values) (λ view after same. (same.candidates, λ whole. same.current))
  read_served _ are at reads has holds live step = absurd step

  -- an edge is read
  pub fetch_served : {o : Open} (which : ℕ) (outcome : Outcome) → AreExchanges [] exchanges
      → open_at old.lanes lane ≡ Some o → CanFetch old.map which o → Holds old lane
      → (old.broken ≡ false → AreLive old o) → EdgeStep old lane o which outcome new
      → Served P Q seals old new (after_fetch seals old lane which outcome plain) left exchanges
  fetch_served {o = o} which (got bytes) are at can holds live step =
      let content : bytes
      ≡ block_at old.map.atom here.bytes (place_in old.map (edge_at old.map.atom o.ask which)) =
      sym (block_at-one old.map.atom bytes step.are.size)
      ∙ block-read old.map.atom (place_in old.map (edge_at old.map.atom o.ask which)) 1 bytes
      here.bytes old.disk new.disk 0 step.call here.values step.are.size (omega arith)
      ∙ ap (λ n. block_at old.map.atom here.bytes n) (omega arith) in
      silent are (goes_stays step.goes) (λ whole. (step.was, refl))
      (logic_fetched at can step here.lawful (positive here) here.shown (live step.was) holds content
      here.logic fine.sound)
      (moves_by_read step.call here.values) (λ view after. shown_fetched at can step)
  fetch_served which device are at can holds live step = failed_served are at step.goes
      (λ whole. step.was) (λ writing. inr (can.begins, can.goes_on)) (moves_by_read
      step.call here.values) (λ view after same. (same.candidates, λ whole. same.current))
  fetch_served which broken are at can holds live step =
      failed_served are at step.goes (λ whole. absurd (cc)) (λ writing. inl refl) (moves_not
      step.rests here.values) (λ view after same. (same.candidates, λ whole. same.current))
  fetch_served which _ are at can holds live step = absurd step

  -- a piece is written
  tries : {o next : Open} {piece : Piece} {bytes : List ℕ} {is_broken : Bool}
      → open_at old.lanes lane ≡ Some o → IsWrite o.ask
      → o.fetched ≡ length (edges_of old.map.atom o.ask) → HasPiece o → Holds old lane
      → IsPieceOf old.map o piece → ArePieceBytes old.map piece bytes → AreLive old o
      → old.broken ≡ false → Goes old new lane old.entries (Some next) is_broken → next.ask ≡ o.ask
      → next.range ≡ o.range → next.fetched ≡ o.fetched → next.settled ≡ o.settled
      → TriesPiece old new seals plain left lane o next piece bytes
  tries {is_broken = is_broken} at writing edges has holds is_piece are live whole goes ask range
      fetched unsettled = record {
        live = live;
        works = here.works;
        whole = whole;
        lawful = here.lawful;
        some = positive here;
        apart = here.apart;
        logic = here.logic;
        at = at;
        writes = writing;
        edges = edges;
        has = has;
        holds = holds;
        is_piece = is_piece;
        are = are;
        is_broken = is_broken;
        goes = goes;
        ask = ask;
        range = range;
        fetched = fetched;
        unsettled = unsettled;
      }

  pub write_served : {o : Open} (bytes : List ℕ) (outcome : Outcome) → AreExchanges [] exchanges
      → open_at old.lanes lane ≡ Some o → IsWrite o.ask
      → o.fetched ≡ length (edges_of old.map.atom o.ask) → HasPiece o → Holds old lane
      → (old.broken ≡ false → AreLive old o) → WriteStep old lane o bytes outcome new
      → Served P Q seals old new (after_write seals old lane bytes outcome plain) left exchanges
  unfolding tries
  write_served {o = o} bytes done are at writing edges has holds live step =
      let begun = (here.logic.sound.under_way lane o at).begun in
      let first : step.piece.first ≡ o.next = step.next.first in
      let it = tries at writing edges has holds step.next step.are (live step.was) step.was
      step.goes refl refl refl refl in
      silent are (goes_stays step.goes) (λ whole. (step.was, refl))
      (logic_tried it fine.sound (λ whole. step.was) (omega arith) (λ whole. omega arith)
      (λ failed. absurd (cc))) (moves_by_written step.piece.count step.call here.values
      (positive here) step.are.size (piece_in_bytes o here step.was step.next (live step.was) begun)
      (piece_in_tables o here step.was step.next (live step.was) begun))
      (λ view after wrote. shown_written it view after wrote)
  write_served bytes device are at writing edges has holds live step =
      let it = tries at writing edges has holds step.next step.are (live step.was) step.was
      step.goes refl refl refl refl in
      silent are (goes_stays step.goes) (λ whole. absurd (cc)) (logic_tried
      it fine.sound (λ whole. absurd (cc)) (omega arith) (λ whole. absurd (cc)) (λ failed. refl))
      (moves_by_tried step.piece.count step.call here.values (positive here) step.are.size)
      (λ view after attempted. shown_tried it view after attempted step.goes.broken_is)
  write_served bytes broken are at writing edges has holds live step =
      failed_served are at step.goes (λ whole. absurd (cc)) (λ is. inl refl) (moves_not
      step.rests here.values) (λ view after same. (same.candidates, λ whole. same.current))
  write_served bytes _ are at writing edges has holds live step = absurd step

  -- a flush that failed
  unflushed_served : {o : Open} {Rel : View → View → Type 0} → open_at old.lanes lane ≡ Some o
      → has_lock o.ask ≡ false → Goes old new lane old.entries None true
      → Moves P true old.map.atom here.bytes old.disk new.disk Rel
      → ((view after : View) → Rel view after → IsThinned view after)
      → AreExchanges (answer old.map.atom o.session Flush nothing (Errno 5) ∷ []) exchanges
      → Served P Q seals old new plain left exchanges
  unflushed_served {o = o} at free goes moves thins are = goes_on (goes_stays goes)
      (legal_one old.map.atom left left (answer old.map.atom o.session Flush nothing (Errno 5)) exchanges
      (λ exchange. step_unflushed old.map.atom left here.logic.are.count (positive here)) are)
      (here_after here goes.map fine.works (λ whole. absurd (cc))
      (logic_unflushed goes (λ whole. absurd (cc)) fine.sound here.logic) moves
      (λ view after moved. shown_unflushed goes at free goes.broken_is (thins view after moved)))

  -- a flush that ends
  pub flush_served : {o : Open} (outcome : Outcome) → open_at old.lanes lane ≡ Some o
      → o.ask ≡ Flush → SettleStep old lane o outcome new
      → AreExchanges (answer old.map.atom o.session Flush nothing (flush_reply outcome) ∷ []) exchanges
      → Served P Q seals old new plain left exchanges
  flush_served {o = o} done at is step are =
      let free : has_lock o.ask ≡ false = rw is refl in
      let goes = rw free at step.goes in record {
        next = map flushed left;
        legal = legal_one old.map.atom left (map flushed left)
            (answer old.map.atom o.session Flush nothing Done)
            exchanges (λ exchange. step_flushed old.map.atom left here.logic.are.count) are;
        here = here_after here step.goes.map fine.works (λ whole. (step.was, refl)) (logic_flushed
            goes step.was fine.sound here.logic) (moves_by_sync step.call here.values) (λ view
            after. shown_flushed goes at free (positive here) here.logic step.was here.works);
        map = step.goes.map;
        work = step.goes.work;
        newest = λ b below of. ap (λ block. block.newest) (block_in-flushed left b (omega arith));
      }
  flush_served {o = o} device at is step are =
      let free : has_lock o.ask ≡ false = rw is refl in
      unflushed_served at free (rw free at step.goes) (moves_by_failed_sync step.call here.values)
      (λ view after thinned. thinned) are
  flush_served {o = o} broken at is step are =
      let free : has_lock o.ask ≡ false = rw is refl in
      unflushed_served at free (rw free at step.goes) (moves_not step.rests here.values)
      (λ view after same. same.candidates) are
  flush_served _ at is step are = absurd step

  pub settle_served : {o : Open} (outcome : Outcome) → AreExchanges [] exchanges
      → open_at old.lanes lane ≡ Some o → IsForced o.ask → o.next ≡ o.range.end
      → SettleStep old lane o outcome new → Served P Q seals old new plain left exchanges
  settle_served {o = o} done are at forced whole step =
      let goes = rw (forced_locks o.ask forced) at step.goes in
      silent are (goes_stays goes) (λ unbroken. (step.was, refl)) (logic_settled
      at whole goes step.was fine.sound here.logic) (moves_by_sync step.call here.values) (λ view
      after. shown_settled at whole goes step.was (positive here) here.logic forced here.works)
  settle_served {o = o} device are at forced whole step = failed_served are at (rw (forced_locks
      o.ask forced) at step.goes) (λ stays. absurd (cc)) (λ writing. inl refl) (moves_by_failed_sync
      step.call here.values) (λ view after thinned. (thinned, λ unbroken. absurd (cc)))
  settle_served {o = o} broken are at forced whole step = failed_served are at (rw (forced_locks
      o.ask forced) at step.goes) (λ stays. absurd (cc)) (λ writing. inl refl) (moves_not
      step.rests here.values) (λ view after same. (same.candidates, λ unbroken. absurd (cc)))
  settle_served _ are at forced whole step = absurd step
