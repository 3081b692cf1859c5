-- The piece at which a read has failed: it begins behind the bytes that were read before.
use Rattle.std.proofs.Common.{List, None, Option, Some, [], ap, arith, false, if◌then◌else◌, inl}
use Rattle.std.proofs.Common.{add-zero, inr, length, length-append, max, nat_eq, option_map, refl}
use Rattle.std.proofs.Common.{subst, sym, ℕ}
use Rattle.std.proofs.Common.{◌*◌, ◌++◌, ◌+◌, ◌/◌, ◌==◌, ◌∙◌, ◌∷◌, ◌≡◌, ◌≢◌}
use Rattle.std.proofs.lemmas.Bool.{cases_Bool as either}
use Rattle.volume_machine.specs.Alone.{after_edge, after_put, after_sync, open_after}
use Rattle.volume_machine.specs.Answers.{Answered, by_admit, by_finish, flush_reply, full_reply}
use Rattle.volume_machine.specs.Asks.{IsRead, offset_of}
use Rattle.volume_machine.specs.Beginnings.{IsFresh}
use Rattle.volume_machine.specs.Edges.{InPlain, nothing, with_bytes}
use Rattle.volume_machine.specs.Events.{Event, Outcome, admits, asks, broken, device, done}
use Rattle.volume_machine.specs.Events.{fetches, finishes, got, held, lane_of, reads, refused, settles}
use Rattle.volume_machine.specs.Events.{waits, writes}
use Rattle.volume_machine.specs.Pieces.{failing, moved, side_in}
use Rattle.volume_machine.specs.Runs.{Happening, no_plain, plain_piece, IsRun, answered_by, last_of}
use Rattle.volume_machine.specs.Runs.{plain_after, plain_in, with_plain}
use Rattle.volume_machine.specs.Seals.{AreLawful, Seals}
use Rattle.volume_machine.specs.Sound.{IsSound}
use Rattle.volume_machine.specs.States.{State, begun, open_at}
use Rattle.volume_machine.specs.Steps.{CanSettle, Meets, Can, Step}
use Rattle.volume_machine.specs.Answers.{failed_reply}
use Rattle.volume_machine.specs.declared.ask.Ask.TheVariants.{Read}
use Rattle.volume_machine.specs.declared.{ask.Ask.Ask, open.Open.Open}
use Rattle.volume_machine.proofs.{EventEffects.event_effects, Soundness.sound_kept}
use Rattle.volume_laws.specs.Promises.{PlacesAreExact, placed_error, failed_by, failed_piece}
use Rattle.volume_laws.specs.Promises.{failed_piece_in, next_place}
use Rattle.volume_laws.proofs.{Admits.plain-own, DeviceErrors.by_settle_is, LanesAlone.edge_same}
use Rattle.volume_laws.proofs.{DeviceErrors.one_answered, DeviceErrors.run-event}
use Rattle.volume_laws.proofs.{Executions.run-front, Failures.settled_is, LanesAlone.other_plain}
use Rattle.volume_laws.proofs.{LanesAlone.put_same, LanesAlone.sync_same, Reading.forced_writes}
use Rattle.volume_laws.proofs.{Reading.never_both, Reading.piece_blocks}

-- A read stands behind the bytes that it has read, and has failed there if at all. No other
-- operation has such a piece.
abbrev IsAt : ℕ → List ℕ → Option ℕ → Open → Ask → Type 0
IsAt atom plain piece o (Read offset len) =
    (o.next * atom ≡ offset / atom * atom + length plain)
    × (piece ≡ (if o.failed then Some (max offset (offset / atom * atom + length plain)) else None))
IsAt atom plain piece o _ = piece ≡ None

begins_at : (atom session : ℕ) (ask : Ask) → IsAt atom [] None (begun atom session ask) ask
begins_at atom session (Read offset len) = (sym (add-zero (offset / atom * atom)), refl)
begins_at atom session _ = refl

moves_at : (atom n : ℕ) (plain more : List ℕ) (piece : Option ℕ) (o next : Open) (ask : Ask)
    → IsRead ask → IsAt atom plain piece o ask → o.failed ≡ false → next.failed ≡ false
    → next.next ≡ o.next + n → length more ≡ n * atom → IsAt atom (plain ++ more) piece next ask
moves_at atom n plain more piece o next (Read offset len) reading at was now moves size =
    let first : next.next * atom ≡ o.next * atom + n * atom = rw moves (grind arith) in
    (omega (arith, first, at.0, length-append plain more), at.1 ∙ rw (was, now) refl)
moves_at atom n plain more piece o next _ reading at was now moves size = absurd reading

fails_at : (atom : ℕ) (plain : List ℕ) (piece : Option ℕ) (o : Open) (ask : Ask) → IsRead ask
    → IsAt atom plain piece o ask
    → IsAt atom plain (Some (max (offset_of ask) (o.next * atom))) (failing o) ask
fails_at atom plain piece o (Read offset len) reading at =
    (at.0, ap (λ n. Some (max offset n)) at.0)
fails_at atom plain piece o _ reading at = absurd reading

stays_at : (atom : ℕ) (plain now : List ℕ) (piece : Option ℕ) (o next : Open)
    → next.ask ≡ o.ask → (IsRead o.ask → ⊥) → IsAt atom plain piece o o.ask
    → IsAt atom now piece next next.ask
stays_at atom plain now piece o next same other at = rw same (by_ask o.ask other at)
  where
    by_ask : (ask : Ask) → (IsRead ask → ⊥) → IsAt atom plain piece o ask
        → IsAt atom now piece next ask
    by_ask (Read offset len) other at = absurd (other tt)
    by_ask _ other at = at

not_read : (o : Open) → CanSettle o → IsRead o.ask → ⊥
not_read o (inl flush) reading = rw flush at reading
not_read o (inr (forced, ended, unfailed, unsettled)) reading =
    never_both o.ask reading (forced_writes o.ask forced)

-- a lane's operation, if it has one
abbrev AreAt : {K : Type 0} → State K → ℕ → List ℕ → Option ℕ → Type 0
AreAt state lane plain piece =
    (o : Open) → open_at state.lanes lane ≡ Some o → IsAt state.map.atom plain piece o o.ask

begun_at : {K : Type 0} (old : State K) (plain : ℕ → InPlain) (lane session : ℕ) (ask : Ask)
    (o : Open) → o ≡ begun old.map.atom session ask
    → IsAt old.map.atom (with_plain plain lane nothing lane).bytes None o o.ask
begun_at old plain lane session ask o e =
    subst (λ p. IsAt old.map.atom p.bytes None o o.ask) (sym (plain-own plain lane nothing))
    (rw e (begins_at old.map.atom session ask))

module _ {K : Type 0} {old new : State K} {seals : Seals} (plain : ℕ → InPlain)
    (piece : Option ℕ) (sound : IsSound old) (lawful : AreLawful old.map.atom seals) where
  -- the lane of the event
  own_at : (event : Event) (outcome : Outcome) → IsSound new → Meets old event
      → Step old event outcome new → AreAt old (lane_of event) (plain (lane_of event)).bytes piece
      → (o : Open) → open_at new.lanes (lane_of event) ≡ Some o
      → open_after old.map.atom event outcome (open_at old.lanes (lane_of event)) ≡ Some o
      → new.map ≡ old.map
      → IsAt old.map.atom (plain_after seals old event outcome plain (lane_of event)).bytes
      (failed_by event outcome (next_place old (lane_of event)) piece) o o.ask
  unfolding Can Step plain_after
  own_at (admits lane session ask) (held grant) after meets step was o is now map =
      begun_at old plain lane session ask o (cc)
  own_at (admits lane session ask) (waits other) after meets step was o is now map =
      begun_at old plain lane session ask o (cc)
  own_at (admits lane session ask) _ after meets step was o is now map =
      absurd (let none = meets.can in cc)
  own_at (asks lane) outcome after meets step was o is now map = was o now
  own_at (reads lane len) (got bytes) after meets (q, at, step) was o is now map =
      let (p, asked, can) = meets.can.0 in let same : p ≡ q = cc in
      let e : o ≡ moved q step.piece = (let own = step.goes.lane_is.own in cc) in
      let more = plain_piece seals old lane bytes in
      let opened : more ≡ seals.opened (side_in old.map q.next) q.next bytes = rw at refl in
      subst (λ p. IsAt old.map.atom p.bytes piece o o.ask)
      (sym (plain-own plain lane (with_bytes (plain lane) more)))
      (rw e (moves_at old.map.atom step.piece.count (plain lane).bytes more piece q
      (moved q step.piece) q.ask (rw same at can.reads) (was q at) (rw same at can.has.goes_on)
      (rw same at can.has.goes_on) (omega (arith, step.next.first))
      (ap (λ xs. length xs) opened ∙ (piece_blocks q step.next lawful step.are).size)))
  own_at (reads lane len) device after meets (q, at, step) was o is now map =
      let (p, asked, can) = meets.can.0 in let same : p ≡ q = cc in
      let e : o ≡ failing q = (let own = step.goes.lane_is.own in cc) in rw (e, at)
      (fails_at old.map.atom (plain lane).bytes piece q q.ask (rw same at can.reads) (was q at))
  own_at (reads lane len) broken after meets (q, at, step) was o is now map =
      let (p, asked, can) = meets.can.0 in let same : p ≡ q = cc in
      let e : o ≡ failing q = (let own = step.goes.lane_is.own in cc) in rw (e, at)
      (fails_at old.map.atom (plain lane).bytes piece q q.ask (rw same at can.reads) (was q at))
  own_at (reads lane len) _ after meets (q, at, step) was o is now map = absurd step
  own_at (fetches lane which) outcome after meets (q, at, step) was o is now map =
      let (p, asked, can) = meets.can.0 in let same : p ≡ q = cc in
      let e : o ≡ after_edge outcome q = (let next = rw at at now in cc) in
      stays_at old.map.atom (plain lane).bytes _ piece q o (ap (λ x. x.ask) e
      ∙ (edge_same outcome q).0)
      (λ reading. never_both q.ask reading (rw same at can.writes)) (was q at)
  own_at (writes lane bytes) outcome after meets (q, at, step) was o is now map =
      let (p, asked, can) = meets.can.0 in let same : p ≡ q = cc in
      let e : o ≡ after_put old.map.atom bytes outcome q = (let next = rw at at now in cc) in
      stays_at old.map.atom (plain lane).bytes _ piece q o (ap (λ x. x.ask) e
      ∙ (put_same old.map.atom bytes outcome q).0)
      (λ reading. never_both q.ask reading (rw same at can.writes)) (was q at)
  own_at (settles lane) outcome after meets (q, at, step) was o is now map =
      let (p, asked, can) = meets.can in let same : p ≡ q = cc in
      let e = settled_is q (after_sync outcome q) o (rw at at now) in
      stays_at old.map.atom (plain lane).bytes _ piece q o (ap (λ x. x.ask) e
      ∙ (sync_same outcome q).0) (not_read q (rw same at can)) (was q at)
  own_at (finishes lane) outcome after meets step was o is now map = absurd (cc)

  -- any lane
  event_at : (lane : ℕ) (event : Event) (outcome : Outcome) → IsSound new → Meets old event
      → Step old event outcome new → AreAt old lane (plain lane).bytes piece
      → AreAt new lane (plain_after seals old event outcome plain lane).bytes (if lane_of event == lane
      then failed_by event outcome (next_place old lane) piece else piece)
  event_at lane event outcome after meets step =
      let goes = event_effects old new event outcome step in
      elim (either (nat_eq (lane_of event) lane)) [
        | inl own ↦ λ was. let e : lane_of event ≡ lane = grind (arith, own) in
            rw own (subst (λ k. AreAt old k (plain k).bytes piece → AreAt new k (plain_after
            seals old event outcome plain k).bytes (failed_by event outcome (next_place old k) piece))
            e (λ was o is. rw goes.map (own_at event outcome after meets step was
            o is (sym goes.lane_is.own ∙ is) goes.map)) was)
        | inr other ↦ λ was o is.
            let differ : lane ≢ lane_of event = λ same. grind (arith, same, other) in
            rw (other, goes.map, other_plain seals old plain event outcome lane differ)
            (was o (sym (goes.lane_is.others lane differ) ∙ is))
      ]

run_at : {K : Type 0} {seals : Seals} (old : State K) (lane : ℕ) (plain : ℕ → InPlain)
    (piece : Option ℕ) (run : List (Happening K)) → IsSound old → AreLawful old.map.atom seals
    → IsRun old run → AreAt old lane (plain lane).bytes piece → AreAt (last_of old run) lane
    (plain_in seals old plain run lane).bytes (failed_piece_in old lane piece run)
unfolding IsRun last_of plain_in failed_piece_in
run_at old lane plain piece [] sound lawful is at = at
run_at {seals = seals} old lane plain piece (one ∷ rest) sound lawful (meets, step, is) at =
    let after = sound_kept old one.after one.event one.outcome sound meets step in
    run_at one.after lane (plain_after seals old one.event one.outcome plain) _ rest after
    (rw (event_effects old one.after one.event one.outcome step).map lawful) is
    (event_at plain piece sound lawful lane one.event one.outcome after meets step at)

-- what is answered has its place
admit_place : (atom session : ℕ) (ask : Ask) (outcome : Outcome) (answered : Answered)
    → by_admit atom session ask outcome ≡ answered ∷ [] → placed_error answered.reply ≡ None
admit_place atom session ask (refused number) answered is =
    ap (λ a. placed_error a.reply) (one_answered _ answered is)
admit_place atom session ask _ answered is = absurd (cc)

settle_place : (outcome : Outcome) → placed_error (flush_reply outcome) ≡ None
settle_place done = refl
settle_place _ = refl

reply_place : (atom : ℕ) (plain : List ℕ) (piece : Option ℕ) (o : Open) (ask : Ask)
    → IsAt atom plain piece o ask
    → placed_error (if o.failed then failed_reply atom ask plain else full_reply atom ask plain)
    ≡ option_map (λ place. (5, place)) piece
reply_place atom plain piece o (Read offset len) at = elim (either o.failed) [
  | inl has ↦ rw (at.1, has) refl
  | inr none ↦ rw (at.1, none) refl
]
reply_place atom plain piece o _ at = elim (either o.failed) [
  | inl has ↦ rw (at, has) refl
  | inr none ↦ rw (at, none) refl
]

finish_place : (atom : ℕ) (plain : InPlain) (piece : Option ℕ) (now : Option Open)
    (answered : Answered) → ((o : Open) → now ≡ Some o → IsAt atom plain.bytes piece o o.ask)
    → by_finish atom now plain ≡ answered ∷ []
    → placed_error answered.reply ≡ option_map (λ place. (5, place)) piece
finish_place atom plain piece None answered at is = absurd (cc)
finish_place atom plain piece (Some o) answered at is =
    rw (one_answered _ answered is) (reply_place atom plain.bytes piece o o.ask (at o refl))

event_place : {K : Type 0} (start new : State K) (earlier : List (Happening K))
    (plain : ℕ → InPlain) (event : Event) (outcome : Outcome) (answered : Answered)
    → Step (last_of start earlier) event outcome new → ((lane : ℕ)
    → AreAt (last_of start earlier) lane (plain lane).bytes (failed_piece_in start lane None earlier))
    → answered_by (last_of start earlier) event outcome plain ≡ answered ∷ [] → placed_error
    answered.reply ≡ option_map (λ place. (5, place)) (failed_piece start earlier event)
unfolding Step answered_by
event_place start new earlier plain (admits lane session ask) outcome answered step at is =
    admit_place (last_of start earlier).map.atom session ask outcome answered is
event_place start new earlier plain (settles lane) outcome answered (o, has, step) at is =
    ap (λ r. placed_error r)
    (by_settle_is (last_of start earlier).map.atom o outcome answered (rw has at is))
    ∙ settle_place outcome
event_place start new earlier plain (finishes lane) outcome answered step at is =
    finish_place (last_of start earlier).map.atom (plain lane)
    (failed_piece_in start lane None earlier) _ answered (at lane) is
event_place start new earlier plain _ outcome answered step at is = absurd (cc)

pub places_exact : {K : Type 0} (start : State K) (seals : Seals)
    (earlier later : List (Happening K)) (one : Happening K) → IsSound start → IsFresh start
    → AreLawful start.map.atom seals → IsRun start (earlier ++ one ∷ later)
    → PlacesAreExact seals start earlier one
places_exact start seals earlier later one sound fresh lawful is = λ answered. event_place start
    one.after earlier (plain_in seals start no_plain earlier) one.event one.outcome answered
    (run-event start earlier later one is).1 (λ lane. run_at start lane no_plain None earlier sound
    lawful (run-front start earlier (one ∷ later) is)
    (λ o at. absurd (let free = fresh.lanes lane in cc)))
