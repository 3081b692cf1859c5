-- A lane that is alone: it came to the end of its reading only where it halted by that.
use Rattle.std.proofs.Common.{◌≡◌, ◌≢◌, ◌⊎◌, ◌<◌, ◌≤◌, inl, inr, ℕ, suc, Bool, true, false, List, [], ◌∷◌, ◌++◌}
use Rattle.std.proofs.Common.{Option, Some, None, if◌then◌else◌, refl, subst, arith}
use Rattle.nbd_stream.specs.declared.ending.Ending.{Ending}
use Rattle.nbd_session.specs.declared.lane.Halt.{Halt}
use Rattle.nbd_session.specs.declared.lane.Halt.TheVariants as Halts
use Rattle.nbd_session.specs.declared.reader.Take.{Take}
use Rattle.nbd_session.specs.declared.reader.Taken.{Taken}
use Rattle.nbd_session.specs.declared.requests.Next.TheVariants.{Stop}
use Rattle.nbd_session.specs.declared.writer.Put.{Put}
use Rattle.nbd_session.specs.declared.writer.Written.{Written}
use Rattle.nbd_session.specs.Asking.{Asked}
use Rattle.nbd_session.specs.Lanes.{AreServed, HasServed, IsLast, port_spent, read_out, reader_spent}
use Rattle.nbd_session.specs.Lanes.{sink_failed, writer_spent}
use Rattle.nbd_session.specs.Merges.{From, items_from}
use Rattle.nbd_session.specs.Puts.{Sends}
use Rattle.nbd_session.specs.Takes.{AreEnds, Gives}
use Rattle.nbd_session.specs.Turns.{Turn}
use Rattle.nbd_session.proofs.CountLemmas.{IsLaned}
use Rattle.nbd_session.proofs.FlightLemmas.{ServedAt}
use Rattle.nbd_session.proofs.LaneAnswers.{done-goes, left-goes, stop-turn}
use Rattle.nbd_session.proofs.LaneHistories.{FailedIn, below-or-not, fails-lane, none-failed}
use Rattle.volume_cell.proofs.Names.{names-same}
use Rattle.volume_cell.specs.declared.history.Call.{Call}
use Rattle.volume_cell.specs.declared.history.Entry.{Entry}
use Rattle.volume_cell.specs.Histories.{call, calls_of, is_same}

-- ---- who found the end
-- one of these calls was answered that the requests ended
unfoldable HasStop : List (Call Take Taken) → Type 0
HasStop [] = ⊥
HasStop (take ∷ takes) = ((how : Ending) × (take.outcome.next ≡ Stop how)) ⊎ HasStop takes

no-stop : HasStop [] → ⊥
unfolding HasStop
no-stop has = has

stop-here : (one : Entry Take Taken) (history : List (Entry Take Taken)) (how : Ending)
    → one.outcome.next ≡ Stop how → HasStop (calls_of one.name (one ∷ history))
unfolding HasStop calls_of
stop-here one history how is = rw (names-same one.name one.name refl) (inl (how, is))

stop-behind : (name : List ℕ) (one : Entry Take Taken) (history : List (Entry Take Taken))
    → HasStop (calls_of name history) → HasStop (calls_of name (one ∷ history))
unfolding HasStop calls_of
stop-behind name one history has = both (is_same name one.name)
  where
    both : (its : Bool) → HasStop
        ((if its then call one.event one.outcome ∷ [] else []) ++ calls_of name history)
    both true = inr has
    both false = has

-- a reading that ended was told so by a call of somebody
stop-found : (n : ℕ) (history : List (Entry Take Taken)) (all : List (From Asked)) (how : Ending)
    → Gives n history all (Some how) → (name : List ℕ) × HasStop (calls_of name history)
unfolding Gives AreEnds
stop-found n [] [] how gives = absurd gives
stop-found n [] (given ∷ all) how gives = absurd gives
stop-found n (one ∷ history) [] how gives = (one.name, stop-here one history how gives.0)
stop-found n (one ∷ history) (given ∷ all) how gives =
    let found = stop-found (suc n) history all how gives.1 in
    (found.0, stop-behind found.0 one history found.1)

-- requests that were answered aren't the end
served-stop : (takes last : List (Call Take Taken)) (puts : List (Call Put Written))
    (turns : List Turn) → AreServed takes puts turns → HasStop (takes ++ last) → HasStop last
unfolding AreServed HasStop
served-stop [] last [] [] served has = has
served-stop (take ∷ takes) last (put ∷ puts) (turn ∷ turns) (is, done, served) (inl stop) =
    absurd (stop-turn take.outcome.next turn is.turn_of stop.0 stop.1)
served-stop (take ∷ takes) last (put ∷ puts) (turn ∷ turns) (is, done, served) (inr has) =
    served-stop takes last puts turns served has
served-stop [] last [] (turn ∷ turns) served has = absurd served
served-stop [] last (put ∷ puts) turns served has = absurd served
served-stop (take ∷ takes) last [] turns served has = absurd served
served-stop (take ∷ takes) last (put ∷ puts) [] served has = absurd served

last-stop : (halt : Halt) (takes : List (Call Take Taken)) (puts : List (Call Put Written))
    (turns : List Turn) (left : List Asked) → IsLast halt takes puts turns left → HasStop takes
    → (how : Ending) × (halt ≡ Halts.RequestsEnded how)
unfolding HasStop
last-stop _ _ _ _ _ (read_out take ending is) has = (ending, refl)
last-stop _ _ _ _ _ (sink_failed take put turn is refused) (inl stop) =
    absurd (stop-turn take.outcome.next turn is.turn_of stop.0 stop.1)
last-stop _ _ _ _ _ (sink_failed take put turn is refused) (inr none) = absurd none
last-stop _ _ _ _ _ (port_spent take asked is) (inl stop) =
    absurd (left-goes take.outcome.next asked is stop.0 stop.1)
last-stop _ _ _ _ _ (port_spent take asked is) (inr none) = absurd none
last-stop _ _ _ _ _ reader_spent has = absurd has
last-stop _ _ _ _ _ (writer_spent take turn is) (inl stop) =
    absurd (stop-turn take.outcome.next turn is stop.0 stop.1)
last-stop _ _ _ _ _ (writer_spent take turn is) (inr none) = absurd none

-- a lane that was told the end halted by it
stop-halts : (halt : Halt) (takes : List (Call Take Taken)) (puts : List (Call Put Written))
    (turns : List Turn) (left : List Asked) → HasServed halt takes puts turns left → HasStop takes
    → (how : Ending) × (halt ≡ Halts.RequestsEnded how)
stop-halts halt takes puts turns left is has =
    last-stop halt is.last_takes is.last_puts is.last left is.is_last
    (served-stop is.served_takes is.last_takes is.served_puts is.served is.are_served
    (subst (λ (them : List (Call Take Taken)). HasStop them) is.takes_are has))

-- ---- whose put failed
-- replies that were put didn't fail
served-failed : (takes : List (Call Take Taken)) (puts last : List (Call Put Written))
    (turns : List Turn) (texts : List (List ℕ)) → AreServed takes puts turns
    → FailedIn (puts ++ last) texts → (rear : List (List ℕ)) × FailedIn last rear
unfolding AreServed FailedIn
served-failed [] [] last [] texts served failed = (texts, failed)
served-failed (take ∷ takes) (put ∷ puts) last (turn ∷ turns) [] (is, done, served) failed =
    absurd failed
served-failed (take ∷ takes) (put ∷ puts) last (turn ∷ turns) (text ∷ texts) (is, done, served)
    failed =
    served-failed takes puts last turns texts served (done-goes put.outcome _ _ done failed)
served-failed [] [] last (turn ∷ turns) texts served failed = absurd served
served-failed [] (put ∷ puts) last turns texts served failed = absurd served
served-failed (take ∷ takes) [] last turns texts served failed = absurd served
served-failed (take ∷ takes) (put ∷ puts) last [] texts served failed = absurd served

sink-differs : (how : Ending) → Halts.SinkFailed ≡ Halts.RequestsEnded how → ⊥
sink-differs how is = cc

last-unfailed : (halt : Halt) (takes : List (Call Take Taken)) (puts : List (Call Put Written))
    (turns : List Turn) (left : List Asked) (texts : List (List ℕ))
    → IsLast halt takes puts turns left → (how : Ending) → halt ≡ Halts.RequestsEnded how
    → FailedIn puts texts → ⊥
last-unfailed _ _ _ _ _ texts (read_out take ending is) how same failed = none-failed texts failed
last-unfailed _ _ _ _ _ texts (sink_failed take put turn is refused) how same failed =
    sink-differs how same
last-unfailed _ _ _ _ _ texts (port_spent take asked is) how same failed = none-failed texts failed
last-unfailed _ _ _ _ _ texts reader_spent how same failed = none-failed texts failed
last-unfailed _ _ _ _ _ texts (writer_spent take turn is) how same failed = none-failed texts failed

-- a lane that halted by the end put all its replies
unfailed : (halt : Halt) (takes : List (Call Take Taken)) (puts : List (Call Put Written))
    (turns : List Turn) (left : List Asked) (texts : List (List ℕ))
    → HasServed halt takes puts turns left → (how : Ending) → halt ≡ Halts.RequestsEnded how
    → FailedIn puts texts → ⊥
unfailed halt takes puts turns left texts is how same failed =
    let rear = served-failed is.served_takes is.served_puts is.last_puts is.served texts is.are_served
    (subst (λ (them : List (Call Put Written)). FailedIn them texts) is.puts_are failed) in
    last-unfailed halt is.last_takes is.last_puts is.last left rear.0 is.is_last how same rear.1

-- ---- the lanes
module _ (depth : ℕ) (takes_of : List (Entry Take Taken)) (puts_of : List (Entry Put Written))
    (at : (k : ℕ) → ServedAt takes_of puts_of k)
  where
    -- a lane that halted since the requests ended
    record EndedLane : Type 0 where
      place : ℕ
      below : place < depth
      how : Ending
      halted : (at place).halt ≡ Halts.RequestsEnded how

    -- where the reading ended a lane did
    ended-lane : IsLaned depth takes_of → (all : List (From Asked)) (how : Ending)
        → Gives 0 takes_of all (Some how) → EndedLane
    ended-lane laned all how gives =
        let found = stop-found 0 takes_of all how gives in
        by found.0 found.1 (laned found.0)
      where
        by : (name : List ℕ) → HasStop (calls_of name takes_of)
            → (calls_of name takes_of ≡ [])
            ⊎ ((j : ℕ) × (0 ≤ j) × (j < depth) × (name ≡ j ∷ [])) → EndedLane
        by name has (inl none) =
            absurd (no-stop (subst (λ (them : List (Call Take Taken)). HasStop them) none has))
        by name has (inr (j, above, below, is)) =
            let halts = stop-halts (at j).halt (at j).takes (at j).puts (at j).turns (at j).left
            (at j).served (subst (λ (them : List (Call Take Taken)). HasStop them) (at j).source
            (subst (λ (n : List ℕ). HasStop (calls_of n takes_of)) is has)) in
            record { place = j; below = below; how = halts.0; halted = halts.1 }

    -- the lane at whose reply the sink failed is none of these
    pub broke-lane : ((k : ℕ) → depth ≤ k → calls_of (k ∷ []) puts_of ≡ [])
        → (all : List (From (List ℕ))) → Sends puts_of all true
        → (k : ℕ) × (k < depth) × ((how : Ending) → (at k).halt ≢ Halts.RequestsEnded how)
    broke-lane no_puts all sends =
        let found = fails-lane puts_of all sends in
        by found.0 found.1 (below-or-not found.0 depth)
      where
        by : (k : ℕ) → FailedIn (calls_of (k ∷ []) puts_of) (items_from k all)
            → (k < depth) ⊎ (depth ≤ k)
            → (k : ℕ) × (k < depth) × ((how : Ending) → (at k).halt ≢ Halts.RequestsEnded how)
        by k failed (inl below) = (
          k,
          below,
          λ how same. unfailed (at k).halt (at k).takes (at k).puts (at k).turns (at k).left
              (items_from k all) (at k).served how same
              (subst (λ (calls : List (Call Put Written)). FailedIn calls (items_from k all))
              (at k).sink failed),
        )
        by k failed (inr beyond) = absurd (none-failed (items_from k all)
            (subst (λ (calls : List (Call Put Written)). FailedIn calls (items_from k all))
            (no_puts k beyond) failed))

    -- so where a lane that is alone halted otherwise, its reading didn't end
    pub alone-unended : IsLaned depth takes_of → (all : List (From Asked)) (end : Option Ending)
        → Gives 0 takes_of all end → (k : ℕ) → k < depth
        → ((how : Ending) → (at k).halt ≢ Halts.RequestsEnded how) → depth ≡ 1 → end ≡ None
    alone-unended laned all None gives k below other one = refl
    alone-unended laned all (Some how) gives k below other one =
        let lane = ended-lane laned all how gives in
        let less = lane.below in
        let same : lane.place ≡ k = omega (arith, one, below, less) in
        absurd (other lane.how
        (subst (λ (j : ℕ). (at j).halt ≡ Halts.RequestsEnded lane.how) same lane.halted))
