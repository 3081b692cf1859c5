-- What went between two moments, joined.
use Rattle.std.proofs.Common.{ℕ, List, [], ◌++◌, Result, ap, sym, subst, arith}
use Rattle.std.proofs.Common.{append_assoc, append-nil, length-append}
use Rattle.base_terms.specs.declared.failed.Failed.{Failed}
use Rattle.io_edge.specs.Outlet.{Outlet}
use Rattle.nbd_stream.specs.Counts.{capped}
use Rattle.nbd_stream.specs.Moments.{Moment, Traffic, moment}
use Rattle.nbd_stream.specs.Putting.{Puts}
use Rattle.nbd_stream.specs.Traffic.{Reach, Takes, Sent}
use Rattle.nbd_stream.proofs.TrafficLemmas.{took_none, took_more, sent_none, sent_more}

-- nothing went
pub traffic_none : (m : Moment) → Traffic m m [] [] []
traffic_none m = record {
  took = took_none m.source;
  sent = sent_none m.sink;
  later_in = omega arith;
  later_out = omega arith;
  counted_in = ap capped (omega arith);
  counted_out = ap capped (omega arith);
}

-- the moment of a source and a sink
abbrev pub with_sink : Reach → Outlet → ℕ → Moment
with_sink a s p = moment a.source s a.taken p

-- bytes were taken
pub traffic_took : (a b : Reach) (s : Outlet) (p : ℕ) (bytes : List ℕ) → Takes a b bytes →
    Traffic (with_sink a s p) (with_sink b s p) bytes [] []
traffic_took a b s p bytes takes = record {
  took = takes.took;
  sent = sent_none s;
  later_in = takes.later;
  later_out = omega arith;
  counted_in = takes.counted;
  counted_out = ap capped (omega arith);
}

-- a text was put, or not
pub traffic_puts : (a : Reach) (s s' : Outlet) (p p' : ℕ) (text whole front : List ℕ)
    (result : Result (Unit {0}) Failed) →
    Puts s s' p p' text result whole front →
    Traffic (with_sink a s p) (with_sink a s' p') [] whole front
traffic_puts a s s' p p' text whole front result puts = record {
  took = took_none a.source;
  sent = puts.sent;
  later_in = omega arith;
  later_out = puts.later;
  counted_in = ap capped (omega arith);
  counted_out = puts.put;
}

-- what went between two moments and then between two later ones
pub traffic_more : (a b c : Moment) (xs ys vs ws front : List ℕ) → Traffic a b xs vs [] →
    Traffic b c ys ws front →
    Traffic a c (xs ++ ys) (vs ++ ws) front
traffic_more a b c xs ys vs ws front first second =
    let sent : Sent a.sink b.sink vs =
    subst (λ (bytes : List ℕ). Sent a.sink b.sink bytes) (append-nil vs) first.sent in
    record {
      took = took_more _ _ _ xs ys first.took second.took;
      sent = subst (λ (bytes : List ℕ). Sent a.sink c.sink bytes) (sym (append_assoc vs ws front))
          (sent_more a.sink b.sink c.sink vs (ws ++ front) sent second.sent);
      later_in = omega (arith, first.later_in, second.later_in);
      later_out = omega (arith, first.later_out, second.later_out);
      counted_in = omega (arith, first.counted_in, second.counted_in, length-append xs ys);
      counted_out = omega (arith, first.counted_out, second.counted_out, length-append vs ws);
    }
