use Rattle.std.proofs.Common.{List, refl, sym, subst, inl, inr, ⊎_elim}
use Rattle.plain_disk.specs.Plain.{Exchange}
use Rattle.nbd_stream.specs.declared.ending.Ending.{Ending}
use Rattle.nbd_hand.specs.Handshakes.{IsUnserved}
use Rattle.nbd_hand.proofs.NegotiationLemmas.{unserved-unspent}
use Rattle.nbd_session.proofs.RequestLemmas.{exchanges_of-none}
use Rattle.nbd_session.proofs.SessionLemmas.{session-early, session-served, early-log}
use Rattle.nbd_session.proofs.SessionLemmas.{served-log}
use Rattle.nbd_session.proofs.session.serve_session.Goals as goal
use Rattle.nbd_session.proofs.session.serve_session.Goals.{in-Ok, in-Err}

pub returns-clause-session : goal.returns-clause-session
returns-clause-session g c = rw c.end_of.ensures.is (elim c.match-negotiate.branch [
  | in-Ok w ↦
      let n = w.in-Ok.ensures.negotiates in
      let s = w.serve_requests-ending.ensures.served in
      rw (w.source-is, w.sink-is, w.port-is, w.tally-is, w.ending-is) (
        served-log n.0 s.0 s.1 s.2 s.3 s.4,
        s.5,
        session-served c.args.export.now _ _ _ w.in-Ok.agreed w.serve_requests-ending.result n.0
            s.0 s.1 s.2 s.3 s.4 refl refl
            (rw w.tally-is at c.end_of.ensures.taken_fits)
            (rw w.tally-is at c.end_of.ensures.put_fits) n.1 (rw w.settle.ensures at s.6),
      )
  | in-Err w ↦
      let n = w.in-Err.ensures.negotiates in
      rw (w.source-is, w.sink-is, w.port-is, w.tally-is, w.ending-is) (
        early-log n.0,
        subst (λ (done : List Exchange). g.P.Port.did c.args.port.now c.args.port.now done)
            (sym exchanges_of-none)
            (g.met.P.Port.did_none c.args.port.now),
        session-early c.args.export.now _ _ w.in-Err.ending n.0 refl refl
            (rw w.tally-is at c.end_of.ensures.taken_fits)
            (rw w.tally-is at c.end_of.ensures.put_fits) n.1,
      )
])

pub returns-clause-spent : goal.returns-clause-spent
returns-clause-spent g c = rw c.end_of.ensures.is (elim c.match-negotiate.branch [
  | in-Ok w ↦ rw (w.port-is, w.ending-is) w.serve_requests-ending.ensures.spent
  | in-Err w ↦
      let n = w.in-Err.ensures.negotiates in
      rw (w.port-is, w.ending-is)
      (λ is. absurd (unserved-unspent n.0.stage n.0
      (subst (λ (e : Ending). IsUnserved n.0.stage n.0 e) is n.1.by_case)))
])

pub returns-clause-out : goal.returns-clause-out
returns-clause-out g c = rw c.end_of.ensures.is (elim c.match-negotiate.branch [
  | in-Ok w ↦ rw (w.sink-is, w.ending-is) w.serve_requests-ending.ensures.out
  | in-Err w ↦ rw (w.sink-is, w.ending-is)
      (⊎_elim (λ is. inl (cc)) (λ out. inr out) w.in-Err.ensures.out)
])
