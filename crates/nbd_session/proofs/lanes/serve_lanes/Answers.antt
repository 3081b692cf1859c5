use Rattle.std.proofs.Common.{◌∙◌, List, ap, inl, inr, refl, slice_index_or, subst, sym, ⊎_elim}
use Rattle.plain_disk.specs.Plain.{Exchange}
use Rattle.nbd_stream.specs.declared.ending.Ending.{Ending}
use Rattle.nbd_hand.specs.Handshakes.{IsUnserved}
use Rattle.nbd_hand.proofs.NegotiationLemmas.{unserved-unspent}
use Rattle.nbd_session.proofs.FlightLemmas.{early-flight, flight-early}
use Rattle.nbd_session.proofs.LandingLemmas.{negotiated}
use Rattle.nbd_session.proofs.RequestLemmas.{exchanges_of-none}
use Rattle.nbd_session.proofs.lanes.serve_lanes.Goals as goal

pub returns-in-Ok-clause-session : goal.returns-in-Ok-clause-session
returns-in-Ok-clause-session g c =
    let n = c.in-Ok.ensures.negotiates in
    let reader = c.new-reader.ensures in
    let writer = c.new-writer.ensures in
    c.serve_requests.ensures.session _ c.in-Ok.agreed n.0 refl refl
    (ap (λ r. r.structured) reader.opening ∙ reader.structured)
    (negotiated c.args.export.now _ _ _ _ _ _ _ _ _ c.in-Ok.agreed n.0
    (ap g.S.Source.intake (ap (λ r. r.source) reader.opening ∙ reader.source) ∙ c.settle.ensures)
    (ap g.K.Sink.outlet (ap (λ r. r.sink) writer.opening ∙ writer.sink))
    (ap (λ r. r.taken) reader.opening ∙ reader.taken) (ap (λ r. r.put) writer.opening ∙ writer.put)
    n.1)

pub returns-in-Err-clause-session : goal.returns-in-Err-clause-session
returns-in-Err-clause-session g c =
    let n = c.in-Err.ensures.negotiates in
    rw c.end_of.ensures.is (
      early-flight c.in-Err.ending n.0,
      record {
        count = refl;
        each = λ k port below.
            subst (λ (done : List Exchange). g.P.Port.did (slice_index_or c.args.ports.items k port)
            (slice_index_or c.args.ports.items k port) done) (sym exchanges_of-none)
            ((g.met.P.Port g.world.𝓛 g.world.𝓜 g.world.𝓡 ((λ s x. x), (λ x. x), (λ x. x), λ x. x)).did_none
            (slice_index_or c.args.ports.items k port));
      },
      λ k port below some. absurd (some refl),
      flight-early _ c.args.export.now _ _ c.in-Err.ending n.0 refl refl c.end_of.ensures.taken_fits
          c.end_of.ensures.put_fits n.1,
    )

pub returns-in-Err-clause-spent : goal.returns-in-Err-clause-spent
returns-in-Err-clause-spent g c =
    let n = c.in-Err.ensures.negotiates in
    rw c.end_of.ensures.is
    (λ is. absurd (unserved-unspent n.0.stage n.0
    (subst (λ (e : Ending). IsUnserved n.0.stage n.0 e) is n.1.by_case)))

pub returns-in-Err-clause-out : goal.returns-in-Err-clause-out
returns-in-Err-clause-out g c =
    rw c.end_of.ensures.is (⊎_elim (λ is. inl (cc)) (λ out. inr out) c.in-Err.ensures.out)
