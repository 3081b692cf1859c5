use Rattle.std.proofs.Common.{⊎_elim, List, [], ◌++◌, false, refl, sym, subst, None, Some, arith}
use Rattle.std.proofs.Common.{length, length-append}
use Rattle.plain_disk.specs.Plain.{Exchange}
use Rattle.nbd_session.proofs.RequestLemmas.{serves-none, serves-more, serves-on, serves-too_many}
use Rattle.nbd_session.proofs.RequestLemmas.{exchanges_of-append, exchanges_of-none}
use Rattle.nbd_session.proofs.session.serve_requests.Goals as goal

pub loop-number-init : goal.loop-number-init
loop-number-init g c = record {
  out = c.requires.out;
  usable = c.requires.usable;
  served = (
    [],
    [],
    [],
    refl,
    subst (λ (done : List Exchange). g.P.Port.did c.args.port.now c.args.port.now done)
        (sym exchanges_of-none) (g.met.P.Port.did_none c.args.port.now),
    serves-none c.args.structured _,
  );
}

pub returns-in-Some-clause-served : goal.returns-in-Some-clause-served
returns-in-Some-clause-served g c =
    let old = c.loop-number.invariant.served in
    let new = c.in-Some.ensures.served in (
      old.0 ++ new.0,
      old.1 ++ new.1,
      old.2 ++ new.2,
      new.3,
      new.4,
      subst (λ (done : List Exchange). g.P.Port.did c.args.port.now c.serve_request.new.port done)
          (sym (exchanges_of-append old.0 new.0))
          (g.met.P.Port.did_more c.args.port.now c.loop-number.port c.serve_request.new.port _ _
          old.4 new.6),
      serves-more c.args.structured _ _ _ (Some c.in-Some.ending) (length old.0) old.0 new.0 old.1
          new.1 old.2 new.2 new.3 new.4 old.5 refl (new.7 (length old.0) (omega (arith, old.3))),
    )

pub loop-number-preserved : goal.loop-number-preserved
loop-number-preserved g c =
    let old = c.loop-number.invariant.served in
    let new = c.in-None.ensures.served in
    record {
      out = ⊎_elim (λ is. absurd (cc)) (λ out. out) c.in-None.ensures.out;
      usable = c.in-None.ensures.usable;
      served = (
        old.0 ++ new.0,
        old.1 ++ new.1,
        old.2 ++ new.2,
        omega (arith, length-append old.0 new.0, old.3, new.5 refl),
        subst (λ (done : List Exchange). g.P.Port.did c.args.port.now c.serve_request.new.port done)
            (sym (exchanges_of-append old.0 new.0))
            (g.met.P.Port.did_more c.args.port.now c.loop-number.port c.serve_request.new.port _ _
            old.4 new.6),
        serves-more c.args.structured _ _ _ None (length old.0) old.0 new.0 old.1 new.1 old.2 new.2
            [] false old.5 refl
            (serves-on c.args.structured _ _ (length old.0) new.0 new.1 new.2 new.3 new.4
            (new.7 (length old.0) (omega (arith, old.3)))),
      );
    }

pub returns-clause-served : goal.returns-clause-served
returns-clause-served g c =
    let all = c.loop-number.invariant.served in (
      all.0,
      all.1,
      all.2,
      [],
      false,
      all.4,
      serves-too_many c.args.structured _ _ all.0 all.1 all.2 all.5 (omega (arith, all.3)),
    )
