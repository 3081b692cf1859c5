use Rattle.std.proofs.Common.{List, [], ◌++◌, sym, subst}
use Rattle.plain_disk.specs.Plain.{Exchange}
use Rattle.nbd_session.proofs.LaneLemmas.{called-more, called-none, halted, lane-more, served-more}
use Rattle.nbd_session.proofs.LaneLemmas.{served-none}
use Rattle.nbd_session.proofs.RequestLemmas.{exchanges_of-append, exchanges_of-none}
use Rattle.nbd_session.proofs.lane.serve_lane.Goals as goal

pub loop-init : goal.loop-init
loop-init g c = record {
  source = c.requires.source;
  sink = c.requires.sink;
  lane = c.requires.lane;
  usable = c.requires.usable;
  served = (
    [],
    [],
    [],
    called-none _,
    called-none _,
    subst (λ (done : List Exchange). g.P.Port.did c.args.port.now c.args.port.now done)
        (sym exchanges_of-none) (g.met.P.Port.did_none c.args.port.now),
    served-none,
  );
}

pub loop-preserved : goal.loop-preserved
loop-preserved g c =
    let old = c.loop.invariant.served in
    let new = c.in-None-serve_next.ensures.served in record {
      source = c.in-None-serve_next.ensures.source;
      sink = c.in-None-serve_next.ensures.sink;
      lane = lane-more _ _ _ _ new.0 new.1 c.loop.invariant.lane new.3 new.4;
      usable = c.in-None-serve_next.ensures.usable;
      served = (
        old.0 ++ new.0,
        old.1 ++ new.1,
        old.2 ++ new.2,
        called-more _ _ _ old.0 new.0 old.3 new.3,
        called-more _ _ _ old.1 new.1 old.4 new.4,
        subst (λ (done : List Exchange). g.P.Port.did c.args.port.now c.serve_next.new.port done)
            (sym (exchanges_of-append old.2 new.2))
            (g.met.P.Port.did_more c.args.port.now c.loop.port c.serve_next.new.port _ _ old.5 new.5),
        served-more old.0 old.1 old.2 new.0 new.1 new.2 old.6 new.6,
      );
    }

pub returns-in-Some-serve_next-clause-served : goal.returns-in-Some-serve_next-clause-served
returns-in-Some-serve_next-clause-served g c =
    let old = c.loop.invariant.served in
    let new = c.in-Some-serve_next.ensures.served in (
      old.0 ++ new.0,
      old.1 ++ new.1,
      old.2 ++ new.2,
      new.6.0,
      called-more _ _ _ old.0 new.0 old.3 new.3,
      called-more _ _ _ old.1 new.1 old.4 new.4,
      subst (λ (done : List Exchange). g.P.Port.did c.args.port.now c.serve_next.new.port done)
          (sym (exchanges_of-append old.2 new.2))
          (g.met.P.Port.did_more c.args.port.now c.loop.port c.serve_next.new.port _ _ old.5 new.5),
      halted c.in-Some-serve_next.halt old.0 old.1 old.2 new.0 new.1 new.2 new.6.0 old.6 new.6.1,
    )
