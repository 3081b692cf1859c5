use Rattle.std.proofs.Common.{◌≢◌, List, [], ◌++◌, None, refl, sym, subst, arith}
use Rattle.volume_machine.specs.Answers.{Tagged}
use Rattle.block_server.specs.Sessions.{Played}
use Rattle.block_server.proofs.AskingLemmas.{tagged_of-none}
use Rattle.block_server.proofs.LeavingLemmas.{leaves-joined, leaves-same, still-left}
use Rattle.block_server.proofs.LinkLemmas.{ended_failed, ended_none, ended_short, reached_more}
use Rattle.block_server.proofs.LinkLemmas.{reached_none, reached_spends, tagged_of-append, with-none}
use Rattle.block_server.specs.Links.{IsLinkServed}
use Rattle.block_server.specs.declared.link.Standing.TheVariants.{Ended, Failed, Live}
use Rattle.block_server.proofs.link.serve_link.Goals as goal

pub loop-turn-init : goal.loop-turn-init
loop-turn-init g c = record {
  usable = c.requires.usable;
  served = λ k. (
    [],
    reached_none c.args.first.now _ c.args.step k (g.L.Link.state c.args.link.now)
        c.args.ends.now.items,
    subst (λ (done : List Tagged). g.P.SharedPort.executed c.args.port.now c.args.port.now done)
        (sym tagged_of-none) (g.met.P.SharedPort.executed_none c.args.port.now),
    leaves-same [] (g.P.SharedPort.left_by c.args.port.now) _ refl,
  );
}

pub loop-turn-preserved : goal.loop-turn-preserved
loop-turn-preserved g c = let l = c.loop-turn.invariant in record {
  usable = c.in-Served.ensures.usable;
  served = λ k.
      let so = l.served k in
      let one = c.in-Served.ensures.asked k in
      let still = still-left one.0 (g.P.SharedPort.left_by c.loop-turn.port)
      (g.P.SharedPort.left_by c.serve_next.new.port) one.3 in (
        so.0 ++ one.0,
        reached_more c.args.first.now (g.P.SharedPort.left_by c.serve_next.new.port ≢ None)
            c.args.step k c.loop-turn.turn (g.L.Link.state c.args.link.now)
            (g.L.Link.state c.loop-turn.link) (g.L.Link.state c.serve_next.new.link)
            c.args.ends.now.items c.loop-turn.ends.items c.serve_next.new.ends.items so.0 one.0
            (reached_spends c.args.first.now _ _ c.args.step k (g.L.Link.state c.args.link.now)
            (g.L.Link.state c.loop-turn.link) c.args.ends.now.items c.loop-turn.ends.items
            c.loop-turn.turn so.0 still so.1)
            one.1,
        subst (λ (done : List Tagged). g.P.SharedPort.executed c.args.port.now
            c.serve_next.new.port done) (sym (tagged_of-append so.0 one.0))
            (g.met.P.SharedPort.executed_more c.args.port.now c.loop-turn.port
            c.serve_next.new.port _ _ so.2 one.2),
        leaves-joined so.0 one.0 (g.P.SharedPort.left_by c.args.port.now)
            (g.P.SharedPort.left_by c.loop-turn.port)
            (g.P.SharedPort.left_by c.serve_next.new.port) so.3 one.3,
      );
}

pub returns-in-Ended-clause-served : goal.returns-in-Ended-clause-served
returns-in-Ended-clause-served g c = λ k.
    let so = c.loop-turn.invariant.served k in
    let one = c.in-Ended.ensures.asked k in
    let still = still-left one.0 (g.P.SharedPort.left_by c.loop-turn.port)
    (g.P.SharedPort.left_by c.serve_next.new.port) one.3 in (
      so.0 ++ one.0,
      subst (λ (l : List Played). IsLinkServed c.args.first.now
          (g.P.SharedPort.left_by c.serve_next.new.port ≢ None) c.args.step k
          (g.L.Link.state c.args.link.now) (g.L.Link.state c.serve_next.new.link)
          c.args.ends.now.items c.serve_next.new.ends.items Ended l)
          (with-none so.0 one.0 one.1.by_case.0)
          (ended_none c.args.first.now (g.P.SharedPort.left_by c.serve_next.new.port ≢ None)
          c.args.step k c.loop-turn.turn (g.L.Link.state c.args.link.now)
          (g.L.Link.state c.loop-turn.link) (g.L.Link.state c.serve_next.new.link)
          c.args.ends.now.items c.loop-turn.ends.items c.serve_next.new.ends.items so.0 one.0
          (reached_spends c.args.first.now _ _ c.args.step k (g.L.Link.state c.args.link.now)
          (g.L.Link.state c.loop-turn.link) c.args.ends.now.items c.loop-turn.ends.items
          c.loop-turn.turn so.0 still so.1) _ one.1),
      subst (λ (done : List Tagged). g.P.SharedPort.executed c.args.port.now
          c.serve_next.new.port done) (sym (tagged_of-append so.0 one.0))
          (g.met.P.SharedPort.executed_more c.args.port.now c.loop-turn.port
          c.serve_next.new.port _ _ so.2 one.2),
      leaves-joined so.0 one.0 (g.P.SharedPort.left_by c.args.port.now)
          (g.P.SharedPort.left_by c.loop-turn.port)
          (g.P.SharedPort.left_by c.serve_next.new.port) so.3 one.3,
    )

pub returns-in-Failed-clause-served : goal.returns-in-Failed-clause-served
returns-in-Failed-clause-served g c = λ k.
    let so = c.loop-turn.invariant.served k in
    let one = c.in-Failed.ensures.asked k in
    let still = still-left one.0 (g.P.SharedPort.left_by c.loop-turn.port)
    (g.P.SharedPort.left_by c.serve_next.new.port) one.3 in (
      so.0 ++ one.0,
      subst (λ (l : List Played). IsLinkServed c.args.first.now
          (g.P.SharedPort.left_by c.serve_next.new.port ≢ None) c.args.step k
          (g.L.Link.state c.args.link.now) (g.L.Link.state c.serve_next.new.link)
          c.args.ends.now.items c.serve_next.new.ends.items Failed l)
          (with-none so.0 one.0 one.1.by_case.0)
          (ended_failed c.args.first.now (g.P.SharedPort.left_by c.serve_next.new.port ≢ None)
          c.args.step k c.loop-turn.turn (g.L.Link.state c.args.link.now)
          (g.L.Link.state c.loop-turn.link) (g.L.Link.state c.serve_next.new.link)
          c.args.ends.now.items c.loop-turn.ends.items c.serve_next.new.ends.items so.0 one.0
          (reached_spends c.args.first.now _ _ c.args.step k (g.L.Link.state c.args.link.now)
          (g.L.Link.state c.loop-turn.link) c.args.ends.now.items c.loop-turn.ends.items
          c.loop-turn.turn so.0 still so.1) _ one.1),
      subst (λ (done : List Tagged). g.P.SharedPort.executed c.args.port.now
          c.serve_next.new.port done) (sym (tagged_of-append so.0 one.0))
          (g.met.P.SharedPort.executed_more c.args.port.now c.loop-turn.port
          c.serve_next.new.port _ _ so.2 one.2),
      leaves-joined so.0 one.0 (g.P.SharedPort.left_by c.args.port.now)
          (g.P.SharedPort.left_by c.loop-turn.port)
          (g.P.SharedPort.left_by c.serve_next.new.port) so.3 one.3,
    )

pub returns-in-Memory-clause-served : goal.returns-in-Memory-clause-served
returns-in-Memory-clause-served g c = λ k.
    let so = c.loop-turn.invariant.served k in
    let one = c.in-Memory.ensures.asked k in
    let still = still-left one.0 (g.P.SharedPort.left_by c.loop-turn.port)
    (g.P.SharedPort.left_by c.serve_next.new.port) one.3 in (
      so.0 ++ one.0,
      subst (λ (l : List Played). IsLinkServed c.args.first.now
          (g.P.SharedPort.left_by c.serve_next.new.port ≢ None) c.args.step k
          (g.L.Link.state c.args.link.now) (g.L.Link.state c.serve_next.new.link)
          c.args.ends.now.items c.serve_next.new.ends.items Live l)
          (with-none so.0 one.0 one.1.by_case.0)
          (ended_short c.args.first.now (g.P.SharedPort.left_by c.serve_next.new.port ≢ None)
          c.args.step k c.loop-turn.turn (g.L.Link.state c.args.link.now)
          (g.L.Link.state c.loop-turn.link) (g.L.Link.state c.serve_next.new.link)
          c.args.ends.now.items c.loop-turn.ends.items c.serve_next.new.ends.items so.0 one.0
          (reached_spends c.args.first.now _ _ c.args.step k (g.L.Link.state c.args.link.now)
          (g.L.Link.state c.loop-turn.link) c.args.ends.now.items c.loop-turn.ends.items
          c.loop-turn.turn so.0 still so.1) _ one.1),
      subst (λ (done : List Tagged). g.P.SharedPort.executed c.args.port.now
          c.serve_next.new.port done) (sym (tagged_of-append so.0 one.0))
          (g.met.P.SharedPort.executed_more c.args.port.now c.loop-turn.port
          c.serve_next.new.port _ _ so.2 one.2),
      leaves-joined so.0 one.0 (g.P.SharedPort.left_by c.args.port.now)
          (g.P.SharedPort.left_by c.loop-turn.port)
          (g.P.SharedPort.left_by c.serve_next.new.port) so.3 one.3,
    )

pub unreachable-requires : goal.unreachable-requires
unreachable-requires g c =
    let counts = (c.loop-turn.invariant.served 0).1.counts in
    omega (arith, counts, c.requires.bound, c.loop-turn-test.false)
