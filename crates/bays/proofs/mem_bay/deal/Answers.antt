use Rattle.std.proofs.Common.{◌≡◌, ◌%◌, ◌<◌, length, refl, sym, arith}
use Rattle.std.proofs.Math.ListN.{length-set}
use Rattle.std.proofs.Math.Seq.{take-length}
use Rattle.bays.proofs.DealLemmas.{TakenLast, taken_last, shares_of_none, shares_of_one}
use Rattle.bays.proofs.DealLemmas.{room_for_one}
use Rattle.bays.proofs.mem_bay.deal.Goals as goal

pub loop-connection-init : goal.loop-connection-init
loop-connection-init c = record {
  count = refl;
  within = omega arith;
  front = sym (take-length c.args.connections.now.items);
  dealt = shares_of_none _ _ c.requires.idle;
}

pub put_first-requires : goal.put_first-requires
put_first-requires c =
    let last : TakenLast c.args.connections.now.items c.loop-connection.connections.items
    c.pop.new.self.items c.in-Some.connection =
    taken_last _ _ _ _ c.loop-connection.invariant.within c.loop-connection.invariant.front
    (rw c.in-Some.is at c.pop.ensures.items) in
    let below : c.len.result % length c.loop-connection.links < length c.args.links.now =
    omega arith in
    room_for_one c.args.connections.now.items (length c.pop.new.self.items) _ _ _ _ last.within
    (c.requires.idle _ c.index-links-worker.result below)
    (rw last.one_fewer at (c.loop-connection.invariant.dealt _ c.index-links-worker.result below))

pub loop-connection-preserved : goal.loop-connection-preserved
loop-connection-preserved c =
    let last : TakenLast c.args.connections.now.items c.loop-connection.connections.items
    c.pop.new.self.items c.in-Some.connection =
    taken_last _ _ _ _ c.loop-connection.invariant.within c.loop-connection.invariant.front
    (rw c.in-Some.is at c.pop.ensures.items) in
    let number : c.len.result ≡ length c.pop.new.self.items = omega arith in
    record {
      count = simp length-set c.loop-connection.invariant.count;
      within = omega arith;
      front = last.front;
      dealt = rw (c.put_first.ensures, number, c.loop-connection.invariant.count)
          (shares_of_one _ _ _ _ c.loop-connection.links c.index-links-worker.result c.requires.some
          c.loop-connection.invariant.count last.within last.last_is
          (rw last.one_fewer at c.loop-connection.invariant.dealt));
    }
