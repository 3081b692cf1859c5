use Rattle.std.proofs.Common.{◌≡◌, [], length, arith}
use Rattle.std.proofs.lemmas.Grind.{common_steps}
use Rattle.bays.specs.Memory.{fails_of, new_line}
use Rattle.bays.proofs.DealLemmas.{each_more}
use Rattle.bays.proofs.mem_bay.MemBay.empty_links.Goals as goal

pub loop-worker-preserved : goal.loop-worker-preserved
loop-worker-preserved c =
    let room : c.len.result ≡ length c.args.self.now.connections =
    rw (← c.self.view_is) (omega arith) in
    let line : c.in_ok-new.field-0 ≡ new_line [] (length c.args.self.now.connections)
    (fails_of c.args.self.now.link_fails c.loop-worker.worker) =
    rw (room, c.fails_of-fails.ensures) at c.in_ok-new.ensures in
    record {
      room = grind (arith, common_steps);
      count = grind (arith, common_steps);
      empty = λ k d below. rw c.push_reserved.ensures.items
          (each_more (λ k. new_line [] (length c.args.self.now.connections)
          (fails_of c.args.self.now.link_fails k)) _ _ _
          c.loop-worker.invariant.count c.loop-worker.invariant.empty line k d below);
    }
