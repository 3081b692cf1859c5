use Rattle.std.proofs.Common.{◌+◌, ◌-◌, arith}
use Rattle.demo_clients.specs.Operations.{write_of}
use Rattle.demo_clients.proofs.InputLemmas.{requests-begin, requests-more}
use Rattle.demo_clients.proofs.input.Sending.write_all.Goals as goal

pub loop-block-init : goal.loop-block-init
loop-block-init c = record {
  bytes = requests-begin (write_of c.args.seed) c.args.self.now.cookie c.args.share.first
      (c.args.share.first - c.args.share.first) c.args.self.now.bytes.items (omega arith);
  cookie = omega arith;
}

pub loop-block-preserved : goal.loop-block-preserved
loop-block-preserved c =
    let first = c.args.share.first in
    let block = c.loop-block.block in
    record {
      bytes = requests-more (write_of c.args.seed) c.args.self.now.cookie c.loop-block.self.cookie
          first (block - first) (block + 1 - first) block c.loop-block.self.bytes.items
          c.args.self.now.bytes.items c.write.new.self.bytes.items c.loop-block.invariant.bytes
          c.loop-block.invariant.cookie (omega arith) (omega arith) c.in_ok-write.ensures.bytes;
      cookie = omega (arith, c.in_ok-write.ensures.cookie, c.loop-block.invariant.cookie);
    }
