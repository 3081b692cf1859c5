use Rattle.std.proofs.Common.{ℕ, ◌+◌, ◌-◌, List, ◌++◌, false, ap, ◌∙◌, arith}
use Rattle.nbd_wire.specs.declared.requests.CommandType.TheVariants.{Read}
use Rattle.nbd_wire.specs.Requests.{request_text}
use Rattle.demo_clients.specs.Inputs.{head_of}
use Rattle.demo_clients.specs.Operations.{read_of}
use Rattle.demo_clients.proofs.InputLemmas.{read-asked, requests-begin, requests-more}
use Rattle.demo_clients.proofs.input.Sending.read_all.Goals as goal

pub loop-block-init : goal.loop-block-init
loop-block-init c = record {
  bytes = requests-begin read_of c.args.self.now.cookie c.args.share.first
      (c.args.share.first - c.args.share.first) c.args.self.now.bytes.items (omega arith);
  cookie = omega arith;
}

pub loop-block-preserved : goal.loop-block-preserved
loop-block-preserved c =
    let first = c.args.share.first in
    let block = c.loop-block.block in
    let now = c.loop-block.self in
    record {
      bytes = requests-more read_of c.args.self.now.cookie now.cookie first (block - first)
          (block + 1 - first) block now.bytes.items c.args.self.now.bytes.items
          c.put_head.new.self.bytes.items c.loop-block.invariant.bytes
          c.loop-block.invariant.cookie (omega arith) (omega arith)
          (c.in_ok-put_head.ensures.bytes
          ∙ ap
          (λ (at : ℕ). now.bytes.items ++ request_text (head_of now.cookie Read false at 512))
          c.place_of.ensures
          ∙ ap (λ (t : List ℕ). now.bytes.items ++ t) (read-asked now.cookie block));
      cookie = omega (arith, c.in_ok-put_head.ensures.cookie, c.loop-block.invariant.cookie);
    }
