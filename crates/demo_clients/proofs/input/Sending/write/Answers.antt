use Rattle.std.proofs.Common.{ℕ, ◌++◌, false, ap, ◌∙◌}
use Rattle.std.proofs.lemmas.Result.{on_ok_weaker}
use Rattle.nbd_wire.specs.declared.requests.CommandType.TheVariants.{Write}
use Rattle.nbd_wire.specs.Requests.{request_text}
use Rattle.demo_clients.specs.Inputs.{head_of}
use Rattle.demo_clients.proofs.InputLemmas.{write-asked}
use Rattle.demo_clients.proofs.input.Sending.write.Goals as goal

pub returns-clause-bytes : goal.returns-clause-bytes
returns-clause-bytes c =
    let old = c.args.self.now in
    on_ok_weaker c.put_block.result
    (λ body. write-asked old.cookie c.args.seed c.args.block old.bytes.items
    c.put_head.new.self.bytes.items c.put_block.new.bytes.items
    (c.in_ok-put_head.ensures.bytes
    ∙ ap (λ (at : ℕ). old.bytes.items ++ request_text (head_of old.cookie Write false at 512))
    c.place_of.ensures) body)
    c.put_block.ensures
