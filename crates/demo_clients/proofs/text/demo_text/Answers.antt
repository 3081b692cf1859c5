use Rattle.std.proofs.Common.{string_bytes}
use Rattle.demo_clients.proofs.TextLemmas.{made_as, text_is}
use Rattle.demo_clients.proofs.text.demo_text.Goals as goal

pub returns : goal.returns
returns c = made_as _ _ _ c.format.ensures.ok
    (text_is c.args.seed c.args.blocks c.args.workers c.args.digest.now
    (string_bytes c.in_ok-sum.sum) c.in_ok-sum.ensures)
