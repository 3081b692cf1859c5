use Rattle.demo_clients.specs.Inputs.{parting_text}
use Rattle.demo_clients.proofs.input.Sending.disconnect.Goals as goal

pub returns : goal.returns
unfolding parting_text
returns c = c.in_ok-put_head.ensures.bytes
