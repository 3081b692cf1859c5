use Rattle.std.proofs.Common.{ap, ◌∙◌}
use Rattle.bays.specs.Memory.{story_of}
use Rattle.demo_clients.proofs.client_link.ClientLinkLink.next.Goals as goal

pub returns-clause-told : goal.returns-clause-told
returns-clause-told c = λ story is. c.in-Ok.ensures.told story (ap story_of c.self.view_is ∙ is)
