use Rattle.host_edge.specs.Untold.{untold_link}
use Rattle.host_edge.proofs.ShareLemmas.{bounded_where}
use Rattle.host_edge.proofs.host_bay.HostBay.open_links.Goals as goal

pub returns-in-Ok-clause-bound : goal.returns-in-Ok-clause-bound
returns-in-Ok-clause-bound g c =
    bounded_where (λ link. untold_link link.left link.lent link.faults) (λ links. links.items)
    c.args.workers c.args.sessions c.share_listener.result
    c.share_listener.ensures.shared
