use Rattle.std.proofs.Common.{◌≡◌, ◌∙◌, ◌||◌, List, ap, false, fold, map, subst}
use Rattle.block_server.specs.declared.link.Standing.{Standing}
use Rattle.reenc_tool.proofs.ConcludingLemmas.{came-same, cause-same}
use Rattle.reenc_tool.proofs.PlayedLemmas.{spent-mapped}
use Rattle.reenc_tool.specs.Sessions.{any_spent, has_spent}
use Rattle.reenc_tool.specs.Standings.{AreFaultsOfFirst, failed_in}
use Rattle.reenc_tool.proofs.sessions.conclude.Goals as goal

pub returns-clause-came : goal.returns-clause-came
returns-clause-came g c =
    let trouble = c.trouble_of-trouble.result in
    let found = c.trouble_of-trouble.ensures in
    let served = c.args.served in
    let lists = map (λ list. list.items) served.sessions.items in
    let spent : trouble.spent ≡ has_spent lists =
    found.spent
    ∙ ap (λ l. fold (λ before list. before || any_spent list.items) false l)
    c.as_slice-3.ensures.value
    ∙ spent-mapped (λ list. list.items) served.sessions.items false in
    let failed : trouble.failed ≡ failed_in served.standings.items =
    found.failed ∙ ap failed_in c.as_slice-2.ensures.value in (
      trouble.faults,
      subst (λ (l : List g.row.L.Denot).
          AreFaultsOfFirst g.L.Link.state l served.standings.items trouble.faults)
          c.as_slice.ensures.value
          (subst (λ (s : List Standing).
          AreFaultsOfFirst g.L.Link.state c.as_slice.result.now s trouble.faults)
          c.as_slice-2.ensures.value found.faults),
      came-same c.cause-cause.result _ trouble.memory _ served.links.items lists
          (c.cause-cause.ensures
          ∙ cause-same _ _ _ _ served.worker _ _ _ _ trouble.faults trouble.memory
          (ap (λ p. p.broken) c.progress-broken.ensures) c.faults.ensures spent failed),
    )
