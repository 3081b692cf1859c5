use Rattle.std.proofs.Common.{◌≡◌, ◌∙◌, Ok, sym, subst, arith}
use Rattle.std.proofs.lemmas.Grind.{common_steps}
use Rattle.host_edge.specs.Shares.{share_of}
use Rattle.host_edge.proofs.ShareLemmas.{all_more}
use Rattle.host_edge.proofs.host_bay.HostBay.share_listener.Goals as goal

pub loop-k-preserved : goal.loop-k-preserved
loop-k-preserved g c = record {
  count = grind (arith, common_steps);
  shared = λ j link below.
      rw c.in_ok-push.ensures.items
      (all_more (λ k link. link.left ≡ share_of c.args.workers c.args.sessions k) c.loop-k.k
      c.loop-k.links.items c.new-link.result c.loop-k.invariant.count c.loop-k.invariant.shared
      (c.new-link.ensures.bound ∙ c.share_for-share.ensures) j link below);
  handles = λ j link below.
      rw c.in_ok-push.ensures.items
      (all_more (λ _ link. g.R.Listener.Listener.shares c.args.listener.now (Ok link.listener))
      c.loop-k.k c.loop-k.links.items c.new-link.result c.loop-k.invariant.count
      c.loop-k.invariant.handles
      (subst (λ listener. g.R.Listener.Listener.shares c.args.listener.now (Ok listener))
      (sym c.new-link.ensures.listener) c.in-Ok.ensures) j link below);
  manners = λ j link below.
      rw c.in_ok-push.ensures.items
      (all_more (λ _ link. link.manner ≡ c.args.manner) c.loop-k.k c.loop-k.links.items
      c.new-link.result c.loop-k.invariant.count c.loop-k.invariant.manners
      c.new-link.ensures.manner j link below);
}
