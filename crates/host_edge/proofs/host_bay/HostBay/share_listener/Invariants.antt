use Rattle.std.proofs.Common.{◌≡◌, ◌<◌, ℕ, Ok, length, slice_index_or}
use Rattle.host_edge.specs.Shares.{share_of}
use Rattle.host_edge.proofs.host_bay.HostBay.share_listener.Given as goal

abbrev pub invariant-loop-k : goal.invariant-loop-k
invariant-loop-k g l = record {
  count : length l.links.items ≡ l.k;
  shared : (j : ℕ) (link : _) → j < l.k →
      (slice_index_or l.links.items j link).left ≡ share_of l.workers l.sessions j;
  handles : (j : ℕ) (link : _) → j < l.k →
      g.R.Listener.Listener.shares l.listener
      (Ok (slice_index_or l.links.items j link).listener);
  manners : (j : ℕ) (link : _) → j < l.k →
      (slice_index_or l.links.items j link).manner ≡ l.manner;
}
