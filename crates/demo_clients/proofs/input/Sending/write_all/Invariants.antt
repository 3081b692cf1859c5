use Rattle.std.proofs.Common.{◌≡◌, ◌+◌, ◌-◌, ◌++◌, map}
use Rattle.std.specs.List.{range_with_len}
use Rattle.demo_clients.specs.Inputs.{requests_text}
use Rattle.demo_clients.specs.Operations.{write_of}
use Rattle.demo_clients.proofs.input.Sending.write_all.Given as goal

abbrev pub invariant-loop-block : goal.invariant-loop-block
invariant-loop-block l = record {
  bytes : l.self.bytes.items ≡ l.initial.self.bytes.items ++ requests_text l.initial.self.cookie
      (map (write_of l.seed) (range_with_len l.fn.share.first (l.block - l.fn.share.first)));
  cookie : l.self.cookie ≡ l.initial.self.cookie + (l.block - l.fn.share.first);
}
