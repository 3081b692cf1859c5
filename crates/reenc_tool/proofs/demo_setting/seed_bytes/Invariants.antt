use Rattle.std.proofs.Common.{◌≡◌}
use Rattle.reenc_tool.proofs.DemoSeeds.{first_bytes}
use Rattle.reenc_tool.proofs.demo_setting.seed_bytes.Given as goal

abbrev pub invariant-loop-i : goal.invariant-loop-i
invariant-loop-i l = l.bytes.items ≡ first_bytes l.seed l.more l.i
