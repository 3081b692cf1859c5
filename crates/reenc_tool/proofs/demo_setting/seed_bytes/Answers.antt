use Rattle.std.proofs.Common.{◌≡◌, ◌∙◌, ◌+◌, ◌%◌, ℕ, ap, arith}
use Rattle.reenc_tool.proofs.DemoSeeds.{all_bytes, first_bytes, pushed}
use Rattle.reenc_tool.proofs.demo_setting.seed_bytes.Goals as goal

pub loop-i-preserved : goal.loop-i-preserved
loop-i-preserved c =
    pushed c.args.seed c.args.more c.loop-i.i _ _ _ c.in_ok-push.ensures.items c.loop-i.invariant
    (ap (λ (byte : ℕ). (byte + c.args.more) % 256) c.seed_byte.ensures)

pub returns-clause-bytes : goal.returns-clause-bytes
returns-clause-bytes c =
    let last : c.loop-i.i ≡ 256 = omega (arith, c.loop-i-test.false, c.loop-i.auto.i-end) in
    c.loop-i.invariant ∙ ap (first_bytes c.args.seed c.args.more) last
    ∙ all_bytes c.args.seed c.args.more
