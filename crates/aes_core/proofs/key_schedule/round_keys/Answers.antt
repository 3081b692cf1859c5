use Rattle.std.proofs.Common.{◌<◌, ◌+◌, ◌*◌, ◌∙◌, ap, sym, below_more, length, length-set, arith}
use Rattle.aes_core.specs.KeySchedule.{rounds_for, round_key}
use Rattle.aes_core.specs.Planes.{state_in}
use Rattle.aes_core.specs.RoundKeys.{carried}
use Rattle.aes_core.proofs.Words.{round_key_of_front}
use Rattle.aes_core.proofs.Rounds.{planes_at-set_other, planes_at-set_same}
use Rattle.aes_core.proofs.TranslationLemmas.{carried_twice, key_block}
use Rattle.aes_core.proofs.key_schedule.round_keys.Goals as goal

pub loop-round-preserved : goal.loop-round-preserved
unfolding round_key
loop-round-preserved c =
    let kept = c.loop-round.invariant in
    let round = c.loop-round.round in
    let made = c.key_planes.result in
    let within : round < length c.loop-round.keys = omega (arith, kept.long) in
    let added = planes_at-set_same c.loop-round.keys round made within in
    record {
      long = length-set c.loop-round.keys round _ ∙ kept.long;
      keys = below_more _ _
          (λ r h. ap (λ planes. carried r (state_in 0 planes))
          (planes_at-set_other c.loop-round.keys round r made (omega arith)) ∙ kept.keys r h)
          (ap (λ planes. carried round (state_in 0 planes)) added
          ∙ ap (carried round) (c.key_planes.ensures 0 (omega arith))
          ∙ carried_twice round c.joined-bytes.result c.joined-bytes.ensures.block.length_is
          ∙ c.joined-bytes.ensures.bytes);
      alike = below_more _ _
          (λ r h k below. ap (state_in k)
          (planes_at-set_other c.loop-round.keys round r made (omega arith))
          ∙ kept.alike r h k below
          ∙ sym (ap (state_in 0)
          (planes_at-set_other c.loop-round.keys round r made (omega arith))))
          (λ k below. ap (state_in k) added ∙ c.key_planes.ensures k below
          ∙ sym (ap (state_in 0) added ∙ c.key_planes.ensures 0 (omega arith)));
    }

pub returns-clause-keys : goal.returns-clause-keys
returns-clause-keys c r within =
    let n = 4 * (rounds_for c.args.key.now + 1) in
    c.loop-round.invariant.keys r (omega arith)
    ∙ sym (round_key_of_front c.key_expansion-words.result n r (omega arith))
    ∙ ap (λ ws. round_key ws r) c.key_expansion-words.ensures

pub returns-clause-alike : goal.returns-clause-alike
returns-clause-alike c r k within below = c.loop-round.invariant.alike r (omega arith) k below

pub returns-clause-blocks : goal.returns-clause-blocks
returns-clause-blocks c r within = key_block c.loop-round.keys r
