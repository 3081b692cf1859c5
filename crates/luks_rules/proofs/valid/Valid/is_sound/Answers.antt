use Rattle.std.proofs.Common.{subst}
use Rattle.json_members.specs.Entries.{IsRising}
use Rattle.luks_rules.specs.Rules.{IsJudged}
use Rattle.luks_rules.proofs.SoundLemmas.{sound}
use Rattle.luks_rules.proofs.valid.Valid.is_sound.Goals as goal

pub returns : goal.returns
returns c =
    let judged =
    subst (λ k. IsJudged k.meta k.sizes c.self.inside.progress) c.self.view_is c.self.invariant in
    let rising =
    subst (λ k. IsRising k.meta.digests) c.self.view_is
    c.parts-parts.ensures.right.digests.rising in
    sound c.args.self.now.meta c.args.self.now.sizes judged.atom rising judged.valid
