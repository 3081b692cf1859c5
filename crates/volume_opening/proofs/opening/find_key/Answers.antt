use Rattle.std.proofs.Common.{◌∙◌, sym, refl, arith}
use Rattle.std.proofs.lemmas.Bool.{eqb-false}
use Rattle.volume_opening.proofs.KeyLemmas.{crypt_found}
use Rattle.volume_opening.proofs.opening.find_key.Goals as goal

pub returns-in-Ok-clause-found : goal.returns-in-Ok-clause-found
returns-in-Ok-clause-found g c =
    crypt_found c.args.valid.now.meta c.args.valid.now.sizes c.args.pass.now
    (g.D.Disk.device c.args.disk.now).values c.in-Some.idle (sym c.idle.ensures ∙ c.in-Some.is) (
      omega (arith, eqb-false _ 0 (sym c.is_empty.ensures ∙ c.if-is_empty.false)),
      omega (arith, c.if-pass-gt-MOST_BYTES.false),
    )
    c.is_sound.ensures c.in-Some-digest.digest (g.D.Disk.device c.args.disk.now)
    (g.D.Disk.device c.unlock.new.disk) c.in-Ok.key c.if-is_none.ensures
    c.in-Some-digest.is refl c.in-Ok.ensures.unlocked
