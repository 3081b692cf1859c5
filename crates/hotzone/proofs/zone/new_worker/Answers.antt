use Rattle.std.proofs.Common.{◌∙◌, ap, length, arith, subst}
use Rattle.std.proofs.lemmas.List.{length-replicate}
use Rattle.hotzone.proofs.AskLemmas.{works-new}
use Rattle.hotzone.proofs.NextLemmas.{site-known}
use Rattle.luks_rules.specs.States.{IsSound}
use Rattle.luks_rules.specs.declared.valid.Checked.{Checked}
use Rattle.hotzone.proofs.zone.new_worker.Goals as goal

pub bytes-requires : goal.bytes-requires
bytes-requires g c = record {
  atom = site-known _ _ _ c.lay_next.ensures c.requires.disk;
  within = omega arith;
}

pub returns-in-Ok-clause-working : goal.returns-in-Ok-clause-working
returns-in-Ok-clause-working g c =
    let long = ap length c.in-Ok.ensures ∙ length-replicate _ 0 in
    let size = c.bytes.ensures in
    let buffer = ap length c.new.ensures in
    works-new g.C.SectorCipher.sector _ c.requires.disk
    (subst (λ (x : Checked). IsSound x.meta x.sizes) c.valid.ensures c.is_sound.ensures)
    c.lay_next.ensures c.requires.maps c.requires.keys (omega (arith, long, size, buffer))
    c.begin_with.ensures
