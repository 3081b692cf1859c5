use Rattle.std.proofs.Common.{◌∙◌, ap, sym, subst, IfOk}
use Rattle.luks_init.proofs.DiskInit.AnswerLemmas.{locked_by, unlocked_on}
use Rattle.luks_init.specs.DiskInit.Unlocking.{linear_by}
use Rattle.luks_rules.specs.Idles.{idle_of}
use Rattle.luks_rules.specs.declared.valid.Checked.{Checked}
use Rattle.volume_opening.specs.Openings.{IsFound, IsKeyFound}
use Rattle.volume_opening.specs.Refusals.{IsNoKeyFound}
use Rattle.luks_init.proofs.init_disk.unlocking.unlock_volume.Goals as goal

pub returns-then-is_linear-clause-locked : goal.returns-then-is_linear-clause-locked
returns-then-is_linear-clause-locked g c = record {
  read = c.read_header-disk.ensures.read;
  stored = c.in-Ok.loaded;
  found = subst (λ r. IfOk r (IsFound (g.D.Disk.device c.args.disk))) c.in-Ok.is
      c.read_header-disk.ensures.found;
  linear = ap (λ (v : Checked). linear_by (idle_of v.meta v.sizes)) (sym c.valid.ensures)
      ∙ sym c.is_linear.ensures ∙ c.if-is_linear.true;
}

pub returns-in-Ok-find_key-clause-unlocked : goal.returns-in-Ok-find_key-clause-unlocked
returns-in-Ok-find_key-clause-unlocked g c =
    unlocked_on (g.D.Disk.device c.args.disk) (g.D.Disk.device c.read_header-disk.result.0)
    (g.D.Disk.device c.find_key.new.disk) c.args.pass.now c.in-Ok.loaded c.in-Ok-find_key.key
    c.read_header-disk.ensures.read
    (subst (λ r. IfOk r (IsFound (g.D.Disk.device c.args.disk))) c.in-Ok.is
    c.read_header-disk.ensures.found)
    (ap (λ (v : Checked). linear_by (idle_of v.meta v.sizes)) (sym c.valid.ensures)
    ∙ sym c.is_linear.ensures ∙ c.if-is_linear.false) c.in-Ok-find_key.ensures.read
    (subst (λ (v : Checked). IsKeyFound v.meta v.sizes c.args.pass.now
    (g.D.Disk.device c.read_header-disk.result.0).values c.in-Ok-find_key.key) c.valid-2.ensures
    c.in-Ok-find_key.ensures.found)

pub returns-clause-locked : goal.returns-clause-locked
returns-clause-locked g c =
    locked_by g.D.Disk.device c.args.disk c.find_key.new.disk c.args.pass.now
    c.in-Err-find_key.refusal c.in-Ok.loaded (g.D.Disk.device c.read_header-disk.result.0)
    (subst (λ r. IfOk r (IsFound (g.D.Disk.device c.args.disk))) c.in-Ok.is
    c.read_header-disk.ensures.found)
    (ap (λ (v : Checked). linear_by (idle_of v.meta v.sizes)) (sym c.valid.ensures)
    ∙ sym c.is_linear.ensures ∙ c.if-is_linear.false) c.read_header-disk.ensures.read
    c.in-Err-find_key.ensures.read
    (subst (λ (v : Checked). IsNoKeyFound v.meta v.sizes c.args.pass.now
    (g.D.Disk.device c.read_header-disk.result.0) (g.D.Disk.device c.find_key.new.disk)
    c.in-Err-find_key.refusal) c.valid-2.ensures c.in-Err-find_key.ensures.refused)
