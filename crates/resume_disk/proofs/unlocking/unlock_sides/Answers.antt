use Rattle.std.proofs.Common.{◌≡◌, ◌∙◌, ap, sym, subst, true, false, IfOk}
use Rattle.luks_rules.specs.Segments.{has_tail}
use Rattle.luks_rules.specs.declared.valid.Checked.{Checked}
use Rattle.resume_disk.proofs.ResumeLemmas.{locked_by, tail_on, under_keys}
use Rattle.resume_disk.specs.Keys.{AreKeysFound, IsNoKeysFound}
use Rattle.volume_opening.specs.Openings.{IsFound}
use Rattle.resume_disk.proofs.unlocking.unlock_sides.Goals as goal

pub returns-in-Ok-find_side_keys-clause-unlocked : goal.returns-in-Ok-find_side_keys-clause-unlocked
returns-in-Ok-find_side_keys-clause-unlocked g c =
    let device = g.D.Disk.device c.args.disk in
    let read = g.D.Disk.device c.read_header-disk.result.0 in
    under_keys device read (g.D.Disk.device c.find_side_keys.new.disk) c.args.pass.now
    c.in-Ok.loaded c.in-Ok-find_side_keys.keys c.read_header-disk.ensures.read
    (subst (λ r. IfOk r (IsFound device)) c.in-Ok.is c.read_header-disk.ensures.found)
    c.in-Ok-find_side_keys.ensures.read
    (subst (λ (v : Checked). AreKeysFound v.meta v.sizes c.args.pass.now read.values
    c.in-Ok-find_side_keys.keys) c.valid.ensures c.in-Ok-find_side_keys.ensures.found)
    (subst (λ (v : Checked). has_tail v.meta.segments
    (g.D.Disk.device c.find_side_keys.new.disk).tail ≡ false) c.valid-in-Ok-find_side_keys.ensures
    (ap (λ n. has_tail c.valid-in-Ok-find_side_keys.result.now.meta.segments n) (sym c.tail-tail.ensures.is)
    ∙ sym c.has_tail.ensures ∙ c.if-has_tail.false))

pub returns-then-has_tail-clause-locked : goal.returns-then-has_tail-clause-locked
returns-then-has_tail-clause-locked g c =
    let device = g.D.Disk.device c.args.disk in
    let read = g.D.Disk.device c.read_header-disk.result.0 in
    let after = g.D.Disk.device c.find_side_keys.new.disk in
    tail_on device read after c.args.pass.now c.in-Ok.loaded c.in-Ok-find_side_keys.keys
    c.read_header-disk.ensures.read
    (subst (λ r. IfOk r (IsFound device)) c.in-Ok.is c.read_header-disk.ensures.found)
    c.in-Ok-find_side_keys.ensures.read
    (subst (λ (v : Checked). AreKeysFound v.meta v.sizes c.args.pass.now read.values
    c.in-Ok-find_side_keys.keys) c.valid.ensures c.in-Ok-find_side_keys.ensures.found)
    c.tail-tail.result c.tail-tail.ensures.is
    (subst (λ (v : Checked). has_tail v.meta.segments after.tail ≡ true) c.valid-in-Ok-find_side_keys.ensures
    (ap (λ n. has_tail c.valid-in-Ok-find_side_keys.result.now.meta.segments n) (sym c.tail-tail.ensures.is)
    ∙ sym c.has_tail.ensures ∙ c.if-has_tail.true))

pub returns-clause-locked : goal.returns-clause-locked
returns-clause-locked g c =
    let device = g.D.Disk.device c.args.disk in
    let read = g.D.Disk.device c.read_header-disk.result.0 in
    let after = g.D.Disk.device c.find_side_keys.new.disk in
    locked_by device read after c.args.pass.now c.in-Ok.loaded c.in-Err-find_side_keys.refusal
    c.read_header-disk.ensures.read
    (subst (λ r. IfOk r (IsFound device)) c.in-Ok.is c.read_header-disk.ensures.found)
    c.in-Err-find_side_keys.ensures.read
    (subst (λ (v : Checked). IsNoKeysFound v.meta v.sizes c.args.pass.now read after
    c.in-Err-find_side_keys.refusal) c.valid.ensures c.in-Err-find_side_keys.ensures.refused)
