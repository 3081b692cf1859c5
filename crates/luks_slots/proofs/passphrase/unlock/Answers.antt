use Rattle.std.proofs.Common.{sym, ◌∙◌, subst}
use Rattle.std.specs.List.{AllByRecursion}
use Rattle.luks_meta.specs.Metas.{IsMeta}
use Rattle.luks_meta.specs.declared.meta.Parts.{Parts}
use Rattle.luks_slots.proofs.ReadyLemmas.{ready}
use Rattle.luks_slots.specs.Slots.{IsReady}
use Rattle.luks_slots.proofs.passphrase.unlock.Goals as goal

pub find-requires-clause-ready : goal.find-requires-clause-ready
find-requires-clause-ready g c =
    subst (λ (m : Parts). AllByRecursion
    (λ slot. IsReady (g.D.Disk.device c.args.disk.now).size (g.D.Disk.device c.args.disk.now).atoms
    slot.1) m.keyslots)
    (sym (c.parts.ensures.same ∙ c.meta.ensures))
    (ready c.args.valid.now.meta c.args.valid.now.sizes (g.D.Disk.device c.args.disk.now)
    c.is_sound.ensures
    (subst (λ (m : Parts). IsMeta m) c.meta.ensures c.parts.ensures.right) c.requires.header)
