use Rattle.std.proofs.Common.{◌∙◌, ap, subst}
use Rattle.luks_store.proofs.StoredLemmas.{room-kept, rules-kept, size-kept}
use Rattle.json_members.specs.Entries.{IsRising}
use Rattle.luks_meta.specs.declared.meta.Parts.{Parts}
use Rattle.luks_store.specs.declared.loaded.Stored.{Stored}
use Rattle.luks_store.specs.Loads.{IsStored}
use Rattle.luks_store.proofs.loaded.Loaded.is_stored.Goals as goal

pub returns-clause-rules : goal.returns-clause-rules
returns-clause-rules c = rules-kept c.args.self.now (subst IsStored c.self.view_is c.self.invariant)

pub returns-clause-size : goal.returns-clause-size
returns-clause-size c = size-kept c.args.self.now (subst IsStored c.self.view_is c.self.invariant)

pub returns-clause-room : goal.returns-clause-room
returns-clause-room c = room-kept c.args.self.now (subst IsStored c.self.view_is c.self.invariant)
    (subst (λ (m : Parts). IsRising m.digests)
    (c.meta.ensures ∙ ap (λ (s : Stored). s.valid.meta) c.self.view_is)
    c.parts-parts.ensures.right.digests.rising)
