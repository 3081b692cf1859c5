use Rattle.std.proofs.Common.{sym, subst}
use Rattle.hotzone.specs.Headings.{IsTurning, IsUnmade, MayTurn, Turns}
use Rattle.zone_mending.proofs.OpenZoneLemmas.{is-moved, may-turn-zone, not-made}
use Rattle.zone_mending.specs.OpenZones.{IsMoving}
use Rattle.zone_mending.proofs.zone.move_header.Goals as goal

pub turn_header-requires-clause-may : goal.turn_header-requires-clause-may
turn_header-requires-clause-may c =
    subst (λ n. MayTurn c.args.loaded.now n) (sym c.len.ensures)
    (may-turn-zone c.args.loaded.now _ c.args.site.now c.requires.zone.1)

pub returns-in-Ok-clause-moved : goal.returns-in-Ok-clause-moved
returns-in-Ok-clause-moved c =
    is-moved c.args.loaded.now _ c.args.site.now c.in-Ok.next c.requires.zone.1
    (subst (λ n. Turns c.args.loaded.now n c.in-Ok.next) c.len.ensures c.in-Ok.ensures.turns)
    c.in-Ok.ensures.follows

pub name_fault-requires-clause-device : goal.name_fault-requires-clause-device
name_fault-requires-clause-device c =
    λ e. subst (IsUnmade c.args.loaded.now 1 (IsTurning c.args.loaded.now c.len.result)) e
    c.in-Err.ensures.unmade

pub name_fault-requires-clause-clash : goal.name_fault-requires-clause-clash
name_fault-requires-clause-clash c =
    λ block digest e.
    subst (IsUnmade c.args.loaded.now 1 (IsTurning c.args.loaded.now c.len.result)) e
    c.in-Err.ensures.unmade

pub returns-in-Err-clause-unmade : goal.returns-in-Err-clause-unmade
returns-in-Err-clause-unmade c =
    subst (IsUnmade c.args.loaded.now 1 (IsMoving c.args.loaded.now)) (sym c.name_fault.ensures)
    (not-made c.args.loaded.now _ c.args.site.now c.in-Err.fault c.requires.zone.1
    (subst (λ n. IsUnmade c.args.loaded.now 1 (IsTurning c.args.loaded.now n) c.in-Err.fault)
    c.len.ensures c.in-Err.ensures.unmade))
