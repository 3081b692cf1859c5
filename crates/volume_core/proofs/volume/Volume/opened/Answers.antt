use Rattle.volume_core.proofs.CodeNew.{new-sound, new-volume}
use Rattle.volume_core.proofs.volume.Volume.opened.Goals as goal

pub invariant_of-result : goal.invariant_of-result
invariant_of-result g c =
    new-volume _ _ _ c.args.lanes _ g.C.SectorCipher.sector _ c.into_parts-table.ensures.some
    c.into_parts-table.ensures.few c.requires.atom c.requires.map c.requires.zone c.requires.keys c.into_parts-table.ensures.room
    c.into_parts-table.ensures.entries c.into_parts-table.ensures.lanes

pub returns-clause-sound : goal.returns-clause-sound
returns-clause-sound g c = new-sound _ _ _ c.args.lanes _
    _ c.into_parts-table.ensures.some c.requires.map c.requires.zone c.into_parts-table.ensures.room
    c.into_parts-table.ensures.entries c.into_parts-table.ensures.lanes
