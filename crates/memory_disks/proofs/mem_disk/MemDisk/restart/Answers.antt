use Rattle.std.proofs.Common.{◌∙◌, length, ap, refl}
use Rattle.memory_disks.specs.EachCell.{held_table}
use Rattle.sector_disk.proofs.CellLemmas.{currents_sures}
use Rattle.memory_disks.proofs.ImageLemmas.{even_image, image_is}
use Rattle.base_terms.proofs.BlockLemmas.{length-joined, blocks_of-joined}
use Rattle.memory_disks.proofs.mem_disk.MemDisk.restart.Goals as goal

pub begun_with-requires : goal.begun_with-requires
begun_with-requires c =
    ap length c.in-Ok.ensures ∙ length-joined _ _ _
    (even_image _ _ _ _ _ c.requires c.args.self.began c.args.self.even)

pub returns-in-Ok-clause-told : goal.returns-in-Ok-clause-told
returns-in-Ok-clause-told c =
    let blocks =
    blocks_of-joined _ _ _ (even_image _ _ _ _ _ c.requires c.args.self.began c.args.self.even) in
    rw (c.begun_with.ensures.told, c.in-Ok.ensures, blocks) refl

pub returns-in-Ok-clause-image : goal.returns-in-Ok-clause-image
returns-in-Ok-clause-image c =
    let blocks =
    blocks_of-joined _ _ _ (even_image _ _ _ _ _ c.requires c.args.self.began c.args.self.even) in
    rw (ap (λ told. told.now) c.begun_with.ensures.told, c.in-Ok.ensures, blocks, currents_sures _)
    (image_is _ _ _ c.requires (held_table _ _ _ _))
