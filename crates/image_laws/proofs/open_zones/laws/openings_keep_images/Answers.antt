use Rattle.image_laws.proofs.Opened.OpeningLemmas.{disk-keep, disk-reads-keep, joined-keep, reads-keep}
use Rattle.image_laws.proofs.open_zones.laws.openings_keep_images.Goals as goal

pub returns-clause-reads : goal.returns-clause-reads
returns-clause-reads c =
    reads-keep c.fronts_keep_images.ensures c.openings_keep_contents.ensures.reads

pub returns-clause-disk_reads : goal.returns-clause-disk_reads
returns-clause-disk_reads c =
    disk-reads-keep c.fronts_keep_images.ensures c.openings_keep_contents.ensures.disk_reads

pub returns-clause-repairs : goal.returns-clause-repairs
returns-clause-repairs c =
    joined-keep c.gaps_keep_contents.ensures.fronts c.fronts_keep_images.ensures
    c.openings_keep_headers.ensures.joined

pub returns-clause-disk_repairs : goal.returns-clause-disk_repairs
returns-clause-disk_repairs c =
    disk-keep c.gaps_keep_contents.ensures.fronts c.fronts_keep_images.ensures
    c.openings_keep_headers.ensures.disk
