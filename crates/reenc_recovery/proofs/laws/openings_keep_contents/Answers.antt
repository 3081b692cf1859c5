use Rattle.reenc_recovery.proofs.FoundLemmas.{contents_keep, disk_contents_keep}
use Rattle.reenc_recovery.proofs.TableLemmas.{disk_reads_keep, reads_keep}
use Rattle.reenc_recovery.proofs.laws.openings_keep_contents.Goals as goal

pub returns-clause-reads : goal.returns-clause-reads
returns-clause-reads c = reads_keep

pub returns-clause-repairs : goal.returns-clause-repairs
returns-clause-repairs c =
    contents_keep
    (disk_contents_keep c.contents_stay_behind_headers.ensures.keys
    c.contents_stay_behind_headers.ensures.passphrase c.openings_keep_headers.ensures.disk)

pub returns-clause-disk_reads : goal.returns-clause-disk_reads
returns-clause-disk_reads c = disk_reads_keep

pub returns-clause-disk_repairs : goal.returns-clause-disk_repairs
returns-clause-disk_repairs c =
    disk_contents_keep c.contents_stay_behind_headers.ensures.keys
    c.contents_stay_behind_headers.ensures.passphrase c.openings_keep_headers.ensures.disk
