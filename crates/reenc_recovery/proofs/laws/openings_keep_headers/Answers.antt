use Rattle.reenc_recovery.proofs.FoundLemmas.{openings_keep}
use Rattle.reenc_recovery.proofs.MendedLemmas.{any_joined_mended, any_mended}
use Rattle.reenc_recovery.proofs.RepairTableLemmas.{disk_openings_keep}
use Rattle.reenc_recovery.proofs.laws.openings_keep_headers.Goals as goal

pub returns-clause-joined : goal.returns-clause-joined
returns-clause-joined c =
    openings_keep
    (disk_openings_keep c.calls_are_seen.ensures.repairs c.repairs_keep_contents.ensures.begins
    c.repairs_keep_contents.ensures.goes_on c.repairs_keep_contents.ensures.each
    c.copies_mean_what_they_share.ensures c.used_copies_are_headers.ensures.stands)

pub returns-clause-disk : goal.returns-clause-disk
returns-clause-disk c =
    disk_openings_keep c.calls_are_seen.ensures.repairs c.repairs_keep_contents.ensures.begins
    c.repairs_keep_contents.ensures.goes_on c.repairs_keep_contents.ensures.each
    c.copies_mean_what_they_share.ensures c.used_copies_are_headers.ensures.stands

pub returns-clause-joined_mended : goal.returns-clause-joined_mended
returns-clause-joined_mended c =
    any_joined_mended
    (any_mended c.copies_are_read.ensures c.copies_mean_what_they_share.ensures
    c.used_copies_are_headers.ensures.stands c.used_copies_are_headers.ensures.both
    c.used_copies_are_headers.ensures.given c.metadata_go_by_meaning.ensures.loads)

pub returns-clause-disk_mended : goal.returns-clause-disk_mended
returns-clause-disk_mended c =
    any_mended c.copies_are_read.ensures c.copies_mean_what_they_share.ensures
    c.used_copies_are_headers.ensures.stands c.used_copies_are_headers.ensures.both
    c.used_copies_are_headers.ensures.given c.metadata_go_by_meaning.ensures.loads
