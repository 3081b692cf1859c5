use Rattle.reenc_recovery.proofs.MendedLemmas.{disk_mended, mended}
use Rattle.reenc_recovery.proofs.laws.openings_mend_headers.Goals as goal

pub returns-clause-joined : goal.returns-clause-joined
returns-clause-joined c =
    mended
    (disk_mended c.contents_stay_behind_headers.ensures.keys
    c.contents_stay_behind_headers.ensures.passphrase c.openings_keep_headers.ensures.disk_mended)

pub returns-clause-disk : goal.returns-clause-disk
returns-clause-disk c =
    disk_mended c.contents_stay_behind_headers.ensures.keys
    c.contents_stay_behind_headers.ensures.passphrase c.openings_keep_headers.ensures.disk_mended
