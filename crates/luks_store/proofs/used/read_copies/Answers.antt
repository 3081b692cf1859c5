use Rattle.luks_store.proofs.DiskLemmas.{unwritten-joined}
use Rattle.luks_store.proofs.used.read_copies.Goals as goal

pub returns-in-Ok-Ok-clause-unwritten : goal.returns-in-Ok-Ok-clause-unwritten
returns-in-Ok-Ok-clause-unwritten g c =
    unwritten-joined _ _ _ c.read_at.ensures.unwritten c.read_beside.ensures.unwritten

pub returns-in-Ok-Err-clause-unwritten : goal.returns-in-Ok-Err-clause-unwritten
returns-in-Ok-Err-clause-unwritten g c =
    unwritten-joined _ _ _ c.read_at.ensures.unwritten c.read_behind.ensures.unwritten
