use Rattle.luks_store.proofs.DiskLemmas.{unwritten-joined}
use Rattle.luks_store.proofs.used.read_behind.Goals as goal

pub returns-in-Ok-Some-clause-unwritten : goal.returns-in-Ok-Some-clause-unwritten
returns-in-Ok-Some-clause-unwritten g c =
    unwritten-joined _ _ _ c.read_at.ensures.unwritten c.read_first.ensures.unwritten

pub returns-in-Ok-None-clause-unwritten : goal.returns-in-Ok-None-clause-unwritten
returns-in-Ok-None-clause-unwritten g c =
    unwritten-joined _ _ _ c.read_at.ensures.unwritten c.read_first.ensures.unwritten

pub returns-in-Err-read_first-clause-unwritten : goal.returns-in-Err-read_first-clause-unwritten
returns-in-Err-read_first-clause-unwritten g c =
    unwritten-joined _ _ _ c.read_at.ensures.unwritten c.read_first.ensures.unwritten
