use Rattle.luks_store.proofs.DiskLemmas.{unwritten-joined}
use Rattle.header_report.proofs.reading.load_settled.Goals as goal

pub returns-then-may_be_half_way-clause-unwritten :
    goal.returns-then-may_be_half_way-clause-unwritten
returns-then-may_be_half_way-clause-unwritten g c =
    unwritten-joined _ _ _ c.load-loaded.ensures.unwritten c.load.ensures.unwritten
