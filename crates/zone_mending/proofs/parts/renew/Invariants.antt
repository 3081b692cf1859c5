use Rattle.zone_mending.proofs.JudgeLemmas.{AreJudged}
use Rattle.volume_machine.specs.Seals.{seals_of}
use Rattle.zone_mending.proofs.parts.renew.Given as goal

-- the first k blocks are judged
abbrev pub invariant-renewed : goal.invariant-renewed
invariant-renewed g l =
    AreJudged (seals_of g.C.SectorCipher.sealed g.C.SectorCipher.opened l.atom l.keys) l.atom
    l.piece.first l.piece.count l.k l.digests l.initial.bytes l.bytes
