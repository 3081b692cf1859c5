use Rattle.std.proofs.Common.{subst}
use Rattle.resume_disk.proofs.OpenedMidway.CauseLemmas.{no_new, no_old}
use Rattle.resume_disk.proofs.OpenedMidway.SegmentLemmas.{new_placed, new_sectors, old_placed}
use Rattle.resume_disk.proofs.OpenedMidway.SegmentLemmas.{old_sectors}
use Rattle.resume_disk.proofs.midway.sides.find_sides.Goals as goal
use Rattle.luks_meta.specs.Metas.{IsMeta}

pub segment_cipher-requires-clause-sector : goal.segment_cipher-requires-clause-sector
segment_cipher-requires-clause-sector c =
    old_sectors c.args.valid.now.meta c.args.valid.now.sizes c.args.progress.now
    (subst IsMeta c.meta.ensures c.parts-parts.ensures.right) c.is_sound.ensures c.requires

pub segment_cipher-requires-clause-digest : goal.segment_cipher-requires-clause-digest
segment_cipher-requires-clause-digest c =
    (old_placed c.args.valid.now.meta c.args.valid.now.sizes c.args.progress.now
    (subst IsMeta c.meta.ensures c.parts-parts.ensures.right) c.is_sound.ensures c.requires).digest

pub segment_cipher-requires-2-clause-sector : goal.segment_cipher-requires-2-clause-sector
segment_cipher-requires-2-clause-sector c =
    new_sectors c.args.valid.now.meta c.args.valid.now.sizes c.args.progress.now
    (subst IsMeta c.meta.ensures c.parts-parts.ensures.right) c.is_sound.ensures c.requires

pub segment_cipher-requires-2-clause-digest : goal.segment_cipher-requires-2-clause-digest
segment_cipher-requires-2-clause-digest c =
    (new_placed c.args.valid.now.meta c.args.valid.now.sizes c.args.progress.now
    (subst IsMeta c.meta.ensures c.parts-parts.ensures.right) c.is_sound.ensures c.requires).digest

pub returns-in-Err-clause-refused : goal.returns-in-Err-clause-refused
returns-in-Err-clause-refused c =
    no_old c.args.valid.now.meta c.args.progress.now c.args.keys.now c.in-Err.cause
    c.in-Err.ensures.refused

pub returns-in-Err-segment_cipher-clause-refused : goal.returns-in-Err-segment_cipher-clause-refused
returns-in-Err-segment_cipher-clause-refused c =
    no_new c.args.valid.now.meta c.args.progress.now c.args.keys.now
    c.in-Err-segment_cipher.cause c.in-Ok.ensures.key c.in-Err-segment_cipher.ensures.refused
