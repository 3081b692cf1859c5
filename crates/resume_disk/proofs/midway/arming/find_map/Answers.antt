use Rattle.std.proofs.Common.{◌∙◌, refl}
use Rattle.resume_disk.proofs.OpenedMidway.ArmLemmas.{closed_by, map_by, same_busy}
use Rattle.resume_disk.proofs.midway.arming.find_map.Goals as goal

pub returns-clause-map : goal.returns-clause-map
returns-clause-map c =
    let reenc = c.in-Some.reenc in
    map_by reenc.valid.now c.args.header.now reenc.progress c.map.result
    (c.in-Some.ensures.is ∙ c.valid.ensures) reenc.known c.map.ensures.is

pub returns-clause-closed : goal.returns-clause-closed
returns-clause-closed c =
    let reenc = c.in-Some.reenc in
    closed_by c.args.header.now c.map.result c.requires.may
    (map_by reenc.valid.now c.args.header.now reenc.progress c.map.result
    (c.in-Some.ensures.is ∙ c.valid.ensures) reenc.known c.map.ensures.is)

pub unreachable-requires : goal.unreachable-requires
unreachable-requires c =
    same_busy c.valid.result.now c.args.header.now c.valid.ensures c.requires.may
    (c.in-None.ensures.none.0 refl)
