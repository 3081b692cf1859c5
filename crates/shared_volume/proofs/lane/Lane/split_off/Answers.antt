use Rattle.volume_cell.specs.Passes.{known}
use Rattle.shared_volume.proofs.Turning.{lane-of-split, rests-first}
use Rattle.shared_volume.specs.Ciphers.{sector_of, sealed, opened}
use Rattle.shared_volume.proofs.lane.Lane.split_off.Goals as goal

pub returns-clause-lane : goal.returns-clause-lane
returns-clause-lane g c =
    lane-of-split sector_of (known c.args.first.now) _ c.args.number c.args.keys
    c.args.shape c.requires.first c.requires.next c.requires.on c.split-pass.ensures.new.1

pub returns-clause-rests : goal.returns-clause-rests
returns-clause-rests g c =
    rests-first sealed opened (known c.args.first.now) _
    c.split-pass.ensures.new.1
