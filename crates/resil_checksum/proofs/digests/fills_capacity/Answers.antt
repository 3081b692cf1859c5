use Rattle.resil_checksum.proofs.RoomLemmas.{fills}
use Rattle.resil_checksum.proofs.digests.fills_capacity.Goals as goal

pub returns : goal.returns
returns c = fills c.args.area c.args.blocks c.args.atom c.requires.some c.requires.whole
