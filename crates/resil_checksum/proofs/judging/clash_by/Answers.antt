use Rattle.std.proofs.Common.{◌/◌, length}
use Rattle.resil_checksum.proofs.ClashLemmas.{clash-of}
use Rattle.resil_checksum.specs.declared.judging.AtHand.TheVariants.{Digests}
use Rattle.resil_checksum.proofs.judging.clash_by.Goals as goal

pub returns : goal.returns
returns g c old digests =
    clash-of Digests c.args.atom (length c.args.new.now / c.args.atom) c.args.digests.now old
    c.args.new.now digests c.find_clash.result c.find_clash.ensures
