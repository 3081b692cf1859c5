use Rattle.std.proofs.Common.{ap, ◌∙◌, sym}
use Rattle.nbd_wire.specs.InfoData.{info_name}
use Rattle.nbd_wire.proofs.InfoDataLemmas.{name-read, none-some, read-taken, read-only}
use Rattle.nbd_wire.proofs.info_data.InfoData.read.Goals as goal

pub returns-in-None-clause-only : goal.returns-in-None-clause-only
returns-in-None-clause-only c = λ name types is e.
    none-some name (sym c.in-None.ensures.is ∙ ap info_name (sym e) ∙ name-read name types is)

pub returns-in-Some-clause-taken : goal.returns-in-Some-clause-taken
returns-in-Some-clause-taken c =
    read-taken c.args.bytes.now c.in-Some.name.now c.type_inv.bytes c.in-Some.ensures.fits.0
    c.in-Some.ensures.is

pub returns-in-Some-clause-only : goal.returns-in-Some-clause-only
returns-in-Some-clause-only c = λ name types is e.
    read-only c.args.bytes.now c.in-Some.name.now name types c.in-Some.ensures.is is e
