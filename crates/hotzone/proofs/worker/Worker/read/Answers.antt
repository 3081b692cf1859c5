use Rattle.std.proofs.Common.{refl}
use Rattle.hotzone.proofs.ReadLemmas.{has-read, has-stopped}
use Rattle.hotzone.specs.Steps.{reads, read_fails}
use Rattle.hotzone.specs.declared.worker.Halt.TheVariants.{GivenUp}
use Rattle.hotzone.specs.declared.worker.NextCall.TheVariants.{Read, Save}
use Rattle.hotzone.proofs.worker.Worker.read.Goals as goal

pub returns-in-Ok : goal.returns-in-Ok
returns-in-Ok g c =
    let is = c.in-Ok.ensures in
    reads c.args.done c.args.headers refl is.call
    (has-read c.args.self.now c.read_part.new.self (Read c.args.done c.args.headers) is.rest is.long (Save c.args.done c.args.headers))

pub returns-in-Err : goal.returns-in-Err
returns-in-Err g c =
    let is = c.in-Err.ensures in
    read_fails c.args.done c.args.headers refl is.call
    (has-stopped c.args.self.now c.read_part.new.self (Read c.args.done c.args.headers) is.rest is.long (Read c.args.done c.args.headers) GivenUp)
