use Rattle.std.proofs.Common.{refl}
use Rattle.hotzone.proofs.ReadLemmas.{has-read, has-stopped}
use Rattle.hotzone.specs.Steps.{reads_first, read_first_fails}
use Rattle.hotzone.specs.declared.worker.Halt.TheVariants.{GivenUp}
use Rattle.hotzone.specs.declared.worker.NextCall.TheVariants.{ReadFirst, SaveFirst}
use Rattle.hotzone.proofs.worker.Worker.read_first.Goals as goal

pub returns-in-Ok : goal.returns-in-Ok
returns-in-Ok g c =
    let is = c.in-Ok.ensures in
    reads_first refl is.call
    (has-read c.args.self.now c.read_part.new.self ReadFirst is.rest is.long SaveFirst)

pub returns-in-Err : goal.returns-in-Err
returns-in-Err g c =
    let is = c.in-Err.ensures in
    read_first_fails refl is.call
    (has-stopped c.args.self.now c.read_part.new.self ReadFirst is.rest is.long ReadFirst GivenUp)
