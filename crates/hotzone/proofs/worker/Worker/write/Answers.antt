use Rattle.std.proofs.Common.{refl}
use Rattle.hotzone.proofs.ReadLemmas.{has-stopped, has-written}
use Rattle.hotzone.specs.Steps.{writes, write_fails}
use Rattle.hotzone.specs.declared.worker.Halt.TheVariants.{Failed}
use Rattle.hotzone.specs.declared.worker.NextCall.TheVariants.{Write}
use Rattle.hotzone.proofs.worker.Worker.write.Goals as goal

pub returns-in-Ok : goal.returns-in-Ok
returns-in-Ok g c =
    let is = c.in-Ok.ensures in
    let call = Write c.args.done c.args.headers in
    writes c.args.done c.args.headers refl is.call
    (has-written c.args.self.now c.write_part.new.self call is.rest is.long _ c.args.done
    c.args.headers c.behind_write.ensures)

pub returns-in-Err : goal.returns-in-Err
returns-in-Err g c =
    let is = c.in-Err.ensures in
    let call = Write c.args.done c.args.headers in
    write_fails c.args.done c.args.headers refl is.call
    (has-stopped c.args.self.now c.write_part.new.self call is.rest is.long call Failed) is.sealed
