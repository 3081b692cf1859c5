use Rattle.std.proofs.Common.{ap}
use Rattle.zone_mending.proofs.StepLemmas.{failed-filled}
use Rattle.zone_mending.specs.Steps.{finds, find_fails}
use Rattle.zone_mending.specs.declared.mender.MendCall.TheVariants.{Write}
use Rattle.zone_mending.specs.declared.mender.Mender.{Mender}
use Rattle.zone_mending.proofs.mender.Mender.read_own.Goals as goal

pub returns-in-Ok : goal.returns-in-Ok
returns-in-Ok g c =
    finds c.args.done c.requires.next c.in-Ok.ensures.call (record {
      is = ap (λ (m : Mender g.row.C.Denot). record m { next = Write c.args.done })
          c.in-Ok.ensures.rest;
      long = c.in-Ok.ensures.long;
    })

pub returns-in-Err : goal.returns-in-Err
returns-in-Err g c =
    find_fails c.args.done c.requires.next c.in-Err.ensures.call
    (failed-filled c.args.self.now c.find_part.new.self c.in-Err.ensures.rest c.in-Err.ensures.long)
