use Rattle.std.proofs.Common.{ap}
use Rattle.zone_mending.proofs.StepLemmas.{failed-laid}
use Rattle.zone_mending.specs.Steps.{lays, lay_fails}
use Rattle.zone_mending.specs.declared.mender.MendCall.TheVariants.{ReadOwn}
use Rattle.zone_mending.specs.declared.mender.Mender.{Mender}
use Rattle.zone_mending.proofs.mender.Mender.read_digests.Goals as goal

pub returns-in-Ok : goal.returns-in-Ok
returns-in-Ok g c =
    lays c.args.done c.requires.guard c.requires.next c.in-Ok.ensures.call (record {
      is = ap (λ (m : Mender g.row.C.Denot). record m { next = ReadOwn c.args.done })
          c.in-Ok.ensures.rest;
      long = c.in-Ok.ensures.long;
    })

pub returns-in-Err : goal.returns-in-Err
returns-in-Err g c =
    lay_fails c.args.done c.requires.guard c.requires.next c.in-Err.ensures.call
    (failed-laid c.args.self.now c.lay_digests.new.self c.in-Err.ensures.rest c.in-Err.ensures.long)
