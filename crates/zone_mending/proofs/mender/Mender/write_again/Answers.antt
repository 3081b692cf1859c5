use Rattle.std.proofs.Common.{ap, ◌∙◌}
use Rattle.zone_mending.specs.Menders.{after_write}
use Rattle.zone_mending.proofs.StepLemmas.{failed-filled}
use Rattle.zone_mending.specs.Steps.{writes, write_fails}
use Rattle.zone_mending.specs.declared.mender.MendCall.{MendCall}
use Rattle.zone_mending.specs.declared.mender.Mender.{Mender}
use Rattle.zone_mending.proofs.mender.Mender.write_again.Goals as goal

pub returns-in-Ok : goal.returns-in-Ok
returns-in-Ok g c =
    writes c.args.done c.requires.next c.in-Ok.ensures.call (record {
      is = ap (λ (n : MendCall). record c.write_part.new.self { next = n })
          c.behind_write-self.ensures
          ∙ ap (λ (m : Mender g.row.C.Denot). record m { next = after_write m.site c.args.done })
          c.in-Ok.ensures.rest;
      long = c.in-Ok.ensures.long;
    })

pub returns-in-Err : goal.returns-in-Err
returns-in-Err g c =
    write_fails c.args.done c.requires.next c.in-Err.ensures.call
    (failed-filled c.args.self.now c.write_part.new.self c.in-Err.ensures.rest c.in-Err.ensures.long)
