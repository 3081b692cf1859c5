use Rattle.std.proofs.Common.{subst, sym}
use denote.Param.Send.{sendable}
use Rattle.nbd_session.specs.Flying.{IsReady}
use Rattle.nbd_session.proofs.flying.fly.Goals as goal

pub for_each_mut-requires-clause-accepts : goal.for_each_mut-requires-clause-accepts
for_each_mut-requires-clause-accepts g c κs within = λ i p below at. (
  search sendable depth 20,
  (
    subst (λ lane. IsReady g.P.Port.usable c.args.reader.now c.args.writer.now i lane) (sym at)
        (c.requires.ready i p.now below),
    search sendable depth 30,
  ),
)
