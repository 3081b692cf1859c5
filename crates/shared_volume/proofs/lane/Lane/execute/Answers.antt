use Rattle.shared_volume.proofs.lane.Lane.execute.Goals as goal

pub carry_out-executed-requires-clause-plan : goal.carry_out-executed-requires-clause-plan
carry_out-executed-requires-clause-plan g c = λ κs bounds. let e = c.in_ok-plan.ensures in (
  c.args.session,
  c.args.op,
  record {
    awaits = e.awaits;
    first = e.first;
    session_is = e.session;
    shape_is = e.shape;
    refuses = e.refuses;
  },
)

pub returns-clause-executed : goal.returns-clause-executed
returns-clause-executed g c = let e = c.in_ok-plan.ensures in
    c.carry_out-executed.ensures.executed c.args.session c.args.op (record {
      awaits = e.awaits;
      first = e.first;
      session_is = e.session;
      shape_is = e.shape;
      refuses = e.refuses;
    })
