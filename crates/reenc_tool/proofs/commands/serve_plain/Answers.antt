use Rattle.std.proofs.Common.{arith, inl, inr, refl, ⊎_elim, Some}
use Rattle.reenc_tool.specs.declared.ended.Failing.TheVariants.{Listening}
use Rattle.reenc_tool.proofs.RunLemmas.{ended_so, links_few}
use Rattle.reenc_tool.proofs.commands.serve_plain.Goals as goal

pub serve_disk-requires-clause-bound : goal.serve_disk-requires-clause-bound
serve_disk-requires-clause-bound g c κs within =
    links_few g.B.Link.Link.state c.args.words.now.workers c.args.words.now.sessions
    c.in-Ok.links.items c.in-Ok.ensures.bound c.requires.some_worker c.in-Ok.ensures.count
    c.requires.sessions

pub returns-in-Ok-clause-ended : goal.returns-in-Ok-clause-ended
returns-in-Ok-clause-ended g c = inr (record {
  blocks = omega (arith, c.atoms.ensures.is);
  linked = inl (record {
    given = c.in-Ok.links.items;
    between = c.links.new.self;
    asked = c.in-Ok.ensures.asked;
    is = record {
      count = c.in-Ok.ensures.count;
      fresh = c.in-Ok.ensures.fresh;
      few = c.in-Ok.ensures.bound;
    };
    stood = c.in-Ok.ensures.cause;
    leaves = c.in-Ok.ensures.leaves;
    came = (
      refl,
      ⊎_elim (λ ran. inl (inl ran))
          (λ none. ⊎_elim (λ same. inl (inr same)) (λ exact. inr exact) none)
          c.serve_disk.ensures.ended,
    );
  });
})

pub returns-in-Err-clause-ended : goal.returns-in-Err-clause-ended
returns-in-Err-clause-ended g c = inr (record {
  blocks = omega (arith, c.atoms.ensures.is);
  linked = inr (record {
    fault = c.in-Err.fault;
    asked = c.in-Err.ensures.asked;
    leaves = c.in-Err.ensures.leaves;
    count = c.in-Err.ensures.cause;
    ended = ended_so Listening c.in-Err.fault _ (Some c.args.disk) _ _ _ _
        c.unserved-in-Err.ensures.outcome c.new-in-Err.ensures.items c.cause_by-cause.ensures
        c.faults.ensures;
  });
})
