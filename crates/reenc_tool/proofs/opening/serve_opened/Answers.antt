use Rattle.std.proofs.Common.{ap, ◌∙◌, inl, inr, refl, []}
use Rattle.reenc_tool.specs.declared.ended.Failing.TheVariants.{Listening}
use Rattle.reenc_tool.specs.Outcomes.{cause_of_fault, none_came}
use Rattle.reenc_tool.proofs.RunLemmas.{handed, links_few}
use Rattle.reenc_tool.proofs.opening.serve_opened.Goals as goal

pub serve_joined-requires-clause-bound : goal.serve_joined-requires-clause-bound
serve_joined-requires-clause-bound g c κs within =
    links_few g.B.Link.Link.state c.args.words.now.workers c.args.words.now.sessions
    c.in-Ok.links.items c.in-Ok.ensures.bound c.requires.words.some_worker c.in-Ok.ensures.count
    c.requires.words.sessions

pub returns-in-Ok-clause-linked : goal.returns-in-Ok-clause-linked
returns-in-Ok-clause-linked g c = inl (record {
  given = c.in-Ok.links.items;
  between = c.links.new.self;
  asked = c.in-Ok.ensures.asked;
  stood = c.in-Ok.ensures.cause;
  leaves = c.in-Ok.ensures.leaves;
  is = record {
    count = c.in-Ok.ensures.count;
    fresh = c.in-Ok.ensures.fresh;
    few = c.in-Ok.ensures.bound;
  };
  came = (refl, c.serve_joined.ensures.ended);
})

pub returns-in-Err-clause-linked : goal.returns-in-Err-clause-linked
returns-in-Err-clause-linked g c = inr (record {
  fault = c.in-Err.fault;
  asked = c.in-Err.ensures.asked;
  leaves = c.in-Err.ensures.leaves;
  count = c.in-Err.ensures.cause;
  ended = handed g.B.Disk.Disk.device _ _ _ _ _ c.into_disk.ensures.disk
      (c.none.ensures ∙ ap (none_came _) c.new.ensures.items
      ∙ ap (λ cause. none_came cause [])
      (c.cause_by-cause.ensures
      ∙ ap (cause_of_fault Listening c.in-Err.fault) c.faults.ensures))
      c.hand_back.ensures.back;
})
