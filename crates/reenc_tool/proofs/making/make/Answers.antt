use Rattle.std.proofs.Common.{inr, refl, None}
use Rattle.reenc_tool.specs.declared.ended.Failing.TheVariants.{Opening}
use Rattle.reenc_tool.proofs.RunLemmas.{ended_so}
use Rattle.reenc_tool.proofs.making.make.Goals as goal

pub returns-in-Err-disk-clause-made : goal.returns-in-Err-disk-clause-made
returns-in-Err-disk-clause-made g c = inr (
  c.fill.new.buf,
  record { whole = c.fill.auto.buf; draws = c.in-Ok.ensures.told; count = c.in-Ok.ensures.cause },
  inr (record {
    fault = c.in-Err-disk.fault;
    asked = c.in-Err-disk.ensures.asked;
    leaves = c.in-Err-disk.ensures.leaves;
    count = c.in-Err-disk.ensures.cause;
    ended = (
      refl,
      ended_so Opening c.in-Err-disk.fault _ None _ _ _ _ c.unserved-in-Err-disk.ensures.outcome
          c.new-in-Err-disk.ensures.items c.cause_by-cause.ensures c.faults-in-Err-disk.ensures,
    );
  }),
)
