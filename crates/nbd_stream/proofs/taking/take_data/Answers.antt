use Rattle.std.proofs.Common.{arith, [], refl, ◌∙◌}
use Rattle.nbd_stream.proofs.HeadLemmas.{takes_none}
use Rattle.nbd_stream.proofs.taking.take_data.Goals as goal

pub returns-then-length-eq0 : goal.returns-then-length-eq0
returns-then-length-eq0 g c = (
  [],
  record {
    takes = takes_none _;
    by_case =
        (c.new-then-length-eq0.ensures ∙ c.new.ensures.items, omega arith, refl);
  },
)

pub returns-then-is_err : goal.returns-then-is_err
returns-then-is_err g c = ([], record { takes = takes_none _; by_case = (omega arith, refl, refl) })
