use Rattle.std.proofs.Common.{◌≢◌, refl, ap, inl, inr, Ok, rules}
use Rattle.std.specs.IoError.{error_kind}
use Rattle.std.specs.declared.io.ErrorKind.TheVariants.{Interrupted}
use Rattle.io_edge.proofs.WriteLemmas.{some_interrupted, some_refused, some_written, nothing_taken}
use Rattle.io_edge.proofs.gathering.GatheringWriter.write_some.Goals as goal

pub returns-then-eq-clause-some : goal.returns-then-eq-clause-some
returns-then-eq-clause-some g c =
    some_interrupted g.W.WritePair.writes _ _ _ _ _ c.in-Err.error c.as_slice.ensures.value
    c.in-Err.ensures.writes

pub returns-in-Ok-eq0-clause-some : goal.returns-in-Ok-eq0-clause-some
returns-in-Ok-eq0-clause-some g c =
    let refused = inl (ap Ok c.in-Ok-eq0.field-0-test) in
    some_refused g.W.WritePair.writes _ _ _ _ _ (Ok c.in-Ok-eq0.field-0) _ c.as_slice.ensures.value
    c.in-Ok-eq0.ensures.writes refused
    (nothing_taken _ (Ok c.in-Ok-eq0.field-0) refused)

pub returns-in-Ok-clause-some : goal.returns-in-Ok-clause-some
returns-in-Ok-clause-some g c =
    rw c.leave.ensures.writer
    (some_written g.W.WritePair.writes _ _ _ _ _ _ c.in-Ok.n c.leave.result c.as_slice.ensures.value
    c.in-Ok.ensures.writes c.leave.ensures.more c.leave.ensures.held)

pub returns-else-eq-clause-some : goal.returns-else-eq-clause-some
returns-else-eq-clause-some g c =
    let other : error_kind c.in-Err.error ≢ Interrupted = search rules in
    some_refused g.W.WritePair.writes _ _ _ _ _ _ _ c.as_slice.ensures.value c.in-Err.ensures.writes
    (inr other) refl
