use Rattle.std.proofs.Common.{arith, refl}
use Rattle.nbd_stream.proofs.TakeLemmas.{took-piece, fills-ended, count-inside}
use Rattle.nbd_stream.proofs.filling.fill.Goals as goal

pub loop-count-preserved : goal.loop-count-preserved
loop-count-preserved g c = record {
  inside = count-inside c.loop-count.buf c.take.new.buf c.loop-count.count c.in-Ok.n
      c.loop-count.invariant.inside c.take.auto.buf c.in-Ok.ensures.within;
  took = took-piece _ _ _ c.loop-count.buf _ c.take.new.buf c.loop-count.count c.in-Ok.n _
      c.loop-count.invariant.inside
      (rw c.take.auto.buf c.in-Ok.ensures.within) c.loop-count.invariant.took c.in-Ok.ensures.told
      c.in-Ok.ensures.given;
  held = omega (arith, c.in-Ok.ensures.cause.held refl);
}

pub returns-in-Ok-eq0 : goal.returns-in-Ok-eq0
returns-in-Ok-eq0 g c =
    fills-ended _ (g.S.Source.intake c.loop-count.source) _ c.loop-count.buf c.take.new.buf
    c.loop-count.count c.in-Ok-eq0.field-0 c.loop-count-test.true
    c.loop-count.invariant.took c.loop-count.invariant.held (c.in-Ok-eq0.ensures.cause.held refl)
    c.in-Ok-eq0.field-0-test c.take.auto.buf
    c.in-Ok-eq0.ensures.told c.in-Ok-eq0.ensures.given
