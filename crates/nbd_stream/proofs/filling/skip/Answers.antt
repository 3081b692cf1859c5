use Rattle.std.proofs.Common.{arith, ◌∙◌, drop, length-take-le, length-append, length-drop}
use Rattle.nbd_stream.proofs.TakeLemmas.{fills-whole, fills-to_end, fills-to_fault}
use Rattle.nbd_stream.proofs.filling.skip.Goals as goal

pub loop-count-preserved : goal.loop-count-preserved
loop-count-preserved g c = record {
  inside = omega arith;
  buffer = omega (
    arith,
    length-append c.fill.new.buf (drop c.min-part.result c.loop-count.buf),
    length-drop c.min-part.result c.loop-count.buf,
    c.fill.auto.buf ∙ length-take-le c.min-part.result c.loop-count.buf
        (omega (arith, c.min-part.ensures, c.loop-count.invariant.buffer)),
    c.min-part.ensures,
    c.loop-count.invariant.buffer,
  );
  took = fills-whole _ _ _ _ _ c.loop-count.count _ c.min-part.result c.loop-count.invariant.took.1
      c.loop-count.invariant.took.2
      (c.fill.auto.buf ∙ length-take-le c.min-part.result c.loop-count.buf
      (omega (arith, c.min-part.ensures, c.loop-count.invariant.buffer))) c.in-Whole.ensures;
  held = omega (arith, c.in-Whole.ensures.fewer);
}

pub returns-in-Ended : goal.returns-in-Ended
returns-in-Ended g c =
    fills-to_end _ (g.S.Source.intake c.loop-count.source) _ _ _ c.loop-count.count _
    c.min-part.result c.args.length c.in-Ended.n c.loop-count.invariant.took.1
    c.loop-count.invariant.took.2
    c.loop-count.invariant.held
    (c.fill.auto.buf ∙ length-take-le c.min-part.result c.loop-count.buf
    (omega (arith, c.min-part.ensures, c.loop-count.invariant.buffer))) (omega arith)
    c.in-Ended.ensures

pub returns-in-Fault : goal.returns-in-Fault
returns-in-Fault g c =
    fills-to_fault _ (g.S.Source.intake c.loop-count.source) _ _ _ c.loop-count.count _
    c.min-part.result c.args.length c.in-Fault.n c.loop-count.invariant.took.1
    c.loop-count.invariant.took.2
    c.loop-count.invariant.held
    (c.fill.auto.buf ∙ length-take-le c.min-part.result c.loop-count.buf
    (omega (arith, c.min-part.ensures, c.loop-count.invariant.buffer))) (omega arith)
    c.in-Fault.ensures
