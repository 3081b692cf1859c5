use Rattle.std.proofs.Common.{rules, ◌≡◌, ◌∙◌, [], ap, subst, sym}
use Rattle.nbd_session.specs.declared.reader.Reader.{Reader}
use Rattle.nbd_session.specs.declared.writer.Writer.{Writer}
use Rattle.nbd_session.specs.Puts.{HasWritten}
use Rattle.nbd_session.specs.Takes.{HasRead}
use Rattle.nbd_session.proofs.LandingLemmas.{memory-landed, some-same}
use Rattle.nbd_session.proofs.lanes.serve_requests.Goals as goal
use Rattle.volume_cell.specs.Knowing.{retired}

-- the list of lanes couldn't be made
pub returns-in_default : goal.returns-in_default
returns-in_default g c =
    let none =
    (g.met.P.Port g.world.𝓛 g.world.𝓜 g.world.𝓡 ((λ s x. x), (λ x. x), (λ x. x), λ x. x)).did_none in
    rw c.landed.ensures.is (memory-landed g.S.Source.intake g.K.Sink.outlet g.P.Port.usable
    g.P.Port.is_spent g.P.Port.did none c.args.reader.opening.value c.args.reader.reading
    c.args.writer.opening.value c.args.writer.writing c.requires.reads c.requires.writes
    c.args.export.now c.args.ports c.requires.usable c.landed.ensures.taken_fits
    c.landed.ensures.put_fits)

-- the list of ports couldn't
pub returns-in_default-with_capacity : goal.returns-in_default-with_capacity
returns-in_default-with_capacity g c =
    let none =
    (g.met.P.Port g.world.𝓛 g.world.𝓜 g.world.𝓡 ((λ s x. x), (λ x. x), (λ x. x), λ x. x)).did_none in
    let landed = c.landed-in_default-with_capacity.ensures in
    rw landed.is (memory-landed g.S.Source.intake g.K.Sink.outlet g.P.Port.usable
    g.P.Port.is_spent g.P.Port.did none c.args.reader.opening.value c.args.reader.reading
    c.args.writer.opening.value c.args.writer.writing c.requires.reads c.requires.writes
    c.args.export.now c.args.ports c.requires.usable landed.taken_fits landed.put_fits)

-- the reader's cell couldn't
pub returns-in-Err : goal.returns-in-Err
returns-in-Err g c =
    let none =
    (g.met.P.Port g.world.𝓛 g.world.𝓜 g.world.𝓡 ((λ s x. x), (λ x. x), (λ x. x), λ x. x)).did_none in
    let landed = c.landed-in-Err.ensures in
    let same : c.in-Err.field-0.value ≡ c.args.reader = c.in-Err.ensures.back in
    rw landed.is (memory-landed g.S.Source.intake g.K.Sink.outlet g.P.Port.usable
    g.P.Port.is_spent g.P.Port.did none c.args.reader.opening.value c.in-Err.field-0.value.reading
    c.args.writer.opening.value c.args.writer.writing
    (subst (λ (r : Reader g.row.S.Denot).
    HasRead g.S.Source.intake c.args.reader.opening.value r.reading []) (sym same) c.requires.reads)
    c.requires.writes c.args.export.now c.args.ports c.requires.usable landed.taken_fits
    landed.put_fits)

pub returns-in-Ok-new-2 : goal.returns-in-Ok-new-2
returns-in-Ok-new-2 g c =
    c.serve_all.ensures c.args.reader.opening.value c.args.writer.opening.value (search rules)
    (search rules)

-- the writer's cell couldn't
pub returns-in-Err-new : goal.returns-in-Err-new
returns-in-Err-new g c =
    let none =
    (g.met.P.Port g.world.𝓛 g.world.𝓜 g.world.𝓡 ((λ s x. x), (λ x. x), (λ x. x), λ x. x)).did_none in
    let landed = c.landed-in-Err-new.ensures in
    let closed = c.close-reader.ensures in
    let told = closed.pass ∙ ap (λ k. retired k) c.in-Ok-new.ensures.pass.1 in
    let opened = some-same c.close-reader.result.0.opening.value c.args.reader.opening.value
    (sym closed.start ∙ ap (λ k. k.start) told) in
    let same : c.in-Err-new.field-0.value ≡ c.args.writer = c.in-Err-new.ensures.back in
    rw landed.is (memory-landed g.S.Source.intake g.K.Sink.outlet g.P.Port.usable
    g.P.Port.is_spent g.P.Port.did none c.args.reader.opening.value
    c.close-reader.result.0.reading c.args.writer.opening.value c.in-Err-new.field-0.value.writing
    (subst (λ b. HasRead g.S.Source.intake b c.close-reader.result.0.reading []) opened
    (subst (λ h.
    HasRead g.S.Source.intake c.close-reader.result.0.opening.value c.close-reader.result.0.reading h)
    (ap (λ k. k.history) told) closed.stands))
    (subst (λ (w : Writer g.row.K.Denot).
    HasWritten g.K.Sink.outlet c.args.writer.opening.value w.writing []) (sym same)
    c.requires.writes) c.args.export.now c.args.ports c.requires.usable landed.taken_fits
    landed.put_fits)
