use Rattle.std.proofs.Common.{[], arith, sym, subst, ◌∙◌, ◌∷◌}
use Rattle.reenc_worker.proofs.LoopLemmas.{all_made, last_made, none_made, on_by, one_more}
use Rattle.volume_core.specs.Zones.{worked_of}
use Rattle.volume_core.proofs.WorkerLoop.Calling.{answered_more, answered_none, answered_one, by_law, by_steps}
use Rattle.volume_core.specs.WorkerLoop.Answering.{HasAnswered}
use Rattle.volume_core.proofs.volume_worker.finishing.finish_conversion.Goals as goal

pub loop-init : goal.loop-init
loop-init g c =
    let seal = g.C.SectorCipher.sealed in let unseal = g.C.SectorCipher.opened in (
      c.requires.armed,
      none_made (HasAnswered seal unseal) c.args.volume.now
          (answered_none seal unseal c.args.volume.now),
    )

pub loop-preserved : goal.loop-preserved
loop-preserved g c =
    let seal = g.C.SectorCipher.sealed in let unseal = g.C.SectorCipher.opened in
    let did = answered_one seal unseal c.loop.volume c.work.new.self (worked_of c.work.result)
    c.work.ensures.step c.work.ensures.read c.work.ensures.keys in (
      c.work.ensures.armed,
      one_more (HasAnswered seal unseal) (answered_more seal unseal) c.loop.invariant.1
          c.told.result (on_by c.told.result c.in-Stepped.is)
          (subst (λ answer. HasAnswered seal unseal c.loop.volume c.work.new.self (answer ∷ []))
          (sym c.told.ensures) did),
    )

pub returns-in-Ended-clause-converted : goal.returns-in-Ended-clause-converted
returns-in-Ended-clause-converted g c =
    let seal = g.C.SectorCipher.sealed in let unseal = g.C.SectorCipher.opened in
    let did = answered_one seal unseal c.loop.volume c.work.new.self (worked_of c.work.result)
    c.work.ensures.step c.work.ensures.read c.work.ensures.keys in
    by_law seal unseal c.args.volume.now c.work.new.self c.in-Ended.end
    c.conversions_end.ensures.ends
    (last_made (HasAnswered seal unseal) (answered_more seal unseal) c.loop.invariant.1 c.in-Ended.end (omega (arith, c.loop-test.true))
    (subst (λ answer. HasAnswered seal unseal c.loop.volume c.work.new.self (answer ∷ []))
    (sym c.told.ensures ∙ c.in-Ended.is) did))

pub returns-in-Ended-clause-order : goal.returns-in-Ended-clause-order
returns-in-Ended-clause-order g c =
    let seal = g.C.SectorCipher.sealed in let unseal = g.C.SectorCipher.opened in
    let did = answered_one seal unseal c.loop.volume c.work.new.self (worked_of c.work.result)
    c.work.ensures.step c.work.ensures.read c.work.ensures.keys in
    let (answers, all, are) = last_made (HasAnswered seal unseal) (answered_more seal unseal)
    c.loop.invariant.1 c.in-Ended.end (omega (arith, c.loop-test.true))
    (subst (λ answer. HasAnswered seal unseal c.loop.volume c.work.new.self (answer ∷ []))
    (sym c.told.ensures ∙ c.in-Ended.is) did) in
    λ sizes read order. (all sizes read order).1.order

pub returns-in-Ended-clause-read : goal.returns-in-Ended-clause-read
returns-in-Ended-clause-read g c =
    let seal = g.C.SectorCipher.sealed in let unseal = g.C.SectorCipher.opened in
    let did = answered_one seal unseal c.loop.volume c.work.new.self (worked_of c.work.result)
    c.work.ensures.step c.work.ensures.read c.work.ensures.keys in
    let (answers, all, are) = last_made (HasAnswered seal unseal) (answered_more seal unseal)
    c.loop.invariant.1 c.in-Ended.end (omega (arith, c.loop-test.true))
    (subst (λ answer. HasAnswered seal unseal c.loop.volume c.work.new.self (answer ∷ []))
    (sym c.told.ensures ∙ c.in-Ended.is) did) in
    λ sizes read order. (all sizes read order).1.read

pub returns-in-Ended-clause-complete : goal.returns-in-Ended-clause-complete
returns-in-Ended-clause-complete g c = λ sizes layout header read may whole same below.
    c.conversions_end.ensures.complete _ _ layout header c.args.volume.now c.work.new.self
    c.in-Ended.end (returns-in-Ended-clause-converted g c sizes layout header read may) whole same
    below

pub returns-clause-converted : goal.returns-clause-converted
returns-clause-converted g c =
    let seal = g.C.SectorCipher.sealed in let unseal = g.C.SectorCipher.opened in
    by_law seal unseal c.args.volume.now c.loop.volume _ c.conversions_end.ensures.ends
    (all_made (HasAnswered seal unseal) c.loop.invariant.1
    (omega (arith, c.loop-test.false, c.loop.auto.counter-end)))

pub returns-in-Ended-clause-worked : goal.returns-in-Ended-clause-worked
returns-in-Ended-clause-worked g c =
    let seal = g.C.SectorCipher.sealed in let unseal = g.C.SectorCipher.opened in
    let did = answered_one seal unseal c.loop.volume c.work.new.self (worked_of c.work.result)
    c.work.ensures.step c.work.ensures.read c.work.ensures.keys in
    by_steps seal unseal c.args.volume.now c.work.new.self c.in-Ended.end
    (last_made (HasAnswered seal unseal) (answered_more seal unseal) c.loop.invariant.1
    c.in-Ended.end (omega (arith, c.loop-test.true))
    (subst (λ answer. HasAnswered seal unseal c.loop.volume c.work.new.self (answer ∷ []))
    (sym c.told.ensures ∙ c.in-Ended.is) did))

pub returns-clause-worked : goal.returns-clause-worked
returns-clause-worked g c =
    let seal = g.C.SectorCipher.sealed in let unseal = g.C.SectorCipher.opened in
    by_steps seal unseal c.args.volume.now c.loop.volume _
    (all_made (HasAnswered seal unseal) c.loop.invariant.1
    (omega (arith, c.loop-test.false, c.loop.auto.counter-end)))
