use Rattle.std.proofs.Common.{◌≡◌, ◌∙◌, ℕ, Bool, ap, arith, false, map, subst, sym, true}
use Rattle.volume_machine.specs.Seals.{seals_of}
use Rattle.shared_volume.specs.Ciphers.{opened, sealed}
use Rattle.volume_cell.specs.Passes.{known}
use Rattle.block_server.specs.Serving.{HasServedBeside}
use Rattle.block_server.proofs.serving.serve.Goals as goal
use Rattle.block_server.proofs.serving.serve.Goals.{else-converts, then-converts}

pub serve_all-requires-clause-begun : goal.serve_all-requires-clause-begun
serve_all-requires-clause-begun g c κs within =
    let e = c.in-Ok-share.ensures in
    let lanes = c.requires.lanes in (
      c.args.volume,
      record {
        shared = c.requires.shared;
        first = e.first;
        on = λ number below. e.on number (omega (arith, below, lanes));
        lanes = lanes;
      },
    )

pub returns-in-Ok-share-clause-served : goal.returns-in-Ok-share-clause-served
returns-in-Ok-share-clause-served g c =
    let e = c.in-Ok-share.ensures in
    let lanes = c.requires.lanes in
    subst (λ (n : ℕ). HasServedBeside g.L.Link.state
    (seals_of sealed opened c.args.volume.map.atom
    c.args.volume.keys) c.args.volume c.serve_all.result.volume
    (known c.serve_all.result.pass) n c.args.links.items
    c.serve_all.result.links.items
    (map (λ list. list.items) c.serve_all.result.sessions.items)
    c.serve_all.result.standings.items c.serve_all.result.worker) e.limit
    (c.serve_all.ensures.served c.args.volume (record {
      shared = c.requires.shared;
      first = e.first;
      on = λ number below. e.on number (omega (arith, below, lanes));
      lanes = lanes;
    }))

true-false : (b : Bool) {A : Type 0} → b ≡ true → b ≡ false → A
true-false b is other = absurd (let same = sym is ∙ other in cc)

pub returns-in-Ok-share-clause-led : goal.returns-in-Ok-share-clause-led
returns-in-Ok-share-clause-led g c =
    let so = c.serve_all.ensures.led in
    let armed = ap (λ p. p.armed) c.progress-armed.ensures in
    elim c.if-converts.branch [
      | then-converts w ↦ (
        (λ led. (w.if-converts.true, sym armed ∙ (sym w.leads-is ∙ so.0 led))),
        (λ both. so.1 (w.leads-is ∙ (armed ∙ both.1))),
      )
      | else-converts w ↦ (
        (λ led. true-false c.if-converts.leads (so.0 led) (w.leads-is ∙ w.if-converts.false)),
        (λ both. true-false c.args.converts both.0 w.if-converts.false),
      )
    ]
