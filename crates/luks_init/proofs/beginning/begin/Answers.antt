use Rattle.std.proofs.Common.{◌≡◌, ◌∙◌, ◌-◌, ℕ, List, Option, Some, None, length, ap, arith, subst}
use Rattle.std.proofs.Common.{sym}
use Rattle.base_terms.specs.declared.disk_sizes.Sizes.{Sizes}
use Rattle.luks_init.proofs.BeginLemmas.{ready-begins, too-long, unready}
use Rattle.luks_init.specs.Begins.{unready_by}
use Rattle.luks_meta.specs.declared.meta.Parts.{Parts}
use Rattle.luks_slots.specs.KeyMaking.Drawings.{draw}
use Rattle.luks_rules.specs.Idles.{idle_of}
use Rattle.luks_rules.specs.declared.idle.Idle.{Idle}
use Rattle.luks_slots.specs.NewSlots.{IsSlotAt}
use Rattle.luks_init.proofs.beginning.begin.Goals as goal

pub returns-in-Some : goal.returns-in-Some
returns-in-Some c =
    unready c.args.valid.now.meta c.args.valid.now.sizes c.args.wish.now c.args.pass.now
    (draw c.args.drawn) c.in-Some.fault
    (subst (λ (o : Option Idle). unready_by o c.args.pass.now ≡ Some c.in-Some.fault)
    c.idle.ensures (sym c.in-Some.ensures))

pub make_meta-requires-clause-idle : goal.make_meta-requires-clause-idle
make_meta-requires-clause-idle c =
    ready-begins (idle_of c.args.valid.now.meta c.args.valid.now.sizes) c.args.pass.now
    (subst (λ (o : Option Idle). unready_by o c.args.pass.now ≡ None) c.idle.ensures
    (sym c.in_default.ensures))

pub returns-then-limit-len : goal.returns-then-limit-len
returns-then-limit-len c =
    too-long c.args.valid.now.meta c.args.valid.now.sizes c.args.wish.now c.args.pass.now
    (draw c.args.drawn) c.in-Ok.places c.in_ok-meta.meta c.len-len.result
    c.saturating_sub-limit.result
    (subst (λ (o : Option Idle). unready_by o c.args.pass.now ≡ None) c.idle.ensures
    (sym c.in_default.ensures))
    c.in-Ok.ensures c.in_ok-meta.ensures (c.len-len.ensures ∙ ap length c.in_ok-write.ensures.text)
    (c.saturating_sub-limit.ensures
    ∙ ap (λ (x : Parts). x.config.json_size - 1) (c.parts.ensures.same ∙ c.meta.ensures))
    c.if-limit-len.true

pub returns : goal.returns
returns c =
    let text = c.len-len.ensures ∙ ap length c.in_ok-write.ensures.text in
    let room = c.saturating_sub-limit.ensures
    ∙ ap (λ (x : Parts). x.config.json_size - 1) (c.parts.ensures.same ∙ c.meta.ensures) in
    let fits = c.if-limit-len.false in
    record {
      ready = subst (λ (o : Option Idle). unready_by o c.args.pass.now ≡ None) c.idle.ensures
          (sym c.in_default.ensures);
      places = c.in-Ok.ensures;
      slot = subst (λ (k : List ℕ). IsSlotAt c.in-Ok.places.key c.args.valid.now.sizes.atom
          c.args.pass.now c.args.wish.now.iterations k c.args.drawn.slot.now c.in_ok-slot.slot)
          c.new-key.ensures
          (subst (λ (s : Sizes). IsSlotAt c.in-Ok.places.key s.atom c.args.pass.now
          c.args.wish.now.iterations c.new-key.result c.args.drawn.slot.now c.in_ok-slot.slot)
          c.sizes-atom.ensures.sizes c.in_ok-slot.ensures);
      meta = c.in_ok-meta.ensures;
      text = omega (arith, text, room, fits);
    }
