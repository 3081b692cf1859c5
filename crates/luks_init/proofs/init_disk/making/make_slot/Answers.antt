use Rattle.std.proofs.Common.{◌∙◌, subst}
use Rattle.luks_init.proofs.DiskInit.BegunLemmas.{rules, same_json}
use Rattle.luks_init.proofs.DiskInit.MakeLemmas.{drawn_is, made_if, unmade_if, unready}
use Rattle.luks_init.proofs.SizeLemmas.{key-bounds}
use Rattle.luks_init.specs.Begins.{IsBegun}
use Rattle.luks_init.specs.Faults.{IsUnbegun}
use Rattle.luks_slots.specs.KeyMaking.Drawings.{draw}
use Rattle.luks_rules.specs.declared.valid.Checked.{Checked}
use Rattle.luks_slots.specs.Functions.{named_cipher}
use Rattle.luks_init.proofs.init_disk.making.make_slot.Goals as goal

pub drawn_len-requires : goal.drawn_len-requires
drawn_len-requires c =
    (key-bounds (named_cipher c.args.wish.now.cipher) c.args.wish.now.key_size c.requires.wish.key).1

pub commit_slot-requires-clause-rules : goal.commit_slot-requires-clause-rules
commit_slot-requires-clause-rules c =
    let header = c.args.header.now in
    let d = draw c.split_drawn.result.0 in
    let is = subst (λ (v : Checked). IsBegun v.meta v.sizes c.args.wish.now c.args.pass.now d
    c.in-Ok-begin.begun) c.valid.ensures c.in-Ok-begin.ensures in
    rules header.valid.meta header.valid.sizes c.args.wish.now c.args.pass.now d c.in-Ok-begin.begun
    is

pub commit_slot-requires-clause-size : goal.commit_slot-requires-clause-size
commit_slot-requires-clause-size c =
    let header = c.args.header.now in
    let d = draw c.split_drawn.result.0 in
    let is = subst (λ (v : Checked). IsBegun v.meta v.sizes c.args.wish.now c.args.pass.now d
    c.in-Ok-begin.begun) c.valid.ensures c.in-Ok-begin.ensures in
    same_json header.valid.meta header.valid.sizes c.args.wish.now c.args.pass.now d
    c.in-Ok-begin.begun is

pub commit_slot-requires-clause-room : goal.commit_slot-requires-clause-room
commit_slot-requires-clause-room c =
    let d = draw c.split_drawn.result.0 in
    let is = subst (λ (v : Checked). IsBegun v.meta v.sizes c.args.wish.now c.args.pass.now d
    c.in-Ok-begin.begun) c.valid.ensures c.in-Ok-begin.ensures in
    is.text

pub returns-in-Ok-begin-clause-made : goal.returns-in-Ok-begin-clause-made
returns-in-Ok-begin-clause-made c =
    let w = c.args.wish.now in
    let d = draw c.split_drawn.result.0 in
    let is = subst (λ (v : Checked). IsBegun v.meta v.sizes w c.args.pass.now d c.in-Ok-begin.begun)
    c.valid.ensures c.in-Ok-begin.ensures in
    made_if c.args.header.now w c.args.pass.now c.args.seed.now d
    (drawn_is w c.args.seed.now c.as_slice.result.now c.drawn_len.result d
    c.split_drawn.ensures.is (c.as_slice.ensures.value ∙ c.in-Ok.ensures) c.drawn_len.ensures)
    c.in-Ok-begin.begun c.commit_slot.result c.split_drawn.ensures.lengths is
    c.commit_slot.ensures.made

pub returns-in-Ok-begin-clause-unmade : goal.returns-in-Ok-begin-clause-unmade
returns-in-Ok-begin-clause-unmade c =
    let w = c.args.wish.now in
    let d = draw c.split_drawn.result.0 in
    let is = subst (λ (v : Checked). IsBegun v.meta v.sizes w c.args.pass.now d c.in-Ok-begin.begun)
    c.valid.ensures c.in-Ok-begin.ensures in
    unmade_if c.args.header.now w c.args.pass.now c.args.seed.now d
    (drawn_is w c.args.seed.now c.as_slice.result.now c.drawn_len.result d
    c.split_drawn.ensures.is (c.as_slice.ensures.value ∙ c.in-Ok.ensures) c.drawn_len.ensures)
    c.in-Ok-begin.begun c.commit_slot.result is c.commit_slot.ensures.unmade

pub returns-clause-unmade : goal.returns-clause-unmade
returns-clause-unmade c =
    let w = c.args.wish.now in
    let d = draw c.split_drawn.result.0 in
    unready c.args.header.now w c.args.pass.now c.args.seed.now d
    (drawn_is w c.args.seed.now c.as_slice.result.now c.drawn_len.result d
    c.split_drawn.ensures.is (c.as_slice.ensures.value ∙ c.in-Ok.ensures) c.drawn_len.ensures)
    c.in-Err-begin.fault
    (subst (λ (v : Checked). IsUnbegun v.meta v.sizes w c.args.pass.now d c.in-Err-begin.fault)
    c.valid.ensures c.in-Err-begin.ensures)
