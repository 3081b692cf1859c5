use Rattle.std.proofs.Common.{◌≡◌, ℕ, ◌+◌, List, length, None, true, ◌∙◌, ap, arith, subst, sym}
use Rattle.luks_format.proofs.DiskFormat.FitLemmas.{all-fits, text-size}
use Rattle.luks_format.proofs.DiskFormat.MakeLemmas.{drawn-is, made}
use Rattle.luks_format.specs.DiskFormat.Fitting.{unfit_by}
use Rattle.luks_bin.specs.Fields.{is_size}
use Rattle.luks_format.proofs.RulesLemmas.{key-bounds}
use Rattle.luks_format.specs.Drawings.{draw}
use Rattle.luks_meta.specs.declared.meta.Parts.{Parts}
use Rattle.luks_rules.specs.Rules.{first_fault}
use Rattle.luks_slots.specs.Functions.{named_cipher}
use Rattle.luks_slots.specs.NewSlots.{IsSlotAt}
use Rattle.seed_stream.specs.Streams.{bytes_of_seed}
use Rattle.luks_format.proofs.format_disk.volume.make_volume.Goals as goal

pub first_commit-requires-clause-rules : goal.first_commit-requires-clause-rules
first_commit-requires-clause-rules c =
    let w = c.args.wish.now in
    let fit = all-fits w c.args.sizes c.args.pass.now c.len-text_len.result
    (sym c.in_default.ensures) in
    subst (λ (m : Parts). first_fault m c.args.sizes ≡ None) (sym c.in_ok-meta.ensures)
    (c.new_metadata_break_no_rule.ensures w (draw c.split_drawn-drawn.result) c.args.sizes
    c.requires.wish c.requires.disk fit.area fit.front fit.block)

pub first_commit-requires-clause-size : goal.first_commit-requires-clause-size
first_commit-requires-clause-size c =
    let w = c.args.wish.now in
    subst (λ n. is_size n ≡ true)
    (sym (text-size w (draw c.split_drawn-drawn.result) c.requires.wish)
    ∙ ap (λ (m : Parts). m.config.json_size + 4096) (sym c.in_ok-meta.ensures))
    c.requires.wish.size

pub first_commit-requires-clause-room : goal.first_commit-requires-clause-room
first_commit-requires-clause-room c =
    let w = c.args.wish.now in
    let fit = all-fits w c.args.sizes c.args.pass.now c.len-text_len.result
    (sym c.in_default.ensures) in
    let room = fit.text in
    let text = ap length c.in_ok-write.ensures.text in
    let len = c.len-text_len.ensures in
    let size = text-size w (draw c.split_drawn-drawn.result) c.requires.wish in
    let same = ap (λ (m : Parts). m.config.json_size + 4096) c.in_ok-meta.ensures in
    omega (arith, room, text, len, size, same)

pub new-key-requires-clause-some : goal.new-key-requires-clause-some
new-key-requires-clause-some c =
    let w = c.args.wish.now in
    let long = c.split_drawn-drawn.ensures.lengths.key in
    let some = (key-bounds (named_cipher w.cipher) w.key_size c.requires.wish.key).0 in
    omega (arith, long, some)

pub new-key-requires-clause-most : goal.new-key-requires-clause-most
new-key-requires-clause-most c =
    let w = c.args.wish.now in
    let long = c.split_drawn-drawn.ensures.lengths.key in
    let most = (key-bounds (named_cipher w.cipher) w.key_size c.requires.wish.key).1 in
    omega (arith, long, most)

pub returns : goal.returns
returns c =
    let w = c.args.wish.now in
    let dealt = c.split_drawn-drawn in
    let fit = all-fits w c.args.sizes c.args.pass.now c.len-text_len.result
    (sym c.in_default.ensures) in
    let drawn = drawn-is w c.args.seed.now c.as_slice.result.now (draw dealt.result)
    dealt.ensures.is
    (c.as_slice.ensures.value ∙ c.in_ok-bytes.ensures
    ∙ ap (bytes_of_seed c.args.seed.now) c.drawn_len.ensures) in
    made w c.args.sizes c.args.pass.now c.args.seed.now _ (draw dealt.result) c.in_ok-meta.meta
    (record {
      drawn = drawn;
      lengths = dealt.ensures.lengths;
      metadata = c.in_ok-meta.ensures;
      fits = subst (λ n. unfit_by w c.args.sizes c.args.pass.now n ≡ None)
          (c.len-text_len.ensures ∙ ap length c.in_ok-write.ensures.text)
          (sym c.in_default.ensures);
      rules = c.new_metadata_break_no_rule.ensures w (draw dealt.result) c.args.sizes
          c.requires.wish c.requires.disk fit.area fit.front fit.block;
      identifier = c.identifier_for-identifier.ensures;
      first = c.in_ok-commit.ensures;
      place = c.area_offset-area_offset.ensures;
      keyslot = c.in_ok-area.field-0.keyslot;
      slot = subst (λ (k : List ℕ). IsSlotAt c.area_offset-area_offset.result c.args.sizes.atom
          c.args.pass.now w.iterations k dealt.result.slot.now c.in_ok-area.field-0)
          c.new-key.ensures c.in_ok-area.ensures;
    })
