use Rattle.std.proofs.Common.{ℕ, ◌+◌, List, drop, sym, ◌∙◌, ap, arith}
use Rattle.std.proofs.lemmas.List.{at_drop_all, at_drop_more}
use Rattle.luks_meta.specs.declared.keyslot.Keyslot.{Keyslot}
use Rattle.luks_slots.proofs.DiskLemmas.{unwritten-joined}
use Rattle.luks_slots.proofs.SlotLemmas.{first-here, first-later, first-none}
use Rattle.luks_slots.specs.Unlocks.{first_key, key_at}
use Rattle.luks_slots.proofs.passphrase.Attempt.try_all.Goals as goal

pub returns-in-Ok-Some-clause-unwritten : goal.returns-in-Ok-Some-clause-unwritten
returns-in-Ok-Some-clause-unwritten g c =
    unwritten-joined _ _ _ c.loop-i.invariant.unwritten c.try_slot.ensures.unwritten

pub returns-in-Err-clause-unwritten : goal.returns-in-Err-clause-unwritten
returns-in-Err-clause-unwritten g c =
    unwritten-joined _ _ _ c.loop-i.invariant.unwritten c.try_slot.ensures.unwritten

pub returns-in-Ok-Some-clause-found : goal.returns-in-Ok-Some-clause-found
returns-in-Ok-Some-clause-found g c = λ image told.
    let m = c.args.self.now.parts.now in
    let d = c.args.self.now.digest.now in
    let pass = c.args.self.now.pass.now in
    let slots = c.as_slice-slots.result.now in
    let at = ap (λ (s : ℕ × Keyslot). key_at m d image pass c.args.rank s) (sym c.index-slots-i.is)
    ∙ sym (c.in-Ok-Some.ensures.found image (c.loop-i.invariant.unwritten.values ∙ told))
    ∙ (let a = c.in-Ok-Some.is in let b = c.in-Ok-Some.field-0-is in cc) in
    sym (first-here m d image pass c.in-Ok-Some.key c.args.rank _ (drop (c.loop-i.i + 1) slots) at)
    ∙ sym (at_drop_more (λ (xs : List (ℕ × Keyslot)). first_key m d image pass c.args.rank xs) slots
    c.loop-i.i c.index-slots-i.result c.loop-i-test.true)
    ∙ c.loop-i.invariant.none image told
    ∙ ap (λ (xs : List (ℕ × Keyslot)). first_key m d image pass c.args.rank xs)
    c.as_slice-slots.ensures

pub loop-i-preserved : goal.loop-i-preserved
loop-i-preserved g c = record {
  unwritten = unwritten-joined _ _ _ c.loop-i.invariant.unwritten c.try_slot.ensures.unwritten;
  buffer = c.try_slot.ensures.buffer ∙ c.loop-i.invariant.buffer;
  none = λ image told. (let m = c.args.self.now.parts.now in
      let d = c.args.self.now.digest.now in
      let pass = c.args.self.now.pass.now in
      let slots = c.as_slice-slots.result.now in
      let at =
      ap (λ (s : ℕ × Keyslot). key_at m d image pass c.args.rank s) (sym c.index-slots-i.is)
      ∙ sym (c.in-Ok-None.ensures.found image (c.loop-i.invariant.unwritten.values ∙ told))
      ∙ (let a = c.in-Ok-None.is in let b = c.in-Ok-None.field-0-is in cc) in
      sym (first-later m d image pass c.args.rank _ (drop (c.loop-i.i + 1) slots) at)
      ∙ sym (at_drop_more (λ (xs : List (ℕ × Keyslot)). first_key m d image pass c.args.rank xs)
      slots c.loop-i.i c.index-slots-i.result c.loop-i-test.true)
      ∙ c.loop-i.invariant.none image told);
}

pub returns-clause-found : goal.returns-clause-found
returns-clause-found g c = λ image told.
    let m = c.args.self.now.parts.now in
    let d = c.args.self.now.digest.now in
    let pass = c.args.self.now.pass.now in
    sym (first-none m d image pass c.args.rank)
    ∙ sym (at_drop_all (λ (xs : List (ℕ × Keyslot)). first_key m d image pass c.args.rank xs)
    c.as_slice-slots.result.now c.loop-i.i
    (let over = c.loop-i-test.false in omega (arith, over)))
    ∙ c.loop-i.invariant.none image told
    ∙ ap (λ (xs : List (ℕ × Keyslot)). first_key m d image pass c.args.rank xs)
    c.as_slice-slots.ensures
