use Rattle.std.proofs.Common.{◌≡◌, ◌∙◌, ℕ, ◌+◌, ◌++◌, List, [], ◌∷◌, drop, cond, Bool, true, false}
use Rattle.std.proofs.Common.{refl, sym, ap}
use Rattle.reenc_meta.specs.Layouts.{is_under, numbers_under}
use Rattle.reenc_meta.proofs.LoopLemmas.{kept-all, kept-more, kept-none}
use Rattle.reenc_meta.proofs.layout.list_numbers.Goals as goal
use Rattle.reenc_meta.proofs.layout.list_numbers.Goals.{then-is_under_digest+in_ok-push}
use Rattle.reenc_meta.proofs.layout.list_numbers.Goals.{else-is_under_digest}
use Rattle.segment_map.specs.declared.Side.{Side}

none_left : (new : Bool) (n : ℕ) → numbers_under new n [] ≡ []
unfolding numbers_under
none_left new n = refl

under : (new : Bool) (n : ℕ) (side : Side) (sides : List Side) → is_under new side ≡ true
    → numbers_under new n (side ∷ sides) ≡ n ∷ numbers_under new (n + 1) sides
unfolding numbers_under
under new n side sides is =
    ap (λ b. cond b (n ∷ numbers_under new (n + 1) sides) (numbers_under new (n + 1) sides)) is

not_under : (new : Bool) (n : ℕ) (side : Side) (sides : List Side) → is_under new side ≡ false
    → numbers_under new n (side ∷ sides) ≡ numbers_under new (n + 1) sides
unfolding numbers_under
not_under new n side sides is =
    ap (λ b. cond b (n ∷ numbers_under new (n + 1) sides) (numbers_under new (n + 1) sides)) is

pub loop-side-preserved : goal.loop-side-preserved
loop-side-preserved c =
    let n = c.loop-side.number in
    let sides = c.args.sides.now in
    let done = c.loop-side.numbers.items in
    let here = numbers_under c.args.new n in
    let later = numbers_under c.args.new (n + 1) in
    let all = numbers_under c.args.new 0 sides in
    let rest = drop (c.loop-side.side-index + 1) sides in
    record {
      counted = ap (λ k. k + 1) c.loop-side.invariant.counted;
      listed = elim c.if-is_under_digest.branch [
        | then-is_under_digest+in_ok-push w ↦
            kept-more here later done sides c.loop-side.side-index _ all
            c.if-is_under_digest.numbers.items n c.loop-side-test.true
            (under c.args.new n _ rest (sym c.is_under_digest.ensures ∙ w.if-is_under_digest.true))
            (ap (λ v. v.items) w.numbers-is ∙ w.in_ok-push.ensures.items)
            c.loop-side.invariant.listed
        | else-is_under_digest w ↦
            ap (λ v. v.items ++ later rest) w.numbers-is
            ∙ kept-none here later done sides c.loop-side.side-index _ all c.loop-side-test.true
            (not_under c.args.new n _ rest
            (sym c.is_under_digest.ensures ∙ w.if-is_under_digest.false))
            c.loop-side.invariant.listed
      ];
    }

pub returns : goal.returns
returns c =
    c.new.ensures
    ∙ kept-all (numbers_under c.args.new c.loop-side.number) c.loop-side.numbers.items
    c.args.sides.now c.loop-side.side-index (numbers_under c.args.new 0 c.args.sides.now)
    (none_left c.args.new c.loop-side.number) c.loop-side-test.false c.loop-side.invariant.listed
