use Rattle.std.proofs.Common.{◌≡◌, ◌∙◌, ◌||◌, ℕ, ◌<◌, ◌+◌, nat_lt, List, [], length, get_or, drop}
use Rattle.std.proofs.Common.{drop-cons, add-one, true, false, sym, ap, refl, arith}
use Rattle.std.proofs.lemmas.Bool.{lt-ltb, le-ltb, or_left}
use Rattle.std.proofs.lemmas.List.{drop_all}
use Rattle.luks_rules.specs.Areas.{end_of}
use Rattle.luks_rules.specs.Overlaps.{reaches}
use Rattle.luks_rules.specs.declared.areas.Area.{Area}
use Rattle.luks_rules.proofs.overlaps.any_reaches_the_next.Goals as goal

abbrev none : Area
none = record { offset = 0; size = 0 }

step : (areas : List Area) (i last : ℕ) → i < length areas
    → reaches last (drop i areas) ≡ nat_lt (get_or areas i none).offset last
    || reaches (end_of (get_or areas i none)) (drop (i + 1) areas)
unfolding reaches
step areas i last h = rw (drop-cons areas i none h, add-one) refl

stops : (last : ℕ) → reaches last [] ≡ false
unfolding reaches
stops last = refl

pub returns-then-area-last : goal.returns-then-area-last
returns-then-area-last c =
    let found : nat_lt (get_or c.args.areas.now c.loop-area.area-index none).offset c.loop-area.last
    ≡ true = lt-ltb _ _ c.if-area-last.true in
    sym (sym c.loop-area.invariant
    ∙ step c.args.areas.now c.loop-area.area-index c.loop-area.last c.loop-area-test.true
    ∙ or_left _ _ found)

pub loop-area-preserved : goal.loop-area-preserved
loop-area-preserved c =
    let passed : nat_lt (get_or c.args.areas.now c.loop-area.area-index none).offset
    c.loop-area.last ≡ false = le-ltb _ _ c.if-area-last.false in
    let next : reaches c.loop-area.last (drop c.loop-area.area-index c.args.areas.now)
    ≡ reaches c.end-last.result (drop (c.loop-area.area-index + 1) c.args.areas.now) =
    step c.args.areas.now c.loop-area.area-index c.loop-area.last c.loop-area-test.true
    ∙ ap (λ p. p
    || reaches (end_of (get_or c.args.areas.now c.loop-area.area-index none))
    (drop (c.loop-area.area-index + 1) c.args.areas.now)) passed
    ∙ ap (λ n. reaches n (drop (c.loop-area.area-index + 1) c.args.areas.now))
    (sym c.end-last.ensures) in
    sym next ∙ c.loop-area.invariant

pub returns : goal.returns
returns c =
    let all : drop c.loop-area.area-index c.args.areas.now ≡ [] =
    drop_all c.loop-area.area-index c.args.areas.now (omega arith) in
    sym (sym c.loop-area.invariant ∙ ap (reaches c.loop-area.last) all ∙ stops c.loop-area.last)
