use Rattle.std.proofs.Common.{◌≡◌, [], ◌∙◌, ap, sym, ◌++◌, take, drop, append-nil, arith}
use Rattle.std.proofs.lemmas.List.{take_all, drop_all}
use Rattle.luks_bin.specs.Copies.{up_to_nul}
use Rattle.luks_bin.proofs.AreaLemmas.{up_to_nul-here, up_to_nul-later}
use Rattle.luks_bin.proofs.areas.before_nul.Goals as goal

pub returns-then-area-end-eq0 : goal.returns-then-area-end-eq0
returns-then-area-end-eq0 c =
    let here : up_to_nul (drop c.loop-end.end c.args.area.now) ≡ [] =
    up_to_nul-here c.args.area.now c.loop-end.end (omega arith) c.if-area-end-eq0.true in
    sym (c.loop-end.invariant ∙ ap (λ r. take c.loop-end.end c.args.area.now ++ r) here
    ∙ append-nil (take c.loop-end.end c.args.area.now))

pub loop-end-preserved : goal.loop-end-preserved
loop-end-preserved c =
    c.loop-end.invariant ∙ up_to_nul-later _ _ (omega arith) c.if-area-end-eq0.false

pub returns : goal.returns
unfolding up_to_nul
returns c =
    let all : take c.loop-end.end c.args.area.now ≡ c.args.area.now =
    take_all c.loop-end.end c.args.area.now (omega arith) in
    let none : drop c.loop-end.end c.args.area.now ≡ [] =
    drop_all c.loop-end.end c.args.area.now (omega arith) in
    sym (c.loop-end.invariant ∙ (λ i. all i ++ up_to_nul (none i)) ∙ append-nil c.args.area.now)
