use Rattle.std.proofs.Common.{◌∙◌, ◌+◌, ap, rules}
use Rattle.std.proofs.lemmas.Result.{err_from_is_err_and}
use Rattle.hotzone.proofs.EndLemmas.{Ends, ends-as_long, ends-here, is-ending, is-finishing}
use Rattle.hotzone.proofs.GoneLemmas.{is-under_way, may-here}
use Rattle.hotzone.proofs.UnmadeLemmas.{unmade-refused}
use Rattle.hotzone.specs.Endings.{IsFinishing, wiped}
use Rattle.luks_meta.specs.declared.meta.Parts.{Parts}
use Rattle.luks_rules.specs.declared.valid.Checked.{Checked}
use Rattle.reenc_meta.specs.Finishes.{MayFinish}
use Rattle.hotzone.proofs.ending.make_ending.Goals as goal
use Rattle.hotzone.proofs.ending.make_ending.Goals.{In_ok-meta}

ends : (c : In_ok-meta)
    → Ends c.args.before.now.valid c.in-Some.reenc.progress c.in_ok-meta.meta
ends c =
    ends-here c.args.before.now.valid c.in-Some.reenc.valid.now c.in-Some.reenc.progress
    c.in_ok-meta.meta (c.in-Some.ensures.is ∙ c.valid.ensures) c.in-Some.reenc.known
    c.in_ok-meta.ensures.is

pub finish-requires : goal.finish-requires
finish-requires c =
    may-here (λ atom p. MayFinish p) c.args.before.now.valid
    c.in-Some.reenc.valid.now c.in-Some.reenc.progress (c.in-Some.ensures.is ∙ c.valid.ensures)
    c.in-Some.reenc.known c.requires.may

pub new-requires-clause-rules : goal.new-requires-clause-rules
new-requires-clause-rules c =
    (ends (goal.at.new-requires-clause-rules c).In_ok-meta).finished.valid

pub new-requires-clause-size : goal.new-requires-clause-size
new-requires-clause-size c =
    ap (λ n. n + 4096) (ends-as_long _ _ _ (ends (goal.at.new-requires-clause-size c).In_ok-meta))
    ∙ c.is_stored.ensures.size

pub returns-in_err-commit-clause-unmade : goal.returns-in_err-commit-clause-unmade
returns-in_err-commit-clause-unmade c =
    let step = c.from_residual-in_err-commit in
    let p = err_from_is_err_and step.result step.ensures.1 in
    rw (p.1, p.2)
    (unmade-refused c.args.before.now c.in_ok-meta.meta (IsFinishing c.args.before.now)
    c.numbers_left-left.result c.in_err-commit.field-0.0 c.numbers_left-left.ensures
    (is-finishing c.args.before.now c.in-Some.reenc.progress c.in_ok-meta.meta
    (ends (goal.at.returns-in_err-commit-clause-unmade c).In_ok-meta))
    c.in_err-commit.ensures.refused)

pub returns-clause-is : goal.returns-clause-is
returns-clause-is c =
    let old = c.as_slice.ensures
    ∙ ap (λ (x : Parts). x.keyslots)
    (c.parts.ensures.same ∙ c.meta.ensures ∙ ap (λ (v : Checked). v.meta) c.valid-2.ensures) in
    let new = c.as_slice-2.ensures ∙ ap (λ (x : Parts). x.keyslots) c.parts-2.ensures.same in
    is-ending c.args.before.now c.in-Some.reenc.progress c.in_ok-meta.meta c.in_ok-commit.commit
    c.in_ok-wipes.wipes (ends (goal.at.returns-clause-is c).In_ok-meta) c.in_ok-commit.ensures.next
    c.in_ok-commit.ensures.begun
    (c.in_ok-wipes.ensures.areas ∙ (λ i. wiped c.in-Some.reenc.progress.conversion.area (old i)
    (new i))) c.in_ok-wipes.ensures.zeros

pub unreachable-requires : goal.unreachable-requires
unreachable-requires c =
    is-under_way (λ now. MayFinish now) c.args.before.now.valid c.valid.result.now c.valid.ensures
    c.requires.may (c.of.ensures.none.0 (search rules))
