use Rattle.std.proofs.Common.{sym, subst, arith}
use Rattle.std.proofs.lemmas.Result.{err_from_is_err_and}
use Rattle.base_terms.specs.declared.disk_sizes.Sizes.{Sizes}
use Rattle.hotzone.proofs.MadeLemmas.{are-made, may-turn, sizes-on, unmade-first}
use Rattle.hotzone.proofs.MadeLemmas.{unmade-later}
use Rattle.reenc_meta.specs.Placements.{all_atoms}
use Rattle.sector_disk.specs.Geometry.{IsDisk}
use Rattle.hotzone.proofs.headers.make_headers.Goals as goal

pub turn_header-requires-clause-disk : goal.turn_header-requires-clause-disk
turn_header-requires-clause-disk c =
    subst (λ (s : Sizes). IsDisk s.atom (all_atoms s))
    (sym (sizes-on c.args.before.now c.in_ok-commit.field-0 c.in_ok-commit.ensures.follows))
    c.requires.disk

pub turn_header-requires-clause-may : goal.turn_header-requires-clause-may
turn_header-requires-clause-may c =
    may-turn c.args.before.now c.args.blocks c.in_ok-commit.field-0 c.requires.may
    c.in_ok-commit.ensures.opens c.in_ok-commit.ensures.follows

pub returns-in_err-commit-clause-unmade : goal.returns-in_err-commit-clause-unmade
returns-in_err-commit-clause-unmade c =
    let step = c.from_residual in
    let p = err_from_is_err_and step.result step.ensures.1 in
    rw (p.1, p.2)
    (unmade-first c.args.before.now c.args.blocks c.numbers_left-left.result c.numbers_left-left.ensures
    (omega (arith, c.if-left-lt-COMMITS.false)) c.in_err-commit.field-0.0 c.in_err-commit.ensures.unmade)

pub returns-in_err-moved-clause-unmade : goal.returns-in_err-moved-clause-unmade
returns-in_err-moved-clause-unmade c =
    let step = c.from_residual-in_err-moved in
    let p = err_from_is_err_and step.result step.ensures.1 in
    rw (p.1, p.2)
    (unmade-later c.args.before.now c.args.blocks c.numbers_left-left.result c.numbers_left-left.ensures
    (omega (arith, c.if-left-lt-COMMITS.false)) c.in_ok-commit.field-0
    c.requires.may c.in_ok-commit.ensures.opens c.in_ok-commit.ensures.follows
    c.in_err-moved.field-0.0 c.in_err-moved.ensures.unmade)

pub returns-clause-made : goal.returns-clause-made
returns-clause-made c =
    are-made c.args.before.now c.args.blocks c.in_ok-commit.field-0 c.in_ok-moved.moved
    c.requires.may c.in_ok-commit.ensures.opens c.in_ok-commit.ensures.follows
    c.in_ok-moved.ensures.turns c.in_ok-moved.ensures.follows
