use Rattle.std.proofs.Common.{◌≡◌, ◌∙◌, refl}
use Rattle.std.proofs.lemmas.Result.{IfErr-weaker, IfOk-weaker}
use Rattle.hotzone.proofs.GoneLemmas.{Goes, goes-as_long, goes-by, goes-here, is-under_way, may-here}
use Rattle.hotzone.proofs.MadeLemmas.{unmade-by}
use Rattle.hotzone.specs.Headings.{IsUnmade, IsTurning, Turns}
use Rattle.hotzone.specs.declared.worker.NextHeader.{NextHeader}
use Rattle.luks_meta.specs.declared.meta.Parts.{Parts}
use Rattle.luks_rules.specs.declared.shape.Progress.{Progress}
use Rattle.reenc_meta.specs.Moves.{MayMove, moved}
use Rattle.hotzone.proofs.headers.turn_header.Goals as goal
use Rattle.hotzone.proofs.headers.turn_header.Goals.{In_ok-meta-in-Some}

goes : (c : In_ok-meta-in-Some)
    → Goes c.args.middle.now.valid c.in-Some.reenc.progress
    (moved c.in-Some.reenc.progress.conversion.direction c.args.blocks c.in-Some.reenc.progress.plan)
    c.in_ok-meta-in-Some.meta
goes c =
    goes-here c.args.middle.now.valid c.in-Some.reenc.valid.now c.in-Some.reenc.progress _ _
    (c.in-Some.ensures.is ∙ c.valid.ensures) c.in-Some.reenc.known c.in_ok-meta-in-Some.ensures.is

pub move_boundary-requires : goal.move_boundary-requires
move_boundary-requires c =
    may-here (λ atom p. MayMove atom p c.args.blocks) c.args.middle.now.valid
    c.in-Some.reenc.valid.now c.in-Some.reenc.progress (c.in-Some.ensures.is ∙ c.valid.ensures)
    c.in-Some.reenc.known c.requires.may

pub follow-requires-clause-rules : goal.follow-requires-clause-rules
follow-requires-clause-rules c = (goes (goal.at.follow-requires-clause-rules c).In_ok-meta-in-Some).gone.valid

pub follow-requires-clause-size : goal.follow-requires-clause-size
follow-requires-clause-size c = goes-as_long _ _ _ _ (goes (goal.at.follow-requires-clause-size c).In_ok-meta-in-Some)

pub returns-clause-turns : goal.returns-clause-turns
returns-clause-turns c =
    IfOk-weaker c.follow.result (λ (next : NextHeader). next.loaded.valid.meta ≡ c.in_ok-meta-in-Some.meta)
    (Turns c.args.middle.now c.args.blocks)
    (λ next same.
    goes-by c.args.middle.now.valid
    (λ (p : Progress). moved p.conversion.direction c.args.blocks p.plan)
    c.in-Some.reenc.progress c.in_ok-meta-in-Some.meta next.loaded.valid.meta (goes (goal.at.returns-clause-turns c).In_ok-meta-in-Some) same)
    c.follow.ensures.meta

pub returns-clause-unmade : goal.returns-clause-unmade
returns-clause-unmade c =
    IfErr-weaker c.follow.result
    (IsUnmade c.args.middle.now 1 (λ (text : Parts). text ≡ c.in_ok-meta-in-Some.meta))
    (IsUnmade c.args.middle.now 1 (IsTurning c.args.middle.now c.args.blocks))
    (λ fault is.
    unmade-by c.args.middle.now (λ (text : Parts). text ≡ c.in_ok-meta-in-Some.meta)
    (IsTurning c.args.middle.now c.args.blocks) fault
    (λ text same. (
      c.in-Some.reenc.progress,
      (goes (goal.at.returns-clause-unmade c).In_ok-meta-in-Some).known,
      goes-by c.args.middle.now.valid
          (λ (p : Progress). moved p.conversion.direction c.args.blocks p.plan)
          c.in-Some.reenc.progress c.in_ok-meta-in-Some.meta text (goes (goal.at.returns-clause-unmade c).In_ok-meta-in-Some) same c.in-Some.reenc.progress
          (goes (goal.at.returns-clause-unmade c).In_ok-meta-in-Some).known,
    )) is)
    c.follow.ensures.unmade

pub unreachable-requires : goal.unreachable-requires
unreachable-requires c =
    is-under_way (λ now. MayMove c.args.middle.now.valid.sizes.atom now c.args.blocks) c.args.middle.now.valid
    c.valid.result.now c.valid.ensures c.requires.may (c.in-None.ensures.none.0 refl)
