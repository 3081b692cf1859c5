use Rattle.std.proofs.Common.{◌≡◌, ◌∙◌, refl}
use Rattle.std.proofs.lemmas.Result.{IfErr-weaker, IfOk-weaker}
use Rattle.hotzone.proofs.GoneLemmas.{Goes, goes-as_long, goes-by, goes-here, is-under_way, may-here}
use Rattle.hotzone.proofs.MadeLemmas.{unmade-by}
use Rattle.hotzone.specs.Headings.{IsUnmade, IsOpening, Opens}
use Rattle.hotzone.specs.declared.worker.NextHeader.{NextHeader}
use Rattle.luks_meta.specs.declared.meta.Parts.{Parts}
use Rattle.luks_rules.specs.declared.shape.Progress.{Progress}
use Rattle.reenc_meta.specs.Moves.{MayOpen, opened}
use Rattle.hotzone.proofs.headers.open_header.Goals as goal
use Rattle.hotzone.proofs.headers.open_header.Goals.{In_ok-meta-in-Some}

goes : (c : In_ok-meta-in-Some)
    → Goes c.args.before.now.valid c.in-Some.reenc.progress
    (opened c.in-Some.reenc.progress.conversion.direction c.args.blocks c.in-Some.reenc.progress.plan)
    c.in_ok-meta-in-Some.meta
goes c =
    goes-here c.args.before.now.valid c.in-Some.reenc.valid.now c.in-Some.reenc.progress _ _
    (c.in-Some.ensures.is ∙ c.valid.ensures) c.in-Some.reenc.known c.in_ok-meta-in-Some.ensures.is

pub open_zone-requires : goal.open_zone-requires
open_zone-requires c =
    may-here (λ atom p. MayOpen atom p c.args.blocks) c.args.before.now.valid
    c.in-Some.reenc.valid.now c.in-Some.reenc.progress (c.in-Some.ensures.is ∙ c.valid.ensures)
    c.in-Some.reenc.known c.requires.may

pub follow-requires-clause-rules : goal.follow-requires-clause-rules
follow-requires-clause-rules c = (goes (goal.at.follow-requires-clause-rules c).In_ok-meta-in-Some).gone.valid

pub follow-requires-clause-size : goal.follow-requires-clause-size
follow-requires-clause-size c = goes-as_long _ _ _ _ (goes (goal.at.follow-requires-clause-size c).In_ok-meta-in-Some)

pub returns-clause-opens : goal.returns-clause-opens
returns-clause-opens c =
    IfOk-weaker c.follow.result (λ (next : NextHeader). next.loaded.valid.meta ≡ c.in_ok-meta-in-Some.meta)
    (Opens c.args.before.now c.args.blocks)
    (λ next same.
    goes-by c.args.before.now.valid
    (λ (p : Progress). opened p.conversion.direction c.args.blocks p.plan)
    c.in-Some.reenc.progress c.in_ok-meta-in-Some.meta next.loaded.valid.meta (goes (goal.at.returns-clause-opens c).In_ok-meta-in-Some) same)
    c.follow.ensures.meta

pub returns-clause-unmade : goal.returns-clause-unmade
returns-clause-unmade c =
    IfErr-weaker c.follow.result
    (IsUnmade c.args.before.now 1 (λ (text : Parts). text ≡ c.in_ok-meta-in-Some.meta))
    (IsUnmade c.args.before.now 1 (IsOpening c.args.before.now c.args.blocks))
    (λ fault is.
    unmade-by c.args.before.now (λ (text : Parts). text ≡ c.in_ok-meta-in-Some.meta)
    (IsOpening c.args.before.now c.args.blocks) fault
    (λ text same. (
      c.in-Some.reenc.progress,
      (goes (goal.at.returns-clause-unmade c).In_ok-meta-in-Some).known,
      goes-by c.args.before.now.valid
          (λ (p : Progress). opened p.conversion.direction c.args.blocks p.plan)
          c.in-Some.reenc.progress c.in_ok-meta-in-Some.meta text (goes (goal.at.returns-clause-unmade c).In_ok-meta-in-Some) same c.in-Some.reenc.progress
          (goes (goal.at.returns-clause-unmade c).In_ok-meta-in-Some).known,
    )) is)
    c.follow.ensures.unmade

pub unreachable-requires : goal.unreachable-requires
unreachable-requires c =
    is-under_way (λ now. MayOpen c.args.before.now.valid.sizes.atom now c.args.blocks) c.args.before.now.valid
    c.valid.result.now c.valid.ensures c.requires.may (c.in-None.ensures.none.0 refl)
