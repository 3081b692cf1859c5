use Rattle.std.proofs.Common.{◌∙◌, ◌^◌, ◌<◌, ℕ, List, subst, sym}
use Rattle.std.specs.List.{All}
use Rattle.luks_meta.specs.declared.keyslot.Keyslot.{Keyslot}
use Rattle.reenc_meta.specs.Layouts.{HasPlace, whole_on}
use Rattle.reenc_meta.specs.Runs.{runs_of}
use Rattle.reenc_meta.specs.Starts.{lowest_free}
use Rattle.reenc_meta.proofs.StartedLemmas.{started-parts}
use Rattle.reenc_meta.proofs.starting.begin.Goals as goal

pub list_segments-requires : goal.list_segments-requires
list_segments-requires c =
    subst
    (All (λ run. HasPlace c.args.atom (whole_on c.make_progress-progress.result run.side) run))
    (sym (c.as_slice-8.ensures.value ∙ c.in_ok-runs.ensures))
    (subst (λ p. All (λ run. HasPlace c.args.atom (whole_on p run.side) run)
    (runs_of c.args.wish.now.direction p.plan)) (sym c.make_progress-progress.ensures.is)
    (started-parts c.args.atom c.args.wish.now c.args.parts.now c.args.idle.now c.in_ok-new.new
    c.requires.place))

pub returns-clause-numbers : goal.returns-clause-numbers
returns-clause-numbers c = record {
  slot = subst (λ (slots : List (ℕ × Keyslot)). lowest_free slots < 2 ^ 64) c.as_slice-6.ensures
      c.lowest_number-slot.ensures.few;
  conversion = c.make_progress-progress.ensures.keyslot;
  digest = c.make_progress-progress.ensures.digest;
}
