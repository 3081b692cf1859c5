use Rattle.std.proofs.Common.{◌∙◌, ap, rules, subst}
use Rattle.luks_store.proofs.SlotCommits.CallLemmas.{goes-on, none-left, same-call, stops}
use Rattle.luks_store.specs.SlotCommits.Calls.{MakesCalls, calls_from}
use Rattle.luks_store.specs.Copying.Held.{stage_in}
use Rattle.luks_store.specs.declared.header_copies.commit.Stage.{Stage}
use Rattle.luks_store.specs.declared.copies.Copies.{Copies}
use Rattle.luks_store.proofs.slot_commit.writing.write_copies.Goals as goal

pub calls-preserved : goal.calls-preserved
calls-preserved g c =
    let slot = c.args.slot.now in
    let now = c.calls.slot.commit in
    let kept = c.calls.invariant in
    let call = same-call slot now kept.same (stage_in now.copies) _ _ _ c.in-Ok.ensures.call in
    record {
      goes = λ new result rest. kept.goes new result
          (goes-on slot (stage_in now.copies) _ _ new result call
          (subst (λ (s : Stage). MakesCalls slot (calls_from s) (g.D.Disk.device c.step.new.disk) new
          result) c.in-Ok.ensures.stage rest));
      sizes = c.step.ensures.sizes;
      same = record {
        first = c.step.ensures.first ∙ kept.same.first;
        second = c.step.ensures.second ∙ kept.same.second;
        header = ap (λ (k : Copies). k.used.header) c.step.ensures.same ∙ kept.same.header;
      };
    }

pub returns-in-Err : goal.returns-in-Err
returns-in-Err g c =
    let slot = c.args.slot.now in
    let now = c.calls.slot.commit in
    let kept = c.calls.invariant in
    kept.goes _ _ (stops slot (stage_in now.copies) _ _
    (same-call slot now kept.same (stage_in now.copies) _ _ _ c.in-Err.ensures.call))

pub returns : goal.returns
returns g c =
    c.calls.invariant.goes _ _
    (none-left c.args.slot.now (stage_in c.calls.slot.commit.copies) _ (search rules))
