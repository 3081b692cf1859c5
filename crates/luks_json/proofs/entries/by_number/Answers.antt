use Rattle.std.proofs.Common.{◌≡◌, string_bytes, Some, sym, ap, ◌∙◌}
use Rattle.serde_json.specs.View.{members_view}
use Rattle.json_members.specs.Decimals.{number_of}
use Rattle.json_members.specs.Entries.{viewed, numbered_from}
use Rattle.json_members.proofs.LoopLemmas.{numbered_more}
use Rattle.luks_json.proofs.entries.by_number.Goals as goal

pub loop-key-preserved : goal.loop-key-preserved
loop-key-preserved c =
    let path = c.args.path.now in
    let es = c.loop-key.found.entries in
    let k = c.in-Some.key in
    let v = c.in-Some.value in
    let rest = c.next.new.self in
    let n = c.in-Some-decimal_number.number in
    let is : number_of (string_bytes k) ≡ Some n =
    ap number_of (sym c.as_str.ensures.value) ∙ sym c.decimal_number.ensures
    ∙ c.in-Some-decimal_number.is in (
      tt,
      tt,
      ap (λ r. numbered_from path (viewed r) (members_view rest)) c.in_ok-insert.ensures.entries
          ∙ numbered_more path es k v rest n is
          ∙ ap (λ r. numbered_from path (viewed es) (members_view r)) (sym c.in-Some.ensures.steps)
          ∙ c.loop-key.invariant.2,
    )
