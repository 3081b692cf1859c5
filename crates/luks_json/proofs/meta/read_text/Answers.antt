use Rattle.std.proofs.Common.{◌≡◌, Err, IsTrue, true, false, sym, ap, subst, ◌∙◌}
use Rattle.serde_json.specs.Errors.{IsMemory}
use Rattle.serde_json.specs.View.{view}
use Rattle.json_members.specs.declared.faults.JsonFaultKind.TheVariants.{NotJson}
use Rattle.json_members.specs.Fields.{Gives}
use Rattle.luks_meta.specs.declared.meta.Parts.{Parts}
use Rattle.luks_json.proofs.MetaLemmas.{from_value, no_value}
use Rattle.luks_json.proofs.meta.read_text.Goals as goal

pub returns-in-Ok : goal.returns-in-Ok
returns-in-Ok c =
    let e = from_value c.args.hdr_size c.args.text.now (view c.in-Ok.value) c.in-Ok.ensures.ok.0
    c.in-Ok.ensures.ok.1 in
    subst (Gives (λ (m : Parts). m) c.read_value.result) (sym e) c.read_value.ensures

pub returns-else-is_memory : goal.returns-else-is_memory
returns-else-is_memory c =
    let other : ¬ IsMemory c.in-Err.e =
    λ m. let no : false ≡ true =
    subst IsTrue c.if-is_memory.false (c.is_memory.ensures.1 m) in cc in
    no_value c.args.hdr_size c.args.text.now (λ utf8. c.in-Err.ensures.err other utf8)
    ∙ ap (λ p. Err (record { kind = NotJson; path = p }))
    (sym (c.new-in-Err.ensures ∙ c.new.ensures.bytes))
