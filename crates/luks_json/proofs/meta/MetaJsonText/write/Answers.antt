use Rattle.std.proofs.Common.{◌≡◌, ◌≤◌, ◌+◌, ◌-◌, Some, sym, ap, subst, ◌∙◌, arith}
use Rattle.std.specs.Str.{IsUtf8}
use Rattle.serde_json.specs.Data.{depth}
use Rattle.serde_json.specs.Read.{read}
use Rattle.serde_json.specs.View.{view}
use Rattle.serde_json.specs.Written.{compact_text, has_float}
use Rattle.luks_json.specs.Metas.{data_of}
use Rattle.luks_json.proofs.MetaLemmas.{data_plain, meta_back, from_value}
use Rattle.luks_json.proofs.meta.MetaJsonText.write.Goals as goal

pub returns-clause-text : goal.returns-clause-text
returns-clause-text c =
    let m = c.args.self.now in
    let e : view c.in_ok-value.value ≡ data_of m =
    c.in_ok-value.ensures ∙ ap data_of c.parts.ensures.same in
    c.new.ensures
    ∙ c.in_ok-to_vec.ensures.text (ap has_float e ∙ (data_plain m c.parts.ensures.right).whole)
    ∙ ap compact_text e

pub returns-clause-back : goal.returns-clause-back
returns-clause-back c =
    let m = c.args.self.now in
    let is = c.parts.ensures.right in
    let e : view c.in_ok-value.value ≡ data_of m =
    c.in_ok-value.ensures ∙ ap data_of c.parts.ensures.same in
    let flat : depth (view c.in_ok-value.value) ≤ 127 =
    subst (λ d. depth d ≤ 127) (sym e) (data_plain m is).flat in
    let utf8 : IsUtf8 c.new.result = subst IsUtf8 (sym c.new.ensures) c.in_ok-to_vec.ensures.utf8 in
    let fits : m.config.json_size ≡ (m.config.json_size + 4096) - 4096 = omega arith in
    from_value (m.config.json_size + 4096) c.new.result (data_of m) utf8
    (ap read c.new.ensures ∙ c.in_ok-to_vec.ensures.reads_back flat ∙ ap Some e)
    ∙ meta_back (m.config.json_size + 4096) m is fits
