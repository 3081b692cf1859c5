use Rattle.std.proofs.Common.{◌++◌, sym, ◌∙◌, ap, length, replicate}
use Rattle.luks_format.proofs.FieldLemmas.{nul-behind}
use Rattle.uuid.proofs.TextLemmas.{by_index_length}
use Rattle.uuid.specs.Text.{hyphenated_text, lower}
use Rattle.luks_format.proofs.identifier.identifier_field.Goals as goal

pub copy_from_slice-requires : goal.copy_from_slice-requires
copy_from_slice-requires c =
    sym (ap length (c.as_bytes.ensures.value ∙ c.encode_lower-text.ensures.text)
    ∙ by_index_length 36 _)

pub returns-clause-text : goal.returns-clause-text
returns-clause-text c =
    ap (λ xs. xs ++ replicate 4 0)
    (c.copy_from_slice.ensures.after ∙ c.as_bytes.ensures.value
    ∙ c.encode_lower-text.ensures.text ∙ ap (hyphenated_text lower) c.hyphenated.ensures)

pub returns-clause-nul : goal.returns-clause-nul
returns-clause-nul c = nul-behind c.copy_from_slice.new.self _
