use Rattle.json_members.proofs.FieldLemmas.{text_in-string, number_in-unsigned, decimal_in-decimal}
use Rattle.json_members.proofs.FieldLemmas.{bytes_in-bytes, object_in-object, texts_in-texts}
use Rattle.json_members.proofs.FieldLemmas.{decimals_in-decimals, text_got, number_got, decimal_got}
use Rattle.json_members.proofs.FieldLemmas.{bytes_got, object_got, texts_got, decimals_got}
use Rattle.json_members.proofs.laws.members_are_read_by_form.Goals as goal

pub returns-clause-text : goal.returns-clause-text
returns-clause-text c path name ms s =
    (λ e. text_got path name ms s e, λ h. text_in-string path name ms s h)

pub returns-clause-number : goal.returns-clause-number
returns-clause-number c path name ms n =
    (λ e. number_got path name ms n e, λ h. number_in-unsigned path name ms n h)

pub returns-clause-decimal : goal.returns-clause-decimal
returns-clause-decimal c path name ms n =
    (λ e. decimal_got path name ms n e, λ h. decimal_in-decimal path name ms n h.0 h.1)

pub returns-clause-bytes : goal.returns-clause-bytes
returns-clause-bytes c path name ms bs =
    (λ e. bytes_got path name ms bs e, λ h. bytes_in-bytes path name ms bs h.0 h.1)

pub returns-clause-object : goal.returns-clause-object
returns-clause-object c path name ms inner =
    (λ e. object_got path name ms inner e, λ h. object_in-object path name ms inner h)

pub returns-clause-texts : goal.returns-clause-texts
returns-clause-texts c path name ms ss =
    (λ e. texts_got path name ms ss e, λ h. texts_in-texts path name ms ss h)

pub returns-clause-decimals : goal.returns-clause-decimals
returns-clause-decimals c path name ms ns =
    (λ e. decimals_got path name ms ns e, λ h. decimals_in-decimals path name ms ns h.0 h.1)
