use Rattle.std.proofs.Common.{◌≡◌, ◌∙◌, ◌&&◌, ℕ, List, [], ◌∷◌, length, cond, Some, None, true}
use Rattle.std.proofs.Common.{false, refl, sym, ap, arith}
use Rattle.reenc_meta.specs.Finishes.{has_no_members, has_no_texts}
use Rattle.reenc_meta.proofs.finishing.none_if_empty.Goals as goal
use Rattle.serde_json.specs.View.{members_view}
use Rattle.serde_json.proofs.Views.{Entry}

no_texts : (texts : List (List ℕ)) → length texts ≡ 0 → has_no_texts texts ≡ true
no_texts [] none = refl
no_texts (text ∷ texts) none = absurd (omega (arith, none))

some_members : (es : List Entry) → (length es ≡ 0 → ⊥) → has_no_members (members_view es) ≡ false
some_members [] some = absurd (some refl)
some_members (e ∷ es) some = refl

pub returns : goal.returns
returns c =
    let r = c.args.requirements in
    let back = c.into_map-members.ensures in
    let none = no_texts r.mandatory (omega (arith, c.len.ensures, c.if-len-ne0.false)) in
    let some = some_members c.into_map-members.result.entries (λ empty.
    let bad : true ≡ false = sym (c.is_empty.ensures.1 empty) ∙ c.if-is_empty.false in cc) in
    (λ i. Some (record { mandatory = r.mandatory; rest = (c.new.ensures ∙ back) i }))
    ∙ sym (ap (λ b. cond (b && has_no_members r.rest) None (Some r)) none
    ∙ ap (λ ms. cond (has_no_members ms) None (Some r)) (sym back)
    ∙ ap (λ b. cond b None (Some r)) some)
