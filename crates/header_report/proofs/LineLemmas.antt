-- Lines that are put together.
use Rattle.std.proofs.Common.{◌≡◌, ◌∙◌, ◌++◌, ◌∷◌, ◌+◌, ◌<◌, [], ℕ, List, Option, Some, None}
use Rattle.std.proofs.Common.{Result}
use Rattle.std.proofs.Common.{Ok, Err, ap, ap₂, refl, sym, length, map, take, slice_index_or}
use Rattle.std.proofs.Common.{append-nil, append_assoc}
use Rattle.std.proofs.lemmas.List.{map_push, take_more}
use Rattle.luks_meta.specs.declared.keyslot.Keyslot.{Keyslot}
use Rattle.header_report.specs.Reports.{identifier, slot_line, text_of_lines}
use Rattle.uuid.specs.Text.{parsed}
use Rattle.std.specs.Prelude.{IfOk, slice_index, string_bytes}
use Rattle.std.specs.declared.string.String.{String}

-- a text that was made is another one where both are the same
pub made_as : {Z E : Type 0} (made : Result (String Z) E) (text wanted : List ℕ) →
    IfOk made (λ s. string_bytes s ≡ text) → text ≡ wanted →
    IfOk made (λ s. string_bytes s ≡ wanted)
made_as (Ok s) text wanted is same = is ∙ same
made_as (Err e) text wanted is same = search

-- one line more
pub one_more : (lines : List (List ℕ)) (last : List ℕ) →
    text_of_lines (lines ++ last ∷ []) ≡ text_of_lines lines ++ last
unfolding text_of_lines
one_more [] last = append-nil last
one_more (first ∷ lines) last =
    ap (λ rest. first ++ rest) (one_more lines last)
    ∙ sym (append_assoc first (text_of_lines lines) last)

pub slots_more : (start before after line : List ℕ) (slots : List (ℕ × Keyslot)) (i : ℕ)
    (d : ℕ × Keyslot) → i < length slots →
    before ≡ start ++ text_of_lines (map slot_line (take i slots)) →
    line ≡ slot_line (slice_index_or slots i d) → after ≡ before ++ line →
    after ≡ start ++ text_of_lines (map slot_line (take (i + 1) slots))
slots_more start before after line slots i d inside was is grown =
    grown ∙ ap₂ (λ a b. a ++ b) was is
    ∙ append_assoc start (text_of_lines (map slot_line (take i slots)))
    (slot_line (slice_index_or slots i d))
    ∙ ap (λ rest. start ++ rest)
    (sym (ap (λ xs. text_of_lines (map slot_line xs)) (take_more slots i d inside)
    ∙ ap text_of_lines (map_push slot_line (take i slots) (slice_index_or slots i d))
    ∙ one_more (map slot_line (take i slots)) (slot_line (slice_index_or slots i d))))

-- no slot yet
pub none_yet : (start : List ℕ) → start ≡ start ++ text_of_lines []
unfolding text_of_lines
none_yet start = sym (append-nil start)

-- the lines of a conversion
pub five_lines : (a b c d e a' b' c' d' e' : List ℕ) → a ≡ a' → b ≡ b' → c ≡ c' → d ≡ d' → e ≡ e' →
    a ++ (b ++ (c ++ (d ++ e))) ≡ text_of_lines (a' ∷ b' ∷ c' ∷ d' ∷ e' ∷ [])
unfolding text_of_lines
five_lines a b c d e a' b' c' d' e' p q r s t =
    rw (p, q, r, s, t) (ap (λ last. a' ++ (b' ++ (c' ++ (d' ++ last)))) (sym (append-nil e')))

pub two_lines : (a b b' : List ℕ) → b ≡ b' → a ++ b ≡ text_of_lines (a ∷ b' ∷ [])
unfolding text_of_lines
two_lines a b b' same = ap (λ last. a ++ last) (same ∙ sym (append-nil b'))

pub joined : (xs ys : List (List ℕ))
    → text_of_lines (xs ++ ys) ≡ text_of_lines xs ++ text_of_lines ys
unfolding text_of_lines
joined [] ys = refl
joined (x ∷ xs) ys = ap (λ rest. x ++ rest) (joined xs ys)
    ∙ sym (append_assoc x (text_of_lines xs) (text_of_lines ys))

-- the whole: two lines, those of the volume, and those of the slots
pub whole : (a b v s a' b' : List ℕ) (volume slots : List (List ℕ)) (text : List ℕ) → a ≡ a'
    → b ≡ b' →
    v ≡ text_of_lines volume → text ≡ (a ++ (b ++ v)) ++ text_of_lines slots →
    text ≡ text_of_lines (a' ∷ b' ∷ (volume ++ slots))
unfolding text_of_lines
whole a b v s a' b' volume slots text p q r is =
    is ∙ append_assoc a (b ++ v) (text_of_lines slots)
    ∙ ap (λ rest. a ++ rest) (append_assoc b v (text_of_lines slots))
    ∙ ap₂ (λ x y. x ++ (y ++ (v ++ text_of_lines slots))) p q
    ∙ ap (λ rest. a' ++ (b' ++ rest))
    (ap (λ w. w ++ text_of_lines slots) r ∙ sym (joined volume slots))

-- a text that doesn't parse
pub unparsed : {X : Type 0} (found : Option X) → (((x : X) × (found ≡ Some x)) → ⊥) → found ≡ None
unparsed None = λ never. refl
unparsed (Some x) = λ never. absurd (never (x, refl))

pub no_identifier : (field : List ℕ) → slice_index field 36 ≡ 0 →
    parsed (take 36 field) ≡ None → None ≡ identifier field
unfolding identifier
no_identifier field nul none = rw (nul, none) refl
