-- The rows that plain words leave, one for each piece.
use Rattle.std.proofs.Common.{◌≡◌, ◌∙◌, ◌||◌, Bool, true, false, cond, List, [], ◌∷◌, ◌++◌, map}
use Rattle.std.proofs.Common.{refl, sym, ap, append-nil, Some, None, codes}
use Rattle.std.proofs.Common.{true≢false}
use Rattle.std.proofs.lemmas.Bool.Decides.{not_from_Decides}
use Rattle.std.proofs.lemmas.Slice.Eq.{bytes_eq-Decides}
use Rattle.std.specs.List.{find}
use Rattle.std.specs.Option.{option_map}
use Rattle.std.specs.Str.{bytes_eq}
use Rattle.clap.specs.Simple.{filled}
use Rattle.clap.specs.Walk.{Row, Text, at_row, has_row, reading_by}
use Rattle.clap.specs.Walk.{more_values, with_values, without}
use Rattle.clap.specs.declared.builder.value_parser.Reading.{Reading}
use Rattle.clap.specs.declared.parser.matches.ValueSource.{ValueSource}
use Rattle.clap.specs.declared.parser.matches.ValueSource.TheVariants.{CommandLine}
use Rattle.command_line.specs.Items.{disk_rule, flag_rule}
use Rattle.command_line.specs.Plain.{Piece, flag, name_of, value_of}

pub neither : (a b : Bool) → (a || b) ≡ false → (a ≡ false) × (b ≡ false)
neither true b differ = absurd (true≢false differ)
neither false b differ = (refl, differ)

pub same_text : (text : Text) → bytes_eq text text ≡ true
same_text text = (bytes_eq-Decides text text).1 refl

-- texts that differ from the left differ from the right
pub apart : (a b : Text) → bytes_eq a b ≡ false → bytes_eq b a ≡ false
apart a b differ = by_case (bytes_eq b a) refl
  where
    by_case : (c : Bool) → bytes_eq b a ≡ c → bytes_eq b a ≡ false
    by_case true is =
        absurd (not_from_Decides _ (bytes_eq-Decides a b) differ
        (sym ((bytes_eq-Decides b a).0 is)))
    by_case false is = is

abbrev pub new_row : Text → Reading → ValueSource → List Text → Row
new_row id how source values =
    record { id = id; values = values; count = None; source = Some source; reading = how }

pub at_row_new : (id : Text) (change : Row → List Row) (missing rows : List Row) →
    has_row id rows ≡ false → at_row id change missing rows ≡ rows ++ missing
at_row_new id change missing [] new = refl
at_row_new id change missing (row ∷ rows) new =
    let parts = neither (bytes_eq row.id id) _ new in
    rw (parts.0) (ap (λ rest. row ∷ rest) (at_row_new id change missing rows parts.1))

-- the values of an argument that has none yet stand behind the others'
pub new_values : (id : Text) (how : Reading) (source : ValueSource) (values : List Text)
    (rows : List Row) → has_row id rows ≡ false →
    with_values id how source values (without id rows)
    ≡ rows ++ new_row id how source values ∷ []
new_values id how source values rows new =
    ap (with_values id how source values) (at_row_new id (λ _. []) [] rows new ∙ append-nil rows)
    ∙ at_row_new id (more_values source values) _ rows new

-- ---- the row of a piece
abbrev pub reading_for : Piece → Reading
reading_for (flag name) = reading_by (filled (flag_rule (codes "plain")))
reading_for _ = reading_by (filled disk_rule)

abbrev pub row_for : Piece → Row
row_for piece = new_row (name_of piece) (reading_for piece) CommandLine (value_of piece ∷ [])

abbrev pub rows_for : List Piece → List Row
rows_for = map row_for

pub row_found : (name : Text) (pieces : List Piece) →
    find (λ row. bytes_eq row.id name) (rows_for pieces)
    ≡ option_map row_for (find (λ piece. bytes_eq (name_of piece) name) pieces)
row_found name [] = refl
row_found name (piece ∷ pieces) = by_case (bytes_eq (name_of piece) name) (row_found name pieces)
  where
    by_case : (b : Bool) → find (λ row. bytes_eq row.id name) (rows_for pieces)
        ≡ option_map row_for (find (λ other. bytes_eq (name_of other) name) pieces) →
        cond b (Some (row_for piece)) (find (λ row. bytes_eq row.id name) (rows_for pieces))
        ≡ option_map row_for
        (cond b (Some piece) (find (λ other. bytes_eq (name_of other) name) pieces))
    by_case true rest = refl
    by_case false rest = rest

-- ---- defaults stand behind all rows
pub found_before : (test : Row → Bool) (rows more : List Row) (row : Row) →
    find test rows ≡ Some row → find test (rows ++ more) ≡ Some row
found_before test [] more row is = absurd (cc)
found_before test (first ∷ rows) more row is =
    by_case (test first) (found_before test rows more row) is
  where
    by_case : (b : Bool) → (find test rows ≡ Some row → find test (rows ++ more) ≡ Some row) →
        cond b (Some first) (find test rows) ≡ Some row →
        cond b (Some first) (find test (rows ++ more)) ≡ Some row
    by_case true rest here = here
    by_case false rest later = rest later

pub found_behind : (test : Row → Bool) (rows more : List Row) →
    find test rows ≡ None → find test (rows ++ more) ≡ find test more
found_behind test [] more none = refl
found_behind test (first ∷ rows) more none =
    by_case (test first) (found_behind test rows more) none
  where
    by_case : (b : Bool) → (find test rows ≡ None → find test (rows ++ more) ≡ find test more) →
        cond b (Some first) (find test rows) ≡ None →
        cond b (Some first) (find test (rows ++ more)) ≡ find test more
    by_case true rest here = absurd (cc)
    by_case false rest later = rest later
