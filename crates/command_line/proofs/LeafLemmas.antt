-- What `clap` makes of a command's plain words as a whole.
use Rattle.std.proofs.Common.{◌≡◌, ◌∙◌, ◌||◌, ◌⊎◌, ℕ, Bool, true, false, List, [], ◌∷◌, ◌++◌, inl}
use Rattle.std.proofs.Common.{inr}
use Rattle.std.proofs.Common.{refl, sym, ap, subst, Option, Some, None, append_assoc, cond}
use Rattle.std.proofs.Common.{append-nil}
use Rattle.std.specs.List.{find, fold, list_any}
use Rattle.std.specs.Option.{option_map, option_map_or}
use Rattle.clap.specs.Facts.{explicit_source}
use Rattle.std.specs.Prelude.{slice_get, option_and_then}
use Rattle.std.specs.Str.{bytes_eq}
use Rattle.clap.specs.Faults.{check_fault, default_fault, defaults_fault, given_default_fault}
use Rattle.clap.specs.Faults.{level_fault, settle_fault, walk_fault}
use Rattle.clap.specs.Takes.{is_given}
use Rattle.clap.specs.Walk.{Held, Row, Rule, Text, Walk, finished, first_of, has_row}
use Rattle.clap.specs.Walk.{is_empty, more_values, nothing_held, reading_by, rows_after, walk}
use Rattle.clap.specs.Walk.{walked, with_default}
use Rattle.clap.specs.declared.parser.matches.ValueSource.TheVariants.{DefaultValue}
use Rattle.command_line.specs.Plain.{AllPieces, AreOnce, Piece, all_spelt, name_of, value_in}
use Rattle.command_line.specs.Plain.{value_of}
use Rattle.command_line.proofs.PieceLemmas.{HasPiece, between, leaf_of}
use Rattle.command_line.proofs.PlainLemmas.{Stands, stepped}
use Rattle.command_line.proofs.RowLemmas.{at_row_new, found_before, found_behind, neither, new_row}
use Rattle.command_line.proofs.RowLemmas.{row_for, row_found, rows_for, same_text}

-- ---- no name stands twice
-- the names of these pieces have no rows yet
abbrev AreNew : List Piece → List Piece → Type 0
AreNew done pieces = AllPieces (λ piece. has_row (name_of piece) (rows_for done) ≡ false) pieces

all_new : (pieces : List Piece) → AreNew [] pieces
unfolding AllPieces
all_new [] = tt
all_new (piece ∷ pieces) = (refl, all_new pieces)

row_more : (name : Text) (done : List Piece) (piece : Piece) →
    has_row name (rows_for done) ≡ false → bytes_eq (name_of piece) name ≡ false →
    has_row name (rows_for (done ++ piece ∷ [])) ≡ false
row_more name [] piece new other = rw other refl
row_more name (first ∷ done) piece new other =
    let parts = neither (bytes_eq (name_of first) name) _ new in
    rw (parts.0) (row_more name done piece parts.1 other)

new_more : (done : List Piece) (piece : Piece) (pieces : List Piece) → AreNew done pieces →
    list_any (λ other. bytes_eq (name_of piece) (name_of other)) pieces ≡ false →
    AreNew (done ++ piece ∷ []) pieces
unfolding AllPieces
new_more done piece [] new once = tt
new_more done piece (first ∷ pieces) new once =
    let parts = neither _ _ once in (
      row_more (name_of first) done piece new.0 parts.0,
      new_more done piece pieces new.1 parts.1,
    )

-- ---- the walk over all words
record Walks (command : Text) (rules : List Rule) (done pieces : List Piece)
    (held : Held) (position : ℕ) : Type 0 where
  after : Held
  place : ℕ
  ends : fold (walked rules []) (between held position) (all_spelt pieces) ≡ between after place
  faults : walk_fault (leaf_of command rules) [] (between held position) (all_spelt pieces) ≡ []
  stands : Stands rules (done ++ pieces) after place

all_walked : (command : Text) (rules : List Rule) (done pieces : List Piece) (held : Held)
    (position : ℕ) → Stands rules done held position → AllPieces (HasPiece rules) pieces →
    AreNew done pieces → AreOnce pieces → Walks command rules done pieces held position
unfolding AllPieces AreOnce all_spelt walk_fault
all_walked command rules done [] held position stands has new once = record {
  after = held;
  place = position;
  ends = refl;
  faults = refl;
  stands = subst (λ all. Stands rules all held position) (sym (append-nil done)) stands;
}
all_walked command rules done (piece ∷ pieces) held position stands has new once =
    let step = stepped command rules done held position stands piece has.0 new.0 in
    let rest = all_walked command rules (done ++ piece ∷ []) pieces step.after step.place
    step.stands has.1 (new_more done piece pieces new.1 once.0) once.1 in
    record {
      after = rest.after;
      place = rest.place;
      ends = step.walks (all_spelt pieces) ∙ rest.ends;
      faults = step.faults (all_spelt pieces) ∙ rest.faults;
      stands = subst (λ all. Stands rules all rest.after rest.place)
          (append_assoc done (piece ∷ []) pieces) rest.stands;
    }

-- ---- defaults
record Grows (rule : Rule) (rows : List Row) : Type 0 where
  more : List Row
  is : with_default rows rule ≡ rows ++ more
  others : (name : Text) → (rule.defaults ≡ []) ⊎ (bytes_eq rule.id name ≡ false) →
      find (λ row. bytes_eq row.id name) more ≡ None

no_more : (rule : Rule) (rows : List Row) → with_default rows rule ≡ rows → Grows rule rows
no_more rule rows same =
    record { more = []; is = same ∙ sym (append-nil rows); others = λ name or. refl }

grows : (rule : Rule) (rows : List Row) → Grows rule rows
grows rule rows = by_case (has_row rule.id rows) refl rule.defaults refl
  where
    by_case : (b : Bool) → has_row rule.id rows ≡ b → (values : List Text) →
        rule.defaults ≡ values → Grows rule rows
    by_case true had values are = no_more rule rows (rw had refl)
    by_case false had [] are = no_more rule rows (rw (had, are) refl)
    by_case false had (value ∷ values) are = record {
      more = new_row rule.id (reading_by rule) DefaultValue (value ∷ values) ∷ [];
      is = rw (had, are)
          (at_row_new rule.id (more_values DefaultValue (value ∷ values)) _ rows had);
      others = λ name or. elim or [
        | inl empty ↦ absurd (let e : value ∷ values ≡ [] = sym are ∙ empty in cc)
        | inr other ↦ rw other refl
      ];
    }

unfoldable pub NoDefault : Text → List Rule → Type 0
NoDefault name [] = Unit {0}
NoDefault name (rule ∷ rules) =
    ((rule.defaults ≡ []) ⊎ (bytes_eq rule.id name ≡ false)) × NoDefault name rules

kept_row : (rules : List Rule) (rows : List Row) (name : Text) (row : Row) →
    find (λ r. bytes_eq r.id name) rows ≡ Some row →
    find (λ r. bytes_eq r.id name) (fold with_default rows rules) ≡ Some row
kept_row [] rows name row is = is
kept_row (rule ∷ rules) rows name row is =
    let grown = grows rule rows in
    kept_row rules (with_default rows rule) name row
    (ap (find (λ r. bytes_eq r.id name)) grown.is ∙ found_before _ rows grown.more row is)

kept_none : (rules : List Rule) (rows : List Row) (name : Text) → NoDefault name rules →
    find (λ r. bytes_eq r.id name) rows ≡ None →
    find (λ r. bytes_eq r.id name) (fold with_default rows rules) ≡ None
unfolding NoDefault
kept_none [] rows name no_default is = is
kept_none (rule ∷ rules) rows name no_default is =
    let grown = grows rule rows in
    kept_none rules (with_default rows rule) name no_default.1
    (ap (find (λ r. bytes_eq r.id name)) grown.is ∙ found_behind _ rows grown.more is
    ∙ grown.others name no_default.0)

-- ---- the values that are found
pub first_value : (rules : List Rule) (pieces : List Piece) (name : Text) → NoDefault name rules →
    first_of name (fold with_default (rows_for pieces) rules) ≡ value_in name pieces
first_value rules pieces name no_default =
    by_case (find (λ piece. bytes_eq (name_of piece) name) pieces) refl
  where
    by_case : (found : Option Piece) →
        find (λ piece. bytes_eq (name_of piece) name) pieces ≡ found →
        first_of name (fold with_default (rows_for pieces) rules) ≡ value_in name pieces
    by_case None is =
        ap (option_and_then (λ (row : Row). slice_get row.values 0))
        (kept_none rules (rows_for pieces) name no_default
        (row_found name pieces ∙ ap (option_map row_for) is))
        ∙ sym (ap (option_map value_of) is)
    by_case (Some piece) is =
        ap (option_and_then (λ (row : Row). slice_get row.values 0))
        (kept_row rules (rows_for pieces) name (row_for piece)
        (row_found name pieces ∙ ap (option_map row_for) is))
        ∙ sym (ap (option_map value_of) is)

-- what was given is there, whatever the defaults are
pub record IsThere (rules : List Rule) (pieces : List Piece) (name word : Text) : Type 0 where
  pub first : first_of name (fold with_default (rows_for pieces) rules) ≡ Some word
  pub given : is_given name (fold with_default (rows_for pieces) rules) ≡ true

pub is_there : (rules : List Rule) (pieces : List Piece) (name word : Text) →
    value_in name pieces ≡ Some word → IsThere rules pieces name word
is_there rules pieces name word is =
    by_case (find (λ piece. bytes_eq (name_of piece) name) pieces) refl
  where
    by_case : (found : Option Piece) →
        find (λ piece. bytes_eq (name_of piece) name) pieces ≡ found →
        IsThere rules pieces name word
    by_case None none =
        absurd (let e : None ≡ Some word = sym (ap (option_map value_of) none) ∙ is in cc)
    by_case (Some piece) some =
        let row = kept_row rules (rows_for pieces) name (row_for piece)
        (row_found name pieces ∙ ap (option_map row_for) some) in
        record {
          first = ap (option_and_then (λ (r : Row). slice_get r.values 0)) row
              ∙ sym (ap (option_map value_of) some) ∙ is;
          given = ap (λ o. option_map_or (λ (r : Row). explicit_source r.source) o false) row;
        }

-- the first default that a name has
unfoldable pub HasDefault : Text → Text → List Rule → Type 0
HasDefault name value [] = ⊥
HasDefault name value (rule ∷ rules) =
    ((rule.id ≡ name) × (rule.defaults ≡ value ∷ []))
    ⊎ (((rule.defaults ≡ []) ⊎ (bytes_eq rule.id name ≡ false)) × HasDefault name value rules)

none_there : (name : Text) (rows : List Row) → find (λ r. bytes_eq r.id name) rows ≡ None →
    has_row name rows ≡ false
none_there name [] none = refl
none_there name (row ∷ rows) none = by_case (bytes_eq row.id name) (none_there name rows) none
  where
    by_case : (b : Bool) →
        (find (λ r. bytes_eq r.id name) rows ≡ None → has_row name rows ≡ false) →
        cond b (Some row) (find (λ r. bytes_eq r.id name) rows) ≡ None →
        (b || has_row name rows) ≡ false
    by_case true rest here = absurd (cc)
    by_case false rest later = rest later

-- what isn't given has its default
default_row : (rules : List Rule) (rows : List Row) (name value : Text) →
    HasDefault name value rules → find (λ r. bytes_eq r.id name) rows ≡ None →
    first_of name (fold with_default rows rules) ≡ Some value
unfolding HasDefault
default_row [] rows name value has none = absurd has
default_row (rule ∷ rules) rows name value has none = elim has [
  | inl (same, are) ↦
      let had : has_row rule.id rows ≡ false =
      ap (λ n. has_row n rows) same ∙ none_there name rows none in
      let row = new_row rule.id (reading_by rule) DefaultValue (value ∷ []) in
      let is : with_default rows rule ≡ rows ++ row ∷ [] =
      rw (had, are) (at_row_new rule.id (more_values DefaultValue (value ∷ [])) _ rows had) in
      let found : find (λ (r : Row). bytes_eq r.id name) (row ∷ []) ≡ Some row =
      rw (ap (λ n. bytes_eq n name) same ∙ same_text name) refl in
      ap (option_and_then (λ (r : Row). slice_get r.values 0))
      (kept_row rules (with_default rows rule) name row
      (ap (find (λ r. bytes_eq r.id name)) is ∙ found_behind _ rows (row ∷ []) none ∙ found))
  | inr (fine, rest) ↦
      let grown = grows rule rows in
      default_row rules (with_default rows rule) name value rest
      (ap (find (λ r. bytes_eq r.id name)) grown.is ∙ found_behind _ rows grown.more none
      ∙ grown.others name fine)
]

pub default_value : (rules : List Rule) (pieces : List Piece) (name value : Text) →
    HasDefault name value rules → value_in name pieces ≡ None →
    first_of name (fold with_default (rows_for pieces) rules) ≡ Some value
default_value rules pieces name value has none =
    by_case (find (λ piece. bytes_eq (name_of piece) name) pieces) refl
  where
    by_case : (found : Option Piece) →
        find (λ piece. bytes_eq (name_of piece) name) pieces ≡ found →
        first_of name (fold with_default (rows_for pieces) rules) ≡ Some value
    by_case None is =
        default_row rules (rows_for pieces) name value has
        (row_found name pieces ∙ ap (option_map row_for) is)
    by_case (Some piece) is =
        absurd (let e : Some (value_of piece) ≡ None = sym (ap (option_map value_of) is) ∙ none in
        cc)

pub none_named : (Is : Piece → Type 0) (name : Text) (pieces : List Piece) →
    ((piece : Piece) → Is piece → bytes_eq (name_of piece) name ≡ false) → AllPieces Is pieces →
    value_in name pieces ≡ None
unfolding AllPieces
none_named Is name [] other all = refl
none_named Is name (piece ∷ pieces) other all =
    rw (other piece all.0) (none_named Is name pieces other all.1)

pub all_have : (Is Has : Piece → Type 0) (pieces : List Piece) →
    ((piece : Piece) → Is piece → Has piece) → AllPieces Is pieces → AllPieces Has pieces
unfolding AllPieces
all_have Is Has [] has all = tt
all_have Is Has (piece ∷ pieces) has all = (has piece all.0, all_have Is Has pieces has all.1)

-- ---- the checks of defaults
unfoldable pub HaveFineDefaults : List Rule → Type 0
HaveFineDefaults [] = Unit {0}
HaveFineDefaults (rule ∷ rules) =
    ((rule.defaults ≡ []) ⊎ (given_default_fault rule rule.defaults ≡ []))
    × HaveFineDefaults rules

fine_default : (rows : List Row) (rule : Rule) →
    (rule.defaults ≡ []) ⊎ (given_default_fault rule rule.defaults ≡ []) →
    default_fault rows rule ≡ []
fine_default rows rule (inl empty) = by_case (has_row rule.id rows)
  where
    by_case : (b : Bool) → cond (b || is_empty rule.defaults) []
        (given_default_fault rule rule.defaults) ≡ []
    by_case true = refl
    by_case false = rw empty refl
fine_default rows rule (inr fine) = by_case (has_row rule.id rows || is_empty rule.defaults)
  where
    by_case : (b : Bool) → cond b [] (given_default_fault rule rule.defaults) ≡ []
    by_case true = refl
    by_case false = fine

pub fine_defaults : (rules : List Rule) → HaveFineDefaults rules → (rows : List Row) →
    defaults_fault rows rules ≡ []
unfolding HaveFineDefaults defaults_fault
fine_defaults [] fine rows = refl
fine_defaults (rule ∷ rules) fine rows =
    rw (fine_default rows rule fine.0) (fine_defaults rules fine.1 (with_default rows rule))

-- ---- a whole command
pub record IsTaken (command : Text) (rules : List Rule) (pieces : List Piece) : Type 0 where
  pub rows : rows_after rules [] (all_spelt pieces) ≡ fold with_default (rows_for pieces) rules
  pub fine : check_fault (leaf_of command rules) (fold with_default (rows_for pieces) rules) false
      ≡ [] →
      level_fault (leaf_of command rules) [] nothing_held (all_spelt pieces) false [] ≡ []

pub is_taken : (command : Text) (rules : List Rule) (pieces : List Piece) →
    AllPieces (HasPiece rules) pieces → AreOnce pieces →
    ((rows : List Row) → defaults_fault rows rules ≡ []) → IsTaken command rules pieces
is_taken command rules pieces has once defaults =
    let begun : Stands rules [] nothing_held 1 =
    record { rows = refl; fine = refl; first = λ none. refl } in
    let all = all_walked command rules [] pieces nothing_held 1 begun has (all_new pieces) once in
    let held : (walk rules [] nothing_held (all_spelt pieces)).held ≡ all.after =
    ap (λ (w : Walk). w.held) all.ends in
    let rows = ap (λ h. finished rules h) held
    ∙ ap (λ rows. fold with_default rows rules) all.stands.rows in
    record {
      rows = rows;
      fine = λ checked.
          (let settles = ap (settle_fault rules false) held ∙ all.stands.fine in
          rw (all.faults, settles, defaults, rows, checked) refl);
    }
