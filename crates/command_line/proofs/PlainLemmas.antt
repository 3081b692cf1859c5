-- The walk of `clap` over plain words.
use Rattle.std.proofs.Common.{◌≡◌, ◌∙◌, ◌||◌, ℕ, Bool, true, false, List, [], ◌∷◌, ◌++◌}
use Rattle.std.proofs.Common.{refl, sym, ap, Some, codes}
use Rattle.std.proofs.Common.{true≢false}
use Rattle.std.specs.List.{fold, list_any}
use Rattle.clap.specs.Faults.{settle_fault, turn_fault, walk_fault}
use Rattle.clap.specs.Kinds.{or_else}
use Rattle.clap.specs.Simple.{filled}
use Rattle.clap.specs.Walk.{Held, Row, Rule, Text, Walk, arg_by_id, has_row, settled, settled_rows}
use Rattle.clap.specs.Walk.{used, used_by_id, walked, with_values, without}
use Rattle.clap.specs.declared.parser.matches.ValueSource.TheVariants.{CommandLine}
use Rattle.command_line.specs.Items.{flag_rule, option_rule}
use Rattle.command_line.specs.Plain.{Piece, disk, flag, valued, name_of}
use Rattle.command_line.specs.Plain.{spelt, value_of}
use Rattle.command_line.proofs.PieceLemmas.{HasPiece, between, disk_fine, disk_named, flag_fine}
use Rattle.command_line.proofs.PieceLemmas.{flag_named, leaf_of, option_fine, option_named}
use Rattle.command_line.proofs.PieceLemmas.{option_valued, the_disk, value_fine}
use Rattle.command_line.proofs.RowLemmas.{neither, new_values, reading_for, row_for, rows_for}

-- whether the disk is among the pieces
abbrev pub is_disk : Piece → Bool
is_disk (disk word) = true
is_disk _ = false

-- what is held after pieces: a row for each, of which the last may be pending
pub record Stands (rules : List Rule) (pieces : List Piece) (held : Held) (position : ℕ) : Type 0
  where
    pub rows : settled_rows rules held.pending held.rows ≡ rows_for pieces
    pub fine : settle_fault rules false held ≡ []
    pub first : list_any is_disk pieces ≡ false → position ≡ 1

rows_more : (pieces : List Piece) (piece : Piece) →
    rows_for pieces ++ row_for piece ∷ [] ≡ rows_for (pieces ++ piece ∷ [])
rows_more [] piece = refl
rows_more (first ∷ pieces) piece = ap (λ rows. row_for first ∷ rows) (rows_more pieces piece)

any_more : (pieces : List Piece) (piece : Piece) →
    list_any is_disk (pieces ++ piece ∷ []) ≡ (list_any is_disk pieces || is_disk piece)
any_more [] piece = by_case (is_disk piece)
  where
    by_case : (b : Bool) → (b || false) ≡ b
    by_case true = refl
    by_case false = refl
any_more (first ∷ pieces) piece = by_case (is_disk first) (any_more pieces piece)
  where
    by_case : (b : Bool) →
        list_any is_disk (pieces ++ piece ∷ []) ≡ (list_any is_disk pieces || is_disk piece) →
        (b || list_any is_disk (pieces ++ piece ∷ []))
        ≡ ((b || list_any is_disk pieces) || is_disk piece)
    by_case true rest = refl
    by_case false rest = rest

or_true : (b : Bool) → (b || true) ≡ false → ⊥
or_true true is = true≢false is
or_true false is = true≢false is

no_disk : (pieces : List Piece) → has_row (codes "disk") (rows_for pieces) ≡ false →
    list_any is_disk pieces ≡ false
no_disk [] new = refl
no_disk (disk word ∷ pieces) new = absurd (cc)
no_disk (valued name value ∷ pieces) new = no_disk pieces (neither _ _ new).1
no_disk (flag name ∷ pieces) new = no_disk pieces (neither _ _ new).1

-- a value that is pending is settled to a row of its own
module _ (rules : List Rule) (pieces : List Piece) (held : Held) (piece : Piece) (rule : Rule)
    (stands : settled_rows rules held.pending held.rows ≡ rows_for pieces)
    (new : has_row (name_of piece) (rows_for pieces) ≡ false)
    (found : arg_by_id rules (name_of piece) ≡ Some rule)
    (uses : (rows : List Row) → used rule (value_of piece ∷ []) rows
    ≡ with_values (name_of piece) (reading_for piece) CommandLine (value_of piece ∷ [])
    (without (name_of piece) rows)) where
  pub still_new : has_row (name_of piece) (settled rules held).rows ≡ false
  still_new = ap (has_row (name_of piece)) stands ∙ new

  pub pending_row : settled_rows rules (Some (name_of piece, value_of piece ∷ []))
      (settled rules held).rows ≡ rows_for (pieces ++ piece ∷ [])
  pending_row =
      ap (λ a. used_by_id a (value_of piece ∷ []) (settled rules held).rows) found
      ∙ uses (settled rules held).rows
      ∙ new_values (name_of piece) (reading_for piece) CommandLine (value_of piece ∷ [])
      (settled rules held).rows still_new
      ∙ ap (λ rows. rows ++ row_for piece ∷ []) stands ∙ rows_more pieces piece

-- the words of one piece, before any others
pub record Steps (command : Text) (rules : List Rule) (pieces : List Piece) (piece : Piece)
    (held : Held) (position : ℕ) : Type 0 where
  pub after : Held
  pub place : ℕ
  pub walks : (rest : List Text) →
      fold (walked rules []) (between held position) (spelt piece ++ rest)
      ≡ fold (walked rules []) (between after place) rest
  pub faults : (rest : List Text) →
      walk_fault (leaf_of command rules) [] (between held position) (spelt piece ++ rest)
      ≡ walk_fault (leaf_of command rules) [] (between after place) rest
  pub stands : Stands rules (pieces ++ piece ∷ []) after place

turn : (command : Text) (rules : List Rule) (old new : Walk) (word : Text) (rest : List Text) →
    turn_fault (leaf_of command rules) [] old word ≡ [] → walked rules [] old word ≡ new →
    walk_fault (leaf_of command rules) [] old (word ∷ rest)
    ≡ walk_fault (leaf_of command rules) [] new rest
unfolding walk_fault
turn command rules old new word rest fine same =
    ap (λ kinds. or_else kinds
    (walk_fault (leaf_of command rules) [] (walked rules [] old word) rest)) fine
    ∙ ap (λ w. walk_fault (leaf_of command rules) [] w rest) same

module _ (command : Text) (rules : List Rule) (pieces : List Piece) (held : Held) (position : ℕ)
    (stands : Stands rules pieces held position) where
  step_valued : (name value : Text) → HasPiece rules (valued name value) →
      has_row name (rows_for pieces) ≡ false →
      Steps command rules pieces (valued name value) held position
  step_valued name value (plain, looks, (required, by_long, by_id)) new =
      let rule = filled (option_rule name required) in
      let still = still_new rules pieces held (valued name value) rule stands.rows new by_id
      (λ rows. refl) in
      let named = option_named rules name required held position looks by_long in
      let given =
      option_valued rules name value required (settled rules held) position plain by_id in
      record {
        after = record (settled rules held) { pending = Some (name, value ∷ []) };
        place = position;
        walks = λ rest. ap (λ w. fold (walked rules []) (walked rules [] w value) rest) named
            ∙ ap (λ w. fold (walked rules []) w rest) given;
        faults = λ rest. turn command rules _ _ _ (value ∷ rest)
            (option_fine command rules name required held position looks by_long stands.fine) named
            ∙ turn command rules _ _ _ rest
            (value_fine command rules name value (settled rules held) position plain) given;
        stands = record {
          rows = pending_row rules pieces held (valued name value) rule stands.rows new by_id
              (λ rows. refl);
          fine = rw (by_id, still) refl;
          first = λ none.
              stands.first ((neither _ _ (sym (any_more pieces (valued name value)) ∙ none)).0);
        };
      }

  step_disk : (word : Text) → HasPiece rules (disk word) →
      has_row (codes "disk") (rows_for pieces) ≡ false →
      Steps command rules pieces (disk word) held position
  step_disk word (plain, by_index, by_id) new =
      let still = still_new rules pieces held (disk word) the_disk stands.rows new by_id
      (λ rows. refl) in
      let one = stands.first (no_disk pieces new) in
      let named = disk_named rules word held plain by_index in
      record {
        after = record (settled rules held) { pending = Some (codes "disk", word ∷ []) };
        place = 2;
        walks = λ rest. ap (λ n. fold (walked rules []) (between held n) (word ∷ rest)) one
            ∙ ap (λ w. fold (walked rules []) w rest) named;
        faults = λ rest. ap (λ n. walk_fault (leaf_of command rules) [] (between held n)
            (word ∷ rest)) one
            ∙ turn command rules _ _ _ rest
            (disk_fine command rules word held plain by_index stands.fine) named;
        stands = record {
          rows = pending_row rules pieces held (disk word) the_disk stands.rows new by_id
              (λ rows. refl);
          fine = rw (by_id, still) refl;
          first = λ none.
              absurd (or_true (list_any is_disk pieces) (sym (any_more pieces (disk word)) ∙ none));
        };
      }

  step_flag : (name : Text) → HasPiece rules (flag name) →
      has_row name (rows_for pieces) ≡ false →
      Steps command rules pieces (flag name) held position
  step_flag name (looks, by_long) new =
      let still = ap (has_row name) stands.rows ∙ new in
      let named = flag_named rules name held position looks by_long in
      record {
        after = record (settled rules held) {
          rows = used (filled (flag_rule name)) [] (settled rules held).rows;
        };
        place = position;
        walks = λ rest. ap (λ w. fold (walked rules []) w rest) named;
        faults = λ rest. turn command rules _ _ _ rest
            (flag_fine command rules name held position looks by_long stands.fine still) named;
        stands = record {
          rows = new_values name (reading_for (flag name)) CommandLine (codes "true" ∷ [])
              (settled rules held).rows still
              ∙ ap (λ rows. rows ++ row_for (flag name) ∷ []) stands.rows
              ∙ rows_more pieces (flag name);
          fine = refl;
          first = λ none.
              stands.first ((neither _ _ (sym (any_more pieces (flag name)) ∙ none)).0);
        };
      }

  pub stepped : (piece : Piece) → HasPiece rules piece →
      has_row (name_of piece) (rows_for pieces) ≡ false →
      Steps command rules pieces piece held position
  stepped (disk word) has new = step_disk word has new
  stepped (valued name value) has new = step_valued name value has new
  stepped (flag name) has new = step_flag name has new
