-- The walk of `clap` over the words of one piece.
use Rattle.std.proofs.Common.{◌≡◌, ◌≢◌, ◌&&◌, ℕ, Bool, true, false, List, [], ◌∷◌}
use Rattle.std.proofs.Common.{refl, Option, Some, None, codes}
use Rattle.std.proofs.lemmas.Bool.Decides.{Decides-eqb}
use Rattle.std.specs.Prelude.{◌==◌}
use Rattle.std.specs.Str.{bytes_eq}
use Rattle.clap.specs.Lexer.{long_of, short_of}
use Rattle.clap.specs.Faults.{settle_fault, turn_fault}
use Rattle.clap.specs.Simple.{Shape, filled, new_shape, with_index}
use Rattle.clap.specs.Walk.{Held, Rule, Text, Walk, arg_by_id, arg_by_index}
use Rattle.clap.specs.Walk.{arg_by_long, has_row, idle, is_pending, option, settled}
use Rattle.clap.specs.Walk.{takes_several, used, walked}
use Rattle.command_line.specs.Items.{disk_rule, flag_rule, option_rule}
use Rattle.command_line.specs.Plain.{IsPlain, Piece, disk, flag, valued}
use Rattle.command_line.proofs.RowLemmas.{same_text}

-- how a plain word looks
pub record LooksPlain (word : Text) : Type 0 where
  pub dashes : bytes_eq word (45 ∷ 45 ∷ []) ≡ false
  pub long : long_of word ≡ None
  pub short : short_of word ≡ None

other_byte : (byte : ℕ) → byte ≢ 45 → (byte == 45) ≡ false
other_byte byte other = by_case (byte == 45) refl
  where
    by_case : (b : Bool) → (byte == 45) ≡ b → (byte == 45) ≡ false
    by_case true is = absurd (other ((Decides-eqb byte 45).0 is))
    by_case false is = is

pub looks_plain : (word : Text) → IsPlain word → LooksPlain word
looks_plain [] plain = absurd plain
looks_plain (byte ∷ rest) plain =
    let other = other_byte byte plain in
    record { dashes = rw other refl; long = rw other refl; short = rw other refl }

-- how the name of an option looks
pub record LooksLong (name : Text) : Type 0 where
  pub dashes : bytes_eq (45 ∷ 45 ∷ name) (45 ∷ 45 ∷ []) ≡ false
  pub long : long_of (45 ∷ 45 ∷ name) ≡ Some (name, None)

-- what a list of arguments makes of a piece
abbrev pub the_disk : Rule
the_disk = with_index 1 (filled disk_rule)

abbrev pub HasPiece : List Rule → Piece → Type 0
HasPiece rules (disk word) = IsPlain word × (arg_by_index rules 1 ≡ Some the_disk)
    × (arg_by_id rules (codes "disk") ≡ Some the_disk)
HasPiece rules (valued name value) = IsPlain value × LooksLong name × ((required : Bool)
    × (arg_by_long rules name ≡ Some (filled (option_rule name required)))
    × (arg_by_id rules name ≡ Some (filled (option_rule name required))))
HasPiece rules (flag name) =
    LooksLong name × (arg_by_long rules name ≡ Some (filled (flag_rule name)))

-- where the walk stands between two pieces
abbrev pub between : Held → ℕ → Walk
between held position = record {
  held = held;
  waiting = idle;
  position = position;
  is_trailing = false;
  stopped = None;
}

abbrev pub waits_for : Text → Held → ℕ → Walk
waits_for name held position = record {
  held = held;
  waiting = option name;
  position = position;
  is_trailing = false;
  stopped = None;
}

-- the disk has one value, so it is never one that waits for more
has_one : (pending : Option (Text × List Text)) →
    (is_pending the_disk pending && takes_several the_disk) ≡ false
has_one pending = by_case (is_pending the_disk pending)
  where
    by_case : (b : Bool) → (b && takes_several the_disk) ≡ false
    by_case true = refl
    by_case false = refl

module _ (rules : List Rule) where
  -- an option settles what is pending, and waits for its value
  pub option_named : (name : Text) (required : Bool) (held : Held) (position : ℕ) →
      LooksLong name → arg_by_long rules name ≡ Some (filled (option_rule name required)) →
      walked rules [] (between held position) (45 ∷ 45 ∷ name)
      ≡ waits_for name (record (settled rules held) { pending = Some (name, []) }) position
  unfolding walked
  option_named name required held position looks found =
      rw (looks.dashes, looks.long, found) refl

  pub option_valued : (name value : Text) (required : Bool) (held : Held) (position : ℕ) →
      IsPlain value → arg_by_id rules name ≡ Some (filled (option_rule name required)) →
      walked rules [] (waits_for name (record held { pending = Some (name, []) }) position) value
      ≡ between (record held { pending = Some (name, value ∷ []) }) position
  unfolding walked
  option_valued name value required held position plain found =
      let looks = looks_plain value plain in
      rw (looks.dashes, looks.long, looks.short, found, same_text name) refl

  pub disk_named : (word : Text) (held : Held) → IsPlain word →
      arg_by_index rules 1 ≡ Some the_disk →
      walked rules [] (between held 1) word
      ≡ between (record (settled rules held) { pending = Some (codes "disk", word ∷ []) }) 2
  unfolding walked
  disk_named word held plain found =
      let looks = looks_plain word plain in
      rw (looks.dashes, looks.long, looks.short, found, has_one held.pending) refl

  pub flag_named : (name : Text) (held : Held) (position : ℕ) → LooksLong name →
      arg_by_long rules name ≡ Some (filled (flag_rule name)) →
      walked rules [] (between held position) (45 ∷ 45 ∷ name)
      ≡ between (record (settled rules held) {
        rows = used (filled (flag_rule name)) [] (settled rules held).rows;
      }) position
  unfolding walked
  flag_named name held position looks found = rw (looks.dashes, looks.long, found) refl

-- ---- faults
-- a command with these arguments that is built
abbrev pub leaf_of : Text → List Rule → Shape
leaf_of name rules = record (new_shape name) {
  rules = rules;
  no_binary_name = true;
  disable_help_subcommand = true;
  is_built = true;
}

module _ (command : Text) (rules : List Rule) where
  pub option_fine : (name : Text) (required : Bool) (held : Held) (position : ℕ) →
      LooksLong name → arg_by_long rules name ≡ Some (filled (option_rule name required)) →
      settle_fault rules false held ≡ [] →
      turn_fault (leaf_of command rules) [] (between held position) (45 ∷ 45 ∷ name) ≡ []
  option_fine name required held position looks found fine =
      rw (looks.dashes, looks.long, found, fine) refl

  pub value_fine : (name value : Text) (held : Held) (position : ℕ) → IsPlain value →
      turn_fault (leaf_of command rules) []
      (waits_for name (record held { pending = Some (name, []) }) position) value ≡ []
  value_fine name value held position plain =
      let looks = looks_plain value plain in
      rw (looks.dashes, looks.long, looks.short) refl

  pub disk_fine : (word : Text) (held : Held) → IsPlain word →
      arg_by_index rules 1 ≡ Some the_disk → settle_fault rules false held ≡ [] →
      turn_fault (leaf_of command rules) [] (between held 1) word ≡ []
  disk_fine word held plain found fine =
      let looks = looks_plain word plain in
      rw (looks.dashes, looks.long, looks.short, found, has_one held.pending, fine) refl

  pub flag_fine : (name : Text) (held : Held) (position : ℕ) → LooksLong name →
      arg_by_long rules name ≡ Some (filled (flag_rule name)) →
      settle_fault rules false held ≡ [] →
      has_row name (settled rules held).rows ≡ false →
      turn_fault (leaf_of command rules) [] (between held position) (45 ∷ 45 ∷ name) ≡ []
  flag_fine name held position looks found fine new =
      rw (looks.dashes, looks.long, found, fine, new) refl
