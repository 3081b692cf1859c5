-- Plain words of `format` ask for what they say.
use Rattle.std.proofs.Common.{◌≡◌, ◌∙◌, true, false, List, [], ◌∷◌, ◌++◌, inl, inr}
use Rattle.std.proofs.Common.{refl, sym, ap, subst, Option, Some, codes}
use Rattle.std.proofs.lemmas.Option.{option_and_then_some}
use Rattle.std.specs.List.{fold}
use Rattle.clap.specs.Faults.{check_fault, defaults_fault, walk_fault}
use Rattle.clap.specs.Simple.{filled_from, help_rule}
use Rattle.clap.specs.Takes.{is_given}
use Rattle.clap.specs.Walk.{Row, Rule, Text, first_of, walked, with_default}
use Rattle.command_line.specs.Commands.{asked, command_in, formats}
use Rattle.command_line.specs.Formats.{Formatting, formatting_by}
use Rattle.command_line.specs.Plain.{IsFormatPiece, Piece, TakesFormat, all_spelt, disk, flag}
use Rattle.command_line.specs.Plain.{valued, value_in}
use Rattle.command_line.specs.Product.{format_rules, product}
use Rattle.command_line.proofs.LeafLemmas.{HaveFineDefaults, NoDefault, all_have, fine_defaults}
use Rattle.command_line.proofs.LeafLemmas.{first_value, is_taken, is_there}
use Rattle.command_line.proofs.NameLemmas.{IsNamed, all_rules, asks}
use Rattle.command_line.proofs.PieceLemmas.{HasPiece, leaf_of}
use Rattle.command_line.proofs.RowLemmas.{rows_for}
use std.Path.{fun_ext}

abbrev format_built : List Rule
format_built = filled_from 1 (format_rules ++ help_rule ∷ [])

format_named : IsNamed (codes "format") format_built
unfolding walked walk_fault defaults_fault product all_rules
format_named words = (refl, refl, (λ fine. rw fine refl), refl)

format_has : (piece : Piece) → IsFormatPiece piece → HasPiece format_built piece
unfolding format_rules
format_has (disk word) plain = (plain, refl, refl)
format_has (valued name value) (plain, is) = elim is [
  | inl e ↦ subst (λ n. HasPiece format_built (valued n value)) (sym e)
      (plain, record { dashes = refl; long = refl }, (true, refl, refl))
  | inr (inl e) ↦ subst (λ n. HasPiece format_built (valued n value)) (sym e)
      (plain, record { dashes = refl; long = refl }, (false, refl, refl))
  | inr (inr (inl e)) ↦ subst (λ n. HasPiece format_built (valued n value)) (sym e)
      (plain, record { dashes = refl; long = refl }, (false, refl, refl))
  | inr (inr (inr (inl e))) ↦ subst (λ n. HasPiece format_built (valued n value)) (sym e)
      (plain, record { dashes = refl; long = refl }, (false, refl, refl))
  | inr (inr (inr (inr (inl e)))) ↦ subst (λ n. HasPiece format_built (valued n value)) (sym e)
      (plain, record { dashes = refl; long = refl }, (false, refl, refl))
  | inr (inr (inr (inr (inr (inl e))))) ↦
      subst (λ n. HasPiece format_built (valued n value)) (sym e)
      (plain, record { dashes = refl; long = refl }, (false, refl, refl))
  | inr (inr (inr (inr (inr (inr (inl e)))))) ↦
      subst (λ n. HasPiece format_built (valued n value)) (sym e)
      (plain, record { dashes = refl; long = refl }, (false, refl, refl))
  | inr (inr (inr (inr (inr (inr (inr (inl e))))))) ↦
      subst (λ n. HasPiece format_built (valued n value)) (sym e)
      (plain, record { dashes = refl; long = refl }, (false, refl, refl))
  | inr (inr (inr (inr (inr (inr (inr (inr (inl e)))))))) ↦
      subst (λ n. HasPiece format_built (valued n value)) (sym e)
      (plain, record { dashes = refl; long = refl }, (false, refl, refl))
  | inr (inr (inr (inr (inr (inr (inr (inr (inr e)))))))) ↦
      subst (λ n. HasPiece format_built (valued n value)) (sym e)
      (plain, record { dashes = refl; long = refl }, (false, refl, refl))
]
format_has (flag name) is = absurd is

-- no option has a default of its own
format_kept : (name : Text) → NoDefault name format_built
unfolding NoDefault format_rules
format_kept name = (
  inl refl,
  (
    inl refl,
    (
      inl refl,
      (
        inl refl,
        (
          inl refl,
          (
            inl refl,
            (
              inl refl,
              (
                inl refl,
                (inl refl, (inl refl, (inl refl, (inl refl, tt)))),
              ),
            ),
          ),
        ),
      ),
    ),
  ),
)

format_defaults : HaveFineDefaults format_built
unfolding HaveFineDefaults format_rules
format_defaults = (
  inl refl,
  (
    inl refl,
    (
      inl refl,
      (
        inl refl,
        (
          inl refl,
          (
            inl refl,
            (
              inl refl,
              (
                inl refl,
                (inl refl, (inl refl, (inl refl, (inl refl, tt)))),
              ),
            ),
          ),
        ),
      ),
    ),
  ),
)

format_checked : (rows : List Row) → is_given (codes "disk") rows ≡ true →
    is_given (codes "key-file") rows ≡ true →
    check_fault (leaf_of (codes "format") format_built) rows false ≡ []
unfolding format_rules
format_checked rows has_disk has_key = rw (has_disk, has_key) refl

format_command : (rows : List Row) (words : Formatting) →
    formatting_by (λ name. first_of name rows) ≡ Some words →
    command_in (codes "format") rows ≡ Some (formats words)
unfolding command_in
format_command rows words is = rw is refl

-- the disk and the key file are there
pub record HasBoth (value : Text → Option Text) : Type 0 where
  pub disk : Text
  pub disk_is : value (codes "disk") ≡ Some disk
  pub key_file : Text
  pub key_file_is : value (codes "key-file") ≡ Some key_file

has_both : (value : Text → Option Text) (words : Formatting) →
    formatting_by value ≡ Some words → HasBoth value
unfolding formatting_by
has_both value words is =
    option_and_then_some _ (value (codes "disk")) words is (λ disk disk_is rest.
    option_and_then_some _ (value (codes "key-file")) words rest (λ key_file key_file_is others.
    record {
      disk = disk;
      disk_is = disk_is;
      key_file = key_file;
      key_file_is = key_file_is;
    }))

pub format_taken : TakesFormat asked
format_taken pieces words is =
    let has = all_have IsFormatPiece (HasPiece format_built) pieces format_has is.known in
    let taken = is_taken (codes "format") format_built pieces has is.once
    (fine_defaults format_built format_defaults) in
    let rows = fold with_default (rows_for pieces) format_built in
    let values : (name : Text) → first_of name rows ≡ value_in name pieces =
    λ name. first_value format_built pieces name (format_kept name) in
    let both = has_both (λ name. value_in name pieces) words is.values_are in
    let name = is_there format_built pieces (codes "disk") both.disk both.disk_is in
    let key = is_there format_built pieces (codes "key-file") both.key_file
    both.key_file_is in
    let command = format_command rows words (ap formatting_by (fun_ext values) ∙ is.values_are) in
    asks (codes "format") format_built (all_spelt pieces) (formats words) format_named
    (taken.fine (format_checked rows name.given key.given))
    (ap (command_in (codes "format")) taken.rows ∙ command)
