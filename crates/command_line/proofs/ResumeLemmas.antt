-- Plain words of `resume` ask for what they say.
use Rattle.std.proofs.Common.{◌≡◌, ◌∙◌, true, false, List, [], ◌∷◌, ◌++◌, inl, inr}
use Rattle.std.proofs.Common.{refl, sym, ap, subst, Some, None, codes}
use Rattle.std.specs.List.{fold}
use Rattle.std.specs.Str.{bytes_eq}
use Rattle.clap.specs.Faults.{check_fault, defaults_fault, walk_fault}
use Rattle.clap.specs.Simple.{filled_from, help_rule}
use Rattle.clap.specs.Takes.{is_given}
use Rattle.clap.specs.Walk.{Row, Rule, Text, first_of, walked, with_default}
use Rattle.command_line.specs.Commands.{asked, command_in, resumes}
use Rattle.command_line.specs.Plain.{IsResumePiece, Piece, TakesResume, all_spelt, disk, flag}
use Rattle.command_line.specs.Plain.{name_of, valued, value_in}
use Rattle.command_line.specs.Product.{product, resume_rules}
use Rattle.command_line.specs.Resumes.{Resuming, resuming_in}
use Rattle.command_line.specs.Values.{atom_or_default}
use Rattle.command_line.proofs.LeafLemmas.{HaveFineDefaults, NoDefault, all_have, fine_defaults}
use Rattle.command_line.proofs.LeafLemmas.{first_value, is_taken, is_there, none_named}
use Rattle.command_line.proofs.NameLemmas.{IsNamed, all_rules, asks}
use Rattle.command_line.proofs.PieceLemmas.{HasPiece, leaf_of}
use Rattle.command_line.proofs.RowLemmas.{rows_for}

abbrev resume_built : List Rule
resume_built = filled_from 1 (resume_rules ++ help_rule ∷ [])

resume_named : IsNamed (codes "resume") resume_built
unfolding walked walk_fault defaults_fault product all_rules
resume_named words = (refl, refl, (λ fine. rw fine refl), refl)

resume_has : (piece : Piece) → IsResumePiece piece → HasPiece resume_built piece
unfolding resume_rules
resume_has (disk word) plain = (plain, refl, refl)
resume_has (valued name value) (plain, is) = elim is [
  | inl e ↦ subst (λ n. HasPiece resume_built (valued n value)) (sym e)
      (plain, record { dashes = refl; long = refl }, (true, refl, refl))
  | inr e ↦ subst (λ n. HasPiece resume_built (valued n value)) (sym e)
      (plain, record { dashes = refl; long = refl }, (false, refl, refl))
]
resume_has (flag name) is = absurd is

resume_other : (piece : Piece) → IsResumePiece piece →
    bytes_eq (name_of piece) (codes "header") ≡ false
resume_other (disk word) plain = refl
resume_other (valued name value) (plain, is) = elim is [
  | inl e ↦ rw e refl
  | inr e ↦ rw e refl
]
resume_other (flag name) is = absurd is

-- no option has a default of its own
resume_kept : (name : Text) → NoDefault name resume_built
unfolding NoDefault resume_rules
resume_kept name = (inl refl, (inl refl, (inl refl, (inl refl, (inl refl, tt)))))

resume_defaults : HaveFineDefaults resume_built
unfolding HaveFineDefaults resume_rules
resume_defaults = (inl refl, (inl refl, (inl refl, (inl refl, (inl refl, tt)))))

resume_checked : (rows : List Row) → is_given (codes "disk") rows ≡ true →
    is_given (codes "key-file") rows ≡ true →
    check_fault (leaf_of (codes "resume") resume_built) rows false ≡ []
unfolding resume_rules
resume_checked rows has_disk has_key = rw (has_disk, has_key) refl

resume_command : (rows : List Row) (words : Resuming) →
    first_of (codes "disk") rows ≡ Some words.disk →
    first_of (codes "key-file") rows ≡ Some words.key_file →
    atom_or_default (first_of (codes "atom") rows) ≡ Some words.atom →
    first_of (codes "header") rows ≡ None →
    command_in (codes "resume") rows ≡ Some (resumes words)
unfolding command_in resuming_in
resume_command rows words name key atom header = rw (name, key, atom, header) refl

pub resume_taken : TakesResume asked
resume_taken pieces words is =
    let has = all_have IsResumePiece (HasPiece resume_built) pieces resume_has is.known in
    let taken = is_taken (codes "resume") resume_built pieces has is.once
    (fine_defaults resume_built resume_defaults) in
    let rows = fold with_default (rows_for pieces) resume_built in
    let value : (name : Text) → first_of name rows ≡ value_in name pieces =
    λ name. first_value resume_built pieces name (resume_kept name) in
    let name = is_there resume_built pieces (codes "disk") words.disk is.disk_is in
    let key = is_there resume_built pieces (codes "key-file") words.key_file is.key_file_is in
    let header = none_named IsResumePiece (codes "header") pieces resume_other is.known in
    let command = resume_command rows words name.first key.first
    (ap atom_or_default (value (codes "atom")) ∙ is.atom_is)
    (value (codes "header") ∙ header) in
    asks (codes "resume") resume_built (all_spelt pieces) (resumes words) resume_named
    (taken.fine (resume_checked rows name.given key.given))
    (ap (command_in (codes "resume")) taken.rows ∙ command)
