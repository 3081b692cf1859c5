-- Plain words of `demo` ask for what they say.
use Rattle.std.proofs.Common.{◌≡◌, ◌∙◌, ◌-◌, ◌^◌, ℕ, true, false, List, [], ◌∷◌, ◌++◌, inl, inr}
use Rattle.std.proofs.Common.{refl, sym, ap, subst, Option, Some, None, codes}
use Rattle.std.proofs.lemmas.Option.{option_and_then_some}
use Rattle.std.specs.List.{fold}
use Rattle.clap.specs.Faults.{check_fault, defaults_fault, walk_fault}
use Rattle.clap.specs.Simple.{filled_from, help_rule}
use Rattle.clap.specs.Takes.{is_given}
use Rattle.clap.specs.Walk.{Row, Rule, Text, first_of, walked, with_default}
use Rattle.command_line.specs.Commands.{asked, command_in, demonstrates}
use Rattle.command_line.specs.Demonstrations.{Demonstrating, demonstrating_by}
use Rattle.command_line.specs.Plain.{IsDemoPiece, Piece, TakesDemo, all_spelt, disk, flag}
use Rattle.command_line.specs.Plain.{valued, value_in}
use Rattle.command_line.specs.Product.{demo_rules, product}
use Rattle.command_line.specs.Values.{number_in}
use Rattle.command_line.proofs.LeafLemmas.{HaveFineDefaults, NoDefault, all_have, fine_defaults}
use Rattle.command_line.proofs.LeafLemmas.{first_value, is_taken, is_there}
use Rattle.command_line.proofs.NameLemmas.{IsNamed, all_rules, asks}
use Rattle.command_line.proofs.PieceLemmas.{HasPiece, leaf_of}
use Rattle.command_line.proofs.RowLemmas.{rows_for}
use std.Path.{fun_ext}

abbrev demo_built : List Rule
demo_built = filled_from 1 (demo_rules ++ help_rule ∷ [])

demo_named : IsNamed (codes "demo") demo_built
unfolding walked walk_fault defaults_fault product all_rules
demo_named words = (refl, refl, (λ fine. rw fine refl), refl)

demo_has : (piece : Piece) → IsDemoPiece piece → HasPiece demo_built piece
unfolding demo_rules
demo_has (disk word) is = absurd is
demo_has (valued name value) (plain, is) = elim is [
  | inl e ↦ subst (λ n. HasPiece demo_built (valued n value)) (sym e)
      (plain, record { dashes = refl; long = refl }, (true, refl, refl))
  | inr (inl e) ↦ subst (λ n. HasPiece demo_built (valued n value)) (sym e)
      (plain, record { dashes = refl; long = refl }, (true, refl, refl))
  | inr (inr e) ↦ subst (λ n. HasPiece demo_built (valued n value)) (sym e)
      (plain, record { dashes = refl; long = refl }, (true, refl, refl))
]
demo_has (flag name) is = absurd is

-- no option has a default of its own
demo_kept : (name : Text) → NoDefault name demo_built
unfolding NoDefault demo_rules
demo_kept name = (inl refl, (inl refl, (inl refl, (inl refl, tt))))

demo_defaults : HaveFineDefaults demo_built
unfolding HaveFineDefaults demo_rules
demo_defaults = (inl refl, (inl refl, (inl refl, (inl refl, tt))))

demo_checked : (rows : List Row) → is_given (codes "seed") rows ≡ true →
    is_given (codes "blocks") rows ≡ true → is_given (codes "workers") rows ≡ true →
    check_fault (leaf_of (codes "demo") demo_built) rows false ≡ []
unfolding demo_rules
demo_checked rows has_seed has_blocks has_workers = rw (has_seed, has_blocks, has_workers) refl

demo_command : (rows : List Row) (words : Demonstrating) →
    demonstrating_by (λ name. first_of name rows) ≡ Some words →
    command_in (codes "demo") rows ≡ Some (demonstrates words)
unfolding command_in
demo_command rows words is = rw is refl

-- the word of a number that must be there
record HasWord (word : Option Text) : Type 0 where
  text : Text
  is : word ≡ Some text

has_word : (least most : ℕ) (word : Option Text) (n : ℕ) → number_in least most word ≡ Some n →
    HasWord word
unfolding number_in
has_word least most None n is = absurd (cc)
has_word least most (Some text) n is = record { text = text; is = refl }

-- the three options are there
record HasAll (value : Text → Option Text) : Type 0 where
  seed : HasWord (value (codes "seed"))
  blocks : HasWord (value (codes "blocks"))
  workers : HasWord (value (codes "workers"))

has_all : (value : Text → Option Text) (words : Demonstrating) →
    demonstrating_by value ≡ Some words → HasAll value
unfolding demonstrating_by
has_all value words is =
    option_and_then_some _ (number_in 0 (2 ^ 64 - 1) (value (codes "seed"))) words is
    (λ seed seed_is rest.
    option_and_then_some _ (number_in 1 16384 (value (codes "blocks"))) words rest
    (λ blocks blocks_are others.
    option_and_then_some _ (number_in 1 16 (value (codes "workers"))) words others
    (λ workers workers_are last.
    record {
      seed = has_word _ _ _ _ seed_is;
      blocks = has_word _ _ _ _ blocks_are;
      workers = has_word _ _ _ _ workers_are;
    })))

pub demo_taken : TakesDemo asked
demo_taken pieces words is =
    let has = all_have IsDemoPiece (HasPiece demo_built) pieces demo_has is.known in
    let taken = is_taken (codes "demo") demo_built pieces has is.once
    (fine_defaults demo_built demo_defaults) in
    let rows = fold with_default (rows_for pieces) demo_built in
    let values : (name : Text) → first_of name rows ≡ value_in name pieces =
    λ name. first_value demo_built pieces name (demo_kept name) in
    let all = has_all (λ name. value_in name pieces) words is.values_are in
    let seed = is_there demo_built pieces (codes "seed") all.seed.text all.seed.is in
    let blocks = is_there demo_built pieces (codes "blocks") all.blocks.text all.blocks.is in
    let workers = is_there demo_built pieces (codes "workers") all.workers.text all.workers.is in
    let command = demo_command rows words
    (ap demonstrating_by (fun_ext values) ∙ is.values_are) in
    asks (codes "demo") demo_built (all_spelt pieces) (demonstrates words) demo_named
    (taken.fine (demo_checked rows seed.given blocks.given workers.given))
    (ap (command_in (codes "demo")) taken.rows ∙ command)
