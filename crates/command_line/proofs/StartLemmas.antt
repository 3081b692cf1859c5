-- Plain words of `init` ask for what they say.
use Rattle.std.proofs.Common.{◌≡◌, ◌∙◌, true, false, List, [], ◌∷◌, ◌++◌, inl, inr}
use Rattle.std.proofs.Common.{refl, sym, ap, subst, Option, Some, None, codes}
use Rattle.std.proofs.lemmas.Option.{option_and_then_some}
use Rattle.std.specs.List.{fold}
use Rattle.std.specs.Str.{bytes_eq}
use Rattle.clap.specs.Faults.{check_fault, defaults_fault, walk_fault}
use Rattle.clap.specs.Simple.{filled_from, help_rule}
use Rattle.clap.specs.Takes.{is_given}
use Rattle.clap.specs.Walk.{Row, Rule, Text, first_of, walked, with_default}
use Rattle.command_line.specs.Commands.{asked, command_in, starts}
use Rattle.command_line.specs.Plain.{IsInitPiece, Piece, TakesInit, all_spelt, disk, flag, name_of}
use Rattle.command_line.specs.Plain.{valued, value_in}
use Rattle.command_line.specs.Product.{init_rules, product}
use Rattle.command_line.specs.Segments.{segment_by}
use Rattle.command_line.specs.Starts.{Starting, asks_unbuilt, starting_by}
use Rattle.command_line.specs.Values.{is_true}
use Rattle.command_line.proofs.FormatLemmas.{HasBoth}
use Rattle.command_line.proofs.LeafLemmas.{HasDefault, HaveFineDefaults, NoDefault, all_have}
use Rattle.command_line.proofs.LeafLemmas.{default_value, fine_defaults, first_value, is_taken}
use Rattle.command_line.proofs.LeafLemmas.{is_there, none_named}
use Rattle.command_line.proofs.NameLemmas.{IsNamed, all_rules, asks}
use Rattle.command_line.proofs.PieceLemmas.{HasPiece, leaf_of}
use Rattle.command_line.proofs.RowLemmas.{rows_for}

abbrev init_built : List Rule
init_built = filled_from 1 (init_rules ++ help_rule ∷ [])

init_named : IsNamed (codes "init") init_built
unfolding walked walk_fault defaults_fault product all_rules
init_named words = (refl, refl, (λ fine. rw fine refl), refl)

init_has : (piece : Piece) → IsInitPiece piece → HasPiece init_built piece
unfolding init_rules
init_has (disk word) plain = (plain, refl, refl)
init_has (valued name value) (plain, is) = elim is [
  | inl e ↦ subst (λ n. HasPiece init_built (valued n value)) (sym e)
      (plain, record { dashes = refl; long = refl }, (true, refl, refl))
  | inr (inl e) ↦ subst (λ n. HasPiece init_built (valued n value)) (sym e)
      (plain, record { dashes = refl; long = refl }, (false, refl, refl))
  | inr (inr (inl e)) ↦ subst (λ n. HasPiece init_built (valued n value)) (sym e)
      (plain, record { dashes = refl; long = refl }, (false, refl, refl))
  | inr (inr (inr (inl e))) ↦ subst (λ n. HasPiece init_built (valued n value)) (sym e)
      (plain, record { dashes = refl; long = refl }, (false, refl, refl))
  | inr (inr (inr (inr (inl e)))) ↦ subst (λ n. HasPiece init_built (valued n value)) (sym e)
      (plain, record { dashes = refl; long = refl }, (false, refl, refl))
  | inr (inr (inr (inr (inr (inl e))))) ↦ subst (λ n. HasPiece init_built (valued n value)) (sym e)
      (plain, record { dashes = refl; long = refl }, (false, refl, refl))
  | inr (inr (inr (inr (inr (inr (inl e)))))) ↦
      subst (λ n. HasPiece init_built (valued n value)) (sym e)
      (plain, record { dashes = refl; long = refl }, (false, refl, refl))
  | inr (inr (inr (inr (inr (inr (inr (inl e))))))) ↦
      subst (λ n. HasPiece init_built (valued n value)) (sym e)
      (plain, record { dashes = refl; long = refl }, (false, refl, refl))
  | inr (inr (inr (inr (inr (inr (inr (inr e))))))) ↦
      subst (λ n. HasPiece init_built (valued n value)) (sym e)
      (plain, record { dashes = refl; long = refl }, (false, refl, refl))
]
init_has (flag name) is = subst (λ n. HasPiece init_built (flag n)) (sym is)
    (record { dashes = refl; long = refl }, refl)

-- a name that no piece of `init` has
abbrev IsUnnamed : Text → Type 0
IsUnnamed name = (bytes_eq (codes "disk") name ≡ false) × (bytes_eq (codes "key-file") name ≡ false)
    × (bytes_eq (codes "atom") name ≡ false) × (bytes_eq (codes "cipher") name ≡ false)
    × (bytes_eq (codes "key-size") name ≡ false) × (bytes_eq (codes "sector-size") name ≡ false)
    × (bytes_eq (codes "iterations") name ≡ false) × (bytes_eq (codes "resilience") name ≡ false)
    × (bytes_eq (codes "direction") name ≡ false) × (bytes_eq (codes "hotzone-size") name ≡ false)
    × (bytes_eq (codes "drop-keyslots") name ≡ false)

init_other : (name : Text) → IsUnnamed name → (piece : Piece) → IsInitPiece piece →
    bytes_eq (name_of piece) name ≡ false
init_other name (a, b, c, d, e, f, g, h, i, j, k) (disk word) plain = a
init_other name (a, b, c, d, e, f, g, h, i, j, k) (valued named value) (plain, is) = elim is [
  | inl same ↦ rw same b
  | inr (inl same) ↦ rw same c
  | inr (inr (inl same)) ↦ rw same d
  | inr (inr (inr (inl same))) ↦ rw same e
  | inr (inr (inr (inr (inl same)))) ↦ rw same f
  | inr (inr (inr (inr (inr (inl same))))) ↦ rw same g
  | inr (inr (inr (inr (inr (inr (inl same)))))) ↦ rw same h
  | inr (inr (inr (inr (inr (inr (inr (inl same))))))) ↦ rw same i
  | inr (inr (inr (inr (inr (inr (inr (inr same))))))) ↦ rw same j
]
init_other name (a, b, c, d, e, f, g, h, i, j, k) (flag named) is = rw is k

-- options that have no default of their own
init_kept : (name : Text) → (bytes_eq (codes "encrypt") name ≡ false)
    × (bytes_eq (codes "decrypt") name ≡ false)
    × (bytes_eq (codes "drop-keyslots") name ≡ false) → NoDefault name init_built
unfolding NoDefault init_rules
init_kept name (encrypt, decrypt, others) = (
  inl refl,
  (
    inl refl,
    (
      inl refl,
      (
        inl refl,
        (
          inl refl,
          (
            inl refl,
            (
              inl refl,
              (
                inl refl,
                (
                  inl refl,
                  (
                    inl refl,
                    (
                      inl refl,
                      (
                        inl refl,
                        (
                          inl refl,
                          (inr encrypt, (inr decrypt, (inr others, (inl refl, tt)))),
                        ),
                      ),
                    ),
                  ),
                ),
              ),
            ),
          ),
        ),
      ),
    ),
  ),
)

init_defaults : HaveFineDefaults init_built
unfolding HaveFineDefaults init_rules
init_defaults = (
  inl refl,
  (
    inl refl,
    (
      inl refl,
      (
        inl refl,
        (
          inl refl,
          (
            inl refl,
            (
              inl refl,
              (
                inl refl,
                (
                  inl refl,
                  (
                    inl refl,
                    (
                      inl refl,
                      (
                        inl refl,
                        (
                          inl refl,
                          (inr refl, (inr refl, (inr refl, (inl refl, tt)))),
                        ),
                      ),
                    ),
                  ),
                ),
              ),
            ),
          ),
        ),
      ),
    ),
  ),
)

-- both flags are unset unless they are given
encrypt_default : HasDefault (codes "encrypt") (codes "false") init_built
unfolding HasDefault init_rules
encrypt_default = inr (
  inl refl,
  inr (
    inl refl,
    inr (
      inl refl,
      inr (
        inl refl,
        inr (
          inl refl,
          inr (
            inl refl,
            inr (
              inl refl,
              inr (
                inl refl,
                inr (
                  inl refl,
                  inr (
                    inl refl,
                    inr (
                      inl refl,
                      inr (inl refl, inr (inl refl, inl (refl, refl))),
                    ),
                  ),
                ),
              ),
            ),
          ),
        ),
      ),
    ),
  ),
)

decrypt_default : HasDefault (codes "decrypt") (codes "false") init_built
unfolding HasDefault init_rules
decrypt_default = inr (
  inl refl,
  inr (
    inl refl,
    inr (
      inl refl,
      inr (
        inl refl,
        inr (
          inl refl,
          inr (
            inl refl,
            inr (
              inl refl,
              inr (
                inl refl,
                inr (
                  inl refl,
                  inr (
                    inl refl,
                    inr (
                      inl refl,
                      inr (inl refl, inr (inl refl, inr (inr refl, inl (refl, refl)))),
                    ),
                  ),
                ),
              ),
            ),
          ),
        ),
      ),
    ),
  ),
)

drop_default : HasDefault (codes "drop-keyslots") (codes "false") init_built
unfolding HasDefault init_rules
drop_default = inr (
  inl refl,
  inr (
    inl refl,
    inr (
      inl refl,
      inr (
        inl refl,
        inr (
          inl refl,
          inr (
            inl refl,
            inr (
              inl refl,
              inr (
                inl refl,
                inr (
                  inl refl,
                  inr (
                    inl refl,
                    inr (
                      inl refl,
                      inr (
                        inl refl,
                        inr (
                          inl refl,
                          inr (inr refl, inr (inr refl, inl (refl, refl))),
                        ),
                      ),
                    ),
                  ),
                ),
              ),
            ),
          ),
        ),
      ),
    ),
  ),
)

-- the flag is set where it is given
drop_by : (pieces : List Piece) (set : Option Text) →
    value_in (codes "drop-keyslots") pieces ≡ set →
    is_true (first_of (codes "drop-keyslots") (fold with_default (rows_for pieces) init_built))
    ≡ is_true (value_in (codes "drop-keyslots") pieces)
drop_by pieces (Some word) set =
    ap is_true ((is_there init_built pieces (codes "drop-keyslots") word set).first ∙ sym set)
drop_by pieces None set =
    ap is_true (default_value init_built pieces (codes "drop-keyslots") (codes "false")
    drop_default set)
    ∙ ap is_true (sym set)

init_checked : (rows : List Row) → is_given (codes "disk") rows ≡ true →
    is_given (codes "key-file") rows ≡ true →
    check_fault (leaf_of (codes "init") init_built) rows false ≡ []
unfolding init_rules
init_checked rows has_disk has_key = rw (has_disk, has_key) refl

none_unbuilt : (rows : List Row) → first_of (codes "header") rows ≡ None →
    first_of (codes "metadata-size") rows ≡ None → first_of (codes "shift") rows ≡ None →
    first_of (codes "encrypt") rows ≡ Some (codes "false") →
    first_of (codes "decrypt") rows ≡ Some (codes "false") → asks_unbuilt rows ≡ false
unfolding asks_unbuilt
none_unbuilt rows header size shift encrypt decrypt =
    rw (header, size, shift, encrypt, decrypt) refl

init_command : (rows : List Row) (words : Starting) → asks_unbuilt rows ≡ false →
    starting_by (λ name. first_of name rows) ≡ Some words →
    command_in (codes "init") rows ≡ Some (starts words)
unfolding command_in
init_command rows words built is = rw (built, is) refl

has_both : (value : Text → Option Text) (words : Starting) →
    starting_by value ≡ Some words → HasBoth value
unfolding starting_by
has_both value words is =
    option_and_then_some _ (value (codes "disk")) words is (λ disk disk_is rest.
    option_and_then_some _ (value (codes "key-file")) words rest (λ key_file key_file_is others.
    record {
      disk = disk;
      disk_is = disk_is;
      key_file = key_file;
      key_file_is = key_file_is;
    }))

-- only these values count
same_start : (f g : Text → Option Text) → f (codes "disk") ≡ g (codes "disk") →
    f (codes "key-file") ≡ g (codes "key-file") → f (codes "atom") ≡ g (codes "atom") →
    f (codes "cipher") ≡ g (codes "cipher") → f (codes "key-size") ≡ g (codes "key-size") →
    f (codes "sector-size") ≡ g (codes "sector-size") →
    f (codes "iterations") ≡ g (codes "iterations") →
    f (codes "resilience") ≡ g (codes "resilience") →
    f (codes "direction") ≡ g (codes "direction") →
    f (codes "hotzone-size") ≡ g (codes "hotzone-size") →
    is_true (f (codes "drop-keyslots")) ≡ is_true (g (codes "drop-keyslots")) →
    starting_by f ≡ starting_by g
unfolding starting_by segment_by
same_start f g a b c d e h i j k l m = rw (a, b, c, d, e, h, i, j, k, l, m) refl

pub init_taken : TakesInit asked
init_taken pieces words is =
    let has = all_have IsInitPiece (HasPiece init_built) pieces init_has is.known in
    let taken = is_taken (codes "init") init_built pieces has is.once
    (fine_defaults init_built init_defaults) in
    let rows = fold with_default (rows_for pieces) init_built in
    let value : (name : Text) → (bytes_eq (codes "encrypt") name ≡ false)
    × (bytes_eq (codes "decrypt") name ≡ false)
    × (bytes_eq (codes "drop-keyslots") name ≡ false) →
    first_of name rows ≡ value_in name pieces =
    λ name apart. first_value init_built pieces name (init_kept name apart) in
    let unnamed : (name : Text) → IsUnnamed name → value_in name pieces ≡ None =
    λ name apart. none_named IsInitPiece name pieces (init_other name apart) is.known in
    let both = has_both (λ name. value_in name pieces) words is.values_are in
    let name = is_there init_built pieces (codes "disk") both.disk both.disk_is in
    let key = is_there init_built pieces (codes "key-file") both.key_file both.key_file_is in
    let built = none_unbuilt rows
    (value (codes "header") (refl, refl, refl) ∙ unnamed (codes "header")
    (refl, refl, refl, refl, refl, refl, refl, refl, refl, refl, refl))
    (value (codes "metadata-size") (refl, refl, refl) ∙ unnamed (codes "metadata-size")
    (refl, refl, refl, refl, refl, refl, refl, refl, refl, refl, refl))
    (value (codes "shift") (refl, refl, refl) ∙ unnamed (codes "shift")
    (refl, refl, refl, refl, refl, refl, refl, refl, refl, refl, refl))
    (default_value init_built pieces (codes "encrypt") (codes "false") encrypt_default
    (unnamed (codes "encrypt")
    (refl, refl, refl, refl, refl, refl, refl, refl, refl, refl, refl)))
    (default_value init_built pieces (codes "decrypt") (codes "false") decrypt_default
    (unnamed (codes "decrypt")
    (refl, refl, refl, refl, refl, refl, refl, refl, refl, refl, refl))) in
    let same = same_start (λ name. first_of name rows) (λ name. value_in name pieces)
    (value (codes "disk") (refl, refl, refl)) (value (codes "key-file") (refl, refl, refl))
    (value (codes "atom") (refl, refl, refl)) (value (codes "cipher") (refl, refl, refl))
    (value (codes "key-size") (refl, refl, refl)) (value (codes "sector-size") (refl, refl, refl))
    (value (codes "iterations") (refl, refl, refl)) (value (codes "resilience") (refl, refl, refl))
    (value (codes "direction") (refl, refl, refl)) (value (codes "hotzone-size") (refl, refl, refl))
    (drop_by pieces _ refl) in
    asks (codes "init") init_built (all_spelt pieces) (starts words) init_named
    (taken.fine (init_checked rows name.given key.given))
    (ap (command_in (codes "init")) taken.rows
    ∙ init_command rows words built (same ∙ is.values_are))
