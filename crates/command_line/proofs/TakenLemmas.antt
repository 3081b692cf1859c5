-- Plain words ask for what they say.
use Rattle.std.proofs.Common.{◌≡◌, ◌∙◌, Bool, true, false, not, List, [], ◌∷◌, ◌++◌, inl, inr}
use Rattle.std.proofs.Common.{refl, sym, ap, subst, Option, Some, None, codes}
use Rattle.std.specs.List.{fold}
use Rattle.std.specs.Option.{option_map_or}
use Rattle.std.specs.Str.{bytes_eq}
use Rattle.clap.specs.Faults.{check_fault, defaults_fault}
use Rattle.clap.specs.Faults.{walk_fault}
use Rattle.clap.specs.Simple.{filled_from, help_rule}
use Rattle.clap.specs.Walk.{Row, Rule, Text, first_of}
use Rattle.clap.specs.Takes.{is_given}
use Rattle.clap.specs.Walk.{walked, with_default}
use Rattle.command_line.specs.Commands.{Serving, Showing, asked, command_in, serves}
use Rattle.command_line.specs.Commands.{key_file_in, serving_in}
use Rattle.command_line.specs.Commands.{showing_in, shows}
use Rattle.command_line.specs.Plain.{IsLedOn, IsServePiece, IsServed}
use Rattle.command_line.specs.Plain.{IsStatusPiece, Piece, all_spelt, disk, flag, valued, name_of}
use Rattle.command_line.specs.Plain.{TakesServe, TakesStatus, value_in}
use Rattle.command_line.specs.Product.{product}
use Rattle.command_line.specs.Product.{serve_rules, status_rules}
use Rattle.command_line.specs.Values.{atom_or_default, is_set, is_true, number_or, number_or_none}
use Rattle.command_line.proofs.LeafLemmas.{HasDefault, HaveFineDefaults, NoDefault, all_have}
use Rattle.command_line.proofs.LeafLemmas.{default_value, fine_defaults, first_value, is_taken}
use Rattle.command_line.proofs.LeafLemmas.{is_there, none_named}
use Rattle.command_line.proofs.NameLemmas.{IsNamed, all_rules, asks}
use Rattle.command_line.proofs.PieceLemmas.{HasPiece, leaf_of}
use Rattle.command_line.proofs.RowLemmas.{rows_for}

-- ---- `serve`
abbrev serve_built : List Rule
serve_built = filled_from 1 (serve_rules ++ help_rule ∷ [])

serve_named : IsNamed (codes "serve") serve_built
unfolding walked walk_fault defaults_fault product all_rules
serve_named words = (refl, refl, (λ fine. rw fine refl), refl)

serve_has : (piece : Piece) → IsServePiece piece → HasPiece serve_built piece
unfolding serve_rules
serve_has (disk word) plain = (plain, refl, refl)
serve_has (valued name value) (plain, is) = elim is [
  | inl e ↦ subst (λ n. HasPiece serve_built (valued n value)) (sym e)
      (plain, record { dashes = refl; long = refl }, (false, refl, refl))
  | inr (inl e) ↦ subst (λ n. HasPiece serve_built (valued n value)) (sym e)
      (plain, record { dashes = refl; long = refl }, (false, refl, refl))
  | inr (inr (inl e)) ↦ subst (λ n. HasPiece serve_built (valued n value)) (sym e)
      (plain, record { dashes = refl; long = refl }, (true, refl, refl))
  | inr (inr (inr (inl e))) ↦ subst (λ n. HasPiece serve_built (valued n value)) (sym e)
      (plain, record { dashes = refl; long = refl }, (false, refl, refl))
  | inr (inr (inr (inr (inl e)))) ↦ subst (λ n. HasPiece serve_built (valued n value)) (sym e)
      (plain, record { dashes = refl; long = refl }, (false, refl, refl))
  | inr (inr (inr (inr (inr e)))) ↦ subst (λ n. HasPiece serve_built (valued n value)) (sym e)
      (plain, record { dashes = refl; long = refl }, (false, refl, refl))
]
serve_has (flag name) is = elim is [
  | inl e ↦ subst (λ n. HasPiece serve_built (flag n)) (sym e)
      (record { dashes = refl; long = refl }, refl)
  | inr (inl e) ↦ subst (λ n. HasPiece serve_built (flag n)) (sym e)
      (record { dashes = refl; long = refl }, refl)
  | inr (inr e) ↦ subst (λ n. HasPiece serve_built (flag n)) (sym e)
      (record { dashes = refl; long = refl }, refl)
]

serve_other : (name : Text) → (bytes_eq (codes "disk") name ≡ false)
    × (bytes_eq (codes "atom") name ≡ false) × (bytes_eq (codes "listen") name ≡ false)
    × (bytes_eq (codes "workers") name ≡ false) × (bytes_eq (codes "sessions") name ≡ false)
    × (bytes_eq (codes "plain") name ≡ false) × (bytes_eq (codes "no-worker") name ≡ false)
    × (bytes_eq (codes "key-file") name ≡ false) × (bytes_eq (codes "idle-timeout") name ≡ false)
    × (bytes_eq (codes "verbose") name ≡ false) →
    (piece : Piece) → IsServePiece piece → bytes_eq (name_of piece) name ≡ false
serve_other name (a, b, c, d, e, f, g, h, i, j) (disk word) plain = a
serve_other name (a, b, c, d, e, f, g, h, i, j) (valued named value) (plain, is) = elim is [
  | inl same ↦ rw same h
  | inr (inl same) ↦ rw same b
  | inr (inr (inl same)) ↦ rw same c
  | inr (inr (inr (inl same))) ↦ rw same d
  | inr (inr (inr (inr (inl same)))) ↦ rw same e
  | inr (inr (inr (inr (inr same)))) ↦ rw same i
]
serve_other name (a, b, c, d, e, f, g, h, i, j) (flag named) is = elim is [
  | inl same ↦ rw same f
  | inr (inl same) ↦ rw same g
  | inr (inr same) ↦ rw same j
]

serve_defaults : HaveFineDefaults serve_built
unfolding HaveFineDefaults serve_rules
serve_defaults = (
  inl refl,
  (
    inl refl,
    (
      inl refl,
      (
        inl refl,
        (
          inr refl,
          (
            inl refl,
            (
              inl refl,
              (
                inl refl,
                (inr refl, (inl refl, (inr refl, (inl refl, tt)))),
              ),
            ),
          ),
        ),
      ),
    ),
  ),
)

serve_checked : (rows : List Row) → is_given (codes "disk") rows ≡ true →
    is_given (codes "listen") rows ≡ true →
    check_fault (leaf_of (codes "serve") serve_built) rows false ≡ []
unfolding serve_rules
serve_checked rows has_disk has_address = rw (has_disk, has_address) refl

serve_command : (rows : List Row) (words : Serving) →
    first_of (codes "disk") rows ≡ Some words.disk →
    atom_or_default (first_of (codes "atom") rows) ≡ Some words.atom →
    first_of (codes "listen") rows ≡ Some words.address →
    number_or 4 1 16 (first_of (codes "workers") rows) ≡ Some words.workers →
    number_or 4294967295 1 4294967295 (first_of (codes "sessions") rows) ≡ Some words.sessions →
    key_file_in rows ≡ Some words.key_file →
    number_or_none 1 86400 (first_of (codes "idle-timeout") rows) ≡ Some words.idle_timeout →
    not (is_set (codes "no-worker") rows) ≡ words.converts →
    is_set (codes "verbose") rows ≡ words.verbose →
    command_in (codes "serve") rows ≡ Some (serves words)
unfolding command_in serving_in
serve_command rows words name atom address workers sessions key_file timeout converts verbose =
    rw (name, atom, address, workers, sessions, key_file, timeout, converts, verbose) refl

-- a disk that is served plain, and one whose volume is
no_key_file : (rows : List Row) → first_of (codes "header") rows ≡ None →
    first_of (codes "plain") rows ≡ Some (codes "true") →
    first_of (codes "key-file") rows ≡ None → key_file_in rows ≡ Some None
unfolding key_file_in
no_key_file rows header plain file = rw (header, plain, file) refl

one_key_file : (rows : List Row) (word : Text) → first_of (codes "header") rows ≡ None →
    first_of (codes "plain") rows ≡ Some (codes "false") →
    first_of (codes "key-file") rows ≡ Some word → key_file_in rows ≡ Some (Some word)
unfolding key_file_in
one_key_file rows word header plain file = rw (header, plain, file) refl

plain_default : HasDefault (codes "plain") (codes "false") serve_built
unfolding HasDefault serve_rules
plain_default =
    inr (inl refl, inr (inl refl, inr (inl refl, inr (inl refl, inl (refl, refl)))))

served_by : (pieces : List Piece) (rows : List Row) (key_file plain file : Option Text) →
    rows ≡ fold with_default (rows_for pieces) serve_built →
    first_of (codes "header") rows ≡ None →
    first_of (codes "key-file") rows ≡ value_in (codes "key-file") pieces →
    value_in (codes "plain") pieces ≡ plain → value_in (codes "key-file") pieces ≡ file →
    IsServed plain file key_file → key_file_in rows ≡ Some key_file
served_by pieces rows key_file (Some set) None are header given plain file (is, none) =
    no_key_file rows header
    (ap (first_of (codes "plain")) are
    ∙ (is_there serve_built pieces (codes "plain") set plain).first ∙ ap Some is) (given ∙ file)
    ∙ ap Some (sym none)
served_by pieces rows key_file None (Some word) are header given plain file one =
    one_key_file rows word header
    (ap (first_of (codes "plain")) are
    ∙ default_value serve_built pieces (codes "plain") (codes "false") plain_default plain)
    (given ∙ file)
    ∙ ap Some (sym one)
served_by pieces rows key_file None None are header given plain file none = absurd none
served_by pieces rows key_file (Some set) (Some word) are header given plain file none =
    absurd none

-- a conversion that is led on, and one that isn't
worker_default : HasDefault (codes "no-worker") (codes "false") serve_built
unfolding HasDefault serve_rules
worker_default = inr (
  inl refl,
  inr (
    inl refl,
    inr (
      inl refl,
      inr (
        inl refl,
        inr (
          inr refl,
          inr (inl refl, inr (inl refl, inr (inl refl, inl (refl, refl)))),
        ),
      ),
    ),
  ),
)

led_on_by : (pieces : List Piece) (rows : List Row) (converts : Bool) (set : Option Text) →
    rows ≡ fold with_default (rows_for pieces) serve_built →
    value_in (codes "no-worker") pieces ≡ set → IsLedOn set converts →
    not (is_set (codes "no-worker") rows) ≡ converts
led_on_by pieces rows converts (Some word) are set (is, off) =
    ap (λ found. not (option_map_or (λ w. bytes_eq w (codes "true")) found false))
    (ap (first_of (codes "no-worker")) are
    ∙ (is_there serve_built pieces (codes "no-worker") word set).first ∙ ap Some is)
    ∙ sym off
led_on_by pieces rows converts None are set on =
    ap (λ found. not (option_map_or (λ w. bytes_eq w (codes "true")) found false))
    (ap (first_of (codes "no-worker")) are
    ∙ default_value serve_built pieces (codes "no-worker") (codes "false") worker_default set)
    ∙ sym on

-- the flag is set where it is given
verbose_default : HasDefault (codes "verbose") (codes "false") serve_built
unfolding HasDefault serve_rules
verbose_default = inr (
  inl refl,
  inr (
    inl refl,
    inr (
      inl refl,
      inr (
        inl refl,
        inr (
          inr refl,
          inr (
            inl refl,
            inr (
              inl refl,
              inr (inl refl, inr (inr refl, inr (inl refl, inl (refl, refl)))),
            ),
          ),
        ),
      ),
    ),
  ),
)

verbose_by : (pieces : List Piece) (set : Option Text) →
    value_in (codes "verbose") pieces ≡ set →
    is_set (codes "verbose") (fold with_default (rows_for pieces) serve_built)
    ≡ is_true (value_in (codes "verbose") pieces)
verbose_by pieces (Some word) set =
    ap is_true ((is_there serve_built pieces (codes "verbose") word set).first ∙ sym set)
verbose_by pieces None set =
    ap is_true (default_value serve_built pieces (codes "verbose") (codes "false")
    verbose_default set)
    ∙ ap is_true (sym set)

-- options that have no default of their own
serve_kept : (name : Text) → (bytes_eq (codes "plain") name ≡ false)
    × (bytes_eq (codes "no-worker") name ≡ false) × (bytes_eq (codes "verbose") name ≡ false) →
    NoDefault name serve_built
unfolding NoDefault serve_rules
serve_kept name (plain, worker, verbose) = (
  inl refl,
  (
    inl refl,
    (
      inl refl,
      (
        inl refl,
        (
          inr plain,
          (
            inl refl,
            (
              inl refl,
              (
                inl refl,
                (inr worker, (inl refl, (inr verbose, (inl refl, tt)))),
              ),
            ),
          ),
        ),
      ),
    ),
  ),
)

pub serve_taken : TakesServe asked
serve_taken pieces words is =
    let has = all_have IsServePiece (HasPiece serve_built) pieces serve_has is.known in
    let taken = is_taken (codes "serve") serve_built pieces has is.once
    (fine_defaults serve_built serve_defaults) in
    let value : (name : Text) → (bytes_eq (codes "plain") name ≡ false)
    × (bytes_eq (codes "no-worker") name ≡ false) × (bytes_eq (codes "verbose") name ≡ false) →
    first_of name (fold with_default (rows_for pieces) serve_built) ≡ value_in name pieces =
    λ name apart. first_value serve_built pieces name (serve_kept name apart) in
    let name = is_there serve_built pieces (codes "disk") words.disk is.disk_is in
    let address = is_there serve_built pieces (codes "listen") words.address is.address_is in
    let header = none_named IsServePiece (codes "header") pieces
    (serve_other (codes "header") (refl, refl, refl, refl, refl, refl, refl, refl, refl, refl)) is.known in
    let rows = fold with_default (rows_for pieces) serve_built in
    let command = serve_command rows words name.first
    (ap atom_or_default (value (codes "atom") (refl, refl, refl)) ∙ is.atom_is) address.first
    (ap (number_or 4 1 16) (value (codes "workers") (refl, refl, refl)) ∙ is.workers_are)
    (ap (number_or 4294967295 1 4294967295) (value (codes "sessions") (refl, refl, refl)) ∙ is.sessions_are)
    (served_by pieces rows words.key_file _ _ refl
    (value (codes "header") (refl, refl, refl) ∙ header) (value (codes "key-file") (refl, refl, refl)) refl
    refl is.served_is)
    (ap (number_or_none 1 86400) (value (codes "idle-timeout") (refl, refl, refl)) ∙ is.timeout_is)
    (led_on_by pieces rows words.converts _ refl refl is.led_on_is)
    (verbose_by pieces _ refl ∙ is.verbose_is) in
    asks (codes "serve") serve_built (all_spelt pieces) (serves words) serve_named
    (taken.fine (serve_checked rows name.given address.given))
    (ap (command_in (codes "serve")) taken.rows ∙ command)

-- ---- `status`
abbrev status_built : List Rule
status_built = filled_from 1 (status_rules ++ help_rule ∷ [])

status_named : IsNamed (codes "status") status_built
unfolding walked walk_fault defaults_fault product all_rules
status_named words = (refl, refl, (λ fine. rw fine refl), refl)

status_has : (piece : Piece) → IsStatusPiece piece → HasPiece status_built piece
unfolding status_rules
status_has (disk word) plain = (plain, refl, refl)
status_has (valued name value) (plain, is) =
    subst (λ n. HasPiece status_built (valued n value)) (sym is)
    (plain, record { dashes = refl; long = refl }, (false, refl, refl))
status_has (flag name) is = absurd is

status_other : (piece : Piece) → IsStatusPiece piece →
    bytes_eq (name_of piece) (codes "header") ≡ false
status_other (disk word) plain = refl
status_other (valued name value) (plain, is) = rw is refl
status_other (flag name) is = absurd is

status_defaults : HaveFineDefaults status_built
unfolding HaveFineDefaults status_rules
status_defaults = (inl refl, (inl refl, (inl refl, (inl refl, tt))))

status_kept : (name : Text) → NoDefault name status_built
unfolding NoDefault status_rules
status_kept name = (inl refl, (inl refl, (inl refl, (inl refl, tt))))

status_checked : (rows : List Row) → is_given (codes "disk") rows ≡ true →
    check_fault (leaf_of (codes "status") status_built) rows false ≡ []
unfolding status_rules
status_checked rows has_disk = rw has_disk refl

status_command : (rows : List Row) (words : Showing) →
    first_of (codes "disk") rows ≡ Some words.disk →
    atom_or_default (first_of (codes "atom") rows) ≡ Some words.atom →
    first_of (codes "header") rows ≡ None →
    command_in (codes "status") rows ≡ Some (shows words)
unfolding command_in showing_in
status_command rows words name atom header = rw (name, atom, header) refl

pub status_taken : TakesStatus asked
status_taken pieces words is =
    let has = all_have IsStatusPiece (HasPiece status_built) pieces status_has is.known in
    let taken = is_taken (codes "status") status_built pieces has is.once
    (fine_defaults status_built status_defaults) in
    let name = is_there status_built pieces (codes "disk") words.disk is.disk_is in
    let header = none_named IsStatusPiece (codes "header") pieces status_other is.known in
    let rows = fold with_default (rows_for pieces) status_built in
    let atom = first_value status_built pieces (codes "atom") (status_kept (codes "atom")) in
    let command = status_command rows words name.first (ap atom_or_default atom ∙ is.atom_is)
    (first_value status_built pieces (codes "header") (status_kept (codes "header")) ∙ header) in
    asks (codes "status") status_built (all_spelt pieces) (shows words) status_named
    (taken.fine (status_checked rows name.given))
    (ap (command_in (codes "status")) taken.rows ∙ command)
