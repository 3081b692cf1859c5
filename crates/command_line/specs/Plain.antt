-- Plain words: a command's disk and its options, each in words of its own.
use Rattle.std.specs.Prelude.{◌≡◌, ◌≢◌, ◌⊎◌, Bool, true, false, List, [], ◌∷◌, ◌++◌, codes, find}
use Rattle.std.specs.Prelude.{Option, Some, None, option_map}
use Rattle.std.specs.List.{list_any}
use Rattle.std.specs.Str.{bytes_eq}
use Rattle.clap.specs.Walk.{Text}
use Rattle.command_line.specs.Commands.{Asked, Serving, Showing, demonstrates, formats, resumes}
use Rattle.command_line.specs.Commands.{serves, shows, starts}
use Rattle.command_line.specs.Demonstrations.{Demonstrating, demonstrating_by}
use Rattle.command_line.specs.Formats.{Formatting, formatting_by}
use Rattle.command_line.specs.Resumes.{Resuming}
use Rattle.command_line.specs.Starts.{Starting, starting_by}
use Rattle.command_line.specs.Values.{atom_or_default, is_true, number_or, number_or_none}

-- a word that can be no option: it isn't empty, and doesn't begin with a hyphen (45)
abbrev pub IsPlain : Text → Type 0
IsPlain [] = ⊥
IsPlain (byte ∷ rest) = byte ≢ 45

-- what may stand behind a command's name: its disk, an option with its value, or one without
pub data Piece : Type 0 where
  disk : Text → Piece
  valued : Text → Text → Piece
  flag : Text → Piece

abbrev pub name_of : Piece → Text
name_of (disk word) = codes "disk"
name_of (valued name value) = name
name_of (flag name) = name

-- the value of a piece; an option without one is `true`
abbrev pub value_of : Piece → Text
value_of (disk word) = word
value_of (valued name value) = value
value_of (flag name) = codes "true"

-- the words of a piece: `DISK`, `--NAME VALUE` or `--NAME`
abbrev pub spelt : Piece → List Text
spelt (disk word) = word ∷ []
spelt (valued name value) = (45 ∷ 45 ∷ name) ∷ value ∷ []
spelt (flag name) = (45 ∷ 45 ∷ name) ∷ []

unfoldable pub all_spelt : List Piece → List Text
all_spelt [] = []
all_spelt (piece ∷ pieces) = spelt piece ++ all_spelt pieces

-- the value that stands behind a name, if one does
abbrev pub value_in : Text → List Piece → Option Text
value_in name pieces =
    option_map value_of (find (λ piece. bytes_eq (name_of piece) name) pieces)

-- no name stands twice
unfoldable pub AreOnce : List Piece → Type 0
AreOnce [] = Unit {0}
AreOnce (piece ∷ pieces) =
    (list_any (λ other. bytes_eq (name_of piece) (name_of other)) pieces ≡ false) × AreOnce pieces

-- what of these words a `format` may have, an `init`, a `serve`, a `resume`, a `status`, and a `demo`
abbrev pub IsFormatPiece : Piece → Type 0
IsFormatPiece (disk word) = IsPlain word
IsFormatPiece (valued name value) = IsPlain value × ((name ≡ codes "key-file")
    ⊎ (name ≡ codes "header") ⊎ (name ≡ codes "atom") ⊎ (name ≡ codes "cipher")
    ⊎ (name ≡ codes "key-size") ⊎ (name ≡ codes "sector-size") ⊎ (name ≡ codes "data-offset")
    ⊎ (name ≡ codes "iterations") ⊎ (name ≡ codes "metadata-size") ⊎ (name ≡ codes "uuid"))
IsFormatPiece (flag name) = ⊥

abbrev pub IsInitPiece : Piece → Type 0
IsInitPiece (disk word) = IsPlain word
IsInitPiece (valued name value) = IsPlain value × ((name ≡ codes "key-file")
    ⊎ (name ≡ codes "atom") ⊎ (name ≡ codes "cipher") ⊎ (name ≡ codes "key-size")
    ⊎ (name ≡ codes "sector-size") ⊎ (name ≡ codes "iterations") ⊎ (name ≡ codes "resilience")
    ⊎ (name ≡ codes "direction") ⊎ (name ≡ codes "hotzone-size"))
IsInitPiece (flag name) = name ≡ codes "drop-keyslots"

abbrev pub IsServePiece : Piece → Type 0
IsServePiece (disk word) = IsPlain word
IsServePiece (valued name value) = IsPlain value × ((name ≡ codes "key-file")
    ⊎ (name ≡ codes "atom") ⊎ (name ≡ codes "listen") ⊎ (name ≡ codes "workers")
    ⊎ (name ≡ codes "sessions") ⊎ (name ≡ codes "idle-timeout"))
IsServePiece (flag name) =
    (name ≡ codes "plain") ⊎ (name ≡ codes "no-worker") ⊎ (name ≡ codes "verbose")

abbrev pub IsResumePiece : Piece → Type 0
IsResumePiece (disk word) = IsPlain word
IsResumePiece (valued name value) =
    IsPlain value × ((name ≡ codes "key-file") ⊎ (name ≡ codes "atom"))
IsResumePiece (flag name) = ⊥

abbrev pub IsStatusPiece : Piece → Type 0
IsStatusPiece (disk word) = IsPlain word
IsStatusPiece (valued name value) = IsPlain value × (name ≡ codes "atom")
IsStatusPiece (flag name) = ⊥

abbrev pub IsDemoPiece : Piece → Type 0
IsDemoPiece (disk word) = ⊥
IsDemoPiece (valued name value) = IsPlain value
    × ((name ≡ codes "seed") ⊎ (name ≡ codes "blocks") ⊎ (name ≡ codes "workers"))
IsDemoPiece (flag name) = ⊥

unfoldable pub AllPieces : (Piece → Type 0) → List Piece → Type 0
AllPieces Is [] = Unit {0}
AllPieces Is (piece ∷ pieces) = Is piece × AllPieces Is pieces

-- The pieces of a `format`, in any order: DISK and `--key-file` are there, and no piece is twice.
-- Each value is of its form and in its range, or left out.
pub record IsFormat (pieces : List Piece) (words : Formatting) : Type 0 where
  pub known : AllPieces IsFormatPiece pieces
  pub once : AreOnce pieces
  pub values_are : formatting_by (λ name. value_in name pieces) ≡ Some words

-- The pieces of an `init`, in any order: DISK and `--key-file` are there, and no piece is twice.
-- Each value is of its form and in its range, or left out.
pub record IsInit (pieces : List Piece) (words : Starting) : Type 0 where
  pub known : AllPieces IsInitPiece pieces
  pub once : AreOnce pieces
  pub values_are : starting_by (λ name. value_in name pieces) ≡ Some words

-- one of `--plain` and `--key-file` is there, and not both
abbrev pub IsServed : Option Text → Option Text → Option Text → Type 0
IsServed (Some word) None key_file = (word ≡ codes "true") × (key_file ≡ None)
IsServed None (Some file) key_file = key_file ≡ Some file
IsServed _ _ key_file = ⊥

-- a conversion is led on, but where `--no-worker` is there
abbrev pub IsLedOn : Option Text → Bool → Type 0
IsLedOn (Some word) converts = (word ≡ codes "true") × (converts ≡ false)
IsLedOn None converts = converts ≡ true

-- The pieces of a `serve`, in any order: DISK, `--listen`, and `--plain` or `--key-file` are there,
-- `--no-worker` and `--verbose` may be, and no piece is twice. The atom is 512 or 4096, or left out;
-- the workers are 1 to 16, the sessions 1 to 4294967295, and the seconds of `--idle-timeout` 1 to
-- 86400, or left out.
pub record IsServe (pieces : List Piece) (words : Serving) : Type 0 where
  pub known : AllPieces IsServePiece pieces
  pub once : AreOnce pieces
  pub disk_is : value_in (codes "disk") pieces ≡ Some words.disk
  pub served_is :
      IsServed (value_in (codes "plain") pieces) (value_in (codes "key-file") pieces)
      words.key_file
  pub address_is : value_in (codes "listen") pieces ≡ Some words.address
  pub atom_is : atom_or_default (value_in (codes "atom") pieces) ≡ Some words.atom
  pub workers_are : number_or 4 1 16 (value_in (codes "workers") pieces) ≡ Some words.workers
  pub sessions_are :
      number_or 4294967295 1 4294967295 (value_in (codes "sessions") pieces) ≡ Some words.sessions
  pub led_on_is : IsLedOn (value_in (codes "no-worker") pieces) words.converts
  pub timeout_is :
      number_or_none 1 86400 (value_in (codes "idle-timeout") pieces) ≡ Some words.idle_timeout
  pub verbose_is : is_true (value_in (codes "verbose") pieces) ≡ words.verbose

-- The pieces of a `resume`, in any order: DISK and `--key-file` are there, and no piece is twice.
-- The atom is 512 or 4096, or left out.
pub record IsResume (pieces : List Piece) (words : Resuming) : Type 0 where
  pub known : AllPieces IsResumePiece pieces
  pub once : AreOnce pieces
  pub disk_is : value_in (codes "disk") pieces ≡ Some words.disk
  pub key_file_is : value_in (codes "key-file") pieces ≡ Some words.key_file
  pub atom_is : atom_or_default (value_in (codes "atom") pieces) ≡ Some words.atom

-- the pieces of a `status`, in any order: DISK is there, and the atom may be
pub record IsStatus (pieces : List Piece) (words : Showing) : Type 0 where
  pub known : AllPieces IsStatusPiece pieces
  pub once : AreOnce pieces
  pub disk_is : value_in (codes "disk") pieces ≡ Some words.disk
  pub atom_is : atom_or_default (value_in (codes "atom") pieces) ≡ Some words.atom

-- The pieces of a `demo`, in any order: `--seed`, `--blocks` and `--workers` are there, and no piece is
-- twice. The seed is below 2 ^ 64, the blocks are 1 to 16384 and the workers 1 to 16.
pub record IsDemo (pieces : List Piece) (words : Demonstrating) : Type 0 where
  pub known : AllPieces IsDemoPiece pieces
  pub once : AreOnce pieces
  pub values_are : demonstrating_by (λ name. value_in name pieces) ≡ Some words

-- plain words are never refused: what they ask for is what their pieces say
abbrev pub TakesFormat : (List Text → Option Asked) → Type 0
TakesFormat asked = (pieces : List Piece) (words : Formatting) → IsFormat pieces words →
    asked (codes "format" ∷ all_spelt pieces) ≡ Some (formats words)

abbrev pub TakesInit : (List Text → Option Asked) → Type 0
TakesInit asked = (pieces : List Piece) (words : Starting) → IsInit pieces words →
    asked (codes "init" ∷ all_spelt pieces) ≡ Some (starts words)

abbrev pub TakesServe : (List Text → Option Asked) → Type 0
TakesServe asked = (pieces : List Piece) (words : Serving) → IsServe pieces words →
    asked (codes "serve" ∷ all_spelt pieces) ≡ Some (serves words)

abbrev pub TakesResume : (List Text → Option Asked) → Type 0
TakesResume asked = (pieces : List Piece) (words : Resuming) → IsResume pieces words →
    asked (codes "resume" ∷ all_spelt pieces) ≡ Some (resumes words)

abbrev pub TakesStatus : (List Text → Option Asked) → Type 0
TakesStatus asked = (pieces : List Piece) (words : Showing) → IsStatus pieces words →
    asked (codes "status" ∷ all_spelt pieces) ≡ Some (shows words)

abbrev pub TakesDemo : (List Text → Option Asked) → Type 0
TakesDemo asked = (pieces : List Piece) (words : Demonstrating) → IsDemo pieces words →
    asked (codes "demo" ∷ all_spelt pieces) ≡ Some (demonstrates words)
