-- What the words of `init` ask for, by the values that they have.
use Rattle.std.specs.Prelude.{ℕ, ◌≡◌, ◌%◌, ◌<◌, ◌≤◌, ◌==◌, ◌||◌, Bool, List, codes}
use Rattle.std.specs.Prelude.{Option, Some, None, if◌then◌else◌}
use Rattle.std.specs.Str.{bytes_eq}
use Rattle.clap.specs.Walk.{Row, Text, first_of}
use Rattle.luks_meta.specs.Reencrypts.{direction_named}
use Rattle.luks_meta.specs.declared.reencrypt.Direction.{Direction}
use Rattle.luks_meta.specs.declared.reencrypt.Direction.TheVariants.{Forward}
use Rattle.command_line.specs.Segments.{IsNewSegment, segment_by}
use Rattle.command_line.specs.Values.{◌>>=◌, IsAtomSize, atom_or_default, is_given, is_set, is_true}
use Rattle.command_line.specs.Values.{number_or}
use Rattle.command_line.specs.declared.segment.NewSegment.{NewSegment}
use Rattle.command_line.specs.declared.starting.Guard.{Guard}
use Rattle.command_line.specs.declared.starting.Guard.TheVariants.{Journal, Checksum}
use Rattle.command_line.specs.declared.starting.Init.{Init}

-- a conversion of the volume on a disk, in atoms of so many bytes, to the new segment that is
-- described; a key file's passphrase opens the volume, and is to open the new key; and whether
-- keyslots that hold the old key for other passphrases may go
pub record Starting : Type 0 where
  pub disk : Text
  pub key_file : Text
  pub atom : ℕ
  pub segment : NewSegment
  pub resilience : Guard
  pub direction : Direction
  pub hotzone_size : ℕ
  pub drop_keyslots : Bool

abbrev pub starting : Init → Starting
starting words = record {
  disk = words.disk.now;
  key_file = words.key_file.now;
  atom = words.atom;
  segment = words.segment;
  resilience = words.resilience;
  direction = words.direction;
  hotzone_size = words.hotzone_size;
  drop_keyslots = words.drop_keyslots;
}

-- ---- the values
-- what keeps zones safe, by its name; `datashift` isn't built yet
abbrev pub guard_name : Guard → Text
guard_name Journal = codes "journal"
guard_name Checksum = codes "checksum"

abbrev pub guard_named : Text → Option Guard
guard_named name = if bytes_eq name (codes "journal") then Some Journal
    else (if bytes_eq name (codes "checksum") then Some Checksum else None)

-- the value of `--resilience`, or its default
unfoldable pub guard_or_default : Option Text → Option Guard
guard_or_default None = Some Journal
guard_or_default (Some word) = guard_named word

-- the value of `--direction`, or its default
unfoldable pub direction_or_default : Option Text → Option Direction
direction_or_default None = Some Forward
direction_or_default (Some word) = direction_named word

-- the value of `--hotzone-size`, or its default: whole atoms, at least one
unfoldable pub hotzone_size_or_default : ℕ → Option Text → Option ℕ
hotzone_size_or_default atom word = do
  size ← number_or 1048576 1 67108864 word
  if size % atom == 0 then Some size else None

-- ---- the command
-- a conversion, by the values of its words
unfoldable pub starting_by : (Text → Option Text) → Option Starting
starting_by value = do
  disk ← value (codes "disk")
  key_file ← value (codes "key-file")
  atom ← atom_or_default (value (codes "atom"))
  segment ← segment_by atom value
  resilience ← guard_or_default (value (codes "resilience"))
  direction ← direction_or_default (value (codes "direction"))
  hotzone_size ← hotzone_size_or_default atom (value (codes "hotzone-size"))
  Some (record {
    disk = disk;
    key_file = key_file;
    atom = atom;
    segment = segment;
    resilience = resilience;
    direction = direction;
    hotzone_size = hotzone_size;
    drop_keyslots = is_true (value (codes "drop-keyslots"));
  })

-- whether an option of `init` is given that isn't built yet
unfoldable pub asks_unbuilt : List Row → Bool
asks_unbuilt rows = is_given (codes "header") rows || is_given (codes "metadata-size") rows
    || is_given (codes "shift") rows || is_set (codes "encrypt") rows
    || is_set (codes "decrypt") rows

abbrev pub starting_in : List Row → Option Starting
starting_in rows =
    if asks_unbuilt rows then None else starting_by (λ name. first_of name rows)

-- the values of `init` are within their bounds
pub record IsStarting (words : Starting) : Type 0 where
  pub atom : IsAtomSize words.atom
  pub segment : IsNewSegment words.atom words.segment
  pub whole_hotzone : words.hotzone_size % words.atom ≡ 0
  pub some_hotzone : 0 < words.hotzone_size
  pub most_hotzone : words.hotzone_size ≤ 67108864
