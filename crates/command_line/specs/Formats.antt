-- What the words of `format` ask for, by the values that they have.
use Rattle.std.specs.Prelude.{ℕ, ◌≡◌, ◌-◌, ◌%◌, ◌^◌, ◌<◌, ◌==◌, Bool, true, false}
use Rattle.std.specs.Prelude.{List, codes, length, Option, Some, None, is_some, option_map}
use Rattle.std.specs.Prelude.{if◌then◌else◌}
use Rattle.clap.specs.Walk.{Row, Text, first_of}
use Rattle.luks_bin.specs.Fields.{is_size}
use Rattle.uuid.specs.Text.{parsed}
use Rattle.command_line.specs.Segments.{IsNewSegment, segment_by}
use Rattle.command_line.specs.Values.{◌>>=◌, IsAtomSize, atom_or_default, number_or}
use Rattle.command_line.specs.declared.formatting.Format.{Format}
use Rattle.command_line.specs.declared.segment.NewSegment.{NewSegment}

-- a new volume on a disk, in atoms of so many bytes, that a key file's passphrase opens; its header
-- lies on a disk of its own, where one is named
pub record Formatting : Type 0 where
  pub disk : Text
  pub header : Option Text
  pub key_file : Text
  pub atom : ℕ
  pub segment : NewSegment
  pub data_offset : ℕ
  pub metadata_size : ℕ
  pub identifier : Option (List ℕ)

abbrev pub formatting : Format → Formatting
formatting words = record {
  disk = words.disk.now;
  header = option_map (λ word. word.now) words.header;
  key_file = words.key_file.now;
  atom = words.atom;
  segment = words.segment;
  data_offset = words.data_offset;
  metadata_size = words.metadata_size;
  identifier = words.identifier;
}

-- ---- the values
-- data begin behind the header, or at once where that lies on a disk of its own
unfoldable pub default_data_offset : Bool → ℕ
default_data_offset true = 0
default_data_offset false = 16777216

-- the value of `--data-offset`, or its default: whole pages
unfoldable pub data_offset_or_default : Bool → Option Text → Option ℕ
data_offset_or_default detached word = do
  offset ← number_or (default_data_offset detached) 0 (2 ^ 64 - 1) word
  if offset % 4096 == 0 then Some offset else None

-- the value of `--metadata-size`, or its default: one of the nine sizes of a header's copy
unfoldable pub metadata_size_or_default : Option Text → Option ℕ
metadata_size_or_default word = do
  size ← number_or 16384 16384 4194304 word
  if is_size size then Some size else None

-- the identifier of `--uuid`, in the 36 characters of its hyphenated form, or that none is given
unfoldable pub identifier_in : Option Text → Option (Option (List ℕ))
identifier_in None = Some None
identifier_in (Some word) = if length word == 36 then option_map Some (parsed word) else None

-- ---- the command
-- a new volume, by the values of its words
unfoldable pub formatting_by : (Text → Option Text) → Option Formatting
formatting_by value = do
  disk ← value (codes "disk")
  key_file ← value (codes "key-file")
  atom ← atom_or_default (value (codes "atom"))
  segment ← segment_by atom value
  data_offset ←
      data_offset_or_default (is_some (value (codes "header"))) (value (codes "data-offset"))
  metadata_size ← metadata_size_or_default (value (codes "metadata-size"))
  identifier ← identifier_in (value (codes "uuid"))
  Some (record {
    disk = disk;
    header = value (codes "header");
    key_file = key_file;
    atom = atom;
    segment = segment;
    data_offset = data_offset;
    metadata_size = metadata_size;
    identifier = identifier;
  })

abbrev pub formatting_in : List Row → Option Formatting
formatting_in rows = formatting_by (λ name. first_of name rows)

-- the values of `format` are within their bounds
pub record IsFormatting (words : Formatting) : Type 0 where
  pub atom : IsAtomSize words.atom
  pub segment : IsNewSegment words.atom words.segment
  pub page : words.data_offset % 4096 ≡ 0
  pub within : words.data_offset < 2 ^ 64
  pub size : is_size words.metadata_size ≡ true
