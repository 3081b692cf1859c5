-- What the words of `resume` ask for, by the values that they have.
use Rattle.std.specs.Prelude.{ℕ, List, codes, Option, Some, None, if◌then◌else◌}
use Rattle.clap.specs.Walk.{Row, Text, first_of}
use Rattle.command_line.specs.Values.{◌>>=◌, atom_or_default, is_given}
use Rattle.command_line.specs.declared.resuming.Resume.{Resume}

-- the conversion of the volume on a disk, in atoms of so many bytes, to its end; a key file's
-- passphrase opens the old key and the new one
pub record Resuming : Type 0 where
  pub disk : Text
  pub key_file : Text
  pub atom : ℕ

abbrev pub resuming : Resume → Resuming
resuming words =
    record { disk = words.disk.now; key_file = words.key_file.now; atom = words.atom }

unfoldable pub resuming_in : List Row → Option Resuming
resuming_in rows = do
  disk ← first_of (codes "disk") rows
  key_file ← first_of (codes "key-file") rows
  atom ← atom_or_default (first_of (codes "atom") rows)
  if is_given (codes "header") rows then None
      else Some (record { disk = disk; key_file = key_file; atom = atom })
