-- What the words of a command line ask for.
use Rattle.std.specs.Prelude.{ℕ, ◌<◌, ◌≤◌, ◌==◌, Bool, not, List, length, codes}
use Rattle.std.specs.Prelude.{if◌then◌else◌}
use Rattle.std.specs.Prelude.{Option, Some, None, option_and_then, option_map}
use Rattle.std.specs.Str.{bytes_eq}
use Rattle.clap.specs.Walk.{Row, Text, first_of}
use Rattle.clap.specs.Simple.{subcommand_of}
use Rattle.clap.specs.Faults.{fault_of}
use Rattle.command_line.specs.Demonstrations.{Demonstrating, IsDemonstrating, demonstrating}
use Rattle.command_line.specs.Demonstrations.{demonstrating_in}
use Rattle.command_line.specs.Formats.{Formatting, IsFormatting, formatting, formatting_in}
use Rattle.command_line.specs.Product.{product}
use Rattle.command_line.specs.Resumes.{Resuming, resuming, resuming_in}
use Rattle.command_line.specs.Starts.{IsStarting, Starting, starting, starting_in}
use Rattle.command_line.specs.Values.{◌>>=◌, IsAtomSize, atom_or_default, is_given, is_set}
use Rattle.command_line.specs.Values.{number_or, number_or_none}
use Rattle.command_line.specs.declared.command.Serve.{Serve}
use Rattle.command_line.specs.declared.command.Status.{Status}
use Rattle.command_line.specs.declared.command.Command.{Command}
use Rattle.command_line.specs.declared.command.Command.TheVariants as commands

-- sessions over a disk, in atoms of so many bytes, that are dealt to so many links to the clients
-- of an address: over the volume that a key file's passphrase opens there, or, where there is none,
-- over the plain disk as it is; whether a conversion that is under way is led on meanwhile; after
-- how many seconds a client that sends nothing is dropped, if ever; and whether each session's begin
-- and end is said
pub record Serving : Type 0 where
  pub disk : Text
  pub key_file : Option Text
  pub atom : ℕ
  pub address : Text
  pub workers : ℕ
  pub sessions : ℕ
  pub converts : Bool
  pub idle_timeout : Option ℕ
  pub verbose : Bool

-- what the header of a disk says, which is read in atoms of so many bytes
pub record Showing : Type 0 where
  pub disk : Text
  pub atom : ℕ

pub data Asked : Type 0 where
  formats : Formatting → Asked
  starts : Starting → Asked
  serves : Serving → Asked
  resumes : Resuming → Asked
  shows : Showing → Asked
  demonstrates : Demonstrating → Asked

abbrev pub serving : Serve → Serving
serving words = record {
  disk = words.disk.now;
  key_file = option_map (λ word. word.now) words.key_file;
  atom = words.atom;
  address = words.address.now;
  workers = words.workers;
  sessions = words.sessions;
  converts = words.converts;
  idle_timeout = words.idle_timeout;
  verbose = words.verbose;
}

abbrev pub showing : Status → Showing
showing words = record { disk = words.disk.now; atom = words.atom }

abbrev pub asked_by : Command → Asked
asked_by (commands.Format words) = formats (formatting words)
asked_by (commands.Init words) = starts (starting words)
asked_by (commands.Serve words) = serves (serving words)
asked_by (commands.Resume words) = resumes (resuming words)
asked_by (commands.Status words) = shows (showing words)
asked_by (commands.Demo words) = demonstrates (demonstrating words)

-- the values of a command are within their bounds
pub record IsServing (words : Serving) : Type 0 where
  pub atom : IsAtomSize words.atom
  pub some_worker : 0 < words.workers
  pub workers : words.workers ≤ 16
  pub some_session : 0 < words.sessions
  pub sessions : words.sessions ≤ 4294967295

abbrev pub IsBounded : Asked → Type 0
IsBounded (formats words) = IsFormatting words
IsBounded (starts words) = IsStarting words
IsBounded (serves words) = IsServing words
IsBounded (resumes words) = IsAtomSize words.atom
IsBounded (shows words) = IsAtomSize words.atom
IsBounded (demonstrates words) = IsDemonstrating words

-- the key file of a volume that is served, or that a disk is served plain: one of both is asked
-- for, and no header that lies on a disk of its own
unfoldable pub key_file_in : List Row → Option (Option Text)
key_file_in rows = if is_given (codes "header") rows then None
    else (if is_set (codes "plain") rows
    then (if is_given (codes "key-file") rows then None else Some None)
    else option_map Some (first_of (codes "key-file") rows))

unfoldable pub serving_in : List Row → Option Serving
serving_in rows = do
  disk ← first_of (codes "disk") rows
  atom ← atom_or_default (first_of (codes "atom") rows)
  address ← first_of (codes "listen") rows
  workers ← number_or 4 1 16 (first_of (codes "workers") rows)
  sessions ← number_or 4294967295 1 4294967295 (first_of (codes "sessions") rows)
  key_file ← key_file_in rows
  idle_timeout ← number_or_none 1 86400 (first_of (codes "idle-timeout") rows)
  Some (record {
    disk = disk;
    key_file = key_file;
    atom = atom;
    address = address;
    workers = workers;
    sessions = sessions;
    converts = not (is_set (codes "no-worker") rows);
    idle_timeout = idle_timeout;
    verbose = is_set (codes "verbose") rows;
  })

unfoldable pub showing_in : List Row → Option Showing
showing_in rows = do
  disk ← first_of (codes "disk") rows
  atom ← atom_or_default (first_of (codes "atom") rows)
  if is_given (codes "header") rows then None else Some (record { disk = disk; atom = atom })

-- the command of this name, with these values; there is no other
unfoldable pub command_in : Text → List Row → Option Asked
command_in name rows =
    if bytes_eq name (codes "format") then option_map formats (formatting_in rows)
    else (if bytes_eq name (codes "init") then option_map starts (starting_in rows)
    else (if bytes_eq name (codes "serve") then option_map serves (serving_in rows)
    else (if bytes_eq name (codes "resume") then option_map resumes (resuming_in rows)
    else (if bytes_eq name (codes "status") then option_map shows (showing_in rows)
    else (if bytes_eq name (codes "demo") then option_map demonstrates (demonstrating_in rows)
    else None)))))

-- What the words ask for: where `clap` takes them, the command that it finds in them, if each of
-- its values is of its form and in its range.
unfoldable pub asked : List Text → Option Asked
asked words = if length (fault_of product words) == 0
    then option_and_then (λ found. command_in found.0 found.1) (subcommand_of product words)
    else None
