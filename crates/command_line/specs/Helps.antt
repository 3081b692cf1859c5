-- Words that ask for help or for the version.
use Rattle.std.specs.Prelude.{◌||◌, Bool, codes}
use Rattle.std.specs.Str.{bytes_eq}
use Rattle.clap.specs.Walk.{Text}

abbrev pub is_help_word : Text → Bool
is_help_word word = bytes_eq word (codes "help") || (bytes_eq word (codes "--help")
    || (bytes_eq word (codes "-h") || (bytes_eq word (codes "--version")
    || bytes_eq word (codes "-V"))))
