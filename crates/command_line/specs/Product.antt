-- The commands, and the words of each.
use Rattle.std.specs.Prelude.{true, false, List, [], ◌∷◌, codes}
use Rattle.clap.specs.Walk.{Rule}
use Rattle.clap.specs.Simple.{App, Shape, new_shape}
use Rattle.command_line.specs.Items.{disk_rule, flag_rule, leaf_app, leaf_shape, option_rule}

-- what a command on a volume has: its disk, and where the header stands and in which atoms
abbrev pub on_volume : List Rule → List Rule
on_volume rules =
    disk_rule ∷ option_rule (codes "header") false ∷ option_rule (codes "atom") false ∷ rules

-- what a new segment is made by
abbrev pub of_segment : List Rule → List Rule
of_segment rules = option_rule (codes "key-file") true ∷ option_rule (codes "cipher") false
    ∷ option_rule (codes "key-size") false ∷ option_rule (codes "sector-size") false
    ∷ option_rule (codes "iterations") false ∷ option_rule (codes "metadata-size") false ∷ rules

unfoldable pub format_rules : List Rule
format_rules = on_volume (of_segment
    (option_rule (codes "data-offset") false ∷ option_rule (codes "uuid") false ∷ []))

unfoldable pub init_rules : List Rule
init_rules = on_volume (of_segment
    (option_rule (codes "resilience") false ∷ option_rule (codes "direction") false
    ∷ option_rule (codes "hotzone-size") false ∷ option_rule (codes "shift") false
    ∷ flag_rule (codes "encrypt") ∷ flag_rule (codes "decrypt")
    ∷ flag_rule (codes "drop-keyslots") ∷ []))

unfoldable pub serve_rules : List Rule
serve_rules = on_volume
    (option_rule (codes "key-file") false ∷ flag_rule (codes "plain")
    ∷ option_rule (codes "listen") true ∷ option_rule (codes "workers") false
    ∷ option_rule (codes "sessions") false ∷ flag_rule (codes "no-worker")
    ∷ option_rule (codes "idle-timeout") false ∷ flag_rule (codes "verbose") ∷ [])

unfoldable pub resume_rules : List Rule
resume_rules = on_volume (option_rule (codes "key-file") true ∷ [])

unfoldable pub status_rules : List Rule
status_rules = on_volume []

unfoldable pub demo_rules : List Rule
demo_rules = option_rule (codes "seed") true ∷ option_rule (codes "blocks") true
    ∷ option_rule (codes "workers") true ∷ []

abbrev pub format_app : App
format_app = leaf_app (codes "format") format_rules

abbrev pub init_app : App
init_app = leaf_app (codes "init") init_rules

abbrev pub serve_app : App
serve_app = leaf_app (codes "serve") serve_rules

abbrev pub resume_app : App
resume_app = leaf_app (codes "resume") resume_rules

abbrev pub status_app : App
status_app = leaf_app (codes "status") status_rules

abbrev pub demo_app : App
demo_app = leaf_app (codes "demo") demo_rules

-- one command must be named; the words begin with it
abbrev pub top_shape : Shape
top_shape = record (new_shape (codes "reencd")) {
  is_leaf = false;
  no_binary_name = true;
  subcommand_required = true;
  arg_required_else_help = true;
}

unfoldable pub product : App
product = record {
  top = top_shape;
  subs = leaf_shape (codes "format") format_rules ∷ leaf_shape (codes "init") init_rules
      ∷ leaf_shape (codes "serve") serve_rules ∷ leaf_shape (codes "resume") resume_rules
      ∷ leaf_shape (codes "status") status_rules ∷ leaf_shape (codes "demo") demo_rules ∷ [];
}
