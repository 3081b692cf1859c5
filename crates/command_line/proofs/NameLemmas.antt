-- What `clap` makes of a command's name, and of the words behind it.
use Rattle.std.proofs.Common.{◌≡◌, ◌∙◌, false, List, [], ◌∷◌, ◌++◌}
use Rattle.std.proofs.Common.{refl, sym, ap, ap₂, Some, append_assoc}
use Rattle.std.proofs.Common.{append-nil}
use Rattle.std.specs.List.{fold}
use Rattle.std.specs.Prelude.{is_some, ⊤}
use Rattle.clap.specs.Faults.{check_fault, defaults_fault, entered_fault, fault_of, level_fault}
use Rattle.clap.specs.Faults.{settle_fault, walk_fault}
use Rattle.clap.specs.Kinds.{Kinds, or_else}
use Rattle.clap.specs.Simple.{App, Shape, built, entered, names_of}
use Rattle.clap.specs.Simple.{subcommand_of}
use Rattle.clap.specs.Walk.{Names, Rule, Text, Walk, finished, idle, nothing_held}
use Rattle.clap.specs.Walk.{rows_after, settled, walk, walk_from, walked}
use Rattle.command_line.specs.Commands.{Asked, asked, command_in}
use Rattle.command_line.specs.Product.{demo_rules, format_rules, init_rules, product, resume_rules}
use Rattle.command_line.specs.Product.{serve_rules, status_rules}
use Rattle.command_line.proofs.PieceLemmas.{leaf_of}

-- where the walk stands that met a subcommand
abbrev pub stopped_at : Text → List Text → Walk
stopped_at name words = record {
  held = nothing_held;
  waiting = idle;
  position = 1;
  is_trailing = false;
  stopped = Some (name, words);
}

stays : (rules : List Rule) (names : Names) (name : Text) (before words : List Text) →
    fold (walked rules names) (stopped_at name before) words ≡ stopped_at name (before ++ words)
unfolding walked
stays rules names name before [] = ap (stopped_at name) (sym (append-nil before))
stays rules names name before (word ∷ words) =
    stays rules names name (before ++ word ∷ []) words
    ∙ ap (stopped_at name) (append_assoc before (word ∷ []) words)

stays_fine : (s : Shape) (names : Names) (name : Text) (before words : List Text) →
    walk_fault s names (stopped_at name before) words ≡ []
unfolding walk_fault walked
stays_fine s names name before [] = refl
stays_fine s names name before (word ∷ words) = stays_fine s names name (before ++ word ∷ []) words

abbrev pub the_app : App
the_app = built product

-- the faults of all words, by those of the walk and where it ends
abbrev pub fault_by : Kinds → Walk → Kinds
fault_by kinds w = or_else kinds
    (or_else (entered_fault the_app w.stopped)
    (or_else (settle_fault the_app.top.rules the_app.top.args_override_self w.held)
    (or_else (defaults_fault (settled the_app.top.rules w.held).rows the_app.top.rules)
    (check_fault the_app.top (finished the_app.top.rules w.held)
    (is_some (entered the_app w.stopped))))))

-- a command whose words are taken, behind its name
abbrev pub IsNamed : Text → List Rule → Type 0
IsNamed name rules = (words : List Text) →
    (walked the_app.top.rules (names_of the_app) (walk_from nothing_held) name
    ≡ stopped_at name [])
    × (walk_fault the_app.top (names_of the_app) (walk_from nothing_held) (name ∷ words)
    ≡ walk_fault the_app.top (names_of the_app) (stopped_at name []) words)
    × (level_fault (leaf_of name rules) [] nothing_held words false [] ≡ [] →
    fault_by [] (stopped_at name words) ≡ [])
    × (entered the_app (Some (name, words)) ≡ Some (name, rows_after rules [] words))

unfoldable pub all_rules : ⊤
unfolding format_rules init_rules serve_rules resume_rules status_rules demo_rules
all_rules = tt

pub asks : (name : Text) (rules : List Rule) (words : List Text) (found : Asked) →
    IsNamed name rules →
    level_fault (leaf_of name rules) [] nothing_held words false [] ≡ [] →
    command_in name (rows_after rules [] words) ≡ Some found → asked (name ∷ words) ≡ Some found
unfolding asked product
asks name rules words found named fine command =
    let (met, passed, ends, enters) = named words in
    let walks : walk the_app.top.rules (names_of the_app) nothing_held (name ∷ words)
    ≡ stopped_at name words =
    ap (λ w. fold (walked the_app.top.rules (names_of the_app)) w words) met
    ∙ stays the_app.top.rules (names_of the_app) name [] words in
    let none : walk_fault the_app.top (names_of the_app) (walk_from nothing_held) (name ∷ words)
    ≡ [] =
    passed ∙ stays_fine the_app.top (names_of the_app) name [] words in
    let fault : fault_of product (name ∷ words) ≡ [] = ap₂ fault_by none walks ∙ ends fine in
    let sub : subcommand_of product (name ∷ words) ≡ Some (name, rows_after rules [] words) =
    ap (λ (w : Walk). entered the_app w.stopped) walks ∙ enters in
    rw (fault, sub, command) refl
