-- The command of a list of words grows by one.
use Rattle.std.proofs.Common.{◌≡◌, ◌+◌, ◌<◌, ◌∙◌, ℕ, List, length, take, map, ap, sym}
use Rattle.std.proofs.Common.{slice_index_or}
use Rattle.std.proofs.lemmas.List.{map_push, take_more}
use Rattle.clap.specs.Walk.{Rule, Text}
use Rattle.clap.specs.Simple.{App, with_rule}
use Rattle.command_line.specs.declared.item.Item.{Item}
use Rattle.command_line.specs.Items.{leaf_app, rule_for}

pub leaf_more : (name : Text) (items : List Item) (i : ℕ) (d : Item) (old new : App) (r : Rule) →
    i < length items →
    old ≡ leaf_app name (map rule_for (take i items)) → r ≡ rule_for (slice_index_or items i d) →
    new ≡ with_rule old r → new ≡ leaf_app name (map rule_for (take (i + 1) items))
leaf_more name items i d old new r lt is rule grown =
    grown ∙ ap (λ a. with_rule a r) is
    ∙ ap (λ x. with_rule (leaf_app name (map rule_for (take i items))) x) rule
    ∙ ap (leaf_app name) (sym (ap (map rule_for) (take_more items i d lt)
    ∙ map_push rule_for (take i items) (slice_index_or items i d)))
