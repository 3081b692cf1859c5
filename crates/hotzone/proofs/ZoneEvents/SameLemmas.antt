-- Maps of the same numbers are one map.
use mathlib.Core.HLevel.{is_prop→PathP}
use native.Mathlib.Bridge.{le_prop}
use Rattle.std.proofs.Common.{◌≡◌, ◌+◌, ◌^◌, ◌<◌, ◌≤◌, sym, ◌∙◌}
use Rattle.base_terms.specs.declared.disk_sizes.Sizes.{Sizes}
use Rattle.luks_rules.specs.declared.shape.Progress.{Progress}
use Rattle.reenc_meta.specs.ConversionMaps.{IsMapAt}
use Rattle.segment_map.specs.Sides.{left_of}
use Rattle.segment_map.specs.declared.map.Map.{Map}

pub same-numbers : (a b : Map) → a.atom ≡ b.atom → a.blocks ≡ b.blocks → a.boundary ≡ b.boundary
    → a.direction ≡ b.direction → a.zone ≡ b.zone → a.old_place ≡ b.old_place
    → a.new_place ≡ b.new_place → a ≡ b
same-numbers a b atom blocks boundary direction zone old new = λ i. record {
  atom = atom i;
  blocks = blocks i;
  boundary = boundary i;
  direction = direction i;
  zone = zone i;
  old_place = old i;
  new_place = new i;
  some_atom = is_prop→PathP (λ j. 0 < atom j) (λ j. le_prop) a.some_atom b.some_atom i;
  most_atom = is_prop→PathP (λ j. atom j ≤ 1048576) (λ j. le_prop) a.most_atom b.most_atom i;
  within = is_prop→PathP (λ j. boundary j ≤ blocks j) (λ j. le_prop) a.within b.within i;
  zone_left =
      is_prop→PathP (λ j. zone j ≤ left_of (direction j) (blocks j) (boundary j))
      (λ j. le_prop) a.zone_left b.zone_left i;
  old_places =
      is_prop→PathP (λ j. old j + blocks j ≤ 2 ^ 64) (λ j. le_prop) a.old_places b.old_places i;
  new_places =
      is_prop→PathP (λ j. new j + blocks j ≤ 2 ^ 64) (λ j. le_prop) a.new_places b.new_places i;
}

pub same-maps : (sizes : Sizes) (p : Progress) (a b : Map) → IsMapAt sizes p a → IsMapAt sizes p b
    → a ≡ b
same-maps sizes p a b one two =
    same-numbers a b (one.atom ∙ sym two.atom) (one.blocks ∙ sym two.blocks)
    (one.boundary ∙ sym two.boundary) (one.direction ∙ sym two.direction)
    (one.zone ∙ sym two.zone) (one.old_place ∙ sym two.old_place)
    (one.new_place ∙ sym two.new_place)
