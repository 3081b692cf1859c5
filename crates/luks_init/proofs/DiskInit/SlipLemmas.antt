-- Lemmas on what an operator would lose by a conversion.
use Rattle.std.proofs.Common.{◌≡◌, ◌∙◌, ℕ, ◌<◌, ◌≤◌, Bool, true, false, List, length, inr, refl}
use Rattle.std.proofs.Common.{subst, sym}
use Rattle.base_terms.specs.declared.disk_sizes.Sizes.{Sizes}
use Rattle.luks_init.specs.DiskInit.Slips.{KeepsOthers, LosesNothing, WouldLose, key_holders}
use Rattle.luks_init.specs.declared.init_disk.refusal.Refusal.TheVariants as refusals
use Rattle.luks_init.specs.declared.wish.Wish.{Wish}
use Rattle.luks_meta.specs.declared.meta.Parts.{Parts}
use Rattle.luks_rules.specs.Segments.{has_tail}
use Rattle.luks_slots.specs.declared.kinds.SlotKind.{SlotKind}

pub few_kept : (w : Wish) (m : Parts) (sizes : Sizes) (list : List (ℕ × SlotKind))
    → list ≡ key_holders m sizes → length list ≤ 1 → KeepsOthers w m sizes
few_kept w m sizes list is few = inr (subst (λ l. length l ≤ 1) is few)

pub others_go : (w : Wish) (m : Parts) (sizes : Sizes) (list : List (ℕ × SlotKind)) (tail : ℕ)
    → list ≡ key_holders m sizes → w.drop_keyslots ≡ false → 1 < length list
    → WouldLose w m sizes tail (refusals.Keyslots list)
others_go w m sizes list tail is unasked more = (is, unasked, more)

pub nothing_lost : (w : Wish) (m : Parts) (sizes : Sizes) (tail : ℕ) (has : Bool)
    → KeepsOthers w m sizes → has ≡ has_tail m.segments tail → has ≡ false
    → LosesNothing w m sizes tail
nothing_lost w m sizes tail has kept is none = record { kept = kept; whole = sym is ∙ none }

pub tail_lost : (w : Wish) (m : Parts) (sizes : Sizes) (tail : ℕ) (has : Bool)
    → KeepsOthers w m sizes → has ≡ has_tail m.segments tail → has ≡ true
    → WouldLose w m sizes tail (refusals.Tail tail)
tail_lost w m sizes tail has kept is some = (refl, kept, sym is ∙ some)
