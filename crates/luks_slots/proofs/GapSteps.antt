-- A step along the areas.
use Rattle.std.proofs.Common.{◌≡◌, ℕ, ◌+◌, ◌-◌, ◌<◌, ◌≤◌, nat_le, max, cond, List}
use Rattle.std.proofs.Common.{length, get_or, drop, drop-cons, add-one, Some, None, refl}
use Rattle.std.proofs.Common.{◌∙◌}
use Rattle.std.proofs.lemmas.Bool.{le-leb, lt-leb}
use Rattle.std.proofs.lemmas.List.{drop_all}
use Rattle.luks_slots.specs.Gaps.{behind, lowest_in, room, widest_in}
use Rattle.luks_rules.specs.declared.areas.Area.{Area}

abbrev pub nowhere : Area
nowhere = record { offset = 0; size = 0 }

module _ (atom end : ℕ) (areas : List Area) (i place : ℕ) where
  lowest-at : (wanted : ℕ) → i < length areas
      → lowest_in atom end wanted place (drop i areas)
      ≡ cond (nat_le wanted (room end place (get_or areas i nowhere))) (Some place)
      (lowest_in atom end wanted (behind atom place (get_or areas i nowhere)) (drop (i + 1) areas))
  unfolding lowest_in
  lowest-at wanted h = rw (drop-cons areas i nowhere h, add-one) refl

  pub lowest-here : (wanted : ℕ) → i < length areas
      → wanted ≤ room end place (get_or areas i nowhere)
      → lowest_in atom end wanted place (drop i areas) ≡ Some place
  lowest-here wanted h fits = lowest-at wanted h ∙ (rw (le-leb _ _ fits) refl)

  pub lowest-later : (wanted : ℕ) → i < length areas
      → room end place (get_or areas i nowhere) < wanted
      → lowest_in atom end wanted place (drop i areas)
      ≡ lowest_in atom end wanted (behind atom place (get_or areas i nowhere)) (drop (i + 1) areas)
  lowest-later wanted h short = lowest-at wanted h ∙ (rw (lt-leb _ _ short) refl)

  pub lowest-last : (wanted : ℕ) → length areas ≤ i → wanted ≤ end - place
      → lowest_in atom end wanted place (drop i areas) ≡ Some place
  unfolding lowest_in
  lowest-last wanted h fits = rw (drop_all i areas h, le-leb _ _ fits) refl

  pub lowest-none : (wanted : ℕ) → length areas ≤ i → end - place < wanted
      → lowest_in atom end wanted place (drop i areas) ≡ None
  unfolding lowest_in
  lowest-none wanted h short = rw (drop_all i areas h, lt-leb _ _ short) refl

  pub widest-at : i < length areas
      → widest_in atom end place (drop i areas)
      ≡ max (room end place (get_or areas i nowhere))
      (widest_in atom end (behind atom place (get_or areas i nowhere)) (drop (i + 1) areas))
  unfolding widest_in
  widest-at h = rw (drop-cons areas i nowhere h, add-one) refl

  pub widest-last : length areas ≤ i → widest_in atom end place (drop i areas) ≡ end - place
  unfolding widest_in
  widest-last h = rw (drop_all i areas h) refl
