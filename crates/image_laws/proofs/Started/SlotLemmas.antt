-- The key of a passphrase, where keyslots have come to those that there were.
use Rattle.std.proofs.Common.{◌≡◌, ℕ, zero, suc, ◌||◌, eqb, List, [], ◌∷◌, Bool, true, false}
use Rattle.std.proofs.Common.{Option}
use Rattle.std.proofs.Common.{Some, None, refl, sym, ◌∙◌, ap, if◌then◌else◌}
use Rattle.std.proofs.lemmas.Bool.{eq-eqb, ne_eqb}
use Rattle.std.proofs.lemmas.List.Elements.{All-weaker}
use Rattle.std.proofs.lemmas.List.Folds.{list_any_none}
use Rattle.std.specs.List.{All, AllByRecursion, insert}
use Rattle.luks_meta.specs.declared.digest.Digest.{Digest}
use Rattle.luks_meta.specs.declared.keyslot.Keyslot.{Keyslot}
use Rattle.luks_meta.specs.declared.keyslot.Keyslot.TheVariants as keyslots
use Rattle.luks_meta.specs.declared.keyslot.Luks2.{Luks2}
use Rattle.luks_meta.specs.declared.keyslot.Priority.{Priority as Rank}
use Rattle.luks_meta.specs.declared.meta.Parts.{Parts}
use Rattle.luks_rules.specs.References.{is_there, lists}
use Rattle.luks_slots.specs.Slots.{is_ranked}
use Rattle.luks_slots.specs.Unlocks.{first_key, if_matching, key_at, key_in, key_of_slot, matches}
use Rattle.luks_slots.specs.Unlocks.{or_else}

or-none : (o : Option (List ℕ)) → or_else o None ≡ o
or-none None = refl
or-none (Some key) = refl

either-none : (b : Bool) → ◌≡◌ {A = Option (List ℕ)} (if b then None else None) None
either-none true = refl
either-none false = refl

-- ---- numbers that a digest doesn't list
pub lists-none : (slots : List (ℕ × Keyslot)) (n : ℕ) (numbers : List ℕ)
    → is_there slots n ≡ false → All (λ k. is_there slots k ≡ true) numbers
    → lists numbers n ≡ false
lists-none slots n numbers free there =
    list_any_none (λ k. eqb k n) numbers
    (All-weaker (λ k. is_there slots k ≡ true) (λ k. eqb k n ≡ false)
    (λ k is. ne_eqb k n (λ same.
    let bad : true ≡ false = sym is ∙ ap (is_there slots) same ∙ free in cc)) numbers there)

module _ (m : Parts) (d : Digest) (image pass : List ℕ) (rank : Rank) where
  pub unlisted-none : (n : ℕ) (slot : Keyslot) → lists d.keyslots n ≡ false
      → key_at m d image pass rank (n, slot) ≡ None
  unfolding key_of_slot
  unlisted-none n (keyslots.Luks2 slot) other =
      ap (λ b. if is_ranked rank slot.priority
      then (if b then if_matching d (key_in m d image pass slot) else None) else None) other
      ∙ either-none (is_ranked rank slot.priority)
  unlisted-none n (keyslots.Reencrypt slot) other = refl
  unlisted-none n (keyslots.Unknown slot) other = refl

  -- a keyslot that gives none is passed over
  pub first-skips : (slots : List (ℕ × Keyslot)) (i : ℕ) (y : ℕ × Keyslot)
      → key_at m d image pass rank y ≡ None
      → first_key m d image pass rank (insert slots i y) ≡ first_key m d image pass rank slots
  unfolding first_key
  first-skips [] zero y none = ap (λ o. or_else o None) none
  first-skips [] (suc i) y none = ap (λ o. or_else o None) none
  first-skips (s ∷ slots) zero y none =
      ap (λ o. or_else o (first_key m d image pass rank (s ∷ slots))) none
  first-skips (s ∷ slots) (suc i) y none =
      ap (or_else (key_at m d image pass rank s)) (first-skips slots i y none)

  abbrev pub GiveNone : List (ℕ × Keyslot) → Type 0
  GiveNone slots = AllByRecursion (λ s. key_at m d image pass rank s ≡ None) slots

  all-none : (slots : List (ℕ × Keyslot)) → GiveNone slots
      → first_key m d image pass rank slots ≡ None
  unfolding first_key
  all-none [] none = refl
  all-none (s ∷ slots) none =
      ap (λ o. or_else o (first_key m d image pass rank slots)) none.0 ∙ all-none slots none.1

  -- one among keyslots that give none
  pub first-only : (slots : List (ℕ × Keyslot)) (i : ℕ) (y : ℕ × Keyslot) → GiveNone slots
      → first_key m d image pass rank (insert slots i y) ≡ key_at m d image pass rank y
  unfolding first_key
  first-only [] zero y none = or-none (key_at m d image pass rank y)
  first-only [] (suc i) y none = or-none (key_at m d image pass rank y)
  first-only (s ∷ slots) zero y none =
      ap (or_else (key_at m d image pass rank y)) (all-none (s ∷ slots) none)
      ∙ or-none (key_at m d image pass rank y)
  first-only (s ∷ slots) (suc i) y none =
      ap (λ o. or_else o (first_key m d image pass rank (insert slots i y))) none.0
      ∙ first-only slots i y none.1

  -- a digest of one keyslot lists no other
  pub others-none : (n : ℕ) (slots : List (ℕ × Keyslot)) → d.keyslots ≡ n ∷ []
      → is_there slots n ≡ false → GiveNone slots
  others-none n [] only free = tt
  others-none n (s ∷ slots) only free =
      let split = parts (eqb s.0 n) (is_there slots n) free in (
        unlisted-none s.0 s.1
            (ap (λ numbers. lists numbers s.0) only
            ∙ ap (λ b. b || false)
            (ne_eqb n s.0 (λ same.
            let bad : true ≡ false = sym (eq-eqb s.0 n (sym same)) ∙ split.0 in cc))),
        others-none n slots only split.1,
      )
    where
      parts : (a b : Bool) → (a || b) ≡ false → (a ≡ false) × (b ≡ false)
      parts true b is = absurd cc
      parts false b is = (refl, is)

  -- the one that it lists gives the key
  pub listed-gives : (n : ℕ) (slot : Luks2) (key : List ℕ) → d.keyslots ≡ n ∷ []
      → is_ranked rank slot.priority ≡ true → matches d key ≡ true
      → key_in m d image pass slot ≡ Some key
      → key_at m d image pass rank (n, keyslots.Luks2 slot) ≡ Some key
  unfolding key_of_slot
  listed-gives n slot key only ranked right gives =
      ap (λ b. if b then key_of_slot m d image pass n slot else None) ranked
      ∙ ap (λ numbers. if lists numbers n then if_matching d (key_in m d image pass slot) else None)
      only
      ∙ ap (λ b. if b || false then if_matching d (key_in m d image pass slot) else None)
      (eq-eqb n n refl)
      ∙ ap (if_matching d) gives ∙ ap (λ b. if b then Some key else None) right

  -- one of another priority gives none
  pub unranked-none : (n : ℕ) (slot : Luks2) → is_ranked rank slot.priority ≡ false
      → key_at m d image pass rank (n, keyslots.Luks2 slot) ≡ None
  unranked-none n slot other =
      ap (λ b. if b then key_of_slot m d image pass n slot else None) other
