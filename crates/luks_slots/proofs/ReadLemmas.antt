-- The key of a passphrase is read from the keyslots' areas alone.
use Rattle.std.proofs.Common.{◌≡◌, inl, inr, ℕ, ◌+◌, ◌-◌, ◌%◌, ◌≤◌, List}
use Rattle.std.proofs.Common.{[], ◌∷◌, take, drop, Option, Some, None, refl, sym, ◌∙◌, ap, arith}
use Rattle.std.proofs.Common.{if◌then◌else◌}
use Rattle.std.proofs.lemmas.List.{drop-drop, drop-take, take-take}
use Rattle.std.proofs.lemmas.List.Elements.{All-contains, All-contains_itself, All-head}
use Rattle.std.proofs.lemmas.List.Elements.{All-tail, All-weaker}
use Rattle.std.specs.List.{All, Contains}
use Rattle.base_terms.specs.declared.disk_sizes.Sizes.{Sizes}
use Rattle.luks_meta.specs.declared.config.Config.{Config}
use Rattle.luks_meta.specs.declared.digest.Digest.{Digest}
use Rattle.luks_meta.specs.declared.keyslot.Derivation.{Derivation}
use Rattle.luks_meta.specs.declared.keyslot.Derivation.TheVariants as derivations
use Rattle.luks_meta.specs.declared.keyslot.Keyslot.{Keyslot}
use Rattle.luks_meta.specs.declared.keyslot.Keyslot.TheVariants as keyslots
use Rattle.luks_meta.specs.declared.keyslot.Luks2.{Luks2}
use Rattle.luks_meta.specs.declared.keyslot.Pbkdf2.{Pbkdf2}
use Rattle.luks_meta.specs.declared.keyslot.Priority.{Priority as Rank}
use Rattle.luks_meta.specs.declared.keyslot.Priority.TheVariants.{Normal, High}
use Rattle.luks_meta.specs.declared.meta.Parts.{Parts}
use Rattle.luks_rules.specs.Areas.{area_of, areas_begin, areas_of}
use Rattle.luks_rules.specs.Plain.{IsWithin}
use Rattle.luks_rules.specs.References.{lists}
use Rattle.luks_rules.specs.States.{IsSound}
use Rattle.luks_rules.specs.declared.areas.Area.{Area}
use Rattle.luks_slots.proofs.GapLemmas.{least-rounded}
use Rattle.luks_slots.proofs.ReadyLemmas.{found, skipped, IsWhole}
use Rattle.luks_slots.proofs.SlotLemmas.{has-room}
use Rattle.luks_slots.specs.Slots.{functions_for, is_ranked}
use Rattle.luks_slots.specs.Stripes.{rounded, sectors_len, split_len, stored_key, stripes_in}
use Rattle.luks_slots.specs.Unlocks.{first_key, if_matching, key_in, key_of, key_of_slot}
use Rattle.luks_slots.specs.Unlocks.{or_else, stored_by}
use Rattle.luks_slots.specs.declared.functions.Functions.{Functions}
use Rattle.sector_disk.specs.Geometry.{IsAtom}

-- ---- what is read of an area
-- the sectors of as many stripes as have room in an area are the same in two images
abbrev IsReadAlike : List ℕ → List ℕ → Area → Type 0
IsReadAlike image other a =
    (n : ℕ) → n ≤ a.size
    → take (rounded n 512) (drop a.offset image) ≡ take (rounded n 512) (drop a.offset other)

behind-begin : (begin offset : ℕ) (image other : List ℕ) → begin ≤ offset
    → drop begin image ≡ drop begin other → drop offset image ≡ drop offset other
behind-begin begin offset image other le same =
    let at : offset ≡ begin + (offset - begin) = omega (arith, le) in
    ap (λ n. drop n image) at ∙ sym (drop-drop (offset - begin) begin image)
    ∙ ap (drop (offset - begin)) same ∙ drop-drop (offset - begin) begin other
    ∙ sym (ap (λ n. drop n other) at)

-- a part of bytes from a place on
part-of : (begin size offset n : ℕ) (image : List ℕ) → begin ≤ offset → offset + n ≤ begin + size
    → take n (drop offset image)
    ≡ take n (drop (offset - begin) (take size (drop begin image)))
part-of begin size offset n image le within =
    let at : offset ≡ begin + (offset - begin) = omega (arith, le) in
    let all : size ≡ (offset - begin) + (size - (offset - begin)) = omega (arith, le, within) in
    let short : n ≤ size - (offset - begin) = omega (arith, le, within) in
    ap (λ k. take n (drop k image)) at ∙ ap (take n) (sym (drop-drop (offset - begin) begin image))
    ∙ sym (take-take n (size - (offset - begin)) (drop (offset - begin) (drop begin image)) short)
    ∙ ap (take n) (sym (drop-take (offset - begin) (size - (offset - begin)) (drop begin image)))
    ∙ ap (λ k. take n (drop (offset - begin) (take k (drop begin image)))) (sym all)

-- an area of whole atoms has whole sectors
whole-sectors : (atom n : ℕ) → IsAtom atom → n % atom ≡ 0 → n % 512 ≡ 0
whole-sectors atom n (inl is) whole = (let h = rw is at whole in h)
whole-sectors atom n (inr is) whole = (let h = rw is at whole in omega (arith, h))

within-alike : (c : Config) (atom : ℕ) (image other : List ℕ) → IsAtom atom
    → take c.keyslots_size (drop (areas_begin c) image)
    ≡ take c.keyslots_size (drop (areas_begin c) other)
    → (a : Area) → IsWithin c a → IsWhole atom a → IsReadAlike image other a
within-alike c atom image other known same a lies whole = λ n room.
    let most : rounded n 512 ≤ a.size =
    least-rounded n 512 a.size (omega arith) room (whole-sectors atom a.size known whole.1) in
    let last = lies.1 in
    let begin : ℕ = areas_begin c in
    let fits : a.offset + rounded n 512 ≤ begin + c.keyslots_size = omega (arith, last, most) in
    part-of begin c.keyslots_size a.offset (rounded n 512) image lies.0 fits
    ∙ ap (λ bytes. take (rounded n 512) (drop (a.offset - begin) bytes)) same
    ∙ sym (part-of begin c.keyslots_size a.offset (rounded n 512) other lies.0 fits)

-- ---- what the keyslots give
module _ (m : Parts) (d : Digest) (image other pass : List ℕ) where
  stored-same : (slot : Luks2) (kdf : Pbkdf2) (functions : Functions)
      → take (sectors_len slot.key_size) (drop slot.area.offset image)
      ≡ take (sectors_len slot.key_size) (drop slot.area.offset other)
      → stored_key image pass kdf functions slot ≡ stored_key other pass kdf functions slot
  unfolding stored_key stripes_in
  stored-same slot kdf functions same = rw same refl

  by-functions : (slot : Luks2)
      → IsReadAlike image other (record { offset = slot.area.offset; size = slot.area.size })
      → (k : Derivation) (f : Option Functions) → functions_for m d slot ≡ f
      → stored_by image pass slot k f ≡ stored_by other pass slot k f
  by-functions slot alike (derivations.Pbkdf2 kdf) (Some functions) is =
      ap (λ k. Some k)
      (stored-same slot kdf functions
      (alike (split_len slot.key_size) (has-room m d slot functions is)))
  by-functions slot alike (derivations.Pbkdf2 kdf) None is = refl
  by-functions slot alike (derivations.Unknown kind) (Some functions) is = refl
  by-functions slot alike (derivations.Unknown kind) None is = refl

  slot-same : (n : ℕ) (slot : Luks2)
      → IsReadAlike image other (record { offset = slot.area.offset; size = slot.area.size })
      → key_of_slot m d image pass n slot ≡ key_of_slot m d other pass n slot
  unfolding key_of_slot key_in
  slot-same n slot alike =
      ap (λ k. if lists d.keyslots n then if_matching d k else None)
      (by-functions slot alike slot.kdf.derivation (functions_for m d slot) refl)

  first-same : (rank : Rank) (slots : List (ℕ × Keyslot))
      → All (IsReadAlike image other) (found slots)
      → first_key m d image pass rank slots ≡ first_key m d other pass rank slots
  unfolding first_key
  first-same rank [] alike = refl
  first-same rank ((n, keyslots.Luks2 s) ∷ slots) alike =
      let a : Area = record { offset = s.area.offset; size = s.area.size } in
      let one = All-head (IsReadAlike image other) a (found slots) alike in
      let rest =
      first-same rank slots (All-tail (IsReadAlike image other) a (found slots) alike) in
      let here =
      ap (λ k. if is_ranked rank s.priority then k else None) (slot-same n s one) in
      (λ i. or_else (here i) (rest i))
  first-same rank ((n, keyslots.Reencrypt s) ∷ slots) alike =
      first-same rank slots
      (skipped (IsReadAlike image other) (area_of (keyslots.Reencrypt s)) (found slots) alike)
  first-same rank ((n, keyslots.Unknown s) ∷ slots) alike =
      first-same rank slots
      (skipped (IsReadAlike image other) (area_of (keyslots.Unknown s)) (found slots) alike)

  key-same : All (IsReadAlike image other) (areas_of m.keyslots)
      → key_of m d image pass ≡ key_of m d other pass
  unfolding key_of areas_of
  key-same alike =
      let high = first-same High m.keyslots alike in
      let normal = first-same Normal m.keyslots alike in
      (λ i. or_else (high i) (normal i))

  pub key-behind : (sizes : Sizes) → IsSound m sizes
      → drop (areas_begin m.config) image ≡ drop (areas_begin m.config) other
      → key_of m d image pass ≡ key_of m d other pass
  key-behind sizes sound same = key-same
      (All-weaker (IsWithin m.config) (IsReadAlike image other)
      (λ a lies. (λ n room. ap (take (rounded n 512))
      (behind-begin (areas_begin m.config) a.offset image other lies.0 same)))
      (areas_of m.keyslots) sound.within.areas)

  pub key-in-areas : (sizes : Sizes) → IsSound m sizes → IsAtom sizes.atom
      → take m.config.keyslots_size (drop (areas_begin m.config) image)
      ≡ take m.config.keyslots_size (drop (areas_begin m.config) other)
      → key_of m d image pass ≡ key_of m d other pass
  key-in-areas sizes sound known same =
      let areas = areas_of m.keyslots in
      key-same
      (All-weaker (Contains areas) (IsReadAlike image other)
      (λ a there. within-alike m.config sizes.atom image other known same a
      (All-contains (IsWithin m.config) areas a sound.within.areas there)
      (All-contains (IsWhole sizes.atom) areas a sound.atoms.areas there)) areas
      (All-contains_itself areas))
