-- The key that keyslots give to a passphrase goes by what their areas hold, by the keyslots that a
-- digest lists, and by which keys fit its segments.
use Rattle.std.proofs.Common.{◌≡◌, ℕ, ◌&&◌, List, [], ◌∷◌, take, drop, Option, Some, None, refl}
use Rattle.std.proofs.Common.{◌∙◌, ap, if◌then◌else◌}
use Rattle.std.proofs.lemmas.List.Elements.{All-cons, All-head, All-tail}
use Rattle.std.specs.List.{All}
use Rattle.luks_meta.specs.declared.digest.Digest.{Digest}
use Rattle.luks_meta.specs.declared.keyslot.Derivation.{Derivation}
use Rattle.luks_meta.specs.declared.keyslot.Derivation.TheVariants as derivations
use Rattle.luks_meta.specs.declared.keyslot.Keyslot.{Keyslot}
use Rattle.luks_meta.specs.declared.keyslot.Keyslot.TheVariants as keyslots
use Rattle.luks_meta.specs.declared.keyslot.Luks2.{Luks2}
use Rattle.luks_meta.specs.declared.keyslot.Pbkdf2.{Pbkdf2}
use Rattle.luks_meta.specs.declared.keyslot.Priority.{Priority as Rank}
use Rattle.luks_meta.specs.declared.keyslot.Priority.TheVariants.{Normal, High}
use Rattle.luks_meta.specs.declared.meta.Parts.{Parts}
use Rattle.luks_rules.specs.Areas.{area_of, areas_of}
use Rattle.luks_rules.specs.References.{lists}
use Rattle.luks_rules.specs.declared.areas.Area.{Area}
use Rattle.luks_slots.proofs.ReadyLemmas.{found, skipped}
use Rattle.luks_slots.proofs.SlotLemmas.{has-room}
use Rattle.luks_slots.specs.Functions.{functions_of, has_key_length}
use Rattle.luks_slots.specs.Slots.{fits, functions_for, has_room, if_sized, is_ranked, opened_by}
use Rattle.luks_slots.specs.Stripes.{sectors_len, split_len, stored_key, stripes_in}
use Rattle.luks_slots.specs.Unlocks.{first_key, if_matching, key_in, key_of, key_of_slot, matches}
use Rattle.luks_slots.specs.Unlocks.{or_else, stored_by}
use Rattle.luks_slots.specs.declared.functions.Functions.{Functions}
use Rattle.image_laws.proofs.Started.AgreeLemmas.{IsReadAlike}
use Rattle.image_laws.specs.Started.Gaps.{key_areas}

stored-same : (image other pass : List ℕ) (slot : Luks2) (kdf : Pbkdf2) (functions : Functions)
    → take (sectors_len slot.key_size) (drop slot.area.offset image)
    ≡ take (sectors_len slot.key_size) (drop slot.area.offset other)
    → stored_key image pass kdf functions slot ≡ stored_key other pass kdf functions slot
unfolding stored_key stripes_in
stored-same image other pass slot kdf functions same = rw same refl

-- two digests of two headers list the same keyslots, are of the same keys, and have segments that
-- keys of the same lengths fit
pub record AreAlike (m n : Parts) (d e : Digest) : Type 0 where
  pub listed : d.keyslots ≡ e.keyslots
  pub same : (key : List ℕ) → matches d key ≡ matches e key
  pub fit : (k : ℕ) → fits m d k ≡ fits n e k

pub alike-itself : (m : Parts) (d : Digest) → AreAlike m m d d
alike-itself m d = record { listed = refl; same = λ key. refl; fit = λ k. refl }

module _ (m n : Parts) (d e : Digest) (image other pass : List ℕ) (alike : AreAlike m n d e) where
  sized-same : (slot : Luks2) (o : Option Functions) → if_sized m d slot o ≡ if_sized n e slot o
  sized-same slot None = refl
  sized-same slot (Some functions) =
      ap (λ b. if (has_key_length functions.cipher slot.area.key_size && b) && has_room slot
      then Some functions else None) (alike.fit slot.key_size)

  opened-same : (slot : Luks2) (k : Derivation) → opened_by m d slot k ≡ opened_by n e slot k
  opened-same slot (derivations.Unknown kind) = refl
  opened-same slot (derivations.Pbkdf2 kdf) = sized-same slot (functions_of kdf slot)

  functions-same : (slot : Luks2) → functions_for m d slot ≡ functions_for n e slot
  unfolding functions_for
  functions-same slot = opened-same slot slot.kdf.derivation

  by-functions : (slot : Luks2)
      → IsReadAlike image other (record { offset = slot.area.offset; size = slot.area.size })
      → (k : Derivation) (f : Option Functions) → functions_for m d slot ≡ f
      → stored_by image pass slot k f ≡ stored_by other pass slot k f
  by-functions slot read (derivations.Pbkdf2 kdf) (Some functions) is =
      ap (λ k. Some k)
      (stored-same image other pass slot kdf functions
      (read (split_len slot.key_size) (has-room m d slot functions is)))
  by-functions slot read (derivations.Pbkdf2 kdf) None is = refl
  by-functions slot read (derivations.Unknown kind) (Some functions) is = refl
  by-functions slot read (derivations.Unknown kind) None is = refl

  matching-same : (o : Option (List ℕ)) → if_matching d o ≡ if_matching e o
  matching-same None = refl
  matching-same (Some key) = ap (λ b. if b then Some key else None) (alike.same key)

  slot-same : (number : ℕ) (slot : Luks2)
      → IsReadAlike image other (record { offset = slot.area.offset; size = slot.area.size })
      → key_of_slot m d image pass number slot ≡ key_of_slot n e other pass number slot
  unfolding key_of_slot key_in
  slot-same number slot read =
      ap (λ k. if lists d.keyslots number then if_matching d k else None)
      (by-functions slot read slot.kdf.derivation (functions_for m d slot) refl
      ∙ ap (stored_by other pass slot slot.kdf.derivation) (functions-same slot))
      ∙ ap (λ k. if lists d.keyslots number then k else None)
      (matching-same (stored_by other pass slot slot.kdf.derivation (functions_for n e slot)))
      ∙ ap (λ numbers. if lists numbers number
      then if_matching e (stored_by other pass slot slot.kdf.derivation (functions_for n e slot))
      else None) alike.listed

  -- keyslots whose areas are read alike give the same
  pub first-same : (rank : Rank) (slots : List (ℕ × Keyslot))
      → All (IsReadAlike image other) (key_areas slots)
      → first_key m d image pass rank slots ≡ first_key n e other pass rank slots
  unfolding first_key
  first-same rank [] read = refl
  first-same rank ((number, keyslots.Luks2 s) ∷ slots) read =
      let a : Area = record { offset = s.area.offset; size = s.area.size } in
      let one = All-head (IsReadAlike image other) a (key_areas slots) read in
      let rest =
      first-same rank slots (All-tail (IsReadAlike image other) a (key_areas slots) read) in
      let here =
      ap (λ k. if is_ranked rank s.priority then k else None) (slot-same number s one) in
      (λ i. or_else (here i) (rest i))
  first-same rank ((number, keyslots.Reencrypt s) ∷ slots) read = first-same rank slots read
  first-same rank ((number, keyslots.Unknown s) ∷ slots) read = first-same rank slots read

-- the areas from which keys are read are some of all areas
pub among-areas : (P : Area → Type 0) (slots : List (ℕ × Keyslot)) → All P (areas_of slots)
    → All P (key_areas slots)
unfolding areas_of
among-areas P [] all = all
among-areas P ((number, keyslots.Luks2 s) ∷ slots) all =
    let a : Area = record { offset = s.area.offset; size = s.area.size } in
    All-cons P a (key_areas slots) (All-head P a (found slots) all)
    (among-areas P slots (All-tail P a (found slots) all))
among-areas P ((number, keyslots.Reencrypt s) ∷ slots) all =
    among-areas P slots (skipped P (area_of (keyslots.Reencrypt s)) (found slots) all)
among-areas P ((number, keyslots.Unknown s) ∷ slots) all =
    among-areas P slots (skipped P (area_of (keyslots.Unknown s)) (found slots) all)

-- of one header
pub key-same : (m : Parts) (d : Digest) (image other pass : List ℕ)
    → All (IsReadAlike image other) (key_areas m.keyslots)
    → key_of m d image pass ≡ key_of m d other pass
unfolding key_of
key-same m d image other pass read =
    let alike = alike-itself m d in
    let high = first-same m m d d image other pass alike High m.keyslots read in
    let normal = first-same m m d d image other pass alike Normal m.keyslots read in
    (λ i. or_else (high i) (normal i))
