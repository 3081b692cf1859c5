-- Keyslots that are supported for a digest, and what they give to a passphrase.
use Rattle.std.proofs.Common.{◌≡◌, ℕ, ◌≤◌, ◌&&◌, ◌==◌, nat_le, Bool, true, false, List, []}
use Rattle.std.proofs.Common.{◌∷◌, Option, Some, None, refl, sym, ◌∙◌, ap, if◌then◌else◌}
use Rattle.std.proofs.lemmas.Bool.{and_parts, leb-true}
use Rattle.luks_meta.specs.declared.digest.Digest.{Digest}
use Rattle.luks_meta.specs.declared.keyslot.Derivation.{Derivation}
use Rattle.luks_meta.specs.declared.keyslot.Derivation.TheVariants as derivations
use Rattle.luks_meta.specs.declared.keyslot.Keyslot.{Keyslot}
use Rattle.luks_meta.specs.declared.keyslot.Keyslot.TheVariants as keyslots
use Rattle.luks_meta.specs.declared.keyslot.Luks2.{Luks2}
use Rattle.luks_meta.specs.declared.keyslot.Pbkdf2.{Pbkdf2}
use Rattle.luks_meta.specs.declared.keyslot.Priority.{Priority as Rank}
use Rattle.luks_meta.specs.declared.meta.Parts.{Parts}
use Rattle.luks_rules.specs.References.{lists}
use Rattle.luks_slots.specs.Functions.{functions_of, has_key_length}
use Rattle.luks_slots.specs.Slots.{fits, functions_for, has_room, has_sizes, HasSizes, if_sized}
use Rattle.luks_slots.specs.Slots.{is_ranked, opened_by}
use Rattle.luks_slots.specs.Stripes.{split_len, stored_key}
use Rattle.luks_slots.specs.Unlocks.{first_key, if_matching, key_at, key_in, key_of_slot, matches}
use Rattle.luks_slots.specs.Unlocks.{stored_by}
use Rattle.luks_slots.specs.declared.functions.Functions.{Functions}

within : (n : ℕ) (rest : Bool) → ((nat_le 1 n && nat_le n 64) && rest) ≡ true → (1 ≤ n) × (n ≤ 64)
within n rest is =
    let t = and_parts (nat_le 1 n) (nat_le n 64)
    (and_parts (nat_le 1 n && nat_le n 64) rest is).0 in
    (leb-true 1 n t.0, leb-true n 64 t.1)

fitting : (m : Parts) (d : Digest) (n : ℕ) → fits m d n ≡ true → (1 ≤ n) × (n ≤ 64)
unfolding fits
fitting m d n is = within n _ is

pub sized : (m : Parts) (d : Digest) (slot : Luks2) (functions : Functions)
    → has_sizes m d slot functions ≡ true
    → HasSizes m d slot functions
sized m d slot functions is =
    let t = and_parts (has_key_length functions.cipher slot.area.key_size && fits m d slot.key_size)
    (has_room slot) is in
    let u = and_parts (has_key_length functions.cipher slot.area.key_size) (fits m d slot.key_size)
    t.0 in
    let v = fitting m d slot.key_size u.1 in
    let w = and_parts (slot.af.stripes == 4000) (nat_le (split_len slot.key_size) slot.area.size)
    t.1 in
    record {
      key = u.0;
      fit = u.1;
      some = v.0;
      most = v.1;
      room = leb-true (split_len slot.key_size) slot.area.size w.1;
    }

room-by : (m : Parts) (d : Digest) (slot : Luks2) (functions supported : Functions) (b : Bool)
    → has_sizes m d slot functions ≡ b
    → (if b then Some functions else None) ≡ Some supported
    → split_len slot.key_size ≤ slot.area.size
room-by m d slot functions supported true is some = (sized m d slot functions is).room
room-by m d slot functions supported false is some = absurd cc

room-of : (m : Parts) (d : Digest) (slot : Luks2) (supported : Functions) (k : Derivation)
    → opened_by m d slot k ≡ Some supported → split_len slot.key_size ≤ slot.area.size
room-of m d slot supported (derivations.Unknown kind) is = absurd cc
room-of m d slot supported (derivations.Pbkdf2 kdf) is = go (functions_of kdf slot) is
  where
    go : (o : Option Functions) → if_sized m d slot o ≡ Some supported
        → split_len slot.key_size ≤ slot.area.size
    go None some = absurd cc
    go (Some functions) some =
        room-by m d slot functions supported (has_sizes m d slot functions) refl some

-- the area of a keyslot that is supported has room for its stripes
pub has-room : (m : Parts) (d : Digest) (slot : Luks2) (functions : Functions)
    → functions_for m d slot ≡ Some functions → split_len slot.key_size ≤ slot.area.size
unfolding functions_for
has-room m d slot functions is = room-of m d slot functions slot.kdf.derivation is

-- ---- what a keyslot gives
pub not-derived : (m : Parts) (d : Digest) (image pass : List ℕ) (slot : Luks2) (kind : List ℕ)
    → slot.kdf.derivation ≡ derivations.Unknown kind
    → if_matching d (key_in m d image pass slot) ≡ None
unfolding key_in
not-derived m d image pass slot kind is =
    ap (λ k. if_matching d (stored_by image pass slot k (functions_for m d slot))) is

pub not-supported : (m : Parts) (d : Digest) (image pass : List ℕ) (slot : Luks2) (kdf : Pbkdf2)
    → slot.kdf.derivation ≡ derivations.Pbkdf2 kdf → functions_for m d slot ≡ None
    → if_matching d (key_in m d image pass slot) ≡ None
unfolding key_in
not-supported m d image pass slot kdf is none =
    ap (λ k. if_matching d (stored_by image pass slot k (functions_for m d slot))) is
    ∙ ap (λ f. if_matching d (stored_by image pass slot (derivations.Pbkdf2 kdf) f)) none

stored : (m : Parts) (d : Digest) (image pass : List ℕ) (slot : Luks2) (kdf : Pbkdf2)
    (functions : Functions)
    → slot.kdf.derivation ≡ derivations.Pbkdf2 kdf → functions_for m d slot ≡ Some functions
    → key_in m d image pass slot ≡ Some (stored_key image pass kdf functions slot)
unfolding key_in
stored m d image pass slot kdf functions is of =
    ap (λ k. stored_by image pass slot k (functions_for m d slot)) is
    ∙ ap (λ f. stored_by image pass slot (derivations.Pbkdf2 kdf) f) of

if-matching : (d : Digest) (key : List ℕ) → matches d key ≡ true
    → if_matching d (Some key) ≡ Some key
if-matching d key same = rw same refl

if-not : (d : Digest) (key : List ℕ) → matches d key ≡ false → if_matching d (Some key) ≡ None
if-not d key other = rw other refl

pub matching : (m : Parts) (d : Digest) (image pass : List ℕ) (slot : Luks2) (kdf : Pbkdf2)
    (functions : Functions) (key : List ℕ)
    → slot.kdf.derivation ≡ derivations.Pbkdf2 kdf → functions_for m d slot ≡ Some functions
    → key ≡ stored_key image pass kdf functions slot → matches d key ≡ true
    → Some key ≡ if_matching d (key_in m d image pass slot)
matching m d image pass slot kdf functions key is of same right =
    sym (ap (if_matching d)
    (stored m d image pass slot kdf functions is of ∙ ap (λ k. Some k) (sym same))
    ∙ if-matching d key right)

pub differing : (m : Parts) (d : Digest) (image pass : List ℕ) (slot : Luks2) (kdf : Pbkdf2)
    (functions : Functions) (key : List ℕ)
    → slot.kdf.derivation ≡ derivations.Pbkdf2 kdf → functions_for m d slot ≡ Some functions
    → key ≡ stored_key image pass kdf functions slot → matches d key ≡ false
    → None ≡ if_matching d (key_in m d image pass slot)
differing m d image pass slot kdf functions key is of same wrong =
    sym (ap (if_matching d)
    (stored m d image pass slot kdf functions is of ∙ ap (λ k. Some k) (sym same))
    ∙ if-not d key wrong)

-- ---- by priority and list
pub other-rank : (m : Parts) (d : Digest) (image pass : List ℕ) (rank : Rank) (n : ℕ) (slot : Luks2)
    → is_ranked rank slot.priority ≡ false
    → key_at m d image pass rank (n, keyslots.Luks2 slot) ≡ None
other-rank m d image pass rank n slot is = rw is refl

pub not-listed : (m : Parts) (d : Digest) (image pass : List ℕ) (rank : Rank) (n : ℕ) (slot : Luks2)
    → is_ranked rank slot.priority ≡ true → lists d.keyslots n ≡ false
    → key_at m d image pass rank (n, keyslots.Luks2 slot) ≡ None
unfolding key_of_slot
not-listed m d image pass rank n slot ranked is = rw (ranked, is) refl

pub listed : (m : Parts) (d : Digest) (image pass : List ℕ) (rank : Rank) (n : ℕ) (slot : Luks2)
    → is_ranked rank slot.priority ≡ true → lists d.keyslots n ≡ true
    → key_at m d image pass rank (n, keyslots.Luks2 slot)
    ≡ if_matching d (key_in m d image pass slot)
unfolding key_of_slot
listed m d image pass rank n slot ranked is = rw (ranked, is) refl

pub listed-at : (m : Parts) (d : Digest) (image pass : List ℕ) (rank : Rank) (n : ℕ) (k : Keyslot)
    (slot : Luks2)
    → k ≡ keyslots.Luks2 slot → is_ranked rank slot.priority ≡ true → lists d.keyslots n ≡ true
    → key_at m d image pass rank (n, k) ≡ if_matching d (key_in m d image pass slot)
listed-at m d image pass rank n k slot is ranked there =
    ap (λ z. key_at m d image pass rank (n, z)) is ∙ listed m d image pass rank n slot ranked there

pub not-listed-at : (m : Parts) (d : Digest) (image pass : List ℕ) (rank : Rank) (n : ℕ)
    (k : Keyslot) (slot : Luks2)
    → k ≡ keyslots.Luks2 slot → is_ranked rank slot.priority ≡ true → lists d.keyslots n ≡ false
    → key_at m d image pass rank (n, k) ≡ None
not-listed-at m d image pass rank n k slot is ranked there =
    ap (λ z. key_at m d image pass rank (n, z)) is
    ∙ not-listed m d image pass rank n slot ranked there

-- ---- the first of some
pub first-none : (m : Parts) (d : Digest) (image pass : List ℕ) (rank : Rank)
    → first_key m d image pass rank [] ≡ None
unfolding first_key
first-none m d image pass rank = refl

pub first-here : (m : Parts) (d : Digest) (image pass key : List ℕ) (rank : Rank)
    (slot : ℕ × Keyslot) (slots : List (ℕ × Keyslot))
    → key_at m d image pass rank slot ≡ Some key
    → first_key m d image pass rank (slot ∷ slots) ≡ Some key
unfolding first_key
first-here m d image pass key rank slot slots is = rw is refl

pub first-later : (m : Parts) (d : Digest) (image pass : List ℕ) (rank : Rank) (slot : ℕ × Keyslot)
    (slots : List (ℕ × Keyslot))
    → key_at m d image pass rank slot ≡ None
    → first_key m d image pass rank (slot ∷ slots) ≡ first_key m d image pass rank slots
unfolding first_key
first-later m d image pass rank slot slots is = rw is refl
