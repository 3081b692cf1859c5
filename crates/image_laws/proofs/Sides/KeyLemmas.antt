-- Two headers that tell the same of a side give the same key of it to a passphrase.
use Rattle.std.proofs.Common.{◌≡◌, ◌∙◌, ℕ, ◌%◌, List, [], ◌∷◌, Option, Some, None, Bool, true, false}
use Rattle.std.proofs.Common.{refl, sym, ap, ap₂, subst, cond, if◌then◌else◌}
use Rattle.std.proofs.lemmas.List.Elements.{All-contains, All-contains_itself, All-from_recursion}
use Rattle.std.proofs.lemmas.List.Elements.{All-weaker, recursion_from_All}
use Rattle.std.specs.List.{All, AllByRecursion, cons_option, filter}
use Rattle.std.specs.Option.{IsSome}
use Rattle.std.specs.Prelude.{Contains, option_and_then, option_map}
use Rattle.base_terms.specs.declared.disk_sizes.Sizes.{Sizes}
use Rattle.luks_meta.specs.declared.digest.Digest.{Digest}
use Rattle.luks_meta.specs.declared.keyslot.Keyslot.{Keyslot}
use Rattle.luks_meta.specs.declared.keyslot.Keyslot.TheVariants as keyslots
use Rattle.luks_meta.specs.declared.keyslot.Priority.{Priority as Rank}
use Rattle.luks_meta.specs.declared.keyslot.Priority.TheVariants.{High, Normal}
use Rattle.luks_meta.specs.declared.meta.Parts.{Parts}
use Rattle.luks_meta.specs.declared.segment.Encryption.{Encryption}
use Rattle.luks_meta.specs.declared.segment.Segment.{Segment}
use Rattle.luks_rules.specs.References.{lists, value_at}
use Rattle.luks_rules.specs.States.{IsSound}
use Rattle.luks_rules.specs.declared.areas.Area.{Area}
use Rattle.luks_rules.specs.declared.extents.Extent.{Extent}
use Rattle.luks_slots.specs.Slots.{is_ranked, takes_key}
use Rattle.luks_slots.specs.Unlocks.{first_key, key_at, key_of, key_of_slot, matches, or_else}
use Rattle.reenc_recovery.specs.Keys.{IsKeyBy, IsKeyOf, key_by, key_for}
use Rattle.sector_disk.specs.Geometry.{IsAtom}
use Rattle.segment_map.specs.declared.Side.{Side}
use Rattle.image_laws.proofs.Sides.LengthLemmas.{HasDigest, digest-of-side, fits_so, side-length}
use Rattle.image_laws.proofs.Sides.ReadLemmas.{read-alike}
use Rattle.image_laws.specs.Sides.Keys.{AreOneSide, HasSameAtoms, SidesGiveTheirKeys, SidesHaveOneKey}
use Rattle.image_laws.proofs.Started.AgreeLemmas.{IsReadAlike}
use Rattle.image_laws.proofs.Started.KeyLemmas.{AreAlike, among-areas, first-same}
use Rattle.image_laws.specs.Started.Gaps.{key_area, key_areas}
use Rattle.hotzone.specs.ZoneEvents.Tellings.{digest_on, for_one, is_listed, numbered, side_alone}
use Rattle.hotzone.specs.ZoneEvents.Tellings.{whole_segment}

-- ---- a keyslot that isn't listed gives none
module _ (m : Parts) (d : Digest) (image pass : List ℕ) (rank : Rank) where
  none-at : (slot : ℕ × Keyslot) → lists d.keyslots slot.0 ≡ false
      → key_at m d image pass rank slot ≡ None
  unfolding key_of_slot
  none-at (n, keyslots.Luks2 s) unlisted =
      go (is_ranked rank s.priority) (lists d.keyslots n) _ unlisted
    where
      go : (ranked listed : Bool) (o : Option (List ℕ)) → listed ≡ false
          → ◌≡◌ {A = Option (List ℕ)} (if ranked then (if listed then o else None) else None) None
      go true listed o none = rw none refl
      go false listed o none = refl
  none-at (n, keyslots.Reencrypt s) unlisted = refl
  none-at (n, keyslots.Unknown s) unlisted = refl

  listed-first : (slots : List (ℕ × Keyslot)) → first_key m d image pass rank slots
      ≡ first_key m d image pass rank (filter (λ slot. lists d.keyslots slot.0) slots)
  unfolding first_key
  listed-first [] = refl
  listed-first (s ∷ slots) = go (lists d.keyslots s.0) refl (listed-first slots)
    where
      go : (b : Bool) → lists d.keyslots s.0 ≡ b
          → first_key m d image pass rank slots
          ≡ first_key m d image pass rank (filter (λ slot. lists d.keyslots slot.0) slots)
          → or_else (key_at m d image pass rank s) (first_key m d image pass rank slots)
          ≡ first_key m d image pass rank
          (cond b (s ∷ filter (λ slot. lists d.keyslots slot.0) slots)
          (filter (λ slot. lists d.keyslots slot.0) slots))
      go true listed later = ap (or_else (key_at m d image pass rank s)) later
      go false unlisted later =
          ap (λ o. or_else o (first_key m d image pass rank slots)) (none-at s unlisted) ∙ later

key-of-listed : (m : Parts) (d : Digest) (image pass : List ℕ) (slots : List (ℕ × Keyslot))
    → filter (λ slot. lists d.keyslots slot.0) m.keyslots ≡ slots
    → key_of m d image pass
    ≡ or_else (first_key m d image pass High slots) (first_key m d image pass Normal slots)
unfolding key_of
key-of-listed m d image pass slots same =
    ap₂ or_else
    (listed-first m d image pass High m.keyslots ∙ ap (first_key m d image pass High) same)
    (listed-first m d image pass Normal m.keyslots ∙ ap (first_key m d image pass Normal) same)

-- digests that are the same by themselves are of the same keys
matches-alike : (d g : Digest) → for_one g ≡ for_one d → (key : List ℕ)
    → matches d key ≡ matches g key
unfolding matches
matches-alike d g same key =
    rw (
      ap (λ (x : Digest). x.digest) same,
      ap (λ (x : Digest). x.hash) same,
      ap (λ (x : Digest). x.salt) same,
      ap (λ (x : Digest). x.iterations) same,
    ) refl

-- ---- what a side by itself has
alone-segment : (m n : Parts) (e f : Extent) → side_alone n f ≡ side_alone m e
    → whole_segment f ≡ whole_segment e
unfolding side_alone
alone-segment m n e f same =
    let segments = ap (λ (p : Parts). p.segments) same in
    let entry : ◌≡◌ {A = ℕ × Segment} (0, whole_segment f) (0, whole_segment e) = cc in
    ap (λ s. s.1) entry

alone-digests : (m n : Parts) (e f : Extent) → side_alone n f ≡ side_alone m e
    → numbered f.digest (digest_on n f) ≡ numbered e.digest (digest_on m e)
unfolding side_alone
alone-digests m n e f same = ap (λ (p : Parts). p.digests) same

alone-slots : (m : Parts) (e : Extent) (o : Option Digest) → digest_on m e ≡ o
    → (side_alone m e).keyslots ≡ filter (λ slot. is_listed o slot.0) m.keyslots
unfolding side_alone
alone-slots m e o is =
    ap (λ p. filter (λ (slot : ℕ × Keyslot). is_listed p slot.0) m.keyslots) is

digest-is : (m : Parts) (e : Extent) (has : HasDigest m e)
    → digest_on m e ≡ Some (for_one has.digest)
digest-is m e has =
    ap (λ o. option_map for_one (option_and_then (value_at m.digests) o)) has.is
    ∙ ap (λ o. option_map for_one o) has.there

-- ---- the digest that a side by itself has
record FoundDigest (n : Parts) (f : Extent) (g : Digest) : Type 0 where
  number : ℕ
  digest : Digest
  is : f.digest ≡ Some number
  there : value_at n.digests number ≡ Some digest
  alike : for_one digest ≡ g

found-digest : (n : Parts) (f : Extent) (x : ℕ) (g : Digest)
    → numbered f.digest (digest_on n f) ≡ (x, g) ∷ [] → FoundDigest n f g
found-digest n f x g same = go f.digest refl same
  where
    in_one : (y : ℕ) (a : Digest)
        → ◌≡◌ {A = List (ℕ × Digest)} ((y, a) ∷ []) ((x, g) ∷ []) → a ≡ g
    in_one y a h =
        let pairs : ◌≡◌ {A = ℕ × Digest} (y, a) (x, g) = cc in ap (λ p. p.1) pairs

    by : (y : ℕ) → f.digest ≡ Some y → (o : Option Digest) → value_at n.digests y ≡ o
        → numbered (Some y) (option_map for_one o) ≡ (x, g) ∷ [] → FoundDigest n f g
    by y at None there h = absurd cc
    by y at (Some d) there h = record {
      number = y;
      digest = d;
      is = at;
      there = there;
      alike = in_one y (for_one d) h;
    }

    go : (o : Option ℕ) → f.digest ≡ o
        → numbered o (option_map for_one (option_and_then (value_at n.digests) o)) ≡ (x, g) ∷ []
        → FoundDigest n f g
    go None at h = absurd cc
    go (Some y) at h = by y at (value_at n.digests y) refl h

-- ---- keys of the digest
module _ (m n : Parts) (e f : Extent) (same : side_alone n f ≡ side_alone m e) (key : List ℕ) where
  right-by : (c : Option Encryption) (o : Option ℕ) → e.digest ≡ o → IsKeyBy m c o key
      → IsKeyBy n c f.digest key
  right-by None o at is = is
  right-by (Some c) None at is = absurd is
  right-by (Some c) (Some x) at (d, there, fit) =
      let told : numbered e.digest (digest_on m e) ≡ (x, for_one d) ∷ [] =
      ap (λ o. numbered o (option_map for_one (option_and_then (value_at m.digests) o))) at
      ∙ ap (λ o. numbered (Some x) (option_map for_one o)) there in
      let has = found-digest n f x (for_one d) (alone-digests m n e f same ∙ told) in
      subst (λ o. IsKeyBy n (Some c) o key) (sym has.is)
      (has.digest, has.there, sym (matches-alike d has.digest has.alike key) ∙ fit)

  right-key : IsKeyOf m e key → IsKeyOf n f key
  right-key is =
      let sealed : f.encryption ≡ e.encryption =
      ap (λ (s : Segment). s.encryption) (alone-segment m n e f same) in
      subst (λ c. IsKeyBy n c f.digest key) (sym sealed) (right-by e.encryption e.digest refl is)

pub one-key : SidesHaveOneKey
one-key m n e f same =
    let segment = alone-segment m n e f same in record {
      offset = ap (λ (s : Segment). s.offset) segment;
      encryption = ap (λ (s : Segment). s.encryption) segment;
      right = λ key. (right-key m n e f same key, right-key n m f e (sym same) key);
    }

-- ---- areas from which keys are read
each-more : (P : Area → Type 0) (o : Option Area) (xs ys : List Area)
    → AllByRecursion P (cons_option o xs) → (AllByRecursion P xs → AllByRecursion P ys)
    → AllByRecursion P (cons_option o ys) × AllByRecursion P ys
each-more P None xs ys all later = (later all, later all)
each-more P (Some a) xs ys all later = ((all.0, later all.1), later all.1)

each-area : (P : Area → Type 0) (test : ℕ × Keyslot → Bool) (slots : List (ℕ × Keyslot))
    → AllByRecursion P (key_areas slots) → AllByRecursion P (key_areas (filter test slots))
each-area P test [] all = tt
each-area P test (s ∷ slots) all =
    go (test s) (each-more P (key_area s.1) (key_areas slots) (key_areas (filter test slots)) all
    (each-area P test slots))
  where
    go : (b : Bool)
        → AllByRecursion P (cons_option (key_area s.1) (key_areas (filter test slots)))
        × AllByRecursion P (key_areas (filter test slots))
        → AllByRecursion P (key_areas (cond b (s ∷ filter test slots) (filter test slots)))
    go true both = both.0
    go false both = both.1

abbrev IsWhole : ℕ → Area → Type 0
IsWhole atom a = (a.offset % atom ≡ 0) × (a.size % atom ≡ 0)

module _ (sizes : Sizes) (m : Parts) (sound : IsSound m sizes) (known : IsAtom sizes.atom)
    (first now : List ℕ) where
  areas-alike : (test : ℕ × Keyslot → Bool)
      → All (HasSameAtoms sizes.atom first now) (key_areas (filter test m.keyslots))
      → All (IsReadAlike first now) (key_areas (filter test m.keyslots))
  areas-alike test same =
      let some = key_areas (filter test m.keyslots) in
      let whole = All-from_recursion (IsWhole sizes.atom) some
      (each-area (IsWhole sizes.atom) test m.keyslots
      (recursion_from_All (IsWhole sizes.atom) (key_areas m.keyslots)
      (among-areas (IsWhole sizes.atom) m.keyslots sound.atoms.areas))) in
      All-weaker (Contains some) (IsReadAlike first now)
      (λ a there.
      let atoms = All-contains (IsWhole sizes.atom) some a whole there in
      read-alike sizes.atom a first now known atoms.0 atoms.1
      (All-contains (HasSameAtoms sizes.atom first now) some a same there))
      some (All-contains_itself some)

-- ---- the key of a passphrase
key-here : (m : Parts) (e : Extent) (has : HasDigest m e) (image pass : List ℕ) (c : Encryption)
    → key_by m image pass (Some c) e.digest ≡ key_of m has.digest image pass
key-here m e has image pass c =
    ap (key_by m image pass (Some c)) has.is
    ∙ ap (option_and_then (λ d. key_of m d image pass)) has.there

module _ (sizes : Sizes) (side : Side) (m n : Parts) (e f : Extent) (first now pass : List ℕ)
    (are : AreOneSide sizes side m n e f first now) where
  sealed : f.encryption ≡ e.encryption
  sealed = ap (λ (s : Segment). s.encryption) (alone-segment m n e f are.same)

  module _ (one : HasDigest m e) (two : HasDigest n f) (crypt : IsSome e.encryption) where
    same-digest : for_one two.digest ≡ for_one one.digest
    same-digest =
        in_one
        (sym (told n f two) ∙ alone-digests m n e f are.same ∙ told m e one)
      where
        told : (p : Parts) (x : Extent) (has : HasDigest p x)
            → numbered x.digest (digest_on p x) ≡ (has.number, for_one has.digest) ∷ []
        told p x has = ap₂ numbered has.is (digest-is p x has)

        in_one : ◌≡◌ {A = List (ℕ × Digest)} ((two.number, for_one two.digest) ∷ [])
            ((one.number, for_one one.digest) ∷ []) → for_one two.digest ≡ for_one one.digest
        in_one h =
            let pairs : ◌≡◌ {A = ℕ × Digest} (two.number, for_one two.digest)
            (one.number, for_one one.digest) = cc in ap (λ p. p.1) pairs

    alike : AreAlike m n one.digest two.digest
    alike = record {
      listed = sym (ap (λ (d : Digest). d.keyslots) same-digest);
      same = λ key. matches-alike one.digest two.digest same-digest key;
      fit = λ k. side-length m sizes side e are.one_sound are.one one crypt k
          ∙ ap (λ c. fits_so k (takes_key k c)) (sym sealed)
          ∙ sym (side-length n sizes side f are.two_sound are.two two
          (subst (λ c. IsSome c) (sym sealed) crypt) k);
    }

    same-slots : filter (λ (slot : ℕ × Keyslot). lists two.digest.keyslots slot.0) n.keyslots
        ≡ filter (λ (slot : ℕ × Keyslot). lists one.digest.keyslots slot.0) m.keyslots
    same-slots =
        sym (alone-slots n f (Some (for_one two.digest)) (digest-is n f two))
        ∙ ap (λ (p : Parts). p.keyslots) are.same
        ∙ alone-slots m e (Some (for_one one.digest)) (digest-is m e one)

    abbrev slots : List (ℕ × Keyslot)
    slots = filter (λ (slot : ℕ × Keyslot). lists one.digest.keyslots slot.0) m.keyslots

    read : All (IsReadAlike first now) (key_areas slots)
    read =
        areas-alike sizes m are.one_sound are.atom first now
        (λ slot. lists one.digest.keyslots slot.0)
        (subst (λ (ss : List (ℕ × Keyslot)). All (HasSameAtoms sizes.atom first now) (key_areas ss))
        (alone-slots m e (Some (for_one one.digest)) (digest-is m e one)) are.read)

    same-key : key_of n two.digest now pass ≡ key_of m one.digest first pass
    same-key =
        key-of-listed n two.digest now pass slots same-slots
        ∙ sym (ap₂ or_else
        (first-same m n one.digest two.digest first now pass alike High slots read)
        (first-same m n one.digest two.digest first now pass alike Normal slots read))
        ∙ sym (key-of-listed m one.digest first pass slots refl)

  given-by : (c : Option Encryption) → e.encryption ≡ c
      → key_by n now pass c f.digest ≡ key_by m first pass c e.digest
  given-by None is = refl
  given-by (Some c) is =
      let crypt : IsSome e.encryption = subst (λ o. IsSome o) (sym is) refl in
      let one = digest-of-side m sizes side e are.one_sound are.one crypt in
      let two = digest-of-side n sizes side f are.two_sound are.two
      (subst (λ o. IsSome o) (sym sealed) crypt) in
      key-here n f two now pass c ∙ same-key one two crypt ∙ sym (key-here m e one first pass c)

  given : key_for n now pass f ≡ key_for m first pass e
  given =
      ap (λ c. key_by n now pass c f.digest) sealed ∙ given-by e.encryption refl

pub sides-give : SidesGiveTheirKeys
sides-give = given
