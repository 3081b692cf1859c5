-- Lemmas on the nine places of a secondary: the first copy there counts, and the bytes have no
-- other.
use Rattle.std.proofs.Common.{◌≡◌, inl, inr, ℕ, zero, suc, ◌<◌, ◌==◌, ◌&&◌, nat_lt, List, [], ◌∷◌}
use Rattle.std.proofs.Common.{drop, Option, Some, None, Bool, true, Result, Ok, Err, refl, sym, ◌∙◌}
use Rattle.std.proofs.Common.{ap, subst, arith}
use Rattle.std.specs.List.{list_all, list_any}
use Rattle.std.proofs.lemmas.Bool.{eqb-true, ltb-true, or_cases, and_parts}
use Rattle.crash_laws.specs.HeaderAreas.Headers.{found, Gives}
use Rattle.luks_bin.specs.Copies.{copy_of}
use Rattle.luks_bin.specs.Fields.{is_size}
use Rattle.luks_bin.specs.declared.header.BinFault.{BinFault}
use Rattle.luks_store.specs.Copying.Meanings.{header_reader, meaning_of}
use Rattle.luks_store.proofs.CopyLemmas.{Spelt, found-here, found-later, whole-behind}
use Rattle.luks_store.proofs.GivenLemmas.{Newer, is_first, is_second, are_same, are_other, newer}
use Rattle.luks_store.proofs.GivenLemmas.{copy-found, copy-whole, fault-of, given-beside}
use Rattle.luks_store.proofs.GivenLemmas.{none-found, ok-is, sized-by}
use Rattle.luks_store.specs.Found.{copy_at, or_later, first_at, IsWholeBehind}
use Rattle.luks_store.specs.Promises.{NoneStands, UsedIsGiven}
use Rattle.luks_store.specs.Used.{at_farther, at_nearest, beside, copies_by, copies_in, farther}
use Rattle.luks_store.specs.Used.{nearest, newer_of, no_header, secondary_alone, Refusal}
use Rattle.luks_store.specs.declared.copies.Copies.{Copies}
use Rattle.luks_store.specs.declared.copies.HeaderCopy.{HeaderCopy}

abbrev pub places : List ℕ
places = nearest ∷ farther

abbrev pub is_rising : List ℕ → Bool
is_rising [] = true
is_rising (x ∷ xs) = list_all (λ y. nat_lt x y) xs && is_rising xs

abbrev pub holds : ℕ → List ℕ → Bool
holds place xs = list_any (λ x. x == place) xs

abbrev pub are_some : List ℕ → Bool
are_some xs = list_all (λ x. nat_lt 0 x) xs

-- an entry is above what all entries are above
pub above : (x place : ℕ) (xs : List ℕ) → list_all (λ y. nat_lt x y) xs ≡ true
    → holds place xs ≡ true → x < place
above x place [] all any = cc
above x place (y ∷ ys) all any =
    let both = and_parts (nat_lt x y) (list_all (λ z. nat_lt x z) ys) all in
    elim (or_cases (y == place) (holds place ys) any) [
      | inl is ↦ subst (λ n. x < n) (eqb-true y place is) (ltb-true x y both.0)
      | inr later ↦ above x place ys both.1 later
    ]

-- no copy stands there
abbrev pub StandsNone : ℕ → List ℕ → Type 0
StandsNone place bytes = (fault : BinFault) × (copy_at place bytes ≡ Err fault)

-- a copy that stands at one of these places, and none nearer
pub record IsFirst (xs bytes : List ℕ) (copy : HeaderCopy) : Type 0 where
  pub whole : IsWholeBehind copy
  pub at : copy_at copy.header.hdr_size bytes ≡ Ok copy
  pub before : (place : ℕ) → holds place xs ≡ true → place < copy.header.hdr_size
      → StandsNone place bytes

pub some-is : (a b : HeaderCopy) → ◌≡◌ {A = Option HeaderCopy} (Some a) (Some b) → a ≡ b
some-is a b is = cc

first-here : Spelt → (x : ℕ) (xs bytes : List ℕ) (copy : HeaderCopy) → 0 < x
    → list_all (λ y. nat_lt x y) xs ≡ true
    → copy_at x bytes ≡ Ok copy → IsFirst (x ∷ xs) bytes copy
first-here spelt x xs bytes copy some rising at =
    let whole = copy-whole spelt x (drop x bytes) copy at in
    let behind = whole-behind x copy some whole in
    let size : x ≡ copy.header.hdr_size = sym whole.here ∙ behind.here in
    record {
      whole = behind;
      at = subst (λ n. copy_at n bytes ≡ Ok copy) size at;
      before = λ place held below. absurd (elim (or_cases (x == place) (holds place xs) held) [
        | inl is ↦ (let same = eqb-true x place is in omega (arith, same, below, size))
        | inr later ↦ (let over = above x place xs rising later in omega (arith, over, below, size))
      ]);
    }

first-there : (x : ℕ) (xs bytes : List ℕ) (copy : HeaderCopy) (fault : BinFault)
    → copy_at x bytes ≡ Err fault
    → IsFirst xs bytes copy → IsFirst (x ∷ xs) bytes copy
first-there x xs bytes copy fault at rest = record {
  whole = rest.whole;
  at = rest.at;
  before = λ place held below. elim (or_cases (x == place) (holds place xs) held) [
    | inl is ↦ (fault, subst (λ n. copy_at n bytes ≡ Err fault) (eqb-true x place is) at)
    | inr later ↦ rest.before place later below
  ];
}

first-step : Spelt → (x : ℕ) (xs bytes : List ℕ) (copy : HeaderCopy) → 0 < x
    → list_all (λ y. nat_lt x y) xs ≡ true
    → (first_at xs bytes ≡ Some copy → IsFirst xs bytes copy) → (r : Result HeaderCopy BinFault)
    → copy_at x bytes ≡ r
    → or_later r (first_at xs bytes) ≡ Some copy → IsFirst (x ∷ xs) bytes copy
first-step spelt x xs bytes copy some rising later (Ok here) at is =
    subst (IsFirst (x ∷ xs) bytes) (some-is here copy is)
    (first-here spelt x xs bytes here some rising at)
first-step spelt x xs bytes copy some rising later (Err fault) at is =
    first-there x xs bytes copy fault at (later is)

pub first-is : Spelt → (xs bytes : List ℕ) (copy : HeaderCopy) → is_rising xs ≡ true
    → are_some xs ≡ true
    → first_at xs bytes ≡ Some copy → IsFirst xs bytes copy
unfolding first_at
first-is spelt [] bytes copy rising some is = absurd cc
first-is spelt (x ∷ xs) bytes copy rising some is =
    let up = and_parts (list_all (λ y. nat_lt x y) xs) (is_rising xs) rising in
    let over = and_parts (nat_lt 0 x) (are_some xs) some in
    first-step spelt x xs bytes copy (ltb-true 0 x over.0) up.0
    (λ later. first-is spelt xs bytes copy up.1 over.1 later) (copy_at x bytes) refl is

none-step : (x place : ℕ) (xs bytes : List ℕ)
    → (first_at xs bytes ≡ None → holds place xs ≡ true → StandsNone place bytes)
    → (r : Result HeaderCopy BinFault) → copy_at x bytes ≡ r → or_later r (first_at xs bytes) ≡ None
    → holds place (x ∷ xs) ≡ true → StandsNone place bytes
none-step x place xs bytes later (Ok here) at is held = absurd cc
none-step x place xs bytes later (Err fault) at is held =
    elim (or_cases (x == place) (holds place xs) held) [
      | inl same ↦ (fault, subst (λ n. copy_at n bytes ≡ Err fault) (eqb-true x place same) at)
      | inr more ↦ later is more
    ]

none-is : (place : ℕ) (xs bytes : List ℕ) → first_at xs bytes ≡ None → holds place xs ≡ true
    → StandsNone place bytes
unfolding first_at
none-is place [] bytes is held = cc
none-is place (x ∷ xs) bytes is held =
    none-step x place xs bytes (λ later more. none-is place xs bytes later more) (copy_at x bytes)
    refl is held

-- ---- nothing else stands anywhere
none-at : Spelt → (bytes : List ℕ) (place : ℕ) → 0 < place → (r : Result HeaderCopy BinFault)
    → copy_at place bytes ≡ r
    → (is_size place ≡ true → StandsNone place bytes) → found header_reader bytes place ≡ None
none-at spelt bytes place some (Err fault) at nine = none-found place (drop place bytes) fault at
none-at spelt bytes place some (Ok copy) at nine =
    let whole = copy-whole spelt place (drop place bytes) copy at in
    let behind = whole-behind place copy some whole in
    let size : copy.header.hdr_size ≡ place = sym behind.here ∙ whole.here in
    let (fault, none) = nine (ap is_size (sym size) ∙ behind.whole.one_of_nine) in
    absurd cc

given-first : Spelt → (bytes : List ℕ) (fault : BinFault) (copy : HeaderCopy)
    → copy_at 0 bytes ≡ Err fault
    → first_at places bytes ≡ Some copy → Gives header_reader bytes (meaning_of copy.bytes)
unfolding is_size
given-first spelt bytes fault copy none is =
    let first = first-is spelt places bytes copy refl refl is in
    let size = sized-by copy.header.hdr_size copy first.whole in
    inr (inr (
      none-found 0 (drop 0 bytes) fault none,
      ap (λ n. found header_reader bytes n) size
          ∙ copy-found copy.header.hdr_size (drop copy.header.hdr_size bytes) copy first.at,
      λ place some below. none-at spelt bytes place some (copy_at place bytes) refl
          (λ nine. first.before place nine (omega (arith, below, size))),
    ))

-- ---- as the copies are used
abbrev pub IsAlone : List ℕ → Copies → Type 0
IsAlone bytes copies =
    (copy : HeaderCopy) × (first_at places bytes ≡ Some copy) × (copies ≡ secondary_alone copy)

alone-farther : (bytes : List ℕ) (fault near : BinFault) (copies : Copies) (o : Option HeaderCopy)
    → first_at farther bytes ≡ o
    → copy_at nearest bytes ≡ Err near → at_farther fault near o ≡ Ok copies → IsAlone bytes copies
alone-farther bytes fault near copies (Some copy) found at is =
    (copy, found-later farther nearest bytes near (sym at) ∙ found, sym (ok-is _ _ is))
alone-farther bytes fault near copies None found at is = absurd cc

pub alone : (bytes : List ℕ) (fault : BinFault) (copies : Copies) (r : Result HeaderCopy BinFault)
    → copy_at nearest bytes ≡ r
    → at_nearest fault bytes r ≡ Ok copies → IsAlone bytes copies
alone bytes fault copies (Ok copy) at is =
    (copy, found-here farther nearest bytes copy (sym at), sym (ok-is _ _ is))
alone bytes fault copies (Err near) at is =
    alone-farther bytes fault near copies (first_at farther bytes) refl at is

pub given-alone : Spelt → (bytes : List ℕ) (fault : BinFault) (copies : Copies)
    → copy_at 0 bytes ≡ Err fault
    → at_nearest fault bytes (copy_at nearest bytes) ≡ Ok copies
    → Gives header_reader bytes (meaning_of copies.used.bytes)
given-alone spelt bytes fault copies none is =
    let (copy, first, same) = alone bytes fault copies (copy_at nearest bytes) refl is in
    subst (λ (c : Copies). Gives header_reader bytes (meaning_of c.used.bytes)) (sym same)
    (given-first spelt bytes fault copy none first)

-- ---- where nothing stands
record IsBare (bytes : List ℕ) (fault primary near : BinFault) : Type 0 where
  pub same : fault ≡ primary
  pub at_nearest : copy_at nearest bytes ≡ Err near
  pub none : first_at places bytes ≡ None

err-is : (a b c d : BinFault)
    → ◌≡◌ {A = Result Copies Refusal} (Err (no_header a b)) (Err (no_header c d))
    → (a ≡ c) × (b ≡ d)
err-is a b c d is = (cc, cc)

bare-farther : (bytes : List ℕ) (fault here primary near : BinFault) (o : Option HeaderCopy)
    → first_at farther bytes ≡ o
    → copy_at nearest bytes ≡ Err here → at_farther fault here o ≡ Err (no_header primary near)
    → IsBare bytes fault primary near
bare-farther bytes fault here primary near (Some copy) found at is = absurd cc
bare-farther bytes fault here primary near None found at is =
    let same = err-is fault here primary near is in
    record {
      same = same.0;
      at_nearest = subst (λ f. copy_at nearest bytes ≡ Err f) same.1 at;
      none = found-later farther nearest bytes here (sym at) ∙ found;
    }

bare : (bytes : List ℕ) (fault primary near : BinFault) (r : Result HeaderCopy BinFault)
    → copy_at nearest bytes ≡ r
    → at_nearest fault bytes r ≡ Err (no_header primary near) → IsBare bytes fault primary near
bare bytes fault primary near (Ok copy) at is = absurd cc
bare bytes fault primary near (Err here) at is =
    bare-farther bytes fault here primary near (first_at farther bytes) refl at is

none-anywhere : Spelt → (bytes : List ℕ) (fault : BinFault) → copy_at 0 bytes ≡ Err fault
    → first_at places bytes ≡ None
    → (place : ℕ) → found header_reader bytes place ≡ None
unfolding is_size
none-anywhere spelt bytes fault none is zero = none-found 0 (drop 0 bytes) fault none
none-anywhere spelt bytes fault none is (suc n) =
    none-at spelt bytes (suc n) (omega arith) (copy_at (suc n) bytes) refl
    (λ nine. none-is (suc n) places bytes is nine)

-- two copies never leave none
newer-some : (first second : HeaderCopy) (primary near : BinFault) → Newer first second
    → newer_of first second ≡ Err (no_header primary near) → ⊥
newer-some first second primary near (is_first less is) none = cc
newer-some first second primary near (is_second less is) none = cc
newer-some first second primary near (are_same equal same is) none = cc
newer-some first second primary near (are_other equal other is) none = cc

beside-some : (first : HeaderCopy) (primary near : BinFault) (r : Result HeaderCopy BinFault)
    → beside first r ≡ Err (no_header primary near) → ⊥
beside-some first primary near (Ok second) none =
    newer-some first second primary near (newer first second) none
beside-some first primary near (Err fault) none = cc

-- ---- all of it
given-by : Spelt → (bytes : List ℕ) (copies : Copies) (r : Result HeaderCopy BinFault)
    → copy_at 0 bytes ≡ r
    → copies_by bytes r ≡ Ok copies → Gives header_reader bytes (meaning_of copies.used.bytes)
given-by spelt bytes copies (Ok first) at is =
    given-beside spelt bytes first copies at (copy_at first.header.hdr_size bytes) refl is
given-by spelt bytes copies (Err fault) at is = given-alone spelt bytes fault copies at is

pub used-given : Spelt → UsedIsGiven
unfolding copies_in
used-given spelt = λ bytes copies is. given-by spelt bytes copies (copy_at 0 bytes) refl is

none-by : Spelt → (bytes : List ℕ) (primary near : BinFault) (r : Result HeaderCopy BinFault)
    → copy_at 0 bytes ≡ r
    → copies_by bytes r ≡ Err (no_header primary near)
    → ((place : ℕ) → found header_reader bytes place ≡ None) × (copy_of 0 bytes ≡ Err primary)
    × (copy_of nearest (drop nearest bytes) ≡ Err near)
none-by spelt bytes primary near (Ok first) at is =
    absurd (beside-some first primary near (copy_at first.header.hdr_size bytes) is)
none-by spelt bytes primary near (Err fault) at is =
    let none = bare bytes fault primary near (copy_at nearest bytes) refl is in (
      none-anywhere spelt bytes fault at none.none,
      fault-of 0 bytes primary (at ∙ ap (λ f. Err f) none.same),
      fault-of nearest (drop nearest bytes) near none.at_nearest,
    )

pub none-stands : Spelt → NoneStands
unfolding copies_in
none-stands spelt =
    λ bytes primary near is. none-by spelt bytes primary near (copy_at 0 bytes) refl is
