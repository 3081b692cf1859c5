-- The data of INFO and GO: what is read of it, and its text.
use Rattle.std.proofs.Common.{◌≡◌, ℕ, ◌+◌, ◌-◌, ◌*◌, ◌/◌, ◌^◌, ◌<◌, ◌≤◌, ◌==◌}
use Rattle.std.proofs.Common.{if◌then◌else◌}
use Rattle.std.proofs.Common.{List, [], ◌++◌, Option, Some, None, length, take, drop, ap, ◌∙◌}
use Rattle.std.proofs.Common.{refl, sym, subst, arith, get_or, Fits, w8, take_at, take_all}
use Rattle.std.proofs.Common.{append_assoc}
use Rattle.std.proofs.Common.{append-nil, length-append, length-drop, inl, inr, ⊎_elim}
use Rattle.std.proofs.lemmas.List.{drop_at}
use Rattle.std.proofs.lemmas.Bool.{cases_lt, lt-ltb, le-ltb, eq-eqb}
use Rattle.std.proofs.lemmas.Bool.Decides.{eqb_tells}
use Rattle.std.proofs.lemmas.Nat.{from_be_bytes-to_be_bytes_2, from_be_bytes-to_be_bytes_4}
use Rattle.std.specs.List.{slice_range}
use Rattle.std.specs.Int.{w16, w32, from_be_bytes}
use Rattle.nbd_wire.specs.Fields.{u16_text, u32_text}
use Rattle.nbd_wire.specs.InfoData.{IsInfoData, info_data_text, number2, number4, info_name_of}
use Rattle.nbd_wire.specs.InfoData.{info_name}
use Rattle.nbd_wire.proofs.FieldLemmas.{u16-length, u32-length, u16-there, u32-there, field-behind}
use Rattle.nbd_wire.proofs.FieldLemmas.{part-two, part-length}
use Rattle.nbd_wire.proofs.PartLemmas.{four-joined}
use Rattle.std.specs.Int.{to_be_bytes}

-- a number that stands at the front, and one that stands at a place
number4-front : (n : ℕ) (rest : List ℕ) → n < 2 ^ 32 → number4 (u32_text n ++ rest) 0 ≡ n
unfolding u32_text
number4-front n rest fits = from_be_bytes-to_be_bytes_4 n fits

two-front : (n : ℕ) (rest : List ℕ) → n < 2 ^ 16 →
    from_be_bytes w16 (take 2 (u16_text n ++ rest)) ≡ n
unfolding u16_text
two-front n rest fits = from_be_bytes-to_be_bytes_2 n fits

number2-at : (bytes rest : List ℕ) (at n : ℕ) → at + 2 ≤ length bytes → n < 2 ^ 16
    → drop at bytes ≡ u16_text n ++ rest → number2 bytes at ≡ n
number2-at bytes rest at n room fits here =
    let two : at + 2 - at ≡ 2 = omega arith in
    ap (from_be_bytes w16) (sym (part-two bytes at room))
    ∙ ap (λ k. from_be_bytes w16 (take k (drop at bytes))) two
    ∙ ap (λ r. from_be_bytes w16 (take 2 r)) here ∙ two-front n rest fits

-- a text by its parts
text-parts : (name types : List ℕ) →
    info_data_text name types
    ≡ ((u32_text (length name) ++ name) ++ u16_text (length types / 2)) ++ types
unfolding info_data_text
text-parts name types = simp (append_assoc, append-nil)

front-length : (name : List ℕ) → length (u32_text (length name) ++ name) ≡ 4 + length name
front-length name =
    omega (arith, length-append (u32_text (length name)) name, u32-length (length name))

text-length : (name types : List ℕ) →
    length (info_data_text name types) ≡ 6 + length name + length types
text-length name types =
    let front = u32_text (length name) ++ name in
    let count = u16_text (length types / 2) in
    omega (
      arith,
      ap length (text-parts name types),
      length-append (front ++ count) types,
      length-append front count,
      front-length name,
      u16-length (length types / 2),
    )

-- what stands behind the name, and behind the count
behind-name : (name types : List ℕ) →
    drop (4 + length name) (info_data_text name types) ≡ u16_text (length types / 2) ++ types
behind-name name types =
    let front = u32_text (length name) ++ name in
    ap (drop (4 + length name)) (text-parts name types
    ∙ append_assoc front (u16_text (length types / 2)) types)
    ∙ drop_at front (u16_text (length types / 2) ++ types) (4 + length name) (front-length name)

pub behind-count : (name types : List ℕ) →
    drop (6 + length name) (info_data_text name types) ≡ types
behind-count name types =
    let front = u32_text (length name) ++ name in
    let count = u16_text (length types / 2) in
    ap (drop (6 + length name)) (text-parts name types)
    ∙ drop_at (front ++ count) types (6 + length name)
    (omega (
      arith,
      length-append front count,
      front-length name,
      u16-length (length types / 2),
    ))

name-within : (name types : List ℕ) →
    slice_range (info_data_text name types) 4 (4 + length name) ≡ name
unfolding info_data_text u32_text
name-within name types =
    let size : 4 + length name - 4 ≡ length name = omega arith in
    ap (λ n. take n (name ++ (u16_text (length types / 2) ++ (types ++ [])))) size
    ∙ take_at name (u16_text (length types / 2) ++ (types ++ [])) (length name) refl

number4-name : (name types : List ℕ) → length name < 2 ^ 32 →
    number4 (info_data_text name types) 0 ≡ length name
unfolding info_data_text
number4-name name types fits =
    number4-front (length name) (name ++ (u16_text (length types / 2) ++ (types ++ []))) fits

-- the name of a text is read
pub name-read : (name types : List ℕ) → IsInfoData name types →
    info_name (info_data_text name types) ≡ Some name
unfolding info_name
name-read name types is =
    let text = info_data_text name types in
    let len = length name in
    let found : Option (List ℕ) = Some (slice_range text 4 (4 + len)) in
    let none : Option (List ℕ) = None in
    let size = text-length name types in
    ap (λ b. if b then none else info_name_of (number4 text 0) text)
    (le-ltb (length text) 6 (omega (arith, size)))
    ∙ ap (λ n. info_name_of n text) (number4-name name types is.name_fits)
    ∙ ap (λ b. if b then none else (if length text == 6 + len + 2 * number2 text (4 + len)
    then found else none))
    (le-ltb (length text) (6 + len) (omega (arith, size)))
    ∙ ap (λ n. if length text == 6 + len + 2 * n then found else none)
    (number2-at text types (4 + len) (length types / 2) (omega (arith, size))
    (omega (arith, is.types_fit)) (behind-name name types))
    ∙ ap (λ b. if b then found else none)
    (eq-eqb (length text) (6 + len + 2 * (length types / 2)) (omega (arith, size, is.even)))
    ∙ ap Some (name-within name types)

pub none-some : (name : List ℕ) → None ≡ Some name → ⊥
none-some name is = absurd (cc)

some-same : (xs ys : List ℕ) → Some xs ≡ Some ys → xs ≡ ys
some-same xs ys is = cc

-- what stands in data of which a name is read
record Found (bytes name : List ℕ) : Type 0 where
  within : 6 + number4 bytes 0 ≤ length bytes
  size : length bytes ≡ 6 + number4 bytes 0 + 2 * number2 bytes (4 + number4 bytes 0)
  name_is : name ≡ slice_range bytes 4 (4 + number4 bytes 0)

found-sized : (bytes name : List ℕ) → 6 + number4 bytes 0 ≤ length bytes →
    info_name_of (number4 bytes 0) bytes ≡ Some name → Found bytes name
found-sized bytes name within is =
    let len = number4 bytes 0 in
    let found : Option (List ℕ) = Some (slice_range bytes 4 (4 + len)) in
    let none : Option (List ℕ) = None in
    let total = 6 + len + 2 * number2 bytes (4 + len) in
    let by_size : (if length bytes == total then found else none) ≡ Some name =
    sym (ap (λ b. if b then none else (if length bytes == total then found else none))
    (le-ltb (length bytes) (6 + len) within)) ∙ is in
    ⊎_elim
    (λ exact. record {
      within = within;
      size = exact.1;
      name_is = some-same name (slice_range bytes 4 (4 + len))
          (sym by_size ∙ ap (λ b. if b then found else none) exact.0);
    })
    (λ other. absurd (none-some name
    (sym (ap (λ b. if b then found else none) other.0) ∙ by_size)))
    (eqb_tells (length bytes) total)

found-in : (bytes name : List ℕ) → info_name bytes ≡ Some name → Found bytes name
unfolding info_name
found-in bytes name is =
    let len = number4 bytes 0 in
    let none : Option (List ℕ) = None in
    elim (cases_lt (length bytes) 6) [
      | inl short ↦ absurd (none-some name
          (sym (ap (λ b. if b then none else info_name_of len bytes)
          (lt-ltb (length bytes) 6 short)) ∙ is))
      | inr long ↦
          let behind : info_name_of len bytes ≡ Some name =
          sym (ap (λ b. if b then none else info_name_of len bytes)
          (le-ltb (length bytes) 6 long)) ∙ is in
          elim (cases_lt (length bytes) (6 + len)) [
            | inl past ↦ absurd (none-some name
                (sym (ap (λ b. if b then none
                else (if length bytes == 6 + len + 2 * number2 bytes (4 + len)
                then Some (slice_range bytes 4 (4 + len)) else none))
                (lt-ltb (length bytes) (6 + len) past)) ∙ behind))
            | inr within ↦ found-sized bytes name within behind
          ]
    ]

number2-fits : (bytes : List ℕ) (at : ℕ) → ((i : ℕ) → Fits w8 (get_or bytes i 0)) →
    number2 bytes at < 2 ^ 16
number2-fits bytes at fits = omega (arith, fits at, fits (at + 1))

-- data of which a name is read is the text of that name and of what is behind the count
pub name-taken : (bytes name : List ℕ) → ((i : ℕ) → Fits w8 (get_or bytes i 0)) →
    length name < 2 ^ 32 → info_name bytes ≡ Some name →
    IsInfoData name (drop (6 + length name) bytes)
    × (info_data_text name (drop (6 + length name) bytes) ≡ bytes)
unfolding info_data_text
name-taken bytes name fits short is =
    let found = found-in bytes name is in
    let len = length name in
    let types = drop (6 + len) bytes in
    let number : number4 bytes 0 ≡ len =
    sym (ap length found.name_is ∙ part-length bytes 4 (number4 bytes 0)
    (omega (arith, found.within))) in
    let size : length bytes ≡ 6 + len + 2 * number2 bytes (4 + len) =
    subst (λ (n : ℕ). length bytes ≡ 6 + n + 2 * number2 bytes (4 + n)) number found.size in
    let rear : length types ≡ 2 * number2 bytes (4 + len) =
    omega (arith, length-drop (6 + len) bytes, size) in
    let name_is : name ≡ slice_range bytes 4 (4 + len) =
    subst (λ (n : ℕ). name ≡ slice_range bytes 4 (4 + n)) number found.name_is in
    let count : u16_text (length types / 2) ≡ slice_range bytes (4 + len) (4 + len + 2) =
    ap u16_text (omega (arith, rear))
    ∙ u16-there bytes (4 + len) (number2 bytes (4 + len)) (omega (arith, size)) fits refl in
    let behind : types ++ [] ≡ drop (4 + len + 2) bytes =
    append-nil types ∙ ap (λ n. drop n bytes) (omega arith) in
    let front : u32_text len ≡ slice_range bytes 0 4 =
    u32-there bytes 0 len (omega (arith, size)) fits (sym number) in (
      record {
        name_fits = short;
        even = omega (arith, rear);
        types_fit = omega (arith, rear, number2-fits bytes (4 + len) fits);
      },
      field-behind bytes _ _ 0 4 (omega arith) front
          (field-behind bytes _ _ 4 (4 + len) (omega arith) name_is
          (field-behind bytes _ _ (4 + len) (4 + len + 2) (omega arith) count behind)),
    )

-- all that is behind a place
rear-all : (bytes : List ℕ) (n : ℕ) → take (length bytes - n) (drop n bytes) ≡ drop n bytes
rear-all bytes n =
    take_all (length bytes - n) (drop n bytes) (omega (arith, length-drop n bytes))

pub read-taken : (bytes name : List ℕ) → ((i : ℕ) → Fits w8 (get_or bytes i 0)) →
    length name < 2 ^ 32 → info_name bytes ≡ Some name →
    IsInfoData name (take (length bytes - (6 + length name)) (drop (6 + length name) bytes))
    × (info_data_text name (take (length bytes - (6 + length name))
    (drop (6 + length name) bytes)) ≡ bytes)
read-taken bytes name fits short is =
    rw (rear-all bytes (6 + length name)) (name-taken bytes name fits short is)

pub read-only : (bytes name name' types : List ℕ) → info_name bytes ≡ Some name →
    IsInfoData name' types → info_data_text name' types ≡ bytes →
    (name ≡ name')
    × (take (length bytes - (6 + length name)) (drop (6 + length name) bytes) ≡ types)
read-only bytes name name' types read is e =
    let same : name ≡ name' =
    some-same name name' (sym read ∙ ap info_name (sym e) ∙ name-read name' types is) in (
      same,
      rear-all bytes (6 + length name) ∙ ap (λ n. drop (6 + length n) bytes) same
          ∙ ap (drop (6 + length name')) (sym e) ∙ behind-count name' types,
    )

-- the parts that are written are the text
pub data-written : (a b c d p name r types : List ℕ) (m k : ℕ) → length p ≡ 4 → length r ≡ 2
    → length d ≡ 6 + length name + length types → take (0 + length p) a ≡ p
    → take (4 + length name) b ≡ take 4 a ++ name
    → take (4 + length name + length r) c ≡ take (4 + length name) b ++ r
    → take (6 + length name + length types) d ≡ take (6 + length name) c ++ types
    → p ≡ to_be_bytes w32 m → m ≡ length name → r ≡ to_be_bytes w16 k → k ≡ length types / 2
    → d ≡ info_data_text name types
unfolding u16_text u32_text
data-written a b c d p name r types m k lp lr ld ep eq er es p_is m_is r_is k_is =
    four-joined a b c d p name r types 4 (4 + length name) (6 + length name)
    (6 + length name + length types) lp refl (omega (arith, lr)) refl ld ep eq er es
    ∙ ap (λ t. ((t ++ name) ++ r) ++ types) (p_is ∙ ap (to_be_bytes w32) m_is)
    ∙ ap (λ t. ((to_be_bytes w32 (length name) ++ name) ++ t) ++ types)
    (r_is ∙ ap (to_be_bytes w16) k_is) ∙ sym (text-parts name types)
