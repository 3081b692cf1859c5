-- Fields of a message: what their bytes say, and that they are told apart.
use Rattle.std.proofs.Common.{◌≡◌, ℕ, suc, ◌+◌, ◌-◌, ◌^◌, ◌≤◌, ◌<◌, List, [], ◌∷◌, ◌++◌, length}
use Rattle.std.proofs.Common.{take, drop, ap, ◌∙◌, refl, sym, arith, get_or, Fits, w8, length-take}
use Rattle.std.proofs.Common.{length-drop, inl, inr, lit<}
use Rattle.std.proofs.Math.Seq.{drop-cons}
use Rattle.std.proofs.lemmas.Bool.{cases_lt}
use Rattle.std.proofs.lemmas.List.{get_or-take, get_or-drop, get_or_past, drop_all}
use Rattle.std.specs.List.{slice_range}
use Rattle.std.specs.Int.{w16, w32, w64, to_be_bytes, from_be_bytes}
use Rattle.std.proofs.lemmas.Nat.{be_bytes_2, be_bytes_4, be_bytes_8, from_be_bytes-to_be_bytes_2}
use Rattle.std.proofs.lemmas.Nat.{from_be_bytes-to_be_bytes_4, from_be_bytes-to_be_bytes_8}
use Rattle.std.proofs.lemmas.List.Folds.{drop_split}
use Rattle.nbd_wire.specs.Fields.{u16_text, u32_text, u64_text}

-- the front field of two equal messages, and what is behind it
pub u16-first : (m n : ℕ) (xs ys : List ℕ) → m < 2 ^ 16 → n < 2 ^ 16
    → u16_text m ++ xs ≡ u16_text n ++ ys → (m ≡ n) × (xs ≡ ys)
unfolding u16_text
u16-first m n xs ys hm hn e =
    let front : to_be_bytes w16 m ≡ to_be_bytes w16 n = ap (take 2) e in (
      sym (from_be_bytes-to_be_bytes_2 m hm) ∙ ap (from_be_bytes w16) front
          ∙ from_be_bytes-to_be_bytes_2 n hn,
      ap (drop 2) e,
    )

pub u32-first : (m n : ℕ) (xs ys : List ℕ) → m < 2 ^ 32 → n < 2 ^ 32
    → u32_text m ++ xs ≡ u32_text n ++ ys → (m ≡ n) × (xs ≡ ys)
unfolding u32_text
u32-first m n xs ys hm hn e =
    let front : to_be_bytes w32 m ≡ to_be_bytes w32 n = ap (take 4) e in (
      sym (from_be_bytes-to_be_bytes_4 m hm) ∙ ap (from_be_bytes w32) front
          ∙ from_be_bytes-to_be_bytes_4 n hn,
      ap (drop 4) e,
    )

pub u64-first : (m n : ℕ) (xs ys : List ℕ) → m < 2 ^ 64 → n < 2 ^ 64
    → u64_text m ++ xs ≡ u64_text n ++ ys → (m ≡ n) × (xs ≡ ys)
unfolding u64_text
u64-first m n xs ys hm hn e =
    let front : to_be_bytes w64 m ≡ to_be_bytes w64 n = ap (take 8) e in (
      sym (from_be_bytes-to_be_bytes_8 m hm) ∙ ap (from_be_bytes w64) front
          ∙ from_be_bytes-to_be_bytes_8 n hn,
      ap (drop 8) e,
    )

-- a field that stands at a place, and then the rest of the message
pub field-behind : (bytes field rest : List ℕ) (at end : ℕ) → at ≤ end
    → field ≡ slice_range bytes at end → rest ≡ drop end bytes →
    field ++ rest ≡ drop at bytes
field-behind bytes field rest at end order here behind =
    ap (λ f. f ++ rest) here ∙ ap (λ r. slice_range bytes at end ++ r) behind
    ∙ sym (drop_split bytes at end order)

-- each byte of a part of a message is below 256
part-bytes : (bytes : List ℕ) (at len : ℕ) → ((i : ℕ) → Fits w8 (get_or bytes i 0)) → (i : ℕ)
    → get_or (slice_range bytes at (at + len)) i 0 < 256
part-bytes bytes at len fits i =
    elim (cases_lt i (at + len - at)) [
      | inl below ↦
          rw (get_or-take (at + len - at) (drop at bytes) i 0 below, get_or-drop at bytes i 0)
          (omega (arith, fits (at + i)))
      | inr past ↦
          rw (get_or_past (slice_range bytes at (at + len)) i 0 (simp length-take (omega arith)))
          (lit< tt)
    ]

pub part-length : (bytes : List ℕ) (at len : ℕ) → at + len ≤ length bytes
    → length (slice_range bytes at (at + len)) ≡ len
part-length bytes at len room = simp (length-take, length-drop) (omega arith)

-- the byte at a place, and what is behind it
byte-behind : (bytes : List ℕ) (at next : ℕ) → at < length bytes → next ≡ suc at
    → drop at bytes ≡ get_or bytes at 0 ∷ drop next bytes
byte-behind bytes at next here e =
    drop-cons bytes at 0 here ∙ ap (λ n. get_or bytes at 0 ∷ drop n bytes) (sym e)

pub part-two : (bytes : List ℕ) (at : ℕ) → at + 2 ≤ length bytes →
    slice_range bytes at (at + 2) ≡ get_or bytes at 0 ∷ get_or bytes (at + 1) 0 ∷ []
part-two bytes at room =
    let size : at + 2 - at ≡ 2 = omega arith in
    rw (
      size,
      byte-behind bytes at (at + 1) (omega arith) (omega arith),
      byte-behind bytes (at + 1) (at + 2) (omega arith) (omega arith),
    ) refl

part-four : (bytes : List ℕ) (at : ℕ) → at + 4 ≤ length bytes →
    slice_range bytes at (at + 4)
    ≡ get_or bytes at 0 ∷ get_or bytes (at + 1) 0 ∷ get_or bytes (at + 2) 0
    ∷ get_or bytes (at + 3) 0 ∷ []
part-four bytes at room =
    let size : at + 4 - at ≡ 4 = omega arith in
    rw (
      size,
      byte-behind bytes at (at + 1) (omega arith) (omega arith),
      byte-behind bytes (at + 1) (at + 2) (omega arith) (omega arith),
      byte-behind bytes (at + 2) (at + 3) (omega arith) (omega arith),
      byte-behind bytes (at + 3) (at + 4) (omega arith) (omega arith),
    ) refl

part-eight : (bytes : List ℕ) (at : ℕ) → at + 8 ≤ length bytes →
    slice_range bytes at (at + 8)
    ≡ get_or bytes at 0 ∷ get_or bytes (at + 1) 0 ∷ get_or bytes (at + 2) 0
    ∷ get_or bytes (at + 3) 0
    ∷ get_or bytes (at + 4) 0 ∷ get_or bytes (at + 5) 0 ∷ get_or bytes (at + 6) 0
    ∷ get_or bytes (at + 7) 0 ∷ []
part-eight bytes at room =
    let size : at + 8 - at ≡ 8 = omega arith in
    rw (
      size,
      byte-behind bytes at (at + 1) (omega arith) (omega arith),
      byte-behind bytes (at + 1) (at + 2) (omega arith) (omega arith),
      byte-behind bytes (at + 2) (at + 3) (omega arith) (omega arith),
      byte-behind bytes (at + 3) (at + 4) (omega arith) (omega arith),
      byte-behind bytes (at + 4) (at + 5) (omega arith) (omega arith),
      byte-behind bytes (at + 5) (at + 6) (omega arith) (omega arith),
      byte-behind bytes (at + 6) (at + 7) (omega arith) (omega arith),
      byte-behind bytes (at + 7) (at + 8) (omega arith) (omega arith),
    ) refl

-- a number that was read from a place has its text there
pub u16-there : (bytes : List ℕ) (at n : ℕ) → at + 2 ≤ length bytes
    → ((i : ℕ) → Fits w8 (get_or bytes i 0)) →
    n ≡ from_be_bytes w16 (get_or bytes at 0 ∷ get_or bytes (at + 1) 0 ∷ [])
    → u16_text n ≡ slice_range bytes at (at + 2)
unfolding u16_text
u16-there bytes at n room fits e =
    be_bytes_2 (slice_range bytes at (at + 2)) n (part-length bytes at 2 room)
    (part-bytes bytes at 2 fits)
    (e ∙ ap (from_be_bytes w16) (sym (part-two bytes at room)))

pub u32-there : (bytes : List ℕ) (at n : ℕ) → at + 4 ≤ length bytes
    → ((i : ℕ) → Fits w8 (get_or bytes i 0)) →
    n ≡ from_be_bytes w32
    (get_or bytes at 0 ∷ get_or bytes (at + 1) 0 ∷ get_or bytes (at + 2) 0 ∷ get_or bytes (at + 3) 0
    ∷ []) →
    u32_text n ≡ slice_range bytes at (at + 4)
unfolding u32_text
u32-there bytes at n room fits e =
    be_bytes_4 (slice_range bytes at (at + 4)) n (part-length bytes at 4 room)
    (part-bytes bytes at 4 fits)
    (e ∙ ap (from_be_bytes w32) (sym (part-four bytes at room)))

pub u64-there : (bytes : List ℕ) (at n : ℕ) → at + 8 ≤ length bytes
    → ((i : ℕ) → Fits w8 (get_or bytes i 0)) →
    n ≡ from_be_bytes w64
    (get_or bytes at 0 ∷ get_or bytes (at + 1) 0 ∷ get_or bytes (at + 2) 0 ∷ get_or bytes (at + 3) 0
    ∷ get_or bytes (at + 4) 0 ∷ get_or bytes (at + 5) 0 ∷ get_or bytes (at + 6) 0
    ∷ get_or bytes (at + 7) 0 ∷ []) →
    u64_text n ≡ slice_range bytes at (at + 8)
unfolding u64_text
u64-there bytes at n room fits e =
    be_bytes_8 (slice_range bytes at (at + 8)) n (part-length bytes at 8 room)
    (part-bytes bytes at 8 fits)
    (e ∙ ap (from_be_bytes w64) (sym (part-eight bytes at room)))

-- a number at the front of a message is the one that was read there
pub u16-front : (m n : ℕ) (rest bytes : List ℕ) → m < 2 ^ 16 → n < 2 ^ 16
    → u16_text m ++ rest ≡ bytes → u16_text n ≡ slice_range bytes 0 2 → n ≡ m
u16-front m n rest bytes hm hn e here =
    (u16-first n m (drop 2 bytes) rest hn hm
    (field-behind bytes (u16_text n) (drop 2 bytes) 0 2 (omega arith) here refl ∙ sym e)).0

pub u32-front : (m n : ℕ) (rest bytes : List ℕ) → m < 2 ^ 32 → n < 2 ^ 32
    → u32_text m ++ rest ≡ bytes → u32_text n ≡ slice_range bytes 0 4 → n ≡ m
u32-front m n rest bytes hm hn e here =
    (u32-first n m (drop 4 bytes) rest hn hm
    (field-behind bytes (u32_text n) (drop 4 bytes) 0 4 (omega arith) here refl ∙ sym e)).0

pub u64-front : (m n : ℕ) (rest bytes : List ℕ) → m < 2 ^ 64 → n < 2 ^ 64
    → u64_text m ++ rest ≡ bytes → u64_text n ≡ slice_range bytes 0 8 → n ≡ m
u64-front m n rest bytes hm hn e here =
    (u64-first n m (drop 8 bytes) rest hn hm
    (field-behind bytes (u64_text n) (drop 8 bytes) 0 8 (omega arith) here refl ∙ sym e)).0

-- nothing is behind a message
pub nothing-behind : (bytes : List ℕ) (n : ℕ) → length bytes ≡ n → [] ≡ drop n bytes
nothing-behind bytes n e = sym (drop_all n bytes (omega arith))

-- how long a field is
pub u16-length : (n : ℕ) → length (u16_text n) ≡ 2
unfolding u16_text
u16-length n = refl

pub u32-length : (n : ℕ) → length (u32_text n) ≡ 4
unfolding u32_text
u32-length n = refl
