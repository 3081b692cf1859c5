-- What is written for a header is that header's copy, and a moved copy is the same header's
-- elsewhere.
use Rattle.std.proofs.Common.{◌≡◌, ◌⊎◌, inl, inr, ℕ, zero, suc, ◌+◌, ◌-◌, ◌<◌, ◌≤◌, ◌^◌, ◌==◌, List}
use Rattle.std.proofs.Common.{[], ◌∷◌, ◌++◌, length, take, drop, get_or, replicate, Bool, true}
use Rattle.std.proofs.Common.{false, not, Ok, refl, sym, ap, subst, ◌∙◌, arith, length-append}
use Rattle.std.proofs.Common.{append_assoc, if◌then◌else◌}
use Rattle.std.proofs.lemmas.Bool.{or_parts, false_from_ne_true}
use Rattle.std.proofs.lemmas.List.{length-replicate, drop-replicate, drop-drop, drop_at}
use Rattle.std.proofs.lemmas.List.{length-take-le, take_all, get_or-take, get_or-drop}
use Rattle.std.proofs.lemmas.List.Sums.{take_while-cons}
use Rattle.std.proofs.lemmas.Nat.{from_be_bytes-to_be_bytes_2, from_be_bytes-to_be_bytes_8}
use Rattle.std.specs.Int.{w16, w64, from_be_bytes, to_be_bytes}
use Rattle.sha2.proofs.Facts256.{length-sha256}
use Rattle.base_terms.specs.Blocks.{pasted}
use Rattle.luks_bin.specs.Fields.{field, u16_in, u64_in, is_size}
use Rattle.luks_bin.specs.Copies.{magic_of, algorithm, sum_of, sum_field, holds_nul, up_to_nul}
use Rattle.luks_bin.specs.Copies.{text_of, copy_of, IsCopy, BeginsWithCopy}
use Rattle.luks_bin.specs.Shares.{Agree}
use Rattle.luks_bin.specs.Writing.{Piece, paste_all, common_pieces, common, own_pieces, summed}
use Rattle.luks_bin.specs.Writing.{moved, written, IsWritable, FitsArea}
use Rattle.luks_bin.specs.declared.header.BinHeader.{BinHeader}
use Rattle.luks_bin.proofs.FieldLemmas.{size-least, size-most}
use Rattle.luks_bin.proofs.PieceLemmas.{AreWithin, are_apart, length-pasted, length-paste_all}
use Rattle.luks_bin.proofs.PieceLemmas.{field-pasted, field-before, drop-behind, field-elsewhere}
use Rattle.luks_bin.proofs.PieceLemmas.{drop-elsewhere, field-nth}
use Rattle.luks_bin.proofs.ReadLemmas.{spelt, spells}

-- ---- the sum
length-sum : (copy : List ℕ) → length (sum_of copy) ≡ 32
unfolding sum_of
length-sum copy = length-sha256 _

length-sum_field : (copy : List ℕ) → length (sum_field (sum_of copy)) ≡ 64
unfolding sum_field
length-sum_field copy =
    length-append (sum_of copy) (replicate 32 0) ∙ ap (λ n. n + 32) (length-sum copy)

front-summed : (copy : List ℕ) → 512 ≤ length copy → take 448 (summed copy) ≡ take 448 copy
unfolding summed field
front-summed copy h =
    field-before copy 0 448 448 (sum_field (sum_of copy)) (omega arith)
    (omega (arith, length-sum_field copy))

back-summed : (copy : List ℕ) → 512 ≤ length copy → drop 512 (summed copy) ≡ drop 512 copy
unfolding summed
back-summed copy h =
    drop-behind copy 512 448 (sum_field (sum_of copy)) (omega (arith, length-sum_field copy))
    (omega (arith, length-sum_field copy))

-- the sum doesn't depend on its field
sum-summed : (copy : List ℕ) → 512 ≤ length copy → sum_of (summed copy) ≡ sum_of copy
unfolding sum_of
sum-summed copy h = rw (front-summed copy h, back-summed copy h) refl

length-summed : (copy : List ℕ) → 512 ≤ length copy → length (summed copy) ≡ length copy
unfolding summed
length-summed copy h =
    length-pasted copy 448 (sum_field (sum_of copy)) (omega (arith, length-sum_field copy))

field-summed : (copy : List ℕ) (at len : ℕ) → 512 ≤ length copy → at + len ≤ 448
    → field at len (summed copy) ≡ field at len copy
unfolding summed
field-summed copy at len h k =
    field-before copy at len 448 (sum_field (sum_of copy)) k (omega (arith, length-sum_field copy))

sum-put : (copy : List ℕ) → 512 ≤ length copy → field 448 64 (summed copy) ≡ sum_field (sum_of copy)
unfolding summed
sum-put copy h =
    field-pasted copy 448 64 (sum_field (sum_of copy)) (length-sum_field copy) (omega arith)

csum-summed : (copy : List ℕ) → 512 ≤ length copy
    → field 448 64 (summed copy) ≡ sum_field (sum_of (summed copy))
csum-summed copy h = sum-put copy h ∙ ap sum_field (sym (sum-summed copy h))

-- ---- a moved copy
length-either : (b : Bool) (xs ys : List ℕ) (n : ℕ) → length xs ≡ n → length ys ≡ n
    → length (if b then xs else ys) ≡ n
length-either true xs ys n p q = p
length-either false xs ys n p q = q

length-magic : (place : ℕ) → length (magic_of place) ≡ 6
unfolding magic_of
length-magic place = length-either (place == 0) _ _ 6 refl refl

own-within : (place : ℕ) (salt copy : List ℕ) → length salt ≡ 64 → 4096 ≤ length copy
    → AreWithin (length copy) (own_pieces place salt)
own-within place salt copy len h =
    (length-magic place, omega arith, (len, omega arith, (refl, omega arith, tt)))

-- a part that is elsewhere stays
field-moved : (place : ℕ) (salt copy : List ℕ) (at len : ℕ) → length salt ≡ 64 → 4096 ≤ length copy
    → at + len ≤ 448 → are_apart at len (own_pieces place salt) ≡ true
    → field at len (moved place salt copy) ≡ field at len copy
unfolding moved
field-moved place salt copy at len is h k apart =
    let within : AreWithin (length copy) (own_pieces place salt) =
    own-within place salt copy is h in
    let long : length (paste_all (own_pieces place salt) copy) ≡ length copy =
    length-paste_all (own_pieces place salt) copy within in
    field-summed (paste_all (own_pieces place salt) copy) at len (omega arith) k
    ∙ field-elsewhere at len (own_pieces place salt) copy apart within

-- what is put stands there
field-own : (place : ℕ) (salt copy : List ℕ) → length salt ≡ 64 → 4096 ≤ length copy
    → (field 0 6 (moved place salt copy) ≡ magic_of place)
    × (field 104 64 (moved place salt copy) ≡ salt)
    × (field 256 8 (moved place salt copy) ≡ to_be_bytes w64 place)
unfolding moved
field-own place salt copy is h =
    let pieces : List Piece = own_pieces place salt in
    let within : AreWithin (length copy) pieces = own-within place salt copy is h in
    let long : length (paste_all pieces copy) ≡ length copy = length-paste_all pieces copy within in
    let stays =
    λ (at len : ℕ) (k : at + len ≤ 448). field-summed (paste_all pieces copy) at len (omega arith)
    k in (
      stays 0 6 (omega arith) ∙ field-nth 0 pieces copy (omega arith) refl within,
      stays 104 64 (omega arith) ∙ field-nth 1 pieces copy (omega arith) refl within,
      stays 256 8 (omega arith) ∙ field-nth 2 pieces copy (omega arith) refl within,
    )

pub length-moved : (place : ℕ) (salt copy : List ℕ) → length salt ≡ 64 → 4096 ≤ length copy
    → length (moved place salt copy) ≡ length copy
unfolding moved
length-moved place salt copy is h =
    let long : length (paste_all (own_pieces place salt) copy) ≡ length copy =
    length-paste_all (own_pieces place salt) copy (own-within place salt copy is h) in
    length-summed (paste_all (own_pieces place salt) copy) (omega arith) ∙ long

csum-moved : (place : ℕ) (salt copy : List ℕ) → length salt ≡ 64 → 4096 ≤ length copy
    → field 448 64 (moved place salt copy) ≡ sum_field (sum_of (moved place salt copy))
unfolding moved
csum-moved place salt copy is h =
    let long : length (paste_all (own_pieces place salt) copy) ≡ length copy =
    length-paste_all (own_pieces place salt) copy (own-within place salt copy is h) in
    csum-summed (paste_all (own_pieces place salt) copy) (omega arith)

pub back-moved : (place : ℕ) (salt copy : List ℕ) → length salt ≡ 64 → 4096 ≤ length copy
    → drop 512 (moved place salt copy) ≡ drop 512 copy
unfolding moved
back-moved place salt copy is h =
    let within : AreWithin (length copy) (own_pieces place salt) =
    own-within place salt copy is h in
    let long : length (paste_all (own_pieces place salt) copy) ≡ length copy =
    length-paste_all (own_pieces place salt) copy within in
    back-summed (paste_all (own_pieces place salt) copy) (omega arith)
    ∙ drop-elsewhere 512 (own_pieces place salt) copy refl within

-- the text stays
pub text-moved : (place : ℕ) (salt copy : List ℕ) → length salt ≡ 64 → 4096 ≤ length copy
    → text_of (moved place salt copy) ≡ text_of copy
unfolding text_of
text-moved place salt copy is h =
    ap up_to_nul
    (sym (drop-drop 3584 512 (moved place salt copy))
    ∙ ap (drop 3584) (back-moved place salt copy is h) ∙ drop-drop 3584 512 copy)

-- equal parts have equal bytes
byte-field : (at len k : ℕ) (a b : List ℕ) → field at len a ≡ field at len b → at ≤ k → k < at + len
    → get_or a k 0 ≡ get_or b k 0
unfolding field
byte-field at len k a b e h l =
    let i = k - at in
    let one =
    λ (c : List ℕ). get_or-take len (drop at c) i 0 (omega arith) ∙ get_or-drop at c i 0 in
    let here : at + i ≡ k = omega arith in
    subst (λ (m : ℕ). get_or a m 0 ≡ get_or b m 0) here
    (sym (one a) ∙ ap (λ c. get_or c i 0) e ∙ one b)

byte-back : (at k : ℕ) (a b : List ℕ) → drop at a ≡ drop at b → at ≤ k → get_or a k 0 ≡ get_or b k 0
byte-back at k a b e h =
    let i = k - at in
    let here : at + i ≡ k = omega arith in
    subst (λ (m : ℕ). get_or a m 0 ≡ get_or b m 0) here
    (sym (get_or-drop at a i 0) ∙ ap (λ c. get_or c i 0) e ∙ get_or-drop at b i 0)

pub agree-moved : (place : ℕ) (salt copy : List ℕ) → length salt ≡ 64 → 4096 ≤ length copy
    → Agree (moved place salt copy) copy
unfolding Agree
agree-moved place salt copy is h k shared = elim shared [
  | inl a ↦
      byte-field 6 98 k _ _ (field-moved place salt copy 6 98 is h (omega arith) refl) a.0
      (omega (arith, a.1))
  | inr r ↦ elim r [
    | inl b ↦
        byte-field 168 88 k _ _ (field-moved place salt copy 168 88 is h (omega arith) refl) b.0
        (omega (arith, b.1))
    | inr s ↦ elim s [
      | inl c ↦
          byte-field 264 184 k _ _ (field-moved place salt copy 264 184 is h (omega arith) refl) c.0
          (omega (arith, c.1))
      | inr d ↦ byte-back 512 k _ _ (back-moved place salt copy is h) d
    ]
  ]
]

-- ---- the fields that the copies of a header have in common
pub record HasCommon (copy : List ℕ) (h : BinHeader) : Type 0 where
  pub whole : length copy ≡ h.hdr_size
  pub one_of_nine : is_size h.hdr_size ≡ true
  pub version : u16_in 6 copy ≡ 2
  pub hdr_size : u64_in 8 copy ≡ h.hdr_size
  pub seqid : u64_in 16 copy ≡ h.seqid
  pub label : field 24 48 copy ≡ h.label
  pub label_ends : holds_nul h.label ≡ true
  pub checksum_alg : field 72 7 copy ≡ algorithm
  pub uuid : field 168 40 copy ≡ h.uuid
  pub uuid_ends : holds_nul h.uuid ≡ true
  pub subsystem : field 208 48 copy ≡ h.subsystem
  pub subsystem_ends : holds_nul h.subsystem ≡ true

u16-same : (at : ℕ) (a b : List ℕ) → field at 2 a ≡ field at 2 b → u16_in at a ≡ u16_in at b
unfolding u16_in
u16-same at a b e = ap (from_be_bytes w16) e

u64-same : (at : ℕ) (a b : List ℕ) → field at 8 a ≡ field at 8 b → u64_in at a ≡ u64_in at b
unfolding u64_in
u64-same at a b e = ap (from_be_bytes w64) e

u16-of : (at n : ℕ) (bytes : List ℕ) → n < 2 ^ 16 → field at 2 bytes ≡ to_be_bytes w16 n
    → u16_in at bytes ≡ n
unfolding u16_in
u16-of at n bytes h e = ap (from_be_bytes w16) e ∙ from_be_bytes-to_be_bytes_2 n h

u64-of : (at n : ℕ) (bytes : List ℕ) → n < 2 ^ 64 → field at 8 bytes ≡ to_be_bytes w64 n
    → u64_in at bytes ≡ n
unfolding u64_in
u64-of at n bytes h e = ap (from_be_bytes w64) e ∙ from_be_bytes-to_be_bytes_8 n h

-- A moved copy is the copy of the same header at the other place.
pub moved-is : (place : ℕ) (salt copy : List ℕ) (h : BinHeader) → HasCommon copy h
    → length salt ≡ 64 → (place ≡ 0) ⊎ (place ≡ h.hdr_size)
    → IsCopy (moved place salt copy) (record h { hdr_offset = place; salt = salt })
moved-is place salt copy h has len fits =
    let least : 16384 ≤ h.hdr_size = size-least h.hdr_size has.one_of_nine in
    let most : h.hdr_size ≤ 4194304 = size-most h.hdr_size has.one_of_nine in
    let enough : 4096 ≤ length copy = omega (arith, has.whole) in
    let small : place < 2 ^ 64 =
    elim fits [ inl z ↦ omega (arith, z) | inr e ↦ omega (arith, e) ] in
    let own = field-own place salt copy len enough in
    let w = moved place salt copy in
    record {
      whole = length-moved place salt copy len enough ∙ has.whole;
      one_of_nine = has.one_of_nine;
      place = fits;
      magic = own.0;
      version =
          u16-same 6 w copy (field-moved place salt copy 6 2 len enough (omega arith) refl)
          ∙ has.version;
      hdr_size =
          u64-same 8 w copy (field-moved place salt copy 8 8 len enough (omega arith) refl)
          ∙ has.hdr_size;
      seqid = u64-same 16 w copy (field-moved place salt copy 16 8 len enough (omega arith) refl)
          ∙ has.seqid;
      label = field-moved place salt copy 24 48 len enough (omega arith) refl ∙ has.label;
      label_ends = has.label_ends;
      checksum_alg =
          field-moved place salt copy 72 7 len enough (omega arith) refl ∙ has.checksum_alg;
      salt = own.1;
      uuid = field-moved place salt copy 168 40 len enough (omega arith) refl ∙ has.uuid;
      uuid_ends = has.uuid_ends;
      subsystem = field-moved place salt copy 208 48 len enough (omega arith) refl ∙ has.subsystem;
      subsystem_ends = has.subsystem_ends;
      hdr_offset = u64-of 256 place w small own.2;
      csum = csum-moved place salt copy len enough;
    }

has-copy : (copy : List ℕ) (h : BinHeader) → IsCopy copy h → HasCommon copy h
has-copy copy h is = record {
  whole = is.whole;
  one_of_nine = is.one_of_nine;
  version = is.version;
  hdr_size = is.hdr_size;
  seqid = is.seqid;
  label = is.label;
  label_ends = is.label_ends;
  checksum_alg = is.checksum_alg;
  uuid = is.uuid;
  uuid_ends = is.uuid_ends;
  subsystem = is.subsystem;
  subsystem_ends = is.subsystem_ends;
}

-- a whole copy begins with itself
begins : (copy : List ℕ) (h : BinHeader) → IsCopy copy h → BeginsWithCopy h.hdr_offset copy h
begins copy h is = record {
  there = omega (arith, is.whole);
  here = refl;
  copy = subst (λ (bytes : List ℕ). IsCopy bytes h)
      (sym (take_all h.hdr_size copy (omega (arith, is.whole)))) is;
}

pub moved-back : (place from : ℕ) (salt copy : List ℕ) (h : BinHeader) → length salt ≡ 64
    → copy_of from copy ≡ Ok h → length copy ≡ h.hdr_size → (place ≡ 0) ⊎ (place ≡ h.hdr_size)
    → copy_of place (moved place salt copy) ≡ Ok (record h { hdr_offset = place; salt = salt })
moved-back place from salt copy h len k whole fits =
    let was = spelt from copy h k in
    let is : IsCopy copy h =
    subst (λ (bytes : List ℕ). IsCopy bytes h) (take_all h.hdr_size copy (omega (arith, whole)))
    was.copy in
    spells place (moved place salt copy) (record h { hdr_offset = place; salt = salt })
    (begins (moved place salt copy) (record h { hdr_offset = place; salt = salt })
    (moved-is place salt copy h (has-copy copy h is) len fits))

-- ---- a written copy
-- the arrays of a header have their lengths, and its number its range
pub record IsShaped (h : BinHeader) : Type 0 where
  pub seqid : h.seqid < 2 ^ 64
  pub label : length h.label ≡ 48
  pub salt : length h.salt ≡ 64
  pub uuid : length h.uuid ≡ 40
  pub subsystem : length h.subsystem ≡ 48

common-within : (h : BinHeader) (json : List ℕ) → IsShaped h → 16384 ≤ h.hdr_size
    → 4096 + length json < h.hdr_size
    → AreWithin (length {A = ℕ} (replicate h.hdr_size 0)) (common_pieces h json)
common-within h json is least room =
    let zeros : List ℕ = replicate h.hdr_size 0 in
    let size : length zeros ≡ h.hdr_size = length-replicate h.hdr_size 0 in (
      refl,
      omega arith,
      (
        refl,
        omega arith,
        (
          refl,
          omega arith,
          (
            is.label,
            omega arith,
            (
              refl,
              omega arith,
              (is.uuid, omega arith, (is.subsystem, omega arith, (refl, omega arith, tt))),
            ),
          ),
        ),
      ),
    )

common-has : (h : BinHeader) (json : List ℕ) → IsShaped h → IsWritable h → FitsArea h.hdr_size json
    → HasCommon (common h json) h
unfolding common
common-has h json is right fits =
    let least : 16384 ≤ h.hdr_size = size-least h.hdr_size right.one_of_nine in
    let most : h.hdr_size ≤ 4194304 = size-most h.hdr_size right.one_of_nine in
    let zeros : List ℕ = replicate h.hdr_size 0 in
    let pieces : List Piece = common_pieces h json in
    let within : AreWithin (length zeros) pieces = common-within h json is least fits.room in
    record {
      whole = length-paste_all pieces zeros within ∙ length-replicate h.hdr_size 0;
      one_of_nine = right.one_of_nine;
      version =
          u16-of 6 2 (paste_all pieces zeros) (omega arith)
          (field-nth 0 pieces zeros (omega arith) refl within);
      hdr_size =
          u64-of 8 h.hdr_size (paste_all pieces zeros) (omega arith)
          (field-nth 1 pieces zeros (omega arith) refl within);
      seqid = u64-of 16 h.seqid (paste_all pieces zeros) is.seqid
          (field-nth 2 pieces zeros (omega arith) refl within);
      label = field-nth 3 pieces zeros (omega arith) refl within;
      label_ends = right.label_ends;
      checksum_alg = field-nth 4 pieces zeros (omega arith) refl within;
      uuid = field-nth 5 pieces zeros (omega arith) refl within;
      uuid_ends = right.uuid_ends;
      subsystem = field-nth 6 pieces zeros (omega arith) refl within;
      subsystem_ends = right.subsystem_ends;
    }

pub written-back : (h : BinHeader) (json : List ℕ) → IsShaped h → IsWritable h
    → FitsArea h.hdr_size json → copy_of h.hdr_offset (written h json) ≡ Ok h
unfolding written
written-back h json is right fits =
    let copy : IsCopy (moved h.hdr_offset h.salt (common h json)) h =
    moved-is h.hdr_offset h.salt (common h json) h (common-has h json is right fits) is.salt
    right.place in
    spells h.hdr_offset _ h (begins _ h copy)

pub length-common : (h : BinHeader) (json : List ℕ) → IsShaped h → IsWritable h
    → FitsArea h.hdr_size json → 4096 ≤ length (common h json)
length-common h json is right fits =
    let has : HasCommon (common h json) h = common-has h json is right fits in
    let least : 16384 ≤ h.hdr_size = size-least h.hdr_size right.one_of_nine in
    omega (arith, has.whole)

pub written-agree : (h : BinHeader) (json : List ℕ) → IsShaped h → IsWritable h
    → FitsArea h.hdr_size json → Agree (written h json) (common h json)
unfolding written
written-agree h json is right fits =
    agree-moved h.hdr_offset h.salt (common h json) is.salt (length-common h json is right fits)

-- ---- and its text
up_to_nul-plain : (text rest : List ℕ) → holds_nul text ≡ false
    → up_to_nul (text ++ 0 ∷ rest) ≡ text
unfolding up_to_nul
up_to_nul-plain [] rest plain = take_while-cons (λ byte. not (byte == 0)) 0 rest
up_to_nul-plain (x ∷ text) rest plain =
    let p = or_parts (x == 0) (holds_nul text) plain in
    take_while-cons (λ byte. not (byte == 0)) x (text ++ 0 ∷ rest)
    ∙ rw p.0 (ap (λ r. x ∷ r) (up_to_nul-plain text rest p.1))

zeros-more : (n : ℕ) → 0 < n → (rest : List ℕ) × (replicate n 0 ≡ 0 ∷ rest)
zeros-more zero h = absurd (omega arith)
zeros-more (suc n) h = (replicate n 0, refl)

drop-pasted : (old : List ℕ) (at : ℕ) (bytes : List ℕ) → at + length bytes ≤ length old
    → drop at (pasted old at bytes) ≡ bytes ++ drop (at + length bytes) old
unfolding pasted
drop-pasted old at bytes h =
    ap (drop at) (append_assoc (take at old) bytes (drop (at + length bytes) old))
    ∙ drop_at (take at old) (bytes ++ drop (at + length bytes) old) at
    (length-take-le at old (omega arith))

pub drop-common : (h : BinHeader) (json : List ℕ) → IsShaped h → 16384 ≤ h.hdr_size
    → 4096 + length json < h.hdr_size
    → drop 4096 (common h json) ≡ json ++ replicate (h.hdr_size - (4096 + length json)) 0
unfolding common
drop-common h json is least room =
    let zeros : List ℕ = replicate h.hdr_size 0 in
    let size : length zeros ≡ h.hdr_size = length-replicate h.hdr_size 0 in
    let fields : List Piece = take 7 (common_pieces h json) in
    let within : AreWithin (length zeros) fields = (
      refl,
      omega arith,
      (
        refl,
        omega arith,
        (
          refl,
          omega arith,
          (
            is.label,
            omega arith,
            (refl, omega arith, (is.uuid, omega arith, (is.subsystem, omega arith, tt))),
          ),
        ),
      ),
    ) in
    let old : List ℕ = paste_all fields zeros in
    let long : length old ≡ h.hdr_size = length-paste_all fields zeros within ∙ size in
    drop-pasted old 4096 json (omega (arith, long))
    ∙ ap (λ r. json ++ r)
    (sym (drop-drop (length json) 4096 old)
    ∙ ap (drop (length json)) (drop-elsewhere 4096 fields zeros refl within)
    ∙ drop-drop (length json) 4096 zeros ∙ drop-replicate (4096 + length json) h.hdr_size 0)

text-common : (h : BinHeader) (json : List ℕ) → IsShaped h → IsWritable h → FitsArea h.hdr_size json
    → text_of (common h json) ≡ json
unfolding text_of
text-common h json is right fits =
    let least : 16384 ≤ h.hdr_size = size-least h.hdr_size right.one_of_nine in
    let zeros = zeros-more (h.hdr_size - (4096 + length json)) (omega (arith, fits.room)) in
    ap up_to_nul (drop-common h json is least fits.room) ∙ ap (λ r. up_to_nul (json ++ r)) zeros.1
    ∙ up_to_nul-plain json zeros.0 (false_from_ne_true (holds_nul json) fits.plain)

pub written-text : (h : BinHeader) (json : List ℕ) → IsShaped h → IsWritable h
    → FitsArea h.hdr_size json → text_of (written h json) ≡ json
unfolding written
written-text h json is right fits =
    text-moved h.hdr_offset h.salt (common h json) is.salt (length-common h json is right fits)
    ∙ text-common h json is right fits
