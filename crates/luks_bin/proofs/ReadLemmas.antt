-- Which bytes are a copy, and that a front of them tells.
use Rattle.std.proofs.Common.{◌≡◌, ◌⊎◌, inl, inr, ℕ, ◌≤◌, ◌==◌, ◌||◌, nat_le, List, length, take}
use Rattle.std.proofs.Common.{Bool, true, false, Result, Ok, Err, refl, sym, ap, subst, ◌∙◌, arith}
use Rattle.std.specs.Str.{bytes_eq}
use Rattle.std.proofs.lemmas.Bool.{eq-eqb, eqb-true, leb-true, le-leb, or_cases, and_parts}
use Rattle.std.proofs.lemmas.Bool.{and_from, or_left, or_right}
use Rattle.std.proofs.lemmas.List.{take-take, length-take-le}
use Rattle.std.proofs.lemmas.Slice.Eq.{bytes_eq-Decides}
use Rattle.luks_bin.specs.Fields.{field, u16_in, u64_in, is_size}
use Rattle.luks_bin.specs.Copies.{magic_of, algorithm, sum_of, sum_field, holds_nul, wanted, ◌>>=◌}
use Rattle.luks_bin.specs.Copies.{stands_at, size_of, header_of, copy_of, IsCopy, BeginsWithCopy}
use Rattle.luks_bin.specs.declared.header.BinFault.{BinFault}
use Rattle.luks_bin.specs.declared.header.BinHeader.{BinHeader}
use Rattle.luks_bin.proofs.FieldLemmas.{field-front, u16-front, u64-front, size-least}

-- ---- tests that passed
passed : {A : Type 0} (b : Bool) (fault : BinFault) (rest : Unit {0} → Result A BinFault) (x : A)
    → (wanted b fault >>= rest) ≡ Ok x → (b ≡ true) × (rest tt ≡ Ok x)
passed true fault rest x h = (refl, h)
passed false fault rest x h = cc

followed : {A B : Type 0} (r : Result A BinFault) (rest : A → Result B BinFault) (y : B)
    → (r >>= rest) ≡ Ok y → (x : A) × (r ≡ Ok x) × (rest x ≡ Ok y)
followed (Ok x) rest y h = (x, refl, h)
followed (Err fault) rest y h = cc

inside : {A : Type 0} (x y : A) → ◌≡◌ {A = Result A BinFault} (Ok x) (Ok y) → x ≡ y
inside x y h = cc

same : (xs ys : List ℕ) → xs ≡ ys → bytes_eq xs ys ≡ true
same xs ys e = (bytes_eq-Decides xs ys).1 e

equal : (xs ys : List ℕ) → bytes_eq xs ys ≡ true → xs ≡ ys
equal xs ys e = (bytes_eq-Decides xs ys).0 e

-- ---- the first four fields
pub record IsSized (place there : ℕ) (head : List ℕ) (size : ℕ) : Type 0 where
  pub enough : 4096 ≤ there
  pub magic : field 0 6 head ≡ magic_of place
  pub version : u16_in 6 head ≡ 2
  pub stated : u64_in 8 head ≡ size
  pub one_of_nine : is_size size ≡ true
  pub room : size ≤ there
  pub here : u64_in 256 head ≡ place
  pub fits : (place ≡ 0) ⊎ (size ≡ place)

pub sized : (place there : ℕ) (head : List ℕ) (size : ℕ) → size_of place there head ≡ Ok size
    → IsSized place there head size
unfolding size_of
sized place there head size h =
    let a = passed _ _ _ _ h in
    let b = passed _ _ _ _ a.1 in
    let c = passed _ _ _ _ b.1 in
    let d = passed _ _ _ _ c.1 in
    let e = passed _ _ _ _ d.1 in
    let f = passed _ _ _ _ e.1 in
    let stated : u64_in 8 head ≡ size = inside _ _ f.1 in
    let stands = and_parts (u64_in 256 head == place) (place == 0 || u64_in 8 head == place) f.0 in
    record {
      enough = leb-true _ _ a.0;
      magic = equal _ _ b.0;
      version = eqb-true _ _ c.0;
      stated = stated;
      one_of_nine = ap is_size (sym stated) ∙ d.0;
      room = subst (λ (n : ℕ). n ≤ there) stated (leb-true _ _ e.0);
      here = eqb-true _ _ stands.0;
      fits = elim (or_cases (place == 0) (u64_in 8 head == place) stands.1) [
        | inl z ↦ inl (eqb-true _ _ z)
        | inr s ↦ inr (sym stated ∙ eqb-true _ _ s)
      ];
    }

fitting : (place size : ℕ) → (place ≡ 0) ⊎ (size ≡ place) → (place == 0 || size == place) ≡ true
fitting place size (inl e) = or_left _ _ (eq-eqb place 0 e)
fitting place size (inr e) = or_right (place == 0) _ (eq-eqb size place e)

pub sized-from : (place there : ℕ) (head : List ℕ) (size : ℕ) → IsSized place there head size
    → size_of place there head ≡ Ok size
unfolding size_of
sized-from place there head size is =
    let a : nat_le 4096 there ≡ true = le-leb _ _ is.enough in
    let b : bytes_eq (field 0 6 head) (magic_of place) ≡ true = same _ _ is.magic in
    let c : (u16_in 6 head == 2) ≡ true = eq-eqb _ _ is.version in
    let d : is_size (u64_in 8 head) ≡ true = ap is_size is.stated ∙ is.one_of_nine in
    let e : nat_le (u64_in 8 head) there ≡ true =
    ap (λ n. nat_le n there) is.stated ∙ le-leb _ _ is.room in
    let f : stands_at place (u64_in 8 head) (u64_in 256 head) ≡ true =
    and_from _ _ (eq-eqb _ _ is.here)
    (ap (λ n. place == 0 || n == place) is.stated ∙ fitting place size is.fits) in
    rw (a, b, c, d, e, f) (ap Ok is.stated)

-- a head tells the size
pub size-head : (place there : ℕ) (bytes : List ℕ)
    → size_of place there (take 4096 bytes) ≡ size_of place there bytes
unfolding size_of
size-head place there bytes =
    let a : field 0 6 (take 4096 bytes) ≡ field 0 6 bytes =
    field-front 4096 0 6 bytes (omega arith) in
    let b : u16_in 6 (take 4096 bytes) ≡ u16_in 6 bytes = u16-front 4096 6 bytes (omega arith) in
    let c : u64_in 8 (take 4096 bytes) ≡ u64_in 8 bytes = u64-front 4096 8 bytes (omega arith) in
    let d : u64_in 256 (take 4096 bytes) ≡ u64_in 256 bytes =
    u64-front 4096 256 bytes (omega arith) in
    rw (a, b, c, d) refl

-- so does the copy alone
sized-front : (place : ℕ) (bytes : List ℕ) (size : ℕ) → IsSized place (length bytes) bytes size
    → IsSized place (length (take size bytes)) (take size bytes) size
sized-front place bytes size is =
    let least : 16384 ≤ size = size-least size is.one_of_nine in
    let len : length (take size bytes) ≡ size = length-take-le size bytes is.room in
    record {
      enough = omega (arith, len);
      magic = field-front size 0 6 bytes (omega arith) ∙ is.magic;
      version = u16-front size 6 bytes (omega arith) ∙ is.version;
      stated = u64-front size 8 bytes (omega arith) ∙ is.stated;
      one_of_nine = is.one_of_nine;
      room = omega (arith, len);
      here = u64-front size 256 bytes (omega arith) ∙ is.here;
      fits = is.fits;
    }

copy_of-sized : (place : ℕ) (bytes : List ℕ) (size : ℕ)
    → size_of place (length bytes) bytes ≡ Ok size
    → copy_of place bytes ≡ header_of (take size bytes)
unfolding copy_of
copy_of-sized place bytes size h = rw h refl

pub copy-front : (place size : ℕ) (bytes : List ℕ) → size_of place (length bytes) bytes ≡ Ok size
    → copy_of place (take size bytes) ≡ copy_of place bytes
copy-front place size bytes h =
    let front : size_of place (length (take size bytes)) (take size bytes) ≡ Ok size =
    sized-from _ _ _ _ (sized-front place bytes size (sized _ _ _ _ h)) in
    copy_of-sized place (take size bytes) size front
    ∙ ap header_of (take-take size size bytes (omega arith))
    ∙ sym (copy_of-sized place bytes size h)

-- ---- the other fields
record IsRead (copy : List ℕ) (h : BinHeader) : Type 0 where
  pub hdr_size : u64_in 8 copy ≡ h.hdr_size
  pub seqid : u64_in 16 copy ≡ h.seqid
  pub label : field 24 48 copy ≡ h.label
  pub label_ends : holds_nul (field 24 48 copy) ≡ true
  pub checksum_alg : field 72 7 copy ≡ algorithm
  pub salt : field 104 64 copy ≡ h.salt
  pub uuid : field 168 40 copy ≡ h.uuid
  pub uuid_ends : holds_nul (field 168 40 copy) ≡ true
  pub subsystem : field 208 48 copy ≡ h.subsystem
  pub subsystem_ends : holds_nul (field 208 48 copy) ≡ true
  pub hdr_offset : u64_in 256 copy ≡ h.hdr_offset
  pub csum : field 448 64 copy ≡ sum_field (sum_of copy)

header-read : (copy : List ℕ) (h : BinHeader) → header_of copy ≡ Ok h → IsRead copy h
unfolding header_of
header-read copy h k =
    let a = passed _ _ _ _ k in
    let b = passed _ _ _ _ a.1 in
    let c = passed _ _ _ _ b.1 in
    let d = passed _ _ _ _ c.1 in
    let e = passed _ _ _ _ d.1 in
    let last = e.1 in
    record {
      hdr_size = cc;
      seqid = cc;
      label = cc;
      label_ends = c.0;
      checksum_alg = equal _ _ a.0;
      salt = cc;
      uuid = cc;
      uuid_ends = d.0;
      subsystem = cc;
      subsystem_ends = e.0;
      hdr_offset = cc;
      csum = equal _ _ b.0;
    }

read-header : (copy : List ℕ) (h : BinHeader) → IsRead copy h → header_of copy ≡ Ok h
unfolding header_of
read-header copy h is =
    let a : bytes_eq (field 72 7 copy) algorithm ≡ true = same _ _ is.checksum_alg in
    let b : bytes_eq (field 448 64 copy) (sum_field (sum_of copy)) ≡ true = same _ _ is.csum in
    rw (a, b, is.label_ends, is.uuid_ends, is.subsystem_ends)
    (λ i. Ok (record {
      hdr_size = is.hdr_size i;
      seqid = is.seqid i;
      label = is.label i;
      salt = is.salt i;
      uuid = is.uuid i;
      subsystem = is.subsystem i;
      hdr_offset = is.hdr_offset i;
    }))

-- ---- both ways
pub spelt : (place : ℕ) (bytes : List ℕ) (h : BinHeader) → copy_of place bytes ≡ Ok h
    → BeginsWithCopy place bytes h
unfolding copy_of
spelt place bytes h k =
    let f = followed (size_of place (length bytes) bytes) (λ size. header_of (take size bytes)) h
    k in
    let size : ℕ = f.0 in
    let is : IsSized place (length bytes) bytes size = sized _ _ _ _ f.1 in
    let least : 16384 ≤ size = size-least size is.one_of_nine in
    let read : IsRead (take size bytes) h = header-read _ _ f.2 in
    let same_size : size ≡ h.hdr_size =
    sym (u64-front size 8 bytes (omega arith) ∙ is.stated) ∙ read.hdr_size in
    let here : h.hdr_offset ≡ place =
    sym (sym (u64-front size 256 bytes (omega arith) ∙ is.here) ∙ read.hdr_offset) in
    let copy : IsCopy (take size bytes) h = record {
      whole = length-take-le size bytes is.room ∙ same_size;
      one_of_nine = ap is_size (sym same_size) ∙ is.one_of_nine;
      place = elim is.fits [
        | inl z ↦ inl (here ∙ z)
        | inr e ↦ inr (here ∙ sym e ∙ same_size)
      ];
      magic = field-front size 0 6 bytes (omega arith) ∙ is.magic ∙ ap magic_of (sym here);
      version = u16-front size 6 bytes (omega arith) ∙ is.version;
      hdr_size = read.hdr_size;
      seqid = read.seqid;
      label = read.label;
      label_ends = ap holds_nul (sym read.label) ∙ read.label_ends;
      checksum_alg = read.checksum_alg;
      salt = read.salt;
      uuid = read.uuid;
      uuid_ends = ap holds_nul (sym read.uuid) ∙ read.uuid_ends;
      subsystem = read.subsystem;
      subsystem_ends = ap holds_nul (sym read.subsystem) ∙ read.subsystem_ends;
      hdr_offset = read.hdr_offset;
      csum = read.csum;
    } in
    record {
      there = subst (λ (n : ℕ). n ≤ length bytes) same_size is.room;
      here = here;
      copy = subst (λ (n : ℕ). IsCopy (take n bytes) h) same_size copy;
    }

pub spells : (place : ℕ) (bytes : List ℕ) (h : BinHeader) → BeginsWithCopy place bytes h
    → copy_of place bytes ≡ Ok h
spells place bytes h begins =
    let size : ℕ = h.hdr_size in
    let is : IsCopy (take size bytes) h = begins.copy in
    let least : 16384 ≤ size = size-least size is.one_of_nine in
    let first : IsSized place (length bytes) bytes size = record {
      enough = omega (arith, begins.there);
      magic = sym (field-front size 0 6 bytes (omega arith)) ∙ is.magic ∙ ap magic_of begins.here;
      version = sym (u16-front size 6 bytes (omega arith)) ∙ is.version;
      stated = sym (u64-front size 8 bytes (omega arith)) ∙ is.hdr_size;
      one_of_nine = is.one_of_nine;
      room = begins.there;
      here = sym (u64-front size 256 bytes (omega arith)) ∙ is.hdr_offset ∙ begins.here;
      fits = elim is.place [
        | inl z ↦ inl (sym begins.here ∙ z)
        | inr e ↦ inr (sym e ∙ begins.here)
      ];
    } in
    let rest : IsRead (take size bytes) h = record {
      hdr_size = is.hdr_size;
      seqid = is.seqid;
      label = is.label;
      label_ends = ap holds_nul is.label ∙ is.label_ends;
      checksum_alg = is.checksum_alg;
      salt = is.salt;
      uuid = is.uuid;
      uuid_ends = ap holds_nul is.uuid ∙ is.uuid_ends;
      subsystem = is.subsystem;
      subsystem_ends = ap holds_nul is.subsystem ∙ is.subsystem_ends;
      hdr_offset = is.hdr_offset;
      csum = is.csum;
    } in
    copy_of-sized place bytes size (sized-from _ _ _ _ first) ∙ read-header _ _ rest
