-- Lemmas on the copy that is used, as the header that a disk's bytes have.
use Rattle.std.proofs.Common.{◌≡◌, inl, inr, ℕ, ◌<◌, ◌≤◌, nat_lt, List, length, take, drop, Option}
use Rattle.std.proofs.Common.{Some, None, Bool, true, false, Result, Ok, Err, refl, sym, ◌∙◌, ap}
use Rattle.std.proofs.Common.{subst, arith}
use Rattle.std.specs.Str.{bytes_eq}
use Rattle.std.proofs.lemmas.Bool.{ltb-true, ltb-false}
use Rattle.std.proofs.lemmas.Slice.Eq.{bytes_eq-Decides}
use Rattle.crash_laws.specs.HeaderAreas.Headers.{found, Gives}
use Rattle.luks_bin.proofs.FieldLemmas.{size-least}
use Rattle.luks_bin.specs.Copies.{copy_of, ◌>>=◌}
use Rattle.luks_bin.specs.declared.header.BinFault.{BinFault}
use Rattle.luks_bin.specs.declared.header.BinHeader.{BinHeader}
use Rattle.luks_store.proofs.Copying.MeaningLemmas.{seqid_is, size_is}
use Rattle.luks_store.specs.Copying.Meanings.{header_reader, meaning_at, meaning_if, meaning_of, seqid_in}
use Rattle.luks_store.specs.Copying.Meanings.{size_in}
use Rattle.luks_store.proofs.CopyLemmas.{Spelt, whole-from}
use Rattle.luks_store.specs.Found.{copy_at, copy_from, IsWholeAt}
use Rattle.luks_store.specs.Used.{beside, differ, kept, newer_of, Refusal}
use Rattle.luks_store.specs.declared.copies.Copies.{Copies}
use Rattle.luks_store.specs.declared.copies.CopyState.TheVariants.{Good, Older}
use Rattle.luks_store.specs.declared.copies.HeaderCopy.{HeaderCopy}

-- ---- what is found where a copy stands, and where none does
found-by : (bytes : List ℕ) (copy : HeaderCopy) (r : Result BinHeader BinFault)
    → (r >>= λ header. Ok (record { header = header; bytes = take header.hdr_size bytes }))
    ≡ Ok copy
    → meaning_if bytes r ≡ Some (meaning_of copy.bytes)
found-by bytes copy (Ok h) is =
    let e : ◌≡◌ {A = HeaderCopy} (record { header = h; bytes = take h.hdr_size bytes }) copy = cc in
    ap (λ (c : HeaderCopy). Some (meaning_of c.bytes)) e
found-by bytes copy (Err fault) is = absurd cc

none-by : (bytes : List ℕ) (fault : BinFault) (r : Result BinHeader BinFault)
    → ◌>>=◌ {B = HeaderCopy} r
    (λ header. Ok (record { header = header; bytes = take header.hdr_size bytes })) ≡ Err fault
    → meaning_if bytes r ≡ None
none-by bytes fault (Ok h) is = absurd cc
none-by bytes fault (Err other) is = refl

pub copy-found : (place : ℕ) (bytes : List ℕ) (copy : HeaderCopy) → copy_from place bytes ≡ Ok copy
    → meaning_at place bytes ≡ Some (meaning_of copy.bytes)
unfolding copy_from meaning_at
copy-found place bytes copy is = found-by bytes copy (copy_of place bytes) is

pub none-found : (place : ℕ) (bytes : List ℕ) (fault : BinFault) → copy_from place bytes ≡ Err fault
    → meaning_at place bytes ≡ None
unfolding copy_from meaning_at
none-found place bytes fault is = none-by bytes fault (copy_of place bytes) is

fault-by : (bytes : List ℕ) (fault : BinFault) (r : Result BinHeader BinFault)
    → ◌>>=◌ {B = HeaderCopy} r
    (λ header. Ok (record { header = header; bytes = take header.hdr_size bytes })) ≡ Err fault
    → r ≡ Err fault
fault-by bytes fault (Ok h) is = absurd cc
fault-by bytes fault (Err other) is = let e : other ≡ fault = cc in ap (λ f. Err f) e

pub fault-of : (place : ℕ) (bytes : List ℕ) (fault : BinFault) → copy_from place bytes ≡ Err fault
    → copy_of place bytes ≡ Err fault
unfolding copy_from
fault-of place bytes fault is = fault-by bytes fault (copy_of place bytes) is

whole-by : Spelt → (place : ℕ) (bytes : List ℕ) (copy : HeaderCopy) (r : Result BinHeader BinFault)
    → copy_of place bytes ≡ r
    → (r >>= λ header. Ok (record { header = header; bytes = take header.hdr_size bytes }))
    ≡ Ok copy → IsWholeAt place copy
whole-by spelt place bytes copy (Ok h) of is =
    let e : ◌≡◌ {A = HeaderCopy} (record { header = h; bytes = take h.hdr_size bytes }) copy = cc in
    subst (IsWholeAt place) e (whole-from spelt place bytes h of)
whole-by spelt place bytes copy (Err fault) of is = absurd cc

pub copy-whole : Spelt → (place : ℕ) (bytes : List ℕ) (copy : HeaderCopy)
    → copy_from place bytes ≡ Ok copy → IsWholeAt place copy
unfolding copy_from
copy-whole spelt place bytes copy is = whole-by spelt place bytes copy (copy_of place bytes) refl is

-- it is the bytes from there on, as many as it has
cut-by : (bytes : List ℕ) (copy : HeaderCopy) (r : Result BinHeader BinFault)
    → (r >>= λ header. Ok (record { header = header; bytes = take header.hdr_size bytes }))
    ≡ Ok copy
    → take copy.header.hdr_size bytes ≡ copy.bytes
cut-by bytes copy (Ok h) is =
    let e : ◌≡◌ {A = HeaderCopy} (record { header = h; bytes = take h.hdr_size bytes }) copy = cc in
    subst (λ (c : HeaderCopy). take c.header.hdr_size bytes ≡ c.bytes) e refl
cut-by bytes copy (Err fault) is = absurd cc

pub copy-cut : (place : ℕ) (bytes : List ℕ) (copy : HeaderCopy) → copy_from place bytes ≡ Ok copy
    → take copy.header.hdr_size bytes ≡ copy.bytes
unfolding copy_from
copy-cut place bytes copy is = cut-by bytes copy (copy_of place bytes) is

-- ---- the numbers in a meaning
long : (place : ℕ) (copy : HeaderCopy) → IsWholeAt place copy → 104 ≤ length copy.bytes
long place copy is = let least = size-least copy.header.hdr_size is.whole.one_of_nine in let whole =
    is.whole.whole in omega (arith, least, whole)

pub sized-by : (place : ℕ) (copy : HeaderCopy) → IsWholeAt place copy
    → size_in (meaning_of copy.bytes) ≡ copy.header.hdr_size
sized-by place copy is = size_is copy.bytes (long place copy is) ∙ is.whole.hdr_size

pub numbered-by : (place : ℕ) (copy : HeaderCopy) → IsWholeAt place copy
    → seqid_in (meaning_of copy.bytes) ≡ copy.header.seqid
numbered-by place copy is = seqid_is copy.bytes (long place copy is) ∙ is.whole.seqid

-- ---- of two copies
pub data Newer (first second : HeaderCopy) : Type 0 where
  is_first : second.header.seqid < first.header.seqid
      → newer_of first second
      ≡ Ok (record { used = first; primary = kept Good first; secondary = kept Older second })
      → Newer first second
  is_second : first.header.seqid < second.header.seqid
      → newer_of first second
      ≡ Ok (record { used = second; primary = kept Older first; secondary = kept Good second })
      → Newer first second
  are_same : first.header.seqid ≡ second.header.seqid
      → meaning_of first.bytes ≡ meaning_of second.bytes
      → newer_of first second
      ≡ Ok (record { used = first; primary = kept Good first; secondary = kept Good second })
      → Newer first second
  are_other : first.header.seqid ≡ second.header.seqid
      → (meaning_of first.bytes ≡ meaning_of second.bytes → ⊥)
      → newer_of first second ≡ Err (differ first.header.seqid first.bytes second.bytes)
      → Newer first second

equal-numbers : (m n : ℕ) → nat_lt n m ≡ false → nat_lt m n ≡ false → m ≡ n
equal-numbers m n a b = let one = ltb-false n m a in let two =
    ltb-false m n b in omega (arith, one, two)

newer-by : (first second : HeaderCopy) (a b c : Bool)
    → nat_lt second.header.seqid first.header.seqid ≡ a
    → nat_lt first.header.seqid second.header.seqid ≡ b
    → bytes_eq (meaning_of first.bytes) (meaning_of second.bytes) ≡ c → Newer first second
unfolding newer_of
newer-by first second true b c e f g = is_first (ltb-true _ _ e) (rw e refl)
newer-by first second false true c e f g = is_second (ltb-true _ _ f) (rw (e, f) refl)
newer-by first second false false true e f g =
    are_same (equal-numbers _ _ e f)
    ((bytes_eq-Decides (meaning_of first.bytes) (meaning_of second.bytes)).0 g) (rw (e, f, g) refl)
newer-by first second false false false e f g =
    are_other (equal-numbers _ _ e f)
    (λ same.
    (let yes = (bytes_eq-Decides (meaning_of first.bytes) (meaning_of second.bytes)).1 same in cc))
    (rw (e, f, g) refl)

pub newer : (first second : HeaderCopy) → Newer first second
newer first second = newer-by first second _ _ _ refl refl refl

-- what is found at both places
pub record Both (bytes : List ℕ) (first second : HeaderCopy) : Type 0 where
  pub one : IsWholeAt 0 first
  pub two : IsWholeAt first.header.hdr_size second
  pub at_front : found header_reader bytes 0 ≡ Some (meaning_of first.bytes)
  pub at_size : found header_reader bytes (size_in (meaning_of first.bytes))
      ≡ Some (meaning_of second.bytes)

pub both : Spelt → (bytes : List ℕ) (first second : HeaderCopy) → copy_at 0 bytes ≡ Ok first
    → copy_at first.header.hdr_size bytes ≡ Ok second
    → Both bytes first second
both spelt bytes first second one two =
    let whole = copy-whole spelt 0 (drop 0 bytes) first one in
    record {
      one = whole;
      two = copy-whole spelt first.header.hdr_size (drop first.header.hdr_size bytes) second two;
      at_front = copy-found 0 (drop 0 bytes) first one;
      at_size = ap (λ n. found header_reader bytes n) (sized-by 0 first whole)
          ∙ copy-found first.header.hdr_size (drop first.header.hdr_size bytes) second two;
    }

pub inside : (a b : List ℕ) → ◌≡◌ {A = Option (List ℕ)} (Some a) (Some b) → a ≡ b
inside a b is = cc

pub ok-is : (a b : Copies) → ◌≡◌ {A = Result Copies Refusal} (Ok a) (Ok b) → a ≡ b
ok-is a b is = cc

-- the number that another copy's meaning has
number-is : (place : ℕ) (copy : HeaderCopy) (other : List ℕ) → IsWholeAt place copy
    → meaning_of copy.bytes ≡ other → seqid_in other ≡ copy.header.seqid
number-is place copy other whole is = ap seqid_in (sym is) ∙ numbered-by place copy whole

given-newer : (bytes : List ℕ) (first second : HeaderCopy) (copies : Copies)
    → Both bytes first second → Newer first second
    → newer_of first second ≡ Ok copies → Gives header_reader bytes (meaning_of copies.used.bytes)
given-newer bytes first second copies at (is_first less is) used =
    subst (λ (c : Copies). Gives header_reader bytes (meaning_of c.used.bytes))
    (ok-is _ _ (sym is ∙ used))
    (inl (
      at.at_front,
      λ other is_other. inr (let same = inside _ _ (sym at.at_size ∙ is_other) in
          let a = number-is first.header.hdr_size second other at.two same in let b =
          numbered-by 0 first at.one in omega (arith, less, a, b)),
    ))
given-newer bytes first second copies at (is_second less is) used =
    subst (λ (c : Copies). Gives header_reader bytes (meaning_of c.used.bytes))
    (ok-is _ _ (sym is ∙ used))
    (inr (inl (
      meaning_of first.bytes,
      at.at_front,
      at.at_size,
      (let a = numbered-by 0 first at.one in let b =
          numbered-by first.header.hdr_size second at.two in omega (arith, less, a, b)),
    )))
given-newer bytes first second copies at (are_same equal same is) used =
    subst (λ (c : Copies). Gives header_reader bytes (meaning_of c.used.bytes))
    (ok-is _ _ (sym is ∙ used))
    (inl (
      at.at_front,
      λ other is_other. inl (sym (inside _ _ (sym at.at_size ∙ is_other)) ∙ sym same),
    ))
given-newer bytes first second copies at (are_other equal other is) used = absurd cc

-- a primary, and what stands at its size
pub given-beside : Spelt → (bytes : List ℕ) (first : HeaderCopy) (copies : Copies)
    → copy_at 0 bytes ≡ Ok first
    → (r : Result HeaderCopy BinFault) → copy_at first.header.hdr_size bytes ≡ r
    → beside first r ≡ Ok copies
    → Gives header_reader bytes (meaning_of copies.used.bytes)
given-beside spelt bytes first copies one (Ok second) two used =
    given-newer bytes first second copies (both spelt bytes first second one two)
    (newer first second) used
given-beside spelt bytes first copies one (Err fault) two used =
    let whole = copy-whole spelt 0 (drop 0 bytes) first one in
    subst (λ (c : Copies). Gives header_reader bytes (meaning_of c.used.bytes)) (ok-is _ _ used)
    (inl (
      copy-found 0 (drop 0 bytes) first one,
      λ other is_other. absurd (
          let none =
          none-found first.header.hdr_size (drop first.header.hdr_size bytes) fault two in
          let some : found header_reader bytes first.header.hdr_size ≡ Some other =
          ap (λ n. found header_reader bytes n) (sym (sized-by 0 first whole)) ∙ is_other in
          cc),
    ))
