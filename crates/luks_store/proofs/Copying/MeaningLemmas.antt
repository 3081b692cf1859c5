-- Lemmas on what copies mean.
use Rattle.std.proofs.Common.{◌≡◌, ◌↔◌, ℕ, ◌+◌, ◌-◌, ◌<◌, ◌≤◌, ◌⊎◌, inl, inr, List, ◌++◌, length}
use Rattle.std.proofs.Common.{take, drop, min, Some, true, Result, Ok, Err, refl, sym, ◌∙◌, ap, ap₂}
use Rattle.std.proofs.Common.{subst, arith, length-drop, length-take, length-append}
use Rattle.std.specs.Prelude.{slice_index}
use Rattle.std.proofs.lemmas.List.{ext_get_or, get_or-take, get_or-drop, take-append-le}
use Rattle.std.proofs.lemmas.List.{drop-append-le, take-take, drop-take, drop-drop, take_at}
use Rattle.std.proofs.lemmas.List.{drop_at, length-take-le, take_all}
use Rattle.std.specs.Int.{w64, from_be_bytes}
use Rattle.crash_laws.specs.HeaderAreas.Headers.{Copy, primary, secondary, byte_of, IsHeader, IsReader}
use Rattle.crash_laws.specs.HeaderAreas.Headers.{text_of as text_of_copy}
use Rattle.luks_bin.specs.Copies.{copy_of, BeginsWithCopy, IsCopy}
use Rattle.luks_bin.specs.Fields.{field, u64_in, is_size}
use Rattle.luks_bin.proofs.FieldLemmas.{size-least}
use Rattle.luks_bin.specs.Shares.{Agree}
use Rattle.luks_bin.specs.declared.header.BinFault.{BinFault}
use Rattle.luks_bin.specs.declared.header.BinHeader.{BinHeader}
use Rattle.luks_store.specs.Copying.Promises.{MeansHeader}
use Rattle.luks_store.specs.Copying.Meanings.{meaning_of, meaning_if, meaning_at, size_in, seqid_in}
use Rattle.luks_store.specs.Copying.Meanings.{header_of, header_reader}

-- a field of the first part of a meaning
field_in_meaning : (at : ℕ) (copy : List ℕ) → at + 8 ≤ 98 → 104 ≤ length copy
    → field at 8 (meaning_of copy) ≡ field (6 + at) 8 copy
unfolding field meaning_of
field_in_meaning at copy inside long =
    let part = take 98 (drop 6 copy) in
    let whole : length part ≡ 98 =
    length-take-le 98 (drop 6 copy) (omega (arith, length-drop 6 copy, long)) in
    ap (take 8) (drop-append-le at part _ (omega (arith, whole, inside)))
    ∙ take-append-le 8 (drop at part) _ (omega (arith, length-drop at part, whole, inside))
    ∙ ap (λ n. take 8 (drop at (take n (drop 6 copy))))
    (let e : 98 ≡ at + (98 - at) = omega (arith, inside) in e)
    ∙ ap (take 8) (drop-take at (98 - at) (drop 6 copy))
    ∙ take-take 8 (98 - at) (drop at (drop 6 copy)) (omega (arith, inside))
    ∙ ap (take 8) (drop-drop at 6 copy)

pub size_is : (copy : List ℕ) → 104 ≤ length copy → size_in (meaning_of copy) ≡ u64_in 8 copy
unfolding size_in u64_in
size_is copy long = ap (from_be_bytes w64) (field_in_meaning 2 copy (omega arith) long)

pub seqid_is : (copy : List ℕ) → 104 ≤ length copy → seqid_in (meaning_of copy) ≡ u64_in 16 copy
unfolding seqid_in u64_in
seqid_is copy long = ap (from_be_bytes w64) (field_in_meaning 10 copy (omega arith) long)

-- ---- copies that are read
abbrev pub Spelt : Type 0
Spelt = (place : ℕ) (bytes : List ℕ) (h : BinHeader)
    → (copy_of place bytes ≡ Ok h) ↔ BeginsWithCopy place bytes h

-- the copy that a meaning was read from
pub record IsReadFrom (place : ℕ) (bytes meaning : List ℕ) (h : BinHeader) : Type 0 where
  pub begins : BeginsWithCopy place bytes h
  pub means : meaning ≡ meaning_of (take h.hdr_size bytes)
  pub size : size_in meaning ≡ h.hdr_size

-- a copy has bytes enough
pub least_size : (n : ℕ) → is_size n ≡ true → 16384 ≤ n
least_size n is = size-least n is

some_long : (n : ℕ) → is_size n ≡ true → 104 ≤ n
some_long n is = let least = size-least n is in omega (arith, least)

read_from : (place : ℕ) (bytes meaning : List ℕ) (h : BinHeader) → BeginsWithCopy place bytes h
    → meaning ≡ meaning_of (take h.hdr_size bytes) → IsReadFrom place bytes meaning h
read_from place bytes meaning h begins means =
    let whole = begins.copy.whole in
    let some = some_long h.hdr_size begins.copy.one_of_nine in
    record {
      begins = begins;
      means = means;
      size = ap size_in means ∙ size_is (take h.hdr_size bytes) (omega (arith, whole, some))
          ∙ begins.copy.hdr_size;
    }

pub read_of : Spelt → (place : ℕ) (bytes meaning : List ℕ) → (r : Result BinHeader BinFault)
    → copy_of place bytes ≡ r
    → meaning_if bytes r ≡ Some meaning → (h : BinHeader) × IsReadFrom place bytes meaning h
read_of spelt place bytes meaning (Ok h) is means = (
  h,
  read_from place bytes meaning h ((spelt place bytes h).0 is)
      (let e : meaning ≡ meaning_of (take h.hdr_size bytes) = cc in e),
)
read_of spelt place bytes meaning (Err fault) is means = absurd (cc)

pub read_at : Spelt → (place : ℕ) (bytes meaning : List ℕ) → meaning_at place bytes ≡ Some meaning
    → (h : BinHeader) × IsReadFrom place bytes meaning h
unfolding meaning_at
read_at spelt place bytes meaning is =
    read_of spelt place bytes meaning (copy_of place bytes) refl is

-- bytes that begin with a copy mean it
means_at : Spelt → (place : ℕ) (bytes : List ℕ) (h : BinHeader) → BeginsWithCopy place bytes h
    → meaning_at place bytes ≡ Some (meaning_of (take h.hdr_size bytes))
unfolding meaning_at
means_at spelt place bytes h begins = ap (meaning_if bytes) ((spelt place bytes h).1 begins)

-- other bytes that begin with the same
begins_too : (place : ℕ) (bytes other : List ℕ) (h : BinHeader) → BeginsWithCopy place bytes h
    → h.hdr_size ≤ length other
    → take h.hdr_size other ≡ take h.hdr_size bytes → BeginsWithCopy place other h
begins_too place bytes other h begins there same = record {
  there = there;
  here = begins.here;
  copy = subst (λ copy. IsCopy copy h) (sym same) begins.copy;
}

own_copy : Spelt → (place : ℕ) (bytes m : List ℕ) (h : BinHeader) → IsReadFrom place bytes m h
    → meaning_at place (take (size_in m) bytes) ≡ Some m
own_copy spelt place bytes m h is =
    let twice : take h.hdr_size (take h.hdr_size bytes) ≡ take h.hdr_size bytes =
    take_all h.hdr_size (take h.hdr_size bytes)
    (let whole = is.begins.copy.whole in omega (arith, whole)) in
    ap (λ n. meaning_at place (take n bytes)) is.size
    ∙ means_at spelt place (take h.hdr_size bytes) h
    (begins_too place bytes (take h.hdr_size bytes) h is.begins
    (let whole = is.begins.copy.whole in omega (arith, whole)) twice)
    ∙ ap (λ copy. Some (meaning_of copy)) twice ∙ ap (λ x. Some x) (sym is.means)

behind_copy : Spelt → (place : ℕ) (bytes rest m : List ℕ) (h : BinHeader)
    → IsReadFrom place bytes m h
    → meaning_at place (bytes ++ rest) ≡ Some m
behind_copy spelt place bytes rest m h is =
    let there = is.begins.there in
    let same : take h.hdr_size (bytes ++ rest) ≡ take h.hdr_size bytes =
    take-append-le h.hdr_size bytes rest there in
    means_at spelt place (bytes ++ rest) h (begins_too place bytes (bytes ++ rest) h is.begins
    (let long = length-append bytes rest in omega (arith, there, long)) same)
    ∙ ap (λ copy. Some (meaning_of copy)) same ∙ ap (λ x. Some x) (sym is.means)

stands : (place : ℕ) (bytes m : List ℕ) (h : BinHeader) → IsReadFrom place bytes m h
    → (place ≡ 0) ⊎ (place ≡ size_in m)
stands place bytes m h is = elim is.begins.copy.place [
  | inl none ↦ inl (sym is.begins.here ∙ none)
  | inr size ↦ inr (sym is.begins.here ∙ size ∙ sym is.size)
]

pub reads_copies : Spelt → IsReader header_reader
reads_copies spelt = record {
  fits = λ place bytes m is. (let (h, from) = read_at spelt place bytes m is in
      let there = from.begins.there in let size = from.size in omega (arith, there, size));
  own = λ place bytes m is.
      (let (h, from) = read_at spelt place bytes m is in own_copy spelt place bytes m h from);
  behind =
      λ place bytes rest m is.
      (let (h, from) =
      read_at spelt place bytes m is in behind_copy spelt place bytes rest m h from);
  here = λ place bytes m is.
      (let (h, from) = read_at spelt place bytes m is in stands place bytes m h from);
}

-- ---- copies that share what copies share
field_same : (at len : ℕ) (a b : List ℕ) → length a ≡ length b
    → ((k : ℕ) → at ≤ k → k < at + len → slice_index a k ≡ slice_index b k)
    → field at len a ≡ field at len b
unfolding field
field_same at len a b long same = ext_get_or 0 (take len (drop at a)) (take len (drop at b))
    (length-take len (drop at a)
    ∙ ap (min len) (length-drop at a ∙ ap (λ n. n - at) long ∙ sym (length-drop at b))
    ∙ sym (length-take len (drop at b)))
    (λ i below. (let short : i < len = omega (arith, below, length-take len (drop at a)) in
    get_or-take len (drop at a) i 0 short ∙ get_or-drop at a i 0
    ∙ same (at + i) (omega arith) (omega (arith, short))
    ∙ sym (get_or-drop at b i 0) ∙ sym (get_or-take len (drop at b) i 0 short)))

rest_same : (at : ℕ) (a b : List ℕ) → length a ≡ length b
    → ((k : ℕ) → at ≤ k → slice_index a k ≡ slice_index b k)
    → drop at a ≡ drop at b
rest_same at a b long same = ext_get_or 0 (drop at a) (drop at b)
    (length-drop at a ∙ ap (λ n. n - at) long ∙ sym (length-drop at b))
    (λ i below. get_or-drop at a i 0 ∙ same (at + i) (omega arith) ∙ sym (get_or-drop at b i 0))

pub agreeing_means : (a b : List ℕ) → length a ≡ length b → Agree a b → meaning_of a ≡ meaning_of b
unfolding meaning_of Agree
agreeing_means a b long agree =
    ap₂ (λ one rest. one ++ rest)
    (field_same 6 98 a b long (λ k from below. agree k (inl (from, omega (arith, below)))))
    (ap₂ (λ one rest. one ++ rest)
    (field_same 168 88 a b long (λ k from below. agree k (inr (inl (from, omega (arith, below))))))
    (ap₂ (λ one rest. one ++ rest)
    (field_same 264 184 a b long
    (λ k from below. agree k (inr (inr (inl (from, omega (arith, below)))))))
    (rest_same 512 a b long (λ k from. agree k (inr (inr (inr from)))))))

-- bytes in front of others of as many are the same
front_same : (n : ℕ) (xs ys zs ws : List ℕ) → length xs ≡ n → length zs ≡ n → xs ++ ys ≡ zs ++ ws
    → (xs ≡ zs) × (ys ≡ ws)
front_same n xs ys zs ws long_x long_z same = (
  sym (take_at xs ys n long_x) ∙ ap (take n) same ∙ take_at zs ws n long_z,
  sym (drop_at xs ys n long_x) ∙ ap (drop n) same ∙ drop_at zs ws n long_z,
)

field_long : (at len : ℕ) (a : List ℕ) → at + len ≤ length a → length (field at len a) ≡ len
unfolding field
field_long at len a there = length-take-le len (drop at a) (omega (arith, length-drop at a, there))

-- a byte of a field, and of the rest
in_field : (at len k : ℕ) (a b : List ℕ) → field at len a ≡ field at len b → at ≤ k → k < at + len
    → slice_index a k ≡ slice_index b k
unfolding field
in_field at len k a b same from below =
    let place : at + (k - at) ≡ k = omega (arith, from) in
    let short : k - at < len = omega (arith, from, below) in
    ap (slice_index a) (sym place) ∙ sym (get_or-drop at a (k - at) 0)
    ∙ sym (get_or-take len (drop at a) (k - at) 0 short)
    ∙ ap (λ xs. slice_index xs (k - at)) same
    ∙ get_or-take len (drop at b) (k - at) 0 short ∙ get_or-drop at b (k - at) 0
    ∙ ap (slice_index b) place

in_rest : (at k : ℕ) (a b : List ℕ) → drop at a ≡ drop at b → at ≤ k
    → slice_index a k ≡ slice_index b k
in_rest at k a b same from =
    let place : at + (k - at) ≡ k = omega (arith, from) in
    ap (slice_index a) (sym place) ∙ sym (get_or-drop at a (k - at) 0)
    ∙ ap (λ xs. slice_index xs (k - at)) same
    ∙ get_or-drop at b (k - at) 0 ∙ ap (slice_index b) place

pub meaning_agrees : (a b : List ℕ) → 512 ≤ length a → length a ≡ length b
    → meaning_of a ≡ meaning_of b → Agree a b
unfolding meaning_of Agree
meaning_agrees a b some long same =
    let (one, more) =
    front_same 98 (field 6 98 a) _ (field 6 98 b) _ (field_long 6 98 a (omega (arith, some)))
    (field_long 6 98 b (omega (arith, some, long))) same in
    let (two, rest) =
    front_same 88 (field 168 88 a) _ (field 168 88 b) _ (field_long 168 88 a (omega (arith, some)))
    (field_long 168 88 b (omega (arith, some, long))) more in
    let (three, last) =
    front_same 184 (field 264 184 a) _ (field 264 184 b) _
    (field_long 264 184 a (omega (arith, some)))
    (field_long 264 184 b (omega (arith, some, long))) rest in
    λ k shared. elim shared [
      | inl (from, below) ↦ in_field 6 98 k a b one from (omega (arith, below))
      | inr (inl (from, below)) ↦ in_field 168 88 k a b two from (omega (arith, below))
      | inr (inr (inl (from, below))) ↦ in_field 264 184 k a b three from (omega (arith, below))
      | inr (inr (inr from)) ↦ in_rest 512 k a b last from
    ]

-- ---- copies that were written
whole_means : Spelt → (place : ℕ) (copy : List ℕ) (h : BinHeader) → copy_of place copy ≡ Ok h
    → length copy ≡ h.hdr_size
    → meaning_at place copy ≡ Some (meaning_of copy)
whole_means spelt place copy h is long =
    means_at spelt place copy h ((spelt place copy h).0 is)
    ∙ ap (λ one. Some (meaning_of one)) (take_all h.hdr_size copy (omega (arith, long)))

pub written_number : Spelt → (place : ℕ) (copy : List ℕ) (h : BinHeader) → copy_of place copy ≡ Ok h
    → length copy ≡ h.hdr_size
    → (seqid_in (meaning_of copy) ≡ h.seqid) × (size_in (meaning_of copy) ≡ h.hdr_size)
written_number spelt place copy h is long =
    let begins = (spelt place copy h).0 is in
    let whole : take h.hdr_size copy ≡ copy = take_all h.hdr_size copy (omega (arith, long)) in
    let of_copy = subst (λ one. IsCopy one h) whole begins.copy in
    let some : 104 ≤ length copy =
    (let least = some_long h.hdr_size begins.copy.one_of_nine in omega (arith, long, least)) in
    (seqid_is copy some ∙ of_copy.seqid, size_is copy some ∙ of_copy.hdr_size)

pub written_header : Spelt → (size : ℕ) (a b : List ℕ) (one two : BinHeader) → one.hdr_size ≡ size
    → two.hdr_size ≡ size
    → copy_of 0 a ≡ Ok one → copy_of size b ≡ Ok two → length a ≡ size → length b ≡ size → Agree a b
    → IsHeader header_reader (header_of a b)
written_header spelt size a b one two of_one of_two is_a is_b long_a long_b agree =
    let sized : size_in (meaning_of a) ≡ size =
    (written_number spelt 0 a one is_a (long_a ∙ sym of_one)).1 ∙ of_one in
    record {
      valid = valid sized;
      size = long sized;
    }
  where
    valid : size_in (meaning_of a) ≡ size → (copy : Copy)
        → meaning_at (byte_of (size_in (meaning_of a)) copy) (text_of_copy (header_of a b) copy)
        ≡ Some (meaning_of a)
    valid sized primary = whole_means spelt 0 a one is_a (long_a ∙ sym of_one)
    valid sized secondary =
        ap (λ place. meaning_at place b) sized
        ∙ whole_means spelt size b two is_b (long_b ∙ sym of_two)
        ∙ ap (λ x. Some x) (sym (agreeing_means a b (long_a ∙ sym long_b) agree))

    long : size_in (meaning_of a) ≡ size → (copy : Copy)
        → length (text_of_copy (header_of a b) copy) ≡ size_in (meaning_of a)
    long sized primary = long_a ∙ sym sized
    long sized secondary = long_b ∙ sym sized

-- both were written as the same bytes
pub both_agree : (a b text : List ℕ) → Agree a text → Agree b text → Agree a b
unfolding Agree
both_agree a b text of_a of_b = λ k shared. of_a k shared ∙ sym (of_b k shared)

-- a whole copy means the header that is read from it
pub means_header : Spelt → (place : ℕ) (copy : List ℕ) (h : BinHeader) → copy_of place copy ≡ Ok h
    → length copy ≡ h.hdr_size
    → MeansHeader place copy h
means_header spelt place copy h is long =
    let told = written_number spelt place copy h is long in
    record { means = whole_means spelt place copy h is long; number = told.0; size = told.1 }

-- ---- a copy that was moved
-- a valid copy gives a valid one at either place
abbrev Moves : List ℕ → List ℕ → List ℕ → ℕ → Type 0
Moves copy used salt place =
    (from : ℕ) (h : BinHeader) → copy_of from used ≡ Ok h → length used ≡ h.hdr_size
    → (place ≡ 0) ⊎ (place ≡ h.hdr_size)
    → copy_of place copy ≡ Ok (record h { hdr_offset = place; salt = salt })

pub repaired_first : Spelt → (copy used salt : List ℕ) (place : ℕ) → length copy ≡ length used
    → Agree copy used
    → Moves copy used salt place → (h : BinHeader) → copy_of h.hdr_size used ≡ Ok h
    → length used ≡ h.hdr_size → place ≡ 0
    → IsHeader header_reader (header_of copy used)
repaired_first spelt copy used salt place long agree moves h is size at =
    written_header spelt h.hdr_size copy used (record h { hdr_offset = place; salt = salt }) h refl
    refl
    (subst (λ p. copy_of p copy ≡ Ok (record h { hdr_offset = place; salt = salt })) at
    (moves h.hdr_size h is size (inl at)))
    is (long ∙ size) size agree

agree_back : (a b : List ℕ) → Agree a b → Agree b a
unfolding Agree
agree_back a b agree = λ k shared. sym (agree k shared)

pub repaired_second : Spelt → (copy used salt : List ℕ) (place : ℕ) → length copy ≡ length used
    → Agree copy used
    → Moves copy used salt place → (h : BinHeader) → copy_of 0 used ≡ Ok h
    → length used ≡ h.hdr_size → place ≡ h.hdr_size
    → IsHeader header_reader (header_of used copy)
repaired_second spelt copy used salt place long agree moves h is size at =
    written_header spelt h.hdr_size used copy h (record h { hdr_offset = place; salt = salt }) refl
    refl is
    (subst (λ p. copy_of p copy ≡ Ok (record h { hdr_offset = place; salt = salt })) at
    (moves 0 h is size (inr at)))
    size (long ∙ size) (agree_back copy used agree)
