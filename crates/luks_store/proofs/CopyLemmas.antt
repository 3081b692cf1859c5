-- Lemmas on copies as they are read from the bytes of a disk.
use Rattle.std.proofs.Common.{◌≡◌, ◌↔◌, inl, inr, ℕ, ◌+◌, ◌-◌, ◌<◌, ◌≤◌, nat_le, List, [], ◌∷◌}
use Rattle.std.proofs.Common.{length, take, drop, Some, None, false, Result, Ok, Err, refl, sym}
use Rattle.std.proofs.Common.{◌∙◌, ap, arith, length-drop}
use Rattle.std.proofs.lemmas.Bool.{lt-leb}
use Rattle.std.proofs.lemmas.List.{take-take, drop-take, length-take-le}
use Rattle.luks_bin.proofs.FieldLemmas.{size-least}
use Rattle.luks_bin.proofs.ReadLemmas.{sized}
use Rattle.luks_bin.specs.Copies.{copy_of, size_of, BeginsWithCopy, IsCopy, ◌>>=◌}
use Rattle.luks_bin.specs.declared.header.BinFault.{BinFault}
use Rattle.luks_bin.specs.declared.header.BinFault.TheVariants.{Size}
use Rattle.luks_bin.specs.declared.header.BinHeader.{BinHeader}
use Rattle.luks_store.specs.Found.{copy_at, copy_from, or_later, first_at, IsWholeAt, IsWholeBehind}
use Rattle.luks_store.specs.declared.copies.HeaderCopy.{HeaderCopy}

-- the laws of copies
abbrev pub Spelt : Type 0
Spelt = (place : ℕ) (bytes : List ℕ) (h : BinHeader)
    → (copy_of place bytes ≡ Ok h) ↔ BeginsWithCopy place bytes h

abbrev pub Heads : Type 0
Heads = (place there : ℕ) (bytes : List ℕ)
    → size_of place there (take 4096 bytes) ≡ size_of place there bytes

abbrev pub Fronts : Type 0
Fronts =
    (place size : ℕ) (bytes : List ℕ) → size_of place (length bytes) bytes ≡ Ok size
    → copy_of place (take size bytes) ≡ copy_of place bytes

-- ---- parts of the front of a disk
pub front-there : (h place : ℕ) (all : List ℕ) → h ≤ length all
    → length (drop place (take h all)) ≡ h - place
front-there h place all within =
    length-drop place (take h all) ∙ ap (λ n. n - place) (length-take-le h all within)

pub front-part : (h place n : ℕ) (all : List ℕ) → place + n ≤ h
    → take n (drop place (take h all)) ≡ take n (drop place all)
front-part h place n all within =
    let whole : h ≡ place + (h - place) = omega (arith, within) in
    ap (λ m. take n (drop place (take m all))) whole
    ∙ ap (take n) (drop-take place (h - place) all)
    ∙ take-take n (h - place) (drop place all) (omega (arith, within))

-- ---- what a head tells
short : (place : ℕ) (bytes : List ℕ) → length bytes < 4096
    → copy_from place bytes ≡ Err (Size (length bytes))
unfolding copy_from copy_of size_of
short place bytes few = let no : nat_le 4096 (length bytes) ≡ false =
    lt-leb 4096 (length bytes) few in rw no refl

pub too-short : (h place there : ℕ) (all : List ℕ) → h ≤ length all → there ≡ h - place
    → there < 4096
    → Err (Size there) ≡ copy_at place (take h all)
too-short h place there all within is few =
    let long : length (drop place (take h all)) ≡ there = front-there h place all within ∙ sym is in
    ap (λ n. Err (Size n)) (sym long)
    ∙ sym (short place (drop place (take h all)) (omega (arith, long, few)))

head-size : Heads → (h place there : ℕ) (all head : List ℕ) → h ≤ length all → there ≡ h - place
    → 4096 ≤ there
    → head ≡ take 4096 (drop place all)
    → size_of place there head
    ≡ size_of place (length (drop place (take h all))) (drop place (take h all))
head-size heads h place there all head within is enough reads =
    ap (size_of place there) (reads ∙ sym (front-part h place 4096 all (omega (arith, is, enough))))
    ∙ heads place there (drop place (take h all))
    ∙ ap (λ n. size_of place n (drop place (take h all)))
    (is ∙ sym (front-there h place all within))

unsized : (place : ℕ) (bytes : List ℕ) (fault : BinFault)
    → size_of place (length bytes) bytes ≡ Err fault → copy_from place bytes ≡ Err fault
unfolding copy_from copy_of
unsized place bytes fault is = rw is refl

pub no-size : Heads → (h place there : ℕ) (all head : List ℕ) (fault : BinFault) → h ≤ length all
    → there ≡ h - place → 4096 ≤ there
    → head ≡ take 4096 (drop place all) → Err fault ≡ size_of place there head
    → Err fault ≡ copy_at place (take h all)
no-size heads h place there all head fault within is enough reads told =
    sym (unsized place (drop place (take h all)) fault
    (sym (head-size heads h place there all head within is enough reads) ∙ sym told))

-- ---- the copy that is read
cut : (size : ℕ) (bytes : List ℕ) (r : Result BinHeader BinFault)
    → ((h : BinHeader) → r ≡ Ok h → h.hdr_size ≤ size)
    → (r >>=
    λ header. Ok (record { header = header; bytes = take header.hdr_size (take size bytes) }))
    ≡ ◌>>=◌ {B = HeaderCopy} r
    (λ header. Ok (record { header = header; bytes = take header.hdr_size bytes }))
cut size bytes (Ok h) fits =
    ap (λ copy. Ok (record { header = h; bytes = copy }))
    (take-take h.hdr_size size bytes (fits h refl))
cut size bytes (Err fault) fits = refl

pub cut-copy : Spelt → Fronts → (place size : ℕ) (bytes : List ℕ)
    → size_of place (length bytes) bytes ≡ Ok size
    → copy_from place (take size bytes) ≡ copy_from place bytes
unfolding copy_from
cut-copy spelt fronts place size bytes is =
    let same = fronts place size bytes is in
    let long : length (take size bytes) ≡ size =
    length-take-le size bytes (sized _ _ _ _ is).room in
    ap (λ r. ◌>>=◌ {B = HeaderCopy} r
    (λ header. Ok (record { header = header; bytes = take header.hdr_size (take size bytes) })))
    same
    ∙ cut size bytes (copy_of place bytes)
    (λ h ok.
    (let there =
    ((spelt place (take size bytes) h).0 (same ∙ ok)).there in omega (arith, there, long)))

pub read-copy : Spelt → Heads → Fronts → (h place there size : ℕ) (all head bytes : List ℕ)
    → h ≤ length all → there ≡ h - place → 4096 ≤ there
    → head ≡ take 4096 (drop place all) → Ok size ≡ size_of place there head
    → bytes ≡ take size (drop place all)
    → copy_from place bytes ≡ copy_at place (take h all)
read-copy spelt heads fronts h place there size all head bytes within is enough reads told
    of_bytes =
    let room = (sized _ _ _ _ (sym told)).room in
    ap (copy_from place)
    (of_bytes ∙ sym (front-part h place size all (omega (arith, is, room, enough))))
    ∙ cut-copy spelt fronts place size (drop place (take h all))
    (sym (head-size heads h place there all head within is enough reads) ∙ sym told)

-- ---- a copy is longer than its binary header
pub long_enough : (bytes : List ℕ) (h : BinHeader) → IsCopy bytes h → 4096 ≤ length bytes
long_enough bytes h is = let least = size-least h.hdr_size is.one_of_nine in let whole =
    is.whole in omega (arith, least, whole)

-- ---- a copy that was found
pub whole-from : Spelt → (place : ℕ) (bytes : List ℕ) (h : BinHeader) → copy_of place bytes ≡ Ok h
    → IsWholeAt place (record { header = h; bytes = take h.hdr_size bytes })
whole-from spelt place bytes h is = let begins =
    (spelt place bytes h).0 is in record { whole = begins.copy; here = begins.here }

pub whole-behind : (place : ℕ) (copy : HeaderCopy) → 0 < place → IsWholeAt place copy
    → IsWholeBehind copy
whole-behind place copy some is = elim is.whole.place [
  | inl none ↦
      absurd (let here = is.here in let no : 0 < 0 =
      omega (arith, here, none, some) in omega (arith, no))
  | inr size ↦ record { whole = is.whole; here = size }
]

-- ---- the first of several places
pub found-here : (places : List ℕ) (place : ℕ) (disk : List ℕ) (copy : HeaderCopy)
    → Ok copy ≡ copy_at place disk
    → first_at (place ∷ places) disk ≡ Some copy
unfolding first_at
found-here places place disk copy is = ap (λ r. or_later r (first_at places disk)) (sym is)

pub found-later : (places : List ℕ) (place : ℕ) (disk : List ℕ) (fault : BinFault)
    → Err fault ≡ copy_at place disk
    → first_at (place ∷ places) disk ≡ first_at places disk
unfolding first_at
found-later places place disk fault is = ap (λ r. or_later r (first_at places disk)) (sym is)

pub found-none : (disk : List ℕ) → first_at [] disk ≡ None
unfolding first_at
found-none disk = refl
