-- Lemmas on headers that a disk's bytes have: they are used.
use Rattle.std.proofs.Common.{◌≡◌, inl, inr, ℕ, ◌<◌, ◌==◌, nat_lt, List, [], ◌∷◌, drop, Some, None}
use Rattle.std.proofs.Common.{true, Result, Ok, Err, refl, sym, ◌∙◌, ap, subst, arith}
use Rattle.std.specs.List.{list_all}
use Rattle.std.proofs.lemmas.Bool.{eqb-true, ltb-true, or_cases, and_parts}
use Rattle.crash_laws.specs.HeaderAreas.Headers.{found, HasNoneBelow, IsNotNewer}
use Rattle.luks_bin.specs.Fields.{is_size}
use Rattle.luks_bin.specs.declared.header.BinFault.{BinFault}
use Rattle.luks_store.specs.Copying.Meanings.{header_reader, meaning_of, seqid_in, size_in}
use Rattle.luks_store.proofs.CopyLemmas.{Spelt, found-here, found-later}
use Rattle.luks_store.proofs.GivenLemmas.{Newer, is_first, is_second, are_same, are_other, Both}
use Rattle.luks_store.proofs.GivenLemmas.{both, copy-found, copy-whole, inside, newer, none-found}
use Rattle.luks_store.proofs.GivenLemmas.{numbered-by, ok-is, sized-by}
use Rattle.luks_store.proofs.PlaceLemmas.{above, are_some, holds, is_rising, places, some-is}
use Rattle.luks_store.proofs.PlaceLemmas.{StandsNone}
use Rattle.luks_store.specs.Commits.{AreGood}
use Rattle.luks_store.specs.Found.{copy_at, first_at, IsWholeAt}
use Rattle.luks_store.specs.Promises.{BothAreGood, GivenIsUsed}
use Rattle.luks_store.specs.Used.{at_farther, at_nearest, beside, copies_by, copies_in, farther}
use Rattle.luks_store.specs.Used.{nearest, newer_of, primary_alone, secondary_alone}
use Rattle.luks_store.specs.declared.copies.Copies.{Copies}
use Rattle.luks_store.specs.declared.copies.HeaderCopy.{HeaderCopy}

abbrev Uses : List ℕ → List ℕ → Type 0
Uses bytes m =
    (copies : Copies) × (copies_in bytes ≡ Ok copies) × (meaning_of copies.used.bytes ≡ m)

-- a copy stands where a meaning is found, and none where none is
abbrev Stands : List ℕ → ℕ → List ℕ → Type 0
Stands bytes place m =
    (copy : HeaderCopy) × (copy_at place bytes ≡ Ok copy) × (meaning_of copy.bytes ≡ m)

stands-by : (bytes : List ℕ) (place : ℕ) (m : List ℕ) (r : Result HeaderCopy BinFault)
    → copy_at place bytes ≡ r
    → found header_reader bytes place ≡ Some m → Stands bytes place m
stands-by bytes place m (Ok copy) at is =
    (copy, at, inside _ _ (sym (copy-found place (drop place bytes) copy at) ∙ is))
stands-by bytes place m (Err fault) at is = let none =
    none-found place (drop place bytes) fault at in absurd cc

stands : (bytes : List ℕ) (place : ℕ) (m : List ℕ) → found header_reader bytes place ≡ Some m
    → Stands bytes place m
stands bytes place m is = stands-by bytes place m (copy_at place bytes) refl is

bare-by : (bytes : List ℕ) (place : ℕ) (r : Result HeaderCopy BinFault) → copy_at place bytes ≡ r
    → found header_reader bytes place ≡ None → StandsNone place bytes
bare-by bytes place (Ok copy) at is = let some =
    copy-found place (drop place bytes) copy at in absurd cc
bare-by bytes place (Err fault) at is = (fault, at)

bare : (bytes : List ℕ) (place : ℕ) → found header_reader bytes place ≡ None
    → StandsNone place bytes
bare bytes place is = bare-by bytes place (copy_at place bytes) refl is

by-first : (bytes : List ℕ) (first : HeaderCopy) → copy_at 0 bytes ≡ Ok first
    → copies_in bytes ≡ beside first (copy_at first.header.hdr_size bytes)
unfolding copies_in
by-first bytes first at = ap (copies_by bytes) at

by-none : (bytes : List ℕ) (fault : BinFault) → copy_at 0 bytes ≡ Err fault
    → copies_in bytes ≡ at_nearest fault bytes (copy_at nearest bytes)
unfolding copies_in
by-none bytes fault at = ap (copies_by bytes) at

-- ---- the primary counts
abbrev Elder : List ℕ → HeaderCopy → Type 0
Elder bytes first =
    IsNotNewer header_reader bytes (size_in (meaning_of first.bytes)) (meaning_of first.bytes)

first-counts : (bytes : List ℕ) (first second : HeaderCopy) → Both bytes first second
    → Elder bytes first → Newer first second
    → copies_in bytes ≡ beside first (Ok second) → Uses bytes (meaning_of first.bytes)
first-counts bytes first second at elder (is_first less is) used = (_, used ∙ is, refl)
first-counts bytes first second at elder (are_same equal same is) used = (_, used ∙ is, refl)
first-counts bytes first second at elder (is_second less is) used =
    let a = numbered-by 0 first at.one in let b = numbered-by first.header.hdr_size second at.two in
    absurd (elim (elder (meaning_of second.bytes) at.at_size) [
      | inl same ↦ (let c = ap seqid_in same in omega (arith, less, a, b, c))
      | inr older ↦ omega (arith, less, a, b, older)
    ])
first-counts bytes first second at elder (are_other equal other is) used =
    let a = numbered-by 0 first at.one in let b = numbered-by first.header.hdr_size second at.two in
    absurd (elim (elder (meaning_of second.bytes) at.at_size) [
      | inl same ↦ other (sym same)
      | inr older ↦ omega (arith, equal, a, b, older)
    ])

first-uses : Spelt → (bytes : List ℕ) (first : HeaderCopy) → copy_at 0 bytes ≡ Ok first
    → Elder bytes first
    → (r : Result HeaderCopy BinFault) → copy_at first.header.hdr_size bytes ≡ r
    → Uses bytes (meaning_of first.bytes)
first-uses spelt bytes first at elder (Ok second) two =
    first-counts bytes first second (both spelt bytes first second at two) elder
    (newer first second)
    (by-first bytes first at ∙ ap (beside first) two)
first-uses spelt bytes first at elder (Err fault) two =
    (primary_alone first, by-first bytes first at ∙ ap (beside first) two, refl)

-- ---- the secondary counts beside a primary
second-counts : (bytes : List ℕ) (first second : HeaderCopy) → Both bytes first second
    → seqid_in (meaning_of first.bytes) < seqid_in (meaning_of second.bytes) → Newer first second
    → copies_in bytes ≡ beside first (Ok second) → Uses bytes (meaning_of second.bytes)
second-counts bytes first second at higher (is_second less is) used = (_, used ∙ is, refl)
second-counts bytes first second at higher (is_first less is) used =
    let a = numbered-by 0 first at.one in let b =
    numbered-by first.header.hdr_size second at.two in absurd (omega (arith, less, a, b, higher))
second-counts bytes first second at higher (are_same equal same is) used =
    let a = numbered-by 0 first at.one in let b =
    numbered-by first.header.hdr_size second at.two in absurd (omega (arith, equal, a, b, higher))
second-counts bytes first second at higher (are_other equal other is) used =
    let a = numbered-by 0 first at.one in let b =
    numbered-by first.header.hdr_size second at.two in absurd (omega (arith, equal, a, b, higher))

second-uses : Spelt → (bytes m : List ℕ) (first second : HeaderCopy) → copy_at 0 bytes ≡ Ok first
    → copy_at (size_in (meaning_of first.bytes)) bytes ≡ Ok second
    → seqid_in (meaning_of first.bytes) < seqid_in (meaning_of second.bytes)
    → Uses bytes (meaning_of second.bytes)
second-uses spelt bytes m first second at two higher =
    let size = sized-by 0 first (copy-whole spelt 0 (drop 0 bytes) first at) in
    let there : copy_at first.header.hdr_size bytes ≡ Ok second =
    subst (λ n. copy_at n bytes ≡ Ok second) size two in
    second-counts bytes first second (both spelt bytes first second at there) higher
    (newer first second)
    (by-first bytes first at ∙ ap (beside first) there)

-- ---- a secondary counts alone
first-from : (xs bytes : List ℕ) (copy : HeaderCopy) (size : ℕ) → is_rising xs ≡ true
    → are_some xs ≡ true → holds size xs ≡ true
    → copy_at size bytes ≡ Ok copy
    → ((place : ℕ) → 0 < place → place < size → StandsNone place bytes)
    → first_at xs bytes ≡ Some copy
first-from [] bytes copy size rising some held at none = absurd cc
first-from (x ∷ xs) bytes copy size rising some held at none =
    let up = and_parts (list_all (λ y. nat_lt x y) xs) (is_rising xs) rising in
    let over = and_parts (nat_lt 0 x) (are_some xs) some in
    elim (or_cases (x == size) (holds size xs) held) [
      | inl is ↦
          found-here xs x bytes copy
          (sym (subst (λ n. copy_at n bytes ≡ Ok copy) (sym (eqb-true x size is)) at))
      | inr later ↦
          (let (fault, bare) = none x (ltb-true 0 x over.0) (above x size xs up.0 later) in
          found-later xs x bytes fault (sym bare)
          ∙ first-from xs bytes copy size up.1 over.1 later at none)
    ]

alone-from : (bytes : List ℕ) (fault : BinFault) (copy : HeaderCopy)
    (r : Result HeaderCopy BinFault) → copy_at nearest bytes ≡ r
    → first_at places bytes ≡ Some copy → at_nearest fault bytes r ≡ Ok (secondary_alone copy)
alone-from bytes fault copy (Ok here) at is =
    ap (λ c. Ok (secondary_alone c))
    (some-is here copy (sym (found-here farther nearest bytes here (sym at)) ∙ is))
alone-from bytes fault copy (Err near) at is =
    ap (at_farther fault near) (sym (found-later farther nearest bytes near (sym at)) ∙ is)

third-uses : Spelt → (bytes : List ℕ) (copy : HeaderCopy) (fault : BinFault)
    → copy_at 0 bytes ≡ Err fault
    → copy_at (size_in (meaning_of copy.bytes)) bytes ≡ Ok copy
    → HasNoneBelow header_reader bytes (size_in (meaning_of copy.bytes))
    → Uses bytes (meaning_of copy.bytes)
unfolding is_size
third-uses spelt bytes copy fault none at below =
    let size = size_in (meaning_of copy.bytes) in
    let whole = copy-whole spelt size (drop size bytes) copy at in
    let is = sized-by size copy whole in
    let nine = whole.whole.one_of_nine in (
      secondary_alone copy,
      by-none bytes fault none ∙ alone-from bytes fault copy (copy_at nearest bytes) refl
          (first-from places bytes copy size refl refl (ap (λ n. holds n places) is ∙ nine) at
          (λ place some less. bare bytes place (below place some less))),
      refl,
    )

-- ---- all of it
pub given-used : Spelt → GivenIsUsed
given-used spelt = λ bytes m gives. elim gives [
  | inl (one, elder) ↦ (let (first, at, means) = stands bytes 0 m one in
      subst (Uses bytes) means (first-uses spelt bytes first at
      (subst (λ x. IsNotNewer header_reader bytes (size_in x) x) (sym means) elder)
      (copy_at first.header.hdr_size bytes) refl))
  | inr (inl (old, one, two, higher)) ↦ (let (first, at, was) = stands bytes 0 old one in
      let (second, there, means) = stands bytes (size_in old) m two in
      subst (Uses bytes) means (second-uses spelt bytes m first second at
      (subst (λ x. copy_at (size_in x) bytes ≡ Ok second) (sym was) there)
      (let a = ap seqid_in was in let b = ap seqid_in means in omega (arith, a, b, higher))))
  | inr (inr (none, two, below)) ↦ (let (copy, at, means) = stands bytes (size_in m) m two in
      let (fault, front) = bare bytes 0 none in
      subst (Uses bytes) means (third-uses spelt bytes copy fault front
      (subst (λ x. copy_at (size_in x) bytes ≡ Ok copy) (sym means) at)
      (subst (λ x. HasNoneBelow header_reader bytes (size_in x)) (sym means) below)))
]

-- ---- where both copies of one header stand
good-by : (first second : HeaderCopy) (copies : Copies) → IsWholeAt 0 first
    → IsWholeAt first.header.hdr_size second → meaning_of second.bytes ≡ meaning_of first.bytes
    → Newer first second → newer_of first second ≡ Ok copies → AreGood copies
good-by first second copies one two same (is_first less is) used =
    let a = numbered-by 0 first one in let b = numbered-by first.header.hdr_size second two in
    let c = ap seqid_in same in absurd (omega (arith, less, a, b, c))
good-by first second copies one two same (is_second less is) used =
    let a = numbered-by 0 first one in let b = numbered-by first.header.hdr_size second two in
    let c = ap seqid_in same in absurd (omega (arith, less, a, b, c))
good-by first second copies one two same (are_same equal means is) used =
    subst AreGood (ok-is _ _ (sym is ∙ used)) (record { primary = refl; secondary = refl })
good-by first second copies one two same (are_other equal other is) used =
    absurd (other (sym same))

pub both-good : Spelt → BothAreGood
both-good spelt = λ bytes m copies used one two.
    let (first, at, means) = stands bytes 0 m one in
    let (second, there, same) = stands bytes (header_reader.size m) m two in
    let whole = copy-whole spelt 0 (drop 0 bytes) first at in
    let size : header_reader.size m ≡ first.header.hdr_size =
    sym (ap size_in means) ∙ sized-by 0 first whole in
    let here : copy_at first.header.hdr_size bytes ≡ Ok second =
    subst (λ n. copy_at n bytes ≡ Ok second) size there in
    good-by first second copies whole
    (copy-whole spelt first.header.hdr_size (drop first.header.hdr_size bytes) second here)
    (same ∙ sym means) (newer first second)
    (sym (by-first bytes first at ∙ ap (beside first) here) ∙ used)
