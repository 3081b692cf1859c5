-- Where both copies of a header stand on a disk for certain a commit begins.
use Rattle.std.proofs.Common.{◌≡◌, ℕ, ◌+◌, ◌*◌, ◌≤◌, false, List, length, take, drop, Some, Result}
use Rattle.std.proofs.Common.{Ok, Err, refl, sym, ◌∙◌, ap, subst, arith}
use Rattle.std.proofs.Math.Nat.{mul-le-mul_right}
use Rattle.crash_laws.specs.HeaderAreas.Headers.{Copy, Header, IsHeader, IsLaidOut, IsReader, Layout, byte_of}
use Rattle.crash_laws.specs.HeaderAreas.Headers.{primary, secondary, text_of}
use Rattle.luks_bin.specs.declared.header.BinFault.{BinFault}
use Rattle.luks_store.specs.Copying.Meanings.{header_of, header_reader, meaning_at, meaning_of, size_in}
use Rattle.luks_rules.specs.Areas.{header_bytes}
use Rattle.luks_store.proofs.CopyLemmas.{Spelt, front-part}
use Rattle.luks_store.proofs.GivenLemmas.{Newer, is_first, is_second, are_same, are_other}
use Rattle.luks_store.proofs.GivenLemmas.{copy-cut, copy-found, copy-whole, newer, ok-is, sized-by}
use Rattle.luks_store.proofs.LoadLemmas.{copies-stored}
use Rattle.luks_store.proofs.PlaceLemmas.{alone}
use Rattle.luks_store.proofs.SettledLemmas.{shows_copy}
use Rattle.luks_store.proofs.UsedLemmas.{same-size}
use Rattle.luks_store.specs.Commits.{AreGood}
use Rattle.luks_store.specs.Devices.{front_of}
use Rattle.luks_store.specs.Found.{copy_at, IsWholeAt}
use Rattle.luks_store.specs.Promises.{CommitsBegin}
use Rattle.luks_store.specs.Used.{beside, copies_by, copies_in, nearest, newer_of}
use Rattle.luks_store.specs.declared.copies.Copies.{Copies}
use Rattle.luks_store.specs.declared.copies.CopyState.{CopyState}
use Rattle.luks_store.specs.declared.copies.CopyState.TheVariants.{Good, Older, Lacking}
use Rattle.luks_store.specs.declared.copies.HeaderCopy.{HeaderCopy}

-- ---- both copies that are good were found
record AreBoth (bytes : List ℕ) (copies : Copies) : Type 0 where
  pub second : HeaderCopy
  pub one : copy_at 0 bytes ≡ Ok copies.used
  pub two : copy_at copies.used.header.hdr_size bytes ≡ Ok second
  pub same : meaning_of copies.used.bytes ≡ meaning_of second.bytes

not_older : (state : CopyState) → Older ≡ state → state ≡ Good → ⊥
not_older state is good = (let e : Older ≡ Good = is ∙ good in cc)

not_lacking : (state : CopyState) → Lacking ≡ state → state ≡ Good → ⊥
not_lacking state is good = (let e : Lacking ≡ Good = is ∙ good in cc)

both_newer : (bytes : List ℕ) (first second : HeaderCopy) (copies : Copies)
    → copy_at 0 bytes ≡ Ok first → copy_at first.header.hdr_size bytes ≡ Ok second
    → Newer first second → newer_of first second ≡ Ok copies → AreGood copies
    → AreBoth bytes copies
both_newer bytes first second copies one two (is_first less is) used good =
    absurd (not_older copies.secondary.state
    (ap (λ (c : Copies). c.secondary.state) (ok-is _ _ (sym is ∙ used))) good.secondary)
both_newer bytes first second copies one two (is_second less is) used good =
    absurd (not_older copies.primary.state
    (ap (λ (c : Copies). c.primary.state) (ok-is _ _ (sym is ∙ used))) good.primary)
both_newer bytes first second copies one two (are_same equal same is) used good =
    subst (AreBoth bytes) (ok-is _ _ (sym is ∙ used))
    (record { second = second; one = one; two = two; same = same })
both_newer bytes first second copies one two (are_other equal other is) used good = absurd cc

both_beside : (bytes : List ℕ) (first : HeaderCopy) (copies : Copies)
    → copy_at 0 bytes ≡ Ok first → (r : Result HeaderCopy BinFault)
    → copy_at first.header.hdr_size bytes ≡ r → beside first r ≡ Ok copies → AreGood copies
    → AreBoth bytes copies
both_beside bytes first copies one (Ok second) at used good =
    both_newer bytes first second copies one at (newer first second) used good
both_beside bytes first copies one (Err fault) at used good =
    absurd (not_lacking copies.secondary.state
    (ap (λ (c : Copies). c.secondary.state) (ok-is _ _ used)) good.secondary)

both_by : (bytes : List ℕ) (copies : Copies) (r : Result HeaderCopy BinFault)
    → copy_at 0 bytes ≡ r → copies_by bytes r ≡ Ok copies → AreGood copies
    → AreBoth bytes copies
both_by bytes copies (Ok first) at used good =
    both_beside bytes first copies at (copy_at first.header.hdr_size bytes) refl used good
both_by bytes copies (Err fault) at used good =
    let (copy, found, same) = alone bytes fault copies (copy_at nearest bytes) refl used in
    absurd (not_lacking copies.primary.state
    (ap (λ (c : Copies). c.primary.state) (sym same)) good.primary)

both_good : (bytes : List ℕ) (copies : Copies) → copies_in bytes ≡ Ok copies → AreGood copies
    → AreBoth bytes copies
unfolding copies_in
both_good bytes copies used good = both_by bytes copies (copy_at 0 bytes) refl used good

-- ---- they are a header
-- a copy means itself, without what stands behind it
means_itself : IsReader header_reader → (place : ℕ) (bytes : List ℕ) (copy : HeaderCopy)
    → IsWholeAt place copy → copy_at place bytes ≡ Ok copy
    → meaning_at place copy.bytes ≡ Some (meaning_of copy.bytes)
means_itself reads place bytes copy whole at =
    let found = copy-found place (drop place bytes) copy at in
    let own = reads.own place (drop place bytes) (meaning_of copy.bytes) found in
    subst (λ text. meaning_at place text ≡ Some (meaning_of copy.bytes))
    (ap (λ n. take n (drop place bytes)) (sized-by place copy whole)
    ∙ copy-cut place (drop place bytes) copy at) own

module _ (spelt : Spelt) (reads : IsReader header_reader) (bytes : List ℕ) (copies : Copies)
    (both : AreBoth bytes copies) where
  abbrev first : HeaderCopy
  first = copies.used

  one_whole : IsWholeAt 0 first
  one_whole = copy-whole spelt 0 (drop 0 bytes) first both.one

  two_whole : IsWholeAt first.header.hdr_size both.second
  two_whole =
      copy-whole spelt first.header.hdr_size (drop first.header.hdr_size bytes) both.second both.two

  long : size_in (meaning_of first.bytes) ≡ first.header.hdr_size
  long = sized-by 0 first one_whole

  second_size : both.second.header.hdr_size ≡ first.header.hdr_size
  second_size = same-size first both.second one_whole two_whole

  second_means : meaning_at first.header.hdr_size both.second.bytes
      ≡ Some (meaning_of first.bytes)
  second_means =
      means_itself reads first.header.hdr_size bytes both.second two_whole both.two
      ∙ ap (λ m. Some m) (sym both.same)

  abbrev header : Header (List ℕ)
  header = header_of first.bytes both.second.bytes

  valid_at : (copy : Copy)
      → meaning_at (byte_of (size_in (meaning_of first.bytes)) copy) (text_of header copy)
      ≡ Some (meaning_of first.bytes)
  valid_at primary = means_itself reads 0 bytes first one_whole both.one
  valid_at secondary =
      subst (λ n. meaning_at n both.second.bytes ≡ Some (meaning_of first.bytes)) (sym long)
      second_means

  sized_at : (copy : Copy) → length (text_of header copy) ≡ size_in (meaning_of first.bytes)
  sized_at primary = one_whole.whole.whole ∙ sym long
  sized_at secondary = two_whole.whole.whole ∙ second_size ∙ sym long

  are_header : IsHeader header_reader header
  are_header = record { valid = valid_at; size = sized_at }

  -- where they stand
  first_stands : take first.header.hdr_size (drop 0 bytes) ≡ first.bytes
  first_stands = copy-cut 0 (drop 0 bytes) first both.one

  second_stands : take first.header.hdr_size (drop first.header.hdr_size bytes)
      ≡ both.second.bytes
  second_stands =
      ap (λ n. take n (drop first.header.hdr_size bytes)) (sym second_size)
      ∙ copy-cut first.header.hdr_size (drop first.header.hdr_size bytes) both.second both.two

-- both have room on the header's disk
two_fit : (atom atoms size : ℕ) (layout : Layout) → IsLaidOut atom atoms size layout
    → size + size ≤ atoms * atom
two_fit atom atoms size layout laid =
    let n = layout.first.count in
    let within : n + n ≤ atoms = omega (arith, laid.second, laid.same, laid.within) in
    let many = mul-le-mul_right atom within in
    let twice : (n + n) * atom ≡ n * atom + n * atom = grind arith in
    omega (arith, many, twice, laid.long)

pub commits-begin : Spelt → IsReader header_reader → CommitsBegin
commits-begin spelt reads =
    λ sizes bytes cells stored layout to certain laid held good.
    let front = front_of sizes bytes in
    let used = copies-stored sizes front stored held in
    let both = both_good front stored.copies used good in
    let size = stored.copies.used.header.hdr_size in
    let room = two_fit sizes.atom sizes.header_atoms size layout laid in
    let h = header_bytes sizes in (
      header_of stored.copies.used.bytes both.second.bytes,
      are_header spelt reads front stored.copies both,
      refl,
      refl,
      record {
        first = shows_copy sizes layout size bytes cells certain laid primary
            stored.copies.used.bytes false
            (sym (front-part h 0 size bytes (omega (arith, room)))
            ∙ first_stands spelt reads front stored.copies both);
        second = shows_copy sizes layout size bytes cells certain laid secondary
            both.second.bytes false
            (sym (front-part h size size bytes (omega (arith, room)))
            ∙ second_stands spelt reads front stored.copies both);
      },
    )
