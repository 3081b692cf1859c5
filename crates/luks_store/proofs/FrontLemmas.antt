-- Lemmas on what is read of a disk where a primary stands: both copies, and nothing behind them.
use Rattle.std.proofs.Common.{◌≡◌, ◌≢◌, ℕ, ◌+◌, ◌*◌, ◌≤◌, List, ◌++◌, take, drop, Result, Ok, Err}
use Rattle.std.proofs.Common.{refl, sym, ◌∙◌, ap, subst, arith}
use Rattle.std.proofs.lemmas.List.{take-append-drop}
use Rattle.base_terms.specs.declared.disk_sizes.Sizes.{Sizes}
use Rattle.luks_bin.specs.declared.header.BinFault.{BinFault}
use Rattle.luks_store.proofs.CommitLemmas.{found-front}
use Rattle.luks_store.proofs.CopyLemmas.{front-part, Spelt}
use Rattle.luks_store.proofs.GivenLemmas.{Newer, is_first, is_second, are_same, are_other}
use Rattle.luks_store.proofs.GivenLemmas.{copy-cut, copy-whole, newer, ok-is}
use Rattle.luks_store.proofs.LoadLemmas.{copies-stored, stands-used}
use Rattle.luks_store.proofs.PlaceLemmas.{alone}
use Rattle.luks_store.proofs.StoredLemmas.{size-held}
use Rattle.luks_store.proofs.UsedLemmas.{same-size}
use Rattle.luks_store.specs.Found.{copy_at, copy_from, IsWholeAt}
use Rattle.luks_store.specs.Loads.{judged, stored_in, ◌>>=◌}
use Rattle.luks_store.specs.Promises.{AreasBeginBehind, FrontsAreLoaded}
use Rattle.luks_store.specs.Used.{beside, copies_by, copies_in, nearest, newer_of}
use Rattle.luks_store.specs.declared.copies.Copies.{Copies}
use Rattle.luks_store.specs.declared.copies.CopyState.TheVariants.{Lacking}
use Rattle.luks_store.specs.declared.copies.HeaderCopy.{HeaderCopy}
use Rattle.luks_store.specs.declared.loaded.Stored.{Stored}

-- a copy that lies in the bytes that two disks share stands on both
shared-copy : Spelt → (most place : ℕ) (one two : List ℕ) (copy : HeaderCopy)
    → place + copy.header.hdr_size ≤ most → take most one ≡ take most two
    → copy_at place one ≡ Ok copy → copy_at place two ≡ Ok copy
shared-copy spelt most place one two copy within same at =
    let n = copy.header.hdr_size in
    let bytes : take n (drop place two) ≡ copy.bytes =
    sym (front-part most place n two within) ∙ ap (λ xs. take n (drop place xs)) (sym same)
    ∙ front-part most place n one within ∙ copy-cut place (drop place one) copy at in
    ap (copy_from place)
    (sym (take-append-drop n (drop place two)) ∙ ap (λ xs. xs ++ drop n (drop place two)) bytes)
    ∙ found-front spelt place copy (drop n (drop place two))
    (copy-whole spelt place (drop place one) copy at)

-- ---- beside a primary
behind-size : Spelt → (bytes : List ℕ) (first second : HeaderCopy) → IsWholeAt 0 first
    → copy_at first.header.hdr_size bytes ≡ Ok second
    → second.header.hdr_size ≡ first.header.hdr_size
behind-size spelt bytes first second one at = same-size first second one
    (copy-whole spelt first.header.hdr_size (drop first.header.hdr_size bytes) second at)

shared-second : Spelt → (one two : List ℕ) (first second : HeaderCopy) → IsWholeAt 0 first
    → take (2 * first.header.hdr_size) one ≡ take (2 * first.header.hdr_size) two
    → copy_at first.header.hdr_size one ≡ Ok second → copy_at first.header.hdr_size two ≡ Ok second
shared-second spelt one two first second whole same at =
    let size = behind-size spelt one first second whole at in
    shared-copy spelt (2 * first.header.hdr_size) first.header.hdr_size one two second
    (omega (arith, size)) same at

same-beside : Spelt → (one two : List ℕ) (first : HeaderCopy) → IsWholeAt 0 first
    → take (2 * first.header.hdr_size) one ≡ take (2 * first.header.hdr_size) two
    → (r s : Result HeaderCopy BinFault) → copy_at first.header.hdr_size one ≡ r
    → copy_at first.header.hdr_size two ≡ s → beside first r ≡ beside first s
same-beside spelt one two first whole same (Ok second) s at there =
    ap (beside first) (sym (shared-second spelt one two first second whole same at) ∙ there)
same-beside spelt one two first whole same (Err fault) (Ok second) at there =
    let both = sym at ∙ shared-second spelt two one first second whole (sym same) there in absurd cc
same-beside spelt one two first whole same (Err fault) (Err other) at there = refl

size-newer : (first second : HeaderCopy) (copies : Copies)
    → second.header.hdr_size ≡ first.header.hdr_size → Newer first second
    → newer_of first second ≡ Ok copies → copies.used.header.hdr_size ≡ first.header.hdr_size
size-newer first second copies size (is_first less is) used =
    sym (ap (λ (c : Copies). c.used.header.hdr_size) (ok-is _ _ (sym is ∙ used)))
size-newer first second copies size (is_second less is) used =
    sym (ap (λ (c : Copies). c.used.header.hdr_size) (ok-is _ _ (sym is ∙ used))) ∙ size
size-newer first second copies size (are_same equal same is) used =
    sym (ap (λ (c : Copies). c.used.header.hdr_size) (ok-is _ _ (sym is ∙ used)))
size-newer first second copies size (are_other equal other is) used = absurd cc

size-beside : Spelt → (bytes : List ℕ) (first : HeaderCopy) (copies : Copies) → IsWholeAt 0 first
    → (r : Result HeaderCopy BinFault) → copy_at first.header.hdr_size bytes ≡ r
    → beside first r ≡ Ok copies → copies.used.header.hdr_size ≡ first.header.hdr_size
size-beside spelt bytes first copies whole (Ok second) at used =
    size-newer first second copies (behind-size spelt bytes first second whole at)
    (newer first second) used
size-beside spelt bytes first copies whole (Err fault) at used =
    sym (ap (λ (c : Copies). c.used.header.hdr_size) (ok-is _ _ used))

-- ---- the copies that are used
front-by : Spelt → (one two : List ℕ) (copies : Copies) (r : Result HeaderCopy BinFault)
    → copy_at 0 one ≡ r → copies_by one r ≡ Ok copies → copies.primary.state ≢ Lacking
    → take (2 * copies.used.header.hdr_size) one ≡ take (2 * copies.used.header.hdr_size) two
    → copies_by two (copy_at 0 two) ≡ Ok copies
front-by spelt one two copies (Ok first) at used some same =
    let whole = copy-whole spelt 0 one first at in
    let size =
    size-beside spelt one first copies whole (copy_at first.header.hdr_size one) refl used in
    let front : take (2 * first.header.hdr_size) one ≡ take (2 * first.header.hdr_size) two =
    subst (λ n. take (2 * n) one ≡ take (2 * n) two) size same in
    ap (copies_by two)
    (shared-copy spelt (2 * first.header.hdr_size) 0 one two first (omega arith) front at)
    ∙ sym (same-beside spelt one two first whole front (copy_at first.header.hdr_size one)
    (copy_at first.header.hdr_size two) refl refl)
    ∙ used
front-by spelt one two copies (Err fault) at used some same =
    let (copy, found, is) = alone one fault copies (copy_at nearest one) refl used in
    absurd (some (ap (λ (c : Copies). c.primary.state) is))

front-used : Spelt → (one two : List ℕ) (copies : Copies) → copies_in one ≡ Ok copies
    → copies.primary.state ≢ Lacking
    → take (2 * copies.used.header.hdr_size) one ≡ take (2 * copies.used.header.hdr_size) two
    → copies_in two ≡ Ok copies
unfolding copies_in
front-used spelt one two copies used some same =
    front-by spelt one two copies (copy_at 0 one) refl used some same

front-stored : (sizes : Sizes) (one two : List ℕ) (stored : Stored)
    → copies_in one ≡ Ok stored.copies → copies_in two ≡ Ok stored.copies
    → stored_in sizes one ≡ Ok stored → stored_in sizes two ≡ Ok stored
unfolding stored_in
front-stored sizes one two stored used there is =
    ap (λ r. ◌>>=◌ {B = Stored} r (λ copies. judged sizes copies)) (there ∙ sym used) ∙ is

-- ---- where they end
judged-stored : (sizes : Sizes) (bytes : List ℕ) (stored : Stored)
    → copies_in bytes ≡ Ok stored.copies → stored_in sizes bytes ≡ Ok stored
    → judged sizes stored.copies ≡ Ok stored
unfolding stored_in
judged-stored sizes bytes stored used is =
    sym (ap (λ r. ◌>>=◌ {B = Stored} r (λ copies. judged sizes copies)) used) ∙ is

pub areas-begin : Spelt → AreasBeginBehind
areas-begin spelt = λ sizes bytes stored is.
    let used = copies-stored sizes bytes stored is in
    let (place, at) = stands-used spelt bytes stored.copies used in
    let whole = copy-whole spelt place (drop place bytes) stored.copies.used at in
    ap (λ n. 2 * n)
    (size-held sizes stored whole.whole (judged-stored sizes bytes stored used is))

pub fronts-loaded : Spelt → FrontsAreLoaded
fronts-loaded spelt = λ sizes first image stored is some same.
    let used = copies-stored sizes first stored is in
    front-stored sizes first image stored used
    (front-used spelt first image stored.copies used some (sym same)) is
