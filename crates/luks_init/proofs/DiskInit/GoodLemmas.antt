-- A header that bytes hold, both copies of which are good, is stored.
use Rattle.std.proofs.Common.{◌≡◌, ◌∙◌, inl, ℕ, ◌<◌, List, drop, Result, Ok, Err, refl, sym, ap, subst}
use Rattle.base_terms.specs.declared.disk_sizes.Sizes.{Sizes}
use Rattle.luks_bin.specs.declared.header.BinFault.{BinFault}
use Rattle.luks_store.proofs.CopyLemmas.{Spelt}
use Rattle.luks_store.proofs.GivenLemmas.{Newer, copy-whole, is_first, is_second, are_same}
use Rattle.luks_store.proofs.GivenLemmas.{are_other, newer, ok-is}
use Rattle.luks_store.proofs.LoadLemmas.{copies-stored}
use Rattle.luks_store.proofs.PlaceLemmas.{alone}
use Rattle.luks_store.proofs.StoredLemmas.{is-valid}
use Rattle.luks_store.specs.Commits.{AreGood}
use Rattle.luks_store.specs.Found.{copy_at}
use Rattle.luks_store.specs.Loads.{IsStored, judged, stored_in, ◌>>=◌}
use Rattle.luks_store.specs.Used.{AreCopies, Refusal, beside, copies_by, copies_in, nearest}
use Rattle.luks_store.specs.Used.{newer_of, primary_alone}
use Rattle.luks_store.specs.declared.copies.Copies.{Copies}
use Rattle.luks_store.specs.declared.copies.CopyState.TheVariants.{Good, Lacking, Older}
use Rattle.luks_store.specs.declared.copies.HeaderCopy.{HeaderCopy}
use Rattle.luks_store.specs.declared.loaded.Stored.{Stored}

by_newer : Spelt → (bytes : List ℕ) (first second : HeaderCopy) (copies : Copies)
    → copy_at 0 bytes ≡ Ok first → Newer first second → newer_of first second ≡ Ok copies
    → AreGood copies → AreCopies copies
by_newer spelt bytes first second copies one (is_first less is) used good =
    let same = ok-is _ _ (sym is ∙ used) in
    let state = ap (λ (c : Copies). c.secondary.state) same ∙ good.secondary in
    absurd (let e : Older ≡ Good = state in cc)
by_newer spelt bytes first second copies one (is_second less is) used good =
    let same = ok-is _ _ (sym is ∙ used) in
    let state = ap (λ (c : Copies). c.primary.state) same ∙ good.primary in
    absurd (let e : Older ≡ Good = state in cc)
by_newer spelt bytes first second copies one (are_same equal same is) used good =
    let whole = copy-whole spelt 0 (drop 0 bytes) first one in
    subst AreCopies (ok-is _ _ (sym is ∙ used))
    (record { whole = whole.whole; stands = inl (refl, whole.here) })
by_newer spelt bytes first second copies one (are_other equal other is) used good = absurd cc

by_second : Spelt → (bytes : List ℕ) (first : HeaderCopy) (copies : Copies)
    → copy_at 0 bytes ≡ Ok first → (r : Result HeaderCopy BinFault) → beside first r ≡ Ok copies
    → AreGood copies → AreCopies copies
by_second spelt bytes first copies one (Ok second) used good =
    by_newer spelt bytes first second copies one (newer first second) used good
by_second spelt bytes first copies one (Err fault) used good =
    let same = ok-is (primary_alone first) copies used in
    let state = ap (λ (c : Copies). c.secondary.state) same ∙ good.secondary in
    absurd (let e : Lacking ≡ Good = state in cc)

by_first : Spelt → (bytes : List ℕ) (copies : Copies) (r : Result HeaderCopy BinFault)
    → copy_at 0 bytes ≡ r → copies_by bytes r ≡ Ok copies → AreGood copies → AreCopies copies
by_first spelt bytes copies (Ok first) at used good =
    by_second spelt bytes first copies at (copy_at first.header.hdr_size bytes) used good
by_first spelt bytes copies (Err fault) at used good =
    let (copy, found, same) = alone bytes fault copies (copy_at nearest bytes) refl used in
    let state = ap (λ (c : Copies). c.primary.state) (sym same) ∙ good.primary in
    absurd (let e : Lacking ≡ Good = state in cc)

are_copies : Spelt → (bytes : List ℕ) (copies : Copies) → copies_in bytes ≡ Ok copies
    → AreGood copies → AreCopies copies
unfolding copies_in
are_copies spelt bytes copies used good =
    by_first spelt bytes copies (copy_at 0 bytes) refl used good

judged_as : (sizes : Sizes) (bytes : List ℕ) (stored : Stored) → stored_in sizes bytes ≡ Ok stored
    → judged sizes stored.copies ≡ Ok stored
unfolding stored_in
judged_as sizes bytes stored is =
    subst (λ (r : Result Copies Refusal). ◌>>=◌ {B = Stored} r (λ copies. judged sizes copies)
    ≡ Ok stored) (copies-stored sizes bytes stored is) is

pub good_stored : Spelt → (sizes : Sizes) (bytes : List ℕ) (stored : Stored) → 0 < sizes.atom
    → stored_in sizes bytes ≡ Ok stored → AreGood stored.copies → IsStored stored
good_stored spelt sizes bytes stored some is good =
    let held = judged_as sizes bytes stored is in
    let same = (is-valid sizes stored.copies stored held).same_sizes in
    record {
      copies = are_copies spelt bytes stored.copies (copies-stored sizes bytes stored is) good;
      atom = subst (λ (z : Sizes). 0 < z.atom) same some;
      held = subst (λ (z : Sizes). judged z stored.copies ≡ Ok stored) same held;
    }
