-- Lemmas on headers that are loaded by what they mean.
use Rattle.std.proofs.Common.{◌≡◌, ℕ, List, take, drop, Option, Some, None, Result, Ok, Err, refl}
use Rattle.std.proofs.Common.{sym}
use Rattle.std.proofs.Common.{◌∙◌, ap, subst}
use Rattle.base_terms.specs.declared.disk_sizes.Sizes.{Sizes}
use Rattle.luks_bin.specs.declared.header.BinFault.{BinFault}
use Rattle.luks_store.specs.Copying.Meanings.{meaning_of}
use Rattle.luks_store.specs.Copying.Promises.{MeanTheSame}
use Rattle.luks_meta.specs.declared.meta.Parts.{Parts}
use Rattle.luks_rules.specs.Rules.{first_fault}
use Rattle.luks_rules.specs.declared.fault.RuleFault.{RuleFault}
use Rattle.luks_store.proofs.CopyLemmas.{Spelt}
use Rattle.luks_store.proofs.GivenLemmas.{Newer, is_first, is_second, are_same, are_other}
use Rattle.luks_store.proofs.GivenLemmas.{copy-cut, copy-whole, newer, ok-is}
use Rattle.luks_store.proofs.PlaceLemmas.{alone, first-is, places}
use Rattle.luks_store.proofs.StoredLemmas.{is-valid}
use Rattle.luks_store.proofs.TextLemmas.{meta-same}
use Rattle.luks_store.proofs.UsesLemmas.{given-used}
use Rattle.luks_store.specs.Found.{copy_at, IsWholeAt}
use Rattle.luks_store.specs.Loads.{judged, objects_in, stored_in, unless, ◌>>=◌}
use Rattle.luks_store.specs.Promises.{LoadsByMeaning, UsedStands}
use Rattle.luks_store.specs.Used.{beside, copies_by, copies_in, nearest, newer_of, rule, Refusal}
use Rattle.luks_store.specs.declared.copies.Copies.{Copies}
use Rattle.luks_store.specs.declared.copies.HeaderCopy.{HeaderCopy}
use Rattle.luks_store.specs.declared.loaded.Stored.{Stored}

-- ---- the copy that is used stands at some place
abbrev pub StandsUsed : List ℕ → Copies → Type 0
StandsUsed bytes copies = (place : ℕ) × (copy_at place bytes ≡ Ok copies.used)

stands-newer : (bytes : List ℕ) (first second : HeaderCopy) (copies : Copies)
    → copy_at 0 bytes ≡ Ok first → copy_at first.header.hdr_size bytes ≡ Ok second
    → Newer first second → newer_of first second ≡ Ok copies → StandsUsed bytes copies
stands-newer bytes first second copies one two (is_first less is) used =
    subst (StandsUsed bytes) (ok-is _ _ (sym is ∙ used)) (0, one)
stands-newer bytes first second copies one two (is_second less is) used =
    subst (StandsUsed bytes) (ok-is _ _ (sym is ∙ used)) (first.header.hdr_size, two)
stands-newer bytes first second copies one two (are_same equal same is) used =
    subst (StandsUsed bytes) (ok-is _ _ (sym is ∙ used)) (0, one)
stands-newer bytes first second copies one two (are_other equal other is) used = absurd cc

stands-beside : (bytes : List ℕ) (first : HeaderCopy) (copies : Copies)
    → copy_at 0 bytes ≡ Ok first → (r : Result HeaderCopy BinFault)
    → copy_at first.header.hdr_size bytes ≡ r → beside first r ≡ Ok copies
    → StandsUsed bytes copies
stands-beside bytes first copies one (Ok second) at used =
    stands-newer bytes first second copies one at (newer first second) used
stands-beside bytes first copies one (Err fault) at used =
    subst (StandsUsed bytes) (ok-is _ _ used) (0, one)

stands-by : Spelt → (bytes : List ℕ) (copies : Copies) (r : Result HeaderCopy BinFault)
    → copy_at 0 bytes ≡ r
    → copies_by bytes r ≡ Ok copies → StandsUsed bytes copies
stands-by spelt bytes copies (Ok first) at used =
    stands-beside bytes first copies at (copy_at first.header.hdr_size bytes) refl used
stands-by spelt bytes copies (Err fault) at used =
    let (copy, found, same) = alone bytes fault copies (copy_at nearest bytes) refl used in
    subst (StandsUsed bytes) (sym same)
    (copy.header.hdr_size, (first-is spelt places bytes copy refl refl found).at)

pub stands-used : Spelt → (bytes : List ℕ) (copies : Copies) → copies_in bytes ≡ Ok copies
    → StandsUsed bytes copies
unfolding copies_in
stands-used spelt bytes copies used = stands-by spelt bytes copies (copy_at 0 bytes) refl used

pub used-stands : Spelt → UsedStands
used-stands spelt = λ bytes copies used.
    let (place, at) = stands-used spelt bytes copies used in
    let here = (copy-whole spelt place (drop place bytes) copies.used at).here in
    subst (λ n. take copies.used.header.hdr_size (drop n bytes) ≡ copies.used.bytes) (sym here)
    (copy-cut place (drop place bytes) copies.used at)

-- ---- the copies of a header that bytes hold
copies-held : (sizes : Sizes) (r : Result Copies Refusal) (stored : Stored)
    → ◌>>=◌ {B = Stored} r (λ copies. judged sizes copies) ≡ Ok stored → r ≡ Ok stored.copies
copies-held sizes (Ok copies) stored is =
    ap (λ (c : Copies). Ok c) (is-valid sizes copies stored is).same_copies
copies-held sizes (Err refusal) stored is = absurd cc

pub copies-stored : (sizes : Sizes) (bytes : List ℕ) (stored : Stored)
    → stored_in sizes bytes ≡ Ok stored → copies_in bytes ≡ Ok stored.copies
unfolding stored_in
copies-stored sizes bytes stored is = copies-held sizes (copies_in bytes) stored is

-- ---- the same objects are judged alike
judged-by : (sizes : Sizes) (a b : Copies) (stored : Stored) (meta : Parts) (o : Option RuleFault)
    → ◌>>=◌ {B = Stored} (unless rule o)
    (λ _. Ok (record { copies = a; valid = record { meta = meta; sizes = sizes } })) ≡ Ok stored
    → ◌>>=◌ {B = Stored} (unless rule o)
    (λ _. Ok (record { copies = b; valid = record { meta = meta; sizes = sizes } }))
    ≡ Ok (record { copies = b; valid = stored.valid })
judged-by sizes a b stored meta None is =
    let e : ◌≡◌ {A = Stored} (record { copies = a; valid = record { meta = meta; sizes = sizes } })
    stored = cc in
    ap (λ (s : Stored). Ok (record { copies = b; valid = s.valid })) e
judged-by sizes a b stored meta (Some fault) is = absurd cc

judged-from : (sizes : Sizes) (a b : Copies) (stored : Stored) (r : Result Parts Refusal)
    → ◌>>=◌ {B = Stored} r
    (λ meta. ◌>>=◌ {B = Stored} (unless rule (first_fault meta sizes))
    (λ _. Ok (record { copies = a; valid = record { meta = meta; sizes = sizes } }))) ≡ Ok stored
    → ◌>>=◌ {B = Stored} r
    (λ meta. ◌>>=◌ {B = Stored} (unless rule (first_fault meta sizes))
    (λ _. Ok (record { copies = b; valid = record { meta = meta; sizes = sizes } })))
    ≡ Ok (record { copies = b; valid = stored.valid })
judged-from sizes a b stored (Ok meta) is =
    judged-by sizes a b stored meta (first_fault meta sizes) is
judged-from sizes a b stored (Err refusal) is = absurd cc

judged-alike : (sizes : Sizes) (a b : Copies) (stored : Stored)
    → objects_in a.used ≡ objects_in b.used → judged sizes a ≡ Ok stored
    → judged sizes b ≡ Ok (record { copies = b; valid = stored.valid })
unfolding judged
judged-alike sizes a b stored same is =
    ap (λ r. ◌>>=◌ {B = Stored} r
    (λ meta. ◌>>=◌ {B = Stored} (unless rule (first_fault meta sizes))
    (λ _. Ok (record { copies = b; valid = record { meta = meta; sizes = sizes } })))) (sym same)
    ∙ judged-from sizes a b stored (objects_in a.used) is

loads-by : (sizes : Sizes) (bytes : List ℕ) (copies : Copies) (stored : Stored)
    → copies_in bytes ≡ Ok copies
    → judged sizes copies ≡ Ok stored → stored_in sizes bytes ≡ Ok stored
unfolding stored_in
loads-by sizes bytes copies stored used is = rw used is

pub loads-meaning : Spelt → MeanTheSame → LoadsByMeaning
loads-meaning spelt mean = λ bytes stored is gives.
    let (copies, used, means) =
    given-used spelt bytes (meaning_of stored.copies.used.bytes) gives in
    let (place, at) = stands-used spelt bytes copies used in
    let whole = copy-whole spelt place (drop place bytes) copies.used at in
    let own : IsWholeAt stored.copies.used.header.hdr_offset stored.copies.used =
    record { whole = is.copies.whole; here = refl } in
    let same = meta-same mean stored.copies.used copies.used _ place own whole (sym means) in (
      record { copies = copies; valid = stored.valid },
      loads-by stored.valid.sizes bytes copies _ used
          (judged-alike stored.valid.sizes stored.copies copies stored same is.held),
      refl,
    )
