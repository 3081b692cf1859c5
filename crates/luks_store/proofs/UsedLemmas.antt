-- Lemmas on which of two copies is used.
use Rattle.std.proofs.Common.{◌≡◌, ◌≢◌, inl, inr, ℕ, ◌≤◌, nat_lt, length, Bool, true, false, Ok}
use Rattle.std.proofs.Common.{Err, refl, sym, ◌∙◌, ap, arith}
use Rattle.std.specs.Str.{bytes_eq}
use Rattle.std.proofs.lemmas.Bool.{le-ltb}
use Rattle.std.proofs.lemmas.Slice.Eq.{bytes_eq-Decides}
use Rattle.luks_bin.proofs.FieldLemmas.{size-least}
use Rattle.luks_bin.specs.Shares.{Agree, DifferFirst}
use Rattle.luks_store.specs.Copying.Meanings.{meaning_of}
use Rattle.luks_store.specs.Copying.Promises.{MeanTheSame}
use Rattle.luks_store.specs.Found.{IsWholeAt, IsWholeBehind}
use Rattle.luks_store.specs.Used.{differ, kept, newer_of, AreCopies}
use Rattle.luks_store.specs.declared.copies.Copies.{Copies}
use Rattle.luks_store.specs.declared.copies.CopyPlace.{CopyPlace}
use Rattle.luks_store.specs.declared.copies.CopyState.TheVariants.{Good, Older}
use Rattle.luks_store.specs.declared.copies.HeaderCopy.{HeaderCopy}

-- a secondary at a primary's size has that size
pub same-size : (first second : HeaderCopy) → IsWholeAt 0 first
    → IsWholeAt first.header.hdr_size second
    → second.header.hdr_size ≡ first.header.hdr_size
same-size first second one two = elim two.whole.place [
  | inl none ↦
      (let least = size-least first.header.hdr_size one.whole.one_of_nine in let here =
      two.here in omega (arith, none, here, least))
  | inr size ↦ sym size ∙ two.here
]

pub same-length : (first second : HeaderCopy) → IsWholeAt 0 first
    → IsWholeAt first.header.hdr_size second
    → length first.bytes ≡ length second.bytes
same-length first second one two =
    one.whole.whole ∙ sym (same-size first second one two) ∙ sym two.whole.whole

some-long : (first : HeaderCopy) → IsWholeAt 0 first → 512 ≤ length first.bytes
some-long first one = let least =
    size-least first.header.hdr_size one.whole.one_of_nine in let long =
    one.whole.whole in omega (arith, least, long)

-- ---- two copies of one number
both-same : (first second : HeaderCopy) → nat_lt second.header.seqid first.header.seqid ≡ false
    → nat_lt first.header.seqid second.header.seqid ≡ false
    → bytes_eq (meaning_of first.bytes) (meaning_of second.bytes) ≡ true
    → newer_of first second
    ≡ Ok (record { used = first; primary = kept Good first; secondary = kept Good second })
unfolding newer_of
both-same first second a b same = rw (a, b, same) refl

both-differ : (first second : HeaderCopy) → nat_lt second.header.seqid first.header.seqid ≡ false
    → nat_lt first.header.seqid second.header.seqid ≡ false
    → bytes_eq (meaning_of first.bytes) (meaning_of second.bytes) ≡ false
    → newer_of first second ≡ Err (differ first.header.seqid first.bytes second.bytes)
unfolding newer_of
both-differ first second a b other = rw (a, b, other) refl

pub agreeing : MeanTheSame → (first second : HeaderCopy) → IsWholeAt 0 first
    → IsWholeAt first.header.hdr_size second
    → nat_lt second.header.seqid first.header.seqid ≡ false
    → nat_lt first.header.seqid second.header.seqid ≡ false
    → Agree first.bytes second.bytes
    → newer_of first second
    ≡ Ok (record { used = first; primary = kept Good first; secondary = kept Good second })
agreeing mean first second one two a b agree = both-same first second a b
    ((bytes_eq-Decides (meaning_of first.bytes) (meaning_of second.bytes)).1
    ((mean first.bytes second.bytes (some-long first one) (same-length first second one two)).1
    agree))

unequal : (b : Bool) → (b ≡ true → ⊥) → b ≡ false
unequal true other = absurd (other refl)
unequal false other = refl

pub differing : MeanTheSame → (first second : HeaderCopy) (at : ℕ) → IsWholeAt 0 first
    → IsWholeAt first.header.hdr_size second
    → nat_lt second.header.seqid first.header.seqid ≡ false
    → nat_lt first.header.seqid second.header.seqid ≡ false
    → DifferFirst first.bytes second.bytes at
    → newer_of first second ≡ Err (differ first.header.seqid first.bytes second.bytes)
unfolding Agree
differing mean first second at one two a b differ_at = both-differ first second a b
    (unequal _ (λ same. differ_at.differ
    ((mean first.bytes second.bytes (some-long first one) (same-length first second one two)).0
    ((bytes_eq-Decides (meaning_of first.bytes) (meaning_of second.bytes)).0 same) at
    differ_at.is_shared)))

pub secondary-stands : (copies : Copies) → copies.primary.state ≢ Good
    → copies.secondary.state ≡ Good → IsWholeBehind copies.used
    → AreCopies copies
secondary-stands copies worse good is =
    record { whole = is.whole; stands = inr (worse, good, is.here) }

pub behind-first : (first second : HeaderCopy) → IsWholeAt 0 first
    → IsWholeAt first.header.hdr_size second → IsWholeBehind second
behind-first first second one two =
    record { whole = two.whole; here = two.here ∙ sym (same-size first second one two) }

-- ---- as the code finds them
pub same-used : MeanTheSame → (first second : HeaderCopy) (primary secondary : CopyPlace)
    → IsWholeAt 0 first
    → IsWholeAt first.header.hdr_size second → first.header.seqid ≤ second.header.seqid
    → second.header.seqid ≤ first.header.seqid
    → Agree first.bytes second.bytes → primary ≡ kept Good first → secondary ≡ kept Good second
    → newer_of first second ≡ Ok (record { used = first; primary = primary; secondary = secondary })
same-used mean first second primary secondary one two a b agree is_primary is_secondary =
    rw (is_primary, is_secondary)
    (agreeing mean first second one two (le-ltb _ _ a) (le-ltb _ _ b) agree)

pub other-found : MeanTheSame → (first second : HeaderCopy) (at : ℕ) → IsWholeAt 0 first
    → IsWholeAt first.header.hdr_size second → first.header.seqid ≤ second.header.seqid
    → second.header.seqid ≤ first.header.seqid
    → DifferFirst first.bytes second.bytes at
    → newer_of first second ≡ Err (differ first.header.seqid first.bytes second.bytes)
other-found mean first second at one two a b differ_at =
    differing mean first second at one two (le-ltb _ _ a) (le-ltb _ _ b) differ_at

pub older-stands : (first second : HeaderCopy) (primary secondary : CopyPlace) → IsWholeAt 0 first
    → IsWholeAt first.header.hdr_size second
    → primary ≡ kept Older first → secondary ≡ kept Good second
    → AreCopies (record { used = second; primary = primary; secondary = secondary })
older-stands first second primary secondary one two is_primary is_secondary =
    let older = ap (λ (p : CopyPlace). p.state) is_primary in
    secondary-stands _ (λ good. (let e : Older ≡ Good = sym older ∙ good in absurd cc))
    (ap (λ (p : CopyPlace). p.state) is_secondary)
    (behind-first first second one two)
