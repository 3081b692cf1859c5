-- The header behind a commit is the one that is loaded then: each copy is the primary, moved to its
-- place with its own salt.
use Rattle.std.proofs.Common.{◌≡◌, ◌∙◌, inl, inr, ℕ, ◌+◌, ◌-◌, ◌<◌, ◌≤◌, List, ◌++◌}
use Rattle.std.proofs.Common.{length, take, drop, get_or, replicate, Bool, true, false, cond, eqb, refl, sym, ap, ap₂, subst}
use Rattle.std.proofs.Common.{arith, length-append, length-drop}
use Rattle.std.proofs.lemmas.Bool.{cases_lt}
use Rattle.std.proofs.lemmas.List.{ext_get_or, get_or-drop, get_or-take, length-replicate}
use Rattle.std.proofs.lemmas.List.{append_assoc, drop-append-le, length-take-le, take-append-drop}
use Rattle.std.proofs.lemmas.List.{take-append-le}
use Rattle.std.specs.Int.{w64, to_be_bytes}
use Rattle.sha2.proofs.Facts256.{length-sha256}
use Rattle.base_terms.specs.Blocks.{pasted}
use Rattle.crash_laws.specs.HeaderAreas.Headers.{Header}
use Rattle.hotzone.specs.Headings.{IsSame}
use Rattle.hotzone.specs.Known.{header_by}
use Rattle.luks_bin.proofs.PieceLemmas.{AreWithin, field-before, field-elsewhere}
use Rattle.luks_bin.proofs.PieceLemmas.{drop-behind, field-nth, length-paste_all}
use Rattle.luks_bin.proofs.WriteLemmas.{agree-moved, back-moved, length-moved}
use Rattle.luks_bin.specs.Copies.{IsCopy, magic_of, sum_field, sum_of}
use Rattle.luks_bin.specs.Fields.{field}
use Rattle.luks_bin.specs.Shares.{Agree}
use Rattle.luks_bin.specs.Writing.{Piece, common, common_pieces, moved, own_pieces, paste_all, summed}
use Rattle.luks_bin.specs.Writing.{written}
use Rattle.luks_bin.specs.declared.header.BinHeader.{BinHeader}
use Rattle.luks_store.specs.Copying.Held.{primary_of, secondary_of}
use Rattle.luks_store.specs.Copying.Meanings.{meaning_of}
use Rattle.luks_meta.specs.declared.meta.Parts.{Parts}
use Rattle.luks_store.specs.Commits.{IsNext, IsNextStored, committed, text_for}
use Rattle.luks_store.specs.Loads.{IsStored}
use Rattle.luks_store.specs.declared.commit.Prepared.{Prepared}
use Rattle.luks_store.specs.declared.copies.Copies.{Copies}
use Rattle.luks_store.specs.declared.loaded.Stored.{Stored}
use Rattle.hotzone.proofs.ZoneEvents.TextLemmas.{stored-long}
use Rattle.hotzone.specs.ZoneEvents.Heads.{header_on}

-- ---- what stands where pieces were put, with the sum behind them
long-sum : (copy : List ℕ) → length (sum_field (sum_of copy)) ≡ 64
unfolding sum_field sum_of
long-sum copy =
    length-append (sum_of copy) (replicate 32 0) ∙ ap (λ n. n + 32) (length-sha256 _)

-- a field that isn't the sum's
field-summed : (at len : ℕ) (copy : List ℕ) → 512 ≤ length copy → at + len ≤ 448
    → field at len (summed copy) ≡ field at len copy
unfolding summed
field-summed at len copy long before =
    field-before copy at len 448 (sum_field (sum_of copy)) before
    (let sum = long-sum copy in omega (arith, long, sum))

either-long : (b : Bool) (xs ys : List ℕ) (n : ℕ) → length xs ≡ n → length ys ≡ n
    → length (cond b xs ys) ≡ n
either-long true xs ys n one two = one
either-long false xs ys n one two = two

magic-long : (place : ℕ) → length (magic_of place) ≡ 6
unfolding magic_of
magic-long place = either-long (eqb place 0) _ _ 6 refl refl

own-within : (place : ℕ) (salt copy : List ℕ) → length salt ≡ 64 → 4096 ≤ length copy
    → AreWithin (length copy) (own_pieces place salt)
own-within place salt copy of long =
    (magic-long place, omega (arith, long), (of, omega (arith, long), (refl, omega (arith, long), tt)))

module _ (place : ℕ) (salt copy : List ℕ) (of : length salt ≡ 64) (long : 4096 ≤ length copy) where
  kept-long : length (paste_all (own_pieces place salt) copy) ≡ length copy
  kept-long = length-paste_all (own_pieces place salt) copy (own-within place salt copy of long)

  magic-put : field 0 6 (moved place salt copy) ≡ magic_of place
  unfolding moved
  magic-put =
      field-summed 0 6 (paste_all (own_pieces place salt) copy)
      (omega (arith, long, kept-long)) (omega arith)
      ∙ field-nth 0 (own_pieces place salt) copy (omega arith) refl
      (own-within place salt copy of long)

  salt-put : field 104 64 (moved place salt copy) ≡ salt
  unfolding moved
  salt-put =
      field-summed 104 64 (paste_all (own_pieces place salt) copy)
      (omega (arith, long, kept-long)) (omega arith)
      ∙ field-nth 1 (own_pieces place salt) copy (omega arith) refl
      (own-within place salt copy of long)

  place-put : field 256 8 (moved place salt copy) ≡ to_be_bytes w64 place
  unfolding moved
  place-put =
      field-summed 256 8 (paste_all (own_pieces place salt) copy)
      (omega (arith, long, kept-long)) (omega arith)
      ∙ field-nth 2 (own_pieces place salt) copy (omega arith) refl
      (own-within place salt copy of long)

-- the number isn't one of a copy's own fields
pub number-kept : (place : ℕ) (salt copy : List ℕ) → length salt ≡ 64 → 4096 ≤ length copy
    → field 16 8 (moved place salt copy) ≡ field 16 8 copy
unfolding moved
number-kept place salt copy of long =
    let kept = kept-long place salt copy of long in
    field-summed 16 8 (paste_all (own_pieces place salt) copy) (omega (arith, long, kept))
    (omega arith)
    ∙ field-elsewhere 16 8 (own_pieces place salt) copy refl (own-within place salt copy of long)

-- ---- copies that were moved to one place with one salt, and share what copies share, are one
byte-of : (at len k : ℕ) (a b : List ℕ) → field at len a ≡ field at len b → at ≤ k → k < at + len
    → get_or a k 0 ≡ get_or b k 0
unfolding field
byte-of at len k a b same from below =
    let i = k - at in
    let one =
    λ (c : List ℕ). get_or-take len (drop at c) i 0 (omega (arith, from, below))
    ∙ get_or-drop at c i 0 in
    let here : at + i ≡ k = omega (arith, from) in
    subst (λ (m : ℕ). get_or a m 0 ≡ get_or b m 0) here
    (sym (one a) ∙ ap (λ c. get_or c i 0) same ∙ one b)

module _ (place : ℕ) (salt c d : List ℕ) (of : length salt ≡ 64) (long : 4096 ≤ length c)
    (even : length c ≡ length d) (agree : Agree c d) where
  d-long : 4096 ≤ length d
  d-long = omega (arith, long, even)

  both-agree : Agree (moved place salt c) (moved place salt d)
  unfolding Agree
  both-agree k shared =
      agree-moved place salt c of long k shared ∙ agree k shared
      ∙ sym (agree-moved place salt d of d-long k shared)

  byte-same : (k : ℕ) → k < 448
      → get_or (moved place salt c) k 0 ≡ get_or (moved place salt d) k 0
  unfolding Agree
  byte-same k below = elim (cases_lt k 6) [
    | inl magic ↦
        byte-of 0 6 k _ _ (magic-put place salt c of long ∙ sym (magic-put place salt d of d-long))
        (omega arith) (omega (arith, magic))
    | inr a ↦ elim (cases_lt k 104) [
      | inl first ↦ both-agree k (inl (a, first))
      | inr b ↦ elim (cases_lt k 168) [
        | inl is ↦
            byte-of 104 64 k _ _
            (salt-put place salt c of long ∙ sym (salt-put place salt d of d-long)) b
            (omega (arith, is))
        | inr e ↦ elim (cases_lt k 256) [
          | inl next ↦ both-agree k (inr (inl (e, next)))
          | inr f ↦ elim (cases_lt k 264) [
            | inl at ↦
                byte-of 256 8 k _ _
                (place-put place salt c of long ∙ sym (place-put place salt d of d-long)) f
                (omega (arith, at))
            | inr g ↦ both-agree k (inr (inr (inl (g, below))))
          ]
        ]
      ]
    ]
  ]

  fronts-same : take 448 (moved place salt c) ≡ take 448 (moved place salt d)
  fronts-same =
      let one = length-moved place salt c of long in
      let two = length-moved place salt d of d-long in
      let first = length-take-le 448 (moved place salt c) (omega (arith, one, long)) in
      let second = length-take-le 448 (moved place salt d) (omega (arith, two, d-long)) in
      ext_get_or 0 (take 448 (moved place salt c)) (take 448 (moved place salt d))
      (first ∙ sym second)
      (λ k below.
      let short : k < 448 = omega (arith, below, first) in
      get_or-take 448 (moved place salt c) k 0 short ∙ byte-same k short
      ∙ sym (get_or-take 448 (moved place salt d) k 0 short))

  backs-same : drop 512 (moved place salt c) ≡ drop 512 (moved place salt d)
  unfolding Agree
  backs-same =
      back-moved place salt c of long
      ∙ ext_get_or 0 (drop 512 c) (drop 512 d)
      (length-drop 512 c ∙ ap (λ n. n - 512) even ∙ sym (length-drop 512 d))
      (λ k below. get_or-drop 512 c k 0 ∙ agree (512 + k) (inr (inr (inr (omega arith))))
      ∙ sym (get_or-drop 512 d k 0))
      ∙ sym (back-moved place salt d of d-long)

  -- so before the sum was put
  front-put : (x : List ℕ) → 512 ≤ length x → take 448 (summed x) ≡ take 448 x
  unfolding summed field
  front-put x enough =
      field-before x 0 448 448 (sum_field (sum_of x)) (omega arith)
      (let sum = long-sum x in omega (arith, enough, sum))

  back-put : (x : List ℕ) → 512 ≤ length x → drop 512 (summed x) ≡ drop 512 x
  unfolding summed
  back-put x enough =
      let sum = long-sum x in
      drop-behind x 512 448 (sum_field (sum_of x)) (omega (arith, sum))
      (omega (arith, enough, sum))

  sums-same : (x y : List ℕ) → take 448 x ≡ take 448 y → drop 512 x ≡ drop 512 y
      → sum_of x ≡ sum_of y
  unfolding sum_of
  sums-same x y front back = rw (front, back) refl

  summed-same : (x y : List ℕ) → take 448 x ≡ take 448 y → drop 512 x ≡ drop 512 y
      → summed x ≡ summed y
  unfolding summed pasted
  summed-same x y front back =
      let sum = ap sum_field (sums-same x y front back) in
      let one : drop (448 + length (sum_field (sum_of x))) x ≡ drop 512 x =
      ap (λ n. drop (448 + n) x) (long-sum x) in
      let two : drop (448 + length (sum_field (sum_of y))) y ≡ drop 512 y =
      ap (λ n. drop (448 + n) y) (long-sum y) in
      ap₂ (λ a b. a ++ b) (ap₂ (λ a b. a ++ b) front sum) (one ∙ back ∙ sym two)

  pub moved-same : moved place salt c ≡ moved place salt d
  unfolding moved
  moved-same =
      let x = paste_all (own_pieces place salt) c in
      let y = paste_all (own_pieces place salt) d in
      let x_long : 512 ≤ length x =
      (let kept = kept-long place salt c of long in omega (arith, kept, long)) in
      let y_long : 512 ≤ length y =
      (let kept = kept-long place salt d of d-long in omega (arith, kept, d-long)) in
      summed-same x y
      (sym (front-put x x_long) ∙ fronts-same ∙ front-put y y_long)
      (sym (back-put x x_long) ∙ backs-same ∙ back-put y y_long)

-- ---- what is written for a header is long enough
text-long : (old text : List ℕ) → 4096 ≤ length old → 4096 ≤ length (pasted old 4096 text)
unfolding pasted
text-long old text long =
    let front = length-take-le 4096 old long in
    let all = length-append (take 4096 old ++ text) (drop (4096 + length text) old) in
    let most = length-append (take 4096 old) text in
    omega (arith, front, all, most)

-- a field in front of a text that was put
front-field : (at len : ℕ) (a b : List ℕ) → at + len ≤ length a
    → field at len (a ++ b) ≡ field at len a
unfolding field
front-field at len a b within =
    let k : at ≤ length a = omega (arith, within) in
    let l : len ≤ length (drop at a) = omega (arith, within, length-drop at a) in
    rw (drop-append-le at a b k, take-append-le len (drop at a) b l) refl

text-field : (old text : List ℕ) (at len : ℕ) → 4096 ≤ length old → at + len ≤ 4096
    → field at len (pasted old 4096 text) ≡ field at len old
unfolding pasted
text-field old text at len long before =
    let front = length-take-le 4096 old long in
    let within : at + len ≤ length (take 4096 old) = omega (arith, before, front) in
    ap (field at len) (append_assoc (take 4096 old) text (drop (4096 + length text) old))
    ∙ front-field at len (take 4096 old) (text ++ drop (4096 + length text) old) within
    ∙ sym (front-field at len (take 4096 old) (drop 4096 old) within)
    ∙ ap (field at len) (take-append-drop 4096 old)

module _ (h : BinHeader) (text : List ℕ) (label : length h.label ≡ 48)
    (uuid : length h.uuid ≡ 40) (subsystem : length h.subsystem ≡ 48)
    (least : 16384 ≤ h.hdr_size) where
  abbrev zeros : List ℕ
  zeros = replicate h.hdr_size 0

  abbrev fields : List Piece
  fields = take 7 (common_pieces h text)

  zeros-long : length zeros ≡ h.hdr_size
  zeros-long = length-replicate h.hdr_size 0

  fields-within : AreWithin (length zeros) fields
  fields-within =
      let size = zeros-long in (
        refl,
        omega (arith, size, least),
        (
          refl,
          omega (arith, size, least),
          (
            refl,
            omega (arith, size, least),
            (
              label,
              omega (arith, size, least),
              (
                refl,
                omega (arith, size, least),
                (
                  uuid,
                  omega (arith, size, least),
                  (subsystem, omega (arith, size, least), tt),
                ),
              ),
            ),
          ),
        ),
      )

  fields-long : 4096 ≤ length (paste_all fields zeros)
  fields-long =
      let long = length-paste_all fields zeros fields-within in
      let size = zeros-long in
      omega (arith, long, size, least)

  pub common-long : 4096 ≤ length (common h text)
  unfolding common
  common-long = text-long (paste_all fields zeros) text fields-long

  pub common-number : field 16 8 (common h text) ≡ to_be_bytes w64 h.seqid
  unfolding common
  common-number =
      text-field (paste_all fields zeros) text 16 8 fields-long (omega arith)
      ∙ field-nth 2 fields zeros (omega arith) refl fields-within

-- the fields of a copy have their lengths
pub field-long : (at len : ℕ) (copy : List ℕ) → at + len ≤ length copy
    → length (field at len copy) ≡ len
unfolding field
field-long at len copy there =
    length-take-le len (drop at copy) (omega (arith, length-drop at copy, there))

-- ---- the header behind a commit
module _ (before : Stored) (parts : Parts) (first : Prepared) (after : Stored)
    (stored : IsStored before) (next : IsNext before parts first)
    (then : IsNextStored first after) (salt : length before.copies.secondary.salt ≡ 64) where
  copies-are : after.copies ≡ committed first
  copies-are = then.copies

  whole : IsCopy (primary_of first.copies) first.header
  whole =
      subst (λ (c : Copies). IsCopy c.used.bytes c.used.header) copies-are
      then.stored.copies.whole

  enough : 16384 ≤ first.header.hdr_size
  enough =
      subst (λ n. 16384 ≤ n) (sym (ap (λ (h : BinHeader). h.hdr_size) next.header))
      (stored-long before stored)

  long : length (primary_of first.copies) ≡ first.header.hdr_size
  long = whole.whole

  label-long : length first.header.label ≡ 48
  label-long =
      ap length (sym whole.label)
      ∙ field-long 24 48 (primary_of first.copies) (omega (arith, enough, long))

  uuid-long : length first.header.uuid ≡ 40
  uuid-long =
      ap length (sym whole.uuid)
      ∙ field-long 168 40 (primary_of first.copies) (omega (arith, enough, long))

  subsystem-long : length first.header.subsystem ≡ 48
  subsystem-long =
      ap length (sym whole.subsystem)
      ∙ field-long 208 48 (primary_of first.copies) (omega (arith, enough, long))

  first-salt : length first.header.salt ≡ 64
  first-salt =
      ap length (sym whole.salt)
      ∙ field-long 104 64 (primary_of first.copies) (omega (arith, enough, long))

  second-salt : length first.second_salt ≡ 64
  second-salt = ap length next.second_salt ∙ salt

  abbrev text : List ℕ
  text = common first.header (text_for parts)

  text-enough : 4096 ≤ length text
  text-enough =
      common-long first.header (text_for parts) label-long uuid-long subsystem-long enough

  at-front : first.header.hdr_offset ≡ 0
  at-front = ap (λ (h : BinHeader). h.hdr_offset) next.header

  first-is : primary_of first.copies ≡ moved 0 first.header.salt text
  unfolding written
  first-is =
      next.bytes.first ∙ ap (λ n. moved n first.header.salt text) at-front

  second-is : secondary_of first.copies ≡ moved first.header.hdr_size first.second_salt text
  unfolding written common pasted
  second-is = next.bytes.second

  even : length (primary_of first.copies) ≡ length text
  even = ap length first-is ∙ length-moved 0 first.header.salt text first-salt text-enough

  agree : Agree (primary_of first.copies) text
  agree =
      subst (λ copy. Agree copy text) (sym first-is)
      (agree-moved 0 first.header.salt text first-salt text-enough)

  first-copy : moved 0 first.header.salt (primary_of first.copies) ≡ primary_of first.copies
  first-copy =
      moved-same 0 first.header.salt (primary_of first.copies) text first-salt
      (omega (arith, enough, long)) even agree
      ∙ sym first-is

  second-copy : moved first.header.hdr_size first.second_salt (primary_of first.copies)
      ≡ secondary_of first.copies
  second-copy =
      moved-same first.header.hdr_size first.second_salt (primary_of first.copies) text
      second-salt (omega (arith, enough, long)) even agree
      ∙ sym second-is

  -- it is the one that is loaded
  pub header-behind : (now : Prepared) → IsSame first now → header_on after ≡ header_by now
  header-behind now same =
      ap (λ (c : Copies). header_on (record after { copies = c })) copies-are
      ∙ ap₂ (λ a b. headed (primary_of first.copies) a b) first-copy second-copy
      ∙ ap₂ (λ a b. headed a a b) (sym same.primary) (sym same.secondary)
    where
      headed : List ℕ → List ℕ → List ℕ → Header (List ℕ)
      headed used a b = record { means = meaning_of used; first = a; second = b }
