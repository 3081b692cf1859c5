-- Lemmas on the texts that were handed to the copies' places: they mean the header, or an older
-- one.
use Rattle.std.proofs.Common.{◌≡◌, ℕ, ◌<◌, ◌⊎◌, inl, inr, List, [], ◌∷◌, ◌++◌, take, drop, Some}
use Rattle.std.proofs.Common.{None, Option, refl, sym, ◌∙◌, ap, subst, arith}
use Rattle.std.specs.Prelude.{Contains}
use Rattle.std.proofs.lemmas.List.Elements.{Contains-push_cases}
use Rattle.crash_laws.specs.HeaderAreas.Commits.{Stage, begun, first_written, first_kept, second_written}
use Rattle.crash_laws.specs.HeaderAreas.Commits.{Follows, IsOlder, WasHanded, IsDated, HasPast, next_stage}
use Rattle.crash_laws.specs.HeaderAreas.Commits.{failed_stage, first_of, second_of, handed_by, handed_by_repair}
use Rattle.crash_laws.specs.HeaderAreas.Headers.{Copy, primary, secondary, Reader, IsReader, found, Gives}
use Rattle.crash_laws.specs.HeaderAreas.Headers.{byte_of, Header, text_of, IsHeader, Handed, copy_at, handed_at}
use Rattle.crash_laws.proofs.HeaderAreas.HeadersGiven.{some_one, some_none}
use Rattle.sector_disk.proofs.DiskViews.TableEntries.{none_contained}

-- what a text handed to a copy's place may mean
abbrev Said : {M : Type 0} → Reader M → M → M → Stage → Copy → M → Type 0
Said reader from to stage copy m =
    (m ≡ from) ⊎ (IsOlder reader from m ⊎ (WasHanded copy stage × (m ≡ to)))

one_more : (texts : List (List ℕ)) (last text : List ℕ) (P : Type 0) → (Contains texts text → P)
    → (text ≡ last → P)
    → Contains (texts ++ last ∷ []) text → P
one_more texts last text P before same has = elim (Contains-push_cases texts last text has) [
  | inl held ↦ before held
  | inr is ↦ same (sym is)
]

-- a turn that comes, and one that can't have come
with_turn : {M : Type 0} (reader : Reader M) (from to m : M) (stage next : Stage) (copy : Copy)
    → (WasHanded copy stage → WasHanded copy next) → Said reader from to stage copy m
    → Said reader from to next copy m
with_turn reader from to m stage next copy turn (inl same) = inl same
with_turn reader from to m stage next copy turn (inr (inl older)) = inr (inl older)
with_turn reader from to m stage next copy turn (inr (inr it)) = inr (inr (turn it.0, it.1))

-- what the next header's text means
next_means : {M : Type 0} (reader : Reader M) (from to : Header M) (copy : Copy) (text : List ℕ)
    (m : M) → IsHeader reader to
    → Follows reader from.means to.means → text ≡ text_of to copy
    → reader.decode (byte_of (reader.size from.means) copy) text ≡ Some m → m ≡ to.means
next_means reader from to copy text m of_to follows same valid =
    some_one _ m to.means valid (ap (reader.decode (byte_of (reader.size from.means) copy)) same
    ∙ subst (λ size. reader.decode (byte_of size copy) (text_of to copy) ≡ Some to.means) follows.1
    (of_to.valid copy))

-- once the commit is done the next header is the one that counts
after_commit : {M : Type 0} (reader : Reader M) (from to after m : M) (copy : Copy)
    → Follows reader from to
    → Said reader from to second_written copy m → Said reader to after begun copy m
after_commit reader from to after m copy follows (inl same) =
    inr (inl (rw same (follows.0, sym follows.1)))
after_commit reader from to after m copy follows (inr (inl older)) =
    inr (inl (
      let less = older.0 in let more =
          follows.0 in omega (arith, less, more),
      older.1 ∙ sym follows.1,
    ))
after_commit reader from to after m copy follows (inr (inr it)) = inl it.1

pub dated_step : {M : Type 0} (reader : Reader M) (from to after : Header M) (stage : Stage)
    (handed : Handed) → IsHeader reader to
    → Follows reader from.means to.means → IsDated reader from to stage handed
    → IsDated reader (first_of stage from to) (second_of stage to after) (next_stage stage)
    (handed_by stage to handed)
dated_step {M} reader from to after begun handed of_to follows dated =
    record { later = follows; each = each }
  where
    each : (copy : Copy) (text : List ℕ) (m : M) → Contains (handed_by begun to handed copy) text
        → reader.decode (byte_of (reader.size from.means) copy) text ≡ Some m
        → Said reader from.means to.means first_written copy m
    each primary text m has valid = one_more (handed primary) (text_of to primary) text _
        (λ before. with_turn reader from.means to.means m begun first_written primary
        (λ never. absurd never) (dated.each primary text m before valid))
        (λ same. inr (inr (tt, next_means reader from to primary text m of_to follows same valid)))
        has
    each secondary text m has valid =
        with_turn reader from.means to.means m begun first_written secondary (λ never. never)
        (dated.each secondary text m has valid)
dated_step {M} reader from to after first_written handed of_to follows dated =
    record { later = follows; each = each }
  where
    each : (copy : Copy) (text : List ℕ) (m : M) → Contains (handed copy) text
        → reader.decode (byte_of (reader.size from.means) copy) text ≡ Some m
        → Said reader from.means to.means first_kept copy m
    each primary text m has valid = dated.each primary text m has valid
    each secondary text m has valid = dated.each secondary text m has valid
dated_step {M} reader from to after first_kept handed of_to follows dated =
    record { later = follows; each = each }
  where
    each : (copy : Copy) (text : List ℕ) (m : M)
        → Contains (handed_by first_kept to handed copy) text
        → reader.decode (byte_of (reader.size from.means) copy) text ≡ Some m
        → Said reader from.means to.means second_written copy m
    each primary text m has valid = dated.each primary text m has valid
    each secondary text m has valid = one_more (handed secondary) (text_of to secondary) text _
        (λ before. with_turn reader from.means to.means m first_kept second_written secondary
        (λ never. absurd never) (dated.each secondary text m before valid))
        (λ same. inr
        (inr (tt, next_means reader from to secondary text m of_to follows same valid))) has
dated_step {M} reader from to after second_written handed of_to follows dated =
    record { later = tt; each = each }
  where
    each : (copy : Copy) (text : List ℕ) (m : M) → Contains (handed copy) text
        → reader.decode (byte_of (reader.size to.means) copy) text ≡ Some m
        → Said reader to.means after.means begun copy m
    each copy text m has valid = after_commit reader from.means to.means after.means m copy follows
        (dated.each copy text m has
        (subst (λ size. reader.decode (byte_of size copy) text ≡ Some m) follows.1 valid))

-- a call that failed handed its text too
pub dated_failed : {M : Type 0} (reader : Reader M) (from to : Header M) (stage : Stage)
    (handed : Handed) → IsHeader reader to
    → Follows reader from.means to.means → IsDated reader from to stage handed
    → IsDated reader from to (failed_stage stage) (handed_by stage to handed)
dated_failed reader from to begun handed of_to follows dated =
    dated_step reader from to to begun handed of_to follows dated
dated_failed reader from to first_written handed of_to follows dated = dated
dated_failed reader from to first_kept handed of_to follows dated =
    dated_step reader from to to first_kept handed of_to follows dated
dated_failed reader from to second_written handed of_to follows dated = dated

-- the copy that stood at a place at opening
held_copy : {M : Type 0} (reader : Reader M) (bytes text : List ℕ) (place : ℕ) (m : M)
    → IsReader reader
    → (o : Option M) → found reader bytes place ≡ o → Contains (copy_at reader bytes place o) text
    → reader.decode place text ≡ Some m → found reader bytes place ≡ Some m
unfolding copy_at
held_copy reader bytes text place m is_reader None is has valid = none_contained _ text has
held_copy reader bytes text place m is_reader (Some g) is has valid =
    elim (Contains-push_cases [] (take (reader.size g) (drop place bytes)) text has) [
      | inl none ↦ none_contained _ text none
      | inr same ↦
          is ∙ ap (λ x. Some x)
          (some_one _ g m (is_reader.own place (drop place bytes) g is)
          (ap (reader.decode place) same ∙ valid))
    ]

-- the copy behind the one at 0 stands at its own size
same_size : {M : Type 0} (reader : Reader M) (bytes : List ℕ) (one m : M) → IsReader reader
    → found reader bytes 0 ≡ Some one
    → found reader bytes (reader.size one) ≡ Some m → reader.seq one < reader.seq m
    → reader.size one ≡ reader.size m
same_size reader bytes one m is_reader is it later =
    elim (is_reader.here (reader.size one) (drop (reader.size one) bytes) m it) [
      | inl none ↦
          let same : one ≡ m = some_one _ one m is (ap (found reader bytes) (sym none) ∙ it) in
          absurd (let l : reader.seq m < reader.seq m =
          subst (λ x. reader.seq x < reader.seq m) same later in omega (arith, l))
      | inr size ↦ size
    ]

-- the copy behind the one that counts is it, or it has its size
second_size : {M : Type 0} (reader : Reader M) (bytes : List ℕ) (h m : M) → IsReader reader
    → found reader bytes 0 ≡ Some h
    → found reader bytes (reader.size h) ≡ Some m → (m ≡ h) ⊎ (reader.size m ≡ reader.size h)
second_size reader bytes h m is_reader is it =
    elim (is_reader.here (reader.size h) (drop (reader.size h) bytes) m it) [
      | inl none ↦ inl (some_one _ m h (ap (found reader bytes) (sym none) ∙ it) is)
      | inr size ↦ inr (sym size)
    ]

opening_says : {M : Type 0} (reader : Reader M) (bytes : List ℕ) (h m : M) (copy : Copy)
    → IsReader reader → Gives reader bytes h
    → found reader bytes (byte_of (reader.size h) copy) ≡ Some m → (m ≡ h) ⊎ IsOlder reader h m
opening_says reader bytes h m primary is_reader (inl (is, newer)) valid =
    inl (some_one _ m h valid is)
opening_says reader bytes h m primary is_reader (inr (inl (one, is, it, later))) valid =
    let same : m ≡ one = some_one _ m one valid is in
    inr (rw same (later, same_size reader bytes one h is_reader is it later))
opening_says reader bytes h m primary is_reader (inr (inr (none, it, below))) valid =
    absurd (some_none _ m valid none)
opening_says reader bytes h m secondary is_reader (inl (is, newer)) valid = elim (newer m valid) [
  | inl same ↦ inl same
  | inr less ↦
      elim (second_size reader bytes h m is_reader is valid)
      [ inl same ↦ inl same | inr size ↦ inr (less, size) ]
]
opening_says reader bytes h m secondary is_reader (inr (inl (one, is, it, later))) valid =
    inl (some_one _ m h
    (ap (found reader bytes) (same_size reader bytes one h is_reader is it later) ∙ valid) it)
opening_says reader bytes h m secondary is_reader (inr (inr (none, it, below))) valid =
    inl (some_one _ m h valid it)

at_begin : {M : Type 0} (reader : Reader M) (h to m : M) (copy : Copy)
    → (m ≡ h) ⊎ IsOlder reader h m → Said reader h to begun copy m
at_begin reader h to m copy (inl same) = inl same
at_begin reader h to m copy (inr older) = inr (inl older)

pub opening_dated : {M : Type 0} (reader : Reader M) (bytes : List ℕ) (header to : Header M)
    → IsReader reader
    → Gives reader bytes header.means
    → IsDated reader header to begun (handed_at reader bytes (reader.size header.means))
opening_dated reader bytes header to is_reader gives = record {
  later = tt;
  each = λ copy text m has valid. at_begin reader header.means to.means m copy
      (opening_says reader bytes header.means m copy is_reader gives
      (held_copy reader bytes text (byte_of (reader.size header.means) copy) m is_reader _ refl has
      valid));
}

-- ---- a repair
pub opening_past : {M : Type 0} (reader : Reader M) (bytes : List ℕ) (header : Header M)
    → IsReader reader
    → Gives reader bytes header.means
    → HasPast reader header (handed_at reader bytes (reader.size header.means))
opening_past reader bytes header is_reader gives = λ copy text m has valid.
    opening_says reader bytes header.means m copy is_reader gives
    (held_copy reader bytes text (byte_of (reader.size header.means) copy) m is_reader _ refl has
    valid)

-- the header's own text
own_means : {M : Type 0} (reader : Reader M) (header : Header M) (copy : Copy) (text : List ℕ)
    (m : M) → IsHeader reader header
    → text ≡ text_of header copy
    → reader.decode (byte_of (reader.size header.means) copy) text ≡ Some m → m ≡ header.means
own_means reader header copy text m of_header same valid =
    some_one _ m header.means valid
    (ap (reader.decode (byte_of (reader.size header.means) copy)) same ∙ of_header.valid copy)

pub repaired_past : {M : Type 0} (reader : Reader M) (header : Header M) (bad : Copy)
    (handed : Handed) → IsHeader reader header
    → HasPast reader header handed → HasPast reader header (handed_by_repair bad header handed)
repaired_past reader header primary handed of_header past primary text m has valid =
    one_more (handed primary) (text_of header primary) text _
    (λ before. past primary text m before valid)
    (λ same. inl (own_means reader header primary text m of_header same valid)) has
repaired_past reader header primary handed of_header past secondary text m has valid =
    past secondary text m has valid
repaired_past reader header secondary handed of_header past primary text m has valid =
    past primary text m has valid
repaired_past reader header secondary handed of_header past secondary text m has valid =
    one_more (handed secondary) (text_of header secondary) text _
    (λ before. past secondary text m before valid)
    (λ same. inl (own_means reader header secondary text m of_header same valid)) has

pub past_dated : {M : Type 0} (reader : Reader M) (header to : Header M) (handed : Handed)
    → HasPast reader header handed
    → IsDated reader header to begun handed
past_dated reader header to handed past = record {
  later = tt;
  each = λ copy text m has valid. at_begin reader header.means to.means m copy
      (past copy text m has valid);
}
