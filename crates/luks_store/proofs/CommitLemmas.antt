-- Lemmas on commits of a header that was loaded.
use Rattle.std.proofs.Common.{◌≡◌, ℕ, ◌+◌, ◌*◌, ◌%◌, ◌≤◌, Bool, true, false, List, [], ◌++◌, length}
use Rattle.std.proofs.Common.{take, Some}
use Rattle.std.proofs.Common.{◌<◌, inl, None, Result, Ok, Err, IsOk, IfOk, is_ok, refl, sym, ◌∙◌}
use Rattle.std.proofs.Common.{ap, subst}
use Rattle.std.proofs.Common.{arith, length-append}
use Rattle.std.proofs.Math.Nat.{mul-le-mul_right}
use Rattle.std.proofs.lemmas.List.{append-nil, take_all, take_at, drop_at}
use Rattle.base_terms.specs.declared.disk_sizes.Sizes.{Sizes}
use Rattle.sector_disk.specs.JoinedDisks.Counts.{HasSizes}
use Rattle.luks_bin.specs.Copies.{copy_of, text_of, BeginsWithCopy, IsCopy}
use Rattle.luks_bin.specs.declared.header.BinHeader.{BinHeader}
use Rattle.crash_laws.specs.HeaderAreas.Headers.{secondary, IsHeader}
use Rattle.luks_store.specs.Copying.Meanings.{header_of, header_reader, meaning_at, meaning_of, seqid_in}
use Rattle.luks_store.specs.Copying.Meanings.{size_in}
use Rattle.luks_bin.specs.Writing.{IsWritable}
use Rattle.luks_store.specs.Copying.Held.{primary_of, secondary_of}
use Rattle.luks_store.specs.Copying.Steps.{FitDisk}
use Rattle.luks_store.specs.declared.header_copies.commit.CommitError.{CommitError}
use Rattle.luks_store.specs.declared.commit.Prepared.{Prepared}
use Rattle.luks_rules.specs.Areas.{header_bytes, main_bytes}
use Rattle.luks_store.proofs.CopyLemmas.{Spelt}
use Rattle.luks_store.proofs.GivenLemmas.{Newer, is_first, is_second, are_same, are_other}
use Rattle.luks_store.proofs.GivenLemmas.{copy-found, inside, newer, numbered-by, sized-by}
use Rattle.luks_json.specs.Metas.{meta_from}
use Rattle.luks_meta.specs.declared.meta.Parts.{Parts}
use Rattle.luks_rules.specs.Rules.{first_fault}
use Rattle.luks_store.proofs.JudgeLemmas.{judged-ok}
use Rattle.luks_store.proofs.PageLemmas.{page-atoms, page-place, size-pages}
use Rattle.luks_store.proofs.StoredLemmas.{is-valid}
use Rattle.luks_store.specs.Commits.{committed, text_for, CopiesFit, HoldsText}
use Rattle.luks_store.specs.Commits.{IsNext, IsNextStored, IsPrepared}
use Rattle.luks_store.specs.Devices.{header_room}
use Rattle.luks_store.specs.Found.{copy_at, copy_from, IsWholeAt}
use Rattle.luks_store.specs.Loads.{judged, stored_in, IsStored}
use Rattle.luks_store.specs.Used.{beside, copies_by, copies_in, kept, newer_of, AreCopies}
use Rattle.luks_store.specs.Used.{Refusal}
use Rattle.luks_store.specs.declared.copies.Copies.{Copies}
use Rattle.luks_store.specs.declared.copies.CopyState.TheVariants.{Good}
use Rattle.luks_store.specs.declared.copies.HeaderCopy.{HeaderCopy}
use Rattle.luks_store.specs.declared.loaded.Stored.{Stored}
use Rattle.sector_disk.specs.Devices.{Device}
use Rattle.sector_disk.specs.Geometry.{IsAtom}

-- a copy as it is written
pub whole-text : Spelt → (place : ℕ) (bytes : List ℕ) (h : BinHeader) → copy_of place bytes ≡ Ok h
    → length bytes ≡ h.hdr_size
    → IsWholeAt place (record { header = h; bytes = bytes })
whole-text spelt place bytes h is long =
    let begins = (spelt place bytes h).0 is in
    record {
      whole =
          subst (λ copy. IsCopy copy h) (take_all h.hdr_size bytes (omega (arith, long)))
          begins.copy;
      here = begins.here;
    }

-- it is found, whatever stands behind it
found-by : (bytes : List ℕ) (h : BinHeader) (place : ℕ) → copy_of place bytes ≡ Ok h
    → copy_from place bytes ≡ Ok (record { header = h; bytes = take h.hdr_size bytes })
unfolding copy_from
found-by bytes h place is = rw is refl

pub found-front : Spelt → (place : ℕ) (copy : HeaderCopy) (rest : List ℕ) → IsWholeAt place copy
    → copy_from place (copy.bytes ++ rest) ≡ Ok copy
found-front spelt place copy rest is =
    let size = is.whole.whole in
    let same : take copy.header.hdr_size (copy.bytes ++ rest) ≡ copy.bytes =
    take_at copy.bytes rest copy.header.hdr_size size in
    let begins : BeginsWithCopy place (copy.bytes ++ rest) copy.header = record {
      there = let long = length-append copy.bytes rest in omega (arith, long, size);
      here = is.here;
      copy = subst (λ bytes. IsCopy bytes copy.header) (sym same) is.whole;
    } in
    found-by (copy.bytes ++ rest) copy.header place
    ((spelt place (copy.bytes ++ rest) copy.header).1 begins)
    ∙ ap (λ bytes. Ok (record { header = copy.header; bytes = bytes })) same

-- ---- both copies of one header
found-whole : Spelt → (place : ℕ) (copy : HeaderCopy) → IsWholeAt place copy
    → copy_from place copy.bytes ≡ Ok copy
found-whole spelt place copy is =
    ap (copy_from place) (sym (append-nil copy.bytes)) ∙ found-front spelt place copy [] is

pub same-meaning : Spelt → (first second : HeaderCopy)
    → IsHeader header_reader (header_of first.bytes second.bytes)
    → size_in (meaning_of first.bytes) ≡ first.header.hdr_size
    → IsWholeAt first.header.hdr_size second
    → meaning_of first.bytes ≡ meaning_of second.bytes
same-meaning spelt first second valid size two =
    let found : meaning_at first.header.hdr_size second.bytes ≡ Some (meaning_of first.bytes) =
    ap (λ n. meaning_at n second.bytes) (sym size) ∙ valid.valid secondary in
    inside _ _
    (sym found
    ∙ copy-found first.header.hdr_size second.bytes second
    (found-whole spelt first.header.hdr_size second two))

equals : (first second : HeaderCopy) → first.header.seqid ≡ second.header.seqid
    → meaning_of first.bytes ≡ meaning_of second.bytes
    → Newer first second
    → newer_of first second
    ≡ Ok (record { used = first; primary = kept Good first; secondary = kept Good second })
equals first second number same (is_first less is) = absurd (omega (arith, less, number))
equals first second number same (is_second less is) = absurd (omega (arith, less, number))
equals first second number same (are_same equal one is) = is
equals first second number same (are_other equal other is) = absurd (other same)

used-both : (first second : HeaderCopy) (bytes : List ℕ) → copy_at 0 bytes ≡ Ok first
    → copy_at first.header.hdr_size bytes ≡ Ok second
    → copies_in bytes ≡ newer_of first second
unfolding copies_in
used-both first second bytes one two = ap (copies_by bytes) one ∙ ap (beside first) two

pub both-used : Spelt → (first second : HeaderCopy) (rest : List ℕ) → IsWholeAt 0 first
    → IsWholeAt first.header.hdr_size second
    → first.header.seqid ≡ second.header.seqid → meaning_of first.bytes ≡ meaning_of second.bytes
    → copies_in (first.bytes ++ (second.bytes ++ rest))
    ≡ Ok (record { used = first; primary = kept Good first; secondary = kept Good second })
both-used spelt first second rest one two number same =
    used-both first second (first.bytes ++ (second.bytes ++ rest))
    (found-front spelt 0 first (second.bytes ++ rest) one)
    (ap (copy_from first.header.hdr_size)
    (drop_at first.bytes (second.bytes ++ rest) first.header.hdr_size one.whole.whole)
    ∙ found-front spelt first.header.hdr_size second rest two)
    ∙ equals first second number same (newer first second)

pub stored-by : (sizes : Sizes) (bytes : List ℕ) (copies : Copies) (stored : Stored)
    → copies_in bytes ≡ Ok copies
    → judged sizes copies ≡ Ok stored → stored_in sizes bytes ≡ Ok stored
unfolding stored_in
stored-by sizes bytes copies stored used is = rw used is

-- ---- both copies lie on the disk
room-by : (sizes : Sizes) (b : Bool) (most : ℕ) → sizes.detached ≡ b → header_bytes sizes ≤ most
    → main_bytes sizes ≤ most → header_room sizes ≤ most
room-by sizes true most is header main = rw is header
room-by sizes false most is header main = rw is main

pub fits-disk : (sizes : Sizes) (device : Device) (size : ℕ) (first second : List ℕ)
    → HasSizes sizes device → IsAtom device.size
    → size % 4096 ≡ 0 → length first ≡ size → length second ≡ size
    → 2 * size ≤ header_room sizes
    → FitDisk first second size device
fits-disk sizes device size first second has known page one two room =
    let header : header_bytes sizes ≤ device.atoms * device.size =
    rw has.atom (mul-le-mul_right device.size has.header) in
    let main : main_bytes sizes ≤ device.atoms * device.size =
    rw has.atom (mul-le-mul_right device.size has.main) in
    let all = room-by sizes sizes.detached (device.atoms * device.size) refl header main in
    let at = page-place device.size size known page in
    record {
      first = record {
        whole =
            ap (λ n. n % device.size) one ∙ page-atoms device.size size known page;
        within = omega (arith, all, room, one);
      };
      second =
          record {
            whole =
                ap (λ n. n % device.size) two ∙ page-atoms device.size size known page;
            within = omega (arith, all, room, two, at);
          };
    }

pub copies-fit : (p : Prepared) → IsPrepared p → CopiesFit p
copies-fit p is device has known =
    fits-disk p.sizes device p.header.hdr_size (primary_of p.copies) (secondary_of p.copies) has
    known (size-pages p.header.hdr_size is.first.whole.one_of_nine) is.first.whole.whole
    is.second.whole.whole is.room

-- ---- what is loaded once both copies stand there
stored-from : Spelt → (p : Prepared) (r : Result Stored Refusal) → IsPrepared p
    → judged p.sizes (committed p) ≡ r → IsOk r → (next : Stored) × IsNextStored p next
stored-from spelt p (Ok next) is same held =
    let valid = is-valid p.sizes (committed p) next same in
    let copies = valid.same_copies in
    let sizes = valid.same_sizes in (
      next,
      record {
        copies = sym copies;
        sizes = sym sizes;
        stored = record {
          copies = subst AreCopies copies
              (record { whole = is.first.whole; stands = inl (refl, is.first.here) });
          atom = subst (λ (s : Sizes). 0 < s.atom) sizes is.atom;
          held = subst (λ (s : Sizes). judged s next.copies ≡ Ok next) sizes
              (subst (λ (c : Copies). judged p.sizes c ≡ Ok next) copies same);
        };
        loads = λ rest. stored-by p.sizes _ (committed p) next
            (both-used spelt _ _ rest is.first is.second refl is.same) same;
      },
    )
stored-from spelt p (Err refusal) is same held = let e : false ≡ true = held in absurd cc

pub next-stored : Spelt → (p : Prepared) → IsPrepared p
    → (next : Stored) × IsNextStored p next
next-stored spelt p is = stored-from spelt p (judged p.sizes (committed p)) is refl is.held

-- the metadata whose text was written are held by what is written
pub is-held : (sizes : Sizes) (copies : Copies) (meta : Parts) (text : List ℕ)
    → meta.config.json_size + 4096 ≡ copies.used.header.hdr_size
    → text_of copies.used.bytes ≡ text → meta_from (meta.config.json_size + 4096) text ≡ Ok meta
    → first_fault meta sizes ≡ None
    → IsOk (judged sizes copies)
is-held sizes copies meta text size is back none =
    ap is_ok (judged-ok sizes copies meta
    (ap (λ n. meta_from n (text_of copies.used.bytes)) (sym size)
    ∙ ap (meta_from (meta.config.json_size + 4096)) is ∙ back) none)

-- ---- the commit that follows a header
pub writable : (bytes : List ℕ) (h : BinHeader) → IsCopy bytes h → IsWritable h
writable bytes h is = record {
  one_of_nine = is.one_of_nine;
  place = is.place;
  label_ends = is.label_ends;
  uuid_ends = is.uuid_ends;
  subsystem_ends = is.subsystem_ends;
}

pub next-of : (stored : Stored) (meta : Parts) (h : BinHeader) (one two : List ℕ) (sizes : Sizes)
    (r : Result Prepared CommitError)
    → IsStored stored → h ≡ stored.copies.used.header → one ≡ stored.copies.primary.salt
    → two ≡ stored.copies.secondary.salt
    → sizes ≡ stored.valid.sizes
    → IfOk r (λ p. p.header ≡ record h { seqid = h.seqid + 1; salt = one; hdr_offset = 0 })
    → IfOk r (λ p. p.second_salt ≡ two) → IfOk r (λ p. p.sizes ≡ sizes)
    → IfOk r (HoldsText (text_for meta))
    → IfOk r (λ p. meta_from h.hdr_size (text_of (primary_of p.copies)) ≡ Ok meta)
    → IfOk r (λ p. IsHeader header_reader (header_of (primary_of p.copies) (secondary_of p.copies)))
    → IfOk r (λ p. seqid_in (meaning_of (primary_of p.copies)) ≡ h.seqid + 1)
    → IfOk r (λ p. size_in (meaning_of (primary_of p.copies)) ≡ h.hdr_size)
    → IfOk r (λ p. IsNext stored meta p)
next-of stored meta h one two sizes (Err error) is same first second judged header salt sized bytes
    text whole number size = tt
next-of stored meta h one two sizes (Ok p) is same first second judged header salt sized bytes text
    whole number size =
    let used = stored.copies.used in
    let own : IsWholeAt used.header.hdr_offset used =
    record { whole = is.copies.whole; here = refl } in
    let a = numbered-by used.header.hdr_offset used own in
    let b = ap (λ (x : BinHeader). x.seqid) same in
    record {
      header =
          header ∙ ap
          (λ (x : BinHeader). record x { seqid = x.seqid + 1; salt = one; hdr_offset = 0 }) same
          ∙ ap (λ s. record used.header { seqid = used.header.seqid + 1; salt = s; hdr_offset = 0 })
          first;
      second_salt = salt ∙ second;
      sizes = sized ∙ judged;
      bytes = bytes;
      meta = ap (λ n. meta_from n (text_of (primary_of p.copies)))
          (ap (λ (x : BinHeader). x.hdr_size) header) ∙ text;
      whole = whole;
      follows = (
        omega (arith, a, b, number),
        size ∙ ap (λ (x : BinHeader). x.hdr_size) same
            ∙ sym (sized-by used.header.hdr_offset used own),
      );
    }
