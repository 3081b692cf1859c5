-- Behind the write of a repair both copies of the header stand, and nothing else was changed.
use Rattle.std.proofs.Common.{◌≡◌, ◌≢◌, inl, inr, ℕ, ◌+◌, ◌*◌, ◌≤◌, List, ◌++◌, length, take, drop}
use Rattle.std.proofs.Common.{Some, Ok, append_assoc, length-append, refl, sym, ◌∙◌, ap, subst}
use Rattle.std.proofs.Common.{arith}
use Rattle.std.proofs.lemmas.List.{drop_at, length-take-le, take-append-drop, take-append-le}
use Rattle.std.proofs.lemmas.List.{take-take, take_at}
use Rattle.base_terms.specs.Blocks.{pasted}
use Rattle.crash_laws.specs.HeaderAreas.Headers.{Copy, Gives, Header, IsHeader, IsReader, byte_of, found}
use Rattle.crash_laws.specs.HeaderAreas.Headers.{primary, secondary, text_of}
use Rattle.base_terms.specs.declared.disk_sizes.Sizes.{Sizes}
use Rattle.luks_store.specs.Copying.Held.{copy_in, place_in}
use Rattle.luks_store.specs.Copying.Meanings.{header_of, header_reader, meaning_of}
use Rattle.luks_store.specs.Copying.Promises.{MeanTheSame}
use Rattle.luks_store.specs.declared.header_copies.repair.Repair.{Repair}
use Rattle.luks_rules.specs.Areas.{areas_begin, header_bytes}
use Rattle.luks_store.proofs.CopyLemmas.{front-part}
use Rattle.luks_store.proofs.LoadLemmas.{copies-stored}
use Rattle.luks_store.proofs.RepairLemmas.{used-behind, used-front}
use Rattle.luks_store.specs.Commits.{AreGood, IsRepairOf, Repairs}
use Rattle.luks_store.specs.Devices.{front_of}
use Rattle.luks_store.specs.Loads.{IsStored, stored_in}
use Rattle.luks_store.specs.Promises.{BothAreGood, GivenIsUsed, LoadsByMeaning, UsedStands}
use Rattle.luks_store.specs.Used.{copies_in}
use Rattle.luks_store.specs.declared.copies.Copies.{Copies}
use Rattle.luks_store.specs.declared.copies.CopyState.TheVariants.{Good}
use Rattle.luks_store.specs.declared.loaded.Stored.{Stored}
use Rattle.reenc_recovery.specs.Images.{HoldsOn}
use Rattle.reenc_recovery.proofs.FrameLemmas.{same_from}
use Rattle.reenc_recovery.proofs.StandingLemmas.{used_stands}

-- ---- bytes put in place of others
put_here : (old text : List ℕ) (at : ℕ) → at + length text ≤ length old
    → take (length text) (drop at (pasted old at text)) ≡ text
unfolding pasted
put_here old text at within =
    let rest = drop (at + length text) old in
    let front = length-take-le at old (omega (arith, within)) in
    ap (λ all. take (length text) (drop at all)) (append_assoc (take at old) text rest)
    ∙ ap (λ all. take (length text) all) (drop_at (take at old) (text ++ rest) at front)
    ∙ take_at text rest (length text) refl

kept_before : (old text : List ℕ) (at n : ℕ) → n ≤ at → at + length text ≤ length old
    → take n (pasted old at text) ≡ take n old
unfolding pasted
kept_before old text at n before within =
    let rest = drop (at + length text) old in
    let front = length-take-le at old (omega (arith, within)) in
    ap (λ all. take n all) (append_assoc (take at old) text rest)
    ∙ take-append-le n (take at old) (text ++ rest) (omega (arith, front, before))
    ∙ take-take n at old before

kept_behind : (old text : List ℕ) (at : ℕ) → at + length text ≤ length old
    → drop (at + length text) (pasted old at text) ≡ drop (at + length text) old
unfolding pasted
kept_behind old text at within =
    let front = length-take-le at old (omega (arith, within)) in
    drop_at (take at old ++ text) (drop (at + length text) old) (at + length text)
    (length-append (take at old) text ∙ ap (λ n. n + length text) front)

-- ---- where both copies stand whole, the bytes have their header
found_here : (place n : ℕ) (bytes text m : List ℕ) → IsReader header_reader
    → take n (drop place bytes) ≡ text → header_reader.decode place text ≡ Some m
    → found header_reader bytes place ≡ Some m
found_here place n bytes text m is_reader stands valid =
    subst (λ (xs : List ℕ). header_reader.decode place xs ≡ Some m)
    (take-append-drop n (drop place bytes))
    (is_reader.behind place (take n (drop place bytes)) (drop n (drop place bytes)) m
    (subst (λ (xs : List ℕ). header_reader.decode place xs ≡ Some m) (sym stands) valid))

each_copy : (P : Copy → Type 0) → P primary → P secondary → (copy : Copy) → P copy
each_copy P one two primary = one
each_copy P one two secondary = two

-- copies of one header stand at both places
abbrev StandTwice : List ℕ → List ℕ → Type 0
StandTwice bytes m =
    (found header_reader bytes 0 ≡ Some m)
    × (found header_reader bytes (header_reader.size m) ≡ Some m)

both_stand : (size : ℕ) (header : Header (List ℕ)) (bytes : List ℕ) → IsReader header_reader
    → IsHeader header_reader header → header_reader.size header.means ≡ size
    → ((copy : Copy) → take size (drop (byte_of size copy) bytes) ≡ text_of header copy)
    → StandTwice bytes header.means
both_stand size header bytes is_reader whole sized stand =
    let same = sized in (
      found_here 0 size bytes header.first header.means is_reader (stand primary)
          (whole.valid primary),
      subst (λ (n : ℕ). found header_reader bytes n ≡ Some header.means) (sym same)
          (found_here size size bytes header.second header.means is_reader (stand secondary)
          (subst (λ (n : ℕ). header_reader.decode n header.second ≡ Some header.means) same
          (whole.valid secondary))),
    )

both_give : (bytes m : List ℕ) → StandTwice bytes m → Gives header_reader bytes m
both_give bytes m (one, two) =
    inl (
      one,
      λ other has. inl (let e : Some other ≡ Some m = sym has ∙ two in cc),
    )

-- the one image holds on, and both copies of the header in it are good and mean the same as before
pub record HoldsGood (sizes : Sizes) (header : Stored) (first now : List ℕ) : Type 0 where
  pub holds : HoldsOn sizes header first now
  pub good : AreGood holds.stored.copies
  pub means : meaning_of holds.stored.copies.used.bytes ≡ meaning_of header.copies.used.bytes

-- the copy that is used of bytes that give a header means it
used_means : GivenIsUsed → (bytes m : List ℕ) (copies : Copies) → copies_in bytes ≡ Ok copies
    → Gives header_reader bytes m → meaning_of copies.used.bytes ≡ m
used_means given bytes m copies is gives =
    let has = given bytes m gives in
    let same : copies ≡ has.0 = (let e : Ok copies ≡ Ok has.0 = sym is ∙ has.1 in cc) in
    ap (λ (c : Copies). meaning_of c.used.bytes) same ∙ has.2

-- ---- behind the write
module _ (is_reader : IsReader header_reader) (mean : MeanTheSame) (stands : UsedStands)
    (both : BothAreGood) (given : GivenIsUsed) (loads : LoadsByMeaning) (sizes : Sizes)
    (header : Stored) (repair : Repair) (all : List ℕ)
    (stored : IsStored header) (sizes_are : header.valid.sizes ≡ sizes)
    (begin : areas_begin header.valid.meta.config ≡ 2 * header.copies.used.header.hdr_size)
    (room : 2 * header.copies.used.header.hdr_size ≤ header_bytes sizes)
    (long : header_bytes sizes ≤ length all)
    (held : stored_in sizes (front_of sizes all) ≡ Ok header) where
  abbrev size : ℕ
  size = header.copies.used.header.hdr_size

  abbrev now : ℕ → List ℕ
  now place = pasted all place (copy_in repair)

  -- the bytes of a copy's place, of both disks or of the header's alone
  in_front : (place : ℕ) (bytes text : List ℕ) → place + size ≤ header_bytes sizes
      → take size (drop place bytes) ≡ text → take size (drop place (front_of sizes bytes)) ≡ text
  in_front place bytes text within is =
      front-part (header_bytes sizes) place size bytes within ∙ is

  holds_now : (place : ℕ) → place ≤ size → length (copy_in repair) ≡ size
      → StandTwice (front_of sizes (now place)) (meaning_of header.copies.used.bytes)
      → HoldsGood sizes header all (now place)
  holds_now place below copy_size twice =
      let front = front_of sizes (now place) in
      let means = meaning_of header.copies.used.bytes in
      let found = loads front header stored (both_give front means twice) in
      let end : place + length (copy_in repair) ≤ length all =
      omega (arith, below, copy_size, room, long) in
      record {
        holds = record {
          was = held;
          stored = found.0;
          held = subst (λ (s : Sizes). stored_in s front ≡ Ok found.0) sizes_are found.1;
          same = found.2;
          behind = subst (λ (n : ℕ). drop n (now place) ≡ drop n all) (sym begin)
              (same_from (place + length (copy_in repair)) (2 * size) (now place) all
              (omega (arith, below, copy_size)) (kept_behind all (copy_in repair) place end));
        };
        good = both front means found.0.copies
            (copies-stored header.valid.sizes front found.0 found.1) twice.0 twice.1;
        means = used_means given front means found.0.copies
            (copies-stored header.valid.sizes front found.0 found.1) (both_give front means twice);
      }

  by_primary : IsRepairOf header.copies 0 header.copies.primary.salt
      (header_of (copy_in repair) header.copies.used.bytes) repair
      → header.copies.primary.state ≢ Good → HoldsGood sizes header all (now 0)
  by_primary is bad =
      let copy_size = is.size in
      let end : 0 + length (copy_in repair) ≤ length all = omega (arith, copy_size, room, long) in
      let here : take size (drop 0 (now 0)) ≡ copy_in repair =
      ap (λ n. take n (drop 0 (now 0))) (sym copy_size) ∙ put_here all (copy_in repair) 0 end in
      let offset = used-behind header.copies stored.copies bad in
      let other : take size (drop size (now 0)) ≡ header.copies.used.bytes =
      ap (λ bytes. take size bytes)
      (subst (λ (n : ℕ). drop n (now 0) ≡ drop n all)
      (let e : 0 + length (copy_in repair) ≡ size = omega (arith, copy_size) in e)
      (kept_behind all (copy_in repair) 0 end))
      ∙ used_stands stands sizes header all held size offset (omega (arith, room)) in
      let used_size = stored.copies.whole.whole in
      let means = (mean (copy_in repair) header.copies.used.bytes
      (omega (arith, copy_size, begin)) (copy_size ∙ sym used_size)).1 is.shared in
      holds_now 0 (omega arith) copy_size
      (subst (λ (m : List ℕ). StandTwice (front_of sizes (now 0)) m) means
      (both_stand size (header_of (copy_in repair) header.copies.used.bytes)
      (front_of sizes (now 0)) is_reader is.whole (sym (is.whole.size primary) ∙ copy_size)
      (each_copy (λ copy. take size (drop (byte_of size copy) (front_of sizes (now 0)))
      ≡ text_of (header_of (copy_in repair) header.copies.used.bytes) copy)
      (in_front 0 (now 0) (copy_in repair) (omega (arith, room)) here)
      (in_front size (now 0) header.copies.used.bytes (omega (arith, room)) other))))

  by_secondary : IsRepairOf header.copies size header.copies.secondary.salt
      (header_of header.copies.used.bytes (copy_in repair)) repair
      → header.copies.primary.state ≡ Good → HoldsGood sizes header all (now size)
  by_secondary is good =
      let copy_size = is.size in
      let end : size + length (copy_in repair) ≤ length all =
      omega (arith, copy_size, room, long) in
      let here : take size (drop size (now size)) ≡ copy_in repair =
      ap (λ n. take n (drop size (now size))) (sym copy_size)
      ∙ put_here all (copy_in repair) size end in
      let offset = used-front header.copies stored.copies good in
      let other : take size (drop 0 (now size)) ≡ header.copies.used.bytes =
      kept_before all (copy_in repair) size size (omega arith) end
      ∙ used_stands stands sizes header all held 0 offset (omega (arith, room)) in
      holds_now size (omega arith) copy_size
      (both_stand size (header_of header.copies.used.bytes (copy_in repair))
      (front_of sizes (now size)) is_reader is.whole (sym (is.whole.size secondary) ∙ copy_size)
      (each_copy (λ copy. take size (drop (byte_of size copy) (front_of sizes (now size)))
      ≡ text_of (header_of header.copies.used.bytes (copy_in repair)) copy)
      (in_front 0 (now size) header.copies.used.bytes (omega (arith, room)) other)
      (in_front size (now size) (copy_in repair) (omega (arith, room)) here)))

  -- what the disks hold once the copy is written at its place
  pub after_write : (place : ℕ) → place ≡ place_in repair → Repairs header.copies repair
      → HoldsGood sizes header all (pasted all place (copy_in repair))
  after_write place at repairs = elim stored.copies.stands [
    | inl (good, here) ↦
        (let is = (repairs.1 good).1 in
        subst (λ (n : ℕ). HoldsGood sizes header all (now n)) (sym (at ∙ is.at))
        (by_secondary is good))
    | inr (worse, good, here) ↦
        (let is = repairs.0 worse in
        subst (λ (n : ℕ). HoldsGood sizes header all (now n)) (sym (at ∙ is.at))
        (by_primary is worse))
  ]
