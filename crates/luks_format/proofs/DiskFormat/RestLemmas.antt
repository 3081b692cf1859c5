-- What is behind all that is written stays.
use Rattle.std.proofs.Common.{◌≡◌, inl, inr, ℕ, ◌+◌, ◌-◌, ◌*◌, ◌/◌, ◌≤◌, List, [], ◌∷◌}
use Rattle.std.proofs.Common.{◌++◌, length, take, drop, Option, Some, Result, Ok, Err, refl, sym}
use Rattle.std.proofs.Common.{◌∙◌, ap, arith, length-append}
use Rattle.std.proofs.Math.Nat.{div-mul-le_self}
use Rattle.std.proofs.lemmas.Bool.{cases_lt}
use Rattle.std.proofs.lemmas.List.{drop-drop, drop_all, drop_at, length-take-le, take_all}
use Rattle.base_terms.specs.Blocks.{pasted}
use Rattle.base_terms.specs.declared.failed.Failed.{Failed}
use Rattle.base_terms.specs.declared.disk_sizes.Sizes.{Sizes}
use Rattle.luks_format.proofs.DiskFormat.FrontLemmas.{IsFront, in-front, is-front}
use Rattle.luks_format.specs.DiskFormat.Calls.{WritesVolume}
use Rattle.luks_format.specs.DiskFormat.Rests.{KeepsFrom, end_of_front, front_room}
use Rattle.luks_format.specs.DiskFormat.Volumes.{IsNewVolume}
use Rattle.luks_format.specs.declared.format_disk.volume.NewVolume.{NewVolume}
use Rattle.luks_store.specs.Copying.Held.{primary_of, secondary_of}
use Rattle.luks_store.specs.declared.header_copies.commit.Stage.TheVariants.{Begun, FirstWritten, FirstKept}
use Rattle.luks_store.specs.declared.header_copies.commit.Stage.TheVariants.{SecondWritten, Ended}
use Rattle.luks_format.specs.Wishes.{IsWish}
use Rattle.luks_format.specs.declared.wish.Wish.{Wish}
use Rattle.sector_disk.specs.Devices.{Device, failed_call, succeeded}
use Rattle.sector_disk.specs.Values.{Writes}
use Rattle.luks_store.specs.SlotCommits.Calls.{MakesCall, MakesCalls, SlotCall, commits, slot_calls, syncs_area, writes_area}

-- ---- behind a write
behind-pasted : (old : List ℕ) (at : ℕ) (body : List ℕ)
    → drop (at + length body) (pasted old at body) ≡ drop (at + length body) old
unfolding pasted
behind-pasted old at body =
    elim (cases_lt (length old) at) [
      | inl short ↦
          let rest = drop_all (at + length body) old (omega (arith, short)) in
          let front = take_all at old (omega (arith, short)) in
          let long = length-append (take at old) body in
          let all = length-append (take at old ++ body) (drop (at + length body) old) in
          let same = ap length front in
          let none = ap length rest in
          drop_all (at + length body) _ (omega (arith, long, all, same, none, short)) ∙ sym rest
      | inr within ↦
          let front = length-take-le at old within in
          let long = length-append (take at old) body in
          drop_at (take at old ++ body) (drop (at + length body) old) (at + length body)
          (omega (arith, front, long))
    ]

further : (near far : ℕ) (xs ys : List ℕ) → near ≤ far → drop near xs ≡ drop near ys
    → drop far xs ≡ drop far ys
further near far xs ys le same =
    let split : near + (far - near) ≡ far = omega (arith, le) in
    ap (λ n. drop n xs) (sym split) ∙ sym (drop-drop (far - near) near xs)
    ∙ ap (drop (far - near)) same ∙ drop-drop (far - near) near ys
    ∙ ap (λ n. drop n ys) split

abbrev StaysFrom : ℕ → List ℕ → Option (List ℕ) → Type 0
StaysFrom from bytes new = (now : List ℕ) × (new ≡ Some now) × (drop from now ≡ drop from bytes)

behind-write : (atom at from : ℕ) (body bytes : List ℕ) (old new : Option (List ℕ))
    (result : Result (Unit {0}) Failed) → at * atom + length body ≤ from → old ≡ Some bytes
    → Writes atom at body old new result → StaysFrom from bytes new
behind-write atom at from body bytes old new (Ok done) within is writes = (
  pasted bytes (at * atom) body,
  writes bytes is,
  further (at * atom + length body) from _ _ within (behind-pasted bytes (at * atom) body),
)
behind-write atom at from body bytes old new (Err failed) within is writes =
    let left = writes bytes is in
    (left.0, left.1, further (at * atom + length body) from _ _ within left.2.behind)

-- ---- behind the calls
-- both copies and the area end no later than a byte
record EndBefore (v : NewVolume) (from : ℕ) : Type 0 where
  first : length (primary_of v.slot.commit.copies) ≤ from
  second : v.slot.commit.header.hdr_size + length (secondary_of v.slot.commit.copies) ≤ from
  area : v.slot.area_offset + length v.slot.area ≤ from

behind-call : (v : NewVolume) (from : ℕ) → EndBefore v from → (call : SlotCall)
    (old new : Device) (bytes : List ℕ) (result : Result (Unit {0}) Failed)
    → old.values ≡ Some bytes → MakesCall v.slot call old new result → StaysFrom from bytes new.values
behind-call v from ends writes_area old new bytes result is made =
    let place = div-mul-le_self v.slot.area_offset old.size in
    let area = ends.area in
    behind-write old.size (v.slot.area_offset / old.size) from v.slot.area bytes _ _ result
    (omega (arith, place, area)) is made.values
behind-call v from ends syncs_area old new bytes result is made =
    (bytes, made.values ∙ is, refl)
behind-call v from ends (commits Begun) old new bytes result is made =
    let first = ends.first in
    behind-write old.size 0 from (primary_of v.slot.commit.copies) bytes _ _ result
    (omega (arith, first)) is made.values
behind-call v from ends (commits FirstWritten) old new bytes result is made =
    (bytes, made.values ∙ is, refl)
behind-call v from ends (commits FirstKept) old new bytes result is made =
    let place = div-mul-le_self v.slot.commit.header.hdr_size old.size in
    let second = ends.second in
    behind-write old.size (v.slot.commit.header.hdr_size / old.size) from
    (secondary_of v.slot.commit.copies) bytes _ _ result (omega (arith, place, second)) is made.values
behind-call v from ends (commits SecondWritten) old new bytes result is made =
    (bytes, made.values ∙ is, refl)
behind-call v from ends (commits Ended) old new bytes result is made = absurd made

behind-calls : (v : NewVolume) (from : ℕ) → EndBefore v from → (calls : List SlotCall)
    (old new : Device) (bytes : List ℕ) (result : Result (Unit {0}) Failed)
    → old.values ≡ Some bytes → MakesCalls v.slot calls old new result
    → StaysFrom from bytes new.values
unfolding MakesCalls
behind-calls v from ends [] old new bytes result is (same, done) =
    (bytes, ap (λ (d : Device). d.values) same ∙ is, refl)
behind-calls v from ends (call ∷ calls) old new bytes result is (inl (made, failed)) =
    behind-call v from ends call old new bytes failed_call is made
behind-calls v from ends (call ∷ calls) old new bytes result is (inr (between, made, rest)) =
    let first = behind-call v from ends call old between bytes succeeded is made in
    let later = behind-calls v from ends calls between new first.0 result first.1 rest in
    (later.0, later.1, later.2 ∙ first.2)

-- ---- of a new volume
ends : (v : NewVolume) (size : ℕ) → IsFront v size → EndBefore v (end_of_front v)
ends v size front =
    let first = front.first in
    let second = front.second in
    let header = front.header in
    let place = front.place in
    record {
      first = omega (arith, first, place);
      second = omega (arith, second, header, place);
      area = omega arith;
    }

pub rest-stays : (w : Wish) (sizes : Sizes) (pass seed : List ℕ) (v : NewVolume)
    (old new : Device) (result : Result (Unit {0}) Failed) → IsWish w
    → IsNewVolume w sizes pass seed v → WritesVolume v old new result
    → (end_of_front v ≤ front_room w sizes) × KeepsFrom (end_of_front v) old new
rest-stays w sizes pass seed v old new result wish is made = (
  in-front w sizes pass seed v wish is,
  λ bytes told. behind-calls v (end_of_front v)
      (ends v w.metadata_size (is-front w sizes pass seed v wish is)) slot_calls old new bytes result
      told made,
)
