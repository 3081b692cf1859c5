-- A part that is sealed anew slice by slice is sealed as it is at once.
use Rattle.std.proofs.Common.{◌≡◌, ◌∙◌, ℕ, ◌+◌, ◌-◌, ◌*◌, ◌/◌, ◌%◌, ◌≤◌, ◌==◌, List, [], ◌++◌}
use Rattle.std.proofs.Common.{Bool, true, false, length, take, drop, refl, sym, ap, ap₂}
use Rattle.std.proofs.Common.{subst, arith, inl, inr, append_assoc, append-nil, lit<}
use Rattle.std.proofs.Common.{mul-le-mul_right}
use Rattle.std.proofs.lemmas.Bool.{eqb-true}
use Rattle.std.proofs.lemmas.List.{length-take-le, length-drop, take-take, take_at, drop_at, drop-take}
use Rattle.std.proofs.lemmas.List.{drop-drop, take_all, drop_all, nil_from_length}
use Rattle.std.proofs.Math.Seq.{take-append-add, take-add}
use Rattle.std.specs.Prelude.{MatchBool}
use borrow.Rule.Slice.PartMut.{put_mid}
use Rattle.cipher_laws.specs.Bytes.{AreBytes, AreSectors}
use Rattle.hotzone.specs.Ciphers.{HaveLaws}
use Rattle.hotzone.specs.Laid.{HasBegun, HasSealed, IsBegun, sealed_upto}
use Rattle.hotzone.specs.Making.{IsPut}
use Rattle.hotzone.specs.Sites.{bytes_at, part_at}
use Rattle.hotzone.specs.Steps.{part_in, resealed}
use Rattle.hotzone.specs.declared.scratch.Scratch.{Scratch}
use Rattle.hotzone.specs.declared.steps.Stop.{Stop}
use Rattle.hotzone.specs.declared.worker.NextCall.{NextCall}
use Rattle.hotzone.specs.declared.worker.Stepped.{Stepped}
use Rattle.hotzone.specs.declared.worker.Worker.{Worker}
use Rattle.hotzone.specs.declared.worker.ZoneFault.{ZoneFault}
use Rattle.sector_disk.proofs.DiskViews.Blockwise.{blocks_end, bytes-drop, bytes-take}
use Rattle.sector_disk.specs.DiskViews.Parts.{AreBlocks}
use Rattle.sector_disk.specs.Geometry.{IsAtom}
use Rattle.segment_map.specs.declared.Side.TheVariants.{Old, New}
use Rattle.std.proofs.Common.{Result, Ok, Err}
use Rattle.volume_machine.proofs.KeyLemmas.{whole-blocks}
use Rattle.volume_machine.specs.Seals.{Seals, number_of, seals_of}
use Rattle.volume_machine.specs.declared.keys.Keys.{Keys}

-- the units of 512 bytes of whole blocks
units_of_blocks : (atom k : ℕ) → IsAtom atom → k * atom / 512 ≡ k * (atom / 512)
units_of_blocks atom k (inl is) = rw is (omega arith)
units_of_blocks atom k (inr is) = rw is (omega arith)

number-behind : (tweak atom block m : ℕ) (xs : List ℕ) → IsAtom atom → length xs ≡ m * atom
    → tweak + block * (atom / 512) + length xs / 512 ≡ tweak + (block + m) * (atom / 512)
number-behind tweak atom block m xs known long =
    ap (λ n. tweak + block * (atom / 512) + n / 512) long
    ∙ omega (arith, units_of_blocks atom m known, blocks_end (atom / 512) block m)

-- ---- the keys of both sides, as ciphers of the sectors of a block
pub record AreCiphers {C : Type 0} (sector : C → ℕ) (seal unseal : C → ℕ → List ℕ → List ℕ)
    (keys : Keys C) (atom : ℕ) : Type 0 where
  pub known : IsAtom atom
  pub old_whole : atom % sector keys.old ≡ 0
  pub new_whole : atom % sector keys.new ≡ 0
  pub laws : HaveLaws sector seal unseal keys

sectors-of : (size atom count : ℕ) (bytes : List ℕ) → atom % size ≡ 0 → AreBlocks atom count bytes
    → AreSectors size bytes
sectors-of size atom count bytes whole are = record {
  whole = subst (λ n. n % size ≡ 0) (sym are.size) (whole-blocks count atom size whole);
  are_bytes = are.are_bytes;
}

module _ {C : Type 0} (sector : C → ℕ) (seal unseal : C → ℕ → List ℕ → List ℕ) (keys : Keys C)
    (atom : ℕ) (ciphers : AreCiphers sector seal unseal keys atom) where
  opened-blocks : (first count : ℕ) (bytes : List ℕ) → AreBlocks atom count bytes
      → AreBlocks atom count (unseal keys.old (number_of keys atom Old first) bytes)
  opened-blocks first count bytes are =
      let sectors = sectors-of (sector keys.old) atom count bytes ciphers.old_whole are in record {
        size = ciphers.laws.opened_length (number_of keys atom Old first) bytes sectors ∙ are.size;
        are_bytes = ciphers.laws.opened_bytes (number_of keys atom Old first) bytes sectors;
      }

  resealed-long : (first count : ℕ) (bytes : List ℕ) → AreBlocks atom count bytes
      → length (resealed (seals_of seal unseal atom keys) first bytes) ≡ count * atom
  resealed-long first count bytes are =
      let blocks = opened-blocks first count bytes are in
      ciphers.laws.sealed_length (number_of keys atom New first)
      (unseal keys.old (number_of keys atom Old first) bytes)
      (sectors-of (sector keys.new) atom count
      (unseal keys.old (number_of keys atom Old first) bytes) ciphers.new_whole blocks)
      ∙ blocks.size

  pub resealed-none : (first : ℕ) → resealed (seals_of seal unseal atom keys) first [] ≡ []
  resealed-none first =
      nil_from_length (resealed (seals_of seal unseal atom keys) first [])
      (resealed-long first 0 [] (record { size = omega arith; are_bytes = λ k. lit< tt })
      ∙ omega arith)

  -- blocks behind others are sealed anew from the block behind those
  resealed-joined : (first m n : ℕ) (xs ys : List ℕ) → AreBlocks atom m xs → AreBlocks atom n ys
      → resealed (seals_of seal unseal atom keys) first (xs ++ ys)
      ≡ resealed (seals_of seal unseal atom keys) first xs
      ++ resealed (seals_of seal unseal atom keys) (first + m) ys
  resealed-joined first m n xs ys are_xs are_ys =
      let was = number_of keys atom Old first in
      let is = number_of keys atom New first in
      let front = unseal keys.old was xs in
      let back = unseal keys.old (number_of keys atom Old (first + m)) ys in
      let blocks = opened-blocks first m xs are_xs in
      let opened : unseal keys.old was (xs ++ ys) ≡ front ++ back =
      ciphers.laws.opened_joined was xs ys
      (sectors-of (sector keys.old) atom m xs ciphers.old_whole are_xs)
      (sectors-of (sector keys.old) atom n ys ciphers.old_whole are_ys)
      ∙ ap (λ k. front ++ unseal keys.old k ys)
      (number-behind keys.old_tweak atom first m xs ciphers.known are_xs.size) in
      ap (seal keys.new is) opened
      ∙ (ciphers.laws.sealed_joined is front back
      (sectors-of (sector keys.new) atom m front ciphers.new_whole blocks)
      (sectors-of (sector keys.new) atom n back ciphers.new_whole
      (opened-blocks (first + m) n ys are_ys))
      ∙ ap (λ k. seal keys.new is front ++ seal keys.new k back)
      (number-behind keys.new_tweak atom first m front ciphers.known blocks.size))

  -- one slice more
  pub slice-sealed : (first at ready count all : ℕ) (part old new : List ℕ)
      → AreBlocks atom all part → at ≡ first + ready → ready + count ≤ all
      → take (all * atom) old
      ≡ sealed_upto (seals_of seal unseal atom keys) atom first ready part
      → new ≡ put_mid (ready * atom) (count * atom) old
      (resealed (seals_of seal unseal atom keys) at (take (count * atom) (drop (ready * atom) old)))
      → take (all * atom) new
      ≡ sealed_upto (seals_of seal unseal atom keys) atom first (ready + count) part
  slice-sealed first at ready count all part old new are place few held put =
      let a = ready * atom in
      let k = count * atom in
      let m = all * atom - a in
      let ends : (ready + count) * atom ≡ a + k = blocks_end atom ready count in
      let less : (ready + count) * atom ≤ all * atom = mul-le-mul_right atom few in
      let fits : a + k ≤ all * atom = omega (arith, ends, less) in
      let split : all * atom ≡ a + m = omega (arith, fits) in
      let long : length part ≡ all * atom = are.size in
      let before = take a part in
      let rest = drop a part in
      let slice = take k rest in
      let left : length rest ≡ m = length-drop a part ∙ omega (arith, long) in
      let are_before : AreBlocks atom ready before = record {
        size = length-take-le a part (omega (arith, fits, long));
        are_bytes = bytes-take a part are.are_bytes;
      } in
      let are_slice : AreBlocks atom count slice = record {
        size = length-take-le k rest (omega (arith, fits, left));
        are_bytes = bytes-take k rest (bytes-drop a part are.are_bytes);
      } in
      let done = resealed (seals_of seal unseal atom keys) first before in
      let more = resealed (seals_of seal unseal atom keys) (first + ready) slice in
      let done_long : length done ≡ a = resealed-long first ready before are_before in
      let more_long : length more ≡ k = resealed-long (first + ready) count slice are_slice in
      let behind : take m (drop a old) ≡ rest =
      sym (drop-take a m old)
      ∙ (ap (λ n. drop a (take n old)) (sym split)
      ∙ (ap (drop a) held ∙ drop_at done rest a done_long)) in
      let front : take a old ≡ done =
      sym (take-take a (all * atom) old (omega (arith, fits)))
      ∙ (ap (take a) held ∙ take_at done rest a done_long) in
      let here : take k (drop a old) ≡ slice =
      sym (take-take k m (drop a old) (omega (arith, fits))) ∙ ap (take k) behind in
      let r = m - k in
      let joint : m ≡ k + r = omega (arith, fits) in
      let tail = drop k (drop a old) in
      let kept : take r tail ≡ drop k rest =
      sym (drop-take k r (drop a old))
      ∙ (ap (λ n. drop k (take n (drop a old))) (sym joint) ∙ ap (drop k) behind) in
      let is : new ≡ done ++ (more ++ tail) =
      put
      ∙ (ap (λ n. take a old ++ (resealed (seals_of seal unseal atom keys) n (take k (drop a old))
      ++ tail)) place
      ∙ ap₂ (λ f s. f ++ (resealed (seals_of seal unseal atom keys) (first + ready) s ++ tail))
      front here) in
      let bytes : take (all * atom) new ≡ done ++ (more ++ drop k rest) =
      ap (take (all * atom)) is
      ∙ (ap (λ n. take n (done ++ (more ++ tail))) (split ∙ ap (λ n. n + m) (sym done_long))
      ∙ (take-append-add done (more ++ tail) m
      ∙ ap (λ l. done ++ l)
      (ap (λ n. take n (more ++ tail)) (joint ∙ ap (λ n. n + r) (sym more_long))
      ∙ (take-append-add more tail r ∙ ap (λ l. more ++ l) kept)))) in
      let whole : resealed (seals_of seal unseal atom keys) first (take ((ready + count) * atom) part)
      ≡ done ++ more =
      ap (λ n. resealed (seals_of seal unseal atom keys) first (take n part)) ends
      ∙ (ap (resealed (seals_of seal unseal atom keys) first) (take-add a k part)
      ∙ resealed-joined first ready count before slice are_before are_slice) in
      let others : drop ((ready + count) * atom) part ≡ drop k rest =
      ap (λ n. drop n part) ends ∙ sym (drop-drop k a part) in
      bytes ∙ (sym (append_assoc done more (drop k rest)) ∙ sym (ap₂ (λ f s. f ++ s) whole others))

  -- none yet, and all
  pub none-sealed : (first : ℕ) (part : List ℕ)
      → part ≡ sealed_upto (seals_of seal unseal atom keys) atom first 0 part
  none-sealed first part =
      let none : 0 * atom ≡ 0 = omega arith in
      sym (ap₂ (λ f s. f ++ s)
      (ap (λ n. resealed (seals_of seal unseal atom keys) first (take n part)) none
      ∙ resealed-none first)
      (ap (λ n. drop n part) none))

  pub all-sealed : (first all : ℕ) (part : List ℕ) → length part ≡ all * atom
      → sealed_upto (seals_of seal unseal atom keys) atom first all part
      ≡ resealed (seals_of seal unseal atom keys) first part
  all-sealed first all part long =
      ap₂ (λ f s. f ++ s)
      (ap (resealed (seals_of seal unseal atom keys) first)
      (take_all (all * atom) part (omega (arith, long))))
      (drop_all (all * atom) part (omega (arith, long)))
      ∙ append-nil (resealed (seals_of seal unseal atom keys) first part)

-- ---- the scratch of a worker
-- the part at hand is whole blocks
pub part-blocks : {C : Type 0} (w : Worker C) → bytes_at w.site 0 ≤ length w.buffer
    → AreBytes w.buffer → AreBlocks w.site.atom (part_at w.site 0) (part_in w 0)
part-blocks w room bytes = record {
  size = length-take-le (bytes_at w.site 0) w.buffer room;
  are_bytes = bytes-take (bytes_at w.site 0) w.buffer bytes;
}

pub begun-if : {C : Type 0} (seals : Seals) (w : Worker C) (b : Bool) (ready : ℕ) (sealed : List ℕ)
    → HasBegun seals w.site (part_in w 0) ready sealed
    → MatchBool b (HasBegun seals w.site (part_in w 0) ready sealed) (Unit {0})
begun-if seals w true ready sealed has = has
begun-if seals w false ready sealed has = tt

pub begun-nowhere : {C : Type 0} (seals : Seals) (w : Worker C) (scratch : Scratch)
    → scratch.begun ≡ false → IsBegun seals w scratch
begun-nowhere seals w scratch is =
    subst (λ b. MatchBool b (HasBegun seals w.site (part_in w 0) scratch.ready scratch.sealed)
    (Unit {0})) (sym is) tt

pub begun-there : {C : Type 0} (seals : Seals) (w : Worker C) (scratch : Scratch)
    → scratch.begun ≡ true → IsBegun seals w scratch
    → HasBegun seals w.site (part_in w 0) scratch.ready scratch.sealed
begun-there seals w scratch is begun =
    subst (λ b. MatchBool b (HasBegun seals w.site (part_in w 0) scratch.ready scratch.sealed)
    (Unit {0})) is begun

-- one of which all blocks are ready is sealed
pub sealed-if : {C : Type 0} (sector : C → ℕ) (seal unseal : C → ℕ → List ℕ → List ℕ) (w : Worker C)
    (ready : ℕ) (sealed : List ℕ) → AreCiphers sector seal unseal w.keys w.site.atom
    → bytes_at w.site 0 ≤ length w.buffer
    → HasBegun (seals_of seal unseal w.site.atom w.keys) w.site (part_in w 0) ready sealed
    → MatchBool (ready == part_at w.site 0)
    (HasSealed (seals_of seal unseal w.site.atom w.keys) w.site (part_in w 0) sealed) (Unit {0})
sealed-if sector seal unseal w ready sealed ciphers room has =
    go (ready == part_at w.site 0) refl
  where
    go : (b : Bool) → (ready == part_at w.site 0) ≡ b
        → MatchBool b (HasSealed (seals_of seal unseal w.site.atom w.keys) w.site (part_in w 0) sealed)
        (Unit {0})
    go true is = record {
      room = has.room;
      is = has.is
          ∙ (ap (λ n. sealed_upto (seals_of seal unseal w.site.atom w.keys) w.site.atom
          (w.site.blocks.start + 0) n (part_in w 0)) (eqb-true _ _ is)
          ∙ all-sealed sector seal unseal w.keys w.site.atom ciphers (w.site.blocks.start + 0)
          (part_at w.site 0) (part_in w 0) (length-take-le (bytes_at w.site 0) w.buffer room));
    }
    go false is = tt

-- so when another call is put in
pub begun-put : {C : Type 0} (seals : ℕ → Keys C → Seals) (before after : Worker C)
    (next : NextCall) (answer : Result Stepped Stop) (result : Result Stepped ZoneFault)
    (scratch : Scratch) → IsPut before next after answer result
    → IsBegun (seals before.site.atom before.keys) before scratch
    → IsBegun (seals after.site.atom after.keys) after scratch
begun-put {C} seals before after next (Ok stepped) result scratch put is =
    subst (λ (w : Worker C). IsBegun (seals w.site.atom w.keys) w scratch) (sym put.0) is
begun-put {C} seals before after next (Err stop) result scratch put is =
    subst (λ (w : Worker C). IsBegun (seals w.site.atom w.keys) w scratch) (sym put.0) is
