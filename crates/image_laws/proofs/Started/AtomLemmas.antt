-- Images with the same atoms, but for those of a run, are the same but for its bytes.
use Rattle.std.proofs.Common.{◌≡◌, ◌⊎◌, inl, inr, ℕ, ◌+◌, ◌-◌, ◌*◌, ◌/◌, ◌%◌, ◌<◌, ◌≤◌, nat_le}
use Rattle.std.proofs.Common.{Bool, true, false, List, length, take, drop, refl, sym, ◌∙◌, ap}
use Rattle.std.proofs.Common.{arith, length-drop}
use Rattle.std.proofs.Math.Nat.{mul-le-mul_right}
use Rattle.std.proofs.lemmas.Bool.{leb-false, leb-true}
use Rattle.std.proofs.lemmas.Nat.{div-add-mod'}
use Rattle.sector_disk.proofs.DiskViews.Blockwise.{block_at-drop, block_at-part, block_within, blocks_end}
use Rattle.sector_disk.proofs.DiskViews.Blockwise.{length-part, same_blocks}
use Rattle.sector_disk.specs.DiskViews.Parts.{block_at}
use Rattle.image_laws.specs.Started.Gaps.{AtomsAgree}

module _ (atom atoms s place count : ℕ) (first now : List ℕ) (long : length first ≡ atoms * atom)
    (also : length now ≡ atoms * atom) (within : place + count ≤ atoms)
    (same : (k : ℕ) → k < atoms → s ≤ k → (k < place) ⊎ (place + count ≤ k)
    → block_at atom now k ≡ block_at atom first k) where
  -- so many atoms in front of the run
  front-same : (n : ℕ) → s + n ≤ place
      → take (n * atom) (drop (s * atom) now) ≡ take (n * atom) (drop (s * atom) first)
  front-same n le =
      let room : (s + n) * atom ≤ atoms * atom = mul-le-mul_right atom (omega (arith, le, within)) in
      same_blocks atom n (take (n * atom) (drop (s * atom) now))
      (take (n * atom) (drop (s * atom) first))
      (length-part atom s n now (omega (arith, room, also)))
      (length-part atom s n first (omega (arith, room, long)))
      (λ k inside. block_at-part atom s n now k inside
      ∙ same (s + k) (omega (arith, inside, le, within)) (omega arith)
      (inl (omega (arith, inside, le)))
      ∙ sym (block_at-part atom s n first k inside))

  before-same : take (place * atom - s * atom) (drop (s * atom) now)
      ≡ take (place * atom - s * atom) (drop (s * atom) first)
  before-same = go (nat_le s place) refl
    where
      go : (b : Bool) → nat_le s place ≡ b
          → take (place * atom - s * atom) (drop (s * atom) now)
          ≡ take (place * atom - s * atom) (drop (s * atom) first)
      go true is =
          let le = leb-true s place is in
          let split : place ≡ s + (place - s) = omega (arith, le) in
          let all : place * atom ≡ s * atom + (place - s) * atom =
          ap (λ n. n * atom) split ∙ blocks_end atom s (place - s) in
          let parts : place * atom - s * atom ≡ (place - s) * atom = omega (arith, all) in
          ap (λ n. take n (drop (s * atom) now)) parts
          ∙ front-same (place - s) (omega (arith, le))
          ∙ sym (ap (λ n. take n (drop (s * atom) first)) parts)
      go false is =
          let lt : place < s = leb-false s place is in
          let le : place * atom ≤ s * atom = mul-le-mul_right atom (omega (arith, lt)) in
          let none : place * atom - s * atom ≡ 0 = omega (arith, le) in
          ap (λ n. take n (drop (s * atom) now)) none
          ∙ sym (ap (λ n. take n (drop (s * atom) first)) none)

  rest-long : (bytes : List ℕ) → length bytes ≡ atoms * atom
      → length (drop ((place + count) * atom) bytes) ≡ (atoms - (place + count)) * atom
  rest-long bytes is =
      let split : atoms ≡ (place + count) + (atoms - (place + count)) = omega (arith, within) in
      let all : atoms * atom ≡ (place + count) * atom + (atoms - (place + count)) * atom =
      ap (λ n. n * atom) split ∙ blocks_end atom (place + count) (atoms - (place + count)) in
      length-drop ((place + count) * atom) bytes
      ∙ (let e : length bytes - (place + count) * atom ≡ (atoms - (place + count)) * atom =
      omega (arith, all, is) in e)

  -- and all behind it
  behind-same : s ≤ place + count
      → drop (place * atom + count * atom) now ≡ drop (place * atom + count * atom) first
  behind-same le =
      let end : place * atom + count * atom ≡ (place + count) * atom =
      sym (blocks_end atom place count) in
      ap (λ n. drop n now) end
      ∙ same_blocks atom (atoms - (place + count)) (drop ((place + count) * atom) now)
      (drop ((place + count) * atom) first) (rest-long now also) (rest-long first long)
      (λ k inside. block_at-drop atom (place + count) now k
      ∙ same ((place + count) + k) (omega (arith, inside)) (omega (arith, le))
      (inr (omega arith))
      ∙ sym (block_at-drop atom (place + count) first k))
      ∙ sym (ap (λ n. drop n first) end)

-- ---- in bytes
in-atoms : (n atom : ℕ) → n % atom ≡ 0 → n ≡ n / atom * atom
in-atoms n atom whole = let parts = div-add-mod' n atom in omega (arith, parts, whole)

fewer : (a b atom : ℕ) → 0 < atom → a * atom ≤ b * atom → a ≤ b
fewer a b atom some le = go (nat_le a b) refl
  where
    go : (c : Bool) → nat_le a b ≡ c → a ≤ b
    go true is = leb-true a b is
    go false is =
        let lt : b < a = leb-false a b is in
        let room = block_within atom a b lt in
        absurd (omega (arith, room, le, some))

outside : (k place count offset size atom : ℕ) → 0 < atom → offset ≡ place * atom
    → size ≡ count * atom → (k < place) ⊎ (place + count ≤ k)
    → (k * atom < offset) ⊎ (offset + size ≤ k * atom)
outside k place count offset size atom some o z (inl lt) =
    let room = block_within atom place k lt in inl (omega (arith, room, o, some))
outside k place count offset size atom some o z (inr le) =
    let most : (place + count) * atom ≤ k * atom = mul-le-mul_right atom le in
    let all = blocks_end atom place count in
    inr (omega (arith, most, all, o, z))

pub atoms-agree : AtomsAgree
atoms-agree atom atoms begin offset size first now some are =
    let s : ℕ = begin / atom in
    let place : ℕ = offset / atom in
    let count : ℕ = size / atom in
    let b : begin ≡ s * atom = in-atoms begin atom are.begin_whole in
    let o : offset ≡ place * atom = in-atoms offset atom are.offset_whole in
    let z : size ≡ count * atom = in-atoms size atom are.size_whole in
    let all : (place + count) * atom ≡ place * atom + count * atom = blocks_end atom place count in
    let room = are.within in
    let last = are.behind in
    let within : place + count ≤ atoms =
    fewer (place + count) atoms atom some (omega (arith, all, room, o, z)) in
    let front : s ≤ place + count =
    fewer s (place + count) atom some (omega (arith, all, last, b, o, z)) in
    let same = (λ (k : ℕ) (below : k < atoms) (le : s ≤ k)
    (apart : (k < place) ⊎ (place + count ≤ k)).
    are.same k below
    (let m : s * atom ≤ k * atom = mul-le-mul_right atom le in omega (arith, m, b))
    (outside k place count offset size atom some o z apart)) in
    record {
      before =
          (λ i. take (o i - b i) (drop (b i) now))
          ∙ before-same atom atoms s place count first now are.first_size are.now_size within same
          ∙ sym (λ i. take (o i - b i) (drop (b i) first));
      behind =
          (λ i. drop (o i + z i) now)
          ∙ behind-same atom atoms s place count first now are.first_size are.now_size within same
          front
          ∙ sym (λ i. drop (o i + z i) first);
    }
