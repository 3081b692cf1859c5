-- Keys seal lawfully: what a cipher makes of a run of blocks it makes of each block by itself.
use Rattle.std.proofs.Common.{List, ap, arith, drop, inl, inr, length, length-drop, length-take-le}
use Rattle.std.proofs.Common.{sym, take, ℕ, ◌%◌, ◌*◌, ◌++◌, ◌+◌, ◌-◌, ◌/◌, ◌<◌, ◌∙◌, ◌≡◌}
use Rattle.std.proofs.Math.Nat.{mul-mod_left}
use Rattle.std.proofs.lemmas.List.{take-append-drop}
use Rattle.std.proofs.lemmas.Nat.{mul-mod_second}
use Rattle.cipher_laws.specs.Bytes.{AreSectors}
use Rattle.sector_disk.proofs.DiskViews.Blockwise.{block_at-behind, block_at-front, block_at-one}
use Rattle.sector_disk.proofs.DiskViews.Blockwise.{blocks_end, bytes-drop, bytes-take}
use Rattle.sector_disk.specs.DiskViews.Parts.{AreBlocks, block_at}
use Rattle.sector_disk.specs.Geometry.{IsAtom}
use Rattle.segment_map.specs.declared.Side.{Side}
use Rattle.segment_map.specs.declared.Side.TheVariants.{New, Old, Zone}
use Rattle.segment_map.specs.declared.map.Map.{Map}
use Rattle.volume_machine.specs.Pieces.{side_in}
use Rattle.volume_machine.specs.Seals.{AreLawful, Seals, key_of, number_of, seals_of, tweak_of}
use Rattle.cipher_laws.specs.Laws.{GivesBytes, JoinsSectors, KeepsLengths, UndoesSectors}
use Rattle.volume_machine.specs.declared.keys.Keys.{Keys}
use Rattle.volume_laws.specs.Contents.{IsSealed}

-- a cipher of sectors, with any of its keys: what it makes of them has as many bytes, the two ways
-- undo each other, and sectors in a row are worked on one after the other
pub record AreCiphers {C : Type 0} (sector : C → ℕ) (seal unseal : C → ℕ → List ℕ → List ℕ) : Type 0
  where
    pub sealed_length : (c : C) → KeepsLengths (sector c) (seal c)
    pub opened_length : (c : C) → KeepsLengths (sector c) (unseal c)
    pub sealed_bytes : (c : C) → GivesBytes (sector c) (seal c)
    pub opened_bytes : (c : C) → GivesBytes (sector c) (unseal c)
    pub unseal_undoes_seal : (c : C) → UndoesSectors (sector c) (unseal c) (seal c)
    pub seal_undoes_unseal : (c : C) → UndoesSectors (sector c) (seal c) (unseal c)
    pub sealed_joined : (c : C) → JoinsSectors (sector c) (seal c)
    pub opened_joined : (c : C) → JoinsSectors (sector c) (unseal c)

-- the units of 512 bytes of whole blocks
units_of_blocks : (atom k : ℕ) → IsAtom atom → k * atom / 512 ≡ k * (atom / 512)
units_of_blocks atom k (inl is) = rw is (omega arith)
units_of_blocks atom k (inr is) = rw is (omega arith)

number_behind : (tweak atom block k : ℕ) → IsAtom atom
    → tweak + block * (atom / 512) + k * atom / 512 ≡ tweak + (block + k) * (atom / 512)
number_behind tweak atom block k known =
    omega (arith, units_of_blocks atom k known, blocks_end (atom / 512) block k)

-- the front of a run of blocks, and those behind
module _ (atom m n : ℕ) (bytes : List ℕ) (are : AreBlocks atom (m + n) bytes) where
  front_blocks : AreBlocks atom m (take (m * atom) bytes)
  front_blocks = record {
    size = length-take-le (m * atom) bytes (omega (arith, blocks_end atom m n));
    are_bytes = bytes-take (m * atom) bytes are.are_bytes;
  }

  blocks_behind : AreBlocks atom n (drop (m * atom) bytes)
  blocks_behind = record {
    size = length-drop (m * atom) bytes ∙ omega (arith, blocks_end atom m n);
    are_bytes = bytes-drop (m * atom) bytes are.are_bytes;
  }

-- whole sectors are worked on one after the other
module _ (atom sector : ℕ) (whole : atom % sector ≡ 0) where
  blocks_are_sectors : (count : ℕ) (bytes : List ℕ) → AreBlocks atom count bytes
      → AreSectors sector bytes
  blocks_are_sectors count bytes are = record {
    whole = ap (λ n. n % sector) are.size ∙ sym (mul-mod_second count atom sector)
        ∙ ap (λ rest. (count * rest) % sector) whole ∙ ap (λ n. n % sector) (let e : count * 0
        ≡ 0 * sector = omega arith in e) ∙ mul-mod_left 0 sector;
    are_bytes = are.are_bytes;
  }

  module _ (change : ℕ → List ℕ → List ℕ) (keeps : KeepsLengths sector change) where
    changed_length : (first n : ℕ) (bytes : List ℕ) → AreBlocks atom n bytes
        → length (change first bytes) ≡ n * atom
    changed_length first n bytes are = keeps first bytes (blocks_are_sectors n bytes are) ∙ are.size

    -- what a cipher makes of blocks are as many blocks
    changed_blocks : GivesBytes sector change → (first n : ℕ) (bytes : List ℕ)
        → AreBlocks atom n bytes → AreBlocks atom n (change first bytes)
    changed_blocks gives first n bytes are = record {
      size = changed_length first n bytes are;
      are_bytes = gives first bytes (blocks_are_sectors n bytes are);
    }

    module _ (joins : JoinsSectors sector change) where
      changed_in_parts : (first m n : ℕ) (bytes : List ℕ) → AreBlocks atom (m + n) bytes
          → change first bytes ≡ change first (take (m * atom) bytes)
          ++ change (first + m * atom / 512) (drop (m * atom) bytes)
      changed_in_parts first m n bytes are =
          let front : List ℕ = take (m * atom) bytes in
          let behind : List ℕ = drop (m * atom) bytes in
          let in_front = front_blocks atom m n bytes are in
          ap (λ all. change first all) (sym (take-append-drop (m * atom) bytes))
          ∙ joins first front behind (blocks_are_sectors m front in_front)
          (blocks_are_sectors n behind (blocks_behind atom m n bytes are))
          ∙ ap (λ len. change first front ++ change (first + len / 512) behind) in_front.size

      -- the first of a run of blocks
      first_changed : (first n : ℕ) (bytes : List ℕ) → AreBlocks atom (1 + n) bytes
          → block_at atom (change first bytes) 0 ≡ change first (take atom bytes)
      first_changed first n bytes are =
          let one : 1 * atom ≡ atom = omega arith in
          let long = changed_length first 1 (take (1 * atom) bytes)
          (front_blocks atom 1 n bytes are) in
          ap (λ all. block_at atom all 0) (changed_in_parts first 1 n bytes are)
          ∙ block_at-front atom 1 (change first (take (1 * atom) bytes)) (change (first + 1
          * atom / 512) (drop (1 * atom) bytes)) 0 (omega arith) (omega arith) ∙ block_at-one atom
          (change first (take (1 * atom) bytes)) long ∙ ap (λ m. change first (take m bytes)) one

      -- a run of blocks is worked on block by block
      each_changed : (first count : ℕ) (bytes : List ℕ) (k : ℕ)
          → AreBlocks atom count bytes → k < count → block_at atom (change first bytes) k
          ≡ change (first + k * atom / 512) (block_at atom bytes k)
      each_changed first count bytes k are inside =
          let rest : ℕ = count - k - 1 in
          let split : count ≡ k + (1 + rest) = omega arith in
          let parts : AreBlocks atom (k + (1 + rest)) bytes = rw (← split) are in
          let front : List ℕ = take (k * atom) bytes in
          let behind : List ℕ = drop (k * atom) bytes in let further : ℕ = first + k * atom / 512 in
          let place : k ≡ k + 0 = omega arith in
          ap (λ all. block_at atom all k) (changed_in_parts first k (1 + rest) bytes parts)
          ∙ ap (λ p. block_at atom (change first front ++ change further behind) p) place
          ∙ block_at-behind atom k (change first front) (change further behind) 0
          (changed_length first k front (front_blocks atom k (1 + rest) bytes parts))
          ∙ first_changed further rest behind (blocks_behind atom k (1 + rest) bytes parts)

-- sectors divide a block under the key of each side
sides_divide : {C : Type 0} (sector : C → ℕ) (keys : Keys C) (atom : ℕ) → atom % sector keys.old ≡ 0
    → atom % sector keys.new ≡ 0 → (side : Side) → atom % sector (key_of keys side) ≡ 0
sides_divide sector keys atom old new Old = old
sides_divide sector keys atom old new Zone = old
sides_divide sector keys atom old new New = new

-- keys seal lawfully
pub keys_are_lawful : {C : Type 0} (sector : C → ℕ) (seal unseal : C → ℕ → List ℕ → List ℕ)
    (keys : Keys C) (atom : ℕ) → AreCiphers sector seal unseal → IsAtom atom
    → atom % sector keys.old ≡ 0 → atom % sector keys.new ≡ 0
    → AreLawful atom (seals_of seal unseal atom keys)
keys_are_lawful sector seal unseal keys atom ciphers known old new =
    let whole = sides_divide sector keys atom old new in record {
      keeps_sealed = λ side block. let c = key_of keys side in
          changed_blocks atom (sector c) (whole side) (seal c) (ciphers.sealed_length c)
          (ciphers.sealed_bytes c) (number_of keys atom side block) 1;
      keeps_opened = λ side block. let c = key_of keys side in
          changed_blocks atom (sector c) (whole side) (unseal c) (ciphers.opened_length c)
          (ciphers.opened_bytes c) (number_of keys atom side block);
      opens_sealed = λ side block bytes are. let c = key_of keys side in
          ciphers.unseal_undoes_seal c (number_of keys atom side block) bytes
          (blocks_are_sectors atom (sector c) (whole side) 1 bytes are);
      seals_opened = λ side block bytes are. let c = key_of keys side in
          ciphers.seal_undoes_unseal c (number_of keys atom side block) bytes
          (blocks_are_sectors atom (sector c) (whole side) 1 bytes are);
      each_opened = λ side block count bytes are k inside. let c = key_of keys side in
          each_changed atom (sector c) (whole side) (unseal c) (ciphers.opened_length c)
          (ciphers.opened_joined c) (number_of keys atom side block) count bytes k are inside
          ∙ ap (λ first. unseal c first (block_at atom bytes k))
          (number_behind (tweak_of keys side) atom block k known);
    }

-- what holds a value of a block has a block's bytes
pub length-sealed : (map : Map) (seals : Seals) (b : ℕ) (value text : List ℕ)
    → AreLawful map.atom seals → IsSealed map seals b value text → length text ≡ map.atom
length-sealed map seals b value text lawful is = ap (λ bytes. length bytes) is.1
    ∙ (lawful.keeps_sealed (side_in map b) b value is.0).size ∙ omega arith
