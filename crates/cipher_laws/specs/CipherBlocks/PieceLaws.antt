-- Work piece after piece: lengths, bytes, and how it is undone and joined.
use Rattle.std.proofs.Common.{◌/◌, ◌%◌, ◌≡◌, ℕ, zero, suc, ◌+◌, ◌*◌, List, ◌++◌, length, take, drop}
use Rattle.std.proofs.Common.{ap, sym, ◌∙◌, arith, length-append, length-drop}
use Rattle.std.proofs.lemmas.List.{take_at, drop_at, length-take-le, take-append-drop}
use Rattle.std.proofs.lemmas.List.{nil_from_length}
use Rattle.cipher_laws.specs.Bytes.{AreBytes, IsBlock}
use Rattle.cipher_laws.specs.Pieces.{worked}
use Rattle.cipher_laws.specs.CipherBlocks.BytesLaws.{no_bytes, bytes-append, bytes-take, bytes-drop}

-- under values that are good, `change` makes of a piece a piece, and hands on a good value
pub record KeepsPieces {S : Type 0} (Good : S → Type 0) (size : ℕ) (change : S → List ℕ → List ℕ)
    (next : S → List ℕ → List ℕ → S) : Type 0 where
  pub length_is : (s : S) (piece : List ℕ) → Good s → length piece ≡ size → AreBytes piece
      → length (change s piece) ≡ size
  pub are_bytes : (s : S) (piece : List ℕ) → Good s → length piece ≡ size → AreBytes piece
      → AreBytes (change s piece)
  pub good : (s : S) (piece : List ℕ) → Good s → length piece ≡ size → AreBytes piece
      → Good (next s piece (change s piece))

-- `back` undoes `change` at each piece, and hands on the same value
pub record UndoesPieces {S : Type 0} (Good : S → Type 0) (size : ℕ) (change : S → List ℕ → List ℕ)
    (next : S → List ℕ → List ℕ → S) (back : S → List ℕ → List ℕ)
    (next_back : S → List ℕ → List ℕ → S) : Type 0 where
  pub undone : (s : S) (piece : List ℕ) → Good s → length piece ≡ size → AreBytes piece
      → back s (change s piece) ≡ piece
  pub same_value : (s : S) (piece : List ℕ) → Good s → length piece ≡ size → AreBytes piece
      → next_back s (change s piece) piece ≡ next s piece (change s piece)

-- work on blocks: what keeps blocks keeps pieces of 16 bytes
pub block_pieces : {S : Type 0} (Good : S → Type 0) (change : S → List ℕ → List ℕ)
    (next : S → List ℕ → List ℕ → S) →
    ((s : S) (block : List ℕ) → Good s → IsBlock block → IsBlock (change s block))
    → ((s : S) (block : List ℕ) → Good s → IsBlock block → Good (next s block (change s block))) →
    KeepsPieces Good 16 change next
block_pieces Good change next keeps hands_on = record {
  length_is =
      λ s piece good long bytes.
      (keeps s piece good (record { length_is = long; are_bytes = bytes })).length_is;
  are_bytes =
      λ s piece good long bytes.
      (keeps s piece good (record { length_is = long; are_bytes = bytes })).are_bytes;
  good = λ s piece good long bytes. hands_on s piece good
      (record { length_is = long; are_bytes = bytes });
}

pub block_pieces_undone : {S : Type 0} (Good : S → Type 0) (change : S → List ℕ → List ℕ)
    (next : S → List ℕ → List ℕ → S) (back : S → List ℕ → List ℕ)
    (next_back : S → List ℕ → List ℕ → S) →
    ((s : S) (block : List ℕ) → Good s → IsBlock block → back s (change s block) ≡ block)
    → ((s : S) (block : List ℕ)
    → next_back s (change s block) block ≡ next s block (change s block)) →
    UndoesPieces Good 16 change next back next_back
block_pieces_undone Good change next back next_back undone same = record {
  undone =
      λ s piece good long bytes. undone s piece good
      (record { length_is = long; are_bytes = bytes });
  same_value = λ s piece _ _ _. same s piece;
}

-- whole blocks are as many pieces
pub whole_blocks : (sector : List ℕ) → length sector % 16 ≡ 0
    → length sector ≡ length sector / 16 * 16
whole_blocks sector whole = omega arith

pub first_piece : (size n : ℕ) (bytes : List ℕ) → length bytes ≡ suc n * size
    → length (take size bytes) ≡ size
first_piece size n bytes long = length-take-le size bytes (grind arith)

pub other_pieces : (size n : ℕ) (bytes : List ℕ) → length bytes ≡ suc n * size
    → length (drop size bytes) ≡ n * size
other_pieces size n bytes long = grind (arith, length-drop)

pub length-worked : {S : Type 0} {Good : S → Type 0} {size : ℕ} {change : S → List ℕ → List ℕ}
    {next : S → List ℕ → List ℕ → S} → KeepsPieces Good size change next →
    (s : S) (n : ℕ) (bytes : List ℕ) → Good s → length bytes ≡ n * size → AreBytes bytes
    → length (worked change next size s n bytes) ≡ length bytes
unfolding worked
length-worked {size} keeps s zero bytes good long in_bytes = omega (arith, long)
length-worked {S} {Good} {size} {change} {next} keeps s (suc n) bytes good long in_bytes =
    let piece : List ℕ = take size bytes in
    let first : length piece ≡ size = first_piece size n bytes long in
    let in_piece : AreBytes piece = bytes-take size bytes in_bytes in
    let others : length (drop size bytes) ≡ n * size = other_pieces size n bytes long in
    let rest =
    length-worked keeps (next s piece (change s piece)) n (drop size bytes)
    (keeps.good s piece good first in_piece) others (bytes-drop size bytes in_bytes) in
    length-append (change s piece)
    (worked change next size (next s piece (change s piece)) n (drop size bytes))
    ∙ ap (λ (m : ℕ). m
    + length (worked change next size (next s piece (change s piece)) n (drop size bytes)))
    (keeps.length_is s piece good first in_piece)
    ∙ ap (λ (m : ℕ). size + m) (rest ∙ others) ∙ grind arith

pub bytes-worked : {S : Type 0} {Good : S → Type 0} {size : ℕ} {change : S → List ℕ → List ℕ}
    {next : S → List ℕ → List ℕ → S} → KeepsPieces Good size change next →
    (s : S) (n : ℕ) (bytes : List ℕ) → Good s → length bytes ≡ n * size → AreBytes bytes
    → AreBytes (worked change next size s n bytes)
unfolding worked
bytes-worked keeps s zero bytes good long in_bytes = no_bytes
bytes-worked {S} {Good} {size} {change} {next} keeps s (suc n) bytes good long in_bytes =
    let piece : List ℕ = take size bytes in
    let first : length piece ≡ size = first_piece size n bytes long in
    let in_piece : AreBytes piece = bytes-take size bytes in_bytes in
    bytes-append (change s piece)
    (worked change next size (next s piece (change s piece)) n (drop size bytes))
    (keeps.are_bytes s piece good first in_piece)
    (bytes-worked keeps (next s piece (change s piece)) n (drop size bytes)
    (keeps.good s piece good first in_piece) (other_pieces size n bytes long)
    (bytes-drop size bytes in_bytes))

pub worked_undone : {S : Type 0} {Good : S → Type 0} {size : ℕ} {change : S → List ℕ → List ℕ}
    {next : S → List ℕ → List ℕ → S} {back : S → List ℕ → List ℕ}
    {next_back : S → List ℕ → List ℕ → S} →
    KeepsPieces Good size change next → UndoesPieces Good size change next back next_back →
    (s : S) (n : ℕ) (bytes : List ℕ) → Good s → length bytes ≡ n * size → AreBytes bytes
    → worked back next_back size s n (worked change next size s n bytes) ≡ bytes
unfolding worked
worked_undone {size} keeps undoes s zero bytes good long in_bytes =
    sym (nil_from_length bytes (omega (arith, long)))
worked_undone {S} {Good} {size} {change} {next} {back} {next_back} keeps undoes s (suc n) bytes good
    long in_bytes =
    let piece : List ℕ = take size bytes in
    let changed : List ℕ = change s piece in
    let others : List ℕ = worked change next size (next s piece changed) n (drop size bytes) in
    let first : length piece ≡ size = first_piece size n bytes long in
    let in_piece : AreBytes piece = bytes-take size bytes in_bytes in
    let front : take size (changed ++ others) ≡ changed =
    take_at changed others size (keeps.length_is s piece good first in_piece) in
    let behind : drop size (changed ++ others) ≡ others =
    drop_at changed others size (keeps.length_is s piece good first in_piece) in
    let undone : back s changed ≡ piece = undoes.undone s piece good first in_piece in
    let rest : worked back next_back size (next s piece changed) n others ≡ drop size bytes =
    worked_undone keeps undoes (next s piece changed) n (drop size bytes)
    (keeps.good s piece good first in_piece) (other_pieces size n bytes long)
    (bytes-drop size bytes in_bytes) in
    rw (front, behind, undone, undoes.same_value s piece good first in_piece, rest)
    (take-append-drop size bytes)
