-- The data of a reply to LIST: what is read of it, and its text.
use Rattle.std.proofs.Common.{◌≡◌, ℕ, ◌+◌, ◌-◌, ◌^◌, ◌<◌, List, [], ◌++◌, length, take, drop, ap}
use Rattle.std.proofs.Common.{◌∙◌, sym, arith, append-nil, length-append, length-drop, take_all}
use Rattle.std.proofs.Common.{slice_range}
use Rattle.nbd_wire.specs.Fields.{u32_text}
use Rattle.nbd_wire.specs.ListReplies.{name_text}
use Rattle.nbd_wire.proofs.FieldLemmas.{u32-front, u32-length, field-behind}

-- the name whose length stands before it
name-there : (bytes : List ℕ) (n : ℕ) → length bytes ≡ 4 + n
    → u32_text n ≡ slice_range bytes 0 4 → name_text (drop 4 bytes) ≡ bytes
unfolding name_text
name-there bytes n size front =
    let long : length (drop 4 bytes) ≡ n = omega (arith, length-drop 4 bytes, size) in
    field-behind bytes _ _ 0 4 (omega arith) (ap u32_text long ∙ front) (append-nil (drop 4 bytes))

-- how long a text is, by what was read of it
pub name-length : (bytes name : List ℕ) → name_text name ≡ bytes → length bytes ≡ 4 + length name
unfolding name_text
name-length bytes name e =
    omega (
      arith,
      ap length (sym e),
      length-append (u32_text (length name)) (name ++ []),
      u32-length (length name),
      ap length (append-nil name),
    )

pub name-number : (bytes name : List ℕ) (n : ℕ) → length name < 2 ^ 32 → n < 2 ^ 32
    → name_text name ≡ bytes → u32_text n ≡ slice_range bytes 0 4 → n ≡ length name
unfolding name_text
name-number bytes name n short fits e here =
    u32-front (length name) n (name ++ []) bytes short fits e here

name-behind : (bytes name : List ℕ) → name_text name ≡ bytes → drop 4 bytes ≡ name
unfolding name_text u32_text
name-behind bytes name e = ap (drop 4) (sym e) ∙ append-nil name

-- all that is behind the length
rear-all : (bytes : List ℕ) → take (length bytes - 4) (drop 4 bytes) ≡ drop 4 bytes
rear-all bytes = take_all (length bytes - 4) (drop 4 bytes) (omega (arith, length-drop 4 bytes))

pub listed-taken : (bytes : List ℕ) (n : ℕ) → n < 2 ^ 32 → length bytes ≡ 4 + n
    → u32_text n ≡ slice_range bytes 0 4
    → (length (take (length bytes - 4) (drop 4 bytes)) < 2 ^ 32)
    × (name_text (take (length bytes - 4) (drop 4 bytes)) ≡ bytes)
listed-taken bytes n fits size front =
    rw (rear-all bytes)
    (omega (arith, length-drop 4 bytes, size, fits), name-there bytes n size front)

pub listed-only : (bytes name : List ℕ) → name_text name ≡ bytes
    → take (length bytes - 4) (drop 4 bytes) ≡ name
listed-only bytes name e = rear-all bytes ∙ name-behind bytes name e
