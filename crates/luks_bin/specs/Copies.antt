-- Copies of a header as bytes (LUKS2 On-Disk Format Specification 1.1, section 2.1).
use Rattle.std.specs.Prelude.{◌≡◌, ◌⊎◌, ℕ, ◌≤◌, ◌==◌, ◌&&◌, ◌||◌, nat_le, not, List, [], ◌∷◌, ◌++◌}
use Rattle.std.specs.Prelude.{length, take, drop, replicate, codes, Bool, true, false, Result, Ok}
use Rattle.std.specs.Prelude.{Err, if◌then◌else◌}
use Rattle.std.specs.List.{list_any, take_while}
use Rattle.std.specs.Str.{bytes_eq}
use Rattle.sha2.specs.Sha256.{sha256}
use Rattle.luks_bin.specs.Fields.{field, u16_in, u64_in, is_size}
use Rattle.luks_bin.specs.declared.header.BinFault.{BinFault}
use Rattle.luks_bin.specs.declared.header.BinFault.TheVariants.{Magic, Version, Size, Place}
use Rattle.luks_bin.specs.declared.header.BinFault.TheVariants.{Algorithm, Checksum, Text}
use Rattle.luks_bin.specs.declared.header.BinHeader.{BinHeader}

-- "LUKS" and "SKUL", and two bytes more
unfoldable pub magic_of : ℕ → List ℕ
magic_of place =
    if place == 0 then codes "LUKS" ++ 186 ∷ 190 ∷ [] else codes "SKUL" ++ 186 ∷ 190 ∷ []

abbrev pub algorithm : List ℕ
algorithm = codes "sha256" ++ 0 ∷ []

-- the sum of a whole copy, its own field taken as zeros
unfoldable pub sum_of : List ℕ → List ℕ
sum_of copy = sha256 (take 448 copy ++ replicate 64 0 ++ drop 512 copy)

-- the field of a sum
unfoldable pub sum_field : List ℕ → List ℕ
sum_field sum = sum ++ replicate 32 0

abbrev pub holds_nul : List ℕ → Bool
holds_nul text = list_any (λ byte. byte == 0) text

-- the bytes in front of the first NUL, or all
unfoldable pub up_to_nul : List ℕ → List ℕ
up_to_nul bytes = take_while (λ byte. not (byte == 0)) bytes

-- The text of a copy's JSON area: it ends before the area's first NUL, or with the area.
unfoldable pub text_of : List ℕ → List ℕ
text_of copy = up_to_nul (drop 4096 copy)

-- ---- the first fault, or what follows where there is none
infixl 10 ◌>>=◌
abbrev pub ◌>>=◌ : {A B : Type 0} → Result A BinFault → (A → Result B BinFault) → Result B BinFault
(Ok x) >>= rest = rest x
(Err fault) >>= rest = Err fault

abbrev pub wanted : Bool → BinFault → Result (Unit {0}) BinFault
wanted true fault = Ok tt
wanted false fault = Err fault

-- a copy of this size that states this place stands at it: a secondary's place is its size
abbrev pub stands_at : ℕ → ℕ → ℕ → Bool
stands_at place size stated = stated == place && (place == 0 || size == place)

-- The size of the copy at a place where so many bytes are there, the first of them `head`.
unfoldable pub size_of : ℕ → ℕ → List ℕ → Result ℕ BinFault
size_of place there head = do
  _ ← wanted (nat_le 4096 there) (Size there)
  _ ← wanted (bytes_eq (field 0 6 head) (magic_of place)) Magic
  _ ← wanted (u16_in 6 head == 2) (Version (u16_in 6 head))
  _ ← wanted (is_size (u64_in 8 head)) (Size (u64_in 8 head))
  _ ← wanted (nat_le (u64_in 8 head) there) (Size there)
  _ ← wanted (stands_at place (u64_in 8 head) (u64_in 256 head)) (Place (u64_in 256 head))
  Ok (u64_in 8 head)

-- The header of a whole copy, where its first four fields are right.
unfoldable pub header_of : List ℕ → Result BinHeader BinFault
header_of copy = do
  _ ← wanted (bytes_eq (field 72 7 copy) algorithm) Algorithm
  _ ← wanted (bytes_eq (field 448 64 copy) (sum_field (sum_of copy)))
      (Checksum (field 448 64 copy) (sum_of copy))
  _ ← wanted (holds_nul (field 24 48 copy)) (Text 24)
  _ ← wanted (holds_nul (field 168 40 copy)) (Text 168)
  _ ← wanted (holds_nul (field 208 48 copy)) (Text 208)
  Ok (record {
    hdr_size = u64_in 8 copy;
    seqid = u64_in 16 copy;
    label = field 24 48 copy;
    salt = field 104 64 copy;
    uuid = field 168 40 copy;
    subsystem = field 208 48 copy;
    hdr_offset = u64_in 256 copy;
  })

-- The header of the copy that bytes from a place on begin with, or their first fault.
unfoldable pub copy_of : ℕ → List ℕ → Result BinHeader BinFault
copy_of place bytes = do
  size ← size_of place (length bytes) bytes
  header_of (take size bytes)

-- ---- in plain words
-- These bytes are the copy of this header, and stand where it says.
pub record IsCopy (copy : List ℕ) (h : BinHeader) : Type 0 where
  pub whole : length copy ≡ h.hdr_size
  pub one_of_nine : is_size h.hdr_size ≡ true
  pub place : (h.hdr_offset ≡ 0) ⊎ (h.hdr_offset ≡ h.hdr_size)
  pub magic : field 0 6 copy ≡ magic_of h.hdr_offset
  pub version : u16_in 6 copy ≡ 2
  pub hdr_size : u64_in 8 copy ≡ h.hdr_size
  pub seqid : u64_in 16 copy ≡ h.seqid
  pub label : field 24 48 copy ≡ h.label
  pub label_ends : holds_nul h.label ≡ true
  pub checksum_alg : field 72 7 copy ≡ algorithm
  pub salt : field 104 64 copy ≡ h.salt
  pub uuid : field 168 40 copy ≡ h.uuid
  pub uuid_ends : holds_nul h.uuid ≡ true
  pub subsystem : field 208 48 copy ≡ h.subsystem
  pub subsystem_ends : holds_nul h.subsystem ≡ true
  pub hdr_offset : u64_in 256 copy ≡ h.hdr_offset
  pub csum : field 448 64 copy ≡ sum_field (sum_of copy)

-- Bytes from a place on begin with the copy of this header.
pub record BeginsWithCopy (place : ℕ) (bytes : List ℕ) (h : BinHeader) : Type 0 where
  pub there : h.hdr_size ≤ length bytes
  pub here : h.hdr_offset ≡ place
  pub copy : IsCopy (take h.hdr_size bytes) h
