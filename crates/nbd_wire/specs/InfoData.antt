-- The data of INFO and GO ("NBD_OPT_INFO and NBD_OPT_GO" of the NBD protocol document).
use Rattle.std.specs.Prelude.{ℕ, ◌≡◌, ◌<◌, ◌+◌, ◌*◌, ◌/◌, ◌%◌, ◌^◌, ◌==◌, nat_lt, if◌then◌else◌}
use Rattle.std.specs.Prelude.{List, [], ◌∷◌, length, slice_index, slice_range, Option, Some, None}
use Rattle.std.specs.Int.{w16, w32, from_be_bytes}
use Rattle.nbd_wire.specs.Fields.{message, u16_text, u32_text}

-- The name's length is in its range, the types have two bytes each, and so is their count.
pub record IsInfoData (name types : List ℕ) : Type 0 where
  pub name_fits : length name < 2 ^ 32
  pub even : length types % 2 ≡ 0
  pub types_fit : length types < 2 ^ 17

-- u32 length of the name, the name, u16 count of types, the types
unfoldable pub info_data_text : (name types : List ℕ) → List ℕ
info_data_text name types =
    message (u32_text (length name) ∷ name ∷ u16_text (length types / 2) ∷ types ∷ [])

-- a number of two and of four bytes at a place
abbrev pub number2 : List ℕ → ℕ → ℕ
number2 xs at = from_be_bytes w16 (slice_index xs at ∷ slice_index xs (at + 1) ∷ [])

abbrev pub number4 : List ℕ → ℕ → ℕ
number4 xs at =
    from_be_bytes w32 (slice_index xs at ∷ slice_index xs (at + 1) ∷ slice_index xs
    (at + 2) ∷ slice_index xs (at + 3) ∷ [])

-- the name in such data, by its numbers; None of data that isn't exactly this
abbrev pub info_name_of : ℕ → List ℕ → Option (List ℕ)
info_name_of len body =
    if nat_lt (length body) (6 + len) then None
    else (if length body == 6 + len + 2 * number2 body (4 + len)
    then Some (slice_range body 4 (4 + len)) else None)

unfoldable pub info_name : List ℕ → Option (List ℕ)
info_name body = if nat_lt (length body) 6 then None else info_name_of (number4 body 0) body
