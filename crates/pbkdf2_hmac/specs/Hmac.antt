-- HMAC (RFC 2104, section 2).
use Rattle.std.specs.Prelude.{ℕ, ◌-◌, List, ◌++◌, length, map, replicate, bit_xor, nat_lt}
use Rattle.std.specs.Prelude.{if◌then◌else◌}
use Rattle.pbkdf2_hmac.specs.declared.Hash.{Hash}
use Rattle.pbkdf2_hmac.specs.Hashes.{digest_of, block_len}

-- a key longer than a block is hashed first
abbrev pub short_key : Hash → List ℕ → List ℕ
short_key h key = if nat_lt (block_len h) (length key) then digest_of h key else key

-- the key with zeros appended up to a block
abbrev pub key_block : Hash → List ℕ → List ℕ
key_block h key = short_key h key ++ replicate (block_len h - length (short_key h key)) 0

-- a block, each byte under exclusive or with one byte of padding
unfoldable pub padded : List ℕ → ℕ → List ℕ
padded block pad = map (λ x. bit_xor pad x) block

abbrev pub padded_key : Hash → List ℕ → ℕ → List ℕ
padded_key h key pad = padded (key_block h key) pad

-- H(K xor opad, H(K xor ipad, text))
unfoldable pub hmac_of : Hash → List ℕ → List ℕ → List ℕ
hmac_of h key text =
    digest_of h (padded_key h key 0x5C ++ digest_of h (padded_key h key 0x36 ++ text))
