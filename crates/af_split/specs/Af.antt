-- The anti-forensic split of a key (LUKS On-Disk Format, the anti-forensic information splitter).
use Rattle.std.specs.Prelude.{ℕ, zero, suc, ◌-◌, ◌*◌, List, [], ◌++◌, length, take, drop, replicate}
use Rattle.std.specs.Int.{w32, to_be_bytes, div_ceil}
use Rattle.pbkdf2_hmac.specs.declared.Hash.{Hash}
use Rattle.pbkdf2_hmac.specs.Hashes.{digest_of, digest_len}
use Rattle.pbkdf2_hmac.specs.Xor.{xor_bytes}

-- part number i of a string, counted from 0: a digest's length of it, less at its end
abbrev pub part_of : Hash → List ℕ → ℕ → List ℕ
part_of h s i = take (digest_len h) (drop (i * digest_len h) s)

-- the hash of a part's number, in four bytes, high first, and of the part, cut to the part's length
unfoldable pub hashed_part : Hash → ℕ → List ℕ → List ℕ
hashed_part h i part = take (length part) (digest_of h (to_be_bytes w32 i ++ part))

-- the first n parts of a string, each hashed
unfoldable pub hashed_parts : Hash → List ℕ → ℕ → List ℕ
hashed_parts h s zero = []
hashed_parts h s (suc n) = hashed_parts h s n ++ hashed_part h n (part_of h s n)

-- H: all parts of a string, each hashed
unfoldable pub diffused : Hash → List ℕ → List ℕ
diffused h s = hashed_parts h s (div_ceil (length s) (digest_len h))

-- stripe number k, counted from 0, of stripes of a size
abbrev pub stripe_of : ℕ → List ℕ → ℕ → List ℕ
stripe_of size stripes k = take size (drop (k * size) stripes)

-- d_k: d_0 is zeros, and each further one is H of the one before under exclusive or with a stripe
unfoldable pub chain : Hash → ℕ → List ℕ → ℕ → List ℕ
chain h size stripes zero = replicate size 0
chain h size stripes (suc k) =
    diffused h (xor_bytes (chain h size stripes k) (stripe_of size stripes k))

-- the split of a key in n stripes: all of those drawn but the last, and then d_(n-1) xor the key
unfoldable pub split_of : Hash → List ℕ → ℕ → List ℕ → List ℕ
split_of h key n drawn =
    take ((n - 1) * length key) drawn ++ xor_bytes (chain h (length key) drawn (n - 1)) key

-- the key of n stripes of a size: d_(n-1) xor the last
unfoldable pub merged : Hash → ℕ → ℕ → List ℕ → List ℕ
merged h size n stripes = xor_bytes (chain h size stripes (n - 1)) (stripe_of size stripes (n - 1))
