-- What words ask of a new segment: how its data are encrypted, and how its key is opened.
use Rattle.std.specs.Prelude.{ℕ, ◌≡◌, ◌%◌, ◌≤◌, ◌==◌, ◌&&◌, ◌||◌, Bool, true, List, codes}
use Rattle.std.specs.Prelude.{Option, Some, None, if◌then◌else◌}
use Rattle.clap.specs.Walk.{Row, Text, first_of}
use Rattle.luks_meta.specs.Names.{cipher_named}
use Rattle.luks_meta.specs.Segments.{is_sector_size}
use Rattle.luks_meta.specs.declared.names.Cipher.{Cipher}
use Rattle.luks_meta.specs.declared.names.Cipher.TheVariants.{AesXtsPlain64, AesCbcEssivSha256}
use Rattle.command_line.specs.Values.{◌>>=◌, number_or}
use Rattle.command_line.specs.declared.segment.NewSegment.{NewSegment}

-- the value of `--cipher`, or its default
unfoldable pub cipher_or_default : Option Text → Option Cipher
cipher_or_default None = Some AesXtsPlain64
cipher_or_default (Some word) = cipher_named word

-- the bytes that a cipher's key may have: XTS has two keys of AES in one
unfoldable pub has_key_size : Cipher → ℕ → Bool
has_key_size AesXtsPlain64 size = (size == 32) || (size == 64)
has_key_size AesCbcEssivSha256 size = (size == 16) || (size == 32)

unfoldable pub default_key_size : Cipher → ℕ
default_key_size AesXtsPlain64 = 64
default_key_size AesCbcEssivSha256 = 32

-- the value of `--key-size`, or the cipher's default
unfoldable pub key_size_or_default : Cipher → Option Text → Option ℕ
key_size_or_default cipher word = do
  size ← number_or (default_key_size cipher) 16 64 word
  if has_key_size cipher size then Some size else None

-- the value of `--sector-size`, or its default: whole sectors are in an atom
unfoldable pub sector_size_or_default : ℕ → Option Text → Option ℕ
sector_size_or_default atom word = do
  size ← number_or 512 512 4096 word
  if is_sector_size size && (atom % size == 0) then Some size else None

-- a new segment of a volume on a disk of such atoms, by the values of its words
unfoldable pub segment_by : ℕ → (Text → Option Text) → Option NewSegment
segment_by atom value = do
  cipher ← cipher_or_default (value (codes "cipher"))
  key_size ← key_size_or_default cipher (value (codes "key-size"))
  sector_size ← sector_size_or_default atom (value (codes "sector-size"))
  iterations ← number_or 100000 1000 268435456 (value (codes "iterations"))
  Some (record {
    cipher = cipher;
    key_size = key_size;
    sector_size = sector_size;
    iterations = iterations;
  })

abbrev pub segment_in : ℕ → List Row → Option NewSegment
segment_in atom rows = segment_by atom (λ name. first_of name rows)

-- the values of a new segment are within their bounds
pub record IsNewSegment (atom : ℕ) (segment : NewSegment) : Type 0 where
  pub key : has_key_size segment.cipher segment.key_size ≡ true
  pub sector : is_sector_size segment.sector_size ≡ true
  pub sectors : atom % segment.sector_size ≡ 0
  pub some_rounds : 1000 ≤ segment.iterations
  pub most_rounds : segment.iterations ≤ 268435456
