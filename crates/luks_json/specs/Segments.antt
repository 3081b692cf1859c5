-- A segment as the members of an object.
use Rattle.std.specs.Prelude.{◌≡◌, ℕ, List, [], ◌∷◌, codes, true}
use Rattle.std.specs.Prelude.{Option, Some, None, option_map, Result, Ok, if◌then◌else◌}
use Rattle.std.specs.Prelude.{decimal, IfSome}
use Rattle.std.specs.Str.{bytes_eq}
use Rattle.serde_json.specs.Data.{Data, string, number, unsigned, array, Members}
use Rattle.json_members.specs.declared.faults.JsonFault.{JsonFault}
use Rattle.json_members.specs.declared.faults.JsonFaultKind.TheVariants.{Number, Unsupported}
use Rattle.json_members.specs.Decimals.{number_of}
use Rattle.json_members.specs.Fields.{◌>>=◌, meant_in, counted_in, decimal_in, texts_in, optional}
use Rattle.json_members.specs.Fields.{absent, texts_data}
use Rattle.json_members.specs.Forms.{HasNone, HasText, HasNumber, HasDecimal, HasTexts, HasOptional}
use Rattle.json_members.specs.Members.{without_all, put_all, put_optional}
use Rattle.luks_meta.specs.declared.segment.Segment.{Segment}
use Rattle.luks_meta.specs.declared.segment.Encryption.{Encryption}
use Rattle.luks_meta.specs.declared.segment.SegmentSize.{SegmentSize}
use Rattle.luks_meta.specs.declared.segment.SegmentSize.TheVariants.{Dynamic, Sized}
use Rattle.luks_json.specs.declared.segment.SegmentType.{SegmentType}
use Rattle.luks_json.specs.declared.segment.SegmentType.TheVariants.{Crypt, Linear}
use Rattle.luks_meta.specs.Names.{cipher_name, cipher_named}
use Rattle.luks_meta.specs.Segments.{is_sector_size, segment_names, IsSize}

abbrev pub type_named : List ℕ → Option SegmentType
type_named name =
    if bytes_eq name (codes "crypt") then Some Crypt else
    (if bytes_eq name (codes "linear") then Some Linear else None)

abbrev pub size_named : List ℕ → Option SegmentSize
size_named text =
    if bytes_eq text (codes "dynamic") then Some Dynamic else option_map Sized (number_of text)

abbrev pub sector_size_of : ℕ → Option ℕ
sector_size_of n = if is_sector_size n then Some n else None

-- ---- from members to a segment
unfoldable pub encryption_in : List ℕ → Members → Result Encryption JsonFault
encryption_in path ms = do
  iv_tweak ← decimal_in path (codes "iv_tweak") ms
  cipher ← meant_in Unsupported cipher_named path (codes "encryption") ms
  sector_size ← counted_in sector_size_of path (codes "sector_size") ms
  Ok (record { iv_tweak = iv_tweak; cipher = cipher; sector_size = sector_size })

abbrev pub encryption_by : SegmentType → List ℕ → Members → Result (Option Encryption) JsonFault
encryption_by Crypt path ms = do
  e ← encryption_in path ms
  Ok (Some e)
encryption_by Linear path ms = Ok None

-- the segment that an object is, or its first fault
unfoldable pub segment_of : List ℕ → Members → Result Segment JsonFault
segment_of path ms = do
  _ ← absent Unsupported path (codes "integrity") ms
  kind ← meant_in Unsupported type_named path (codes "type") ms
  offset ← decimal_in path (codes "offset") ms
  size ← meant_in Number size_named path (codes "size") ms
  encryption ← encryption_by kind path ms
  flags ← optional (codes "flags") ms (texts_in path (codes "flags") ms)
  Ok (record {
    offset = offset;
    size = size;
    encryption = encryption;
    flags = flags;
    rest =
        without_all (segment_names encryption) ms;
  })

-- ---- and back
abbrev pub size_text : SegmentSize → List ℕ
size_text Dynamic = codes "dynamic"
size_text (Sized n) = decimal n

abbrev pub type_name : Option Encryption → List ℕ
type_name None = codes "linear"
type_name (Some e) = codes "crypt"

abbrev pub encryption_fields : Encryption → List (List ℕ × Data)
encryption_fields e =
    (codes "iv_tweak", string (decimal e.iv_tweak))
    ∷ (codes "encryption", string (cipher_name e.cipher))
    ∷ (codes "sector_size", number (unsigned e.sector_size)) ∷ []

abbrev pub put_encryption : Option Encryption → Members → Members
put_encryption None ms = ms
put_encryption (Some e) ms = put_all (encryption_fields e) ms

abbrev pub segment_fields : Segment → List (List ℕ × Data)
segment_fields s =
    (codes "type", string (type_name s.encryption)) ∷ (codes "offset", string (decimal s.offset))
    ∷ (codes "size", string (size_text s.size)) ∷ []

abbrev pub flags_data : Option (List (List ℕ)) → Option Data
flags_data flags = option_map (λ ss. array (texts_data ss)) flags

-- the members of a segment
unfoldable pub segment_members : Segment → Members
segment_members s =
    put_encryption s.encryption
    (put_all (segment_fields s) (put_optional (codes "flags") (flags_data s.flags) s.rest))

-- ---- which members, of which form
pub record HasEncryption (ms : Members) (e : Encryption) : Type 0 where
  pub iv_tweak : HasDecimal (codes "iv_tweak") e.iv_tweak ms
  pub cipher : HasText (codes "encryption") (cipher_name e.cipher) ms
  pub sector_size : HasNumber (codes "sector_size") e.sector_size ms
  pub known : is_sector_size e.sector_size ≡ true

pub record HasSegment (ms : Members) (s : Segment) : Type 0 where
  pub no_integrity : HasNone (codes "integrity") ms
  pub kind : HasText (codes "type") (type_name s.encryption) ms
  pub offset : HasDecimal (codes "offset") s.offset ms
  pub size : HasText (codes "size") (size_text s.size) ms
  pub within : IsSize s.size
  pub encryption : IfSome s.encryption (HasEncryption ms)
  pub flags : HasOptional (codes "flags") (λ flags. HasTexts (codes "flags") flags ms) s.flags ms
  pub rest : s.rest ≡ without_all (segment_names s.encryption) ms
