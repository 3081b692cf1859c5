-- Segments that have a text.
use Rattle.std.specs.Prelude.{◌≡◌, ℕ, ◌^◌, ◌<◌, ◌||◌, ◌==◌, List, [], ◌∷◌, codes, Bool, true}
use Rattle.std.specs.Prelude.{Option, Some, None, IfSome}
use Rattle.json_members.specs.Members.{Lacks, IsPlain}
use Rattle.luks_meta.specs.declared.segment.Segment.{Segment}
use Rattle.luks_meta.specs.declared.segment.Encryption.{Encryption}
use Rattle.luks_meta.specs.declared.segment.SegmentSize.{SegmentSize}
use Rattle.luks_meta.specs.declared.segment.SegmentSize.TheVariants.{Dynamic, Sized}

abbrev pub is_sector_size : ℕ → Bool
is_sector_size n = (n == 512) || (n == 1024) || (n == 2048) || (n == 4096)

-- the names of a segment's members
abbrev pub segment_names : Option Encryption → List (List ℕ)
segment_names None = codes "type" ∷ codes "offset" ∷ codes "size" ∷ codes "flags" ∷ []
segment_names (Some e) =
    codes "type" ∷ codes "offset" ∷ codes "size" ∷ codes "flags" ∷ codes "iv_tweak"
    ∷ codes "encryption" ∷ codes "sector_size" ∷ []

abbrev pub IsSize : SegmentSize → Type 0
IsSize Dynamic = Unit {0}
IsSize (Sized n) = n < 2 ^ 64

-- segments that have a text
pub record IsEncryption (e : Encryption) : Type 0 where
  pub iv_tweak : e.iv_tweak < 2 ^ 64
  pub sector_size : is_sector_size e.sector_size ≡ true

pub record IsSegment (s : Segment) : Type 0 where
  pub offset : s.offset < 2 ^ 64
  pub size : IsSize s.size
  pub encryption : IfSome s.encryption IsEncryption
  pub lacks : Lacks (codes "integrity" ∷ segment_names s.encryption) s.rest
  pub plain : IsPlain 124 s.rest
