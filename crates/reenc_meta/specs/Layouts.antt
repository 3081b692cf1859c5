-- The segments of a conversion, and which of them its two digests list.
use Rattle.std.specs.Prelude.{ℕ, ◌+◌, ◌*◌, ◌/◌, ◌^◌, ◌<◌, Bool, true, false, List, [], ◌∷◌, ◌++◌}
use Rattle.std.specs.Prelude.{map, codes, drop, length, not, IfSome, Option, Some, None}
use Rattle.std.specs.Prelude.{if◌then◌else◌}
use Rattle.std.specs.List.{enumerate_from}
use Rattle.luks_meta.specs.declared.digest.Digest.{Digest}
use Rattle.luks_meta.specs.declared.meta.Parts.{Parts}
use Rattle.luks_meta.specs.declared.segment.Encryption.{Encryption}
use Rattle.luks_meta.specs.declared.segment.Segment.{Segment}
use Rattle.luks_meta.specs.declared.segment.SegmentSize.TheVariants.{Sized}
use Rattle.luks_rules.specs.Plans.{same_digest}
use Rattle.luks_rules.specs.declared.extents.Extent.{Extent}
use Rattle.luks_rules.specs.declared.plan.Plan.{Plan}
use Rattle.luks_rules.specs.declared.shape.Progress.{Progress}
use Rattle.reenc_meta.specs.Runs.{runs_of, sides_of}
use Rattle.reenc_meta.specs.declared.runs.Run.{Run}
use Rattle.segment_map.specs.declared.Side.{Side}
use Rattle.segment_map.specs.declared.Side.TheVariants.{Old, New, Zone}
use Rattle.serde_json.specs.Data.{no_members}

-- ---- a live segment
-- the whole segment that a side's blocks are of: the open zone is still the old one's
abbrev pub whole_on : Progress → Side → Extent
whole_on p Old = p.old
whole_on p Zone = p.old
whole_on p New = p.new

abbrev pub flags_on : Side → Option (List (List ℕ))
flags_on Old = None
flags_on Zone = Some (codes "in-reencryption" ∷ [])
flags_on New = None

-- an encryption from so many units of 512 bytes on
abbrev pub encryption_behind : ℕ → Option Encryption → Option Encryption
encryption_behind units None = None
encryption_behind units (Some e) = Some (record e { iv_tweak = e.iv_tweak + units })

-- A run's blocks where their whole segment has them: so many atoms behind its begin, with the IV
-- numbers from there on, and with a size in bytes.
unfoldable pub part_of : ℕ → Extent → Run → Segment
part_of atom whole run = record {
  offset = whole.offset + run.from * atom;
  size = Sized (run.blocks * atom);
  encryption = encryption_behind (run.from * atom / 512) whole.encryption;
  flags = flags_on run.side;
  rest = no_members;
}

-- its offsets, its size and its IV numbers fit 64 bits
pub record HasPlace (atom : ℕ) (whole : Extent) (run : Run) : Type 0 where
  pub offset : whole.offset + run.from * atom < 2 ^ 64
  pub size : run.blocks * atom < 2 ^ 64
  pub numbers : IfSome whole.encryption (λ e. e.iv_tweak + run.from * atom / 512 < 2 ^ 64)

abbrev pub parts_by : ℕ → Progress → List Run → List Segment
parts_by atom p runs = map (λ run. part_of atom (whole_on p run.side) run) runs

-- ---- all segments: the live ones in logical order, and the two whole ones, numbered from 0
abbrev pub segments_by : ℕ → Progress → List Run → List Segment → List (ℕ × Segment)
segments_by atom p runs wholes = enumerate_from 0 (parts_by atom p runs ++ wholes)

-- the two whole ones stand behind the live ones
abbrev pub wholes_of : Progress → List (ℕ × Segment) → List Segment
wholes_of p segments = map (λ s. s.1) (drop p.old.number segments)

-- ---- digests
-- the new digest lists the new parts and the new whole, the old one all others
abbrev pub is_under : Bool → Side → Bool
is_under new Old = not new
is_under new Zone = not new
is_under new New = new

-- the numbers of the segments that one of the two lists, where the first has this number
unfoldable pub numbers_under : Bool → ℕ → List Side → List ℕ
numbers_under new n [] = []
numbers_under new n (side ∷ sides) =
    if is_under new side then n ∷ numbers_under new (n + 1) sides
    else numbers_under new (n + 1) sides

abbrev pub segments_under : Progress → List Side → ℕ → List ℕ
segments_under p sides number =
    if same_digest p.old.digest (Some number) then numbers_under false 0 sides
    else (if same_digest p.new.digest (Some number) then numbers_under true 0 sides else [])

-- The two digests list the segments on their side; another lists none.
abbrev pub listed_by : Progress → List Side → ℕ × Digest → ℕ × Digest
listed_by p sides d = (d.0, record d.1 { segments = segments_under p sides d.0 })

-- ---- the metadata of the same conversion, so far
unfoldable pub laid_out_by : ℕ → Progress → Plan → Parts → Parts
laid_out_by atom p plan m = record m {
  segments = segments_by atom p (runs_of p.conversion.direction plan) (wholes_of p m.segments);
  digests = map (listed_by p (sides_of (runs_of p.conversion.direction plan))) m.digests;
}

-- the conversion, so far: the numbers of the whole segments are those behind the live ones
abbrev pub progress_at : Plan → Progress → Progress
progress_at plan p = record p {
  old = record p.old { number = length (runs_of p.conversion.direction plan) };
  new = record p.new { number = length (runs_of p.conversion.direction plan) + 1 };
  plan = plan;
}
