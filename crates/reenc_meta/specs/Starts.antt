-- The metadata with which a conversion begins: nothing is converted yet.
use Rattle.std.specs.Prelude.{ℕ, ◌≡◌, ◌+◌, ◌*◌, ◌<◌, ◌^◌, ◌==◌, List, [], ◌∷◌, map, codes, Option}
use Rattle.std.specs.Prelude.{Some}
use Rattle.std.specs.Prelude.{None, option_map, true, if◌then◌else◌, IsSomeAnd}
use Rattle.std.specs.List.{insert}
use Rattle.base_terms.specs.declared.disk_sizes.Sizes.{Sizes}
use Rattle.luks_meta.specs.declared.digest.Digest.{Digest}
use Rattle.luks_meta.specs.declared.keyslot.Keyslot.{Keyslot}
use Rattle.luks_meta.specs.declared.keyslot.Keyslot.TheVariants as keyslots
use Rattle.luks_meta.specs.declared.keyslot.Luks2.{Luks2}
use Rattle.luks_meta.specs.declared.meta.Parts.{Parts}
use Rattle.luks_meta.specs.declared.reencrypt.Direction.{Direction}
use Rattle.luks_meta.specs.declared.reencrypt.Direction.TheVariants.{Forward, Backward}
use Rattle.luks_meta.specs.declared.segment.Segment.{Segment}
use Rattle.luks_rules.specs.Idles.{idle_of}
use Rattle.luks_rules.specs.Rules.{first_fault}
use Rattle.luks_rules.specs.Shapes.{progress_of}
use Rattle.luks_rules.specs.declared.conversions.Conversion.{Conversion}
use Rattle.luks_rules.specs.declared.extents.Extent.{Extent}
use Rattle.luks_rules.specs.declared.extents.Mark.TheVariants as marks
use Rattle.luks_rules.specs.declared.idle.Idle.{Idle}
use Rattle.luks_rules.specs.declared.plan.Plan.{Plan}
use Rattle.luks_rules.specs.declared.shape.Progress.{Progress}
use Rattle.reenc_meta.specs.Layouts.{listed_by, numbers_under, segments_by}
use Rattle.reenc_meta.specs.Runs.{runs_of, sides_of}
use Rattle.reenc_meta.specs.Wishes.{MayStart, config_by, new_whole}
use Rattle.reenc_meta.specs.declared.wish.Wish.{Wish}
use Rattle.serde_json.specs.Data.{no_members}

-- ---- new objects
-- the lowest number, from one on, that none of some entries by rising numbers has
unfoldable pub lowest_from : {X : Type 0} → ℕ → List (ℕ × X) → ℕ
lowest_from n [] = n
lowest_from n (e ∷ es) = if e.0 == n then lowest_from (n + 1) es else n

abbrev pub lowest_free : {X : Type 0} → List (ℕ × X) → ℕ
lowest_free entries = lowest_from 0 entries

-- The entries with a new one of the lowest free number: as many entries are in front of it.
abbrev pub with_new : {X : Type 0} → X → List (ℕ × X) → List (ℕ × X)
with_new x entries = insert entries (lowest_free entries) (lowest_free entries, x)

-- ---- the keyslots: that of the new key, and then that of the conversion
abbrev pub with_slot : Option (Luks2 × Digest) → List (ℕ × Keyslot) → List (ℕ × Keyslot)
with_slot None slots = slots
with_slot (Some key) slots = with_new (keyslots.Luks2 key.0) slots

abbrev pub conversion_slot : Wish → Keyslot
conversion_slot w = keyslots.Reencrypt
    (record { mode = w.mode; direction = w.direction; area = w.area; rest = no_members })

abbrev pub keyslots_by : Wish → List (ℕ × Keyslot) → List (ℕ × Keyslot)
keyslots_by w slots = with_new (conversion_slot w) (with_slot w.key slots)

-- ---- the digests: the old one, and a new one of the new keyslot
abbrev pub with_digest : Option (Luks2 × Digest) → ℕ → List ℕ → List (ℕ × Digest)
    → List (ℕ × Digest)
with_digest None slot segments digests = digests
with_digest (Some key) slot segments digests =
    with_new (record key.1 { keyslots = slot ∷ []; segments = segments }) digests

-- ---- how far the conversion is: all blocks are old
abbrev pub nothing_new : Direction → ℕ → Plan
nothing_new Forward blocks = record { first = 0; zone = 0; last = blocks }
nothing_new Backward blocks = record { first = blocks; zone = 0; last = 0 }

-- the whole old segment, as it was
abbrev pub old_whole : Segment → Segment
old_whole s = record s { flags = Some (codes "backup-previous" ∷ []) }

abbrev pub conversion_for : Wish → List (ℕ × Keyslot) → Conversion
conversion_for w slots = record {
  keyslot = lowest_free (with_slot w.key slots);
  mode = w.mode;
  direction = w.direction;
  resilience = w.area.resilience;
  area = record { offset = w.area.offset; size = w.area.size };
}

abbrev pub old_extent : Idle → Extent
old_extent v = record v.segment { number = 1; mark = marks.Previous }

abbrev pub new_extent : Wish → List (ℕ × Digest) → Segment → Extent
new_extent w digests new = record {
  number = 2;
  offset = new.offset;
  size = new.size;
  encryption = new.encryption;
  mark = marks.Final;
  digest = option_map (λ key. lowest_free digests) w.key;
}

-- the conversion of a volume into a segment, of which nothing is done
unfoldable pub progress_to : Wish → Parts → Idle → Segment → Progress
progress_to w m v new = record {
  conversion = conversion_for w m.keyslots;
  old = old_extent v;
  new = new_extent w m.digests new;
  plan = nothing_new w.direction v.blocks;
}

-- The sizes that are wished have 64 bits.
pub record HaveSizes (w : Wish) : Type 0 where
  pub header : w.header_size < 2 ^ 64
  pub keyslots : w.keyslots_size < 2 ^ 64

-- The numbers of the new objects have.
pub record HaveNumbers (w : Wish) (m : Parts) : Type 0 where
  pub slot : lowest_free m.keyslots < 2 ^ 64
  pub conversion : lowest_free (with_slot w.key m.keyslots) < 2 ^ 64
  pub digest : lowest_free m.digests < 2 ^ 64

-- ---- the metadata
unfoldable pub started_by : ℕ → Wish → Parts → Segment → Segment → Progress → Parts
started_by atom w m old new p =
    let runs = runs_of w.direction p.plan in
    record m {
      keyslots = keyslots_by w m.keyslots;
      segments = segments_by atom p runs (old_whole old ∷ new ∷ []);
      digests =
          with_digest w.key (lowest_free m.keyslots) (numbers_under true 0 (sides_of runs))
          (map (listed_by p (sides_of runs)) m.digests);
      config = config_by w m.config;
    }

-- from this segment to that one
abbrev pub started_to : ℕ → Wish → Parts → Idle → Segment → Segment → Parts
started_to atom w m v old new = started_by atom w m old new (progress_to w m v new)

abbrev pub new_for : ℕ → Wish → Idle → Segment → Segment
new_for atom w v old = new_whole w old (v.blocks * atom)

-- of metadata with one segment, of which nothing is converted
abbrev pub started_from : ℕ → Wish → Parts → Idle → List (ℕ × Segment) → Parts
started_from atom w m v [] = m
started_from atom w m v (s ∷ more) = started_to atom w m v s.1 (new_for atom w v s.1)

abbrev pub started : ℕ → Wish → Parts → Idle → Parts
started atom w m v = started_from atom w m v m.segments

abbrev pub progress_from : ℕ → Wish → Parts → Idle → List (ℕ × Segment) → Option Progress
progress_from atom w m v [] = None
progress_from atom w m v (s ∷ more) = Some (progress_to w m v (new_for atom w v s.1))

-- The next metadata are those of a conversion of which nothing is done. Where there is room for
-- it they break no rule, and are read so.
pub record IsStarted (sizes : Sizes) (w : Wish) (m : Parts) (v : Idle) (next : Parts) : Type 0 where
  pub is : next ≡ started sizes.atom w m v
  pub valid : MayStart m sizes w v → first_fault next sizes ≡ None
  pub progress : MayStart m sizes w v
      → progress_of next sizes ≡ progress_from sizes.atom w m v m.segments

-- of the volume that metadata say
abbrev pub IsStartedFrom : Sizes → Wish → Parts → Parts → Type 0
IsStartedFrom sizes w m next = IsSomeAnd (idle_of m sizes) (λ v. IsStarted sizes w m v next)
