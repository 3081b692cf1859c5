-- How far a conversion goes: a zone is opened, and the boundary moves over it.
use Rattle.std.specs.Prelude.{ℕ, ◌≡◌, ◌+◌, ◌-◌, ◌<◌, ◌≤◌, true, Some, None}
use Rattle.base_terms.specs.declared.disk_sizes.Sizes.{Sizes}
use Rattle.luks_meta.specs.declared.meta.Parts.{Parts}
use Rattle.luks_meta.specs.declared.reencrypt.Direction.{Direction}
use Rattle.luks_meta.specs.declared.reencrypt.Direction.TheVariants.{Forward, Backward}
use Rattle.luks_meta.specs.declared.reencrypt.Resilience.{Resilience}
use Rattle.luks_meta.specs.declared.reencrypt.Resilience.TheVariants.{Journal, Checksum, Datashift}
use Rattle.luks_rules.specs.Plans.{blocks_in}
use Rattle.luks_rules.specs.Rooms.{capacity}
use Rattle.luks_rules.specs.Rules.{first_fault}
use Rattle.luks_rules.specs.Shapes.{may_open, progress_of}
use Rattle.luks_rules.specs.declared.plan.Plan.{Plan}
use Rattle.luks_rules.specs.declared.shape.Progress.{Progress}
use Rattle.reenc_meta.specs.Layouts.{laid_out_by, progress_at}

-- the blocks that are old and in no zone
abbrev pub old_blocks : Direction → Plan → ℕ
old_blocks Forward plan = plan.last
old_blocks Backward plan = plan.first

-- the first old blocks beside the boundary become a zone
abbrev pub opened : Direction → ℕ → Plan → Plan
opened Forward n plan =
    record { first = plan.first; zone = n; last = plan.last - n }
opened Backward n plan =
    record { first = plan.first - n; zone = n; last = plan.last }

-- so many blocks beside the boundary become new; no zone is open then
abbrev pub moved : Direction → ℕ → Plan → Plan
moved Forward n plan =
    record { first = plan.first + n; zone = 0; last = plan.zone + plan.last - n }
moved Backward n plan =
    record { first = plan.first + plan.zone - n; zone = 0; last = plan.last + n }

-- A zone may be opened where none is, unless blocks are shifted: of a block at least, and of as
-- many at most as there is room for and as are left.
pub record MayOpen (atom : ℕ) (p : Progress) (blocks : ℕ) : Type 0 where
  pub closed : p.plan.zone ≡ 0
  pub kept : may_open p.conversion.resilience blocks ≡ true
  pub some : 0 < blocks
  pub room : blocks ≤ capacity atom p
  pub left : blocks ≤ old_blocks p.conversion.direction p.plan

-- The boundary moves over the open zone; where blocks are shifted, over as many as the shift has
-- room for and as are left.
abbrev pub MayMoveBy : Resilience → ℕ → ℕ → ℕ → ℕ → Type 0
MayMoveBy Journal zone room left blocks = blocks ≡ zone
MayMoveBy (Checksum n) zone room left blocks = blocks ≡ zone
MayMoveBy (Datashift n) zone room left blocks = (blocks ≤ room) × (blocks ≤ left)

pub record MayMove (atom : ℕ) (p : Progress) (blocks : ℕ) : Type 0 where
  pub some : 0 < blocks
  pub by : MayMoveBy p.conversion.resilience p.plan.zone (capacity atom p)
      (old_blocks p.conversion.direction p.plan) blocks

-- ---- a later state of the same conversion
-- no block that is new is old again
abbrev pub IsOnward : Direction → Plan → Plan → Type 0
IsOnward Forward now next = now.first ≤ next.first
IsOnward Backward now next = now.last ≤ next.last

-- the same volume, further on, with a zone that there is room for
pub record MayBecome (atom : ℕ) (p : Progress) (plan : Plan) : Type 0 where
  pub blocks : blocks_in plan ≡ blocks_in p.plan
  pub onward : IsOnward p.conversion.direction p.plan plan
  pub room : plan.zone ≤ capacity atom p
  pub kept : may_open p.conversion.resilience plan.zone ≡ true

-- The next metadata are those of the conversion so far, and nothing else of the header changes;
-- they break no rule, and are read as so far.
pub record IsGoneTo (m : Parts) (sizes : Sizes) (p : Progress) (plan : Plan) (next : Parts)
    : Type 0 where
  pub is : next ≡ laid_out_by sizes.atom p plan m
  pub valid : first_fault next sizes ≡ None
  pub progress : progress_of next sizes ≡ Some (progress_at plan p)
