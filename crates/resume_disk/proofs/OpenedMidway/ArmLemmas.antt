-- A volume that takes what its conversion needs.
use Rattle.std.proofs.Common.{◌≡◌, ◌∙◌, ℕ, zero, suc, true, false, length, Option, Some}
use Rattle.std.proofs.Common.{None, refl, sym, ap, subst, arith}
use Rattle.std.specs.Option.{IsSomeAnd}
use Rattle.resume_disk.specs.OpenedMidway.Openings.{armed_volume}
use Rattle.resume_disk.specs.OpenedMidway.Runs.{FitsVolume}
use Rattle.hotzone.proofs.MadeLemmas.{known-by}
use Rattle.hotzone.specs.Sites.{IsSaved}
use Rattle.hotzone.specs.Workers.{MayGoOn}
use Rattle.sector_disk.specs.JoinedDisks.Counts.{HasSizes}
use Rattle.luks_rules.specs.Segments.{in_progress}
use Rattle.luks_rules.specs.Shapes.{progress_of}
use Rattle.luks_rules.specs.declared.shape.Progress.{Progress}
use Rattle.luks_rules.specs.declared.valid.Checked.{Checked}
use Rattle.luks_store.specs.declared.loaded.Stored.{Stored}
use Rattle.reenc_meta.specs.ConversionMaps.{IsMapAt, IsMapOf}
use Rattle.reenc_meta.specs.Placements.{all_atoms}
use Rattle.sector_disk.specs.Devices.{Device}
use Rattle.sector_disk.specs.Geometry.{IsDisk}
use Rattle.segment_map.specs.declared.map.Map.{Map}
use Rattle.volume_core.specs.Zones.{HasArmed}
use Rattle.volume_machine.specs.Beginnings.{IsFresh, new_volume}
use Rattle.volume_machine.specs.Sound.{IsSound, MapFits}
use Rattle.volume_machine.specs.States.{State}
use Rattle.volume_machine.specs.declared.keys.Keys.{Keys}
use Rattle.hotzone.proofs.ZoneEvents.GroundLemmas.{busy-of}
use Rattle.hotzone.specs.ZoneEvents.Promises.{IsLaneFree}

-- ---- the header at hand
-- a conversion is under way by it
some_progress : (found : Option Progress)
    → IsSomeAnd found (λ now. (now.plan.zone ≡ 0) × IsSaved now.conversion.resilience)
    → (now : Progress) × (found ≡ Some now)
some_progress None may = absurd may
some_progress (Some now) may = (now, refl)

pub is_busy : (header : Stored) → MayGoOn header → in_progress header.valid.meta.config ≡ true
is_busy header may =
    let now = some_progress (progress_of header.valid.meta header.valid.sizes) may in
    busy-of header.valid.meta header.valid.sizes now.0 now.1

pub never_idle : (header : Stored) → MayGoOn header
    → in_progress header.valid.meta.config ≡ false → ⊥
never_idle header may idle = (let e : true ≡ false = sym (is_busy header may) ∙ idle in cc)

-- no zone of it is open
pub no_zone : (header : Stored) (now : Progress) (map : Map)
    → progress_of header.valid.meta header.valid.sizes ≡ Some now → MayGoOn header
    → IsMapAt header.valid.sizes now map → map.zone ≡ 0
no_zone header now map known may is = is.zone ∙ (known-by _ _ now known may).0

-- ---- its disk
pub disk_is : (header : Stored) (device : Device) → HasSizes header.valid.sizes device
    → IsDisk device.size device.atoms
    → IsDisk header.valid.sizes.atom (all_atoms header.valid.sizes)
disk_is header device sized is =
    (let all : all_atoms header.valid.sizes ≡ device.atoms = sized.all in rw (sized.atom, all) is)

pub map_fits : {C : Type 0} (sector : C → ℕ) (header : Stored) (keys : Keys C) (map : Map)
    (device : Device) → FitsVolume sector header keys → HasSizes header.valid.sizes device
    → IsMapOf header.valid.meta header.valid.sizes map → MapFits map device.atoms
map_fits sector header keys map device fits sized is =
    let all : all_atoms header.valid.sizes ≡ device.atoms = sized.all in
    subst (λ n. MapFits map n) all (fits.maps map is)

-- ---- the volume
-- the last lane of one that has begun is free
pub lane_free : {K : Type 0} (volume : State K) → IsSound volume → IsFresh volume
    → IsLaneFree volume
lane_free volume sound fresh = go (length volume.lanes) refl
  where
    go : (n : ℕ) → length volume.lanes ≡ n → IsLaneFree volume
    go zero none = absurd (let some = sound.some in omega (arith, some, none))
    go (suc n) many = record { lane = n; last = sym many; free = fresh.lanes n }

-- with its conversion's work
pub record IsArmed {C : Type 0} (header : Stored) (map : Map) (keys : Keys C) (lanes : ℕ)
    (device : Device) (volume : State (Keys C)) : Type 0 where
  pub map_is : volume.map ≡ map
  pub keys_are : volume.keys ≡ keys
  pub disk_is : volume.disk ≡ device
  pub armed : volume ≡ armed_volume header lanes volume

pub armed_is : {C : Type 0} (header : Stored) (map : Map) (keys : Keys C) (lanes : ℕ)
    (device : Device) (before volume : State (Keys C))
    → before ≡ new_volume map keys lanes device → HasArmed header before volume
    → IsArmed header map keys lanes device volume
armed_is {C} header map keys lanes device before volume begun armed =
    let made = subst (λ (v : State (Keys C)). HasArmed header v volume) begun armed in
    subst (λ (v : State (Keys C)). IsArmed header map keys lanes device v) (sym made) (record {
      map_is = refl;
      keys_are = refl;
      disk_is = refl;
      armed = refl;
    })

-- a header that says what another one says is one by which a conversion is under way
pub same_busy : (valid : Checked) (header : Stored) → valid ≡ header.valid → MayGoOn header
    → in_progress valid.meta.config ≡ false → ⊥
same_busy valid header same may idle =
    never_idle header may (ap (λ (v : Checked). in_progress v.meta.config) (sym same) ∙ idle)

pub map_by : (valid : Checked) (header : Stored) (now : Progress) (map : Map)
    → valid ≡ header.valid → progress_of valid.meta valid.sizes ≡ Some now
    → IsMapAt valid.sizes now map → IsMapOf header.valid.meta header.valid.sizes map
map_by valid header now map same known is =
    subst (λ (v : Checked). IsMapOf v.meta v.sizes map) same (now, known, is)

pub closed_by : (header : Stored) (map : Map) → MayGoOn header
    → IsMapOf header.valid.meta header.valid.sizes map → map.zone ≡ 0
closed_by header map may (now, known, is) = no_zone header now map known may is
