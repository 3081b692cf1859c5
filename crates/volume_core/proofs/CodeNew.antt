-- A volume that has begun is sound.
use Rattle.std.proofs.Common.{List, None, Option, [], ap, false, length, refl, replicate, slice_get}
use Rattle.std.proofs.Common.{subst, suc, sym, zero, ℕ, ◌^◌, ◌++◌, ◌-◌, ◌<◌, ◌∙◌, ◌≡◌, ◌≢◌}
use Rattle.std.proofs.lemmas.List.{length-replicate}
use Rattle.segment_map.specs.Sides.{sides}
use Rattle.segment_map.specs.declared.Side.{Side}
use Rattle.segment_map.specs.declared.Side.TheVariants.{New, Old, Zone}
use Rattle.segment_map.specs.declared.map.Map.{Map}
use Rattle.volume_machine.specs.Pieces.{known_side, side_in}
use Rattle.volume_machine.specs.Seals.{KeysFit}
use Rattle.volume_machine.specs.Sound.{IsSound, MapFits, count_locks}
use Rattle.volume_machine.specs.States.{open_at}
use Rattle.sector_disk.specs.Devices.{Device}
use Rattle.range_lock.specs.Locks.{Locks}
use Rattle.segment_map.specs.declared.Direction.{Direction}
use Rattle.segment_map.specs.declared.Direction.TheVariants.{Backward, Forward}
use Rattle.volume_machine.specs.declared.{keys.Keys.Keys, open.Open.Open}
use Rattle.volume_core.specs.Volumes.{IsVolume, state_of}

no_open : (n lane : ℕ) → open_at (replicate n None) lane ≡ None
no_open zero lane = refl
no_open (suc n) zero = refl
no_open (suc n) (suc lane) = no_open n lane

no_locks : (n : ℕ) → count_locks (replicate n None) ≡ 0
unfolding count_locks
no_locks zero = refl
no_locks (suc n) = no_locks n

-- a run of blocks beside an open zone, at the end and in front of others
last_run : (side : Side) (n b : ℕ)
    → side ≢ Zone → known_side (slice_get (replicate n side) b) ≢ Zone
last_run side zero b other is = absurd (cc)
last_run side (suc n) zero other is = other is
last_run side (suc n) (suc b) other is = last_run side n b other is

first_run : (side : Side) (n : ℕ) (rest : List Side) (b : ℕ) → side ≢ Zone
    → ((k : ℕ) → known_side (slice_get rest k) ≢ Zone)
    → known_side (slice_get (replicate n side ++ rest) b) ≢ Zone
first_run side zero rest b other beside is = beside b is
first_run side (suc n) rest zero other beside is = other is
first_run side (suc n) rest (suc b) other beside is = first_run side n rest b other beside is

none_zoned : (direction : Direction) (blocks boundary b : ℕ)
    → known_side (slice_get (sides direction blocks boundary 0) b) ≢ Zone
none_zoned Forward blocks boundary b = first_run New boundary (replicate (blocks - boundary - 0)
    Old) b (λ is. absurd (cc)) (λ k. last_run Old (blocks - boundary - 0) k (λ is. absurd (cc)))
none_zoned Backward blocks boundary b = first_run Old (boundary - 0) (replicate (blocks - boundary)
    New) b (λ is. absurd (cc)) (λ k. last_run New (blocks - boundary) k (λ is. absurd (cc)))

-- a map without an open zone has no block in one
none_in_zone : (map : Map) (b : ℕ) → map.zone ≡ 0 → side_in map b ≢ Zone
none_in_zone map b closed is = none_zoned map.direction map.blocks map.boundary b (subst (λ zone.
    known_side (slice_get (sides map.direction map.blocks map.boundary zone) b) ≡ Zone) closed is)

module _ (map : Map) (table : Locks) (lanes : List (Option Open)) (n : ℕ) (disk : Device) where
  pub new-sound : {K : Type 0} (keys : K) → 0 < n → MapFits map disk.atoms → map.zone ≡ 0 →
      table.room ≡ n → table.entries ≡ [] → lanes ≡ replicate n None →
      IsSound (state_of map keys table lanes false None disk)
  new-sound keys some fits closed room entries are = record {
    fits = fits;
    room = room ∙ sym (length-replicate {A = Option Open} n None) ∙ rw are refl;
    some = rw (are, length-replicate {A = Option Open} n None) some;
    count = rw (entries, are) (sym (no_locks n));
    entries = λ lane. rw (entries, are, no_open n lane) refl;
    once = λ lane. rw entries refl;
    under_way = λ lane o is. absurd (let none = no_open n lane in let found = rw are at is in cc);
    zoned = λ b is. absurd (none_in_zone map b closed is);
  }

  pub new-volume : {C : Type 0} (sector : C → ℕ) (keys : Keys C) → 0 < n → n < 2 ^ 32 →
      map.atom ≡ disk.size →
      MapFits map disk.atoms → map.zone ≡ 0 → KeysFit sector keys map.atom map.blocks →
      table.room ≡ n → table.entries ≡ [] → lanes ≡ replicate n None →
      IsVolume sector None (state_of map keys table lanes false None disk)
  new-volume sector keys some few atom fits closed keys_fit room entries are = record {
    atom = atom;
    sound = new-sound keys some fits closed room entries are;
    keys = keys_fit;
    few = subst (λ k. k < 2 ^ 32) (sym (ap length are ∙ length-replicate {A = Option Open} n None)) few;
    led = tt;
  }
