-- Volumes that threads may share, by the sizes by which their headers are read.
use Rattle.std.proofs.Common.{◌≡◌, IsSome, None, Option, Some, refl, subst, sym, false}
use Rattle.base_terms.specs.declared.disk_sizes.Sizes.{Sizes}
use Rattle.volume_laws.specs.BesideLanes.Lanes.{BeginsBeside}
use Rattle.shared_volume.specs.Histories.{IsReadSo, MayBeShared}
use Rattle.volume_machine.specs.States.{State}
use Rattle.volume_machine.specs.Works.{Work}
use Rattle.hotzone.specs.ZoneEvents.Readings.{reading_of}

-- some sizes, of a volume that has no work
no_sizes : Sizes
no_sizes = record { atom = 512; header_atoms = 0; main_atoms = 0; detached = false }

module _ {K : Type 0} (start : State K) (shared : MayBeShared start) where
  -- its header is read by some sizes
  reading-at : (work : Option Work) → start.work ≡ work → (sizes : Sizes) × IsReadSo sizes start
  reading-at None is = (no_sizes, λ some. absurd (let none = subst IsSome is some in cc))
  reading-at (Some work) is =
      let (sizes, read, order) = shared.order (subst IsSome (sym is) refl) in
      (sizes, λ some. read)

  pub some-reading : (sizes : Sizes) × IsReadSo sizes start
  some-reading = reading-at start.work refl

  -- by each of them deeds may begin
  pub begins-so : (sizes : Sizes) → IsReadSo sizes start → BeginsBeside (reading_of sizes) start
  begins-so sizes read = record {
    kept = record {
      sound = shared.sound;
      order = λ some. (let (own, read_by, order) = shared.order some in record {
        sound = order.sound;
        works = order.works;
        courses = (read some).courses;
        apart = order.apart;
      });
    };
    idle = shared.idle;
  }
