-- A disk alone as a disk of a header and a volume, and what reading it leaves.
use Rattle.std.proofs.Common.{◌≡◌, ◌∙◌, ◌*◌, ◌^◌, ◌<◌, ◌≤◌, [], ℕ, List}
use Rattle.std.proofs.Common.{length, take}
use Rattle.std.proofs.Common.{Bool, false, Option, Some, Result, Ok, Err, ap}
use Rattle.std.proofs.Common.{sym, subst}
use Rattle.std.proofs.Common.{inl, inr, arith, if◌then◌else◌, IfErr, IfOk, take_all}
use Rattle.base_terms.specs.declared.disk_sizes.Sizes.{Sizes}
use Rattle.sector_disk.specs.JoinedDisks.Counts.{has_head, joint_in, sizes_of}
use Rattle.sector_disk.specs.JoinedDisks.Joined.{Joint, begun_joint, both_faults, both_values, joined_disk}
use Rattle.sector_disk.specs.JoinedDisks.Joined.{nothing}
use Rattle.sector_disk.specs.JoinedDisks.Joined.{used_atoms}
use Rattle.sector_disk.specs.declared.joined.joined.JoinedDisk.{JoinedDisk}
use Rattle.luks_store.specs.Devices.{front_of}
use Rattle.luks_store.specs.Loads.{Answers, HasCause, Says, stored_in}
use Rattle.luks_store.specs.declared.fault.StoreFault.{StoreFault}
use Rattle.luks_store.specs.declared.fault.StoreFault.TheVariants as faults
use Rattle.luks_store.specs.declared.loaded.Stored.{Stored}
use Rattle.sector_disk.specs.Devices.{Device}
use Rattle.sector_disk.specs.Geometry.{IsAtom, IsDisk}
use Rattle.sector_disk.specs.declared.device.Disk.{Ghosts}
use Rattle.header_report.specs.Examinations.{Explains, Tells, sizes_alone}

-- a fault of a later read has its cause from the start on
pub cause-later : (old mid new : Device) (fault : StoreFault) → old.faults ≤ mid.faults →
    HasCause mid new fault → HasCause old new fault
cause-later old mid new faults.Memory later cause = tt
cause-later old mid new faults.Device later (inl risen) = inl (omega arith)
cause-later old mid new faults.Device later (inr last) = inr last
cause-later old mid new (faults.NoHeader p s) later cause = tt
cause-later old mid new (faults.CopiesDiffer s p) later cause = tt
cause-later old mid new (faults.Json f) later cause = tt
cause-later old mid new (faults.Rule f) later cause = tt

-- behind no head the main disk's count alone decides
cause-alone : (old new main main' : Device) (fault : StoreFault) →
    old.faults ≡ both_faults 0 main.faults → new.faults ≡ both_faults 0 main'.faults →
    HasCause old new fault → HasCause main main' fault
cause-alone old new main main' faults.Memory was is cause = tt
cause-alone old new main main' faults.Device was is (inl risen) =
    inl (omega (arith, risen, was, is))
cause-alone old new main main' faults.Device was is (inr last) = inr (omega (arith, last, is))
cause-alone old new main main' (faults.NoHeader p s) was is cause = tt
cause-alone old new main main' (faults.CopiesDiffer s p) was is cause = tt
cause-alone old new main main' (faults.Json f) was is cause = tt
cause-alone old new main main' (faults.Rule f) was is cause = tt

-- so does the cause of what is told
pub cause-told : (old new main main' : Device) (loaded : Result Stored StoreFault)
    (told : Result (List ℕ) StoreFault) → old.faults ≡ both_faults 0 main.faults →
    new.faults ≡ both_faults 0 main'.faults → IfErr loaded (λ fault. HasCause old new fault) →
    Explains loaded told → IfErr told (λ fault. HasCause main main' fault)
cause-told old new main main' (Ok stored) (Ok text) was is cause same = tt
cause-told old new main main' (Ok stored) (Err fault) was is cause same =
    subst (λ (f : StoreFault). HasCause main main' f) (sym same) tt
cause-told old new main main' (Err fault) told was is cause same =
    subst (λ (t : Result (List ℕ) StoreFault). IfErr t (λ f. HasCause main main' f)) (sym same)
    (cause-alone old new main main' fault was is cause)

-- all atoms of a disk are used
pub all_used : (size atoms : ℕ) → IsDisk size atoms → used_atoms size 0 atoms ≡ atoms
all_used size atoms disk = by_size size disk.known disk.fits
  where
    by_size : (s : ℕ) → IsAtom s → atoms * s < 2 ^ 63 → used_atoms s 0 atoms ≡ atoms
    by_size s (inl is) fits = rw is (omega (arith, rw is at fits))
    by_size s (inr is) fits = rw is (omega (arith, rw is at fits))

-- the sizes of a disk alone
pub alone_sizes : {D : Type 0} {shown : Ghosts D} (joined : JoinedDisk D shown) (device : Device) →
    IsDisk device.size device.atoms → joint_in joined ≡ begun_joint (nothing device.size) device →
    has_head joined ≡ false → (sizes_of joined).atom ≡ device.size →
    sizes_of joined ≡ sizes_alone device
alone_sizes joined device disk joint none atom =
    let used : joined.used ≡ device.atoms = ap (λ (j : Joint). j.used) joint
    ∙ all_used device.size device.atoms disk in
    let front : (sizes_of joined).header_atoms ≡ device.atoms =
    ap (λ (b : Bool). if b then joined.base else joined.used) none ∙ used in
    λ i. record {
      atom = atom i;
      header_atoms = front i;
      main_atoms = used i;
      detached = none i;
    }

-- and what it shows
pub alone_values : (device : Device) (bytes : List ℕ) → IsDisk device.size device.atoms →
    device.values ≡ Some bytes → length bytes ≡ device.atoms * device.size →
    (joined_disk (begun_joint (nothing device.size) device)).values ≡ Some bytes
alone_values device bytes disk is long =
    ap (both_values (used_atoms device.size 0 device.atoms * device.size) (Some [])) is
    ∙ ap Some (ap (λ n. take (n * device.size) bytes) (all_used device.size device.atoms disk)
    ∙ take_all (device.atoms * device.size) bytes (omega (arith, long)))

pub whole_front : (device : Device) (bytes : List ℕ) → length bytes ≡ device.atoms * device.size →
    front_of (sizes_alone device) bytes ≡ bytes
whole_front device bytes long = take_all (device.atoms * device.size) bytes (omega (arith, long))

-- what is loaded of the joined disk is what the disk alone holds
pub answers_alone : (device : Device) (sizes : Sizes) (values : Option (List ℕ))
    (loaded : Result Stored StoreFault) → sizes ≡ sizes_alone device →
    ((all : List ℕ) → device.values ≡ Some all → length all ≡ device.atoms * device.size) →
    ((all : List ℕ) → device.values ≡ Some all → values ≡ Some all) →
    ((all : List ℕ) → values ≡ Some all → Answers loaded (stored_in sizes (front_of sizes all))) →
    (all : List ℕ) → device.values ≡ Some all → Answers loaded (stored_in (sizes_alone device) all)
answers_alone device sizes values loaded same long shown held all is =
    subst (λ (bytes : List ℕ). Answers loaded (stored_in (sizes_alone device) bytes))
    (whole_front device all (long all is))
    (subst (λ (s : Sizes). Answers loaded (stored_in s (front_of s all))) same
    (held all (shown all is)))

pub tells_by : (device : Device) (loaded : Result Stored StoreFault)
    (told : Result (List ℕ) StoreFault) →
    ((all : List ℕ) → device.values ≡ Some all →
    Answers loaded (stored_in (sizes_alone device) all)) →
    IfOk loaded (λ stored. stored.valid.sizes ≡ sizes_alone device) → Explains loaded told →
    Tells device told
tells_by device (Ok stored) (Ok text) held sized same =
    record { stored = stored; sizes = sized; text_is = same; held = held }
tells_by device (Ok stored) (Err fault) held sized same = λ bytes is.
    subst (λ (f : StoreFault). Says f (stored_in (sizes_alone device) bytes)) (sym same) tt
tells_by device (Err fault) told held sized same =
    subst (λ (t : Result (List ℕ) StoreFault). Tells device t) (sym same) held
