-- What passed the checks of an opening, and what was refused.
use Rattle.std.proofs.Common.{◌≡◌, ℕ, ◌+◌, ◌*◌, ◌^◌, ◌<◌, ◌≤◌, Bool, true, false, if◌then◌else◌}
use Rattle.std.proofs.Common.{List, Option, Result, Ok, refl, sym, ◌∙◌, ap, subst}
use Rattle.base_terms.specs.declared.disk_sizes.Sizes.{Sizes}
use Rattle.luks_rules.specs.Areas.{header_bytes}
use Rattle.luks_rules.specs.States.{IsSound}
use Rattle.luks_rules.specs.declared.valid.Checked.{Checked}
use Rattle.luks_store.specs.Devices.{header_room}
use Rattle.luks_store.specs.Loads.{HasCause, IsStored, Says}
use Rattle.luks_store.specs.Used.{Refusal}
use Rattle.luks_store.specs.declared.fault.StoreFault.{StoreFault}
use Rattle.luks_store.specs.declared.loaded.Stored.{Stored}
use Rattle.reenc_meta.specs.Placements.{all_atoms}
use Rattle.reenc_meta.specs.declared.placement.Placement.{Placement}
use Rattle.reenc_recovery.specs.Causes.{HasCauseIn, IsCauseIn, IsRefusedVolume, cause_of}
use Rattle.reenc_recovery.specs.Openings.{HasPassed, IsOpening}
use Rattle.reenc_recovery.specs.declared.fault.OpenCause.{OpenCause}
use Rattle.reenc_recovery.proofs.OpenCauseLemmas.{caused, refused_cause, said_cause}
use Rattle.sector_disk.specs.Devices.{Device}
use Rattle.sector_disk.specs.Geometry.{IsAtom, IsDisk}
use Rattle.volume_machine.specs.declared.keys.Keys.{Keys}

-- where the header has no disk of its own, its disk is the main one
room_by : (detached : Bool) (header main atom : ℕ) → (detached ≡ false → header ≡ main)
    → (if detached then header * atom else main * atom) ≡ header * atom
room_by true header main atom alone = refl
room_by false header main atom alone = ap (λ n. n * atom) (sym (alone refl))

pub room_of : (sizes : Sizes) → (sizes.detached ≡ false → sizes.header_atoms ≡ sizes.main_atoms)
    → header_room sizes ≡ header_bytes sizes
room_of sizes alone = room_by sizes.detached sizes.header_atoms sizes.main_atoms sizes.atom alone

-- its sizes are those of a disk
pub disk_of : (sizes now : Sizes) (atoms : ℕ) → now ≡ sizes → IsAtom sizes.atom
    → all_atoms sizes ≡ atoms → atoms * sizes.atom < 2 ^ 63 → IsDisk now.atom (all_atoms now)
disk_of sizes now atoms same known all fits =
    subst (λ (z : Sizes). IsDisk z.atom (all_atoms z)) (sym same) (record {
      known = known;
      fits = subst (λ (n : ℕ). n * sizes.atom < 2 ^ 63) (sym all) fits;
    })

pub has_passed : {C : Type 0} (sector : C → ℕ) (sealed opened : C → ℕ → List ℕ → List ℕ)
    (sizes : Sizes) (key : Option (List ℕ)) (header : Stored) (valid : Checked) (p : Placement)
    (keys : Keys C) → valid ≡ header.valid → IsStored header → header.valid.sizes ≡ sizes
    → IsSound valid.meta valid.sizes
    → header.valid.meta.config.json_size + 4096 ≡ header.copies.used.header.hdr_size
    → 2 * header.copies.used.header.hdr_size ≤ header_room header.valid.sizes
    → header_room sizes ≡ header_bytes sizes
    → IsOpening sector sealed opened valid.meta valid.sizes key p keys
    → p.map.zone ≡ 0 → HasPassed sector sealed opened sizes key header p keys
has_passed sector sealed opened sizes key header valid p keys is stored same sound size room one
    opening closed = record {
      stored = stored;
      sizes_are = same;
      sound = subst (λ (z : Sizes). IsSound header.valid.meta z) same
          (subst (λ (v : Checked). IsSound v.meta v.sizes) is sound);
      begin = ap (λ n. 2 * n) size;
      room = subst (λ (n : ℕ). 2 * header.copies.used.header.hdr_size ≤ n)
          (ap (λ (z : Sizes). header_room z) same ∙ one) room;
      opening = subst (λ (z : Sizes). IsOpening sector sealed opened header.valid.meta z key p keys)
          same (subst (λ (v : Checked). IsOpening sector sealed opened v.meta v.sizes key p keys) is
          opening);
      closed = closed;
    }

-- no header was loaded
pub said : (sizes : Sizes) (key : Option (List ℕ)) (held : Result Stored Refusal)
    (fault : StoreFault) (cause : OpenCause) → cause ≡ cause_of fault → Says fault held
    → IsCauseIn sizes key held cause
said sizes key held fault cause is says =
    subst (λ (c : OpenCause). IsCauseIn sizes key held c) (sym is)
    (said_cause sizes key held fault says)

pub by_load : (old new : Device) (fault : StoreFault) (cause : OpenCause) → cause ≡ cause_of fault
    → HasCause old new fault → HasCauseIn old new cause
by_load old new fault cause is has =
    subst (λ (c : OpenCause). HasCauseIn old new c) (sym is) (caused old new fault has)

-- a header was loaded, and its volume refused
pub refused_in : (sizes : Sizes) (key : Option (List ℕ)) (header : Stored) (cause : OpenCause)
    (held : Result Stored Refusal) → header.valid.sizes ≡ sizes → held ≡ Ok header
    → IsRefusedVolume header.valid.meta header.valid.sizes key cause
    → IsCauseIn sizes key held cause
refused_in sizes key header cause held same is refusal =
    refused_cause sizes key held header cause is
    (subst (λ (z : Sizes). IsRefusedVolume header.valid.meta z key cause) same refusal)
