-- What is made by what is drawn is what the seed gives.
use Rattle.std.proofs.Common.{◌≡◌, ◌∙◌, ℕ, ◌*◌, ◌^◌, ◌<◌, List, Result, Ok, Err}
use Rattle.std.proofs.Common.{IfErr, IfOk, sym, ap, subst}
use Rattle.base_terms.specs.declared.disk_sizes.Sizes.{Sizes}
use Rattle.luks_init.specs.DiskInit.Makings.{IsMade, IsSlotOf, IsUncommitted, IsUnmade, draw_of}
use Rattle.luks_init.specs.declared.init_disk.making.MakeFault.{MakeFault}
use Rattle.luks_init.specs.declared.init_disk.making.MakeFault.TheVariants as makes
use Rattle.luks_init.specs.Begins.{IsBegun}
use Rattle.luks_init.specs.Faults.{IsUnbegun}
use Rattle.luks_init.specs.declared.beginning.Begun.{Begun}
use Rattle.luks_init.specs.declared.fault.InitFault.{InitFault}
use Rattle.luks_init.specs.declared.wish.Wish.{Wish}
use Rattle.luks_slots.specs.KeyMaking.Drawings.{AreDrawn, Draw, drawn_by, drawn_len}
use Rattle.luks_store.specs.declared.loaded.Stored.{Stored}
use Rattle.reenc_meta.specs.Placements.{all_atoms}
use Rattle.sector_disk.specs.Geometry.{IsAtom, IsDisk}
use Rattle.seed_stream.specs.Streams.{bytes_of_seed}
use Rattle.luks_store.specs.declared.slot_commit.writing.SlotCommit.{SlotCommit}

pub drawn_is : (w : Wish) (seed bytes : List ℕ) (n : ℕ) (d : Draw) → d ≡ drawn_by w.key_size bytes
    → bytes ≡ bytes_of_seed seed n → n ≡ drawn_len w.key_size → d ≡ draw_of w seed
drawn_is w seed bytes n d is stretched long =
    is ∙ ap (drawn_by w.key_size) (stretched ∙ ap (bytes_of_seed seed) long)

module _ (header : Stored) (w : Wish) (pass seed : List ℕ) (d : Draw) (same : d ≡ draw_of w seed)
  where
    abbrev BeginsBy : Draw → Begun → Type 0
    BeginsBy e begun = IsBegun header.valid.meta header.valid.sizes w pass e begun

    pub made : (begun : Begun) (slot : SlotCommit) → AreDrawn w.key_size d → BeginsBy d begun
        → IsSlotOf header begun slot → IsMade header w pass seed slot
    made begun slot lengths begins is = record {
      begun = begun;
      begins = subst (λ (e : Draw). BeginsBy e begun) same begins;
      drawn = subst (λ (e : Draw). AreDrawn w.key_size e) same lengths;
      is = is;
    }

    pub unready : (fault : InitFault)
        → IsUnbegun header.valid.meta header.valid.sizes w pass d fault
        → IsUnmade header w pass seed (makes.Unready fault)
    unready fault is =
        subst (λ (e : Draw). IsUnbegun header.valid.meta header.valid.sizes w pass e fault) same is

    pub uncommitted : (begun : Begun) (fault : MakeFault) → BeginsBy d begun
        → IsUncommitted header fault → IsUnmade header w pass seed fault
    uncommitted begun (makes.Unready fault) begins is =
        subst (λ (f : InitFault). IsUnbegun header.valid.meta header.valid.sizes w pass
        (draw_of w seed) f) (sym is) tt
    uncommitted begun (makes.SeqEnd number) begins is =
        (is, (begun, subst (λ (e : Draw). BeginsBy e begun) same begins))

    -- as they are answered
    pub made_if : (begun : Begun) (r : Result SlotCommit MakeFault) → AreDrawn w.key_size d
        → BeginsBy d begun → IfOk r (IsSlotOf header begun) → IfOk r (IsMade header w pass seed)
    made_if begun (Ok slot) lengths begins is = made begun slot lengths begins is
    made_if begun (Err fault) lengths begins is = tt

    pub unmade_if : (begun : Begun) (r : Result SlotCommit MakeFault) → BeginsBy d begun
        → IfErr r (IsUncommitted header) → IfErr r (IsUnmade header w pass seed)
    unmade_if begun (Ok slot) begins is = tt
    unmade_if begun (Err fault) begins is = uncommitted begun fault begins is

-- a disk of some sizes
pub disk_of : (sizes : Sizes) (atoms : ℕ) → IsAtom sizes.atom → all_atoms sizes ≡ atoms
    → atoms * sizes.atom < 2 ^ 63 → IsDisk sizes.atom (all_atoms sizes)
disk_of sizes atoms known all fits = record {
  known = known;
  fits = subst (λ (n : ℕ). n * sizes.atom < 2 ^ 63) (sym all) fits;
}
