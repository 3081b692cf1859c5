-- The atoms of the blocks of the zone at hand, on either side, by what the blocks hold in plain; and
-- those that are saved of them.
use Rattle.std.specs.Prelude.{◌+◌, ℕ, List}
use Rattle.crash_laws.specs.HotZones.Zones.{Texts}
use Rattle.plain_disk.specs.Plain.{Block}
use Rattle.segment_map.specs.declared.Side.{Side}
use Rattle.segment_map.specs.declared.Side.TheVariants.{Old, New}
use Rattle.volume_laws.specs.Contents.{block_in}
use Rattle.volume_machine.specs.Saved.{saved_of}
use Rattle.volume_machine.specs.Seals.{Seals}
use Rattle.volume_machine.specs.Works.{Work}

-- an atom of the zone as it is on a side
abbrev pub atom_on : Seals → Work → (ℕ → List ℕ) → Side → ℕ → List ℕ
atom_on seals work content side i =
    seals.sealed side (work.range.start + i) (content (work.range.start + i))

abbrev pub atoms_of : ℕ → Seals → (ℕ → List ℕ) → Work → Texts
atoms_of atom seals content work = record {
  old = atom_on seals work content Old;
  new = atom_on seals work content New;
  saved = saved_of work.zone.resilience atom work.zone.own.count (atom_on seals work content Old);
}

-- by the newest values
abbrev pub newest_in : List Block → ℕ → List ℕ
newest_in left b = (block_in left b).newest

abbrev pub texts_of : ℕ → Seals → List Block → Work → Texts
texts_of atom seals left work = atoms_of atom seals (newest_in left) work
