-- A disk that holds its bytes for certain shows the beginning of a repair.
use Rattle.std.proofs.Common.{◌≡◌, ℕ, false, List, length, take, drop, sym, ◌∙◌, ap}
use Rattle.crash_laws.specs.HeaderAreas.Commits.{other}
use Rattle.crash_laws.specs.HeaderAreas.Headers.{Copy, Header, IsLaidOut, Layout, byte_of, text_of}
use Rattle.base_terms.specs.declared.disk_sizes.Sizes.{Sizes}
use Rattle.luks_store.proofs.SettledLemmas.{current_is, shows_copy}
use Rattle.luks_store.specs.Devices.{IsCertain}
use Rattle.reenc_recovery.specs.Repairing.{ShowsRepairOf}
use Rattle.reenc_recovery.proofs.JoinedLemmas.{long_joined}
use Rattle.sector_disk.specs.Cells.{Cell, currents}

module _ (sizes : Sizes) (layout : Layout) (size : ℕ) (first : List ℕ) (cells : List Cell)
    (certain : IsCertain sizes first cells)
    (laid : IsLaidOut sizes.atom sizes.header_atoms size layout) where
  pub begins : (header : Header (List ℕ)) (bad : Copy)
      → take size (drop (byte_of size (other bad)) first) ≡ text_of header (other bad)
      → ShowsRepairOf sizes layout header bad false false first cells
  begins header bad stands = record {
    copies = record {
      good = shows_copy sizes layout size first cells certain laid (other bad)
          (text_of header (other bad)) false stands;
      now = λ done. absurd (cc);
    };
    now = λ whole place from below. current_is sizes layout size first cells certain laid place
        below;
    behind = λ place from below value has.
        certain.only place value has
        ∙ current_is sizes layout size first cells certain laid place below;
    long = ap length (sym certain.holds)
        ∙ long_joined sizes.atom (length cells) (currents cells) certain.even;
    header_atoms = certain.header_atoms;
  }
