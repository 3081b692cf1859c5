-- The copy that is used stands where it says, on the header's disk and on both disks as one.
use Rattle.std.proofs.Common.{◌≡◌, ℕ, ◌+◌, ◌≤◌, List, take, drop, Ok, sym, ◌∙◌, ap}
use Rattle.base_terms.specs.declared.disk_sizes.Sizes.{Sizes}
use Rattle.luks_rules.specs.Areas.{header_bytes}
use Rattle.luks_store.proofs.CopyLemmas.{front-part}
use Rattle.luks_store.proofs.LoadLemmas.{copies-stored}
use Rattle.luks_store.specs.Devices.{front_of}
use Rattle.luks_store.specs.Loads.{stored_in}
use Rattle.luks_store.specs.Promises.{UsedStands}
use Rattle.luks_store.specs.declared.loaded.Stored.{Stored}

-- the copy that is used stands on both disks where it says
pub used_stands : UsedStands → (sizes : Sizes) (header : Stored) (all : List ℕ)
    → stored_in sizes (front_of sizes all) ≡ Ok header → (place : ℕ)
    → header.copies.used.header.hdr_offset ≡ place
    → place + header.copies.used.header.hdr_size ≤ header_bytes sizes
    → take header.copies.used.header.hdr_size (drop place all) ≡ header.copies.used.bytes
used_stands stands sizes header all held place at within =
    sym (front-part (header_bytes sizes) place header.copies.used.header.hdr_size all within)
    ∙ ap (λ (n : ℕ). take header.copies.used.header.hdr_size (drop n (front_of sizes all))) (sym at)
    ∙ stands (front_of sizes all) header.copies
    (copies-stored sizes (front_of sizes all) header held)
