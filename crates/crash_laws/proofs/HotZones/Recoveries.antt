-- Lemmas on what a recovery finds of a zone.
use Rattle.std.proofs.Common.{◌≡◌, ℕ, ◌+◌, ◌≤◌, inl, inr, false, List, length, replicate, sym, ◌∙◌}
use Rattle.std.proofs.Common.{ap, arith}
use Rattle.base_terms.specs.Blocks.{lengths}
use Rattle.crash_laws.proofs.HeaderAreas.ImagesTaken.{image_taken}
use Rattle.crash_laws.specs.HeaderAreas.Areas.{Area, Takes}
use Rattle.crash_laws.specs.HeaderAreas.Headers.{Layout, IsLaidOut}
use Rattle.sector_disk.proofs.DiskViews.Entries.{image_in}
use Rattle.sector_disk.specs.DiskViews.Parts.{value_in}
use Rattle.sector_disk.specs.DiskViews.Views.{View, view_of_cells}
use Rattle.crash_laws.specs.HotZones.Promises.{IsFound, IsJudged}
use Rattle.crash_laws.specs.HotZones.Standing.{Hash, TellsDigest, IsZoneImage, IsWithin}
use Rattle.crash_laws.specs.HotZones.Zones.{Hotzone, Texts, mending, ShowsZone}
use Rattle.sector_disk.specs.Cells.{Cell, IsImage}

pub zone_resumes : {M : Type 0} (atom : ℕ) (layout : Layout) (zone : Hotzone M) (texts : Texts)
    (view : View)
    → IsFound atom layout zone texts view → ShowsZone atom layout zone texts (mending 0) false view
zone_resumes atom layout zone texts view found = record {
  own = record {
    now = λ whole i below. (λ less. absurd (omega (arith, less)), λ from. found.own i below);
    left = λ i below value has. rw (found.own_settled i below value has) (found.own i below);
  };
  target = record { now = λ whole i below. tt; left = λ i below value has. tt };
  store = record {
    now = λ whole i below. found.store i below;
    left = λ i below value has. found.store_settled i below value has ∙ found.store i below;
  };
  header = found.header;
}

pub atom_judged : (hash : Hash) (told own old new : List ℕ) → TellsDigest hash told own old new
    → IsJudged hash told own old new
atom_judged hash told own old new tells = record {
  as_old = λ same. elim tells.either [
    | inl is ↦ is
    | inr is ↦ absurd (tells.differs (ap hash.digest (sym is) ∙ same))
  ];
  as_new = λ differs. elim tells.either [
    | inl is ↦ absurd (differs (ap hash.digest is ∙ sym tells.is_old))
    | inr is ↦ is
  ];
  is_told = λ is. ap hash.digest is ∙ sym tells.is_old;
}

-- an image of a table takes a candidate of each atom of an area on the disk
area_taken : (cells : List Cell) (image : List (List ℕ)) (area : Area) → IsImage cells image
    → area.start + area.count ≤ length cells
    → Takes (view_of_cells cells) (value_in image) area
area_taken cells image area is within i below =
    image_in cells image (area.start + i) is (omega (arith, below, within))

pub zone_image_taken : {M : Type 0} (atom size : ℕ) (layout : Layout) (zone : Hotzone M)
    (cells : List Cell) (image : List (List ℕ)) → IsImage cells image
    → lengths image ≡ replicate (length cells) atom → IsLaidOut atom (length cells) size layout
    → IsWithin (length cells) zone
    → IsZoneImage atom (length cells) size layout zone (view_of_cells cells) (value_in image)
zone_image_taken atom size layout zone cells image is even laid within = record {
  header = (image_taken atom size layout cells image is even laid).0;
  own = area_taken cells image zone.own is within.own;
  target = area_taken cells image zone.target is within.target;
  store = area_taken cells image zone.store is within.store;
}
