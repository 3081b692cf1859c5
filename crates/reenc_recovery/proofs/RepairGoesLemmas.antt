-- The calls of a repair write one copy and nothing behind both.
use Rattle.std.proofs.Common.{◌≡◌, inl, inr, ℕ, ◌+◌, ◌≤◌, true, false, List, length}
use Rattle.std.proofs.Common.{refl}
use Rattle.std.proofs.Common.{◌∙◌, arith}
use Rattle.crash_laws.specs.HeaderAreas.Areas.{AreApart}
use Rattle.crash_laws.specs.HeaderAreas.Commits.{ShowsCommit, ShowsRepair, TriesCopy, WritesCopy, begun}
use Rattle.crash_laws.specs.HeaderAreas.Headers.{Copy, Header, IsLaidOut, Layout, place_of, primary, secondary}
use Rattle.crash_laws.specs.HeaderAreas.Promises.{RepairGoes}
use Rattle.base_terms.specs.declared.disk_sizes.Sizes.{Sizes}
use Rattle.sector_disk.specs.DiskViews.Views.{IsOutside, IsSynced, IsThinned, View, view_of_cells}
use Rattle.reenc_recovery.specs.Promises.{RepairGoesOn}
use Rattle.reenc_recovery.specs.Repairing.{ShowsRepairOf}
use Rattle.sector_disk.specs.Cells.{Cell}

-- after the sync both copies are certain
after_sync : (atom : ℕ) (layout : Layout) (header to : Header (List ℕ)) (bad : Copy) (view : View)
    → ShowsCommit atom layout header to begun false view
    → ShowsRepair atom layout header bad true false view
after_sync atom layout header to primary view both = record {
  good = both.second;
  now = λ done. record { now = both.first.now; left = λ i below value has. tt };
}
after_sync atom layout header to secondary view both = record {
  good = both.first;
  now = λ done. record { now = both.second.now; left = λ i below value has. tt };
}

-- what lies behind both copies lies outside of each
behind_both : (atom atoms size : ℕ) (layout : Layout) (copy : Copy) (place : ℕ)
    → IsLaidOut atom atoms size layout → layout.second.start + layout.second.count ≤ place
    → IsOutside (place_of layout copy).start (place_of layout copy).count place
behind_both atom atoms size layout primary place laid from =
    inr (omega (arith, from, laid.first, laid.second))
behind_both atom atoms size layout secondary place laid from = inr from

module _ (goes : RepairGoes) (sizes : Sizes) (layout : Layout) (header : Header (List ℕ))
    (bad : Copy) (first : List ℕ) (old new : List Cell)
    (laid : IsLaidOut sizes.atom sizes.header_atoms (length header.first) layout)
    (count : length new ≡ length old) where
  parts_apart : AreApart layout.first layout.second
  parts_apart = inl (omega (arith, laid.first, laid.second))

  by_write : ShowsRepairOf sizes layout header bad false false first old
      → WritesCopy sizes.atom layout header bad (view_of_cells old) (view_of_cells new)
      → ShowsRepairOf sizes layout header bad true false first new
  by_write shows call = record {
    copies = ((goes sizes.atom layout header header bad (view_of_cells old) (view_of_cells new)
        parts_apart).0 shows.copies).0 call;
    now = λ whole place from below.
        call.outside place (behind_both sizes.atom sizes.header_atoms (length header.first) layout
        bad place laid from)
        ∙ shows.now refl place from (omega (arith, below, count));
    behind = λ place from below value has.
        shows.behind place from (omega (arith, below, count)) value
        (call.tried.outside place (behind_both sizes.atom sizes.header_atoms (length header.first)
        layout bad place laid from) value has);
    long = rw count shows.long;
    header_atoms = rw count shows.header_atoms;
  }

  by_try : ShowsRepairOf sizes layout header bad false false first old
      → TriesCopy sizes.atom layout header bad (view_of_cells old) (view_of_cells new)
      → ShowsRepairOf sizes layout header bad false true first new
  by_try shows call = record {
    copies = ((goes sizes.atom layout header header bad (view_of_cells old) (view_of_cells new)
        parts_apart).0 shows.copies).1 call;
    now = λ whole place from below. absurd (cc);
    behind = λ place from below value has.
        shows.behind place from (omega (arith, below, count)) value
        (call.outside place (behind_both sizes.atom sizes.header_atoms (length header.first) layout
        bad place laid from) value has);
    long = rw count shows.long;
    header_atoms = rw count shows.header_atoms;
  }

  by_sync : ShowsRepairOf sizes layout header bad true false first old
      → IsSynced (view_of_cells old) (view_of_cells new)
      → ShowsRepairOf sizes layout header bad true false first new
  by_sync shows call = record {
    copies = after_sync sizes.atom layout header header bad (view_of_cells new)
        (((goes sizes.atom layout header header bad (view_of_cells old) (view_of_cells new)
        parts_apart).1 shows.copies).0 call);
    now = λ whole place from below. call.current place
        ∙ shows.now refl place from (omega (arith, below, count));
    behind = λ place from below value has. call.candidates place value has
        ∙ shows.now refl place from (omega (arith, below, count));
    long = rw count shows.long;
    header_atoms = rw count shows.header_atoms;
  }

  by_thin : ShowsRepairOf sizes layout header bad true false first old
      → IsThinned (view_of_cells old) (view_of_cells new)
      → ShowsRepairOf sizes layout header bad true true first new
  by_thin shows call = record {
    copies = ((goes sizes.atom layout header header bad (view_of_cells old) (view_of_cells new)
        parts_apart).1 shows.copies).1 call;
    now = λ whole place from below. absurd (cc);
    behind = λ place from below value has.
        shows.behind place from (omega (arith, below, count)) value (call place value has);
    long = rw count shows.long;
    header_atoms = rw count shows.header_atoms;
  }

  pub repair_goes_on : RepairGoesOn sizes layout header bad first old new
  repair_goes_on =
      record { written = by_write; tried = by_try; synced = by_sync; thinned = by_thin }
