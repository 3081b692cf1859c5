-- Behind the last step by which an open zone is written again both copies of the header stand with the
-- boundary moved, as the volume goes on by it.
use Rattle.std.proofs.Common.{◌≡◌, ◌∙◌, ℕ, Bool, true, false, List, length, Result, Ok, Err, Some}
use Rattle.std.proofs.Common.{ap, refl, subst, sym}
use Rattle.base_terms.specs.declared.failed.Failed.{Failed as Failure}
use Rattle.crash_laws.specs.HeaderAreas.Commits.{ShowsCommit, begun as commit_begun}
use Rattle.crash_laws.specs.HeaderAreas.Headers.{Header, Layout}
use Rattle.base_terms.specs.declared.disk_sizes.Sizes.{Sizes}
use Rattle.sector_disk.specs.DiskViews.Views.{view_of_bytes, view_of_cells}
use Rattle.hotzone.specs.Headings.{FollowsBy}
use Rattle.hotzone.specs.Headings.{FollowsBy}
use Rattle.hotzone.specs.Known.{header_by}
use Rattle.hotzone.specs.declared.site.Site.{Site}
use Rattle.luks_bin.specs.declared.header.BinHeader.{BinHeader}
use Rattle.luks_store.specs.Devices.{IsCertain}
use Rattle.luks_store.specs.Promises.{AreasBeginBehind}
use Rattle.luks_store.specs.declared.copies.Copies.{Copies}
use Rattle.luks_store.specs.declared.loaded.Stored.{Stored}
use Rattle.recovery_laws.proofs.Resumed.ShowLemmas.{shown-both}
use Rattle.sector_disk.specs.Devices.{Device}
use Rattle.sector_disk.specs.Steps.{Told}
use Rattle.volume_machine.specs.Seals.{Seals}
use Rattle.hotzone.proofs.ZoneEvents.HeadLemmas.{header-behind}
use Rattle.hotzone.specs.ZoneEvents.Heads.{header_on}
use Rattle.hotzone.specs.ZoneEvents.Works.{layout_for}
use Rattle.image_laws.proofs.Led.LawLemmas.{begun}
use Rattle.image_laws.proofs.Led.MendStepLemmas.{goes-one, same-on}
use Rattle.image_laws.proofs.Led.RunLemmas.{Carries, carried, known-own, one-told, over-before}
use Rattle.image_laws.proofs.Led.StartLemmas.{Begun, Laws, start}
use Rattle.image_laws.proofs.Led.ZoneLemmas.{atom-is}
use Rattle.image_laws.specs.Led.Holding.{TellsLawfully}
use Rattle.image_laws.specs.Led.Promises.{MendsFrom}
use Rattle.image_laws.specs.Led.Runs.{MendRun, none, one_more}
use Rattle.zone_mending.specs.Known.{IsKnown, IsThrough}
use Rattle.zone_mending.specs.Promises.{seals_in}
use Rattle.zone_mending.specs.Steps.{Fails, Goes, Steps, find_fails, lay_fails, move_fails}
use Rattle.zone_mending.specs.Steps.{read_fails, settle_fails, write_fails}
use Rattle.zone_mending.specs.declared.mender.Mender.{Mender}

-- ---- the header to come stays along a run
fails-moved : {C : Type 0} (seals : Seals) (old new : Device) (before after : Mender C)
    → Fails seals old new before after → after.moved.loaded ≡ before.moved.loaded
fails-moved {C} seals old new before after (read_fails done by at call failed) =
    ap (λ (m : Mender C). m.moved.loaded) failed.is
fails-moved {C} seals old new before after (lay_fails done by at call failed) =
    ap (λ (m : Mender C). m.moved.loaded) failed.is
fails-moved {C} seals old new before after (find_fails done at call failed) =
    ap (λ (m : Mender C). m.moved.loaded) failed.is
fails-moved {C} seals old new before after (write_fails done at call failed) =
    ap (λ (m : Mender C). m.moved.loaded) failed.is
fails-moved {C} seals old new before after (settle_fails at call failed) =
    ap (λ (m : Mender C). m.moved.loaded) failed.is
fails-moved {C} seals old new before after (move_fails at call failed) =
    ap (λ (m : Mender C). m.moved.loaded) failed.is

steps-moved : {C : Type 0} (seals : Seals) (old new : Device) (before after : Mender C)
    (result : Result Bool Failure) → Steps seals old new before after result
    → after.moved.loaded ≡ before.moved.loaded
steps-moved seals old new before after (Ok last) made =
    (same-on seals old new before after last made).moved
steps-moved seals old new before after (Err fault) made = fails-moved seals old new before after made

pub run-moved : {C : Type 0} (seal unseal : C → ℕ → List ℕ → List ℕ) (m : Mender C) (old : Device)
    (after : Mender C) (new : Device) (result : Result Bool Failure)
    → MendRun seal unseal m old after new result → after.moved.loaded ≡ m.moved.loaded
run-moved seal unseal m old after new result none = refl
run-moved seal unseal m old last end answer (one_more before after at new result run steps tells) =
    steps-moved (seals_in seal unseal before) at end before last answer steps
    ∙ run-moved seal unseal m old before at (Ok false) run

-- ---- behind the last step
module _ {C : Type 0} {sector : C → ℕ} {sealed opened : C → ℕ → List ℕ → List ℕ} {m : Mender C}
    {old : Device} {layout : Layout} {old_key new_key bytes : List ℕ}
    (laws : Laws sector sealed opened)
    (b : Begun sector sealed opened m old layout old_key new_key bytes) where
  abbrev Shown : Told → Type 0
  Shown now =
      ShowsCommit m.loaded.valid.sizes.atom layout (header_by m.moved.commit)
      (header_by m.moved.commit) commit_begun false (view_of_cells now.now)

  ends-shown : (before after : Mender C) (at new : Device) → Carries laws b before at
      → TellsLawfully new → Goes (seals_in sealed opened before) at new before after true
      → (now : Told) → new.told ≡ Some now → Shown now
  ends-shown before after at new c tells made now now_is =
      let one = goes-one (seals_in sealed opened before) at new before after true made now now_is in
      let k = c.told one.mid one.told in
      let shown = (start b laws k.0 k.1).0 in
      let texts = (start b laws k.0 k.1).1 in
      let led = laws.ends layout shown texts before after at new now
      (over-before laws b before after at new c tells) made now_is in
      let step = subst (λ (t : Told).
      IsKnown (seals_in sealed opened before) layout shown texts before (view_of_cells t.now)
      → IsThrough layout shown texts before after (view_of_cells t.now) (view_of_cells now.now))
      (one-told led.0 one.mid at.told led.1 one.told) led.2 in
      let through = step (known-own laws b before after at new c tells shown texts one.mid k.2.known) in
      let atom : before.site.atom ≡ m.loaded.valid.sizes.atom =
      ap (λ (s : Site). s.atom) c.same.site ∙ atom-is sector m b.mends in
      subst (λ (h : Header (List ℕ)). ShowsCommit m.loaded.valid.sizes.atom layout h h commit_begun
      false (view_of_cells now.now)) c.same.header
      (subst (λ (a : ℕ). ShowsCommit a layout (header_by before.moved.commit)
      (header_by before.moved.commit) commit_begun false (view_of_cells now.now)) atom
      (through.shows.header (header_by before.moved.commit)))

  pub run-shown : (after : Mender C) (new : Device) (result : Result Bool Failure)
      → MendRun sealed opened m old after new result → result ≡ Ok true → (now : Told)
      → new.told ≡ Some now → Shown now
  run-shown after new result none is now now_is = absurd cc
  run-shown after new result (one_more before last at end answer run steps tells) is now now_is =
      go answer steps is (carried laws b before at (Ok false) run refl)
    where
      go : (r : Result Bool Failure) → Steps (seals_in sealed opened before) at end before last r
          → r ≡ Ok true → Carries laws b before at → Shown now
      go (Ok true) made is c = ends-shown before last at end c tells made now now_is
      go (Ok false) made is c = absurd cc
      go (Err fault) made is c = absurd cc

-- ---- from the beginning as the law of these steps names it
-- what the disk shows of both copies behind it, by its bytes
abbrev pub ShowsNext : Sizes → Stored → List ℕ → Type 0
ShowsNext sizes next bytes =
    ShowsCommit sizes.atom (layout_for sizes.atom next.copies.used.header.hdr_size) (header_on next)
    (header_on next) commit_begun false (view_of_bytes sizes.atom bytes)

module _ {C : Type 0} {sector : C → ℕ} {sealed opened : C → ℕ → List ℕ → List ℕ}
    (laws : Laws sector sealed opened) (areas : AreasBeginBehind) (m after : Mender C)
    (old new : Device) (old_key new_key bytes : List ℕ)
    (run : MendRun sealed opened m old after new (Ok true)) where
  module _ (from : MendsFrom sector sealed opened m.loaded.valid.sizes m.loaded old_key new_key bytes
      m old) (salt : length m.loaded.copies.secondary.salt ≡ 64) (now : List ℕ) (told : Told)
      (told_is : new.told ≡ Some told) (certain : IsCertain m.loaded.valid.sizes now told.now) where
    abbrev follows : FollowsBy m.loaded m.moved
    follows = from.mends.moves.follows

    same-size : m.moved.loaded.copies.used.header.hdr_size
        ≡ m.loaded.copies.used.header.hdr_size
    same-size =
        ap (λ (c : Copies). c.used.header.hdr_size) follows.loaded.copies
        ∙ ap (λ (h : BinHeader). h.hdr_size) follows.commit.header

    as-loaded : header_on m.moved.loaded ≡ header_by m.moved.commit
    as-loaded =
        header-behind m.loaded m.moved.loaded.valid.meta follows.first m.moved.loaded
        from.mends.stored follows.commit follows.loaded salt m.moved.commit follows.same

    at-own : ShowsNext m.loaded.valid.sizes m.moved.loaded now
    at-own =
        let b = begun sector sealed opened areas m old old_key new_key bytes from in
        let sizes = m.loaded.valid.sizes in
        let size = m.loaded.copies.used.header.hdr_size in
        let shown = run-shown laws b after new (Ok true) run refl told told_is in
        subst (λ (n : ℕ). ShowsCommit sizes.atom (layout_for sizes.atom n) (header_on m.moved.loaded)
        (header_on m.moved.loaded) commit_begun false (view_of_bytes sizes.atom now)) (sym same-size)
        (shown-both sizes now told.now certain sizes.header_atoms size (layout_for sizes.atom size)
        certain.header_atoms b.laid (header_on m.moved.loaded)
        (subst (λ (h : Header (List ℕ)). ShowsCommit sizes.atom (layout_for sizes.atom size) h h
        commit_begun false (view_of_cells told.now)) (sym as-loaded) shown))

  -- what is asked of the header by which the zone is open, of disks of these sizes
  abbrev Ends : Sizes → Stored → Type 0
  Ends sizes header =
      MendsFrom sector sealed opened sizes header old_key new_key bytes m old
      → length header.copies.secondary.salt ≡ 64 → (now : List ℕ) (told : Told)
      → new.told ≡ Some told → IsCertain sizes now told.now → ShowsNext sizes m.moved.loaded now

  own-ends : Ends m.loaded.valid.sizes m.loaded
  own-ends from salt now told is certain = at-own from salt now told is certain

  pub ends-both : (sizes : Sizes) (header : Stored) → Ends sizes header
  ends-both sizes header from =
      subst (λ (h : Stored). Ends sizes h) from.loaded
      (λ own. subst (λ (s : Sizes). Ends s m.loaded) own.sizes_are own-ends own) from
