-- A run of the steps by which an open zone is written again: what is known of the disk behind each,
-- and what the images of each table stand for.
use Rattle.std.proofs.Common.{◌≡◌, ◌⊎◌, inl, inr, ℕ, ◌<◌, Bool, true, false, List, length, Result}
use Rattle.std.proofs.Common.{Ok, Err, Option, Some, refl, sym, ◌∙◌, ap, subst, arith}
use Rattle.std.specs.Prelude.{Contains}
use Rattle.base_terms.specs.declared.failed.Failed.{Failed as Failure}
use Rattle.crash_laws.specs.HeaderAreas.Headers.{Header, Layout}
use Rattle.sector_disk.specs.DiskViews.Parts.{block_at, cell_in}
use Rattle.sector_disk.specs.DiskViews.Views.{view_of_cells}
use Rattle.crash_laws.specs.HotZones.Zones.{Hotzone, Phase, ShowsZone, Texts}
use Rattle.hotzone.proofs.CallLemmas.{table-long}
use Rattle.hotzone.specs.declared.site.Site.{Site}
use Rattle.sector_disk.specs.JoinedDisks.Counts.{HasSizes}
use Rattle.luks_store.specs.declared.header_copies.commit.Stage.{Stage}
use Rattle.luks_store.specs.declared.loaded.Stored.{Stored}
use Rattle.image_laws.specs.Opened.Mending.{WritesAgain}
use Rattle.sector_disk.specs.Cells.{Cell}
use Rattle.sector_disk.specs.Devices.{Device}
use Rattle.sector_disk.specs.Steps.{Told, then_table}
use Rattle.volume_machine.specs.Seals.{Seals, seals_of}
use Rattle.image_laws.proofs.Led.MendStepLemmas.{IsSameMender, fails-one, goes-one, same-along}
use Rattle.image_laws.proofs.Led.MendStepLemmas.{same-failed, same-mender, same-on}
use Rattle.image_laws.proofs.Led.SinceLemmas.{since-more, since-none}
use Rattle.image_laws.proofs.Led.StartLemmas.{Begun, KeepsElsewhere, Laws, first-elsewhere, laid-over}
use Rattle.image_laws.proofs.Led.StartLemmas.{start}
use Rattle.image_laws.proofs.Led.StartLemmas.{table-for, table-is}
use Rattle.image_laws.proofs.Led.ZoneLemmas.{atom-is}
use Rattle.image_laws.specs.Led.Holding.{HoldsSince, TellsLawfully, TellsOn}
use Rattle.image_laws.specs.Led.Promises.{StandsOn, StandsOnFor}
use Rattle.image_laws.specs.Led.Runs.{MendRun, none, one_more}
use Rattle.zone_mending.proofs.StepLemmas.{mends-on, sizes-failed, sizes-on}
use Rattle.zone_mending.specs.Elsewhere.{IsElsewhere, StaysElsewhere}
use Rattle.zone_mending.specs.Known.{IsKnown, failed_by, failed_in, mended_zone, phase_by, phase_in}
use Rattle.zone_mending.specs.Known.{zone_in}
use Rattle.zone_mending.specs.Menders.{IsMending}
use Rattle.zone_mending.specs.Promises.{IsOver, seals_in}
use Rattle.zone_mending.specs.Steps.{Fails, Goes, Steps}
use Rattle.zone_mending.specs.declared.mender.MendCall.{MendCall}
use Rattle.zone_mending.specs.declared.mender.MendCall.TheVariants.{Done, Failed, Move, ReadSaved}
use Rattle.zone_mending.specs.declared.mender.MendCall.TheVariants.{ReadOwn, Settle, Write}
use Rattle.zone_mending.specs.declared.mender.Mender.{Mender}

-- ---- small facts
pub one-told : (a b : Told) (o : Option Told) → o ≡ Some a → o ≡ Some b → a ≡ b
one-told a b o is also = (let e : Some a ≡ Some b = sym is ∙ also in cc)

pub phase-again : (count : ℕ) (stage : Stage) (next : MendCall)
    → WritesAgain (phase_by count stage next)
phase-again count stage (ReadSaved n) = tt
phase-again count stage (ReadOwn n) = tt
phase-again count stage (Write n) = tt
phase-again count stage Settle = tt
phase-again count stage Move = tt
phase-again count stage Done = tt
phase-again count stage Failed = tt

failed-again : (count : ℕ) (stage : Stage) (next : MendCall)
    → WritesAgain (failed_by count stage next)
failed-again count stage (ReadSaved n) = tt
failed-again count stage (ReadOwn n) = tt
failed-again count stage (Write n) = tt
failed-again count stage Settle = tt
failed-again count stage Move = tt
failed-again count stage Done = tt
failed-again count stage Failed = tt

-- what is read of a zone whose mender is the same
pub zone-same : {C : Type 0} (first now : Mender C) (shown : Header (List ℕ))
    → IsSameMender first now → zone_in now shown ≡ zone_in first shown
zone-same first now shown same = λ i. mended_zone (same.site i) shown (same.header i)

pub seals-same : {C : Type 0} (seal unseal : C → ℕ → List ℕ → List ℕ) (first now : Mender C)
    → IsSameMender first now → seals_in seal unseal now ≡ seals_in seal unseal first
seals-same seal unseal first now same =
    λ i. seals_of seal unseal ((same.site i).atom) (same.keys i)

-- what stays elsewhere stays what the bytes have
stays-left : (atom : ℕ) (bytes : List ℕ) (layout : Layout) (zone : Hotzone (List ℕ))
    (broken : Bool) (was is : List Cell) → length is ≡ length was
    → StaysElsewhere layout zone broken (view_of_cells was) (view_of_cells is)
    → KeepsElsewhere atom bytes layout zone was → (place : ℕ) → IsElsewhere layout zone place
    → place < length is → (value : List ℕ) → Contains (cell_in is place).candidates value
    → value ≡ block_at atom bytes place
stays-left atom bytes layout zone broken was is many stays kept place there below value has =
    let here : place < length was = omega (arith, below, many) in
    go (stays.left place there value has) here
  where
    go : (value ≡ (cell_in was place).current) ⊎ Contains (cell_in was place).candidates value
        → place < length was → value ≡ block_at atom bytes place
    go (inl same) here = same ∙ kept.current place there here
    go (inr had) here = kept.left place there here value had

pub stays-kept : (atom : ℕ) (bytes : List ℕ) (layout : Layout) (zone : Hotzone (List ℕ))
    (was is : List Cell) → length is ≡ length was
    → StaysElsewhere layout zone false (view_of_cells was) (view_of_cells is)
    → KeepsElsewhere atom bytes layout zone was → KeepsElsewhere atom bytes layout zone is
stays-kept atom bytes layout zone was is many stays kept = record {
  left = stays-left atom bytes layout zone false was is many stays kept;
  current = λ place there below.
      stays.current refl place there
      ∙ kept.current place there (omega (arith, below, many));
}

-- ---- what is known behind steps that were made
pub record KnownAt {C : Type 0} (seals : Seals) (layout : Layout) (shown : Header (List ℕ))
    (texts : Texts) (atom : ℕ) (bytes : List ℕ) (Stands : List Cell → Type 0) (m after : Mender C)
    (was now : Told) : Type 0 where
  pub known : IsKnown seals layout shown texts after (view_of_cells now.now)
  pub elsewhere : KeepsElsewhere atom bytes layout (zone_in m shown) now.now
  pub since : HoldsSince Stands was now

module _ {C : Type 0} {sector : C → ℕ} {sealed opened : C → ℕ → List ℕ → List ℕ} {m : Mender C}
    {old : Device} {layout : Layout} {old_key new_key bytes : List ℕ}
    (laws : Laws sector sealed opened)
    (b : Begun sector sealed opened m old layout old_key new_key bytes) where
  abbrev pub Stands : List Cell → Type 0
  Stands cells =
      StandsOn m.loaded.valid.sizes m.loaded m.moved.loaded old_key new_key bytes cells
      × StandsOnFor m.loaded.valid.sizes m.loaded m.moved.loaded old_key new_key bytes cells

  abbrev seals : Seals
  seals = seals_in sealed opened m

  abbrev pub At : (was : Told) → old.told ≡ Some was → Mender C → Told → Type 0
  At was is after now =
      KnownAt (seals_in sealed opened m) layout
      (start b laws was is).0
      (start b laws was is).1
      m.loaded.valid.sizes.atom bytes Stands m after was now

  pub record Carries (after : Mender C) (new : Device) : Type 0 where
    pub mends : IsMending sector after
    pub sizes : HasSizes after.loaded.valid.sizes new
    pub same : IsSameMender m after
    pub tells : TellsLawfully new
    pub told : (now : Told) → new.told ≡ Some now
        → (was : Told) × (is : old.told ≡ Some was) × At was is after now

  -- ---- what the first mender's zone is by a later one
  abbrev Shown : Header (List ℕ) → Texts → Phase → Bool → Told → Type 0
  Shown shown texts phase broken now =
      ShowsZone m.loaded.valid.sizes.atom layout (zone_in m shown) texts phase broken
      (view_of_cells now.now)

  pub as-first : (after : Mender C) (shown : Header (List ℕ)) (texts : Texts) (phase : Phase)
      (broken : Bool) (now : Told) → IsSameMender m after
      → ShowsZone after.site.atom layout (zone_in after shown) texts phase broken
      (view_of_cells now.now) → Shown shown texts phase broken now
  as-first after shown texts phase broken now same shows =
      let atom : after.site.atom ≡ m.loaded.valid.sizes.atom =
      ap (λ (s : Site). s.atom) same.site ∙ atom-is sector m b.mends in
      subst (λ (a : ℕ). ShowsZone a layout (zone_in m shown) texts phase broken
      (view_of_cells now.now)) atom
      (subst (λ (z : Hotzone (List ℕ)). ShowsZone after.site.atom layout z texts phase broken
      (view_of_cells now.now)) (zone-same m after shown same) shows)

  pub has-first : (loaded : Stored) (device : Device) → loaded ≡ m.loaded
      → HasSizes loaded.valid.sizes device → HasSizes m.loaded.valid.sizes device
  has-first loaded device same has = subst (λ (s : Stored). HasSizes s.valid.sizes device) same has

  abbrev pub header-at : (was : Told) → old.told ≡ Some was → Header (List ℕ)
  header-at was is =
      (start b laws was is).0

  abbrev pub texts-at : (was : Told) → old.told ≡ Some was → Texts
  texts-at was is =
      (start b laws was is).1

  -- each image of a table stands for the same
  stands-now : (was : Told) (was_is : old.told ≡ Some was) (phase : Phase) (broken : Bool)
      (device : Device) (now : Told) → WritesAgain phase → HasSizes m.loaded.valid.sizes device
      → TellsLawfully device → device.told ≡ Some now
      → Shown (header-at was was_is) (texts-at was was_is) phase broken now
      → ((place : ℕ) → IsElsewhere layout (zone_in m (header-at was was_is)) place
      → place < length now.now → (value : List ℕ)
      → Contains (cell_in now.now place).candidates value
      → value ≡ block_at m.loaded.valid.sizes.atom bytes place) → Stands now.now
  stands-now was was_is phase broken device now phased has tells now_is shows rest = (
    λ image spared. table-is b was was_is (header-at was was_is) (texts-at was was_is)
        (start b laws was was_is).2 device now has tells now_is laws phase broken phased shows rest
        image spared,
    λ image spared. table-for b was was_is (header-at was was_is) (texts-at was was_is)
        (start b laws was was_is).2 device now has tells now_is laws phase broken phased shows rest
        image spared,
  )

  pub begins : Carries m old
  begins = record {
    mends = b.mends;
    sizes = b.disk;
    same = same-mender m;
    tells = b.tells;
    told = λ now is. (now, is, first-at now is);
  }
    where
      first-at : (now : Told) (is : old.told ≡ Some now) → At now is m now
      first-at now is =
          let begun = (start b laws now is).2 in
          let elsewhere = first-elsewhere b now is (header-at now is) (texts-at now is) begun in
          record {
            known = begun.is;
            elsewhere = elsewhere;
            since = since-none Stands now
                (stands-now now is (phase_in m) false old now (phase-again _ _ m.next) b.disk b.tells
                is (as-first m (header-at now is) (texts-at now is) (phase_in m) false now
                (same-mender m) begun.is.shows) elsewhere.left);
          }

  -- ---- a step behind these
  module _ (before after : Mender C) (at new : Device) (c : Carries before at)
      (tells : TellsLawfully new) where
    pub over-before : IsOver sector layout before at
    over-before = record {
      mends = c.mends;
      sizes = c.sizes;
      laid = laid-over b before.loaded at c.same.loaded c.sizes;
      tells = c.tells.alike;
    }

    -- what is known of the first mender's seals is known of its own
    pub known-own : (shown : Header (List ℕ)) (texts : Texts) (mid : Told)
        → IsKnown seals layout shown texts before (view_of_cells mid.now)
        → IsKnown (seals_in sealed opened before) layout shown texts before (view_of_cells mid.now)
    known-own shown texts mid known =
        subst (λ (s : Seals). IsKnown s layout shown texts before (view_of_cells mid.now))
        (sym (seals-same sealed opened m before c.same)) known

    pub stays-first : (shown : Header (List ℕ)) (broken : Bool) (mid now : Told)
        → StaysElsewhere layout (zone_in before shown) broken (view_of_cells mid.now)
        (view_of_cells now.now)
        → StaysElsewhere layout (zone_in m shown) broken (view_of_cells mid.now)
        (view_of_cells now.now)
    stays-first shown broken mid now stays =
        subst (λ (z : Hotzone (List ℕ)). StaysElsewhere layout z broken (view_of_cells mid.now)
        (view_of_cells now.now)) (zone-same m before shown c.same) stays

    pub many-same : (mid now : Told) → at.told ≡ Some mid → new.told ≡ Some now
        → HasSizes m.loaded.valid.sizes new → length now.now ≡ length mid.now
    many-same mid now mid_is now_is has =
        let had = has-first before.loaded at c.same.loaded c.sizes in
        table-long new tells.alike now now_is ∙ sym has.all ∙ had.all
        ∙ sym (table-long at c.tells.alike mid mid_is)

    -- one that was made, and isn't the last
    module _ (made : Goes (seals_in sealed opened before) at new before after false) where
      same-now : IsSameMender m after
      same-now =
          same-along m before after c.same
          (same-on (seals_in sealed opened before) at new before after false made)

      sizes-now : HasSizes after.loaded.valid.sizes new
      sizes-now = sizes-on (seals_in sealed opened before) at new before after false made c.sizes

      step-at : (was : Told) (was_is : old.told ≡ Some was) (mid now : Told)
          → at.told ≡ Some mid → new.told ≡ Some now → now ≡ then_table mid now.now
          → At was was_is before mid → At was was_is after now
      step-at was was_is mid now mid_is now_is one had =
          let shown = header-at was was_is in
          let texts = texts-at was was_is in
          let led = laws.goes layout shown texts before after at new now over-before made now_is in
          let step = subst (λ (t : Told).
          IsKnown (seals_in sealed opened before) layout shown texts before (view_of_cells t.now)
          → IsKnown (seals_in sealed opened before) layout shown texts after (view_of_cells now.now)
          × StaysElsewhere layout (zone_in before shown) false (view_of_cells t.now)
          (view_of_cells now.now)) (one-told led.0 mid at.told led.1 mid_is) led.2 in
          let on = step (known-own shown texts mid had.known) in
          let has = has-first after.loaded new same-now.loaded sizes-now in
          let elsewhere = stays-kept m.loaded.valid.sizes.atom bytes layout (zone_in m shown) mid.now
          now.now (many-same mid now mid_is now_is has) (stays-first shown false mid now on.1)
          had.elsewhere in
          record {
            known = subst (λ (s : Seals). IsKnown s layout shown texts after (view_of_cells now.now))
                (seals-same sealed opened m before c.same) on.0;
            elsewhere = elsewhere;
            since = since-more Stands was mid now had.since one
                (stands-now was was_is (phase_in after) false new now (phase-again _ _ after.next) has
                tells now_is (as-first after shown texts (phase_in after) false now same-now
                on.0.shows) elsewhere.left);
          }

      pub carry-on : Carries after new
      carry-on = record {
        mends = mends-on sector before after c.mends (seals_in sealed opened before) at new false made;
        sizes = sizes-now;
        same = same-now;
        tells = tells;
        told = λ now is.
            (let one = goes-one (seals_in sealed opened before) at new before after false made now is in
            let k = c.told one.mid one.told in
            (k.0, k.1, step-at k.0 k.1 one.mid now one.told is one.one k.2));
      }

    -- one that failed
    module _ (made : Fails (seals_in sealed opened before) at new before after) where
      has-failed : HasSizes m.loaded.valid.sizes new
      has-failed =
          has-first after.loaded new
          (same-failed (seals_in sealed opened before) at new before after made ∙ c.same.loaded)
          (sizes-failed (seals_in sealed opened before) at new before after made c.sizes)

      stands-failed : (was : Told) (was_is : old.told ≡ Some was) (mid now : Told)
          → at.told ≡ Some mid → new.told ≡ Some now → At was was_is before mid → Stands now.now
      stands-failed was was_is mid now mid_is now_is had =
          let shown = header-at was was_is in
          let texts = texts-at was was_is in
          let led = laws.fails layout shown texts before after at new now over-before made now_is in
          let step = subst (λ (t : Told).
          IsKnown (seals_in sealed opened before) layout shown texts before (view_of_cells t.now)
          → ShowsZone before.site.atom layout (zone_in before shown) texts (failed_in before) true
          (view_of_cells now.now)
          × StaysElsewhere layout (zone_in before shown) true (view_of_cells t.now)
          (view_of_cells now.now)) (one-told led.0 mid at.told led.1 mid_is) led.2 in
          let on = step (known-own shown texts mid had.known) in
          stands-now was was_is (failed_in before) true new now (failed-again _ _ before.next)
          has-failed tells now_is (as-first before shown texts (failed_in before) true now c.same on.0)
          (stays-left m.loaded.valid.sizes.atom bytes layout (zone_in m shown) true mid.now now.now
          (many-same mid now mid_is now_is has-failed) (stays-first shown true mid now on.1)
          had.elsewhere)

      since-failed : (was mid now : Told) → HoldsSince Stands was mid → Stands now.now
          → (now ≡ mid) ⊎ (now ≡ then_table mid now.now) → HoldsSince Stands was now
      since-failed was mid now since stands (inl same) =
          subst (λ (t : Told). HoldsSince Stands was t) (sym same) since
      since-failed was mid now since stands (inr one) =
          since-more Stands was mid now since one stands

      pub tells-failed : TellsOn Stands old new
      tells-failed now is =
          let one = fails-one (seals_in sealed opened before) at new before after made now is in
          let k = c.told one.mid one.told in (
            k.0,
            k.1,
            since-failed k.0 one.mid now k.2.since
                (stands-failed k.0 k.1 one.mid now one.told is k.2) one.one,
          )

  -- ---- the whole run
  pub tells-on : (after : Mender C) (new : Device) → Carries after new → TellsOn Stands old new
  tells-on after new c now is = let k = c.told now is in (k.0, k.1, k.2.since)

  pub carried : (after : Mender C) (new : Device) (result : Result Bool Failure)
      → MendRun sealed opened m old after new result → result ≡ Ok false → Carries after new
  carried after new result none is = begins
  carried after new result (one_more before last at end answer run steps tells) is =
      go answer steps is (carried before at (Ok false) run refl)
    where
      go : (r : Result Bool Failure) → Steps (seals_in sealed opened before) at end before last r
          → r ≡ Ok false → Carries before at → Carries last end
      go (Ok false) made is c = carry-on before last at end c tells made
      go (Ok true) made is c = absurd cc
      go (Err fault) made is c = absurd cc
