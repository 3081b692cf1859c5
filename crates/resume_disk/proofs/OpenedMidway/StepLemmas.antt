-- The steps by which a zone is written again: they end, and stay those of one zone.
use Rattle.std.proofs.Common.{◌≡◌, ◌≢◌, ◌∙◌, ℕ, ◌+◌, ◌-◌, ◌*◌, ◌<◌, ◌==◌, Bool, true, false}
use Rattle.std.proofs.Common.{List, replicate, Some, Result, Ok, Err, refl, sym, ap}
use Rattle.std.proofs.Common.{subst, arith, cond}
use Rattle.base_terms.specs.Blocks.{lengths}
use Rattle.base_terms.specs.declared.failed.Failed.{Failed as Failure}
use Rattle.cipher_laws.specs.Bytes.{AreBytes}
use Rattle.resume_disk.specs.OpenedMidway.Runs.{BeginsBy, FitsVolume, LeadsTo, MendsZone, last_of}
use Rattle.resume_disk.specs.OpenedMidway.Runs.{mends}
use Rattle.resume_disk.specs.OpenedMidway.Runs.{rests}
use Rattle.resume_disk.specs.declared.midway.checking.Course.TheVariants.{Closed, Open}
use Rattle.hotzone.proofs.KnownLemmas.{part-some}
use Rattle.hotzone.proofs.LawLemmas.{most-atoms}
use Rattle.hotzone.specs.Workers.{HasKeys, MapsFit}
use Rattle.hotzone.specs.Sites.{count_of, part_at}
use Rattle.hotzone.specs.declared.site.Site.{Site}
use Rattle.sector_disk.specs.JoinedDisks.Counts.{HasSizes}
use Rattle.luks_store.specs.Copying.Steps.{next_of}
use Rattle.luks_store.specs.declared.header_copies.commit.Stage.{Stage}
use Rattle.luks_store.specs.declared.header_copies.commit.Stage.TheVariants.{Begun, FirstWritten, FirstKept}
use Rattle.luks_store.specs.declared.header_copies.commit.Stage.TheVariants.{SecondWritten, Ended}
use Rattle.luks_store.specs.declared.loaded.Stored.{Stored}
use Rattle.reenc_recovery.specs.Calls.{TellsSized}
use Rattle.sector_disk.specs.Cells.{content, currents}
use Rattle.sector_disk.specs.Devices.{Device, succeeded}
use Rattle.sector_disk.specs.Steps.{Told}
use Rattle.volume_machine.specs.Seals.{Seals}
use Rattle.volume_machine.specs.declared.keys.Keys.{Keys}
use Rattle.image_laws.specs.Led.Holding.{TellsLawfully}
use Rattle.image_laws.specs.Led.Runs.{MendRun, none, one_more}
use Rattle.zone_mending.proofs.OpenZoneLemmas.{zone-known}
use Rattle.zone_mending.specs.Menders.{IsMending, IsNew, IsUnderWay, LeavesNext, Needs}
use Rattle.zone_mending.specs.Menders.{after_write}
use Rattle.zone_mending.specs.Menders.{stage_of_move}
use Rattle.zone_mending.specs.OpenZones.{IsMoved}
use Rattle.zone_mending.specs.Promises.{seals_in}
use Rattle.zone_mending.specs.Steps.{Fails, Goes, Steps}
use Rattle.zone_mending.specs.Steps.{reads, lays, finds, writes, settles, moves, ends, read_fails}
use Rattle.zone_mending.specs.Steps.{lay_fails, find_fails, write_fails, settle_fails, move_fails}
use Rattle.zone_mending.specs.declared.mender.MendCall.{MendCall}
use Rattle.zone_mending.specs.declared.mender.MendCall.TheVariants.{ReadSaved, ReadOwn, Write}
use Rattle.zone_mending.specs.declared.mender.MendCall.TheVariants.{Settle, Move, Done, Failed}
use Rattle.zone_mending.specs.declared.mender.Mender.{Mender}

-- ---- how many calls are left
abbrev pub commits_left : Stage → ℕ
commits_left Begun = 4
commits_left FirstWritten = 3
commits_left FirstKept = 2
commits_left SecondWritten = 1
commits_left Ended = 0

abbrev pub calls_by : ℕ → Stage → MendCall → ℕ
calls_by count stage (ReadSaved done) = (count - done) * 3 + 6
calls_by count stage (ReadOwn done) = (count - done) * 3 + 5
calls_by count stage (Write done) = (count - done) * 3 + 4
calls_by count stage Settle = 5
calls_by count stage Move = commits_left stage
calls_by count stage Done = 0
calls_by count stage Failed = 0

abbrev pub calls_left : {C : Type 0} → Mender C → ℕ
calls_left mender = calls_by (count_of mender.site) (stage_of_move mender) mender.next

fewer_commits : (stage : Stage) → stage ≢ Ended → commits_left (next_of stage) < commits_left stage
fewer_commits Begun some = omega arith
fewer_commits FirstWritten some = omega arith
fewer_commits FirstKept some = omega arith
fewer_commits SecondWritten some = omega arith
fewer_commits Ended some = absurd (some refl)

fewer_written : (site : Site) (stage : Stage) (done : ℕ) → done < count_of site
    → 0 < part_at site done
    → calls_by (count_of site) stage (after_write site done)
    < calls_by (count_of site) stage (Write done)
fewer_written site stage done below some = go (done + part_at site done == count_of site)
  where
    go : (b : Bool)
        → calls_by (count_of site) stage (cond b Settle (ReadSaved (done + part_at site done)))
        < (count_of site - done) * 3 + 4
    go true = omega (arith, below)
    go false = omega (arith, below, some)

abbrev IsFewerUnless : Bool → ℕ → ℕ → Type 0
IsFewerUnless true now before = Unit {0}
IsFewerUnless false now before = now < before

module _ {C : Type 0} (sector : C → ℕ) (before after : Mender C) (is : IsMending sector before)
  where
    fewer_by : (next : MendCall) (now : ℕ) → before.next ≡ next
        → calls_left after ≡ now → now < calls_by (count_of before.site) (stage_of_move before) next
        → calls_left after < calls_left before
    fewer_by next now at left fewer =
        let here = ap (calls_by (count_of before.site) (stage_of_move before)) at in
        omega (arith, here, left, fewer)

    needs_at : (next : MendCall) → before.next ≡ next
        → Needs before.site (stage_of_move before) next
    needs_at next at = subst (Needs before.site (stage_of_move before)) at is.next

    some_part : (done : ℕ) → done < count_of before.site → 0 < part_at before.site done
    some_part done below =
        part-some before.site done
        (most-atoms before.site.atom (zone-known before.loaded is.map before.site is.zone is.disk))
        below

    fewer_unless : (seals : Seals) (old new : Device) (last : Bool)
        → Goes seals old new before after last → IsFewerUnless last (calls_left after) (calls_left before)
    fewer_unless seals old new last (reads done by at call filled) =
        fewer_by (ReadSaved done) _ at (ap calls_left filled.is) (omega arith)
    fewer_unless seals old new last (lays done by at call laid) =
        fewer_by (ReadSaved done) _ at (ap calls_left laid.is) (omega arith)
    fewer_unless seals old new last (finds done at call filled) =
        fewer_by (ReadOwn done) _ at (ap calls_left filled.is) (omega arith)
    fewer_unless seals old new last (writes done at again filled) =
        let needs = needs_at (Write done) at in
        fewer_by (Write done) _ at (ap calls_left filled.is)
        (fewer_written before.site (stage_of_move before) done needs.0 (some_part done needs.0))
    fewer_unless seals old new last (settles at call to) =
        let begun = needs_at Settle at in
        fewer_by Settle 4 at (ap calls_left to ∙ ap commits_left begun) (omega arith)
    fewer_unless seals old new last (moves commit at call committed far to) =
        fewer_by Move _ at (ap calls_left to ∙ ap commits_left committed.stage)
        (fewer_commits (stage_of_move before) (needs_at Move at))
    fewer_unless seals old new last (ends commit at call committed is_last to) = tt

    pub fewer_calls : (seals : Seals) (old new : Device) → Goes seals old new before after false
        → calls_left after < calls_left before
    fewer_calls seals old new goes = fewer_unless seals old new false goes

-- ---- it is the same zone, under the same keys, and the same header comes behind it
pub record IsSameZone {C : Type 0} (first now : Mender C) : Type 0 where
  pub loaded : now.loaded ≡ first.loaded
  pub keys : now.keys ≡ first.keys
  pub site : now.site ≡ first.site
  pub moved : now.moved.loaded ≡ first.moved.loaded

pub same_here : {C : Type 0} (mender : Mender C) → IsSameZone mender mender
same_here mender = record { loaded = refl; keys = refl; site = refl; moved = refl }

pub same_on : {C : Type 0} (first now next : Mender C) → IsSameZone first now
    → IsSameZone now next → IsSameZone first next
same_on first now next one other = record {
  loaded = other.loaded ∙ one.loaded;
  keys = other.keys ∙ one.keys;
  site = other.site ∙ one.site;
  moved = other.moved ∙ one.moved;
}

same_as : {C : Type 0} (now next to : Mender C) → next ≡ to → IsSameZone now to
    → IsSameZone now next
same_as now next to is same = subst (λ m. IsSameZone now m) (sym is) same

pub same_gone : {C : Type 0} (seals : Seals) (old new : Device) (before after : Mender C)
    (last : Bool) → Goes seals old new before after last → IsSameZone before after
same_gone seals old new before after last (reads done by at call filled) =
    same_as before after _ filled.is (record { loaded = refl; keys = refl; site = refl; moved = refl })
same_gone seals old new before after last (lays done by at call laid) =
    same_as before after _ laid.is (record { loaded = refl; keys = refl; site = refl; moved = refl })
same_gone seals old new before after last (finds done at call filled) =
    same_as before after _ filled.is (record { loaded = refl; keys = refl; site = refl; moved = refl })
same_gone seals old new before after last (writes done at call filled) =
    same_as before after _ filled.is (record { loaded = refl; keys = refl; site = refl; moved = refl })
same_gone seals old new before after last (settles at call to) =
    same_as before after _ to (record { loaded = refl; keys = refl; site = refl; moved = refl })
same_gone seals old new before after last (moves commit at call committed far to) =
    same_as before after _ to (record { loaded = refl; keys = refl; site = refl; moved = refl })
same_gone seals old new before after last (ends commit at call committed far to) =
    same_as before after _ to (record { loaded = refl; keys = refl; site = refl; moved = refl })

pub same_failed : {C : Type 0} (seals : Seals) (old new : Device) (before after : Mender C)
    → Fails seals old new before after → IsSameZone before after
same_failed seals old new before after (read_fails done by at call failed) =
    same_as before after _ failed.is (record { loaded = refl; keys = refl; site = refl; moved = refl })
same_failed seals old new before after (lay_fails done by at call failed) =
    same_as before after _ failed.is (record { loaded = refl; keys = refl; site = refl; moved = refl })
same_failed seals old new before after (find_fails done at call failed) =
    same_as before after _ failed.is (record { loaded = refl; keys = refl; site = refl; moved = refl })
same_failed seals old new before after (write_fails done at call failed) =
    same_as before after _ failed.is (record { loaded = refl; keys = refl; site = refl; moved = refl })
same_failed seals old new before after (settle_fails at call failed) =
    same_as before after _ failed.is (record { loaded = refl; keys = refl; site = refl; moved = refl })
same_failed seals old new before after (move_fails at call failed) =
    same_as before after _ failed.is (record { loaded = refl; keys = refl; site = refl; moved = refl })

-- ---- the steps so far
-- What stands between two of them.
pub record HasCome {C : Type 0} (sealed opened : C → ℕ → List ℕ → List ℕ) (first now : Mender C)
    (old new : Device) : Type 0 where
  pub run : MendRun sealed opened first old now new (Ok false)
  pub same : IsSameZone first now
  pub goes : IsUnderWay now.next
  pub sizes : HasSizes now.loaded.valid.sizes new

pub has_begun : {C : Type 0} (sealed opened : C → ℕ → List ℕ → List ℕ) (first : Mender C)
    (device : Device) → IsUnderWay first.next → HasSizes first.loaded.valid.sizes device
    → HasCome sealed opened first first device device
has_begun sealed opened first device goes sizes = record {
  run = none;
  same = same_here first;
  goes = goes;
  sizes = sizes;
}

-- what each disk has by its laws
pub tells : (device : Device)
    → ((told : Told) → device.told ≡ Some told → device.values ≡ Some (content told.now))
    → ((told : Told) → device.told ≡ Some told
    → lengths (currents told.now) ≡ replicate device.atoms device.size)
    → ((all : List ℕ) → device.values ≡ Some all → AreBytes all) → TellsSized device
    → TellsLawfully device
tells device agrees even bytes sized = record {
  alike = record { agrees = agrees; even = even; bytes = bytes };
  sized = sized;
}

module _ {C : Type 0} (sealed opened : C → ℕ → List ℕ → List ℕ) (first before after : Mender C)
    (old device new : Device) (come : HasCome sealed opened first before old device)
    (lawful : TellsLawfully new) where
  comes_to : (result : Result Bool Failure)
      → Steps (seals_in sealed opened before) device new before after result
      → MendRun sealed opened first old after new result
  comes_to result step = one_more before after device new result come.run step lawful

  same_by : (last : Bool) → Goes (seals_in sealed opened before) device new before after last
      → IsSameZone first after
  same_by last step =
      same_on first before after come.same
      (same_gone (seals_in sealed opened before) device new before after last step)

  -- a step that isn't the last one
  pub comes_on : (last : Bool) → last ≡ false
      → Goes (seals_in sealed opened before) device new before after last
      → LeavesNext last after.next → HasSizes after.loaded.valid.sizes new
      → HasCome sealed opened first after old new
  comes_on last is step left sizes = record {
    run = comes_to (Ok false)
        (subst (λ b. Goes (seals_in sealed opened before) device new before after b) is step);
    same = same_by last step;
    goes = subst (λ b. LeavesNext b after.next) is left;
    sizes = sizes;
  }

  -- the last one
  pub comes_last : (last : Bool) → last ≡ true
      → Goes (seals_in sealed opened before) device new before after last
      → MendRun sealed opened first old after new (Ok true)
  comes_last last is step =
      comes_to (Ok true)
      (subst (λ b. Goes (seals_in sealed opened before) device new before after b) is step)

  pub same_last : (last : Bool)
      → Goes (seals_in sealed opened before) device new before after last → IsSameZone first after
  same_last last step = same_by last step

  -- one that failed
  pub stops : (failed : Failure) → Fails (seals_in sealed opened before) device new before after
      → MendRun sealed opened first old after new (Err failed)
  stops failed step = comes_to (Err failed) step

  pub same_stopped : Fails (seals_in sealed opened before) device new before after
      → IsSameZone first after
  same_stopped step =
      same_on first before after come.same
      (same_failed (seals_in sealed opened before) device new before after step)

pub fewer_by_test : {C : Type 0} (sector : C → ℕ) (before after : Mender C)
    → IsMending sector before → (seals : Seals) (old new : Device) (last : Bool) → last ≡ false
    → Goes seals old new before after last → calls_left after < calls_left before
fewer_by_test sector before after is seals old new last test goes =
    fewer_calls sector before after is seals old new
    (subst (λ b. Goes seals old new before after b) test goes)

-- ---- the zone
-- how it begins
pub goes_first : {C : Type 0} (header : Stored) (keys : Keys C) (mender : Mender C)
    → IsNew header keys mender → IsUnderWay mender.next
goes_first header keys mender new = subst IsUnderWay (sym new.first) tt

module _ {C : Type 0} (sector : C → ℕ) (sealed opened : C → ℕ → List ℕ → List ℕ)
    (before after : Mender C) (was : IsMending sector before) (is : IsMending sector after)
    (same : after.loaded ≡ before.loaded)
    (old new : Device) (lawful : TellsLawfully old) where
  pub mends_zone : (result : Result (Unit {0}) Failure)
      → MendRun sealed opened before old after new (last_of result)
      → (keys : Keys C) → IsNew before.loaded keys before
      → MendsZone sector sealed opened before.loaded keys old new result
  mends_zone result run keys begins = record {
    before = before;
    after = after;
    is = was;
    begins = begins;
    moves = subst (λ h. IsMoved h after.moved) same is.moves;
    tells = lawful;
    run = run;
  }

  pub leads_mended : (last : Stored) → last ≡ after.moved.loaded
      → MendRun sealed opened before old after new (Ok true)
      → (keys : Keys C) → IsNew before.loaded keys before
      → LeadsTo sector sealed opened before.loaded keys old new last
  unfolding mends_zone
  leads_mended last to run keys begins = mends (mends_zone succeeded run keys begins) to

  pub sizes_behind : (last : Stored) → last ≡ after.moved.loaded
      → last.valid.sizes ≡ before.loaded.valid.sizes
  sizes_behind last to =
      ap (λ (s : Stored). s.valid.sizes) to
      ∙ is.moves.follows.loaded.sizes ∙ is.moves.follows.commit.sizes
      ∙ ap (λ (s : Stored). s.valid.sizes) same

  pub disk_behind : (last : Stored) → last ≡ after.moved.loaded
      → HasSizes after.loaded.valid.sizes new → HasSizes last.valid.sizes new
  disk_behind last to has =
      subst (λ z. HasSizes z new)
      (ap (λ (s : Stored). s.valid.sizes) same ∙ sym (sizes_behind last to)) has

  pub fits_mended : (sector_ : C → ℕ) (last : Stored) → after.keys ≡ before.keys → MapsFit last
      → HasKeys sector_ last after.keys → (keys : Keys C) → IsNew before.loaded keys before
      → FitsVolume sector_ last keys
  fits_mended sector_ last own maps has keys begins = record {
    maps = maps;
    keys_are = subst (λ k. HasKeys sector_ last k) (own ∙ begins.keys_are) has;
  }

-- ---- how a conversion is led on
pub goes_by : {C : Type 0} (keys : Keys C) (mender : Mender C)
    → BeginsBy keys (Open mender) → IsUnderWay mender.next
goes_by keys mender begins = goes_first mender.loaded keys mender begins

pub leads_closed : {C : Type 0} (sector : C → ℕ) (sealed opened : C → ℕ → List ℕ → List ℕ)
    (header : Stored)
    (device : Device) (keys : Keys C) → BeginsBy keys (Closed header)
    → LeadsTo sector sealed opened header keys device device header
leads_closed sector sealed opened header device keys begins = rests begins refl refl
