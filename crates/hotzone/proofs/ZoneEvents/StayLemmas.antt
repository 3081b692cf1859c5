-- A step leaves the ground that a zone stands on; the last one leaves its blocks new.
use Rattle.std.proofs.Common.{◌≡◌, ◌∙◌, ℕ, ◌<◌, ◌≤◌, ◌==◌, List, Option, None}
use Rattle.std.proofs.Common.{Ok, Err, refl, sym, ap, ap₂, subst}
use Rattle.crash_laws.specs.HeaderAreas.Headers.{Layout}
use Rattle.base_terms.specs.declared.disk_sizes.Sizes.{Sizes}
use Rattle.hotzone.proofs.HeadingLemmas.{moved-sizes}
use Rattle.hotzone.proofs.WorkingLemmas.{atom-of}
use Rattle.hotzone.specs.Headings.{AreOf}
use Rattle.hotzone.specs.Known.{header_by}
use Rattle.hotzone.specs.Promises.{seals_in}
use Rattle.hotzone.specs.Sites.{count_of}
use Rattle.hotzone.specs.Steps.{Goes, HasMoved, Steps, Stops}
use Rattle.hotzone.specs.Steps as steps
use Rattle.hotzone.specs.Workers.{IsWorking, Needs}
use Rattle.hotzone.specs.declared.site.Site.{Site}
use Rattle.hotzone.specs.declared.worker.Halt.{Halt}
use Rattle.hotzone.specs.declared.worker.Headers.{Headers}
use Rattle.hotzone.specs.declared.worker.NextCall.{NextCall}
use Rattle.hotzone.specs.declared.worker.NextCall.TheVariants.{Move}
use Rattle.hotzone.specs.declared.worker.Stepped.{Stepped}
use Rattle.hotzone.specs.declared.worker.Stepped.TheVariants.{ZoneDone}
use Rattle.hotzone.specs.declared.worker.Worker.{Worker}
use Rattle.hotzone.specs.declared.worker.ZoneFault.{ZoneFault}
use Rattle.luks_bin.specs.declared.header.BinHeader.{BinHeader}
use Rattle.luks_store.specs.Copying.Meanings.{meaning_of}
use Rattle.luks_rules.specs.States.{IsSound as IsRuled}
use Rattle.luks_store.specs.Loads.{IsStored}
use Rattle.luks_store.specs.declared.copies.Copies.{Copies}
use Rattle.luks_store.specs.declared.loaded.Stored.{Stored}
use Rattle.sector_disk.specs.Devices.{Device}
use Rattle.segment_map.specs.declared.Side.TheVariants.{New}
use Rattle.segment_map.specs.declared.map.Map.{Map}
use Rattle.volume_machine.specs.Pieces.{side_in}
use Rattle.volume_machine.specs.Seals.{Seals, seals_of}
use Rattle.hotzone.proofs.ZoneEvents.FollowLemmas.{by-header, fits-before, meant}
use Rattle.hotzone.proofs.ZoneEvents.HereLemmas.{first-rests}
use Rattle.hotzone.proofs.ZoneEvents.TurnLemmas.{move-turns}
use Rattle.hotzone.specs.ZoneEvents.Promises.{IsSameGround, StepsKeepGround, StepsLeaveNew}
use Rattle.hotzone.specs.ZoneEvents.Readings.{map_of}
use Rattle.hotzone.specs.ZoneEvents.Works.{layout_for, map_in}

-- ---- a header and the one that comes after it are of one size
moved-header : (before : Stored) (count : ℕ) (headers : Headers)
    → AreOf before count headers.opened headers.moved
    → headers.moved.loaded.copies.used.header.hdr_size ≡ before.copies.used.header.hdr_size
moved-header before count headers are =
    ap (λ (c : Copies). c.used.header.hdr_size) are.follows.loaded.copies
    ∙ ap (λ (h : BinHeader). h.hdr_size) are.follows.commit.header
    ∙ ap (λ (c : Copies). c.used.header.hdr_size) are.loaded.copies
    ∙ ap (λ (h : BinHeader). h.hdr_size) are.commit.header

module _ {C : Type 0} (sector : C → ℕ) (seal unseal : C → ℕ → List ℕ → List ℕ)
    (before after : Worker C) (working : IsWorking sector before) where
  abbrev Same : Type 0
  Same = IsSameGround seal unseal before after

  -- a step that leaves header, keys and zone
  kept : (buffer : List ℕ) (next : NextCall) (halted : Option Halt)
      → after ≡ record before { buffer = buffer; next = next; halted = halted } → Same
  kept buffer next halted to =
      subst (λ w. IsSameGround seal unseal before w) (sym to) (record {
        sizes = refl;
        keys = refl;
        seals = refl;
        layout = refl;
      })

  -- the last one of a zone
  done : (headers : Headers) → before.next ≡ Move headers
      → HasMoved before after headers.moved.loaded → Same
  done headers at has =
      let are = (subst (Needs before) at working.next).1 in
      let sizes : after.loaded.valid.sizes ≡ before.loaded.valid.sizes =
      ap (λ (s : Stored). s.valid.sizes) has.loaded
      ∙ moved-sizes before.loaded (count_of before.site) headers.opened headers.moved are in
      let size : after.loaded.copies.used.header.hdr_size
      ≡ before.loaded.copies.used.header.hdr_size =
      ap (λ (s : Stored). s.copies.used.header.hdr_size) has.loaded
      ∙ moved-header before.loaded (count_of before.site) headers are in
      let atom : after.site.atom ≡ before.site.atom =
      ap (λ (s : Site). s.atom) has.zone.site_is ∙ has.zone.map_is.atom
      ∙ ap (λ (s : Sizes). s.atom) sizes ∙ sym (atom-of sector before working) in
      record {
        sizes = sizes;
        keys = has.keys;
        seals = ap₂ (λ a k. seals_of seal unseal a k) atom has.keys;
        layout = ap₂ (λ a n. layout_for a n) (ap (λ (s : Sizes). s.atom) sizes) size;
      }

  goes-same : (seals : Seals) (old new : Device) (step : Stepped)
      → Goes seals old new before after step → Same
  goes-same seals old new step (steps.begins at call to) = kept _ _ _ to
  goes-same seals old new step (steps.reads_first at call read) = kept _ _ _ read.is
  goes-same seals old new step (steps.saves_first at tells call headers are begun to) = kept _ _ _ to
  goes-same seals old new step (steps.reads n headers at call read) = kept _ _ _ read.is
  goes-same seals old new step (steps.saves n headers at tells call to) = kept _ _ _ to
  goes-same seals old new step (steps.keeps headers at call to) = kept _ _ _ to
  goes-same seals old new step (steps.opens headers commit at call on far to) = kept _ _ _ to
  goes-same seals old new step (steps.opened headers commit at call on last to) = kept _ _ _ to
  goes-same seals old new step (steps.reads_again n headers at call read) =
      kept _ _ _ read.is
  goes-same seals old new step (steps.writes n headers at call read) = kept _ _ _ read.is
  goes-same seals old new step (steps.settles headers at call to) = kept _ _ _ to
  goes-same seals old new step (steps.moves headers commit at call on far to) = kept _ _ _ to
  goes-same seals old new step (steps.ends headers at call last has) = done headers at has
  goes-same seals old new step (steps.finishes ending commit at are call on to) = kept _ _ _ to
  goes-same seals old new step (steps.finishes_on ending commit at call on far to) = kept _ _ _ to
  goes-same seals old new step (steps.finished ending commit at call on last to) = kept _ _ _ to
  goes-same seals old new step (steps.wipes n ending at call to) = kept _ _ _ to
  goes-same seals old new step (steps.rests ending at call to) = kept _ _ _ to

  stops-same : (seals : Seals) (old new : Device) (fault : ZoneFault)
      → Stops seals old new before after fault → Same
  stops-same seals old new fault (steps.clashes_first _ _ at clash same stop) = kept _ _ _ stop.is
  stops-same seals old new fault (steps.clashes n headers _ _ at clash same stop) =
      kept _ _ _ stop.is
  stops-same seals old new fault (steps.refuses f at tells un same stop) = kept _ _ _ stop.is
  stops-same seals old new fault (steps.begin_fails at call stop) = kept _ _ _ stop.is
  stops-same seals old new fault (steps.read_first_fails at call stop) = kept _ _ _ stop.is
  stops-same seals old new fault (steps.save_first_fails at tells call stop) = kept _ _ _ stop.is
  stops-same seals old new fault (steps.read_fails n headers at call stop) =
      kept _ _ _ stop.is
  stops-same seals old new fault (steps.save_fails n headers at tells call stop) =
      kept _ _ _ stop.is
  stops-same seals old new fault (steps.keep_fails headers at call stop) = kept _ _ _ stop.is
  stops-same seals old new fault (steps.open_fails headers commit at call broken stop) =
      kept _ _ _ stop.is
  stops-same seals old new fault (steps.read_again_fails n headers at call stop) =
      kept _ _ _ stop.is
  stops-same seals old new fault (steps.write_fails n headers at call stop part) =
      kept _ _ _ stop.is
  stops-same seals old new fault (steps.settle_fails headers at call stop) = kept _ _ _ stop.is
  stops-same seals old new fault (steps.move_fails headers commit at call broken stop) =
      kept _ _ _ stop.is
  stops-same seals old new fault (steps.finish_refuses f at un same stop) = kept _ _ _ stop.is
  stops-same seals old new fault (steps.finish_fails ending commit at are call broken stop) =
      kept _ _ _ stop.is
  stops-same seals old new fault (steps.end_fails ending commit at call broken stop) =
      kept _ _ _ stop.is
  stops-same seals old new fault (steps.wipe_fails n ending at call stop) = kept _ _ _ stop.is
  stops-same seals old new fault (steps.rest_fails ending at call stop) = kept _ _ _ stop.is

pub steps-keep : {C : Type 0} (sector : C → ℕ) (seal unseal : C → ℕ → List ℕ → List ℕ)
    → StepsKeepGround sector seal unseal
steps-keep sector seal unseal before after old new (Ok step) working made =
    goes-same sector seal unseal before after working (seals_in seal unseal before) old new step
    made
steps-keep sector seal unseal before after old new (Err fault) working made =
    stops-same sector seal unseal before after working (seals_in seal unseal before) old new fault
    made

-- ---- behind the last step of a zone
new-behind : {C : Type 0} (sector : C → ℕ) (seals : Seals) (layout : Layout)
    (before after : Worker C) → IsWorking sector before → IsStored before.loaded
    → IsRuled before.loaded.valid.meta before.loaded.valid.sizes → before.halted ≡ None
    → (headers : Headers) → before.next ≡ Move headers
    → HasMoved before after headers.moved.loaded → (b : ℕ) → before.site.blocks.start ≤ b
    → b < before.site.blocks.end → side_in (map_in seals layout after) b ≡ New
new-behind sector seals layout before after working stored ruled runs headers at has b from below =
    let are = (subst (Needs before) at working.next).1 in
    let turns = move-turns sector before (by-header sector before working stored ruled) working
    stored ruled refl (fits-before sector before working stored ruled) headers are in
    let sizes : after.loaded.valid.sizes ≡ before.loaded.valid.sizes =
    ap (λ (s : Stored). s.valid.sizes) has.loaded
    ∙ moved-sizes before.loaded (count_of before.site) headers.opened headers.moved are in
    let means : meaning_of after.loaded.copies.used.bytes
    ≡ (header_by headers.moved.commit).means =
    ap (λ (s : Stored). meaning_of s.copies.used.bytes) has.loaded
    ∙ ap (λ (c : Copies). meaning_of c.used.bytes) are.follows.loaded.copies
    ∙ sym (ap (λ copy. meaning_of copy) are.follows.same.primary) in
    let rests = first-rests seals layout after (count_of after.site == 0) has.next
    (has.halted ∙ runs) in
    ap (λ (m : Map). side_in m b)
    (ap (λ k. map_of after.loaded.valid.sizes (meant k)) rests
    ∙ ap₂ (λ s m. map_of s m) sizes means)
    ∙ turns.sides b from below

pub steps-leave : {C : Type 0} (sector : C → ℕ) (seal unseal : C → ℕ → List ℕ → List ℕ)
    → StepsLeaveNew sector seal unseal
steps-leave {C} sector seal unseal layout before after old new b working stored ruled runs made
    from below =
    go (seals_in seal unseal before) made
  where
    go : (seals : Seals) → Goes seals old new before after ZoneDone
        → side_in (map_in seals layout after) b ≡ New
    go seals (steps.ends headers at call last has) =
        new-behind sector seals layout before after working stored ruled runs headers at has b from
        below
