-- Both copies of a header have room on its own disk: of the one behind which a volume begins, and so of
-- each one that a stop of its conversion may leave.
use Rattle.std.proofs.Common.{◌≡◌, ◌∙◌, ◌+◌, ◌*◌, ◌≤◌, inl, inr, ℕ, Bool, true, false, List, [], ◌∷◌}
use Rattle.std.proofs.Common.{Some, ap, arith, refl, subst, sym}
use Rattle.base_terms.specs.declared.disk_sizes.Sizes.{Sizes}
use Rattle.crash_laws.specs.HeaderAreas.Commits.{IsLater, MayBe, Stage, begun, first_kept, first_written}
use Rattle.crash_laws.specs.HeaderAreas.Commits.{second_written}
use Rattle.crash_laws.specs.HeaderAreas.Headers.{Layout, Reader}
use Rattle.crash_laws.specs.HotZones.Zones.{from_of, stage_of, to_of}
use Rattle.hotzone.proofs.ZoneEvents.GroundLemmas.{converting as under-way}
use Rattle.hotzone.specs.ZoneEvents.Heads.{header_on}
use Rattle.hotzone.specs.ZoneEvents.Readings.{reading_of}
use Rattle.luks_rules.specs.Areas.{areas_begin, areas_end, header_bytes, main_bytes}
use Rattle.luks_rules.specs.States.{IsSound}
use Rattle.luks_store.proofs.CopyLemmas.{Spelt}
use Rattle.luks_store.proofs.FrontLemmas.{areas-begin}
use Rattle.luks_store.specs.Copying.Meanings.{header_reader, size_in}
use Rattle.luks_store.specs.declared.loaded.Stored.{Stored}
use Rattle.recovery_laws.proofs.Resumed.KeptSlots.{begin, size-is, sound}
use Rattle.recovery_laws.specs.Resumed.Chaining.{AreDisks}
use Rattle.recovery_laws.specs.Resumed.Starts.{BeginsBehind, layout_on, volume_seals}
use Rattle.volume_laws.proofs.BesideConversions.SoFar.{SoFar, closes, converts, is_over, same_so_far}
use Rattle.volume_laws.proofs.BesideConversions.SoFar.{wipes_on, work_so_far}
use Rattle.volume_laws.proofs.BesideServing.Failures.{deeds_same}
use Rattle.volume_laws.proofs.HeadersNow.{is_later}
use Rattle.volume_laws.proofs.VolumesKept.{deeds_in_order, event_in_order, step_in_order}
use Rattle.volume_laws.specs.Converting.{IsInOrder}
use Rattle.volume_machine.proofs.EventEffects.{event_effects}
use Rattle.volume_machine.specs.Deeds.{Act, AreDeeds, Deed, Does, client, state_after, worker}
use Rattle.volume_machine.specs.Readings.{Reading}
use Rattle.volume_machine.specs.Seals.{Seals}
use Rattle.volume_machine.specs.States.{State}
use Rattle.volume_machine.specs.Works.{Work, converting, resting}
use Rattle.volume_machine.specs.declared.keys.Keys.{Keys}

pub only-work : {work other : Work} {o : _} → o ≡ Some work → o ≡ Some other → work ≡ other
only-work {work} {other} {o} is also = (let e : Some work ≡ Some other = sym is ∙ also in cc)

-- ---- the copies lie where they lay at the start
laid-so : {K : Type 0} {reading : Reading} {layout : Layout} {state : State K}
    → SoFar reading layout state → (work : Work) → state.work ≡ Some work → work.layout ≡ layout
laid-so (converts own at is lay) work here = ap (λ (w : Work). w.layout) (only-work here at) ∙ lay
laid-so (closes before last stage areas at all) work here =
    ap (λ (w : Work). w.layout) (only-work here at)
laid-so (wipes_on last left at all) work here = ap (λ (w : Work). w.layout) (only-work here at)
laid-so (is_over last at all) work here = ap (λ (w : Work). w.layout) (only-work here at)

module _ {K : Type 0} (reading : Reading) (seals : Seals) (layout : Layout) where
  far-on : (old new : State K) (act : Act) → IsInOrder reading old → SoFar reading layout old
      → Does reading seals old act new → IsInOrder reading new × SoFar reading layout new
  far-on old new (client event outcome) order far (meets, step) =
      let goes = event_effects old new event outcome step in (
        event_in_order reading old new event outcome order meets step,
        same_so_far goes.work goes.map far,
      )
  far-on old new (worker worked) order far step =
      (step_in_order reading seals old new worked order step, work_so_far order far step)

  so-far : (old : State K) (deeds : List (Deed K)) → IsInOrder reading old
      → SoFar reading layout old → AreDeeds reading seals old deeds
      → SoFar reading layout (state_after old deeds)
  unfolding AreDeeds state_after
  so-far old [] order far are = far
  so-far old (one ∷ rest) order far (does, are) =
      let next = far-on old one.after one.act order far does in
      so-far one.after rest next.0 next.1 are

-- ---- each header that a commit may leave is as long as the one that it leads from
may-size : (reader : Reader (List ℕ)) (stage : Stage) (from to one : List ℕ)
    → IsLater reader stage from to → MayBe stage from to one → reader.size one ≡ reader.size from
may-size reader begun from to one later may = ap (λ m. reader.size m) may
may-size reader first_written from to one later (inl same) = ap (λ m. reader.size m) same
may-size reader first_written from to one later (inr next) =
    ap (λ m. reader.size m) next ∙ later.1
may-size reader first_kept from to one later may = ap (λ m. reader.size m) may ∙ later.1
may-size reader second_written from to one later may = ap (λ m. reader.size m) may ∙ later.1

-- what ends in front of something that ends in front of the end
fits-twice : (size held begin rest front : ℕ) → size ≡ held → begin ≡ 2 * held
    → begin + rest ≤ front → 2 * size ≤ front
fits-twice size held begin rest front same is fits = omega (arith, same, is, fits)

module _ {C : Type 0} {sector : C → ℕ} {sealed opened : C → ℕ → List ℕ → List ℕ} (spelt : Spelt)
    (sizes : Sizes) (header : Stored) (lanes : ℕ) (old_key new_key bytes : List ℕ)
    (volume : State (Keys C))
    (b : BeginsBehind sector sealed opened sizes header lanes old_key new_key bytes volume)
    (disks : AreDisks sizes volume.disk)
    (at-rest : volume.work
    ≡ Some (resting (layout_on sizes header) (header_on header) converting)) where
  -- ---- Its keyslots area begins behind both copies, and ends on the disk of the header: by the rules where
  -- that is one of its own, and else since it ends in front of the segments.
  areas-in-front : areas_end header.valid.meta.config ≤ header_bytes sizes
  areas-in-front = by-disk sizes.detached refl
    where
      rules : IsSound header.valid.meta sizes
      rules = sound sizes header lanes old_key new_key bytes volume b at-rest spelt (areas-begin spelt)

      by-disk : (own : Bool) → sizes.detached ≡ own
          → areas_end header.valid.meta.config ≤ header_bytes sizes
      by-disk true is = rules.within.detached is
      by-disk false is =
          let old = (under-way header.valid.meta sizes b.now rules b.known).1.old in
          let behind = old.behind is in
          let on_disk = old.on_disk in
          let all : header_bytes sizes ≡ main_bytes sizes =
          ap (λ n. n * sizes.atom) (disks.has.alone is) in
          omega (arith, behind, on_disk, all)

  first-room : 2 * size_in (header_on header).means ≤ header_bytes sizes
  first-room =
      fits-twice (size_in (header_on header).means) b.holds.holds.stored.copies.used.header.hdr_size
      (areas_begin header.valid.meta.config) header.valid.meta.config.keyslots_size
      (header_bytes sizes)
      (size-is sizes header lanes old_key new_key bytes volume b at-rest spelt (areas-begin spelt))
      (begin sizes header lanes old_key new_key bytes volume b at-rest spelt (areas-begin spelt))
      areas-in-front

  -- ---- behind deeds
  module _ (deeds : List (Deed (Keys C)))
      (are : AreDeeds (reading_of sizes) (volume_seals sealed opened volume) volume deeds) where
    abbrev here : State (Keys C)
    here = state_after volume deeds

    atom-stays : here.map.atom ≡ volume.map.atom
    atom-stays =
        (deeds_same (reading_of sizes) (volume_seals sealed opened volume) volume deeds
        (record { sound = b.order.sound; order = λ some. b.order }) are).atom

    far : SoFar (reading_of sizes) (layout_on sizes header) here
    far =
        so-far (reading_of sizes) (volume_seals sealed opened volume) (layout_on sizes header) volume
        deeds b.order (converts (resting (layout_on sizes header) (header_on header) converting) at-rest
        refl refl) are

    -- a header that the commit at hand may leave
    module _ (work : Work) (at : here.work ≡ Some work) (one : List ℕ)
        (may : MayBe (stage_of work.phase) (from_of work.zone work.phase).means
        (to_of work.zone work.phase).means one) where
      size-stays : size_in one ≡ size_in (header_on header).means
      size-stays =
          let order = deeds_in_order (reading_of sizes) (volume_seals sealed opened volume) volume deeds
          b.order are in
          let course = order.courses work at in
          let first = b.order.courses
          (resting (layout_on sizes header) (header_on header) converting) at-rest in
          may-size header_reader (stage_of work.phase) (from_of work.zone work.phase).means
          (to_of work.zone work.phase).means one (is_later work course) may
          ∙ sym course.laid.long
          ∙ ap (λ a. work.layout.first.count * a) atom-stays
          ∙ ap (λ (l : Layout). l.first.count * volume.map.atom) (laid-so far work at)
          ∙ first.laid.long

      pub room-behind : 2 * header_reader.size one ≤ header_bytes sizes
      room-behind = subst (λ n. 2 * n ≤ header_bytes sizes) (sym size-stays) first-room
