-- A zone and the volume that it leads, between two steps: which call comes next, and what the last
-- lane has then.
use Rattle.std.proofs.Common.{Bool, List, None, Some, ap, arith, false, if◌then◌else◌, inl, inr}
use Rattle.std.proofs.Common.{length, refl, subst, suc, sym, true, ℕ, ◌==◌, ◌<◌, ◌∙◌, ◌≡◌, ◌≢◌}
use Rattle.base_terms.specs.declared.block_range.BlockRange.{BlockRange}
use Rattle.range_lock.specs.Locks.{IsStandingOf}
use Rattle.range_lock.specs.declared.Standing.TheVariants.{Held}
use Rattle.segment_map.specs.declared.Side.TheVariants.{New}
use Rattle.segment_map.specs.declared.map.Map.{Map}
use Rattle.volume_machine.specs.States.{State, open_at}
use Rattle.range_lock.specs.declared.Standing.TheVariants.{Waiting}
use Rattle.std.proofs.lemmas.Bool.{eqb-false, eqb-true, ne_eqb}
use Rattle.cipher_laws.specs.Bytes.{AreBytes}
use Rattle.crash_laws.specs.HeaderAreas.Headers.{Layout}
use Rattle.hotzone.specs.Known.{IsAtHand, header_by}
use Rattle.hotzone.specs.Promises.{seals_in}
use Rattle.hotzone.specs.Sites.{count_of}
use Rattle.hotzone.specs.Workers.{Needs, first_call, range_in}
use Rattle.hotzone.specs.declared.site.Site.{Site}
use Rattle.hotzone.specs.declared.worker.Ending.{Ending}
use Rattle.hotzone.specs.declared.worker.Halt.TheVariants.{GivenUp}
use Rattle.hotzone.specs.declared.worker.NextCall.{NextCall}
use Rattle.hotzone.specs.declared.worker.NextCall.TheVariants.{Begin, ReadFirst, SaveFirst, Read}
use Rattle.hotzone.specs.declared.worker.NextCall.TheVariants.{Save, Keep, Open, ReadAgain, Write}
use Rattle.hotzone.specs.declared.worker.NextCall.TheVariants.{Settle, Move, Finish, End, Wipe, Rest}
use Rattle.hotzone.specs.declared.worker.NextCall.TheVariants.{Over}
use Rattle.hotzone.specs.declared.worker.Worker.{Worker}
use Rattle.sector_disk.specs.JoinedDisks.Counts.{HasSizes}
use Rattle.sector_disk.specs.Devices.{Device}
use Rattle.volume_core.proofs.CodeSteps.{waits-unheld}
use Rattle.volume_core.proofs.WorkerLanes.{has-one}
use Rattle.volume_core.specs.Turns.{IsRenewed, MayStep, begins, finishes, holds, stays}
use Rattle.volume_core.specs.Volumes.{IsVolume}
use Rattle.volume_core.specs.Zones.{FitsCall, FitsZone, IsEnded}
use Rattle.volume_machine.specs.Seals.{Seals}
use Rattle.volume_machine.specs.WorkSteps.{AreOn}
use Rattle.volume_machine.specs.Working.{HoldsZone, IsWorkers}
use Rattle.volume_machine.specs.Works.{complete, resting}
use Rattle.volume_machine.specs.declared.keys.Keys.{Keys}
use Rattle.volume_machine.specs.declared.open.Open.{Open as Operation}
use Rattle.hotzone.specs.ZoneEvents.Holding.{IsKept, IsOnDisk}
use Rattle.hotzone.specs.ZoneEvents.Promises.{IsLater, IsOf}
use Rattle.hotzone.specs.ZoneEvents.Works.{between, layout_of, work_by, work_of}

-- ---- the calls: a zone begins, or the finish; the end is under way; a zone is at hand
data Kind (next : NextCall) : Type 0 where
  at_begin : next ≡ Begin → Kind next
  at_finish : next ≡ Finish → Kind next
  at_end : IsEnded next → Kind next
  in_zone : IsAtHand next → Kind next

kind_of : (next : NextCall) → Kind next
kind_of Begin = at_begin refl
kind_of ReadFirst = in_zone tt
kind_of SaveFirst = in_zone tt
kind_of (Read done headers) = in_zone tt
kind_of (Save done headers) = in_zone tt
kind_of (Keep headers) = in_zone tt
kind_of (Open headers) = in_zone tt
kind_of (ReadAgain done headers) = in_zone tt
kind_of (Write done headers) = in_zone tt
kind_of (Settle headers) = in_zone tt
kind_of (Move headers) = in_zone tt
kind_of Finish = at_finish refl
kind_of (End ending) = at_end tt
kind_of (Wipe done ending) = at_end tt
kind_of (Rest ending) = at_end tt
kind_of (Over ending) = at_end tt

-- the end has no blocks
ended-free : {C : Type 0} (w : Worker C) (next : NextCall) (map : Map) (o : Operation) → IsEnded next
    → FitsCall w map o next → ⊥
ended-free w (End ending) map o is fits = fits
ended-free w (Wipe done ending) map o is fits = fits
ended-free w (Rest ending) map o is fits = fits
ended-free w (Over ending) map o is fits = fits
ended-free w _ map o is fits = is

-- a zone at hand has some
some-at-hand : {C : Type 0} (w : Worker C) (next : NextCall) → IsAtHand next → Needs w next
    → 0 < count_of w.site
some-at-hand w ReadFirst is needs = needs
some-at-hand w SaveFirst is needs = needs
some-at-hand w (Read done headers) is needs = (let less = needs.0 in omega (arith, less))
some-at-hand w (Save done headers) is needs = (let less = needs.0 in omega (arith, less))
some-at-hand w (Keep headers) is needs = needs.0
some-at-hand w (Open headers) is needs = needs.0
some-at-hand w (ReadAgain done headers) is needs = (let less = needs.0 in omega (arith, less))
some-at-hand w (Write done headers) is needs = (let less = needs.0 in omega (arith, less))
some-at-hand w (Settle headers) is needs = needs.0
some-at-hand w (Move headers) is needs = needs.0
some-at-hand w _ is needs = absurd is

-- and its work has them
range-at-hand : {C : Type 0} (seals : Seals) (layout : Layout) (w : Worker C) (next : NextCall)
    → IsAtHand next → (work_by seals layout w next None).range ≡ w.site.blocks
unfolding work_by
range-at-hand seals layout w ReadFirst is = refl
range-at-hand seals layout w SaveFirst is = refl
range-at-hand seals layout w (Read done headers) is = refl
range-at-hand seals layout w (Save done headers) is = refl
range-at-hand seals layout w (Keep headers) is = refl
range-at-hand seals layout w (Open headers) is = refl
range-at-hand seals layout w (ReadAgain done headers) is = refl
range-at-hand seals layout w (Write done headers) is = refl
range-at-hand seals layout w (Settle headers) is = refl
range-at-hand seals layout w (Move headers) is = refl
range-at-hand seals layout w _ is = absurd is

-- ---- the blocks of the zone
pub range-is : {C : Type 0} (w : Worker C) (range : BlockRange) → range_in w ≡ Some range
    → (w.site.blocks ≡ range) × (0 < count_of w.site)
range-is w range is = go (count_of w.site == 0) refl is
  where
    go : (b : Bool) → (count_of w.site == 0) ≡ b
        → (if b then None else Some w.site.blocks) ≡ Some range
        → (w.site.blocks ≡ range) × (0 < count_of w.site)
    go true e none = absurd (cc)
    go false e same = (
      (let one : w.site.blocks ≡ range = cc in one),
      (let far = eqb-false _ _ e in omega (arith, far)),
    )

pub no-range : {C : Type 0} (w : Worker C) → range_in w ≡ None → count_of w.site ≡ 0
no-range w is = go (count_of w.site == 0) refl is
  where
    go : (b : Bool) → (count_of w.site == 0) ≡ b
        → (if b then None else Some w.site.blocks) ≡ None → count_of w.site ≡ 0
    go true e none = eqb-true _ _ e
    go false e same = absurd (cc)

pub range-some : {C : Type 0} (w : Worker C) → 0 < count_of w.site
    → range_in w ≡ Some w.site.blocks
range-some w some = rw (ne_eqb (count_of w.site) 0 (λ is. omega (arith, is, some))) refl

-- ---- what is known of a zone and of its volume
pub record IsAt {C : Type 0} (sector : C → ℕ) (seal unseal : C → ℕ → List ℕ → List ℕ) (w : Worker C)
    (state : State (Keys C)) : Type 0 where
  pub volume : IsVolume sector (Some w) state
  pub kept : IsKept sector w
  pub first_salt : length w.loaded.copies.primary.salt ≡ 64
  pub second_salt : length w.loaded.copies.secondary.salt ≡ 64
  pub bytes : AreBytes w.buffer
  pub work : state.work ≡ Some (work_of (seals_in seal unseal w) (layout_of w) w)

pub runs-renewed : {C : Type 0} (before after : Worker C) → IsRenewed before after
    → after.halted ≡ None
runs-renewed before after (stays none is) = rw is none
runs-renewed before after (begins given is) = rw is refl

needs-first : {C : Type 0} (w : Worker C) → Needs w (first_call w.site)
needs-first w = go (count_of w.site == 0) refl
  where
    go : (b : Bool) → (count_of w.site == 0) ≡ b → Needs w (if b then Finish else Begin)
    go true is = eqb-true _ _ is
    go false is = (let far = eqb-false _ _ is in omega (arith, far))

pub range-renewed : {C : Type 0} (before after : Worker C) → IsRenewed before after
    → range_in after ≡ range_in before
range-renewed before after (stays none is) = rw is refl
range-renewed before after (begins given is) = rw is refl

pub sizes-renewed : {C : Type 0} (before after : Worker C) (device : Device)
    → IsRenewed before after → HasSizes before.loaded.valid.sizes device
    → HasSizes after.loaded.valid.sizes device
sizes-renewed before after device (stays none is) sized = rw is sized
sizes-renewed before after device (begins given is) sized = rw is sized

pub later-first : (site : Site) → IsLater site (first_call site)
later-first site = go (count_of site == 0)
  where
    go : (b : Bool) → IsLater site (if b then Finish else Begin)
    go true = tt
    go false = tt

pub none-first : (site : Site) → IsEnded (first_call site) → ⊥
none-first site = go (count_of site == 0)
  where
    go : (b : Bool) → IsEnded (if b then Finish else Begin) → ⊥
    go true is = is
    go false is = is

pub work-first : {C : Type 0} (seals : Seals) (layout : Layout) (w : Worker C)
    → work_by seals layout w (first_call w.site) None ≡ between layout w
unfolding work_by
work-first seals layout w = go (count_of w.site == 0)
  where
    go : (b : Bool) → work_by seals layout w (if b then Finish else Begin) None ≡ between layout w
    go true = refl
    go false = refl

pub given-up-work : {C : Type 0} (seals : Seals) (layout : Layout) (w : Worker C) (next : NextCall)
    → work_by seals layout w next (Some GivenUp) ≡ between layout w
unfolding work_by
given-up-work seals layout w next = refl

module _ {C : Type 0} (sector : C → ℕ) (seal unseal : C → ℕ → List ℕ → List ℕ) where
  -- one that was given up begins anew
  abbrev pub fresh : Worker C → Worker C
  fresh w = record w { next = first_call w.site; halted = None }

  pub fresh-at : (w : Worker C) (state : State (Keys C)) → IsAt sector seal unseal w state
      → w.halted ≡ Some GivenUp → IsAt sector seal unseal (fresh w) state
  fresh-at w state at given =
      let working = at.kept.working in
      let led = at.volume.led in
      record {
        volume = record {
          atom = at.volume.atom;
          sound = at.volume.sound;
          keys = at.volume.keys;
          few = at.volume.few;
          led = record {
            later = later-first w.site;
            none = λ ended. absurd (none-first w.site ended);
            keys = led.keys;
            sizes = led.sizes;
            order = led.order;
            goes_on = λ whole. inl refl;
            lane = λ whole lane o last here. absurd
                (subst (λ h. FitsZone w state.map o h) given (led.lane whole lane o last here));
          };
        };
        kept = record {
          working = record {
            disk = working.disk;
            zone = working.zone;
            fits = working.fits;
            own = working.own;
            store = working.store;
            room = working.room;
            keys = working.keys;
            next = needs-first (fresh w);
          };
          stored = at.kept.stored;
          ruled = at.kept.ruled;
        };
        first_salt = at.first_salt;
        second_salt = at.second_salt;
        bytes = at.bytes;
        work = at.work ∙ ap (λ n. Some n)
            (ap (λ h. work_by (seals_in seal unseal w) (layout_of w) w w.next h) given
            ∙ given-up-work (seals_in seal unseal w) (layout_of w) w w.next
            ∙ sym (work-first (seals_in seal unseal w) (layout_of w) (fresh w)));
      }

  pub at-renewed : (before after : Worker C) (state : State (Keys C))
      → IsAt sector seal unseal before state → IsRenewed before after
      → IsAt sector seal unseal after state
  at-renewed before after state at (stays none is) =
      subst (λ w. IsAt sector seal unseal w state) (sym is) at
  at-renewed before after state at (begins given is) =
      subst (λ w. IsAt sector seal unseal w state) (sym is) (fresh-at before state at given)

-- what the last lane has under way is a write that makes no piece
pub worker-writes : {C : Type 0} (sector : C → ℕ) (seal unseal : C → ℕ → List ℕ → List ℕ)
    (w : Worker C) (state : State (Keys C)) → IsAt sector seal unseal w state → (lane : ℕ)
    → suc lane ≡ length state.lanes → (o : Operation) → open_at state.lanes lane ≡ Some o
    → IsWorkers o
worker-writes sector seal unseal w state at lane last o here =
    (at.volume.led.order.works (work_of (seals_in seal unseal w) (layout_of w) w) at.work).worker
    lane o last here

-- ---- while it goes on
module _ {C : Type 0} (sector : C → ℕ) (seal unseal : C → ℕ → List ℕ → List ℕ) (w : Worker C)
    (state : State (Keys C)) (at : IsAt sector seal unseal w state) (runs : w.halted ≡ None)
    (whole : state.broken ≡ false) (lane : ℕ) (last : suc lane ≡ length state.lanes) where
  work-is : (next : NextCall) → w.next ≡ next
      → state.work ≡ Some (work_by (seals_in seal unseal w) (layout_of w) w next None)
  work-is next is =
      at.work ∙ ap (λ n. Some (work_by (seals_in seal unseal w) (layout_of w) w n w.halted)) is
      ∙ ap (λ h. Some (work_by (seals_in seal unseal w) (layout_of w) w next h)) runs

  pub needs-is : (next : NextCall) → w.next ≡ next → Needs w next
  needs-is next is = subst (Needs w) is at.kept.working.next

  pub on-disk : IsOnDisk w.loaded.valid.sizes state
  on-disk = record { sizes_are = at.volume.led.sizes; courses = at.volume.led.order.courses }

  workers : (o : Operation) → open_at state.lanes lane ≡ Some o → IsWorkers o
  workers = worker-writes sector seal unseal w state at lane last

  fits-is : (next : NextCall) → w.next ≡ next → (o : Operation) → open_at state.lanes lane ≡ Some o
      → FitsCall w state.map o next
  fits-is next is o here = subst (λ n. FitsCall w state.map o n) is
      (subst (λ h. FitsZone w state.map o h) runs (at.volume.led.lane whole lane o last here))

  -- a zone at hand is held
  held : (next : NextCall) → w.next ≡ next → IsAtHand next
      → HoldsZone state (work_by (seals_in seal unseal w) (layout_of w) w next None)
  held next is hand =
      let some = some-at-hand w next hand (needs-is next is) in
      let range = range-at-hand (seals_in seal unseal w) (layout_of w) w next hand in
      (at.volume.led.order.works (work_by (seals_in seal unseal w) (layout_of w) w next None)
      (work-is next is)).lies.held whole
      (subst (λ r. r.start < r.end) (sym range) (omega (arith, some)))

  held-lane : (next : NextCall) (is : w.next ≡ next) (hand : IsAtHand next)
      → (held next is hand).lane ≡ lane
  held-lane next is hand = (let other = (held next is hand).last in omega (arith, other, last))

  held-open : (next : NextCall) (is : w.next ≡ next) (hand : IsAtHand next)
      → open_at state.lanes lane ≡ Some (held next is hand).o
  held-open next is hand = subst (λ n. open_at state.lanes n ≡ Some (held next is hand).o)
      (held-lane next is hand) (held next is hand).at

  held-some : (next : NextCall) → w.next ≡ next → IsAtHand next
      → open_at state.lanes lane ≡ None → ⊥
  held-some next is hand free = (let here = held-open next is hand in absurd (cc))

  pub held-range : (next : NextCall) → w.next ≡ next → IsAtHand next → (o : Operation)
      → open_at state.lanes lane ≡ Some o → o.range ≡ w.site.blocks
  held-range next is hand o here =
      let there = held-open next is hand in
      let same : (held next is hand).o ≡ o = cc in
      subst (λ (p : Operation). p.range ≡ w.site.blocks) same
      ((held next is hand).range
      ∙ range-at-hand (seals_in seal unseal w) (layout_of w) w next hand)

  held-now : (next : NextCall) → w.next ≡ next → IsAtHand next
      → IsStandingOf lane state.entries Held
  held-now next is hand = subst (λ n. IsStandingOf n state.entries Held) (held-lane next is hand)
      (held next is hand).holds

  -- ---- by what the turn finds
  pub takes-begin : open_at state.lanes lane ≡ None → (range : BlockRange) → range_in w ≡ Some range
      → w.next ≡ Begin
  takes-begin free range is = elim (kind_of w.next) [
    | at_begin next ↦ next
    | at_finish next ↦ absurd (let none = needs-is Finish next in
        let some = (range-is w range is).1 in omega (arith, none, some))
    | at_end next ↦ absurd (let none = at.volume.led.none next in
        let some = (range-is w range is).1 in omega (arith, none, some))
    | in_zone hand ↦ absurd (held-some w.next refl hand free)
  ]

  pub waits-begin : (o : Operation) → open_at state.lanes lane ≡ Some o → (other : ℕ)
      → range_in w ≡ Some o.range → IsStandingOf lane state.entries (Waiting other)
      → w.next ≡ Begin
  waits-begin o here other is stands = elim (kind_of w.next) [
    | at_begin next ↦ next
    | at_finish next ↦ absurd (let none = needs-is Finish next in
        let some = (range-is w o.range is).1 in omega (arith, none, some))
    | at_end next ↦ absurd (let none = at.volume.led.none next in
        let some = (range-is w o.range is).1 in omega (arith, none, some))
    | in_zone hand ↦ absurd
        (waits-unheld lane other state.entries stands (held-now w.next refl hand))
  ]

  pub begin-rests : w.next ≡ Begin → state.work ≡ Some (between (layout_of w) w)
  unfolding work_by
  begin-rests next = work-is Begin next

  pub finish-rests : w.next ≡ Finish → state.work ≡ Some (between (layout_of w) w)
  unfolding work_by
  finish-rests next = work-is Finish next

  -- blocks that are left are new, and no zone is at hand
  pub leaves-new : (o : Operation) → open_at state.lanes lane ≡ Some o → range_in w ≢ Some o.range
      → AreOn state.map o New × (state.work ≡ Some (between (layout_of w) w))
  leaves-new o here differs = elim (kind_of w.next) [
    | at_begin next ↦ elim (fits-is Begin next o here) [
      | inl same ↦ absurd (differs (range-some w (needs-is Begin next)
          ∙ ap (λ r. Some r) (sym same)))
      | inr new ↦ (new, begin-rests next)
    ]
    | at_finish next ↦ (fits-is Finish next o here, finish-rests next)
    | at_end next ↦ absurd (ended-free w w.next state.map o next (fits-is w.next refl o here))
    | in_zone hand ↦ absurd (differs (range-some w
        (some-at-hand w w.next hand (needs-is w.next refl))
        ∙ ap (λ r. Some r) (sym (held-range w.next refl hand o here))))
  ]

  -- an end leaves none
  pub ended-lane : IsEnded w.next → open_at state.lanes lane ≡ None
  ended-lane next = elim (has-one (open_at state.lanes lane)) [
    | inl free ↦ free
    | inr some ↦ absurd
        (ended-free w w.next state.map some.0 next (fits-is w.next refl some.0 some.1))
  ]

  pub over-work : (ending : Ending) → w.next ≡ Over ending → state.work
      ≡ Some (resting (layout_of w) (header_by ending.commit) complete)
  unfolding work_by
  over-work ending next = work-is (Over ending) next

  -- a step is one of a zone whose blocks are held, or of the finish
  pub of-step : MayStep w state.entries (open_at state.lanes lane) lane
      → IsOf sector (seals_in seal unseal w) (layout_of w) w state
  of-step may = record {
    working = at.kept.working;
    later = at.volume.led.later;
    runs = runs;
    bytes = at.bytes;
    stored = at.kept.stored;
    salts = (at.first_salt, at.second_salt);
    ruled = at.kept.ruled;
    sizes = at.volume.led.sizes;
    work = at.work;
    keys = at.volume.led.keys;
    unbroken = whole;
    courses = at.volume.led.order.courses;
    held = λ next. elim may [
      | holds has stands ↦ record {
        lane = lane;
        last = last;
        o = has.o;
        at = has.at;
        writes = (workers has.o has.at).writes;
        range = sym (range-is w has.o.range has.range).0;
        next = (workers has.o has.at).next;
        unfailed = (workers has.o has.at).unfailed;
        holds = stands;
      }
      | finishes free none ↦ absurd (let some = needs-is Begin next in
          let no = no-range w none in omega (arith, some, no))
    ];
    free = λ next. elim may [
      | holds has stands ↦ absurd (let some = (range-is w has.o.range has.range).1 in
          let no = needs-is Finish next in omega (arith, some, no))
      | finishes free none ↦ record { lane = lane; last = last; free = free }
    ];
  }
