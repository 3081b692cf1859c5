-- The law of images while an open zone is written again by its steps.
use Rattle.std.proofs.Common.{◌≡◌, inr, ℕ, ◌+◌, ◌*◌, ◌/◌, ◌<◌, ◌≤◌, Bool, true, false, List, length}
use Rattle.std.proofs.Common.{map, Result, Ok, Err, Some, refl, ◌∙◌, ap, subst, arith}
use Rattle.std.proofs.Math.Nat.{le_of_mul-le-mul_right}
use Rattle.base_terms.specs.Blocks.{joined}
use Rattle.base_terms.specs.declared.failed.Failed.{Failed as Failure}
use Rattle.crash_laws.specs.HeaderAreas.Commits.{Follows}
use Rattle.crash_laws.specs.HeaderAreas.Headers.{Gives, Header, IsLaidOut, Layout}
use Rattle.base_terms.specs.declared.disk_sizes.Sizes.{Sizes}
use Rattle.sector_disk.specs.DiskViews.Parts.{block_at}
use Rattle.sector_disk.specs.DiskViews.Views.{view_of_cells}
use Rattle.crash_laws.specs.HotZones.Calls.{ShowsMoved}
use Rattle.crash_laws.specs.HotZones.Zones.{Hotzone, Texts}
use Rattle.hotzone.specs.declared.site.Site.{Site}
use Rattle.sector_disk.specs.JoinedDisks.Counts.{HasSizes}
use Rattle.luks_store.specs.Copying.Meanings.{header_reader, meaning_of}
use Rattle.luks_rules.specs.Areas.{areas_begin}
use Rattle.luks_rules.specs.declared.shape.Progress.{Progress}
use Rattle.luks_rules.specs.declared.valid.Checked.{Checked}
use Rattle.luks_store.proofs.PageLemmas.{page-place, size-pages}
use Rattle.luks_store.proofs.StoredLemmas.{size-kept}
use Rattle.luks_store.specs.Devices.{IsCertain, front_of}
use Rattle.luks_store.specs.Promises.{AreasBeginBehind}
use Rattle.luks_store.specs.declared.loaded.Stored.{Stored}
use Rattle.image_laws.specs.Opened.Images.{OpenStandsFor, OpenStandsUnder}
use Rattle.reenc_meta.specs.Layouts.{progress_at}
use Rattle.reenc_meta.specs.Moves.{moved}
use Rattle.reenc_recovery.proofs.RepairTableLemmas.{layout_of}
use Rattle.sector_disk.specs.Cells.{Cell, content, synced}
use Rattle.sector_disk.specs.Devices.{Device}
use Rattle.sector_disk.specs.Steps.{Told}
use Rattle.hotzone.proofs.ZoneEvents.GroundLemmas.{one-progress}
use Rattle.image_laws.proofs.Led.BytesLemmas.{HasRest, bytes-moved}
use Rattle.image_laws.proofs.Led.ContentLemmas.{ClosesBy}
use Rattle.image_laws.proofs.Led.EndLemmas.{StandsInFront, certain-end, holds-next, last-synced}
use Rattle.image_laws.proofs.Led.EndLemmas.{both-give, joined-now, now-image, own-end, rest-end}
use Rattle.image_laws.proofs.Led.EndLemmas.{long-end, stands-end}
use Rattle.image_laws.proofs.Led.MendStepLemmas.{goes-one, same-along, same-on}
use Rattle.image_laws.proofs.Led.RunLemmas.{At, Carries, Stands, begins, carried, carry-on, has-first}
use Rattle.image_laws.proofs.Led.RunLemmas.{known-own, many-same, one-told, over-before, stays-first}
use Rattle.image_laws.proofs.Led.RunLemmas.{stays-kept, tells-failed, tells-on, zone-same}
use Rattle.image_laws.proofs.Led.SinceLemmas.{since-more, since-weaker}
use Rattle.image_laws.proofs.Led.StartLemmas.{Begun, KeepsElsewhere, Laws, long-now, many-now, more-now}
use Rattle.image_laws.proofs.Led.StartLemmas.{StartsWith, read-now, start, the-zone, within-now}
use Rattle.image_laws.proofs.Led.TableForLemmas.{closed-pass}
use Rattle.image_laws.proofs.Led.ZoneLemmas.{atom-is, follows-on, moved-means, moves-over, size-is}
use Rattle.image_laws.specs.Led.Holding.{HoldsHeader, TellsLawfully, TellsOn}
use Rattle.image_laws.specs.Led.Keys.{AreCiphersOf}
use Rattle.image_laws.specs.Led.Promises.{MendingsStand, MendingsStandFor, MendsFrom, StandsOn}
use Rattle.image_laws.specs.Led.Promises.{StandsOnFor, StandsTurned, StandsTurnedFor}
use Rattle.image_laws.specs.Led.Spared.{IsSparedTurn}
use Rattle.image_laws.specs.Led.Runs.{MendRun, none, one_more}
use Rattle.image_laws.specs.Led.Turned.{ClosedBy, ClosedForBy}
use Rattle.zone_mending.proofs.StepLemmas.{sizes-on}
use Rattle.zone_mending.specs.Known.{IsKnown, IsThrough, zone_in}
use Rattle.zone_mending.specs.Promises.{seals_in}
use Rattle.zone_mending.specs.Steps.{Goes, Steps}
use Rattle.zone_mending.specs.declared.mender.Mender.{Mender}

module _ {C : Type 0} {sector : C → ℕ} {sealed opened : C → ℕ → List ℕ → List ℕ} {m : Mender C}
    {old : Device} {layout : Layout} {old_key new_key bytes : List ℕ}
    (laws : Laws sector sealed opened)
    (b : Begun sector sealed opened m old layout old_key new_key bytes) where
  abbrev Turned : Device → Type 0
  Turned device =
      StandsTurned m.loaded.valid.sizes m.moved.loaded old_key new_key bytes device
      × StandsTurnedFor m.loaded.valid.sizes m.moved.loaded old_key new_key bytes device

  -- ---- the last step
  module _ (before after : Mender C) (at new : Device) (c : Carries laws b before at)
      (tells : TellsLawfully new)
      (made : Goes (seals_in sealed opened before) at new before after true) (now : Told)
      (now_is : new.told ≡ Some now) (mid was : Told) (mid_is : at.told ≡ Some mid)
      (was_is : old.told ≡ Some was) (had : At laws b was was_is before mid) where
    abbrev shown : Header (List ℕ)
    shown = (start b laws was was_is).0

    abbrev texts : Texts
    texts = (start b laws was was_is).1

    started : StartsWith b shown texts was
    started = (start b laws was was_is).2

    abbrev known : IsKnown (seals_in sealed opened m) layout shown texts m (view_of_cells was.now)
    known = started.is

    abbrev zone : Hotzone (List ℕ)
    zone = zone_in m shown

    through : IsThrough layout shown texts before after (view_of_cells mid.now)
        (view_of_cells now.now)
    through =
        let led = laws.ends layout shown texts before after at new now
        (over-before laws b before after at new c tells) made now_is in
        let step = subst (λ (t : Told).
        IsKnown (seals_in sealed opened before) layout shown texts before (view_of_cells t.now)
        → IsThrough layout shown texts before after (view_of_cells t.now) (view_of_cells now.now))
        (one-told led.0 mid at.told led.1 mid_is) led.2 in
        step (known-own laws b before after at new c tells shown texts mid had.known)

    has : HasSizes m.loaded.valid.sizes new
    has =
        has-first laws b after.loaded new
        (same-along m before after c.same
        (same-on (seals_in sealed opened before) at new before after true made)).loaded
        (sizes-on (seals_in sealed opened before) at new before after true made c.sizes)

    kept : KeepsElsewhere m.loaded.valid.sizes.atom bytes layout zone now.now
    kept =
        stays-kept m.loaded.valid.sizes.atom bytes layout zone mid.now now.now
        (many-same laws b before after at new c tells mid now mid_is now_is has)
        (stays-first laws b before after at new c tells shown false mid now through.elsewhere)
        had.elsewhere

    shows : ShowsMoved m.loaded.valid.sizes.atom layout zone texts zone.own
        (view_of_cells now.now)
    shows =
        let atom : before.site.atom ≡ m.loaded.valid.sizes.atom =
        ap (λ (s : Site). s.atom) c.same.site ∙ atom-is sector m b.mends in
        subst (λ (a : ℕ). ShowsMoved a layout zone texts zone.own (view_of_cells now.now)) atom
        (subst (λ (z : Hotzone (List ℕ)). ShowsMoved before.site.atom layout z texts z.own
        (view_of_cells now.now)) (zone-same m before shown c.same) through.shows)

    follows : Follows header_reader shown.means zone.moved.means
    follows = follows-on sector m b.mends shown known.means

    sized : header_reader.size zone.moved.means ≡ m.loaded.copies.used.header.hdr_size
    sized = follows.1 ∙ ap header_reader.size known.means ∙ size-is sector m b.mends

    synced-is : (cells : List Cell) × (now.now ≡ map synced cells)
    synced-is =
        last-synced (seals_in sealed opened before) at new before after now made now_is

    long : length bytes ≡ length now.now * m.loaded.valid.sizes.atom
    long = long-now b was was_is shown texts started new now has tells now_is

    many : length now.now ≡ new.atoms
    many = many-now b was was_is shown texts started new now has tells now_is

    more : m.loaded.valid.sizes.header_atoms ≤ length now.now
    more = more-now b was was_is shown texts started new now has tells now_is

    within : zone.own.start + zone.own.count ≤ length now.now
    within = (within-now b was was_is shown texts started new now has tells now_is).own

    certain : IsCertain m.loaded.valid.sizes (content now.now) now.now
    certain =
        certain-end laws.is_reader laws.taken m.loaded.valid.sizes layout zone texts bytes
        m.loaded.copies.used.header.hdr_size new now now_is tells has.atom many more b.laid
        known.next_header sized synced-is.0 synced-is.1 through.settled shows long kept within

    stands : StandsInFront m.loaded.valid.sizes (content now.now) zone.moved.means
    stands =
        stands-end laws.is_reader laws.taken m.loaded.valid.sizes layout zone texts bytes
        m.loaded.copies.used.header.hdr_size new now now_is tells has.atom many more b.laid
        known.next_header sized synced-is.0 synced-is.1 through.settled shows long kept within

    stands-next : StandsInFront m.loaded.valid.sizes (content now.now)
        (meaning_of m.moved.loaded.copies.used.bytes)
    stands-next =
        subst (λ (x : List ℕ). StandsInFront m.loaded.valid.sizes (content now.now) x)
        (moved-means sector m b.mends) stands

    gives : Gives header_reader (front_of m.loaded.valid.sizes (content now.now)) zone.moved.means
    gives = both-give _ zone.moved.means stands.one stands.two

    own-atoms : (i : ℕ) → i < zone.own.count
        → block_at m.loaded.valid.sizes.atom (content now.now) (zone.own.start + i) ≡ texts.new i
    own-atoms =
        own-end laws.is_reader laws.taken m.loaded.valid.sizes layout zone texts bytes
        m.loaded.copies.used.header.hdr_size new now now_is tells has.atom many more b.laid
        known.next_header sized synced-is.0 synced-is.1 through.settled shows long kept within

    rest-atoms : HasRest m.loaded.valid.sizes layout zone bytes (content now.now)
    rest-atoms =
        rest-end laws.is_reader laws.taken m.loaded.valid.sizes layout zone texts bytes
        m.loaded.copies.used.header.hdr_size new now now_is tells has.atom many more b.laid
        known.next_header sized synced-is.0 synced-is.1 through.settled shows long kept within

    long-now-is : length (content now.now) ≡ length now.now * m.loaded.valid.sizes.atom
    long-now-is =
        long-end laws.is_reader laws.taken m.loaded.valid.sizes layout zone texts bytes
        m.loaded.copies.used.header.hdr_size new now now_is tells has.atom many more b.laid
        known.next_header sized synced-is.0 synced-is.1 through.settled shows long kept within

    closed : (told : List (List ℕ))
        → OpenStandsUnder m.loaded.valid.sizes old_key new_key bytes told
        → ClosesBy m.loaded.valid.sizes m.moved.loaded (progress_at
        (moved b.mends.zone.now.conversion.direction b.mends.zone.now.plan.zone
        b.mends.zone.now.plan) b.mends.zone.now) old_key new_key (content now.now) told
    closed told open_stands =
        bytes-moved m.loaded.valid.sizes m.loaded m.moved.loaded b.holds.stored b.mends.zone.now
        layout zone texts bytes old_key new_key told b.mends.stored.atom
        (moves-over sector m b.mends) (the-zone b was was_is shown texts started)
        (started.fits told open_stands) b.holds.held b.holds.same open_stands laws.loads
        (content now.now) rest-atoms gives own-atoms

    closed-by : (told : List (List ℕ))
        → OpenStandsUnder m.loaded.valid.sizes old_key new_key bytes told
        → ClosedBy m.loaded.valid.sizes m.moved.loaded old_key new_key (content now.now) told
    closed-by told open_stands =
        let by = closed told open_stands in record { stands = by.stands; valid = by.valid }

    -- under a passphrase
    closed-for : (pass : List ℕ) (told : List (List ℕ))
        → (stands : OpenStandsFor m.loaded.valid.sizes pass bytes told)
        → stands.old ≡ old_key → stands.new ≡ new_key
        → ClosedForBy m.loaded.valid.sizes m.moved.loaded pass (content now.now) told
    closed-for pass told =
        closed-pass m.loaded.valid.sizes m.loaded m.moved.loaded b.holds.stored b.mends.zone.now
        bytes old_key new_key b.mends.stored.atom (moves-over sector m b.mends) b.holds.held
        b.holds.same (content now.now) pass
        (read-now b was was_is shown texts started new now has tells now_is (content now.now) long-now-is
        rest-atoms) told (closed told)

    holds-now : HoldsHeader m.loaded.valid.sizes m.moved.loaded (content now.now) new
    holds-now =
        holds-next laws.loads laws.both laws.given m.loaded.valid.sizes m.moved.loaded
        b.mends.moves.follows.loaded.stored (moves-over sector m b.mends).next_sizes
        (content now.now) stands-next new (tells.alike.agrees now now_is)
        (λ told told_is. subst (λ (t : Told). IsCertain m.loaded.valid.sizes (content now.now) t.now)
        (one-told now told new.told now_is told_is) certain)

    pub turned : Turned new
    turned = (
      record {
        now = content now.now;
        holds = holds-now;
        stands = λ told open_stands. (closed told open_stands).stands;
      },
      record {
        now = content now.now;
        holds = holds-now;
        stands = λ pass told stood one two. (closed-for pass told stood one two).stands;
      },
    )

    -- an image of the table is what the disk holds
    image-is : (image : List (List ℕ))
        → IsSparedTurn m.loaded.valid.sizes m.loaded m.moved.loaded now.now image
        → content now.now ≡ joined image
    image-is image spared =
        joined-now now.now image (now-image synced-is.0 now.now image synced-is.1 spared.is)

    pub stands-last : Stands laws b now.now
    stands-last = (
      λ image spared told open_stands. inr
          (subst (λ (all : List ℕ). ClosedBy m.loaded.valid.sizes m.moved.loaded old_key new_key all
          told) (image-is image spared) (closed-by told open_stands)),
      λ image spared pass told stood one two. inr
          (subst (λ (all : List ℕ). ClosedForBy m.loaded.valid.sizes m.moved.loaded pass all told)
          (image-is image spared) (closed-for pass told stood one two)),
    )

  -- ---- a run with its last step
  module _ (before after : Mender C) (at new : Device) (c : Carries laws b before at)
      (tells : TellsLawfully new) where
    ends-at : (made : Goes (seals_in sealed opened before) at new before after true)
        → TellsOn (Stands laws b) old new × ((told : Told) → new.told ≡ Some told → Turned new)
    ends-at made = (
      λ now is.
          (let one = goes-one (seals_in sealed opened before) at new before after true made now is in
          let k = c.told one.mid one.told in (
            k.0,
            k.1,
            since-more (Stands laws b) k.0 one.mid now k.2.since one.one
                (stands-last before after at new c tells made now is one.mid k.0 one.told k.1 k.2),
          )),
      λ now is.
          (let one = goes-one (seals_in sealed opened before) at new before after true made now is in
          let k = c.told one.mid one.told in
          turned before after at new c tells made now is one.mid k.0 one.told k.1 k.2),
    )

    pub stepped : (result : Result Bool Failure)
        → Steps (seals_in sealed opened before) at new before after result
        → TellsOn (Stands laws b) old new
        × (result ≡ Ok true → (told : Told) → new.told ≡ Some told → Turned new)
    stepped (Ok false) made = (
      tells-on laws b after new (carry-on laws b before after at new c tells made),
      λ is. absurd cc,
    )
    stepped (Ok true) made = let both = ends-at made in (both.0, λ is. both.1)
    stepped (Err fault) made = (
      tells-failed laws b before after at new c tells made,
      λ is. absurd cc,
    )

  pub whole-run : (after : Mender C) (new : Device) (result : Result Bool Failure)
      → MendRun sealed opened m old after new result
      → TellsOn (Stands laws b) old new
      × (result ≡ Ok true → (told : Told) → new.told ≡ Some told → Turned new)
  whole-run after new result none = (tells-on laws b m old (begins laws b), λ is. absurd cc)
  whole-run after new result (one_more before last at end answer run steps tells) =
      stepped before last at end (carried laws b before at (Ok false) run refl) tells answer steps

-- ---- from the beginning as the law names it
one-size : (a b x : ℕ) → x ≡ 2 * a → x ≡ 2 * b → a ≡ b
one-size a b x one two = omega (arith, one, two)

twice-fits : (n atom size atoms : ℕ) → 0 < atom → n * atom ≡ size → 2 * size ≤ atoms * atom
    → n + n ≤ atoms
twice-fits n atom size atoms some whole room =
    let twice : (n + n) * atom ≡ n * atom + n * atom = omega arith in
    le_of_mul-le-mul_right (omega (arith, twice, whole, room)) some

module _ {C : Type 0} (sector : C → ℕ) (sealed opened : C → ℕ → List ℕ → List ℕ)
    (areas : AreasBeginBehind) (m : Mender C) (old : Device) (old_key new_key bytes : List ℕ)
    (from : MendsFrom sector sealed opened m.loaded.valid.sizes m.loaded old_key new_key bytes m old)
  where
    abbrev atom : ℕ
    atom = m.loaded.valid.sizes.atom

    abbrev size : ℕ
    size = m.loaded.copies.used.header.hdr_size

    whole-atoms : size / atom * atom ≡ size
    whole-atoms =
        page-place atom size from.mends.disk.known
        (size-pages size from.mends.stored.copies.whole.one_of_nine)

    laid : IsLaidOut atom m.loaded.valid.sizes.header_atoms size (layout_of atom size)
    laid = record {
      first = refl;
      second = refl;
      same = refl;
      long = whole-atoms;
      within = twice-fits (size / atom) atom size m.loaded.valid.sizes.header_atoms
          from.mends.stored.atom whole-atoms from.room;
    }

    the-keys : AreCiphersOf sector sealed opened from.mends.zone.now old_key new_key m.keys
    the-keys =
        subst (λ (p : Progress). AreCiphersOf sector sealed opened p old_key new_key m.keys)
        (one-progress m.loaded.valid.meta m.loaded.valid.sizes from.now from.mends.zone.now from.known
        from.mends.zone.is.known) from.keys

    same-size : from.holds.stored.copies.used.header.hdr_size ≡ size
    same-size =
        let stored = from.holds.stored in
        one-size stored.copies.used.header.hdr_size size (areas_begin stored.valid.meta.config)
        (areas m.loaded.valid.sizes (front_of m.loaded.valid.sizes bytes) stored from.holds.held)
        (ap (λ (v : Checked). areas_begin v.meta.config) from.holds.same
        ∙ (let kept = size-kept m.loaded from.mends.stored in omega (arith, kept)))

    pub begun : Begun sector sealed opened m old (layout_of atom size) old_key new_key bytes
    begun = record {
      mends = from.mends;
      stands = from.stands;
      first = from.first;
      laid = laid;
      keys = the-keys;
      disk = from.disk;
      tells = from.tells;
      holds = from.holds;
      same_size = same-size;
    }

-- both, behind a run
abbrev BothHold : Sizes → Stored → Stored → List ℕ → List ℕ → List ℕ → Device → Device
    → Result Bool Failure → Type 0
BothHold sizes header next old_key new_key bytes old new result =
    TellsOn (λ cells. StandsOn sizes header next old_key new_key bytes cells
    × StandsOnFor sizes header next old_key new_key bytes cells) old new
    × (result ≡ Ok true → (told : Told) → new.told ≡ Some told
    → StandsTurned sizes next old_key new_key bytes new
    × StandsTurnedFor sizes next old_key new_key bytes new)

abbrev BothStand : {C : Type 0} → (C → ℕ) → (C → ℕ → List ℕ → List ℕ)
    → (C → ℕ → List ℕ → List ℕ) → Type 0
BothStand {C} sector sealed opened =
    (sizes : Sizes) (header : Stored) (old_key new_key bytes : List ℕ) (mender after : Mender C)
    (old new : Device) (result : Result Bool Failure)
    → MendsFrom sector sealed opened sizes header old_key new_key bytes mender old
    → MendRun sealed opened mender old after new result
    → BothHold sizes header mender.moved.loaded old_key new_key bytes old new result

pub both-stand : {C : Type 0} (sector : C → ℕ) (sealed opened : C → ℕ → List ℕ → List ℕ)
    → Laws sector sealed opened → AreasBeginBehind → BothStand sector sealed opened
both-stand {C} sector sealed opened laws areas sizes header old_key new_key bytes mender after
    old new result from run =
    by-header header from.loaded from
  where
    by-sizes : (s : Sizes) → mender.loaded.valid.sizes ≡ s
        → MendsFrom sector sealed opened s mender.loaded old_key new_key bytes mender old
        → BothHold s mender.loaded mender.moved.loaded old_key new_key bytes old new result
    by-sizes s same =
        subst (λ (x : Sizes).
        MendsFrom sector sealed opened x mender.loaded old_key new_key bytes mender old
        → BothHold x mender.loaded mender.moved.loaded old_key new_key bytes old new result) same
        (λ here. whole-run laws
        (begun sector sealed opened areas mender old old_key new_key bytes here) after new result run)

    by-header : (h : Stored) → mender.loaded ≡ h
        → MendsFrom sector sealed opened sizes h old_key new_key bytes mender old
        → BothHold sizes h mender.moved.loaded old_key new_key bytes old new result
    by-header h same =
        subst (λ (x : Stored).
        MendsFrom sector sealed opened sizes x old_key new_key bytes mender old
        → BothHold sizes x mender.moved.loaded old_key new_key bytes old new result) same
        (λ here. by-sizes sizes here.sizes_are here)

pub mendings-stand : {C : Type 0} (sector : C → ℕ) (sealed opened : C → ℕ → List ℕ → List ℕ)
    → BothStand sector sealed opened → MendingsStand sector sealed opened
mendings-stand sector sealed opened both sizes header old_key new_key bytes mender after old new
    result from run =
    let all = both sizes header old_key new_key bytes mender after old new result from run in (
      λ now is.
          (let t = all.0 now is in (t.0, t.1, since-weaker _ _ (λ cells stand. stand.0) t.0 now t.2)),
      λ done told is. (all.1 done told is).0,
    )

pub mendings-stand-for : {C : Type 0} (sector : C → ℕ) (sealed opened : C → ℕ → List ℕ → List ℕ)
    → BothStand sector sealed opened → MendingsStandFor sector sealed opened
mendings-stand-for sector sealed opened both sizes header old_key new_key bytes mender after old new
    result from run =
    let all = both sizes header old_key new_key bytes mender after old new result from run in (
      λ now is.
          (let t = all.0 now is in (t.0, t.1, since-weaker _ _ (λ cells stand. stand.1) t.0 now t.2)),
      λ done told is. (all.1 done told is).1,
    )
