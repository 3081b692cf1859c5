-- How the blocks of the zone at hand lie under the two headers of its commit, and what they stand
-- for there.
use Rattle.std.proofs.Common.{List, ap, arith, inl, inr, refl, subst, sym, ℕ, ◌+◌, ◌-◌, ◌<◌, ◌∙◌}
use Rattle.std.proofs.Common.{◌≡◌, ◌≢◌, ◌≤◌, ◌⊎◌}
use Rattle.base_terms.specs.declared.block_range.BlockRange.{BlockRange}
use Rattle.crash_laws.specs.HotZones.Zones.{Resilience, checksum, datashift, journal}
use Rattle.sector_disk.specs.DiskViews.Parts.{AreBlocks}
use Rattle.segment_map.specs.Maps.{place_on}
use Rattle.segment_map.specs.declared.Side.{Side}
use Rattle.segment_map.specs.declared.Side.TheVariants.{New, Old, Zone}
use Rattle.segment_map.specs.declared.map.Map.{Map}
use Rattle.volume_machine.specs.Pieces.{place_in, side_in}
use Rattle.volume_machine.specs.Seals.{Seals}
use Rattle.volume_machine.specs.States.{State}
use Rattle.volume_machine.specs.Working.{IsWorking}
use Rattle.volume_machine.specs.Works.{Work}
use Rattle.crash_laws.specs.HeaderAreas.Areas.{Image}
use Rattle.crash_laws.specs.HeaderAreas.Commits.{Stage, begun, first_written, first_kept, second_written, MayBe}
use Rattle.crash_laws.specs.HotZones.Calls.{IsFirst}
use Rattle.crash_laws.specs.HotZones.Standing.{Hash, IsKept, Recovers, Stands}
use Rattle.crash_laws.specs.HotZones.Standing.{new_start}
use Rattle.crash_laws.specs.HotZones.Standing.{side_after, side_before}
use Rattle.crash_laws.specs.HotZones.Zones.{Hotzone, Phase, Texts, saving, opening, writing, mending, moving}
use Rattle.crash_laws.specs.HotZones.Zones.{shifting, turning, to_of, stage_of}
use Rattle.volume_machine.specs.Courses.{IsBeyond, IsOnCourse, Turns}
use Rattle.volume_machine.specs.Readings.{Reading}
use Rattle.volume_machine.specs.Working.{HasRoom}
use Rattle.volume_laws.specs.Contents.{IsSealed}
use Rattle.volume_laws.specs.Standing.{AtomStands, BlockStands, Content}
use Rattle.volume_laws.specs.Texts.{atoms_of}
use Rattle.sector_disk.specs.Geometry.{IsAtom}
use Rattle.sha2.specs.Sha256.{sha256}
use Rattle.volume_machine.specs.Saved.{saved_hash, saved_of}
use Rattle.volume_laws.proofs.DigestLemmas.{digests_told, even_atom}
use Rattle.volume_laws.proofs.TurnsServed.{leads_of}

-- a map of a header that an image may have: the zone's blocks are on this side, one behind the
-- other from a place on, and every other one is where the volume has it
pub record PlacesZone {K : Type 0} (state : State K) (range : BlockRange) (side : Side) (start : ℕ)
    (map : Map) : Type 0 where
  pub atom : map.atom ≡ state.map.atom
  pub blocks : map.blocks ≡ state.map.blocks
  pub same_sides : (b : ℕ) → b < state.map.blocks → IsBeyond range b
      → side_in map b ≡ side_in state.map b
  pub same_places : (b : ℕ) → b < state.map.blocks → IsBeyond range b
      → place_in map b ≡ place_in state.map b
  pub sides : (b : ℕ) → range.start ≤ b → b < range.end → side_in map b ≡ side
  pub places : (b : ℕ) → range.start ≤ b → b < range.end → place_in map b ≡ start + (b - range.start)

-- the volume's own map, and one that turns the zone
pub own_map : {K : Type 0} {state : State K} (work : Work) → IsWorking state work
    → PlacesZone state work.range (side_before work.phase) work.zone.own.start state.map
own_map work working = record {
  atom = refl;
  blocks = refl;
  same_sides = λ b below beyond. refl;
  same_places = λ b below beyond. refl;
  sides = working.sides;
  places = working.places;
}

pub turned_places : {K : Type 0} {state : State K} {atoms start : ℕ} {range : BlockRange} {side : Side}
    {map : Map} → Turns atoms range side start state.map map → PlacesZone state range side start map
turned_places turned = record {
  atom = turned.atom;
  blocks = turned.blocks;
  same_sides = turned.same_sides;
  same_places = turned.same_places;
  sides = turned.sides;
  places = turned.places;
}

-- where a side has the zone's atoms
abbrev pub start_on : Resilience → Hotzone (List ℕ) → Side → ℕ
start_on resilience zone New = new_start resilience zone
start_on resilience zone _ = zone.own.start

-- what is asked of what was saved: room, and by checksum digests that tell the atoms apart
pub kept_by : (atom : ℕ) (resilience : Resilience) (hash : Hash) (zone : Hotzone (List ℕ))
    (texts : Texts) → IsAtom atom → (resilience ≡ checksum → (hash ≡ saved_hash)
    × ((i : ℕ) → i < zone.own.count → sha256 (texts.old i) ≢ sha256 (texts.new i)))
    → HasRoom resilience atom zone
    → ((i : ℕ) → texts.saved i ≡ saved_of resilience atom zone.own.count texts.old i)
    → IsKept resilience hash zone texts
kept_by atom journal hash zone texts known apart room saved =
    record { are = λ i below. saved i; enough = omega (arith, room) }
kept_by atom checksum hash zone texts known apart room saved =
    let (is_hash, differ) = apart refl in
    subst (λ h. IsKept checksum h zone texts) (sym is_hash) (record {
      are = λ i below. digests_told atom zone.own.count texts.old (even_atom atom known) texts.saved
          saved zone.store.count i room below;
      differ = differ;
    })
kept_by atom datashift hash zone texts known apart room saved = room

-- how a block is told in an open zone depends on its own atoms alone
pub recovers_by : (hash : Hash) (zone : Hotzone (List ℕ)) (image : Image) (resilience : Resilience)
    (texts other : Texts) (i : ℕ) → other.old i ≡ texts.old i → other.new i ≡ texts.new i
    → Recovers resilience hash zone texts image i → Recovers resilience hash zone other image i
recovers_by hash zone image journal texts other i old new is = is ∙ sym old
recovers_by hash zone image checksum texts other i old new is = record {
  is_old = is.is_old ∙ ap hash.digest (sym old);
  differs = λ same. is.differs (ap hash.digest (sym new) ∙ same);
  either = rw (old, new) is.either;
}
recovers_by hash zone image datashift texts other i old new is = is

-- which of the two headers it is
pub either_header : {M : Type 0} (stage : Stage) (from to m : M) → MayBe stage from to m
    → (m ≡ from) ⊎ ((m ≡ to) × (stage ≢ begun))
either_header begun from to m is = inl is
either_header first_written from to m (inl same) = inl same
either_header first_written from to m (inr next) = inr (next, λ e. cc)
either_header first_kept from to m is = inr (is, λ e. cc)
either_header second_written from to m is = inr (is, λ e. cc)

-- the map of the next header, once something of it was written
pub next_places : {K : Type 0} {state : State K} {reading : Reading} (work : Work)
    → IsOnCourse reading state work → stage_of work.phase ≢ begun
    → PlacesZone state work.range (side_after work.phase)
    (start_on work.zone.resilience work.zone (side_after work.phase))
    (reading.map_of (to_of work.zone work.phase).means)
next_places {state = state} {reading = reading} work course goes = by work.phase refl goes
  where
    by : (phase : Phase) → work.phase ≡ phase → stage_of phase ≢ begun
        → PlacesZone state work.range (side_after phase)
        (start_on work.zone.resilience work.zone (side_after phase))
        (reading.map_of (to_of work.zone phase).means)
    by (saving n) is goes = absurd (goes refl)
    by (opening stage) is goes =
        let leads = leads_of work course (λ first. subst IsFirst is first) in
        turned_places (leads.opens (rw is tt)).1
    by (writing n) is goes = absurd (goes refl)
    by (mending n) is goes = absurd (goes refl)
    by (moving stage) is goes =
        let leads = leads_of work course (λ first. subst IsFirst is first) in
        turned_places leads.moves.1
    by (shifting n) is goes = absurd (goes refl)
    by (turning stage) is goes =
        let leads = leads_of work course (λ first. subst IsFirst is first) in
        turned_places leads.moves.1

-- the side from before has the zone's atoms in their old places
pub before_start : (resilience : Resilience) (zone : Hotzone (List ℕ)) (phase : Phase)
    → start_on resilience zone (side_before phase) ≡ zone.own.start
before_start resilience zone (saving n) = refl
before_start resilience zone (opening stage) = refl
before_start resilience zone (writing n) = refl
before_start resilience zone (mending n) = refl
before_start resilience zone (moving stage) = refl
before_start resilience zone (shifting n) = refl
before_start resilience zone (turning stage) = refl

-- ---- blocks under a header's map
module _ {K : Type 0} {state : State K} (reading : Reading) (seals : Seals) (work : Work)
    (image : Image) (map : Map) {side : Side} {start : ℕ}
    (placed : PlacesZone state work.range side start map) (content : Content) (b : ℕ)
    (below : b < state.map.blocks) where
  -- one that the zone doesn't know
  pub live_stands : IsBeyond work.range b → side_in state.map b ≢ Zone
      → IsSealed state.map seals b (content b) (image (place_in state.map b))
      → BlockStands reading map seals work image content b
  live_stands beyond unzoned sealed =
      let same = placed.same_sides b below beyond in record {
        are = rw placed.atom sealed.0;
        stands = subst (AtomStands reading map seals work image content b) (sym same)
            (by (side_in state.map b) refl);
        zone = λ is. absurd (unzoned (sym same ∙ is));
      }
    where
      place : (s : Side) → side_in state.map b ≡ s → place_on map b s ≡ place_in state.map b
      place s is = ap (λ x. place_on map b x) (sym is ∙ sym (placed.same_sides b below beyond))
          ∙ placed.same_places b below beyond

      by : (s : Side) → side_in state.map b ≡ s → AtomStands reading map seals work image content b s
      by Old is = ap image (place Old is) ∙ sealed.1
          ∙ ap (λ s. seals.sealed s b (content b)) is
      by New is = ap image (place New is) ∙ sealed.1
          ∙ ap (λ s. seals.sealed s b (content b)) is
      by Zone is = absurd (unzoned is)

  -- one of the zone
  pub zone_block_stands : (texts : Texts) → start ≡ start_on work.zone.resilience work.zone side
      → work.range.start ≤ b → b < work.range.end
      → AreBlocks state.map.atom 1 (content b)
      → texts.old (b - work.range.start) ≡ seals.sealed Old b (content b)
      → texts.new (b - work.range.start) ≡ seals.sealed New b (content b)
      → Stands reading.hash work.zone texts image (b - work.range.start) side
      → BlockStands reading map seals work image content b
  zone_block_stands texts starts from to are old new stands = record {
    are = rw placed.atom are;
    stands = subst (AtomStands reading map seals work image content b) (sym (placed.sides b from to))
        (by side refl stands);
    zone = λ is. record {
      from = from;
      to = to;
      place = place Zone (sym (placed.sides b from to) ∙ is)
          ∙ ap (λ s. start_on work.zone.resilience work.zone s + (b - work.range.start))
          (sym (placed.sides b from to) ∙ is);
    };
  }
    where
      place : (s : Side) → side ≡ s
          → place_on map b s
          ≡ start_on work.zone.resilience work.zone side + (b - work.range.start)
      place s is = ap (λ x. place_on map b x) (sym is ∙ sym (placed.sides b from to))
          ∙ placed.places b from to ∙ ap (λ n. n + (b - work.range.start)) starts

      number : work.range.start + (b - work.range.start) ≡ b
      number = omega (arith, from)

      mine : Texts
      mine = atoms_of map.atom seals content work

      by : (s : Side) → side ≡ s
          → Stands reading.hash work.zone texts image (b - work.range.start) s
          → AtomStands reading map seals work image content b s
      by Old is stands_so = ap image (place Old is
          ∙ ap (λ s. start_on work.zone.resilience work.zone s + (b - work.range.start)) is)
          ∙ stands_so ∙ old
      by New is stands_so = ap image (place New is
          ∙ ap (λ s. start_on work.zone.resilience work.zone s + (b - work.range.start)) is)
          ∙ stands_so ∙ new
      by Zone is stands_so = recovers_by reading.hash work.zone image work.zone.resilience texts
          mine (b - work.range.start) (ap (λ n. seals.sealed Old n (content n)) number ∙ sym old)
          (ap (λ n. seals.sealed New n (content n)) number ∙ sym new) stands_so
