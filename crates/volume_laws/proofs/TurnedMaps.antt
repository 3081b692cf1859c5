-- A sync with which the map turns the zone's blocks: what holds at a moment goes on to hold.
use Rattle.std.proofs.Common.{Contains, List, Some, ap, arith, false, inl, inr, refl, subst, sym, ℕ}
use Rattle.std.proofs.Common.{◌+◌, ◌-◌, ◌<◌, ◌∙◌, ◌≡◌, ◌⊎◌}
use Rattle.base_terms.specs.declared.block_range.BlockRange.{BlockRange}
use Rattle.plain_disk.specs.Plain.{Block}
use Rattle.sector_disk.specs.DiskViews.Parts.{AreBlocks, block_at, cell_in}
use Rattle.sector_disk.specs.DiskViews.Views.{IsSynced, View, view_of_bytes}
use Rattle.segment_map.specs.declared.Side.{Side}
use Rattle.segment_map.specs.declared.Side.TheVariants.{Zone}
use Rattle.segment_map.specs.declared.map.Map.{Map}
use Rattle.volume_machine.specs.Edges.{InPlain}
use Rattle.volume_machine.specs.Pieces.{place_in, side_in}
use Rattle.volume_machine.specs.Seals.{AreLawful, Seals}
use Rattle.volume_machine.specs.Sound.{IsSound}
use Rattle.volume_machine.specs.States.{IsGoverned, IsLive, State, open_at}
use Rattle.volume_machine.specs.Steps.{Holds}
use Rattle.volume_machine.specs.Working.{Works}
use Rattle.volume_machine.specs.Works.{Work}
use Rattle.sector_disk.proofs.DiskViews.TableEntries.{place_of_some}
use Rattle.sector_disk.specs.Devices.{SyncCall, succeeded}
use Rattle.volume_machine.specs.Courses.{IsBeyond, Turns}
use Rattle.volume_machine.specs.WorkSteps.{Proceeds}
use Rattle.volume_machine.specs.declared.open.Open.{Open}
use Rattle.volume_laws.specs.Contents.{IsNow, IsSealed, IsTriedBy, block_in}
use Rattle.volume_laws.proofs.Here.{Here, moves_by_sync, positive}
use Rattle.volume_laws.proofs.Invariant.{KnowsEdges}
use Rattle.volume_laws.proofs.Invariant.{IsRight, Logic, Shown, ShowsWork}
use Rattle.volume_laws.proofs.PlainBlocks.{newest_contained}
use Rattle.volume_laws.proofs.Reading.{forced_writes, writes_lock}
use Rattle.volume_laws.proofs.SealLemmas.{length-sealed}
use Rattle.volume_laws.proofs.Settling.{own_value, tried_whole}
use Rattle.volume_laws.proofs.WorkAround.{now_allowed}
use Rattle.volume_laws.proofs.Workings.{ended_live, works_apart}

module _ {K : Type 0} {old new : State K} {map : Map} {next : Work} {range : BlockRange}
    {side : Side} {start : ℕ} (on : Proceeds old new map next false)
    (turns : Turns old.disk.atoms range side start old.map map) (was : old.broken ≡ false) where
  atom_is : new.map.atom ≡ old.map.atom
  atom_is = ap (λ m. m.atom) on.map_is ∙ turns.atom

  blocks_is : new.map.blocks ≡ old.map.blocks
  blocks_is = ap (λ m. m.blocks) on.map_is ∙ turns.blocks

  pub inside_before : {b : ℕ} → b < new.map.blocks → b < old.map.blocks
  inside_before {b} below = subst (λ n. b < n) blocks_is below

  was_open : (lane : ℕ) {o : Open} → open_at new.lanes lane ≡ Some o
      → open_at old.lanes lane ≡ Some o
  was_open lane is = ap (λ l. open_at l lane) (sym on.lanes) ∙ is

  pub sound_turned : new.disk.atoms ≡ old.disk.atoms
      → ((b : ℕ) → side_in map b ≡ Zone → IsGoverned new b) → IsSound old → IsSound new
  sound_turned atoms zoned sound = record {
    fits = rw (on.map_is, atoms) turns.fits;
    room = rw (on.room, on.lanes) sound.room;
    some = rw on.lanes sound.some;
    count = rw (on.entries, on.lanes) sound.count;
    entries = λ lane. rw (on.entries, atom_is, on.lanes) (sound.entries lane);
    once = λ lane. rw on.entries (sound.once lane);
    under_way = λ lane o is. (let way = sound.under_way lane o (was_open lane is) in record {
      proper = rw (atom_is, blocks_is) way.proper;
      range_is = rw atom_is way.range_is;
      begun = way.begun;
      within = way.within;
      inside = rw blocks_is way.inside;
    });
    zoned = λ b is. zoned b (sym (ap (λ m. side_in m b) on.map_is) ∙ is);
  }

  pub logic_turned : {plain : ℕ → InPlain} {left : List Block} → IsSound new
      → ((b : ℕ) → IsGoverned new b → IsGoverned old b)
      → Logic old plain left → Logic new plain left
  logic_turned {plain} {left} sound governed logic = record {
    sound = sound;
    are = record {
      count = rw blocks_is logic.are.count;
      newest = λ b below. rw atom_is (logic.are.newest b (inside_before below));
    };
    sure = λ whole b below. logic.sure was b (inside_before below);
    lanes = λ lane o is. (let knows = logic.lanes lane o (was_open lane is) in record {
      count = knows.count;
      are = subst (λ n. AreBlocks n knows.count (plain lane).bytes) (sym atom_is) knows.are;
      least = knows.least;
      most = knows.most;
      exact = knows.exact;
      holds = λ some. rw on.entries (knows.holds some);
      reads = λ reading k below. subst (λ n. IsRight left (o.range.start + k)
          (block_at n (plain lane).bytes k)) (sym atom_is) (knows.reads reading k below);
      kept = knows.kept;
      breaks = λ writes failed some. absurd (let broke = knows.breaks writes failed some in cc);
      beside = λ b from to of. knows.beside b from to (governed b of);
      edges = subst (λ n. KnowsEdges n left o.ask o.fetched knows.count (plain lane).edges)
          (sym atom_is) knows.edges;
      edges_hold = λ some. rw on.entries (knows.edges_hold some);
    });
  }

  -- one of the zone, which nobody has tried, and whose atom is the new one
  pub record IsTurned (seals : Seals) (plain : ℕ → InPlain) (left : List Block) (after : View)
      (b : ℕ) : Type 0 where
    pub untried : (lane : ℕ) (value : List ℕ) → IsTriedBy old plain lane b value → ⊥
    pub current : IsSealed new.map seals b (block_in left b).newest
        (after.current (place_in new.map b))
    pub candidates : (atom : List ℕ) → Contains (after.candidates (place_in new.map b)) atom
        → IsSealed new.map seals b (block_in left b).newest atom

  tried_on : {plain : ℕ → InPlain} (lane b : ℕ) (value : List ℕ) → IsTriedBy old plain lane b value
      → IsTriedBy new plain lane b value
  tried_on lane b value tried = record {
    o = tried.o;
    is = ap (λ l. open_at l lane) on.lanes ∙ tried.is;
    writes = tried.writes;
    begun = tried.begun;
    tried = rw atom_is tried.tried;
    value_is = rw atom_is tried.value_is;
  }

  tried_back : {plain : ℕ → InPlain} (lane b : ℕ) (value : List ℕ) → IsTriedBy new plain lane b value
      → IsTriedBy old plain lane b value
  tried_back lane b value tried = record {
    o = tried.o;
    is = was_open lane tried.is;
    writes = tried.writes;
    begun = tried.begun;
    tried = rw (← atom_is) tried.tried;
    value_is = rw (← atom_is) tried.value_is;
  }

  now_is : {plain : ℕ → InPlain} (left : List Block) (b : ℕ) {value : List ℕ}
      → IsNow old plain left b value → IsNow new plain left b value
  now_is left b {value} (inl (lane, tried)) = inl (lane, tried_on lane b value tried)
  now_is left b (inr (none, is)) = inr (
    λ lane other tried. none lane other (tried_back lane b other
        tried),
    is,
  )

  place_same : (b : ℕ) → IsLive old b → IsBeyond range b
      → place_in new.map b ≡ place_in old.map b
  place_same b live beyond = ap (λ m. place_in m b) on.map_is
      ∙ turns.same_places b live.inside beyond

  sealed_same : (seals : Seals) (b : ℕ) (value atom : List ℕ) → IsLive old b → IsBeyond range b
      → IsSealed old.map seals b value atom → IsSealed new.map seals b value atom
  sealed_same seals b value atom live beyond sealed = (
    rw atom_is sealed.0,
    sealed.1 ∙ ap (λ s. seals.sealed s b value)
        (sym (ap (λ m. side_in m b) on.map_is ∙ turns.same_sides b live.inside beyond)),
  )

  pub shown_turned : {seals : Seals} {plain : ℕ → InPlain} {left : List Block} {view after : View}
      → 0 < old.map.atom → Works old → Logic old plain left
      → ((b : ℕ) → IsLive old b → IsBeyond range b)
      → ((b : ℕ) → IsLive new b → IsLive old b ⊎ IsTurned seals plain left after b)
      → ShowsWork new seals left after → IsSynced view after → Shown old seals plain left view
      → Shown new seals plain left after
  shown_turned {seals} {plain} {left} {view} {after} some works logic beyond cases zone synced
      shown = record {
        current = λ whole b live. elim (cases b live) [
          | inl alive ↦ let (value, is_now, sealed) = shown.current was b alive in (
            value,
            now_is left b is_now,
            sealed_same seals b value (after.current (place_in new.map b)) alive (beyond b alive)
                (rw (place_same b alive (beyond b alive), synced.current (place_in old.map b))
                sealed),
          )
          | inr turned ↦ (
            (block_in left b).newest,
            now_is left b (inr (turned.untried, refl)),
            turned.current,
          )
        ];
        candidates = λ b live atom contains. elim (cases b live) [
          | inl alive ↦ let (value, is_now, sealed) = shown.current was b alive in
              let same = synced.candidates (place_in old.map b) atom
              (subst (λ p. Contains (after.candidates p) atom)
              (place_same b alive (beyond b alive)) contains) in (
                value,
                now_allowed new plain left b value (now_is left b is_now),
                sealed_same seals b value atom alive (beyond b alive) (rw same sealed),
              )
          | inr turned ↦ (
            (block_in left b).newest,
            inl (newest_contained (block_in left b)),
            turned.candidates atom contains,
          )
        ];
        settled = λ lane o is forced is_settled b from to atom contains.
            (let is_old : open_at old.lanes lane ≡ Some o = was_open lane is in
            let knows = logic.lanes lane o is_old in
            let kept = knows.kept is_settled in
            let writes = forced_writes o.ask forced in
            let held : Holds old lane = knows.holds (let least = knows.least in
            omega (arith, kept, from, to, least)) in
            let alive = ended_live lane logic.sound (works_apart works) was is_old (writes_lock o.ask writes) held
            (omega (arith, kept, from, to)) b from to in
            let (value, is_now, sealed) = shown.current was b alive in
            let own = own_value lane b value logic some is_old writes held from to
            (tried_whole b knows kept from to) is_now in
            let same = synced.candidates (place_in old.map b) atom
            (subst (λ p. Contains (after.candidates p) atom) (place_same b alive (beyond b alive))
            contains) in
            subst (λ n. IsSealed new.map seals b (block_at n (plain lane).bytes (b - o.range.start)) atom)
            (sym atom_is)
            (sealed_same seals b (block_at old.map.atom (plain lane).bytes (b - o.range.start)) atom alive
            (beyond b alive) (rw (← own, same) sealed)));
        zone = zone;
      }

  -- the moment after
  pub here_turned : {P Q : Type 0} {seals : Seals} {plain : ℕ → InPlain} {left : List Block}
      → (here : Here P Q old seals plain left) → SyncCall old.disk new.disk succeeded
      → Logic new plain left → Works new
      → ((b : ℕ) → b < new.map.blocks → IsLive new b ⊎ (place_in new.map b ≡ place_in old.map b))
      → ((view after : View) → IsSynced view after → Shown old seals plain left view
      → Shown new seals plain left after) → Here P Q new seals plain left
  here_turned {P} {Q} {seals} {plain} {left} here call logic works where_is shows =
      let moved = moves_by_sync {P = P} call here.values in
      let lawful : AreLawful new.map.atom seals = rw atom_is here.lawful in record {
        logic = logic;
        lawful = lawful;
        apart = rw on.map_is turns.apart;
        works = works;
        bytes = moved.now;
        values = moved.values;
        size = λ sized whole. moved.size refl ∙ here.size sized was ∙ rw (moved.atoms, atom_is) refl;
        cells = λ sized premise told is.
            (let (before, before_is, size, step) = moved.by_tables premise told is in
            size ∙ here.cells sized premise before before_is ∙ sym moved.atoms);
        shown = subst (λ n. Shown new seals plain left (view_of_bytes n moved.now)) (sym atom_is)
            (shows _ _ moved.by_bytes here.shown);
        tables = λ premise told is.
            (let (before, before_is, size, step) = moved.by_tables premise told is in
            shows _ _ step (here.tables premise before before_is));
        places = λ premise told is b below.
            (let (before, before_is, size, step) = moved.by_tables premise told is in
            elim (where_is b below) [
              | inl live ↦
                  let shown = shows _ _ step (here.tables premise before before_is) in
                  let (value, is_now, sealed) = shown.current on.broken_is b live in
                  let long = length-sealed new.map seals b value
                  (cell_in told.now (place_in new.map b)).current lawful sealed in
                  let some = positive here in
                  place_of_some told.now (place_in new.map b)
                  (omega (arith, long, some, atom_is))
              | inr same ↦ rw (same, size)
                  (here.places premise before before_is b (inside_before below))
            ]);
      }
