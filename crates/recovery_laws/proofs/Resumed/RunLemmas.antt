-- A conversion that its worker alone leads: at its end each block is new and holds its value, and
-- wherever it stops each image stands for the content for which the volume stood at the start.
use Rattle.std.proofs.Common.{◌≡◌, ◌∙◌, ◌<◌, ℕ, false, List, [], length, Some, ap, subst}
use Rattle.std.proofs.Common.{sym}
use Rattle.crash_laws.specs.HeaderAreas.Areas.{Image, content_of}
use Rattle.crash_laws.specs.HeaderAreas.Headers.{Gives, Handed, Header, IsReader, Layout}
use Rattle.sector_disk.specs.DiskViews.Parts.{block_at, value_in}
use Rattle.plain_disk.specs.Plain.{Block, Legal, settled_blocks}
use Rattle.reenc_worker.specs.declared.ends.WorkerEnd.TheVariants.{Finished}
use Rattle.recovery_laws.proofs.Resumed.HeldBlocks.{allowed-settled, length-settled, now-settled}
use Rattle.recovery_laws.proofs.Resumed.WorkerDeeds.{AreWorks, deeds-front, exchanges-none, plain-stays}
use Rattle.recovery_laws.proofs.Resumed.WorkerDeeds.{works-front, works-stay}
use Rattle.recovery_laws.specs.Resumed.Runs.{ConversionsKeepContent, HoldsNew, StandsAlone, StopsKeepContent}
use Rattle.sector_disk.specs.Steps.{Told}
use Rattle.segment_map.specs.Maps.{place_on}
use Rattle.segment_map.specs.declared.Side.{Side}
use Rattle.segment_map.specs.declared.Side.TheVariants.{New}
use Rattle.segment_map.specs.declared.map.Map.{Map}
use Rattle.volume_laws.specs.Contents.{IsSealed}
use Rattle.volume_laws.specs.Converting.{IsServedBeside, ServesBeside, StartsCertain, StartsUnder}
use Rattle.volume_laws.specs.Handing.{handed_over}
use Rattle.volume_laws.specs.Imaging.{AreDated, NowBeside, ReadsDigests}
use Rattle.volume_laws.specs.Imaging.{StopsBeside}
use Rattle.volume_laws.specs.Standing.{AtomStands, BlockStands, Content, Stands, StandsByHeader}
use Rattle.volume_laws.specs.Standing.{StandsUnder}
use Rattle.volume_machine.specs.Deeds.{AreDeeds, Deed, plain_over, state_after}
use Rattle.volume_machine.specs.Edges.{InPlain}
use Rattle.volume_machine.specs.Pieces.{place_in, side_in}
use Rattle.volume_machine.specs.Readings.{Reading}
use Rattle.volume_machine.specs.Runs.{no_plain}
use Rattle.volume_machine.specs.Saved.{saved_hash}
use Rattle.volume_machine.specs.Seals.{Seals}
use Rattle.volume_machine.specs.States.{IsIdle, State}
use Rattle.volume_machine.specs.WorkSteps.{AreAllOn}
use Rattle.volume_machine.specs.Works.{Work, complete, converting, resting}
use Rattle.volume_machine.specs.declared.keys.Keys.{Keys}
use Rattle.volume_laws.specs.WorkerRuns.Conversions.{HasConverted}

-- no exchange leads from blocks to the same ones
same-left : (atom : ℕ) (old new : List Block) → Legal atom old [] new → new ≡ old
unfolding Legal
same-left atom old new legal = legal

-- ---- at the end
-- what is known of the state at the end
record AtEnd {K : Type 0} (reading : Reading) (layout : Layout) (header : Header (List ℕ))
    (blocks : ℕ) (state : State K) : Type 0 where
  at_end : state.work ≡ Some (resting layout header complete)
  unbroken : state.broken ≡ false
  idle : IsIdle state
  map : state.map ≡ reading.map_of header.means
  converted : AreAllOn state.map New
  blocks_are : state.map.blocks ≡ blocks

-- an atom of the new side is sealed there
new-sealed : (reading : Reading) (map : Map) (seals : Seals) (work : Work) (image : Image)
    (content : Content) (b : ℕ) (side : Side) → side ≡ New
    → AtomStands reading map seals work image content b side
    → image (place_on map b side) ≡ seals.sealed side b (content b)
new-sealed reading map seals work image content b side same stands =
    subst (λ (s : Side). AtomStands reading map seals work image content b s
    → image (place_on map b s) ≡ seals.sealed s b (content b)) (sym same) (λ is. is) stands

module _ {K : Type 0} (reading : Reading) (seals : Seals) (layout : Layout)
    (header : Header (List ℕ)) (content : List (List ℕ)) (left : List Block)
    (same : left ≡ settled_blocks content) (plain : ℕ → InPlain) (state : State K) (now : List ℕ)
    (e : AtEnd reading layout header (length content) state) where
  abbrev image : Image
  image = λ place. block_at state.map.atom now place

  -- by the header that the bytes have
  by-header : (held : Content) → Stands reading state seals image held
      → StandsByHeader reading state.disk.atoms seals (resting layout header complete) state.map
      image held
  by-header held stands =
      subst (λ w. StandsUnder reading state.disk.atoms seals state.map w image held) e.at_end stands

  module _ (held : Content)
      (by : StandsByHeader reading state.disk.atoms seals (resting layout header complete) state.map
      image held) (is : by.header ≡ header.means) where
    block-is : (b : ℕ) → b < state.map.blocks → held b ≡ value_in content b
        → IsSealed state.map seals b (value_in content b) (image (place_in state.map b))
    block-is b below value =
        let mine : state.map ≡ reading.map_of by.header =
        e.map ∙ ap (λ m. reading.map_of m) (sym is) in
        let stands = subst (λ (m : Map). BlockStands reading m seals
        (resting layout header complete) image held b) (sym mine) (by.stands b below) in
        let sealed = new-sealed reading state.map seals (resting layout header complete) image held b
        (side_in state.map b) (e.converted b below) stands.stands in
        subst (λ v. IsSealed state.map seals b v (image (place_in state.map b))) value
        (stands.are, sealed)

module _ {C : Type 0}
    (serves : (reading : Reading) (start : State (Keys C)) (seals : Seals)
    → ServesBeside reading start seals)
    (now_law : (reading : Reading) (start : State (Keys C)) (seals : Seals)
    → NowBeside reading start seals)
    (stops_law : (reading : Reading) (start : State (Keys C)) (seals : Seals)
    → StopsBeside reading start seals) where
  module _ (reading : Reading) (seals : Seals) (layout : Layout) (header : Header (List ℕ))
      (old : State (Keys C)) (content : List (List ℕ)) (bytes : List ℕ)
      (reader : IsReader reading.reader) (hash : reading.hash ≡ saved_hash)
      (starts : StartsUnder reading layout header converting old seals (settled_blocks content) bytes)
    where
      digests-read : (state : State (Keys C)) → ReadsDigests reading state
      digests-read state = λ work is by. hash

      -- ---- at the end
      module _ (deeds : List (Deed (Keys C))) (are : AreDeeds reading seals old deeds)
          (works : AreWorks deeds) (last : Header (List ℕ))
          (e : AtEnd reading layout last (length content) (state_after old deeds)) where
        abbrev state : State (Keys C)
        state = state_after old deeds

        abbrev Served : Type 0
        Served = IsServedBeside (StartsCertain layout header old seals (settled_blocks content)) old
            seals (settled_blocks content) deeds []

        served : Served
        served =
            serves reading old seals layout header converting (settled_blocks content) bytes deeds []
            starts are (exchanges-none seals old no_plain deeds works)

        at-end : HoldsNew reading seals last state content
        at-end =
            let (left, legal, stands, has) = now_law reading old seals layout header converting
            (settled_blocks content) bytes deeds [] reader starts are
            (exchanges-none seals old no_plain deeds works) e.unbroken served.now served.values
            (resting layout last complete) e.at_end (digests-read state) in
            let same : left ≡ settled_blocks content =
            same-left old.map.atom (settled_blocks content) left legal in
            let plain = plain_over seals old no_plain deeds in
            let (held, stood, is_now) = stands in
            let by = by-header reading seals layout last content left same plain state served.now e held
            stood in
            let is : by.header ≡ last.means =
            has (resting layout last complete) e.at_end by.header by.gives in
            record {
              now = served.now;
              values = served.values;
              long = served.size e.unbroken;
              gives = subst (λ m. Gives reading.reader
                  (content_of state.disk.atoms
                  (λ place. block_at state.map.atom served.now place)) m) is by.gives;
              map = e.map;
              new = e.converted;
              count = sym e.blocks_are;
              blocks = λ b below. block-is reading seals layout last content left same plain state
                  served.now e held by is b below
                  (now-settled state content left same b (held b) plain e.idle (is_now b below));
            }

      finished : (new : State (Keys C))
          → (done : HasConverted reading seals layout header old new Finished)
          → HoldsNew reading seals done.leaves.header new content
      finished new done =
          let worked = done.worked in
          let leaves = done.leaves in
          let ended : AtEnd reading layout leaves.header (length content) new = record {
            at_end = leaves.at_end;
            unbroken = leaves.unbroken;
            idle = leaves.idle;
            map = leaves.map;
            converted = leaves.converted;
            blocks_are = leaves.blocks ∙ sym starts.are.count ∙ length-settled content;
          } in
          subst (λ (s : State (Keys C)). HoldsNew reading seals leaves.header s content) worked.last
          (at-end worked.deeds worked.are (worked.works, worked.acts) leaves.header
          (subst (λ (s : State (Keys C)). AtEnd reading layout leaves.header (length content) s)
          (sym worked.last) ended))

      -- ---- wherever it stops
      module _ (handed : Handed)
          (certain : StartsCertain layout header old seals (settled_blocks content))
          (dated : AreDated reading old handed) (deeds : List (Deed (Keys C)))
          (are : AreDeeds reading seals old deeds) (works : AreWorks deeds) where
        at-stop : (told : Told) → (state_after old deeds).disk.told ≡ Some told
            → StandsAlone reading (state_after old deeds) seals content (handed_over old handed deeds)
            told.now
        at-stop told told_is image taken =
            let here = state_after old deeds in
            let has = works-stay reading seals old deeds (resting layout header converting, starts.at_rest)
            are works in
            let (left, legal, each) = stops_law reading old seals layout header converting
            (settled_blocks content) bytes deeds [] handed reader starts certain dated are
            (exchanges-none seals old no_plain deeds works) told told_is has.0 has.1 (digests-read here)
            in
            let same : left ≡ settled_blocks content =
            same-left old.map.atom (settled_blocks content) left legal in
            let (held, stands, allowed, header_is) = each image taken in (
              held,
              stands,
              λ b below.
                  allowed-settled here content left same b (held b)
                  (plain_over seals old no_plain deeds) (plain-stays seals old no_plain deeds works)
                  (allowed b below),
              header_is,
            )

  pub conversions-keep : ConversionsKeepContent C
  conversions-keep reading seals layout header old new content bytes reader hash starts done =
      finished reading seals layout header old content bytes reader hash starts new done

  pub stops-keep : StopsKeepContent C
  stops-keep reading seals layout header old new content bytes handed answers reader hash starts
      certain dated worked earlier later parts told told_is =
      let are = subst (λ (d : List (Deed (Keys C))). AreDeeds reading seals old d) parts worked.are in
      let works = subst (λ (d : List (Deed (Keys C))). AreWorks d) parts (worked.works, worked.acts) in
      at-stop reading seals layout header old content bytes reader hash starts handed certain dated
      earlier (deeds-front reading seals old earlier later are) (works-front earlier later works) told
      told_is
