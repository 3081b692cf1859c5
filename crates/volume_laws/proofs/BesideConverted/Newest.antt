-- A conversion that clients used beside: at its end each block is new and holds its newest value.
use Rattle.std.proofs.Common.{◌≡◌, ◌≢◌, ◌∙◌, ◌-◌, ◌<◌, ◌≤◌, ◌⊎◌, ℕ, zero, suc, false, List, [], ◌∷◌, length, None, Some}
use Rattle.std.proofs.Common.{ap, arith, refl, subst, sym, mul-le-mul_right, inl, inr}
use Rattle.volume_laws.specs.BesideConverted.Ends.{ConvertedVolumesHoldNewest, HoldsNewest}
use Rattle.volume_laws.specs.BesideConversions.Ends.{IsConvertedBeside}
use Rattle.crash_laws.specs.HeaderAreas.Areas.{Image, content_of}
use Rattle.crash_laws.specs.HeaderAreas.Headers.{Gives, Header, IsReader, Layout}
use Rattle.sector_disk.specs.DiskViews.Parts.{block_at}
use Rattle.volume_laws.specs.BesideLanes.Lanes.{IsKept}
use Rattle.plain_disk.specs.Plain.{Block, Exchange, Legal}
use Rattle.segment_map.specs.Maps.{place_on}
use Rattle.segment_map.specs.declared.Side.{Side}
use Rattle.segment_map.specs.declared.Side.TheVariants.{New}
use Rattle.segment_map.specs.declared.map.Map.{Map}
use Rattle.volume_laws.proofs.BesideServing.Failures.{kept_on, same_on}
use Rattle.volume_laws.proofs.LanesAlone.{other_plain}
use Rattle.volume_laws.specs.Contents.{IsNow, IsSealed, IsTriedBy, block_in}
use Rattle.volume_laws.specs.Converting.{ServesBeside, StartsCertain, StartsUnder}
use Rattle.volume_laws.specs.Imaging.{NowBeside}
use Rattle.volume_laws.specs.Standing.{AtomStands, BlockStands, Content, StandsByHeader, StandsUnder}
use Rattle.volume_machine.specs.Answers.{AreExchanges}
use Rattle.volume_machine.specs.Deeds.{Act, AreDeeds, Deed, Does, answered_over, client, plain_by}
use Rattle.volume_machine.specs.Deeds.{plain_over, state_after, worker}
use Rattle.volume_machine.specs.Edges.{InPlain, nothing}
use Rattle.volume_machine.specs.Events.{lane_of}
use Rattle.volume_machine.specs.Pieces.{place_in, side_in}
use Rattle.volume_machine.specs.Readings.{Reading}
use Rattle.volume_machine.specs.Runs.{no_plain}
use Rattle.volume_machine.specs.Saved.{saved_hash}
use Rattle.volume_machine.specs.Seals.{Seals}
use Rattle.volume_machine.specs.States.{IsClient, State, open_at}
use Rattle.volume_machine.specs.Works.{Progress, Work, complete, resting}
use Rattle.volume_machine.specs.declared.keys.Keys.{Keys}

-- ---- the conversion's lane has nothing in plain
module _ {K : Type 0} (reading : Reading) (seals : Seals) (lane : ℕ) where
  plain-stays : (old new : State K) (act : Act) (plain : ℕ → InPlain) → (IsClient old lane → ⊥)
      → Does reading seals old act new → plain_by seals old act plain lane ≡ plain lane
  plain-stays old new (client event outcome) plain other (meets, step) =
      other_plain seals old plain event outcome lane
      (λ same. other (subst (λ k. IsClient old k) (sym same) meets.client))
  plain-stays old new (worker worked) plain other step = refl

  pub plain-rests : (old : State K) (deeds : List (Deed K)) (plain : ℕ → InPlain)
      → (IsClient old lane → ⊥) → IsKept reading old → AreDeeds reading seals old deeds
      → plain_over seals old plain deeds lane ≡ plain lane
  unfolding AreDeeds plain_over
  plain-rests old [] plain other kept are = refl
  plain-rests old (one ∷ rest) plain other kept (does, are) =
      let same = same_on reading seals old one.after one.act kept does in
      plain-rests one.after rest (plain_by seals old one.act plain)
      (λ own. other (subst (λ n. suc lane < n) same.lanes own))
      (kept_on reading seals old one.after one.act kept does) are
      ∙ plain-stays old one.after one.act plain other does

is-below : (n m : ℕ) → (n < m) ⊎ (n < m → ⊥)
is-below n zero = inr (λ below. omega (arith, below))
is-below zero (suc m) = inl (omega arith)
is-below (suc n) (suc m) =
    elim (is-below n m) [
      | inl under ↦ inl (omega (arith, under))
      | inr above ↦ inr (λ below. above (omega (arith, below)))
    ]

-- nothing is tried by a lane that has nothing in plain
tried-none : {K : Type 0} (state : State K) (plain : ℕ → InPlain) (lane b : ℕ) (value : List ℕ)
    → plain lane ≡ nothing → IsTriedBy state plain lane b value → ⊥
tried-none state plain lane b value none is =
    let long : length (plain lane).bytes ≡ 0 = ap (λ p. length p.bytes) none in
    let some = state.map.some_atom in
    let tried = is.tried in
    let more : 1 ≤ suc (b - is.o.range.start) = omega arith in
    let least = mul-le-mul_right state.map.atom more in
    omega (arith, long, some, tried, least)

-- ---- at the end
-- an atom of the new side is sealed there
new-sealed : (reading : Reading) (map : Map) (seals : Seals) (work : Work) (image : Image)
    (content : Content) (b : ℕ) (side : Side) → side ≡ New
    → AtomStands reading map seals work image content b side
    → image (place_on map b side) ≡ seals.sealed side b (content b)
new-sealed reading map seals work image content b side same stands =
    subst (λ (s : Side). AtomStands reading map seals work image content b s
    → image (place_on map b s) ≡ seals.sealed s b (content b)) (sym same) (λ is. is) stands

module _ {C : Type 0}
    (serves : (reading : Reading) (start : State (Keys C)) (seals : Seals)
    → ServesBeside reading start seals)
    (now_law : (reading : Reading) (start : State (Keys C)) (seals : Seals)
    → NowBeside reading start seals)
    (reading : Reading) (seals : Seals) (layout : Layout) (header : Header (List ℕ))
    (progress : Progress) (start : State (Keys C)) (blocks : List Block) (bytes : List ℕ)
    (deeds : List (Deed (Keys C))) (exchanges : List Exchange) (reader : IsReader reading.reader)
    (hash : reading.hash ≡ saved_hash)
    (starts : StartsUnder reading layout header progress start seals blocks bytes)
    (are : AreDeeds reading seals start deeds)
    (answered : AreExchanges (answered_over seals start no_plain deeds) exchanges)
    (unbroken : (state_after start deeds).broken ≡ false)
    (free : (lane : ℕ) → IsClient start lane
    → open_at (state_after start deeds).lanes lane ≡ None)
    (done : IsConvertedBeside reading layout header start (state_after start deeds)) where
  abbrev here : State (Keys C)
  here = state_after start deeds

  abbrev plain : ℕ → InPlain
  plain = plain_over seals start no_plain deeds

  kept : IsKept reading start
  kept = record {
    sound = starts.sound;
    order = λ some. record {
      sound = starts.sound;
      works = starts.works;
      courses = starts.courses;
      apart = starts.apart;
    };
  }

  -- what a block holds is its newest value
  newest-is : (left : List Block) (b : ℕ) (value : List ℕ) → IsNow here plain left b value
      → value ≡ (block_in left b).newest
  newest-is left b value is =
      elim is as (λ _. value ≡ (block_in left b).newest) [
        | inl tried ↦ absurd (elim (is-below (suc tried.0) (length start.lanes)) [
          | inl own ↦ (let none = free tried.0 own in let at = tried.1.is in cc)
          | inr other ↦ tried-none here plain tried.0 b value
              (plain-rests reading seals tried.0 start deeds no_plain other kept are) tried.1
        ])
        | inr newest ↦ newest.1
      ]

  pub holds : (now : List Block) × Legal start.map.atom blocks exchanges now
      × HoldsNewest reading seals done.header here now
  holds =
      let served = serves reading start seals layout header progress blocks bytes deeds exchanges
      starts are answered in
      let at_rest : Work = resting layout done.header complete in
      let (left, legal, stands, has) = now_law reading start seals layout header progress blocks bytes
      deeds exchanges reader starts are answered unbroken served.now served.values at_rest done.at_end
      (λ work is by. hash) in
      let (held, stood, is_now) = stands in
      let image : Image = λ place. block_at here.map.atom served.now place in
      let by : StandsByHeader reading here.disk.atoms seals at_rest here.map
      (λ place. block_at here.map.atom served.now place) held =
      subst (λ w. StandsUnder reading here.disk.atoms seals here.map w
      (λ place. block_at here.map.atom served.now place) held) done.at_end stood in
      let is : by.header ≡ done.header.means = has at_rest done.at_end by.header by.gives in (
        left,
        legal,
        record {
          now = served.now;
          values = served.values;
          long = served.size unbroken;
          gives = subst (λ m. Gives reading.reader (content_of here.disk.atoms
              (λ place. block_at here.map.atom served.now place)) m) is by.gives;
          map = done.map;
          new = done.converted;
          each = λ b below. (let mine : here.map ≡ reading.map_of by.header =
              done.map ∙ ap (λ m. reading.map_of m) (sym is) in
              let block = subst (λ (m : Map). BlockStands reading m seals at_rest
              (λ place. block_at here.map.atom served.now place) held b) (sym mine)
              (by.stands b below) in
              let sealed = new-sealed reading here.map seals at_rest
              (λ place. block_at here.map.atom served.now place) held b (side_in here.map b)
              (done.converted b below) block.stands in
              subst (λ v. IsSealed here.map seals b v
              (block_at here.map.atom served.now (place_in here.map b)))
              (newest-is left b (held b) (is_now b below)) (block.are, sealed));
        },
      )

pub hold-newest : {C : Type 0}
    → ((reading : Reading) (start : State (Keys C)) (seals : Seals) → ServesBeside reading start seals)
    → ((reading : Reading) (start : State (Keys C)) (seals : Seals) → NowBeside reading start seals)
    → ConvertedVolumesHoldNewest C
hold-newest serves now_law reading seals layout header progress start blocks bytes deeds exchanges reader
    hash starts are answered unbroken free done =
    holds serves now_law reading seals layout header progress start blocks bytes deeds exchanges reader
    hash starts are answered unbroken free done
