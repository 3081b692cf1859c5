-- Where a conversion stands between two steps that went on.
use Rattle.std.proofs.Common.{Contains, List, Some, ap, refl, subst, sym, length, ℕ, ◌*◌, ◌++◌, ◌∙◌}
use Rattle.std.proofs.Common.{◌≡◌, ◌↔◌, ◌⊎◌, inl, inr}
use Rattle.segment_map.specs.declared.Side.TheVariants.{New}
use Rattle.volume_machine.specs.States.{State}
use Rattle.crash_laws.specs.HeaderAreas.Areas.{Area}
use Rattle.crash_laws.specs.HeaderAreas.Commits.{Stage}
use Rattle.crash_laws.specs.HeaderAreas.Headers.{Header, Layout}
use Rattle.crash_laws.specs.HotZones.Calls.{IsLast}
use Rattle.crash_laws.specs.HotZones.Zones.{moving, opening, saving}
use Rattle.volume_machine.specs.Courses.{IsAtRest}
use Rattle.volume_machine.specs.Deeds.{Deed, state_after}
use Rattle.volume_machine.specs.Readings.{Reading}
use Rattle.volume_machine.specs.WorkSteps.{AreAllOn, closing}
use Rattle.volume_machine.specs.Works.{Work, complete, converting, resting, wiping}
use Rattle.volume_laws.specs.WorkerRuns.Conversions.{HasWiped, IsCertain, IsZeroed}
use Rattle.volume_laws.specs.WorkerRuns.Leaving.{SaysItEnds}
use Rattle.volume_laws.proofs.WorkerRuns.HeadersKept.{AllKeep}

abbrev pub AreDropped : Reading → List ℕ → List ℕ → List Area → Type 0
AreDropped reading first last areas = (area : Area) → Contains areas area
    ↔ (Contains (reading.keyslots first) area × (Contains (reading.keyslots last) area → ⊥))

-- ---- the finish: the commit of the last header is at hand
pub record IsClosing {K : Type 0} (reading : Reading) (layout : Layout) (first : Header (List ℕ))
    (now : State K) (work : Work) : Type 0 where
  pub before : Header (List ℕ)
  pub last : Header (List ℕ)
  pub stage : Stage
  pub areas : List Area
  pub is : work ≡ closing layout before last stage areas
  pub says : SaysItEnds reading first.means last.means
  pub dropped : AreDropped reading first.means last.means areas
  pub converted : AreAllOn now.map New

-- from one state on all of these areas were wiped but those that are left
abbrev pub WipesBut : {K : Type 0} → State K → State K → List Area → List Area → Type 0
WipesBut old new areas left = (bytes : List ℕ) → old.disk.values ≡ Some bytes
    → length bytes ≡ old.disk.atoms * old.map.atom
    → (now : List ℕ) × (new.disk.values ≡ Some now)
    × (length now ≡ new.disk.atoms * new.map.atom)
    × ((area : Area) → Contains areas area
    → Contains left area ⊎ IsZeroed old.map.atom now area)

pub record IsWipingOn {K : Type 0} (reading : Reading) (layout : Layout)
    (first last : Header (List ℕ)) (old : State K) (deeds : List (Deed K)) (now : State K)
    (left : List Area) : Type 0 where
  pub earlier : List (Deed K)
  pub later : List (Deed K)
  pub parts : deeds ≡ earlier ++ later
  pub areas : List Area
  pub stood : (state_after old earlier).work ≡ Some (resting layout last (wiping areas))
  pub dropped : AreDropped reading first.means last.means areas
  pub atom : now.map.atom ≡ (state_after old earlier).map.atom
  pub wipes : WipesBut (state_after old earlier) now areas left

-- ---- blocks are left to convert; the last header is to be committed; areas are to be wiped; all is
-- done
pub data Stands {K : Type 0} (reading : Reading) (layout : Layout) (first : Header (List ℕ))
    (old : State K) (deeds : List (Deed K)) (now : State K) : Type 0 where
  converts : (work : Work) → now.work ≡ Some work → work.progress ≡ converting
      → work.layout ≡ layout → AllKeep reading first.means work
      → Stands reading layout first old deeds now
  closes : (work : Work) → now.work ≡ Some work → IsClosing reading layout first now work
      → Stands reading layout first old deeds now
  wipes_on : (last : Header (List ℕ)) (left : List Area)
      → now.work ≡ Some (resting layout last (wiping left))
      → SaysItEnds reading first.means last.means → AreAllOn now.map New
      → IsWipingOn reading layout first last old deeds now left
      → Stands reading layout first old deeds now
  is_over : (last : Header (List ℕ)) → now.work ≡ Some (resting layout last complete)
      → SaysItEnds reading first.means last.means → AreAllOn now.map New
      → HasWiped reading layout first last old deeds now → IsCertain now.disk
      → Stands reading layout first old deeds now

-- no zone is at hand, and these areas are left; or nothing is
pub record WipesAt {K : Type 0} (reading : Reading) (layout : Layout) (first : Header (List ℕ))
    (old : State K) (deeds : List (Deed K)) (now : State K) (last : Header (List ℕ))
    (left : List Area) (place : Layout) : Type 0 where
  pub lay : place ≡ layout
  pub says : SaysItEnds reading first.means last.means
  pub all : AreAllOn now.map New
  pub on : IsWipingOn reading layout first last old deeds now left

pub record OverAt {K : Type 0} (reading : Reading) (layout : Layout) (first : Header (List ℕ))
    (old : State K) (deeds : List (Deed K)) (now : State K) (last : Header (List ℕ))
    (place : Layout) : Type 0 where
  pub lay : place ≡ layout
  pub says : SaysItEnds reading first.means last.means
  pub all : AreAllOn now.map New
  pub wiped : HasWiped reading layout first last old deeds now
  pub certain : IsCertain now.disk

-- ---- what is not the same
pub wiping_converts : {areas : List Area} → wiping areas ≡ converting → ⊥
wiping_converts e = cc

pub complete_converts : complete ≡ converting → ⊥
complete_converts e = cc

complete_wipes : {areas : List Area} → complete ≡ wiping areas → ⊥
complete_wipes e = cc

pub same_areas : {areas others : List Area} → wiping areas ≡ wiping others → areas ≡ others
same_areas e = cc

pub moving_saves : {stage : Stage} {n : ℕ} → moving stage ≡ saving n → ⊥
moving_saves e = cc

moving_opens : {stage other : Stage} → moving stage ≡ opening other → ⊥
moving_opens e = cc

-- a zone is at hand where its phase isn't the first one
pub last_not_rest : (work : Work) → IsLast work.phase → IsAtRest work → ⊥
last_not_rest work last rest = subst IsLast (ap (λ w. w.phase) rest) last

pub opening_not_rest : (work : Work) (stage : Stage) → work.phase ≡ opening stage → IsAtRest work → ⊥
opening_not_rest work stage opens rest =
    let same : saving 0 ≡ opening stage = sym (ap (λ w. w.phase) rest) ∙ opens in cc

module _ {K : Type 0} {reading : Reading} {layout : Layout} {first : Header (List ℕ)}
    {old : State K} {deeds : List (Deed K)} {now : State K} where
  pub converting_at : Stands reading layout first old deeds now → (work : Work)
      → now.work ≡ Some work → work.progress ≡ converting
      → (work.layout ≡ layout) × AllKeep reading first.means work
  converting_at (converts one at is lay keeps) work here on =
      let same : one ≡ work = cc in
      (subst (λ w. w.layout ≡ layout) same lay, subst (AllKeep reading first.means) same keeps)
  converting_at (closes one at it) work here on =
      let same : work ≡ one = cc in
      absurd (wiping_converts (sym (ap (λ w. w.progress) (same ∙ it.is)) ∙ on))
  converting_at (wipes_on last left at says all it) work here on =
      let same : work ≡ resting layout last (wiping left) = cc in
      absurd (wiping_converts (sym (ap (λ w. w.progress) same) ∙ on))
  converting_at (is_over last at says all it certain) work here on =
      let same : work ≡ resting layout last complete = cc in
      absurd (complete_converts (sym (ap (λ w. w.progress) same) ∙ on))

  pub at_hand_at : Stands reading layout first old deeds now → (work : Work)
      → now.work ≡ Some work → (IsAtRest work → ⊥)
      → (work.progress ≡ converting) ⊎ IsClosing reading layout first now work
  at_hand_at (converts one at is lay keeps) work here goes =
      let same : one ≡ work = cc in inl (subst (λ w. w.progress ≡ converting) same is)
  at_hand_at (closes one at it) work here goes =
      let same : one ≡ work = cc in inr (subst (IsClosing reading layout first now) same it)
  at_hand_at (wipes_on last left at says all it) work here goes =
      let same : work ≡ resting layout last (wiping left) = cc in
      absurd (goes (subst IsAtRest (sym same) refl))
  at_hand_at (is_over last at says all it certain) work here goes =
      let same : work ≡ resting layout last complete = cc in
      absurd (goes (subst IsAtRest (sym same) refl))

  pub wiping_at : Stands reading layout first old deeds now → (l : Layout)
      (header : Header (List ℕ)) (areas : List Area)
      → now.work ≡ Some (resting l header (wiping areas)) → WipesAt reading layout first old deeds now header areas l
  wiping_at (converts one at is lay keeps) l header areas here =
      let same : one ≡ resting l header (wiping areas) = cc in
      absurd (wiping_converts (sym (ap (λ w. w.progress) same) ∙ is))
  wiping_at (closes one at it) l header areas here =
      let same : one ≡ resting l header (wiping areas) = cc in
      absurd (moving_saves (sym (ap (λ w. w.phase) it.is) ∙ ap (λ w. w.phase) same))
  wiping_at (wipes_on last left at says all it) l header areas here =
      let same : resting layout last (wiping left) ≡ resting l header (wiping areas) = cc in
      let head : last ≡ header = ap (λ w. w.zone.before) same in
      let rest : left ≡ areas = same_areas (ap (λ w. w.progress) same) in record {
        lay = sym (ap (λ w. w.layout) same);
        says = subst (λ h. SaysItEnds reading first.means h.means) head says;
        all = all;
        on = subst (λ h. IsWipingOn reading layout first h old deeds now areas) head
            (subst (IsWipingOn reading layout first last old deeds now) rest it);
      }
  wiping_at (is_over last at says all it certain) l header areas here =
      let same : resting layout last complete ≡ resting l header (wiping areas) = cc in
      absurd (complete_wipes (ap (λ w. w.progress) same))

  pub over_at : Stands reading layout first old deeds now → (l : Layout)
      (header : Header (List ℕ)) → now.work ≡ Some (resting l header complete) → OverAt reading layout first old deeds now header l
  over_at (converts one at is lay keeps) l header here =
      let same : one ≡ resting l header complete = cc in
      absurd (complete_converts (sym (ap (λ w. w.progress) same) ∙ is))
  over_at (closes one at it) l header here =
      let same : one ≡ resting l header complete = cc in
      absurd (moving_saves (sym (ap (λ w. w.phase) it.is) ∙ ap (λ w. w.phase) same))
  over_at (wipes_on last left at says all it) l header here =
      let same : resting l header complete ≡ resting layout last (wiping left) = cc in
      absurd (complete_wipes (ap (λ w. w.progress) same))
  over_at (is_over last at says all it certain) l header here =
      let same : resting layout last complete ≡ resting l header complete = cc in
      let head : last ≡ header = ap (λ w. w.zone.before) same in record {
        lay = sym (ap (λ w. w.layout) same);
        says = subst (λ h. SaysItEnds reading first.means h.means) head says;
        all = all;
        wiped = subst (λ h. HasWiped reading layout first h old deeds now) head it;
        certain = certain;
      }

-- the commit of the last header isn't that of a zone that is opened
pub closing_not_opening : {K : Type 0} {reading : Reading} {layout : Layout}
    {first : Header (List ℕ)} {now : State K} (work : Work) (stage : Stage)
    → IsClosing reading layout first now work → work.phase ≡ opening stage → ⊥
closing_not_opening work stage it opens =
    moving_opens (sym (ap (λ w. w.phase) it.is) ∙ opens)
