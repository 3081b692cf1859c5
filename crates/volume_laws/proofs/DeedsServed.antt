-- Runs of deeds: events of clients and steps of the worker in any order. The operations are those of
-- one plain disk, and a stop leaves what it allows.
use Rattle.std.proofs.Common.{Contains, List, Some, [], ap, arith, false, inl, inr, length, refl}
use Rattle.std.proofs.Common.{subst, suc, sym, ℕ, ◌<◌, ◌∙◌, ◌∷◌, ◌≡◌, ◌≢◌}
use Rattle.plain_disk.specs.Plain.{Block, Exchange, values_of, Legal}
use Rattle.sector_disk.specs.DiskViews.Parts.{cell_in, value_in, block_at}
use Rattle.sector_disk.specs.DiskViews.Views.{View, view_of_bytes, view_of_cells}
use Rattle.volume_machine.specs.Answers.{AreExchanges}
use Rattle.volume_machine.specs.Edges.{InPlain, nothing}
use Rattle.volume_machine.specs.Events.{Event, Outcome, admits, asks, device, done, fetches, finishes}
use Rattle.volume_machine.specs.Events.{got, lane_of, reads, settles, writes}
use Rattle.volume_machine.specs.Pieces.{place_in}
use Rattle.volume_machine.specs.Runs.{no_plain, plain_after}
use Rattle.volume_machine.specs.Seals.{Seals}
use Rattle.volume_machine.specs.States.{State}
use Rattle.volume_machine.specs.Works.{Work}
use Rattle.crash_laws.specs.HeaderAreas.Commits.{begun, ShowsCommit}
use Rattle.crash_laws.specs.HeaderAreas.Headers.{Handed, Header, IsReader, Layout}
use Rattle.sector_disk.proofs.DiskViews.{Entries.image_in, TableEntries.none_contained}
use Rattle.sector_disk.proofs.DiskViews.TableEntries.{place_of_some}
use Rattle.volume_machine.proofs.{EventEffects.event_effects, Soundness.sound_kept}
use Rattle.volume_machine.specs.Courses.{Courses, IsOnCourse}
use Rattle.volume_machine.specs.Deeds.{Act, AreDeeds, Deed, Does, answered_of, answered_over, client}
use Rattle.volume_machine.specs.Deeds.{plain_by, plain_over, state_after, worker}
use Rattle.volume_machine.specs.Readings.{Reading}
use Rattle.volume_machine.specs.Works.{Progress, resting}
use Rattle.volume_laws.specs.Contents.{IsSealed, block_in}
use Rattle.volume_laws.specs.Converting.{ServesBeside, StartsCertain, StartsUnder}
use Rattle.volume_laws.specs.Handing.{handed_of, handed_over}
use Rattle.volume_laws.specs.Imaging.{AreDated, HasHeader, NowBeside, ReadsDigests, StopsBeside}
use Rattle.volume_laws.specs.Standing.{StandsForNow}
use Rattle.volume_laws.proofs.Admits.{idle, plain-other}
use Rattle.volume_laws.proofs.Answering.{legal_none}
use Rattle.volume_laws.proofs.CourseSteps.{work_course}
use Rattle.volume_laws.proofs.CoursesKept.{course_same}
use Rattle.volume_laws.proofs.DatedKept.{same_dated, work_dated}
use Rattle.volume_laws.proofs.Here.{Here, some_atom}
use Rattle.volume_laws.proofs.HoldersKept.{atom_kept, atoms_kept, count_kept}
use Rattle.volume_laws.proofs.Invariant.{Shown, TriesNothing}
use Rattle.volume_laws.proofs.PlainBlocks.{sure_in}
use Rattle.volume_laws.proofs.RunsServed.{event_served, legal_joined, split_exchanges, works_after}
use Rattle.volume_laws.proofs.SealLemmas.{length-sealed}
use Rattle.volume_laws.proofs.WorkServed.{NothingOfWorkers, work_served}
use Rattle.volume_laws.proofs.ZoneStandings.{stands_now, stands_taken}

-- what holds at a moment of a run of deeds
pub record Moment {K : Type 0} (P Q : Type 0) (reading : Reading) (state : State K) (seals : Seals)
    (plain : ℕ → InPlain) (left : List Block) (handed : Handed) : Type 0 where
  pub here : Here P Q state seals plain left
  pub courses : Courses reading state
  pub none : NothingOfWorkers state plain
  pub dated : AreDated reading state handed

-- an event leaves what other lanes have in plain
plain_left : {K : Type 0} (seals : Seals) (old : State K) (event : Event) (outcome : Outcome)
    (plain : ℕ → InPlain) (k : ℕ) → k ≢ lane_of event
    → plain_after seals old event outcome plain k ≡ plain k
unfolding plain_after
plain_left seals old (admits lane session ask) outcome plain k other = plain-other plain lane nothing k other
plain_left seals old (asks lane) outcome plain k other = refl
plain_left seals old (reads lane len) (got sealed) plain k other = plain-other plain lane _ k other
plain_left seals old (reads lane len) _ plain k other = refl
plain_left seals old (fetches lane which) (got sealed) plain k other =
    plain-other plain lane _ k other
plain_left seals old (fetches lane which) _ plain k other = refl
plain_left seals old (writes lane sealed) done plain k other = plain-other plain lane _ k other
plain_left seals old (writes lane sealed) device plain k other = plain-other plain lane _ k other
plain_left seals old (writes lane sealed) _ plain k other = refl
plain_left seals old (settles lane) outcome plain k other = refl
plain_left seals old (finishes lane) outcome plain k other = refl

-- what a deed leaves, and what was answered
record DeedServed {K : Type 0} (P Q : Type 0) (reading : Reading) (seals : Seals) (old new : State K)
    (now : ℕ → InPlain) (left : List Block) (handed : Handed) (exchanges : List Exchange) : Type 0
  where
    next : List Block
    legal : Legal old.map.atom left exchanges next
    moment : Moment P Q reading new seals now next handed
    atom : new.map.atom ≡ old.map.atom

deed_served : {K P Q : Type 0} {reading : Reading} {seals : Seals} {old new : State K}
    {plain : ℕ → InPlain} {left : List Block} {handed : Handed} (act : Act)
    (exchanges : List Exchange) → Moment P Q reading old seals plain left handed → Q
    → Does reading seals old act new → AreExchanges (answered_of old act plain) exchanges
    → DeedServed P Q reading seals old new (plain_by seals old act plain) left
    (handed_of old act new handed) exchanges
deed_served {reading = reading} {seals = seals} {old = old} {new = new} {plain = plain}
    {handed = handed} (client event outcome) exchanges moment all (meets, step) are =
    let here = moment.here in
    let goes = event_effects old new event outcome step in
    let served = event_served event outcome exchanges here (record {
      sound = sound_kept old new event outcome here.logic.sound meets step;
      works = works_after _ _ _ outcome meets step here.works;
    }) meets step are in record {
      next = served.next;
      legal = served.legal;
      moment = record {
        here = served.here;
        courses = course_same served.map goes.disk.atoms served.work moment.courses;
        none = λ lane last. (let before : suc lane ≡ length old.lanes = last ∙ goes.lane_is.count in
            plain_left seals old event outcome plain lane (λ same.
            let below = meets.client in omega (arith, before, same, below))
            ∙ moment.none lane before);
        dated = same_dated reading old new moment.courses handed moment.dated served.work;
      };
      atom = ap (λ m. m.atom) served.map;
    }
deed_served {reading = reading} {old = old} {new = new} {left = left} {handed = handed} (worker worked)
    exchanges moment all step are = record {
      next = left;
      legal = legal_none old.map.atom left exchanges are;
      moment = record {
        here = work_served moment.here all moment.courses moment.none step;
        courses = work_course moment.courses (atoms_kept step) step;
        none = λ lane last. moment.none lane (last ∙ count_kept step);
        dated = work_dated reading old new moment.courses handed moment.dated step;
      };
      atom = atom_kept moment.courses step;
    }

-- a run goes on from a moment to another
pub record DeedsRan {K : Type 0} (P Q : Type 0) (reading : Reading) (seals : Seals) (old : State K)
    (plain : ℕ → InPlain) (left : List Block) (handed : Handed) (deeds : List (Deed K))
    (exchanges : List Exchange) : Type 0 where
  pub next : List Block
  pub legal : Legal old.map.atom left exchanges next
  pub moment : Moment P Q reading (state_after old deeds) seals (plain_over seals old plain deeds) next
      (handed_over old handed deeds)

pub deeds_served : {K P Q : Type 0} {reading : Reading} {seals : Seals} {old : State K}
    {plain : ℕ → InPlain} {left : List Block} {handed : Handed} (deeds : List (Deed K))
    (exchanges : List Exchange)
    → Moment P Q reading old seals plain left handed → Q → AreDeeds reading seals old deeds
    → AreExchanges (answered_over seals old plain deeds) exchanges
    → DeedsRan P Q reading seals old plain left handed deeds exchanges
unfolding AreDeeds state_after answered_over plain_over handed_over
deeds_served {old = old} {left = left} [] exchanges moment all is are =
    record { next = left; legal = legal_none old.map.atom left exchanges are; moment = moment }
deeds_served {seals = seals} {old = old} {plain = plain} {left = left} {handed = handed} (one ∷ rest)
    exchanges moment all (does, is) are =
    let (first, behind, parts, are_first, are_behind) =
    split_exchanges (answered_of old one.act plain)
    (answered_over seals one.after (plain_by seals old one.act plain) rest) exchanges are in
    let served = deed_served one.act first moment all does are_first in
    let ran = deeds_served {old = one.after} {plain = plain_by seals old one.act plain}
    {left = served.next} {handed = handed_of old one.act one.after handed} rest behind served.moment
    all is are_behind in record {
      next = ran.next;
      legal = subst (λ es. Legal old.map.atom left es ran.next) (sym parts)
          (legal_joined old.map.atom left served.next ran.next first behind served.legal
          (subst (λ a. Legal a served.next behind ran.next) served.atom ran.legal));
      moment = ran.moment;
    }

-- a start is a moment
pub starts_moment : {K : Type 0} {reading : Reading} {layout : Layout} {header : Header (List ℕ)}
    {progress : Progress} {start : State K} {seals : Seals} {blocks : List Block} {bytes : List ℕ}
    {handed : Handed} → StartsUnder reading layout header progress start seals blocks bytes
    → AreDated reading start handed
    → Moment (StartsCertain layout header start seals blocks) (Unit {0}) reading start seals no_plain
    blocks handed
starts_moment {layout = layout} {header = header} {progress = progress} {start = start}
    {seals = seals} {blocks = blocks} {bytes = bytes} starts dated =
    let none : (lane : ℕ) → TriesNothing start no_plain lane = λ lane. idle (starts.lanes lane) in
    let rest = resting layout header progress in
    let shows : (view : View) → ((b : ℕ) → b < start.map.blocks
    → IsSealed start.map seals b (block_in blocks b).newest (view.current (place_in start.map b)))
    → ((b : ℕ) → b < start.map.blocks → (atom : List ℕ)
    → Contains (view.candidates (place_in start.map b)) atom → (value : List ℕ)
    × Contains (values_of (block_in blocks b)) value × IsSealed start.map seals b value atom)
    → ShowsCommit start.map.atom layout header header begun false view
    → Shown start seals no_plain blocks view = λ view current candidates copies. record {
      current = λ whole b live.
          ((block_in blocks b).newest, inr (λ lane. none lane b, refl), current b live.inside);
      candidates = λ b live atom contains.
          (let (value, has, sealed) = candidates b live.inside atom contains in
          (value, inl has, sealed));
      settled = λ lane o is. absurd (let free = starts.lanes lane in cc);
      zone = λ work is. (let same : work ≡ rest = (let at = starts.at_rest in cc) in
          rw (same, starts.unbroken) (record {
            zone = record {
              own = record {
                now = λ whole i below. absurd (omega (arith, below));
                left = λ i below value has. absurd (omega (arith, below));
              };
              target = record { now = λ whole i below. tt; left = λ i below value has. tt };
              store = record {
                now = λ whole i below. absurd (omega (arith, below));
                left = λ i below value has. tt;
              };
              header = copies;
            };
            part = tt;
            apart = λ is_so i below. absurd (omega (arith, below));
          }));
    } in record {
      here = record {
        logic = record {
          sound = starts.sound;
          are = starts.are;
          sure = λ whole b below. sure_in blocks b starts.sure (omega (arith, below, starts.are.count));
          lanes = λ lane o is. absurd (let free = starts.lanes lane in cc);
        };
        lawful = starts.lawful;
        apart = starts.apart;
        works = starts.works;
        bytes = bytes;
        values = starts.values;
        size = λ all unbroken. starts.whole.bytes bytes starts.values;
        cells = λ all certain told is. starts.whole.cells told is;
        shown = shows (view_of_bytes start.map.atom bytes) starts.stands
            (λ b below atom contains. absurd (omega arith)) starts.copies;
        places = λ certain told is b below. place_of_some told.now (place_in start.map b) (let size =
            length-sealed start.map seals b (block_in blocks b).newest (cell_in told.now
            (place_in start.map b)).current starts.lawful ((certain.covered told is).current b below)
            in omega (arith, some_atom start.map.atom starts.sound.fits.known, size));
        tables = λ certain told is. shows (view_of_cells told.now) (certain.covered told is).current
            (certain.covered told is).candidates (certain.copies told is);
      };
      courses = starts.courses;
      none = λ lane last. refl;
      dated = dated;
    }

-- nothing was handed yet
none_handed : Handed
none_handed copy = []

none_dated : {K : Type 0} (reading : Reading) (start : State K) {layout : Layout}
    {header : Header (List ℕ)} {progress : Progress}
    → start.work ≡ Some (resting layout header progress) → AreDated reading start none_handed
unfolding none_handed
none_dated reading start {layout} {header} {progress} at work is =
    let same : work ≡ resting layout header progress = cc in rw same (record {
      later = tt;
      each = λ copy text m has. none_contained _ text has;
    })

-- every run of deeds from a start
pub serves_beside : {K : Type 0} (reading : Reading) (start : State K) (seals : Seals)
    → ServesBeside reading start seals
serves_beside reading start seals = λ layout header progress blocks bytes deeds exchanges starts is
    are.
    let ran = deeds_served deeds exchanges (starts_moment starts (none_dated reading start starts.at_rest)) tt is are
    in
    let here = ran.moment.here in let last = state_after start deeds in record {
      left = ran.next;
      legal = ran.legal;
      now = here.bytes;
      values = here.values;
      stands = here.shown.current;
      size = here.size tt;
      cells = here.cells tt;
      stops = λ certain told was image is_image b live. (here.tables certain told was).candidates
          b live (value_in image (place_in last.map b)) (image_in told.now
          image (place_in last.map b) is_image (here.places certain told was b live.inside));
    }

-- wherever a run stops each image stands by its own header
pub stops_beside : {K : Type 0} (reading : Reading) (start : State K) (seals : Seals)
    → StopsBeside reading start seals
stops_beside reading start seals = λ layout header progress blocks bytes deeds exchanges handed reader
    starts certain dated is are told told_is work at hashes.
    let ran = deeds_served deeds exchanges (starts_moment starts dated) tt is are in
    let moment = ran.moment in (
      ran.next,
      ran.legal,
      stands_taken reading (handed_over start handed deeds) moment.here tt certain reader work at
          (moment.courses work at) moment.dated hashes told told_is,
    )

-- and while nothing has failed the current bytes stand by theirs
pub now_beside : {K : Type 0} (reading : Reading) (start : State K) (seals : Seals)
    → NowBeside reading start seals
now_beside reading start seals = λ layout header progress blocks bytes deeds exchanges reader
    starts is are whole now values work at hashes.
    let ran = deeds_served deeds exchanges
    (starts_moment starts (none_dated reading start starts.at_rest)) tt is are in
    let moment = ran.moment in let last = state_after start deeds in
    let same : moment.here.bytes ≡ now = (let known = moment.here.values in cc) in
    let (stands, given) = subst (λ known. StandsForNow reading last seals
    (plain_over seals start no_plain deeds) ran.next known
    × HasHeader reading last (λ place. block_at last.map.atom known place)) same
    (by_now reading moment.here reader work at (moment.courses work at) hashes whole) in
    (ran.next, ran.legal, stands, given)
  where
    by_now : {K P : Type 0} {state : State K} {seals : Seals} {plain : ℕ → InPlain}
        {left : List Block} (reading : Reading) (here : Here P (Unit {0}) state seals plain left)
        → IsReader reading.reader → (work : Work) → state.work ≡ Some work
        → IsOnCourse reading state work → ReadsDigests reading state → state.broken ≡ false
        → StandsForNow reading state seals plain left here.bytes
        × HasHeader reading state (λ place. block_at state.map.atom here.bytes place)
    by_now reading here reader work at course hashes whole =
        let (content, stands, is_now, given) =
        stands_now reading here tt reader work at course hashes whole in
        ((content, stands, is_now), given)
