-- All links of a volume, served at once, beside the worker of its conversion.
use Rattle.std.proofs.Common.{◌≡◌, ◌≢◌, ◌⊎◌, inl, inr, ℕ, zero, suc, ◌+◌, ◌*◌, ◌-◌, ◌^◌, ◌<◌, ◌≤◌, List, []}
use Rattle.std.proofs.Common.{◌∷◌, Contains, IfSome, Option, Some, None, length, slice_index_or}
use Rattle.std.proofs.Common.{refl, sym, ◌∙◌, ap, subst, arith}
use Rattle.std.proofs.Math.Nat.{mod-eq_of_lt}
use Rattle.bays.specs.Stories.{LinkState}
use Rattle.base_terms.specs.declared.disk_sizes.Sizes.{Sizes}
use Rattle.lane_plan.specs.declared.plan.Shape.{Shape}
use Rattle.volume_laws.specs.BesideLanes.Executing.{ExecutesBeside}
use Rattle.volume_laws.specs.BesideLanes.Lanes.{StaysSame, answered_on, works_over}
use Rattle.nbd_hand.specs.declared.export.Export.{Export}
use Rattle.nbd_session.specs.declared.ending.SessionEnd.{SessionEnd}
use Rattle.reenc_worker.specs.Answers.{AreAnswers}
use Rattle.reenc_worker.specs.declared.ends.WorkAnswer.{WorkAnswer}
use Rattle.reenc_worker.specs.declared.ends.WorkAnswer.TheVariants.{Ended}
use Rattle.reenc_worker.specs.declared.ends.WorkerEnd.{WorkerEnd}
use Rattle.reenc_worker.specs.declared.ends.WorkerEnd.TheVariants.{Spent}
use Rattle.shared_volume.proofs.Beginning.{begins-so, some-reading}
use Rattle.shared_volume.specs.Ciphers.{Context, opened, sealed}
use Rattle.shared_volume.specs.Histories.{IsReadSo, MayBeShared, own_calls}
use Rattle.shared_volume.specs.Lanes.{HasAnswered, Knowing, seals_at}
use Rattle.shared_volume.specs.Serving.{EndsBy, HasServedBeside, WentOn, calls_on, works_in}
use Rattle.shared_volume.specs.Working.{AreAnswered}
use Rattle.shared_volume.specs.declared.asking.SharedEvent.{SharedEvent}
use Rattle.shared_volume.specs.declared.asking.SharedOutcome.{SharedOutcome}
use Rattle.shared_volume.specs.Works.{VolumeCell}
use Rattle.volume_cell.specs.Passes.{known}
use Rattle.volume_cell.specs.declared.history.Call.{Call}
use Rattle.volume_machine.proofs.Locking.{same_or_not}
use Rattle.volume_machine.specs.Answers.{Answered, AreTagged, Tagged, untagged}
use Rattle.volume_machine.specs.Deeds.{AreDeeds, Deed}
use Rattle.volume_machine.specs.Runs.{no_plain}
use Rattle.volume_machine.specs.States.{IsClient, State, open_at, size_of}
use Rattle.volume_machine.specs.declared.keys.Keys.{Keys}
use Rattle.volume_machine.specs.declared.open.Open.{Open}
use Rattle.hotzone.specs.ZoneEvents.Readings.{reading_of}
use Rattle.block_server.specs.Leading.{HasLed, end_of}
use Rattle.block_server.specs.Links.{AreServed, IsServed}
use Rattle.block_server.specs.Merging.{AreOfLane}
use Rattle.block_server.specs.Passing.{KnowsAll}
use Rattle.block_server.specs.Serving
use Rattle.block_server.specs.Serving.{IsLeft}
use Rattle.block_server.specs.Sessions.{AreNumbered, AreOfLink, AreSessions, HasNumber, Played}
use Rattle.block_server.specs.Sessions.{operations_of, tagged_of}
use Rattle.block_server.specs.Slots.{each_of}
use Rattle.block_server.specs.Workers.{AreReady, HaveWorked, export_of}
use Rattle.block_server.specs.declared.leading.Led.{Led}
use Rattle.block_server.specs.declared.link.Standing.{Standing}
use Rattle.block_server.specs.declared.link.Standing.TheVariants.{Live}
use Rattle.block_server.specs.declared.worker.Worker.{Worker}
use Rattle.block_server.proofs.AccountLemmas.{AreNamed, IsJoined, calls-led, calls-none, calls-other}
use Rattle.block_server.proofs.AllSessions.{all-of_link, all-of_links, all-sessions, all_of}
use Rattle.block_server.proofs.Choosing.{Chosen, choose}
use Rattle.block_server.proofs.LastLane.{no-open, none-beyond}
use Rattle.block_server.proofs.LedLemmas.{IsLedSo, led-worked, under-way-last}
use Rattle.block_server.proofs.LeadingLemmas.{no-calls, no-works, none-answered, own-none, spent-full}
use Rattle.block_server.proofs.LinkLemmas.{AreSessions-spend, is-served, sessions-numbered}
use Rattle.block_server.proofs.Merging.{Merged, merges}
use Rattle.block_server.proofs.Operations.{each-merged, known-merged, lane-own, on-first}
use Rattle.block_server.proofs.Operations.{untagged-tagged_of}
use Rattle.block_server.proofs.Plains.{idle-answered}
use Rattle.block_server.proofs.ServedLemmas.{Pair, answered-by, full-by, left-on, pair-at}
use Rattle.block_server.proofs.ServedLemmas.{tells-length}
use Rattle.block_server.proofs.SlotLemmas.{AllSome, each_of-at, each_of-length}

from-zero : (n : ℕ) → n ≡ 0 + n
from-zero n = omega arith

below-or-not : (k n : ℕ) → (k < n) ⊎ (n ≤ k)
below-or-not k zero = inr (omega arith)
below-or-not zero (suc n) = inl (omega arith)
below-or-not (suc k) (suc n) = elim (below-or-not k n) [
  | inl below ↦ inl (omega (arith, below))
  | inr beyond ↦ inr (omega (arith, beyond))
]

module _ {D P L : Type 0} (state : L → LinkState) (cell : VolumeCell D Context P) (links : ℕ) (shape : Shape)
    (start final : State (Keys Context)) (olds : List L) (before after : List (Option (Worker D L)))
    (v : Knowing Context) (led : Option (Led D))
  where
    -- what is known of workers that have served, and of the volume
    pub record IsDone : Type 0 where
      pub shared : MayBeShared start
      pub atom : start.map.atom ≡ shape.atom
      pub blocks : start.map.blocks ≡ shape.blocks
      pub lanes : length start.lanes ≡ links + 1
      pub some : 0 < links
      pub count : length olds ≡ links
      pub ready : AreReady state cell links shape (Some start) olds before
      pub worked : HaveWorked state cell links shape before after
      pub joined : IsJoined v after led
      pub knows : KnowsAll v after
      pub begun : v.start ≡ Some start
      pub serves : HasServedBeside (seals_at sealed opened start) start final v
      pub same : StaysSame start final
      pub limit : cell.limit < 2 ^ 63 - 1
      pub has_led : IfSome led (HasLed cell links (Some start))
      pub knows_led : IfSome led (λ led. length (known led.pass).history ≤ length v.history)
      pub ended : (answers : List WorkAnswer) (end : WorkerEnd)
          → AreAnswered links (calls_on links v) answers → AreAnswers end answers → end ≢ Spent
          → EndsBy end serves.deeds
      pub spent : (answers : List WorkAnswer) → AreAnswered links (calls_on links v) answers
          → AreAnswers Spent answers → WentOn (works_over serves.deeds)

    module _ (done : IsDone) where
      as-many : length after ≡ links
      as-many = done.worked.count ∙ (done.ready.count ∙ done.count)

      pairs : (k : ℕ) → k < links
          → Pair state cell links shape start olds before after k
      pairs k below = pair-at state cell links shape start olds before after
          done.ready done.worked k (omega (arith, below, done.count))

      named : AreNamed 0 after
      named = record {
        each = λ k inside.
            let pair = pairs k (omega (arith, inside, as-many)) in (
              pair.new,
              pair.at,
              pair.worked.same.name ∙ (pair.ready.name ∙ ap (λ (n : ℕ). n ∷ []) (from-zero k)),
            );
      }

      all-some : AllSome after
      all-some = λ k inside. let pair = pairs k (omega (arith, inside, as-many)) in
          (pair.new, pair.at)

      -- the sessions of each link
      abbrev Told : ℕ → List Played → Type 0
      Told k played =
          (pair : Pair state cell links shape start olds before after k)
          × (pair.worked.played ≡ played)

      chosen : Chosen Told links
      chosen = choose Told links (λ k below.
          let pair = pairs k below in (pair.worked.played, (pair, refl)))

      abbrev each : ℕ → List Played
      each = chosen.each

      own : (k : ℕ) → AreOfLink k (each k)
      unfolding AreOfLink
      own k = elim (below-or-not k links) [
        | inl below ↦ let (pair, is) = chosen.holds k below in
            subst (λ (l : List Played). AreOfLink k l) is pair.worked.served.links
        | inr beyond ↦ subst (λ (l : List Played). AreOfLink k l) (sym (chosen.none k beyond)) tt
      ]

      numbers : (k : ℕ) → k < links → AreNumbered links k (each k)
      numbers k below = let (pair, is) = chosen.holds k below in
          subst (λ (l : List Played). AreNumbered links k l) is pair.worked.served.numbers

      lanes : (k : ℕ) → AreOfLane links k (tagged_of (each k))
      unfolding AreOfLane tagged_of
      lanes k = elim (below-or-not k links) [
        | inl below ↦ lane-own links done.some k k (each k) (numbers k below)
            (mod-eq_of_lt below)
        | inr beyond ↦ subst (λ (l : List Played). AreOfLane links k (tagged_of l))
            (sym (chosen.none k beyond)) tt
      ]

      abbrev deeds : List (Deed (Keys Context))
      deeds = done.serves.deeds

      -- behind the lanes of links there are no calls of clients
      own-beyond : (k : ℕ) → links ≤ k → (which : Option (Led D)) → led ≡ which
          → own_calls (calls_on k v) ≡ []
      own-beyond k beyond None is =
          ap own_calls (calls-none v after k
          (subst (λ (l : Option (Led D)). IsJoined v after l) is done.joined) named
          (omega (arith, beyond, as-many))) ∙ no-calls
      own-beyond k beyond (Some one) is =
          let has = subst (λ (l : Option (Led D)). IfSome l (HasLed cell links (Some start))) is
          done.has_led in
          let joined = subst (λ (l : Option (Led D)). IsJoined v after l) is done.joined in
          elim (same_or_not k links) [
            | inl same ↦ ap own_calls (calls-led v after one k joined named
                (omega (arith, beyond, as-many))
                (has.worker.name ∙ ap (λ (n : ℕ). n ∷ []) (sym same)))
                ∙ own-none links (known one.pass).calls has.answers has.answered
            | inr differ ↦ ap own_calls (calls-other v after one links k joined named
                (omega (arith, beyond, as-many)) has.worker.name differ) ∙ no-calls
          ]

      answered : (k : ℕ) → AreTagged (answered_on k (seals_at sealed opened start) start no_plain
          deeds) (tagged_of (each k))
      unfolding tagged_of
      answered k = elim (below-or-not k links) [
        | inl below ↦ let (pair, is) = chosen.holds k below in
            done.serves.answered k (tagged_of (each k))
            (subst (λ (l : List Played). HasAnswered (seals_at sealed opened start) start []
            (calls_on k v) (tagged_of l)) is
            (answered-by state cell links shape start olds before after v led
            done.joined named k (omega (arith, below, as-many)) pair))
        | inr beyond ↦ subst (λ (l : List Played). AreTagged (answered_on k
            (seals_at sealed opened start) start no_plain deeds) (tagged_of l))
            (sym (chosen.none k beyond))
            (none-answered (seals_at sealed opened start) start (answered_on k
            (seals_at sealed opened start) start no_plain deeds) (calls_on k v)
            (done.serves.lanes k) (own-beyond k beyond led refl))
      ]

      merged : Merged (seals_at sealed opened start) start no_plain links
          (λ k. tagged_of (each k)) deeds
      merged = merges (seals_at sealed opened start) start no_plain links
          (λ k. tagged_of (each k)) deeds answered lanes

      did : (sizes : Sizes) → IsReadSo sizes start → ExecutesBeside (reading_of sizes)
          (seals_at sealed opened start) start final deeds merged.history
      did sizes read = record {
        are = done.serves.are sizes read;
        last = done.serves.last;
        answers = λ plain. subst (λ (l : List Answered). AreTagged l merged.history)
            (sym (idle-answered (reading_of sizes) (seals_at sealed opened start) start plain deeds
            done.shared.idle (begins-so start done.shared sizes read).kept
            (done.serves.are sizes read))) merged.answered;
      }

      long : length deeds ≡ length v.history
      long = tells-length (length start.lanes) v.history deeds done.serves.tells

      full : (k : ℕ) (below : k < links) → (chosen.holds k below).0.new.left_by ≢ None
          → cell.limit ≤ length deeds
      full k below left =
          let full = full-by state cell links shape start olds before after v led
          done.joined named k (omega (arith, below, as-many)) (chosen.holds k below).0 done.knows
          left in omega (arith, full, long)

      abbrev export : Export
      export = record { number = 0; size = size_of start.map; atom = start.map.atom }

      export-is : export_of shape 0 ≡ export
      export-is =
          ap (λ (m : ℕ). record { number = 0; size = m * shape.atom; atom = shape.atom })
          (sym done.blocks)
          ∙ ap (λ (a : ℕ). record { number = 0; size = start.map.blocks * a; atom = a })
          (sym done.atom)

      sessions : AreSessions export (cell.limit ≤ length deeds) (all_of each links)
      sessions = all-sessions export (cell.limit ≤ length deeds) each links
          (λ k below. let (pair, is) = chosen.holds k below in
          subst (λ (l : List Played). AreSessions export (cell.limit ≤ length deeds) l) is
          (AreSessions-spend export (pair.new.left_by ≢ None)
          (cell.limit ≤ length deeds) pair.worked.played (full k below)
          (subst (λ (e : Export). AreSessions e (pair.new.left_by ≢ None) pair.worked.played)
          export-is (sessions-numbered (export_of shape 0) (pair.new.left_by ≢ None) k
          pair.worked.played pair.worked.served.sessions))))

      one-served : (k : ℕ) (link : L) → k < length olds →
          IsServed (length olds) k (state (slice_index_or olds k link))
          (state (slice_index_or (each_of (λ (w : Worker D L). w.link) after) k link))
          (slice_index_or (each_of (λ (w : Worker D L). w.ends.items) after) k [])
          (slice_index_or (each_of (λ (w : Worker D L). w.standing) after) k Live)
          (all_of each links)
      one-served k link inside =
          let below : k < links = omega (arith, inside, done.count) in
          let within : k < length after = omega (arith, below, as-many) in
          let (pair, is) = chosen.holds k below in
          let one = is-served links k (export_of shape k) (pair.new.left_by ≢ None)
          (state pair.old.link) (state pair.new.link) pair.new.ends.items pair.new.standing
          pair.worked.played (all_of each links) refl
          (all-of_link each own links k below ∙ sym is) pair.worked.served in
          subst (λ (n : ℕ). IsServed n k (state (slice_index_or olds k link))
          (state (slice_index_or (each_of (λ (w : Worker D L). w.link) after) k link))
          (slice_index_or (each_of (λ (w : Worker D L). w.ends.items) after) k [])
          (slice_index_or (each_of (λ (w : Worker D L). w.standing) after) k Live)
          (all_of each links)) (sym done.count)
          (subst (λ (l : L). IsServed links k (state l)
          (state (slice_index_or (each_of (λ (w : Worker D L). w.link) after) k link))
          (slice_index_or (each_of (λ (w : Worker D L). w.ends.items) after) k [])
          (slice_index_or (each_of (λ (w : Worker D L). w.standing) after) k Live)
          (all_of each links)) (pair.link_is link)
          (subst (λ (l : L). IsServed links k (state pair.old.link) (state l)
          (slice_index_or (each_of (λ (w : Worker D L). w.ends.items) after) k [])
          (slice_index_or (each_of (λ (w : Worker D L). w.standing) after) k Live)
          (all_of each links))
          (sym (each_of-at (λ (w : Worker D L). w.link) after all-some k pair.new link within
          pair.at))
          (subst (λ (e : List SessionEnd). IsServed links k (state pair.old.link)
          (state pair.new.link) e
          (slice_index_or (each_of (λ (w : Worker D L). w.standing) after) k Live)
          (all_of each links))
          (sym (each_of-at (λ (w : Worker D L). w.ends.items) after all-some k pair.new []
          within pair.at))
          (subst (λ (s : Standing). IsServed links k (state pair.old.link) (state pair.new.link)
          pair.new.ends.items s (all_of each links))
          (sym (each_of-at (λ (w : Worker D L). w.standing) after all-some k pair.new Live
          within pair.at)) one))))

      served : AreServed state olds (each_of (λ (w : Worker D L). w.link) after)
          (each_of (λ (w : Worker D L). w.ends.items) after)
          (each_of (λ (w : Worker D L). w.standing) after) (all_of each links)
      served = record {
        links = each_of-length (λ (w : Worker D L). w.link) after all-some ∙ (as-many
            ∙ sym done.count);
        lists = each_of-length (λ (w : Worker D L). w.ends.items) after all-some ∙ (as-many
            ∙ sym done.count);
        count = each_of-length (λ (w : Worker D L). w.standing) after all-some ∙ (as-many
            ∙ sym done.count);
        each = one-served;
        none_other = all-of_links each own (length olds) links (omega (arith, done.count));
      }

      last-lane : suc links ≡ length start.lanes
      last-lane = let many = done.lanes in omega (arith, many)

      -- the worker's calls are those on the last lane
      led-calls : (one : Led D) → led ≡ Some one → calls_on links v ≡ (known one.pass).calls
      led-calls one is =
          let has = subst (λ (l : Option (Led D)). IfSome l (HasLed cell links (Some start))) is
          done.has_led in
          calls-led v after one links
          (subst (λ (l : Option (Led D)). IsJoined v after l) is done.joined) named
          (omega (arith, as-many)) has.worker.name

      led-answered : (one : Led D) (is : led ≡ Some one) → (answers : List WorkAnswer)
          × AreAnswered links (calls_on links v) answers × AreAnswers one.end answers
          × (Contains answers (Ended Spent) → cell.limit ≤ length deeds)
      led-answered one is =
          let has = subst (λ (l : Option (Led D)). IfSome l (HasLed cell links (Some start))) is
          done.has_led in
          let knows = subst (λ (l : Option (Led D)). IfSome l
          (λ led. length (known led.pass).history ≤ length v.history)) is done.knows_led in (
            has.answers,
            subst (λ (cs : List (Call SharedEvent SharedOutcome)). AreAnswered links cs has.answers)
                (sym (led-calls one is)) has.answered,
            has.ended,
            (λ told. let full = has.full told in omega (arith, full, knows, long)),
          )

      no-worker : led ≡ None → works_over deeds ≡ []
      no-worker is = done.serves.worked links last-lane
          ∙ (ap works_in (calls-none v after links
          (subst (λ (l : Option (Led D)). IsJoined v after l) is done.joined) named
          (omega (arith, as-many))) ∙ no-works)

      spent-by : (one : Led D) → led ≡ Some one → one.end ≡ Spent
          → (cell.limit ≤ length deeds) × WentOn (works_over deeds)
      spent-by one is spent =
          let (answers, are, all, full) = led-answered one is in (
            spent-full cell.limit links (calls_on links v) answers one.end deeds spent done.limit are
                all full (done.serves.worked links last-lane),
            done.spent answers are
                (subst (λ (e : WorkerEnd). AreAnswers e answers) spent all),
          )

      ended-by : (one : Led D) → led ≡ Some one → one.end ≢ Spent → EndsBy one.end deeds
      ended-by one is other =
          let (answers, are, all, full) = led-answered one is in
          done.ended answers one.end are all other

      is-led : IsLedSo links cell.limit start deeds led
      is-led = record {
        last = last-lane;
        none = no-worker;
        ended = ended-by;
        spent = spent-by;
      }

      are : AreDeeds (reading_of (some-reading start done.shared).0) (seals_at sealed opened start)
          start deeds
      are = let (sizes, read) = some-reading start done.shared in done.serves.are sizes read

      on-last : (o : Open) → open_at final.lanes links ≡ Some o → cell.limit ≤ length deeds
      on-last o at = under-way-last links cell.limit start deeds led is-led
          (reading_of (some-reading start done.shared).0) (seals_at sealed opened start) are
          (done.shared.idle links) o
          (ap (λ (s : State (Keys Context)). open_at s.lanes links) done.serves.last ∙ at)

      left : (lane : ℕ) (o : Open) → open_at final.lanes lane ≡ Some o
          → IsLeft start cell.limit (length deeds) lane o (all_of each links)
      left lane o at = elim (below-or-not lane links) [
        | inl below ↦
            let client : IsClient start lane = (let many = done.lanes in omega (arith, below, many)) in
            let (pair, same) = chosen.holds lane below in
            let its = left-on state cell links shape start olds before after v led
            done.joined named lane (omega (arith, below, as-many)) pair o
            (sym (done.serves.under_way lane client) ∙ at) in
            record {
              full = full lane below its.0;
              its = λ is_client. subst (λ (l : List Played). HasNumber o.session l)
                  (same ∙ sym (all-of_link each own links lane below)) its.1;
            }
        | inr beyond ↦ elim (same_or_not lane links) [
          | inl same ↦ record {
            full = on-last o (subst (λ (k : ℕ). open_at final.lanes k ≡ Some o) same at);
            its = λ is_client. absurd (let many = done.lanes in
                omega (arith, is_client, beyond, many));
          }
          | inr differ ↦
              let kept = done.same.lanes in
              let many = done.lanes in
              absurd (no-open (open_at final.lanes lane) o
              (none-beyond final.lanes lane (omega (arith, kept, many, beyond, differ))) at)
        ]
      ]

      in-turn : length olds ≡ 1 → untagged merged.history ≡ operations_of (all_of each links)
      unfolding all_of
      in-turn one =
          let alone : links ≡ 1 = sym done.count ∙ one in
          ap (λ (h : List Tagged). untagged h) (merged.alone 0 (on-first
          (reading_of (some-reading start done.shared).0) (seals_at sealed opened start) start deeds
          (done.lanes ∙ ap (λ (n : ℕ). n + 1) alone) are))
          ∙ (untagged-tagged_of (each 0)
          ∙ ap (λ (n : ℕ). operations_of (all_of each n)) (sym alone))

      pub all-served : Serving.HasServedBeside state (seals_at sealed opened start) start final v
          cell.limit olds (each_of (λ (w : Worker D L). w.link) after)
          (each_of (λ (w : Worker D L). w.ends.items) after)
          (each_of (λ (w : Worker D L). w.standing) after) (end_of led)
      all-served = record {
        deeds = deeds;
        told = record { start_is = done.begun; tells = done.serves.tells };
        operations = merged.history;
        did = did;
        same = done.same;
        armed = done.serves.armed;
        read = done.serves.read;
        kept = done.serves.kept;
        played = all_of each links;
        sessions = sessions;
        served = served;
        each = each-merged links done.some each merged.history numbers merged.merged;
        known = known-merged links done.some each merged.history merged.merged;
        in_turn = in-turn;
        left = left;
        worked = led-worked links cell.limit start deeds led is-led;
      }
