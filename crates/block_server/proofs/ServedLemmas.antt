-- What the workers of all links have served, once their passes are joined and the cell is closed.
use Rattle.std.proofs.Common.{◌≡◌, ◌≢◌, inl, inr, ℕ, suc, ◌<◌, ◌≤◌, List, [], ◌∷◌}
use Rattle.std.proofs.Common.{Option, Some, None, length, slice_index_or, refl, sym, ◌∙◌, ap, subst}
use Rattle.std.proofs.Common.{arith}
use Rattle.bays.specs.Stories.{LinkState}
use Rattle.lane_plan.specs.declared.plan.Shape.{Shape}
use Rattle.shared_volume.specs.Ciphers.{Context, opened, sealed}
use Rattle.shared_volume.specs.Histories.{Tells, alone_by}
use Rattle.shared_volume.specs.Lanes.{HasAnswered, Knowing, seals_at}
use Rattle.shared_volume.specs.Serving.{calls_on}
use Rattle.shared_volume.specs.declared.asking.SharedEvent.{SharedEvent}
use Rattle.shared_volume.specs.declared.asking.SharedOutcome.{SharedOutcome}
use Rattle.shared_volume.specs.Works.{VolumeCell}
use Rattle.volume_cell.specs.Passes.{known}
use Rattle.volume_cell.specs.declared.history.Call.{Call}
use Rattle.volume_cell.specs.declared.history.Entry.{Entry}
use Rattle.volume_machine.specs.Deeds.{Deed}
use Rattle.volume_machine.specs.States.{State}
use Rattle.volume_machine.specs.declared.keys.Keys.{Keys}
use Rattle.volume_machine.specs.declared.open.Open.{Open}
use Rattle.block_server.specs.Passing.{KnowsAll}
use Rattle.block_server.specs.Ports.{IsLeftBy}
use Rattle.block_server.specs.Sessions.{HasNumber, LeavesBy, tagged_of}
use Rattle.block_server.specs.Workers.{AreReady, HasWorked, HaveWorked, IsReady}
use Rattle.block_server.specs.declared.leading.Led.{Led}
use Rattle.block_server.specs.declared.worker.Worker.{Worker}
use Rattle.block_server.proofs.AccountLemmas.{AreNamed, IsJoined, calls-at}
use Rattle.block_server.proofs.SlotLemmas.{same-some, some-and}

none-some : (o : Open) → None ≡ Some o → ⊥
none-some o same = absurd (cc)

pub tells-length : {K : Type 0} (lanes : ℕ) (history : List (Entry SharedEvent SharedOutcome))
    (deeds : List (Deed K)) → Tells lanes history deeds → length deeds ≡ length history
unfolding Tells
tells-length lanes [] [] tells = refl
tells-length lanes [] (one ∷ deeds) tells = absurd tells
tells-length lanes (entry ∷ history) [] tells = absurd tells
tells-length lanes (entry ∷ history) (one ∷ deeds) tells =
    ap (λ (n : ℕ). suc n) (tells-length lanes history deeds tells.1)

module _ {D P L : Type 0} (state : L → LinkState) (cell : VolumeCell D Context P) (links : ℕ) (shape : Shape)
  where
    -- one worker, before and after
    pub record Pair (start : State (Keys Context)) (olds : List L)
        (before after : List (Option (Worker D L))) (k : ℕ) : Type 0 where
      pub old : Worker D L
      pub new : Worker D L
      pub at : slice_index_or after k None ≡ Some new
      pub ready : IsReady state cell links shape k old
      pub link_is : (link : L) → old.link ≡ slice_index_or olds k link
      pub start_is : (known old.lane.pass).start ≡ Some start
      pub worked : HasWorked state cell links shape k old new

    pub pair-at : (start : State (Keys Context)) (olds : List L)
        (before after : List (Option (Worker D L)))
        → AreReady state cell links shape (Some start) olds before
        → HaveWorked state cell links shape before after
        → (k : ℕ) → k < length olds → Pair start olds before after k
    pair-at start olds before after ready worked k below =
        let inside : k < length before = omega (arith, below, ready.count) in
        let (old, at, both) = some-and (slice_index_or before k None) _
        (worked.each k None inside) in
        let (new, there, has) = some-and (slice_index_or after k None) _ both in
        record {
          old = old;
          new = new;
          at = there;
          ready = (was old at).0;
          link_is = λ link. (is old at link);
          start_is = (was old at).1;
          worked = has;
        }
      where
        was : (old : Worker D L) → slice_index_or before k None ≡ Some old
            → IsReady state cell links shape k old
            × ((known old.lane.pass).start ≡ Some start)
        was old at =
            let (one, here, facts) = some-and (slice_index_or before k None) _
            (ready.each k old.link None below) in
            let same : one ≡ old = same-some one old (slice_index_or before k None) here at in (
              subst (λ (w : Worker D L). IsReady state cell links shape k w)
                  same facts.0,
              subst (λ (w : Worker D L). (known w.lane.pass).start ≡ Some start) same facts.2,
            )

        is : (old : Worker D L) → slice_index_or before k None ≡ Some old → (link : L)
            → old.link ≡ slice_index_or olds k link
        is old at link =
            let (one, here, facts) = some-and (slice_index_or before k None) _
            (ready.each k link None below) in
            let same : one ≡ old = same-some one old (slice_index_or before k None) here at in
            subst (λ (w : Worker D L). w.link ≡ slice_index_or olds k link) same facts.1

    module _ (start : State (Keys Context)) (olds : List L)
        (before after : List (Option (Worker D L))) (v : Knowing Context) (led : Option (Led D))
        (joined : IsJoined v after led)
        (named : AreNamed 0 after) (k : ℕ) (inside : k < length after)
        (pair : Pair start olds before after k)
      where
        start-after : (known pair.new.lane.pass).start ≡ Some start
        start-after = pair.worked.same.start ∙ pair.start_is

        its-calls : calls_on k v ≡ (known pair.new.lane.pass).calls
        its-calls = calls-at v after led k pair.new joined named inside pair.at

        -- what was answered on its lane
        pub answered-by : HasAnswered (seals_at sealed opened start) start [] (calls_on k v)
            (tagged_of pair.worked.played)
        answered-by =
            subst (λ (calls : List (Call SharedEvent SharedOutcome)). HasAnswered
            (seals_at sealed opened start) start [] calls (tagged_of pair.worked.played))
            (sym its-calls)
            (subst (λ (calls : List (Call SharedEvent SharedOutcome)). HasAnswered
            (seals_at sealed opened start) start calls (known pair.new.lane.pass).calls
            (tagged_of pair.worked.played)) pair.ready.calls
            (pair.worked.answers start pair.start_is))

        -- where its port was left without an answer, the history is full
        pub full-by : KnowsAll v after → pair.new.left_by ≢ None
            → cell.limit ≤ length v.history
        full-by knows left = by pair.new.left_by refl
          where
            by : (is : Option ℕ) → pair.new.left_by ≡ is → cell.limit ≤ length v.history
            by None is = absurd (left is)
            by (Some session) is =
                let stands = subst (λ (l : Option ℕ). IsLeftBy sealed opened cell.limit
                (known pair.new.lane.pass) l) is pair.worked.usable.stands in
                let (one, at, long) = some-and (slice_index_or after k None) _ (knows k None inside)
                in
                let same : one ≡ pair.new =
                same-some one pair.new (slice_index_or after k None) at pair.at in
                let long' : length (known pair.new.lane.pass).history ≤ length v.history =
                subst (λ (w : Worker D L). length (known w.lane.pass).history
                ≤ length v.history) same long in
                omega (arith, stands.1, long')

        -- what is under way on its lane is of a session that left the port so
        pub left-on : (o : Open)
            → (alone_by (seals_at sealed opened start) start (calls_on k v)).operation ≡ Some o
            → (pair.new.left_by ≢ None) × HasNumber o.session pair.worked.played
        left-on o is = by pair.new.left_by refl
          where
            under-way : (alone_by (seals_at sealed opened start) start
                (known pair.new.lane.pass).calls).operation ≡ Some o
            under-way =
                ap (λ (calls : List (Call SharedEvent SharedOutcome)). (alone_by (seals_at sealed opened start)
                start calls).operation) (sym its-calls) ∙ is

            number : (session : ℕ) → pair.new.left_by ≡ Some session
                → LeavesBy pair.worked.played None pair.new.left_by
                → HasNumber session pair.worked.played
            number session left (inl none) = absurd (cc)
            number session left (inr some) =
                subst (λ (n : ℕ). HasNumber n pair.worked.played)
                (same-some some.1.0 session pair.new.left_by some.1.1 left) some.1.2

            by : (left : Option ℕ) → pair.new.left_by ≡ left
                → (pair.new.left_by ≢ None) × HasNumber o.session pair.worked.played
            by None left =
                let rests = subst (λ (l : Option ℕ). IsLeftBy sealed opened cell.limit
                (known pair.new.lane.pass) l) left pair.worked.usable.stands in
                let none = rests start start-after in
                absurd (none-some o (sym none ∙ under-way))
            by (Some session) left =
                let stands = subst (λ (l : Option ℕ). IsLeftBy sealed opened cell.limit
                (known pair.new.lane.pass) l) left pair.worked.usable.stands in
                elim stands.0 [
                  | inl rests ↦ let none = rests start start-after in
                      absurd (none-some o (sym none ∙ under-way))
                  | inr only ↦
                      let (p, at, its) = only start start-after in
                      let same : p ≡ o = same-some p o _ at under-way in (
                        (λ none. absurd (some-none session (sym left ∙ none))),
                        subst (λ (n : ℕ). HasNumber n pair.worked.played)
                            (sym its ∙ ap (λ (q : Open). q.session) same)
                            (number session left pair.worked.left),
                      )
                ]
              where
                some-none : (n : ℕ) → Some n ≡ None → ⊥
                some-none n same = absurd (cc)
