-- What deeds answer goes by their own pieces alone, whatever the lanes had in plain before.
use Rattle.std.proofs.Common.{◌≡◌, inl, inr, ℕ, suc, ◌<◌, List, [], ◌∷◌, ◌++◌, Option, Some, None}
use Rattle.std.proofs.Common.{IsSome, length, refl, sym, ◌∙◌, ap, subst}
use Rattle.volume_laws.proofs.BesideLanes.Beside.{work-some}
use Rattle.volume_laws.proofs.BesideLanes.ClientsLeft.{clients_left, stays_same}
use Rattle.volume_laws.specs.BesideLanes.Clients.{IsLeftBeside}
use Rattle.volume_laws.specs.BesideLanes.Lanes.{IsKept}
use Rattle.volume_laws.proofs.{Admits.plain-own}
use Rattle.volume_laws.proofs.LanesAlone.{other_plain}
use Rattle.volume_laws.proofs.VolumesKept.{event_in_order, step_in_order}
use Rattle.volume_machine.proofs.EventEffects.{event_effects}
use Rattle.volume_machine.proofs.Locking.{same_or_not}
use Rattle.volume_machine.proofs.Soundness.{sound_kept}
use Rattle.volume_machine.specs.Alone.{open_after}
use Rattle.volume_machine.specs.Answers.{answers}
use Rattle.volume_machine.specs.Deeds.{Act, AreDeeds, Deed, Does, answered_of, answered_over}
use Rattle.volume_machine.specs.Deeds.{client, plain_by, worker}
use Rattle.volume_machine.specs.Edges.{InPlain, nothing, with_bytes, with_edge}
use Rattle.volume_machine.specs.Events.{Event, Outcome, admits, asks, reads, fetches, writes, settles}
use Rattle.volume_machine.specs.Events.{finishes, lane_of, got, done, device}
use Rattle.volume_machine.specs.Readings.{Reading}
use Rattle.volume_machine.specs.Runs.{answered_by, no_plain, plain_after, plain_edge, plain_piece}
use Rattle.volume_machine.specs.Seals.{Seals}
use Rattle.volume_machine.specs.States.{IsClient, IsIdle, State, open_at}
use Rattle.volume_machine.specs.Steps.{Step}
use Rattle.volume_machine.specs.declared.open.Open.{Open}

-- what lanes have in plain agrees where a lane of clients has an operation under way
abbrev Agree : {K : Type 0} → State K → (ℕ → InPlain) → (ℕ → InPlain) → Type 0
Agree state p q = (lane : ℕ) (o : Open) → IsClient state lane → open_at state.lanes lane ≡ Some o
    → p lane ≡ q lane

-- an event of a lane that has none answers the same whatever it had
none-answers : (atom : ℕ) (event : Event) (outcome : Outcome) (p q : InPlain)
    → answers atom event outcome None p ≡ answers atom event outcome None q
none-answers atom (admits lane session ask) outcome p q = refl
none-answers atom (asks lane) outcome p q = refl
none-answers atom (reads lane len) outcome p q = refl
none-answers atom (fetches lane which) outcome p q = refl
none-answers atom (writes lane sealed) outcome p q = refl
none-answers atom (settles lane) outcome p q = refl
none-answers atom (finishes lane) outcome p q = refl

module _ {K : Type 0} (seals : Seals) (old : State K) (p q : ℕ → InPlain) (agree : Agree old p q)
  where
    same-answers : (event : Event) (outcome : Outcome) → IsClient old (lane_of event)
        → answered_by old event outcome p ≡ answered_by old event outcome q
    unfolding answered_by
    same-answers event outcome client_is = by (open_at old.lanes (lane_of event)) refl
      where
        by : (was : Option Open) → open_at old.lanes (lane_of event) ≡ was
            → answers old.map.atom event outcome (open_at old.lanes (lane_of event))
            (p (lane_of event))
            ≡ answers old.map.atom event outcome (open_at old.lanes (lane_of event))
            (q (lane_of event))
        by None at =
            rw at (none-answers old.map.atom event outcome (p (lane_of event)) (q (lane_of event)))
        by (Some o) at = ap
            (λ x. answers old.map.atom event outcome (open_at old.lanes (lane_of event)) x)
            (agree (lane_of event) o client_is at)

    own-agrees : (event : Event) (outcome : Outcome) (was : Option Open) (o : Open)
        → IsClient old (lane_of event) → open_at old.lanes (lane_of event) ≡ was
        → open_after old.map.atom event outcome was ≡ Some o
        → plain_after seals old event outcome p (lane_of event)
        ≡ plain_after seals old event outcome q (lane_of event)
    unfolding plain_after
    own-agrees (admits lane session ask) outcome was o client_is at now =
        plain-own p lane nothing ∙ sym (plain-own q lane nothing)
    own-agrees (asks lane) outcome None o client_is at now = absurd (cc)
    own-agrees (asks lane) outcome (Some x) o client_is at now = agree lane x client_is at
    own-agrees (reads lane len) outcome None o client_is at now = absurd (cc)
    own-agrees (reads lane len) (got sealed) (Some x) o client_is at now =
        plain-own p lane (with_bytes (p lane) (plain_piece seals old lane sealed))
        ∙ (ap (λ had. with_bytes had (plain_piece seals old lane sealed)) (agree lane x client_is at)
        ∙ sym (plain-own q lane (with_bytes (q lane) (plain_piece seals old lane sealed))))
    own-agrees (reads lane len) _ (Some x) o client_is at now = agree lane x client_is at
    own-agrees (fetches lane which) outcome None o client_is at now = absurd (cc)
    own-agrees (fetches lane which) (got sealed) (Some x) o client_is at now =
        plain-own p lane (with_edge (p lane) (plain_edge seals old lane which sealed))
        ∙ (ap (λ had. with_edge had (plain_edge seals old lane which sealed)) (agree lane x client_is at)
        ∙ sym (plain-own q lane (with_edge (q lane) (plain_edge seals old lane which sealed))))
    own-agrees (fetches lane which) _ (Some x) o client_is at now = agree lane x client_is at
    own-agrees (writes lane sealed) outcome None o client_is at now = absurd (cc)
    own-agrees (writes lane sealed) done (Some x) o client_is at now =
        plain-own p lane (with_bytes (p lane) (plain_piece seals old lane sealed))
        ∙ (ap (λ had. with_bytes had (plain_piece seals old lane sealed)) (agree lane x client_is at)
        ∙ sym (plain-own q lane (with_bytes (q lane) (plain_piece seals old lane sealed))))
    own-agrees (writes lane sealed) device (Some x) o client_is at now =
        plain-own p lane (with_bytes (p lane) (plain_piece seals old lane sealed))
        ∙ (ap (λ had. with_bytes had (plain_piece seals old lane sealed)) (agree lane x client_is at)
        ∙ sym (plain-own q lane (with_bytes (q lane) (plain_piece seals old lane sealed))))
    own-agrees (writes lane sealed) _ (Some x) o client_is at now = agree lane x client_is at
    own-agrees (settles lane) outcome None o client_is at now = absurd (cc)
    own-agrees (settles lane) outcome (Some x) o client_is at now = agree lane x client_is at
    own-agrees (finishes lane) outcome was o client_is at now = absurd (cc)

    agree-step : (new : State K) (event : Event) (outcome : Outcome) → IsClient old (lane_of event)
        → Step old event outcome new
        → Agree new (plain_after seals old event outcome p) (plain_after seals old event outcome q)
    agree-step new event outcome client_is step = λ lane o on now.
        let goes = event_effects old new event outcome step in
        elim (same_or_not lane (lane_of event)) [
          | inl own ↦ subst
              (λ k. plain_after seals old event outcome p k
              ≡ plain_after seals old event outcome q k) (sym own)
              (own-agrees event outcome (open_at old.lanes (lane_of event)) o client_is refl
              (sym goes.lane_is.own ∙ (ap (λ k. open_at new.lanes k) (sym own) ∙ now)))
          | inr other ↦ other_plain seals old p event outcome lane other
              ∙ (agree lane o (subst (λ (n : ℕ). suc lane < n) goes.lane_is.count on)
              (sym (goes.lane_is.others lane other) ∙ now)
              ∙ sym (other_plain seals old q event outcome lane other))
        ]

    -- a step of the worker leaves lanes of clients their operations
    agree-left : (new : State K) → ((lane : ℕ) → IsClient old lane → IsLeftBeside old new lane)
        → length new.lanes ≡ length old.lanes → Agree new p q
    agree-left new left count = λ lane o on now.
        let was : IsClient old lane = subst (λ (n : ℕ). suc lane < n) count on in
        agree lane o was (sym (left lane was).own ∙ now)

-- what a deed leaves
record Kept {K : Type 0} (reading : Reading) (seals : Seals) (old : State K) (act : Act)
    (new : State K) (p q : ℕ → InPlain) : Type 0 where
  kept : IsKept reading new
  agree : Agree new (plain_by seals old act p) (plain_by seals old act q)
  same : answered_of old act p ≡ answered_of old act q

deed-kept : {K : Type 0} (reading : Reading) (seals : Seals) (old : State K) (act : Act)
    (new : State K) (p q : ℕ → InPlain) → Agree old p q → IsKept reading old
    → Does reading seals old act new → Kept reading seals old act new p q
deed-kept reading seals old (client event outcome) new p q agree kept (meets, step) =
    let goes = event_effects old new event outcome step in record {
      kept = record {
        sound = sound_kept old new event outcome kept.sound meets step;
        order = λ some. event_in_order reading old new event outcome
            (kept.order (subst IsSome goes.work some)) meets step;
      };
      agree = agree-step seals old p q agree new event outcome meets.client step;
      same = same-answers seals old p q agree event outcome meets.client;
    }
deed-kept reading seals old (worker worked) new p q agree kept step =
    let order = kept.order (work-some step) in
    let next = step_in_order reading seals old new worked order step in record {
      kept = record { sound = next.sound; order = λ some. next };
      agree = agree-left seals old p q agree new
          (λ lane on. clients_left reading seals old new worked lane order step on)
          (stays_same reading seals old new worked order step).lanes;
      same = refl;
    }

same-answered : {K : Type 0} (reading : Reading) (seals : Seals) (old : State K) (p q : ℕ → InPlain)
    (deeds : List (Deed K)) → Agree old p q → IsKept reading old → AreDeeds reading seals old deeds
    → answered_over seals old p deeds ≡ answered_over seals old q deeds
unfolding answered_over AreDeeds
same-answered reading seals old p q [] agree kept are = refl
same-answered reading seals old p q (one ∷ rest) agree kept (does, are) =
    let left = deed-kept reading seals old one.act one.after p q agree kept does in
    ap (λ xs. xs ++ answered_over seals one.after (plain_by seals old one.act p) rest) left.same
    ∙ ap (λ xs. answered_of old one.act q ++ xs)
    (same-answered reading seals one.after (plain_by seals old one.act p)
    (plain_by seals old one.act q) rest left.agree left.kept are)

-- deeds from a volume on which nothing is under way
pub idle-answered : {K : Type 0} (reading : Reading) (seals : Seals) (start : State K)
    (plain : ℕ → InPlain) (deeds : List (Deed K)) → IsIdle start → IsKept reading start
    → AreDeeds reading seals start deeds
    → answered_over seals start plain deeds ≡ answered_over seals start no_plain deeds
idle-answered reading seals start plain deeds idle kept are =
    same-answered reading seals start plain no_plain deeds
    (λ lane o on at. let none = idle lane in absurd (cc)) kept are
