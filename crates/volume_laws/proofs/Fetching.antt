-- Edges that are read: what holds between events goes on to hold.
use Rattle.std.proofs.Common.{List, Some, [], ap, arith, inl, inr, length, refl, slice_index_or}
use Rattle.std.proofs.Common.{sym, ℕ, ◌++◌, ◌+◌, ◌<◌, ◌∙◌, ◌∷◌, ◌≡◌, ◌≢◌}
use Rattle.std.proofs.lemmas.Bool.{cases_eq as same_or_not, cases_lt}
use Rattle.std.proofs.lemmas.List.{get_or_append_left, get_or_push, length_push}
use Rattle.plain_disk.specs.Plain.{Block}
use Rattle.sector_disk.specs.DiskViews.Views.{IsUnchanged, View}
use Rattle.volume_machine.proofs.EdgeBlocks.{edge_touched}
use Rattle.volume_machine.specs.Edges.{InPlain, edge_at, with_edge}
use Rattle.volume_machine.specs.Pieces.{fetching, place_in, side_in}
use Rattle.volume_machine.specs.Runs.{plain_edge, with_plain}
use Rattle.volume_machine.specs.Seals.{AreLawful, Seals}
use Rattle.volume_machine.specs.Sound.{IsSound}
use Rattle.volume_machine.specs.States.{State, open_at}
use Rattle.volume_machine.specs.Steps.{CanFetch, GetsEdge, Holds}
use Rattle.volume_machine.specs.declared.open.Open.{Open}
use Rattle.volume_laws.proofs.Admits.{plain-other, plain-own}
use Rattle.volume_laws.proofs.Invariant.{IsRight, LaneKnows, Logic, Shown, goes_stays, governed_back}
use Rattle.volume_laws.proofs.Invariant.{logic_kept, shown_kept, writes_go_on}
use Rattle.volume_laws.proofs.Reading.{AreLive, never_both, right_read, tried_apart, tries_nothing}
use Rattle.volume_laws.proofs.Reading.{writes_lock}

-- what the lanes know in plain once an edge was read
abbrev pub now_fetched : {K : Type 0} → State K → Seals → (ℕ → InPlain) → ℕ → ℕ → List ℕ → ℕ
    → InPlain
now_fetched old seals plain lane which bytes =
    with_plain plain lane (with_edge (plain lane) (plain_edge seals old lane which bytes))

-- the edge in plain
abbrev pub opened_edge_of : {K : Type 0} → State K → Seals → Open → ℕ → List ℕ → List ℕ
opened_edge_of old seals o which bytes =
    seals.opened (side_in old.map (edge_at old.map.atom o.ask which))
    (edge_at old.map.atom o.ask which) bytes

module _ {K : Type 0} (old : State K) (seals : Seals) (plain : ℕ → InPlain) (lane which : ℕ)
    (bytes : List ℕ) where
  fetched_bytes : (now_fetched old seals plain lane which bytes lane).bytes ≡ (plain lane).bytes
  fetched_bytes = ap (λ p. p.bytes)
      (plain-own plain lane (with_edge (plain lane) (plain_edge seals old lane which bytes)))

  fetched_edges : {o : Open} → open_at old.lanes lane ≡ Some o
      → (now_fetched old seals plain lane which bytes lane).edges
      ≡ (plain lane).edges ++ opened_edge_of old seals o which bytes ∷ []
  fetched_edges at = ap (λ p. p.edges)
      (plain-own plain lane (with_edge (plain lane) (plain_edge seals old lane which bytes)))
      ∙ rw at refl

  fetched_other : (k : ℕ) → k ≢ lane → now_fetched old seals plain lane which bytes k ≡ plain k
  fetched_other = plain-other plain lane
      (with_edge (plain lane) (plain_edge seals old lane which bytes))

module _ {K : Type 0} {old new : State K} {seals : Seals} {plain : ℕ → InPlain} {left : List Block}
    {view : View} {lane : ℕ} {o : Open} {which : ℕ} {bytes : List ℕ}
    (at : open_at old.lanes lane ≡ Some o) (can : CanFetch old.map which o)
    (is : GetsEdge old lane o which bytes new) where
  pub shown_fetched : {next : View} → IsUnchanged view next → Shown old seals plain left view
      → Shown new seals (now_fetched old seals plain lane which bytes) left next
  shown_fetched same = shown_kept (goes_stays is.goes)
      (writes_go_on is.goes.map is.goes.lane_is
      (fetched_other old seals plain lane which bytes) at refl refl refl refl
      (fetched_bytes old seals plain lane which bytes))
      (λ whole. (is.was, same.current)) same.candidates

  module _ (lawful : AreLawful old.map.atom seals) (some : 0 < old.map.atom)
      (shown : Shown old seals plain left view) (live : AreLive old o) (holds : Holds old lane)
      (content : bytes ≡ view.current (place_in old.map (edge_at old.map.atom o.ask which)))
      (logic : Logic old plain left) where
    -- the edge holds what the plain disk's block does: nobody has tried it
    edge_right : IsRight left (edge_at old.map.atom o.ask which)
        (opened_edge_of old seals o which bytes)
    edge_right =
        let touched = edge_touched old.map.atom o.ask which some can.some in
        let range = (logic.sound.under_way lane o at).range_is in
        right_read (edge_at old.map.atom o.ask which) lawful logic shown is.was
        (live (edge_at old.map.atom o.ask which) (rw range touched.from) (rw range touched.to))
        (λ other value tried. elim (same_or_not lane other) [
          | inl same ↦ tries_nothing logic some at (can.begins, can.goes_on)
              (edge_at old.map.atom o.ask which) value (rw (← same) at tried)
          | inr differ ↦ tried_apart lane other (edge_at old.map.atom o.ask which) logic some differ
              at (writes_lock o.ask can.writes) holds (rw range touched.from) (rw range touched.to)
              tried
        ]) content

    knows_fetched : LaneKnows new (now_fetched old seals plain lane which bytes) left lane
        (fetching o)
    knows_fetched =
        let knows = logic.lanes lane o at in
        let exact = knows.exact can.goes_on in
        record {
          count = knows.count;
          are = rw (is.goes.map, fetched_bytes old seals plain lane which bytes) knows.are;
          least = knows.least;
          most = knows.most;
          exact = knows.exact;
          holds = λ any. rw is.goes.entries_are holds;
          reads = λ reading k below. absurd (never_both o.ask reading can.writes);
          beside = λ b from to of. knows.beside b from to
              (governed_back b (goes_stays is.goes) of);
          kept = knows.kept;
          breaks = λ writes failed any. absurd (omega (arith, exact, can.begins, any));
          edges = rw (is.goes.map, fetched_edges old seals plain lane which bytes at) (record {
            size = length_push (plain lane).edges (opened_edge_of old seals o which bytes)
                ∙ ap (λ n. n + 1) knows.edges.size;
            few = omega (arith, can.next, can.some);
            all = λ writes any. absurd (omega (arith, exact, can.begins, any));
            are = λ k below. elim (cases_lt k o.fetched) [
              | inl lt ↦ rw (get_or_append_left (plain lane).edges
                  (opened_edge_of old seals o which bytes ∷ []) [] k
                  (omega (arith, lt, knows.edges.size))) (knows.edges.are k lt)
              | inr from ↦
                  let same : k ≡ which = omega (arith, from, below, can.next) in
                  rw (
                    same,
                    get_or_push (plain lane).edges (opened_edge_of old seals o which bytes)
                        [] which (knows.edges.size ∙ sym can.next),
                  ) edge_right
            ];
          });
          edges_hold = λ any. rw is.goes.entries_are holds;
        }

    pub logic_fetched : IsSound new
        → Logic new (now_fetched old seals plain lane which bytes) left
    logic_fetched sound = logic_kept is.goes (λ whole. is.was) sound
        (fetched_other old seals plain lane which bytes)
        (λ k other held. rw is.goes.entries_are held)
        (λ one same. let e : one ≡ fetching o = cc in rw e knows_fetched) logic
