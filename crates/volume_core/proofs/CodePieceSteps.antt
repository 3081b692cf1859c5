-- What the calls on a piece find, and the steps that they are.
use Rattle.std.proofs.Common.{List, Some, ap, arith, length, length-take-le, subst, take, ℕ, ◌||◌}
use Rattle.std.proofs.Common.{◌<◌, ◌≡◌, ◌≤◌}
use Rattle.segment_map.specs.declared.map.Map.{Map}
use Rattle.segment_map.specs.declared.map.Piece.{Piece}
use Rattle.volume_machine.specs.Effects.{is_fault}
use Rattle.volume_machine.proofs.EdgeBlocks.{edge_touched}
use Rattle.volume_machine.specs.Asks.{range_of}
use Rattle.volume_machine.specs.Edges.{edge_at, edges_of}
use Rattle.volume_machine.specs.Events.{Outcome, broken, device, done, fetches, got, reads, settles}
use Rattle.volume_machine.specs.Events.{writes}
use Rattle.volume_machine.specs.Pieces.{ArePieceBytes, IsPieceOf, rest_of, size_of_piece}
use Rattle.volume_machine.specs.States.{State, open_at}
use Rattle.volume_machine.specs.Sound.{IsSound}
use Rattle.volume_machine.specs.Steps.{CanFetch, CanRead, CanWrite, EdgeStep, Goes, Meets, ReadStep}
use Rattle.volume_machine.specs.Steps.{SettleStep, WriteStep, after_settle, Can, Step}
use Rattle.volume_machine.specs.declared.open.Open.{Open}
use Rattle.volume_machine.proofs.NextPieces.{next_is_one}
use Rattle.volume_core.specs.Calls.{Fetches, Reads, Syncs, Writes}
use Rattle.volume_core.proofs.CodeSteps.{goes-to}

-- the front of a buffer has so many bytes
pub front-size : (len : ℕ) (buffer before : List ℕ) → length buffer ≡ length before →
    len ≤ length before → length (take len buffer) ≡ len
front-size len buffer before same front = length-take-le len buffer (omega arith)

-- the buffer of a read, and the bytes of a write, are as long as the piece
pub read-size : (map : Map) (len : ℕ) (o : Open) (piece : Piece) → CanRead map len o →
    IsPieceOf map o piece → len ≡ size_of_piece map piece
read-size map len o piece can next =
    rw (next_is_one map (rest_of o) can.piece piece can.next next) at can.size

pub write-bytes : (map : Map) (bytes : List ℕ) (o : Open) (piece : Piece) → CanWrite map bytes o →
    IsPieceOf map o piece → ArePieceBytes map piece bytes
write-bytes map bytes o piece can next =
    rw (next_is_one map (rest_of o) can.piece piece can.next next) at can.are

module _ {K : Type 0} (state : State K) (lane : ℕ) (o : Open) where
  pub can-read : (len : ℕ) → Meets state (reads lane len) → open_at state.lanes lane ≡ Some o →
      CanRead state.map len o
  unfolding Can
  can-read len meets is = let (one, is_one, can) = meets.can.0 in
      subst (λ x. CanRead state.map len x) (let e : one ≡ o = cc in e) can

  pub can-fetch : (which : ℕ) → Meets state (fetches lane which) →
      open_at state.lanes lane ≡ Some o → CanFetch state.map which o
  unfolding Can
  can-fetch which meets is = let (one, is_one, can) = meets.can.0 in
      subst (λ x. CanFetch state.map which x) (let e : one ≡ o = cc in e) can

  -- an edge lies in the volume
  pub edge-inside : (which : ℕ) → IsSound state → open_at state.lanes lane ≡ Some o →
      CanFetch state.map which o → edge_at state.map.atom o.ask which < state.map.blocks
  edge-inside which sound is can =
      let under_way = sound.under_way lane o is in
      let touched = edge_touched state.map.atom o.ask which state.map.some_atom can.some in
      let ends : o.range.end ≡ (range_of state.map.atom o.ask).end =
      ap (λ r. r.end) under_way.range_is in
      omega (arith, touched.to, ends, under_way.inside)

  pub can-write : (bytes : List ℕ) → Meets state (writes lane bytes) →
      open_at state.lanes lane ≡ Some o → CanWrite state.map bytes o
  unfolding Can
  can-write bytes meets is = let (one, is_one, can) = meets.can.0 in
      subst (λ x. CanWrite state.map bytes x) (let e : one ≡ o = cc in e) can

module _ {K : Type 0} (old new : State K) (lane : ℕ) (o after : Open) where
  pub read-step : (len : ℕ) (outcome : Outcome) → open_at old.lanes lane ≡ Some o →
      Reads old.map old.broken o outcome after old.disk new.disk →
      Goes old new lane old.entries (Some after) old.broken → Step old (reads lane len) outcome new
  unfolding Step
  read-step len (got bytes) is call goes =
      let step : ReadStep old lane o (got bytes) new = record {
        was = call.was;
        piece = call.piece;
        next = call.next;
        are = call.call.0;
        call = call.call.1;
        goes = goes-to (ap (λ x. Some x) call.leaves) call.was goes;
      } in
      (o, is, step)
  read-step len device is call goes =
      let step : ReadStep old lane o device new = record {
        was = call.was;
        piece = call.piece;
        next = call.next;
        bytes = call.call.0;
        call = call.call.1;
        goes = goes-to (ap (λ x. Some x) call.leaves) call.was goes;
      } in
      (o, is, step)
  read-step len broken is call goes =
      let step : ReadStep old lane o broken new = record {
        was = call.was;
        goes = goes-to (ap (λ x. Some x) call.leaves) call.was goes;
        rests = call.rests;
      } in
      (o, is, step)
  read-step len _ is call goes = absurd call

  pub edge-step : (which : ℕ) (outcome : Outcome) → open_at old.lanes lane ≡ Some o →
      which < length (edges_of old.map.atom o.ask) →
      Fetches old.map old.broken o which outcome after old.disk new.disk →
      Goes old new lane old.entries (Some after) old.broken → Step old (fetches lane which) outcome new
  unfolding Step
  edge-step which (got bytes) is some call goes =
      let step : EdgeStep old lane o which (got bytes) new = record {
        was = call.was;
        some = some;
        are = call.call.0;
        call = call.call.1;
        goes = goes-to (ap (λ x. Some x) call.leaves) call.was goes;
      } in
      (o, is, step)
  edge-step which device is some call goes =
      let step : EdgeStep old lane o which device new = record {
        was = call.was;
        some = some;
        bytes = call.call.0;
        call = call.call.1;
        goes = goes-to (ap (λ x. Some x) call.leaves) call.was goes;
      } in
      (o, is, step)
  edge-step which broken is some call goes =
      let step : EdgeStep old lane o which broken new = record {
        was = call.was;
        goes = goes-to (ap (λ x. Some x) call.leaves) call.was goes;
        rests = call.rests;
      } in
      (o, is, step)
  edge-step which _ is some call goes = absurd call

  pub write-step : (bytes : List ℕ) (outcome : Outcome) → open_at old.lanes lane ≡ Some o →
      Writes old.map old.broken o bytes outcome after old.disk new.disk →
      Goes old new lane old.entries (Some after) (old.broken || is_fault outcome) →
      Step old (writes lane bytes) outcome new
  unfolding Step
  write-step bytes done is call goes =
      let step : WriteStep old lane o bytes done new = record {
        was = call.was;
        piece = call.piece;
        next = call.next;
        are = call.call.0;
        call = call.call.1;
        goes = goes-to (ap (λ x. Some x) call.leaves) (ap (λ b. b || is_fault done) call.was) goes;
      } in
      (o, is, step)
  write-step bytes device is call goes =
      let step : WriteStep old lane o bytes device new = record {
        was = call.was;
        piece = call.piece;
        next = call.next;
        are = call.call.0;
        call = call.call.1;
        goes = goes-to (ap (λ x. Some x) call.leaves)
            (ap (λ b. b || is_fault device) call.was) goes;
      } in
      (o, is, step)
  write-step bytes broken is call goes =
      let step : WriteStep old lane o bytes broken new = record {
        was = call.was;
        goes = goes-to (ap (λ x. Some x) call.leaves)
            (ap (λ b. b || is_fault broken) call.was) goes;
        rests = call.rests;
      } in
      (o, is, step)
  write-step bytes _ is call goes = absurd call

  pub settle-step : (outcome : Outcome) → open_at old.lanes lane ≡ Some o →
      Syncs old.broken o outcome after old.disk new.disk →
      Goes old new lane old.entries (after_settle after after) (old.broken || is_fault outcome) →
      Step old (settles lane) outcome new
  unfolding Step
  settle-step done is (was, call, leaves) goes =
      let now = goes-to (ap (λ x. after_settle x x) leaves)
      (ap (λ b. b || is_fault done) was) goes in
      let step : SettleStep old lane o done new = record { was = was; call = call; goes = now } in
      (o, is, step)
  settle-step device is (was, call, leaves) goes =
      let now = goes-to (ap (λ x. after_settle x x) leaves)
      (ap (λ b. b || is_fault device) was) goes in
      let step : SettleStep old lane o device new = record { was = was; call = call; goes = now } in
      (o, is, step)
  settle-step broken is call goes =
      let step : SettleStep old lane o broken new = record {
        was = call.was;
        goes = goes-to (ap (λ x. after_settle x x) call.leaves)
            (ap (λ b. b || is_fault broken) call.was) goes;
        rests = call.rests;
      } in
      (o, is, step)
  settle-step _ is call goes = absurd call
