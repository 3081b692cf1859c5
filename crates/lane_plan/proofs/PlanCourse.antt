-- The next call of an operation all of whose pieces so far were made.
use Rattle.std.proofs.Common.{List, None, [], ap, arith, drop, false, if◌then◌else◌, inl, inr}
use Rattle.std.proofs.Common.{length, length-append, length-drop, min, mul-le-mul_right, nat_lt}
use Rattle.std.proofs.Common.{replicate, length-take-le, refl, subst, sym, take, true, ℕ, ◌*◌, ◌++◌}
use Rattle.std.proofs.Common.{◌+◌, ◌-◌, ◌/◌, ◌<◌, ◌∙◌, ◌≡◌, ◌≤◌, ◌⊎◌}
use Rattle.std.proofs.Math.Nat.{le-min}
use Rattle.std.proofs.lemmas.Bool.{cases_Bool as either, cases_lt}
use Rattle.std.proofs.lemmas.List.{length-replicate, take-take, drop-append-le, nil_from_length}
use Rattle.std.proofs.lemmas.List.{take-append-drop, take-append-le}
use Rattle.cipher_laws.specs.Bytes.{AreBytes}
use Rattle.plain_disk.specs.declared.operation.Op.{Op}
use Rattle.segment_map.specs.declared.map.Map.{Map}
use Rattle.segment_map.specs.declared.map.Piece.{Piece}
use Rattle.volume_machine.specs.Alone.{Alone}
use Rattle.volume_machine.specs.Asks.{wrong_ask, IsForced, IsRead, IsWrite, has_lock}
use Rattle.volume_machine.specs.Pieces.{IsPieceOf}
use Rattle.volume_machine.specs.Seals.{KeysFit, Seals, key_of, number_of, seals_of}
use Rattle.volume_machine.specs.Steps.{CanSettle}
use Rattle.std.proofs.Math.{Nat.mul-lt-mul_of_pos_right, Seq.take-add}
use Rattle.std.proofs.lemmas.List.{drop-replicate, take-replicate}
use Rattle.cipher_laws.specs.Laws.{UndoesSectors}
use Rattle.volume_machine.specs.Fronts.{Front}
use Rattle.volume_machine.specs.declared.ask.Ask.TheVariants.{Flush, Read, Write}
use Rattle.volume_machine.specs.declared.{ask.Ask.Ask, keys.Keys.Keys, open.Open.Open}
use Rattle.volume_machine.proofs.KeyLemmas.{side-whole}
use Rattle.plain_disk.proofs.RangeLemmas.{whole_blocks}
use Rattle.lane_plan.specs.Calls.{ask_of}
use Rattle.lane_plan.specs.Plans.{Awaits, HasPlain, HasRead, HasRest, IsBack, IsOnly, IsPart}
use Rattle.lane_plan.specs.Plans.{IsSealed, IsUnderWay, Moves, MustSettle, bytes_of, finishes}
use Rattle.lane_plan.specs.Plans.{is_zeroes, place_in, reads, settles, source_in, writes}
use Rattle.lane_plan.specs.declared.plan.Stage.TheVariants.{Ending, Moving, Settling}
use Rattle.lane_plan.specs.declared.{plan.Plan.Plan, plan.Shape.Shape}
use Rattle.lane_plan.proofs.PlanAligned.{aligned_ask}
use Rattle.lane_plan.proofs.PlanSizes.{fits-part, rest-long, size-none, some-atom}
use Rattle.lane_plan.proofs.PlanSizes.{source-within, stays-within, total}
use Rattle.plain_disk.specs.declared.operation.Op.TheVariants as Ops
use Rattle.lane_plan.specs.declared.calls.Call.TheVariants as Calls

-- no byte was read or written yet
pub none-yet : (whole : List ℕ) (op : Op) → HasPlain whole op []
none-yet whole Ops.Flush = refl
none-yet whole _ = refl

-- with all pieces an operation has all its bytes
pub all-bytes : {shape : Shape} {o : Open} {op : Op} {alone : Alone} {map : Map} →
    IsUnderWay shape o op alone map → (o.range.end - o.range.start) * shape.atom ≡ bytes_of o.ask
all-bytes {shape} {o} course =
    rw course.range_is (total shape.atom o.ask (some-atom shape.atom course.known.known)
    (aligned_ask shape.atom (shape.blocks * shape.atom) o.ask course.proper))

pub whole-size : {shape : Shape} {o : Open} {op : Op} {alone : Alone} {map : Map} →
    IsUnderWay shape o op alone map → o.next ≡ o.range.end → length alone.plain ≡ bytes_of o.ask
whole-size {shape} {o} course ends =
    course.size ∙ ap (λ k. (k - o.range.start) * shape.atom) ends ∙ all-bytes course

-- after all pieces comes the settle, or the finish
can-settle : (o : Open) (ask : Ask) → o.ask ≡ ask → MustSettle ask → o.next ≡ o.range.end →
    o.failed ≡ false → o.settled ≡ false → CanSettle o
can-settle o (Read offset len) is must ends unfailed unsettled = absurd must
can-settle o (Write offset len fua) is must ends unfailed unsettled =
    inr (subst (λ a. IsForced a) (sym is) must, ends, unfailed, unsettled)
can-settle o Flush is must ends unfailed unsettled = inl is

not-forced : (ask : Ask) → (MustSettle ask → ⊥) → IsForced ask → ⊥
not-forced (Write offset len fua) free forced = free forced
not-forced _ free forced = forced

locks-unsettled : (ask : Ask) → (MustSettle ask → ⊥) → has_lock ask ≡ true
locks-unsettled Flush free = absurd (free tt)
locks-unsettled _ free = refl

pub last-settles : {seals : Seals} {plan : Plan} {op : Op} {alone : Alone} {map : Map} →
    IsBack plan op alone map → MustSettle plan.operation.ask →
    plan.operation.next ≡ plan.operation.range.end →
    Awaits seals (record plan { stage = Settling }) op alone Calls.Settle
last-settles {plan} {map} back must ends =
    settles map refl back.course back.plain (can-settle plan.operation plan.operation.ask refl must
    ends back.course.unfailed back.course.unsettled) ends

-- a read stands behind the bytes that were read
short-read : (atom size offset len : ℕ) → wrong_ask atom size (Read offset len) ≡ None
    → len ≤ 33554432
short-read atom size offset len proper = elim (either (nat_lt 33554432 len)) [
  | inl long ↦ absurd (let wrong = rw long at proper in cc)
  | inr short ↦ grind (arith, short)
]

pub has-read : {shape : Shape} {o : Open} {op : Op} {alone : Alone} {map : Map}
    → IsUnderWay shape o op alone map → (offset len : ℕ) → o.ask ≡ Read offset len
    → HasRead shape.atom (o.next * shape.atom) offset len alone.plain
has-read {shape} {o} {alone} course offset len is =
    let size = shape.blocks * shape.atom in let proper = rw is at course.proper in
    let first : offset / shape.atom * shape.atom ≡ offset = whole_blocks shape.atom offset
    (aligned_ask shape.atom size (Read offset len) proper).0 in
    let start : o.range.start * shape.atom ≡ offset = rw (course.range_is, is) first in
    let apart : o.next ≡ o.range.start + (o.next - o.range.start) = omega arith in
    let split : o.next * shape.atom ≡ o.range.start * shape.atom + (o.next - o.range.start)
    * shape.atom = ap (λ k. k * shape.atom) apart ∙ grind arith in
    let most : o.next * shape.atom ≤ size = mul-le-mul_right shape.atom (omega arith) in
    record {
      short = short-read shape.atom size offset len proper;
      first = first;
      place_is = omega arith;
      small = omega (arith, course.known.small);
    }

-- before the last piece some of its bytes weren't read
pub some-unread : {shape : Shape} {o : Open} {op : Op} {alone : Alone} {map : Map}
    → IsUnderWay shape o op alone map → o.next < o.range.end → (offset len : ℕ)
    → o.ask ≡ Read offset len → length alone.plain < len
some-unread {shape} {o} course left offset len is =
    let fewer : o.next - o.range.start < o.range.end - o.range.start =
    omega (arith, left, course.starts) in
    let bytes = mul-lt-mul_of_pos_right fewer (some-atom shape.atom course.known.known) in
    omega (arith, course.size, all-bytes course ∙ ap (λ a. bytes_of a) is, bytes)

pub last-finishes : {seals : Seals} {plan : Plan} {op : Op} {alone : Alone} {map : Map}
    → IsBack plan op alone map → (MustSettle plan.operation.ask → ⊥) → plan.operation.next
    ≡ plan.operation.range.end → Awaits seals (record plan { stage = Ending }) op alone Calls.Finish
last-finishes {plan} {map} back free ends = finishes refl (record {
  operation = back.course.operation;
  map = map;
  granted = back.course.granted;
  asks = back.course.asks;
  known = back.course.known.known;
  aligned = aligned_ask plan.shape.atom (plan.shape.blocks * plan.shape.atom) plan.operation.ask
      back.course.proper;
  can = record {
    locks = locks-unsettled plan.operation.ask free;
    ends = inr (record {
      pieces = ends;
      kept = λ forced. absurd (not-forced plan.operation.ask free forced);
    });
  };
  plain = back.plain;
  total = λ unfailed. whole-size back.course ends;
  read = has-read back.course;
  unread = λ failed offset len is. absurd (cc (failed, back.course.unfailed));
})

-- a piece is all of the operation, or a part
pub only-or-part : {shape : Shape} {o : Open} {op : Op} {alone : Alone} {map : Map} {piece : Piece}
    → IsUnderWay shape o op alone map → IsPieceOf map o piece → IsOnly o piece ⊎ IsPart o piece
only-or-part {o} {piece} course next = elim (cases_lt piece.count (o.range.end - o.range.start)) [
  | inl less ↦ inr (λ same. omega arith)
  | inr most ↦ inl (omega arith)
]

-- before an only piece there are no bytes
pub none-before : {shape : Shape} {o : Open} {op : Op} {alone : Alone} {map : Map} {piece : Piece} →
    IsUnderWay shape o op alone map → IsPieceOf map o piece → IsOnly o piece → alone.plain ≡ []
none-before {shape} {o} {alone} course next only =
    let e : o.next ≡ o.range.start = omega arith in
    nil_from_length alone.plain (course.size ∙ ap (λ k. (k - o.range.start) * shape.atom) e
    ∙ sym (size-none o.range.start shape.atom))

pub some-left : (o : Open) {map : Map} {piece : Piece} → IsPieceOf map o piece
    → o.next < o.range.end
some-left o next = omega arith

-- it is made in the buffer that it is given
pub moves-on : {plan : Plan}
    {op : Op} {alone : Alone} {map : Map} {piece : Piece} (room : ℕ) (whole part : List ℕ)
    → IsBack plan op alone map → IsPieceOf map plan.operation piece → HasPlain whole op alone.plain
    → (IsPart plan.operation piece → (room ≡ length plan.part) × (whole ≡ plan.whole)) → Moves
    (record plan { stage = Moving map piece; whole = whole; part = part }) op alone map piece room
moves-on {plan} room whole part back next plain kept = record {
  stage = refl;
  course = back.course;
  next = next;
  writes = back.writes;
  plain = plain;
  rest = λ other. (rw ((kept other).1) (back.rest (some-left plan.operation next)));
  part = λ other. (rw ((kept other).0) (back.part (some-left plan.operation next)));
}

-- and fits there
fits-in : {plan : Plan} {op : Op} {alone : Alone} {map : Map} {piece : Piece} (buffer : List ℕ)
    → IsBack plan op alone map → IsPieceOf map plan.operation piece → IsRead plan.operation.ask
    → (IsPart plan.operation piece → buffer ≡ plan.part) → (IsOnly plan.operation piece
    → buffer ≡ plan.whole) → piece.count * plan.shape.atom ≤ length buffer
fits-in {plan} {op} {map} {piece} buffer back next reading part only =
    let left = some-left plan.operation next in let bytes = all-bytes back.course in
    elim (only-or-part back.course next) [
      | inl all ↦ let asks = ap (λ a. bytes_of a) back.course.asks in
          rw (only all, all) (omega (
            arith,
            rest-long plan.whole op
                (subst (λ a. IsRead a) back.course.asks reading) (back.rest left),
          ))
      | inr other ↦ let fits = fits-part map plan.operation
          piece plan.shape.atom next back.course.atom back.course.starts bytes other in
          rw (part other) (omega (arith, back.part left))
    ]

pub next-read : {seals : Seals} {plan new : Plan}
    {op : Op} {alone : Alone} {map : Map} {piece : Piece} {buffer : List ℕ} {len : ℕ}
    → IsBack plan op alone map → IsPieceOf map plan.operation piece → IsRead plan.operation.ask
    → len ≡ piece.count * plan.shape.atom → (IsPart plan.operation piece → (buffer ≡ plan.part)
    × (new ≡ record plan { stage = Moving map piece; part = [] })) → (IsOnly plan.operation piece
    → (buffer ≡ plan.whole) × (new ≡ record plan { stage = Moving map piece; whole = [] }))
    → new ≡ record plan { stage = Moving map piece; whole = new.whole; part = new.part }
    → Awaits seals new op alone (Calls.Read buffer len)
next-read {seals} {plan} {new} {op} {alone} {map} {piece} {buffer} {len} back next reading size part
    only is =
    let same = λ (other : IsPart plan.operation piece). ap (λ (p : Plan). p.whole) (part other).1 in
    let plain : HasPlain new.whole op alone.plain = elim (only-or-part back.course next) [
      | inl all ↦ rw (none-before back.course next all) (none-yet new.whole op)
      | inr other ↦ rw (same other) back.plain
    ] in
    subst (λ (p : Plan). Awaits seals p op alone (Calls.Read buffer len)) (sym is)
    (reads map piece buffer len (moves-on (length buffer) new.whole new.part back next plain
    (λ other. (ap (λ xs. length xs) (part other).0, same other))) reading size
    (rw size (fits-in buffer back next reading (λ other. (part other).0) (λ all. (only all).0))))

-- the bytes before a piece and its own are among the operation's
pub ends-within : {shape : Shape} {o : Open} {op : Op} {alone : Alone} {map : Map} {piece : Piece} →
    IsUnderWay shape o op alone map → IsPieceOf map o piece →
    (piece.first - o.range.start) * shape.atom + piece.count * shape.atom ≤ bytes_of o.ask
ends-within {shape} {o} {piece} course next =
    let most = stays-within o.range.start o.next piece.count o.range.end shape.atom course.starts
    next.within in
    rw next.first (omega (arith, all-bytes course))

-- a part of the front of a buffer is a part of the text there
part-of-front : (body whole : List ℕ) (from len : ℕ) → take (length body) whole ≡ body →
    from + len ≤ length body → take len (drop from whole) ≡ take len (drop from body)
part-of-front body whole from len front within =
    let parts : whole ≡ body ++ drop (length body) whole =
    sym (take-append-drop (length body) whole) ∙ ap (λ xs. xs ++ drop (length body) whole) front in
    let long : len ≤ length (drop from body) = (omega (arith, length-drop from body)) in
    ap (λ xs. take len (drop from xs)) parts ∙ ap (λ xs. take len xs)
    (drop-append-le from body (drop (length body) whole) (omega arith))
    ∙ take-append-le len (drop from body) (drop (length body) whole) long

front-and-part : (body plain : List ℕ) (from len : ℕ) → take (length plain) body ≡ plain →
    from ≡ length plain → from + len ≤ length body →
    take (length (plain ++ take len (drop from body))) body ≡ plain ++ take len (drop from body)
front-and-part body plain from len front is within =
    let size : length (take len (drop from body)) ≡ len =
    length-take-le len (drop from body) (omega (arith, length-drop from body)) in
    let sum : length (plain ++ take len (drop from body)) ≡ from + len =
    length-append plain (take len (drop from body)) ∙ (omega arith) in
    ap (λ k. take k body) sum ∙ take-add from len body
    ∙ ap (λ xs. xs ++ take len (drop from body)) (ap (λ k. take k body) is ∙ front)

-- the zeros of a piece stand at the front of the buffer, and anywhere among all of them
zeros-of-front : (n at len : ℕ) (whole : List ℕ)
    → take (min n 1048576) whole ≡ replicate (min n 1048576) 0 → at + len ≤ n → len ≤ 1048576
    → take len whole ≡ take len (drop at (replicate n 0))
zeros-of-front n at len whole rest within few =
    let short : len ≤ min n 1048576 = le-min (omega arith) few in
    sym (take-take len (min n 1048576) whole short) ∙ ap (λ xs. take len xs) rest
    ∙ take-replicate len (min n 1048576) 0 short ∙ sym (ap (λ xs. take len xs)
    (drop-replicate at n 0) ∙ take-replicate len (n - at) 0 (omega arith))

-- the next bytes of the body stand behind those before them
next-of-body : (whole : List ℕ) (op : Op) (plain : List ℕ) (from at len : ℕ)
    → IsWrite (ask_of op) → HasRest whole op → HasPlain whole op plain → at ≡ length plain
    → at + len ≤ bytes_of (ask_of op) → from ≡ (if is_zeroes op then 0 else at) → len ≤ 1048576
    → HasPlain whole op (plain ++ take len (drop from whole))
next-of-body whole (Ops.Write offset body fua) plain from at len writing rest so_far is within
    source few = rw (source, part-of-front body whole at len rest within)
    (front-and-part body plain at len so_far is within)
next-of-body whole (Ops.Zeroes offset n fua) plain from at len writing rest so_far is within source
    few = rw (source, zeros-of-front n at len whole rest within few)
    (front-and-part (replicate n 0) plain at len so_far is
    (rw (length-replicate {A = ℕ} n 0) within))
next-of-body whole _ plain from at len writing rest so_far is within source few = absurd writing

-- what was tried of a body doesn't lie in the buffer
pub of-body : (whole other : List ℕ) (op : Op) (plain : List ℕ) → IsWrite (ask_of op) →
    HasPlain whole op plain → HasPlain other op plain
of-body whole other (Ops.Write offset body fua) plain writing so_far = so_far
of-body whole other (Ops.Zeroes offset len fua) plain writing so_far = so_far
of-body whole other _ plain writing so_far = absurd writing

-- the bytes that a piece writes lie in the whole buffer, and fit that for pieces
pub source-fits : {plan : Plan} {op : Op} {alone : Alone} {map : Map} {piece : Piece} (from len : ℕ)
    → IsBack plan op alone map → IsPieceOf map plan.operation piece → IsWrite plan.operation.ask
    → from ≡ source_in plan piece → len ≡ piece.count * plan.shape.atom
    → from + len ≤ length plan.whole
source-fits {plan} {op} {piece = piece} from len back next writing from_is len_is =
    let place = place_in plan piece in
    let asks = ap (λ a. bytes_of a) back.course.asks in
    let source : from ≡ (if is_zeroes op then 0 else place) =
    from_is ∙ ap (λ b. if b then 0 else place) back.writes in
    let within : place + len ≤ bytes_of (ask_of op) = omega (arith, ends-within back.course next) in
    let few : len ≤ 1048576 = rw len_is (rw back.course.atom at next.limit) in
    source-within plan.whole op from place len (subst (λ a. IsWrite a) back.course.asks writing)
    (back.rest (some-left plan.operation next)) source within few

pub piece-fits : {plan : Plan} {op : Op} {alone : Alone} {map : Map} {piece : Piece} (len : ℕ)
    → IsBack plan op alone map → IsPieceOf map plan.operation piece
    → len ≡ piece.count * plan.shape.atom → IsPart plan.operation piece → len ≤ length plan.part
piece-fits {plan} {map = map} {piece = piece} len back next len_is other =
    let fits = fits-part map plan.operation piece plan.shape.atom next back.course.atom
    back.course.starts (all-bytes back.course) other in
    omega (arith, len_is, fits, back.part (some-left plan.operation next))

-- the next piece of the body, as it was sealed
sealed-piece : {C : Type 0} (sector : C → ℕ) (seal unseal : C → ℕ → List ℕ
    → List ℕ) (keys : Keys C) (plan : Plan) (op : Op) (alone : Alone) (map : Map) (piece : Piece)
    (from len : ℕ) (sealed : List ℕ) → ((c : C) → UndoesSectors (sector c) (unseal c) (seal c))
    → KeysFit sector keys plan.shape.atom plan.shape.blocks → IsBack plan op alone map
    → IsPieceOf map plan.operation piece → IsWrite (ask_of op) → from ≡ source_in plan piece
    → len ≡ piece.count * plan.shape.atom → AreBytes (take len (drop from plan.whole))
    → sealed ≡ (seals_of seal unseal plan.shape.atom keys).sealed piece.side piece.first
    (take len (drop from plan.whole)) → length sealed ≡ len → AreBytes sealed → IsSealed (seals_of
    seal unseal plan.shape.atom keys) plan.shape.atom plan.whole op alone.plain piece sealed
sealed-piece sector seal unseal keys plan op alone map piece from len sealed undoes fit back next
    writing from_is len_is bytes made size are =
    let rest = back.rest (some-left plan.operation next) in
    let asks = ap (λ a. bytes_of a) back.course.asks in
    let place = place_in plan piece in
    let source : from ≡ (if is_zeroes op then 0 else place) =
    from_is ∙ ap (λ b. if b then 0 else place) back.writes in
    let within : place + len ≤ bytes_of (ask_of op) = omega (arith, ends-within back.course next) in
    let few : len ≤ 1048576 = rw len_is (rw back.course.atom at next.limit) in
    let part : length (take len (drop from plan.whole)) ≡ len = length-take-le len
    (drop from plan.whole) (omega (
      arith,
      length-drop from plan.whole,
      source-within plan.whole op from place len writing rest source within few,
    )) in
    let opened = ap (λ xs. (seals_of seal unseal plan.shape.atom keys).opened
    piece.side piece.first xs) made ∙ undoes (key_of keys piece.side) (number_of
    keys plan.shape.atom piece.side piece.first) (take len (drop from plan.whole)) (record {
      whole = side-whole sector keys plan.shape.atom plan.shape.blocks _ piece.count piece.side fit
          (part ∙ len_is);
      are_bytes = bytes;
    }) in
    record {
      size = size ∙ len_is;
      are_bytes = are;
      opened_size = ap (λ xs. length xs) opened ∙ part ∙ len_is;
      so_far = subst (λ xs. HasPlain plan.whole op (alone.plain ++ xs)) (sym opened)
          (next-of-body plan.whole op alone.plain from place len writing rest back.plain
          (ap (λ k. (k - plan.operation.range.start) * plan.shape.atom) next.first
          ∙ sym back.course.size) within source few);
    }

-- the write of it
pub next-write : {C : Type 0} (sector : C → ℕ) (seal unseal : C → ℕ → List ℕ → List ℕ)
    (keys : Keys C) (plan new : Plan) (op : Op) (alone : Alone) (map : Map) (piece : Piece)
    (prepared : Front) (from len : ℕ) → ((c : C) → UndoesSectors (sector c) (unseal c) (seal c))
    → KeysFit sector keys plan.shape.atom plan.shape.blocks
    → IsBack plan op alone map → IsPieceOf map plan.operation piece
    → IsWrite plan.operation.ask → from ≡ source_in plan piece → len ≡ piece.count * plan.shape.atom
    → prepared.bytes ≡ (seals_of seal unseal plan.shape.atom keys).sealed piece.side piece.first
    (take len (drop from plan.whole)) → length prepared.bytes ≡ len → AreBytes prepared.bytes
    → AreBytes (take len (drop from plan.whole)) → (IsPart plan.operation piece
    → prepared.room ≡ length plan.part) → (IsPart plan.operation piece → new.whole ≡ plan.whole)
    → new ≡ record plan { stage = Moving map piece; whole = new.whole; part = new.part }
    → Awaits (seals_of seal unseal plan.shape.atom keys) new op alone (Calls.Write prepared)
next-write sector seal unseal keys plan new op alone map piece prepared from len undoes fit back
    next writing from_is len_is made size are bytes room rest is =
    let writing_op = subst (λ a. IsWrite a) back.course.asks writing in
    let it = sealed-piece sector seal unseal keys plan op alone map piece from len prepared.bytes
    undoes fit back next writing_op from_is len_is bytes made size are in
    subst (λ (p : Plan). Awaits (seals_of seal unseal plan.shape.atom keys)
    p op alone (Calls.Write prepared)) (sym is) (writes map piece
    prepared (moves-on prepared.room new.whole new.part back next (of-body plan.whole new.whole
    op alone.plain writing_op back.plain) (λ other. (room other, rest other))) writing (record {
      size = it.size;
      are_bytes = it.are_bytes;
      opened_size = it.opened_size;
      so_far = of-body plan.whole new.whole op _ writing_op it.so_far;
    }))
