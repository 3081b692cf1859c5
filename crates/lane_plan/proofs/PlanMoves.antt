-- What a plan is told of its pieces.
use Rattle.std.proofs.Common.{List, Option, Some, ap, arith, inl, inr, length, length-append}
use Rattle.std.proofs.Common.{length-take-le, mul-le-mul_right, option_map, refl, subst, sym, take}
use Rattle.std.proofs.Common.{ℕ, ◌*◌, ◌++◌, ◌+◌, ◌-◌, ◌/◌, ◌<◌, ◌^◌, ◌∙◌, ◌≡◌, ◌≤◌}
use Rattle.std.proofs.Math.Nat.{mul-div_left}
use Rattle.plain_disk.specs.declared.operation.Op.{Op}
use Rattle.sector_disk.specs.Geometry.{IsAtom}
use Rattle.segment_map.specs.declared.Side.{Side}
use Rattle.segment_map.specs.declared.map.Map.{Map}
use Rattle.segment_map.specs.declared.map.Piece.{Piece}
use Rattle.volume_machine.specs.Alone.{Alone, opened_by, passed, with_piece}
use Rattle.volume_machine.specs.Asks.{IsRead}
use Rattle.volume_machine.specs.Pieces.{IsPieceOf, known_side, moved}
use Rattle.volume_machine.specs.Seals.{KeysFit, Seals}
use Rattle.volume_machine.specs.declared.{keys.Keys.Keys, open.Open.Open}
use Rattle.volume_machine.proofs.KeyLemmas.{fewer-blocks}
use Rattle.lane_plan.specs.Calls.{ask_of}
use Rattle.lane_plan.specs.Plans.{HasPlace, HasPlain, HasRest, IsBack, IsOnly, IsPart, IsTakenIn}
use Rattle.lane_plan.specs.Plans.{IsTold, Moves, bytes_of, calls_left, left_at, place_in, reads}
use Rattle.lane_plan.specs.Plans.{writes}
use Rattle.lane_plan.specs.declared.{plan.Plan.Plan, plan.Stage.TheVariants.Moving}
use Rattle.lane_plan.proofs.PlanBegins.{IsBackBy}
use Rattle.lane_plan.proofs.PlanCourse.{all-bytes, ends-within, none-before, of-body, only-or-part}
use Rattle.lane_plan.proofs.PlanSizes.{blocks-small, rest-long, size-more, some-atom}
use Rattle.plain_disk.specs.declared.operation.Op.TheVariants as Ops
use Rattle.lane_plan.specs.declared.calls.Answer.TheVariants as Answers

-- a plan that awaits the answer to a piece's read or write
pub record AwaitsPiece (plan : Plan) (map : Map) (piece : Piece) (room : ℕ) : Type 0 where
  pub op : Op
  pub alone : Alone
  pub moves : Moves plan op alone map piece room

pub record AwaitsRead (plan : Plan) (map : Map) (piece : Piece) (room len : ℕ) : Type 0 where
  pub awaits : AwaitsPiece plan map piece room
  pub reading : IsRead plan.operation.ask
  pub size : len ≡ piece.count * plan.shape.atom
  pub within : len ≤ room

pub told-got : (seals : Seals) (plan : Plan) (buffer : List ℕ) (len : ℕ) →
    IsTold seals plan (Answers.Got buffer len) →
    (map : Map) × (piece : Piece) × AwaitsRead plan map piece (length buffer) len
unfolding IsTold
told-got seals plan buffer len
    (op, alone, _, reads map piece lent n moves reading size within, may) =
    let it : AwaitsRead plan map piece (length buffer) len = record {
      awaits = record { op = op; alone = alone; moves = rw may.1 moves };
      reading = reading;
      size = may.0 ∙ size;
      within = omega arith;
    } in
    (map, piece, it)
told-got seals plan buffer len (op, alone, _, _, may) = absurd may

pub told-written : (seals : Seals) (plan : Plan) (buffer : List ℕ) →
    IsTold seals plan (Answers.Written buffer) →
    (map : Map) × (piece : Piece) × AwaitsPiece plan map piece (length buffer)
unfolding IsTold
told-written seals plan buffer (op, alone, _, writes map piece prepared moves writing sealed, may) =
    (map, piece, record { op = op; alone = alone; moves = rw may moves })
told-written seals plan buffer (op, alone, _, _, may) = absurd may

-- it is the piece of the stage
same-piece : (plan : Plan) {m map : Map} {p piece : Piece} → plan.stage ≡ Moving m p →
    plan.stage ≡ Moving map piece → (m ≡ map) × (p ≡ piece)
same-piece plan is other = (cc, cc)

moves-by : {plan : Plan} {op : Op} {alone : Alone} {m map : Map} {p piece : Piece} {room : ℕ} →
    Moves plan op alone m p room → plan.stage ≡ Moving map piece →
    Moves plan op alone map piece room
moves-by {plan} moves is = let same = same-piece plan moves.stage is in
    rw (same.0, same.1) at moves

pub got-here : (seals : Seals) (plan : Plan) {map : Map} {piece : Piece} (buffer : List ℕ)
    (len : ℕ) → IsTold seals plan (Answers.Got buffer len) → plan.stage ≡ Moving map piece →
    AwaitsRead plan map piece (length buffer) len
got-here seals plan buffer len told is = let (m, p, it) = told-got seals plan buffer len told in
    let same = same-piece plan it.awaits.moves.stage is in rw (same.0, same.1) at it

pub written-here : (seals : Seals) (plan : Plan) {map : Map} {piece : Piece} (buffer : List ℕ) →
    IsTold seals plan (Answers.Written buffer) → plan.stage ≡ Moving map piece →
    AwaitsPiece plan map piece (length buffer)
written-here seals plan buffer told is = let (m, p, it) = told-written seals plan buffer told in
    let same = same-piece plan it.moves.stage is in rw (same.0, same.1) at it

-- the bytes of the next piece are opened as the lane knows them
known-opened : (seals : Seals) (map : Map) (o : Open) (piece : Piece) (sealed : List ℕ) →
    IsPieceOf map o piece →
    opened_by seals map (Some o) sealed ≡ seals.opened piece.side piece.first sealed
known-opened seals map o piece sealed next =
    let none : o.next + 0 ≡ o.next = omega arith in
    let at = rw none at (next.one_side 0 next.some) in
    ap (λ (x : Option Side). seals.opened (known_side x) o.next sealed) at
    ∙ ap (λ (k : ℕ). seals.opened piece.side k sealed) (sym next.first)

-- the plain bytes with those of the piece
pub with-opened : (seals : Seals) (alone : Alone) (map : Map) (o : Open) (piece : Piece)
    (sealed : List ℕ) → alone.operation ≡ Some o → alone.granted ≡ Some map →
    IsPieceOf map o piece → with_piece seals alone sealed alone.granted ≡ alone.plain
    ++ seals.opened piece.side piece.first sealed
with-opened seals alone map o piece sealed operation granted next =
    ap (λ (g : Option Map). with_piece seals alone sealed g) granted
    ∙ ap (λ (x : Option Open). alone.plain ++ opened_by seals map x sealed) operation
    ∙ ap (λ xs. alone.plain ++ xs) (known-opened seals map o piece sealed next)

-- the operation is then behind the piece
passed-moved : (map : Map) (o : Open) (piece : Piece) (atom : ℕ) (sealed : List ℕ) →
    IsPieceOf map o piece → 0 < atom → length sealed ≡ piece.count * atom →
    passed atom sealed o ≡ moved o piece
passed-moved map o piece atom sealed next some size =
    let count : length sealed / atom ≡ piece.count = rw size (mul-div_left piece.count some) in
    let at : o.next + length sealed / atom ≡ piece.first + piece.count = omega arith in
    ap (λ n. record o { next = n }) at

pub mapped : (f : Open → Open) {o now : Open} {x : Option Open} → x ≡ Some o → f o ≡ now →
    option_map f x ≡ Some now
mapped f is same = ap (λ (x : Option Open). option_map f x) is ∙ ap (λ (o : Open). Some o) same

-- a part isn't the last of all where there is more
more-left : (o : Open) (map : Map) (piece : Piece) → IsPieceOf map o piece →
    o.range.start ≤ o.next → (moved o piece).next < o.range.end → IsPart o piece
more-left o map piece next starts less same = omega (arith, same)

-- the plan behind a piece
behind : (old now : Plan) (o : Open) (piece : Piece) →
    now ≡ record old { whole = now.whole; part = now.part } → o ≡ moved now.operation piece →
    record now { operation = o } ≡ record old {
      operation = moved old.operation piece;
      whole = now.whole;
      part = now.part;
    }
behind old now o piece same is = ap (λ (q : Plan). with-these q o now) same
    ∙ ap (λ (p : Open). with-these old p now) (is ∙ ap (λ (q : Plan). moved q.operation piece) same)
  where
    with-these : Plan → Open → Plan → Plan
    with-these q o now = record q { operation = o; whole = now.whole; part = now.part }

back-moved : (old now : Plan) (op : Op) (alone after : Alone) (map : Map) (piece : Piece) (room : ℕ)
    (o : Open) (more : List ℕ) → Moves old op alone map piece room →
    now ≡ record old { whole = now.whole; part = now.part } → o ≡ moved now.operation piece →
    after.operation ≡ Some (moved old.operation piece) → after.granted ≡ Some map →
    after.plain ≡ alone.plain ++ more → length more ≡ piece.count * old.shape.atom →
    HasPlain now.whole op (alone.plain ++ more) →
    (IsPart old.operation piece → HasRest now.whole op × (length now.part ≡ room)) →
    IsBack (record now { operation = o }) op after map
back-moved old now op alone after map piece room o more moves same is operation granted plain size
    has kept =
    let course = moves.course in
    let other = λ (less : (moved old.operation piece).next < old.operation.range.end).
    more-left old.operation map piece moves.next course.starts less in
    subst (λ (p : Plan). IsBack p op after map) (sym (behind old now o piece same is)) (record {
      course = record {
        known = course.known;
        operation = operation;
        granted = granted;
        asks = course.asks;
        atom = course.atom;
        blocks = course.blocks;
        proper = course.proper;
        range_is = course.range_is;
        inside = course.inside;
        starts = omega arith;
        within = omega arith;
        unfailed = course.unfailed;
        unsettled = course.unsettled;
        fetched = course.fetched;
        size = ap (λ xs. length xs) plain ∙ length-append alone.plain more
            ∙ (let sum = size-more old.operation.range.start old.operation.next piece.count
            (piece.first + piece.count) old.shape.atom course.starts (omega arith) in
            omega arith);
      };
      writes = moves.writes;
      plain = rw plain has;
      rest = λ less. (kept (other less)).0;
      part = λ less. (rw ((kept (other less)).1) (moves.part (other less)));
    })

-- the read of a piece
read-part : (op : Op) (whole other plain more : List ℕ) (at n : ℕ) → IsRead (ask_of op)
    → at ≡ length plain → length more ≡ n → take (at + n) other ≡ take at whole ++ more
    → HasPlain whole op plain → HasPlain other op (plain ++ more)
read-part (Ops.Read offset len) whole other plain more at n reading is size front so_far =
    ap (λ k. take k other) (length-append plain more ∙ (omega arith)) ∙ front
    ∙ ap (λ xs. xs ++ more) (ap (λ k. take k whole) is ∙ so_far)
read-part _ whole other plain more at n reading is size front so_far = absurd reading

read-rest : (op : Op) (whole other : List ℕ) → IsRead (ask_of op) → length other ≡ length whole →
    HasRest whole op → HasRest other op
read-rest (Ops.Read offset len) whole other reading same rest = rw same rest
read-rest _ whole other reading same rest = absurd reading

-- a piece was read
pub back-got : (seals : Seals) (old now : Plan) (map : Map) (piece : Piece) (o : Open)
    (buffer unsealed : List ℕ) (len : ℕ) → old.stage ≡ Moving map piece →
    take len unsealed ≡ seals.opened piece.side piece.first (take len buffer) →
    length unsealed ≡ length buffer → (IsOnly old.operation piece → now.whole ≡ unsealed) →
    (IsPart old.operation piece → IsTakenIn old now piece len unsealed) →
    now ≡ record old { whole = now.whole; part = now.part } → o ≡ moved now.operation piece →
    IsBackBy seals old (Answers.Got buffer len) (record now { operation = o }) map
back-got seals old now map piece o buffer unsealed len stage front long only part same is op alone _
    lane (reads m p lent n moved_here reading size_is within) may =
    let moves = moves-by moved_here stage in let course = moves.course in
    let next = moves.next in
    let size : len ≡ piece.count * old.shape.atom = may.0 ∙ size_is
    ∙ ap (λ (q : Piece). q.count * old.shape.atom) (same-piece old moved_here.stage stage).1 in
    let fits : len ≤ length buffer = omega arith in
    let sealed = take len buffer in
    let more = seals.opened piece.side piece.first sealed in
    let more_size : length more ≡ len = ap (λ xs. length xs) (sym front)
    ∙ length-take-le len unsealed (omega arith) in
    let reading_op = subst (λ a. IsRead a) course.asks reading in
    let has : HasPlain now.whole op (alone.plain ++ more) = elim (only-or-part course next) [
      | inl all ↦ read-part op old.whole now.whole alone.plain more 0 len
          reading_op (sym (ap (λ xs. length xs) (none-before course next all))) more_size (ap (λ k.
          take k now.whole) (omega arith) ∙ ap (λ xs. take len xs) (only all) ∙ front) moves.plain
      | inr other ↦ read-part op old.whole now.whole alone.plain more (place_in old piece) len
          reading_op (ap (λ k. (k - old.operation.range.start) * old.shape.atom) next.first
          ∙ sym course.size) more_size ((part other).front
          ∙ ap (λ xs. take (place_in old piece) old.whole ++ xs) front) moves.plain
    ] in (
      refl,
      back-moved old now op alone _ map piece _ o more moves
          same is (mapped _ course.operation (passed-moved map old.operation piece old.shape.atom
          sealed next (some-atom old.shape.atom course.known.known) (length-take-le len buffer fits
          ∙ size))) course.granted (with-opened seals alone map old.operation
          piece sealed course.operation course.granted next) (more_size ∙ size) has (λ other. (
            read-rest op old.whole now.whole reading_op (part other).whole (moves.rest other),
            ap (λ xs. length xs) (part other).part ∙ long ∙ may.1,
          )),
    )
back-got seals old now map piece o buffer unsealed len stage front long only part same is op alone _
    lane _ may = absurd may

-- a piece was written
pub back-put : (seals : Seals) (old now : Plan) (map : Map) (piece : Piece) (o : Open)
    (buffer : List ℕ) → old.stage ≡ Moving map piece →
    (IsPart old.operation piece → (now.whole ≡ old.whole) × (now.part ≡ buffer)) →
    now ≡ record old { whole = now.whole; part = now.part } → o ≡ moved now.operation piece →
    IsBackBy seals old (Answers.Written buffer) (record now { operation = o }) map
back-put seals old now map piece o buffer stage back same is op alone _ lane
    (writes m p prepared moved_here writing sealed_here) may =
    let moves = moves-by moved_here stage in let course = moves.course in
    let sealed = rw ((same-piece old moved_here.stage stage).1) at sealed_here in
    let writing_op =
    subst (λ a. Rattle.volume_machine.specs.Asks.IsWrite a) course.asks writing in (
      refl,
      back-moved old now op alone _ map piece _ o (seals.opened
          piece.side piece.first prepared.bytes) moves same is (mapped _ course.operation
          (passed-moved map old.operation piece old.shape.atom prepared.bytes moves.next (some-atom
          old.shape.atom course.known.known) sealed.size)) course.granted (with-opened seals
          alone map old.operation piece prepared.bytes course.operation course.granted moves.next)
          sealed.opened_size (of-body old.whole now.whole op _ writing_op sealed.so_far) (λ other.
          ((rw ((back other).0) (moves.rest other), ap (λ xs. length xs) (back other).1 ∙ may))),
    )
back-put seals old now map piece o buffer stage back same is op alone _ lane _ may = absurd may

-- a piece leaves as many calls as blocks are left after it
pub fewer-moved : {old : Plan} {map : Map} {piece : Piece} {room : ℕ} (new : Plan)
    → AwaitsPiece old map piece room → calls_left new
    ≤ 1 + (old.operation.range.end - (piece.first + piece.count)) → calls_left new < calls_left old
unfolding calls_left
fewer-moved {old} new awaits most =
    let next = awaits.moves.next in
    let left = ap (λ s. left_at old.shape.atom old.operation s) awaits.moves.stage in omega arith

-- it leaves itself and as many as blocks are left
pub fewer-next : (old new : Plan) {map : Map} {piece : Piece} →
    new ≡ record old { stage = Moving map piece; whole = new.whole; part = new.part } →
    calls_left new ≤ 1 + (old.operation.range.end - old.operation.next)
unfolding calls_left
fewer-next old new is =
    omega (arith, ap (λ (p : Plan). left_at p.shape.atom p.operation p.stage) is)

-- what a piece needs of its plan
pub record IsSafe {C : Type 0} (sector : C → ℕ) (keys : Keys C) (plan : Plan) (piece : Piece) :
    Type 0 where
  pub known : IsAtom plan.shape.atom
  pub fits : KeysFit sector keys plan.shape.atom (piece.first + piece.count)
  pub order : plan.operation.range.start ≤ plan.operation.range.end
  pub few : piece.first + piece.count < 2 ^ 63

pub safe : {C : Type 0} (sector : C → ℕ) (keys : Keys C) {plan : Plan} {map : Map} {piece : Piece}
    {room : ℕ} → KeysFit sector keys plan.shape.atom plan.shape.blocks →
    AwaitsPiece plan map piece room → IsSafe sector keys plan piece
safe sector keys {plan} {piece} fits awaits =
    let course = awaits.moves.course in
    let few = blocks-small plan.shape.atom plan.shape.blocks course.known.known course.known.small
    in
    record {
      known = course.known.known;
      fits = fewer-blocks sector keys plan.shape.atom plan.shape.blocks (piece.first + piece.count)
          (omega arith) fits;
      order = omega arith;
      few = omega arith;
    }

-- where the piece goes in the whole buffer
pub has-place : {plan : Plan} {map : Map} {piece : Piece} {room len : ℕ} →
    AwaitsRead plan map piece room len → IsPart plan.operation piece → HasPlace plan piece len
has-place {plan} {piece} it part =
    let moves = it.awaits.moves in let course = moves.course in
    let ends = ends-within course moves.next in
    let long = rest-long plan.whole it.awaits.op (subst (λ a. IsRead a) course.asks it.reading)
    (moves.rest part) in
    let most : (plan.operation.range.end - plan.operation.range.start) * plan.shape.atom
    ≤ plan.shape.blocks * plan.shape.atom = mul-le-mul_right plan.shape.atom (omega arith) in
    record {
      order = omega arith;
      small = omega (arith, all-bytes course);
      within = omega (arith, ap (λ a. bytes_of a) course.asks);
    }
