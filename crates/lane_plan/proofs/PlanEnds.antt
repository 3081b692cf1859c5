-- Plans whose operation is refused, has failed, is settled, or has finished.
use Rattle.std.proofs.Common.{Bool, List, None, Option, Some, [], ap, arith, false, if◌then◌else◌}
use Rattle.std.proofs.Common.{inl, inr, length, max, replicate, ◌*◌, ◌+◌, ◌/◌, ◌^◌, refl, subst, sym}
use Rattle.std.proofs.Common.{take, true}
use Rattle.std.proofs.Math.Nat.{max-eq_right}
use Rattle.std.proofs.Common.{ℕ, ◌<◌, ◌∙◌, ◌∷◌, ◌≡◌, ◌≤◌, ◌⊎◌}
use Rattle.std.proofs.lemmas.Bool.{cases_Bool as either}
use Rattle.std.proofs.lemmas.List.{length-replicate}
use Rattle.plain_disk.specs.declared.operation.Op.{Op}
use Rattle.plain_disk.specs.declared.operation.Reply.TheVariants.{Content, Done, Errno}
use Rattle.segment_map.specs.declared.map.Map.{Map}
use Rattle.volume_machine.proofs.EdgeBlocks.{keeps_nothing}
use Rattle.volume_machine.specs.Alone.{Alone, after_sync, in_plain, settled_as}
use Rattle.volume_machine.specs.Answers.{Answered, Asked, BeginsWith, by_finish, by_settle}
use Rattle.volume_machine.specs.Answers.{flush_reply}
use Rattle.volume_machine.specs.Edges.{InPlain, KeepsEdges, in_range, nothing}
use Rattle.volume_machine.specs.Answers.{full_reply, tried_by}
use Rattle.volume_machine.specs.Asks.{IsRead, has_lock}
use Rattle.volume_machine.specs.Events.{Outcome, broken, device, done}
use Rattle.volume_machine.specs.Pieces.{failing, settling}
use Rattle.volume_machine.specs.Seals.{Seals}
use Rattle.volume_machine.specs.Steps.{CanSettle, after_settle}
use Rattle.plain_disk.specs.Outcomes.{IsReplyTo}
use Rattle.plain_disk.specs.declared.operation.{Reply.Reply, Reply.TheVariants.ErrnoAt}
use Rattle.volume_machine.specs.Answers.{failed_at, failed_reply}
use Rattle.volume_machine.specs.declared.ask.Ask.TheVariants.{Flush, Read, Write}
use Rattle.volume_machine.specs.declared.{ask.Ask.Ask, open.Open.Open}
use Rattle.lane_plan.specs.Calls.{ask_of}
use Rattle.lane_plan.specs.Plans.{Follows, Goes, HasPlain, HasRead, IsAligned, IsAnswered, IsEnding}
use Rattle.lane_plan.specs.Plans.{IsFailure, IsTold}
use Rattle.lane_plan.specs.Plans.{IsUnderWay, begins, bytes_of, calls_left}
use Rattle.lane_plan.specs.Plans.{failure_of, finishes, left_at}
use Rattle.lane_plan.specs.Plans.{reads, refuses, settles, writes}
use Rattle.lane_plan.specs.declared.{calls.Answer.Answer, plan.Plan.Plan, plan.Stage.Stage}
use Rattle.lane_plan.specs.declared.{plan.Stage.TheVariants.Ending, plan.Stage.TheVariants.Settling}
use Rattle.lane_plan.proofs.PlanAligned.{RangeIs, aligned_ask, in_range-aligned, keeps_aligned}
use Rattle.lane_plan.proofs.PlanAligned.{range_all, range_none}
use Rattle.lane_plan.proofs.{PlanBegins.follows-call, PlanCourse.none-yet, PlanCourse.has-read}
use Rattle.lane_plan.proofs.PlanCourse.{some-left, some-unread, whole-size}
use Rattle.lane_plan.proofs.{PlanMoves.mapped, PlanMoves.with-opened, PlanSizes.body-long}
use Rattle.plain_disk.specs.declared.operation.Op.TheVariants as Ops
use Rattle.lane_plan.specs.declared.calls.Answer.TheVariants as Answers
use Rattle.lane_plan.specs.declared.calls.Call.TheVariants as Calls
use Rattle.lane_plan.specs.declared.calls.Next.TheVariants as Nexts

-- what was asked for, with the bytes that were read or tried
asked-as : (atom : ℕ) (whole : List ℕ) (op : Op) (plain : List ℕ) → HasPlain whole op plain
    → RangeIs atom (ask_of op) plain → Asked atom (ask_of op) plain op
asked-as atom whole (Ops.Read offset len) plain has same = refl
asked-as atom whole (Ops.Write offset body fua) plain has same =
    (body, refl, refl, subst (λ xs. BeginsWith body xs) (sym same) has)
asked-as atom whole (Ops.Zeroes offset len fua) plain has same = (
  replicate len 0,
  refl,
  length-replicate {A = ℕ} len 0,
  subst (λ xs. BeginsWith (replicate len 0) xs) (sym same) has,
)
asked-as atom whole Ops.Flush plain has same = refl

-- an operation that was answered
abbrev answer-of : ℕ → Open → InPlain → Reply → Answered
answer-of atom o plain reply = record {
  session = o.session;
  atom = atom;
  ask = o.ask;
  plain = plain;
  reply = reply;
}

answered-so : (atom : ℕ) (o : Open) (plain : InPlain) (whole : List ℕ) (op : Op) (reply : Reply)
    (after : Alone) (answered : List Answered) → o.ask ≡ ask_of op → HasPlain whole op plain.bytes
    → RangeIs atom (ask_of op) plain.bytes → KeepsEdges atom o.ask plain → IsReplyTo op reply
    → after.operation ≡ None → answered ≡ answer-of atom o plain reply ∷ []
    → IsAnswered o.session op reply after answered
answered-so atom o plain whole op reply after answered asked has same keeps is_reply over only =
    record {
      over = over;
      one = answer-of atom o plain reply;
      only = only;
      session_is = refl;
      tried = tried_by o.ask plain.bytes;
      exchange = record {
        op = rw asked (asked-as atom whole op plain.bytes has same);
        edges = keeps;
        reply = refl;
        tried = refl;
      };
      is_reply = is_reply;
    }

-- one that has nothing in plain
nothing-so : (atom : ℕ) (o : Open) (op : Op) (reply : Reply) (after : Alone)
    (answered : List Answered) → o.ask ≡ ask_of op → IsReplyTo op reply → after.operation ≡ None
    → answered ≡ answer-of atom o nothing reply ∷ [] → IsAnswered o.session op reply after answered
nothing-so atom o op reply after answered asked is_reply over only =
    answered-so atom o nothing [] op reply after answered asked (none-yet [] op)
    (range_none atom (ask_of op)) (keeps_nothing atom o.ask nothing refl) is_reply over only

-- one that its admit refused
pub goes-refused : (seals : Seals) (plan : Plan) (number : ℕ) → Goes seals plan
    (Answers.Refused number) (record plan { whole = [] }) (Nexts.Reply (Errno number) plan.whole)
unfolding Goes
goes-refused seals plan number op alone _ lane (refuses stage asked none) may =
    nothing-so plan.shape.atom plan.operation op (Errno number) _ _ asked may none refl
goes-refused seals plan number op alone _ lane (begins stage supplied none) may =
    nothing-so plan.shape.atom plan.operation op (Errno number) _ _ supplied.asks may none refl
goes-refused seals plan number op alone _ lane _ may = absurd may

-- a settle ends a flush, and no other
pub some-settled : (has : Bool) (now after : Open) → (if has then Some after else None) ≡ Some now →
    (has ≡ true) × (now ≡ after)
some-settled true now after is = (refl, cc)
some-settled false now after is = absurd (cc)

none-settled : (ask : Ask) (after : Open) → (if has_lock ask then Some after else None) ≡ None →
    ask ≡ Flush
none-settled Flush after is = refl
none-settled _ after is = absurd (cc)

-- what it leaves of an operation that locks, and that it answers nothing then
settled-open : (atom : ℕ) (outcome : Outcome) (o : Open) (operation : Option Open)
    → operation ≡ Some o → has_lock o.ask ≡ true
    → (settled_as outcome operation ≡ Some (after_sync outcome o))
    × (by_settle atom operation outcome ≡ [])
settled-open atom outcome o operation is has = (rw (is, has) refl, rw (is, has) refl)

-- the finish follows
finish-follows : {seals : Seals} (plan : Plan) (now : Open) {op : Op} {alone : Alone}
    (answered : List Answered) → answered ≡ [] → IsEnding plan.shape.atom now plan.whole op alone →
    Follows seals (record plan { operation = now; stage = Ending }) op alone answered
    (Nexts.Call Calls.Finish)
finish-follows plan now answered none ending = follows-call answered none (finishes refl ending)

-- an operation that can end where it failed: a read behind the bytes that it had, before others
ending-failed : (plan : Plan) (now : Open) (op : Op) {before : Alone} (alone : Alone) (map : Map)
    → (has_lock plan.operation.ask ≡ true) × (now ≡ failing plan.operation)
    → IsUnderWay plan.shape plan.operation op before map
    → alone.operation ≡ Some (failing plan.operation) → alone.granted ≡ Some map
    → HasPlain plan.whole op alone.plain
    → ((offset len : ℕ) → plan.operation.ask ≡ Read offset len → (alone.plain ≡ before.plain)
    × (plan.operation.next < plan.operation.range.end))
    → IsEnding plan.shape.atom now plan.whole op alone
ending-failed plan now op alone map (has, is) course operation granted plain goes = rw is (record {
  operation = operation;
  map = map;
  granted = granted;
  asks = course.asks;
  known = course.known.known;
  aligned = aligned_ask plan.shape.atom (plan.shape.blocks * plan.shape.atom) plan.operation.ask
      course.proper;
  can = record { locks = has; ends = inl refl };
  plain = plain;
  total = λ unfailed. absurd (cc);
  read = λ offset len asked. rw (goes offset len asked).0 (has-read course offset len asked);
  unread = λ failed offset len asked. let it = goes offset len asked in
      rw it.0 (some-unread course it.1 offset len asked);
})

settles-no-read : {P : Type 0} (o : Open) → CanSettle o → (offset len : ℕ)
    → o.ask ≡ Read offset len → P
settles-no-read o (inl flush) offset len asked = absurd (cc)
settles-no-read o (inr forced) offset len asked = absurd (rw asked at forced.0)

pub goes-failed : (seals : Seals) (plan : Plan) (now : Open) (answer : Answer) → IsFailure answer
    → (has_lock plan.operation.ask ≡ true) × (now ≡ failing plan.operation) → Goes
    seals plan answer (record plan { operation = now; stage = Ending }) (Nexts.Call Calls.Finish)
unfolding Goes
goes-failed seals plan now Answers.Device fails is op alone _ lane (reads map _ _ _ moves _ _ _)
    may = finish-follows plan now _ refl (ending-failed plan now op _ map is moves.course
    (mapped _ moves.course.operation refl) moves.course.granted moves.plain
    (λ offset len asked. (refl, some-left plan.operation moves.next)))
goes-failed seals plan now Answers.Device fails is op alone _ lane (writes map
    piece prepared moves writing sealed) may = finish-follows plan now _ refl (ending-failed plan
    now op _ map is moves.course (mapped _ moves.course.operation refl) moves.course.granted
    (subst (λ xs. HasPlain plan.whole op xs) (sym (with-opened seals alone map plan.operation
    piece prepared.bytes moves.course.operation moves.course.granted moves.next)) sealed.so_far)
    (λ offset len asked. absurd (rw asked at writing)))
goes-failed seals plan now Answers.Device fails is op alone _ lane (settles map _ course plain can
    _) may = let it = settled-open plan.shape.atom device plan.operation alone.operation course.operation is.0 in
    finish-follows plan now _ it.1 (ending-failed plan now op _ map is course it.0
    course.granted plain (settles-no-read plan.operation can))
goes-failed seals plan now Answers.Broken fails is op alone _ lane (reads map _ _ _ moves _ _ _)
    may = finish-follows plan now _ refl (ending-failed plan now op _ map is moves.course
    (mapped _ moves.course.operation refl) moves.course.granted moves.plain
    (λ offset len asked. (refl, some-left plan.operation moves.next)))
goes-failed seals plan now Answers.Broken fails is op alone _ lane (writes map _ _ moves _ _) may =
    finish-follows plan now _ refl (ending-failed plan now op _ map is moves.course
    (mapped _ moves.course.operation refl) moves.course.granted moves.plain
    (λ offset len asked. (refl, some-left plan.operation moves.next)))
goes-failed seals plan now Answers.Broken fails is op alone _ lane (settles map _ course plain can
    _) may = let it = settled-open plan.shape.atom broken plan.operation alone.operation course.operation is.0 in
    finish-follows plan now _ it.1 (ending-failed plan now op _ map is course it.0
    course.granted plain (settles-no-read plan.operation can))
goes-failed seals plan now Answers.Device fails is op alone _ lane _ may = absurd may
goes-failed seals plan now Answers.Broken fails is op alone _ lane _ may = absurd may
goes-failed seals plan now _ fails is op alone _ lane _ may = absurd fails

-- a flush that was settled
flush-replies : (op : Op) (outcome : Outcome) → ask_of op ≡ Flush
    → IsReplyTo op (flush_reply outcome)
flush-replies Ops.Flush done flush = tt
flush-replies _ done flush = absurd (cc)
flush-replies op _ flush = (omega arith, omega arith)

flushed : (plan : Plan) (op : Op) (alone : Alone) (map : Map) (outcome : Outcome) →
    IsUnderWay plan.shape plan.operation op alone map → plan.operation.ask ≡ Flush →
    (answered : List Answered) (after : Alone)
    → answered ≡ by_settle plan.shape.atom alone.operation outcome →
    after.operation ≡ settled_as outcome alone.operation →
    IsAnswered plan.operation.session op (flush_reply outcome) after answered
flushed plan op alone map outcome course flush answered after answered_is after_is = nothing-so
    plan.shape.atom plan.operation op (flush_reply outcome) after answered course.asks
    (flush-replies op outcome (sym course.asks ∙ flush))
    (after_is ∙ rw (course.operation, flush) refl)
    (answered_is ∙ rw (course.operation, flush) refl)

pub ends-failed : (seals : Seals) (plan : Plan) (answer : Answer) → IsFailure answer →
    after_settle plan.operation (failing plan.operation) ≡ None →
    Goes seals plan answer (record plan { whole = [] }) (Nexts.Reply (Errno 5) plan.whole)
unfolding Goes
ends-failed seals plan answer fails is op alone _ lane (reads _ _ _ _ _ reading _ _) may =
    absurd (rw (none-settled plan.operation.ask _ is) at reading)
ends-failed seals plan answer fails is op alone _ lane (writes _ _ _ _ writing _) may =
    absurd (rw (none-settled plan.operation.ask _ is) at writing)
ends-failed seals plan Answers.Device fails is op alone _ lane (settles map _ course _ _ _) may =
    flushed plan op alone map device course (none-settled plan.operation.ask _ is) _ _ refl refl
ends-failed seals plan Answers.Broken fails is op alone _ lane (settles map _ course _ _ _) may =
    flushed plan op alone map broken course (none-settled plan.operation.ask _ is) _ _ refl refl
ends-failed seals plan Answers.Device fails is op alone _ lane _ may = absurd may
ends-failed seals plan Answers.Broken fails is op alone _ lane _ may = absurd may
ends-failed seals plan _ fails is op alone _ lane _ may = absurd fails

-- a settle that is done
pub goes-settled : (seals : Seals) (plan : Plan) (now : Open) → plan.stage ≡ Settling
    → after_settle plan.operation (settling plan.operation) ≡ Some now → Goes seals
    plan Answers.Done (record plan { operation = now; stage = Ending }) (Nexts.Call Calls.Finish)
unfolding Goes
goes-settled seals plan now at is op alone _ lane (settles map _ course plain _ ends) may =
    let (has, now_is) = some-settled (has_lock plan.operation.ask) now (settling plan.operation) is
    in
    let it = settled-open plan.shape.atom done plan.operation alone.operation course.operation has in
    finish-follows plan now _ it.1 (rw now_is (record {
      operation = it.0;
      map = map;
      granted = course.granted;
      asks = course.asks;
      known = course.known.known;
      aligned = aligned_ask plan.shape.atom (plan.shape.blocks * plan.shape.atom)
          plan.operation.ask course.proper;
      can = record { locks = has; ends = inr (record { pieces = ends; kept = λ forced. refl }) };
      plain = plain;
      total = λ unfailed. whole-size course ends;
      read = has-read course;
      unread = λ failed offset len asked. absurd (cc (failed, course.unfailed));
    }))
goes-settled seals plan now at is op alone _ lane (finishes stage ending) may = absurd (cc)
goes-settled seals plan now at is op alone _ lane _ may = absurd may

pub ends-settled : (seals : Seals) (plan : Plan) → plan.stage ≡ Settling →
    after_settle plan.operation (settling plan.operation) ≡ None →
    Goes seals plan Answers.Done (record plan { whole = [] }) (Nexts.Reply Done plan.whole)
unfolding Goes
ends-settled seals plan at is op alone _ lane (settles map _ course _ _ _) may =
    flushed plan op alone map done course (none-settled plan.operation.ask _ is) _ _ refl refl
ends-settled seals plan at is op alone _ lane (finishes stage ending) may = absurd (cc)
ends-settled seals plan at is op alone _ lane _ may = absurd may

-- how an operation is answered by its finish
abbrev pub end_reply : ℕ → Open → List ℕ → Reply
end_reply atom o plain =
    if o.failed then failed_reply atom o.ask plain else full_reply atom o.ask plain

-- the place of the error of a read, and its content, where it is of whole blocks
place-is : {atom place offset len : ℕ} {plain : List ℕ} → HasRead atom place offset len plain
    → max offset (offset / atom * atom + length plain) ≡ place
place-is {atom} {place} {offset} {len} {plain} it =
    let same : offset / atom * atom + length plain ≡ place = omega (arith, it.first, it.place_is) in
    ap (λ n. max offset n) same ∙ max-eq_right (omega (arith, it.place_is))

content-all : {atom : ℕ} {o : Open} {whole : List ℕ} {op : Op} {alone : Alone} (offset len : ℕ)
    → IsEnding atom o whole op alone → o.ask ≡ Read offset len → o.failed ≡ false
    → in_range atom offset len alone.plain ≡ alone.plain
content-all {atom} {o} {alone = alone} offset len ending is unfailed =
    let aligned : IsAligned atom (Read offset len) = rw is at ending.aligned in
    in_range-aligned atom offset len alone.plain aligned.0
    (let total : length alone.plain ≡ len = ending.total unfailed ∙ ap (λ a. bytes_of a) is in
    omega (arith, total))

-- a content is all of a read, and an error's place is in its range
ends-as : {atom : ℕ} {o : Open} {whole : List ℕ} (op : Op) {alone : Alone}
    → IsEnding atom o whole op alone → IsReplyTo op (end_reply atom o alone.plain)
ends-as {atom} {o} op {alone} ending = elim (either o.failed) [
  | inl failed ↦ rw (failed, ending.asks) (fails-as op ending.asks failed)
  | inr unfailed ↦ rw (unfailed, ending.asks) (full-as op ending.asks unfailed)
]
  where
    fails-as : (op : Op) → o.ask ≡ ask_of op → o.failed ≡ true
        → IsReplyTo op (failed_reply atom (ask_of op) alone.plain)
    fails-as (Ops.Read offset len) asks failed =
        let it = ending.read offset len asks in
        let left = ending.unread failed offset len asks in
        let place = place-is it in
        rw place (
          (omega arith, omega arith),
          (
            omega (arith, it.place_is),
            omega (arith, it.place_is, left),
            omega (arith, it.small),
          ),
        )
    fails-as _ asks failed = (omega arith, omega arith)

    full-as : (op : Op) → o.ask ≡ ask_of op → o.failed ≡ false
        → IsReplyTo op (full_reply atom (ask_of op) alone.plain)
    full-as (Ops.Read offset len) asks unfailed =
        let total : length alone.plain ≡ len = ending.total unfailed ∙ ap (λ a. bytes_of a) asks in
        let it = ending.read offset len asks in
        rw (content-all offset len ending asks unfailed)
        (total, it.short, omega (arith, it.place_is, total, it.small))
    full-as _ asks unfailed = tt

-- an operation that has finished
pub goes-finished : (seals : Seals) (plan : Plan) (whole spare : List ℕ) (reply : Reply) →
    plan.stage ≡ Ending → ((op : Op) (alone : Alone) →
    IsEnding plan.shape.atom plan.operation plan.whole op alone →
    reply ≡ end_reply plan.shape.atom plan.operation alone.plain) →
    Goes seals plan Answers.Done (record plan { whole = whole }) (Nexts.Reply reply spare)
unfolding Goes
goes-finished seals plan whole spare reply at is op alone _ lane (finishes stage ending) may =
    answered-so plan.shape.atom plan.operation (in_plain alone) plan.whole op reply _ _ ending.asks
    ending.plain (range_all plan.shape.atom plan.whole op alone.plain
    (subst (λ a. IsAligned plan.shape.atom a) ending.asks ending.aligned) ending.plain)
    (keeps_aligned plan.shape.atom plan.operation.ask (in_plain alone) ending.known ending.aligned)
    (rw (is op alone ending) (ends-as op ending)) refl
    (ap (λ x. by_finish plan.shape.atom x (in_plain alone)) ending.operation
    ∙ (rw (is op alone ending) refl))
goes-finished seals plan whole spare reply at is op alone _ lane (settles _ stage _ _ _ _) may =
    absurd (cc)
goes-finished seals plan whole spare reply at is op alone _ lane _ may = absurd may

-- the reply of a read: its content lies in the buffer
plain-read : (whole : List ℕ) (op : Op) (plain : List ℕ) (offset len : ℕ) →
    ask_of op ≡ Read offset len → HasPlain whole op plain → take (length plain) whole ≡ plain
plain-read whole (Ops.Read at n) plain offset len is has = has
plain-read whole _ plain offset len is has = absurd (cc)

read-ending : (plan : Plan) (op : Op) (alone : Alone) (offset len : ℕ) →
    IsEnding plan.shape.atom plan.operation plan.whole op alone → plan.operation.failed ≡ false →
    plan.operation.ask ≡ Read offset len →
    (length alone.plain ≡ len) × (take (length alone.plain) plan.whole ≡ alone.plain)
read-ending plan op alone offset len ending unfailed is = (
  ending.total unfailed ∙ ap (λ a. bytes_of a) is,
  plain-read plan.whole op alone.plain offset len (sym ending.asks ∙ is) ending.plain,
)

pub content-is : (plan : Plan) (op : Op) (alone : Alone) (offset len : ℕ) →
    IsEnding plan.shape.atom plan.operation plan.whole op alone → plan.operation.failed ≡ false →
    plan.operation.ask ≡ Read offset len →
    Content (take len plan.whole) ≡ end_reply plan.shape.atom plan.operation alone.plain
content-is plan op alone offset len ending unfailed is =
    let (size, front) = read-ending plan op alone offset len ending unfailed is in
    rw (unfailed, is) (ap (λ xs. Content xs) (ap (λ k. take k plan.whole) (sym size) ∙ front
    ∙ sym (content-all offset len ending is unfailed)))

pub has-content : (seals : Seals) (plan : Plan) (offset len : ℕ) → IsTold seals plan Answers.Done →
    plan.stage ≡ Ending → plan.operation.failed ≡ false →
    plan.operation.ask ≡ Read offset len → len ≤ length plan.whole
unfolding IsTold
has-content seals plan offset len (op, alone, _, settles _ stage _ _ _ _, may) at unfailed is =
    absurd (cc)
has-content seals plan offset len (op, alone, _, finishes stage ending, may) at unfailed is =
    let (size, front) = read-ending plan op alone offset len ending unfailed is in
    omega (arith, body-long alone.plain plan.whole front)
has-content seals plan offset len (op, alone, _, _, may) at unfailed is = absurd may

-- that of an operation that failed
failure-by : {atom : ℕ} {o : Open} {whole : List ℕ} {op : Op} {alone : Alone} (ask : Ask)
    → IsEnding atom o whole op alone → o.ask ≡ ask
    → failed_at ask (o.next * atom) ≡ failed_reply atom ask alone.plain
failure-by (Read offset len) ending is =
    ap (λ n. ErrnoAt 5 n) (sym (place-is (ending.read offset len is)))
failure-by _ ending is = refl

pub failure-is : (plan : Plan) (op : Op) (alone : Alone)
    → IsEnding plan.shape.atom plan.operation plan.whole op alone → plan.operation.failed ≡ true
    → failure_of plan.operation plan.shape.atom
    ≡ end_reply plan.shape.atom plan.operation alone.plain
failure-is plan op alone ending failed = rw failed (failure-by plan.operation.ask ending refl)

-- its place can be counted
place-by : {atom : ℕ} {o : Open} {whole : List ℕ} {op : Op} {alone : Alone} (ask : Ask)
    → IsEnding atom o whole op alone → o.ask ≡ ask → IsRead ask → o.next * atom < 2 ^ 64
place-by (Read offset len) ending is reading = omega (arith, (ending.read offset len is).small)
place-by _ ending is reading = absurd reading

pub has-place-at : (seals : Seals) (plan : Plan) → IsTold seals plan Answers.Done
    → plan.stage ≡ Ending → IsRead plan.operation.ask
    → plan.operation.next * plan.shape.atom < 2 ^ 64
unfolding IsTold
has-place-at seals plan (op, alone, _, settles _ stage _ _ _ _, may) at reading = absurd (cc)
has-place-at seals plan (op, alone, _, finishes stage ending, may) at reading =
    place-by plan.operation.ask ending refl reading
has-place-at seals plan (op, alone, _, _, may) at reading = absurd may

-- that of any other
pub done-is : (atom : ℕ) (o : Open) (plain : List ℕ) → o.failed ≡ false →
    ((offset : ℕ) × (len : ℕ) × (fua : Bool) × (o.ask ≡ Write offset len fua)) ⊎ (o.ask ≡ Flush) →
    Done ≡ end_reply atom o plain
done-is atom o plain unfailed (inl (offset, len, fua, is)) = rw (unfailed, is) refl
done-is atom o plain unfailed (inr is) = rw (unfailed, is) refl

-- what is done is the settle or the finish
pub done-where : (seals : Seals) (plan : Plan) → IsTold seals plan Answers.Done →
    (plan.stage ≡ Settling → ⊥) → (plan.stage ≡ Ending → ⊥) → ⊥
unfolding IsTold
done-where seals plan (op, alone, _, settles _ stage _ _ _ _, may) not_settling not_ending =
    not_settling stage
done-where seals plan (op, alone, _, finishes stage ending, may) not_settling not_ending =
    not_ending stage
done-where seals plan (op, alone, _, _, may) not_settling not_ending = may

-- the finish leaves no call, so fewer than there were
some-call : (plan : Plan) (stage : Stage) (now : Open) → plan.stage ≡ stage →
    0 < left_at plan.shape.atom plan.operation stage →
    calls_left (record plan { operation = now; stage = Ending }) < calls_left plan
unfolding calls_left
some-call plan stage now is some = rw is some

pub fewer-settled : (plan : Plan) (now : Open) → plan.stage ≡ Settling →
    calls_left (record plan { operation = now; stage = Ending }) < calls_left plan
fewer-settled plan now is = some-call plan Settling now is (omega arith)

pub fewer-failed : (seals : Seals) (plan : Plan) (now : Open) (answer : Answer) → IsFailure answer →
    IsTold seals plan answer →
    calls_left (record plan { operation = now; stage = Ending }) < calls_left plan
unfolding IsTold
fewer-failed seals plan now answer fails (op, alone, _, reads _ _ _ _ moves _ _ _, may) =
    some-call plan _ now moves.stage (omega arith)
fewer-failed seals plan now answer fails (op, alone, _, writes _ _ _ moves _ _, may) =
    some-call plan _ now moves.stage (omega arith)
fewer-failed seals plan now answer fails (op, alone, _, settles _ stage _ _ _ _, may) =
    fewer-settled plan now stage
fewer-failed seals plan now Answers.Device fails (op, alone, _, _, may) = absurd may
fewer-failed seals plan now Answers.Broken fails (op, alone, _, _, may) = absurd may
fewer-failed seals plan now _ fails (op, alone, _, _, may) = absurd fails
