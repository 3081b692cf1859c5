-- Plans before their grant, and what a grant makes of them.
use Rattle.std.proofs.Common.{List, None, Some, [], ap, arith, false, length, max, refl, replicate}
use Rattle.std.proofs.Common.{subst, true, sym, take, ℕ, ◌*◌, ◌+◌, ◌-◌, ◌<◌, ◌∙◌, ◌≡◌, ◌≤◌}
use Rattle.std.proofs.Math.Nat.{le-max_right}
use Rattle.std.proofs.lemmas.List.{take-take}
use Rattle.plain_disk.specs.declared.operation.Op.{Op}
use Rattle.segment_map.specs.declared.map.Map.{Map}
use Rattle.sector_disk.specs.Geometry.{IsAtom}
use Rattle.volume_machine.specs.Alone.{Alone, alone_after, answered_alone, in_plain, opened_by}
use Rattle.volume_machine.specs.Alone.{MayWrite, MeetsAlone}
use Rattle.volume_machine.specs.Answers.{Answered}
use Rattle.volume_machine.specs.Asks.{range_of, wrong_ask}
use Rattle.volume_machine.specs.Edges.{with_bytes}
use Rattle.volume_machine.specs.Seals.{Seals}
use Rattle.volume_machine.specs.States.{begun}
use Rattle.volume_machine.specs.Steps.{CanRead, CanWrite}
use Rattle.volume_machine.specs.declared.{ask.Ask.Ask, grant.Grant.Grant, open.Open.Open}
use Rattle.volume_machine.proofs.Soundness.{ordered, proper-inside}
use Rattle.lane_plan.specs.Calls.{ask_of, event_of, outcome_of}
use Rattle.lane_plan.specs.Plans.{Awaits, Follows, Goes, HasRest, IsAligned, IsBack, IsGrantFor}
use Rattle.lane_plan.specs.Plans.{IsShape}
use Rattle.lane_plan.specs.Plans.{IsSupplied, IsTold, MayAnswer, asks, begins, buffered, calls_left}
use Rattle.lane_plan.specs.Plans.{finishes, first_call, is_zeroes, left_at, part_of, reads}
use Rattle.lane_plan.specs.Plans.{refuses, settles, shape_of, writes}
use Rattle.lane_plan.specs.declared.plan.Stage.TheVariants.{Beginning, Refusing, Waiting}
use Rattle.lane_plan.specs.declared.{calls.Answer.Answer, calls.Call.Call, plan.Plan.Plan}
use Rattle.lane_plan.specs.declared.{plan.Shape.Shape}
use Rattle.lane_plan.proofs.PlanAligned.{aligned_ask, keeps_aligned, no_edges}
use Rattle.lane_plan.proofs.PlanCourse.{none-yet, some-left}
use Rattle.lane_plan.proofs.PlanSizes.{body-long, size-none, some-atom}
use Rattle.plain_disk.specs.declared.operation.Op.TheVariants as Ops
use Rattle.lane_plan.specs.declared.calls.Answer.TheVariants as Answers
use Rattle.lane_plan.specs.declared.calls.Call.TheVariants as Calls
use Rattle.lane_plan.specs.declared.calls.Next.TheVariants as Nexts

-- the call that a plan awaits the answer to met its conditions
awaits-meets : (seals : Seals) (plan : Plan) (op : Op) (alone : Alone) (call : Call) →
    Awaits seals plan op alone call → (lane : ℕ) → MeetsAlone seals alone (event_of lane call)
unfolding MeetsAlone
awaits-meets seals plan op alone _ (refuses stage asked none) lane = none
awaits-meets seals plan op alone _ (begins stage supplied none) lane = none
awaits-meets seals plan op alone _ (asks stage supplied is ungranted none has) lane = (_, is, has)
awaits-meets seals plan op alone _ (reads map piece buffer len moves reading size within) lane =
    let can : CanRead map len plan.operation = record {
      reads = reading;
      has = record { some = some-left plan.operation moves.next; goes_on = moves.course.unfailed };
      piece = piece;
      next = moves.next;
      size = rw moves.course.atom size;
    } in
    (plan.operation, moves.course.operation, (map, moves.course.granted, can))
awaits-meets seals plan op alone _ (writes map piece prepared moves writing is_sealed) lane =
    let course = moves.course in
    let known : IsAtom map.atom = rw course.atom course.known.known in
    let is : IsAligned map.atom plan.operation.ask = rw course.atom (aligned_ask plan.shape.atom
    (plan.shape.blocks * plan.shape.atom) plan.operation.ask course.proper) in
    let can : CanWrite map prepared.bytes plan.operation = record {
      writes = writing;
      edges = course.fetched
          ∙ sym (ap (λ xs. length xs) (no_edges map.atom plan.operation.ask known is));
      has = record { some = some-left plan.operation moves.next; goes_on = moves.course.unfailed };
      piece = piece;
      next = moves.next;
      are = record { size = rw moves.course.atom is_sealed.size; are_bytes = is_sealed.are_bytes };
    } in
    let may : MayWrite seals alone map prepared.bytes plan.operation = record {
      can = can;
      keeps = keeps_aligned map.atom plan.operation.ask (with_bytes (in_plain alone)
          (opened_by seals map (Some plan.operation) prepared.bytes)) known is;
    } in
    (plan.operation, moves.course.operation, (map, moves.course.granted, may))
awaits-meets seals plan op alone _ (settles map stage course plain can ends) lane =
    (plan.operation, course.operation, can)
awaits-meets seals plan op alone _ (finishes stage ending) lane =
    (plan.operation, ending.operation, (ending.map, ending.granted, ending.can))

-- so it follows where nothing was answered
pub follows-call : {seals : Seals} {plan : Plan} {op : Op} {alone : Alone} {call : Call}
    (answered : List Answered) → answered ≡ [] → Awaits seals plan op alone call →
    Follows seals plan op alone answered (Nexts.Call call)
follows-call {seals} {plan} {op} {alone} {call} answered none awaits =
    (none, awaits-meets seals plan op alone call awaits, awaits)

-- an answer that leaves an operation all of whose pieces so far were made
abbrev pub IsBackBy : Seals → Plan → Answer → Plan → Map → Type 0
IsBackBy seals old answer mid map = (op : Op) (alone : Alone) (call : Call) (lane : ℕ)
    → Awaits seals old op alone call → MayAnswer old call answer
    → (answered_alone old.shape.atom alone (event_of lane call) (outcome_of answer) ≡ []) × IsBack
    mid op (alone_after old.shape.atom seals alone (event_of lane call) (outcome_of answer)) map

pub goes-by : (seals : Seals) (old mid new : Plan) (answer : Answer) (map : Map) (result : Call)
    → IsBackBy seals old answer mid map → ((op : Op) (alone : Alone) → IsBack mid op alone map
    → Awaits seals new op alone result) → Goes seals old answer new (Nexts.Call result)
unfolding Goes
goes-by seals old mid new answer map result back on op alone call lane awaits may =
    let it = back op alone call lane awaits may in follows-call _ it.0 (on op _ it.1)

pub told-by : (seals : Seals) (old mid : Plan) (answer : Answer) (map : Map) →
    IsBackBy seals old answer mid map → IsTold seals old answer →
    (op : Op) × (alone : Alone) × IsBack mid op alone map
unfolding IsTold
told-by seals old mid answer map back (op, alone, call, awaits, may) =
    (op, _, (back op alone call 0 awaits may).1)

-- the operation as its grant has it
abbrev pub opened : Open → Grant → Open
opened o grant = record {
  session = o.session;
  ask = o.ask;
  range = grant.range;
  fetched = 0;
  next = grant.range.start;
  settled = false;
  failed = false;
}

back-begun : (plan : Plan) (now : Open) (op : Op) (alone : Alone) (grant : Grant)
    → IsSupplied plan.shape plan.operation plan.zeroes plan.whole plan.part op
    → alone.operation ≡ Some (begun plan.shape.atom plan.operation.session plan.operation.ask)
    → alone.granted ≡ Some grant.map → alone.plain ≡ [] → IsGrantFor plan grant → now
    ≡ opened plan.operation grant → IsBack (record plan { operation = now }) op alone grant.map
back-begun plan now op alone grant supplied operation granted plain fit is =
    let now_is : now ≡ begun plan.shape.atom plan.operation.session plan.operation.ask =
    rw (is, fit.range_is) refl in
    rw now_is (record {
      course = record {
        known = supplied.known;
        operation = operation;
        granted = granted;
        asks = supplied.asks;
        atom = fit.atom;
        blocks = fit.blocks;
        proper = supplied.proper;
        range_is = refl;
        inside = proper-inside plan.shape.atom plan.shape.blocks plan.operation.ask
            (some-atom plan.shape.atom supplied.known.known) supplied.proper;
        starts = omega arith;
        within = ordered plan.shape.atom plan.operation.ask
            (some-atom plan.shape.atom supplied.known.known);
        unfailed = refl;
        unsettled = refl;
        fetched = refl;
        size = ap (λ xs. length xs) plain
            ∙ size-none (range_of plan.shape.atom plan.operation.ask).start plan.shape.atom;
      };
      writes = supplied.writes;
      plain = rw plain (none-yet plan.whole op);
      rest = λ some. supplied.rest;
      part = λ some. supplied.room;
    })

-- a grant makes the operation go on
pub back-held : (seals : Seals) (plan : Plan) (now : Open) (grant : Grant) →
    now ≡ opened plan.operation grant →
    IsBackBy seals plan (Answers.Held grant) (record plan { operation = now }) grant.map
back-held seals plan now grant is op alone _ lane (refuses stage asked none) may =
    absurd (may.0 stage)
back-held seals plan now grant is op alone _ lane (begins stage supplied none) may =
    (refl, back-begun plan now op _ grant supplied refl refl refl may.1 is)
back-held seals plan now grant is op alone _ lane (asks stage supplied operation ungranted
    plain has) may = (refl, back-begun plan now op _ grant supplied operation refl plain may is)
back-held seals plan now grant is op alone _ lane _ may = absurd may

-- at most a call a block, and one more
pub fewer-held : (seals : Seals) (old new : Plan) (grant : Grant) →
    IsTold seals old (Answers.Held grant) →
    calls_left new ≤ 1 + (grant.range.end - grant.range.start) → calls_left new < calls_left old
unfolding IsTold calls_left
fewer-held seals old new grant (op, alone, _, refuses stage asked none, may) most =
    absurd (may.0 stage)
fewer-held seals old new grant (op, alone, _, begins stage supplied none, may) most =
    let most_by = rw may.1.range_is at most in
    omega (arith, ap (λ s. left_at old.shape.atom old.operation s) stage)
fewer-held seals old new grant (op, alone, _, asks stage _ _ _ _ _, may) most =
    let most_by = rw may.range_is at most in
    omega (arith, ap (λ s. left_at old.shape.atom old.operation s) stage)
fewer-held seals old new grant (op, alone, _, _, may) most = absurd may

-- where others have the blocks it asks again
pub goes-waiting : (seals : Seals) (plan : Plan) (other : ℕ) →
    Goes seals plan (Answers.Waiting other) (record plan { stage = Waiting }) (Nexts.Call Calls.Ask)
unfolding Goes
goes-waiting seals plan other op alone _ lane (refuses stage asked none) may = absurd (may.0 stage)
goes-waiting seals plan other op alone _ lane (begins stage supplied none) may =
    follows-call _ refl (asks refl supplied refl refl refl may.1)
goes-waiting seals plan other op alone _ lane (asks stage supplied operation ungranted plain has)
    may = follows-call _ refl (asks refl supplied operation refl plain has)
goes-waiting seals plan other op alone _ lane _ may = absurd may

-- plans that have made no call
pub awaits-refusal : {seals : Seals} (plan : Plan) (op : Op) {alone : Alone} (session : ℕ) →
    alone.operation ≡ None → plan.operation.session ≡ session → plan.operation.ask ≡ ask_of op →
    plan.stage ≡ Refusing → Awaits seals plan op alone (Calls.Admit session (ask_of op))
awaits-refusal plan op session none session_is asked stage =
    rw (← session_is, ← asked) (refuses stage asked none)

-- the buffer of an operation, made long enough, with zeros where it is to have them
body-in : (op : Op) (before whole : List ℕ) (len : ℕ) →
    ((offset : ℕ) (body : List ℕ) (fua : Rattle.std.proofs.Common.Bool) →
    op ≡ Ops.Write offset body fua → take (length body) before ≡ body) →
    (is_zeroes op ≡ true → take len whole ≡ replicate len 0) →
    len ≡ buffered op → length whole ≡ max (length before) len →
    (is_zeroes op ≡ false → take (length before) whole ≡ before) → HasRest whole op
body-in (Ops.Read offset size) before whole len body zeros is long front =
    omega (arith, le-max_right (length before) len)
body-in (Ops.Write offset text fua) before whole len body zeros is long front =
    let has = body offset text fua refl in let short = body-long text before has in
    sym (take-take (length text) (length before) whole short)
    ∙ ap (λ xs. take (length text) xs) (front refl) ∙ has
body-in (Ops.Zeroes offset n fua) before whole len body zeros is long front =
    subst (λ k. take k whole ≡ replicate k 0) is (zeros refl)
body-in Ops.Flush before whole len body zeros is long front = tt

pub awaits-admit : {seals : Seals} (plan : Plan)
    (op : Op) {alone : Alone} (session : ℕ) (shape : Shape) (before part : List ℕ) (len room : ℕ)
    → alone.operation ≡ None → plan.operation.session ≡ session
    → plan.operation.ask ≡ ask_of op → plan.stage ≡ Beginning → plan.shape ≡ shape
    → IsShape shape → wrong_ask shape.atom (shape.blocks * shape.atom) (ask_of op) ≡ None
    → ((offset : ℕ) (body : List ℕ) (fua : Rattle.std.proofs.Common.Bool)
    → op ≡ Ops.Write offset body fua → take (length body) before ≡ body)
    → plan.zeroes ≡ is_zeroes op → (is_zeroes op ≡ true → take len plan.whole ≡ replicate len 0)
    → len ≡ buffered op → length plan.whole ≡ max (length before) len
    → (is_zeroes op ≡ false → take (length before) plan.whole ≡ before)
    → length plan.part ≡ max (length part) room → room ≡ part_of shape.atom (ask_of op)
    → Awaits seals plan op alone (Calls.Admit session (ask_of op))
awaits-admit plan op session shape before part len room none session_is asked stage
    shape_is known proper body zeroes_is zeros len_is long front as_long room_is =
    let supplied : IsSupplied plan.shape plan.operation plan.zeroes plan.whole plan.part op =
    record {
      known = rw shape_is known;
      asks = asked;
      writes = zeroes_is;
      proper = rw (shape_is, asked) proper;
      rest = body-in op before plan.whole len body zeros len_is long front;
      room = rw (shape_is, asked) (omega (arith, le-max_right (length part) room));
    } in
    rw (← session_is, ← asked) (begins stage supplied none)

-- what a grant of a plan's blocks is, to those who know its first call
pub grant-for : (plan : Plan) (grant : Grant) (session : ℕ) (ask : Ask)
    → first_call plan ≡ Calls.Admit session ask
    → grant.map.atom ≡ (shape_of plan).atom → grant.map.blocks ≡ (shape_of plan).blocks
    → grant.range ≡ range_of (shape_of plan).atom ask → IsGrantFor plan grant
grant-for plan grant session ask first atom blocks range =
    let same : plan.operation.ask ≡ ask = cc in
    record {
      atom = atom;
      blocks = blocks;
      range_is = range ∙ ap (λ a. range_of plan.shape.atom a) (sym same);
    }
