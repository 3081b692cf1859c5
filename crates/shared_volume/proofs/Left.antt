-- What a lane has under way where the full history cut its operation off.
use Rattle.std.proofs.Common.{◌≡◌, ℕ, List, [], length, refl, sym, ◌∙◌, subst, inr}
use Rattle.lane_plan.specs.Plans.{Awaits, HasPlain, IsBegun, session_of}
use Rattle.lane_plan.specs.Plans.{refuses, begins, asks, reads, writes, settles, finishes}
use Rattle.lane_plan.specs.declared.calls.Call.{Call}
use Rattle.lane_plan.specs.declared.plan.Plan.{Plan}
use Rattle.lane_plan.specs.declared.plan.Shape.{Shape}
use Rattle.plain_disk.specs.declared.operation.Op.{Op}
use Rattle.plain_disk.specs.declared.operation.Op.TheVariants as Ops
use Rattle.shared_volume.specs.Executing.{HasStopped, HasTried, HasUnderWay, IsOnTheWay}
use Rattle.shared_volume.specs.Histories.{alone_by}
use Rattle.shared_volume.specs.Lanes.{Knowing, seals_at}
use Rattle.shared_volume.proofs.Going.{silent-on}
use Rattle.volume_machine.specs.Alone.{Alone}
use Rattle.volume_machine.specs.Seals.{Seals}

has-tried : (whole : List ℕ) (op : Op) (plain : List ℕ) → HasPlain whole op plain
    → HasTried op plain
has-tried whole (Ops.Read offset len) plain has = tt
has-tried whole (Ops.Write offset body fua) plain has = has
has-tried whole (Ops.Zeroes offset len fua) plain has = has
has-tried whole Ops.Flush plain has = tt

nothing-tried : (op : Op) (plain : List ℕ) → plain ≡ [] → HasTried op plain
nothing-tried (Ops.Read offset len) plain none = tt
nothing-tried (Ops.Write offset body fua) plain none = rw none refl
nothing-tried (Ops.Zeroes offset len fua) plain none = rw none refl
nothing-tried Ops.Flush plain none = tt

-- a lane whose plan awaits an answer behind the admit has the plan's operation under way
under-way : (seals : Seals) (plan : Plan) (op : Op) (alone : Alone) (called : Call)
    → IsBegun called → Awaits seals plan op alone called
    → HasUnderWay (session_of plan) op alone
under-way seals plan op alone _ begun (refuses stage asking rests) = absurd begun
under-way seals plan op alone _ begun (begins stage supplied rests) = absurd begun
under-way seals plan op alone _ begun (asks stage supplied operation granted plain locks) =
    ((_, operation, (refl, supplied.asks)), nothing-tried op alone.plain plain)
under-way seals plan op alone _ begun (reads map piece buffer len moves is_read size front) =
    ((_, moves.course.operation, (refl, moves.course.asks)), has-tried _ op alone.plain moves.plain)
under-way seals plan op alone _ begun (writes map piece prepared moves is_write sealed) =
    ((_, moves.course.operation, (refl, moves.course.asks)), has-tried _ op alone.plain moves.plain)
under-way seals plan op alone _ begun (settles map stage course plain can end) =
    ((_, course.operation, (refl, course.asks)), has-tried _ op alone.plain plain)
under-way seals plan op alone _ begun (finishes stage ending) =
    ((_, ending.operation, (refl, ending.asks)), has-tried _ op alone.plain ending.plain)

-- where the call that comes next isn't made
pub stops-so : {C : Type 0} (sealed opened : C → ℕ → List ℕ → List ℕ) (limit number : ℕ)
    (shape : Shape) (plan : Plan) (session : ℕ) (op : Op) (first v w : Knowing C) (called : Call)
    → IsBegun called → IsOnTheWay sealed opened number shape plan session op first v called
    → w.start ≡ v.start → w.calls ≡ v.calls → length w.history ≡ limit
    → HasStopped sealed opened limit session op first w
stops-so sealed opened limit number shape plan session op first v w called begun way start_is same
    full = record {
      answers = silent-on sealed opened first v w way.silent same;
      full = full;
      left = inr (λ s is.
          let under = under-way (seals_at sealed opened s) plan op
          (alone_by (seals_at sealed opened s) s v.calls) called begun (way.awaits s (sym start_is ∙ is))
          in
          subst (λ (n : ℕ). HasUnderWay n op (alone_by (seals_at sealed opened s) s w.calls))
          way.session_is
          (subst (λ cs. HasUnderWay (session_of plan) op (alone_by (seals_at sealed opened s) s cs))
          (sym same) under));
    }
