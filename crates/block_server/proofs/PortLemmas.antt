-- What an operation on a lane is to the port.
use Rattle.std.proofs.Common.{◌≡◌, ◌⊎◌, inl, inr, ℕ, List, [], ◌∷◌, Option, Some, None, refl, sym}
use Rattle.std.proofs.Common.{◌∙◌, is_some, subst, true, false}
use Rattle.plain_disk.specs.declared.operation.Op.{Op}
use Rattle.plain_disk.specs.declared.operation.Reply.{Reply}
use Rattle.shared_volume.specs.Executing.{HasExecuted, HasStopped, HasUnderWay}
use Rattle.shared_volume.specs.Histories.{alone_by}
use Rattle.shared_volume.specs.Lanes.{IsAtRest, Knowing, StandsSo, seals_at}
use Rattle.shared_volume.specs.declared.asking.SharedEvent.{SharedEvent}
use Rattle.shared_volume.specs.declared.asking.SharedOutcome.{SharedOutcome}
use Rattle.volume_cell.specs.Passes.{IsSamePass}
use Rattle.volume_cell.specs.declared.history.Call.{Call}
use Rattle.block_server.specs.Ports.{Did, HasOnly, IsLeftBy}

-- a lane of which no session found the history full is at rest
pub rests-if-not : {C : Type 0} (sealed opened : C → ℕ → List ℕ → List ℕ) (limit : ℕ)
    (v : Knowing C) (left : Option ℕ) → is_some left ≡ false
    → IsLeftBy sealed opened limit v left → IsAtRest sealed opened v
rests-if-not sealed opened limit v None is stands = stands
rests-if-not sealed opened limit v (Some session) is stands = absurd (true-false is)
  where
    true-false : true ≡ false → ⊥
    true-false same = absurd (cc)

module _ {C : Type 0} (sealed opened : C → ℕ → List ℕ → List ℕ) {X : Type 0} (cell : X)
    (session : ℕ) (op : Op) (v w : Knowing C) (same : IsSamePass v w)
  where
    pub did-replied : (reply : Reply) → HasExecuted sealed opened session op v w reply → (n : ℕ)
        × Did sealed opened session cell v None session cell w None
        (record { op = op; reply = reply; tried = n } ∷ [])
    did-replied reply executed = (
      executed.tried,
      record {
        executed = record { cell_is = refl; answers = executed.answers; same = same };
        session_is = refl;
        left = inl refl;
      },
    )

    pub did-stopped : (limit : ℕ) → HasStopped sealed opened limit session op v w
        → Did sealed opened session cell v None session cell w (Some session) []
    did-stopped limit stopped = record {
      executed = record { cell_is = refl; answers = stopped.answers; same = same };
      session_is = refl;
      left = inr (refl, refl);
    }

    pub left-stopped : (limit : ℕ) → HasStopped sealed opened limit session op v w
        → IsAtRest sealed opened v → IsLeftBy sealed opened limit w (Some session)
    left-stopped limit stopped rests = (by stopped.left, stopped.full)
      where
        by : (w.calls ≡ v.calls)
            ⊎ StandsSo sealed opened w (λ start alone. HasUnderWay session op alone)
            → HasOnly sealed opened session w
        by (inl none) = inl (λ start is.
            subst (λ (calls : List (Call SharedEvent SharedOutcome)).
            (alone_by (seals_at sealed opened start) start calls).operation ≡ None) (sym none)
            (rests start (sym same.start ∙ is)))
        by (inr under_way) = inr (λ start is.
            let (going, its) = under_way start is in (going.0, going.1, going.2.0))
