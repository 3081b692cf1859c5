-- Calls of a worker on a volume at hand, one after the other.
use Rattle.std.proofs.Common.{List, [], ap, refl, subst, ℕ, ◌++◌, ◌∙◌, ◌∷◌, ◌≡◌}
use Rattle.volume_machine.specs.Seals.{Seals, seals_of}
use Rattle.volume_machine.specs.States.{State}
use Rattle.crash_laws.specs.HeaderAreas.Headers.{Header, Layout}
use Rattle.base_terms.specs.declared.disk_sizes.Sizes.{Sizes}
use Rattle.reenc_worker.specs.Answers.{AreAnswers}
use Rattle.reenc_worker.specs.declared.ends.WorkAnswer.{WorkAnswer}
use Rattle.reenc_worker.specs.declared.ends.WorkerEnd.{WorkerEnd}
use Rattle.volume_core.specs.Zones.{IsReadBy}
use Rattle.volume_laws.specs.Converting.{IsInOrder}
use Rattle.volume_laws.proofs.HoldersKept.{atom_kept}
use Rattle.volume_laws.proofs.VolumesKept.{step_in_order}
use Rattle.volume_machine.specs.Readings.{Reading}
use Rattle.volume_machine.specs.WorkSteps.{WorkStep, Worked}
use Rattle.volume_machine.specs.declared.keys.Keys.{Keys}
use Rattle.volume_core.specs.WorkerLoop.Answering.{HasAnswered}
use Rattle.volume_laws.proofs.WorkerRuns.WorkJoins.{worked_joined, worked_none, worked_one}
use Rattle.volume_laws.specs.WorkerRuns.Conversions.{HasConverted, MayConvert}
use Rattle.volume_laws.specs.WorkerRuns.Steps.{HasWorked, told_by}
use Rattle.hotzone.specs.ZoneEvents.Readings.{reading_of}

module _ {C : Type 0} (seal unseal : C → ℕ → List ℕ → List ℕ) where
  pub answered_none : (volume : State (Keys C)) → HasAnswered seal unseal volume volume []
  answered_none volume = λ sizes read order. (
    worked_none (reading_of sizes) (seals_of seal unseal volume.map.atom volume.keys) volume,
    record { read = read; order = order; keys = refl; atom = refl },
  )

  pub answered_one : (old new : State (Keys C)) (worked : Worked)
      → ((sizes : Sizes) → IsReadBy sizes old → WorkStep (reading_of sizes)
      (seals_of seal unseal old.map.atom old.keys) old new worked)
      → ((sizes : Sizes) → IsReadBy sizes old → IsReadBy sizes new) → new.keys ≡ old.keys
      → HasAnswered seal unseal old new (told_by worked ∷ [])
  answered_one old new worked step stays keys = λ sizes read order.
      let made = step sizes read in
      let seals = seals_of seal unseal old.map.atom old.keys in (
        worked_one (reading_of sizes) seals old new worked made,
        record {
          read = stays sizes read;
          order = step_in_order (reading_of sizes) seals old new worked order made;
          keys = keys;
          atom = atom_kept order.courses made;
        },
      )

  pub answered_more : (old middle new : State (Keys C)) (xs ys : List WorkAnswer)
      → HasAnswered seal unseal old middle xs → HasAnswered seal unseal middle new ys
      → HasAnswered seal unseal old new (xs ++ ys)
  answered_more old middle new xs ys before behind = λ sizes read order.
      let (front, stays) = before sizes read order in
      let (rear, stays_on) = behind sizes stays.read stays.order in
      let same : seals_of seal unseal middle.map.atom middle.keys
      ≡ seals_of seal unseal old.map.atom old.keys =
      ap (λ atom. seals_of seal unseal atom middle.keys) stays.atom
      ∙ ap (λ keys. seals_of seal unseal old.map.atom keys) stays.keys in (
        worked_joined (reading_of sizes) (seals_of seal unseal old.map.atom old.keys) old middle new
            xs ys front (subst (λ seals. HasWorked (reading_of sizes) seals middle new ys) same
            rear),
        record {
          read = stays_on.read;
          order = stays_on.order;
          keys = stays_on.keys ∙ stays.keys;
          atom = stays_on.atom ∙ stays.atom;
        },
      )

  -- the steps that were made
  pub by_steps : (old new : State (Keys C)) (end : WorkerEnd)
      → (answers : List WorkAnswer) × HasAnswered seal unseal old new answers
      × AreAnswers end answers
      → (sizes : Sizes) → IsReadBy sizes old → IsInOrder (reading_of sizes) old
      → (answers : List WorkAnswer) × HasWorked (reading_of sizes)
      (seals_of seal unseal old.map.atom old.keys) old new answers × AreAnswers end answers
  by_steps old new end (answers, did, are) = λ sizes read order.
      let (worked, stays) = did sizes read order in (answers, worked, are)

  -- what the last call leaves
  pub by_law : (old new : State (Keys C)) (end : WorkerEnd)
      → ((reading : Reading) (seals : Seals) (layout : Layout) (header : Header (List ℕ))
      (old new : State (Keys C)) (answers : List WorkAnswer) (end : WorkerEnd)
      → MayConvert reading layout header old → HasWorked reading seals old new answers
      → AreAnswers end answers → HasConverted reading seals layout header old new end)
      → (answers : List WorkAnswer) × HasAnswered seal unseal old new answers
      × AreAnswers end answers
      → (sizes : Sizes) (layout : Layout) (header : Header (List ℕ)) → IsReadBy sizes old
      → MayConvert (reading_of sizes) layout header old
      → HasConverted (reading_of sizes) (seals_of seal unseal old.map.atom old.keys) layout header
      old new end
  by_law old new end law (answers, did, are) = λ sizes layout header read may.
      let (worked, stays) = did sizes read may.order in
      law (reading_of sizes) (seals_of seal unseal old.map.atom old.keys) layout header old new
      answers end may worked are
