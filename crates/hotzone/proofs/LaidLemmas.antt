-- A part that is sealed anew before it is saved, and written as it was sealed.
use Rattle.std.proofs.Common.{◌≡◌, ◌∙◌, ℕ, ◌+◌, ◌≤◌, ◌==◌, List, Bool, true, false, Result, Ok, Err}
use Rattle.std.proofs.Common.{length, take, refl, sym, ap, subst}
use Rattle.std.proofs.lemmas.Bool.{eqb-true}
use Rattle.std.specs.Prelude.{MatchBool}
use Rattle.hotzone.proofs.PartLemmas.{part-front}
use Rattle.hotzone.specs.Laid.{HasSealed, IsSealed}
use Rattle.hotzone.specs.Making.{IsPut}
use Rattle.hotzone.specs.Sites.{bytes_at}
use Rattle.hotzone.specs.Steps.{part_in, resealed}
use Rattle.hotzone.specs.declared.scratch.Scratch.{Scratch}
use Rattle.hotzone.specs.declared.steps.Stop.{Stop}
use Rattle.hotzone.specs.declared.worker.NextCall.{NextCall}
use Rattle.hotzone.specs.declared.worker.Stepped.{Stepped}
use Rattle.hotzone.specs.declared.worker.Worker.{Worker}
use Rattle.hotzone.specs.declared.worker.ZoneFault.{ZoneFault}
use Rattle.volume_machine.specs.Seals.{Seals}
use Rattle.volume_machine.specs.declared.keys.Keys.{Keys}

-- one that was sealed is the zone's first one where nothing was done before
pub sealed-first : {C : Type 0} (seals : Seals) (w : Worker C) (done : ℕ) (sealed : List ℕ)
    → bytes_at w.site 0 ≤ length sealed
    → take (bytes_at w.site done) sealed
    ≡ resealed seals (w.site.blocks.start + done) (part_in w done)
    → MatchBool (done == 0) (HasSealed seals w.site (part_in w 0) sealed) (Unit {0})
sealed-first seals w done sealed room is = go (done == 0) refl
  where
    go : (b : Bool) → (done == 0) ≡ b
        → MatchBool b (HasSealed seals w.site (part_in w 0) sealed) (Unit {0})
    go true zero = record {
      room = room;
      is = subst (λ d. take (bytes_at w.site d) sealed
          ≡ resealed seals (w.site.blocks.start + d) (part_in w d)) (eqb-true _ _ zero) is;
    }
    go false far = tt

-- it is there where it is said to be
module _ {C : Type 0} (seals : Seals) (w : Worker C) (scratch : Scratch)
    (is : scratch.is_first ≡ true) (sealed : IsSealed seals w scratch) where
  sealed-there : HasSealed seals w.site (part_in w 0) scratch.sealed
  sealed-there =
      subst (λ b. MatchBool b (HasSealed seals w.site (part_in w 0) scratch.sealed) (Unit {0})) is
      sealed

  module _ (done len : ℕ) (size : len ≡ bytes_at w.site done) where
    pub sealed-long : len ≤ length scratch.sealed
    sealed-long =
        subst (λ n. n ≤ length scratch.sealed) (sym size)
        (part-front w.site done (length scratch.sealed) sealed-there.room)

    pub sealed-is : done ≡ 0
        → take len scratch.sealed ≡ resealed seals (w.site.blocks.start + done) (part_in w done)
    sealed-is none =
        ap (λ n. take n scratch.sealed) size
        ∙ subst (λ d. take (bytes_at w.site d) scratch.sealed
        ≡ resealed seals (w.site.blocks.start + d) (part_in w d)) (sym none) sealed-there.is

pub sealed-nowhere : {C : Type 0} (seals : Seals) (w : Worker C) (scratch : Scratch)
    → scratch.is_first ≡ false → IsSealed seals w scratch
sealed-nowhere seals w scratch is =
    subst (λ b. MatchBool b (HasSealed seals w.site (part_in w 0) scratch.sealed) (Unit {0}))
    (sym is) tt

-- so when another call is put in
pub sealed-put : {C : Type 0} (seals : ℕ → Keys C → Seals) (before after : Worker C)
    (next : NextCall) (answer : Result Stepped Stop) (result : Result Stepped ZoneFault)
    (scratch : Scratch) → IsPut before next after answer result
    → IsSealed (seals before.site.atom before.keys) before scratch
    → IsSealed (seals after.site.atom after.keys) after scratch
sealed-put {C} seals before after next (Ok stepped) result scratch put is =
    subst (λ (w : Worker C). IsSealed (seals w.site.atom w.keys) w scratch) (sym put.0) is
sealed-put {C} seals before after next (Err stop) result scratch put is =
    subst (λ (w : Worker C). IsSealed (seals w.site.atom w.keys) w scratch) (sym put.0) is
