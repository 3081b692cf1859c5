-- Lemmas on how a device call moves the tables.
use Rattle.std.proofs.Common.{◌≡◌, ℕ, ◌≤◌, zero, suc, List, [], ◌∷◌, Some, Err}
use Rattle.std.proofs.Common.{refl, subst, inl, inr, ◌∙◌}
use Rattle.base_terms.specs.declared.failed.Failed.{Failed}
use Rattle.base_terms.specs.Blocks.{changed}
use Rattle.base_terms.specs.Causes.{Rose}
use Rattle.sector_disk.specs.Cells.{Cell, tried, IsTried}
use Rattle.sector_disk.specs.Devices.{Device, WriteCall}
use Rattle.sector_disk.specs.Steps.{Told, then_table, then_tried, IsMoved, Moves}

-- tables that are told move by the step to the next table
pub moves : (Step : List Cell → List Cell → Type 0) (old new : Told) (next : List Cell)
    → new ≡ then_table old next → Step old.now next → Moves Step (Some old) (Some new)
moves Step old new next is step now told_is =
    let same : then_table old next ≡ now = cc in
    let Goal : Told → Type 0 =
    λ told. (before : Told) × (Some old ≡ Some before) × IsMoved Step before told in
    subst Goal same (old, refl, record { step = step; one = refl })

-- a failed write may add all candidates
pub IsTried-tried : (cells : List Cell) (at : ℕ) (values : List (List ℕ))
    → IsTried cells at values (changed tried cells at values)
unfolding IsTried changed
IsTried-tried [] at values = refl
IsTried-tried (cell ∷ cells) at [] = refl
IsTried-tried (cell ∷ cells) zero (value ∷ values) = (inr (inl refl), IsTried-tried cells 0 values)
IsTried-tried (cell ∷ cells) (suc at) (value ∷ values) =
    (refl, IsTried-tried cells at (value ∷ values))

-- a failed write that changes no current value and adds all candidates
pub tried_call : (at : ℕ) (body : List ℕ) (old new : Device) (before : Told) (failed : Failed)
    → new.size ≡ old.size → new.atoms ≡ old.atoms → new.tail ≡ old.tail → new.values ≡ old.values
    → old.told ≡ Some before → new.told ≡ Some (then_tried old.size before at body)
    → old.faults ≤ new.faults → Rose old.faults new.faults
    → WriteCall old.size at body old new (Err failed)
tried_call at body old new before failed size atoms tail values was is later rose = record {
  size = size;
  atoms = atoms;
  tail = tail;
  values = λ bytes told. (bytes, values ∙ told, record { before = refl; behind = refl });
  told = inr (rw (was, is) (moves _ before _ _ refl (IsTried-tried _ _ _)));
  goes_on = λ _ _. inl (rw is refl);
  cause = record { later = later; failed = λ _. rose; held = λ is. cc };
}
