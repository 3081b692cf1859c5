-- What the worker asks for, and what its lane has and leaves.
use Rattle.std.proofs.Common.{Bool, List, MatchBool, None, Option, Some, ap, arith, false, length}
use Rattle.std.proofs.Common.{refl, subst, sym, true, ℕ, ◌*◌, ◌+◌, ◌<◌, ◌∙◌, ◌≡◌, ◌≤◌}
use Rattle.std.proofs.Common.{mul-le-mul_right, inl, inr, ◌⊎◌}
use Rattle.std.proofs.Math.Nat.{mul-div_cancel, mul-mod_left}
use Rattle.base_terms.specs.declared.block_range.BlockRange.{BlockRange}
use Rattle.plain_disk.proofs.RangeLemmas.{touched_ends, touched_whole}
use Rattle.plain_disk.specs.Operations.{touched_end}
use Rattle.range_lock.specs.Locks.{has_entry, without}
use Rattle.range_lock.specs.declared.Entry.{Entry}
use Rattle.volume_machine.specs.Asks.{range_of, wrong_ask}
use Rattle.volume_machine.specs.Sound.{IsSound}
use Rattle.volume_machine.specs.States.{State, open_at}
use Rattle.base_terms.specs.Ranges.Blocks.{len_of}
use Rattle.std.proofs.lemmas.Bool.{le-ltb}
use Rattle.volume_core.proofs.CodeSteps.{locked-entry}
use Rattle.volume_core.specs.Turns.{HasLeft, taken, write_on}
use Rattle.volume_laws.proofs.Reading.{writes_lock}
use Rattle.volume_machine.proofs.Locking.{without-none}
use Rattle.volume_machine.specs.States.{LaneBecomes, begun}
use Rattle.volume_machine.specs.Working.{IsWorkers}
use Rattle.volume_machine.specs.declared.open.Open.{Open}

-- ---- a write of whole blocks
module _ (range : BlockRange) (atom : ℕ) (some : 0 < atom) (rises : range.start ≤ range.end) where
  end-is : range.start + len_of range ≡ range.end
  end-is = omega (arith, rises)

  end-touched : touched_end atom (range.start * atom) (len_of range * atom) ≡ range.end
  end-touched =
      sym (touched_ends atom (range.start * atom) (len_of range * atom) some)
      ∙ rw (
        touched_whole atom (range.start * atom) (len_of range * atom) some
            (mul-mod_left range.start atom) (mul-mod_left (len_of range) atom),
        mul-div_cancel range.start some,
        mul-div_cancel (len_of range) some,
      ) end-is

  pub range-on : range_of atom (write_on range atom) ≡ range
  range-on = rw (mul-div_cancel range.start some, end-touched) refl

  -- an operation that has just begun with it
  pub begun-on : begun atom 0 (write_on range atom) ≡ taken (write_on range atom) range
  begun-on = ap (taken (write_on range atom)) range-on

  -- it is of whole blocks of the volume
  bytes-end : range.start * atom + len_of range * atom ≡ range.end * atom
  bytes-end = (let e = end-is in subst (λ n. range.start * atom + len_of range * atom ≡ n * atom) e
      (omega arith))

  pub right-on : (blocks : ℕ) → range.end ≤ blocks
      → wrong_ask atom (blocks * atom) (write_on range atom) ≡ None
  right-on blocks inside =
      let far = mul-le-mul_right atom inside in
      let sum = bytes-end in
      rw (
        mul-mod_left range.start atom,
        mul-mod_left (len_of range) atom,
        le-ltb (blocks * atom) (range.start * atom + len_of range * atom) (omega (arith, far, sum)),
      ) refl

-- ---- the worker's lane
-- what a lane has: an operation, or none
pub has-one : (operation : Option Open)
    → (operation ≡ None) ⊎ ((o : Open) × (operation ≡ Some o))
has-one None = inl refl
has-one (Some o) = inr (o, refl)

module _ {K : Type 0} (state : State K) (lane : ℕ) (sound : IsSound state)
    (workers : (o : Open) → open_at state.lanes lane ≡ Some o → IsWorkers o) where
  -- an operation of it has an entry
  pub worker-entry : (o : Open) → open_at state.lanes lane ≡ Some o
      → has_entry lane state.entries ≡ true
  worker-entry o is = locked-entry state lane sound o is (writes_lock o.ask (workers o is).writes)

  -- without one it has no operation
  free-lane : has_entry lane state.entries ≡ false → open_at state.lanes lane ≡ None
  free-lane none = elim (has-one (open_at state.lanes lane)) [
    | inl free ↦ free
    | inr some ↦ absurd (let has = worker-entry some.0 some.1 in cc)
  ]

  -- what stands once it has left
  pub lane-left : (entries : List Entry) (lanes : List (Option Open))
      → HasLeft lane state.entries entries state.lanes lanes
      → (entries ≡ without lane state.entries) × LaneBecomes state.lanes lanes lane None
  lane-left entries lanes left = go (has_entry lane state.entries) refl left
    where
      go : (b : Bool) → has_entry lane state.entries ≡ b
          → MatchBool b ((entries ≡ without lane state.entries)
          × LaneBecomes state.lanes lanes lane None)
          ((entries ≡ state.entries) × (lanes ≡ state.lanes))
          → (entries ≡ without lane state.entries) × LaneBecomes state.lanes lanes lane None
      go true has left = left
      go false none same = (
        same.0 ∙ sym (without-none lane state.entries (sound.entries lane
            ∙ rw (free-lane none) refl)),
        record {
          count = ap length same.1;
          own = rw same.1 (free-lane none);
          others = λ k differs. rw same.1 refl;
        },
      )

  -- one without an operation leaves all as it is
  pub free-left : (entries : List Entry) (lanes : List (Option Open))
      → open_at state.lanes lane ≡ None → has_entry lane state.entries ≡ false
      → HasLeft lane state.entries entries state.lanes lanes
      → (entries ≡ state.entries) × (lanes ≡ state.lanes)
  free-left entries lanes free none left = rw none at left
