use Rattle.std.proofs.Common.{◌≡◌, ℕ, ◌+◌, ◌<◌, ◌%◌, List, length, slice_index, slice_set, ap, ◌∙◌}
use Rattle.std.proofs.Common.{add_assoc, arith, Ok, Some}
use Rattle.std.proofs.lemmas.Grind.{common_steps}
use Rattle.std.proofs.Math.Nat.{mod-add-mod}
use Rattle.io_edge.specs.FaultPlan.{Plan}
use Rattle.io_edge.specs.Memory.{Seedlings, round_from, supply_of}
use Rattle.io_edge.specs.Supply.{Draws}

-- going round from the place after n bytes is going round n bytes further
pub round_goes_on : (bytes : List ℕ) (at n next k : ℕ) → next ≡ (at + n) % length bytes →
    round_from bytes next k ≡ round_from bytes at (n + k)
round_goes_on bytes at n next k e =
    ap (λ i. slice_index bytes i)
    (ap (λ i. (i + k) % length bytes) e ∙ mod-add-mod (at + n) (length bytes) k
    ∙ ap (λ i. i % length bytes) (add_assoc at n k))

-- what is told of the elements below i, told of one more that is set
pub set_more : (buf : List ℕ) (i v : ℕ) (f : ℕ → ℕ) → i < length buf → v ≡ f i →
    ((k : ℕ) → k < i → slice_index buf k ≡ f k) → (k : ℕ) → k < i + 1 →
    slice_index (slice_set buf i v) k ≡ f k
set_more buf i v f inside e below k h = grind (arith, common_steps, below k)

-- the place behind the next one
pub next_more : (at i len next : ℕ) → next ≡ (at + i) % len →
    (next + 1) % len ≡ (at + (i + 1)) % len
next_more at i len next e =
    ap (λ n. (n + 1) % len) e ∙ mod-add-mod (at + i) len 1 ∙ ap (λ n. n % len) (add_assoc at i 1)

some_same : (a b : ℕ) → Some a ≡ Some b → a ≡ b
some_same a b e = cc

-- a fill from the place `at` that ended at the place `next` drew what lay ahead
pub draws_round : (old : Seedlings) (plan plan' : Plan) (bytes slice after : List ℕ) (at next : ℕ) →
    old ≡ record { bytes = bytes; at = at; plan = plan } → slice ≡ bytes →
    next ≡ (at + length after) % length slice →
    ((k : ℕ) → k < length after → slice_index after k ≡ round_from slice at k) →
    Draws {T = Unit {0}} (supply_of old)
    (supply_of (record { bytes = bytes; at = next; plan = plan' })) after (Ok tt)
draws_round old plan plan' bytes slice after at next e same e' round =
    rw e (record {
      drawn = λ k byte inside is.
          round k inside ∙ (ap (λ b. round_from b at k) same ∙ some_same _ _ is);
      goes_on = λ k.
          let place = e' ∙ ap (λ b. (at + length after) % length b) same in
          ap Some (round_goes_on bytes at (length after) next k place);
    })
