-- Lemmas on the parts that each of two joined disks has of a call on both.
use Rattle.std.proofs.Common.{◌≡◌, ℕ, ◌-◌, ◌*◌, List, ◌++◌, length, take, drop, min, Result, sym}
use Rattle.std.proofs.Common.{◌∙◌, ap, ap₂, subst, inl, inr}
use Rattle.std.proofs.lemmas.List.{take_at, drop_at}
use Rattle.base_terms.specs.declared.failed.Failed.{Failed}
use Rattle.sector_disk.specs.Devices.{Device}
use Rattle.sector_disk.specs.JoinedDisks.Joined.{Joint}
use Rattle.sector_disk.specs.JoinedDisks.JoinedCalls.{BothRead, BothWritten, BothSynced, EachRead}
use Rattle.sector_disk.specs.JoinedDisks.JoinedCalls.{EachWritten, bytes_on_head}
use Rattle.sector_disk.proofs.JoinedDisks.JointReads.{bytes_between}
use Rattle.sector_disk.proofs.JoinedDisks.JointWrites.{take_min, drop_min}

-- the same place and the same parts
same_parts : (Call : ℕ → List ℕ → List ℕ → Type 0) (at place : ℕ) (front back first rest : List ℕ)
    → at ≡ place → front ≡ first
    → back ≡ rest → Call at front back → Call place first rest
same_parts Call at place front back first rest same_at same_front same_back call =
    subst (λ k. Call k first rest) same_at
    (subst (λ b. Call at first b) same_back (subst (λ f. Call at f back) same_front call))

cut_at : (at atom base : ℕ) (old : Joint) → old.main.size ≡ atom → old.head.atoms ≡ base
    → base * atom - at * atom ≡ bytes_on_head old at
cut_at at atom base old size base_is =
    sym (bytes_between old.head.atoms at old.main.size ∙ ap₂ (λ b s. b * s - at * s) base_is size)

pub read_parts : (at behind atom base cut len : ℕ) (front back : List ℕ) (old new : Joint)
    (result : Result (Unit {0}) Failed)
    → old.main.size ≡ atom → old.head.atoms ≡ base → length front ≡ cut
    → cut ≡ min (base * atom - at * atom) len
    → length (front ++ back) ≡ len → behind ≡ at - base
    → BothRead old.main.size at behind front back old.calls old.head new.head old.main new.main
    result
    → EachRead at (front ++ back) old new result
read_parts at behind atom base cut len front back old new result size base_is front_is cut_is long
    behind_is both =
    let on_head = bytes_on_head old at in
    let front_long : length front ≡ min on_head (length (front ++ back)) =
    front_is ∙ cut_is ∙ ap₂ (λ n m. min n m) (cut_at at atom base old size base_is) (sym long) in
    same_parts
    (λ k f b. BothRead old.main.size at k f b old.calls old.head new.head old.main new.main result)
    behind (at - old.head.atoms) front back (take on_head (front ++ back))
    (drop on_head (front ++ back))
    (behind_is ∙ ap (λ b. at - b) (sym base_is))
    (sym (take_at front back _ front_long) ∙ take_min on_head (front ++ back))
    (sym (drop_at front back _ front_long) ∙ drop_min on_head (front ++ back)) both

pub write_parts : (at behind atom base cut : ℕ) (body front back : List ℕ) (old new : Joint)
    (result : Result (Unit {0}) Failed)
    → old.main.size ≡ atom → old.head.atoms ≡ base → front ≡ take cut body → back ≡ drop cut body
    → cut ≡ min (base * atom - at * atom) (length body) → behind ≡ at - base
    → BothWritten old.main.size at behind front back old.calls old.head new.head old.main new.main
    result
    → EachWritten at body old new result
write_parts at behind atom base cut body front back old new result size base_is front_is back_is
    cut_is behind_is both =
    let on_head = bytes_on_head old at in
    let cut_to : cut ≡ min on_head (length body) =
    cut_is ∙ ap (λ n. min n (length body)) (cut_at at atom base old size base_is) in
    same_parts
    (λ k f b. BothWritten old.main.size at k f b old.calls old.head new.head old.main new.main
    result)
    behind (at - old.head.atoms) front back (take on_head body) (drop on_head body)
    (behind_is ∙ ap (λ b. at - b) (sym base_is))
    (front_is ∙ ap (λ n. take n body) cut_to ∙ take_min on_head body)
    (back_is ∙ ap (λ n. drop n body) cut_to ∙ drop_min on_head body) both

-- that there is no head, in other words
pub synced_alone : (IsNone IsAlone : Type 0) (number : ℕ) (head head' main main' : Device)
    (result : Result (Unit {0}) Failed)
    → (IsNone → IsAlone) → BothSynced IsNone number head head' main main' result
    → BothSynced IsAlone number head head' main main' result
synced_alone IsNone IsAlone number head head' main main' result alone (inl (none, same, call)) =
    inl (alone none, same, call)
synced_alone IsNone IsAlone number head head' main main' result alone (inr called) = inr called
