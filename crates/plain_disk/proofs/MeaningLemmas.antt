-- An operation goes as what it means: zeroes as the write of so many zero bytes.
use Rattle.std.proofs.Common.{◌≡◌, ℕ, ◌*◌, List, length, Option, Some, None, MatchOption, refl, ap}
use Rattle.std.proofs.Common.{subst}
use Rattle.std.proofs.lemmas.List.{length-replicate}
use Rattle.base_terms.specs.ErrorNumbers.{no_space}
use Rattle.plain_disk.specs.declared.operation.Op.{Op}
use Rattle.plain_disk.specs.declared.operation.Op.TheVariants.{Read, Write, Zeroes, Flush}
use Rattle.plain_disk.specs.declared.operation.Reply.{Reply}
use Rattle.plain_disk.specs.declared.operation.Reply.TheVariants.{Errno}
use Rattle.plain_disk.specs.Operations.{meaning_of, wrong_of, wrong_range_of}
use Rattle.plain_disk.specs.Outcomes.{IsServed}
use Rattle.plain_disk.specs.Plain.{Block, Step, ProperStep}

pub meaning_wrong : (atom size : ℕ) (op : Op)
    → wrong_of atom size (meaning_of op) ≡ wrong_of atom size op
meaning_wrong atom size (Read offset len) = refl
meaning_wrong atom size (Write offset body fua) = refl
meaning_wrong atom size (Zeroes offset len fua) =
    ap (λ n. wrong_range_of atom size offset n no_space) (length-replicate {A = ℕ} len 0)
meaning_wrong atom size Flush = refl

pub meaning_proper : (atom : ℕ) (old new : List Block) (op : Op) (reply : Reply) (n : ℕ)
    → ProperStep atom old (meaning_of op) reply n new → ProperStep atom old op reply n new
unfolding ProperStep
meaning_proper atom old new (Read offset len) reply n step = step
meaning_proper atom old new (Write offset body fua) reply n step = step
meaning_proper atom old new (Zeroes offset len fua) reply n step = step
meaning_proper atom old new Flush reply n step = step

pub meaning_served : (op : Op) (reply : Reply) → IsServed (meaning_of op) reply → IsServed op reply
meaning_served (Read offset len) reply served = served
meaning_served (Write offset body fua) reply served = served
meaning_served (Zeroes offset len fua) reply served = served
meaning_served Flush reply served = served

-- by whether it is wrong
either_way : (P Q : Type 0) (R : ℕ → Type 0) (wrong : Option ℕ) → (P → Q) → MatchOption wrong P R
    → MatchOption wrong Q R
either_way P Q R None goes step = goes step
either_way P Q R (Some number) goes step = step

pub meaning_step : (atom : ℕ) (old new : List Block) (op : Op) (reply : Reply) (n : ℕ)
    → Step atom old (record { op = meaning_of op; reply = reply; tried = n }) new
    → Step atom old (record { op = op; reply = reply; tried = n }) new
unfolding Step
meaning_step atom old new op reply n step =
    either_way _ _ _ (wrong_of atom (length old * atom) op)
    (meaning_proper atom old new op reply n)
    (subst (λ wrong. MatchOption wrong (ProperStep atom old (meaning_of op) reply n new)
    (λ number. (reply ≡ Errno number) × (new ≡ old)))
    (meaning_wrong atom (length old * atom) op) step)
