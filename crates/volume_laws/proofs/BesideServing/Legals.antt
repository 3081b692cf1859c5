-- Operations that were answered leave one content: each step goes by what was answered, and by how much
-- of a write was tried.
use Rattle.std.proofs.Common.{Bool, List, None, Option, Some, [], subst, sym, ℕ, ◌*◌, ◌∙◌, ◌∷◌, ◌≡◌}
use Rattle.std.proofs.Common.{length, MatchOption, replicate}
use Rattle.plain_disk.specs.Operations.{wrong_of}
use Rattle.plain_disk.specs.Plain.{Block, Exchange, Legal}
use Rattle.plain_disk.specs.declared.operation.Reply.TheVariants.{Content, Done, Errno}
use Rattle.plain_disk.specs.Plain.{ProperStep, Step, WriteStep}
use Rattle.plain_disk.specs.declared.operation.Op.{Op}
use Rattle.plain_disk.specs.declared.operation.Op.TheVariants.{Flush, Read, Write, Zeroes}
use Rattle.plain_disk.specs.declared.operation.Reply.{Reply}
use Rattle.plain_disk.specs.declared.operation.Reply.TheVariants.{ErrnoAt}

module _ (atom : ℕ) (old one two : List Block) where
  write_one : (offset : ℕ) (body : List ℕ) (fua : Bool) (reply : Reply) (n : ℕ)
      → WriteStep atom old offset body fua reply n one
      → WriteStep atom old offset body fua reply n two → one ≡ two
  unfolding WriteStep
  write_one offset body fua (Content bytes) n first second = absurd first
  write_one offset body fua Done n first second = first.1 ∙ sym second.1
  write_one offset body fua (Errno number) n (is, most, whole, first)
      (is_so, most_so, whole_so, second) = first ∙ sym second
  write_one offset body fua (ErrnoAt number place) n first second = absurd first

  proper_one : (op : Op) (reply : Reply) (n : ℕ) → ProperStep atom old op reply n one
      → ProperStep atom old op reply n two → one ≡ two
  unfolding ProperStep
  proper_one (Read offset len) (Content bytes) n first second = first.0 ∙ sym second.0
  proper_one (Read offset len) Done n first second = absurd first
  proper_one (Read offset len) (Errno number) n first second = first.1 ∙ sym second.1
  proper_one (Read offset len) (ErrnoAt number place) n first second = first.1 ∙ sym second.1
  proper_one (Write offset body fua) reply n first second =
      write_one offset body fua reply n first second
  proper_one (Zeroes offset len fua) reply n first second =
      write_one offset (replicate len 0) fua reply n first second
  proper_one Flush (Content bytes) n first second = absurd first
  proper_one Flush Done n first second = first ∙ sym second
  proper_one Flush (Errno number) n first second = first.1 ∙ sym second.1
  proper_one Flush (ErrnoAt number place) n first second = absurd first

  judged_one : (exchange : Exchange) (wrong : Option ℕ) → MatchOption wrong
      (ProperStep atom old exchange.op exchange.reply exchange.tried one)
      (λ number. (exchange.reply ≡ Errno number) × (one ≡ old)) → MatchOption wrong
      (ProperStep atom old exchange.op exchange.reply exchange.tried two)
      (λ number. (exchange.reply ≡ Errno number) × (two ≡ old)) → one ≡ two
  judged_one exchange None first second =
      proper_one exchange.op exchange.reply exchange.tried first second
  judged_one exchange (Some number) first second = first.1 ∙ sym second.1

step_one : (atom : ℕ) (old one two : List Block) (exchange : Exchange)
    → Step atom old exchange one → Step atom old exchange two → one ≡ two
unfolding Step
step_one atom old one two exchange first second =
    judged_one atom old one two exchange (wrong_of atom (length old * atom) exchange.op) first second

pub legal_one : (atom : ℕ) (old one two : List Block) (exchanges : List Exchange)
    → Legal atom old exchanges one → Legal atom old exchanges two → one ≡ two
unfolding Legal
legal_one atom old one two [] first second = first ∙ sym second
legal_one atom old one two (exchange ∷ exchanges) (middle, step, first) (other, also, second) =
    legal_one atom middle one two exchanges first (subst (λ m. Legal atom m exchanges two)
    (step_one atom old other middle exchange also step) second)
