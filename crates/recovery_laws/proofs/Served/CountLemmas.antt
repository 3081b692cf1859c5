-- A plain disk keeps its blocks, whatever it is asked: as many.
use Rattle.std.proofs.Common.{◌≡◌, ◌∙◌, ◌*◌, ◌/◌, ℕ, Bool, List, [], ◌∷◌, length, Option, None, Some}
use Rattle.std.proofs.Common.{MatchOption, ap, if◌then◌else◌, replicate}
use Rattle.std.proofs.lemmas.List.{length-map}
use Rattle.base_terms.specs.Blocks.{blocks_of}
use Rattle.sector_disk.proofs.DiskViews.Entries.{length-changed}
use Rattle.plain_disk.specs.Operations.{touched, wrong_of}
use Rattle.plain_disk.specs.Plain.{Block, Exchange, Legal, ProperStep, Step, WriteStep, edged}
use Rattle.plain_disk.specs.Plain.{flushed, newest_bytes, tried, written, written_for_good}
use Rattle.plain_disk.specs.declared.operation.Op.{Op}
use Rattle.plain_disk.specs.declared.operation.Op.TheVariants.{Flush, Read, Write, Zeroes}
use Rattle.plain_disk.specs.declared.operation.Reply.{Reply}
use Rattle.plain_disk.specs.declared.operation.Reply.TheVariants.{Content, Done, Errno, ErrnoAt}

module _ (atom : ℕ) (old new : List Block) where
  write-count : (offset : ℕ) (body : List ℕ) (fua : Bool) (reply : Reply) (n : ℕ)
      → WriteStep atom old offset body fua reply n new → length new ≡ length old
  unfolding WriteStep
  write-count offset body fua (Content bytes) n step = absurd step
  write-count offset body fua Done n step =
      ap length step.1
      ∙ length-changed (if fua then written_for_good else written) old (offset / atom)
      (blocks_of atom (touched atom offset (length body))
      (edged atom (newest_bytes old) offset body))
  write-count offset body fua (Errno number) n (is, most, whole, same) =
      ap length same
      ∙ length-changed tried old (offset / atom)
      (blocks_of atom (n / atom) (edged atom (newest_bytes old) offset body))
  write-count offset body fua (ErrnoAt number place) n step = absurd step

  proper-count : (op : Op) (reply : Reply) (n : ℕ) → ProperStep atom old op reply n new
      → length new ≡ length old
  unfolding ProperStep
  proper-count (Read offset len) (Content bytes) n step = ap length step.0
  proper-count (Read offset len) Done n step = absurd step
  proper-count (Read offset len) (Errno number) n step = ap length step.1
  proper-count (Read offset len) (ErrnoAt number place) n step = ap length step.1
  proper-count (Write offset body fua) reply n step = write-count offset body fua reply n step
  proper-count (Zeroes offset len fua) reply n step =
      write-count offset (replicate len 0) fua reply n step
  proper-count Flush (Content bytes) n step = absurd step
  proper-count Flush Done n step = ap length step ∙ length-map old flushed
  proper-count Flush (Errno number) n step = ap length step.1
  proper-count Flush (ErrnoAt number place) n step = absurd step

  judged-count : (exchange : Exchange) (wrong : Option ℕ) → MatchOption wrong
      (ProperStep atom old exchange.op exchange.reply exchange.tried new)
      (λ number. (exchange.reply ≡ Errno number) × (new ≡ old)) → length new ≡ length old
  judged-count exchange None step =
      proper-count exchange.op exchange.reply exchange.tried step
  judged-count exchange (Some number) step = ap length step.1

  step-count : (exchange : Exchange) → Step atom old exchange new → length new ≡ length old
  unfolding Step
  step-count exchange step =
      judged-count exchange (wrong_of atom (length old * atom) exchange.op) step

pub legal-count : (atom : ℕ) (old new : List Block) (exchanges : List Exchange)
    → Legal atom old exchanges new → length new ≡ length old
unfolding Legal
legal-count atom old new [] legal = ap length legal
legal-count atom old new (exchange ∷ exchanges) (middle, step, legal) =
    legal-count atom middle new exchanges legal ∙ step-count atom old middle exchange step
