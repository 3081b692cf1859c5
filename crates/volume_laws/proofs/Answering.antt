-- Lemmas on operations that were answered, as steps of the plain disk.
use Rattle.std.proofs.Common.{Bool, List, None, Option, Some, [], ap, arith, drop, if◌then◌else◌}
use Rattle.std.proofs.Common.{length, map, refl, sym, take, ℕ, ◌%◌, ◌*◌, ◌/◌, ◌<◌, ◌∙◌, ◌∷◌, ◌≡◌}
use Rattle.std.proofs.Common.{◌≤◌}
use Rattle.std.proofs.Math.Nat.{mul-div_cancel, mul-le-mul_right, mul-mod_left}
use Rattle.std.proofs.lemmas.List.{ext_get_or}
use Rattle.base_terms.proofs.BlockLemmas.{changed-nil}
use Rattle.base_terms.specs.Blocks.{blocks_of, changed}
use Rattle.plain_disk.specs.Operations.{touched, wrong_of}
use Rattle.plain_disk.specs.Plain.{Block, Exchange, flushed, tried, written, written_for_good}
use Rattle.plain_disk.specs.Plain.{AreSure, Legal, ProperStep, edged, newest_bytes}
use Rattle.plain_disk.specs.declared.operation.Op.{Op}
use Rattle.plain_disk.specs.declared.operation.Reply.TheVariants.{Content, Done, Errno}
use Rattle.sector_disk.proofs.DiskViews.Blockwise.{block_at-take}
use Rattle.volume_machine.specs.Answers.{Answered, Asked, BeginsWith, IsExchange, refusal}
use Rattle.volume_machine.specs.Answers.{AreExchanges}
use Rattle.volume_machine.specs.Asks.{wrong_ask}
use Rattle.volume_machine.specs.Edges.{InPlain, KeepsEdges, in_range, nothing}
use Rattle.sector_disk.proofs.DiskViews.Entries.{blocks_of-at, length-blocks_of}
use Rattle.plain_disk.specs.declared.operation.{Reply.Reply, Reply.TheVariants.ErrnoAt}
use Rattle.plain_disk.specs.{Operations.meaning_of, Plain.Step, Plain.WriteStep}
use Rattle.plain_disk.proofs.MeaningLemmas.{meaning_proper, meaning_wrong}
use Rattle.volume_machine.specs.declared.ask.Ask.{Ask}
use Rattle.volume_machine.specs.declared.ask.Ask.TheVariants.{Flush, Read, Write}

-- what was answered of an operation
abbrev pub answer : ℕ → ℕ → Ask → InPlain → Reply → Answered
answer atom session ask plain reply =
    record { session = session; atom = atom; ask = ask; plain = plain; reply = reply }

-- what a write that is done does to its blocks
abbrev pub change_of : Bool → Block → List ℕ → Block
change_of fua = if fua then written_for_good else written

pub legal_none : (atom : ℕ) (left : List Block) (exchanges : List Exchange)
    → AreExchanges [] exchanges → Legal atom left exchanges left
unfolding Legal AreExchanges
legal_none atom left [] are = refl
legal_none atom left (exchange ∷ exchanges) are = absurd are

pub legal_one : (atom : ℕ) (left next : List Block) (one : Answered) (exchanges : List Exchange)
    → ((exchange : Exchange) → IsExchange one exchange → Step atom left exchange next)
    → AreExchanges (one ∷ []) exchanges → Legal atom left exchanges next
unfolding Legal AreExchanges
legal_one atom left next one [] step are = absurd are
legal_one atom left next one (exchange ∷ []) step are = (next, step exchange are.0, refl)
legal_one atom left next one (exchange ∷ (other ∷ exchanges)) step are = absurd are.1

-- an operation is wrong where what it asks for is
pub wrong_asked : (own atom size : ℕ) (ask : Ask) (bytes : List ℕ) (op : Op)
    → Asked own ask bytes op → wrong_of atom size op ≡ wrong_ask atom size ask
wrong_asked own atom size (Read offset len) bytes op is = rw is refl
wrong_asked own atom size (Write offset len fua) bytes op (body, is, long, begins) =
    sym (meaning_wrong atom size op) ∙ rw (is, long) refl
wrong_asked own atom size Flush bytes op is = rw is refl

-- the first blocks of a text are those of its front
pub blocks_of-front : (atom m : ℕ) (text front : List ℕ) → take (m * atom) text ≡ front
    → blocks_of atom m text ≡ blocks_of atom m front
blocks_of-front atom m text front begins =
    let long = length-blocks_of atom m text in
    ext_get_or [] (blocks_of atom m text) (blocks_of atom m front) (long
    ∙ sym (length-blocks_of atom m front)) (λ k below. let inside : k < m = omega arith in
    blocks_of-at atom m text k [] inside ∙ sym (rw (← begins) (
    blocks_of-at atom m (take (m * atom) text) k [] inside ∙ block_at-take atom m text k inside)))

-- so many blocks that a write tried are what the plain disk makes of them, whatever its body
abbrev pub TellsEdged : ℕ → List Block → ℕ → ℕ → Bool → ℕ → InPlain → Type 0
TellsEdged atom left offset len fua n plain = (body : List ℕ) → length body ≡ len
    → BeginsWith body (in_range atom offset len plain.bytes)
    → KeepsEdges atom (Write offset len fua) plain
    → take (n * atom) (edged atom (newest_bytes left) offset body) ≡ plain.bytes

module _ (atom : ℕ) (left : List Block) {blocks : ℕ} (count : length left ≡ blocks)
    {exchange : Exchange} where
  judged : {one : Answered} (wrong : Option ℕ) → wrong_ask atom (blocks * atom) one.ask ≡ wrong
      → IsExchange one exchange → wrong_of atom (length left * atom) exchange.op ≡ wrong
  judged {one = one} wrong is_wrong is = wrong_asked one.atom atom (length left * atom)
      one.ask one.plain.bytes exchange.op is.op
      ∙ ap (λ n. wrong_ask atom (n * atom) one.ask) count ∙ is_wrong

  -- a wrong operation
  pub step_wrong : {session : ℕ} {ask : Ask} {number : ℕ}
      → wrong_ask atom (blocks * atom) ask ≡ Some number
      → IsExchange (refusal atom session ask number) exchange → Step atom left exchange left
  unfolding Step
  step_wrong {number = number} wrong is = rw (judged (Some number) wrong is) (is.reply, refl)

  -- an operation that isn't wrong goes by what it means
  proper_goes : {one : Answered} (next : List Block)
      → wrong_ask atom (blocks * atom) one.ask ≡ None → IsExchange one exchange
      → ProperStep atom left (meaning_of exchange.op) exchange.reply exchange.tried next
      → Step atom left exchange next
  unfolding Step
  proper_goes next proper is goes = rw (judged None proper is)
      (meaning_proper atom left next exchange.op exchange.reply exchange.tried goes)

  -- refused on a broken volume
  pub step_refused : {session : ℕ} {ask : Ask} → wrong_ask atom (blocks * atom) ask ≡ None
      → 0 < atom → IsExchange (refusal atom session ask 5) exchange → Step atom left exchange left
  unfolding ProperStep WriteStep blocks_of
  step_refused {session = session} {ask = ask} proper some is =
      proper_goes left proper is (goes ask is)
    where
      goes : (ask : Ask) → IsExchange (refusal atom session ask 5) exchange
          → ProperStep atom left (meaning_of exchange.op) exchange.reply exchange.tried left
      goes (Read offset len) is = rw (is.op, is.reply) (refl, refl)
      goes (Write offset len fua) is =
          let (body, op, long, begins) = is.op in
          let no_rest : 0 % atom ≡ 0 = grind (arith, some) in
          let no_blocks : 0 / atom ≡ 0 = grind (arith, some) in
          rw (op, is.reply, is.tried) (
            refl,
            omega arith,
            no_rest,
            rw no_blocks (sym (changed-nil tried left (offset / atom))),
          )
      goes Flush is = rw (is.op, is.reply) (refl, refl)

  -- a read that was answered by its bytes, and one that was answered by 5
  pub step_read : {session offset len : ℕ} {plain : InPlain} → wrong_ask atom (blocks
      * atom) (Read offset len) ≡ None
      → (in_range atom offset len plain.bytes ≡ take len (drop offset (newest_bytes left)))
      × AreSure (take (touched atom offset len) (drop (offset / atom) left))
      → IsExchange (answer atom session (Read offset len) plain
      (Content (in_range atom offset len plain.bytes))) exchange → Step atom left exchange left
  unfolding ProperStep
  step_read proper right is =
      proper_goes left proper is (rw (is.op, is.reply) (refl, right.0, right.1))

  pub step_unread : {session offset len place : ℕ} {plain : InPlain}
      → wrong_ask atom (blocks * atom) (Read offset len) ≡ None
      → IsExchange (answer atom session (Read offset len) plain (ErrnoAt 5 place)) exchange
      → Step atom left exchange left
  unfolding ProperStep
  step_unread proper is = proper_goes left proper is (rw (is.op, is.reply) (refl, refl))

  -- a write that is done, and one that failed
  pub step_written : {session offset len : ℕ} {fua : Bool} {plain : InPlain} (n : ℕ)
      → wrong_ask atom (blocks * atom) (Write offset len fua) ≡ None
      → length plain.bytes ≡ n * atom → touched atom offset len ≡ n
      → TellsEdged atom left offset len fua n plain
      → IsExchange (answer atom session (Write offset len fua) plain Done) exchange → Step
      atom left exchange (changed (change_of fua) left (offset / atom) (blocks_of atom n plain.bytes))
  unfolding ProperStep WriteStep
  step_written {offset = offset} {len = len} {fua = fua} {plain = plain} n proper whole counted tells
      is =
      let (body, op, long, begins) = is.op in
      let count : touched atom offset (length body) ≡ n =
      ap (λ l. touched atom offset l) long ∙ counted in
      let same : blocks_of atom (touched atom offset (length body))
      (edged atom (newest_bytes left) offset body) ≡ blocks_of atom n plain.bytes =
      ap (λ m. blocks_of atom m (edged atom (newest_bytes left) offset body)) count
      ∙ blocks_of-front atom n (edged atom (newest_bytes left) offset body) plain.bytes
      (tells body long begins is.edges) in
      proper_goes _ proper is (rw (op, is.reply, is.tried) (
        whole ∙ ap (λ m. m * atom) (sym count),
        ap (λ bs. changed (change_of fua) left (offset / atom) bs) (sym same),
      ))

  pub step_unwritten : {session offset len : ℕ} {fua : Bool} {plain : InPlain} (n : ℕ)
      → wrong_ask atom (blocks * atom) (Write offset len fua) ≡ None → 0 < atom
      → length plain.bytes ≡ n * atom → n ≤ touched atom offset len
      → TellsEdged atom left offset len fua n plain
      → IsExchange (answer atom session (Write offset len fua) plain (Errno 5)) exchange
      → Step atom left exchange (changed tried left (offset / atom) (blocks_of atom n plain.bytes))
  unfolding ProperStep WriteStep
  step_unwritten {offset = offset} {len = len} {plain = plain} n proper some whole few tells is =
      let (body, op, long, begins) = is.op in
      let counted : length plain.bytes / atom ≡ n =
      ap (λ m. m / atom) whole ∙ mul-div_cancel n some in
      let even : length plain.bytes % atom ≡ 0 = ap (λ m. m % atom) whole ∙ mul-mod_left n atom in
      let most : n * atom ≤ touched atom offset (length body) * atom =
      rw long (mul-le-mul_right atom few) in
      let same : blocks_of atom (length plain.bytes / atom)
      (edged atom (newest_bytes left) offset body) ≡ blocks_of atom n plain.bytes =
      ap (λ m. blocks_of atom m (edged atom (newest_bytes left) offset body)) counted
      ∙ blocks_of-front atom n (edged atom (newest_bytes left) offset body) plain.bytes
      (tells body long begins is.edges) in
      proper_goes _ proper is (rw (op, is.reply, is.tried) (
        refl,
        rw whole most,
        even,
        ap (λ bs. changed tried left (offset / atom) bs) (sym same),
      ))

  -- a flush that is done, and one that failed
  pub step_flushed : {session : ℕ} → IsExchange (answer atom session Flush nothing Done) exchange
      → Step atom left exchange (map flushed left)
  unfolding ProperStep
  step_flushed is = proper_goes _ refl is (rw (is.op, is.reply) refl)

  pub step_unflushed : {session : ℕ} → 0 < atom
      → IsExchange (answer atom session Flush nothing (Errno 5)) exchange
      → Step atom left exchange left
  step_unflushed some is = step_refused refl some is
