-- The sizes of operations, of their pieces, and of the buffers for them.
use Rattle.std.proofs.Common.{List, ap, arith, inl, inr, length, length-take, min}
use Rattle.std.proofs.Common.{mul-le-mul_right, refl, replicate, suc, take, ℕ, ◌*◌, ◌+◌}
use Rattle.std.proofs.Common.{if◌then◌else◌, ◌%◌, ◌-◌, ◌<◌, ◌^◌, ◌∙◌, ◌≡◌, ◌≤◌}
use Rattle.std.proofs.Math.Nat.{le-min}
use Rattle.std.proofs.lemmas.Bool.{cases_lt}
use Rattle.std.proofs.lemmas.List.{length-replicate}
use Rattle.plain_disk.specs.declared.operation.Op.{Op}
use Rattle.sector_disk.specs.Geometry.{IsAtom}
use Rattle.segment_map.specs.declared.map.Map.{Map}
use Rattle.segment_map.specs.declared.map.Piece.{Piece}
use Rattle.volume_machine.specs.Asks.{IsRead, IsWrite, range_of}
use Rattle.volume_machine.specs.Pieces.{IsPieceOf}
use Rattle.std.proofs.lemmas.Grind.{common_steps}
use Rattle.plain_disk.proofs.RangeLemmas.{touched_whole, whole_blocks}
use Rattle.plain_disk.specs.Operations.{touched}
use Rattle.volume_machine.specs.declared.ask.Ask.TheVariants.{Flush, Read, Write}
use Rattle.volume_machine.specs.declared.{ask.Ask.Ask, open.Open.Open}
use Rattle.lane_plan.specs.Calls.{ask_of}
use Rattle.lane_plan.specs.Plans.{HasRest, IsAligned, IsPart, bytes_of, is_zeroes, part_of}
use Rattle.plain_disk.specs.declared.operation.Op.TheVariants as Ops

pub some-atom : (atom : ℕ) → IsAtom atom → 0 < atom
some-atom atom (inl is) = omega arith
some-atom atom (inr is) = omega arith

counted : (atom offset len : ℕ) → 0 < atom → (offset % atom ≡ 0) × (len % atom ≡ 0)
    → touched atom offset len * atom ≡ len
counted atom offset len some (start, whole) =
    ap (λ n. n * atom) (touched_whole atom offset len some start whole)
    ∙ whole_blocks atom len whole

-- in bytes they are what it asks for
pub total : (atom : ℕ) (ask : Ask) → 0 < atom → IsAligned atom ask →
    ((range_of atom ask).end - (range_of atom ask).start) * atom ≡ bytes_of ask
total atom (Read offset len) some is = counted atom offset len some is
total atom (Write offset len fua) some is = counted atom offset len some is
total atom Flush some is = omega arith

-- what pieces need of the buffer is as long as the operation
pub body-long : (body whole : List ℕ) → take (length body) whole ≡ body → length body ≤ length whole
body-long body whole is = let m =
    length-take (length body) whole in grind (arith, common_steps, ap (λ xs. length xs) is, m)

pub rest-long : (whole : List ℕ) (op : Op) → IsRead (ask_of op) → HasRest whole op
    → bytes_of (ask_of op) ≤ length whole
rest-long whole (Ops.Read offset len) reading rest = rest
rest-long whole _ reading rest = absurd reading

-- and has the bytes of a piece that is written, of zeros at its front
pub source-within : (whole : List ℕ) (op : Op) (from at len : ℕ) → IsWrite (ask_of op)
    → HasRest whole op → from ≡ (if is_zeroes op then 0 else at)
    → at + len ≤ bytes_of (ask_of op) → len ≤ 1048576 → from + len ≤ length whole
source-within whole (Ops.Write offset body fua) from at len writing rest is within few =
    omega (arith, body-long body whole rest)
source-within whole (Ops.Zeroes offset n fua) from at len writing rest is within few =
    let zeros = length-replicate {A = ℕ} (min n 1048576) 0 in
    let most : len ≤ min n 1048576 = le-min (omega arith) few in
    omega (arith, body-long (replicate (min n 1048576) 0) whole (rw zeros rest), zeros)
source-within whole _ from at len writing rest is within few = absurd writing

-- pieces in a row
pub size-more : (start at count next atom : ℕ) → start ≤ at → next ≡ at + count →
    (at - start) * atom + count * atom ≡ (next - start) * atom
size-more start at count next atom order is = let e : next - start ≡ (at - start) + count =
    omega arith in rw e (omega arith)

pub size-none : (start atom : ℕ) → 0 ≡ (start - start) * atom
size-none start atom = let e : start - start ≡ 0 = omega arith in rw e (omega arith)

-- the bytes before a piece and its own are among the operation's
pub stays-within : (start at count end atom : ℕ) → start ≤ at → at + count ≤ end →
    (at - start) * atom + count * atom ≤ (end - start) * atom
stays-within start at count end atom order within =
    let most : (at + count - start) * atom ≤ (end - start) * atom =
    mul-le-mul_right atom (omega arith) in
    omega (arith, size-more start at count (at + count) atom order refl)

-- a piece that isn't all of the operation fits the buffer for pieces
shorter : (count all atom bytes limit : ℕ) → all * atom ≡ bytes → count * atom ≤ limit →
    count < all → count * atom ≤ min (bytes - atom) limit
shorter count all atom bytes limit is few less =
    let more : suc count * atom ≤ all * atom = mul-le-mul_right atom (omega arith) in
    let split : suc count * atom ≡ count * atom + atom = grind arith in le-min (omega arith) few

pub fits-part : (map : Map) (o : Open) (piece : Piece) (atom : ℕ) → IsPieceOf map o piece
    → map.atom ≡ atom → o.range.start ≤ o.next → (o.range.end - o.range.start) * atom
    ≡ bytes_of o.ask → IsPart o piece → piece.count * atom ≤ part_of atom o.ask
fits-part map o piece atom next same starts all part =
    let few : piece.count * atom ≤ 1048576 = rw same at next.limit in
    elim (cases_lt piece.count (o.range.end - o.range.start)) [
      | inl less ↦ shorter piece.count (o.range.end - o.range.start) atom (bytes_of o.ask) 1048576
          all few less
      | inr most ↦ absurd (part (omega arith))
    ]

-- blocks are counted in 64 bits
pub blocks-small : (atom blocks : ℕ) → IsAtom atom → blocks * atom < 2 ^ 63 → blocks < 2 ^ 63
blocks-small atom blocks (inl is) small = let few = rw is at small in omega arith
blocks-small atom blocks (inr is) small = let few = rw is at small in omega arith
