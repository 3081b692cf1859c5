-- Blocks written one after the other into an output, the last one cut at its end.
use Rattle.std.proofs.Common.{◌≡◌, ℕ, ◌+◌, ◌-◌, ◌*◌, ◌<◌, ◌≤◌, List, [], ◌++◌, length, take, drop}
use Rattle.std.proofs.Common.{min, ap, sym, ◌∙◌, inl, inr, arith}
use Rattle.std.proofs.lemmas.Bool.{cases_lt}
use Rattle.std.proofs.lemmas.List.{length-take, length-drop, take_all, take-append-le, drop_all}
use Rattle.std.proofs.lemmas.List.{append-nil}
use Rattle.std.proofs.Math.Seq.{take-append-add}
use Rattle.std.proofs.Math.Nat.{mul-le-mul_right}
use Rattle.std.specs.Int.{div_ceil}
use Rattle.std.proofs.lemmas.Grind.{div_ceil_times}
use borrow.Rule.Slice.PartMut.{put_mid}

-- the front of a list that begins with another
take_past : (xs ys : List ℕ) (start n : ℕ) → length xs ≡ start
    → take (start + n) (xs ++ ys) ≡ xs ++ take n ys
take_past xs ys start n same = rw (← same) (take-append-add xs ys n)

-- the front of a cut block and what stands after it: the block where it fits, else the part that
-- was left for it
front_of_cut : (block rest : List ℕ) (len room : ℕ) → length block ≡ len → (room ≤ len → rest ≡ [])
    → take len (take (min len room) block ++ rest) ≡ take room block
front_of_cut block rest len room same end =
    elim (cases_lt len room) [
      | inl lt ↦
          let all : min len room ≡ len = omega arith in
          rw (
            all,
            take_all len block (omega arith),
            take-append-le len block rest (omega arith),
            take_all len block (omega arith),
          )
          (sym (take_all room block (omega arith)))
      | inr le ↦
          let part : min len room ≡ room = omega arith in
          rw (part, end le, append-nil (take room block))
          (take_all len (take room block) (omega (arith, length-take room block)))
    ]

-- the output's front, made of what was written before and of the block, is the front of both
pub take-put_mid_cut : (old made block ys : List ℕ) (start len end : ℕ)
    → start ≤ length old → length made ≡ start → length block ≡ len
    → end ≡ min (start + len) (length old)
    → ys ≡ take (end - start) block → take start old ≡ take (length old) made
    → take (start + len) (put_mid start (end - start) old ys) ≡ take (length old) (made ++ block)
take-put_mid_cut old made block ys start len end within made_len block_len end_is ys_is front =
    let room : ℕ = length old - start in
    let all : length old ≡ start + room = omega arith in
    let cut : end - start ≡ min len room = omega arith in
    let made_is : take start old ≡ made = front ∙ take_all (length old) made (omega arith) in
    let rest : room ≤ len → drop (end - start) (drop start old) ≡ [] =
    (λ le. drop_all (end - start) (drop start old) (omega (arith, length-drop start old))) in
    let left = take_past made (ys ++ drop (end - start) (drop start old)) start len made_len in
    let right = take_past made block start room made_len in
    let middle = front_of_cut block (drop (end - start) (drop start old)) len room block_len rest in
    rw (made_is, left, ys_is, all, right) (ap (λ (zs : List ℕ). made ++ zs) (rw (← cut) at middle))

-- each block of as many as reach a length begins within it
pub start_within : (i len n : ℕ) → 0 < len → i < div_ceil n len → i * len ≤ n
start_within i len n some below =
    let times = div_ceil_times n len some in
    let le : (i + 1) * len ≤ div_ceil n len * len = mul-le-mul_right len (omega arith) in
    omega (arith, times, le)
