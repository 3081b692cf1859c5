-- Lemmas on texts that are put in place of a disk's bytes, and on what its blocks become.
use Rattle.std.proofs.Common.{◌≡◌, ℕ, ◌+◌, ◌-◌, ◌*◌, ◌/◌, ◌%◌, ◌<◌, ◌≤◌, List, [], ◌++◌, length}
use Rattle.std.proofs.Common.{take, drop, replicate, refl, inl, inr, sym, ap, ap₂, ◌∙◌, subst, arith}
use Rattle.std.proofs.Common.{append_assoc, length-append, length-drop}
use Rattle.std.proofs.Math.Nat.{div-mul-le_self, mul-le-mul_right}
use Rattle.std.proofs.Math.Seq.{drop-append-add}
use Rattle.std.proofs.lemmas.Bool.{cases_lt}
use Rattle.std.proofs.lemmas.List.{drop-drop, drop_at, length-replicate, length-take-le}
use Rattle.std.proofs.lemmas.List.{nil_from_length, take-append-drop, take-append-le, take-take}
use Rattle.std.proofs.lemmas.List.{take_at}
use Rattle.base_terms.proofs.BlockLemmas.{blocks_of-pasted, joined-blocks_of, pasted-nil}
use Rattle.base_terms.specs.Blocks.{pasted, joined, blocks_of, changed}
use Rattle.plain_disk.specs.Machine.{put}
use Rattle.plain_disk.specs.Operations.{touched}
use Rattle.plain_disk.specs.Plain.{edged}
use Rattle.plain_disk.proofs.RangeLemmas.{touched_bytes, touched_covers, touched_ends}
use Rattle.plain_disk.proofs.RangeLemmas.{touched_whole, touched_within, whole_blocks}

-- a text keeps its length, what is before the place, and what is behind it
module _ (text body : List ℕ) (at : ℕ) where
  front_long : at ≤ length text → length (take at text ++ body) ≡ at + length body
  front_long inside = length-append (take at text) body
      ∙ ap (λ n. n + length body) (length-take-le at text inside)

  pub pasted_long : at + length body ≤ length text → length (pasted text at body) ≡ length text
  unfolding pasted
  pasted_long inside =
      let front = front_long (omega (arith, inside)) in
      let back = length-drop (at + length body) text in
      length-append (take at text ++ body) (drop (at + length body) text)
      ∙ omega (arith, front, back, inside)

  pub take_pasted : (n : ℕ) → n ≤ at → at ≤ length text
      → take n (pasted text at body) ≡ take n text
  unfolding pasted
  take_pasted n before inside =
      let front = length-take-le at text inside in
      take-append-le n (take at text ++ body) (drop (at + length body) text)
      (omega (arith, before, front_long inside))
      ∙ take-append-le n (take at text) body (omega (arith, before, front))
      ∙ take-take n at text before

  pub drop_pasted : (n : ℕ) → at + length body ≤ n → at ≤ length text
      → drop n (pasted text at body) ≡ drop n text
  unfolding pasted
  drop_pasted n behind inside =
      let front = front_long inside in
      let split : n ≡ length (take at text ++ body) + (n - (at + length body)) =
      omega (arith, behind, front) in
      let back : at + length body + (n - (at + length body)) ≡ n = omega (arith, behind) in
      ap (λ k. drop k (take at text ++ body ++ drop (at + length body) text)) split
      ∙ drop-append-add (take at text ++ body) (drop (at + length body) text)
      (n - (at + length body))
      ∙ drop-drop (n - (at + length body)) (at + length body) text ∙ ap (λ k. drop k text) back

-- a text that differs from another in one part alone is that other with this part put in place
pub part_pasted : (text other : List ℕ) (at n : ℕ) → length other ≡ length text
    → at + n ≤ length text → take at other ≡ take at text → drop (at + n) other ≡ drop (at + n) text
    → pasted text at (take n (drop at other)) ≡ other
unfolding pasted
part_pasted text other at n long inside before behind =
    let size : length (take n (drop at other)) ≡ n =
    length-take-le n (drop at other) (omega (arith, length-drop at other, long, inside)) in
    let back : drop (at + length (take n (drop at other))) text ≡ drop n (drop at other) =
    ap (λ k. drop (at + k) text) size ∙ sym behind ∙ sym (drop-drop n at other) in
    ap₂ (λ front rest. front ++ take n (drop at other) ++ rest) (sym before) back
    ∙ append_assoc (take at other) (take n (drop at other)) (drop n (drop at other))
    ∙ ap (λ rest. take at other ++ rest) (take-append-drop n (drop at other))
    ∙ take-append-drop at other

-- a disk's bytes of so many blocks, into which a body is put
module _ (atom count offset : ℕ) (text body : List ℕ) (some : 0 < atom)
    (long : length text ≡ count * atom) (within : offset + length body ≤ count * atom) where
  whole_long : length (pasted text offset body) ≡ length text
  whole_long = pasted_long text body offset (omega (arith, long, within))

  -- the blocks that it touches lie in the disk
  in_blocks : offset / atom + touched atom offset (length body) ≤ count
  in_blocks = rw (touched_ends atom offset (length body) some)
      (touched_within atom count offset (length body) some within)

  in_bytes : offset / atom * atom + touched atom offset (length body) * atom ≤ length text
  in_bytes = rw (touched_bytes atom offset (length body) some, long)
      (mul-le-mul_right atom
      (touched_within atom count offset (length body) some within))

  -- what they become has their length
  pub edged_long : length (edged atom text offset body) ≡ touched atom offset (length body) * atom
  unfolding edged
  edged_long = length-take-le (touched atom offset (length body) * atom)
      (drop (offset / atom * atom) (pasted text offset body))
      (omega (
        arith,
        length-drop (offset / atom * atom) (pasted text offset body),
        whole_long,
        in_bytes,
      ))

  -- behind them all is as it was
  behind_blocks : drop (offset / atom * atom + touched atom offset (length body) * atom)
      (pasted text offset body)
      ≡ drop (offset / atom * atom + touched atom offset (length body) * atom) text
  behind_blocks = elim (cases_lt 0 (length body)) [
    | inl more ↦ drop_pasted text body offset
        (offset / atom * atom + touched atom offset (length body) * atom)
        (omega (
          arith,
          touched_bytes atom offset (length body) some,
          touched_covers atom offset (length body) some more,
        )) (omega (arith, long, within))
    | inr none ↦
        let nothing : body ≡ [] = nil_from_length body (omega (arith, none)) in
        ap (λ all. drop (offset / atom * atom + touched atom offset (length body) * atom) all)
        (ap (λ bytes. pasted text offset bytes) nothing ∙ pasted-nil text offset)
  ]

  -- so the body is put in place by whole blocks
  pub edged_pasted : pasted text (offset / atom * atom) (edged atom text offset body)
      ≡ pasted text offset body
  unfolding edged
  edged_pasted = part_pasted text (pasted text offset body) (offset / atom * atom)
      (touched atom offset (length body) * atom) whole_long in_bytes
      (take_pasted text body offset (offset / atom * atom) (div-mul-le_self offset atom)
      (omega (arith, long, within))) behind_blocks

  written_blocks : blocks_of atom count (pasted text offset body)
      ≡ changed put (blocks_of atom count text) (offset / atom)
      (blocks_of atom (touched atom offset (length body)) (edged atom text offset body))
  written_blocks = ap (λ all. blocks_of atom count all) (sym edged_pasted)
      ∙ blocks_of-pasted count atom (offset / atom) (touched atom offset (length body)) text
      (edged atom text offset body) long in_blocks edged_long

  -- the values of the disk's blocks then
  pub written_values : blocks_of atom count (pasted text offset body)
      ≡ changed put (blocks_of atom count text) (offset / atom)
      (blocks_of atom (touched atom offset (length body))
      (edged atom (joined (blocks_of atom count text)) offset body))
  written_values = written_blocks ∙ ap (λ all. changed put (blocks_of atom count text)
      (offset / atom) (blocks_of atom (touched atom offset (length body))
      (edged atom all offset body))) (sym (joined-blocks_of atom count text long))

-- the same of so many zeros
pub zeroed_values : (atom count offset len : ℕ) (text : List ℕ) → 0 < atom
    → length text ≡ count * atom → offset + len ≤ count * atom
    → blocks_of atom count (pasted text offset (replicate len 0))
    ≡ changed put (blocks_of atom count text) (offset / atom)
    (blocks_of atom (touched atom offset len)
    (edged atom (joined (blocks_of atom count text)) offset (replicate len 0)))
zeroed_values atom count offset len text some long within =
    let size = length-replicate {A = ℕ} len 0 in
    subst (λ n. blocks_of atom count (pasted text offset (replicate len 0))
    ≡ changed put (blocks_of atom count text) (offset / atom)
    (blocks_of atom (touched atom offset n)
    (edged atom (joined (blocks_of atom count text)) offset (replicate len 0)))) size
    (written_values atom count offset text (replicate len 0) some long
    (subst (λ n. offset + n ≤ count * atom) (sym size) within))

-- whole blocks become the body
pub edged_whole : (atom offset : ℕ) (bytes body : List ℕ) → 0 < atom → offset % atom ≡ 0
    → length body % atom ≡ 0 → offset + length body ≤ length bytes
    → edged atom bytes offset body ≡ body
unfolding edged pasted
edged_whole atom offset bytes body some start whole within =
    let place : offset / atom * atom ≡ offset = whole_blocks atom offset start in
    let count : touched atom offset (length body) * atom ≡ length body =
    ap (λ n. n * atom) (touched_whole atom offset (length body) some start whole)
    ∙ whole_blocks atom (length body) whole in
    let front : length (take offset bytes) ≡ offset =
    length-take-le offset bytes (omega (arith, within)) in
    let rest : List ℕ = drop (offset + length body) bytes in
    ap₂ (λ n at. take n (drop at (take offset bytes ++ body ++ rest))) count place
    ∙ ap (λ all. take (length body) all) (ap (λ all. drop offset all)
    (append_assoc (take offset bytes) body rest) ∙ drop_at (take offset bytes) (body ++ rest) offset
    front)
    ∙ take_at body rest (length body) refl
