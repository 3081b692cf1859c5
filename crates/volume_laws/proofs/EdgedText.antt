-- What a write tried is what the plain disk makes of its blocks: in its range its own bytes, beside it
-- those of its edges.
use Rattle.std.proofs.Common.{Bool, List, [], ap, arith, drop, inl, inr, length, length-append}
use Rattle.std.proofs.Common.{length-drop, length-take, refl, slice_index_or, subst, sym, take, ℕ}
use Rattle.std.proofs.Common.{◌%◌, ◌*◌, ◌++◌, ◌+◌, ◌-◌, ◌/◌, ◌<◌, ◌∙◌, ◌≡◌, ◌≤◌}
use Rattle.std.proofs.Math.Nat.{div-mul-le_self, mod-add-div', mul-le-mul_right}
use Rattle.std.proofs.lemmas.Bool.{cases_lt}
use Rattle.std.proofs.lemmas.List.{drop-drop, drop-take, ext_get_or, get_or-append_right, get_or-drop}
use Rattle.std.proofs.lemmas.List.{get_or-take, get_or_append_left, length-take-le, take-take}
use Rattle.std.proofs.lemmas.Nat.{div_below, mod_below}
use Rattle.base_terms.specs.Blocks.{pasted}
use Rattle.plain_disk.proofs.EdgeLemmas.{edged_long}
use Rattle.plain_disk.proofs.RangeLemmas.{touched_bytes, touched_covers, touched_end-none}
use Rattle.plain_disk.proofs.RangeLemmas.{touched_ends, touched_within}
use Rattle.plain_disk.specs.Operations.{touched, touched_end}
use Rattle.plain_disk.specs.Plain.{Block, edged, newest_bytes}
use Rattle.sector_disk.specs.DiskViews.Parts.{block_at}
use Rattle.volume_machine.proofs.EdgeBlocks.{edge_found}
use Rattle.volume_machine.specs.Answers.{BeginsWith}
use Rattle.volume_machine.specs.Asks.{offset_of}
use Rattle.volume_machine.specs.Edges.{InPlain, IsBeside, KeepsEdges, edge_at, edges_of, in_range}
use Rattle.volume_machine.specs.declared.ask.Ask.TheVariants.{Write}
use Rattle.volume_laws.specs.Contents.{block_in}
use Rattle.volume_laws.proofs.PlainBlocks.{AreSized, block_at-newest_bytes, length-newest_bytes}

-- a range out of a part of a text
pub range_part : (text : List ℕ) (from rest len many : ℕ) → rest + len ≤ many
    → take len (drop rest (take many (drop from text))) ≡ take len (drop (from + rest) text)
range_part text from rest len many enough =
    let split : many ≡ rest + (many - rest) = omega (arith, enough) in
    ap (λ m. take len (drop rest (take m (drop from text)))) split
    ∙ ap (λ xs. take len xs) (drop-take rest (many - rest) (drop from text))
    ∙ take-take len (many - rest) (drop rest (drop from text)) (omega (arith, enough))
    ∙ ap (λ xs. take len xs) (drop-drop rest from text)

-- as many bytes as the range has, where those of all blocks that it touches are there
pub length-in_range : (atom offset len : ℕ) (bytes : List ℕ) → 0 < atom
    → length bytes ≡ touched atom offset len * atom → length (in_range atom offset len bytes) ≡ len
length-in_range atom offset len bytes some whole = elim (cases_lt 0 len) [
  | inl more ↦
      let split = mod-add-div' offset atom in
      let ends = touched_bytes atom offset len some in
      let covers = touched_covers atom offset len some more in
      length-take-le len (drop (offset % atom) bytes)
      (omega (arith, length-drop (offset % atom) bytes, whole, split, ends, covers))
  | inr none ↦ let is : len ≡ 0 = omega (arith, none) in rw is refl
]

-- the bytes of a text in place of which others were put
module _ (text body : List ℕ) (at place : ℕ) (inside : at + length body ≤ length text) where
  front_long : length (take at text) ≡ at
  front_long = length-take-le at text (omega (arith, inside))

  byte_before : place < at → slice_index_or (pasted text at body) place 0 ≡ slice_index_or text place 0
  unfolding pasted
  byte_before before =
      get_or_append_left (take at text ++ body) (drop (at + length body) text) 0 place
      (omega (arith, before, front_long, length-append (take at text) body))
      ∙ get_or_append_left (take at text) body 0 place (omega (arith, before, front_long))
      ∙ get_or-take at text place 0 before

  byte_of_body : at ≤ place → place < at + length body
      → slice_index_or (pasted text at body) place 0 ≡ slice_index_or body (place - at) 0
  unfolding pasted
  byte_of_body from to =
      get_or_append_left (take at text ++ body) (drop (at + length body) text) 0 place
      (omega (arith, to, front_long, length-append (take at text) body))
      ∙ get_or-append_right (take at text) body at place 0 front_long from

  byte_behind : at + length body ≤ place
      → slice_index_or (pasted text at body) place 0 ≡ slice_index_or text place 0
  unfolding pasted
  byte_behind behind =
      let both : length (take at text ++ body) ≡ at + length body =
      length-append (take at text) body ∙ ap (λ n. n + length body) front_long in
      get_or-append_right (take at text ++ body) (drop (at + length body) text) (at + length body)
      place 0 both behind
      ∙ get_or-drop (at + length body) text (place - (at + length body)) 0
      ∙ ap (λ n. slice_index_or text n 0) (omega (arith, behind))

-- a byte of the plain disk's blocks is one of its block
newest_byte : (atom : ℕ) (left : List Block) → AreSized atom left → (b k : ℕ) → b < length left
    → k < atom → slice_index_or (newest_bytes left) (b * atom + k) 0
    ≡ slice_index_or (block_in left b).newest k 0
newest_byte atom left sized b k below inside =
    sym (get_or-take atom (drop (b * atom) (newest_bytes left)) k 0 inside
    ∙ get_or-drop (b * atom) (newest_bytes left) k 0)
    ∙ ap (λ block. slice_index_or block k 0) (block_at-newest_bytes atom left sized b below)

-- so many bytes of whole blocks that a write tried, of a body that begins with them in its range
module _ (atom offset len n : ℕ) (fua : Bool) (left : List Block) (plain : InPlain)
    (body : List ℕ) (some : 0 < atom) (sized : AreSized atom left)
    (within : offset + len ≤ length left * atom) (long : length body ≡ len)
    (size : length plain.bytes ≡ n * atom) (few : n ≤ touched atom offset len)
    (begins : BeginsWith body (in_range atom offset len plain.bytes))
    (keeps : KeepsEdges atom (Write offset len fua) plain)
    (right : (which : ℕ) → which < length (edges_of atom (Write offset len fua)) → 0 < n
    → slice_index_or plain.edges which []
    ≡ (block_in left (edge_at atom (Write offset len fua) which)).newest) where
  first : offset / atom * atom + offset % atom ≡ offset
  first = let split = mod-add-div' offset atom in omega (arith, split)

  disk_long : offset + length body ≤ length (newest_bytes left)
  disk_long = rw (length-newest_bytes atom left sized, long) within

  -- a byte of its range
  byte_in_range : (p : ℕ) → p < n * atom → offset ≤ offset / atom * atom + p
      → offset / atom * atom + p < offset + len
      → slice_index_or body (offset / atom * atom + p - offset) 0 ≡ slice_index_or plain.bytes p 0
  byte_in_range p below from to =
      let place : offset / atom * atom + p - offset ≡ p - offset % atom =
      omega (arith, first, from) in
      let back : offset % atom + (p - offset % atom) ≡ p = omega (arith, first, from) in
      let short : p - offset % atom < len = omega (arith, first, from, to) in
      let taken = length-take len (drop (offset % atom) plain.bytes) in
      let left_of = length-drop (offset % atom) plain.bytes in
      let inside : p - offset % atom < length (in_range atom offset len plain.bytes) =
      omega (arith, taken, left_of, size, below, first, from, short) in
      ap (λ k. slice_index_or body k 0) place
      ∙ sym (get_or-take (length (in_range atom offset len plain.bytes)) body (p - offset % atom) 0
      inside)
      ∙ ap (λ xs. slice_index_or xs (p - offset % atom) 0) begins
      ∙ get_or-take len (drop (offset % atom) plain.bytes) (p - offset % atom) 0 short
      ∙ get_or-drop (offset % atom) plain.bytes (p - offset % atom) 0
      ∙ ap (λ k. slice_index_or plain.bytes k 0) back

  -- the block of a byte that was tried is touched
  block_of : (p : ℕ) → p < n * atom → p / atom < n
  block_of p below = div_below p atom n some below

  byte_place : (p : ℕ) → (offset / atom + p / atom) * atom + p % atom ≡ offset / atom * atom + p
  byte_place p =
      let split = mod-add-div' p atom in
      let sum : (offset / atom + p / atom) * atom ≡ offset / atom * atom + p / atom * atom =
      grind arith in
      omega (arith, split, sum)

  some_byte : (p : ℕ) → p < n * atom → 0 < len
  some_byte p below = elim (cases_lt 0 len) [
    | inl more ↦ more
    | inr none ↦
        let is : len ≡ 0 = omega (arith, none) in
        let no : touched_end atom offset len ≡ offset / atom =
        ap (λ l. touched_end atom offset l) is ∙ touched_end-none atom offset in
        absurd (let block = block_of p below in omega (arith, few, no, block))
  ]

  -- a byte beside it
  byte_beside : (p : ℕ) → p < n * atom
      → IsBeside (Write offset len fua) (offset / atom * atom + p)
      → slice_index_or (newest_bytes left) (offset / atom * atom + p) 0
      ≡ slice_index_or plain.bytes p 0
  byte_beside p below beside =
      let block = block_of p below in
      let rest = mod_below p atom some in
      let ends = touched_ends atom offset len some in
      let last : offset / atom + p / atom < touched_end atom offset len =
      omega (arith, ends, few, block) in
      let found = edge_found atom offset len fua (offset / atom + p / atom) (p % atom) some
      (some_byte p below) (omega arith) last rest
      (subst (λ m. IsBeside (Write offset len fua) m) (sym (byte_place p)) beside) in
      let kept = keeps.each found.which p found.below (omega (arith, size, below)) found.is beside in
      let edge = right found.which found.below (omega (arith, block)) in
      ap (λ m. slice_index_or (newest_bytes left) m 0) (sym (byte_place p))
      ∙ newest_byte atom left sized (offset / atom + p / atom) (p % atom)
      (touched_inside (offset / atom + p / atom) last) rest
      ∙ ap (λ b. slice_index_or (block_in left b).newest (p % atom) 0) (sym found.is)
      ∙ ap (λ xs. slice_index_or xs (p % atom) 0) (sym edge) ∙ sym kept
    where
      touched_inside : (b : ℕ) → b < touched_end atom offset len → b < length left
      touched_inside b last =
          let all = touched_within atom (length left) offset len some within in
          omega (arith, all, last)

  byte_edged : (p : ℕ) → p < n * atom
      → slice_index_or (pasted (newest_bytes left) offset body) (offset / atom * atom + p) 0
      ≡ slice_index_or plain.bytes p 0
  byte_edged p below = elim (cases_lt (offset / atom * atom + p) offset) [
    | inl before ↦ byte_before (newest_bytes left) body offset (offset / atom * atom + p) disk_long
        before ∙ byte_beside p below (inl before)
    | inr from ↦ elim (cases_lt (offset / atom * atom + p) (offset + len)) [
      | inl to ↦ byte_of_body (newest_bytes left) body offset (offset / atom * atom + p) disk_long
          from (omega (arith, to, long)) ∙ byte_in_range p below from to
      | inr behind ↦ byte_behind (newest_bytes left) body offset (offset / atom * atom + p) disk_long
          (omega (arith, behind, long)) ∙ byte_beside p below (inr behind)
    ]
  ]

  -- so they are the first of what the plain disk makes of the blocks
  pub edged_tried : take (n * atom) (edged atom (newest_bytes left) offset body) ≡ plain.bytes
  unfolding edged
  edged_tried =
      let count : touched atom offset (length body) ≡ touched atom offset len =
      ap (λ l. touched atom offset l) long in
      let enough : n * atom ≤ touched atom offset (length body) * atom =
      mul-le-mul_right atom (omega (arith, few, count)) in
      let all = edged_long atom (length left) offset (newest_bytes left) body some
      (length-newest_bytes atom left sized) (omega (arith, within, long)) in
      let taken : length (take (n * atom) (edged atom (newest_bytes left) offset body)) ≡ n * atom =
      length-take-le (n * atom) (edged atom (newest_bytes left) offset body)
      (omega (arith, all, enough)) in
      ext_get_or 0 (take (n * atom) (edged atom (newest_bytes left) offset body)) plain.bytes
      (taken ∙ sym size) (λ p inside.
      let below : p < n * atom = omega (arith, inside, taken) in
      get_or-take (n * atom) (edged atom (newest_bytes left) offset body) p 0 below
      ∙ get_or-take (touched atom offset (length body) * atom)
      (drop (offset / atom * atom) (pasted (newest_bytes left) offset body)) p 0
      (omega (arith, below, enough))
      ∙ get_or-drop (offset / atom * atom) (pasted (newest_bytes left) offset body) p 0
      ∙ byte_edged p below)
