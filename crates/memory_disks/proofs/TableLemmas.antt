-- Lemmas on the tables of a disk in memory as its record of calls grows.
use Rattle.std.proofs.Common.{◌≡◌, ◌≢◌, ℕ, ◌+◌, ◌*◌, ◌/◌, ◌%◌, ◌<◌, ◌≤◌, List, [], ◌∷◌, ◌++◌}
use Rattle.std.proofs.Common.{length, replicate, Some, IsTrue, refl, sym, ◌∙◌, ap, ap₂, inl, inr}
use Rattle.std.proofs.Common.{arith}
use Rattle.std.proofs.Math.Nat.{le_of_mul-le-mul_right}
use Rattle.base_terms.specs.Blocks.{pasted, blocks_of, lengths}
use Rattle.memory_disks.specs.Calls.{Call, changed_by, table_after, last_table, tables_after, table}
use Rattle.memory_disks.specs.Calls.{tables}
use Rattle.sector_disk.specs.Cells.{Cell, sure, sures, currents, content}
use Rattle.sector_disk.specs.Geometry.{is_atom-true, IsInDisk, is_atom}
use Rattle.sector_disk.specs.Steps.{Told, fresh, then_table}
use Rattle.memory_disks.specs.declared.call_record.Kind.{Kind}
use Rattle.memory_disks.specs.declared.call_record.Kind.TheVariants.{Read, Write, FailedWrite, Sync}
use Rattle.base_terms.proofs.BlockLemmas.{joined-blocks_of, lengths-blocks_of}
use Rattle.memory_disks.proofs.CallLemmas.{last_table-push, tables_after-push, whole_atoms}
use Rattle.sector_disk.proofs.CellLemmas.{currents_tried, currents_synced, currents_sures}
use Rattle.sector_disk.proofs.CellLemmas.{sures-zeros, even_wrote, content_wrote}

-- an atom has bytes
pub some_atom : (atom : ℕ) → IsTrue (is_atom atom) → 0 < atom
some_atom atom is = elim (is_atom-true atom is) [ inl e ↦ omega arith | inr e ↦ omega arith ]

-- whole atoms within the disk end within it
pub ends_within : (atom atoms at len : ℕ) → 0 < atom → IsInDisk atom atoms at len
    → at + len / atom ≤ atoms
ends_within atom atoms at len some place =
    let bytes : len ≡ len / atom * atom = whole_atoms len atom some place.whole in
    let within : at * atom + len ≤ atoms * atom = place.within in
    let most : (at + len / atom) * atom ≤ atoms * atom = grind arith in
    le_of_mul-le-mul_right most some

-- one more call moves the table
pub table-push : (atom atoms : ℕ) (start : List ℕ) (calls : List Call) (call : Call)
    → table atom atoms start (calls ++ call ∷ [])
    ≡ table_after atom (table atom atoms start calls) call
unfolding table
table-push atom atoms start calls call =
    last_table-push atom (sures (blocks_of atom atoms start)) calls call

-- what is told after one more call
pub told-push : (atom atoms : ℕ) (start : List ℕ) (calls : List Call) (call : Call) →
    let old : Told = record {
      now = table atom atoms start calls;
      past = tables atom atoms start calls;
      mark = Some call.mark;
    } in
    let new : Told = record {
      now = table atom atoms start (calls ++ call ∷ []);
      past = tables atom atoms start (calls ++ call ∷ []);
      mark = Some call.mark;
    } in
    new ≡ then_table old (changed_by call.kind (table atom atoms start calls) call.at
    (blocks_of atom (length call.body / atom) call.body))
unfolding table tables table_after
told-push atom atoms start calls call =
    let cells = sures (blocks_of atom atoms start) in
    ap₂ (λ now past. let told : Told =
    record { now = now; past = past; mark = Some call.mark } in told)
    (last_table-push atom cells calls call) (tables_after-push atom cells calls call)

-- a call other than a write leaves the current values
pub currents_changed_by : (kind : Kind) (cells : List Cell) (at : ℕ) (values : List (List ℕ))
    → kind ≢ Write
    → currents (changed_by kind cells at values) ≡ currents cells
currents_changed_by Read cells at values other = refl
currents_changed_by Write cells at values other = absurd (other refl)
currents_changed_by FailedWrite cells at values other = currents_tried cells at values
currents_changed_by Sync cells at values other = currents_synced cells

pub currents_kept : (atom atoms : ℕ) (start : List ℕ) (calls : List Call) (call : Call)
    → call.kind ≢ Write
    → currents (table atom atoms start (calls ++ call ∷ []))
    ≡ currents (table atom atoms start calls)
unfolding table_after
currents_kept atom atoms start calls call other =
    rw (table-push atom atoms start calls call)
    (currents_changed_by call.kind (table atom atoms start calls) call.at
    (blocks_of atom (length call.body / atom) call.body) other)

pub even_other : (atom atoms : ℕ) (start : List ℕ) (calls : List Call) (call : Call)
    → call.kind ≢ Write
    → lengths (currents (table atom atoms start calls)) ≡ replicate atoms atom
    → lengths (currents (table atom atoms start (calls ++ call ∷ []))) ≡ replicate atoms atom
even_other atom atoms start calls call other even =
    rw (currents_kept atom atoms start calls call other) even

pub content_other : (atom atoms : ℕ) (start : List ℕ) (calls : List Call) (call : Call)
    (bytes : List ℕ)
    → call.kind ≢ Write
    → content (table atom atoms start calls) ≡ bytes
    → content (table atom atoms start (calls ++ call ∷ [])) ≡ bytes
unfolding content
content_other atom atoms start calls call bytes other agrees =
    rw (currents_kept atom atoms start calls call other) agrees

-- a write keeps the atoms' size
pub even_write : (atom atoms : ℕ) (start : List ℕ) (calls : List Call) (call : Call)
    → call.kind ≡ Write
    → 0 < atom → length call.body % atom ≡ 0
    → lengths (currents (table atom atoms start calls)) ≡ replicate atoms atom
    → lengths (currents (table atom atoms start (calls ++ call ∷ []))) ≡ replicate atoms atom
unfolding table_after
even_write atom atoms start calls call is some whole even =
    rw (table-push atom atoms start calls call, is)
    (even_wrote atoms atom call.at (length call.body / atom) (table atom atoms start calls)
    call.body even
    (whole_atoms (length call.body) atom some whole))

-- and puts its bytes in their place
pub content_write : (atom atoms : ℕ) (start : List ℕ) (calls : List Call) (call : Call)
    (bytes more : List ℕ)
    → call.kind ≡ Write → 0 < atom → IsInDisk atom atoms call.at (length call.body)
    → lengths (currents (table atom atoms start calls)) ≡ replicate atoms atom
    → content (table atom atoms start calls) ≡ bytes
    → more ≡ pasted bytes (call.at * atom) call.body
    → content (table atom atoms start (calls ++ call ∷ [])) ≡ more
unfolding table_after
content_write atom atoms start calls call bytes more is some place even agrees more_is =
    rw (table-push atom atoms start calls call, is)
    (content_wrote atoms atom call.at (length call.body / atom) (table atom atoms start calls)
    call.body even
    (ends_within atom atoms call.at (length call.body) some place)
    (whole_atoms (length call.body) atom some place.whole)
    ∙ ap (λ text. pasted text (call.at * atom) call.body) agrees ∙ sym more_is)

-- at the start the atoms have their size, and the content is the start's
pub even_start : (atom atoms : ℕ) (start : List ℕ) → length start ≡ atoms * atom
    → lengths (currents (table atom atoms start [])) ≡ replicate atoms atom
unfolding table last_table
even_start atom atoms start whole = rw (currents_sures (blocks_of atom atoms start))
    (lengths-blocks_of atom atoms start whole)

pub content_start : (atom atoms : ℕ) (start : List ℕ) → length start ≡ atoms * atom
    → content (table atom atoms start []) ≡ start
unfolding table last_table content
content_start atom atoms start whole = rw (currents_sures (blocks_of atom atoms start))
    (joined-blocks_of atom atoms start whole)

-- what a disk of zeros tells at the start
pub told-zeros : (atom atoms : ℕ) (start : List ℕ) → start ≡ replicate (atoms * atom) 0 →
    let told : Told = record {
      now = table atom atoms start [];
      past = tables atom atoms start [];
      mark = Some 0;
    } in
    told ≡ fresh (replicate atoms (sure (replicate atom 0)))
unfolding table tables last_table tables_after
told-zeros atom atoms start is =
    ap fresh (ap (λ text. sures (blocks_of atom atoms text)) is ∙ sures-zeros atom atoms)

-- what a disk tells that has made no call
pub told_start : (atom atoms : ℕ) (start : List ℕ) →
    let told : Told = record {
      now = table atom atoms start [];
      past = tables atom atoms start [];
      mark = Some 0;
    } in
    told ≡ fresh (sures (blocks_of atom atoms start))
unfolding table tables last_table tables_after
told_start atom atoms start = refl
