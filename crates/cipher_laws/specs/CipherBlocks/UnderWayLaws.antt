-- Loops over pieces: how they begin, go on and end.
use Rattle.std.proofs.Common.{◌≡◌, ℕ, zero, suc, ◌+◌, ◌*◌, ◌≤◌, ◌<◌, List, ◌++◌, length, take, drop}
use Rattle.std.proofs.Common.{refl, ap, sym, ◌∙◌, arith, append_assoc, length-append, length-drop}
use Rattle.std.proofs.lemmas.List.{take_at, drop_at, length-take-le, append-nil, take_all, drop_all}
use Rattle.std.proofs.lemmas.List.{drop-drop}
use borrow.Rule.Slice.PartMut.{put_mid}
use Rattle.cipher_laws.specs.Pieces.{worked}
use Rattle.cipher_laws.specs.CipherBlocks.Blocks.{joined}
use Rattle.cipher_laws.specs.CipherBlocks.UnderWay.{IsUnderWay}

pub under_way_first : {S : Type 0} {change : S → List ℕ → List ℕ} {next : S → List ℕ → List ℕ → S}
    {size : ℕ} (s : S) (count n at : ℕ) (bytes : List ℕ) →
    count ≡ n → at ≡ 0
    → IsUnderWay change next size s count at (worked change next size s n bytes) bytes
under_way_first {change} {next} {size} s count n at bytes same none = record {
  total_is =
      ap (λ (m : ℕ). worked change next size s m bytes) (sym same)
      ∙ ap (λ (a : ℕ). take a bytes ++ worked change next size s count (drop a bytes)) (sym none);
}

pub under_way_last : {S : Type 0} {change : S → List ℕ → List ℕ} {next : S → List ℕ → List ℕ → S}
    {size : ℕ} {s : S} {count at : ℕ} {total bytes : List ℕ} →
    IsUnderWay change next size s count at total bytes → count ≡ 0 → length bytes ≡ at
    → bytes ≡ total
unfolding worked
under_way_last {change} {next} {size} {s} {count} {at} {total} {bytes} way none whole =
    sym (way.total_is
    ∙ ap (λ (m : ℕ). take at bytes ++ worked change next size s m (drop at bytes)) none
    ∙ append-nil (take at bytes) ∙ take_all at bytes (omega arith))

-- one piece more is done
pub under_way_more : {S : Type 0} {change : S → List ℕ → List ℕ} {next : S → List ℕ → List ℕ → S}
    {size : ℕ} {s : S} {count at : ℕ} {total old : List ℕ} →
    IsUnderWay change next size s count at total old
    → (n past : ℕ) (value : S) (changed new : List ℕ) →
    count ≡ suc n → at + size ≡ past → past ≤ length old → length changed ≡ size →
    changed ≡ change s (take size (drop at old)) → value ≡ next s (take size (drop at old)) changed
    → new ≡ (take at old ++ changed) ++ drop (at + size) old →
    IsUnderWay change next size value n past total new
unfolding worked
under_way_more {change} {next} {size} {s} {count} {at} {total} {old} way n past value changed new
    one_more next_at within long changed_is value_is new_is =
    let front_long : length (take at old) ≡ at = length-take-le at old (omega arith) in
    let done_long : length (take at old ++ changed) ≡ past =
    length-append (take at old) changed ∙ omega arith in
    let further : drop size (drop at old) ≡ drop past old =
    drop-drop size at old ∙ ap (λ (m : ℕ). drop m old) next_at in
    let new_past : new ≡ (take at old ++ changed) ++ drop past old =
    new_is ∙ ap (λ (m : ℕ). (take at old ++ changed) ++ drop m old) next_at in
    let front : take past new ≡ take at old ++ changed =
    ap (take past) new_past ∙ take_at (take at old ++ changed) (drop past old) past done_long in
    let behind : drop past new ≡ drop past old =
    ap (drop past) new_past ∙ drop_at (take at old ++ changed) (drop past old) past done_long in
    record {
      total_is =
          way.total_is
          ∙ ap (λ (m : ℕ). take at old ++ worked change next size s m (drop at old)) one_more
          ∙ ap (λ (c : List ℕ). take at old
          ++ (c ++ worked change next size (next s (take size (drop at old)) c) n
          (drop size (drop at old)))) (sym changed_is)
          ∙ rw (← value_is, further, behind, front)
          (sym (append_assoc (take at old) changed
          (worked change next size value n (drop past old))));
    }

-- pieces that are each changed under a value, and hand on the next one's, are the first ones of
-- those worked on in turn
joined_worked : {S : Type 0} (change : S → List ℕ → List ℕ) (next : S → List ℕ → List ℕ → S)
    (size : ℕ) (s : ℕ → S) (pieces : ℕ → List ℕ) (bytes : List ℕ) (m rest j n : ℕ) → j + n ≡ m →
    ((k : ℕ) → k < m → pieces k ≡ change (s k) (take size (drop (size * k) bytes)))
    → ((k : ℕ) → k < m → s (suc k) ≡ next (s k) (take size (drop (size * k) bytes)) (pieces k)) →
    worked change next size (s j) (n + rest) (drop (size * j) bytes)
    ≡ joined pieces j n ++ worked change next size (s m) rest (drop (size * m) bytes)
unfolding worked joined
joined_worked change next size s pieces bytes m rest j zero all changed value =
    let none : 0 + rest ≡ rest = omega arith in
    let same : j ≡ m = omega (arith, all) in
    rw (none, same) refl
joined_worked change next size s pieces bytes m rest j (suc n) all changed value =
    let one_more : suc n + rest ≡ suc (n + rest) = omega arith in
    let below : j < m = omega (arith, all) in
    let here : List ℕ = take size (drop (size * j) bytes) in
    let others : List ℕ = worked change next size (s m) rest (drop (size * m) bytes) in
    let further : drop size (drop (size * j) bytes) ≡ drop (size * suc j) bytes =
    drop-drop size (size * j) bytes ∙ ap (λ (a : ℕ). drop a bytes) (omega arith) in
    let later =
    joined_worked change next size s pieces bytes m rest (suc j) n (omega (arith, all)) changed
    value in
    ap (λ (a : ℕ). worked change next size (s j) a (drop (size * j) bytes)) one_more
    ∙ ap (λ (c : List ℕ). c
    ++ worked change next size (next (s j) here c) (n + rest) (drop size (drop (size * j) bytes)))
    (sym (changed j below))
    ∙ rw (← value j below, further, later)
    (sym (append_assoc (pieces j) (joined pieces (suc j) n) others))

-- m pieces more are done
pub under_way_row : {S : Type 0} {change : S → List ℕ → List ℕ} {next : S → List ℕ → List ℕ → S}
    {size : ℕ} {t : S} {count at : ℕ} {total old : List ℕ} →
    IsUnderWay change next size t count at total old
    → (m n past : ℕ) (s : ℕ → S) (pieces : ℕ → List ℕ) (new : List ℕ) →
    count ≡ m + n → at + size * m ≡ past → past ≤ length old → length new ≡ length old → t ≡ s 0 →
    ((k : ℕ) → k < m → pieces k ≡ change (s k) (take size (drop (at + size * k) old)))
    → ((k : ℕ) → k < m → s (suc k) ≡ next (s k) (take size (drop (at + size * k) old)) (pieces k)) →
    new ≡ (take at old ++ joined pieces 0 m) ++ drop (at + size * m) old
    → IsUnderWay change next size (s m) n past total new
under_way_row {S} {change} {next} {size} {t} {count} {at} {total} {old} way m n past s pieces new
    more next_at within same_long first changed value is =
    let new_is : new ≡ (take at old ++ joined pieces 0 m) ++ drop past old =
    is ∙ ap (λ (a : ℕ). (take at old ++ joined pieces 0 m) ++ drop a old) next_at in
    let front : List ℕ = take at old ++ joined pieces 0 m in
    let long : length front ≡ past =
    omega (
      arith,
      same_long,
      sym (length-append front (drop past old)),
      ap length new_is,
      length-drop past old,
    ) in
    let before : take past new ≡ front =
    ap (take past) new_is ∙ take_at front (drop past old) past long in
    let behind : drop past new ≡ drop past old =
    ap (drop past) new_is ∙ drop_at front (drop past old) past long in
    let place : (k : ℕ)
    → take size (drop (size * k) (drop at old)) ≡ take size (drop (at + size * k) old) =
    λ k. ap (take size) (drop-drop (size * k) at old) in
    let here = λ (k : ℕ) (below : k < m). changed k below ∙ ap (change (s k)) (sym (place k)) in
    let handed =
    λ (k : ℕ) (below : k < m). value k below
    ∙ ap (λ (b : List ℕ). next (s k) b (pieces k)) (sym (place k)) in
    let further : drop (size * m) (drop at old) ≡ drop past old =
    drop-drop (size * m) at old ∙ ap (λ (a : ℕ). drop a old) next_at in
    let start : 0 ≡ size * 0 = omega arith in
    let step : worked change next size (s 0) (m + n) (drop at old)
    ≡ joined pieces 0 m ++ worked change next size (s m) n (drop past old)
    = ap (λ (a : ℕ). worked change next size (s 0) (m + n) (drop a (drop at old))) start
    ∙ joined_worked change next size s pieces (drop at old) m n 0 m (omega arith) here handed
    ∙ ap (λ (l : List ℕ). joined pieces 0 m ++ worked change next size (s m) n l) further in
    record {
      total_is =
          way.total_is
          ∙ rw (more, first, step, before, behind)
          (sym (append_assoc (take at old) (joined pieces 0 m)
          (worked change next size (s m) n (drop past old))));
    }

-- what is left is worked on as a list of its own, and put in its place
pub under_way_rest : {S : Type 0} {change : S → List ℕ → List ℕ} {next : S → List ℕ → List ℕ → S}
    {size : ℕ} {s : S} {n at : ℕ} {total old : List ℕ} →
    IsUnderWay change next size s n at total old → (k : ℕ) (rest : List ℕ) → length old ≤ at + k
    → rest ≡ worked change next size s n (drop at old) → put_mid at k old rest ≡ total
under_way_rest {at} {old} way k rest whole is =
    ap (λ (l : List ℕ). take at old ++ (rest ++ l))
    (drop_all k (drop at old) (omega (arith, length-drop at old, whole)))
    ∙ ap (λ (l : List ℕ). take at old ++ l) (append-nil rest ∙ is) ∙ sym way.total_is
