-- Lemmas on calls that are made anew, one after the other.
use Rattle.std.proofs.Common.{◌≡◌, ℕ, zero, suc, ◌+◌, ◌-◌, ◌*◌, ◌<◌, ◌≤◌, List, [], ◌∷◌, ◌++◌}
use Rattle.std.proofs.Common.{length, take, drop, map, get_or, set, refl, sym, ◌∙◌, ap, ap₂, arith}
use Rattle.std.proofs.Common.{append_assoc, inl, inr, length-drop, ◌⊎◌}
use Rattle.std.proofs.lemmas.List.{drop_more, drop_all, append-nil, get_or_at, length-map}
use Rattle.std.proofs.lemmas.List.{length-take-le, map_push, set_at, take_more}
use Rattle.base_terms.specs.Blocks.{blocks_of, changed, joined}
use Rattle.base_terms.proofs.BlockLemmas.{changed-nil}
use Rattle.memory_disks.specs.Calls.{last_table, table_after}
use Rattle.sector_disk.specs.Cells.{Cell, sure, sures, synced}
use Rattle.memory_disks.specs.Images.{chosen, image_from}
use Rattle.memory_disks.specs.Notes.{calls_of, noted_bytes}
use Rattle.memory_disks.specs.declared.call_record.Note.{Note}
use Rattle.memory_disks.specs.declared.images.Choice.{Choice}

-- one more value that is certain
pub sures_step : (atom left : ℕ) (cells : List Cell) (rest : List ℕ) (goal : List Cell)
    → cells ++ sures (blocks_of atom left rest) ≡ goal → 0 < left
    → (cells ++ sure (take atom rest) ∷ []) ++ sures (blocks_of atom (left - 1) (drop atom rest))
    ≡ goal
unfolding sures blocks_of
sures_step atom zero cells rest goal is some = absurd (omega arith)
sures_step atom (suc left) cells rest goal is some =
    let e : suc left - 1 ≡ left = omega arith in
    rw e (append_assoc cells (sure (take atom rest) ∷ [])
    (sures (blocks_of atom left (drop atom rest))) ∙ is)

pub sures_end : (atom left : ℕ) (cells : List Cell) (rest : List ℕ) (goal : List Cell)
    → cells ++ sures (blocks_of atom left rest) ≡ goal → left ≡ 0 → cells ≡ goal
unfolding sures blocks_of
sures_end atom zero cells rest goal is none = sym (append-nil cells) ∙ is
sures_end atom (suc left) cells rest goal is none = absurd (omega arith)

-- one value changed, and the others to come
pub changed_at : (change : Cell → List ℕ → Cell)
    (cells : List Cell) (place : ℕ) (value : List ℕ) (values : List (List ℕ)) (d : Cell)
    → place < length cells
    → changed change cells place (value ∷ values)
    ≡ changed change (set cells place (change (get_or cells place d) value)) (suc place) values
unfolding changed
changed_at change [] place value values d within = absurd (omega arith)
changed_at change (cell ∷ cells) zero value [] d within =
    ap (λ rest. change cell value ∷ rest) (changed-nil change cells 0)
changed_at change (cell ∷ cells) zero value (next ∷ values) d within = refl
changed_at change (cell ∷ cells) (suc place) value [] d within =
    ap (λ rest. cell ∷ rest) (changed_at change cells place value [] d (omega arith)
    ∙ changed-nil change (set cells place (change (get_or cells place d) value)) (suc place))
changed_at change (cell ∷ cells) (suc place) value (next ∷ values) d within =
    ap (λ rest. cell ∷ rest) (changed_at change cells place value (next ∷ values) d (omega arith))

-- values behind the last cell change nothing
pub changed_past : (change : Cell → List ℕ → Cell) (cells : List Cell) (place : ℕ)
    (values : List (List ℕ))
    → length cells ≤ place → changed change cells place values ≡ cells
unfolding changed
changed_past change [] place values past = refl
changed_past change (cell ∷ cells) place [] past = refl
changed_past change (cell ∷ cells) zero (value ∷ values) past = absurd (omega arith)
changed_past change (cell ∷ cells) (suc place) (value ∷ values) past =
    ap (λ rest. cell ∷ rest) (changed_past change cells place (value ∷ values) (omega arith))

-- the first of some blocks is changed, and the others are to come
pub changed_step : (change : Cell → List ℕ → Cell)
    (cells : List Cell) (place atom left : ℕ) (rest : List ℕ) (goal : List Cell) (d : Cell)
    → place < length cells → 0 < left
    → changed change cells place (blocks_of atom left rest) ≡ goal
    → changed change (set cells place (change (get_or cells place d) (take atom rest))) (place + 1)
    (blocks_of atom (left - 1) (drop atom rest)) ≡ goal
unfolding blocks_of
changed_step change cells place atom zero rest goal d within some is = absurd (omega arith)
changed_step change cells place atom (suc left) rest goal d within some is =
    let one : suc left - 1 ≡ left = omega arith in
    let next : place + 1 ≡ suc place = omega arith in
    rw (one, next) (sym (changed_at change cells place (take atom rest)
    (blocks_of atom left (drop atom rest)) d within) ∙ is)

-- no block is left, or no cell
pub changed_end : (change : Cell → List ℕ → Cell)
    (cells : List Cell) (place atom left : ℕ) (rest : List ℕ) (goal : List Cell)
    → changed change cells place (blocks_of atom left rest) ≡ goal
    → (left ≡ 0) ⊎ (length cells ≤ place)
    → cells ≡ goal
unfolding blocks_of
changed_end change cells place atom zero rest goal is none =
    sym (changed-nil change cells place) ∙ is
changed_end change cells place atom (suc left) rest goal is none =
    elim none [
      | inl no_block ↦ absurd (omega arith)
      | inr past ↦ sym
          (changed_past change cells place (blocks_of atom (suc left) rest) past) ∙ is
    ]

-- one more cell is settled
pub settled_step : (all cells : List Cell) (i : ℕ) (d : Cell)
    → cells ≡ map synced (take i all) ++ drop i all
    → i < length all
    → set cells i (synced (get_or cells i d)) ≡ map synced (take (i + 1) all) ++ drop (i + 1) all
settled_step all cells i d is within =
    let front : length (map synced (take i all)) ≡ i =
    length-map (take i all) synced ∙ length-take-le i all (omega arith) in
    let split : cells ≡ map synced (take i all) ++ (get_or all i d ∷ drop (i + 1) all) =
    is ∙ ap (λ rest. map synced (take i all) ++ rest) (drop_more all i d within) in
    let here : get_or cells i d ≡ get_or all i d =
    ap (λ xs. get_or xs i d) split ∙ get_or_at (map synced (take i all)) (get_or all i d)
    (drop (i + 1) all) d i front in
    let more : map synced (take (i + 1) all)
    ≡ map synced (take i all) ++ synced (get_or all i d) ∷ [] =
    ap (λ xs. map synced xs) (take_more all i d within)
    ∙ map_push synced (take i all) (get_or all i d) in
    ap₂ (λ xs cell. set xs i (synced cell)) split here
    ∙ set_at (map synced (take i all)) (get_or all i d) (drop (i + 1) all) (synced (get_or all i d))
    i front
    ∙ sym (ap (λ xs. xs ++ drop (i + 1) all) more
    ∙ append_assoc (map synced (take i all)) (synced (get_or all i d) ∷ []) (drop (i + 1) all))

-- one more atom's candidate is chosen
pub image_step : (choice : Choice) (cells : List Cell) (i : ℕ) (d : Cell) (bytes goal : List ℕ)
    → i < length cells
    → bytes ++ joined (image_from choice i (drop i cells)) ≡ goal
    → (bytes ++ chosen choice i (get_or cells i d))
    ++ joined (image_from choice (i + 1) (drop (i + 1) cells))
    ≡ goal
unfolding joined image_from
image_step choice cells i d bytes goal within is =
    append_assoc bytes (chosen choice i (get_or cells i d))
    (joined (image_from choice (i + 1) (drop (i + 1) cells)))
    ∙ ap (λ rest. bytes ++ joined (image_from choice i rest)) (sym (drop_more cells i d within))
    ∙ is

pub image_end : (choice : Choice) (cells : List Cell) (i : ℕ) (bytes goal : List ℕ)
    → length cells ≤ i
    → bytes ++ joined (image_from choice i (drop i cells)) ≡ goal → bytes ≡ goal
unfolding joined image_from
image_end choice cells i bytes goal past is =
    sym (append-nil bytes) ∙ ap (λ rest. bytes ++ joined (image_from choice i rest))
    (sym (drop_all i cells past)) ∙ is

-- one more call is made anew
pub replay_step : (atom : ℕ) (notes : List Note) (cells goal : List Cell) (i : ℕ) (rest : List ℕ)
    (d : Note)
    → i < length notes
    → last_table atom cells (calls_of (drop i notes) rest) ≡ goal
    → last_table atom (table_after atom cells (record {
      kind = (get_or notes i d).kind;
      at = (get_or notes i d).at;
      body = take (get_or notes i d).len rest;
      mark = (get_or notes i d).mark;
    }))
    (calls_of (drop (i + 1) notes) (drop (get_or notes i d).len rest)) ≡ goal
unfolding last_table calls_of
replay_step atom notes cells goal i rest d within is =
    ap (λ some. last_table atom cells (calls_of some rest)) (sym (drop_more notes i d within)) ∙ is

pub noted_step : (notes : List Note) (i : ℕ) (rest : List ℕ) (d : Note) → i < length notes
    → length rest ≡ noted_bytes (drop i notes)
    → ((get_or notes i d).len ≤ length rest) ×
    (length (drop (get_or notes i d).len rest) ≡ noted_bytes (drop (i + 1) notes))
unfolding noted_bytes
noted_step notes i rest d within is =
    let split : length rest ≡ (get_or notes i d).len + noted_bytes (drop (i + 1) notes) =
    is ∙ ap noted_bytes (drop_more notes i d within) in
    (omega arith, rw (length-drop (get_or notes i d).len rest) (omega arith))

-- one block fewer is left
pub one_less : (left atom : ℕ) → 0 < left → left * atom ≡ (left - 1) * atom + atom
one_less zero atom some = absurd (omega arith)
one_less (suc left) atom some = let e : suc left - 1 ≡ left = omega arith in rw e (grind arith)

pub replay_end : (atom : ℕ) (notes : List Note) (cells goal : List Cell) (i : ℕ) (rest : List ℕ)
    → length notes ≤ i
    → last_table atom cells (calls_of (drop i notes) rest) ≡ goal → cells ≡ goal
unfolding last_table calls_of
replay_end atom notes cells goal i rest past is =
    ap (λ some. last_table atom cells (calls_of some rest)) (sym (drop_all i notes past)) ∙ is
