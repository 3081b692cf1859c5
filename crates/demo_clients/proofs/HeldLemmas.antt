-- What a block holds behind operations of a client.
use Rattle.std.proofs.Common.{◌≡◌, ◌≢◌, inl, inr, ℕ, zero, suc, ◌+◌, ◌*◌, ◌<◌, ◌≤◌, arith}
use Rattle.std.proofs.Common.{◌==◌, true, false, if◌then◌else◌, List, [], ◌∷◌, ◌++◌, map, refl, ◌∙◌, ap}
use Rattle.std.proofs.Common.{subst}
use Rattle.std.proofs.lemmas.Bool.{cases_eq}
use Rattle.std.specs.List.{range_with_len}
use Rattle.plain_disk.specs.declared.operation.Op.{Op}
use Rattle.plain_disk.specs.declared.operation.Op.TheVariants.{Read, Write, Zeroes, Flush}
use Rattle.demo_clients.specs.Contents.{demo_block}
use Rattle.demo_clients.specs.Operations.{operations_on, read_of, write_of}

-- block `b` behind an operation that is within one block, of what it held
abbrev pub held_after : (b : ℕ) → Op → List ℕ → List ℕ
held_after b (Read offset len) value = value
held_after b (Write offset body fua) value = if offset == 512 * b then body else value
held_after b (Zeroes offset len fua) value = value
held_after b Flush value = value

unfoldable pub held_behind : (b : ℕ) → List Op → List ℕ → List ℕ
held_behind b [] value = value
held_behind b (op ∷ ops) value = held_behind b ops (held_after b op value)

-- an operation of a client whose blocks are those from `first` to before `end`
abbrev pub IsOwn : (seed first end : ℕ) → Op → Type 0
IsOwn seed first end (Read offset len) =
    (b : ℕ) × (first ≤ b) × (b < end) × (offset ≡ 512 * b) × (len ≡ 512)
IsOwn seed first end (Write offset body fua) =
    (b : ℕ) × (first ≤ b) × (b < end) × (offset ≡ 512 * b) × (body ≡ demo_block seed b)
IsOwn seed first end (Zeroes offset len fua) = ⊥
IsOwn seed first end Flush = Unit {0}

unfoldable pub AllOwn : (seed first end : ℕ) → List Op → Type 0
AllOwn seed first end [] = Unit {0}
AllOwn seed first end (op ∷ ops) = IsOwn seed first end op × AllOwn seed first end ops

-- an operation that isn't a write, and one that is a read
abbrev pub LeavesAll : Op → Type 0
LeavesAll (Read offset len) = Unit {0}
LeavesAll (Write offset body fua) = ⊥
LeavesAll (Zeroes offset len fua) = ⊥
LeavesAll Flush = Unit {0}

abbrev pub IsRead : Op → Type 0
IsRead (Read offset len) = Unit {0}
IsRead (Write offset body fua) = ⊥
IsRead (Zeroes offset len fua) = ⊥
IsRead Flush = ⊥

unfoldable pub AllLeave : List Op → Type 0
AllLeave [] = Unit {0}
AllLeave (op ∷ ops) = LeavesAll op × AllLeave ops

-- no write is behind a read
unfoldable pub WritesFirst : List Op → Type 0
WritesFirst [] = Unit {0}
WritesFirst (op ∷ ops) = (IsRead op → AllLeave ops) × WritesFirst ops

-- ---- one block
same_place : (a b : ℕ) → a ≡ b → (512 * a == 512 * b) ≡ true
same_place a b same = grind (arith, same)

other_place : (a b : ℕ) → a ≢ b → (512 * a == 512 * b) ≡ false
other_place a b differ = grind arith

-- a write of the block, and of another one
pub held_here : (a b : ℕ) (body value : List ℕ) → a ≡ b
    → (if 512 * a == 512 * b then body else value) ≡ body
held_here a b body value same = ap (λ t. if t then body else value) (same_place a b same)

pub held_there : (a b : ℕ) (body value : List ℕ) → a ≢ b
    → (if 512 * a == 512 * b then body else value) ≡ value
held_there a b body value differ = ap (λ t. if t then body else value) (other_place a b differ)

-- operations of a client leave the blocks of others
pub held_apart : (seed first end b : ℕ) (op : Op) (value : List ℕ) → IsOwn seed first end op
    → (first ≤ b → b < end → ⊥) → held_after b op value ≡ value
held_apart seed first end b (Read offset len) value own apart = refl
held_apart seed first end b (Write offset body fua) value own apart =
    ap (λ (at : ℕ). if at == 512 * b then body else value) own.3
    ∙ held_there own.0 b body value
    (λ same. apart (subst (λ (n : ℕ). first ≤ n) same own.1) (subst (λ (n : ℕ). n < end) same own.2))
held_apart seed first end b (Zeroes offset len fua) value own apart = refl
held_apart seed first end b Flush value own apart = refl

-- ---- operations one after the other
pub held_leave : (b : ℕ) (ops : List Op) (value : List ℕ) → AllLeave ops
    → held_behind b ops value ≡ value
unfolding held_behind AllLeave
held_leave b [] value leave = refl
held_leave b (Read offset len ∷ ops) value leave = held_leave b ops value leave.1
held_leave b (Write offset body fua ∷ ops) value leave = absurd leave.0
held_leave b (Zeroes offset len fua ∷ ops) value leave = absurd leave.0
held_leave b (Flush ∷ ops) value leave = held_leave b ops value leave.1

held-append : (b : ℕ) (ops more : List Op) (value : List ℕ)
    → held_behind b (ops ++ more) value ≡ held_behind b more (held_behind b ops value)
unfolding held_behind
held-append b [] more value = refl
held-append b (op ∷ ops) more value = held-append b ops more (held_after b op value)

leave_reads : (a n : ℕ) → AllLeave (map read_of (range_with_len a n))
unfolding AllLeave
leave_reads a zero = tt
leave_reads a (suc n) = (tt, leave_reads (a + 1) n)

leave_last : (a n : ℕ) → AllLeave (Flush ∷ map read_of (range_with_len a n))
unfolding AllLeave
leave_last a n = (tt, leave_reads a n)

-- writes of blocks behind this one
held_past : (seed a n b : ℕ) (value : List ℕ) → b < a
    → held_behind b (map (write_of seed) (range_with_len a n)) value ≡ value
unfolding held_behind
held_past seed a zero b value below = refl
held_past seed a (suc n) b value below =
    ap (λ (v : List ℕ). held_behind b (map (write_of seed) (range_with_len (a + 1) n)) v)
    (held_there a b (demo_block seed a) value (λ same. omega (arith, same, below)))
    ∙ held_past seed (a + 1) n b value (omega (arith, below))

held_writes : (seed a n b : ℕ) (value : List ℕ) → a ≤ b → b < a + n
    → held_behind b (map (write_of seed) (range_with_len a n)) value ≡ demo_block seed b
unfolding held_behind
held_writes seed a zero b value least below = absurd (omega (arith, least, below))
held_writes seed a (suc n) b value least below =
    let rest = map (write_of seed) (range_with_len (a + 1) n) in
    elim (cases_eq a b) [
      | inl same ↦
          ap (λ (v : List ℕ). held_behind b rest v) (held_here a b (demo_block seed a) value same)
          ∙ held_past seed (a + 1) n b (demo_block seed a) (omega (arith, same))
          ∙ ap (λ (j : ℕ). demo_block seed j) same
      | inr differ ↦
          ap (λ (v : List ℕ). held_behind b rest v)
          (held_there a b (demo_block seed a) value differ)
          ∙ held_writes seed (a + 1) n b value
          (let e : a + 1 ≤ b = omega (arith, least, differ) in e) (omega (arith, below))
    ]

-- ---- the operations of a client
pub held_client : (seed first count b : ℕ) (value : List ℕ) → first ≤ b → b < first + count
    → held_behind b (operations_on seed first count) value ≡ demo_block seed b
unfolding operations_on
held_client seed first count b value least below =
    let writes = map (write_of seed) (range_with_len first count) in
    let last = Flush ∷ map read_of (range_with_len first count) in
    held-append b writes last value
    ∙ held_leave b last (held_behind b writes value) (leave_last first count)
    ∙ held_writes seed first count b value least below

own_reads : (seed first end a n : ℕ) → first ≤ a → a + n ≤ end
    → AllOwn seed first end (map read_of (range_with_len a n))
unfolding AllOwn
own_reads seed first end a zero least most = tt
own_reads seed first end a (suc n) least most = (
  (a, least, omega (arith, most), refl, refl),
  own_reads seed first end (a + 1) n (omega (arith, least)) (omega (arith, most)),
)

own_writes : (seed first end a n : ℕ) (rest : List Op) → first ≤ a → a + n ≤ end
    → AllOwn seed first end rest
    → AllOwn seed first end (map (write_of seed) (range_with_len a n) ++ rest)
unfolding AllOwn
own_writes seed first end a zero rest least most own = own
own_writes seed first end a (suc n) rest least most own = (
  (a, least, omega (arith, most), refl, refl),
  own_writes seed first end (a + 1) n rest (omega (arith, least)) (omega (arith, most)) own,
)

own_last : (seed first end a n : ℕ) → first ≤ a → a + n ≤ end
    → AllOwn seed first end (Flush ∷ map read_of (range_with_len a n))
unfolding AllOwn
own_last seed first end a n least most = (tt, own_reads seed first end a n least most)

pub own_client : (seed first count end : ℕ) → first + count ≡ end
    → AllOwn seed first end (operations_on seed first count)
unfolding operations_on
own_client seed first count end is =
    own_writes seed first end first count (Flush ∷ map read_of (range_with_len first count))
    (omega arith) (omega (arith, is))
    (own_last seed first end first count (omega arith) (omega (arith, is)))

order_reads : (a n : ℕ) → WritesFirst (map read_of (range_with_len a n))
unfolding WritesFirst
order_reads a zero = tt
order_reads a (suc n) = (λ _. leave_reads (a + 1) n, order_reads (a + 1) n)

order_last : (a n : ℕ) → WritesFirst (Flush ∷ map read_of (range_with_len a n))
unfolding WritesFirst
order_last a n = (λ none. absurd none, order_reads a n)

order_writes : (seed a n : ℕ) (rest : List Op) → WritesFirst rest
    → WritesFirst (map (write_of seed) (range_with_len a n) ++ rest)
unfolding WritesFirst
order_writes seed a zero rest order = order
order_writes seed a (suc n) rest order = (
  λ none. absurd none,
  order_writes seed (a + 1) n rest order,
)

pub order_client : (seed first count : ℕ) → WritesFirst (operations_on seed first count)
unfolding operations_on
order_client seed first count =
    order_writes seed first count (Flush ∷ map read_of (range_with_len first count))
    (order_last first count)
