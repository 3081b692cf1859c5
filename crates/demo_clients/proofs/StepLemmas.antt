-- What a client's operation that was served does to the blocks of a plain disk.
use Rattle.std.proofs.Common.{◌≡◌, ◌≢◌, inl, inr, ℕ, zero, suc, ◌*◌, ◌/◌, ◌%◌, ◌<◌, ◌≤◌, arith}
use Rattle.std.proofs.Common.{◌==◌, if◌then◌else◌, Bool, List, [], ◌∷◌, length, map, take, drop}
use Rattle.std.proofs.Common.{get_or, replicate, Option, Some, None, MatchOption, refl, sym, ◌∙◌, ap}
use Rattle.std.proofs.Common.{ap₂, subst, take_all, mul_comm, lit<}
use Rattle.std.proofs.Math.Nat.{mul-div_cancel_left}
use Rattle.std.proofs.lemmas.Bool.{cases_eq}
use Rattle.std.proofs.lemmas.List.{length-map, length-replicate}
use Rattle.base_terms.specs.Blocks.{blocks_of, changed, joined, lengths}
use Rattle.base_terms.proofs.BlockLemmas.{block_at, blocks_of-joined, changed-nil, even_changed}
use Rattle.base_terms.proofs.BlockLemmas.{held_changed, length-joined}
use Rattle.plain_disk.specs.declared.operation.Op.{Op}
use Rattle.plain_disk.specs.declared.operation.Op.TheVariants.{Read, Write, Zeroes, Flush}
use Rattle.plain_disk.specs.declared.operation.Reply.{Reply}
use Rattle.plain_disk.specs.declared.operation.Reply.TheVariants.{Content, Done, Errno, ErrnoAt}
use Rattle.plain_disk.specs.Operations.{touched, wrong_of}
use Rattle.plain_disk.specs.Outcomes.{IsServed}
use Rattle.plain_disk.specs.Plain.{Block, Exchange, ProperStep, Step, WriteStep, edged, newest_bytes}
use Rattle.plain_disk.proofs.BlockLemmas.{change, change_newest, newest-flushed}
use Rattle.plain_disk.proofs.EdgeLemmas.{edged_whole}
use Rattle.plain_disk.proofs.RangeLemmas.{touched_whole}
use Rattle.demo_clients.specs.Contents.{demo_block}
use Rattle.demo_clients.specs.Histories.{demo_reply}
use Rattle.demo_clients.proofs.HeldLemmas.{IsOwn, held_after, held_here, held_there}
use Rattle.demo_clients.proofs.ShareLemmas.{block-length}

-- the newest values of blocks
abbrev pub newest_of : List Block → List (List ℕ)
newest_of blocks = map (λ block. block.newest) blocks

-- so many blocks of 512 bytes
abbrev pub AreBlocks : (m : ℕ) → List Block → Type 0
AreBlocks m blocks = lengths (newest_of blocks) ≡ replicate m 512

pub count_of : (m : ℕ) (blocks : List Block) → AreBlocks m blocks → length (newest_of blocks) ≡ m
unfolding lengths
count_of m blocks even =
    sym (length-map (newest_of blocks) (λ block. length block))
    ∙ ap (λ xs. length xs) even ∙ length-replicate {A = ℕ} m 512

-- ---- what was served isn't wrong
no_error : (op : Op) (reply : Reply) (number : ℕ) → IsServed op reply → reply ≡ Errno number → ⊥
no_error (Read offset len) (Content bytes) number served is = absurd (cc)
no_error (Read offset len) Done number served is = served
no_error (Read offset len) (Errno e) number served is = served
no_error (Read offset len) (ErrnoAt e place) number served is = served
no_error (Write offset body fua) reply number served is = absurd (cc)
no_error (Zeroes offset len fua) reply number served is = absurd (cc)
no_error Flush reply number served is = absurd (cc)

proper_by : (P : Type 0) (Q : ℕ → Type 0) (wrong : Option ℕ) → ((number : ℕ) → Q number → ⊥)
    → MatchOption wrong P Q → P
proper_by P Q None never goes = goes
proper_by P Q (Some number) never goes = absurd (never number goes)

pub proper_step : (old new : List Block) (one : Exchange) → Step 512 old one new
    → IsServed one.op one.reply → ProperStep 512 old one.op one.reply one.tried new
unfolding Step
proper_step old new one step served =
    proper_by (ProperStep 512 old one.op one.reply one.tried new)
    (λ number. (one.reply ≡ Errno number) × (new ≡ old))
    (wrong_of 512 (length old * 512) one.op)
    (λ number refused. no_error one.op one.reply number served refused.0) step

-- ---- one value put among others
put_here : (values : List (List ℕ)) (k : ℕ) (value : List ℕ) → k < length values
    → get_or (changed (λ _ v. v) values k (value ∷ [])) k [] ≡ value
unfolding changed
put_here [] k value inside = absurd (omega (arith, inside))
put_here (x ∷ xs) zero value inside = refl
put_here (x ∷ xs) (suc k) value inside = put_here xs k value (omega (arith, inside))

put_there : (values : List (List ℕ)) (k b : ℕ) (value : List ℕ) → k ≢ b
    → get_or (changed (λ _ v. v) values k (value ∷ [])) b [] ≡ get_or values b []
unfolding changed
put_there [] k b value differ = refl
put_there (x ∷ xs) zero zero value differ = absurd (differ refl)
put_there (x ∷ xs) zero (suc b) value differ =
    ap (λ vs. get_or vs b []) (changed-nil (λ _ v. v) xs 0)
put_there (x ∷ xs) (suc k) zero value differ = refl
put_there (x ∷ xs) (suc k) (suc b) value differ =
    put_there xs k b value (λ same. differ (ap (λ n. suc n) same))

-- ---- a write of one block
pub at_block : (b : ℕ) → 512 * b / 512 ≡ b
at_block b = mul-div_cancel_left b (lit< tt)

module _ (old new : List Block) (offset : ℕ) (body : List ℕ) (fua : Bool) (k : ℕ)
    (place : offset ≡ 512 * k) (size : length body ≡ 512)
    (is : new ≡ changed (change fua) old (offset / 512)
    (blocks_of 512 (touched 512 offset (length body))
    (edged 512 (newest_bytes old) offset body)))
    (m : ℕ) (even : AreBlocks m old) where
  abbrev text : List ℕ
  text = edged 512 (newest_bytes old) offset body

  starts : offset % 512 ≡ 0
  starts = rw place (omega arith)

  whole : length body % 512 ≡ 0
  whole = rw size refl

  one_block : touched 512 offset (length body) ≡ 1
  one_block = touched_whole 512 offset (length body) (lit< tt) starts whole ∙ rw size refl

  placed : new ≡ changed (change fua) old k (blocks_of 512 1 text)
  placed = is ∙ ap₂ (λ at n. changed (change fua) old at (blocks_of 512 n text))
      (ap (λ n. n / 512) place ∙ at_block k) one_block

  written_values : newest_of new ≡ changed (λ _ v. v) (newest_of old) k (take 512 text ∷ [])
  unfolding blocks_of
  written_values = ap (λ blocks. newest_of blocks) placed
      ∙ held_changed (λ block. block.newest) (change fua) (change_newest fua) old k
      (take 512 text ∷ [])

  -- where it lies in the disk, its block becomes the body
  becomes : k < m → text ≡ body
  unfolding newest_bytes
  becomes below =
      let long = length-joined 512 m (newest_of old) even in
      edged_whole 512 offset (newest_bytes old) body (lit< tt) starts whole
      (omega (arith, place, size, below, long))

  value_is : k < m → take 512 text ≡ body
  value_is below = ap (λ xs. take 512 xs) (becomes below) ∙ take_all 512 body (omega (arith, size))

  pub written_held : (b : ℕ) → b < length (newest_of old)
      → get_or (newest_of new) b []
      ≡ (if offset == 512 * b then body else get_or (newest_of old) b [])
  written_held b inside =
      let values = newest_of old in
      let here = ap (λ vs. get_or vs b []) written_values in
      let at = ap (λ (n : ℕ). if n == 512 * b then body else get_or values b []) place in
      elim (cases_eq k b) [
        | inl same ↦
            here
            ∙ subst
            (λ (j : ℕ). get_or (changed (λ _ v. v) values k (take 512 text ∷ [])) j [] ≡ body)
            same
            (let below : k < length values =
            subst (λ (j : ℕ). j < length values) (sym same) inside in
            put_here values k (take 512 text) below
            ∙ value_is (omega (arith, below, count_of m old even)))
            ∙ sym (at ∙ held_here k b body (get_or values b []) same)
        | inr differ ↦
            here ∙ put_there values k b (take 512 text) differ
            ∙ sym (at ∙ held_there k b body (get_or values b []) differ)
      ]

  pub written_even : k < m → AreBlocks m new
  written_even below = subst (λ blocks. AreBlocks m blocks)
      (sym (placed
      ∙ ap (λ xs. changed (change fua) old k (blocks_of 512 1 xs)) (becomes below)))
      (even_changed (λ block. block.newest) (change fua) (change_newest fua) m 512 k 1 old body even
      (omega (arith, size)))

-- ---- each operation of a client
size_of_own : (seed b : ℕ) (body : List ℕ) → body ≡ demo_block seed b → length body ≡ 512
size_of_own seed b body is = ap (λ xs. length xs) is ∙ block-length seed b

pub step_held : (seed first end b m : ℕ) (old new : List Block) (op : Op) (reply : Reply) (n : ℕ)
    → ProperStep 512 old op reply n new → IsServed op reply → IsOwn seed first end op
    → b < length (newest_of old) → AreBlocks m old
    → get_or (newest_of new) b [] ≡ held_after b op (get_or (newest_of old) b [])
unfolding ProperStep WriteStep
step_held seed first end b m old new (Read offset len) (Content bytes) n step served own inside even =
    ap (λ blocks. get_or (newest_of blocks) b []) step.0
step_held seed first end b m old new (Read offset len) Done n step served own inside even = absurd served
step_held seed first end b m old new (Read offset len) (Errno e) n step served own inside even =
    absurd served
step_held seed first end b m old new (Read offset len) (ErrnoAt e at) n step served own inside even =
    absurd served
step_held seed first end b m old new (Write offset body fua) (Content bytes) n step served own
    inside even = absurd step
step_held seed first end b m old new (Write offset body fua) Done n step served own inside even =
    written_held old new offset body fua own.0 own.3 (size_of_own seed own.0 body own.4)
    step.1 m even b inside
step_held seed first end b m old new (Write offset body fua) (Errno e) n step served own inside even =
    absurd (cc)
step_held seed first end b m old new (Write offset body fua) (ErrnoAt e at) n step served own
    inside even = absurd step
step_held seed first end b m old new (Zeroes offset len fua) reply n step served own inside even =
    absurd own
step_held seed first end b m old new Flush (Content bytes) n step served own inside even = absurd step
step_held seed first end b m old new Flush Done n step served own inside even =
    ap (λ values. get_or values b []) (ap (λ blocks. newest_of blocks) step ∙ newest-flushed old)
step_held seed first end b m old new Flush (Errno e) n step served own inside even = absurd (cc)
step_held seed first end b m old new Flush (ErrnoAt e at) n step served own inside even = absurd step

pub step_even : (seed first end m : ℕ) (old new : List Block) (op : Op) (reply : Reply) (n : ℕ)
    → ProperStep 512 old op reply n new → IsServed op reply → IsOwn seed first end op
    → AreBlocks m old → end ≤ m → AreBlocks m new
unfolding ProperStep WriteStep
step_even seed first end m old new (Read offset len) (Content bytes) n step served own even most =
    subst (λ blocks. AreBlocks m blocks) (sym step.0) even
step_even seed first end m old new (Read offset len) Done n step served own even most = absurd served
step_even seed first end m old new (Read offset len) (Errno e) n step served own even most =
    absurd served
step_even seed first end m old new (Read offset len) (ErrnoAt e at) n step served own even most =
    absurd served
step_even seed first end m old new (Write offset body fua) (Content bytes) n step served own even most =
    absurd step
step_even seed first end m old new (Write offset body fua) Done n step served own even most =
    written_even old new offset body fua own.0 own.3 (size_of_own seed own.0 body own.4)
    step.1 m even (omega (arith, own.2, most))
step_even seed first end m old new (Write offset body fua) (Errno e) n step served own even most =
    absurd (cc)
step_even seed first end m old new (Write offset body fua) (ErrnoAt e at) n step served own even most =
    absurd step
step_even seed first end m old new (Zeroes offset len fua) reply n step served own even most =
    absurd own
step_even seed first end m old new Flush (Content bytes) n step served own even most = absurd step
step_even seed first end m old new Flush Done n step served own even most =
    ap (λ values. lengths values) (ap (λ blocks. newest_of blocks) step ∙ newest-flushed old) ∙ even
step_even seed first end m old new Flush (Errno e) n step served own even most = absurd (cc)
step_even seed first end m old new Flush (ErrnoAt e at) n step served own even most = absurd step

-- ---- what a read is answered
read_value : (m b : ℕ) (blocks : List Block) → AreBlocks m blocks → b < m
    → take 512 (drop (512 * b) (newest_bytes blocks)) ≡ get_or (newest_of blocks) b []
unfolding newest_bytes
read_value m b blocks even inside =
    let values = newest_of blocks in
    ap (λ n. take 512 (drop n (joined values))) (mul_comm 512 b)
    ∙ sym (block_at 512 m b (joined values) inside)
    ∙ ap (λ vs. get_or vs b []) (blocks_of-joined 512 m values even)

-- A read of a block that holds what its client wrote, and any other operation, is answered as it
-- is to be.
pub step_reply : (seed first end m : ℕ) (old new : List Block) (op : Op) (reply : Reply) (n : ℕ)
    → ProperStep 512 old op reply n new → IsServed op reply → IsOwn seed first end op
    → AreBlocks m old → end ≤ m
    → ((b offset len : ℕ) → op ≡ Read offset len → first ≤ b → b < end → offset ≡ 512 * b
    → get_or (newest_of old) b [] ≡ demo_block seed b)
    → reply ≡ demo_reply seed op
unfolding ProperStep WriteStep
step_reply seed first end m old new (Read offset len) (Content bytes) n step served own even most
    holds =
    let b = own.0 in
    let inside : b < m = omega (arith, own.2, most) in
    ap (λ xs. Content xs)
    (step.1
    ∙ ap₂ (λ count at. take count (drop at (newest_bytes old))) own.4 own.3
    ∙ read_value m b old even inside
    ∙ holds b offset len refl own.1 own.2 own.3
    ∙ ap (λ j. demo_block seed j) (sym (ap (λ at. at / 512) own.3 ∙ at_block b)))
step_reply seed first end m old new (Read offset len) Done n step served own even most holds =
    absurd served
step_reply seed first end m old new (Read offset len) (Errno e) n step served own even most holds =
    absurd served
step_reply seed first end m old new (Read offset len) (ErrnoAt e at) n step served own even most
    holds = absurd served
step_reply seed first end m old new (Write offset body fua) reply n step served own even most
    holds = served
step_reply seed first end m old new (Zeroes offset len fua) reply n step served own even most
    holds = served
step_reply seed first end m old new Flush reply n step served own even most holds = served
