-- Digests that stand one behind the other.
use Rattle.std.proofs.Common.{◌≡◌, ℕ, ◌+◌, ◌-◌, ◌*◌, ◌≤◌, List, [], ◌++◌, length, take, drop}
use Rattle.std.proofs.Common.{replicate, sym, ◌∙◌, ap, inl, inr, arith, length-append, length-drop}
use Rattle.std.proofs.Common.{append-nil, length-take, min, ◌/◌, ◌%◌, ◌<◌}
use Rattle.std.proofs.Math.Nat.{mod-add-div', mod-lt, mul-le-mul_right, mul_assoc}
use Rattle.std.proofs.lemmas.Bool.{cases_lt}
use Rattle.std.proofs.lemmas.List.{drop_at, length-take-le, length-replicate, nil_from_length}
use borrow.Rule.Slice.PartMut.{put_mid, post_of}
use Rattle.sector_disk.proofs.DiskViews.Blockwise.{block_at-front, block_at-behind, block_at-one}
use Rattle.sector_disk.proofs.DiskViews.Blockwise.{block_at-drop, block_at-part, block_at-take, blocks_end}
use Rattle.sector_disk.specs.DiskViews.Parts.{block_at}
use Rattle.resil_checksum.specs.Digests.{AreDigests, AreSaved}
use Rattle.std.specs.Fork.{IsChunk, slice_chunk}
use Rattle.sha2.proofs.Facts256.{length-sha256}
use Rattle.sha2.specs.Sha256.{sha256}

-- the next one is put behind the first k
pub digests-next : (atom k : ℕ) (old out digest rest : List ℕ) → k * 32 ≤ length out
    → digest ≡ sha256 (block_at atom old k) → AreDigests atom k old out
    → AreDigests atom (k + 1) old (take (k * 32) out ++ (digest ++ rest))
digests-next atom k old out digest rest within is before i below =
    let front = length-take-le (k * 32) out within in
    elim (cases_lt i k) [
      | inl earlier ↦
          block_at-front 32 k (take (k * 32) out) (digest ++ rest) i earlier (omega (arith, front))
          ∙ block_at-take 32 k out i earlier ∙ before i earlier
      | inr last ↦
          let here : i ≡ k + 0 = omega arith in
          let same : k ≡ i = omega arith in
          let long : length digest ≡ 1 * 32 = ap length is ∙ length-sha256 (block_at atom old k) in
          ap (λ p. block_at 32 (take (k * 32) out ++ (digest ++ rest)) p) here
          ∙ block_at-behind 32 k (take (k * 32) out) (digest ++ rest) 0 front
          ∙ block_at-front 32 1 digest rest 0 (omega arith) (omega (arith, long))
          ∙ block_at-one 32 digest long ∙ is ∙ ap (λ j. sha256 (block_at atom old j)) same
    ]

-- a chunk of whole runs is one of whole digests, whose atoms are there
pub run-whole : (atom run blocks start : ℕ) (old out chunk : List ℕ) → length out ≡ blocks * 32
    → blocks * atom ≤ length old
    → IsChunk out (run * 32) start chunk
    → (length chunk % 32 ≡ 0) × (start / 32 * atom + length chunk / 32 * atom ≤ length old)
run-whole atom run blocks start old out chunk long enough is =
    let q = start / (run * 32) in
    let start_is : start ≡ q * run * 32 =
    omega (
      arith,
      mod-add-div' start (run * 32),
      is.start_is_multiple,
      mul_assoc q run 32,
    ) in
    let size : length chunk % 32 ≡ 0 = elim (cases_lt (run * 32) (length out - start)) [
      | inl more ↦ omega (arith, is.len, more)
      | inr last ↦ omega (arith, is.len, last, long, start_is)
    ] in
    let last : start / 32 + length chunk / 32 ≤ blocks =
    omega (arith, is.in_bounds, long, start_is, size) in
    let within : (start / 32 + length chunk / 32) * atom ≤ blocks * atom =
    mul-le-mul_right atom last in
    (size, omega (arith, within, enough, blocks_end atom (start / 32) (length chunk / 32)))

-- runs of them, which threads made, are all of them
pub digests-joined : (atom run blocks : ℕ) (old before after : List ℕ) → 0 < run
    → length before ≡ blocks * 32
    → ((n : ℕ) → n * (run * 32) < length before
    → AreDigests atom (length (slice_chunk before (run * 32) n) / 32)
    (drop (n * (run * 32) / 32 * atom) old) (slice_chunk after (run * 32) n))
    → AreDigests atom blocks old after
digests-joined atom run blocks old before after some long runs i below =
    let n = i / run in
    let j = i % run in
    let place : j + n * run ≡ i = mod-add-div' i run in
    let inside : j < run = mod-lt i some in
    let start : n * (run * 32) ≡ n * run * 32 = sym (mul_assoc n run 32) in
    let within : n * (run * 32) < length before = omega (arith, start, long, place, below) in
    let size : length (slice_chunk before (run * 32) n)
    ≡ min (run * 32) (length before - n * (run * 32)) =
    length-take (run * 32) (drop (n * (run * 32)) before)
    ∙ ap (λ m. min (run * 32) m) (length-drop (n * (run * 32)) before) in
    let enough : j < length (slice_chunk before (run * 32) n) / 32 =
    omega (arith, size, start, long, place, below, inside) in
    let number : n * (run * 32) / 32 ≡ n * run = omega (arith, start) in
    let sum : n * run + j ≡ i = omega (arith, place) in
    ap (λ k. block_at 32 after k) (sym sum)
    ∙ sym (block_at-part 32 (n * run) run after j inside)
    ∙ ap (λ m. block_at 32 (take (run * 32) (drop m after)) j) (sym start)
    ∙ runs n within j enough
    ∙ ap (λ m. sha256 (block_at atom (drop (m * atom) old) j)) number
    ∙ ap (λ b. sha256 b) (block_at-drop atom (n * run) old j)
    ∙ ap (λ k. sha256 (block_at atom old k)) sum

-- digests are there whatever stands behind them
pub digests-front : (atom n : ℕ) (old out rest : List ℕ) → n * 32 ≤ length out → AreDigests atom n old out
    → AreDigests atom n old (out ++ rest)
digests-front atom n old out rest long digests i below =
    block_at-front 32 n out rest i below long ∙ digests i below

-- zeros are put behind all of them
pub saved : (atom n : ℕ) (old out zeros : List ℕ) → n * 32 ≤ length out
    → zeros ≡ replicate (length out - n * 32) 0 → AreDigests atom n old out
    → AreSaved atom n old (put_mid (n * 32) (length out - n * 32) out zeros)
saved atom n old out zeros within is digests =
    let front = length-take-le (n * 32) out within in
    let rest : List ℕ = post_of (n * 32) (length out - n * 32) out in
    let none : rest ≡ [] = nil_from_length rest
    (length-drop (length out - n * 32) (drop (n * 32) out)
    ∙ omega (arith, length-drop (n * 32) out)) in
    let behind : zeros ++ rest ≡ zeros = ap (λ l. zeros ++ l) none ∙ append-nil zeros in
    let long : length (take (n * 32) out ++ (zeros ++ rest)) - n * 32 ≡ length out - n * 32 =
    ap (λ l. length l - n * 32) (ap (λ l. take (n * 32) out ++ l) (behind ∙ is))
    ∙ omega (
      arith,
      length-append (take (n * 32) out) (replicate (length out - n * 32) 0),
      front,
      length-replicate {A = ℕ} (length out - n * 32) 0,
    ) in
    record {
      digests = λ i below.
          block_at-front 32 n (take (n * 32) out) (zeros ++ rest) i below (omega (arith, front))
          ∙ block_at-take 32 n out i below ∙ digests i below;
      zeros = drop_at (take (n * 32) out) (zeros ++ rest) (n * 32) front ∙ behind ∙ is
          ∙ ap (λ m. replicate m 0) (sym long);
    }
