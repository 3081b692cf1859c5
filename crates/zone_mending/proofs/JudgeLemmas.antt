-- Blocks of a part that are sealed anew one by one, where their digests were saved.
use Rattle.std.proofs.Common.{◌≡◌, ◌≢◌, ◌∙◌, inl, inr, ℕ, suc, ◌+◌, ◌-◌, ◌*◌, ◌<◌, ◌≤◌, List, ◌++◌}
use Rattle.std.proofs.Common.{length, take, drop, refl, sym, ap, subst, arith}
use Rattle.std.proofs.lemmas.Bool.{cases_lt}
use Rattle.std.proofs.lemmas.List.{length-take-le}
use borrow.Rule.Slice.PartMut.{put_mid, post_of}
use Rattle.sector_disk.proofs.DiskViews.Blockwise.{block_at-behind, block_at-drop, block_at-front, block_at-next}
use Rattle.sector_disk.proofs.DiskViews.Blockwise.{block_at-one, block_at-take, block_within}
use Rattle.sector_disk.specs.DiskViews.Parts.{block_at}
use Rattle.hotzone.specs.Steps.{resealed}
use Rattle.sha2.specs.Sha256.{sha256}
use Rattle.volume_machine.specs.Seals.{Seals}
use Rattle.zone_mending.specs.Steps.{IsJudged}

-- ---- one block is put among others
module _ (atom n count : ℕ) (text block : List ℕ) (size : length text ≡ count * atom)
    (inside : n < count) (long : length block ≡ 1 * atom) where
  abbrev behind : List ℕ
  behind = post_of (n * atom) atom text

  abbrev after : List ℕ
  after = put_mid (n * atom) atom text block

  front : length (take (n * atom) text) ≡ n * atom
  front = length-take-le (n * atom) text
      (let within = block_within atom count n inside in omega (arith, within, size))

  pub put-here : block_at atom after n ≡ block
  put-here =
      ap (λ k. block_at atom after k) (let e : n ≡ n + 0 = omega arith in e)
      ∙ block_at-behind atom n (take (n * atom) text) (block ++ behind) 0 front
      ∙ block_at-front atom 1 block behind 0 (omega arith) (omega (arith, long))
      ∙ block_at-one atom block long

  pub put-before : (k : ℕ) → k < n → block_at atom after k ≡ block_at atom text k
  put-before k below =
      block_at-front atom n (take (n * atom) text) (block ++ behind) k below (omega (arith, front))
      ∙ block_at-take atom n text k below

  pub put-behind : (k : ℕ) → n < k → block_at atom after k ≡ block_at atom text k
  put-behind k far =
      let j = k - n - 1 in
      ap (λ i. block_at atom after i) (let e : k ≡ n + (1 + j) = omega (arith, far) in e)
      ∙ block_at-behind atom n (take (n * atom) text) (block ++ behind) (1 + j) front
      ∙ block_at-behind atom 1 block behind j long
      ∙ block_at-next atom (drop (n * atom) text) j
      ∙ block_at-drop atom n text (suc j)
      ∙ ap (λ i. block_at atom text i) (let e : n + suc j ≡ k = omega (arith, far) in e)

-- ---- the first n of a piece's blocks are judged, and the rest is as it was
pub record AreJudged (seals : Seals) (atom first count n : ℕ) (digests part text : List ℕ) : Type 0
  where
    pub old : (k : ℕ) → k < n → sha256 (block_at atom part k) ≡ block_at 32 digests k
        → block_at atom text k ≡ resealed seals (first + k) (block_at atom part k)
    pub new : (k : ℕ) → k < n → sha256 (block_at atom part k) ≢ block_at 32 digests k
        → block_at atom text k ≡ block_at atom part k
    pub rest : (k : ℕ) → n ≤ k → k < count → block_at atom text k ≡ block_at atom part k

pub judged-none : (seals : Seals) (atom first count : ℕ) (digests part : List ℕ)
    → AreJudged seals atom first count 0 digests part part
judged-none seals atom first count digests part = record {
  old = λ k below. absurd (omega (arith, below));
  new = λ k below. absurd (omega (arith, below));
  rest = λ k from below. refl;
}

pub judged-next : (seals : Seals) (atom first count n : ℕ) (digests part text block : List ℕ)
    → length text ≡ count * atom → n < count → length block ≡ 1 * atom
    → (sha256 (block_at atom text n) ≡ block_at 32 digests n
    → block ≡ resealed seals (first + n) (block_at atom text n))
    → (sha256 (block_at atom text n) ≢ block_at 32 digests n → block ≡ block_at atom text n)
    → AreJudged seals atom first count n digests part text
    → AreJudged seals atom first count (n + 1) digests part (put_mid (n * atom) atom text block)
judged-next seals atom first count n digests part text block size inside long old new are =
    let same = are.rest n (omega arith) inside in
    record {
      old = λ k below told. elim (cases_lt k n) [
        | inl before ↦ put-before atom n count text block size inside long k before ∙ are.old k before told
        | inr here ↦
            let is : k ≡ n = omega (arith, below, here) in
            subst (λ i. block_at atom (put_mid (n * atom) atom text block) i
            ≡ resealed seals (first + i) (block_at atom part i)) (sym is)
            (put-here atom n count text block size inside long
            ∙ old (ap sha256 same ∙ subst (λ i. sha256 (block_at atom part i) ≡ block_at 32 digests i) is told)
            ∙ ap (λ b. resealed seals (first + n) b) same)
      ];
      new = λ k below other. elim (cases_lt k n) [
        | inl before ↦ put-before atom n count text block size inside long k before ∙ are.new k before other
        | inr here ↦
            let is : k ≡ n = omega (arith, below, here) in
            subst (λ i. block_at atom (put_mid (n * atom) atom text block) i ≡ block_at atom part i)
            (sym is)
            (put-here atom n count text block size inside long
            ∙ new (λ told. subst (λ i. sha256 (block_at atom part i) ≢ block_at 32 digests i) is other
            (ap sha256 (sym same) ∙ told))
            ∙ same)
      ];
      rest = λ k from below.
          put-behind atom n count text block size inside long k (omega (arith, from))
          ∙ are.rest k (omega (arith, from)) below;
    }

pub judged-all : (seals : Seals) (atom first count n : ℕ) (digests part text : List ℕ)
    → count ≤ n → length text ≡ length part
    → AreJudged seals atom first count n digests part text
    → IsJudged seals atom first count digests part text
judged-all seals atom first count n digests part text all size are = record {
  size = size;
  old = λ k below. are.old k (omega (arith, below, all));
  new = λ k below. are.new k (omega (arith, below, all));
}
