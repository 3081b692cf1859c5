-- Lemmas on the blocks of a plain disk, block by block.
use Rattle.std.proofs.Common.{Contains, List, [], ap, arith, drop, false, le_of_suc-le-suc, length}
use Rattle.std.proofs.Common.{length-take, map, mul-le-mul_right, refl, replicate, slice_index_or}
use Rattle.std.proofs.Common.{suc, suc-le-suc, sym, take, zero, ℕ, ◌*◌, ◌+◌, ◌<◌, ◌∙◌, ◌∷◌, ◌≡◌}
use Rattle.std.proofs.Common.{◌≤◌}
use Rattle.std.proofs.lemmas.List.{get_or-drop, get_or-map, get_or-take}
use Rattle.std.proofs.lemmas.List.Elements.{Contains-append_left, Contains-push}
use Rattle.base_terms.specs.Blocks.{blocks_of, changed, joined, lengths}
use Rattle.plain_disk.specs.Plain.{Block, flushed, settled, values_of, written, AreSure}
use Rattle.plain_disk.specs.Plain.{newest_bytes}
use Rattle.sector_disk.proofs.DiskViews.Blockwise.{block_at-part, length-part, same_blocks}
use Rattle.sector_disk.specs.DiskViews.Parts.{block_at}
use Rattle.sector_disk.specs.DiskViews.Views.{IsOutside}
use Rattle.base_terms.proofs.BlockLemmas.{blocks_of-joined, length-joined}
use Rattle.sector_disk.proofs.DiskViews.Entries.{blocks_of-at, changed_blocks-inside, changed_blocks-outside}
use Rattle.volume_laws.specs.Contents.{block_in}

-- blocks that are changed by the blocks of a text, and flushed ones
pub block_in-changed_outside : (change : Block → List ℕ
    → Block) (blocks : List Block) (atom at n : ℕ) (text : List ℕ) (b : ℕ) → IsOutside at n b
    → block_in (changed change blocks at (blocks_of atom n text)) b ≡ block_in blocks b
block_in-changed_outside change blocks atom at n text b is =
    changed_blocks-outside change blocks atom at n text b (settled []) is

pub block_in-changed_inside : (change : Block
    → List ℕ → Block) (blocks : List Block) (atom at n : ℕ) (text : List ℕ) (k : ℕ) → k < n
    → at + k < length blocks → block_in (changed change blocks at (blocks_of atom n text)) (at + k)
    ≡ change (block_in blocks (at + k)) (block_at atom text k)
block_in-changed_inside change blocks atom at n text k inside within =
    changed_blocks-inside change blocks atom at n text k (settled []) inside within

pub block_in-flushed : (blocks : List Block) (b : ℕ) → b < length blocks
    → block_in (map flushed blocks) b ≡ flushed (block_in blocks b)
block_in-flushed blocks b inside = get_or-map flushed blocks b (settled []) (settled []) inside

-- each newest value has a block's bytes
abbrev pub AreSized : ℕ → List Block → Type 0
AreSized atom blocks = (b : ℕ) → b < length blocks → length (block_in blocks b).newest ≡ atom

even_newest : (atom : ℕ) (blocks : List Block) → AreSized atom blocks
    → lengths (map (λ block. block.newest) blocks) ≡ replicate (length blocks) atom
unfolding lengths
even_newest atom [] sized = refl
even_newest atom (block ∷ blocks) sized = rw (
  sized 0 (omega arith),
  even_newest atom blocks (λ b below. sized (suc b) (suc-le-suc below)),
) refl

-- the newest values as one text
module _ (atom : ℕ) (blocks : List Block) (sized : AreSized atom blocks) where
  pub length-newest_bytes : length (newest_bytes blocks) ≡ length blocks * atom
  unfolding newest_bytes
  length-newest_bytes = length-joined atom (length blocks) (map (λ block. block.newest) blocks)
      (even_newest atom blocks sized)

  pub block_at-newest_bytes : (b : ℕ) → b < length blocks
      → block_at atom (newest_bytes blocks) b ≡ (block_in blocks b).newest
  unfolding newest_bytes
  block_at-newest_bytes b inside =
      let values = map (λ block. block.newest) blocks in
      sym (blocks_of-at atom (length blocks) (joined values) b [] inside)
      ∙ ap (λ vs. slice_index_or vs b []) (blocks_of-joined atom (length blocks) values (even_newest
      atom blocks sized)) ∙ get_or-map (λ block. block.newest) blocks b (settled []) [] inside

-- a text of the newest values of some blocks is that part of the newest bytes
pub is_newest_part : (atom s n : ℕ) (blocks : List Block) (text : List ℕ) → AreSized atom blocks
    → s + n ≤ length blocks → length text ≡ n * atom
    → ((k : ℕ) → k < n → block_at atom text k ≡ (block_in blocks (s + k)).newest)
    → text ≡ take (n * atom) (drop (s * atom) (newest_bytes blocks))
is_newest_part atom s n blocks text sized within is newest = same_blocks atom n text (take (n
    * atom) (drop (s * atom) (newest_bytes blocks))) is (length-part atom s n (newest_bytes blocks)
    (omega (arith, mul-le-mul_right atom within, length-newest_bytes atom blocks sized))) (λ k
    inside. newest k inside ∙ sym (block_at-newest_bytes atom blocks sized (s + k) (omega arith))
    ∙ sym (block_at-part atom s n (newest_bytes blocks) k inside))

-- no block is unsure
pub sure_blocks : (blocks : List Block)
    → ((b : ℕ) → b < length blocks → (block_in blocks b).unsure ≡ false) → AreSure blocks
unfolding AreSure
sure_blocks [] sure = tt
sure_blocks (block ∷ blocks) sure =
    (sure 0 (omega arith), sure_blocks blocks (λ b inside. sure (suc b) (suc-le-suc inside)))

pub sure_in : (blocks : List Block) (b : ℕ) → AreSure blocks → b < length blocks
    → (block_in blocks b).unsure ≡ false
unfolding AreSure
sure_in [] b sure inside = absurd (omega arith)
sure_in (block ∷ blocks) zero sure inside = sure.0
sure_in (block ∷ blocks) (suc b) sure inside = sure_in blocks b sure.1 (le_of_suc-le-suc inside)

pub sure_part : (s n : ℕ) (blocks : List Block) → s + n ≤ length blocks → ((b : ℕ)
    → s ≤ b → b < s + n → (block_in blocks b).unsure ≡ false) → AreSure (take n (drop s blocks))
sure_part s n blocks within sure =
    let rest : List Block = drop s blocks in
    sure_blocks (take n rest) (λ b inside.
    let below : b < n = omega (arith, length-take n rest) in
    ap (λ block. block.unsure) (get_or-take n rest b (settled []) below
    ∙ get_or-drop s blocks b (settled [])) ∙ sure (s + b) (omega arith) (omega arith))

-- what stays a value of a block
pub newest_contained : (block : Block) → Contains (values_of block) block.newest
newest_contained block = Contains-push block.older block.newest

-- a value that is written or tried is one of the block's then, and so is each before
pub written_contained : (block : Block) (value : List ℕ)
    → Contains (values_of (written block value)) value
written_contained block value = Contains-push (values_of block) value

pub written-keeps : (block : Block) (value other : List ℕ) → Contains (values_of block) other
    → Contains (values_of (written block value)) other
written-keeps block value other has = Contains-append_left (values_of block) (value ∷ []) other has
