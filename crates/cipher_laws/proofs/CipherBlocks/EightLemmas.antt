-- Eight blocks that are put one after another.
use Rattle.std.proofs.Common.{◌≡◌, ℕ, ◌+◌, ◌≤◌, List, ◌++◌, length, take, drop, ap, sym, ◌∙◌, arith}
use Rattle.std.proofs.Common.{length-append}
use Rattle.std.proofs.lemmas.List.{take_at, drop_at, length-take-le, take-append-drop, drop-drop}
use Rattle.cipher_laws.specs.CipherBlocks.Blocks.{with_block}

-- blocks are put up to a place: these bytes stand before it, and the old ones from it on
pub record ArePut (front old : List ℕ) (at : ℕ) (new : List ℕ) : Type 0 where
  pub new_is : new ≡ front ++ drop at old
  pub long : length front ≡ at

pub put_first : (at : ℕ) (old : List ℕ) → at ≤ length old → ArePut (take at old) old at old
put_first at old within =
    record { new_is = sym (take-append-drop at old); long = length-take-le at old within }

-- one block more is put
pub put_next : {front old new : List ℕ} {at : ℕ} → ArePut front old at new
    → (past : ℕ) (block after : List ℕ) →
    at + 16 ≡ past → length block ≡ 16 → after ≡ with_block new at block
    → ArePut (front ++ block) old past after
put_next {front} {old} {new} {at} put past block after next long is =
    let before : take at new ≡ front =
    ap (take at) put.new_is ∙ take_at front (drop at old) at put.long in
    let behind : drop at new ≡ drop at old =
    ap (drop at) put.new_is ∙ drop_at front (drop at old) at put.long in
    let further : drop (at + 16) new ≡ drop past old =
    sym (drop-drop 16 at new) ∙ ap (drop 16) behind ∙ drop-drop 16 at old
    ∙ ap (λ (m : ℕ). drop m old) next in
    record {
      new_is = is ∙ rw (before, further);
      long = length-append front block ∙ omega (arith, put.long);
    }
