-- The texts of chunks are told apart.
use Rattle.std.proofs.Common.{◌≡◌, ℕ, ◌+◌, ◌^◌, ◌<◌, Bool, true, false, List, [], ◌∷◌, ◌++◌, length}
use Rattle.std.proofs.Common.{take, drop, ap, ap₂, ◌∙◌, refl, sym, arith, take_at, drop_at}
use Rattle.std.proofs.Common.{append_assoc, append-nil, length-append}
use Rattle.nbd_wire.specs.declared.chunks.ChunkHead.{ChunkHead}
use Rattle.nbd_wire.specs.declared.chunks.ErrorAt.{ErrorAt}
use Rattle.nbd_wire.specs.Chunks.{IsChunkHead, IsError, chunk_head_text, error_data_text}
use Rattle.nbd_wire.specs.Chunks.{error_at_text}
use Rattle.nbd_wire.specs.Fields.{u16_text, u32_text, u64_text}
use Rattle.nbd_wire.proofs.ChunkLemmas.{chunk-once, chunk-size, error-once}
use Rattle.nbd_wire.proofs.FieldLemmas.{u32-first, u64-first}
use Rattle.nbd_wire.specs.ReadReplying.Parts.{Held, Part, nothing, bytes_at, failed, failed_at, AreHeld}
use Rattle.nbd_wire.specs.ReadReplying.Parts.{IsHeld, bytes_of}
use Rattle.nbd_wire.specs.ReadReplying.Parts.{bits_of, head_of, held_length, held_text, part_text, parts_text}
use Rattle.nbd_wire.specs.ReadReplying.Parts.{type_of}
use Rattle.nbd_wire.specs.ReadReplying.Replies.{IsDoneOnce}

split-at : (a b r s : List ℕ) (n : ℕ) → length a ≡ n → length b ≡ n → a ++ r ≡ b ++ s
    → (a ≡ b) × (r ≡ s)
split-at a b r s n la lb e = (
  sym (take_at a r n la) ∙ ap (take n) e ∙ take_at b s n lb,
  sym (drop_at a r n la) ∙ ap (drop n) e ∙ drop_at b s n lb,
)

bits-once : (a b : Bool) → bits_of a ≡ bits_of b → a ≡ b
bits-once true true e = refl
bits-once true false e = absurd (omega (arith, e))
bits-once false true e = absurd (omega (arith, e))
bits-once false false e = refl

data-once : (o p : ℕ) (xs ys r s : List ℕ) → o < 2 ^ 64 → p < 2 ^ 64 → length xs ≡ length ys
    → (u64_text o ++ xs) ++ r ≡ (u64_text p ++ ys) ++ s → (o ≡ p) × (xs ≡ ys) × (r ≡ s)
data-once o p xs ys r s ho hp size e =
    let front =
    u64-first o p (xs ++ r) (ys ++ s) ho hp
    (sym (append_assoc (u64_text o) xs r) ∙ e ∙ append_assoc (u64_text p) ys s) in
    let rest = split-at xs ys r s (length ys) size refl front.1 in (front.0, rest.0, rest.1)

error-size : (n : ℕ) → length (error_data_text n) ≡ 6
unfolding error_data_text u16_text u32_text
error-size n = refl

error-same : (m n : ℕ) → m < 2 ^ 32 → n < 2 ^ 32 → error_data_text m ≡ error_data_text n → m ≡ n
unfolding error_data_text
error-same m n hm hn e = (u32-first m n _ _ hm hn e).0

at-size : (at : ErrorAt) → length (error_at_text at) ≡ 14
unfolding error_at_text u16_text u32_text u64_text
at-size at = refl

at-same : (m n o p : ℕ) → IsError m × (o < 2 ^ 64) → IsError n × (p < 2 ^ 64)
    → error_at_text (record { error = m; offset = o })
    ≡ error_at_text (record { error = n; offset = p })
    → failed_at m o ≡ failed_at n p
at-same m n o p im is e =
    let same =
    error-once (record { error = m; offset = o }) (record { error = n; offset = p })
    (record { error = im.0; offset = im.1 }) (record { error = is.0; offset = is.1 }) e in
    ap₂ failed_at (ap (λ (x : ErrorAt). x.error) same) (ap (λ (x : ErrorAt). x.offset) same)

-- the front data of two equal messages, of one type and one length, and what is behind them
held-once : (x y : Held) (r s : List ℕ) → IsHeld x → IsHeld y → type_of x ≡ type_of y
    → held_length x ≡ held_length y → held_text x ++ r ≡ held_text y ++ s → (x ≡ y) × (r ≡ s)
held-once nothing nothing r s ix iy type size e = (refl, e)
held-once (bytes_at o xs) (bytes_at p ys) r s ix iy type size e =
    let same = data-once o p xs ys r s ix.0 iy.0 (omega (arith, size)) e in
    (ap₂ bytes_at same.0 same.1, same.2)
held-once (failed m) (failed n) r s ix iy type size e =
    let same = split-at _ _ r s 6 (error-size m) (error-size n) e in
    (ap failed (error-same m n ix.1 iy.1 same.0), same.1)
held-once (failed_at m o) (failed_at n p) r s ix iy type size e =
    let same = split-at _ _ r s 14 (at-size _) (at-size _) e in
    (at-same m n o p ix iy same.0, same.1)
held-once nothing (bytes_at p ys) r s ix iy type size e = absurd cc
held-once nothing (failed n) r s ix iy type size e = absurd cc
held-once nothing (failed_at n p) r s ix iy type size e = absurd cc
held-once (bytes_at o xs) nothing r s ix iy type size e = absurd cc
held-once (bytes_at o xs) (failed n) r s ix iy type size e = absurd cc
held-once (bytes_at o xs) (failed_at n p) r s ix iy type size e = absurd cc
held-once (failed m) nothing r s ix iy type size e = absurd cc
held-once (failed m) (bytes_at p ys) r s ix iy type size e = absurd cc
held-once (failed m) (failed_at n p) r s ix iy type size e = absurd cc
held-once (failed_at m o) nothing r s ix iy type size e = absurd cc
held-once (failed_at m o) (bytes_at p ys) r s ix iy type size e = absurd cc
held-once (failed_at m o) (failed n) r s ix iy type size e = absurd cc

bits-fit : (done : Bool) → bits_of done < 2 ^ 16
bits-fit true = omega arith
bits-fit false = omega arith

head-fits : (cookie : ℕ) (done : Bool) (held : Held) → cookie < 2 ^ 64 → IsHeld held
    → IsChunkHead (head_of cookie (record { done = done; held = held }))
head-fits cookie done nothing fits is = record {
  flags = bits-fit done;
  chunk = omega arith;
  named = refl;
  cookie = fits;
  size = omega arith;
}
head-fits cookie done (bytes_at offset bytes) fits is = record {
  flags = bits-fit done;
  chunk = omega arith;
  named = refl;
  cookie = fits;
  size = is.1;
}
head-fits cookie done (failed number) fits is = record {
  flags = bits-fit done;
  chunk = omega arith;
  named = refl;
  cookie = fits;
  size = omega arith;
}
head-fits cookie done (failed_at number offset) fits is = record {
  flags = bits-fit done;
  chunk = omega arith;
  named = refl;
  cookie = fits;
  size = omega arith;
}

-- the front chunk of two equal messages, and what is behind it
part-once : (cookie : ℕ) (x y : Part) (r s : List ℕ) → cookie < 2 ^ 64 → IsHeld x.held
    → IsHeld y.held → part_text cookie x ++ r ≡ part_text cookie y ++ s → (x ≡ y) × (r ≡ s)
unfolding part_text
part-once cookie x y r s fits ix iy e =
    let parts =
    split-at (chunk_head_text (head_of cookie x)) (chunk_head_text (head_of cookie y))
    (held_text x.held ++ r) (held_text y.held ++ s) 20 (chunk-size _) (chunk-size _)
    (sym (append_assoc _ (held_text x.held) r) ∙ e ∙ append_assoc _ (held_text y.held) s) in
    let head =
    chunk-once (head_of cookie x) (head_of cookie y) (head-fits cookie x.done x.held fits ix)
    (head-fits cookie y.done y.held fits iy) parts.0 in
    let held =
    held-once x.held y.held r s ix iy (ap (λ (h : ChunkHead). h.chunk) head)
    (ap (λ (h : ChunkHead). h.length) head) parts.1 in
    let done : x.done ≡ y.done =
    bits-once x.done y.done (ap (λ (h : ChunkHead). h.flags.bits) head) in
    let held_same : x.held ≡ y.held = held.0 in
    let same : ◌≡◌ {A = Part} (record { done = x.done; held = x.held })
    (record { done = y.done; held = y.held }) = cc in
    (same, held.1)

-- the chunks of the front replies of two equal messages, and what is behind them
pub parts-once : (cookie : ℕ) (xs ys : List Part) (r s : List ℕ) → cookie < 2 ^ 64 → AreHeld xs
    → AreHeld ys → IsDoneOnce xs → IsDoneOnce ys
    → parts_text cookie xs ++ r ≡ parts_text cookie ys ++ s → (xs ≡ ys) × (r ≡ s)
unfolding parts_text AreHeld IsDoneOnce
parts-once cookie [] ys r s fits ix iy dx dy e = absurd dx
parts-once cookie (x ∷ xs) [] r s fits ix iy dx dy e = absurd dy
parts-once cookie (x ∷ []) (y ∷ []) r s fits ix iy dx dy e =
    let same =
    part-once cookie x y r s fits ix.0 iy.0
    (ap (λ t. t ++ r) (sym (append-nil (part_text cookie x))) ∙ e
    ∙ ap (λ t. t ++ s) (append-nil (part_text cookie y))) in
    (ap (λ (p : Part). p ∷ []) same.0, same.1)
parts-once cookie (x ∷ []) (y ∷ (b ∷ ys)) r s fits ix iy dx dy e =
    let same =
    part-once cookie x y r (parts_text cookie (b ∷ ys) ++ s) fits ix.0 iy.0
    (ap (λ t. t ++ r) (sym (append-nil (part_text cookie x))) ∙ e
    ∙ append_assoc (part_text cookie y) (parts_text cookie (b ∷ ys)) s) in
    let other : true ≡ false = sym dx ∙ ap (λ (p : Part). p.done) same.0 ∙ dy.0 in
    absurd cc
parts-once cookie (x ∷ (a ∷ xs)) (y ∷ []) r s fits ix iy dx dy e =
    let same =
    part-once cookie x y (parts_text cookie (a ∷ xs) ++ r) s fits ix.0 iy.0
    (sym (append_assoc (part_text cookie x) (parts_text cookie (a ∷ xs)) r) ∙ e
    ∙ ap (λ t. t ++ s) (append-nil (part_text cookie y))) in
    let other : false ≡ true = sym dx.0 ∙ ap (λ (p : Part). p.done) same.0 ∙ dy in
    absurd cc
parts-once cookie (x ∷ (a ∷ xs)) (y ∷ (b ∷ ys)) r s fits ix iy dx dy e =
    let same =
    part-once cookie x y (parts_text cookie (a ∷ xs) ++ r) (parts_text cookie (b ∷ ys) ++ s) fits
    ix.0 iy.0
    (sym (append_assoc (part_text cookie x) (parts_text cookie (a ∷ xs)) r) ∙ e
    ∙ append_assoc (part_text cookie y) (parts_text cookie (b ∷ ys)) s) in
    let behind = parts-once cookie (a ∷ xs) (b ∷ ys) r s fits ix.1 iy.1 dx.1 dy.1 same.1 in
    (ap₂ (λ (p : Part) (ps : List Part). p ∷ ps) same.0 behind.0, behind.1)

-- the text of a chunk, of which a front was put together
pub front-text : (cookie : ℕ) (part : Part) (held : Held) (head front behind : List ℕ)
    → part.held ≡ held → head ≡ chunk_head_text (head_of cookie part) → front ≡ head ++ behind
    → behind ++ bytes_of held ≡ held_text held
    → front ++ bytes_of part.held ≡ part_text cookie part
unfolding part_text
front-text cookie part held head front behind same head_is front_is text =
    ap (λ f. f ++ bytes_of part.held) front_is
    ∙ append_assoc head behind (bytes_of part.held)
    ∙ ap (λ (h : Held). head ++ (behind ++ bytes_of h)) same
    ∙ ap (λ t. head ++ t) text
    ∙ ap (λ (h : Held). head ++ held_text h) (sym same)
    ∙ ap (λ h. h ++ held_text part.held) head_is

-- such a front, put into one array behind whose end are zeros
pub front-joined : (head behind first second zeros rest : List ℕ) → first ≡ head → second ≡ behind
    → length head ≡ 20
    → take (20 + length behind) (take 20 (first ++ zeros) ++ (second ++ rest)) ≡ head ++ behind
front-joined head behind first second zeros rest first_is second_is size =
    let size_first : length first ≡ 20 = ap length first_is ∙ size in
    let size_second : length second ≡ length behind = ap length second_is in
    ap (λ f. take (20 + length behind) (f ++ (second ++ rest))) (take_at first zeros 20 size_first)
    ∙ ap (take (20 + length behind)) (sym (append_assoc first second rest))
    ∙ take_at (first ++ second) rest (20 + length behind)
    (omega (arith, length-append first second, size_first, size_second))
    ∙ ap₂ (λ a b. a ++ b) first_is second_is
