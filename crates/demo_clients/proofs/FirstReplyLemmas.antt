-- The replies that stand first in a text.
use Rattle.std.proofs.Common.{◌≡◌, ℕ, zero, suc, ◌+◌, ◌^◌, ◌<◌, ◌≤◌, List, [], ◌++◌}
use Rattle.std.proofs.Common.{length, take, drop, refl, sym, ◌∙◌, ap, ap₂, subst, append_assoc, append-nil}
use Rattle.std.proofs.Common.{length-append, take-append-drop, lit<}
use Rattle.std.proofs.lemmas.List.{drop_at, length-take-le, take_at}
use Rattle.nbd_wire.specs.declared.replies.SimpleReplyHead.{SimpleReplyHead}
use Rattle.nbd_wire.specs.Fields.{u32_text, u64_text}
use Rattle.nbd_wire.specs.Magic.{simple_reply_magic}
use Rattle.nbd_wire.specs.Replies.{simple_reply_text}
use Rattle.nbd_wire.proofs.FieldLemmas.{u32-first, u32-front}
use Rattle.demo_clients.specs.Replies.{AreFirstReplies, IsFirstReply, granting_head}

pub head-size : (head : SimpleReplyHead) → length (simple_reply_text head) ≡ 16
unfolding simple_reply_text u32_text u64_text
head-size head = refl

-- texts with the heads of replies at their fronts have one error number, if they are the same
pub error-once : (a b : SimpleReplyHead) (xs ys : List ℕ) → a.error < 2 ^ 32 → b.error < 2 ^ 32
    → simple_reply_text a ++ xs ≡ simple_reply_text b ++ ys → a.error ≡ b.error
unfolding simple_reply_text
error-once a b xs ys fits_a fits_b same =
    let magic : ℕ = simple_reply_magic in
    let first = u32-first simple_reply_magic simple_reply_magic
    (u32_text a.error ++ (u64_text a.cookie ++ []) ++ xs)
    (u32_text b.error ++ (u64_text b.cookie ++ []) ++ ys) (lit< tt) (lit< tt)
    (behind a xs ∙ same ∙ sym (behind b ys)) in
    (u32-first a.error b.error _ _ fits_a fits_b (inner a xs ∙ first.1 ∙ sym (inner b ys))).0
  where
    behind : (c : SimpleReplyHead) (zs : List ℕ) →
        u32_text simple_reply_magic ++ (u32_text c.error ++ (u64_text c.cookie ++ []) ++ zs)
        ≡ simple_reply_text c ++ zs
    behind c zs = sym (append_assoc (u32_text simple_reply_magic)
        (u32_text c.error ++ (u64_text c.cookie ++ [])) zs)

    inner : (c : SimpleReplyHead) (zs : List ℕ) →
        u32_text c.error ++ ((u64_text c.cookie ++ []) ++ zs)
        ≡ u32_text c.error ++ (u64_text c.cookie ++ []) ++ zs
    inner c zs = sym (append_assoc (u32_text c.error) (u64_text c.cookie ++ []) zs)

-- and the same behind them
pub behind-once : (a b : SimpleReplyHead) (xs ys : List ℕ)
    → simple_reply_text a ++ xs ≡ simple_reply_text b ++ ys → xs ≡ ys
behind-once a b xs ys same =
    sym (drop_at (simple_reply_text a) xs 16 (head-size a))
    ∙ ap (λ text. drop 16 text) same
    ∙ drop_at (simple_reply_text b) ys 16 (head-size b)

-- a number in place of the magic is the magic
pub magic-only : (head : SimpleReplyHead) (xs : List ℕ) (number : ℕ) → number < 2 ^ 32
    → u32_text number ≡ take 4 (take 16 (simple_reply_text head ++ xs))
    → number ≡ simple_reply_magic
unfolding simple_reply_text
magic-only head xs number fits here =
    u32-front simple_reply_magic number (u32_text head.error ++ (u64_text head.cookie ++ []))
    (simple_reply_text head) (lit< tt) fits refl
    (here ∙ ap (λ text. take 4 text) (take_at (simple_reply_text head) xs 16 (head-size head)))

-- ---- the first reply
pub first-front : (size : ℕ) (text own behind : List ℕ) (is : IsFirstReply size text own behind)
    → take 16 text ≡ granting_head is.cookie
first-front size text own behind is =
    ap (λ t. take 16 t) is.parts
    ∙ take_at (granting_head is.cookie) (own ++ behind) 16
    (head-size (record { error = 0; cookie = is.cookie }))

pub first-rest : (size : ℕ) (text own behind : List ℕ) → IsFirstReply size text own behind
    → drop 16 text ≡ own ++ behind
first-rest size text own behind is =
    ap (λ t. drop 16 t) is.parts
    ∙ drop_at (granting_head is.cookie) (own ++ behind) 16
    (head-size (record { error = 0; cookie = is.cookie }))

pub first-own : (size : ℕ) (text own behind : List ℕ) → IsFirstReply size text own behind
    → own ≡ take size (drop 16 text)
first-own size text own behind is =
    sym (ap (λ t. take size t) (first-rest size text own behind is)
    ∙ take_at own behind size is.long)

pub first-behind : (size : ℕ) (text own behind : List ℕ) → IsFirstReply size text own behind
    → behind ≡ drop size (drop 16 text)
first-behind size text own behind is =
    sym (ap (λ t. drop size t) (first-rest size text own behind is)
    ∙ drop_at own behind size is.long)

-- it is long enough for its head and its data
pub first-long : (size : ℕ) (text own behind : List ℕ) → IsFirstReply size text own behind
    → length text ≡ 16 + (size + length behind)
first-long size text own behind is =
    ap (λ t. length t) is.parts
    ∙ length-append (granting_head is.cookie) (own ++ behind)
    ∙ ap₂ (λ a b. a + b) (head-size (record { error = 0; cookie = is.cookie }))
    (length-append own behind ∙ ap (λ n. n + length behind) is.long)

-- its head is that of a reply without error
pub first-granted : (size : ℕ) (text own behind : List ℕ) (head : SimpleReplyHead)
    → IsFirstReply size text own behind → simple_reply_text head ≡ take 16 text
    → head.error < 2 ^ 32 → head.error ≡ 0
first-granted size text own behind head is reads fits =
    error-once head (record { error = 0; cookie = is.cookie }) [] [] fits (lit< tt)
    (ap (λ t. t ++ []) (reads ∙ first-front size text own behind is))

pub first-magic : (size : ℕ) (text own behind : List ℕ) (number : ℕ)
    → IsFirstReply size text own behind → u32_text number ≡ take 4 (take 16 text)
    → number < 2 ^ 32 → number ≡ simple_reply_magic
first-magic size text own behind number is here fits =
    magic-only (record { error = 0; cookie = is.cookie }) (own ++ behind) number fits
    (here ∙ ap (λ t. take 4 (take 16 t)) is.parts)

-- a text that begins with such a head, and has enough bytes behind it
pub first-reply : (size : ℕ) (text : List ℕ) (head : SimpleReplyHead)
    → simple_reply_text head ≡ take 16 text → head.error ≡ 0 → size ≤ length (drop 16 text)
    → IsFirstReply size text (take size (drop 16 text)) (drop size (drop 16 text))
first-reply size text head reads is enough = record {
  cookie = head.cookie;
  long = length-take-le size (drop 16 text) enough;
  parts =
      sym (take-append-drop 16 text)
      ∙ ap₂ (λ a b. a ++ b)
      (sym reads ∙ ap (λ e. simple_reply_text (record { error = e; cookie = head.cookie })) is)
      (sym (take-append-drop size (drop 16 text)));
}

-- ---- replies one behind the other
-- there is one content of so many replies, and one text behind them
pub replies-once : (count size : ℕ) (text content behind content' behind' : List ℕ)
    → AreFirstReplies count size text content behind
    → AreFirstReplies count size text content' behind'
    → (content ≡ content') × (behind ≡ behind')
unfolding AreFirstReplies
replies-once zero size text content behind content' behind' are are' =
    (are.0 ∙ sym are'.0, sym are.1 ∙ are'.1)
replies-once (suc count) size text content behind content' behind' are are' =
    let rest_is : are.1 ≡ are'.1 =
    first-behind size text are.0 are.1 are.3 ∙ sym (first-behind size text are'.0 are'.1 are'.3) in
    let own_is : are.0 ≡ are'.0 =
    first-own size text are.0 are.1 are.3 ∙ sym (first-own size text are'.0 are'.1 are'.3) in
    let later = replies-once count size are'.1 are.2 behind are'.2 behind'
    (subst (λ rest. AreFirstReplies count size rest are.2 behind) rest_is are.5) are'.5 in (
      are.4 ∙ ap₂ (λ a b. a ++ b) own_is later.0 ∙ sym are'.4,
      later.1,
    )

-- The text has so many replies, of which so many are left in the rest; the content so far is that of
-- the others.
pub record IsTaken (total left size : ℕ) (text content rest : List ℕ) : Type 0 where
  pub built : (later behind : List ℕ) → AreFirstReplies left size rest later behind
      → AreFirstReplies total size text (content ++ later) behind
  pub found : (whole behind : List ℕ) → AreFirstReplies total size text whole behind
      → (later : List ℕ) × AreFirstReplies left size rest later behind

pub taken-none : (total size : ℕ) (text : List ℕ) → IsTaken total total size text [] text
taken-none total size text = record {
  built = λ later behind are. are;
  found = λ whole behind are. (whole, are);
}

pub taken-more : (total left size : ℕ) (text content rest own rest' : List ℕ)
    → IsTaken total (suc left) size text content rest → IsFirstReply size rest own rest'
    → IsTaken total left size text (content ++ own) rest'
unfolding AreFirstReplies
taken-more total left size text content rest own rest' taken first = record {
  built = λ later behind are.
      subst (λ all. AreFirstReplies total size text all behind)
      (sym (append_assoc content own later))
      (taken.built (own ++ later) behind (own, rest', later, first, refl, are));
  found = λ whole behind are.
      let (later, all) = taken.found whole behind are in (
        all.2,
        subst (λ r. AreFirstReplies left size r all.2 behind)
            (first-behind size rest all.0 all.1 all.3 ∙ sym (first-behind size rest own rest' first))
            all.5,
      );
}

-- where no reply stands first there aren't so many
pub taken-not : (total left size : ℕ) (text content rest : List ℕ)
    → IsTaken total (suc left) size text content rest
    → ((own behind : List ℕ) → IsFirstReply size rest own behind → ⊥)
    → (whole behind : List ℕ) → AreFirstReplies total size text whole behind → ⊥
unfolding AreFirstReplies
taken-not total left size text content rest taken never whole behind are =
    let (later, all) = taken.found whole behind are in never all.0 all.1 all.3

pub taken-all : (total size : ℕ) (text content rest : List ℕ)
    → IsTaken total 0 size text content rest → AreFirstReplies total size text content rest
unfolding AreFirstReplies
taken-all total size text content rest taken =
    subst (λ all. AreFirstReplies total size text all rest) (append-nil content)
    (taken.built [] rest (refl, refl))
