-- Parts that are put one behind the other.
use Rattle.std.proofs.Common.{◌≡◌, ℕ, ◌+◌, List, [], ◌++◌, length, take, take_all, ap, ◌∙◌, refl}
use Rattle.std.proofs.Common.{sym, arith, append_assoc, append-nil}
use Rattle.std.specs.Int.{w32, to_be_bytes}
use Rattle.nbd_wire.specs.declared.option_replies.ReplyType.TheVariants.{Server, Ack}
use Rattle.nbd_wire.specs.declared.options.OptionType.TheVariants as Options
use Rattle.nbd_wire.specs.Fields.{u32_text}
use Rattle.nbd_wire.specs.InfoReplies.{reply_head}
use Rattle.nbd_wire.specs.ListReplies.{name_text, list_replies_text}
use Rattle.nbd_wire.specs.OptionReplies.{option_reply_text}

-- a text to which a part was put
front-more : (before after front part : List ℕ) (at end : ℕ) → at + length part ≡ end
    → take at before ≡ front →
    take (at + length part) after ≡ take at before ++ part → take end after ≡ front ++ part
front-more before after front part at end e here put =
    ap (λ n. take n after) (sym e) ∙ put ∙ ap (λ f. f ++ part) here

pub replies-joined : (a b c d e p q r s t : List ℕ) → length p ≡ 20 → length q ≡ 12 → length r ≡ 20
    → length s ≡ 14 → length t ≡ 20 →
    length e ≡ 86 → take (0 + length p) a ≡ p → take (20 + length q) b ≡ take 20 a ++ q
    → take (32 + length r) c ≡ take 32 b ++ r →
    take (52 + length s) d ≡ take 52 c ++ s → take (66 + length t) e ≡ take 66 d ++ t
    → e ≡ p ++ (q ++ (r ++ (s ++ (t ++ []))))
replies-joined a b c d e p q r s t lp lq lr ls lt le ep eq er es et =
    let size : 20 ≡ 0 + length p = omega arith in
    let one : take 20 a ≡ p = ap (λ n. take n a) size ∙ ep in
    let two = front-more a b p q 20 32 (omega arith) one eq in
    let three = front-more b c (p ++ q) r 32 52 (omega arith) two er in
    let four = front-more c d ((p ++ q) ++ r) s 52 66 (omega arith) three es in
    let five = front-more d e (((p ++ q) ++ r) ++ s) t 66 86 (omega arith) four et in
    sym (take_all 86 e (omega arith)) ∙ five ∙ simp (append_assoc, append-nil)

pub four-joined : (a b c d p q r s : List ℕ) (i j k l : ℕ) → length p ≡ i → i + length q ≡ j
    → j + length r ≡ k → k + length s ≡ l → length d ≡ l → take (0 + length p) a ≡ p
    → take (i + length q) b ≡ take i a ++ q → take (j + length r) c ≡ take j b ++ r
    → take (k + length s) d ≡ take k c ++ s → d ≡ ((p ++ q) ++ r) ++ s
four-joined a b c d p q r s i j k l lp lq lr ls ld ep eq er es =
    let size : i ≡ 0 + length p = omega (arith, lp) in
    let one : take i a ≡ p = ap (λ n. take n a) size ∙ ep in
    let two = front-more a b p q i j lq one eq in
    let three = front-more b c (p ++ q) r j k lr two er in
    let four = front-more c d ((p ++ q) ++ r) s k l ls three es in
    sym (take_all l d (omega (arith, ld))) ∙ four

names-joined : (p q r s : List ℕ) →
    ((p ++ q) ++ r) ++ s ≡ p ++ ((q ++ (r ++ [])) ++ (s ++ []))
names-joined p q r s = simp (append_assoc, append-nil)

-- the head, length and name of a reply to LIST, and the acknowledgement
pub list-written : (a b c d p q name s : List ℕ) (m k : ℕ) → length p ≡ 20 → length q ≡ 4
    → length s ≡ 20 → length d ≡ 44 + length name → take (0 + length p) a ≡ p
    → take (20 + length q) b ≡ take 20 a ++ q → take (24 + length name) c ≡ take 24 b ++ name
    → take (24 + length name + length s) d ≡ take (24 + length name) c ++ s
    → p ≡ option_reply_text (reply_head Options.List Server m) → m ≡ 4 + length name
    → q ≡ to_be_bytes w32 k → k ≡ length name
    → s ≡ option_reply_text (reply_head Options.List Ack 0) → d ≡ list_replies_text name
unfolding list_replies_text name_text u32_text
list-written a b c d p q name s m k lp lq ls ld ep eq er es p_is m_is q_is k_is s_is =
    four-joined a b c d p q name s 20 24 (24 + length name) (44 + length name) lp
    (omega (arith, lq)) refl (omega (arith, ls)) ld ep eq er es ∙ names-joined p q name s
    ∙ ap (λ t. t ++ ((q ++ (name ++ [])) ++ (s ++ [])))
    (p_is ∙ ap (λ n. option_reply_text (reply_head Options.List Server n)) m_is)
    ∙ ap (λ t. option_reply_text (reply_head Options.List Server (4 + length name))
    ++ ((t ++ (name ++ [])) ++ (s ++ []))) (q_is ∙ ap (to_be_bytes w32) k_is)
    ∙ ap (λ t. option_reply_text (reply_head Options.List Server (4 + length name))
    ++ ((to_be_bytes w32 (length name) ++ (name ++ [])) ++ (t ++ []))) s_is
