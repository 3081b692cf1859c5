-- The parts of a simple reply.
use Rattle.std.proofs.Common.{◌≡◌, ℕ, List, ◌++◌, length, ap, ◌∙◌, sym, append-nil}
use Rattle.std.proofs.lemmas.List.{nil_from_length}
use Rattle.plain_disk.specs.declared.operation.Reply.{Reply}
use Rattle.nbd_session.specs.Replies.{errno_of, data_of, simple_text}
use Rattle.nbd_wire.specs.Replies.{simple_reply_text}

-- a reply's head and data are its text
pub reply-parts : (cookie error : ℕ) (reply : Reply) (head body : List ℕ) → error ≡ errno_of reply →
    head ≡ simple_reply_text (record { error = error; cookie = cookie }) → body ≡ data_of reply →
    head ++ body ≡ simple_text cookie reply
reply-parts cookie error reply head body number written data_is =
    ap (λ h. h ++ body) (written
    ∙ ap (λ e. simple_reply_text (record { error = e; cookie = cookie })) number)
    ∙ ap (λ b. simple_reply_text (record { error = errno_of reply; cookie = cookie }) ++ b) data_is

pub reply-bare : (cookie error : ℕ) (reply : Reply) (head body : List ℕ) → error ≡ errno_of reply →
    head ≡ simple_reply_text (record { error = error; cookie = cookie }) → body ≡ data_of reply →
    length body ≡ 0 → head ≡ simple_text cookie reply
reply-bare cookie error reply head body number written data_is none =
    sym (ap (λ b. head ++ b) (nil_from_length body none) ∙ append-nil head)
    ∙ reply-parts cookie error reply head body number written data_is
