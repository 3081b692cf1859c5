-- Why what a session was put tells what its operations were answered.
use Rattle.std.proofs.Common.{◌≡◌, ℕ, ◌+◌, ◌^◌, ◌<◌, Bool, true, false, List, [], ◌∷◌, ◌++◌, length}
use Rattle.std.proofs.Common.{take, drop, Option, Some, refl, sym, ◌∙◌, ap, ap₂, subst}
use Rattle.std.proofs.Common.{append_assoc, lit<, length-append}
use Rattle.std.proofs.lemmas.List.{drop_at, take_at}
use Rattle.base_terms.specs.Blocks.{joined}
use Rattle.base_terms.specs.ErrorNumbers.{no_memory}
use Rattle.nbd_hand.specs.declared.export.Export.{Export}
use Rattle.nbd_hand.specs.declared.negotiation.Agreed.{Agreed}
use Rattle.nbd_hand.specs.Grammar.{answers_to, last_answer}
use Rattle.nbd_hand.specs.Handshakes.{Stage, agreed_at_first, agreed_in, greeted, greeting}
use Rattle.nbd_hand.specs.Handshakes.{negotiating, served}
use Rattle.nbd_hand.specs.Options.{informed_text}
use Rattle.nbd_session.specs.declared.ending.SessionEnd.{SessionEnd}
use Rattle.nbd_session.specs.declared.forms.Form.TheVariants.{Simple}
use Rattle.nbd_session.specs.Reading.{Asked, asked_of}
use Rattle.nbd_session.specs.Replies.{data_of, errno_of, reply_text, simple_text}
use Rattle.nbd_session.specs.Session.{IsInput, IsSession, Log, handshake_of, messages_of}
use Rattle.nbd_session.specs.Turns.{IsAnswered, Spells, Turn, exchange_of, exchanges_of, replies_to}
use Rattle.nbd_stream.specs.declared.ending.Ending.{Ending}
use Rattle.nbd_stream.specs.Moments.{Moment}
use Rattle.nbd_wire.specs.declared.options.OptionType.TheVariants.{Go}
use Rattle.nbd_wire.specs.Exports.{block_size_text, export_info_text}
use Rattle.nbd_wire.specs.Fields.{u16_text, u32_text, u64_text}
use Rattle.nbd_wire.specs.Handshake.{greeting_text}
use Rattle.nbd_wire.specs.InfoData.{info_name}
use Rattle.nbd_wire.specs.InfoReplies.{info_replies_text}
use Rattle.nbd_wire.specs.OptionReplies.{option_reply_text}
use Rattle.nbd_wire.specs.Replies.{simple_reply_text}
use Rattle.plain_disk.specs.declared.operation.Op.{Op}
use Rattle.plain_disk.specs.declared.operation.Op.TheVariants.{Read, Write, Zeroes, Flush}
use Rattle.plain_disk.specs.declared.operation.Reply.{Reply}
use Rattle.plain_disk.specs.declared.operation.Reply.TheVariants.{Content, Done, Errno, ErrnoAt}
use Rattle.plain_disk.specs.Outcomes.{IsServed}
use Rattle.plain_disk.specs.Plain.{Exchange}
use Rattle.demo_clients.specs.Asking.{AreGranted, IsScripted, asked_from}
use Rattle.demo_clients.specs.Demonstrations.{content_in}
use Rattle.demo_clients.specs.Histories.{replies_in}
use Rattle.demo_clients.specs.Replies.{AreReplies, IsReadBack, hand_size}
use Rattle.demo_clients.proofs.AskingLemmas.{one-served}
use Rattle.demo_clients.proofs.FirstReplyLemmas.{behind-once, error-once}

-- ---- one reply
-- a reply that serves has no error, and as many bytes of data as a read asks for
served-granted : (op : Op) (reply : Reply) → IsServed op reply → errno_of reply ≡ 0
served-granted (Read offset len) (Content bytes) is = refl
served-granted (Read offset len) Done is = absurd is
served-granted (Read offset len) (Errno e) is = absurd is
served-granted (Read offset len) (ErrnoAt e at) is = absurd is
served-granted (Write offset body fua) reply is = ap (λ r. errno_of r) is
served-granted (Zeroes offset len fua) reply is = ap (λ r. errno_of r) is
served-granted Flush reply is = ap (λ r. errno_of r) is

abbrev data_size : Op → ℕ
data_size (Read offset len) = len
data_size (Write offset body fua) = 0
data_size (Zeroes offset len fua) = 0
data_size Flush = 0

served-size : (op : Op) (reply : Reply) → IsServed op reply → length (data_of reply) ≡ data_size op
served-size (Read offset len) (Content bytes) is = is
served-size (Read offset len) Done is = absurd is
served-size (Read offset len) (Errno e) is = absurd is
served-size (Read offset len) (ErrnoAt e at) is = absurd is
served-size (Write offset body fua) reply is = ap (λ r. length (data_of r)) is
served-size (Zeroes offset len fua) reply is = ap (λ r. length (data_of r)) is
served-size Flush reply is = ap (λ r. length (data_of r)) is

-- the error number of a reply fits its field
errno-fits : (op : Op) (submitted : Bool) (reply : Reply) (tried : ℕ)
    → IsAnswered (Some op) submitted reply tried → errno_of reply < 2 ^ 32
errno-fits op false reply tried is =
    subst (λ r. errno_of r < 2 ^ 32) (sym is.0) (lit< {m = no_memory} tt)
errno-fits op true (Content bytes) tried is = lit< tt
errno-fits op true Done tried is = lit< tt
errno-fits op true (Errno number) tried is = is.1
errno-fits op true (ErrnoAt number place) tried is = is.0.1

module _ (op : Op) (a b : ℕ) (submitted : Bool) (reply given : Reply) (tried : ℕ) (xs ys : List ℕ)
    (answered : IsAnswered (Some op) submitted reply tried) (serves : IsServed op given)
    (same : simple_text a reply ++ xs ≡ simple_text b given ++ ys) where
  texts : simple_reply_text (record { error = errno_of reply; cookie = a }) ++ (data_of reply ++ xs)
      ≡ simple_reply_text (record { error = errno_of given; cookie = b }) ++ (data_of given ++ ys)
  texts =
      sym (append_assoc (simple_reply_text (record { error = errno_of reply; cookie = a }))
      (data_of reply) xs)
      ∙ same
      ∙ append_assoc (simple_reply_text (record { error = errno_of given; cookie = b }))
      (data_of given) ys

  pub reply-granted : errno_of reply ≡ 0
  reply-granted =
      error-once (record { error = errno_of reply; cookie = a })
      (record { error = errno_of given; cookie = b }) (data_of reply ++ xs) (data_of given ++ ys)
      (errno-fits op submitted reply tried answered)
      (subst (λ (n : ℕ). n < 2 ^ 32) (sym (served-granted op given serves)) (lit< tt)) texts
      ∙ served-granted op given serves

  size : length (data_of reply) ≡ length (data_of given)
  size =
      served-size op reply (one-served op submitted reply tried answered reply-granted).1
      ∙ sym (served-size op given serves)

  behind : data_of reply ++ xs ≡ data_of given ++ ys
  behind = behind-once (record { error = errno_of reply; cookie = a })
      (record { error = errno_of given; cookie = b }) (data_of reply ++ xs) (data_of given ++ ys)
      texts

  pub reply-data : data_of reply ≡ data_of given
  reply-data =
      sym (take_at (data_of reply) xs (length (data_of given)) size)
      ∙ ap (λ t. take (length (data_of given)) t) behind
      ∙ take_at (data_of given) ys (length (data_of given)) refl

  pub reply-rest : xs ≡ ys
  reply-rest =
      sym (drop_at (data_of reply) xs (length (data_of given)) size)
      ∙ ap (λ t. drop (length (data_of given)) t) behind
      ∙ drop_at (data_of given) ys (length (data_of given)) refl

-- ---- the replies of a session
asked-parts : (a b : Asked) (xs ys : List Asked) → a ∷ xs ≡ b ∷ ys → (a ≡ b) × (xs ≡ ys)
asked-parts a b xs ys same = (cc, cc)

simple-form : (turn : Turn) (rest : List ℕ) → turn.form ≡ Simple
    → reply_text turn.form turn.cookie turn.reply ++ rest
    ≡ simple_text turn.cookie turn.reply ++ rest
unfolding reply_text
simple-form turn rest is = ap (λ f. reply_text f turn.cookie turn.reply ++ rest) is

told : (structured : Bool) (cookie : ℕ) (ops : List Op) (turns : List Turn)
    (spelt text content : List ℕ) → Spells structured turns spelt
    → asked_of turns ≡ asked_from cookie ops → joined (replies_to turns) ≡ text
    → AreReplies ops text content
    → AreGranted turns × (content ≡ content_in (exchanges_of turns))
unfolding Spells asked_of asked_from AreGranted exchanges_of replies_to joined AreReplies replies_in
told structured cookie [] [] spelt text content spells asked same are = (tt, are.1)
told structured cookie [] (turn ∷ turns) spelt text content spells asked same are = absurd (cc)
told structured cookie (op ∷ ops) [] spelt text content spells asked same are = absurd (cc)
told structured cookie (op ∷ ops) (turn ∷ turns) spelt text content spells asked same are =
    let both = asked-parts (record { cookie = turn.cookie; asked = turn.asked; form = turn.form })
    (record { cookie = cookie; asked = Some op; form = Simple }) (asked_of turns)
    (asked_from (cookie + 1) ops) asked in
    let first : turn.asked ≡ Some op = ap (λ (a : Asked). a.asked) both.0 in
    let form : turn.form ≡ Simple = ap (λ (a : Asked). a.form) both.0 in
    let rest = both.1 in
    let answered = subst
    (λ (asked : Option Op). IsAnswered asked turn.submitted turn.reply turn.tried) first
    spells.3.answered in
    let text_is = sym (simple-form turn (joined (replies_to turns)) form) ∙ same ∙ are.5 in
    let granted = reply-granted op turn.cookie are.0 turn.submitted turn.reply are.1 turn.tried
    (joined (replies_to turns)) are.2 answered are.4 text_is in
    let data_is = reply-data op turn.cookie are.0 turn.submitted turn.reply are.1 turn.tried
    (joined (replies_to turns)) are.2 answered are.4 text_is in
    let rest_is = reply-rest op turn.cookie are.0 turn.submitted turn.reply are.1 turn.tried
    (joined (replies_to turns)) are.2 answered are.4 text_is in
    let later = told structured (cookie + 1) ops turns spells.1 are.2 are.3 spells.4 rest rest_is
    are.7 in
    let one = one-served op turn.submitted turn.reply turn.tried answered granted in
    let all : exchange_of turn.asked turn.submitted turn.reply turn.tried ++ exchanges_of turns
    ≡ record { op = op; reply = turn.reply; tried = turn.tried } ∷ exchanges_of turns =
    ap (λ (asked : Option Op). exchange_of asked turn.submitted turn.reply turn.tried
    ++ exchanges_of turns) first
    ∙ ap (λ (es : List Exchange). es ++ exchanges_of turns) one.0 in (
      (granted, later.0),
      are.6
          ∙ ap₂ (λ x xs. x ++ xs) (sym data_is) later.1
          ∙ sym (ap (λ (es : List Exchange). content_in es) all),
    )

-- ---- behind the handshake
greeting-size : length greeting ≡ 18
unfolding greeting greeting_text u16_text u64_text
greeting-size = refl

informed-size : (export : Export) (agreed : Agreed) → length (informed_text export agreed Go) ≡ 86
unfolding info_replies_text option_reply_text export_info_text block_size_text u16_text u32_text
    u64_text
informed-size export agreed = refl

-- the messages of a session that came to its requests by GO
messages-are : (export : Export) (ops : List Op) (end : SessionEnd) (new : Moment) (log : Log)
    → IsScripted export ops end new log
    → joined (messages_of export log)
    ≡ greeting ++ (informed_text export (agreed_in (handshake_of log)) Go
    ++ joined (replies_to log.turns))
unfolding joined answers_to info_name
messages-are export ops end new log is =
    let agreed = agreed_in (handshake_of log) in
    let replies = replies_to log.turns in
    let none : answers_to export (agreed_at_first (handshake_of log)) log.options ≡ [] =
    ap (λ options. answers_to export (agreed_at_first (handshake_of log)) options)
    is.asks.options in
    let one : last_answer export agreed log.last ≡ informed_text export agreed Go ∷ [] =
    ap (λ last. last_answer export agreed last) is.asks.last in
    ap₂ (λ front last. greeting ++ joined (front ++ last ++ replies)) none one

abbrev hand_of : Export → Log → List ℕ
hand_of export log = greeting ++ informed_text export (agreed_in (handshake_of log)) Go

hand-size : (export : Export) (log : Log) → length (hand_of export log) ≡ hand_size
hand-size export log =
    length-append greeting (informed_text export (agreed_in (handshake_of log)) Go)
    ∙ ap₂ (λ a b. a + b) greeting-size (informed-size export (agreed_in (handshake_of log)))

same-some : (xs ys : List ℕ) → Some xs ≡ Some ys → xs ≡ ys
same-some xs ys same = cc

had-parts : (export : Export) (ops : List Op) (end : SessionEnd) (new : Moment) (log : Log)
    (had : List ℕ) → IsScripted export ops end new log → new.sink.had ≡ Some had
    → had ≡ hand_of export log ++ joined (replies_to log.turns)
had-parts export ops end new log had is put =
    same-some had (joined (messages_of export log)) (sym put ∙ is.put)
    ∙ messages-are export ops end new log is
    ∙ sym (append_assoc greeting (informed_text export (agreed_in (handshake_of log)) Go)
    (joined (replies_to log.turns)))

replies-front : (export : Export) (ops : List Op) (end : SessionEnd) (new : Moment) (log : Log)
    (had : List ℕ) → IsScripted export ops end new log → new.sink.had ≡ Some had
    → drop hand_size had ≡ joined (replies_to log.turns)
replies-front export ops end new log had is put =
    ap (λ t. drop hand_size t) (had-parts export ops end new log had is put)
    ∙ drop_at (hand_of export log) (joined (replies_to log.turns)) hand_size (hand-size export log)

-- the requests of a session that came to them
spelt-turns : (stage : Stage) (log : Log) (ending : Ending) → stage ≡ served
    → IsInput stage log ending
    → (structured : Bool) × (text : List ℕ) × Spells structured log.turns text
spelt-turns greeted log ending at is = absurd (cc)
spelt-turns negotiating log ending at is = absurd (cc)
spelt-turns served log ending at is = (_, is.4.text, is.4.spells)

-- What a session was put tells what its operations were answered: where its client reads replies
-- without error in it, nothing was answered an error, and the content is that of the session's reads.
pub replies-told : (export : Export) (end : SessionEnd) (old new : Moment) (log : Log)
    (ops : List Op) (had content : List ℕ) → IsSession export end old new log
    → IsScripted export ops end new log → new.sink.had ≡ Some had → IsReadBack ops had content
    → AreGranted log.turns × (content ≡ content_in (exchanges_of log.turns))
replies-told export end old new log ops had content session is put read =
    let spelt = spelt-turns log.stage log end.ending is.asks.stage session.input in
    let text_is : read.text ≡ drop hand_size had =
    sym (ap (λ t. drop hand_size t) read.parts ∙ drop_at read.hand read.text hand_size read.size) in
    told spelt.0 0 ops log.turns spelt.1 read.text content spelt.2 is.asks.asked
    (sym (text_is ∙ replies-front export ops end new log had is put)) read.replies

-- ---- and back
-- replies without error to these operations are replies that serve them
granted : (structured : Bool) (cookie : ℕ) (ops : List Op) (turns : List Turn) (spelt : List ℕ)
    → Spells structured turns spelt → asked_of turns ≡ asked_from cookie ops → AreGranted turns
    → AreReplies ops (joined (replies_to turns)) (content_in (exchanges_of turns))
unfolding Spells asked_of asked_from AreGranted exchanges_of replies_to joined AreReplies replies_in
granted structured cookie [] [] spelt spells asked are = (refl, refl)
granted structured cookie [] (turn ∷ turns) spelt spells asked are = absurd (cc)
granted structured cookie (op ∷ ops) [] spelt spells asked are = absurd (cc)
granted structured cookie (op ∷ ops) (turn ∷ turns) spelt spells asked are =
    let both = asked-parts (record { cookie = turn.cookie; asked = turn.asked; form = turn.form })
    (record { cookie = cookie; asked = Some op; form = Simple }) (asked_of turns)
    (asked_from (cookie + 1) ops) asked in
    let first : turn.asked ≡ Some op = ap (λ (a : Asked). a.asked) both.0 in
    let form : turn.form ≡ Simple = ap (λ (a : Asked). a.form) both.0 in
    let rest = both.1 in
    let answered = subst
    (λ (asked : Option Op). IsAnswered asked turn.submitted turn.reply turn.tried) first
    spells.3.answered in
    let one = one-served op turn.submitted turn.reply turn.tried answered are.0 in
    let all : exchange_of turn.asked turn.submitted turn.reply turn.tried ++ exchanges_of turns
    ≡ record { op = op; reply = turn.reply; tried = turn.tried } ∷ exchanges_of turns =
    ap (λ (asked : Option Op). exchange_of asked turn.submitted turn.reply turn.tried
    ++ exchanges_of turns) first
    ∙ ap (λ (es : List Exchange). es ++ exchanges_of turns) one.0 in (
      turn.cookie,
      turn.reply,
      joined (replies_to turns),
      content_in (exchanges_of turns),
      one.1,
      simple-form turn (joined (replies_to turns)) form,
      ap (λ (es : List Exchange). content_in es) all,
      granted structured (cookie + 1) ops turns spells.1 spells.4 rest are.1,
    )

pub replies-read : (export : Export) (end : SessionEnd) (old new : Moment) (log : Log)
    (ops : List Op) (had : List ℕ) → IsSession export end old new log
    → IsScripted export ops end new log → new.sink.had ≡ Some had → AreGranted log.turns
    → IsReadBack ops had (content_in (exchanges_of log.turns))
replies-read export end old new log ops had session is put are =
    let spelt = spelt-turns log.stage log end.ending is.asks.stage session.input in
    record {
      hand = hand_of export log;
      text = joined (replies_to log.turns);
      size = hand-size export log;
      parts = had-parts export ops end new log had is put;
      replies = granted spelt.0 0 ops log.turns spelt.1 spelt.2 is.asks.asked are;
    }
