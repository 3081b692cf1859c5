-- Why the chunks of a session spell its replies.
use Rattle.std.proofs.Common.{◌≡◌, ℕ, ◌^◌, ◌<◌, Bool, true, false, List, [], ◌∷◌, ◌++◌, length, Option}
use Rattle.std.proofs.Common.{Some, nat_eq, if◌then◌else◌, ap, ◌∙◌, sym, subst}
use Rattle.std.specs.List.{AllByRecursion}
use Rattle.plain_disk.specs.declared.operation.Op.{Op}
use Rattle.plain_disk.specs.declared.operation.Op.TheVariants as Ops
use Rattle.plain_disk.specs.declared.operation.Reply.TheVariants.{Content}
use Rattle.nbd_stream.specs.declared.ending.Ending.{Ending}
use Rattle.nbd_wire.specs.ReadReplying.Parts.{Part, AreHeld, parts_text}
use Rattle.nbd_wire.specs.ReadReplying.Replies.{Answer, IsAnswer, IsDoneOnce, Spell, chunks_of}
use Rattle.nbd_hand.specs.Handshakes.{Stage, agreed_in, greeted, negotiating, served}
use Rattle.nbd_session.specs.declared.forms.Form.{Form}
use Rattle.nbd_session.specs.declared.forms.Form.TheVariants.{Chunks}
use Rattle.nbd_session.specs.Asking.{Asked, SpellsAsked, asked_of}
use Rattle.nbd_session.specs.Flights.{AreAnswered, FlightLog}
use Rattle.nbd_session.specs.Flights as Flights
use Rattle.nbd_session.specs.Forms.{form_of}
use Rattle.nbd_session.specs.Merges.{From, items_from, items_of}
use Rattle.nbd_session.specs.Replies.{IsAnswerIn, answer_in, reply_text}
use Rattle.nbd_session.specs.Requests.{IsMessage, operation_of}
use Rattle.nbd_session.specs.Session.{Log, IsInput}
use Rattle.nbd_session.specs.Spelling.{IsSpeltTurn, LanesAreSpelt, ReadsAreSpelt}
use Rattle.nbd_session.specs.Turns.{Turn, IsAnswered, IsTurn, Spells}
use Rattle.nbd_session.proofs.FitLemmas.{chunked-by, content-size, turn-fits}

-- what is known of chunks
pub record ChunkLaws : Type 0 where
  pub laid_out : (whole : Bool) (offset : ℕ) (answer : Answer) →
      Spell offset (chunks_of whole offset answer) answer
  pub fit : (whole : Bool) (offset : ℕ) (answer : Answer) → IsAnswer offset answer →
      AreHeld (chunks_of whole offset answer)
  pub once : (offset : ℕ) (parts : List Part) (a b : Answer) → Spell offset parts a →
      Spell offset parts b → a ≡ b
  pub apart : (cookie : ℕ) (xs ys : List Part) (r s : List ℕ) → cookie < 2 ^ 64 → AreHeld xs →
      AreHeld ys → IsDoneOnce xs → IsDoneOnce ys →
      parts_text cookie xs ++ r ≡ parts_text cookie ys ++ s → (xs ≡ ys) × (r ≡ s)

-- a request that is answered by chunks is a READ from their offset on
chunked-reads : (structured : Bool) (bytes : List ℕ) (cookie : ℕ) (asked : Option Op) (form : Form)
    (whole : Bool) (offset : ℕ) (op : Op) (message : IsMessage structured bytes cookie asked form) →
    form ≡ Chunks whole offset → asked ≡ Some op → op ≡ Ops.Read offset message.head.length
unfolding form_of operation_of
chunked-reads structured bytes cookie asked form whole offset op message chunked is =
    let head = message.head in
    chunked-by structured head.command head.flags.bits head.offset head.length message.body op
    whole offset (sym chunked ∙ message.form_is) (sym is ∙ message.asks)

text-by : (turn : Turn) (whole : Bool) (offset : ℕ) → turn.form ≡ Chunks whole offset →
    reply_text turn.form turn.cookie turn.reply
    ≡ parts_text turn.cookie (chunks_of whole offset (answer_in turn.reply))
unfolding reply_text
text-by turn whole offset chunked = ap (λ f. reply_text f turn.cookie turn.reply) chunked

-- the content of one has as many bytes as it asks for
size-by : (turn : Turn) (offset len : ℕ) (bytes : List ℕ)
    → IsAnswered turn.asked turn.submitted turn.reply turn.tried
    → turn.asked ≡ Some (Ops.Read offset len) → turn.reply ≡ Content bytes → length bytes ≡ len
size-by turn offset len bytes is asked reply =
    content-size offset len bytes turn.submitted turn.tried (rw (asked, reply) at is)

turn-spelt : ChunkLaws → (structured : Bool) (bytes : List ℕ) (turn : Turn) →
    IsTurn structured bytes turn → IsSpeltTurn turn
turn-spelt laws structured bytes turn is whole offset chunked =
    let answer = answer_in turn.reply in
    let parts = chunks_of whole offset answer in
    let text = text-by turn whole offset chunked in
    let spell = laws.laid_out whole offset answer in
    let held = laws.fit whole offset answer
    (subst (λ f. IsAnswerIn f turn.reply) chunked (turn-fits structured bytes turn is)) in
    record {
      asks = λ op asked. (
        is.message.head.length,
        chunked-reads structured bytes turn.cookie turn.asked turn.form whole offset op
            is.message chunked asked,
      );
      size = λ len content asked reply. size-by turn offset len content is.answered asked reply;
      text = text;
      held = held;
      spell = spell;
      read_back = λ taken other behind rest are_held spells same.
          let apart = laws.apart turn.cookie parts taken behind rest
          (subst (λ (k : ℕ). k < 2 ^ 64) (sym is.message.cookie_is) is.message.is_head.cookie)
          held are_held spell.done spells.done
          (ap (λ t. t ++ behind) (sym text) ∙ same) in (
            laws.once offset taken other answer spells
                (subst (λ ps. Spell offset ps answer) apart.0 spell),
            apart.1,
          );
    }

turns-spelt : ChunkLaws → (structured : Bool) (turns : List Turn) (bytes : List ℕ) →
    Spells structured turns bytes → AllByRecursion IsSpeltTurn turns
unfolding Spells
turns-spelt laws structured [] bytes spells = tt
turns-spelt laws structured (turn ∷ turns) bytes spells = (
  turn-spelt laws structured spells.0 turn spells.3,
  turns-spelt laws structured turns spells.1 spells.4,
)

none-spelt : (turns : List Turn) → turns ≡ [] → AllByRecursion IsSpeltTurn turns
none-spelt turns none = rw none tt

-- ---- with several requests in flight
-- each of these requests is a message
unfoldable AreMessages : Bool → List Asked → Type 0
AreMessages structured [] = Unit {0}
AreMessages structured (one ∷ asked) =
    ((bytes : List ℕ) × IsMessage structured bytes one.cookie one.asked one.form)
    × AreMessages structured asked

spelt-messages : (structured : Bool) (asked : List Asked) (text : List ℕ)
    → SpellsAsked structured asked text → AreMessages structured asked
unfolding SpellsAsked AreMessages
spelt-messages structured [] text spells = tt
spelt-messages structured (one ∷ asked) text spells =
    ((spells.0, spells.3), spelt-messages structured asked spells.1 spells.4)

-- so is each of one lane
messages-from : (structured : Bool) (k : ℕ) (parts : List (From Asked))
    → AreMessages structured (items_of parts) → AreMessages structured (items_from k parts)
unfolding AreMessages items_of items_from
messages-from structured k [] are = tt
messages-from structured k (one ∷ parts) (is, are) =
    both (nat_eq one.list k) (messages-from structured k parts are)
  where
    both : (its : Bool) → AreMessages structured (items_from k parts)
        → AreMessages structured
        (if its then one.item ∷ items_from k parts else items_from k parts)
    both true rest = (is, rest)
    both false rest = rest

answered-spelt : ChunkLaws → (structured : Bool) (turns : List Turn) (left : List Asked)
    → AreAnswered turns → AreMessages structured (asked_of turns ++ left)
    → AllByRecursion IsSpeltTurn turns
unfolding AreAnswered AreMessages asked_of
answered-spelt laws structured [] left answered are = tt
answered-spelt laws structured (turn ∷ turns) left (answered, rest) (is, are) = (
  turn-spelt laws structured is.0 turn (record { message = is.1; answered = answered }),
  answered-spelt laws structured turns left rest are,
)

lane-spelt : ChunkLaws → (depth : ℕ) (stage : Stage) (flight : FlightLog) (ending : Ending)
    → Flights.IsInput depth stage flight ending → (k : ℕ) → k < depth
    → AllByRecursion IsSpeltTurn (flight.lanes k)
lane-spelt laws depth greeted flight ending is k below = none-spelt (flight.lanes k) (is.2 k).0
lane-spelt laws depth negotiating flight ending is k below = none-spelt (flight.lanes k) (is.2 k).0
lane-spelt laws depth served flight ending is k below =
    let structured = (agreed_in (Flights.handshake_of flight)).structured in
    let merge = is.6.taken in
    answered-spelt laws structured (flight.lanes k) (flight.left k) (is.6.answered k below)
    (subst (λ (them : List Asked). AreMessages structured them) (merge.each k below)
    (messages-from structured k merge.parts
    (subst (λ (them : List Asked). AreMessages structured them) (sym merge.is)
    (spelt-messages structured flight.asked is.4.text is.4.spells))))

pub lanes-spelt : ChunkLaws → LanesAreSpelt
lanes-spelt laws depth flight ending is k below =
    lane-spelt laws depth flight.stage flight ending is k below

-- ---- with one
spelt-at : ChunkLaws → (stage : Stage) (log : Log) (ending : Ending) → IsInput stage log ending →
    AllByRecursion IsSpeltTurn log.turns
spelt-at laws greeted log ending is = none-spelt log.turns is.0
spelt-at laws negotiating log ending is = none-spelt log.turns is.0
spelt-at laws served log ending is = turns-spelt laws _ log.turns is.4.text is.4.spells

pub reads-spelt : ChunkLaws → ReadsAreSpelt
reads-spelt laws log ending is = spelt-at laws log.stage log ending is
