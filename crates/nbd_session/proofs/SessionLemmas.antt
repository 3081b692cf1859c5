-- A whole session of its parts.
use Rattle.std.proofs.Common.{◌≡◌, ℕ, ◌^◌, ◌<◌, Bool, List, [], ◌++◌, length, Some, Ok, Err, ap}
use Rattle.std.proofs.Common.{◌∙◌, refl, sym, subst, arith, append_assoc, append-nil}
use Rattle.nbd_stream.specs.declared.ending.Ending.{Ending}
use Rattle.nbd_hand.specs.declared.export.Export.{Export}
use Rattle.nbd_session.specs.Grammar.{AreRequests}
use Rattle.nbd_stream.specs.Moments.{Moment, Talks}
use Rattle.nbd_hand.specs.declared.negotiation.Agreed.{Agreed}
use Rattle.nbd_hand.specs.Negotiation.{Negotiates}
use Rattle.nbd_session.specs.Serving.{Serves}
use Rattle.nbd_hand.specs.Handshakes as Handshakes
use Rattle.nbd_hand.specs.Handshakes.{Stage, greeted, negotiating, served, Handshake, IsUnserved}
use Rattle.nbd_session.specs.Session.{Log, IsInput, IsSession, messages_of}
use Rattle.nbd_session.specs.Turns.{Turn, replies_to}
use Rattle.nbd_stream.proofs.TalkLemmas.{talks-on, talks-more}
use Rattle.nbd_wire.specs.Fields.{u32_text}

-- a session that ended before its requests
abbrev pub early-log : Handshake → Log
early-log hand = record {
  stage = hand.stage;
  flags = hand.flags;
  options = hand.options;
  last = hand.last;
  turns = [];
  taken = hand.taken;
  whole = hand.whole;
  front = hand.front;
  ended = hand.ended;
}

unserved-input : (stage : Stage) (hand : Handshake) (ending : Ending) →
    IsUnserved stage hand ending → IsInput stage (early-log hand) ending
unserved-input served hand ending is = absurd is
unserved-input greeted hand ending is = (refl, is)
unserved-input negotiating hand ending is = (refl, is)

early-messages : (export : Export) (hand : Handshake) →
    Handshakes.messages_of export hand ≡ messages_of export (early-log hand)
unfolding replies_to
early-messages export hand = sym (append-nil (Handshakes.messages_of export hand))

pub session-early : (export : Export) (a b : Moment) (ending : Ending) (hand : Handshake) →
    a.taken ≡ 0 → a.put ≡ 0 → b.taken < 2 ^ 64 → b.put < 2 ^ 64 →
    Negotiates export a b (Err ending) hand →
    IsSession export (record {
      number = export.number;
      ending = ending;
      taken = b.taken;
      put =
          b.put;
    }) a b (early-log hand)
session-early export a b ending hand none_taken none_put taken_fits put_fits n = record {
  number = refl;
  input = unserved-input hand.stage hand ending n.by_case;
  talks = subst (λ ms. Talks a b (Some ending) hand.taken ms hand.whole hand.front hand.ended)
      (early-messages export hand) n.talks;
  taken = omega (arith, n.talks.traffic.counted_in);
  put = omega (arith, n.talks.traffic.counted_out);
}

-- one that came to its requests
abbrev pub served-log : Handshake → List Turn → List ℕ → List ℕ → List ℕ → Bool → Log
served-log hand turns taken whole front ended = record {
  stage = served;
  flags = hand.flags;
  options = hand.options;
  last = hand.last;
  turns = turns;
  taken = hand.taken ++ taken;
  whole = hand.whole ++ whole;
  front = front;
  ended = ended;
}

pub session-served : (export : Export) (a b c : Moment) (agreed : Agreed) (ending : Ending)
    (hand : Handshake) (turns : List Turn) (taken whole front : List ℕ) (ended : Bool) →
    a.taken ≡ 0 → a.put ≡ 0 → c.taken < 2 ^ 64 → c.put < 2 ^ 64 →
    Negotiates export a b (Ok agreed) hand →
    Serves agreed.structured 0 b c (Some ending) turns taken whole front ended →
    IsSession export (record {
      number = export.number;
      ending = ending;
      taken = c.taken;
      put =
          c.put;
    }) a c (served-log hand turns taken whole front ended)
session-served export a b c agreed ending hand turns taken whole front ended none_taken none_put
    taken_fits put_fits n serves =
    let begun = n.by_case.1 in
    let said = Handshakes.messages_of export hand in
    let talks : Talks a c (Some ending) (hand.taken ++ taken)
    (messages_of export (served-log hand turns taken whole front ended)) (hand.whole ++ whole)
    front ended =
    talks-more a b c (Some ending) hand.taken taken said (replies_to turns) hand.whole whole front
    ended (talks-on a b hand.taken said hand.whole hand.front hand.ended n.talks)
    serves.talks in
    record {
      number = refl;
      input = (
        begun.0,
        taken,
        record {
          fit = begun.1.fit;
          parts = ap (λ x. x ++ taken) begun.1.parts
              ∙ append_assoc (u32_text hand.flags) begun.0 taken;
        },
        begun.2,
        subst (λ (s : Bool). AreRequests s (Some ending) turns (length turns) taken ended)
            (ap (λ (a : Agreed). a.structured) n.by_case.0)
            (subst
            (λ (k : ℕ). AreRequests agreed.structured (Some ending) turns k taken ended)
            (omega arith) serves.requests_are),
      );
      talks = talks;
      taken = omega (arith, talks.traffic.counted_in);
      put = omega (arith, talks.traffic.counted_out);
    }
