-- Requests that were served, joined.
use Rattle.std.proofs.Common.{◌≡◌, ℕ, ◌+◌, ◌^◌, ◌<◌, Bool, false, List, [], ◌∷◌, ◌++◌, Option, Some}
use Rattle.std.proofs.Common.{None, length, ap, ◌∙◌, refl, sym, subst, arith, append_assoc}
use Rattle.std.proofs.Common.{append-nil, length-append}
use Rattle.plain_disk.specs.declared.operation.Op.{Op}
use Rattle.plain_disk.specs.declared.operation.Reply.TheVariants.{Errno}
use Rattle.io_edge.specs.Outlet.{Outlet}
use Rattle.nbd_stream.specs.declared.ending.Ending.{Ending}
use Rattle.nbd_stream.specs.declared.ending.Ending.TheVariants.{TooMany, PortSpent, WriteFault}
use Rattle.nbd_session.specs.Asking.{asked_of}
use Rattle.nbd_session.specs.declared.forms.Form.{Form}
use Rattle.nbd_session.specs.declared.requests.Next.TheVariants.{Ask, Stop}
use Rattle.nbd_stream.specs.Endings.{IsCount}
use Rattle.nbd_session.specs.Grammar.{StopsRequests, EndsRequests, RequestsEnd}
use Rattle.nbd_stream.specs.Moments.{Moment, Talks}
use Rattle.nbd_session.specs.Replies.{reply_text, Replies}
use Rattle.nbd_session.specs.Requests.{IsRefusal}
use Rattle.nbd_session.specs.Serving.{Serves}
use Rattle.nbd_session.specs.Taking.{NextIs}
use Rattle.nbd_stream.specs.Traffic.{Reach, Takes}
use Rattle.nbd_session.specs.Turns.{Turn, IsAnswered, IsTurn, Spells, exchange_of, exchanges_of}
use Rattle.nbd_session.specs.Turns.{replies_to}
use Rattle.nbd_stream.proofs.MomentLemmas.{with_sink}
use Rattle.nbd_stream.proofs.TalkLemmas.{talks-none, talks-took, talks-stopped, talks-put}
use Rattle.nbd_stream.proofs.TalkLemmas.{talks-unput, talks-more, talks-answered, talks-on}
use Rattle.nbd_stream.proofs.TalkLemmas.{talks-enough}

Spells-append : (structured : Bool) (xs ys : List Turn) (a b : List ℕ) → Spells structured xs a →
    Spells structured ys b → Spells structured (xs ++ ys) (a ++ b)
unfolding Spells
Spells-append structured [] ys a b first second =
    subst (λ (bytes : List ℕ). Spells structured ys bytes) (sym (ap (λ x. x ++ b) first)) second
Spells-append structured (x ∷ xs) ys a b first second = (
  first.0,
  first.1 ++ b,
  ap (λ t. t ++ b) first.2 ∙ append_assoc first.0 first.1 b,
  first.3,
  Spells-append structured xs ys first.1 b first.4 second,
)

spells-none : (structured : Bool) → Spells structured [] []
unfolding Spells
spells-none structured = refl

spells-one : (structured : Bool) (turn : Turn) (bytes : List ℕ) → IsTurn structured bytes turn →
    Spells structured (turn ∷ []) bytes
unfolding Spells
spells-one structured turn bytes is = (bytes, [], sym (append-nil bytes), is, refl)

pub replies_to-none : replies_to [] ≡ []
unfolding replies_to
replies_to-none = refl

pub replies_to-one : (turn : Turn) →
    reply_text turn.form turn.cookie turn.reply ∷ [] ≡ replies_to (turn ∷ [])
unfolding replies_to
replies_to-one turn = refl

pub replies_to-append : (xs ys : List Turn) → replies_to xs ++ replies_to ys ≡ replies_to (xs ++ ys)
unfolding replies_to
replies_to-append [] ys = refl
replies_to-append (x ∷ xs) ys =
    ap (λ t. reply_text x.form x.cookie x.reply ∷ t) (replies_to-append xs ys)

pub asked_of-length : (turns : List Turn) → length (asked_of turns) ≡ length turns
unfolding asked_of
asked_of-length [] = refl
asked_of-length (turn ∷ turns) = omega (arith, asked_of-length turns)

pub exchanges_of-append : (xs ys : List Turn) →
    exchanges_of (xs ++ ys) ≡ exchanges_of xs ++ exchanges_of ys
unfolding exchanges_of
exchanges_of-append [] ys = refl
exchanges_of-append (x ∷ xs) ys =
    ap (λ t. exchange_of x.asked x.submitted x.reply x.tried ++ t) (exchanges_of-append xs ys)
    ∙ sym (append_assoc (exchange_of x.asked x.submitted x.reply x.tried) (exchanges_of xs)
    (exchanges_of ys))

pub exchanges_of-none : exchanges_of [] ≡ []
unfolding exchanges_of
exchanges_of-none = refl

pub exchanges_of-one : (turn : Turn) →
    exchanges_of (turn ∷ []) ≡ exchange_of turn.asked turn.submitted turn.reply turn.tried
unfolding exchanges_of
exchanges_of-one turn = append-nil (exchange_of turn.asked turn.submitted turn.reply turn.tried)

-- what the source brings is an end of the requests
stops-end : (structured : Bool) (ending : Ending) (ended : Bool) (bytes : List ℕ) →
    StopsRequests ending ended bytes → EndsRequests structured ending ended bytes
stops-end structured (TooMany m) ended bytes stops = absurd stops
stops-end structured WriteFault ended bytes stops = absurd stops
stops-end structured PortSpent ended bytes stops = absurd stops
stops-end structured _ ended bytes stops = stops

pub stops-count : (ending : Ending) (ended : Bool) (bytes : List ℕ) (n : ℕ) →
    StopsRequests ending ended bytes → n < 2 ^ 32 → IsCount (2 ^ 32) ending n
stops-count (TooMany m) ended bytes n stops fewer = absurd stops
stops-count WriteFault ended bytes n stops fewer = absurd stops
stops-count _ ended bytes n stops fewer = fewer

-- the session ended where a request was to come
pub serves-stop : (structured : Bool) (a b : Reach) (s : Outlet) (p : ℕ) (ending : Ending)
    (bytes : List ℕ) (ended : Bool) (n : ℕ) →
    NextIs structured a b (Stop ending) bytes ended → n < 2 ^ 32 →
    Serves structured n (with_sink a s p) (with_sink b s p) (Some ending) [] bytes [] [] ended
serves-stop structured a b s p ending bytes ended n next fewer = record {
  talks = subst (λ ms. Talks (with_sink a s p) (with_sink b s p) (Some ending) bytes ms [] [] ended)
      (sym replies_to-none)
      (talks-stopped a b s p ending bytes ended next.takes next.at_end next.by_case.0);
  requests_are = record {
    text = [];
    bytes = bytes;
    parts = refl;
    spells = spells-none structured;
    ends = (
      stops-end structured ending ended bytes next.by_case.1,
      stops-count ending ended bytes (n + 0) next.by_case.1 (omega arith),
    );
  };
}

-- the port was spent
pub serves-spent : (structured : Bool) (a b : Reach) (s : Outlet) (p : ℕ) (cookie : ℕ) (form : Form)
    (op : Op) (bytes : List ℕ) (ended : Bool) (n : ℕ) →
    NextIs structured a b (Ask cookie form op) bytes ended → n < 2 ^ 32 →
    Serves structured n (with_sink a s p) (with_sink b s p) (Some PortSpent) [] bytes [] [] false
serves-spent structured a b s p cookie form op bytes ended n next fewer = record {
  talks = subst (λ ms. Talks (with_sink a s p) (with_sink b s p) (Some PortSpent) bytes ms [] []
      false) (sym replies_to-none)
      (talks-enough _ _ PortSpent bytes [] [] [] refl
      (talks-took a b s p bytes next.takes next.by_case.1));
  requests_are = record {
    text = [];
    bytes = bytes;
    parts = refl;
    spells = spells-none structured;
    ends = ((cookie, op, form, next.by_case.0), omega arith);
  };
}

-- a request was taken, and its reply put or not
pub serves-turn : (structured : Bool) (a b : Reach) (s s' : Outlet) (p p' : ℕ) (turn : Turn)
    (bytes : List ℕ) (result : Option Ending) →
    Takes a b bytes → b.source.faults ≡ a.source.faults → IsTurn structured bytes turn →
    ((whole : List ℕ) × (front : List ℕ)
    × Replies s s' p p' (reply_text turn.form turn.cookie turn.reply) result whole front) →
    (whole : List ℕ) × (front : List ℕ)
    × ((n : ℕ) → n < 2 ^ 32 →
    Serves structured n (with_sink a s p) (with_sink b s' p') result (turn ∷ []) bytes whole front
    false)
serves-turn structured a b s s' p p' turn bytes None takes held is replies =
    let text = reply_text turn.form turn.cookie turn.reply in (
      text,
      [],
      λ n fewer. record {
        talks = subst (λ ms. Talks (with_sink a s p) (with_sink b s' p') None bytes ms text []
            false) (replies_to-one turn)
            (talks-answered _ _ _ None bytes _ _ [] false (talks-took a b s p bytes takes held)
            (talks-put b s s' p p' text replies));
        requests_are = record {
          text = bytes;
          bytes = [];
          parts = sym (append-nil bytes);
          spells = spells-one structured turn bytes is;
          ends = refl;
        };
      },
    )
serves-turn structured a b s s' p p' turn bytes (Some ending) takes held is replies =
    let text = reply_text turn.form turn.cookie turn.reply in
    let fault = replies.2 in (
      replies.0,
      replies.1,
      λ n fewer. subst (λ e.
          Serves structured n (with_sink a s p) (with_sink b s' p') (Some e) (turn ∷ []) bytes
          replies.0 replies.1 false) (sym fault.0) (record {
            talks = subst
                (λ ms. Talks (with_sink a s p) (with_sink b s' p') (Some WriteFault) bytes ms
                replies.0 replies.1 false) (replies_to-one turn)
                (talks-answered _ _ _ (Some WriteFault) bytes _ _ replies.1 false
                (talks-took a b s p bytes takes held)
                (talks-unput b s s' p p' text fault.1.0 (replies.0, replies.1, fault.1.1)));
            requests_are = record {
              text = bytes;
              bytes = [];
              parts = sym (append-nil bytes);
              spells = spells-one structured turn bytes is;
              ends = (refl, (omega arith, omega arith));
            };
          }),
    )

-- a request that the session itself refuses
pub refused-answered : (asked : Option Op) (number : ℕ) → IsRefusal asked number →
    IsAnswered asked false (Errno number) 0
refused-answered None number is = (refl, ap Errno is, refl)
refused-answered (Some op) number is = (ap Errno is, refl)

pub refused-exchanges : (asked : Option Op) (number : ℕ) →
    exchange_of asked false (Errno number) 0 ≡ []
refused-exchanges None number = refl
refused-exchanges (Some op) number = refl

-- nothing was served yet
pub serves-none : (structured : Bool) (m : Moment) →
    Serves structured 0 m m None [] [] [] [] false
unfolding replies_to
serves-none structured m = record {
  talks = talks-none m;
  requests_are = record {
    text = [];
    bytes = [];
    parts = refl;
    spells = spells-none structured;
    ends = refl;
  };
}

-- requests were served, and then others
pub serves-more : (structured : Bool) (a b c : Moment) (result : Option Ending) (k : ℕ)
    (xs ys : List Turn) (ts us vs ws front : List ℕ) (ended : Bool) →
    Serves structured 0 a b None xs ts vs [] false → k ≡ length xs →
    Serves structured k b c result ys us ws front ended →
    Serves structured 0 a c result (xs ++ ys) (ts ++ us) (vs ++ ws) front ended
serves-more structured a b c result k xs ys ts us vs ws front ended first is second =
    let r = first.requests_are in
    let s = second.requests_are in
    let text : ts ≡ r.text = r.parts ∙ ap (λ x. r.text ++ x) r.ends ∙ append-nil r.text in
    let count : k + length ys ≡ 0 + length (xs ++ ys) = omega (arith, length-append xs ys, is) in
    record {
      talks = subst (λ ms. Talks a c result (ts ++ us) ms (vs ++ ws) front ended)
          (replies_to-append xs ys)
          (talks-more a b c result ts us _ _ vs ws front ended first.talks second.talks);
      requests_are = record {
        text = ts ++ s.text;
        bytes = s.bytes;
        parts = ap (λ x. ts ++ x) s.parts ∙ sym (append_assoc ts s.text s.bytes);
        spells = Spells-append structured xs ys ts s.text
            (subst (λ (x : List ℕ). Spells structured xs x) (sym text) r.spells) s.spells;
        ends = subst (λ (n : ℕ). RequestsEnd structured result n ended s.bytes) count s.ends;
      };
    }

-- and the session goes on
pub serves-on : (structured : Bool) (a b : Moment) (n : ℕ) (xs : List Turn)
    (ts vs front : List ℕ) (ended : Bool) →
    Serves structured n a b None xs ts vs front ended →
    Serves structured n a b None xs ts vs [] false
serves-on structured a b n xs ts vs front ended serves =
    let r = serves.requests_are in
    record {
      talks = talks-on a b ts (replies_to xs) vs front ended serves.talks;
      requests_are = record {
        text = r.text;
        bytes = r.bytes;
        parts = r.parts;
        spells = r.spells;
        ends = r.ends;
      };
    }

-- the most requests were served
pub serves-too_many : (structured : Bool) (a b : Moment) (xs : List Turn) (ts vs : List ℕ) →
    Serves structured 0 a b None xs ts vs [] false → length xs ≡ 2 ^ 32 →
    Serves structured 0 a b (Some (TooMany (2 ^ 32))) xs ts vs [] false
serves-too_many structured a b xs ts vs serves count =
    let r = serves.requests_are in
    record {
      talks = talks-enough a b (TooMany (2 ^ 32)) ts (replies_to xs) vs [] refl serves.talks;
      requests_are = record {
        text = r.text;
        bytes = r.bytes;
        parts = r.parts;
        spells = r.spells;
        ends = (r.ends, (omega arith, omega arith));
      };
    }
