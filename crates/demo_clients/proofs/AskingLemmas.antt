-- What sessions are asked whose input is what a client sends.
use Rattle.std.proofs.Common.{◌≡◌, ℕ, ◌+◌, ◌^◌, ◌<◌, ◌≤◌, Bool, true, false, List, [], ◌∷◌}
use Rattle.std.proofs.Common.{◌++◌, Option, Some, length, ap, ◌∙◌, refl, sym, subst, arith, lit<}
use Rattle.std.proofs.Common.{append-nil, ap₂, lit≤, if◌then◌else◌, suc, None, drop}
use Rattle.std.proofs.lemmas.Bool.{le-ltb}
use Rattle.base_terms.specs.Blocks.{joined}
use Rattle.base_terms.specs.ErrorNumbers.{no_memory}
use Rattle.plain_disk.specs.declared.operation.Op.{Op}
use Rattle.plain_disk.specs.declared.operation.Op.TheVariants.{Read, Write, Zeroes, Flush}
use Rattle.plain_disk.specs.declared.operation.Reply.{Reply}
use Rattle.plain_disk.specs.declared.operation.Reply.TheVariants.{Content, Done, Errno, ErrnoAt}
use Rattle.plain_disk.specs.Outcomes.{IsServed}
use Rattle.plain_disk.specs.Plain.{Exchange}
use Rattle.nbd_wire.specs.declared.options.OptionType.TheVariants.{Go}
use Rattle.nbd_wire.specs.declared.requests.CommandType.TheVariants.{Disc}
use Rattle.nbd_wire.specs.InfoData.{info_name}
use Rattle.nbd_stream.specs.declared.ending.Ending.{Ending}
use Rattle.nbd_stream.specs.declared.ending.Ending.TheVariants.{Disconnected, TooLong}
use Rattle.nbd_stream.specs.Moments.{GoesOut}
use Rattle.nbd_hand.specs.Grammar.{SpellsOptions, agreed_after}
use Rattle.nbd_hand.specs.Handshakes.{Stage, greeted, negotiating, served}
use Rattle.nbd_session.specs.declared.forms.Form.TheVariants.{Simple}
use Rattle.nbd_session.specs.Forms.{form_of}
use Rattle.nbd_session.specs.Reading.{Asked, Reads, ReadsOnce, asked_of}
use Rattle.nbd_session.specs.Replies.{errno_of}
use Rattle.nbd_session.specs.Requests.{IsMessage, data_length, ending_of, operation_of}
use Rattle.nbd_session.specs.Session.{IsInput, Log, messages_of}
use Rattle.nbd_session.specs.Turns.{IsAnswered, Spells, Turn, exchange_of, exchanges_of}
use Rattle.demo_clients.specs.Asking.{AllCanBeAsked, AreGranted, CanBeAsked, InputsAsk}
use Rattle.demo_clients.specs.Asking.{ServesThese, SessionsAsk, asked_from}
use Rattle.demo_clients.specs.Inputs.{asking_head, asking_text, go_data, go_text, head_of}
use Rattle.demo_clients.specs.Inputs.{input_asking, parting_text, requests_text}
use Rattle.demo_clients.specs.Operations.{AllServed, demo_operations, ops_of}
use Rattle.demo_clients.proofs.ShareLemmas.{demo-can, demo-few}

-- a request for an operation is a message that asks it
is-message : (cookie : ℕ) (op : Op) → cookie < 2 ^ 64 → CanBeAsked op →
    IsMessage false (asking_text cookie op) cookie (Some op) Simple
unfolding asking_text data_length ending_of operation_of form_of
is-message cookie (Read offset len) fits can = record {
  head = asking_head cookie (Read offset len);
  body = [];
  is_head = record {
    flags = lit< tt;
    command = lit< tt;
    named = refl;
    cookie = fits;
    offset = can.0;
    size = can.1;
  };
  parts = refl;
  size = refl;
  goes_on = refl;
  cookie_is = refl;
  asks = refl;
  form_is = refl;
}
is-message cookie (Write offset body true) fits can = record {
  head = asking_head cookie (Write offset body true);
  body = body;
  is_head = record {
    flags = lit< tt;
    command = lit< tt;
    named = refl;
    cookie = fits;
    offset = can.0;
    size = omega (arith, can.1);
  };
  parts = refl;
  size = refl;
  goes_on = ap (λ b. if b then Some (TooLong (length body)) else None) (le-ltb 33554432 (length body) can.1);
  cookie_is = refl;
  asks = refl;
  form_is = refl;
}
is-message cookie (Write offset body false) fits can = record {
  head = asking_head cookie (Write offset body false);
  body = body;
  is_head = record {
    flags = lit< tt;
    command = lit< tt;
    named = refl;
    cookie = fits;
    offset = can.0;
    size = omega (arith, can.1);
  };
  parts = refl;
  size = refl;
  goes_on = ap (λ b. if b then Some (TooLong (length body)) else None) (le-ltb 33554432 (length body) can.1);
  cookie_is = refl;
  asks = refl;
  form_is = refl;
}
is-message cookie (Zeroes offset len true) fits can = record {
  head = asking_head cookie (Zeroes offset len true);
  body = [];
  is_head = record {
    flags = lit< tt;
    command = lit< tt;
    named = refl;
    cookie = fits;
    offset = can.0;
    size = can.1;
  };
  parts = refl;
  size = refl;
  goes_on = refl;
  cookie_is = refl;
  asks = refl;
  form_is = refl;
}
is-message cookie (Zeroes offset len false) fits can = record {
  head = asking_head cookie (Zeroes offset len false);
  body = [];
  is_head = record {
    flags = lit< tt;
    command = lit< tt;
    named = refl;
    cookie = fits;
    offset = can.0;
    size = can.1;
  };
  parts = refl;
  size = refl;
  goes_on = refl;
  cookie_is = refl;
  asks = refl;
  form_is = refl;
}
is-message cookie Flush fits can = record {
  head = asking_head cookie Flush;
  body = [];
  is_head = record {
    flags = lit< tt;
    command = lit< tt;
    named = refl;
    cookie = fits;
    offset = lit< tt;
    size = lit< tt;
  };
  parts = refl;
  size = refl;
  goes_on = refl;
  cookie_is = refl;
  asks = refl;
  form_is = refl;
}

-- one session that is asked the operations: each is refused, since memory is wanted
turn-of : ℕ → Op → Turn
turn-of cookie op = record {
  cookie = cookie;
  asked = Some op;
  form = Simple;
  reply = Errno no_memory;
  tried = 0;
  submitted = false;
}

turns-from : ℕ → List Op → List Turn
turns-from cookie [] = []
turns-from cookie (op ∷ ops) = turn-of cookie op ∷ turns-from (cookie + 1) ops

turns-spell : (cookie : ℕ) (ops : List Op) → cookie + length ops ≤ 2 ^ 64 → AllCanBeAsked ops →
    Spells false (turns-from cookie ops) (requests_text cookie ops)
unfolding turns-from Spells requests_text AllCanBeAsked turn-of
turns-spell cookie [] few can = refl
turns-spell cookie (op ∷ ops) few can = (
  asking_text cookie op,
  requests_text (cookie + 1) ops,
  refl,
  record {
    message = is-message cookie op (omega (arith, few)) can.0;
    answered = (refl, refl);
  },
  turns-spell (cookie + 1) ops (omega (arith, few)) can.1,
)

turns-asked : (cookie : ℕ) (ops : List Op) →
    asked_of (turns-from cookie ops) ≡ asked_from cookie ops
unfolding turns-from asked_of asked_from turn-of
turns-asked cookie [] = refl
turns-asked cookie (op ∷ ops) =
    let one : Asked = record { cookie = cookie; asked = Some op; form = Simple } in
    ap (λ (rest : List Asked). one ∷ rest) (turns-asked (cookie + 1) ops)

turns-length : (cookie : ℕ) (ops : List Op) → length (turns-from cookie ops) ≡ length ops
unfolding turns-from
turns-length cookie [] = refl
turns-length cookie (op ∷ ops) = ap suc (turns-length (cookie + 1) ops)

log-of : List Op → Log
log-of ops = record {
  stage = served;
  flags = 3;
  options = [];
  last = Some (record { option = Go; body = go_data });
  turns = turns-from 0 ops;
  taken = input_asking ops;
  whole = [];
  front = [];
  ended = false;
}

input-asks : (ops : List Op) → AllCanBeAsked ops → length ops < 2 ^ 32 →
    IsInput served (log-of ops) Disconnected
unfolding log-of input_asking go_text parting_text info_name SpellsOptions agreed_after ending_of
input-asks ops can few = (
  go_text,
  requests_text 0 ops ++ parting_text (length ops),
  record { fit = lit< tt; parts = refl },
  record {
    text = [];
    bytes = go_text;
    parts = refl;
    spells = refl;
    course_is = (
      record {
        is_head = record { option = lit< tt; named = refl; size = lit< tt };
        fits = lit≤ tt;
        parts = refl;
      },
      refl,
      lit< tt,
    );
  },
  record {
    text = requests_text 0 ops;
    bytes = parting_text (length ops);
    parts = refl;
    spells = turns-spell 0 ops (omega (arith, few)) can;
    ends = (
      record {
        head = head_of (length ops) Disc false 0 0;
        is_head = record {
          flags = lit< tt;
          command = lit< tt;
          named = refl;
          cookie = omega (arith, few);
          offset = lit< tt;
          size = lit< tt;
        };
        parts = refl;
        brings = refl;
      },
      omega (arith, few, turns-length 0 ops),
    );
  },
)

asking-reads : (ops : List Op) → AllCanBeAsked ops → length ops < 2 ^ 32 →
    Reads (log-of ops) Disconnected (input_asking ops)
unfolding log-of
asking-reads ops can few = record {
  rest = [];
  parts = sym (append-nil (input_asking ops));
  at_end = λ (ended : false ≡ true). absurd (cc);
  by_input = tt;
  is_input = input-asks ops can few;
}

-- of what was asked, and granted, the port was asked
pub one-served : (op : Op) (submitted : Bool) (reply : Reply) (tried : ℕ) →
    IsAnswered (Some op) submitted reply tried → errno_of reply ≡ 0 →
    (exchange_of (Some op) submitted reply tried
    ≡ record { op = op; reply = reply; tried = tried } ∷ [])
    × IsServed op reply
one-served op false reply tried is none =
    let wanted : no_memory ≡ 0 = sym (ap errno_of is.0) ∙ none in
    absurd (omega (arith, wanted))
one-served op true (Errno number) tried is none = absurd (omega (arith, is.0, none))
one-served op true (ErrnoAt number place) tried is none = absurd (omega (arith, is.0.0, none))
one-served (Read offset len) true (Content bytes) tried is none = (refl, is.0)
one-served (Read offset len) true Done tried is none = absurd is
one-served (Write offset body fua) true (Content bytes) tried is none = absurd is
one-served (Write offset body fua) true Done tried is none = (refl, refl)
one-served (Zeroes offset len fua) true (Content bytes) tried is none = absurd is
one-served (Zeroes offset len fua) true Done tried is none = (refl, refl)
one-served Flush true (Content bytes) tried is none = absurd is
one-served Flush true Done tried is none = (refl, refl)

first-asked : List Asked → Option Op
first-asked [] = None
first-asked (one ∷ rest) = one.asked

serves-these : (structured : Bool) (cookie : ℕ) (ops : List Op) (turns : List Turn)
    (text : List ℕ) → Spells structured turns text → asked_of turns ≡ asked_from cookie ops →
    ServesThese ops turns
unfolding Spells asked_of asked_from AreGranted exchanges_of ops_of AllServed first-asked
serves-these structured cookie [] [] text spells asked granted = (refl, tt)
serves-these structured cookie [] (turn ∷ turns) text spells asked granted = absurd (cc)
serves-these structured cookie (op ∷ ops) [] text spells asked granted = absurd (cc)
serves-these structured cookie (op ∷ ops) (turn ∷ turns) text spells asked granted =
    let first : turn.asked ≡ Some op = ap first-asked asked in
    let rest : asked_of turns ≡ asked_from (cookie + 1) ops = ap (λ (all : List Asked). drop 1 all)
    asked in
    let later = serves-these structured (cookie + 1) ops turns spells.1 spells.4 rest granted.1 in
    let one = one-served op turn.submitted turn.reply turn.tried
    (subst (λ (asked : Option Op). IsAnswered asked turn.submitted turn.reply turn.tried) first
    spells.3.answered) granted.0 in
    let all : exchange_of turn.asked turn.submitted turn.reply turn.tried ++ exchanges_of turns
    ≡ record { op = op; reply = turn.reply; tried = turn.tried } ∷ exchanges_of turns =
    ap (λ (asked : Option Op). exchange_of asked turn.submitted turn.reply turn.tried
    ++ exchanges_of turns) first
    ∙ ap (λ (es : List Exchange). es ++ exchanges_of turns) one.0 in (
      ap ops_of all ∙ ap (λ (rest : List Op). op ∷ rest) later.0,
      subst (λ (es : List Exchange). AllServed es) (sym all) (one.1, later.1),
    )

-- the requests of a session that came to them
Spelt : Log → Type 0
Spelt log = (structured : Bool) × (text : List ℕ) × Spells structured log.turns text

spelt-at : (stage : Stage) (log : Log) (ending : Ending) → stage ≡ served →
    IsInput stage log ending → Spelt log
unfolding Spelt
spelt-at greeted log ending at is = absurd (cc)
spelt-at negotiating log ending at is = absurd (cc)
spelt-at served log ending at is = (_, is.4.text, is.4.spells)

pub inputs-ask : ReadsOnce → InputsAsk
unfolding log-of Spelt
inputs-ask once ops log ending can few reads =
    let same = once log (log-of ops) ending Disconnected (input_asking ops) reads
    (asking-reads ops can few) in
    let asked : asked_of log.turns ≡ asked_from 0 ops = same.0.asked ∙ turns-asked 0 ops in
    let spelt = spelt-at log.stage log ending same.0.stage reads.is_input in (
      same.1,
      record {
        stage = same.0.stage;
        flags = same.0.flags;
        options = same.0.options;
        last = same.0.last;
        asked = asked;
        taken = same.0.taken;
      },
      serves-these spelt.0 0 ops log.turns spelt.1 spelt.2 asked,
    )

pub sessions-ask : ReadsOnce → SessionsAsk
sessions-ask once export end old new log seed m k i few below session left had by =
    let ops = demo_operations seed m k i in
    let took = session.talks.traffic.took.left (input_asking ops) left in
    let ended : log.ended ≡ true → took.0 ≡ [] = λ at.
    let none : new.source.left ≡ Some [] = session.talks.at_end at (input_asking ops) left in
    let rest : Some took.0 ≡ Some [] = sym took.2 ∙ none in
    cc in
    let asks = inputs-ask once ops log end.ending (demo-can seed m k i few below)
    (demo-few seed m k i few below)
    (record {
      rest = took.0;
      parts = took.1;
      at_end = ended;
      by_input = by;
      is_input = session.input;
    }) in
    let messages = messages_of export log in
    let out : GoesOut Disconnected messages log.whole log.front =
    subst (λ (ending : Ending). GoesOut ending messages log.whole log.front) asks.0
    session.talks.by_case.0 in
    record {
      ending = asks.0;
      asks = asks.1;
      put = session.talks.traffic.sent [] had
          ∙ ap Some (ap₂ (λ (whole front : List ℕ). whole ++ front) out.0 out.1 ∙ append-nil (joined messages));
      serves = asks.2;
    }
