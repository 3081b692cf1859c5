-- An input is read in one way.
use Rattle.std.proofs.Common.{◌≡◌, ℕ, ◌+◌, ◌^◌, ◌<◌, nat_lt, Bool, true, false, List, [], ◌∷◌, ◌++◌}
use Rattle.std.proofs.Common.{Option, Some, None, length, take, ap, ap₂, ◌∙◌, refl, sym, subst}
use Rattle.std.proofs.Common.{arith, append_assoc, append-nil, length-append, ⊎_elim}
use Rattle.std.proofs.lemmas.Bool.{lt-ltb, le-ltb}
use Rattle.std.proofs.lemmas.Nat.{from_be_bytes-to_be_bytes_4}
use Rattle.std.specs.Int.{w32, from_be_bytes}
use Rattle.nbd_stream.specs.declared.ending.Ending.{Ending}
use Rattle.nbd_stream.specs.declared.ending.Ending.TheVariants.{Closed, Truncated, BadFlags}
use Rattle.nbd_stream.specs.declared.ending.Ending.TheVariants.{ReadFault}
use Rattle.nbd_hand.specs.declared.options.ClientOption.{ClientOption}
use Rattle.nbd_hand.specs.declared.options.Course.{Course}
use Rattle.nbd_hand.specs.declared.options.Course.TheVariants.{Begins, Ends}
use Rattle.nbd_stream.specs.Endings.{IsByInput}
use Rattle.nbd_hand.specs.Grammar.{StopsFlags, SpellsOptions, AreOptions, agreed_after}
use Rattle.nbd_hand.specs.Handshakes.{Stage, greeted, negotiating, served, HasFlags, no_zeroes}
use Rattle.nbd_session.specs.Grammar.{AreRequests}
use Rattle.nbd_session.specs.Asking.{Asked, asked_of}
use Rattle.nbd_session.specs.Reading.{Reads, AreOneReading, ReadsOnce}
use Rattle.nbd_session.specs.Session.{Log, IsInput, handshake_of}
use Rattle.nbd_session.specs.Turns.{Turn, Spells}
use Rattle.nbd_stream.proofs.StreamLemmas.{split, Spelled, Tail, tail-once}
use Rattle.nbd_hand.proofs.DecidedOptions as Options
use Rattle.nbd_hand.proofs.DecidedOptions.{End, cut_of, cut-none, cut-some, ByInput}
use Rattle.nbd_session.proofs.DecidedRequests as Requests
use Rattle.nbd_session.proofs.RequestLemmas.{asked_of-length}
use Rattle.nbd_wire.specs.Fields.{u32_text}
use Rattle.nbd_wire.proofs.FieldLemmas.{u32-first}

-- the client's flags: an ending after so many bytes, or flags
data Flags : Type 0 where
  stopped : Ending → ℕ → Flags
  flagged : ℕ → Flags

flags_by_value : Bool → ℕ → Flags
flags_by_value true flags = flagged flags
flags_by_value false flags = stopped (BadFlags flags) 4

flags_by_size : Bool → List ℕ → Flags
flags_by_size true all = stopped (cut_of all) (length all)
flags_by_size false all =
    flags_by_value (nat_lt (from_be_bytes w32 (take 4 all)) 4) (from_be_bytes w32 (take 4 all))

flags_of : List ℕ → Flags
flags_of all = flags_by_size (nat_lt (length all) 4) all

text-size : (flags : ℕ) → length (u32_text flags) ≡ 4
unfolding u32_text
text-size flags = refl

flags-whole : (flags : ℕ) (more : List ℕ) → flags < 2 ^ 32 →
    flags_of (u32_text flags ++ more) ≡ flags_by_value (nat_lt flags 4) flags
unfolding flags_of flags_by_size u32_text
flags-whole flags more fits =
    let read : from_be_bytes w32 (take 4 (u32_text flags ++ more)) ≡ flags =
    from_be_bytes-to_be_bytes_4 flags fits in
    ap (λ b. flags_by_size b (u32_text flags ++ more))
    (le-ltb (length (u32_text flags ++ more)) 4
    (omega (arith, length-append (u32_text flags) more, text-size flags)))
    ∙ ap (λ n. flags_by_value (nat_lt n 4) n) read

flags-short : (all : List ℕ) → length all < 4 → flags_of all ≡ stopped (cut_of all) (length all)
unfolding flags_of flags_by_size
flags-short all short = ap (λ b. flags_by_size b all) (lt-ltb (length all) 4 short)

flags-agreed : (flags : ℕ) (more : List ℕ) → flags < 4 →
    flags_of (u32_text flags ++ more) ≡ flagged flags
unfolding flags_by_value
flags-agreed flags more fits = flags-whole flags more (omega arith)
    ∙ ap (λ b. flags_by_value b flags) (lt-ltb flags 4 fits)

flags-ended : (taken rest : List ℕ) → rest ≡ [] → flags_of (taken ++ rest) ≡ flags_of taken
flags-ended taken rest none = ap (λ r. flags_of (taken ++ r)) none ∙ ap flags_of (append-nil taken)

flags-stopped : (ending : Ending) (ended : Bool) (taken rest : List ℕ) → IsByInput ending →
    StopsFlags ending ended taken → (ended ≡ true → rest ≡ []) →
    flags_of (taken ++ rest) ≡ stopped ending (length taken)
unfolding flags_by_value
flags-stopped Closed ended taken rest by stops at_end =
    flags-ended taken rest (at_end stops.1)
    ∙ subst (λ (t : List ℕ). flags_of t ≡ stopped Closed (length t)) (sym stops.0)
    (flags-short [] (omega arith) ∙ ap (λ e. stopped e 0) cut-none)
flags-stopped (Truncated n) ended taken rest by stops at_end =
    flags-ended taken rest (at_end stops.3) ∙ flags-short taken (omega (arith, stops.0, stops.2))
    ∙ ap (λ e. stopped e (length taken))
    (cut-some taken (omega (arith, stops.0, stops.1)) ∙ ap Truncated stops.0)
flags-stopped (BadFlags flags) ended taken rest by stops at_end =
    ap (λ t. flags_of (t ++ rest)) stops.0 ∙ flags-whole flags rest stops.2
    ∙ ap (λ b. flags_by_value b flags) (le-ltb flags 4 stops.1)
    ∙ ap (λ k. stopped (BadFlags flags) k) (omega (arith, ap length stops.0, text-size flags))
flags-stopped ReadFault ended taken rest by stops at_end = absurd by
flags-stopped _ ended taken rest by stops at_end = absurd stops

stopped-same : (e e' : Ending) (n n' : ℕ) → stopped e n ≡ stopped e' n' → (e ≡ e') × (n ≡ n')
stopped-same e e' n n' is = (cc, cc)

stopped-flagged : (e : Ending) (n f : ℕ) → stopped e n ≡ flagged f → ⊥
stopped-flagged e n f is = absurd (cc)

-- options and requests as streams of messages
options-spelled : (options : List ClientOption) (text : List ℕ) → SpellsOptions options text →
    Spelled Options.IsWhole options text
unfolding SpellsOptions Spelled Options.IsWhole
options-spelled [] text is = is
options-spelled (option ∷ options) text is =
    (is.0, is.1, is.2, (is.3, is.4), options-spelled options is.1 is.5)

requests-spelled : (structured : Bool) (turns : List Turn) (text : List ℕ) →
    Spells structured turns text → Spelled (Requests.IsWhole structured) (asked_of turns) text
unfolding Spells Spelled Requests.IsWhole asked_of
requests-spelled structured [] text is = is
requests-spelled structured (turn ∷ turns) text is =
    (is.0, is.1, is.2, is.3.message, requests-spelled structured turns is.1 is.4)

abbrev OptionsTail : List ClientOption → Course → Option ClientOption → List ℕ → List ℕ → Type 0
OptionsTail options course last taken all =
    Tail {M = ClientOption} {E = End} Options.IsWhole Options.IsEnd 0 options
    (record { course = course; last = last }) taken all

options-tail : (course : Course) (options : List ClientOption) (last : Option ClientOption)
    (taken rest : List ℕ) (ended : Bool) →
    AreOptions course options last (length options) taken ended → ByInput course →
    (ended ≡ true → rest ≡ []) →
    OptionsTail options course last taken (taken ++ rest)
unfolding Options.IsEnd
options-tail course options last taken rest ended are by at_end =
    let count : length options ≡ 0 + length options = omega arith in
    record {
      text = are.text;
      bytes = are.bytes;
      rest = rest;
      ended = ended;
      taken_is = are.parts;
      parts = refl;
      spells = options-spelled options are.text are.spells;
      last = subst (λ (n : ℕ).
          Options.IsEnd (record { course = course; last = last }) n ended are.bytes) count
          (are.course_is, by);
      at_end = at_end;
    }

abbrev RequestsTail : Bool → List Turn → Ending → List ℕ → List ℕ → Type 0
RequestsTail structured turns ending taken all =
    Tail {M = Asked} {E = Ending} (Requests.IsWhole structured) (Requests.IsEnd structured) 0
    (asked_of turns) ending taken all

requests-tail : (structured : Bool) (ending : Ending) (turns : List Turn) (taken rest : List ℕ)
    (ended : Bool) →
    AreRequests structured (Some ending) turns (length turns) taken ended → IsByInput ending →
    (ended ≡ true → rest ≡ []) →
    RequestsTail structured turns ending taken (taken ++ rest)
requests-tail structured ending turns taken rest ended are by at_end =
    let count : length turns ≡ 0 + length (asked_of turns) = omega (arith, asked_of-length turns) in
    record {
      text = are.text;
      bytes = are.bytes;
      rest = rest;
      ended = ended;
      taken_is = are.parts;
      parts = refl;
      spells = requests-spelled structured turns are.text are.spells;
      last = subst (λ (n : ℕ). Requests.IsEnd structured ending n ended are.bytes) count
          (record { ends = are.ends.0; count = are.ends.1; by_input = by });
      at_end = at_end;
    }

end-same : (c c' : Course) (l l' : Option ClientOption) →
    ◌≡◌ {A = End} (record { course = c; last = l }) (record { course = c'; last = l' }) → (c ≡ c')
    × (l ≡ l')
end-same c c' l l' is = (ap (λ (e : End). e.course) is, ap (λ (e : End). e.last) is)

-- options are read in one way
options-once : (options options' : List ClientOption) (course course' : Course)
    (last last' : Option ClientOption) (taken taken' all : List ℕ) →
    OptionsTail options course last taken all → OptionsTail options' course' last' taken' all →
    (options ≡ options') × (course ≡ course') × (last ≡ last') × (taken ≡ taken')
options-once options options' course course' last last' taken taken' all a b =
    let once = tail-once Options.IsWhole Options.IsEnd 65536 Options.decide Options.few
    Options.whole-decides Options.last-decides 0 options options' _ _ taken taken' all a b in
    let ends = end-same course course' last last' once.1 in
    (once.0, ends.0, ends.1, once.2)

requests-once : (structured : Bool) (turns turns' : List Turn) (ending ending' : Ending)
    (taken taken' all : List ℕ) →
    RequestsTail structured turns ending taken all →
    RequestsTail structured turns' ending' taken' all →
    (asked_of turns ≡ asked_of turns') × (ending ≡ ending') × (taken ≡ taken')
requests-once structured turns turns' ending ending' taken taken' all a b =
    tail-once (Requests.IsWhole structured) (Requests.IsEnd structured) (2 ^ 32)
    (Requests.decide structured) (Requests.few structured) (Requests.whole-decides structured)
    (Requests.last-decides structured) 0 (asked_of turns) (asked_of turns') ending ending' taken
    taken' all a b

-- what is agreed on is told by the flags and the options
abbrev agreed-by : ℕ → List ClientOption → Bool
agreed-by flags options =
    (agreed_after (record { no_zeroes = no_zeroes flags; structured = false }) options).structured

-- an input behind the client's flags
behind-flags : (log : Log) (rest behind input : List ℕ) → HasFlags (handshake_of log) rest →
    input ≡ log.taken ++ behind → input ≡ u32_text log.flags ++ (rest ++ behind)
behind-flags log rest behind input has parts = parts ∙ ap (λ t. t ++ behind) has.parts
    ∙ append_assoc (u32_text log.flags) rest behind

-- two sessions that came to their options have the same flags, and the same is behind them
flags-once : (f f' : ℕ) (a b input : List ℕ) → f < 4 → f' < 4 → input ≡ u32_text f ++ a →
    input ≡ u32_text f' ++ b → (f ≡ f') × (a ≡ b)
flags-once f f' a b input fit fit' is is' =
    u32-first f f' a b (omega arith) (omega arith) (sym is ∙ is')

abbrev pub Once : Log → Log → Ending → Ending → Type 0
Once log log' ending ending' = AreOneReading log log' × (ending ≡ ending')

-- what is known of a session by its stage
record Greeted (log : Log) (ending : Ending) (input : List ℕ) : Type 0 where
  stage : log.stage ≡ greeted
  none : (log.flags ≡ 0) × (log.options ≡ []) × (log.last ≡ None) × (log.turns ≡ [])
  decided : flags_of input ≡ stopped ending (length log.taken)
  rest : List ℕ
  parts : input ≡ log.taken ++ rest

record Negotiated (log : Log) (ending : Ending) (input : List ℕ) : Type 0 where
  stage : log.stage ≡ negotiating
  none : log.turns ≡ []
  fit : log.flags < 4
  taken : List ℕ
  behind : List ℕ
  taken_is : log.taken ≡ u32_text log.flags ++ taken
  input_is : input ≡ u32_text log.flags ++ behind
  options : OptionsTail log.options (Ends ending) log.last taken behind

record Served (log : Log) (ending : Ending) (input : List ℕ) : Type 0 where
  stage : log.stage ≡ served
  fit : log.flags < 4
  chosen : List ℕ
  asked : List ℕ
  behind : List ℕ
  taken_is : log.taken ≡ u32_text log.flags ++ (chosen ++ asked)
  input_is : input ≡ u32_text log.flags ++ (chosen ++ behind)
  options : OptionsTail log.options Begins log.last chosen (chosen ++ behind)
  requests : RequestsTail (agreed-by log.flags log.options) log.turns ending asked behind

data Stood (log : Log) (ending : Ending) (input : List ℕ) : Type 0 where
  at_flags : Greeted log ending input → Stood log ending input
  at_options : Negotiated log ending input → Stood log ending input
  at_requests : Served log ending input → Stood log ending input

stood-at : (stage : Stage) (log : Log) (ending : Ending) (input rest : List ℕ) → log.stage ≡ stage →
    input ≡ log.taken ++ rest →
    (log.ended ≡ true → rest ≡ []) → IsByInput ending → IsInput stage log ending →
    Stood log ending input
stood-at greeted log ending input rest at parts at_end by is = at_flags (record {
  stage = at;
  none = (is.1.0, is.1.1, is.1.2, is.0);
  decided = ap flags_of parts
      ∙ flags-stopped ending log.ended log.taken rest by
      (⊎_elim (λ fault. absurd (subst (λ (e : Ending). IsByInput e) fault.0 by))
      (λ stops. stops) is.1.3) at_end;
  rest = rest;
  parts = parts;
})
stood-at negotiating log ending input rest at parts at_end by is =
    let taken = is.1.0 in
    let has = is.1.1 in
    at_options (record {
      stage = at;
      none = is.0;
      fit = has.fit;
      taken = taken;
      behind = taken ++ rest;
      taken_is = has.parts;
      input_is = behind-flags log taken rest input has parts;
      options = options-tail (Ends ending) log.options log.last taken rest log.ended is.1.2 by
          at_end;
    })
stood-at served log ending input rest at parts at_end by is =
    let chosen = is.0 in
    let asked = is.1 in
    at_requests (record {
      stage = at;
      fit = is.2.fit;
      chosen = chosen;
      asked = asked;
      behind = asked ++ rest;
      taken_is = is.2.parts;
      input_is = behind-flags log (chosen ++ asked) rest input is.2 parts
          ∙ ap (λ t. u32_text log.flags ++ t) (append_assoc chosen asked rest);
      options = options-tail Begins log.options log.last chosen (asked ++ rest) false is.3 tt
          (λ e. absurd (cc));
      requests = requests-tail (agreed-by log.flags log.options) ending log.turns asked rest
          log.ended is.4 by at_end;
    })

stood : (log : Log) (ending : Ending) (input : List ℕ) → Reads log ending input →
    Stood log ending input
stood log ending input reads =
    stood-at log.stage log ending input reads.rest refl reads.parts reads.at_end reads.by_input
    reads.is_input

-- no session that came to its options has the input of one that didn't
greeted-never : (log : Log) (ending : Ending) (input : List ℕ) (flags : ℕ) (behind : List ℕ) →
    Greeted log ending input → flags < 4 →
    input ≡ u32_text flags ++ behind → ⊥
greeted-never log ending input flags behind a fit is =
    stopped-flagged ending (length log.taken) flags
    (sym a.decided ∙ ap flags_of is ∙ flags-agreed flags behind fit)

-- nor one that began its requests that of one that ended before
ends-begins : (ending : Ending) → Ends ending ≡ Begins → ⊥
ends-begins ending is = absurd (cc)

ends-same : (e e' : Ending) → Ends e ≡ Ends e' → e ≡ e'
ends-same e e' is = cc

one-reading : (log log' : Log) (ending ending' : Ending) (input : List ℕ) → Stood log ending input →
    Stood log' ending' input → Once log log' ending ending'
one-reading log log' ending ending' input (at_flags a) (at_flags b) =
    let same = stopped-same ending ending' (length log.taken) (length log'.taken)
    (sym a.decided ∙ b.decided) in (
      record {
        stage = a.stage ∙ sym b.stage;
        flags = a.none.0 ∙ sym b.none.0;
        options = a.none.1 ∙ sym b.none.1;
        last = a.none.2 ∙ sym b.none.2;
        asked = ap asked_of (a.none.3 ∙ sym b.none.3);
        taken = (split log.taken log'.taken a.rest b.rest (sym a.parts ∙ b.parts) same.1).0;
      },
      same.0,
    )
one-reading log log' ending ending' input (at_flags a) (at_options b) =
    absurd (greeted-never log ending input log'.flags b.behind a b.fit b.input_is)
one-reading log log' ending ending' input (at_flags a) (at_requests b) =
    absurd (greeted-never log ending input log'.flags (b.chosen ++ b.behind) a b.fit b.input_is)
one-reading log log' ending ending' input (at_options a) (at_flags b) =
    absurd (greeted-never log' ending' input log.flags a.behind b a.fit a.input_is)
one-reading log log' ending ending' input (at_options a) (at_options b) =
    let flags = flags-once log.flags log'.flags a.behind b.behind input a.fit b.fit a.input_is
    b.input_is in
    let once = options-once log.options log'.options (Ends ending) (Ends ending') log.last log'.last
    a.taken b.taken a.behind a.options
    (subst (λ (t : List ℕ). OptionsTail log'.options (Ends ending') log'.last b.taken t)
    (sym flags.1) b.options) in (
      record {
        stage = a.stage ∙ sym b.stage;
        flags = flags.0;
        options = once.0;
        last = once.2;
        asked = ap asked_of (a.none ∙ sym b.none);
        taken = a.taken_is ∙ ap (λ t. u32_text log.flags ++ t) once.3
            ∙ ap (λ f. u32_text f ++ b.taken) flags.0 ∙ sym b.taken_is;
      },
      ends-same ending ending' once.1,
    )
one-reading log log' ending ending' input (at_options a) (at_requests b) =
    let flags = flags-once log.flags log'.flags a.behind (b.chosen ++ b.behind) input a.fit b.fit
    a.input_is b.input_is in
    let once = options-once log.options log'.options (Ends ending) Begins log.last log'.last a.taken
    b.chosen a.behind a.options
    (subst (λ (t : List ℕ). OptionsTail log'.options Begins log'.last b.chosen t) (sym flags.1)
    b.options) in
    absurd (ends-begins ending once.1)
one-reading log log' ending ending' input (at_requests a) (at_flags b) =
    absurd (greeted-never log' ending' input log.flags (a.chosen ++ a.behind) b a.fit a.input_is)
one-reading log log' ending ending' input (at_requests a) (at_options b) =
    let flags = flags-once log'.flags log.flags b.behind (a.chosen ++ a.behind) input b.fit a.fit
    b.input_is a.input_is in
    let once = options-once log'.options log.options (Ends ending') Begins log'.last log.last
    b.taken a.chosen b.behind b.options
    (subst (λ (t : List ℕ). OptionsTail log.options Begins log.last a.chosen t) (sym flags.1)
    a.options) in
    absurd (ends-begins ending' once.1)
one-reading log log' ending ending' input (at_requests a) (at_requests b) =
    let flags = flags-once log.flags log'.flags (a.chosen ++ a.behind) (b.chosen ++ b.behind) input
    a.fit b.fit a.input_is b.input_is in
    let once = options-once log.options log'.options Begins Begins log.last log'.last a.chosen
    b.chosen (a.chosen ++ a.behind) a.options
    (subst (λ (t : List ℕ). OptionsTail log'.options Begins log'.last b.chosen t) (sym flags.1)
    b.options) in
    let behind : a.behind ≡ b.behind =
    (split a.chosen b.chosen a.behind b.behind flags.1 (ap length once.3)).1 in
    let agreed : agreed-by log.flags log.options ≡ agreed-by log'.flags log'.options =
    ap₂ agreed-by flags.0 once.0 in
    let requests = requests-once (agreed-by log.flags log.options) log.turns log'.turns ending
    ending' a.asked b.asked a.behind a.requests
    (subst (λ (s : Bool). RequestsTail s log'.turns ending' b.asked a.behind) (sym agreed)
    (subst
    (λ (t : List ℕ). RequestsTail (agreed-by log'.flags log'.options) log'.turns ending' b.asked t)
    (sym behind) b.requests)) in (
      record {
        stage = a.stage ∙ sym b.stage;
        flags = flags.0;
        options = once.0;
        last = once.2;
        asked = requests.0;
        taken = a.taken_is ∙ ap (λ t. u32_text log.flags ++ (t ++ a.asked)) once.3
            ∙ ap (λ t. u32_text log.flags ++ (b.chosen ++ t)) requests.2
            ∙ ap (λ f. u32_text f ++ (b.chosen ++ b.asked)) flags.0 ∙ sym b.taken_is;
      },
      requests.1,
    )

pub reads-once : ReadsOnce
reads-once log log' ending ending' input a b =
    one-reading log log' ending ending' input (stood log ending input a)
    (stood log' ending' input b)
