-- The exits of a negotiation.
use Rattle.std.proofs.Common.{◌≡◌, ◌≢◌, ℕ, ◌+◌, ◌<◌, Bool, true, false, not, ◌==◌, IsTrue, ◌↔◌}
use Rattle.std.proofs.Common.{List, [], ◌∷◌, ◌++◌, Option, Some, None, Result, Ok, Err, length, ap}
use Rattle.std.proofs.Common.{◌∙◌, refl, sym, subst, arith, inl, inr, append-nil, ⊎_elim}
use Rattle.std.proofs.lemmas.Bool.{ne_eqb}
use Rattle.std.proofs.lemmas.Bool.Decides.{eqb_tells}
use Rattle.base_terms.specs.declared.failed.Failed.{Failed}
use Rattle.io_edge.specs.Outlet.{Outlet}
use Rattle.nbd_stream.specs.declared.ending.Ending.{Ending}
use Rattle.nbd_stream.specs.declared.ending.Ending.TheVariants.{PortSpent, WriteFault}
use Rattle.nbd_hand.specs.declared.export.Export.{Export}
use Rattle.nbd_hand.specs.declared.negotiation.Agreed.{Agreed}
use Rattle.nbd_hand.specs.declared.options.ClientOption.{ClientOption}
use Rattle.nbd_hand.specs.declared.options.Course.TheVariants.{Begins, Ends}
use Rattle.nbd_hand.specs.declared.options.Verdict.{Verdict}
use Rattle.nbd_hand.specs.declared.options.Verdict.TheVariants.{Tell, Names, Inform, Agree, Refuse}
use Rattle.nbd_hand.specs.declared.options.Verdict.TheVariants.{Structure, Abort, Unknown}
use Rattle.nbd_hand.specs.Grammar.{AreOptions, agreed_after, answers_to, last_answer}
use Rattle.nbd_stream.specs.Moments.{Moment, Talks}
use Rattle.nbd_hand.specs.Negotiation.{FlagsAre, Answers, Negotiates, ending_in, course_to}
use Rattle.nbd_hand.specs.Options.{course_of, verdict_of}
use Rattle.nbd_hand.specs.Handshakes.{Handshake, Stage, served, greeted, negotiating, greeting}
use Rattle.nbd_hand.specs.Handshakes.{messages_of, no_zeroes, IsBegun, IsUnserved}
use Rattle.std.specs.Prelude.{MatchResult, IfOk}
use Rattle.nbd_stream.specs.Traffic.{Reach}
use Rattle.nbd_stream.proofs.MomentLemmas.{with_sink}
use Rattle.nbd_stream.proofs.TalkLemmas.{HasPut, talks-took, talks-stopped, talks-put, talks-unput}
use Rattle.nbd_stream.proofs.TalkLemmas.{talks-more}
use Rattle.nbd_wire.specs.declared.handshake.ClientFlags.{ClientFlags}
use Rattle.nbd_wire.specs.Fields.{u32_text}
use Rattle.nbd_wire.specs.Handshake.{greeting_text}

-- the greeting is its text
pub greeting-is : (bits : ℕ) → bits ≡ 3 →
    greeting_text (record { flags = record { bits = bits } }) ≡ greeting
unfolding greeting
greeting-is bits is = ap (λ b. greeting_text (record { flags = record { bits = b } })) is

-- a handshake that came to no options
abbrev pub early : List ℕ → List ℕ → List ℕ → Bool → Handshake
early taken whole front ended = record {
  stage = greeted;
  flags = 0;
  options = [];
  last = None;
  taken = taken;
  whole = whole;
  front = front;
  ended = ended;
}

early-messages : (export : Export) (taken whole front : List ℕ) (ended : Bool) →
    greeting ∷ [] ≡ messages_of export (early taken whole front ended)
unfolding answers_to
early-messages export taken whole front ended = refl

abbrev pub HasNegotiated : Export → Moment → Moment → Result Agreed Ending → Type 0
HasNegotiated export a b result = (hand : Handshake) × Negotiates export a b result hand

-- the greeting didn't go out
pub stops-silent : (export : Export) (a : Reach) (s s' : Outlet) (p p' : ℕ) (e : Failed) →
    HasPut s s' p p' greeting (Err e) →
    HasNegotiated export (with_sink a s p) (with_sink a s' p') (Err WriteFault)
stops-silent export a s s' p p' e put = (
  early [] put.0 put.1 false,
  record {
    talks = subst (λ ms. Talks (with_sink a s p) (with_sink a s' p') (Some WriteFault) [] ms put.0
        put.1 false)
        (early-messages export [] put.0 put.1 false) (talks-unput a s s' p p' greeting e put);
    by_case = (refl, refl, refl, inl (refl, refl));
  },
)

abbrev pub HasFlagsOf : Reach → Reach → Result ClientFlags Ending → Type 0
HasFlagsOf a b result = (bytes : List ℕ) × (ended : Bool) × FlagsAre a b result bytes ended

-- the client's flags didn't come
pub stops-greeted : (export : Export) (a b : Reach) (s s' : Outlet) (p p' : ℕ) (ending : Ending) →
    HasPut s s' p p' greeting (Ok tt) → HasFlagsOf a b (Err ending) →
    HasNegotiated export (with_sink a s p) (with_sink b s' p') (Err ending)
stops-greeted export a b s s' p p' ending put flags =
    let bytes = flags.0 in
    let ended = flags.1 in (
      early bytes greeting [] ended,
      record {
        talks = subst (λ ms. Talks (with_sink a s p) (with_sink b s' p') (Some ending) bytes ms
            greeting [] ended)
            (early-messages export bytes greeting [] ended)
            (subst (λ (w : List ℕ).
            Talks (with_sink a s p) (with_sink b s' p') (Some ending) bytes (greeting ∷ []) w []
            ended) (append-nil greeting)
            (talks-more _ _ _ (Some ending) [] bytes (greeting ∷ []) [] greeting [] [] ended
            (talks-put a s s' p p' greeting put)
            (talks-stopped a b s' p' ending bytes ended flags.2.takes flags.2.at_end
            flags.2.by_case.0)));
        by_case = (refl, refl, refl, inr flags.2.by_case.1);
      },
    )

false-true : false ≡ true → ⊥
false-true is = absurd (cc)

-- whether the zeros are left out
pub zeroes-left : (b : Bool) (n : ℕ) → (IsTrue b ↔ (n ≢ 0)) → b ≡ not (n == 0)
zeroes-left true n tells = sym (ap not (ne_eqb n 0 (tells.0 refl)))
zeroes-left false n tells = ⊎_elim
    (λ is. sym (ap not is.0))
    (λ differ. absurd (false-true (tells.1 differ.1)))
    (eqb_tells n 0)

-- a handshake up to the option that came last
abbrev pub agreed : ℕ → List ClientOption → Option ClientOption → List ℕ → List ℕ → List ℕ →
    Bool → Handshake
agreed flags options last taken whole front ended = record {
  stage = negotiating;
  flags = flags;
  options = options;
  last = last;
  taken = u32_text flags ++ taken;
  whole = greeting ++ whole;
  front = front;
  ended = ended;
}

-- what is agreed on by these flags, before any option
abbrev pub by_flags : ℕ → Agreed
by_flags flags = record { no_zeroes = no_zeroes flags; structured = false }

agreed-messages : (export : Export) (flags : ℕ)
    (options : List ClientOption) (last : Option ClientOption)
    (taken whole front : List ℕ) (ended : Bool) →
    greeting ∷ ([] ++ (answers_to export (by_flags flags) options ++ last_answer export
    (agreed_after (by_flags flags) options) last))
    ≡ messages_of export (agreed flags options last taken whole front ended)
agreed-messages export flags options last taken whole front ended = refl

abbrev pub HasAgreed : Export → Agreed → Moment → Moment → Result Agreed Ending → Type 0
HasAgreed export first a b result =
    (options : List ClientOption) × (last : Option ClientOption) × (taken : List ℕ)
    × (whole : List ℕ) × (front : List ℕ) × (ended : Bool)
    × IfOk result (λ said. said ≡ agreed_after first options)
    × Answers export first 0 a b (course_to result) options last taken whole front ended

still : (options : List ClientOption) → 0 + length options ≡ length options
still options = omega arith

begins-unended : (options : List ClientOption) (last : Option ClientOption) (n : ℕ) (taken : List ℕ)
    (ended : Bool) →
    AreOptions Begins options last n taken ended → AreOptions Begins options last n taken false
begins-unended options None n taken ended are = absurd are.course_is
begins-unended options (Some option) n taken ended are =
    record {
      text = are.text;
      bytes = are.bytes;
      parts = are.parts;
      spells = are.spells;
      course_is =
          are.course_is;
    }

agreed-case : (result : Result Agreed Ending) (flags : ℕ) (options : List ClientOption)
    (last : Option ClientOption)
    (taken whole front : List ℕ) (ended : Bool) → flags < 4 →
    IfOk result (λ said. said ≡ agreed_after (by_flags flags) options) →
    AreOptions (course_to result) options last (0 + length options) taken ended →
    MatchResult result
    (λ said. (said ≡ agreed_after (by_flags flags) options)
    × IsBegun (agreed flags options last taken whole front ended))
    (λ ending. IsUnserved negotiating (agreed flags options last taken whole front ended)
    ending)
agreed-case (Ok said) flags options last taken whole front ended fit is are = (
  is,
  (
    taken,
    record { fit = fit; parts = refl },
    begins-unended options last (length options) taken ended
        (subst (λ (n : ℕ). AreOptions Begins options last n taken ended) (still options) are),
  ),
)
agreed-case (Err ending) flags options last taken whole front ended fit is are = (
  taken,
  record { fit = fit; parts = refl },
  subst (λ (n : ℕ). AreOptions (Ends ending) options last n taken ended) (still options) are,
)

-- the options were answered, up to the last one
pub goes-agreed : (export : Export) (a b : Reach) (m : Moment) (s s' : Outlet) (p p' : ℕ)
    (flags : ClientFlags) (first : Agreed)
    (result : Result Agreed Ending) → HasPut s s' p p' greeting (Ok tt) →
    HasFlagsOf a b (Ok flags) → first ≡ by_flags flags.bits →
    HasAgreed export first (with_sink b s' p') m result →
    HasNegotiated export (with_sink a s p) m result
goes-agreed export a b m s s' p p' flags first result put came is answered =
    let options = answered.0 in
    let last = answered.1 in
    let taken = answered.2 in
    let whole = answered.3 in
    let front = answered.4 in
    let ended = answered.5 in
    let bits = flags.bits in
    let answers = subst (λ z.
    Answers export z 0 (with_sink b s' p') m (course_to result) options last taken whole front
    ended) is answered.7 in
    let before : Talks (with_sink a s p) (with_sink b s' p') None (u32_text bits) (greeting ∷ [])
    greeting [] false =
    subst (λ (w : List ℕ).
    Talks (with_sink a s p) (with_sink b s' p') None (u32_text bits) (greeting ∷ []) w [] false)
    (append-nil greeting)
    (subst (λ (t : List ℕ).
    Talks (with_sink a s p) (with_sink b s' p') None t (greeting ∷ []) (greeting ++ []) []
    false) came.2.by_case.0
    (talks-more _ _ _ None [] came.0 (greeting ∷ []) [] greeting [] [] false
    (talks-put a s s' p p' greeting put)
    (talks-took a b s' p' came.0 came.2.takes came.2.by_case.2))) in
    let talks = subst (λ ms.
    Talks (with_sink a s p) m (ending_in (course_to result)) (u32_text bits ++ taken) ms
    (greeting ++ whole) front ended)
    (agreed-messages export bits options last taken whole front ended)
    (talks-more _ _ _ (ending_in (course_to result)) (u32_text bits) taken (greeting ∷ []) _
    greeting whole front ended before answers.talks) in (
      agreed bits options last taken whole front ended,
      record {
        talks = talks;
        by_case = agreed-case result bits options last taken whole front ended came.2.by_case.1
            (subst (λ z. IfOk result (λ said. said ≡ agreed_after z options)) is answered.6)
            answers.options_are;
      },
    )

-- the greeting that was put
pub greeting-put : (s s' : Outlet) (p p' : ℕ) (bits : ℕ) (text : List ℕ)
    (result : Result (Unit {0}) Failed) → bits ≡ 3 →
    text ≡ greeting_text (record { flags = record { bits = bits } }) →
    HasPut s s' p p' text result → HasPut s s' p p' greeting result
greeting-put s s' p p' bits text result is text_is put =
    subst (λ (t : List ℕ). HasPut s s' p p' t result) (text_is ∙ greeting-is bits is) put

-- a verdict doesn't end a session since the port is spent
verdict-spent : (verdict : Verdict) → course_of verdict ≡ Ends PortSpent → ⊥
verdict-spent Tell is = cc
verdict-spent Names is = cc
verdict-spent Inform is = cc
verdict-spent Agree is = cc
verdict-spent Structure is = cc
verdict-spent (Refuse reply) is = cc
verdict-spent Abort is = cc
verdict-spent Unknown is = cc

-- a session that ended before its requests didn't ask the port
pub unserved-unspent : (stage : Stage) (hand : Handshake) → IsUnserved stage hand PortSpent → ⊥
unserved-unspent greeted hand is = ⊎_elim (λ silent. absurd (cc)) (λ stops. stops) is.3
unserved-unspent negotiating hand is = options-unspent hand.last is.2
  where
    options-unspent : (last : Option ClientOption) →
        AreOptions (Ends PortSpent) hand.options last (length hand.options) is.0 hand.ended → ⊥
    options-unspent None are = are.course_is.0
    options-unspent (Some option) are =
        ⊎_elim (λ by. verdict-spent (verdict_of option.option option.body) by) (λ sink. absurd (cc))
        are.course_is.1
unserved-unspent served hand is = is
