-- Options that were answered, joined.
use Rattle.std.proofs.Common.{◌≡◌, ℕ, ◌+◌, ◌<◌, Bool, true, false, List, [], ◌∷◌, ◌++◌, Option}
use Rattle.std.proofs.Common.{Some, None, Ok, Err, length, ap, ◌∙◌, refl, sym, subst, arith, inl}
use Rattle.std.proofs.Common.{inr, append_assoc, append-nil, length-append}
use Rattle.base_terms.specs.declared.failed.Failed.{Failed}
use Rattle.io_edge.specs.Outlet.{Outlet}
use Rattle.nbd_stream.specs.declared.ending.Ending.{Ending}
use Rattle.nbd_stream.specs.declared.ending.Ending.TheVariants.{Aborted, UnknownExport, TooMany}
use Rattle.nbd_stream.specs.declared.ending.Ending.TheVariants.{WriteFault}
use Rattle.nbd_hand.specs.declared.export.Export.{Export}
use Rattle.nbd_hand.specs.declared.options.ClientOption.{ClientOption}
use Rattle.nbd_hand.specs.declared.options.Course.{Course}
use Rattle.nbd_hand.specs.declared.options.Course.TheVariants.{GoesOn, Begins, Ends}
use Rattle.nbd_hand.specs.declared.options.Verdict.{Verdict}
use Rattle.nbd_hand.specs.declared.options.Verdict.TheVariants as Verdicts
use Rattle.nbd_stream.specs.Endings.{IsCount}
use Rattle.nbd_hand.specs.Grammar.{IsOption, StopsOptions, EndsOptions, SpellsOptions, CourseIs}
use Rattle.nbd_hand.specs.declared.negotiation.Agreed.{Agreed}
use Rattle.nbd_hand.specs.Grammar.{agreed_after, course_after, answers_to, last_answer}
use Rattle.nbd_stream.specs.Moments.{Moment, Talks, trouble_of, calm}
use Rattle.nbd_hand.specs.Negotiation.{Answers, ending_in}
use Rattle.nbd_hand.specs.Options.{agreed_by, verdict_of, course_of, answer_of}
use Rattle.nbd_hand.specs.Taking.{OptionIs}
use Rattle.nbd_stream.specs.Traffic.{Reach}
use Rattle.nbd_stream.proofs.MomentLemmas.{with_sink}
use Rattle.nbd_stream.proofs.TalkLemmas.{HasPut, talks-none, talks-took, talks-stopped, talks-put}
use Rattle.nbd_stream.proofs.TalkLemmas.{talks-unput, talks-more, talks-answered, talks-on}
use Rattle.nbd_stream.proofs.TalkLemmas.{talks-enough}

-- what the source brings is an end of the options
stops-end : (ending : Ending) (ended : Bool) (bytes : List ℕ) → StopsOptions ending ended bytes →
    EndsOptions ending ended bytes
stops-end (TooMany m) ended bytes stops = absurd stops
stops-end WriteFault ended bytes stops = absurd stops
stops-end _ ended bytes stops = stops

stops-count : (ending : Ending) (ended : Bool) (bytes : List ℕ) (n : ℕ) →
    StopsOptions ending ended bytes → n < 65536 → IsCount 65536 ending n
stops-count (TooMany m) ended bytes n stops fewer = absurd stops
stops-count WriteFault ended bytes n stops fewer = absurd stops
stops-count _ ended bytes n stops fewer = fewer

-- options were answered, of which what was agreed on before became this
abbrev pub HasAnswered : Export → Agreed → Agreed → Moment → Moment → Course → Type 0
HasAnswered export agreed next a b course =
    (options : List ClientOption) × (last : Option ClientOption) × (taken : List ℕ)
    × (whole : List ℕ) × (front : List ℕ) × (ended : Bool)
    × (course ≡ GoesOn → length options ≡ 1)
    × (next ≡ agreed_after agreed options)
    × ((n : ℕ) → n < 65536 →
    Answers export agreed n a b course options last taken whole front ended)

-- the session ended where an option was to come
pub answers-stop : (export : Export) (agreed : Agreed) (a b : Reach) (s : Outlet) (p : ℕ)
    (ending : Ending) →
    ((bytes : List ℕ) × (ended : Bool) × OptionIs a b (Err ending) bytes ended) →
    HasAnswered export agreed agreed (with_sink a s p) (with_sink b s p) (Ends ending)
unfolding SpellsOptions answers_to agreed_after
answers-stop export agreed a b s p ending next = (
  [],
  None,
  next.0,
  [],
  [],
  next.1,
  (λ e. absurd (cc)),
  refl,
  λ n fewer. record {
    talks = talks-stopped a b s p ending next.0 next.1 next.2.takes next.2.at_end next.2.by_case.0;
    options_are = record {
      text = [];
      bytes = next.0;
      parts = refl;
      spells = refl;
      course_is = (
        stops-end ending next.1 next.0 next.2.by_case.1,
        stops-count ending next.1 next.0 (n + 0) next.2.by_case.1 (omega arith),
      );
    };
  },
)

spells-one : (option : ClientOption) (bytes : List ℕ) → IsOption bytes option.option option.body →
    course_after option ≡ GoesOn → SpellsOptions (option ∷ []) bytes
unfolding SpellsOptions
spells-one option bytes is goes_on = (bytes, [], sym (append-nil bytes), is, goes_on, refl)

spells-none : SpellsOptions [] []
unfolding SpellsOptions
spells-none = refl

-- the answer of one option, also of the last one
answer-one : (export : Export) (agreed : Agreed) (option : ClientOption) (verdict : Verdict) →
    verdict ≡ verdict_of option.option option.body →
    answer_of export agreed option.option verdict ∷ [] ≡ answers_to export agreed
    (option ∷ [])
unfolding answers_to
answer-one export agreed option verdict is =
    ap (λ v. answer_of export agreed option.option v ∷ []) is

answer-first : (export : Export) (agreed : Agreed) (option : ClientOption) →
    answers_to export agreed (option ∷ []) ≡ answers_to export agreed (option ∷ [])
    ++ last_answer export (agreed_after agreed (option ∷ [])) None
answer-first export agreed option = sym (append-nil (answers_to export agreed (option ∷ [])))

answer-last : (export : Export) (agreed : Agreed) (option : ClientOption) →
    answers_to export agreed (option ∷ []) ≡ answers_to export agreed []
    ++ last_answer export (agreed_after agreed []) (Some option)
unfolding answers_to agreed_after
answer-last export agreed option = refl

-- an option came, and its answer was put or not
pub record OptionTalks (export : Export) (agreed : Agreed) (a b : Moment) (option : ClientOption)
    (result : Option Ending) : Type 0 where
  pub taken : List ℕ
  pub whole : List ℕ
  pub front : List ℕ
  pub is : IsOption taken option.option option.body
  pub talks : Talks a b result taken (answers_to export agreed (option ∷ [])) whole front false

-- the negotiation goes on behind it, or doesn't since its answer didn't go out
goes-on : (export : Export) (agreed next : Agreed) (a b : Moment) (option : ClientOption) →
    course_after option ≡ GoesOn → next ≡ agreed_after agreed (option ∷ []) →
    OptionTalks export agreed a b option None → HasAnswered export agreed next a b GoesOn
goes-on export agreed next a b option goes changes talk = (
  option ∷ [],
  None,
  talk.taken,
  talk.whole,
  talk.front,
  false,
  (λ e. refl),
  changes,
  λ n fewer. record {
    talks = subst (λ ms. Talks a b None talk.taken ms talk.whole talk.front false)
        (answer-first export agreed option) talk.talks;
    options_are = record {
      text = talk.taken;
      bytes = [];
      parts = sym (append-nil talk.taken);
      spells = spells-one option talk.taken talk.is goes;
      course_is = refl;
    };
  },
)

goes-no_further : (export : Export) (agreed next : Agreed) (a b : Moment) (option : ClientOption) →
    course_after option ≡ GoesOn → next ≡ agreed_after agreed (option ∷ []) →
    OptionTalks export agreed a b option (Some WriteFault) →
    HasAnswered export agreed next a b (Ends WriteFault)
goes-no_further export agreed next a b option goes changes talk = (
  option ∷ [],
  None,
  talk.taken,
  talk.whole,
  talk.front,
  false,
  (λ e. absurd (cc)),
  changes,
  λ n fewer. record {
    talks = subst (λ ms. Talks a b (Some WriteFault) talk.taken ms talk.whole talk.front false)
        (answer-first export agreed option) talk.talks;
    options_are = record {
      text = talk.taken;
      bytes = [];
      parts = sym (append-nil talk.taken);
      spells = spells-one option talk.taken talk.is goes;
      course_is = (refl, (omega arith, omega arith));
    };
  },
)

-- the option is the last one
comes-last : (export : Export) (agreed next : Agreed) (a b : Moment) (option : ClientOption)
    (course : Course) → (course ≡ GoesOn → ⊥) → next ≡ agreed →
    (talk : OptionTalks export agreed a b option (ending_in course)) →
    ((n : ℕ) → n < 65536 → CourseIs course (Some option) n false talk.taken) →
    HasAnswered export agreed next a b course
unfolding agreed_after
comes-last export agreed next a b option course other stays talk is = (
  [],
  Some option,
  talk.taken,
  talk.whole,
  talk.front,
  false,
  (λ e. absurd (other e)),
  stays,
  λ n fewer. record {
    talks = subst (λ ms. Talks a b (ending_in course) talk.taken ms talk.whole talk.front false)
        (answer-last export agreed option) talk.talks;
    options_are = record {
      text = [];
      bytes = talk.taken;
      parts = refl;
      spells = spells-none;
      course_is = is (n + 0) (omega arith);
    };
  },
)

enough : (export : Export) (agreed : Agreed) (a b : Moment) (option : ClientOption)
    (ending : Ending) → trouble_of ending ≡ calm →
    OptionTalks export agreed a b option None →
    OptionTalks export agreed a b option (Some ending)
enough export agreed a b option ending calm_is talk = record {
  taken = talk.taken;
  whole = talk.whole;
  front = talk.front;
  is = talk.is;
  talks = talks-enough a b ending talk.taken _ talk.whole talk.front calm_is talk.talks;
}

-- an option's answer was put
answered-by : (export : Export) (agreed next : Agreed) (a b : Moment) (option : ClientOption)
    (verdict : Verdict) → next ≡ agreed_by verdict agreed →
    next ≡ agreed_after agreed (option ∷ []) → course_of verdict ≡ course_after option →
    OptionTalks export agreed a b option None →
    HasAnswered export agreed next a b (course_of verdict)
answered-by export agreed next a b option Verdicts.Tell by changes is talk =
    comes-last export agreed next a b option Begins (λ e. absurd (cc)) by talk
    (λ n fewer. (talk.is, sym is, fewer))
answered-by export agreed next a b option Verdicts.Names by changes is talk =
    goes-on export agreed next a b option (sym is) changes talk
answered-by export agreed next a b option Verdicts.Inform by changes is talk =
    goes-on export agreed next a b option (sym is) changes talk
answered-by export agreed next a b option Verdicts.Agree by changes is talk =
    comes-last export agreed next a b option Begins (λ e. absurd (cc)) by talk
    (λ n fewer. (talk.is, sym is, fewer))
answered-by export agreed next a b option Verdicts.Structure by changes is talk =
    goes-on export agreed next a b option (sym is) changes talk
answered-by export agreed next a b option (Verdicts.Refuse reply) by changes is talk =
    goes-on export agreed next a b option (sym is) changes talk
answered-by export agreed next a b option Verdicts.Abort by changes is talk =
    let all = enough export agreed a b option Aborted refl talk in
    comes-last export agreed next a b option (Ends Aborted) (λ e. absurd (cc)) by all
    (λ n fewer. (all.is, inl (sym is), fewer))
answered-by export agreed next a b option Verdicts.Unknown by changes is talk =
    let all = enough export agreed a b option UnknownExport refl talk in
    comes-last export agreed next a b option (Ends UnknownExport) (λ e. absurd (cc)) by all
    (λ n fewer. (all.is, inl (sym is), fewer))

-- an option's answer didn't go out
unanswered-by : (export : Export) (agreed next : Agreed) (a b : Moment) (option : ClientOption)
    (verdict : Verdict) → next ≡ agreed_by verdict agreed →
    next ≡ agreed_after agreed (option ∷ []) → course_of verdict ≡ course_after option →
    (verdict ≡ Verdicts.Unknown → ⊥) →
    OptionTalks export agreed a b option (Some WriteFault) →
    HasAnswered export agreed next a b (Ends WriteFault)
unanswered-by export agreed next a b option Verdicts.Tell by changes is known talk =
    comes-last export agreed next a b option (Ends WriteFault) (λ e. absurd (cc)) by talk
    (λ n fewer. (talk.is, inr (refl, inl (sym is)), fewer))
unanswered-by export agreed next a b option Verdicts.Names by changes is known talk =
    goes-no_further export agreed next a b option (sym is) changes talk
unanswered-by export agreed next a b option Verdicts.Inform by changes is known talk =
    goes-no_further export agreed next a b option (sym is) changes talk
unanswered-by export agreed next a b option Verdicts.Agree by changes is known talk =
    comes-last export agreed next a b option (Ends WriteFault) (λ e. absurd (cc)) by talk
    (λ n fewer. (talk.is, inr (refl, inl (sym is)), fewer))
unanswered-by export agreed next a b option Verdicts.Structure by changes is known talk =
    goes-no_further export agreed next a b option (sym is) changes talk
unanswered-by export agreed next a b option (Verdicts.Refuse reply) by changes is known talk =
    goes-no_further export agreed next a b option (sym is) changes talk
unanswered-by export agreed next a b option Verdicts.Abort by changes is known talk =
    comes-last export agreed next a b option (Ends WriteFault) (λ e. absurd (cc)) by talk
    (λ n fewer. (talk.is, inr (refl, inr (sym is)), fewer))
unanswered-by export agreed next a b option Verdicts.Unknown by changes is known talk =
    absurd (known refl)

-- an option was taken
option-took : (a b : Reach) (s : Outlet) (p : ℕ) (option : ClientOption) (bytes : List ℕ)
    (ended : Bool) →
    OptionIs a b (Ok option) bytes ended →
    Talks (with_sink a s p) (with_sink b s p) None bytes [] [] [] false
option-took a b s p option bytes ended is = talks-took a b s p bytes is.takes is.by_case.1

differ : false ≡ true → ⊥
differ is = absurd (cc)

abbrev pub HasTaken : Reach → Reach → ClientOption → Type 0
HasTaken a b option = (bytes : List ℕ) × (ended : Bool) × OptionIs a b (Ok option) bytes ended

-- what becomes of what was agreed on is told by the option
agreed-so : (agreed next : Agreed) (option : ClientOption) (verdict : Verdict) →
    next ≡ agreed_by verdict agreed → verdict ≡ verdict_of option.option option.body →
    next ≡ agreed_after agreed (option ∷ [])
unfolding agreed_after
agreed-so agreed next option verdict by is = by ∙ ap (λ v. agreed_by v agreed) is

pub answered : (export : Export) (agreed after : Agreed) (a b : Reach) (s s' : Outlet) (p p' : ℕ)
    (option : ClientOption) (verdict : Verdict) → after ≡ agreed_by verdict agreed →
    HasTaken a b option → verdict ≡ verdict_of option.option option.body →
    HasPut s s' p p' (answer_of export agreed option.option verdict) (Ok tt) →
    HasAnswered export agreed after (with_sink a s p) (with_sink b s' p') (course_of verdict)
answered export agreed after a b s s' p p' option verdict by next is put =
    answered-by export agreed after _ _ option verdict by
    (agreed-so agreed after option verdict by is) (ap course_of is) (record {
      taken = next.0;
      whole = answer_of export agreed option.option verdict;
      front = [];
      is = next.2.by_case.0;
      talks = subst (λ ms. Talks (with_sink a s p) (with_sink b s' p') None next.0 ms
          (answer_of export agreed option.option verdict) [] false)
          (answer-one export agreed option verdict is)
          (talks-answered _ _ _ None next.0 _ _ [] false
          (option-took a b s p option next.0 next.1 next.2) (talks-put b s s' p p' _ put));
    })

pub unanswered : (export : Export) (agreed after : Agreed) (a b : Reach) (s s' : Outlet) (p p' : ℕ)
    (option : ClientOption) (verdict : Verdict) (e : Failed) → after ≡ agreed_by verdict agreed →
    HasTaken a b option → verdict ≡ verdict_of option.option option.body →
    (verdict ≡ Verdicts.Unknown → false ≡ true) →
    HasPut s s' p p' (answer_of export agreed option.option verdict) (Err e) →
    HasAnswered export agreed after (with_sink a s p) (with_sink b s' p') (Ends WriteFault)
unanswered export agreed after a b s s' p p' option verdict e by next is known put =
    unanswered-by export agreed after _ _ option verdict by
    (agreed-so agreed after option verdict by is) (ap course_of is) (λ u. differ (known u))
    (record {
      taken = next.0;
      whole = put.0;
      front = put.1;
      is = next.2.by_case.0;
      talks = subst (λ ms. Talks (with_sink a s p) (with_sink b s' p') (Some WriteFault) next.0 ms
          put.0 put.1 false)
          (answer-one export agreed option verdict is)
          (talks-answered _ _ _ (Some WriteFault) next.0 _ _ put.1 false
          (option-took a b s p option next.0 next.1 next.2) (talks-unput b s s' p p' _ e put));
    })

answers_to-append : (export : Export) (agreed : Agreed) (xs ys : List ClientOption) →
    answers_to export agreed (xs ++ ys) ≡ answers_to export agreed xs
    ++ answers_to export (agreed_after agreed xs) ys
unfolding answers_to agreed_after
answers_to-append export agreed [] ys = refl
answers_to-append export agreed (x ∷ xs) ys =
    ap (λ t. answer_of export agreed x.option (verdict_of x.option x.body) ∷ t)
    (answers_to-append export (agreed_by (verdict_of x.option x.body) agreed) xs ys)

pub agreed_after-append : (agreed : Agreed) (xs ys : List ClientOption) →
    agreed_after (agreed_after agreed xs) ys ≡ agreed_after agreed (xs ++ ys)
unfolding agreed_after
agreed_after-append agreed [] ys = refl
agreed_after-append agreed (x ∷ xs) ys =
    agreed_after-append (agreed_by (verdict_of x.option x.body) agreed) xs ys

pub agreed_after-none : (agreed : Agreed) → agreed ≡ agreed_after agreed []
unfolding agreed_after
agreed_after-none agreed = refl

SpellsOptions-append : (xs ys : List ClientOption) (a b : List ℕ) → SpellsOptions xs a →
    SpellsOptions ys b → SpellsOptions (xs ++ ys) (a ++ b)
unfolding SpellsOptions
SpellsOptions-append [] ys a b first second =
    subst (λ (bytes : List ℕ). SpellsOptions ys bytes) (sym (ap (λ x. x ++ b) first)) second
SpellsOptions-append (x ∷ xs) ys a b first second = (
  first.0,
  first.1 ++ b,
  ap (λ t. t ++ b) first.2 ∙ append_assoc first.0 first.1 b,
  first.3,
  first.4,
  SpellsOptions-append xs ys first.1 b first.5 second,
)

-- nothing was answered yet
pub answers-none : (export : Export) (agreed : Agreed) (m : Moment) →
    Answers export agreed 0 m m GoesOn [] None [] [] [] false
unfolding answers_to
answers-none export agreed m = record {
  talks = talks-none m;
  options_are = record {
    text = [];
    bytes = [];
    parts = refl;
    spells = spells-none;
    course_is =
        refl;
  };
}

-- options were answered, and then others
pub answers-more : (export : Export) (agreed : Agreed) (a b c : Moment) (course : Course) (k : ℕ)
    (xs ys : List ClientOption) (last : Option ClientOption)
    (ts us vs ws front : List ℕ) (ended : Bool) →
    Answers export agreed 0 a b GoesOn xs None ts vs [] false → k ≡ length xs →
    Answers export (agreed_after agreed xs) k b c course ys last us ws front ended →
    Answers export agreed 0 a c course (xs ++ ys) last (ts ++ us) (vs ++ ws) front ended
answers-more export agreed a b c course k xs ys last ts us vs ws front ended first is second =
    let o = first.options_are in
    let p = second.options_are in
    let text : ts ≡ o.text = o.parts ∙ ap (λ x. o.text ++ x) o.course_is ∙ append-nil o.text in
    let middle = agreed_after agreed xs in
    let answer = last_answer export (agreed_after middle ys) last in
    let said : (answers_to export agreed xs ++ last_answer export middle None)
    ++ (answers_to export middle ys ++ answer) ≡ answers_to export agreed (xs ++ ys)
    ++ last_answer export (agreed_after agreed (xs ++ ys)) last =
    ap (λ x. x ++ (answers_to export middle ys ++ answer))
    (append-nil (answers_to export agreed xs))
    ∙ sym (append_assoc (answers_to export agreed xs) (answers_to export middle ys) answer)
    ∙ ap (λ x. x ++ answer) (sym (answers_to-append export agreed xs ys))
    ∙ ap (λ y. answers_to export agreed (xs ++ ys) ++ last_answer export y last)
    (agreed_after-append agreed xs ys) in
    let count : k + length ys ≡ 0 + length (xs ++ ys) = omega (arith, length-append xs ys, is) in
    record {
      talks = subst (λ ms. Talks a c (ending_in course) (ts ++ us) ms (vs ++ ws) front ended) said
          (talks-more a b c (ending_in course) ts us _ _ vs ws front ended first.talks
          second.talks);
      options_are = record {
        text = ts ++ p.text;
        bytes = p.bytes;
        parts = ap (λ x. ts ++ x) p.parts ∙ sym (append_assoc ts p.text p.bytes);
        spells = SpellsOptions-append xs ys ts p.text
            (subst (λ (x : List ℕ). SpellsOptions xs x) (sym text) o.spells) p.spells;
        course_is = subst (λ (n : ℕ). CourseIs course last n ended p.bytes) count p.course_is;
      };
    }

last-none : (last : Option ClientOption) (n : ℕ) (ended : Bool) (bytes : List ℕ) →
    CourseIs GoesOn last n ended bytes → (last ≡ None) × (bytes ≡ [])
last-none None n ended bytes is = (refl, is)
last-none (Some option) n ended bytes is = absurd is

-- and the negotiation goes on
pub answers-on : (export : Export) (agreed : Agreed) (a b : Moment) (n : ℕ)
    (xs : List ClientOption) (last : Option ClientOption) (ts vs front : List ℕ) (ended : Bool) →
    Answers export agreed n a b GoesOn xs last ts vs front ended →
    Answers export agreed n a b GoesOn xs None ts vs [] false
answers-on export agreed a b n xs last ts vs front ended answers =
    let o = answers.options_are in
    let none = last-none last (n + length xs) ended o.bytes o.course_is in
    record {
      talks = subst (λ l. Talks a b None ts
          (answers_to export agreed xs ++ last_answer export (agreed_after agreed xs) l) vs []
          false) none.0
          (talks-on a b ts _ vs front ended answers.talks);
      options_are = record {
        text = o.text;
        bytes = o.bytes;
        parts = o.parts;
        spells = o.spells;
        course_is = none.1;
      };
    }

-- the most options were answered
pub answers-too_many : (export : Export) (agreed : Agreed) (a b : Moment) (xs : List ClientOption)
    (ts vs : List ℕ) →
    Answers export agreed 0 a b GoesOn xs None ts vs [] false → length xs ≡ 65536 →
    Answers export agreed 0 a b (Ends (TooMany 65536)) xs None ts vs [] false
answers-too_many export agreed a b xs ts vs answers count =
    let o = answers.options_are in
    record {
      talks = talks-enough a b (TooMany 65536) ts _ vs [] refl answers.talks;
      options_are = record {
        text = o.text;
        bytes = o.bytes;
        parts = o.parts;
        spells = o.spells;
        course_is = (o.course_is, (omega arith, omega arith));
      };
    }
