-- What was taken and answered between two moments, joined.
use Rattle.std.proofs.Common.{◌≡◌, ℕ, ◌≤◌, Bool, true, false, List, [], ◌∷◌, ◌++◌, Option, Some}
use Rattle.std.proofs.Common.{None, Result, Ok, Err, length, ap, ◌∙◌, refl, sym, subst, arith}
use Rattle.std.proofs.Common.{append_assoc, append-nil, length-append}
use Rattle.std.specs.Prelude.{MatchOption}
use Rattle.base_terms.specs.declared.failed.Failed.{Failed}
use Rattle.base_terms.specs.Blocks.{joined}
use Rattle.io_edge.specs.Outlet.{Outlet}
use Rattle.nbd_stream.specs.declared.ending.Ending.{Ending}
use Rattle.nbd_stream.specs.declared.ending.Ending.TheVariants.{WriteFault}
use Rattle.nbd_stream.specs.Moments.{Moment, Traffic, Talks, Trouble, calm, source_failed}
use Rattle.nbd_stream.specs.Moments.{sink_failed, trouble_of, NoneRose, RoseBy, HasCauses, GoesOut}
use Rattle.nbd_stream.specs.Moments.{GoesOutBy, last_of}
use Rattle.nbd_stream.specs.Putting.{Puts}
use Rattle.nbd_stream.specs.Taking.{StopsBy}
use Rattle.nbd_stream.specs.Traffic.{Reach, Takes, HasEnded}
use Rattle.nbd_stream.proofs.TrafficLemmas.{rose_earlier, ended_later}
use Rattle.nbd_stream.proofs.MomentLemmas.{with_sink, traffic_none, traffic_took, traffic_puts}
use Rattle.nbd_stream.proofs.MomentLemmas.{traffic_more}

pub joined-append : (xs ys : List (List ℕ)) → joined (xs ++ ys) ≡ joined xs ++ joined ys
unfolding joined
joined-append [] ys = refl
joined-append (x ∷ xs) ys = ap (λ t. x ++ t) (joined-append xs ys)
    ∙ sym (append_assoc x (joined xs) (joined ys))

pub joined-one : (x : List ℕ) → joined (x ∷ []) ≡ x
unfolding joined
joined-one x = append-nil x

-- the last of some messages is that of all where these come last
pub last_of-append : (xs ys : List (List ℕ)) → length (last_of ys) ≤ length (last_of (xs ++ ys))
unfolding last_of
last_of-append [] ys = omega arith
last_of-append (x ∷ []) [] = omega arith
last_of-append (x ∷ []) (y ∷ ys) = omega arith
last_of-append (x ∷ (next ∷ xs)) ys = last_of-append (next ∷ xs) ys

last_of-one : (x : List ℕ) → last_of (x ∷ []) ≡ x
unfolding last_of
last_of-one x = refl

-- nothing was taken or answered
pub talks-none : (m : Moment) → Talks m m None [] [] [] [] false
unfolding joined
talks-none m = record {
  traffic = traffic_none m;
  at_end = λ e. absurd (cc);
  by_case =
      (refl, refl, (refl, refl));
}

-- bytes were taken, and the talk goes on
pub talks-took : (a b : Reach) (s : Outlet) (p : ℕ) (bytes : List ℕ) → Takes a b bytes →
    b.source.faults ≡ a.source.faults →
    Talks (with_sink a s p) (with_sink b s p) None bytes [] [] [] false
unfolding joined
talks-took a b s p bytes takes held = record {
  traffic = traffic_took a b s p bytes takes;
  at_end = λ e. absurd (cc);
  by_case = (refl, refl, (held, refl));
}

stops-out : (f f' : ℕ) (trouble : Trouble) → StopsBy f f' trouble → GoesOutBy trouble [] [] []
unfolding joined
stops-out f f' calm stop = (refl, refl)
stops-out f f' source_failed stop = (refl, refl)
stops-out f f' sink_failed stop = absurd stop

stops-rose : (a b : Moment) (trouble : Trouble) → b.sink.faults ≡ a.sink.faults →
    StopsBy a.source.faults b.source.faults trouble → RoseBy a b trouble
stops-rose a b calm out stop = (stop, out)
stops-rose a b source_failed out stop = (stop, out)
stops-rose a b sink_failed out stop = absurd stop

-- bytes were taken, and the session ended by them
pub talks-stopped : (a b : Reach) (s : Outlet) (p : ℕ) (ending : Ending) (bytes : List ℕ)
    (ended : Bool) → Takes a b bytes →
    (ended ≡ true → HasEnded a.source b.source) →
    StopsBy a.source.faults b.source.faults (trouble_of ending) →
    Talks (with_sink a s p) (with_sink b s p) (Some ending) bytes [] [] [] ended
talks-stopped a b s p ending bytes ended takes at_end stop = record {
  traffic = traffic_took a b s p bytes takes;
  at_end = at_end;
  by_case = (
    stops-out a.source.faults b.source.faults (trouble_of ending) stop,
    stops-rose (with_sink a s p) (with_sink b s p) (trouble_of ending) refl stop,
  );
}

abbrev pub HasPut : Outlet → Outlet → ℕ → ℕ → List ℕ → Result (Unit {0}) Failed → Type 0
HasPut s s' p p' text result = (whole : List ℕ) × (front : List ℕ)
    × Puts {T = Unit {0}} s s' p p' text result whole front

-- a text was put whole
puts-whole : (s s' : Outlet) (p p' : ℕ) (text : List ℕ) → HasPut s s' p p' text (Ok tt) →
    Puts {T = Unit {0}} s s' p p' text (Ok tt) text []
puts-whole s s' p p' text puts =
    subst (λ (front : List ℕ). Puts {T = Unit {0}} s s' p p' text (Ok tt) text front)
    puts.2.by_case.1
    (subst (λ (whole : List ℕ). Puts {T = Unit {0}} s s' p p' text (Ok tt) whole puts.1)
    puts.2.by_case.0 puts.2)

pub talks-put : (a : Reach) (s s' : Outlet) (p p' : ℕ) (text : List ℕ) →
    HasPut s s' p p' text (Ok tt) →
    Talks (with_sink a s p) (with_sink a s' p') None [] (text ∷ []) text [] false
talks-put a s s' p p' text put =
    let puts = puts-whole s s' p p' text put in
    record {
      traffic = traffic_puts a s s' p p' text text [] (Ok tt) puts;
      at_end = λ e. absurd (cc);
      by_case = (sym (joined-one text), refl, (refl, puts.by_case.2));
    }

-- what is behind a front of a text is no longer than the text
rear-within : (front rear text : List ℕ) → text ≡ front ++ rear → length rear ≤ length text
rear-within front rear text is = omega (arith, ap length is, length-append front rear)

-- a text wasn't put whole, and the session ended
pub talks-unput : (a : Reach) (s s' : Outlet) (p p' : ℕ) (text : List ℕ) (e : Failed)
    (put : HasPut s s' p p' text (Err e)) →
    Talks (with_sink a s p) (with_sink a s' p') (Some WriteFault) [] (text ∷ []) put.0 put.1 false
talks-unput a s s' p p' text e put =
    let rest = put.2.by_case.1 in
    record {
      traffic = traffic_puts a s s' p p' text put.0 put.1 (Err e) put.2;
      at_end = λ e. absurd (cc);
      by_case = (
        (
          rest.0,
          joined-one text ∙ rest.1,
          rw (last_of-one text) (rear-within put.0 (put.1 ++ rest.0) text rest.1),
        ),
        (refl, put.2.by_case.0),
      );
    }

rose-none : (a b c : Moment) → NoneRose a b → NoneRose b c → NoneRose a c
rose-none a b c first second = (omega (arith, first.0, second.0), omega (arith, first.1, second.1))

causes-earlier : (a b c : Moment) (trouble : Trouble) → NoneRose a b → RoseBy b c trouble →
    RoseBy a c trouble
causes-earlier a b c calm none causes = rose-none a b c none causes
causes-earlier a b c source_failed none causes = (
  rose_earlier a.source.faults b.source.faults c.source.faults (omega (arith, none.0)) causes.0,
  omega (arith, none.1, causes.1),
)
causes-earlier a b c sink_failed none causes = (
  omega (arith, none.0, causes.0),
  rose_earlier a.sink.faults b.sink.faults c.sink.faults (omega (arith, none.1)) causes.1,
)

out-more : (trouble : Trouble) (first messages : List (List ℕ)) (vs whole front : List ℕ) →
    vs ≡ joined first →
    GoesOutBy trouble messages whole front →
    GoesOutBy trouble (first ++ messages) (vs ++ whole) front
out-more sink_failed first messages vs whole front is out = (
  out.0,
  joined-append first messages ∙ ap (λ t. joined first ++ t) out.1
      ∙ ap (λ v. v ++ (whole ++ (front ++ out.0))) (sym is)
      ∙ sym (append_assoc vs whole (front ++ out.0)),
  omega (arith, out.2, last_of-append first messages),
)
out-more _ first messages vs whole front is out = (
  ap (λ v. v ++ whole) is ∙ ap (λ t. joined first ++ t) out.0 ∙ sym (joined-append first messages),
  out.1,
)

talks-case : (a b c : Moment) (result : Option Ending) (ts us : List ℕ) (ms ns : List (List ℕ))
    (vs ws front : List ℕ) (ended : Bool) →
    Talks a b None ts ms vs [] false → Talks b c result us ns ws front ended →
    MatchOption result ((vs ++ ws ≡ joined (ms ++ ns)) × (front ≡ []) × NoneRose a c)
    (λ ending. GoesOut ending (ms ++ ns) (vs ++ ws) front × HasCauses a c ending)
talks-case a b c None ts us ms ns vs ws front ended first second = (
  ap (λ v. v ++ ws) first.by_case.0 ∙ ap (λ w. joined ms ++ w) second.by_case.0
      ∙ sym (joined-append ms ns),
  second.by_case.1,
  rose-none a b c first.by_case.2 second.by_case.2,
)
talks-case a b c (Some ending) ts us ms ns vs ws front ended first second = (
  out-more (trouble_of ending) ms ns vs ws front first.by_case.0 second.by_case.0,
  causes-earlier a b c (trouble_of ending) first.by_case.2 second.by_case.1,
)

-- one talk, and then another
pub talks-more : (a b c : Moment) (result : Option Ending) (ts us : List ℕ) (ms ns : List (List ℕ))
    (vs ws front : List ℕ) (ended : Bool) →
    Talks a b None ts ms vs [] false → Talks b c result us ns ws front ended →
    Talks a c result (ts ++ us) (ms ++ ns) (vs ++ ws) front ended
talks-more a b c result ts us ms ns vs ws front ended first second = record {
  traffic = traffic_more a b c ts us vs ws front first.traffic second.traffic;
  at_end = λ e. ended_later a.source b.source c.source ts first.traffic.took (second.at_end e);
  by_case = talks-case a b c result ts us ms ns vs ws front ended first second;
}

-- bytes were taken and then answered
pub talks-answered : (a b c : Moment) (result : Option Ending) (ts : List ℕ) (ns : List (List ℕ))
    (ws front : List ℕ) (ended : Bool) →
    Talks a b None ts [] [] [] false → Talks b c result [] ns ws front ended →
    Talks a c result ts ns ws front ended
talks-answered a b c result ts ns ws front ended first second =
    subst (λ (t : List ℕ). Talks a c result t ns ws front ended) (append-nil ts)
    (talks-more a b c result ts [] [] ns [] ws front ended first second)

-- a talk that goes on has put all, and didn't find the end
pub talks-on : (a b : Moment) (ts : List ℕ) (ms : List (List ℕ)) (vs front : List ℕ)
    (ended : Bool) →
    Talks a b None ts ms vs front ended → Talks a b None ts ms vs [] false
talks-on a b ts ms vs front ended talks =
    let whole : Traffic a b ts vs [] =
    subst (λ (f : List ℕ). Traffic a b ts vs f) talks.by_case.1 talks.traffic in
    record {
      traffic = whole;
      at_end = λ e. absurd (cc);
      by_case =
          (talks.by_case.0, refl, talks.by_case.2);
    }

-- a talk that went on is the last of a session
pub talks-enough : (a b : Moment) (ending : Ending) (ts : List ℕ) (ms : List (List ℕ))
    (vs front : List ℕ) → trouble_of ending ≡ calm →
    Talks a b None ts ms vs front false → Talks a b (Some ending) ts ms vs front false
talks-enough a b ending ts ms vs front is talks = record {
  traffic = talks.traffic;
  at_end = talks.at_end;
  by_case = (
    subst (λ (t : Trouble). GoesOutBy t ms vs front) (sym is) (talks.by_case.0, talks.by_case.1),
    subst (λ (t : Trouble). RoseBy a b t) (sym is) talks.by_case.2,
  );
}
