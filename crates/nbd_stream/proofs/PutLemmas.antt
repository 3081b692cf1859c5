-- A text that is put in pieces.
use Rattle.std.proofs.Common.{◌≡◌, ℕ, ◌^◌, ◌≤◌, ◌<◌, List, [], ◌++◌, Option, Some, None, Result, Ok}
use Rattle.std.proofs.Common.{Err, length, take, drop, ap, ◌∙◌, refl, sym, subst, arith}
use Rattle.std.proofs.Common.{append_assoc, append-nil, length-append}
use Rattle.std.proofs.lemmas.List.{take-append-drop}
use Rattle.std.specs.Prelude.{MatchResult}
use Rattle.base_terms.specs.declared.failed.Failed.{Failed}
use Rattle.base_terms.specs.Causes.{Rose}
use Rattle.io_edge.specs.Outlet.{Outlet, PutsPiece}
use Rattle.nbd_stream.specs.Counts.{capped}
use Rattle.nbd_stream.specs.Putting.{Puts}
use Rattle.nbd_stream.specs.Traffic.{Sent}
use Rattle.nbd_stream.proofs.TrafficLemmas.{sent_none, sent_more, rose_earlier}

some_list_same : (xs ys : List ℕ) → Some xs ≡ Some ys → xs ≡ ys
some_list_same xs ys e = cc

failed-front : (h : Option (List ℕ)) (s s' : Outlet) (bytes : List ℕ) (e : Failed) → s.had ≡ h →
    PutsPiece {T = Unit {0}} s s' bytes (Err e) →
    (k : ℕ) × Sent s s' (take k bytes)
failed-front None s s' bytes e is told = (0, λ xs has. absurd (cc))
failed-front (Some had) s s' bytes e is told =
    let t = told had is in (
      t.0,
      λ xs has. t.2 ∙ ap (λ front. Some (front ++ take t.0 bytes))
          (some_list_same had xs (sym is ∙ has)),
    )

-- a piece that the sink refused: a front of it may have gone out
pub puts-failed : (s s' : Outlet) (p : ℕ) (bytes : List ℕ) (e : Failed) →
    PutsPiece {T = Unit {0}} s s' bytes (Err e) →
    s.faults ≤ s'.faults → Rose s.faults s'.faults → p < 2 ^ 64 →
    (whole : List ℕ) × (front : List ℕ) × Puts {T = Unit {0}} s s' p p bytes (Err e) whole front
puts-failed s s' p bytes e told later rose fits =
    let sent = failed-front s.had s s' bytes e refl told in (
      [],
      take sent.0 bytes,
      record {
        sent = sent.1;
        later = later;
        put = omega arith;
        by_case = (rose, (drop sent.0 bytes, sym (take-append-drop sent.0 bytes)));
      },
    )

cases-more : (f f' f'' : ℕ) (first second : List ℕ) (result : Result (Unit {0}) Failed)
    (whole front : List ℕ) →
    f' ≡ f → MatchResult result (λ _. (whole ≡ second) × (front ≡ []) × (f'' ≡ f'))
    (λ _. Rose f' f'' × ((rest : List ℕ) × (second ≡ whole ++ (front ++ rest)))) →
    MatchResult result (λ _. (first ++ whole ≡ first ++ second) × (front ≡ []) × (f'' ≡ f))
    (λ _. Rose f f'' × ((rest : List ℕ) × (first ++ second ≡ (first ++ whole) ++ (front ++ rest))))
cases-more f f' f'' first second (Ok u) whole front held c =
    (ap (λ t. first ++ t) c.0, c.1, omega (arith, c.2))
cases-more f f' f'' first second (Err e) whole front held c = (
  rose_earlier f f' f'' (omega arith) c.0,
  (c.1.0, ap (λ t. first ++ t) c.1.1 ∙ sym (append_assoc first whole (front ++ c.1.0))),
)

-- the first part of a text went out whole, and then this of the second part
pub puts-more : (s s' s'' : Outlet) (p p' p'' : ℕ) (first second : List ℕ)
    (result : Result (Unit {0}) Failed) →
    ((whole : List ℕ) × (front : List ℕ)
    × Puts {T = Unit {0}} s s' p p' first (Ok tt) whole front) →
    ((whole : List ℕ) × (front : List ℕ) × Puts s' s'' p' p'' second result whole front) →
    (whole : List ℕ) × (front : List ℕ) × Puts s s'' p p'' (first ++ second) result whole front
puts-more s s' s'' p p' p'' first second result a b =
    let sent : Sent s s' first = subst (λ (bytes : List ℕ). Sent s s' bytes)
    (ap (λ w. w ++ a.1) a.2.by_case.0 ∙ ap (λ e. first ++ e) a.2.by_case.1 ∙ append-nil first)
    a.2.sent in
    let both : Sent s s'' ((first ++ b.0) ++ b.1) =
    subst (λ (bytes : List ℕ). Sent s s'' bytes) (sym (append_assoc first b.0 b.1))
    (sent_more s s' s'' first (b.0 ++ b.1) sent b.2.sent) in
    let len : length a.0 ≡ length first = ap length a.2.by_case.0 in (
      first ++ b.0,
      b.1,
      record {
        sent = both;
        later = omega (arith, a.2.later, b.2.later);
        put = omega (arith, a.2.put, b.2.put, length-append first b.0);
        by_case = cases-more s.faults s'.faults s''.faults first second result b.0 b.1 a.2.by_case.2
            b.2.by_case;
      },
    )

-- the first part of a text didn't go out whole
pub puts-less : (s s' : Outlet) (p p' : ℕ) (first second : List ℕ) (e : Failed) →
    ((whole : List ℕ) × (front : List ℕ)
    × Puts {T = Unit {0}} s s' p p' first (Err e) whole front) →
    (whole : List ℕ) × (front : List ℕ)
    × Puts {T = Unit {0}} s s' p p' (first ++ second) (Err e) whole front
puts-less s s' p p' first second e a =
    let rest = a.2.by_case.1 in (
      a.0,
      a.1,
      record {
        sent = a.2.sent;
        later = a.2.later;
        put = a.2.put;
        by_case = (
          a.2.by_case.0,
          (
            rest.0 ++ second,
            ap (λ t. t ++ second) rest.1 ∙ append_assoc a.0 (a.1 ++ rest.0) second
                ∙ ap (λ t. a.0 ++ t) (append_assoc a.1 rest.0 second),
          ),
        );
      },
    )

-- a text that reads otherwise
pub puts-as : (s s' : Outlet) (p p' : ℕ) (text text' : List ℕ) (result : Result (Unit {0}) Failed) →
    text ≡ text' →
    ((whole : List ℕ) × (front : List ℕ) × Puts {T = Unit {0}} s s' p p' text result whole front) →
    (whole : List ℕ) × (front : List ℕ) × Puts {T = Unit {0}} s s' p p' text' result whole front
puts-as s s' p p' text text' result same puts =
    subst (λ (t : List ℕ). (whole : List ℕ) × (front : List ℕ)
    × Puts {T = Unit {0}} s s' p p' t result whole front) same puts

-- nothing was put
pub puts-nothing : (s : Outlet) (p : ℕ) →
    (whole : List ℕ) × (front : List ℕ) × Puts {T = Unit {0}} s s p p [] (Ok tt) whole front
puts-nothing s p = (
  [],
  [],
  record {
    sent = sent_none s;
    later = omega arith;
    put = ap capped (omega arith);
    by_case = (refl, refl, refl);
  },
)
