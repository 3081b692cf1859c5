-- The chunks of a reply, put one behind the other.
use Rattle.std.proofs.Common.{◌≡◌, ℕ, List, [], ◌∷◌, ◌++◌, Result, Ok, Err, length, ap, ◌∙◌, refl}
use Rattle.std.proofs.Common.{sym, arith, append_assoc, append-nil}
use Rattle.std.proofs.lemmas.List.{nil_from_length}
use Rattle.base_terms.specs.declared.failed.Failed.{Failed}
use Rattle.base_terms.specs.Causes.{HasCause}
use Rattle.io_edge.specs.Outlet.{Outlet}
use Rattle.nbd_wire.specs.ReadReplying.Parts.{Part, part_text, parts_text}
use Rattle.nbd_stream.specs.Putting.{Puts}
use Rattle.nbd_stream.proofs.TrafficLemmas.{rose_earlier}

pub parts-none : (cookie : ℕ) → [] ≡ parts_text cookie []
unfolding parts_text
parts-none cookie = refl

-- a text and the chunks that are left are all of it, also once the first of these was put
pub parts-next : (cookie : ℕ) (text all : List ℕ) (part : Part) (left parts : List Part) →
    left ≡ part ∷ parts → text ++ parts_text cookie left ≡ all →
    (text ++ part_text cookie part) ++ parts_text cookie parts ≡ all
unfolding parts_text
parts-next cookie text all part left parts first whole =
    append_assoc text (part_text cookie part) (parts_text cookie parts)
    ∙ ap (λ (ps : List Part). text ++ parts_text cookie ps) (sym first) ∙ whole

pub parts-over : (cookie : ℕ) (text all : List ℕ) (left : List Part) → left ≡ [] →
    text ++ parts_text cookie left ≡ all → text ≡ all
unfolding parts_text
parts-over cookie text all left none whole =
    sym (append-nil text) ∙ ap (λ (ps : List Part). text ++ parts_text cookie ps) (sym none) ∙ whole

-- the front of a chunk without bytes is its text
pub front-bare : (front bytes text : List ℕ) → length bytes ≡ 0 → front ++ bytes ≡ text →
    front ≡ text
front-bare front bytes text none whole =
    sym (ap (λ b. front ++ b) (nil_from_length bytes none) ∙ append-nil front) ∙ whole

-- all of a text was put, and then let out or not
pub puts-let_out : (s s' s'' : Outlet) (p p' : ℕ) (text : List ℕ)
    (result : Result (Unit {0}) Failed) →
    ((whole : List ℕ) × (front : List ℕ)
    × Puts {T = Unit {0}} s s' p p' text (Ok tt) whole front) →
    s''.had ≡ s'.had → HasCause s'.faults s''.faults result →
    (whole : List ℕ) × (front : List ℕ) × Puts s s'' p p' text result whole front
puts-let_out s s' s'' p p' text (Ok u) a had cause = (
  a.0,
  a.1,
  record {
    sent = λ xs has. had ∙ a.2.sent xs has;
    later = omega (arith, a.2.later, cause.later);
    put = a.2.put;
    by_case = (a.2.by_case.0, a.2.by_case.1, cause.held refl ∙ a.2.by_case.2);
  },
)
puts-let_out s s' s'' p p' text (Err e) a had cause = (
  a.0,
  a.1,
  record {
    sent = λ xs has. had ∙ a.2.sent xs has;
    later = omega (arith, a.2.later, cause.later);
    put = a.2.put;
    by_case = (
      rose_earlier s.faults s'.faults s''.faults a.2.later (cause.failed refl),
      (
        [],
        sym a.2.by_case.0 ∙ sym (ap (λ f. a.0 ++ f) (append-nil a.1 ∙ a.2.by_case.1)
            ∙ append-nil a.0),
      ),
    );
  },
)
