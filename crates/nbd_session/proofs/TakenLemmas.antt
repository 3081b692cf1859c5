-- A request of which head and data were taken one after the other.
use Rattle.std.proofs.Common.{◌≡◌, ℕ, ◌+◌, ◌<◌, Bool, true, false, nat_lt, if◌then◌else◌, List}
use Rattle.std.proofs.Common.{◌++◌, Option, Some, None, length, ap, ◌∙◌, refl, sym, subst, arith}
use Rattle.std.proofs.Common.{inr, length-append}
use Rattle.base_terms.specs.Causes.{Rose}
use Rattle.base_terms.specs.ErrorNumbers.{invalid, no_memory}
use Rattle.plain_disk.specs.declared.operation.Op.{Op}
use Rattle.nbd_stream.specs.declared.ending.Ending.{Ending}
use Rattle.nbd_stream.specs.declared.ending.Ending.TheVariants.{Truncated, TooLong, ReadFault}
use Rattle.nbd_stream.specs.declared.filling.Filled.TheVariants as Fillings
use Rattle.nbd_stream.specs.declared.taking.Data.TheVariants.{Whole}
use Rattle.nbd_stream.specs.Moments.{calm, trouble_of}
use Rattle.nbd_stream.specs.Taking.{StopsBy, TakesUpTo}
use Rattle.nbd_stream.specs.Traffic.{Reach, Takes, HasEnded}
use Rattle.nbd_stream.proofs.HeadLemmas.{takes_more, HeadTaken, rear-ended, HasData}
use Rattle.nbd_session.specs.declared.forms.Form.{Form}
use Rattle.nbd_session.specs.declared.requests.Next.{Next}
use Rattle.nbd_session.specs.declared.requests.Next.TheVariants.{Ask, Refuse, Stop}
use Rattle.nbd_session.specs.Forms.{form_of}
use Rattle.nbd_session.specs.Grammar.{StopsRequests}
use Rattle.nbd_session.specs.Requests.{ending_by, ending_of, data_length, data_length_by}
use Rattle.nbd_session.specs.Requests.{operation_of, operation_by, IsMessage, IsLastHead, IsRefusal}
use Rattle.nbd_session.specs.Taking.{NextCase, NextIs, BehindHead}
use Rattle.nbd_wire.specs.declared.requests.CommandType.{CommandType}
use Rattle.nbd_wire.specs.declared.requests.CommandType.TheVariants.{Read, Write, Disc, Flush}
use Rattle.nbd_wire.specs.declared.requests.RequestHead.{RequestHead}
use Rattle.nbd_wire.specs.Requests.{IsRequestHead, are_allowed, request_text}
use Rattle.nbd_wire.proofs.RequestLemmas.{request-size}

next-earlier : (structured : Bool) (a b c : Reach) (result : Next) (bytes : List ℕ) (ended : Bool) →
    b.source.faults ≡ a.source.faults →
    NextCase structured b c result bytes ended → NextCase structured a c result bytes ended
next-earlier structured a b c (Ask cookie form op) bytes ended held is = (is.0, is.1 ∙ held)
next-earlier structured a b c (Refuse cookie form number) bytes ended held is =
    (is.0, is.1, is.2, is.3 ∙ held)
next-earlier structured a b c (Stop ending) bytes ended held is =
    (subst (λ (f : ℕ). StopsBy f c.source.faults (trouble_of ending)) held is.0, is.1)

-- a request's head, and then what is behind it
pub next-joined : (structured : Bool) (a b c : Reach) (head : RequestHead) (result : Next) →
    HeadTaken a b (request_text head) →
    ((body : List ℕ) × (ended : Bool) × BehindHead structured head b c result body ended) →
    (bytes : List ℕ) × (ended : Bool) × NextIs structured a c result bytes ended
next-joined structured a b c head result taken more = (
  request_text head ++ more.0,
  more.1,
  record {
    takes = takes_more a b c (request_text head) more.0 taken.takes more.2.takes;
    at_end = λ e. rear-ended a b c (request_text head) taken (more.2.at_end e);
    by_case = next-earlier structured a b c result (request_text head ++ more.0) more.1 taken.held
        more.2.by_case;
  },
)

some-same : (x y : Ending) → Some x ≡ Some y → x ≡ y
some-same x y is = cc

write-stops : (long : Bool) (len : ℕ) (ending : Ending) →
    (if long then Some (TooLong len) else None) ≡ Some ending →
    (trouble_of ending ≡ calm)
    × ((bytes : List ℕ) → IsLastHead bytes ending → StopsRequests ending false bytes)
write-stops true len ending brings =
    subst (λ e. (trouble_of e ≡ calm)
    × ((bytes : List ℕ) → IsLastHead bytes e → StopsRequests e false bytes)) (some-same _ _ brings)
    (refl, λ bytes is. is)
write-stops false len ending brings = absurd (cc)

-- an ending that a head brings is no fault
last-stops_by : (command : CommandType) (len : ℕ) (ending : Ending) →
    ending_by command len ≡ Some ending →
    (trouble_of ending ≡ calm)
    × ((bytes : List ℕ) → IsLastHead bytes ending → StopsRequests ending false bytes)
last-stops_by Disc len ending brings =
    subst (λ e. (trouble_of e ≡ calm)
    × ((bytes : List ℕ) → IsLastHead bytes e → StopsRequests e false bytes)) (some-same _ _ brings)
    (refl, λ bytes is. is)
last-stops_by Write len ending brings = write-stops (nat_lt 33554432 len) len ending brings
last-stops_by _ len ending brings = absurd (cc)

last-stops : (head : RequestHead) (ending : Ending) → ending_of head ≡ Some ending →
    (trouble_of ending ≡ calm)
    × ((bytes : List ℕ) → IsLastHead bytes ending → StopsRequests ending false bytes)
unfolding ending_of
last-stops head ending brings = last-stops_by head.command head.length ending brings

-- a request's head brought an ending
pub next-last : (structured : Bool) (a b : Reach) (head : RequestHead) (ending : Ending) →
    HeadTaken a b (request_text head) → IsRequestHead head →
    ending_of head ≡ Some ending → (bytes : List ℕ) × (ended : Bool)
    × NextIs structured a b (Stop ending) bytes ended
next-last structured a b head ending taken is brings =
    let stops = last-stops head ending brings in (
      request_text head,
      false,
      record {
        takes = taken.takes;
        at_end = λ e. absurd (cc);
        by_case = (
          subst (λ t. StopsBy a.source.faults b.source.faults t) (sym stops.0) taken.held,
          stops.1 (request_text head)
              (record { head = head; is_head = is; parts = refl; brings = brings }),
        );
      },
    )

abbrev pub HasBehind : Bool → RequestHead → Reach → Reach → Next → Type 0
HasBehind structured head b c result =
    (body : List ℕ) × (ended : Bool) × BehindHead structured head b c result body ended

-- a request that is whole with its data
pub message-of : (structured : Bool) (head : RequestHead) (body : List ℕ) (asked : Option Op)
    (form : Form) → IsRequestHead head → ending_of head ≡ None →
    length body ≡ data_length head → asked ≡ operation_of structured head body →
    form ≡ form_of structured head →
    IsMessage structured (request_text head ++ body) head.cookie asked form
message-of structured head body asked form is goes_on size asks form_is = record {
  head = head;
  body = body;
  is_head = is;
  parts = refl;
  size = size;
  goes_on = goes_on;
  cookie_is = refl;
  asks = asks;
  form_is = form_is;
}

pub behind-asks : (structured : Bool) (b c : Reach) (head : RequestHead) (body : List ℕ)
    (form : Form) (op : Op) → IsRequestHead head → ending_of head ≡ None →
    form ≡ form_of structured head → Some op ≡ operation_of structured head body →
    HasData b c (data_length head) (Whole body) →
    HasBehind structured head b c (Ask head.cookie form op)
behind-asks structured b c head body form op is goes_on form_is asks more = (
  more.0,
  false,
  record {
    takes = more.1.takes;
    at_end = λ e. absurd (cc);
    by_case = (
      message-of structured head more.0 (Some op) form is goes_on more.1.by_case.1
          (asks ∙ ap (operation_of structured head) more.1.by_case.0) form_is,
      more.1.by_case.2,
    );
  },
)

pub behind-refuses : (structured : Bool) (b c : Reach) (head : RequestHead) (body : List ℕ)
    (form : Form) → IsRequestHead head → ending_of head ≡ None →
    form ≡ form_of structured head → None ≡ operation_of structured head body →
    HasData b c (data_length head) (Whole body) →
    HasBehind structured head b c (Refuse head.cookie form invalid)
behind-refuses structured b c head body form is goes_on form_is asks more = (
  more.0,
  false,
  record {
    takes = more.1.takes;
    at_end = λ e. absurd (cc);
    by_case = (
      None,
      message-of structured head more.0 None form is goes_on more.1.by_case.1
          (asks ∙ ap (operation_of structured head) more.1.by_case.0) form_is,
      refl,
      more.1.by_case.2,
    );
  },
)

-- the input ended in a request's data
pub behind-cut : (structured : Bool) (b c : Reach) (head : RequestHead) (n : ℕ) (bytes : List ℕ) →
    IsRequestHead head → ending_of head ≡ None →
    Takes b c bytes → length bytes ≡ n → n < data_length head → HasEnded b.source c.source →
    c.source.faults ≡ b.source.faults →
    HasBehind structured head b c (Stop (Truncated (28 + n)))
behind-cut structured b c head n bytes is goes_on takes size fewer ended held = (
  bytes,
  true,
  record {
    takes = takes;
    at_end = λ e. ended;
    by_case = (
      held,
      (
        omega (arith, length-append (request_text head) bytes, request-size head, size),
        omega arith,
        refl,
        inr (record {
          head = head;
          body = bytes;
          is_head = is;
          parts = refl;
          fewer =
              omega (arith, size, fewer);
          goes_on = goes_on;
        }),
      ),
    );
  },
)

-- the source failed in a request's data
pub behind-fault : (structured : Bool) (b c : Reach) (head : RequestHead) (bytes : List ℕ) →
    IsRequestHead head → ending_of head ≡ None →
    Takes b c bytes → length bytes < data_length head → Rose b.source.faults c.source.faults →
    HasBehind structured head b c (Stop ReadFault)
behind-fault structured b c head bytes is goes_on takes fewer rose = (
  bytes,
  false,
  record {
    takes = takes;
    at_end = λ e. absurd (cc);
    by_case = (
      rose,
      inr (record {
        head = head;
        body = bytes;
        is_head = is;
        parts = refl;
        fewer = fewer;
        goes_on =
            goes_on;
      }),
    );
  },
)

-- a request's data was dropped
pub behind-dropped : (structured : Bool) (b c : Reach) (head : RequestHead) (form : Form)
    (number : ℕ) → IsRequestHead head → ending_of head ≡ None → form ≡ form_of structured head →
    ((body : List ℕ) → length body ≡ data_length head →
    IsRefusal (operation_of structured head body) number) →
    ((bytes : List ℕ) × TakesUpTo b c (data_length head) Fillings.Whole bytes) →
    HasBehind structured head b c (Refuse head.cookie form number)
behind-dropped structured b c head form number is goes_on form_is refused more = (
  more.0,
  false,
  record {
    takes = more.1.takes;
    at_end = λ e. absurd (cc);
    by_case = (
      operation_of structured head more.0,
      message-of structured head more.0 (operation_of structured head more.0) form is goes_on
          more.1.count refl form_is,
      refused more.0 more.1.count,
      more.1.fewer,
    );
  },
)

-- a flag that the type may not have is refused
pub flags-refused : (structured : Bool) (head : RequestHead) (body : List ℕ) →
    are_allowed structured head.command head.flags.bits ≡ false →
    IsRefusal (operation_of structured head body) invalid
unfolding operation_of
flags-refused structured head body other = rw other refl

data-operation : (command : CommandType) (flags offset len : ℕ) (body : List ℕ) →
    0 < data_length_by command len →
    IsRefusal (operation_by command flags offset len body) no_memory
data-operation Write flags offset len body some = refl
data-operation Read flags offset len body some = refl
data-operation Flush flags offset len body some = refl
data-operation _ flags offset len body some = absurd (omega arith)

-- a request with data is an operation, for which memory may be wanted
pub memory-refused : (structured : Bool) (head : RequestHead) (body : List ℕ) →
    are_allowed structured head.command head.flags.bits ≡ true → 0 < data_length head →
    IsRefusal (operation_of structured head body) no_memory
unfolding operation_of data_length
memory-refused structured head body allowed some =
    rw allowed
    (data-operation head.command head.flags.bits head.offset head.length body some)
