-- An option of which head and data were taken one after the other.
use Rattle.std.proofs.Common.{◌≡◌, ℕ, ◌+◌, ◌≤◌, Bool, true, false, List, ◌++◌, Result, Ok, Err}
use Rattle.std.proofs.Common.{length, ap, ◌∙◌, refl, sym, subst, arith, inr, append-nil}
use Rattle.std.proofs.Common.{length-append}
use Rattle.nbd_stream.specs.declared.ending.Ending.{Ending}
use Rattle.nbd_stream.specs.declared.ending.Ending.TheVariants.{Truncated, ReadFault, Memory}
use Rattle.nbd_stream.specs.declared.taking.Data.TheVariants.{Whole, NoMemory, Ended, Fault}
use Rattle.nbd_stream.specs.Traffic.{Reach}
use Rattle.nbd_stream.proofs.TrafficLemmas.{rose_earlier}
use Rattle.nbd_stream.proofs.HeadLemmas.{takes_more, HeadTaken, rear-ended, HasData}
use Rattle.nbd_hand.specs.declared.options.ClientOption.{ClientOption}
use Rattle.nbd_hand.specs.Grammar.{head_with}
use Rattle.nbd_hand.specs.Taking.{OptionIs}
use Rattle.nbd_wire.specs.declared.options.OptionHead.{OptionHead}
use Rattle.nbd_wire.specs.Options.{IsOptionHead, option_text}
use Rattle.nbd_wire.proofs.OptionLemmas.{option-size}

abbrev pub HasOption : Reach → Reach → Result ClientOption Ending → Type 0
HasOption a c result = (bytes : List ℕ) × (ended : Bool) × OptionIs a c result bytes ended

-- an option came whole
pub option-whole : (a b c : Reach) (head : OptionHead) (body : List ℕ) →
    HeadTaken a b (option_text head) → IsOptionHead head →
    head.length ≤ 65536 → HasData b c head.length (Whole body) →
    HasOption a c (Ok (record { option = head.option; body = body }))
option-whole a b c head body taken is fits more =
    let same : body ≡ more.0 = more.1.by_case.0 in
    let size : head.length ≡ length body = omega (arith, ap length same, more.1.by_case.1) in
    let head_is : head ≡ head_with head.option body =
    ap (λ n. record { option = head.option; length = n }) size in (
      option_text head ++ more.0,
      false,
      record {
        takes = takes_more a b c (option_text head) more.0 taken.takes more.1.takes;
        at_end = λ e. absurd (cc);
        by_case = (
          record {
            is_head = subst (λ (h : OptionHead). IsOptionHead h) head_is is;
            fits = omega (arith, size, fits);
            parts = ap (λ h. option_text h ++ more.0) head_is
                ∙ ap (λ x. option_text (head_with head.option body) ++ x) (sym same);
          },
          omega (arith, taken.held, more.1.by_case.2),
        );
      },
    )

-- memory was wanted for its data
pub option-memory : (a b c : Reach) (head : OptionHead) → HeadTaken a b (option_text head) →
    IsOptionHead head →
    head.length ≤ 65536 → HasData b c head.length NoMemory → HasOption a c (Err Memory)
option-memory a b c head taken is fits more =
    let same : option_text head ++ more.0 ≡ option_text head =
    ap (λ x. option_text head ++ x) more.1.by_case.1 ∙ append-nil (option_text head) in (
      option_text head ++ more.0,
      false,
      record {
        takes = takes_more a b c (option_text head) more.0 taken.takes more.1.takes;
        at_end = λ e. absurd (cc);
        by_case = (
          ap (λ (i : Reach). i.source.faults) more.1.by_case.2 ∙ taken.held,
          (head, record { is_head = is; parts = same }, more.1.by_case.0, fits),
        );
      },
    )

-- the input ended in its data
pub option-ended : (a b c : Reach) (head : OptionHead) (n : ℕ) → HeadTaken a b (option_text head) →
    IsOptionHead head →
    head.length ≤ 65536 → HasData b c head.length (Ended n) →
    HasOption a c (Err (Truncated (16 + n)))
option-ended a b c head n taken is fits more = (
  option_text head ++ more.0,
  true,
  record {
    takes = takes_more a b c (option_text head) more.0 taken.takes more.1.takes;
    at_end = λ e. rear-ended a b c (option_text head) taken more.1.by_case.2;
    by_case = (
      omega (arith, taken.held, more.1.by_case.3),
      (
        omega (arith, length-append (option_text head) more.0, option-size head, more.1.by_case.0),
        omega arith,
        refl,
        inr (record {
          head = head;
          body = more.0;
          is_head = is;
          fits = fits;
          parts = refl;
          fewer =
              omega (arith, more.1.by_case.0, more.1.by_case.1);
        }),
      ),
    );
  },
)

-- the source failed in its data
pub option-fault : (a b c : Reach) (head : OptionHead) → HeadTaken a b (option_text head) →
    IsOptionHead head →
    head.length ≤ 65536 → HasData b c head.length Fault → HasOption a c (Err ReadFault)
option-fault a b c head taken is fits more = (
  option_text head ++ more.0,
  false,
  record {
    takes = takes_more a b c (option_text head) more.0 taken.takes more.1.takes;
    at_end = λ e. absurd (cc);
    by_case = (
      rose_earlier a.source.faults b.source.faults c.source.faults taken.takes.later
          more.1.by_case.1,
      inr (record {
        head = head;
        body = more.0;
        is_head = is;
        fits = fits;
        parts = refl;
        fewer =
            more.1.by_case.0;
      }),
    );
  },
)
