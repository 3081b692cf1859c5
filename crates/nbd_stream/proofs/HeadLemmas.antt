-- A message of which head and data are taken one after the other.
use Rattle.std.proofs.Common.{◌≡◌, ℕ, Bool, List, [], ◌++◌, Ok, ap, ◌∙◌, sym, subst, arith}
use Rattle.std.proofs.Common.{length-append}
use Rattle.nbd_stream.specs.declared.filling.Filled.{Filled}
use Rattle.nbd_stream.specs.declared.taking.Data.{Data}
use Rattle.nbd_stream.specs.Counts.{capped}
use Rattle.nbd_stream.specs.Taking.{HeadIs, DataIs, TakesUpTo}
use Rattle.nbd_stream.specs.Traffic.{Reach, Takes, HasEnded}
use Rattle.nbd_stream.proofs.TrafficLemmas.{took_none, took_more, ended_later}

pub takes_none : (a : Reach) → Takes a a []
takes_none a = record {
  took = took_none a.source;
  later = omega arith;
  counted =
      ap capped (omega arith);
}

pub takes_more : (a b c : Reach) (xs ys : List ℕ) → Takes a b xs → Takes b c ys →
    Takes a c (xs ++ ys)
takes_more a b c xs ys first second = record {
  took = took_more _ _ _ xs ys first.took second.took;
  later = omega (arith, first.later, second.later);
  counted = omega (arith, first.counted, second.counted, length-append xs ys);
}

-- a head came whole
pub record HeadTaken (a b : Reach) (text : List ℕ) : Type 0 where
  pub takes : Takes a b text
  pub held : b.source.faults ≡ a.source.faults

pub head-taken : (a b : Reach) (len : ℕ) (buf text : List ℕ) → text ≡ buf →
    ((bytes : List ℕ) × (ended : Bool) × HeadIs a b len buf (Ok tt) bytes ended) →
    HeadTaken a b text
head-taken a b len buf text is head = record {
  takes = subst (λ (bytes : List ℕ). Takes a b bytes) (head.2.by_case.0 ∙ sym is) head.2.takes;
  held = head.2.by_case.2;
}

-- what was taken behind a head
pub rear-ended : (a b c : Reach) (text : List ℕ) → HeadTaken a b text → HasEnded b.source c.source →
    HasEnded a.source c.source
rear-ended a b c text head ended = ended_later a.source b.source c.source text head.takes.took ended

abbrev pub HasData : Reach → Reach → ℕ → Data → Type 0
HasData b c len result = (bytes : List ℕ) × DataIs b c len result bytes

-- the length of the data, as it was told
pub dropped-as : (b c : Reach) (len len' : ℕ) (result : Filled) → len ≡ len' →
    ((bytes : List ℕ) × TakesUpTo b c len result bytes) →
    (bytes : List ℕ) × TakesUpTo b c len' result bytes
dropped-as b c len len' result same more =
    subst (λ (n : ℕ). (bytes : List ℕ) × TakesUpTo b c n result bytes) same more

pub data-as : (b c : Reach) (len len' : ℕ) (result : Data) → len ≡ len' → HasData b c len result →
    HasData b c len' result
data-as b c len len' result same more = subst (λ (n : ℕ). HasData b c n result) same more
