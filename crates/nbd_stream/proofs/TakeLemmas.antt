-- A buffer that is filled in pieces.
use Rattle.std.proofs.Common.{◌≡◌, ℕ, ◌+◌, ◌-◌, ◌≤◌, ◌<◌, List, ◌++◌, Some, Ok, length}
use Rattle.std.proofs.Common.{take, drop, ap, ◌∙◌, refl, sym, arith, length-take-le, take_at, subst}
use Rattle.std.proofs.Common.{⊎_elim, add-zero}
use Rattle.std.proofs.lemmas.List.{take-append-le, take-append-drop}
use Rattle.base_terms.specs.Blocks.{rewritten}
use Rattle.std.proofs.Math.Seq.{take-append-add}
use borrow.Rule.Slice.PartMut.{put_mid, post_of, same_len_mid}
use Rattle.std.proofs.lemmas.List.{length-take, length-drop, length-append}
use Rattle.io_edge.specs.Intake.{Intake, TakesLeft, GaveMore}
use Rattle.nbd_stream.specs.Traffic.{Took, Fills}
use Rattle.nbd_stream.specs.declared.filling.Filled.TheVariants.{Whole, Ended, Fault}
use Rattle.nbd_stream.proofs.TrafficLemmas.{took_more, ended_later, rose_earlier}

-- a take took the front of its buffer
pub took-take : (a b : Intake) (before after : List ℕ) (n : ℕ) →
    TakesLeft a b before after (Ok n) → GaveMore a b after (Ok n) → Took a b (take n after)
took-take a b before after n told given = record {
  given = λ xs is. given xs is;
  left = λ xs is.
      let t = told xs is in
      let front : take n after ≡ take n xs = ap (take n) t.bytes_are
      ∙ take_at (take n xs) (drop n before) n (length-take-le n xs t.no_more) in
      (drop n xs, sym (ap (λ f. f ++ drop n xs) front ∙ take-append-drop n xs), t.left_is);
}

-- the front of a buffer of which a part behind the front was written
pub take-put : (buf after : List ℕ) (count n k : ℕ) → count ≤ length buf → n ≤ length after →
    take (count + n) (put_mid count k buf after) ≡ take count buf ++ take n after
take-put buf after count n k inside within =
    let e : length (take count buf) ≡ count = length-take-le count buf inside in
    ap (λ c. take (c + n) (take count buf ++ (after ++ post_of count k buf))) (sym e)
    ∙ take-append-add (take count buf) (after ++ post_of count k buf) n
    ∙ ap (λ t. take count buf ++ t) (take-append-le n after (post_of count k buf) within)

-- a buffer all of which was written holds that
pub rewritten-whole : (old bytes : List ℕ) → length bytes ≡ length old → rewritten old bytes ≡ bytes
rewritten-whole old bytes long = take_at bytes (drop (length bytes) old) (length old) long

pub took-piece : (a b c : Intake) (buf before after : List ℕ) (count n k : ℕ) →
    count ≤ length buf → n ≤ length after → Took a b (take count buf) →
    TakesLeft b c before after (Ok n) → GaveMore b c after (Ok n) →
    Took a c (take (count + n) (put_mid count k buf after))
took-piece a b c buf before after count n k inside within took told given =
    subst (λ (bytes : List ℕ). Took a c bytes) (sym (take-put buf after count n k inside within))
    (took_more a b c _ _ took (took-take b c before after n told given))

-- a take of nothing into the part behind the front, which isn't empty, found the end
pub fills-ended : (a b c : Intake) (buf after : List ℕ) (count n : ℕ) →
    count < length buf → Took a b (take count buf) → b.faults ≡ a.faults → c.faults ≡ b.faults →
    n ≡ 0 →
    length after ≡ length (take (length buf - count) (drop count buf)) →
    TakesLeft b c (take (length buf - count) (drop count buf)) after (Ok n) →
    GaveMore b c after (Ok n) →
    Fills a c (length (put_mid count (length buf - count) buf after)) (Ended count)
    (take count (put_mid count (length buf - count) buf after))
fills-ended a b c buf after count n some took early late none same told given =
    let part = take (length buf - count) (drop count buf) in
    let told0 : TakesLeft b c part after (Ok 0) =
    subst (λ (k : ℕ). TakesLeft b c part after (Ok k)) none told in
    let given0 : GaveMore b c after (Ok 0) =
    subst (λ (k : ℕ). GaveMore b c after (Ok k)) none given in
    let len : length (put_mid count (length buf - count) buf after) ≡ length buf =
    same_len_mid count (length buf - count) buf after same in
    let inside : count ≤ length buf = omega arith in
    record {
      took = subst (λ (k : ℕ). Took a c (take k (put_mid count (length buf - count) buf after)))
          (add-zero count)
          (took-piece a b c buf part after count 0 (length buf - count) inside (omega arith) took
          told0 given0);
      count = length-take-le count (put_mid count (length buf - count) buf after) (omega arith);
      fewer = (
        omega arith,
        λ all is.
            let rest = took.left all is in
            let t = told0 rest.0 rest.2 in
            t.left_is ∙ ⊎_elim
            (λ empty. absurd (let e : length part ≡ 0 = ap length empty in
            omega (
              arith,
              length-take (length buf - count) (drop count buf),
              length-drop count buf,
            )))
            (λ empty. ap (λ rest. Some (drop 0 rest)) empty) (t.end_only refl),
        omega arith,
      );
      later = omega arith;
    }

-- what fits into the part behind the front fits into the whole
pub count-inside : (buf after : List ℕ) (count n : ℕ) → count ≤ length buf →
    length after ≡ length (take (length buf - count) (drop count buf)) →
    n ≤ length (take (length buf - count) (drop count buf)) →
    count + n ≤ length (put_mid count (length buf - count) buf after)
count-inside buf after count n inside same within =
    omega (
      arith,
      same_len_mid count (length buf - count) buf after same,
      length-take (length buf - count) (drop count buf),
      length-drop count buf,
    )

-- bytes that filled a buffer go on behind those before
pub fills-whole : (a b c : Intake) (bytes more : List ℕ) (count len part : ℕ) →
    length bytes ≡ count → Took a b bytes → len ≡ part → Fills b c len Whole more →
    (x : List ℕ) × (length x ≡ count + part) × Took a c x
fills-whole a b c bytes more count len part is took same fills = (
  bytes ++ more,
  length-append bytes more ∙ omega (arith, fills.count),
  took_more a b c bytes more took fills.took,
)

pub fills-to_end : (a b c : Intake) (bytes more : List ℕ) (count len part whole n : ℕ) →
    length bytes ≡ count → Took a b bytes → b.faults ≡ a.faults → len ≡ part →
    count + part ≤ whole →
    Fills b c len (Ended n) more → (x : List ℕ) × Fills a c whole (Ended (count + n)) x
fills-to_end a b c bytes more count len part whole n is took early same within fills = (
  bytes ++ more,
  record {
    took = took_more a b c bytes more took fills.took;
    count = length-append bytes more ∙ omega (arith, fills.count);
    fewer = (
      omega (arith, fills.fewer.0),
      ended_later a b c bytes took fills.fewer.1,
      omega (arith, fills.fewer.2),
    );
    later = omega (arith, fills.later);
  },
)

pub fills-to_fault : (a b c : Intake) (bytes more : List ℕ) (count len part whole n : ℕ) →
    length bytes ≡ count → Took a b bytes → b.faults ≡ a.faults → len ≡ part →
    count + part ≤ whole →
    Fills b c len (Fault n) more → (x : List ℕ) × Fills a c whole (Fault (count + n)) x
fills-to_fault a b c bytes more count len part whole n is took early same within fills = (
  bytes ++ more,
  record {
    took = took_more a b c bytes more took fills.took;
    count = length-append bytes more ∙ omega (arith, fills.count);
    fewer = (
      omega (arith, fills.fewer.0),
      rose_earlier a.faults b.faults c.faults (omega arith) fills.fewer.1,
    );
    later = omega (arith, fills.later);
  },
)
