-- What is to be said of an input where an option is to come, as a function of the input.
use Rattle.std.proofs.Common.{◌≡◌, ℕ, ◌+◌, ◌<◌, ◌≤◌, ◌==◌, Bool, true, false, nat_lt, List, [], ◌∷◌}
use Rattle.std.proofs.Common.{◌++◌, Option, Some, None, length, take, drop, ap, ◌∙◌, refl, sym}
use Rattle.std.proofs.Common.{subst, arith, take_at, append_assoc, append-nil, length-append}
use Rattle.std.proofs.Common.{⊎_elim}
use Rattle.std.proofs.lemmas.List.{drop_at}
use Rattle.std.proofs.lemmas.Bool.{lt-ltb, le-ltb, eq-eqb, ne_eqb}
use Rattle.std.proofs.lemmas.Nat.{from_be_bytes-to_be_bytes_4, from_be_bytes-to_be_bytes_8}
use Rattle.std.specs.Int.{w32, w64, from_be_bytes}
use Rattle.nbd_stream.specs.declared.ending.Ending.{Ending}
use Rattle.nbd_stream.specs.declared.ending.Ending.TheVariants.{Closed, Truncated, BadMagic}
use Rattle.nbd_stream.specs.declared.ending.Ending.TheVariants.{TooLong, TooMany, PortSpent}
use Rattle.nbd_stream.specs.declared.ending.Ending.TheVariants.{ReadFault, WriteFault, Memory}
use Rattle.nbd_hand.specs.declared.options.ClientOption.{ClientOption}
use Rattle.nbd_hand.specs.declared.options.Course.{Course}
use Rattle.nbd_hand.specs.declared.options.Course.TheVariants.{GoesOn, Begins, Ends}
use Rattle.nbd_stream.specs.Endings.{IsByInput, IsCount}
use Rattle.nbd_hand.specs.Grammar.{IsOption, head_with, IsCutOption, EndsOptions, EndsBy}
use Rattle.nbd_hand.specs.Grammar.{CourseIs, course_after}
use Rattle.nbd_stream.proofs.StreamLemmas.{Decision, asks, stops}
use Rattle.nbd_wire.specs.declared.options.OptionHead.{OptionHead}
use Rattle.nbd_wire.specs.Fields.{u32_text, u64_text}
use Rattle.nbd_wire.specs.Magic.{option_magic}
use Rattle.nbd_wire.specs.Options.{IsOptionHead, option_text, option_of}
use Rattle.nbd_wire.proofs.OptionLemmas.{option-size}

-- how options come to an end: the course then, and the last one, if one ended them
pub record End : Type 0 where
  pub course : Course
  pub last : Option ClientOption

pub cut_of : List ℕ → Ending
cut_of [] = Closed
cut_of (x ∷ xs) = Truncated (length (x ∷ xs))

pub cut-none : cut_of [] ≡ Closed
unfolding cut_of
cut-none = refl

pub cut-some : (bytes : List ℕ) → 0 < length bytes → cut_of bytes ≡ Truncated (length bytes)
unfolding cut_of
cut-some [] some = absurd (omega arith)
cut-some (x ∷ xs) some = refl

pub magic_in : List ℕ → ℕ
magic_in bytes = from_be_bytes w64 (take 8 bytes)

pub head_in : List ℕ → OptionHead
head_in bytes = record {
  option = option_of (from_be_bytes w32 (take 4 (drop 8 bytes)));
  length =
      from_be_bytes w32 (take 4 (drop 12 bytes));
}

abbrev last_one : Ending → End
last_one ending = record { course = Ends ending; last = None }

pub by_course : Course → ClientOption → ℕ → Decision ClientOption End
by_course GoesOn option n = asks option n
by_course Begins option n = stops (record { course = Begins; last = Some option }) n
by_course (Ends ending) option n = stops (record { course = Ends ending; last = Some option }) n

pub by_data : Bool → OptionHead → List ℕ → Decision ClientOption End
by_data true head tail = stops (last_one (Truncated (16 + length tail))) (16 + length tail)
by_data false head tail =
    by_course (course_after (record { option = head.option; body = take head.length tail }))
    (record { option = head.option; body = take head.length tail }) (16 + head.length)

pub by_length : Bool → OptionHead → List ℕ → Decision ClientOption End
by_length true head tail = stops (last_one (TooLong head.length)) 16
by_length false head tail = by_data (nat_lt (length tail) head.length) head tail

pub by_magic : Bool → List ℕ → List ℕ → Decision ClientOption End
by_magic true head tail = by_length (nat_lt 65536 (head_in head).length) (head_in head) tail
by_magic false head tail = stops (last_one (BadMagic (magic_in head))) 16

pub by_size : Bool → List ℕ → Decision ClientOption End
by_size true all = stops (last_one (cut_of all)) (length all)
by_size false all = by_magic (magic_in (take 16 all) == option_magic) (take 16 all) (drop 16 all)

pub by_count : Bool → List ℕ → Decision ClientOption End
by_count true all = by_size (nat_lt (length all) 16) all
by_count false all = stops (last_one (TooMany 65536)) 0

-- behind `n` options
pub decide : ℕ → List ℕ → Decision ClientOption End
decide n all = by_count (nat_lt n 65536) all

-- a whole head decides
decide-head : (n : ℕ) (head tail : List ℕ) → n < 65536 → length head ≡ 16 →
    decide n (head ++ tail) ≡ by_magic (magic_in head == option_magic) head tail
unfolding decide by_count by_size
decide-head n head tail fewer size =
    ap (λ b. by_count b (head ++ tail)) (lt-ltb n 65536 fewer)
    ∙ ap (λ b. by_size b (head ++ tail))
    (le-ltb (length (head ++ tail)) 16 (omega (arith, length-append head tail)))
    ∙ ap (λ h. by_magic (magic_in h == option_magic) h (drop 16 (head ++ tail)))
    (take_at head tail 16 size)
    ∙ ap (λ t. by_magic (magic_in head == option_magic) head t) (drop_at head tail 16 size)

-- an input that has no whole head
decide-short : (n : ℕ) (all : List ℕ) → n < 65536 → length all < 16 →
    decide n all ≡ stops (last_one (cut_of all)) (length all)
unfolding decide by_count by_size
decide-short n all fewer short =
    ap (λ b. by_count b all) (lt-ltb n 65536 fewer)
    ∙ ap (λ b. by_size b all) (lt-ltb (length all) 16 short)

-- what is read of a head is the head
head-read : (head : OptionHead) → IsOptionHead head → (magic_in (option_text head) ≡ option_magic)
    × (head_in (option_text head) ≡ head)
unfolding magic_in head_in option_text u32_text u64_text
head-read head is =
    let option : from_be_bytes w32 (take 4 (drop 8 (option_text head))) ≡ _ =
    from_be_bytes-to_be_bytes_4 _ is.option in
    let size : from_be_bytes w32 (take 4 (drop 12 (option_text head))) ≡ head.length =
    from_be_bytes-to_be_bytes_4 head.length is.size in
    let named = ap option_of option ∙ is.named in
    let same : ◌≡◌ {A = OptionHead}
    (record {
      option = option_of (from_be_bytes w32 (take 4 (drop 8 (option_text head))));
      length = from_be_bytes w32 (take 4 (drop 12 (option_text head)));
    })
    (record { option = head.option; length = head.length }) = cc in
    (from_be_bytes-to_be_bytes_8 option_magic (omega arith), same)

decide-whole_head : (n : ℕ) (head : OptionHead) (tail : List ℕ) → n < 65536 → IsOptionHead head →
    decide n (option_text head ++ tail) ≡ by_length (nat_lt 65536 head.length) head tail
unfolding by_magic
decide-whole_head n head tail fewer is =
    let read = head-read head is in
    decide-head n (option_text head) tail fewer (option-size head)
    ∙ ap (λ b. by_magic b (option_text head) tail)
    (eq-eqb (magic_in (option_text head)) option_magic read.0)
    ∙ ap (λ h. by_length (nat_lt 65536 h.length) h tail) read.1

same-option : (option : ClientOption) →
    ◌≡◌ {A = ClientOption} (record { option = option.option; body = option.body }) option
same-option option = refl

-- a whole option decides
pub decide-option : (n : ℕ) (option : ClientOption) (bytes more : List ℕ) → n < 65536 →
    IsOption bytes option.option option.body →
    decide n (bytes ++ more) ≡ by_course (course_after option) option (length bytes)
unfolding by_length by_data
decide-option n option bytes more fewer is =
    let head = head_with option.option option.body in
    ap (decide n) (ap (λ x. x ++ more) is.parts ∙ append_assoc (option_text head) option.body more)
    ∙ decide-whole_head n head (option.body ++ more) fewer is.is_head
    ∙ ap (λ b. by_length b head (option.body ++ more)) (le-ltb 65536 head.length is.fits)
    ∙ ap (λ b. by_data b head (option.body ++ more))
    (le-ltb (length (option.body ++ more)) head.length
    (omega (arith, length-append option.body more)))
    ∙ ap (λ t. by_course (course_after (record { option = option.option; body = t }))
    (record { option = option.option; body = t }) (16 + head.length))
    (take_at option.body more head.length refl)
    ∙ ap (λ k. by_course (course_after option) option k)
    (omega (
      arith,
      ap length is.parts,
      length-append (option_text head) option.body,
      option-size head,
    ))

at-end : (n : ℕ) (bytes rest : List ℕ) → rest ≡ [] → decide n (bytes ++ rest) ≡ decide n bytes
at-end n bytes rest none = ap (λ r. decide n (bytes ++ r)) none ∙ ap (decide n) (append-nil bytes)

-- an input that ends within an option
decide-cut : (n : ℕ) (bytes : List ℕ) → n < 65536 → 0 < length bytes → IsCutOption bytes →
    decide n bytes ≡ stops (last_one (Truncated (length bytes))) (length bytes)
unfolding by_length by_data
decide-cut n bytes fewer some cut = ⊎_elim
    (λ short. decide-short n bytes fewer short
    ∙ ap (λ e. stops (last_one e) (length bytes)) (cut-some bytes some))
    (λ c.
    let size : 16 + length c.body ≡ length bytes =
    omega (
      arith,
      ap length c.parts,
      length-append (option_text c.head) c.body,
      option-size c.head,
    ) in
    ap (decide n) c.parts
    ∙ decide-whole_head n c.head c.body fewer c.is_head
    ∙ ap (λ b. by_length b c.head c.body) (le-ltb 65536 c.head.length c.fits)
    ∙ ap (λ b. by_data b c.head c.body) (lt-ltb (length c.body) c.head.length c.fewer)
    ∙ ap (λ k. stops (last_one (Truncated k)) k) size)
    cut

-- the bytes where no option came whole decide
decide-last : (n : ℕ) (ending : Ending) (ended : Bool) (bytes rest : List ℕ) → IsByInput ending →
    EndsOptions ending ended bytes →
    IsCount 65536 ending n → (ended ≡ true → rest ≡ []) →
    decide n (bytes ++ rest) ≡ stops (last_one ending) (length bytes)
unfolding decide by_count by_magic magic_in by_length u64_text
decide-last n Closed ended bytes rest by ends count at_end =
    at-end n bytes rest (at_end ends.1)
    ∙ subst (λ (b : List ℕ). decide n b ≡ stops (last_one Closed) (length b)) (sym ends.0)
    (decide-short n [] count (omega arith) ∙ ap (λ e. stops (last_one e) 0) cut-none)
decide-last n (Truncated m) ended bytes rest by ends count at_end =
    at-end n bytes rest (at_end ends.2)
    ∙ decide-cut n bytes count (omega (arith, ends.0, ends.1)) ends.3
    ∙ ap (λ k. stops (last_one (Truncated k)) (length bytes)) ends.0
decide-last n (BadMagic m) ended bytes rest by ends count at_end =
    let read : magic_in bytes ≡ m = ap (from_be_bytes w64) (sym ends.1)
    ∙ from_be_bytes-to_be_bytes_8 m ends.3 in
    decide-head n bytes rest count ends.0
    ∙ ap (λ b. by_magic b bytes rest)
    (ne_eqb (magic_in bytes) option_magic (λ same. ends.2 (sym read ∙ same)))
    ∙ ap (λ k. stops (last_one (BadMagic k)) 16) read
    ∙ ap (λ k. stops (last_one (BadMagic m)) k) (sym ends.0)
decide-last n (TooLong m) ended bytes rest by ends count at_end =
    ap (λ b. decide n (b ++ rest)) ends.1.parts
    ∙ decide-whole_head n ends.0 rest count ends.1.is_head
    ∙ ap (λ b. by_length b ends.0 rest) (lt-ltb 65536 ends.0.length (omega (arith, ends.2, ends.3)))
    ∙ ap (λ k. stops (last_one (TooLong k)) 16) (sym ends.2)
    ∙ ap (λ k. stops (last_one (TooLong m)) k)
    (omega (arith, ap length ends.1.parts, option-size ends.0))
decide-last n (TooMany m) ended bytes rest by ends count at_end =
    ap (λ b. by_count b (bytes ++ rest)) (le-ltb n 65536 (omega (arith, count.1)))
    ∙ ap (λ k. stops (last_one (TooMany k)) 0) (sym count.1 ∙ sym count.0)
    ∙ ap (λ b. stops (last_one (TooMany m)) (length b)) (sym ends)
decide-last n PortSpent ended bytes rest by ends count at_end = absurd by
decide-last n ReadFault ended bytes rest by ends count at_end = absurd by
decide-last n WriteFault ended bytes rest by ends count at_end = absurd by
decide-last n Memory ended bytes rest by ends count at_end = absurd by
decide-last n _ ended bytes rest by ends count at_end = absurd ends

-- a course that comes to an end, and by the input
abbrev pub ByInput : Course → Type 0
ByInput GoesOn = ⊥
ByInput Begins = Unit {0}
ByInput (Ends ending) = IsByInput ending

unfoldable pub IsEnd : End → ℕ → Bool → List ℕ → Type 0
IsEnd end n ended bytes = CourseIs end.course end.last n ended bytes × ByInput end.course

count-most : (ending : Ending) (n : ℕ) → IsCount 65536 ending n → n ≤ 65536
count-most (TooMany m) n count = omega (arith, count.1)
count-most WriteFault n count = count.1
count-most _ n count = omega arith

end-few : (course : Course) (last : Option ClientOption) (n : ℕ) (ended : Bool) (bytes : List ℕ) →
    CourseIs course last n ended bytes → ByInput course → n ≤ 65536
end-few GoesOn last n ended bytes is by = absurd by
end-few Begins None n ended bytes is by = absurd is
end-few Begins (Some option) n ended bytes is by = omega (arith, is.2)
end-few (Ends ending) None n ended bytes is by = count-most ending n is.1
end-few (Ends ending) (Some option) n ended bytes is by = omega (arith, is.2)

pub few : (end : End) (n : ℕ) (ended : Bool) (bytes : List ℕ) → IsEnd end n ended bytes → n ≤ 65536
unfolding IsEnd
few end n ended bytes is = end-few end.course end.last n ended bytes is.0 is.1

end-by : (option : ClientOption) (ending : Ending) → IsByInput ending → EndsBy option ending →
    course_after option ≡ Ends ending
end-by option ending by ends =
    ⊎_elim (λ is. is) (λ fault. absurd (subst (λ (e : Ending). IsByInput e) fault.0 by)) ends

end-decides : (course : Course) (last : Option ClientOption) (n : ℕ) (ended : Bool)
    (bytes rest : List ℕ) → CourseIs course last n ended bytes → ByInput course →
    (ended ≡ true → rest ≡ []) →
    decide n (bytes ++ rest) ≡ stops (record { course = course; last = last }) (length bytes)
unfolding by_course
end-decides GoesOn last n ended bytes rest is by at_end = absurd by
end-decides Begins None n ended bytes rest is by at_end = absurd is
end-decides Begins (Some option) n ended bytes rest is by at_end =
    decide-option n option bytes rest is.2 is.0 ∙ ap (λ c. by_course c option (length bytes)) is.1
end-decides (Ends ending) None n ended bytes rest is by at_end =
    decide-last n ending ended bytes rest by is.0 is.1 at_end
end-decides (Ends ending) (Some option) n ended bytes rest is by at_end =
    decide-option n option bytes rest is.2 is.0
    ∙ ap (λ c. by_course c option (length bytes)) (end-by option ending by is.1)

pub last-decides : (n : ℕ) (end : End) (ended : Bool) (bytes rest : List ℕ) →
    IsEnd end n ended bytes → (ended ≡ true → rest ≡ []) →
    decide n (bytes ++ rest) ≡ stops end (length bytes)
unfolding IsEnd
last-decides n end ended bytes rest is at_end =
    end-decides end.course end.last n ended bytes rest is.0 is.1 at_end

-- an option that comes whole, after which the negotiation goes on
unfoldable pub IsWhole : ClientOption → List ℕ → Type 0
IsWhole option bytes = IsOption bytes option.option option.body × (course_after option ≡ GoesOn)

pub whole-decides : (n : ℕ) (option : ClientOption) (bytes more : List ℕ) → n < 65536 →
    IsWhole option bytes →
    decide n (bytes ++ more) ≡ asks option (length bytes)
unfolding IsWhole by_course
whole-decides n option bytes more fewer is =
    decide-option n option bytes more fewer is.0 ∙ ap (λ c. by_course c option (length bytes)) is.1
