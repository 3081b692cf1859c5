-- What is to be said of an input where a request is to come, as a function of the input.
use Rattle.std.proofs.Common.{◌≡◌, ℕ, ◌+◌, ◌^◌, ◌<◌, ◌≤◌, ◌==◌, Bool, true, false, nat_lt, List, []}
use Rattle.std.proofs.Common.{◌++◌, Option, Some, None, length, take, drop, ap, ◌∙◌, sym, subst}
use Rattle.std.proofs.Common.{arith, take_at, append_assoc, append-nil, length-append, ⊎_elim}
use Rattle.std.proofs.lemmas.List.{drop_at}
use Rattle.std.proofs.lemmas.Bool.{lt-ltb, le-ltb, eq-eqb, ne_eqb}
use Rattle.std.proofs.lemmas.Nat.{from_be_bytes-to_be_bytes_2, from_be_bytes-to_be_bytes_4}
use Rattle.std.proofs.lemmas.Nat.{from_be_bytes-to_be_bytes_8}
use Rattle.std.specs.Int.{w16, w32, w64, from_be_bytes}
use Rattle.plain_disk.specs.declared.operation.Op.{Op}
use Rattle.nbd_stream.specs.declared.ending.Ending.{Ending}
use Rattle.nbd_stream.specs.declared.ending.Ending.TheVariants.{Disconnected, Closed, Truncated}
use Rattle.nbd_stream.specs.declared.ending.Ending.TheVariants.{BadMagic, TooLong, TooMany}
use Rattle.nbd_stream.specs.declared.ending.Ending.TheVariants.{PortSpent, ReadFault, WriteFault}
use Rattle.nbd_stream.specs.declared.ending.Ending.TheVariants.{Memory}
use Rattle.nbd_stream.specs.Endings.{IsByInput, IsCount}
use Rattle.nbd_session.specs.declared.forms.Form.{Form}
use Rattle.nbd_session.specs.Forms.{form_of}
use Rattle.nbd_session.specs.Grammar.{EndsRequests}
use Rattle.nbd_session.specs.Asking.{Asked}
use Rattle.nbd_session.specs.Requests.{ending_of, data_length, operation_of, IsMessage}
use Rattle.nbd_session.specs.Requests.{IsCutRequest, IsLastHead}
use Rattle.nbd_stream.proofs.StreamLemmas.{Decision, asks, stops}
use Rattle.nbd_hand.proofs.DecidedOptions.{cut_of, cut-none, cut-some}
use Rattle.nbd_wire.specs.declared.requests.CommandType.{CommandType}
use Rattle.nbd_wire.specs.declared.requests.RequestHead.{RequestHead}
use Rattle.nbd_wire.specs.Fields.{u16_text, u32_text, u64_text}
use Rattle.nbd_wire.specs.Magic.{request_magic}
use Rattle.nbd_wire.specs.Requests.{IsRequestHead, request_text, command_of}
use Rattle.nbd_wire.proofs.RequestLemmas.{request-size}

pub magic_in : List ℕ → ℕ
magic_in bytes = from_be_bytes w32 (take 4 bytes)

pub head_in : List ℕ → RequestHead
head_in bytes = record {
  flags = record { bits = from_be_bytes w16 (take 2 (drop 4 bytes)) };
  command = command_of (from_be_bytes w16 (take 2 (drop 6 bytes)));
  cookie = from_be_bytes w64 (take 8 (drop 8 bytes));
  offset = from_be_bytes w64 (take 8 (drop 16 bytes));
  length = from_be_bytes w32 (take 4 (drop 24 bytes));
}

-- what a request with this head and this data asks
abbrev pub asked-by : Bool → RequestHead → List ℕ → Asked
asked-by structured head body = record {
  cookie = head.cookie;
  asked = operation_of structured head body;
  form = form_of structured head;
}

pub by_data : Bool → Bool → RequestHead → List ℕ → Decision Asked Ending
by_data structured true head tail = stops (Truncated (28 + length tail)) (28 + length tail)
by_data structured false head tail =
    asks (asked-by structured head (take (data_length head) tail)) (28 + data_length head)

pub by_ending : Bool → Option Ending → RequestHead → List ℕ → Decision Asked Ending
by_ending structured None head tail =
    by_data structured (nat_lt (length tail) (data_length head)) head tail
by_ending structured (Some ending) head tail = stops ending 28

pub by_magic : Bool → Bool → List ℕ → List ℕ → Decision Asked Ending
by_magic structured true head tail =
    by_ending structured (ending_of (head_in head)) (head_in head) tail
by_magic structured false head tail = stops (BadMagic (magic_in head)) 28

pub by_size : Bool → Bool → List ℕ → Decision Asked Ending
by_size structured true all = stops (cut_of all) (length all)
by_size structured false all =
    by_magic structured (magic_in (take 28 all) == request_magic) (take 28 all) (drop 28 all)

pub by_count : Bool → Bool → List ℕ → Decision Asked Ending
by_count structured true all = by_size structured (nat_lt (length all) 28) all
by_count structured false all = stops (TooMany (2 ^ 32)) 0

-- with structured replies or without, behind `n` requests
pub decide : Bool → ℕ → List ℕ → Decision Asked Ending
decide structured n all = by_count structured (nat_lt n (2 ^ 32)) all

-- a whole head decides
decide-head : (structured : Bool) (n : ℕ) (head tail : List ℕ) → n < 2 ^ 32 → length head ≡ 28 →
    decide structured n (head ++ tail)
    ≡ by_magic structured (magic_in head == request_magic) head tail
unfolding decide by_count by_size
decide-head structured n head tail fewer size =
    ap (λ b. by_count structured b (head ++ tail)) (lt-ltb n (2 ^ 32) fewer)
    ∙ ap (λ b. by_size structured b (head ++ tail))
    (le-ltb (length (head ++ tail)) 28 (omega (arith, length-append head tail)))
    ∙ ap (λ h. by_magic structured (magic_in h == request_magic) h (drop 28 (head ++ tail)))
    (take_at head tail 28 size)
    ∙ ap (λ t. by_magic structured (magic_in head == request_magic) head t)
    (drop_at head tail 28 size)

-- an input that has no whole head
decide-short : (structured : Bool) (n : ℕ) (all : List ℕ) → n < 2 ^ 32 → length all < 28 →
    decide structured n all ≡ stops (cut_of all) (length all)
unfolding decide by_count by_size
decide-short structured n all fewer short =
    ap (λ b. by_count structured b all) (lt-ltb n (2 ^ 32) fewer)
    ∙ ap (λ b. by_size structured b all) (lt-ltb (length all) 28 short)

head-same : (f : ℕ) (c : CommandType) (k o l : ℕ) (head : RequestHead) → f ≡ head.flags.bits →
    c ≡ head.command → k ≡ head.cookie → o ≡ head.offset → l ≡ head.length →
    ◌≡◌ {A = RequestHead}
    (record { flags = record { bits = f }; command = c; cookie = k; offset = o; length = l })
    head
head-same f c k o l head flags command cookie offset size =
    let same : ◌≡◌ {A = RequestHead}
    (record { flags = record { bits = f }; command = c; cookie = k; offset = o; length = l })
    (record {
      flags = record { bits = head.flags.bits };
      command = head.command;
      cookie =
          head.cookie;
      offset = head.offset;
      length = head.length;
    }) = cc in
    same

-- what is read of a head is the head
head-read : (head : RequestHead) → IsRequestHead head →
    (magic_in (request_text head) ≡ request_magic) × (head_in (request_text head) ≡ head)
unfolding magic_in head_in request_text u16_text u32_text u64_text
head-read head is =
    let text = request_text head in
    let flags : from_be_bytes w16 (take 2 (drop 4 text)) ≡ head.flags.bits =
    from_be_bytes-to_be_bytes_2 head.flags.bits is.flags in
    let command : from_be_bytes w16 (take 2 (drop 6 text)) ≡ _ =
    from_be_bytes-to_be_bytes_2 _ is.command in
    let cookie : from_be_bytes w64 (take 8 (drop 8 text)) ≡ head.cookie =
    from_be_bytes-to_be_bytes_8 head.cookie is.cookie in
    let offset : from_be_bytes w64 (take 8 (drop 16 text)) ≡ head.offset =
    from_be_bytes-to_be_bytes_8 head.offset is.offset in
    let size : from_be_bytes w32 (take 4 (drop 24 text)) ≡ head.length =
    from_be_bytes-to_be_bytes_4 head.length is.size in (
      from_be_bytes-to_be_bytes_4 request_magic (omega arith),
      head-same _ _ _ _ _ head flags (ap command_of command ∙ is.named) cookie offset size,
    )

-- a whole head that is one decides
decide-whole_head : (structured : Bool) (n : ℕ) (head : RequestHead) (tail : List ℕ) →
    n < 2 ^ 32 → IsRequestHead head →
    decide structured n (request_text head ++ tail)
    ≡ by_ending structured (ending_of head) head tail
unfolding by_magic
decide-whole_head structured n head tail fewer is =
    let read = head-read head is in
    decide-head structured n (request_text head) tail fewer (request-size head)
    ∙ ap (λ b. by_magic structured b (request_text head) tail)
    (eq-eqb (magic_in (request_text head)) request_magic read.0)
    ∙ ap (λ h. by_ending structured (ending_of h) h tail) read.1

-- a message that comes whole
unfoldable pub IsWhole : Bool → Asked → List ℕ → Type 0
IsWhole structured asked bytes = IsMessage structured bytes asked.cookie asked.asked asked.form

asked-same : (c : ℕ) (o : Option Op) (f : Form) (asked : Asked) → asked.cookie ≡ c →
    asked.asked ≡ o → asked.form ≡ f →
    ◌≡◌ {A = Asked} (record { cookie = c; asked = o; form = f }) asked
asked-same c o f asked cookie_is op_is form_is =
    let same : ◌≡◌ {A = Asked} (record { cookie = c; asked = o; form = f })
    (record { cookie = asked.cookie; asked = asked.asked; form = asked.form }) = cc in same

pub whole-decides : (structured : Bool) (n : ℕ) (asked : Asked) (bytes more : List ℕ) →
    n < 2 ^ 32 → IsWhole structured asked bytes →
    decide structured n (bytes ++ more) ≡ asks asked (length bytes)
unfolding IsWhole by_ending by_data
whole-decides structured n asked bytes more fewer is =
    ap (decide structured n)
    (ap (λ x. x ++ more) is.parts ∙ append_assoc (request_text is.head) is.body more)
    ∙ decide-whole_head structured n is.head (is.body ++ more) fewer is.is_head
    ∙ ap (λ e. by_ending structured e is.head (is.body ++ more)) is.goes_on
    ∙ ap (λ b. by_data structured b is.head (is.body ++ more))
    (le-ltb (length (is.body ++ more)) (data_length is.head)
    (omega (arith, length-append is.body more, is.size)))
    ∙ ap (λ t. asks (asked-by structured is.head t) (28 + data_length is.head))
    (take_at is.body more (data_length is.head) is.size)
    ∙ ap (λ a. asks a (28 + data_length is.head))
    (asked-same is.head.cookie (operation_of structured is.head is.body)
    (form_of structured is.head) asked is.cookie_is is.asks is.form_is)
    ∙ ap (λ k. asks asked k)
    (omega (
      arith,
      ap length is.parts,
      length-append (request_text is.head) is.body,
      request-size is.head,
      is.size,
    ))

at-end : (structured : Bool) (n : ℕ) (bytes rest : List ℕ) → rest ≡ [] →
    decide structured n (bytes ++ rest) ≡ decide structured n bytes
at-end structured n bytes rest none =
    ap (λ r. decide structured n (bytes ++ r)) none ∙ ap (decide structured n) (append-nil bytes)

-- an input that ends within a request
decide-cut : (structured : Bool) (n : ℕ) (bytes : List ℕ) → n < 2 ^ 32 → 0 < length bytes →
    IsCutRequest bytes →
    decide structured n bytes ≡ stops (Truncated (length bytes)) (length bytes)
unfolding by_ending by_data
decide-cut structured n bytes fewer some cut = ⊎_elim
    (λ short. decide-short structured n bytes fewer short
    ∙ ap (λ e. stops e (length bytes)) (cut-some bytes some))
    (λ c.
    let size : 28 + length c.body ≡ length bytes =
    omega (
      arith,
      ap length c.parts,
      length-append (request_text c.head) c.body,
      request-size c.head,
    ) in
    ap (decide structured n) c.parts
    ∙ decide-whole_head structured n c.head c.body fewer c.is_head
    ∙ ap (λ e. by_ending structured e c.head c.body) c.goes_on
    ∙ ap (λ b. by_data structured b c.head c.body)
    (lt-ltb (length c.body) (data_length c.head) c.fewer)
    ∙ ap (λ k. stops (Truncated k) k) size)
    cut

-- a head that ends the session decides
decide-last_head : (structured : Bool) (n : ℕ) (ending : Ending) (bytes rest : List ℕ) →
    n < 2 ^ 32 → IsLastHead bytes ending →
    decide structured n (bytes ++ rest) ≡ stops ending (length bytes)
unfolding by_ending
decide-last_head structured n ending bytes rest fewer is =
    ap (λ b. decide structured n (b ++ rest)) is.parts
    ∙ decide-whole_head structured n is.head rest fewer is.is_head
    ∙ ap (λ e. by_ending structured e is.head rest) is.brings
    ∙ ap (λ k. stops ending k) (omega (arith, ap length is.parts, request-size is.head))

decide-last : (structured : Bool) (n : ℕ) (ending : Ending) (ended : Bool) (bytes rest : List ℕ) →
    IsByInput ending → EndsRequests structured ending ended bytes →
    IsCount (2 ^ 32) ending n → (ended ≡ true → rest ≡ []) →
    decide structured n (bytes ++ rest) ≡ stops ending (length bytes)
unfolding decide by_count by_magic magic_in u32_text
decide-last structured n Disconnected ended bytes rest by ends count at_end =
    decide-last_head structured n Disconnected bytes rest count ends
decide-last structured n Closed ended bytes rest by ends count at_end =
    at-end structured n bytes rest (at_end ends.1)
    ∙ subst (λ (b : List ℕ). decide structured n b ≡ stops Closed (length b)) (sym ends.0)
    (decide-short structured n [] count (omega arith) ∙ ap (λ e. stops e 0) cut-none)
decide-last structured n (Truncated m) ended bytes rest by ends count at_end =
    at-end structured n bytes rest (at_end ends.2)
    ∙ decide-cut structured n bytes count (omega (arith, ends.0, ends.1)) ends.3
    ∙ ap (λ k. stops (Truncated k) (length bytes)) ends.0
decide-last structured n (BadMagic m) ended bytes rest by ends count at_end =
    let read : magic_in bytes ≡ m = ap (from_be_bytes w32) (sym ends.1)
    ∙ from_be_bytes-to_be_bytes_4 m ends.3 in
    decide-head structured n bytes rest count ends.0
    ∙ ap (λ b. by_magic structured b bytes rest)
    (ne_eqb (magic_in bytes) request_magic (λ same. ends.2 (sym read ∙ same)))
    ∙ ap (λ k. stops (BadMagic k) 28) read ∙ ap (λ k. stops (BadMagic m) k) (sym ends.0)
decide-last structured n (TooLong m) ended bytes rest by ends count at_end =
    decide-last_head structured n (TooLong m) bytes rest count ends
decide-last structured n (TooMany m) ended bytes rest by ends count at_end =
    ap (λ b. by_count structured b (bytes ++ rest)) (le-ltb n (2 ^ 32) (omega (arith, count.1)))
    ∙ ap (λ k. stops (TooMany k) 0) (sym count.1 ∙ sym count.0)
    ∙ ap (λ b. stops (TooMany m) (length b)) (sym ends)
decide-last structured n PortSpent ended bytes rest by ends count at_end = absurd by
decide-last structured n ReadFault ended bytes rest by ends count at_end = absurd by
decide-last structured n WriteFault ended bytes rest by ends count at_end = absurd by
decide-last structured n Memory ended bytes rest by ends count at_end = absurd by
decide-last structured n _ ended bytes rest by ends count at_end = absurd ends

-- an end that the input brings
pub record IsEnd (structured : Bool) (ending : Ending) (n : ℕ) (ended : Bool) (bytes : List ℕ) :
    Type 0 where
  pub ends : EndsRequests structured ending ended bytes
  pub count : IsCount (2 ^ 32) ending n
  pub by_input : IsByInput ending

count-most : (ending : Ending) (n : ℕ) → IsCount (2 ^ 32) ending n → n ≤ 2 ^ 32
count-most (TooMany m) n count = omega (arith, count.1)
count-most WriteFault n count = count.1
count-most _ n count = omega arith

pub few : (structured : Bool) (ending : Ending) (n : ℕ) (ended : Bool) (bytes : List ℕ) →
    IsEnd structured ending n ended bytes → n ≤ 2 ^ 32
few structured ending n ended bytes is = count-most ending n is.count

pub last-decides : (structured : Bool) (n : ℕ) (ending : Ending) (ended : Bool)
    (bytes rest : List ℕ) → IsEnd structured ending n ended bytes → (ended ≡ true → rest ≡ []) →
    decide structured n (bytes ++ rest) ≡ stops ending (length bytes)
last-decides structured n ending ended bytes rest is at_end =
    decide-last structured n ending ended bytes rest is.by_input is.ends is.count at_end
