-- What a client was put is read back as the replies to its operations.
use Rattle.std.proofs.Common.{◌≡◌, ℕ, zero, suc, ◌+◌, ◌*◌, ◌<◌, ◌≤◌, arith, List, [], ◌∷◌}
use Rattle.std.proofs.Common.{◌++◌, length, take, drop, map, refl, sym, ◌∙◌, ap, ap₂, subst, append_assoc}
use Rattle.std.proofs.Common.{append-nil, add-one, take-append-drop, length-append, slice_index_or}
use Rattle.std.proofs.Common.{◌==◌, Bool, true, false, MatchBool, eq-eqb, Result, Ok, Err, IfOk}
use Rattle.std.proofs.lemmas.Bool.{eqb-true, false≢true}
use Rattle.std.proofs.lemmas.List.{drop_all, drop_at, drop_more, length-take-le, nil_from_length}
use Rattle.std.specs.List.{range_with_len}
use Rattle.bays.specs.Memory.{Line}
use Rattle.io_edge.specs.Memory.{Input, Output}
use Rattle.nbd_session.specs.Replies.{data_of, simple_text}
use Rattle.plain_disk.specs.declared.operation.Op.{Op}
use Rattle.plain_disk.specs.declared.operation.Op.TheVariants.{Read, Flush}
use Rattle.plain_disk.specs.declared.operation.Reply.{Reply}
use Rattle.plain_disk.specs.declared.operation.Reply.TheVariants.{Content, Done, Errno, ErrnoAt}
use Rattle.plain_disk.specs.Outcomes.{IsServed}
use Rattle.demo_clients.specs.Operations.{demo_operations, operations_on, read_of, write_of}
use Rattle.demo_clients.specs.Replies.{AreFirstReplies, AreReadBack, AreReplies, IsFirstReply}
use Rattle.demo_clients.specs.Replies.{IsLinkReadBack, IsReadBack, granting_head, hand_size}
use Rattle.demo_clients.proofs.FirstReplyLemmas.{replies-once}

-- ---- replies without data
-- a first reply without data is that of an operation that is done
done_built : (text own behind : List ℕ) (first : IsFirstReply 0 text own behind)
    → text ≡ simple_text first.cookie Done ++ behind
done_built text own behind first =
    first.parts
    ∙ ap (λ own. granting_head first.cookie ++ (own ++ behind)) (nil_from_length own first.long)
    ∙ ap (λ head. head ++ behind) (sym (append-nil (granting_head first.cookie)))

done_found : (cookie : ℕ) (reply : Reply) (text behind : List ℕ) → reply ≡ Done
    → text ≡ simple_text cookie reply ++ behind → IsFirstReply 0 text [] behind
done_found cookie reply text behind is parts = record {
  cookie = cookie;
  long = refl;
  parts =
      parts ∙ ap (λ r. simple_text cookie r ++ behind) is
      ∙ ap (λ head. head ++ behind) (append-nil (granting_head cookie));
}

done_data : (reply : Reply) (content later : List ℕ) → reply ≡ Done → content ≡ data_of reply ++ later
    → content ≡ later
done_data reply content later is parts = parts ∙ ap (λ r. data_of r ++ later) is

-- writes and a flush
dones_built : (seed a n : ℕ) (ops : List Op) (text none behind content : List ℕ)
    → AreFirstReplies (suc n) 0 text none behind → AreReplies ops behind content
    → AreReplies (map (write_of seed) (range_with_len a n) ++ Flush ∷ ops) text content
unfolding AreFirstReplies AreReplies
dones_built seed a zero ops text none behind content are replies = (
  are.3.cookie,
  Done,
  are.1,
  content,
  refl,
  done_built text are.0 are.1 are.3,
  refl,
  subst (λ t. AreReplies ops t content) (sym are.5.1) replies,
)
dones_built seed a (suc n) ops text none behind content are replies = (
  are.3.cookie,
  Done,
  are.1,
  content,
  refl,
  done_built text are.0 are.1 are.3,
  refl,
  dones_built seed (a + 1) n ops are.1 are.2 behind content are.5 replies,
)

dones_found : (seed a n : ℕ) (ops : List Op) (text content : List ℕ)
    → AreReplies (map (write_of seed) (range_with_len a n) ++ Flush ∷ ops) text content
    → (behind : List ℕ) × AreFirstReplies (suc n) 0 text [] behind × AreReplies ops behind content
unfolding AreFirstReplies AreReplies
dones_found seed a zero ops text content are = (
  are.2,
  ([], are.2, [], done_found are.0 are.1 text are.2 are.4 are.5, refl, (refl, refl)),
  subst (λ c. AreReplies ops are.2 c) (sym (done_data are.1 content are.3 are.4 are.6)) are.7,
)
dones_found seed a (suc n) ops text content are =
    let below = dones_found seed (a + 1) n ops are.2 are.3 are.7 in (
      below.0,
      ([], are.2, [], done_found are.0 are.1 text are.2 are.4 are.5, refl, below.1),
      subst (λ c. AreReplies ops below.0 c) (sym (done_data are.1 content are.3 are.4 are.6))
          below.2,
    )

-- ---- replies with data
reads_built : (a n : ℕ) (text content : List ℕ) → AreFirstReplies n 512 text content []
    → AreReplies (map read_of (range_with_len a n)) text content
unfolding AreFirstReplies AreReplies
reads_built a zero text content are = (are.1, are.0)
reads_built a (suc n) text content are = (
  are.3.cookie,
  Content are.0,
  are.1,
  are.2,
  are.3.long,
  are.3.parts ∙ sym (append_assoc (granting_head are.3.cookie) are.0 are.1),
  are.4,
  reads_built (a + 1) n are.1 are.2 are.5,
)

-- the content of a read that was served
read_found : (cookie offset len : ℕ) (reply : Reply) (text behind content later : List ℕ)
    → IsServed (Read offset len) reply → text ≡ simple_text cookie reply ++ behind
    → content ≡ data_of reply ++ later
    → (own : List ℕ) × IsFirstReply len text own behind × (content ≡ own ++ later)
read_found cookie offset len (Content bytes) text behind content later served parts is = (
  bytes,
  record {
    cookie = cookie;
    long = served;
    parts = parts ∙ append_assoc (granting_head cookie) bytes behind;
  },
  is,
)
read_found cookie offset len Done text behind content later served parts is = absurd served
read_found cookie offset len (Errno e) text behind content later served parts is = absurd served
read_found cookie offset len (ErrnoAt e at) text behind content later served parts is =
    absurd served

reads_found : (a n : ℕ) (text content : List ℕ)
    → AreReplies (map read_of (range_with_len a n)) text content
    → AreFirstReplies n 512 text content []
unfolding AreFirstReplies AreReplies
reads_found a zero text content are = (are.1, are.0)
reads_found a (suc n) text content are =
    let found = read_found are.0 (512 * a) 512 are.1 text are.2 content are.3 are.4 are.5 are.6 in (
      found.0,
      are.2,
      are.3,
      found.1,
      found.2,
      reads_found (a + 1) n are.2 are.3 are.7,
    )

-- ---- a session
pub client_built : (seed first count : ℕ) (text none reads content : List ℕ)
    → AreFirstReplies (count + 1) 0 text none reads → AreFirstReplies count 512 reads content []
    → AreReplies (operations_on seed first count) text content
unfolding operations_on
client_built seed first count text none reads content dones are =
    dones_built seed first count (map read_of (range_with_len first count)) text none reads content
    (subst (λ (n : ℕ). AreFirstReplies n 0 text none reads) (add-one count) dones)
    (reads_built first count reads content are)

pub client_found : (seed first count : ℕ) (text content : List ℕ)
    → AreReplies (operations_on seed first count) text content
    → (reads : List ℕ) × AreFirstReplies (count + 1) 0 text [] reads
    × AreFirstReplies count 512 reads content []
unfolding operations_on
client_found seed first count text content are =
    let found = dones_found seed first count (map read_of (range_with_len first count)) text content
    are in (
      found.0,
      subst (λ (n : ℕ). AreFirstReplies n 0 text [] found.0) (sym (add-one count)) found.1,
      reads_found first count found.0 content found.2,
    )

-- the bytes behind the handshake
hand_found : (ops : List Op) (had content : List ℕ) (is : IsReadBack ops had content)
    → is.text ≡ drop hand_size had
hand_found ops had content is =
    sym (ap (λ t. drop hand_size t) is.parts ∙ drop_at is.hand is.text hand_size is.size)

pub hand-long : (ops : List Op) (had content : List ℕ) → IsReadBack ops had content
    → hand_size ≤ length had
hand-long ops had content is =
    let long = ap (λ t. length t) is.parts ∙ length-append is.hand is.text in
    omega (arith, long, is.size)

module _ (seed first count : ℕ) (had : List ℕ) where
  pub back_built : (none reads content : List ℕ) → hand_size ≤ length had
      → AreFirstReplies (count + 1) 0 (drop hand_size had) none reads
      → AreFirstReplies count 512 reads content []
      → IsReadBack (operations_on seed first count) had content
  back_built none reads content long dones are = record {
    hand = take hand_size had;
    text = drop hand_size had;
    size = length-take-le hand_size had long;
    parts = sym (take-append-drop hand_size had);
    replies = client_built seed first count (drop hand_size had) none reads content dones are;
  }

  pub back_found : (content : List ℕ) → IsReadBack (operations_on seed first count) had content
      → (reads : List ℕ) × AreFirstReplies (count + 1) 0 (drop hand_size had) [] reads
      × AreFirstReplies count 512 reads content []
  back_found content is =
      client_found seed first count (drop hand_size had) content
      (subst (λ t. AreReplies (operations_on seed first count) t content)
      (hand_found (operations_on seed first count) had content is) is.replies)

  -- where the replies were read so far there is no other content
  pub back_once : (none reads own rest content : List ℕ)
      → AreFirstReplies (count + 1) 0 (drop hand_size had) none reads
      → AreFirstReplies count 512 reads own rest
      → IsReadBack (operations_on seed first count) had content → rest ≡ []
  back_once none reads own rest content dones are is =
      let found = back_found content is in
      let same = replies-once (count + 1) 0 (drop hand_size had) none reads [] found.0 dones
      found.1 in
      (replies-once count 512 reads own rest content [] are
      (subst (λ r. AreFirstReplies count 512 r content []) (sym same.1) found.2)).1

  pub back_reads : (none reads content : List ℕ)
      → AreFirstReplies (count + 1) 0 (drop hand_size had) none reads
      → IsReadBack (operations_on seed first count) had content
      → AreFirstReplies count 512 reads content []
  back_reads none reads content dones is =
      let found = back_found content is in
      let same = replies-once (count + 1) 0 (drop hand_size had) none reads [] found.0 dones
      found.1 in
      subst (λ r. AreFirstReplies count 512 r content []) (sym same.1) found.2

  pub back_none : (none reads : List ℕ)
      → AreFirstReplies (count + 1) 0 (drop hand_size had) none reads → none ≡ []
  unfolding AreFirstReplies
  back_none none reads dones = no_data (count + 1) (drop hand_size had) none reads dones
    where
      no_data : (n : ℕ) (text none reads : List ℕ) → AreFirstReplies n 0 text none reads
          → none ≡ []
      no_data zero text none reads are = are.0
      no_data (suc n) text none reads are =
          are.4
          ∙ ap₂ (λ a b. a ++ b) (nil_from_length are.0 are.3.long)
          (no_data n are.1 are.2 reads are.5)

  -- the end of a session's replies, by whether anything is behind them
  pub back_is : (none reads own rest start middle end : List ℕ) (empty : Bool)
      → hand_size ≤ length had → AreFirstReplies (count + 1) 0 (drop hand_size had) none reads
      → AreFirstReplies count 512 reads own rest → middle ≡ start ++ none → end ≡ middle ++ own
      → empty ≡ (length rest == 0)
      → MatchBool empty ((x : List ℕ) × (end ≡ start ++ x)
      × IsReadBack (operations_on seed first count) had x)
      ((x : List ℕ) → IsReadBack (operations_on seed first count) had x → ⊥)
  back_is none reads own rest start middle end true long dones are here there is =
      let nothing : rest ≡ [] = nil_from_length rest (eqb-true (length rest) 0 (sym is)) in (
        own,
        there ∙ ap (λ text. text ++ own)
            (here ∙ ap (λ text. start ++ text) (back_none none reads dones) ∙ append-nil start),
        back_built none reads own long dones
            (subst (λ r. AreFirstReplies count 512 reads own r) nothing are),
      )
  back_is none reads own rest start middle end false long dones are here there is =
      λ x read. false≢true (is ∙ eq-eqb (length rest) 0
      (ap (λ text. length text) (back_once none reads own rest x dones are read)))

-- ---- links
-- a link whose only connection was put these bytes is read back as these are
pub link_is : {E : Type 0} (ops : List Op) (line : Line) (connection : Input × Output)
    (had start end : List ℕ) (result : Result Bool E) → line.handed ≡ connection ∷ []
    → had ≡ connection.1.had
    → IfOk result (λ is_whole. MatchBool is_whole
    ((x : List ℕ) × (end ≡ start ++ x) × IsReadBack ops had x)
    ((x : List ℕ) → IsReadBack ops had x → ⊥))
    → IfOk result (λ is_whole. MatchBool is_whole
    ((x : List ℕ) × (end ≡ start ++ x) × IsLinkReadBack ops line x)
    ((x : List ℕ) → IsLinkReadBack ops line x → ⊥))
link_is ops line connection had start end (Err e) handed is found = tt
link_is ops line connection had start end (Ok true) handed is found = (
  found.0,
  found.1,
  record {
    connection = connection;
    handed = handed;
    is = subst (λ text. IsReadBack ops text found.0) is found.2;
  },
)
link_is ops line connection had start end (Ok false) handed is never = λ x read.
    let both : connection ∷ [] ≡ read.connection ∷ [] = sym handed ∙ read.handed in
    let same : connection ≡ read.connection = cc in
    never x (subst (λ text. IsReadBack ops text x)
    (sym (is ∙ ap (λ (c : Input × Output). c.1.had) same)) read.is)

module _ (seed m k : ℕ) (links : List Line) where
  -- the links before the `i`-th were read back, and this is their content
  pub record IsReadUpTo (i : ℕ) (content : List ℕ) : Type 0 where
    pub built : (later : List ℕ) → AreReadBack seed m k i (drop i links) later
        → AreReadBack seed m k 0 links (content ++ later)
    pub found : (whole : List ℕ) → AreReadBack seed m k 0 links whole
        → (later : List ℕ) × AreReadBack seed m k i (drop i links) later

  pub up_to_none : IsReadUpTo 0 []
  up_to_none = record { built = λ later are. are; found = λ whole are. (whole, are) }

  module _ (i : ℕ) (line : Line) (inside : i < length links)
      (here : (d : Line) → slice_index_or links i d ≡ line) (content : List ℕ)
      (up_to : IsReadUpTo i content) where
    split : drop i links ≡ line ∷ drop (i + 1) links
    split = drop_more links i line inside
        ∙ ap (λ l. l ∷ drop (i + 1) links) (here line)

    pub up_to_more : (own : List ℕ) → IsLinkReadBack (demo_operations seed m k i) line own
        → IsReadUpTo (i + 1) (content ++ own)
    unfolding AreReadBack
    up_to_more own is = record {
      built = λ later are.
          subst (λ all. AreReadBack seed m k 0 links all) (sym (append_assoc content own later))
          (up_to.built (own ++ later)
          (subst (λ lines. AreReadBack seed m k i lines (own ++ later)) (sym split)
          (own, later, is, refl, are)));
      found = λ whole are.
          let found = up_to.found whole are in
          let parts = subst (λ lines. AreReadBack seed m k i lines found.0) split found.1 in
          (parts.1, parts.4);
    }

    pub up_to_not : ((own : List ℕ) → IsLinkReadBack (demo_operations seed m k i) line own → ⊥)
        → (whole : List ℕ) → AreReadBack seed m k 0 links whole → ⊥
    unfolding AreReadBack
    up_to_not never whole are =
        let found = up_to.found whole are in
        let parts = subst (λ lines. AreReadBack seed m k i lines found.0) split found.1 in
        never parts.0 parts.2

  pub up_to_all : (content : List ℕ) → IsReadUpTo (length links) content
      → AreReadBack seed m k 0 links content
  unfolding AreReadBack
  up_to_all content up_to =
      subst (λ all. AreReadBack seed m k 0 links all) (append-nil content)
      (up_to.built [] (subst (λ lines. AreReadBack seed m k (length links) lines [])
      (sym (drop_all (length links) links (omega arith))) refl))
