-- Why a demonstration tells what its clients wrote and read.
use Rattle.std.proofs.Common.{◌≡◌, ℕ, zero, suc, ◌+◌, ◌-◌, ◌<◌, ◌≤◌, arith, List, [], ◌∷◌, ◌++◌}
use Rattle.std.proofs.Common.{length, map, get_or, refl, sym, ◌∙◌, ap, ap₂, subst, append_assoc}
use Rattle.std.proofs.Common.{add-zero}
use Rattle.std.proofs.lemmas.List.{map-append}
use Rattle.std.specs.List.{range_with_len}
use Rattle.base_terms.specs.Blocks.{joined}
use Rattle.bays.specs.Memory.{Line}
use Rattle.io_edge.specs.Memory.{Input, Output}
use Rattle.nbd_session.specs.Replies.{data_of}
use Rattle.nbd_session.specs.Session.{Log}
use Rattle.nbd_session.specs.Turns.{exchanges_of}
use Rattle.plain_disk.specs.declared.operation.Op.{Op}
use Rattle.plain_disk.specs.declared.operation.Op.TheVariants.{Flush}
use Rattle.plain_disk.specs.Plain.{Block, Exchange}
use Rattle.volume_machine.specs.Answers.{Tagged, of_session}
use Rattle.demo_clients.specs.Asking.{AreGranted, SessionsAsk}
use Rattle.demo_clients.specs.Contents.{demo_block, demo_content, share_count, share_of}
use Rattle.demo_clients.specs.Demonstrations.{DemonstrationsAreTold, GrantedIsReadBack, IsClient}
use Rattle.demo_clients.specs.Demonstrations.{IsDemonstrated, IsTold}
use Rattle.demo_clients.specs.Demonstrations.{content_in}
use Rattle.demo_clients.specs.Histories.{IsDemonstration, LeavesContent, demo_reply}
use Rattle.demo_clients.specs.Operations.{AllServed, demo_operations, operations_on, ops_of, read_of}
use Rattle.demo_clients.specs.Operations.{write_of}
use Rattle.demo_clients.specs.Replies.{AreReadBack, IsLinkReadBack}
use Rattle.demo_clients.proofs.HistoryLemmas.{leaves-content}
use Rattle.demo_clients.proofs.OwnerLemmas.{share-first, share-last, share-order}
use Rattle.demo_clients.proofs.StepLemmas.{at_block}
use Rattle.demo_clients.proofs.ToldLemmas.{replies-read, replies-told}

-- ---- contents of blocks in a row
joined-append : (xs ys : List (List ℕ)) → joined (xs ++ ys) ≡ joined xs ++ joined ys
unfolding joined
joined-append [] ys = refl
joined-append (x ∷ xs) ys =
    ap (λ rest. x ++ rest) (joined-append xs ys) ∙ sym (append_assoc x (joined xs) (joined ys))

range-append : (a n more : ℕ)
    → range_with_len a (n + more) ≡ range_with_len a n ++ range_with_len (a + n) more
range-append a zero more =
    let none : 0 + more ≡ more = omega arith in
    ap₂ (λ b count. range_with_len b count) (sym (add-zero a)) none
range-append a (suc n) more =
    let one : suc n + more ≡ suc (n + more) = omega arith in
    let place : a + 1 + n ≡ a + suc n = omega arith in
    ap (λ count. range_with_len a count) one
    ∙ ap (λ rest. a ∷ rest)
    (range-append (a + 1) n more
    ∙ ap (λ b. range_with_len (a + 1) n ++ range_with_len b more) place)

-- the content of so many blocks
abbrev content_of : (seed first count : ℕ) → List ℕ
content_of seed first count = joined (map (demo_block seed) (range_with_len first count))

content-append : (seed first count more : ℕ) → content_of seed first (count + more)
    ≡ content_of seed first count ++ content_of seed (first + count) more
content-append seed first count more =
    ap (λ numbers. joined (map (demo_block seed) numbers)) (range-append first count more)
    ∙ ap (λ blocks. joined blocks)
    (map-append (demo_block seed) (range_with_len first count)
    (range_with_len (first + count) more))
    ∙ joined-append (map (demo_block seed) (range_with_len first count))
    (map (demo_block seed) (range_with_len (first + count) more))

-- ---- what a client reads
abbrev read_by : (seed : ℕ) → List Op → List ℕ
read_by seed ops = joined (map data_of (map (demo_reply seed) ops))

reads_content : (seed a n : ℕ)
    → read_by seed (map read_of (range_with_len a n)) ≡ content_of seed a n
unfolding joined
reads_content seed a zero = refl
reads_content seed a (suc n) =
    ap₂ (λ x xs. x ++ xs) (ap (λ b. demo_block seed b) (at_block a)) (reads_content seed (a + 1) n)

writes_none : (seed a n : ℕ) (ops : List Op)
    → read_by seed (map (write_of seed) (range_with_len a n) ++ ops) ≡ read_by seed ops
unfolding joined
writes_none seed a zero ops = refl
writes_none seed a (suc n) ops = writes_none seed (a + 1) n ops

flush_none : (seed : ℕ) (ops : List Op) → read_by seed (Flush ∷ ops) ≡ read_by seed ops
unfolding joined
flush_none seed ops = refl

no_content : (seed first : ℕ) → content_of seed first 0 ≡ []
unfolding joined
no_content seed first = refl

client_content : (seed first count : ℕ)
    → read_by seed (operations_on seed first count) ≡ content_of seed first count
unfolding operations_on
client_content seed first count =
    writes_none seed first count (Flush ∷ map read_of (range_with_len first count))
    ∙ flush_none seed (map read_of (range_with_len first count))
    ∙ reads_content seed first count

module _ (seed m k : ℕ) (some : 0 < k) where
  -- ---- what all links were handed back
  read_at : (i : ℕ) (lines : List Line) (content : List ℕ) → AreReadBack seed m k i lines content
      → (j n : ℕ) (d : Line) → j < length lines → i + j ≡ n
      → (own : List ℕ) × IsLinkReadBack (demo_operations seed m k n) (get_or lines j d) own
  unfolding AreReadBack
  read_at i [] content are j n d inside is = absurd (omega (arith, inside))
  read_at i (line ∷ lines) content are zero n d inside is = (
    are.0,
    subst (λ (l : ℕ). IsLinkReadBack (demo_operations seed m k l) line are.0)
        (let e : i ≡ n = omega (arith, is) in e) are.2,
  )
  read_at i (line ∷ lines) content are (suc j) n d inside is =
      read_at (i + 1) lines are.1 are.4 j n d (omega (arith, inside)) (omega (arith, is))

  all_read : (i : ℕ) (lines : List Line) (content : List ℕ) → i + length lines ≡ k
      → ((j n : ℕ) (d : Line) (own : List ℕ) → j < length lines → i + j ≡ n
      → IsLinkReadBack (demo_operations seed m k n) (get_or lines j d) own
      → own ≡ content_of seed (share_of n m k) (share_count n m k))
      → AreReadBack seed m k i lines content
      → content ≡ content_of seed (share_of i m k) (m - share_of i m k)
  unfolding AreReadBack
  all_read i [] content is owns are =
      let last : i ≡ k = omega (arith, is) in
      let none : m - share_of i m k ≡ 0 =
      ap (λ (n : ℕ). m - share_of n m k) last
      ∙ (let e = share-last m k some in omega (arith, e)) in
      are
      ∙ sym (ap (λ count. content_of seed (share_of i m k) count) none
      ∙ no_content seed (share_of i m k))
  all_read i (line ∷ lines) content is owns are =
      let rises = share-order m k some i (i + 1) (omega arith) in
      let ends : share_of (i + 1) m k ≤ m =
      subst (λ (n : ℕ). share_of (i + 1) m k ≤ n) (share-last m k some)
      (share-order m k some (i + 1) k (omega (arith, is))) in
      let next : share_of i m k + share_count i m k ≡ share_of (i + 1) m k =
      omega (arith, rises) in
      let count : m - share_of i m k ≡ share_count i m k + (m - share_of (i + 1) m k) =
      omega (arith, rises, ends) in
      are.3
      ∙ ap₂ (λ x xs. x ++ xs) (owns 0 i line are.0 (omega arith) (omega arith) are.2)
      (all_read (i + 1) lines are.1 (omega (arith, is))
      (λ j n d own inside at. owns (suc j) n d own (omega (arith, inside)) (omega (arith, at)))
      are.4
      ∙ ap (λ (b : ℕ). content_of seed b (m - share_of (i + 1) m k)) (sym next))
      ∙ sym (ap (λ (n : ℕ). content_of seed (share_of i m k) n) count
      ∙ content-append seed (share_of i m k) (share_count i m k) (m - share_of (i + 1) m k))

-- ---- one session
record IsToldOf (ops : List Op) (exchanges : List Exchange) (content : List ℕ) : Type 0 where
  asked : ops_of exchanges ≡ ops
  served : AllServed exchanges
  content_is : content ≡ content_in exchanges

client_told : SessionsAsk → (seed m k i : ℕ) (line : Line) (log : Log) (content : List ℕ)
    → m ≤ 16384 → i < k → IsClient seed m k i line log
    → IsLinkReadBack (demo_operations seed m k i) line content
    → IsToldOf (demo_operations seed m k i) (exchanges_of log.turns) content
client_told ask seed m k i line log content few below is link =
    let ops = demo_operations seed m k i in
    let scripted = ask is.export is.end is.old is.new log seed m k i few below is.session is.input
    is.none is.ended in
    let told = replies-told is.export is.end is.old is.new log ops link.connection.1.had content
    is.session scripted (is.put link.connection link.handed) link.is in
    let serves = scripted.serves told.0 in
    record { asked = serves.0; served = serves.1; content_is = told.1 }

-- ---- all of them
module _ (ask : SessionsAsk) (seed m k : ℕ) (blocks : List Block) (history : List Tagged)
    (left : List Block) (lines : List Line) (logs : ℕ → Log) (content : List ℕ) (few : m ≤ 16384)
    (some : 0 < k) (is : IsDemonstrated seed m k blocks history left lines logs content) where
  line_at : (i : ℕ) (d : Line) → i < k
      → (own : List ℕ) × IsLinkReadBack (demo_operations seed m k i) (get_or lines i d) own
  line_at i d below = read_at seed m k some 0 lines content is.read i i d
      (omega (arith, below, is.links)) (omega arith)

  told_at : (i : ℕ) (d : Line) (own : List ℕ) → i < k
      → IsLinkReadBack (demo_operations seed m k i) (get_or lines i d) own
      → IsToldOf (demo_operations seed m k i) (of_session i history) own
  told_at i d own below link =
      subst (λ exchanges. IsToldOf (demo_operations seed m k i) exchanges own)
      (sym (is.submitted i below))
      (client_told ask seed m k i (get_or lines i d) (logs i) own few below (is.each i d below) link)

  -- some line, where there is none
  told_of : (i : ℕ) → i < k → (own : List ℕ)
      × IsToldOf (demo_operations seed m k i) (of_session i history) own
  told_of i below =
      let line = line_at i no_line below in (line.0, told_at i no_line line.0 below line.1)
    where
      no_line : Line
      no_line = record {
        ahead = [];
        lent = 0;
        handed = [];
        room = 0;
        plan = record { fails = []; calls = 0; faults = 0 };
      }

  demonstrates : IsDemonstration seed m k blocks history left
  demonstrates = record {
    even = is.even;
    legal = is.legal;
    clients = is.clients;
    asked = λ i below. (told_of i below).1.asked;
    served = λ i below. (told_of i below).1.served;
  }

  leaves : LeavesContent seed m k history left
  leaves = leaves-content seed m k blocks history left some demonstrates

  own_content : (i : ℕ) (d : Line) (own : List ℕ) → i < k
      → IsLinkReadBack (demo_operations seed m k i) (get_or lines i d) own
      → own ≡ content_of seed (share_of i m k) (share_count i m k)
  own_content i d own below link =
      (told_at i d own below link).content_is
      ∙ ap (λ replies. joined (map data_of replies)) (leaves.replies i below)
      ∙ client_content seed (share_of i m k) (share_count i m k)

  pub is-told : IsTold seed m k history left content
  unfolding demo_content
  is-told = record {
    asked = demonstrates.asked;
    served = demonstrates.served;
    newest = leaves.newest;
    content_is =
        let first = share-first m k some in
        all_read seed m k some 0 lines content (let e = is.links in omega (arith, e))
        (λ j n d own inside at.
        let same : j ≡ n = omega (arith, at) in
        λ link. subst (λ (i : ℕ). own ≡ content_of seed (share_of i m k) (share_count i m k)) same
        (own_content j d own (omega (arith, inside, is.links))
        (subst (λ (i : ℕ). IsLinkReadBack (demo_operations seed m k i) (get_or lines j d) own)
        (sym same) link)))
        is.read
        ∙ ap₂ (λ a n. content_of seed a n) first
        (let e : m - share_of 0 m k ≡ m = omega (arith, first) in e);
  }

pub demonstrations-told : SessionsAsk → DemonstrationsAreTold
demonstrations-told ask seed m k blocks history left lines logs content few some is =
    is-told ask seed m k blocks history left lines logs content few some is

-- ---- all is read back
all_back : (seed m k i : ℕ) (lines : List Line)
    → ((j n : ℕ) (d : Line) → j < length lines → i + j ≡ n
    → (own : List ℕ) × IsLinkReadBack (demo_operations seed m k n) (get_or lines j d) own)
    → (content : List ℕ) × AreReadBack seed m k i lines content
unfolding AreReadBack
all_back seed m k i [] each = ([], refl)
all_back seed m k i (line ∷ lines) each =
    let first = each 0 i line (omega arith) (omega arith) in
    let later = all_back seed m k (i + 1) lines
    (λ j n d inside at. each (suc j) n d (omega (arith, inside)) (omega (arith, at))) in
    (first.0 ++ later.0, (first.0, later.0, first.1, refl, later.1))

client_back : SessionsAsk → (seed m k i : ℕ) (line : Line) (log : Log) (connection : Input × Output)
    → m ≤ 16384 → i < k → IsClient seed m k i line log → line.handed ≡ connection ∷ []
    → AreGranted log.turns
    → IsLinkReadBack (demo_operations seed m k i) line (content_in (exchanges_of log.turns))
client_back ask seed m k i line log connection few below is handed granted =
    let scripted = ask is.export is.end is.old is.new log seed m k i few below is.session is.input
    is.none is.ended in
    record {
      connection = connection;
      handed = handed;
      is = replies-read is.export is.end is.old is.new log (demo_operations seed m k i)
          connection.1.had is.session scripted (is.put connection handed) granted;
    }

pub granted-read : SessionsAsk → GrantedIsReadBack
granted-read ask seed m k lines logs few links each handed granted =
    all_back seed m k 0 lines (λ j n d inside at.
    let same : j ≡ n = omega (arith, at) in
    let below : j < k = omega (arith, inside, links) in
    let one = handed j d below in
    subst (λ (i : ℕ). (own : List ℕ) × IsLinkReadBack (demo_operations seed m k i)
    (get_or lines j d) own) same (
      content_in (exchanges_of (logs j).turns),
      client_back ask seed m k j (get_or lines j d) (logs j)
          one.0 few below (each j d below) one.1 (granted j below),
    ))
