-- Why sessions that were served over the clients' links, one over each, are those of a demonstration.
use Rattle.std.proofs.Common.{◌≡◌, inl, inr, ℕ, zero, suc, ◌+◌, ◌%◌, ◌<◌, ◌≤◌, Bool, true, false}
use Rattle.std.proofs.Common.{◌==◌, if◌then◌else◌, List, [], ◌∷◌, length, map, take}
use Rattle.std.proofs.Common.{slice_index_or, Option, Some, None, refl, sym, ◌∙◌, ap, ap₂, subst}
use Rattle.std.proofs.Common.{eq-eqb, ne_eqb, arith, replicate, take_all, mod-eq_of_lt}
use Rattle.std.proofs.lemmas.Bool.{and_parts, cases_eq}
use Rattle.std.proofs.lemmas.List.FromFn.{length-map-range_with_len}
use Rattle.std.specs.List.{list_all, range_with_len}
use Rattle.bays.specs.Bays.{AreFresh, share}
use Rattle.bays.specs.Memory.{Line, Stock, handed_of, inputs_of, is_fresh, script_of, story_of}
use Rattle.bays.specs.Stories.{Handed, Script, Story}
use Rattle.base_terms.specs.Blocks.{lengths}
use Rattle.block_server.specs.Links.{AreServed}
use Rattle.block_server.specs.Sessions.{AreNumbered, AreOfLinks, AreSessions, HasEach, HasNumber}
use Rattle.block_server.specs.Sessions.{IsOfSessions, IsPlayed, Played, Plays}
use Rattle.block_server.specs.Sessions.{numbered, of_link}
use Rattle.block_server.specs.declared.link.Standing.{Standing}
use Rattle.demo_clients.specs.ClientLinks.{client_state}
use Rattle.demo_clients.specs.Connections.{connection_of, demo_connections}
use Rattle.demo_clients.specs.Demonstrations.{IsClient, IsDemonstrated}
use Rattle.demo_clients.specs.Histories.{AreOfClients}
use Rattle.demo_clients.specs.Replies.{AreReadBack}
use Rattle.nbd_hand.specs.declared.export.Export.{Export}
use Rattle.nbd_hand.specs.Handshakes.{greeted}
use Rattle.nbd_session.specs.declared.ending.SessionEnd.{SessionEnd}
use Rattle.nbd_session.specs.Session.{Log}
use Rattle.nbd_session.specs.Turns.{exchanges_of}
use Rattle.nbd_stream.specs.declared.ending.Ending.{Ending}
use Rattle.nbd_stream.specs.declared.ending.Ending.TheVariants.{Disconnected}
use Rattle.nbd_stream.specs.Endings.{IsByInput}
use Rattle.plain_disk.specs.Plain.{Block, Legal}
use Rattle.volume_machine.specs.Answers.{Tagged, of_session, untagged}
use Rattle.reenc_tool.specs.Demonstrating.{all_disconnected, has_disconnected, is_disconnected}

-- ---- the sessions of one link
module _ (export : Export) (may_spend : Type 0) where
  if_sessions : (b : Bool) (one : Played) (rest : List Played) → IsPlayed export may_spend one
      → AreSessions export may_spend rest
      → AreSessions export may_spend (if b then one ∷ rest else rest)
  unfolding AreSessions
  if_sessions true one rest is are = (is, are)
  if_sessions false one rest is are = are

  sessions_of_link : (k : ℕ) (all : List Played) → AreSessions export may_spend all
      → AreSessions export may_spend (of_link k all)
  unfolding AreSessions of_link
  sessions_of_link k [] are = tt
  sessions_of_link k (one ∷ rest) are =
      if_sessions (one.link == k) one (of_link k rest) are.0 (sessions_of_link k rest are.1)

module _ (history : List Tagged) where
  if_each : (b : Bool) (one : Played) (rest : List Played)
      → of_session one.end.number history ≡ exchanges_of one.log.turns → HasEach history rest
      → HasEach history (if b then one ∷ rest else rest)
  unfolding HasEach
  if_each true one rest is each = (is, each)
  if_each false one rest is each = each

  each_of_link : (k : ℕ) (all : List Played) → HasEach history all → HasEach history (of_link k all)
  unfolding HasEach of_link
  each_of_link k [] each = tt
  each_of_link k (one ∷ rest) each =
      if_each (one.link == k) one (of_link k rest) each.0 (each_of_link k rest each.1)

if_number : (n : ℕ) (b : Bool) (one : Played) (rest : List Played) → HasNumber n rest
    → HasNumber n (if b then one ∷ rest else rest)
unfolding HasNumber
if_number n true one rest has = inr has
if_number n false one rest has = has

-- a session is one of some link
number_of_link : (links n : ℕ) (all : List Played) → AreOfLinks links all → HasNumber n all
    → (j : ℕ) × (j < links) × HasNumber n (of_link j all)
unfolding AreOfLinks HasNumber of_link
number_of_link links n [] are has = absurd has
number_of_link links n (one ∷ rest) are (inl same) = (
  one.link,
  are.0,
  subst (λ (b : Bool). HasNumber n (if b then one ∷ of_link one.link rest else of_link one.link rest))
      (sym (eq-eqb one.link one.link refl)) (inl same),
)
number_of_link links n (one ∷ rest) are (inr later) =
    let found = number_of_link links n rest are.1 later in (
      found.0,
      found.1,
      if_number n (one.link == found.0) one (of_link found.0 rest) found.2,
    )

-- the only session, by its end
only_session : (sessions : List Played) (end : SessionEnd)
    → end ∷ [] ≡ map (λ one. one.end) sessions
    → (one : Played) × (sessions ≡ one ∷ []) × (one.end ≡ end)
only_session [] end is = absurd (cc)
only_session (one ∷ []) end is = (one, refl, cc)
only_session (one ∷ (next ∷ rest)) end is = absurd (cc)

-- the log of a link's first session
abbrev pub first_log : List Played → Log
first_log [] = record {
  stage = greeted;
  flags = 0;
  options = [];
  last = None;
  turns = [];
  taken = [];
  whole = [];
  front = [];
  ended = false;
}
first_log (one ∷ rest) = one.log

-- ---- what a link tells
told_by : (b : Bool) (told next : Story) → (if b then Some told else None) ≡ Some next → told ≡ next
told_by true told next is = cc
told_by false told next is = absurd (cc)

told_handed : (line : Line) (next : Story) → story_of line ≡ Some next
    → map handed_of line.handed ≡ next.handed
told_handed line next is = ap (λ (story : Story). story.handed)
    (told_by (list_all is_fresh line.ahead)
    (record { ahead = map script_of line.ahead; handed = map handed_of line.handed }) next is)

-- ---- how connections are dealt
map-map : {X Y Z : Type 0} (g : Y → Z) (f : X → Y) (xs : List X)
    → map g (map f xs) ≡ map (λ x. g (f x)) xs
map-map g f [] = refl
map-map g f (x ∷ xs) = ap (λ rest. g (f x) ∷ rest) (map-map g f xs)

module _ {X : Type 0} (f : ℕ → X) (workers i : ℕ) where
  -- of as many items as workers, each has its own
  share_past : (n count : ℕ) → i < n → n + count ≤ workers
      → share workers i n (map f (range_with_len n count)) ≡ []
  unfolding share
  share_past n zero past few = refl
  share_past n (suc count) past few =
      let rest = share workers i (n + 1) (map f (range_with_len (n + 1) count)) in
      let same : n % workers ≡ n = mod-eq_of_lt (omega (arith, few)) in
      ap (λ (b : Bool). if b then f n ∷ rest else rest)
      (ne_eqb (n % workers) i (λ is. omega (arith, is, same, past)))
      ∙ share_past (n + 1) count (omega (arith, past)) (omega (arith, few))

  share_one : (n count : ℕ) → n ≤ i → i < n + count → n + count ≤ workers
      → share workers i n (map f (range_with_len n count)) ≡ f i ∷ []
  unfolding share
  share_one n zero least below few = absurd (omega (arith, least, below))
  share_one n (suc count) least below few =
      let rest = share workers i (n + 1) (map f (range_with_len (n + 1) count)) in
      let same : n % workers ≡ n = mod-eq_of_lt (omega (arith, few)) in
      elim (cases_eq n i) [
        | inl here ↦
            ap (λ (b : Bool). if b then f n ∷ rest else rest)
            (eq-eqb (n % workers) i (same ∙ here))
            ∙ ap₂ (λ x xs. x ∷ xs) (ap f here)
            (share_past (n + 1) count (omega (arith, here)) (omega (arith, few)))
        | inr other ↦
            ap (λ (b : Bool). if b then f n ∷ rest else rest)
            (ne_eqb (n % workers) i (λ is. other (sym same ∙ is)))
            ∙ share_one (n + 1) count
            (let e : n + 1 ≤ i = omega (arith, least, other) in e)
            (omega (arith, below)) (omega (arith, few))
      ]

-- a link with these connections ahead, which was handed back none
abbrev story_with : List Script → Option Story
story_with ahead = Some (record { ahead = ahead; handed = [] })

-- the connections that a client's link has ahead
dealt : (seed m k i : ℕ) → i < k
    → share k i 0 (take k (map script_of (demo_connections seed m k)))
    ≡ script_of (connection_of seed m k i) ∷ []
unfolding demo_connections
dealt seed m k i below =
    let scripts = map (λ j. script_of (connection_of seed m k j)) (range_with_len 0 k) in
    let all : map script_of (map (connection_of seed m k) (range_with_len 0 k)) ≡ scripts =
    map-map script_of (connection_of seed m k) (range_with_len 0 k) in
    let few : length scripts ≤ k =
    omega (arith, length-map-range_with_len (λ j. script_of (connection_of seed m k j)) 0 k) in
    ap (λ xs. share k i 0 (take k xs)) all
    ∙ ap (λ xs. share k i 0 xs) (take_all k scripts few)
    ∙ share_one (λ j. script_of (connection_of seed m k j)) k i 0 k (omega arith)
    (omega (arith, below)) (omega arith)

-- none of these connections was used
all_fresh : (seed m k a n : ℕ)
    → list_all is_fresh (map (connection_of seed m k) (range_with_len a n)) ≡ true
all_fresh seed m k a zero = refl
all_fresh seed m k a (suc n) = all_fresh seed m k (a + 1) n

-- the inputs of a bay that has them
pub client_inputs : (seed m k : ℕ) (stock : Stock) → stock.connections ≡ demo_connections seed m k
    → inputs_of stock ≡ Some (map script_of (demo_connections seed m k))
unfolding demo_connections
client_inputs seed m k stock is =
    let connections = map (connection_of seed m k) (range_with_len 0 k) in
    ap (λ cs. if list_all is_fresh cs then Some (map script_of cs) else None) is
    ∙ ap (λ (b : Bool). if b then Some (map script_of connections) else None)
    (all_fresh seed m k 0 k)

-- ---- how sessions ended
every : {X : Type 0} (test : X → Bool) (xs : List X) (i : ℕ) (d : X) → list_all test xs ≡ true
    → i < length xs → test (slice_index_or xs i d) ≡ true
every test [] i d all inside = absurd (omega (arith, inside))
every test (x ∷ xs) zero d all inside = (and_parts (test x) (list_all test xs) all).0
every test (x ∷ xs) (suc i) d all inside =
    every test xs i d (and_parts (test x) (list_all test xs) all).1 (omega (arith, inside))

by_disconnecting : (ending : Ending) → is_disconnected ending ≡ true → ending ≡ Disconnected
by_disconnecting Disconnected is = refl
by_disconnecting _ is = absurd (cc)

ended_by : (list : List SessionEnd) → has_disconnected list ≡ true
    → (end : SessionEnd) × (list ≡ end ∷ []) × (end.ending ≡ Disconnected)
ended_by [] is = absurd (cc)
ended_by (end ∷ []) is = (end, refl, by_disconnecting end.ending is)
ended_by (end ∷ (next ∷ rest)) is = absurd (cc)

-- ---- one client
record IsOne (seed m k i : ℕ) (export : Export) (may_spend : Type 0) (history : List Tagged)
    (old new : Line) (sessions : List Played) : Type 0 where
  one : Played
  only : sessions ≡ one ∷ []
  number : one.end.number ≡ i
  ended : one.end.ending ≡ Disconnected
  is : IsPlayed export may_spend one
  next : Story
  told : story_of new ≡ Some next
  plays : Plays (record { ahead = script_of (connection_of seed m k i) ∷ []; handed = [] }) next
      (one ∷ [])
  submitted : of_session one.end.number history ≡ exchanges_of one.log.turns

by_input : (end : SessionEnd) → end.ending ≡ Disconnected → IsByInput end.ending
by_input end is = subst (λ ending. IsByInput ending) (sym is) tt

module _ (seed m k i : ℕ) (export : Export) (may_spend : Type 0) (history : List Tagged)
    (old new : Line) (sessions : List Played)
    (is : IsOne seed m k i export may_spend history old new sessions) where
  client_of : IsClient seed m k i new is.one.log
  unfolding Plays
  client_of =
      let plays = is.plays in
      let script_is : script_of (connection_of seed m k i) ≡ plays.0 = cc in
      let next_is : is.next.handed ≡ plays.2 ∷ [] = ap (λ (s : Story). s.handed) plays.6 in
      record {
        export = numbered export is.one.end.number;
        end = is.one.end;
        old = is.one.before;
        new = is.one.after;
        session = is.is.session;
        input = ap (λ moment. moment.source.left) plays.4
            ∙ ap (λ (s : Script). Some s.input) (sym script_is);
        none = ap (λ moment. moment.sink.had) plays.4;
        ended = by_input is.one.end is.ended;
        put = λ connection handed.
            let all : handed_of connection ∷ [] ≡ plays.2 ∷ [] =
            sym (ap (λ xs. map handed_of xs) handed) ∙ told_handed new is.next is.told ∙ next_is in
            let same : handed_of connection ≡ plays.2 = cc in
            ap (λ moment. moment.sink.had) plays.5
            ∙ ap (λ (h : Handed). Some h.had) (sym same);
      }

  client_first : IsClient seed m k i new (first_log sessions)
  client_first = subst (λ (xs : List Played). IsClient seed m k i new (first_log xs)) (sym is.only)
      client_of

  submitted_first : of_session i history ≡ exchanges_of (first_log sessions).turns
  submitted_first =
      ap (λ (n : ℕ). of_session n history) (sym is.number) ∙ is.submitted
      ∙ ap (λ (xs : List Played). exchanges_of (first_log xs).turns) (sym is.only)

-- ---- all of them
module _ (seed m k : ℕ) (export : Export) (may_spend : Type 0) (olds news : List Line)
    (ends : List (List SessionEnd)) (standings : List Standing) (all : List Played)
    (history : List Tagged) (sessions : AreSessions export may_spend all)
    (served : AreServed client_state olds news ends standings all) (each : HasEach history all)
    (known : IsOfSessions all history) (links : length olds ≡ k)
    (fresh : AreFresh client_state (Some (map script_of (demo_connections seed m k))) k k olds)
    (disconnected : all_disconnected ends ≡ true) where
  ended : (i : ℕ) → i < k → (end : SessionEnd) × (slice_index_or ends i [] ≡ end ∷ [])
      × (end.ending ≡ Disconnected)
  ended i below = ended_by (slice_index_or ends i [])
      (every has_disconnected ends i [] disconnected
      (omega (arith, below, links, served.lists)))

  begun : (i : ℕ) (d : Line) → i < k → (client_state (slice_index_or olds i d)).story
      ≡ Some (record { ahead = script_of (connection_of seed m k i) ∷ []; handed = [] })
  begun i d below =
      fresh (map script_of (demo_connections seed m k)) refl i d below
      ∙ ap (λ ahead. story_with ahead) (dealt seed m k i below)

  one_at : (i : ℕ) (d : Line) → i < k
      → IsOne seed m k i export may_spend history (slice_index_or olds i d)
      (slice_index_or news i d) (of_link i all)
  unfolding AreNumbered AreSessions HasEach
  one_at i d below =
      let own = served.each i d (subst (λ (n : ℕ). i < n) (sym links) below) in
      let its = ended i below in
      let only = only_session (of_link i all) its.0 (sym its.1 ∙ own.ends_are) in
      let goes = own.goes
      (record { ahead = script_of (connection_of seed m k i) ∷ []; handed = [] })
      (begun i d below) in
      record {
        one = only.0;
        only = only.1;
        number = (subst (λ xs. AreNumbered (length olds) i xs) only.1 own.numbers).0;
        ended = ap (λ (end : SessionEnd). end.ending) only.2 ∙ its.2;
        is = (subst (λ xs. AreSessions export may_spend xs) only.1
            (sessions_of_link export may_spend i all sessions)).0;
        next = goes.0;
        told = goes.1;
        plays = subst (λ xs. Plays
            (record { ahead = script_of (connection_of seed m k i) ∷ []; handed = [] }) goes.0 xs)
            only.1 goes.2;
        submitted = (subst (λ xs. HasEach history xs) only.1 (each_of_link history i all each)).0;
      }

  -- some line, where there is none
  no_line : Line
  no_line = record {
    ahead = [];
    lent = 0;
    handed = [];
    room = 0;
    plan = record { fails = []; calls = 0; faults = 0 };
  }

  number_below : (n : ℕ) → HasNumber n all → n < k
  unfolding HasNumber
  number_below n has =
      let found = number_of_link k n all
      (subst (λ (l : ℕ). AreOfLinks l all) links served.none_other) has in
      let one = one_at found.0 no_line found.1 in
      elim (subst (λ xs. HasNumber n xs) one.only found.2) [
        | inl same ↦ subst (λ (j : ℕ). j < k) (sym one.number ∙ same) found.1
        | inr none ↦ absurd none
      ]

  clients_of : (rest : List Tagged) → IsOfSessions all rest → AreOfClients k rest
  unfolding IsOfSessions AreOfClients
  clients_of [] are = tt
  clients_of (one ∷ rest) are = (number_below one.session are.0, clients_of rest are.1)

  pub demonstrated : (blocks left : List Block) (content : List ℕ)
      → lengths (map (λ block. block.newest) blocks) ≡ replicate m 512
      → Legal 512 blocks (untagged history) left → AreReadBack seed m k 0 news content
      → IsDemonstrated seed m k blocks history left news (λ i. first_log (of_link i all)) content
  demonstrated blocks left content even legal read = record {
    even = even;
    legal = legal;
    clients = clients_of history known;
    submitted = λ i below. submitted_first seed m k i export may_spend history
        (slice_index_or olds i no_line) (slice_index_or news i no_line) (of_link i all)
        (one_at i no_line below);
    links = served.links ∙ links;
    each = λ i d below. client_first seed m k i export may_spend history (slice_index_or olds i d)
        (slice_index_or news i d) (of_link i all) (one_at i d below);
    read = read;
  }
