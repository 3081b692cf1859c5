-- Histories of deeds in which no count of faults moves.
use Rattle.std.proofs.Common.{Bool, List, MatchBool, MatchOption, None, Option, Some, [], ap, arith}
use Rattle.std.proofs.Common.{false, inl, inr, length, length-append, refl, subst, sym, true, ℕ}
use Rattle.std.proofs.Common.{◌*◌, ◌++◌, ◌+◌, ◌-◌, ◌/◌, ◌<◌, ◌^◌, ◌∙◌, ◌∷◌, ◌≡◌, ◌≢◌, ◌⊎◌, suc}
use Rattle.std.proofs.lemmas.Bool.{MatchBool-at_false, cases_eq as same_or_not}
use Rattle.std.proofs.lemmas.Bool.{cases_Bool as either}
use Rattle.base_terms.specs.Causes.{Rose}
use Rattle.plain_disk.specs.Operations.{touched, touched_end, wrong_of}
use Rattle.plain_disk.specs.Plain.{Exchange}
use Rattle.plain_disk.specs.declared.operation.Reply.TheVariants.{Content, Done, Errno}
use Rattle.range_lock.specs.declared.Entry.{Entry}
use Rattle.segment_map.specs.declared.map.Piece.{Piece}
use Rattle.volume_machine.specs.Answers.{Answered, Asked, IsExchange, by_admit, by_finish}
use Rattle.volume_machine.specs.Answers.{by_settle, full_reply, refusal, AreExchanges}
use Rattle.volume_machine.specs.Asks.{has_lock, range_of, wrong_ask}
use Rattle.volume_machine.specs.Edges.{InPlain, in_range, nothing, with_bytes, with_edge}
use Rattle.volume_machine.specs.Events.{Event, Outcome, admits, asks, broken, device, done}
use Rattle.volume_machine.specs.Events.{fetches, finishes, got, reads, refused, settles, writes}
use Rattle.volume_machine.specs.Pieces.{ArePieceBytes, IsComplete, IsPieceOf, fetching, moved}
use Rattle.volume_machine.specs.Pieces.{settling, side_in}
use Rattle.volume_machine.specs.Runs.{after_fetch, after_read, after_write, no_plain, plain_edge}
use Rattle.volume_machine.specs.Runs.{plain_piece, with_plain}
use Rattle.volume_machine.specs.Runs.{answered_by, plain_after}
use Rattle.volume_machine.specs.Seals.{AreLawful, Seals}
use Rattle.volume_machine.specs.Sound.{IsSound}
use Rattle.volume_machine.specs.States.{State, begun, open_at, size_of, IsClient}
use Rattle.volume_machine.specs.Steps.{CanSettle, EdgeStep, FinishStep, Goes, IsAdmitted, Meets}
use Rattle.volume_machine.specs.Steps.{ReadStep, SettleStep, WriteStep, Can, Step}
use Rattle.plain_disk.specs.Outcomes.{AreServed, IsServed}
use Rattle.plain_disk.proofs.MeaningLemmas.{meaning_served}
use Rattle.volume_laws.proofs.BesideLanes.ClientsLeft.{clients_left}
use Rattle.volume_laws.specs.BesideLanes.Lanes.{BeginsBeside, IsKept}
use Rattle.volume_machine.specs.Deeds.{Act, AreDeeds, Deed, Does, answered_of, answered_over, client}
use Rattle.volume_machine.specs.Deeds.{plain_by, state_after, worker}
use Rattle.volume_machine.specs.Readings.{Reading}
use Rattle.volume_machine.specs.declared.ask.Ask.TheVariants.{Flush, Read, Write}
use Rattle.volume_machine.specs.declared.{ask.Ask.Ask, open.Open.Open}
use Rattle.volume_machine.proofs.{Soundness.sound_kept}
use Rattle.volume_laws.proofs.{Admits.plain-other, Admits.plain-own, Admits.unanswered}
use Rattle.volume_laws.proofs.{Answering.wrong_asked, EdgedText.length-in_range, Here.some_atom}
use Rattle.volume_laws.proofs.{EventsServed.forced_locks, Reading.piece_blocks}
use Rattle.volume_laws.proofs.BesideServing.{Failures.broken_by, Failures.deeds_later, Failures.faults_on}
use Rattle.volume_laws.proofs.BesideServing.{Failures.in_order, Failures.kept_on, Failures.rose_by, Failures.same_on}
use Rattle.volume_laws.proofs.BesideServing.{Failures.settled_is}
use Rattle.volume_laws.specs.BesideServing.Replies.{ServesWithoutFaults}

-- a count that rose didn't stay below its last value
rose_not : (before now : ℕ) → Rose before now → now ≡ before → before < 2 ^ 64 - 1 → ⊥
rose_not before now (inl less) same below = omega arith
rose_not before now (inr last) same below = omega arith

-- an operation that isn't wrong got all its bytes, or is done; a wrong one is refused with its
-- number
abbrev IsFull : Answered → Ask → Type 0
IsFull answered (Read offset len) =
    (bytes : List ℕ) × (answered.reply ≡ Content bytes) × (length bytes ≡ len)
IsFull answered (Write offset len fua) = answered.reply ≡ Done
IsFull answered Flush = answered.reply ≡ Done

unfoldable AreFull : ℕ → ℕ → List Answered → Type 0
AreFull atom size [] = Unit {0}
AreFull atom size (answered ∷ rest) = MatchOption (wrong_ask atom size answered.ask) (IsFull
    answered answered.ask) (λ number. answered.reply ≡ Errno number) × AreFull atom size rest

-- a lane whose operation hasn't failed has had so much of it in plain
abbrev HasHad : ℕ → InPlain → Open → Type 0
HasHad atom plain o = (o.failed ≡ false)
    × (has_lock o.ask ≡ true → length plain.bytes ≡ (o.next - o.range.start) * atom)

-- nothing of clients has failed, and each operation of theirs knows what its pieces hold
record IsFine {K : Type 0} (state : State K) (seals : Seals) (plain : ℕ → InPlain) : Type 0 where
  sound : IsSound state
  lawful : AreLawful state.map.atom seals
  unbroken : state.broken ≡ false
  lanes : (lane : ℕ) → IsClient state lane → (o : Open) → open_at state.lanes lane ≡ Some o →
      HasHad state.map.atom (plain lane) o

fine_after : {K : Type 0} {old new : State K} {seals : Seals} {plain now : ℕ → InPlain} {lane : ℕ}
    {entries : List Entry} {next : Option Open} {is_broken : Bool}
    → IsFine old seals plain → IsSound new → Goes old new lane entries next is_broken
    → is_broken ≡ false → ((k : ℕ) → k ≢ lane → now k ≡ plain k)
    → ((o : Open) → next ≡ Some o → HasHad old.map.atom (now lane) o) → IsFine new seals now
fine_after {old} {now = now} fine sound goes whole known own = record {
  sound = sound;
  lawful = rw goes.map fine.lawful;
  unbroken = goes.broken_is ∙ whole;
  lanes = λ k own_lane o is. rw goes.map (elim (same_or_not k _) [
    | inl same ↦ subst (λ n. HasHad old.map.atom (now n) o) (sym same)
        (own o (sym goes.lane_is.own ∙ rw same at is))
    | inr other ↦ rw (known k other) (fine.lanes k
        (subst (λ n. suc k < n) goes.lane_is.count own_lane) o
        (sym (goes.lane_is.others k other) ∙ is))
  ]);
}

-- the moment after an event, and that what was answered is full
record FineAfter {K : Type 0} (old new : State K) (seals : Seals) (now : ℕ → InPlain)
    (answered : List Answered) : Type 0 where
  fine : IsFine new seals now
  full : AreFull old.map.atom (size_of old.map) answered

none_full : (atom size : ℕ) → AreFull atom size []
unfolding AreFull
none_full atom size = tt

one_full : (atom size : ℕ) (answered : Answered) → wrong_ask atom size answered.ask ≡ None →
    IsFull answered answered.ask → AreFull atom size (answered ∷ [])
unfolding AreFull
one_full atom size answered proper full = (rw proper full, tt)

wrong_full : (atom size session number : ℕ) (ask : Ask) → wrong_ask atom size ask ≡ Some number
    → AreFull atom size (refusal atom session ask number ∷ [])
unfolding AreFull
wrong_full atom size session number ask wrong = (rw wrong refl, tt)

-- a settle
settle_full : {K : Type 0} (old : State K) (o : Open)
    → wrong_ask old.map.atom (size_of old.map) o.ask ≡ None → CanSettle o
    → AreFull old.map.atom (size_of old.map) (by_settle old.map.atom (Some o) done)
settle_full old o proper (inl is) = rw is (one_full old.map.atom (size_of old.map)
    (record {
      session = o.session;
      atom = old.map.atom;
      ask = Flush;
      plain = nothing;
      reply = Done;
    }) refl refl)
settle_full old o proper (inr (forced, ended, unfailed, unsettled)) =
    rw (forced_locks o.ask forced) (none_full old.map.atom (size_of old.map))

module _ {K : Type 0} {old new : State K} {seals : Seals} {plain : ℕ → InPlain} (lane : ℕ)
    (own_lane : IsClient old lane) (fine : IsFine old seals plain) (sound : IsSound new) where
  -- a piece was made
  fine_moved : (o : Open) (piece : Piece) (bytes : List ℕ) → open_at old.lanes lane ≡ Some o →
      IsPieceOf old.map o piece → ArePieceBytes old.map piece bytes →
      Goes old new lane old.entries (Some (moved o piece)) false →
      IsFine new seals
      (with_plain plain lane (with_bytes (plain lane) (plain_piece seals old lane bytes)))
  fine_moved o piece bytes at next are goes =
      let had = fine.lanes lane own_lane o at in
      let now = with_bytes (plain lane) (plain_piece seals old lane bytes) in
      let opened : plain_piece seals old lane bytes
      ≡ seals.opened (side_in old.map o.next) o.next bytes = rw at refl in
      let count : (moved o piece).next - o.range.start ≡ (o.next - o.range.start) + piece.count =
      omega (arith, (fine.sound.under_way lane o at).begun) in
      fine_after fine sound goes refl (plain-other plain lane now) (λ p is.
      let e : p ≡ moved o piece = cc in rw (e, plain-own plain lane now) (
        had.0,
        λ has. length-append (plain lane).bytes (plain_piece seals old lane bytes)
            ∙ rw (count, opened, had.1 has, (piece_blocks o next fine.lawful are).size)
            (grind arith),
      ))

  fine_read : (o : Open) (outcome : Outcome) → (Rose old.disk.faults new.disk.faults → ⊥) →
      open_at old.lanes lane ≡ Some o → ReadStep old lane o outcome new →
      IsFine new seals (after_read seals old lane outcome plain)
  fine_read o (got bytes) calm at step =
      fine_moved o step.piece bytes at step.next step.are step.goes
  fine_read o device calm at step = absurd (calm (step.call.cause.failed refl))
  fine_read o broken calm at step = absurd (cc)
  fine_read o _ calm at step = absurd step

  fine_fetch : (which : ℕ) (o : Open) (outcome : Outcome) →
      (Rose old.disk.faults new.disk.faults → ⊥) → open_at old.lanes lane ≡ Some o →
      EdgeStep old lane o which outcome new →
      IsFine new seals (after_fetch seals old lane which outcome plain)
  fine_fetch which o (got bytes) calm at step =
      let had = fine.lanes lane own_lane o at in
      let now = with_edge (plain lane) (plain_edge seals old lane which bytes) in
      fine_after fine sound step.goes refl (plain-other plain lane now)
      (λ p is. let e : p ≡ fetching o = cc in rw (e, plain-own plain lane now) (had.0, had.1))
  fine_fetch which o device calm at step = absurd (calm (step.call.cause.failed refl))
  fine_fetch which o broken calm at step = absurd (cc)
  fine_fetch which o _ calm at step = absurd step

  fine_write : (o : Open) (bytes : List ℕ) (outcome : Outcome) →
      (Rose old.disk.faults new.disk.faults → ⊥) →
      open_at old.lanes lane ≡ Some o → WriteStep old lane o bytes outcome new →
      IsFine new seals (after_write seals old lane bytes outcome plain)
  fine_write o bytes done calm at step =
      fine_moved o step.piece bytes at step.next step.are step.goes
  fine_write o bytes device calm at step = absurd (calm (step.call.cause.failed refl))
  fine_write o bytes broken calm at step = absurd (cc)
  fine_write o bytes _ calm at step = absurd step

  fine_settle : (o : Open) (outcome : Outcome) → (Rose old.disk.faults new.disk.faults → ⊥) →
      open_at old.lanes lane ≡ Some o → CanSettle o → SettleStep old lane o outcome new →
      FineAfter old new seals plain (by_settle old.map.atom (Some o) outcome)
  fine_settle o done calm at can step = record {
    fine = fine_after fine sound step.goes refl (λ k other. refl)
        (λ p is. rw (settled_is o (settling o) p is) (fine.lanes lane own_lane o at));
    full = settle_full old o (fine.sound.under_way lane o at).proper can;
  }
  fine_settle o device calm at can step = absurd (calm (step.call.cause.failed refl))
  fine_settle o broken calm at can step = absurd (cc)
  fine_settle o _ calm at can step = absurd step

  -- an operation that ends
  finish_full : (o : Open) (ask : Ask) → open_at old.lanes lane ≡ Some o → o.ask ≡ ask →
      has_lock o.ask ≡ true → (o.failed ≡ true) ⊎ IsComplete o → IsFull (record {
        session = o.session;
        atom = old.map.atom;
        ask = ask;
        plain = plain lane;
        reply = full_reply old.map.atom ask (plain lane).bytes;
      }) ask
  finish_full o (Read offset len) at is has (inl failed) =
      absurd (let whole = (fine.lanes lane own_lane o at).0 in cc)
  finish_full o (Read offset len) at is has (inr complete) =
      let under_way = fine.sound.under_way lane o at in
      let proper = rw is at under_way.proper in let range = rw is at under_way.range_is in
      let start : o.range.start ≡ offset / old.map.atom = rw range refl in
      let end : o.range.end ≡ touched_end old.map.atom offset len = rw range refl in
      let count : o.next - o.range.start ≡ touched old.map.atom offset len =
      omega (arith, start, end, complete.pieces) in (
        in_range old.map.atom offset len (plain lane).bytes,
        refl,
        length-in_range old.map.atom offset len (plain lane).bytes
            (some_atom old.map.atom fine.sound.fits.known)
            ((fine.lanes lane own_lane o at).1 has ∙ ap (λ n. n * old.map.atom) count),
      )
  finish_full o (Write offset len fua) at is has ended = refl
  finish_full o Flush at is has ended = refl

  fine_finish : (o : Open) (outcome : Outcome) → open_at old.lanes lane ≡ Some o →
      has_lock o.ask ≡ true → (o.failed ≡ true) ⊎ IsComplete o → FinishStep old lane outcome new →
      FineAfter old new seals plain (by_finish old.map.atom (Some o) (plain lane))
  fine_finish o outcome at has ended step = record {
    fine = fine_after fine sound step.goes fine.unbroken (λ k other. refl) (λ p is. absurd (cc));
    full = rw (fine.lanes lane own_lane o at).0 (one_full old.map.atom (size_of old.map) _
        (fine.sound.under_way lane o at).proper (finish_full o o.ask at refl has ended));
  }

  -- an operation that begins
  fine_forgets : open_at old.lanes lane ≡ None → IsFine old seals (with_plain plain lane nothing)
  fine_forgets free = record {
    sound = fine.sound;
    lawful = fine.lawful;
    unbroken = fine.unbroken;
    lanes = λ k client_lane o is. elim (same_or_not k lane) [
      | inl same ↦ absurd (let at = rw same at is in cc)
      | inr other ↦ rw (plain-other plain lane nothing k other) (fine.lanes k client_lane o is)
    ];
  }

  fine_admit : (session : ℕ) (ask : Ask) (outcome : Outcome) (wrong : Option ℕ)
      → wrong_ask old.map.atom (size_of old.map) ask ≡ wrong → open_at old.lanes lane ≡ None
      → MatchOption wrong (MatchBool old.broken ((outcome ≡ refused 5) × (new ≡ old)) (IsAdmitted
      old lane session ask outcome new)) (λ number. (outcome ≡ refused number) × (new ≡ old))
      → FineAfter old new seals (with_plain plain lane nothing)
      (by_admit old.map.atom session ask outcome)
  fine_admit session ask outcome (Some number) is free step = record {
    fine = rw step.1 (fine_forgets free);
    full = rw step.0 (wrong_full old.map.atom (size_of old.map) session number ask is);
  }
  fine_admit session ask outcome None is free step =
      let admitted = MatchBool-at_false _ _ fine.unbroken step in record {
        fine = fine_after fine sound admitted.goes fine.unbroken (plain-other plain lane nothing)
            (λ o same. let e : o ≡ begun old.map.atom session ask = cc in
            rw (e, plain-own plain lane nothing) (
              refl,
              λ has.
                  let start = (range_of old.map.atom ask).start in
                  let none : start - start ≡ 0 = omega arith in rw none (omega arith),
            ));
        full = rw (unanswered admitted) (none_full old.map.atom (size_of old.map));
      }

fine_event : {K : Type 0} {old new : State K} {seals : Seals} {plain : ℕ → InPlain}
    (event : Event) (outcome : Outcome) → IsFine old seals plain → Meets old event
    → Step old event outcome new → (Rose old.disk.faults new.disk.faults → ⊥) → FineAfter
    old new seals (plain_after seals old event outcome plain) (answered_by old event outcome plain)
unfolding Can Step answered_by plain_after
fine_event {old} {new} (admits lane session ask) outcome fine meets step calm =
    let sound = sound_kept old new (admits lane session ask) outcome fine.sound meets step in
    fine_admit lane meets.client fine sound session ask outcome _ refl meets.can step
fine_event {old} (asks lane) outcome fine meets step calm =
    record { fine = rw step.1 fine; full = none_full old.map.atom (size_of old.map) }
fine_event {old} {new} (reads lane len) outcome fine meets (o, at, step) calm =
    let sound = sound_kept old new (reads lane len) outcome fine.sound meets (o, at, step) in
    record {
      fine = fine_read lane meets.client fine sound o outcome calm at step;
      full = none_full old.map.atom (size_of old.map);
    }
fine_event {old} {new} (fetches lane which) outcome fine meets (o, at, step) calm =
    let sound = sound_kept old new (fetches lane which) outcome fine.sound meets (o, at, step) in
    record {
      fine = fine_fetch lane meets.client fine sound which o outcome calm at step;
      full = none_full old.map.atom (size_of old.map);
    }
fine_event {old} {new} (writes lane bytes) outcome fine meets (o, at, step) calm =
    let sound = sound_kept old new (writes lane bytes) outcome fine.sound meets (o, at, step) in
    record {
      fine = fine_write lane meets.client fine sound o bytes outcome calm at step;
      full = none_full old.map.atom (size_of old.map);
    }
fine_event {old} {new} (settles lane) outcome fine meets (o, at, step) calm =
    let (p, is, can) = meets.can in let one : p ≡ o = cc in
    let sound = sound_kept old new (settles lane) outcome fine.sound meets (o, at, step) in
    let after = fine_settle lane meets.client fine sound o outcome calm at (rw one at can) step in
    record { fine = after.fine; full = rw at after.full }
fine_event {old} {new} (finishes lane) outcome fine meets step calm =
    let (o, at, can) = meets.can.0 in
    let sound = sound_kept old new (finishes lane) outcome fine.sound meets step in
    let after = fine_finish lane meets.client fine sound o outcome at can.locks can.ends step in
    record { fine = after.fine; full = rw at after.full }

full_joined : (atom size : ℕ) (xs ys : List Answered) → AreFull atom size xs → AreFull atom size ys
    → AreFull atom size (xs ++ ys)
unfolding AreFull
full_joined atom size [] ys first rest = rest
full_joined atom size (x ∷ xs) ys first rest = (first.0, full_joined atom size xs ys first.1 rest)

full_same : (old new before size : ℕ) (xs : List Answered) → old ≡ new → before ≡ size
    → AreFull old before xs → AreFull new size xs
full_same old new before size xs atom sizes full =
    subst (λ n. AreFull n size xs) atom (subst (λ n. AreFull old n xs) sizes full)

-- ---- deeds
module _ {K : Type 0} (reading : Reading) (seals : Seals) (old new : State K) where
  -- where no count rose a volume that isn't broken stays so
  stays_whole : (act : Act) → Does reading seals old act new → old.broken ≡ false
      → (Rose old.disk.faults new.disk.faults → ⊥) → new.broken ≡ false
  stays_whole act does whole calm = elim (either new.broken) [
    | inl broke ↦ elim (broken_by reading seals old new act does broke) [
      | inl was ↦ absurd (let both : true ≡ false = sym was ∙ whole in cc)
      | inr by ↦ absurd (calm (rose_by reading seals old new act does by))
    ]
    | inr still ↦ still
  ]

  fine_on : (plain : ℕ → InPlain) (act : Act) → IsKept reading old → IsFine old seals plain
      → Does reading seals old act new → (Rose old.disk.faults new.disk.faults → ⊥)
      → FineAfter old new seals (plain_by seals old act plain) (answered_of old act plain)
  fine_on plain (client event outcome) kept fine (meets, step) calm =
      fine_event event outcome fine meets step calm
  fine_on plain (worker worked) kept fine step calm =
      let order = in_order reading seals old new worked kept step in
      let same = same_on reading seals old new (worker worked) kept step in
      record {
        fine = record {
          sound = (kept_on reading seals old new (worker worked) kept step).sound;
          lawful = rw same.atom fine.lawful;
          unbroken = stays_whole (worker worked) step fine.unbroken calm;
          lanes = λ lane own o is.
              let was : IsClient old lane = subst (λ n. suc lane < n) same.lanes own in
              rw same.atom (fine.lanes lane was o (sym (clients_left reading seals old new worked lane order step was).own ∙ is));
        };
        full = none_full old.map.atom (size_of old.map);
      }

module _ {K : Type 0} (reading : Reading) (seals : Seals) where
  fine_over : (start : State K) (plain : ℕ → InPlain) (deeds : List (Deed K))
      → IsKept reading start → IsFine start seals plain → AreDeeds reading seals start deeds
      → (state_after start deeds).disk.faults ≡ start.disk.faults
      → start.disk.faults < 2 ^ 64 - 1
      → AreFull start.map.atom (size_of start.map) (answered_over seals start plain deeds)
      × ((state_after start deeds).broken ≡ false)
  unfolding AreDeeds state_after answered_over
  fine_over start plain [] kept fine are same below =
      (none_full start.map.atom (size_of start.map), fine.unbroken)
  fine_over start plain (one ∷ rest) kept fine (does, are) same below =
      let stays = same_on reading seals start one.after one.act kept does in
      let first = faults_on reading seals start one.after one.act does in
      let later_faults = deeds_later reading seals one.after rest are in
      let here : one.after.disk.faults ≡ start.disk.faults =
      omega (arith, first, later_faults, same) in
      let after = fine_on reading seals start one.after plain one.act kept fine does
      (λ rose. rose_not start.disk.faults one.after.disk.faults rose here below) in
      let next = plain_by seals start one.act plain in
      let later = fine_over one.after next rest
      (kept_on reading seals start one.after one.act kept does) after.fine are
      (same ∙ sym here) (rw here below) in
      let full = full_same one.after.map.atom start.map.atom (size_of one.after.map)
      (size_of start.map) (answered_over seals one.after next rest) stays.atom
      (rw (stays.atom, stays.blocks) refl) later.0 in (
        full_joined start.map.atom (size_of start.map) (answered_of start one.act plain)
            (answered_over seals one.after next rest) after.full full,
        later.1,
      )

-- what was answered in full was served
exchange_served : (atom size : ℕ) (answered : Answered) (exchange : Exchange)
    → IsExchange answered exchange
    → MatchOption (wrong_ask atom size answered.ask) (IsFull answered answered.ask)
    (λ number. answered.reply ≡ Errno number) → MatchOption (wrong_of atom size exchange.op)
    (IsServed exchange.op exchange.reply) (λ number. exchange.reply ≡ Errno number)
exchange_served atom size answered exchange is full = served_by (wrong_ask atom size answered.ask)
    (wrong_asked answered.atom atom size answered.ask answered.plain.bytes exchange.op is.op) full
  where
    full_served : (ask : Ask) → Asked answered.atom ask answered.plain.bytes exchange.op
        → IsFull answered ask → IsServed exchange.op exchange.reply
    full_served (Read offset len) op (bytes, content, long) = rw (op, is.reply, content) long
    full_served (Write offset len fua) (body, op, long, begins) full_so =
        meaning_served exchange.op exchange.reply (rw (op, is.reply) full_so)
    full_served Flush op full_so = rw (op, is.reply) full_so

    served_by : (wrong : Option ℕ) → wrong_of atom size exchange.op ≡ wrong
        → MatchOption wrong (IsFull answered answered.ask) (λ number. answered.reply ≡ Errno number)
        → MatchOption (wrong_of atom size exchange.op)
        (IsServed exchange.op exchange.reply) (λ number. exchange.reply ≡ Errno number)
    served_by None why full_so = rw why (full_served answered.ask is.op full_so)
    served_by (Some number) why full_so = rw why (is.reply ∙ full_so)

exchanges_served : (atom size : ℕ) (answered : List Answered) (exchanges : List Exchange)
    → AreExchanges answered exchanges → AreFull atom size answered → AreServed atom size exchanges
unfolding AreExchanges AreFull AreServed
exchanges_served atom size [] [] are full = tt
exchanges_served atom size [] (exchange ∷ exchanges) are full = absurd are
exchanges_served atom size (one ∷ answered) [] are full = absurd are
exchanges_served atom size (one ∷ answered) (exchange ∷ exchanges) are full = (
  exchange_served atom size one exchange are.0 full.0,
  exchanges_served atom size answered exchanges are.1 full.1,
)

pub serves_without_faults : {K : Type 0} (reading : Reading) (seals : Seals) (start : State K)
    (deeds : List (Deed K)) → BeginsBeside reading start → AreLawful start.map.atom seals
    → AreDeeds reading seals start deeds → ServesWithoutFaults start seals deeds
serves_without_faults reading seals start deeds begins_so lawful are =
    λ exchanges are_so whole same below.
    let fine = fine_over reading seals start no_plain deeds begins_so.kept (record {
      sound = begins_so.kept.sound;
      lawful = lawful;
      unbroken = whole;
      lanes = λ lane own o at. absurd (let free = begins_so.idle lane in cc);
    }) are same below in (
      exchanges_served start.map.atom (size_of start.map)
          (answered_over seals start no_plain deeds) exchanges are_so fine.0,
      fine.1,
    )
