-- Each event keeps what holds of a volume between events.
use Rattle.std.proofs.Common.{Bool, List, None, Option, Some, [], ap, arith, false, find}
use Rattle.std.proofs.Common.{if◌then◌else◌, inl, inr, length, length-append, refl, suc, sym, true}
use Rattle.std.proofs.Common.{zero, ℕ, ◌*◌, ◌++◌, ◌+◌, ◌<◌, ◌∙◌, ◌∷◌, ◌≡◌, ◌≢◌, ◌≤◌}
use Rattle.std.proofs.lemmas.Bool.{MatchBool-at_false, MatchBool-at_true, cases_Bool as either}
use Rattle.std.proofs.lemmas.Bool.{cases_eq as same_or_not}
use Rattle.std.specs.List.{after_first}
use Rattle.plain_disk.specs.Operations.{wrong_range_of}
use Rattle.range_lock.specs.Locks.{has_entry, is_of, without}
use Rattle.range_lock.specs.declared.Entry.{Entry}
use Rattle.segment_map.specs.declared.map.Map.{Map}
use Rattle.volume_machine.specs.Asks.{entry_of, has_lock, range_of, wrong_ask}
use Rattle.volume_machine.specs.Events.{Event, Outcome, admits, asks, broken, device, done}
use Rattle.volume_machine.specs.Events.{fetches, finishes, got, reads, settles, writes}
use Rattle.volume_machine.specs.Pieces.{failing, settling}
use Rattle.volume_machine.specs.Sound.{IsSound, IsUnderWay, entry_in, locks, count_locks}
use Rattle.volume_machine.specs.States.{State, begun, open_at, size_of}
use Rattle.volume_machine.specs.Steps.{AdmitStep, EdgeStep, Goes, IsAdmitted, Meets, ReadStep}
use Rattle.volume_machine.specs.Steps.{SettleStep, WriteStep, after_settle, Can, Step}
use Rattle.volume_machine.specs.declared.ask.Ask.{Ask}
use Rattle.volume_machine.specs.declared.ask.Ask.TheVariants.{Flush, Read, Write}
use Rattle.volume_machine.specs.declared.open.Open.{Open}
use Rattle.std.proofs.lemmas.Grind.{common_steps}
use Rattle.plain_disk.proofs.RangeLemmas.{range_of_proper, touched_from, touched_within}
use Rattle.volume_machine.proofs.Locking.{after-last, after-more, after-none, after-without}
use Rattle.volume_machine.proofs.Locking.{find-last, find-left, find-more, find-without}
use Rattle.volume_machine.proofs.Locking.{is_of-other, is_of-own, length-without, without-none}

-- one where a lane's operation has an entry
abbrev ones : Option Open → ℕ
ones o = if locks o then 1 else 0

count-more : (o : Option Open) (lanes : List (Option Open))
    → count_locks (o ∷ lanes) ≡ ones o + count_locks lanes
unfolding count_locks
count-more o lanes = grind arith

-- lanes that are the same have as many entries
count-same : (old new : List (Option Open)) → length new ≡ length old
    → ((k : ℕ) → open_at new k ≡ open_at old k) → count_locks new ≡ count_locks old
count-same [] [] long same = refl
count-same [] (o ∷ new) long same = absurd (omega arith)
count-same (o ∷ old) [] long same = absurd (omega arith)
count-same (o ∷ old) (n ∷ new) long same =
    let front : n ≡ o = same 0 in
    rw (
      count-more n new,
      count-more o old,
      front,
      count-same old new (omega arith) (λ k. same (suc k)),
    ) refl

-- one lane changed
count-becomes : (old new : List (Option Open)) (lane : ℕ) → length new ≡ length old
    → ((k : ℕ) → k ≢ lane → open_at new k ≡ open_at old k) →
    count_locks new + ones (open_at old lane) ≡ count_locks old + ones (open_at new lane)
count-becomes [] [] lane long others = refl
count-becomes [] (o ∷ new) lane long others = absurd (omega arith)
count-becomes (o ∷ old) [] lane long others = absurd (omega arith)
count-becomes (o ∷ old) (n ∷ new) zero long others =
    let rest = count-same old new (omega arith) (λ k. others (suc k) (λ is. omega arith)) in
    rw (count-more n new, count-more o old, rest) (omega arith)
count-becomes (o ∷ old) (n ∷ new) (suc lane) long others =
    let front : n ≡ o = others 0 (λ is. omega arith) in
    let rest = count-becomes old new lane (omega arith)
    (λ k other. others (suc k) (λ is. other (omega arith))) in
    rw (count-more n new, count-more o old, front) (omega arith)

at-most : (lanes : List (Option Open)) → count_locks lanes ≤ length lanes
unfolding count_locks
at-most [] = omega arith
at-most (o ∷ lanes) = grind (arith, at-most lanes)

-- a lane without an entry leaves room
pub free-room : (lanes : List (Option Open)) (lane : ℕ) → lane < length lanes
    → locks (open_at lanes lane) ≡ false → count_locks lanes < length lanes
free-room [] lane below free = absurd (omega arith)
free-room (o ∷ lanes) zero below free = rw (count-more o lanes, free) (omega (arith, at-most lanes))
free-room (o ∷ lanes) (suc lane) below free =
    let rest = free-room lanes lane (omega arith) free in rw (count-more o lanes) (grind arith)

-- what is found is there
pub lacks-entry : (lane : ℕ) (xs : List Entry) → find (is_of lane) xs ≡ None
    → has_entry lane xs ≡ false
lacks-entry lane [] none = refl
lacks-entry lane (x ∷ xs) none = grind (arith, lacks-entry lane xs)

pub has-entry : (lane : ℕ) (xs : List Entry) (e : Entry) → find (is_of lane) xs ≡ Some e
    → has_entry lane xs ≡ true
has-entry lane [] e found = absurd (cc)
has-entry lane (x ∷ xs) e found = grind (arith, has-entry lane xs e)

-- the blocks of an operation are in order, and lie in the volume where it isn't wrong
pub ordered : (atom : ℕ) (ask : Ask) → 0 < atom
    → (range_of atom ask).start ≤ (range_of atom ask).end
ordered atom (Read offset len) some = touched_from atom offset len some
ordered atom (Write offset len fua) some = touched_from atom offset len some
ordered atom Flush some = omega arith

pub proper-range : (atom size offset len : ℕ) → wrong_ask atom size (Read offset len) ≡ None →
    wrong_range_of atom size offset len 22 ≡ None
proper-range atom size offset len proper = grind (arith, common_steps)

pub proper-inside : (atom blocks : ℕ) (ask : Ask) → 0 < atom
    → wrong_ask atom (blocks * atom) ask ≡ None → (range_of atom ask).end ≤ blocks
proper-inside atom blocks (Read offset len) some proper =
    touched_within atom blocks offset len some (range_of_proper atom (blocks * atom) offset len 22
    (proper-range atom (blocks * atom) offset len proper))
proper-inside atom blocks (Write offset len fua) some proper = touched_within
    atom blocks offset len some (range_of_proper atom (blocks * atom) offset len 28 proper)
proper-inside atom blocks Flush some proper = omega arith

-- an operation that isn't wrong, as it begins, and as it goes on
pub begins : (map : Map) (session : ℕ) (ask : Ask) → wrong_ask map.atom (size_of map) ask ≡ None
    → IsUnderWay map (begun map.atom session ask)
begins map session ask proper = record {
  proper = proper;
  range_is = refl;
  begun = omega arith;
  within = ordered map.atom ask map.some_atom;
  inside = proper-inside map.atom map.blocks ask map.some_atom proper;
}

goes-on : {map : Map} {o now : Open} → IsUnderWay map o → now.ask ≡ o.ask → now.range ≡ o.range
    → o.range.start ≤ now.next → now.next ≤ o.range.end → IsUnderWay map now
goes-on is ask range from to = record {
  proper = rw ask is.proper;
  range_is = rw (range, ask) is.range_is;
  begun = rw range from;
  within = rw range to;
  inside = rw range is.inside;
}

-- what a lane's operation and the table become
record Becomes {K : Type 0} (old : State K) (lane : ℕ) (entries : List Entry)
    (now : Option Open) : Type 0 where
  count : length entries + ones (open_at old.lanes lane) ≡ length old.entries + ones now
  own : find (is_of lane) entries ≡ entry_in old.map.atom lane now
  others : (k : ℕ) → k ≢ lane → find (is_of k) entries ≡ find (is_of k) old.entries
  once : (k : ℕ) → find (is_of k) (after_first (is_of k) entries) ≡ None
  under_way : (o : Open) → now ≡ Some o → IsUnderWay old.map o

module _ {K : Type 0} {old : State K} (sound : IsSound old) where
  sound_becomes : {new : State K} {lane : ℕ} {entries : List Entry} {now : Option Open}
      {is_broken : Bool} → Goes old new lane entries now is_broken → new.disk.atoms ≡ old.disk.atoms
      → Becomes old lane entries now → IsSound new
  sound_becomes {new} {lane} goes atoms becomes =
      let lanes = goes.lane_is in
      let counts = count-becomes old.lanes new.lanes lane lanes.count lanes.others in
      record {
        fits = rw (goes.map, atoms) sound.fits;
        room = goes.room ∙ sound.room ∙ sym lanes.count;
        some = rw lanes.count sound.some;
        count = rw goes.entries_are (omega (arith, ap (λ o. ones o) lanes.own));
        entries = λ k. rw (goes.entries_are, goes.map) (elim (same_or_not k lane) [
          | inl same ↦ rw (same, lanes.own) becomes.own
          | inr other ↦ rw (lanes.others k other) (becomes.others k other ∙ sound.entries k)
        ]);
        once = λ k. rw goes.entries_are (becomes.once k);
        under_way = λ k o is. rw goes.map (elim (same_or_not k lane) [
          | inl same ↦ becomes.under_way o (sym lanes.own ∙ rw same at is)
          | inr other ↦ sound.under_way k o (sym (lanes.others k other) ∙ is)
        ]);
        zoned = rw (goes.map, goes.work) sound.zoned;
      }

  -- the table stays, where the operation keeps its entry
  stays : {lane : ℕ} {now : Option Open} → entry_in old.map.atom lane now
      ≡ entry_in old.map.atom lane (open_at old.lanes lane)
      → ones now ≡ ones (open_at old.lanes lane)
      → ((o : Open) → now ≡ Some o → IsUnderWay old.map o) → Becomes old lane old.entries now
  stays {lane} same_entry same_count under_way = record {
    count = omega arith;
    own = sound.entries lane ∙ sym same_entry;
    others = λ k other. refl;
    once = sound.once;
    under_way = under_way;
  }

  -- an operation entered
  enters : (lane session : ℕ) (ask : Ask) → has_lock ask ≡ true → open_at old.lanes lane ≡ None
      → wrong_ask old.map.atom (size_of old.map) ask ≡ None → Becomes old lane (old.entries
      ++ entry_of old.map.atom lane ask ∷ []) (Some (begun old.map.atom session ask))
  enters lane session ask has free proper =
      let e = entry_of old.map.atom lane ask in
      let none : find (is_of lane) old.entries ≡ None = sound.entries lane ∙ rw free refl in
      let own : is_of lane e ≡ true = is_of-own lane e refl in
      let not_own = λ (k : ℕ) (is : k ≢ lane). is_of-other k e (λ same. is (sym same)) in
      record {
        count = rw (free, has) (omega (arith, length-append old.entries (e ∷ [])));
        own = find-last (is_of lane) old.entries e none own ∙ sym (rw has refl);
        others = λ k other. find-more (is_of k) old.entries e (not_own k other);
        once = λ k. elim (same_or_not k lane) [
          | inl same ↦ rw same (after-last (is_of lane) old.entries e none own)
          | inr other ↦ after-more (is_of k) old.entries e (not_own k other) (sound.once k)
        ];
        under_way = λ o is. let same : o ≡ begun old.map.atom session ask = cc in
            rw same (begins old.map session ask proper);
      }

  -- an operation left
  leaves : (lane : ℕ) (o : Open) → open_at old.lanes lane ≡ Some o → has_lock o.ask ≡ true
      → Becomes old lane (without lane old.entries) None
  leaves lane o is has =
      let found : find (is_of lane) old.entries ≡ Some (entry_of old.map.atom lane o.ask) =
      sound.entries lane ∙ rw (is, has) refl in
      let none = find-left lane old.entries (sound.once lane) in
      record {
        count = rw (is, has) (omega (arith, length-without lane old.entries _ found));
        own = none;
        others = λ k other. find-without lane k old.entries (λ same. other (sym same));
        once = λ k. elim (same_or_not k lane) [
          | inl same ↦ rw same (after-none (is_of lane) (without lane old.entries) none)
          | inr other ↦ after-without lane k old.entries (λ same. other (sym same)) (sound.once k)
        ];
        under_way = λ o no. absurd (cc);
      }

-- a lane's operation ended, if it had one
pub sound_freed : {K : Type 0} {old new : State K} {lane : ℕ} {is_broken : Bool} → IsSound old
    → Goes old new lane (without lane old.entries) None is_broken
    → new.disk.atoms ≡ old.disk.atoms
    → ((o : Open) → open_at old.lanes lane ≡ Some o → has_lock o.ask ≡ true) → IsSound new
sound_freed {old = old} {new = new} {lane = lane} sound goes atoms locks =
    by (open_at old.lanes lane) refl
  where
    by : (o : Option Open) → open_at old.lanes lane ≡ o → IsSound new
    by (Some o) at = sound_becomes sound goes atoms (leaves sound lane o at (locks o at))
    by None at = sound_becomes sound goes atoms
        (rw (without-none lane old.entries (sound.entries lane ∙ rw at refl))
        (stays sound (rw at refl) (rw at refl) (λ o none. absurd (cc))))

module _ {K : Type 0} {old : State K} (new : State K) (lane : ℕ) (sound : IsSound old) where
  pub sound_admitted : (session : ℕ) (ask : Ask) (outcome : Outcome) → open_at old.lanes lane ≡ None
      → wrong_ask old.map.atom (size_of old.map) ask ≡ None
      → IsAdmitted old lane session ask outcome new → IsSound new
  sound_admitted session ask outcome free proper is =
      sound_becomes sound is.goes (ap (λ d. d.atoms) is.rests) (elim (either (has_lock ask)) [
        | inl has ↦ rw ((MatchBool-at_true _ _ has is.enters).0)
            (enters sound lane session ask has free proper)
        | inr none ↦
            rw ((MatchBool-at_false _ _ none is.enters).0) (stays sound (rw (free, none) refl)
            (rw (free, none) refl) (λ o same. let e : o ≡ begun old.map.atom session ask = cc in
            rw e (begins old.map session ask proper)))
      ])

  sound_admit : (session : ℕ) (ask : Ask) (outcome : Outcome) (wrong : Option ℕ)
      → wrong_ask old.map.atom (size_of old.map) ask ≡ wrong → open_at old.lanes lane ≡ None
      → AdmitStep old lane session ask outcome new → IsSound new
  sound_admit session ask outcome (Some number) why free step =
      let refused_step = rw why at step in rw refused_step.1 sound
  sound_admit session ask outcome None why free step =
      let proper = rw why at step in elim (either old.broken) [
        | inl was ↦ let refused_step = MatchBool-at_true _ _ was proper in rw refused_step.1 sound
        | inr whole ↦
            sound_admitted session ask outcome free why (MatchBool-at_false _ _ whole proper)
      ]

  -- the operation goes on, or is settled
  sound_open : {o now : Open} {is_broken : Bool} → open_at old.lanes lane ≡ Some o
      → Goes old new lane old.entries (Some now) is_broken → new.disk.atoms ≡ old.disk.atoms
      → now.ask ≡ o.ask → now.range ≡ o.range
      → o.range.start ≤ now.next → now.next ≤ o.range.end → IsSound new
  sound_open {o} {now} is goes atoms ask range from to = sound_becomes sound goes atoms
      (stays sound (rw (is, ask) refl) (rw (is, ask) refl) (λ one same. let e : one ≡ now = cc in
      rw e (goes-on (sound.under_way lane o is) ask range from to)))

  sound_settled : (o now : Open) {is_broken : Bool} → open_at old.lanes lane ≡ Some o
      → Goes old new lane old.entries (after_settle o now) is_broken → new.disk.atoms
      ≡ old.disk.atoms → now.ask ≡ o.ask → now.range ≡ o.range → now.next ≡ o.next → IsSound new
  sound_settled o now is goes atoms ask range next =
      let it = sound.under_way lane o is in
      elim (either (has_lock o.ask)) [
        | inl has ↦ sound_open is (rw has at goes) atoms ask range (omega arith) (omega arith)
        | inr none ↦ sound_becomes sound (rw none at goes) atoms (stays sound (rw (is, none) refl)
            (rw (is, none) refl) (λ one same. absurd (cc)))
      ]

  sound_read : (o : Open) (outcome : Outcome) → open_at old.lanes lane ≡ Some o
      → ReadStep old lane o outcome new → IsSound new
  sound_read o (got bytes) is step =
      let it = sound.under_way lane o is in
      sound_open is step.goes step.call.atoms refl refl (omega arith) (omega arith)
  sound_read o device is step =
      let it = sound.under_way lane o is in
      sound_open is step.goes step.call.atoms refl refl it.begun it.within
  sound_read o broken is step =
      let it = sound.under_way lane o is in
      sound_open is step.goes (ap (λ d. d.atoms) step.rests) refl refl it.begun it.within
  sound_read o _ is step = absurd step

  sound_fetch : (which : ℕ) (o : Open) (outcome : Outcome) → open_at old.lanes lane ≡ Some o
      → EdgeStep old lane o which outcome new → IsSound new
  sound_fetch which o (got bytes) is step =
      let it = sound.under_way lane o is in
      sound_open is step.goes step.call.atoms refl refl it.begun it.within
  sound_fetch which o device is step =
      let it = sound.under_way lane o is in
      sound_open is step.goes step.call.atoms refl refl it.begun it.within
  sound_fetch which o broken is step =
      let it = sound.under_way lane o is in
      sound_open is step.goes (ap (λ d. d.atoms) step.rests) refl refl it.begun it.within
  sound_fetch which o _ is step = absurd step

  sound_write : (o : Open) (bytes : List ℕ) (outcome : Outcome) → open_at old.lanes lane ≡ Some o
      → WriteStep old lane o bytes outcome new → IsSound new
  sound_write o bytes done is step =
      let it = sound.under_way lane o is in
      sound_open is step.goes step.call.atoms refl refl (omega arith) (omega arith)
  sound_write o bytes device is step =
      let it = sound.under_way lane o is in
      sound_open is step.goes step.call.atoms refl refl it.begun it.within
  sound_write o bytes broken is step =
      let it = sound.under_way lane o is in
      sound_open is step.goes (ap (λ d. d.atoms) step.rests) refl refl it.begun it.within
  sound_write o bytes _ is step = absurd step

  sound_settle : (o : Open) (outcome : Outcome) → open_at old.lanes lane ≡ Some o
      → SettleStep old lane o outcome new → IsSound new
  sound_settle o done is step =
      sound_settled o (settling o) is step.goes step.call.atoms refl refl refl
  sound_settle o device is step =
      sound_settled o (failing o) is step.goes step.call.atoms refl refl refl
  sound_settle o broken is step =
      sound_settled o (failing o) is step.goes (ap (λ d. d.atoms) step.rests) refl refl refl
  sound_settle o _ is step = absurd step

-- every event of a sound volume leaves a sound one
pub sound_kept : {K : Type 0} (old new : State K) (event : Event) (outcome : Outcome) → IsSound old
    → Meets old event → Step old event outcome new → IsSound new
unfolding Step Can
sound_kept old new (admits lane session ask) outcome sound meets step =
    sound_admit new lane sound session ask outcome _ refl meets.can step
sound_kept old new (asks lane) outcome sound meets step = rw step.1 sound
sound_kept old new (reads lane len) outcome sound meets (o, is, step) =
    sound_read new lane sound o outcome is step
sound_kept old new (fetches lane which) outcome sound meets (o, is, step) =
    sound_fetch new lane sound which o outcome is step
sound_kept old new (writes lane bytes) outcome sound meets (o, is, step) =
    sound_write new lane sound o bytes outcome is step
sound_kept old new (settles lane) outcome sound meets (o, is, step) =
    sound_settle new lane sound o outcome is step
sound_kept old new (finishes lane) outcome sound meets step =
    let (o, is, can) = meets.can.0 in
    sound_becomes sound step.goes (ap (λ d. d.atoms) step.rests) (leaves sound lane o is can.locks)
