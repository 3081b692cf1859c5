-- What a pass knows and holds, step by step through a turn.
use Rattle.std.proofs.Common.{◌≡◌, ℕ, ◌+◌, ◌-◌, ◌*◌, ◌/◌, ◌%◌, ◌^◌, ◌<◌, List, [], ◌∷◌, ◌++◌, Some}
use Rattle.std.proofs.Common.{get_or, refl, sym, ap, ◌∙◌, subst, arith, eq-eqb, ne_eqb}
use mathlib.Core.Option.{none}
use mathlib.Core.Logic.{dite}
use native.Mathlib.Decide.{ℕ_discrete}
use Rattle.std.specs.Prelude.{MatchBool, nat_eq}
use Rattle.atomic_table.specs.Table.{Me, step, Allows, rest}
use Rattle.atomic_table.specs.Seated.{TableId}
use Rattle.atomic_table.specs.declared.shared.Seat.{Seat}
use Rattle.volume_cell.specs.declared.history.Call.{Call}
use Rattle.volume_cell.specs.declared.history.Entry.{Entry}
use Rattle.volume_cell.specs.declared.held.Held.{Held}
use Rattle.volume_cell.specs.declared.knowledge.Knowledge.{Knowledge}
use Rattle.volume_cell.specs.Histories.{Begins, IsNoted, entry, calls_of}
use Rattle.volume_cell.specs.Knowing.{HasCalls, knowing, taking, having_asked}
use Rattle.volume_cell.specs.History.{Rule}
use Rattle.volume_cell.specs.Steps.{Learns, Takes, takes_at, gives_back}
use Rattle.volume_cell.specs.Asking.{IsSameSeat, HasLooked, HasTaken, IsFull, CanAct, HasActed}
use Rattle.volume_cell.specs.Passes.{IsReady, IsSamePass, IsAnswered, HasStood}
use Rattle.volume_cell.proofs.Lists.{begins_same, begins_through}
use Rattle.volume_cell.proofs.Stories.{own-of, calls-asked}
use Rattle.volume_cell.proofs.Turns.{gives-back}

module _ {M S E O : Type 0} where
  -- before the first look
  pub no-look : (cell : TableId) (p : Seat (Held M E O) (Knowledge S E O)) → IsReady cell p
      → HasLooked p p
  no-look cell p of =
      record {
        table = refl;
        history = p.me.0.history;
        is =
            λ i. (p.me.0, of.empty i);
        later = begins_same p.me.0.history;
      }

  -- after one more look
  module _ (before so after : Seat (Held M E O) (Knowledge S E O)) (r : ℕ) (l : HasLooked before so)
      (k : Learns so.me r after.me) (same : after.table_id ≡ so.table_id) where
    pub looked-on : HasLooked before after
    looked-on = record {
      table = same ∙ l.table;
      history = k.history;
      is = k.is ∙ ap (λ (m : Me (Held M E O) (Knowledge S E O)). (knowing k.history m.0, m.1)) l.is;
      later = begins_through before.me.0.history l.history k.history l.later
          (subst (λ (m : Me (Held M E O) (Knowledge S E O)). Begins m.0.history k.history) l.is
          k.later);
    }

    calls-now : HasCalls after.me.0
    calls-now = subst (λ (m : Me (Held M E O) (Knowledge S E O)). HasCalls m.0) (sym k.is) k.calls

    pub full-now : (limit : ℕ) → r ≡ limit * 2 → IsFull limit before after
    unfolding looked-on
    full-now limit e = let long = k.long in record {
      looked = looked-on;
      calls = calls-now;
      own = own-of after.me.0 calls-now;
      full = omega (arith, long, e);
    }

  -- after a step that tells nothing
  module _ (before so after : Seat (Held M E O) (Knowledge S E O)) (still : IsSameSeat so after)
    where
      pub looked-still : HasLooked before so → HasLooked before after
      looked-still l =
          record {
            table = still.table ∙ l.table;
            history = l.history;
            is = still.is ∙ l.is;
            later =
                l.later;
          }

      pub full-still : (limit : ℕ) → IsFull limit before so → IsFull limit before after
      unfolding looked-still
      full-still limit f = record {
        looked = looked-still f.looked;
        calls = subst (λ (m : Me (Held M E O) (Knowledge S E O)). HasCalls m.0) (sym still.is)
            f.calls;
        own = subst
            (λ (m : Me (Held M E O) (Knowledge S E O)). calls_of m.0.name m.0.history ≡ m.0.calls)
            (sym still.is) f.own;
        full = f.full;
      }

  pub still-twice : (before so after : Seat (Held M E O) (Knowledge S E O)) → IsSameSeat before so
      → IsSameSeat so after → IsSameSeat before after
  still-twice before so after one two =
      record { table = two.table ∙ one.table; is = two.is ∙ one.is }

  -- a pass that has looked is a pass of the cell yet
  pub looked-pass : (cell : TableId) (before after : Seat (Held M E O) (Knowledge S E O))
      → IsReady cell before → HasLooked before after → IsReady cell after
  looked-pass cell before after of l = record {
    table = l.table ∙ of.table;
    ready = ap (λ (m : Me (Held M E O) (Knowledge S E O)). m.0.stage) l.is ∙ of.ready;
    empty = ap (λ (m : Me (Held M E O) (Knowledge S E O)). m.1) l.is;
  }

  module _ (start_of : M → S) (stands_for : M → List (Entry E O) → Type 0) (limit : ℕ) where
    pub taken-now : (before after : Seat (Held M E O) (Knowledge S E O)) (r : ℕ) → before.me.1 ≡ []
        → Takes start_of stands_for before.me r after.me → after.table_id ≡ before.table_id
        → r / 2 < limit → HasTaken start_of stands_for limit before after
    taken-now before after r empty k same room = let long = k.long in record {
      table = same;
      history = k.history;
      held = k.held;
      is = k.is
          ∙ ap (λ (l : List (ℕ × Held M E O)). (taking k.history before.me.0, (0, k.held) ∷ l))
          empty;
      later = k.later;
      calls = k.calls;
      stands = k.stands;
      start = k.start;
      room = omega (arith, long, room);
    }

    -- whether the machine was taken shows in the word that was found
    pub tried : (before after : Seat (Held M E O) (Knowledge S E O)) (slots old new found : ℕ)
        → before.me.1 ≡ []
        → takes_at start_of stands_for (step slots 0 old new none) before.me found after.me
        → after.table_id ≡ before.table_id → old / 2 < limit
        → MatchBool (nat_eq found old) (HasTaken start_of stands_for limit before after)
        (IsSameSeat before after)
    tried before after slots old new found empty t same room = dite (ℕ_discrete found old)
        (λ hit. subst
        (λ b. MatchBool b (HasTaken start_of stands_for limit before after)
        (IsSameSeat before after)) (sym (eq-eqb found old hit))
        (taken-now before after found empty (t.0 hit) same
        (subst (λ n. n / 2 < limit) (sym hit) room)))
        (λ miss. subst
        (λ b. MatchBool b (HasTaken start_of stands_for limit before after)
        (IsSameSeat before after)) (sym (ne_eqb found old miss))
        (record { table = same; is = t.1 miss }))

    -- the machine was taken after a look, and then came a step that tells nothing
    pub taken-later : (before so taker after : Seat (Held M E O) (Knowledge S E O))
        → HasLooked before so → HasTaken start_of stands_for limit so taker → IsSameSeat taker after
        → HasTaken start_of stands_for limit before after
    taken-later before so taker after l t still = record {
      table = still.table ∙ (t.table ∙ l.table);
      history = t.history;
      held = t.held;
      is = still.is
          ∙ (t.is ∙ ap
          (λ (m : Me (Held M E O) (Knowledge S E O)). (taking t.history m.0, (0, t.held) ∷ []))
          l.is);
      later = begins_through before.me.0.history l.history t.history l.later
          (subst (λ (m : Me (Held M E O) (Knowledge S E O)). Begins m.0.history t.history) l.is
          t.later);
      calls = subst (λ (m : Me (Held M E O) (Knowledge S E O)). HasCalls (taking t.history m.0))
          l.is t.calls;
      stands = t.stands;
      start = subst
          (λ (m : Me (Held M E O) (Knowledge S E O)). m.0.start ≡ Some (start_of t.held.machine))
          l.is t.start;
      room = t.room;
    }

    pub can-act : (fits : S → List ℕ → List (Call E O) → E → Type 0)
        (before after : Seat (Held M E O) (Knowledge S E O)) (event : E)
        → HasTaken start_of stands_for limit before after
        → ((start : S) → before.me.0.start ≡ Some start
        → fits start before.me.0.name before.me.0.calls event)
        → CanAct start_of stands_for fits after event
    can-act fits before after event t may = record {
      held = t.held;
      is = ap (λ (m : Me (Held M E O) (Knowledge S E O)). m.1) t.is;
      stands =
          subst (λ (m : Me (Held M E O) (Knowledge S E O)). stands_for t.held.machine m.0.history)
          (sym t.is) t.stands;
      fits = subst
          (λ (m : Me (Held M E O) (Knowledge S E O)). fits (start_of t.held.machine) m.0.name
          (calls_of m.0.name m.0.history) event) (sym t.is)
          (subst (λ (cs : List (Call E O)). fits (start_of t.held.machine) before.me.0.name cs
          event) (sym (own-of (taking t.history before.me.0) t.calls))
          (may (start_of t.held.machine) t.start));
      start = subst
          (λ (m : Me (Held M E O) (Knowledge S E O)). m.0.start ≡ Some (start_of t.held.machine))
          (sym t.is) t.start;
    }

    -- what is known of the machine that lies where the pass can reach it
    pub can-now : (fits : S → List ℕ → List (Call E O) → E → Type 0)
        (pass : Seat (Held M E O) (Knowledge S E O)) (event : E) (now : Held M E O)
        → CanAct start_of stands_for fits pass event → pass.me.1 ≡ (0, now) ∷ rest pass.me.1
        → stands_for now.machine pass.me.0.history
        × fits (start_of now.machine) pass.me.0.name (calls_of pass.me.0.name pass.me.0.history)
        event × (pass.me.0.start ≡ Some (start_of now.machine)) × (rest pass.me.1 ≡ [])
    can-now fits pass event now t is = let same : t.held ≡ now =
        ap (λ (l : List (ℕ × Held M E O)). (get_or l 0 (0, t.held)).1) (sym t.is ∙ is) in (
          subst (λ (h : Held M E O). stands_for h.machine pass.me.0.history) same t.stands,
          subst (λ (h : Held M E O). fits (start_of h.machine) pass.me.0.name
              (calls_of pass.me.0.name pass.me.0.history) event) same t.fits,
          t.start ∙ ap (λ (h : Held M E O). Some (start_of h.machine)) same,
          ap rest t.is,
        )

    -- the machine acted where it lay
    pub has-acted : (before after : Seat (Held M E O) (Knowledge S E O)) (event : E) (outcome : O)
        (old new : Held M E O) → after.table_id ≡ before.table_id
        → after.me ≡ (before.me.0, (0, new) ∷ rest before.me.1) → rest before.me.1 ≡ []
        → IsNoted event outcome new.note
        → stands_for new.machine (before.me.0.history ++ entry before.me.0.name event outcome ∷ [])
        → before.me.0.start ≡ Some (start_of old.machine)
        → start_of new.machine ≡ start_of old.machine
        → HasActed start_of stands_for before after event outcome
    has-acted before after event outcome old new same is others noted stands start keeps = record {
      table = same;
      held = new;
      is = is ∙ ap (λ (l : List (ℕ × Held M E O)). (before.me.0, (0, new) ∷ l)) others;
      noted = noted;
      stands = stands;
      start = start ∙ ap (λ (s : S). Some s) (sym keeps);
    }

    pub may-give : (slots id : ℕ) (before so after : Seat (Held M E O) (Knowledge S E O))
        (event : E) (outcome : O) → HasTaken start_of stands_for limit before so
        → HasActed start_of stands_for so after event outcome → (cap : ℕ) → cap < 2 ^ 63 - 1
        → Allows (Rule start_of stands_for cap) slots id after.me 0 (λ x. (x + 1) % 2 ^ 64)
        (gives_back (step slots 0 1 0 none) after.me)
    may-give slots id before so after event outcome t a cap small = let note =
        a.noted.0 in
        gives-back start_of stands_for cap slots id so.me.0 a.held note
        (ap (λ (m : Me (Held M E O) (Knowledge S E O)). m.0.stage) t.is) a.noted.1
        (subst (λ (z : E × O). stands_for a.held.machine
        (so.me.0.history ++ entry so.me.0.name z.0 z.1 ∷ []))
        (λ i. (sym a.noted.2 i, sym a.noted.3 i)) a.stands) a.start small after.me a.is

    -- the machine acted and is back
    module _ (slots : ℕ) (r : ℕ) (before so acted after : Seat (Held M E O) (Knowledge S E O))
        (event : E) (outcome : O) (t : HasTaken start_of stands_for limit before so)
        (a : HasActed start_of stands_for so acted event outcome)
        (g : gives_back (step slots 0 1 0 none) acted.me r after.me)
        (same : after.table_id ≡ acted.table_id) where
      asked : after.me ≡ (having_asked event outcome (taking t.history before.me.0), [])
      asked = g a.held a.noted.0 (ap (λ (m : Me (Held M E O) (Knowledge S E O)). m.1) a.is)
          a.noted.1
          ∙ ap (λ (z : E × O × Knowledge S E O). (having_asked z.0 z.1 z.2, []))
          (λ i. (
            a.noted.2 i,
            a.noted.3 i,
            (ap (λ (m : Me (Held M E O) (Knowledge S E O)). m.0) a.is
                ∙ ap (λ (m : Me (Held M E O) (Knowledge S E O)). m.0) t.is) i,
          ))

      pub asked-pass : (cell : TableId) → IsReady cell before → IsReady cell after
      asked-pass cell of = record {
        table = same ∙ (a.table ∙ (t.table ∙ of.table));
        ready = ap (λ (m : Me (Held M E O) (Knowledge S E O)). m.0.stage) asked;
        empty = ap (λ (m : Me (Held M E O) (Knowledge S E O)). m.1) asked;
      }

      pub asked-same : IsSamePass before.me.0 after.me.0
      asked-same = record {
        start = ap (λ (m : Me (Held M E O) (Knowledge S E O)). m.0.start) asked;
        name = ap (λ (m : Me (Held M E O) (Knowledge S E O)). m.0.name) asked;
        joined = ap (λ (m : Me (Held M E O) (Knowledge S E O)). m.0.joined) asked;
        splits = ap (λ (m : Me (Held M E O) (Knowledge S E O)). m.0.splits) asked;
        away = ap (λ (m : Me (Held M E O) (Knowledge S E O)). m.0.away) asked;
      }

      pub asked-answer : IsAnswered limit before.me.0 after.me.0 event outcome
      asked-answer = record {
        found = t.history;
        later = t.later;
        last = ap (λ (m : Me (Held M E O) (Knowledge S E O)). m.0.history) asked;
        calls = ap (λ (m : Me (Held M E O) (Knowledge S E O)). m.0.calls) asked;
        room = t.room;
      }

      pub asked-calls : HasCalls after.me.0
      asked-calls =
          subst (λ (m : Me (Held M E O) (Knowledge S E O)). HasCalls m.0) (sym asked)
          (calls-asked (taking t.history before.me.0) event outcome t.calls)

      pub asked-own : calls_of after.me.0.name after.me.0.history ≡ after.me.0.calls
      asked-own = own-of after.me.0 asked-calls

      -- where it acted, it stood for the history
      pub asked-stood : HasStood start_of stands_for after.me.0
      asked-stood = record {
        machine = a.held.machine;
        stands = subst (λ (h : List (Entry E O)). stands_for a.held.machine h)
            (ap (λ (m : Me (Held M E O) (Knowledge S E O)).
            m.0.history ++ entry m.0.name event outcome ∷ []) t.is
            ∙ sym (ap (λ (m : Me (Held M E O) (Knowledge S E O)). m.0.history) asked)) a.stands;
        start = ap (λ (m : Me (Held M E O) (Knowledge S E O)). m.0.start) asked
            ∙ (sym (ap (λ (m : Me (Held M E O) (Knowledge S E O)). m.0.start) t.is) ∙ a.start);
      }
