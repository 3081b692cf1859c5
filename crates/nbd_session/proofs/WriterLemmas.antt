-- What a writer put, call by call.
use Rattle.std.proofs.Common.{◌≡◌, ℕ, Bool, true, false, List, [], ◌∷◌, ◌++◌, Some, None}
use Rattle.std.proofs.Common.{ap, ◌∙◌, refl, sym, subst}
use Rattle.io_edge.specs.Outlet.{Outlet}
use Rattle.nbd_stream.specs.declared.ending.Ending.TheVariants.{WriteFault}
use Rattle.nbd_stream.specs.Moments.{moment, Talks}
use Rattle.nbd_stream.specs.Putting.{IsOut}
use Rattle.nbd_stream.specs.Traffic.{Reach}
use Rattle.nbd_stream.proofs.TalkLemmas.{talks-none, talks-put, talks-unput, talks-more, talks-on}
use Rattle.nbd_session.specs.declared.writer.Put.{Put}
use Rattle.nbd_session.specs.declared.writer.Writing.{Writing}
use Rattle.nbd_session.specs.declared.writer.Written.{Written}
use Rattle.nbd_session.specs.declared.writer.Written.TheVariants.{Done, SinkFailed}
use Rattle.nbd_session.specs.Merges.{From, from, items_of}
use Rattle.nbd_session.specs.Puts.{AreRefused, HasPut, HasWritten, IfDone, IsPutOf, PutsText, Sends}
use Rattle.nbd_session.specs.Puts.{fault_if, put_done, put_failed, put_refused, text_of}
use Rattle.volume_cell.specs.declared.history.Entry.{Entry}
use Rattle.volume_cell.specs.Histories.{entry}

-- ---- one entry more
refused-more : (history : List (Entry Put Written)) (one : Entry Put Written) → AreRefused history
    → IfDone one.outcome ⊥ (Unit {0}) → AreRefused (history ++ one ∷ [])
unfolding AreRefused
refused-more [] one are is = (is, tt)
refused-more (first ∷ history) one (begins, are) is = (begins, refused-more history one are is)

-- both hold of what was put, and of what wasn't
if-both : (outcome : Written) (P Q P' Q' : Type 0) → (P → P') → (Q → Q') → IfDone outcome P Q
    → IfDone outcome P' Q'
if-both (Done reply) P Q P' Q' p q is = p is
if-both (SinkFailed reply) P Q P' Q' p q is = q is

-- the sink goes on, so nothing failed
no-fault : false ≡ true → ⊥
no-fault is = cc

-- a text more, that went out
sends-done : (history : List (Entry Put Written)) (all : List (From (List ℕ)))
    (one : Entry Put Written) (sent : From (List ℕ)) → Sends history all false → IsPutOf one sent
    → IfDone one.outcome (Unit {0}) ⊥ → Sends (history ++ one ∷ []) (all ++ sent ∷ []) false
unfolding Sends
sends-done [] [] one sent sends put is = (
  put,
  if-both one.outcome (Unit {0}) ⊥ _ _ (λ u. u) (λ bad. absurd bad) is,
)
sends-done [] (other ∷ all) one sent sends put is = absurd sends
sends-done (first ∷ history) [] one sent sends put is = absurd sends
sends-done (first ∷ history) (other ∷ all) one sent (begins, sends) put is = (
  begins,
  if-both first.outcome _ _ _ _ (λ rest. sends-done history all one sent rest put is)
      (λ rest. absurd (no-fault rest.1)) sends,
)

-- the text at which the sink failed
sends-failed : (history : List (Entry Put Written)) (all : List (From (List ℕ)))
    (one : Entry Put Written) (sent : From (List ℕ)) → Sends history all false → IsPutOf one sent
    → IfDone one.outcome ⊥ (Unit {0}) → Sends (history ++ one ∷ []) (all ++ sent ∷ []) true
unfolding Sends AreRefused
sends-failed [] [] one sent sends put is = (
  put,
  if-both one.outcome ⊥ (Unit {0}) _ _ (λ bad. absurd bad) (λ u. (refl, refl, tt)) is,
)
sends-failed [] (other ∷ all) one sent sends put is = absurd sends
sends-failed (first ∷ history) [] one sent sends put is = absurd sends
sends-failed (first ∷ history) (other ∷ all) one sent (begins, sends) put is = (
  begins,
  if-both first.outcome _ _ _ _ (λ rest. sends-failed history all one sent rest put is)
      (λ rest. absurd (no-fault rest.1)) sends,
)

-- a reply behind it, which isn't put
sends-refused : (history : List (Entry Put Written)) (all : List (From (List ℕ)))
    (one : Entry Put Written) → Sends history all true → IfDone one.outcome ⊥ (Unit {0})
    → Sends (history ++ one ∷ []) all true
unfolding Sends
sends-refused [] [] one sends is = absurd sends
sends-refused [] (other ∷ all) one sends is = absurd sends
sends-refused (first ∷ history) [] one sends is = absurd sends
sends-refused (first ∷ history) (other ∷ all) one (begins, sends) is = (
  begins,
  if-both first.outcome _ _ _ _ (λ rest. sends-refused history all one rest is)
      (λ rest. (rest.0, rest.1, refused-more history one rest.2 is)) sends,
)

items_of-more : (all : List (From (List ℕ))) (one : From (List ℕ))
    → items_of all ++ one.item ∷ [] ≡ items_of (all ++ one ∷ [])
unfolding items_of
items_of-more [] one = refl
items_of-more (first ∷ all) one = ap (λ x. first.item ∷ x) (items_of-more all one)

-- what came of a put
abbrev pub CameTo : Bool → Written → Type 0
CameTo true outcome = IfDone outcome (Unit {0}) ⊥
CameTo false outcome = IfDone outcome ⊥ (Unit {0})

module _ {K : Type 0} (outlet : K → Outlet) where
  -- nothing was put yet
  pub write-none : (writing : Writing K) → writing.failed ≡ false → IsOut (outlet writing.sink)
      → HasWritten outlet writing writing []
  unfolding Sends items_of
  write-none writing none out = record {
    all = [];
    sends = subst (λ (f : Bool). Sends [] [] f) (sym none) tt;
    whole = [];
    front = [];
    talks = λ source. subst (λ (f : Bool).
        Talks (moment source.source (outlet writing.sink) source.taken writing.put)
        (moment source.source (outlet writing.sink) source.taken writing.put) (fault_if f) [] [] []
        [] false) (sym none)
        (talks-none (moment source.source (outlet writing.sink) source.taken writing.put));
    out = λ still. out;
  }

  -- what was put before a sink failed, if it did
  writes-on : (start now : Writing K) (history : List (Entry Put Written)) → now.failed ≡ false
      → (written : HasWritten outlet start now history) → (source : Reach)
      → Talks (moment source.source (outlet start.sink) source.taken start.put)
      (moment source.source (outlet now.sink) source.taken now.put) None [] (items_of written.all)
      written.whole [] false
  writes-on start now history still written source =
      talks-on _ _ [] (items_of written.all) written.whole written.front false
      (subst (λ (f : Bool). Talks (moment source.source (outlet start.sink) source.taken start.put)
      (moment source.source (outlet now.sink) source.taken now.put) (fault_if f) []
      (items_of written.all) written.whole written.front false) still (written.talks source))

  -- a reply was put
  write-done : (start old new : Writing K) (history : List (Entry Put Written)) (lane : ℕ)
      (put : Put) (outcome : Written) → old.failed ≡ false → new.failed ≡ false
      → HasWritten outlet start old history → PutsText outlet old new (text_of put) true
      → IsOut (outlet new.sink) → IfDone outcome (Unit {0}) ⊥
      → HasWritten outlet start new (history ++ entry (lane ∷ []) put outcome ∷ [])
  write-done start old new history lane put outcome still goes_on written puts out is =
      let text = text_of put in
      let one : Entry Put Written = entry (lane ∷ []) put outcome in
      let all = written.all ++ from lane text ∷ [] in
      record {
        all = all;
        sends = subst (λ (f : Bool). Sends (history ++ one ∷ []) all f) (sym goes_on)
            (sends-done history written.all one (from lane text)
            (subst (λ (f : Bool). Sends history written.all f) still written.sends)
            (record { name = refl; text = refl }) is);
        whole = written.whole ++ text;
        front = [];
        talks = λ source. subst (λ (f : Bool).
            Talks (moment source.source (outlet start.sink) source.taken start.put)
            (moment source.source (outlet new.sink) source.taken new.put) (fault_if f) []
            (items_of all) (written.whole ++ text) [] false) (sym goes_on)
            (subst (λ ms. Talks (moment source.source (outlet start.sink) source.taken start.put)
            (moment source.source (outlet new.sink) source.taken new.put) None [] ms
            (written.whole ++ text) [] false) (items_of-more written.all (from lane text))
            (talks-more _ _ _ None [] [] (items_of written.all) (text ∷ []) written.whole text []
            false (writes-on start old history still written source)
            (talks-put source _ _ _ _ text puts)));
        out = λ f. out;
      }

  -- the sink failed
  write-failed : (start old new : Writing K) (history : List (Entry Put Written)) (lane : ℕ)
      (put : Put) (outcome : Written) → old.failed ≡ false → new.failed ≡ true
      → HasWritten outlet start old history → PutsText outlet old new (text_of put) false
      → IfDone outcome ⊥ (Unit {0})
      → HasWritten outlet start new (history ++ entry (lane ∷ []) put outcome ∷ [])
  write-failed start old new history lane put outcome still fails written puts is =
      let text = text_of put in
      let one : Entry Put Written = entry (lane ∷ []) put outcome in
      let all = written.all ++ from lane text ∷ [] in
      record {
        all = all;
        sends = subst (λ (f : Bool). Sends (history ++ one ∷ []) all f) (sym fails)
            (sends-failed history written.all one (from lane text)
            (subst (λ (f : Bool). Sends history written.all f) still written.sends)
            (record { name = refl; text = refl }) is);
        whole = written.whole ++ puts.0;
        front = puts.1;
        talks = λ source. subst (λ (f : Bool).
            Talks (moment source.source (outlet start.sink) source.taken start.put)
            (moment source.source (outlet new.sink) source.taken new.put) (fault_if f) []
            (items_of all) (written.whole ++ puts.0) puts.1 false) (sym fails)
            (subst (λ ms. Talks (moment source.source (outlet start.sink) source.taken start.put)
            (moment source.source (outlet new.sink) source.taken new.put) (Some WriteFault) [] ms
            (written.whole ++ puts.0) puts.1 false) (items_of-more written.all (from lane text))
            (talks-more _ _ _ (Some WriteFault) [] [] (items_of written.all) (text ∷ [])
            written.whole puts.0 puts.1 false (writes-on start old history still written source)
            (talks-unput source _ _ _ _ text puts.2 (puts.0, puts.1, puts.3))));
        out = λ f. absurd (no-fault (sym f ∙ fails));
      }

  -- it had failed
  write-refused : (start now : Writing K) (history : List (Entry Put Written))
      (one : Entry Put Written) → now.failed ≡ true → HasWritten outlet start now history
      → IfDone one.outcome ⊥ (Unit {0}) → HasWritten outlet start now (history ++ one ∷ [])
  write-refused start now history one over written is = record {
    all = written.all;
    sends = subst (λ (f : Bool). Sends (history ++ one ∷ []) written.all f) (sym over)
        (sends-refused history written.all one
        (subst (λ (f : Bool). Sends history written.all f) over written.sends) is);
    whole = written.whole;
    front = written.front;
    talks = written.talks;
    out = written.out;
  }

  -- one call more, of a lane
  pub write-more : (start old new : Writing K) (history : List (Entry Put Written)) (lane : ℕ)
      (put : Put) (outcome : Written) (is_put : Bool) → HasWritten outlet start old history
      → HasPut outlet old new (text_of put) is_put → CameTo is_put outcome
      → HasWritten outlet start new (history ++ entry (lane ∷ []) put outcome ∷ [])
  write-more start old new history lane put outcome _ has (put_refused over same) is =
      subst (λ now. HasWritten outlet start now (history ++ entry (lane ∷ []) put outcome ∷ []))
      (sym same) (write-refused start old history _ over has is)
  write-more start old new history lane put outcome _ has (put_failed still fails puts) is =
      write-failed start old new history lane put outcome still fails has puts is
  write-more start old new history lane put outcome _ has (put_done still goes_on puts out) is =
      write-done start old new history lane put outcome still goes_on has puts out is
