-- Each step keeps what the rule says of the history: what each pass knows of it, and whose calls
-- stand in it.
use Rattle.std.proofs.Common.{◌≡◌, ◌≢◌, ℕ, inl, inr, ⊎_elim, true, false, List, [], ◌∷◌, ◌++◌}
use Rattle.std.proofs.Common.{length, set, refl, sym, ap, ◌∙◌, subst, append-nil}
use mathlib.Core.Logic.{dite}
use native.Mathlib.Decide.{ℕ_discrete}
use Rattle.atomic_table.proofs.Lists.{at_set, set_else, at_longer}
use Rattle.volume_cell.specs.declared.history.Call.{Call}
use Rattle.volume_cell.specs.declared.history.Entry.{Entry}
use Rattle.volume_cell.specs.declared.knowledge.Knowledge.{Knowledge}
use Rattle.volume_cell.specs.declared.knowledge.Stage.{Stage}
use Rattle.volume_cell.specs.declared.knowledge.Stage.TheVariants.{Ready, InTurn, Retired}
use Rattle.volume_cell.specs.Histories.{Begins, entry, call, calls_of, has_account, accounted}
use Rattle.volume_cell.specs.Knowing.{IsLive, HasCalls, accounts, longer, IsWhole, knowing, taking}
use Rattle.volume_cell.specs.Knowing.{having_asked, next_name, having_split, split_off}
use Rattle.volume_cell.specs.Knowing.{having_joined, gone}
use Rattle.volume_cell.specs.Exclusion.{Phase, At, Family}
use Rattle.volume_cell.specs.History.{Stands, IsInformed, IsKept, Historic}
use Rattle.volume_cell.proofs.Lists.{begins_same, begins_all, begins_more, at_end, begins_through}
use Rattle.volume_cell.proofs.Lists.{longer_begins, begins_longer, begins_longer_too}
use Rattle.volume_cell.proofs.Lists.{shorter_begins-longer}
use Rattle.volume_cell.proofs.Names.{not-both, true-or-false, calls_of-own, calls_of-other}
use Rattle.volume_cell.proofs.Names.{begins-none, rest-none, between, has-own, has-alone-name}
use Rattle.volume_cell.proofs.Names.{has-left, has-right, has-one, accounted-own, accounted-other}
use Rattle.volume_cell.proofs.Names.{accounted-none, accounted-left, accounted-right, own-call}
use Rattle.volume_cell.proofs.Names.{names-differ-or-not, not-none}
use Rattle.volume_cell.proofs.Families.{at-one, at-changed, next-unused, joined-here, else-here}

abbrev InTurnOnly : Stage → Type 0
InTurnOnly Ready = ⊥
InTurnOnly InTurn = Unit {0}
InTurnOnly Retired = ⊥

pub ready-not-in-turn : (st : Stage) → st ≡ Ready → st ≡ InTurn → ⊥
ready-not-in-turn st r t = subst InTurnOnly (sym t ∙ r) tt

pub retired-not-in-turn : (st : Stage) → Retired ≡ st → st ≡ InTurn → ⊥
retired-not-in-turn st r t = subst InTurnOnly (sym (r ∙ t)) tt

pub ready-live : (st : Stage) → st ≡ Ready → IsLive st
ready-live st r = subst IsLive (sym r) tt

pub in-turn-live : (st : Stage) → st ≡ InTurn → IsLive st
in-turn-live st r = subst IsLive (sym r) tt

module _ {S E O : Type 0} where
  -- what is known of the whole history
  pub informed_now : (h : List (Entry E O)) (v : Knowledge S E O) → IsInformed h v
      → IsInformed h (knowing h v)
  informed_now h v i =
      record {
        known = begins_same h;
        met =
            begins_through v.met v.history h i.met i.known;
        turning = λ _. refl;
        calls = i.calls;
        seen = i.calls;
      }

  pub informed_taking : (h : List (Entry E O)) (v : Knowledge S E O) → IsInformed h v
      → IsInformed h (taking h v)
  informed_taking h v i =
      record {
        known = begins_same h;
        met =
            begins_through v.met v.history h i.met i.known;
        turning = λ _. refl;
        calls = i.calls;
        seen = i.calls;
      }

  informed_split : (h : List (Entry E O)) (v : Knowledge S E O) → IsInformed h v
      → IsInformed h (having_split v)
  informed_split h v i =
      record { known = i.known; met = i.met; turning = i.turning; calls = i.calls; seen = i.seen }

  -- a pass that knows the calls of all its accounts knows its own
  pub own-of : (v : Knowledge S E O) → HasCalls v → calls_of v.name v.history ≡ v.calls
  own-of v all =
      all v.name (has-own v.name v.name v.calls v.joined refl)
      ∙ accounted-own v.name v.name v.calls v.joined refl

  -- and it still does after a call of its own
  pub calls-asked : (v : Knowledge S E O) (e : E) (o : O) → HasCalls v
      → HasCalls (having_asked e o v)
  calls-asked v e o all n has = ⊎_elim
      (λ (own : n ≡ v.name). subst
      (λ (m : List ℕ). calls_of m (v.history ++ entry v.name e o ∷ [])
      ≡ accounted m (accounts (having_asked e o v))) (sym own)
      (calls_of-own v.name e o v.history
      ∙ (ap (λ (l : List (Call E O)). l ++ call e o ∷ []) (own-of v all)
      ∙ sym (accounted-own v.name v.name (v.calls ++ call e o ∷ []) v.joined refl))))
      (λ other. calls_of-other n v.name e o v.history other
      ∙ (all n (own-call n v.name v.calls (v.calls ++ call e o ∷ []) v.joined has)
      ∙ accounted-other n v.name v.calls (v.calls ++ call e o ∷ []) v.joined other))
      (names-differ-or-not n v.name)

  -- a pass knows its own calls
  pub own-calls : (h : List (Entry E O)) (v : Knowledge S E O) → IsInformed h v
      → (calls_of v.name h ≡ v.calls) × (calls_of v.name v.history ≡ v.calls)
  own-calls h v i = (own-of (knowing h v) i.calls, own-of v i.seen)

  -- after a call of its own
  informed_asked : (h : List (Entry E O)) (v : Knowledge S E O) (e : E) (o : O) → IsInformed h v
      → v.history ≡ h → IsInformed (h ++ entry v.name e o ∷ []) (having_asked e o v)
  informed_asked h v e o i same = record {
    known = subst
        (λ (l : List (Entry E O)). Begins (v.history ++ entry v.name e o ∷ [])
        (l ++ entry v.name e o ∷ [])) same (begins_same (v.history ++ entry v.name e o ∷ []));
    met = begins_more v.met v.history (entry v.name e o ∷ []) i.met;
    turning = λ _. ap (λ (l : List (Entry E O)). l ++ entry v.name e o ∷ []) same;
    calls = now;
    seen = λ n has. ap (λ (l : List (Entry E O)). calls_of n (l ++ entry v.name e o ∷ [])) same
        ∙ now n has;
  }
    where
      now : (n : List ℕ) → has_account n (accounts (having_asked e o v)) ≡ true
          → calls_of n (h ++ entry v.name e o ∷ []) ≡ accounted n (accounts (having_asked e o v))
      now = calls-asked (knowing h v) e o i.calls

  -- after a call of another
  informed_others : (h : List (Entry E O)) (u : Knowledge S E O) (m : List ℕ) (e : E) (o : O)
      → IsInformed h u → has_account m (accounts u) ≡ false → (u.stage ≡ InTurn → ⊥)
      → IsInformed (h ++ entry m e o ∷ []) u
  informed_others h u m e o i none idle = record {
    known = begins_more u.history h (entry m e o ∷ []) i.known;
    met = i.met;
    turning = λ t. absurd (idle t);
    calls = λ n has. calls_of-other n m e o h
        (λ same. not-both (subst (λ (k : List ℕ). has_account k (accounts u) ≡ true) same has) none)
        ∙ i.calls n has;
    seen = i.seen;
  }

  module _ {M : Type 0} (stands_for : M → List (Entry E O) → Type 0) where
    -- one view changed, the history did not
    pub historic_goes : (h : List (Entry E O)) (phase after : Phase M E O)
        (vs : List (Knowledge S E O)) (id : ℕ) (v w : Knowledge S E O)
        → Historic stands_for h phase vs → At vs id v → IsLive w.stage
        → IsInformed h w → ((n : List ℕ) → has_account n (accounts w) ≡ has_account n (accounts v))
        → Stands stands_for after h → Historic stands_for h after (set vs id w)
    historic_goes h phase after vs id v w r at live i names stands = record {
      stands = stands;
      informed =
          λ j u there l. ⊎_elim (λ (t : (j ≡ id) × (w ≡ u)). subst (IsInformed h) t.1 i)
          (λ (t : (j ≢ id) × At vs j u). r.informed j u t.1 l) (at_set vs id j w u there);
      kept = λ n. ⊎_elim (λ none. inl none) (λ (k : IsKept vs n). inr (still n k)) (r.kept n);
    }
      where
        still : (n : List ℕ) → IsKept vs n → IsKept (set vs id w) n
        still n k = dite (ℕ_discrete k.id id)
            (λ e. record {
              id = id;
              keeper = w;
              at = at-changed vs id v w at;
              live = live;
              has =
                  names n ∙ (ap (λ (x : Knowledge S E O). has_account n (accounts x))
                  (at-one vs id v k.keeper at (subst (λ (z : ℕ). At vs z k.keeper) e k.at))
                  ∙ k.has);
            })
            (λ ne. record {
              id = k.id;
              keeper = k.keeper;
              at =
                  set_else vs id k.id w ne ∙ k.at;
              live = k.live;
              has = k.has;
            })

    -- the machine was given back with one more entry
    pub historic_gives : (first : S) (h : List (Entry E O)) (phase after : Phase M E O)
        (vs : List (Knowledge S E O)) (id : ℕ) (v : Knowledge S E O) (e : E) (o : O)
        → Family first vs
        → Historic stands_for h phase vs → At vs id v → v.stage ≡ InTurn
        → ((j : ℕ) (u : Knowledge S E O) → At vs j u → j ≢ id → u.stage ≡ InTurn → ⊥)
        → Stands stands_for after (h ++ entry v.name e o ∷ [])
        → Historic stands_for (h ++ entry v.name e o ∷ []) after (set vs id (having_asked e o v))
    historic_gives first h phase after vs id v e o f r at turn idle stands = record {
      stands = stands;
      informed =
          λ j u there l. ⊎_elim
          (λ (t : (j ≡ id) × (having_asked e o v ≡ u)). subst
          (IsInformed (h ++ entry v.name e o ∷ [])) t.1
          (informed_asked h v e o mine (mine.turning turn)))
          (λ (t : (j ≢ id) × At vs j u). informed_others h u v.name e o (r.informed j u t.1 l)
          (f.apart id j v u at t.1 live l t.0) (idle j u t.1 t.0))
          (at_set vs id j (having_asked e o v) u there);
      kept = λ n. ⊎_elim
          (λ (own : n ≡ v.name). inr
          (record {
            id = id;
            keeper = having_asked e o v;
            at =
                at-changed vs id v (having_asked e o v) at;
            live = tt;
            has = has-own n v.name (v.calls ++ call e o ∷ []) v.joined own;
          }))
          (λ other. ⊎_elim (λ none. inl (calls_of-other n v.name e o h other ∙ none))
          (λ (k : IsKept vs n). inr (still n k)) (r.kept n))
          (names-differ-or-not n v.name);
    }
      where
        live : IsLive v.stage
        live = in-turn-live v.stage turn

        mine : IsInformed h v
        mine = r.informed id v at live

        still : (n : List ℕ) → IsKept vs n → IsKept (set vs id (having_asked e o v)) n
        still n k = dite (ℕ_discrete k.id id)
            (λ e'. record {
              id = id;
              keeper = having_asked e o v;
              at = at-changed vs id v (having_asked e o v) at;
              live = tt;
              has = own-call n v.name (v.calls ++ call e o ∷ []) v.calls v.joined
                  (ap (λ (x : Knowledge S E O). has_account n (accounts x))
                  (at-one vs id v k.keeper at (subst (λ (z : ℕ). At vs z k.keeper) e' k.at))
                  ∙ k.has);
            })
            (λ ne. record {
              id = k.id;
              keeper = k.keeper;
              at =
                  set_else vs id k.id (having_asked e o v) ne ∙ k.at;
              live = k.live;
              has = k.has;
            })

    -- a pass was split off
    module _ (first : S) (h : List (Entry E O)) (phase : Phase M E O) (vs : List (Knowledge S E O))
        (id : ℕ) (v : Knowledge S E O) (f : Family first vs) (r : Historic stands_for h phase vs)
        (at : At vs id v) (ready : v.stage ≡ Ready) where
      mine : IsInformed h v
      mine = r.informed id v at (ready-live v.stage ready)

      nothing-yet : (n : List ℕ) → n ≡ next_name v → calls_of n h ≡ []
      nothing-yet n is = ⊎_elim (λ none. none)
          (λ (k : IsKept vs n). absurd
          (not-both k.has
          (ap (λ m. has_account m (accounts k.keeper)) (is ∙ sym (append-nil (next_name v)))
          ∙ next-unused first vs f id v at (ready-live v.stage ready) k.id k.keeper k.at k.live
          [])))
          (r.kept n)

      informed_new : IsInformed h (split_off v)
      informed_new = record {
        known = mine.known;
        met = begins_all v.history;
        turning = λ t. absurd (ready-not-in-turn Ready refl t);
        calls = λ n has. let is =
            has-one n (next_name v) [] has in
            nothing-yet n is ∙ sym (accounted-own n (next_name v) [] [] is);
        seen = λ n has. let is =
            has-one n (next_name v) [] has in
            begins-none n v.history h mine.known (nothing-yet n is)
            ∙ sym (accounted-own n (next_name v) [] [] is);
      }

      pub historic_splits : Historic stands_for h phase
          (set vs id (having_split v) ++ split_off v ∷ [])
      historic_splits = let base =
          historic_goes h phase phase vs id v (having_split v) r at (ready-live v.stage ready)
          (informed_split h v mine) (λ n. refl) r.stands in record {
            stands = r.stands;
            informed =
                λ j u there l. ⊎_elim (λ a. base.informed j u a l)
                (λ (t : (j ≡ length (set vs id (having_split v))) × (split_off v ≡ u)). subst
                (IsInformed h) t.1 informed_new)
                (at_end (set vs id (having_split v)) (split_off v) u j there);
            kept = λ n. ⊎_elim (λ none. inl none)
                (λ (k : IsKept (set vs id (having_split v)) n). inr
                (record {
                  id = k.id;
                  keeper = k.keeper;
                  at =
                      at_longer (set vs id (having_split v)) (split_off v ∷ []) k.id k.keeper k.at;
                  live = k.live;
                  has = k.has;
                })) (base.kept n);
          }

    -- a pass was joined into another
    module _ (first : S) (h : List (Entry E O)) (phase : Phase M E O) (vs : List (Knowledge S E O))
        (id other : ℕ) (v x : Knowledge S E O) (f : Family first vs)
        (r : Historic stands_for h phase vs) (at : At vs id v)
        (there : At vs other x) (ready : v.stage ≡ Ready) (readies : x.stage ≡ Ready)
        (apart : other ≢ id) (whole : IsWhole x) where
      own : IsInformed h v
      own = r.informed id v at (ready-live v.stage ready)

      its : IsInformed h x
      its = r.informed other x there (ready-live x.stage readies)

      informed_joined : IsInformed h (having_joined v x)
      informed_joined = record {
        known = longer_begins v.history x.history h own.known its.known;
        met = shorter_begins-longer v.history x.history h own.known its.known;
        turning = λ t. absurd (ready-not-in-turn v.stage ready t);
        calls = now;
        seen = λ n has. ⊎_elim
            (λ mine. between n v.history (longer v.history x.history) h
            (accounted n (accounts (having_joined v x)))
            (begins_longer v.history x.history h own.known its.known)
            (longer_begins v.history x.history h own.known its.known)
            (own.seen n mine ∙ sym (accounted-left n (accounts v) (accounts x) mine)) (now n has))
            (λ not. between n x.history (longer v.history x.history) h
            (accounted n (accounts (having_joined v x)))
            (begins_longer_too v.history x.history h own.known its.known)
            (longer_begins v.history x.history h own.known its.known)
            (its.seen n (has-alone-name n (accounts v) (accounts x) not has)
            ∙ sym (accounted-right n (accounts v) (accounts x) not)) (now n has))
            (true-or-false (has_account n (accounts v)));
      }
        where
          now : (n : List ℕ) → has_account n (accounts (having_joined v x)) ≡ true
              → calls_of n h ≡ accounted n (accounts (having_joined v x))
          now n has =
              ⊎_elim (λ mine. own.calls n mine
              ∙ sym (accounted-left n (accounts v) (accounts x) mine))
              (λ not. its.calls n (has-alone-name n (accounts v) (accounts x) not has)
              ∙ sym (accounted-right n (accounts v) (accounts x) not))
              (true-or-false (has_account n (accounts v)))

      pub historic_joins : Historic stands_for h phase
          (set (set vs id (having_joined v x)) other gone)
      historic_joins = record {
        stands = r.stands;
        informed =
            λ j u here l. ⊎_elim
            (λ (t : (j ≡ other) × (gone ≡ u)). absurd
            (subst (λ (y : Knowledge S E O). IsLive y.stage) (sym t.1) l))
            (λ (t : (j ≢ other) × At (set vs id (having_joined v x)) j u). ⊎_elim
            (λ (s : (j ≡ id) × (having_joined v x ≡ u)). subst (IsInformed h) s.1 informed_joined)
            (λ (s : (j ≢ id) × At vs j u). r.informed j u s.1 l)
            (at_set vs id j (having_joined v x) u t.1))
            (at_set (set vs id (having_joined v x)) other j gone u here);
        kept = λ n. ⊎_elim (λ none. inl none) (λ (k : IsKept vs n). inr (still n k)) (r.kept n);
      }
        where
          lives : IsLive v.stage
          lives = ready-live v.stage ready

          with-it : (n : List ℕ) → has_account n (accounts (having_joined v x)) ≡ true
              → IsKept (set (set vs id (having_joined v x)) other gone) n
          with-it n has =
              record {
                id = id;
                keeper = having_joined v x;
                at =
                    joined-here first vs f id other v x at there lives (ready-live x.stage readies)
                    apart whole;
                live = lives;
                has = has;
              }

          still : (n : List ℕ) → IsKept vs n
              → IsKept (set (set vs id (having_joined v x)) other gone) n
          still n k = dite (ℕ_discrete k.id other)
              (λ e. with-it n
              (has-right n (accounts v) (accounts x)
              (ap (λ (y : Knowledge S E O). has_account n (accounts y))
              (at-one vs other x k.keeper there (subst (λ (z : ℕ). At vs z k.keeper) e k.at))
              ∙ k.has)))
              (λ nor. dite (ℕ_discrete k.id id)
              (λ e. with-it n
              (has-left n (accounts v) (accounts x)
              (ap (λ (y : Knowledge S E O). has_account n (accounts y))
              (at-one vs id v k.keeper at (subst (λ (z : ℕ). At vs z k.keeper) e k.at)) ∙ k.has)))
              (λ ne. record {
                id = k.id;
                keeper = k.keeper;
                at =
                    else-here first vs f id other v x at there lives (ready-live x.stage readies)
                    apart whole k.id k.keeper ne nor k.at;
                live = k.live;
                has = k.has;
              }))

    -- the only live pass knows the whole history
    module _ (h : List (Entry E O)) (phase : Phase M E O) (vs : List (Knowledge S E O)) (id : ℕ)
        (v : Knowledge S E O) (r : Historic stands_for h phase vs) (at : At vs id v)
        (live : IsLive v.stage)
        (alone : (j : ℕ) (u : Knowledge S E O) → At vs j u → IsLive u.stage → (j ≡ id) × (v ≡ u))
      where
        told : IsInformed h v
        told = r.informed id v at live

        stranger : (n : List ℕ) → has_account n (accounts v) ≡ false → calls_of n h ≡ []
        stranger n none =
            ⊎_elim (λ z. z)
            (λ (k : IsKept vs n). absurd
            (not-both k.has
            (ap (λ (x : Knowledge S E O). has_account n (accounts x))
            (sym (alone k.id k.keeper k.at k.live).1) ∙ none))) (r.kept n)

        same-calls : (n : List ℕ) → calls_of n h ≡ calls_of n v.history
        same-calls n =
            ⊎_elim (λ has. told.calls n has ∙ sym (told.seen n has))
            (λ none. stranger n none ∙ sym (begins-none n v.history h told.known (stranger n none)))
            (true-or-false (has_account n (accounts v)))

        pub whole-history : v.history ≡ h
        whole-history = by told.known.rest refl
          where
            by : (rest : List (Entry E O)) → told.known.rest ≡ rest → v.history ≡ h
            by [] e =
                sym (told.known.is
                ∙ (ap (λ (l : List (Entry E O)). v.history ++ l) e ∙ append-nil v.history))
            by (x ∷ more) e =
                absurd (let none =
                ap (calls_of x.name) (sym e)
                ∙ rest-none x.name v.history h told.known (same-calls x.name) in
                not-none x more none)

        -- the law: of each name it has the calls that the accounts have
        pub accounted-all : (n : List ℕ) → calls_of n v.history ≡ accounted n (accounts v)
        accounted-all n =
            ⊎_elim (λ has. told.seen n has)
            (λ none. begins-none n v.history h told.known (stranger n none)
            ∙ sym (accounted-none n (accounts v) none)) (true-or-false (has_account n (accounts v)))
