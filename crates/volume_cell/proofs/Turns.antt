-- Each step on the cell's table keeps the rule, and tells what it is said to tell.
use Rattle.std.proofs.Common.{◌≡◌, ◌≢◌, ℕ, zero, suc, ◌+◌, ◌-◌, ◌/◌, ◌%◌, ◌^◌, ◌<◌, inl, inr}
use Rattle.std.proofs.Common.{⊎_elim, eqb, List, [], ◌∷◌, ◌++◌, Some, length, get_or, set, refl}
use Rattle.std.proofs.Common.{sym, ap, ◌∙◌, subst, length-append, arith, eq-eqb, ne_eqb}
use mathlib.Core.Option.{Option, none, some, some-injective, some-ne-none}
use mathlib.Core.Logic.{dite}
use native.Mathlib.Decide.{ℕ_discrete}
use lib.ListN.{get_elem?}
use lib.Seq.{set-get_or}
use prog.Atomic.{either}
use Rattle.std.specs.Option.{unwrap_or}
use Rattle.atomic_table.specs.Table.{State, Me, Act, Valid, carried_after, step, keeps, takes}
use Rattle.atomic_table.specs.Table.{gives, stepped, Allows, Splits, Joins, opening, Final, Seen}
use Rattle.atomic_table.proofs.Lists.{at_set, set_else, set_again, at_longer}
use Rattle.volume_cell.specs.declared.history.Entry.{Entry}
use Rattle.volume_cell.specs.declared.held.Held.{Held}
use Rattle.volume_cell.specs.declared.held.Note.{Note}
use Rattle.volume_cell.specs.declared.knowledge.Knowledge.{Knowledge}
use Rattle.volume_cell.specs.declared.knowledge.Stage.TheVariants.{Ready, InTurn, Retired}
use Rattle.volume_cell.specs.Histories.{Begins, entry, call, calls_of, accounted}
use Rattle.volume_cell.specs.Knowing.{IsLive, HasCalls, accounts, IsWhole, beginning, knowing}
use Rattle.volume_cell.specs.Knowing.{taking, having_asked, having_split, split_off, having_joined}
use Rattle.volume_cell.specs.Knowing.{retired, gone}
use Rattle.volume_cell.specs.Exclusion.{Phase, free, taken, word_of, home_of, StartsFrom, HasTaker}
use Rattle.volume_cell.specs.Exclusion.{At, HasParent, Family, Exclusion}
use Rattle.volume_cell.specs.History.{IsInformed, IsKept, Stands, Historic, Rule}
use Rattle.volume_cell.specs.Passes.{IsAccounted}
use Rattle.volume_cell.specs.Steps.{learns, Confirms, confirms, takes_at, gives_back}
use Rattle.volume_cell.proofs.Names.{calls_of-nothing, accounted-own, has-one, has-names}
use Rattle.volume_cell.proofs.Lists.{begins_same, at_end, both_begin}
use Rattle.volume_cell.proofs.Families.{Goes, at-one, at-changed, family_goes, family_begins}
use Rattle.volume_cell.proofs.Families.{family_splits, family_joins, alone}
use Rattle.volume_cell.proofs.Stories.{ready-not-in-turn, retired-not-in-turn, ready-live}
use Rattle.volume_cell.proofs.Stories.{in-turn-live, informed_now, informed_taking, historic_goes}
use Rattle.volume_cell.proofs.Stories.{historic_gives, historic_splits, historic_joins}
use Rattle.volume_cell.proofs.Stories.{whole-history, accounted-all}

-- how many entries a word tells of
halves : {M E O : Type 0} (phase : Phase M E O) (n : ℕ) → word_of phase n / 2 ≡ n
halves (free held) n = omega arith
halves (taken id) n = omega arith

module _ {M S E O : Type 0} (start_of : M → S) (stands_for : M → List (Entry E O) → Type 0)
    (limit : ℕ) where
  -- ---- exclusion

  -- those in a turn stay, and no other comes
  exclusion_keeps : (n : ℕ) (phase : Phase M E O) (homes : List (Option (Held M E O)))
      (vs after : List (Knowledge S E O)) (x : Exclusion start_of limit n phase homes vs)
      → ((j : ℕ) (u : Knowledge S E O) → At after j u → u.stage ≡ InTurn → At vs j u)
      → ((j : ℕ) (u : Knowledge S E O) → At vs j u → u.stage ≡ InTurn → At after j u)
      → Family x.first after → Exclusion start_of limit n phase homes after
  exclusion_keeps n phase homes vs after x back forth family = record {
    first = x.first;
    home = x.home;
    turning = λ i u at t. x.turning i u (back i u at t) t;
    taker = there phase x.taker;
    within = x.within;
    from = x.from;
    family = family;
  }
    where
      there : (p : Phase M E O) → HasTaker vs p → HasTaker after p
      there (free held) t = tt
      there (taken id) t = (t.0, forth id t.0 t.1 t.2, t.2)

  -- a view that was not in a turn changed into one that is not
  module _ (vs : List (Knowledge S E O)) (id : ℕ) (v w : Knowledge S E O) (at : At vs id v)
      (idle : v.stage ≡ InTurn → ⊥) (idles : w.stage ≡ InTurn → ⊥) where
    set-back : (j : ℕ) (u : Knowledge S E O) → At (set vs id w) j u → u.stage ≡ InTurn → At vs j u
    set-back j u there t =
        ⊎_elim (λ (s : (j ≡ id) × (w ≡ u)). absurd
        (idles (ap (λ (x : Knowledge S E O). x.stage) s.1 ∙ t))) (λ (s : (j ≢ id) × At vs j u). s.1)
        (at_set vs id j w u there)

    set-forth : (j : ℕ) (u : Knowledge S E O) → At vs j u → u.stage ≡ InTurn → At (set vs id w) j u
    set-forth j u there t =
        dite (ℕ_discrete j id)
        (λ e. absurd
        (idle (ap (λ (x : Knowledge S E O). x.stage)
        (at-one vs id v u at (subst (λ (z : ℕ). At vs z u) e there)) ∙ t)))
        (λ ne. set_else vs id j w ne ∙ there)

  -- ---- the first word

  first-word : (s : State (Held M E O) (Knowledge S E O)) (r : Rule start_of stands_for limit s)
      → get_or s.words 0 0 ≡ word_of r.phase (length r.history)
  first-word s r = ap (λ (l : List ℕ). get_or l 0 0) r.words

  -- ---- the machine stands for the empty history, and the first pass is alone

  pub opens : (held : Held M E O) → stands_for held.machine []
      → Rule start_of stands_for limit
      (opening (0 ∷ 0 ∷ []) (held ∷ []) (beginning (start_of held.machine)))
  opens held stands = record {
    phase = free held;
    history = [];
    waiting = 0;
    words = refl;
    exclusion = record {
      first = start_of held.machine;
      home = refl;
      turning =
          λ i u at t. absurd
          (ready-not-in-turn u.stage (sym (ap (λ (x : Knowledge S E O). x.stage) (only i u at))) t);
      taker = tt;
      within = omega arith;
      from = refl;
      family = family_begins (start_of held.machine);
    };
    historic = record {
      stands = stands;
      informed = λ i u at l. subst (IsInformed []) (only i u at) (record {
        known = begins_same [];
        met = begins_same [];
        turning = λ t. absurd (ready-not-in-turn Ready refl t);
        calls = λ n has. calls_of-nothing n ∙ sym (accounted-own n [] [] [] (has-one n [] [] has));
        seen = λ n has. calls_of-nothing n ∙ sym (accounted-own n [] [] [] (has-one n [] [] has));
      });
      kept = λ n. inl (calls_of-nothing n);
    };
  }
    where
      only : (i : ℕ) (u : Knowledge S E O) → At (beginning (start_of held.machine) ∷ []) i u
          → beginning (start_of held.machine) ≡ u
      only zero u at = some-injective (beginning (start_of held.machine)) u at
      only (suc i) u at = absurd (some-ne-none u (sym at))

  -- ---- one view changed

  goes-knowing : (v : Knowledge S E O) (h : List (Entry E O)) → Goes v (knowing h v)
  goes-knowing v h =
      record {
        live =
            λ l. l;
        lived = λ l. l;
        start = refl;
        name = refl;
        names = λ n. refl;
        splits = omega arith;
        away = λ n there. there;
      }

  -- a load tells the history
  pub loads : (slots id : ℕ) (me : Me (Held M E O) (Knowledge S E O)) → me.0.stage ≡ Ready
      → Allows (Rule start_of stands_for limit) slots id me 0 (λ x. x)
      (learns (step slots 0 0 0 none) me)
  loads slots id me ready s r _ at _ =
      let h = r.history in let v = me.0 in let w = knowing h v in let live =
      ready-live v.stage ready in let i = r.historic.informed id v at live in let not =
      ready-not-in-turn v.stage ready in (
        w,
        keeps,
        tt,
        subst (λ (ws : List ℕ). Rule start_of stands_for limit
            record { words = ws; homes = s.homes; views = set s.views id w })
            (sym (set-get_or s.words 0 0)) record {
              phase = r.phase;
              history = h;
              waiting = r.waiting;
              words = r.words;
              exclusion =
                  exclusion_keeps (length h) r.phase s.homes s.views (set s.views id w) r.exclusion
                  (set-back s.views id v w at not not) (set-forth s.views id v w at not not)
                  (family_goes r.exclusion.first s.views id v w r.exclusion.family at
                  (goes-knowing v h));
              historic =
                  historic_goes stands_for h r.phase r.phase s.views id v w r.historic at live
                  (informed_now h v i) (λ n. refl) r.historic.stands;
            },
        record {
          history = h;
          is = refl;
          later = i.known;
          long =
              ap (λ (x : ℕ). x / 2) (first-word s r) ∙ halves r.phase (length h);
          calls = i.calls;
        },
      )

  -- a load confirms what was learned
  pub confirms_it : (slots id : ℕ) (me : Me (Held M E O) (Knowledge S E O)) → me.0.stage ≡ Ready
      → Allows (Rule start_of stands_for limit) slots id me 0 (λ x. x)
      (confirms (step slots 0 0 0 none) me)
  confirms_it slots id me ready s r _ at _ = let i =
      r.historic.informed id me.0 at (ready-live me.0.stage ready) in (
        me.0,
        keeps,
        tt,
        subst (λ (z : List ℕ × List (Knowledge S E O)). Rule start_of stands_for limit
            record { words = z.0; homes = s.homes; views = z.1 })
            (λ k. (sym (set-get_or s.words 0 0) k, sym (set_again s.views id me.0 at) k)) r,
        record { is = refl; met = i.met; calls = i.seen },
      )

  -- nothing but the number of those that wait changes at the second word
  pub counts : (slots id : ℕ) (me : Me (Held M E O) (Knowledge S E O)) (f : ℕ → ℕ)
      → Allows (Rule start_of stands_for limit) slots id me 1 f (λ found m'. m' ≡ me)
  counts slots id me f s r _ at _ = (
    me.0,
    keeps,
    tt,
    subst (λ (vs : List (Knowledge S E O)). Rule start_of stands_for limit
        record { words = set s.words 1 (f (get_or s.words 1 0)); homes = s.homes; views = vs })
        (sym (set_again s.views id me.0 at)) record {
          phase = r.phase;
          history = r.history;
          waiting = f (get_or s.words 1 0);
          words = ap (λ (l : List ℕ). set l 1 (f (get_or s.words 1 0))) r.words;
          exclusion = r.exclusion;
          historic = r.historic;
        },
    refl,
  )

  -- ---- the machine is taken

  goes-taking : (v : Knowledge S E O) (h : List (Entry E O)) → v.stage ≡ Ready → Goes v (taking h v)
  goes-taking v h ready =
      record {
        live =
            λ _. tt;
        lived = λ _. ready-live v.stage ready;
        start = refl;
        name = refl;
        names = λ n. refl;
        splits = omega arith;
        away = λ n there. there;
      }

  module _ (slots id : ℕ) (me : Me (Held M E O) (Knowledge S E O)) (ready : me.0.stage ≡ Ready)
      (old new : ℕ) (even : old % 2 ≡ 0) (room : old / 2 < limit) (up : new ≡ old + 1) where
    abbrev After : State (Held M E O) (Knowledge S E O) → ℕ → Type 0
    After s found =
        (w : Knowledge S E O) × (a : Act (Held M E O)) × Valid s.homes me.1 a
        × Rule start_of stands_for limit
        (stepped s 0 (either (eqb found old) new found) id me.1 w a)
        × takes_at start_of stands_for (step slots 0 old new none) me found
        (w, carried_after me.1 a)

    -- the word was the one expected, so the machine is at home
    hits : (s : State (Held M E O) (Knowledge S E O)) (phase : Phase M E O) (h : List (Entry E O))
        (waiting : ℕ) → s.words ≡ word_of phase (length h) ∷ waiting ∷ []
        → Exclusion start_of limit (length h) phase s.homes s.views
        → Historic stands_for h phase s.views → At s.views id me.0 → (found : ℕ)
        → found ≡ get_or s.words 0 0 → found ≡ old → After s found
    hits s (taken j) h waiting words x t at found is hit =
        absurd (let e : found ≡ length h + length h + 1 =
        is ∙ ap (λ (l : List ℕ). get_or l 0 0) words in omega (arith, e, hit, even))
    hits s (free held) h waiting words x t at found is hit =
        let e : found ≡ length h + length h =
        is ∙ ap (λ (l : List ℕ). get_or l 0 0) words in let v = me.0 in let w =
        taking h v in let i = t.informed id v at (ready-live v.stage ready) in (
          w,
          takes 0 held,
          ap (λ (l : List (Option (Held M E O))). get_elem? l 0) x.home,
          subst (λ b. Rule start_of stands_for limit
              (stepped s 0 (either b new found) id me.1 w (takes 0 held)))
              (sym (eq-eqb found old hit)) record {
                phase = taken id;
                history = h;
                waiting = waiting;
                words = ap (λ (l : List ℕ). set l 0 new) words
                    ∙ ap (λ (k : ℕ). k ∷ waiting ∷ []) (omega (arith, e, hit, up));
                exclusion = record {
                  first = x.first;
                  home = ap (λ (l : List (Option (Held M E O))). set l 0 none) x.home;
                  turning =
                      λ j u there turn. ⊎_elim (λ (q : (j ≡ id) × (w ≡ u)). sym q.0)
                      (λ (q : (j ≢ id) × At s.views j u). absurd (x.turning j u q.1 turn))
                      (at_set s.views id j w u there);
                  taker = (w, at-changed s.views id v w at, refl);
                  within = omega (arith, e, hit, room);
                  from = tt;
                  family = family_goes x.first s.views id v w x.family at (goes-taking v h ready);
                };
                historic =
                    historic_goes stands_for h (free held) (taken id) s.views id v w t at tt
                    (informed_taking h v i) (λ n. refl) tt;
              },
          (
            (λ _. record {
              history = h;
              held = held;
              is = refl;
              long = omega (arith, e);
              later = i.known;
              calls = i.calls;
              stands = t.stands;
              start = x.family.starts id v at (ready-live v.stage ready) ∙ ap Some (sym x.from);
            }),
            (λ not. absurd (not hit)),
          ),
        )

    pub exchanges : Allows (Rule start_of stands_for limit) slots id me 0
        (λ x. either (eqb x old) new x)
        (takes_at start_of stands_for (step slots 0 old new none) me)
    exchanges s r _ at _ = let x : ℕ = get_or s.words 0 0 in dite (ℕ_discrete x old)
        (λ hit. hits s r.phase r.history r.waiting r.words r.exclusion r.historic at x refl hit)
        (λ miss. (
          me.0,
          keeps,
          tt,
          subst (λ b. Rule start_of stands_for limit
              (stepped s 0 (either b new x) id me.1 me.0 keeps)) (sym (ne_eqb x old miss))
              (subst (λ (z : List ℕ × List (Knowledge S E O)). Rule start_of stands_for limit
              record { words = z.0; homes = s.homes; views = z.1 })
              (λ k. (sym (set-get_or s.words 0 0) k, sym (set_again s.views id me.0 at) k)) r),
          ((λ hit. absurd (miss hit)), λ _. refl),
        ))

  -- ---- the machine is given back

  goes-asked : (v : Knowledge S E O) (e : E) (o : O) → v.stage ≡ InTurn
      → Goes v (having_asked e o v)
  goes-asked v e o turn =
      record {
        live =
            λ _. tt;
        lived = λ _. in-turn-live v.stage turn;
        start = refl;
        name = refl;
        names = λ n. has-names n v.name (v.calls ++ call e o ∷ []) v.calls v.joined;
        splits = omega arith;
        away = λ n there. there;
      }

  module _ (slots id : ℕ) (v : Knowledge S E O) (held : Held M E O) (note : Note E O)
      (turn : v.stage ≡ InTurn) (noted : held.note ≡ Some note)
      (stands : stands_for held.machine
      (v.history ++ entry v.name note.event.value note.outcome.value ∷ []))
      (starts : v.start ≡ Some (start_of held.machine)) (small : limit < 2 ^ 63 - 1) where
    abbrev w : Knowledge S E O
    w = having_asked note.event.value note.outcome.value v

    returned : (s : State (Held M E O) (Knowledge S E O)) (phase : Phase M E O)
        (h : List (Entry E O)) (waiting : ℕ) → s.words ≡ word_of phase (length h) ∷ waiting ∷ []
        → Exclusion start_of limit (length h) phase s.homes s.views
        → Historic stands_for h phase s.views → At s.views id v
        → Rule start_of stands_for limit
        (stepped s 0 ((get_or s.words 0 0 + 1) % 2 ^ 64) id ((0, held) ∷ []) w gives)
    returned s (free other) h waiting words x t at = absurd (x.turning id v at turn)
    returned s (taken j) h waiting words x t at =
        let mine : j ≡ id = x.turning id v at turn in let same =
        (t.informed id v at (in-turn-live v.stage turn)).turning turn in
        let now = h ++ entry v.name note.event.value note.outcome.value ∷ [] in let room =
        x.within in let e : get_or s.words 0 0 ≡ length h + length h + 1 =
        ap (λ (l : List ℕ). get_or l 0 0) words in
        let long : length now ≡ length h + 1 =
        length-append h (entry v.name note.event.value note.outcome.value ∷ []) in
        record {
          phase = free held;
          history = now;
          waiting = waiting;
          words = ap (λ (l : List ℕ). set l 0 ((get_or s.words 0 0 + 1) % 2 ^ 64)) words
              ∙ ap (λ (k : ℕ). k ∷ waiting ∷ []) (omega (arith, e, long, room, small));
          exclusion = record {
            first = x.first;
            home = ap (λ (l : List (Option (Held M E O))). set l 0 (some held)) x.home;
            turning =
                λ i u there t'. ⊎_elim
                (λ (q : (i ≡ id) × (w ≡ u)). absurd
                (ready-not-in-turn u.stage (sym (ap (λ (y : Knowledge S E O). y.stage) q.1)) t'))
                (λ (q : (i ≢ id) × At s.views i u). absurd
                (q.0 (sym (x.turning i u q.1 t') ∙ mine))) (at_set s.views id i w u there);
            taker = tt;
            within = omega (arith, long, room);
            from = ap (λ z. unwrap_or z (start_of held.machine))
                (sym starts ∙ x.family.starts id v at (in-turn-live v.stage turn));
            family =
                family_goes x.first s.views id v w x.family at
                (goes-asked v note.event.value note.outcome.value turn);
          };
          historic =
              historic_gives stands_for x.first h (taken j) (free held) s.views id v
              note.event.value note.outcome.value x.family t at turn
              (λ i u there ne t'. ne (sym (x.turning i u there t') ∙ mine))
              (subst (λ (l : List (Entry E O)). stands_for held.machine
              (l ++ entry v.name note.event.value note.outcome.value ∷ [])) same stands);
        }

    gives-it : Allows (Rule start_of stands_for limit) slots id (v, (0, held) ∷ []) 0
        (λ x. (x + 1) % 2 ^ 64) (gives_back (step slots 0 1 0 none) (v, (0, held) ∷ []))
    gives-it s r _ at _ = (
      w,
      gives,
      tt,
      returned s r.phase r.history r.waiting r.words r.exclusion r.historic at,
      λ held' note' is noted'. let same : held ≡ held' =
          ap (λ (l : List (ℕ × Held M E O)). (get_or l 0 (0, held)).1) is in
          let one : note ≡ note' =
          ap (λ z. unwrap_or z note)
          (sym noted ∙ (ap (λ (y : Held M E O). y.note) same ∙ noted')) in
          ap (λ (n : Note E O). (having_asked n.event.value n.outcome.value v, [])) one,
    )

    pub gives-back : (me : Me (Held M E O) (Knowledge S E O)) → me ≡ (v, (0, held) ∷ [])
        → Allows (Rule start_of stands_for limit) slots id me 0 (λ x. (x + 1) % 2 ^ 64)
        (gives_back (step slots 0 1 0 none) me)
    gives-back me is =
        subst (λ (m : Me (Held M E O) (Knowledge S E O)). Allows (Rule start_of stands_for limit)
        slots id m 0 (λ x. (x + 1) % 2 ^ 64) (gives_back (step slots 0 1 0 none) m)) (sym is)
        gives-it

  -- ---- passes

  pub splits : (id : ℕ) (v : Knowledge S E O) → v.stage ≡ Ready
      → Splits (Rule start_of stands_for limit) id v (having_split v) (split_off v)
  splits id v ready s r at = let not = ready-not-in-turn v.stage ready in let new =
      set s.views id (having_split v) in record {
        phase = r.phase;
        history = r.history;
        waiting = r.waiting;
        words = r.words;
        exclusion =
            exclusion_keeps (length r.history) r.phase s.homes s.views (new ++ split_off v ∷ [])
            r.exclusion
            (λ j u there t. ⊎_elim (λ a. set-back s.views id v (having_split v) at not not j u a t)
            (λ (q : (j ≡ length new) × (split_off v ≡ u)). absurd
            (ready-not-in-turn u.stage (sym (ap (λ (y : Knowledge S E O). y.stage) q.1)) t))
            (at_end new (split_off v) u j there))
            (λ j u there t. at_longer new (split_off v ∷ []) j u
            (set-forth s.views id v (having_split v) at not not j u there t))
            (family_splits r.exclusion.first s.views r.exclusion.family id v at
            (ready-live v.stage ready));
        historic =
            historic_splits stands_for r.exclusion.first r.history r.phase s.views id v
            r.exclusion.family r.historic at ready;
      }

  pub joins : (id other : ℕ) (v x : Knowledge S E O) → v.stage ≡ Ready → x.stage ≡ Ready → IsWhole x
      → Joins (Rule start_of stands_for limit) id v other x (having_joined v x) gone
  joins id other v x ready readies whole s r at apart there =
      let not = ready-not-in-turn v.stage ready in let nor =
      ready-not-in-turn x.stage readies in let new = set s.views id (having_joined v x) in
      let before : At s.views other x =
      sym (set_else s.views id other (having_joined v x) apart) ∙ there in
      let retires = retired-not-in-turn Retired refl in record {
        phase = r.phase;
        history = r.history;
        waiting = r.waiting;
        words = r.words;
        exclusion =
            exclusion_keeps (length r.history) r.phase s.homes s.views (set new other gone)
            r.exclusion
            (λ j u here t. set-back s.views id v (having_joined v x) at not not j u
            (set-back new other x gone there nor retires j u here t) t)
            (λ j u here t. set-forth new other x gone there nor retires j u
            (set-forth s.views id v (having_joined v x) at not not j u here t) t)
            (family_joins r.exclusion.first s.views r.exclusion.family id other v x at before
            (ready-live v.stage ready) (ready-live x.stage readies) apart whole);
        historic =
            historic_joins stands_for r.exclusion.first r.history r.phase s.views id other v x
            r.exclusion.family r.historic at before ready readies apart whole;
      }

  -- a pass that is good for no more calls, beside the one that it tells of
  pub retires : (id : ℕ) (v : Knowledge S E O)
      → Splits (Rule start_of stands_for limit) id v v (retired v)
  retires id v s r at =
      subst (λ (vs : List (Knowledge S E O)). Rule start_of stands_for limit
      record { words = s.words; homes = s.homes; views = vs ++ retired v ∷ [] })
      (sym (set_again s.views id v at)) record {
        phase = r.phase;
        history = r.history;
        waiting = r.waiting;
        words = r.words;
        exclusion =
            exclusion_keeps (length r.history) r.phase s.homes s.views (s.views ++ retired v ∷ [])
            r.exclusion
            (λ j u there t. back j u there (in-turn-live u.stage t))
            (λ j u there t. forth j u there)
            (record {
              starts = λ i u a l. f.starts i u (back i u a l) l;
              apart = λ i j u x a b l m ne. f.apart i j u x (back i u a l) (back j x b m) l m ne;
              unused =
                  λ i j u x a b l m k enough more. f.unused i j u x (back i u a l) (back j x b m) l
                  m k enough more;
              parents =
                  λ i u a l. ⊎_elim (λ none. inl none)
                  (λ (p : HasParent s.views u.name). inr
                  (record {
                    id = p.id;
                    parent = p.parent;
                    at = forth p.id p.parent p.at;
                    live =
                        p.live;
                    number = p.number;
                    is = p.is;
                    away = p.away;
                  }))
                  (f.parents i u (back i u a l) l);
            });
        historic = record {
          stands = r.historic.stands;
          informed = λ i u a l. r.historic.informed i u (back i u a l) l;
          kept = λ n. ⊎_elim (λ none. inl none)
              (λ (k : IsKept s.views n). inr
              (record {
                id = k.id;
                keeper = k.keeper;
                at = forth k.id k.keeper k.at;
                live =
                    k.live;
                has = k.has;
              })) (r.historic.kept n);
        };
      }
    where
      f : Family r.exclusion.first s.views
      f = r.exclusion.family

      back : (j : ℕ) (u : Knowledge S E O) → At (s.views ++ retired v ∷ []) j u → IsLive u.stage
          → At s.views j u
      back j u there l =
          ⊎_elim (λ a. a)
          (λ (q : (j ≡ length s.views) × (retired v ≡ u)). absurd
          (subst (λ (y : Knowledge S E O). IsLive y.stage) (sym q.1) l))
          (at_end s.views (retired v) u j there)

      forth : (j : ℕ) (u : Knowledge S E O) → At s.views j u → At (s.views ++ retired v ∷ []) j u
      forth j u there = at_longer s.views (retired v ∷ []) j u there

  -- ---- the end

  pub closes : (id : ℕ) (v : Knowledge S E O) (ws : List ℕ) (xs : List (Held M E O))
      → Final (Seen (Rule start_of stands_for limit) id v) ws xs → v.stage ≡ Ready → v.name ≡ []
      → IsWhole v
      → (y : Held M E O) → get_elem? xs 0 ≡ some y
      → stands_for y.machine v.history × (v.start ≡ Some (start_of y.machine))
      × ((n : List ℕ) → calls_of n v.history ≡ accounted n (accounts v))
  closes id v ws xs (s, seen, _, _, homes) ready root whole y last = by r.phase refl
    where
      r : Rule start_of stands_for limit s
      r = seen.0

      live : IsLive v.stage
      live = ready-live v.stage ready

      only : (j : ℕ) (u : Knowledge S E O) → At s.views j u → IsLive u.stage → (j ≡ id) × (v ≡ u)
      only = alone r.exclusion.first s.views r.exclusion.family id v seen.1 live root whole

      by : (p : Phase M E O) → r.phase ≡ p
          → stands_for y.machine v.history × (v.start ≡ Some (start_of y.machine))
          × ((n : List ℕ) → calls_of n v.history ≡ accounted n (accounts v))
      by (taken j) e = let t = subst (HasTaker s.views) e r.exclusion.taker in
          absurd (ready-not-in-turn v.stage ready
          (ap (λ (x : Knowledge S E O). x.stage) (only j t.0 t.1 (in-turn-live t.0.stage t.2)).1
          ∙ t.2))
      by (free held) e =
          let home = r.exclusion.home ∙ ap home_of e in
          let is : held ≡ y =
          some-injective held y
          (sym (homes 0 held (ap (λ (l : List (Option (Held M E O))). get_elem? l 0) home))
          ∙ last) in
          let stands = subst (λ p. Stands stands_for p r.history) e r.historic.stands in
          let from = subst (λ p. StartsFrom start_of r.exclusion.first p) e r.exclusion.from in
          let same =
          whole-history stands_for r.history r.phase s.views id v r.historic seen.1 live only in (
            subst (λ (z : Held M E O × List (Entry E O)). stands_for z.0.machine z.1)
                (λ k. (is k, sym same k)) stands,
            r.exclusion.family.starts id v seen.1 live
                ∙ (ap Some (sym from) ∙ ap (λ (z : Held M E O). Some (start_of z.machine)) is),
            accounted-all stands_for r.history r.phase s.views id v r.historic seen.1 live only,
          )

  -- what the pass tells that stays when the cell is closed
  pub closes-told : (id : ℕ) (v w t : Knowledge S E O) (ws : List ℕ) (xs : List (Held M E O))
      → Final (Seen (Rule start_of stands_for limit) id w) ws xs → w ≡ v → t ≡ retired v
      → v.stage ≡ Ready → v.name ≡ [] → IsWhole v
      → (y : Held M E O) → get_elem? xs 0 ≡ some y → (m : M) → m ≡ y.machine
      → stands_for m t.history × (t.start ≡ Some (start_of m)) × IsAccounted t
  closes-told id v w t ws xs last same told ready root whole y there m is = let all =
      closes id v ws xs
      (subst (λ (z : Knowledge S E O). Final (Seen (Rule start_of stands_for limit) id z) ws xs)
      same last) ready root whole y there in (
        subst (λ (z : M × Knowledge S E O). stands_for z.0 z.1.history)
            (λ k. (sym is k, sym told k))
            all.0,
        ap (λ (z : Knowledge S E O). z.start) told ∙ (all.1 ∙ ap (λ z. Some (start_of z)) (sym is)),
        subst (λ (z : Knowledge S E O). IsAccounted z) (sym told) all.2,
      )

  -- what a join tells, once it was confirmed
  pub joined-told : (v x : Knowledge S E O) (l : List (ℕ × Held M E O))
      (m m' : Me (Held M E O) (Knowledge S E O)) → m ≡ (having_joined v x, l) → l ≡ []
      → Confirms m m'
      → (m' ≡ (having_joined v x, [])) × Begins v.history m'.0.history
      × Begins x.history m'.0.history × HasCalls m'.0
  joined-told v x l m m' was empty k = let is : m ≡ (having_joined v x, []) =
      was ∙ ap (λ (c : List (ℕ × Held M E O)). (having_joined v x, c)) empty in let e = k.is ∙ is in
      let met =
      both_begin v.history x.history
      (subst (λ (z : Me (Held M E O) (Knowledge S E O)). Begins z.0.met z.0.history) is k.met) in (
        e,
        subst (λ (z : Me (Held M E O) (Knowledge S E O)). Begins v.history z.0.history) (sym e)
            met.0,
        subst (λ (z : Me (Held M E O) (Knowledge S E O)). Begins x.history z.0.history) (sym e)
            met.1,
        subst (λ (z : Me (Held M E O) (Knowledge S E O)). HasCalls z.0) (sym k.is) k.calls,
      )
