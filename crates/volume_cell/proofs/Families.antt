-- Each step keeps what the rule says of the passes: their start, their names, and who was split off
-- whom.
use Rattle.std.proofs.Common.{◌≡◌, ◌≢◌, ℕ, zero, suc, ◌+◌, ◌<◌, ◌≤◌, ◌⊎◌, inl, inr, ⊎_elim, true}
use Rattle.std.proofs.Common.{false, List, [], ◌∷◌, ◌++◌, length, set, refl, sym, ap, ◌∙◌, subst}
use Rattle.std.proofs.Common.{append_assoc, append-nil, length-append, arith, le_refl}
use mathlib.Core.Option.{some-injective, some-ne-none}
use mathlib.Core.Logic.{dite}
use native.Mathlib.Decide.{ℕ_discrete}
use Rattle.atomic_table.proofs.Lists.{at_set, set_here, set_else, at_longer}
use Rattle.volume_cell.specs.declared.knowledge.Knowledge.{Knowledge}
use Rattle.volume_cell.specs.Histories.{has_account}
use Rattle.volume_cell.specs.Knowing.{IsLive, accounts, IsWhole, is_among, beginning, next_name}
use Rattle.volume_cell.specs.Knowing.{having_split, split_off, having_joined, gone}
use Rattle.volume_cell.specs.Exclusion.{At, HasParent, Family}
use Rattle.volume_cell.proofs.Lists.{at_end, ends_alike}
use Rattle.volume_cell.proofs.Names.{among-without, among-first, among-later, among-none}
use Rattle.volume_cell.proofs.Names.{has-not-own, has-alone, has-neither}

module _ {S E O : Type 0} where
  -- a view is there, below the length
  below : (vs : List (Knowledge S E O)) (i : ℕ) (v : Knowledge S E O) → At vs i v → i < length vs
  below [] i v at = absurd (some-ne-none v (sym at))
  below (x ∷ vs) zero v at = omega arith
  below (x ∷ vs) (suc i) v at = let b = below vs i v at in omega (arith, b)

  pub at-one : (vs : List (Knowledge S E O)) (i : ℕ) (u v : Knowledge S E O) → At vs i u → At vs i v
      → u ≡ v
  at-one vs i u v a b = some-injective u v (sym a ∙ b)

  pub at-changed : (vs : List (Knowledge S E O)) (i : ℕ) (v w : Knowledge S E O) → At vs i v
      → At (set vs i w) i w
  at-changed vs i v w at = set_here vs i w (below vs i v at)

  -- the second view goes on from the first: of the same name, start and accounts, it may have split
  -- off more
  pub record Goes (v w : Knowledge S E O) : Type 0 where
    pub live : IsLive v.stage → IsLive w.stage
    pub lived : IsLive w.stage → IsLive v.stage
    pub start : w.start ≡ v.start
    pub name : w.name ≡ v.name
    pub names : (n : List ℕ) → has_account n (accounts w) ≡ has_account n (accounts v)
    pub splits : v.splits ≤ w.splits
    pub away : (n : List ℕ) → is_among n v.away ≡ true → is_among n w.away ≡ true

  pub goes-on : (v : Knowledge S E O) → Goes v v
  goes-on v =
      record {
        live =
            λ l. l;
        lived = λ l. l;
        start = refl;
        name = refl;
        names = λ n. refl;
        splits = le_refl v.splits;
        away = λ n a. a;
      }

  -- the view that was in this seat before
  pub record Was (vs : List (Knowledge S E O)) (j : ℕ) (u : Knowledge S E O) : Type 0 where
    pub before : Knowledge S E O
    pub at : At vs j before
    pub goes : Goes before u

  pub was : (vs : List (Knowledge S E O)) (id : ℕ) (v w : Knowledge S E O) → At vs id v → Goes v w
      → (j : ℕ) (u : Knowledge S E O) → At (set vs id w) j u → Was vs j u
  was vs id v w at go j u here = ⊎_elim
      (λ (t : (j ≡ id) × (w ≡ u)).
      record {
        before = v;
        at = subst (λ (k : ℕ). At vs k v) (sym t.0) at;
        goes =
            subst (Goes v) t.1 go;
      })
      (λ (t : (j ≢ id) × At vs j u). record { before = u; at = t.1; goes = goes-on u })
      (at_set vs id j w u here)

  -- the view that is in this seat after
  pub record Is (vs : List (Knowledge S E O)) (j : ℕ) (u : Knowledge S E O) : Type 0 where
    pub after : Knowledge S E O
    pub at : At vs j after
    pub goes : Goes u after

  pub is-now : (vs : List (Knowledge S E O)) (id : ℕ) (v w : Knowledge S E O) → At vs id v
      → Goes v w → (j : ℕ) (u : Knowledge S E O) → At vs j u → Is (set vs id w) j u
  is-now vs id v w at go j u there = dite (ℕ_discrete j id)
      (λ e. record {
        after = w;
        at =
            subst (λ (k : ℕ). At (set vs id w) k w) (sym e) (at-changed vs id v w at);
        goes = subst (λ (x : Knowledge S E O). Goes x w)
            (at-one vs id v u at (subst (λ (k : ℕ). At vs k u) e there)) go;
      })
      (λ ne. record { after = u; at = set_else vs id j w ne ∙ there; goes = goes-on u })

  pub family_goes : (first : S) (vs : List (Knowledge S E O)) (id : ℕ) (v w : Knowledge S E O)
      → Family first vs → At vs id v → Goes v w → Family first (set vs id w)
  family_goes first vs id v w f at go = record {
    starts =
        λ i u here l. let b =
        was vs id v w at go i u here in b.goes.start ∙ f.starts i b.before b.at (b.goes.lived l);
    apart = λ i j u x here there l m ne. let b = was vs id v w at go i u here in let c =
        was vs id v w at go j x there in
        ap (λ n. has_account n (accounts x)) b.goes.name
        ∙ (c.goes.names b.before.name
        ∙ f.apart i j b.before c.before b.at c.at (b.goes.lived l) (c.goes.lived m) ne);
    unused =
        λ i j u x here there l m k more rest. let b = was vs id v w at go i u here in let c =
        was vs id v w at go j x there in let s = b.goes.splits in
        ap (λ n. has_account (n ++ k ∷ rest) (accounts x)) b.goes.name
        ∙ (c.goes.names (b.before.name ++ k ∷ rest)
        ∙ f.unused i j b.before c.before b.at c.at (b.goes.lived l) (c.goes.lived m) k
        (omega (arith, s, more)) rest);
    parents =
        λ i u here l. let b =
        was vs id v w at go i u here in
        subst (λ (n : List ℕ). (n ≡ []) ⊎ HasParent (set vs id w) n) (sym b.goes.name)
        (⊎_elim (λ none. inl none)
        (λ (p : HasParent vs b.before.name). let c = is-now vs id v w at go p.id p.parent p.at in
        inr (record {
          id = p.id;
          parent = c.after;
          at = c.at;
          live = c.goes.live p.live;
          number = p.number;
          is =
              p.is ∙ ap (λ (n : List ℕ). n ++ p.number ∷ []) (sym c.goes.name);
          away = c.goes.away b.before.name p.away;
        }))
        (f.parents i b.before b.at (b.goes.lived l)));
  }

  -- the first pass alone
  pub family_begins : (s : S) → Family {E = E} {O = O} s (beginning s ∷ [])
  family_begins s = record {
    starts = λ i u here l. sym (ap (λ (x : Knowledge S E O). x.start) (alone i u here).1);
    apart = λ i j u x here there l m ne. absurd (ne ((alone j x there).0 ∙ sym (alone i u here).0));
    unused =
        λ i j u x here there l m k more rest. subst
        (λ (y : Knowledge S E O). has_account (u.name ++ k ∷ rest) (accounts y) ≡ false)
        (alone j x there).1
        (has-alone (u.name ++ k ∷ rest) [] []
        (λ e. let z = ap length e in omega (arith, z, length-append u.name (k ∷ rest))));
    parents = λ i u here l. inl (sym (ap (λ (x : Knowledge S E O). x.name) (alone i u here).1));
  }
    where
      alone : (i : ℕ) (u : Knowledge S E O) → At (beginning s ∷ []) i u
          → (i ≡ 0) × (beginning s ≡ u)
      alone zero u at = (refl, some-injective (beginning s) u at)
      alone (suc i) u at = absurd (some-ne-none u (sym at))

  named : (u : Knowledge S E O) (n : List ℕ) → has_account n (accounts u) ≡ false → n ≢ u.name
  named u n none = has-not-own n u.name u.calls u.joined none

  -- the pass that splits off another has one name fewer to give
  module _ (first : S) (vs : List (Knowledge S E O)) (f : Family first vs) (id : ℕ)
      (v : Knowledge S E O) (at : At vs id v) (live : IsLive v.stage) where
    splits_on : Goes v (having_split v)
    splits_on =
        record {
          live =
              λ l. l;
          lived = λ l. l;
          start = refl;
          name = refl;
          names = λ n. refl;
          splits = omega arith;
          away = λ n there. among-later n (next_name v) v.away there;
        }

    -- no pass has an account of the new name, or of one that begins with it
    pub next-unused : (j : ℕ) (u : Knowledge S E O) → At vs j u → IsLive u.stage → (more : List ℕ)
        → has_account (next_name v ++ more) (accounts u) ≡ false
    next-unused j u there l more =
        ap (λ n. has_account n (accounts u)) (append_assoc v.name (v.splits ∷ []) more)
        ∙ f.unused id j v u at there live l v.splits (le_refl v.splits) more

    abbrev grown : List (Knowledge S E O)
    grown = set vs id (having_split v)

    old : Family first grown
    old = family_goes first vs id v (having_split v) f at splits_on

    still-unused : (j : ℕ) (u : Knowledge S E O) → At grown j u → IsLive u.stage → (more : List ℕ)
        → has_account (next_name v ++ more) (accounts u) ≡ false
    still-unused j u there l more = let b =
        was vs id v (having_split v) at splits_on j u there in
        b.goes.names (next_name v ++ more) ∙ next-unused j b.before b.at (b.goes.lived l) more

    next-apart : (j : ℕ) (u : Knowledge S E O) → At grown j u → IsLive u.stage
        → next_name v ≢ u.name
    next-apart j u there l =
        named u (next_name v)
        (ap (λ n. has_account n (accounts u)) (sym (append-nil (next_name v)))
        ∙ still-unused j u there l [])

    here : At grown id (having_split v)
    here = at-changed vs id v (having_split v) at

    -- a name that a pass has still to give is not the new one
    given-once : (i : ℕ) (u : Knowledge S E O) → At grown i u → IsLive u.stage → (k : ℕ)
        → u.splits ≤ k → (more : List ℕ) → (u.name ++ k ∷ more) ≢ next_name v
    given-once i u there l k enough more e = ⊎_elim
        (λ (t : (u.name ≡ v.name) × (k ≡ v.splits)). dite (ℕ_discrete i id)
        (λ same. let is : having_split v ≡ u =
        at-one grown id (having_split v) u here (subst (λ (z : ℕ). At grown z u) same there) in
        let n : v.splits + 1 ≡ u.splits = ap (λ (x : Knowledge S E O). x.splits) is in let m =
        t.1 in omega (arith, n, m, enough))
        (λ other. named u v.name (old.apart id i (having_split v) u here there live l other)
        (sym t.0)))
        (λ (t : (rest : List ℕ) × (v.name ≡ u.name ++ k ∷ rest)). named (having_split v)
        (u.name ++ k ∷ t.0) (old.unused i id u (having_split v) there here l live k enough t.0)
        (sym t.1))
        (ends_alike u.name v.name k v.splits more e)

    pub family_splits : Family first (grown ++ split_off v ∷ [])
    family_splits = record {
      starts =
          λ i u there l. ⊎_elim (λ a. old.starts i u a l)
          (λ (t : (i ≡ length grown) × (split_off v ≡ u)). sym
          (ap (λ (x : Knowledge S E O). x.start) t.1) ∙ f.starts id v at live)
          (at_end grown (split_off v) u i there);
      apart = λ i j u x there that l m ne. ⊎_elim
          (λ a. ⊎_elim (λ b. old.apart i j u x a b l m ne)
          (λ (t : (j ≡ length grown) × (split_off v ≡ x)). subst
          (λ (y : Knowledge S E O). has_account u.name (accounts y) ≡ false) t.1
          (has-alone u.name (next_name v) [] (λ e. next-apart i u a l (sym e))))
          (at_end grown (split_off v) x j that))
          (λ (t : (i ≡ length grown) × (split_off v ≡ u)). subst
          (λ (y : Knowledge S E O). has_account y.name (accounts x) ≡ false) t.1
          (⊎_elim (λ b. ap (λ n. has_account n (accounts x)) (sym (append-nil (next_name v)))
          ∙ still-unused j x b m [])
          (λ (s : (j ≡ length grown) × (split_off v ≡ x)). absurd (ne (s.0 ∙ sym t.0)))
          (at_end grown (split_off v) x j that)))
          (at_end grown (split_off v) u i there);
      unused = λ i j u x there that l m k enough more. ⊎_elim
          (λ a. ⊎_elim (λ b. old.unused i j u x a b l m k enough more)
          (λ (t : (j ≡ length grown) × (split_off v ≡ x)). subst
          (λ (y : Knowledge S E O). has_account (u.name ++ k ∷ more) (accounts y) ≡ false) t.1
          (has-alone (u.name ++ k ∷ more) (next_name v) [] (given-once i u a l k enough more)))
          (at_end grown (split_off v) x j that))
          (λ (t : (i ≡ length grown) × (split_off v ≡ u)). subst
          (λ (y : Knowledge S E O). has_account (y.name ++ k ∷ more) (accounts x) ≡ false) t.1
          (⊎_elim (λ b. still-unused j x b m (k ∷ more))
          (λ (s : (j ≡ length grown) × (split_off v ≡ x)). subst
          (λ (y : Knowledge S E O). has_account (next_name v ++ k ∷ more) (accounts y) ≡ false) s.1
          (has-alone (next_name v ++ k ∷ more) (next_name v) []
          (λ e. let z = ap length e in omega (arith, z, length-append (next_name v) (k ∷ more)))))
          (at_end grown (split_off v) x j that)))
          (at_end grown (split_off v) u i there);
      parents = λ i u there l. ⊎_elim
          (λ a. ⊎_elim (λ none. inl none)
          (λ (p : HasParent grown u.name). inr
          (record {
            id = p.id;
            parent = p.parent;
            at =
                at_longer grown (split_off v ∷ []) p.id p.parent p.at;
            live = p.live;
            number = p.number;
            is = p.is;
            away = p.away;
          })) (old.parents i u a l))
          (λ (t : (i ≡ length grown) × (split_off v ≡ u)). subst
          (λ (y : Knowledge S E O). (y.name ≡ []) ⊎ HasParent (grown ++ split_off v ∷ []) y.name)
          t.1
          (inr (record {
            id = id;
            parent = having_split v;
            at =
                at_longer grown (split_off v ∷ []) id (having_split v) here;
            live = live;
            number = v.splits;
            is = refl;
            away = among-first (next_name v) v.away;
          })))
          (at_end grown (split_off v) u i there);
    }

  -- a pass without live children is joined into the one that it was split off
  module _ (first : S) (vs : List (Knowledge S E O)) (f : Family first vs) (id other : ℕ)
      (v x : Knowledge S E O) (at : At vs id v) (there : At vs other x) (live : IsLive v.stage)
      (lives : IsLive x.stage) (apart : other ≢ id) (whole : IsWhole x) where
    abbrev into : List (Knowledge S E O)
    into = set (set vs id (having_joined v x)) other gone

    -- what is live after was live before
    pub record Stood (j : ℕ) (u : Knowledge S E O) : Type 0 where
      pub before : Knowledge S E O
      pub was_at : At vs j before
      pub was_live : IsLive before.stage
      pub kept : j ≢ other
      pub start : u.start ≡ before.start
      pub name : u.name ≡ before.name
      pub splits : before.splits ≡ u.splits
      pub names : (n : List ℕ) → has_account n (accounts before) ≡ false
          → has_account n (accounts x) ≡ false → has_account n (accounts u) ≡ false

    pub stood : (j : ℕ) (u : Knowledge S E O) → At into j u → IsLive u.stage → Stood j u
    stood j u here l = ⊎_elim
        (λ (t : (j ≡ other) × (gone ≡ u)). absurd
        (subst (λ (y : Knowledge S E O). IsLive y.stage) (sym t.1) l))
        (λ (t : (j ≢ other) × At (set vs id (having_joined v x)) j u). ⊎_elim
        (λ (s : (j ≡ id) × (having_joined v x ≡ u)). subst (Stood j) s.1 (record {
          before = v;
          was_at = subst (λ (k : ℕ). At vs k v) (sym s.0) at;
          was_live = live;
          kept = t.0;
          start = refl;
          name = refl;
          splits = refl;
          names = λ n none neither. has-neither n (accounts v) (accounts x) none neither;
        }))
        (λ (s : (j ≢ id) × At vs j u).
        record {
          before = u;
          was_at = s.1;
          was_live = l;
          kept = t.0;
          start = refl;
          name =
              refl;
          splits = refl;
          names = λ n none neither. none;
        })
        (at_set vs id j (having_joined v x) u t.1))
        (at_set (set vs id (having_joined v x)) other j gone u here)

    pub joined-here : At into id (having_joined v x)
    joined-here =
        set_else (set vs id (having_joined v x)) other id gone (λ e. apart (sym e))
        ∙ at-changed vs id v (having_joined v x) at

    pub else-here : (j : ℕ) (u : Knowledge S E O) → j ≢ id → j ≢ other → At vs j u → At into j u
    else-here j u ne nor a =
        set_else (set vs id (having_joined v x)) other j gone nor
        ∙ (set_else vs id j (having_joined v x) ne ∙ a)

    pub family_joins : Family first into
    family_joins = record {
      starts =
          λ i u here l. let b =
          stood i u here l in b.start ∙ f.starts i b.before b.was_at b.was_live;
      apart = λ i j u y here that l m ne. let b = stood i u here l in let c =
          stood j y that m in ap (λ n. has_account n (accounts y)) b.name
          ∙ c.names b.before.name
          (f.apart i j b.before c.before b.was_at c.was_at b.was_live c.was_live ne)
          (f.apart i other b.before x b.was_at there b.was_live lives (λ e. b.kept (sym e)));
      unused =
          λ i j u y here that l m k enough more. let b = stood i u here l in let c =
          stood j y that m in let s =
          b.splits in ap (λ n. has_account (n ++ k ∷ more) (accounts y)) b.name
          ∙ c.names (b.before.name ++ k ∷ more)
          (f.unused i j b.before c.before b.was_at c.was_at b.was_live c.was_live k
          (omega (arith, s, enough)) more)
          (f.unused i other b.before x b.was_at there b.was_live lives k (omega (arith, s, enough))
          more);
      parents =
          λ i u here l. let b =
          stood i u here l in subst (λ (n : List ℕ). (n ≡ []) ⊎ HasParent into n) (sym b.name)
          (⊎_elim (λ none. inl none)
          (λ (p : HasParent vs b.before.name). inr (dite (ℕ_discrete p.id other)
          (λ (e : p.id ≡ other). let is : p.parent ≡ x =
          at-one vs other p.parent x (subst (λ (k : ℕ). At vs k p.parent) e p.at) there in
          absurd (among-none b.before.name x.away whole
          (ap (λ (y : Knowledge S E O). is_among b.before.name y.away) (sym is) ∙ p.away)))
          (λ nor. dite (ℕ_discrete p.id id)
          (λ (e : p.id ≡ id). let is : p.parent ≡ v =
          at-one vs id p.parent v (subst (λ (k : ℕ). At vs k p.parent) e p.at) at in record {
            id = id;
            parent = having_joined v x;
            at = joined-here;
            live = live;
            number = p.number;
            is = p.is ∙ ap (λ (y : Knowledge S E O). y.name ++ p.number ∷ []) is;
            away = among-without b.before.name x.name v.away
                (named x b.before.name
                (f.apart i other b.before x b.was_at there b.was_live lives (λ e. b.kept (sym e))))
                (ap (λ (y : Knowledge S E O). is_among b.before.name y.away) (sym is) ∙ p.away);
          })
          (λ ne. record {
            id = p.id;
            parent = p.parent;
            at =
                else-here p.id p.parent ne nor p.at;
            live = p.live;
            number = p.number;
            is = p.is;
            away = p.away;
          }))))
          (f.parents i b.before b.was_at b.was_live));
    }

  -- where the first pass is whole, there is no other
  module _ (first : S) (vs : List (Knowledge S E O)) (f : Family first vs) (id : ℕ)
      (v : Knowledge S E O) (at : At vs id v) (live : IsLive v.stage) (root : v.name ≡ [])
      (whole : IsWhole v) where
    nil-of : (n : List ℕ) → length n ≡ 0 → n ≡ []
    nil-of [] e = refl
    nil-of (k ∷ n) e = absurd (omega arith)

    -- the live pass without a name is the first
    is-first : (j : ℕ) (u : Knowledge S E O) → At vs j u → IsLive u.stage → u.name ≡ [] → j ≡ id
    is-first j u there l e =
        dite (ℕ_discrete j id) (λ same. same)
        (λ ne. absurd (named u v.name (f.apart id j v u at there live l ne) (root ∙ sym e)))

    childless : (k j : ℕ) (u : Knowledge S E O) → At vs j u → IsLive u.stage → length u.name ≡ suc k
        → ⊥
    childless zero j u there l long =
        ⊎_elim (λ none. let z = ap length none in omega (arith, z, long))
        (λ (p : HasParent vs u.name). let n = ap length p.is in
        let same =
        is-first p.id p.parent p.at p.live
        (nil-of p.parent.name
        (omega (arith, n, long, length-append p.parent.name (p.number ∷ [])))) in
        let is : p.parent ≡ v =
        at-one vs id p.parent v (subst (λ (z : ℕ). At vs z p.parent) same p.at) at in
        among-none u.name v.away whole
        (ap (λ (y : Knowledge S E O). is_among u.name y.away) (sym is) ∙ p.away))
        (f.parents j u there l)
    childless (suc k) j u there l long =
        ⊎_elim (λ none. let z = ap length none in omega (arith, z, long))
        (λ (p : HasParent vs u.name). let n =
        ap length p.is in
        childless k p.id p.parent p.at p.live
        (omega (arith, n, long, length-append p.parent.name (p.number ∷ []))))
        (f.parents j u there l)

    pub alone : (j : ℕ) (u : Knowledge S E O) → At vs j u → IsLive u.stage → (j ≡ id) × (v ≡ u)
    alone j u there l = by u.name refl
      where
        by : (n : List ℕ) → u.name ≡ n → (j ≡ id) × (v ≡ u)
        by [] e = let same =
            is-first j u there l e in
            (same, at-one vs id v u at (subst (λ (z : ℕ). At vs z u) same there))
        by (k ∷ n) e =
            absurd (childless (length n) j u there l (let z = ap length e in omega (arith, z)))
