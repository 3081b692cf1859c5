-- Members that were put are found, and taken out again.
use Rattle.std.proofs.Common.{◌≡◌, ℕ, List, [], ◌∷◌, Bool, true, false, cond, ◌&&◌, ◌||◌, Option}
use Rattle.std.proofs.Common.{Some, None, Ordering, Less, Equal, Greater, bytes_eq, is_eq, nat_cmp}
use Rattle.std.proofs.Common.{refl, sym, ap, subst, ◌∙◌, true≢false}
use Rattle.std.proofs.lemmas.Slice.Eq.{bytes_eq-Decides}
use Rattle.std.proofs.lemmas.Map.Text.{is_eq-slice_cmp}
use Rattle.std.proofs.lemmas.Map.Lookups.{exact_bytes}
use Rattle.std.specs.Cmp.Lexicographic.{slice_cmp}
use Rattle.std.specs.Ordering.{match_ordering}
use Rattle.serde_json.specs.Data.{Data, Members, no_members, member, put}
use Rattle.serde_json.specs.Find.{get_member}
use Rattle.serde_json.proofs.Views.{get_member-put, get_member-put_other}
use Rattle.json_members.specs.Members.{without, without_all, put_all, put_optional, Lacks}
use Rattle.json_members.proofs.DecimalLemmas.{both}

-- ---- looking up
abbrev pub or_else : Option Data → Option Data → Option Data
or_else None d = d
or_else (Some e) d = Some e

-- the last of the fields of a name
abbrev pub last_of : List ℕ → List (List ℕ × Data) → Option Data
last_of k [] = None
last_of k (f ∷ fs) = or_else (last_of k fs) (cond (bytes_eq k f.0) (Some f.1) None)

one_put : (b : Bool) (k : List ℕ) (f : List ℕ × Data) (ms : Members) → bytes_eq k f.0 ≡ b
    → get_member k (put f.0 f.1 ms) ≡ or_else (cond b (Some f.1) None) (get_member k ms)
one_put true k f ms e = let same : k ≡ f.0 =
    (bytes_eq-Decides k f.0).0 e in rw same (get_member-put f.0 f.1 ms)
one_put false k f ms e =
    get_member-put_other k f.0 f.1 ms
    (λ same. true≢false (sym ((bytes_eq-Decides k f.0).1 same) ∙ e))

or_else_assoc : (a b c : Option Data) → or_else a (or_else b c) ≡ or_else (or_else a b) c
or_else_assoc None b c = refl
or_else_assoc (Some a) b c = refl

-- what stands at a name after these fields were put
pub get_member-put_all : (k : List ℕ) (fs : List (List ℕ × Data)) (ms : Members)
    → get_member k (put_all fs ms) ≡ or_else (last_of k fs) (get_member k ms)
get_member-put_all k [] ms = refl
get_member-put_all k (f ∷ fs) ms =
    get_member-put_all k fs (put f.0 f.1 ms) ∙ ap (or_else (last_of k fs)) (one_put _ k f ms refl)
    ∙ or_else_assoc (last_of k fs) (cond (bytes_eq k f.0) (Some f.1) None) (get_member k ms)

-- ---- taking out
-- whether the name is one of these
abbrev pub is_among : List ℕ → List (List ℕ) → Bool
is_among l [] = false
is_among l (k ∷ ks) = bytes_eq k l || is_among l ks

-- the members of other names
abbrev pub others : List (List ℕ) → Members → Members
others ks no_members = no_members
others ks (member l d ms) = cond (is_among l ks) (others ks ms) (member l d (others ks ms))

others-without_at : (b : Bool) (k l : List ℕ) (d : Data) (ks : List (List ℕ)) (ms : Members)
    → others ks (without k ms) ≡ others (k ∷ ks) ms
    → others ks (cond b (without k ms) (member l d (without k ms)))
    ≡ cond (b || is_among l ks) (others (k ∷ ks) ms) (member l d (others (k ∷ ks) ms))
others-without_at true k l d ks ms later = later
others-without_at false k l d ks ms later = rw later refl

others-without : (k : List ℕ) (ks : List (List ℕ)) (ms : Members)
    → others ks (without k ms) ≡ others (k ∷ ks) ms
others-without k ks no_members = refl
others-without k ks (member l d ms) =
    others-without_at (bytes_eq k l) k l d ks ms (others-without k ks ms)

others-nothing : (ms : Members) → others [] ms ≡ ms
others-nothing no_members = refl
others-nothing (member l d ms) = ap (member l d) (others-nothing ms)

pub without_all-others : (ks : List (List ℕ)) (ms : Members) → without_all ks ms ≡ others ks ms
without_all-others [] ms = sym (others-nothing ms)
without_all-others (k ∷ ks) ms = without_all-others ks (without k ms) ∙ others-without k ks ms

-- a member of such a name makes no difference
others-put_at : (o : Ordering) (ks : List (List ℕ)) (k l : List ℕ) (d e : Data) (ms : Members)
    → slice_cmp nat_cmp k l ≡ o → is_among k ks ≡ true → others ks (put k d ms) ≡ others ks ms
    → others ks
    (match_ordering o (member k d (member l e ms)) (member l d ms) (member l e (put k d ms)))
    ≡ others ks (member l e ms)
others-put_at Less ks k l d e ms is among later = rw among refl
others-put_at Equal ks k l d e ms is among later =
    let same : k ≡ l = exact_bytes k l is in
    let here : is_among l ks ≡ true = subst (λ (n : List ℕ). is_among n ks ≡ true) same among in
    rw here refl
others-put_at Greater ks k l d e ms is among later = rw later refl

others-put : (ks : List (List ℕ)) (k : List ℕ) (d : Data) (ms : Members) → is_among k ks ≡ true
    → others ks (put k d ms) ≡ others ks ms
others-put ks k d no_members among = rw among refl
others-put ks k d (member l e ms) among =
    others-put_at _ ks k l d e ms refl among (others-put ks k d ms among)

-- whether each field has one of these names
abbrev pub are_among : List (List ℕ × Data) → List (List ℕ) → Bool
are_among [] ks = true
are_among (f ∷ fs) ks = is_among f.0 ks && are_among fs ks

others-put_all : (ks : List (List ℕ)) (fs : List (List ℕ × Data)) (ms : Members)
    → are_among fs ks ≡ true → others ks (put_all fs ms) ≡ others ks ms
others-put_all ks [] ms among = refl
others-put_all ks (f ∷ fs) ms among =
    let b = both (is_among f.0 ks) (are_among fs ks) among in
    others-put_all ks fs (put f.0 f.1 ms) b.1 ∙ others-put ks f.0 f.1 ms b.0

-- members without these names
gone_by : (o : Ordering) (r : Option Data) (d : Data) → match_ordering o r (Some d) r ≡ None
    → (is_eq o ≡ false) × (r ≡ None)
gone_by Less r d h = (refl, h)
gone_by Equal r d h = cc
gone_by Greater r d h = (refl, h)

pub gone_at : (b : Bool) (k l : List ℕ) (d : Data) (ms : Members) → bytes_eq k l ≡ b
    → get_member k (member l d ms) ≡ None → (b ≡ false) × (get_member k ms ≡ None)
gone_at b k l d ms is h =
    let g = gone_by (slice_cmp nat_cmp k l) (get_member k ms) d h in
    (sym is ∙ sym (is_eq-slice_cmp k l) ∙ g.0, g.1)

without-gone : (k : List ℕ) (ms : Members) → get_member k ms ≡ None → without k ms ≡ ms
without-gone k no_members h = refl
without-gone k (member l d ms) h = let g =
    gone_at _ k l d ms refl h in rw g.0 (ap (member l d) (without-gone k ms g.1))

pub without_all-gone : (ks : List (List ℕ)) (ms : Members) → Lacks ks ms → without_all ks ms ≡ ms
without_all-gone [] ms h = refl
without_all-gone (k ∷ ks) ms h =
    ap (without_all ks) (without-gone k ms h.0) ∙ without_all-gone ks ms h.1

-- what was put is taken out again
pub without_all-put_all : (ks : List (List ℕ)) (fs : List (List ℕ × Data)) (ms : Members)
    → are_among fs ks ≡ true → Lacks ks ms → without_all ks (put_all fs ms) ≡ ms
without_all-put_all ks fs ms among h =
    without_all-others ks (put_all fs ms) ∙ others-put_all ks fs ms among
    ∙ sym (without_all-others ks ms) ∙ without_all-gone ks ms h

-- ---- a member that need not be there
pub get_member-put_optional : (name : List ℕ) (o : Option Data) (ms : Members)
    → get_member name ms ≡ None → get_member name (put_optional name o ms) ≡ o
get_member-put_optional name None ms h = h
get_member-put_optional name (Some d) ms h = get_member-put name d ms

-- a member of another name
pub get_member-put_optional_other : (j k : List ℕ) (o : Option Data) (ms : Members)
    → bytes_eq j k ≡ false → get_member j (put_optional k o ms) ≡ get_member j ms
get_member-put_optional_other j k None ms h = refl
get_member-put_optional_other j k (Some d) ms h =
    get_member-put_other j k d ms (λ same. true≢false (sym ((bytes_eq-Decides j k).1 same) ∙ h))

-- members that were put are taken out, whatever stood there
pub without_all-put_all_among : (ks : List (List ℕ)) (fs : List (List ℕ × Data)) (ms : Members)
    → are_among fs ks ≡ true → without_all ks (put_all fs ms) ≡ without_all ks ms
without_all-put_all_among ks fs ms among =
    without_all-others ks (put_all fs ms) ∙ others-put_all ks fs ms among
    ∙ sym (without_all-others ks ms)

others-put_optional : (ks : List (List ℕ)) (k : List ℕ) (o : Option Data) (ms : Members)
    → is_among k ks ≡ true → others ks (put_optional k o ms) ≡ others ks ms
others-put_optional ks k None ms among = refl
others-put_optional ks k (Some d) ms among = others-put ks k d ms among

pub without_all-put_optional : (ks : List (List ℕ)) (k : List ℕ) (o : Option Data) (ms : Members)
    → is_among k ks ≡ true → without_all ks (put_optional k o ms) ≡ without_all ks ms
without_all-put_optional ks k o ms among =
    without_all-others ks (put_optional k o ms) ∙ others-put_optional ks k o ms among
    ∙ sym (without_all-others ks ms)
