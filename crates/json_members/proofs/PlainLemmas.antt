-- Members without floats, and how deep they nest, after a member was put or taken out.
use Rattle.std.proofs.Common.{◌≡◌, ℕ, List, [], ◌∷◌, Bool, true, false, cond, ◌||◌, Option, Some}
use Rattle.std.proofs.Common.{None, Ordering, Less, Equal, Greater, bytes_eq, is_eq, nat_cmp, refl}
use Rattle.std.proofs.Common.{sym, ap, subst, ◌∙◌, arith}
use Rattle.std.proofs.lemmas.Slice.Eq.{bytes_eq-Decides}
use Rattle.std.proofs.lemmas.Map.Text.{is_eq-slice_cmp}
use Rattle.std.specs.Cmp.Lexicographic.{slice_cmp}
use Rattle.std.specs.List.{AllByRecursion}
use Rattle.std.specs.Ordering.{match_ordering}
use Rattle.serde_json.specs.Data.{Data, Members, no_members, member, put}
use Rattle.serde_json.specs.Find.{get_member}
use Rattle.serde_json.specs.Written.{has_float, members_have_float}
use Rattle.json_members.proofs.PutLemmas.{gone_at as missing}
use Rattle.json_members.specs.Members.{without, without_all, put_all, Lacks, IsPlain, IsPlainData}

neither : (a b : Bool) → a || b ≡ false → (a ≡ false) × (b ≡ false)
neither true b h = cc
neither false b h = (refl, h)

none : (a b : Bool) → a ≡ false → b ≡ false → a || b ≡ false
none true b p q = p
none false b p q = q

pub first : {deep : ℕ} (l : List ℕ) (d : Data) (ms : Members) → IsPlain deep (member l d ms)
    → IsPlainData deep d
first l d ms h =
    record { whole = (neither (has_float d) (members_have_float ms) h.whole).0; flat = omega arith }

pub later : {deep : ℕ} (l : List ℕ) (d : Data) (ms : Members) → IsPlain deep (member l d ms)
    → IsPlain deep ms
later l d ms h =
    record { whole = (neither (has_float d) (members_have_float ms) h.whole).1; flat = omega arith }

pub with_first : {deep : ℕ} (l : List ℕ) (d : Data) (ms : Members) → IsPlainData deep d
    → IsPlain deep ms → IsPlain deep (member l d ms)
with_first l d ms h k = record { whole = none _ _ h.whole k.whole; flat = omega arith }

put_at : {deep : ℕ} (o : Ordering) (k l : List ℕ) (d e : Data) (ms : Members) → IsPlainData deep d
    → IsPlain deep (member l e ms) → IsPlain deep (put k d ms)
    → IsPlain deep
    (match_ordering o (member k d (member l e ms)) (member l d ms) (member l e (put k d ms)))
put_at Less k l d e ms h all after = with_first k d (member l e ms) h all
put_at Equal k l d e ms h all after = with_first l d ms h (later l e ms all)
put_at Greater k l d e ms h all after = with_first l e (put k d ms) (first l e ms all) after

pub put-plain : {deep : ℕ} (k : List ℕ) (d : Data) (ms : Members) → IsPlainData deep d
    → IsPlain deep ms → IsPlain deep (put k d ms)
put-plain k d no_members h all = with_first k d no_members h all
put-plain k d (member l e ms) h all =
    put_at _ k l d e ms h all (put-plain k d ms h (later l e ms all))

pub put_all-plain : {deep : ℕ} (fs : List (List ℕ × Data)) (ms : Members)
    → AllByRecursion (λ f. IsPlainData deep f.1) fs → IsPlain deep ms → IsPlain deep (put_all fs ms)
put_all-plain [] ms hs all = all
put_all-plain (f ∷ fs) ms hs all =
    put_all-plain fs (put f.0 f.1 ms) hs.1 (put-plain f.0 f.1 ms hs.0 all)

without_at : {deep : ℕ} (b : Bool) (k l : List ℕ) (d : Data) (ms : Members)
    → IsPlain deep (member l d ms) → IsPlain deep (without k ms)
    → IsPlain deep (cond b (without k ms) (member l d (without k ms)))
without_at true k l d ms all after = after
without_at false k l d ms all after = with_first l d (without k ms) (first l d ms all) after

pub without-plain : {deep : ℕ} (k : List ℕ) (ms : Members) → IsPlain deep ms
    → IsPlain deep (without k ms)
without-plain k no_members all = all
without-plain k (member l d ms) all =
    without_at _ k l d ms all (without-plain k ms (later l d ms all))

pub without_all-plain : {deep : ℕ} (ks : List (List ℕ)) (ms : Members) → IsPlain deep ms
    → IsPlain deep (without_all ks ms)
without_all-plain [] ms all = all
without_all-plain (k ∷ ks) ms all = without_all-plain ks (without k ms) (without-plain k ms all)

-- ---- what was taken out isn't there
either : (o : Ordering) (a b : Option Data) → is_eq o ≡ false → match_ordering o a b a ≡ a
either Less a b e = refl
either Equal a b e = cc
either Greater a b e = refl

gone_at : (b : Bool) (k l : List ℕ) (d : Data) (ms : Members) → bytes_eq k l ≡ b
    → get_member k (without k ms) ≡ None
    → get_member k (cond b (without k ms) (member l d (without k ms))) ≡ None
gone_at true k l d ms is after = after
gone_at false k l d ms is after =
    either (slice_cmp nat_cmp k l) _ _ (is_eq-slice_cmp k l ∙ is) ∙ after

pub get_member-without : (k : List ℕ) (ms : Members) → get_member k (without k ms) ≡ None
get_member-without k no_members = refl
get_member-without k (member l d ms) = gone_at _ k l d ms refl (get_member-without k ms)

still_at : (b : Bool) (j k l : List ℕ) (d : Data) (ms : Members) → bytes_eq j l ≡ false
    → get_member j (without k ms) ≡ None
    → get_member j (cond b (without k ms) (member l d (without k ms))) ≡ None
still_at true j k l d ms is after = after
still_at false j k l d ms is after =
    either (slice_cmp nat_cmp j l) _ _ (is_eq-slice_cmp j l ∙ is) ∙ after

-- what isn't there stays away
still_none : (j k : List ℕ) (ms : Members) → get_member j ms ≡ None
    → get_member j (without k ms) ≡ None
still_none j k no_members h = refl
still_none j k (member l d ms) h = let g =
    missing _ j l d ms refl h in still_at _ j k l d ms g.0 (still_none j k ms g.1)

pub none-without_all : (j : List ℕ) (ks : List (List ℕ)) (ms : Members) → get_member j ms ≡ None
    → get_member j (without_all ks ms) ≡ None
none-without_all j [] ms h = h
none-without_all j (k ∷ ks) ms h = none-without_all j ks (without k ms) (still_none j k ms h)

pub Lacks-without_all : (ks : List (List ℕ)) (ms : Members) → Lacks ks (without_all ks ms)
Lacks-without_all [] ms = tt
Lacks-without_all (k ∷ ks) ms = (
  none-without_all k ks (without k ms) (get_member-without k ms),
  Lacks-without_all ks (without k ms),
)

-- the other members are kept
kept_at : (b : Bool) (j k l : List ℕ) (d : Data) (ms : Members) → bytes_eq k l ≡ b
    → bytes_eq j k ≡ false → get_member j (without k ms) ≡ get_member j ms
    → get_member j (cond b (without k ms) (member l d (without k ms)))
    ≡ get_member j (member l d ms)
kept_at true j k l d ms is other after =
    let same : k ≡ l = (bytes_eq-Decides k l).0 is in
    let apart : bytes_eq j l ≡ false = subst (λ (m : List ℕ). bytes_eq j m ≡ false) same other in
    after ∙ sym (either (slice_cmp nat_cmp j l) _ _ (is_eq-slice_cmp j l ∙ apart))
kept_at false j k l d ms is other after =
    ap (λ r. match_ordering (slice_cmp nat_cmp j l) r (Some d) r) after

pub get_member-without_other : (j k : List ℕ) (ms : Members) → bytes_eq j k ≡ false
    → get_member j (without k ms) ≡ get_member j ms
get_member-without_other j k no_members other = refl
get_member-without_other j k (member l d ms) other =
    kept_at _ j k l d ms refl other (get_member-without_other j k ms other)
