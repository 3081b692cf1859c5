-- Values and members without floats, and how deep they nest.
use Rattle.std.proofs.Common.{◌≡◌, ℕ, suc, ◌≤◌, List, [], ◌∷◌, map, decimal, Option, Some, None}
use Rattle.std.proofs.Common.{option_map, Ordering, Less, Equal, Greater, nat_cmp, false, refl}
use Rattle.std.proofs.Common.{subst, arith}
use Rattle.std.specs.Cmp.Lexicographic.{slice_cmp}
use Rattle.std.specs.List.{AllByRecursion}
use Rattle.std.specs.Ordering.{match_ordering}
use Rattle.serde_json.specs.Data.{Data, string, number, unsigned, array, object, Members}
use Rattle.serde_json.specs.Data.{no_members, member, items_depth}
use Rattle.serde_json.specs.Find.{get_member}
use Rattle.serde_json.specs.View.{items_of}
use Rattle.serde_json.specs.Written.{items_have_float}
use Rattle.json_members.specs.Entries.{objects_onto}
use Rattle.json_members.specs.Fields.{texts_data, decimals_data}
use Rattle.json_members.specs.Members.{put_optional, IsPlain, IsPlainData}
use Rattle.json_members.proofs.PlainLemmas.{first, later, put-plain}

-- ---- values that are written
pub text_plain : {deep : ℕ} (s : List ℕ) → IsPlainData deep (string s)
text_plain s = record { whole = refl; flat = omega arith }

pub number_plain : {deep : ℕ} (n : ℕ) → IsPlainData deep (number (unsigned n))
number_plain n = record { whole = refl; flat = omega arith }

pub object_plain : {deep : ℕ} (ms : Members) → IsPlain deep ms → IsPlainData (suc deep) (object ms)
object_plain ms plain = record { whole = plain.whole; flat = omega (arith, plain.flat) }

texts_whole : (ss : List (List ℕ)) → items_have_float (items_of (map string ss)) ≡ false
texts_whole [] = refl
texts_whole (s ∷ ss) = texts_whole ss

texts_flat : (ss : List (List ℕ)) → items_depth (items_of (map string ss)) ≤ 0
texts_flat [] = omega arith
texts_flat (s ∷ ss) = omega (arith, texts_flat ss)

pub texts_plain : {deep : ℕ} (ss : List (List ℕ)) → IsPlainData (suc deep) (array (texts_data ss))
texts_plain ss = record { whole = texts_whole ss; flat = omega (arith, texts_flat ss) }

decimals_whole : (ns : List ℕ) → items_have_float (decimals_data ns) ≡ false
decimals_whole [] = refl
decimals_whole (n ∷ ns) = decimals_whole ns

decimals_flat : (ns : List ℕ) → items_depth (decimals_data ns) ≤ 0
decimals_flat [] = omega arith
decimals_flat (n ∷ ns) = omega (arith, decimals_flat ns)

pub decimals_plain : {deep : ℕ} (ns : List ℕ) → IsPlainData (suc deep) (array (decimals_data ns))
decimals_plain ns = record { whole = decimals_whole ns; flat = omega (arith, decimals_flat ns) }

pub optional_plain : {X : Type 0} {deep : ℕ} (name : List ℕ) (shape : X → Data) (o : Option X)
    (ms : Members) → ((x : X) → o ≡ Some x → IsPlainData deep (shape x)) → IsPlain deep ms
    → IsPlain deep (put_optional name (option_map shape o) ms)
optional_plain name shape None ms h plain = plain
optional_plain name shape (Some x) ms h plain = put-plain name (shape x) ms (h x refl) plain

pub objects_plain : {X : Type 0} {deep : ℕ} (members : X → Members) (es : List (ℕ × X))
    (ms : Members) → AllByRecursion (λ e. IsPlain deep (members e.1)) es → IsPlain (suc deep) ms
    → IsPlain (suc deep) (objects_onto members es ms)
objects_plain members [] ms all plain = plain
objects_plain members (e ∷ es) ms all plain =
    objects_plain members es _ all.1
    (put-plain (decimal e.0) (object (members e.1)) ms (object_plain (members e.1) all.0) plain)

pub none_plain : {deep : ℕ} → IsPlain deep no_members
none_plain = record { whole = refl; flat = omega arith }

-- ---- members of what was read
member_at : {deep : ℕ} (o : Ordering) (d e : Data) (r : Option Data)
    → match_ordering o r (Some d) r ≡ Some e → IsPlainData deep d
    → (r ≡ Some e → IsPlainData deep e) → IsPlainData deep e
member_at Less d e r h plain after = after h
member_at {deep} Equal d e r h plain after = let k : d ≡ e = cc in subst (IsPlainData deep) k plain
member_at Greater d e r h plain after = after h

pub member_plain : {deep : ℕ} (name : List ℕ) (ms : Members) (d : Data) → IsPlain deep ms
    → get_member name ms ≡ Some d → IsPlainData deep d
member_plain name no_members d plain h = cc
member_plain name (member l e ms) d plain h =
    member_at (slice_cmp nat_cmp name l) e d (get_member name ms) h (first l e ms plain)
    (λ k. member_plain name ms d (later l e ms plain) k)

pub inner_plain : {deep : ℕ} (ms : Members) → IsPlainData (suc deep) (object ms) → IsPlain deep ms
inner_plain ms plain = record { whole = plain.whole; flat = omega (arith, plain.flat) }

-- the members of an object among the members
pub object_member-plain : {deep : ℕ} (name : List ℕ) (ms inner : Members) → IsPlain (suc deep) ms
    → get_member name ms ≡ Some (object inner) → IsPlain deep inner
object_member-plain name ms inner plain h =
    inner_plain inner (member_plain name ms (object inner) plain h)
