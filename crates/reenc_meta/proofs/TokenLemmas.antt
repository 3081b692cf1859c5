-- Tokens without the keyslots that go have a text.
use Rattle.std.proofs.Common.{◌≡◌, ℕ, ◌≤◌, List, codes, Option, Some, None}
use Rattle.std.proofs.Common.{Bool, true, false, cond, refl, subst, arith, Ordering, Less, Equal}
use Rattle.std.proofs.Common.{Greater, nat_cmp}
use Rattle.std.proofs.lemmas.Bool.{or_from, or_parts}
use Rattle.std.specs.Cmp.Lexicographic.{slice_cmp}
use Rattle.std.specs.Option.{option_and_then}
use Rattle.std.specs.Ordering.{match_ordering}
use Rattle.json_members.specs.Members.{IsPlain, IsPlainData}
use Rattle.json_members.proofs.PlainLemmas.{first, later, put-plain}
use Rattle.luks_meta.specs.Tokens.{IsToken}
use Rattle.luks_meta.specs.declared.token.Token.{Token}
use Rattle.reenc_meta.specs.Finishes.{items_kept, names_dropped, token_kept, with_list}
use Rattle.serde_json.specs.Data.{Data, null, boolean, number, string, array, object, Items}
use Rattle.serde_json.specs.Data.{no_items, item, Members, no_members, member, items_depth}
use Rattle.serde_json.specs.Find.{as_array, get_member}
use Rattle.serde_json.specs.Written.{has_float, items_have_float}

-- a member of plain members is plain
found_at : {deep : ℕ} (o : Ordering) (a : Option Data) (e d : Data)
    → (a ≡ Some d → IsPlainData deep d) → IsPlainData deep e
    → match_ordering o a (Some e) a ≡ Some d → IsPlainData deep d
found_at Less a e d inner here h = inner h
found_at Equal a e d inner here h = let same : e ≡ d = cc in subst (IsPlainData _) same here
found_at Greater a e d inner here h = inner h

member_plain : {deep : ℕ} (k : List ℕ) (ms : Members) (d : Data) → IsPlain deep ms
    → get_member k ms ≡ Some d → IsPlainData deep d
member_plain k no_members d is h = cc
member_plain k (member l e ms) d is h =
    found_at (slice_cmp nat_cmp k l) (get_member k ms) e d
    (member_plain k ms d (later l e ms is)) (first l e ms is) h

-- some of the items of a list nest no deeper, and have no float
kept_floats : (dropped : ℕ → Bool) (ds : Items) → items_have_float ds ≡ false
    → items_have_float (items_kept dropped ds) ≡ false
kept_floats dropped no_items h = h
kept_floats dropped (item d ds) h =
    let parts = or_parts (has_float d) (items_have_float ds) h in
    go (names_dropped dropped d) parts.0 (kept_floats dropped ds parts.1)
  where
    go : (b : Bool) → has_float d ≡ false → items_have_float (items_kept dropped ds) ≡ false
        → items_have_float (cond b (items_kept dropped ds) (item d (items_kept dropped ds)))
        ≡ false
    go true here rest = rest
    go false here rest = or_from (has_float d) (items_have_float (items_kept dropped ds)) here rest

kept_depth : (dropped : ℕ → Bool) (ds : Items)
    → items_depth (items_kept dropped ds) ≤ items_depth ds
kept_depth dropped no_items = omega arith
kept_depth dropped (item d ds) = go (names_dropped dropped d) (kept_depth dropped ds)
  where
    go : (b : Bool) → items_depth (items_kept dropped ds) ≤ items_depth ds
        → items_depth (cond b (items_kept dropped ds) (item d (items_kept dropped ds)))
        ≤ items_depth (item d ds)
    go true rest = omega (arith, rest)
    go false rest = omega (arith, rest)

list_plain : {deep : ℕ} (dropped : ℕ → Bool) (ds : Items) → IsPlainData deep (array ds)
    → IsPlainData deep (array (items_kept dropped ds))
list_plain dropped ds is = record {
  whole = kept_floats dropped ds is.whole;
  flat = (let less = kept_depth dropped ds in let most = is.flat in omega (arith, less, most));
}

pub token-kept : (dropped : ℕ → Bool) (t : Token) → IsToken t → IsToken (token_kept dropped t)
unfolding token_kept
token-kept dropped t is =
    go (get_member (codes "keyslots") t.members)
    (λ d. member_plain (codes "keyslots") t.members d is)
  where
    go : (o : Option Data) → ((d : Data) → o ≡ Some d → IsPlainData 124 d)
        → IsPlain 124 (with_list dropped t.members (option_and_then as_array o))
    go None inner = is
    go (Some null) inner = is
    go (Some (boolean b)) inner = is
    go (Some (number n)) inner = is
    go (Some (string s)) inner = is
    go (Some (object ms)) inner = is
    go (Some (array ds)) inner =
        put-plain (codes "keyslots") (array (items_kept dropped ds)) t.members
        (list_plain dropped ds (inner (array ds) refl)) is
