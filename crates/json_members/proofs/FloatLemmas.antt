-- A value without floats has no first one, and the first item or member with a float has the first.
use Rattle.std.proofs.Common.{◌≡◌, ℕ, suc, ◌+◌, ◌<◌, List, [], length, drop, get_or, cond, Bool}
use Rattle.std.proofs.Common.{true, false, ◌||◌, Option, Some, None, decimal, refl, sym, ap}
use Rattle.std.proofs.Common.{drop-cons, arith}
use Rattle.serde_json.specs.Data.{Data, null, boolean, number, string, array, object, Items}
use Rattle.serde_json.specs.Data.{no_items, item, Members, no_members, member}
use Rattle.serde_json.specs.Find.{is_float}
use Rattle.serde_json.specs.View.{view, items_view}
use Rattle.serde_json.specs.declared.value.Value.{Value}
use Rattle.serde_json.specs.Written.{has_float, items_have_float, members_have_float}
use Rattle.json_members.specs.Fields.{under}
use Rattle.json_members.specs.Floats.{float_in, float_in_items, float_in_members, or_later}

neither : (a b : Bool) → a || b ≡ false → (a ≡ false) × (b ≡ false)
neither true b h = cc
neither false b h = (refl, h)

mutual
  unfolding float_in float_in_items float_in_members

  pub float_in-whole : (path : List ℕ) (d : Data) → has_float d ≡ false → float_in path d ≡ None
  float_in-whole path null h = refl
  float_in-whole path (boolean b) h = refl
  float_in-whole path (number n) h = rw h refl
  float_in-whole path (string s) h = refl
  float_in-whole path (array ds) h = items-whole path 0 ds h
  float_in-whole path (object ms) h = members-whole path ms h

  items-whole : (path : List ℕ) (i : ℕ) (ds : Items) → items_have_float ds ≡ false
      → float_in_items path i ds ≡ None
  items-whole path i no_items h = refl
  items-whole path i (item d ds) h =
      let k = neither (has_float d) (items_have_float ds) h in
      rw (float_in-whole (under path (decimal i)) d k.0) (items-whole path (i + 1) ds k.1)

  members-whole : (path : List ℕ) (ms : Members) → members_have_float ms ≡ false
      → float_in_members path ms ≡ None
  members-whole path no_members h = refl
  members-whole path (member k d ms) h =
      let n = neither (has_float d) (members_have_float ms) h in
      rw (float_in-whole (under path k) d n.0) (members-whole path ms n.1)

pub no_float : (d : Data) → has_float d ≡ false → float_in [] d ≡ None
no_float d h = float_in-whole [] d h

later : (o p : Option (List ℕ)) → or_later o p ≡ None → (o ≡ None) × (p ≡ None)
later None p h = (refl, h)
later (Some path) p h = cc

not_float : (b : Bool) (path : List ℕ) → cond b (Some path) None ≡ None → b ≡ false
not_float true path h = cc
not_float false path h = refl

none : (a b : Bool) → a ≡ false → b ≡ false → a || b ≡ false
none true b p q = p
none false b p q = q

mutual
  unfolding float_in float_in_items float_in_members

  -- and a value without a first float has none
  pub whole-float_in : (path : List ℕ) (d : Data) → float_in path d ≡ None → has_float d ≡ false
  whole-float_in path null h = refl
  whole-float_in path (boolean b) h = refl
  whole-float_in path (number n) h = not_float (is_float n) path h
  whole-float_in path (string s) h = refl
  whole-float_in path (array ds) h = whole-items path 0 ds h
  whole-float_in path (object ms) h = whole-members path ms h

  whole-items : (path : List ℕ) (i : ℕ) (ds : Items) → float_in_items path i ds ≡ None
      → items_have_float ds ≡ false
  whole-items path i no_items h = refl
  whole-items path i (item d ds) h =
      let k = later (float_in (under path (decimal i)) d) (float_in_items path (i + 1) ds) h in
      none _ _ (whole-float_in (under path (decimal i)) d k.0) (whole-items path (i + 1) ds k.1)

  whole-members : (path : List ℕ) (ms : Members) → float_in_members path ms ≡ None
      → members_have_float ms ≡ false
  whole-members path no_members h = refl
  whole-members path (member k d ms) h =
      let n = later (float_in (under path k) d) (float_in_members path ms) h in
      none _ _ (whole-float_in (under path k) d n.0) (whole-members path ms n.1)

-- ---- the first item or member with a float has the first one
at_first : (o p : Option (List ℕ)) (b : Bool) → b ≡ true → (o ≡ None → b ≡ false) → or_later o p ≡ o
at_first None p b h none = let no : b ≡ false = none refl in cc
at_first (Some path) p b h none = refl

pub passed_item : (path : List ℕ) (vs : List Value) (i : ℕ) (v : Value) → i < length vs
    → has_float (view (get_or vs i v)) ≡ false
    → float_in_items path (i + 1) (items_view (drop (i + 1) vs))
    ≡ float_in_items path i (items_view (drop i vs))
unfolding float_in_items
passed_item path vs i v h whole =
    let next : i + 1 ≡ suc i = omega arith in
    rw (drop-cons vs i v h, float_in-whole (under path (decimal i)) (view (get_or vs i v)) whole)
    (ap (λ (k : ℕ). float_in_items path (i + 1) (items_view (drop k vs))) next)

pub found_item : (path : List ℕ) (vs : List Value) (i : ℕ) (v : Value) → i < length vs
    → has_float (view (get_or vs i v)) ≡ true
    → float_in (under path (decimal i)) (view (get_or vs i v))
    ≡ float_in_items path i (items_view (drop i vs))
unfolding float_in_items
found_item path vs i v h float =
    rw (drop-cons vs i v h)
    (sym (at_first _ _ (has_float (view (get_or vs i v))) float
    (λ e. whole-float_in (under path (decimal i)) (view (get_or vs i v)) e)))

pub passed_member : (path k : List ℕ) (d : Data) (ms : Members) → has_float d ≡ false
    → float_in_members path (member k d ms) ≡ float_in_members path ms
unfolding float_in_members
passed_member path k d ms h = rw (float_in-whole (under path k) d h) refl

pub found_member : (path k : List ℕ) (d : Data) (ms : Members) → has_float d ≡ true
    → float_in_members path (member k d ms) ≡ float_in (under path k) d
unfolding float_in_members
found_member path k d ms h = at_first _ _ (has_float d) h (λ e. whole-float_in (under path k) d e)
