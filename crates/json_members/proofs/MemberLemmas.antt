use Rattle.std.proofs.Common.{◌≡◌, ℕ, List, [], ◌∷◌, String, Global, string_bytes, string_cmp}
use Rattle.std.proofs.Common.{nat_cmp, Less, cond, Bool, true, false, bytes_eq, is_eq, refl, sym}
use Rattle.std.proofs.Common.{ap, subst, ◌∙◌}
use Rattle.std.proofs.lemmas.Slice.Eq.{bytes_eq-Decides}
use Rattle.std.proofs.lemmas.Map.Text.{is_eq-slice_cmp}
use Rattle.std.specs.Cmp.Lexicographic.{slice_cmp}
use Rattle.std.specs.List.{AllByRecursion}
use Rattle.std.specs.List.Sorted.{IsStrictlySortedBy}
use Rattle.std.specs.Map.{keys_of, remove_entry}
use Rattle.std.specs.BTreeMap.{is_at}
use Rattle.serde_json.specs.Data.{member}
use Rattle.serde_json.specs.View.{view, members_view}
use Rattle.serde_json.proofs.Views.{Entry}
use Rattle.json_members.specs.Members.{without}

-- the test by which a map finds a name
abbrev pub named : List ℕ → String Global → Bool
named name = is_at (λ k. slice_cmp nat_cmp name (string_bytes k))

gone : (name : List ℕ) (es : List Entry)
    → AllByRecursion (λ y. slice_cmp nat_cmp name (string_bytes y) ≡ Less) (keys_of es)
    → without name (members_view es) ≡ members_view es
gone name [] h = refl
gone name (e ∷ es) h =
    let other : bytes_eq name (string_bytes e.0) ≡ false =
    sym (is_eq-slice_cmp name (string_bytes e.0)) ∙ ap is_eq h.0 in
    rw other (ap (member (string_bytes e.0) (view e.1)) (gone name es h.1))

above : (name : List ℕ) (k : String Global) (es : List Entry)
    → bytes_eq name (string_bytes k) ≡ true
    → AllByRecursion (λ y. string_cmp k y ≡ Less) (keys_of es)
    → without name (members_view es) ≡ members_view es
above name k es h all =
    gone name es
    (subst (λ (n : List ℕ). AllByRecursion (λ y. slice_cmp nat_cmp n (string_bytes y) ≡ Less)
    (keys_of es)) (sym ((bytes_eq-Decides name (string_bytes k)).0 h)) all)

at : (name : List ℕ) (e : Entry) (es : List Entry) (b : Bool) → bytes_eq name (string_bytes e.0) ≡ b
    → AllByRecursion (λ y. string_cmp e.0 y ≡ Less) (keys_of es)
    → members_view (remove_entry (named name) es) ≡ without name (members_view es)
    → members_view (cond b es (e ∷ remove_entry (named name) es))
    ≡ cond b (without name (members_view es))
    (member (string_bytes e.0) (view e.1) (without name (members_view es)))
at name e es true is all later = sym (above name e.0 es is all)
at name e es false is all later = ap (member (string_bytes e.0) (view e.1)) later

pub removed : (name : List ℕ) (es : List Entry) → IsStrictlySortedBy string_cmp (keys_of es)
    → members_view (remove_entry (named name) es) ≡ without name (members_view es)
unfolding IsStrictlySortedBy
removed name [] h = refl
removed name (e ∷ es) h =
    rw (is_eq-slice_cmp name (string_bytes e.0)) (at name e es _ refl h.0 (removed name es h.1))
