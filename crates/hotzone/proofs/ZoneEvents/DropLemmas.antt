-- The finished header tells the new side as the one before it, and has the areas of all keyslots but
-- those that are wiped.
use Rattle.std.proofs.Common.{◌≡◌, ◌∙◌, ℕ, ◌*◌, Bool, true, false, not, List, [], ◌∷◌}
use Rattle.std.proofs.Common.{◌++◌, map, Option, Some, None, Ok, refl, sym, ap, subst, arith, cond, eqb}
use Rattle.std.proofs.lemmas.Bool.{and_parts, eqb-true}
use Rattle.std.proofs.lemmas.List.Elements.{All-contains, All-from_recursion, recursion_from_All}
use Rattle.std.proofs.lemmas.List.Folds.{list_any-append}
use Rattle.std.proofs.lemmas.Nat.{div-add-mod'}
use Rattle.std.specs.Prelude.{Contains, ◌↔◌, ◌||◌, ◌==◌, ◌&&◌, option_and_then, option_map}
use Rattle.std.specs.List.{All, AllByRecursion, cons_option, filter, find, list_any}
use Rattle.crash_laws.specs.HeaderAreas.Areas.{Area as DiskArea}
use Rattle.base_terms.specs.declared.disk_sizes.Sizes.{Sizes}
use Rattle.hotzone.specs.Endings.{is_left, wiped}
use Rattle.luks_meta.specs.declared.digest.Digest.{Digest}
use Rattle.luks_meta.specs.declared.keyslot.Keyslot.{Keyslot}
use Rattle.luks_meta.specs.declared.meta.Parts.{Parts}
use Rattle.luks_rules.specs.Areas.{area_of, areas_of}
use Rattle.luks_rules.specs.Idles.{idle_of}
use Rattle.luks_rules.specs.Plans.{same_digest}
use Rattle.luks_rules.specs.References.{lists, value_at}
use Rattle.luks_rules.specs.Rules.{first_fault}
use Rattle.luks_rules.specs.Shapes.{have_two_digests, progress_of}
use Rattle.luks_rules.specs.States.{IsConverting}
use Rattle.luks_rules.specs.declared.areas.Area.{Area}
use Rattle.luks_rules.specs.declared.extents.Extent.{Extent}
use Rattle.luks_rules.specs.declared.idle.Idle.{Idle}
use Rattle.luks_rules.specs.declared.shape.Progress.{Progress}
use Rattle.reenc_meta.specs.Finishes.{IsFinished, IsNewVolume, finished, finished_digest, is_dropped}
use Rattle.reenc_meta.specs.Finishes.{is_old_digest, old_lists, other_lists}
use Rattle.segment_map.specs.declared.Side.TheVariants.{New}
use Rattle.hotzone.proofs.ZoneEvents.GroundLemmas.{IsKept}
use Rattle.hotzone.proofs.ZoneEvents.MemberLemmas.{from-filtered, from-mapped, has-filtered}
use Rattle.hotzone.proofs.ZoneEvents.MemberLemmas.{has-mapped}
use Rattle.hotzone.proofs.ZoneEvents.MemberLemmas.{left-from, left-to, same-area}
use Rattle.hotzone.proofs.ZoneEvents.TellLemmas.{key-mapped, keyslots-told, same-alone, same-code}
use Rattle.hotzone.proofs.ZoneEvents.TellLemmas.{sealing-told}
use Rattle.hotzone.specs.ZoneEvents.Readings.{keyslots_in, parts_in, sealing_in}
use Rattle.hotzone.specs.ZoneEvents.Tellings.{area_on, digest_on, for_one, is_listed, sealing_by}
use Rattle.hotzone.specs.ZoneEvents.Tellings.{side_alone}

-- ---- a digest that stays is found where others go
value-filtered : (keep : ℕ × Digest → Bool) (n : ℕ)
    → ((d : ℕ × Digest) → eqb d.0 n ≡ true → keep d ≡ true) → (ds : List (ℕ × Digest))
    → find (λ (e : ℕ × Digest). eqb e.0 n) (filter keep ds)
    ≡ find (λ (e : ℕ × Digest). eqb e.0 n) ds
value-filtered keep n pass [] = refl
value-filtered keep n pass (d ∷ ds) =
    go (keep d) refl (eqb d.0 n) refl (value-filtered keep n pass ds)
  where
    go : (b : Bool) → keep d ≡ b → (t : Bool) → eqb d.0 n ≡ t
        → find (λ (e : ℕ × Digest). eqb e.0 n) (filter keep ds)
        ≡ find (λ (e : ℕ × Digest). eqb e.0 n) ds
        → find (λ (e : ℕ × Digest). eqb e.0 n) (cond b (d ∷ filter keep ds) (filter keep ds))
        ≡ cond t (Some d) (find (λ (e : ℕ × Digest). eqb e.0 n) ds)
    go true e t is later =
        ap (λ x. cond x (Some d) (find (λ (e : ℕ × Digest). eqb e.0 n) (filter keep ds))) is
        ∙ ap (λ r. cond t (Some d) r) later
    go false e true is later = let bad : false ≡ true = sym e ∙ pass d is in cc
    go false e false is later = later

key-filtered : (keep : ℕ × Digest → Bool) (ds : List (ℕ × Digest)) (o : Option ℕ)
    → ((n : ℕ) → o ≡ Some n → (d : ℕ × Digest) → eqb d.0 n ≡ true → keep d ≡ true)
    → option_map for_one (option_and_then (value_at (filter keep ds)) o)
    ≡ option_map for_one (option_and_then (value_at ds) o)
key-filtered keep ds None pass = refl
key-filtered keep ds (Some n) pass =
    ap (λ (found : Option (ℕ × Digest)). option_map for_one (value-of found))
    (value-filtered keep n (pass n refl) ds)
  where
    value-of : Option (ℕ × Digest) → Option Digest
    value-of None = None
    value-of (Some e) = Some e.1

-- ---- a digest that is found is one of them
found-any : (test : ℕ × Digest → Bool) (n : ℕ) (d : Digest) (ds : List (ℕ × Digest))
    → value_at ds n ≡ Some d → ((k : ℕ) → eqb k n ≡ true → test (k, d) ≡ true)
    → list_any test ds ≡ true
found-any test n d [] there pass = absurd cc
found-any test n d (e ∷ ds) there pass = go (eqb e.0 n) refl there (found-any test n d ds)
  where
    or_right : (a b : Bool) → b ≡ true → a || b ≡ true
    or_right true b is = refl
    or_right false b is = is

    go : (b : Bool) → eqb e.0 n ≡ b
        → option_map (λ (e : ℕ × Digest). e.1)
        (cond b (Some e) (find (λ (e : ℕ × Digest). eqb e.0 n) ds)) ≡ Some d
        → (value_at ds n ≡ Some d → ((k : ℕ) → eqb k n ≡ true → test (k, d) ≡ true)
        → list_any test ds ≡ true) → test e || list_any test ds ≡ true
    go true is at later =
        let same : e.1 ≡ d = cc in
        ap (λ b. b || list_any test ds)
        (ap (λ x. test (e.0, x)) same ∙ pass e.0 is)
    go false is at later = or_right (test e) (list_any test ds) (later at pass)

found-each : (P : ℕ × Digest → Type 0) (n : ℕ) (d : Digest) (ds : List (ℕ × Digest))
    → AllByRecursion P ds → value_at ds n ≡ Some d → (k : ℕ) × P (k, d)
found-each P n d [] all there = absurd cc
found-each P n d (e ∷ ds) all there =
    go (eqb e.0 n) there (λ at. found-each P n d ds all.1 at)
  where
    go : (b : Bool)
        → option_map (λ (e : ℕ × Digest). e.1)
        (cond b (Some e) (find (λ (e : ℕ × Digest). eqb e.0 n) ds)) ≡ Some d
        → (value_at ds n ≡ Some d → (k : ℕ) × P (k, d)) → (k : ℕ) × P (k, d)
    go true at later = let same : e.1 ≡ d = cc in (e.0, subst (λ x. P (e.0, x)) same all.0)
    go false at later = later at

-- keyslots that pass stay where others go
slots-filtered : (keep stay : ℕ × Keyslot → Bool) (slots : List (ℕ × Keyslot))
    → ((slot : ℕ × Keyslot) → keep slot ≡ true → stay slot ≡ true)
    → filter keep (filter stay slots) ≡ filter keep slots
slots-filtered keep stay [] pass = refl
slots-filtered keep stay (s ∷ slots) pass =
    go (stay s) refl (keep s) refl (slots-filtered keep stay slots pass)
  where
    go : (b : Bool) → stay s ≡ b → (k : Bool) → keep s ≡ k
        → filter keep (filter stay slots) ≡ filter keep slots
        → filter keep (cond b (s ∷ filter stay slots) (filter stay slots))
        ≡ cond k (s ∷ filter keep slots) (filter keep slots)
    go true stays k is later =
        ap (λ b. cond b (s ∷ filter keep (filter stay slots)) (filter keep (filter stay slots))) is
        ∙ ap (λ l. cond k (s ∷ l) l) later
    go false goes true is later = let bad : false ≡ true = sym goes ∙ pass s is in cc
    go false goes false is later = later

-- the old digest isn't the new one
two-digests : (old new : Option ℕ) (n k : ℕ) → have_two_digests old new ≡ true → new ≡ Some n
    → k ≡ n → not (same_digest old (Some k)) ≡ true
two-digests None new n k two is same = refl
two-digests (Some d) new n k two is same =
    subst (λ m. not (d == m) ≡ true) (sym same)
    (subst (λ o. have_two_digests (Some d) o ≡ true) is two)

-- ---- the areas of keyslots that stay are areas of keyslots
each-more : (P : Area → Type 0) (o : Option Area) (xs ys : List Area)
    → AllByRecursion P (cons_option o xs) → (AllByRecursion P xs → AllByRecursion P ys)
    → AllByRecursion P (cons_option o ys) × AllByRecursion P ys
each-more P None xs ys all later = (later all, later all)
each-more P (Some a) xs ys all later = ((all.0, later all.1), later all.1)

each-kept : (P : Area → Type 0) (test : ℕ × Keyslot → Bool) (slots : List (ℕ × Keyslot))
    → AllByRecursion P (areas_of slots) → AllByRecursion P (areas_of (filter test slots))
unfolding areas_of
each-kept P test [] all = tt
each-kept P test (s ∷ slots) all =
    go (test s) (each-more P (area_of s.1) (areas_of slots) (areas_of (filter test slots)) all
    (each-kept P test slots))
  where
    go : (b : Bool)
        → AllByRecursion P (cons_option (area_of s.1) (areas_of (filter test slots)))
        × AllByRecursion P (areas_of (filter test slots))
        → AllByRecursion P (areas_of (cond b (s ∷ filter test slots) (filter test slots)))
    go true both = both.0
    go false both = both.1

-- ---- an area in whole atoms is told by its atoms
area-told : (m : Parts) (sizes : Sizes) (a b : Area) → IsKept m sizes a → IsKept m sizes b
    → area_on sizes.atom a ≡ area_on sizes.atom b → a ≡ b
area-told m sizes a b one two same =
    let atom = sizes.atom in
    let start = ap (λ (x : DiskArea). x.start * atom) same in
    let count = ap (λ (x : DiskArea). x.count * atom) same in
    let a_at = div-add-mod' a.offset atom in
    let b_at = div-add-mod' b.offset atom in
    let a_size = div-add-mod' a.size atom in
    let b_size = div-add-mod' b.size atom in
    let a_whole = one.offset in
    let b_whole = two.offset in
    let a_even = one.size in
    let b_even = two.size in
    same-area a b (omega (arith, start, a_at, b_at, a_whole, b_whole))
    (omega (arith, count, a_size, b_size, a_even, b_even))

-- ---- which areas are wiped
module _ (m : Parts) (sizes : Sizes) (guard : Area) (after : List (ℕ × Keyslot))
    (whole : All (IsKept m sizes) (areas_of m.keyslots))
    (stays : All (IsKept m sizes) (areas_of after)) where
  abbrev on : Area → DiskArea
  on a = area_on sizes.atom a

  abbrev goes : Area → Bool
  goes a = not (is_left (areas_of after ++ (guard ∷ [])) a)

  abbrev unguarded : Area → Bool
  unguarded a = not (is_left (guard ∷ []) a)

  abbrev any-area : Area → Bool
  any-area a = not (is_left [] a)

  parted : (a : Area) → is_left (areas_of after ++ (guard ∷ [])) a
      ≡ (is_left (areas_of after) a || is_left (guard ∷ []) a)
  parted a =
      list_any-append (λ (b : Area). b.offset == a.offset && b.size == a.size) (areas_of after)
      (guard ∷ [])

  -- one that goes is neither left nor what guards
  gone : (a : Area) → goes a ≡ true → (is_left (areas_of after) a ≡ false) × (unguarded a ≡ true)
  gone a is =
      go (is_left (areas_of after) a) refl (is_left (guard ∷ []) a) refl
      (sym (ap (λ b. not b) (parted a)) ∙ is)
    where
      go : (l : Bool) → is_left (areas_of after) a ≡ l → (g : Bool) → is_left (guard ∷ []) a ≡ g
          → not (l || g) ≡ true → (is_left (areas_of after) a ≡ false) × (unguarded a ≡ true)
      go false one false two h = (one, ap (λ b. not b) two)
      go false one true two h = let bad : false ≡ true = h in cc
      go true one g two h = let bad : false ≡ true = h in cc

  going : (a : Area) → is_left (areas_of after) a ≡ false → unguarded a ≡ true → goes a ≡ true
  going a one two =
      ap (λ b. not b) (parted a) ∙ ap (λ b. not (b || is_left (guard ∷ []) a)) one ∙ two

  pub dropped-areas : (area : DiskArea)
      → Contains (map on (wiped guard m.keyslots after)) area
      ↔ (Contains (map on (filter unguarded (areas_of m.keyslots))) area
      × (Contains (map on (filter any-area (areas_of after))) area → ⊥))
  dropped-areas area = (one, two)
    where
      one : Contains (map on (wiped guard m.keyslots after)) area
          → Contains (map on (filter unguarded (areas_of m.keyslots))) area
          × (Contains (map on (filter any-area (areas_of after))) area → ⊥)
      one has =
          let a = from-mapped on area (filter goes (areas_of m.keyslots)) has in
          let is = from-filtered goes a.0 (areas_of m.keyslots) a.1 in
          let out = gone a.0 is.1 in (
            subst (λ z. Contains (map on (filter unguarded (areas_of m.keyslots))) z) a.2
                (has-mapped on a.0 (filter unguarded (areas_of m.keyslots))
                (has-filtered unguarded a.0 (areas_of m.keyslots) is.0 out.1)),
            λ still.
                let b = from-mapped on area (filter any-area (areas_of after)) still in
                let left = (from-filtered any-area b.0 (areas_of after) b.1).0 in
                let same : b.0 ≡ a.0 =
                area-told m sizes b.0 a.0
                (All-contains (IsKept m sizes) (areas_of after) b.0 stays left)
                (All-contains (IsKept m sizes) (areas_of m.keyslots) a.0 whole is.0)
                (b.2 ∙ sym a.2) in
                let bad : false ≡ true =
                sym out.0
                ∙ left-from a.0 (areas_of after)
                (subst (λ z. Contains (areas_of after) z) same left) in
                cc,
          )

      two : Contains (map on (filter unguarded (areas_of m.keyslots))) area
          × (Contains (map on (filter any-area (areas_of after))) area → ⊥)
          → Contains (map on (wiped guard m.keyslots after)) area
      two has =
          let a = from-mapped on area (filter unguarded (areas_of m.keyslots)) has.0 in
          let is = from-filtered unguarded a.0 (areas_of m.keyslots) a.1 in
          go a.0 is.0 is.1 a.2 (is_left (areas_of after) a.0) refl
        where
          go : (a : Area) → Contains (areas_of m.keyslots) a → unguarded a ≡ true → on a ≡ area
              → (b : Bool) → is_left (areas_of after) a ≡ b
              → Contains (map on (wiped guard m.keyslots after)) area
          go a there free at true is =
              absurd (has.1 (subst (λ z. Contains (map on (filter any-area (areas_of after))) z) at
              (has-mapped on a (filter any-area (areas_of after))
              (has-filtered any-area a (areas_of after) (left-to a (areas_of after) is) refl))))
          go a there free at false is =
              subst (λ z. Contains (map on (wiped guard m.keyslots after)) z) at
              (has-mapped on a (filter goes (areas_of m.keyslots))
              (has-filtered goes a (areas_of m.keyslots) there (going a is free)))

-- ---- the finished header
module _ (sizes : Sizes) (p : Progress) (m next : Parts) (done : IsFinished m sizes p next)
    (v : Idle) (volume : IsNewVolume sizes p v) (live : List Extent)
    (busy : IsConverting m sizes p live) (whole : All (IsKept m sizes) (areas_of m.keyslots))
    (from to : List ℕ) (one : parts_in from ≡ Ok m) (two : parts_in to ≡ Ok next)
    (known : progress_of m sizes ≡ Some p) (none : progress_of next sizes ≡ None)
    (idle : idle_of next sizes ≡ Some v) where
  digests-are : next.digests
      ≡ map (finished_digest p) (filter (λ d. not (is_old_digest p d)) m.digests)
  unfolding finished
  digests-are = ap (λ (n : Parts). n.digests) done.is

  keyslots-are : next.keyslots
      ≡ filter (λ (slot : ℕ × Keyslot). not (is_dropped p m.digests slot.0)) m.keyslots
  unfolding finished
  keyslots-are = ap (λ (n : Parts). n.keyslots) done.is

  digests-two : have_two_digests p.old.digest p.new.digest ≡ true
  digests-two = (and_parts _ (have_two_digests p.old.digest p.new.digest) busy.state.wholes).1

  key-stays : option_map for_one (option_and_then (value_at next.digests) p.new.digest)
      ≡ option_map for_one (option_and_then (value_at m.digests) p.new.digest)
  key-stays =
      ap (λ ds. option_map for_one (option_and_then (value_at ds) p.new.digest)) digests-are
      ∙ key-mapped (finished_digest p) (λ d. (refl, refl))
      (filter (λ d. not (is_old_digest p d)) m.digests) p.new.digest
      ∙ key-filtered (λ d. not (is_old_digest p d)) m.digests p.new.digest
      (λ n is d same.
      two-digests p.old.digest p.new.digest n d.0 digests-two is (eqb-true d.0 n same))

  -- a keyslot that the new digest lists isn't dropped
  undropped : (n k : ℕ) (d : Digest) → p.new.digest ≡ Some k → value_at m.digests k ≡ Some d
      → lists d.keyslots n ≡ true → not (is_dropped p m.digests n) ≡ true
  unfolding is_dropped
  undropped n k d number there listed = go (eqb n p.conversion.keyslot) refl
    where
      both_true : (a b : Bool) → a ≡ true → b ≡ true → a && b ≡ true
      both_true true b one two = two
      both_true false b one two = one

      other : other_lists p m.digests n ≡ true
      other = found-any (λ e. not (is_old_digest p e) && lists e.1.keyslots n) k d m.digests there
          (λ j same. both_true (not (is_old_digest p (j, d))) (lists d.keyslots n)
          (two-digests p.old.digest p.new.digest k j digests-two number (eqb-true j k same)) listed)

      spared : (a b : Bool) → b ≡ true → not (false || (a && not b)) ≡ true
      spared true b is = ap (λ c. not (not c)) is
      spared false b is = refl

      go : (b : Bool) → eqb n p.conversion.keyslot ≡ b
          → not (b || (old_lists p m.digests n && not (other_lists p m.digests n))) ≡ true
      go true is =
          let (j, unlisted) = found-each
          (λ (e : ℕ × Digest). lists e.1.keyslots p.conversion.keyslot ≡ false) k d m.digests
          (recursion_from_All _ m.digests busy.alone) there in
          let both : false ≡ true =
          sym unlisted ∙ ap (λ i. lists d.keyslots i) (sym (eqb-true n p.conversion.keyslot is))
          ∙ listed in cc
      go false is = spared (old_lists p m.digests n) (other_lists p m.digests n) other

  listed-stays : (o : Option ℕ) → p.new.digest ≡ o → (slot : ℕ × Keyslot)
      → is_listed (option_map for_one (option_and_then (value_at m.digests) o)) slot.0 ≡ true
      → not (is_dropped p m.digests slot.0) ≡ true
  listed-stays None number slot listed = let bad : false ≡ true = listed in cc
  listed-stays (Some k) number slot listed = go (value_at m.digests k) refl listed
    where
      go : (o : Option Digest) → value_at m.digests k ≡ o
          → is_listed (option_map for_one o) slot.0 ≡ true
          → not (is_dropped p m.digests slot.0) ≡ true
      go None there h = let bad : false ≡ true = h in cc
      go (Some d) there h = undropped slot.0 k d number there h

  slots-stay : filter (λ slot. is_listed (digest_on m p.new) slot.0) next.keyslots
      ≡ filter (λ slot. is_listed (digest_on m p.new) slot.0) m.keyslots
  slots-stay =
      ap (λ (slots : List (ℕ × Keyslot)). filter (λ slot. is_listed (digest_on m p.new) slot.0)
      slots) keyslots-are
      ∙ slots-filtered (λ slot. is_listed (digest_on m p.new) slot.0)
      (λ (slot : ℕ × Keyslot). not (is_dropped p m.digests slot.0)) m.keyslots
      (λ slot listed. listed-stays p.new.digest refl slot listed)

  side-stays : side_alone next v.segment ≡ side_alone m p.new
  side-stays =
      same-alone next m v.segment p.new (ap (λ (e : Extent). e.offset) volume.segment)
      (ap (λ (e : Extent). e.encryption) volume.segment)
      (ap (λ (e : Extent). e.digest) volume.segment)
      (ap (λ (e : Extent). option_map for_one (option_and_then (value_at next.digests) e.digest))
      volume.segment ∙ key-stays)
      slots-stay

  pub seals-stay : first_fault m sizes ≡ None → sealing_in sizes to New ≡ sealing_in sizes from New
  seals-stay valid =
      sealing-told sizes to next None two none done.valid New
      ∙ ap (λ o. sealing_by next None o New) idle
      ∙ same-code next m v.segment p.new side-stays
      ∙ sym (sealing-told sizes from m (Some p) one known valid New)

  pub areas-drop : (area : DiskArea)
      → Contains (map (λ a. area_on sizes.atom a)
      (wiped p.conversion.area m.keyslots next.keyslots)) area
      ↔ (Contains (keyslots_in sizes from) area × (Contains (keyslots_in sizes to) area → ⊥))
  areas-drop area =
      subst (λ was. Contains (map (λ a. area_on sizes.atom a)
      (wiped p.conversion.area m.keyslots next.keyslots)) area
      ↔ (Contains was area × (Contains (keyslots_in sizes to) area → ⊥)))
      (sym (keyslots-told sizes from m (Some p) one known))
      (subst (λ is. Contains (map (λ a. area_on sizes.atom a)
      (wiped p.conversion.area m.keyslots next.keyslots)) area
      ↔ (Contains (map (λ a. area_on sizes.atom a)
      (filter (λ a. not (is_left (p.conversion.area ∷ []) a)) (areas_of m.keyslots))) area
      × (Contains is area → ⊥)))
      (sym (keyslots-told sizes to next None two none))
      (dropped-areas m sizes p.conversion.area next.keyslots whole
      (subst (λ slots. All (IsKept m sizes) (areas_of slots)) (sym keyslots-are)
      (All-from_recursion (IsKept m sizes) _
      (each-kept (IsKept m sizes)
      (λ (slot : ℕ × Keyslot). not (is_dropped p m.digests slot.0)) m.keyslots
      (recursion_from_All (IsKept m sizes) (areas_of m.keyslots) whole))))
      area))
