-- Whatever choice of boundary and zone fits the live segments is among those that are tried.
use Rattle.std.proofs.Common.{◌≡◌, ◌∙◌, ◌⊎◌, inl, inr, ℕ, ◌+◌, ◌*◌, ◌/◌, ◌<◌, ◌&&◌, ◌||◌, eqb, List}
use Rattle.std.proofs.Common.{[], ◌∷◌, length, get_or, Option, Some, None, Bool, true, false, cond}
use Rattle.std.proofs.Common.{refl, sym, ap, subst, arith}
use Rattle.std.proofs.Math.Nat.{mul-div_cancel}
use Rattle.std.proofs.lemmas.Bool.{and_parts, and_from, eqb-true}
use Rattle.std.proofs.lemmas.List.Folds.{list_any_at}
use Rattle.std.specs.List.{list_any, find}
use Rattle.std.specs.Option.{is_some, option_map}
use Rattle.luks_meta.specs.declared.reencrypt.Direction.{Direction}
use Rattle.luks_meta.specs.declared.reencrypt.Direction.TheVariants.{Forward, Backward}
use Rattle.luks_meta.specs.declared.segment.SegmentSize.{SegmentSize}
use Rattle.luks_meta.specs.declared.segment.SegmentSize.TheVariants.{Dynamic, Sized}
use Rattle.luks_rules.specs.Extents.{blocks_of}
use Rattle.luks_rules.specs.Plans.{begins, blocks_in, is_encrypted, is_marked, is_part, is_sized}
use Rattle.luks_rules.specs.Plans.{laid_out, parts_of, rest_of, same_digest}
use Rattle.luks_rules.specs.Shapes.{are_numbered, are_wholes, choices, fits, is_next_size}
use Rattle.luks_rules.specs.Shapes.{is_whole_size, may_open, plan_by, plan_of, progress_by}
use Rattle.luks_rules.specs.Shapes.{progress_with, stays_dynamic}
use Rattle.luks_rules.specs.States.{IsState}
use Rattle.luks_rules.specs.declared.conversions.Conversion.{Conversion}
use Rattle.luks_rules.specs.declared.extents.Extent.{Extent}
use Rattle.luks_rules.specs.declared.plan.Part.{Part}
use Rattle.luks_rules.specs.declared.plan.Plan.{Plan}
use Rattle.luks_rules.specs.declared.shape.Progress.{Progress}

-- ---- the first of a list that passes
pub find_passes : {X : Type 0} (p : X → Bool) (xs : List X) (x : X) → find p xs ≡ Some x
    → p x ≡ true
find_passes p [] x h = cc
find_passes p (y ∷ ys) x h = go (p y) refl h (λ k. find_passes p ys x k)
  where
    go : (b : Bool) → p y ≡ b → cond b (Some y) (find p ys) ≡ Some x
        → (find p ys ≡ Some x → p x ≡ true) → p x ≡ true
    go true e h later = let same : y ≡ x = cc in ap p (sym same) ∙ e
    go false e h later = later h

pub find_any : {X : Type 0} (p : X → Bool) (xs : List X) → is_some (find p xs) ≡ list_any p xs
find_any p [] = refl
find_any p (y ∷ ys) = go (p y) (find_any p ys)
  where
    go : (b : Bool) → is_some (find p ys) ≡ list_any p ys
        → is_some (cond b (Some y) (find p ys)) ≡ b || list_any p ys
    go true later = refl
    go false later = later

-- ---- a part has the blocks of its segment
sized_blocks : (atom n : ℕ) (size : SegmentSize) → 0 < atom → is_sized (n * atom) size ≡ true
    → blocks_of atom size ≡ n
sized_blocks atom n Dynamic some h = cc
sized_blocks atom n (Sized m) some h =
    ap (λ k. k / atom) (eqb-true m (n * atom) h) ∙ mul-div_cancel n some

pub part_blocks : (atom : ℕ) (p : Part) (e : Extent) → 0 < atom → is_part atom p e ≡ true
    → blocks_of atom e.size ≡ p.blocks
part_blocks atom p e some h =
    let a = and_parts
    (is_marked p.zone e.mark && eqb e.offset (p.whole.offset + p.from * atom)
    && is_sized (p.blocks * atom) e.size
    && is_encrypted (p.from * atom / 512) p.whole.encryption e.encryption)
    (same_digest p.whole.digest e.digest) h in
    let b = and_parts
    (is_marked p.zone e.mark && eqb e.offset (p.whole.offset + p.from * atom)
    && is_sized (p.blocks * atom) e.size)
    (is_encrypted (p.from * atom / 512) p.whole.encryption e.encryption) a.0 in
    let d = and_parts (is_marked p.zone e.mark && eqb e.offset (p.whole.offset + p.from * atom))
    (is_sized (p.blocks * atom) e.size) b.0 in
    sized_blocks atom p.blocks e.size some d.1

-- The first part has no block, or it is the first of the segments.
Taken : ℕ → Part → List Part → List Extent → Type 0
Taken atom p ps live =
    ((p.blocks ≡ 0) × (laid_out atom ps live ≡ true))
    ⊎ ((e : Extent) × (rest : List Extent) × (live ≡ e ∷ rest) × (blocks_of atom e.size ≡ p.blocks)
    × (laid_out atom ps rest ≡ true))

taken : (atom : ℕ) (p : Part) (ps : List Part) (live : List Extent) → 0 < atom
    → laid_out atom (p ∷ ps) live ≡ true → Taken atom p ps live
unfolding laid_out Taken
taken atom p ps live some h = go (eqb p.blocks 0) refl live h
  where
    go : (b : Bool) → eqb p.blocks 0 ≡ b → (live : List Extent)
        → cond b (laid_out atom ps live) (begins atom p live && laid_out atom ps (rest_of live))
        ≡ true → Taken atom p ps live
    go true e live h = inl (eqb-true p.blocks 0 e, h)
    go false e [] h = cc
    go false e (x ∷ xs) h = let t =
        and_parts (is_part atom p x) (laid_out atom ps xs) h in
        inr (x, xs, refl, part_blocks atom p x some t.0, t.1)

ended : (atom : ℕ) (live : List Extent) → laid_out atom [] live ≡ true → live ≡ []
unfolding laid_out
ended atom [] h = refl
ended atom (x ∷ xs) h = cc

-- ---- so the choice is one of those tried
IsTried : ℕ → List Extent → Plan → Type 0
IsTried atom live plan =
    (k : ℕ) × (k < length (choices atom live))
    × ((d : Plan) → get_or (choices atom live) k d ≡ plan)

tried : (atom : ℕ) (p q r : Part) (live : List Extent) → 0 < atom → 0 < length live
    → laid_out atom (p ∷ q ∷ r ∷ []) live ≡ true
    → IsTried atom live (plan_by p.blocks q.blocks r.blocks)
unfolding IsTried Taken
tried atom p q r live some any h = elim (taken atom p (q ∷ r ∷ []) live some h) [
  | inl a ↦ elim (taken atom q (r ∷ []) live some a.1) [
    | inl b ↦ elim (taken atom r [] live some b.1) [
      | inl d ↦ let none = ap length (ended atom live d.1) in absurd (omega (arith, none))
      | inr d ↦ let at = d.2 ∙ ap (λ rest. d.0 ∷ rest) (ended atom d.1 d.4) in
          subst (λ es. IsTried atom es (plan_by p.blocks q.blocks r.blocks)) (sym at)
          (2, omega arith, λ x i. plan_by (sym a.0 i) (sym b.0 i) (d.3 i))
    ]
    | inr b ↦ elim (taken atom r [] b.1 some b.4) [
      | inl d ↦ let at = b.2 ∙ ap (λ rest. b.0 ∷ rest) (ended atom b.1 d.1) in
          subst (λ es. IsTried atom es (plan_by p.blocks q.blocks r.blocks)) (sym at)
          (1, omega arith, λ x i. plan_by (sym a.0 i) (b.3 i) (sym d.0 i))
      | inr d ↦ let at =
          b.2 ∙ ap (λ rest. b.0 ∷ rest) (d.2 ∙ ap (λ rest. d.0 ∷ rest) (ended atom d.1 d.4)) in
          subst (λ es. IsTried atom es (plan_by p.blocks q.blocks r.blocks)) (sym at)
          (2, omega arith, λ x i. plan_by (sym a.0 i) (b.3 i) (d.3 i))
    ]
  ]
  | inr a ↦ elim (taken atom q (r ∷ []) a.1 some a.4) [
    | inl b ↦ elim (taken atom r [] a.1 some b.1) [
      | inl d ↦ let at = a.2 ∙ ap (λ rest. a.0 ∷ rest) (ended atom a.1 d.1) in
          subst (λ es. IsTried atom es (plan_by p.blocks q.blocks r.blocks)) (sym at)
          (0, omega arith, λ x i. plan_by (a.3 i) (sym b.0 i) (sym d.0 i))
      | inr d ↦ let at =
          a.2 ∙ ap (λ rest. a.0 ∷ rest) (d.2 ∙ ap (λ rest. d.0 ∷ rest) (ended atom d.1 d.4)) in
          subst (λ es. IsTried atom es (plan_by p.blocks q.blocks r.blocks)) (sym at)
          (1, omega arith, λ x i. plan_by (a.3 i) (sym b.0 i) (d.3 i))
    ]
    | inr b ↦ elim (taken atom r [] b.1 some b.4) [
      | inl d ↦ let at =
          a.2 ∙ ap (λ rest. a.0 ∷ rest) (b.2 ∙ ap (λ rest. b.0 ∷ rest) (ended atom b.1 d.1)) in
          subst (λ es. IsTried atom es (plan_by p.blocks q.blocks r.blocks)) (sym at)
          (0, omega arith, λ x i. plan_by (a.3 i) (b.3 i) (sym d.0 i))
      | inr d ↦ let at =
          a.2 ∙ ap (λ rest. a.0 ∷ rest)
          (b.2 ∙ ap (λ rest. b.0 ∷ rest) (d.2 ∙ ap (λ rest. d.0 ∷ rest) (ended atom d.1 d.4))) in
          subst (λ es. IsTried atom es (plan_by p.blocks q.blocks r.blocks)) (sym at)
          (0, omega arith, λ x i. plan_by (a.3 i) (b.3 i) (d.3 i))
    ]
  ]
]

tried_by : (atom : ℕ) (direction : Direction) (old new : Extent) (live : List Extent) (plan : Plan)
    → 0 < atom → 0 < length live → laid_out atom (parts_of direction old new plan) live ≡ true
    → IsTried atom live plan
tried_by atom Forward old new live plan some any h = tried atom _ _ _ live some any h
tried_by atom Backward old new live plan some any h = tried atom _ _ _ live some any h

pub laid_by : (atom : ℕ) (c : Conversion) (old new : Extent) (live : List Extent) (plan : Plan)
    → fits atom c old new live plan ≡ true
    → laid_out atom (parts_of c.direction old new plan) live ≡ true
laid_by atom c old new live plan h =
    (and_parts _ (is_whole_size (blocks_in plan * atom) old.size)
    (and_parts _
    (is_next_size (blocks_in plan * atom) (stays_dynamic c.resilience old.size) new.size)
    (and_parts _ (may_open c.resilience plan.zone) h).0).0).0

pub planned : (atom : ℕ) (c : Conversion) (old new : Extent) (live : List Extent) (plan : Plan)
    → 0 < atom → 0 < length live → fits atom c old new live plan ≡ true
    → is_some (plan_of atom c old new live) ≡ true
unfolding plan_of IsTried
planned atom c old new live plan some any h =
    let t = tried_by atom c.direction old new live plan some any
    (laid_by atom c old new live plan h) in
    find_any (fits atom c old new live) (choices atom live)
    ∙ list_any_at (fits atom c old new live) (choices atom live) t.0 plan t.1
    (ap (fits atom c old new live) (t.2 plan) ∙ h)

-- ---- the state that is found, and that one is found
pub state_of : (atom : ℕ) (c : Conversion) (live : List Extent) (old new : Extent) (p : Progress)
    → progress_by atom c live old new ≡ Some p
    → (p.conversion ≡ c) × (p.old ≡ old) × (p.new ≡ new) × IsState atom c live old new p.plan
unfolding progress_by plan_of
state_of atom c live old new p h =
    go (are_numbered live old new && are_wholes atom c old new) refl h
  where
    by : (o : Option Plan) → plan_of atom c old new live ≡ o
        → are_numbered live old new && are_wholes atom c old new ≡ true
        → option_map (progress_with c old new) o ≡ Some p
        → (p.conversion ≡ c) × (p.old ≡ old) × (p.new ≡ new) × IsState atom c live old new p.plan
    by None found e h = cc
    by (Some plan) found e h =
        let same : progress_with c old new plan ≡ p = cc in
        let t = and_parts (are_numbered live old new) (are_wholes atom c old new) e in
        subst (λ (q : Progress). (q.conversion ≡ c) × (q.old ≡ old) × (q.new ≡ new)
        × IsState atom c live old new q.plan) same (
          refl,
          refl,
          refl,
          record {
            numbers = t.0;
            wholes = t.1;
            parts =
                find_passes (fits atom c old new live) (choices atom live) plan found;
          },
        )

    go : (b : Bool) → are_numbered live old new && are_wholes atom c old new ≡ b
        → cond b (option_map (progress_with c old new) (plan_of atom c old new live)) None ≡ Some p
        → (p.conversion ≡ c) × (p.old ≡ old) × (p.new ≡ new) × IsState atom c live old new p.plan
    go true e h = by (plan_of atom c old new live) refl e h
    go false e h = cc

mapped : {X Y : Type 0} (f : X → Y) (o : Option X) → is_some (option_map f o) ≡ is_some o
mapped f None = refl
mapped f (Some x) = refl

pub state_found : (atom : ℕ) (c : Conversion) (live : List Extent) (old new : Extent) (plan : Plan)
    → 0 < atom → 0 < length live → IsState atom c live old new plan
    → is_some (progress_by atom c live old new) ≡ true
unfolding progress_by
state_found atom c live old new plan some any is =
    ap (λ b. is_some
    (cond b (option_map (progress_with c old new) (plan_of atom c old new live)) None))
    (and_from _ _ is.numbers is.wholes)
    ∙ mapped (progress_with c old new) (plan_of atom c old new live)
    ∙ planned atom c old new live plan some any is.parts

pub state_known : (atom : ℕ) (c : Conversion) (live : List Extent) (old new : Extent)
    → is_some (progress_by atom c live old new) ≡ true
    → (plan : Plan) × IsState atom c live old new plan
state_known atom c live old new h = go (progress_by atom c live old new) refl h
  where
    go : (o : Option Progress) → progress_by atom c live old new ≡ o → is_some o ≡ true
        → (plan : Plan) × IsState atom c live old new plan
    go None e h = cc
    go (Some p) e h = (p.plan, (state_of atom c live old new p e).3)
