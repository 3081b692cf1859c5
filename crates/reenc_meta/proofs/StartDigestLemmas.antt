-- The digests with which a conversion begins: those that there were, and that of the new key.
use Rattle.std.proofs.Common.{◌≡◌, ◌∙◌, ℕ, ◌^◌, ◌<◌, ◌||◌, cond, eqb, List, [], ◌∷◌, map, Option}
use Rattle.std.proofs.Common.{Some, None, Bool, true, false, refl, sym, ap}
use Rattle.std.proofs.lemmas.Bool.{eq-eqb, ne_eqb}
use Rattle.std.specs.List.{AllByRecursion, find}
use Rattle.std.specs.Option.{IfSome, option_map}
use Rattle.json_members.specs.Entries.{IsRising}
use Rattle.luks_meta.specs.declared.digest.Digest.{Digest}
use Rattle.luks_meta.specs.declared.keyslot.Luks2.{Luks2}
use Rattle.luks_rules.specs.Extents.{digest_of}
use Rattle.luks_rules.specs.Plans.{same_digest}
use Rattle.luks_rules.specs.References.{is_there, lists}
use Rattle.luks_rules.specs.Shapes.{have_two_digests}
use Rattle.luks_rules.specs.declared.shape.Progress.{Progress}
use Rattle.reenc_meta.specs.Layouts.{listed_by, numbers_under, segments_under}
use Rattle.reenc_meta.specs.Starts.{lowest_free, with_digest, with_new}
use Rattle.reenc_meta.proofs.InsertLemmas.{put-mapped, with-new}
use Rattle.reenc_meta.proofs.StartSlotLemmas.{each-new, free-new, own-new, rising-new, there-new}
use Rattle.segment_map.specs.declared.Side.{Side}
use Rattle.std.proofs.Common.{not}

-- the digest of the new keyslot
abbrev pub own_digest : ℕ → Digest → Digest
own_digest slot d = record d { keyslots = slot ∷ [] }

abbrev pub digests_with : Option (Luks2 × Digest) → ℕ → List (ℕ × Digest) → List (ℕ × Digest)
digests_with None slot ds = ds
digests_with (Some key) slot ds = with_new (own_digest slot key.1) ds

-- ---- the old segment's digest is one of those that there were, and so not the new one
or_true : (b c : Bool) → c ≡ true → (b || c) ≡ true
or_true true c e = refl
or_true false c e = e

pub digest-found : (ds : List (ℕ × Digest)) (n : ℕ)
    → IfSome (digest_of ds n) (λ k. is_there ds k ≡ true)
unfolding digest_of
digest-found [] n = tt
digest-found (d ∷ ds) n = go (lists d.1.segments n) (digest-found ds n)
  where
    later : (o : Option ℕ) → IfSome o (λ k. is_there ds k ≡ true)
        → IfSome o (λ k. is_there (d ∷ ds) k ≡ true)
    later None h = tt
    later (Some k) h = or_true (eqb d.0 k) (is_there ds k) h

    go : (b : Bool)
        → IfSome (option_map (λ d. d.0) (find (λ d. lists d.1.segments n) ds))
        (λ k. is_there ds k ≡ true)
        → IfSome (option_map (λ d. d.0) (cond b (Some d) (find (λ d. lists d.1.segments n) ds)))
        (λ k. is_there (d ∷ ds) k ≡ true)
    go true h = ap (λ b. b || is_there ds d.0) (eq-eqb d.0 d.0 refl)
    go false h = later (option_map (λ d. d.0) (find (λ d. lists d.1.segments n) ds)) h

pub digest-other : (ds : List (ℕ × Digest)) (o : Option ℕ) → IsRising ds
    → IfSome o (λ k. is_there ds k ≡ true) → same_digest o (Some (lowest_free ds)) ≡ false
digest-other ds None rising there = refl
digest-other ds (Some k) rising there =
    ne_eqb k (lowest_free ds) (λ same.
    let bad : true ≡ false = sym there ∙ ap (is_there ds) same ∙ free-new ds rising in cc)

module _ (key : Option (Luks2 × Digest)) (slot : ℕ) (ds : List (ℕ × Digest)) where
  pub two-digests : (o : Option ℕ) → IsRising ds → IfSome o (λ k. is_there ds k ≡ true)
      → have_two_digests o (option_map (λ k. lowest_free ds) key) ≡ true
  two-digests o rising there = go key o (digest-other ds o rising there)
    where
      go : (key : Option (Luks2 × Digest)) (o : Option ℕ)
          → same_digest o (Some (lowest_free ds)) ≡ false
          → have_two_digests o (option_map (λ k. lowest_free ds) key) ≡ true
      go key None h = refl
      go None (Some k) h = refl
      go (Some x) (Some k) h = ap not h

  -- ---- the new one lists the segments on its side, as all do
  pub digests-listed : (p : Progress) (sides : List Side)
      → p.new.digest ≡ option_map (λ k. lowest_free ds) key
      → same_digest p.old.digest (Some (lowest_free ds)) ≡ false
      → with_digest key slot (numbers_under true 0 sides) (map (listed_by p sides) ds)
      ≡ map (listed_by p sides) (digests_with key slot ds)
  digests-listed p sides new other = go key new
    where
      go : (o : Option (Luks2 × Digest)) → p.new.digest ≡ option_map (λ k. lowest_free ds) o
          → with_digest o slot (numbers_under true 0 sides) (map (listed_by p sides) ds)
          ≡ map (listed_by p sides) (digests_with o slot ds)
      go None new = refl
      go (Some k) new =
          let numbers : segments_under p sides (lowest_free ds) ≡ numbers_under true 0 sides =
          ap (λ b. cond b (numbers_under false 0 sides)
          (cond (same_digest p.new.digest (Some (lowest_free ds))) (numbers_under true 0 sides) []))
          other
          ∙ ap (λ o. cond (same_digest o (Some (lowest_free ds))) (numbers_under true 0 sides) [])
          new
          ∙ ap (λ b. cond b (numbers_under true 0 sides) [])
          (eq-eqb (lowest_free ds) (lowest_free ds) refl) in
          with-new (record k.1 { keyslots = slot ∷ []; segments = numbers_under true 0 sides })
          (map (listed_by p sides) ds)
          ∙ put-mapped (listed_by p sides) 0 (own_digest slot k.1)
          (record k.1 { keyslots = slot ∷ []; segments = numbers_under true 0 sides }) ds
          (λ d. refl)
          (λ i. (lowest_free ds, record k.1 { keyslots = slot ∷ []; segments = numbers i }))
          ∙ ap (map (listed_by p sides)) (sym (with-new (own_digest slot k.1) ds))

  -- ---- what holds of them
  pub digests-each : (P : Digest → Type 0) → IfSome key (λ k. P (own_digest slot k.1))
      → AllByRecursion (λ d. P d.1) ds → AllByRecursion (λ d. P d.1) (digests_with key slot ds)
  digests-each P new old = go key new
    where
      go : (o : Option (Luks2 × Digest)) → IfSome o (λ k. P (own_digest slot k.1))
          → AllByRecursion (λ d. P d.1) (digests_with o slot ds)
      go None new = old
      go (Some k) new = each-new (own_digest slot k.1) ds (λ d. P d.1) new old

  pub digests-rising : lowest_free ds < 2 ^ 64 → IsRising ds → IsRising (digests_with key slot ds)
  digests-rising few rising = go key
    where
      go : (o : Option (Luks2 × Digest)) → IsRising (digests_with o slot ds)
      go None = rising
      go (Some k) = rising-new (own_digest slot k.1) ds few rising

  pub digests-there : (o : Option ℕ) → IfSome o (λ n. is_there ds n ≡ true)
      → IfSome o (λ n. is_there (digests_with key slot ds) n ≡ true)
  digests-there None there = tt
  digests-there (Some n) there = go key
    where
      go : (o : Option (Luks2 × Digest)) → is_there (digests_with o slot ds) n ≡ true
      go None = there
      go (Some k) = there-new (own_digest slot k.1) ds n there

  pub digests-own : IfSome (option_map (λ k. lowest_free ds) key)
      (λ n. is_there (digests_with key slot ds) n ≡ true)
  digests-own = go key
    where
      go : (o : Option (Luks2 × Digest))
          → IfSome (option_map (λ k. lowest_free ds) o)
          (λ n. is_there (digests_with o slot ds) n ≡ true)
      go None = tt
      go (Some k) = own-new (own_digest slot k.1) ds
