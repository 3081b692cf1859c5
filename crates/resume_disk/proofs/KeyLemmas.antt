-- The keys of both sides of a volume that is being converted.
use Rattle.std.proofs.Common.{◌≡◌, ◌∙◌, inl, inr, ℕ, Bool, true, false, List, Option, Some, None}
use Rattle.std.proofs.Common.{Ok, Err, ap, sym, subst, refl, IsSome}
use Rattle.std.specs.Prelude.{option_and_then}
use Rattle.base_terms.specs.declared.disk_sizes.Sizes.{Sizes}
use Rattle.sector_disk.specs.JoinedDisks.Counts.{HasSizes}
use Rattle.luks_meta.specs.declared.digest.Digest.{Digest}
use Rattle.luks_meta.specs.declared.meta.Parts.{Parts}
use Rattle.luks_meta.specs.declared.segment.Encryption.{Encryption}
use Rattle.luks_rules.specs.References.{value_at}
use Rattle.luks_rules.specs.Segments.{in_progress}
use Rattle.luks_rules.specs.Shapes.{progress_of}
use Rattle.luks_rules.specs.States.{IsConverting, IsSound, IsUnder}
use Rattle.luks_rules.specs.declared.extents.Extent.{Extent}
use Rattle.luks_rules.specs.declared.shape.Progress.{Progress}
use Rattle.luks_slots.specs.Unlocks.{IsUnlocked, key_of}
use Rattle.luks_slots.specs.declared.fault.SlotFault.{SlotFault}
use Rattle.luks_store.specs.Devices.{KeepsBytes}
use Rattle.reenc_recovery.specs.Keys.{key_by, used_by}
use Rattle.resume_disk.specs.Keys.{HasNoSideKey, IsSideKey}
use Rattle.sector_disk.specs.Devices.{Device}
use Rattle.volume_opening.specs.Openings.{IsRightBy}

-- ---- whether something is being converted
module _ (m : Parts) (sizes : Sizes) (sound : IsSound m sizes) where
  pub none_busy : progress_of m sizes ≡ None → in_progress m.config ≡ false
  none_busy none = by_case (in_progress m.config) refl
    where
      by_case : (b : Bool) → in_progress m.config ≡ b → in_progress m.config ≡ false
      by_case false is = is
      by_case true is =
          absurd (let (p, there, both) = (sound.busy is).1 in
          let e : None ≡ Some p = sym none ∙ there in cc)

  pub one_busy : (p : Progress) → progress_of m sizes ≡ Some p → in_progress m.config ≡ true
  one_busy p there = by_case (in_progress m.config) refl
    where
      by_case : (b : Bool) → in_progress m.config ≡ b → in_progress m.config ≡ true
      by_case true is = is
      by_case false is =
          absurd (let e : None ≡ Some p = sym (sound.idle is).0 ∙ there in cc)

  pub its_sides : (p : Progress) → progress_of m sizes ≡ Some p
      → (live : List Extent) × IsConverting m sizes p live
  its_sides p there =
      let (q, is, both) = (sound.busy (one_busy p there)).1 in
      let same : q ≡ p = (let e : Some q ≡ Some p = sym is ∙ there in cc) in
      subst (λ (x : Progress). (live : List Extent) × IsConverting m sizes x live) same both

  -- the digest of the old side, and of the new one, where it is encrypted
  pub old_under : (p : Progress) → progress_of m sizes ≡ Some p → IsSome p.old.encryption
      → (n : ℕ) × (d : Digest) × IsUnder m p.old n d
  old_under p there crypt = (let (live, is) = its_sides p there in is.old.digest crypt)

  pub new_under : (p : Progress) → progress_of m sizes ≡ Some p → IsSome p.new.encryption
      → (n : ℕ) × (d : Digest) × IsUnder m p.new n d
  new_under p there crypt = (let (live, is) = its_sides p there in is.new.digest crypt)

-- ---- the key of a side
module _ (m : Parts) (pass : List ℕ) (held : Option (List ℕ)) (e : Extent) where
  pub linear_side : e.encryption ≡ None → IsSideKey m pass held e None
  linear_side linear = record {
    right = subst (λ (c : Option Encryption). IsRightBy m c e.digest None) (sym linear) refl;
    told = λ image is. subst (λ (c : Option Encryption).
        key_by m image pass c e.digest ≡ Some (used_by c None)) (sym linear) refl;
  }

  pub key_side : (c : Encryption) (n : ℕ) (d : Digest) (old new : Device) (key : List ℕ)
      → e.encryption ≡ Some c → e.digest ≡ Some n → value_at m.digests n ≡ Some d
      → held ≡ old.values → IsUnlocked m d pass old new (Ok key)
      → IsSideKey m pass held e (Some key)
  key_side c n d old new key crypt number is_digest same unlocked = record {
    right = subst (λ (x : Option Encryption). IsRightBy m x e.digest (Some key)) (sym crypt)
        (subst (λ (x : Option ℕ). IsRightBy m (Some c) x (Some key)) (sym number)
        (key, refl, (d, is_digest, unlocked.right)));
    told = λ image is.
        (let given : Some key ≡ key_of m d image pass =
        elim (unlocked.exact image (sym same ∙ is)) [
          | inl short ↦ absurd short
          | inr exact ↦ exact
        ] in
        subst (λ (x : Option Encryption).
        key_by m image pass x e.digest ≡ Some (used_by x (Some key))) (sym crypt)
        (subst (λ (x : Option ℕ). key_by m image pass (Some c) x ≡ Some key) (sym number)
        (ap (option_and_then (λ (d : Digest). key_of m d image pass)) is_digest ∙ sym given)));
  }

-- the digest that is known to be that of a segment is the one of this number
under_number : (m : Parts) (e : Extent) (n : ℕ) → e.digest ≡ Some n
    → (k : ℕ) × (d : Digest) × IsUnder m e k d → (d : Digest) × (value_at m.digests n ≡ Some d)
under_number m e n number (k, d, under) =
    let one : k ≡ n = (let e : Some k ≡ Some n = sym under.number ∙ number in cc) in
    (d, subst (λ (j : ℕ). value_at m.digests j ≡ Some d) one under.digest)

pub is_there : (m : Parts) (e : Extent) (n : ℕ) → e.digest ≡ Some n
    → (k : ℕ) × (d : Digest) × IsUnder m e k d → IsSome (value_at m.digests n)
is_there m e n number under =
    let (d, there) = under_number m e n number under in
    subst (λ (x : Option Digest). IsSome x) (sym there) refl

module _ (m : Parts) (pass : List ℕ) (e : Extent) (n : ℕ) (crypt : IsSome e.encryption)
    (number : e.digest ≡ Some n) (under : (k : ℕ) × (d : Digest) × IsUnder m e k d)
    (old new : Device) where
  pub crypt_side : (key : List ℕ)
      → ((d : Digest) → value_at m.digests n ≡ Some d → IsUnlocked m d pass old new (Ok key))
      → IsSideKey m pass old.values e (Some key)
  crypt_side key unlocked = by_case e.encryption refl
    where
      by_case : (x : Option Encryption) → e.encryption ≡ x
          → IsSideKey m pass old.values e (Some key)
      by_case None is =
          absurd (let e : false ≡ true = subst (λ (x : Option Encryption). IsSome x) is crypt in cc)
      by_case (Some c) is =
          let (d, there) = under_number m e n number under in
          key_side m pass old.values e c n d old new key is number there refl (unlocked d there)

  pub no_side : (fault : SlotFault)
      → ((d : Digest) → value_at m.digests n ≡ Some d → IsUnlocked m d pass old new (Err fault))
      → HasNoSideKey m pass e old new fault
  no_side fault unlocked =
      let (d, there) = under_number m e n number under in
      record {
        number = n;
        digest = d;
        crypt = crypt;
        wanted = number;
        is_digest = there;
        answered = unlocked d there;
      }

-- ---- behind reads
pub sizes_kept : (sizes : Sizes) (old new : Device) → KeepsBytes old new → HasSizes sizes old
    → HasSizes sizes new
sizes_kept sizes old new kept has = record {
  atom = has.atom ∙ sym kept.size;
  header = rw kept.atoms has.header;
  main = rw kept.atoms has.main;
  all = has.all ∙ sym kept.atoms;
  alone = has.alone;
}

pub side_kept : (m : Parts) (pass : List ℕ) (e : Extent) (key : Option (List ℕ))
    (old new : Device) → KeepsBytes old new → IsSideKey m pass new.values e key
    → IsSideKey m pass old.values e key
side_kept m pass e key old new kept is =
    subst (λ (held : Option (List ℕ)). IsSideKey m pass held e key) kept.values is
