-- The key of a volume of which nothing is being converted.
use Rattle.std.proofs.Common.{◌≡◌, ◌∙◌, inl, inr, ℕ, Bool, true, false, List, Option, Some, None}
use Rattle.std.proofs.Common.{Ok, Err, ap, sym, subst, refl, IsSome}
use Rattle.std.specs.Prelude.{option_and_then}
use Rattle.base_terms.specs.declared.disk_sizes.Sizes.{Sizes}
use Rattle.luks_meta.specs.declared.digest.Digest.{Digest}
use Rattle.luks_meta.specs.declared.meta.Parts.{Parts}
use Rattle.luks_meta.specs.declared.segment.Encryption.{Encryption}
use Rattle.luks_rules.specs.Idles.{idle_of}
use Rattle.luks_rules.specs.References.{value_at}
use Rattle.luks_rules.specs.Segments.{in_progress}
use Rattle.luks_rules.specs.States.{IsIdle, IsSound, IsUnder}
use Rattle.luks_rules.specs.declared.idle.Idle.{Idle}
use Rattle.luks_slots.specs.Unlocks.{IsUnlocked, key_of}
use Rattle.reenc_recovery.specs.Keys.{key_by, used_by}
use Rattle.luks_slots.specs.declared.fault.SlotFault.{SlotFault}
use Rattle.sector_disk.specs.Devices.{Device}
use Rattle.volume_opening.specs.Openings.{IsRightBy, IsKeyFound, IsTried}
use Rattle.volume_opening.specs.Refusals.{HasNoKey}

-- ---- whether something is being converted
module _ (m : Parts) (sizes : Sizes) (sound : IsSound m sizes) where
  pub none_idle : idle_of m sizes ≡ None → in_progress m.config ≡ true
  none_idle none = by_case (in_progress m.config) refl
    where
      by_case : (b : Bool) → in_progress m.config ≡ b → in_progress m.config ≡ true
      by_case true is = is
      by_case false is =
          absurd (let (v, there, idle) = (sound.idle is).1 in
          let e : None ≡ Some v = sym none ∙ there in cc)

  pub one_idle : (v : Idle) → idle_of m sizes ≡ Some v → in_progress m.config ≡ false
  one_idle v there = by_case (in_progress m.config) refl
    where
      by_case : (b : Bool) → in_progress m.config ≡ b → in_progress m.config ≡ false
      by_case false is = is
      by_case true is =
          absurd (let e : None ≡ Some v = sym (sound.busy is).0 ∙ there in cc)

  pub its_idle : (v : Idle) → idle_of m sizes ≡ Some v → IsIdle m sizes v
  its_idle v there =
      let (w, is, idle) = (sound.idle (one_idle v there)).1 in
      let same : w ≡ v = (let e : Some w ≡ Some v = sym is ∙ there in cc) in
      subst (λ (x : Idle). IsIdle m sizes x) same idle

  -- the digest of its segment, where that is encrypted
  pub its_digest : (v : Idle) → idle_of m sizes ≡ Some v → IsSome v.segment.encryption →
      (n : ℕ) × (d : Digest) × IsUnder m v.segment n d
  its_digest v there crypt = (its_idle v there).placed.digest crypt

-- ---- the key that was found
module _ (m : Parts) (sizes : Sizes) (pass : List ℕ) (held : Option (List ℕ)) (v : Idle)
    (there : idle_of m sizes ≡ Some v) (tried : IsTried pass) (sound : IsSound m sizes) where
  pub linear_found : v.segment.encryption ≡ None → IsKeyFound m sizes pass held None
  linear_found linear = record {
    tried = tried;
    sound = sound;
    idle = v;
    is = there;
    key_is = subst (λ (e : Option Encryption). IsRightBy m e v.segment.digest None) (sym linear) refl;
    told = λ image is.
        subst (λ (e : Option Encryption).
        key_by m image pass e v.segment.digest ≡ Some (used_by e None)) (sym linear) refl;
  }

  pub key_found : (e : Encryption) (n : ℕ) (d : Digest) (old new : Device) (key : List ℕ) →
      v.segment.encryption ≡ Some e → v.segment.digest ≡ Some n → value_at m.digests n ≡ Some d →
      held ≡ old.values → IsUnlocked m d pass old new (Ok key) →
      IsKeyFound m sizes pass held (Some key)
  key_found e n d old new key crypt number is_digest same unlocked = record {
    tried = tried;
    sound = sound;
    idle = v;
    is = there;
    key_is = subst (λ (x : Option Encryption). IsRightBy m x v.segment.digest (Some key)) (sym crypt)
        (subst (λ (x : Option ℕ). IsRightBy m (Some e) x (Some key)) (sym number)
        (key, refl, (d, is_digest, unlocked.right)));
    told = λ image is.
        (let given : Some key ≡ key_of m d image pass =
        elim (unlocked.exact image (sym same ∙ is)) [
          | inl short ↦ absurd short
          | inr exact ↦ exact
        ] in
        subst (λ (x : Option Encryption).
        key_by m image pass x v.segment.digest ≡ Some (used_by x (Some key))) (sym crypt)
        (subst (λ (x : Option ℕ). key_by m image pass (Some e) x ≡ Some key) (sym number)
        (ap (option_and_then (λ (d : Digest). key_of m d image pass)) is_digest ∙ sym given)));
  }

  pub no_key : (n : ℕ) (d : Digest) (old new : Device) (fault : SlotFault) →
      IsSome v.segment.encryption → v.segment.digest ≡ Some n → value_at m.digests n ≡ Some d →
      IsUnlocked m d pass old new (Err fault) → HasNoKey m sizes pass old new fault
  no_key n d old new fault crypt number is_digest unlocked = record {
    tried = tried;
    idle = v;
    is = there;
    number = n;
    digest = d;
    crypt = crypt;
    wanted = number;
    is_digest = is_digest;
    answered = unlocked;
  }

  pub crypt_found : (n : ℕ) (old new : Device) (key : List ℕ) →
      IsSome v.segment.encryption → v.segment.digest ≡ Some n → held ≡ old.values →
      ((d : Digest) → value_at m.digests n ≡ Some d → IsUnlocked m d pass old new (Ok key)) →
      IsKeyFound m sizes pass held (Some key)
  crypt_found n old new key crypt number same unlocked = by_case v.segment.encryption refl
    where
      by_case : (x : Option Encryption) → v.segment.encryption ≡ x →
          IsKeyFound m sizes pass held (Some key)
      by_case None is =
          absurd (let e : false ≡ true = subst (λ (x : Option Encryption). IsSome x) is crypt in cc)
      by_case (Some e) is =
          let (k, d, under) = its_digest m sizes sound v there crypt in
          let one : k ≡ n = (let e : Some k ≡ Some n = sym under.number ∙ number in cc) in
          let there_is = subst (λ (j : ℕ). value_at m.digests j ≡ Some d) one under.digest in
          key_found e n d old new key is number there_is same (unlocked d there_is)
