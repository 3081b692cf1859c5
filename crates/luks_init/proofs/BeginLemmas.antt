-- What a conversion begins with, and why none does.
use Rattle.std.proofs.Common.{◌≡◌, ◌⊎◌, inl, inr, ℕ, ◌-◌, ◌<◌, ◌||◌, Bool, true, false, List, [], length}
use Rattle.std.proofs.Common.{Option, Some, None, Result, Ok, Err, refl, subst, cond}
use Rattle.std.specs.Option.{IsSomeAnd, is_some}
use Rattle.std.specs.Prelude.{nat_lt, not}
use Rattle.std.specs.Result.{IfOk}
use Rattle.base_terms.specs.declared.disk_sizes.Sizes.{Sizes}
use Rattle.luks_init.proofs.StartLemmas.{may-start}
use Rattle.luks_init.specs.Begins.{MayBegin, first_unready, unready_by}
use Rattle.luks_init.specs.Faults.{IsTooLong, IsUnbegun}
use Rattle.luks_init.specs.Metadata.{HasBegun, IsBeginning, text_len, wish_for}
use Rattle.luks_init.specs.Places.{AreLowest, IsNoRoom}
use Rattle.luks_init.specs.Wishes.{IsWish}
use Rattle.luks_init.specs.declared.fault.InitFault.{InitFault}
use Rattle.luks_init.specs.declared.fault.InitFault.TheVariants as faults
use Rattle.luks_init.specs.declared.places.Places.{Places}
use Rattle.luks_init.specs.declared.wish.Wish.{Wish}
use Rattle.luks_meta.specs.declared.meta.Parts.{Parts}
use Rattle.luks_slots.specs.KeyMaking.Digests.{digest_for}
use Rattle.luks_slots.specs.KeyMaking.Drawings.{Draw}
use Rattle.luks_rules.specs.Idles.{idle_of}
use Rattle.luks_rules.specs.States.{IsSound}
use Rattle.luks_rules.specs.declared.idle.Idle.{Idle}
use Rattle.luks_slots.specs.Unlocks.{matches}
use Rattle.reenc_meta.specs.Starts.{IsStarted, IsStartedFrom}
use Rattle.sector_disk.specs.Geometry.{IsAtom}
use Rattle.std.specs.declared.alloc.AllocError.{AllocError}

-- ---- a volume that is ready
unready-crypt : (crypt long : Bool) (n : ℕ)
    → cond (not crypt) (Some faults.Linear) (cond long (Some (faults.Passphrase n)) None) ≡ None
    → crypt ≡ true
unready-crypt true long n is = refl
unready-crypt false long n is = absurd cc

pub ready-begins : (o : Option Idle) (pass : List ℕ) → unready_by o pass ≡ None → MayBegin o
unfolding unready_by
ready-begins None pass is = absurd cc
ready-begins (Some v) pass is =
    unready-crypt (is_some v.segment.encryption)
    (nat_lt (length pass) 1 || nat_lt 512 (length pass)) (length pass) is

-- ---- the metadata
module _ (m : Parts) (sizes : Sizes) (w : Wish) (d : Draw) (p : Places) (sound : IsSound m sizes)
    (known : IsAtom sizes.atom) (wish : IsWish w sizes.atom) (placed : AreLowest m sizes.atom w p)
    (own : matches (digest_for [] [] d.key d.digest_salt) d.key ≡ true) where
  same-digest : (keyslots segments : List ℕ)
      → matches (digest_for keyslots segments d.key d.digest_salt) d.key ≡ true
  unfolding matches digest_for
  same-digest keyslots segments = own

  begins : (o : Option Idle) (next : Parts) → idle_of m sizes ≡ o → MayBegin o
      → IsSomeAnd o (λ v. IsStarted sizes (wish_for m.config sizes.atom w d p) m v next)
      → IsSomeAnd o (λ v. IsBeginning m sizes w d p v next)
  begins None next is may started = may
  begins (Some v) next is may started =
      let start = may-start m sizes w d p v sound known wish is may placed in
      record {
        is = started.is;
        valid = started.valid start;
        progress = started.progress start;
        digest = same-digest;
      }

  pub has-begun : MayBegin (idle_of m sizes) → (r : Result Parts AllocError)
      → IfOk r (IsStartedFrom sizes (wish_for m.config sizes.atom w d p) m)
      → IfOk r (HasBegun m sizes w d p)
  has-begun may (Ok next) started = begins (idle_of m sizes) next refl may started
  has-begun may (Err e) started = tt

-- ---- why none begins
unready-fault : (crypt long : Bool) (n : ℕ) (fault : InitFault)
    → cond (not crypt) (Some faults.Linear) (cond long (Some (faults.Passphrase n)) None)
    ≡ Some fault → (fault ≡ faults.Linear) ⊎ (fault ≡ faults.Passphrase n)
unready-fault true true n fault is = inr cc
unready-fault true false n fault is = absurd cc
unready-fault false long n fault is = inl cc

unready-other : (o : Option Idle) (pass : List ℕ) (fault : InitFault)
    → unready_by o pass ≡ Some fault
    → (fault ≡ faults.InProgress)
    ⊎ ((fault ≡ faults.Linear) ⊎ (fault ≡ faults.Passphrase (length pass)))
unfolding unready_by
unready-other None pass fault is = inl cc
unready-other (Some v) pass fault is =
    inr (unready-fault (is_some v.segment.encryption)
    (nat_lt (length pass) 1 || nat_lt 512 (length pass)) (length pass) fault is)

module _ (m : Parts) (sizes : Sizes) (w : Wish) (pass : List ℕ) (d : Draw) where
  pub unready : (fault : InitFault) → first_unready m sizes pass ≡ Some fault
      → IsUnbegun m sizes w pass d fault
  unready faults.Memory is = tt
  unready faults.InProgress is = is
  unready faults.Linear is = is
  unready (faults.Passphrase len) is = is
  unready (faults.Area wanted gap) is =
      absurd (elim (unready-other (idle_of m sizes) pass (faults.Area wanted gap) is) [
        | inl e ↦ cc
        | inr (inl e) ↦ cc
        | inr (inr e) ↦ cc
      ])
  unready (faults.Json len limit) is =
      absurd (elim (unready-other (idle_of m sizes) pass (faults.Json len limit) is) [
        | inl e ↦ cc
        | inr (inl e) ↦ cc
        | inr (inr e) ↦ cc
      ])

  pub no-room : (fault : InitFault) → first_unready m sizes pass ≡ None
      → IsNoRoom m sizes.atom w fault → IsUnbegun m sizes w pass d fault
  no-room faults.Memory ready none = tt
  no-room faults.InProgress ready (inl none) = absurd none
  no-room faults.InProgress ready (inr (place, lowest, none)) = absurd none
  no-room faults.Linear ready (inl none) = absurd none
  no-room faults.Linear ready (inr (place, lowest, none)) = absurd none
  no-room (faults.Passphrase len) ready (inl none) = absurd none
  no-room (faults.Passphrase len) ready (inr (place, lowest, none)) = absurd none
  no-room (faults.Area wanted gap) ready none = (ready, none)
  no-room (faults.Json len limit) ready (inl none) = absurd none
  no-room (faults.Json len limit) ready (inr (place, lowest, none)) = absurd none

  pub too-long : (p : Places) (next : Parts) (len limit : ℕ)
      → first_unready m sizes pass ≡ None → AreLowest m sizes.atom w p
      → HasBegun m sizes w d p next → len ≡ text_len next → limit ≡ m.config.json_size - 1
      → limit < len → IsUnbegun m sizes w pass d (faults.Json len limit)
  too-long p next len limit ready placed begun text room longer =
      (ready, by (idle_of m sizes) begun)
    where
      by : (o : Option Idle) → IsSomeAnd o (λ v. IsBeginning m sizes w d p v next)
          → IsSomeAnd o (λ v. (q : Places) × IsTooLong m sizes w d v q len limit)
      by None begun = begun
      by (Some v) begun = (
        p,
        record {
          places = placed;
          text = subst (λ (x : Parts). len ≡ text_len x) begun.is text;
          room = room;
          longer = longer;
        },
      )
