-- What follows of what a conversion begins with.
use Rattle.std.proofs.Common.{◌≡◌, ◌∙◌, ℕ, ◌≤◌, Bool, true, false, List, [], ◌∷◌, length, take}
use Rattle.std.proofs.Common.{Option, Some, None, refl, sym, ap, subst, arith}
use Rattle.std.proofs.Common.{if◌then◌else◌}
use Rattle.std.specs.Option.{IsSome, IsSomeAnd}
use Rattle.base_terms.specs.declared.disk_sizes.Sizes.{Sizes}
use Rattle.luks_init.proofs.BeginLemmas.{ready-begins}
use Rattle.luks_init.specs.Begins.{IsBegun}
use Rattle.luks_init.specs.Laws.{MayStartThere}
use Rattle.luks_init.specs.Metadata.{IsBeginning, keyslot_for, wish_for, wish_with}
use Rattle.luks_init.specs.Wishes.{IsWish}
use Rattle.luks_init.specs.declared.beginning.Begun.{Begun}
use Rattle.luks_init.specs.declared.places.Places.{Places}
use Rattle.luks_init.specs.declared.wish.Wish.{Wish}
use Rattle.luks_meta.specs.declared.config.Config.{Config}
use Rattle.luks_meta.specs.declared.names.Cipher.{Cipher}
use Rattle.luks_meta.specs.declared.digest.Digest.{Digest}
use Rattle.luks_meta.specs.declared.keyslot.Luks2.{Luks2}
use Rattle.luks_meta.specs.declared.meta.Parts.{Parts}
use Rattle.luks_meta.specs.declared.reencrypt.Mode.TheVariants.{Reencrypt}
use Rattle.luks_meta.specs.declared.segment.Segment.{Segment}
use Rattle.luks_slots.specs.KeyMaking.Digests.{digest_for}
use Rattle.luks_slots.specs.KeyMaking.Drawings.{AreDrawn, Draw}
use Rattle.luks_rules.specs.Idles.{idle_from, idle_of}
use Rattle.luks_rules.specs.Rules.{first_fault}
use Rattle.luks_rules.specs.Segments.{in_progress}
use Rattle.luks_rules.specs.States.{IsSound}
use Rattle.luks_rules.specs.declared.idle.Idle.{Idle}
use Rattle.luks_slots.specs.Functions.{named_cipher}
use Rattle.luks_slots.specs.Gaps.{IsFree}
use Rattle.luks_slots.specs.NewSlots.{area_len, salt_len, slot_for}
use Rattle.reenc_meta.specs.Starts.{IsStarted, started_by, started_from}
use Rattle.reenc_meta.specs.Wishes.{config_by}
use Rattle.reenc_meta.specs.declared.wish.Wish.{Wish as MetaWish}
use Rattle.sector_cipher.specs.Names.{IsKeyLength}
use Rattle.sector_disk.specs.Geometry.{IsAtom}
use Rattle.image_laws.specs.Started.Starting.{IsRekeyed}

some_of : {X : Type 0} (P : X → Type 0) (o : Option X) → IsSomeAnd o P
    → (x : X) × (o ≡ Some x) × P x
some_of P None is = absurd is
some_of P (Some x) is = (x, refl, is)

at_some : {X : Type 0} (P : X → Type 0) (o : Option X) (x : X) → o ≡ Some x → IsSomeAnd o P → P x
at_some {X} P o x is has = subst (λ (v : Option X). IsSomeAnd v P) is has

-- ---- the sizes that the next metadata state
idle_segments : (sizes : Sizes) (digests : List (ℕ × Digest)) (v : Idle) (busy : Bool)
    (segments : List (ℕ × Segment))
    → (if busy then None else idle_from sizes digests segments) ≡ Some v → segments ≡ [] → ⊥
idle_segments sizes digests v true segments is none = cc
idle_segments sizes digests v false [] is none = cc
idle_segments sizes digests v false (s ∷ more) is none = cc

some_segment : (m : Parts) (sizes : Sizes) (v : Idle) → idle_of m sizes ≡ Some v
    → m.segments ≡ [] → ⊥
unfolding idle_of
some_segment m sizes v is =
    idle_segments sizes m.digests v (in_progress m.config) m.segments is

config_from : (atom : ℕ) (w : MetaWish) (m : Parts) (v : Idle) (segments : List (ℕ × Segment))
    → (segments ≡ [] → ⊥) → (started_from atom w m v segments).config ≡ config_by w m.config
unfolding started_by
config_from atom w m v [] some = absurd (some refl)
config_from atom w m v (s ∷ more) some = refl

json_size_of : (c : Config) (atom : ℕ) (w : Wish) (p : Places) (key : Luks2 × Digest)
    → (config_by (wish_with c atom w p key) c).json_size ≡ c.json_size
unfolding config_by wish_with
json_size_of c atom w p key = omega arith

-- ---- what is wished of the metadata
mode_of : (c : Config) (atom : ℕ) (w : Wish) (p : Places) (key : Luks2 × Digest)
    → (wish_with c atom w p key).mode ≡ Reencrypt
unfolding wish_with
mode_of c atom w p key = refl

key_of_wish : (c : Config) (atom : ℕ) (w : Wish) (p : Places) (key : Luks2 × Digest)
    → (wish_with c atom w p key).key ≡ Some key
unfolding wish_with
key_of_wish c atom w p key = refl

cipher_of : (c : Config) (atom : ℕ) (w : Wish) (p : Places) (key : Luks2 × Digest)
    → (wish_with c atom w p key).encryption ≡ w.cipher
unfolding wish_with
cipher_of c atom w p key = refl

offset_of : (offset size rounds : ℕ) (salt : List ℕ)
    → (slot_for offset size rounds salt).area.offset ≡ offset
unfolding slot_for
offset_of offset size rounds salt = refl

size_of : (offset size rounds : ℕ) (salt : List ℕ)
    → (slot_for offset size rounds salt).area.size ≡ area_len size
unfolding slot_for
size_of offset size rounds salt = refl

module _ (m : Parts) (sizes : Sizes) (w : Wish) (pass : List ℕ) (d : Draw) (b : Begun)
    (is : IsBegun m sizes w pass d b) where
  -- the volume of which nothing is being converted
  pub ready : (v : Idle) × (idle_of m sizes ≡ Some v) × IsSome v.segment.encryption
  ready =
      some_of (λ (v : Idle). IsSome v.segment.encryption) (idle_of m sizes)
      (ready-begins (idle_of m sizes) pass is.ready)

  abbrev pub volume : Idle
  volume = ready.0

  pub idle : idle_of m sizes ≡ Some volume
  idle = ready.1

  pub crypt : IsSome volume.segment.encryption
  crypt = ready.2

  abbrev pub wished : MetaWish
  wished = wish_for m.config sizes.atom w d b.places

  pub beginning : IsBeginning m sizes w d b.places volume b.meta
  beginning =
      at_some (λ (v : Idle). IsBeginning m sizes w d b.places v b.meta) (idle_of m sizes) volume
      idle is.meta

  pub rules : first_fault b.meta sizes ≡ None
  rules = beginning.valid

  pub same_json : b.meta.config.json_size ≡ m.config.json_size
  same_json =
      ap (λ (n : Parts). n.config.json_size) beginning.is
      ∙ ap (λ (c : Config). c.json_size)
      (config_from sizes.atom wished m volume m.segments (some_segment m sizes volume idle))
      ∙ json_size_of m.config sizes.atom w b.places
      (keyslot_for w d b.places.key, digest_for [] [] d.key d.digest_salt)

  pub started_so : (next : Parts) → next ≡ b.meta → IsStarted sizes wished m volume next
  started_so next same =
      subst (λ (n : Parts). IsStarted sizes wished m volume n) (sym same)
      (record {
        is = beginning.is;
        valid = λ may. beginning.valid;
        progress = λ may. beginning.progress;
      })

  -- ---- its new keyslot
  pub area_at : b.slot.keyslot.area.offset ≡ b.places.key
  area_at =
      ap (λ (k : Luks2). k.area.offset) is.slot.slot
      ∙ offset_of b.places.key (length d.key) w.iterations (take salt_len d.slot)

  module _ (drawn : AreDrawn w.key_size d) where
    pub area_within : length b.slot.area ≤ area_len (length d.key)
    area_within =
        subst (λ (n : ℕ). length b.slot.area ≤ n)
        (ap (λ (k : Luks2). k.area.size) is.slot.slot
        ∙ size_of b.places.key (length d.key) w.iterations (take salt_len d.slot))
        is.slot.within

    pub free : IsFree m [] sizes.atom (area_len (length d.key)) b.places.key
    free =
        subst (λ (n : ℕ). IsFree m [] sizes.atom (area_len n) b.places.key) (sym drawn.key)
        is.places.key.free

    slot_is : keyslot_for w d b.places.key ≡ b.slot.keyslot
    slot_is =
        ap (λ n. slot_for b.places.key n w.iterations (take salt_len d.slot)) (sym drawn.key)
        ∙ sym is.slot.slot

    pub rekeyed : MayStartThere → IsSound m sizes → IsAtom sizes.atom → IsWish w sizes.atom
        → IsRekeyed m sizes volume wished pass d.key [] b.places.key b.slot
    rekeyed may sound known wish =
        let digest = digest_for [] [] d.key d.digest_salt in
        let key : Luks2 × Digest = (keyslot_for w d b.places.key, digest) in
        record {
          idle = idle;
          mode = mode_of m.config sizes.atom w b.places key;
          room = may m sizes w d b.places volume sound known wish idle crypt is.places;
          digest = digest;
          wished = key_of_wish m.config sizes.atom w b.places key
              ∙ ap (λ (k : Luks2). Some (k, digest)) slot_is;
          same = beginning.digest [] [];
          long = subst (λ (e : Cipher). IsKeyLength (named_cipher e) (length d.key))
              (sym (cipher_of m.config sizes.atom w b.places key))
              (subst (λ (n : ℕ). IsKeyLength (named_cipher w.cipher) n) (sym drawn.key) wish.key);
          rounds = w.iterations;
          drawn = d.slot;
          made = is.slot;
          free = free;
        }
