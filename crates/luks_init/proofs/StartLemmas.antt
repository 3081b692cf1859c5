-- A header has room for a conversion whose areas lie at the lowest places.
use Rattle.std.proofs.Common.{◌≡◌, ◌∙◌, ℕ, ◌*◌, ◌%◌, ◌≤◌, ◌&&◌, ◌++◌, Bool, true, false}
use Rattle.std.proofs.Common.{append-nil, [], ◌∷◌, Some, None, refl, sym, ap, subst, arith}
use Rattle.std.proofs.lemmas.List.Elements.{All-cons, All-nil, All-weaker}
use Rattle.std.specs.List.{All}
use Rattle.std.specs.Option.{IsSome, is_some}
use Rattle.base_terms.specs.declared.disk_sizes.Sizes.{Sizes}
use Rattle.luks_init.proofs.ApartLemmas.{two-apart}
use Rattle.luks_init.proofs.SizeLemmas.{guard-room, guard-whole, slot-whole}
use Rattle.luks_init.specs.Metadata.{wish_for, wish_with}
use Rattle.luks_init.specs.Places.{AreLowest, guard_area, slot_area}
use Rattle.luks_init.specs.Wishes.{IsWish, resilience_for}
use Rattle.luks_init.specs.declared.places.Places.{Places}
use Rattle.luks_init.specs.declared.wish.Guard.{Guard}
use Rattle.luks_init.specs.declared.wish.Guard.TheVariants.{Journal, Checksum}
use Rattle.luks_init.specs.declared.wish.Wish.{Wish}
use Rattle.luks_meta.specs.declared.meta.Parts.{Parts}
use Rattle.luks_meta.specs.declared.reencrypt.Direction.{Direction}
use Rattle.luks_slots.specs.KeyMaking.Drawings.{Draw}
use Rattle.luks_rules.specs.Areas.{areas_begin, areas_end, areas_of, main_bytes}
use Rattle.luks_rules.specs.Idles.{idle_of}
use Rattle.luks_rules.specs.Overlaps.{TwoShare}
use Rattle.luks_rules.specs.Plain.{IsWithin}
use Rattle.luks_rules.specs.Segments.{in_progress}
use Rattle.luks_rules.specs.States.{IsIdle, IsSound}
use Rattle.luks_rules.specs.declared.areas.Area.{Area}
use Rattle.luks_rules.specs.declared.idle.Idle.{Idle}
use Rattle.luks_slots.specs.Gaps.{IsApart}
use Rattle.luks_slots.specs.NewSlots.{slot_for}
use Rattle.reenc_meta.specs.Wishes.{HaveGaps, IsSafe, MayStart, config_by, new_areas, offset_by}
use Rattle.reenc_meta.specs.declared.wish.Wish.{Wish as MetaWish}
use Rattle.sector_disk.specs.Geometry.{IsAtom}

-- ---- the volume
pub its-idle : (m : Parts) (sizes : Sizes) (v : Idle) → IsSound m sizes → idle_of m sizes ≡ Some v
    → IsIdle m sizes v
its-idle m sizes v sound there = by-case (in_progress m.config) refl
  where
    by-case : (b : Bool) → in_progress m.config ≡ b → IsIdle m sizes v
    by-case true busy =
        absurd (let e : None ≡ Some v = sym (sound.busy busy).0 ∙ there in cc)
    by-case false idle =
        let (u, is, facts) = (sound.idle idle).1 in
        let same : u ≡ v = (let e : Some u ≡ Some v = sym is ∙ there in cc) in
        subst (λ (x : Idle). IsIdle m sizes x) same facts

-- ---- what guards zones shifts nothing
stays : (g : Guard) (direction : Direction) (offset atom : ℕ)
    → offset_by direction (resilience_for g atom) offset ≡ offset
stays Journal direction offset atom = refl
stays Checksum direction offset atom = refl

safe-by : (g : Guard) (direction : Direction) (atom offset bytes last : ℕ)
    → IsSafe atom direction (resilience_for g atom) offset bytes last
safe-by Journal direction atom offset bytes last = tt
safe-by Checksum direction atom offset bytes last = refl

module _ (m : Parts) (sizes : Sizes) (w : Wish) (d : Draw) (p : Places) (v : Idle)
    (sound : IsSound m sizes) (known : IsAtom sizes.atom) (wish : IsWish w sizes.atom)
    (there : idle_of m sizes ≡ Some v) (crypt : IsSome v.segment.encryption)
    (placed : AreLowest m sizes.atom w p) where
  abbrev told : MetaWish
  told = wish_for m.config sizes.atom w d p

  -- ---- the header's sizes stay
  same-begin : areas_begin (config_by told m.config) ≡ areas_begin m.config
  unfolding wish_with config_by
  same-begin = omega arith

  same-end : areas_end (config_by told m.config) ≡ areas_end m.config
  unfolding wish_with config_by
  same-end = omega arith

  -- ---- the two areas
  areas-are : new_areas told ≡ slot_area w p.key ∷ guard_area w sizes.atom p.guard ∷ []
  unfolding wish_with slot_for
  areas-are = refl

  apart : TwoShare (new_areas told ++ areas_of m.keyslots) → ⊥
  apart share =
      two-apart (slot_area w p.key) (guard_area w sizes.atom p.guard) (areas_of m.keyslots)
      (subst (All (IsApart p.key (slot_area w p.key).size)) (append-nil (areas_of m.keyslots))
      placed.key.free.apart)
      placed.guard.free.apart sound.apart
      (subst (λ areas. TwoShare (areas ++ areas_of m.keyslots)) areas-are share)

  is-within : (a : Area) → IsWithin m.config a → IsWithin (config_by told m.config) a
  is-within a within =
      let begin = same-begin in
      let end = same-end in
      let from = within.0 in
      let to = within.1 in
      (omega (arith, begin, from), omega (arith, end, to))

  within : All (IsWithin (config_by told m.config)) (new_areas told ++ areas_of m.keyslots)
  within =
      subst (λ areas. All (IsWithin (config_by told m.config)) (areas ++ areas_of m.keyslots))
      (sym areas-are)
      (All-weaker (IsWithin m.config) (IsWithin (config_by told m.config)) is-within
      (slot_area w p.key ∷ guard_area w sizes.atom p.guard ∷ areas_of m.keyslots)
      (All-cons (IsWithin m.config) (slot_area w p.key)
      (guard_area w sizes.atom p.guard ∷ areas_of m.keyslots)
      (placed.key.free.behind, placed.key.free.before)
      (All-cons (IsWithin m.config) (guard_area w sizes.atom p.guard) (areas_of m.keyslots)
      (placed.guard.free.behind, placed.guard.free.before) sound.within.areas)))

  abbrev IsWhole : Area → Type 0
  IsWhole a = (a.offset % sizes.atom ≡ 0) × (a.size % sizes.atom ≡ 0)

  whole : All IsWhole (new_areas told)
  whole =
      subst (All IsWhole) (sym areas-are)
      (All-cons IsWhole (slot_area w p.key) (guard_area w sizes.atom p.guard ∷ [])
      (placed.key.free.whole, slot-whole w.key_size sizes.atom known)
      (All-cons IsWhole (guard_area w sizes.atom p.guard) []
      (placed.guard.free.whole, guard-whole w sizes.atom known) (All-nil IsWhole)))

  in-front : sizes.detached ≡ false → areas_end (config_by told m.config) ≤ v.segment.offset
  in-front alone =
      let end = same-end in
      let behind = (its-idle m sizes v sound there).placed.behind alone in
      omega (arith, end, behind)

  gaps : HaveGaps m sizes told v.segment.offset
  unfolding wish_with
  gaps = record {
    whole = whole;
    apart = apart;
    within = within;
    old = in-front;
    new = λ alone. subst (λ n. areas_end (config_by told m.config) ≤ n)
        (sym (stays w.resilience w.direction v.segment.offset sizes.atom)) (in-front alone);
    detached = λ own. (let end = same-end in
        let room = sound.within.detached own in omega (arith, end, room));
  }

  pub may-start : MayStart m sizes told v
  unfolding wish_with
  may-start = record {
    some = (its-idle m sizes v sound there).some;
    mode = ap (λ b. b && true) crypt;
    linear = λ none. absurd (let e : true ≡ false = sym crypt ∙ ap is_some none in cc);
    key = refl;
    sectors = wish.whole_sectors;
    gaps = gaps;
    safe = safe-by w.resilience w.direction sizes.atom v.segment.offset
        (v.blocks * sizes.atom) (main_bytes sizes);
    room = guard-room w sizes.atom known wish;
  }
