-- What keys are read from stands in an image where it stands in the bytes from which a zone is written
-- again: in front of the volume's blocks.
use Rattle.std.proofs.Common.{◌≡◌, ◌⊎◌, inl, inr, ℕ, ◌+◌, ◌*◌, ◌%◌, ◌<◌, ◌≤◌, List, length, Some}
use Rattle.std.proofs.Common.{◌∙◌, ap, arith}
use Rattle.std.proofs.Math.Nat.{le_of_mul-le-mul_right, mul-le-mul_right, mul-mod_left}
use Rattle.std.proofs.lemmas.Bool.{cases_lt}
use Rattle.std.proofs.lemmas.List.Elements.{All-weaker}
use Rattle.std.specs.List.{All}
use Rattle.crash_laws.specs.HeaderAreas.Headers.{Layout}
use Rattle.sector_disk.specs.DiskViews.Views.{IsOutside}
use Rattle.crash_laws.specs.HotZones.Zones.{Hotzone}
use Rattle.luks_rules.specs.Areas.{areas_begin, areas_of}
use Rattle.luks_rules.specs.Plain.{IsWithin}
use Rattle.luks_rules.specs.declared.areas.Area.{Area}
use Rattle.luks_rules.specs.declared.shape.Progress.{Progress}
use Rattle.luks_rules.specs.Shapes.{progress_of}
use Rattle.luks_rules.specs.States.{IsSound}
use Rattle.luks_slots.proofs.ReadyLemmas.{IsWhole}
use Rattle.luks_slots.specs.Gaps.{IsApart}
use Rattle.luks_store.specs.Loads.{IsStored}
use Rattle.luks_store.specs.declared.loaded.Stored.{Stored}
use Rattle.reenc_meta.specs.Placements.{place_of}
use Rattle.sector_disk.specs.Geometry.{IsAtom}
use Rattle.image_laws.proofs.Started.AgreeLemmas.{IsReadAlike, all-alike}
use Rattle.image_laws.proofs.Started.AtomLemmas.{atoms-agree}
use Rattle.image_laws.proofs.Started.KeyLemmas.{among-areas}
use Rattle.image_laws.specs.Started.Gaps.{AgreeBut, key_areas}
use Rattle.hotzone.proofs.ZoneEvents.GroundLemmas.{areas-before}
use Rattle.image_laws.proofs.Led.BytesLemmas.{HasRest}

-- whole atoms
whole : (n atom : ℕ) → 0 < atom → n * atom % atom ≡ 0
whole n atom some = mul-mod_left n atom

-- where an atom is told by its byte
outside-by : (atom own count place : ℕ) → 0 < atom
    → (place * atom < own * atom) ⊎ (own * atom + count * atom ≤ place * atom)
    → IsOutside own count place
outside-by atom own count place some (inl before) =
    inl (lt_of_mul-lt place own atom before)
  where
    lt_of_mul-lt : (a b n : ℕ) → a * n < b * n → a < b
    lt_of_mul-lt a b n less =
        elim (cases_lt a b) as (λ _. a < b) [
          | inl below ↦ below
          | inr from ↦ (let more = mul-le-mul_right n from in absurd (omega (arith, less, more)))
        ]
outside-by atom own count place some (inr behind) =
    let sum : (own + count) * atom ≡ own * atom + count * atom = omega arith in
    inr (le_of_mul-le-mul_right (omega (arith, behind, sum)) some)

module _ (loaded : Stored) (stored : IsStored loaded)
    (sound : IsSound loaded.valid.meta loaded.valid.sizes) (c : Progress)
    (known : progress_of loaded.valid.meta loaded.valid.sizes ≡ Some c)
    (atom_known : IsAtom loaded.valid.sizes.atom) (layout : Layout) (zone : Hotzone (List ℕ))
    (begin : areas_begin loaded.valid.meta.config
    ≡ (layout.second.start + layout.second.count) * loaded.valid.sizes.atom)
    (from : place_of loaded.valid.sizes c.old ≤ zone.own.start) (first now : List ℕ)
    (atoms : ℕ) (first_long : length first ≡ atoms * loaded.valid.sizes.atom)
    (now_long : length now ≡ atoms * loaded.valid.sizes.atom)
    (within : zone.own.start + zone.own.count ≤ atoms)
    (rest : HasRest loaded.valid.sizes layout zone first now) where
  abbrev atom : ℕ
  atom = loaded.valid.sizes.atom

  abbrev offset : ℕ
  offset = zone.own.start * atom

  abbrev size : ℕ
  size = zone.own.count * atom

  sum : offset + size ≡ (zone.own.start + zone.own.count) * atom
  sum = omega arith

  behind : layout.second.start + layout.second.count ≤ zone.own.start
  behind =
      let before = areas-before loaded stored sound c known in
      let more = mul-le-mul_right atom from in
      le_of_mul-le-mul_right (omega (arith, begin, before, more)) stored.atom

  agree : AgreeBut (areas_begin loaded.valid.meta.config) offset size first now
  agree =
      atoms-agree atom atoms (areas_begin loaded.valid.meta.config) offset size first now stored.atom
      (record {
        first_size = first_long;
        now_size = now_long;
        begin_whole = ap (λ n. n % atom) begin
            ∙ whole (layout.second.start + layout.second.count) atom stored.atom;
        offset_whole = whole zone.own.start atom stored.atom;
        size_whole = whole zone.own.count atom stored.atom;
        behind = (let more = mul-le-mul_right atom behind in omega (arith, begin, more));
        within = (let more = mul-le-mul_right atom within in omega (arith, more, sum));
        same = λ k below far out. rest k
            (le_of_mul-le-mul_right (omega (arith, begin, far)) stored.atom)
            (outside-by atom zone.own.start zone.own.count k stored.atom out);
      })

  -- each area of keyslots ends in front of the zone
  apart : All (IsApart offset size) (areas_of loaded.valid.meta.keyslots)
  apart =
      All-weaker (IsWithin loaded.valid.meta.config) (IsApart offset size)
      (λ (a : Area) lies.
      let before = areas-before loaded stored sound c known in
      let more = mul-le-mul_right atom from in
      let end = lies.1 in
      inr (inl (omega (arith, end, before, more))))
      (areas_of loaded.valid.meta.keyslots) sound.within.areas

  pub read-alike : All (IsReadAlike first now) (key_areas loaded.valid.meta.keyslots)
  read-alike =
      all-alike (areas_begin loaded.valid.meta.config) offset size first now agree atom
      (key_areas loaded.valid.meta.keyslots) atom_known
      (among-areas (λ (a : Area). areas_begin loaded.valid.meta.config ≤ a.offset)
      loaded.valid.meta.keyslots
      (All-weaker (IsWithin loaded.valid.meta.config)
      (λ (a : Area). areas_begin loaded.valid.meta.config ≤ a.offset) (λ a lies. lies.0)
      (areas_of loaded.valid.meta.keyslots) sound.within.areas))
      (among-areas (IsWhole atom) loaded.valid.meta.keyslots sound.atoms.areas)
      (among-areas (IsApart offset size) loaded.valid.meta.keyslots apart)
