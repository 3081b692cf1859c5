-- The tests of the rules, in plain words.
use Rattle.std.proofs.Common.{◌≡◌, inl, inr, ℕ, ◌+◌, ◌%◌, ◌/◌, ◌<◌, ◌≤◌, ◌&&◌, ◌||◌, not, nat_lt}
use Rattle.std.proofs.Common.{eqb, List, get_or, Option, Some, None, Bool, true, false, cond, refl}
use Rattle.std.proofs.Common.{subst, arith}
use Rattle.std.proofs.lemmas.Bool.{ltb-false, le-ltb, or_parts, or_from, not-false, not_from_true}
use Rattle.std.proofs.lemmas.Bool.{eqb-true, eq-eqb, ne_eqb, cases_Bool, both_ways}
use Rattle.std.proofs.lemmas.List.Folds.{list_any_none, list_any_at}
use Rattle.std.specs.List.{All, list_any, sum_by}
use Rattle.std.specs.Option.{is_some, IsSome, IfSome}
use Rattle.base_terms.specs.declared.disk_sizes.Sizes.{Sizes}
use Rattle.luks_meta.specs.declared.meta.Parts.{Parts}
use Rattle.luks_meta.specs.declared.segment.Encryption.{Encryption}
use Rattle.luks_meta.specs.declared.segment.SegmentSize.{SegmentSize}
use Rattle.luks_meta.specs.declared.segment.SegmentSize.TheVariants.{Dynamic, Sized}
use Rattle.luks_rules.specs.Areas.{areas_of, areas_begin, areas_end, end_of, header_bytes}
use Rattle.luks_rules.specs.Areas.{main_bytes, is_outside, passes_limit, breaks_bounds}
use Rattle.luks_rules.specs.References.{breaks_references, is_badly_listed, is_there, lists_unknown}
use Rattle.luks_rules.specs.References.{times_listed}
use Rattle.luks_rules.specs.Segments.{breaks_count, bytes_of, holds_none, is_backup, is_dynamic}
use Rattle.luks_rules.specs.Segments.{live_bytes, passes_end}
use Rattle.luks_rules.specs.Multiples.{breaks_multiples, breaks_sectors, breaks_tweaks, cuts_atom}
use Rattle.luks_rules.specs.Multiples.{is_uneven, is_uneven_area, is_uneven_segment, is_uneven_size}
use Rattle.luks_rules.specs.Multiples.{passes_numbers}
use Rattle.luks_rules.specs.Plain.{AreReferred, HaveNumbers, HaveWholeAtoms, HaveWholeSectors}
use Rattle.luks_rules.specs.Plain.{HoldVolume, IsWholeSize, IsWithin, LieWithin}

-- ---- a test that no element passes
pub each : {X : Type 0} (p : X → Bool) (P : X → Type 0) (xs : List X)
    → ((x : X) → p x ≡ false → P x) → list_any p xs ≡ false → All P xs
each p P xs means none k d h = elim (cases_Bool (p (get_or xs k d))) [
  | inl e ↦ absurd (both_ways (list_any p xs) none (list_any_at p xs k d h e))
  | inr e ↦ means (get_or xs k d) e
]

passes : {X : Type 0} (p : X → Bool) (P : X → Type 0) (xs : List X) → ((x : X) → P x → p x ≡ false)
    → All P xs → list_any p xs ≡ false
passes p P xs means all = list_any_none p xs (λ k d h. means (get_or xs k d) (all k d h))

-- ---- areas
pub within : (m : Parts) (sizes : Sizes) → breaks_bounds m sizes ≡ false → LieWithin m sizes
unfolding breaks_bounds
within m sizes h =
    let t = or_parts (list_any (is_outside m.config) (areas_of m.keyslots)) (passes_limit m sizes)
    h in
    record {
      areas = each (is_outside m.config) (IsWithin m.config) (areas_of m.keyslots)
          (λ a e. (let u =
          or_parts (nat_lt a.offset (areas_begin m.config)) (nat_lt (areas_end m.config) (end_of a))
          e in (ltb-false _ _ u.0, ltb-false _ _ u.1))) t.0;
      attached =
          λ e. each (λ s. nat_lt s.1.offset (areas_end m.config))
          (λ s. areas_end m.config ≤ s.1.offset) m.segments (λ s k. ltb-false _ _ k)
          (subst (λ b. cond b (nat_lt (header_bytes sizes) (areas_end m.config))
          (list_any (λ s. nat_lt s.1.offset (areas_end m.config)) m.segments) ≡ false) e t.1);
      detached =
          λ e. ltb-false _ _
          (subst (λ b. cond b (nat_lt (header_bytes sizes) (areas_end m.config))
          (list_any (λ s. nat_lt s.1.offset (areas_end m.config)) m.segments) ≡ false) e t.1);
    }

pub from_within : (m : Parts) (sizes : Sizes) → LieWithin m sizes → breaks_bounds m sizes ≡ false
unfolding breaks_bounds
from_within m sizes is =
    or_from _ _
    (passes (is_outside m.config) (IsWithin m.config) (areas_of m.keyslots)
    (λ a e. or_from _ _ (le-ltb _ _ e.0) (le-ltb _ _ e.1)) is.areas) (limit sizes.detached refl)
  where
    limit : (b : Bool) → sizes.detached ≡ b
        → cond b (nat_lt (header_bytes sizes) (areas_end m.config))
        (list_any (λ s. nat_lt s.1.offset (areas_end m.config)) m.segments) ≡ false
    limit true e = le-ltb _ _ (is.detached e)
    limit false e =
        passes (λ s. nat_lt s.1.offset (areas_end m.config)) (λ s. areas_end m.config ≤ s.1.offset)
        m.segments (λ s k. le-ltb _ _ k) (is.attached e)

-- ---- digests
known : {T : Type 0} (entries : List (ℕ × T)) (ns : List ℕ)
    → list_any (λ n. not (is_there entries n)) ns ≡ false → All (λ n. is_there entries n ≡ true) ns
known entries ns h =
    each (λ n. not (is_there entries n)) (λ n. is_there entries n ≡ true) ns (λ n e. not-false _ e)
    h

from_known : {T : Type 0} (entries : List (ℕ × T)) (ns : List ℕ)
    → All (λ n. is_there entries n ≡ true) ns → list_any (λ n. not (is_there entries n)) ns ≡ false
from_known entries ns h =
    passes (λ n. not (is_there entries n)) (λ n. is_there entries n ≡ true) ns
    (λ n e. not_from_true _ e) h

once_by : (o : Option Encryption) (n : ℕ) → is_some o && not (eqb n 1) ≡ false → IsSome o → n ≡ 1
once_by None n h s = cc
once_by (Some e) n h s = eqb-true n 1 (not-false _ h)

from_once : (o : Option Encryption) (n : ℕ) → (IsSome o → n ≡ 1)
    → is_some o && not (eqb n 1) ≡ false
from_once None n h = refl
from_once (Some e) n h = not_from_true _ (eq-eqb n 1 (h refl))

pub referred : (m : Parts) → breaks_references m ≡ false → AreReferred m
unfolding breaks_references
referred m h =
    let t = or_parts (list_any (λ d. lists_unknown m d.1) m.digests)
    (list_any (is_badly_listed m.digests) m.segments) h in
    record {
      keyslots =
          each (λ d. lists_unknown m d.1)
          (λ d. All (λ k. is_there m.keyslots k ≡ true) d.1.keyslots) m.digests
          (λ d e. known m.keyslots d.1.keyslots (or_parts _ _ e).0) t.0;
      segments =
          each (λ d. lists_unknown m d.1)
          (λ d. All (λ s. is_there m.segments s ≡ true) d.1.segments) m.digests
          (λ d e. known m.segments d.1.segments
          (or_parts (list_any (λ k. not (is_there m.keyslots k)) d.1.keyslots) _ e).1) t.0;
      once = each (is_badly_listed m.digests)
          (λ s. IsSome s.1.encryption → times_listed m.digests s.0 ≡ 1) m.segments
          (λ s e. once_by s.1.encryption (times_listed m.digests s.0) e) t.1;
    }

pub from_referred : (m : Parts) → AreReferred m → breaks_references m ≡ false
unfolding breaks_references
from_referred m is =
    or_from _ _
    (list_any_none (λ d. lists_unknown m d.1) m.digests
    (λ k d h. or_from _ _
    (from_known m.keyslots (get_or m.digests k d).1.keyslots (is.keyslots k d h))
    (from_known m.segments (get_or m.digests k d).1.segments (is.segments k d h))))
    (passes (is_badly_listed m.digests)
    (λ s. IsSome s.1.encryption → times_listed m.digests s.0 ≡ 1) m.segments
    (λ s e. from_once s.1.encryption (times_listed m.digests s.0) e) is.once)

-- ---- segments
sized_by : (b d : Bool) → not b && d ≡ false → b ≡ false → d ≡ false
sized_by true d h e = absurd (both_ways true e refl)
sized_by false d h e = h

from_sized : (b d : Bool) → (b ≡ false → d ≡ false) → not b && d ≡ false
from_sized true d h = refl
from_sized false d h = h refl

pub held : (progress : Bool) (m : Parts) (sizes : Sizes)
    → holds_none progress sizes m.segments ≡ false → HoldVolume progress m sizes
unfolding holds_none
held progress m sizes h =
    let t = or_parts
    (breaks_count progress m.segments || list_any (λ s. passes_end sizes s.1) m.segments)
    (nat_lt (sum_by (λ s. live_bytes progress sizes s.1) m.segments) sizes.atom) h in
    let u = or_parts (breaks_count progress m.segments)
    (list_any (λ s. passes_end sizes s.1) m.segments) t.0 in
    record {
      one = λ e. eqb-true _ _ (not-false _ (subst (λ b. breaks_count b m.segments ≡ false) e u.0));
      sized = λ e. each (λ s. not (is_backup s.1) && is_dynamic s.1.size)
          (λ s. is_backup s.1 ≡ false → is_dynamic s.1.size ≡ false) m.segments
          (λ s k. sized_by (is_backup s.1) (is_dynamic s.1.size) k)
          (subst (λ b. breaks_count b m.segments ≡ false) e u.0);
      on_disk =
          each (λ s. passes_end sizes s.1) (λ s. s.1.offset + bytes_of sizes s.1 ≤ main_bytes sizes)
          m.segments (λ s k. ltb-false _ _ k) u.1;
      block = ltb-false _ _ t.1;
    }

pub from_held : (progress : Bool) (m : Parts) (sizes : Sizes) → HoldVolume progress m sizes
    → holds_none progress sizes m.segments ≡ false
unfolding holds_none
from_held progress m sizes is =
    or_from _ _
    (or_from _ _ (count progress refl)
    (passes (λ s. passes_end sizes s.1) (λ s. s.1.offset + bytes_of sizes s.1 ≤ main_bytes sizes)
    m.segments (λ s k. le-ltb _ _ k) is.on_disk)) (le-ltb _ _ is.block)
  where
    count : (b : Bool) → progress ≡ b → breaks_count b m.segments ≡ false
    count true e =
        passes (λ s. not (is_backup s.1) && is_dynamic s.1.size)
        (λ s. is_backup s.1 ≡ false → is_dynamic s.1.size ≡ false) m.segments
        (λ s k. from_sized (is_backup s.1) (is_dynamic s.1.size) k) (is.sized e)
    count false e = not_from_true _ (eq-eqb _ _ (is.one e))

-- ---- whole sectors and atoms
cuts : (atom : ℕ) (o : Option Encryption) → cuts_atom atom o ≡ false
    → IfSome o (λ e. (0 < e.sector_size) × (atom % e.sector_size ≡ 0))
cuts atom None h = tt
cuts atom (Some e) h =
    let t = or_parts (eqb e.sector_size 0) (not (eqb (atom % e.sector_size) 0)) h in
    (some e.sector_size t.0, eqb-true _ _ (not-false _ t.1))
  where
    some : (n : ℕ) → eqb n 0 ≡ false → 0 < n
    some n g = grind arith

from_cuts : (atom : ℕ) (o : Option Encryption)
    → IfSome o (λ e. (0 < e.sector_size) × (atom % e.sector_size ≡ 0)) → cuts_atom atom o ≡ false
from_cuts atom None h = refl
from_cuts atom (Some e) h =
    or_from _ _ (ne_eqb _ _ (λ z. absurd (omega (arith, h.0, z))))
    (not_from_true _ (eq-eqb _ _ h.1))

pub sectors : (m : Parts) (sizes : Sizes) → breaks_sectors m sizes ≡ false
    → HaveWholeSectors m sizes
unfolding breaks_sectors
sectors m sizes h =
    each (λ s. cuts_atom sizes.atom s.1.encryption)
    (λ s. IfSome s.1.encryption (λ e. (0 < e.sector_size) × (sizes.atom % e.sector_size ≡ 0)))
    m.segments (λ s k. cuts sizes.atom s.1.encryption k) h

pub from_sectors : (m : Parts) (sizes : Sizes) → HaveWholeSectors m sizes
    → breaks_sectors m sizes ≡ false
unfolding breaks_sectors
from_sectors m sizes h =
    passes (λ s. cuts_atom sizes.atom s.1.encryption)
    (λ s. IfSome s.1.encryption (λ e. (0 < e.sector_size) × (sizes.atom % e.sector_size ≡ 0)))
    m.segments (λ s k. from_cuts sizes.atom s.1.encryption k) h

even : (atom n : ℕ) → is_uneven atom n ≡ false → n % atom ≡ 0
even atom n h = eqb-true _ _ (not-false _ h)

from_even : (atom n : ℕ) → n % atom ≡ 0 → is_uneven atom n ≡ false
from_even atom n h = not_from_true _ (eq-eqb _ _ h)

even_size : (atom : ℕ) (size : SegmentSize) → is_uneven_size atom size ≡ false
    → IsWholeSize atom size
even_size atom Dynamic h = tt
even_size atom (Sized n) h = even atom n h

from_even_size : (atom : ℕ) (size : SegmentSize) → IsWholeSize atom size
    → is_uneven_size atom size ≡ false
from_even_size atom Dynamic h = refl
from_even_size atom (Sized n) h = from_even atom n h

pub atoms : (m : Parts) (sizes : Sizes) → breaks_multiples m sizes ≡ false → HaveWholeAtoms m sizes
unfolding breaks_multiples
atoms m sizes h =
    let t = or_parts (list_any (λ s. is_uneven_segment sizes.atom s.1) m.segments)
    (list_any (is_uneven_area sizes.atom) (areas_of m.keyslots)) h in
    record {
      segments =
          each (λ s. is_uneven_segment sizes.atom s.1)
          (λ s. (s.1.offset % sizes.atom ≡ 0) × IsWholeSize sizes.atom s.1.size) m.segments
          (λ s k. (let u =
          or_parts (is_uneven sizes.atom s.1.offset) (is_uneven_size sizes.atom s.1.size) k in
          (even sizes.atom s.1.offset u.0, even_size sizes.atom s.1.size u.1))) t.0;
      areas = each (is_uneven_area sizes.atom)
          (λ a. (a.offset % sizes.atom ≡ 0) × (a.size % sizes.atom ≡ 0)) (areas_of m.keyslots)
          (λ a k. (let u =
          or_parts (is_uneven sizes.atom a.offset) (is_uneven sizes.atom a.size) k in
          (even sizes.atom a.offset u.0, even sizes.atom a.size u.1))) t.1;
    }

pub from_atoms : (m : Parts) (sizes : Sizes) → HaveWholeAtoms m sizes
    → breaks_multiples m sizes ≡ false
unfolding breaks_multiples
from_atoms m sizes is =
    or_from _ _
    (passes (λ s. is_uneven_segment sizes.atom s.1)
    (λ s. (s.1.offset % sizes.atom ≡ 0) × IsWholeSize sizes.atom s.1.size) m.segments
    (λ s k. or_from _ _ (from_even sizes.atom s.1.offset k.0)
    (from_even_size sizes.atom s.1.size k.1)) is.segments)
    (passes (is_uneven_area sizes.atom)
    (λ a. (a.offset % sizes.atom ≡ 0) × (a.size % sizes.atom ≡ 0)) (areas_of m.keyslots)
    (λ a k. or_from _ _ (from_even sizes.atom a.offset k.0) (from_even sizes.atom a.size k.1))
    is.areas)

numbered_by : (bytes : ℕ) (o : Option Encryption) → passes_numbers bytes o ≡ false
    → IfSome o (λ e. e.iv_tweak + bytes / 512 ≤ 18446744073709551615)
numbered_by bytes None h = tt
numbered_by bytes (Some e) h = ltb-false _ _ h

from_numbered : (bytes : ℕ) (o : Option Encryption)
    → IfSome o (λ e. e.iv_tweak + bytes / 512 ≤ 18446744073709551615)
    → passes_numbers bytes o ≡ false
from_numbered bytes None h = refl
from_numbered bytes (Some e) h = le-ltb _ _ h

pub numbers : (m : Parts) (sizes : Sizes) → breaks_tweaks m sizes ≡ false → HaveNumbers m sizes
unfolding breaks_tweaks
numbers m sizes h =
    each (λ s. passes_numbers (bytes_of sizes s.1) s.1.encryption)
    (λ s. IfSome s.1.encryption (λ e. e.iv_tweak + bytes_of sizes s.1 / 512 ≤ 18446744073709551615))
    m.segments (λ s k. numbered_by (bytes_of sizes s.1) s.1.encryption k) h

pub from_numbers : (m : Parts) (sizes : Sizes) → HaveNumbers m sizes → breaks_tweaks m sizes ≡ false
unfolding breaks_tweaks
from_numbers m sizes h =
    passes (λ s. passes_numbers (bytes_of sizes s.1) s.1.encryption)
    (λ s. IfSome s.1.encryption (λ e. e.iv_tweak + bytes_of sizes s.1 / 512 ≤ 18446744073709551615))
    m.segments (λ s k. from_numbered (bytes_of sizes s.1) s.1.encryption k) h
