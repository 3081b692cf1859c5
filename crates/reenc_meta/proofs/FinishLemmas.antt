-- The metadata of a finished conversion have a text, break no rule, and are the new segment's.
use Rattle.std.proofs.Common.{◌≡◌, ◌∙◌, ℕ, suc, zero, ◌+◌, ◌-◌, ◌*◌, ◌/◌, ◌%◌, ◌^◌, ◌<◌, ◌≤◌, ◌++◌}
use Rattle.std.proofs.Common.{◌&&◌, ◌||◌, not, eqb, cond, nat_le, List, [], ◌∷◌, length, map}
use Rattle.std.proofs.Common.{get_or, drop, take, Option, Some, None, Bool, true, false, refl, sym}
use Rattle.std.proofs.Common.{ap, subst, arith, inl, inr}
use Rattle.std.proofs.Math.Nat.{mul-div_cancel, mul-le-mul_right, mul-mod_left}
use Rattle.std.proofs.lemmas.Bool.{and_from, and_parts, and_right, cases_Bool, eq-eqb}
use Rattle.std.proofs.lemmas.Bool.{eqb-true, leb-true, or_from}
use Rattle.std.proofs.lemmas.List.{take-append-drop}
use Rattle.std.proofs.lemmas.List.Sums.{sum_by-cons}
use Rattle.std.specs.List.{All, AllByRecursion, filter, list_any, sum_by}
use Rattle.std.specs.Option.{IfSome, IsSome, IsSomeAnd, option_and_then}
use Rattle.std.specs.Str.{bytes_eq}
use Rattle.base_terms.specs.declared.disk_sizes.Sizes.{Sizes}
use Rattle.json_members.specs.Entries.{AreEntries, IsRising}
use Rattle.luks_meta.specs.Configs.{IsRequirements, any_foreign, is_foreign, mandatory}
use Rattle.luks_meta.specs.Configs.{origin_by, origin_of, profile}
use Rattle.luks_meta.specs.Digests.{IsDigest}
use Rattle.luks_meta.specs.Keyslots.{IsKeyslot}
use Rattle.luks_meta.specs.Metas.{IsMeta}
use Rattle.luks_meta.specs.Segments.{IsSegment, IsSize}
use Rattle.luks_meta.specs.Tokens.{IsToken}
use Rattle.luks_meta.specs.declared.config.Requirements.{Requirements}
use Rattle.luks_meta.specs.declared.digest.Digest.{Digest}
use Rattle.luks_meta.specs.declared.meta.Parts.{Parts}
use Rattle.luks_meta.specs.declared.segment.Encryption.{Encryption}
use Rattle.luks_meta.specs.declared.segment.Segment.{Segment}
use Rattle.luks_rules.specs.Areas.{areas_end, areas_of, main_bytes}
use Rattle.luks_rules.specs.Conversions.{conversions_of, only}
use Rattle.luks_rules.specs.Extents.{digest_of, extent_of}
use Rattle.luks_rules.specs.Idles.{idle_from, idle_of}
use Rattle.luks_rules.specs.Overlaps.{overlap}
use Rattle.luks_rules.specs.Plain.{AreReferred, HaveNumbers, HaveWholeAtoms, HaveWholeSectors}
use Rattle.luks_rules.specs.Plain.{HoldVolume, IsWholeSize, IsWithin, LieWithin}
use Rattle.luks_rules.specs.Plans.{blocks_in, same_digest}
use Rattle.luks_rules.specs.References.{is_there, lists, times_listed}
use Rattle.luks_rules.specs.Rules.{first_fault}
use Rattle.luks_rules.specs.Segments.{bytes_by, bytes_of, in_progress, live_bytes, whole_blocks}
use Rattle.luks_rules.specs.Shapes.{breaks_shape, have_two_digests, is_any, progress_of}
use Rattle.luks_rules.specs.Shapes.{progress_under, stays_dynamic}
use Rattle.luks_rules.specs.States.{IsConverting, IsSound}
use Rattle.luks_rules.specs.declared.areas.Area.{Area}
use Rattle.luks_rules.specs.declared.extents.Extent.{Extent}
use Rattle.luks_rules.specs.declared.extents.Mark.TheVariants as marks
use Rattle.luks_rules.specs.declared.idle.Idle.{Idle}
use Rattle.luks_rules.specs.declared.shape.Progress.{Progress}
use Rattle.luks_rules.proofs.PlainLemmas.{from_atoms, from_held, from_numbers, from_referred}
use Rattle.luks_rules.proofs.PlainLemmas.{from_sectors, from_within}
use Rattle.reenc_meta.specs.Finishes.{IsNewVolume, MayFinish, has_no_members, without_profile}
use Rattle.reenc_meta.specs.Finishes.{finished, finished_digest, finished_numbers}
use Rattle.reenc_meta.specs.Finishes.{finished_segment, finished_size, is_dropped, is_new_whole}
use Rattle.reenc_meta.specs.Finishes.{has_no_texts, is_old_digest, old_lists, other_lists}
use Rattle.reenc_meta.specs.Finishes.{requirements_after, token_kept}
use Rattle.reenc_meta.specs.Wishes.{size_by}
use Rattle.reenc_meta.proofs.EachLemmas.{at-each, by-recursion, each-dropped, each-mapped}
use Rattle.reenc_meta.proofs.EachLemmas.{each-weaker, rising-mapped}
use Rattle.reenc_meta.proofs.FilterLemmas.{any-at, apart-filtered, each-area, each-filtered}
use Rattle.reenc_meta.proofs.FilterLemmas.{each-passing, filtered-none, filtered-rising}
use Rattle.reenc_meta.proofs.FilterLemmas.{filtered-there, last-alone, none-converting, self-listed}
use Rattle.reenc_meta.proofs.ListingLemmas.{IsTestFor, count-mapped, counted-one, find-mapped}
use Rattle.reenc_meta.proofs.ListingLemmas.{found-one}
use Rattle.reenc_meta.proofs.RoomLemmas.{new-in}
use Rattle.reenc_meta.proofs.RuleLemmas.{areas-apart, none-foreign, relisted}
use Rattle.reenc_meta.proofs.SegmentLemmas.{IsRight, segments-right}
use Rattle.reenc_meta.proofs.StateLemmas.{digest-there}
use Rattle.reenc_meta.proofs.TokenLemmas.{token-kept}
use Rattle.reenc_meta.proofs.WholeLemmas.{crypt-digest, new-own, whole-digests}

-- ---- what a reader must know
no_texts : (o : Option Requirements) → All (λ text. is_foreign text ≡ false) (mandatory o)
    → mandatory (requirements_after o) ≡ []
no_texts None own = refl
no_texts (Some r) own =
    let none = filtered-none is_foreign r.mandatory
    (by-recursion (λ text. is_foreign text ≡ false) r.mandatory own) in
    (λ i. mandatory (cond (has_no_texts (none i) && has_no_members r.rest) None
    (Some (record r { mandatory = none i }))))
    ∙ go (has_no_members r.rest)
  where
    go : (b : Bool) → mandatory (cond b None (Some (record r { mandatory = [] }))) ≡ []
    go true = refl
    go false = refl

asked_right : (o : Option Requirements) → IfSome o IsRequirements
    → IfSome (requirements_after o) IsRequirements
asked_right None is = tt
asked_right (Some r) is =
    go (has_no_texts (filter is_foreign r.mandatory) && has_no_members r.rest)
  where
    go : (b : Bool) → IfSome (cond b None (Some (without_profile r))) IsRequirements
    go true = tt
    go false = record { lacks = is.lacks; plain = is.plain }

pub own_texts : (texts : List (List ℕ)) → AllByRecursion (λ text. is_foreign text ≡ false) texts
    → any_foreign texts ≡ false
own_texts [] own = refl
own_texts (text ∷ texts) own =
    or_from (is_foreign text) (any_foreign texts) own.0 (own_texts texts own.1)

-- ---- no fault where nothing is converted
pub record BreaksNoneIdle (m : Parts) (sizes : Sizes) : Type 0 where
  pub own : All (λ text. is_foreign text ≡ false) (mandatory m.config.requirements)
  pub bounds : LieWithin m sizes
  pub apart : overlap (areas_of m.keyslots) ≡ false
  pub referred : AreReferred m
  pub volume : HoldVolume (in_progress m.config) m sizes
  pub sectors : HaveWholeSectors m sizes
  pub atoms : HaveWholeAtoms m sizes
  pub numbers : HaveNumbers m sizes
  pub idle : in_progress m.config ≡ false
  pub none : conversions_of m.keyslots ≡ []

no_progress : (m : Parts) (sizes : Sizes) → in_progress m.config ≡ false
    → progress_of m sizes ≡ None
unfolding progress_of
no_progress m sizes idle =
    ap (λ b. cond b
    (option_and_then (progress_under sizes.atom m) (only (conversions_of m.keyslots))) None) idle

no_shape : (m : Parts) → in_progress m.config ≡ false → conversions_of m.keyslots ≡ []
    → breaks_shape m None ≡ false
unfolding breaks_shape
no_shape m idle none =
    ap (λ b. cond b true (is_any (conversions_of m.keyslots))) idle ∙ ap is_any none

no_fault : (m : Parts) (sizes : Sizes) → BreaksNoneIdle m sizes → first_fault m sizes ≡ None
unfolding first_fault
no_fault m sizes is =
    rw (
      none-foreign (mandatory m.config.requirements) is.own,
      from_within m sizes is.bounds,
      is.apart,
      from_referred m is.referred,
      from_held (in_progress m.config) m sizes is.volume,
      from_sectors m sizes is.sectors,
      from_atoms m sizes is.atoms,
      from_numbers m sizes is.numbers,
      no_progress m sizes is.idle,
      no_shape m is.idle is.none,
    )
    refl

-- ---- how long the new segment is
sized_so : (d : Bool) (main offset bytes : ℕ) → offset + bytes ≤ main
    → (d ≡ true → main ≤ offset + bytes) → bytes_by main offset (size_by d bytes) ≡ bytes
sized_so true main offset bytes on all = let here = all refl in omega (arith, on, here)
sized_so false main offset bytes on all = refl

whole_so : (d : Bool) (blocks atom : ℕ) → IsWholeSize atom (size_by d (blocks * atom))
whole_so true blocks atom = tt
whole_so false blocks atom = mul-mod_left blocks atom

few_so : (d : Bool) (bytes : ℕ) → bytes < 2 ^ 64 → IsSize (size_by d bytes)
few_so true bytes few = tt
few_so false bytes few = few

-- ---- the new digest lists the one segment
lists_it : (b : Bool) → lists (cond b (0 ∷ []) []) 0 ≡ b
lists_it true = refl
lists_it false = refl

few_numbers : (b : Bool) → AllByRecursion (λ n. n < 2 ^ 64) (cond b (0 ∷ []) [])
few_numbers true = (omega arith, tt)
few_numbers false = tt

there_each : (b : Bool) (test : ℕ → Type 0) → test 0 → All test (cond b (0 ∷ []) [])
there_each true test h = at-each test (0 ∷ []) (h, tt)
there_each false test h = at-each test [] tt

-- the new digest isn't the old one
stays_by : (old new : Option ℕ) → have_two_digests old new ≡ true
    → IfSome new (λ n. not (same_digest old (Some n)) ≡ true)
stays_by None None two = tt
stays_by None (Some e) two = refl
stays_by (Some d) None two = tt
stays_by (Some d) (Some e) two = two

both : (o : Option ℕ) (P Q R : ℕ → Type 0) → ((n : ℕ) → P n → Q n → R n) → IfSome o P → IfSome o Q
    → IfSome o R
both None P Q R join p q = tt
both (Some n) P Q R join p q = join n p q

module _ (m : Parts) (sizes : Sizes) (p : Progress) (live : List Extent) (a b : ℕ × Segment)
    (is : IsMeta m) (sound : IsSound m sizes) (busy : in_progress m.config ≡ true)
    (conv : IsConverting m sizes p live) (may : MayFinish p) (some : 0 < blocks_in p.plan)
    (fits : main_bytes sizes < 2 ^ 63) (last : drop p.old.number m.segments ≡ a ∷ b ∷ [])
    (new : extent_of m.digests b ≡ p.new) where
  abbrev kept : ℕ × Digest → Bool
  kept d = not (is_old_digest p d)

  abbrev digests : List (ℕ × Digest)
  digests = map (finished_digest p) (filter kept m.digests)

  abbrev slots : ℕ → Bool
  slots = is_dropped p m.digests

  abbrev segment : Segment
  segment = record b.1 { size = finished_size sizes p; flags = None }

  abbrev bytes : ℕ
  bytes = blocks_in p.plan * sizes.atom

  -- ---- the segment
  numbered_so : b.0 ≡ p.new.number
  numbered_so = ap (λ (e : Extent). e.number) new

  joined : take p.old.number m.segments ++ a ∷ b ∷ [] ≡ m.segments
  joined =
      ap (λ rest. take p.old.number m.segments ++ rest) (sym last)
      ∙ take-append-drop p.old.number m.segments

  alone : filter (is_new_whole p) m.segments ≡ b ∷ []
  alone =
      ap (λ n. filter (λ s. eqb s.0 n) m.segments) (sym numbered_so)
      ∙ ap (filter (λ s. eqb s.0 b.0)) (sym joined)
      ∙ last-alone (take p.old.number m.segments) a b
      (subst (λ (ss : List (ℕ × Segment)). IsRising ss) (sym joined) is.segments.rising)

  one_segment : map (finished_segment sizes p) (filter (is_new_whole p) m.segments)
      ≡ (0, segment) ∷ []
  one_segment = ap (map (finished_segment sizes p)) alone

  right : IsRight sizes m.config b.1
  right =
      let all : AllByRecursion (λ s. IsRight sizes m.config s.1) (a ∷ b ∷ []) =
      subst (AllByRecursion (λ s. IsRight sizes m.config s.1)) last
      (each-dropped (λ s. IsRight sizes m.config s.1) p.old.number m.segments
      (segments-right m sizes busy is sound)) in
      all.1.0

  offset_so : b.1.offset ≡ p.new.offset
  offset_so = ap (λ (e : Extent). e.offset) new

  size_so : b.1.size ≡ p.new.size
  size_so = ap (λ (e : Extent). e.size) new

  within : bytes ≤ bytes_by (main_bytes sizes) p.new.offset p.new.size
  within = new-in m sizes p live conv (blocks_in p.plan) some (omega arith)

  on_disk : p.new.offset + bytes ≤ main_bytes sizes
  on_disk = let on = conv.new.on_disk in let all = within in omega (arith, on, all)

  long : (d : Bool) → (d ≡ true → main_bytes sizes ≤ p.new.offset + bytes)
      → bytes_by (main_bytes sizes) b.1.offset (size_by d bytes) ≡ bytes
  long d all =
      ap (λ at. bytes_by (main_bytes sizes) at (size_by d bytes)) offset_so
      ∙ sized_so d (main_bytes sizes) p.new.offset bytes on_disk all

  reaches : (stays_dynamic p.conversion.resilience p.old.size
      && nat_le (main_bytes sizes) (p.new.offset + bytes)) ≡ true
      → main_bytes sizes ≤ p.new.offset + bytes
  reaches e =
      leb-true (main_bytes sizes) (p.new.offset + bytes)
      (and_parts (stays_dynamic p.conversion.resilience p.old.size)
      (nat_le (main_bytes sizes) (p.new.offset + bytes)) e).1

  bytes_so : bytes_of sizes segment ≡ bytes
  bytes_so =
      long (stays_dynamic p.conversion.resilience p.old.size
      && nat_le (main_bytes sizes) (p.new.offset + bytes)) reaches

  at_place : segment.offset + bytes_of sizes segment ≤ main_bytes sizes
  at_place =
      let on = on_disk in
      let all = bytes_so in
      let at = offset_so in
      omega (arith, on, all, at)

  fewer : bytes_of sizes segment ≤ bytes_of sizes b.1
  fewer =
      let all = bytes_so in
      let most = within in
      let old : bytes_of sizes b.1 ≡ bytes_by (main_bytes sizes) p.new.offset p.new.size =
      λ i. bytes_by (main_bytes sizes) (offset_so i) (size_so i) in
      omega (arith, all, most, old)

  fewer_units : (o : Option Encryption) → (n all : ℕ) → n ≤ all
      → IfSome o (λ e. e.iv_tweak + all / 512 ≤ 2 ^ 64 - 1)
      → IfSome o (λ e. e.iv_tweak + n / 512 ≤ 2 ^ 64 - 1)
  fewer_units None n all h k = tt
  fewer_units (Some e) n all h k = omega (arith, h, k)

  segment_text : IsSegment segment
  segment_text = record {
    offset = right.text.offset;
    size = few_so (stays_dynamic p.conversion.resilience p.old.size
        && nat_le (main_bytes sizes) (p.new.offset + bytes)) bytes
        (let on = on_disk in omega (arith, on, fits));
    encryption = right.text.encryption;
    lacks = right.text.lacks;
    plain = right.text.plain;
  }

  -- ---- the digests
  two : have_two_digests p.old.digest p.new.digest ≡ true
  two = whole-digests sizes.atom p.conversion p.old p.new conv.state.wholes

  new_there : IfSome p.new.digest (λ n. is_there (filter kept m.digests) n ≡ true)
  new_there =
      both p.new.digest (λ n. not (same_digest p.old.digest (Some n)) ≡ true)
      (λ n. is_there m.digests n ≡ true) (λ n. is_there (filter kept m.digests) n ≡ true)
      (λ n stays there. filtered-there (λ k. not (same_digest p.old.digest (Some k))) n m.digests
      stays there)
      (stays_by p.old.digest p.new.digest two)
      (digest-there m sizes p.new conv.new
      (new-own sizes.atom p.conversion p.old p.new conv.state.wholes))

  is_test : IsTestFor (λ d. lists (finished_numbers p d) 0) p.new.digest
  is_test d = lists_it (same_digest p.new.digest (Some d.0))

  digest_so : digest_of digests 0 ≡ p.new.digest
  unfolding digest_of
  digest_so =
      find-mapped (finished_digest p) (λ d. lists d.1.segments 0) (filter kept m.digests)
      (λ d. refl)
      ∙ found-one (λ d. lists (finished_numbers p d) 0) p.new.digest (filter kept m.digests) is_test
      new_there

  once : (o : Option ℕ) → p.new.digest ≡ o → IsSome o → times_listed digests 0 ≡ 1
  unfolding times_listed
  once None same here = let bad : false ≡ true = here in cc
  once (Some n) same here =
      count-mapped (finished_digest p) (λ d. lists d.1.segments 0) (filter kept m.digests)
      ∙ counted-one (λ d. lists (finished_numbers p d) 0) n (filter kept m.digests)
      (λ d. is_test d ∙ ap (λ o. same_digest o (Some d.0)) same)
      (filtered-rising kept m.digests is.digests.rising)
      (subst (λ o. IfSome o (λ k. is_there (filter kept m.digests) k ≡ true)) same new_there)

  -- ---- the keyslots that stay are those that a digest which stays lists
  kept_slot : (d : ℕ × Digest) (k : ℕ) → kept d ≡ true → (i : ℕ) → i < length m.digests
      → get_or m.digests i d ≡ d → lists d.1.keyslots k ≡ true
      → lists d.1.keyslots p.conversion.keyslot ≡ false → not (slots k) ≡ true
  unfolding is_dropped
  kept_slot d k stays i below at listed never =
      let other : other_lists p m.digests k ≡ true =
      any-at (λ x. not (is_old_digest p x) && lists x.1.keyslots k) m.digests i d below
      (ap (λ x. not (is_old_digest p x) && lists x.1.keyslots k) at
      ∙ and_from (kept d) (lists d.1.keyslots k) stays listed) in
      let one : eqb k p.conversion.keyslot ≡ false =
      elim (cases_Bool (eqb k p.conversion.keyslot)) [
        | inl e ↦
            (let same = eqb-true k p.conversion.keyslot e in
            let bad : true ≡ false = sym listed ∙ ap (lists d.1.keyslots) same ∙ never in cc)
        | inr e ↦ e
      ] in
      ap (λ t. not (t || (old_lists p m.digests k && not (other_lists p m.digests k)))) one
      ∙ ap (λ t. not (old_lists p m.digests k && not t)) other
      ∙ ap not (and_right (old_lists p m.digests k) false refl)

  get_or_any : {X : Type 0} (xs : List X) (i : ℕ) (c d : X) → i < length xs
      → get_or xs i c ≡ get_or xs i d
  get_or_any [] i c d below = absurd (omega (arith, below))
  get_or_any (x ∷ xs) zero c d below = refl
  get_or_any (x ∷ xs) (suc i) c d below = get_or_any xs i c d (omega (arith, below))

  slots_there : (i : ℕ) (d : ℕ × Digest) → i < length m.digests
      → kept (get_or m.digests i d) ≡ true
      → All (λ k. is_there (filter (λ slot. not (slots slot.0)) m.keyslots) k ≡ true)
      (get_or m.digests i d).1.keyslots
  slots_there i d below stays j e here =
      let x = get_or m.digests i d in
      let k = get_or x.1.keyslots j e in
      filtered-there (λ n. not (slots n)) k m.keyslots
      (kept_slot x k stays i below (get_or_any m.digests i x d below)
      (self-listed x.1.keyslots j e here) (conv.alone i d below))
      (sound.digests.keyslots i d below j e here)

  keyslots_so : All (λ d.
      All (λ k. is_there (filter (λ slot. not (slots slot.0)) m.keyslots) k ≡ true) d.1.keyslots)
      digests
  keyslots_so =
      let test : ℕ × Digest → Type 0 =
      λ d. All (λ k. is_there (filter (λ slot. not (slots slot.0)) m.keyslots) k ≡ true)
      d.1.keyslots in
      at-each test digests
      (each-mapped (finished_digest p) test (filter kept m.digests)
      (each-passing kept test m.digests
      (by-recursion (λ d. kept d ≡ true → test d) m.digests
      (λ i d below stays. slots_there i d below stays))))

  segments_so : All (λ d. All (λ n. is_there ((0, segment) ∷ []) n ≡ true) d.1.segments) digests
  segments_so =
      let test : ℕ × Digest → Type 0 =
      λ d. All (λ n. is_there ((0, segment) ∷ []) n ≡ true) d.1.segments in
      at-each test digests
      (each-mapped (finished_digest p) test (filter kept m.digests)
      (by-recursion (λ d. All (λ n. is_there ((0, segment) ∷ []) n ≡ true) (finished_numbers p d))
      (filter kept m.digests)
      (λ i d below. there_each
      (same_digest p.new.digest (Some (get_or (filter kept m.digests) i d).0))
      (λ n. is_there ((0, segment) ∷ []) n ≡ true) refl)))

  -- ---- the header
  texts : mandatory (requirements_after m.config.requirements) ≡ []
  texts = no_texts m.config.requirements sound.own

  idle_so : (found : List (List ℕ)) → found ≡ []
      → list_any (λ text. bytes_eq text profile) found ≡ false
  idle_so found none = ap (list_any (λ text. bytes_eq text profile)) none

  not_busy : in_progress (finished sizes p m).config ≡ false
  unfolding finished in_progress
  not_busy = idle_so (mandatory (requirements_after m.config.requirements)) texts

  own_slot : slots p.conversion.keyslot ≡ true
  unfolding is_dropped
  own_slot =
      ap (λ t. t || (old_lists p m.digests p.conversion.keyslot
      && not (other_lists p m.digests p.conversion.keyslot)))
      (eq-eqb p.conversion.keyslot p.conversion.keyslot refl)

  all_gone : conversions_of (filter (λ slot. not (slots slot.0)) m.keyslots) ≡ []
  all_gone =
      none-converting slots m.keyslots
      (subst (AllByRecursion (λ c. slots c.keyslot ≡ true)) (sym conv.keyslot) (own_slot, tt))

  one_of : (P : ℕ × Segment → Type 0) → P (0, segment)
      → All P (map (finished_segment sizes p) (filter (is_new_whole p) m.segments))
  one_of P h = subst (λ ss. All P ss) (sym one_segment) (at-each P ((0, segment) ∷ []) (h, tt))

  block : sizes.atom ≤ sum_by (λ s. live_bytes false sizes s.1)
      (map (finished_segment sizes p) (filter (is_new_whole p) m.segments))
  block =
      let one = mul-le-mul_right sizes.atom
      (let here : 1 ≤ blocks_in p.plan = omega (arith, some) in here) in
      let all = bytes_so in
      let sum = sum_by-cons {X = ℕ × Segment} (λ s. live_bytes false sizes s.1) (0, segment) [] in
      subst (λ ss. sizes.atom ≤ sum_by (λ s. live_bytes false sizes s.1) ss) (sym one_segment)
      (omega (arith, one, all, sum))

  abbrev whole_area : Area → Type 0
  whole_area area = (area.offset % sizes.atom ≡ 0) × (area.size % sizes.atom ≡ 0)

  breaks_none : BreaksNoneIdle (finished sizes p m) sizes
  unfolding finished
  breaks_none = record {
    own = subst (All (λ text. is_foreign text ≡ false)) (sym texts) (at-each _ [] tt);
    bounds = record {
      areas = at-each (IsWithin m.config) _ (each-area (IsWithin m.config)
          (λ slot. not (slots slot.0)) m.keyslots
          (by-recursion (IsWithin m.config) (areas_of m.keyslots) sound.within.areas));
      attached = λ e. one_of (λ s. areas_end m.config ≤ s.1.offset) (right.behind e);
      detached = sound.within.detached;
    };
    apart = apart-filtered (λ slot. not (slots slot.0)) m.keyslots (areas-apart m sizes sound);
    referred = record {
      keyslots = keyslots_so;
      segments = subst (λ ss. All (λ d. All (λ n. is_there ss n ≡ true) d.1.segments) digests)
          (sym one_segment) segments_so;
      once = one_of (λ s. IsSome s.1.encryption → times_listed digests s.0 ≡ 1)
          (λ here. once p.new.digest refl
          (crypt-digest p.new.encryption p.new.digest
          (new-own sizes.atom p.conversion p.old p.new conv.state.wholes)
          (subst (λ (e : Extent). IsSome e.encryption) new here)));
    };
    volume = record {
      one = λ e. ap length one_segment;
      sized = λ e. (let bad : false ≡ true = sym not_busy ∙ e in cc);
      on_disk = one_of (λ s. s.1.offset + bytes_of sizes s.1 ≤ main_bytes sizes) at_place;
      block = subst (λ t. sizes.atom ≤ sum_by (λ s. live_bytes t sizes s.1)
          (map (finished_segment sizes p) (filter (is_new_whole p) m.segments))) (sym not_busy)
          block;
    };
    sectors = one_of
        (λ s. IfSome s.1.encryption (λ e. (0 < e.sector_size) × (sizes.atom % e.sector_size ≡ 0)))
        right.sectors;
    atoms = record {
      segments = one_of (λ s. (s.1.offset % sizes.atom ≡ 0) × IsWholeSize sizes.atom s.1.size) (
        right.whole.0,
        whole_so (stays_dynamic p.conversion.resilience p.old.size
            && nat_le (main_bytes sizes) (p.new.offset + bytes)) (blocks_in p.plan) sizes.atom,
      );
      areas = at-each whole_area _ (each-area whole_area (λ slot. not (slots slot.0)) m.keyslots
          (by-recursion whole_area (areas_of m.keyslots) sound.atoms.areas));
    };
    numbers = one_of
        (λ s. IfSome s.1.encryption (λ e. e.iv_tweak + bytes_of sizes s.1 / 512 ≤ 2 ^ 64 - 1))
        (fewer_units b.1.encryption (bytes_of sizes segment) (bytes_of sizes b.1) fewer
        right.numbers);
    idle = not_busy;
    none = all_gone;
  }

  pub valid-finished : first_fault (finished sizes p m) sizes ≡ None
  valid-finished = no_fault (finished sizes p m) sizes breaks_none

  -- ---- the volume
  extent_so : extent_of digests (0, segment)
      ≡ record p.new { number = 0; size = finished_size sizes p; mark = marks.Plain }
  extent_so = λ i. record {
    number = 0;
    offset = offset_so i;
    size = finished_size sizes p;
    encryption = (new i).encryption;
    mark = marks.Plain;
    digest = digest_so i;
  }

  blocks_so : whole_blocks sizes segment.offset segment.size ≡ blocks_in p.plan
  blocks_so =
      ap (λ n. n / sizes.atom) bytes_so ∙ mul-div_cancel (blocks_in p.plan) sound.atom

  volume : Idle
  volume = record {
    segment = extent_of digests (0, segment);
    blocks = whole_blocks sizes segment.offset segment.size;
  }

  is_idle : idle_of (finished sizes p m) sizes ≡ Some volume
  unfolding idle_of finished volume
  is_idle =
      ap (λ t. cond t None (idle_from sizes digests
      (map (finished_segment sizes p) (filter (is_new_whole p) m.segments)))) not_busy
      ∙ ap (idle_from sizes digests) one_segment

  is_new : IsNewVolume sizes p volume
  unfolding volume
  is_new = record { blocks = blocks_so; segment = extent_so }

  pub idle-finished : IsSomeAnd (idle_of (finished sizes p m) sizes) (IsNewVolume sizes p)
  idle-finished = subst (λ o. IsSomeAnd o (IsNewVolume sizes p)) (sym is_idle) is_new

  -- ---- the text
  origin_so : origin_of m.config ≡ origin_of (finished sizes p m).config
  unfolding finished
  origin_so =
      ap origin_by (own_texts (mandatory m.config.requirements)
      (by-recursion _ (mandatory m.config.requirements) sound.own))
      ∙ ap origin_by (sym (ap any_foreign texts))

  pub meta-finished : IsMeta (finished sizes p m)
  unfolding finished
  meta-finished = record {
    keyslots = record {
      rising = filtered-rising (λ slot. not (slots slot.0)) m.keyslots is.keyslots.rising;
      each = each-filtered (λ slot. not (slots slot.0)) _ m.keyslots
          (subst (λ o. AllByRecursion (λ e. IsKeyslot o e.1) m.keyslots) origin_so
          is.keyslots.each);
    };
    tokens = record {
      rising = rising-mapped (λ t. (t.0, token_kept slots t.1)) m.tokens (λ t. refl)
          is.tokens.rising;
      each = each-mapped (λ t. (t.0, token_kept slots t.1)) (λ t. IsToken t.1) m.tokens
          (each-weaker (λ t. IsToken t.1) (λ t. IsToken (token_kept slots t.1)) m.tokens
          (λ t. token-kept slots t.1) is.tokens.each);
    };
    segments = subst (λ ss. AreEntries IsSegment ss) (sym one_segment)
        (record { rising = (omega arith, tt, tt); each = (segment_text, tt) });
    digests = record {
      rising = rising-mapped (finished_digest p) (filter kept m.digests) (λ d. refl)
          (filtered-rising kept m.digests is.digests.rising);
      each = each-mapped (finished_digest p) (λ d. IsDigest d.1) (filter kept m.digests)
          (each-filtered kept (λ d. IsDigest (finished_digest p d).1) m.digests
          (each-weaker (λ d. IsDigest d.1) (λ d. IsDigest (finished_digest p d).1) m.digests
          (λ d one. relisted (finished_numbers p d) d.1 one
          (few_numbers (same_digest p.new.digest (Some d.0)))) is.digests.each));
    };
    config = record {
      json_size = is.config.json_size;
      keyslots_size = is.config.keyslots_size;
      requirements = asked_right m.config.requirements is.config.requirements;
      lacks = is.config.lacks;
      plain = is.config.plain;
    };
    lacks = is.lacks;
    plain = is.plain;
  }
