-- The segments with which a conversion begins: one part, the whole old one, and the whole new one.
use Rattle.std.proofs.Common.{◌≡◌, ◌∙◌, ℕ, ◌+◌, ◌-◌, ◌*◌, ◌/◌, ◌%◌, ◌^◌, ◌<◌, ◌≤◌, cond, eqb}
use Rattle.std.proofs.Common.{[], ◌∷◌, Option, Some, None, Bool, true, false, refl, sym, ap}
use Rattle.std.proofs.Common.{arith}
use Rattle.std.proofs.Math.Nat.{add-mod-mod, div-mul-le_self, mul-mod_left}
use Rattle.std.proofs.lemmas.Bool.{and_from, eq-eqb}
use Rattle.std.proofs.lemmas.Nat.{div-add-mod'}
use Rattle.std.specs.List.{AllByRecursion}
use Rattle.std.specs.Option.{IfSome, IsSome, is_some, option_map}
use Rattle.luks_meta.specs.Segments.{IsEncryption, IsSize, is_sector_size}
use Rattle.luks_meta.specs.declared.digest.Digest.{Digest}
use Rattle.luks_meta.specs.declared.keyslot.Luks2.{Luks2}
use Rattle.luks_meta.specs.declared.reencrypt.Direction.{Direction}
use Rattle.luks_meta.specs.declared.reencrypt.Direction.TheVariants.{Forward, Backward}
use Rattle.luks_meta.specs.declared.reencrypt.Mode.{Mode}
use Rattle.luks_meta.specs.declared.reencrypt.Mode.TheVariants.{Reencrypt, Encrypt, Decrypt}
use Rattle.luks_meta.specs.declared.reencrypt.Resilience.{Resilience}
use Rattle.luks_meta.specs.declared.reencrypt.Resilience.TheVariants.{Journal, Checksum, Datashift}
use Rattle.luks_meta.specs.declared.segment.Encryption.{Encryption}
use Rattle.luks_meta.specs.declared.segment.SegmentSize.{SegmentSize}
use Rattle.luks_meta.specs.declared.segment.SegmentSize.TheVariants.{Dynamic, Sized}
use Rattle.luks_rules.specs.Plain.{IsWholeSize}
use Rattle.luks_rules.specs.Plans.{blocks_in}
use Rattle.luks_rules.specs.Rooms.{HasShift, capacity_by}
use Rattle.luks_rules.specs.Segments.{bytes_by, is_dynamic}
use Rattle.luks_rules.specs.Shapes.{fits_place, has_own_digest, is_next_size, is_whole_size}
use Rattle.luks_rules.specs.Shapes.{may_open, starts_at_0, stays_dynamic}
use Rattle.reenc_meta.specs.Runs.{run_of, runs_of}
use Rattle.reenc_meta.specs.Starts.{nothing_new}
use Rattle.reenc_meta.specs.Wishes.{HasOffset, IsSafe, encryption_for, has_key}
use Rattle.reenc_meta.specs.Wishes.{offset_by, size_by}
use Rattle.reenc_meta.specs.declared.runs.Run.{Run}
use Rattle.reenc_meta.specs.declared.wish.Wish.{Wish}
use Rattle.reenc_meta.proofs.RunLemmas.{each-run, run_on}
use Rattle.segment_map.specs.declared.Side.{Side}
use Rattle.segment_map.specs.declared.Side.TheVariants.{Old, New, Zone}
use Rattle.std.proofs.Common.{div-le_self}
use Rattle.std.proofs.Common.{ne_eqb}
use Rattle.std.proofs.Common.{suc}
use Rattle.std.proofs.Common.{◌++◌}
use Rattle.std.proofs.Common.{zero}

-- ---- one run: all blocks are old
pub start-blocks : (d : Direction) (n : ℕ) → blocks_in (nothing_new d n) ≡ n
start-blocks Forward n = omega arith
start-blocks Backward n = omega arith

pub start-closed : (d : Direction) (n : ℕ) → (nothing_new d n).zone ≡ 0
start-closed Forward n = refl
start-closed Backward n = refl

pub start-runs : (d : Direction) (n : ℕ) → 0 < n → runs_of d (nothing_new d n) ≡ run_of Old 0 n ∷ []
unfolding runs_of
start-runs Forward n some =
    ap (λ b. cond b [] (run_of Old 0 n ∷ [])) (ne_eqb n 0 (λ z. absurd (omega (arith, some, z))))
start-runs Backward n some =
    ap (λ b. cond b [] (run_of Old 0 n ∷ []) ++ ([] ++ []))
    (ne_eqb n 0 (λ z. absurd (omega (arith, some, z))))

pub start-each : (P : Run → Type 0) (d : Direction) (n : ℕ) → P (run_of Old 0 n)
    → AllByRecursion P (runs_of d (nothing_new d n))
start-each P d n old = each-run P d (nothing_new d n) (by d)
  where
    by : (d : Direction) (side : Side) → 0 < (run_on d (nothing_new d n) side).blocks
        → P (run_on d (nothing_new d n) side)
    by Forward Old some = old
    by Forward Zone some = absurd (omega (arith, some))
    by Forward New some = absurd (omega (arith, some))
    by Backward Old some = old
    by Backward Zone some = absurd (omega (arith, some))
    by Backward New some = absurd (omega (arith, some))

-- ---- how long the volume is
pub start-within : (bytes atom n : ℕ) → n ≡ bytes / atom → n * atom ≤ bytes
start-within bytes atom n is = rw is (div-mul-le_self bytes atom)

pub start-sized : (size : SegmentSize) (last offset atom n : ℕ) → IsWholeSize atom size
    → n ≡ bytes_by last offset size / atom → is_whole_size (n * atom) size ≡ true
start-sized Dynamic last offset atom n whole is = refl
start-sized (Sized k) last offset atom n whole is =
    let all = div-add-mod' k atom in
    let same = ap (λ m. m * atom) is in
    eq-eqb k (n * atom) (omega (arith, all, whole, same))

-- ---- the new one's size and place
pub new-next : (dynamic : Bool) (bytes : ℕ)
    → is_next_size bytes dynamic (size_by dynamic bytes) ≡ true
new-next true bytes = refl
new-next false bytes = eq-eqb bytes bytes refl

pub new-size : (dynamic : Bool) (bytes : ℕ) → bytes < 2 ^ 64 → IsSize (size_by dynamic bytes)
new-size true bytes few = tt
new-size false bytes few = few

pub new-whole-size : (dynamic : Bool) (atom n : ℕ) → IsWholeSize atom (size_by dynamic (n * atom))
new-whole-size true atom n = tt
new-whole-size false atom n = mul-mod_left n atom

pub new-offset : (d : Direction) (r : Resilience) (offset : ℕ) → HasOffset d r offset
    → offset < 2 ^ 63 → offset_by d r offset < 2 ^ 64
new-offset d Journal offset has few = omega (arith, few)
new-offset d (Checksum k) offset has few = omega (arith, few)
new-offset Forward (Datashift shift) offset has few = omega (arith, few)
new-offset Backward (Datashift shift) offset has few = has

taken : (shift offset atom : ℕ) → shift % atom ≡ 0 → shift ≤ offset → offset % atom ≡ 0
    → (offset - shift) % atom ≡ 0
taken shift offset atom even room whole =
    let zero : offset - shift + 0 ≡ offset - shift = omega arith in
    let joined : offset - shift + shift ≡ offset = omega (arith, room) in
    ap (λ k. k % atom) (sym zero)
    ∙ ap (λ k. (offset - shift + k) % atom) (sym even)
    ∙ add-mod-mod (offset - shift) shift atom ∙ ap (λ k. k % atom) joined ∙ whole

put_behind : (shift offset atom : ℕ) → shift % atom ≡ 0 → offset % atom ≡ 0
    → (offset + shift) % atom ≡ 0
put_behind shift offset atom even whole =
    let zero : offset + 0 ≡ offset = omega arith in
    sym (add-mod-mod offset shift atom) ∙ ap (λ k. (offset + k) % atom) even
    ∙ ap (λ k. k % atom) zero ∙ whole

pub new-whole-place : (atom : ℕ) (d : Direction) (r : Resilience) (offset bytes last : ℕ)
    → IsSafe atom d r offset bytes last → offset % atom ≡ 0 → offset_by d r offset % atom ≡ 0
new-whole-place atom d Journal offset bytes last safe whole = whole
new-whole-place atom d (Checksum k) offset bytes last safe whole = whole
new-whole-place atom Forward (Datashift shift) offset bytes last safe whole =
    taken shift offset atom safe.0 safe.1 whole
new-whole-place atom Backward (Datashift shift) offset bytes last safe whole =
    put_behind shift offset atom safe.0 whole

reaches : (dynamic : Bool) (offset bytes last : ℕ) → offset + bytes ≤ last
    → offset + bytes_by last offset (size_by dynamic bytes) ≤ last
reaches true offset bytes last on = omega (arith, on)
reaches false offset bytes last on = on

pub new-on-disk : (atom : ℕ) (d : Direction) (r : Resilience) (size : SegmentSize)
    (offset bytes last : ℕ) → IsSafe atom d r offset bytes last → offset + bytes ≤ last
    → offset_by d r offset
    + bytes_by last (offset_by d r offset) (size_by (stays_dynamic r size) bytes) ≤ last
new-on-disk atom d Journal size offset bytes last safe on =
    reaches (is_dynamic size) offset bytes last on
new-on-disk atom d (Checksum k) size offset bytes last safe on =
    reaches (is_dynamic size) offset bytes last on
new-on-disk atom Forward (Datashift shift) size offset bytes last safe on = omega (arith, on)
new-on-disk atom Backward (Datashift shift) size offset bytes last safe on =
    let room = safe.1 in omega (arith, room)

pub new-fits-place : (atom : ℕ) (d : Direction) (r : Resilience) (offset bytes last : ℕ)
    → IsSafe atom d r offset bytes last → fits_place atom r offset (offset_by d r offset) ≡ true
new-fits-place atom d Journal offset bytes last safe = eq-eqb offset offset refl
new-fits-place atom d (Checksum k) offset bytes last safe =
    and_from (eqb k atom) (eqb offset offset) (eq-eqb k atom safe) (eq-eqb offset offset refl)
new-fits-place atom d (Datashift shift) offset bytes last safe = refl

-- a shift that has room for a block is one
some_shift : (shift atom : ℕ) → 0 < shift / atom → 0 < shift
some_shift shift atom room =
    let most = div-le_self shift atom in omega (arith, most, room)

pub new-shift : (atom size : ℕ) (d : Direction) (r : Resilience) (offset bytes last : ℕ)
    → IsSafe atom d r offset bytes last → 0 < capacity_by atom size r
    → HasShift d r offset (offset_by d r offset)
new-shift atom size d Journal offset bytes last safe room = tt
new-shift atom size d (Checksum k) offset bytes last safe room = tt
new-shift atom size Forward (Datashift shift) offset bytes last safe room =
    let fits = safe.1 in (some_shift shift atom room, omega (arith, fits))
new-shift atom size Backward (Datashift shift) offset bytes last safe room =
    (some_shift shift atom room, refl)

pub start-opens : (r : Resilience) (zone : ℕ) → zone ≡ 0 → may_open r zone ≡ true
start-opens Journal zone closed = refl
start-opens (Checksum k) zone closed = refl
start-opens (Datashift k) zone closed = eq-eqb zone 0 closed

-- ---- how the new one is encrypted
module _ (w : Wish) where
  pub new-starts : (mode : Mode) → starts_at_0 (encryption_for w mode) ≡ true
  new-starts Reencrypt = refl
  new-starts Encrypt = refl
  new-starts Decrypt = refl

  pub new-own-digest : (mode : Mode) (key : Option (Luks2 × Digest)) (number : ℕ)
      → has_key mode (is_some key) ≡ true
      → has_own_digest (encryption_for w mode) (option_map (λ k. number) key) ≡ true
  new-own-digest Reencrypt None number has = has
  new-own-digest Reencrypt (Some k) number has = refl
  new-own-digest Encrypt None number has = has
  new-own-digest Encrypt (Some k) number has = refl
  new-own-digest Decrypt None number has = refl
  new-own-digest Decrypt (Some k) number has = has

  pub new-encryption : (mode : Mode)
      → IfSome (encryption_for w mode) (λ e. is_sector_size e.sector_size ≡ true)
      → IfSome (encryption_for w mode) IsEncryption
  new-encryption Reencrypt known = record { iv_tweak = omega arith; sector_size = known }
  new-encryption Encrypt known = record { iv_tweak = omega arith; sector_size = known }
  new-encryption Decrypt known = tt

  pub new-numbers : (mode : Mode) (bytes : ℕ) → bytes < 2 ^ 63
      → IfSome (encryption_for w mode) (λ e. e.iv_tweak + bytes / 512 ≤ 2 ^ 64 - 1)
  new-numbers Reencrypt bytes few = omega (arith, few)
  new-numbers Encrypt bytes few = omega (arith, few)
  new-numbers Decrypt bytes few = tt

known_some : (n : ℕ) → is_sector_size n ≡ true → 0 < n
known_some zero known = let bad : false ≡ true = known in cc
known_some (suc n) known = omega arith

pub new-sectors : (atom : ℕ) (o : Option Encryption)
    → IfSome o (λ e. is_sector_size e.sector_size ≡ true)
    → IfSome o (λ e. atom % e.sector_size ≡ 0)
    → IfSome o (λ e. (0 < e.sector_size) × (atom % e.sector_size ≡ 0))
new-sectors atom None known whole = tt
new-sectors atom (Some e) known whole = (known_some e.sector_size known, whole)

-- ---- the old one is under its digest exactly where it is encrypted
pub old-own-digest : (e : Option Encryption) (d : Option ℕ) → (IsSome e → IsSome d)
    → (e ≡ None → d ≡ None) → has_own_digest e d ≡ true
old-own-digest None None crypt linear = refl
old-own-digest None (Some d) crypt linear = let none = linear refl in cc
old-own-digest (Some e) None crypt linear = let bad : false ≡ true = crypt refl in cc
old-own-digest (Some e) (Some d) crypt linear = refl
