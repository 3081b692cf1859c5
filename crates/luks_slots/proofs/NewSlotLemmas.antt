-- A new keyslot has a text, and its area's bytes open it.
use Rattle.std.proofs.Common.{◌≡◌, inl, inr, ℕ, ◌+◌, ◌*◌, ◌%◌, ◌^◌, ◌<◌, ◌≤◌, nat_le}
use Rattle.std.proofs.Common.{true}
use Rattle.std.proofs.Common.{List, [], length, take, drop, Some, refl, sym, ◌∙◌, ap, subst, arith}
use Rattle.std.proofs.Math.Nat.{mul-mod_left}
use Rattle.std.proofs.lemmas.Bool.{le-leb}
use Rattle.std.proofs.lemmas.Grind.{div_ceil_times}
use Rattle.std.proofs.lemmas.List.{take-take}
use Rattle.std.specs.Int.{div_ceil}
use Rattle.std.specs.List.{slice_index}
use Rattle.af_split.specs.Af.{merged}
use Rattle.luks_meta.specs.Keyslots.{IsLuks2}
use Rattle.luks_meta.specs.Names.{is_iterations}
use Rattle.luks_meta.specs.declared.digest.Digest.{Digest}
use Rattle.luks_meta.specs.declared.keyslot.Luks2.{Luks2}
use Rattle.luks_meta.specs.declared.meta.Parts.{Parts}
use Rattle.luks_slots.proofs.AreaLemmas.{some-atom}
use Rattle.luks_slots.proofs.GapLemmas.{least-rounded, not-before, whole-rounded}
use Rattle.luks_slots.specs.Functions.{functions_of}
use Rattle.luks_slots.specs.Gaps.{IsLowest}
use Rattle.luks_slots.specs.NewSlots.{area_bytes, area_key_of, area_len, salt_len, slot_for}
use Rattle.luks_slots.specs.NewSlots.{IsAdded, IsSlotAt}
use Rattle.luks_slots.specs.Slots.{fits, functions_for}
use Rattle.luks_slots.specs.Stripes.{area_key, rounded, sectors_len, split_len, stored_key}
use Rattle.luks_slots.specs.Stripes.{stripes_in}
use Rattle.luks_slots.specs.Unlocks.{key_in}
use Rattle.luks_slots.specs.declared.functions.Functions.{Functions}
use Rattle.luks_slots.specs.declared.new_slot.NewSlot.{NewSlot}
use Rattle.pbkdf2_hmac.specs.declared.Hash.TheVariants.{Sha256}
use Rattle.sector_cipher.specs.Context.{opened_under}
use Rattle.sector_cipher.specs.declared.spec.Spec.TheVariants.{AesXtsPlain64}
use Rattle.sector_disk.specs.Geometry.{IsAtom}
use Rattle.serde_json.specs.Data.{no_members}
use Rattle.json_members.specs.Members.{IsPlain}

-- ---- what is opened
abbrev functions : Functions
functions = record { kdf = Sha256; cipher = AesXtsPlain64; af = Sha256 }

enough : (n : ℕ) → nat_le (split_len n) (area_len n) ≡ true
enough n = le-leb _ _ (not-before (split_len n) 4096 (omega arith))

supported : (m : Parts) (d : Digest) (offset n rounds : ℕ) (salt : List ℕ) → fits m d n ≡ true
    → functions_for m d (slot_for offset n rounds salt) ≡ Some functions
unfolding functions_for functions_of slot_for
supported m d offset n rounds salt fit = rw (fit, enough n) refl

pub opens : (m : Parts) (d : Digest) (image pass key drawn area : List ℕ) (offset rounds : ℕ)
    → fits m d (length key) ≡ true → take (length area) (drop offset image) ≡ area
    → sectors_len (length key) ≤ length area
    → merged Sha256 (length key) 4000 (take (split_len (length key))
    (opened_under AesXtsPlain64 (area_key_of pass drawn rounds) 512 0
    (take (sectors_len (length key)) area))) ≡ key
    → key_in m d image pass (slot_for offset (length key) rounds (take salt_len drawn)) ≡ Some key
unfolding key_in stored_key stripes_in area_key area_key_of slot_for
opens m d image pass key drawn area offset rounds fit stands room undone =
    let sectors : take (sectors_len (length key)) (drop offset image)
    ≡ take (sectors_len (length key)) area =
    sym (take-take (sectors_len (length key)) (length area) (drop offset image) room)
    ∙ ap (take (sectors_len (length key))) stands in
    rw (supported m d offset (length key) rounds (take salt_len drawn) fit, sectors)
    (ap (λ k. Some k) undone)

-- ---- its text
none-plain : (deep : ℕ) → IsPlain deep no_members
none-plain deep = record { whole = refl; flat = omega arith }

pub has-text : (offset n rounds : ℕ) (salt : List ℕ) → offset < 2 ^ 64 → n ≤ 64
    → is_iterations rounds ≡ true → ((i : ℕ) → slice_index salt i < 256)
    → IsLuks2 (slot_for offset n rounds salt)
unfolding slot_for
has-text offset n rounds salt place most count bytes =
    let size : area_len n < split_len n + 4096 =
    (div_ceil_times (split_len n) 4096 (omega arith)).1 in
    record {
      area = record {
        offset = place;
        size = omega (arith, size, most);
        lacks = (refl, (refl, (refl, (refl, (refl, tt)))));
        plain = none-plain 123;
      };
      kdf = record {
        derivation = record { iterations = count; salt = bytes };
        lacks = (refl, (refl, (refl, (refl, tt))));
        plain = none-plain 123;
      };
      af = record { lacks = (refl, (refl, (refl, tt))); plain = none-plain 123 };
      lacks = (refl, (refl, (refl, (refl, (refl, (refl, tt))))));
      plain = none-plain 124;
    }

-- ---- its area's bytes
pages-whole : (n atom : ℕ) → IsAtom atom → rounded n 4096 % atom ≡ 0
pages-whole n atom (inl e) =
    let pages : rounded n 4096 ≡ div_ceil n 4096 * 8 * 512 = omega arith in
    rw (e, pages) (mul-mod_left (div_ceil n 4096 * 8) 512)
pages-whole n atom (inr e) = rw e (whole-rounded n 4096)

pub within-pages : (n atom : ℕ) → IsAtom atom → 0 < atom
    → rounded (rounded n 512) atom ≤ rounded n 4096
within-pages n atom known some =
    least-rounded (rounded n 512) atom (rounded n 4096) some
    (least-rounded n 512 (rounded n 4096) (omega arith) (not-before n 4096 (omega arith))
    (pages-whole n 512 (inl refl)))
    (pages-whole n atom known)

-- ---- what is answered
pub iterations : (rounds : ℕ) → 1 ≤ rounds → rounds ≤ 268435456 → is_iterations rounds ≡ true
iterations rounds some most = rw (le-leb 1 rounds some, le-leb rounds 268435456 most) refl

pub made : (offset atom : ℕ) (pass : List ℕ) (rounds : ℕ) (key drawn : List ℕ)
    (keyslot : Luks2) (area : List ℕ)
    → IsAtom atom → IsLuks2 keyslot
    → keyslot ≡ slot_for offset (length key) rounds (take salt_len drawn)
    → area ≡ area_bytes atom pass rounds key drawn
    → length area ≡ rounded (sectors_len (length key)) atom
    → merged Sha256 (length key) 4000 (take (split_len (length key))
    (opened_under AesXtsPlain64 (area_key_of pass drawn rounds) 512 0
    (take (sectors_len (length key)) area))) ≡ key
    → IsSlotAt offset atom pass rounds key drawn (record { keyslot = keyslot; area = area })
unfolding slot_for
made offset atom pass rounds key drawn keyslot area known text is bytes long undone =
    let some = some-atom atom known in
    let at : keyslot.area.offset ≡ offset = ap (λ (s : Luks2). s.area.offset) is in
    let room : keyslot.area.size ≡ area_len (length key) = ap (λ (s : Luks2). s.area.size) is in
    let least = not-before (sectors_len (length key)) atom some in
    let most_bytes = within-pages (split_len (length key)) atom known some in
    record {
      slot = is;
      has_text = text;
      bytes = bytes;
      whole = subst (λ n. n % atom ≡ 0) (sym long)
          (whole-rounded (sectors_len (length key)) atom);
      within = omega (arith, long, room, most_bytes);
      opens = λ m d image fit stands.
          subst (λ (s : Luks2). key_in m d image pass s ≡ Some key) (sym is)
          (opens m d image pass key drawn area offset rounds fit
          (subst (λ o. take (length area) (drop o image) ≡ area) at stands)
          (omega (arith, long, least)) undone);
    }

-- a keyslot at the lowest place is an added one
pub added : (m : Parts) (atom : ℕ) (pass : List ℕ) (rounds : ℕ) (key drawn : List ℕ)
    (offset size : ℕ) (new : NewSlot) → size ≡ area_len (length key)
    → IsLowest m [] atom size offset → IsSlotAt offset atom pass rounds key drawn new
    → IsAdded m atom pass rounds key drawn new
unfolding slot_for
added m atom pass rounds key drawn offset size new sized low made =
    let at : new.keyslot.area.offset ≡ offset = ap (λ (s : Luks2). s.area.offset) made.slot in
    record {
      place = subst (λ n. IsLowest m [] atom n new.keyslot.area.offset) sized
          (subst (λ o. IsLowest m [] atom size o) (sym at) low);
      made = subst (λ o. IsSlotAt o atom pass rounds key drawn new) (sym at) made;
    }
