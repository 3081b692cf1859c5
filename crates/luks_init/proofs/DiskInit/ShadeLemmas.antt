-- What a disk would tell of its tables that tells its bytes, where all its calls are done: a table of
-- the same bytes behind each of them.
use Rattle.std.proofs.Common.{◌≡◌, ◌∙◌, ℕ, ◌+◌, ◌*◌, ◌/◌, ◌%◌, ◌<◌, ◌≤◌, List, [], ◌∷◌, length, map}
use Rattle.std.proofs.Common.{replicate, Some, inl, inr, refl, sym, ap, subst, arith}
use Rattle.std.proofs.Math.Nat.{le_of_mul-le-mul_right}
use Rattle.base_terms.proofs.BlockLemmas.{joined-blocks_of, lengths-blocks_of}
use Rattle.base_terms.specs.Blocks.{blocks_of, joined, lengths}
use Rattle.luks_store.specs.SlotCommits.Calls.{MakesCall, MakesCalls, SlotCall, commits, copy_size}
use Rattle.luks_store.specs.SlotCommits.Calls.{primary_in, secondary_in, syncs_area, writes_area}
use Rattle.luks_store.specs.declared.header_copies.commit.Stage.TheVariants.{Begun, FirstWritten, FirstKept}
use Rattle.luks_store.specs.declared.header_copies.commit.Stage.TheVariants.{SecondWritten, Ended}
use Rattle.luks_store.specs.declared.slot_commit.writing.SlotCommit.{SlotCommit}
use Rattle.sector_disk.proofs.CellLemmas.{content_wrote, currents_sures, currents_synced, even_wrote}
use Rattle.sector_disk.proofs.StepLemmas.{moves}
use Rattle.sector_disk.specs.Cells.{Cell, content, currents, sures, synced, wrote}
use Rattle.sector_disk.specs.Devices.{Device, SyncCall, WriteCall, succeeded}
use Rattle.sector_disk.specs.Geometry.{IsInDisk}
use Rattle.sector_disk.specs.Steps.{Told, fresh, then_table, then_written}
use Rattle.base_terms.specs.Blocks.{changed}

-- the same disk, which tells these tables
abbrev pub shade : Device → Told → Device
shade device told = record device { told = Some told }

-- the table is that of its bytes, in its atoms
pub record IsShade (device : Device) (told : Told) : Type 0 where
  pub even : lengths (currents told.now) ≡ replicate device.atoms device.size
  pub agrees : device.values ≡ Some (content told.now)

-- a call of the disk is one of the disk that tells tables too
pub record Shades (Call : Device → Device → Type 0) (old new : Device) (told : Told) : Type 0 where
  pub next : Told
  pub is : IsShade new next
  pub size : new.size ≡ old.size
  pub atoms : new.atoms ≡ old.atoms
  pub call : Call (shade old told) (shade new next)

-- ---- a table that is certain
abbrev pub sure_cells : Device → List ℕ → List Cell
sure_cells device bytes = sures (blocks_of device.size device.atoms bytes)

abbrev pub sure_table : Device → List ℕ → Told
sure_table device bytes = fresh (map synced (sure_cells device bytes))

same_currents : (device : Device) (bytes : List ℕ) → currents (map synced (sure_cells device bytes))
    ≡ blocks_of device.size device.atoms bytes
same_currents device bytes = currents_synced (sure_cells device bytes)
    ∙ currents_sures (blocks_of device.size device.atoms bytes)

pub sure_content : (device : Device) (bytes : List ℕ) → length bytes ≡ device.atoms * device.size
    → content (map synced (sure_cells device bytes)) ≡ bytes
unfolding content
sure_content device bytes long = ap joined (same_currents device bytes)
    ∙ joined-blocks_of device.size device.atoms bytes long

pub sure_shade : (device : Device) (bytes : List ℕ) → device.values ≡ Some bytes
    → length bytes ≡ device.atoms * device.size → IsShade device (sure_table device bytes)
sure_shade device bytes values long = record {
  even = ap lengths (same_currents device bytes)
      ∙ lengths-blocks_of device.size device.atoms bytes long;
  agrees = values ∙ ap Some (sym (sure_content device bytes long));
}

-- ---- one call
shade_sync : (old new : Device) (told : Told) → IsShade old told → SyncCall old new succeeded
    → Shades (λ a b. SyncCall a b succeeded) old new told
unfolding content
shade_sync old new told is call =
    let same : currents (map synced told.now) ≡ currents told.now = currents_synced told.now in
    record {
      next = then_table told (map synced told.now);
      is = record {
        even = ap lengths same ∙ is.even ∙ ap (λ n. replicate n old.size) (sym call.atoms)
            ∙ ap (λ n. replicate new.atoms n) (sym call.size);
        agrees = call.values ∙ is.agrees ∙ ap (λ values. Some (joined values)) (sym same);
      };
      size = call.size;
      atoms = call.atoms;
      call = record {
        size = call.size;
        atoms = call.atoms;
        tail = call.tail;
        values = call.values;
        told = moves (λ cells next. next ≡ map synced cells) told
            (then_table told (map synced told.now)) (map synced told.now) refl refl;
        goes_on = λ before is. inl refl;
        cause = call.cause;
      };
    }

whole_atoms : (len atom : ℕ) → 0 < atom → len % atom ≡ 0 → len ≡ len / atom * atom
whole_atoms len atom some whole = grind arith

ends_within : (atom atoms at len : ℕ) → 0 < atom → IsInDisk atom atoms at len
    → at + len / atom ≤ atoms
ends_within atom atoms at len some place =
    let bytes : len ≡ len / atom * atom = whole_atoms len atom some place.whole in
    let within : at * atom + len ≤ atoms * atom = place.within in
    let most : (at + len / atom) * atom ≤ atoms * atom = grind arith in
    le_of_mul-le-mul_right most some

shade_write : (place_of : ℕ → ℕ) (body : List ℕ) (old new : Device) (told : Told) → 0 < old.size
    → IsInDisk old.size old.atoms (place_of old.size) (length body) → IsShade old told
    → WriteCall old.size (place_of old.size) body old new succeeded
    → Shades (λ a b. WriteCall a.size (place_of a.size) body a b succeeded) old new told
shade_write place_of body old new told some place is call =
    let at = place_of old.size in
    let n = length body / old.size in
    let whole : length body ≡ n * old.size = whole_atoms (length body) old.size some place.whole in
    let next = then_written old.size told at body in
    let even = even_wrote old.atoms old.size at n told.now body is.even whole in
    let text = content_wrote old.atoms old.size at n told.now body is.even
    (ends_within old.size old.atoms at (length body) some place) whole in
    record {
      next = next;
      is = record {
        even = even ∙ ap (λ k. replicate k old.size) (sym call.atoms)
            ∙ ap (λ k. replicate new.atoms k) (sym call.size);
        agrees = call.values (content told.now) is.agrees ∙ ap Some (sym text);
      };
      size = call.size;
      atoms = call.atoms;
      call = record {
        size = call.size;
        atoms = call.atoms;
        tail = call.tail;
        values = call.values;
        told = moves
            (λ cells later. later ≡ changed wrote cells at (blocks_of old.size n body))
            told next (changed wrote told.now at (blocks_of old.size n body)) refl refl;
        goes_on = λ before is. inl refl;
        cause = call.cause;
      };
    }

-- ---- the calls of a new keyslot
-- all that is written lies on the disk
pub record LiesOn (slot : SlotCommit) (size atoms : ℕ) : Type 0 where
  pub area : IsInDisk size atoms (slot.area_offset / size) (length slot.area)
  pub first : IsInDisk size atoms 0 (length (primary_in slot))
  pub second : IsInDisk size atoms (copy_size slot / size) (length (secondary_in slot))

shade_call : (slot : SlotCommit) (call : SlotCall) (old new : Device) (told : Told) → 0 < old.size
    → LiesOn slot old.size old.atoms → IsShade old told → MakesCall slot call old new succeeded
    → Shades (λ a b. MakesCall slot call a b succeeded) old new told
shade_call slot writes_area old new told some lies is call =
    shade_write (λ size. slot.area_offset / size) slot.area old new told some lies.area is call
shade_call slot syncs_area old new told some lies is call = shade_sync old new told is call
shade_call slot (commits Begun) old new told some lies is call =
    shade_write (λ size. 0) (primary_in slot) old new told some lies.first is call
shade_call slot (commits FirstWritten) old new told some lies is call =
    shade_sync old new told is call
shade_call slot (commits FirstKept) old new told some lies is call =
    shade_write (λ size. copy_size slot / size) (secondary_in slot) old new told some lies.second is
    call
shade_call slot (commits SecondWritten) old new told some lies is call =
    shade_sync old new told is call
shade_call slot (commits Ended) old new told some lies is call = absurd call

-- all of them
pub record ShadesAll (slot : SlotCommit) (calls : List SlotCall) (old new : Device) (told : Told) :
    Type 0 where
  pub next : Told
  pub is : IsShade new next
  pub calls_are : MakesCalls slot calls (shade old told) (shade new next) succeeded

pub shade_calls : (slot : SlotCommit) (calls : List SlotCall) (old new : Device) (told : Told)
    → 0 < old.size → LiesOn slot old.size old.atoms → IsShade old told
    → MakesCalls slot calls old new succeeded → ShadesAll slot calls old new told
unfolding MakesCalls
shade_calls slot [] old new told some lies is (same, done) = record {
  next = told;
  is = subst (λ (device : Device). IsShade device told) (sym same) is;
  calls_are = (ap (λ (device : Device). shade device told) same, refl);
}
shade_calls slot (call ∷ calls) old new told some lies is (inl (failed, never)) = absurd (cc)
shade_calls slot (call ∷ calls) old new told some lies is (inr (between, made, rest)) =
    let one = shade_call slot call old between told some lies is made in
    let all = shade_calls slot calls between new one.next
    (subst (λ (n : ℕ). 0 < n) (sym one.size) some)
    (subst (λ (n : ℕ). LiesOn slot between.size n) (sym one.atoms)
    (subst (λ (n : ℕ). LiesOn slot n old.atoms) (sym one.size) lies)) one.is rest in
    record {
      next = all.next;
      is = all.is;
      calls_are = inr (shade between one.next, one.call, all.calls_are);
    }
