-- What guards the zones of a conversion of whose blocks something is saved, as a header's meaning tells it
-- and as the laws of zones name it.
use Rattle.std.proofs.Common.{◌≡◌, ◌*◌, ◌<◌, ◌≤◌, inl, inr, ℕ, arith, refl, subst}
use Rattle.std.proofs.lemmas.Bool.{cases_lt}
use Rattle.crash_laws.specs.HotZones.Zones.{Hotzone, checksum, datashift, journal}
use Rattle.crash_laws.specs.HotZones.Zones.{Resilience as Kind}
use Rattle.hotzone.specs.Sites.{IsSaved}
use Rattle.luks_meta.specs.declared.reencrypt.Resilience.{Resilience as Guard}
use Rattle.luks_meta.specs.declared.reencrypt.Resilience.TheVariants.{Checksum, Datashift, Journal}
use Rattle.image_laws.specs.Opened.Zones.{guard_of}
use Rattle.volume_machine.specs.Working.{HasRoom}
use Rattle.hotzone.specs.ZoneEvents.Tellings.{resilience_of}

pub same-guard : (r : Guard) → resilience_of r ≡ guard_of r
same-guard Journal = refl
same-guard (Checksum n) = refl
same-guard (Datashift n) = refl

-- something is saved just where blocks aren't shifted
pub not-shifted : (r : Guard) → IsSaved r → resilience_of r ≡ datashift → ⊥
not-shifted Journal saved is = (let e : journal ≡ datashift = is in cc)
not-shifted (Checksum n) saved is = (let e : checksum ≡ datashift = is in cc)
not-shifted (Datashift n) saved is = absurd saved

pub is-saved : (r : Guard) → (resilience_of r ≡ datashift → ⊥) → IsSaved r
is-saved Journal not = tt
is-saved (Checksum n) not = tt
is-saved (Datashift n) not = absurd (not refl)

-- a zone with blocks has an atom at least of what is saved of them
none-saved : (atom own count : ℕ) → count ≡ 0 → own * 32 ≤ count * atom → 0 < own → ⊥
none-saved atom own count none room some =
    let few : own * 32 ≤ 0 * atom = subst (λ n. own * 32 ≤ n * atom) none room in
    omega (arith, few, some)

pub some-saved : {M : Type 0} (r : Kind) (atom : ℕ) (zone : Hotzone M) → (r ≡ datashift → ⊥)
    → HasRoom r atom zone → 0 < zone.own.count → 0 < zone.store.count
some-saved journal atom zone not room some = omega (arith, room, some)
some-saved checksum atom zone not room some = elim (cases_lt 0 zone.store.count) as
    (λ _. 0 < zone.store.count) [
      | inl there ↦ there
      | inr none ↦ absurd
          (none-saved atom zone.own.count zone.store.count (omega (arith, none)) room some)
    ]
some-saved datashift atom zone not room some = absurd (not refl)
