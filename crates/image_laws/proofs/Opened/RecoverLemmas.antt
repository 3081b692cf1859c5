-- What was saved of a zone's blocks tells the same in images that have the same atoms there.
use Rattle.std.proofs.Common.{◌≡◌, inl, inr, ◌⊎◌, ℕ, zero, suc, ◌+◌, ◌<◌, ◌≤◌, List, ◌++◌}
use Rattle.std.proofs.Common.{refl, sym, ◌∙◌, ap, ap₂, arith}
use Rattle.crash_laws.specs.HeaderAreas.Areas.{Area, Image, text_from, text_in}
use Rattle.crash_laws.specs.HotZones.Standing.{IsKept, Recovers, digest_at}
use Rattle.crash_laws.specs.HotZones.Zones.{Hotzone, Texts, checksum, datashift, journal}
use Rattle.crash_laws.specs.HotZones.Zones.{Resilience as Guard}
use Rattle.volume_machine.specs.Saved.{saved_hash}

-- atoms that are the same have one text
pub same-text : (one other : Image) (start from n : ℕ)
    → ((j : ℕ) → j < n → one (start + j) ≡ other (from + j))
    → text_from one start n ≡ text_from other from n
unfolding text_from
same-text one other start from zero same = refl
same-text one other start from (suc n) same =
    ap₂ (λ x xs. x ++ xs)
    (ap one (let e : start ≡ start + 0 = omega arith in e) ∙ same 0 (omega arith)
    ∙ ap other (let e : from + 0 ≡ from = omega arith in e))
    (same-text one other (suc start) (suc from) n (λ j below.
    ap one (let e : suc start + j ≡ start + suc j = omega arith in e)
    ∙ same (suc j) (omega (arith, below))
    ∙ ap other (let e : from + suc j ≡ suc from + j = omega arith in e)))

module _ {M N : Type 0} (zone : Hotzone M) (other : Hotzone N) (image now : Image)
    (texts next : Texts) (i : ℕ) (store : zone.store ≡ other.store)
    (own : image (zone.own.start + i) ≡ now (other.own.start + i))
    (atoms : (place : ℕ) → zone.store.start ≤ place
    → place < zone.store.start + zone.store.count → image place ≡ now place)
    (old : texts.old i ≡ next.old i) (new : texts.new i ≡ next.new i) where
  told-text : text_in image zone.store ≡ text_in now other.store
  told-text =
      same-text image now zone.store.start zone.store.start zone.store.count
      (λ j below. atoms (zone.store.start + j) (omega arith) (omega (arith, below)))
      ∙ ap (λ (a : Area). text_in now a) store

  pub recovers-as : (r : Guard) → (r ≡ journal → i < zone.store.count)
      → Recovers r saved_hash zone texts image i → Recovers r saved_hash other next now i
  recovers-as journal few is =
      let inside = few refl in
      ap (λ (a : Area). now (a.start + i)) (sym store)
      ∙ sym (atoms (zone.store.start + i) (omega arith) (omega (arith, inside))) ∙ is ∙ old
  recovers-as checksum few is = record {
    is_old = ap (λ text. digest_at saved_hash text i) (sym told-text) ∙ is.is_old
        ∙ ap (λ v. saved_hash.digest v) old;
    differs = λ same.
        is.differs (ap (λ v. saved_hash.digest v) new ∙ same
        ∙ ap (λ text. digest_at saved_hash text i) (sym told-text));
    either = elim is.either
        as (λ _. (now (other.own.start + i) ≡ next.old i)
        ⊎ (now (other.own.start + i) ≡ next.new i)) [
          | inl at ↦ inl (sym own ∙ at ∙ old)
          | inr at ↦ inr (sym own ∙ at ∙ new)
        ];
  }
  recovers-as datashift few is = absurd is

-- by journal each block has an atom that is saved
pub kept-few : (r : Guard) (zone : Hotzone (List ℕ)) (texts : Texts) (i : ℕ)
    → IsKept r saved_hash zone texts → i < zone.own.count → r ≡ journal → i < zone.store.count
kept-few journal zone texts i kept below is = let enough = kept.enough in omega (arith, below, enough)
kept-few checksum zone texts i kept below is = absurd cc
kept-few datashift zone texts i kept below is = absurd cc
