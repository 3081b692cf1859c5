-- Lemmas on parts of a zone's atoms, and on what is saved of them.
use Rattle.std.proofs.Common.{List, ap, ap₂, arith, refl, suc, sym, zero, ℕ, ◌*◌, ◌+◌, ◌-◌, ◌/◌}
use Rattle.std.proofs.Common.{◌<◌, ◌∙◌, ◌≡◌, ◌++◌, replicate}
use Rattle.crash_laws.specs.HotZones.Zones.{Resilience, checksum, datashift, journal}
use Rattle.crash_laws.specs.HotZones.Zones.{Hotzone}
use Rattle.sha2.specs.Sha256.{sha256}
use Rattle.volume_machine.specs.Saved.{digest_atom, digests, digests_in, saved_of}
use Rattle.volume_machine.specs.Working.{HasRoom}
use Rattle.volume_laws.proofs.Invariant.{IsPartOf}

-- a part of other values that are the same
pub part_same : {atom first total : ℕ} {values : ℕ → List ℕ} (next : ℕ → List ℕ) {text : List ℕ}
    → ((i : ℕ) → i < total → next i ≡ values i) → IsPartOf atom first total values text
    → IsPartOf atom first total next text
part_same {first = first} next same part = record {
  count = part.count;
  size = part.size;
  within = part.within;
  each = λ k below. (let within = part.within in
      part.each k below ∙ sym (same (first + k) (omega (arith, within, below))));
}

pub digests_same : (old next : ℕ → List ℕ) (first n : ℕ)
    → ((k : ℕ) → k < n → next (first + k) ≡ old (first + k))
    → digests next first n ≡ digests old first n
unfolding digests
digests_same old next first zero same = refl
digests_same old next first (suc n) same =
    ap₂ (λ digest rest. digest ++ rest)
    (ap sha256 (ap next (let e : first ≡ first + 0 = omega arith in e) ∙ same 0 (omega arith)
    ∙ ap old (let e : first + 0 ≡ first = omega arith in e)))
    (digests_same old next (suc first) n (λ k below.
    ap next (let e : suc first + k ≡ first + suc k = omega arith in e)
    ∙ same (suc k) (omega (arith, below))
    ∙ ap old (let e : first + suc k ≡ suc first + k = omega arith in e)))

-- atoms of digests of atoms that are the same
digest_atom_same : (atom count : ℕ) (old next : ℕ → List ℕ) (i : ℕ)
    → ((j : ℕ) → j < count → next j ≡ old j)
    → digest_atom atom count next i ≡ digest_atom atom count old i
digest_atom_same atom count old next i same =
    ap (λ text. text ++ replicate (atom - digests_in atom count i * 32) 0)
    (digests_same old next (i * (atom / 32)) (digests_in atom count i) (λ k below.
    let least : k < count - i * (atom / 32) = within k below in
    same (i * (atom / 32) + k) (omega (arith, least))))
  where
    within : (k : ℕ) → k < digests_in atom count i → k < count - i * (atom / 32)
    within k below = omega (arith, below)

-- what is saved of atoms that are the same
pub saved_same : {M : Type 0} (resilience : Resilience) (atom : ℕ) (zone : Hotzone M)
    (old next : ℕ → List ℕ) (i : ℕ) → HasRoom resilience atom zone → i < zone.store.count
    → ((j : ℕ) → j < zone.own.count → next j ≡ old j)
    → saved_of resilience atom zone.own.count next i ≡ saved_of resilience atom zone.own.count old i
saved_same journal atom zone old next i room below same = same i (omega (arith, room, below))
saved_same checksum atom zone old next i room below same =
    digest_atom_same atom zone.own.count old next i same
saved_same datashift atom zone old next i room below same = refl
