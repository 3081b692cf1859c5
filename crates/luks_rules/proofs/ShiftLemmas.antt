-- Lemmas on the shift between two segments.
use Rattle.std.proofs.Common.{◌≡◌, ◌+◌, ◌<◌, ℕ, not, eqb, Some, false, refl, sym, arith}
use Rattle.std.proofs.lemmas.Bool.{eqb-true, eq-eqb, ne_eqb, not-false, not_from_true, or_from}
use Rattle.std.proofs.lemmas.Bool.{or_parts}
use Rattle.luks_meta.specs.declared.reencrypt.Direction.{Direction}
use Rattle.luks_meta.specs.declared.reencrypt.Direction.TheVariants.{Forward, Backward}
use Rattle.luks_meta.specs.declared.reencrypt.Resilience.{Resilience}
use Rattle.luks_meta.specs.declared.reencrypt.Resilience.TheVariants.{Journal, Checksum, Datashift}
use Rattle.luks_rules.specs.Rooms.{breaks_shift, is_shifted, lacks_shift, HasShift, IsBetween}
use Rattle.luks_rules.specs.declared.shape.Progress.{Progress}

some : (n : ℕ) → eqb n 0 ≡ false → 0 < n
some n h = grind arith

between : (direction : Direction) (shift old new : ℕ)
    → not (is_shifted direction shift old new) ≡ false
    → IsBetween direction shift old new
between Forward shift old new h = sym (eqb-true old (new + shift) (not-false _ h))
between Backward shift old new h = sym (eqb-true new (old + shift) (not-false _ h))

is-between : (direction : Direction) (shift old new : ℕ) → IsBetween direction shift old new
    → not (is_shifted direction shift old new) ≡ false
is-between Forward shift old new h = not_from_true _ (eq-eqb old (new + shift) (sym h))
is-between Backward shift old new h = not_from_true _ (eq-eqb new (old + shift) (sym h))

shift-of : (direction : Direction) (resilience : Resilience) (old new : ℕ)
    → lacks_shift direction resilience old new ≡ false → HasShift direction resilience old new
shift-of direction Journal old new h = tt
shift-of direction (Checksum n) old new h = tt
shift-of direction (Datashift shift) old new h =
    let parts = or_parts (eqb shift 0) (not (is_shifted direction shift old new)) h in
    (some shift parts.0, between direction shift old new parts.1)

shift-from : (direction : Direction) (resilience : Resilience) (old new : ℕ)
    → HasShift direction resilience old new → lacks_shift direction resilience old new ≡ false
shift-from direction Journal old new h = refl
shift-from direction (Checksum n) old new h = refl
shift-from direction (Datashift shift) old new h =
    or_from _ _ (ne_eqb _ _ (λ z. absurd (omega (arith, h.0, z))))
    (is-between direction shift old new h.1)

pub has-shift : (p : Progress) → breaks_shift (Some p) ≡ false
    → HasShift p.conversion.direction p.conversion.resilience p.old.offset p.new.offset
has-shift p h = shift-of p.conversion.direction p.conversion.resilience p.old.offset p.new.offset h

pub from-shift : (p : Progress)
    → HasShift p.conversion.direction p.conversion.resilience p.old.offset p.new.offset
    → breaks_shift (Some p) ≡ false
from-shift p h =
    shift-from p.conversion.direction p.conversion.resilience p.old.offset p.new.offset h
