-- A map of the same blocks at the same places turns those of a range.
use Rattle.std.proofs.Common.{◌≡◌, ◌∙◌, ℕ, ◌+◌, ◌*◌, ◌^◌, ◌<◌, ◌≤◌}
use Rattle.std.proofs.Common.{refl, sym, ap, subst, arith}
use Rattle.base_terms.specs.declared.block_range.BlockRange.{BlockRange}
use Rattle.sector_disk.specs.Geometry.{IsAtom}
use Rattle.segment_map.specs.declared.Side.{Side}
use Rattle.segment_map.specs.declared.map.Map.{Map}
use Rattle.volume_machine.specs.Courses.{IsBeyond, Turns}
use Rattle.volume_machine.specs.Pieces.{side_in}
use Rattle.volume_machine.specs.Sound.{MapFits}
use Rattle.hotzone.proofs.ZoneEvents.SideLemmas.{place-is, side-as, side-beyond}

-- a map that has the same blocks at the same places
pub record IsAlike (now next : Map) : Type 0 where
  pub atom : next.atom ≡ now.atom
  pub blocks : next.blocks ≡ now.blocks
  pub old_place : next.old_place ≡ now.old_place
  pub now_same : now.new_place ≡ now.old_place
  pub next_same : next.new_place ≡ next.old_place

pub turns-by : (atoms : ℕ) (range : BlockRange) (side : Side) (start : ℕ) (now next : Map)
    → IsAlike now next → MapFits now atoms
    → ((b : ℕ) → range.start ≤ b → b < range.end → start ≡ now.old_place + range.start)
    → ((b : ℕ) → b < now.blocks → IsBeyond range b → side_in next b ≡ side_in now b)
    → ((b : ℕ) → range.start ≤ b → b < range.end → side_in next b ≡ side)
    → Turns atoms range side start now next
turns-by atoms range side start now next alike fits begin rest turned =
    let atom = alike.atom in
    let blocks = alike.blocks in
    let place = alike.old_place in
    let one = alike.now_same in
    let two = alike.next_same in
    let old = fits.old_places in
    record {
      atom = atom;
      blocks = blocks;
      fits = record {
        known = subst IsAtom (sym atom) fits.known;
        small = subst (λ n. n < 2 ^ 63)
            (sym (ap (λ b. b * next.atom) blocks ∙ ap (λ a. now.blocks * a) atom)) fits.small;
        old_places = omega (arith, old, place, blocks);
        new_places = omega (arith, old, place, blocks, two);
      };
      apart = λ a b inside within same.
          (let first = place-is next a two in let second = place-is next b two in
          omega (arith, first, second, same));
      same_sides = rest;
      same_places = λ b inside beyond.
          place-is next b two ∙ ap (λ n. n + b) place ∙ sym (place-is now b one);
      sides = turned;
      places = λ b from below.
          (let at = place-is next b two in let first = begin b from below in
          omega (arith, at, place, first, from));
      zoned = λ b from.
          side-as next next.direction next.blocks next.boundary next.zone b refl refl refl refl
          ∙ side-beyond next.direction next.blocks next.boundary next.zone b next.within
          next.zone_left (omega (arith, blocks, from));
    }
