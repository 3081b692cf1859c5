-- The next piece of an operation: there is only one, and it lies on the disk.
use Rattle.std.proofs.Common.{None, Option, Some, ap, arith, inl, inr, mul-le-mul_right, refl, suc, sym}
use Rattle.std.proofs.Common.{ℕ, ◌*◌}
use Rattle.std.proofs.Common.{◌+◌, ◌<◌, ◌∙◌, ◌≡◌, ◌≤◌}
use Rattle.std.proofs.lemmas.Bool.{cases_lt}
use Rattle.base_terms.specs.declared.block_range.BlockRange.{BlockRange}
use Rattle.segment_map.specs.Maps.{IsNextPiece, place_at, place_on, side_at}
use Rattle.segment_map.specs.declared.Side.{Side}
use Rattle.segment_map.specs.declared.Side.TheVariants.{New}
use Rattle.segment_map.specs.declared.map.Map.{Map}
use Rattle.segment_map.specs.declared.map.Piece.{Piece}
use Rattle.volume_machine.specs.Pieces.{AgreeOn, IsPieceOf, place_in, place_of, rest_of}
use Rattle.volume_machine.specs.Sound.{MapFits}
use Rattle.volume_machine.specs.declared.open.Open.{Open}

first_side : (m : Map) (range : BlockRange) (piece : Piece) → IsNextPiece m range piece
    → side_at m range.start ≡ Some piece.side
first_side m range piece is =
    let e : range.start + 0 ≡ range.start = omega arith in rw e at (is.one_side 0 is.some)

same_side : (m : Map) (range : BlockRange) (p q : Piece) → IsNextPiece m range p
    → IsNextPiece m range q → p.side ≡ q.side
same_side m range p q is_p is_q =
    let of_p = first_side m range p is_p in let of_q = first_side m range q is_q in cc

no_longer : (m : Map) (range : BlockRange) (p q : Piece) → IsNextPiece m range p
    → IsNextPiece m range q → p.count < q.count → ⊥
no_longer m range p q is_p is_q less = elim is_p.longest [
  | inl ends ↦ omega arith
  | inr goes_on ↦ elim goes_on [
    | inl full ↦
        let more : suc p.count * m.atom ≤ q.count * m.atom =
        mul-le-mul_right m.atom (omega arith) in
        omega arith
    | inr turns ↦ turns (is_q.one_side p.count less
        ∙ ap (λ (s : Side). Some s) (sym (same_side m range p q is_p is_q)))
  ]
]

same_count : (m : Map) (range : BlockRange) (p q : Piece) → IsNextPiece m range p
    → IsNextPiece m range q → p.count ≡ q.count
same_count m range p q is_p is_q =
    omega (arith, no_longer m range p q is_p is_q, no_longer m range q p is_q is_p)

piece_by : (p q : Piece) → p.first ≡ q.first → p.count ≡ q.count → p.side ≡ q.side → p ≡ q
piece_by p q first count side =
    let at : ℕ → ℕ → Side → Piece = λ f n s. record { first = f; count = n; side = s } in
    ap (λ (f : ℕ). at f p.count p.side) first ∙ ap (λ (n : ℕ). at q.first n p.side) count
    ∙ ap (λ (s : Side). at q.first q.count s) side

-- there is one next piece
pub next_is_one : (m : Map) (range : BlockRange) (p q : Piece) → IsNextPiece m range p
    → IsNextPiece m range q → p ≡ q
next_is_one m range p q is_p is_q = piece_by p q (is_p.first
    ∙ sym is_q.first) (same_count m range p q is_p is_q) (same_side m range p q is_p is_q)

-- the place of its first block is its own
pub place-of : (m : Map) (o : Open) (piece : Piece) (place : ℕ) → IsPieceOf m o piece
    → place_at m piece.first ≡ Some place → place ≡ place_of m piece
place-of m o piece place next is =
    let side : side_at m piece.first ≡ Some piece.side =
    rw next.first (first_side m (rest_of o) piece next) in
    let found = rw side at is in cc

-- the place of any block is its own
pub place-in : (m : Map) (block place : ℕ) → place_at m block ≡ Some place → place ≡ place_in m block
place-in m block place is = by (side_at m block) refl
  where
    by : (side : Option Side) → side_at m block ≡ side → place ≡ place_in m block
    by None at = absurd (let none = rw at at is in cc)
    by (Some side) at = let found = rw at at is in rw at (cc)

-- it lies on the disk
pub on_disk : (map : Map) (atoms first count : ℕ) (side : Side) → MapFits map atoms
    → first + count ≤ map.blocks → place_on map first side + count ≤ atoms
on_disk map atoms first count New fits within = omega arith
on_disk map atoms first count _ fits within = omega arith

-- maps that have the blocks of a range alike
pub agrees_itself : (range : BlockRange) (map : Map) → AgreeOn range map map
agrees_itself range map =
    record { atom = refl; sides = λ b from to. refl; places = λ b from to. refl }

pub agrees_now : (range : BlockRange) (one other now : Map) → now ≡ other → AgreeOn range one other
    → AgreeOn range one now
agrees_now range one other now same agree = rw same agree

-- they have one next piece
pub next_agrees : (one other : Map) (range all : BlockRange) (piece : Piece) → AgreeOn all one other
    → all.start ≤ range.start → range.end ≤ all.end →
    IsNextPiece one range piece → IsNextPiece other range piece
next_agrees one other range all piece agree from to next = record {
  first = next.first;
  some = next.some;
  within = next.within;
  one_side = λ k below. sym (agree.sides (range.start + k) (omega arith) (omega arith))
      ∙ next.one_side k below;
  limit = rw agree.atom at next.limit;
  longest = elim next.longest [
    | inl ends ↦ inl ends
    | inr (inl full) ↦ inr (inl (rw agree.atom at full))
    | inr (inr turns) ↦ elim (cases_lt (range.start + piece.count) range.end) [
      | inl inside ↦ inr (inr (λ same.
          turns (agree.sides (range.start + piece.count) (omega arith) (omega arith) ∙ same)))
      | inr ends ↦ inl (omega arith)
    ]
  ];
}
