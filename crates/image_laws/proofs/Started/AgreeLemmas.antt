-- Images that are the same but for a run of bytes.
use Rattle.std.proofs.Common.{◌≡◌, inl, inr, ℕ, ◌+◌, ◌-◌, ◌%◌, ◌≤◌, ◌++◌, List, take, drop, sym}
use Rattle.std.proofs.Common.{◌∙◌, ap}
use Rattle.std.proofs.Common.{arith}
use Rattle.std.proofs.lemmas.List.{drop-drop, drop-take, take-take}
use Rattle.std.proofs.lemmas.List.Elements.{All-contains, All-contains_itself, All-weaker}
use Rattle.std.proofs.lemmas.List.Elements.{Contains-append_left}
use Rattle.std.specs.List.{All, Contains}
use Rattle.luks_rules.specs.declared.areas.Area.{Area}
use Rattle.luks_slots.proofs.GapLemmas.{least-rounded}
use Rattle.luks_slots.proofs.ReadyLemmas.{IsWhole}
use Rattle.luks_slots.specs.Gaps.{IsApart}
use Rattle.luks_slots.specs.Stripes.{rounded}
use Rattle.sector_disk.specs.Geometry.{IsAtom}
use Rattle.image_laws.specs.Started.Gaps.{AgreeBut, FrontsLeaveAgreed}

-- what is the same from a byte on is the same from a later one on
later-same : (from at : ℕ) (one other : List ℕ) → from ≤ at → drop from one ≡ drop from other
    → drop at one ≡ drop at other
later-same from at one other le same =
    let split : at ≡ from + (at - from) = omega (arith, le) in
    ap (λ n. drop n one) split ∙ sym (drop-drop (at - from) from one)
    ∙ ap (drop (at - from)) same ∙ drop-drop (at - from) from other
    ∙ sym (ap (λ n. drop n other) split)

-- what is written in front of a byte
pub fronts-leave : FrontsLeaveAgreed
fronts-leave begin offset size first between now le agree same = record {
  before = ap (take (offset - begin)) same ∙ agree.before;
  behind = later-same begin (offset + size) now between le same ∙ agree.behind;
}

-- so many bytes at a place, as a part of those from an earlier byte on
part-at : (begin size at n : ℕ) (image : List ℕ) → begin ≤ at → at + n ≤ begin + size
    → take n (drop at image) ≡ take n (drop (at - begin) (take size (drop begin image)))
part-at begin size at n image le within =
    let split : at ≡ begin + (at - begin) = omega (arith, le) in
    let all : size ≡ (at - begin) + (size - (at - begin)) = omega (arith, le, within) in
    let short : n ≤ size - (at - begin) = omega (arith, le, within) in
    ap (λ k. take n (drop k image)) split ∙ ap (take n) (sym (drop-drop (at - begin) begin image))
    ∙ sym (take-take n (size - (at - begin)) (drop (at - begin) (drop begin image)) short)
    ∙ ap (take n) (sym (drop-take (at - begin) (size - (at - begin)) (drop begin image)))
    ∙ ap (λ k. take n (drop (at - begin) (take k (drop begin image)))) (sym all)

-- the sectors of as many stripes as have room in an area are the same in two images
abbrev pub IsReadAlike : List ℕ → List ℕ → Area → Type 0
IsReadAlike image other a =
    (n : ℕ) → n ≤ a.size
    → take (rounded n 512) (drop a.offset image) ≡ take (rounded n 512) (drop a.offset other)

-- an area of whole atoms has whole sectors
whole-sectors : (atom n : ℕ) → IsAtom atom → n % atom ≡ 0 → n % 512 ≡ 0
whole-sectors atom n (inl is) whole = (let h = rw is at whole in h)
whole-sectors atom n (inr is) whole = (let h = rw is at whole in omega (arith, h))

module _ (begin offset size : ℕ) (first now : List ℕ) (agree : AgreeBut begin offset size first now)
  where
    pub same-behind : (at : ℕ) → offset + size ≤ at → drop at now ≡ drop at first
    same-behind at le = later-same (offset + size) at now first le agree.behind

    pub same-before : (at n : ℕ) → begin ≤ at → at + n ≤ offset
        → take n (drop at now) ≡ take n (drop at first)
    same-before at n le within =
        let room : at + n ≤ begin + (offset - begin) = omega (arith, within) in
        part-at begin (offset - begin) at n now le room
        ∙ ap (λ bytes. take n (drop (at - begin) bytes)) agree.before
        ∙ sym (part-at begin (offset - begin) at n first le room)

    -- an area that is apart from the run
    same-area : (atom : ℕ) (a : Area) → IsAtom atom → begin ≤ a.offset → IsWhole atom a
        → IsApart offset size a → IsReadAlike first now a
    same-area atom a known le whole apart = λ n room.
        let most : rounded n 512 ≤ a.size =
        least-rounded n 512 a.size (omega arith) room (whole-sectors atom a.size known whole.1) in
        go n most apart
      where
        go : (n : ℕ) → rounded n 512 ≤ a.size → IsApart offset size a
            → take (rounded n 512) (drop a.offset first) ≡ take (rounded n 512) (drop a.offset now)
        go n most (inl none) =
            let nothing : rounded n 512 ≡ 0 = omega (arith, most, none) in
            ap (λ k. take k (drop a.offset first)) nothing
            ∙ sym (ap (λ k. take k (drop a.offset now)) nothing)
        go n most (inr (inl before)) =
            sym (same-before a.offset (rounded n 512) le (omega (arith, most, before)))
        go n most (inr (inr behind)) =
            ap (take (rounded n 512)) (sym (same-behind a.offset behind))

    pub all-alike : (atom : ℕ) (areas : List Area) → IsAtom atom
        → All (λ a. begin ≤ a.offset) areas → All (IsWhole atom) areas
        → All (IsApart offset size) areas → All (IsReadAlike first now) areas
    all-alike atom areas known behind whole apart =
        All-weaker (Contains areas) (IsReadAlike first now)
        (λ a there. same-area atom a known
        (All-contains (λ (b : Area). begin ≤ b.offset) areas a behind there)
        (All-contains (IsWhole atom) areas a whole there)
        (All-contains (IsApart offset size) areas a apart there)) areas (All-contains_itself areas)

-- areas that are apart from a run besides others
pub apart-among : (offset size : ℕ) (areas besides : List Area)
    → All (IsApart offset size) (areas ++ besides) → All (IsApart offset size) areas
apart-among offset size areas besides apart =
    All-weaker (Contains areas) (IsApart offset size)
    (λ a there. All-contains (IsApart offset size) (areas ++ besides) a apart
    (Contains-append_left areas besides a there)) areas (All-contains_itself areas)
