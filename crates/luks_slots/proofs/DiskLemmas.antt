-- What reads leave of a disk.
use Rattle.std.proofs.Common.{◌≡◌, inl, inr, ℕ, ◌*◌, ◌/◌, ◌%◌, ◌≤◌, List, [], ◌∷◌, ◌++◌}
use Rattle.std.proofs.Common.{length, take, drop, Option, Some, Result, Ok, Err, OnOk, refl, sym}
use Rattle.std.proofs.Common.{◌∙◌, ap, subst, arith, append_assoc}
use Rattle.std.specs.List.{All}
use Rattle.std.proofs.lemmas.List.{append-nil}
use Rattle.std.proofs.lemmas.List.Elements.{All-nil, All-cons, All-append}
use Rattle.base_terms.specs.Causes.{Rose}
use Rattle.base_terms.specs.declared.failed.Failed.{Failed}
use Rattle.luks_slots.specs.Devices.{IsRead, IsUnwritten}
use Rattle.sector_disk.specs.Cells.{Cell}
use Rattle.sector_disk.specs.Devices.{ReadCall}
use Rattle.sector_disk.specs.Devices.{Device as disk_type}
use Rattle.sector_disk.specs.Geometry.{IsAtom}
use Rattle.sector_disk.specs.Steps.{Told, IsKept, IsMoved, TellsRead}

read-none : (t : Told) → IsRead t t
read-none t =
    record {
      cells = refl;
      mark = refl;
      more = [];
      past = sym (append-nil t.past);
      same =
          All-nil (λ (table : Option ℕ × List Cell). table.1 ≡ t.now);
    }

read-joined : (a b c : Told) → IsRead a b → IsRead b c → IsRead a c
read-joined a b c first later = record {
  cells = later.cells ∙ first.cells;
  mark = later.mark ∙ first.mark;
  more = first.more ++ later.more;
  past = later.past ∙ ap (λ past. past ++ later.more) first.past
      ∙ append_assoc a.past first.more later.more;
  same = All-append (λ (table : Option ℕ × List Cell). table.1 ≡ a.now) first.more later.more
      first.same
      (subst (λ (cells : List Cell). All (λ (table : Option ℕ × List Cell). table.1 ≡ cells)
      later.more) first.cells later.same);
}

read-moved : (before now : Told) → IsMoved IsKept before now → IsRead before now
read-moved before now is = record {
  cells = is.step;
  mark = ap (λ (t : Told). t.mark) is.one;
  more = (before.mark, now.now) ∷ [];
  past = ap (λ (t : Told). t.past) is.one;
  same = All-cons (λ (table : Option ℕ × List Cell). table.1 ≡ before.now) (before.mark, now.now) []
      is.step
      (All-nil (λ (table : Option ℕ × List Cell). table.1 ≡ before.now));
}

-- where it tells a table now, it told one that was only read since
abbrev TellsSince : Option Told → Option Told → Type 0
TellsSince old new =
    (now : Told) → new ≡ Some now → (before : Told) × (old ≡ Some before) × IsRead before now

told-since : (old new : Option Told) (result : Result (Unit {0}) Failed) → TellsRead old new result
    → TellsSince old new
told-since old new (Ok done) tells now is = let (before, was, moved) =
    tells now is in (before, was, read-moved before now moved)
told-since old new (Err failed) (inl same) now is = (now, sym same ∙ is, read-none now)
told-since old new (Err failed) (inr tells) now is = let (before, was, moved) =
    tells now is in (before, was, read-moved before now moved)

pub unwritten-none : (d : disk_type) → IsUnwritten d d
unwritten-none d =
    record {
      size = refl;
      atoms = refl;
      tail = refl;
      values = refl;
      told =
          λ now is. (now, is, read-none now);
      later = omega arith;
    }

pub unwritten-call : (atom at : ℕ) (bytes : List ℕ) (old new : disk_type)
    (result : Result (Unit {0}) Failed)
    → ReadCall atom at bytes old new result → IsUnwritten old new
unwritten-call atom at bytes old new result call = record {
  size = call.size;
  atoms = call.atoms;
  tail = call.tail;
  values = call.values;
  told = told-since old.told new.told result call.told;
  later = call.cause.later;
}

pub unwritten-joined : (a b c : disk_type) → IsUnwritten a b → IsUnwritten b c → IsUnwritten a c
unwritten-joined a b c first later = record {
  size = later.size ∙ first.size;
  atoms = later.atoms ∙ first.atoms;
  tail = later.tail ∙ first.tail;
  values = later.values ∙ first.values;
  told = λ now is.
      (let (mid, of_mid, reads) = later.told now is in let (before, was, earlier) =
      first.told mid of_mid in
      (before, was, read-joined before mid now earlier reads));
  later = (let one = first.later in let two = later.later in omega (arith, one, two));
}

-- a count that rose
pub rose-later : (a b c : ℕ) → a ≤ b → Rose b c → Rose a c
rose-later a b c le (inl rose) = inl (omega (arith, le, rose))
rose-later a b c le (inr full) = inr full

-- ---- where the bytes of a read stand
whole-atoms : (atom offset : ℕ) → IsAtom atom → offset % atom ≡ 0 → offset / atom * atom ≡ offset
whole-atoms atom offset (inl e) even = (let h = rw e at even in rw e (omega (arith, h)))
whole-atoms atom offset (inr e) even = (let h = rw e at even in rw e (omega (arith, h)))

place-of : (atom size offset : ℕ) → IsAtom atom → atom ≡ size → offset % size ≡ 0
    → offset / atom * size ≡ offset
place-of atom size offset known same even =
    ap (λ n. offset / atom * n) (sym same)
    ∙ whole-atoms atom offset known (subst (λ n. offset % n ≡ 0) (sym same) even)

pub read-place : (atom size offset : ℕ) (image area buf : List ℕ) (r : Result (Unit {0}) Failed)
    → IsAtom atom → atom ≡ size
    → offset % size ≡ 0 → length buf ≡ length area
    → OnOk r (buf ≡ take (length buf) (drop (offset / atom * size) image))
    → OnOk r (buf ≡ take (length area) (drop offset image))
read-place atom size offset image area buf (Ok done) known same even long is =
    is ∙ ap (λ n. take n (drop (offset / atom * size) image)) long
    ∙ ap (λ n. take (length area) (drop n image)) (place-of atom size offset known same even)
read-place atom size offset image area buf (Err failed) known same even long is = is
