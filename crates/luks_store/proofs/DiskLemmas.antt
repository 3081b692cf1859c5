-- Lemmas on what reads leave of a disk.
use Rattle.std.proofs.Common.{◌≡◌, inl, inr, ℕ, ◌*◌, ◌/◌, ◌%◌, List, [], ◌∷◌, ◌++◌, length, take}
use Rattle.std.proofs.Common.{drop, Option, Some, None, Result, Ok, Err, IsOk, IfErr, refl, sym}
use Rattle.std.proofs.Common.{◌∙◌, ap}
use Rattle.std.specs.Prelude.{option_map}
use Rattle.std.proofs.Common.{subst, arith, append_assoc}
use Rattle.std.specs.List.{All}
use Rattle.std.proofs.lemmas.List.{append-nil}
use Rattle.std.proofs.lemmas.List.Elements.{All-nil, All-cons, All-append}
use Rattle.base_terms.specs.declared.failed.Failed.{Failed}
use Rattle.sector_disk.specs.JoinedDisks.Joined.{Joint, joined_disk}
use Rattle.sector_disk.specs.JoinedDisks.JoinedCalls.{JointRead}
use Rattle.luks_store.specs.Devices.{IsRead, IsUnwritten, KeepsBytes}
use Rattle.luks_store.proofs.PageLemmas.{page-place}
use Rattle.luks_store.specs.Loads.{HasCause, IsNoRead, Says}
use Rattle.luks_store.specs.Used.{Refusal}
use Rattle.luks_store.specs.declared.fault.StoreFault.{StoreFault}
use Rattle.luks_store.specs.declared.fault.StoreFault.TheVariants as faults
use Rattle.sector_disk.specs.Geometry.{IsAtom}
use Rattle.sector_disk.specs.Cells.{Cell}
use Rattle.sector_disk.specs.Devices.{ReadCall, marked}
use Rattle.sector_disk.specs.Devices.{Device as disk_type}
use Rattle.sector_disk.specs.Steps.{Told, IsKept, IsMoved, TellsRead, remarked}

read-none : (t : Told) → IsRead t t
read-none t =
    record {
      cells = refl;
      mark = refl;
      more = [];
      past = sym (append-nil t.past);
      same =
          All-nil (λ (table : Option ℕ × List Cell). table.1 ≡ t.now);
    }

read-joined : (a b c : Told) → IsRead a b → IsRead b c → IsRead a c
read-joined a b c first later = record {
  cells = later.cells ∙ first.cells;
  mark = later.mark ∙ first.mark;
  more = first.more ++ later.more;
  past = later.past ∙ ap (λ past. past ++ later.more) first.past
      ∙ append_assoc a.past first.more later.more;
  same = All-append (λ (table : Option ℕ × List Cell). table.1 ≡ a.now) first.more later.more
      first.same
      (subst (λ (cells : List Cell). All (λ (table : Option ℕ × List Cell). table.1 ≡ cells)
      later.more) first.cells later.same);
}

read-moved : (before now : Told) → IsMoved IsKept before now → IsRead before now
read-moved before now is = record {
  cells = is.step;
  mark = ap (λ (t : Told). t.mark) is.one;
  more = (before.mark, now.now) ∷ [];
  past = ap (λ (t : Told). t.past) is.one;
  same = All-cons (λ (table : Option ℕ × List Cell). table.1 ≡ before.now) (before.mark, now.now) []
      is.step
      (All-nil (λ (table : Option ℕ × List Cell). table.1 ≡ before.now));
}

-- where it tells a table now, it told one that was only read since
abbrev TellsSince : Option Told → Option Told → Type 0
TellsSince old new =
    (now : Told) → new ≡ Some now → (before : Told) × (old ≡ Some before) × IsRead before now

told-since : (old new : Option Told) (result : Result (Unit {0}) Failed) → TellsRead old new result
    → TellsSince old new
told-since old new (Ok done) tells now is = let (before, was, moved) =
    tells now is in (before, was, read-moved before now moved)
told-since old new (Err failed) (inl same) now is = (now, sym same ∙ is, read-none now)
told-since old new (Err failed) (inr tells) now is = let (before, was, moved) =
    tells now is in (before, was, read-moved before now moved)

-- the same, but for a mark
abbrev TellsMarked : Option Told → Option Told → Type 0
TellsMarked old new = (now : Told) → new ≡ Some now
    → (before : Told) × (old ≡ Some before) × IsRead (record before { mark = now.mark }) now

read-marked : (before now : Told) (mark : Option ℕ) → IsRead (record before { mark = mark }) now
    → (other : Option ℕ) → IsRead (record before { mark = other }) (record now { mark = other })
read-marked before now mark is other = record {
  cells = is.cells;
  mark = refl;
  more = is.more;
  past = is.past;
  same = is.same;
}

marked-since : (number : ℕ) (old new : Option Told)
    → TellsSince
    (option_map {T = Told} (λ told. record told { mark = remarked told.mark number }) old) new
    → TellsMarked old new
marked-since number None new tells now is = let (before, was, reads) = tells now is in absurd cc
marked-since number (Some old) new tells now is =
    let (before, was, reads) = tells now is in
    let same : record old { mark = remarked old.mark number } ≡ before = cc in (
      old,
      refl,
      read-marked old now (remarked old.mark number)
          (subst (λ (t : Told). IsRead t now) (sym same) reads) now.mark,
    )

keeps-none : (d : disk_type) → KeepsBytes d d
keeps-none d = record {
  size = refl;
  atoms = refl;
  tail = refl;
  values = refl;
  told = λ now is. (now, is, read-none now);
  later = omega arith;
}

keeps-same : (old new : disk_type) → new ≡ old → KeepsBytes old new
keeps-same old new same = subst (KeepsBytes old) (sym same) (keeps-none old)

keeps-marked : (size at number : ℕ) (bytes : List ℕ) (old new : disk_type)
    (result : Result (Unit {0}) Failed)
    → ReadCall size at bytes (marked old number) new result → KeepsBytes old new
keeps-marked size at number bytes old new result call = record {
  size = call.size;
  atoms = call.atoms;
  tail = call.tail;
  values = call.values;
  later = call.cause.later;
  told = marked-since number old.told new.told
      (told-since (marked old number).told new.told result call.told);
}

keeps-read : (size at : ℕ) (bytes : List ℕ) (old new : disk_type)
    (result : Result (Unit {0}) Failed)
    → ReadCall size at bytes old new result → KeepsBytes old new
keeps-read size at bytes old new result call = record {
  size = call.size;
  atoms = call.atoms;
  tail = call.tail;
  values = call.values;
  later = call.cause.later;
  told = λ now is. (let (before, was, reads) = told-since old.told new.told result call.told now is in
      (before, was, read-marked before now before.mark reads now.mark));
}

keeps-joined : (a b c : disk_type) → KeepsBytes a b → KeepsBytes b c → KeepsBytes a c
keeps-joined a b c first later = record {
  size = later.size ∙ first.size;
  atoms = later.atoms ∙ first.atoms;
  tail = later.tail ∙ first.tail;
  values = later.values ∙ first.values;
  later = (let one = first.later in let two = later.later in omega (arith, one, two));
  told = λ now is.
      (let (mid, of_mid, reads) = later.told now is in
      let (before, was, earlier) = first.told mid of_mid in (
        before,
        was,
        read-joined (record before { mark = now.mark }) (record mid { mark = now.mark }) now
            (read-marked before mid mid.mark earlier now.mark) reads,
      ));
}

-- a read of two joined disks leaves what each of them holds
keeps-both : (at : ℕ) (bytes : List ℕ) (old new : Joint) (result : Result (Unit {0}) Failed)
    → JointRead at bytes old new result
    → KeepsBytes old.head new.head × KeepsBytes old.main new.main
keeps-both at bytes old new result each = elim each [
  | inl (none, same, call) ↦
      (keeps-same old.head new.head same, keeps-read _ _ _ old.main new.main _ call)
  | inr (some, inl (empty, same, call)) ↦
      (keeps-same old.head new.head same, keeps-marked _ _ _ _ old.main new.main _ call)
  | inr (some, inr (inl (done, same, call))) ↦
      (keeps-marked _ _ _ _ old.head new.head _ call, keeps-same old.main new.main same)
  | inr (some, inr (inr (front, back))) ↦ (
    keeps-marked _ _ _ _ old.head new.head _ front,
    keeps-marked _ _ _ _ old.main new.main _ back,
  )
]

pub unwritten-call : (atom at : ℕ) (bytes : List ℕ) (old new : Joint)
    (result : Result (Unit {0}) Failed)
    → ReadCall atom at bytes (joined_disk old) (joined_disk new) result
    → JointRead at bytes old new result
    → IsUnwritten old new
unwritten-call atom at bytes old new result call each =
    let both = keeps-both at bytes old new result each in
    record {
      size = call.size;
      atoms = call.atoms;
      tail = call.tail;
      values = call.values;
      told = told-since (joined_disk old).told (joined_disk new).told result call.told;
      later = call.cause.later;
      head = both.0;
      main = both.1;
    }

pub unwritten-joined : (a b c : Joint) → IsUnwritten a b → IsUnwritten b c → IsUnwritten a c
unwritten-joined a b c first later = record {
  size = later.size ∙ first.size;
  atoms = later.atoms ∙ first.atoms;
  tail = later.tail ∙ first.tail;
  values = later.values ∙ first.values;
  told = λ now is.
      (let (mid, of_mid, reads) = later.told now is in let (before, was, earlier) =
      first.told mid of_mid in
      (before, was, read-joined before mid now earlier reads));
  later = (let one = first.later in let two = later.later in omega (arith, one, two));
  head = keeps-joined a.head b.head c.head first.head later.head;
  main = keeps-joined a.main b.main c.main first.main later.main;
}

-- a fault of what was read is no read
pub cause-judged : (old new : disk_type) (fault : StoreFault) → IsNoRead fault
    → HasCause old new fault
cause-judged old new faults.Memory none = tt
cause-judged old new faults.Device none = absurd none
cause-judged old new (faults.NoHeader primary secondary) none = tt
cause-judged old new (faults.CopiesDiffer seqid place) none = tt
cause-judged old new (faults.Json fault) none = tt
cause-judged old new (faults.Rule fault) none = tt

-- where something is held, memory is all that may lack
pub memory-alone : {X : Type 0} (fault : StoreFault) (held : Result X Refusal) → IsOk held
    → IsNoRead fault
    → Says fault held → fault ≡ faults.Memory
memory-alone faults.Memory held ok none says = refl
memory-alone faults.Device held ok none says = absurd none
memory-alone (faults.NoHeader primary secondary) held ok none says =
    absurd (let e = subst (λ r. IsOk r) says ok in cc)
memory-alone (faults.CopiesDiffer seqid place) held ok none says =
    let (a, b, other, rest) = says in absurd (let e = subst (λ r. IsOk r) other ok in cc)
memory-alone (faults.Json fault) held ok none says =
    absurd (let e = subst (λ r. IsOk r) says ok in cc)
memory-alone (faults.Rule fault) held ok none says =
    absurd (let e = subst (λ r. IsOk r) says ok in cc)

pub causes-judged : {X : Type 0} (old new : disk_type) (r : Result X StoreFault) → IfErr r IsNoRead
    → IfErr r (λ fault. HasCause old new fault)
causes-judged old new (Ok x) none = tt
causes-judged old new (Err fault) none = cause-judged old new fault none

-- the bytes that a read of whole pages gives
pub read-bytes : (atom size place len : ℕ) (all buf : List ℕ) → IsAtom atom → atom ≡ size
    → place % 4096 ≡ 0
    → length buf ≡ len → buf ≡ take (length buf) (drop (place / atom * size) all)
    → buf ≡ take len (drop place all)
read-bytes atom size place len all buf known same page long is =
    is ∙ ap (λ n. take n (drop (place / atom * size) all)) long
    ∙ ap (λ n. take len (drop n all))
    (ap (λ n. place / atom * n) (sym same) ∙ page-place atom place known page)
