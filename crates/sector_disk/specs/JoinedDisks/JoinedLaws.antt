-- Why two joined disks are a disk, and that what keeps their tables in one order has one proof.
use Rattle.std.specs.Prelude.{ℕ, zero, suc, ◌≡◌, ◌+◌, ◌*◌, ◌<◌, ◌≤◌, List, [], ◌∷◌, ◌++◌, length}
use Rattle.std.specs.Prelude.{take, replicate, slice_index, Option, Some, None, ◌^◌, refl}
use Rattle.std.specs.Coded.{Π_prop, →_prop, ×_prop, le_prop, Coded, Coded-set, coded_ℕ, coded_bool}
use Rattle.std.specs.Coded.{coded_list, coded×, code_by}
use Rattle.std.specs.List.{AllByRecursion}
use Rattle.std.proofs.Common.{sym, ◌∙◌, ap, ap₂, subst, arith, length-append, append_assoc, Bool}
use Rattle.std.proofs.Common.{true, false, if◌then◌else◌, nat_lt, ◌==◌}
use Rattle.std.proofs.lemmas.Bool.{eqb-true, ltb-true}
use Rattle.std.proofs.lemmas.List.{length-take-le, take-replicate, replicate-append-replicate}
use Rattle.std.proofs.lemmas.List.{nil_from_length}
use Rattle.std.proofs.Math.Nat.{mul-le-mul_right}
use Rattle.base_terms.specs.Blocks.{joined, lengths}
use Rattle.base_terms.proofs.BlockLemmas.{take_behind, even_front, even_rest}
use Rattle.sector_disk.specs.Cells.{Cell, content, currents, IsHeld, IsSized, AreHeld, AreSized}
use Rattle.sector_disk.specs.Devices.{Device}
use Rattle.sector_disk.specs.Geometry.{IsDisk}
use Rattle.sector_disk.specs.JoinedDisks.Joined.{Joint, Follows, nothing, in_front, both_values, told_by_both}
use Rattle.sector_disk.specs.JoinedDisks.Joined.{told_with_mark, with_marks, told_of, joint_told, joined_disk}
use Rattle.sector_disk.specs.JoinedDisks.Joined.{joined_telling, last_call, told_by_main, told_of_used}
use Rattle.sector_disk.specs.Steps.{Told}

cells_coded : Coded (List Cell)
cells_coded =
    coded_list
    (code_by (List ℕ × List (List ℕ))
    (coded× (coded_list coded_ℕ) (coded_list (coded_list coded_ℕ)))
    (λ cell. (cell.current, cell.candidates))
    (λ pair. record { current = pair.0; candidates = pair.1 }) (λ _. refl))

pub Follows-prop : (calls : ℕ) (was now : Option Told) → IsProp (Follows calls was now)
Follows-prop calls was now =
    →_prop (Π_prop (λ before. Π_prop (λ told. →_prop (→_prop
    (×_prop le_prop
    (Π_prop (λ number. →_prop (×_prop (Coded-set coded_bool _ _) (Coded-set cells_coded _ _)))))))))

-- what the laws of a disk say of what it shows
pub record ShowsDisk (device : Device) : Type 0 where
  pub whole : (bytes : List ℕ) → device.values ≡ Some bytes
      → length bytes ≡ device.atoms * device.size
  pub bytes : (bytes : List ℕ) → device.values ≡ Some bytes → (k : ℕ) → slice_index bytes k < 256
  pub agrees : (told : Told) → device.told ≡ Some told → device.values ≡ Some (content told.now)
  pub even : (told : Told) → device.told ≡ Some told
      → lengths (currents told.now) ≡ replicate device.atoms device.size
  pub held : (told : Told) → device.told ≡ Some told → AreHeld told.now
  pub sized : (told : Told) → device.told ≡ Some told → AreSized device.size told.now

-- by its laws
pub shows : {D : Type 0} (device : D → Device)
    → ((d : D) (bytes : List ℕ) → (device d).values ≡ Some bytes
    → length bytes ≡ (device d).atoms * (device d).size)
    → ((d : D) (bytes : List ℕ) → (device d).values ≡ Some bytes → (k : ℕ)
    → slice_index bytes k < 256)
    → ((d : D) (t : Told) → (device d).told ≡ Some t → (device d).values ≡ Some (content t.now))
    → ((d : D) (t : Told) → (device d).told ≡ Some t
    → lengths (currents t.now) ≡ replicate (device d).atoms (device d).size)
    → ((d : D) (t : Told) → (device d).told ≡ Some t → AreHeld t.now)
    → ((d : D) (t : Told) → (device d).told ≡ Some t → AreSized (device d).size t.now)
    → (d : D) → ShowsDisk (device d)
shows device whole bytes agrees even held sized d = record {
  whole = whole d;
  bytes = bytes d;
  agrees = agrees d;
  even = even d;
  held = held d;
  sized = sized d;
}

-- its sizes are those of a disk
pub joint_geometry : (joint : Joint) (atom base : ℕ) → IsDisk joint.main.size joint.main.atoms
    → joint.main.size ≡ atom
    → joint.head.atoms ≡ base → (base + joint.used) * atom < 2 ^ 63
    → IsDisk joint.main.size (joint.head.atoms + joint.used)
joint_geometry joint atom base main size front fits =
    record { known = main.known; fits = rw (size, front) fits }

-- a disk without atoms
shows_nothing : (size : ℕ) → ShowsDisk (nothing size)
unfolding content currents joined lengths
shows_nothing size = record {
  whole = λ bytes is. (let e : [] ≡ bytes = cc in rw (← e) (grind arith));
  bytes = λ bytes is k. (let e : [] ≡ bytes = cc in rw (← e) (omega arith));
  agrees =
      λ told is.
      (let e : record { now = []; past = []; mark = Some 0 } ≡ told = cc in rw (← e) refl);
  even = λ told is.
      (let e : record { now = []; past = []; mark = Some 0 } ≡ told = cc in rw (← e) refl);
  held = λ told is.
      (let e : record { now = []; past = []; mark = Some 0 } ≡ told = cc in rw (← e) tt);
  sized = λ told is.
      (let e : record { now = []; past = []; mark = Some 0 } ≡ told = cc in rw (← e) tt);
}

pub shows_front : {D : Type 0} (device : D → Device) → ((d : D) → ShowsDisk (device d))
    → (size : ℕ) (head : Option D)
    → ShowsDisk (in_front device size head)
shows_front device shows size None = shows_nothing size
shows_front device shows size (Some disk) = shows disk

-- bytes of two texts, and of a front of one
below_append : (xs ys : List ℕ) → ((k : ℕ) → slice_index xs k < 256)
    → ((k : ℕ) → slice_index ys k < 256)
    → (k : ℕ) → slice_index (xs ++ ys) k < 256
below_append [] ys of_xs of_ys k = of_ys k
below_append (x ∷ xs) ys of_xs of_ys zero = of_xs 0
below_append (x ∷ xs) ys of_xs of_ys (suc k) = below_append xs ys (λ j. of_xs (suc j)) of_ys k

below_take : (n : ℕ) (xs : List ℕ) → ((k : ℕ) → slice_index xs k < 256) → (k : ℕ)
    → slice_index (take n xs) k < 256
below_take zero xs of_xs k = let below : 0 < 256 = omega arith in below
below_take (suc n) [] of_xs k = of_xs k
below_take (suc n) (x ∷ xs) of_xs zero = of_xs 0
below_take (suc n) (x ∷ xs) of_xs (suc k) = below_take n xs (λ j. of_xs (suc j)) k

-- what two values that are told came from
pub record AreBothTold (len : ℕ) (head main : Option (List ℕ)) (bytes : List ℕ) : Type 0 where
  pub front : List ℕ
  pub back : List ℕ
  pub head_is : head ≡ Some front
  pub main_is : main ≡ Some back
  pub bytes_are : bytes ≡ front ++ take len back

pub both_told : (len : ℕ) (head main : Option (List ℕ)) (bytes : List ℕ)
    → both_values len head main ≡ Some bytes
    → AreBothTold len head main bytes
both_told len None main bytes is = absurd (cc)
both_told len (Some front) None bytes is = absurd (cc)
both_told len (Some front) (Some back) bytes is =
    record { front = front; back = back; head_is = refl; main_is = refl; bytes_are = cc }

-- what tables that a disk of two tells came from
pub record TellsBoth (used calls : ℕ) (head_was head main_was main : Option Told)
    (told : Told) : Type 0 where
  pub first_head : Told
  pub now_head : Told
  pub first_main : Told
  pub now_main : Told
  pub head_was_is : head_was ≡ Some first_head
  pub head_is : head ≡ Some now_head
  pub main_was_is : main_was ≡ Some first_main
  pub main_is : main ≡ Some now_main
  pub told_is : told ≡ told_by_both used calls first_head now_head first_main now_main

tells_both : (used calls : ℕ) (head_was head main_was main : Option Told) (told : Told)
    → told_of used calls head_was head main_was main ≡ Some told
    → TellsBoth used calls head_was head main_was main told
tells_both used calls None head main_was main told is = absurd (cc)
tells_both used calls (Some a) None main_was main told is = absurd (cc)
tells_both used calls (Some a) (Some b) None main told is = absurd (cc)
tells_both used calls (Some a) (Some b) (Some c) None told is = absurd (cc)
tells_both used calls (Some a) (Some b) (Some c) (Some d) told is = record {
  first_head = a;
  now_head = b;
  first_main = c;
  now_main = d;
  head_was_is = refl;
  head_is = refl;
  main_was_is = refl;
  main_is = refl;
  told_is = cc;
}

told_where : (b : Bool) (told : Option Told) (now : Told) → (if b then told else None) ≡ Some now
    → (b ≡ true) × (told ≡ Some now)
told_where true told now is = (refl, is)
told_where false told now is = absurd (cc)

pub told_below : (joint : Joint) (told : Told) → joint_told joint ≡ Some told
    → joint.calls < last_call
told_below joint told is =
    ltb-true joint.calls last_call ((told_where (nat_lt joint.calls last_call) _ told is).0)

pub tells_of : (joint : Joint) (told : Told) → joint_told joint ≡ Some told
    → TellsBoth joint.used joint.calls joint.head_was.told (with_marks joint.head.told)
    joint.main_was.told
    (with_marks joint.main.told) told
tells_of joint told is =
    tells_both _ _ _ _ _ _ told ((told_where (nat_lt joint.calls last_call) _ told is).1)

-- what is told with marks is told
marked_of : (told : Told) (mark : Option ℕ) (now : Told) → told_with_mark told mark ≡ Some now
    → told ≡ now
marked_of told None now is = absurd (cc)
marked_of told (Some mark) now is = cc

pub told_of_marked : (told : Option Told) (now : Told) → with_marks told ≡ Some now
    → told ≡ Some now
told_of_marked None now is = absurd (cc)
told_of_marked (Some told) now is = ap (λ one. Some one) (marked_of told told.mark now is)

-- the content of both tables is both contents
content_append : (xs ys : List Cell) → content (xs ++ ys) ≡ content xs ++ content ys
unfolding content currents joined
content_append [] ys = refl
content_append (x ∷ xs) ys =
    ap (λ rest. x.current ++ rest) (content_append xs ys)
    ∙ sym (append_assoc x.current (content xs) (content ys))

content_take : (size n count : ℕ) (xs : List Cell) → lengths (currents xs) ≡ replicate count size
    → n ≤ count
    → content (take n xs) ≡ take (n * size) (content xs)
unfolding content currents joined lengths
content_take size zero count xs even fits = let none : 0 * size ≡ 0 = grind arith in rw none refl
content_take size (suc n) zero xs even fits = absurd (omega (arith, fits))
content_take size (suc n) (suc count) [] even fits = absurd (cc)
content_take size (suc n) (suc count) (x ∷ xs) even fits =
    let place : suc n * size ≡ size + n * size = grind arith in
    rw place
    (ap (λ rest. x.current ++ rest) (content_take size n count xs
    (even_rest (λ cell. cell.current) count size x xs even) (omega (arith, fits)))
    ∙ sym (take_behind x.current (content xs) size (n * size)
    (even_front (λ cell. cell.current) count size x xs even)))

-- so are their atoms' sizes
even_append : (xs ys : List Cell)
    → lengths (currents (xs ++ ys)) ≡ lengths (currents xs) ++ lengths (currents ys)
unfolding currents lengths
even_append [] ys = refl
even_append (x ∷ xs) ys = ap (λ rest. length x.current ∷ rest) (even_append xs ys)

even_take : (n : ℕ) (xs : List Cell)
    → lengths (currents (take n xs)) ≡ take n (lengths (currents xs))
unfolding currents lengths
even_take zero xs = refl
even_take (suc n) [] = refl
even_take (suc n) (x ∷ xs) = ap (λ rest. length x.current ∷ rest) (even_take n xs)

each_append : (P : Cell → Type 0) (xs ys : List Cell) → AllByRecursion P xs → AllByRecursion P ys
    → AllByRecursion P (xs ++ ys)
each_append P [] ys of_xs of_ys = of_ys
each_append P (x ∷ xs) ys of_xs of_ys = (of_xs.0, each_append P xs ys of_xs.1 of_ys)

each_take : (P : Cell → Type 0) (n : ℕ) (xs : List Cell) → AllByRecursion P xs
    → AllByRecursion P (take n xs)
each_take P zero xs each = tt
each_take P (suc n) [] each = tt
each_take P (suc n) (x ∷ xs) each = (each.0, each_take P n xs each.1)

whole_joint : (size head main used : ℕ) (front back : List ℕ) → length front ≡ head * size
    → length back ≡ main * size
    → used ≤ main → length (front ++ take (used * size) back) ≡ (head + used) * size
whole_joint size head main used front back of_front of_back fits =
    let most : used * size ≤ main * size = mul-le-mul_right size fits in
    length-append front (take (used * size) back)
    ∙ ap₂ (λ a b. a + b) of_front (length-take-le (used * size) back (omega (arith, most, of_back)))
    ∙ (let e : head * size + used * size ≡ (head + used) * size = grind arith in e)

-- two joined disks that tell the tables of both show what a disk shows
shows_both : (joint : Joint) → ShowsDisk joint.head → ShowsDisk joint.main
    → joint.head.size ≡ joint.main.size
    → joint.used ≤ joint.main.atoms → ShowsDisk (joined_telling joint (joint_told joint))
shows_both joint head main same fits = record {
  whole = λ bytes is. (let both = both_told _ _ _ bytes is in rw both.bytes_are
      (whole_joint _ _ _ _ both.front both.back (rw same at head.whole both.front both.head_is)
      (main.whole both.back both.main_is) fits));
  bytes = λ bytes is. (let both = both_told _ _ _ bytes is in rw both.bytes_are
      (below_append both.front _ (head.bytes both.front both.head_is)
      (below_take _ both.back (main.bytes both.back both.main_is))));
  agrees = λ told is. (let both = tells_of joint told is in
      let of_head = told_of_marked _ _ both.head_is in
      let of_main = told_of_marked _ _ both.main_is in
      ap₂ (λ a b. both_values (joint.used * joint.main.size) a b)
      (head.agrees both.now_head of_head)
      (main.agrees both.now_main of_main)
      ∙ ap (λ bytes. Some bytes)
      (sym (content_append both.now_head.now (take joint.used both.now_main.now)
      ∙ ap (λ rest. content both.now_head.now ++ rest)
      (content_take _ joint.used _ both.now_main.now (main.even both.now_main of_main) fits)))
      ∙ ap (λ tells. Some (content tells.now)) (sym both.told_is));
  even = λ told is. (let both = tells_of joint told is in
      let of_head = told_of_marked _ _ both.head_is in
      let of_main = told_of_marked _ _ both.main_is in
      rw both.told_is
      (even_append both.now_head.now (take joint.used both.now_main.now)
      ∙ ap₂ (λ xs ys. xs ++ ys)
      (head.even both.now_head of_head ∙ ap (λ size. replicate joint.head.atoms size) same)
      (even_take joint.used both.now_main.now
      ∙ ap (λ xs. take joint.used xs) (main.even both.now_main of_main)
      ∙ take-replicate {X = ℕ} joint.used joint.main.atoms joint.main.size fits)
      ∙ replicate-append-replicate joint.head.atoms joint.used joint.main.size));
  held = λ told is. (let both = tells_of joint told is in
      rw both.told_is
      (each_append IsHeld both.now_head.now _
      (head.held both.now_head (told_of_marked _ _ both.head_is))
      (each_take IsHeld joint.used both.now_main.now
      (main.held both.now_main (told_of_marked _ _ both.main_is)))));
  sized = λ told is. (let both = tells_of joint told is in
      rw both.told_is
      (each_append (IsSized joint.main.size) both.now_head.now _
      (subst (λ size. AreSized size both.now_head.now) same
      (head.sized both.now_head (told_of_marked _ _ both.head_is)))
      (each_take (IsSized joint.main.size) joint.used both.now_main.now
      (main.sized both.now_main (told_of_marked _ _ both.main_is)))));
}

-- what tables that the main disk tells behind a head without atoms came from
record TellsMain (used : ℕ) (head : Option (List ℕ)) (main : Option Told) (told : Told) : Type 0
  where
    front : List ℕ
    whole : Told
    front_is : head ≡ Some front
    main_is : main ≡ Some whole
    told_is : told ≡ told_of_used used whole

tells_main : (used : ℕ) (head : Option (List ℕ)) (main : Option Told) (told : Told)
    → told_by_main used head main ≡ Some told
    → TellsMain used head main told
tells_main used None main told is = absurd (cc)
tells_main used (Some front) None told is = absurd (cc)
tells_main used (Some front) (Some whole) told is =
    record { front = front; whole = whole; front_is = refl; main_is = refl; told_is = cc }

-- so do those that tell the main disk's
shows_main : (joint : Joint) → ShowsDisk joint.head → ShowsDisk joint.main
    → joint.head.size ≡ joint.main.size
    → joint.used ≤ joint.main.atoms → joint.head.atoms ≡ 0
    → ShowsDisk
    (joined_telling joint (told_by_main joint.used joint.head.values joint.main.told))
shows_main joint head main same fits none = record {
  whole = (shows_both joint head main same fits).whole;
  bytes = (shows_both joint head main same fits).bytes;
  agrees = λ told is. (let tells = tells_main _ _ _ told is in
      let no_bytes : length tells.front ≡ 0 =
      head.whole tells.front tells.front_is ∙ ap (λ n. n * joint.head.size) none
      ∙ (let e : 0 * joint.head.size ≡ 0 = grind arith in e) in
      ap₂ (λ a b. both_values (joint.used * joint.main.size) a b)
      (tells.front_is ∙ ap (λ bytes. Some bytes) (nil_from_length tells.front no_bytes))
      (main.agrees tells.whole tells.main_is)
      ∙ ap (λ bytes. Some bytes)
      (sym (content_take _ joint.used _ tells.whole.now (main.even tells.whole tells.main_is) fits))
      ∙ ap (λ one. Some (content one.now)) (sym tells.told_is));
  even = λ told is. (let tells = tells_main _ _ _ told is in
      rw tells.told_is
      (even_take joint.used tells.whole.now
      ∙ ap (λ xs. take joint.used xs) (main.even tells.whole tells.main_is)
      ∙ take-replicate {X = ℕ} joint.used joint.main.atoms joint.main.size fits
      ∙ ap (λ n. replicate n joint.main.size)
      (let e : joint.used ≡ joint.head.atoms + joint.used = omega (arith, none) in e)));
  held = λ told is. (let tells = tells_main _ _ _ told is in
      rw tells.told_is
      (each_take IsHeld joint.used tells.whole.now (main.held tells.whole tells.main_is)));
  sized = λ told is. (let tells = tells_main _ _ _ told is in
      rw tells.told_is
      (each_take (IsSized joint.main.size) joint.used tells.whole.now
      (main.sized tells.whole tells.main_is)));
}

shows_by : (joint : Joint) → ShowsDisk joint.head → ShowsDisk joint.main
    → joint.head.size ≡ joint.main.size
    → joint.used ≤ joint.main.atoms → (empty : Bool) → (joint.head.atoms == 0) ≡ empty
    → ShowsDisk
    (joined_telling joint (if empty then told_by_main joint.used joint.head.values joint.main.told
    else joint_told joint))
shows_by joint head main same fits true is =
    shows_main joint head main same fits (eqb-true joint.head.atoms 0 is)
shows_by joint head main same fits false is = shows_both joint head main same fits

-- two joined disks show what a disk shows
pub shows_joint : (joint : Joint) → ShowsDisk joint.head → ShowsDisk joint.main
    → joint.head.size ≡ joint.main.size
    → joint.used ≤ joint.main.atoms → ShowsDisk (joined_disk joint)
shows_joint joint head main same fits =
    shows_by joint head main same fits (joint.head.atoms == 0) refl
