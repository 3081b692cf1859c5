-- What holds of a value that was read, through the steps of its reading.
use Rattle.std.proofs.Common.{◌≡◌, ℕ, List, Option, Some, None, Result, Ok, Err, refl, subst}
use Rattle.json_members.specs.declared.faults.JsonFault.{JsonFault}
use Rattle.json_members.specs.declared.faults.JsonFaultKind.{JsonFaultKind}
use Rattle.json_members.specs.Fields.{◌>>=◌, required}

-- what holds of a value, if one was read
abbrev pub Right : {X : Type 0} → (X → Type 0) → Result X JsonFault → Type 0
Right P (Ok x) = P x
Right P (Err e) = Unit {0}

pub then : {A B : Type 0} (r : Result A JsonFault) (f : A → Result B JsonFault) (P : B → Type 0)
    → ((x : A) → r ≡ Ok x → Right P (f x)) → Right P (r >>= f)
then (Ok x) f P h = h x refl
then (Err e) f P h = tt

pub right_at : {A : Type 0} (r : Result A JsonFault) (x : A) (P : A → Type 0) → r ≡ Ok x → Right P r
    → P x
right_at r x P e h = subst (Right P) e h

pub required-Some : {A : Type 0} (what : JsonFaultKind) (path name : List ℕ) (o : Option A)
    (P : A → Type 0) → ((x : A) → o ≡ Some x → P x) → Right P (required what path name o)
required-Some what path name None P h = tt
required-Some what path name (Some a) P h = h a refl

pub needed : {A : Type 0} (what : JsonFaultKind) (path name : List ℕ) (o : Option A) (x : A)
    → required what path name o ≡ Ok x → o ≡ Some x
needed what path name None x h = cc
needed what path name (Some a) x h = cc

-- what follows of a value follows of one that was read
pub read_on : {A : Type 0} {P Q : A → Type 0} (r : Result A JsonFault) → Right P r
    → ((x : A) → P x → Q x) → Right Q r
read_on (Ok x) h k = k x h
read_on (Err e) h k = tt

-- what holds of each value that is read
pub each_right : {A : Type 0} (r : Result A JsonFault) (P : A → Type 0) → ((x : A) → r ≡ Ok x → P x)
    → Right P r
each_right (Ok x) P h = h x refl
each_right (Err e) P h = tt
