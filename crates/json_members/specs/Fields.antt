-- The members of an object, each with the first fault that it has.
use Rattle.std.specs.Prelude.{◌≡◌, ℕ, ◌+◌, ◌==◌, ◌&&◌, nat_lt, Bool, true, List, [], ◌∷◌, ◌++◌}
use Rattle.std.specs.Prelude.{length, codes, Option, Some, None, map, Result, Ok, Err}
use Rattle.std.specs.Prelude.{if◌then◌else◌, decimal}
use Rattle.std.specs.Str.{bytes_eq}
use Rattle.base64.specs.GeneralPurpose.{encode_of, decoded_bytes_of}
use Rattle.base64.specs.Engines.{standard}
use Rattle.serde_json.specs.Data.{Data, string, Items, no_items, item, Members}
use Rattle.serde_json.specs.Find.{get_member, as_str, as_array, as_object, as_number, as_u64}
use Rattle.serde_json.specs.View.{items_of}
use Rattle.json_members.specs.declared.faults.JsonFault.{JsonFault}
use Rattle.json_members.specs.declared.faults.JsonFaultKind.{JsonFaultKind}
use Rattle.json_members.specs.declared.faults.JsonFaultKind.TheVariants.{Missing, Kind, Number}
use Rattle.json_members.specs.declared.faults.JsonFaultKind.TheVariants.{Base64, Unsupported}
use Rattle.json_members.specs.declared.faults.ReadError.{ReadError}
use Rattle.json_members.specs.declared.faults.ReadError.TheVariants as errors
use Rattle.json_members.specs.Decimals.{number_of}

-- first this, then what follows from it; the first fault ends it
infixl 10 ◌>>=◌
abbrev pub ◌>>=◌ : {A B : Type 0} → Result A JsonFault → (A → Result B JsonFault)
    → Result B JsonFault
(Ok x) >>= f = f x
(Err e) >>= f = Err e

-- what a function returned, seen by view, is what reading gives, unless memory ran out
abbrev pub Fails : {Y : Type 0} → ReadError → Result Y JsonFault → Type 0
Fails errors.Memory read = Unit {0}
Fails (errors.Fault f) read = read ≡ Err f

abbrev pub Gives : {X Y : Type 0} → (X → Y) → Result X ReadError → Result Y JsonFault → Type 0
Gives view (Ok x) read = read ≡ Ok (view x)
Gives view (Err e) read = Fails e read

-- the path of a member of the object at a path; the whole has the empty path
unfoldable pub under : List ℕ → List ℕ → List ℕ
under path name = if length path == 0 then name else path ++ codes "/" ++ name

abbrev pub fault : JsonFaultKind → List ℕ → List ℕ → JsonFault
fault what path name = record { kind = what; path = under path name }

abbrev pub IsFaultAt : JsonFaultKind → List ℕ → List ℕ → ReadError → Type 0
IsFaultAt what path name errors.Memory = Unit {0}
IsFaultAt what path name (errors.Fault f) = f ≡ fault what path name

abbrev pub required : {A : Type 0} → JsonFaultKind → List ℕ → List ℕ → Option A → Result A JsonFault
required what path name None = Err (fault what path name)
required what path name (Some a) = Ok a

-- a text
unfoldable pub text_in : List ℕ → List ℕ → Members → Result (List ℕ) JsonFault
text_in path name ms = do
  d ← required Missing path name (get_member name ms)
  required Kind path name (as_str d)

-- a number from 0 up within 64 bits
unfoldable pub number_in : List ℕ → List ℕ → Members → Result ℕ JsonFault
number_in path name ms = do
  d ← required Missing path name (get_member name ms)
  n ← required Kind path name (as_number d)
  required Number path name (as_u64 n)

-- a number of 64 bits as a text of decimal digits
unfoldable pub decimal_in : List ℕ → List ℕ → Members → Result ℕ JsonFault
decimal_in path name ms = do
  text ← text_in path name ms
  required Number path name (number_of text)

-- whether each number is a byte
abbrev pub are_bytes : List ℕ → Bool
are_bytes [] = true
are_bytes (b ∷ bs) = nat_lt b 256 && are_bytes bs

-- the bytes of which the text is the base64
unfoldable pub bytes_of : List ℕ → Option (List ℕ)
bytes_of text =
    if bytes_eq (encode_of standard (decoded_bytes_of standard text)) text
    && are_bytes (decoded_bytes_of standard text) then Some (decoded_bytes_of standard text) else
    None

-- bytes in base64
unfoldable pub bytes_in : List ℕ → List ℕ → Members → Result (List ℕ) JsonFault
bytes_in path name ms = do
  text ← text_in path name ms
  required Base64 path name (bytes_of text)

-- a text that has a meaning; another is a fault of the kind `what`
unfoldable pub meant_in : {X : Type 0} → JsonFaultKind → (List ℕ → Option X) → List ℕ → List ℕ
    → Members → Result X JsonFault
meant_in what meaning path name ms = do
  text ← text_in path name ms
  required what path name (meaning text)

-- a number that has a meaning; another is a fault of the kind Number
unfoldable pub counted_in : {X : Type 0} → (ℕ → Option X) → List ℕ → List ℕ → Members
    → Result X JsonFault
counted_in meaning path name ms = do
  n ← number_in path name ms
  required Number path name (meaning n)

-- this very text; another is a fault of the kind Unsupported
abbrev pub one_word : List ℕ → List ℕ → Option (Unit {0})
one_word word text = if bytes_eq text word then Some (tt {0}) else None

unfoldable pub word_in : List ℕ → List ℕ → List ℕ → Members → Result (Unit {0}) JsonFault
word_in word path name ms = do
  text ← text_in path name ms
  required Unsupported path name (one_word word text)

-- the members of an object
unfoldable pub object_in : List ℕ → List ℕ → Members → Result Members JsonFault
object_in path name ms = do
  d ← required Missing path name (get_member name ms)
  required Kind path name (as_object d)

-- ---- lists
-- what each item of the list at a path is, by `of`, from the item of this number on
unfoldable pub each_item : {X : Type 0} → (List ℕ → ℕ → Data → Result X JsonFault) → List ℕ → ℕ
    → Items → Result (List X) JsonFault
each_item of path i no_items = Ok []
each_item of path i (item d ds) = do
  x ← of path i d
  xs ← each_item of path (i + 1) ds
  Ok (x ∷ xs)

-- a text in a list
unfoldable pub text_item : List ℕ → ℕ → Data → Result (List ℕ) JsonFault
text_item path i d = required Kind path (decimal i) (as_str d)

-- a number of 64 bits as a text of decimal digits in a list
unfoldable pub decimal_item : List ℕ → ℕ → Data → Result ℕ JsonFault
decimal_item path i d = do
  text ← text_item path i d
  required Number path (decimal i) (number_of text)

-- the items of a list
unfoldable pub items_in : List ℕ → List ℕ → Members → Result Items JsonFault
items_in path name ms = do
  d ← required Missing path name (get_member name ms)
  required Kind path name (as_array d)

-- a list of texts
unfoldable pub texts_in : List ℕ → List ℕ → Members → Result (List (List ℕ)) JsonFault
texts_in path name ms = do
  items ← items_in path name ms
  each_item text_item (under path name) 0 items

-- a list of numbers of 64 bits, each a text of decimal digits
unfoldable pub decimals_in : List ℕ → List ℕ → Members → Result (List ℕ) JsonFault
decimals_in path name ms = do
  items ← items_in path name ms
  each_item decimal_item (under path name) 0 items

-- ---- members that need not be there, and those that must not
-- what is read of a member, where there is one
abbrev pub optional_at : {X : Type 0} → Option Data → Result X JsonFault
    → Result (Option X) JsonFault
optional_at None read = Ok None
optional_at (Some d) read = do
  x ← read
  Ok (Some x)

abbrev pub optional : {X : Type 0} → List ℕ → Members → Result X JsonFault
    → Result (Option X) JsonFault
optional name ms read = optional_at (get_member name ms) read

abbrev pub absent_at : JsonFaultKind → List ℕ → List ℕ → Option Data → Result (Unit {0}) JsonFault
absent_at what path name None = Ok tt
absent_at what path name (Some d) = Err (fault what path name)

abbrev pub absent : JsonFaultKind → List ℕ → List ℕ → Members → Result (Unit {0}) JsonFault
absent what path name ms = absent_at what path name (get_member name ms)

-- ---- and back
abbrev pub texts_data : List (List ℕ) → Items
texts_data ss = items_of (map string ss)

abbrev pub decimals_data : List ℕ → Items
decimals_data ns = items_of (map (λ n. string (decimal n)) ns)
