-- What each kind of member is read as, both ways.
use Rattle.std.proofs.Common.{◌≡◌, ℕ, ◌+◌, ◌^◌, ◌<◌, List, [], ◌∷◌, map, decimal, bytes_eq, true}
use Rattle.std.proofs.Common.{option_map, Option, Some, None, Result, Ok, Err, refl, ap, ◌∙◌}
use Rattle.std.proofs.lemmas.Slice.Eq.{bytes_eq-Decides}
use Rattle.std.specs.List.{AllByRecursion}
use Rattle.base64.specs.GeneralPurpose.{encode_of, IsBytes}
use Rattle.base64.specs.Engines.{standard}
use Rattle.serde_json.specs.Data.{Num, unsigned, negative, float, Data, null, boolean, number}
use Rattle.serde_json.specs.Data.{string, array, object, Items, no_items, item, Members}
use Rattle.serde_json.specs.Find.{get_member, as_str, as_number, as_u64, as_array, as_object}
use Rattle.serde_json.specs.View.{items_of}
use Rattle.json_members.specs.declared.faults.JsonFault.{JsonFault}
use Rattle.json_members.specs.declared.faults.JsonFaultKind.{JsonFaultKind}
use Rattle.json_members.specs.declared.faults.JsonFaultKind.TheVariants.{Missing, Kind, Number}
use Rattle.json_members.specs.declared.faults.JsonFaultKind.TheVariants.{Base64, Unsupported}
use Rattle.json_members.specs.Decimals.{number_of}
use Rattle.json_members.specs.Fields.{required, under, meant_in, counted_in, word_in, one_word}
use Rattle.json_members.specs.Fields.{text_in, number_in, decimal_in, bytes_in, bytes_of, object_in}
use Rattle.json_members.specs.Fields.{items_in, texts_in, decimals_in, each_item, text_item}
use Rattle.json_members.specs.Fields.{decimal_item, texts_data, decimals_data, optional}
use Rattle.json_members.specs.Fields.{optional_at, absent, absent_at}
use Rattle.json_members.specs.Forms.{HasText, HasNumber, HasDecimal, HasBytes, HasObject, HasTexts}
use Rattle.json_members.specs.Forms.{HasDecimals, HasOptional}
use Rattle.json_members.proofs.BytesLemmas.{bytes_of-encode_of, bytes_of-exact}
use Rattle.json_members.proofs.DecimalLemmas.{number_of-decimal, number_of-exact, chosen_from}
use Rattle.json_members.proofs.ReadLemmas.{Right, then, right_at, required-Some, needed, read_on}
use Rattle.json_members.proofs.ReadLemmas.{each_right}

-- ---- from members to values
pub text_in-string : (path name : List ℕ) (ms : Members) (s : List ℕ)
    → get_member name ms ≡ Some (string s) → text_in path name ms ≡ Ok s
unfolding text_in
text_in-string path name ms s h = rw h refl

pub number_in-unsigned : (path name : List ℕ) (ms : Members) (n : ℕ)
    → get_member name ms ≡ Some (number (unsigned n)) → number_in path name ms ≡ Ok n
unfolding number_in
number_in-unsigned path name ms n h = rw h refl

pub decimal_in-decimal : (path name : List ℕ) (ms : Members) (n : ℕ)
    → get_member name ms ≡ Some (string (decimal n)) → n < 2 ^ 64 → decimal_in path name ms ≡ Ok n
unfolding decimal_in
decimal_in-decimal path name ms n h small =
    rw (text_in-string path name ms (decimal n) h, number_of-decimal n small) refl

pub bytes_in-bytes : (path name : List ℕ) (ms : Members) (bs : List ℕ)
    → get_member name ms ≡ Some (string (encode_of standard bs)) → IsBytes bs
    → bytes_in path name ms ≡ Ok bs
unfolding bytes_in
bytes_in-bytes path name ms bs h bytes =
    rw (text_in-string path name ms (encode_of standard bs) h, bytes_of-encode_of bs bytes) refl

pub object_in-object : (path name : List ℕ) (ms ns : Members)
    → get_member name ms ≡ Some (object ns) → object_in path name ms ≡ Ok ns
unfolding object_in
object_in-object path name ms ns h = rw h refl

items_in-array : (path name : List ℕ) (ms : Members) (ds : Items)
    → get_member name ms ≡ Some (array ds) → items_in path name ms ≡ Ok ds
unfolding items_in
items_in-array path name ms ds h = rw h refl

each_item-items : {X : Type 0} (of : List ℕ → ℕ → Data → Result X JsonFault) (back : X → Data)
    (P : X → Type 0) → ((path : List ℕ) (i : ℕ) (x : X) → P x → of path i (back x) ≡ Ok x)
    → (path : List ℕ) (i : ℕ) (xs : List X) → AllByRecursion P xs
    → each_item of path i (items_of (map back xs)) ≡ Ok xs
unfolding each_item
each_item-items of back P h path i [] all = refl
each_item-items of back P h path i (x ∷ xs) all =
    rw (h path i x all.0, each_item-items of back P h path (i + 1) xs all.1) refl

any : (ss : List (List ℕ)) → AllByRecursion (λ s. Unit {0}) ss
any [] = tt
any (s ∷ ss) = (tt, any ss)

pub texts_in-texts : (path name : List ℕ) (ms : Members) (ss : List (List ℕ))
    → get_member name ms ≡ Some (array (texts_data ss)) → texts_in path name ms ≡ Ok ss
unfolding texts_in text_item
texts_in-texts path name ms ss h =
    rw (items_in-array path name ms _ h)
    (each_item-items text_item string (λ s. Unit {0}) (λ p i s u. refl) (under path name) 0 ss
    (any ss))

decimal_item-decimal : (path : List ℕ) (i n : ℕ) → n < 2 ^ 64
    → decimal_item path i (string (decimal n)) ≡ Ok n
unfolding decimal_item text_item
decimal_item-decimal path i n small = rw (number_of-decimal n small) refl

pub decimals_in-decimals : (path name : List ℕ) (ms : Members) (ns : List ℕ)
    → get_member name ms ≡ Some (array (decimals_data ns)) → AllByRecursion (λ n. n < 2 ^ 64) ns
    → decimals_in path name ms ≡ Ok ns
unfolding decimals_in
decimals_in-decimals path name ms ns h small =
    rw (items_in-array path name ms _ h)
    (each_item-items decimal_item (λ n. string (decimal n)) (λ n. n < 2 ^ 64) decimal_item-decimal
    (under path name) 0 ns small)

pub meant_in-text : {X : Type 0} (what : JsonFaultKind) (meaning : List ℕ → Option X)
    (path name : List ℕ) (ms : Members) (text : List ℕ) (x : X)
    → get_member name ms ≡ Some (string text) → meaning text ≡ Some x
    → meant_in what meaning path name ms ≡ Ok x
unfolding meant_in
meant_in-text what meaning path name ms text x h is =
    rw (text_in-string path name ms text h, is) refl

pub counted_in-number : {X : Type 0} (meaning : ℕ → Option X) (path name : List ℕ) (ms : Members)
    (n : ℕ) (x : X) → get_member name ms ≡ Some (number (unsigned n)) → meaning n ≡ Some x
    → counted_in meaning path name ms ≡ Ok x
unfolding counted_in
counted_in-number meaning path name ms n x h is = rw (number_in-unsigned path name ms n h, is) refl

pub word_in-word : (word path name : List ℕ) (ms : Members)
    → get_member name ms ≡ Some (string word) → word_in word path name ms ≡ Ok (tt {0})
unfolding word_in
word_in-word word path name ms h =
    let same : bytes_eq word word ≡ true = (bytes_eq-Decides word word).1 refl in
    rw (text_in-string path name ms word h, same) refl

pub optional-read : {X : Type 0} (name : List ℕ) (ms : Members) (read : Result X JsonFault)
    (Form : X → Type 0) (shape : X → Data) (o : Option X)
    → ((x : X) → Form x → (get_member name ms ≡ Some (shape x)) × (read ≡ Ok x))
    → HasOptional name Form o ms → optional name ms read ≡ Ok o
optional-read name ms read Form shape None h has = rw has refl
optional-read name ms read Form shape (Some x) h has = let is = h x has in rw (is.0, is.1) refl

-- ---- and from values to members
as_str-string : (d : Data) (s : List ℕ) → as_str d ≡ Some s → d ≡ string s
as_str-string null s h = cc
as_str-string (boolean b) s h = cc
as_str-string (number n) s h = cc
as_str-string (string t) s h = let e : t ≡ s = cc in ap string e
as_str-string (array ds) s h = cc
as_str-string (object ms) s h = cc

as_number-number : (d : Data) (n : Num) → as_number d ≡ Some n → d ≡ number n
as_number-number null n h = cc
as_number-number (boolean b) n h = cc
as_number-number (number m) n h = let e : m ≡ n = cc in ap number e
as_number-number (string t) n h = cc
as_number-number (array ds) n h = cc
as_number-number (object ms) n h = cc

as_u64-unsigned : (m : Num) (n : ℕ) → as_u64 m ≡ Some n → m ≡ unsigned n
as_u64-unsigned (unsigned m) n h = let e : m ≡ n = cc in ap unsigned e
as_u64-unsigned (negative z) n h = cc
as_u64-unsigned (float x) n h = cc

as_array-array : (d : Data) (es : Items) → as_array d ≡ Some es → d ≡ array es
as_array-array null es h = cc
as_array-array (boolean b) es h = cc
as_array-array (number n) es h = cc
as_array-array (string t) es h = cc
as_array-array (array ds) es h = let e : ds ≡ es = cc in ap array e
as_array-array (object ms) es h = cc

pub as_object-object : (d : Data) (ns : Members) → as_object d ≡ Some ns → d ≡ object ns
as_object-object null ns h = cc
as_object-object (boolean b) ns h = cc
as_object-object (number n) ns h = cc
as_object-object (string t) ns h = cc
as_object-object (array ds) ns h = cc
as_object-object (object ms) ns h = let e : ms ≡ ns = cc in ap object e

pub text_read : (path name : List ℕ) (ms : Members)
    → Right (λ s. get_member name ms ≡ Some (string s)) (text_in path name ms)
unfolding text_in
text_read path name ms = then (required Missing path name (get_member name ms)) _ _ (λ d e.
    required-Some Kind path name (as_str d) (λ s. get_member name ms ≡ Some (string s))
    (λ s is. needed Missing path name (get_member name ms) d e ∙ ap Some (as_str-string d s is)))

pub meant_read : {X : Type 0} (what : JsonFaultKind) (meaning : List ℕ → Option X)
    (path name : List ℕ) (ms : Members)
    → Right (λ x. (text : List ℕ) × (get_member name ms ≡ Some (string text))
    × (meaning text ≡ Some x)) (meant_in what meaning path name ms)
unfolding meant_in
meant_read {X} what meaning path name ms = then (text_in path name ms) _ _ (λ text e.
    required-Some what path name (meaning text)
    (λ x. (s : List ℕ) × (get_member name ms ≡ Some (string s)) × (meaning s ≡ Some x)) (λ x is. (
      text,
      right_at _ text (λ s. get_member name ms ≡ Some (string s)) e (text_read path name ms),
      is,
    )))

pub word_read : (word path name : List ℕ) (ms : Members)
    → Right (λ u. get_member name ms ≡ Some (string word)) (word_in word path name ms)
unfolding word_in
word_read word path name ms = then (text_in path name ms) _ _ (λ text e.
    required-Some Unsupported path name (one_word word text)
    (λ u. get_member name ms ≡ Some (string word)) (λ u is.
    let same : text ≡ word =
    (bytes_eq-Decides text word).0 (chosen_from (bytes_eq text word) tt u is).0 in
    right_at _ text (λ s. get_member name ms ≡ Some (string s)) e (text_read path name ms)
    ∙ ap (λ s. Some (string s)) same))

pub number_read : (path name : List ℕ) (ms : Members)
    → Right (λ n. get_member name ms ≡ Some (number (unsigned n))) (number_in path name ms)
unfolding number_in
number_read path name ms =
    then (required Missing path name (get_member name ms)) _ _ (λ d e.
    then (required Kind path name (as_number d)) _ _ (λ m f.
    required-Some Number path name (as_u64 m) (λ n. get_member name ms ≡ Some (number (unsigned n)))
    (λ n is.
    needed Missing path name (get_member name ms) d e
    ∙ ap Some
    (as_number-number d m (needed Kind path name (as_number d) m f)
    ∙ ap number (as_u64-unsigned m n is)))))

pub counted_read : {X : Type 0} (meaning : ℕ → Option X) (path name : List ℕ) (ms : Members)
    → Right (λ x. (n : ℕ) × (get_member name ms ≡ Some (number (unsigned n)))
    × (meaning n ≡ Some x)) (counted_in meaning path name ms)
unfolding counted_in
counted_read meaning path name ms = then (number_in path name ms) _ _ (λ n e.
    required-Some Number path name (meaning n)
    (λ x. (m : ℕ) × (get_member name ms ≡ Some (number (unsigned m))) × (meaning m ≡ Some x))
    (λ x is. (
      n,
      right_at _ n (λ m. get_member name ms ≡ Some (number (unsigned m))) e
          (number_read path name ms),
      is,
    )))

pub decimal_read : (path name : List ℕ) (ms : Members)
    → Right (λ n. (get_member name ms ≡ Some (string (decimal n))) × (n < 2 ^ 64))
    (decimal_in path name ms)
unfolding decimal_in
decimal_read path name ms = then (text_in path name ms) _ _ (λ text e.
    required-Some Number path name (number_of text)
    (λ n. (get_member name ms ≡ Some (string (decimal n))) × (n < 2 ^ 64)) (λ n is.
    let exact = number_of-exact text n is in (
      right_at _ text (λ s. get_member name ms ≡ Some (string s)) e (text_read path name ms)
          ∙ ap (λ s. Some (string s)) exact.1,
      exact.0,
    )))

pub bytes_read : (path name : List ℕ) (ms : Members)
    → Right (λ bs. (get_member name ms ≡ Some (string (encode_of standard bs))) × IsBytes bs)
    (bytes_in path name ms)
unfolding bytes_in
bytes_read path name ms = then (text_in path name ms) _ _ (λ text e.
    required-Some Base64 path name (bytes_of text)
    (λ bs. (get_member name ms ≡ Some (string (encode_of standard bs))) × IsBytes bs) (λ bs is.
    let exact = bytes_of-exact text bs is in (
      right_at _ text (λ s. get_member name ms ≡ Some (string s)) e (text_read path name ms)
          ∙ ap (λ s. Some (string s)) exact.0,
      exact.1,
    )))

pub object_read : (path name : List ℕ) (ms : Members)
    → Right (λ ns. get_member name ms ≡ Some (object ns)) (object_in path name ms)
unfolding object_in
object_read path name ms = then (required Missing path name (get_member name ms)) _ _ (λ d e.
    required-Some Kind path name (as_object d) (λ ns. get_member name ms ≡ Some (object ns))
    (λ ns is. needed Missing path name (get_member name ms) d e
    ∙ ap Some (as_object-object d ns is)))

items_read : (path name : List ℕ) (ms : Members)
    → Right (λ ds. get_member name ms ≡ Some (array ds)) (items_in path name ms)
unfolding items_in
items_read path name ms = then (required Missing path name (get_member name ms)) _ _ (λ d e.
    required-Some Kind path name (as_array d) (λ ds. get_member name ms ≡ Some (array ds))
    (λ ds is. needed Missing path name (get_member name ms) d e ∙ ap Some (as_array-array d ds is)))

each_item-read : {X : Type 0} (of : List ℕ → ℕ → Data → Result X JsonFault) (back : X → Data)
    (P : X → Type 0)
    → ((path : List ℕ) (i : ℕ) (d : Data) → Right (λ x. (d ≡ back x) × P x) (of path i d))
    → (path : List ℕ) (i : ℕ) (ds : Items)
    → Right (λ xs. (ds ≡ items_of (map back xs)) × AllByRecursion P xs) (each_item of path i ds)
unfolding each_item
each_item-read of back P h path i no_items = (refl, tt)
each_item-read of back P h path i (item d ds) =
    then (of path i d) _ _ (λ x e.
    then (each_item of path (i + 1) ds) _ _ (λ xs f.
    let one = right_at _ x (λ y. (d ≡ back y) × P y) e (h path i d) in
    let more =
    right_at _ xs (λ ys. (ds ≡ items_of (map back ys)) × AllByRecursion P ys) f
    (each_item-read of back P h path (i + 1) ds) in
    ((λ k. item (one.0 k) (more.0 k)), (one.1, more.1))))

text_item-read : (path : List ℕ) (i : ℕ) (d : Data)
    → Right (λ s. (d ≡ string s) × Unit {0}) (text_item path i d)
unfolding text_item
text_item-read path i d =
    required-Some Kind path (decimal i) (as_str d) (λ s. (d ≡ string s) × Unit {0})
    (λ s is. (as_str-string d s is, tt))

decimal_item-read : (path : List ℕ) (i : ℕ) (d : Data)
    → Right (λ n. (d ≡ string (decimal n)) × (n < 2 ^ 64)) (decimal_item path i d)
unfolding decimal_item
decimal_item-read path i d = then (text_item path i d) _ _ (λ text e.
    required-Some Number path (decimal i) (number_of text)
    (λ n. (d ≡ string (decimal n)) × (n < 2 ^ 64)) (λ n is.
    let exact = number_of-exact text n is in (
      (right_at _ text (λ s. (d ≡ string s) × Unit {0}) e (text_item-read path i d)).0
          ∙ ap string exact.1,
      exact.0,
    )))

pub texts_read : (path name : List ℕ) (ms : Members)
    → Right (λ ss. get_member name ms ≡ Some (array (texts_data ss))) (texts_in path name ms)
unfolding texts_in
texts_read path name ms = then (items_in path name ms) _ _ (λ ds e.
    read_on {P = λ ss. (ds ≡ items_of (map string ss)) × AllByRecursion (λ s. Unit {0}) ss}
    {Q = λ ss. get_member name ms ≡ Some (array (texts_data ss))} _
    (each_item-read text_item string (λ s. Unit {0}) text_item-read (under path name) 0 ds)
    (λ ss is. right_at _ ds (λ es. get_member name ms ≡ Some (array es)) e (items_read path name ms)
    ∙ ap (λ es. Some (array es)) is.0))

pub decimals_read : (path name : List ℕ) (ms : Members)
    → Right (λ ns. (get_member name ms ≡ Some (array (decimals_data ns)))
    × AllByRecursion (λ n. n < 2 ^ 64) ns) (decimals_in path name ms)
unfolding decimals_in
decimals_read path name ms = then (items_in path name ms) _ _ (λ ds e.
    read_on {P = λ ns. (ds ≡ items_of (map (λ n. string (decimal n)) ns))
    × AllByRecursion (λ n. n < 2 ^ 64) ns}
    {Q = λ ns. (get_member name ms ≡ Some (array (decimals_data ns)))
    × AllByRecursion (λ n. n < 2 ^ 64) ns} _
    (each_item-read decimal_item (λ n. string (decimal n)) (λ n. n < 2 ^ 64) decimal_item-read
    (under path name) 0 ds)
    (λ ns is. (
      right_at _ ds (λ es. get_member name ms ≡ Some (array es)) e (items_read path name ms)
          ∙ ap (λ es. Some (array es)) is.0,
      is.1,
    )))

-- ---- members that need not be there
optional_read_at : {X : Type 0} (name : List ℕ) (ms : Members) (o : Option Data)
    (read : Result X JsonFault) (Form : X → Type 0) → get_member name ms ≡ o → Right Form read
    → Right (λ x. HasOptional name Form x ms) (optional_at o read)
optional_read_at name ms None read Form is h = is
optional_read_at name ms (Some d) (Ok x) Form is h = h
optional_read_at name ms (Some d) (Err e) Form is h = tt

pub optional_read : {X : Type 0} (name : List ℕ) (ms : Members) (read : Result X JsonFault)
    (Form : X → Type 0) → Right Form read
    → Right (λ x. HasOptional name Form x ms) (optional name ms read)
optional_read name ms read Form h = optional_read_at name ms (get_member name ms) read Form refl h

absent_there : (o : Option Data) (what : JsonFaultKind) (path name : List ℕ) (u : Unit {0})
    → absent_at what path name o ≡ Ok u → o ≡ None
absent_there None what path name u e = refl
absent_there (Some d) what path name u e = cc

pub absent_read : (what : JsonFaultKind) (path name : List ℕ) (ms : Members) (u : Unit {0})
    → absent what path name ms ≡ Ok u → get_member name ms ≡ None
absent_read what path name ms u e = absent_there (get_member name ms) what path name u e

-- ---- the same, of a value that was read
pub text_got : (path name : List ℕ) (ms : Members) (s : List ℕ) → text_in path name ms ≡ Ok s
    → HasText name s ms
text_got path name ms s e = right_at _ s (λ x. HasText name x ms) e (text_read path name ms)

pub number_got : (path name : List ℕ) (ms : Members) (n : ℕ) → number_in path name ms ≡ Ok n
    → HasNumber name n ms
number_got path name ms n e = right_at _ n (λ x. HasNumber name x ms) e (number_read path name ms)

pub decimal_got : (path name : List ℕ) (ms : Members) (n : ℕ) → decimal_in path name ms ≡ Ok n
    → HasDecimal name n ms
decimal_got path name ms n e =
    right_at _ n (λ x. HasDecimal name x ms) e (decimal_read path name ms)

pub bytes_got : (path name : List ℕ) (ms : Members) (bs : List ℕ) → bytes_in path name ms ≡ Ok bs
    → HasBytes name bs ms
bytes_got path name ms bs e = right_at _ bs (λ x. HasBytes name x ms) e (bytes_read path name ms)

pub object_got : (path name : List ℕ) (ms inner : Members) → object_in path name ms ≡ Ok inner
    → HasObject name inner ms
object_got path name ms inner e =
    right_at _ inner (λ x. HasObject name x ms) e (object_read path name ms)

pub texts_got : (path name : List ℕ) (ms : Members) (ss : List (List ℕ))
    → texts_in path name ms ≡ Ok ss → HasTexts name ss ms
texts_got path name ms ss e = right_at _ ss (λ x. HasTexts name x ms) e (texts_read path name ms)

pub decimals_got : (path name : List ℕ) (ms : Members) (ns : List ℕ)
    → decimals_in path name ms ≡ Ok ns → HasDecimals name ns ms
decimals_got path name ms ns e =
    right_at _ ns (λ x. HasDecimals name x ms) e (decimals_read path name ms)

pub word_got : (word path name : List ℕ) (ms : Members) (u : Unit {0})
    → word_in word path name ms ≡ Ok u → HasText name word ms
word_got word path name ms u e =
    right_at _ u (λ x. HasText name word ms) e (word_read word path name ms)

pub counted_got : {X : Type 0} (meaning : ℕ → Option X) (path name : List ℕ) (ms : Members) (x : X)
    → counted_in meaning path name ms ≡ Ok x → (n : ℕ) × HasNumber name n ms × (meaning n ≡ Some x)
counted_got meaning path name ms x e =
    right_at _ x (λ y. (n : ℕ) × HasNumber name n ms × (meaning n ≡ Some y)) e
    (counted_read meaning path name ms)

pub meant_got : {X : Type 0} (what : JsonFaultKind) (meaning : List ℕ → Option X)
    (path name : List ℕ) (ms : Members) (x : X) → meant_in what meaning path name ms ≡ Ok x
    → (text : List ℕ) × HasText name text ms × (meaning text ≡ Some x)
meant_got what meaning path name ms x e =
    right_at _ x (λ y. (text : List ℕ) × HasText name text ms × (meaning text ≡ Some y)) e
    (meant_read what meaning path name ms)

-- a text whose meaning has one name
pub meant_named : {X : Type 0} (what : JsonFaultKind) (meaning : List ℕ → Option X)
    (name_of : X → List ℕ) → ((text : List ℕ) (x : X) → meaning text ≡ Some x → text ≡ name_of x)
    → (path name : List ℕ) (ms : Members) (x : X) → meant_in what meaning path name ms ≡ Ok x
    → HasText name (name_of x) ms
meant_named what meaning name_of exact path name ms x e =
    let got = meant_got what meaning path name ms x e in
    got.1 ∙ ap (λ s. Some (string s)) (exact got.0 x got.2)

pub optional_got : {X : Type 0} (name : List ℕ) (ms : Members) (read : Result X JsonFault)
    (Form : X → Type 0) (o : Option X) → ((x : X) → read ≡ Ok x → Form x)
    → optional name ms read ≡ Ok o → HasOptional name Form o ms
optional_got name ms read Form o h e =
    right_at _ o (λ x. HasOptional name Form x ms) e
    (optional_read name ms read Form (each_right read Form h))

-- ---- a member that need not be there, from what stands at its name
pub has_optional : {X : Type 0} (name : List ℕ) (ms : Members) (shape : X → Data)
    (Form : X → Type 0) (o : Option X) → get_member name ms ≡ option_map shape o
    → ((x : X) → o ≡ Some x → get_member name ms ≡ Some (shape x) → Form x)
    → HasOptional name Form o ms
has_optional name ms shape Form None h k = h
has_optional name ms shape Form (Some x) h k = k x refl h
