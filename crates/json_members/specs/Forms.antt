-- Which member an object has, of which form.
use Rattle.std.specs.Prelude.{◌≡◌, ℕ, ◌^◌, ◌<◌, List, Option, Some, None, decimal}
use Rattle.std.specs.List.{AllByRecursion}
use Rattle.base64.specs.GeneralPurpose.{encode_of, IsBytes}
use Rattle.base64.specs.Engines.{standard}
use Rattle.serde_json.specs.Data.{string, number, unsigned, array, object, Members}
use Rattle.serde_json.specs.Find.{get_member}
use Rattle.json_members.specs.Fields.{texts_data, decimals_data}

-- no member of this name
abbrev pub HasNone : List ℕ → Members → Type 0
HasNone name ms = get_member name ms ≡ None

-- this text
abbrev pub HasText : List ℕ → List ℕ → Members → Type 0
HasText name text ms = get_member name ms ≡ Some (string text)

-- this number
abbrev pub HasNumber : List ℕ → ℕ → Members → Type 0
HasNumber name n ms = get_member name ms ≡ Some (number (unsigned n))

-- the decimal digits of this number of 64 bits, as a text
abbrev pub HasDecimal : List ℕ → ℕ → Members → Type 0
HasDecimal name n ms = HasText name (decimal n) ms × (n < 2 ^ 64)

-- these bytes, in base64
abbrev pub HasBytes : List ℕ → List ℕ → Members → Type 0
HasBytes name bytes ms = HasText name (encode_of standard bytes) ms × IsBytes bytes

-- an object of these members
abbrev pub HasObject : List ℕ → Members → Members → Type 0
HasObject name inner ms = get_member name ms ≡ Some (object inner)

-- a list of these texts
abbrev pub HasTexts : List ℕ → List (List ℕ) → Members → Type 0
HasTexts name texts ms = get_member name ms ≡ Some (array (texts_data texts))

-- a list of the decimal digits of these numbers of 64 bits
abbrev pub HasDecimals : List ℕ → List ℕ → Members → Type 0
HasDecimals name numbers ms =
    (get_member name ms ≡ Some (array (decimals_data numbers)))
    × AllByRecursion (λ n. n < 2 ^ 64) numbers

-- a member of this form, or none of this name
abbrev pub HasOptional : {X : Type 0} → List ℕ → (X → Type 0) → Option X → Members → Type 0
HasOptional name Form None ms = HasNone name ms
HasOptional name Form (Some x) ms = Form x
