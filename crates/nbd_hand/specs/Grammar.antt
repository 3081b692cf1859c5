-- Options and how they come to an end, on whole strings of bytes.
use Rattle.std.specs.Prelude.{ℕ, ◌≡◌, ◌≢◌, ◌<◌, ◌≤◌, ◌^◌, ◌⊎◌, Bool, true, List, [], ◌∷◌, ◌++◌}
use Rattle.std.specs.Prelude.{length, take, Option, Some, None}
use Rattle.nbd_stream.specs.declared.ending.Ending.{Ending}
use Rattle.nbd_stream.specs.declared.ending.Ending.TheVariants.{Aborted, Closed, Truncated}
use Rattle.nbd_stream.specs.declared.ending.Ending.TheVariants.{BadFlags, BadMagic, TooLong}
use Rattle.nbd_stream.specs.declared.ending.Ending.TheVariants.{TooMany, ReadFault, WriteFault}
use Rattle.nbd_stream.specs.declared.ending.Ending.TheVariants.{Memory}
use Rattle.nbd_stream.specs.Endings.{IsCount}
use Rattle.nbd_hand.specs.declared.export.Export.{Export}
use Rattle.nbd_hand.specs.declared.options.ClientOption.{ClientOption}
use Rattle.nbd_hand.specs.declared.options.Course.{Course}
use Rattle.nbd_hand.specs.declared.options.Course.TheVariants.{GoesOn, Begins, Ends}
use Rattle.nbd_hand.specs.declared.negotiation.Agreed.{Agreed}
use Rattle.nbd_hand.specs.Options.{agreed_by, verdict_of, course_of, answer_of}
use Rattle.nbd_wire.specs.declared.options.OptionHead.{OptionHead}
use Rattle.nbd_wire.specs.declared.options.OptionType.{OptionType}
use Rattle.nbd_wire.specs.Fields.{u32_text, u64_text}
use Rattle.nbd_wire.specs.Magic.{option_magic}
use Rattle.nbd_wire.specs.Options.{IsOptionHead, option_text}

-- the head of an option with this data
abbrev pub head_with : OptionType → List ℕ → OptionHead
head_with option body = record { option = option; length = length body }

-- the bytes are one whole option with this data
pub record IsOption (bytes : List ℕ) (option : OptionType) (body : List ℕ) : Type 0 where
  pub is_head : IsOptionHead (head_with option body)
  pub fits : length body ≤ 65536
  pub parts : bytes ≡ option_text (head_with option body) ++ body

-- a front of an option, and less than all of it: of its head, or of its data
pub record IsCutOptionData (bytes : List ℕ) : Type 0 where
  pub head : OptionHead
  pub body : List ℕ
  pub is_head : IsOptionHead head
  pub fits : head.length ≤ 65536
  pub parts : bytes ≡ option_text head ++ body
  pub fewer : length body < head.length

abbrev pub IsCutOption : List ℕ → Type 0
IsCutOption bytes = (length bytes < 16) ⊎ IsCutOptionData bytes

-- the bytes are the head of an option
pub record IsHeadAlone (bytes : List ℕ) (head : OptionHead) : Type 0 where
  pub is_head : IsOptionHead head
  pub parts : bytes ≡ option_text head

-- The bytes that a session took of the client's flags, by the ending that they brought. `ended`
-- says that the source had no more.
abbrev pub StopsFlags : Ending → Bool → List ℕ → Type 0
StopsFlags Closed ended bytes = (bytes ≡ []) × (ended ≡ true)
StopsFlags (Truncated n) ended bytes = (length bytes ≡ n) × (0 < n) × (n < 4) × (ended ≡ true)
StopsFlags (BadFlags flags) ended bytes = (bytes ≡ u32_text flags) × (4 ≤ flags) × (flags < 2 ^ 32)
StopsFlags ReadFault ended bytes = length bytes < 4
StopsFlags _ ended bytes = ⊥

-- the bytes that a session took where an option was to come, by the ending that they brought
abbrev pub StopsOptions : Ending → Bool → List ℕ → Type 0
StopsOptions Closed ended bytes = (bytes ≡ []) × (ended ≡ true)
StopsOptions (Truncated n) ended bytes = (length bytes ≡ n) × (0 < n) × (ended ≡ true)
    × IsCutOption bytes
StopsOptions (BadMagic n) ended bytes = (length bytes ≡ 16) × (u64_text n ≡ take 8 bytes)
    × (n ≢ option_magic) × (n < 2 ^ 64)
StopsOptions (TooLong n) ended bytes = (head : OptionHead) × IsHeadAlone bytes head
    × (n ≡ head.length) × (65536 < n)
StopsOptions ReadFault ended bytes = IsCutOption bytes
StopsOptions Memory ended bytes = (head : OptionHead) × IsHeadAlone bytes head × (0 < head.length)
    × (head.length ≤ 65536)
StopsOptions _ ended bytes = ⊥

-- these bytes are behind the last option that was answered and after which the negotiation went on
abbrev pub EndsOptions : Ending → Bool → List ℕ → Type 0
EndsOptions (TooMany m) ended bytes = bytes ≡ []
EndsOptions WriteFault ended bytes = bytes ≡ []
EndsOptions ending ended bytes = StopsOptions ending ended bytes

-- what comes after an option
abbrev pub course_after : ClientOption → Course
course_after option = course_of (verdict_of option.option option.body)

-- an option ends the session, by itself or since its answer didn't go out
abbrev pub EndsBy : ClientOption → Ending → Type 0
EndsBy option ending =
    (course_after option ≡ Ends ending)
    ⊎ ((ending ≡ WriteFault)
    × ((course_after option ≡ Begins) ⊎ (course_after option ≡ Ends Aborted)))

-- the bytes are these options, one after the other, after each of which the negotiation goes on
unfoldable pub SpellsOptions : List ClientOption → List ℕ → Type 0
SpellsOptions [] bytes = bytes ≡ []
SpellsOptions (option ∷ options) bytes =
    (message : List ℕ) × (rest : List ℕ) × (bytes ≡ message ++ rest)
    × IsOption message option.option option.body × (course_after option ≡ GoesOn)
    × SpellsOptions options rest

-- how the options came to an end: by the bytes that come next, or by one last option
abbrev pub CourseIs : Course → Option ClientOption → ℕ → Bool → List ℕ → Type 0
CourseIs GoesOn None n ended bytes = bytes ≡ []
CourseIs GoesOn (Some option) n ended bytes = ⊥
CourseIs Begins None n ended bytes = ⊥
CourseIs Begins (Some option) n ended bytes =
    IsOption bytes option.option option.body × (course_after option ≡ Begins) × (n < 65536)
CourseIs (Ends ending) None n ended bytes = EndsOptions ending ended bytes × IsCount 65536 ending n
CourseIs (Ends ending) (Some option) n ended bytes =
    IsOption bytes option.option option.body × EndsBy option ending × (n < 65536)

-- These bytes are some options behind `n` earlier ones, with what comes then.
pub record AreOptions (course : Course) (options : List ClientOption) (last : Option ClientOption)
    (n : ℕ) (taken : List ℕ) (ended : Bool) : Type 0 where
  pub text : List ℕ
  pub bytes : List ℕ
  pub parts : taken ≡ text ++ bytes
  pub spells : SpellsOptions options text
  pub course_is : CourseIs course last n ended bytes

-- what was agreed on after options, each by what had been before it
abbrev pub agreed_with : ClientOption → Agreed → Agreed
agreed_with option agreed = agreed_by (verdict_of option.option option.body) agreed

unfoldable pub agreed_after : Agreed → List ClientOption → Agreed
agreed_after agreed [] = agreed
agreed_after agreed (option ∷ options) = agreed_after (agreed_with option agreed) options

-- the answers to options
unfoldable pub answers_to : Export → Agreed → List ClientOption → List (List ℕ)
answers_to export agreed [] = []
answers_to export agreed (option ∷ options) =
    answer_of export agreed option.option (verdict_of option.option option.body)
    ∷ answers_to export (agreed_with option agreed) options

-- the answer to the option that came last, if one did
abbrev pub last_answer : Export → Agreed → Option ClientOption → List (List ℕ)
last_answer export agreed None = []
last_answer export agreed (Some option) = answers_to export agreed (option ∷ [])
