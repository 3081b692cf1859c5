-- The head of an option ("Option types" of the NBD protocol document).
use Rattle.std.specs.Prelude.{ℕ, ◌≡◌, ◌<◌, ◌^◌, ◌==◌, if◌then◌else◌, List, [], ◌∷◌}
use Rattle.nbd_wire.specs.declared.options.OptionType.{OptionType}
use Rattle.nbd_wire.specs.declared.options.OptionType.TheVariants.{ExportName, Abort}
use Rattle.nbd_wire.specs.declared.options.OptionType.TheVariants.{List as Listing, StartTls, Info}
use Rattle.nbd_wire.specs.declared.options.OptionType.TheVariants.{Go, StructuredReply, Other}
use Rattle.nbd_wire.specs.declared.options.OptionHead.{OptionHead}
use Rattle.nbd_wire.specs.Magic.{option_magic}
use Rattle.nbd_wire.specs.Fields.{message, u32_text, u64_text}

-- the number of each option
abbrev pub option_number : OptionType → ℕ
option_number ExportName = 1
option_number Abort = 2
option_number Listing = 3
option_number StartTls = 5
option_number Info = 6
option_number Go = 7
option_number StructuredReply = 8
option_number (Other number) = number

-- the option of a number: by its name where it has one
abbrev pub option_of : ℕ → OptionType
option_of n =
    if n == 1 then ExportName
    else (if n == 2 then Abort
    else (if n == 3 then Listing
    else (if n == 5 then StartTls
    else (if n == 6 then Info
    else (if n == 7 then Go
    else (if n == 8 then StructuredReply
    else Other n))))))

-- The fields are in their ranges, and an option that has a name goes by it.
pub record IsOptionHead (head : OptionHead) : Type 0 where
  pub option : option_number head.option < 2 ^ 32
  pub named : option_of (option_number head.option) ≡ head.option
  pub size : head.length < 2 ^ 32

-- u64 magic, u32 option, u32 length
unfoldable pub option_text : OptionHead → List ℕ
option_text head =
    message (u64_text option_magic ∷ u32_text (option_number head.option) ∷ u32_text head.length
    ∷ [])
