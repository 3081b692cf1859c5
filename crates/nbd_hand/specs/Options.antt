-- What a client asks by an option, what it is answered, and what comes then.
use Rattle.std.specs.Prelude.{ℕ, Bool, true, false, ◌==◌, ◌||◌, ◌&&◌, nat_lt, if◌then◌else◌, List}
use Rattle.std.specs.Prelude.{[], ◌∷◌, ◌++◌, length, replicate, codes, Option, Some, None}
use Rattle.nbd_stream.specs.declared.ending.Ending.TheVariants.{Aborted, UnknownExport}
use Rattle.nbd_hand.specs.declared.export.Export.{Export}
use Rattle.nbd_hand.specs.declared.options.Course.{Course}
use Rattle.nbd_hand.specs.declared.options.Course.TheVariants.{GoesOn, Begins, Ends}
use Rattle.nbd_hand.specs.declared.options.Verdict.{Verdict}
use Rattle.nbd_hand.specs.declared.options.Verdict.TheVariants.{Tell, Names, Inform, Agree, Refuse}
use Rattle.nbd_hand.specs.declared.options.Verdict.TheVariants.{Structure, Abort, Unknown}
use Rattle.nbd_hand.specs.declared.negotiation.Agreed.{Agreed}
use Rattle.nbd_hand.specs.Exports.{export_data, block_sizes}
use Rattle.nbd_wire.specs.declared.options.OptionType.{OptionType}
use Rattle.nbd_wire.specs.declared.options.OptionType.TheVariants as Types
use Rattle.nbd_wire.specs.declared.option_replies.ReplyType.TheVariants as Replies
use Rattle.nbd_wire.specs.Exports.{export_text}
use Rattle.nbd_wire.specs.InfoData.{info_name}
use Rattle.nbd_wire.specs.InfoReplies.{info_replies_text, reply_head}
use Rattle.nbd_wire.specs.ListReplies.{list_replies_text}
use Rattle.nbd_wire.specs.OptionReplies.{option_reply_text}

-- two texts are the same
unfoldable pub is_same : List ℕ → List ℕ → Bool
is_same [] [] = true
is_same [] (y ∷ ys) = false
is_same (x ∷ xs) [] = false
is_same (x ∷ xs) (y ∷ ys) = (x == y) && is_same xs ys

-- the name of the one export: none, or "volume"
abbrev pub is_ours : List ℕ → Bool
is_ours name = (length name == 0) || is_same name (codes "volume")

-- what becomes of LIST and STRUCTURED_REPLY, which have no data
abbrev pub verdict_without_data : Verdict → List ℕ → Verdict
verdict_without_data granted body =
    if length body == 0 then granted else Refuse Replies.Invalid

-- What becomes of INFO and GO: refused for their data, for a name of more than 4096 bytes, or for
-- another name, in this order; else granted.
abbrev pub verdict_on_name : Verdict → List ℕ → Verdict
verdict_on_name granted name =
    if nat_lt 4096 (length name) then Refuse Replies.TooBig
    else (if is_ours name then granted else Refuse Replies.Unknown)

abbrev pub verdict_on_info : Verdict → Option (List ℕ) → Verdict
verdict_on_info granted None = Refuse Replies.Invalid
verdict_on_info granted (Some name) = verdict_on_name granted name

-- what becomes of an option: all others than these six aren't supported
abbrev pub verdict_of : OptionType → List ℕ → Verdict
verdict_of Types.ExportName body = if is_ours body then Tell else Unknown
verdict_of Types.Abort body = Abort
verdict_of Types.List body = verdict_without_data Names body
verdict_of Types.Info body = verdict_on_info Inform (info_name body)
verdict_of Types.Go body = verdict_on_info Agree (info_name body)
verdict_of Types.StructuredReply body = verdict_without_data Structure body
verdict_of _ body = Refuse Replies.Unsup

-- what comes after an option
abbrev pub course_of : Verdict → Course
course_of Tell = Begins
course_of Names = GoesOn
course_of Inform = GoesOn
course_of Agree = Begins
course_of Structure = GoesOn
course_of (Refuse reply) = GoesOn
course_of Abort = Ends Aborted
course_of Unknown = Ends UnknownExport

-- what was agreed on after an option, by what became of it and what had been before
abbrev pub agreed_by : Verdict → Agreed → Agreed
agreed_by Structure agreed = record agreed { structured = true }
agreed_by _ agreed = agreed

-- the answer to EXPORT_NAME, which ends in 124 zeros unless both sides agreed to leave them out
abbrev pub zeros_behind : (no_zeroes : Bool) → List ℕ
zeros_behind true = []
zeros_behind false = replicate 124 0

abbrev pub told_text : Export → Agreed → List ℕ
told_text export agreed =
    export_text (export_data export agreed.structured) ++ zeros_behind agreed.no_zeroes

-- the answer to INFO and GO: the export, the sizes of its blocks, and the acknowledgement
abbrev pub informed_text : Export → Agreed → OptionType → List ℕ
informed_text export agreed option =
    info_replies_text (record {
      option = option;
      export = export_data export agreed.structured;
      blocks = block_sizes export;
    })

-- the answer to an option, by what was agreed on before it; an export that isn't there has none
abbrev pub answer_of : Export → Agreed → OptionType → Verdict → List ℕ
answer_of export agreed option Tell = told_text export agreed
answer_of export agreed option Names = list_replies_text (codes "volume")
answer_of export agreed option Inform = informed_text export agreed option
answer_of export agreed option Agree = informed_text export agreed option
answer_of export agreed option Structure = option_reply_text (reply_head option Replies.Ack 0)
answer_of export agreed option (Refuse reply) = option_reply_text (reply_head option reply 0)
answer_of export agreed option Abort = option_reply_text (reply_head option Replies.Ack 0)
answer_of export agreed option Unknown = []
