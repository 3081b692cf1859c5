-- How a session begins, step by step.
use Rattle.std.specs.Prelude.{ℕ, ◌≡◌, ◌+◌, ◌<◌, Bool, true, List, ◌++◌, length, Option, Some}
use Rattle.std.specs.Prelude.{None, Result, Ok, Err, MatchResult}
use Rattle.nbd_stream.specs.declared.ending.Ending.{Ending}
use Rattle.nbd_hand.specs.declared.export.Export.{Export}
use Rattle.nbd_hand.specs.declared.negotiation.Agreed.{Agreed}
use Rattle.nbd_hand.specs.declared.options.ClientOption.{ClientOption}
use Rattle.nbd_hand.specs.declared.options.Course.{Course}
use Rattle.nbd_hand.specs.declared.options.Course.TheVariants.{GoesOn, Begins, Ends}
use Rattle.nbd_hand.specs.Grammar.{StopsFlags, AreOptions, agreed_after, answers_to, last_answer}
use Rattle.nbd_stream.specs.Moments.{Moment, Talks, trouble_of}
use Rattle.nbd_hand.specs.Handshakes.{Handshake, IsBegun, IsUnserved, agreed_in, messages_of}
use Rattle.nbd_stream.specs.Taking.{StopsBy}
use Rattle.nbd_stream.specs.Traffic.{Reach, Takes, HasEnded}
use Rattle.nbd_wire.specs.declared.handshake.ClientFlags.{ClientFlags}
use Rattle.nbd_wire.specs.Fields.{u32_text}

-- the client's flags were waited for, and these bytes were taken
pub record FlagsAre (old new : Reach) (result : Result ClientFlags Ending) (bytes : List ℕ)
    (ended : Bool) : Type 0 where
  pub takes : Takes old new bytes
  pub at_end : ended ≡ true → HasEnded old.source new.source
  pub by_case : MatchResult result
      (λ flags. (bytes ≡ u32_text flags.bits) × (flags.bits < 4)
      × (new.source.faults ≡ old.source.faults))
      (λ ending. StopsBy old.source.faults new.source.faults (trouble_of ending)
      × StopsFlags ending ended bytes)

-- the ending that a course brings
abbrev pub ending_in : Course → Option Ending
ending_in GoesOn = None
ending_in Begins = None
ending_in (Ends ending) = Some ending

-- options were taken and answered, behind `n` earlier ones after which this had been agreed on
pub record Answers (export : Export) (agreed : Agreed) (n : ℕ) (old new : Moment) (course : Course)
    (options : List ClientOption)
    (last : Option ClientOption) (taken whole front : List ℕ) (ended : Bool) : Type 0 where
  pub talks : Talks old new (ending_in course) taken
      (answers_to export agreed options ++ last_answer export (agreed_after agreed options) last)
      whole front ended
  pub options_are : AreOptions course options last (n + length options) taken ended

-- the course after which a negotiation has this result
abbrev pub course_to : Result Agreed Ending → Course
course_to (Ok agreed) = Begins
course_to (Err ending) = Ends ending

-- options were taken and answered up to the one that begins the requests, or the session ended
abbrev pub Agrees : Export → Agreed → Moment → Moment → Result Agreed Ending → List ClientOption →
    Option ClientOption →
    List ℕ → List ℕ → List ℕ → Bool → Type 0
Agrees export agreed old new result options last taken whole front ended =
    Answers export agreed 0 old new (course_to result) options last taken whole front ended

-- the client agreed on the export, and on what its flags say, or the session ended before
pub record Negotiates (export : Export) (old new : Moment) (result : Result Agreed Ending)
    (hand : Handshake) : Type 0 where
  pub talks : Talks old new (ending_in (course_to result)) hand.taken (messages_of export hand)
      hand.whole hand.front hand.ended
  pub by_case : MatchResult result
      (λ agreed. (agreed ≡ agreed_in hand) × IsBegun hand)
      (λ ending. IsUnserved hand.stage hand ending)
