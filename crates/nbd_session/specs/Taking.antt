-- What is taken of one request.
use Rattle.std.specs.Prelude.{ℕ, ◌≡◌, Bool, true, List, ◌++◌, Option, Some}
use Rattle.nbd_stream.specs.Moments.{trouble_of}
use Rattle.nbd_stream.specs.Taking.{StopsBy}
use Rattle.nbd_stream.specs.Traffic.{Reach, Takes, HasEnded}
use Rattle.nbd_session.specs.declared.requests.Next.{Next}
use Rattle.nbd_session.specs.declared.requests.Next.TheVariants.{Ask, Refuse, Stop}
use Rattle.nbd_session.specs.Grammar.{StopsRequests}
use Rattle.nbd_session.specs.Requests.{IsMessage, IsRefusal}
use Rattle.nbd_wire.specs.declared.requests.RequestHead.{RequestHead}
use Rattle.nbd_wire.specs.Requests.{request_text}

-- what came of a request that took these bytes
abbrev pub NextCase : (structured : Bool) → Reach → Reach → Next → List ℕ → Bool → Type 0
NextCase structured old new (Ask cookie form op) bytes ended =
    IsMessage structured bytes cookie (Some op) form × (new.source.faults ≡ old.source.faults)
NextCase structured old new (Refuse cookie form number) bytes ended =
    (asked : Option _) × IsMessage structured bytes cookie asked form × IsRefusal asked number
    × (new.source.faults ≡ old.source.faults)
NextCase structured old new (Stop ending) bytes ended =
    StopsBy old.source.faults new.source.faults (trouble_of ending)
    × StopsRequests ending ended bytes

pub record NextIs (structured : Bool) (old new : Reach) (result : Next) (bytes : List ℕ)
    (ended : Bool) : Type 0 where
  pub takes : Takes old new bytes
  pub at_end : ended ≡ true → HasEnded old.source new.source
  pub by_case : NextCase structured old new result bytes ended

-- the same of the bytes behind its head
pub record BehindHead (structured : Bool) (head : RequestHead) (old new : Reach) (result : Next)
    (body : List ℕ) (ended : Bool) : Type 0 where
  pub takes : Takes old new body
  pub at_end : ended ≡ true → HasEnded old.source new.source
  pub by_case : NextCase structured old new result (request_text head ++ body) ended
