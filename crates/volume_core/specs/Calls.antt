-- What an event does besides its lane: on the table of locks, or on the disk, by its outcome.
use Rattle.std.specs.Prelude.{ℕ, ◌≡◌, Bool, true, false, List, [], ◌∷◌, ◌++◌}
use Rattle.std.specs.Bool.{MatchBool}
use Rattle.range_lock.specs.declared.Entry.{Entry}
use Rattle.range_lock.specs.declared.Standing.{Standing}
use Rattle.range_lock.specs.declared.Standing.TheVariants.{Held}
use Rattle.range_lock.specs.Locks.{IsStanding}
use Rattle.volume_machine.specs.Asks.{has_lock}
use Rattle.volume_machine.specs.declared.ask.Ask.{Ask}
use Rattle.sector_disk.specs.Devices.{Device, ReadCall, WriteCall, SyncCall, succeeded, failed_call}
use Rattle.segment_map.specs.declared.map.Map.{Map}
use Rattle.segment_map.specs.declared.map.Piece.{Piece}
use Rattle.volume_machine.specs.Events.{Outcome, got, done, device, broken}
use Rattle.sector_disk.specs.DiskViews.Parts.{AreBlocks}
use Rattle.volume_machine.specs.Edges.{edge_at}
use Rattle.volume_machine.specs.Pieces.{IsPieceOf, ArePieceBytes, place_in, place_of, fetching}
use Rattle.volume_machine.specs.Pieces.{moved, failing, settling}
use Rattle.volume_machine.specs.declared.open.Open.{Open}

-- an operation that locks its blocks has its entry behind all others; any other is held without one
abbrev pub Locks : Ask → Entry → List Entry → List Entry → Standing → Type 0
Locks ask entry old new standing = MatchBool (has_lock ask)
    ((new ≡ old ++ entry ∷ []) × IsStanding old entry standing)
    ((new ≡ old) × (standing ≡ Held))

-- an event of an operation under way finds the volume broken, and fails without a device call
pub record FindsBroken (is_broken : Bool) (o after : Open) (old new : Device) : Type 0 where
  pub was : is_broken ≡ true
  pub leaves : after ≡ failing o
  pub rests : new ≡ old

-- it makes a device call on the operation's next piece
pub record CallsPiece (map : Map) (is_broken : Bool) (o after : Open) (Calls : Piece → Type 0)
    (left : Piece → Open) : Type 0 where
  pub was : is_broken ≡ false
  pub piece : Piece
  pub next : IsPieceOf map o piece
  pub call : Calls piece
  pub leaves : after ≡ left piece

abbrev pub Reads : Map → Bool → Open → Outcome → Open → Device → Device → Type 0
Reads map is_broken o (got bytes) after old new = CallsPiece map is_broken o after
    (λ piece. ArePieceBytes map piece bytes
    × ReadCall map.atom (place_of map piece) bytes old new succeeded)
    (moved o)
Reads map is_broken o device after old new = CallsPiece map is_broken o after
    (λ piece. (bytes : List ℕ)
    × ReadCall map.atom (place_of map piece) bytes old new failed_call)
    (λ piece. failing o)
Reads map is_broken o broken after old new = FindsBroken is_broken o after old new
Reads map is_broken o _ after old new = ⊥

-- it makes a device call on an edge of the operation
pub record CallsEdge (map : Map) (is_broken : Bool) (o after : Open) (which : ℕ)
    (Calls : ℕ → Type 0) (left : Open) : Type 0 where
  pub was : is_broken ≡ false
  pub call : Calls (place_in map (edge_at map.atom o.ask which))
  pub leaves : after ≡ left

abbrev pub Fetches : Map → Bool → Open → ℕ → Outcome → Open → Device → Device → Type 0
Fetches map is_broken o which (got bytes) after old new = CallsEdge map is_broken o after which
    (λ place. AreBlocks map.atom 1 bytes × ReadCall map.atom place bytes old new succeeded)
    (fetching o)
Fetches map is_broken o which device after old new = CallsEdge map is_broken o after which
    (λ place. (bytes : List ℕ) × ReadCall map.atom place bytes old new failed_call)
    (failing o)
Fetches map is_broken o which broken after old new = FindsBroken is_broken o after old new
Fetches map is_broken o which _ after old new = ⊥

abbrev pub Writes : Map → Bool → Open → List ℕ → Outcome → Open → Device → Device → Type 0
Writes map is_broken o bytes done after old new = CallsPiece map is_broken o after
    (λ piece. ArePieceBytes map piece bytes
    × WriteCall map.atom (place_of map piece) bytes old new succeeded)
    (moved o)
Writes map is_broken o bytes device after old new = CallsPiece map is_broken o after
    (λ piece. ArePieceBytes map piece bytes
    × WriteCall map.atom (place_of map piece) bytes old new failed_call)
    (λ piece. failing o)
Writes map is_broken o bytes broken after old new = FindsBroken is_broken o after old new
Writes map is_broken o bytes _ after old new = ⊥

abbrev pub Syncs : Bool → Open → Outcome → Open → Device → Device → Type 0
Syncs is_broken o done after old new =
    (is_broken ≡ false) × SyncCall old new succeeded × (after ≡ settling o)
Syncs is_broken o device after old new =
    (is_broken ≡ false) × SyncCall old new failed_call × (after ≡ failing o)
Syncs is_broken o broken after old new = FindsBroken is_broken o after old new
Syncs is_broken o _ after old new = ⊥
