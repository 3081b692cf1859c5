-- How a command asks its bay for what it needs, and what comes of that.
use Rattle.std.specs.Prelude.{ℕ, ◌≡◌, ◌⊎◌, List, [], length, take, Option, Some, Result, Ok, Err}
use Rattle.bays.specs.declared.bay.BayFault.{BayFault}
use Rattle.bays.specs.declared.bay.Manner.{Manner}
use Rattle.bays.specs.Bays.{AreBounded, AreFresh, FaultCounts, Holdings, LeavesAll}
use Rattle.bays.specs.Bays.{LeavesOtherClients, LeavesOtherDisks}
use Rattle.bays.specs.Stories.{LinkState, Script}
use Rattle.command_line.specs.Commands.{Serving}
use Rattle.sector_disk.specs.Devices.{Device as DiskState}
use Rattle.reenc_tool.specs.declared.ended.Cause.{Cause}
use Rattle.reenc_tool.specs.declared.ended.Cause.TheVariants.{Memory}
use Rattle.reenc_tool.specs.declared.ended.Failing.{Failing}
use Rattle.reenc_tool.specs.declared.ended.Failing.TheVariants.{Keying, Listening, Opening}
use Rattle.reenc_tool.specs.Outcomes.{EndsSilently, Outcome, cause_of_fault}

-- ---- the bay
-- A bay as a command sees it: what its disks and links show, what it holds, and what each call does, from
-- the bay before by what is asked for and answered to the bay after.
pub record BayView (B D L : Type 0) : Type 1 where
  pub device : D → DiskState
  pub state : L → LinkState
  pub holdings : B → Holdings D
  pub disk : B → List ℕ → ℕ → Result D BayFault → B → Type 0
  pub reading : B → List ℕ → ℕ → Result D BayFault → B → Type 0
  pub key : B → List ℕ → Result (List ℕ) BayFault → B → Type 0
  pub links : B → List ℕ → ℕ → ℕ → Manner → Result (List L) BayFault → B → Type 0

-- by the ghost members of its trait, and of those of its disks and links
abbrev pub bay_view : {B D L : Type 0} → (D → DiskState) → (L → LinkState) → (B → Holdings D)
    → (B → List ℕ → ℕ → Result D BayFault → B → Type 0)
    → (B → List ℕ → ℕ → Result D BayFault → B → Type 0)
    → (B → List ℕ → Result (List ℕ) BayFault → B → Type 0)
    → (B → List ℕ → ℕ → ℕ → Manner → Result (List L) BayFault → B → Type 0) → BayView B D L
bay_view device state holdings disk reading key links = record {
  device = device;
  state = state;
  holdings = holdings;
  disk = disk;
  reading = reading;
  key = key;
  links = links;
}

-- ---- asking
-- One thing that is asked for: the call, which answers fit what the bay holds, what of that is left, and
-- as what its failure counts.
pub record Wanted (B D A : Type 0) : Type 1 where
  pub asks : B → Result A BayFault → B → Type 0
  pub Fits : Holdings D → A → Type 0
  pub Leaves : Holdings D → Holdings D → Type 0
  pub failing : Failing

-- The bay was asked once and gave this, and behind that this came.
pub record IsGiven {B D L A : Type 0} (bay : BayView B D L) (wanted : Wanted B D A) (old : B)
    (Came : A → B → Type 0) : Type 0 where
  pub given : A
  pub between : B
  pub asked : wanted.asks old (Ok given) between
  pub is : wanted.Fits (bay.holdings old) given
  pub stood : (bay.holdings between).faults ≡ (bay.holdings old).faults
  pub leaves : wanted.Leaves (bay.holdings old) (bay.holdings between)
  pub came : Came given between

-- The bay was asked once and gave nothing, and lost nothing. Its count of faults rose where it failed,
-- which the cause keeps, and stands where memory was wanted. Nothing more was asked.
pub record IsDenied {B D L A : Type 0} (bay : BayView B D L) (wanted : Wanted B D A) (old new : B)
    (Ends : Cause → Type 0) : Type 0 where
  pub fault : BayFault
  pub asked : wanted.asks old (Err fault) new
  pub leaves : LeavesAll (bay.holdings old) (bay.holdings new)
  pub count : FaultCounts fault (bay.holdings old).faults (bay.holdings new).faults
  pub ended : Ends (cause_of_fault wanted.failing fault (bay.holdings new).faults)

-- one of both
abbrev pub Gives : {B D L A : Type 0} → BayView B D L → Wanted B D A → B → B → (A → B → Type 0)
    → (Cause → Type 0) → Type 0
Gives bay wanted old new Came Ends = IsGiven bay wanted old Came ⊎ IsDenied bay wanted old new Ends

-- so it was, and nothing more was asked
abbrev pub GivesLast : {B D L A : Type 0} → BayView B D L → Wanted B D A → B → B → (A → Type 0)
    → (Cause → Type 0) → Type 0
GivesLast bay wanted old new Came Ends =
    Gives bay wanted old new (λ given between. (new ≡ between) × Came given) Ends

-- ---- disks
-- the one of this name on the shelf, with atoms of so many bytes
pub record IsShelved {D : Type 0} (device : D → DiskState) (name : List ℕ) (atom : ℕ)
    (held : Holdings D) (disk : D) : Type 0 where
  pub kept : (kept : D) → held.shelf name ≡ Some kept → disk ≡ kept
  pub atom_is : (device disk).size ≡ atom

abbrev pub disk_named : {B D L : Type 0} → BayView B D L → List ℕ → ℕ → Wanted B D D
disk_named bay name atom = record {
  asks = λ old result new. bay.disk old name atom result new;
  Fits = λ held disk. IsShelved bay.device name atom held disk;
  Leaves = λ old new. LeavesOtherDisks name old new;
  failing = Opening;
}

-- to be read alone
abbrev pub disk_to_read : {B D L : Type 0} → BayView B D L → List ℕ → ℕ → Wanted B D D
disk_to_read bay name atom = record {
  asks = λ old result new. bay.reading old name atom result new;
  Fits = λ held disk. IsShelved bay.device name atom held disk;
  Leaves = λ old new. LeavesOtherDisks name old new;
  failing = Opening;
}

-- ---- a key file
-- All of it, a line feed at its end too, up to 513 bytes, of which no more than 512 are a passphrase.
abbrev pub key_named : {B D L : Type 0} → BayView B D L → List ℕ → Wanted B D (List ℕ)
key_named bay name = record {
  asks = λ old result new. bay.key old name result new;
  Fits = λ held pass. (whole : List ℕ) → held.keyring name ≡ Some whole → pass ≡ take 513 whole;
  Leaves = λ old new. LeavesAll old new;
  failing = Keying;
}

-- It is asked for last, and under the passphrase this came. Without it the command ended, and handed
-- these disks back.
abbrev pub UnderKey : {B D L : Type 0} → BayView B D L → List ℕ → D → Option D → B → B
    → Outcome D L → Option (List ℕ) → (List ℕ → Type 0) → Type 0
UnderKey bay name disk header old new outcome report Came =
    GivesLast bay (key_named bay name) old new Came
    (EndsSilently (Some disk) header outcome report)

-- ---- links
-- One for each worker: each has its share of the inputs ahead, where the bay tells them, and no more
-- connections to come than its share of the sessions.
pub record AreGiven {L : Type 0} (state : L → LinkState) (inputs : Option (List Script))
    (workers sessions : ℕ) (links : List L) : Type 0 where
  pub count : length links ≡ workers
  pub fresh : AreFresh state inputs workers sessions links
  pub few : AreBounded state workers sessions links

-- how the words want clients to be dealt with
abbrev pub manner_of : Serving → Manner
manner_of serve = record { idle_timeout = serve.idle_timeout; verbose = serve.verbose }

abbrev pub links_for : {B D L : Type 0} → BayView B D L → Serving → Wanted B D (List L)
links_for bay serve = record {
  asks = λ old result new. bay.links old serve.address serve.workers serve.sessions (manner_of serve)
      result new;
  Fits = λ held links. AreGiven bay.state (held.inputs serve.address) serve.workers serve.sessions links;
  Leaves = λ old new. LeavesOtherClients serve.address old new;
  failing = Listening;
}

-- Links are asked for last. Without them, or where memory was wanted before the first session, the
-- command ended so, with the links that it had; over them sessions were served.
abbrev pub IsLinked : {B D L : Type 0} → BayView B D L → Serving → B → B
    → (Cause → List L → Type 0) → (List L → Type 0) → Type 0
IsLinked bay serve old new Ends Serves =
    GivesLast bay (links_for bay serve) old new (λ begun. Serves begun ⊎ Ends Memory begun)
    (λ cause. Ends cause [])
