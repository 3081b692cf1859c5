-- What `demo` did: the commands that make, convert and serve a volume, one after the other, over a bay
-- of its own.
use Rattle.std.specs.Prelude.{ℕ, ◌≡◌, ◌≢◌, ◌⊎◌, ◌+◌, ◌-◌, ◌*◌, ◌/◌, ◌%◌, ◌^◌, ◌<◌, nat_lt, Bool, true}
use Rattle.std.specs.Prelude.{false, if◌then◌else◌, List, [], ◌∷◌, map, replicate, Option, Some, None}
use Rattle.std.specs.Prelude.{IsSomeAnd, length, slice_index}
use Rattle.std.specs.List.{list_all, range_with_len}
use Rattle.aes_core.specs.declared.cipher.Aes.{Aes}
use Rattle.base_terms.specs.Blocks.{lengths}
use Rattle.bays.specs.Memory.{Line}
use Rattle.block_server.specs.Serving.{KnowsDeeds}
use Rattle.command_line.specs.Commands.{Serving}
use Rattle.command_line.specs.Demonstrations.{Demonstrating}
use Rattle.command_line.specs.Formats.{Formatting}
use Rattle.command_line.specs.Starts.{Starting}
use Rattle.command_line.specs.declared.segment.NewSegment.{NewSegment}
use Rattle.command_line.specs.declared.starting.Guard.TheVariants.{Checksum}
use Rattle.demo_clients.specs.ClientLinks.{client_state}
use Rattle.demo_clients.specs.Connections.{demo_connections}
use Rattle.demo_clients.specs.DemoBays.{Supplies, asks_demo_disk, asks_demo_key, asks_demo_links}
use Rattle.demo_clients.specs.DemoBays.{demo_holdings, demo_name, demo_passphrase, ram_device}
use Rattle.demo_clients.specs.Demonstrations.{IsTold}
use Rattle.demo_clients.specs.Histories.{AreOfClients, LeavesContent}
use Rattle.demo_clients.specs.Replies.{AreReadBack}
use Rattle.demo_clients.specs.Texts.{demo_text}
use Rattle.header_report.specs.Examinations.{sizes_alone}
use Rattle.hotzone.specs.ZoneEvents.Readings.{reading_of}
use Rattle.io_edge.specs.Supply.{Supply}
use Rattle.luks_meta.specs.declared.names.Cipher.TheVariants.{AesXtsPlain64}
use Rattle.luks_meta.specs.declared.reencrypt.Direction.TheVariants.{Forward}
use Rattle.memory_disks.specs.declared.ram_disk.RamDisk.{RamDisk}
use Rattle.nbd_session.specs.declared.ending.SessionEnd.{SessionEnd}
use Rattle.nbd_stream.specs.declared.ending.Ending.{Ending}
use Rattle.nbd_stream.specs.declared.ending.Ending.TheVariants.{Disconnected}
use Rattle.plain_disk.specs.Plain.{Block, Legal, settled_blocks}
use Rattle.recovery_laws.specs.Resumed.Starts.{volume_seals}
use Rattle.recovery_laws.specs.Served.Ends.{StandsForNewest}
use Rattle.reenc_recovery.specs.Images.{StandsFor}
use Rattle.resume_disk.specs.Resuming.{IsOpenedMidway}
use Rattle.sector_cipher.specs.declared.disk.DiskCipher.{DiskCipher}
use Rattle.sha2.specs.Sha256.{sha256}
use Rattle.shared_volume.specs.Ciphers.{Context}
use Rattle.shared_volume.specs.Lanes.{Knowing}
use Rattle.volume_laws.specs.BesideLanes.Executing.{ExecutesBeside}
use Rattle.volume_machine.specs.Answers.{Tagged, untagged}
use Rattle.volume_machine.specs.Deeds.{Deed}
use Rattle.volume_machine.specs.States.{State}
use Rattle.reenc_tool.specs.Asking.{BayView, bay_view}
use Rattle.reenc_tool.specs.declared.ended.Cause.{Cause}
use Rattle.reenc_tool.specs.declared.ended.Cause.TheVariants.{Clash, Fine, Memory, NoFit}
use Rattle.reenc_tool.specs.declared.ended.Fit.{Fit}
use Rattle.reenc_tool.specs.declared.ended.Fit.TheVariants.{Blocks, Passphrase, Tail}
use Rattle.reenc_tool.specs.Making.{HasMade}
use Rattle.reenc_tool.specs.Outcomes.{EndsSilently, Outcome}
use Rattle.reenc_tool.specs.Runs.{VolumeKeys}
use Rattle.reenc_tool.specs.Servicing.{Serviced}
use Rattle.reenc_tool.specs.Sessions.{most_events}
use Rattle.reenc_tool.specs.Starting.{HasStarted}
use Rattle.reenc_tool.specs.TakenUp.{IsLedToEnd}

-- ---- the words of its commands
-- how the old data are encrypted and the new ones: 1000 rounds of PBKDF2 open the key
abbrev pub demo_segment : NewSegment
demo_segment =
    record { cipher = AesXtsPlain64; key_size = 64; sector_size = 512; iterations = 1000 }

abbrev pub demo_formatting : Formatting
demo_formatting = record {
  disk = demo_name;
  header = None;
  key_file = demo_name;
  atom = 512;
  segment = demo_segment;
  data_offset = 1048576;
  metadata_size = 16384;
  identifier = None;
}

abbrev pub demo_starting : Starting
demo_starting = record {
  disk = demo_name;
  key_file = demo_name;
  atom = 512;
  segment = demo_segment;
  resilience = Checksum;
  direction = Forward;
  hotzone_size = 65536;
  drop_keyslots = false;
}

-- each client has a worker of its own
abbrev pub demo_serving : ℕ → Serving
demo_serving workers = record {
  disk = demo_name;
  key_file = Some demo_name;
  atom = 512;
  address = demo_name;
  workers = workers;
  sessions = workers;
  converts = true;
  idle_timeout = None;
  verbose = false;
}

-- ---- its outside
-- 256 bytes: the seed, its lowest byte first, and then the bytes 0 to 247
abbrev pub seed_byte : (seed i : ℕ) → ℕ
seed_byte seed i = if nat_lt i 8 then seed / 2 ^ (8 * i) % 256 else i - 8

-- each of them so much more
unfoldable pub seed_bytes : (seed more : ℕ) → List ℕ
seed_bytes seed more = map (λ i. (seed_byte seed i + more) % 256) (range_with_len 0 256)

-- these are given again and again; no call has failed
pub record IsDemoSupply (seed more : ℕ) (supply : Supply) : Type 0 where
  pub ahead : (k : ℕ) → supply.ahead k ≡ Some (slice_index (seed_bytes seed more) (k % 256))
  pub faults : supply.faults ≡ 0

-- its bay, as its commands see it
abbrev pub demo_view : BayView Supplies RamDisk Line
demo_view = bay_view ram_device client_state demo_holdings asks_demo_disk asks_demo_disk
    asks_demo_key asks_demo_links

-- A bay with a disk of atoms of 512 bytes, all zero, which has room for so many behind the first
-- 1048576 bytes; with the passphrase; and with the clients, each of which was not served yet.
pub record IsDemoBay (demo : Demonstrating) (bay : Supplies) : Type 0 where
  pub disk : RamDisk
  pub there : bay.disk ≡ Some disk
  pub atom : disk.atom ≡ 512
  pub atoms : disk.atoms ≡ 2048 + demo.blocks
  pub zeros : (ram_device disk).values ≡ Some (replicate ((2048 + demo.blocks) * 512) 0)
  pub key : (demo_holdings bay).keyring demo_name ≡ Some demo_passphrase
  pub address : bay.rest.address ≡ demo_name
  pub clients : bay.rest.connections ≡ demo_connections demo.seed demo.blocks demo.workers
  pub faults : (demo_holdings bay).faults ≡ 0

-- ---- how it ends
-- Nothing of its outside fails, and its words, its passphrase and its volume are as its commands want
-- them: so all was fine, or memory was wanted; or a number is beyond its limit, but of what the words
-- tell; or two atoms of a block have one digest.
abbrev pub MayPass : Fit → Type 0
MayPass Passphrase = ⊥
MayPass Blocks = ⊥
MayPass Tail = ⊥
MayPass _ = Unit {0}

abbrev pub MayEndBy : Cause → Type 0
MayEndBy Fine = Unit {0}
MayEndBy Memory = Unit {0}
MayEndBy (NoFit what number limit) = MayPass what × (limit < number)
MayEndBy (Clash block digest) = Unit {0}
MayEndBy _ = ⊥

-- as one of its commands did; nothing of its outside is handed back but the pass of the volume
abbrev pub demo_ended : {D L : Type 0} → Outcome RamDisk Line → Outcome D L
demo_ended ended = record {
  cause = ended.cause;
  fault = ended.fault;
  refusal = ended.refusal;
  memory = ended.memory;
  disk = None;
  header = None;
  pass = None;
  demo = ended.pass;
  links = [];
  ends = [];
}

-- a command didn't do what it was asked, and nothing more was done
pub record EndsEarly {D L : Type 0} (ended : Outcome RamDisk Line) (outcome : Outcome D L)
    (report : Option (List ℕ)) : Type 0 where
  pub other : ended.cause ≢ Fine
  pub outcome_is : outcome ≡ demo_ended ended
  pub report_is : report ≡ None

-- or it did, and its disk was put back into the bay that it left
pub record PutsBack (ended : Outcome RamDisk Line) (left back : Supplies) : Type 0 where
  pub fine : ended.cause ≡ Fine
  pub disk : RamDisk
  pub disk_is : ended.disk ≡ Some disk
  pub back_is : back ≡ record left { disk = Some disk }

-- and with that this came
abbrev pub GoesOn : Outcome RamDisk Line → Supplies → (Supplies → Type 0) → Type 0
GoesOn ended left Came = (back : Supplies) × PutsBack ended left back × Came back

-- ---- what clients read
abbrev pub is_disconnected : Ending → Bool
is_disconnected Disconnected = true
is_disconnected _ = false

-- one session, which the client ended by disconnecting
abbrev pub has_disconnected : List SessionEnd → Bool
has_disconnected (end ∷ []) = is_disconnected end.ending
has_disconnected _ = false

abbrev pub all_disconnected : List (List SessionEnd) → Bool
all_disconnected lists = list_all has_disconnected lists

-- Each client disconnected at its end, and no reply to it is an error. What all of them read, in the
-- order of the blocks, is this content, whose digest is told.
pub record HasReadBack (demo : Demonstrating) (served : Outcome RamDisk Line)
    (report : Option (List ℕ)) : Type 0 where
  pub links : length served.links ≡ demo.workers
  pub disconnected : all_disconnected served.ends ≡ true
  pub content : List ℕ
  pub read : AreReadBack demo.seed demo.blocks demo.workers 0 served.links content
  pub report_is : report
      ≡ Some (demo_text demo.seed demo.blocks demo.workers (sha256 content))

-- Clients were served. Where all was fine the digest of what they read is told; else it is told as want of
-- memory.
abbrev pub Concludes : {D L : Type 0} → Demonstrating → Outcome RamDisk Line → Outcome D L →
    Option (List ℕ) → Type 0
Concludes demo served outcome report =
    EndsEarly served outcome report
    ⊎ ((served.cause ≡ Fine)
    × (((outcome ≡ demo_ended served) × HasReadBack demo served report)
    ⊎ ((outcome ≡ demo_ended (record served { cause = Memory })) × (report ≡ None))))

-- ---- what it shows
-- By the pass the whole history of a volume is known: deeds from its start, which executed these
-- operations. It is the one that the passphrase took up on a disk, with a lane for each of so many workers
-- and one more, in the middle of its conversion; the disk's bytes stood for this content. The deeds leave
-- nothing to convert; and unless the history is full the bytes that are left stand, under the passphrase,
-- for the newest values.
pub record IsHistoryOf (workers : ℕ) (first : List (List ℕ)) (pass : Option (Knowing Context))
    (operations : List Tagged) : Type 0 where
  pub disk : RamDisk
  pub stood : StandsFor (sizes_alone (ram_device disk)) demo_passphrase disk.bytes.items first
  pub sector : DiskCipher Aes → ℕ
  pub sealed : DiskCipher Aes → ℕ → List ℕ → List ℕ
  pub opened : DiskCipher Aes → ℕ → List ℕ → List ℕ
  pub start : State VolumeKeys
  pub taken : IsOpenedMidway sector sealed opened (ram_device disk) demo_passphrase (workers + 1) start
  pub final : State VolumeKeys
  pub deeds : List (Deed VolumeKeys)
  pub told : IsSomeAnd pass (λ pass. KnowsDeeds start pass deeds)
  pub did : ExecutesBeside (reading_of (sizes_alone (ram_device disk)))
      (volume_seals sealed opened start) start final deeds operations
  pub idle : IsLedToEnd (sizes_alone (ram_device disk)) taken.calls.led.last start final
  pub stands : length deeds < most_events → StandsForNewest (sizes_alone (ram_device disk))
      demo_passphrase start.map.atom first (untagged operations) final.disk

-- The operations of the volume that was served are those of its clients: of each just its own, in order,
-- and none was answered an error. They are legal on the plain disk that held for certain what the volume's
-- disk stood for, so many blocks; each read was answered what was written; and this content is what the
-- blocks hold behind them, one after the other.
pub record Shows (demo : Demonstrating) (pass : Option (Knowing Context)) (content : List ℕ) : Type 0
  where
    pub first : List (List ℕ)
    pub even : lengths first ≡ replicate demo.blocks 512
    pub operations : List Tagged
    pub known : IsHistoryOf demo.workers first pass operations
    pub clients : AreOfClients demo.workers operations
    pub left : List Block
    pub legal : Legal 512 (settled_blocks first) (untagged operations) left
    pub told : IsTold demo.seed demo.blocks demo.workers operations left content
    pub leaves : LeavesContent demo.seed demo.blocks demo.workers operations left

-- ---- its commands
-- The volume was served to the clients while its conversion was led on.
pub record HasServedClients {D L : Type 0} (demo : Demonstrating) (outcome : Outcome D L)
    (report : Option (List ℕ)) (old : Supplies) : Type 0 where
  pub new : Supplies
  pub served : Outcome RamDisk Line
  pub is : Serviced demo_view (demo_serving demo.workers) old new served None
  pub concludes : Concludes demo served outcome report

-- Its conversion was begun, by these random bytes, of which no call failed, and where it was the volume was
-- served.
pub record HasBegun {D L : Type 0} (demo : Demonstrating) (outcome : Outcome D L)
    (report : Option (List ℕ)) (old : Supplies) : Type 0 where
  pub supply : Supply
  pub now : Supply
  pub supply_is : IsDemoSupply demo.seed 1 supply
  pub calm : now.faults ≡ 0
  pub new : Supplies
  pub started : Outcome RamDisk Line
  pub said : Option (List ℕ)
  pub is : HasStarted demo_view demo_starting supply now old new started said
  pub later : EndsEarly started outcome report
      ⊎ GoesOn started new (HasServedClients demo outcome report)

-- A volume was made, by these random bytes, of which no call failed, and where it was its conversion was
-- begun.
pub record HasFormatted {D L : Type 0} (demo : Demonstrating) (outcome : Outcome D L)
    (report : Option (List ℕ)) (old : Supplies) : Type 0 where
  pub supply : Supply
  pub now : Supply
  pub supply_is : IsDemoSupply demo.seed 0 supply
  pub calm : now.faults ≡ 0
  pub new : Supplies
  pub made : Outcome RamDisk Line
  pub said : Option (List ℕ)
  pub is : HasMade demo_view demo_formatting supply now old new made said
  pub later : EndsEarly made outcome report ⊎ GoesOn made new (HasBegun demo outcome report)

-- What `demo` did: memory was wanted for its bay; or that was made, and a volume on its disk.
abbrev pub RanCommands : {D L : Type 0} → Demonstrating → Outcome D L → Option (List ℕ) → Type 0
RanCommands demo outcome report =
    EndsSilently None None outcome report Memory
    ⊎ ((bay : Supplies) × IsDemoBay demo bay × HasFormatted demo outcome report bay)

-- Where all was fine the digest of what the blocks hold at the end is told. Whatever came, it is for one
-- of these causes alone.
pub record HasDemonstrated {D L : Type 0} (demo : Demonstrating) (outcome : Outcome D L)
    (report : Option (List ℕ)) : Type 0 where
  pub ran : RanCommands demo outcome report
  pub shows : outcome.cause ≡ Fine → (content : List ℕ) × Shows demo outcome.demo content
      × (report ≡ Some (demo_text demo.seed demo.blocks demo.workers (sha256 content)))
  pub complete : MayEndBy outcome.cause
