-- The volume of a demonstration, as it was served: its conversion was taken up, and its operations are
-- those of a plain disk of so many blocks.
use Rattle.std.proofs.Common.{◌≡◌, ◌∙◌, ◌+◌, ◌<◌, ◌≤◌, Bool, true, false, ℕ, zero, suc, List, [], ◌∷◌}
use Rattle.std.proofs.Common.{length, map, replicate, Option, Some, None, Ok, inl, inr, ⊎_elim, ap, ap₂}
use Rattle.std.proofs.Common.{refl, sym, subst, arith, IsSomeAnd, if◌then◌else◌}
use Rattle.std.proofs.lemmas.List.{length-map}
use Rattle.base_terms.specs.Blocks.{lengths}
use Rattle.base_terms.specs.declared.disk_sizes.Sizes.{Sizes}
use Rattle.bays.specs.Bays.{AreFresh}
use Rattle.bays.specs.Memory.{Line}
use Rattle.bays.specs.Stories.{Script}
use Rattle.block_server.specs.Links.{AreServed}
use Rattle.block_server.specs.Serving.{KnowsDeeds}
use Rattle.block_server.specs.Sessions.{AreSessions, HasEach, IsOfSessions, Played}
use Rattle.block_server.specs.declared.link.Standing.{Standing}
use Rattle.resume_disk.specs.OpenedMidway.Runs.{MendsZone, mends, rests}
use Rattle.demo_clients.specs.ClientLinks.{client_state}
use Rattle.demo_clients.specs.DemoBays.{Supplies}
use Rattle.demo_clients.specs.DemoBays.{demo_holdings, demo_name, demo_passphrase, ram_device}
use Rattle.header_report.specs.Examinations.{sizes_alone}
use Rattle.hotzone.specs.Workers.{MayGoOn}
use Rattle.hotzone.specs.ZoneEvents.Heads.{header_on}
use Rattle.luks_meta.specs.declared.meta.Parts.{Parts}
use Rattle.luks_rules.specs.Idles.{idle_from, idle_of}
use Rattle.luks_rules.specs.Segments.{in_progress}
use Rattle.luks_rules.specs.Shapes.{progress_of}
use Rattle.luks_rules.specs.declared.idle.Idle.{Idle}
use Rattle.luks_rules.specs.declared.shape.Progress.{Progress}
use Rattle.luks_store.specs.Devices.{front_of}
use Rattle.luks_store.specs.Loads.{stored_in}
use Rattle.luks_store.specs.declared.loaded.Stored.{Stored}
use Rattle.memory_disks.specs.declared.ram_disk.RamDisk.{RamDisk}
use Rattle.nbd_hand.specs.declared.export.Export.{Export}
use Rattle.nbd_session.specs.declared.ending.SessionEnd.{SessionEnd}
use Rattle.plain_disk.specs.Plain.{Block, Legal, settled, settled_blocks}
use Rattle.reenc_meta.specs.Placements.{PlacedBy}
use Rattle.reenc_meta.specs.declared.placement.Placement.{Placement}
use Rattle.reenc_recovery.specs.Placings.{PlacesVolume, RestsIn}
use Rattle.recovery_laws.specs.Resumed.Starts.{layout_on}
use Rattle.recovery_laws.specs.Served.Clients.{StoodFor}
use Rattle.recovery_laws.specs.Served.Ends.{StandsForNewest}
use Rattle.sector_disk.specs.Devices.{Device as DiskState, succeeded}
use Rattle.shared_volume.specs.Ciphers.{Context}
use Rattle.shared_volume.specs.Lanes.{Knowing}
use Rattle.volume_laws.specs.Contents.{block_in}
use Rattle.volume_machine.specs.Answers.{Tagged, untagged}
use Rattle.volume_machine.specs.Deeds.{AreDeeds, state_after}
use Rattle.volume_machine.specs.States.{size_of}
use Rattle.volume_machine.specs.Works.{converting}
use Rattle.reenc_tool.specs.Demonstrating.{IsHistoryOf, demo_serving, demo_view}
use Rattle.reenc_tool.specs.Encrypted.{HasOpenedVolume}
use Rattle.reenc_tool.specs.KeptBeside.{StartsBesideFor}
use Rattle.reenc_tool.specs.Asking.{AreGiven, IsGiven, key_named}
use Rattle.reenc_tool.specs.Outcomes.{Outcome}
use Rattle.reenc_tool.specs.Servicing.{ServesUnder, Serviced}
use Rattle.reenc_tool.specs.Sessions.{most_events}
use Rattle.reenc_tool.specs.TakenUp.{HasTakenUp, RanBeside}
use Rattle.reenc_tool.specs.declared.ended.Cause.TheVariants.{Fine}
use Rattle.reenc_tool.proofs.DemoHeaders.{front_whole, same_header}
use Rattle.reenc_tool.proofs.DemoLemmas.{unfine}
use Rattle.reenc_tool.proofs.DemoVolumes.{Begins, HandsBegun, same_pass}
use Rattle.reenc_tool.proofs.FineLemmas.{unfine_refusal, unfine_resume}

-- ---- a header by which a conversion is under way
idle_rests : (busy : Bool) (found : Option Idle) (v : Idle)
    → (if busy then None else found) ≡ Some v → busy ≡ false
idle_rests true found v is = absurd (cc)
idle_rests false found v is = refl

pub not_busy : (m : Parts) (sizes : Sizes) (v : Idle) → idle_of m sizes ≡ Some v
    → in_progress m.config ≡ false
unfolding idle_of
not_busy m sizes v is =
    idle_rests (in_progress m.config) (idle_from sizes m.digests m.segments) v is

placed_rests : (m : Parts) (sizes : Sizes) (p : Placement) (found : Option Idle)
    → idle_of m sizes ≡ found → PlacedBy sizes found p → in_progress m.config ≡ false
placed_rests m sizes p (Some v) is placed = not_busy m sizes v is
placed_rests m sizes p None is placed = absurd placed

-- no volume is opened as one of which nothing is being converted
pub unopened : (blocks : ℕ) (disk : RamDisk) → Begins disk blocks → (stored : Stored) (v : Idle)
    → stored_in (sizes_alone (ram_device disk)) disk.bytes.items ≡ Ok stored
    → idle_of stored.valid.meta stored.valid.sizes ≡ Some v → ⊥
unopened blocks disk begins stored v held idle =
    begins.busy (λ other is.
    let same = same_header (sizes_alone (ram_device disk)) disk.bytes.items stored other held
    (subst (λ (b : List ℕ). stored_in (sizes_alone (ram_device disk)) b ≡ Ok other)
    (front_whole disk) is) in
    subst (λ (s : Stored). in_progress s.valid.meta.config ≡ false) same
    (not_busy stored.valid.meta stored.valid.sizes v idle))

-- and by its header no zone is open
pub record IsShut (disk : RamDisk) (header : Stored) : Type 0 where
  pub now : Progress
  pub known : progress_of header.valid.meta (sizes_alone (ram_device disk)) ≡ Some now
  pub closed : now.plan.zone ≡ 0

shut_by : (disk : RamDisk) (stored : Stored) (placement : Placement)
    → (RestsIn (sizes_alone (ram_device disk)) disk.bytes.items → ⊥)
    → stored_in (sizes_alone (ram_device disk))
    (front_of (sizes_alone (ram_device disk)) disk.bytes.items) ≡ Ok stored
    → PlacesVolume stored.valid.meta (sizes_alone (ram_device disk)) placement → IsShut disk stored
shut_by disk stored placement busy held (inl idle) =
    absurd (busy (λ other is.
    subst (λ (s : Stored). in_progress s.valid.meta.config ≡ false)
    (same_header (sizes_alone (ram_device disk))
    (front_of (sizes_alone (ram_device disk)) disk.bytes.items) stored other held is)
    (placed_rests stored.valid.meta (sizes_alone (ram_device disk)) placement
    (idle_of stored.valid.meta (sizes_alone (ram_device disk))) refl idle)))
shut_by disk stored placement busy held (inr (c, known, placed)) =
    record { now = c; known = known; closed = placed.closed }

pub shut : (blocks : ℕ) (disk : RamDisk) → (begins : Begins disk blocks)
    → IsShut disk begins.stands.stands.stands.stored
shut blocks disk begins =
    let under = begins.stands.stands.stands in
    shut_by disk under.stored under.placement begins.busy under.header under.placed

-- ---- its blocks
pub even_blocks : (n : ℕ) (blocks : List Block) → length blocks ≡ n
    → ((b : ℕ) → b < n → length (block_in blocks b).newest ≡ 512)
    → lengths (map (λ block. block.newest) blocks) ≡ replicate n 512
unfolding lengths
even_blocks zero [] count each = refl
even_blocks zero (block ∷ blocks) count each = absurd (omega (arith, count))
even_blocks (suc n) [] count each = absurd (omega (arith, count))
even_blocks (suc n) (block ∷ blocks) count each =
    ap₂ (λ (x : ℕ) (xs : List ℕ). x ∷ xs) (each 0 (omega arith))
    (even_blocks n blocks (omega (arith, count)) (λ b below. each (suc b) (omega (arith, below))))

-- a content is what certain blocks of it hold
newest_settled : (content : List (List ℕ))
    → map (λ block. block.newest) (settled_blocks content) ≡ content
unfolding settled_blocks
newest_settled [] = refl
newest_settled (value ∷ content) =
    ap (λ (rest : List (List ℕ)). value ∷ rest) (newest_settled content)

-- ---- as it was served
-- Over links that were fresh, sessions were served of the clients; and their operations, which the pass
-- tells, are legal on the plain disk that held for certain what the disk stood for.
pub record WasServed (m k : ℕ) (scripts : List Script) (served : Outcome RamDisk Line) : Type 0 where
  pub first : List (List ℕ)
  pub even : lengths (map (λ block. block.newest) (settled_blocks first)) ≡ replicate m 512
  pub operations : List Tagged
  pub known : IsHistoryOf k first served.pass operations
  pub left : List Block
  pub legal : Legal 512 (settled_blocks first) (untagged operations) left
  pub export : Export
  pub events : ℕ
  pub begun : List Line
  pub count : length begun ≡ k
  pub fresh : AreFresh client_state (Some scripts) k k begun
  pub played : List Played
  pub standings : List Standing
  pub sessions : AreSessions export (most_events ≤ events) played
  pub links : AreServed client_state begun served.links served.ends standings played
  pub each : HasEach operations played
  pub of_sessions : IsOfSessions played operations

-- what the blocks of it hold are so many values of 512 bytes
pub first_even : (m k : ℕ) (scripts : List Script) (served : Outcome RamDisk Line)
    → (was : WasServed m k scripts served) → lengths was.first ≡ replicate m 512
first_even m k scripts served was = ap lengths (sym (newest_settled was.first)) ∙ was.even

module _ (m k : ℕ) (scripts : List Script) (disk : RamDisk) (begins : Begins disk m)
    (atom : disk.atom ≡ 512) (between new : Supplies) (served : Outcome RamDisk Line)
    (up : HasTakenUp demo_view (demo_serving k)
    demo_passphrase disk between new served) where
  abbrev sizes : Sizes
  sizes = sizes_alone (ram_device disk)

  abbrev bytes : List ℕ
  bytes = disk.bytes.items

  abbrev content : List (List ℕ)
  content = begins.stands.content

  abbrev header : Stored
  header = up.taken.calls.found.header

  header_shut : IsShut disk header
  header_shut =
      let under = begins.stands.stands.stands in
      subst (λ (s : Stored). IsShut disk s)
      (same_header sizes (front_of sizes bytes) under.stored header under.header
      (up.taken.calls.found.held bytes (up.taken.begins.shown bytes refl))) (shut m disk begins)

  not_open : MendsZone up.sector up.sealed up.opened header up.taken.calls.found.keys
      up.taken.calls.led.mended up.volume.disk succeeded → ⊥
  not_open zone =
      let is = zone.begins.zone.is in
      let now = zone.begins.zone.now in
      let known : progress_of header.valid.meta sizes ≡ Some now =
      subst (λ (z : Sizes). progress_of header.valid.meta z ≡ Some now)
      up.taken.calls.found.passed.sizes_are is.known in
      let same : header_shut.now ≡ now =
      (let e : Some header_shut.now ≡ Some now = sym header_shut.known ∙ known in cc) in
      let closed : now.plan.zone ≡ 0 =
      subst (λ (p : Progress). p.plan.zone ≡ 0) same header_shut.closed in
      let some = is.some in omega (arith, closed, some)

  goes_on : MayGoOn header
  goes_on = elim up.taken.calls.led.leads as (λ _. MayGoOn header) [
    | rests go same last ↦ go
    | mends zone last ↦ absurd (not_open zone)
  ]

  known : (old_key new_key : List ℕ)
      × StoodFor sizes up.taken.keys (ram_device disk) bytes old_key new_key content
  known = up.known bytes content refl (inl begins.stands.stands)

  starts : StartsBesideFor up.sealed up.opened sizes up.taken.calls.led.last known.0 known.1 content
      up.volume
  unfolding AreDeeds state_after
  starts = (up.keeps_beside bytes known.0 known.1 content [] known.2 tt (inl goes_on)).starts

  map_atom : up.volume.map.atom ≡ 512
  map_atom = up.taken.calls.led.map.2.atom ∙ atom

  count_blocks : length (settled_blocks content) ≡ m
  unfolding settled_blocks
  count_blocks = length-map content settled ∙ begins.stands.count

  even : lengths (map (λ block. block.newest) (settled_blocks content)) ≡ replicate m 512
  even =
      let are = starts.starts.are in
      even_blocks m (settled_blocks content) count_blocks (λ b below.
      let size = (are.newest b (omega (arith, below, count_blocks, are.count))).size in
      omega (arith, size, map_atom))

  module _ (begun : List Line)
      (ran : RanBeside up.sector up.sealed up.opened ram_device client_state disk demo_passphrase
      (k + 1) up.volume up.taken begun served) (fine : served.cause ≡ Fine) where
    all_fine : ran.came.cause ≡ Fine
    all_fine = sym (ap (λ o. o.cause) ran.back.is) ∙ fine

    stands : length ran.served.deeds < most_events → StandsForNewest sizes demo_passphrase
        up.volume.map.atom content (untagged ran.served.operations) ran.served.final.disk
    stands few =
        subst (λ (d : DiskState). StandsForNewest sizes demo_passphrase up.volume.map.atom content
        (untagged ran.served.operations) d) ran.served.left_is
        (ran.stands all_fine few bytes content refl (inl begins.stands.stands) (inl goes_on))

    history : IsHistoryOf k content served.pass ran.served.operations
    history = record {
      disk = disk;
      stood = begins.stands.stands;
      sector = up.sector;
      sealed = up.sealed;
      opened = up.opened;
      start = up.volume;
      taken = up.taken;
      final = ran.served.final;
      deeds = ran.served.deeds;
      told = subst (λ (p : Option (Knowing Context)).
          IsSomeAnd p (λ pass. KnowsDeeds up.volume pass ran.served.deeds))
          (sym (ap (λ o. o.pass) ran.back.is)) ran.served.told;
      did = ran.served.did;
      idle = ran.fine all_fine;
      stands = stands;
    }

    pub was_served : AreGiven client_state ((demo_holdings between).inputs demo_name) k k begun
        → (demo_holdings between).inputs demo_name ≡ Some scripts → WasServed m k scripts served
    was_served given inputs =
        let one = ran.served.history (layout_on sizes up.taken.calls.led.last)
        (header_on up.taken.calls.led.last) converting (settled_blocks content) starts.now
        starts.starts in
        let played = ran.served.played in
        record {
          first = content;
          even = even;
          operations = ran.served.operations;
          known = history;
          left = one.0;
          legal = subst (λ (n : ℕ). Legal n (settled_blocks content)
              (untagged ran.served.operations) one.0) map_atom one.1;
          export =
              record { number = 0; size = size_of up.volume.map; atom = up.volume.map.atom };
          events = length ran.served.deeds;
          begun = begun;
          count = given.count;
          fresh = subst (λ (i : Option (List Script)). AreFresh client_state i k k begun) inputs
              given.fresh;
          played = played.played;
          standings = played.standings;
          sessions = played.sessions;
          links = subst (λ (l : List Line). AreServed client_state begun l served.ends
              played.standings played.played) (sym (ap (λ o. o.links) ran.back.is))
              (subst (λ (e : List (List SessionEnd)). AreServed client_state begun ran.came.links e
              played.standings played.played) (sym (ap (λ o. o.ends) ran.back.is)) played.served);
          each = played.each;
          of_sessions = played.known;
        }

-- ---- what came of the disk
pub opened_so : (m k : ℕ) (disk : RamDisk) → Begins disk m → (pass : List ℕ) (between new : Supplies)
    (served : Outcome RamDisk Line)
    → HasOpenedVolume demo_view (demo_serving k) pass disk
    between new served → ⊥
opened_so m k disk begins pass between new served has =
    let under = has.volume.under in
    unopened m disk begins has.volume.stored under.key_found.idle
    (under.found.held disk.bytes.items refl) under.key_found.is

taken_so : (m k : ℕ) (scripts : List Script) (disk : RamDisk) → Begins disk m → disk.atom ≡ 512
    → (between new : Supplies) → (demo_holdings between).inputs demo_name ≡ Some scripts
    → (served : Outcome RamDisk Line) → served.cause ≡ Fine
    → HasTakenUp demo_view (demo_serving k)
    demo_passphrase disk between new served
    → WasServed m k scripts served
taken_so m k scripts disk begins atom between new inputs served fine up = elim up.linked [
  | inl has ↦ ⊎_elim (λ ran.
      was_served m k scripts disk begins atom between new served up has.given ran fine has.is
      inputs)
      (λ ended. absurd (let e = ap (λ o. o.cause) ended.is in cc)) has.came.1
  | inr none ↦ absurd (unfine _ none.fault _ _ (ap (λ o. o.cause) none.ended.is) fine)
]

keyed_so : (m k : ℕ) (scripts : List Script) (disk : RamDisk) → Begins disk m → disk.atom ≡ 512
    → (between new : Supplies) (served : Outcome RamDisk Line) → served.cause ≡ Fine
    → (demo_holdings between).keyring demo_name ≡ Some demo_passphrase
    → (demo_holdings between).inputs demo_name ≡ Some scripts
    → IsGiven demo_view (key_named demo_view demo_name) between
    (λ pass given. ServesUnder demo_view (demo_serving k) pass disk given new served)
    → WasServed m k scripts served
keyed_so m k scripts disk begins atom between new served fine key inputs has = elim has.came [
  | inl none ↦ absurd (unfine_refusal none.refusal (ram_device none.back).faults
      (sym (ap (λ o. o.cause) none.outcome_is) ∙ fine))
  | inr (inl opened) ↦
      absurd (opened_so m k disk begins has.given has.between new served opened)
  | inr (inr (inl none)) ↦ absurd (unfine_resume none.refusal (ram_device none.back).faults
      (sym (ap (λ o. o.cause) none.outcome_is) ∙ fine))
  | inr (inr (inr up)) ↦
      taken_so m k scripts disk begins atom has.between new
      (ap (λ (i : List ℕ → Option (List Script)). i demo_name) has.leaves.clients ∙ inputs) served
      fine
      (subst (λ (p : List ℕ). HasTakenUp demo_view (demo_serving k) p disk has.between new served)
      (same_pass ((demo_holdings between).keyring demo_name) has.given key has.is) up)
]

pub serviced_so : (m k : ℕ) (bay : Supplies) (scripts : List Script) (new : Supplies)
    (served : Outcome RamDisk Line) → HandsBegun bay scripts m → served.cause ≡ Fine
    → Serviced demo_view (demo_serving k) bay new served None → WasServed m k scripts served
serviced_so m k bay scripts new served hands fine (none, inr unplaced) =
    absurd (unfine _ unplaced.fault _ _ (ap (λ o. o.cause) unplaced.ended) fine)
serviced_so m k bay scripts new served hands fine (none, inl has) =
    let same = has.is.kept hands.disk hands.holds.there in
    let begins = subst (λ (d : RamDisk). Begins d m) (sym same) hands.begins in
    ⊎_elim (λ key. keyed_so m k scripts has.given begins has.is.atom_is has.between new served fine
    (ap (λ (keys : List ℕ → Option (List ℕ)). keys demo_name) has.leaves.keys ∙ hands.holds.key)
    (ap (λ (i : List ℕ → Option (List Script)). i demo_name) has.leaves.clients
    ∙ hands.holds.clients) key)
    (λ unkeyed. absurd (unfine _ unkeyed.fault _ _ (ap (λ o. o.cause) unkeyed.ended) fine)) has.came
