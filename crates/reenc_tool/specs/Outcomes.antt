-- What a command hands back.
use Rattle.std.specs.Prelude.{ℕ, ◌≡◌, Bool, false, List, [], map, Option, Some, None, option_map}
use Rattle.bays.specs.declared.bay.BayFault.{BayFault}
use Rattle.bays.specs.declared.bay.BayFault.TheVariants as BayFaults
use Rattle.luks_store.specs.declared.fault.StoreFault.{StoreFault}
use Rattle.nbd_session.specs.declared.ending.SessionEnd.{SessionEnd}
use Rattle.reenc_tool.specs.declared.ended.Cause.{Cause}
use Rattle.reenc_tool.specs.declared.ended.Cause.TheVariants.{Device, Memory}
use Rattle.reenc_tool.specs.declared.ended.Ended.{Ended}
use Rattle.reenc_tool.specs.declared.ended.Failing.{Failing}
use Rattle.reenc_tool.specs.declared.history.Pass.{Pass}
use Rattle.reenc_tool.specs.declared.history.Pass.TheVariants.{Encrypted, Plain}
use Rattle.reenc_tool.specs.declared.ended.Sessions.{Sessions}
use Rattle.reenc_tool.specs.declared.volume_refusal.VolumeRefusal.{VolumeRefusal}
use Rattle.sector_disk.specs.declared.device.Disk.{Ghosts}
use Rattle.shared_volume.specs.Ciphers.{Context}
use Rattle.shared_volume.specs.Lanes.{Knowing}
use Rattle.volume_cell.specs.Passes.{known}

-- what is known by the pass of a volume, be it a disk as it is or an encrypted one
abbrev pub known_by : {D : Type 0} {shown : Ghosts D} → Pass D shown → Knowing Context
known_by (Plain pass) = known pass
known_by (Encrypted pass) = known pass

-- what a command hands back: its cause, and why no header was shown or no volume opened; whether
-- memory was wanted for a session's end; its disk, and that of a detached header; what is known by
-- the pass of the volume whose sessions were served, or of the one in memory that `demo` served; and
-- its links, with the ends of each link's sessions
pub record Outcome (D L : Type 0) : Type 0 where
  pub cause : Cause
  pub fault : Option StoreFault
  pub refusal : Option VolumeRefusal
  pub memory : Bool
  pub disk : Option D
  pub header : Option D
  pub pass : Option (Knowing Context)
  pub demo : Option (Knowing Context)
  pub links : List L
  pub ends : List (List SessionEnd)

abbrev pub outcome_of : {D L : Type 0} {shown : Ghosts D} → Ended D L shown → Outcome D L
outcome_of ended = record {
  cause = ended.cause;
  fault = ended.fault;
  refusal = ended.refusal;
  memory = ended.memory;
  disk = ended.disk;
  header = ended.header;
  pass = option_map (λ pass. known_by pass) ended.pass;
  demo = option_map (λ pass. known_by pass) ended.demo;
  links = ended.links.items;
  ends = map (λ list. list.items) ended.sessions.items;
}

-- what came of sessions: why they ended, whether memory was wanted for a session's end, what is known
-- by the volume's pass, and the links with the ends of each link's sessions
pub record Coming (L : Type 0) : Type 0 where
  pub cause : Cause
  pub memory : Bool
  pub pass : Option (Knowing Context)
  pub links : List L
  pub ends : List (List SessionEnd)

abbrev pub came_of : {D L : Type 0} → Sessions D L → Coming L
came_of sessions = record {
  cause = sessions.cause;
  memory = sessions.memory;
  pass = option_map (λ pass. known pass) sessions.pass;
  links = sessions.links.items;
  ends = map (λ list. list.items) sessions.ends.items;
}

-- no session was served
abbrev pub none_came : {L : Type 0} → Cause → List L → Coming L
none_came cause links =
    record { cause = cause; memory = false; pass = None; links = links; ends = [] }

-- ---- how a command ends
-- what it hands back that ended by this cause, with its disk and that of a detached header, and that
-- had no links
abbrev pub ended_with : {D L : Type 0} → Cause → Option D → Option D → Outcome D L
ended_with cause disk header = record {
  cause = cause;
  fault = None;
  refusal = None;
  memory = false;
  disk = disk;
  header = header;
  pass = None;
  demo = None;
  links = [];
  ends = [];
}

-- and that has nothing to say
abbrev pub EndsSilently : {D L : Type 0} → Option D → Option D → Outcome D L → Option (List ℕ)
    → Cause → Type 0
EndsSilently disk header outcome report cause =
    (report ≡ None) × (outcome ≡ ended_with cause disk header)

-- one that opened no volume, or begins no conversion, for this refusal where that is told
abbrev pub ended_refused : {D L : Type 0} → Cause → Option VolumeRefusal → Option D → D
    → Outcome D L
ended_refused {D} {L} cause refusal header disk =
    record (ended_with {D = D} {L = L} cause (Some disk) header) { refusal = refusal }

-- one whose sessions came so
abbrev pub ended_by : {D L : Type 0} → Coming L → Option D → Option D → Outcome D L
ended_by {D} {L} came disk header = record (ended_with {D = D} {L = L} came.cause disk header) {
  memory = came.memory;
  pass = came.pass;
  links = came.links;
  ends = came.ends;
}

-- one that had links and served no session
abbrev pub unserved : {D L : Type 0} → Cause → Option D → List L → Outcome D L
unserved cause disk links = ended_by (none_came cause links) disk None

-- one that was given nothing: what it asked for failed, which the bay counted, or memory was wanted
abbrev pub cause_of_fault : Failing → BayFault → ℕ → Cause
cause_of_fault failing BayFaults.Failed faults = Device failing faults
cause_of_fault failing BayFaults.Memory faults = Memory
