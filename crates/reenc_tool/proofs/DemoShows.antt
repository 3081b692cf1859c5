-- What a demonstration shows whose commands all did what they were asked.
use Rattle.std.proofs.Common.{◌≡◌, ◌∙◌, ◌≤◌, ℕ, List, map, Option, Some, None, bytes_eq}
use Rattle.std.proofs.Common.{if◌then◌else◌, inl, inr, ap, sym, subst}
use Rattle.bays.specs.Memory.{Line, inputs_of, script_of}
use Rattle.bays.specs.Stories.{Script}
use Rattle.block_server.specs.Sessions.{of_link}
use Rattle.command_line.specs.Demonstrations.{Demonstrating, IsDemonstrating}
use Rattle.demo_clients.specs.Connections.{demo_connections}
use Rattle.demo_clients.specs.DemoBays.{Supplies, demo_holdings, demo_name}
use Rattle.demo_clients.specs.Demonstrations.{DemonstrationsAreTold}
use Rattle.demo_clients.specs.Histories.{HistoriesLeaveTheContent}
use Rattle.demo_clients.specs.Texts.{demo_text}
use Rattle.luks_format.specs.DiskFormat.Written.{AreOpened}
use Rattle.memory_disks.specs.declared.ram_disk.RamDisk.{RamDisk}
use Rattle.plain_disk.specs.Plain.{settled_blocks}
use Rattle.sha2.specs.Sha256.{sha256}
use Rattle.shared_volume.specs.Ciphers.{Context}
use Rattle.shared_volume.specs.Lanes.{Knowing}
use Rattle.reenc_tool.specs.Demonstrating.{Concludes, EndsEarly, HasBegun, HasFormatted, HasReadBack}
use Rattle.reenc_tool.specs.Demonstrating.{HasDemonstrated, HasServedClients, IsDemoBay, RanCommands}
use Rattle.reenc_tool.specs.Demonstrating.{MayEndBy, Shows}
use Rattle.reenc_tool.specs.Outcomes.{Outcome}
use Rattle.reenc_tool.specs.declared.ended.Cause.TheVariants.{Fine, Memory}
use Rattle.reenc_tool.proofs.ClientSessions.{client_inputs, demonstrated, first_log}
use Rattle.reenc_tool.proofs.DemoBegun.{OpensStanding, made_ends, started_ends}
use Rattle.reenc_tool.proofs.DemoCauses.{may_end}
use Rattle.reenc_tool.proofs.DemoServed.{WasServed, first_even, serviced_so}
use Rattle.reenc_tool.proofs.DemoServing.{serviced_ends}
use Rattle.reenc_tool.proofs.DemoVolumes.{HandsBegun, HandsOver, Holds, formatted, started}
use Rattle.reenc_tool.specs.Sessions.{most_events}

-- ---- where it begins
-- what the clients are to send
abbrev pub scripts_for : Demonstrating → List Script
scripts_for demo = map script_of (demo_connections demo.seed demo.blocks demo.workers)

clients_told : (demo : Demonstrating) (bay : Supplies)
    → bay.rest.connections ≡ demo_connections demo.seed demo.blocks demo.workers
    → bay.rest.address ≡ demo_name
    → (demo_holdings bay).inputs demo_name ≡ Some (scripts_for demo)
clients_told demo bay connections address =
    ap (λ (name : List ℕ). if bytes_eq demo_name name then inputs_of bay.rest else None) address
    ∙ client_inputs demo.seed demo.blocks demo.workers bay.rest connections

begun_holds : (demo : Demonstrating) (bay : Supplies) → (is : IsDemoBay demo bay)
    → Holds bay is.disk (scripts_for demo)
begun_holds demo bay is = record {
  there = is.there;
  key = is.key;
  clients = clients_told demo bay is.clients is.address;
}

-- ---- where it ends
early : {D L : Type 0} (ended : Outcome RamDisk Line) (outcome : Outcome D L)
    (report : Option (List ℕ)) → EndsEarly ended outcome report → outcome.cause ≡ Fine → ⊥
early ended outcome report ends fine =
    ends.other (sym (ap (λ o. o.cause) ends.outcome_is) ∙ fine)

-- what is to be shown
abbrev pub IsShownBy : {D L : Type 0} → Demonstrating → Outcome D L → Option (List ℕ) → Type 0
IsShownBy demo outcome report = (content : List ℕ) × Shows demo outcome.demo content
    × (report ≡ Some (demo_text demo.seed demo.blocks demo.workers (sha256 content)))

module _ (told : DemonstrationsAreTold) (left : HistoriesLeaveTheContent) (made : AreOpened)
    (opens : OpensStanding) (demo : Demonstrating) (bounds : IsDemonstrating demo) where
  shown_by : {D L : Type 0} (served : Outcome RamDisk Line) (outcome : Outcome D L)
      (report : Option (List ℕ))
      → WasServed demo.blocks demo.workers (scripts_for demo) served
      → outcome.demo ≡ served.pass → HasReadBack demo served report → IsShownBy demo outcome report
  shown_by served outcome report was pass read =
      let known = demonstrated demo.seed demo.blocks demo.workers was.export
      (most_events ≤ was.events) was.begun served.links served.ends was.standings was.played
      was.operations was.sessions was.links was.each was.of_sessions was.count was.fresh
      read.disconnected (settled_blocks was.first) was.left read.content was.even was.legal read.read in
      let is = told demo.seed demo.blocks demo.workers (settled_blocks was.first) was.operations was.left
      served.links (λ i. first_log (of_link i was.played)) read.content bounds.blocks bounds.some_worker
      known in
      let leaves = left demo.seed demo.blocks demo.workers (settled_blocks was.first) was.operations
      was.left bounds.some_worker
      (record {
        even = was.even;
        legal = was.legal;
        clients = known.clients;
        asked = is.asked;
        served = is.served;
      }) in
      let shows : Shows demo served.pass read.content = record {
        first = was.first;
        even = first_even demo.blocks demo.workers (scripts_for demo) served was;
        operations = was.operations;
        known = was.known;
        clients = known.clients;
        left = was.left;
        legal = was.legal;
        told = is;
        leaves = leaves;
      } in (
        read.content,
        subst (λ (p : Option (Knowing Context)). Shows demo p read.content) (sym pass) shows,
        read.report_is,
      )

  concluded : {D L : Type 0} (served : Outcome RamDisk Line) (outcome : Outcome D L)
      (report : Option (List ℕ))
      → (served.cause ≡ Fine → WasServed demo.blocks demo.workers (scripts_for demo) served)
      → Concludes demo served outcome report → outcome.cause ≡ Fine → IsShownBy demo outcome report
  concluded served outcome report was (inl ends) fine =
      absurd (early served outcome report ends fine)
  concluded served outcome report was (inr (done, inl (is, read))) fine =
      shown_by served outcome report (was done) (ap (λ o. o.demo) is) read
  concluded served outcome report was (inr (done, inr (is, none))) fine =
      absurd (let e = ap (λ o. o.cause) is in cc)

  served_so : {D L : Type 0} (outcome : Outcome D L) (report : Option (List ℕ)) (bay : Supplies)
      → HandsBegun bay (scripts_for demo) demo.blocks → HasServedClients demo outcome report bay
      → outcome.cause ≡ Fine → IsShownBy demo outcome report
  served_so outcome report bay hands has fine =
      concluded has.served outcome report
      (λ done. serviced_so demo.blocks demo.workers bay (scripts_for demo) has.new has.served hands done
      has.is) has.concludes fine

  begun_so : {D L : Type 0} (outcome : Outcome D L) (report : Option (List ℕ)) (bay : Supplies)
      → HandsOver bay (scripts_for demo) demo.blocks → HasBegun demo outcome report bay
      → outcome.cause ≡ Fine → IsShownBy demo outcome report
  begun_so outcome report bay hands has fine = elim has.later [
    | inl ends ↦ absurd (early has.started outcome report ends fine)
    | inr (back, puts, later) ↦
        served_so outcome report back
        (started demo.blocks bay hands.disk (scripts_for demo) has.supply has.now has.new back
        has.started has.said hands.holds hands.format.atom hands.stands has.is puts) later fine
  ]

  formatted_so : {D L : Type 0} (outcome : Outcome D L) (report : Option (List ℕ)) (bay : Supplies)
      → IsDemoBay demo bay → HasFormatted demo outcome report bay → outcome.cause ≡ Fine
      → IsShownBy demo outcome report
  formatted_so outcome report bay is has fine = elim has.later [
    | inl ends ↦ absurd (early has.made outcome report ends fine)
    | inr (back, puts, later) ↦
        begun_so outcome report back
        (formatted made demo bay is.disk (scripts_for demo) has.supply has.now has.new back has.made
        has.said (begun_holds demo bay is) is.atom is.atoms has.is puts) later fine
  ]

  pub shown : {D L : Type 0} (outcome : Outcome D L) (report : Option (List ℕ))
      → RanCommands demo outcome report → outcome.cause ≡ Fine → IsShownBy demo outcome report
  shown outcome report (inl (none, is)) fine = absurd (let e = ap (λ o. o.cause) is in cc)
  shown outcome report (inr (bay, is, has)) fine = formatted_so outcome report bay is has fine

  -- ---- for which causes it may end
  early_ends : {D L : Type 0} (ended : Outcome RamDisk Line) (outcome : Outcome D L)
      (report : Option (List ℕ)) → EndsEarly ended outcome report → MayEndBy ended.cause
      → MayEndBy outcome.cause
  early_ends ended outcome report ends may =
      may_end outcome.cause ended.cause (ap (λ o. o.cause) ends.outcome_is) may

  concluded_ends : {D L : Type 0} (served : Outcome RamDisk Line) (outcome : Outcome D L)
      (report : Option (List ℕ)) → MayEndBy served.cause → Concludes demo served outcome report
      → MayEndBy outcome.cause
  concluded_ends served outcome report may (inl ends) = early_ends served outcome report ends may
  concluded_ends served outcome report may (inr (done, inl (is, read))) =
      may_end outcome.cause served.cause (ap (λ o. o.cause) is) may
  concluded_ends served outcome report may (inr (done, inr (is, none))) =
      may_end outcome.cause Memory (ap (λ o. o.cause) is) tt

  served_end : {D L : Type 0} (outcome : Outcome D L) (report : Option (List ℕ)) (bay : Supplies)
      → HandsBegun bay (scripts_for demo) demo.blocks → HasServedClients demo outcome report bay
      → MayEndBy outcome.cause
  served_end outcome report bay hands has =
      concluded_ends has.served outcome report
      (serviced_ends demo.blocks demo.workers bay (scripts_for demo) has.new has.served hands has.is)
      has.concludes

  begun_end : {D L : Type 0} (outcome : Outcome D L) (report : Option (List ℕ)) (bay : Supplies)
      → HandsOver bay (scripts_for demo) demo.blocks → HasBegun demo outcome report bay
      → MayEndBy outcome.cause
  begun_end outcome report bay hands has = elim has.later [
    | inl ends ↦
        early_ends has.started outcome report ends
        (started_ends opens demo.blocks bay hands.disk (scripts_for demo) has.supply has.now has.new
        has.started has.said has.calm hands.holds hands.stands hands.format has.is)
    | inr (back, puts, later) ↦
        served_end outcome report back
        (started demo.blocks bay hands.disk (scripts_for demo) has.supply has.now has.new back
        has.started has.said hands.holds hands.format.atom hands.stands has.is puts) later
  ]

  formatted_end : {D L : Type 0} (outcome : Outcome D L) (report : Option (List ℕ))
      (bay : Supplies) → IsDemoBay demo bay → HasFormatted demo outcome report bay
      → MayEndBy outcome.cause
  formatted_end outcome report bay is has = elim has.later [
    | inl ends ↦
        early_ends has.made outcome report ends
        (made_ends demo.blocks bay is.disk (scripts_for demo) has.supply has.now has.new has.made
        has.said bounds.some_block has.calm (begun_holds demo bay is) is.atom is.atoms has.is)
    | inr (back, puts, later) ↦
        begun_end outcome report back
        (formatted made demo bay is.disk (scripts_for demo) has.supply has.now has.new back has.made
        has.said (begun_holds demo bay is) is.atom is.atoms has.is puts) later
  ]

  pub ended_so : {D L : Type 0} (outcome : Outcome D L) (report : Option (List ℕ))
      → RanCommands demo outcome report → MayEndBy outcome.cause
  ended_so outcome report (inl (none, is)) =
      may_end outcome.cause Memory (ap (λ o. o.cause) is) tt
  ended_so outcome report (inr (bay, is, has)) = formatted_end outcome report bay is has

pub demonstrated_so : {D L : Type 0} → DemonstrationsAreTold → HistoriesLeaveTheContent → AreOpened
    → OpensStanding → (demo : Demonstrating) → IsDemonstrating demo → (outcome : Outcome D L)
    (report : Option (List ℕ)) → RanCommands demo outcome report
    → HasDemonstrated demo outcome report
demonstrated_so told left made opens demo bounds outcome report ran = record {
  ran = ran;
  shows = shown told left made opens demo bounds outcome report ran;
  complete = ended_so told left made opens demo bounds outcome report ran;
}
