use Rattle.demo_clients.proofs.DemonstrationLemmas.{demonstrations-told, granted-read}
use Rattle.demo_clients.proofs.demonstration_laws.demonstrations_are_told.Goals as goal

pub returns : goal.returns
returns c = record {
  told = demonstrations-told c.sessions_ask_these.ensures.sessions;
  read = granted-read c.sessions_ask_these.ensures.sessions;
}
