use Rattle.demo_clients.proofs.AskingLemmas.{inputs-ask, sessions-ask}
use Rattle.demo_clients.proofs.session_laws.sessions_ask_these.Goals as goal

pub returns : goal.returns
returns c = record {
  inputs = inputs-ask c.reading_is_unique.ensures;
  sessions = sessions-ask c.reading_is_unique.ensures;
}
