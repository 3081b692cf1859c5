use Rattle.demo_clients.proofs.HistoryLemmas.{leaves-content}
use Rattle.demo_clients.proofs.history_laws.histories_leave_the_content.Goals as goal

pub returns : goal.returns
returns c = leaves-content
