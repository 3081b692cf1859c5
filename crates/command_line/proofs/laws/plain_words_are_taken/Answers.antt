use Rattle.command_line.proofs.DemoLemmas.{demo_taken}
use Rattle.command_line.proofs.FormatLemmas.{format_taken}
use Rattle.command_line.proofs.ResumeLemmas.{resume_taken}
use Rattle.command_line.proofs.StartLemmas.{init_taken}
use Rattle.command_line.proofs.TakenLemmas.{serve_taken, status_taken}
use Rattle.command_line.proofs.laws.plain_words_are_taken.Goals as goal

pub returns-clause-format : goal.returns-clause-format
returns-clause-format c = format_taken

pub returns-clause-init : goal.returns-clause-init
returns-clause-init c = init_taken

pub returns-clause-serve : goal.returns-clause-serve
returns-clause-serve c = serve_taken

pub returns-clause-resume : goal.returns-clause-resume
returns-clause-resume c = resume_taken

pub returns-clause-status : goal.returns-clause-status
returns-clause-status c = status_taken

pub returns-clause-demo : goal.returns-clause-demo
returns-clause-demo c = demo_taken
