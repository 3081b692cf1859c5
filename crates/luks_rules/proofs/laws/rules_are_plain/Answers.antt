use Rattle.luks_rules.proofs.PlainLemmas.{within, from_within, referred, from_referred, held}
use Rattle.luks_rules.proofs.PlainLemmas.{from_held, sectors, from_sectors, atoms, from_atoms}
use Rattle.luks_rules.proofs.PlainLemmas.{numbers, from_numbers}
use Rattle.luks_rules.proofs.laws.rules_are_plain.Goals as goal

pub returns-clause-bounds : goal.returns-clause-bounds
returns-clause-bounds c = λ m sizes. (within m sizes, from_within m sizes)

pub returns-clause-references : goal.returns-clause-references
returns-clause-references c = λ m. (referred m, from_referred m)

pub returns-clause-segments : goal.returns-clause-segments
returns-clause-segments c = λ progress m sizes. (held progress m sizes, from_held progress m sizes)

pub returns-clause-sectors : goal.returns-clause-sectors
returns-clause-sectors c = λ m sizes. (sectors m sizes, from_sectors m sizes)

pub returns-clause-atoms : goal.returns-clause-atoms
returns-clause-atoms c = λ m sizes. (atoms m sizes, from_atoms m sizes)

pub returns-clause-numbers : goal.returns-clause-numbers
returns-clause-numbers c = λ m sizes. (numbers m sizes, from_numbers m sizes)
