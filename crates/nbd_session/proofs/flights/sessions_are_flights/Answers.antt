use Rattle.nbd_session.proofs.OneLaneLemmas.{lane-ordered, session-flight}
use Rattle.nbd_session.proofs.OneLaneSessions.{flight-session}
use Rattle.nbd_session.proofs.flights.sessions_are_flights.Goals as goal

pub returns-clause-flights : goal.returns-clause-flights
returns-clause-flights c = session-flight

pub returns-clause-alone : goal.returns-clause-alone
returns-clause-alone c = flight-session

pub returns-clause-ordered : goal.returns-clause-ordered
returns-clause-ordered c = lane-ordered
