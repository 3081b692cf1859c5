use Rattle.nbd_session.proofs.LaneReads.{flights-read}
use Rattle.nbd_session.proofs.flights.flights_read_as_sessions.Goals as goal

pub returns : goal.returns
returns c = flights-read
