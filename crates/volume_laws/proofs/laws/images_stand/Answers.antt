use Rattle.volume_laws.proofs.Standings.{stands_for_one, now_stands, stops_stand}
use Rattle.volume_laws.proofs.laws.images_stand.Goals as goal

pub returns : goal.returns
returns c start = record {
  one = λ reading state seals image one other.
      stands_for_one reading state.disk.atoms seals state.map state.work image one other;
  now = λ reading state seals plain blocks bytes none.
      now_stands state none reading seals plain blocks bytes;
  stops = λ reading state seals plain blocks cells none.
      stops_stand state none reading seals plain blocks cells;
}
