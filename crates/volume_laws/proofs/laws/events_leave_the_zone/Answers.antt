use Rattle.volume_machine.proofs.EventEffects.{event_effects}
use Rattle.volume_laws.proofs.RunsServed.{apart_after, works_after}
use Rattle.volume_laws.proofs.Workings.{client_live}
use Rattle.volume_laws.proofs.laws.events_leave_the_zone.Goals as goal

pub returns : goal.returns
returns c _ = record {
  stays = λ old new event outcome meets step keeps.
      (apart_after old new event outcome meets step keeps, (event_effects old new event outcome step).work);
  works = λ old new event outcome meets step. works_after old new event outcome meets step;
  live = λ state lane o sound keeps whole at has holds client.
      client_live lane sound keeps whole at has holds client;
  sides = λ state b sound live is. live.free (sound.zoned b is);
}
