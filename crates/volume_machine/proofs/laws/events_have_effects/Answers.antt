use Rattle.volume_machine.proofs.EventEffects.{event_effects}
use Rattle.volume_machine.proofs.laws.events_have_effects.Goals as goal

pub returns : goal.returns
returns c _ = event_effects
