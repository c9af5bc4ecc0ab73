use Rattle.std.proofs.Common.{subst}
use Rattle.walk_actions.specs.Meant.{place_meant}
use Rattle.run_parts.specs.Effects.{effect_meant}
use Rattle.prompt_laws.specs.Reaches.{Reaches}
use Rattle.prompt_meaning.specs.Held.{device_at}
use Rattle.prompt_meaning.proofs.Starting.{place_reached}
use Rattle.prompt_meaning.proofs.device.Device.take.Goals as goal

pub load-requires-clause-place : goal.load-requires-clause-place
load-requires-clause-place c =
    place_reached c.requires.reached.rooms c.args.self.now.fasts.items c.requires.reached.are (device_at c.args.self.now) (place_meant c.in-Loads.place)
    (subst (λ x. Reaches c.requires.reached.rooms (effect_meant c.args.self.now.registers.names x) (device_at c.args.self.now)) c.in-Loads.is c.requires.reached.reaches)

pub store-requires-clause-place : goal.store-requires-clause-place
store-requires-clause-place c =
    place_reached c.requires.reached.rooms c.args.self.now.fasts.items c.requires.reached.are (device_at c.args.self.now) (place_meant c.in-Stores.place)
    (subst (λ x. Reaches c.requires.reached.rooms (effect_meant c.args.self.now.registers.names x) (device_at c.args.self.now)) c.in-Stores.is c.requires.reached.reaches)
