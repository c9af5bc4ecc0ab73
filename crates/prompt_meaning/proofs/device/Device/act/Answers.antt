use Rattle.std.proofs.Common.{◌≡◌, suc, ◌+◌, subst, arith}
use Rattle.prompt_semantics.specs.Prompt.{acts, prompt_step}
use Rattle.run_parts.specs.Effects.{effect_meant}
use Rattle.prompt_meaning.specs.Held.{device_at}
use Rattle.prompt_meaning.specs.Takes.{TakesWithin}
use Rattle.prompt_meaning.proofs.Loop.{counted}
use Rattle.prompt_meaning.proofs.device.Device.act.Goals as goal

pub take-requires-clause-reached : goal.take-requires-clause-reached
take-requires-clause-reached c = record {
  rooms = c.requires.reached.rooms;
  are = c.requires.reached.are;
  reaches = counted c.requires.reached.rooms (device_at c.args.self.now) (c.args.self.now.actions + 1) (effect_meant c.args.self.now.registers.names c.args.effect) c.requires.reached.reaches;
  live = c.requires.reached.live;
  flights = c.requires.reached.flights;
  steps = let k = c.requires.few in omega (arith, k);
  records = c.requires.reached.records;
}

pub returns-clause-takes : goal.returns-clause-takes
unfolding prompt_step
returns-clause-takes c = λ rooms are reaches.
    (let y = device_at c.args.self.now in
    let a = effect_meant c.args.self.now.registers.names c.args.effect in
    let next : c.args.self.now.actions + 1 ≡ suc c.args.self.now.actions = omega arith in
    subst (λ n. TakesWithin rooms c.take.result (acts c.args.self.now.filler c.args.self.now.capacity a (record y { actions = n })) (device_at c.take.new.self)) next
    (c.take.ensures.takes rooms are (counted rooms y (c.args.self.now.actions + 1) a reaches)))
