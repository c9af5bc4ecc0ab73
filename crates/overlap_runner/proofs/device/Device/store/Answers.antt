use Rattle.std.proofs.Common.{rules, w64, refl, subst}
use Rattle.std.proofs.lemmas.Int.{to_z-of_z}
use Rattle.prompt_semantics.specs.Prompt.{prompt_store}
use Rattle.overlap_memory.specs.Tied.{Follows}
use Rattle.walk_actions.specs.Meant.{place_meant}
use Rattle.overlap_runner.proofs.Taken.{store_reached, stores}
use Rattle.overlap_runner.proofs.device.Device.store.Goals as goal

pub store-done-requires : goal.store-done-requires
store-done-requires g c =
    let k = c.requires.ready in
    record { reached = (k.0, k.1, k.2, store_reached c.args.bus.now k.0 k.1 c.args.self.now k.2 c.args.self.now.filler c.args.self.now.capacity c.args.value (place_meant c.args.place) k.3) }

pub returns-clause-follows : goal.returns-clause-follows
returns-clause-follows g c = λ rooms shape y k.
    stores c.args.bus.now rooms shape c.args.self.now y _ _ k.at _ refl c.store-done.result c.args.value (place_meant c.args.place)
    (subst (λ v. Follows c.args.bus.now shape c.store-done.result (prompt_store v (place_meant c.args.place) y) c.store-done.new.memory) (to_z-of_z w64 c.args.value (search rules))
    (c.store-done.ensures.follows rooms shape y (store_reached c.args.bus.now rooms shape c.args.self.now y c.args.self.now.filler c.args.self.now.capacity c.args.value (place_meant c.args.place) k)))
