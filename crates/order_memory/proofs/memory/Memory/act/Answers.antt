use Rattle.std.proofs.Common.{rules, ◌∙◌, refl, sym, ap, subst, arith, w64, Ok, Err}
use Rattle.std.proofs.lemmas.Int.{to_z-of_z}
use Rattle.affine_ast.specs.Names.{put}
use Rattle.direct_meaning.specs.Direct.{direct_step, read}
use Rattle.walk_program.specs.Names.{name_at}
use Rattle.walk_actions.specs.Meant.{place_meant}
use Rattle.run_parts.specs.Registered.{values_of}
use Rattle.run_parts.specs.Effects.{effect_meant}
use Rattle.order_meaning.specs.Machine.{act_on, store, allocate}
use Rattle.order_memory.specs.Reaches.{Reaches}
use Rattle.order_memory.specs.Tied.{Follows}
use Rattle.order_memory.proofs.Acts.{number_there, place_there, records_fit, kept}
use Rattle.order_memory.proofs.Allocs.{all_here}
use Rattle.order_memory.proofs.memory.Memory.act.Goals as goal

pub load-requires-clause-place : goal.load-requires-clause-place
load-requires-clause-place c = let y = c.requires.can in place_there y.0 y.1 _ y.2 (place_meant c.in-Loads.place) (subst (λ e. Reaches y.0 (effect_meant c.args.self.now.registers.names e) y.1) c.in-Loads.is y.3.reaches)

pub load-requires-clause-flights : goal.load-requires-clause-flights
load-requires-clause-flights c = let y = c.requires.can in records_fit y.0 y.1 _ y.2 y.3.flights

pub store-requires-clause-place : goal.store-requires-clause-place
store-requires-clause-place c = let y = c.requires.can in place_there y.0 y.1 _ y.2 (place_meant c.in-Stores.place) (subst (λ e. Reaches y.0 (effect_meant c.args.self.now.registers.names e) y.1) c.in-Stores.is y.3.reaches)

pub store-requires-clause-flights : goal.store-requires-clause-flights
store-requires-clause-flights c = let y = c.requires.can in records_fit y.0 y.1 _ y.2 y.3.flights

pub allocate-requires-clause-number : goal.allocate-requires-clause-number
allocate-requires-clause-number c = let y = c.requires.can in number_there y.0 y.1 _ y.2 c.in-Allocates.number (subst (λ e. Reaches y.0 (effect_meant c.args.self.now.registers.names e) y.1) c.in-Allocates.is y.3.reaches).there

pub allocate-requires-clause-home : goal.allocate-requires-clause-home
allocate-requires-clause-home c = let y = c.requires.can in all_here y.0 y.1 _ y.2 c.in-Allocates.number (subst (λ e. Reaches y.0 (effect_meant c.args.self.now.registers.names e) y.1) c.in-Allocates.is y.3.reaches).home

pub allocate-requires-clause-sizes : goal.allocate-requires-clause-sizes
allocate-requires-clause-sizes c = let y = c.requires.can in (subst (λ e. Reaches y.0 (effect_meant c.args.self.now.registers.names e) y.1) c.in-Allocates.is y.3.reaches).sizes_fit

pub allocate-requires-clause-live : goal.allocate-requires-clause-live
allocate-requires-clause-live c = let y = c.requires.can in omega (arith, y.2.live, y.3.live)

pub release-requires : goal.release-requires
release-requires c = let y = c.requires.can in (subst (λ e. Reaches y.0 (effect_meant c.args.self.now.registers.names e) y.1) c.in-Releases.is y.3.reaches)

pub start-requires : goal.start-requires
start-requires c = let y = c.requires.can in (y.0, y.1, y.2, (subst (λ e. Reaches y.0 (effect_meant c.args.self.now.registers.names e) y.1) c.in-Starts.is y.3.reaches), y.3.flights)

pub wait-requires : goal.wait-requires
wait-requires c = let y = c.requires.can in (y.0, y.1, y.2, (subst (λ e. Reaches y.0 (effect_meant c.args.self.now.registers.names e) y.1) c.in-Waits.is y.3.reaches))

pub returns-in-Nothing-clause-follows : goal.returns-in-Nothing-clause-follows
unfolding act_on direct_step read
returns-in-Nothing-clause-follows c = λ rooms x t can. subst (λ e. Follows rooms (Ok tt) (act_on c.args.filler c.args.capacity (effect_meant c.args.self.now.registers.names e) x) c.args.self.now) (sym c.in-Nothing.is) (x, refl, t)

pub returns-in-Sets-clause-follows : goal.returns-in-Sets-clause-follows
unfolding act_on direct_step read
returns-in-Sets-clause-follows c = λ rooms x t can. subst (λ e. Follows rooms (Ok tt) (act_on c.args.filler c.args.capacity (effect_meant c.args.self.now.registers.names e) x) (record c.args.self.now { registers = c.keep.new.self })) (sym c.in-Sets.is) (_, refl, kept rooms x _ t (name_at c.args.self.now.registers.names c.in-Sets.into) c.in-Sets.value (record c.args.self.now { registers = c.keep.new.self }) (c.keep.ensures.values ∙ ap (put (values_of c.args.self.now.registers) (name_at c.args.self.now.registers.names c.in-Sets.into)) (to_z-of_z w64 c.in-Sets.value (search rules))) refl refl refl refl refl)

pub returns-in-Loads-clause-follows : goal.returns-in-Loads-clause-follows
unfolding act_on direct_step read
returns-in-Loads-clause-follows c = λ rooms x t can. subst (λ e. Follows rooms c.load.result (act_on c.args.filler c.args.capacity (effect_meant c.args.self.now.registers.names e) x) c.load.new.self) (sym c.in-Loads.is) (c.load.ensures.follows rooms x t (subst (λ e. Reaches rooms (effect_meant c.args.self.now.registers.names e) x) c.in-Loads.is can.reaches))

pub returns-in-Stores-clause-follows : goal.returns-in-Stores-clause-follows
unfolding act_on direct_step read
returns-in-Stores-clause-follows c = λ rooms x t can. subst (λ e. Follows rooms c.store.result (act_on c.args.filler c.args.capacity (effect_meant c.args.self.now.registers.names e) x) c.store.new.self) (sym c.in-Stores.is)
    (subst (λ z. Follows rooms c.store.result (store z (place_meant c.in-Stores.place) x) c.store.new.self) (to_z-of_z w64 c.in-Stores.value (search rules)) (c.store.ensures.follows rooms x t (subst (λ e. Reaches rooms (effect_meant c.args.self.now.registers.names e) x) c.in-Stores.is can.reaches)))

pub returns-in-Allocates-clause-follows : goal.returns-in-Allocates-clause-follows
unfolding act_on direct_step read
returns-in-Allocates-clause-follows c = λ rooms x t can. subst (λ e. Follows rooms c.allocate.result (act_on c.args.filler c.args.capacity (effect_meant c.args.self.now.registers.names e) x) c.allocate.new.self) (sym c.in-Allocates.is)
    (subst (λ z. Follows rooms c.allocate.result (allocate z c.args.capacity c.in-Allocates.number c.in-Allocates.element c.in-Allocates.sizes.now x) c.allocate.new.self) (to_z-of_z w64 c.args.filler (search rules)) (c.allocate.ensures.follows rooms x t (subst (λ e. Reaches rooms (effect_meant c.args.self.now.registers.names e) x) c.in-Allocates.is can.reaches).room))

pub returns-in-Releases-clause-follows : goal.returns-in-Releases-clause-follows
unfolding act_on direct_step read
returns-in-Releases-clause-follows c = λ rooms x t can. subst (λ e. Follows rooms c.release.result (act_on c.args.filler c.args.capacity (effect_meant c.args.self.now.registers.names e) x) c.release.new.self) (sym c.in-Releases.is) (c.release.ensures.follows rooms x t)

pub returns-in-ReleasesTags-clause-follows : goal.returns-in-ReleasesTags-clause-follows
unfolding act_on direct_step read
returns-in-ReleasesTags-clause-follows c = λ rooms x t can. subst (λ e. Follows rooms c.release_tags.result (act_on c.args.filler c.args.capacity (effect_meant c.args.self.now.registers.names e) x) c.release_tags.new.self) (sym c.in-ReleasesTags.is) (c.release_tags.ensures.follows rooms x t)

pub returns-in-Starts-clause-follows : goal.returns-in-Starts-clause-follows
unfolding act_on direct_step read
returns-in-Starts-clause-follows c = λ rooms x t can. subst (λ e. Follows rooms c.start.result (act_on c.args.filler c.args.capacity (effect_meant c.args.self.now.registers.names e) x) c.start.new.self) (sym c.in-Starts.is) (c.start.ensures.follows rooms x t (subst (λ e. Reaches rooms (effect_meant c.args.self.now.registers.names e) x) c.in-Starts.is can.reaches))

pub returns-in-Waits-clause-follows : goal.returns-in-Waits-clause-follows
unfolding act_on direct_step read
returns-in-Waits-clause-follows c = λ rooms x t can. subst (λ e. Follows rooms c.wait.result (act_on c.args.filler c.args.capacity (effect_meant c.args.self.now.registers.names e) x) c.wait.new.self) (sym c.in-Waits.is) (c.wait.ensures.follows rooms x t (subst (λ e. Reaches rooms (effect_meant c.args.self.now.registers.names e) x) c.in-Waits.is can.reaches))

pub returns-in-Faults-clause-follows : goal.returns-in-Faults-clause-follows
unfolding act_on direct_step read
returns-in-Faults-clause-follows c = λ rooms x t can. subst (λ e. Follows rooms (Err c.in-Faults.kind) (act_on c.args.filler c.args.capacity (effect_meant c.args.self.now.registers.names e) x) c.args.self.now) (sym c.in-Faults.is) (x, refl, t)
