use Rattle.std.proofs.Common.{rules, w64, sym, subst}
use Rattle.std.specs.Prelude.{Ok, Err}
use Rattle.std.proofs.lemmas.Int.{to_z-of_z}
use Rattle.run_parts.specs.declared.effect.Effect.TheVariants as effect
use Rattle.overlap_runner.proofs.Taken.{Acts, nothing, faults}
use Rattle.overlap_runner.proofs.device.Device.act.Goals as goal

pub returns-in-Nothing-clause-follows : goal.returns-in-Nothing-clause-follows
returns-in-Nothing-clause-follows g c =
    subst (λ x. Acts c.args.bus.now c.args.self.now.filler c.args.self.now.capacity c.args.self.now x (Ok tt) c.args.self.now) (sym c.in-Nothing.is)
    (λ rooms shape y k. nothing c.args.bus.now rooms shape c.args.self.now y c.args.self.now.filler c.args.self.now.capacity k.at)

pub returns-in-Sets-clause-follows : goal.returns-in-Sets-clause-follows
returns-in-Sets-clause-follows g c =
    subst (λ x. Acts c.args.bus.now c.args.self.now.filler c.args.self.now.capacity c.args.self.now x (Ok tt) c.set.new.self) (sym c.in-Sets.is)
    (subst (λ v. Acts c.args.bus.now c.args.self.now.filler c.args.self.now.capacity c.args.self.now (effect.Sets c.in-Sets.into v) (Ok tt) c.set.new.self) (to_z-of_z w64 c.in-Sets.value (search rules)) c.set.ensures.follows)

pub returns-in-Loads-clause-follows : goal.returns-in-Loads-clause-follows
returns-in-Loads-clause-follows g c =
    subst (λ x. Acts c.args.bus.now c.args.self.now.filler c.args.self.now.capacity c.args.self.now x c.load.result c.load.new.self) (sym c.in-Loads.is)
    c.load.ensures.follows

pub returns-in-Stores-clause-follows : goal.returns-in-Stores-clause-follows
returns-in-Stores-clause-follows g c =
    subst (λ x. Acts c.args.bus.now c.args.self.now.filler c.args.self.now.capacity c.args.self.now x c.store.result c.store.new.self) (sym c.in-Stores.is)
    (subst (λ v. Acts c.args.bus.now c.args.self.now.filler c.args.self.now.capacity c.args.self.now (effect.Stores v c.in-Stores.place) c.store.result c.store.new.self) (to_z-of_z w64 c.in-Stores.value (search rules)) c.store.ensures.follows)

pub returns-in-Allocates-clause-follows : goal.returns-in-Allocates-clause-follows
returns-in-Allocates-clause-follows g c =
    subst (λ x. Acts c.args.bus.now c.args.self.now.filler c.args.self.now.capacity c.args.self.now x c.allocate.result c.allocate.new.self) (sym c.in-Allocates.is)
    c.allocate.ensures.follows

pub returns-in-Releases-clause-follows : goal.returns-in-Releases-clause-follows
returns-in-Releases-clause-follows g c =
    subst (λ x. Acts c.args.bus.now c.args.self.now.filler c.args.self.now.capacity c.args.self.now x c.release.result c.release.new.self) (sym c.in-Releases.is)
    c.release.ensures.follows

pub returns-in-ReleasesTags-clause-follows : goal.returns-in-ReleasesTags-clause-follows
returns-in-ReleasesTags-clause-follows g c =
    subst (λ x. Acts c.args.bus.now c.args.self.now.filler c.args.self.now.capacity c.args.self.now x c.release_tags.result c.release_tags.new.self) (sym c.in-ReleasesTags.is)
    c.release_tags.ensures.follows

pub returns-in-Starts-clause-follows : goal.returns-in-Starts-clause-follows
returns-in-Starts-clause-follows g c =
    subst (λ x. Acts c.args.bus.now c.args.self.now.filler c.args.self.now.capacity c.args.self.now x c.start.result c.start.new.self) (sym c.in-Starts.is)
    c.start.ensures.follows

pub returns-in-Waits-clause-follows : goal.returns-in-Waits-clause-follows
returns-in-Waits-clause-follows g c =
    subst (λ x. Acts c.args.bus.now c.args.self.now.filler c.args.self.now.capacity c.args.self.now x c.wait.result c.wait.new.self) (sym c.in-Waits.is)
    c.wait.ensures.follows

pub returns-in-Faults-clause-follows : goal.returns-in-Faults-clause-follows
returns-in-Faults-clause-follows g c =
    subst (λ x. Acts c.args.bus.now c.args.self.now.filler c.args.self.now.capacity c.args.self.now x (Err c.in-Faults.kind) c.args.self.now) (sym c.in-Faults.is)
    (λ rooms shape y k. faults c.args.bus.now rooms shape c.args.self.now y c.args.self.now.filler c.args.self.now.capacity c.in-Faults.kind k.at)
