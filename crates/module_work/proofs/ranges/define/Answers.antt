use Rattle.std.specs.Prelude.{Result, Ok, Err, OnOk}
use Rattle.affine_expr.specs.Bounded.{range_at}
use Rattle.module_work.specs.Table.{ranges_of}
use Rattle.module_work.proofs.Tables.{kept_one}
use Rattle.module_work.proofs.ranges.define.Goals as goal

on_ok : {E : Type 0} {P Q : Type 0} (r : Result (Unit {0}) E) → (P → Q) → OnOk r P → OnOk r Q
on_ok (Ok done) f h = f h
on_ok (Err e) f h = tt

pub returns-clause-kept : goal.returns-clause-kept
returns-clause-kept c =
    on_ok c.set.result (λ is. kept_one c.args.before.now.items c.push.new.self.items (record { name = c.args.name; interval = c.range_of.result }) (ranges_of c.args.ranges.now.entries) (ranges_of c.set.new.ranges.entries) (range_at c.args.interval)
    c.in_ok-push.ensures.items c.range_of.ensures is) c.set.ensures
