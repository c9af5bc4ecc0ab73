use Rattle.std.proofs.Common.{rules, ◌≡◌, ◌++◌, ◌∷◌, [], length, take, sym, ap, ◌∙◌, arith}
use Rattle.std.proofs.lemmas.List.{length-take}
use Rattle.std.proofs.lemmas.Int.{to_z-of_z}
use mir.Val.{SFits}
use mir.Syntax.{w64}
use Rattle.walk_actions.specs.Looked.{numbers_at}
use Rattle.walk_actions.proofs.Tables.{numbers_none, numbers_more, numbers_all, numbers_length}
use Rattle.walk_actions.proofs.environment.Environment.numbers.Goals as goal

pub loop-name-init : goal.loop-name-init
loop-name-init c = record {
  values = c.clear.ensures.items ∙ sym (numbers_none c.args.self.now);
  capacity = c.clear.ensures.capacity;
}

pub push_reserved-requires : goal.push_reserved-requires
push_reserved-requires c =
    let done = ap length c.loop-name.invariant.values ∙ numbers_length c.args.self.now (take c.loop-name.name-index c.args.names.now) in
    omega (arith, done, length-take c.loop-name.name-index c.args.names.now, c.requires.names.short, c.loop-name.invariant.capacity, c.loop-name.room.ok.0)

pub loop-name-preserved : goal.loop-name-preserved
loop-name-preserved c =
    let f : SFits w64 c.number.result = search rules in
    let pushed = (simp to_z-of_z at c.push_reserved.ensures.items) in
    record {
      values = pushed
          ∙ (λ i. c.loop-name.invariant.values i ++ c.number.ensures i ∷ [])
          ∙ numbers_more c.args.self.now c.args.names.now c.loop-name.name-index (omega arith);
      capacity = c.push_reserved.ensures.capacity ∙ c.loop-name.invariant.capacity;
    }

pub returns-clause-values : goal.returns-clause-values
returns-clause-values c =
    c.loop-name.invariant.values
    ∙ (let end : c.loop-name.name-index ≡ length c.args.names.now = omega arith in ap (λ k. numbers_at c.args.self.now (take k c.args.names.now)) end)
    ∙ numbers_all c.args.self.now c.args.names.now
