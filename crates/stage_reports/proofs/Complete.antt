-- Each memref of each block has its decision.
use Rattle.std.proofs.Common.{◌≡◌, List, [], ◌∷◌, ◌++◌, map, append-nil, sym, ◌∙◌, ap}
use Rattle.std.specs.Prelude.{fold}
use Rattle.std.proofs.lemmas.List.{map-append, append_assoc}
use Rattle.affine_ast.specs.declared.module.Arg.{Arg}
use Rattle.affine_ast.specs.Nest.{Nest, nest}
use Rattle.nest_domain.specs.declared.plan.Options.{Options}
use Rattle.plan_laws.specs.Plan.{Asked, Planned, type_of, settled, decision, decided, asked, planned}
use Rattle.stage_reports.specs.Law.{PlanIsComplete, decided_of, asked_of}

module _ (o : Options) (args : List Arg) (n : Nest) where
  all_decided : (as_ : List Asked) (so : Planned) → map decided_of (fold (decided o args n) so as_).decisions ≡ map decided_of so.decisions ++ map (asked_of args) as_
  all_decided [] so = sym (append-nil (map decided_of so.decisions))
  all_decided (a ∷ as_) so =
      let y = settled o args n so.steps a.memref a.at (type_of args a.memref) in
      all_decided as_ (decided o args n so a)
      ∙ ap (λ xs. xs ++ map (asked_of args) as_) (map-append decided_of so.decisions (decision o args n a y ∷ []))
      ∙ append_assoc (map decided_of so.decisions) (asked_of args a ∷ []) (map (asked_of args) as_)

  planned_all : map decided_of (planned o args n).decisions ≡ map (asked_of args) (asked o args n)
  unfolding planned
  planned_all = all_decided (asked o args n) (record { steps = []; decisions = [] })

pub complete : PlanIsComplete
complete o m = planned_all o m.args (nest m.body)
