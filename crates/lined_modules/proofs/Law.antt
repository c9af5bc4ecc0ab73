-- The laws, of modules.
use Rattle.std.proofs.Common.{◌≡◌, ℕ, refl, ap, ◌∙◌}
use Rattle.std.specs.Prelude.{None}
use Rattle.affine_ast.specs.declared.module.Module.{Module}
use Rattle.affine_ast.specs.Nest.{nest}
use Rattle.affine_ast.specs.PlainLimits.{PlainTold, FaultAt, Counted, plain_told, line_of_fault, plain_fault}
use Rattle.affine_ast.specs.Validity.{told, told_arguments, told_module, outside, broken_of, first_broken, IsValid}
use Rattle.valid_laws.proofs.SafeStart.{behind_arguments}
use Rattle.direct_meaning.specs.Actions.{actions}
use Rattle.direct_meaning.specs.Direct.{folded, direct_step, first_state, plain}
use Rattle.direct_meaning.specs.Memory.{start_env, module_actions}
use Rattle.placement_texts.proofs.StagedValid.{arguments_told}
use Rattle.placement_regions.proofs.Theorem.{opens}
use Rattle.printed_texts.proofs.Unnested.{stmts_of}
use Rattle.plan_laws.specs.Sites.{lined}
use Rattle.plan_laws.specs.Plan.{planned}
use Rattle.lined_modules.specs.Law.{IsLined, AllAreLined, LinesHaveNoPart}
use Rattle.lined_modules.proofs.Texts.{actions_lined, told_lined, counts_lined}
use Rattle.lined_modules.proofs.Trees.{tree_lined}
use Rattle.lined_modules.proofs.Plans.{planned_same}

pub all_are_lined : AllAreLined
all_are_lined m = record { module_ = record m { body = stmts_of (lined (nest m.body)) }; is = record { arguments = refl; body = tree_lined m.body } }

module _ (m m' : Module) (is : IsLined m m') where
  valid_lined : IsValid m → IsValid m'
  unfolding first_broken told_module
  valid_lined valid =
      let o = opens m valid in
      let n = lined (nest m.body) in
      let r = arguments_told m.args (nest m.body) n outside o.totals o.told_all in
      ap broken_of ((λ i. told_arguments (is.arguments i) (told (is.body i)) outside) ∙ r.1 ∙ told_lined (nest m.body) (behind_arguments m.args outside) o.totals r.0)

  counted : (x : PlainTold) → line_of_fault x ≡ None → (k : ℕ) × (x ≡ Counted k)
  counted (FaultAt line) h = absurd (let z : ⊥ = cc in z)
  counted (Counted k) h = (k, refl)

  plain_lined : plain_fault m ≡ None → plain_fault m' ≡ None
  unfolding plain_fault
  plain_lined h =
      let c = counted (plain_told (nest m.body) 0 0) h in
      ap line_of_fault (ap (λ n. plain_told n 0 0) is.body ∙ counts_lined (nest m.body) 0 0 c.0 c.1)

pub lines_have_no_part : LinesHaveNoPart
unfolding plain module_actions
lines_have_no_part m m' is = record {
  valid = valid_lined m m' is;
  may_be_staged = plain_lined m m' is;
  meaning = λ memory. ap (λ l. folded direct_step l (first_state memory)) ((λ i. actions (is.body i) (start_env (is.arguments i) memory.symbols)) ∙ actions_lined (nest m.body) (start_env m.args memory.symbols));
  steps = λ o. (λ i. (planned o (is.arguments i) (is.body i)).steps) ∙ planned_same o m.args (nest m.body);
}
