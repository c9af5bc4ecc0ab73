-- The run of a module.
use Rattle.std.proofs.Common.{◌≡◌, ℤ, List, sym, ap, ◌∙◌, subst}
use Rattle.std.specs.Prelude.{None}
use Rattle.affine_ast.specs.declared.image.Cells.{Cells}
use Rattle.affine_ast.specs.declared.image.Image.{Image}
use Rattle.affine_ast.specs.declared.module.Arg.{Arg}
use Rattle.affine_ast.specs.declared.module.Module.{Module}
use Rattle.affine_ast.specs.Nest.{Nest, nest}
use Rattle.affine_ast.specs.PlainLimits.{plain_fault}
use Rattle.affine_ast.specs.Validity.{IsValid}
use Rattle.bus_model.specs.declared.step.Verdict.{Verdict}
use Rattle.direct_meaning.specs.Action.{Action}
use Rattle.direct_meaning.specs.Actions.{actions}
use Rattle.direct_meaning.specs.Direct.{State, first_state, folded, direct_step, plain, verdict_of, state_of}
use Rattle.direct_meaning.specs.Memory.{Fits, start_env, module_actions}
use Rattle.valid_laws.specs.Safe.{SafeNest}
use Rattle.valid_laws.proofs.SafeStart.{valid_safe}
use Rattle.run_laws.specs.CanRun.{CanRun}
use Rattle.run_laws.specs.StaysFitting.{refilled}
use Rattle.run_laws.proofs.Conclusions.{can_run, stays_fitting}
use Rattle.nest_meaning.specs.Takes.{Ends, RunsPlain}

-- a module, as it was found, that may be run from a memory
module _ (m found : Module) (memory : Image) (is : found ≡ m) (valid : IsValid found) (without : plain_fault m ≡ None) (fits : Fits m memory) where
  found_fits : Fits found memory
  found_fits = subst (λ x. Fits x memory) (sym is) fits

  module _ (n : Nest) (args : List Arg) (symbols : List ℤ) (body : n ≡ nest found.body) (arguments : args ≡ found.args) (numbers : symbols ≡ memory.symbols) where
    pub safe : SafeNest n (start_env args symbols)
    safe =
        subst (λ n. SafeNest n (start_env args symbols)) (sym body) (subst (λ as'. SafeNest (nest found.body) (start_env as' symbols)) (sym arguments) (subst (λ zs. SafeNest (nest found.body) (start_env found.args zs)) (sym numbers)
        (valid_safe found valid memory found_fits)))

    module _ (left : List Action) (s : State) (all : left ≡ actions n (start_env args symbols)) (start : s ≡ first_state memory) where
      left_is : left ≡ module_actions m memory.symbols
      unfolding module_actions
      left_is = all ∙ (λ i. actions (body i) (start_env (arguments i) (numbers i))) ∙ ap (λ (x : Module). actions (nest x.body) (start_env x.args memory.symbols)) is

      pub may_run : CanRun left s
      may_run =
          subst (λ xs. CanRun xs s) (sym left_is) (subst (CanRun (module_actions m memory.symbols)) (sym start)
          (can_run m (subst IsValid is valid) without memory fits).runs)

      pub run_is : folded direct_step left s ≡ plain m memory
      unfolding plain
      run_is = (λ i. folded direct_step (left_is i) (start i))

      module _ (verdict : Verdict) (end : State) (ends : Ends verdict (folded direct_step left s) end) (cells : List Cells) (after : cells ≡ refilled memory.memrefs end.slow) where
        pub runs : RunsPlain m memory verdict (record { memrefs = cells; symbols = memory.symbols })
        runs = record {
          verdict_is = ends.verdict_is ∙ ap verdict_of run_is;
          memory_is = λ i. record { memrefs = (after ∙ ap (λ (t : State). refilled memory.memrefs t.slow) (ends.state_is ∙ ap state_of run_is)) i; symbols = memory.symbols };
        }

        pub fits_after : Fits m (record { memrefs = cells; symbols = memory.symbols })
        fits_after = subst (Fits m) (sym runs.memory_is) (stays_fitting m (subst IsValid is valid) without memory fits).fits
