-- The law, from that of the live bytes and that of the peak.
use Rattle.std.proofs.Common.{◌≡◌, ℕ, ◌+◌, ◌≤◌, ℤ, sym, ◌∙◌, subst, arith}
use Rattle.affine_ast.specs.declared.image.Image.{Image}
use Rattle.affine_ast.specs.declared.module.Module.{Module}
use Rattle.direct_meaning.specs.Direct.{plain}
use Rattle.direct_meaning.specs.Memory.{FitsArgs, Fits, module_actions}
use Rattle.prompt_semantics.specs.Prompt.{prompt}
use Rattle.box_run_laws.specs.Law.{Agrees}
use Rattle.box_run_laws.specs.Roomy.{most_live}
use Rattle.peak_laws.specs.Peak.{peak}
use Rattle.peak_laws.proofs.Law.{valid_runs}
use Rattle.plan_validity.proofs.Pass.{planned_is_valid, planned_agrees}
use Rattle.staging_theorem.specs.Law.{StagedRuns}

pub staged_runs : StagedRuns
staged_runs m q valid v13 memory fits made_by dma xs plan is filler capacity room =
    let q_valid = planned_is_valid m q valid memory.symbols made_by dma xs plan is in
    let q_fits : Fits q memory = record { fits = subst (λ args. FitsArgs args memory.memrefs memory.symbols) (sym is.arguments) fits.fits } in
    let live = most_live (module_actions q memory.symbols) 0 in
    let big = live + peak q in
    let here = (valid_runs q q_valid memory q_fits filler capacity).same room in
    let there = (valid_runs q q_valid memory q_fits filler big).same (more live (peak q)) in
    subst (Agrees (plain m memory)) (there ∙ sym here) (planned_agrees m q valid v13 memory fits made_by dma xs plan is filler big (less live (peak q)))
  where
    more : (a b : ℕ) → b ≤ a + b
    more a b = omega arith

    less : (a b : ℕ) → a ≤ a + b
    less a b = omega arith
