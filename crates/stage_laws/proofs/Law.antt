-- The law, from those of the plan, of subscripts and of numbers.
use Rattle.std.proofs.Common.{◌≡◌, sym, ◌∙◌, subst}
use Rattle.affine_ast.specs.declared.image.Image.{Image}
use Rattle.affine_ast.specs.declared.module.Module.{Module}
use Rattle.bus_model.specs.declared.step.FaultKind.{FaultKind}
use Rattle.bus_model.specs.declared.step.Verdict.TheVariants as verdict
use Rattle.direct_meaning.specs.Direct.{Outcome, State, End, Fault, plain}
use Rattle.direct_meaning.specs.Memory.{FitsArgs, Fits}
use Rattle.prompt_semantics.specs.Device.{Device}
use Rattle.prompt_semantics.specs.Prompt.{prompt, prompt_verdict, prompt_slow}
use Rattle.box_run_laws.specs.Law.{Agrees}
use Rattle.normal_texts.proofs.Texts.{normal_is_the_same}
use Rattle.numbered_names.proofs.Laws.{numbered_valid, numbered_runs, numbered_fits}
use Rattle.plan_theorem.proofs.Theorem.{plan_runs}
use Rattle.stage_laws.specs.Law.{StageRuns, TextsStage}
use Rattle.stage_laws.proofs.Written.{is_written}

same_kind : (k j : FaultKind) → verdict.Fault k ≡ verdict.Fault j → k ≡ j
same_kind k j h = cc

-- with the same verdict and the same slow memory
agrees_with : (x : Outcome State) (y z : Outcome Device) → Agrees x y → prompt_verdict z ≡ prompt_verdict y → prompt_slow z ≡ prompt_slow y → Agrees x z
agrees_with (End s) (End y) (End z) h v m = h ∙ sym m
agrees_with (End s) (End y) (Fault k z) h v m = absurd (let c : ⊥ = cc in c)
agrees_with (End s) (Fault k y) z h v m = absurd h
agrees_with (Fault k s) (End y) z h v m = absurd h
agrees_with (Fault k s) (Fault j y) (End z) h v m = absurd (let c : ⊥ = cc in c)
agrees_with (Fault k s) (Fault j y) (Fault i z) h v m = h ∙ sym (same_kind i j v)

pub stage_runs : StageRuns
stage_runs o m q valid v13 written is =
    let p = plan_runs o m is.placed valid v13 written is.is_placed in
    let ordered : Module = record is.ordered { name = m.name } in
    let n = normal_is_the_same is.placed ordered p.valid (record { arguments = is.is_ordered.arguments; body = is.is_ordered.body }) in
    let args = is.is_ordered.arguments ∙ is.is_placed.arguments in
    let fits : (memory : Image) → Fits m memory → Fits ordered memory = λ memory f. record { fits = subst (λ a. FitsArgs a memory.memrefs memory.symbols) (sym args) f.fits } in
    record {
      valid = numbered_valid ordered q is.is_numbered n.valid;
      fits = λ memory f. numbered_fits ordered q is.is_numbered memory (fits memory f);
      runs = λ memory f filler.
          let r = numbered_runs ordered q is.is_numbered n.valid memory (fits memory f) filler o.capacity in
          agrees_with (plain m memory) (prompt ordered memory filler o.capacity) (prompt q memory filler o.capacity) (subst (Agrees (plain m memory)) (sym (n.runs memory filler o.capacity)) (p.runs memory f filler)) r.0 r.1;
    }

pub texts_stage : TextsStage
texts_stage o source m q short spells valid v13 is = stage_runs o m q valid v13 (is_written source m short spells v13) is
