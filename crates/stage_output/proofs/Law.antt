-- The laws, from those of stages, of printed texts and of all orders.
use Rattle.std.proofs.Common.{◌≡◌, map, refl, sym, ap, ◌∙◌, subst}
use Rattle.affine_ast.specs.declared.image.Image.{Image}
use Rattle.affine_ast.specs.declared.module.Module.{Module}
use Rattle.direct_meaning.specs.Direct.{plain}
use Rattle.direct_meaning.specs.Memory.{FitsArgs, Fits}
use Rattle.nest_domain.specs.declared.plan.Options.{Options}
use Rattle.numbered_names.specs.Numbers.{numbered_name, numbered_arg, value_names}
use Rattle.printed_texts.specs.Lines.{unlined_argument}
use Rattle.prompt_semantics.specs.Prompt.{prompt}
use Rattle.box_run_laws.specs.Law.{Agrees}
use Rattle.stage_laws.specs.Law.{IsStageOf}
use Rattle.stage_laws.proofs.Law.{texts_stage}
use Rattle.stage_laws.proofs.Written.{is_written, may_be_written}
use Rattle.stage_numbers.proofs.Written.{stage_spelled}
use Rattle.stage_output.specs.Law.{StagesRun, StageOutput, LinesChangeNothing}
use Rattle.stage_output.proofs.Lines.{valid_alike, prompt_alike}
use Rattle.stage_output.proofs.Runs.{agrees_by, runs_direct, fits_under, fits_back}

-- ---- lines
fits_alike : (m n : Module) → map unlined_argument m.args ≡ map unlined_argument n.args → (memory : Image) → Fits m memory → Fits n memory
fits_alike m n args memory f = record {
  fits =
      fits_back unlined_argument (λ a. refl) n.args memory.memrefs memory.symbols
      (subst (λ args. FitsArgs args memory.memrefs memory.symbols) args (fits_under unlined_argument (λ a. refl) m.args memory.memrefs memory.symbols f.fits));
}

pub lines_change_nothing : LinesChangeNothing
lines_change_nothing capacity source staged other same runs =
    let valid = valid_alike staged other same runs.valid in
    let fits = λ (memory : Image) (f : Fits source memory). fits_alike staged other same.args memory (runs.fits memory f) in
    record {
      valid = valid;
      fits = fits;
      fits_only = λ memory f. runs.fits_only memory (fits_alike other staged (sym same.args) memory f);
      runs = λ memory f filler.
          let r = runs.runs memory f filler in
          let agrees = agrees_by (plain source memory) (prompt staged memory filler capacity) r.verdict_is r.memory_is in
          runs_direct capacity source other memory filler (subst (Agrees (plain source memory)) (prompt_alike staged other same memory filler capacity) agrees) valid (fits memory f);
    }

-- ---- stages
fits_source : (o : Options) (m q : Module) → IsStageOf o m q → (memory : Image) → Fits q memory → Fits m memory
fits_source o m q is memory f =
    let ordered : Module = record is.ordered { name = m.name } in
    let change = numbered_arg (numbered_name is.is_numbered.underscore_count (value_names ordered)) in
    let args : q.args ≡ map change m.args = is.is_numbered.args ∙ ap (map change) (is.is_ordered.arguments ∙ is.is_placed.arguments) in
    record { fits = fits_back change (λ a. refl) m.args memory.memrefs memory.symbols (subst (λ args. FitsArgs args memory.memrefs memory.symbols) args f.fits) }

pub stages_run : StagesRun
stages_run o text source staged short spells valid v13 is =
    let r = texts_stage o text source staged short spells valid v13 is in
    record {
      valid = r.valid;
      fits = r.fits;
      fits_only = fits_source o source staged is;
      runs = λ memory f filler. runs_direct o.capacity source staged memory filler (r.runs memory f filler) r.valid (r.fits memory f);
    }

pub stage_output : StageOutput
stage_output o text source staged short spells valid v13 is comments lines =
    let again = stage_spelled o source staged valid v13 (is_written text source short spells v13) (may_be_written text source short spells v13) is comments lines in
    record {
      staged = again.printed;
      spelled = again.spelled;
      runs = lines_change_nothing o.capacity source staged again.printed again.same (stages_run o text source staged short spells valid v13 is);
    }
