-- What `stage` writes spells a module that runs as the module that was read.
use Rattle.std.proofs.Common.{◌≡◌, ℕ, ◌+◌, ◌≤◌, ◌<◌, ◌^◌, Bool, true, false, List, ◌++◌, length, length-append, Option, None, refl, sym, ◌∙◌, ap, subst, inl, inr, arith}
use Rattle.std.specs.Prelude.{nat_lt}
use Rattle.std.proofs.lemmas.Bool.Decides.{nat_tests}
use Rattle.affine_ast.specs.declared.module.Module.{Module}
use Rattle.affine_ast.specs.PlainLimits.{plain_fault}
use Rattle.affine_ast.specs.Spelling.{spelling}
use Rattle.affine_ast.specs.Validity.{IsValid}
use Rattle.affine_grammar.specs.Spelling.{Spells}
use Rattle.plan_laws.specs.Plan.{plan}
use Rattle.source_parts.specs.Laws.{IsParted}
use Rattle.source_parts.specs.Parts.{text_part, image_part}
use Rattle.source_parts.proofs.Parting.{parts}
use Rattle.stage_output.specs.Law.{SpellsRunning, StageOutput}
use Rattle.stage_reports.specs.Law.{PlanIsComplete, ReportIsComments}
use Rattle.affine_driver.specs.declared.command.StageOptions.{StageOptions}
use Rattle.affine_driver.specs.declared.command.Command.TheVariants.{Stage}
use Rattle.affine_driver.specs.declared.ending.Ending.{Ending}
use Rattle.affine_driver.specs.declared.ending.Ending.TheVariants.{Done}
use Rattle.affine_driver.specs.declared.limits.TheConstants.{SOURCE_LIMIT}
use Rattle.affine_driver.specs.Behaviour.{Limited, Makes, IsOutput}
use Rattle.affine_driver.specs.Headline.{StagesRightly, StagedTextsRun, Decides}
use Rattle.affine_driver.specs.Outcome.{Writes, Demands, Gives}
use Rattle.affine_driver.specs.Output.{planning, IsStageOutput}
use Rattle.affine_driver.specs.Reading.{ComesBeforeWriting}
use Rattle.affine_driver.specs.Refusals.{BreaksRule}

-- report and printed text spell it
pub staged_texts_run : StageOutput → ReportIsComments → StagedTextsRun
staged_texts_run law comments options text source output short reads valid v13 is =
    let within : length text ≤ 4194304 = short in
    let few : length text < 2 ^ 64 = omega (arith, within) in
    let report = comments text source (plan (planning options) source) few reads in
    subst (SpellsRunning options.capacity source) (sym (is.text ∙ ap (λ x. x ++ spelling is.staged) report.is))
    (law (planning options) text source is.staged few reads valid v13 is.is report.comments report.each)

-- ---- What the call wrote

-- a text has no more bytes than its source
text_within : (source text image : List ℕ) → IsParted source text image → length text ≤ length source
text_within source text image (inl h) =
    let n : length source ≡ length text + length (h.mark ++ image) = ap length h.whole ∙ length-append text (h.mark ++ image) in
    omega (arith, n)
text_within source text image (inr h) = let n : length text ≡ length source = ap length h.whole in omega (arith, n)

-- what `stage` makes of a source that it writes an output of
record Made (options : StageOptions) (bytes output : List ℕ) : Type 0 where
  source : Module
  reads : Spells (text_part bytes) source
  valid : IsValid source
  may_be_staged : plain_fault source ≡ None
  is : IsStageOutput options source output

made_by : (options : StageOptions) (bytes output : List ℕ) → IsOutput (Stage options) bytes output → Made options bytes output
made_by options bytes output (inl h) = absurd (let e = h.1.1 in let z : ⊥ = cc in z)
made_by options bytes output (inr h) = valid h.0 h.1.0 h.1.1
  where
    limited : (source : Module) → Spells (text_part bytes) source → IsValid source → Limited source (Gives (IsStageOutput options source)) (Writes output) → Made options bytes output
    limited source reads v (inl h) = absurd (let e = h.1.1 in let z : ⊥ = cc in z)
    limited source reads v (inr h) = record { source = source; reads = reads; valid = v; may_be_staged = h.1.0; is = h.1.1 }

    valid : (source : Module) → Spells (text_part bytes) source → Demands {A = Unit {0}} (BreaksRule source) (λ holds. IsValid source) (λ holds. Makes (Stage options) source (image_part bytes)) (Writes output) → Made options bytes output
    valid source reads (inl h) = absurd (let e = h.1.1 in let z : ⊥ = cc in z)
    valid source reads (inr h) = limited source reads h.1.0 h.1.1

-- where `stage` is done, it staged rightly
pub stages_rightly : StagedTextsRun → PlanIsComplete → (options : StageOptions) (ending : Ending) (given left before now : Option (List ℕ)) → Decides SOURCE_LIMIT (Stage options) ending given left before now → ending ≡ Done
    → StagesRightly options given left before now
stages_rightly law complete options ending given left before now d is =
    let a = subst (λ e. Decides SOURCE_LIMIT (Stage options) e given left before now) is d in
    let bytes = a.answers.bytes in
    let w = a.answers.because in
    let m = made_by options bytes w.output w.is in
    let within : length bytes ≤ SOURCE_LIMIT = not_over (length bytes) (λ h. let e = a.answers.over.1 h in let z : ⊥ = cc in z) in
    let part = text_within bytes (text_part bytes) (image_part bytes) (parts bytes) in
    record {
      bytes = bytes;
      lost = a.answers.lost;
      whole = a.answers.whole tt;
      source = m.source;
      reads = m.reads;
      valid = m.valid;
      may_be_staged = m.may_be_staged;
      output = w.output;
      went = w.went;
      is = m.is;
      runs = law options (text_part bytes) m.source w.output (let w : length bytes ≤ 4194304 = within in omega (arith, w, part)) m.reads m.valid m.may_be_staged m.is;
      decided = complete (planning options) m.source;
    }
  where
    not_over : (n : ℕ) → (SOURCE_LIMIT < n → ⊥) → n ≤ SOURCE_LIMIT
    not_over n h = by (nat_lt 4194304 n) refl
      where
        by : (t : Bool) → nat_lt 4194304 n ≡ t → n ≤ 4194304
        by true e = absurd (h (grind (arith, nat_tests, e)))
        by false e = grind (arith, nat_tests, e)

-- before any writing nothing is done
pub not_early : (ending : Ending) → ComesBeforeWriting ending → ending ≡ Done → ⊥
not_early ending early is = subst ComesBeforeWriting is early

pub no_bool : true ≡ false → ⊥
no_bool e = grind arith
