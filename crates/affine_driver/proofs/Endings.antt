-- A source decides how it is answered.
use Rattle.std.proofs.Common.{◌≡◌, ℕ, ◌≤◌, List, ◌++◌, Bool, true, false, Option, Some, None, refl, sym, ◌∙◌, ap, subst, inl, inr, arith}
use Rattle.std.specs.Prelude.{◌⊎◌}
use Rattle.affine_ast.specs.declared.image.Image as ast
use Rattle.affine_ast.specs.declared.module.Module.{Module}
use Rattle.affine_ast.specs.Validity.{IsValid}
use Rattle.affine_ast.specs.PlainLimits.{plain_fault}
use Rattle.affine_ast.specs.Spelling.{spelling}
use Rattle.affine_grammar.specs.Spelling.{Spells, IsRefused}
use Rattle.bus_model.specs.declared.step.FaultKind.{FaultKind}
use Rattle.bus_model.specs.declared.step.Verdict.{Verdict}
use Rattle.bus_model.specs.declared.step.Verdict.TheVariants as verdict
use Rattle.direct_meaning.specs.Direct.{plain, verdict_of}
use Rattle.direct_meaning.specs.Work.{work}
use Rattle.prompt_semantics.specs.Prompt.{prompt_verdict, prompt_slow}
use Rattle.run_laws.specs.StaysFitting.{with_slow}
use Rattle.mem_image.specs.Images as image
use Rattle.mem_image.specs.Laws.{SpellsOne, BreaksOne, NotBoth}
use Rattle.order_meaning.specs.Listed.{ListsOne}
use Rattle.module_regions.specs.Lines.{regions_text}
use Rattle.plan_laws.specs.Plan.{plan}
use Rattle.plan_report.specs.Report.{report}
use Rattle.source_parts.specs.Parts.{text_part, image_part}
use Rattle.stage_laws.specs.Law.{IsStageOf}
use Rattle.stage_reports.specs.Law.{HasOneStage}
use Rattle.affine_driver.specs.declared.command.Command.{Command}
use Rattle.affine_driver.specs.declared.command.OrderOptions.{OrderOptions}
use Rattle.affine_driver.specs.declared.command.StageOptions.{StageOptions}
use Rattle.affine_driver.specs.declared.command.Command.TheVariants.{Check, Regions, Stage, Plain, Run, Order, Both}
use Rattle.affine_driver.specs.declared.ending.Ending.{Ending}
use Rattle.affine_driver.specs.declared.ending.Ending.TheVariants as end
use Rattle.affine_driver.specs.declared.refusal.Refusal.{Refusal}
use Rattle.affine_driver.specs.declared.refusal.Refusal.TheVariants.{Text, Invalid, Image, Turns, Fault, Memory}
use Rattle.affine_driver.specs.Behaviour.{Limited, StagedFrom, WithImage, EndsWithin, RunsToEnd, Makes, ComesTo, Refuses, Completes}
use Rattle.affine_driver.specs.Laws.{IsOpen, IsBuilt, EndingsAreExact, HasOneOutput}
use Rattle.affine_driver.specs.Outcome.{Outcome, Refused, Complete, Writes, Demands, Gives}
use Rattle.affine_driver.specs.Output.{planning, prompted, order_text, IsStageOutput, IsPlainOutput, IsRunOutput, IsBothOutput, IsOrderOutput}
use Rattle.affine_driver.specs.Reading.{Because}
use Rattle.affine_driver.proofs.Orders.{same_numbers}
use Rattle.affine_driver.specs.Refusals.{ending_of, SpellsNone, BreaksRule, BreaksLimits, SpellsNoImage, work_limit, IsTooMuch, StopsAt, OrMemory}

-- ---- Some values differ

some_of : {A : Type 0} → A → Option A → A
some_of d None = d
some_of d (Some x) = x

same_some : {A : Type 0} (x y : A) → Some x ≡ Some y → x ≡ y
unfolding some_of
same_some x y e = ap (some_of x) e

is_some : {A : Type 0} → Option A → Bool
is_some None = false
is_some (Some x) = true

not_none : {A : Type 0} (x : A) → Some x ≡ None → ⊥
unfolding is_some
not_none x e = let h : true ≡ false = ap is_some e in absurd (grind arith)

kind_of : FaultKind → Verdict → FaultKind
kind_of d verdict.End = d
kind_of d (verdict.Fault kind) = kind

same_kind : (k j : FaultKind) → verdict.Fault k ≡ verdict.Fault j → k ≡ j
unfolding kind_of
same_kind k j e = ap (kind_of k) e

is_fault : Verdict → Bool
is_fault verdict.End = false
is_fault (verdict.Fault kind) = true

not_end : (k : FaultKind) → verdict.Fault k ≡ verdict.End → ⊥
unfolding is_fault
not_end k e = let h : true ≡ false = ap is_fault e in absurd (grind arith)

same_unit : (x y : Unit {0}) → x ≡ y
same_unit x y = refl

-- ---- There is one outcome

-- two outcomes tell the same refusal, or no two outputs
abbrev pub Agree : Outcome → Outcome → Type 0
Agree (Refused r) (Refused s) = r ≡ s
Agree (Refused r) Complete = ⊥
Agree (Refused r) (Writes p) = ⊥
Agree Complete (Refused s) = ⊥
Agree Complete Complete = Unit {0}
Agree Complete (Writes p) = Unit {0}
Agree (Writes o) (Refused s) = ⊥
Agree (Writes o) Complete = Unit {0}
Agree (Writes o) (Writes p) = o ≡ p

abbrev pub Once : (Outcome → Type 0) → Type 0
Once R = (a b : Outcome) → R a → R b → Agree a b

-- a demand is decided: one refusal where it fails, one value where it holds, and never both
pub record Decided {A : Type 0} (Fails : Refusal → Type 0) (Holds : A → Type 0) : Type 0 where
  pub one : (r s : Refusal) → Fails r → Fails s → r ≡ s
  pub same : (x y : A) → Holds x → Holds y → x ≡ y
  pub both : (r : Refusal) (x : A) → Fails r → Holds x → ⊥

demanded : {A : Type 0} (Fails : Refusal → Type 0) (Holds : A → Type 0) (Behind : A → Outcome → Type 0) → Decided Fails Holds → ((x : A) → Once (Behind x)) → Once (Demands Fails Holds Behind)
demanded Fails Holds Behind d rest a b (inl h) (inl k) = subst (λ x. Agree x b) (sym h.1.1) (subst (λ y. Agree (Refused h.0) y) (sym k.1.1) (d.one h.0 k.0 h.1.0 k.1.0))
demanded Fails Holds Behind d rest a b (inl h) (inr k) = absurd (d.both h.0 k.0 h.1.0 k.1.0)
demanded Fails Holds Behind d rest a b (inr h) (inl k) = absurd (d.both k.0 h.0 k.1.0 h.1.0)
demanded Fails Holds Behind d rest a b (inr h) (inr k) = rest k.0 a b (subst (λ x. Behind x a) (d.same h.0 k.0 h.1.0 k.1.0) h.1.1) k.1.1

given : (Kind : List ℕ → Type 0) → ((output other : List ℕ) → Kind output → Kind other → output ≡ other) → Once (Gives Kind)
given Kind one (Refused r) b h k = absurd h
given Kind one Complete (Refused s) h k = absurd k
given Kind one Complete Complete h k = tt
given Kind one Complete (Writes p) h k = tt
given Kind one (Writes o) (Refused s) h k = absurd k
given Kind one (Writes o) Complete h k = tt
given Kind one (Writes o) (Writes p) h k = one o p h k

-- what is known of image texts
pub record ImageLaws : Type 0 where
  pub spells : SpellsOne
  pub breaks : BreaksOne
  pub both : NotBoth

-- what is known of texts
pub record TextLaws : Type 0 where
  pub one_module : (source : List ℕ) (m n : Module) → Spells source m → Spells source n → m ≡ n
  pub no_place : (source : List ℕ) (m : Module) (line column : ℕ) → Spells source m → IsRefused source line column → ⊥
  pub one_place : (source : List ℕ) (line column line2 column2 : ℕ) → IsRefused source line column → IsRefused source line2 column2 → (line ≡ line2) × (column ≡ column2)

-- what is known of what commands read
pub record Known : Type 0 where
  pub texts : TextLaws
  pub images : ImageLaws
  pub lists : ListsOne
  pub stages : HasOneStage

text_decided : TextLaws → (text : List ℕ) → Decided (SpellsNone text) (Spells text)
text_decided laws text = record {
  one = λ r s h k. let e = laws.one_place text h.0 h.1.0 k.0 k.1.0 h.1.1.0 k.1.1.0 in
      h.1.1.1 ∙ ap (λ x. Text x h.1.0) e.0 ∙ ap (λ x. Text k.0 x) e.1 ∙ sym k.1.1.1;
  same = λ x y h k. laws.one_module text x y h k;
  both = λ r x h k. laws.no_place text x h.0 h.1.0 k h.1.1.0;
}

rules_decided : (input : Module) → Decided {A = Unit {0}} (BreaksRule input) (λ holds. IsValid input)
rules_decided input = record {
  one = λ r s h k. h.1.1.1 ∙ ap (λ p. Invalid p.0 p.1) (same_some (h.0, h.1.0) (k.0, k.1.0) (sym h.1.1.0 ∙ k.1.1.0)) ∙ sym k.1.1.1;
  same = λ x y h k. same_unit x y;
  both = λ r x h k. not_none (h.0, h.1.0) (sym h.1.1.0 ∙ k);
}

limits_decided : (input : Module) → Decided {A = Unit {0}} (BreaksLimits input) (λ holds. plain_fault input ≡ None)
limits_decided input = record {
  one = λ r s h k. h.1.1 ∙ ap (λ x. Invalid x 13) (same_some h.0 k.0 (sym h.1.0 ∙ k.1.0)) ∙ sym k.1.1;
  same = λ x y h k. same_unit x y;
  both = λ r x h k. not_none h.0 (sym h.1.0 ∙ k);
}

-- a module has one stage, so nothing is refused for it
stage_decided : HasOneStage → (options : StageOptions) (input : Module) → Decided (λ refusal. ⊥) (IsStageOf (planning options) input)
stage_decided one options input = record {
  one = λ r s h k. absurd h;
  same = λ x y h k. one (planning options) input x y h k;
  both = λ r x h k. h;
}

image_decided : ImageLaws → (text : List ℕ) (input : Module) → Decided (SpellsNoImage text input) (image.Spells text input)
image_decided laws text input = record {
  one = λ r s h k. let e = laws.breaks text input h.0 h.1.0 k.0 k.1.0 h.1.1.0 k.1.1.0 in
      h.1.1.1 ∙ ap (λ x. Image x h.1.0) e.0 ∙ ap (λ x. Image k.0 x) e.1 ∙ sym k.1.1.1;
  same = λ x y h k. laws.spells text input x y h k;
  both = λ r x h k. laws.both text input x h.0 h.1.0 k h.1.1.0;
}

work_decided : (input : Module) → Decided {A = Unit {0}} (IsTooMuch input) (λ holds. work input ≤ work_limit)
work_decided input = record {
  one = λ r s h k. h.1 ∙ sym k.1;
  same = λ x y h k. same_unit x y;
  both = λ r x h k. let a = h.0 in omega (arith, a, k);
}

run_decided : (run : Verdict) → Decided {A = Unit {0}} (StopsAt run) (λ holds. run ≡ verdict.End)
run_decided run = record {
  one = λ r s h k. h.1.1 ∙ ap Fault (same_kind h.0 k.0 (sym h.1.0 ∙ k.1.0)) ∙ sym k.1.1;
  same = λ x y h k. same_unit x y;
  both = λ r x h k. not_end h.0 (sym h.1.0 ∙ k);
}

limited : (input : Module) (Behind : Outcome → Type 0) → Once Behind → Once (Limited input Behind)
limited input Behind rest = demanded (BreaksLimits input) (λ holds. plain_fault input ≡ None) (λ holds. Behind) (limits_decided input) (λ x. rest)

staged_from : HasOneStage → (options : StageOptions) (input : Module) (Behind : Module → Outcome → Type 0) → ((staged : Module) → Once (Behind staged)) → Once (StagedFrom options input Behind)
staged_from one options input Behind rest = demanded (λ refusal. ⊥) (IsStageOf (planning options) input) Behind (stage_decided one options input) rest

with_image : ImageLaws → (input : Module) (text : List ℕ) (Behind : ast.Image → Outcome → Type 0) → ((memory : ast.Image) → Once (Behind memory)) → Once (WithImage input text Behind)
with_image laws input text Behind rest = demanded (SpellsNoImage text input) (image.Spells text input) Behind (image_decided laws text input) rest

ends_within : (input : Module) (run : Verdict) (Behind : Outcome → Type 0) → Once Behind → Once (EndsWithin input run Behind)
ends_within input run Behind rest =
    demanded (IsTooMuch input) (λ holds. work input ≤ work_limit) _ (work_decided input) (λ within.
    demanded (StopsAt run) (λ holds. run ≡ verdict.End) (λ ends. Behind) (run_decided run) (λ ends. rest))

runs_to_end : ImageLaws → (input : Module) (text : List ℕ) (run : ast.Image → Verdict) (Behind : ast.Image → Outcome → Type 0) → ((memory : ast.Image) → Once (Behind memory)) → Once (RunsToEnd input text run Behind)
runs_to_end laws input text run Behind rest = with_image laws input text _ (λ memory. ends_within input (run memory) (Behind memory) (rest memory))

-- ---- One output of each kind

one_staged : HasOneStage → (options : StageOptions) (input : Module) (output other : List ℕ) → IsStageOutput options input output → IsStageOutput options input other → output ≡ other
one_staged one options input output other h k =
    h.text ∙ ap (λ x. report input (plan (planning options) input) ++ spelling x) (one (planning options) input h.staged k.staged h.is k.is) ∙ sym k.text

-- two outputs with one part each, and another part behind it
same_parts : (a b behind output other : List ℕ) → a ≡ b → output ≡ a ++ behind → other ≡ b ++ behind → output ≡ other
same_parts a b behind output other e h k = h ∙ ap (λ x. x ++ behind) e ∙ sym k

one_both : HasOneStage → (options : StageOptions) (input : Module) (memory : ast.Image) (output other : List ℕ) → IsBothOutput options input memory output → IsBothOutput options input memory other → output ≡ other
one_both one options input memory output other h k = same_parts h.stage k.stage _ output other (one_staged one options input h.stage k.stage h.is k.is) h.text k.text

-- what is equal to one thing
same_output : (text output other : List ℕ) → output ≡ text → other ≡ text → output ≡ other
same_output text output other h k = h ∙ sym k

one_order : ListsOne → (input : Module) (options : OrderOptions) (memory : ast.Image) (output other : List ℕ) → IsOrderOutput input options memory output → IsOrderOutput input options memory other → output ≡ other
one_order lists input options memory output other h k =
    let printed = image.printed input (with_slow memory (prompt_slow (prompted options.run input memory))) in
    let same = same_numbers lists _ options.pick h.ordered k.ordered h.runs k.runs in
    h.text ∙ ap (λ x. printed ++ order_text x h.ordered.steps) same.0 ∙ ap (λ x. printed ++ order_text k.ordered.trace x) same.1 ∙ sym k.text

-- one line a command
makes_once : Known → (command : Command) (text : List ℕ) (input : Module) → Once (Makes command input text)
makes_once known Check text input = given (λ output. output ≡ spelling input) (same_output (spelling input))
makes_once known (Regions options) text input = limited input _ (given _ (same_output (regions_text input options.depth)))
makes_once known (Stage options) text input = limited input _ (given _ (one_staged known.stages options input))
makes_once known Plain text input = limited input _ (runs_to_end known.images input text (λ memory. verdict_of (plain input memory)) _ (λ memory. given (IsPlainOutput input memory) (same_output _)))
makes_once known (Run options) text input = runs_to_end known.images input text (λ memory. prompt_verdict (prompted options input memory)) _ (λ memory. given (IsRunOutput input options memory) (same_output _))
makes_once known (Order options) text input = runs_to_end known.images input text (λ memory. prompt_verdict (prompted options.run input memory)) _ (λ memory. given (IsOrderOutput input options memory) (one_order known.lists input options memory))
makes_once known (Both options) text input = limited input _ (staged_from known.stages options.stage input _ (λ staged. with_image known.images input text _ (λ memory.
    ends_within staged (verdict_of (plain input memory)) _ (given (IsBothOutput options.stage input memory) (one_both known.stages options.stage input memory)))))
makes_once known unbuilt text input = λ a b h k. absurd h

comes_once : Known → (command : Command) (source : List ℕ) → Once (ComesTo command source)
comes_once known command source =
    demanded (SpellsNone (text_part source)) (Spells (text_part source)) _ (text_decided known.texts (text_part source)) (λ input.
    demanded (BreaksRule input) (λ holds. IsValid input) (λ holds. Makes command input (image_part source)) (rules_decided input) (λ valid. makes_once known command (image_part source) input))

-- ---- What an ending tells

-- the ending is open, or a refusal that the source comes to, or the source comes to an output and it was built
abbrev pub Tells : Command → List ℕ → Ending → Type 0
Tells command source e = IsOpen e ⊎ ((r : Refusal) × (Refuses command source r × (e ≡ ending_of r))) ⊎ ((output : List ℕ) × (ComesTo command source (Writes output) × IsBuilt e))

tells : (command : Command) (source : List ℕ) (e : Ending) (before now : Option (List ℕ)) → Because command source e before now → Tells command source e
tells command source end.Done before now h = inr (inr (h.output, (h.is, inl refl)))
tells command source end.WriteFault before now h = inr (inr (h.output, (h.is, inr refl)))
tells command source (end.Text line column) before now h = inr (inl (Text line column, (h, refl)))
tells command source (end.Invalid line rule) before now h = inr (inl (Invalid line rule, (h, refl)))
tells command source (end.Image line rule) before now h = inr (inl (Image line rule, (h, refl)))
tells command source (end.Turns count) before now h = inr (inl (Turns count, (h, refl)))
tells command source (end.Fault kind) before now h = inr (inl (Fault kind, (h, refl)))
tells command source other before now h = inl tt

-- a refusal that has its reason is why the call ends so
pub because : (command : Command) (source : List ℕ) (ending : Ending) (refusal : Refusal) (before now : Option (List ℕ)) → ending ≡ ending_of refusal → OrMemory (Refuses command source) refusal → Because command source ending before now
because command source ending refusal before now e h = subst (λ x. Because command source x before now) (sym e) (by refusal h)
  where
    by : (r : Refusal) → OrMemory (Refuses command source) r → Because command source (ending_of r) before now
    by Memory h = tt
    by r (inr h) = h
    by r (inl e) = absurd (let z : ⊥ = cc in z)

-- no refusal is a source that is too long
pub not_too_long : (e : Ending) (r : Refusal) → e ≡ ending_of r → e ≡ end.TooLong → ⊥
not_too_long e r h k = by r (sym h ∙ k)
  where
    by : (r : Refusal) → ending_of r ≡ end.TooLong → ⊥
    by (Text line column) h = absurd (let z : ⊥ = cc in z)
    by (Invalid line rule) h = absurd (let z : ⊥ = cc in z)
    by (Image line rule) h = absurd (let z : ⊥ = cc in z)
    by (Turns count) h = absurd (let z : ⊥ = cc in z)
    by (Fault kind) h = absurd (let z : ⊥ = cc in z)
    by Memory h = absurd (let z : ⊥ = cc in z)

-- ---- The laws

refused : Known → (command : Command) (source : List ℕ) (e : Ending) (r : Refusal) → Tells command source e → Refuses command source r → IsOpen e ⊎ (e ≡ ending_of r)
refused known command source e r (inl o) k = inl o
refused known command source e r (inr (inl h)) k = inr (h.1.1 ∙ ap ending_of (comes_once known command source (Refused h.0) (Refused r) h.1.0 k))
refused known command source e r (inr (inr h)) k = absurd (comes_once known command source (Writes h.0) (Refused r) h.1.0 k)

complete : Known → (command : Command) (source : List ℕ) (e : Ending) → Tells command source e → Completes command source → IsOpen e ⊎ IsBuilt e
complete known command source e (inl o) k = inl o
complete known command source e (inr (inl h)) k = absurd (comes_once known command source (Refused h.0) Complete h.1.0 k)
complete known command source e (inr (inr h)) k = inr h.1.1

pub exact : Known → EndingsAreExact
exact known command source ending before now b = record {
  refused = λ r k. refused known command source ending r (tells command source ending before now b) k;
  complete = λ k. complete known command source ending (tells command source ending before now b) k;
}

pub one_output : Known → HasOneOutput
one_output known command source output other h k = comes_once known command source (Writes output) (Writes other) h k
