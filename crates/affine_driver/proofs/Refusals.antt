-- What a source comes to, from what it is made of.
use Rattle.std.proofs.Common.{◌≡◌, ℕ, List, Result, Ok, Err, refl, sym, ◌∙◌, ap, subst, inl, inr}
use Rattle.affine_ast.specs.declared.image.Image.{Image}
use Rattle.affine_ast.specs.declared.module.Module.{Module}
use Rattle.affine_ast.specs.Validity.{IsValid, first_broken}
use Rattle.affine_text.specs.declared.fault.ParseFault.{ParseFault}
use Rattle.affine_text.specs.declared.fault.ParseFault.TheVariants as parser
use Rattle.affine_text.specs.Parsed.{Parses}
use Rattle.affine_verify.specs.declared.fault.VerifyFault.{VerifyFault}
use Rattle.affine_verify.specs.declared.fault.VerifyFault.TheVariants as rules
use Rattle.affine_verify.specs.Comes.{IsTold}
use Rattle.affine_grammar.specs.Spelling.{Spells}
use Rattle.mem_image.specs.declared.parse.ImageFault.{ImageFault}
use Rattle.mem_image.specs.declared.parse.ImageFault.TheVariants as image_fault
use Rattle.mem_image.specs.Faults.{IsFault}
use Rattle.mem_image.specs.Images as image
use Rattle.module_regions.specs.declared.fault.LinesFault.{LinesFault}
use Rattle.module_regions.specs.declared.fault.LinesFault.TheVariants as lines
use Rattle.module_regions.specs.Lines.{Answers}
use Rattle.source_parts.specs.Parts.{text_part, image_part}
use Rattle.affine_driver.specs.declared.command.Command.{Command}
use Rattle.affine_driver.specs.declared.refusal.Refusal.{Refusal}
use Rattle.affine_driver.specs.Behaviour.{Limited, WithImage, Makes, ComesTo}
use Rattle.affine_driver.specs.Outcome.{Outcome, Refused, Writes, Demands, Answered}
use Rattle.affine_driver.specs.Refusals.{OrMemory, SpellsNoImage, IsNotRead, of_parser, of_rules, of_image, of_lines}

-- ---- The errors of other crates

pub no_text : (text : List ℕ) (fault : ParseFault) (refusal : Refusal) → refusal ≡ of_parser fault → Parses (Err fault) text → OrMemory (IsNotRead text) refusal
no_text text (parser.Text line column) refusal e h = inr (inl (line, (column, (h, e))))
no_text text parser.Memory refusal e h = inl e

pub rule_broken : (text : List ℕ) (input : Module) (fault : VerifyFault) (refusal : Refusal) → refusal ≡ of_rules fault → Spells text input → IsTold fault (first_broken input) → OrMemory (IsNotRead text) refusal
rule_broken text input (rules.Invalid line rule) refusal e s h = inr (inr (input, (s, (line, (rule, (h, e))))))
rule_broken text input rules.Memory refusal e s h = inl e

pub no_image : (text : List ℕ) (input : Module) (fault : ImageFault) (refusal : Refusal) → refusal ≡ of_image fault → IsFault text input fault → OrMemory (SpellsNoImage text input) refusal
no_image text input (image_fault.Image line rule) refusal e h = inr (line, (rule, (h, e)))
no_image text input image_fault.Memory refusal e h = inl e

-- ---- Demands

-- a demand fails
pub fails : {A : Type 0} (Fails : Refusal → Type 0) (Holds : A → Type 0) (Behind : A → Outcome → Type 0) (refusal : Refusal) → OrMemory Fails refusal → OrMemory (λ r. Demands Fails Holds Behind (Refused r)) refusal
fails Fails Holds Behind refusal (inl m) = inl m
fails Fails Holds Behind refusal (inr h) = inr (inl (refusal, (h, refl)))

-- a demand holds, and one behind it fails
pub holds : {A : Type 0} (Fails : Refusal → Type 0) (Holds : A → Type 0) (Behind : A → Outcome → Type 0) (refusal : Refusal) (x : A) → Holds x → OrMemory (λ r. Behind x (Refused r)) refusal → OrMemory (λ r. Demands Fails Holds Behind (Refused r)) refusal
holds Fails Holds Behind refusal x h (inl m) = inl m
holds Fails Holds Behind refusal x h (inr k) = inr (inr (x, (h, k)))

-- what is answered for one thing is answered for another that comes to what it comes to
pub answered : {A : Type 0} (answer : Result A Refusal) (bytes_of : A → List ℕ) (One Other : Outcome → Type 0) → ((outcome : Outcome) → One outcome → Other outcome) → Answered answer bytes_of One → Answered answer bytes_of Other
answered (Ok x) bytes_of One Other step h = step (Writes (bytes_of x)) h
answered (Err refusal) bytes_of One Other step (inl m) = inl m
answered (Err refusal) bytes_of One Other step (inr h) = inr (step (Refused refusal) h)

-- what a refusal answers
pub refused : {A : Type 0} (answer : Result A Refusal) (bytes_of : A → List ℕ) (Comes : Outcome → Type 0) (refusal same : Refusal) → answer ≡ Err same → same ≡ refusal → OrMemory (λ r. Comes (Refused r)) refusal → Answered answer bytes_of Comes
refused answer bytes_of Comes refusal same e s h = subst (λ a. Answered a bytes_of Comes) (sym (e ∙ ap Err s)) h

-- the text of an image spells none
pub without_image : (input : Module) (text : List ℕ) (Behind : Image → Outcome → Type 0) (refusal : Refusal) → OrMemory (SpellsNoImage text input) refusal → OrMemory (λ r. WithImage input text Behind (Refused r)) refusal
without_image input text Behind refusal h = fails (SpellsNoImage text input) (image.Spells text input) Behind refusal h

-- why there are no lines of regions
pub no_lines : {B : Type 0} (input : Module) (depth : ℕ) (bytes_of : B → List ℕ) (Behind : Outcome → Type 0) (fault : LinesFault) (refusal : Refusal) → refusal ≡ of_lines fault → Answers input depth bytes_of (Err fault)
    → OrMemory (λ r. Limited input Behind (Refused r)) refusal
no_lines input depth bytes_of Behind (lines.Plain line) refusal e h = inr (inl (refusal, ((line, (h, e)), refl)))
no_lines input depth bytes_of Behind lines.Memory refusal e h = inl e

-- ---- Commands

-- what a command makes of the parts of a source, the source comes to
pub comes_to : (command : Command) (source : List ℕ) (input : Module) (outcome : Outcome) → Spells (text_part source) input → IsValid input → Makes command input (image_part source) outcome → ComesTo command source outcome
comes_to command source input outcome s v h = inr (input, (s, inr (tt, (v, h))))

-- what is answered for the command with its options and the parts of a source, the source comes to
pub through : {A : Type 0} (command same : Command) (source text image : List ℕ) (input : Module) (answer : Result A Refusal) (bytes_of : A → List ℕ) → command ≡ same → text ≡ text_part source → image ≡ image_part source
    → Spells text input → IsValid input → Answered answer bytes_of (Makes same input image) → Answered answer bytes_of (ComesTo command source)
through command same source text image input answer bytes_of is t m s v h =
    answered answer bytes_of (Makes same input image) (ComesTo command source)
    (λ o made. subst (λ x. ComesTo x source o) (sym is) (comes_to same source input o (subst (λ x. Spells x input) t s) v (subst (λ x. Makes same input x o) m made))) h

-- what isn't read is refused under every command
pub unread : (command : Command) (source text : List ℕ) (refusal : Refusal) → text ≡ text_part source → OrMemory (IsNotRead text) refusal → OrMemory (λ r. ComesTo command source (Refused r)) refusal
unread command source text refusal e (inl m) = inl m
unread command source text refusal e (inr (inl h)) = inr (inl (refusal, (rw (sym e) h, refl)))
unread command source text refusal e (inr (inr h)) = inr (inr (h.0, (rw (sym e) h.1.0, inl (refusal, (h.1.1, refl)))))
