-- A report is lines of comments.
use Rattle.std.proofs.Common.{◌≡◌, ℕ, zero, suc, ◌+◌, ◌/◌, ◌%◌, ◌==◌, not, Bool, true, false, List, [], ◌∷◌, ◌++◌, map, codes, decimal, Option, refl, sym, ap, ◌∙◌, append_assoc, inl, inr, arith}
use Rattle.std.specs.Prelude.{All, ◌||◌, if◌then◌else◌, slice_get, nat_lt}
use Rattle.std.specs.Char.{is_ascii_digit, is_ascii_alphabetic}
use Rattle.std.specs.List.{list_all}
use Rattle.std.proofs.lemmas.Bool.{and_parts}
use Rattle.std.proofs.lemmas.List.Elements.{All-nil, All-cons, All-append}
use Rattle.std.specs.Fmt.{digit_glyph, digits_onto, digits}
use Rattle.affine_lex.specs.Tokens.{IsId, IsDigits}
use Rattle.affine_ast.specs.declared.module.Arg.{Arg}
use Rattle.affine_ast.specs.declared.module.Module.{Module}
use Rattle.affine_ast.specs.declared.name.Name.{Name}
use Rattle.affine_ast.specs.Spelling.{name_text}
use Rattle.nest_domain.specs.declared.plan.Cause.{Cause}
use Rattle.nest_domain.specs.declared.plan.Cause.TheVariants as cause
use Rattle.nest_domain.specs.declared.plan.Decision.{Decision}
use Rattle.nest_domain.specs.declared.plan.Doubling.{Doubling}
use Rattle.nest_domain.specs.declared.plan.Doubling.TheVariants as doubling
use Rattle.nest_domain.specs.declared.plan.Outcome.{Outcome}
use Rattle.nest_domain.specs.declared.plan.Outcome.TheVariants as outcome
use Rattle.plan_report.specs.Report.{argument_text, half_bytes, depth_at, cause_text, directions_text, doubling_text, amount_text, staged_text, left_text, outcome_text, subject_text, decision_text, report}
use Rattle.affine_ast.specs.Nest.{nest}
use Rattle.printed_texts.specs.Comments.{AreOnOneLine, comment_lines}
use Rattle.printed_texts.specs.Writable.{IsWritten, AllWritten, ArgumentsFit}
use Rattle.affine_grammar.specs.Spelling.{tokens_of}
use Rattle.printed_texts.proofs.Given.{given_right}
use Rattle.printed_texts.proofs.Marks.{IsValueName}
use Rattle.printed_texts.proofs.Modules.{module_parts}
use Rattle.printed_texts.proofs.Pieces.{is_id_byte}
use Rattle.printed_texts.proofs.Whole.{given_text}
use Rattle.stage_reports.specs.Law.{ReportIsComments}

-- ---- bytes that are no line feed

abbrev IsNoFeed : ℕ → Type 0
IsNoFeed b = ¬ (b ≡ 10)

-- a test that fails for the line feed
by_test : (test : ℕ → Bool) (b : ℕ) → test 10 ≡ false → test b ≡ true → IsNoFeed b
by_test test b fails holds e = let z : false ≡ true = sym fails ∙ ap test (sym e) ∙ holds in cc

all_tested : (w : List ℕ) → list_all (λ b. not (b == 10)) w ≡ true → AreOnOneLine w
all_tested [] h = All-nil IsNoFeed
all_tested (b ∷ w) h =
    let p = and_parts (not (b == 10)) (list_all (λ b. not (b == 10)) w) h in
    All-cons IsNoFeed b w (by_test (λ b. not (b == 10)) b refl p.0) (all_tested w p.1)

both_lines : (xs ys : List ℕ) → AreOnOneLine xs → AreOnOneLine ys → AreOnOneLine (xs ++ ys)
both_lines xs ys h k = All-append IsNoFeed xs ys h k

-- digits
glyph : (d : ℕ) → IsNoFeed (digit_glyph false d)
glyph d = by (nat_lt d 10)
  where
    by : (t : Bool) → IsNoFeed (if t then 48 + d else 87 + d)
    by true e = omega (arith, e)
    by false e = omega (arith, e)

glyph_line : (n : ℕ) (w : List ℕ) → AreOnOneLine w → AreOnOneLine (digit_glyph false (n % 10) ∷ w)
glyph_line n w h = All-cons IsNoFeed (digit_glyph false (n % 10)) w (glyph (n % 10)) h

either_line : (t : Bool) (v w : List ℕ) → AreOnOneLine v → AreOnOneLine w → AreOnOneLine (if t then v else w)
either_line true v w h k = h
either_line false v w h k = k

digits_line : (k n : ℕ) (w : List ℕ) → AreOnOneLine w → AreOnOneLine (digits_onto k 10 false n w)
digits_line zero n w h = h
digits_line (suc k) n w h = either_line (n / 10 == 0) _ _ (glyph_line n w h) (digits_line k (n / 10) (digit_glyph false (n % 10) ∷ w) (glyph_line n w h))

decimal_line : (n : ℕ) → AreOnOneLine (decimal n)
unfolding digits
decimal_line n = digits_line 64 n [] (All-nil IsNoFeed)

-- names
number_line : (b : ℕ) (w : List ℕ) → IsDigits (b ∷ w) → AreOnOneLine (b ∷ w)
number_line b [] h = All-cons IsNoFeed b [] (by_test is_ascii_digit b refl h.0) (All-nil IsNoFeed)
number_line b (c ∷ w) h = All-cons IsNoFeed b (c ∷ w) (by_test is_ascii_digit b refl h.0) (number_line c w h.1)

id_behind : (w : List ℕ) → IsId (97 ∷ w) → AreOnOneLine w
id_behind [] h = All-nil IsNoFeed
id_behind (b ∷ w) h = All-cons IsNoFeed b w (by_test is_id_byte b refl h.1.0) (id_behind w (refl, h.1.1))

name_line : (w : List ℕ) → IsValueName w → AreOnOneLine w
name_line [] (inl h) = absurd h
name_line (b ∷ w) (inl h) = All-cons IsNoFeed b w (by_test (λ b. is_ascii_alphabetic b || b == 95 || b == 36 || b == 46) b refl h.0) (id_behind w (refl, h.1))
name_line [] (inr h) = absurd h
name_line (b ∷ w) (inr h) = number_line b w h

value_line : (n : Name) → IsWritten n → AreOnOneLine (name_text n)
unfolding name_text
value_line n h = both_lines (codes "%") n.text (all_tested (codes "%") refl) (name_line n.text h.form)

argument_line : (args : List Arg) (k : ℕ) → AllWritten (map (λ (arg : Arg). arg.name) args) → AreOnOneLine (argument_text (slice_get args k))
argument_line [] k h = All-nil IsNoFeed
argument_line (arg ∷ args) zero h = value_line arg.name h.0
argument_line (arg ∷ args) (suc k) h = argument_line args k h.1

-- ---- the lines of a report

subject_words : ℕ → ℕ → Option Arg → List ℕ
subject_words block line arg = codes " block " ++ (decimal block ++ (codes " line " ++ (decimal line ++ (codes " " ++ (argument_text arg ++ codes ": ")))))

subject_line : (block line : ℕ) (arg : Option Arg) → AreOnOneLine (argument_text arg) → AreOnOneLine (subject_words block line arg)
unfolding subject_words
subject_line block line arg h =
    both_lines (codes " block ") _ (all_tested (codes " block ") refl)
    (both_lines (decimal block) _ (decimal_line block)
    (both_lines (codes " line ") _ (all_tested (codes " line ") refl)
    (both_lines (decimal line) _ (decimal_line line)
    (both_lines (codes " ") _ (all_tested (codes " ") refl)
    (both_lines (argument_text arg) (codes ": ") h (all_tested (codes ": ") refl))))))

cause_line : (c : Cause) → AreOnOneLine (cause_text c)
cause_line cause.Region = all_tested (codes "region") refl
cause_line cause.Coefficient = all_tested (codes "coefficient") refl
cause_line cause.Rows = all_tested (codes "rows") refl
cause_line cause.Capacity = all_tested (codes "capacity") refl
cause_line cause.Size = all_tested (codes "size") refl
cause_line cause.Shape = all_tested (codes "shape") refl
cause_line cause.Dependence = all_tested (codes "dependence") refl

directions_line : (reads writes : Bool) → AreOnOneLine (directions_text reads writes)
directions_line true true = all_tested (codes "in out") refl
directions_line true false = all_tested (codes "in") refl
directions_line false true = all_tested (codes "out") refl
directions_line false false = All-nil IsNoFeed

doubling_line : (d : Doubling) → AreOnOneLine (doubling_text d)
unfolding doubling_text
doubling_line doubling.NotAsked = All-nil IsNoFeed
doubling_line doubling.Doubled = all_tested (codes ", doubled") refl
doubling_line (doubling.Single c) = both_lines (codes ", single, ") (cause_text c) (all_tested (codes ", single, ") refl) (cause_line c)

amount_line : (bytes depth : ℕ) → AreOnOneLine (amount_text bytes depth)
unfolding amount_text
amount_line bytes depth =
    both_lines (codes "staged ") _ (all_tested (codes "staged ") refl)
    (both_lines (decimal bytes) _ (decimal_line bytes)
    (both_lines (codes " bytes at depth ") _ (all_tested (codes " bytes at depth ") refl)
    (both_lines (decimal depth) (codes ", ") (decimal_line depth) (all_tested (codes ", ") refl))))

outcome_line : (m : Module) (arg : Option Arg) (x : Outcome) → AreOnOneLine (outcome_text m arg x)
unfolding outcome_text left_text staged_text
outcome_line m arg (outcome.Left c) = both_lines (codes "left, ") (cause_text c) (all_tested (codes "left, ") refl) (cause_line c)
outcome_line m arg (outcome.Staged at region reads writes d) =
    both_lines (amount_text (half_bytes arg region) (depth_at (nest m.body) at)) _ (amount_line (half_bytes arg region) (depth_at (nest m.body) at))
    (both_lines (directions_text reads writes) (doubling_text d) (directions_line reads writes) (doubling_line d))

module _ (m : Module) where
  abbrev arg_of : Decision → Option Arg
  arg_of d = slice_get m.args d.memref

  -- a line without its slashes and its line feed
  words : Decision → List ℕ
  words d = subject_words d.block d.line (arg_of d) ++ outcome_text m (arg_of d) d.outcome

  line_is : (d : Decision) → decision_text m d ≡ codes "//" ++ (words d ++ codes "\n")
  unfolding decision_text subject_text subject_words words
  line_is d = ap (λ t. codes "//" ++ t) (sym (append_assoc (subject_words d.block d.line (arg_of d)) (outcome_text m (arg_of d) d.outcome) (codes "\n")))

  report_is : (ds : List Decision) → report m ds ≡ comment_lines (map words ds)
  report_is [] = refl
  report_is (d ∷ ds) = (λ i. line_is d i ++ report_is ds i)

  words_line : AllWritten (map (λ (arg : Arg). arg.name) m.args) → (d : Decision) → AreOnOneLine (words d)
  unfolding words
  words_line h d =
      both_lines (subject_words d.block d.line (arg_of d)) (outcome_text m (arg_of d) d.outcome)
      (subject_line d.block d.line (arg_of d) (argument_line m.args d.memref h)) (outcome_line m (arg_of d) d.outcome)

  all_lines : AllWritten (map (λ (arg : Arg). arg.name) m.args) → (ds : List Decision) → All AreOnOneLine (map words ds)
  all_lines h [] = All-nil AreOnOneLine
  all_lines h (d ∷ ds) = All-cons AreOnOneLine (words d) (map words ds) (words_line h d) (all_lines h ds)

-- the arguments of a module of a text have names of the grammar
arguments_named : (args : List Arg) → ArgumentsFit args → AllWritten (map (λ (arg : Arg). arg.name) args)
arguments_named [] h = tt
arguments_named (arg ∷ args) h = (h.0.name, arguments_named args h.1)

pub report_comments : ReportIsComments
report_comments source m ds short s =
    let given = given_text source s.tokens s.end short s.lexed in
    let f = tokens_of source s.tokens in
    let h = s.spelled in
    let parts = module_parts h.value m h.right (given_right f h.left h.right h.parts given) h.second in
    record { comments = map (words m) ds; each = all_lines m (arguments_named m.args parts.args) ds; is = report_is m ds }
