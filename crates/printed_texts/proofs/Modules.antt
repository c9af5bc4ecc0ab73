-- Functions and modules are spelled again.
use Rattle.std.proofs.Common.{◌≡◌, ℕ, ℤ, Bool, true, false, List, [], ◌∷◌, ◌++◌, map, Option, Some, None, codes, refl, sym, ap, ◌∙◌, subst, append_assoc, append-nil, inl, inr, arith}
use Rattle.std.specs.Fmt.{signed_decimal}
use Rattle.readers.specs.Languages.{Lang, One, Both, Many, none, more, Giving, Optional, Ended, Enclosed, Listed}
use Rattle.readers.proofs.Texts.{giving_text}
use Rattle.affine_lex.specs.Scan.{after_word}
use Rattle.affine_lex.specs.Tokens.{IsId}
use Rattle.affine_lex.proofs.Written.{Piece, AreCut, cut_blank}
use Rattle.affine_expr.specs.declared.map.Interval.{Interval}
use Rattle.affine_ast.specs.declared.name.Name.{Name}
use Rattle.affine_ast.specs.declared.stmt.Stmt.{Stmt}
use Rattle.affine_ast.specs.declared.stmt.What.TheVariants as what
use Rattle.affine_ast.specs.declared.module.Arg.{Arg}
use Rattle.affine_ast.specs.declared.module.ArgKind.{ArgKind}
use Rattle.affine_ast.specs.declared.module.ArgKind.TheVariants as kind
use Rattle.affine_ast.specs.declared.module.Module.{Module}
use Rattle.affine_ast.specs.Nest.{nest}
use Rattle.affine_ast.specs.Spelling.{name_text, listed, lines, line_text, arg_text, args_text, kind_text, range_text, pair_text, head_text, spelling}
use Rattle.affine_ast.proofs.Spellings.{lines-append, lines-cons, lines-nil, statement-Return}
use Rattle.affine_grammar.specs.declared.words.Alias.{Alias}
use Rattle.affine_grammar.specs.Token.{Tok, sign, word, value, lined, with_line}
use Rattle.affine_grammar.specs.GrammarFile.{RangeEnd, Range, ArgumentKind, Argument, NextArgument, Arguments, Statements, Region, FunctionBody, Function, ModuleOf, File}
use Rattle.printed_texts.specs.Nesting.{StatementsNest, ModuleNests}
use Rattle.printed_texts.specs.Lines.{unlined_argument, AreSameButLines}
pub use Rattle.printed_texts.specs.Writable.{KindFits, ArgumentFits, ArgumentsFit}
use Rattle.printed_texts.proofs.Pieces.{Are, parted, Joins, Cuts, join_cut, Prints, seq, prints_as, in_left, in_right, giving, nothing, loosen, blank_before, blank_behind}
use Rattle.printed_texts.proofs.Marks.{keyword, equals_sign, open_brace, close_brace, open_paren, close_paren, open_square, close_square, comma_sign, colon_sign, comma}
use Rattle.printed_texts.proofs.Given.{Given, given_left, given_right, given_one, value_given, value_prints, function_given, function_prints}
use Rattle.printed_texts.proofs.Lists.{more_text, more_joins}
use Rattle.printed_texts.proofs.Types.{InRange, signed_told, signed_again, memref_told, memref_again}
use Rattle.printed_texts.proofs.Unlined.{SameStatements, same_append, append_nests, same_cons}
use Rattle.printed_texts.proofs.Blocks.{Writes, writes_seq, writes_as, writes_blank, AllWhite, LinesPrints, ToldLines, opening, closing, margin_cut, lined_some}

-- ---- arguments

range_end_told : (z : ℤ) (f : List Tok) → RangeEnd f z → InRange z
range_end_told z f h = subst InRange (sym (same h.value h.right h.second)) (signed_told h.value h.left h.first)
  where
    same : (y : ℤ) (g : List Tok) → Optional (Both (One (sign 58)) (λ _. Giving (One (word (codes "i64"))) (λ _. y))) y g z → z ≡ y
    same y g (inl i) = i.second.second.1
    same y g (inr i) = i.1

range_told : (r : Option Interval) (f : List Tok) → Optional Range None f r → KindFits (kind.Index r)
range_told r f (inr h) = subst (λ x. KindFits (kind.Index x)) (sym h.1) tt
range_told r f (inl h) =
    let i = h.second.second.second in
    let j = i.first.second in
    let a = j.first in
    let b = a.second.second in
    subst (λ x. KindFits (kind.Index x)) (sym (i.second.second.1 ∙ j.second.second.1 ∙ b.second.1)) (range_end_told a.value a.left a.first, range_end_told b.value b.left b.first)

kind_told : (k : ArgKind) (f : List Tok) → ArgumentKind f k → KindFits k
kind_told k f (inl h) = let i = h.second in subst KindFits (sym i.second.1) (range_told i.value i.left i.first)
kind_told k f (inr h) = subst KindFits (sym h.second.1) (memref_told h.value h.left h.first)

-- one argument more
record ToldArgument (b c : List Arg) : Type 0 where
  arg : Arg
  arg_is : c ≡ b ++ arg ∷ []
  told : ArgumentFits arg

argument_told : (b c : List Arg) (f : List Tok) → Given f → Argument b f c → ToldArgument b c
argument_told b c f g h =
    let i = h.second.second in
    record {
      arg = record { name = h.value.1; kind = i.value; line = h.value.0 };
      arg_is = i.second.1;
      told = record { name = value_given h.first.token h.value.1 (given_one h.left h.first.token h.first.alone (given_left f h.left h.right h.parts g)) (lined_some value h.first.token h.value h.first.accepted); kind = kind_told i.value i.left i.first };
    }

record ToldArguments (b c : List Arg) : Type 0 where
  items : List Arg
  items_are : c ≡ b ++ items
  told : ArgumentsFit items

more_arguments : (b c : List Arg) (f : List Tok) → Given f → Many NextArgument b f c → ToldArguments b c
more_arguments b c f g (none _ _ p) = record { items = []; items_are = sym (append-nil b); told = tt }
more_arguments b c f g (more _ d _ _ left right p i m) =
    let t = argument_told b d i.right (given_right left i.left i.right i.parts (given_left f left right p g)) i.second in
    let r = more_arguments d c right (given_right f left right p g) m in
    record { items = t.arg ∷ r.items; items_are = r.items_are ∙ ap (λ l. l ++ r.items) t.arg_is ∙ append_assoc b (t.arg ∷ []) r.items; told = (t.told, r.told) }

arguments_told : (args : List Arg) (f : List Tok) → Given f → Arguments f args → ArgumentsFit args
arguments_told args f g h = by_case h.second
  where
    gr : Given h.right
    gr = given_right f h.left h.right h.parts g

    by_case : Listed (sign 41) [] (Both (Argument []) (Many NextArgument)) h.right args → ArgumentsFit args
    by_case (inl i) = subst ArgumentsFit (sym i.second.1) tt
    by_case (inr i) =
        let j = i.first in
        let g1 = given_left h.right i.left i.right i.parts gr in
        let t = argument_told [] j.value j.left (given_left i.left j.left j.right j.parts g1) j.first in
        let r = more_arguments j.value i.value j.right (given_right i.left j.left j.right j.parts g1) j.second in
        let e : i.value ≡ t.arg ∷ r.items = r.items_are ∙ ap (λ l. l ++ r.items) t.arg_is in
        subst ArgumentsFit (sym (i.second.second.1 ∙ e)) (t.told, r.told)

-- ---- arguments, printed

range_end_again : (z : ℤ) → InRange z → Prints true (signed_decimal z) RangeEnd z
range_end_again z i = prints_as (seq (signed_again z i) (λ r c. c) (in_right (nothing {o = true} z))) (append-nil (signed_decimal z))

range_again : (r : Interval) → InRange r.least → InRange r.greatest → Prints false (range_text r) (Optional Range None) (Some r)
unfolding range_text pair_text
range_again r a b =
    let pair : Prints true (signed_decimal r.least ++ (codes ", " ++ signed_decimal r.greatest)) (Both RangeEnd (λ a. Both (One (sign 44)) (λ _. Giving RangeEnd (λ b. Some (record { least = a; greatest = b }))))) (Some r) =
    seq (range_end_again r.least a) (λ s c. refl) (seq (blank_behind comma_sign) tt (giving (λ b. Some (record { least = r.least; greatest = b })) (range_end_again r.greatest b))) in
    let squares : Prints false (codes "[" ++ ((signed_decimal r.least ++ (codes ", " ++ signed_decimal r.greatest)) ++ codes "]")) (Enclosed (sign 91) (sign 93) (Both RangeEnd (λ a. Both (One (sign 44)) (λ _. Giving RangeEnd (λ b. Some (record { least = a; greatest = b })))))) (Some r) =
    seq open_square tt (seq pair (λ s c. refl) (giving (λ _. Some r) close_square)) in
    let whole : Prints false (32 ∷ (codes "{" ++ (codes "copy.range" ++ (codes " = " ++ ((codes "[" ++ ((signed_decimal r.least ++ (codes ", " ++ signed_decimal r.greatest)) ++ codes "]")) ++ codes "}"))))) (Optional Range None) (Some r) =
    blank_before (in_left (seq open_brace tt (seq (keyword (codes "copy.range") refl refl) (λ s c. refl) (seq (blank_before (blank_behind equals_sign)) tt (seq squares tt (giving (λ _. Some r) close_brace)))))) in
    prints_as whole (simp append_assoc refl)

kind_again : (k : ArgKind) → KindFits k → Prints true (kind_text k) ArgumentKind k
unfolding range_text
kind_again (kind.Memref ty) t = in_right (giving (λ ty. kind.Memref ty) (memref_again ty t))
kind_again (kind.Index None) t = in_left (prints_as (seq (keyword (codes "index") refl refl) (λ r c. c) (giving (λ r. kind.Index r) (in_right {L = Range} (nothing {o = true} None)))) refl)
kind_again (kind.Index (Some r)) t = in_left (seq (keyword (codes "index") refl refl) (λ r c. refl) (giving (λ r. kind.Index r) (loosen (range_again r t.0 t.1))))

-- an argument that tokens spell, behind others
record SpelledArgument (a : Arg) (us : List Tok) (acc : List Arg) : Type 0 where
  arg : Arg
  same : unlined_argument a ≡ unlined_argument arg
  spelled : Argument acc us (acc ++ arg ∷ [])

-- an argument without its line
abbrev NamedKind : Lang Tok (Name × ArgKind)
NamedKind = Both (One value) (λ n. Both (One (sign 58)) (λ _. Giving ArgumentKind (λ k. let x : Name × ArgKind = (n, k) in x)))

record ArgumentPrints (a : Arg) : Type 0 where
  pieces : List Piece
  cut : Cuts true (arg_text a) pieces
  spelled : (us : List Tok) → Are pieces us → (acc : List Arg) → SpelledArgument a us acc

argument_again : (a : Arg) → ArgumentFits a → ArgumentPrints a
unfolding arg_text
argument_again a t =
    let p : Prints true (name_text a.name ++ (codes ": " ++ kind_text a.kind)) NamedKind (a.name, a.kind) =
    seq (value_prints a.name t.name) (λ r c. refl) (seq (blank_behind colon_sign) tt (giving (λ k. let x : Name × ArgKind = (a.name, k) in x) (kind_again a.kind t.kind))) in
    record { pieces = p.pieces; cut = p.cut; spelled = λ us h acc. relined us acc (p.spelled us h) }
  where
    relined : (us : List Tok) (acc : List Arg) → NamedKind us (a.name, a.kind) → SpelledArgument a us acc
    relined us acc h =
        let line = h.first.token.token.line in
        let i = h.second in
        let j = i.second in
        let n : h.value ≡ a.name = ap (λ (x : Name × ArgKind). x.0) (sym j.second.1) in
        let k : j.value ≡ a.kind = ap (λ (x : Name × ArgKind). x.1) (sym j.second.1) in
        record {
          arg = record { name = h.value; kind = j.value; line = line };
          same = sym (ap (λ (x : Name). let y : Arg = record { name = x; kind = j.value; line = 0 } in y) n ∙ ap (λ (x : ArgKind). let y : Arg = record { name = a.name; kind = x; line = 0 } in y) k);
          spelled = record {
            value = (line, h.value);
            left = h.left;
            right = h.right;
            parts = h.parts;
            first = record { token = h.first.token; alone = h.first.alone; accepted = ap (with_line line) h.first.accepted };
            second = record { value = i.value; left = i.left; right = i.right; parts = i.parts; first = i.first; second = giving_text (λ k. acc ++ record { name = h.value; kind = k; line = line } ∷ []) i.right j.value (subst (λ l. ArgumentKind l j.value) (sym (j.parts ∙ ap (λ l. j.left ++ l) j.second.0 ∙ append-nil j.left)) j.first) };
          };
        }

-- arguments that tokens spell, behind others
record SpelledArguments (args : List Arg) (us : List Tok) (acc : List Arg) : Type 0 where
  stands : List Arg
  same : map unlined_argument args ≡ map unlined_argument stands
  spelled : Many NextArgument acc us (acc ++ stands)

record MorePrints (args : List Arg) : Type 0 where
  pieces : List Piece
  cut : Cuts true (more_text arg_text args) pieces
  spelled : (us : List Tok) → Are pieces us → (acc : List Arg) → SpelledArguments args us acc

more_again : (args : List Arg) → ArgumentsFit args → MorePrints args
more_again [] t = record { pieces = []; cut = λ rest qs c h. h; spelled = λ us a acc. record { stands = []; same = refl; spelled = subst (λ l. Many NextArgument acc us l) (sym (append-nil acc)) (none acc us a) } }
more_again (x ∷ args) t =
    let p = argument_again x t.0 in
    let q = more_again args t.1 in
    record {
      pieces = (comma.pieces ++ p.pieces) ++ q.pieces;
      cut = join_cut true true (codes ", " ++ arg_text x) (more_text arg_text args) (comma.pieces ++ p.pieces) q.pieces (join_cut false true (codes ", ") (arg_text x) comma.pieces p.pieces comma.cut tt p.cut) (more_joins arg_text args) q.cut;
      spelled = λ us a acc.
          let i = parted (comma.pieces ++ p.pieces) q.pieces us a in
          let j = parted comma.pieces p.pieces i.left i.first in
          let y = p.spelled j.right j.second acc in
          let z = q.spelled i.right i.second (acc ++ y.arg ∷ []) in
          let item : NextArgument acc i.left (acc ++ y.arg ∷ []) = record { value = tt; left = j.left; right = j.right; parts = j.parts; first = comma.spelled j.left j.first; second = y.spelled } in
          record {
            stands = y.arg ∷ z.stands;
            same = ap (λ m. m ∷ map unlined_argument args) y.same ∙ ap (λ l. unlined_argument y.arg ∷ l) z.same;
            spelled = subst (λ l. Many NextArgument acc us l) (append_assoc acc (y.arg ∷ []) z.stands) (more acc (acc ++ y.arg ∷ []) ((acc ++ y.arg ∷ []) ++ z.stands) us i.left i.right i.parts item z.spelled);
          };
    }

abbrev SameArguments : List Arg → List Arg → Type 0
SameArguments args stands = map unlined_argument args ≡ map unlined_argument stands

arguments_again : (args : List Arg) → ArgumentsFit args → Writes false (codes "(" ++ (listed arg_text args ++ codes ")")) Arguments (SameArguments args)
unfolding listed
arguments_again [] t =
    let p : Prints false (codes "()") Arguments [] = seq open_paren tt (in_left (giving (λ _. []) close_paren)) in
    record { pieces = p.pieces; cut = p.cut; spelled = λ us a. ([], (refl, p.spelled us a)) }
arguments_again (x ∷ args) t =
    let p = argument_again x t.0 in
    let q = more_again args t.1 in
    let pieces = p.pieces ++ q.pieces in
    let cut = join_cut true true (arg_text x) (more_text arg_text args) p.pieces q.pieces p.cut (more_joins arg_text args) q.cut in
    writes_seq open_paren tt (record {
      pieces = pieces ++ close_paren.pieces;
      cut = join_cut true false (arg_text x ++ more_text arg_text args) (codes ")") pieces close_paren.pieces cut (λ r c. refl) close_paren.cut;
      spelled = λ us a.
          let i = parted pieces close_paren.pieces us a in
          let j = parted p.pieces q.pieces i.left i.first in
          let y = p.spelled j.left j.first [] in
          let z = q.spelled j.right j.second (y.arg ∷ []) in
          let stands : List Arg = y.arg ∷ z.stands in
          let e : SameArguments (x ∷ args) stands = ap (λ m. m ∷ map unlined_argument args) y.same ∙ ap (λ l. unlined_argument y.arg ∷ l) z.same in (
            stands,
            (
              e,
              inr (record {
                value = stands;
                left = i.left;
                right = i.right;
                parts = i.parts;
                first = record { value = y.arg ∷ []; left = j.left; right = j.right; parts = j.parts; first = y.spelled; second = z.spelled };
                second = giving_text (λ _. stands) i.right tt (close_paren.spelled i.right i.second);
              }),
            ),
          );
    })

-- ---- the body of the function

writes_ended : {A C : Type 0} {o m : Bool} {a b : List ℕ} {L : Lang Tok A} {Q : A → Type 0} {close : Tok → Option C} {y : C} → Writes o a L Q → Joins o b m → Prints m b (One close) y → Writes m (a ++ b) (Ended close L) Q
writes_ended {o = o} {m = m} {a = a} {b = b} {y = y} p j q = record {
  pieces = p.pieces ++ q.pieces;
  cut = join_cut o m a b p.pieces q.pieces p.cut j q.cut;
  spelled = λ us h.
      let i = parted p.pieces q.pieces us h in
      let x = p.spelled i.left i.first in
      (x.0, (x.1.0, record { value = x.0; left = i.left; right = i.right; parts = i.parts; first = x.1.1; second = giving_text (λ _. x.0) i.right y (q.spelled i.right i.second) }));
}

abbrev pub returning : ℕ → Stmt
returning line = record { line = line; what = what.Return }

abbrev Returned : Lang Tok (List Stmt)
Returned = Both (Statements (Region [] 39) [] 0) (λ p. Giving (One (lined (word (codes "return")))) (λ l. p.0 ++ returning l.0 ∷ []))

return_word : Prints true (codes "return") (One (word (codes "return"))) tt
return_word = keyword (codes "return") refl refl

-- the line of the `return`
return_cut : (margin : List ℕ) → AllWhite margin → Cuts false (line_text margin (codes "return")) return_word.pieces
unfolding line_text
return_cut margin white = λ rest qs c h.
    let e : margin ++ (codes "return" ++ (10 ∷ rest)) ≡ (margin ++ (codes "return" ++ codes "\n")) ++ rest = simp append_assoc refl in
    subst (λ l. AreCut (after_word []) l (return_word.pieces ++ qs)) e (margin_cut margin (codes "return" ++ (10 ∷ rest)) (return_word.pieces ++ qs) white (return_word.cut (10 ∷ rest) qs refl (cut_blank (after_word []) 10 rest qs refl h)))

return_lines : (margin : List ℕ) (ss : List Stmt) (line : ℕ) → lines margin (nest (ss ++ returning line ∷ [])) ≡ lines margin (nest ss) ++ line_text margin (codes "return")
return_lines margin ss line =
    lines-append margin ss (returning line ∷ [])
    ∙ ap (λ l. lines margin (nest ss) ++ l) (lines-cons margin (returning line) [] ∙ ap (λ t. line_text margin t ++ lines margin (nest [])) (statement-Return margin) ∙ ap (λ l. line_text margin (codes "return") ++ l) (lines-nil margin) ∙ append-nil (line_text margin (codes "return")))

returned_again : (margin : List ℕ) (ss : List Stmt) (line after : ℕ) → AllWhite margin → LinesPrints (Region [] 39) margin ss 0 after → Writes false (lines margin (nest (ss ++ returning line ∷ []))) Returned (λ ts. SameStatements (ss ++ returning line ∷ []) ts)
returned_again margin ss line after white p = record {
  pieces = p.pieces ++ return_word.pieces;
  cut = subst (λ b. Cuts false b (p.pieces ++ return_word.pieces)) (sym (return_lines margin ss line)) (join_cut false false (lines margin (nest ss)) (line_text margin (codes "return")) p.pieces return_word.pieces p.cut tt (return_cut margin white));
  spelled = λ us a.
      let i = parted p.pieces return_word.pieces us a in
      let y = p.spelled i.left i.first [] in
      let r = return_word.spelled i.right i.second in
      let n = r.token.token.line in
      let ts : List Stmt = y.stmts ++ returning n ∷ [] in
      let w : One (lined (word (codes "return"))) i.right (n, tt) = record { token = r.token; alone = r.alone; accepted = ap (with_line n) r.accepted } in (
        ts,
        (
          same_append ss y.stmts (returning line ∷ []) (returning n ∷ []) y.same (same_cons (returning line) (returning n) [] [] refl refl),
          record {
            value = (y.stmts, after);
            left = i.left;
            right = i.right;
            parts = i.parts;
            first = y.spelled;
            second = giving_text (λ (l : ℕ × Unit {0}). y.stmts ++ returning l.0 ∷ []) i.right (n, tt) w;
          },
        ),
      );
}

abbrev four : List ℕ
four = codes "    "

body_again : (ss : List Stmt) (line after : ℕ) → LinesPrints (Region [] 39) four ss 0 after → Writes false (codes "{\n" ++ (lines four (nest (ss ++ returning line ∷ [])) ++ codes "  }")) (FunctionBody []) (λ ts. SameStatements (ss ++ returning line ∷ []) ts)
body_again ss line after p = writes_seq opening tt (writes_ended (returned_again four ss line after (refl, (refl, (refl, (refl, tt)))) p) tt (closing (codes "  ") (refl, (refl, tt))))

-- ---- the function

-- a function of a given text
pub record ToldFunction (m : Module) : Type 0 where
  pub name : IsId m.name
  pub args : ArgumentsFit m.args
  pub stmts : List Stmt
  pub line : ℕ
  pub body : m.body ≡ stmts ++ returning line ∷ []
  pub after : ℕ
  pub told : ToldLines (Region [] 39) stmts 0 after

-- the name and the arguments of a module of a given text
pub record HasParts (m : Module) : Type 0 where
  pub name : IsId m.name
  pub args : ArgumentsFit m.args

function_parts : (aliases : List Alias) (m : Module) (f : List Tok) → Given f → Function aliases f m → HasParts m
function_parts aliases m f g h =
    let n = h.second in
    let a = n.second in
    let b = a.second in
    let g1 = given_right f h.left h.right h.parts g in
    let g2 = given_right h.right n.left n.right n.parts g1 in
    subst HasParts (sym b.second.1) (record {
      name = function_given n.first.token n.value (given_one n.left n.first.token n.first.alone (given_left h.right n.left n.right n.parts g1)) n.first.accepted;
      args = arguments_told a.value a.left (given_left n.right a.left a.right a.parts g2) a.first;
    })

pub module_parts : (aliases : List Alias) (m : Module) (f : List Tok) → Given f → ModuleOf aliases f m → HasParts m
module_parts aliases m f g (inr h) = function_parts aliases m f g h
module_parts aliases m f g (inl h) =
    let i = h.second.second in
    let g2 = given_right h.right h.second.left h.second.right h.second.parts (given_right f h.left h.right h.parts g) in
    subst HasParts (sym i.second.second.1) (function_parts aliases i.value i.left (given_left h.second.right i.left i.right i.parts g2) i.first)

-- a module that tokens spell
abbrev Same : Module → Module → Type 0
Same m n = AreSameButLines m n

args_body : (m : Module) → Writes false (codes "(" ++ (listed arg_text m.args ++ codes ")")) Arguments (SameArguments m.args) → Writes false (codes "{\n" ++ (lines four (nest m.body) ++ codes "  }")) (FunctionBody []) (λ ts. SameStatements m.body ts)
    → Writes false ((codes "(" ++ (listed arg_text m.args ++ codes ")")) ++ (32 ∷ (codes "{\n" ++ (lines four (nest m.body) ++ codes "  }")))) (Both Arguments (λ args. Giving (FunctionBody []) (λ ss. record { name = m.name; args = args; body = ss }))) (Same m)
args_body m p r =
    let q = writes_blank r in
    record {
      pieces = p.pieces ++ q.pieces;
      cut = join_cut false false (codes "(" ++ (listed arg_text m.args ++ codes ")")) (32 ∷ (codes "{\n" ++ (lines four (nest m.body) ++ codes "  }"))) p.pieces q.pieces p.cut tt q.cut;
      spelled = λ us a.
          let i = parted p.pieces q.pieces us a in
          let x = p.spelled i.left i.first in
          let y = q.spelled i.right i.second in
          let n : Module = record { name = m.name; args = x.0; body = y.0 } in
          (n, (record { name = refl; args = x.1.0; body = y.1.0 }, record { value = x.0; left = i.left; right = i.right; parts = i.parts; first = x.1.1; second = giving_text (λ (ss : List Stmt). let o : Module = record { name = m.name; args = x.0; body = ss } in o) i.right y.0 y.1.1 }));
    }

-- ---- the file

module_lists : (w s o i f at name lp args rp inner cb e : List ℕ)
    → w ++ (s ++ ((o ++ i) ++ ((f ++ (s ++ ((at ++ name) ++ ((lp ++ (args ++ rp)) ++ (s ++ (o ++ (inner ++ cb))))))) ++ e))) ≡ (w ++ (s ++ o)) ++ (((i ++ (f ++ (s ++ at))) ++ (name ++ (lp ++ (args ++ (rp ++ (s ++ o)))))) ++ (inner ++ (cb ++ e)))
module_lists w s o i f at name lp args rp inner cb e = simp append_assoc refl

module_pieces : (name args inner : List ℕ) → codes "module" ++ (32 ∷ (codes "{\n  " ++ ((codes "func.func" ++ (32 ∷ ((64 ∷ name) ++ ((codes "(" ++ (args ++ codes ")")) ++ (32 ∷ (codes "{\n" ++ (inner ++ codes "  }"))))))) ++ codes "\n}\n"))) ≡ codes "module {\n" ++ ((codes "  func.func @" ++ (name ++ (codes "(" ++ (args ++ codes ") {\n")))) ++ (inner ++ codes "  }\n}\n"))
module_pieces name args inner = module_lists (codes "module") (codes " ") (codes "{\n") (codes "  ") (codes "func.func") (codes "@") name (codes "(") args (codes ")") inner (codes "  }") (codes "\n}\n")

-- the brace, line feed and margin before the function, and the brace and line feeds behind it
module_opening : Prints false (codes "{\n  ") (One (sign 123)) tt
module_opening = record { pieces = open_brace.pieces; cut = λ rest qs c h. open_brace.cut (10 ∷ 32 ∷ 32 ∷ rest) qs tt (cut_blank (after_word []) 10 (32 ∷ 32 ∷ rest) qs refl (cut_blank (after_word []) 32 (32 ∷ rest) qs refl (cut_blank (after_word []) 32 rest qs refl h))); spelled = open_brace.spelled }

module_closing : Prints false (codes "\n}\n") (One (sign 125)) tt
module_closing = record { pieces = close_brace.pieces; cut = λ rest qs c h. cut_blank (after_word []) 10 (125 ∷ 10 ∷ rest) (close_brace.pieces ++ qs) refl (close_brace.cut (10 ∷ rest) qs tt (cut_blank (after_word []) 10 rest qs refl h)); spelled = close_brace.spelled }

pub module_again : (m : Module) → ToldFunction m → ModuleNests m → Writes false (spelling m) File (AreSameButLines m)
unfolding spelling head_text args_text
module_again m t n =
    let lines_told : LinesPrints (Region [] 39) four t.stmts 0 t.after = t.told.again four (refl, (refl, (refl, (refl, tt)))) (omega arith) (append_nests t.stmts (returning t.line ∷ []) (subst (λ ss. StatementsNest (nest ss)) t.body n)).0 in
    let inner : Writes false (codes "{\n" ++ (lines four (nest m.body) ++ codes "  }")) (FunctionBody []) (λ ts. SameStatements m.body ts) = subst (λ ss. Writes false (codes "{\n" ++ (lines four (nest ss) ++ codes "  }")) (FunctionBody []) (λ ts. SameStatements ss ts)) (sym t.body) (body_again t.stmts t.line t.after lines_told) in
    let args = arguments_again m.args t.args in
    let name = function_prints m.name t.name in
    let function : Writes false (codes "func.func" ++ (32 ∷ ((64 ∷ m.name) ++ ((codes "(" ++ (listed arg_text m.args ++ codes ")")) ++ (32 ∷ (codes "{\n" ++ (lines four (nest m.body) ++ codes "  }"))))))) (Function []) (Same m) =
    writes_seq (keyword (codes "func.func") refl refl) (λ r c. refl) (writes_blank (writes_seq name (λ r c. refl) (args_body m args inner))) in
    let wrapped = writes_seq (keyword (codes "module") refl refl) (λ r c. refl) (writes_blank (writes_seq module_opening tt (writes_ended function tt module_closing))) in
    let file : Writes false (codes "module" ++ (32 ∷ (codes "{\n  " ++ ((codes "func.func" ++ (32 ∷ ((64 ∷ m.name) ++ ((codes "(" ++ (listed arg_text m.args ++ codes ")")) ++ (32 ∷ (codes "{\n" ++ (lines four (nest m.body) ++ codes "  }"))))))) ++ codes "\n}\n")))) File (Same m) =
    record { pieces = wrapped.pieces; cut = wrapped.cut; spelled = λ us a. let y = wrapped.spelled us a in (y.0, (y.1.0, record { value = []; left = []; right = us; parts = refl; first = none [] [] refl; second = inl y.1.1 })) } in
    writes_as file (module_pieces m.name (listed arg_text m.args) (lines four (nest m.body)))
