-- Statements with regions, and lists of statements, are spelled again.
use Rattle.std.proofs.Common.{◌≡◌, ℕ, suc, ◌≤◌, Bool, true, false, List, [], ◌∷◌, ◌++◌, Option, Some, None, codes, refl, sym, ap, ◌∙◌, subst, append_assoc, append-nil, inl, inr}
use Rattle.readers.specs.Languages.{Lang, One, Both, Many, none, more, Giving, Optional}
use Rattle.readers.proofs.Texts.{giving_text}
use Rattle.affine_lex.specs.Scan.{after_word}
use Rattle.affine_lex.proofs.Written.{Piece, AreCut, cut_blank}
use Rattle.affine_expr.specs.declared.map.Set.{Set}
use Rattle.affine_ast.specs.declared.name.Name.{Name}
use Rattle.affine_ast.specs.declared.stmt.Stmt.{Stmt}
use Rattle.affine_ast.specs.declared.stmt.What.{What}
use Rattle.affine_ast.specs.declared.stmt.What.TheVariants as what
use Rattle.affine_ast.specs.Nest.{Nothing as NoStatement, Loop, Branch, put_what, nest}
use Rattle.affine_ast.specs.Spelling.{name_text, statement_text, lines, line_text, deeper, block_text, for_text, named_text, bounds_text, step_text, if_text, set_text, else_text, opening_text, rows_text, operands_text}
use Rattle.affine_ast.proofs.Spellings.{statement-For, statement-If, statement-If-else, lines-nil, lines-cons}
use Rattle.affine_ast.proofs.Nests.{put-For, put-If, put-If-else}
use Rattle.affine_grammar.specs.declared.words.Turns.{Turns}
use Rattle.affine_grammar.specs.Token.{Tok, sign, value, lined, with_line, definition_word, action_word}
use Rattle.affine_grammar.specs.Grammar.{SomeSet}
use Rattle.affine_grammar.specs.GrammarFile.{Regions, Defined, Acted, Else, behind, Statement, Statements, Region}
use Rattle.printed_texts.specs.Nesting.{StatementsNest}
use Rattle.printed_texts.specs.Lines.{unlined}
use Rattle.printed_texts.proofs.Pieces.{Are, parted, is_white, Joins, Cuts, join_cut, Prints, seq, in_right, blank_before, blank_behind}
use Rattle.printed_texts.proofs.Marks.{keyword, equals_sign, open_brace, close_brace}
use Rattle.printed_texts.proofs.Given.{IsWritten, value_prints}
use Rattle.printed_texts.proofs.Maps.{set_head_text}
use Rattle.printed_texts.proofs.Uses.{UsedSet, ToldOperands, operands_again}
use Rattle.printed_texts.proofs.Bounds.{ToldTurns}
use Rattle.printed_texts.proofs.Plain.{ToldDefinition, ToldAction, for_word, if_word}
use Rattle.printed_texts.proofs.Unlined.{unlined_what, SameStatements, same_cons, first_nests}

-- ---- bytes that spell some value

-- the bytes are cut into tokens that spell a value with this property, which their lines have a part in
pub record Writes {A : Type 0} (o : Bool) (b : List ℕ) (L : Lang Tok A) (Q : A → Type 0) : Type 0 where
  pub pieces : List Piece
  pub cut : Cuts o b pieces
  pub spelled : (us : List Tok) → Are pieces us → (x : A) × (Q x × L us x)

pub writes_seq : {A B : Type 0} {o m : Bool} {a b : List ℕ} {L : Lang Tok A} {K : A → Lang Tok B} {x : A} {Q : B → Type 0} → Prints o a L x → Joins o b m → Writes m b (K x) Q → Writes m (a ++ b) (Both L K) Q
writes_seq {o = o} {m = m} {a = a} {b = b} {x = x} p j q = record {
  pieces = p.pieces ++ q.pieces;
  cut = join_cut o m a b p.pieces q.pieces p.cut j q.cut;
  spelled = λ us h.
      let i = parted p.pieces q.pieces us h in
      let y = q.spelled i.right i.second in
      (y.0, (y.1.0, record { value = x; left = i.left; right = i.right; parts = i.parts; first = p.spelled i.left i.first; second = y.1.1 }));
}

pub writes_giving : {A B : Type 0} {o : Bool} {b : List ℕ} {L : Lang Tok A} {Q : A → Type 0} (P : B → Type 0) (f : A → B) → ((x : A) → Q x → P (f x)) → Writes o b L Q → Writes o b (Giving L f) P
writes_giving P f g p = record { pieces = p.pieces; cut = p.cut; spelled = λ us h. let x = p.spelled us h in (f x.0, (g x.0 x.1.0, giving_text f us x.0 x.1.1)) }

pub writes_as : {A : Type 0} {o : Bool} {a b : List ℕ} {L : Lang Tok A} {Q : A → Type 0} → Writes o a L Q → a ≡ b → Writes o b L Q
writes_as {o = o} {L = L} {Q = Q} p e = subst (λ b. Writes o b L Q) e p

pub writes_blank : {A : Type 0} {o : Bool} {b : List ℕ} {L : Lang Tok A} {Q : A → Type 0} → Writes o b L Q → Writes o (32 ∷ b) L Q
writes_blank {b = b} p = record { pieces = p.pieces; cut = λ rest qs c h. cut_blank (after_word []) 32 (b ++ rest) (p.pieces ++ qs) refl (p.cut rest qs c h); spelled = p.spelled }

pub loosen_writes : {A : Type 0} {b : List ℕ} {L : Lang Tok A} {Q : A → Type 0} → Writes false b L Q → Writes true b L Q
loosen_writes p = record { pieces = p.pieces; cut = λ rest qs c h. p.cut rest qs tt h; spelled = p.spelled }

-- ---- margins

abbrev pub AllWhite : List ℕ → Type 0
AllWhite [] = Unit {0}
AllWhite (b ∷ bs) = (is_white b ≡ true) × AllWhite bs

pub margin_cut : (margin rest : List ℕ) (qs : List Piece) → AllWhite margin → AreCut (after_word []) rest qs → AreCut (after_word []) (margin ++ rest) qs
margin_cut [] rest qs w h = h
margin_cut (b ∷ margin) rest qs w h = cut_blank (after_word []) b (margin ++ rest) qs w.0 (margin_cut margin rest qs w.1 h)

deeper_white : (margin : List ℕ) → AllWhite margin → AllWhite (deeper margin)
unfolding deeper
deeper_white margin w = white_append margin w
  where
    white_append : (m : List ℕ) → AllWhite m → AllWhite (m ++ codes "  ")
    white_append [] w = (refl, (refl, tt))
    white_append (b ∷ m) w = (w.0, white_append m w.1)

-- ---- one statement

-- a statement that tokens spell, behind others
pub record SpelledStatement (R : Regions) (w : What) (total after : ℕ) (us : List Tok) (acc : List Stmt) : Type 0 where
  pub what : What
  pub line : ℕ
  pub same : unlined_what w ≡ unlined_what what
  pub spelled : Statement R [] (acc, total) us (acc ++ record { line = line; what = what } ∷ [], after)

pub record StatementPrints (R : Regions) (margin : List ℕ) (w : What) (total after : ℕ) : Type 0 where
  pub pieces : List Piece
  pub cut : Cuts true (statement_text margin w) pieces
  pub spelled : (us : List Tok) → Are pieces us → (acc : List Stmt) → SpelledStatement R w total after us acc

-- a statement of a given text
pub record ToldStatement (R : Regions) (w : What) (total after : ℕ) : Type 0 where
  pub small : total ≤ 1048576 → after ≤ 1048576
  pub again : (margin : List ℕ) → AllWhite margin → total ≤ 1048576 → (line : ℕ) → StatementsNest (put_what w line NoStatement) → StatementPrints R margin w total after

-- its line is that of its first token
defined_spelled : (R : Regions) (total after : ℕ) (w : What) (us : List Tok) (acc : List Stmt) → Both (One value) (λ r. Both (One (sign 61)) (λ _. Both (One definition_word) (λ d. Defined [] total r d))) us (w, after) → SpelledStatement R w total after us acc
defined_spelled R total after w us acc h =
    let line = h.first.token.token.line in
    let i = h.second in
    let j = i.second in
    record {
      what = w;
      line = line;
      same = refl;
      spelled = inl (record {
        value = (line, h.value);
        left = h.left;
        right = h.right;
        parts = h.parts;
        first = record { token = h.first.token; alone = h.first.alone; accepted = ap (with_line line) h.first.accepted };
        second = record { value = i.value; left = i.left; right = i.right; parts = i.parts; first = i.first; second = record { value = j.value; left = j.left; right = j.right; parts = j.parts; first = j.first; second = giving_text (behind acc line) j.right (w, after) j.second } };
      });
    }

acted_spelled : (R : Regions) (total after : ℕ) (w v : What) (us : List Tok) (acc : List Stmt) → unlined_what w ≡ unlined_what v → Both (One action_word) (λ a. Acted R [] total a) us (v, after) → SpelledStatement R w total after us acc
acted_spelled R total after w v us acc e h =
    let line = h.first.token.token.line in
    record {
      what = v;
      line = line;
      same = e;
      spelled = inr (record {
        value = (line, h.value);
        left = h.left;
        right = h.right;
        parts = h.parts;
        first = record { token = h.first.token; alone = h.first.alone; accepted = ap (with_line line) h.first.accepted };
        second = giving_text (behind acc line) h.right (v, after) h.second;
      });
    }

pub defined_told : (R : Regions) (r : Name) (w : What) (total after : ℕ) → IsWritten r → ToldDefinition r w total after → ToldStatement R w total after
defined_told R r w total after n t = record {
  small = t.small;
  again = λ margin white h line k.
      let p : Prints true (name_text r ++ (codes " = " ++ t.text)) (Both (One value) (λ r. Both (One (sign 61)) (λ _. Both (One definition_word) (λ d. Defined [] total r d)))) (w, after) =
      seq (value_prints r n) (λ r c. refl) (seq (blank_before (blank_behind equals_sign)) tt (t.again h line k)) in
      record { pieces = p.pieces; cut = subst (λ b. Cuts true b p.pieces) (sym (t.text_is margin)) p.cut; spelled = λ us a acc. defined_spelled R total after w us acc (p.spelled us a) };
}

pub action_told : (R : Regions) (w : What) (total after : ℕ) → ToldAction R w total after → ToldStatement R w total after
action_told R w total after t = record {
  small = t.small;
  again = λ margin white h line k.
      let p = t.again h line k in
      record { pieces = p.pieces; cut = subst (λ b. Cuts true b p.pieces) (sym (t.text_is margin)) p.cut; spelled = λ us a acc. acted_spelled R total after w w us acc refl (p.spelled us a) };
}

-- a statement without a result, which the lines have a part in
abbrev ActsLike : What → ℕ → What × ℕ → Type 0
ActsLike w after p = (unlined_what w ≡ unlined_what p.0) × (p.1 ≡ after)

acts_prints : (R : Regions) (margin : List ℕ) (w : What) (total after : ℕ) → Writes true (statement_text margin w) (Both (One action_word) (λ a. Acted R [] total a)) (ActsLike w after) → StatementPrints R margin w total after
acts_prints R margin w total after p = record {
  pieces = p.pieces;
  cut = p.cut;
  spelled = λ us a acc.
      let x = p.spelled us a in
      acted_spelled R total after w x.0.0 us acc x.1.0.0 (subst (λ n. Both (One action_word) (λ a. Acted R [] total a) us (x.0.0, n)) x.1.0.1 x.1.1);
}

-- ---- lists of statements

-- statements that tokens spell, behind others
pub record SpelledLines (R : Regions) (ss : List Stmt) (total after : ℕ) (us : List Tok) (acc : List Stmt) : Type 0 where
  pub stmts : List Stmt
  pub same : SameStatements ss stmts
  pub spelled : Many (Statement R []) (acc, total) us (acc ++ stmts, after)

pub record LinesPrints (R : Regions) (margin : List ℕ) (ss : List Stmt) (total after : ℕ) : Type 0 where
  pub pieces : List Piece
  pub cut : Cuts false (lines margin (nest ss)) pieces
  pub spelled : (us : List Tok) → Are pieces us → (acc : List Stmt) → SpelledLines R ss total after us acc

pub record ToldLines (R : Regions) (ss : List Stmt) (total after : ℕ) : Type 0 where
  pub small : total ≤ 1048576 → after ≤ 1048576
  pub again : (margin : List ℕ) → AllWhite margin → total ≤ 1048576 → StatementsNest (nest ss) → LinesPrints R margin ss total after

lines_none : (R : Regions) (margin : List ℕ) (total : ℕ) → LinesPrints R margin [] total total
lines_none R margin total = record {
  pieces = [];
  cut = subst (λ b. Cuts false b []) (sym (lines-nil margin)) (λ rest qs c h. h);
  spelled = λ us a acc. record { stmts = []; same = refl; spelled = subst (λ l. Many (Statement R []) (acc, total) us (l, total)) (sym (append-nil acc)) (none (acc, total) us a) };
}

line_cut : (R : Regions) (margin : List ℕ) (w : What) (total middle : ℕ) → AllWhite margin → (p : StatementPrints R margin w total middle) → Cuts false (line_text margin (statement_text margin w)) p.pieces
unfolding line_text
line_cut R margin w total middle white p = λ rest qs c h.
    let e : margin ++ (statement_text margin w ++ (10 ∷ rest)) ≡ (margin ++ (statement_text margin w ++ codes "\n")) ++ rest = simp append_assoc refl in
    subst (λ l. AreCut (after_word []) l (p.pieces ++ qs)) e (margin_cut margin (statement_text margin w ++ (10 ∷ rest)) (p.pieces ++ qs) white (p.cut (10 ∷ rest) qs refl (cut_blank (after_word []) 10 rest qs refl h)))

lines_more : (R : Regions) (margin : List ℕ) (s : Stmt) (ss : List Stmt) (total middle after : ℕ) → AllWhite margin → StatementPrints R margin s.what total middle → LinesPrints R margin ss middle after → LinesPrints R margin (s ∷ ss) total after
lines_more R margin s ss total middle after white p q = record {
  pieces = p.pieces ++ q.pieces;
  cut = subst (λ b. Cuts false b (p.pieces ++ q.pieces)) (sym (lines-cons margin s ss)) (join_cut false false (line_text margin (statement_text margin s.what)) (lines margin (nest ss)) p.pieces q.pieces (line_cut R margin s.what total middle white p) tt q.cut);
  spelled = λ us a acc.
      let i = parted p.pieces q.pieces us a in
      let x = p.spelled i.left i.first acc in
      let t : Stmt = record { line = x.line; what = x.what } in
      let y = q.spelled i.right i.second (acc ++ t ∷ []) in
      record {
        stmts = t ∷ y.stmts;
        same = same_cons s t ss y.stmts x.same y.same;
        spelled = subst (λ l. Many (Statement R []) (acc, total) us (l, after)) (append_assoc acc (t ∷ []) y.stmts) (more (acc, total) (acc ++ t ∷ [], middle) ((acc ++ t ∷ []) ++ y.stmts, after) us i.left i.right i.parts x.spelled y.spelled);
      };
}

pub told_none : (R : Regions) (total : ℕ) → ToldLines R [] total total
told_none R total = record { small = λ h. h; again = λ margin white h n. lines_none R margin total }

pub told_more : (R : Regions) (s : Stmt) (ss : List Stmt) (total middle after : ℕ) → ToldStatement R s.what total middle → ToldLines R ss middle after → ToldLines R (s ∷ ss) total after
told_more R s ss total middle after t r = record {
  small = λ h. r.small (t.small h);
  again = λ margin white h n.
      let k = first_nests s ss n in
      lines_more R margin s ss total middle after white (t.again margin white h s.line k.0) (r.again margin white (t.small h) k.1);
}

-- ---- regions

abbrev pub region_text : List ℕ → List Stmt → List ℕ
region_text margin ss = codes "{\n" ++ (lines (deeper margin) (nest ss) ++ (margin ++ codes "}"))

abbrev SpellsRegion : List Stmt → ℕ → List Stmt × ℕ → Type 0
SpellsRegion ss after p = SameStatements ss p.0 × (p.1 ≡ after)

abbrev RegionPrints : Regions → List ℕ → List Stmt → ℕ → ℕ → Type 0
RegionPrints R margin ss total after = Writes false (region_text margin ss) (R total) (SpellsRegion ss after)

pub record ToldRegion (R : Regions) (ss : List Stmt) (total after : ℕ) : Type 0 where
  pub small : total ≤ 1048576 → after ≤ 1048576
  pub again : (margin : List ℕ) → AllWhite margin → total ≤ 1048576 → StatementsNest (nest ss) → RegionPrints R margin ss total after

-- the brace and line feed that open a region, and the brace that closes it
pub opening : Prints false (codes "{\n") (One (sign 123)) tt
opening = record { pieces = open_brace.pieces; cut = λ rest qs c h. open_brace.cut (10 ∷ rest) qs tt (cut_blank (after_word []) 10 rest qs refl h); spelled = open_brace.spelled }

pub closing : (margin : List ℕ) → AllWhite margin → Prints false (margin ++ codes "}") (One (sign 125)) tt
closing margin white = record {
  pieces = close_brace.pieces;
  cut = λ rest qs c h. subst (λ l. AreCut (after_word []) l (close_brace.pieces ++ qs)) (sym (append_assoc margin (codes "}") rest)) (margin_cut margin (125 ∷ rest) (close_brace.pieces ++ qs) white (close_brace.cut rest qs tt h));
  spelled = close_brace.spelled;
}

-- statements, and what closes them
lines_then : (R : Regions) (margin : List ℕ) (ss : List Stmt) (total after : ℕ) {A B : Type 0} {o : Bool} {b : List ℕ} {L : Lang Tok A} {x : A} (make : List Stmt × ℕ → A → B) → LinesPrints R margin ss total after → Prints o b L x
    → Writes o (lines margin (nest ss) ++ b) (Both (Statements R [] total) (λ p. Giving L (make p))) (λ y. (ts : List Stmt) × (SameStatements ss ts × (y ≡ make (ts, after) x)))
lines_then R margin ss total after {o = o} {b = b} {x = x} make p q = record {
  pieces = p.pieces ++ q.pieces;
  cut = join_cut false o (lines margin (nest ss)) b p.pieces q.pieces p.cut tt q.cut;
  spelled = λ us a.
      let i = parted p.pieces q.pieces us a in
      let y = p.spelled i.left i.first [] in
      (make (y.stmts, after) x, ((y.stmts, (y.same, refl)), record { value = (y.stmts, after); left = i.left; right = i.right; parts = i.parts; first = y.spelled; second = giving_text (make (y.stmts, after)) i.right x (q.spelled i.right i.second) }));
}

region_of : (left : ℕ) (margin : List ℕ) (ss : List Stmt) (total after : ℕ) → AllWhite margin → LinesPrints (Region [] left) (deeper margin) ss total after → RegionPrints (Region [] (suc left)) margin ss total after
region_of left margin ss total after white p =
    let inner = lines_then (Region [] left) (deeper margin) ss total after (λ p _. p) p (closing margin white) in
    let whole = writes_seq opening tt inner in
    record { pieces = whole.pieces; cut = whole.cut; spelled = λ us a. let y = whole.spelled us a in (y.0, ((subst (λ (q : List Stmt × ℕ). SameStatements ss q.0) (sym y.1.0.1.1) y.1.0.1.0, ap (λ (q : List Stmt × ℕ). q.1) y.1.0.1.1), y.1.1)) }

-- ---- loops

-- the pieces of a loop, one behind the other
for_pieces : (w v k b s o l m c : List ℕ) → ((w ++ v) ++ (k ++ (b ++ (s ++ (32 ∷ o))))) ++ (l ++ (m ++ c)) ≡ w ++ (v ++ (k ++ ((b ++ s) ++ (32 ∷ (o ++ (l ++ (m ++ c)))))))
for_pieces w v k b s o l m c = simp append_assoc refl

loop_same : (v : Name) (t : Turns) (body stmts : List Stmt) → SameStatements body stmts → unlined_what (what.For v t.lower t.upper t.step body) ≡ unlined_what (what.For v t.lower t.upper t.step stmts)
unfolding unlined_what
loop_same v t body stmts h =
    ap unlined (put-For 0 NoStatement v t.lower t.upper t.step body) ∙ ap (λ n. Loop 0 v t.lower t.upper t.step n NoStatement) h ∙ sym (ap unlined (put-For 0 NoStatement v t.lower t.upper t.step stmts))

pub loop_told : (left : ℕ) (v : Name) (t : Turns) (body : List Stmt) (total after : ℕ) → IsWritten v → ToldTurns t total → ToldRegion (Region [] left) body t.total after → ToldStatement (Region [] left) (what.For v t.lower t.upper t.step body) total after
unfolding for_text named_text block_text
loop_told left v t body total after n turns region = record { small = λ h. region.small (turns.small h); again = again }
  where
    w : What
    w = what.For v t.lower t.upper t.step body

    make : List Stmt × ℕ → What × ℕ
    make p = (what.For v t.lower t.upper t.step p.0, p.1)

    again : (margin : List ℕ) → AllWhite margin → total ≤ 1048576 → (line : ℕ) → StatementsNest (put_what w line NoStatement) → StatementPrints (Region [] left) margin w total after
    again margin white h line k =
        let m = subst StatementsNest (put-For line NoStatement v t.lower t.upper t.step body) k in
        let inner : Writes false (region_text margin body) (Giving (Region [] left t.total) (λ (p : List Stmt × ℕ). let x : What × ℕ = (what.For v t.lower t.upper t.step p.0, p.1) in x)) (ActsLike w after) =
        writes_giving (ActsLike w after) (λ (p : List Stmt × ℕ). let x : What × ℕ = (what.For v t.lower t.upper t.step p.0, p.1) in x) (λ x q. (loop_same v t body x.0 q.0, q.1)) (region.again margin white (turns.small h) m.2) in
        let whole : Writes false (codes "affine.for " ++ (name_text v ++ (codes " = " ++ ((bounds_text t.lower t.upper ++ step_text t.step) ++ (32 ∷ region_text margin body))))) (Both (One action_word) (λ a. Acted (Region [] left) [] total a)) (ActsLike w after) =
        writes_seq for_word tt (writes_seq (value_prints v n) (λ r c. refl) (writes_seq (blank_before (blank_behind equals_sign)) tt (writes_seq (turns.again h m.0 m.1) (λ r c. refl) (writes_blank inner)))) in
        let e = for_pieces (codes "affine.for ") (name_text v) (codes " = ") (bounds_text t.lower t.upper) (step_text t.step) (codes "{\n") (lines (deeper margin) (nest body)) margin (codes "}") in
        acts_prints (Region [] left) margin w total after (loosen_writes (writes_as whole (sym e ∙ sym (statement-For margin v t.lower t.upper t.step body))))

-- ---- conditions

if_pieces : (w h i x o l m c : List ℕ) → (w ++ ((h ++ (i ++ x)) ++ (32 ∷ o))) ++ (l ++ (m ++ c)) ≡ w ++ ((h ++ i) ++ (x ++ (32 ∷ (o ++ (l ++ (m ++ c))))))
if_pieces w h i x o l m c = simp append_assoc refl

else_pieces : (w h i x o l m c e k : List ℕ) → (w ++ ((h ++ (i ++ x)) ++ (32 ∷ o))) ++ ((l ++ (m ++ ((c ++ e) ++ k))) ++ (m ++ c)) ≡ w ++ ((h ++ i) ++ (x ++ (32 ∷ ((o ++ (l ++ (m ++ c))) ++ (e ++ (k ++ (m ++ c)))))))
else_pieces w h i x o l m c e k = simp append_assoc refl

if_same : (set : Set) (vs : List Name) (first stmts : List Stmt) → SameStatements first stmts → unlined_what (what.If set vs first None) ≡ unlined_what (what.If set vs stmts None)
unfolding unlined_what
if_same set vs first stmts h =
    ap unlined (put-If 0 NoStatement set vs first) ∙ ap (λ n. Branch 0 set vs n false NoStatement NoStatement) h ∙ sym (ap unlined (put-If 0 NoStatement set vs stmts))

else_same : (set : Set) (vs : List Name) (first stmts other more_stmts : List Stmt) → SameStatements first stmts → SameStatements other more_stmts → unlined_what (what.If set vs first (Some other)) ≡ unlined_what (what.If set vs stmts (Some more_stmts))
unfolding unlined_what
else_same set vs first stmts other more_stmts h i =
    ap unlined (put-If-else 0 NoStatement set vs first other) ∙ ap (λ n. Branch 0 set vs n true (unlined (nest other)) NoStatement) h ∙ ap (λ n. Branch 0 set vs (unlined (nest stmts)) true n NoStatement) i ∙ sym (ap unlined (put-If-else 0 NoStatement set vs stmts more_stmts))

-- what stands behind the operands of a condition
abbrev Rest : Regions → Set → List Name → ℕ → Lang Tok (What × ℕ)
Rest R set vs total = Both (R total) (λ q. Giving (Optional (Else R q.1) (None, q.1)) (λ r. (what.If set vs q.0 r.0, r.1)))

one_region : (R : Regions) (set : Set) (vs : List Name) (margin : List ℕ) (first : List Stmt) (total after : ℕ) → RegionPrints R margin first total after → Writes false (region_text margin first) (Rest R set vs total) (ActsLike (what.If set vs first None) after)
one_region R set vs margin first total after p = record {
  pieces = p.pieces;
  cut = p.cut;
  spelled = λ us a.
      let y = p.spelled us a in
      let q = y.0 in
      ((what.If set vs q.0 None, q.1), ((if_same set vs first q.0 y.1.0.0, y.1.0.1), record { value = q; left = us; right = []; parts = sym (append-nil us); first = y.1.1; second = giving_text (λ (r : Option (List Stmt) × ℕ). (what.If set vs q.0 r.0, r.1)) [] (None, q.1) (inr (refl, refl)) }));
}

else_region : (R : Regions) (margin : List ℕ) (other : List Stmt) (total after : ℕ) → RegionPrints R margin other total after → Writes false (codes " else " ++ region_text margin other) (Else R total) (λ p. (ts : List Stmt) × ((p ≡ (Some ts, after)) × SameStatements other ts))
else_region R margin other total after p =
    writes_seq (blank_before (blank_behind (keyword (codes "else") refl refl))) tt
    (writes_giving (λ p. (ts : List Stmt) × ((p ≡ (Some ts, after)) × SameStatements other ts)) (λ (p : List Stmt × ℕ). (Some p.0, p.1)) (λ x q. (x.0, (ap (λ n. (Some x.0, n)) q.1, q.0))) p)

two_regions : (R : Regions) (set : Set) (vs : List Name) (margin : List ℕ) (first other : List Stmt) (total middle after : ℕ) → RegionPrints R margin first total middle → RegionPrints R margin other middle after
    → Writes false (region_text margin first ++ (codes " else " ++ region_text margin other)) (Rest R set vs total) (ActsLike (what.If set vs first (Some other)) after)
two_regions R set vs margin first other total middle after p o = record {
  pieces = p.pieces ++ q.pieces;
  cut = join_cut false false (region_text margin first) (codes " else " ++ region_text margin other) p.pieces q.pieces p.cut tt q.cut;
  spelled = spelled;
}
  where
    q : Writes false (codes " else " ++ region_text margin other) (Else R middle) (λ p. (ts : List Stmt) × ((p ≡ (Some ts, after)) × SameStatements other ts))
    q = else_region R margin other middle after o

    spelled : (us : List Tok) → Are (p.pieces ++ q.pieces) us → (x : What × ℕ) × (ActsLike (what.If set vs first (Some other)) after x × Rest R set vs total us x)
    spelled us a =
        let i = parted p.pieces q.pieces us a in
        let y = p.spelled i.left i.first in
        let z = q.spelled i.right i.second in
        let b = y.0 in
        let ts = z.1.0.0 in
        let e : Else R b.1 i.right (Some ts, after) = subst (λ n. Else R n i.right (Some ts, after)) (sym y.1.0.1) (subst (λ r. Else R middle i.right r) z.1.0.1.0 z.1.1) in
        ((what.If set vs b.0 (Some ts), after), ((else_same set vs first b.0 other ts y.1.0.0 z.1.0.1.1, refl), record { value = b; left = i.left; right = i.right; parts = i.parts; first = y.1.1; second = giving_text (λ (r : Option (List Stmt) × ℕ). (what.If set vs b.0 r.0, r.1)) i.right (Some ts, after) (inl e) }))

pub if_told : (left : ℕ) (set : Set) (vs : List Name) (first : List Stmt) (total middle after : ℕ) → UsedSet set total middle → ToldOperands set.dims set.syms vs → ToldRegion (Region [] left) first middle after → ToldStatement (Region [] left) (what.If set vs first None) total after
unfolding if_text set_text block_text operands_text
if_told left set vs first total middle after s o region = record { small = λ h. region.small (s.small h); again = again }
  where
    again : (margin : List ℕ) → AllWhite margin → total ≤ 1048576 → (line : ℕ) → StatementsNest (put_what (what.If set vs first None) line NoStatement) → StatementPrints (Region [] left) margin (what.If set vs first None) total after
    again margin white h line k =
        let m = subst StatementsNest (put-If line NoStatement set vs first) k in
        let x : Prints true (set_head_text set) (SomeSet [] total) (set, middle) = in_right (s.again (s.small h) m.0) in
        let inner = one_region (Region [] left) set vs margin first middle after (region.again margin white (s.small h) m.1) in
        let whole : Writes false (codes "affine.if " ++ (set_head_text set ++ (operands_text set.dims vs ++ (32 ∷ region_text margin first)))) (Both (One action_word) (λ a. Acted (Region [] left) [] total a)) (ActsLike (what.If set vs first None) after) =
        writes_seq if_word tt (writes_seq x (λ r c. refl) (writes_seq (operands_again set.dims set.syms vs o) tt (writes_blank inner))) in
        let e = if_pieces (codes "affine.if ") (opening_text (codes "affine_set<") set.dims set.syms) (rows_text set.rows) (operands_text set.dims vs) (codes "{\n") (lines (deeper margin) (nest first)) margin (codes "}") in
        acts_prints (Region [] left) margin (what.If set vs first None) total after (loosen_writes (writes_as whole (sym e ∙ sym (statement-If margin set vs first))))

pub if_else_told : (left : ℕ) (set : Set) (vs : List Name) (first other : List Stmt) (total n1 n2 after : ℕ) → UsedSet set total n1 → ToldOperands set.dims set.syms vs → ToldRegion (Region [] left) first n1 n2 → ToldRegion (Region [] left) other n2 after → ToldStatement (Region [] left) (what.If set vs first (Some other)) total after
unfolding if_text set_text block_text operands_text else_text
if_else_told left set vs first other total n1 n2 after s o region otherwise = record { small = λ h. otherwise.small (region.small (s.small h)); again = again }
  where
    again : (margin : List ℕ) → AllWhite margin → total ≤ 1048576 → (line : ℕ) → StatementsNest (put_what (what.If set vs first (Some other)) line NoStatement) → StatementPrints (Region [] left) margin (what.If set vs first (Some other)) total after
    again margin white h line k =
        let m = subst StatementsNest (put-If-else line NoStatement set vs first other) k in
        let x : Prints true (set_head_text set) (SomeSet [] total) (set, n1) = in_right (s.again (s.small h) m.0) in
        let h1 = s.small h in
        let inner = two_regions (Region [] left) set vs margin first other n1 n2 after (region.again margin white h1 m.1) (otherwise.again margin white (region.small h1) m.2) in
        let whole : Writes false (codes "affine.if " ++ (set_head_text set ++ (operands_text set.dims vs ++ (32 ∷ (region_text margin first ++ (codes " else " ++ region_text margin other)))))) (Both (One action_word) (λ a. Acted (Region [] left) [] total a)) (ActsLike (what.If set vs first (Some other)) after) =
        writes_seq if_word tt (writes_seq x (λ r c. refl) (writes_seq (operands_again set.dims set.syms vs o) tt (writes_blank inner))) in
        let e = else_pieces (codes "affine.if ") (opening_text (codes "affine_set<") set.dims set.syms) (rows_text set.rows) (operands_text set.dims vs) (codes "{\n") (lines (deeper margin) (nest first)) margin (codes "}") (codes " else {\n") (lines (deeper margin) (nest other)) in
        acts_prints (Region [] left) margin (what.If set vs first (Some other)) total after (loosen_writes (writes_as whole (sym e ∙ sym (statement-If-else margin set vs first other))))

-- ---- lines

pub lined_some : {A : Type 0} (p : Tok → Option A) (t : Tok) (x : ℕ × A) → lined p t ≡ Some x → p t ≡ Some x.1
lined_some {A = A} p t x h = by_case (p t) refl h
  where
    by_case : (o : Option A) → p t ≡ o → with_line t.token.line o ≡ Some x → p t ≡ Some x.1
    by_case (Some y) e q = let r : y ≡ x.1 = cc in e ∙ ap (λ z. Some z) r
    by_case None e q = absurd cc

-- the statements of a region are told as lines
pub region_lines : (left : ℕ) (ss : List Stmt) (total after : ℕ) → ToldLines (Region [] left) ss total after → ToldRegion (Region [] (suc left)) ss total after
region_lines left ss total after t = record { small = t.small; again = λ margin white h n. region_of left margin ss total after white (t.again (deeper margin) (deeper_white margin white) h n) }
