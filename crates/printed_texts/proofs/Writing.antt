-- The printed text of a module that may be written spells it.
use Rattle.std.proofs.Common.{◌≡◌, ℕ, zero, suc, ◌+◌, ◌≤◌, true, false, List, [], ◌∷◌, ◌++◌, Some, None, codes, refl, sym, ap, ◌∙◌, subst, arith}
use Rattle.std.specs.Prelude.{All}
use Rattle.affine_ast.specs.declared.module.Module.{Module}
use Rattle.affine_ast.specs.declared.stmt.What as what
use Rattle.affine_ast.specs.declared.stmt.What.{What}
use Rattle.affine_ast.specs.Nest.{Plain, Value, Load, Store, RawLoad, RawStore, Constant, Binary, Cast, Alloc, Dealloc, Start, Wait, Return, Nest, Nothing, Loop, Branch, Does, followed_by, nest}
use Rattle.affine_ast.specs.Spelling.{spelling}
use Rattle.affine_grammar.specs.declared.words.Turns.{Turns}
use Rattle.affine_grammar.specs.GrammarFile.{Regions, Region}
use Rattle.affine_grammar.specs.Spelling.{Spells}
use Rattle.printed_texts.specs.Comments.{AreOnOneLine, comment_lines}
use Rattle.printed_texts.specs.Lines.{AreSameButLines}
use Rattle.printed_texts.specs.Nesting.{PlainNests, StatementsNest, ModuleNests}
use Rattle.printed_texts.specs.Writable.{PlainFits, StatementsFit, operands_in_use, operands_in_rows, operands_in_bound, operands_in_plain, operands_in_nest, MayBeWritten}
use Rattle.printed_texts.proofs.Comments.{comments_gap}
use Rattle.printed_texts.proofs.Bounds.{ToldTurns, turns_of}
use Rattle.printed_texts.proofs.Plain.{value_definition, load_definition, raw_load_definition, constant_definition, binary_definition, cast_definition, alloc_definition, store_action, raw_store_action, dealloc_action, wait_action, start_action}
use Rattle.printed_texts.proofs.Blocks.{ToldStatement, ToldLines, defined_told, action_told, told_none, told_more, region_lines, loop_told, if_told, if_else_told}
use Rattle.printed_texts.proofs.Modules.{ToldFunction}
use Rattle.printed_texts.proofs.Whole.{told_spells_behind}
use Rattle.printed_texts.proofs.Fitting.{use_fits, use_nests, condition_fits, condition_nests, bound_fits, bound_nests, subscripts_fit, subscripts_nest}
use Rattle.printed_texts.proofs.Unnested.{what_of, stmt_of, stmts_of, unnested, stmts_followed}

-- ---- statements without regions

zero_more : (n : ℕ) → n ≡ n + 0
zero_more n = omega arith

three_more : (n a b c : ℕ) → ((n + a) + b) + c ≡ n + (a + (b + c))
three_more n a b c = omega arith

module _ (R : Regions) (total : ℕ) where
  no_more : (w : What) → ToldStatement R w total total → ToldStatement R w total (total + 0)
  no_more w t = subst (λ n. ToldStatement R w total n) (zero_more total) t

  pub plain_fits : (p : Plain) → PlainFits p → total + operands_in_plain p ≤ 1048576 → ToldStatement R (what_of p) total (total + operands_in_plain p)
  plain_fits (Value r pick at) f room =
      let behind = total + operands_in_use at in
      defined_told R r (what.Value r pick at) total behind f.0 (value_definition r total pick at behind (use_fits at total f.1 room))
  plain_fits (Load r m at ty) f room =
      let behind = total + operands_in_use at in
      defined_told R r (what.Load r m at ty) total behind f.0 (load_definition r total m at behind ty f.1 (subscripts_fit at total f.2 room) f.3)
  plain_fits (Store x m at ty) f room =
      let behind = total + operands_in_use at in
      action_told R (what.Store x m at ty) total behind (store_action R total x m at behind ty f.0 f.1 (subscripts_fit at total f.2 room) f.3)
  plain_fits (RawLoad r m at ty) f room = no_more (what.RawLoad r m at ty) (defined_told R r (what.RawLoad r m at ty) total total f.0 (raw_load_definition r total m at ty f.1 f.2 f.3))
  plain_fits (RawStore x m at ty) f room = no_more (what.RawStore x m at ty) (action_told R (what.RawStore x m at ty) total total (raw_store_action R total x m at ty f.0 f.1 f.2 f.3))
  plain_fits (Constant r z ty) f room = no_more (what.Constant r z ty) (defined_told R r (what.Constant r z ty) total total f.0 (constant_definition r total z ty f.1))
  plain_fits (Binary r op a b ty) f room = no_more (what.Binary r op a b ty) (defined_told R r (what.Binary r op a b ty) total total f.0 (binary_definition r total op a b ty f.1 f.2))
  plain_fits (Cast r kind x from to) f room = no_more (what.Cast r kind x from to) (defined_told R r (what.Cast r kind x from to) total total f.0 (cast_definition r total kind x from to f.1))
  plain_fits (Alloc r ty) f room = no_more (what.Alloc r ty) (defined_told R r (what.Alloc r ty) total total f.0 (alloc_definition r total ty f.1))
  plain_fits (Dealloc m ty) f room = no_more (what.Dealloc m ty) (action_told R (what.Dealloc m ty) total total (dealloc_action R total m ty f.0 f.1))
  plain_fits (Start a aa b bb t ta n stride (x ∷ y ∷ z ∷ [])) f room =
      let n1 = total + operands_in_use aa in
      let n2 = n1 + operands_in_use bb in
      let n3 = n2 + operands_in_use ta in
      let w = what.Start a aa b bb t ta n stride (x ∷ y ∷ z ∷ []) in
      let told = start_action R total a aa b bb t ta n stride x y z n1 n2 n3
      (record { name = f.0.0; subscripts = subscripts_fit aa total f.0.1 (omega (arith, room)) })
      (record { name = f.1.0; subscripts = subscripts_fit bb n1 f.1.1 (omega (arith, room)) })
      (record { name = f.2.0; subscripts = subscripts_fit ta n2 f.2.1 (omega (arith, room)) })
      f.3 f.4 f.5.0 f.5.1 f.5.2 in
      subst (λ m. ToldStatement R w total m) (three_more total (operands_in_use aa) (operands_in_use bb) (operands_in_use ta)) (action_told R w total n3 told)
  plain_fits (Start a aa b bb t ta n stride []) f room = absurd f.5
  plain_fits (Start a aa b bb t ta n stride (x ∷ [])) f room = absurd f.5
  plain_fits (Start a aa b bb t ta n stride (x ∷ y ∷ [])) f room = absurd f.5
  plain_fits (Start a aa b bb t ta n stride (x ∷ y ∷ z ∷ u ∷ more)) f room = absurd f.5
  plain_fits (Wait t at n ty) f room =
      let behind = total + operands_in_use at in
      action_told R (what.Wait t at n ty) total behind (wait_action R total t at behind n ty (record { name = f.0; subscripts = subscripts_fit at total f.1 room }) f.2 f.3)
  plain_fits Return f room = absurd f

plain_nests : (p : Plain) → PlainFits p → PlainNests p
plain_nests (Value r pick at) f = use_nests at f.1
plain_nests (Load r m at ty) f = subscripts_nest at f.2
plain_nests (Store x m at ty) f = subscripts_nest at f.2
plain_nests (RawLoad r m at ty) f = tt
plain_nests (RawStore x m at ty) f = tt
plain_nests (Constant r z ty) f = tt
plain_nests (Binary r op a b ty) f = tt
plain_nests (Cast r kind x from to) f = tt
plain_nests (Alloc r ty) f = tt
plain_nests (Dealloc m ty) f = tt
plain_nests (Start a aa b bb t ta n stride types) f = (subscripts_nest aa f.0.1, subscripts_nest bb f.1.1, subscripts_nest ta f.2.1)
plain_nests (Wait t at n ty) f = subscripts_nest at f.1
plain_nests Return f = absurd f

pub statements_nest : (left : ℕ) (n : Nest) → StatementsFit left n → StatementsNest n
statements_nest left Nothing f = tt
statements_nest zero (Loop line v lower upper s body rest) f = absurd f
statements_nest (suc left) (Loop line v lower upper s body rest) f = (bound_nests lower f.1, bound_nests upper f.2, statements_nest left body f.4, statements_nest (suc left) rest f.5)
statements_nest zero (Branch line set names first has other rest) f = absurd f
statements_nest (suc left) (Branch line set names first has other rest) f = (condition_nests set names f.0, statements_nest left first f.1, statements_nest left other f.2, statements_nest (suc left) rest f.3)
statements_nest left (Does line p rest) f = (plain_nests p f.0, statements_nest left rest f.1)

-- ---- statements

-- statements that are told, with no more operands than stand in them
pub record AreTold (left : ℕ) (n : Nest) (total : ℕ) : Type 0 where
  pub behind : ℕ
  pub within : behind ≤ total + operands_in_nest n
  pub told : ToldLines (Region [] left) (stmts_of n) total behind

pub lines_fit : (left : ℕ) (n : Nest) (total : ℕ) → StatementsFit left n → total + operands_in_nest n ≤ 1048576 → AreTold left n total
lines_fit left Nothing total f room = record { behind = total; within = omega arith; told = told_none (Region [] left) total }
lines_fit zero (Loop line v lower upper s body rest) total f room = absurd f
lines_fit (suc left) (Loop line v lower upper s body rest) total f room =
    let n1 = total + operands_in_bound lower in
    let n2 = n1 + operands_in_bound upper in
    let t : Turns = record { lower = lower; upper = upper; step = s; total = n2 } in
    let turns : ToldTurns t total = turns_of total (lower, n1) (upper, n2) s (bound_fits (codes "max") refl refl lower total f.1 (omega (arith, room))) (bound_fits (codes "min") refl refl upper n1 f.2 (omega (arith, room))) f.3 in
    let b = lines_fit left body n2 f.4 (omega (arith, room)) in
    let bw = b.within in
    let r = lines_fit (suc left) rest b.behind f.5 (omega (arith, room, bw)) in
    let rw = r.within in
    let told = loop_told (suc left) v t (stmts_of body) total b.behind f.0 turns (region_lines left (stmts_of body) n2 b.behind b.told) in
    record { behind = r.behind; within = omega (arith, bw, rw); told = told_more (Region [] (suc left)) (stmt_of line (what.For v lower upper s (stmts_of body))) (stmts_of rest) total b.behind r.behind told r.told }
lines_fit zero (Branch line set names first has other rest) total f room = absurd f
lines_fit (suc left) (Branch line set names first true other rest) total f room =
    let n1 = total + operands_in_rows set.rows in
    let c = condition_fits set names total f.0 (omega (arith, room)) in
    let a = lines_fit left first n1 f.1 (omega (arith, room)) in
    let aw = a.within in
    let b = lines_fit left other a.behind f.2 (omega (arith, room, aw)) in
    let bw = b.within in
    let r = lines_fit (suc left) rest b.behind f.3 (omega (arith, room, aw, bw)) in
    let rw = r.within in
    let told = if_else_told (suc left) set names (stmts_of first) (stmts_of other) total n1 a.behind b.behind c.0 c.1 (region_lines left (stmts_of first) n1 a.behind a.told) (region_lines left (stmts_of other) a.behind b.behind b.told) in
    record { behind = r.behind; within = omega (arith, aw, bw, rw); told = told_more (Region [] (suc left)) (stmt_of line (what.If set names (stmts_of first) (Some (stmts_of other)))) (stmts_of rest) total b.behind r.behind told r.told }
lines_fit (suc left) (Branch line set names first false other rest) total f room =
    let n1 = total + operands_in_rows set.rows in
    let c = condition_fits set names total f.0 (omega (arith, room)) in
    let a = lines_fit left first n1 f.1 (omega (arith, room)) in
    let aw = a.within in
    let r = lines_fit (suc left) rest a.behind f.3 (omega (arith, room, aw)) in
    let rw = r.within in
    let told = if_told (suc left) set names (stmts_of first) total n1 a.behind c.0 c.1 (region_lines left (stmts_of first) n1 a.behind a.told) in
    record { behind = r.behind; within = omega (arith, aw, rw); told = told_more (Region [] (suc left)) (stmt_of line (what.If set names (stmts_of first) None)) (stmts_of rest) total a.behind r.behind told r.told }
lines_fit left (Does line p rest) total f room =
    let n1 = total + operands_in_plain p in
    let told = plain_fits (Region [] left) total p f.0 (omega (arith, room)) in
    let r = lines_fit left rest n1 f.1 (omega (arith, room)) in
    let rw = r.within in
    record { behind = r.behind; within = omega (arith, rw); told = told_more (Region [] left) (stmt_of line (what_of p)) (stmts_of rest) total n1 r.behind told r.told }

-- ---- modules

nests_followed : (a b : Nest) → StatementsNest a → StatementsNest b → StatementsNest (followed_by a b)
nests_followed Nothing b h k = k
nests_followed (Loop line v lower upper s body rest) b h k = (h.0, h.1, h.2, nests_followed rest b h.3 k)
nests_followed (Branch line set names first has other rest) b h k = (h.0, h.1, h.2, nests_followed rest b h.3 k)
nests_followed (Does line p rest) b h k = (h.0, nests_followed rest b h.1 k)

pub module_fits : (m : Module) → MayBeWritten m → ToldFunction m
module_fits m w =
    let room = w.operands in
    let t = lines_fit 39 w.stmts 0 w.fit (omega (arith, room)) in
    record {
      name = w.name;
      args = w.args;
      stmts = stmts_of w.stmts;
      line = w.line;
      body = sym (unnested (nest m.body) m.body refl) ∙ ap stmts_of w.body ∙ stmts_followed w.stmts (Does w.line Return Nothing);
      after = t.behind;
      told = t.told;
    }

pub module_nests : (m : Module) → MayBeWritten m → ModuleNests m
module_nests m w = subst StatementsNest (sym w.body) (nests_followed w.stmts (Does w.line Return Nothing) (statements_nest 39 w.stmts w.fit) (tt, tt))

-- what may be written is spelled, behind any lines of comments
pub written_spells : (m : Module) → MayBeWritten m → (comments : List (List ℕ)) → All AreOnOneLine comments → (n : Module) × (AreSameButLines m n × Spells (comment_lines comments ++ spelling m) n)
written_spells m w comments lines = told_spells_behind (comment_lines comments) m (comments_gap comments lines) (module_fits m w) (module_nests m w)
