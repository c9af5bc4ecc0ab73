-- What statements add, one after the other.
use Rattle.std.proofs.Common.{◌≡◌, ℕ, ◌+◌, ◌<◌, ◌≤◌, List, [], ◌∷◌, ◌++◌, length, map, take, drop, get_or, Option, Some, None, ℤ, refl, sym, ap, ◌∙◌, append_assoc, append-nil}
use Rattle.affine_expr.specs.declared.map.Set.{Set}
use Rattle.affine_ast.specs.declared.name.Name.{Name}
use Rattle.affine_ast.specs.declared.types.Bound.{Bound}
use Rattle.affine_ast.specs.declared.stmt.Stmt.{Stmt}
use Rattle.affine_ast.specs.declared.stmt.What as what
use Rattle.affine_ast.specs.declared.stmt.What.{What}
use Rattle.affine_ast.specs.Nest.{Nest, Nothing, Loop, Branch, Does, nest, put_what, followed_by, plain_of}
use Rattle.affine_ast.proofs.Nests.{nest-nil, nest-cons, put-For, put-If, put-If-else, put-followed}
use Rattle.nest_domain.specs.declared.step.Step.{Step}
use Rattle.nest_domain.specs.Ways.{Header, Round, Given, Except, Behind, Past, use_of, uses}
use Rattle.nest_domain.specs.Steps.{header_of}
use Rattle.text_places.specs.declared.plain.FoundUse.{FoundUse}
use Rattle.text_places.specs.Finding.{seen, or_none, past_first, past_what, Grown}
use Rattle.text_places.proofs.Statements.{IsOne, put_one, past_any, drop_next, drop_over, plain_shape}
use Rattle.text_places.proofs.Lists.{take_front, take_chain}

uses-nothing : (m : Name) (way : List Header) → uses m Nothing way ≡ []
unfolding uses
uses-nothing m way = refl

-- one statement before others
first_then : (m : Name) (n rest : Nest) (way : List Header) → IsOne n → uses m (followed_by n rest) way ≡ uses m n way ++ uses m rest (way ++ past_first n)
unfolding uses
first_then m Nothing rest way h = absurd h
first_then m (Loop line v l u s body b) rest way h =
    ap (λ r. uses m body (way ++ Round v l u s ∷ []) ++ uses m (followed_by r rest) (way ++ Past body ∷ [])) h
    ∙ ap (λ l'. l' ++ uses m rest (way ++ Past body ∷ [])) (sym (append-nil (uses m body (way ++ Round v l u s ∷ []))))
    ∙ ap (λ r. (uses m body (way ++ Round v l u s ∷ []) ++ uses m r (way ++ Past body ∷ [])) ++ uses m rest (way ++ Past body ∷ [])) (sym h)
first_then m (Branch line set names first has other b) rest way h =
    let f = uses m first (way ++ Given set names ∷ []) in
    let o = uses m other (way ++ Except set names first ∷ []) in
    let past = (way ++ Past first ∷ []) ++ Past other ∷ [] in
    ap (λ r. f ++ (o ++ uses m (followed_by r rest) past)) h
    ∙ ap (λ w. f ++ (o ++ uses m rest w)) (append_assoc way (Past first ∷ []) (Past other ∷ []))
    ∙ sym (append_assoc f o (uses m rest (way ++ Past first ∷ Past other ∷ [])))
    ∙ ap (λ l. (f ++ l) ++ uses m rest (way ++ Past first ∷ Past other ∷ [])) (sym (append-nil o))
    ∙ ap (λ r. (f ++ (o ++ uses m r past)) ++ uses m rest (way ++ Past first ∷ Past other ∷ [])) (sym h)
first_then m (Does line p b) rest way h =
    ap (λ r. use_of m p way ++ uses m (followed_by r rest) (way ++ Behind p ∷ [])) h
    ∙ ap (λ l. l ++ uses m rest (way ++ Behind p ∷ [])) (sym (append-nil (use_of m p way)))
    ∙ ap (λ r. (use_of m p way ++ uses m r (way ++ Behind p ∷ [])) ++ uses m rest (way ++ Behind p ∷ [])) (sym h)

pub uses-cons : (m : Name) (s : Stmt) (ss : List Stmt) (way : List Header) → uses m (nest (s ∷ ss)) way ≡ uses m (put_what s.what s.line Nothing) way ++ uses m (nest ss) (way ++ past_what s.what)
uses-cons m s ss way =
    ap (λ n. uses m n way) (nest-cons s ss ∙ sym (put-followed s.what s.line Nothing (nest ss)))
    ∙ first_then m (put_what s.what s.line Nothing) (nest ss) way (put_one s.what s.line)
    ∙ ap (λ h. uses m (put_what s.what s.line Nothing) way ++ uses m (nest ss) (way ++ h)) (past_any s.what s.line)

-- what is added so far, and what the rest adds behind the way so far
pub record Adding (m : Name) (stmts : List Stmt) (i : ℕ) (way0 way : List Step) (out0 out : List FoundUse) : Type 0 where
  pub adds : map seen out ++ uses m (nest (drop i stmts)) (map header_of way) ≡ map seen out0 ++ uses m (nest stmts) (map header_of way0)
  pub keeps : take (length way0) way ≡ way0

pub adding_begins : (m : Name) (stmts : List Stmt) (way : List Step) (out : List FoundUse) → Adding m stmts 0 way way out out
adding_begins m stmts way out = record { adds = refl; keeps = ap (take (length way)) (sym (append-nil way)) ∙ take_front way [] }

pub adding_goes_on : (m : Name) (stmts : List Stmt) (i : ℕ) (x : Stmt) (way0 way new : List Step) (out0 out more : List FoundUse) → i < length stmts → x ≡ get_or stmts i x
    → Adding m stmts i way0 way out0 out → map seen more ≡ map seen out ++ uses m (put_what x.what x.line Nothing) (map header_of way) → Grown way new (past_what x.what)
    → Adding m stmts (i + 1) way0 new out0 more
adding_goes_on m stmts i x way0 way new out0 out more h is a e g = record {
  adds =
      (λ j. e j ++ uses m (nest (drop (i + 1) stmts)) (g.behind j))
      ∙ append_assoc (map seen out) (uses m (put_what x.what x.line Nothing) (map header_of way)) (uses m (nest (drop (i + 1) stmts)) (map header_of way ++ past_what x.what))
      ∙ ap (λ l. map seen out ++ l) (sym (uses-cons m x (drop (i + 1) stmts) (map header_of way)))
      ∙ ap (λ l. map seen out ++ uses m (nest l) (map header_of way)) (sym (drop_next stmts i x h is))
      ∙ a.adds;
  keeps = take_chain way0 way new a.keeps g.kept;
}

pub adding_ends : (m : Name) (stmts : List Stmt) (i : ℕ) (way0 way : List Step) (out0 out : List FoundUse) → length stmts ≤ i → Adding m stmts i way0 way out0 out
    → map seen out ≡ map seen out0 ++ uses m (nest stmts) (map header_of way0)
adding_ends m stmts i way0 way out0 out h a =
    sym (append-nil (map seen out))
    ∙ ap (λ l. map seen out ++ l) (sym (uses-nothing m (map header_of way)))
    ∙ ap (λ n. map seen out ++ uses m n (map header_of way)) (sym (ap nest (drop_over stmts i h) ∙ nest-nil))
    ∙ a.adds

pub adding_kept : (m : Name) (stmts : List Stmt) (i : ℕ) (way0 way new : List Step) (out0 out : List FoundUse) → Adding m stmts i way0 way out0 out → new ≡ take (length way0) way → new ≡ way0
adding_kept m stmts i way0 way new out0 out a e = e ∙ a.keeps

-- ---- kinds of statements
pub loop_uses : (m : Name) (line : ℕ) (v : Name) (l u : Bound) (s : ℤ) (body : List Stmt) (way : List Header)
    → uses m (put_what (what.For v l u s body) line Nothing) way ≡ uses m (nest body) (way ++ Round v l u s ∷ [])
unfolding uses
loop_uses m line v l u s body way = ap (λ n. uses m n way) (put-For line Nothing v l u s body) ∙ append-nil (uses m (nest body) (way ++ Round v l u s ∷ []))

pub condition_uses : (m : Name) (line : ℕ) (set : Set) (names : List Name) (first : List Stmt) (other : Option (List Stmt)) (way : List Header)
    → uses m (put_what (what.If set names first other) line Nothing) way ≡ uses m (nest first) (way ++ Given set names ∷ []) ++ uses m (nest (or_none other)) (way ++ Except set names (nest first) ∷ [])
unfolding uses
condition_uses m line set names first None way =
    ap (λ n. uses m n way) (put-If line Nothing set names first)
    ∙ ap (λ n. uses m (nest first) (way ++ Given set names ∷ []) ++ (uses m n (way ++ Except set names (nest first) ∷ []) ++ [])) (sym nest-nil)
    ∙ ap (λ l. uses m (nest first) (way ++ Given set names ∷ []) ++ l) (append-nil (uses m (nest []) (way ++ Except set names (nest first) ∷ [])))
condition_uses m line set names first (Some other) way =
    ap (λ n. uses m n way) (put-If-else line Nothing set names first other)
    ∙ ap (λ l. uses m (nest first) (way ++ Given set names ∷ []) ++ l) (append-nil (uses m (nest other) (way ++ Except set names (nest first) ∷ [])))

pub plain_uses : (w : What) (no_loop : (v : Name) (l u : Bound) (s : ℤ) (body : List Stmt) → w ≡ what.For v l u s body → ⊥)
    (no_condition : (set : Set) (names : List Name) (first : List Stmt) (other : Option (List Stmt)) → w ≡ what.If set names first other → ⊥)
    (m : Name) (line : ℕ) (way : List Header) → uses m (put_what w line Nothing) way ≡ use_of m (plain_of w) way
unfolding uses
plain_uses w no_loop no_condition m line way = ap (λ n. uses m n way) (plain_shape w no_loop no_condition line) ∙ append-nil (use_of m (plain_of w) way)
