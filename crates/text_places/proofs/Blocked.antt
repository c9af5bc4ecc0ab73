-- The loops of statements, one after the other.
use Rattle.std.proofs.Common.{◌≡◌, ℕ, zero, suc, ◌+◌, ◌<◌, ◌≤◌, Bool, true, false, List, [], ◌∷◌, ◌++◌, length, map, take, drop, get_or, Option, Some, None, ℤ, refl, sym, ap, ◌∙◌, append_assoc, append-nil}
use Rattle.affine_expr.specs.declared.map.Set.{Set}
use Rattle.affine_ast.specs.declared.name.Name.{Name}
use Rattle.affine_ast.specs.declared.types.Bound.{Bound}
use Rattle.affine_ast.specs.declared.stmt.Stmt.{Stmt}
use Rattle.affine_ast.specs.declared.stmt.What as what
use Rattle.affine_ast.specs.declared.stmt.What.{What}
use Rattle.affine_ast.specs.Nest.{Plain, Nest, Nothing, Loop, Branch, Does, nest, put_what, followed_by, plain_of}
use Rattle.affine_ast.proofs.Nests.{nest-nil, nest-cons, put-For, put-If, put-If-else, put-followed}
use Rattle.nest_domain.specs.declared.step.Step.{Step}
use Rattle.nest_domain.specs.Ways.{Header, Round, Given, Except, Behind, Past}
use Rattle.nest_domain.specs.Steps.{header_of}
use Rattle.text_places.specs.declared.blocks.FoundBlock.{FoundBlock}
use Rattle.text_places.specs.Blocks.{Block, blocks}
use Rattle.text_places.specs.Finding.{block_of, or_none, past_first, past_what, Grown}
use Rattle.text_places.proofs.Statements.{IsOne, put_one, past_any, drop_next, drop_over, plain_shape}
use Rattle.text_places.proofs.Lists.{map-append, take_front, take_chain}

blocks-nothing : (depth : ℕ) (way : List Header) → blocks depth Nothing way ≡ []
unfolding blocks
blocks-nothing zero way = refl
blocks-nothing (suc depth) way = refl

blocks-branch : (depth line : ℕ) (set : Set) (names : List Name) (first : Nest) (has : Bool) (other rest : Nest) (way : List Header)
    → blocks depth (Branch line set names first has other rest) way
    ≡ blocks depth first (way ++ Given set names ∷ []) ++ (blocks depth other (way ++ Except set names first ∷ []) ++ blocks depth rest ((way ++ Past first ∷ []) ++ Past other ∷ []))
unfolding blocks
blocks-branch zero line set names first has other rest way = refl
blocks-branch (suc depth) line set names first has other rest way = refl

blocks-does : (depth line : ℕ) (p : Plain) (rest : Nest) (way : List Header) → blocks depth (Does line p rest) way ≡ blocks depth rest (way ++ Behind p ∷ [])
unfolding blocks
blocks-does zero line p rest way = refl
blocks-does (suc depth) line p rest way = refl

-- one statement before others
first_then : (depth : ℕ) (n rest : Nest) (way : List Header) → IsOne n → blocks depth (followed_by n rest) way ≡ blocks depth n way ++ blocks depth rest (way ++ past_first n)
unfolding blocks
first_then depth Nothing rest way h = absurd h
first_then zero (Loop line v l u s body b) rest way h =
    ap (λ r. it ∷ blocks zero (followed_by r rest) (way ++ Past body ∷ [])) h
    ∙ ap (λ r. (it ∷ blocks zero r (way ++ Past body ∷ [])) ++ blocks zero rest (way ++ Past body ∷ [])) (sym h)
  where
    it : Block
    it = record { way = way; line = line; var = v; lower = l; upper = u; step = s; body = body }
first_then (suc depth) (Loop line v l u s body b) rest way h =
    let inner = blocks depth body (way ++ Round v l u s ∷ []) in
    let outer = blocks (suc depth) rest (way ++ Past body ∷ []) in
    ap (λ r. inner ++ blocks (suc depth) (followed_by r rest) (way ++ Past body ∷ [])) h
    ∙ ap (λ x. x ++ outer) (sym (append-nil inner))
    ∙ ap (λ r. (inner ++ blocks (suc depth) r (way ++ Past body ∷ [])) ++ outer) (sym h)
first_then depth (Branch line set names first has other b) rest way h =
    let f = blocks depth first (way ++ Given set names ∷ []) in
    let o = blocks depth other (way ++ Except set names first ∷ []) in
    let past = (way ++ Past first ∷ []) ++ Past other ∷ [] in
    blocks-branch depth line set names first has other (followed_by b rest) way
    ∙ ap (λ r. f ++ (o ++ blocks depth (followed_by r rest) past)) h
    ∙ ap (λ w. f ++ (o ++ blocks depth rest w)) (append_assoc way (Past first ∷ []) (Past other ∷ []))
    ∙ sym (append_assoc f o (blocks depth rest (way ++ Past first ∷ Past other ∷ [])))
    ∙ ap (λ x. (f ++ x) ++ blocks depth rest (way ++ Past first ∷ Past other ∷ [])) (sym (append-nil o) ∙ ap (λ x. o ++ x) (sym (blocks-nothing depth past)) ∙ ap (λ r. o ++ blocks depth r past) (sym h))
    ∙ ap (λ x. x ++ blocks depth rest (way ++ Past first ∷ Past other ∷ [])) (sym (blocks-branch depth line set names first has other b way))
first_then depth (Does line p b) rest way h =
    blocks-does depth line p (followed_by b rest) way
    ∙ ap (λ r. blocks depth (followed_by r rest) (way ++ Behind p ∷ [])) h
    ∙ ap (λ x. x ++ blocks depth rest (way ++ Behind p ∷ [])) (sym (blocks-does depth line p b way ∙ ap (λ r. blocks depth r (way ++ Behind p ∷ [])) h ∙ blocks-nothing depth (way ++ Behind p ∷ [])))

pub blocks-cons : (depth : ℕ) (s : Stmt) (ss : List Stmt) (way : List Header) → blocks depth (nest (s ∷ ss)) way ≡ blocks depth (put_what s.what s.line Nothing) way ++ blocks depth (nest ss) (way ++ past_what s.what)
blocks-cons depth s ss way =
    ap (λ n. blocks depth n way) (nest-cons s ss ∙ sym (put-followed s.what s.line Nothing (nest ss)))
    ∙ first_then depth (put_what s.what s.line Nothing) (nest ss) way (put_one s.what s.line)
    ∙ ap (λ h. blocks depth (put_what s.what s.line Nothing) way ++ blocks depth (nest ss) (way ++ h)) (past_any s.what s.line)

-- what is added so far, and what the rest adds behind the way so far
pub record Adding (depth : ℕ) (stmts : List Stmt) (i : ℕ) (way0 way : List Step) (out0 out : List FoundBlock) : Type 0 where
  pub adds : map block_of out ++ blocks depth (nest (drop i stmts)) (map header_of way) ≡ map block_of out0 ++ blocks depth (nest stmts) (map header_of way0)
  pub keeps : take (length way0) way ≡ way0

pub adding_begins : (depth : ℕ) (stmts : List Stmt) (way : List Step) (out : List FoundBlock) → Adding depth stmts 0 way way out out
adding_begins depth stmts way out = record { adds = refl; keeps = ap (take (length way)) (sym (append-nil way)) ∙ take_front way [] }

pub adding_goes_on : (depth : ℕ) (stmts : List Stmt) (i : ℕ) (x : Stmt) (way0 way new : List Step) (out0 out more : List FoundBlock) → i < length stmts → x ≡ get_or stmts i x
    → Adding depth stmts i way0 way out0 out → map block_of more ≡ map block_of out ++ blocks depth (put_what x.what x.line Nothing) (map header_of way) → Grown way new (past_what x.what)
    → Adding depth stmts (i + 1) way0 new out0 more
adding_goes_on depth stmts i x way0 way new out0 out more h is a e g = record {
  adds =
      (λ j. e j ++ blocks depth (nest (drop (i + 1) stmts)) (g.behind j))
      ∙ append_assoc (map block_of out) (blocks depth (put_what x.what x.line Nothing) (map header_of way)) (blocks depth (nest (drop (i + 1) stmts)) (map header_of way ++ past_what x.what))
      ∙ ap (λ l. map block_of out ++ l) (sym (blocks-cons depth x (drop (i + 1) stmts) (map header_of way)))
      ∙ ap (λ l. map block_of out ++ blocks depth (nest l) (map header_of way)) (sym (drop_next stmts i x h is))
      ∙ a.adds;
  keeps = take_chain way0 way new a.keeps g.kept;
}

pub adding_ends : (depth : ℕ) (stmts : List Stmt) (i : ℕ) (way0 way : List Step) (out0 out : List FoundBlock) → length stmts ≤ i → Adding depth stmts i way0 way out0 out
    → map block_of out ≡ map block_of out0 ++ blocks depth (nest stmts) (map header_of way0)
adding_ends depth stmts i way0 way out0 out h a =
    sym (append-nil (map block_of out))
    ∙ ap (λ l. map block_of out ++ l) (sym (blocks-nothing depth (map header_of way)))
    ∙ ap (λ n. map block_of out ++ blocks depth n (map header_of way)) (sym (ap nest (drop_over stmts i h) ∙ nest-nil))
    ∙ a.adds

pub adding_kept : (depth : ℕ) (stmts : List Stmt) (i : ℕ) (way0 way new : List Step) (out0 out : List FoundBlock) → Adding depth stmts i way0 way out0 out → new ≡ take (length way0) way → new ≡ way0
adding_kept depth stmts i way0 way new out0 out a e = e ∙ a.keeps

-- ---- kinds of statements
pub loop_blocks : (depth line : ℕ) (v : Name) (l u : Bound) (s : ℤ) (body : List Stmt) (way : List Header)
    → blocks depth (put_what (what.For v l u s body) line Nothing) way ≡ blocks depth (Loop line v l u s (nest body) Nothing) way
loop_blocks depth line v l u s body way = ap (λ n. blocks depth n way) (put-For line Nothing v l u s body)

-- a loop at a greater depth has those in it
pub deeper_blocks : (depth line : ℕ) (v : Name) (l u : Bound) (s : ℤ) (body : Nest) (way : List Header) → blocks (suc depth) (Loop line v l u s body Nothing) way ≡ blocks depth body (way ++ Round v l u s ∷ [])
unfolding blocks
deeper_blocks depth line v l u s body way = append-nil (blocks depth body (way ++ Round v l u s ∷ []))

pub block_added : (out new : List FoundBlock) (b : FoundBlock) (line : ℕ) (v : Name) (l u : Bound) (s : ℤ) (body : Nest) (way : List Header) → new ≡ out ++ b ∷ []
    → block_of b ≡ record { way = way; line = line; var = v; lower = l; upper = u; step = s; body = body } → map block_of new ≡ map block_of out ++ blocks 0 (Loop line v l u s body Nothing) way
unfolding blocks
block_added out new b line v l u s body way e same = ap (map block_of) e ∙ map-append block_of out (b ∷ []) ∙ ap (λ x. map block_of out ++ x ∷ []) same

pub condition_blocks : (depth line : ℕ) (set : Set) (names : List Name) (first : List Stmt) (other : Option (List Stmt)) (way : List Header)
    → blocks depth (put_what (what.If set names first other) line Nothing) way ≡ blocks depth (nest first) (way ++ Given set names ∷ []) ++ blocks depth (nest (or_none other)) (way ++ Except set names (nest first) ∷ [])
condition_blocks depth line set names first other way = shape other ∙ nothing_behind depth line set names (nest first) (nest (or_none other)) (is_there other) way
  where
    is_there : Option (List Stmt) → Bool
    is_there None = false
    is_there (Some ss) = true

    shape : (other : Option (List Stmt)) → blocks depth (put_what (what.If set names first other) line Nothing) way ≡ blocks depth (Branch line set names (nest first) (is_there other) (nest (or_none other)) Nothing) way
    shape None = ap (λ n. blocks depth n way) (put-If line Nothing set names first ∙ ap (λ n. Branch line set names (nest first) false n Nothing) (sym nest-nil))
    shape (Some ss) = ap (λ n. blocks depth n way) (put-If-else line Nothing set names first ss)

    nothing_behind : (depth line : ℕ) (set : Set) (names : List Name) (first other : Nest) (has : Bool) (way : List Header)
        → blocks depth (Branch line set names first has other Nothing) way ≡ blocks depth first (way ++ Given set names ∷ []) ++ blocks depth other (way ++ Except set names first ∷ [])
    nothing_behind depth line set names first other has way =
        blocks-branch depth line set names first has other Nothing way
        ∙ ap (λ x. blocks depth first (way ++ Given set names ∷ []) ++ x) (ap (λ x. blocks depth other (way ++ Except set names first ∷ []) ++ x) (blocks-nothing depth ((way ++ Past first ∷ []) ++ Past other ∷ [])) ∙ append-nil (blocks depth other (way ++ Except set names first ∷ [])))

pub plain_blocks : (w : What) (no_loop : (v : Name) (l u : Bound) (s : ℤ) (body : List Stmt) → w ≡ what.For v l u s body → ⊥)
    (no_condition : (set : Set) (names : List Name) (first : List Stmt) (other : Option (List Stmt)) → w ≡ what.If set names first other → ⊥)
    (depth line : ℕ) (way : List Header) → blocks depth (put_what w line Nothing) way ≡ []
plain_blocks w no_loop no_condition depth line way =
    ap (λ n. blocks depth n way) (plain_shape w no_loop no_condition line) ∙ blocks-does depth line (plain_of w) Nothing way ∙ blocks-nothing depth (way ++ Behind (plain_of w) ∷ [])

pub nothing_of_plain : (w : What) (no_loop : (v : Name) (l u : Bound) (s : ℤ) (body : List Stmt) → w ≡ what.For v l u s body → ⊥)
    (no_condition : (set : Set) (names : List Name) (first : List Stmt) (other : Option (List Stmt)) → w ≡ what.If set names first other → ⊥)
    (depth line : ℕ) (way : List Header) (out : List FoundBlock) → map block_of out ≡ map block_of out ++ blocks depth (put_what w line Nothing) way
nothing_of_plain w no_loop no_condition depth line way out = sym (append-nil (map block_of out)) ∙ ap (λ l. map block_of out ++ l) (sym (plain_blocks w no_loop no_condition depth line way))
