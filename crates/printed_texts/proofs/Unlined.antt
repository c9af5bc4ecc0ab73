-- What the lines of statements have no part in.
use Rattle.std.proofs.Common.{◌≡◌, ℕ, List, [], ◌∷◌, ◌++◌, refl, sym, ap, ◌∙◌, subst}
use Rattle.affine_ast.specs.declared.stmt.Stmt.{Stmt}
use Rattle.affine_ast.specs.declared.stmt.What as what
use Rattle.affine_ast.specs.declared.stmt.What.{What}
use Rattle.affine_ast.specs.declared.stmt.What.TheOpen.{What-F}
use Rattle.affine_ast.specs.Nest.{Nest, Nothing, Loop, Branch, Does, followed_by, Puts, put_layer, put_what, put_stmt, nest}
use Rattle.affine_ast.proofs.Nests.{put_what_is, put-followed, nest-append, nest-cons}
use Rattle.printed_texts.specs.Nesting.{StatementsNest}
use Rattle.printed_texts.specs.Lines.{unlined}

unlined_followed : (a b : Nest) → unlined (followed_by a b) ≡ followed_by (unlined a) (unlined b)
unlined_followed Nothing b = refl
unlined_followed (Loop line v l u s body rest) b = ap (λ n. Loop 0 v l u s (unlined body) n) (unlined_followed rest b)
unlined_followed (Branch line set names first has other rest) b = ap (λ n. Branch 0 set names (unlined first) has (unlined other) n) (unlined_followed rest b)
unlined_followed (Does line p rest) b = ap (λ n. Does 0 p n) (unlined_followed rest b)

layer_unlined : (x : What-F (ℕ → Puts) Puts) (line : ℕ) → unlined (put_layer x line Nothing) ≡ unlined (put_layer x 0 Nothing)
layer_unlined (What-F.For v l u s body) line = refl
layer_unlined (What-F.If set names first other) line = refl
layer_unlined (What-F.Value r pick at) line = refl
layer_unlined (What-F.Load r m at ty) line = refl
layer_unlined (What-F.Store x m at ty) line = refl
layer_unlined (What-F.RawLoad r m at ty) line = refl
layer_unlined (What-F.RawStore x m at ty) line = refl
layer_unlined (What-F.Constant r z ty) line = refl
layer_unlined (What-F.Binary r op a c ty) line = refl
layer_unlined (What-F.Cast r kind x from to) line = refl
layer_unlined (What-F.Alloc r ty) line = refl
layer_unlined (What-F.Dealloc m ty) line = refl
layer_unlined (What-F.Start a aa c cc' t ta n stride types) line = refl
layer_unlined (What-F.Wait t at n ty) line = refl
layer_unlined What-F.Return line = refl

-- one statement, without its line
unfoldable pub unlined_what : What → Nest
unlined_what w = unlined (put_what w 0 Nothing)

what_unlined : (w : What) (line : ℕ) → unlined (put_what w line Nothing) ≡ unlined_what w
unfolding unlined_what
what_unlined w line =
    let parts = what.map-What What Stmt (ℕ → Puts) Puts put_what put_stmt (what.out-What w) in
    ap unlined (put_what_is line Nothing (what.out-What w) w (what.roll-out-What w)) ∙ layer_unlined parts line
    ∙ ap unlined (sym (put_what_is 0 Nothing (what.out-What w) w (what.roll-out-What w)))

-- a statement before others is it alone, and then the others
pub put_split : (w : What) (line : ℕ) (rest : Nest) → put_what w line rest ≡ followed_by (put_what w line Nothing) rest
put_split w line rest = sym (put-followed w line Nothing rest)

-- statements that are the same without their lines
abbrev pub SameStatements : List Stmt → List Stmt → Type 0
SameStatements xs ys = unlined (nest xs) ≡ unlined (nest ys)

pub same_cons : (s t : Stmt) (ss ts : List Stmt) → unlined_what s.what ≡ unlined_what t.what → SameStatements ss ts → SameStatements (s ∷ ss) (t ∷ ts)
same_cons s t ss ts h i = one s ss ∙ ap (λ n. followed_by n (unlined (nest ss))) h ∙ ap (λ n. followed_by (unlined_what t.what) n) i ∙ sym (one t ts)
  where
    one : (s : Stmt) (ss : List Stmt) → unlined (nest (s ∷ ss)) ≡ followed_by (unlined_what s.what) (unlined (nest ss))
    one s ss = ap unlined (nest-cons s ss ∙ put_split s.what s.line (nest ss)) ∙ unlined_followed (put_what s.what s.line Nothing) (nest ss) ∙ ap (λ n. followed_by n (unlined (nest ss))) (what_unlined s.what s.line)

pub same_nil : SameStatements [] []
same_nil = refl

followed_nests : (a b : Nest) → StatementsNest (followed_by a b) → StatementsNest a × StatementsNest b
followed_nests Nothing b h = (tt, h)
followed_nests (Loop line v l u s body rest) b h = let i = followed_nests rest b h.3 in ((h.0, h.1, h.2, i.0), i.1)
followed_nests (Branch line set names first has other rest) b h = let i = followed_nests rest b h.3 in ((h.0, h.1, h.2, i.0), i.1)
followed_nests (Does line p rest) b h = let i = followed_nests rest b h.1 in ((h.0, i.0), i.1)

-- what nests within the limit in a list does in its statements
pub first_nests : (s : Stmt) (ss : List Stmt) → StatementsNest (nest (s ∷ ss)) → StatementsNest (put_what s.what s.line Nothing) × StatementsNest (nest ss)
first_nests s ss h = followed_nests (put_what s.what s.line Nothing) (nest ss) (subst StatementsNest (nest-cons s ss ∙ put_split s.what s.line (nest ss)) h)

pub append_nests : (xs ys : List Stmt) → StatementsNest (nest (xs ++ ys)) → StatementsNest (nest xs) × StatementsNest (nest ys)
append_nests xs ys h = followed_nests (nest xs) (nest ys) (subst StatementsNest (nest-append xs ys) h)

pub same_append : (xs ys zs ws : List Stmt) → SameStatements xs ys → SameStatements zs ws → SameStatements (xs ++ zs) (ys ++ ws)
same_append xs ys zs ws h i =
    ap unlined (nest-append xs zs) ∙ unlined_followed (nest xs) (nest zs) ∙ ap (λ n. followed_by n (unlined (nest zs))) h ∙ ap (λ n. followed_by (unlined (nest ys)) n) i
    ∙ sym (ap unlined (nest-append ys ws) ∙ unlined_followed (nest ys) (nest ws))
