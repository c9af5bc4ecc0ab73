-- The statements of a nest, which are those of which it was made.
use Rattle.std.proofs.Common.{◌≡◌, ℕ, ℤ, true, false, List, [], ◌∷◌, ◌++◌, Some, None, refl, sym, ap, ◌∙◌}
use Rattle.affine_expr.specs.declared.map.Set.{Set}
use Rattle.affine_ast.specs.declared.name.Name.{Name}
use Rattle.affine_ast.specs.declared.stmt.Stmt.{Stmt}
use Rattle.affine_ast.specs.declared.stmt.What as what
use Rattle.affine_ast.specs.declared.stmt.What.{What}
use Rattle.affine_ast.specs.declared.stmt.What.TheOpen.{What-F}
use Rattle.affine_ast.specs.declared.stmt.What.TheVariants.{rolls-For, rolls-If, rolls-Value, rolls-Load, rolls-Store, rolls-RawLoad, rolls-RawStore, rolls-Constant, rolls-Binary, rolls-Cast, rolls-Alloc, rolls-Dealloc, rolls-Start, rolls-Wait, rolls-Return}
use Rattle.affine_ast.specs.declared.types.Bound.{Bound}
use Rattle.affine_ast.specs.Nest.{Plain, Value, Load, Store, RawLoad, RawStore, Constant, Binary, Cast, Alloc, Dealloc, Start, Wait, Return, Nest, Nothing, Loop, Branch, Does, put_what, followed_by, nest}
use Rattle.affine_ast.proofs.Nests.{nest-nil, nest-cons, put-For, put-If, put-If-else, put-Value, put-Load, put-Store, put-RawLoad, put-RawStore, put-Constant, put-Binary, put-Cast, put-Alloc, put-Dealloc, put-Start, put-Wait, put-Return}

-- a statement without regions
abbrev pub what_of : Plain → What
what_of (Value r pick at) = what.Value r pick at
what_of (Load r m at ty) = what.Load r m at ty
what_of (Store x m at ty) = what.Store x m at ty
what_of (RawLoad r m at ty) = what.RawLoad r m at ty
what_of (RawStore x m at ty) = what.RawStore x m at ty
what_of (Constant r z ty) = what.Constant r z ty
what_of (Binary r op a b ty) = what.Binary r op a b ty
what_of (Cast r kind x from to) = what.Cast r kind x from to
what_of (Alloc r ty) = what.Alloc r ty
what_of (Dealloc m ty) = what.Dealloc m ty
what_of (Start a aa b bb t ta n stride types) = what.Start a aa b bb t ta n stride types
what_of (Wait t at n ty) = what.Wait t at n ty
what_of Return = what.Return

abbrev pub stmt_of : ℕ → What → Stmt
stmt_of line w = record { line = line; what = w }

-- the statements of a nest
abbrev pub stmts_of : Nest → List Stmt
stmts_of Nothing = []
stmts_of (Loop line v lower upper s body rest) = stmt_of line (what.For v lower upper s (stmts_of body)) ∷ stmts_of rest
stmts_of (Branch line set names first true other rest) = stmt_of line (what.If set names (stmts_of first) (Some (stmts_of other))) ∷ stmts_of rest
stmts_of (Branch line set names first false other rest) = stmt_of line (what.If set names (stmts_of first) None) ∷ stmts_of rest
stmts_of (Does line p rest) = stmt_of line (what_of p) ∷ stmts_of rest

-- what a statement is among others
data View (w : What) : Type 0 where
  IsLoop : (v : Name) (lower upper : Bound) (s : ℤ) (body : List Stmt) → w ≡ what.For v lower upper s body → View w
  IsCondition : (set : Set) (names : List Name) (first : List Stmt) → w ≡ what.If set names first None → View w
  IsChoice : (set : Set) (names : List Name) (first other : List Stmt) → w ≡ what.If set names first (Some other) → View w
  IsPlain : (p : Plain) → w ≡ what_of p → View w

view : (w : What) → View w
view w = by (what.out-What w) (what.roll-out-What w)
  where
    by : (x : What-F What Stmt) → what.roll-What x ≡ w → View w
    by (What-F.For v l u s body) e = IsLoop v l u s body (sym e ∙ rolls-For v l u s body)
    by (What-F.If set names first None) e = IsCondition set names first (sym e ∙ rolls-If set names first None)
    by (What-F.If set names first (Some other)) e = IsChoice set names first other (sym e ∙ rolls-If set names first (Some other))
    by (What-F.Value r pick at) e = IsPlain (Value r pick at) (sym e ∙ rolls-Value r pick at)
    by (What-F.Load r m at ty) e = IsPlain (Load r m at ty) (sym e ∙ rolls-Load r m at ty)
    by (What-F.Store x m at ty) e = IsPlain (Store x m at ty) (sym e ∙ rolls-Store x m at ty)
    by (What-F.RawLoad r m at ty) e = IsPlain (RawLoad r m at ty) (sym e ∙ rolls-RawLoad r m at ty)
    by (What-F.RawStore x m at ty) e = IsPlain (RawStore x m at ty) (sym e ∙ rolls-RawStore x m at ty)
    by (What-F.Constant r z ty) e = IsPlain (Constant r z ty) (sym e ∙ rolls-Constant r z ty)
    by (What-F.Binary r op a b ty) e = IsPlain (Binary r op a b ty) (sym e ∙ rolls-Binary r op a b ty)
    by (What-F.Cast r kind x from to) e = IsPlain (Cast r kind x from to) (sym e ∙ rolls-Cast r kind x from to)
    by (What-F.Alloc r ty) e = IsPlain (Alloc r ty) (sym e ∙ rolls-Alloc r ty)
    by (What-F.Dealloc m ty) e = IsPlain (Dealloc m ty) (sym e ∙ rolls-Dealloc m ty)
    by (What-F.Start a aa b bb t ta n stride types) e = IsPlain (Start a aa b bb t ta n stride types) (sym e ∙ rolls-Start a aa b bb t ta n stride types)
    by (What-F.Wait t at n ty) e = IsPlain (Wait t at n ty) (sym e ∙ rolls-Wait t at n ty)
    by What-F.Return e = IsPlain Return (sym e ∙ rolls-Return)

pub put_plain : (p : Plain) (line : ℕ) (rest : Nest) → put_what (what_of p) line rest ≡ Does line p rest
put_plain (Value r pick at) line rest = put-Value line rest r pick at
put_plain (Load r m at ty) line rest = put-Load line rest r m at ty
put_plain (Store x m at ty) line rest = put-Store line rest x m at ty
put_plain (RawLoad r m at ty) line rest = put-RawLoad line rest r m at ty
put_plain (RawStore x m at ty) line rest = put-RawStore line rest x m at ty
put_plain (Constant r z ty) line rest = put-Constant line rest r z ty
put_plain (Binary r op a b ty) line rest = put-Binary line rest r op a b ty
put_plain (Cast r kind x from to) line rest = put-Cast line rest r kind x from to
put_plain (Alloc r ty) line rest = put-Alloc line rest r ty
put_plain (Dealloc m ty) line rest = put-Dealloc line rest m ty
put_plain (Start a aa b bb t ta n stride types) line rest = put-Start line rest a aa b bb t ta n stride types
put_plain (Wait t at n ty) line rest = put-Wait line rest t at n ty
put_plain Return line rest = put-Return line rest

-- ---- what a nest tells of the statements of which it was made

same_stmt : (s : Stmt) (line : ℕ) (w : What) → s.line ≡ line → s.what ≡ w → stmt_of line w ≡ s
same_stmt s line w a b = let e : ◌≡◌ {A = Stmt} (record { line = line; what = w }) (record { line = s.line; what = s.what }) = cc (a, b) in e

module _ (s : Stmt) (rest : Nest) where
  at_loop : (v : Name) (lower upper : Bound) (step : ℤ) (body : List Stmt) → s.what ≡ what.For v lower upper step body → put_what s.what s.line rest ≡ Loop s.line v lower upper step (nest body) rest
  at_loop v lower upper step body q = ap (λ w. put_what w s.line rest) q ∙ put-For s.line rest v lower upper step body

  at_condition : (set : Set) (names : List Name) (first : List Stmt) → s.what ≡ what.If set names first None → put_what s.what s.line rest ≡ Branch s.line set names (nest first) false Nothing rest
  at_condition set names first q = ap (λ w. put_what w s.line rest) q ∙ put-If s.line rest set names first

  at_choice : (set : Set) (names : List Name) (first other : List Stmt) → s.what ≡ what.If set names first (Some other) → put_what s.what s.line rest ≡ Branch s.line set names (nest first) true (nest other) rest
  at_choice set names first other q = ap (λ w. put_what w s.line rest) q ∙ put-If-else s.line rest set names first other

  at_plain : (p : Plain) → s.what ≡ what_of p → put_what s.what s.line rest ≡ Does s.line p rest
  at_plain p q = ap (λ w. put_what w s.line rest) q ∙ put_plain p s.line rest

pub unnested : (n : Nest) (ss : List Stmt) → nest ss ≡ n → stmts_of n ≡ ss
unnested n [] e = nothing n (sym nest-nil ∙ e)
  where
    nothing : (n : Nest) → Nothing ≡ n → stmts_of n ≡ []
    nothing Nothing e = refl
    nothing (Loop line v lower upper s body rest) e = absurd cc
    nothing (Branch line set names first has other rest) e = absurd cc
    nothing (Does line p rest) e = absurd cc
unnested Nothing (s ∷ ss) e = by (view s.what)
  where
    f : put_what s.what s.line (nest ss) ≡ Nothing
    f = sym (nest-cons s ss) ∙ e

    by : View s.what → stmts_of Nothing ≡ s ∷ ss
    by (IsLoop v l u t body q) = let d : Loop s.line v l u t (nest body) (nest ss) ≡ Nothing = sym (at_loop s (nest ss) v l u t body q) ∙ f in absurd cc
    by (IsCondition set names first q) = let d : Branch s.line set names (nest first) false Nothing (nest ss) ≡ Nothing = sym (at_condition s (nest ss) set names first q) ∙ f in absurd cc
    by (IsChoice set names first other q) = let d : Branch s.line set names (nest first) true (nest other) (nest ss) ≡ Nothing = sym (at_choice s (nest ss) set names first other q) ∙ f in absurd cc
    by (IsPlain p q) = let d : Does s.line p (nest ss) ≡ Nothing = sym (at_plain s (nest ss) p q) ∙ f in absurd cc
unnested (Loop line v lower upper step body rest) (s ∷ ss) e = by (λ b. unnested body b) (λ b. unnested rest b) (view s.what)
  where
    f : put_what s.what s.line (nest ss) ≡ Loop line v lower upper step body rest
    f = sym (nest-cons s ss) ∙ e

    by : ((b : List Stmt) → nest b ≡ body → stmts_of body ≡ b) → ((b : List Stmt) → nest b ≡ rest → stmts_of rest ≡ b) → View s.what → stmts_of (Loop line v lower upper step body rest) ≡ s ∷ ss
    by ih_body ih_rest (IsLoop v2 l2 u2 t2 body2 q) =
        let d : Loop s.line v2 l2 u2 t2 (nest body2) (nest ss) ≡ Loop line v lower upper step body rest = sym (at_loop s (nest ss) v2 l2 u2 t2 body2 q) ∙ f in
        let line_is : s.line ≡ line = cc in
        let i = ih_body body2 cc in
        let j = ih_rest ss cc in
        let w : what.For v2 l2 u2 t2 body2 ≡ what.For v lower upper step (stmts_of body) = cc in
        let h : stmt_of line (what.For v lower upper step (stmts_of body)) ≡ s = same_stmt s line (what.For v lower upper step (stmts_of body)) line_is (q ∙ w) in
        ap (λ (t : Stmt). t ∷ stmts_of rest) h ∙ ap (λ ts. s ∷ ts) j
    by ih_body ih_rest (IsCondition set names first q) = let d : Branch s.line set names (nest first) false Nothing (nest ss) ≡ Loop line v lower upper step body rest = sym (at_condition s (nest ss) set names first q) ∙ f in absurd cc
    by ih_body ih_rest (IsChoice set names first other q) = let d : Branch s.line set names (nest first) true (nest other) (nest ss) ≡ Loop line v lower upper step body rest = sym (at_choice s (nest ss) set names first other q) ∙ f in absurd cc
    by ih_body ih_rest (IsPlain p q) = let d : Does s.line p (nest ss) ≡ Loop line v lower upper step body rest = sym (at_plain s (nest ss) p q) ∙ f in absurd cc
unnested (Branch line set names first true other rest) (s ∷ ss) e = by (λ b. unnested first b) (λ b. unnested other b) (λ b. unnested rest b) (view s.what)
  where
    f : put_what s.what s.line (nest ss) ≡ Branch line set names first true other rest
    f = sym (nest-cons s ss) ∙ e

    by : ((b : List Stmt) → nest b ≡ first → stmts_of first ≡ b) → ((b : List Stmt) → nest b ≡ other → stmts_of other ≡ b) → ((b : List Stmt) → nest b ≡ rest → stmts_of rest ≡ b) → View s.what → stmts_of (Branch line set names first true other rest) ≡ s ∷ ss
    by ih_first ih_other ih_rest (IsChoice set2 names2 first2 other2 q) =
        let d : Branch s.line set2 names2 (nest first2) true (nest other2) (nest ss) ≡ Branch line set names first true other rest = sym (at_choice s (nest ss) set2 names2 first2 other2 q) ∙ f in
        let line_is : s.line ≡ line = cc in
        let i = ih_first first2 cc in
        let k = ih_other other2 cc in
        let j = ih_rest ss cc in
        let w : what.If set2 names2 first2 (Some other2) ≡ what.If set names (stmts_of first) (Some (stmts_of other)) = cc in
        let h : stmt_of line (what.If set names (stmts_of first) (Some (stmts_of other))) ≡ s = same_stmt s line (what.If set names (stmts_of first) (Some (stmts_of other))) line_is (q ∙ w) in
        ap (λ (t : Stmt). t ∷ stmts_of rest) h ∙ ap (λ ts. s ∷ ts) j
    by ih_first ih_other ih_rest (IsLoop v l u t body q) = let d : Loop s.line v l u t (nest body) (nest ss) ≡ Branch line set names first true other rest = sym (at_loop s (nest ss) v l u t body q) ∙ f in absurd cc
    by ih_first ih_other ih_rest (IsCondition set2 names2 first2 q) = let d : Branch s.line set2 names2 (nest first2) false Nothing (nest ss) ≡ Branch line set names first true other rest = sym (at_condition s (nest ss) set2 names2 first2 q) ∙ f in let b : false ≡ true = cc in absurd cc
    by ih_first ih_other ih_rest (IsPlain p q) = let d : Does s.line p (nest ss) ≡ Branch line set names first true other rest = sym (at_plain s (nest ss) p q) ∙ f in absurd cc
unnested (Branch line set names first false other rest) (s ∷ ss) e = by (λ b. unnested first b) (λ b. unnested rest b) (view s.what)
  where
    f : put_what s.what s.line (nest ss) ≡ Branch line set names first false other rest
    f = sym (nest-cons s ss) ∙ e

    by : ((b : List Stmt) → nest b ≡ first → stmts_of first ≡ b) → ((b : List Stmt) → nest b ≡ rest → stmts_of rest ≡ b) → View s.what → stmts_of (Branch line set names first false other rest) ≡ s ∷ ss
    by ih_first ih_rest (IsCondition set2 names2 first2 q) =
        let d : Branch s.line set2 names2 (nest first2) false Nothing (nest ss) ≡ Branch line set names first false other rest = sym (at_condition s (nest ss) set2 names2 first2 q) ∙ f in
        let line_is : s.line ≡ line = cc in
        let i = ih_first first2 cc in
        let j = ih_rest ss cc in
        let w : what.If set2 names2 first2 None ≡ what.If set names (stmts_of first) None = cc in
        let h : stmt_of line (what.If set names (stmts_of first) None) ≡ s = same_stmt s line (what.If set names (stmts_of first) None) line_is (q ∙ w) in
        ap (λ (t : Stmt). t ∷ stmts_of rest) h ∙ ap (λ ts. s ∷ ts) j
    by ih_first ih_rest (IsLoop v l u t body q) = let d : Loop s.line v l u t (nest body) (nest ss) ≡ Branch line set names first false other rest = sym (at_loop s (nest ss) v l u t body q) ∙ f in absurd cc
    by ih_first ih_rest (IsChoice set2 names2 first2 other2 q) = let d : Branch s.line set2 names2 (nest first2) true (nest other2) (nest ss) ≡ Branch line set names first false other rest = sym (at_choice s (nest ss) set2 names2 first2 other2 q) ∙ f in let b : true ≡ false = cc in absurd cc
    by ih_first ih_rest (IsPlain p q) = let d : Does s.line p (nest ss) ≡ Branch line set names first false other rest = sym (at_plain s (nest ss) p q) ∙ f in absurd cc
unnested (Does line p rest) (s ∷ ss) e = by (λ b. unnested rest b) (view s.what)
  where
    f : put_what s.what s.line (nest ss) ≡ Does line p rest
    f = sym (nest-cons s ss) ∙ e

    by : ((b : List Stmt) → nest b ≡ rest → stmts_of rest ≡ b) → View s.what → stmts_of (Does line p rest) ≡ s ∷ ss
    by ih_rest (IsPlain p2 q) =
        let d : Does s.line p2 (nest ss) ≡ Does line p rest = sym (at_plain s (nest ss) p2 q) ∙ f in
        let line_is : s.line ≡ line = cc in
        let j = ih_rest ss cc in
        let w : p2 ≡ p = cc in
        let h : stmt_of line (what_of p) ≡ s = same_stmt s line (what_of p) line_is (q ∙ ap what_of w) in
        ap (λ (t : Stmt). t ∷ stmts_of rest) h ∙ ap (λ ts. s ∷ ts) j
    by ih_rest (IsLoop v l u t body q) = let d : Loop s.line v l u t (nest body) (nest ss) ≡ Does line p rest = sym (at_loop s (nest ss) v l u t body q) ∙ f in absurd cc
    by ih_rest (IsCondition set names first q) = let d : Branch s.line set names (nest first) false Nothing (nest ss) ≡ Does line p rest = sym (at_condition s (nest ss) set names first q) ∙ f in absurd cc
    by ih_rest (IsChoice set names first other q) = let d : Branch s.line set names (nest first) true (nest other) (nest ss) ≡ Does line p rest = sym (at_choice s (nest ss) set names first other q) ∙ f in absurd cc

-- statements behind others
pub stmts_followed : (a b : Nest) → stmts_of (followed_by a b) ≡ stmts_of a ++ stmts_of b
stmts_followed Nothing b = refl
stmts_followed (Loop line v lower upper s body rest) b = ap (λ ts. stmt_of line (what.For v lower upper s (stmts_of body)) ∷ ts) (stmts_followed rest b)
stmts_followed (Branch line set names first true other rest) b = ap (λ ts. stmt_of line (what.If set names (stmts_of first) (Some (stmts_of other))) ∷ ts) (stmts_followed rest b)
stmts_followed (Branch line set names first false other rest) b = ap (λ ts. stmt_of line (what.If set names (stmts_of first) None) ∷ ts) (stmts_followed rest b)
stmts_followed (Does line p rest) b = ap (λ ts. stmt_of line (what_of p) ∷ ts) (stmts_followed rest b)
