-- Statements, one after the other.
use Rattle.std.proofs.Common.{◌≡◌, ℕ, zero, suc, ◌+◌, ◌<◌, ◌≤◌, List, [], ◌∷◌, ◌++◌, length, map, take, drop, get_or, Option, Some, None, ℤ, refl, sym, ap, ◌∙◌, subst, arith, append_assoc}
use Rattle.affine_expr.specs.declared.map.Set.{Set}
use Rattle.affine_ast.specs.declared.name.Name.{Name}
use Rattle.affine_ast.specs.declared.types.Bound.{Bound}
use Rattle.affine_ast.specs.declared.stmt.Stmt.{Stmt}
use Rattle.affine_ast.specs.declared.stmt.What as what
use Rattle.affine_ast.specs.declared.stmt.What.{What}
use Rattle.affine_ast.specs.declared.stmt.What.TheOpen.{What-F}
use Rattle.affine_ast.specs.declared.stmt.What.TheVariants.{rolls-For, rolls-If}
use Rattle.affine_ast.specs.Nest.{Nest, Nothing, Loop, Branch, Does, Puts, nest, put_what, put_stmt, put_layer, plain_of, head_plain}
use Rattle.affine_ast.proofs.Nests.{nest-nil, put_what_is, put-For, put-If, put-If-else}
use Rattle.nest_domain.specs.declared.step.Step.{Step}
use Rattle.nest_domain.specs.Ways.{Header, Behind, Past}
use Rattle.nest_domain.specs.Steps.{header_of}
use Rattle.text_places.specs.Finding.{or_none, past_first, past_what, Grown}
use Rattle.text_places.proofs.Lists.{map-append, take_front}

-- a list of one statement
abbrev pub IsOne : Nest → Type 0
IsOne Nothing = ⊥
IsOne (Loop line v l u s body rest) = rest ≡ Nothing
IsOne (Branch line set names first has other rest) = rest ≡ Nothing
IsOne (Does line p rest) = rest ≡ Nothing

pub put_one : (w : What) (line : ℕ) → IsOne (put_what w line Nothing)
put_one w line = subst IsOne (sym (put_what_is line Nothing (what.out-What w) w (what.roll-out-What w))) (layer (what.map-What What Stmt (ℕ → Puts) Puts put_what put_stmt (what.out-What w)))
  where
    layer : (x : What-F (ℕ → Puts) Puts) → IsOne (put_layer x line Nothing)
    layer (What-F.For v l u s body) = refl
    layer (What-F.If set names first other) = refl
    layer x = refl

-- the line says nothing of the way past a statement
pub past_any : (w : What) (line : ℕ) → past_first (put_what w line Nothing) ≡ past_what w
unfolding past_what
past_any w line =
    let parts = what.map-What What Stmt (ℕ → Puts) Puts put_what put_stmt (what.out-What w) in
    ap past_first (put_what_is line Nothing (what.out-What w) w (what.roll-out-What w))
    ∙ layer parts
    ∙ sym (ap past_first (put_what_is 0 Nothing (what.out-What w) w (what.roll-out-What w)))
  where
    layer : (x : What-F (ℕ → Puts) Puts) → past_first (put_layer x line Nothing) ≡ past_first (put_layer x 0 Nothing)
    layer (What-F.For v l u s body) = refl
    layer (What-F.If set names first other) = refl
    layer x = refl

drop_suc : {A : Type 0} (xs : List A) (i : ℕ) (x : A) → i < length xs → x ≡ get_or xs i x → drop i xs ≡ x ∷ drop (suc i) xs
drop_suc [] i x h e = absurd (omega (arith, h))
drop_suc (y ∷ xs) zero x h e = ap (λ z. z ∷ xs) (sym e)
drop_suc (y ∷ xs) (suc i) x h e = drop_suc xs i x (omega (arith, h)) e

pub drop_next : {A : Type 0} (xs : List A) (i : ℕ) (x : A) → i < length xs → x ≡ get_or xs i x → drop i xs ≡ x ∷ drop (i + 1) xs
drop_next xs i x h e = drop_suc xs i x h e ∙ ap (λ k. x ∷ drop k xs) (one i)
  where
    one : (i : ℕ) → suc i ≡ i + 1
    one i = omega arith

pub drop_over : {A : Type 0} (xs : List A) (i : ℕ) → length xs ≤ i → drop i xs ≡ []
drop_over [] zero h = refl
drop_over [] (suc i) h = refl
drop_over (x ∷ xs) zero h = absurd (omega (arith, h))
drop_over (x ∷ xs) (suc i) h = drop_over xs i (omega (arith, h))

pub loop_past : (v : Name) (l u : Bound) (s : ℤ) (body : List Stmt) → past_what (what.For v l u s body) ≡ Past (nest body) ∷ []
unfolding past_what
loop_past v l u s body = ap past_first (put-For 0 Nothing v l u s body)

pub condition_past : (set : Set) (names : List Name) (first : List Stmt) (other : Option (List Stmt)) → past_what (what.If set names first other) ≡ Past (nest first) ∷ Past (nest (or_none other)) ∷ []
unfolding past_what
condition_past set names first None = ap past_first (put-If 0 Nothing set names first) ∙ ap (λ n. Past (nest first) ∷ Past n ∷ []) (sym nest-nil)
condition_past set names first (Some other) = ap past_first (put-If-else 0 Nothing set names first other)

-- a statement that is no loop and no condition
pub plain_shape : (w : What) (no_loop : (v : Name) (l u : Bound) (s : ℤ) (body : List Stmt) → w ≡ what.For v l u s body → ⊥)
    (no_condition : (set : Set) (names : List Name) (first : List Stmt) (other : Option (List Stmt)) → w ≡ what.If set names first other → ⊥)
    (line : ℕ) → put_what w line Nothing ≡ Does line (plain_of w) Nothing
unfolding plain_of
plain_shape w no_loop no_condition line = by (what.out-What w) (what.roll-out-What w)
  where
    by : (x : What-F What Stmt) → what.roll-What x ≡ w → put_what w line Nothing ≡ Does line (head_plain (put_what w 0 Nothing)) Nothing
    by (What-F.For v l u s body) e = absurd (no_loop v l u s body (sym e ∙ rolls-For v l u s body))
    by (What-F.If set names first other) e = absurd (no_condition set names first other (sym e ∙ rolls-If set names first other))
    by x e = put_what_is line Nothing x w e ∙ sym (ap (λ n. Does line (head_plain n) Nothing) (put_what_is 0 Nothing x w e))

pub plain_past : (w : What) (no_loop : (v : Name) (l u : Bound) (s : ℤ) (body : List Stmt) → w ≡ what.For v l u s body → ⊥)
    (no_condition : (set : Set) (names : List Name) (first : List Stmt) (other : Option (List Stmt)) → w ≡ what.If set names first other → ⊥) → past_what w ≡ Behind (plain_of w) ∷ []
unfolding past_what
plain_past w no_loop no_condition = ap past_first (plain_shape w no_loop no_condition 0)

-- ---- ways
pub grown_one : (old new : List Step) (x : Step) → new ≡ old ++ x ∷ [] → Grown old new (header_of x ∷ [])
grown_one old new x e = record {
  kept = ap (take (length old)) e ∙ take_front old (x ∷ []);
  behind = ap (map header_of) e ∙ map-append header_of old (x ∷ []);
}

pub grown_two : (old mid new : List Step) (x y : Step) → mid ≡ old ++ x ∷ [] → new ≡ mid ++ y ∷ [] → Grown old new (header_of x ∷ header_of y ∷ [])
grown_two old mid new x y e f =
    let both : new ≡ old ++ (x ∷ y ∷ []) = f ∙ ap (λ l. l ++ y ∷ []) e ∙ append_assoc old (x ∷ []) (y ∷ []) in
    record {
      kept = ap (take (length old)) both ∙ take_front old (x ∷ y ∷ []);
      behind = ap (map header_of) both ∙ map-append header_of old (x ∷ y ∷ []);
    }

pub grown_past : (old mid new : List Step) (x : Step) (n : Nest) → mid ≡ old → new ≡ mid ++ x ∷ [] → header_of x ≡ Past n → Grown old new (Past n ∷ [])
grown_past old mid new x n e f h = subst (λ (g : Header). Grown old new (g ∷ [])) h (grown_one old new x (f ∙ ap (λ l. l ++ x ∷ []) e))

pub grown_past_both : (old mid next new : List Step) (x y : Step) (n m : Nest) → mid ≡ old → next ≡ mid ++ x ∷ [] → new ≡ next ++ y ∷ [] → header_of x ≡ Past n → header_of y ≡ Past m → Grown old new (Past n ∷ Past m ∷ [])
grown_past_both old mid next new x y n m e f g h k =
    subst (λ (b : Header). Grown old new (Past n ∷ b ∷ [])) k (subst (λ (a : Header). Grown old new (a ∷ header_of y ∷ [])) h (grown_two old next new x y (f ∙ ap (λ l. l ++ x ∷ []) e) g))

-- past each kind of statement
pub past_loop : (old mid new : List Step) (x : Step) (v : Name) (l u : Bound) (s : ℤ) (body : List Stmt) → mid ≡ old → new ≡ mid ++ x ∷ [] → header_of x ≡ Past (nest body) → Grown old new (past_what (what.For v l u s body))
past_loop old mid new x v l u s body e f h = subst (Grown old new) (sym (loop_past v l u s body)) (grown_past old mid new x (nest body) e f h)

pub past_condition : (old mid next new : List Step) (x y : Step) (set : Set) (names : List Name) (first : List Stmt) (other : Option (List Stmt)) → mid ≡ old → next ≡ mid ++ x ∷ [] → new ≡ next ++ y ∷ []
    → header_of x ≡ Past (nest first) → header_of y ≡ Past (nest (or_none other)) → Grown old new (past_what (what.If set names first other))
past_condition old mid next new x y set names first other e f g h k = subst (Grown old new) (sym (condition_past set names first other)) (grown_past_both old mid next new x y (nest first) (nest (or_none other)) e f g h k)

pub past_plain : (old new : List Step) (x : Step) (w : What) → ((v : Name) (l u : Bound) (s : ℤ) (body : List Stmt) → w ≡ what.For v l u s body → ⊥)
    → ((set : Set) (names : List Name) (first : List Stmt) (other : Option (List Stmt)) → w ≡ what.If set names first other → ⊥) → new ≡ old ++ x ∷ [] → header_of x ≡ Behind (plain_of w) → Grown old new (past_what w)
past_plain old new x w no_loop no_condition e h = subst (Grown old new) (ap (λ (g : Header). g ∷ []) h ∙ sym (plain_past w no_loop no_condition)) (grown_one old new x e)
