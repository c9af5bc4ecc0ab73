-- What is told of the plain limits, one equation for each kind of statement before others.
use Rattle.std.proofs.Common.{◌≡◌, ◌+◌, ◌<◌, ◌≤◌, ◌∷◌, drop, length, get_or, ℕ, suc, ℤ, Bool, true, false, ◌&&◌, List, [], refl, sym, ap, ◌∙◌}
use Rattle.std.specs.Prelude.{Option, Some, None, is_some, IfNone}
use Rattle.std.proofs.lemmas.List.{drop_more, drop_all}
use Rattle.affine_expr.specs.declared.map.Set.{Set}
use Rattle.affine_ast.specs.declared.name.Name.{Name}
use Rattle.affine_ast.specs.declared.types.Access.{Access}
use Rattle.affine_ast.specs.declared.types.Bound.{Bound}
use Rattle.affine_ast.specs.declared.types.MemrefType.{MemrefType}
use Rattle.affine_ast.specs.declared.types.Pick.{Pick}
use Rattle.affine_ast.specs.declared.stmt.Stmt.{Stmt}
use Rattle.affine_ast.specs.declared.stmt.What as what
use Rattle.affine_ast.specs.declared.stmt.What.{What}
use Rattle.affine_ast.specs.declared.stmt.What.TheOpen.{What-F}
use Rattle.affine_ast.specs.declared.stmt.What.TheVariants.{rolls-Value, rolls-Load, rolls-Store, rolls-Alloc, rolls-Dealloc, rolls-Start, rolls-Wait}
use Rattle.affine_ast.specs.PlainCode.{plain_outcome}
use Rattle.affine_ast.specs.Nest.{Nest, Nothing, put_what, nest, head_plain, plain_of, is_region}
use Rattle.affine_ast.proofs.Nests.{nest-nil, nest-cons, put-For, put-If, put-If-else, put_plain, put_what_is}
use Rattle.affine_ast.specs.PlainLimits.{bound_short, set_short, plain_stands, PlainTold, Counted, then_plain, plain_judged, plain_told}

-- a second region that may be missing
abbrev pub nest_of_other : Option (List Stmt) → Nest
nest_of_other None = Nothing
nest_of_other (Some other) = nest other

module _ (line : ℕ) (rest : Nest) (loops count : ℕ) where
  abbrev pub told_of : Nest → PlainTold
  told_of n = plain_told n loops count

  pub plain-For : (v : Name) (l u : Bound) (s : ℤ) (body : List Stmt) → plain_told (put_what (what.For v l u s body) line rest) loops count
      ≡ plain_judged line loops (suc count) (bound_short l && bound_short u) (then_plain (plain_told (nest body) (suc loops) (suc count)) (plain_told rest loops))
  unfolding plain_told
  plain-For v l u s body = ap told_of (put-For line rest v l u s body)

  pub plain-If : (set : Set) (names : List Name) (first : List Stmt) → plain_told (put_what (what.If set names first None) line rest) loops count
      ≡ plain_judged line loops (suc count) (set_short set) (then_plain (plain_told (nest first) loops (suc count)) (λ n. plain_told rest loops n))
  unfolding plain_told
  plain-If set names first = ap told_of (put-If line rest set names first)

  pub plain-If-else : (set : Set) (names : List Name) (first other : List Stmt) → plain_told (put_what (what.If set names first (Some other)) line rest) loops count
      ≡ plain_judged line loops (suc count) (set_short set) (then_plain (plain_told (nest first) loops (suc count)) (λ n. then_plain (plain_told (nest other) loops n) (plain_told rest loops)))
  unfolding plain_told
  plain-If-else set names first other = ap told_of (put-If-else line rest set names first other)

  -- a statement without a region
  pub plain-any : (w : What) → is_region w ≡ false → plain_told (put_what w line rest) loops count ≡ plain_judged line loops (suc count) (plain_stands (plain_of w)) (plain_told rest loops (suc count))
  unfolding plain_told
  plain-any w h = ap told_of (put_plain w line rest h)

  pub plain-condition : (set : Set) (names : List Name) (first : List Stmt) (other : Option (List Stmt)) → plain_told (put_what (what.If set names first other) line rest) loops count
      ≡ plain_judged line loops (suc count) (set_short set) (then_plain (plain_told (nest first) loops (suc count)) (λ n. then_plain (plain_told (nest_of_other other) loops n) (plain_told rest loops)))
  unfolding plain_told
  plain-condition set names first None = plain-If set names first
  plain-condition set names first (Some other) = plain-If-else set names first other

  -- one arm of the code
  pub arm : (w v : What) (stands got : Bool) (more R : PlainTold) → w ≡ v → plain_told (put_what v line rest) loops count ≡ plain_judged line loops (suc count) stands more → got ≡ stands
      → plain_judged line loops (suc count) got more ≡ R → plain_told (put_what w line rest) loops count ≡ R
  arm w v stands got more R is eq same done =
      ap (λ w. plain_told (put_what w line rest) loops count) is ∙ eq ∙ ap (λ b. plain_judged line loops (suc count) b more) (sym same) ∙ done

  pub arm_at : (w v : What) (middle R : PlainTold) → w ≡ v → plain_told (put_what v line rest) loops count ≡ middle → middle ≡ R → plain_told (put_what w line rest) loops count ≡ R
  arm_at w v middle R is eq done = ap (λ w. plain_told (put_what w line rest) loops count) is ∙ eq ∙ done

-- a fault stays whatever follows; where there is none, what follows is told
pub fault_stays : (r : Option ℕ) (n : ℕ) (f g : ℕ → PlainTold) → is_some r ≡ true → then_plain (plain_outcome r n) f ≡ then_plain (plain_outcome r n) g
fault_stays (Some line) n f g h = refl
fault_stays None n f g h = absurd (cc)

pub fault_outcome : (r : Option ℕ) (n : ℕ) (f : ℕ → PlainTold) → is_some r ≡ true → then_plain (plain_outcome r n) f ≡ plain_outcome r n
fault_outcome (Some line) n f h = refl
fault_outcome None n f h = absurd (cc)

pub no_fault : (r : Option ℕ) (n : ℕ) (f : ℕ → PlainTold) → is_some r ≡ false → then_plain (plain_outcome r n) f ≡ f n
no_fault (Some line) n f h = absurd (cc)
no_fault None n f h = refl

pub plain-nil : (loops count : ℕ) → plain_told (nest []) loops count ≡ Counted count
unfolding plain_told
plain-nil loops count = ap (λ n. plain_told n loops count) nest-nil

-- the statements that are left, by the first of them
pub plain-step : (xs : List Stmt) (i : ℕ) (x : Stmt) (loops count : ℕ) → i < length xs → x ≡ get_or xs i x
    → plain_told (nest (drop i xs)) loops count ≡ plain_told (put_what x.what x.line (nest (drop (i + 1) xs))) loops count
plain-step xs i x loops count h is =
    ap (λ n. plain_told n loops count) (ap nest (drop_more xs i x h) ∙ ap (λ y. nest (y ∷ drop (i + 1) xs)) (sym is) ∙ nest-cons x (drop (i + 1) xs))

pub plain-end : (xs : List Stmt) (i loops count : ℕ) → length xs ≤ i → plain_told (nest (drop i xs)) loops count ≡ Counted count
plain-end xs i loops count h = ap (λ ys. plain_told (nest ys) loops count) (drop_all i xs h) ∙ plain-nil loops count

pub none_told : (rest : Nest) (loops count : ℕ) → then_plain (plain_told Nothing loops count) (plain_told rest loops) ≡ plain_told rest loops count
unfolding plain_told
none_told rest loops count = refl

pub when_none : {P : Type 0} (r : Option ℕ) → is_some r ≡ false → IfNone r P → P
when_none (Some line) h k = absurd (cc)
when_none None h k = k

-- a statement that has no maps, and is no allocation, dealloc, start or wait
pub stands_unless : (w : What)
    → ((r : Name) (pick : Pick) (at : Access) → w ≡ what.Value r pick at → ⊥)
    → ((r m : Name) (at : Access) (ty : MemrefType) → w ≡ what.Load r m at ty → ⊥)
    → ((x m : Name) (at : Access) (ty : MemrefType) → w ≡ what.Store x m at ty → ⊥)
    → ((r : Name) (ty : MemrefType) → w ≡ what.Alloc r ty → ⊥)
    → ((m : Name) (ty : MemrefType) → w ≡ what.Dealloc m ty → ⊥)
    → ((a : Name) (aa : Access) (b : Name) (bb : Access) (t : Name) (ta : Access) (n : Name) (stride : Option (Name × Name)) (types : List MemrefType) → w ≡ what.Start a aa b bb t ta n stride types → ⊥)
    → ((t : Name) (at : Access) (n : Name) (ty : MemrefType) → w ≡ what.Wait t at n ty → ⊥)
    → plain_stands (plain_of w) ≡ true
unfolding plain_of
stands_unless w value load store alloc dealloc start wait = by (what.out-What w) (what.roll-out-What w)
  where
    by : (x : What-F What Stmt) → what.roll-What x ≡ w → plain_stands (head_plain (put_what w 0 Nothing)) ≡ true
    by (What-F.Value r pick at) e = absurd (value r pick at (sym e ∙ rolls-Value r pick at))
    by (What-F.Load r m at ty) e = absurd (load r m at ty (sym e ∙ rolls-Load r m at ty))
    by (What-F.Store x m at ty) e = absurd (store x m at ty (sym e ∙ rolls-Store x m at ty))
    by (What-F.Alloc r ty) e = absurd (alloc r ty (sym e ∙ rolls-Alloc r ty))
    by (What-F.Dealloc m ty) e = absurd (dealloc m ty (sym e ∙ rolls-Dealloc m ty))
    by (What-F.Start a aa b bb t ta n stride types) e = absurd (start a aa b bb t ta n stride types (sym e ∙ rolls-Start a aa b bb t ta n stride types))
    by (What-F.Wait t at n ty) e = absurd (wait t at n ty (sym e ∙ rolls-Wait t at n ty))
    by x e = ap (λ n. plain_stands (head_plain n)) (put_what_is 0 Nothing x w e)
