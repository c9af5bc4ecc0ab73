-- That each statement of a text fits, with one placement more in the text.
use Rattle.std.proofs.Common.{◌≡◌, ℕ, suc, ◌+◌, List, [], ◌∷◌, ◌++◌, Bool, true, false, refl, sym, ap, ◌∙◌, arith}
use Rattle.std.specs.Prelude.{◌&&◌, if◌then◌else◌}
use Rattle.std.specs.List.{list_all}
use Rattle.std.proofs.lemmas.List.Folds.{list_all-append}
use Rattle.affine_ast.specs.declared.types.Access.{Access}
use Rattle.affine_ast.specs.Names.{same_name}
use Rattle.affine_ast.specs.Nest.{Plain, Nest, Nothing, Loop, Branch, Does, Value, Load, Store, RawLoad, RawStore, Constant, Binary, Cast, Alloc, Dealloc, Start, Wait, Return, followed_by}
use Rattle.nest_domain.specs.Ways.{loop_count}
use Rattle.placement_texts.specs.Mapped.{mapped}
use Rattle.placement_texts.specs.Template.{Placement, fast_name, fast_type, begins, in_fast, before, behind_loop, redirect}
use Rattle.placement_texts.specs.Spots.{Spot, Here, Behind, Inside, Other, IsLoop, staged_at}
use Rattle.placement_regions.specs.Sites.{from_spot, way_to}
use Rattle.plan_laws.specs.Limits.{access_fits, bound_fits, rows_fit}
use Rattle.text_limits.specs.Sums.{is_shallow, plain_fits, each_fits}
use Rattle.text_limits.specs.Adding.{accesses_of, accesses_in, accesses_in_loop, fits_in_fast, condition_count}
use Rattle.text_limits.proofs.Lessened.{fast_fits_first}
use Rattle.text_limits.proofs.Summed.{before_followed, behind_followed}

-- ---- truth values
three : (s x y b : Bool) → (s && (x && (y && b))) ≡ ((s && (x && y)) && b)
three true true y b = refl
three true false y b = refl
three false x y b = refl

four : (s x y z b : Bool) → (s && (x && (y && (z && b)))) ≡ ((s && (x && (y && z))) && b)
four true true true z b = refl
four true true false z b = refl
four true false y z b = refl
four false x y z b = refl

two : (s x b : Bool) → (s && (x && b)) ≡ ((s && x) && b)
two true x b = refl
two false x b = refl

one_more : (a f : Bool) → ((a && true) && (f && true)) ≡ ((a && f) && true)
one_more true f = refl
one_more false f = refl

two_and_two : (b a r c : Bool) → ((b && a) && (r && c)) ≡ ((b && r) && (a && c))
two_and_two true true r c = refl
two_and_two true false true c = refl
two_and_two true false false c = refl
two_and_two false a r c = refl

with_two : (o b a r c : Bool) → (o && ((b && a) && (r && c))) ≡ ((o && (b && r)) && (a && c))
with_two true b a r c = two_and_two b a r c
with_two false b a r c = refl

true_behind : (x : Bool) → (x && true) ≡ x
true_behind true = refl
true_behind false = refl

false_behind : (x : Bool) → (x && false) ≡ false
false_behind true = refl
false_behind false = refl

-- a text's own value comes first, then the template's, then that of the accesses
behind_one : (o r t a : Bool) → (o && ((r && t) && a)) ≡ (((o && r) && t) && a)
behind_one true r t a = refl
behind_one false r t a = refl

behind_two : (o b r t a : Bool) → (o && (b && ((r && t) && a))) ≡ (((o && (b && r)) && t) && a)
behind_two true b r t a = behind_one b r t a
behind_two false b r t a = refl

behind_three : (o b d r t a : Bool) → (o && (b && (d && ((r && t) && a)))) ≡ (((o && (b && (d && r))) && t) && a)
behind_three true b d r t a = behind_two b d r t a
behind_three false b d r t a = refl

inside : (o b t a r : Bool) → (o && (((b && t) && a) && r)) ≡ (((o && (b && r)) && t) && a)
inside true true true true true = refl
inside true true true true false = refl
inside true true true false true = refl
inside true true true false false = refl
inside true true false a true = refl
inside true true false a false = refl
inside true false t a r = refl
inside false b t a r = refl

inside_other : (o b d t a r : Bool) → (o && (b && (((d && t) && a) && r))) ≡ (((o && (b && (d && r))) && t) && a)
inside_other true true d t a r = inside true d t a r
inside_other true false d t a r = refl
inside_other false b d t a r = refl

at_loop : (f o b a h r : Bool) → (f && (o && ((b && a) && (h && r)))) ≡ (((o && (b && r)) && (f && h)) && a)
at_loop true true true true true true = refl
at_loop true true true true true false = refl
at_loop true true true true false true = refl
at_loop true true true true false false = refl
at_loop true true true false true true = refl
at_loop true true true false true false = refl
at_loop true true true false false true = refl
at_loop true true true false false false = refl
at_loop true true false a h r = refl
at_loop true false b a h r = refl
at_loop false o b a h r = sym (ap (λ x. x && a) (false_behind (o && (b && r))))

-- ---- one text behind another
pub fits_followed : (loops ifs : ℕ) (a b : Nest) → each_fits loops ifs (followed_by a b) ≡ (each_fits loops ifs a && each_fits loops ifs b)
fits_followed loops ifs Nothing b = refl
fits_followed loops ifs (Loop line v l u s body rest) b =
    let own = is_shallow loops ifs && (bound_fits l && bound_fits u) in
    let inner = each_fits (suc loops) ifs body in
    ap (λ x. own && (inner && x)) (fits_followed loops ifs rest b) ∙ three own inner (each_fits loops ifs rest) (each_fits loops ifs b)
fits_followed loops ifs (Branch line set names first has other rest) b =
    let own = is_shallow loops ifs && rows_fit set.rows in
    let inner = each_fits loops (suc ifs) first in
    let more = each_fits loops (suc ifs) other in
    ap (λ x. own && (inner && (more && x))) (fits_followed loops ifs rest b) ∙ four own inner more (each_fits loops ifs rest) (each_fits loops ifs b)
fits_followed loops ifs (Does line q rest) b =
    let own = is_shallow loops ifs && plain_fits q in
    ap (λ x. own && x) (fits_followed loops ifs rest b) ∙ two own (each_fits loops ifs rest) (each_fits loops ifs b)

module _ (p : Placement) where
  -- ---- the accesses of the memref
  abbrev All : List Access → Bool
  All ats = list_all (fits_in_fast p) ats

  both_fit : (at : Access) → fits_in_fast p at ≡ (access_fits at && fits_in_fast p at)
  both_fit at = by (fits_in_fast p at) refl
    where
      by : (b : Bool) → fits_in_fast p at ≡ b → b ≡ (access_fits at && b)
      by true e = sym (ap (λ x. x && true) (fast_fits_first p at e))
      by false e = sym (false_behind (access_fits at))

  redirected_one : (b : Bool) (q made : Plain) (at : Access) → plain_fits q ≡ (access_fits at && true) → plain_fits made ≡ (fits_in_fast p at && true)
      → plain_fits (if b then made else q) ≡ (plain_fits q && All (if b then at ∷ [] else []))
  redirected_one true q made at e f = f ∙ ap (λ x. x && true) (both_fit at) ∙ sym (one_more (access_fits at) (fits_in_fast p at)) ∙ ap (λ x. x && (fits_in_fast p at && true)) (sym e)
  redirected_one false q made at e f = sym (true_behind (plain_fits q))

  redirect_fits : (q : Plain) → plain_fits (redirect p q) ≡ (plain_fits q && All (accesses_of p.memref q))
  redirect_fits (Load r m at ty) = redirected_one (same_name p.memref m) (Load r m at ty) (Load r (fast_name p.name) (in_fast (begins p) at) (fast_type p)) at refl refl
  redirect_fits (Store x m at ty) = redirected_one (same_name p.memref m) (Store x m at ty) (Store x (fast_name p.name) (in_fast (begins p) at) (fast_type p)) at refl refl
  redirect_fits (Value r pick at) = sym (true_behind (plain_fits (Value r pick at)))
  redirect_fits (RawLoad r m at ty) = refl
  redirect_fits (RawStore x m at ty) = refl
  redirect_fits (Constant r z ty) = refl
  redirect_fits (Binary r op x y ty) = refl
  redirect_fits (Cast r kind x from to) = refl
  redirect_fits (Alloc r ty) = sym (true_behind (plain_fits (Alloc r ty)))
  redirect_fits (Dealloc m ty) = refl
  redirect_fits (Start x x_at y y_at t t_at n stride types) = sym (true_behind (plain_fits (Start x x_at y y_at t t_at n stride types)))
  redirect_fits (Wait t at n ty) = sym (true_behind (plain_fits (Wait t at n ty)))
  redirect_fits Return = refl

  mapped_fits : (loops ifs : ℕ) (n : Nest) → each_fits loops ifs (mapped (redirect p) n) ≡ (each_fits loops ifs n && All (accesses_in p.memref n))
  mapped_fits loops ifs Nothing = refl
  mapped_fits loops ifs (Loop line v l u s body rest) =
      let own = is_shallow loops ifs && (bound_fits l && bound_fits u) in
      let xs = accesses_in p.memref body in
      let ys = accesses_in p.memref rest in
      (λ i. own && (mapped_fits (suc loops) ifs body i && mapped_fits loops ifs rest i))
      ∙ with_two own (each_fits (suc loops) ifs body) (All xs) (each_fits loops ifs rest) (All ys)
      ∙ ap (λ x. (own && (each_fits (suc loops) ifs body && each_fits loops ifs rest)) && x) (sym (list_all-append (fits_in_fast p) xs ys))
  mapped_fits loops ifs (Branch line set names first has other rest) =
      let own = is_shallow loops ifs && rows_fit set.rows in
      let one = each_fits loops (suc ifs) first in
      let more = each_fits loops (suc ifs) other in
      let left = each_fits loops ifs rest in
      let xs = accesses_in p.memref first in
      let ys = accesses_in p.memref other in
      let zs = accesses_in p.memref rest in
      (λ i. own && (mapped_fits loops (suc ifs) first i && (mapped_fits loops (suc ifs) other i && mapped_fits loops ifs rest i)))
      ∙ ap (λ x. own && ((one && All xs) && x)) (two_and_two more (All ys) left (All zs) ∙ ap (λ x. (more && left) && x) (sym (list_all-append (fits_in_fast p) ys zs)))
      ∙ with_two own one (All xs) (more && left) (All (ys ++ zs))
      ∙ ap (λ x. (own && (one && (more && left))) && x) (sym (list_all-append (fits_in_fast p) xs (ys ++ zs)))
  mapped_fits loops ifs (Does line q rest) =
      let shallow = is_shallow loops ifs in
      let xs = accesses_of p.memref q in
      let ys = accesses_in p.memref rest in
      (λ i. (shallow && redirect_fits q i) && mapped_fits loops ifs rest i)
      ∙ ap (λ x. x && (each_fits loops ifs rest && All ys)) (two shallow (plain_fits q) (All xs))
      ∙ two_and_two (shallow && plain_fits q) (All xs) (each_fits loops ifs rest) (All ys)
      ∙ ap (λ x. ((shallow && plain_fits q) && each_fits loops ifs rest) && x) (sym (list_all-append (fits_in_fast p) xs ys))

  -- ---- the template
  before_fits : (loops ifs : ℕ) (a : Nest) → each_fits loops ifs (before p a) ≡ (each_fits loops ifs (before p Nothing) && each_fits loops ifs a)
  before_fits loops ifs a = ap (each_fits loops ifs) (sym (before_followed p Nothing a)) ∙ fits_followed loops ifs (before p Nothing) a

  behind_fits : (loops ifs : ℕ) (a : Nest) → each_fits loops ifs (behind_loop p a) ≡ (each_fits loops ifs (behind_loop p Nothing) && each_fits loops ifs a)
  behind_fits loops ifs a = ap (each_fits loops ifs) (sym (behind_followed p Nothing a)) ∙ fits_followed loops ifs (behind_loop p Nothing) a

  -- where so many loops and conditions stand round the loop
  abbrev Template : ℕ → ℕ → Bool
  Template a b = each_fits a b (before p Nothing) && each_fits a b (behind_loop p Nothing)

  abbrev There : Spot → Nest → List Access
  There s n = accesses_in_loop p.memref (from_spot s n)

  pub staged_fits : (loops ifs a b : ℕ) (s : Spot) (n : Nest) → IsLoop s n → a ≡ loops + loop_count (way_to s n) → b ≡ ifs + condition_count (way_to s n)
      → each_fits loops ifs (staged_at p s n) ≡ ((each_fits loops ifs n && Template a b) && All (There s n))
  staged_fits loops ifs a b s Nothing is d e = absurd is
  staged_fits loops ifs a b Here (Loop line v l u step body rest) is d e =
      let own = is_shallow loops ifs && (bound_fits l && bound_fits u) in
      let back = each_fits loops ifs (behind_loop p Nothing) in
      let front = each_fits loops ifs (before p Nothing) in
      let inner = each_fits (suc loops) ifs body in
      let left = each_fits loops ifs rest in
      let all = All (accesses_in p.memref body) in
      let same : loops ≡ a = omega (arith, d) in
      let same_ifs : ifs ≡ b = omega (arith, e) in
      before_fits loops ifs (Loop line v l u step (mapped (redirect p) body) (behind_loop p rest))
      ∙ (λ i. front && (own && (mapped_fits (suc loops) ifs body i && behind_fits loops ifs rest i)))
      ∙ at_loop front own inner all back left
      ∙ (λ i. ((own && (inner && left)) && Template (same i) (same_ifs i)) && all)
  staged_fits loops ifs a b (Behind s) (Loop line v l u step body rest) is d e =
      let own = is_shallow loops ifs && (bound_fits l && bound_fits u) in
      let inner = each_fits (suc loops) ifs body in
      ap (λ x. own && (inner && x)) (staged_fits loops ifs a b s rest is d e) ∙ behind_two own inner (each_fits loops ifs rest) (Template a b) (All (There s rest))
  staged_fits loops ifs a b (Inside s) (Loop line v l u step body rest) is d e =
      let own = is_shallow loops ifs && (bound_fits l && bound_fits u) in
      let left = each_fits loops ifs rest in
      ap (λ x. own && (x && left)) (staged_fits (suc loops) ifs a b s body is (omega (arith, d)) e)
      ∙ inside own (each_fits (suc loops) ifs body) (Template a b) (All (There s body)) left
  staged_fits loops ifs a b (Other s) (Loop line v l u step body rest) is d e = absurd is
  staged_fits loops ifs a b Here (Branch line set names first has other rest) is d e = absurd is
  staged_fits loops ifs a b (Behind s) (Branch line set names first has other rest) is d e =
      let own = is_shallow loops ifs && rows_fit set.rows in
      let one = each_fits loops (suc ifs) first in
      let more = each_fits loops (suc ifs) other in
      ap (λ x. own && (one && (more && x))) (staged_fits loops ifs a b s rest is d e) ∙ behind_three own one more (each_fits loops ifs rest) (Template a b) (All (There s rest))
  staged_fits loops ifs a b (Inside s) (Branch line set names first has other rest) is d e =
      let own = is_shallow loops ifs && rows_fit set.rows in
      let left = each_fits loops (suc ifs) other && each_fits loops ifs rest in
      ap (λ x. own && (x && left)) (staged_fits loops (suc ifs) a b s first is d (omega (arith, e)))
      ∙ inside own (each_fits loops (suc ifs) first) (Template a b) (All (There s first)) left
  staged_fits loops ifs a b (Other s) (Branch line set names first has other rest) is d e =
      let own = is_shallow loops ifs && rows_fit set.rows in
      let one = each_fits loops (suc ifs) first in
      let left = each_fits loops ifs rest in
      ap (λ x. own && (one && (x && left))) (staged_fits loops (suc ifs) a b s other is d (omega (arith, e)))
      ∙ inside_other own one (each_fits loops (suc ifs) other) (Template a b) (All (There s other)) left
  staged_fits loops ifs a b Here (Does line q rest) is d e = absurd is
  staged_fits loops ifs a b (Behind s) (Does line q rest) is d e =
      let own = is_shallow loops ifs && plain_fits q in
      ap (λ x. own && x) (staged_fits loops ifs a b s rest is d e) ∙ behind_one own (each_fits loops ifs rest) (Template a b) (All (There s rest))
  staged_fits loops ifs a b (Inside s) (Does line q rest) is d e = absurd is
  staged_fits loops ifs a b (Other s) (Does line q rest) is d e = absurd is
