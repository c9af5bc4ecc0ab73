-- The loop of a placement, wherever it stands, with the template round it.
use Rattle.std.proofs.Common.{◌≡◌, ℕ, zero, suc, ◌+◌, ◌-◌, ◌≤◌, ℤ, Bool, true, false, List, [], ◌∷◌, ◌++◌, length, refl, sym, ap, ◌∙◌, subst, arith}
use Rattle.std.specs.Prelude.{Option, Some, None, nat_eq, not, if◌then◌else◌}
use Rattle.std.proofs.lemmas.List.{append_assoc, length-append}
use Rattle.std.proofs.lemmas.Bool.Decides.{nat_tests}
use Rattle.affine_expr.specs.declared.map.Set.{Set}
use Rattle.affine_ast.specs.declared.name.Name.{Name}
use Rattle.affine_ast.specs.declared.types.Bound.{Bound}
use Rattle.affine_ast.specs.declared.stmt.Stmt.{Stmt}
use Rattle.affine_ast.specs.declared.stmt.What as what
use Rattle.affine_ast.specs.declared.stmt.What.{What}
use Rattle.affine_ast.specs.declared.stmt.What.TheOpen.{What-F}
use Rattle.affine_ast.specs.Nest.{Nest, Nothing, Loop, Branch, Does, Puts, nest, followed_by, put_layer, put_what, plain_of}
use Rattle.affine_ast.specs.declared.stmt.What.TheVariants.{rolls-For}
use Rattle.affine_ast.proofs.Nests.{nest-nil, nest-cons, nest-append, put-For, put-If, put-If-else, put_what_is, put_plain, plain_unless, put-followed}
use Rattle.placement_texts.specs.Mapped.{mapped}
use Rattle.placement_texts.specs.Spots.{Spot, Here, Behind, found, staged_at}
use Rattle.placement_texts.specs.Template as template
use Rattle.placement_texts.specs.Template.{Placement, redirect}
use Rattle.placement_lists.specs.Statements as statements
use Rattle.placement_lists.specs.Statements.{ListsAreTheTemplate}
use Rattle.placement_stage.specs.Places.{behind_all, line_count, IsParted, IsPlaceOf}
use Rattle.placement_stage.specs.Stages.{IsSmallText, IsSmallWhat, IsStagedInside, IsStagedAs, into, region_staged}
use Rattle.placement_stage.proofs.Redirections.{small_first}
use Rattle.placement_stage.proofs.Layers.{layers, in_layers}

-- ---- past a statement
layer_past : (x : What-F (ℕ → Puts) Puts) (line : ℕ) (rest : Nest) (s : Spot) → found (Behind s) (put_layer x (suc line) rest) ≡ Behind (found s rest)
layer_past (What-F.For v l u step body) line rest s = refl
layer_past (What-F.If set names first other) line rest s = refl
layer_past x line rest s = refl

layer_over : (x : What-F (ℕ → Puts) Puts) (rest : Nest) (s : Spot) → found s (put_layer x zero rest) ≡ Behind (found s rest)
layer_over (What-F.For v l u step body) rest s = refl
layer_over (What-F.If set names first other) rest s = refl
layer_over x rest s = refl

layer_staged : (p : Placement) (x : What-F (ℕ → Puts) Puts) (line : ℕ) (rest : Nest) (s : Spot) → staged_at p (Behind s) (put_layer x line rest) ≡ put_layer x line (staged_at p s rest)
layer_staged p (What-F.For v l u step body) line rest s = refl
layer_staged p (What-F.If set names first other) line rest s = refl
layer_staged p x line rest s = refl

found_past : (w : What) (line : ℕ) (rest : Nest) (s : Spot) → found (Behind s) (put_what w (suc line) rest) ≡ Behind (found s rest)
found_past w line rest s = ap (found (Behind s)) (in_layers w (suc line) rest) ∙ layer_past (layers w) line rest s

found_over : (w : What) (rest : Nest) (s : Spot) → found s (put_what w zero rest) ≡ Behind (found s rest)
found_over w rest s = ap (found s) (in_layers w zero rest) ∙ layer_over (layers w) rest s

staged_past : (p : Placement) (w : What) (line : ℕ) (rest : Nest) (s : Spot) → staged_at p (Behind s) (put_what w line rest) ≡ put_what w line (staged_at p s rest)
staged_past p w line rest s = ap (staged_at p (Behind s)) (in_layers w line rest) ∙ layer_staged p (layers w) line rest s ∙ sym (in_layers w line (staged_at p s rest))

-- ---- past statements
-- so many statements with a line are all of them
next_line : (line : ℕ) → nat_eq (suc line) 0 ≡ false
next_line line = grind (arith, nat_tests)

past_lined : (w : What) (n : ℕ) (rest : Nest) (s end : Spot) → ((k : ℕ) → n ≡ k → found (behind_all k s) rest ≡ end) → (line k : ℕ) → suc n ≡ k → found (behind_all k s) (put_what w (suc line) rest) ≡ Behind end
past_lined w n rest s end further line zero e = absurd (let z : ⊥ = omega (arith, e) in z)
past_lined w n rest s end further line (suc k) e = found_past w line rest (behind_all k s) ∙ ap Behind (further k (omega (arith, e)))

past_one : (w : What) (n : ℕ) (rest : Nest) (s end : Spot) → ((k : ℕ) → n ≡ k → found (behind_all k s) rest ≡ end) → (line k : ℕ) → (if nat_eq line 0 then n else suc n) ≡ k
    → found (behind_all k s) (put_what w line rest) ≡ Behind end
past_one w n rest s end further zero k e = found_over w rest (behind_all k s) ∙ ap Behind (further k e)
past_one w n rest s end further (suc line) k e = past_lined w n rest s end further line k (ap (λ b. if b then n else suc n) (sym (next_line line)) ∙ e)

found_behind : (front : List Stmt) (k : ℕ) (s : Spot) (back : List Stmt) → line_count front ≡ k → found (behind_all k s) (nest (front ++ back)) ≡ behind_all (length front) (found s (nest back))
found_behind [] k s back e = ap (λ k. found (behind_all k s) (nest back)) (sym e)
found_behind (x ∷ front) k s back e =
    ap (found (behind_all k s)) (nest-cons x (front ++ back))
    ∙ past_one x.what (line_count front) (nest (front ++ back)) s (behind_all (length front) (found s (nest back))) (λ k e. found_behind front k s back e) x.line k e

staged_behind : (p : Placement) (front : List Stmt) (s : Spot) (back : List Stmt) → staged_at p (behind_all (length front) s) (nest (front ++ back)) ≡ followed_by (nest front) (staged_at p s (nest back))
staged_behind p [] s back = ap (λ n. followed_by n (staged_at p s (nest back))) (sym nest-nil)
staged_behind p (x ∷ front) s back =
    ap (staged_at p (Behind (behind_all (length front) s))) (nest-cons x (front ++ back))
    ∙ staged_past p x.what x.line (nest (front ++ back)) (behind_all (length front) s)
    ∙ ap (put_what x.what x.line) (staged_behind p front s back)
    ∙ sym (put-followed x.what x.line (nest front) (staged_at p s (nest back)))
    ∙ ap (λ n. followed_by n (staged_at p s (nest back))) (sym (nest-cons x front))

staged_nothing : (p : Placement) (s : Spot) → staged_at p s Nothing ≡ Nothing
staged_nothing p s = refl

-- no such statement is there
none_lined : (p : Placement) (w : What) (n : ℕ) (rest : Nest) (s : Spot) → ((k : ℕ) → n ≤ k → staged_at p (found (behind_all k s) rest) rest ≡ rest) → (line k : ℕ) → suc n ≤ k
    → staged_at p (found (behind_all k s) (put_what w (suc line) rest)) (put_what w (suc line) rest) ≡ put_what w (suc line) rest
none_lined p w n rest s further line zero few = absurd (let z : ⊥ = omega (arith, few) in z)
none_lined p w n rest s further line (suc k) few =
    ap (λ t. staged_at p t (put_what w (suc line) rest)) (found_past w line rest (behind_all k s))
    ∙ staged_past p w (suc line) rest (found (behind_all k s) rest)
    ∙ ap (put_what w (suc line)) (further k (omega (arith, few)))

none_one : (p : Placement) (w : What) (n : ℕ) (rest : Nest) (s : Spot) → ((k : ℕ) → n ≤ k → staged_at p (found (behind_all k s) rest) rest ≡ rest) → (line k : ℕ) → (if nat_eq line 0 then n else suc n) ≤ k
    → staged_at p (found (behind_all k s) (put_what w line rest)) (put_what w line rest) ≡ put_what w line rest
none_one p w n rest s further zero k few =
    ap (λ t. staged_at p t (put_what w zero rest)) (found_over w rest (behind_all k s))
    ∙ staged_past p w zero rest (found (behind_all k s) rest)
    ∙ ap (put_what w zero) (further k few)
none_one p w n rest s further (suc line) k few = none_lined p w n rest s further line k (subst (λ b. (if b then n else suc n) ≤ k) (next_line line) few)

pub staged_none : (p : Placement) (ss : List Stmt) (k : ℕ) (s : Spot) → line_count ss ≤ k → staged_at p (found (behind_all k s) (nest ss)) (nest ss) ≡ nest ss
staged_none p [] k s few = ap (λ n. staged_at p (found (behind_all k s) n) n) nest-nil ∙ sym nest-nil
staged_none p (x ∷ ss) k s few =
    ap (λ n. staged_at p (found (behind_all k s) n) n) (nest-cons x ss)
    ∙ none_one p x.what (line_count ss) (nest ss) s (λ k few. staged_none p ss k s few) x.line k few
    ∙ sym (nest-cons x ss)

-- a list with the statements that one of it becomes
pub staged_parts : (p : Placement) (ss : List Stmt) (k : ℕ) (s : Spot) (front : List Stmt) (x : Stmt) (back made out : List Stmt) → IsParted ss k front x back → IsStagedAs p s x made
    → out ≡ (front ++ made) ++ back → nest out ≡ staged_at p (found (behind_all k s) (nest ss)) (nest ss)
staged_parts p ss k s front x back made out parted staged is =
    ap nest (is ∙ append_assoc front made back)
    ∙ nest-append front (made ++ back)
    ∙ ap (followed_by (nest front)) (staged.put back)
    ∙ sym (staged_behind p front (found s (nest (x ∷ back))) (x ∷ back))
    ∙ ap (λ t. staged_at p t (nest (front ++ x ∷ back))) (sym (found_behind front k s (x ∷ back) parted.counted))
    ∙ ap (λ ss. staged_at p (found (behind_all k s) (nest ss)) (nest ss)) (sym parted.whole)

-- ---- one statement
-- its line isn't 0
line_is : (line : ℕ) → nat_eq line 0 ≡ false → suc (line - 1) ≡ line
line_is zero h = absurd (let z : ⊥ = grind (arith, nat_tests) in z)
line_is (suc line) h = omega arith

-- with the same line
pub staged_inside : (p : Placement) (s : Spot) (x : Stmt) (new : What) (made : List Stmt) → nat_eq x.line 0 ≡ false → IsStagedInside p s x.what new
    → made ≡ (record { line = x.line; what = new }) ∷ [] → IsStagedAs p s x made
staged_inside p s x new made line is made_is = record {
  put = λ back.
      let e = line_is x.line line in
      ap (λ ss. nest (ss ++ back)) made_is
      ∙ nest-cons (record { line = x.line; what = new }) back
      ∙ ap (λ k. put_what new k (nest back)) (sym e)
      ∙ is.put (x.line - 1) (nest back)
      ∙ ap (λ k. staged_at p (found s (put_what x.what k (nest back))) (put_what x.what k (nest back))) e
      ∙ ap (λ n. staged_at p (found s n) n) (sym (nest-cons x back));
}

-- the loop itself
pub staged_here : (p : Placement) (law : ListsAreTheTemplate) (x : Stmt) (made before behind : List Stmt) (v : Name) (l u : Bound) (step : ℤ) (body ss new : List Stmt)
    → nat_eq x.line 0 ≡ false → x.what ≡ what.For v l u step body → ss ≡ body → nest new ≡ mapped (redirect p) (nest ss)
    → before ≡ statements.before p → behind ≡ statements.behind p
    → made ≡ (before ++ (record { line = x.line; what = what.For v l u step new }) ∷ []) ++ behind → IsStagedAs p Here x made
staged_here p law x made before behind v l u step body ss new line is same inner before_is behind_is made_is = record { put = λ back. by back }
  where
    loop : Stmt
    loop = record { line = x.line; what = what.For v l u step new }

    lists : (back : List Stmt) → made ++ back ≡ statements.before p ++ (loop ∷ (statements.behind p ++ back))
    lists back =
        ap (λ ss. ss ++ back) made_is
        ∙ append_assoc (before ++ loop ∷ []) behind back
        ∙ append_assoc before (loop ∷ []) (behind ++ back)
        ∙ ap (λ ss. ss ++ (loop ∷ (behind ++ back))) before_is
        ∙ ap (λ ss. statements.before p ++ (loop ∷ (ss ++ back))) behind_is

    here : (line : ℕ) (n : Nest) → staged_at p (found Here (Loop (suc line) v l u step (nest body) n)) (Loop (suc line) v l u step (nest body) n)
        ≡ template.before p (Loop (suc line) v l u step (mapped (redirect p) (nest body)) (template.behind_loop p n))
    here line n = refl

    by : (back : List Stmt) → nest (made ++ back) ≡ staged_at p (found Here (nest (x ∷ back))) (nest (x ∷ back))
    by back =
        let e = line_is x.line line in
        ap nest (lists back)
        ∙ (law p (loop ∷ (statements.behind p ++ back))).before_is
        ∙ ap (template.before p) (
        nest-cons loop (statements.behind p ++ back)
        ∙ put-For x.line (nest (statements.behind p ++ back)) v l u step new
        ∙ ap (λ b. Loop x.line v l u step b (nest (statements.behind p ++ back))) (inner ∙ ap (λ ss. mapped (redirect p) (nest ss)) same)
        ∙ ap (Loop x.line v l u step (mapped (redirect p) (nest body))) ((law p back).behind_is)
        ∙ ap (λ k. Loop k v l u step (mapped (redirect p) (nest body)) (template.behind_loop p (nest back))) (sym e))
        ∙ sym (here (x.line - 1) (nest back))
        ∙ ap (λ k. staged_at p (found Here (Loop k v l u step (nest body) (nest back))) (Loop k v l u step (nest body) (nest back))) e
        ∙ ap (λ n. staged_at p (found Here n) n) (sym (put-For x.line (nest back) v l u step body) ∙ ap (λ w. put_what w x.line (nest back)) (sym is) ∙ sym (nest-cons x back))

-- no loop stands there
pub stays_here : (p : Placement) (w : What) → ((v : Name) (l u : Bound) (s : ℤ) (body : List Stmt) → w ≡ what.For v l u s body → ⊥) → IsStagedInside p Here w w
stays_here p w loop = record { put = λ line rest. by line rest (what.out-What w) (what.roll-out-What w) }
  where
    by : (line : ℕ) (rest : Nest) (x : What-F What Stmt) → what.roll-What x ≡ w → put_what w (suc line) rest ≡ staged_at p (found Here (put_what w (suc line) rest)) (put_what w (suc line) rest)
    by line rest (What-F.For v l u s body) e = absurd (loop v l u s body (sym e ∙ rolls-For v l u s body))
    by line rest x e = put_what_is (suc line) rest x w e ∙ ap (λ n. staged_at p (found Here n) n) (sym (put_what_is (suc line) rest x w e))

-- ---- inside a statement
module _ (p : Placement) (w made : What) (s : Spot) where
  pub for_staged : (other : Bool) (v : Name) (l u : Bound) (step : ℤ) (body ss new : List Stmt) → w ≡ what.For v l u step body → ss ≡ body → nest new ≡ region_staged p (not other) s ss
      → made ≡ what.For v l u step new → IsStagedInside p (into other s) w made
  for_staged other v l u step body ss new is same inner made_is = record {
    put = λ line rest.
        ap (λ w. put_what w (suc line) rest) made_is
        ∙ put-For (suc line) rest v l u step new
        ∙ ap (λ b. Loop (suc line) v l u step b rest) (inner ∙ ap (region_staged p (not other) s) same)
        ∙ by other line rest
        ∙ ap (λ n. staged_at p (found (into other s) n) n) (sym (ap (λ w. put_what w (suc line) rest) is ∙ put-For (suc line) rest v l u step body));
  }
    where
      by : (other : Bool) (line : ℕ) (rest : Nest) → Loop (suc line) v l u step (region_staged p (not other) s body) rest
          ≡ staged_at p (found (into other s) (Loop (suc line) v l u step (nest body) rest)) (Loop (suc line) v l u step (nest body) rest)
      by true line rest = refl
      by false line rest = refl

  pub if_staged : (other : Bool) (set : Set) (names : List Name) (first ss new : List Stmt) → w ≡ what.If set names first None → ss ≡ first → nest new ≡ region_staged p (not other) s ss
      → made ≡ what.If set names new None → IsStagedInside p (into other s) w made
  if_staged other set names first ss new is same inner made_is = record {
    put = λ line rest.
        ap (λ w. put_what w (suc line) rest) made_is
        ∙ put-If (suc line) rest set names new
        ∙ ap (λ b. Branch (suc line) set names b false Nothing rest) (inner ∙ ap (region_staged p (not other) s) same)
        ∙ by other line rest
        ∙ ap (λ n. staged_at p (found (into other s) n) n) (sym (ap (λ w. put_what w (suc line) rest) is ∙ put-If (suc line) rest set names first));
  }
    where
      by : (other : Bool) (line : ℕ) (rest : Nest) → Branch (suc line) set names (region_staged p (not other) s first) false Nothing rest
          ≡ staged_at p (found (into other s) (Branch (suc line) set names (nest first) false Nothing rest)) (Branch (suc line) set names (nest first) false Nothing rest)
      by true line rest = refl
      by false line rest = refl

  pub if_else_staged : (other : Bool) (set : Set) (names : List Name) (first second ss ts new more : List Stmt) → w ≡ what.If set names first (Some second) → ss ≡ first → ts ≡ second
      → nest new ≡ region_staged p (not other) s ss → nest more ≡ region_staged p other s ts → made ≡ what.If set names new (Some more) → IsStagedInside p (into other s) w made
  if_else_staged other set names first second ss ts new more is same alike inner outer made_is = record {
    put = λ line rest.
        ap (λ w. put_what w (suc line) rest) made_is
        ∙ put-If-else (suc line) rest set names new more
        ∙ ap (λ b. Branch (suc line) set names b true (nest more) rest) (inner ∙ ap (region_staged p (not other) s) same)
        ∙ ap (λ b. Branch (suc line) set names (region_staged p (not other) s first) true b rest) (outer ∙ ap (region_staged p other s) alike)
        ∙ by other line rest
        ∙ ap (λ n. staged_at p (found (into other s) n) n) (sym (ap (λ w. put_what w (suc line) rest) is ∙ put-If-else (suc line) rest set names first second));
  }
    where
      by : (other : Bool) (line : ℕ) (rest : Nest) → Branch (suc line) set names (region_staged p (not other) s first) true (region_staged p other s second) rest
          ≡ staged_at p (found (into other s) (Branch (suc line) set names (nest first) true (nest second) rest)) (Branch (suc line) set names (nest first) true (nest second) rest)
      by true line rest = refl
      by false line rest = refl

  pub plain_staged : (other : Bool) → ((v : Name) (l u : Bound) (step : ℤ) (body : List Stmt) → w ≡ what.For v l u step body → ⊥)
      → ((set : Set) (names : List Name) (first : List Stmt) (more : Option (List Stmt)) → w ≡ what.If set names first more → ⊥) → made ≡ w → IsStagedInside p (into other s) w made
  plain_staged other loop condition made_is = record {
    put = λ line rest.
        let e = put_plain w (suc line) rest (plain_unless w loop condition) in
        ap (λ w. put_what w (suc line) rest) made_is
        ∙ e
        ∙ by other line rest
        ∙ ap (λ n. staged_at p (found (into other s) n) n) (sym e);
  }
    where
      by : (other : Bool) (line : ℕ) (rest : Nest) → Does (suc line) (plain_of w) rest ≡ staged_at p (found (into other s) (Does (suc line) (plain_of w) rest)) (Does (suc line) (plain_of w) rest)
      by true line rest = refl
      by false line rest = refl

-- ---- regions of a small text
small_part : (a b : Nest) → IsSmallText (followed_by a b) → IsSmallText a × IsSmallText b
small_part Nothing b h = (tt, h)
small_part (Loop line v l u s body rest) b h = let two = small_part rest b h.1 in ((h.0, two.0), two.1)
small_part (Branch line set names first has other rest) b h = let two = small_part rest b h.2 in ((h.0, h.1, two.0), two.1)
small_part (Does line q rest) b h = let two = small_part rest b h.1 in ((h.0, two.0), two.1)

pub small_parted : (ss : List Stmt) (k : ℕ) (front : List Stmt) (x : Stmt) (back : List Stmt) → IsParted ss k front x back → IsSmallText (nest ss) → IsSmallWhat x.what
small_parted ss k front x back parted h =
    let two = small_part (nest front) (nest (x ∷ back)) (subst IsSmallText (ap nest parted.whole ∙ nest-append front (x ∷ back)) h) in
    (small_first x.what x.line (nest back) (subst IsSmallText (nest-cons x back) two.1)).0

-- a list whose part up to a place, and the last of that part, are taken off
pub parted_at : (ss kept front back : List Stmt) (k place : ℕ) (x : Stmt) → IsPlaceOf ss k place → ss ≡ kept ++ back → length kept ≡ place + 1 → kept ≡ front ++ x ∷ [] → IsParted ss k front x back
parted_at ss kept front back k place x there whole long last =
    there.parted front x back
    (whole ∙ ap (λ ks. ks ++ back) last ∙ append_assoc front (x ∷ []) back)
    (let l = ap length last ∙ length-append front (x ∷ []) in omega (arith, l, long))
