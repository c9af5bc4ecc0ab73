-- The walk for the peak, one step for each kind of statement.
use Rattle.std.proofs.Common.{◌≡◌, ℕ, zero, suc, ◌+◌, ◌*◌, ◌-◌, ◌<◌, ◌≤◌, min, max, ℤ, Bool, true, false, List, ◌∷◌, drop, length, get_or, refl, sym, ap, ◌∙◌, subst, arith, mul-suc, mul-zero, mul_assoc, le_trans}
use Rattle.std.specs.Prelude.{Option, Some, None, nat_le}
use Rattle.std.proofs.lemmas.List.{drop_more, drop_all}
use Rattle.std.proofs.lemmas.Bool.Decides.{nat_tests}
use Rattle.std.proofs.Math.Numerals.{add-one}
use Rattle.std.proofs.Math.Seq.{drop-cons}
use Rattle.affine_expr.specs.declared.map.Set.{Set}
use Rattle.affine_ast.specs.declared.name.Name.{Name}
use Rattle.affine_ast.specs.declared.types.Bound.{Bound}
use Rattle.affine_ast.specs.declared.types.MemrefType.{MemrefType}
use Rattle.affine_ast.specs.declared.stmt.Stmt.{Stmt}
use Rattle.affine_ast.specs.declared.stmt.What as what
use Rattle.affine_ast.specs.declared.stmt.What.{What}
use Rattle.affine_ast.specs.declared.stmt.What.TheOpen.{What-F}
use Rattle.affine_ast.specs.declared.stmt.What.TheVariants.{rolls-Alloc, rolls-Dealloc}
use Rattle.affine_ast.specs.Nest.{Plain, Nest, Nothing, Loop, Branch, Does, nest, put_what, head_plain, plain_of, followed_by}
use Rattle.affine_ast.proofs.Nests.{nest-nil, nest-cons, put-For, put-If, put-If-else, put-Alloc, put-Dealloc, put_what_is, put_plain, plain_unless, put-followed}
use Rattle.affine_ast.specs.Sizes.{product}
use Rattle.peak_laws.specs.Peak.{fast_bytes, plain_live, peak_of, bytes_in}
use Rattle.copy_place.specs.declared.bytes.Live.{Live}
use Rattle.copy_place.specs.Moves.{Moves}

-- ---- products that stop at a limit

min_left : (a b : ℕ) → a ≤ b → min a b ≡ a
min_left a b h = omega arith

min_right : (a b : ℕ) → b ≤ a → min a b ≡ b
min_right a b h = omega arith

at_least : (a q : ℕ) → a ≤ a * suc q
at_least a q = omega (arith, mul-suc a q)

stops : (x q limit : ℕ) (below : Bool) → nat_le x limit ≡ below → min (min x limit * suc q) limit ≡ min (x * suc q) limit
stops x q limit true e = let h : x ≤ limit = grind (arith, nat_tests) in ap (λ n. min (n * suc q) limit) (min_left x limit h)
stops x q limit false e =
    let h : limit ≤ x = grind (arith, nat_tests) in
    ap (λ n. min (n * suc q) limit) (min_right x limit h) ∙ min_right (limit * suc q) limit (at_least limit q) ∙ sym (min_right (x * suc q) limit (le_trans h (at_least x q)))

pub product_stops : (x p limit : ℕ) → min (min x limit * p) limit ≡ min (x * p) limit
product_stops x zero limit = ap (λ n. min n limit) (mul-zero (min x limit) ∙ sym (mul-zero x))
product_stops x (suc q) limit = stops x q limit (nat_le x limit) refl

pub product_step : (count limit : ℕ) (sizes : List ℕ) (i next : ℕ) → i < length sizes → next ≡ min (count * get_or sizes i 0) limit → min (count * product (drop i sizes)) limit ≡ min (next * product (drop (i + 1) sizes)) limit
product_step count limit sizes i next h e =
    rw (e, drop-cons sizes i 0 h, add-one) (ap (λ n. min n limit) (sym (mul_assoc count (get_or sizes i 0) (product (drop (suc i) sizes)))) ∙ sym (product_stops (count * get_or sizes i 0) (product (drop (suc i) sizes)) limit))

-- ---- one statement

pub first_peak : (n : Nest) (l : ℕ) → l ≤ peak_of n l
first_peak Nothing l = omega arith
first_peak (Loop line v l u s body rest) k = let f = first_peak rest k in omega (arith, f)
first_peak (Branch line set names first has other rest) k = let f = first_peak rest k in omega (arith, f)
first_peak (Does line p rest) k = omega arith

-- the greatest sum and the bytes, by what the statement is before others
by_parts : (s : Stmt) (before after : Live) → ((rest : Nest) → max before.most (peak_of (put_what s.what s.line rest) before.now) ≡ max after.most (peak_of rest after.now))
    → after.now ≤ before.now + bytes_in (put_what s.what s.line Nothing) → after.now ≤ after.most → Moves s before after
by_parts s before after h t k = record { greatest = h; taken = t; most = k }

module _ (s : Stmt) (before after : Live) (at_most : before.now ≤ before.most) where
  pub for_moves : (v : Name) (l u : Bound) (step : ℤ) (body ss : List Stmt) → s.what ≡ what.For v l u step body → ss ≡ body
      → after.now ≡ before.now → after.most ≡ max before.most (peak_of (nest ss) before.now) → Moves s before after
  for_moves v l u step body ss is same now most =
      by_parts s before after
      (λ rest.
      let e = ap (λ w. peak_of (put_what w s.line rest) before.now) is ∙ ap (λ n. peak_of n before.now) (put-For s.line rest v l u step body) in
      let f = ap (λ ss. peak_of (nest ss) before.now) same in
      let g = ap (peak_of rest) now in
      omega (arith, e, f, g, most))
      (omega (arith, now)) (omega (arith, now, most, at_most))

  pub if_moves : (set : Set) (names : List Name) (first ss : List Stmt) → s.what ≡ what.If set names first None → ss ≡ first
      → after.now ≡ before.now → after.most ≡ max before.most (peak_of (nest ss) before.now) → Moves s before after
  if_moves set names first ss is same now most =
      by_parts s before after
      (λ rest.
      let e = ap (λ w. peak_of (put_what w s.line rest) before.now) is ∙ ap (λ n. peak_of n before.now) (put-If s.line rest set names first) in
      let f = ap (λ ss. peak_of (nest ss) before.now) same in
      let g = ap (peak_of rest) now in
      let k = first_peak rest before.now in
      omega (arith, e, f, g, most, k))
      (omega (arith, now)) (omega (arith, now, most, at_most))

  pub if_else_moves : (set : Set) (names : List Name) (first other ss ts : List Stmt) (middle : Live) → s.what ≡ what.If set names first (Some other) → ss ≡ first → ts ≡ other
      → middle.now ≡ before.now → middle.most ≡ max before.most (peak_of (nest ss) before.now)
      → after.now ≡ middle.now → after.most ≡ max middle.most (peak_of (nest ts) middle.now) → Moves s before after
  if_else_moves set names first other ss ts middle is same alike now most now' most' =
      by_parts s before after
      (λ rest.
      let e = ap (λ w. peak_of (put_what w s.line rest) before.now) is ∙ ap (λ n. peak_of n before.now) (put-If-else s.line rest set names first other) in
      let f = ap (λ ss. peak_of (nest ss) before.now) same in
      let f' = ap (λ ss. peak_of (nest ss) middle.now) alike ∙ ap (peak_of (nest other)) now in
      let g = ap (peak_of rest) (now' ∙ now) in
      omega (arith, e, f, f', g, most, most'))
      (omega (arith, now, now')) (omega (arith, now, most, now', most', at_most))

  pub alloc_moves : (r : Name) (ty : MemrefType) → s.what ≡ what.Alloc r ty → after.now ≡ before.now + fast_bytes ty → after.most ≡ max before.most (before.now + fast_bytes ty) → Moves s before after
  alloc_moves r ty is now most =
      by_parts s before after
      (λ rest.
      let e = ap (λ w. peak_of (put_what w s.line rest) before.now) is ∙ ap (λ n. peak_of n before.now) (put-Alloc s.line rest r ty) in
      let g = ap (peak_of rest) now in
      let k = first_peak rest (before.now + fast_bytes ty) in
      omega (arith, e, g, most, k, at_most))
      (let b = ap (λ w. bytes_in (put_what w s.line Nothing)) is ∙ ap bytes_in (put-Alloc s.line Nothing r ty) in omega (arith, now, b))
      (omega (arith, now, most))

  pub dealloc_moves : (m : Name) (ty : MemrefType) → s.what ≡ what.Dealloc m ty → after.now ≡ before.now - fast_bytes ty → after.most ≡ before.most → Moves s before after
  dealloc_moves m ty is now most =
      by_parts s before after
      (λ rest.
      let e = ap (λ w. peak_of (put_what w s.line rest) before.now) is ∙ ap (λ n. peak_of n before.now) (put-Dealloc s.line rest m ty) in
      let g = ap (peak_of rest) now in
      omega (arith, e, g, most, at_most))
      (omega (arith, now)) (omega (arith, now, most, at_most))

-- what is no allocation and no dealloc
record IsQuiet (p : Plain) : Type 0 where
  live : (l : ℕ) → plain_live p l ≡ l

quiet : (w : What) → ((r : Name) (ty : MemrefType) → w ≡ what.Alloc r ty → ⊥) → ((m : Name) (ty : MemrefType) → w ≡ what.Dealloc m ty → ⊥) → IsQuiet (plain_of w)
unfolding plain_of
quiet w alloc dealloc = by (what.out-What w) (what.roll-out-What w)
  where
    by : (x : What-F What Stmt) → what.roll-What x ≡ w → IsQuiet (head_plain (put_what w 0 Nothing))
    by (What-F.Alloc r ty) e = absurd (alloc r ty (sym e ∙ rolls-Alloc r ty))
    by (What-F.Dealloc m ty) e = absurd (dealloc m ty (sym e ∙ rolls-Dealloc m ty))
    by x e = subst (λ n. IsQuiet (head_plain n)) (sym (put_what_is 0 Nothing x w e)) (record { live = λ l. refl })

pub other_moves : (s : Stmt) (live : Live) → live.now ≤ live.most
    → ((v : Name) (l u : Bound) (step : ℤ) (body : List Stmt) → s.what ≡ what.For v l u step body → ⊥)
    → ((set : Set) (names : List Name) (first : List Stmt) (other : Option (List Stmt)) → s.what ≡ what.If set names first other → ⊥)
    → ((r : Name) (ty : MemrefType) → s.what ≡ what.Alloc r ty → ⊥) → ((m : Name) (ty : MemrefType) → s.what ≡ what.Dealloc m ty → ⊥) → Moves s live live
other_moves s live at_most loop condition alloc dealloc =
    let q = quiet s.what alloc dealloc in
    by_parts s live live
    (λ rest.
    let e = ap (λ n. peak_of n live.now) (put_plain s.what s.line rest (plain_unless s.what loop condition)) in
    let f = ap (peak_of rest) (q.live live.now) in
    let k = first_peak rest live.now in
    omega (arith, e, f, k, at_most))
    (omega arith) at_most

-- ---- a list

pub nest_step : (ss : List Stmt) (i : ℕ) (s : Stmt) → i < length ss → s ≡ get_or ss i s → nest (drop i ss) ≡ put_what s.what s.line (nest (drop (i + 1) ss))
nest_step ss i s h e = ap nest (drop_more ss i s h ∙ ap (λ x. x ∷ drop (i + 1) ss) (sym e)) ∙ nest-cons s (drop (i + 1) ss)

bytes_followed : (a b : Nest) → bytes_in (followed_by a b) ≡ bytes_in a + bytes_in b
bytes_followed Nothing b = omega arith
bytes_followed (Loop line v l u s body rest) b = let h = bytes_followed rest b in omega (arith, h)
bytes_followed (Branch line set names first has other rest) b = let h = bytes_followed rest b in omega (arith, h)
bytes_followed (Does line p rest) b = let h = bytes_followed rest b in omega (arith, h)

pub bytes_first : (s : Stmt) (rest : Nest) → bytes_in (put_what s.what s.line rest) ≡ bytes_in (put_what s.what s.line Nothing) + bytes_in rest
bytes_first s rest = ap bytes_in (sym (put-followed s.what s.line Nothing rest)) ∙ bytes_followed (put_what s.what s.line Nothing) rest

-- the bytes of what is left, before a statement
pub bytes_step : (ss : List Stmt) (i : ℕ) (s : Stmt) → i < length ss → s ≡ get_or ss i s → bytes_in (nest (drop i ss)) ≡ bytes_in (put_what s.what s.line Nothing) + bytes_in (nest (drop (i + 1) ss))
bytes_step ss i s h e = ap bytes_in (nest_step ss i s h e) ∙ bytes_first s (nest (drop (i + 1) ss))

pub peak_step : (ss : List Stmt) (i : ℕ) (s : Stmt) (total : ℕ) (before after : Live) → i < length ss → s ≡ get_or ss i s → Moves s before after
    → total ≡ max before.most (peak_of (nest (drop i ss)) before.now) → total ≡ max after.most (peak_of (nest (drop (i + 1) ss)) after.now)
peak_step ss i s total before after h e moves so = so ∙ ap (λ n. max before.most (peak_of n before.now)) (nest_step ss i s h e) ∙ moves.greatest (nest (drop (i + 1) ss))

pub peak_end : (ss : List Stmt) (i now : ℕ) → length ss ≤ i → peak_of (nest (drop i ss)) now ≡ now
peak_end ss i now h = ap (λ ys. peak_of (nest ys) now) (drop_all i ss h) ∙ ap (λ n. peak_of n now) nest-nil

-- the bytes of the regions of a statement
module _ (line : ℕ) (w : What) where
  abbrev pub bytes_of : What → ℕ
  bytes_of w = bytes_in (put_what w line Nothing)

  pub body_bytes : (v : Name) (l u : Bound) (step : ℤ) (body ss : List Stmt) → w ≡ what.For v l u step body → ss ≡ body → bytes_in (nest ss) ≤ bytes_of w
  body_bytes v l u step body ss is same =
      let e = ap bytes_of is ∙ ap bytes_in (put-For line Nothing v l u step body) in
      let f = ap (λ ss. bytes_in (nest ss)) same in
      omega (arith, e, f)

  pub first_bytes : (set : Set) (names : List Name) (first : List Stmt) (o : Option (List Stmt)) (ss : List Stmt) → w ≡ what.If set names first o → ss ≡ first → bytes_in (nest ss) ≤ bytes_of w
  first_bytes set names first None ss is same =
      let e = ap bytes_of is ∙ ap bytes_in (put-If line Nothing set names first) in
      let f = ap (λ ss. bytes_in (nest ss)) same in
      omega (arith, e, f)
  first_bytes set names first (Some other) ss is same =
      let e = ap bytes_of is ∙ ap bytes_in (put-If-else line Nothing set names first other) in
      let f = ap (λ ss. bytes_in (nest ss)) same in
      omega (arith, e, f)

  pub other_bytes : (set : Set) (names : List Name) (first other : List Stmt) (ss : List Stmt) → w ≡ what.If set names first (Some other) → ss ≡ other → bytes_in (nest ss) ≤ bytes_of w
  other_bytes set names first other ss is same =
      let e = ap bytes_of is ∙ ap bytes_in (put-If-else line Nothing set names first other) in
      let f = ap (λ ss. bytes_in (nest ss)) same in
      omega (arith, e, f)

  pub alloc_bytes : (r : Name) (ty : MemrefType) → w ≡ what.Alloc r ty → fast_bytes ty ≤ bytes_of w
  alloc_bytes r ty is =
      let e = ap bytes_of is ∙ ap bytes_in (put-Alloc line Nothing r ty) in
      omega (arith, e)
