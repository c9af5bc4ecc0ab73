-- The peak of a text, of whose loops with a line each has so many bytes more.
use Rattle.std.proofs.Common.{◌≡◌, ℕ, ℤ, pos, zero, suc, ◌+◌, ◌-◌, ◌≤◌, List, [], ◌∷◌, refl, ap, ◌∙◌, arith, Bool, true, false}
use Rattle.std.specs.Prelude.{max, Option, Some, None, if◌then◌else◌}
use Rattle.affine_ast.specs.declared.name.Name.{Name}
use Rattle.affine_ast.specs.declared.types.Scalar.TheVariants.{Index}
use Rattle.affine_ast.specs.Names.{same_name}
use Rattle.affine_ast.specs.Nest.{Plain, Nest, Nothing, Loop, Branch, Does, Value, Load, Store, RawLoad, RawStore, Constant, Binary, Cast, Alloc, Dealloc, Start, Wait, Return, followed_by}
use Rattle.affine_ast.specs.Sizes.{product}
use Rattle.peak_laws.specs.Peak.{fast_bytes, plain_live, peak_of}
use Rattle.placement_texts.specs.Fold.{Step, staged_all}
use Rattle.placement_texts.specs.Mapped.{mapped}
use Rattle.placement_texts.specs.Spots.{Spot, Here, Behind, Inside, Other, found, staged_at}
use Rattle.placement_texts.specs.Template.{How, Copies, Transfers, Placement, Dimension, dim_extents, fast_name, count_name, stride_name, chunk_name, fast_type, in_fast, begins, place_statement, places_from, loops, chunk_constants, constants, allocs, deallocs, read_in, write_out, where_so, before, behind_loop, redirect}
use Rattle.staged_peaks.specs.Bytes.{more_at, step_bytes}

-- made statements, which have no line, aren't counted in a place
abbrev pub weighted : (Spot → ℕ) → Nest → ℕ → ℕ
weighted w Nothing l = l
weighted w (Loop zero v low high s body rest) l = max (peak_of body l) (weighted w rest l)
weighted w (Loop (suc line) v low high s body rest) l = max (weighted (λ t. w (Inside t)) body (l + w Here)) (weighted (λ t. w (Behind t)) rest l)
weighted w (Branch zero set names first has other rest) l = max (peak_of first l) (max (peak_of other l) (weighted w rest l))
weighted w (Branch (suc line) set names first has other rest) l =
    max (weighted (λ t. w (Inside t)) first l) (max (weighted (λ t. w (Other t)) other l) (weighted (λ t. w (Behind t)) rest l))
weighted w (Does zero q rest) l = max l (weighted w rest (plain_live q l))
weighted w (Does (suc line) q rest) l = max l (weighted (λ t. w (Behind t)) rest (plain_live q l))

base : (w : Spot → ℕ) (n : Nest) (l : ℕ) → l ≤ weighted w n l
base w Nothing l = omega arith
base w (Loop zero v low high s body rest) l = let e = base w rest l in omega (arith, e)
base w (Loop (suc line) v low high s body rest) l = let e = base (λ t. w (Behind t)) rest l in omega (arith, e)
base w (Branch zero set names first has other rest) l = let e = base w rest l in omega (arith, e)
base w (Branch (suc line) set names first has other rest) l = let e = base (λ t. w (Behind t)) rest l in omega (arith, e)
base w (Does zero q rest) l = omega arith
base w (Does (suc line) q rest) l = omega arith

-- no bytes more
pub none_more : (n : Nest) (l : ℕ) → weighted (λ s. 0) n l ≡ peak_of n l
none_more Nothing l = refl
none_more (Loop zero v low high s body rest) l = let e = none_more rest l in omega (arith, e)
none_more (Loop (suc line) v low high s body rest) l =
    let e = none_more rest l in let f = none_more body (l + 0) in let g : peak_of body (l + 0) ≡ peak_of body l = ap (peak_of body) (omega arith) in omega (arith, e, f, g)
none_more (Branch zero set names first has other rest) l = let e = none_more rest l in omega (arith, e)
none_more (Branch (suc line) set names first has other rest) l = let e = none_more rest l in let f = none_more first l in let g = none_more other l in omega (arith, e, f, g)
none_more (Does zero q rest) l = let e = none_more rest (plain_live q l) in omega (arith, e)
none_more (Does (suc line) q rest) l = let e = none_more rest (plain_live q l) in omega (arith, e)

-- ---- statements that leave the live bytes as they are
abbrev Idle : Nest → Type 0
Idle Nothing = Unit {0}
Idle (Loop zero v low high s body rest) = ((l : ℕ) → peak_of body l ≡ l) × Idle rest
Idle (Does zero q rest) = ((l : ℕ) → plain_live q l ≡ l) × Idle rest
Idle n = ⊥

idle_peak : (n : Nest) → Idle n → (l : ℕ) → peak_of n l ≡ l
idle_peak Nothing h l = refl
idle_peak (Loop zero v low high s body rest) h l = let e = h.0 l in let f = idle_peak rest h.1 l in omega (arith, e, f)
idle_peak (Loop (suc line) v low high s body rest) h l = absurd h
idle_peak (Branch line set names first has other rest) h l = absurd h
idle_peak (Does zero q rest) h l = let e : peak_of rest (plain_live q l) ≡ peak_of rest l = ap (peak_of rest) (h.0 l) in let f = idle_peak rest h.1 l in omega (arith, e, f)
idle_peak (Does (suc line) q rest) h l = absurd h

module _ (w : Spot → ℕ) where
  -- one plain statement without a line
  still : (q : Plain) (rest : Nest) (l : ℕ) → plain_live q l ≡ l → weighted w (Does 0 q rest) l ≡ weighted w rest l
  still q rest l h = let e : weighted w rest (plain_live q l) ≡ weighted w rest l = ap (weighted w rest) h in let f = base w rest l in omega (arith, e, f)

  followed : (part rest : Nest) (l : ℕ) → Idle part → weighted w (followed_by part rest) l ≡ weighted w rest l
  followed Nothing rest l h = refl
  followed (Loop zero v low high s body more) rest l h = let e = followed more rest l h.1 in let f = h.0 l in let g = base w rest l in omega (arith, e, f, g)
  followed (Loop (suc line) v low high s body more) rest l h = absurd h
  followed (Branch line set names first has other more) rest l h = absurd h
  followed (Does zero q more) rest l h = still q (followed_by more rest) l (h.0 l) ∙ followed more rest l h.1
  followed (Does (suc line) q more) rest l h = absurd h

  module _ (p : Placement) where
    abbrev bytes : ℕ
    bytes = fast_bytes (fast_type p)

    place_by : (b : Bool) (one two three : Plain) (rest : Nest) (l : ℕ) → plain_live one l ≡ l → plain_live two l ≡ l → plain_live three l ≡ l
        → weighted w (if b then Does 0 one (Does 0 two rest) else Does 0 three rest) l ≡ weighted w rest l
    place_by true one two three rest l e f g = still one (Does 0 two rest) l e ∙ still two rest l f
    place_by false one two three rest l e f g = still three rest l g

    place : (k : ℕ) (d : Dimension) (ts : List (Name × ℤ)) (rest : Nest) (l : ℕ) → weighted w (place_statement p.name k d ts rest) l ≡ weighted w rest l
    place k d [] rest l = refl
    place k d (t ∷ ts) rest l = place_by d.clamped _ _ _ rest l refl refl refl

    places : (k : ℕ) (ds : List Dimension) (rest : Nest) (l : ℕ) → weighted w (places_from p.name k ds rest) l ≡ weighted w rest l
    places k [] rest l = refl
    places k (d ∷ ds) rest l = place k d d.terms (places_from p.name (suc k) ds rest) l ∙ places (suc k) ds rest l

    chunks_still : (chunks : Option (ℕ × ℕ)) (rest : Nest) (l : ℕ) → weighted w (chunk_constants p chunks rest) l ≡ weighted w rest l
    chunks_still None rest l = refl
    chunks_still (Some two) rest l =
        let chunk = Constant (chunk_name p.name) (pos two.1) Index in
        still (Constant (stride_name p.name) (pos two.0) Index) (Does 0 chunk rest) l refl ∙ still chunk rest l refl

    constants_still : (how : How) (rest : Nest) (l : ℕ) → weighted w (constants p how rest) l ≡ weighted w rest l
    constants_still Copies rest l = refl
    constants_still (Transfers chunks) rest l =
        still (Constant (count_name p.name) (pos (product (dim_extents p.dims))) Index) (chunk_constants p chunks rest) l refl ∙ chunks_still chunks rest l

    -- the tags take no bytes
    taken : (how : How) (rest : Nest) (l : ℕ) → weighted w (allocs p how rest) l ≡ max l (weighted w rest (l + bytes))
    taken Copies rest l = refl
    taken (Transfers chunks) rest l =
        let e : weighted w rest (l + bytes + 0) ≡ weighted w rest (l + bytes) = ap (weighted w rest) (omega arith) in let f = base w rest (l + bytes) in omega (arith, e, f)

    given_back : (how : How) (rest : Nest) (l : ℕ) → weighted w (deallocs p how rest) (l + bytes) ≡ max (l + bytes) (weighted w rest l)
    given_back Copies rest l = let e : weighted w rest (l + bytes - bytes) ≡ weighted w rest l = ap (weighted w rest) (omega arith) in omega (arith, e)
    given_back (Transfers chunks) rest l =
        let e : weighted w rest (l + bytes - bytes - 0) ≡ weighted w rest l = ap (weighted w rest) (omega arith) in omega (arith, e)

    loops_idle : (turn : ℕ → Name) (d : ℕ) (ds : List Dimension) (inner : Nest) → Idle inner → Idle (loops turn d ds inner)
    loops_idle turn d [] inner h = h
    loops_idle turn d (dim ∷ ds) inner h = (idle_peak (loops turn (suc d) ds inner) (loops_idle turn (suc d) ds inner h), tt)

    read_idle : (how : How) → Idle (read_in p how)
    read_idle Copies = loops_idle _ 0 p.dims _ ((λ l. refl), ((λ l. refl), tt))
    read_idle (Transfers chunks) = ((λ l. refl), ((λ l. refl), tt))

    write_idle : (how : How) → Idle (write_out p how)
    write_idle Copies = loops_idle _ 0 p.dims _ ((λ l. refl), ((λ l. refl), tt))
    write_idle (Transfers chunks) = ((λ l. refl), ((λ l. refl), tt))

    so : (b : Bool) (part rest : Nest) (l : ℕ) → Idle part → weighted w (where_so p b part rest) l ≡ weighted w rest l
    so true part rest l h = followed part rest l h
    so false part rest l h = refl

    front : (rest : Nest) (l : ℕ) → weighted w (before p rest) l ≡ max l (weighted w rest (l + bytes))
    front rest l =
        let part = where_so p p.reads (read_in p p.how) rest in
        places 0 p.dims _ l ∙ (constants_still p.how (allocs p p.how part) l
        ∙ (taken p.how part l ∙ ap (λ k. max l k) (so p.reads (read_in p p.how) rest (l + bytes) (read_idle p.how))))

    back : (rest : Nest) (l : ℕ) → weighted w (behind_loop p rest) (l + bytes) ≡ max (l + bytes) (weighted w rest l)
    back rest l = so p.writes (write_out p p.how) (deallocs p p.how rest) (l + bytes) (write_idle p.how) ∙ given_back p.how rest l

-- ---- the accesses of the memref, redirected
module _ (p : Placement) where
  either_live : (b : Bool) (x y : Plain) (l : ℕ) → plain_live x l ≡ l → plain_live y l ≡ l → plain_live (if b then x else y) l ≡ l
  either_live true x y l h k = h
  either_live false x y l h k = k

  same_live : (q : Plain) (l : ℕ) → plain_live (redirect p q) l ≡ plain_live q l
  same_live (Load r m at ty) l = either_live (same_name p.memref m) (Load r (fast_name p.name) (in_fast (begins p) at) (fast_type p)) (Load r m at ty) l refl refl
  same_live (Store x m at ty) l = either_live (same_name p.memref m) (Store x (fast_name p.name) (in_fast (begins p) at) (fast_type p)) (Store x m at ty) l refl refl
  same_live (Value r pick at) l = refl
  same_live (RawLoad r m at ty) l = refl
  same_live (RawStore x m at ty) l = refl
  same_live (Constant r z ty) l = refl
  same_live (Binary r op a b ty) l = refl
  same_live (Cast r kind x from to) l = refl
  same_live (Alloc r ty) l = refl
  same_live (Dealloc m ty) l = refl
  same_live (Start a a_at b b_at t t_at n stride types) l = refl
  same_live (Wait t at n ty) l = refl
  same_live Return l = refl

  same_peak : (n : Nest) (l : ℕ) → peak_of (mapped (redirect p) n) l ≡ peak_of n l
  same_peak Nothing l = refl
  same_peak (Loop line v low high s body rest) l = let e = same_peak body l in let f = same_peak rest l in omega (arith, e, f)
  same_peak (Branch line set names first has other rest) l = let e = same_peak first l in let f = same_peak other l in let g = same_peak rest l in omega (arith, e, f, g)
  same_peak (Does line q rest) l =
      let e : peak_of (mapped (redirect p) rest) (plain_live (redirect p q) l) ≡ peak_of (mapped (redirect p) rest) (plain_live q l) = ap (peak_of (mapped (redirect p) rest)) (same_live q l) in
      let f = same_peak rest (plain_live q l) in omega (arith, e, f)

  same_weighted : (w : Spot → ℕ) (n : Nest) (l : ℕ) → weighted w (mapped (redirect p) n) l ≡ weighted w n l
  same_weighted w Nothing l = refl
  same_weighted w (Loop zero v low high s body rest) l = let e = same_peak body l in let f = same_weighted w rest l in omega (arith, e, f)
  same_weighted w (Loop (suc line) v low high s body rest) l =
      let e = same_weighted (λ t. w (Inside t)) body (l + w Here) in let f = same_weighted (λ t. w (Behind t)) rest l in omega (arith, e, f)
  same_weighted w (Branch zero set names first has other rest) l = let e = same_peak first l in let f = same_peak other l in let g = same_weighted w rest l in omega (arith, e, f, g)
  same_weighted w (Branch (suc line) set names first has other rest) l =
      let e = same_weighted (λ t. w (Inside t)) first l in let f = same_weighted (λ t. w (Other t)) other l in let g = same_weighted (λ t. w (Behind t)) rest l in omega (arith, e, f, g)
  same_weighted w (Does zero q rest) l =
      let e : weighted w (mapped (redirect p) rest) (plain_live (redirect p q) l) ≡ weighted w (mapped (redirect p) rest) (plain_live q l) = ap (weighted w (mapped (redirect p) rest)) (same_live q l) in
      let f = same_weighted w rest (plain_live q l) in omega (arith, e, f)
  same_weighted w (Does (suc line) q rest) l =
      let u : Spot → ℕ = λ t. w (Behind t) in
      let e : weighted u (mapped (redirect p) rest) (plain_live (redirect p q) l) ≡ weighted u (mapped (redirect p) rest) (plain_live q l) = ap (weighted u (mapped (redirect p) rest)) (same_live q l) in
      let f = same_weighted u rest (plain_live q l) in omega (arith, e, f)

  -- ---- the text with one placement more
  pub staged_weighted : (w : Spot → ℕ) (s : Spot) (n : Nest) (l : ℕ) → weighted w (staged_at p (found s n) n) l ≡ weighted (more_at s (fast_bytes (fast_type p)) w) n l
  staged_weighted w s Nothing l = refl
  staged_weighted w s (Loop zero v low high step body rest) l = let e = staged_weighted w s rest l in omega (arith, e)
  staged_weighted w s (Branch zero set names first has other rest) l = let e = staged_weighted w s rest l in omega (arith, e)
  staged_weighted w s (Does zero q rest) l = let e = staged_weighted w s rest (plain_live q l) in omega (arith, e)
  staged_weighted w Here (Loop (suc line) v low high step body rest) l =
      let b = fast_bytes (fast_type p) in
      let ins : Spot → ℕ = λ t. w (Inside t) in
      let behinds : Spot → ℕ = λ t. w (Behind t) in
      let e = front w p (Loop (suc line) v low high step (mapped (redirect p) body) (behind_loop p rest)) l in
      let f = same_weighted ins body (l + b + w Here) in
      let g = back behinds p rest l in
      let h : weighted ins body (l + b + w Here) ≡ weighted ins body (l + (w Here + b)) = ap (weighted ins body) (omega arith) in
      let k = base ins body (l + b + w Here) in
      let j = base behinds rest l in
      omega (arith, e, f, g, h, k, j)
  staged_weighted w (Behind s) (Loop (suc line) v low high step body rest) l = let e = staged_weighted (λ t. w (Behind t)) s rest l in omega (arith, e)
  staged_weighted w (Inside s) (Loop (suc line) v low high step body rest) l = let e = staged_weighted (λ t. w (Inside t)) s body (l + w Here) in omega (arith, e)
  staged_weighted w (Other s) (Loop (suc line) v low high step body rest) l = refl
  staged_weighted w Here (Branch (suc line) set names first has other rest) l = refl
  staged_weighted w (Behind s) (Branch (suc line) set names first has other rest) l = let e = staged_weighted (λ t. w (Behind t)) s rest l in omega (arith, e)
  staged_weighted w (Inside s) (Branch (suc line) set names first has other rest) l = let e = staged_weighted (λ t. w (Inside t)) s first l in omega (arith, e)
  staged_weighted w (Other s) (Branch (suc line) set names first has other rest) l = let e = staged_weighted (λ t. w (Other t)) s other l in omega (arith, e)
  staged_weighted w Here (Does (suc line) q rest) l = refl
  staged_weighted w (Behind s) (Does (suc line) q rest) l = let e = staged_weighted (λ t. w (Behind t)) s rest (plain_live q l) in omega (arith, e)
  staged_weighted w (Inside s) (Does (suc line) q rest) l = refl
  staged_weighted w (Other s) (Does (suc line) q rest) l = refl

-- ---- with all of a list
abbrev pub all_more : List Step → (Spot → ℕ) → Spot → ℕ
all_more [] w = w
all_more (x ∷ xs) w = more_at x.spot (step_bytes x) (all_more xs w)

pub all_weighted : (w : Spot → ℕ) (xs : List Step) (n : Nest) (l : ℕ) → weighted w (staged_all xs n) l ≡ weighted (all_more xs w) n l
all_weighted w [] n l = refl
all_weighted w (x ∷ xs) n l = all_weighted w xs (staged_at x.placement (found x.spot n) n) l ∙ staged_weighted x.placement (all_more xs w) x.spot n l
