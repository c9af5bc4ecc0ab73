-- What placements leave of another loop as it is.
use Rattle.std.proofs.Common.{◌≡◌, ◌⊎◌, inl, inr, ℕ, zero, suc, ℤ, List, [], ◌∷◌, ◌++◌, Bool, true, false, refl, sym, ap, ◌∙◌, subst}
use Rattle.std.specs.Prelude.{Some, None, if◌then◌else◌}
use Rattle.std.proofs.lemmas.List.{append-nil, append_assoc}
use Rattle.affine_ast.specs.declared.name.Name.{Name}
use Rattle.affine_ast.specs.declared.types.Access.{Access}
use Rattle.affine_ast.specs.declared.types.Bound.{Bound}
use Rattle.affine_ast.specs.Names.{same_name}
use Rattle.affine_ast.proofs.Names.{same_name-eq}
use Rattle.affine_ast.specs.Nest.{Plain, Nest, Nothing, Loop, Branch, Does, Value, Load, Store, RawLoad, RawStore, Constant, Binary, Cast, Alloc, Dealloc, Start, Wait, Return, followed_by}
use Rattle.boxes.specs.Every.{Every}
use Rattle.nest_domain.specs.Ways.{loop_count}
use Rattle.placement_texts.specs.Fold.{Step}
use Rattle.placement_texts.specs.Mapped.{mapped}
use Rattle.placement_texts.specs.Spots.{Spot, Here, Behind, Inside, Other, IsLoop, HasLine, Disjoint, found, staged_at, stage_one}
use Rattle.placement_texts.specs.Template.{Dimension, How, Copies, Transfers, Placement, fast_name, fast_type, begins, in_fast, in_turn, out_turn, slow_at_turns, fast_at_turns, place_statement, places_from, loops, read_in, write_out, constants, allocs, deallocs, where_so, before, behind_loop, redirect}
use Rattle.placement_texts.proofs.FoundSpots.{found_disjoint}
use Rattle.placement_regions.specs.Sites.{from_spot, way_to}
use Rattle.text_limits.specs.Adding.{accesses_of, accesses_in, accesses_in_loop, condition_count}
use Rattle.text_limits.specs.Leaving.{Stands, IsLeft, LeavesAlone, PlacementsLeave}
use Rattle.text_limits.proofs.Summed.{before_followed, behind_followed}

-- ---- the template has no line
abbrev IsMade : Nest → Type 0
IsMade Nothing = Unit {0}
IsMade (Loop zero v l u s body rest) = IsMade rest
IsMade (Does zero q rest) = IsMade rest
IsMade n = ⊥

made_followed : (a b : Nest) → IsMade a → IsMade b → IsMade (followed_by a b)
made_followed Nothing b h k = k
made_followed (Loop zero v l u s body rest) b h k = made_followed rest b h k
made_followed (Loop (suc line) v l u s body rest) b h k = absurd h
made_followed (Branch line set names first has other rest) b h k = absurd h
made_followed (Does zero q rest) b h k = made_followed rest b h k
made_followed (Does (suc line) q rest) b h k = absurd h

made_place : (name : ℕ → Name) (k : ℕ) (d : Dimension) (ts : List (Name × ℤ)) (rest : Nest) → IsMade rest → IsMade (place_statement name k d ts rest)
made_place name k d [] rest h = h
made_place name k d (t ∷ ts) rest h = by d.clamped
  where
    by : (x : Bool) → IsMade (place_statement name k (record d { clamped = x }) (t ∷ ts) rest)
    by true = h
    by false = h

made_places : (name : ℕ → Name) (k : ℕ) (ds : List Dimension) (rest : Nest) → IsMade rest → IsMade (places_from name k ds rest)
made_places name k [] rest h = h
made_places name k (d ∷ ds) rest h = made_place name k d d.terms (places_from name (suc k) ds rest) (made_places name (suc k) ds rest h)

made_loops : (turn : ℕ → Name) (d : ℕ) (ds : List Dimension) (inner : Nest) → IsMade inner → IsMade (loops turn d ds inner)
made_loops turn d [] inner h = h
made_loops turn d (dim ∷ ds) inner h = tt

module _ (p : Placement) where
  made_in : (how : How) → IsMade (read_in p how)
  made_in Copies = made_loops _ 0 p.dims _ tt
  made_in (Transfers chunks) = tt

  made_out : (how : How) → IsMade (write_out p how)
  made_out Copies = made_loops _ 0 p.dims _ tt
  made_out (Transfers chunks) = tt

  made_so : (b : Bool) (part rest : Nest) → IsMade part → IsMade rest → IsMade (where_so p b part rest)
  made_so true part rest h k = made_followed part rest h k
  made_so false part rest h k = k

  made_constants : (how : How) (rest : Nest) → IsMade rest → IsMade (constants p how rest)
  made_constants Copies rest h = h
  made_constants (Transfers None) rest h = h
  made_constants (Transfers (Some two)) rest h = h

  made_allocs : (how : How) (rest : Nest) → IsMade rest → IsMade (allocs p how rest)
  made_allocs Copies rest h = h
  made_allocs (Transfers chunks) rest h = h

  made_deallocs : (how : How) → IsMade (deallocs p how Nothing)
  made_deallocs Copies = tt
  made_deallocs (Transfers chunks) = tt

  made_before : IsMade (before p Nothing)
  made_before =
      let reads = where_so p p.reads (read_in p p.how) Nothing in
      made_places p.name 0 p.dims (constants p p.how (allocs p p.how reads))
      (made_constants p.how (allocs p p.how reads) (made_allocs p.how reads (made_so p.reads (read_in p p.how) Nothing (made_in p.how) tt)))

  made_behind : IsMade (behind_loop p Nothing)
  made_behind = made_so p.writes (write_out p p.how) (deallocs p p.how Nothing) (made_out p.how) (made_deallocs p.how)

-- ---- the accesses of a memref that the template doesn't take
module _ (m : Name) where
  abbrev At : Nest → List Access
  At n = accesses_in m n

  accesses_followed : (a b : Nest) → At (followed_by a b) ≡ At a ++ At b
  accesses_followed Nothing b = refl
  accesses_followed (Loop line v l u s body rest) b = ap (λ xs. At body ++ xs) (accesses_followed rest b) ∙ sym (append_assoc (At body) (At rest) (At b))
  accesses_followed (Branch line set names first has other rest) b =
      ap (λ xs. At first ++ (At other ++ xs)) (accesses_followed rest b)
      ∙ ap (λ xs. At first ++ xs) (sym (append_assoc (At other) (At rest) (At b)))
      ∙ sym (append_assoc (At first) (At other ++ At rest) (At b))
  accesses_followed (Does line q rest) b = ap (λ xs. accesses_of m q ++ xs) (accesses_followed rest b) ∙ sym (append_assoc (accesses_of m q) (At rest) (At b))

  none_followed : (a b : Nest) → At a ≡ [] → At b ≡ [] → At (followed_by a b) ≡ []
  none_followed a b e f = accesses_followed a b ∙ (λ i. e i ++ f i)

  none_place : (name : ℕ → Name) (k : ℕ) (d : Dimension) (ts : List (Name × ℤ)) (rest : Nest) → At rest ≡ [] → At (place_statement name k d ts rest) ≡ []
  none_place name k d [] rest h = h
  none_place name k d (t ∷ ts) rest h = by d.clamped
    where
      by : (x : Bool) → At (place_statement name k (record d { clamped = x }) (t ∷ ts) rest) ≡ []
      by true = h
      by false = h

  none_places : (name : ℕ → Name) (k : ℕ) (ds : List Dimension) (rest : Nest) → At rest ≡ [] → At (places_from name k ds rest) ≡ []
  none_places name k [] rest h = h
  none_places name k (d ∷ ds) rest h = none_place name k d d.terms (places_from name (suc k) ds rest) (none_places name (suc k) ds rest h)

  none_loops : (turn : ℕ → Name) (d : ℕ) (ds : List Dimension) (inner : Nest) → At inner ≡ [] → At (loops turn d ds inner) ≡ []
  none_loops turn d [] inner h = h
  none_loops turn d (dim ∷ ds) inner h = append-nil (At (loops turn (suc d) ds inner)) ∙ none_loops turn (suc d) ds inner h

  module _ (p : Placement) (fast : same_name m (fast_name p.name) ≡ false) (other : same_name m p.memref ≡ false) where
    not_there : (at : Access) (n : Name) → same_name m n ≡ false → (if same_name m n then at ∷ [] else []) ≡ []
    not_there at n e = ap (λ b. if b then at ∷ [] else []) e

    none_in : (how : How) → At (read_in p how) ≡ []
    none_in Copies = none_loops _ 0 p.dims _ (λ i. not_there (slow_at_turns (in_turn p.name) (begins p)) p.memref other i ++ (not_there (fast_at_turns (in_turn p.name) (begins p)) (fast_name p.name) fast i ++ []))
    none_in (Transfers chunks) = refl

    none_out : (how : How) → At (write_out p how) ≡ []
    none_out Copies = none_loops _ 0 p.dims _ (λ i. not_there (fast_at_turns (out_turn p.name) (begins p)) (fast_name p.name) fast i ++ (not_there (slow_at_turns (out_turn p.name) (begins p)) p.memref other i ++ []))
    none_out (Transfers chunks) = refl

    none_so : (b : Bool) (part rest : Nest) → At part ≡ [] → At rest ≡ [] → At (where_so p b part rest) ≡ []
    none_so true part rest h k = none_followed part rest h k
    none_so false part rest h k = k

    none_constants : (how : How) (rest : Nest) → At rest ≡ [] → At (constants p how rest) ≡ []
    none_constants Copies rest h = h
    none_constants (Transfers None) rest h = h
    none_constants (Transfers (Some two)) rest h = h

    none_allocs : (how : How) (rest : Nest) → At rest ≡ [] → At (allocs p how rest) ≡ []
    none_allocs Copies rest h = h
    none_allocs (Transfers chunks) rest h = h

    none_deallocs : (how : How) → At (deallocs p how Nothing) ≡ []
    none_deallocs Copies = refl
    none_deallocs (Transfers chunks) = refl

    before_accesses : (n : Nest) → At (before p n) ≡ At n
    before_accesses n =
        let reads = where_so p p.reads (read_in p p.how) Nothing in
        let none = none_places p.name 0 p.dims (constants p p.how (allocs p p.how reads))
        (none_constants p.how (allocs p p.how reads) (none_allocs p.how reads (none_so p.reads (read_in p p.how) Nothing (none_in p.how) refl))) in
        ap At (sym (before_followed p Nothing n)) ∙ accesses_followed (before p Nothing) n ∙ ap (λ xs. xs ++ At n) none

    behind_accesses : (n : Nest) → At (behind_loop p n) ≡ At n
    behind_accesses n =
        let none = none_so p.writes (write_out p p.how) (deallocs p p.how Nothing) (none_out p.how) (none_deallocs p.how) in
        ap At (sym (behind_followed p Nothing n)) ∙ accesses_followed (behind_loop p Nothing) n ∙ ap (λ xs. xs ++ At n) none

    redirected_access : (n : Name) (at : Access) (b : Bool) (made q : Plain) → same_name p.memref n ≡ b → accesses_of m made ≡ [] → accesses_of m q ≡ (if same_name m n then at ∷ [] else [])
        → accesses_of m (if b then made else q) ≡ accesses_of m q
    redirected_access n at true made q e f g =
        let same = same_name-eq p.memref n e in
        f ∙ sym (g ∙ not_there at n (subst (λ n. same_name m n ≡ false) same other))
    redirected_access n at false made q e f g = refl

    redirect_accesses : (q : Plain) → accesses_of m (redirect p q) ≡ accesses_of m q
    redirect_accesses (Load r n at ty) =
        redirected_access n at (same_name p.memref n) (Load r (fast_name p.name) (in_fast (begins p) at) (fast_type p)) (Load r n at ty) refl (not_there (in_fast (begins p) at) (fast_name p.name) fast) refl
    redirect_accesses (Store x n at ty) =
        redirected_access n at (same_name p.memref n) (Store x (fast_name p.name) (in_fast (begins p) at) (fast_type p)) (Store x n at ty) refl (not_there (in_fast (begins p) at) (fast_name p.name) fast) refl
    redirect_accesses (Value r pick at) = refl
    redirect_accesses (RawLoad r n at ty) = refl
    redirect_accesses (RawStore x n at ty) = refl
    redirect_accesses (Constant r z ty) = refl
    redirect_accesses (Binary r op x y ty) = refl
    redirect_accesses (Cast r kind x from to) = refl
    redirect_accesses (Alloc r ty) = refl
    redirect_accesses (Dealloc n ty) = refl
    redirect_accesses (Start x x_at y y_at t t_at n stride types) = refl
    redirect_accesses (Wait t at n ty) = refl
    redirect_accesses Return = refl

    mapped_accesses : (n : Nest) → At (mapped (redirect p) n) ≡ At n
    mapped_accesses Nothing = refl
    mapped_accesses (Loop line v l u s body rest) = λ i. mapped_accesses body i ++ mapped_accesses rest i
    mapped_accesses (Branch line set names first has other rest) = λ i. mapped_accesses first i ++ (mapped_accesses other i ++ mapped_accesses rest i)
    mapped_accesses (Does line q rest) = λ i. redirect_accesses q i ++ mapped_accesses rest i

    staged_accesses : (s : Spot) (n : Nest) → IsLoop s n → At (staged_at p s n) ≡ At n
    staged_accesses s Nothing is = absurd is
    staged_accesses Here (Loop line v l u step body rest) is =
        before_accesses (Loop line v l u step (mapped (redirect p) body) (behind_loop p rest)) ∙ (λ i. mapped_accesses body i ++ behind_accesses rest i)
    staged_accesses (Behind s) (Loop line v l u step body rest) is = ap (λ xs. At body ++ xs) (staged_accesses s rest is)
    staged_accesses (Inside s) (Loop line v l u step body rest) is = ap (λ xs. xs ++ At rest) (staged_accesses s body is)
    staged_accesses (Other s) (Loop line v l u step body rest) is = absurd is
    staged_accesses Here (Branch line set names first has more rest) is = absurd is
    staged_accesses (Behind s) (Branch line set names first has more rest) is = ap (λ xs. At first ++ (At more ++ xs)) (staged_accesses s rest is)
    staged_accesses (Inside s) (Branch line set names first has more rest) is = ap (λ xs. xs ++ (At more ++ At rest)) (staged_accesses s first is)
    staged_accesses (Other s) (Branch line set names first has more rest) is = ap (λ xs. At first ++ (xs ++ At rest)) (staged_accesses s more is)
    staged_accesses Here (Does line q rest) is = absurd is
    staged_accesses (Behind s) (Does line q rest) is = ap (λ xs. accesses_of m q ++ xs) (staged_accesses s rest is)
    staged_accesses (Inside s) (Does line q rest) is = absurd is
    staged_accesses (Other s) (Does line q rest) is = absurd is

-- ---- a loop's place, with its accesses where they are asked for
module _ (asked : Type 0) (m : Name) where
  abbrev Loops : Spot → Nest → ℕ
  Loops t n = loop_count (way_to (found t n) n)

  abbrev Ifs : Spot → Nest → ℕ
  Ifs t n = condition_count (way_to (found t n) n)

  abbrev There : Spot → Nest → List Access
  There t n = accesses_in_loop m (from_spot (found t n) n)

  abbrev Place : ℕ → ℕ → List Access → Spot → Nest → Type 0
  Place l i ats t n = IsLoop (found t n) n × HasLine (found t n) n × (Loops t n ≡ l) × (Ifs t n ≡ i) × (asked → There t n ≡ ats)

  abbrev Same : Spot → Nest → Nest → Type 0
  Same t n n' = Place (Loops t n) (Ifs t n) (There t n) t n'

  behind_made : (l i : ℕ) (ats : List Access) (t : Spot) (a n : Nest) → IsMade a → Place l i ats t n → Place l i ats t (followed_by a n)
  behind_made l i ats t Nothing n made h = h
  behind_made l i ats t (Loop zero v lo hi s body rest) n made h = behind_made l i ats t rest n made h
  behind_made l i ats t (Loop (suc line) v lo hi s body rest) n made h = absurd made
  behind_made l i ats t (Branch line set names first has other rest) n made h = absurd made
  behind_made l i ats t (Does zero q rest) n made h = behind_made l i ats t rest n made h
  behind_made l i ats t (Does (suc line) q rest) n made h = absurd made

  module _ (p : Placement) where
    abbrev Apart : Spot → Spot → Type 0
    Apart t s = asked → (same_name m (fast_name p.name) ≡ false) × ((same_name m p.memref ≡ false) ⊎ Disjoint t s)

    other_of : (same_name m p.memref ≡ false) ⊎ ⊥ → same_name m p.memref ≡ false
    other_of (inl e) = e
    other_of (inr x) = absurd x

    mapped_place : (t : Spot) (n : Nest) → IsLoop (found t n) n → HasLine (found t n) n → (asked → (same_name m (fast_name p.name) ≡ false) × (same_name m p.memref ≡ false)) → Same t n (mapped (redirect p) n)
    mapped_place t Nothing h k d = absurd h
    mapped_place t (Loop zero v l u step body rest) h k d = mapped_place t rest h k d
    mapped_place Here (Loop (suc line) v l u step body rest) h k d = (tt, tt, refl, refl, λ x. mapped_accesses m p (d x).0 (d x).1 body)
    mapped_place (Behind t) (Loop (suc line) v l u step body rest) h k d = mapped_place t rest h k d
    mapped_place (Inside t) (Loop (suc line) v l u step body rest) h k d = let r = mapped_place t body h k d in (r.0, r.1, ap suc r.2, r.3, r.4)
    mapped_place (Other t) (Loop (suc line) v l u step body rest) h k d = absurd h
    mapped_place t (Branch zero set names first has other rest) h k d = mapped_place t rest h k d
    mapped_place Here (Branch (suc line) set names first has other rest) h k d = absurd h
    mapped_place (Behind t) (Branch (suc line) set names first has other rest) h k d = mapped_place t rest h k d
    mapped_place (Inside t) (Branch (suc line) set names first has other rest) h k d = let r = mapped_place t first h k d in (r.0, r.1, r.2, ap suc r.3, r.4)
    mapped_place (Other t) (Branch (suc line) set names first has other rest) h k d = let r = mapped_place t other h k d in (r.0, r.1, r.2, ap suc r.3, r.4)
    mapped_place t (Does zero q rest) h k d = mapped_place t rest h k d
    mapped_place Here (Does (suc line) q rest) h k d = absurd h
    mapped_place (Behind t) (Does (suc line) q rest) h k d = mapped_place t rest h k d
    mapped_place (Inside t) (Does (suc line) q rest) h k d = absurd h
    mapped_place (Other t) (Does (suc line) q rest) h k d = absurd h

    at_loop : (line : ℕ) (v : Name) (l u : Bound) (step : ℤ) (body rest : Nest) (t : Spot) → IsLoop (found t (Loop (suc line) v l u step body rest)) (Loop (suc line) v l u step body rest)
        → HasLine (found t (Loop (suc line) v l u step body rest)) (Loop (suc line) v l u step body rest) → Apart (found t (Loop (suc line) v l u step body rest)) Here
        → Same t (Loop (suc line) v l u step body rest) (Loop (suc line) v l u step (mapped (redirect p) body) (behind_loop p rest))
    at_loop line v l u step body rest Here h k d = (tt, tt, refl, refl, λ x. mapped_accesses m p (d x).0 (other_of (d x).1) body)
    at_loop line v l u step body rest (Behind t) h k d =
        subst (λ n. Place (Loops t rest) (Ifs t rest) (There t rest) t n) (behind_followed p Nothing rest)
        (behind_made (Loops t rest) (Ifs t rest) (There t rest) t (behind_loop p Nothing) rest (made_behind p) (h, k, refl, refl, λ x. refl))
    at_loop line v l u step body rest (Inside t) h k d = let r = mapped_place t body h k (λ x. ((d x).0, other_of (d x).1)) in (r.0, r.1, ap suc r.2, r.3, r.4)
    at_loop line v l u step body rest (Other t) h k d = absurd h

    staged_place : (t s : Spot) (n : Nest) → IsLoop s n → HasLine s n → IsLoop (found t n) n → HasLine (found t n) n → Apart (found t n) s → Same t n (staged_at p s n)
    staged_place t s Nothing is on h k d = absurd is
    staged_place t Here (Loop zero v l u step body rest) is on h k d = absurd on
    staged_place t Here (Loop (suc line) v l u step body rest) is on h k d =
        let n = Loop (suc line) v l u step body rest in
        let n' = Loop (suc line) v l u step (mapped (redirect p) body) (behind_loop p rest) in
        subst (λ x. Same t n x) (before_followed p Nothing n') (behind_made (Loops t n) (Ifs t n) (There t n) t (before p Nothing) n' (made_before p) (at_loop line v l u step body rest t h k d))
    staged_place t (Behind s) (Loop zero v l u step body rest) is on h k d = staged_place t s rest is on h k d
    staged_place Here (Behind s) (Loop (suc line) v l u step body rest) is on h k d = (tt, tt, refl, refl, λ x. refl)
    staged_place (Behind t) (Behind s) (Loop (suc line) v l u step body rest) is on h k d = staged_place t s rest is on h k d
    staged_place (Inside t) (Behind s) (Loop (suc line) v l u step body rest) is on h k d = (h, k, refl, refl, λ x. refl)
    staged_place (Other t) (Behind s) (Loop (suc line) v l u step body rest) is on h k d = absurd h
    staged_place t (Inside s) (Loop zero v l u step body rest) is on h k d = (h, k, refl, refl, λ x. refl)
    staged_place Here (Inside s) (Loop (suc line) v l u step body rest) is on h k d = (tt, tt, refl, refl, λ x. staged_accesses m p (d x).0 (other_of (d x).1) s body is)
    staged_place (Behind t) (Inside s) (Loop (suc line) v l u step body rest) is on h k d = (h, k, refl, refl, λ x. refl)
    staged_place (Inside t) (Inside s) (Loop (suc line) v l u step body rest) is on h k d = let r = staged_place t s body is on h k d in (r.0, r.1, ap suc r.2, r.3, r.4)
    staged_place (Other t) (Inside s) (Loop (suc line) v l u step body rest) is on h k d = absurd h
    staged_place t (Other s) (Loop line v l u step body rest) is on h k d = absurd is
    staged_place t Here (Branch line set names first has other rest) is on h k d = absurd is
    staged_place t (Behind s) (Branch zero set names first has other rest) is on h k d = staged_place t s rest is on h k d
    staged_place Here (Behind s) (Branch (suc line) set names first has other rest) is on h k d = absurd h
    staged_place (Behind t) (Behind s) (Branch (suc line) set names first has other rest) is on h k d = staged_place t s rest is on h k d
    staged_place (Inside t) (Behind s) (Branch (suc line) set names first has other rest) is on h k d = (h, k, refl, refl, λ x. refl)
    staged_place (Other t) (Behind s) (Branch (suc line) set names first has other rest) is on h k d = (h, k, refl, refl, λ x. refl)
    staged_place t (Inside s) (Branch zero set names first has other rest) is on h k d = (h, k, refl, refl, λ x. refl)
    staged_place Here (Inside s) (Branch (suc line) set names first has other rest) is on h k d = absurd h
    staged_place (Behind t) (Inside s) (Branch (suc line) set names first has other rest) is on h k d = (h, k, refl, refl, λ x. refl)
    staged_place (Inside t) (Inside s) (Branch (suc line) set names first has other rest) is on h k d = let r = staged_place t s first is on h k d in (r.0, r.1, r.2, ap suc r.3, r.4)
    staged_place (Other t) (Inside s) (Branch (suc line) set names first has other rest) is on h k d = (h, k, refl, refl, λ x. refl)
    staged_place t (Other s) (Branch zero set names first has other rest) is on h k d = (h, k, refl, refl, λ x. refl)
    staged_place Here (Other s) (Branch (suc line) set names first has other rest) is on h k d = absurd h
    staged_place (Behind t) (Other s) (Branch (suc line) set names first has other rest) is on h k d = (h, k, refl, refl, λ x. refl)
    staged_place (Inside t) (Other s) (Branch (suc line) set names first has other rest) is on h k d = (h, k, refl, refl, λ x. refl)
    staged_place (Other t) (Other s) (Branch (suc line) set names first has other rest) is on h k d = let r = staged_place t s other is on h k d in (r.0, r.1, r.2, ap suc r.3, r.4)
    staged_place t Here (Does line q rest) is on h k d = absurd is
    staged_place t (Behind s) (Does zero q rest) is on h k d = staged_place t s rest is on h k d
    staged_place Here (Behind s) (Does (suc line) q rest) is on h k d = absurd h
    staged_place (Behind t) (Behind s) (Does (suc line) q rest) is on h k d = staged_place t s rest is on h k d
    staged_place (Inside t) (Behind s) (Does (suc line) q rest) is on h k d = absurd h
    staged_place (Other t) (Behind s) (Does (suc line) q rest) is on h k d = absurd h
    staged_place t (Inside s) (Does line q rest) is on h k d = absurd is
    staged_place t (Other s) (Does line q rest) is on h k d = absurd is

-- ---- one placement, and then all of them
pub one_leaves : (m : Name) (t : Spot) (p : Placement) (s : Spot) (n : Nest) → Stands t n → Stands s n → LeavesAlone m t p s → IsLeft m t n (stage_one p s n)
one_leaves m t p s n h k d =
    let r = staged_place (Unit {0}) m p t (found s n) n k.loop k.line h.loop h.line (λ x. (d.fast, by d.apart)) in
    record { stands = record { loop = r.0; line = r.1 }; loops = r.2; ifs = r.3; accesses = r.4 tt }
  where
    by : (same_name m p.memref ≡ false) ⊎ Disjoint t s → (same_name m p.memref ≡ false) ⊎ Disjoint (found t n) (found s n)
    by (inl e) = inl e
    by (inr d) = inr (found_disjoint t s n d)

pub one_stands : (t : Spot) (p : Placement) (s : Spot) (n : Nest) → Stands t n → Stands s n → Stands t (stage_one p s n)
one_stands t p s n h k = let r = staged_place ⊥ p.memref p t (found s n) n k.loop k.line h.loop h.line (λ x. absurd x) in record { loop = r.0; line = r.1 }

all_stand : (p : Placement) (s : Spot) (n : Nest) (ss : List Step) → Stands s n → Every (λ x. Stands x.spot n) ss → Every (λ x. Stands x.spot (stage_one p s n)) ss
all_stand p s n [] k h = tt
all_stand p s n (x ∷ xs) k h = (one_stands x.spot p s n h.0 k, all_stand p s n xs k h.1)

pub placements_leave : PlacementsLeave
placements_leave m t [] n h ss d = record { stands = h; loops = refl; ifs = refl; accesses = refl }
placements_leave m t (x ∷ xs) n h ss d =
    let a = one_leaves m t x.placement x.spot n h ss.0 d.0 in
    let b = placements_leave m t xs (stage_one x.placement x.spot n) a.stands (all_stand x.placement x.spot n xs ss.0 ss.1) d.1 in
    record { stands = b.stands; loops = b.loops ∙ a.loops; ifs = b.ifs ∙ a.ifs; accesses = b.accesses ∙ a.accesses }
