-- The rewriting for rings takes a body piece by piece.
use Rattle.std.proofs.Common.{◌≡◌, inl, inr, ℕ, suc, ℤ, pos, List, [], ◌∷◌, refl, sym, ap, ◌∙◌, subst, Bool, true, false}
use Rattle.std.specs.Prelude.{◌||◌, Option, Some, None, if◌then◌else◌}
use Rattle.affine_ast.specs.declared.name.Name.{Name}
use Rattle.affine_ast.specs.declared.types.Bound.{Bound}
use Rattle.affine_ast.specs.Names.{same_name}
use Rattle.affine_ast.proofs.Names.{same_name-sym}
use Rattle.affine_ast.specs.Nest.{Plain, Nest, Nothing, Loop, Branch, Does, Value, Load, Store, RawLoad, RawStore, Constant, Binary, Cast, Alloc, Dealloc, Start, Wait, Return, followed_by}
use Rattle.placement_texts.specs.Mapped.{mapped}
use Rattle.placement_texts.specs.Template.{Dimension, How, Transfers, Placement, allocs, before, behind_loop, chunk_constants, constants, deallocs, fast_name, place_statement, places_from, read_in, slow_type, start_in, start_out, tag_name, where_so, write_out}
use Rattle.step_runs.specs.Steps.{Each}
use Rattle.ring_plans.specs.Rings.{all_in_ring, at_place, bodies, in_ring, is_constant, is_memref, late_wait, ring_tags, ring_type, wait_for}
use Rattle.ring_scripts.specs.Texts.{AllWork, Works, ring_access, ring_start_out}
use Rattle.ring_scripts.proofs.Texts.{closes_in_ring, opens_in_ring, work_in_ring}
use Rattle.ring_bodies.specs.Pieces.{Piece, Opens, Closes, Others, Among, AreDoubled, BodiesByPieces, IsDoubled, IsPiece, NamesApart, chunks_of, in_row, ring_accesses, ring_closing, ring_opening, ring_piece, single_piece}

module _ (buffers : ℕ) (v : Name) (lower upper : Bound) (s : ℤ) where
  -- ---- one text behind another
  either : (c : Bool) (x y b : Nest) → (if c then followed_by x b else followed_by y b) ≡ followed_by (if c then x else y) b
  either true x y b = refl
  either false x y b = refl

  module _ (q : Placement) where
    abbrev ringed : Nest → Nest
    ringed = all_in_ring buffers v lower upper s q

    one_followed : (line : ℕ) (p : Plain) (x b : Nest) → in_ring buffers v lower upper s q line p (followed_by x b) ≡ followed_by (in_ring buffers v lower upper s q line p x) b
    one_followed line (Value r pick at) x b = refl
    one_followed line (Load r m at ty) x b = either (same_name (fast_name q.name) m) (Does line (Load r m (at_place buffers v lower upper s (pos 0) at) (ring_type buffers v lower upper s q)) x) (Does line (Load r m at ty) x) b
    one_followed line (Store y m at ty) x b = either (same_name (fast_name q.name) m) (Does line (Store y m (at_place buffers v lower upper s (pos 0) at) (ring_type buffers v lower upper s q)) x) (Does line (Store y m at ty) x) b
    one_followed line (RawLoad r m at ty) x b = refl
    one_followed line (RawStore y m at ty) x b = refl
    one_followed line (Constant r z ty) x b = either (is_constant buffers v lower upper s q r) x (Does line (Constant r z ty) x) b
    one_followed line (Binary r op a c ty) x b = refl
    one_followed line (Cast r kind y from to) x b = refl
    one_followed line (Alloc r ty) x b =
        (λ i. if same_name (tag_name q.name) r then either q.reads x (late_wait buffers v lower upper s q x) b i else either (same_name (fast_name q.name) r) x (Does line (Alloc r ty) x) b i)
        ∙ either (same_name (tag_name q.name) r) (if q.reads then x else late_wait buffers v lower upper s q x) (if same_name (fast_name q.name) r then x else Does line (Alloc r ty) x) b
    one_followed line (Dealloc m ty) x b = either (is_memref buffers v lower upper s q m) x (Does line (Dealloc m ty) x) b
    one_followed line (Start a a_at c c_at t t_at n stride types) x b =
        let out : Nest → Nest = λ x. Does line (Start a (at_place buffers v lower upper s (pos 0) a_at) c c_at t (at_place buffers v lower upper s (pos 0) t_at) n stride (ring_type buffers v lower upper s q ∷ slow_type q ∷ ring_tags buffers v lower upper s ∷ [])) x in
        let other : Nest → Nest = λ x. Does line (Start a a_at c c_at t t_at n stride types) x in
        (λ i. if same_name (tag_name q.name) t then either (same_name (fast_name q.name) c) x (out x) b i else followed_by (other x) b)
        ∙ either (same_name (tag_name q.name) t) (if same_name (fast_name q.name) c then x else out x) (other x) b
    one_followed line (Wait t at n ty) x b =
        let stays : Nest → Nest = λ x. Does line (Wait t (at_place buffers v lower upper s (pos 0) at) n (ring_tags buffers v lower upper s)) x in
        let other : Nest → Nest = λ x. Does line (Wait t at n ty) x in
        (λ i. if same_name (tag_name q.name) t then either q.reads (stays x) x b i else followed_by (other x) b)
        ∙ either (same_name (tag_name q.name) t) (if q.reads then stays x else x) (other x) b
    one_followed line Return x b = refl

    ring_followed : (a b : Nest) → ringed (followed_by a b) ≡ followed_by (ringed a) (ringed b)
    ring_followed Nothing b = refl
    ring_followed (Loop line w l u step body rest) b = ap (Loop line w l u step (ringed body)) (ring_followed rest b)
    ring_followed (Branch line set names first has other rest) b = ap (Branch line set names (ringed first) has (ringed other)) (ring_followed rest b)
    ring_followed (Does line p rest) b = ap (in_ring buffers v lower upper s q line p) (ring_followed rest b) ∙ one_followed line p (ringed rest) (ringed b)

    -- ---- texts that stay
    abbrev NoAccess : Plain → Type 0
    NoAccess (Load r m at ty) = same_name (fast_name q.name) m ≡ false
    NoAccess (Store x m at ty) = same_name (fast_name q.name) m ≡ false
    NoAccess p = Unit {0}

    abbrev Stays : Nest → Type 0
    Stays Nothing = Unit {0}
    Stays (Loop line w l u step body rest) = Stays body × Stays rest
    Stays (Branch line set names first has other rest) = Stays first × Stays other × Stays rest
    Stays (Does line p rest) = Works buffers v lower upper s q p × NoAccess p × Stays rest

    stays_work : (n : Nest) → Stays n → AllWork buffers v lower upper s q n
    stays_work Nothing h = tt
    stays_work (Loop line w l u step body rest) h = (stays_work body h.0, stays_work rest h.1)
    stays_work (Branch line set names first has other rest) h = (stays_work first h.0, stays_work other h.1, stays_work rest h.2)
    stays_work (Does line p rest) h = (h.0, stays_work rest h.2)

    no_access : (p : Plain) → NoAccess p → ring_access buffers v lower upper s q p ≡ p
    no_access (Load r m at ty) h = ap (λ c. if c then Load r m (at_place buffers v lower upper s (pos 0) at) (ring_type buffers v lower upper s q) else Load r m at ty) h
    no_access (Store x m at ty) h = ap (λ c. if c then Store x m (at_place buffers v lower upper s (pos 0) at) (ring_type buffers v lower upper s q) else Store x m at ty) h
    no_access (Value r pick at) h = refl
    no_access (RawLoad r m at ty) h = refl
    no_access (RawStore x m at ty) h = refl
    no_access (Constant r z ty) h = refl
    no_access (Binary r op a b ty) h = refl
    no_access (Cast r kind x from to) h = refl
    no_access (Alloc r ty) h = refl
    no_access (Dealloc m ty) h = refl
    no_access (Start a a_at b b_at t t_at n stride types) h = refl
    no_access (Wait t at n ty) h = refl
    no_access Return h = refl

    stays_mapped : (n : Nest) → Stays n → mapped (ring_access buffers v lower upper s q) n ≡ n
    stays_mapped Nothing h = refl
    stays_mapped (Loop line w l u step body rest) h = λ i. Loop line w l u step (stays_mapped body h.0 i) (stays_mapped rest h.1 i)
    stays_mapped (Branch line set names first has other rest) h = λ i. Branch line set names (stays_mapped first h.0 i) has (stays_mapped other h.1 i) (stays_mapped rest h.2 i)
    stays_mapped (Does line p rest) h = λ i. Does line (no_access p h.1 i) (stays_mapped rest h.2 i)

    stays : (n : Nest) → Stays n → ringed n ≡ n
    stays n h = work_in_ring buffers v lower upper s q n (stays_work n h) ∙ stays_mapped n h

    -- ---- the template of another placement
    module _ (p : Placement) (apart : NamesApart q p) where
      stays_where : (c : Bool) (x y : Nest) → Stays x → Stays y → Stays (if c then x else y)
      stays_where true x y h k = h
      stays_where false x y h k = k

      place_stays : (k : ℕ) (d : Dimension) (ts : List (Name × ℤ)) (rest : Nest) → Stays rest → Stays (place_statement p.name k d ts rest)
      place_stays k d [] rest h = h
      place_stays k d (t ∷ ts) rest h = stays_where d.clamped _ _ (tt, tt, (tt, tt, h)) (tt, tt, h)

      places_stay : (k : ℕ) (ds : List Dimension) (rest : Nest) → Stays rest → Stays (places_from p.name k ds rest)
      places_stay k [] rest h = h
      places_stay k (d ∷ ds) rest h = place_stays k d d.terms (places_from p.name (suc k) ds rest) (places_stay (suc k) ds rest h)

      no_constant : (n : ℕ) → is_constant buffers v lower upper s q (p.name n) ≡ false
      no_constant n = λ i. apart 2 n i || (apart 3 n i || apart 4 n i)

      no_memref : (n : ℕ) → is_memref buffers v lower upper s q (p.name n) ≡ false
      no_memref n = λ i. apart 0 n i || apart 1 n i

      chunks_stay : (chunks : Option (ℕ × ℕ)) (rest : Nest) → Stays rest → Stays (chunk_constants p chunks rest)
      chunks_stay None rest h = h
      chunks_stay (Some two) rest h = (no_constant _, tt, (no_constant _, tt, h))

      in_stays : (c : Bool) (chunks : Option (ℕ × ℕ)) → Stays (where_so p c (start_in p chunks) Nothing)
      in_stays true chunks = (apart _ _, tt, (apart _ _, tt, tt))
      in_stays false chunks = tt

      front_stays : (chunks : Option (ℕ × ℕ)) (h : How) → h ≡ Transfers chunks → Stays (places_from p.name 0 p.dims (constants p h (allocs p h (where_so p p.reads (read_in p h) Nothing))))
      front_stays chunks h how =
          subst (λ h. Stays (places_from p.name 0 p.dims (constants p h (allocs p h (where_so p p.reads (read_in p h) Nothing))))) (sym how)
          (places_stay 0 p.dims _ (no_constant _, tt, chunks_stay chunks _ ((apart _ _, apart _ _), tt, ((apart _ _, apart _ _), tt, in_stays p.reads chunks))))

      out_stays : (c : Bool) (chunks : Option (ℕ × ℕ)) (rest : Nest) → Stays rest → Stays (where_so p c (start_out p chunks) rest)
      out_stays true chunks rest h = (apart _ _, tt, (apart _ _, tt, h))
      out_stays false chunks rest h = h

      back_stays : (chunks : Option (ℕ × ℕ)) (h : How) → h ≡ Transfers chunks → Stays (where_so p p.writes (write_out p h) (deallocs p h Nothing))
      back_stays chunks h how =
          subst (λ h. Stays (where_so p p.writes (write_out p h) (deallocs p h Nothing))) (sym how) (out_stays p.writes chunks _ (no_memref _, tt, (no_memref _, tt, tt)))

      wait_stays : Stays (wait_for buffers v lower upper s p Nothing)
      wait_stays = (apart _ _, tt, tt)

      opening_stays : Stays (ring_opening buffers v lower upper s p)
      opening_stays = places_stay 0 p.dims _ (stays_where p.reads _ _ wait_stays (wait_stays, tt, tt))

      closing_stays : Stays (ring_closing buffers v lower upper s p)
      closing_stays = stays_where p.writes _ _ (apart _ _, tt, stays_where p.reads _ _ wait_stays tt) tt

  -- ---- all rings
  abbrev all : List Placement → Nest → Nest
  all = bodies buffers v lower upper s

  all_followed : (ps : List Placement) (a b : Nest) → all ps (followed_by a b) ≡ followed_by (all ps a) (all ps b)
  all_followed [] a b = refl
  all_followed (p ∷ ps) a b = ap (all ps) (ring_followed p a b) ∙ all_followed ps (all_in_ring buffers v lower upper s p a) (all_in_ring buffers v lower upper s p b)

  all_nothing : (ps : List Placement) → all ps Nothing ≡ Nothing
  all_nothing [] = refl
  all_nothing (p ∷ ps) = all_nothing ps

  flipped : (p q : Placement) → NamesApart p q → NamesApart q p
  flipped p q h i j = same_name-sym (q.name i) (p.name j) ∙ h j i

  -- what is of one placement stays for others
  all_stay : (p : Placement) (n : Nest) → ((q : Placement) → NamesApart q p → Stays q n) → (ps : List Placement) → Each (NamesApart p) ps → all ps n ≡ n
  all_stay p n f [] h = refl
  all_stay p n f (q ∷ qs) h = ap (all qs) (stays q n (f q (flipped p q h.0))) ∙ all_stay p n f qs h.1

  of_one : (P : Placement → Type 0) (p : Placement) (ps : List Placement) → Among buffers v lower upper s p ps → Each P ps → P p
  of_one P p [] m h = absurd m
  of_one P p (q ∷ qs) (inl e) h = subst P (sym e) h.0
  of_one P p (q ∷ qs) (inr m) h = of_one P p qs m h.1

  module _ (own : Name → Bool) where
    its_own : (p : Placement) (ps : List Placement) → Among buffers v lower upper s p ps → AreDoubled own ps → IsDoubled own p
    its_own p [] m d = absurd m
    its_own p (q ∷ qs) (inl e) d = subst (IsDoubled own) (sym e) d.0
    its_own p (q ∷ qs) (inr m) d = its_own p qs m d.2

    opening_is : (p : Placement) → IsDoubled own p → all_in_ring buffers v lower upper s p (before p Nothing) ≡ ring_opening buffers v lower upper s p
    opening_is p d = opens_in_ring own buffers v lower upper s p d.chunks Nothing d.names d.how

    closing_is : (p : Placement) → IsDoubled own p → all_in_ring buffers v lower upper s p (behind_loop p Nothing) ≡ ring_closing buffers v lower upper s p
    closing_is p d =
        closes_in_ring own buffers v lower upper s p d.chunks Nothing d.names d.memref d.how
        ∙ ap (λ chunks. if p.writes then ring_start_out buffers v lower upper s p chunks (if p.reads then wait_for buffers v lower upper s p Nothing else Nothing) else Nothing) (sym (ap chunks_of d.how))

    all_openings : (p : Placement) (ps : List Placement) → Among buffers v lower upper s p ps → AreDoubled own ps → all ps (before p Nothing) ≡ ring_opening buffers v lower upper s p
    all_openings p [] m d = absurd m
    all_openings p (q ∷ qs) (inl e) d =
        ap (λ q. all qs (all_in_ring buffers v lower upper s q (before p Nothing))) (sym e)
        ∙ ap (all qs) (opening_is p (subst (IsDoubled own) (sym e) d.0))
        ∙ all_stay p (ring_opening buffers v lower upper s p) (λ r h. opening_stays r p h) qs (subst (λ q. Each (NamesApart q) qs) (sym e) d.1)
    all_openings p (q ∷ qs) (inr m) d =
        (let k = its_own p qs m d.2 in ap (all qs) (stays q (before p Nothing) (front_stays q p (of_one (NamesApart q) p qs m d.1) k.chunks p.how k.how)))
        ∙ all_openings p qs m d.2

    all_closings : (p : Placement) (ps : List Placement) → Among buffers v lower upper s p ps → AreDoubled own ps → all ps (behind_loop p Nothing) ≡ ring_closing buffers v lower upper s p
    all_closings p [] m d = absurd m
    all_closings p (q ∷ qs) (inl e) d =
        ap (λ q. all qs (all_in_ring buffers v lower upper s q (behind_loop p Nothing))) (sym e)
        ∙ ap (all qs) (closing_is p (subst (IsDoubled own) (sym e) d.0))
        ∙ all_stay p (ring_closing buffers v lower upper s p) (λ r h. closing_stays r p h) qs (subst (λ q. Each (NamesApart q) qs) (sym e) d.1)
    all_closings p (q ∷ qs) (inr m) d =
        (let k = its_own p qs m d.2 in ap (all qs) (stays q (behind_loop p Nothing) (back_stays q p (of_one (NamesApart q) p qs m d.1) k.chunks p.how k.how)))
        ∙ all_closings p qs m d.2

  -- ---- other statements
  either_works : (p : Placement) (c : Bool) (x y : Plain) → Works buffers v lower upper s p x → Works buffers v lower upper s p y → Works buffers v lower upper s p (if c then x else y)
  either_works p true x y h k = h
  either_works p false x y h k = k

  one_works : (p q : Placement) (x : Plain) → Works buffers v lower upper s p x → Works buffers v lower upper s p (ring_access buffers v lower upper s q x)
  one_works p q (Load r m at ty) h = either_works p (same_name (fast_name q.name) m) (Load r m (at_place buffers v lower upper s (pos 0) at) (ring_type buffers v lower upper s q)) (Load r m at ty) tt tt
  one_works p q (Store x m at ty) h = either_works p (same_name (fast_name q.name) m) (Store x m (at_place buffers v lower upper s (pos 0) at) (ring_type buffers v lower upper s q)) (Store x m at ty) tt tt
  one_works p q (Value r pick at) h = h
  one_works p q (RawLoad r m at ty) h = h
  one_works p q (RawStore r m at ty) h = h
  one_works p q (Constant r z ty) h = h
  one_works p q (Binary r op a b ty) h = h
  one_works p q (Cast r kind x from to) h = h
  one_works p q (Alloc r ty) h = h
  one_works p q (Dealloc m ty) h = h
  one_works p q (Start a a_at b b_at t t_at n stride types) h = h
  one_works p q (Wait t at n ty) h = h
  one_works p q Return h = h

  works_mapped : (p q : Placement) (n : Nest) → AllWork buffers v lower upper s p n → AllWork buffers v lower upper s p (mapped (ring_access buffers v lower upper s q) n)
  works_mapped p q Nothing h = tt
  works_mapped p q (Loop line w l u step body rest) h = (works_mapped p q body h.0, works_mapped p q rest h.1)
  works_mapped p q (Branch line set names first has other rest) h = (works_mapped p q first h.0, works_mapped p q other h.1, works_mapped p q rest h.2)
  works_mapped p q (Does line x rest) h = (one_works p q x h.0, works_mapped p q rest h.1)

  all_mapped : (q : Placement) (n : Nest) (ps : List Placement) → Each (λ p. AllWork buffers v lower upper s p n) ps → Each (λ p. AllWork buffers v lower upper s p (mapped (ring_access buffers v lower upper s q) n)) ps
  all_mapped q n [] h = tt
  all_mapped q n (p ∷ ps) h = (works_mapped p q n h.0, all_mapped q n ps h.1)

  mapped_none : (n : Nest) → mapped (ring_accesses buffers v lower upper s []) n ≡ n
  mapped_none Nothing = refl
  mapped_none (Loop line w l u step body rest) = λ i. Loop line w l u step (mapped_none body i) (mapped_none rest i)
  mapped_none (Branch line set names first has other rest) = λ i. Branch line set names (mapped_none first i) has (mapped_none other i) (mapped_none rest i)
  mapped_none (Does line p rest) = ap (Does line p) (mapped_none rest)

  mapped_twice : (f g : Plain → Plain) (n : Nest) → mapped g (mapped f n) ≡ mapped (λ q. g (f q)) n
  mapped_twice f g Nothing = refl
  mapped_twice f g (Loop line w l u step body rest) = λ i. Loop line w l u step (mapped_twice f g body i) (mapped_twice f g rest i)
  mapped_twice f g (Branch line set names first has other rest) = λ i. Branch line set names (mapped_twice f g first i) has (mapped_twice f g other i) (mapped_twice f g rest i)
  mapped_twice f g (Does line p rest) = ap (Does line (g (f p))) (mapped_twice f g rest)

  all_others : (ps : List Placement) (n : Nest) → Each (λ p. AllWork buffers v lower upper s p n) ps → all ps n ≡ mapped (ring_accesses buffers v lower upper s ps) n
  all_others [] n h = sym (mapped_none n)
  all_others (p ∷ ps) n h =
      ap (all ps) (work_in_ring buffers v lower upper s p n h.0)
      ∙ all_others ps (mapped (ring_access buffers v lower upper s p) n) (all_mapped p n ps h.1)
      ∙ mapped_twice (ring_access buffers v lower upper s p) (ring_accesses buffers v lower upper s ps) n

  -- ---- the body
  module _ (own : Name → Bool) (ps : List Placement) (d : AreDoubled own ps) where
    piece_is : (x : Piece) → IsPiece buffers v lower upper s ps x → all ps (single_piece x) ≡ ring_piece buffers v lower upper s ps x
    piece_is (Opens p) h = all_openings own p ps h d
    piece_is (Closes p) h = all_closings own p ps h d
    piece_is (Others n) h = all_others ps n h

    body_is : (xs : List Piece) → Each (IsPiece buffers v lower upper s ps) xs → all ps (in_row single_piece xs) ≡ in_row (ring_piece buffers v lower upper s ps) xs
    body_is [] h = all_nothing ps
    body_is (x ∷ xs) h = all_followed ps (single_piece x) (in_row single_piece xs) ∙ (λ i. followed_by (piece_is x h.0 i) (body_is xs h.1 i))

pub bodies_by_pieces : BodiesByPieces
bodies_by_pieces own buffers v lower upper s ps xs d h = body_is buffers v lower upper s own ps d xs h
