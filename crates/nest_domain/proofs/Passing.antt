-- The way to the statement that a path names, statement by statement and step by step.
use Rattle.std.proofs.Common.{◌≡◌, ℕ, zero, suc, ◌+◌, ◌<◌, ◌≤◌, Bool, true, false, List, [], ◌∷◌, ◌++◌, length, map, take, drop, get_or, Option, Some, None, ℤ, refl, sym, ap, ◌∙◌, subst, arith, append_assoc, append-nil}
use Rattle.std.specs.Prelude.{if◌then◌else◌}
use Rattle.std.proofs.lemmas.List.{map-append}
use Rattle.affine_expr.specs.declared.map.Set.{Set}
use Rattle.affine_ast.specs.declared.name.Name.{Name}
use Rattle.affine_ast.specs.declared.stmt.Stmt.{Stmt}
use Rattle.affine_ast.specs.declared.stmt.What as what
use Rattle.affine_ast.specs.declared.stmt.What.{What}
use Rattle.affine_ast.specs.declared.stmt.What.TheOpen.{What-F}
use Rattle.affine_ast.specs.declared.types.Bound.{Bound}
use Rattle.affine_ast.specs.Nest.{Nest, Nothing, Loop, Branch, Puts, put_layer, put_what, put_stmt, nest, plain_of, is_region}
use Rattle.affine_ast.proofs.Nests.{nest-nil, nest-cons, put_what_is, put-For, put-If, put-If-else, put_plain}
use Rattle.nest_domain.specs.declared.step.Step.{Step}
use Rattle.nest_domain.specs.Ways.{Header, Round, Given, Except, Behind, Past, Spot, under, spot, at_path}
use Rattle.nest_domain.specs.Steps.{header_of, unders, past_first, past_what, past_all, or_none, Enters, Comes, Descends, Arrives}
use Rattle.nest_domain.proofs.Loops.{from_place, past}

pub unders-append : (hs more : List Header) (o : Option Spot) → unders (hs ++ more) o ≡ unders hs (unders more o)
unders-append [] more o = refl
unders-append (h ∷ hs) more o = ap (under h) (unders-append hs more o)

unders_none : (hs : List Header) → unders hs None ≡ None
unders_none [] = refl
unders_none (h ∷ hs) = ap (under h) (unders_none hs)

pub unders_some : (hs : List Header) (s : Spot) → unders hs (Some s) ≡ Some (record { way = hs ++ s.way; here = s.here })
unders_some [] s = refl
unders_some (h ∷ hs) s = ap (under h) (unders_some hs s)

-- with nothing behind a way there was nothing
pub none_behind : (hs : List Header) (o : Option Spot) → unders hs o ≡ None → o ≡ None
none_behind hs None e = refl
none_behind hs (Some s) e = absurd (differ (sym (unders_some hs s) ∙ e))
  where
    differ : {t : Spot} → Some t ≡ None → ⊥
    differ z = cc

-- ---- past statements
layer_past : (x : What-F (ℕ → Puts) Puts) (line : ℕ) (rest : Nest) (n : ℕ) (steps : List (ℕ × Bool)) → spot (put_layer x line rest) (suc n) steps ≡ unders (past_first (put_layer x 0 Nothing)) (spot rest n steps)
unfolding spot
layer_past (What-F.For v l u s body) line rest n steps = refl
layer_past (What-F.If set names first other) line rest n steps = refl
layer_past x line rest n steps = refl

spot_past : (w : What) (line : ℕ) (rest : Nest) (n : ℕ) (steps : List (ℕ × Bool)) → spot (put_what w line rest) (suc n) steps ≡ unders (past_what w) (spot rest n steps)
unfolding past_what
spot_past w line rest n steps =
    let x = what.map-What What Stmt (ℕ → Puts) Puts put_what put_stmt (what.out-What w) in
    ap (λ b. spot b (suc n) steps) (put_what_is line rest (what.out-What w) w (what.roll-out-What w)) ∙ layer_past x line rest n steps
    ∙ ap (λ b. unders (past_first b) (spot rest n steps)) (sym (put_what_is 0 Nothing (what.out-What w) w (what.roll-out-What w)))

spot_all : (ss : List Stmt) (i : ℕ) (steps : List (ℕ × Bool)) → i ≤ length ss → spot (nest ss) i steps ≡ unders (past_all (take i ss)) (spot (nest (drop i ss)) zero steps)
unfolding past_all
spot_all ss zero steps h = refl
spot_all [] (suc i) steps h = absurd (omega (arith, h))
spot_all (s ∷ ss) (suc i) steps h =
    ap (λ b. spot b (suc i) steps) (nest-cons s ss) ∙ spot_past s.what s.line (nest ss) i steps ∙ ap (unders (past_what s.what)) (spot_all ss i steps (omega (arith, h)))
    ∙ sym (unders-append (past_what s.what) (past_all (take i ss)) (spot (nest (drop i ss)) zero steps))

spot_nothing : (i : ℕ) (steps : List (ℕ × Bool)) → spot Nothing i steps ≡ None
unfolding spot
spot_nothing i steps = refl

spot_beyond : (ss : List Stmt) (i : ℕ) (steps : List (ℕ × Bool)) → length ss ≤ i → spot (nest ss) i steps ≡ None
spot_beyond [] i steps h = ap (λ b. spot b i steps) nest-nil ∙ spot_nothing i steps
spot_beyond (s ∷ ss) zero steps h = absurd (omega (arith, h))
spot_beyond (s ∷ ss) (suc i) steps h =
    ap (λ b. spot b (suc i) steps) (nest-cons s ss) ∙ spot_past s.what s.line (nest ss) i steps ∙ ap (unders (past_what s.what)) (spot_beyond ss i steps (omega (arith, h))) ∙ unders_none (past_what s.what)

-- the ways past loops, conditions and other statements
pub past_loop : (w : What) (v : Name) (l u : Bound) (s : ℤ) (body : List Stmt) → w ≡ what.For v l u s body → past_what w ≡ Past (nest body) ∷ []
unfolding past_what
past_loop w v l u s body e = ap (λ w. past_first (put_what w 0 Nothing)) e ∙ ap past_first (put-For 0 Nothing v l u s body)

pub past_condition : (w : What) (set : Set) (names : List Name) (first : List Stmt) (other : Option (List Stmt)) → w ≡ what.If set names first other → past_what w ≡ Past (nest first) ∷ Past (nest (or_none other)) ∷ []
unfolding past_what
past_condition w set names first None e =
    ap (λ w. past_first (put_what w 0 Nothing)) e ∙ ap past_first (put-If 0 Nothing set names first) ∙ ap (λ b. Past (nest first) ∷ Past b ∷ []) (sym nest-nil)
past_condition w set names first (Some other) e = ap (λ w. past_first (put_what w 0 Nothing)) e ∙ ap past_first (put-If-else 0 Nothing set names first other)

pub past_plain : (w : What) → is_region w ≡ false → past_what w ≡ Behind (plain_of w) ∷ []
unfolding past_what
past_plain w h = ap past_first (put_plain w 0 Nothing h)

pub passed_one : (old new : List Step) (x : Step) (hs : List Header) → new ≡ old ++ x ∷ [] → header_of x ∷ [] ≡ hs → map header_of new ≡ map header_of old ++ hs
passed_one old new x hs e h = ap (map header_of) e ∙ map-append header_of old (x ∷ []) ∙ ap (λ l. map header_of old ++ l) h

pub passed_two : (old middle new : List Step) (x y : Step) (hs : List Header) → middle ≡ old ++ x ∷ [] → new ≡ middle ++ y ∷ [] → header_of x ∷ header_of y ∷ [] ≡ hs → map header_of new ≡ map header_of old ++ hs
passed_two old middle new x y hs e f h =
    ap (map header_of) (f ∙ ap (λ l. l ++ y ∷ []) e ∙ append_assoc old (x ∷ []) (y ∷ [])) ∙ map-append header_of old (x ∷ y ∷ []) ∙ ap (λ l. map header_of old ++ l) h

pub pass_more : (old new : List Header) (stmts : List Stmt) (i : ℕ) (s : Stmt) → i < length stmts → s ≡ get_or stmts i s → new ≡ old ++ past_what s.what → old ++ past_all (drop i stmts) ≡ new ++ past_all (drop (i + 1) stmts)
unfolding past_all
pass_more old new stmts i s h e p =
    ap (λ l. old ++ past_all l) (from_place stmts i s h e) ∙ sym (append_assoc old (past_what s.what) (past_all (drop (i + 1) stmts))) ∙ ap (λ l. l ++ past_all (drop (i + 1) stmts)) (sym p)

pub pass_end : (old : List Header) (stmts : List Stmt) (i : ℕ) → length stmts ≤ i → old ++ past_all (drop i stmts) ≡ old
unfolding past_all
pass_end old stmts i h = ap (λ l. old ++ past_all l) (past stmts i h) ∙ append-nil old

-- ---- to a position of a list
pub comes_to : (list : List Stmt) (n : ℕ) (old new : List Header) → n < length list → new ≡ old ++ past_all (take n list) → Comes list n old new (Some (drop n list))
comes_to list n old new h e = (left list n h, λ steps. ap (unders old) (spot_all list n steps (omega (arith, h))) ∙ sym (unders-append old (past_all (take n list)) (spot (nest (drop n list)) zero steps)) ∙ ap (λ hs. unders hs (spot (nest (drop n list)) zero steps)) (sym e))
  where
    left : (xs : List Stmt) (n : ℕ) → n < length xs → 0 < length (drop n xs)
    left [] n h = absurd (omega (arith, h))
    left (x ∷ xs) zero h = h
    left (x ∷ xs) (suc n) h = left xs n (omega (arith, h))

pub comes_nowhere : (list : List Stmt) (n : ℕ) (old new : List Header) → length list ≤ n → Comes list n old new None
comes_nowhere list n old new h = λ steps. spot_beyond list n steps h

-- ---- into a region
inside_loop : (v : Name) (l u : Bound) (st : ℤ) (body : Nest) (line : ℕ) (rest : Nest) (n : ℕ) (steps : List (ℕ × Bool)) → spot (Loop line v l u st body rest) zero ((n, false) ∷ steps) ≡ under (Round v l u st) (spot body n steps)
unfolding spot
inside_loop v l u st body line rest n steps = refl

pub enters_loop : (s : Stmt) (v : Name) (l u : Bound) (st : ℤ) (body : List Stmt) (old new : List Header) → s.what ≡ what.For v l u st body → new ≡ old ++ Round v l u st ∷ [] → Enters s false old new (Some body)
enters_loop s v l u st body old new e f = λ rest n steps.
    ap (λ w. unders old (spot (put_what w s.line rest) zero ((n, false) ∷ steps))) e ∙ ap (λ b. unders old (spot b zero ((n, false) ∷ steps))) (put-For s.line rest v l u st body)
    ∙ ap (unders old) (inside_loop v l u st (nest body) s.line rest n steps) ∙ sym (unders-append old (Round v l u st ∷ []) (spot (nest body) n steps)) ∙ ap (λ hs. unders hs (spot (nest body) n steps)) (sym f)

pub enters_no_loop : (s : Stmt) (v : Name) (l u : Bound) (st : ℤ) (body : List Stmt) (old new : List Header) → s.what ≡ what.For v l u st body → Enters s true old new None
unfolding spot
enters_no_loop s v l u st body old new e = λ rest n steps. ap (λ w. spot (put_what w s.line rest) zero ((n, true) ∷ steps)) e ∙ ap (λ b. spot b zero ((n, true) ∷ steps)) (put-For s.line rest v l u st body)

-- a condition as it stands
condition_is : (set : Set) (names : List Name) (first : List Stmt) (other : Option (List Stmt)) (line : ℕ) (rest : Nest)
    → (has : Bool) × (put_what (what.If set names first other) line rest ≡ Branch line set names (nest first) has (nest (or_none other)) rest)
condition_is set names first None line rest = (false, put-If line rest set names first ∙ ap (λ b. Branch line set names (nest first) false b rest) (sym nest-nil))
condition_is set names first (Some other) line rest = (true, put-If-else line rest set names first other)

inside_region : (set : Set) (names : List Name) (first other : Nest) (has : Bool) (line : ℕ) (rest : Nest) (t : Bool) (n : ℕ) (steps : List (ℕ × Bool))
    → spot (Branch line set names first has other rest) zero ((n, t) ∷ steps) ≡ under (if t then Except set names first else Given set names) (spot (if t then other else first) n steps)
unfolding spot
inside_region set names first other has line rest true n steps = refl
inside_region set names first other has line rest false n steps = refl

chosen : (t : Bool) (xs ys : List Stmt) → nest (if t then xs else ys) ≡ (if t then nest xs else nest ys)
chosen true xs ys = refl
chosen false xs ys = refl

pub enters_region : (s : Stmt) (set : Set) (names : List Name) (first : List Stmt) (other : Option (List Stmt)) (t : Bool) (inner : List Stmt) (old new : List Header) → s.what ≡ what.If set names first other
    → new ≡ old ++ (if t then Except set names (nest first) else Given set names) ∷ [] → inner ≡ (if t then or_none other else first) → Enters s t old new (Some inner)
enters_region s set names first other t inner old new e f g = λ rest n steps.
    let h : Header = if t then Except set names (nest first) else Given set names in
    let c = condition_is set names first other s.line rest in
    ap (λ w. unders old (spot (put_what w s.line rest) zero ((n, t) ∷ steps))) e ∙ ap (λ b. unders old (spot b zero ((n, t) ∷ steps))) c.1
    ∙ ap (unders old) (inside_region set names (nest first) (nest (or_none other)) c.0 s.line rest t n steps)
    ∙ ap (λ b. unders old (under h (spot b n steps))) (sym (ap nest g ∙ chosen t (or_none other) first))
    ∙ sym (unders-append old (h ∷ []) (spot (nest inner) n steps)) ∙ ap (λ hs. unders hs (spot (nest inner) n steps)) (sym f)

pub enters_nothing : (s : Stmt) (t : Bool) (old new : List Header) → is_region s.what ≡ false → Enters s t old new None
unfolding spot
enters_nothing s t old new h = λ rest n steps. ap (λ b. spot b zero ((n, t) ∷ steps)) (put_plain s.what s.line rest h)

-- ---- a step of a path further in
pub descends_empty : (list : List Stmt) (first : ℕ × Bool) (old new : List Header) → list ≡ [] → Descends list first old new None
descends_empty list first old new e = λ steps. ap (λ l. spot (nest l) zero (first ∷ steps)) e ∙ spot_beyond [] zero (first ∷ steps) (omega arith)

head_is : (list : List Stmt) (s : Stmt) (rest : List Stmt) → list ≡ s ∷ rest → nest list ≡ put_what s.what s.line (nest rest)
head_is list s rest e = ap nest e ∙ nest-cons s rest

pub descends_to : (list : List Stmt) (s : Stmt) (rest inner here : List Stmt) (n : ℕ) (t : Bool) (old middle new : List Header) → list ≡ s ∷ rest → Enters s t old middle (Some inner) → Comes inner n middle new (Some here) → Descends list (n, t) old new (Some here)
descends_to list s rest inner here n t old middle new e a b = (b.0, λ steps. ap (λ l. unders old (spot l zero ((n, t) ∷ steps))) (head_is list s rest e) ∙ a (nest rest) n steps ∙ b.1 steps)

pub descends_past : (list : List Stmt) (s : Stmt) (rest inner : List Stmt) (n : ℕ) (t : Bool) (old middle new : List Header) → list ≡ s ∷ rest → Enters s t old middle (Some inner) → Comes inner n middle new None → Descends list (n, t) old new None
descends_past list s rest inner n t old middle new e a b = λ steps.
    none_behind old (spot (nest list) zero ((n, t) ∷ steps)) (ap (λ l. unders old (spot l zero ((n, t) ∷ steps))) (head_is list s rest e) ∙ a (nest rest) n steps ∙ ap (unders middle) (b steps) ∙ unders_none middle)

pub descends_into_nothing : (list : List Stmt) (s : Stmt) (rest : List Stmt) (n : ℕ) (t : Bool) (old new : List Header) → list ≡ s ∷ rest → Enters s t old new None → Descends list (n, t) old new None
descends_into_nothing list s rest n t old new e a = λ steps. ap (λ l. spot l zero ((n, t) ∷ steps)) (head_is list s rest e) ∙ a (nest rest) n steps

pub descends_by : (list : List Stmt) (s : Stmt) (rest inner : List Stmt) (n : ℕ) (t : Bool) (old middle new : List Header) (o : Option (List Stmt)) → list ≡ s ∷ rest → Enters s t old middle (Some inner) → Comes inner n middle new o → Descends list (n, t) old new o
descends_by list s rest inner n t old middle new (Some here) e a b = descends_to list s rest inner here n t old middle new e a b
descends_by list s rest inner n t old middle new None e a b = descends_past list s rest inner n t old middle new e a b

-- ---- all steps
-- what stands there at the steps that are left is what stood at all of them
pub record Descended (start here : List Stmt) (steps left : List (ℕ × Bool)) (old new : List Header) : Type 0 where
  pub inhabited : 0 < length here
  pub same : unders old (spot (nest start) zero steps) ≡ unders new (spot (nest here) zero left)

pub descended_more : (start here next : List Stmt) (steps left rest : List (ℕ × Bool)) (first : ℕ × Bool) (old way new : List Header) → left ≡ first ∷ rest → Descends here first way new (Some next) → Descended start here steps left old way → Descended start next steps rest old new
descended_more start here next steps left rest first old way new e d s = record { inhabited = d.0; same = s.same ∙ ap (λ l. unders way (spot (nest here) zero l)) e ∙ d.1 rest }

pub descended_none : (start here : List Stmt) (steps left rest : List (ℕ × Bool)) (first : ℕ × Bool) (old way new : List Header) → left ≡ first ∷ rest → Descends here first way new None → Descended start here steps left old way → spot (nest start) zero steps ≡ None
descended_none start here steps left rest first old way new e d s = none_behind old (spot (nest start) zero steps) (s.same ∙ ap (λ l. unders way (spot (nest here) zero l)) e ∙ ap (unders way) (d rest) ∙ unders_none way)

pub descended_nowhere : (start here : List Stmt) (steps left rest : List (ℕ × Bool)) (first : ℕ × Bool) (o : Option (List Stmt)) (old way new : List Header) → Descends here first way new o → o ≡ None → left ≡ first ∷ rest → Descended start here steps left old way → spot (nest start) zero steps ≡ None
descended_nowhere start here steps left rest first o old way new d n e s = descended_none start here steps left rest first old way new e (subst (Descends here first way new) n d) s

layer_head : (x : What-F (ℕ → Puts) Puts) (line : ℕ) (rest : Nest) → spot (put_layer x line rest) zero [] ≡ Some (record { way = []; here = put_layer x line rest })
unfolding spot
layer_head (What-F.For v l u st body) line rest = refl
layer_head (What-F.If set names first other) line rest = refl
layer_head x line rest = refl

head_spot : (list : List Stmt) → 0 < length list → spot (nest list) zero [] ≡ Some (record { way = []; here = nest list })
head_spot [] h = absurd (omega (arith, h))
head_spot (s ∷ ss) h =
    let x = what.map-What What Stmt (ℕ → Puts) Puts put_what put_stmt (what.out-What s.what) in
    let e : nest (s ∷ ss) ≡ put_layer x s.line (nest ss) = nest-cons s ss ∙ put_what_is s.line (nest ss) (what.out-What s.what) s.what (what.roll-out-What s.what) in
    subst (λ n. spot n zero [] ≡ Some (record { way = []; here = n })) (sym e) (layer_head x s.line (nest ss))

pub descended_all : (start here : List Stmt) (steps left : List (ℕ × Bool)) (old new : List Header) → left ≡ [] → Descended start here steps left old new → Arrives start steps old new (Some here)
descended_all start here steps left old new e s =
    s.same ∙ ap (λ l. unders new (spot (nest here) zero l)) e ∙ ap (unders new) (head_spot here s.inhabited) ∙ unders_some new (record { way = []; here = nest here })
    ∙ ap (λ hs. Some (record { way = hs; here = nest here })) (append-nil new)

-- ---- a path
pub path_of : (body : List Stmt) (steps more : List (ℕ × Bool)) (n : ℕ) → steps ≡ (n, false) ∷ more → at_path (nest body) steps ≡ spot (nest body) n more
path_of body steps more n e = ap (at_path (nest body)) e

pub path_into_nothing : (body : List Stmt) (steps more : List (ℕ × Bool)) (first : ℕ × Bool) → steps ≡ first ∷ more → first.1 ≡ true → at_path (nest body) steps ≡ None
path_into_nothing body steps more first e t = ap (at_path (nest body)) e ∙ ap (λ b. if b then None else spot (nest body) first.0 more) t

pub path_past_nothing : (body start : List Stmt) (n : ℕ) (more : List (ℕ × Bool)) (new : List Header) → Comes body n [] new (Some start) → spot (nest start) zero more ≡ None → spot (nest body) n more ≡ None
path_past_nothing body start n more new c e = c.1 more ∙ ap (unders new) e ∙ unders_none new
