-- The rows of a place as they are handed out, and of what a path names.
use Rattle.std.proofs.Common.{◌≡◌, ℕ, ◌+◌, ◌<◌, ◌≤◌, Bool, true, false, List, [], ◌∷◌, ◌++◌, length, map, take, drop, get_or, Option, Some, None, Result, Ok, Err, refl, sym, ap, ◌∙◌, subst, append_assoc, append-nil}
use Rattle.std.specs.Prelude.{slice_get, if◌then◌else◌, nat_lt}
use Rattle.constraint_set.specs.Points.{LinearRow, LinearSystem}
use Rattle.constraint_set.specs.Elimination.{Refusal, too_wide, too_many, variable_limit}
use Rattle.affine_expr.specs.declared.linear.LinearFault.{LinearFault}
use Rattle.affine_expr.specs.declared.linear.LinearFault.TheVariants.{Wide, Memory}
use Rattle.affine_expr.specs.Forms.{Form}
use Rattle.affine_expr.specs.Linear.{padded, Meets}
use Rattle.affine_ast.specs.declared.module.Arg.{Arg}
use Rattle.affine_ast.specs.declared.module.Module.{Module}
use Rattle.affine_ast.specs.declared.stmt.Stmt.{Stmt}
use Rattle.affine_ast.specs.declared.stmt.What as what
use Rattle.affine_ast.specs.declared.stmt.What.{What}
use Rattle.affine_ast.specs.declared.stmt.What.TheOpen.{What-F}
use Rattle.affine_ast.specs.declared.stmt.What.TheVariants.{rolls-Load, rolls-Store}
use Rattle.affine_ast.specs.declared.types.Access.{Access}
use Rattle.affine_ast.specs.declared.types.MemrefType.{MemrefType}
use Rattle.affine_ast.specs.Intervals.{Ranges}
use Rattle.affine_ast.specs.Nest.{Nest, Does, Load, Store, put_what, nest}
use Rattle.affine_ast.specs.Validity.{IsValid}
use Rattle.affine_ast.proofs.Nests.{nest-nil, nest-cons, put_what_is, put-Load, put-Store}
use Rattle.direct_meaning.specs.Work.{start_ranges}
use Rattle.module_work.specs.Workable.{WorkableAccess}
use Rattle.nest_domain.specs.declared.step.Found.{Found}
use Rattle.affine_ast.specs.declared.name.Name.{Name}
use Rattle.nest_domain.specs.declared.step.Step.{Step}
use Rattle.nest_domain.specs.Ways.{Header, Round, Given, Except, Behind, Past, Spot, at_path, loop_names}
use Rattle.nest_domain.specs.Steps.{header_of, spot_of}
use Rattle.nest_domain.specs.Domains.{Known, row_at, names_of, symbol_names, system_of, place, Accessed, access}
use Rattle.nest_domain.specs.Answers.{Domain, AccessRows, domain_at, limited, domain_from, domain_of, access_from, access_of}
use Rattle.nest_domain.specs.declared.fault.DomainFault.{DomainFault}
use Rattle.nest_domain.specs.declared.fault.DomainFault.TheVariants as fault
use Rattle.nest_domain.specs.Accessing.{subscripts, Tells, of_form}
use Rattle.nest_domain.specs.Ready.{Ready, ReadyHere, ranges_at_end}
use Rattle.nest_domain.proofs.Loops.{from_place, past}
use Rattle.nest_domain.proofs.Readiness.{IsReady, valid_ready}

-- a form padded and then cut is its row
pub cut_row : (n : ℕ) (f g : Form) (r : LinearRow) → g ≡ padded n f → r ≡ record { coefs = take n g.coefs; constant = g.constant } → row_at n f ≡ r
unfolding row_at padded
cut_row n f g r e h = sym (h ∙ ap (λ (x : Form). record { coefs = take n x.coefs; constant = x.constant }) e)

-- these forms more, as rows
abbrev pub grown : LinearSystem → List Form → LinearSystem
grown s fs = record { vars = s.vars; rows = s.rows ++ map (row_at s.vars) fs }

pub grown_more : (s t : LinearSystem) (fs : List Form) (i : ℕ) (f : Form) → i < length fs → f ≡ get_or fs i f → t ≡ record s { rows = s.rows ++ row_at s.vars f ∷ [] } → grown s (drop i fs) ≡ grown t (drop (i + 1) fs)
grown_more s t fs i f h e p =
    ap (grown s) (from_place fs i f h e) ∙ ap (λ rows. record { vars = s.vars; rows = rows }) (sym (append_assoc s.rows (row_at s.vars f ∷ []) (map (row_at s.vars) (drop (i + 1) fs)))) ∙ ap (λ u. grown u (drop (i + 1) fs)) (sym p)

pub grown_all : (s : LinearSystem) (fs : List Form) (i : ℕ) → length fs ≤ i → grown s (drop i fs) ≡ s
grown_all s fs i h = ap (grown s) (past fs i h) ∙ ap (λ rows. record { vars = s.vars; rows = rows }) (append-nil s.rows)

map-append : {A B : Type 0} (f : A → B) (xs ys : List A) → map f (xs ++ ys) ≡ map f xs ++ map f ys
map-append f [] ys = refl
map-append f (x ∷ xs) ys = ap (λ l. f x ∷ l) (map-append f xs ys)

-- the rows in their order
pub system_grown : (k : Known) (a b c d e : LinearSystem) → a ≡ record { vars = k.next; rows = [] } → b ≡ grown a k.symbols → c ≡ grown b k.loops → d ≡ grown c k.conditions → e ≡ grown d k.locals → e ≡ system_of k
unfolding system_of
system_grown k a b c d e p q r s t =
    t ∙ ap (λ x. grown x k.locals) (s ∙ ap (λ x. grown x k.conditions) (r ∙ ap (λ x. grown x k.loops) (q ∙ ap (λ x. grown x k.symbols) p)))
    ∙ ap (λ rows. record { vars = k.next; rows = rows }) (append_assoc (map f k.symbols ++ map f k.loops) (map f k.conditions) (map f k.locals) ∙ append_assoc (map f k.symbols) (map f k.loops) (map f k.conditions ++ map f k.locals)
    ∙ sym (map-append f k.symbols (k.loops ++ (k.conditions ++ k.locals)) ∙ ap (λ l. map f k.symbols ++ l) (map-append f k.loops (k.conditions ++ k.locals) ∙ ap (λ l. map f k.loops ++ l) (map-append f k.conditions k.locals))))
  where
    f : Form → LinearRow
    f = row_at k.next

-- ---- names
pub symbols_more : (names more : List Name) (args : List Arg) (i : ℕ) (arg : Arg) → i < length args → arg ≡ get_or args i arg → more ≡ names ++ names_of arg.kind arg.name → names ++ symbol_names (drop i args) ≡ more ++ symbol_names (drop (i + 1) args)
symbols_more names more args i arg h e p =
    ap (λ l. names ++ symbol_names l) (from_place args i arg h e) ∙ sym (append_assoc names (names_of arg.kind arg.name) (symbol_names (drop (i + 1) args))) ∙ ap (λ l. l ++ symbol_names (drop (i + 1) args)) (sym p)

pub symbols_all : (names : List Name) (args : List Arg) (i : ℕ) → length args ≤ i → names ++ symbol_names (drop i args) ≡ names
symbols_all names args i h = ap (λ l. names ++ symbol_names l) (past args i h) ∙ append-nil names

loop_in_front : (h : Header) (hs : List Header) → loop_names (h ∷ hs) ≡ loop_names (h ∷ []) ++ loop_names hs
loop_in_front (Round v l u s) hs = refl
loop_in_front (Given set names) hs = refl
loop_in_front (Except set names first) hs = refl
loop_in_front (Behind p) hs = refl
loop_in_front (Past n) hs = refl

pub loops_more : (names more : List Name) (way : List Step) (i : ℕ) (step : Step) → i < length way → step ≡ get_or way i step → more ≡ names ++ loop_names (header_of step ∷ []) → names ++ loop_names (map header_of (drop i way)) ≡ more ++ loop_names (map header_of (drop (i + 1) way))
loops_more names more way i step h e p =
    ap (λ l. names ++ loop_names (map header_of l)) (from_place way i step h e) ∙ ap (λ l. names ++ l) (loop_in_front (header_of step) (map header_of (drop (i + 1) way)))
    ∙ sym (append_assoc names (loop_names (header_of step ∷ [])) (loop_names (map header_of (drop (i + 1) way)))) ∙ ap (λ l. l ++ loop_names (map header_of (drop (i + 1) way))) (sym p)

pub loops_all : (names : List Name) (way : List Step) (i : ℕ) → length way ≤ i → names ++ loop_names (map header_of (drop i way)) ≡ names
loops_all names way i h = ap (λ l. names ++ loop_names (map header_of l)) (past way i h) ∙ append-nil names

-- ---- what a path names
pub head_of : (list : List Stmt) (s : Stmt) → slice_get list 0 ≡ Some s → (rest : List Stmt) × (list ≡ s ∷ rest)
head_of [] s e = absurd (let z : ⊥ = cc in z)
head_of (x ∷ xs) s e = (xs, let same : x ≡ s = cc in ap (λ y. y ∷ xs) same)

pub no_head : (list : List Stmt) → slice_get list 0 ≡ None → list ≡ []
no_head [] e = refl
no_head (x ∷ xs) e = absurd (let z : ⊥ = cc in z)

pub no_subscripts : (list : List Stmt) → slice_get list 0 ≡ None → subscripts (nest list) ≡ None
no_subscripts list e = ap (λ l. subscripts (nest l)) (no_head list e) ∙ ap subscripts nest-nil

at_head : (list : List Stmt) (s : Stmt) → slice_get list 0 ≡ Some s → (rest : Nest) × (nest list ≡ put_what s.what s.line rest)
at_head list s e =
    let h = head_of list s e in
    (nest h.0, ap nest h.1 ∙ nest-cons s h.0)

pub load_subscripts : (list : List Stmt) (s : Stmt) (r m : Name) (at : Access) (ty : MemrefType) → slice_get list 0 ≡ Some s → s.what ≡ what.Load r m at ty → subscripts (nest list) ≡ Some at
load_subscripts list s r m at ty e w =
    let h = at_head list s e in
    ap subscripts (h.1 ∙ ap (λ x. put_what x s.line h.0) w ∙ put-Load s.line h.0 r m at ty)

pub store_subscripts : (list : List Stmt) (s : Stmt) (x m : Name) (at : Access) (ty : MemrefType) → slice_get list 0 ≡ Some s → s.what ≡ what.Store x m at ty → subscripts (nest list) ≡ Some at
store_subscripts list s x m at ty e w =
    let h = at_head list s e in
    ap subscripts (h.1 ∙ ap (λ y. put_what y s.line h.0) w ∙ put-Store s.line h.0 x m at ty)

pub other_subscripts : (list : List Stmt) (s : Stmt) → slice_get list 0 ≡ Some s → ((r m : Name) (at : Access) (ty : MemrefType) → s.what ≡ what.Load r m at ty → ⊥) → ((x m : Name) (at : Access) (ty : MemrefType) → s.what ≡ what.Store x m at ty → ⊥) → subscripts (nest list) ≡ None
other_subscripts list s e no_load no_store = ap subscripts (at_head list s e).1 ∙ by (what.out-What s.what) (what.roll-out-What s.what)
  where
    by : (x : What-F What Stmt) → what.roll-What x ≡ s.what → subscripts (put_what s.what s.line (at_head list s e).0) ≡ None
    by (What-F.Load r m at ty) d = absurd (no_load r m at ty (sym d ∙ rolls-Load r m at ty))
    by (What-F.Store x m at ty) d = absurd (no_store x m at ty (sym d ∙ rolls-Store x m at ty))
    by x d = ap subscripts (put_what_is s.line (at_head list s e).0 x s.what d)

ready_subscripts : (rho : Ranges) (n : Nest) (at : Access) → ReadyHere rho n → subscripts n ≡ Some at → WorkableAccess rho at
ready_subscripts rho (Does line (Load r m a ty) rest) at h e =
    let same : a ≡ at = cc in
    subst (WorkableAccess rho) same h
ready_subscripts rho (Does line (Store x m a ty) rest) at h e =
    let same : a ≡ at = cc in
    subst (WorkableAccess rho) same h
ready_subscripts rho (Does line p rest) at h e = absurd (let z : ⊥ = cc in z)
ready_subscripts rho n at h e = absurd (let z : ⊥ = cc in z)

module _ (m : Module) (valid : IsValid m) (steps : List (ℕ × Bool)) (f : Found) (is : Some (spot_of f) ≡ at_path (nest m.body) steps) where
  ready : IsReady (start_ranges m.args) (spot_of f)
  ready = valid_ready m valid steps (spot_of f) (sym is)

  pub found_ready : Ready (map header_of f.way.items) (start_ranges m.args)
  found_ready = ready.way

  pub found_subscripts : (at : Access) → subscripts (nest f.here.now) ≡ Some at → (rho : Ranges) × WorkableAccess rho at
  found_subscripts at e = (ranges_at_end (map header_of f.way.items) (start_ranges m.args), ready_subscripts (ranges_at_end (map header_of f.way.items) (start_ranges m.args)) (nest f.here.now) at ready.here e)

-- what is found is what the path names
pub is_found : (f : Found) (s : Spot) (o : Option Spot) → Some (spot_of f) ≡ o → o ≡ Some s → spot_of f ≡ s
is_found f s o e g = cc

-- ---- answers from what is known
pub domain_given : (args : List Arg) (way : List Header) (k : Known) → place args way [] ≡ Ok k → domain_of args way ≡ limited k (domain_at args way k)
unfolding domain_of
domain_given args way k e = ap (domain_from args way) e

pub domain_wide : (args : List Arg) (way : List Header) → place args way [] ≡ Err Wide → domain_of args way ≡ Err too_wide
unfolding domain_of
domain_wide args way e = ap (domain_from args way) e

pub access_wide : (args : List Arg) (way : List Header) (at : Access) → access args way at ≡ Err Wide → access_of args way at ≡ Err too_wide
unfolding access_of
access_wide args way at e = ap (access_from args way) e

within : (b : Bool) (d e : Domain) (fs : List LinearRow) → if◌then◌else◌ {A = Result Domain Refusal} b (Err too_many) (Ok d) ≡ Ok e → if◌then◌else◌ {A = Result AccessRows Refusal} b (Err too_many) (Ok (record { domain = d; forms = fs })) ≡ Ok (record { domain = e; forms = fs })
within true d e fs h = absurd (let z : ⊥ = cc in z)
within false d e fs h = let same : d ≡ e = cc in ap (λ x. Ok (record { domain = x; forms = fs })) same

beyond : (b : Bool) (d : Domain) (r : Refusal) (fs : List LinearRow) → if◌then◌else◌ {A = Result Domain Refusal} b (Err too_many) (Ok d) ≡ Err r → if◌then◌else◌ {A = Result AccessRows Refusal} b (Err too_many) (Ok (record { domain = d; forms = fs })) ≡ Err r
beyond true d r fs h = let same : too_many ≡ r = cc in ap Err same
beyond false d r fs h = absurd (let z : ⊥ = cc in z)

pub access_given : (args : List Arg) (way : List Header) (at : Access) (a : Accessed) (d : Domain) → access args way at ≡ Ok a → limited a.known (domain_at args way a.known) ≡ Ok d → access_of args way at ≡ Ok (record { domain = d; forms = map (row_at a.known.next) a.forms })
unfolding access_of
access_given args way at a d e h = ap (access_from args way) e ∙ within (nat_lt variable_limit a.known.next) (domain_at args way a.known) d (map (row_at a.known.next) a.forms) h

pub access_refused : (args : List Arg) (way : List Header) (at : Access) (a : Accessed) (r : Refusal) → access args way at ≡ Ok a → limited a.known (domain_at args way a.known) ≡ Err r → access_of args way at ≡ Err r
unfolding access_of
access_refused args way at a r e h = ap (access_from args way) e ∙ beyond (nat_lt variable_limit a.known.next) (domain_at args way a.known) r (map (row_at a.known.next) a.forms) h

-- a fault of forms as one of rows
pub tells_fault : {A B C : Type 0} (wanted : Result A Refusal) (w : Result B LinearFault) (shape : C → B) (e : LinearFault) (f : DomainFault) → Meets w shape (Err e) → f ≡ of_form e → (w ≡ Err Wide → wanted ≡ Err too_wide) → Tells wanted (Err f)
tells_fault wanted w shape Wide f m e g = subst (λ x. Tells wanted (Err x)) (sym e) (g m)
tells_fault wanted w shape Memory f m e g = subst (λ x. Tells wanted (Err x)) (sym e) tt

-- a refusal of rows as one of an access
pub tells_refused : (args : List Arg) (way : List Header) (at : Access) (a : Accessed) (f : DomainFault) → access args way at ≡ Ok a → Tells (limited a.known (domain_at args way a.known)) (Err f) → Tells (access_of args way at) (Err f)
tells_refused args way at a fault.Wide e h = access_refused args way at a too_wide e h
tells_refused args way at a fault.Rows e h = access_refused args way at a too_many e h
tells_refused args way at a fault.Memory e h = tt

-- with names that are found
pub refused_with : (args : List Arg) (way : List Header) (at : Access) (a : Accessed) (names : List Name) (f g : DomainFault) → access args way at ≡ Ok a → names ≡ symbol_names args ++ loop_names way → g ≡ f
    → Tells (limited a.known (record { system = system_of a.known; names = names })) (Err f) → Tells (access_of args way at) (Err g)
refused_with args way at a names f g e n s h =
    subst (λ x. Tells (access_of args way at) (Err x)) (sym s) (tells_refused args way at a f e (subst (λ l. Tells (limited a.known (record { system = system_of a.known; names = l })) (Err f)) n h))

pub given_with : (args : List Arg) (way : List Header) (at : Access) (a : Accessed) (names : List Name) (d : Domain) (fs : List Form) (rows : List LinearRow) → access args way at ≡ Ok a → names ≡ symbol_names args ++ loop_names way
    → limited a.known (record { system = system_of a.known; names = names }) ≡ Ok d → fs ≡ a.forms → map (row_at a.known.next) fs ≡ rows → access_of args way at ≡ Ok (record { domain = d; forms = rows })
given_with args way at a names d fs rows e n h s r =
    access_given args way at a d e (subst (λ l. limited a.known (record { system = system_of a.known; names = l }) ≡ Ok d) n h)
    ∙ ap (λ l. Ok (record { domain = d; forms = l })) (ap (map (row_at a.known.next)) (sym s) ∙ r)

pub domain_with : (args : List Arg) (way : List Header) (k : Known) (names : List Name) → place args way [] ≡ Ok k → names ≡ symbol_names args ++ loop_names way → limited k (record { system = system_of k; names = names }) ≡ domain_of args way
domain_with args way k names e n = ap (λ l. limited k (record { system = system_of k; names = l })) n ∙ sym (domain_given args way k e)
