-- The points of a place, from the start of a module on.
use Rattle.std.proofs.Common.{◌≡◌, ℕ, zero, suc, ◌+◌, ◌≤◌, List, [], ◌∷◌, ◌++◌, map, take, drop, length, get_or, Option, Some, Result, Ok, Err, ℤ, pos, ◌+ℤ◌, ◌*ℤ◌, ◌≤ℤ◌, refl, sym, ◌∙◌, ap, subst, arith, append_assoc, length-append}
use Rattle.std.specs.Prelude.{fold, slice_index_or}
use Rattle.std.proofs.lemmas.Int.{ints}
use Rattle.constraint_set.specs.Lists.{Each}
use Rattle.constraint_set.specs.Points.{LinearRow, LinearSystem, AreWide, HoldsAtPoint, IsPoint, PointOf, value_at}
use Rattle.constraint_set.specs.Points as points
use Rattle.constraint_set.proofs.Steps.{Each-append, Each-weaken, Each-map}
use Rattle.affine_expr.specs.declared.linear.LinearFault.{LinearFault}
use Rattle.affine_expr.specs.Spread.{Range, Within, only}
use Rattle.affine_expr.specs.Forms.{Form, dot, with_locals}
use Rattle.affine_expr.specs.Linear.{◌>>=◌, number_form, variable_form, padded, minus}
use Rattle.affine_expr.proofs.FormValues.{Gives, then, worth}
use Rattle.affine_expr.proofs.Locals.{length-with_locals}
use Rattle.affine_ast.specs.declared.image.Cells.{Cells}
use Rattle.affine_ast.specs.declared.module.Arg.{Arg}
use Rattle.affine_ast.specs.declared.module.ArgKind.{ArgKind}
use Rattle.affine_ast.specs.declared.module.ArgKind.TheVariants.{Memref, Index}
use Rattle.affine_ast.specs.declared.name.Name.{Name}
use Rattle.affine_ast.specs.declared.types.Access.{Access}
use Rattle.affine_ast.specs.Intervals.{range_or}
use Rattle.direct_meaning.specs.Static.{Env, knows, number, results_of}
use Rattle.direct_meaning.specs.Actions.{after_plain, behind}
use Rattle.direct_meaning.specs.Memory.{FitsArg, FitsArgs, Placed, place_kind, place_arg, empty_env, placed_args, start_env}
use Rattle.direct_meaning.proofs.RangesHold.{RangesHold, put_in}
use Rattle.nest_domain.specs.Ways.{Header, Round, Given, Except, Behind, Past, loop_count}
use Rattle.nest_domain.specs.Forms.{Formed, all_floor_rows}
use Rattle.nest_domain.specs.Domains.{Known, map_forms, along, count_of, symbol_count, with_symbol, with_kind, with_arguments, nothing_known, place, row_at, system_of, Accessed, with_subscripts, access}
use Rattle.nest_domain.specs.Visits.{Visits}
use Rattle.affine_expr.proofs.Meaning.{padded_worth, padded_long, padded_most, Are}
use Rattle.nest_domain.proofs.Rowed.{RowHolds, minus_row, AllGood, grows, all_floor_rows_hold}
use Rattle.nest_domain.proofs.Walks.{Placed as Stand, Holds, Arrived, AffineWay, stands_put, turn_is, number_row, map_gives, along_arrives, holds_floored}

-- ---- the arguments
-- what is known behind some arguments, where the point's numbers of the others and of the loops are still to come
pub record Begun (p ts : List ℤ) (e : Env) (k : Known) : Type 0 where
  pub long : length p ≡ k.next
  pub holds : Holds k.next p ts k e.known
  pub ranges : RangesHold e k.ranges

symbol_begun : (name : Name) (range : Range) (z : ℤ) (p ts : List ℤ) (e : Env) (k : Known) → Within z range → Begun p (z ∷ ts) e k
    → Gives (with_symbol name range (variable_form k.next k.outer) k) (Begun p ts (knows e name z))
symbol_begun name range z p ts e k w b =
    let n = k.next in
    let x = variable_form k.next k.outer in
    let self = turn_is p k e b.long z ts b.holds.turns in
    let q = Begun p ts (knows e name z) in
    then (minus x (number_form 0 range.least)) _ (RowHolds n p) q (minus_row n p x (number_form 0 range.least) z range.least self (number_row p k e b.long n p range.least) w.low) (λ low l.
    then (minus (number_form 0 range.greatest) x) _ (RowHolds n p) q (minus_row n p (number_form 0 range.greatest) x range.greatest z (number_row p k e b.long n p range.greatest) self w.high) (λ high h. record {
      long = b.long;
      holds = record {
        forms = stands_put n p k.forms e.known name (Some x) (Some z) b.holds.forms (z, (refl, self));
        turns = b.holds.turns.1.1;
        symbols = Each-append (RowHolds n p) k.symbols (low ∷ high ∷ []) b.holds.symbols (l, (h, tt));
        loops = b.holds.loops;
        conditions = b.holds.conditions;
        locals = b.holds.locals;
      };
      ranges = put_in e k.ranges name (Some z) range w b.ranges;
    }))

module _ (p ts : List ℤ) where
  kind_begun : (args : List Arg) (kind : ArgKind) (name : Name) (a : Placed) (cells : List Cells) (k : Known)
      → ((b : Placed) (rest : List Cells) (g : Known) → FitsArgs args rest b.symbols → Begun p (b.symbols ++ ts) b.env g → Gives (with_arguments args g) (Begun p ts (fold place_arg b args).env))
      → FitsArg kind (FitsArgs args) cells a.symbols → Begun p (a.symbols ++ ts) a.env k
      → Gives (with_kind kind name k >>= with_arguments args) (Begun p ts (fold place_arg (place_kind kind name a) args).env)
  kind_begun args (Memref ty) name a [] k more fits b = absurd fits
  kind_begun args (Memref ty) name a (c ∷ cells) k more fits b =
      more (place_kind (Memref ty) name a) cells k fits.2 (record { long = b.long; holds = record { forms = b.holds.forms; turns = b.holds.turns; symbols = b.holds.symbols; loops = b.holds.loops; conditions = b.holds.conditions; locals = b.holds.locals }; ranges = b.ranges })
  kind_begun args (Index range) name a cells k more fits b = by a.symbols refl fits b
    where
      r : Range
      r = record { least = (range_or range).least; greatest = (range_or range).greatest }

      by : (zs : List ℤ) → a.symbols ≡ zs → FitsArg (Index range) (FitsArgs args) cells zs → Begun p (zs ++ ts) a.env k
          → Gives (with_symbol name (record { least = (range_or range).least; greatest = (range_or range).greatest }) (variable_form k.next k.outer) k >>= with_arguments args) (Begun p ts (fold place_arg (place_kind (Index range) name a) args).env)
      by [] is f b = absurd f
      by (z ∷ zs) is f b =
          let first : slice_index_or a.symbols 0 (pos 0) ≡ z = ap (λ ys. slice_index_or ys 0 (pos 0)) is in
          let rest : drop 1 a.symbols ≡ zs = ap (drop 1) is in
          then (with_symbol name (record { least = (range_or range).least; greatest = (range_or range).greatest }) (variable_form k.next k.outer) k) (with_arguments args) (Begun p (zs ++ ts) (knows a.env name z)) (Begun p ts (fold place_arg (place_kind (Index range) name a) args).env)
          (symbol_begun name (record { least = (range_or range).least; greatest = (range_or range).greatest }) z p (zs ++ ts) a.env k (record { low = f.0.low; high = f.0.high }) b) (λ g h.
          more (place_kind (Index range) name a) cells g (subst (FitsArgs args cells) (sym rest) f.1)
          (subst (λ x. x) (λ i. Begun p (sym rest i ++ ts) (knows a.env name (sym first i)) g) h))

  pub arguments_begun : (args : List Arg) (a : Placed) (cells : List Cells) (k : Known) → FitsArgs args cells a.symbols → Begun p (a.symbols ++ ts) a.env k → Gives (with_arguments args k) (Begun p ts (fold place_arg a args).env)
  arguments_begun [] a cells k fits b = subst (λ zs. Begun p (zs ++ ts) a.env k) fits.1 b
  arguments_begun (arg ∷ args) a cells k fits b = kind_begun args arg.kind arg.name a cells k (λ b rest g f h. arguments_begun args b rest g f h) fits b

-- ---- how many numbers there are
pub fits_length : (args : List Arg) (cells : List Cells) (zs : List ℤ) → FitsArgs args cells zs → length zs ≡ symbol_count args
fits_length [] cells zs fits = ap length fits.1
fits_length (arg ∷ args) cells zs fits = by arg.kind cells zs fits (λ cells zs f. fits_length args cells zs f)
  where
    by : (kind : ArgKind) (cells : List Cells) (zs : List ℤ) → FitsArg kind (FitsArgs args) cells zs → ((cells : List Cells) (zs : List ℤ) → FitsArgs args cells zs → length zs ≡ symbol_count args) → length zs ≡ count_of kind + symbol_count args
    by (Memref ty) [] zs f more = absurd f
    by (Memref ty) (c ∷ cells) zs f more = omega (arith, more cells zs f.2)
    by (Index range) cells [] f more = absurd f
    by (Index range) cells (z ∷ zs) f more = omega (arith, more cells zs f.1)

pub visits_length : (hs : List Header) (e : Env) (ts : List ℤ) (g : Env) → Visits hs e ts g → length ts ≡ loop_count hs
visits_length [] e ts g v = ap length v.0
visits_length (Round n l u s ∷ hs) e [] g v = absurd v
visits_length (Round n l u s ∷ hs) e (t ∷ ts) g v = ap suc (visits_length hs (knows e n t) ts g v.1)
visits_length (Given set names ∷ hs) e ts g v = visits_length hs e ts g v.1
visits_length (Except set names first ∷ hs) e ts g v = visits_length hs (behind first e) ts g v.1
visits_length (Behind p ∷ hs) e ts g v = visits_length hs (after_plain p e) ts g v
visits_length (Past n ∷ hs) e ts g v = visits_length hs (behind n e) ts g v

pub all_stand : (front us : List ℤ) → Stand (length front) (front ++ us) us
all_stand front [] = tt
all_stand front (u ∷ us) = (omega (arith, length-append front (u ∷ us)), (here front u us, subst (λ x. x) (λ i. Stand (more i) (append_assoc front (u ∷ []) us i) us) (all_stand (front ++ u ∷ []) us)))
  where
    here : (front : List ℤ) (u : ℤ) (us : List ℤ) → get_or (front ++ u ∷ us) (length front) (pos 0) ≡ u
    here [] u us = refl
    here (x ∷ front) u us = here front u us

    more : length (front ++ u ∷ []) ≡ suc (length front)
    more = omega (arith, length-append front (u ∷ []))

-- ---- a place of a module
pub place_arrives : (args : List Arg) (cells : List Cells) (zs : List ℤ) (way : List Header) (own : List Name) (ts : List ℤ) (g : Env) → FitsArgs args cells zs → AffineWay way → Visits way (start_env args zs) ts g
    → Gives (place args way own) (Arrived (zs ++ ts) g)
unfolding place start_env
place_arrives args cells zs way own ts g fits a v =
    let n = symbol_count args + loop_count way in
    let p = zs ++ ts in
    let long : length p ≡ n = omega (arith, length-append zs ts, fits_length args cells zs fits, visits_length way _ ts g v) in
    let nothing_in : (m : Name) → Within (number (empty_env.known m)) (only (pos 0)) = λ m. record { low = omega (arith, ints); high = omega (arith, ints) } in
    then (with_arguments args (nothing_known n)) (along way own) (Begun p ts (placed_args args zs).env) (Arrived p g)
    (arguments_begun p ts args (record { env = empty_env; memrefs = 0; elements = 0; symbols = zs }) cells (nothing_known n) fits (record {
      long = long;
      holds = record { forms = λ m. tt; turns = all_stand [] p; symbols = tt; loops = tt; conditions = tt; locals = tt };
      ranges = nothing_in;
    })) (λ k b. along_arrives way own k (placed_args args zs).env g ts p a v b.long b.ranges b.holds)

-- ---- the rows as a system
dot_is : (cs p : List ℤ) → points.dot cs p ≡ dot cs p
dot_is [] p = refl
dot_is (c ∷ cs) [] = refl
dot_is (c ∷ cs) (x ∷ p) = ap (λ t. c *ℤ x +ℤ t) (dot_is cs p)

take_all : (n : ℕ) (xs : List ℤ) → length xs ≡ n → take n xs ≡ xs
take_all zero [] h = refl
take_all zero (x ∷ xs) h = absurd (omega arith)
take_all (suc n) [] h = refl
take_all (suc n) (x ∷ xs) h = ap (λ ys. x ∷ ys) (take_all n xs (omega (arith, h)))

take_long : (n : ℕ) (xs : List ℤ) → n ≤ length xs → length (take n xs) ≡ n
take_long zero xs h = refl
take_long (suc n) [] h = absurd (omega arith)
take_long (suc n) (x ∷ xs) h = ap suc (take_long n xs (omega (arith, h)))

-- a row has a coefficient for each variable, whatever the form
pub row_wide : (n : ℕ) (f : Form) → length (row_at n f).coefs ≡ n
unfolding row_at
row_wide n f = take_long n (padded n f).coefs (padded_most n f)

constant_is : (n : ℕ) (f : Form) → f.constant ≡ (padded n f).constant
unfolding padded
constant_is n f = refl

-- the value of a form as a row, at a point with scale 1
pub row_worth : (n : ℕ) (f : Form) (p : List ℤ) → length f.coefs ≤ n → value_at (row_at n f) p (pos 1) ≡ worth f p
unfolding row_at
row_worth n f p h = (λ i. points.dot (take_all n (padded n f).coefs (padded_long n f h) i) p +ℤ one f.constant i) ∙ ap (λ z. z +ℤ f.constant) (dot_is (padded n f).coefs p) ∙ same ∙ padded_worth n f p
  where
    one : (c : ℤ) → c *ℤ pos 1 ≡ c
    one c = omega (arith, ints)

    same : dot (padded n f).coefs p +ℤ f.constant ≡ worth (padded n f) p
    same = ap (λ z. dot (padded n f).coefs p +ℤ z) (constant_is n f)

row_of_form : (n : ℕ) (p : List ℤ) (f : Form) → RowHolds n p f → HoldsAtPoint p (pos 1) (row_at n f)
row_of_form n p f h = subst (λ z. pos 0 ≤ℤ z) (sym (row_worth n f p h.short)) h.holds

-- a point of the system, whose rows have a coefficient for each variable
pub record IsSeen (k : Known) (p : List ℤ) : Type 0 where
  pub point : PointOf (system_of k) p (pos 1)
  pub wide : AreWide (system_of k).vars (system_of k).rows

each_wide : (n : ℕ) (fs : List Form) → AreWide n (map (row_at n) fs)
each_wide n [] = tt
each_wide n (f ∷ fs) = (row_wide n f, each_wide n fs)

-- any point of the system is seen
pub seen_point : (k : Known) (p : List ℤ) → PointOf (system_of k) p (pos 1) → IsSeen k p
unfolding system_of
seen_point k p h = record { point = h; wide = each_wide k.next (k.symbols ++ (k.loops ++ (k.conditions ++ k.locals))) }

pub seen_of : (k : Known) (p ts : List ℤ) (known : Name → Option ℤ) → length p ≡ k.next → Holds k.next p ts k known → IsSeen k p
unfolding system_of
seen_of k p ts known long h =
    let rows = k.symbols ++ (k.loops ++ (k.conditions ++ k.locals)) in
    let all = Each-append (RowHolds k.next p) k.symbols (k.loops ++ (k.conditions ++ k.locals)) h.symbols (Each-append (RowHolds k.next p) k.loops (k.conditions ++ k.locals) h.loops (Each-append (RowHolds k.next p) k.conditions k.locals h.conditions h.locals)) in
    record {
      point = record {
        as_long = long;
        point = (omega (arith, ints), Each-map (HoldsAtPoint p (pos 1)) (row_at k.next) rows (Each-weaken (RowHolds k.next p) (λ f. HoldsAtPoint p (pos 1) (row_at k.next f)) (λ f r. row_of_form k.next p f r) rows all));
      };
      wide = Each-map (λ r. length r.coefs ≡ k.next) (row_at k.next) rows (Each-weaken (RowHolds k.next p) (λ f. length (row_at k.next f).coefs ≡ k.next) (λ f r. row_wide k.next f) rows all);
    }

-- ---- an access
-- its rows have a point that goes on from the symbols and the turns, at which the forms have the values of its subscripts
pub record AccessArrived (p vs : List ℤ) (a : Accessed) : Type 0 where
  pub more : List ℤ
  pub seen : IsSeen a.known (p ++ more)
  pub forms : Are a.known.next (p ++ more) a.forms vs

subscripts_arrive : (p vs : List ℤ) (g : Env) (k : Known) (formed : Formed) (long : length p ≡ k.next) → Holds k.next p [] k g.known → AllGood p k.next long [] vs formed
    → Gives (with_subscripts formed k) (AccessArrived p vs)
subscripts_arrive p vs g k formed long h a =
    let ls = formed.locals in
    let n = k.next + length ls in
    let w = grows p ls in
    let all = holds_floored p [] k g.known ls long h in
    by (all_floor_rows ls) (all_floor_rows_hold ls p k.next long a.ordered) (λ rows r.
    let end : Holds n (with_locals p ls) [] (record k { next = k.next + length ls; locals = k.locals ++ rows }) g.known = record {
      forms = all.forms;
      turns = all.turns;
      symbols = all.symbols;
      loops = all.loops;
      conditions = all.conditions;
      locals = Each-append (RowHolds n (with_locals p ls)) k.locals rows all.locals r;
    } in
    record {
      more = w.0;
      seen = seen_of (record k { next = k.next + length ls; locals = k.locals ++ rows }) (p ++ w.0) [] g.known (sym (ap length w.1) ∙ length-with_locals p ls ∙ ap (λ m. m + length ls) long)
          (subst (λ q. Holds n q [] (record k { next = k.next + length ls; locals = k.locals ++ rows }) g.known) w.1 end);
      forms = subst (λ q. Are n q formed.forms vs) w.1 a.forms;
    })
  where
    by : (w : Result (List Form) LinearFault) → Gives w (Each (RowHolds (k.next + length formed.locals) (with_locals p formed.locals)))
        → ((rows : List Form) → Each (RowHolds (k.next + length formed.locals) (with_locals p formed.locals)) rows → AccessArrived p vs (record { known = record k { next = k.next + length formed.locals; locals = k.locals ++ rows }; forms = formed.forms }))
        → Gives (w >>= (λ rows. Ok (record k { next = k.next + length formed.locals; locals = k.locals ++ rows })) >>= (λ x. Ok (record { known = x; forms = formed.forms }))) (AccessArrived p vs)
    by (Ok rows) h f = f rows h
    by (Err e) h f = tt

access_from : (p more vs : List ℤ) (w : Result Accessed LinearFault) → Gives w (AccessArrived (p ++ more) vs) → Gives w (AccessArrived p vs)
access_from p more vs (Ok a) h = record {
  more = more ++ h.more;
  seen = subst (IsSeen a.known) (append_assoc p more h.more) h.seen;
  forms = subst (λ q. Are a.known.next q a.forms vs) (append_assoc p more h.more) h.forms;
}
access_from p more vs (Err e) h = tt

pub access_arrives : (args : List Arg) (cells : List Cells) (zs : List ℤ) (way : List Header) (at : Access) (ts : List ℤ) (g : Env) → FitsArgs args cells zs → AffineWay way → Visits way (start_env args zs) ts g
    → Gives (access args way at) (AccessArrived (zs ++ ts) (results_of g at))
unfolding access
access_arrives args cells zs way at ts g fits a v =
    let p = zs ++ ts in
    let Q = AccessArrived p (results_of g at) in
    then (place args way at.operands) _ (Arrived p g) Q (place_arrives args cells zs way at.operands ts g fits a v) (λ k r.
    let q = p ++ r.more in
    access_from p r.more (results_of g at) (map_forms k.forms k.next at [] >>= (λ formed. with_subscripts formed k)) (
    then (map_forms k.forms k.next at []) (λ formed. with_subscripts formed k) (AllGood q k.next r.long [] (results_of g at)) (AccessArrived q (results_of g at)) (map_gives q k.next r.long k.forms g r.holds.forms at [] tt) (λ formed h.
    subscripts_arrive q (results_of g at) g k formed r.long r.holds h)))
