-- The forms that are traced have the values of their names, wherever the making of a list of actions comes.
use Rattle.std.proofs.Common.{◌≡◌, ℕ, zero, suc, ◌+◌, ◌<◌, ◌≤◌, Bool, true, false, cond, List, [], ◌∷◌, ◌++◌, drop, length, get_or, Option, Some, None, Result, Ok, Err, ℤ, pos, refl, sym, ◌∙◌, ap, subst, arith, append_assoc, append-nil, length-append}
use Rattle.std.specs.Prelude.{fold, slice_index_or}
use Rattle.affine_expr.specs.declared.linear.LinearFault.{LinearFault}
use Rattle.affine_expr.specs.Forms.{Form, with_locals}
use Rattle.affine_expr.specs.Linear.{number_form, variable_form}
use Rattle.affine_expr.proofs.FormValues.{Gives, number_worth, number_long, variable_worth, variable_long}
use Rattle.affine_expr.proofs.Locals.{length-with_locals}
use Rattle.affine_expr.proofs.Meaning.{Are}
use Rattle.affine_ast.specs.declared.image.Cells.{Cells}
use Rattle.affine_ast.specs.declared.module.Arg.{Arg}
use Rattle.affine_ast.specs.declared.module.ArgKind.{ArgKind}
use Rattle.affine_ast.specs.declared.module.ArgKind.TheVariants.{Memref, Index}
use Rattle.affine_ast.specs.declared.name.Name.{Name}
use Rattle.affine_ast.specs.declared.types.Access.{Access}
use Rattle.affine_ast.specs.declared.types.MemrefType.{MemrefType}
use Rattle.affine_ast.specs.declared.types.Pick.{Pick}
use Rattle.affine_ast.specs.declared.types.Pick.TheVariants.{Apply, Min, Max}
use Rattle.affine_ast.specs.declared.types.Scalar.TheVariants as scalar
use Rattle.affine_ast.specs.Names.{put}
use Rattle.affine_ast.specs.Nest.{Plain, Value, Load, Store, RawLoad, RawStore, Constant, Binary, Cast, Alloc, Dealloc, Start, Wait, Return}
use Rattle.direct_meaning.specs.Static.{Env, knows, results_of, picked}
use Rattle.direct_meaning.specs.Actions.{after_plain, behind, is_fast, after_alloc}
use Rattle.direct_meaning.specs.Memory.{FitsArg, FitsArgs, Placed, place_kind, place_arg, empty_env, placed_args, start_env}
use Rattle.nest_domain.specs.Ways.{Header, Round, Given, Except, Behind, Past, loop_count}
use Rattle.nest_domain.specs.Forms.{Formed}
use Rattle.nest_domain.specs.Domains.{map_forms, symbol_count}
use Rattle.nest_domain.specs.Visits.{Visits}
use Rattle.nest_domain.proofs.Rowed.{AllGood, grows, is_longer}
use Rattle.nest_domain.proofs.Walks.{Stands, Placed as Stand, stands_put, map_gives}
use Rattle.nest_domain.proofs.Places.{all_stand, fits_length, visits_length}
use Rattle.box_covers.specs.Traced.{Traced, nothing_traced, with_form, with_variable, with_local, first_form, with_result, with_value, behind_plain, traced, with_kind, with_arguments}
use Rattle.box_covers.specs.Covers.{traced_at}

-- the forms have their names' values at a point, in which the turns of the loops still to come stand
pub record TracedIn (p ts : List ℤ) (known : Name → Option ℤ) (k : Traced) : Type 0 where
  pub long : length p ≡ k.next
  pub forms : (m : Name) → Stands k.next p (k.forms m) (known m)
  pub turns : Stand k.outer p ts

-- so they have at a point that goes on from p
pub record Goes (p ts : List ℤ) (known : Name → Option ℤ) (k : Traced) : Type 0 where
  pub more : List ℤ
  pub there : TracedIn (p ++ more) ts known k

-- ---- longer points
get_front : (p more : List ℤ) (j : ℕ) → j < length p → get_or (p ++ more) j (pos 0) ≡ get_or p j (pos 0)
get_front [] more j l = absurd (omega (arith, l))
get_front (x ∷ p) more zero l = refl
get_front (x ∷ p) more (suc j) l = get_front p more j (omega (arith, l))

stand_longer : (j : ℕ) (p more ts : List ℤ) → Stand j p ts → Stand j (p ++ more) ts
stand_longer j p more [] h = tt
stand_longer j p more (t ∷ ts) h = (omega (arith, h.0, length-append p more), (get_front p more j h.0 ∙ h.1.0, stand_longer (suc j) p more ts h.1.1))

stands_longer : (n m : ℕ) (p more : List ℤ) (f : Option Form) (o : Option ℤ) → length p ≡ n → n ≤ m → Stands n p f o → Stands m (p ++ more) f o
stands_longer n m p more None o e l h = tt
stands_longer n m p more (Some f) o e l h = (h.0, (h.1.0, is_longer n m p more f h.0 e l h.1.1))

stays : (p ts : List ℤ) (known : Name → Option ℤ) (k : Traced) → TracedIn p ts known k → Goes p ts known k
stays p ts known k h = record { more = []; there = subst (λ q. TracedIn q ts known k) (sym (append-nil p)) h }

goes_from : (p more ts : List ℤ) (known : Name → Option ℤ) (k : Traced) → Goes (p ++ more) ts known k → Goes p ts known k
goes_from p more ts known k h = record { more = more ++ h.more; there = subst (λ q. TracedIn q ts known k) (append_assoc p more h.more) h.there }

-- ---- names
form_in : (p ts : List ℤ) (known : Name → Option ℤ) (k : Traced) (r : Name) (f : Option Form) (o : Option ℤ) → Stands k.next p f o → TracedIn p ts known k → TracedIn p ts (put known r o) (with_form r f k)
form_in p ts known k r f o s h = record { long = h.long; forms = stands_put k.next p k.forms known r f o h.forms s; turns = h.turns }

pub variable_in : (p ts : List ℤ) (known : Name → Option ℤ) (k : Traced) (r : Name) (t : ℤ) → TracedIn p (t ∷ ts) known k → TracedIn p ts (put known r (Some t)) (with_variable r k)
variable_in p ts known k r t h = record {
  long = h.long;
  forms = stands_put k.next p k.forms known r (Some (variable_form k.next k.outer)) (Some t) h.forms (
    t,
    (
      refl,
      record {
        short = omega (arith, variable_long k.next k.outer);
        same = variable_worth k.next k.outer p (let l = h.turns.0 in let m = h.long in omega (arith, l, m)) ∙ h.turns.1.0;
      },
    ),
  );
  turns = h.turns.1.1;
}

last_of : (xs : List ℤ) (x : ℤ) → get_or (xs ++ x ∷ []) (length xs) (pos 0) ≡ x
last_of [] x = refl
last_of (y ∷ xs) x = last_of xs x

local_in : (p ts : List ℤ) (known : Name → Option ℤ) (k : Traced) (r : Name) (x : ℤ) → TracedIn p ts known k → Goes p ts (put known r (Some x)) (with_local r k)
local_in p ts known k r x h =
    let q = p ++ x ∷ [] in
    let long : length q ≡ suc k.next = let l = h.long in omega (arith, l, length-append p (x ∷ [])) in
    record {
      more = x ∷ [];
      there = record {
        long = long;
        forms = stands_put (suc k.next) q k.forms known r (Some (variable_form (suc k.next) k.next)) (Some x) (λ m. stands_longer k.next (suc k.next) p (x ∷ []) (k.forms m) (known m) h.long (omega arith) (h.forms m)) (
          x,
          (
            refl,
            record {
              short = omega (arith, variable_long (suc k.next) k.next);
              same = variable_worth (suc k.next) k.next q (omega arith) ∙ ap (λ j. get_or q j (pos 0)) (sym h.long) ∙ last_of p x;
            },
          ),
        );
        turns = stand_longer k.outer p (x ∷ []) ts h.turns;
      };
    }

-- ---- values
result_by : (p ts : List ℤ) (known : Name → Option ℤ) (k : Traced) (r : Name) (vs : List ℤ) (w : Result Formed LinearFault) (h : TracedIn p ts known k) → Gives w (AllGood p k.next h.long [] vs)
    → Goes p ts (put known r (Some (picked Apply vs))) (with_result r w k)
result_by p ts known k r vs (Err e) h g = stays p ts (put known r (Some (picked Apply vs))) (with_form r None k) (form_in p ts known k r None (Some (picked Apply vs)) tt h)
result_by p ts known k r vs (Ok formed) h g =
    let ls = formed.locals in
    let w = grows p ls in
    let n = k.next + length ls in
    record {
      more = w.0;
      there = record {
        long = sym (ap length w.1) ∙ length-with_locals p ls ∙ ap (λ m. m + length ls) h.long;
        forms = stands_put n (p ++ w.0) k.forms known r (first_form formed.forms) (Some (picked Apply vs))
            (λ m. stands_longer k.next n p w.0 (k.forms m) (known m) h.long (omega arith) (h.forms m))
            (subst (λ q. Stands n q (first_form formed.forms) (Some (picked Apply vs))) w.1 (first formed.forms vs g.forms));
        turns = stand_longer k.outer p w.0 ts h.turns;
      };
    }
  where
    first : (fs : List Form) (vs : List ℤ) → Are (k.next + length formed.locals) (with_locals p formed.locals) fs vs → Stands (k.next + length formed.locals) (with_locals p formed.locals) (first_form fs) (Some (picked Apply vs))
    first [] vs a = tt
    first (f ∷ fs) [] a = absurd a
    first (f ∷ fs) (v ∷ vs) a = (v, (refl, a.0))

value_in : (p ts : List ℤ) (e : Env) (k : Traced) (r : Name) (pick : Pick) (at : Access) → TracedIn p ts e.known k → Goes p ts (put e.known r (Some (picked pick (results_of e at)))) (with_value r pick at k)
value_in p ts e k r Apply at h = result_by p ts e.known k r (results_of e at) (map_forms k.forms k.next at []) h (map_gives p k.next h.long k.forms e h.forms at [] tt)
value_in p ts e k r Min at h = local_in p ts e.known k r (picked Min (results_of e at)) h
value_in p ts e k r Max at h = local_in p ts e.known k r (picked Max (results_of e at)) h

alloc_known : (e : Env) (r : Name) (ty : MemrefType) → (after_alloc r ty e).known ≡ e.known
alloc_known e r ty = by (is_fast ty) _ _ refl refl
  where
    by : (t : Bool) (a b : Env) → a.known ≡ e.known → b.known ≡ e.known → (cond t a b).known ≡ e.known
    by true a b h i = h
    by false a b h i = i

nothing_in : (p ts : List ℤ) (e : Env) (k : Traced) (r : Name) → TracedIn p ts e.known k → Goes p ts (put e.known r None) (with_form r None k)
nothing_in p ts e k r h = stays p ts (put e.known r None) (with_form r None k) (form_in p ts e.known k r None None tt h)

pub plain_in : (p ts : List ℤ) (e : Env) (k : Traced) (pl : Plain) → TracedIn p ts e.known k → Goes p ts (after_plain pl e).known (behind_plain pl k)
unfolding after_plain
plain_in p ts e k (Value r pick at) h = value_in p ts e k r pick at h
plain_in p ts e k (Load r m at ty) h = nothing_in p ts e k r h
plain_in p ts e k (Store x m at ty) h = stays p ts e.known k h
plain_in p ts e k (RawLoad r m at ty) h = nothing_in p ts e k r h
plain_in p ts e k (RawStore x m at ty) h = stays p ts e.known k h
plain_in p ts e k (Constant r z (scalar.Int element)) h = nothing_in p ts e k r h
plain_in p ts e k (Constant r z scalar.Index) h = stays p ts (put e.known r (Some z)) (with_form r (Some (number_form 0 z)) k) (form_in p ts e.known k r (Some (number_form 0 z)) (Some z) (z, (refl, record { short = omega (arith, number_long 0 z); same = number_worth 0 z p })) h)
plain_in p ts e k (Binary r op x y ty) h = nothing_in p ts e k r h
plain_in p ts e k (Cast r kind x from to) h = nothing_in p ts e k r h
plain_in p ts e k (Alloc r ty) h = subst (λ known. Goes p ts known k) (sym (alloc_known e r ty)) (stays p ts e.known k h)
plain_in p ts e k (Dealloc m ty) h = stays p ts e.known k h
plain_in p ts e k (Start x x_at y y_at t t_at n stride types) h = stays p ts e.known k h
plain_in p ts e k (Wait t at n ty) h = stays p ts e.known k h
plain_in p ts e k Return h = stays p ts e.known k h

-- ---- along a way
pub along_in : (hs : List Header) (k : Traced) (e g : Env) (ts rest p : List ℤ) → Visits hs e ts g → TracedIn p (ts ++ rest) e.known k → Goes p rest g.known (traced hs k)
along_in [] k e g ts rest p v h = stays p rest g.known k (subst (λ us. TracedIn p (us ++ rest) g.known k) v.0 (subst (λ x. TracedIn p (ts ++ rest) x.known k) v.1 h))
along_in (Round v l u s ∷ hs) k e g [] rest p vis h = absurd vis
along_in (Round v l u s ∷ hs) k e g (t ∷ ts) rest p vis h = along_in hs (with_variable v k) (knows e v t) g ts rest p vis.1 (variable_in p (ts ++ rest) e.known k v t h)
along_in (Given set names ∷ hs) k e g ts rest p vis h = along_in hs k e g ts rest p vis.1 h
along_in (Except set names first ∷ hs) k e g ts rest p vis h = along_in hs k (behind first e) g ts rest p vis.1 h
along_in (Behind pl ∷ hs) k e g ts rest p vis h =
    let r = plain_in p (ts ++ rest) e k pl h in
    goes_from p r.more rest g.known (traced hs (behind_plain pl k)) (along_in hs (behind_plain pl k) (after_plain pl e) g ts rest (p ++ r.more) vis r.there)
along_in (Past n ∷ hs) k e g ts rest p vis h = along_in hs k (behind n e) g ts rest p vis h

-- ---- the arguments
module _ (p ts : List ℤ) where
  kind_in : (args : List Arg) (kind : ArgKind) (name : Name) (a : Placed) (cells : List Cells) (k : Traced)
      → ((b : Placed) (rest : List Cells) (g : Traced) → FitsArgs args rest b.symbols → TracedIn p (b.symbols ++ ts) b.env.known g → TracedIn p ts (fold place_arg b args).env.known (with_arguments args g))
      → FitsArg kind (FitsArgs args) cells a.symbols → TracedIn p (a.symbols ++ ts) a.env.known k
      → TracedIn p ts (fold place_arg (place_kind kind name a) args).env.known (with_arguments args (with_kind kind name k))
  kind_in args (Memref ty) name a [] k more fits b = absurd fits
  kind_in args (Memref ty) name a (c ∷ cells) k more fits b = more (place_kind (Memref ty) name a) cells k fits.2 (record { long = b.long; forms = b.forms; turns = b.turns })
  kind_in args (Index range) name a cells k more fits b = by a.symbols refl fits b
    where
      by : (zs : List ℤ) → a.symbols ≡ zs → FitsArg (Index range) (FitsArgs args) cells zs → TracedIn p (zs ++ ts) a.env.known k
          → TracedIn p ts (fold place_arg (place_kind (Index range) name a) args).env.known (with_arguments args (with_variable name k))
      by [] is f b = absurd f
      by (z ∷ zs) is f b =
          let first : slice_index_or a.symbols 0 (pos 0) ≡ z = ap (λ ys. slice_index_or ys 0 (pos 0)) is in
          let rest : drop 1 a.symbols ≡ zs = ap (drop 1) is in
          more (place_kind (Index range) name a) cells (with_variable name k) (subst (FitsArgs args cells) (sym rest) f.1)
          (subst (λ x. x) (λ i. TracedIn p (sym rest i ++ ts) (knows a.env name (sym first i)).known (with_variable name k)) (variable_in p (zs ++ ts) a.env.known k name z b))

  arguments_in : (args : List Arg) (a : Placed) (cells : List Cells) (k : Traced) → FitsArgs args cells a.symbols → TracedIn p (a.symbols ++ ts) a.env.known k → TracedIn p ts (fold place_arg a args).env.known (with_arguments args k)
  arguments_in [] a cells k fits b = subst (λ zs. TracedIn p (zs ++ ts) a.env.known k) fits.1 b
  arguments_in (arg ∷ args) a cells k fits b = kind_in args arg.kind arg.name a cells k (λ b rest g f h. arguments_in args b rest g f h) fits b

-- at a visit of a loop of a module, with the turns of loops within it still to come
pub arrives_in : (args : List Arg) (cells : List Cells) (zs : List ℤ) (way : List Header) (loops : ℕ) (ts us : List ℤ) (f : Env) → FitsArgs args cells zs → Visits way (start_env args zs) ts f → loops ≡ loop_count way + length us
    → Goes (zs ++ (ts ++ us)) us f.known (traced_at args way loops)
unfolding start_env
arrives_in args cells zs way loops ts us f fits v count =
    let n = symbol_count args + loops in
    let p = zs ++ (ts ++ us) in
    let long : length p ≡ n = omega (arith, length-append zs (ts ++ us), length-append ts us, fits_length args cells zs fits, visits_length way _ ts f v, count) in
    along_in way (with_arguments args (nothing_traced n)) (placed_args args zs).env f ts us p v
    (arguments_in p (ts ++ us) args (record { env = empty_env; memrefs = 0; elements = 0; symbols = zs }) cells (nothing_traced n) fits (record { long = long; forms = λ m. tt; turns = all_stand [] p }))
