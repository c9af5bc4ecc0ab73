-- What is known before the body of a module, and from there along a way.
use Rattle.std.proofs.Common.{◌≡◌, ℕ, suc, ◌+◌, ◌<◌, ◌≤◌, Bool, true, false, List, [], ◌∷◌, ◌++◌, length, map, drop, get_or, Option, Some, None, Result, Ok, Err, pos, refl, sym, ap, ◌∙◌, subst, arith}
use Rattle.std.specs.Prelude.{if◌then◌else◌, fold}
use Rattle.std.specs.Map.{lookup}
use Rattle.affine_expr.specs.declared.linear.LinearFault.{LinearFault}
use Rattle.affine_expr.specs.declared.map.Interval.{Interval}
use Rattle.affine_expr.specs.declared.linear.LinearFault.TheVariants.{Wide}
use Rattle.affine_expr.specs.Spread.{Range, only}
use Rattle.affine_expr.specs.Forms.{Form}
use Rattle.affine_expr.specs.Linear.{◌>>=◌, minus, number_form, variable_form}
use Rattle.affine_expr.proofs.FormValues.{Gives}
use Rattle.affine_expr.proofs.FormValues as values
use Rattle.affine_ast.specs.declared.module.Arg.{Arg}
use Rattle.affine_ast.specs.declared.module.ArgKind.{ArgKind}
use Rattle.affine_ast.specs.declared.module.ArgKind.TheVariants.{Memref, Index}
use Rattle.affine_ast.specs.declared.name.Name.{Name}
use Rattle.affine_ast.specs.Intervals.{range_or}
use Rattle.affine_ast.specs.Names.{put}
use Rattle.direct_meaning.specs.Work.{arg_ranges, start_ranges}
use Rattle.affine_rules.specs.declared.scope.Key.{Key}
use Rattle.affine_rules.specs.Scoped.{is_key}
use Rattle.module_work.specs.Table.{ranges_of}
use Rattle.module_work.proofs.Tables.{ranges_empty}
use Rattle.nest_domain.specs.declared.step.Mark.{Mark}
use Rattle.nest_domain.specs.declared.step.Step.{Step}
use Rattle.nest_domain.specs.Ways.{Header, loop_count}
use Rattle.nest_domain.specs.Steps.{header_of}
use Rattle.nest_domain.specs.Domains.{Going, Known, count_of, symbol_count, with_symbol, with_kind, with_arguments, nothing_known, along, place}
use Rattle.nest_domain.specs.Ready.{Ready}
use Rattle.nest_domain.specs.Table.{form_or_none, forms_of}
use Rattle.nest_domain.specs.Used.{marked, along_marked}
use Rattle.nest_domain.proofs.Loops.{from_place, past}
use Rattle.nest_domain.proofs.Marking.{forward, headers, marked_headers, along_is}

-- ---- nothing is known
forms_empty : (es : List (Key × Option Form)) → es ≡ [] → forms_of es ≡ (λ m. None)
unfolding forms_of
forms_empty es h = ap (λ xs m. form_or_none (lookup (is_key m) xs)) h

pub nothing_yet : (fs : List (Key × Option Form)) (rs : List (Key × Interval)) (n : ℕ) (a b c d : List Form) (gs : List Going) → fs ≡ [] → rs ≡ [] → a ≡ [] → b ≡ [] → c ≡ [] → d ≡ [] → gs ≡ []
    → record { forms = forms_of fs; ranges = ranges_of rs; outer = 0; next = n; symbols = a; loops = b; conditions = c; locals = d; goings = gs } ≡ nothing_known n
nothing_yet fs rs n a b c d gs f r p q s t u =
    λ i. record { forms = forms_empty fs f i; ranges = ranges_empty rs r i; outer = 0; next = n; symbols = p i; loops = q i; conditions = s i; locals = t i; goings = u i }

-- ---- the arguments, one after the other
pub arguments_on : (args : List Arg) (i : ℕ) (arg : Arg) (k g : Known) → i < length args → arg ≡ get_or args i arg → with_kind arg.kind arg.name k ≡ Ok g → with_arguments (drop i args) k ≡ with_arguments (drop (i + 1) args) g
arguments_on args i arg k g h e w = ap (λ l. with_arguments l k) (from_place args i arg h e) ∙ ap (λ r. r >>= with_arguments (drop (i + 1) args)) w

pub arguments_stop : (args : List Arg) (i : ℕ) (arg : Arg) (k : Known) (e : LinearFault) → i < length args → arg ≡ get_or args i arg → with_kind arg.kind arg.name k ≡ Err e → with_arguments (drop i args) k ≡ Err e
arguments_stop args i arg k e h is w = ap (λ l. with_arguments l k) (from_place args i arg h is) ∙ ap (λ r. r >>= with_arguments (drop (i + 1) args)) w

pub arguments_end : (args : List Arg) (i : ℕ) (k : Known) → length args ≤ i → with_arguments (drop i args) k ≡ Ok k
arguments_end args i k h = ap (λ l. with_arguments l k) (past args i h)

pub symbols_on : (args : List Arg) (i : ℕ) (arg : Arg) (n : ℕ) (b : Bool) → i < length args → arg ≡ get_or args i arg → (if b then 1 else 0) ≡ count_of arg.kind → n + symbol_count (drop i args) ≡ (if b then suc n else n) + symbol_count (drop (i + 1) args)
symbols_on args i arg n b h e c = ap (λ l. n + symbol_count l) (from_place args i arg h e) ∙ ap (λ m. n + (m + symbol_count (drop (i + 1) args))) (sym c) ∙ by b
  where
    by : (b : Bool) → n + ((if b then 1 else 0) + symbol_count (drop (i + 1) args)) ≡ (if b then suc n else n) + symbol_count (drop (i + 1) args)
    by true = omega arith
    by false = omega arith

pub symbols_end : (args : List Arg) (i : ℕ) (n : ℕ) → length args ≤ i → n + symbol_count (drop i args) ≡ n
symbols_end args i n h = ap (λ l. n + symbol_count l) (past args i h) ∙ omega arith

pub loops_on : (way : List Step) (i : ℕ) (step : Step) (n : ℕ) (b : Bool) → i < length way → step ≡ get_or way i step → ((hs : List Header) → loop_count (header_of step ∷ hs) ≡ (if b then suc (loop_count hs) else loop_count hs))
    → n + loop_count (map header_of (drop i way)) ≡ (if b then suc n else n) + loop_count (map header_of (drop (i + 1) way))
loops_on way i step n b h e c = ap (λ l. n + loop_count (map header_of l)) (from_place way i step h e) ∙ ap (λ m. n + m) (c (map header_of (drop (i + 1) way))) ∙ by b (loop_count (map header_of (drop (i + 1) way)))
  where
    by : (b : Bool) (m : ℕ) → n + (if b then suc m else m) ≡ (if b then suc n else n) + m
    by true m = omega arith
    by false m = omega arith

pub loops_end : (way : List Step) (i : ℕ) (n : ℕ) → length way ≤ i → n + loop_count (map header_of (drop i way)) ≡ n
loops_end way i n h = ap (λ l. n + loop_count (map header_of l)) (past way i h) ∙ omega arith

-- ---- the intervals of the arguments
symbol_ranges : (n : Name) (range : Range) (x : Form) (k : Known) → Gives (with_symbol n range x k) (λ g. g.ranges ≡ put k.ranges n range)
symbol_ranges n range x k = by (minus x (number_form 0 range.least))
  where
    inner : (low : Form) (w : Result Form LinearFault) → Gives (w >>= (λ high. Ok (record k { forms = put k.forms n (Some x); ranges = put k.ranges n range; outer = suc k.outer; symbols = k.symbols ++ low ∷ high ∷ [] }))) (λ g. g.ranges ≡ put k.ranges n range)
    inner low (Ok high) = refl
    inner low (Err e) = tt

    by : (w : Result Form LinearFault)
        → Gives (w >>= (λ low. minus (number_form 0 range.greatest) x >>= (λ high. Ok (record k { forms = put k.forms n (Some x); ranges = put k.ranges n range; outer = suc k.outer; symbols = k.symbols ++ low ∷ high ∷ [] })))) (λ g. g.ranges ≡ put k.ranges n range)
    by (Ok low) = inner low (minus (number_form 0 range.greatest) x)
    by (Err e) = tt

arguments_ranges : (args : List Arg) (k : Known) → Gives (with_arguments args k) (λ g. g.ranges ≡ fold arg_ranges k.ranges args)
arguments_ranges [] k = refl
arguments_ranges (arg ∷ args) k = values.then (with_kind arg.kind arg.name k) (with_arguments args) (λ g. g.ranges ≡ arg_ranges k.ranges arg) (λ g. g.ranges ≡ fold arg_ranges k.ranges (arg ∷ args)) (one arg.name arg.line arg.kind) (λ g e.
    subst (λ r. Gives (with_arguments args g) (λ h. h.ranges ≡ fold arg_ranges r args)) e (arguments_ranges args g))
  where
    one : (n : Name) (line : ℕ) (kind : ArgKind) → Gives (with_kind kind n k) (λ g. g.ranges ≡ arg_ranges k.ranges (record { name = n; kind = kind; line = line }))
    one n line (Memref ty) = refl
    one n line (Index range) = symbol_ranges n (record { least = (range_or range).least; greatest = (range_or range).greatest }) (variable_form k.next k.outer) k

answered : {A : Type 0} (w : Result A LinearFault) (P : A → Type 0) (x : A) → w ≡ Ok x → Gives w P → P x
answered w P x e g = subst (λ r. Gives r P) e g

pub started_ranges : (args : List Arg) (n : ℕ) (k : Known) → with_arguments args (nothing_known n) ≡ Ok k → k.ranges ≡ start_ranges args
started_ranges args n k e = answered (with_arguments args (nothing_known n)) (λ g. g.ranges ≡ fold arg_ranges (λ m. only (pos 0)) args) k e (arguments_ranges args (nothing_known n))

-- ---- from there along a way
pub place_wide : (args : List Arg) (hs : List Header) (own : List Name) → with_arguments args (nothing_known (symbol_count args + loop_count hs)) ≡ Err Wide → place args hs own ≡ Err Wide
unfolding place
place_wide args hs own e = ap (λ w. w >>= along hs own) e

pub place_along : (args : List Arg) (hs : List Header) (own : List Name) (k : Known) (ms : List Mark) → with_arguments args (nothing_known (symbol_count args + loop_count hs)) ≡ Ok k → forward ms ≡ marked hs own → place args hs own ≡ along_marked (forward ms) k
unfolding place
place_along args hs own k ms e m = ap (λ w. w >>= along hs own) e ∙ along_is hs own k ∙ ap (λ l. along_marked l k) (sym m)

pub ready_marked : (args : List Arg) (hs : List Header) (own : List Name) (n : ℕ) (k : Known) (ms : List Mark) → with_arguments args (nothing_known n) ≡ Ok k → forward ms ≡ marked hs own → Ready hs (start_ranges args) → Ready (headers (forward ms)) k.ranges
ready_marked args hs own n k ms e m r =
    subst (λ l. Ready l k.ranges) (sym (ap headers m ∙ marked_headers hs own)) (subst (Ready hs) (sym (started_ranges args n k e)) r)
