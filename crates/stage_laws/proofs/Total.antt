-- Every module has the module that staging makes of it.
use Rattle.std.proofs.Common.{◌≡◌, ℕ, ℤ, zero, suc, ◌+◌, ◌≤◌, ◌<◌, List, [], ◌∷◌, length, map, Bool, true, false, Option, Some, None, refl, sym, ap, ◌∙◌, subst, arith}
use Rattle.std.specs.Prelude.{not, ◌&&◌, ◌||◌, nat_eq, if◌then◌else◌}
use Rattle.std.specs.List.{list_any, starts_with}
use Rattle.affine_expr.specs.declared.expr.Expr.{Const}
use Rattle.affine_ast.specs.declared.module.Module.{Module}
use Rattle.affine_ast.specs.declared.name.Name.{Name}
use Rattle.affine_ast.specs.declared.types.Pick.TheVariants.{Apply, Min, Max}
use Rattle.affine_ast.specs.Nest.{Plain, Nest, Nothing, Loop, Branch, Does, Value, followed_by, nest}
use Rattle.nest_domain.specs.declared.plan.Options.{Options}
use Rattle.placement_texts.specs.Fold.{Step, staged_all}
use Rattle.placement_texts.specs.Mapped.{mapped}
use Rattle.placement_texts.specs.Renamed.{named}
use Rattle.placement_texts.specs.Spots.{Spot, Here, Behind, Inside, Other, found, staged_at}
use Rattle.placement_texts.specs.Template.{Dimension, How, place_name, least_name, form, over_terms, last_place, value_or_zero, Copies, Transfers, Placement, place_statement, places_from, loops, chunk_constants, constants, allocs, deallocs, read_in, write_out, where_so, before, behind_loop, redirect}
use Rattle.normal_texts.specs.Texts.{normal_plain, normal_text, IsNormal}
use Rattle.numbered_names.specs.Numbers.{value_names, underscores, prefix, begins, numbered_name, numbered_arg, IsPrefix, IsNumbered}
use Rattle.printed_texts.proofs.Unnested.{stmts_of}
use Rattle.lined_modules.proofs.Trees.{Closed, made, closed_text}
use Rattle.plan_laws.specs.Plan.{plan_steps, planned_text}
use Rattle.plan_theorem.specs.Law.{IsStagedModule}
use Rattle.stage_laws.specs.Law.{AllHaveStages}

-- ---- texts of trees
closed_followed : (a b : Nest) → Closed a → Closed b → Closed (followed_by a b)
closed_followed Nothing b h k = k
closed_followed (Loop line v l u s body rest) b h k = (h.0, closed_followed rest b h.1 k)
closed_followed (Branch line set names first true other rest) b h k = (h.0, h.1, closed_followed rest b h.2 k)
closed_followed (Branch line set names first false other rest) b h k = (h.0, h.1, closed_followed rest b h.2 k)
closed_followed (Does line p rest) b h k = closed_followed rest b h k

closed_mapped : (f : Plain → Plain) (n : Nest) → Closed n → Closed (mapped f n)
closed_mapped f Nothing h = tt
closed_mapped f (Loop line v l u s body rest) h = (closed_mapped f body h.0, closed_mapped f rest h.1)
closed_mapped f (Branch line set names first true other rest) h = (closed_mapped f first h.0, closed_mapped f other h.1, closed_mapped f rest h.2)
closed_mapped f (Branch line set names first false other rest) h = (ap (mapped f) h.0, closed_mapped f first h.1, closed_mapped f rest h.2)
closed_mapped f (Does line p rest) h = closed_mapped f rest h

closed_named : (f : Name → Name) (n : Nest) → Closed n → Closed (named f n)
closed_named f Nothing h = tt
closed_named f (Loop line v l u s body rest) h = (closed_named f body h.0, closed_named f rest h.1)
closed_named f (Branch line set names first true other rest) h = (closed_named f first h.0, closed_named f other h.1, closed_named f rest h.2)
closed_named f (Branch line set names first false other rest) h = (ap (named f) h.0, closed_named f first h.1, closed_named f rest h.2)
closed_named f (Does line p rest) h = closed_named f rest h

module _ (p : Placement) where
  closed_either : (c : Bool) (x y z : Plain) (rest : Nest) → Closed rest → Closed (if c then Does 0 x (Does 0 y rest) else Does 0 z rest)
  closed_either true x y z rest h = h
  closed_either false x y z rest h = h

  closed_place : (k : ℕ) (d : Dimension) (ts : List (Name × ℤ)) (rest : Nest) → Closed rest → Closed (place_statement p.name k d ts rest)
  closed_place k d [] rest h = h
  closed_place k d (t ∷ ts) rest h =
      closed_either d.clamped (Value (least_name p.name k) Min (over_terms (t ∷ ts) (form (t ∷ ts) d.offset ∷ Const (last_place d) ∷ []))) (Value (place_name p.name k) Max (value_or_zero (least_name p.name k)))
      (Value (place_name p.name k) Apply (over_terms (t ∷ ts) (form (t ∷ ts) d.offset ∷ []))) rest h

  closed_places : (k : ℕ) (ds : List Dimension) (rest : Nest) → Closed rest → Closed (places_from p.name k ds rest)
  closed_places k [] rest h = h
  closed_places k (d ∷ ds) rest h = closed_place k d d.terms (places_from p.name (suc k) ds rest) (closed_places (suc k) ds rest h)

  closed_loops : (turn : ℕ → Name) (k : ℕ) (ds : List Dimension) (inner : Nest) → Closed inner → Closed (loops turn k ds inner)
  closed_loops turn k [] inner h = h
  closed_loops turn k (d ∷ ds) inner h = (closed_loops turn (suc k) ds inner h, tt)

  closed_reads : (how : How) → Closed (read_in p how)
  closed_reads Copies = closed_loops _ 0 p.dims _ tt
  closed_reads (Transfers chunks) = tt

  closed_writes : (how : How) → Closed (write_out p how)
  closed_writes Copies = closed_loops _ 0 p.dims _ tt
  closed_writes (Transfers chunks) = tt

  closed_where : (c : Bool) (part rest : Nest) → Closed part → Closed rest → Closed (where_so p c part rest)
  closed_where true part rest h k = closed_followed part rest h k
  closed_where false part rest h k = k

  closed_chunks : (chunks : Option (ℕ × ℕ)) (rest : Nest) → Closed rest → Closed (chunk_constants p chunks rest)
  closed_chunks None rest h = h
  closed_chunks (Some two) rest h = h

  closed_constants : (how : How) (rest : Nest) → Closed rest → Closed (constants p how rest)
  closed_constants Copies rest h = h
  closed_constants (Transfers chunks) rest h = closed_chunks chunks rest h

  closed_allocs : (how : How) (rest : Nest) → Closed rest → Closed (allocs p how rest)
  closed_allocs Copies rest h = h
  closed_allocs (Transfers chunks) rest h = h

  closed_deallocs : (how : How) (rest : Nest) → Closed rest → Closed (deallocs p how rest)
  closed_deallocs Copies rest h = h
  closed_deallocs (Transfers chunks) rest h = h

  closed_before : (rest : Nest) → Closed rest → Closed (before p rest)
  closed_before rest h =
      let reads = where_so p p.reads (read_in p p.how) rest in
      closed_places 0 p.dims (constants p p.how (allocs p p.how reads)) (closed_constants p.how (allocs p p.how reads) (closed_allocs p.how reads (closed_where p.reads (read_in p p.how) rest (closed_reads p.how) h)))

  closed_behind : (rest : Nest) → Closed rest → Closed (behind_loop p rest)
  closed_behind rest h = closed_where p.writes (write_out p p.how) (deallocs p p.how rest) (closed_writes p.how) (closed_deallocs p.how rest h)

  closed_staged : (s : Spot) (n : Nest) → Closed n → Closed (staged_at p s n)
  closed_staged s Nothing h = h
  closed_staged Here (Loop line v l u step body rest) h = closed_before (Loop line v l u step (mapped (redirect p) body) (behind_loop p rest)) (closed_mapped (redirect p) body h.0, closed_behind rest h.1)
  closed_staged (Behind s) (Loop line v l u step body rest) h = (h.0, closed_staged s rest h.1)
  closed_staged (Inside s) (Loop line v l u step body rest) h = (closed_staged s body h.0, h.1)
  closed_staged (Other s) (Loop line v l u step body rest) h = h
  closed_staged Here (Branch line set names first has other rest) h = h
  closed_staged (Behind s) (Branch line set names first true other rest) h = (h.0, h.1, closed_staged s rest h.2)
  closed_staged (Behind s) (Branch line set names first false other rest) h = (h.0, h.1, closed_staged s rest h.2)
  closed_staged (Inside s) (Branch line set names first true other rest) h = (closed_staged s first h.0, h.1, h.2)
  closed_staged (Inside s) (Branch line set names first false other rest) h = (h.0, closed_staged s first h.1, h.2)
  closed_staged (Other s) (Branch line set names first true other rest) h = (h.0, closed_staged s other h.1, h.2)
  closed_staged (Other s) (Branch line set names first false other rest) h = (ap (staged_at p s) h.0 ∙ nothing s, h.1, h.2)
    where
      nothing : (s : Spot) → staged_at p s Nothing ≡ Nothing
      nothing s = refl
  closed_staged Here (Does line q rest) h = h
  closed_staged (Behind s) (Does line q rest) h = closed_staged s rest h
  closed_staged (Inside s) (Does line q rest) h = h
  closed_staged (Other s) (Does line q rest) h = h

closed_all : (xs : List Step) (n : Nest) → Closed n → Closed (staged_all xs n)
closed_all [] n h = h
closed_all (x ∷ xs) n h = closed_all xs (staged_at x.placement (found x.spot n) n) (closed_staged x.placement (found x.spot n) n h)

-- ---- a prefix
shorter : (needle xs : List ℕ) → length xs < length needle → starts_with nat_eq xs needle ≡ false
shorter [] xs h = absurd (omega (arith, h))
shorter (y ∷ ys) [] h = refl
shorter (y ∷ ys) (x ∷ xs) h = by (nat_eq y x) (shorter ys xs (omega (arith, h)))
  where
    by : (b : Bool) → starts_with nat_eq xs ys ≡ false → (b && starts_with nat_eq xs ys) ≡ false
    by true k = k
    by false k = refl

underscores_many : (k : ℕ) → length (underscores k) ≡ k
underscores_many zero = refl
underscores_many (suc k) = ap suc (underscores_many k)

letters : List Name → ℕ
letters [] = 0
letters (n ∷ ns) = length n.text + letters ns

no_beginning : (k : ℕ) (n : Name) → length n.text ≤ k → begins (prefix k) n ≡ false
no_beginning k n h = by n.made (shorter (prefix k) n.text (let u = underscores_many k in omega (arith, h, u)))
  where
    by : (b : Bool) → starts_with nat_eq n.text (prefix k) ≡ false → (not b && starts_with nat_eq n.text (prefix k)) ≡ false
    by true e = refl
    by false e = e

none_begins : (k : ℕ) (ns : List Name) → letters ns ≤ k → list_any (begins (prefix k)) ns ≡ false
unfolding letters
none_begins k [] h = refl
none_begins k (n ∷ ns) h = ap (λ b. b || list_any (begins (prefix k)) ns) (no_beginning k n (omega (arith, h))) ∙ none_begins k ns (omega (arith, h))

record Prefix (ns : List Name) : Type 0 where
  count : ℕ
  is : IsPrefix count ns

module _ (ns : List Name) where
  abbrev Any : ℕ → Bool
  Any k = list_any (begins (prefix k)) ns

  -- the first that is free, from one on, when one so many further is
  first_free : (more j : ℕ) → ((i : ℕ) → i < j → Any i ≡ true) → Any (j + more) ≡ false → Prefix ns
  first_free zero j taken last = record { count = j; is = record { free = subst (λ k. Any k ≡ false) (let e : j + 0 ≡ j = omega arith in e) last; least = taken } }
  first_free (suc more) j taken last = by (Any j) refl (λ t. first_free more (suc j) (next t) (subst (λ k. Any k ≡ false) (let e : j + suc more ≡ suc j + more = omega arith in e) last))
    where
      next : Any j ≡ true → (i : ℕ) → i < suc j → Any i ≡ true
      next t i less = here (nat_eq i j) refl
        where
          here : (b : Bool) → nat_eq i j ≡ b → Any i ≡ true
          here true e = subst (λ k. Any k ≡ true) (let f : j ≡ i = grind (arith, e) in f) t
          here false e = taken i (grind (arith, e, less))

      by : (b : Bool) → Any j ≡ b → (Any j ≡ true → Prefix ns) → Prefix ns
      by true e again = again e
      by false e again = record { count = j; is = record { free = e; least = taken } }

  a_prefix : Prefix ns
  a_prefix = first_free (letters ns) 0 (λ i less. absurd (omega (arith, less))) (subst (λ k. Any k ≡ false) (let e : letters ns ≡ 0 + letters ns = omega arith in e) (none_begins (letters ns) ns (omega arith)))

-- ---- the modules
module _ (o : Options) (m : Module) where
  abbrev placed : Module
  placed = record m { body = stmts_of (planned_text o m) }

  closed_placed : Closed (planned_text o m)
  closed_placed = closed_all (plan_steps o m) _ (closed_text m.body)

  is_placed : IsStagedModule o m placed
  is_placed = record { arguments = refl; body = made (planned_text o m) closed_placed }

  abbrev ordered : Module
  ordered = record m { body = stmts_of (normal_text (planned_text o m)) }

  closed_ordered : Closed (normal_text (planned_text o m))
  closed_ordered = closed_mapped normal_plain (planned_text o m) closed_placed

  ordered_body : nest ordered.body ≡ normal_text (planned_text o m)
  ordered_body = made (normal_text (planned_text o m)) closed_ordered

  is_ordered : IsNormal placed ordered
  is_ordered = record { arguments = refl; body = ordered_body ∙ ap normal_text (sym is_placed.body) }

  chosen : Prefix (value_names ordered)
  chosen = a_prefix (value_names ordered)

  abbrev number : Name → Name
  number = numbered_name chosen.count (value_names ordered)

  abbrev numbered : Module
  numbered = record ordered { args = map (numbered_arg number) ordered.args; body = stmts_of (named number (normal_text (planned_text o m))) }

  is_numbered : IsNumbered ordered numbered
  is_numbered = record {
    underscore_count = chosen.count;
    prefix_is = chosen.is;
    name = refl;
    args = refl;
    body = made (named number (normal_text (planned_text o m))) (closed_named number (normal_text (planned_text o m)) closed_ordered) ∙ ap (named number) (sym ordered_body);
  }

pub all_have_stages : AllHaveStages
all_have_stages o m = record {
  module_ = numbered o m;
  is = record { placed = placed o m; ordered = ordered o m; is_placed = is_placed o m; is_ordered = is_ordered o m; is_numbered = is_numbered o m };
}
