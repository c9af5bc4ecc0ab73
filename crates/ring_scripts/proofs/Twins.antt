-- A text with twins for its made names has the same actions.
use Rattle.std.proofs.Common.{◌≡◌, ℤ, List, [], ◌∷◌, ◌++◌, map, refl, sym, ap, ◌∙◌, Bool, true, false}
use Rattle.std.specs.Prelude.{◌||◌, Option, Some, None, flat_map, if◌then◌else◌}
use Rattle.std.specs.List.{list_any}
use Rattle.std.proofs.lemmas.List.{map-append}
use Rattle.affine_ast.specs.declared.name.Name.{Name}
use Rattle.affine_ast.specs.declared.types.Scalar.TheVariants.{Int, Index}
use Rattle.affine_ast.specs.Names.{same_name}
use Rattle.affine_ast.proofs.Names.{same_name-eq}
use Rattle.affine_ast.specs.Nest.{Plain, Nest, Nothing, Loop, Branch, Does, Value, Load, Store, RawLoad, RawStore, Constant, Binary, Cast, Alloc, Dealloc, Start, Wait, Return}
use Rattle.direct_meaning.specs.Action.{Action, Register, Sets, Loads, Stores, RawLoads, RawStores, Operates, Converts}
use Rattle.direct_meaning.specs.Static.{Env, holds_at, knows, lower_of, operand, operand_of, place_of, scalar_bits, tag_of, upper_of}
use Rattle.direct_meaning.specs.Actions.{action_of, actions, after_plain, alloc_of, behind, layout_of, start_of, wait_of}
use Rattle.direct_meaning.specs.Static as static
use Rattle.direct_meaning.specs.Turns.{gap, turns}
use Rattle.numbered_names.specs.Numbers.{defined, made_of}
use Rattle.placement_texts.specs.Renamed.{action_named, operand_named}
use Rattle.rename_laws.proofs.Actions.{actions_are}
use Rattle.rename_laws.proofs.Mute.{mute_alloc, mute_dealloc, mute_named, mute_start, mute_wait}
use Rattle.ring_plans.specs.Rings.{twin, twin_of_some}
use Rattle.ring_scripts.specs.Twins.{AllSourceData, AreOfSource, HasSourceData, TwinsDoTheSame}

-- a name of the source is none of the made ones, and stays
unmade : (ns : List Name) (r : Name) → r.made ≡ false → list_any (same_name r) (made_of ns) ≡ false
unmade [] r h = refl
unmade (n ∷ ns) r h = by n.made refl (unmade ns r h)
  where
    other : n.made ≡ true → (c : Bool) → same_name r n ≡ c → c ≡ false
    other m true e = let k : r.made ≡ n.made = ap (λ (x : Name). x.made) (same_name-eq r n e) in let z : false ≡ true = sym h ∙ k ∙ m in absurd (cc)
    other m false e = refl

    by : (c : Bool) → n.made ≡ c → list_any (same_name r) (made_of ns) ≡ false → list_any (same_name r) (if c then n ∷ made_of ns else made_of ns) ≡ false
    by true m rest = (λ i. other m (same_name r n) refl i || rest i)
    by false m rest = rest

module _ (ns : List Name) where
  abbrev f : Name → Name
  f = twin_of_some (made_of ns)

  same : (r : Name) → r.made ≡ false → f r ≡ r
  same r h = ap (λ c. if c then twin r else r) (unmade ns r h)

  operand_same : (x : Name) (o : Option ℤ) → x.made ≡ false → operand_named f (operand_of x o) ≡ operand_of x o
  operand_same x (Some z) h = refl
  operand_same x None h = ap Register (same x h)

  operands_same : (e : Env) (xs : List Name) → AreOfSource xs → map (operand_named f) (map (operand e) xs) ≡ map (operand e) xs
  operands_same e [] h = refl
  operands_same e (x ∷ xs) h = λ i. operand_same x (e.known x) h.0 i ∷ operands_same e xs h.1 i

  one_same : (q : Plain) (e : Env) → HasSourceData q → action_named f (action_of q e) ≡ action_of q e
  unfolding action_of
  one_same (Value r pick at) e h = refl
  one_same (Load r m at ty) e h = ap (λ r. Loads r (place_of e m at ty)) (same r h)
  one_same (Store x m at ty) e h = ap (λ x. Stores x (place_of e m at ty)) (operand_same x (e.known x) h)
  one_same (RawLoad r m at ty) e h = λ i. RawLoads (same r h.0 i) (e.home m) ty.sizes (operands_same e at h.1 i)
  one_same (RawStore x m at ty) e h = λ i. RawStores (operand_same x (e.known x) h.0 i) (e.home m) ty.sizes (operands_same e at h.1 i)
  one_same (Constant r z (Int t)) e h = ap (λ r. Sets r z) (same r h)
  one_same (Constant r z Index) e h = refl
  one_same (Binary r op a b ty) e h = λ i. Operates (same r h.0 i) op (scalar_bits ty) (operand_same a (e.known a) h.1 i) (operand_same b (e.known b) h.2 i)
  one_same (Cast r kind x from to) e h = λ i. Converts (same r h.0 i) kind (scalar_bits from) (scalar_bits to) (operand_same x (e.known x) h.1 i)
  one_same (Alloc r ty) e h = mute_named f (alloc_of e ty) (mute_alloc e ty)
  one_same (Dealloc m ty) e h = mute_named f _ (mute_dealloc (e.home m) ty)
  one_same (Start a a_at b b_at t t_at n stride types) e h = mute_named f (start_of e a a_at b b_at t t_at (layout_of e n stride) types) (mute_start e a a_at b b_at t t_at (layout_of e n stride) types)
  one_same (Wait t at n ty) e h = mute_named f (wait_of (tag_of e t at ty) (gap (static.number (e.known n)))) (mute_wait (tag_of e t at ty) (gap (static.number (e.known n))))
  one_same Return e h = refl

  turns_same : (g : ℤ → List Action) → ((t : ℤ) → map (action_named f) (g t) ≡ g t) → (ts : List ℤ) → map (action_named f) (flat_map g ts) ≡ flat_map g ts
  turns_same g h [] = refl
  turns_same g h (t ∷ ts) = map-append (action_named f) (g t) (flat_map g ts) ∙ (λ i. h t i ++ turns_same g h ts i)

  either_same : (c : Bool) (xs ys : List Action) → map (action_named f) xs ≡ xs → map (action_named f) ys ≡ ys → map (action_named f) (if c then xs else ys) ≡ (if c then xs else ys)
  either_same true xs ys h k = h
  either_same false xs ys h k = k

  all_same : (n : Nest) (e : Env) → AllSourceData n → map (action_named f) (actions n e) ≡ actions n e
  unfolding actions
  all_same Nothing e h = refl
  all_same (Loop line v l u s body rest) e h =
      map-append (action_named f) (flat_map (λ t. actions body (knows e v t)) (turns (lower_of e l) (upper_of e u) s)) (actions rest (behind body e))
      ∙ (λ i. turns_same (λ t. actions body (knows e v t)) (λ t. all_same body (knows e v t) h.0) (turns (lower_of e l) (upper_of e u) s) i ++ all_same rest (behind body e) h.1 i)
  all_same (Branch line set names first has other rest) e h =
      map-append (action_named f) (if holds_at e set names then actions first e else actions other (behind first e)) (actions rest (behind other (behind first e)))
      ∙ (λ i. either_same (holds_at e set names) (actions first e) (actions other (behind first e)) (all_same first e h.0) (all_same other (behind first e) h.1) i ++ all_same rest (behind other (behind first e)) h.2 i)
  all_same (Does line q rest) e h = λ i. one_same q e h.0 i ∷ all_same rest (after_plain q e) h.1 i

pub twins_do_the_same : TwinsDoTheSame
twins_do_the_same own n e g apart names under source = actions_are (twin_of_some (made_of (defined n))) own n e g apart names under ∙ all_same (defined n) n e source
