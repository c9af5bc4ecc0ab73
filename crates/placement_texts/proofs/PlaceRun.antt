-- What the statements that say where the box begins do: their actions make something known, and then the values say it.
use Rattle.std.proofs.Common.{◌≡◌, ℕ, zero, suc, ◌+◌, ◌*◌, ◌≤◌, ℤ, pos, ◌+ℤ◌, ◌*ℤ◌, List, [], ◌∷◌, ◌++◌, length, replicate, refl, ap, ◌∙◌, arith, Bool, true, false, map, take, drop}
use Rattle.std.specs.Prelude.{Some, if◌then◌else◌}
use Rattle.std.specs.Int.{int_min}
use Rattle.affine_expr.specs.declared.expr.Expr.{Expr, Const}
use Rattle.affine_expr.specs.Value.{value}
use Rattle.affine_expr.proofs.Values.{value-Dim, value-Const}
use Rattle.affine_ast.specs.declared.name.Name.{Name}
use Rattle.affine_ast.specs.declared.types.Pick.TheVariants.{Apply, Min, Max}
use Rattle.affine_ast.specs.Names.{same_name}
use Rattle.affine_ast.specs.Nest.{Nest, Does, Value}
use Rattle.affine_ast.proofs.Names.{same_name-refl, same_name-sym, put-same, put-other}
use Rattle.direct_meaning.specs.Action.{Action, Known}
use Rattle.direct_meaning.specs.Static.{Env, knows, number, numbers, results_of, picked}
use Rattle.direct_meaning.specs.Actions.{action_of, after_plain, actions}
use Rattle.direct_meaning.proofs.Laws.{actions-Does}
use Rattle.placement_texts.specs.Labels.{Numbers}
use Rattle.placement_texts.specs.Own.{OwnNames, MadeNames}
use Rattle.placement_texts.specs.Template.{Dimension, place_name, least_name, form, term_names, over_terms, last_place, clamp, value_or_zero, begin, begins_from, place_statement, statement_count, places_count, places_from}
use Rattle.placement_texts.specs.Regions.{form_number, place_number, OwnDims}
use Rattle.placement_texts.proofs.Follows.{Follows, apart_own}
use Rattle.placement_texts.proofs.Subscripts.{begin_number, begin_numbers, length_numbers}
use Rattle.placement_texts.proofs.Places.{value-form}

pub sym_false : (a b : Name) → same_name b a ≡ false → same_name a b ≡ false
sym_false a b h = same_name-sym a b ∙ h

-- ---- maps over the terms' values
pub take_whole : {A : Type 0} (xs : List A) (n : ℕ) → length xs ≡ n → take n xs ≡ xs
take_whole [] zero h = refl
take_whole [] (suc n) h = refl
take_whole (x ∷ xs) zero h = absurd (omega (arith, h))
take_whole (x ∷ xs) (suc n) h = ap (λ l. x ∷ l) (take_whole xs n (omega (arith, h)))

pub drop_whole : {A : Type 0} (xs : List A) (n : ℕ) → length xs ≡ n → drop n xs ≡ []
drop_whole [] zero h = refl
drop_whole [] (suc n) h = refl
drop_whole (x ∷ xs) zero h = absurd (omega (arith, h))
drop_whole (x ∷ xs) (suc n) h = drop_whole xs n (omega (arith, h))

length_terms : (ts : List (Name × ℤ)) → length (term_names ts) ≡ length ts
length_terms [] = refl
length_terms (t ∷ ts) = ap suc (length_terms ts)

pub over_results : (g : Env) (ts : List (Name × ℤ)) (es : List Expr) → results_of g (over_terms ts es) ≡ map (value (numbers g (term_names ts)) []) es
unfolding results_of
over_results g ts es =
    let zs = numbers g (term_names ts) in
    let l : length zs ≡ length ts = length_numbers g (term_names ts) ∙ length_terms ts in
    λ i. map (value (take_whole zs (length ts) l i) (drop_whole zs (length ts) l i)) es

pub zero_results : (g : Env) (n : Name) → results_of g (value_or_zero n) ≡ number (g.known n) ∷ pos 0 ∷ []
unfolding results_of
zero_results g n = λ i. value-Dim (number (g.known n) ∷ []) [] 0 i ∷ value-Const (number (g.known n) ∷ []) [] (pos 0) i ∷ []

-- ---- one dimension
module _ (name : ℕ → Name) where
  -- what is known behind its statements
  abbrev pub statement_env : ℕ → Dimension → List (Name × ℤ) → Env → Env
  statement_env k d [] g = g
  statement_env k d (t ∷ ts) g =
      if d.clamped
      then knows (knows g (least_name name k) (int_min (form_number g (t ∷ ts) d.offset) (last_place d))) (place_name name k) (clamp d (form_number g (t ∷ ts) d.offset))
      else knows g (place_name name k) (form_number g (t ∷ ts) d.offset)

  pub two_known : (k : ℕ) (g : Env) (x y : ℤ) → number ((knows g (least_name name k) x).known (least_name name k)) ≡ x
  two_known k g x y = ap number (put-same g.known (least_name name k) (Some x) (least_name name k) (same_name-refl (least_name name k)))

  clamped_run : (k : ℕ) (d : Dimension) (ts : List (Name × ℤ)) (rest : Nest) (g : Env)
      → actions (Does 0 (Value (least_name name k) Min (over_terms ts (form ts d.offset ∷ Const (last_place d) ∷ []))) (Does 0 (Value (place_name name k) Max (value_or_zero (least_name name k))) rest)) g
      ≡ Known ∷ Known ∷ actions rest (knows (knows g (least_name name k) (int_min (form_number g ts d.offset) (last_place d))) (place_name name k) (clamp d (form_number g ts d.offset)))
  unfolding action_of after_plain
  clamped_run k d ts rest g =
      let z = form_number g ts d.offset in
      let m = int_min z (last_place d) in
      let g1 = knows g (least_name name k) m in
      actions-Does 0 _ _ g
      ∙ ap (λ zs. Known ∷ actions (Does 0 (Value (place_name name k) Max (value_or_zero (least_name name k))) rest) (knows g (least_name name k) (picked Min zs)))
      (over_results g ts (form ts d.offset ∷ Const (last_place d) ∷ []) ∙ (λ i. value-form g ts d.offset i ∷ value-Const (numbers g (term_names ts)) [] (last_place d) i ∷ []))
      ∙ ap (λ l. Known ∷ l) (actions-Does 0 _ _ g1)
      ∙ ap (λ zs. Known ∷ Known ∷ actions rest (knows g1 (place_name name k) (picked Max zs))) (zero_results g1 (least_name name k) ∙ ap (λ x. x ∷ pos 0 ∷ []) (two_known k g m m))

  apply_run : (k : ℕ) (d : Dimension) (ts : List (Name × ℤ)) (rest : Nest) (g : Env)
      → actions (Does 0 (Value (place_name name k) Apply (over_terms ts (form ts d.offset ∷ []))) rest) g ≡ Known ∷ actions rest (knows g (place_name name k) (form_number g ts d.offset))
  unfolding action_of after_plain
  apply_run k d ts rest g =
      actions-Does 0 _ _ g
      ∙ ap (λ zs. Known ∷ actions rest (knows g (place_name name k) (picked Apply zs))) (over_results g ts (form ts d.offset ∷ []) ∙ ap (λ z. z ∷ []) (value-form g ts d.offset))

  statement_by : (t : Bool) (k : ℕ) (d : Dimension) (ts : List (Name × ℤ)) (rest : Nest) (g : Env)
      → actions (if t
      then Does 0 (Value (least_name name k) Min (over_terms ts (form ts d.offset ∷ Const (last_place d) ∷ []))) (Does 0 (Value (place_name name k) Max (value_or_zero (least_name name k))) rest)
      else Does 0 (Value (place_name name k) Apply (over_terms ts (form ts d.offset ∷ []))) rest) g
      ≡ replicate (if t then 2 else 1) Known
      ++ actions rest (if t
      then knows (knows g (least_name name k) (int_min (form_number g ts d.offset) (last_place d))) (place_name name k) (clamp d (form_number g ts d.offset))
      else knows g (place_name name k) (form_number g ts d.offset))
  statement_by true k d ts rest g = clamped_run k d ts rest g
  statement_by false k d ts rest g = apply_run k d ts rest g

  statement_run : (k : ℕ) (d : Dimension) (ts : List (Name × ℤ)) (rest : Nest) (g : Env)
      → actions (place_statement name k d ts rest) g ≡ replicate (statement_count name d ts) Known ++ actions rest (statement_env k d ts g)
  statement_run k d [] rest g = refl
  statement_run k d (t ∷ ts) rest g = statement_by d.clamped k d (t ∷ ts) rest g

  -- ---- all dimensions from one on
  abbrev pub places_env : ℕ → List Dimension → Env → Env
  places_env k [] g = g
  places_env k (d ∷ ds) g = places_env (suc k) ds (statement_env k d d.terms g)

  pub more_known : (m n : ℕ) (xs : List Action) → replicate m Known ++ (replicate n Known ++ xs) ≡ replicate (m + n) Known ++ xs
  more_known zero n xs = let e : n ≡ 0 + n = omega arith in ap (λ n. replicate n Known ++ xs) e
  more_known (suc m) n xs =
      let e : suc (m + n) ≡ suc m + n = omega arith in
      ap (λ l. Known ∷ l) (more_known m n xs) ∙ ap (λ n. replicate n Known ++ xs) e

  pub places_run : (k : ℕ) (ds : List Dimension) (rest : Nest) (g : Env) → actions (places_from name k ds rest) g ≡ replicate (places_count name ds) Known ++ actions rest (places_env k ds g)
  places_run k [] rest g = refl
  places_run k (d ∷ ds) rest g =
      statement_run k d d.terms (places_from name (suc k) ds rest) g
      ∙ ap (λ l. replicate (statement_count name d d.terms) Known ++ l) (places_run (suc k) ds rest (statement_env k d d.terms g))
      ∙ more_known (statement_count name d d.terms) (places_count name ds) (actions rest (places_env (suc k) ds (statement_env k d d.terms g)))

  module _ (own : Name → Bool) (names : MadeNames own name) where
    pub other_name : (i j : ℕ) → (i ≡ j → ⊥) → same_name (name i) (name j) ≡ false
    other_name i j ne = by_case (same_name (name i) (name j)) refl
      where
        by_case : (t : Bool) → same_name (name i) (name j) ≡ t → same_name (name i) (name j) ≡ false
        by_case true e = absurd (ne (names.apart i j e))
        by_case false e = e

    -- a name is none of those from this number on
    abbrev pub Below : ℕ → Name → Type 0
    Below k n = (i : ℕ) → 7 + 4 * k ≤ i → same_name (name i) n ≡ false

    statement_keeps_by : (t : Bool) (k : ℕ) (d : Dimension) (ts : List (Name × ℤ)) (g : Env) (n : Name) → Below k n
        → (if t
        then knows (knows g (least_name name k) (int_min (form_number g ts d.offset) (last_place d))) (place_name name k) (clamp d (form_number g ts d.offset))
        else knows g (place_name name k) (form_number g ts d.offset)).known n ≡ g.known n
    statement_keeps_by true k d ts g n h = put-other _ (place_name name k) _ n (h (7 + 4 * k) (omega arith)) ∙ put-other g.known (least_name name k) _ n (h (8 + 4 * k) (omega arith))
    statement_keeps_by false k d ts g n h = put-other g.known (place_name name k) _ n (h (7 + 4 * k) (omega arith))

    statement_keeps : (k : ℕ) (d : Dimension) (ts : List (Name × ℤ)) (g : Env) (n : Name) → Below k n → (statement_env k d ts g).known n ≡ g.known n
    statement_keeps k d [] g n h = refl
    statement_keeps k d (t ∷ ts) g n h = statement_keeps_by d.clamped k d (t ∷ ts) g n h

    pub places_keep : (k : ℕ) (ds : List Dimension) (g : Env) (n : Name) → Below k n → (places_env k ds g).known n ≡ g.known n
    places_keep k [] g n h = refl
    places_keep k (d ∷ ds) g n h = places_keep (suc k) ds (statement_env k d d.terms g) n (λ i l. h i (omega (arith, l))) ∙ statement_keeps k d d.terms g n h

    -- memrefs and numbers stay
    pub record SameHomes (g g' : Env) : Type 0 where
      pub home : g'.home ≡ g.home
      pub fasts : g'.fasts ≡ g.fasts
      pub tags : g'.tags ≡ g.tags

    statement_homes_by : (t : Bool) (k : ℕ) (d : Dimension) (ts : List (Name × ℤ)) (g : Env)
        → SameHomes g (if t
        then knows (knows g (least_name name k) (int_min (form_number g ts d.offset) (last_place d))) (place_name name k) (clamp d (form_number g ts d.offset))
        else knows g (place_name name k) (form_number g ts d.offset))
    statement_homes_by true k d ts g = record { home = refl; fasts = refl; tags = refl }
    statement_homes_by false k d ts g = record { home = refl; fasts = refl; tags = refl }

    statement_homes : (k : ℕ) (d : Dimension) (ts : List (Name × ℤ)) (g : Env) → SameHomes g (statement_env k d ts g)
    statement_homes k d [] g = record { home = refl; fasts = refl; tags = refl }
    statement_homes k d (t ∷ ts) g = statement_homes_by d.clamped k d (t ∷ ts) g

    pub places_homes : (k : ℕ) (ds : List Dimension) (g : Env) → SameHomes g (places_env k ds g)
    places_homes k [] g = record { home = refl; fasts = refl; tags = refl }
    places_homes k (d ∷ ds) g =
        let one = statement_homes k d d.terms g in
        let more = places_homes (suc k) ds (statement_env k d d.terms g) in
        record { home = more.home ∙ one.home; fasts = more.fasts ∙ one.fasts; tags = more.tags ∙ one.tags }

    -- what the values say
    begin_by : (t : Bool) (k : ℕ) (d : Dimension) (ts : List (Name × ℤ)) (g : Env)
        → number ((if t
        then knows (knows g (least_name name k) (int_min (form_number g ts d.offset) (last_place d))) (place_name name k) (clamp d (form_number g ts d.offset))
        else knows g (place_name name k) (form_number g ts d.offset)).known (place_name name k)) ≡ (if t then clamp d (form_number g ts d.offset) else form_number g ts d.offset)
    begin_by true k d ts g = ap number (put-same _ (place_name name k) _ (place_name name k) (same_name-refl (place_name name k)))
    begin_by false k d ts g = ap number (put-same _ (place_name name k) _ (place_name name k) (same_name-refl (place_name name k)))

    statement_begins : (k : ℕ) (d : Dimension) (ts : List (Name × ℤ)) (g g' : Env) → g'.known (place_name name k) ≡ (statement_env k d ts g).known (place_name name k)
        → begin_number g' (begin name k d ts) ≡ (if d.clamped then clamp d (form_number g ts d.offset) else form_number g ts d.offset)
    statement_begins k d [] g g' h = refl
    statement_begins k d (t ∷ ts) g g' h = ap number h ∙ begin_by d.clamped k d (t ∷ ts) g

    module _ (new : Numbers) (a k0 : ℕ) (e : Env) where
      form_same : (made g : Env) (ts : List (Name × ℤ)) (z : ℤ) → OwnNames own (term_names ts) → Follows own new a k0 made e g → form_number g ts z ≡ form_number e ts z
      form_same made g [] z h s = refl
      form_same made g (t ∷ ts) z h s = λ i. number (s.known t.0 h.0 i) *ℤ t.1 +ℤ form_same made g ts z h.1 s i

      -- a new base for what the made names stand for
      pub based : (made g : Env) → Follows own new a k0 made e g → Follows own new a k0 g e g
      based made g s = record { known = s.known; home = s.home; fasts = s.fasts; tags = s.tags; made_known = λ n h. refl; made_home = λ n h. refl }

      pub own_below : (k : ℕ) (n : Name) → own n ≡ true → Below k n
      own_below k n h = λ i l. not_own i
        where
          not_own : (i : ℕ) → same_name (name i) n ≡ false
          not_own i = sym_false (name i) n (apart_own own n (name i) h (names.made i))

      statement_follows : (k : ℕ) (d : Dimension) (g : Env) → Follows own new a k0 g e g → Follows own new a k0 (statement_env k d d.terms g) e (statement_env k d d.terms g)
      statement_follows k d g s =
          let one = statement_homes k d d.terms g in
          record {
            known = λ n h. statement_keeps k d d.terms g n (own_below k n h) ∙ s.known n h;
            home = λ n h. ap (λ f. f n) one.home ∙ s.home n h;
            fasts = one.fasts ∙ s.fasts;
            tags = one.tags ∙ s.tags;
            made_known = λ n h. refl;
            made_home = λ n h. refl;
          }

      pub places_follow : (k : ℕ) (ds : List Dimension) (g : Env) → Follows own new a k0 g e g → Follows own new a k0 (places_env k ds g) e (places_env k ds g)
      places_follow k [] g s = s
      places_follow k (d ∷ ds) g s = places_follow (suc k) ds (statement_env k d d.terms g) (statement_follows k d g s)

      abbrev pub place_numbers : List Dimension → List ℤ
      place_numbers [] = []
      place_numbers (d ∷ ds) = place_number e d ∷ place_numbers ds

      pub places_begin : (k : ℕ) (ds : List Dimension) (g : Env) → OwnDims own ds → Follows own new a k0 g e g → begin_numbers (places_env k ds g) (begins_from name k ds) ≡ place_numbers ds
      places_begin k [] g h s = refl
      places_begin k (d ∷ ds) g h s =
          let g1 = statement_env k d d.terms g in
          let kept : (places_env (suc k) ds g1).known (place_name name k) ≡ g1.known (place_name name k) = places_keep (suc k) ds g1 (place_name name k) (λ i l. other_name i (7 + 4 * k) (λ e. omega (arith, l, e))) in
          λ i. (statement_begins k d d.terms g (places_env (suc k) ds g1) kept ∙ ap (λ z. if d.clamped then clamp d z else z) (form_same g g d.terms d.offset h.0 s)) i
          ∷ places_begin (suc k) ds g1 h.1 (statement_follows k d g s) i
