-- One step of the loops over terms and dimensions.
use Rattle.std.proofs.Common.{◌≡◌, ℕ, suc, ◌+◌, ◌<◌, ◌≤◌, ℤ, List, [], ◌∷◌, ◌++◌, drop, length, get_or, refl, sym, ap, ◌∙◌}
use Rattle.std.proofs.lemmas.List.{drop_more, drop_all, append_assoc, append-nil}
use Rattle.std.specs.Prelude.{if◌then◌else◌}
use Rattle.affine_expr.specs.declared.expr.Expr.{Expr, Dim, Const, Add}
use Rattle.affine_ast.specs.declared.name.Name.{Name}
use Rattle.affine_ast.specs.declared.stmt.Stmt.{Stmt}
use Rattle.placement_texts.specs.Template.{Dimension, join_term, join_terms, term_names, plus, place_name, begin, begins_from, named, turn_places, place_exprs, dim_sizes, dim_extents}
use Rattle.placement_code.specs.Beginnings.{has_none, fixed_place, named_one, behind_one, turn_place, place_expr}
use Rattle.placement_lists.specs.Statements.{place_statements, places_from}

pub terms_step : (ts : List (Name × ℤ)) (i k : ℕ) (t : Name × ℤ) (e next total : Expr) → i < length ts → t ≡ get_or ts i t → next ≡ join_term e k t.1
    → total ≡ join_terms e k (drop i ts) → total ≡ join_terms next (suc k) (drop (i + 1) ts)
terms_step ts i k t e next total h is made so =
    so ∙ ap (join_terms e k) (drop_more ts i t h) ∙ ap (λ (t : Name × ℤ). join_terms (join_term e k t.1) (suc k) (drop (i + 1) ts)) (sym is) ∙ ap (λ e. join_terms e (suc k) (drop (i + 1) ts)) (sym made)

pub terms_end : (ts : List (Name × ℤ)) (i k : ℕ) (e total : Expr) → length ts ≤ i → total ≡ join_terms e k (drop i ts) → e ≡ total
terms_end ts i k e total h so = sym (so ∙ ap (join_terms e k) (drop_all i ts h))

pub names_step : (ts : List (Name × ℤ)) (i : ℕ) (t : Name × ℤ) (out total : List Name) → i < length ts → t ≡ get_or ts i t
    → total ≡ out ++ term_names (drop i ts) → total ≡ (out ++ t.0 ∷ []) ++ term_names (drop (i + 1) ts)
names_step ts i t out total h is so =
    so ∙ ap (λ ts. out ++ term_names ts) (drop_more ts i t h) ∙ ap (λ (t : Name × ℤ). out ++ t.0 ∷ term_names (drop (i + 1) ts)) (sym is) ∙ sym (append_assoc out (t.0 ∷ []) (term_names (drop (i + 1) ts)))

pub names_end : (ts : List (Name × ℤ)) (i : ℕ) (out total : List Name) → length ts ≤ i → total ≡ out ++ term_names (drop i ts) → out ≡ total
names_end ts i out total h so = sym (so ∙ ap (λ ts. out ++ term_names ts) (drop_all i ts h) ∙ append-nil out)

pub places_step : (name : ℕ → Name) (ds : List Dimension) (i k : ℕ) (d : Dimension) (out total : List Stmt) → i < length ds → d ≡ get_or ds i d
    → total ≡ out ++ places_from name k (drop i ds) → total ≡ (out ++ place_statements name k d d.terms) ++ places_from name (suc k) (drop (i + 1) ds)
places_step name ds i k d out total h is so =
    so ∙ ap (λ ds. out ++ places_from name k ds) (drop_more ds i d h)
    ∙ ap (λ (d : Dimension). out ++ (place_statements name k d d.terms ++ places_from name (suc k) (drop (i + 1) ds))) (sym is)
    ∙ sym (append_assoc out (place_statements name k d d.terms) (places_from name (suc k) (drop (i + 1) ds)))

pub places_end : (name : ℕ → Name) (ds : List Dimension) (i k : ℕ) (out total : List Stmt) → length ds ≤ i → total ≡ out ++ places_from name k (drop i ds) → out ≡ total
places_end name ds i k out total h so = sym (so ∙ ap (λ ds. out ++ places_from name k ds) (drop_all i ds h) ∙ append-nil out)

-- ---- the accesses
module _ (name : ℕ → Name) where
  named_cons : (k : ℕ) (d : Dimension) (ds : List Dimension) → named (begins_from name k (d ∷ ds)) ≡ named_one name k d ++ named (begins_from name (suc k) ds)
  named_cons k d ds = by d.terms
    where
      by : (ts : List (Name × ℤ)) → named (begin name k d ts ∷ begins_from name (suc k) ds) ≡ (if has_none ts then [] else place_name name k ∷ []) ++ named (begins_from name (suc k) ds)
      by [] = refl
      by (t ∷ ts) = refl

  turn_cons : (turn m k : ℕ) (d : Dimension) (ds : List Dimension) → turn_places turn m (begins_from name k (d ∷ ds)) ≡ turn_place turn m d ∷ turn_places (suc turn) (behind_one m d) (begins_from name (suc k) ds)
  turn_cons turn m k d ds = by d.terms
    where
      by : (ts : List (Name × ℤ)) → turn_places turn m (begin name k d ts ∷ begins_from name (suc k) ds)
          ≡ (if has_none ts then plus (Dim turn) (fixed_place d) else Add (Dim turn) (Dim m)) ∷ turn_places (suc turn) (if has_none ts then m else suc m) (begins_from name (suc k) ds)
      by [] = refl
      by (t ∷ ts) = refl

  place_cons : (m k : ℕ) (d : Dimension) (ds : List Dimension) → place_exprs m (begins_from name k (d ∷ ds)) ≡ place_expr m d ∷ place_exprs (behind_one m d) (begins_from name (suc k) ds)
  place_cons m k d ds = by d.terms
    where
      by : (ts : List (Name × ℤ)) → place_exprs m (begin name k d ts ∷ begins_from name (suc k) ds)
          ≡ (if has_none ts then Const (fixed_place d) else Dim m) ∷ place_exprs (if has_none ts then m else suc m) (begins_from name (suc k) ds)
      by [] = refl
      by (t ∷ ts) = refl

  pub named_step : (ds : List Dimension) (i k : ℕ) (d : Dimension) (out total : List Name) → i < length ds → d ≡ get_or ds i d
      → total ≡ out ++ named (begins_from name k (drop i ds)) → total ≡ (out ++ named_one name k d) ++ named (begins_from name (suc k) (drop (i + 1) ds))
  named_step ds i k d out total h is so =
      so ∙ ap (λ ds. out ++ named (begins_from name k ds)) (drop_more ds i d h)
      ∙ ap (λ (d : Dimension). out ++ named (begins_from name k (d ∷ drop (i + 1) ds))) (sym is)
      ∙ ap (λ ns. out ++ ns) (named_cons k d (drop (i + 1) ds))
      ∙ sym (append_assoc out (named_one name k d) (named (begins_from name (suc k) (drop (i + 1) ds))))

  pub named_end : (ds : List Dimension) (i k : ℕ) (out total : List Name) → length ds ≤ i → total ≡ out ++ named (begins_from name k (drop i ds)) → out ≡ total
  named_end ds i k out total h so = sym (so ∙ ap (λ ds. out ++ named (begins_from name k ds)) (drop_all i ds h) ∙ append-nil out)

  pub turn_step : (ds : List Dimension) (i turn m k : ℕ) (d : Dimension) (out total : List Expr) → i < length ds → d ≡ get_or ds i d
      → total ≡ out ++ turn_places turn m (begins_from name k (drop i ds)) → total ≡ (out ++ turn_place turn m d ∷ []) ++ turn_places (suc turn) (behind_one m d) (begins_from name (suc k) (drop (i + 1) ds))
  turn_step ds i turn m k d out total h is so =
      so ∙ ap (λ ds. out ++ turn_places turn m (begins_from name k ds)) (drop_more ds i d h)
      ∙ ap (λ (d : Dimension). out ++ turn_places turn m (begins_from name k (d ∷ drop (i + 1) ds))) (sym is)
      ∙ ap (λ es. out ++ es) (turn_cons turn m k d (drop (i + 1) ds))
      ∙ sym (append_assoc out (turn_place turn m d ∷ []) (turn_places (suc turn) (behind_one m d) (begins_from name (suc k) (drop (i + 1) ds))))

  pub turn_end : (ds : List Dimension) (i turn m k : ℕ) (out total : List Expr) → length ds ≤ i → total ≡ out ++ turn_places turn m (begins_from name k (drop i ds)) → out ≡ total
  turn_end ds i turn m k out total h so = sym (so ∙ ap (λ ds. out ++ turn_places turn m (begins_from name k ds)) (drop_all i ds h) ∙ append-nil out)

  pub place_step : (ds : List Dimension) (i m k : ℕ) (d : Dimension) (out total : List Expr) → i < length ds → d ≡ get_or ds i d
      → total ≡ out ++ place_exprs m (begins_from name k (drop i ds)) → total ≡ (out ++ place_expr m d ∷ []) ++ place_exprs (behind_one m d) (begins_from name (suc k) (drop (i + 1) ds))
  place_step ds i m k d out total h is so =
      so ∙ ap (λ ds. out ++ place_exprs m (begins_from name k ds)) (drop_more ds i d h)
      ∙ ap (λ (d : Dimension). out ++ place_exprs m (begins_from name k (d ∷ drop (i + 1) ds))) (sym is)
      ∙ ap (λ es. out ++ es) (place_cons m k d (drop (i + 1) ds))
      ∙ sym (append_assoc out (place_expr m d ∷ []) (place_exprs (behind_one m d) (begins_from name (suc k) (drop (i + 1) ds))))

  pub place_end : (ds : List Dimension) (i m k : ℕ) (out total : List Expr) → length ds ≤ i → total ≡ out ++ place_exprs m (begins_from name k (drop i ds)) → out ≡ total
  place_end ds i m k out total h so = sym (so ∙ ap (λ ds. out ++ place_exprs m (begins_from name k ds)) (drop_all i ds h) ∙ append-nil out)

pub sizes_step : (ds : List Dimension) (i : ℕ) (d : Dimension) (out total : List ℕ) → i < length ds → d ≡ get_or ds i d
    → total ≡ out ++ dim_sizes (drop i ds) → total ≡ (out ++ d.size ∷ []) ++ dim_sizes (drop (i + 1) ds)
sizes_step ds i d out total h is so =
    so ∙ ap (λ ds. out ++ dim_sizes ds) (drop_more ds i d h) ∙ ap (λ (d : Dimension). out ++ d.size ∷ dim_sizes (drop (i + 1) ds)) (sym is) ∙ sym (append_assoc out (d.size ∷ []) (dim_sizes (drop (i + 1) ds)))

pub sizes_end : (ds : List Dimension) (i : ℕ) (out total : List ℕ) → length ds ≤ i → total ≡ out ++ dim_sizes (drop i ds) → out ≡ total
sizes_end ds i out total h so = sym (so ∙ ap (λ ds. out ++ dim_sizes ds) (drop_all i ds h) ∙ append-nil out)

pub extents_step : (ds : List Dimension) (i : ℕ) (d : Dimension) (out total : List ℕ) → i < length ds → d ≡ get_or ds i d
    → total ≡ out ++ dim_extents (drop i ds) → total ≡ (out ++ d.extent ∷ []) ++ dim_extents (drop (i + 1) ds)
extents_step ds i d out total h is so =
    so ∙ ap (λ ds. out ++ dim_extents ds) (drop_more ds i d h) ∙ ap (λ (d : Dimension). out ++ d.extent ∷ dim_extents (drop (i + 1) ds)) (sym is) ∙ sym (append_assoc out (d.extent ∷ []) (dim_extents (drop (i + 1) ds)))

pub extents_end : (ds : List Dimension) (i : ℕ) (out total : List ℕ) → length ds ≤ i → total ≡ out ++ dim_extents (drop i ds) → out ≡ total
extents_end ds i out total h so = sym (so ∙ ap (λ ds. out ++ dim_extents ds) (drop_all i ds h) ∙ append-nil out)

pub long_begins : (name : ℕ → Name) (k : ℕ) (ds : List Dimension) → length (begins_from name k ds) ≡ length ds
long_begins name k [] = refl
long_begins name k (d ∷ ds) = ap suc (long_begins name (suc k) ds)
