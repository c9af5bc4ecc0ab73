-- The law: a cover is carried over.
use Rattle.std.proofs.Common.{◌≡◌, inl, inr, ℕ, ◌+◌, ◌<◌, sym, ap, ◌∙◌, subst, refl, arith, Bool, true, false}
use Rattle.std.specs.Prelude.{◌&&◌, nat_le, nat_lt, List}
use Rattle.affine_ast.specs.declared.name.Name.{Name}
use Rattle.affine_ast.specs.Nest.{Nest}
use Rattle.affine_ast.specs.Sizes.{product}
use Rattle.direct_meaning.specs.Actions.{actions}
use Rattle.direct_meaning.specs.Static.{Env}
use Rattle.boxes.specs.Boxes.{Side, cell}
use Rattle.boxes.proofs.Places.{cell_in}
use Rattle.placement_texts.specs.Boxes.{sizes_of, extents_of, LiesIn, HasElements, is_of}
use Rattle.placement_texts.specs.Law.{Alike}
use Rattle.placement_texts.specs.Labels.{Numbers}
use Rattle.placement_texts.specs.Regions.{OwnDims, spans_at}
use Rattle.placement_texts.specs.Spots.{Spot, found, staged_at, Fine, FineAt}
use Rattle.placement_texts.specs.Template.{Placement, dim_sizes}
use Rattle.placement_texts.proofs.Follows.{Follows}
use Rattle.placement_texts.proofs.Redirect.{sizes_at, lies_at}
use Rattle.staging_laws.specs.Joined.{places_in}
use Rattle.staging_laws.specs.Spared.{StoresAll}
use Rattle.staging_laws.proofs.AtLoops.{at_fine, at_both}
use Rattle.staging_laws.proofs.Cells.{is_box, sizes_volume, extents_count}
use Rattle.placement_covers.specs.Law.{Covered, Beside, CoverCarries}
use Rattle.placement_covers.proofs.Carries.{Stores, K, carried}

alike_follows : (own : Name → Bool) (new : Numbers) (e g : Env) → Alike own new e g → Follows own new 0 0 g e g
alike_follows own new e g a =
    let f = a.fasts in
    let t = a.tags in
    record { known = a.known; home = a.home; fasts = omega (arith, f); tags = omega (arith, t); made_known = λ n h. refl; made_home = λ n h. refl }

-- a place of one memref is none of one beside it
outside : (first at p : ℕ) (sizes : List ℕ) (first' : ℕ) (sizes' : List ℕ) → Beside first sizes first' sizes' → at < product sizes' → first' + at ≡ p → is_of first sizes p ≡ false
outside first at p sizes first' sizes' (inl k) less e = let t : nat_lt p (first + product sizes) ≡ false = grind (arith, less, k, e) in ap (λ x. nat_le first p && x) t ∙ and_false (nat_le first p)
  where
    and_false : (x : Bool) → (x && false) ≡ false
    and_false true = refl
    and_false false = refl
outside first at p sizes first' sizes' (inr k) less e = let t : nat_le first p ≡ false = grind (arith, less, k, e) in ap (λ x. x && nat_lt p (first + product sizes)) t

place_outside : (first : ℕ) (sizes : List ℕ) (first' : ℕ) (ss : List Side) → Beside first sizes first' (sizes_of ss) → LiesIn ss → HasElements ss → (k : ℕ) → k < product (extents_of ss) → is_of first sizes (places_in first' ss k) ≡ false
place_outside first sizes first' ss b lies some k less =
    outside first _ (places_in first' ss k) sizes first' (sizes_of ss) b
    (subst (λ n. cell ss k < n) (sym (sizes_volume ss)) (cell_in ss k (is_box ss lies some) (subst (λ n. k < n) (extents_count ss) less))) refl

module _ (p : Placement) (first : ℕ) (own : Name → Bool) (new : Numbers) (o : Placement) (order' first' : ℕ) (o_dims : OwnDims own o.dims) where
  -- of another memref
  with_places : Beside first (dim_sizes p.dims) first' (dim_sizes o.dims) → (t : Spot) (n : Nest) (e : Env) → FineAt o order' first' (found t n) n e → Covered o first' (found t n) n e → K own new o first' o_dims (λ q. is_of first (dim_sizes p.dims) q ≡ false) t n e
  with_places b t n e fine c =
      at_both (Fine o order' first') (λ loop e. StoresAll first' (spans_at e o.dims) (actions loop e)) (Stores own new o first' o_dims (λ q. is_of first (dim_sizes p.dims) q ≡ false))
      (λ loop e f s. record {
        stores = s;
        away = place_outside first (dim_sizes p.dims) first' (spans_at e o.dims) (subst (Beside first (dim_sizes p.dims) first') (sym (sizes_at e o.dims)) b) (lies_at e o.dims f.lie) f.elements;
      }) (found t n) n e (at_fine o order' first' (found t n) n e fine) c

  -- of any, at a loop apart
  with_none : (t : Spot) (n : Nest) (e : Env) → Covered o first' (found t n) n e → K own new o first' o_dims (λ q. Unit {0}) t n e
  with_none t n e c =
      at_both (λ loop e. StoresAll first' (spans_at e o.dims) (actions loop e)) (λ loop e. StoresAll first' (spans_at e o.dims) (actions loop e)) (Stores own new o first' o_dims (λ q. Unit {0}))
      (λ loop e s k. record { stores = s; away = λ i less. tt }) (found t n) n e c c

  covers : (A : ℕ → Type 0) (t : Spot) (n : Nest) (e : Env) → K own new o first' o_dims A t n e → Covered o first' (found t n) n e
  covers A t n e k =
      at_both (Stores own new o first' o_dims A) (Stores own new o first' o_dims A) (λ loop e. StoresAll first' (spans_at e o.dims) (actions loop e)) (λ loop e s k. s.stores) (found t n) n e k k

pub cover_carries : CoverCarries
cover_carries own p order first new s n e g u line a tidy fine o order' first' t o_dims (inl two) o_fine c =
    covers p first own new o order' first' o_dims (λ q. is_of first (dim_sizes p.dims) q ≡ false) t (staged_at p s n) g
    (carried own p u.names order first new u.memref_own u.dims_own u.tags o first' o_dims (λ q. is_of first (dim_sizes p.dims) q ≡ false) t s n e g (inl (λ q h. h)) u.loop line u.text_own tidy fine u.fast u.tag (alike_follows own new e g a)
    (with_places p first own new o order' first' o_dims two.1 t n e o_fine c))
cover_carries own p order first new s n e g u line a tidy fine o order' first' t o_dims (inr apart) o_fine c =
    covers p first own new o order' first' o_dims (λ q. Unit {0}) t (staged_at p s n) g
    (carried own p u.names order first new u.memref_own u.dims_own u.tags o first' o_dims (λ q. Unit {0}) t s n e g (inr apart) u.loop line u.text_own tidy fine u.fast u.tag (alike_follows own new e g a)
    (with_none p first own new o order' first' o_dims t n e c))
