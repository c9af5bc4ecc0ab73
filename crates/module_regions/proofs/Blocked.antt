-- The blocks of a ready text are ready, and so are the accesses in them.
use Rattle.std.proofs.Common.{◌≡◌, ℕ, zero, suc, ◌<◌, List, [], ◌∷◌, ◌++◌, length, map, get_or, ap, sym, ◌∙◌, subst, arith}
use Rattle.constraint_set.specs.Lists.{Each}
use Rattle.constraint_set.proofs.Steps.{Each-append}
use Rattle.affine_ast.specs.Intervals.{Ranges}
use Rattle.affine_ast.specs.declared.module.Arg.{Arg}
use Rattle.affine_ast.specs.declared.module.Module.{Module}
use Rattle.affine_ast.specs.declared.name.Name.{Name}
use Rattle.affine_ast.specs.declared.stmt.Stmt.{Stmt}
use Rattle.affine_ast.specs.Nest.{Nest, Nothing, Loop, Branch, Does, nest}
use Rattle.affine_ast.specs.Validity.{IsValid}
use Rattle.direct_meaning.specs.Work.{start_ranges}
use Rattle.nest_domain.specs.Ways.{Header, Round, Given, Except, Behind, Past, Use}
use Rattle.nest_domain.specs.Ready.{Ready, ReadyNest, ranges_at_end}
use Rattle.access_region.specs.Finding.{ReadyUse, uses_in}
use Rattle.access_region.proofs.ReadyUses.{ends_with, ready_with, plain_header, uses_ready}
use Rattle.text_places.specs.declared.blocks.FoundBlock.{FoundBlock}
use Rattle.text_places.specs.Blocks.{Block, blocks}
use Rattle.text_places.specs.Finding.{block_of}
use Rattle.module_regions.specs.Ready.{ReadyBlock}
use Rattle.text_places.specs.Ready.{TextsAreReady}

pub blocks_ready : (rho : Ranges) (depth : ℕ) (n : Nest) (way : List Header) → Ready way rho → ReadyNest n (ranges_at_end way rho) → Each (ReadyBlock rho) (blocks depth n way)
unfolding blocks ReadyNest
blocks_ready rho zero Nothing way w r = tt
blocks_ready rho (suc depth) Nothing way w r = tt
blocks_ready rho zero (Loop line v l u s body rest) way w r = (
  record {
    outside = w;
    inside = ready_with way (Round v l u s) rho w (r.0, r.1, r.2);
    body = subst (ReadyNest body) (sym (ends_with way (Round v l u s) rho)) r.3;
  },
  blocks_ready rho zero rest (way ++ Past body ∷ []) (ready_with way (Past body) rho w tt) (subst (ReadyNest rest) (sym (ends_with way (Past body) rho)) r.4),
)
blocks_ready rho (suc depth) (Loop line v l u s body rest) way w r =
    Each-append (ReadyBlock rho) (blocks depth body (way ++ Round v l u s ∷ [])) (blocks (suc depth) rest (way ++ Past body ∷ []))
    (blocks_ready rho depth body (way ++ Round v l u s ∷ []) (ready_with way (Round v l u s) rho w (r.0, r.1, r.2)) (subst (ReadyNest body) (sym (ends_with way (Round v l u s) rho)) r.3))
    (blocks_ready rho (suc depth) rest (way ++ Past body ∷ []) (ready_with way (Past body) rho w tt) (subst (ReadyNest rest) (sym (ends_with way (Past body) rho)) r.4))
blocks_ready rho zero (Branch line set names first has other rest) way w r =
    let past = ready_with way (Past first) rho w tt in
    Each-append (ReadyBlock rho) (blocks zero first (way ++ Given set names ∷ [])) (blocks zero other (way ++ Except set names first ∷ []) ++ blocks zero rest ((way ++ Past first ∷ []) ++ Past other ∷ []))
    (blocks_ready rho zero first (way ++ Given set names ∷ []) (ready_with way (Given set names) rho w r.0) (subst (ReadyNest first) (sym (ends_with way (Given set names) rho)) r.1))
    (Each-append (ReadyBlock rho) (blocks zero other (way ++ Except set names first ∷ [])) (blocks zero rest ((way ++ Past first ∷ []) ++ Past other ∷ []))
    (blocks_ready rho zero other (way ++ Except set names first ∷ []) (ready_with way (Except set names first) rho w tt) (subst (ReadyNest other) (sym (ends_with way (Except set names first) rho)) r.2))
    (blocks_ready rho zero rest ((way ++ Past first ∷ []) ++ Past other ∷ []) (ready_with (way ++ Past first ∷ []) (Past other) rho past tt)
    (subst (ReadyNest rest) (sym (ends_with (way ++ Past first ∷ []) (Past other) rho)) (subst (ReadyNest rest) (sym (ends_with way (Past first) rho)) r.3))))
blocks_ready rho (suc depth) (Branch line set names first has other rest) way w r =
    let past = ready_with way (Past first) rho w tt in
    Each-append (ReadyBlock rho) (blocks (suc depth) first (way ++ Given set names ∷ [])) (blocks (suc depth) other (way ++ Except set names first ∷ []) ++ blocks (suc depth) rest ((way ++ Past first ∷ []) ++ Past other ∷ []))
    (blocks_ready rho (suc depth) first (way ++ Given set names ∷ []) (ready_with way (Given set names) rho w r.0) (subst (ReadyNest first) (sym (ends_with way (Given set names) rho)) r.1))
    (Each-append (ReadyBlock rho) (blocks (suc depth) other (way ++ Except set names first ∷ [])) (blocks (suc depth) rest ((way ++ Past first ∷ []) ++ Past other ∷ []))
    (blocks_ready rho (suc depth) other (way ++ Except set names first ∷ []) (ready_with way (Except set names first) rho w tt) (subst (ReadyNest other) (sym (ends_with way (Except set names first) rho)) r.2))
    (blocks_ready rho (suc depth) rest ((way ++ Past first ∷ []) ++ Past other ∷ []) (ready_with (way ++ Past first ∷ []) (Past other) rho past tt)
    (subst (ReadyNest rest) (sym (ends_with (way ++ Past first ∷ []) (Past other) rho)) (subst (ReadyNest rest) (sym (ends_with way (Past first) rho)) r.3))))
blocks_ready rho zero (Does line p rest) way w r =
    blocks_ready rho zero rest (way ++ Behind p ∷ []) (ready_with way (Behind p) rho w (plain_header (ranges_at_end way rho) p r.0)) (subst (ReadyNest rest) (sym (ends_with way (Behind p) rho)) r.1)
blocks_ready rho (suc depth) (Does line p rest) way w r =
    blocks_ready rho (suc depth) rest (way ++ Behind p ∷ []) (ready_with way (Behind p) rho w (plain_header (ranges_at_end way rho) p r.0)) (subst (ReadyNest rest) (sym (ends_with way (Behind p) rho)) r.1)

nothing_behind : (rho : Ranges) → Ready [] rho
unfolding Ready
nothing_behind rho = tt

-- the blocks of a valid module
pub found_ready : TextsAreReady → (m : Module) (args : List Arg) (body : List Stmt) (bs : List FoundBlock) (depth : ℕ) → IsValid m → args ≡ m.args → body ≡ m.body → map block_of bs ≡ blocks depth (nest body) []
    → Each (ReadyBlock (start_ranges args)) (map block_of bs)
found_ready ready m args body bs depth v a b f =
    subst (λ (l : List Block). Each (ReadyBlock (start_ranges args)) l) (sym (f ∙ ap (λ l. blocks depth (nest l) []) b))
    (subst (λ (l : List Arg). Each (ReadyBlock (start_ranges l)) (blocks depth (nest m.body) [])) (sym a) (blocks_ready (start_ranges m.args) depth (nest m.body) [] (nothing_behind (start_ranges m.args)) (ready m v)))

pub block_ready_at : (P : Block → Type 0) (bs : List FoundBlock) (i : ℕ) (b : FoundBlock) → i < length bs → b ≡ get_or bs i b → Each P (map block_of bs) → P (block_of b)
block_ready_at P [] i b h e r = absurd (omega (arith, h))
block_ready_at P (c ∷ bs) zero b h e r = subst (λ (x : FoundBlock). P (block_of x)) (sym e) r.0
block_ready_at P (c ∷ bs) (suc i) b h e r = block_ready_at P bs i b (omega (arith, h)) e r.1

-- the accesses in a ready block
pub block_uses_ready : (rho : Ranges) (b : Block) (m : Name) (us : List Use) → ReadyBlock rho b → us ≡ uses_in m b → Each (ReadyUse rho) us
block_uses_ready rho b m us r e =
    subst (λ (l : List Use). Each (ReadyUse rho) l) (sym e) (uses_ready rho m b.body (b.way ++ Round b.var b.lower b.upper b.step ∷ []) r.inside r.body)
