-- The loop of a block, as it is found.
use Rattle.std.proofs.Common.{◌≡◌, List, Some, sym, ap}
use Rattle.affine_ast.specs.Nest.{Nest, Nothing, Loop, Branch, Does}
use Rattle.nest_domain.specs.Accessing as accessing
use Rattle.nest_domain.specs.Ways.{Header}
use Rattle.access_region.specs.Finding.{loop_in}
use Rattle.placement_regions.specs.Sites.{from_spot, alone, way_to}
use Rattle.placement_texts.specs.Spots.{Spot, IsLoop}
use Rattle.text_places.specs.Blocks.{Block}
use Rattle.plan_blocks.specs.Law.{of_block, of_place}
use Rattle.plan_laws.specs.Sites.{line_of}
use Rattle.hoisted_sites.specs.Sites.{StandsAt}
use Rattle.placed_sites.proofs.Standing.{from_loop}

pub line_found : (way : List Header) (here : Nest) (b : Block) → loop_in way here ≡ Some b → line_of here ≡ b.line
line_found way Nothing b e = absurd (let z : ⊥ = cc in z)
line_found way (Loop line v l u step body rest) b e =
    let same : record { way = way; line = line; var = v; lower = l; upper = u; step = step; body = body } ≡ b = cc in
    ap (λ x. x.line) same
line_found way (Branch line set names first has other rest) b e = absurd (let z : ⊥ = cc in z)
line_found way (Does line p rest) b e = absurd (let z : ⊥ = cc in z)

loop_found : (way : List Header) (here : Nest) (b : Block) → accessing.IsLoop here → b.way ≡ way → Loop b.line b.var b.lower b.upper b.step b.body Nothing ≡ alone here → loop_in way here ≡ Some b
loop_found way Nothing b h w e = absurd h
loop_found way (Loop line v l u step body rest) b h w e =
    let same : record { way = b.way; line = b.line; var = b.var; lower = b.lower; upper = b.upper; step = b.step; body = b.body } ≡ record { way = way; line = line; var = v; lower = l; upper = u; step = step; body = body } = cc in
    ap Some (sym same)
loop_found way (Branch line set names first has other rest) b h w e = absurd h
loop_found way (Does line p rest) b h w e = absurd h

pub block_stands : (n : Nest) (s : Spot) (b : Block) → IsLoop s n → of_block b ≡ of_place n s → StandsAt n s b
block_stands n s b h e = record { loop = h; is = loop_found (way_to s n) (from_spot s n) b (from_loop s n h) (ap (λ x. x.way) e) (ap (λ x. x.loop) e) }
