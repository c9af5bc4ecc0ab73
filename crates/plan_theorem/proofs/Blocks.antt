-- The blocks of a text are loops apart, and each is found by its place in a text with lines.
use Rattle.std.proofs.Common.{◌≡◌, ℕ, zero, suc, List, ◌++◌, refl, ap}
use Rattle.std.specs.Prelude.{map}
use Rattle.affine_ast.specs.Nest.{Nest, Nothing, Loop, Branch, Does}
use Rattle.boxes.specs.Every.{Every}
use Rattle.placement_texts.specs.Spots.{Spot, Here, Behind, Inside, Other, IsLoop, HasLine, Disjoint, found}
use Rattle.plan_laws.specs.Sites.{loops_at, lined}
use Rattle.plan_laws.proofs.Sited.{every_append}
use Rattle.plan_theorem.proofs.Lists.{Pairwise, every_any, every_image, pairwise_append, pairwise_image, images_apart}

-- ---- places in a text with lines
pub found_lined : (s : Spot) (n : Nest) → IsLoop s n → found s (lined n) ≡ s
found_lined s Nothing h = absurd h
found_lined Here (Loop zero v l u step body rest) h = refl
found_lined Here (Loop (suc line) v l u step body rest) h = refl
found_lined (Behind s) (Loop zero v l u step body rest) h = ap Behind (found_lined s rest h)
found_lined (Behind s) (Loop (suc line) v l u step body rest) h = ap Behind (found_lined s rest h)
found_lined (Inside s) (Loop zero v l u step body rest) h = ap Inside (found_lined s body h)
found_lined (Inside s) (Loop (suc line) v l u step body rest) h = ap Inside (found_lined s body h)
found_lined (Other s) (Loop line v l u step body rest) h = absurd h
found_lined Here (Branch line set names first has other rest) h = absurd h
found_lined (Behind s) (Branch zero set names first has other rest) h = ap Behind (found_lined s rest h)
found_lined (Behind s) (Branch (suc line) set names first has other rest) h = ap Behind (found_lined s rest h)
found_lined (Inside s) (Branch zero set names first has other rest) h = ap Inside (found_lined s first h)
found_lined (Inside s) (Branch (suc line) set names first has other rest) h = ap Inside (found_lined s first h)
found_lined (Other s) (Branch zero set names first has other rest) h = ap Other (found_lined s other h)
found_lined (Other s) (Branch (suc line) set names first has other rest) h = ap Other (found_lined s other h)
found_lined Here (Does line q rest) h = absurd h
found_lined (Behind s) (Does zero q rest) h = ap Behind (found_lined s rest h)
found_lined (Behind s) (Does (suc line) q rest) h = ap Behind (found_lined s rest h)
found_lined (Inside s) (Does line q rest) h = absurd h
found_lined (Other s) (Does line q rest) h = absurd h

pub line_lined : (s : Spot) (n : Nest) → IsLoop s n → HasLine s (lined n)
line_lined s Nothing h = absurd h
line_lined Here (Loop zero v l u step body rest) h = tt
line_lined Here (Loop (suc line) v l u step body rest) h = tt
line_lined (Behind s) (Loop line v l u step body rest) h = line_lined s rest h
line_lined (Inside s) (Loop line v l u step body rest) h = line_lined s body h
line_lined (Other s) (Loop line v l u step body rest) h = absurd h
line_lined Here (Branch line set names first has other rest) h = absurd h
line_lined (Behind s) (Branch line set names first has other rest) h = line_lined s rest h
line_lined (Inside s) (Branch line set names first has other rest) h = line_lined s first h
line_lined (Other s) (Branch line set names first has other rest) h = line_lined s other h
line_lined Here (Does line q rest) h = absurd h
line_lined (Behind s) (Does line q rest) h = line_lined s rest h
line_lined (Inside s) (Does line q rest) h = absurd h
line_lined (Other s) (Does line q rest) h = absurd h

-- ---- blocks
abbrev pub Loops : Nest → List Spot → Type 0
Loops n ss = Every (λ s. IsLoop s n) ss

pub blocks_are_loops : (depth : ℕ) (n : Nest) → Loops n (loops_at depth n)
blocks_are_loops depth Nothing = tt
blocks_are_loops zero (Loop line v l u step body rest) = (tt, every_image (λ s. IsLoop s (Loop line v l u step body rest)) Behind (loops_at zero rest) (blocks_are_loops zero rest))
blocks_are_loops (suc depth) (Loop line v l u step body rest) =
    let n = Loop line v l u step body rest in
    every_append (λ s. IsLoop s n) (map Inside (loops_at depth body)) (map Behind (loops_at (suc depth) rest)) (every_image (λ s. IsLoop s n) Inside (loops_at depth body) (blocks_are_loops depth body))
    (every_image (λ s. IsLoop s n) Behind (loops_at (suc depth) rest) (blocks_are_loops (suc depth) rest))
blocks_are_loops depth (Branch line set names first has other rest) =
    let n = Branch line set names first has other rest in
    every_append (λ s. IsLoop s n) (map Inside (loops_at depth first)) (map Other (loops_at depth other) ++ map Behind (loops_at depth rest)) (every_image (λ s. IsLoop s n) Inside (loops_at depth first) (blocks_are_loops depth first))
    (every_append (λ s. IsLoop s n) (map Other (loops_at depth other)) (map Behind (loops_at depth rest)) (every_image (λ s. IsLoop s n) Other (loops_at depth other) (blocks_are_loops depth other))
    (every_image (λ s. IsLoop s n) Behind (loops_at depth rest) (blocks_are_loops depth rest)))
blocks_are_loops depth (Does line q rest) = every_image (λ s. IsLoop s (Does line q rest)) Behind (loops_at depth rest) (blocks_are_loops depth rest)

abbrev pub Apart : List Spot → Type 0
Apart ss = Pairwise Disjoint ss

under : (f : Spot → Spot) → ((s t : Spot) → Disjoint s t → Disjoint (f s) (f t)) → (ss : List Spot) → Apart ss → Apart (map f ss)
under f g ss h = pairwise_image Disjoint Disjoint f g ss h

-- two lists of places in different regions
beside : (f g : Spot → Spot) → ((s t : Spot) → Disjoint (f s) (g t)) → (ss ts : List Spot) → Apart (map f ss) → Apart (map g ts) → Apart (map f ss ++ map g ts)
beside f g h ss ts a b = pairwise_append Disjoint (map f ss) (map g ts) a b (images_apart Disjoint f g h ss ts)

pub blocks_are_apart : (depth : ℕ) (n : Nest) → Apart (loops_at depth n)
blocks_are_apart depth Nothing = tt
blocks_are_apart zero (Loop line v l u step body rest) =
    (every_image (Disjoint Here) Behind (loops_at zero rest) (every_any (λ s. Disjoint Here (Behind s)) (λ s. tt) (loops_at zero rest)), under Behind (λ s t h. h) (loops_at zero rest) (blocks_are_apart zero rest))
blocks_are_apart (suc depth) (Loop line v l u step body rest) =
    beside Inside Behind (λ s t. tt) (loops_at depth body) (loops_at (suc depth) rest) (under Inside (λ s t h. h) (loops_at depth body) (blocks_are_apart depth body)) (under Behind (λ s t h. h) (loops_at (suc depth) rest) (blocks_are_apart (suc depth) rest))
blocks_are_apart depth (Branch line set names first has other rest) =
    let ins = loops_at depth first in
    let others = loops_at depth other in
    let rests = loops_at depth rest in
    pairwise_append Disjoint (map Inside ins) (map Other others ++ map Behind rests) (under Inside (λ s t h. h) ins (blocks_are_apart depth first))
    (beside Other Behind (λ s t. tt) others rests (under Other (λ s t h. h) others (blocks_are_apart depth other)) (under Behind (λ s t h. h) rests (blocks_are_apart depth rest)))
    (every_image (λ s. Every (Disjoint s) (map Other others ++ map Behind rests)) Inside ins (every_any (λ s. Every (Disjoint (Inside s)) (map Other others ++ map Behind rests)) (λ s.
    every_append (Disjoint (Inside s)) (map Other others) (map Behind rests) (every_image (Disjoint (Inside s)) Other others (every_any (λ t. Disjoint (Inside s) (Other t)) (λ t. tt) others))
    (every_image (Disjoint (Inside s)) Behind rests (every_any (λ t. Disjoint (Inside s) (Behind t)) (λ t. tt) rests))) ins))
blocks_are_apart depth (Does line q rest) = under Behind (λ s t h. h) (loops_at depth rest) (blocks_are_apart depth rest)
