-- The lines of blocks, piece by piece.
use Rattle.std.proofs.Common.{◌≡◌, ℕ, zero, suc, ◌+◌, ◌<◌, ◌≤◌, List, [], ◌∷◌, ◌++◌, length, map, drop, get_or, Result, refl, sym, ap, ◌∙◌, arith, append_assoc, append-nil}
use Rattle.std.specs.Prelude.{codes}
use Rattle.std.specs.List.{flat_map}
use Rattle.affine_ast.specs.declared.module.Arg.{Arg}
use Rattle.affine_ast.specs.declared.module.Module.{Module}
use Rattle.affine_ast.specs.declared.name.Name.{Name}
use Rattle.affine_ast.specs.declared.stmt.Stmt.{Stmt}
use Rattle.affine_ast.specs.Nest.{nest}
use Rattle.nest_domain.specs.declared.step.Step.{Step}
use Rattle.nest_domain.specs.Boxes.{Dimension}
use Rattle.nest_domain.specs.Steps.{header_of}
use Rattle.nest_domain.specs.Ways.{Header, Round}
use Rattle.access_region.specs.Faults.{NoRegion}
use Rattle.text_places.specs.declared.blocks.FoundBlock.{FoundBlock}
use Rattle.text_places.specs.declared.memrefs.Named.{Named}
use Rattle.text_places.specs.Blocks.{Block, blocks, accessed}
use Rattle.text_places.specs.Finding.{block_of, named}
use Rattle.module_regions.specs.Lines.{RegionLine, outer_in, found_in, line_of, block_lines, lines_from, region_lines, regions_text, found_text, head_text, line_text}

-- ---- one line
pub line_made : (number line : ℕ) (m : Name) (names : List Name) (found : Result (List Dimension) NoRegion) (out0 out1 out2 out3 : List ℕ)
    → out1 ≡ out0 ++ head_text number line m → out2 ≡ out1 ++ found_text names found → out3 ≡ out2 ++ codes "\n"
    → out3 ≡ out0 ++ line_text (record { block = number; line = line; memref = m; outer = names; found = found })
unfolding line_text
line_made number line m names found out0 out1 out2 out3 p q r =
    r
    ∙ ap (λ x. x ++ codes "\n") (q ∙ ap (λ x. x ++ found_text names found) p)
    ∙ append_assoc (out0 ++ head_text number line m) (found_text names found) (codes "\n")
    ∙ append_assoc out0 (head_text number line m) (found_text names found ++ codes "\n")

-- ---- one after the other
drop_suc : {A : Type 0} (xs : List A) (i : ℕ) (x : A) → i < length xs → x ≡ get_or xs i x → drop i xs ≡ x ∷ drop (suc i) xs
drop_suc [] i x h e = absurd (omega (arith, h))
drop_suc (y ∷ xs) zero x h e = ap (λ z. z ∷ xs) (sym e)
drop_suc (y ∷ xs) (suc i) x h e = drop_suc xs i x (omega (arith, h)) e

pub drop_next : {A : Type 0} (xs : List A) (i : ℕ) (x : A) → i < length xs → x ≡ get_or xs i x → drop i xs ≡ x ∷ drop (i + 1) xs
drop_next xs i x h e = drop_suc xs i x h e ∙ ap (λ k. x ∷ drop k xs) (one i)
  where
    one : (i : ℕ) → suc i ≡ i + 1
    one i = omega arith

pub drop_over : {A : Type 0} (xs : List A) (i : ℕ) → length xs ≤ i → drop i xs ≡ []
drop_over [] zero h = refl
drop_over [] (suc i) h = refl
drop_over (x ∷ xs) zero h = absurd (omega (arith, h))
drop_over (x ∷ xs) (suc i) h = drop_over xs i (omega (arith, h))

flat_map-append : {A : Type 0} (text : A → List ℕ) (xs ys : List A) → flat_map text (xs ++ ys) ≡ flat_map text xs ++ flat_map text ys
flat_map-append text [] ys = refl
flat_map-append text (x ∷ xs) ys = ap (λ l. text x ++ l) (flat_map-append text xs ys) ∙ sym (append_assoc (text x) (flat_map text xs) (flat_map text ys))

-- the text of lines
abbrev pub texts : List RegionLine → List ℕ
texts ls = flat_map line_text ls

-- ---- the lines of a block
abbrev pub memref_texts : List Arg → ℕ → Block → List Named → List ℕ
memref_texts args number b ms = texts (map (line_of args number b) (map named ms))

-- what stands so far of a block's lines, in front of those of the memrefs from number i on
pub record BlockSoFar (args : List Arg) (number : ℕ) (b : Block) (ms : List Named) (i : ℕ) (way : List Step) (out0 out : List ℕ) : Type 0 where
  pub memrefs : map named ms ≡ accessed b.body []
  pub inside : map header_of way ≡ b.way ++ Round b.var b.lower b.upper b.step ∷ []
  pub adds : out ++ memref_texts args number b (drop i ms) ≡ out0 ++ memref_texts args number b ms

pub block_begins : (args : List Arg) (number : ℕ) (b : Block) (ms : List Named) (way : List Step) (out : List ℕ) → map named ms ≡ accessed b.body [] → map header_of way ≡ b.way ++ Round b.var b.lower b.upper b.step ∷ []
    → BlockSoFar args number b ms 0 way out out
block_begins args number b ms way out m w = record { memrefs = m; inside = w; adds = refl }

pub block_goes_on : (args : List Arg) (number : ℕ) (b : Block) (ms : List Named) (i : ℕ) (m : Named) (names : List Name) (way way2 : List Step) (out0 out new : List ℕ) → i < length ms → m ≡ get_or ms i m
    → names ≡ outer_in args b → way2 ≡ way → new ≡ out ++ line_text (record { block = number; line = b.line; memref = named m; outer = names; found = found_in args b (named m) })
    → BlockSoFar args number b ms i way out0 out → BlockSoFar args number b ms (i + 1) way2 out0 new
block_goes_on args number b ms i m names way way2 out0 out new h is n w e so = record {
  memrefs = so.memrefs;
  inside = ap (map header_of) w ∙ so.inside;
  adds =
      ap (λ t. t ++ memref_texts args number b (drop (i + 1) ms)) (e ∙ ap (λ (ns : List Name). out ++ line_text (record { block = number; line = b.line; memref = named m; outer = ns; found = found_in args b (named m) })) n)
      ∙ append_assoc out (line_text (line_of args number b (named m))) (memref_texts args number b (drop (i + 1) ms))
      ∙ ap (λ l. out ++ memref_texts args number b l) (sym (drop_next ms i m h is))
      ∙ so.adds;
}

pub block_ends : (args : List Arg) (number : ℕ) (b : Block) (ms : List Named) (i : ℕ) (way : List Step) (out0 out : List ℕ) → length ms ≤ i → BlockSoFar args number b ms i way out0 out → out ≡ out0 ++ texts (block_lines args number b)
unfolding block_lines
block_ends args number b ms i way out0 out h so =
    sym (append-nil out) ∙ ap (λ l. out ++ memref_texts args number b l) (sym (drop_over ms i h)) ∙ so.adds ∙ ap (λ ns. out0 ++ texts (map (line_of args number b) ns)) so.memrefs

pub way_inside : (old new : List Step) (x : Step) (way : List Header) (h : Header) → map header_of old ≡ way → new ≡ old ++ x ∷ [] → header_of x ≡ h → map header_of new ≡ way ++ h ∷ []
way_inside old new x way h p e q = ap (map header_of) e ∙ map-append header_of old (x ∷ []) ∙ (λ i. p i ++ q i ∷ [])
  where
    map-append : {A B : Type 0} (f : A → B) (xs ys : List A) → map f (xs ++ ys) ≡ map f xs ++ map f ys
    map-append f [] ys = refl
    map-append f (x ∷ xs) ys = ap (λ l. f x ∷ l) (map-append f xs ys)

-- ---- the lines of blocks
abbrev pub blocks_texts : List Arg → ℕ → List FoundBlock → List ℕ
blocks_texts args number bs = texts (lines_from args number (map block_of bs))

one_block : (args : List Arg) (number : ℕ) (b : FoundBlock) (bs : List FoundBlock) → blocks_texts args number (b ∷ bs) ≡ texts (block_lines args number (block_of b)) ++ blocks_texts args (suc number) bs
unfolding lines_from
one_block args number b bs = flat_map-append line_text (block_lines args number (block_of b)) (lines_from args (suc number) (map block_of bs))

no_block : (args : List Arg) (number : ℕ) → blocks_texts args number [] ≡ []
unfolding lines_from
no_block args number = refl

pub blocks_go_on : (args : List Arg) (bs : List FoundBlock) (i : ℕ) (b : FoundBlock) (out0 out new : List ℕ) → i < length bs → b ≡ get_or bs i b → new ≡ out ++ texts (block_lines args i (block_of b))
    → out ++ blocks_texts args i (drop i bs) ≡ out0 ++ blocks_texts args 0 bs → new ++ blocks_texts args (i + 1) (drop (i + 1) bs) ≡ out0 ++ blocks_texts args 0 bs
blocks_go_on args bs i b out0 out new h is e inv =
    ap (λ t. t ++ blocks_texts args (i + 1) (drop (i + 1) bs)) e
    ∙ append_assoc out (texts (block_lines args i (block_of b))) (blocks_texts args (i + 1) (drop (i + 1) bs))
    ∙ ap (λ k. out ++ (texts (block_lines args i (block_of b)) ++ blocks_texts args k (drop (i + 1) bs))) (sym (one i))
    ∙ ap (λ t. out ++ t) (sym (one_block args i b (drop (i + 1) bs)))
    ∙ ap (λ l. out ++ blocks_texts args i l) (sym (drop_next bs i b h is))
    ∙ inv
  where
    one : (i : ℕ) → suc i ≡ i + 1
    one i = omega arith

pub blocks_end : (args : List Arg) (bs : List FoundBlock) (i : ℕ) (out0 out : List ℕ) → length bs ≤ i → out ++ blocks_texts args i (drop i bs) ≡ out0 ++ blocks_texts args 0 bs → out ≡ out0 ++ blocks_texts args 0 bs
blocks_end args bs i out0 out h inv = sym (append-nil out) ∙ ap (λ t. out ++ t) (sym (no_block args i)) ∙ ap (λ l. out ++ blocks_texts args i l) (sym (drop_over bs i h)) ∙ inv

-- ---- the lines of a module
pub lines_made : (m : Module) (depth : ℕ) (args : List Arg) (body : List Stmt) (bs : List FoundBlock) (out : List ℕ) → args ≡ m.args → body ≡ m.body → map block_of bs ≡ blocks depth (nest body) []
    → out ≡ [] ++ blocks_texts args 0 bs → out ≡ regions_text m depth
unfolding regions_text region_lines
lines_made m depth args body bs out a b f e =
    e ∙ ap (λ l. texts (lines_from args 0 l)) (f ∙ ap (λ l. blocks depth (nest l) []) b) ∙ ap (λ l. texts (lines_from l 0 (blocks depth (nest m.body) []))) a
