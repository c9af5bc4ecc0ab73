-- The limits of a text as sums over its statements.
use Rattle.std.specs.Prelude.{◌≡◌, ℕ, suc, ◌+◌, Bool, true, ◌&&◌, nat_le, List}
use Rattle.std.specs.List.{list_all}
use Rattle.affine_ast.specs.declared.module.Arg.{Arg}
use Rattle.affine_ast.specs.Nest.{Plain, Nest, Nothing, Loop, Branch, Does, Alloc}
use Rattle.affine_ast.specs.Parts.{maps_of}
use Rattle.affine_ast.specs.Rules.{shape_within}
use Rattle.affine_ast.specs.Scope.{tags_of}
use Rattle.affine_ast.specs.Sizes.{product}
use Rattle.plan_laws.specs.Limits.{access_fits, bound_fits, rows_fit, operands_in, keeps_limits}
use Rattle.text_limits.specs.declared.sums.Sums.{Sums}

abbrev pub statements_in : Nest → ℕ
statements_in Nothing = 0
statements_in (Loop line v l u s body rest) = suc (statements_in body + statements_in rest)
statements_in (Branch line set names first has other rest) = suc (statements_in first + (statements_in other + statements_in rest))
statements_in (Does line p rest) = suc (statements_in rest)

-- the elements of allocations, those of tags among them
abbrev pub elements_of : Plain → ℕ
elements_of (Alloc r ty) = product ty.sizes
elements_of p = 0

abbrev pub elements_in : Nest → ℕ
elements_in Nothing = 0
elements_in (Loop line v l u s body rest) = elements_in body + elements_in rest
elements_in (Branch line set names first has other rest) = elements_in first + (elements_in other + elements_in rest)
elements_in (Does line p rest) = elements_of p + elements_in rest

-- those of tags alone
abbrev pub tag_elements_of : Plain → ℕ
tag_elements_of (Alloc r ty) = tags_of ty.space (product ty.sizes)
tag_elements_of p = 0

abbrev pub tags_in : Nest → ℕ
tags_in Nothing = 0
tags_in (Loop line v l u s body rest) = tags_in body + tags_in rest
tags_in (Branch line set names first has other rest) = tags_in first + (tags_in other + tags_in rest)
tags_in (Does line p rest) = tag_elements_of p + tags_in rest

-- the shape of an allocation is one that there may be
abbrev pub shape_fits : Plain → Bool
shape_fits (Alloc r ty) = shape_within ty
shape_fits p = true

-- a statement stands in at most 16 loops and 16 conditions
abbrev pub is_shallow : ℕ → ℕ → Bool
is_shallow loops ifs = nat_le loops 16 && nat_le ifs 16

-- what a plain statement keeps to by itself
abbrev pub plain_fits : Plain → Bool
plain_fits p = shape_fits p && list_all access_fits (maps_of p)

-- each statement of a text by itself keeps to the limits, where so many loops and conditions stand round the text
abbrev pub each_fits : ℕ → ℕ → Nest → Bool
each_fits loops ifs Nothing = true
each_fits loops ifs (Loop line v l u s body rest) =
    (is_shallow loops ifs && (bound_fits l && bound_fits u)) && (each_fits (suc loops) ifs body && each_fits loops ifs rest)
each_fits loops ifs (Branch line set names first has other rest) =
    (is_shallow loops ifs && rows_fit set.rows) && (each_fits loops (suc ifs) first && (each_fits loops (suc ifs) other && each_fits loops ifs rest))
each_fits loops ifs (Does line p rest) = (is_shallow loops ifs && plain_fits p) && each_fits loops ifs rest

-- the sums of a text round which so many loops and conditions stand
abbrev pub sums_in : ℕ → ℕ → Nest → Sums
sums_in loops ifs n = record { statements = statements_in n; operands = operands_in n; elements = elements_in n; tags = tags_in n; fits = each_fits loops ifs n }

abbrev pub are_within : Sums → Bool
are_within t = t.fits && (nat_le t.operands 1048576 && (nat_le t.statements 65536 && (nat_le t.elements 16777216 && nat_le t.tags 65536)))

-- a text keeps to the limits where these sums do: those of each part that it begins with are no greater
abbrev pub LimitsAreSums : Type 0
LimitsAreSums = (args : List Arg) (n : Nest) → keeps_limits args n ≡ are_within (sums_in 0 0 n)
