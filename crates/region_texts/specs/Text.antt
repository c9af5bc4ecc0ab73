-- The spelling of a box at each turn, or of the cause for which there is none.
use Rattle.std.specs.Prelude.{ℕ, ℤ, pos, neg_ℤ, Bool, true, false, if◌then◌else◌, nat_eq, int_lt, unsigned_abs, List, [], ◌∷◌, ◌++◌, codes}
use Rattle.std.specs.Fmt.{decimal, signed_decimal}
use Rattle.std.specs.Ordering.{int_eq}
use Rattle.affine_ast.specs.declared.name.Name.{Name}
use Rattle.affine_ast.specs.Spelling.{name_text}
use Rattle.nest_domain.specs.Boxes.{Dimension}

-- a variable times a number
unfoldable pub sized_text : Name → ℕ → List ℕ
sized_text n size = if nat_eq size 1 then name_text n else name_text n ++ (codes " * " ++ decimal size)

-- the first term, whose number may be negative
unfoldable pub first_text : Name → ℤ → List ℕ
first_text n a =
    if int_eq a (pos 1) then name_text n else (if int_eq a (neg_ℤ (pos 1)) then codes "-" ++ name_text n else name_text n ++ (codes " * " ++ signed_decimal a))

abbrev pub sign_text : ℤ → List ℕ
sign_text a = if int_lt a (pos 0) then codes " - " else codes " + "

-- a further one, by the size of its number
unfoldable pub further_text : Name → ℤ → List ℕ
further_text n a = sign_text a ++ sized_text n (unsigned_abs a)

-- the constant behind terms
unfoldable pub constant_text : ℤ → List ℕ
constant_text k = if int_eq k (pos 0) then [] else sign_text k ++ decimal (unsigned_abs k)

-- a term, behind others or as the first; none where the number is 0
unfoldable pub term_text : Bool → Name → ℤ → List ℕ
term_text begun n a = if int_eq a (pos 0) then [] else (if begun then further_text n a else first_text n a)

-- whether a term stands, where one stood or not before
abbrev pub stands_behind : Bool → ℤ → Bool
stands_behind begun a = if int_eq a (pos 0) then begun else true

-- the constant; by itself where no term stands
abbrev pub end_text : Bool → ℤ → List ℕ
end_text true k = constant_text k
end_text false k = signed_decimal k

unfoldable pub place_from : Bool → List Name → List ℤ → ℤ → List ℕ
place_from begun names [] k = end_text begun k
place_from begun [] (a ∷ cs) k = end_text begun k
place_from begun (n ∷ names) (a ∷ cs) k = term_text begun n a ++ place_from (stands_behind begun a) names cs k

-- a combination of variables and a constant: its terms in order and then the constant; the constant alone where there is no term
abbrev pub place_text : List Name → List ℤ → ℤ → List ℕ
place_text = place_from false

abbrev pub clamped_text : Bool → List ℕ
clamped_text true = codes " clamped"
clamped_text false = []

-- one dimension: where it begins, before it is moved into the memref, and how many numbers it has
unfoldable pub dimension_text : List Name → Dimension → List ℕ
dimension_text names d = codes "(" ++ (place_text names d.coefs d.offset ++ (codes ")+" ++ (signed_decimal d.extent ++ clamped_text d.clamped)))

unfoldable pub further_dimensions : List Name → List Dimension → List ℕ
further_dimensions names [] = []
further_dimensions names (d ∷ ds) = codes " x " ++ (dimension_text names d ++ further_dimensions names ds)

-- a box; that of a memref without dimensions is `()`
unfoldable pub box_text : List Name → List Dimension → List ℕ
box_text names [] = codes "()"
box_text names (d ∷ ds) = dimension_text names d ++ further_dimensions names ds
