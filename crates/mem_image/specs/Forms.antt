-- The rules I1 to I4 of an image text, each as what it demands of the words of a line and of the argument in the line's place.
use Rattle.std.specs.Prelude.{ℕ, ◌-◌, ◌^◌, ℤ, pos, neg_ℤ, Bool, true, false, ◌&&◌, ◌||◌, List, [], ◌∷◌, map, drop, length, Option, Some, None, nat_eq, nat_lt, int_le, codes, ◌==◌}
use Rattle.std.specs.Char.{is_ascii_digit, is_ascii_alphabetic, is_ascii_alphanumeric}
use Rattle.std.specs.List.{list_all}
use Rattle.std.specs.Str.{bytes_eq}
use Rattle.num_row.specs.Decimals.{is_decimal, decimal_value}
use Rattle.affine_expr.specs.declared.map.Interval.{Interval}
use Rattle.affine_ast.specs.declared.module.Arg.{Arg}
use Rattle.affine_ast.specs.declared.module.ArgKind.{ArgKind}
use Rattle.affine_ast.specs.declared.module.ArgKind.TheVariants as kind
use Rattle.affine_ast.specs.Intervals.{range_or}
use Rattle.affine_ast.specs.Sizes.{element_bits, product}
use Rattle.affine_ast.specs.Validity.{rule}

-- ---- Arguments

-- the numbers of an argument: a memref's elements, or the one of an index argument
abbrev pub count_of : ArgKind → ℕ
count_of (kind.Memref ty) = product ty.sizes
count_of (kind.Index range) = 1

-- the signed range of so many bits
abbrev pub signed_range : ℕ → Interval
signed_range bits = record { least = neg_ℤ (pos (2 ^ (bits - 1))); greatest = pos (2 ^ (bits - 1) - 1) }

-- the least and the greatest number that an argument takes
abbrev pub range_of_kind : ArgKind → Interval
range_of_kind (kind.Memref ty) = signed_range (element_bits ty.element)
range_of_kind (kind.Index range) = range_or range

abbrev pub is_between : Interval → ℤ → Bool
is_between range z = int_le range.least z && int_le z range.greatest

-- ---- Words

-- what begins an id, and what goes on with one
abbrev pub begins_id : ℕ → Bool
begins_id b = is_ascii_alphabetic b || (b == 95 || (b == 36 || b == 46))

abbrev pub goes_on_id : ℕ → Bool
goes_on_id b = is_ascii_alphanumeric b || (b == 95 || (b == 36 || (b == 46 || b == 45)))

-- a letter, `_`, `$` or `.`, and then letters, digits, `_`, `$`, `.` and `-`
abbrev pub is_id : List ℕ → Bool
is_id [] = false
is_id (b ∷ bytes) = begins_id b && list_all goes_on_id bytes

abbrev pub is_digits : List ℕ → Bool
is_digits text = nat_lt 0 (length text) && list_all is_ascii_digit text

-- a name without its `%`: digits or an id
unfoldable pub is_name : List ℕ → Bool
is_name text = is_digits text || is_id text

unfoldable pub are_numbers : List (List ℕ) → Bool
are_numbers texts = nat_lt 0 (length texts) && list_all is_decimal texts

abbrev pub name_in : List (List ℕ) → List ℕ
name_in [] = []
name_in (name ∷ more) = name

-- the numbers of a line behind its name and `=`, as they are written and as they are
abbrev pub numbers_in : List (List ℕ) → List (List ℕ)
numbers_in line = drop 2 line

abbrev pub values_in : List (List ℕ) → List ℤ
values_in line = map decimal_value (numbers_in line)

-- ---- I1: the line is a name, `=` and one number or more, each an optional `-` and digits

unfoldable pub has_form : List (List ℕ) → Bool
has_form (name ∷ sign ∷ numbers) = is_name name && (bytes_eq sign (codes "=") && are_numbers numbers)
has_form line = false

-- ---- I2: the name is the next argument's, where one is left

abbrev pub is_next : Option Arg → List (List ℕ) → Bool
is_next None line = false
is_next (Some arg) line = bytes_eq (name_in line) arg.name.text

-- ---- I3: there are as many numbers as the argument has

abbrev pub has_count : Option Arg → List (List ℕ) → Bool
has_count None line = true
has_count (Some arg) line = nat_eq (length (numbers_in line)) (count_of arg.kind)

-- ---- I4: each number is in the element's signed range, or in the argument's range

unfoldable pub are_between : Interval → List (List ℕ) → Bool
are_between range texts = list_all (λ text. is_between range (decimal_value text)) texts

abbrev pub are_in_range : Option Arg → List (List ℕ) → Bool
are_in_range None line = true
are_in_range (Some arg) line = are_between (range_of_kind arg.kind) (numbers_in line)

-- the lowest rule that a line breaks, where the argument is the next one or none is left
unfoldable pub rule_of_line : Option Arg → List (List ℕ) → Option ℕ
rule_of_line arg line =
    rule 1 (has_form line) (
    rule 2 (is_next arg line) (
    rule 3 (has_count arg line) (
    rule 4 (are_in_range arg line) None)))
