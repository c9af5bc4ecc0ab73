-- Look-ups of names in lists.
use Rattle.std.proofs.Common.{◌≡◌, ℕ, suc, map, Bool, true, false, ◌||◌, if◌then◌else◌, List, [], ◌∷◌, ◌++◌, Option, Some, None, refl, ap}
use Rattle.std.specs.Str.{bytes_eq}
use Rattle.affine_ast.specs.declared.name.Name.{Name}
use Rattle.std.specs.Option.{option_map}
use Rattle.name_table.specs.Numbers.{place_of, first_named}
use Rattle.affine_grammar.specs.declared.words.Alias.{Alias}
use Rattle.affine_grammar.specs.Token.{number_of, alias_in, is_there, next}

-- the number of a name is the place at which its text stands first
pub number_by_place : (w : List ℕ) (names : List Name) → place_of w (map (λ (n : Name). n.text) names) ≡ number_of w names
number_by_place w [] = refl
number_by_place w (n ∷ names) = ap (λ o. if bytes_eq n.text w then Some 0 else o) (behind (place_of w (map (λ (n : Name). n.text) names)) (number_of w names) (number_by_place w names))
  where
    behind : (o p : Option ℕ) → o ≡ p → option_map suc o ≡ next p
    behind (Some i) (Some j) h = cc
    behind (Some i) None h = cc
    behind None (Some j) h = cc
    behind None None h = refl

-- the alias of a name is the first one with this name
pub alias_by_name : (w : List ℕ) (aliases : List Alias) → first_named (λ (a : Alias). a.name) w aliases ≡ alias_in w aliases
alias_by_name w [] = refl
alias_by_name w (a ∷ aliases) = ap (λ o. if bytes_eq a.name w then Some a else o) (alias_by_name w aliases)

-- a name is in one of two lists
pub known_in_either : (w : List ℕ) (a b : List Name) → is_there (number_of w (a ++ b)) ≡ (is_there (number_of w a) || is_there (number_of w b))
known_in_either w [] b = refl
known_in_either w (n ∷ a) b = by_test (bytes_eq n.text w) (known_in_either w a b)
  where
    one : (o p : Option ℕ) (r : Bool) → is_there o ≡ (is_there p || r) → is_there (next o) ≡ (is_there (next p) || r)
    one None None r h = h
    one None (Some i) r h = h
    one (Some i) None r h = h
    one (Some i) (Some j) r h = h

    by_test : (v : Bool) → is_there (number_of w (a ++ b)) ≡ (is_there (number_of w a) || is_there (number_of w b)) → is_there (if v then Some 0 else next (number_of w (a ++ b))) ≡ (is_there (if v then Some 0 else next (number_of w a)) || is_there (number_of w b))
    by_test true h = refl
    by_test false h = one (number_of w (a ++ b)) (number_of w a) (is_there (number_of w b)) h
