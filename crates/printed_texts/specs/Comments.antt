-- Lines of comments before a text.
use Rattle.std.specs.Prelude.{◌≡◌, ℕ, List, ◌++◌, codes, All}
use Rattle.std.specs.List.{flat_map}

-- words without a line feed
abbrev pub AreOnOneLine : List ℕ → Type 0
AreOnOneLine words = All (λ b. ¬ (b ≡ 10)) words

-- each of the words is a comment on a line of its own
abbrev pub comment_lines : List (List ℕ) → List ℕ
comment_lines comments = flat_map (λ words. codes "//" ++ (words ++ codes "\n")) comments
