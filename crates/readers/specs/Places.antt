-- The place at which a list of tokens that is no text is refused.
use Rattle.std.specs.Prelude.{◌≡◌, List, [], ◌∷◌, ◌++◌}
use Rattle.readers.specs.Languages.{Lang}

-- a viable prefix: some text of the language begins with these tokens
pub record IsViable {T A : Type 0} (L : Lang T A) (f : List T) : Type 0 where
  pub more : List T
  pub value : A
  pub spelled : L (f ++ more) value

-- The place of a refusal: the tokens before `rest` are a viable prefix, and with the first of `rest`
-- they are none. So it is the first token that can't stand where it stands; `rest` is empty where all
-- the tokens are a viable prefix.
pub record IsPlace {T A : Type 0} (L : Lang T A) (ts rest : List T) : Type 0 where
  pub front : List T
  pub parts : ts ≡ front ++ rest
  pub viable : IsViable L front
  pub dead : (t : T) (others : List T) → rest ≡ t ∷ others → IsViable L (front ++ t ∷ []) → ⊥
