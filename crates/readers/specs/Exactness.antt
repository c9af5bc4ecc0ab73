-- That a reader reads a language exactly: what it gives is spelled, what is spelled it gives, and what
-- it refuses stands behind a viable prefix.
use Rattle.std.specs.Prelude.{◌≡◌, Bool, true, false, List, [], ◌++◌, Option, None, ◌⊎◌}
use Rattle.readers.specs.Readers.{Step, Got, Stop, Reader, Test, head, never}
use Rattle.readers.specs.Languages.{Lang}
use Rattle.readers.specs.Places.{IsViable}

-- The tokens up to `rest` spell the value, and the reader gives it whatever stands behind them, as long
-- as the next token is the same.
pub record Read {T A : Type 0} (L : Lang T A) (r : Reader T A) (ts : List T) (x : A) (rest : List T) : Type 0 where
  pub front : List T
  pub parts : ts ≡ front ++ rest
  pub spelled : L front x
  pub again : (other : List T) → head other ≡ head rest → r (front ++ other) ≡ Got x other

-- The tokens up to `rest` are a viable prefix, or there are none of them, and the reader refuses the
-- next token whatever stands behind it.
pub record Refused {T A : Type 0} (L : Lang T A) (r : Reader T A) (ts : List T) (rest : List T) : Type 0 where
  pub front : List T
  pub parts : ts ≡ front ++ rest
  pub begun : (front ≡ []) ⊎ IsViable L front
  pub again : (other : List T) → head other ≡ head rest → r (front ++ other) ≡ Stop other

abbrev pub Told : {T A : Type 0} → Lang T A → Reader T A → List T → Step T A → Type 0
Told L r ts (Got x rest) = Read L r ts x rest
Told L r ts (Stop rest) = Refused L r ts rest

-- each answer of the reader is told in terms of the language
pub record Explained {T A : Type 0} (L : Lang T A) (r : Reader T A) : Type 0 where
  pub told : (ts : List T) → Told L r ts (r ts)

-- The reader gives each text of the language, unless the next token behind it passes `goes`: with those
-- tokens a text might go on, and its follow set may have none of them.
pub record Complete {T A : Type 0} (goes : Test T) (L : Lang T A) (r : Reader T A) : Type 0 where
  pub reads : (f w : List T) (x : A) → L f x → goes (head w) ≡ false → r (f ++ w) ≡ Got x w

-- the reader reads the language, which may have no text at all, as a use of a name where none is known
pub record Faithful {T A : Type 0} (goes : Test T) (L : Lang T A) (r : Reader T A) : Type 0 where
  pub explained : Explained L r
  pub complete : Complete goes L r

-- the language has a text (its production is productive)
pub record Inhabited {T A : Type 0} (L : Lang T A) : Type 0 where
  pub text : List T
  pub value : A
  pub spelled : L text value

-- the reader reads the language, and the language has a text
pub record Exact {T A : Type 0} (goes : Test T) (L : Lang T A) (r : Reader T A) : Type 0 where
  pub faithful : Faithful goes L r
  pub some : Inhabited L

-- Lookahead: where a text of the language stands, with a next token behind it that doesn't pass `goes`,
-- the first token is one at which the test gives `v`. With `never` for `goes`, each text has a first
-- token of its own, or the test gives `v` at every token.
pub record Ahead {T A : Type 0} (goes test : Test T) (v : Bool) (L : Lang T A) : Type 0 where
  pub sees : (f w : List T) (x : A) → L f x → goes (head w) ≡ false → test (head (f ++ w)) ≡ v

-- Items that can be read one after the other: each begins with a token that passes `goes`, which the end
-- doesn't, and none goes on with such a token; `stays` are those with which it might go on.
pub record Items {T B : Type 0} (goes stays : Test T) (L : B → Lang T B) (item : B → Reader T B) : Type 0 where
  pub ended : goes None ≡ false
  pub faithful : (b : B) → Faithful stays (L b) (item b)
  pub begin : (b : B) → Ahead never goes true (L b)
  pub apart : (t : Option T) → goes t ≡ true → stays t ≡ false
