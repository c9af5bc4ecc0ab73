-- Languages: which lists of tokens spell which values. A grammar is a language, put together by the
-- shapes below as its productions are; what its values depend on, as the names in scope or the number
-- of operands so far, is an argument of a production and part of the value of the one before.
use Rattle.std.specs.Prelude.{◌≡◌, ℕ, zero, suc, true, List, [], ◌∷◌, ◌++◌, Option, Some, ◌⊎◌}
use Rattle.readers.specs.Readers.{Test, head}

-- the tokens of the list, no more and no fewer, spell the value
abbrev pub Lang : Type 0 → Type 0 → Type 1
Lang T A = List T → A → Type 0

-- no token
abbrev pub Nothing : {T A : Type 0} → A → Lang T A
Nothing x f y = (f ≡ []) × (y ≡ x)

-- one token that may stand here, with its value
pub record One {T A : Type 0} (p : T → Option A) (f : List T) (x : A) : Type 0 where
  pub token : T
  pub alone : f ≡ token ∷ []
  pub accepted : p token ≡ Some x

-- a text of the first language, and a text of the one that its value chooses
pub record Both {T A B : Type 0} (L : Lang T A) (K : A → Lang T B) (f : List T) (y : B) : Type 0 where
  pub value : A
  pub left : List T
  pub right : List T
  pub parts : f ≡ left ++ right
  pub first : L left value
  pub second : K value right y

-- a text of one of two languages
abbrev pub Either : {T A : Type 0} → Lang T A → Lang T A → Lang T A
Either L K f x = L f x ⊎ K f x

-- a text whose first token passes a test
abbrev pub When : {T A : Type 0} → Test T → Lang T A → Lang T A
When test L f x = L f x × (test (head f) ≡ true)

-- any number of items one after the other, each spelled at the value that those before it gave
pub data Many {T B : Type 0} (L : B → Lang T B) : B → List T → B → Type 0 where
  none : (b : B) (f : List T) → f ≡ [] → Many L b f b
  more : (b c d : B) (f g h : List T) → f ≡ g ++ h → L b g c → Many L c h d → Many L b f d

-- ---- shapes that grammars use again and again

-- a value made of what the text spells
abbrev pub Giving : {T A B : Type 0} → Lang T A → (A → B) → Lang T B
Giving L h = Both L (λ x. Nothing (h x))

-- a part that may be missing, with the value that stands for it then
abbrev pub Optional : {T A : Type 0} → Lang T A → A → Lang T A
Optional L x = Either L (Nothing x)

-- a separator or operator, and what stands behind it
abbrev pub Linked : {T B C : Type 0} → (B → T → Option C) → (B → C → Lang T B) → B → Lang T B
Linked link next b = Both (One (link b)) (next b)

-- a first part, and any number of linked ones
abbrev pub Chain : {T B C : Type 0} → Lang T B → (B → T → Option C) → (B → C → Lang T B) → Lang T B
Chain first link next = Both first (Many (Linked link next))

-- so many items
abbrev pub Times : {T B : Type 0} → ℕ → (B → Lang T B) → B → Lang T B
Times zero item b = Nothing b
Times (suc n) item b = Both (item b) (Times n item)

-- so many items, with a separator between any two
abbrev pub Exactly : {T B C : Type 0} → ℕ → (B → T → Option C) → (B → Lang T B) → B → Lang T B
Exactly zero link item b = Nothing b
Exactly (suc n) link item b = Both (item b) (Times n (Linked link (λ c _. item c)))

-- a part and the token that closes it
abbrev pub Ended : {T A C : Type 0} → (T → Option C) → Lang T A → Lang T A
Ended close L = Both L (λ x. Both (One close) (λ _. Nothing x))

-- a part between the token that opens it and the one that closes it
abbrev pub Enclosed : {T A C D : Type 0} → (T → Option D) → (T → Option C) → Lang T A → Lang T A
Enclosed opening close L = Both (One opening) (λ _. Ended close L)

-- the closing token alone, or a part and then the closing token
abbrev pub Listed : {T A C : Type 0} → (T → Option C) → A → Lang T A → Lang T A
Listed close empty L = Either (Both (One close) (λ _. Nothing empty)) (Ended close L)
