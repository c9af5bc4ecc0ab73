-- Readers: what a parser computes on a list of tokens. A reader decides by the next token alone, takes
-- tokens off the front, and never gives one back.
use Rattle.std.specs.Prelude.{ℕ, zero, suc, Bool, true, false, if◌then◌else◌, List, [], ◌∷◌, length, Option, Some, None}

-- The answer of a reader: a value and the tokens behind what was read, or the tokens from the refused
-- one on, of which there are none where the end of the list was refused.
pub data Step (T A : Type 0) : Type 0 where
  Got : A → List T → Step T A
  Stop : List T → Step T A

abbrev pub Reader : Type 0 → Type 0 → Type 0
Reader T A = List T → Step T A

-- a test of the next token, which is none at the end
abbrev pub Test : Type 0 → Type 0
Test T = Option T → Bool

-- the next token
abbrev pub head : {T : Type 0} → List T → Option T
head [] = None
head (t ∷ ts) = Some t

-- no token passes, and the end doesn't
abbrev pub never : {T : Type 0} → Test T
never t = false

-- each token passes, and the end doesn't
abbrev pub any_token : {T : Type 0} → Test T
any_token None = false
any_token (Some t) = true

-- the tokens whose class passes; the end has none
abbrev pub classed : {T C : Type 0} → (T → C) → (C → Bool) → Test T
classed class test None = false
classed class test (Some t) = test (class t)

-- a taker of the tokens that pass a test; they have no value
abbrev pub accept : {T : Type 0} → (T → Bool) → T → Option (Unit {0})
accept test t = if test t then Some tt else None

-- ---- the parts of readers

-- after a value the reader that it chooses, on the tokens behind it
abbrev pub and_then : {T A B : Type 0} → Step T A → (A → Reader T B) → Step T B
and_then (Got x rest) k = k x rest
and_then (Stop rest) k = Stop rest

-- one reader after the other, the second chosen by the value of the first
abbrev pub bind : {T A B : Type 0} → Reader T A → (A → Reader T B) → Reader T B
bind r k = λ ts. and_then (r ts) k

-- no token is taken
abbrev pub pure : {T A : Type 0} → A → Reader T A
pure x = λ ts. Got x ts

abbrev pub taken : {T A : Type 0} → Option A → List T → List T → Step T A
taken (Some x) ts rest = Got x rest
taken None ts rest = Stop ts

-- one token, whose value is given where it may stand here
abbrev pub take_by : {T A : Type 0} → (T → Option A) → Reader T A
take_by p [] = Stop []
take_by p (t ∷ ts) = taken (p t) (t ∷ ts) ts

-- the first reader where the next token passes the test, else the second
abbrev pub either : {T A : Type 0} → Test T → Reader T A → Reader T A → Reader T A
either test r q = λ ts. if test (head ts) then r ts else q ts

-- a reader that refuses the next token where it doesn't pass the test
abbrev pub when : {T A : Type 0} → Test T → Reader T A → Reader T A
when test r = λ ts. if test (head ts) then r ts else Stop ts

-- items as long as the next token begins one, with a bound on their number
abbrev pub turns : {T B : Type 0} → Test T → (B → Reader T B) → ℕ → B → Reader T B
turns goes item zero b = λ ts. if goes (head ts) then Stop ts else Got b ts
turns goes item (suc n) b = λ ts. if goes (head ts) then and_then (item b ts) (turns goes item n) else Got b ts

-- Items as long as the next token begins one. Each is read at the value that those before it gave, and
-- gives the next; there are no more items than tokens.
unfoldable pub many : {T B : Type 0} → Test T → (B → Reader T B) → B → Reader T B
many goes item b = λ ts. turns goes item (length ts) b ts

-- ---- shapes that grammars use again and again

-- a value made of what was read
abbrev pub giving : {T A B : Type 0} → Reader T A → (A → B) → Reader T B
giving r h = bind r (λ x. pure (h x))

-- a part that may be missing, with the value that stands for it then
abbrev pub optional : {T A : Type 0} → Test T → Reader T A → A → Reader T A
optional test r x = either test r (pure x)

-- a separator or operator, and what stands behind it
abbrev pub linked : {T B C : Type 0} → (B → T → Option C) → (B → C → Reader T B) → B → Reader T B
linked link next b = bind (take_by (link b)) (next b)

-- a first part, and as many linked ones as there are separators
abbrev pub chain : {T B C : Type 0} → Test T → Reader T B → (B → T → Option C) → (B → C → Reader T B) → Reader T B
chain goes first link next = bind first (many goes (linked link next))

-- so many items
abbrev pub times : {T B : Type 0} → ℕ → (B → Reader T B) → B → Reader T B
times zero item b = pure b
times (suc n) item b = bind (item b) (times n item)

-- so many items, with a separator between any two
abbrev pub exactly : {T B C : Type 0} → ℕ → (B → T → Option C) → (B → Reader T B) → B → Reader T B
exactly zero link item b = pure b
exactly (suc n) link item b = bind (item b) (times n (linked link (λ c _. item c)))

-- a part and the token that closes it
abbrev pub ended : {T A C : Type 0} → (T → Option C) → Reader T A → Reader T A
ended close r = bind r (λ x. bind (take_by close) (λ _. pure x))

-- a part between the token that opens it and the one that closes it
abbrev pub enclosed : {T A C D : Type 0} → (T → Option D) → (T → Option C) → Reader T A → Reader T A
enclosed opening close r = bind (take_by opening) (λ _. ended close r)

-- the closing token at once, or a part and then the closing token
abbrev pub listed : {T A C : Type 0} → Test T → (T → Option C) → A → Reader T A → Reader T A
listed is_close close empty r = either is_close (bind (take_by close) (λ _. pure empty)) (ended close r)
