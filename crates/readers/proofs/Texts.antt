-- Texts put together of texts: what a printer needs to show that what it writes is spelled.
use Rattle.std.proofs.Common.{◌≡◌, List, [], ◌∷◌, ◌++◌, Option, Some, refl, sym, ap, ◌∙◌, append_assoc, append-nil, inr}
use Rattle.readers.specs.Languages.{Lang, One, Both, Many, none, more, Giving, Optional, Chain, Ended, Enclosed}

-- one token
pub one_text : {T A : Type 0} (p : T → Option A) (t : T) (x : A) → p t ≡ Some x → One p (t ∷ []) x
one_text p t x h = record { token = t; alone = refl; accepted = h }

-- a text and one behind it
pub both_text : {T A B : Type 0} {L : Lang T A} {K : A → Lang T B} (f g : List T) (x : A) (y : B) → L f x → K x g y → Both L K (f ++ g) y
both_text f g x y l k = record { value = x; left = f; right = g; parts = refl; first = l; second = k }

-- a token and a text behind it
pub token_text : {T A B : Type 0} {p : T → Option A} {K : A → Lang T B} (t : T) (g : List T) (x : A) (y : B) → p t ≡ Some x → K x g y → Both (One p) K (t ∷ g) y
token_text {p = p} t g x y h k = both_text (t ∷ []) g x y (one_text p t x h) k

-- a value made of what is spelled
pub giving_text : {T A B : Type 0} {L : Lang T A} (h : A → B) (f : List T) (x : A) → L f x → Giving L h f (h x)
giving_text h f x l = record { value = x; left = f; right = []; parts = sym (append-nil f); first = l; second = (refl, refl) }

-- an optional part that is missing
pub missing_text : {T A : Type 0} (L : Lang T A) (x : A) → Optional L x [] x
missing_text L x = inr (refl, refl)

-- items, and one more behind them
pub many_snoc : {T B : Type 0} {L : B → Lang T B} (b c d : B) (f g : List T) → Many L b f c → L c g d → Many L b (f ++ g) d
many_snoc b c d f g (none _ _ p) l = more b d d (f ++ g) g [] (ap (λ m. m ++ g) p ∙ sym (append-nil g)) l (none d [] refl)
many_snoc b c d f g (more _ e _ _ h k p i m) l = more b e d (f ++ g) h (k ++ g) (ap (λ n. n ++ g) p ∙ append_assoc h k g) i (many_snoc e c d k g m l)

-- a chain of its first part alone
pub chain_one : {T B C : Type 0} {F : Lang T B} {link : B → T → Option C} {L : B → C → Lang T B} (f : List T) (b : B) → F f b → Chain F link L f b
chain_one f b l = record { value = b; left = f; right = []; parts = sym (append-nil f); first = l; second = none b [] refl }

-- a chain, and one more linked part behind it
pub chain_more : {T B C : Type 0} {F : Lang T B} {link : B → T → Option C} {L : B → C → Lang T B} (f : List T) (t : T) (g : List T) (b c : B) (y : C) → Chain F link L f b → link b t ≡ Some y → L b y g c → Chain F link L (f ++ t ∷ g) c
chain_more f t g b c y k h l = record {
  value = k.value;
  left = k.left;
  right = k.right ++ t ∷ g;
  parts = ap (λ m. m ++ t ∷ g) k.parts ∙ append_assoc k.left k.right (t ∷ g);
  first = k.first;
  second = many_snoc k.value b c k.right (t ∷ g) k.second (token_text t g y c h l);
}

-- a part and the token that closes it
pub ended_text : {T A C : Type 0} {close : T → Option C} {L : Lang T A} (f : List T) (t : T) (x : A) (y : C) → L f x → close t ≡ Some y → Ended close L (f ++ t ∷ []) x
ended_text f t x y l h = both_text f (t ∷ []) x x l (token_text t [] y x h (refl, refl))

-- a part between the token that opens it and the one that closes it
pub enclosed_text : {T A C D : Type 0} {opening : T → Option D} {close : T → Option C} {L : Lang T A} (o : T) (f : List T) (t : T) (x : A) (z : D) (y : C) → opening o ≡ Some z → L f x → close t ≡ Some y → Enclosed opening close L (o ∷ (f ++ t ∷ [])) x
enclosed_text o f t x z y k l h = token_text o (f ++ t ∷ []) z x k (ended_text f t x y l h)
