-- Marked tokens, of which limits are asked.
use Rattle.std.proofs.Common.{◌≡◌, Bool, true, false, if◌then◌else◌, List, [], ◌∷◌, Option, Some, None, refl, ◌∙◌}
use Rattle.readers.specs.Readers.{Stop, Test, take_by}
use Rattle.readers.specs.Languages.{One}
use Rattle.readers.specs.Exactness.{Exact}
use Rattle.readers.specs.Limits.{Marked, free, all_counted, limited}
use Rattle.readers.proofs.Laws.{exact_take}

limited_free : {T A : Type 0} (full : Bool) (p : Marked T → Option A) (t : T) → limited full p (free t) ≡ p (free t)
limited_free true p t = refl
limited_free false p t = refl

-- one token, of which a limit is asked: also where the limit is reached a token that isn't counted stands
pub exact_limited : {T A : Type 0} {g : Test (Marked T)} (full : Bool) (p : Marked T → Option A) (t : T) (x : A) → p (free t) ≡ Some x → Exact g (One (limited full p)) (take_by (limited full p))
exact_limited full p t x e = exact_take (limited full p) (free t) x (limited_free full p t ∙ e)

-- what stands where a limit is asked stands where none is
pub limited_is : {T A : Type 0} (full : Bool) (p : Marked T → Option A) (t : Marked T) (x : A) → limited full p t ≡ Some x → p t ≡ Some x
limited_is false p t x h = h
limited_is true p t x h = by_mark t.counted h
  where
    by_mark : (b : Bool) → (if b then None else p t) ≡ Some x → p t ≡ Some x
    by_mark true e = cc
    by_mark false e = e

-- where the limit is reached a counted token stands nowhere
pub limited_full : {T A : Type 0} (p : Marked T → Option A) (ts : List T) → take_by (limited true p) (all_counted ts) ≡ Stop (all_counted ts)
limited_full p [] = refl
limited_full p (t ∷ ts) = refl

-- and where it isn't, no limit is asked
pub limited_open : {T A : Type 0} (full : Bool) (p : Marked T → Option A) (ts : List (Marked T)) → full ≡ false → take_by (limited full p) ts ≡ take_by p ts
limited_open false p [] h = refl
limited_open false p (t ∷ ts) h = refl
limited_open true p ts h = cc
