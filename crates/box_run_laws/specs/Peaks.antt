-- The greatest number of live bytes of a text: on a walk that enters every region once.
use Rattle.std.specs.Prelude.{◌≡◌, ℕ, ◌+◌, ◌-◌, max, ℤ, Bool, true, false, Option, Some, None, if◌then◌else◌}
use Rattle.affine_ast.specs.declared.types.MemrefType.{MemrefType}
use Rattle.affine_ast.specs.Nest.{Plain, Nest, Nothing, Loop, Branch, Does, Alloc, Dealloc}
use Rattle.direct_meaning.specs.Action.{Home, SlowMemref, FastMemref, TagMemref}
use Rattle.direct_meaning.specs.Static.{Env, knows}
use Rattle.direct_meaning.specs.Actions.{is_fast, after_plain, behind}
use Rattle.prompt_semantics.specs.Device.{bytes_of}

abbrev pub fast_bytes : MemrefType → ℕ
fast_bytes ty = if is_fast ty then bytes_of ty.element ty.sizes else 0

abbrev pub plain_live : Plain → ℕ → ℕ
plain_live (Alloc r ty) l = l + fast_bytes ty
plain_live (Dealloc m ty) l = l - fast_bytes ty
plain_live p l = l

-- the live bytes behind statements whose regions give back what they take
abbrev pub live_after : Nest → ℕ → ℕ
live_after Nothing l = l
live_after (Loop line v low high s body rest) l = live_after rest l
live_after (Branch line set names first has other rest) l = live_after rest l
live_after (Does line p rest) l = live_after rest (plain_live p l)

abbrev pub peak_of : Nest → ℕ → ℕ
peak_of Nothing l = l
peak_of (Loop line v low high s body rest) l = max (peak_of body l) (peak_of rest l)
peak_of (Branch line set names first has other rest) l = max (peak_of first l) (max (peak_of other l) (peak_of rest l))
peak_of (Does line p rest) l = max l (peak_of rest (plain_live p l))

-- a region gives back what it takes
abbrev pub IsEven : Nest → Type 0
IsEven body = (l : ℕ) → live_after body l ≡ l

abbrev pub AreEven : Nest → Type 0
AreEven Nothing = Unit {0}
AreEven (Loop line v low high s body rest) = IsEven body × AreEven body × AreEven rest
AreEven (Branch line set names first has other rest) = IsEven first × IsEven other × AreEven first × AreEven other
    × AreEven rest
AreEven (Does line p rest) = AreEven rest

-- a dealloc's type is that of the memref that it names
abbrev pub HomeIs : Option Home → Bool → Type 0
HomeIs (Some (FastMemref number)) t = t ≡ true
HomeIs (Some (TagMemref first)) t = t ≡ false
HomeIs (Some (SlowMemref number first)) t = t ≡ false
HomeIs None t = t ≡ false

abbrev pub PlainMatches : Plain → Env → Type 0
PlainMatches (Dealloc m ty) e = HomeIs (e.home m) (is_fast ty)
PlainMatches p e = Unit {0}

abbrev pub Matches : Nest → Env → Type 0
Matches Nothing e = Unit {0}
Matches (Loop line v low high s body rest) e = ((t : ℤ) → Matches body (knows e v t)) × Matches rest (behind body e)
Matches (Branch line set names first has other rest) e = Matches first e × Matches other (behind first e)
    × Matches rest (behind other (behind first e))
Matches (Does line p rest) e = PlainMatches p e × Matches rest (after_plain p e)
