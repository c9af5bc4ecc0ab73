-- One frame more, one frame less, and tables that are written.
use Rattle.std.proofs.Common.{◌≡◌, ℕ, ◌<◌, List, [], ◌∷◌, ◌++◌, length, reverse, take, drop, get_or, ◌-◌, refl, sym, ap, ◌∙◌, subst, arith, vec_capacity}
use Rattle.std.specs.Prelude.{Option, Some, None, option_to_list, IfNone, MatchOption}
use Rattle.std.proofs.lemmas.List.{append-nil, reverse-append, length-reverse, take_all}
use Rattle.walk_program.specs.declared.statement.Statement.{Statement}
use Rattle.direct_meaning.specs.Static.{Env}
use Rattle.nest_walk.specs.declared.frame.Frame.{Frame}
use Rattle.nest_walk.specs.Standing.{Standing}
use Rattle.nest_walk.specs.Jobs.{stand_of}
use Rattle.nest_walk.specs.Ready.{Under}

-- the highest frame stands first
highest : (old new : List Frame) (frame : Frame) → new ≡ old ++ frame ∷ [] → reverse new ≡ frame ∷ reverse old
highest old new frame e = ap reverse e ∙ reverse-append old (frame ∷ [])

-- a frame more, and a frame less, in the order in which they stand
pub pushed : (old new : List Frame) (frame : Frame) → new ≡ old ++ frame ∷ [] → reverse new ≡ frame ∷ reverse old
pushed old new frame e = highest old new frame e

pub popped : (old new : List Frame) (frame : Option Frame) → old ≡ new ++ option_to_list frame → reverse old ≡ option_to_list frame ++ reverse new
popped old new None e = ap reverse (e ∙ append-nil new)
popped old new (Some frame) e = highest new old frame e

pub none_left : (old new : List Frame) (frame : Option Frame) (n m : ℕ) (P : Frame → Type 0) → old ≡ new ++ option_to_list frame → MatchOption frame ((n ≡ 0) × (m ≡ 0)) P → length old ≡ n → IfNone frame (reverse new ≡ [])
none_left old new None n m P e h l = empty new (omega (arith, h.0, l, ap length (e ∙ append-nil new)))
  where
    empty : (fs : List Frame) → length fs ≡ 0 → reverse fs ≡ []
    empty [] z = refl
    empty (f ∷ fs) z = absurd (omega (arith, z))
none_left old new (Some frame) n m P e h l = tt

-- ---- the names of a position's numbers

-- under other bindings
pub under_stand : (p q : Standing) (e : Env) → Under p q e → stand_of q ≡ record (stand_of p) { env = e }
under_stand p q e h = ap stand_of h.others ∙ (λ i. record (stand_of p) { names = h.names i; env = h.env i })

-- ---- the statements in hand

pub none_in_hand : (rest : List Statement) → length rest ≡ 0 → rest ≡ []
none_in_hand [] h = refl
none_in_hand (x ∷ ss) h = absurd (omega (arith, h))

pub first_in_hand : (rest : List Statement) (x : Statement) → 0 < length rest → x ≡ get_or rest 0 x → rest ≡ x ∷ take (length rest - 1) (drop 1 rest)
first_in_hand [] x h e = absurd (omega (arith, h))
first_in_hand (w ∷ ss) x h e =
    let n : length (w ∷ ss) - 1 ≡ length ss = omega arith in
    λ i. sym e i ∷ sym (ap (λ k. take k ss) n ∙ take_all (length ss) ss (omega arith)) i
