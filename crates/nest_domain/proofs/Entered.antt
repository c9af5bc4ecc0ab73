-- Going into a loop and past a local in parts is what the definitions say.
use Rattle.std.proofs.Common.{◌≡◌, List, [], ◌∷◌, ◌++◌, suc, Result, Ok, Err, refl, ℤ}
use Rattle.affine_expr.specs.declared.linear.LinearFault.{LinearFault}
use Rattle.affine_expr.specs.Spread.{Range}
use Rattle.affine_expr.specs.Forms.{Form, LocalForm}
use Rattle.affine_expr.specs.Linear.{◌>>=◌, minus, number_form, variable_form}
use Rattle.affine_ast.specs.declared.name.Name.{Name}
use Rattle.affine_ast.specs.declared.types.Access.{Access}
use Rattle.affine_ast.specs.declared.types.Bound.{Bound}
use Rattle.affine_ast.specs.declared.types.Pick.{Pick}
use Rattle.affine_ast.specs.Intervals.{first_turn, last_end, turn_range}
use Rattle.nest_domain.specs.Forms.{Formed}
use Rattle.nest_domain.specs.Domains.{Known, map_forms, bound_forms, all_from, upper_rows, picked_rows, with_divisions, with_loop, in_loop, with_pick}
use Rattle.nest_domain.specs.Entered.{local_rows, with_local, LoopBounds, both_bounds, going_rows, with_turns}

-- the rows of a local and then what is known with them
module _ (r : Name) (pick : Pick) (range : Range) (v : Form) (k : Known) where
  abbrev behind : List LocalForm → List Form → Result Known LinearFault
  behind ls rows = with_divisions ls (with_local r v rows k)

  highs : (ls : List LocalForm) (rows : List Form) (low : Form) (w : Result Form LinearFault) → (w >>= (λ high. behind ls (rows ++ low ∷ high ∷ [])))
      ≡ (((w >>= (λ high. Ok (low ∷ high ∷ []))) >>= (λ ends. Ok (rows ++ ends))) >>= behind ls)
  highs ls rows low (Ok high) = refl
  highs ls rows low (Err e) = refl

  lows : (ls : List LocalForm) (rows : List Form) (w h : Result Form LinearFault) → (w >>= (λ low. h >>= (λ high. behind ls (rows ++ low ∷ high ∷ []))))
      ≡ (((w >>= (λ low. h >>= (λ high. Ok (low ∷ high ∷ [])))) >>= (λ ends. Ok (rows ++ ends))) >>= behind ls)
  lows ls rows (Ok low) h = highs ls rows low h
  lows ls rows (Err e) h = refl

  locals_by : (ls : List LocalForm) (w : Result (List Form) LinearFault) (l h : Result Form LinearFault) → (w >>= (λ rows. l >>= (λ low. h >>= (λ high. behind ls (rows ++ low ∷ high ∷ [])))))
      ≡ ((w >>= (λ rows. (l >>= (λ low. h >>= (λ high. Ok (low ∷ high ∷ [])))) >>= (λ ends. Ok (rows ++ ends)))) >>= behind ls)
  locals_by ls (Ok rows) l h = lows ls rows l h
  locals_by ls (Err e) l h = refl

  pub pick_by : (at : Access) → with_pick r pick at range v k ≡ (map_forms k.forms (suc k.next) at [] >>= (λ (formed : Formed). local_rows pick v formed.forms range >>= (λ rows. with_divisions formed.locals (with_local r v rows k))))
  pick_by at = by (map_forms k.forms (suc k.next) at [])
    where
      by : (w : Result Formed LinearFault) → (w >>= (λ (formed : Formed). picked_rows pick v formed.forms >>= (λ rows. minus v (number_form 0 range.least) >>= (λ low. minus (number_form 0 range.greatest) v >>= (λ high. behind formed.locals (rows ++ low ∷ high ∷ []))))))
          ≡ (w >>= (λ (formed : Formed). local_rows pick v formed.forms range >>= (λ rows. behind formed.locals rows)))
      by (Ok formed) = locals_by formed.locals (picked_rows pick v formed.forms) (minus v (number_form 0 range.least)) (minus (number_form 0 range.greatest) v)
      by (Err e) = refl

-- the rows of a loop and then what is known with them
module _ (v : Name) (l u : Bound) (s : ℤ) (k : Known) where
  abbrev turning : Range
  turning = turn_range (first_turn k.ranges l) (last_end k.ranges u)

  abbrev iv : Form
  iv = variable_form k.next k.outer

  pub loop_by : in_loop v l u s k ≡ (both_bounds k.forms k.next l u s >>= (λ (e : LoopBounds). going_rows iv e.going >>= (λ rows. with_divisions e.locals (with_turns v turning iv rows e.going k))))
  loop_by = lower (bound_forms k.forms k.next l [])
    where
      above : (low high : Formed) (below : List Form) (w : Result (List Form) LinearFault)
          → (w >>= (λ rows. with_divisions high.locals (with_turns v turning iv (below ++ rows) (record { lowers = low.forms; uppers = high.forms; step = s }) k)))
          ≡ ((w >>= (λ rows. Ok (below ++ rows))) >>= (λ rows. with_divisions high.locals (with_turns v turning iv rows (record { lowers = low.forms; uppers = high.forms; step = s }) k)))
      above low high below (Ok rows) = refl
      above low high below (Err e) = refl

      below : (low high : Formed) (w : Result (List Form) LinearFault)
          → (w >>= (λ under. upper_rows low.forms s iv high.forms >>= (λ rows. with_divisions high.locals (with_turns v turning iv (under ++ rows) (record { lowers = low.forms; uppers = high.forms; step = s }) k))))
          ≡ ((w >>= (λ under. upper_rows low.forms s iv high.forms >>= (λ rows. Ok (under ++ rows)))) >>= (λ rows. with_divisions high.locals (with_turns v turning iv rows (record { lowers = low.forms; uppers = high.forms; step = s }) k)))
      below low high (Ok under) = above low high under (upper_rows low.forms s iv high.forms)
      below low high (Err e) = refl

      upper : (low : Formed) (w : Result Formed LinearFault) → (w >>= (λ (high : Formed). with_loop v turning s iv low high k))
          ≡ ((w >>= (λ (high : Formed). Ok (record { going = record { lowers = low.forms; uppers = high.forms; step = s }; locals = high.locals }))) >>= (λ (e : LoopBounds). going_rows iv e.going >>= (λ rows. with_divisions e.locals (with_turns v turning iv rows e.going k))))
      upper low (Ok high) = below low high (all_from iv low.forms)
      upper low (Err e) = refl

      lower : (w : Result Formed LinearFault) → (w >>= (λ (low : Formed). bound_forms k.forms k.next u low.locals >>= (λ (high : Formed). with_loop v turning s iv low high k)))
          ≡ ((w >>= (λ (low : Formed). bound_forms k.forms k.next u low.locals >>= (λ (high : Formed). Ok (record { going = record { lowers = low.forms; uppers = high.forms; step = s }; locals = high.locals })))) >>= (λ (e : LoopBounds). going_rows iv e.going >>= (λ rows. with_divisions e.locals (with_turns v turning iv rows e.going k))))
      lower (Ok low) = upper low (bound_forms k.forms k.next u low.locals)
      lower (Err e) = refl
