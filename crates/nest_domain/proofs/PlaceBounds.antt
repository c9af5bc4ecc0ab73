-- Over the scaled points of a place's rows each named value, each outer variable and each subscript is bounded.
use Rattle.std.proofs.Common.{◌≡◌, ℕ, zero, suc, ◌+◌, ◌<◌, ◌≤◌, Bool, true, false, cond, List, [], ◌∷◌, ◌++◌, take, drop, length, get_or, Option, Some, None, Result, Ok, Err, ℤ, pos, neg_ℤ, ◌+ℤ◌, ◌-ℤ◌, ◌*ℤ◌, ◌<ℤ◌, ◌≤ℤ◌, refl, sym, ◌∙◌, ap, subst, arith, append-nil}
use Rattle.std.specs.Prelude.{nat_lt}
use Rattle.std.proofs.lemmas.Int.{ints}
use Rattle.std.proofs.lemmas.Bool.{ltb-true, ltb-false}
use Rattle.num_row.specs.Ints.{narrowed}
use Rattle.num_row.proofs.Ring.{Var, ◌⊕◌, ◌⊗◌, ring}
use Rattle.constraint_set.specs.Lists.{Each}
use Rattle.constraint_set.specs.Tidy.{all_zero}
use Rattle.constraint_set.proofs.Steps.{Each-first, Each-second}
use Rattle.affine_expr.specs.declared.linear.LinearFault.{LinearFault}
use Rattle.affine_expr.specs.declared.map.Set.{Set}
use Rattle.affine_expr.specs.Value.{floor_div}
use Rattle.affine_expr.specs.Spread.{Range}
use Rattle.affine_expr.specs.Forms.{Form, LocalForm, dot}
use Rattle.affine_expr.specs.Linear.{◌>>=◌, or_wide, number_form, variable_form, padded, minus}
use Rattle.affine_expr.proofs.FormValues.{Gives, then, narrow_gives, variable_worth}
use Rattle.affine_ast.specs.declared.module.Arg.{Arg}
use Rattle.affine_ast.specs.declared.module.ArgKind.{ArgKind}
use Rattle.affine_ast.specs.declared.module.ArgKind.TheVariants.{Memref, Index}
use Rattle.affine_ast.specs.declared.name.Name.{Name}
use Rattle.affine_ast.specs.declared.types.Access.{Access}
use Rattle.affine_ast.specs.declared.types.Bound.{Bound}
use Rattle.affine_ast.specs.declared.types.Bound.TheVariants as bound
use Rattle.affine_ast.specs.declared.types.Pick.{Pick}
use Rattle.affine_ast.specs.declared.types.Pick.TheVariants.{Apply, Min, Max}
use Rattle.affine_ast.specs.declared.types.Scalar.TheVariants as scalar
use Rattle.affine_ast.specs.Intervals.{range_or, ranges_at, picked_range}
use Rattle.affine_ast.specs.Names.{same_name, put}
use Rattle.affine_ast.specs.Nest.{Plain, Value, Load, Store, RawLoad, RawStore, Constant, Binary, Cast, Alloc, Dealloc, Start, Wait, Return}
use Rattle.affine_ast.proofs.Names.{put-same, put-other}
use Rattle.nest_domain.specs.Ways.{Header, Round, Given, Except, Behind, Past, has_name, used, loop_count}
use Rattle.nest_domain.specs.Forms.{Formed, all_floor_rows}
use Rattle.nest_domain.specs.Domains.{Known, operand_forms, map_forms, bound_forms, all_from, shifted, upper_row, last_row, upper_row_over, upper_rows, set_rows, in_loop, in_condition, named, first_form, applied, picked_rows, with_pick, with_value, formed_behind, behind_plain, along, count_of, symbol_count, with_symbol, with_kind, with_arguments, nothing_known, place}
use Rattle.nest_domain.specs.Laws.{HasResult, HasBounds}
use Rattle.nest_domain.proofs.Rowed.{IsMinus, minus_gives}
use Rattle.nest_domain.proofs.Bounding.{Measure, at, variable, at_worth, minus_same, Bounded, b_same, b_number, b_sum, b_scale, b_between, Fine, FloorHolds, BringsAll, all_over_boundable, HoldsOn, number_fine, padded_fine, floors_give}

on : {A B : Type 0} (w : Result A LinearFault) (f : A → Result B LinearFault) (Q : B → Type 0) → ((x : A) → w ≡ Ok x → Gives (f x) Q) → Gives (w >>= f) Q
on (Ok x) f Q h = h x refl
on (Err e) f Q h = tt

at_variable : (n i : ℕ) (p : List ℤ) (y : ℤ) → i < n → at (variable_form n i) p y ≡ variable i p y
at_variable n i p y h = at_worth (variable_form n i) p y ∙ (λ j. (variable_worth n i p h j -ℤ variable_worth n i [] h j) +ℤ variable_worth n i [] h j *ℤ y) ∙ linear (get_or p i (pos 0)) (pos 0 *ℤ y) (ring (Var (pos 0) ⊗ Var y) (Var (pos 0)) (omega arith))
  where
    linear : (a b : ℤ) → b ≡ pos 0 → (a -ℤ pos 0) +ℤ b ≡ a
    linear a b e = omega (arith, ints, e)

module _ (S : List ℤ → ℤ → Type 0) (scale : (p : List ℤ) (y : ℤ) → S p y → pos 0 <ℤ y) where
  abbrev pub BoundedName : Option Form → Type 0
  BoundedName None = Unit {0}
  BoundedName (Some f) = Fine S scale f

  abbrev Ok_ : Form → Type 0
  Ok_ f = Fine S scale f

  abbrev On : Form → Type 0
  On f = HoldsOn S scale f

  -- ---- operands, maps and bounds
  operands_fine : (forms : Name → Option Form) → ((m : Name) → BoundedName (forms m)) → (names : List Name) → Gives (operand_forms forms names) (Each Ok_)
  operands_fine forms h [] = tt
  operands_fine forms h (n ∷ ns) = one (forms n) (h n) (operand_forms forms ns) (operands_fine forms h ns)
    where
      one : (o : Option Form) → BoundedName o → (w : Result (List Form) LinearFault) → Gives w (Each Ok_) → Gives (or_wide o >>= (λ f. w >>= (λ fs. Ok (f ∷ fs)))) (Each Ok_)
      one None b w k = tt
      one (Some f) b w k = then w (λ fs. Ok (f ∷ fs)) (Each Ok_) (Each Ok_) k (λ fs e. (b, e))

  each_take : (n : ℕ) (fs : List Form) → Each Ok_ fs → Each Ok_ (take n fs)
  each_take zero fs h = tt
  each_take (suc n) [] h = tt
  each_take (suc n) (f ∷ fs) h = (h.0, each_take n fs h.1)

  each_drop : (n : ℕ) (fs : List Form) → Each Ok_ fs → Each Ok_ (drop n fs)
  each_drop zero fs h = h
  each_drop (suc n) [] h = tt
  each_drop (suc n) (f ∷ fs) h = each_drop n fs h.1

  pub map_boundable : (forms : Name → Option Form) → ((m : Name) → BoundedName (forms m)) → (width : ℕ) (use_ : Access) (ls : List LocalForm) → Gives (map_forms forms width use_ ls) (BringsAll S scale ls (length use_.map.results))
  map_boundable forms h width use_ ls = then (operand_forms forms use_.operands) _ (Each Ok_) (BringsAll S scale ls (length use_.map.results)) (operands_fine forms h use_.operands) (λ fs b.
      all_over_boundable S scale width (take use_.map.dims fs) (drop use_.map.dims fs) (each_take use_.map.dims fs b) (each_drop use_.map.dims fs b) use_.map.results ls)

  result_count : Bound → ℕ
  result_count (bound.Int z) = 1
  result_count (bound.Value n) = 1
  result_count (bound.Map use_) = length use_.map.results

  bound_boundable : (forms : Name → Option Form) → ((m : Name) → BoundedName (forms m)) → (width : ℕ) (b : Bound) (ls : List LocalForm) → Gives (bound_forms forms width b ls) (BringsAll S scale ls (result_count b))
  unfolding result_count
  bound_boundable forms h width (bound.Int z) ls = record { more = []; grown = sym (append-nil ls); count = refl; bounded = λ e. (number_fine S scale (width + length ls) z, tt) }
  bound_boundable forms h width (bound.Value n) ls = one (forms n) (h n)
    where
      one : (o : Option Form) → BoundedName o → Gives (or_wide o >>= (λ f. Ok (record { forms = padded (width + length ls) f ∷ []; locals = ls }))) (BringsAll S scale ls 1)
      one None b = tt
      one (Some f) b = record { more = []; grown = sym (append-nil ls); count = refl; bounded = λ e. (padded_fine S scale (width + length ls) f b, tt) }
  bound_boundable forms h width (bound.Map use_) ls = map_boundable forms h width use_ ls

  has_result : (b : Bound) → HasResult b → 0 < result_count b
  unfolding result_count
  has_result (bound.Int z) h = omega arith
  has_result (bound.Value n) h = omega arith
  has_result (bound.Map use_) h = h

  -- ---- a form from below and from above
  pub record Under (f : Form) : Type 0 where
    pub bound : Measure
    pub fine : Bounded S scale bound
    pub less : (p : List ℤ) (y : ℤ) → S p y → bound p y ≤ℤ at f p y

  pub record Over (f : Form) : Type 0 where
    pub bound : Measure
    pub fine : Bounded S scale bound
    pub more : (p : List ℤ) (y : ℤ) → S p y → at f p y ≤ℤ bound p y

  between : (f : Form) → Under f → Over f → Ok_ f
  between f u o = b_between S scale u.bound (at f) o.bound u.fine o.fine u.less o.more

  -- the row f - g holds, so f is at least g, and g at most f
  over_of : (f g r : Form) → IsMinus f g r → Ok_ g → On r → Under f
  over_of f g r m b h = record { bound = at g; fine = b; less = λ p y s. linear (at f p y) (at g p y) (at r p y) (minus_same f g r m p y) (h p y s) }
    where
      linear : (a b c : ℤ) → c ≡ a -ℤ b → pos 0 ≤ℤ c → b ≤ℤ a
      linear a b c e h = omega (arith, ints, e, h)

  under_of : (f g r : Form) → IsMinus f g r → Ok_ f → On r → Over g
  under_of f g r m b h = record { bound = at f; fine = b; more = λ p y s. linear (at f p y) (at g p y) (at r p y) (minus_same f g r m p y) (h p y s) }
    where
      linear : (a b c : ℤ) → c ≡ a -ℤ b → pos 0 ≤ℤ c → b ≤ℤ a
      linear a b c e h = omega (arith, ints, e, h)

  shifted_fine : (f : Form) (z : ℤ) → Ok_ f → Gives (shifted f z) Ok_
  shifted_fine f z b = then (or_wide (narrowed (f.constant +ℤ z))) _ (λ x. x ≡ f.constant +ℤ z) Ok_ (narrow_gives (f.constant +ℤ z)) (λ x e.
      b_same S scale (at (record { coefs = f.coefs; constant = x })) (λ p y. at f p y +ℤ z *ℤ y) (λ p y. ap (λ c. dot f.coefs p +ℤ c *ℤ y) e ∙ apart (dot f.coefs p) f.constant y) (b_sum S scale (at f) (λ p y. z *ℤ y) b (b_number S scale z)))
    where
      apart : (d c y : ℤ) → d +ℤ (c +ℤ z) *ℤ y ≡ (d +ℤ c *ℤ y) +ℤ z *ℤ y
      apart d c y = ring (Var d ⊕ (Var c ⊕ Var z) ⊗ Var y) ((Var d ⊕ Var c ⊗ Var y) ⊕ Var z ⊗ Var y) (omega arith)

  -- ---- a loop's variable
  lower_gives : (iv : Form) (ls : List Form) → 0 < length ls → Each Ok_ ls → Gives (all_from iv ls) (λ rows. Each On rows → Under iv)
  lower_gives iv [] n b = absurd (omega arith)
  lower_gives iv (l ∷ ls) n b = then (minus iv l) _ (IsMinus iv l) (λ rows. Each On rows → Under iv) (minus_gives iv l) (λ r m.
      on (all_from iv ls) _ (λ rows. Each On rows → Under iv) (λ rs e h. over_of iv l r m b.0 h.0))

  top_gives : (iv u : Form) → Ok_ u → Gives (upper_row iv u) (λ r. On r → Over iv)
  top_gives iv u b = then (shifted u (neg_ℤ (pos 1))) (λ top. minus top iv) Ok_ (λ r. On r → Over iv) (shifted_fine u (neg_ℤ (pos 1)) b) (λ top t.
      then' (minus top iv) (IsMinus top iv) (λ r. On r → Over iv) (minus_gives top iv) (λ r m h. under_of top iv r m t h))
    where
      then' : (w : Result Form LinearFault) (P Q : Form → Type 0) → Gives w P → ((x : Form) → P x → Q x) → Gives w Q
      then' (Ok x) P Q h f = f x h
      then' (Err e) P Q h f = tt

  last_gives : (l : Form) (s : ℤ) (iv u d : Form) → Ok_ l → Ok_ u → Gives (last_row l s iv u d) (λ r. On r → Over iv)
  last_gives l s iv u d a b = by (all_zero d.coefs)
    where
      plain : (w : Result Form LinearFault) (P Q : Form → Type 0) → Gives w P → ((x : Form) → P x → Q x) → Gives w Q
      plain (Ok x) P Q h f = f x h
      plain (Err e) P Q h f = tt

      by : (z : Bool) → Gives (cond z (shifted l (floor_div (d.constant -ℤ pos 1) s *ℤ s) >>= (λ top. minus top iv)) (upper_row iv u)) (λ r. On r → Over iv)
      by true = then (shifted l (floor_div (d.constant -ℤ pos 1) s *ℤ s)) (λ top. minus top iv) Ok_ (λ r. On r → Over iv) (shifted_fine l (floor_div (d.constant -ℤ pos 1) s *ℤ s) a) (λ top t.
          plain (minus top iv) (IsMinus top iv) (λ r. On r → Over iv) (minus_gives top iv) (λ r m h. under_of top iv r m t h))
      by false = top_gives iv u b

  first_of : (w : Result Form LinearFault) (ws : Result (List Form) LinearFault) (Q : Type 0) → Gives w (λ r. On r → Q) → Gives (w >>= (λ r. ws >>= (λ rs. Ok (r ∷ rs)))) (λ rows. Each On rows → Q)
  first_of w ws Q h = then w (λ r. ws >>= (λ rs. Ok (r ∷ rs))) (λ r. On r → Q) (λ rows. Each On rows → Q) h (λ r k. on ws (λ rs. Ok (r ∷ rs)) (λ rows. Each On rows → Q) (λ rs e x. k x.0))

  upper_gives : (ls : List Form) (s : ℤ) (iv : Form) (us : List Form) → 0 < length us → Each Ok_ ls → Each Ok_ us → Gives (upper_rows ls s iv us) (λ rows. Each On rows → Over iv)
  upper_gives ls s iv [] n a b = absurd (omega arith)
  upper_gives [] s iv (u ∷ us) n a b = first_of (upper_row iv u) (upper_rows [] s iv us) (Over iv) (top_gives iv u b.0)
  upper_gives (l ∷ []) s iv (u ∷ us) n a b =
      first_of (upper_row_over (l ∷ []) s iv u) (upper_rows (l ∷ []) s iv us) (Over iv) (on (minus u l) (λ d. last_row l s iv u d) (λ r. On r → Over iv) (λ d e. last_gives l s iv u d a.0 b.0))
  upper_gives (l ∷ (m ∷ ls)) s iv (u ∷ us) n a b = first_of (upper_row iv u) (upper_rows (l ∷ (m ∷ ls)) s iv us) (Over iv) (top_gives iv u b.0)

  -- ---- what is known
  pub record AllOn (k : Known) : Type 0 where
    pub symbols : Each On k.symbols
    pub loops : Each On k.loops
    pub locals : Each On k.locals

  pub record Bounds (k : Known) : Type 0 where
    pub names : (m : Name) → BoundedName (k.forms m)
    pub outers : (j : ℕ) → j < k.outer → Bounded S scale (variable j)

  -- from one place on the way to the next
  pub record Carries (n : ℕ) (k g : Known) : Type 0 where
    pub outer : g.outer ≡ n
    pub next : k.next ≤ g.next
    pub back : AllOn g → AllOn k
    pub onward : AllOn g → Bounds k → Bounds g

  name_put : (forms : Name → Option Form) (r : Name) (f : Option Form) → ((m : Name) → BoundedName (forms m)) → BoundedName f → (m : Name) → BoundedName (put forms r f m)
  name_put forms r f h b m = by (same_name r m) refl
    where
      by : (t : Bool) → same_name r m ≡ t → BoundedName (put forms r f m)
      by true t = subst BoundedName (sym (put-same forms r f m t)) b
      by false t = subst BoundedName (sym (put-other forms r f m t)) (h m)

  answer : {A : Type 0} (w : Result A LinearFault) (x : A) (P : A → Type 0) → w ≡ Ok x → Gives w P → P x
  answer w x P e h = subst (λ v. Gives v P) e h

  pub floors_of : (ls : List LocalForm) (rows : List Form) → all_floor_rows ls ≡ Ok rows → Each On rows → Each (FloorHolds S scale) ls
  floors_of ls rows e = answer (all_floor_rows ls) rows (λ rows. Each On rows → Each (FloorHolds S scale) ls) e (floors_give S scale ls)

  loop_carries : (v : Name) (l u : Bound) (s : ℤ) (k : Known) → k.outer < k.next → HasResult l → HasResult u → Gives (in_loop v l u s k) (Carries (suc k.outer) k)
  loop_carries v l u s k room hl hu =
      let Q = Carries (suc k.outer) k in
      let iv = variable_form k.next k.outer in
      on (bound_forms k.forms k.next l []) _ Q (λ low el.
      on (bound_forms k.forms k.next u low.locals) _ Q (λ high eh.
      on (all_from iv low.forms) _ Q (λ below eb.
      on (upper_rows low.forms s iv high.forms) _ Q (λ above ea.
      on (all_floor_rows high.locals) _ Q (λ rows er. record {
        outer = refl;
        next = omega arith;
        back = λ h. record { symbols = h.symbols; loops = Each-first On k.loops (below ++ above) h.loops; locals = Each-first On k.locals rows h.locals };
        onward = λ h b.
            let x = answer (bound_forms k.forms k.next l []) low (BringsAll S scale [] (result_count l)) el (bound_boundable k.forms b.names k.next l []) in
            let z = answer (bound_forms k.forms k.next u low.locals) high (BringsAll S scale low.locals (result_count u)) eh (bound_boundable k.forms b.names k.next u low.locals) in
            let all = subst (Each (FloorHolds S scale)) z.grown (floors_of high.locals rows er (Each-second On k.locals rows h.locals)) in
            let lows = x.bounded (subst (Each (FloorHolds S scale)) x.grown (Each-first (FloorHolds S scale) low.locals z.more all)) in
            let highs = z.bounded (Each-second (FloorHolds S scale) low.locals z.more all) in
            let own = Each-second On k.loops (below ++ above) h.loops in
            let under = answer (all_from iv low.forms) below (λ rows. Each On rows → Under iv) eb (lower_gives iv low.forms (omega (arith, x.count, has_result l hl)) lows) (Each-first On below above own) in
            let over = answer (upper_rows low.forms s iv high.forms) above (λ rows. Each On rows → Over iv) ea (upper_gives low.forms s iv high.forms (omega (arith, z.count, has_result u hu)) lows highs) (Each-second On below above own) in
            let fine = between iv under over in
            record {
              names = name_put k.forms v (Some iv) b.names fine;
              outers = λ j less. outer_more j less b.outers (b_same S scale (variable k.outer) (at iv) (λ p y. sym (at_variable k.next k.outer p y room)) fine);
            };
      })))))
    where
      outer_more : (j : ℕ) → j < suc k.outer → ((j : ℕ) → j < k.outer → Bounded S scale (variable j)) → Bounded S scale (variable k.outer) → Bounded S scale (variable j)
      outer_more j less f b = by (nat_lt j k.outer) refl
        where
          by : (t : Bool) → nat_lt j k.outer ≡ t → Bounded S scale (variable j)
          by true t = f j (ltb-true j k.outer t)
          by false t = let e : k.outer ≡ j = omega (arith, less, ltb-false j k.outer t) in subst (λ i. Bounded S scale (variable i)) e b

  condition_carries : (set : Set) (names : List Name) (k : Known) → Gives (in_condition set names k) (Carries k.outer k)
  condition_carries set names k =
      let Q = Carries k.outer k in
      on (operand_forms k.forms names) _ Q (λ fs ef.
      on (set_rows k.next (take set.dims fs) (drop set.dims fs) set.rows []) _ Q (λ rows er.
      on (all_floor_rows rows.locals) _ Q (λ floors el. record {
        outer = refl;
        next = omega arith;
        back = λ h. record { symbols = h.symbols; loops = h.loops; locals = Each-first On k.locals floors h.locals };
        onward = λ h b. record { names = b.names; outers = b.outers };
      })))

  -- with a name more, whose form is bounded where the rows of its locals hold
  valued : (r : Name) (f : Form) (formed : Formed) (k : Known) → ((m : Name) → BoundedName (k.forms m)) → Ok_ f → (m : Name) → BoundedName (put k.forms r (Some f) m)
  valued r f formed k h b = name_put k.forms r (Some f) h b

  applied_carries : (r : Name) (use_ : Access) (k : Known) → Gives (applied r use_ k) (Carries k.outer k)
  applied_carries r use_ k =
      let Q = Carries k.outer k in
      on (map_forms k.forms k.next use_ []) _ Q (λ formed em.
      on (first_form formed.forms) _ Q (λ f ef.
      on (all_floor_rows formed.locals) _ Q (λ floors el. record {
        outer = refl;
        next = omega arith;
        back = λ h. record { symbols = h.symbols; loops = h.loops; locals = Each-first On k.locals floors h.locals };
        onward = λ h b.
            let x = answer (map_forms k.forms k.next use_ []) formed (BringsAll S scale [] (length use_.map.results)) em (map_boundable k.forms b.names k.next use_ []) in
            let all = subst (Each (FloorHolds S scale)) x.grown (floors_of formed.locals floors el (Each-second On k.locals floors h.locals)) in
            record { names = name_put k.forms r (Some f) b.names (first_fine formed.forms f ef (x.bounded all)); outers = b.outers };
      })))
    where
      first_fine : (fs : List Form) (f : Form) → first_form fs ≡ Ok f → Each Ok_ fs → Ok_ f
      first_fine fs f e b = answer (first_form fs) f Ok_ e (by fs b)
        where
          by : (fs : List Form) → Each Ok_ fs → Gives (first_form fs) Ok_
          by [] b = tt
          by (g ∷ gs) b = b.0

  pick_carries : (r : Name) (pick : Pick) (use_ : Access) (range : Range) (v : Form) (k : Known) → Gives (with_pick r pick use_ range v k) (Carries k.outer k)
  pick_carries r pick use_ range v k =
      let Q = Carries k.outer k in
      on (map_forms k.forms (suc k.next) use_ []) _ Q (λ formed em.
      on (picked_rows pick v formed.forms) _ Q (λ rows er.
      on (minus v (number_form 0 range.least)) _ Q (λ low el.
      on (minus (number_form 0 range.greatest) v) _ Q (λ high eh.
      on (all_floor_rows formed.locals) _ Q (λ floors ef. record {
        outer = refl;
        next = omega arith;
        back = λ h. record { symbols = h.symbols; loops = h.loops; locals = Each-first On k.locals (rows ++ low ∷ high ∷ []) (Each-first On (k.locals ++ (rows ++ low ∷ high ∷ [])) floors h.locals) };
        onward = λ h b.
            let mine = Each-second On rows (low ∷ high ∷ []) (Each-second On k.locals (rows ++ low ∷ high ∷ []) (Each-first On (k.locals ++ (rows ++ low ∷ high ∷ [])) floors h.locals)) in
            let below = over_of v (number_form 0 range.least) low (answer (minus v (number_form 0 range.least)) low (IsMinus v (number_form 0 range.least)) el (minus_gives v (number_form 0 range.least))) (number_fine S scale 0 range.least) mine.0 in
            let above = under_of (number_form 0 range.greatest) v high (answer (minus (number_form 0 range.greatest) v) high (IsMinus (number_form 0 range.greatest) v) eh (minus_gives (number_form 0 range.greatest) v)) (number_fine S scale 0 range.greatest) mine.1.0 in
            record { names = name_put k.forms r (Some v) b.names (between v below above); outers = b.outers };
      })))))

  value_carries : (r : Name) (pick : Pick) (use_ : Access) (k : Known) → Gives (with_value r pick use_ k) (Carries k.outer k)
  value_carries r Apply use_ k = applied_carries r use_ k
  value_carries r Min use_ k = pick_carries r Min use_ (picked_range Min (ranges_at k.ranges use_)) (variable_form (suc k.next) k.next) k
  value_carries r Max use_ k = pick_carries r Max use_ (picked_range Max (ranges_at k.ranges use_)) (variable_form (suc k.next) k.next) k

  same_carries : (k : Known) → Carries k.outer k k
  same_carries k = record { outer = refl; next = omega arith; back = λ h. h; onward = λ h b. b }

  named_carries : (r : Name) (f : Option Form) (k : Known) → BoundedName f → Carries k.outer k (named r f k)
  named_carries r f k b = record { outer = refl; next = omega arith; back = λ h. record { symbols = h.symbols; loops = h.loops; locals = h.locals }; onward = λ h c. record { names = name_put k.forms r f c.names b; outers = c.outers } }

  formed_carries : (p : Plain) (names : List Name) (k : Known) → Gives (formed_behind p names k) (Carries k.outer k)
  formed_carries (Value r pick use_) names k = by (has_name r names)
    where
      by : (t : Bool) → Gives (cond t (with_value r pick use_ k) (Ok (named r None k))) (Carries k.outer k)
      by true = value_carries r pick use_ k
      by false = named_carries r None k tt
  formed_carries (Load r m use_ ty) names k = named_carries r None k tt
  formed_carries (Store x m use_ ty) names k = same_carries k
  formed_carries (RawLoad r m use_ ty) names k = named_carries r None k tt
  formed_carries (RawStore x m use_ ty) names k = same_carries k
  formed_carries (Constant r z (scalar.Int element)) names k = named_carries r None k tt
  formed_carries (Constant r z scalar.Index) names k = named_carries r (Some (number_form 0 z)) k (number_fine S scale 0 z)
  formed_carries (Binary r op x y ty) names k = named_carries r None k tt
  formed_carries (Cast r kind x from to) names k = named_carries r None k tt
  formed_carries (Alloc r ty) names k = same_carries k
  formed_carries (Dealloc m ty) names k = same_carries k
  formed_carries (Start x x_at y y_at t t_at n stride types) names k = same_carries k
  formed_carries (Wait t use_ n ty) names k = same_carries k
  formed_carries Return names k = same_carries k

  plain_carries : (p : Plain) (names : List Name) (k : Known) → Gives (behind_plain p names k) (Carries k.outer k)
  plain_carries p names k = then (formed_behind p names k) _ (Carries k.outer k) (Carries k.outer k) (formed_carries p names k) (λ g c. record {
    outer = c.outer;
    next = c.next;
    back = λ h. c.back (record { symbols = h.symbols; loops = h.loops; locals = h.locals });
    onward = λ h b. let d = c.onward (record { symbols = h.symbols; loops = h.loops; locals = h.locals }) b in record { names = d.names; outers = d.outers };
  })

  further : (m n : ℕ) (k1 k2 k3 : Known) → Carries m k1 k2 → Carries n k2 k3 → Carries n k1 k3
  further m n k1 k2 k3 a b = record { outer = b.outer; next = omega (arith, a.next, b.next); back = λ h. a.back (b.back h); onward = λ h c. b.onward h (a.onward (b.back h) c) }

  along_from : (m n : ℕ) (k1 k2 : Known) (w : Result Known LinearFault) → Carries m k1 k2 → Gives w (Carries n k2) → Gives w (Carries n k1)
  along_from m n k1 k2 (Ok k3) a b = further m n k1 k2 k3 a b
  along_from m n k1 k2 (Err e) a b = tt

  pub along_carries : (hs : List Header) (own : List Name) (k : Known) (n : ℕ) → HasBounds hs → n ≡ k.outer + loop_count hs → n ≤ k.next → Gives (along hs own k) (Carries n k)
  unfolding along
  along_carries [] own k n b e r = record { outer = omega (arith, e); next = omega arith; back = λ h. h; onward = λ h c. c }
  along_carries (Round v l u s ∷ hs) own k n b e r = then (in_loop v l u s k) (along hs own) (Carries (suc k.outer) k) (Carries n k) (loop_carries v l u s k (omega (arith, e, r)) b.0 b.1) (λ g c.
      along_from (suc k.outer) n k g (along hs own g) c (along_carries hs own g n b.2 (omega (arith, e, c.outer)) (omega (arith, r, c.next))))
  along_carries (Given set names ∷ hs) own k n b e r = then (in_condition set names k) (along hs own) (Carries k.outer k) (Carries n k) (condition_carries set names k) (λ g c.
      along_from k.outer n k g (along hs own g) c (along_carries hs own g n b (omega (arith, e, c.outer)) (omega (arith, r, c.next))))
  along_carries (Except set names first ∷ hs) own k n b e r = along_carries hs own k n b e r
  along_carries (Behind p ∷ hs) own k n b e r = then (behind_plain p (used hs own) k) (along hs own) (Carries k.outer k) (Carries n k) (plain_carries p (used hs own) k) (λ g c.
      along_from k.outer n k g (along hs own g) c (along_carries hs own g n b (omega (arith, e, c.outer)) (omega (arith, r, c.next))))
  along_carries (Past m ∷ hs) own k n b e r = along_carries hs own k n b e r

  -- ---- the arguments
  symbol_carries : (name : Name) (range : Range) (k : Known) → k.outer < k.next → Gives (with_symbol name range (variable_form k.next k.outer) k) (Carries (suc k.outer) k)
  symbol_carries name range k room =
      let Q = Carries (suc k.outer) k in
      let v = variable_form k.next k.outer in
      on (minus v (number_form 0 range.least)) _ Q (λ low el.
      on (minus (number_form 0 range.greatest) v) _ Q (λ high eh. record {
        outer = refl;
        next = omega arith;
        back = λ h. record { symbols = Each-first On k.symbols (low ∷ high ∷ []) h.symbols; loops = h.loops; locals = h.locals };
        onward = λ h b.
            let mine = Each-second On k.symbols (low ∷ high ∷ []) h.symbols in
            let below = over_of v (number_form 0 range.least) low (answer (minus v (number_form 0 range.least)) low (IsMinus v (number_form 0 range.least)) el (minus_gives v (number_form 0 range.least))) (number_fine S scale 0 range.least) mine.0 in
            let above = under_of (number_form 0 range.greatest) v high (answer (minus (number_form 0 range.greatest) v) high (IsMinus (number_form 0 range.greatest) v) eh (minus_gives (number_form 0 range.greatest) v)) (number_fine S scale 0 range.greatest) mine.1.0 in
            let fine = between v below above in
            record { names = name_put k.forms name (Some v) b.names fine; outers = λ j less. one_more k.outer j less b.outers (b_same S scale (variable k.outer) (at v) (λ p y. sym (at_variable k.next k.outer p y room)) fine) };
      }))
    where
      one_more : (n j : ℕ) → j < suc n → ((j : ℕ) → j < n → Bounded S scale (variable j)) → Bounded S scale (variable n) → Bounded S scale (variable j)
      one_more n j less f b = by (nat_lt j n) refl
        where
          by : (t : Bool) → nat_lt j n ≡ t → Bounded S scale (variable j)
          by true t = f j (ltb-true j n t)
          by false t = let e : n ≡ j = omega (arith, less, ltb-false j n t) in subst (λ i. Bounded S scale (variable i)) e b

  kind_carries : (kind : ArgKind) (name : Name) (k : Known) → k.outer + count_of kind ≤ k.next → Gives (with_kind kind name k) (Carries (k.outer + count_of kind) k)
  kind_carries (Memref ty) name k r = record { outer = omega arith; next = omega arith; back = λ h. h; onward = λ h b. b }
  kind_carries (Index range) name k r = shift (k.outer + 1) (omega arith) _ (symbol_carries name (record { least = (range_or range).least; greatest = (range_or range).greatest }) k (omega (arith, r)))
    where
      shift : (n : ℕ) → suc k.outer ≡ n → (w : Result Known LinearFault) → Gives w (Carries (suc k.outer) k) → Gives w (Carries n k)
      shift n e (Ok g) c = record { outer = c.outer ∙ e; next = c.next; back = c.back; onward = c.onward }
      shift n e (Err x) c = tt

  arguments_carry : (args : List Arg) (k : Known) (n : ℕ) → n ≡ k.outer + symbol_count args → n ≤ k.next → Gives (with_arguments args k) (Carries n k)
  arguments_carry [] k n e r = record { outer = omega (arith, e); next = omega arith; back = λ h. h; onward = λ h b. b }
  arguments_carry (arg ∷ args) k n e r = then (with_kind arg.kind arg.name k) (with_arguments args) (Carries (k.outer + count_of arg.kind) k) (Carries n k) (kind_carries arg.kind arg.name k (omega (arith, e, r))) (λ g c.
      along_from (k.outer + count_of arg.kind) n k g (with_arguments args g) c (arguments_carry args g n (omega (arith, e, c.outer)) (omega (arith, r, c.next))))

  -- ---- a place
  pub place_bounds : (args : List Arg) (way : List Header) (own : List Name) → HasBounds way → Gives (place args way own) (λ k. AllOn k → Bounds k)
  unfolding place
  place_bounds args way own b =
      let n = symbol_count args + loop_count way in
      then (with_arguments args (nothing_known n)) (along way own) (Carries (symbol_count args) (nothing_known n)) (λ k. AllOn k → Bounds k) (arguments_carry args (nothing_known n) (symbol_count args) (omega arith) (omega arith)) (λ k c.
      ends k (along way own k) (λ h. c.onward h (record { names = λ m. tt; outers = λ j less. absurd (omega (arith, less)) })) (along_carries way own k n b (omega (arith, c.outer)) (omega (arith, c.next))))
    where
      ends : (k : Known) (w : Result Known LinearFault) → (AllOn k → Bounds k) → Gives w (Carries (symbol_count args + loop_count way) k) → Gives w (λ g. AllOn g → Bounds g)
      ends k (Ok g) f c = λ h. c.onward h (f (c.back h))
      ends k (Err e) f c = tt

  -- ---- combinations of the outer variables
  combined : (cs : List ℤ) (m : ℕ) → ((j : ℕ) → j < length cs → Bounded S scale (variable (m + j))) → Bounded S scale (λ p y. dot cs (drop m p))
  combined [] m h = b_same S scale (λ p y. pos 0) (λ p y. pos 0 *ℤ y) (λ p y. ring (Var (pos 0)) (Var (pos 0) ⊗ Var y) (omega arith)) (b_number S scale (pos 0))
  combined (c ∷ cs) m h = b_same S scale (λ p y. dot (c ∷ cs) (drop m p)) (λ p y. c *ℤ variable m p y +ℤ dot cs (drop (suc m) p)) (λ p y. step m p)
      (b_sum S scale (λ p y. c *ℤ variable m p y) (λ p y. dot cs (drop (suc m) p))
      (b_scale S scale c (variable m) (subst (λ i. Bounded S scale (variable i)) (plus_none m) (h 0 (omega arith))))
      (combined cs (suc m) (λ j less. subst (λ i. Bounded S scale (variable i)) (plus_one m j) (h (suc j) (omega (arith, less))))))
    where
      plus_none : (m : ℕ) → m + 0 ≡ m
      plus_none m = omega arith

      plus_one : (m j : ℕ) → m + suc j ≡ suc m + j
      plus_one m j = omega arith

      step : (m : ℕ) (p : List ℤ) → dot (c ∷ cs) (drop m p) ≡ c *ℤ get_or p m (pos 0) +ℤ dot cs (drop (suc m) p)
      step zero [] = none cs
        where
          none : (cs : List ℤ) → pos 0 ≡ c *ℤ pos 0 +ℤ dot cs []
          none [] = ring (Var (pos 0)) (Var c ⊗ Var (pos 0) ⊕ Var (pos 0)) (omega arith)
          none (d ∷ ds) = ring (Var (pos 0)) (Var c ⊗ Var (pos 0) ⊕ Var (pos 0)) (omega arith)
      step zero (x ∷ p) = refl
      step (suc m) [] = none cs
        where
          none : (cs : List ℤ) → pos 0 ≡ c *ℤ pos 0 +ℤ dot cs []
          none [] = ring (Var (pos 0)) (Var c ⊗ Var (pos 0) ⊕ Var (pos 0)) (omega arith)
          none (d ∷ ds) = ring (Var (pos 0)) (Var c ⊗ Var (pos 0) ⊕ Var (pos 0)) (omega arith)
      step (suc m) (x ∷ p) = step m p

  pub combination_fine : (k : Known) (cs : List ℤ) → length cs ≤ k.outer → Bounds k → Ok_ (record { coefs = cs; constant = pos 0 })
  combination_fine k cs l b = b_same S scale (at (record { coefs = cs; constant = pos 0 })) (λ p y. dot cs (drop 0 p)) (λ p y. plus (dot cs p) (pos 0 *ℤ y) (ring (Var (pos 0) ⊗ Var y) (Var (pos 0)) (omega arith)))
      (combined cs 0 (λ j less. subst (λ i. Bounded S scale (variable i)) (none j) (b.outers j (omega (arith, less, l)))))
    where
      plus : (a b : ℤ) → b ≡ pos 0 → a +ℤ b ≡ a
      plus a b e = omega (arith, ints, e)

      none : (j : ℕ) → j ≡ 0 + j
      none j = omega arith
