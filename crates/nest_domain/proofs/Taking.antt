-- What one step comes to, from what stands at it.
use Rattle.std.proofs.Common.{◌≡◌, suc, ℤ, Bool, true, List, Vec, Global, Ok, Err, Result, sym, ap, subst, ◌∙◌}
use Rattle.std.specs.Prelude.{OnOk, map, take, drop}
use Rattle.std.specs.List.{list_all}
use Rattle.affine_expr.specs.declared.linear.LinearFault.{LinearFault}
use Rattle.affine_expr.specs.declared.linear.LinearFault.TheVariants.{Wide, Memory}
use Rattle.affine_expr.specs.declared.map.Set.{Set}
use Rattle.affine_expr.specs.declared.linear.Combination.{Combination}
use Rattle.affine_expr.specs.Forms.{Form}
use Rattle.affine_expr.specs.Linear.{◌>>=◌, Meets, variable_form}
use Rattle.affine_expr.specs.Spread.{Range}
use Rattle.affine_ast.specs.declared.name.Name.{Name}
use Rattle.affine_ast.specs.declared.stmt.What.{What}
use Rattle.affine_ast.specs.declared.types.Access.{Access}
use Rattle.affine_ast.specs.declared.types.Bound.{Bound}
use Rattle.affine_ast.specs.declared.types.Pick.{Pick}
use Rattle.affine_ast.specs.declared.types.Pick.TheVariants.{Min, Max}
use Rattle.affine_ast.specs.Intervals.{Ranges, ranges_at, picked_range}
use Rattle.affine_ast.specs.Names.{put}
use Rattle.affine_ast.specs.Nest.{Plain, Value, plain_of}
use Rattle.affine_ast.specs.Rules.{set_pure}
use Rattle.nest_domain.specs.Ways.{Header}
use Rattle.nest_domain.specs.Kept.{row_ready}
use Rattle.nest_domain.specs.Ready.{ReadySet, ranges_along}
use Rattle.nest_domain.specs.Domains.{Known, Going, all_from, upper_rows, in_loop, with_pick, with_value, formed_by, behind_by, along_by}
use Rattle.nest_domain.specs.Entered.{with_range, rows_then, going_rows, loop_in_parts, pick_in_parts}
use Rattle.nest_domain.specs.declared.known.KnownForms.{KnownForms}
use Rattle.nest_domain.specs.Gathered.{known_of, Becomes}
use Rattle.nest_domain.proofs.Smalls.{rows_ready}
use Rattle.nest_domain.proofs.Entered.{pick_by, loop_by}
use Rattle.nest_domain.proofs.Ranged.{value_keeps_ranges, ranges_behind}

-- a set whose rows can be formed
pub set_ready : (rho : Ranges) (set : Set) (names : List Name) → ReadySet rho set names → list_all row_ready set.rows ≡ true
unfolding set_pure
set_ready rho set names h = rows_ready (take set.dims (map rho names)) (drop set.dims (map rho names)) set.rows h.pure h.bounded

pub ranges_as : (h : Header) (needed : Bool) (k : Known) (new : KnownForms) (r : Result (Unit {0}) LinearFault) → Becomes (along_by h needed k) new r → OnOk r ((known_of new).ranges ≡ ranges_along h k.ranges)
ranges_as h needed k new (Ok done) e = ranges_behind h needed k (known_of new) e
ranges_as h needed k new (Err Memory) e = tt
ranges_as h needed k new (Err Wide) e = tt

pub passed_as : (w : What) (p : Plain) (needed : Bool) (k : Known) (new : KnownForms) (r : Result (Unit {0}) LinearFault) → plain_of w ≡ p → Becomes (behind_by p needed k) new r → Becomes (behind_by (plain_of w) needed k) new r
passed_as w p needed k new r e m = subst (λ x. Becomes (behind_by x needed k) new r) (sym e) m

-- a value's form, and then its range
pub value_taken : (n : Name) (pick : Pick) (at : Access) (needed : Bool) (k g : Known) (range : Range) → range ≡ picked_range pick (ranges_at k.ranges at) → formed_by (Value n pick at) needed k ≡ Ok g
    → (new : KnownForms) (r : Result (Unit {0}) LinearFault) → Becomes (Ok (with_range n range g)) new r → Becomes (behind_by (Value n pick at) needed k) new r
value_taken n pick at needed k g range is e new r m =
    let kept = value_keeps_ranges n pick at needed k g e in
    let same : with_range n range g ≡ record g { ranges = put k.ranges n (picked_range pick (ranges_at k.ranges at)) } = λ i. record g { ranges = put (kept i) n (is i) } in
    let all : behind_by (Value n pick at) needed k ≡ Ok (with_range n range g) =
    ap (λ w. w >>= (λ (j : Known). Ok (record j { ranges = put k.ranges n (picked_range pick (ranges_at k.ranges at)) }))) e ∙ ap Ok (sym same)
    in
    subst (λ w. Becomes w new r) (sym all) m

-- past a statement that changes nothing
pub passed_none : (w : What) (p : Plain) (needed : Bool) (k : Known) → plain_of w ≡ p → behind_by p needed k ≡ Ok k → behind_by (plain_of w) needed k ≡ Ok k
passed_none w p needed k e m = ap (λ x. behind_by x needed k) e ∙ m

pub loop_as : (v : Name) (l u : Bound) (z s : ℤ) (k : Known) (new : KnownForms) (r : Result (Unit {0}) LinearFault) → z ≡ s → Becomes (loop_in_parts v l u z k) new r → Becomes (in_loop v l u s k) new r
loop_as v l u z s k new r same m = subst (λ w. Becomes w new r) (sym (loop_by v l u s k)) (subst (λ y. Becomes (loop_in_parts v l u y k) new r) same m)

pub pick_as : (n : Name) (pick : Pick) (at : Access) (range : Range) (k : Known) (new : KnownForms) (r : Result (Unit {0}) LinearFault) → range ≡ picked_range pick (ranges_at k.ranges at) → Becomes (pick_in_parts n pick at range (variable_form (suc k.next) k.next) k) new r
    → Becomes (with_pick n pick at (picked_range pick (ranges_at k.ranges at)) (variable_form (suc k.next) k.next) k) new r
pick_as n pick at range k new r is m =
    let v = variable_form (suc k.next) k.next in
    subst (λ (x : Range). Becomes (with_pick n pick at x v k) new r) is (subst (λ w. Becomes w new r) (sym (pick_by n pick range v k at)) m)

pub least_as : (n : Name) (pick : Pick) (at : Access) (range : Range) (k : Known) (new : KnownForms) (r : Result (Unit {0}) LinearFault) → pick ≡ Min → range ≡ picked_range pick (ranges_at k.ranges at) → Becomes (pick_in_parts n Min at range (variable_form (suc k.next) k.next) k) new r
    → Becomes (with_value n pick at k) new r
least_as n pick at range k new r e is m =
    subst (λ p. Becomes (with_value n p at k) new r) (sym e) (pick_as n Min at range k new r (is ∙ ap (λ p. picked_range p (ranges_at k.ranges at)) e) m)

pub greatest_as : (n : Name) (pick : Pick) (at : Access) (range : Range) (k : Known) (new : KnownForms) (r : Result (Unit {0}) LinearFault) → pick ≡ Max → range ≡ picked_range pick (ranges_at k.ranges at) → Becomes (pick_in_parts n Max at range (variable_form (suc k.next) k.next) k) new r
    → Becomes (with_value n pick at k) new r
greatest_as n pick at range k new r e is m =
    subst (λ p. Becomes (with_value n p at k) new r) (sym e) (pick_as n Max at range k new r (is ∙ ap (λ p. picked_range p (ranges_at k.ranges at)) e) m)

-- ---- the rows of a loop
abbrev pub Rows : Type 0
Rows = Vec Combination Global

pub rows_refused : (w : Result (List Form) LinearFault) (rows : List Form) (x : LinearFault) → Meets {B = Rows} w (λ (v : Rows). v.items) (Err x) → Meets {B = Rows} (rows_then rows w) (λ (v : Rows). v.items) (Err x)
rows_refused w rows Memory m = tt
rows_refused w rows Wide m = ap (rows_then rows) m

pub going_made : (iv : Form) (g : Going) (ls ms us below : List Form) (z : ℤ) (r : Result Rows LinearFault) → ls ≡ g.lowers → ms ≡ g.lowers → us ≡ g.uppers → z ≡ g.step → all_from iv ls ≡ Ok below
    → Meets {B = Rows} (rows_then below (upper_rows ms z iv us)) (λ (v : Rows). v.items) r → Meets {B = Rows} (going_rows iv g) (λ (v : Rows). v.items) r
going_made iv g ls ms us below z r a b d e h m =
    let there : all_from iv g.lowers ≡ Ok below = sym (ap (all_from iv) a) ∙ h in
    let same : going_rows iv g ≡ rows_then below (upper_rows g.lowers g.step iv g.uppers) = ap (λ w. w >>= (λ below. rows_then below (upper_rows g.lowers g.step iv g.uppers))) there in
    subst (λ w. Meets {B = Rows} w (λ (v : Rows). v.items) r) (sym same) (subst (λ w. Meets {B = Rows} w (λ (v : Rows). v.items) r) (λ i. rows_then below (upper_rows (b i) (e i) iv (d i))) m)
