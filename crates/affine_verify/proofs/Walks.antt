-- The walk over the statements.
use Rattle.std.proofs.Common.{◌≡◌, ℤ, ℕ, ◌+◌, ◌<◌, ◌≤◌, true, false, List, [], ◌∷◌, take, drop, length, get_or, refl, sym, ap, subst, ◌∙◌, arith}
use Rattle.std.specs.Prelude.{◌&&◌, not, Option, Some, None, Result, Ok, Err, OnOk, is_err, nat_le}
use Rattle.std.proofs.lemmas.Bool.{and_parts}
use Rattle.affine_expr.specs.declared.map.Set.{Set}
use Rattle.affine_ast.specs.declared.name.Name.{Name}
use Rattle.affine_ast.specs.declared.types.Bound.{Bound}
use Rattle.affine_ast.specs.declared.stmt.Stmt.{Stmt}
use Rattle.affine_ast.specs.declared.stmt.What as what
use Rattle.affine_ast.specs.declared.stmt.What.{What}
use Rattle.affine_ast.specs.Nest.{Nest, Nothing, nest, put_what, plain_of, is_region}
use Rattle.affine_ast.specs.Parts.{Effect, NewIndex, effect_of}
use Rattle.affine_ast.specs.Rules.{text_within, is_in, bound_fits, bound_pure, bound_bounded, step_positive, are_in, operands_stand, set_fits, set_pure, set_bounded}
use Rattle.affine_ast.specs.Scope.{Totals, Around, counted, in_loop, in_condition, with_totals, behind_effect, behind_plain}
use Rattle.affine_ast.specs.Validity.{Told, Broken, Passed, judged, then_told, told, rule_of_plain, rule_of_loop, rule_of_condition}
use Rattle.affine_ast.proofs.Nests.{put-For, put-If, put-If-else, nest-nil}
use Rattle.affine_rules.specs.declared.scope.Scoped.{Scoped}
use Rattle.affine_rules.specs.declared.scope.Totals as code
use Rattle.affine_rules.specs.Scoped.{around_of, totals_of, scope_of, names_of}
use Rattle.affine_verify.specs.declared.fault.VerifyFault.{VerifyFault}
use Rattle.affine_verify.specs.declared.fault.VerifyFault.TheVariants.{Invalid, Memory}
use Rattle.affine_verify.specs.Comes.{Comes, Steps, Extends, Plainly, Enters}
use Rattle.affine_ast.proofs.Nests.{put_plain}
use Rattle.affine_verify.proofs.Released.{rest_step, rest_end}
use Rattle.affine_verify.proofs.PlainlyLaws.{holds, rule_held, extends_self}

-- ---- what is told of a statement before others

pub told-plain : (w : What) (line : ℕ) (rest : Nest) (a : Around) → is_region w ≡ false
    → told (put_what w line rest) a ≡ judged line (rule_of_plain (counted a) (plain_of w) rest) (told rest (behind_plain (plain_of w) (counted a)))
unfolding told
told-plain w line rest a h = ap (λ n. told n a) (put_plain w line rest h)

pub told-For : (line : ℕ) (rest : Nest) (a : Around) (v : Name) (l u : Bound) (s : ℤ) (body : List Stmt)
    → told (put_what (what.For v l u s body) line rest) a ≡ judged line (rule_of_loop (counted a) v l u s) (then_told (told (nest body) (in_loop v l u (counted a))) (λ t. told rest (with_totals t a)))
unfolding told
told-For line rest a v l u s body = ap (λ n. told n a) (put-For line rest v l u s body)

pub nest_of : Option (List Stmt) → Nest
nest_of None = Nothing
nest_of (Some other) = nest other

pub told-If : (line : ℕ) (rest : Nest) (a : Around) (set : Set) (names : List Name) (first : List Stmt)
    → told (put_what (what.If set names first None) line rest) a
    ≡ judged line (rule_of_condition (counted a) set names) (then_told (told (nest first) (in_condition (counted a))) (λ t. told rest (with_totals t a)))
unfolding told
told-If line rest a set names first = ap (λ n. told n a) (put-If line rest set names first)

pub told-If-else : (line : ℕ) (rest : Nest) (a : Around) (set : Set) (names : List Name) (first other : List Stmt)
    → told (put_what (what.If set names first (Some other)) line rest) a
    ≡ judged line (rule_of_condition (counted a) set names) (then_told (told (nest first) (in_condition (counted a))) (λ t. then_told (told (nest other) (in_condition (with_totals t a))) (λ u. told rest (with_totals u a))))
unfolding told
told-If-else line rest a set names first other = ap (λ n. told n a) (put-If-else line rest set names first other)

pub told-nil : (a : Around) → told (nest []) a ≡ Passed a.totals
unfolding told
told-nil a = ap (λ n. told n a) nest-nil

-- ---- names in scope

pub prefix : {X : Type 0} (xs ys zs : List X) → take (length xs) ys ≡ xs → take (length ys) zs ≡ ys → take (length xs) zs ≡ xs
prefix [] ys zs h k = refl
prefix (x ∷ xs) [] zs h k = absurd (let z : ⊥ = cc in z)
prefix (x ∷ xs) (y ∷ ys) [] h k = absurd (let z : ⊥ = cc in z)
prefix (x ∷ xs) (y ∷ ys) (z ∷ zs) h k = λ i. (ap (λ l. get_or l 0 z) k ∙ ap (λ l. get_or l 0 z) h) i ∷ prefix xs ys zs (ap (drop 1) h) (ap (drop 1) k) i

pub extends_both : (a b c : Scoped) → Extends a b → Extends b c → Extends a c
extends_both a b c e f = record {
  names = prefix a.names.entries b.names.entries c.names.entries e.names f.names;
  released = prefix a.released.keys b.released.keys c.released.keys e.released f.released;
  loops = f.loops ∙ e.loops;
  ifs = f.ifs ∙ e.ifs;
}

-- ---- plain statements

statements_kept : (x : Effect) (a : Around) → (behind_effect x a).totals.statements ≡ a.totals.statements
statements_kept (NewIndex r pick at) a = refl
statements_kept x a = refl

within_text : (a : Around) → text_within a ≡ true → a.totals.statements ≤ 65536
within_text a h = let two = and_parts (nat_le a.totals.statements 65536) (nat_le a.loops 16 && nat_le a.ifs 16) h in grind (arith, two.0)

module _ (w : What) (line : ℕ) (rest : Nest) (old mid new : Scoped) (region : is_region w ≡ false) (start : around_of mid ≡ counted (around_of old)) where
  before : told (put_what w line rest) (around_of old) ≡ judged line (rule_of_plain (around_of mid) (plain_of w) rest) (told rest (behind_plain (plain_of w) (around_of mid)))
  before = told-plain w line rest (around_of old) region ∙ ap (λ a. judged line (rule_of_plain a (plain_of w) rest) (told rest (behind_plain (plain_of w) a))) (sym start)

  pub plain_steps : (r : Result (Unit {0}) VerifyFault) → Plainly r line (plain_of w) rest mid new → Steps r (told (put_what w line rest) (around_of old)) (told rest (around_of new))
  plain_steps (Ok done) h = before ∙ ap (λ o. judged line o (told rest (behind_plain (plain_of w) (around_of mid)))) h.0 ∙ ap (told rest) (sym h.1)
  plain_steps (Err (Invalid at number)) h = before ∙ ap (λ o. judged line o (told rest (behind_plain (plain_of w) (around_of mid)))) h.1 ∙ ap (λ l. Broken l number) (sym h.0)
  plain_steps (Err Memory) h = tt

  pub plain_extends : (r : Result (Unit {0}) VerifyFault) → Extends old mid → Plainly r line (plain_of w) rest mid new → OnOk r (Extends old new)
  plain_extends (Ok done) e h = extends_both old mid new e h.2
  plain_extends (Err (Invalid at number)) e h = tt
  plain_extends (Err Memory) e h = tt

  pub plain_small : (r : Result (Unit {0}) VerifyFault) → Plainly r line (plain_of w) rest mid new → OnOk r (new.totals.statements ≤ 65536)
  plain_small (Ok done) h =
      subst (λ n. n ≤ 65536) (sym (statements_kept (effect_of (plain_of w)) (around_of mid)) ∙ ap (λ a. a.totals.statements) (sym h.1)) (within_text (around_of mid) (holds (around_of mid) (plain_of w) rest h.0).text)
  plain_small (Err (Invalid at number)) h = tt
  plain_small (Err Memory) h = tt

-- ---- loops and conditions

-- what holds of a loop that breaks no rule by itself
pub record LoopHolds (a : Around) (v : Name) (l u : Bound) (s : ℤ) : Type 0 where
  pub new_name : not (is_in a.scope v) ≡ true
  pub fits : (bound_fits l && bound_fits u) ≡ true
  pub lower_pure : bound_pure l ≡ true
  pub upper_pure : bound_pure u ≡ true
  pub bounded : (bound_bounded a.scope l && bound_bounded a.scope u) ≡ true
  pub text : text_within a ≡ true

pub loop_holds : (a : Around) (v : Name) (l u : Bound) (s : ℤ) → rule_of_loop a v l u s ≡ None → LoopHolds a v l u s
unfolding rule_of_loop
loop_holds a v l u s h =
    let r1 = rule_held 1 _ _ h in
    let r2 = rule_held 2 _ _ r1.1 in
    let r4 = rule_held 4 _ _ r2.1 in
    let r7 = rule_held 7 _ _ r4.1 in
    let r8 = rule_held 8 _ _ r7.1 in
    let r9 = rule_held 9 _ _ r8.1 in
    let r12 = rule_held 12 _ _ r9.1 in
    let pure = and_parts (bound_pure l) (bound_pure u && step_positive s) r8.0 in
    record { new_name = r2.0; fits = r7.0; lower_pure = pure.0; upper_pure = (and_parts (bound_pure u) (step_positive s) pure.1).0; bounded = r9.0; text = r12.0 }

-- a head that breaks a rule
pub head_broken : (e : VerifyFault) (line : ℕ) (found : Option ℕ) (inner : Around) (old new : Scoped) (more b after : Told) → Enters (Err e) line found inner old new → b ≡ judged line found more → Steps (Err e) b after
head_broken (Invalid at number) line found inner old new more b after h is = is ∙ ap (λ o. judged line o more) h.1 ∙ ap (λ l. Broken l number) (sym h.0)
head_broken Memory line found inner old new more b after h is = tt

-- a region in which a rule is broken
pub region_broken : (e : VerifyFault) (inside : Told) (totals : Totals) (more : Totals → Told) (b after : Told) → Comes (Err e) inside totals → b ≡ then_told inside more → Steps (Err e) b after
region_broken (Invalid at number) inside totals more b after h is = is ∙ ap (λ t. then_told t more) h
region_broken Memory inside totals more b after h is = tt

-- what stands round the statements behind a region
pub around_behind : (old end new : Scoped) (ts : code.Totals) → take (length old.names.entries) end.names.entries ≡ old.names.entries → take (length old.released.keys) end.released.keys ≡ old.released.keys
    → new.names.entries ≡ take (length old.names.entries) end.names.entries → new.released.keys ≡ take (length old.released.keys) end.released.keys → new.loops ≡ old.loops → new.ifs ≡ old.ifs → new.totals ≡ ts
    → around_of new ≡ with_totals (totals_of ts) (around_of old)
around_behind old end new ts n r m s l f t = λ i. record { scope = scope_of ((m ∙ n) i); released = names_of ((s ∙ r) i); loops = l i; ifs = f i; totals = totals_of (t i) }

pub extends_behind : (old end new : Scoped) → take (length old.names.entries) end.names.entries ≡ old.names.entries → take (length old.released.keys) end.released.keys ≡ old.released.keys
    → new.names.entries ≡ take (length old.names.entries) end.names.entries → new.released.keys ≡ take (length old.released.keys) end.released.keys → new.loops ≡ old.loops → new.ifs ≡ old.ifs → Extends old new
extends_behind old end new n r m s l f = record {
  names = ap (take (length old.names.entries)) (m ∙ n) ∙ (extends_self old).names;
  released = ap (take (length old.released.keys)) (s ∙ r) ∙ (extends_self old).released;
  loops = l;
  ifs = f;
}

module _ (w : What) (line : ℕ) (rest : Nest) (old mid : Scoped) (start : around_of mid ≡ counted (around_of old)) where
  pub loop_before : (v : Name) (l u : Bound) (s : ℤ) (body : List Stmt) → w ≡ what.For v l u s body
      → told (put_what w line rest) (around_of old) ≡ judged line (rule_of_loop (around_of mid) v l u s) (then_told (told (nest body) (in_loop v l u (around_of mid))) (λ t. told rest (with_totals t (around_of old))))
  loop_before v l u s body is =
      ap (λ x. told (put_what x line rest) (around_of old)) is ∙ told-For line rest (around_of old) v l u s body
      ∙ ap (λ a. judged line (rule_of_loop a v l u s) (then_told (told (nest body) (in_loop v l u a)) (λ t. told rest (with_totals t (around_of old))))) (sym start)

  abbrev pub behind_first : Option (List Stmt) → Totals → Told
  behind_first None t = told rest (with_totals t (around_of old))
  behind_first (Some other) t = then_told (told (nest other) (in_condition (with_totals t (around_of old)))) (λ u. told rest (with_totals u (around_of old)))

  pub condition_before : (set : Set) (names : List Name) (first : List Stmt) (other : Option (List Stmt)) → w ≡ what.If set names first other
      → told (put_what w line rest) (around_of old) ≡ judged line (rule_of_condition (around_of mid) set names) (then_told (told (nest first) (in_condition (around_of mid))) (behind_first other))
  condition_before set names first None is =
      ap (λ x. told (put_what x line rest) (around_of old)) is ∙ told-If line rest (around_of old) set names first
      ∙ ap (λ a. judged line (rule_of_condition a set names) (then_told (told (nest first) (in_condition a)) (behind_first None))) (sym start)
  condition_before set names first (Some other) is =
      ap (λ x. told (put_what x line rest) (around_of old)) is ∙ told-If-else line rest (around_of old) set names first other
      ∙ ap (λ a. judged line (rule_of_condition a set names) (then_told (told (nest first) (in_condition a)) (behind_first (Some other)))) (sym start)

  -- a loop whose body passes
  pub loop_ends : (v : Name) (l u : Bound) (s : ℤ) (body ss : List Stmt) (s1 new : Scoped) (ts : Totals) → w ≡ what.For v l u s body → ss ≡ body → rule_of_loop (around_of mid) v l u s ≡ None
      → around_of s1 ≡ in_loop v l u (around_of mid) → told (nest ss) (around_of s1) ≡ Passed ts → around_of new ≡ with_totals ts (around_of old) → told (put_what w line rest) (around_of old) ≡ told rest (around_of new)
  loop_ends v l u s body ss s1 new ts is same none inner passed behind =
      loop_before v l u s body is
      ∙ ap (λ o. judged line o (then_told (told (nest body) (in_loop v l u (around_of mid))) (λ t. told rest (with_totals t (around_of old))))) none
      ∙ ap (λ t. then_told t (λ t. told rest (with_totals t (around_of old)))) ((λ i. told (nest (sym same i)) (sym inner i)) ∙ passed)
      ∙ ap (told rest) (sym behind)

  pub loop_inside : (v : Name) (l u : Bound) (s : ℤ) (body ss : List Stmt) (s1 : Scoped) → w ≡ what.For v l u s body → ss ≡ body → rule_of_loop (around_of mid) v l u s ≡ None
      → around_of s1 ≡ in_loop v l u (around_of mid) → told (put_what w line rest) (around_of old) ≡ then_told (told (nest ss) (around_of s1)) (λ t. told rest (with_totals t (around_of old)))
  loop_inside v l u s body ss s1 is same none inner =
      loop_before v l u s body is
      ∙ ap (λ o. judged line o (then_told (told (nest body) (in_loop v l u (around_of mid))) (λ t. told rest (with_totals t (around_of old))))) none
      ∙ ap (λ t. then_told t (λ t. told rest (with_totals t (around_of old)))) (λ i. told (nest (sym same i)) (sym inner i))

  pub loop_breaks : (v : Name) (l u : Bound) (s : ℤ) (body ss : List Stmt) (s1 : Scoped) (ts : Totals) (e : VerifyFault) (after : Told) → w ≡ what.For v l u s body → ss ≡ body → rule_of_loop (around_of mid) v l u s ≡ None
      → around_of s1 ≡ in_loop v l u (around_of mid) → Comes (Err e) (told (nest ss) (around_of s1)) ts → Steps (Err e) (told (put_what w line rest) (around_of old)) after
  loop_breaks v l u s body ss s1 ts e after is same none inner broken =
      region_broken e (told (nest ss) (around_of s1)) ts (λ t. told rest (with_totals t (around_of old))) (told (put_what w line rest) (around_of old)) after broken
      (loop_before v l u s body is
      ∙ ap (λ o. judged line o (then_told (told (nest body) (in_loop v l u (around_of mid))) (λ t. told rest (with_totals t (around_of old))))) none
      ∙ ap (λ t. then_told t (λ t. told rest (with_totals t (around_of old)))) (λ i. told (nest (sym same i)) (sym inner i)))

  -- a condition up to its first region
  pub first_before : (set : Set) (names names' : List Name) (first ss : List Stmt) (other : Option (List Stmt)) (s1 : Scoped) → w ≡ what.If set names first other → names' ≡ names → ss ≡ first
      → rule_of_condition (around_of mid) set names' ≡ None → around_of s1 ≡ in_condition (around_of mid) → told (put_what w line rest) (around_of old) ≡ then_told (told (nest ss) (around_of s1)) (behind_first other)
  first_before set names names' first ss other s1 is n same none inner =
      condition_before set names first other is
      ∙ ap (λ o. judged line o (then_told (told (nest first) (in_condition (around_of mid))) (behind_first other))) (ap (rule_of_condition (around_of mid) set) (sym n) ∙ none)
      ∙ ap (λ t. then_told t (behind_first other)) (λ i. told (nest (sym same i)) (sym inner i))

  -- and behind it
  pub first_ends : (inside : Told) (other : Option (List Stmt)) (ts : Totals) → told (put_what w line rest) (around_of old) ≡ then_told inside (behind_first other) → inside ≡ Passed ts
      → told (put_what w line rest) (around_of old) ≡ behind_first other ts
  first_ends inside other ts b passed = b ∙ ap (λ t. then_told t (behind_first other)) passed

  pub condition_ends : (other : Option (List Stmt)) (ts : Totals) (new : Scoped) → other ≡ None → told (put_what w line rest) (around_of old) ≡ behind_first other ts → around_of new ≡ with_totals ts (around_of old)
      → told (put_what w line rest) (around_of old) ≡ told rest (around_of new)
  condition_ends other ts new none b behind = b ∙ ap (λ o. behind_first o ts) none ∙ ap (told rest) (sym behind)

  pub second_before : (other : Option (List Stmt)) (second ss : List Stmt) (ts : Totals) (s1 s3 : Scoped) → other ≡ Some second → ss ≡ second → told (put_what w line rest) (around_of old) ≡ behind_first other ts
      → around_of s1 ≡ in_condition (around_of mid) → around_of s3 ≡ with_totals ts (around_of s1)
      → told (put_what w line rest) (around_of old) ≡ then_told (told (nest ss) (around_of s3)) (λ u. told rest (with_totals u (around_of old)))
  second_before other second ss ts s1 s3 some same b inner behind =
      b ∙ ap (λ o. behind_first o ts) some
      ∙ ap (λ t. then_told t (λ u. told rest (with_totals u (around_of old)))) (λ i. told (nest (sym same i)) (sym (behind ∙ ap (with_totals ts) (inner ∙ ap in_condition start)) i))

  pub second_ends : (inside : Told) (ts : Totals) (new : Scoped) → told (put_what w line rest) (around_of old) ≡ then_told inside (λ u. told rest (with_totals u (around_of old))) → inside ≡ Passed ts
      → around_of new ≡ with_totals ts (around_of old) → told (put_what w line rest) (around_of old) ≡ told rest (around_of new)
  second_ends inside ts new b passed behind = b ∙ ap (λ t. then_told t (λ u. told rest (with_totals u (around_of old)))) passed ∙ ap (told rest) (sym behind)

-- the list, one statement on and at the end
pub list_step : (xs : List Stmt) (i : ℕ) (x : Stmt) (a : Around) → i < length xs → x ≡ get_or xs i x → told (nest (drop i xs)) a ≡ told (put_what x.what x.line (nest (drop (i + 1) xs))) a
list_step xs i x a h is = ap (λ n. told n a) (rest_step xs i x h is)

pub list_end : (xs : List Stmt) (i : ℕ) (a : Around) → length xs ≤ i → told (nest (drop i xs)) a ≡ Passed a.totals
list_end xs i a h = ap (λ n. told n a) (rest_end xs i h) ∙ told-nil a

pub list_breaks : (e : VerifyFault) (b t after : Told) (ts : Totals) → b ≡ t → Steps (Err e) t after → Comes (Err e) b ts
list_breaks (Invalid at number) b t after ts is h = is ∙ h
list_breaks Memory b t after ts is h = tt

pub text_small : (a : Around) → text_within a ≡ true → (a.totals.statements ≤ 65536) × (a.loops ≤ 16) × (a.ifs ≤ 16)
text_small a h =
    let two = and_parts (nat_le a.totals.statements 65536) (nat_le a.loops 16 && nat_le a.ifs 16) h in
    let more = and_parts (nat_le a.loops 16) (nat_le a.ifs 16) two.1 in
    (grind (arith, two.0), grind (arith, more.0), grind (arith, more.1))

-- what holds of a condition that breaks no rule by itself
pub record ConditionHolds (a : Around) (set : Set) (names : List Name) : Type 0 where
  pub uses : are_in a.scope names ≡ true
  pub stand : operands_stand a.scope set.dims names ≡ true
  pub fits : set_fits set names ≡ true
  pub pure : set_pure set ≡ true
  pub bounded : set_bounded a.scope set names ≡ true
  pub text : text_within a ≡ true

pub condition_holds : (a : Around) (set : Set) (names : List Name) → rule_of_condition a set names ≡ None → ConditionHolds a set names
unfolding rule_of_condition
condition_holds a set names h =
    let r1 = rule_held 1 _ _ h in
    let r4 = rule_held 4 _ _ r1.1 in
    let r7 = rule_held 7 _ _ r4.1 in
    let r8 = rule_held 8 _ _ r7.1 in
    let r9 = rule_held 9 _ _ r8.1 in
    let r12 = rule_held 12 _ _ r9.1 in
    record { uses = r1.0; stand = r4.0; fits = r7.0; pure = r8.0; bounded = r9.0; text = r12.0 }

-- ---- by whether a call refuses

pub on_ok : {P : Type 0} (r : Result (Unit {0}) VerifyFault) → is_err r ≡ false → OnOk r P → P
on_ok (Ok done) h p = p
on_ok (Err e) h p = absurd (let z : ⊥ = cc in z)

pub entered_ok : (r : Result (Unit {0}) VerifyFault) (line : ℕ) (found : Option ℕ) (inner : Around) (old new : Scoped) → is_err r ≡ false → Enters r line found inner old new
    → (found ≡ None) × (around_of new ≡ inner) × (take (length old.names.entries) new.names.entries ≡ old.names.entries) × (take (length old.released.keys) new.released.keys ≡ old.released.keys)
entered_ok (Ok done) line found inner old new h e = e
entered_ok (Err f) line found inner old new h e = absurd (let z : ⊥ = cc in z)

pub comes_ok : (r : Result (Unit {0}) VerifyFault) (t : Told) (totals : Totals) → is_err r ≡ false → Comes r t totals → t ≡ Passed totals
comes_ok (Ok done) t totals h c = c
comes_ok (Err f) t totals h c = absurd (let z : ⊥ = cc in z)

pub steps_ok : (r : Result (Unit {0}) VerifyFault) (a b : Told) → is_err r ≡ false → Steps r a b → a ≡ b
steps_ok (Ok done) a b h s = s
steps_ok (Err f) a b h s = absurd (let z : ⊥ = cc in z)

pub head_refused : (r : Result (Unit {0}) VerifyFault) (line : ℕ) (found : Option ℕ) (inner : Around) (old new : Scoped) (more b after : Told) → is_err r ≡ true → Enters r line found inner old new → b ≡ judged line found more → Steps r b after
head_refused (Ok done) line found inner old new more b after h e is = absurd (let z : ⊥ = cc in z)
head_refused (Err f) line found inner old new more b after h e is = head_broken f line found inner old new more b after e is

pub region_refused : (r : Result (Unit {0}) VerifyFault) (inside : Told) (totals : Totals) (more : Totals → Told) (b after : Told) → is_err r ≡ true → Comes r inside totals → b ≡ then_told inside more → Steps r b after
region_refused (Ok done) inside totals more b after h c is = absurd (let z : ⊥ = cc in z)
region_refused (Err f) inside totals more b after h c is = region_broken f inside totals more b after c is

pub list_refused : (r : Result (Unit {0}) VerifyFault) (b t after : Told) (ts : Totals) → is_err r ≡ true → b ≡ t → Steps r t after → Comes r b ts
list_refused (Ok done) b t after ts h is s = absurd (let z : ⊥ = cc in z)
list_refused (Err f) b t after ts h is s = list_breaks f b t after ts is s
