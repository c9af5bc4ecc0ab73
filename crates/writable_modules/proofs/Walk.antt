-- A valid module that keeps to the limits and is formed as the grammar has it may be written.
use Rattle.std.proofs.Common.{◌≡◌, ℕ, zero, suc, ◌+◌, ◌≤◌, Bool, true, false, List, [], ◌∷◌, ◌++◌, refl, sym, ap, ◌∙◌, subst, arith}
use Rattle.std.specs.Prelude.{◌&&◌, ◌||◌, nat_le}
use Rattle.std.proofs.lemmas.Bool.{and_parts, leb-true}
use Rattle.affine_ast.specs.declared.module.Arg.{Arg}
use Rattle.affine_ast.specs.declared.name.Name.{Name}
use Rattle.affine_ast.specs.Names.{same_name}
use Rattle.affine_ast.specs.Nest.{Plain, Nest, Nothing, Loop, Branch, Does, Value, Load, Store, RawLoad, RawStore, Constant, Binary, Cast, Alloc, Dealloc, Start, Wait, Return, followed_by, nest}
use Rattle.affine_ast.specs.Parts.{results_of}
use Rattle.affine_ast.specs.Rules as rules
use Rattle.affine_ast.specs.Rules.{bound_bounded, is_in, text_within}
use Rattle.affine_ast.specs.Scope.{Totals, Around, counted, in_loop, in_condition, with_totals, behind_plain}
use Rattle.affine_ast.specs.Validity.{Told, Passed, told, then_told, rule_of_plain, rule_of_loop, rule_of_condition, rule_of_argument, behind_argument, told_arguments, told_module, outside, first_broken}
use Rattle.affine_ast.proofs.Names.{same_name-eq, same_name-refl}
use Rattle.placement_texts.specs.Own.{OwnNames, OwnNest}
use Rattle.plan_laws.specs.Limits as limits
use Rattle.numbered_names.specs.Numbers.{defined}
use Rattle.numbered_names.proofs.Apart.{is_one_of}
use Rattle.numbered_names.proofs.Arguments.{names_of}
use Rattle.numbered_names.proofs.Owned.{OwnScope, put_own, text_own}
use Rattle.printed_texts.specs.Writable.{IsWritten, AllWritten, StatementsFit, ArgumentsFit}
use Rattle.printed_texts.proofs.Writing.{written_spells}
use Rattle.valid_laws.proofs.Passing.{judged_passed, then_passed, plain_holds, loop_holds, condition_holds, passed_of}
use Rattle.writable_modules.specs.Formed.{Formed}
use Rattle.writable_modules.specs.Law.{ValidMayBeWritten, WrittenIsSpelled}
use Rattle.writable_modules.proofs.Kept.{Limited, keeps}
use Rattle.writable_modules.proofs.Types.{ScopeFits, put_fits, argument_fits, behind_fits}
use Rattle.writable_modules.proofs.Plain.{bound_may, condition_may, plain_may}

-- ---- regions

record Room (a : Around) : Type 0 where
  loops : a.loops ≤ 16
  ifs : a.ifs ≤ 16

room : (a : Around) → text_within a ≡ true → Room a
room a h =
    let one = and_parts (nat_le a.totals.statements 65536) (nat_le a.loops 16 && nat_le a.ifs 16) h in
    let two = and_parts (nat_le a.loops 16) (nat_le a.ifs 16) one.1 in
    record { loops = leb-true a.loops 16 two.0; ifs = leb-true a.ifs 16 two.1 }

no_room : (a : Around) → Room a → zero + (a.loops + a.ifs) ≡ 39 → ⊥
no_room a r e = let l = r.loops in let i = r.ifs in omega (arith, l, i, e)

followed_nothing : (n : Nest) → followed_by n Nothing ≡ n
followed_nothing Nothing = refl
followed_nothing (Loop line v l u s body rest) = ap (Loop line v l u s body) (followed_nothing rest)
followed_nothing (Branch line set names first has other rest) = ap (Branch line set names first has other) (followed_nothing rest)
followed_nothing (Does line p rest) = ap (Does line p) (followed_nothing rest)

-- ---- statements
behind_room : (p : Plain) (a : Around) → (behind_plain p a).loops + (behind_plain p a).ifs ≡ a.loops + a.ifs
behind_room (Value r pick at) a = refl
behind_room (Load r m at ty) a = refl
behind_room (Store x m at ty) a = refl
behind_room (RawLoad r m at ty) a = refl
behind_room (RawStore x m at ty) a = refl
behind_room (Constant r z ty) a = refl
behind_room (Binary r op x y ty) a = refl
behind_room (Cast r kind x from to) a = refl
behind_room (Alloc r ty) a = refl
behind_room (Dealloc m ty) a = refl
behind_room (Start x x_at y y_at t t_at n stride types) a = refl
behind_room (Wait t at n ty) a = refl
behind_room Return a = refl

module _ (own : Name → Bool) (written : (n : Name) → own n ≡ true → IsWritten n) where
  statements_may : (n b : Nest) (a : Around) (t : Totals) (left : ℕ) → told (followed_by n b) a ≡ Passed t → ScopeFits a.scope → left + (a.loops + a.ifs) ≡ 39 → OwnNest own n → Limited n → Formed n → StatementsFit left n
  unfolding told
  statements_may Nothing b a t left e s r o l f = tt
  statements_may (Loop line v lower upper step body rest) b a t zero e s r o l f =
      let j = judged_passed line (rule_of_loop (counted a) v lower upper step) _ t e in
      absurd (no_room (counted a) (room (counted a) (loop_holds (counted a) v lower upper step j.0).text) r)
  statements_may (Loop line v lower upper step body rest) b a t (suc left) e s r o l f =
      let j = judged_passed line (rule_of_loop (counted a) v lower upper step) _ t e in
      let k = loop_holds (counted a) v lower upper step j.0 in
      let p = then_passed (told body (in_loop v lower upper (counted a))) (λ t. told (followed_by rest b) (with_totals t (counted a))) t j.1 in
      let ls = and_parts (limits.bound_fits lower) (limits.bound_fits upper) l.0 in
      let fs = and_parts (rules.bound_fits lower) (rules.bound_fits upper) k.fits in
      let bs = and_parts (bound_bounded a.scope lower) (bound_bounded a.scope upper) k.bounded in
      let whole = subst (λ m. told m (in_loop v lower upper (counted a)) ≡ Passed p.0) (sym (followed_nothing body)) p.1 in (
        written v o.0,
        bound_may own written a.scope lower o.1 ls.0 fs.0 bs.0 f.1,
        bound_may own written a.scope upper o.2 ls.1 fs.1 bs.1 f.2,
        f.0,
        statements_may body Nothing (in_loop v lower upper (counted a)) p.0 left whole (put_fits a.scope v _ tt s) (omega (arith, r)) o.3 l.1 f.3,
        statements_may rest b (with_totals p.0 (counted a)) t (suc left) p.2 s r o.4 l.2 f.4,
      )
  statements_may (Branch line set names first has other rest) b a t zero e s r o l f =
      let j = judged_passed line (rule_of_condition (counted a) set names) _ t e in
      absurd (no_room (counted a) (room (counted a) (condition_holds (counted a) set names j.0).text) r)
  statements_may (Branch line set names first has other rest) b a t (suc left) e s r o l f =
      let j = judged_passed line (rule_of_condition (counted a) set names) _ t e in
      let k = condition_holds (counted a) set names j.0 in
      let p = then_passed (told first (in_condition (counted a))) (λ t. then_told (told other (in_condition (with_totals t (counted a)))) (λ u. told (followed_by rest b) (with_totals u (counted a)))) t j.1 in
      let q = then_passed (told other (in_condition (with_totals p.0 (counted a)))) (λ u. told (followed_by rest b) (with_totals u (counted a))) t p.2 in
      let one = subst (λ m. told m (in_condition (counted a)) ≡ Passed p.0) (sym (followed_nothing first)) p.1 in
      let two = subst (λ m. told m (in_condition (with_totals p.0 (counted a))) ≡ Passed q.0) (sym (followed_nothing other)) q.1 in (
        condition_may own written a.scope set names o.0 l.0 k.fits f.0 k.bounded f.1,
        statements_may first Nothing (in_condition (counted a)) p.0 left one s (omega (arith, r)) o.1 l.1 f.2,
        statements_may other Nothing (in_condition (with_totals p.0 (counted a))) q.0 left two s (omega (arith, r)) o.2 l.2 f.3,
        statements_may rest b (with_totals q.0 (counted a)) t (suc left) q.2 s r o.3 l.3 f.4,
      )
  statements_may (Does line p rest) b a t left e s r o l f =
      let j = judged_passed line (rule_of_plain (counted a) p (followed_by rest b)) _ t e in
      let k = plain_holds (counted a) p (followed_by rest b) j.0 in
      let same = behind_room p (counted a) in (
        plain_may own written (counted a) p (followed_by rest b) k s o.0 l.0 f.0,
        statements_may rest b (behind_plain p (counted a)) t left j.1 (behind_fits p (counted a) (followed_by rest b) k s) (omega (arith, same, r)) o.1 l.1 f.1,
      )

own_front : (own : Name → Bool) (a b : Nest) → OwnNest own (followed_by a b) → OwnNest own a
own_front own Nothing b h = tt
own_front own (Loop line v l u s body rest) b h = (h.0, h.1, h.2, h.3, own_front own rest b h.4)
own_front own (Branch line set names first has other rest) b h = (h.0, h.1, h.2, own_front own rest b h.3)
own_front own (Does line p rest) b h = (h.0, own_front own rest b h.1)

-- ---- names
pub names_front : (a : Nest) (line : ℕ) → defined (followed_by a (Does line Return Nothing)) ≡ defined a
unfolding defined
names_front Nothing line = refl
names_front (Loop last v l u s body rest) line = ap (λ ns. v ∷ defined body ++ ns) (names_front rest line)
names_front (Branch last set names first has other rest) line = ap (λ ns. defined first ++ (defined other ++ ns)) (names_front rest line)
names_front (Does last p rest) line = ap (λ ns. results_of p ++ ns) (names_front rest line)

one_written : (ns : List Name) (n : Name) → AllWritten ns → is_one_of ns n ≡ true → IsWritten n
one_written [] n w h = absurd (let e : false ≡ true = h in cc)
one_written (x ∷ ns) n w h = by (same_name x n) refl h (λ k. one_written ns n w.1 k)
  where
    by : (t : Bool) → same_name x n ≡ t → (t || is_one_of ns n) ≡ true → (is_one_of ns n ≡ true → IsWritten n) → IsWritten n
    by true t h again = subst IsWritten (same_name-eq x n t) w.0
    by false t h again = again h

pub join_written : (xs ys : List Name) → AllWritten xs → AllWritten ys → AllWritten (xs ++ ys)
join_written [] ys h k = k
join_written (x ∷ xs) ys h k = (h.0, join_written xs ys h.1 k)

pub arguments_written : (args : List Arg) → ArgumentsFit args → AllWritten (names_of args)
arguments_written [] h = tt
arguments_written (arg ∷ args) h = (h.0.name, arguments_written args h.1)

right_true : (t : Bool) → (t || true) ≡ true
right_true true = refl
right_true false = refl

owned : (xs names : List Name) → ((n : Name) → is_one_of xs n ≡ true → is_one_of names n ≡ true) → OwnNames (is_one_of names) xs
owned [] names h = tt
owned (x ∷ xs) names h = (
  h x (ap (λ t. t || is_one_of xs x) (same_name-refl x)),
  owned xs names (λ n k. h n (ap (λ t. same_name x n || t) k ∙ right_true (same_name x n))),
)

one_right : (xs ys : List Name) (n : Name) → is_one_of ys n ≡ true → is_one_of (xs ++ ys) n ≡ true
one_right [] ys n h = h
one_right (x ∷ xs) ys n h = ap (λ t. same_name x n || t) (one_right xs ys n h) ∙ right_true (same_name x n)

one_left : (xs ys : List Name) (n : Name) → is_one_of xs n ≡ true → is_one_of (xs ++ ys) n ≡ true
one_left [] ys n h = absurd (let e : false ≡ true = h in cc)
one_left (x ∷ xs) ys n h = by (same_name x n) h (λ k. one_left xs ys n k)
  where
    by : (t : Bool) → (t || is_one_of xs n) ≡ true → (is_one_of xs n ≡ true → is_one_of (xs ++ ys) n ≡ true) → (t || is_one_of (xs ++ ys) n) ≡ true
    by true h again = refl
    by false h again = again h

-- ---- arguments
module _ (own : Name → Bool) where
  record Behind (body : Around → Told) (t : Totals) (loops ifs : ℕ) : Type 0 where
    around : Around
    told : body around ≡ Passed t
    fits : ScopeFits around.scope
    scope : OwnScope own around.scope
    loops_are : around.loops ≡ loops
    ifs_are : around.ifs ≡ ifs

  behind : (args : List Arg) (body : Around → Told) (a : Around) (t : Totals) → ArgumentsFit args → OwnNames own (names_of args) → ScopeFits a.scope → OwnScope own a.scope → told_arguments args body a ≡ Passed t → Behind body t a.loops a.ifs
  unfolding told_arguments
  behind [] body a t f o s h e = record { around = a; told = e; fits = s; scope = h; loops_are = refl; ifs_are = refl }
  behind (arg ∷ args) body a t f o s h e =
      let j = judged_passed arg.line (rule_of_argument a arg.name arg.kind) _ t e in
      behind args body (behind_argument arg.name arg.kind a) t f.1 o.1 (argument_fits a.scope arg.name arg.kind f.0.kind s) (put_own own a.scope arg.name _ o.0 h) j.1

-- ---- the module
none_in : (own : Name → Bool) → OwnScope own outside.scope
unfolding is_in
none_in own x h = absurd (let e : false ≡ true = h in cc)

pub valid_written : ValidMayBeWritten
unfolding first_broken told_module
valid_written m valid limit f =
    let names = names_of m.args ++ defined f.stmts in
    let own = is_one_of names in
    let written = λ (n : Name) (h : own n ≡ true). one_written names n (join_written (names_of m.args) (defined f.stmts) (arguments_written m.args f.args) f.names) h in
    let passed = passed_of (told_module m) valid in
    let b = behind own m.args (told (nest m.body)) outside passed.0 f.args (owned (names_of m.args) names (λ n h. one_left (names_of m.args) (defined f.stmts) n h)) (λ n. tt) (none_in own) passed.1 in
    let whole = subst (λ n. told n b.around ≡ Passed passed.0) f.body b.told in
    let defines = subst (OwnNames own) (sym (names_front f.stmts f.line)) (owned (defined f.stmts) names (λ n h. one_right (names_of m.args) (defined f.stmts) n h)) in
    let all_own = own_front own f.stmts (Does f.line Return Nothing) (text_own own (followed_by f.stmts (Does f.line Return Nothing)) b.around passed.0 whole b.scope defines) in
    let k = keeps m.args (nest m.body) f.stmts (Does f.line Return Nothing) f.body limit in
    let l = b.loops_are in
    let i = b.ifs_are in
    record {
      name = f.name;
      args = f.args;
      stmts = f.stmts;
      line = f.line;
      body = f.body;
      fit = statements_may own written f.stmts (Does f.line Return Nothing) b.around passed.0 39 whole b.fits (omega (arith, l, i)) all_own k.limited f.formed;
      operands = k.operands;
    }

pub written_spelled : WrittenIsSpelled
written_spelled m valid limit f comments lines =
    let n = written_spells m (valid_written m valid limit f) comments lines in
    record { printed = n.0; same = n.1.0; spelled = n.1.1 }
