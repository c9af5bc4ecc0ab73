use Rattle.std.proofs.Common.{rules, ◌≡◌, ◌∙◌, sym, ap, length, nat_lt, Ok}
use Rattle.std.proofs.lemmas.Result.{err_from_is_err_and}
use Rattle.constraint_set.specs.Points.{LinearSystem}
use Rattle.constraint_set.specs.Tidy.{tidied}
use Rattle.constraint_set.specs.Elimination.{raising, lowering, without, row_limit, pairs_of}
use Rattle.projection.specs.Answers.{after}
use Rattle.projection.proofs.Stepping.{in_range, raises, same_width, all_wide, step_over, step_stops, step_ends, counted, same_pairs}
use Rattle.projection.proofs.Chains.{carry}
use Rattle.projection.proofs.steps.step_rows.Goals as goal

pub returns-then-is_over-clause-value : goal.returns-then-is_over-clause-value
returns-then-is_over-clause-value c =
    let u : c.len-2.result ≡ length c.in_ok-raising.raising.items = search rules in
    let l : c.len-3.result ≡ length c.in_ok-lowering.lowering.items = search rules in
    let w : c.len.result ≡ length c.in_ok-all.all.items = search rules in
    let n = counted c.args.k c.args.rows.now.rows _ _ _ _ _ _ c.in_ok-raising.ensures.rows c.in_ok-lowering.ensures.rows c.in_ok-all.ensures.rows u l w in
    step_over c.args.k c.args.rows.now.rows (ap (nat_lt row_limit) n ∙ sym c.if-is_over.ensures)

pub push_pairs-requires-clause-wide : goal.push_pairs-requires-clause-wide
push_pairs-requires-clause-wide c =
    let r : c.deref.result.now ≡ raising c.args.k c.args.rows.now.rows = c.deref.ensures.value ∙ c.in_ok-raising.ensures.rows in
    rw r (in_range c.args.k c.args.rows.now.vars c.args.rows.now.rows c.requires c.vars-vars.ensures.wide)

pub push_pairs-requires-clause-same : goal.push_pairs-requires-clause-same
push_pairs-requires-clause-same c =
    let r : c.deref.result.now ≡ raising c.args.k c.args.rows.now.rows = c.deref.ensures.value ∙ c.in_ok-raising.ensures.rows in
    let l : c.deref-2.result.now ≡ lowering c.args.k c.args.rows.now.rows = c.deref-2.ensures.value ∙ c.in_ok-lowering.ensures.rows in
    rw (r, l) (same_width c.args.k c.args.rows.now.vars c.args.rows.now.rows c.requires c.vars-vars.ensures.wide)

pub push_pairs-requires-clause-raises : goal.push_pairs-requires-clause-raises
push_pairs-requires-clause-raises c =
    let r : c.deref.result.now ≡ raising c.args.k c.args.rows.now.rows = c.deref.ensures.value ∙ c.in_ok-raising.ensures.rows in
    rw r (raises c.args.k c.args.rows.now.vars c.args.rows.now.rows c.requires c.vars-vars.ensures.wide)

pub returns-in_err-push_pairs-clause-value : goal.returns-in_err-push_pairs-clause-value
returns-in_err-push_pairs-clause-value c =
    let u : c.len-2.result ≡ length c.in_ok-raising.raising.items = search rules in
    let l : c.len-3.result ≡ length c.in_ok-lowering.lowering.items = search rules in
    let w : c.len.result ≡ length c.in_ok-all.all.items = search rules in
    let n = counted c.args.k c.args.rows.now.rows _ _ _ _ _ _ c.in_ok-raising.ensures.rows c.in_ok-lowering.ensures.rows c.in_ok-all.ensures.rows u l w in
    let under = ap (nat_lt row_limit) n ∙ sym c.if-is_over.ensures in
    let same = same_pairs c.args.k c.args.rows.now.rows c.deref.result.now c.deref-2.result.now (c.deref.ensures.value ∙ c.in_ok-raising.ensures.rows) (c.deref-2.ensures.value ∙ c.in_ok-lowering.ensures.rows) in
    let p = err_from_is_err_and c.from_residual-in_err-push_pairs.result c.from_residual-in_err-push_pairs.ensures.1 in
    rw (p.1, p.2) (step_stops c.args.k c.args.rows.now.rows _ under (carry _ _ _ (sym same) c.in_err-push_pairs.ensures))

pub tidy-requires : goal.tidy-requires
tidy-requires c =
    let same = same_pairs c.args.k c.args.rows.now.rows c.deref.result.now c.deref-2.result.now (c.deref.ensures.value ∙ c.in_ok-raising.ensures.rows) (c.deref-2.ensures.value ∙ c.in_ok-lowering.ensures.rows) in
    let made = ap (after (without c.args.k c.args.rows.now.rows)) (sym same) ∙ ap (λ xs. after xs (pairs_of c.args.k c.deref.result.now c.deref-2.result.now)) (sym c.in_ok-all.ensures.rows) ∙ c.in_ok-push_pairs.ensures in
    let wide = all_wide c.args.k c.args.rows.now.vars c.args.rows.now.rows c.requires c.vars-vars.ensures.wide c.push_pairs.new.out.items made in
    rw (c.vars-vars.ensures.vars, c.deref-3.ensures.value) wide

pub returns-clause-value : goal.returns-clause-value
returns-clause-value c =
    let u : c.len-2.result ≡ length c.in_ok-raising.raising.items = search rules in
    let l : c.len-3.result ≡ length c.in_ok-lowering.lowering.items = search rules in
    let w : c.len.result ≡ length c.in_ok-all.all.items = search rules in
    let n = counted c.args.k c.args.rows.now.rows _ _ _ _ _ _ c.in_ok-raising.ensures.rows c.in_ok-lowering.ensures.rows c.in_ok-all.ensures.rows u l w in
    let under = ap (nat_lt row_limit) n ∙ sym c.if-is_over.ensures in
    let same = same_pairs c.args.k c.args.rows.now.rows c.deref.result.now c.deref-2.result.now (c.deref.ensures.value ∙ c.in_ok-raising.ensures.rows) (c.deref-2.ensures.value ∙ c.in_ok-lowering.ensures.rows) in
    let made = ap (after (without c.args.k c.args.rows.now.rows)) (sym same) ∙ ap (λ xs. after xs (pairs_of c.args.k c.deref.result.now c.deref-2.result.now)) (sym c.in_ok-all.ensures.rows) ∙ c.in_ok-push_pairs.ensures in
    let out = ap (λ (s : LinearSystem). s.rows) c.in_ok-out.ensures in
    step_ends c.args.k c.args.rows.now.rows c.push_pairs.new.out.items under made ∙ ap (λ rs. Ok (tidied rs)) (sym c.deref-3.ensures.value) ∙ ap Ok (sym out)
