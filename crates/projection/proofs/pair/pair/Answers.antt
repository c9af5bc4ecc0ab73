use Rattle.std.proofs.Common.{rules, ◌≡◌, Ok, Some, None, FitsSigned}
use Rattle.std.proofs.lemmas.Int.{to_z-of_z}
use Rattle.std.proofs.lemmas.Result.{err_from_is_err_and}
use Rattle.std.specs.Int.{w128}
use Rattle.num_row.specs.Ints.{combined}
use Rattle.constraint_set.specs.Elimination.{mixed_by}
use Rattle.projection.specs.Answers.{IsRefused}
use Rattle.projection.proofs.Chains.{no_first, no_second, no_coefs, no_constant, whole_pair, shared_positive}
use Rattle.projection.proofs.pair.pair.Goals as goal

pub factor-requires : goal.factor-requires
factor-requires c = shared_positive c.args.k c.args.p.now _ _ _ c.size_at-up.ensures c.gcd-shared.ensures.greatest c.requires.raises

pub factor-requires-2 : goal.factor-requires-2
factor-requires-2 c = shared_positive c.args.k c.args.p.now _ _ _ c.size_at-up.ensures c.gcd-shared.ensures.greatest c.requires.raises

pub returns-in_err-a : goal.returns-in_err-a
returns-in_err-a c =
    let p = err_from_is_err_and c.from_residual.result c.from_residual.ensures.1 in
    rw (p.1, p.2) (no_first c.args.k c.args.p.now c.args.n.now _ _ _ c.size_at-up.ensures c.size_at-down.ensures c.gcd-shared.ensures.value _ c.in_err-a.ensures)

pub returns-in_err-b : goal.returns-in_err-b
returns-in_err-b c =
    let p = err_from_is_err_and c.from_residual-in_err-b.result c.from_residual-in_err-b.ensures.1 in
    rw (p.1, p.2) (no_second c.args.k c.args.p.now c.args.n.now _ _ _ c.size_at-up.ensures c.size_at-down.ensures c.gcd-shared.ensures.value c.in_ok-a.a _ c.in_ok-a.ensures c.in_err-b.ensures)

pub returns-in_err-coefs : goal.returns-in_err-coefs
returns-in_err-coefs c =
    let p = err_from_is_err_and c.from_residual-in_err-coefs.result c.from_residual-in_err-coefs.ensures.1 in
    let m : IsRefused (mixed_by c.in_ok-a.a c.args.p.now.coefs c.in_ok-b.b c.args.n.now.coefs) c.in_err-coefs.field-0.0 = search (rules, to_z-of_z) in
    rw (p.1, p.2) (no_coefs c.args.k c.args.p.now c.args.n.now _ _ _ c.size_at-up.ensures c.size_at-down.ensures c.gcd-shared.ensures.value c.in_ok-a.a c.in_ok-b.b _ c.in_ok-a.ensures c.in_ok-b.ensures m)

pub returns-in_default : goal.returns-in_default
returns-in_default c =
    let m : mixed_by c.in_ok-a.a c.args.p.now.coefs c.in_ok-b.b c.args.n.now.coefs ≡ Ok c.in_ok-coefs.coefs.items = search (rules, to_z-of_z) in
    let o : combined c.in_ok-a.a c.args.p.now.constant c.in_ok-b.b c.args.n.now.constant ≡ None = search (rules, to_z-of_z) in
    no_constant c.args.k c.args.p.now c.args.n.now _ _ _ c.size_at-up.ensures c.size_at-down.ensures c.gcd-shared.ensures.value c.in_ok-a.a c.in_ok-b.b _ c.in_ok-a.ensures c.in_ok-b.ensures m o

pub returns : goal.returns
returns c =
    let m : mixed_by c.in_ok-a.a c.args.p.now.coefs c.in_ok-b.b c.args.n.now.coefs ≡ Ok c.in_ok-coefs.coefs.items = search (rules, to_z-of_z) in
    let o : combined c.in_ok-a.a c.args.p.now.constant c.in_ok-b.b c.args.n.now.constant ≡ Some c.in-Some.constant = search (rules, to_z-of_z) in
    let f : FitsSigned w128 c.in-Some.constant = search rules in
    simp to_z-of_z (whole_pair c.args.k c.args.p.now c.args.n.now _ _ _ c.size_at-up.ensures c.size_at-down.ensures c.gcd-shared.ensures.value c.in_ok-a.a c.in_ok-b.b _ _ c.in_ok-a.ensures c.in_ok-b.ensures m o)
