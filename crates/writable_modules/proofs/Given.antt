-- Each module that may be written is formed as the grammar has it.
use Rattle.std.proofs.Common.{ℕ, zero, suc, List, [], ◌∷◌, ◌++◌}
use Rattle.affine_ast.specs.declared.name.Name.{Name}
use Rattle.affine_ast.specs.declared.types.Access.{Access}
use Rattle.affine_ast.specs.declared.types.Bound.{Bound}
use Rattle.affine_ast.specs.declared.types.Bound.TheVariants as bound
use Rattle.affine_ast.specs.Nest.{Plain, Nest, Nothing, Loop, Branch, Does, Value, Load, Store, RawLoad, RawStore, Constant, Binary, Cast, Alloc, Dealloc, Start, Wait, Return}
use Rattle.affine_ast.specs.Parts.{results_of}
use Rattle.numbered_names.specs.Numbers.{defined}
use Rattle.printed_texts.specs.Writable.{AllWritten, BoundFits, SubscriptsFit, PlainFits, StatementsFit}
use Rattle.writable_modules.specs.Formed.{InOrder, FewInBound, FormedPlain, Formed}
use Rattle.writable_modules.specs.Law.{WrittenIsFormed}

in_order : (at : Access) → SubscriptsFit at → InOrder at
in_order at h = record { order = h.order; dims = h.dims; syms = h.syms }

few_in : (b : Bound) → BoundFits b → FewInBound b
few_in (bound.Int z) h = tt
few_in (bound.Value n) h = tt
few_in (bound.Map at) h = (h.operands.few_dims, h.operands.few_syms)

plain_formed : (p : Plain) → PlainFits p → FormedPlain p × AllWritten (results_of p)
plain_formed (Value r pick at) h = ((h.1.operands.few_dims, h.1.operands.few_syms), (h.0, tt))
plain_formed (Load r m at ty) h = (in_order at h.2, (h.0, tt))
plain_formed (Store x m at ty) h = (in_order at h.2, tt)
plain_formed (RawLoad r m at ty) h = (tt, (h.0, tt))
plain_formed (RawStore x m at ty) h = (tt, tt)
plain_formed (Constant r z ty) h = (tt, (h.0, tt))
plain_formed (Binary r op a b ty) h = (tt, (h.0, tt))
plain_formed (Cast r kind x from to) h = (tt, (h.0, tt))
plain_formed (Alloc r ty) h = (tt, (h.0, tt))
plain_formed (Dealloc m ty) h = (tt, tt)
plain_formed (Start x x_at y y_at t t_at n stride types) h = ((in_order x_at h.0.1, in_order y_at h.1.1, in_order t_at h.2.1), tt)
plain_formed (Wait t at n ty) h = (in_order at h.1, tt)
plain_formed Return h = absurd h

join : (xs ys : List Name) → AllWritten xs → AllWritten ys → AllWritten (xs ++ ys)
join [] ys h k = k
join (x ∷ xs) ys h k = (h.0, join xs ys h.1 k)

formed_of : (left : ℕ) (n : Nest) → StatementsFit left n → Formed n × AllWritten (defined n)
unfolding defined
formed_of left Nothing h = (tt, tt)
formed_of zero (Loop line v l u s body rest) h = absurd h
formed_of (suc left) (Loop line v l u s body rest) h =
    let b = formed_of left body h.4 in
    let r = formed_of (suc left) rest h.5 in
    ((h.3, few_in l h.1, few_in u h.2, b.0, r.0), (h.0, join (defined body) (defined rest) b.1 r.1))
formed_of zero (Branch line set names first has other rest) h = absurd h
formed_of (suc left) (Branch line set names first has other rest) h =
    let a = formed_of left first h.1 in
    let b = formed_of left other h.2 in
    let r = formed_of (suc left) rest h.3 in
    ((h.0.some, (h.0.operands.few_dims, h.0.operands.few_syms), a.0, b.0, r.0), join (defined first) (defined other ++ defined rest) a.1 (join (defined other) (defined rest) b.1 r.1))
formed_of left (Does line p rest) h =
    let k = plain_formed p h.0 in
    let r = formed_of left rest h.1 in
    ((k.0, r.0), join (results_of p) (defined rest) k.1 r.1)

pub written_formed : WrittenIsFormed
written_formed m h =
    let f = formed_of 39 h.stmts h.fit in
    record { name = h.name; args = h.args; stmts = h.stmts; line = h.line; body = h.body; formed = f.0; names = f.1 }
