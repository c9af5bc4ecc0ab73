use Rattle.std.proofs.Common.{sym}
use Rattle.nest_domain.proofs.Answering.{no_subscripts, load_subscripts, store_subscripts, other_subscripts}
use Rattle.nest_domain.proofs.domain.subscripts_of.Goals as goal

pub returns-in_default : goal.returns-in_default
returns-in_default c = sym (no_subscripts c.args.here.now (sym c.in_default.ensures.value))

pub returns-in-Load : goal.returns-in-Load
returns-in-Load c = sym (load_subscripts c.args.here.now c.in-Some.first.now c.in-Load.result c.in-Load.memref c.in-Load.at c.in-Load.ty (sym c.in-Some.ensures.value) c.in-Load.is)

pub returns-in-Store : goal.returns-in-Store
returns-in-Store c = sym (store_subscripts c.args.here.now c.in-Some.first.now c.in-Store.value c.in-Store.memref c.in-Store.at c.in-Store.ty (sym c.in-Some.ensures.value) c.in-Store.is)

pub returns-in_default-what : goal.returns-in_default-what
returns-in_default-what c = sym (other_subscripts c.args.here.now c.in-Some.first.now (sym c.in-Some.ensures.value) c.in_default-what.not-Load c.in_default-what.not-Store)
