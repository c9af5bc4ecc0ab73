use Rattle.affine_verify.proofs.Walks.{plain_steps, plain_extends, plain_small}
use Rattle.affine_verify.proofs.walk.simple_stmt.Goals as goal

pub returns-clause-told : goal.returns-clause-told
returns-clause-told c = λ rest e. plain_steps c.args.stmt.now.what c.args.stmt.now.line rest c.args.scoped.now c.count.new.scoped c.plain_stmt.new.scoped c.requires.region c.count.ensures.around c.plain_stmt.result (c.plain_stmt.ensures rest e)

pub returns-clause-kept : goal.returns-clause-kept
returns-clause-kept c = λ rest e. plain_extends c.args.stmt.now.what c.args.stmt.now.line rest c.args.scoped.now c.count.new.scoped c.plain_stmt.new.scoped c.requires.region c.count.ensures.around c.plain_stmt.result c.count.ensures.kept (c.plain_stmt.ensures rest e)

pub returns-clause-small : goal.returns-clause-small
returns-clause-small c = λ rest e. plain_small c.args.stmt.now.what c.args.stmt.now.line rest c.args.scoped.now c.count.new.scoped c.plain_stmt.new.scoped c.requires.region c.count.ensures.around c.plain_stmt.result (c.plain_stmt.ensures rest e)
