use Rattle.walk_actions.proofs.environment.Environment.action.Goals as goal

pub returns-in-Constant-clause-inside : goal.returns-in-Constant-clause-inside
returns-in-Constant-clause-inside c = c.constant.ensures.inside _ _ (rw c.in-Constant.is at c.requires.names)

pub returns-in-Alloc-clause-inside : goal.returns-in-Alloc-clause-inside
returns-in-Alloc-clause-inside c = c.alloc.ensures.inside _ _

pub returns-in-Dealloc-clause-inside : goal.returns-in-Dealloc-clause-inside
returns-in-Dealloc-clause-inside c = c.dealloc.ensures.inside _ _

pub returns-in-Start-clause-inside : goal.returns-in-Start-clause-inside
returns-in-Start-clause-inside c = c.start.ensures.inside _ _

pub returns-in-Wait-clause-inside : goal.returns-in-Wait-clause-inside
returns-in-Wait-clause-inside c = c.wait.ensures.inside _ _
