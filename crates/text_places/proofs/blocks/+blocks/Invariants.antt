use Rattle.text_places.proofs.Blocked.{Adding}
use Rattle.text_places.proofs.Sizes.{size_of, size_of_all, size_of_region, size_of_body, size_of_both}
use Rattle.text_places.proofs.blocks.+blocks.Given as goal

abbrev pub invariant-add_all-loop-stmt : goal.invariant-add_all-loop-stmt
invariant-add_all-loop-stmt l = Adding l.depth l.stmts l.stmt-index l.initial.way.items l.way.items l.initial.out.items l.out.items

abbrev pub decreases-add_region : goal.decreases-add_region
decreases-add_region l = size_of_region l.body.now

abbrev pub decreases-add_loop : goal.decreases-add_loop
decreases-add_loop l = size_of_body l.body.now

abbrev pub decreases-add_condition : goal.decreases-add_condition
decreases-add_condition l = size_of_both l.first.now l.other.now

abbrev pub decreases-add_one : goal.decreases-add_one
decreases-add_one l = size_of l.stmt.now

abbrev pub decreases-add_all : goal.decreases-add_all
decreases-add_all l = size_of_all l.stmts.now
