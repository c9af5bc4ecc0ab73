use Rattle.meaning_numbers.proofs.Numbers as numbers
use Rattle.meaning_numbers.proofs.direct_numbers.Goals as goal

pub returns-clause-quotients : goal.returns-clause-quotients
returns-clause-quotients c = numbers.quotients

pub returns-clause-loop_turns : goal.returns-clause-loop_turns
returns-clause-loop_turns c = numbers.loop_turns

pub returns-clause-raised : goal.returns-clause-raised
returns-clause-raised c = numbers.raised

pub returns-clause-ninth_turn : goal.returns-clause-ninth_turn
returns-clause-ninth_turn c = numbers.ninth_turn

pub returns-clause-even_turns : goal.returns-clause-even_turns
returns-clause-even_turns c = numbers.even_turns

pub returns-clause-wrapped_sum : goal.returns-clause-wrapped_sum
returns-clause-wrapped_sum c = numbers.wrapped_sum

pub returns-clause-least_by_minus_one : goal.returns-clause-least_by_minus_one
returns-clause-least_by_minus_one c = numbers.least_by_minus_one

pub returns-clause-several_results : goal.returns-clause-several_results
returns-clause-several_results c = numbers.several_results

pub returns-clause-works : goal.returns-clause-works
returns-clause-works c = numbers.works
