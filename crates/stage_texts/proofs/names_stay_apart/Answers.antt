use Rattle.stage_texts.proofs.Orders.{normal_distinct}
use Rattle.stage_texts.proofs.Apart.{named_distinct, distinct_apart}
use Rattle.stage_texts.proofs.names_stay_apart.Goals as goal

pub returns-clause-renamed : goal.returns-clause-renamed
returns-clause-renamed c = named_distinct

pub returns-clause-texts : goal.returns-clause-texts
returns-clause-texts c = distinct_apart

pub returns-clause-ordered : goal.returns-clause-ordered
returns-clause-ordered c = normal_distinct
