use Rattle.mem_image.proofs.Exactness.{spells_one, breaks_one, not_both, one_of_both}
use Rattle.mem_image.proofs.ReadBack.{read_back}
use Rattle.mem_image.proofs.laws.image_texts_are_exact.Goals as goal

pub returns : goal.returns
returns c = record { one_image = spells_one; one_rule = breaks_one; not_both = not_both; one_of_both = one_of_both; read_back = read_back }
