use Rattle.affine_driver.proofs.Endings.{Known, exact, one_output}
use Rattle.affine_driver.proofs.laws.endings_are_exact.Goals as goal

known : goal.After-one_stage → Known
known c = record {
  texts = record {
    one_module = c.texts_are_read_exactly.ensures.one_module;
    no_place = c.texts_are_read_exactly.ensures.no_place;
    one_place = c.texts_are_read_exactly.ensures.one_place;
  };
  images = record {
    spells = c.image_texts_are_exact.ensures.one_image;
    breaks = c.image_texts_are_exact.ensures.one_rule;
    both = c.image_texts_are_exact.ensures.not_both;
  };
  lists = c.lists_one.ensures;
  stages = c.one_stage.ensures;
}

pub returns-clause-exact : goal.returns-clause-exact
returns-clause-exact c = exact (known c)

pub returns-clause-one_output : goal.returns-clause-one_output
returns-clause-one_output c = one_output (known c)
