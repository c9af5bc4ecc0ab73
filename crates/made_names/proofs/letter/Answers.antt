use Rattle.std.proofs.lemmas.Str.{encode_ascii}
use Rattle.made_names.proofs.letter.Goals as goal

pub returns : goal.returns
returns c = encode_ascii c.args.code c.requires
