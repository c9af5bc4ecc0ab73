use Rattle.std.proofs.Common.{◌∙◌, [], ◌∷◌, ◌++◌}
use Rattle.affine_rules.proofs.Keys.{names_more, listed_by, take_before, new_last}
use Rattle.affine_rules.proofs.scope.release.Goals as goal

pub returns-clause-names : goal.returns-clause-names
returns-clause-names c =
    names_more c.args.released.now.keys c.insert.new.self.keys c.args.name.now c.key_of.result c.key_of.ensures.text c.key_of.ensures.made
    (c.in_ok-insert.ensures.keys ∙ new_last _ c.args.released.now.keys (c.args.released.now.keys ++ c.key_of.result ∷ []) (listed_by c.args.released.now.keys c.args.name.now c.key_of.result c.key_of.ensures.text c.key_of.ensures.made ∙ c.requires))

pub returns-clause-kept : goal.returns-clause-kept
returns-clause-kept c = take_before c.args.released.now.keys (c.key_of.result ∷ []) c.insert.new.self.keys (c.in_ok-insert.ensures.keys ∙ new_last _ c.args.released.now.keys (c.args.released.now.keys ++ c.key_of.result ∷ []) (listed_by c.args.released.now.keys c.args.name.now c.key_of.result c.key_of.ensures.text c.key_of.ensures.made ∙ c.requires))
