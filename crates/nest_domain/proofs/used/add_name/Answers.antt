use Rattle.std.proofs.Common.{sym, ap, ◌∙◌, [], ◌∷◌, ◌++◌}
use Rattle.affine_rules.specs.Scoped.{names_of}
use Rattle.affine_rules.proofs.Keys.{names_more, listed_by, new_last}
use Rattle.nest_domain.proofs.Using.{put_has, kept_has}
use Rattle.nest_domain.proofs.used.add_name.Goals as goal

pub returns-in_ok-insert : goal.returns-in_ok-insert
returns-in_ok-insert c =
    let old = c.args.used.now.keys in
    let key = c.key_of.result in
    let absent = listed_by old c.args.name.now key c.key_of.ensures.text c.key_of.ensures.made ∙ sym c.is_used.ensures ∙ c.if-not-is_used.true in
    let more = names_more old c.insert.new.self.keys c.args.name.now key c.key_of.ensures.text c.key_of.ensures.made (c.in_ok-insert.ensures.keys ∙ new_last _ old (old ++ key ∷ []) absent) in
    λ m. ap (λ f. f m) more ∙ put_has (names_of old) c.args.name.now m

pub returns-else-not-is_used : goal.returns-else-not-is_used
returns-else-not-is_used c = λ m. kept_has (names_of c.args.used.now.keys) c.args.name.now m (sym c.is_used.ensures ∙ c.if-not-is_used.false)
