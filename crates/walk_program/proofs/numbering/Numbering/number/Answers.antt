use Rattle.std.proofs.Common.{◌∙◌, ap}
use Rattle.walk_program.specs.Names.{listed}
use Rattle.walk_program.specs.Numbering.{Table}
use Rattle.walk_program.proofs.Keys.{key_is, keys_listed, key_below, key_reads}
use Rattle.walk_program.proofs.Parts.{ok_at}
use Rattle.walk_program.proofs.Tables.{one_numbered}
use Rattle.walk_program.proofs.numbering.Numbering.number.Goals as goal

pub returns : goal.returns
returns c =
    let n = c.args.name.now in
    let key = c.key_of.result in
    let is = key_is key n c.key_of.ensures.text c.key_of.ensures.made in
    let kept = c.in_ok-index.ensures.stored in
    ok_at c.narrow.result _ c.in_ok-index.index c.narrow.ensures
    (one_numbered c.in_ok-index.index n c.args.self.now _
    (keys_listed key n c.self.inside.keys.keys c.insert_full.new.self.keys is c.in_ok-index.ensures.keys ∙ ap (λ (t : Table). listed t.names n) c.self.view_is)
    (ap (λ (t : Table). t.width) c.self.view_is)
    (key_below c.insert_full.new.self.keys c.in_ok-index.index kept.0 kept.1)
    (key_reads key n c.insert_full.new.self.keys c.in_ok-index.index kept.0 is kept.1 kept.2))
