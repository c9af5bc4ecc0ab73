use Rattle.std.proofs.Common.{◌≡◌, ◌∷◌, ◌++◌, [], map, length, ◌∙◌, ap, sym, subst}
use Rattle.std.proofs.lemmas.List.{length-map, map-append}
use Rattle.name_table.specs.Numbers.{with_number, TellsPlaces}
use Rattle.name_table.proofs.Numbering.{tells_more}
use Rattle.name_table.proofs.named.NamedItems.push.Goals as goal

pub invariant_of-self-in-Ok : goal.invariant_of-self-in-Ok
invariant_of-self-in-Ok g c =
    let name = g.T.Named.name in
    let items = c.self.inside.items in
    let w = name c.args.item in
    let is : c.in_ok-name.name.items ≡ w = c.in_ok-name.ensures.items ∙ c.name.ensures in
    let place : c.len-place.result ≡ length (map name items) = c.len-place.ensures ∙ sym (length-map items name) in
    let told = c.in-Ok.ensures.ok ∙ ap (λ v. with_number v c.len-place.result c.self.inside.places) is ∙ ap (λ n. with_number w n c.self.inside.places) place in
    let all : map name c.push.new.self ≡ map name items ++ w ∷ [] = ap (map name) c.in_ok-push.ensures.ok ∙ map-append name items (c.args.item ∷ []) in
    subst (λ es. TellsPlaces es (map name c.push.new.self)) (sym told) (subst (λ ts. TellsPlaces (with_number w (length (map name items)) c.self.inside.places) ts) (sym all) (tells_more c.self.inside.places (map name items) w c.self.invariant))
