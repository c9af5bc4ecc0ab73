use Rattle.std.proofs.Common.{rules, arith, ◌≡◌, ◌++◌, ◌<◌, length, get_or, ℤ, pos, FitsSigned, refl}
use Rattle.std.proofs.lemmas.Int.{to_z-of_z}
use Rattle.std.proofs.lemmas.Result.{on_ok_weaker}
use Rattle.std.specs.Int.{w128}
use Rattle.region_texts.specs.Text.{term_text, stands_behind}
use Rattle.region_texts.proofs.Places.{place_goes_on, place_stops, place_ends}
use Rattle.region_texts.proofs.text.put_place.Goals as goal

pub returns-then-place-names : goal.returns-then-place-names
returns-then-place-names c =
    let f : FitsSigned w128 c.args.constant = c.ranges.constant in
    let inv = simp to_z-of_z at c.loop-place.invariant in
    let end = simp to_z-of_z at c.put_end.ensures in
    on_ok_weaker c.put_end.result (λ e. place_stops c.args.names.now c.args.coefs.now c.args.constant c.loop-place.place c.loop-place.begun c.args.out.now.items c.loop-place.out.items c.put_end.new.out.items (omega arith) e inv) end

pub loop-place-preserved : goal.loop-place-preserved
loop-place-preserved c =
    let k = c.loop-place.place in
    let a : ℤ = get_or c.args.coefs.now k (pos 0) in
    let n = c.index-names-place.result in
    let h : k < length c.args.names.now = omega arith in
    let g : k < length c.args.coefs.now = omega arith in
    let text : c.put_term.new.out.items ≡ c.loop-place.out.items ++ term_text c.loop-place.begun n a = search (rules, to_z-of_z) in
    let now : c.in_ok-begun.begun ≡ stands_behind c.loop-place.begun a = search (rules, to_z-of_z) in
    let f : FitsSigned w128 c.args.constant = c.ranges.constant in
    let inv = simp to_z-of_z at c.loop-place.invariant in
    simp to_z-of_z (place_goes_on c.args.names.now c.args.coefs.now c.args.constant k n a c.loop-place.begun c.in_ok-begun.begun c.args.out.now.items c.loop-place.out.items c.put_term.new.out.items h g c.index-names-place.is refl now text inv)

pub returns : goal.returns
returns c =
    let f : FitsSigned w128 c.args.constant = c.ranges.constant in
    let inv = simp to_z-of_z at c.loop-place.invariant in
    let end = simp to_z-of_z at c.put_end-2.ensures in
    on_ok_weaker c.put_end-2.result (λ e. place_ends c.args.names.now c.args.coefs.now c.args.constant c.loop-place.place c.loop-place.begun c.args.out.now.items c.loop-place.out.items c.put_end-2.new.out.items (omega arith) e inv) end
