use Rattle.std.proofs.Common.{◌≡◌, [], ◌∷◌, ◌++◌, ◌∙◌, sym, ap, map, to_z, of_z, SFits, rules}
use Rattle.std.specs.Int.{w64}
use Rattle.std.proofs.lemmas.Int.{to_z-of_z}
use Rattle.num_row.specs.Decimals.{decimal_value}
use Rattle.mem_image.specs.Lines.{words}
use Rattle.mem_image.proofs.Numbers.{rest_decimal, first_between, rest_between, true_no, pushed}
use Rattle.mem_image.proofs.forms.read_values.Goals as goal

pub loop-word-preserved-in_ok-push : goal.loop-word-preserved-in_ok-push
loop-word-preserved-in_ok-push c =
    let k : to_z w64 (of_z w64 c.in-Some-read_value.value) ≡ c.in-Some-read_value.value = (let f : SFits w64 c.in-Some-read_value.value = search rules in to_z-of_z w64 _ f) in
    record {
      decimal = rest_decimal _ _ _ c.in-Some.ensures.0 c.loop-word.invariant.decimal;
      between = rest_between _ _ _ _ c.in-Some.ensures.0 c.loop-word.invariant.between;
      same = c.loop-word.invariant.same ∙ ap (λ line. c.loop-word.values ++ map decimal_value line) c.in-Some.ensures.0 ∙ pushed c.loop-word.values c.push.new.self (map decimal_value (words c.in-Some.more.now)) (decimal_value c.in-Some.word.now) (c.in_ok-push.ensures.ok ∙ ap (λ z. c.loop-word.values ++ z ∷ []) (k ∙ c.in-Some-read_value.ensures.1));
    }

pub loop-word-preserved : goal.loop-word-preserved
loop-word-preserved c =
    absurd (true_no (sym (first_between c.args.range _ _ _ c.in-Some.ensures.0 c.loop-word.invariant.between) ∙ c.in_default-read_value.ensures))
