use Rattle.std.proofs.Common.{◌≡◌, ◌∙◌, sym, ap, length, arith}
use Rattle.std.specs.List.{list_all}
use Rattle.num_row.specs.Decimals.{is_decimal}
use Rattle.mem_image.specs.Lines.{words}
use Rattle.mem_image.specs.Forms.{count_of, range_of_kind, numbers_in, are_between}
use Rattle.mem_image.proofs.Rules.{form_decimal, breaks_first, breaks_second, breaks_third, breaks_fourth, breaks_none, same_count, other_count}
use Rattle.mem_image.proofs.forms.broken_rule.Goals as goal

pub returns-then-not-has_form : goal.returns-then-not-has_form
returns-then-not-has_form c = sym (breaks_first _ _ (sym c.has_form.ensures ∙ c.if-not-has_form.true))

pub returns-then-not-is_named : goal.returns-then-not-is_named
returns-then-not-is_named c = sym (breaks_second c.args.arg.now (words c.args.line.now) (sym c.has_form.ensures ∙ c.if-not-has_form.false) (sym c.is_named.ensures ∙ c.if-not-is_named.true))

pub returns-then-count_words-count_of : goal.returns-then-count_words-count_of
returns-then-count_words-count_of c =
    let f = sym c.has_form.ensures ∙ c.if-not-has_form.false in
    let n = sym c.is_named.ensures ∙ c.if-not-is_named.false in
    let e : c.count_words.result ≡ length (numbers_in (words c.args.line.now)) = c.count_words.ensures.value ∙ ap length c.numbers_in-numbers.ensures.value in
    let k = other_count (length (numbers_in (words c.args.line.now))) (count_of c.args.arg.now.kind) c.count_of.result c.count_of.ensures (λ q. c.if-count_words-count_of.true (e ∙ q)) (omega arith) in
    sym (breaks_third c.args.arg.now (words c.args.line.now) f n k)

pub are_between-requires : goal.are_between-requires
are_between-requires c =
    let f = sym c.has_form.ensures ∙ c.if-not-has_form.false in
    ap (list_all is_decimal) c.numbers_in-numbers.ensures.value ∙ form_decimal (words c.args.line.now) f

pub returns-then-not-are_between : goal.returns-then-not-are_between
returns-then-not-are_between c =
    let f = sym c.has_form.ensures ∙ c.if-not-has_form.false in
    let n = sym c.is_named.ensures ∙ c.if-not-is_named.false in
    let e : c.count_words.result ≡ length (numbers_in (words c.args.line.now)) = c.count_words.ensures.value ∙ ap length c.numbers_in-numbers.ensures.value in
    let k = same_count (length (numbers_in (words c.args.line.now))) (count_of c.args.arg.now.kind) (omega arith) (sym e ∙ c.if-count_words-count_of.false ∙ c.count_of.ensures) in
    let r = c.are_between.ensures ∙ ap (λ range. are_between range (words c.numbers_in-numbers.result.now)) c.range_of.ensures ∙ ap (are_between (range_of_kind c.args.arg.now.kind)) c.numbers_in-numbers.ensures.value in
    sym (breaks_fourth c.args.arg.now (words c.args.line.now) f n k (sym r ∙ c.if-not-are_between.true))

pub returns : goal.returns
returns c =
    let f = sym c.has_form.ensures ∙ c.if-not-has_form.false in
    let n = sym c.is_named.ensures ∙ c.if-not-is_named.false in
    let e : c.count_words.result ≡ length (numbers_in (words c.args.line.now)) = c.count_words.ensures.value ∙ ap length c.numbers_in-numbers.ensures.value in
    let k = same_count (length (numbers_in (words c.args.line.now))) (count_of c.args.arg.now.kind) (omega arith) (sym e ∙ c.if-count_words-count_of.false ∙ c.count_of.ensures) in
    let r = c.are_between.ensures ∙ ap (λ range. are_between range (words c.numbers_in-numbers.result.now)) c.range_of.ensures ∙ ap (are_between (range_of_kind c.args.arg.now.kind)) c.numbers_in-numbers.ensures.value in
    sym (breaks_none c.args.arg.now (words c.args.line.now) f n k (sym r ∙ c.if-not-are_between.false))
